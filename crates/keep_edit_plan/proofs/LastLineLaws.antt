-- A line that comes as the last statement has the last node.
--
-- The number of its statement is how many come before it. So where that is how many the syntax has, nothing comes
-- after the line (`nothing_after`), and the law of keep_rules says what is known of the nodes (`last_line_is_known`). A
-- machine word counts the key parts of the new document: it has one more than the old (`one_part_more`), whose key
-- parts the syntax holds in a vector (`few_stored`).
--
-- Theorem: `last_line_told`.
use Rattle.std.proofs.Common.{◌≡◌, ◌+◌, ◌^◌, ◌<◌, false, List, [], ◌∷◌, ◌++◌, length, refl, sym, ap, ◌∙◌, arith}
use Rattle.std.proofs.lemmas.List.{append-nil, length-append, nil_from_length}
use Rattle.keep_syntax_store.specs.Blocks.{raise_key}
use Rattle.keep_syntax_store.specs.Flat.{unpacked_key_part}
use Rattle.keep_syntax_store.proofs.EntryLaws.{entries_length}
use Rattle.keep_syntax.specs.declared.syntax.Syntax.{Syntax}
use Rattle.keep_syntax.specs.Contract.{IsSyntaxOf, parts_of, statements_of}
use Rattle.keep_syntax.specs.Numbered.{parts}
use Rattle.keep_syntax.specs.Tree.{Document}
use Rattle.keep_path.specs.NodeInfos.{line_info, with_last}
use Rattle.keep_path.specs.Path.{key}
use Rattle.keep_meaning.specs.Counts.{Count, count_from, next_count, no_count, statements_in}
use Rattle.keep_meaning.specs.LinesMore.{HasLineMore, numbers_after, path_after}
use Rattle.keep_meaning.specs.Marks.{Mention, Reading, Statement, keyval, marks, next_reading, reading_after, start}
use Rattle.keep_meaning.specs.Marks.{statement_mentions, value}
use Rattle.keep_meaning.specs.Meaning.{mentions_in}
use Rattle.keep_meaning.specs.Nodes.{fact_kind, is_node}
use Rattle.keep_meaning.specs.StatementsMore.{count_at_end}
use Rattle.keep_meaning.proofs.Shared.{count_from-keys, count_from-statements, marked-parts, mentions_in-statements}
use Rattle.keep_meaning.proofs.Shared.{statements-count}
use Rattle.keep_rules.proofs.Shared.{last_line_is_known}
use Rattle.keep_edit_plan.specs.Reading.{telling_in}

-- ---- a machine word counts the key parts

-- of the old document, since a vector has less than 2 ^ 63
few_stored : (syntax : Syntax) → length (parts_of syntax) < 2 ^ 63
few_stored syntax =
    let keys = syntax.parts.keys in
    omega (
      arith,
      keys.packed.ok.0,
      keys.packed.ok.1,
      keys.packed.small,
      entries_length unpacked_key_part raise_key keys,
    )

-- what is counted with one statement more
count_with : (c : Count) (r : Reading) (ss : List Statement) (s : Statement)
    → count_from c r (ss ++ s ∷ []) ≡ next_count (count_from c r ss) (statement_mentions (reading_after r ss) s)
count_with c r [] s = refl
count_with c r (t ∷ ss) s = count_with (next_count c (statement_mentions r t)) (next_reading r t) ss s

-- as many key parts as are counted at the end
parts_at_end : (s : Document) → (count_at_end s).keys ≡ length (parts s)
parts_at_end s =
    omega (
      arith,
      count_from-keys no_count start (statements_in s),
      ap (λ (ms : List Mention). length (marks ms)) (mentions_in-statements s),
      marked-parts s,
    )

-- ---- the line

module _ (s more : Document) (line : HasLineMore s more) where
  abbrev own : Statement
  own = keyval (record { path = key line.text ∷ []; kind = value line.fact } ∷ [])

  nothing_after : (numbers_after line.before).statement ≡ length (statements_in s) → line.after ≡ []
  nothing_after counted =
      nil_from_length line.after (omega (
        arith,
        counted,
        count_from-statements no_count start line.before,
        ap (λ (ss : List Statement). length ss) line.old,
        length-append line.before line.after,
      ))

  one_part_more : line.after ≡ [] → length (parts more) ≡ length (parts s) + 1
  one_part_more last =
      let before : line.before ≡ statements_in s =
      sym (line.old ∙ ap (λ (ss : List Statement). line.before ++ ss) last ∙ append-nil line.before) in
      let new : count_at_end more ≡ next_count (count_at_end s)
      (statement_mentions (reading_after start (statements_in s)) own) =
      ap (count_from no_count start) (line.new ∙ ap (λ (ss : List Statement). line.before ++ own ∷ ss) last)
      ∙ ap (λ (ss : List Statement). count_from no_count start (ss ++ own ∷ [])) before
      ∙ count_with no_count start (statements_in s) own in
      omega (arith, ap (λ (c : Count). c.keys) new, parts_at_end s, parts_at_end more)

  -- what is known of the nodes with it, where its number is how many statements the syntax has
  pub last_line_told : (syntax : Syntax) → IsSyntaxOf syntax s
      → (numbers_after line.before).statement ≡ length (statements_of syntax)
      → is_node (path_after line.before line.text) (mentions_in s) ≡ false
      → telling_in more
      ≡ with_last (telling_in s) (path_after line.before line.text)
      (line_info (numbers_after line.before) (fact_kind line.fact))
  last_line_told syntax is counted fresh =
      let last : line.after ≡ [] =
      nothing_after (counted ∙ ap (λ l. length l) is.statements ∙ sym (statements-count s)) in
      last_line_is_known s more line last fresh
      (omega (arith, one_part_more last, few_stored syntax, ap (λ l. length l) is.parts))
