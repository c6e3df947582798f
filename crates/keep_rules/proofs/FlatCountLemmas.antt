-- The numbers of a document's statements in one list are what is counted before each.
--
-- Theorem: `document_counts`: the statements, key parts and values that are counted before a statement.
use Rattle.std.proofs.Common.{◌≡◌, ℕ, zero, suc, ◌+◌, List, [], ◌∷◌, ◌++◌, length, map, take, slice_get, refl, sym, ◌∙◌}
use Rattle.std.proofs.Common.{subst, arith, Option, Some, None}
use Rattle.std.specs.List.{filter_map, cons_option}
use Rattle.std.proofs.lemmas.List.{append-nil, length-take}
use Rattle.std.proofs.lemmas.Option.{slice_get_within}
use Rattle.keep_types.specs.declared.syntax.Statement.{Statement}
use Rattle.keep_syntax.specs.Tree.{Content, blank, keyval, header, element, Line, Ended, Document, line_leaves}
use Rattle.keep_syntax.specs.Tree.{ended_leaves}
use Rattle.keep_syntax.specs.Numbered as syntax
use Rattle.keep_syntax.specs.Numbered.{width, over_lines, line_statements, content_statements, content_parts}
use Rattle.keep_syntax.specs.Numbered.{content_values, content_start, line_start, next_line, first_line}
use Rattle.keep_meaning.specs.Marks as marks
use Rattle.keep_meaning.specs.Marks.{Mention, Reading, statement_mentions, next_reading, start}
use Rattle.keep_meaning.specs.Meaning.{statement_of, line_of}
use Rattle.keep_meaning.specs.Counts.{Count, next_count, count_from, no_count, line_statement, statements_in}
use Rattle.keep_rules.specs.FlatStatements.{IsCountBefore}
use Rattle.keep_meaning.proofs.Shared.{marked-content, valued, valued-content, count_after-keys, count_after-values}
use Rattle.keep_meaning.proofs.Shared.{count_from-statements, statements-count}

-- the key parts and values before a statement
pub record Before (c : Count) (st : Statement) : Type 0 where
  pub keys : c.keys ≡ st.first_key
  pub values : (first : ℕ) → st.value ≡ Some first → c.values ≡ first

-- these statements of the list follow what is counted
abbrev AllCount : Count → Reading → List Statement → List marks.Statement → Type 0
AllCount c r sts ss = (i : ℕ) (st : Statement) → slice_get sts i ≡ Some st → Before (count_from c r (take i ss)) st

none_count : (c : Count) (r : Reading) (ss : List marks.Statement) → AllCount c r [] ss
none_count c r ss i st e = absurd (omega (arith, slice_get_within [] i st e))

one_counts : (c : Count) (r : Reading) (st : Statement) (s : marks.Statement) (sts : List Statement)
    (ss : List marks.Statement) → Before c st
    → AllCount (next_count c (statement_mentions r s)) (next_reading r s) sts ss → AllCount c r (st ∷ sts) (s ∷ ss)
one_counts c r st s sts ss here more zero x e = subst (Before c) (let same : st ≡ x = cc in same) here
one_counts c r st s sts ss here more (suc i) x e = more i x e

-- the places of both counts are the same
pub record Agrees (c : Count) (k : syntax.Count) : Type 0 where
  pub keys : c.keys ≡ k.parts
  pub values : c.values ≡ k.values

-- a statement with so many key parts and values, and then those after it
statement_counts : (k : syntax.Count) (c : Count) (r : Reading) (st : Statement) (s : marks.Statement)
    (sts : List Statement) (ss : List marks.Statement) (parts values : ℕ) → Agrees c k
    → st.first_key ≡ k.parts → ((first : ℕ) → st.value ≡ Some first → first ≡ k.values)
    → length (marks.marks (statement_mentions r s)) ≡ parts → valued (statement_mentions r s) ≡ values
    → ((d : Count) (q : Reading) → d.keys ≡ k.parts + parts → d.values ≡ k.values + values → AllCount d q sts ss)
    → AllCount c r (st ∷ sts) (s ∷ ss)
statement_counts k c r st s sts ss parts values agrees keyed facts keys mentioned more =
    let ms : List Mention = statement_mentions r s in
    one_counts c r st s sts ss (record {
      keys = agrees.keys ∙ sym keyed;
      values = λ first e. agrees.values
          ∙ sym (facts first e);
    })
    (more (next_count c ms) (next_reading r s) (omega (arith, count_after-keys c ms, keys, agrees.keys))
    (omega (arith, count_after-values c ms, mentioned, agrees.values)))

no_value : (n m : ℕ) → ◌≡◌ {A = Option ℕ} None (Some n) → n ≡ m
no_value n m e = absurd cc

own_value : (n m : ℕ) → ◌≡◌ {A = Option ℕ} (Some m) (Some n) → n ≡ m
own_value n m e = cc

-- a line, and then those after it
content_counts : (k : syntax.Count) (l : Line) (line_end : ℕ) (x : Content) (c : Count) (r : Reading)
    (sts : List Statement) (ss : List marks.Statement) → Agrees c k
    → ((d : Count) (q : Reading) → d.keys ≡ k.parts + length (content_parts (content_start k l) x)
    → d.values ≡ k.values + length (content_values (line_start k l) x) → AllCount d q sts ss)
    → AllCount c r (content_statements k l line_end x ++ sts) (cons_option (statement_of x) ss)
content_counts k l line_end blank c r sts ss agrees more =
    more c r (omega (arith, agrees.keys)) (omega (arith, agrees.values))
content_counts k l line_end (keyval name v) c r sts ss agrees more =
    statement_counts k c r _ _ sts ss _ _ agrees refl (λ n e. own_value n k.values e)
    (marked-content r (content_start k l) (keyval name v)) (valued-content r (line_start k l) (keyval name v)) more
content_counts k l line_end (header before key after) c r sts ss agrees more =
    statement_counts k c r _ _ sts ss _ _ agrees refl (λ n e. no_value n k.values e)
    (marked-content r (content_start k l) (header before key after))
    (valued-content r (line_start k l) (header before key after)) more
content_counts k l line_end (element before key after) c r sts ss agrees more =
    statement_counts k c r _ _ sts ss _ _ agrees refl (λ n e. no_value n k.values e)
    (marked-content r (content_start k l) (element before key after))
    (valued-content r (line_start k l) (element before key after)) more

lines_count : (k : syntax.Count) (es : List Ended) (last : Line) (c : Count) (r : Reading) → Agrees c k
    → AllCount c r (over_lines line_statements k es last) (filter_map line_statement (map line_of es ++ last ∷ []))
lines_count k [] last c r agrees =
    subst (λ (sts : List Statement). AllCount c r sts (filter_map line_statement (last ∷ [])))
    (append-nil (line_statements k last (k.at + width (line_leaves last))))
    (content_counts k last (k.at + width (line_leaves last)) last.content c r [] [] agrees
    (λ d q keys values. none_count d q []))
lines_count k (e ∷ es) last c r agrees =
    content_counts k e.line (k.at + width (ended_leaves e)) e.line.content c r
    (over_lines line_statements (next_line k e) es last) (filter_map line_statement (map line_of es ++ last ∷ []))
    agrees
    (λ d q keys values. lines_count (next_line k e) es last d q (record { keys = keys; values = values }))

-- What is counted before the statement of a number, of statements, values and key parts.
pub document_counts : (d : Document) (i : ℕ) (st : Statement) → slice_get (syntax.statements d) i ≡ Some st
    → IsCountBefore i st (count_from no_count start (take i (statements_in d)))
document_counts d i st at =
    let before : Before (count_from no_count start (take i (statements_in d))) st =
    lines_count (first_line d) d.ended d.last no_count start (record { keys = refl; values = refl }) i st at in
    record {
      statements =
          omega (
            arith,
            count_from-statements no_count start (take i (statements_in d)),
            length-take i (statements_in d),
            statements-count d,
            slice_get_within (syntax.statements d) i st at,
          );
      keys = before.keys;
      values = before.values;
    }
