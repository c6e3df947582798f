-- A header that comes at the end of a document changes the index by what it says, with the numbers that come next.
--
-- The law of the append says that the new document has the header as its last statement, and so what is known of its
-- nodes is what was known with what the header says (`statement_is_known`). The syntax has as many statements and key
-- parts as are counted at the end (`numbers_at_end`). A machine word counts the key parts of the new document, since
-- each has a byte of the new text, of which two machine words count the old and what is written (`few_parts`).
--
-- Theorem: `header_changed`.
use Rattle.std.proofs.Common.{◌≡◌, ℕ, ◌+◌, ◌^◌, ◌<◌, ◌≤◌, Bor, List, [], ◌∷◌, ◌++◌, length, take, drop, sym, ap, subst}
use Rattle.std.proofs.Common.{◌∙◌, arith, Option, None, Some, Ok}
use Rattle.std.specs.Prelude.{String}
use Rattle.std.specs.Global.{Global}
use Rattle.std.specs.List.{cons_option}
use Rattle.std.proofs.lemmas.List.{length-append, length-drop, length-take}
use Rattle.keep_types.specs.declared.leaf.Profile.{Profile}
use Rattle.keep_syntax.specs.declared.syntax.Syntax.{Syntax}
use Rattle.keep_syntax.specs.Contract.{IsSyntaxOf, parts_of, statements_of}
use Rattle.keep_syntax.specs.Grammar.{Reads}
use Rattle.keep_syntax.specs.Numbered.{parts, statements}
use Rattle.keep_syntax.specs.Tree.{Document, text}
use Rattle.keep_syntax.proofs.Shared.{leaves_count}
use Rattle.keep_path.specs.NodeInfos.{NodeInfos}
use Rattle.keep_meaning.specs.Counts.{no_count, statements_in}
use Rattle.keep_meaning.specs.Marks.{Mention, mark_of, marks, start}
use Rattle.keep_meaning.specs.Meaning.{mentions_in}
use Rattle.keep_meaning.specs.Rules.{Mark}
use Rattle.keep_meaning.specs.StatementsMore.{AreNumbersAtEnd, HasStatementMore}
use Rattle.keep_meaning.proofs.Shared.{count_from-keys, count_from-statements, marked-parts, mentions_few}
use Rattle.keep_meaning.proofs.Shared.{mentions_in-statements, statements-count}
use Rattle.keep_rules.specs.ReadDocuments.{IsIndexOf}
use Rattle.keep_rules.specs.StatementsKnown.{IsHeader}
use Rattle.keep_rules.proofs.Shared.{statement_is_nested, statement_is_known}
use Rattle.keep_edit_spec.specs.Changed.{Place, put}
use Rattle.keep_edit_spec.specs.Edits.{edited_document, place}
use Rattle.keep_edit_spec.specs.Laws.{IsLawfulEdit}
use Rattle.keep_edit_spec.proofs.Shared.{append_element_adds_statement, append_table_adds_statement}
use Rattle.keep_edit_plan.specs.Answers.{refusal_in}
use Rattle.keep_edit_plan.specs.Headers.{edit_of, key_texts, statement_of}
use Rattle.keep_edit_plan.specs.IndexChanges.{IsIndexChange}
use Rattle.keep_edit_plan.specs.Places.{IsDoneAt}
use Rattle.keep_edit_plan.specs.Reading.{limit, ProfiledText, Holds, IsTextOfTree, telling_in}
use Rattle.keep_edit_plan.specs.declared.header.Header.{Header}
use Rattle.keep_edit_plan.specs.declared.header.Header.TheVariants.{Table, Element}
use Rattle.keep_edit_plan.specs.declared.plan.IndexChange.TheVariants as change
use Rattle.keep_edit_plan.proofs.AnswerLaws.{index_of, stated_is, tree_is}
use Rattle.keep_edit_plan.proofs.AppendDone.{end_span, keys_utf8, law_of}

-- the numbers of a header at the end are how many statements and key parts there are
numbers_at_end : (s : Document) (statement key : ℕ) → statement ≡ length (statements s) → key ≡ length (parts s)
    → AreNumbersAtEnd s statement key
numbers_at_end s statement key e f = record {
  statements = omega (arith, e, count_from-statements no_count start (statements_in s), statements-count s);
  keys = omega (
    arith,
    f,
    count_from-keys no_count start (statements_in s),
    ap (λ (ms : List Mention). length (marks ms)) (mentions_in-statements s),
    marked-parts s,
  );
}

its_header : (header : Header) (keys : List (List ℕ)) → IsHeader (statement_of header keys)
its_header Table keys = tt
its_header Element keys = tt

its_statement : (d : ProfiledText) (s : Document) (header : Header) (keys : List (String Global))
    → refusal_in d s (edit_of header (key_texts keys)) ≡ None
    → HasStatementMore s (statement_of header (key_texts keys)) (edited_document s (edit_of header (key_texts keys)))
its_statement d s Table keys allowed =
    append_table_adds_statement d.profile limit s (key_texts keys) (keys_utf8 keys) allowed
its_statement d s Element keys allowed =
    append_element_adds_statement d.profile limit s (key_texts keys) (keys_utf8 keys) allowed

-- ---- a document has no more key parts than bytes

one_more : (o : Option Mark) (ms : List Mark) → length (cons_option o ms) ≤ length ms + 1
one_more None ms = omega arith
one_more (Some m) ms = omega arith

marks_few : (ms : List Mention) → length (marks ms) ≤ length ms
marks_few [] = omega arith
marks_few (m ∷ ms) = omega (arith, one_more (mark_of m) (marks ms), marks_few ms)

few_parts : (profile : Profile) (depth : ℕ) (bytes : List ℕ) (s : Document) → Reads profile depth bytes s
    → length (parts s) ≤ length bytes
few_parts profile depth bytes s reads =
    omega (arith, marked-parts s, marks_few (mentions_in s), mentions_few s, leaves_count profile depth bytes s reads)

-- ---- the edit

module _ (d : ProfiledText) (syntax : Syntax) (index : NodeInfos) (s : Document) (holds : Holds d syntax index)
    (read : IsTextOfTree d s) (header : Header) (keys : Bor (List (String Global))) (given : List ℕ)
    (at : IsDoneAt s (edit_of header (key_texts keys.now)) d given (Ok (end_span d))) where
  abbrev new : Document
  new = edited_document s (edit_of header (key_texts keys.now))

  law : IsLawfulEdit d.profile limit s (edit_of header (key_texts keys.now))
  law = law_of d s header keys.now read at.0

  more : HasStatementMore s (statement_of header (key_texts keys.now)) new
  more = its_statement d s header keys.now at.0

  -- the old text and what is written are the new text
  new_size : length (put (text s) (place s (edit_of header (key_texts keys.now)))) ≡ length d.text + length given
  new_size =
      let size : length d.text ≡ length (text s) = ap length read.reads.spelled in
      let n : ℕ = length d.text in
      omega (
        arith,
        size,
        ap (λ (p : Place). length (put (text s) p)) at.1,
        length-append (take n (text s)) (given ++ drop n (text s)),
        length-append given (drop n (text s)),
        length-take n (text s),
        length-drop n (text s),
      )

  pub header_changed : length d.text + length given < 2 ^ 64 → (statement key : ℕ)
      → statement ≡ length (statements_of syntax) → key ≡ length (parts_of syntax)
      → IsIndexChange s new (change.AppendedHeader header keys statement key)
  header_changed few statement key counted numbered =
      let is : IsSyntaxOf syntax s = subst (IsSyntaxOf syntax) (tree_is d syntax index s holds read) holds.is in
      let old : IsIndexOf s (telling_in s) =
      subst (IsIndexOf s) (stated_is d syntax index s holds read) (index_of d syntax index s holds read) in
      let numbers : AreNumbersAtEnd s statement key =
      numbers_at_end s statement key (counted ∙ ap length is.statements) (numbered ∙ ap length is.parts) in
      let low : length (parts new) < 2 ^ 64 =
      omega (
        arith,
        few,
        new_size,
        few_parts d.profile limit (put (text s) (place s (edit_of header (key_texts keys.now)))) new law.reads,
      ) in
      let its : IsHeader (statement_of header (key_texts keys.now)) = its_header header (key_texts keys.now) in
      record {
        can = (s, old, numbers);
        facts = λ u is. is s old numbers
            ∙ sym (statement_is_known s new (statement_of header (key_texts keys.now)) its more low);
        nested = statement_is_nested s new (statement_of header (key_texts keys.now)) its more law.obeys old.nested;
      }
