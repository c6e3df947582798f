-- The numbers of a keyval's line that is put in, at the end of a body or after another keyval's line, are how many
-- statements, values and key parts come before it.
--
-- They are counted along the statements (`count_from`), and the syntax has them at the next statement, or, of values,
-- at the next that has one, since a header has no value (`content_next`). After the last statement they are all.
--
-- Theorems: `numbers_counted`: at the end of a body; `numbers_past_line`: after a line.
use Rattle.std.proofs.Common.{◌≡◌, ℕ, zero, suc, ◌+◌, ◌≤◌, ◌<◌, List, [], ◌∷◌, ◌++◌, length, map, take, drop, slice_get}
use Rattle.std.proofs.Common.{refl, sym, ap, subst, ◌∙◌, arith, Option, Some, None}
use Rattle.std.specs.List.{filter_map, cons_option}
use Rattle.std.proofs.lemmas.List.{append-nil, length-append, length-drop, length-take}
use Rattle.std.proofs.lemmas.Option.{slice_get_within}
use Rattle.keep_types.specs.declared.syntax.KeyPart.{KeyPart}
use Rattle.keep_types.specs.declared.syntax.Owner.TheVariants as owner
use Rattle.keep_types.specs.declared.syntax.Statement.{Statement as Listed}
use Rattle.keep_types.specs.declared.syntax.StatementKind.{StatementKind}
use Rattle.keep_types.specs.declared.syntax.StatementKind.TheVariants as kind
use Rattle.keep_types.specs.declared.syntax.ValueInfo.{ValueInfo}
use Rattle.keep_syntax.specs.declared.syntax.Syntax.{Syntax}
use Rattle.keep_syntax.specs.Contract.{IsSyntaxOf, parts_of, statements_of, values_of}
use Rattle.keep_syntax.specs.Numbered as syntax
use Rattle.keep_syntax.specs.Numbered.{width, over_lines, line_statements, line_parts, line_values, content_statements}
use Rattle.keep_syntax.specs.Numbered.{content_parts, content_values, content_start, line_start, next_line, first_line}
use Rattle.keep_syntax.specs.Tree.{Content, blank, keyval, header, element, Line, Ended, Document, line_leaves}
use Rattle.keep_syntax.specs.Tree.{ended_leaves}
use Rattle.keep_path.specs.NodeInfos.{NodeInfos, LineNumbers}
use Rattle.keep_path.specs.Path.{Part}
use Rattle.keep_index_store.specs.declared.renumbering.LineNumbers.{LineNumbers as Numbers}
use Rattle.keep_index_store.specs.Renumbering.{numbers_of}
use Rattle.keep_meaning.specs.Counts.{Count, next_count, count_from, no_count, line_statement, statements_in}
use Rattle.keep_meaning.specs.LinesMore.{numbers_after}
use Rattle.keep_meaning.specs.Marks as marks
use Rattle.keep_meaning.specs.Marks.{Mention, Reading, Statement, statement_mentions, next_reading, start}
use Rattle.keep_meaning.specs.Meaning.{keys_of, keyval_mentions, line_of, statement_of}
use Rattle.keep_meaning.proofs.Shared.{marked-content, valued-content, count_after-keys, count_after-values}
use Rattle.keep_meaning.proofs.Shared.{count_from-statements, statements-count, valued}
use Rattle.keep_edit_spec.specs.Insertion.{body_count, next_statement}
use Rattle.keep_edit_spec.proofs.Shared.{EndsBefore, count_few, header_ends, headed_within, root_ends}
use Rattle.keep_edit_plan.specs.Inserting.{IsKeyvalSpot}
use Rattle.keep_edit_plan.specs.LineNumbers.{AreNumbersAfter, AreNumbersPast, IsOnLine, next_key, next_value}
use Rattle.keep_edit_plan.specs.Reading.{Holds, ProfiledText, IsTextOfTree}
use Rattle.keep_edit_plan.specs.declared.insert.Spot.TheVariants.{AfterBody}
use Rattle.keep_edit_plan.proofs.AnswerLaws.{tree_is}
use Rattle.keep_edit_plan.proofs.RemoveSteps.{from_here}

-- ---- what is counted before the statements that are left

record IsNext (c : Count) (left : List Listed) (keys values : ℕ) : Type 0 where
  key : c.keys ≡ next_key keys left
  value : c.values ≡ next_value values left

abbrev AllNext : Count → Reading → List Listed → List Statement → ℕ → ℕ → Type 0
AllNext c r listed ss keys values = (i : ℕ) → IsNext (count_from c r (take i ss)) (drop i listed) keys values

first_next : (c : Count) (r : Reading) (listed : List Listed) (ss : List Statement) (keys values : ℕ)
    → AllNext c r listed ss keys values → IsNext c listed keys values
first_next c r [] [] keys values h = h 0
first_next c r [] (s ∷ ss) keys values h = h 0
first_next c r (st ∷ listed) [] keys values h = h 0
first_next c r (st ∷ listed) (s ∷ ss) keys values h = h 0

none_next : (c : Count) (r : Reading) (keys values : ℕ) → c.keys ≡ keys → c.values ≡ values
    → AllNext c r [] [] keys values
none_next c r keys values k v zero = record { key = k; value = v }
none_next c r keys values k v (suc i) = record { key = k; value = v }

one_next : (c : Count) (r : Reading) (st : Listed) (s : Statement) (listed : List Listed) (ss : List Statement)
    (keys values : ℕ) → IsNext c (st ∷ listed) keys values
    → AllNext (next_count c (statement_mentions r s)) (next_reading r s) listed ss keys values
    → AllNext c r (st ∷ listed) (s ∷ ss) keys values
one_next c r st s listed ss keys values here more zero = here
one_next c r st s listed ss keys values here more (suc i) = more i

-- a header, and then the statements after it
header_next : (c : Count) (r : Reading) (st : Listed) (s : Statement) (listed : List Listed) (ss : List Statement)
    (keys values : ℕ) → c.keys ≡ st.first_key → st.value ≡ None
    → valued (statement_mentions r s) ≡ 0
    → AllNext (next_count c (statement_mentions r s)) (next_reading r s) listed ss keys values
    → AllNext c r (st ∷ listed) (s ∷ ss) keys values
header_next c r st s listed ss keys values key none few more =
    let ms : List Mention = statement_mentions r s in
    let next : IsNext (next_count c ms) listed keys values =
    first_next (next_count c ms) (next_reading r s) listed ss keys values more in
    let same : c.values ≡ next_value values listed = omega (arith, next.value, count_after-values c ms, few) in
    one_next c r st s listed ss keys values (record {
      key = key;
      value = same ∙ sym (ap (λ (o : Option ℕ). elim o [ Some v ↦ v | None ↦ next_value values listed ]) none);
    }) more

-- a line, and then those after it
content_next : (k : syntax.Count) (l : Line) (line_end : ℕ) (x : Content) (c : Count) (r : Reading)
    (listed : List Listed) (ss : List Statement) (keys values : ℕ)
    → c.keys ≡ k.parts → c.values ≡ k.values
    → ((d : Count) (q : Reading) → d.keys ≡ k.parts + length (content_parts (content_start k l) x)
    → d.values ≡ k.values + length (content_values (line_start k l) x) → AllNext d q listed ss keys values)
    → AllNext c r (content_statements k l line_end x ++ listed) (cons_option (statement_of x) ss) keys values
content_next k l line_end blank c r listed ss keys values key value more =
    more c r (omega (arith, key)) (omega (arith, value))
content_next k l line_end (keyval name v) c r listed ss keys values key value more =
    let s : Statement = marks.keyval (keyval_mentions name v) in
    let ms : List Mention = statement_mentions r s in
    one_next c r _ s listed ss keys values (record { key = key; value = value })
    (more (next_count c ms) (next_reading r s)
    (omega (arith, key, count_after-keys c ms, marked-content r (content_start k l) (keyval name v)))
    (omega (arith, value, count_after-values c ms, valued-content r (line_start k l) (keyval name v))))
content_next k l line_end (header b y a) c r listed ss keys values key value more =
    let s : Statement = marks.header (keys_of y) in
    let ms : List Mention = statement_mentions r s in
    let few : valued ms ≡ 0 = valued-content r (line_start k l) (header b y a) in
    header_next c r _ s listed ss keys values key refl few
    (more (next_count c ms) (next_reading r s)
    (omega (arith, key, count_after-keys c ms, marked-content r (content_start k l) (header b y a)))
    (omega (arith, value, count_after-values c ms, few)))
content_next k l line_end (element b y a) c r listed ss keys values key value more =
    let s : Statement = marks.element_header (keys_of y) in
    let ms : List Mention = statement_mentions r s in
    let few : valued ms ≡ 0 = valued-content r (line_start k l) (element b y a) in
    header_next c r _ s listed ss keys values key refl few
    (more (next_count c ms) (next_reading r s)
    (omega (arith, key, count_after-keys c ms, marked-content r (content_start k l) (element b y a)))
    (omega (arith, value, count_after-values c ms, few)))

abbrev parts_from : syntax.Count → List Ended → Line → List KeyPart
parts_from k es last = over_lines (λ c l line_end. line_parts c l) k es last

abbrev values_from : syntax.Count → List Ended → Line → List ValueInfo
values_from k es last = over_lines (λ c l line_end. line_values c l) k es last

lines_next : (k : syntax.Count) (es : List Ended) (last : Line) (c : Count) (r : Reading) (keys values : ℕ)
    → c.keys ≡ k.parts → c.values ≡ k.values
    → k.parts + length (parts_from k es last) ≡ keys → k.values + length (values_from k es last) ≡ values
    → AllNext c r (over_lines line_statements k es last) (filter_map line_statement (map line_of es ++ last ∷ [])) keys
    values
lines_next k [] last c r keys values key value keys_are values_are =
    subst (λ (l : List Listed). AllNext c r l (filter_map line_statement (last ∷ [])) keys values)
    (append-nil (line_statements k last (k.at + width (line_leaves last))))
    (content_next k last (k.at + width (line_leaves last)) last.content c r [] [] keys values key value
    (λ d q e f. none_next d q keys values (e ∙ keys_are) (f ∙ values_are)))
lines_next k (e ∷ es) last c r keys values key value keys_are values_are =
    content_next k e.line (k.at + width (ended_leaves e)) e.line.content c r
    (over_lines line_statements (next_line k e) es last) (filter_map line_statement (map line_of es ++ last ∷ [])) keys
    values key value
    (λ d q f g. lines_next (next_line k e) es last d q keys values f g
    (omega (arith, keys_are, length-append (line_parts k e.line) (parts_from (next_line k e) es last)))
    (omega (arith, values_are, length-append (line_values k e.line) (values_from (next_line k e) es last))))

counts_at : (s : Document) (n : ℕ)
    → IsNext (count_from no_count start (take n (statements_in s))) (drop n (syntax.statements s))
    (length (syntax.parts s)) (length (syntax.values s))
counts_at s n =
    lines_next (first_line s) s.ended s.last no_count start (length (syntax.parts s)) (length (syntax.values s)) refl
    refl (omega arith) (omega arith) n

-- ---- the next statement, key part and value

count_by : (st : Listed) (listed : List Listed) (k : StatementKind) → st.kind ≡ k
    → body_count (st ∷ listed) ≡ elim k [ kind.KeyVal ↦ suc (body_count listed) | _ ↦ 0 ]
count_by st listed k e = ap (λ (x : StatementKind). elim x [ kind.KeyVal ↦ suc (body_count listed) | _ ↦ 0 ]) e

no_keyval : (st : Listed) (listed : List Listed) (k : StatementKind) → st.kind ≡ k → (k ≡ kind.KeyVal → ⊥)
    → body_count (st ∷ listed) ≡ 0
no_keyval st listed kind.KeyVal e other = absurd (other refl)
no_keyval st listed kind.Header e other = count_by st listed kind.Header e
no_keyval st listed kind.Element e other = count_by st listed kind.Element e

-- past one keyval more
pub count_over : (n m : ℕ) (st : Listed) (listed : List Listed) → slice_get listed n ≡ Some st → m ≡ suc n
    → st.kind ≡ kind.KeyVal → body_count (drop n listed) ≡ suc (body_count (drop m listed))
count_over n m st listed here next e =
    ap body_count (from_here listed n st here) ∙ count_by st (drop (suc n) listed) kind.KeyVal e
    ∙ ap (λ (k : ℕ). suc (body_count (drop k listed))) (sym next)

pub count_stops : (n : ℕ) (st : Listed) (listed : List Listed) → slice_get listed n ≡ Some st
    → (st.kind ≡ kind.KeyVal → ⊥) → body_count (drop n listed) ≡ 0
count_stops n st listed here other =
    ap body_count (from_here listed n st here) ∙ no_keyval st (drop (suc n) listed) st.kind refl other

pub key_here : (all n : ℕ) (st : Listed) (listed : List Listed) → slice_get listed n ≡ Some st
    → st.first_key ≡ next_key all (drop n listed)
key_here all n st listed here = ap (next_key all) (sym (from_here listed n st here))

value_by : (all n : ℕ) (st : Listed) (listed : List Listed) (o : Option ℕ) → slice_get listed n ≡ Some st → st.value ≡ o
    → next_value all (drop n listed) ≡ elim o [ Some v ↦ v | None ↦ next_value all (drop (suc n) listed) ]
value_by all n st listed o here e =
    ap (next_value all) (from_here listed n st here)
    ∙ ap (λ (o : Option ℕ). elim o [ Some v ↦ v | None ↦ next_value all (drop (suc n) listed) ]) e

pub value_here : (all n v : ℕ) (st : Listed) (listed : List Listed) → slice_get listed n ≡ Some st → st.value ≡ Some v
    → next_value all (drop n listed) ≡ v
value_here all n v st listed here e = value_by all n st listed (Some v) here e

-- past one header more
pub value_over : (all n m : ℕ) (st : Listed) (listed : List Listed) → slice_get listed n ≡ Some st → m ≡ suc n
    → st.value ≡ None → next_value all (drop n listed) ≡ next_value all (drop m listed)
value_over all n m st listed here next e =
    value_by all n st listed None here e ∙ ap (λ (k : ℕ). next_value all (drop k listed)) (sym next)

-- ---- the numbers of a line

same_numbers : (a b : LineNumbers) → a.statement ≡ b.statement → a.value ≡ b.value → a.key ≡ b.key → a ≡ b
same_numbers a b e f g =
    ap (λ (x : ℕ). record a { statement = x }) e ∙ ap (λ (x : ℕ). record b { value = x; key = a.key }) f
    ∙ ap (λ (x : ℕ). record b { key = x }) g

next_few : (head : Option ℕ) (listed : List Listed) → ((h : ℕ) → head ≡ Some h → h < length listed)
    → next_statement head listed ≤ length listed
next_few None listed within = count_few listed
next_few (Some h) listed within =
    omega (arith, within h refl, count_few (drop (suc h) listed), length-drop (suc h) listed)

header_listed : (a : List Part) (s : Document) (from : ℕ) (head : Option ℕ) → IsKeyvalSpot a s from (AfterBody head)
    → (h : ℕ) → head ≡ Some h → h < length (syntax.statements s)
header_listed a s from None spot h e = absurd cc
header_listed a s from (Some n) spot h e =
    let same : n ≡ h = cc in subst (λ (k : ℕ). k < length (syntax.statements s)) same (headed_within a s n spot.0)

pub header_in : (d : ProfiledText) (stored : Syntax) (index : NodeInfos) (s : Document) (a : List Part) (from : ℕ)
    (head : Option ℕ) → Holds d stored index → IsTextOfTree d s
    → IsKeyvalSpot a s from (AfterBody head) → (h : ℕ) → head ≡ Some h → h < length (statements_of stored)
header_in d stored index s a from head holds read spot h e =
    let is : IsSyntaxOf stored s = subst (IsSyntaxOf stored) (tree_is d stored index s holds read) holds.is in
    omega (arith, header_listed a s from head spot h e, ap (λ (l : List Listed). length l) is.statements)

ends_before : (a : List Part) (s : Document) (from : ℕ) (head : Option ℕ) → IsKeyvalSpot a s from (AfterBody head)
    → EndsBefore s a (next_statement head (syntax.statements s))
ends_before a s from None spot =
    subst (λ (p : List Part). EndsBefore s p (next_statement None (syntax.statements s))) (sym spot.0) (root_ends s)
ends_before a s from (Some n) spot = header_ends a s n spot.0

-- before a statement of the document
numbers_at : (stored : Syntax) (s : Document) (m : ℕ) (numbers : Numbers) → IsSyntaxOf stored s
    → m ≤ length (syntax.statements s) → numbers.statement ≡ m
    → numbers.value ≡ next_value (length (values_of stored)) (drop numbers.statement (statements_of stored))
    → numbers.key ≡ next_key (length (parts_of stored)) (drop numbers.statement (statements_of stored))
    → numbers_of numbers ≡ numbers_after (take m (statements_in s))
numbers_at stored s m numbers is few number value key =
    let left : drop numbers.statement (statements_of stored) ≡ drop m (syntax.statements s) =
    ap (λ (n : ℕ). drop n (statements_of stored)) number ∙ ap (drop m) is.statements in
    let next : IsNext (count_from no_count start (take m (statements_in s))) (drop m (syntax.statements s))
    (length (syntax.parts s)) (length (syntax.values s)) = counts_at s m in
    same_numbers (numbers_of numbers) (numbers_after (take m (statements_in s)))
    (let e : numbers.statement ≡ (count_from no_count start (take m (statements_in s))).statements =
    omega (
      arith,
      number,
      few,
      count_from-statements no_count start (take m (statements_in s)),
      length-take m (statements_in s),
      statements-count s,
    ) in e)
    (value ∙ ap (λ (l : List ValueInfo). next_value (length l) (drop numbers.statement (statements_of stored)))
    is.values ∙ ap (next_value (length (syntax.values s))) left ∙ sym next.value)
    (key ∙ ap (λ (l : List KeyPart). next_key (length l) (drop numbers.statement (statements_of stored))) is.parts
    ∙ ap (next_key (length (syntax.parts s))) left ∙ sym next.key)

pub numbers_counted : (d : ProfiledText) (stored : Syntax) (index : NodeInfos) (s : Document) (a : List Part) (from : ℕ)
    (head : Option ℕ) (numbers : Numbers) → Holds d stored index → IsTextOfTree d s
    → IsKeyvalSpot a s from (AfterBody head) → numbers.statement ≡ next_statement head (statements_of stored)
    → numbers.value ≡ next_value (length (values_of stored)) (drop numbers.statement (statements_of stored))
    → numbers.key ≡ next_key (length (parts_of stored)) (drop numbers.statement (statements_of stored))
    → AreNumbersAfter a s numbers
numbers_counted d stored index s a from head numbers holds read spot statement value key =
    let is : IsSyntaxOf stored s = subst (IsSyntaxOf stored) (tree_is d stored index s holds read) holds.is in
    let m : ℕ = next_statement head (syntax.statements s) in
    let ends : EndsBefore s a m = ends_before a s from head spot in
    record {
      line = ends.line;
      ends = ends.ends;
      counted =
          numbers_at stored s m numbers is (next_few head (syntax.statements s) (header_listed a s from head spot))
          (statement ∙ ap (next_statement head) is.statements) value key
          ∙ ap numbers_after (sym ends.counted);
    }

-- ---- after a keyval's line

module _ (d : ProfiledText) (stored : Syntax) (index : NodeInfos) (s : Document) (holds : Holds d stored index)
    (read : IsTextOfTree d s) (keyval_number line : ℕ) (on : IsOnLine s keyval_number line) where
  its_syntax : IsSyntaxOf stored s
  its_syntax = subst (IsSyntaxOf stored) (tree_is d stored index s holds read) holds.is

  its_value : slice_get (values_of stored) keyval_number ≡ Some on.own
  its_value = ap (λ (l : List ValueInfo). slice_get l keyval_number) its_syntax.values ∙ on.here

  pub keyval_within : keyval_number < length (values_of stored)
  keyval_within = slice_get_within (values_of stored) keyval_number on.own its_value

  module _ (info : ValueInfo) (there : slice_get (values_of stored) keyval_number ≡ Some info) where
    own_is : info ≡ on.own
    own_is = let same : Some info ≡ Some on.own = sym there ∙ its_value in cc

    pub on_some_line : ((n : ℕ) → info.owner ≡ owner.Line n → ⊥) → ⊥
    on_some_line none = none on.statement (ap (λ (i : ValueInfo). i.owner) own_is ∙ on.owned)

    module _ (statement : ℕ) (owned : info.owner ≡ owner.Line statement) where
      statement_is : statement ≡ on.statement
      statement_is =
          let same : owner.Line statement ≡ owner.Line on.statement =
          sym owned ∙ ap (λ (i : ValueInfo). i.owner) own_is ∙ on.owned in
          cc

      pub statement_within : statement < length (statements_of stored)
      statement_within =
          omega (arith, statement_is, on.within, ap (λ (l : List Listed). length l) its_syntax.statements)

      pub numbers_past_line : (numbers : Numbers) → numbers.statement ≡ suc statement
          → numbers.value ≡ next_value (length (values_of stored)) (drop numbers.statement (statements_of stored))
          → numbers.key ≡ next_key (length (parts_of stored)) (drop numbers.statement (statements_of stored))
          → AreNumbersPast line s numbers
      numbers_past_line numbers next value key =
          numbers_at stored s (suc on.statement) numbers its_syntax (omega (arith, on.within))
          (omega (arith, next, statement_is)) value key
          ∙ ap numbers_after (sym on.counted)
