-- What a value's leaf and text say of its path: the fact there, and whether it is an integer or a string.
--
-- The fact at a path is that of the body of its value. A body that is a scalar means what its leaf and its text mean
-- (`body_leaf_fact`), and an array or a table is known by its bracket. So the leaf alone tells whether the fact is an
-- integer (`integer_leaf`) or a string (`string_leaf`), by cases of the leaves.
--
-- Theorems: `fact_of_leaf`, `integer_at_leaf`, `leaf_of_integer` and `string_at_leaf`.
use Rattle.std.proofs.Common.{◌≡◌, ℕ, ℤ, false, List, refl, sym, ap, ◌∙◌, Option, Some, None}
use Rattle.std.specs.Prelude.{IsTrue}
use Rattle.std.proofs.lemmas.List.{append-nil}
use Rattle.std.proofs.lemmas.Bool.{false≢true}
use Rattle.keep_types.specs.declared.leaf.Leaf.{Leaf}
use Rattle.keep_types.specs.declared.leaf.Leaf.TheVariants as leaf
use Rattle.keep_types.specs.declared.leaf.Profile.{Profile}
use Rattle.keep_token.specs.Leaves.{is_scalar_leaf}
use Rattle.keep_token.specs.Numbers.{integer_value}
use Rattle.keep_types.specs.declared.syntax.ValueInfo.{ValueInfo}
use Rattle.keep_syntax.specs.Tree.{Body, scalar, array, inline, Entries, none, entry, Document, text, value_text}
use Rattle.keep_syntax.specs.Grammar.{place_in, IsBody, AreEntries}
use Rattle.keep_syntax.specs.Numbered.{leaf_of}
use Rattle.keep_meaning.specs.Fact as fact
use Rattle.keep_meaning.specs.Fact.{Fact, is_value_fact}
use Rattle.keep_meaning.specs.KeyText.{text_at}
use Rattle.keep_path.specs.Path.{Part}
use Rattle.keep_meaning.specs.Marks.{Mention}
use Rattle.keep_meaning.specs.Meaning.{string_value, scalar_fact, body_fact, mentions_in}
use Rattle.keep_meaning.specs.Nodes.{fact_at}
use Rattle.keep_edit_spec.specs.Answers.{string_of}
use Rattle.keep_edit_spec.specs.Refusals.{has_value}
use Rattle.keep_edit_spec.proofs.Values.ValuePlace.{IsValueOf}

-- what a value with this leaf and this text means
abbrev pub leaf_fact : Leaf → List ℕ → Fact
leaf_fact leaf.ArrayOpen text = fact.array
leaf_fact leaf.InlineOpen text = fact.inline
leaf_fact l text = scalar_fact l text

scalar_leaf_fact : (l : Leaf) (t : List ℕ) → IsTrue (is_scalar_leaf l) → leaf_fact l t ≡ scalar_fact l t
scalar_leaf_fact leaf.ArrayOpen t is = absurd (false≢true is)
scalar_leaf_fact leaf.InlineOpen t is = absurd (false≢true is)
scalar_leaf_fact _ t is = refl

-- a body, its leaf and its text tell the same
body_leaf_fact : (profile : Profile) (body : Body) (nested : Entries) → IsBody profile body
    → AreEntries profile (place_in body) nested
    → body_fact body ≡ leaf_fact (leaf_of body) (value_text (record { body = body; nested = nested }))
body_leaf_fact profile (array first) nested is are = refl
body_leaf_fact profile (inline first) nested is are = refl
body_leaf_fact profile (scalar w) none is are =
    sym (scalar_leaf_fact w.leaf w.text is.0) ∙ ap (leaf_fact w.leaf) (sym (append-nil w.text))
body_leaf_fact profile (scalar w) (entry name body nested after comma rest) is are = absurd are.0

-- The fact at a path is what the leaf and the text of its value mean.
pub fact_of_leaf : (profile : Profile) (path : List Part) (s : Document) (v : ℕ) (i : ValueInfo)
    → IsValueOf profile path s v i → fact_at path (mentions_in s) ≡ Some (leaf_fact i.leaf (text_at (text s) i.span))
fact_of_leaf profile path s v i h =
    let t : List ℕ = value_text h.value in
    let stated : body_fact h.value.body ≡ leaf_fact (leaf_of h.value.body) t =
    body_leaf_fact profile h.value.body h.value.nested h.valid.body h.valid.nested in
    h.fact ∙ ap Some (stated ∙ ap (λ (l : Leaf). leaf_fact l t) (sym h.leaf) ∙ ap (leaf_fact i.leaf) (sym h.spelled))

-- ---- integers

integer_leaf : (l : Leaf) (t : List ℕ) (n : ℤ) → leaf_fact l t ≡ fact.integer n
    → (l ≡ leaf.Integer) × (n ≡ integer_value t)
integer_leaf leaf.Integer t n e = let same : n ≡ integer_value t = cc in (refl, same)
integer_leaf leaf.Bom t n e = absurd cc
integer_leaf leaf.Ws t n e = absurd cc
integer_leaf leaf.Newline t n e = absurd cc
integer_leaf leaf.Comment t n e = absurd cc
integer_leaf leaf.BareKey t n e = absurd cc
integer_leaf leaf.Basic t n e = absurd cc
integer_leaf leaf.Literal t n e = absurd cc
integer_leaf leaf.MlBasic t n e = absurd cc
integer_leaf leaf.MlLiteral t n e = absurd cc
integer_leaf leaf.Float t n e = absurd cc
integer_leaf leaf.Boolean t n e = absurd cc
integer_leaf leaf.OffsetDateTime t n e = absurd cc
integer_leaf leaf.LocalDateTime t n e = absurd cc
integer_leaf leaf.LocalDate t n e = absurd cc
integer_leaf leaf.LocalTime t n e = absurd cc
integer_leaf leaf.Equals t n e = absurd cc
integer_leaf leaf.Dot t n e = absurd cc
integer_leaf leaf.Comma t n e = absurd cc
integer_leaf leaf.HeadOpen t n e = absurd cc
integer_leaf leaf.HeadClose t n e = absurd cc
integer_leaf leaf.ElemOpen t n e = absurd cc
integer_leaf leaf.ElemClose t n e = absurd cc
integer_leaf leaf.ArrayOpen t n e = absurd cc
integer_leaf leaf.ArrayClose t n e = absurd cc
integer_leaf leaf.InlineOpen t n e = absurd cc
integer_leaf leaf.InlineClose t n e = absurd cc
integer_leaf leaf.End t n e = absurd cc

-- An integer leaf is an integer, that of its text.
pub integer_at_leaf : (profile : Profile) (path : List Part) (s : Document) (v : ℕ) (i : ValueInfo)
    → IsValueOf profile path s v i → i.leaf ≡ leaf.Integer
    → fact_at path (mentions_in s) ≡ Some (fact.integer (integer_value (text_at (text s) i.span)))
integer_at_leaf profile path s v i h e =
    fact_of_leaf profile path s v i h ∙ ap (λ (l : Leaf). Some (leaf_fact l (text_at (text s) i.span))) e

-- An integer has an integer leaf, and is that of its text.
pub leaf_of_integer : (profile : Profile) (path : List Part) (s : Document) (v : ℕ) (i : ValueInfo) (n : ℤ)
    → IsValueOf profile path s v i → fact_at path (mentions_in s) ≡ Some (fact.integer n)
    → (i.leaf ≡ leaf.Integer) × (n ≡ integer_value (text_at (text s) i.span))
leaf_of_integer profile path s v i n h e =
    let k : Some (leaf_fact i.leaf (text_at (text s) i.span)) ≡ Some (fact.integer n) =
    sym (fact_of_leaf profile path s v i h) ∙ e in
    integer_leaf i.leaf (text_at (text s) i.span) n (one k)
  where
    one : {f g : Fact} → Some f ≡ Some g → f ≡ g
    one k = cc

-- ---- strings

-- what a string leaf with this text means, and nothing for another leaf
abbrev pub string_of_leaf : Leaf → List ℕ → Option (List ℕ)
string_of_leaf leaf.Basic t = Some (string_value leaf.Basic t)
string_of_leaf leaf.Literal t = Some (string_value leaf.Literal t)
string_of_leaf leaf.MlBasic t = Some (string_value leaf.MlBasic t)
string_of_leaf leaf.MlLiteral t = Some (string_value leaf.MlLiteral t)
string_of_leaf _ t = None

string_leaf : (l : Leaf) (t : List ℕ) → string_of (Some (leaf_fact l t)) ≡ string_of_leaf l t
string_leaf leaf.Bom t = refl
string_leaf leaf.Ws t = refl
string_leaf leaf.Newline t = refl
string_leaf leaf.Comment t = refl
string_leaf leaf.BareKey t = refl
string_leaf leaf.Basic t = refl
string_leaf leaf.Literal t = refl
string_leaf leaf.MlBasic t = refl
string_leaf leaf.MlLiteral t = refl
string_leaf leaf.Integer t = refl
string_leaf leaf.Float t = refl
string_leaf leaf.Boolean t = refl
string_leaf leaf.OffsetDateTime t = refl
string_leaf leaf.LocalDateTime t = refl
string_leaf leaf.LocalDate t = refl
string_leaf leaf.LocalTime t = refl
string_leaf leaf.Equals t = refl
string_leaf leaf.Dot t = refl
string_leaf leaf.Comma t = refl
string_leaf leaf.HeadOpen t = refl
string_leaf leaf.HeadClose t = refl
string_leaf leaf.ElemOpen t = refl
string_leaf leaf.ElemClose t = refl
string_leaf leaf.ArrayOpen t = refl
string_leaf leaf.ArrayClose t = refl
string_leaf leaf.InlineOpen t = refl
string_leaf leaf.InlineClose t = refl
string_leaf leaf.End t = refl

-- The string at a path is what a string leaf there means, and none at another leaf.
pub string_at_leaf : (profile : Profile) (path : List Part) (s : Document) (v : ℕ) (i : ValueInfo)
    → IsValueOf profile path s v i
    → string_of (fact_at path (mentions_in s)) ≡ string_of_leaf i.leaf (text_at (text s) i.span)
string_at_leaf profile path s v i h =
    ap string_of (fact_of_leaf profile path s v i h) ∙ string_leaf i.leaf (text_at (text s) i.span)

-- ---- where there is no value

none_of_table : {A : Type 0} (g : Option Fact → Option A) → g None ≡ None → g (Some fact.table) ≡ None
    → (o : Option Fact) → elim o [ None ↦ false | Some f ↦ is_value_fact f ] ≡ false → g o ≡ None
none_of_table g n t None h = n
none_of_table g n t (Some fact.table) h = t
none_of_table g n t (Some (fact.string v)) h = absurd cc
none_of_table g n t (Some (fact.integer v)) h = absurd cc
none_of_table g n t (Some (fact.boolean v)) h = absurd cc
none_of_table g n t (Some (fact.float v)) h = absurd cc
none_of_table g n t (Some (fact.moment k v)) h = absurd cc
none_of_table g n t (Some fact.array) h = absurd cc
none_of_table g n t (Some fact.inline) h = absurd cc

-- No string is where there is no value.
pub no_string : (path : List Part) (ms : List Mention) → has_value path ms ≡ false → string_of (fact_at path ms) ≡ None
no_string path ms h = none_of_table string_of refl refl (fact_at path ms) h
