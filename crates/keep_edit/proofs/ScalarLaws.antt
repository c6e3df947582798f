-- What is at a path is determined by the leaf and the text of its value: integers and strings.
--
-- The value that was found at a path is one of the tree, with its leaf, and the text at its span is a text of this leaf
-- (`scalar_spelled`). The document has one tree, so what the tree has at the path is what this leaf and text mean: an
-- integer exactly at an integer's leaf, read to its number (`integer_read`), and a string exactly at one of the four
-- leaves of strings, decoded to its text (`string_here`, `quoted_means`). Where nothing was found the path has no fact
-- of a value, and so neither (`no_value`).
--
-- Theorems: `integer_found`, `no_integer_found`, `no_integer_leaf`; `string_found`, `no_string_found`,
-- `no_string_leaf`.
use Rattle.std.proofs.Common.{◌≡◌, ℕ, ℤ, Bool, true, false, List, [], ◌∷◌, refl, sym, ap, ◌∙◌, subst, Option}
use Rattle.std.proofs.Common.{Some, None, Result, Ok, Err, ◌⊎◌, inl, inr}
use Rattle.std.specs.Prelude.{◌↔◌, IsTrue, IsSome, IfSome, slice_get}
use Rattle.std.specs.List.{list_any, filter_map}
use Rattle.std.specs.Result.{result_ok}
use Rattle.std.proofs.lemmas.List.{append-nil}
use Rattle.std.proofs.lemmas.Bool.{false≢true}
use Rattle.keep_types.specs.declared.leaf.Leaf.{Leaf}
use Rattle.keep_types.specs.declared.leaf.Leaf.TheVariants as leaf
use Rattle.keep_types.specs.declared.leaf.Profile.{Profile}
use Rattle.keep_types.specs.declared.leaf.Profile.TheVariants.{Strict, Wide}
use Rattle.keep_token.specs.Leaves.{IsLeaf, is_scalar_leaf, is_string_leaf}
use Rattle.keep_token.specs.Numbers.{Integer, integer_value}
use Rattle.keep_token.proofs.Shared.{leaf_wider}
use Rattle.keep_types.specs.declared.syntax.ValueInfo.{ValueInfo}
use Rattle.keep_syntax.specs.declared.syntax.Syntax.{Syntax}
use Rattle.keep_syntax.specs.Contract.{values_of}
use Rattle.keep_syntax.specs.Grammar.{place_in, IsBody, AreEntries}
use Rattle.keep_syntax.specs.Numbered.{leaf_of}
use Rattle.keep_syntax.specs.Tree.{Body, scalar, array, inline, Entries, none, entry, Document, text, value_text}
use Rattle.keep_meaning.specs.Fact as fact
use Rattle.keep_meaning.specs.Fact.{Fact, is_value_fact}
use Rattle.keep_meaning.specs.KeyText.{text_at}
use Rattle.keep_meaning.specs.Marks.{Mention, fact_of}
use Rattle.keep_meaning.specs.Meaning.{mentions_in, string_value}
use Rattle.keep_meaning.specs.Nodes.{is_at, is_node, kinds_at, fact_at, first_of}
use Rattle.keep_path.specs.Path.{Part}
use Rattle.keep_path.specs.NodeInfos.{NodeInfos}
use Rattle.keep_edit_spec.specs.declared.fault.EditFault.{EditFault}
use Rattle.keep_edit_spec.specs.declared.fault.EditFault.TheVariants.{NotFound, NotValue}
use Rattle.keep_edit_spec.specs.Refusals.{has_value}
use Rattle.keep_edit_spec.proofs.Shared.{integer_at_leaf, leaf_of_integer, string_at_leaf, string_of_leaf, no_string}
use Rattle.keep_edit_spec.proofs.Shared.{IsValueOf}
use Rattle.keep_edit.specs.Answers.{integer_of, int_value_of, str_value_of, HasNoValue, IsFound}
use Rattle.keep_edit.specs.Reading.{ProfiledText, IsTextOfTree, Holds}
use Rattle.keep_edit.specs.StrTexts.{is_quoted}
use Rattle.keep_edit_plan.proofs.Shared.{value_there}

-- ---- the leaf that a scalar is

body_spelled : (profile : Profile) (body : Body) (nested : Entries) → IsBody profile body
    → AreEntries profile (place_in body) nested → IsTrue (is_scalar_leaf (leaf_of body))
    → IsLeaf profile (leaf_of body) (value_text (record { body = body; nested = nested }))
body_spelled profile (array first) nested is are kind = absurd (false≢true kind)
body_spelled profile (inline first) nested is are kind = absurd (false≢true kind)
body_spelled profile (scalar w) none is are kind =
    subst (λ (t : List ℕ). IsLeaf profile w.leaf t) (sym (append-nil w.text)) is.1
body_spelled profile (scalar w) (entry name body nested after comma rest) is are kind = absurd are.0

-- its text is one of its leaf
scalar_spelled : (profile : Profile) (path : List Part) (s : Document) (v : ℕ) (i : ValueInfo)
    → IsValueOf profile path s v i → IsTrue (is_scalar_leaf i.leaf) → IsLeaf profile i.leaf (text_at (text s) i.span)
scalar_spelled profile path s v i h kind =
    let own : IsLeaf profile (leaf_of h.value.body) (value_text h.value) =
    body_spelled profile h.value.body h.value.nested h.valid.body h.valid.nested
    (subst (λ (l : Leaf). IsTrue (is_scalar_leaf l)) h.leaf kind) in
    subst (λ (l : Leaf). IsLeaf profile l (text_at (text s) i.span)) (sym h.leaf)
    (subst (λ (t : List ℕ). IsLeaf profile (leaf_of h.value.body) t) (sym h.spelled) own)

-- ---- what was found

-- The value with this number is the path's, with what is known of it, and the document has these bytes.
pub record IsValueAt (d : ProfiledText) (path : List Part) (s : Document) (number : ℕ) (i : ValueInfo) : Type 0 where
  pub value : IsValueOf d.profile path s number i
  pub spelled : text s ≡ d.text

pub value_at : (d : ProfiledText) (parts : Syntax) (index : NodeInfos) (s : Document) (path : List Part) (number : ℕ)
    (i : ValueInfo) → Holds d parts index → IsTextOfTree d s
    → IsFound path s (Ok number) → slice_get (values_of parts) number ≡ Some i → IsValueAt d path s number i
value_at d parts index s path number i h read found there =
    record {
      value = (value_there d parts index path s number h read found i there).of;
      spelled = sym read.reads.spelled;
    }

-- the number that was found
pub number_of_some : (path : List Part) (s : Document) (found : Result ℕ EditFault) (o : Option ℕ) (number : ℕ)
    → o ≡ result_ok found → o ≡ Some number → IsFound path s found → IsFound path s (Ok number)
number_of_some path s (Ok n) o number e some h = let same : n ≡ number = cc in h ∙ ap Some same
number_of_some path s (Err f) o number e some h = absurd cc

-- ---- where nothing is found

silent-step : (path : List Part) (m : Mention) (ms : List Mention)
    → (list_any (is_at path) ms ≡ false → kinds_at path ms ≡ []) → (b : Bool) → is_at path m ≡ b
    → list_any (is_at path) (m ∷ ms) ≡ false
    → kinds_at path (m ∷ ms) ≡ []
silent-step path m ms h true e absent = let k : true ≡ false = rw e at absent in absurd cc
silent-step path m ms h false e absent = rw e (h (rw e at absent))

silent : (path : List Part) (ms : List Mention) → list_any (is_at path) ms ≡ false → kinds_at path ms ≡ []
silent path [] absent = refl
silent path (m ∷ ms) absent = silent-step path m ms (silent path ms) (is_at path m) refl absent

unmentioned : (path : List Part) (ms : List Mention) → is_node path ms ≡ false → list_any (is_at path) ms ≡ false
unmentioned [] ms h = absurd cc
unmentioned (p ∷ ps) ms h = h

no_node : (path : List Part) (ms : List Mention) → is_node path ms ≡ false → has_value path ms ≡ false
no_node path ms h =
    let none : fact_at path ms ≡ None =
    ap (λ mention_kind. first_of (filter_map fact_of mention_kind)) (silent path ms (unmentioned path ms h)) in
    ap (λ (o : Option Fact). elim o [ None ↦ false | Some f ↦ is_value_fact f ]) none

no_value : (path : List Part) (s : Document) (f : EditFault) → HasNoValue path s f
    → has_value path (mentions_in s) ≡ false
no_value path s NotFound h = no_node path (mentions_in s) h
no_value path s NotValue h = h.1
no_value path s _ h = absurd h

-- ---- integers

no_integer_fact : (o : Option Fact) → elim o [ None ↦ false | Some f ↦ is_value_fact f ] ≡ false → integer_of o ≡ None
no_integer_fact None h = refl
no_integer_fact (Some fact.table) h = refl
no_integer_fact (Some (fact.string v)) h = refl
no_integer_fact (Some (fact.integer v)) h = absurd cc
no_integer_fact (Some (fact.boolean v)) h = refl
no_integer_fact (Some (fact.float v)) h = refl
no_integer_fact (Some (fact.moment k v)) h = refl
no_integer_fact (Some fact.array) h = refl
no_integer_fact (Some fact.inline) h = refl

pub no_integer_found : (path : List Part) (s : Document) (found : Result ℕ EditFault) (o : Option ℕ)
    → o ≡ result_ok found → o ≡ None → IsFound path s found → None ≡ int_value_of path s
no_integer_found path s (Ok number) o e absent h = absurd cc
no_integer_found path s (Err f) o e absent h =
    sym (no_integer_fact (fact_at path (mentions_in s)) (no_value path s f h))

-- the integer that was read
integer_read : (t : List ℕ) (r : Option ℤ) → Integer t → (IsSome r ↔ Integer t) → IfSome r (λ n. n ≡ integer_value t)
    → r ≡ Some (integer_value t)
integer_read t None is some value = absurd (false≢true (some.1 is))
integer_read t (Some n) is some value = ap Some value

pub integer_found : (d : ProfiledText) (t : List ℕ) (path : List Part) (s : Document) (number : ℕ) (i : ValueInfo)
    (r : Option ℤ) → IsValueAt d path s number i → i.leaf ≡ leaf.Integer → t ≡ text_at d.text i.span
    → (IsSome r ↔ Integer t) → IfSome r (λ n. n ≡ integer_value t) → r ≡ int_value_of path s
integer_found d t path s number i r h kind here some value =
    let scalar : IsTrue (is_scalar_leaf i.leaf) = ap is_scalar_leaf kind in
    let own : IsLeaf d.profile i.leaf (text_at (text s) i.span) =
    scalar_spelled d.profile path s number i h.value scalar in
    let same : text_at (text s) i.span ≡ t = ap (λ (b : List ℕ). text_at b i.span) h.spelled ∙ sym here in
    let is : Integer t =
    subst Integer same (subst (λ (l : Leaf). IsLeaf d.profile l (text_at (text s) i.span)) kind own) in
    integer_read t r is some value
    ∙ ap (λ (b : List ℕ). Some (integer_value b)) (sym same)
    ∙ ap integer_of (sym (integer_at_leaf d.profile path s number i h.value kind))

pub no_integer_leaf : (d : ProfiledText) (path : List Part) (s : Document) (number : ℕ) (i : ValueInfo)
    → IsValueAt d path s number i → (i.leaf ≡ leaf.Integer → ⊥) → None ≡ int_value_of path s
no_integer_leaf d path s number i h other = by (fact_at path (mentions_in s)) refl
  where
    by : (o : Option Fact) → fact_at path (mentions_in s) ≡ o → None ≡ integer_of o
    by None e = refl
    by (Some fact.table) e = refl
    by (Some (fact.string v)) e = refl
    by (Some (fact.integer n)) e = absurd (other (leaf_of_integer d.profile path s number i n h.value e).0)
    by (Some (fact.boolean v)) e = refl
    by (Some (fact.float v)) e = refl
    by (Some (fact.moment k v)) e = refl
    by (Some fact.array) e = refl
    by (Some fact.inline) e = refl

-- ---- strings

pub no_string_found : (path : List Part) (s : Document) (f : EditFault) → IsFound path s (Err f)
    → None ≡ str_value_of path s
no_string_found path s f h = sym (no_string path (mentions_in s) (no_value path s f h))

quoted_scalar : (l : Leaf) → IsTrue (is_quoted l) → IsTrue (is_scalar_leaf l)
quoted_scalar leaf.Basic is = refl
quoted_scalar leaf.Literal is = refl
quoted_scalar leaf.MlBasic is = refl
quoted_scalar leaf.MlLiteral is = refl
quoted_scalar _ is = absurd (false≢true is)

pub quoted_string : (l : Leaf) → IsTrue (is_quoted l) → IsTrue (is_string_leaf l)
quoted_string leaf.Basic is = refl
quoted_string leaf.Literal is = refl
quoted_string leaf.MlBasic is = refl
quoted_string leaf.MlLiteral is = refl
quoted_string _ is = absurd (false≢true is)

quoted_means : (l : Leaf) (t value : List ℕ) → IsTrue (is_quoted l) → value ≡ string_value l t
    → Some value ≡ string_of_leaf l t
quoted_means leaf.Basic t value is h = ap Some h
quoted_means leaf.Literal t value is h = ap Some h
quoted_means leaf.MlBasic t value is h = ap Some h
quoted_means leaf.MlLiteral t value is h = ap Some h
quoted_means _ t value is h = absurd (false≢true is)

pub quoted_leaf : (l : Leaf) → (l ≡ leaf.Basic) ⊎ ((l ≡ leaf.Literal) ⊎ ((l ≡ leaf.MlBasic) ⊎ (l ≡ leaf.MlLiteral)))
    → IsTrue (is_quoted l)
quoted_leaf l (inl e) = ap is_quoted e
quoted_leaf l (inr (inl e)) = ap is_quoted e
quoted_leaf l (inr (inr (inl e))) = ap is_quoted e
quoted_leaf l (inr (inr (inr e))) = ap is_quoted e

unquoted_none : (l : Leaf) (t : List ℕ) → (l ≡ leaf.Basic → ⊥) → (l ≡ leaf.Literal → ⊥) → (l ≡ leaf.MlBasic → ⊥)
    → (l ≡ leaf.MlLiteral → ⊥) → None ≡ string_of_leaf l t
unquoted_none leaf.Basic t a b c d = absurd (a refl)
unquoted_none leaf.Literal t a b c d = absurd (b refl)
unquoted_none leaf.MlBasic t a b c d = absurd (c refl)
unquoted_none leaf.MlLiteral t a b c d = absurd (d refl)
unquoted_none _ t a b c d = refl

string_here : (d : ProfiledText) (path : List Part) (s : Document) (number : ℕ) (i : ValueInfo)
    → IsValueAt d path s number i → str_value_of path s ≡ string_of_leaf i.leaf (text_at d.text i.span)
string_here d path s number i h =
    string_at_leaf d.profile path s number i h.value
    ∙ ap (λ (b : List ℕ). string_of_leaf i.leaf (text_at b i.span)) h.spelled

leaf_in_wide : (profile : Profile) (l : Leaf) (text : List ℕ) → IsLeaf profile l text → IsLeaf Wide l text
leaf_in_wide Strict l text h = leaf_wider l text h
leaf_in_wide Wide l text h = h

-- what is decoded is a string's text
pub string_readable : (d : ProfiledText) (t : List ℕ) (path : List Part) (s : Document) (number : ℕ) (i : ValueInfo)
    → IsValueAt d path s number i → IsTrue (is_quoted i.leaf) → t ≡ text_at d.text i.span → IsLeaf Wide i.leaf t
string_readable d t path s number i h is here =
    let same : text_at (text s) i.span ≡ t = ap (λ (b : List ℕ). text_at b i.span) h.spelled ∙ sym here in
    subst (IsLeaf Wide i.leaf) same
    (leaf_in_wide d.profile i.leaf (text_at (text s) i.span)
    (scalar_spelled d.profile path s number i h.value (quoted_scalar i.leaf is)))

pub string_found : (d : ProfiledText) (t : List ℕ) (path : List Part) (s : Document) (number : ℕ) (i : ValueInfo)
    (value : List ℕ) → IsValueAt d path s number i → IsTrue (is_quoted i.leaf) → t ≡ text_at d.text i.span
    → value ≡ string_value i.leaf t → Some value ≡ str_value_of path s
string_found d t path s number i value h is here meant =
    quoted_means i.leaf t value is meant ∙ ap (string_of_leaf i.leaf) here ∙ sym (string_here d path s number i h)

pub no_string_leaf : (d : ProfiledText) (path : List Part) (s : Document) (number : ℕ) (i : ValueInfo)
    → IsValueAt d path s number i
    → (i.leaf ≡ leaf.Basic → ⊥) → (i.leaf ≡ leaf.Literal → ⊥) → (i.leaf ≡ leaf.MlBasic → ⊥)
    → (i.leaf ≡ leaf.MlLiteral → ⊥) → None ≡ str_value_of path s
no_string_leaf d path s number i h a b c e =
    unquoted_none i.leaf (text_at d.text i.span) a b c e ∙ sym (string_here d path s number i h)
