-- Reading a value alone: what is known of it then, and why it is refused.
--
-- A text has one value, whatever profile it is read in (`one_tree`, `in_wide`). So what is stored of the value that was
-- read, its kind, depth and profile, is that of each value that the text may be said to have (`kind_is`, `depth_is`,
-- `in_strict`, `strict_of`). The profile is Strict exactly if Strict's grammar has the value, since a text is read in
-- Wide only where Strict refuses it (`strict_is`). Read once more, the text gives the same value (`read_again`). A text
-- of a single leaf is a value of this leaf, and what the leaf means is what the value means (`scalar_read`,
-- `scalar_means`). It is that exactly if a scan from its start ends where the text does (`whole_holds`, `ends_before`).
--
-- Theorems: `holds`: what is known of a value that was read; `whole_holds`: of a scalar; `kind_read`; `no_value`: why
-- there is none; `strict_value`.
use Rattle.std.proofs.Common.{◌≡◌, ℕ, ℤ, Bool, true, false, List, refl, sym, subst, ◌∙◌, ap, inl, inr, arith, slice_get}
use Rattle.std.proofs.Common.{Option, Some, None, [], ◌+◌, length, take}
use Rattle.std.specs.Prelude.{◌↔◌, IsTrue, codes}
use Rattle.std.proofs.lemmas.List.{append-nil}
use Rattle.std.proofs.Math.Seq.{take-length}
use Rattle.keep_types.specs.declared.leaf.Leaf.{Leaf}
use Rattle.keep_types.specs.declared.leaf.Leaf.TheVariants as leaf
use Rattle.keep_token.specs.Leaves.{IsLeaf, Means, ScalarLeaf, is_scalar_leaf}
use Rattle.keep_token.specs.Numbers.{integer_value}
use Rattle.keep_token.specs.Scanning.{scalar_at, moved}
use Rattle.keep_types.specs.declared.leaf.Profile.{Profile}
use Rattle.keep_types.specs.declared.leaf.Profile.TheVariants.{Strict, Wide}
use Rattle.keep_token.proofs.Shared.{means_wider, scalar_again, some_injective}
use Rattle.keep_syntax.specs.declared.alone.ValueSyntax.{ValueSyntax}
use Rattle.keep_syntax.specs.declared.fault.ReadFault.{ReadFault}
use Rattle.keep_syntax.specs.declared.fault.ReadFault.TheVariants as fault
use Rattle.keep_syntax.specs.Tree.{scalar, none, Value, value_depth}
use Rattle.keep_syntax.specs.Grammar.{IsValue, ReadsValue}
use Rattle.keep_syntax.specs.Contract.{IsValueSyntaxOf, value_values_of, alone}
use Rattle.keep_syntax.specs.Numbered.{info}
use Rattle.keep_types.specs.declared.syntax.ValueInfo.{ValueInfo}
use Rattle.keep_types.specs.declared.node.Kind.{Kind}
use Rattle.keep_types.specs.declared.node.Kind.TheVariants as kind
use Rattle.keep_meaning.specs.Nodes.{fact_kind}
use Rattle.keep_types.specs.Kinds.{leaf_kind}
use Rattle.keep_rules.proofs.FlatValueLemmas.{kind_of_body}
use Rattle.keep_syntax.specs.Profiles.{is_allowed_in}
use Rattle.keep_syntax.proofs.Shared.{allowed_value, value_allowed, reads_value_wider, one_value}
use Rattle.keep_meaning.specs.Fact as fact
use Rattle.keep_meaning.specs.Meaning.{scalar_fact, body_fact}
use Rattle.keep_rules.specs.ReadDocuments.{WasReadAlone, ValueObeys, IsValueRefusal}
use Rattle.keep_meaning.specs.ReadText.{IsValueText}
use Rattle.keep_meaning.proofs.Shared.{means_value}
use Rattle.keep_rules.specs.ValueTexts.{limit, IsTextOfFact, IsTextOfValue, IsAcceptedValue, IsRefusedValue, HoldsValue}
use Rattle.keep_rules.specs.ValueTexts.{IsScalarText}

-- one text has one value
pub one_tree : (profile : Profile) (bytes : List ℕ) (v w : Value) → IsValueText profile limit bytes v
    → IsValueText profile limit bytes w → v ≡ w
one_tree profile bytes v w h k =
    one_value profile v w h.reads.valid k.reads.valid (sym h.reads.spelled ∙ k.reads.spelled)

-- what is read in either profile is read in Wide
reads_in_wide : (profile : Profile) (bytes : List ℕ) (v : Value) → ReadsValue profile limit bytes v
    → ReadsValue Wide limit bytes v
reads_in_wide Strict bytes v h = reads_value_wider limit bytes v h
reads_in_wide Wide bytes v h = h

pub in_wide : (profile : Profile) (bytes : List ℕ) (v : Value) → IsValueText profile limit bytes v
    → IsTextOfValue bytes v
in_wide profile bytes v h = record { reads = reads_in_wide profile bytes v h.reads; obeys = h.obeys }

-- the value that the syntax was read of
abbrev pub ReadOf : Profile → List ℕ → ValueSyntax → Type 0
ReadOf profile bytes syntax = (v : Value) × ReadsValue profile limit bytes v × IsValueSyntaxOf syntax v

pub was_read : {profile : Profile} {bytes : List ℕ} {syntax : ValueSyntax} {v : Value}
    → ReadsValue profile limit bytes v → IsValueSyntaxOf syntax v → WasReadAlone bytes syntax v
was_read {profile} reads is = record { profile = profile; limit = limit; reads = reads; is = is }

-- a text that is read once more, in either profile, is read as the same value
pub read_again : (profile : Profile) (bytes : List ℕ) (syntax : ValueSyntax) → ReadOf profile bytes syntax → (v : Value)
    → IsTextOfValue bytes v → WasReadAlone bytes syntax v
read_again profile bytes syntax (w, reads, is) v text =
    let wide : ReadsValue Wide limit bytes w = reads_in_wide profile bytes w reads in
    subst (WasReadAlone bytes syntax)
    (one_value Wide w v wide.valid text.reads.valid (sym wide.spelled ∙ text.reads.spelled)) (was_read reads is)

-- ---- what is read

-- what is stored of the value itself
abbrev own_info : Value → ValueInfo
own_info v = info alone 0 0 v.body v.nested None

-- A text is read in Wide where Strict refuses it, so its value is none of Strict's grammar.
strict_is : (profile : Profile) (bytes : List ℕ) (v : Value) → IsValueText profile limit bytes v
    → (profile ≡ Wide → IsAcceptedValue Strict bytes → ⊥) → (profile ≡ Strict) ↔ IsValue Strict v
strict_is Strict bytes v h refused = ((λ e. h.reads.valid), (λ valid. refl))
strict_is Wide bytes v h refused = (
  (λ e. absurd (let k : Wide ≡ Strict = e in cc)),
  (λ valid.
      absurd (refused refl (
        v,
        record {
          reads = record { valid = valid; spelled = h.reads.spelled; shallow = h.reads.shallow };
          obeys = h.obeys;
        },
      ))),
)

pub holds : (profile : Profile) (bytes : List ℕ) (syntax : ValueSyntax) (kind : Kind) (depth : ℕ)
    → (profile ≡ Wide → IsAcceptedValue Strict bytes → ⊥) → ReadOf profile bytes syntax
    → ((v : Value) → WasReadAlone bytes syntax v → ValueObeys v) → (info : ValueInfo)
    → slice_get (value_values_of syntax) 0 ≡ Some info → kind ≡ leaf_kind info.leaf
    → ((v : Value) → IsValueSyntaxOf syntax v → depth ≡ value_depth v) → HoldsValue bytes kind depth profile
holds profile bytes syntax kind depth refused (v, reads, is) obeys info here kind_is deep =
    let read : IsValueText profile limit bytes v = record { reads = reads; obeys = obeys v (was_read reads is) } in
    let same : Some (own_info v) ≡ Some info = ap (λ (l : List ValueInfo). slice_get l 0) (sym is.values) ∙ here in
    let own : own_info v ≡ info = (let k : own_info v ≡ info = cc in k) in
    let named : kind ≡ fact_kind (body_fact v.body) =
    kind_is ∙ ap (λ (i : ValueInfo). leaf_kind i.leaf) (sym own) ∙ kind_of_body profile v.body reads.valid.body in
    record {
      value = v;
      read = in_wide profile bytes v read;
      is = named;
      deep = deep v is;
      strict = strict_is profile bytes v read refused;
    }

-- its kind is that of its first leaf
pub kind_read : (bytes : List ℕ) (syntax : ValueSyntax) (v : Value) → WasReadAlone bytes syntax v → (info : ValueInfo)
    → slice_get (value_values_of syntax) 0 ≡ Some info → leaf_kind info.leaf ≡ fact_kind (body_fact v.body)
kind_read bytes syntax v was info here =
    let same : Some (own_info v) ≡ Some info = ap (λ (l : List ValueInfo). slice_get l 0) (sym was.is.values) ∙ here in
    let own : own_info v ≡ info = (let k : own_info v ≡ info = cc in k) in
    ap (λ (i : ValueInfo). leaf_kind i.leaf) (sym own) ∙ kind_of_body was.profile v.body was.reads.valid.body

-- ---- what is known of what was read

pub value_seen : {a b : List ℕ} {kind : Kind} {depth : ℕ} {profile : Profile} → a ≡ b → HoldsValue a kind depth profile
    → HoldsValue b kind depth profile
value_seen {kind} {depth} {profile} e h = subst (λ (x : List ℕ). HoldsValue x kind depth profile) e h

module _ (bytes : List ℕ) (kind : Kind) (depth : ℕ) (profile : Profile) (h : HoldsValue bytes kind depth profile) where
  pub kind_is : (v : Value) → IsTextOfValue bytes v → kind ≡ fact_kind (body_fact v.body)
  kind_is v read = h.is ∙ ap (λ (x : Value). fact_kind (body_fact x.body)) (one_tree Wide bytes h.value v h.read read)

  pub depth_is : (v : Value) → IsTextOfValue bytes v → depth ≡ value_depth v
  depth_is v read = h.deep ∙ ap value_depth (one_tree Wide bytes h.value v h.read read)

  pub in_strict : profile ≡ Strict → IsAcceptedValue Strict bytes
  in_strict e = (
    h.value,
    record {
      reads = record { valid = h.strict.0 e; spelled = h.read.reads.spelled; shallow = h.read.reads.shallow };
      obeys = h.read.obeys;
    },
  )

  pub strict_of : IsAcceptedValue Strict bytes → profile ≡ Strict
  strict_of (v, read) =
      h.strict.1 (subst (λ (x : Value). IsValue Strict x)
      (one_tree Wide bytes v h.value (in_wide Strict bytes v read) h.read) read.reads.valid)

  -- whether Strict's grammar has it
  pub taken : (v : Value) → IsTextOfValue bytes v → profile ≡ Strict → is_allowed_in Strict v ≡ true
  taken v read e =
      value_allowed Strict v (subst (λ (x : Value). IsValue Strict x) (one_tree Wide bytes h.value v h.read read)
      (h.strict.0 e))

  pub not_taken : (v : Value) → IsTextOfValue bytes v → (profile ≡ Strict → ⊥) → is_allowed_in Strict v ≡ false
  not_taken v read other = by (is_allowed_in Strict v) refl
    where
      by : (b : Bool) → is_allowed_in Strict v ≡ b → is_allowed_in Strict v ≡ false
      by true e =
          absurd (other (h.strict.1 (subst (λ (x : Value). IsValue Strict x) (one_tree Wide bytes v h.value read h.read)
          (allowed_value Strict v read.reads.valid e))))
      by false e = e

-- ---- why not

by_rules : (profile : Profile) (bytes : List ℕ) (v : Value) (e : ReadFault) → ReadsValue profile limit bytes v
    → IsValueRefusal v e → IsRefusedValue profile bytes e
by_rules profile bytes v (fault.Define at why) reads h = inr (v, reads, h)
by_rules profile bytes v fault.Memory reads h = inl refl
by_rules profile bytes v (fault.Syntax at what) reads h = absurd h
by_rules profile bytes v (fault.TooDeep at) reads h = absurd h
by_rules profile bytes v (fault.Utf8 at) reads h = absurd h

pub no_value : (profile : Profile) (bytes : List ℕ) (syntax : ValueSyntax) (e : ReadFault) → ReadOf profile bytes syntax
    → ((v : Value) → WasReadAlone bytes syntax v → IsValueRefusal v e) → IsRefusedValue profile bytes e
no_value profile bytes syntax e (v, reads, is) h = by_rules profile bytes v e reads (h v (was_read reads is))

-- ---- scalars

abbrev a_scalar : Leaf → List ℕ → Value
a_scalar l bytes = record { body = scalar (record { leaf = l; text = bytes }); nested = none }

scalar_read : (l : Leaf) (bytes : List ℕ) → IsTrue (is_scalar_leaf l) → IsLeaf Strict l bytes
    → IsValueText Strict limit bytes (a_scalar l bytes)
scalar_read l bytes kind is =
    let valid : IsValue Strict (a_scalar l bytes) = record { body = (kind, is); nested = tt } in
    record {
      reads = record { valid = valid; spelled = sym (append-nil bytes); shallow = omega arith };
      obeys = λ i j d lt within. absurd (omega (arith, within));
    }

pub scalar_holds : (l : Leaf) (bytes : List ℕ) → IsTrue (is_scalar_leaf l) → IsLeaf Strict l bytes
    → HoldsValue bytes (fact_kind (scalar_fact l bytes)) 0 Strict
scalar_holds l bytes kind is = record {
  value = a_scalar l bytes;
  read = in_wide Strict bytes (a_scalar l bytes) (scalar_read l bytes kind is);
  is = refl;
  deep = refl;
  strict = ((λ e. (scalar_read l bytes kind is).reads.valid), (λ valid. refl));
}

-- what is scanned up to the end of the text is its value
pub whole_holds : (l : Leaf) (bytes : List ℕ) (n : ℕ) → ScalarLeaf Strict bytes l n → n ≡ length bytes
    → HoldsValue bytes (leaf_kind l) 0 Strict
whole_holds l bytes n found whole =
    let is : IsLeaf Strict l bytes =
    subst (IsLeaf Strict l) (ap (λ (k : ℕ). take k bytes) whole ∙ take-length bytes) found.belongs in
    rw (kind_of_body Strict (a_scalar l bytes).body (found.kind, is)) (scalar_holds l bytes found.kind is)

-- A scalar is scanned up to its end, so a text is none where the scan ends before, or finds none.
scanned_whole : (bytes : List ℕ) (l : Leaf) → IsTrue (is_scalar_leaf l) → IsLeaf Strict l bytes
    → moved 0 (scalar_at Strict bytes) ≡ Some (l, 0 + length bytes)
scanned_whole bytes l kind is = ap (moved 0) (rw append-nil at (scalar_again Strict l bytes [] kind is refl))

pub ends_before : (bytes : List ℕ) (first : Leaf) (end : ℕ) → moved 0 (scalar_at Strict bytes) ≡ Some (first, end)
    → (end ≡ length bytes → ⊥) → IsScalarText Strict bytes → ⊥
ends_before bytes first end found other (l, kind, is) =
    let same : ◌≡◌ {A = Leaf × ℕ} (first, end) (l, 0 + length bytes) =
    some_injective (sym found ∙ scanned_whole bytes l kind is) in
    other (omega (arith, ap (λ (p : Leaf × ℕ). p.1) same))

pub no_scalar : (bytes : List ℕ) → moved 0 (scalar_at Strict bytes) ≡ None → IsScalarText Strict bytes → ⊥
no_scalar bytes missing (l, kind, is) =
    let never : ◌≡◌ {A = Option (Leaf × ℕ)} None (Some (l, 0 + length bytes)) =
    sym missing ∙ scanned_whole bytes l kind is in
    cc

pub true_holds : HoldsValue (codes "true") kind.Boolean 0 Strict
true_holds = scalar_holds leaf.Boolean (codes "true") refl (inl refl)

pub false_holds : HoldsValue (codes "false") kind.Boolean 0 Strict
false_holds = scalar_holds leaf.Boolean (codes "false") refl (inr refl)

-- ---- what a scalar means

scalar_means : (l : Leaf) (bytes : List ℕ) → IsTrue (is_scalar_leaf l) → IsLeaf Strict l bytes
    → IsTextOfFact bytes (scalar_fact l bytes)
scalar_means l bytes kind is =
    (a_scalar l bytes, in_wide Strict bytes (a_scalar l bytes) (scalar_read l bytes kind is), refl)

pub string_means : (bytes value : List ℕ) → IsLeaf Strict leaf.Basic bytes → Means Strict leaf.Basic bytes value
    → IsTextOfFact bytes (fact.string value)
string_means bytes value is means =
    subst (λ (v : List ℕ). IsTextOfFact bytes (fact.string v))
    (sym (means_value leaf.Basic bytes value refl (means_wider leaf.Basic bytes value means)))
    (scalar_means leaf.Basic bytes refl is)

pub integer_means : (bytes : List ℕ) (value : ℤ) → IsLeaf Strict leaf.Integer bytes → integer_value bytes ≡ value
    → IsTextOfFact bytes (fact.integer value)
integer_means bytes value is e =
    subst (λ (n : ℤ). IsTextOfFact bytes (fact.integer n)) e (scalar_means leaf.Integer bytes refl is)

pub true_means : IsTextOfFact (codes "true") (fact.boolean true)
true_means = scalar_means leaf.Boolean (codes "true") refl (inl refl)

pub false_means : IsTextOfFact (codes "false") (fact.boolean false)
false_means = scalar_means leaf.Boolean (codes "false") refl (inr refl)

-- the value of a text that Strict accepts is of Strict's grammar
pub strict_value : (bytes : List ℕ) (v : Value) → IsTextOfValue bytes v → IsAcceptedValue Strict bytes
    → is_allowed_in Strict v ≡ true
strict_value bytes v read (w, strict) =
    value_allowed Strict v (subst (λ (x : Value). IsValue Strict x)
    (one_tree Wide bytes w v (in_wide Strict bytes w strict) read) strict.reads.valid)
