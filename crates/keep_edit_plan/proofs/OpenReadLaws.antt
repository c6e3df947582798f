-- Where the entries of a value that was read are.
--
-- Of what is stored of it, the values directly inside are one deep, and what is inside these is deeper. So a walk over
-- all that takes those of depth 1 alone passes over what is in an entry (`passed`), and meets each entry where the one
-- before, with its comma and the gaps, ends (`laid`): both by induction over the entries.
--
-- Theorems: `open_holds`; `place_met` and `place_passed`, a step of the walk.
use Rattle.std.proofs.Common.{◌≡◌, ℕ, zero, suc, ◌+◌, ◌-◌, ◌≤◌, List, [], ◌∷◌, ◌++◌, length, refl, sym, ap}
use Rattle.std.proofs.Common.{◌∙◌, append_assoc, length-append, arith, Option, Some, None, subst}
use Rattle.std.proofs.Common.{Bool}
use Rattle.std.proofs.Math.Numerals.{add-one}
use Rattle.std.proofs.lemmas.Bool.{ne_eqb}
use Rattle.std.specs.Prelude.{if◌then◌else◌}
use Rattle.keep_types.specs.declared.syntax.ValueInfo.{ValueInfo}
use Rattle.keep_types.specs.declared.syntax.Start.{Start}
use Rattle.keep_types.specs.declared.leaf.Leaf.{Leaf}
use Rattle.keep_types.specs.declared.leaf.Leaf.TheVariants as leaf
use Rattle.keep_types.specs.declared.leaf.Profile.TheVariants.{Strict}
use Rattle.keep_types.specs.declared.node.Kind.{Kind}
use Rattle.keep_types.specs.Kinds.{leaf_kind}
use Rattle.keep_token.specs.Leaves.{is_scalar_leaf}
use Rattle.keep_syntax.specs.Grammar.{IsBody}
use Rattle.keep_syntax.specs.Contract.{IsReadAlone}
use Rattle.keep_syntax.specs.Numbered.{leaf_of}
use Rattle.keep_syntax.specs.Tree.{value_depth}
use Rattle.keep_rules.specs.ReadDocuments.{ValueObeys, WasReadAlone}
use Rattle.keep_rules.proofs.Shared.{in_wide, kind_of_body}
use Rattle.keep_edit_plan.specs.Reading.{limit}
use Rattle.std.proofs.lemmas.Option.{same_Some}
use Rattle.std.specs.Prelude.{IsTrue}
use Rattle.std.proofs.Common.{drop, slice_get}
use Rattle.keep_syntax.specs.Tree.{Name, Body, scalar, array, inline, Entries, none, entry, Value, text_of}
use Rattle.keep_syntax.specs.Tree.{comma_leaves, named_leaves, opening, closing}
use Rattle.keep_syntax.specs.Numbered.{value_start, value_end, comma_start, comma_place, name_count, info, nested_of}
use Rattle.keep_syntax.specs.Numbered.{rest_of, entries_values}
use Rattle.keep_syntax.specs.Contract.{IsValueSyntaxOf, alone, value_values_of}
use Rattle.keep_syntax.specs.declared.alone.ValueSyntax.{ValueSyntax}
use Rattle.keep_edit_spec.specs.Values.{entries_text, entry_prefix}
use Rattle.keep_edit_plan.specs.OpenValues.{AreLaid, HoldsOpen, IsBracketed, first_gap}
use Rattle.keep_edit_plan.specs.OpenPlaces.{IsBracket, place, places_of}
use Rattle.keep_edit_plan.specs.KeyNumbers.{HasKey}
use Rattle.keep_edit_plan.specs.declared.open_value.EntryPlace.{EntryPlace}
use Rattle.keep_edit_plan.specs.declared.open_value.key_numbers.KeyNumbers.{KeyNumbers}
use Rattle.keep_edit_plan.proofs.FirstParts.{parts_any}

own : (end : ℕ) (v : ValueInfo) (vs : List ValueInfo) → v.depth ≡ 1
    → places_of end (v ∷ vs) ≡ place (v.whole.start - end) (v.span.end - v.whole.start) ∷ places_of v.span.end vs
own end v vs e = rw e refl

inner : (end : ℕ) (v : ValueInfo) (vs : List ValueInfo) → (v.depth ≡ 1 → ⊥)
    → places_of end (v ∷ vs) ≡ places_of end vs
inner end v vs other =
    ap (λ (b : Bool). if b
    then place (v.whole.start - end) (v.span.end - v.whole.start) ∷ places_of v.span.end vs
    else places_of end vs) (ne_eqb v.depth 1 other)

-- what is deeper is passed over
passed : (es : Entries) (end k : ℕ) (p : Start) (more : List ValueInfo) → p.depth ≡ suc (suc k)
    → places_of end (entries_values p es ++ more) ≡ places_of end more
passed none end k p more e = refl
passed (entry name body nested after comma rest) end k p more e =
    let i : Start = nested_of p (value_start p.at name) (name_count name) body in
    let r : Start = rest_of p name body nested after comma in
    let first : ValueInfo = info p (value_start p.at name) (name_count name) body nested
    (comma_place (comma_start p.at name body nested after) comma) in
    inner end first ((entries_values i nested ++ entries_values r rest) ++ more) (λ same. omega (arith, e, same))
    ∙ ap (places_of end) (append_assoc (entries_values i nested) (entries_values r rest) more)
    ∙ passed nested end (suc k) i (entries_values r rest ++ more) (ap (λ (n : ℕ). suc n) e)
    ∙ passed rest end k r more e

-- how long an entry is
prefix_length : (at : ℕ) (name : Option Name) (body : Body) (nested : Entries)
    → value_end (value_start at name) body nested ≡ at + length (entry_prefix name body nested)
prefix_length at name body nested =
    let named : List ℕ = text_of (named_leaves name) in
    let start : List ℕ = text_of (opening body) in
    let close : List ℕ = text_of (closing body) in
    omega (
      arith,
      length-append named (start ++ (entries_text nested ++ close)),
      length-append start (entries_text nested ++ close),
      length-append (entries_text nested) close,
    )

laid : (es : Entries) (end : ℕ) (p : Start) → p.depth ≡ 1 → end ≤ p.at
    → AreLaid (p.at - end) es (places_of end (entries_values p es))
laid none end p deep low = tt
laid (entry name body nested after comma rest) end p deep low =
    let i : Start = nested_of p (value_start p.at name) (name_count name) body in
    let r : Start = rest_of p name body nested after comma in
    let first : ValueInfo = info p (value_start p.at name) (name_count name) body nested
    (comma_place (comma_start p.at name body nested after) comma) in
    let stop : ℕ = value_end (value_start p.at name) body nested in
    let more : AreLaid (r.at - stop) rest (places_of stop (entries_values r rest)) =
    laid rest stop r deep (omega arith) in
    let same : places_of end (first ∷ (entries_values i nested ++ entries_values r rest))
    ≡ place (p.at - end) (stop - p.at) ∷ places_of stop (entries_values r rest) =
    own end first (entries_values i nested ++ entries_values r rest) deep
    ∙ ap (λ (l : List EntryPlace). place (p.at - end) (stop - p.at) ∷ l)
    (passed nested stop 0 i (entries_values r rest) (ap (λ (n : ℕ). suc n) deep)) in
    let gap : r.at - stop ≡ length (text_of after) + length (text_of (comma_leaves comma)) = omega arith in
    subst (AreLaid (p.at - end) (entry name body nested after comma rest)) (sym same) (
      refl,
      (
        omega (arith, prefix_length p.at name body nested),
        subst (λ (g : ℕ). AreLaid g rest (places_of stop (entries_values r rest))) gap more,
      ),
    )

-- ---- a walk over what is stored

dropped : (vs : List ValueInfo) (n : ℕ) (v : ValueInfo) → slice_get vs n ≡ Some v → drop n vs ≡ v ∷ drop (n + 1) vs
dropped vs n v here = by vs n here ∙ ap (λ (k : ℕ). v ∷ drop k vs) (sym (add-one n))
  where
    by : (l : List ValueInfo) (k : ℕ) → slice_get l k ≡ Some v → drop k l ≡ v ∷ drop (suc k) l
    by [] k e = absurd cc
    by (w ∷ ws) zero e = ap (λ (x : ValueInfo). x ∷ ws) (same_Some w v e)
    by (w ∷ ws) (suc k) e = by ws k e

-- a value directly inside
pub place_met : (vs : List ValueInfo) (n end gap len : ℕ) (v : ValueInfo) (ps now : List EntryPlace)
    → slice_get vs n ≡ Some v → v.depth ≡ 1 → gap ≡ v.whole.start - end → len ≡ v.span.end - v.whole.start
    → now ≡ ps ++ (place gap len ∷ [])
    → now ++ places_of v.span.end (drop (n + 1) vs) ≡ ps ++ places_of end (drop n vs)
place_met vs n end gap len v ps now here deep first second is =
    let more : List EntryPlace = places_of v.span.end (drop (n + 1) vs) in
    ap (λ (l : List EntryPlace). l ++ more) is ∙ append_assoc ps (place gap len ∷ []) more
    ∙ ap (λ (k : ℕ). ps ++ (place k len ∷ more)) first
    ∙ ap (λ (k : ℕ). ps ++ (place (v.whole.start - end) k ∷ more)) second
    ∙ ap (λ (l : List EntryPlace). ps ++ l) (sym (ap (λ (l : List ValueInfo). places_of end l) (dropped vs n v here)
    ∙ own end v (drop (n + 1) vs) deep))

-- a deeper one
pub place_passed : (vs : List ValueInfo) (n end : ℕ) (v : ValueInfo) → slice_get vs n ≡ Some v → (v.depth ≡ 1 → ⊥)
    → places_of end (drop (n + 1) vs) ≡ places_of end (drop n vs)
place_passed vs n end v here other =
    sym (ap (λ (l : List ValueInfo). places_of end l) (dropped vs n v here) ∙ inner end v (drop (n + 1) vs) other)

-- ---- what is held

bracketed : (body : Body) → IsBody Strict body → (l : Leaf) → leaf_of body ≡ l → IsBracket l → IsBracketed body
bracketed (scalar w) is l e bracket = no_scalar w.leaf is.0 (subst IsBracket (sym e) bracket)
  where
    no_scalar : (l : Leaf) → IsTrue (is_scalar_leaf l) → IsBracket l → ⊥
    no_scalar leaf.ArrayOpen is b = absurd cc
    no_scalar leaf.InlineOpen is b = absurd cc
    no_scalar _ is b = b
bracketed (array first) is l e bracket = tt
bracketed (inline first) is l e bracket = tt

first_laid : (body : Body) (nested : Entries) → IsBracketed body
    → AreLaid (first_gap body) nested (places_of 1 (entries_values (nested_of alone 0 0 body) nested))
first_laid (scalar w) nested b = absurd b
first_laid (array first) nested b =
    let p : Start = nested_of alone 0 0 (array first) in
    subst (λ (g : ℕ). AreLaid g nested (places_of 1 (entries_values p nested))) (omega arith)
    (laid nested 1 p refl (omega arith))
first_laid (inline first) nested b =
    let p : Start = nested_of alone 0 0 (inline first) in
    subst (λ (g : ℕ). AreLaid g nested (places_of 1 (entries_values p nested))) (omega arith)
    (laid nested 1 p refl (omega arith))

pub open_holds : (bytes : List ℕ) (syntax : ValueSyntax) (places : List EntryPlace) (keys : KeyNumbers) (kind : Kind)
    (depth : ℕ)
    → IsReadAlone Strict limit bytes syntax
    → ((v : Value) → WasReadAlone bytes syntax v → ValueObeys v) → (own : ValueInfo)
    → slice_get (value_values_of syntax) 0 ≡ Some own → IsBracket own.leaf → kind ≡ leaf_kind own.leaf
    → ((v : Value) → IsValueSyntaxOf syntax v → depth ≡ value_depth v)
    → places ≡ places_of 1 (drop 1 (value_values_of syntax)) → ((key : List ℕ) → HasKey keys key)
    → HoldsOpen bytes places keys kind depth
open_holds bytes syntax places keys kind depth (v, reads, is) obeys own here bracket named deep found known =
    let was : WasReadAlone bytes syntax v =
    record { profile = Strict; limit = limit; reads = reads; is = is } in
    let same : Some (info alone 0 0 v.body v.nested None) ≡ Some own =
    ap (λ (l : List ValueInfo). slice_get l 0) (sym is.values) ∙ here in
    let leaf_is : leaf_of v.body ≡ own.leaf = ap (λ (i : ValueInfo). i.leaf) (same_Some _ own same) in
    let brackets : IsBracketed v.body = bracketed v.body reads.valid.body own.leaf leaf_is bracket in
    record {
      value = v;
      read = in_wide Strict bytes v (record { reads = reads; obeys = obeys v was });
      strict = reads.valid;
      bracketed = brackets;
      is = named ∙ ap leaf_kind (sym leaf_is) ∙ kind_of_body Strict v.body reads.valid.body;
      deep = deep v is;
      laid = subst (AreLaid (first_gap v.body) v.nested)
          (sym (found ∙ ap (λ (l : List ValueInfo). places_of 1 (drop 1 l)) is.values))
          (first_laid v.body v.nested brackets);
      known = parts_any (HasKey keys) known v.nested;
    }
