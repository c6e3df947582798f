-- Setting a value: when it is refused, and what the new text is.
--
-- What is known once the value at the path is found is one record, `IsSetting`: its number, its place in the text
-- (`value_there`), and that no more brackets are open round it than the limit allows (`few_open`). A path with a
-- value's number names a node with a value (`valued`, `node_of_value`), so of the four reasons to refuse two are left
-- (`refusal_is`): the depth round the old value and that of the new one, added up, pass the limit (`too_deep_at`), or
-- the profile's grammar has no such value. `deep_done` and `foreign_done` are the answers there. If neither holds
-- (`MaySet`), the new value's text replaces the old one's (`place_is`), and the law of the edit is `set_lawful`.
--
-- Theorems: `setting`: what is known of the value that is found; `done_at`: the edit is not refused, and where it is
-- done; `set_law`: the law of the edit.
use Rattle.std.proofs.Common.{◌≡◌, ℕ, suc, ◌+◌, ◌<◌, ◌≤◌, Bool, true, false, cond, List, [], ◌∷◌, map, refl, sym, ap}
use Rattle.std.proofs.Common.{subst, ◌∙◌, arith, Option, Some, None, Ok, Err, slice_get}
use Rattle.std.specs.Prelude.{not, ◌||◌, nat_lt, filter}
use Rattle.std.specs.List.{list_any, filter_map}
use Rattle.std.proofs.lemmas.Bool.{lt-ltb, le-ltb}
use Rattle.keep_types.specs.declared.leaf.Profile.{Profile}
use Rattle.keep_types.specs.declared.syntax.ValueInfo.{ValueInfo}
use Rattle.keep_syntax.specs.declared.syntax.Syntax.{Syntax}
use Rattle.keep_syntax.specs.Tree.{Value, Document, value_depth}
use Rattle.keep_syntax.specs.Profiles.{is_allowed_in}
use Rattle.keep_syntax.specs.Deep.{is_opening}
use Rattle.keep_syntax.specs.Nesting.{IsWithin}
use Rattle.keep_syntax.specs.Contract.{values_of}
use Rattle.keep_syntax.specs.Numbered as numbered
use Rattle.keep_syntax.proofs.Shared.{values_within, all_at}
use Rattle.keep_meaning.specs.Fact.{is_value_fact}
use Rattle.keep_meaning.specs.Marks.{Mention, fact_of}
use Rattle.keep_meaning.specs.Meaning.{mentions_in}
use Rattle.keep_meaning.specs.Nodes.{is_at, is_root, is_node, first_of}
use Rattle.keep_path.specs.Path.{Part}
use Rattle.keep_path.specs.NodeInfos.{NodeInfos}
use Rattle.keep_edit_spec.specs.declared.fault.EditFault.{EditFault}
use Rattle.keep_edit_spec.specs.declared.fault.EditFault.TheVariants as fault
use Rattle.keep_edit_spec.specs.Edits.{set, place}
use Rattle.keep_edit_spec.specs.Refusals.{has_value, is_too_deep, first_that_holds}
use Rattle.keep_edit_spec.specs.Laws.{IsLawfulEdit}
use Rattle.keep_edit_spec.proofs.Shared.{set_lawful, has_of_number, set_place, too_deep_at}
use Rattle.keep_edit_plan.specs.Reading.{limit, ProfiledText, text_in, IsTextOfTree, IsTextOfValue, Holds}
use Rattle.keep_edit_plan.specs.Answers.{value_number_of, IsDone, refusal_in}
use Rattle.keep_edit_plan.specs.Places.{place_at, IsDoneAt}
use Rattle.keep_edit_plan.proofs.FoundLaws.{IsValueThere, value_there}

-- ---- a value's path names a node

nowhere : (path : List Part) (ms : List Mention) → list_any (is_at path) ms ≡ false → filter (is_at path) ms ≡ []
nowhere path [] e = refl
nowhere path (m ∷ ms) e = by (is_at path m) refl e (nowhere path ms)
  where
    by : (b : Bool) → is_at path m ≡ b → (b || list_any (is_at path) ms) ≡ false
        → (list_any (is_at path) ms ≡ false → filter (is_at path) ms ≡ [])
        → cond b (m ∷ filter (is_at path) ms) (filter (is_at path) ms) ≡ []
    by true is e more = absurd cc
    by false is e more = more e

node_of_value : (path : List Part) (ms : List Mention) → has_value path ms ≡ true → is_node path ms ≡ true
node_of_value path ms has = by (list_any (is_at path) ms) (is_root path) refl
  where
    by : (b r : Bool) → list_any (is_at path) ms ≡ b → (r || b) ≡ true
    by true true e = refl
    by true false e = refl
    by false r e =
        let none : has_value path ms ≡ false =
        ap (λ (at : List Mention).
        elim (first_of (filter_map fact_of (map (λ (m : Mention). m.kind) at))) [
          | None ↦ false
          | Some f ↦
              is_value_fact f
        ]) (nowhere path ms e) in
        let k : true ≡ false = sym has ∙ none in absurd cc

-- ---- where a value is set

-- whether the document's grammar has the value, by its profile as it is seen
pub allowed_by : {profile : Profile} {bytes : List ℕ} {d : ProfiledText} (v : Value) {r b : Bool}
    → text_in profile bytes ≡ d → r ≡ is_allowed_in profile v → r ≡ b → is_allowed_in d.profile v ≡ b
allowed_by v e is mentioned = ap (λ (t : ProfiledText). is_allowed_in t.profile v) (sym e) ∙ sym is ∙ mentioned

-- the value that is found, and the one that is given
pub record IsSetting (d : ProfiledText) (given : List ℕ) (path : List Part) (s : Document) (v : Value)
    (info : ValueInfo) (deep : ℕ) : Type 0 where
  pub read : IsTextOfTree d s
  pub value : IsTextOfValue given v
  pub deep_is : deep ≡ value_depth v
  pub number : ℕ
  pub found : value_number_of path s ≡ Some number
  pub there : IsValueThere d path s number info
  pub low : info.depth ≤ limit

-- fewer brackets are open round a value than in it
few_open : (bound : ℕ) (b : Bool) (n : ℕ) → cond b (suc n) n ≤ bound → n ≤ bound
few_open bound true n h = omega (arith, h)
few_open bound false n h = h

pub setting : (d : ProfiledText) (given : List ℕ) (syntax : Syntax) (index : NodeInfos) (path : List Part)
    (s : Document) (v : Value) (number : ℕ) (info : ValueInfo) (deep : ℕ) → Holds d syntax index → IsTextOfTree d s
    → value_number_of path s ≡ Some number → slice_get (values_of syntax) number ≡ Some info → IsTextOfValue given v
    → deep ≡ value_depth v → IsSetting d given path s v info deep
setting d given syntax index path s v number info deep holds read found here value deep_is =
    let there : IsValueThere d path s number info =
    value_there d syntax index path s number holds read found info here in
    record {
      read = read;
      value = value;
      deep_is = deep_is;
      number = number;
      found = found;
      there = there;
      low = few_open limit (is_opening info.leaf) info.depth
          (all_at (IsWithin limit) (numbered.values s) number info (values_within d.profile limit d.text s read.reads)
          there.of.info);
    }

module _ (d : ProfiledText) (given : List ℕ) (path : List Part) (s : Document) (v : Value) (info : ValueInfo) (deep : ℕ)
    (at : IsSetting d given path s v info deep) where
  -- the depths of both values together
  pub depth_low : info.depth + deep ≤ limit + limit
  depth_low = omega (arith, at.low, at.deep_is, at.value.reads.shallow)

  valued : has_value path (mentions_in s) ≡ true
  valued = has_of_number path s at.number at.read.obeys at.found

  -- the refusal, by those depths and the value's grammar
  refusal_is : (b w : Bool) → nat_lt limit (info.depth + deep) ≡ b → is_allowed_in d.profile v ≡ w
      → refusal_in d s (set path v) ≡ first_that_holds ((b, fault.TooDeep) ∷ (not w, fault.Profile) ∷ [])
  refusal_is b w e allowed =
      let too_deep : is_too_deep limit path v (mentions_in s) ≡ b =
      too_deep_at d.profile limit path v s at.number info at.read.reads.valid at.read.obeys at.found at.there.of.info
      ∙ ap (λ (n : ℕ). nat_lt limit (info.depth + n)) (sym at.deep_is) ∙ e in
      by (is_node path (mentions_in s)) (has_value path (mentions_in s)) (is_too_deep limit path v (mentions_in s))
      (is_allowed_in d.profile v) (node_of_value path (mentions_in s) valued) valued too_deep allowed
    where
      by : (x y z u : Bool) → x ≡ true → y ≡ true → z ≡ b → u ≡ w
          → first_that_holds ((not x, fault.NotFound) ∷ (not y, fault.NotValue) ∷ (z, fault.TooDeep)
          ∷ (not u, fault.Profile) ∷ []) ≡ first_that_holds ((b, fault.TooDeep) ∷ (not w, fault.Profile) ∷ [])
      by true true z u e f g h =
          ap (λ (t : Bool). first_that_holds ((t, fault.TooDeep) ∷ (not u, fault.Profile) ∷ [])) g
          ∙ ap (λ (t : Bool). first_that_holds ((b, fault.TooDeep) ∷ (not t, fault.Profile) ∷ [])) h
      by true false z u e f g h = absurd cc
      by false y z u e f g h = absurd cc

  -- what is answered where the limit is passed, where the grammar has no such value, and where memory was refused
  pub deep_done : {T : Type 0} (good : T → Type 0) → limit < info.depth + deep
      → IsDone good (refusal_in d s (set path v)) (Err fault.TooDeep)
  deep_done {T} good h =
      subst (λ (r : Option EditFault). IsDone good r (Err fault.TooDeep))
      (sym (refusal_is true (is_allowed_in d.profile v) (lt-ltb limit (info.depth + deep) h) refl)) refl

  pub foreign_done : {T : Type 0} (good : T → Type 0) → info.depth + deep ≤ limit → is_allowed_in d.profile v ≡ false
      → IsDone good (refusal_in d s (set path v)) (Err fault.Profile)
  foreign_done {T} good h foreign =
      subst (λ (r : Option EditFault). IsDone good r (Err fault.Profile))
      (sym (refusal_is false false (le-ltb limit (info.depth + deep) h) foreign)) refl

  -- the value may be set
  pub record MaySet : Type 0 where
    pub fits : info.depth + deep ≤ limit
    pub allowed : is_allowed_in d.profile v ≡ true

  not_refused : MaySet → refusal_in d s (set path v) ≡ None
  not_refused may = refusal_is false true (le-ltb limit (info.depth + deep) may.fits) may.allowed

  place_is : place s (set path v) ≡ place_at info.span given
  place_is =
      set_place path v s at.number info at.read.obeys valued at.found at.there.of.info
      ∙ ap (place_at info.span) (sym at.value.reads.spelled)

  -- where it is done, and its law
  pub done_at : MaySet → IsDoneAt s (set path v) d given (Ok info.span)
  done_at may = (not_refused may, place_is, at.there.span)

  pub set_law : MaySet → IsLawfulEdit d.profile limit s (set path v)
  set_law may =
      set_lawful d.profile limit s path v
      (record { valid = at.read.reads.valid; shallow = at.read.reads.shallow; obeys = at.read.obeys })
      (record { valid = at.value.reads.valid; obeys = at.value.obeys }) (not_refused may)
