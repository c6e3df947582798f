-- Why no edit is refused for the profile of its value, where that is the profile of the document.
--
-- The refusal of an edit is the first condition of a list that holds. Only one condition gives the fault `Profile`, and
-- it holds only if the profile does not allow the value; no other condition gives that fault (`NeverStates`, with a law
-- for each length of the list). If the value is allowed, the fault is never given: of one edit (`never_refused`), by
-- induction of a list of edits (`never_applied`), and then of each command (`never_edit`). A value read in Strict is
-- allowed in Strict (`strict_allowed`), and Wide allows every value (`wide_allowed`).
--
-- Theorem: `never_profile`.
use Rattle.std.proofs.Common.{◌≡◌, ◌⊎◌, ◌∙◌, ◌&&◌, ◌||◌, ℕ, zero, suc, Bool, true, false, not, List, [], ◌∷◌, take}
use Rattle.std.proofs.Common.{Option, Some, None, refl, sym, ap, subst, inl, inr, option_map}
use Rattle.std.specs.Prelude.{◌==◌, drop, length, nat_lt, Result, Ok, Err, IfErr, IsErrAnd}
use Rattle.std.specs.List.{AllZip, list_any}
use Rattle.keep_types.specs.declared.leaf.Profile.{Profile}
use Rattle.keep_types.specs.declared.leaf.Profile.TheVariants.{Strict, Wide}
use Rattle.keep_syntax.specs.Tree.{Document, Value}
use Rattle.keep_meaning.specs.Meaning.{mentions_in}
use Rattle.keep_meaning.specs.Marks.{Mention, Statement, element_header, header, marks, statement_mentions}
use Rattle.keep_syntax.specs.declared.fault.Why.{Why}
use Rattle.keep_meaning.specs.Nodes.{fact_at, is_node, is_root, mark_count}
use Rattle.keep_path.specs.Path.{Part}
use Rattle.keep_edit_spec.specs.declared.fault.EditFault.{EditFault}
use Rattle.keep_edit_spec.specs.declared.fault.EditFault.TheVariants as fault
use Rattle.keep_edit_spec.specs.Answers as answers
use Rattle.keep_edit_spec.specs.Answers.{string_of, value_at, at_node, or_not_value, applied_from}
use Rattle.keep_edit_spec.specs.Edits as law
use Rattle.keep_edit_spec.specs.Edits.{edited_document}
use Rattle.keep_edit_spec.specs.Look.{holder, is_index, is_table, item_count, item_number, without_last}
use Rattle.keep_syntax.specs.Profiles.{is_allowed_in}
use Rattle.keep_edit_spec.specs.Refusals.{beside, end_reading, ends_in_index, first_conflict, is_empty, or_conflict}
use Rattle.keep_edit_spec.specs.Refusals.{refusal_by, first_that_holds, has_value, is_foreign, is_one_piece}
use Rattle.keep_edit_spec.specs.Refusals.{is_too_deep, refusal}
use Rattle.keep_edit.specs.Reading.{limit, text_in}
use Rattle.keep_rules.proofs.Shared.{strict_value}
use Rattle.keep_edit.specs.Lists.{IsEdit}
use Rattle.keep_commands.specs.Answer.{IsEditRefusal, IsProfileFault, IsRefusal, profile_of}
use Rattle.keep_commands.specs.OwnValues.{AreStrict, HasOwnValues, IsStrictEdit}
use Rattle.keep_commands.specs.declared.command.Command.{Command}
use Rattle.keep_commands.specs.declared.command.Command.TheVariants as command
use Rattle.keep_edit_plan.specs.declared.edit.Edit.{Edit}
use Rattle.keep_edit_plan.specs.declared.edit.Edit.TheVariants as edit
use Rattle.keep_commands.specs.declared.fault.RunFault.{RunFault}
use Rattle.keep_commands.specs.declared.fault.RunFault.TheVariants as run

-- the conditions that tell this fault do not hold
abbrev NeverStates : EditFault → List (Bool × EditFault) → Type 0
NeverStates f [] = Unit {0}
NeverStates f (c ∷ cs) = (c.1 ≡ f → c.0 ≡ false) × NeverStates f cs

never_first : (f : EditFault) (cs : List (Bool × EditFault)) → NeverStates f cs → first_that_holds cs ≡ Some f → ⊥
never_first f [] never h = let no : None ≡ Some f = h in cc
never_first f ((true, g) ∷ cs) never h =
    let same : Some g ≡ Some f = h in let no : true ≡ false = never.0 (let is : g ≡ f = cc in is) in cc
never_first f ((false, g) ∷ cs) never h = never_first f cs never.1 h

not_found : fault.NotFound ≡ fault.Profile → ⊥
not_found bad = cc

exists_not : fault.Exists ≡ fault.Profile → ⊥
exists_not bad = cc

not_value : fault.NotValue ≡ fault.Profile → ⊥
not_value bad = cc

not_table : fault.NotTable ≡ fault.Profile → ⊥
not_table bad = cc

not_key : fault.NotKey ≡ fault.Profile → ⊥
not_key bad = cc

scattered_not : fault.Scattered ≡ fault.Profile → ⊥
scattered_not bad = cc

too_deep_not : fault.TooDeep ≡ fault.Profile → ⊥
too_deep_not bad = cc

-- conditions that tell other faults
never_three : (a b c : Bool) (f g h : EditFault) → (f ≡ fault.Profile → ⊥) → (g ≡ fault.Profile → ⊥)
    → (h ≡ fault.Profile → c ≡ false) → first_that_holds ((a, f) ∷ (b, g) ∷ (c, h) ∷ []) ≡ Some fault.Profile → ⊥
never_three a b c f g h x y z =
    never_first fault.Profile ((a, f) ∷ (b, g) ∷ (c, h) ∷ []) ((λ e. absurd (x e)), ((λ e. absurd (y e)), (z, tt)))

never_four : (a b c d : Bool) (f g h i : EditFault) → (f ≡ fault.Profile → ⊥) → (g ≡ fault.Profile → ⊥)
    → (h ≡ fault.Profile → ⊥) → (i ≡ fault.Profile → d ≡ false)
    → first_that_holds ((a, f) ∷ (b, g) ∷ (c, h) ∷ (d, i) ∷ []) ≡ Some fault.Profile → ⊥
never_four a b c d f g h i x y z w =
    never_first fault.Profile ((a, f) ∷ (b, g) ∷ (c, h) ∷ (d, i) ∷ [])
    ((λ e. absurd (x e)), ((λ e. absurd (y e)), ((λ e. absurd (z e)), (w, tt))))

states_conflict : (o : Option Why) → option_map fault.Conflict o ≡ Some fault.Profile → ⊥
states_conflict None h = let no : ◌≡◌ {A = Option EditFault} None (Some fault.Profile) = h in cc
states_conflict (Some why) h = let no : Some (fault.Conflict why) ≡ Some fault.Profile = h in cc

never_appended : (keys : List (List ℕ)) (statement : Statement) (ms : List Mention)
    → or_conflict (first_that_holds ((is_empty keys, fault.NotKey) ∷ [])) statement ms ≡ Some fault.Profile → ⊥
never_appended [] statement ms h = let no : Some fault.NotKey ≡ Some fault.Profile = h in cc
never_appended (k ∷ ks) statement ms h =
    states_conflict (first_conflict (marks ms) (marks (statement_mentions (end_reading ms) statement))) h

never_five : (a b c d e : Bool) → e ≡ false
    → first_that_holds ((a, fault.NotFound) ∷ (b, fault.Exists) ∷ (c, fault.NotTable) ∷ (d, fault.TooDeep)
    ∷ (e, fault.Profile) ∷ []) ≡ Some fault.Profile → ⊥
never_five a b c d e own =
    never_first fault.Profile ((a, fault.NotFound) ∷ (b, fault.Exists) ∷ (c, fault.NotTable) ∷ (d, fault.TooDeep)
    ∷ (e, fault.Profile) ∷ []) (
      (λ x. absurd (not_found x)),
      ((λ x. absurd (exists_not x)), ((λ x. absurd (not_table x)), ((λ x. absurd (too_deep_not x)), ((λ x. own), tt)))),
    )

never_inserted : (profile : Profile) (path : List Part) (value : Value) (ms : List Mention)
    → is_allowed_in profile value ≡ true → refusal_by profile limit ms (law.insert path value) ≡ Some fault.Profile → ⊥
never_inserted profile path value ms allowed h = by (item_number path ms) refl
  where
    by : (o : Option ℕ) → item_number path ms ≡ o → ⊥
    by (Some n) e =
        never_three (nat_lt (item_count (without_last path) ms) n) (is_too_deep limit path value ms)
        (is_foreign profile value) fault.NotFound fault.TooDeep fault.Profile not_found too_deep_not
        (λ x. ap not allowed) (rw (e, refusal_by) at h)
    by None e =
        never_five (not (is_node path ms) && list_any is_index (drop (length (holder path ms)) path)) (is_node path ms)
        (not (is_table (holder path ms) ms)) (is_too_deep limit path value ms) (is_foreign profile value)
        (ap not allowed) (rw (e, refusal_by) at h)

-- the value of the edit, if it gives one, is allowed in the profile
abbrev IsAllowed : Profile → law.Edit → Type 0
IsAllowed profile (law.set path v) = is_allowed_in profile v ≡ true
IsAllowed profile (law.insert path v) = is_allowed_in profile v ≡ true
IsAllowed profile _ = Unit {0}

never_refused : (profile : Profile) (e : law.Edit) (s : Document) → IsAllowed profile e
    → refusal profile limit s e ≡ Some fault.Profile → ⊥
never_refused profile (law.set path v) s allowed h =
    never_four (not (is_node path (mentions_in s))) (not (has_value path (mentions_in s)))
    (is_too_deep limit path v (mentions_in s)) (is_foreign profile v) fault.NotFound fault.NotValue fault.TooDeep
    fault.Profile not_found not_value too_deep_not (λ is. ap not allowed) h
never_refused profile (law.insert path v) s allowed h = never_inserted profile path v (mentions_in s) allowed h
never_refused profile (law.rename path name) s allowed h =
    never_four (not (is_node path (mentions_in s)))
    ((not (is_root path) && not (ends_in_index path)) && is_node (beside path name) (mentions_in s))
    (is_root path || ends_in_index path) (not (mark_count path (mentions_in s) == 1)) fault.NotFound fault.Exists
    fault.NotKey fault.Scattered not_found exists_not not_key (λ is. absurd (scattered_not is)) h
never_refused profile (law.remove path) s allowed h =
    never_three (not (is_node path (mentions_in s))) (is_root path) (not (is_one_piece path (mentions_in s)))
    fault.NotFound fault.NotKey fault.Scattered not_found not_key (λ is. absurd (scattered_not is)) h
never_refused profile (law.append_table keys) s allowed h = never_appended keys (header keys) (mentions_in s) h
never_refused profile (law.append_element keys) s allowed h =
    never_appended keys (element_header keys) (mentions_in s) h

-- ---- whose values are allowed

strict_allowed : (e : Edit) (le : law.Edit) → IsStrictEdit e → IsEdit e le → IsAllowed Strict le
strict_allowed (edit.Set path value) le strict (v, read, same) =
    subst (IsAllowed Strict) (sym same) (strict_value value v read strict)
strict_allowed (edit.Insert path value) le strict (v, read, same) =
    subst (IsAllowed Strict) (sym same) (strict_value value v read strict)
strict_allowed (edit.Rename path key) le strict same = subst (IsAllowed Strict) (sym same) tt
strict_allowed (edit.Remove path) le strict same = subst (IsAllowed Strict) (sym same) tt
strict_allowed (edit.Table keys) le strict same = subst (IsAllowed Strict) (sym same) tt
strict_allowed (edit.Element keys) le strict same = subst (IsAllowed Strict) (sym same) tt

wide_allowed : (e : law.Edit) → IsAllowed Wide e
wide_allowed (law.set path v) = refl
wide_allowed (law.insert path v) = refl
wide_allowed (law.rename path name) = tt
wide_allowed (law.remove path) = tt
wide_allowed (law.append_table keys) = tt
wide_allowed (law.append_element keys) = tt

abbrev AreAllowed : Profile → List law.Edit → Type 0
AreAllowed profile [] = Unit {0}
AreAllowed profile (e ∷ es) = IsAllowed profile e × AreAllowed profile es

all_strict : (edits : List Edit) (es : List law.Edit) → AreStrict edits → AllZip IsEdit edits es → AreAllowed Strict es
all_strict [] [] strict are = tt
all_strict [] (e ∷ es) strict are = absurd are
all_strict (x ∷ xs) [] strict are = absurd are
all_strict (x ∷ xs) (e ∷ es) strict are = (strict_allowed x e strict.0 are.0, all_strict xs es strict.1 are.1)

all_wide : (es : List law.Edit) → AreAllowed Wide es
all_wide [] = tt
all_wide (e ∷ es) = (wide_allowed e, all_wide es)

err_same : {T E : Type 0} (a b : E) → ◌≡◌ {A = Result T E} (Err a) (Err b) → a ≡ b
err_same a b h = cc

abbrev refused_as : ℕ → EditFault → answers.Refused
refused_as n f = record { number = n; fault = f }

never_applied : (profile : Profile) (es : List law.Edit) (n k : ℕ) (s : Document) → AreAllowed profile es
    → applied_from profile limit n es s ≡ Err (refused_as k fault.Profile) → ⊥
never_applied profile [] n k s allowed h = let no : Ok s ≡ Err (refused_as k fault.Profile) = h in cc
never_applied profile (e ∷ es) n k s allowed h =
    by (refusal profile limit s e) refl (never_applied profile es (suc n) k (edited_document s e) allowed.1)
  where
    by : (o : Option EditFault) → refusal profile limit s e ≡ o
        → (applied_from profile limit (suc n) es (edited_document s e) ≡ Err (refused_as k fault.Profile) → ⊥) → ⊥
    by None is more = more (rw (is, applied_from) at h)
    by (Some f) is more =
        let stated : Err (refused_as n f) ≡ Err (refused_as k fault.Profile) = rw (is, applied_from) at h in
        let same : f ≡ fault.Profile =
        ap (λ (r : answers.Refused). r.fault) (err_same (refused_as n f) (refused_as k fault.Profile) stated) in
        never_refused profile e s allowed.0 (is ∙ ap (λ (g : EditFault). Some g) same)

strict_prefix : (n : ℕ) (edits : List Edit) → AreStrict edits → AreStrict (take n edits)
strict_prefix zero edits h = tt
strict_prefix (suc n) [] h = tt
strict_prefix (suc n) (e ∷ es) h = (h.0, strict_prefix n es h.1)

not_stated : {A : Type 0} (found : Option A) → or_not_value found ≡ Err fault.Profile → ⊥
not_stated {A} None h = let no : ◌≡◌ {A = Result A EditFault} (Err fault.NotValue) (Err fault.Profile) = h in cc
not_stated (Some a) h = let no : Ok a ≡ Err fault.Profile = h in cc

never_at : {A : Type 0} (path : List Part) (s : Document) (found : Option A) → at_node path s found ≡ Err fault.Profile
    → ⊥
never_at {A} path s found h = by (is_node path (mentions_in s)) refl
  where
    by : (b : Bool) → is_node path (mentions_in s) ≡ b → ⊥
    by true e = not_stated found (rw (e, at_node) at h)
    by false e =
        let no : ◌≡◌ {A = Result A EditFault} (Err fault.NotFound) (Err fault.Profile) = rw (e, at_node) at h in cc

never_edit : (c : Command) (bytes : List ℕ) (n : ℕ) → HasOwnValues c
    → IsEditRefusal c (text_in (profile_of c) bytes) n fault.Profile → ⊥
unfolding IsEditRefusal
never_edit command.Check bytes n own h = absurd h
never_edit command.CheckWide bytes n own h = absurd h
never_edit command.List bytes n own h = absurd h
never_edit (command.Get path) bytes n own (first, (s, read, got)) = never_at path s (value_at path s) got
never_edit (command.Text path) bytes n own (first, (s, read, got)) =
    never_at path s (string_of (fact_at path (mentions_in s))) got
never_edit (command.Apply edits) bytes n own (s, read, r) =
    never_applied Strict r.es 0 n s
    (all_strict (take (suc n) edits.items) r.es (strict_prefix (suc n) edits.items own) r.are) r.refused
never_edit (command.ApplyWide edits) bytes n own (s, read, r) = never_applied Wide r.es 0 n s (all_wide r.es) r.refused

-- no command is refused so
pub never_profile : (c : Command) (bytes : List ℕ) (f : RunFault) → HasOwnValues c
    → (f ≡ run.Memory) ⊎ IsRefusal c (text_in (profile_of c) bytes) f → IsProfileFault f → ⊥
never_profile c bytes (run.Edit n fault.Profile) own (inl memory) is =
    let no : run.Edit n fault.Profile ≡ run.Memory = memory in cc
never_profile c bytes (run.Edit n fault.Profile) own (inr refusal) is = never_edit c bytes n own refusal
never_profile c bytes f own stated is = absurd is

-- what `?` passes up
pub passed_up : {T : Type 0} (r : Result T RunFault) (f : RunFault) → IsErrAnd r (λ e. e ≡ f) → (IsProfileFault f → ⊥)
    → IfErr r (λ e. IsProfileFault e → ⊥)
passed_up (Ok x) f is never = absurd is
passed_up (Err e) f is never = λ stated. never (subst IsProfileFault is stated)
