-- The computed first fault is the first faulty mark.
--
-- Theorems: `first_fault_after-states`: so it is, and where there is no fault, the marks obey the rules; `not_both`:
-- marks with a first faulty one do not obey them.
use Rattle.std.proofs.Common.{ℕ, ◌≡◌, ◌<◌, ◌+◌, Bool, true, false, not, ◌&&◌, List, [], ◌∷◌, ◌++◌, length, get_or, refl}
use Rattle.std.proofs.Common.{sym, ap, ◌∙◌, subst, inl, inr, arith, length-append, Option, Some, None}
use Rattle.std.specs.List.{list_any}
use Rattle.keep_syntax.specs.declared.fault.Why.{Why}
use Rattle.std.proofs.lemmas.Bool.{and_parts, cases_Bool}
use Rattle.std.proofs.lemmas.List.{append_assoc, append-nil, get_or_append_left, get_or_at}
use Rattle.std.proofs.lemmas.List.Folds.{list_any_at, Any-from_list_any}
use Rattle.std.proofs.lemmas.List.Quantifiers.{all_pairs_push}
use Rattle.keep_path.specs.Path.{same_path}
use Rattle.keep_meaning.specs.Rules.{Mark, allows, Allows, why_of, ObeysRules, IsRefused, IsFirstFaulty}
use Rattle.keep_meaning.specs.Faults.{Fault, refuses, first_fault_after}
use Rattle.keep_path.proofs.Shared.{path_decides}

-- what the computed fault tells of the marks
abbrev pub StatesEdits : List Mark → Option Fault → Type 0
StatesEdits ms None = ObeysRules ms
StatesEdits ms (Some f) = IsFirstFaulty ms f.number f.why

not_true : (b : Bool) → not b ≡ true → b ≡ false
not_true true h = absurd cc
not_true false h = refl

refuses_both : (s a : Bool) → s ≡ true → a ≡ false → (s && not a) ≡ true
refuses_both true false h g = refl
refuses_both true true h g = absurd cc
refuses_both false a h g = absurd cc

-- a mark that no earlier one refuses may join them
pushed : (earlier : List Mark) (m : Mark) → ObeysRules earlier → list_any (refuses m) earlier ≡ false
    → ObeysRules (earlier ++ m ∷ [])
pushed earlier m obeys free = all_pairs_push Allows earlier m obeys (λ k d h same.
    let e : Mark = get_or earlier k d in
    elim (cases_Bool (allows e.role m.role)) [
      | inl allowed ↦ allowed
      | inr not_allowed ↦
          let hit : refuses m e ≡ true =
          refuses_both (same_path e.path m.path) (allows e.role m.role) ((path_decides e.path m.path).1 same)
          not_allowed in
          let found : list_any (refuses m) earlier ≡ true = list_any_at (refuses m) earlier k d h hit in
          absurd cc
    ])

-- a mark that an earlier one refuses
refused_by : (earlier : List Mark) (m : Mark) → list_any (refuses m) earlier ≡ true → IsRefused earlier m
refused_by earlier m hit =
    let any = Any-from_list_any (refuses m) earlier hit in
    let both = and_parts (same_path any.1.path m.path) (not (allows any.1.role m.role)) any.4 in (
      any.0,
      any.1,
      any.2,
      any.3,
      ((path_decides any.1.path m.path).0 both.0, not_true (allows any.1.role m.role) both.1),
    )

step : (earlier : List Mark) (m : Mark) (ms : List Mark) (b : Bool) → list_any (refuses m) earlier ≡ b
    → ObeysRules earlier
    → (list_any (refuses m) earlier ≡ false
    → StatesEdits ((earlier ++ m ∷ []) ++ ms) (first_fault_after (earlier ++ m ∷ []) ms))
    → StatesEdits (earlier ++ m ∷ ms)
    (elim b [
      | true ↦ Some (record { number = length earlier; why = why_of m.role })
      | false ↦
          first_fault_after (earlier ++ m ∷ []) ms
    ])
step earlier m ms true hit obeys more =
    record {
      before = earlier;
      mark = m;
      after = ms;
      here = refl;
      number = refl;
      obeys = obeys;
      refused = refused_by earlier m hit;
      reason = refl;
    }
step earlier m ms false free obeys more =
    subst (λ (xs : List Mark). StatesEdits xs (first_fault_after (earlier ++ m ∷ []) ms))
    (append_assoc earlier (m ∷ []) ms) (more free)

pub first_fault_after-states : (earlier more : List Mark) → ObeysRules earlier
    → StatesEdits (earlier ++ more) (first_fault_after earlier more)
first_fault_after-states earlier [] obeys = subst ObeysRules (sym (append-nil earlier)) obeys
first_fault_after-states earlier (m ∷ ms) obeys =
    step earlier m ms (list_any (refuses m) earlier) refl obeys
    (λ free. first_fault_after-states (earlier ++ m ∷ []) ms (pushed earlier m obeys free))

-- a document with a first faulty mark does not obey the rules
pub not_both : (ms : List Mark) (n : ℕ) (why : Why) → IsFirstFaulty ms n why → ObeysRules ms → ⊥
not_both ms n why first obeys =
    let k : ℕ = first.refused.0 in
    let e : Mark = first.refused.1 in
    let low : k < length first.before = first.refused.2 in
    let j : ℕ = length first.before in
    let long : length ms ≡ length first.before + (1 + length first.after) =
    ap length first.here ∙ length-append first.before (first.mark ∷ first.after) ∙ omega arith in
    let left : get_or ms k e ≡ e =
    ap (λ l. get_or l k e) first.here ∙ get_or_append_left first.before (first.mark ∷ first.after) e k low
    ∙ first.refused.3 in
    let right : get_or ms j e ≡ first.mark =
    ap (λ l. get_or l j e) first.here ∙ get_or_at first.before first.mark first.after e j refl in
    let yes = obeys k j e low (omega arith) in
    let same : (get_or ms k e).path ≡ (get_or ms j e).path =
    ap (λ (m : Mark). m.path) left ∙ first.refused.4.0 ∙ ap (λ (m : Mark). m.path) (sym right) in
    let no : allows (get_or ms k e).role (get_or ms j e).role ≡ false =
    ap (λ (m : Mark). allows m.role (get_or ms j e).role) left ∙ ap (λ (m : Mark). allows e.role m.role) right
    ∙ first.refused.4.1 in
    let clash : true ≡ false = sym (yes same) ∙ no in
    absurd (cc)
