use Rattle.std.proofs.Common.{◌≡◌, ◌⊎◌, arith, refl, ℕ, List, rules, string_bytes}
use Rattle.keep_types.specs.declared.leaf.Profile.TheVariants.{Strict}
use Rattle.keep_rules.proofs.Shared.{in_wide}
use Rattle.keep_edit_plan.specs.KeyNumbers.{HasKey}
use Rattle.keep_edit_plan.specs.OpenKeyvals.{AreOtherKeys, KeysAre}
use Rattle.keep_edit_plan.specs.OpenPlaces.{CanBeNested}
use Rattle.keep_edit_plan.specs.declared.open_value.EntryPlace.{EntryPlace}
use Rattle.keep_edit_plan.proofs.OpenKeyvalLaws.{keyval_holds, keyval_puts, said_here}
use Rattle.keep_edit_plan.proofs.open_value.OpenValue.with_keyval.Goals as goal

pub overflow_add-depth : goal.overflow_add-depth
overflow_add-depth c =
    let can : CanBeNested c.args.value.now = c.if-not-can_be_nested.ensures refl in
    omega (arith, c.depth.ensures can.0 (in_wide Strict c.args.value.now can.0 can.1), can.2)

pub invariant_of-result : goal.invariant_of-result
invariant_of-result c =
    let can : CanBeNested c.args.value.now = c.if-not-can_be_nested.ensures refl in
    let deep = c.depth.ensures can.0 (in_wide Strict c.args.value.now can.0 can.1) in
    let numbers = c.in_ok-keys.keys in
    let Known : List ℕ → List EntryPlace → Type 0 =
    λ b ps. numbers ≡ c.self.inside.keys ⊎ KeysAre (HasKey numbers) b 1 ps in
    let New : List ℕ → List EntryPlace → Type 0 =
    λ b ps. (¬ HasKey numbers c.args.name.now) ⊎ AreOtherKeys c.args.name.now b 1 ps in
    keyval_holds _ _ _ _ _ c.self.invariant c.in-Inline.is c.args.name.now c.utf8.name numbers
    (said_here Known _ _ _ _ c.as_str.ensures.value c.deref.ensures.value c.in_ok-keys.ensures)
    (said_here New _ _ _ _ c.as_str-2.ensures.value c.deref-2.ensures.value (c.if-not-is_new_key.ensures refl))
    c.args.value.now can.0 can.1 can.2 c.len-number.result (search rules) (string_bytes c.in_ok-keyval.keyval)
    (search rules) _ c.in_ok-at.at _ _ _ c.in_ok-keys-2.ensures.added c.in_ok-keys-2.ensures.others (search rules)
    (search rules) (search rules) (search rules)

pub returns : goal.returns
returns c =
    let can : CanBeNested c.args.value.now = c.if-not-can_be_nested.ensures refl in
    let numbers = c.in_ok-keys.keys in
    let Known : List ℕ → List EntryPlace → Type 0 =
    λ b ps. numbers ≡ c.self.inside.keys ⊎ KeysAre (HasKey numbers) b 1 ps in
    let New : List ℕ → List EntryPlace → Type 0 =
    λ b ps. (¬ HasKey numbers c.args.name.now) ⊎ AreOtherKeys c.args.name.now b 1 ps in
    let it = keyval_puts _ _ _ _ _ c.self.invariant c.in-Inline.is c.args.name.now c.utf8.name numbers
    (said_here Known _ _ _ _ c.as_str.ensures.value c.deref.ensures.value c.in_ok-keys.ensures)
    (said_here New _ _ _ _ c.as_str-2.ensures.value c.deref-2.ensures.value (c.if-not-is_new_key.ensures refl))
    c.args.value.now can.0 can.1 can.2 c.len-number.result (search rules) (string_bytes c.in_ok-keyval.keyval)
    (search rules) c.in_ok-text.text.bytes.items c.in_ok-at.at (search rules) (search rules) in
    rw c.self.view_is at it
