use Rattle.std.proofs.Common.{◌≡◌, ◌∙◌, List, ℕ, rules}
use Rattle.keep_index_store.specs.Children.{Keyed, Listed}
use Rattle.std.proofs.lemmas.List.{with_items_is}
use Rattle.keep_index_store.specs.ChildForms.{children_in}
use Rattle.keep_index_store.specs.Runs.{consecutive}
use Rattle.keep_index_store.proofs.ShiftedLemmas.{items_can, items_shifted, keys_can, keys_end, keys_shifted, run_can}
use Rattle.keep_index_store.proofs.ShiftedLemmas.{run_sides}
use Rattle.keep_index_store.proofs.children.Children.shift_each.Goals as goal
use Rattle.keep_index_store.proofs.children.Children.shift_each.Goals.{in-Nothing-1, in-NoKeys-1, in-OneKey}
use Rattle.keep_index_store.proofs.children.Children.shift_each.Goals.{in-Keys, in-Run, in-Items}

pub shift-requires-clause-ends : goal.shift-requires-clause-ends
shift-requires-clause-ends c =
    let is : c.args.self.now ≡ Keyed c.deref_mut-in-Keys.result.now = search rules in
    keys_end c.args.by.now c.args.self.now c.deref_mut-in-Keys.result.now c.requires is

pub shift-requires-clause-fit : goal.shift-requires-clause-fit
shift-requires-clause-fit c =
    let is : c.args.self.now ≡ Keyed c.deref_mut-in-Keys.result.now = search rules in
    keys_can c.args.by.now c.args.self.now c.deref_mut-in-Keys.result.now c.requires is

pub first_shifted-requires-clause-can : goal.first_shifted-requires-clause-can
first_shifted-requires-clause-can c =
    let is : c.args.self.now ≡ Listed (consecutive c.in-Run.first c.in-Run.len) = search rules in
    run_can c.args.by.now c.args.self.now c.in-Run.first c.in-Run.len c.requires is

pub first_shifted-requires-clause-sides : goal.first_shifted-requires-clause-sides
first_shifted-requires-clause-sides c =
    let is : c.args.self.now ≡ Listed (consecutive c.in-Run.first c.in-Run.len) = search rules in
    run_sides c.args.by.now c.args.self.now c.in-Run.first c.in-Run.len c.requires is

pub shift_ids-requires : goal.shift_ids-requires
shift_ids-requires c =
    let is : c.args.self.now ≡ Listed c.as_mut_slice.result.now = search rules in
    items_can c.args.by.now c.args.self.now c.as_mut_slice.result.now c.requires is

pub returns : goal.returns
returns c = elim c.match-self.branch [
  | in-Nothing-1 w ↦ search rules
  | in-NoKeys-1 w ↦ search rules
  | in-OneKey w ↦ search rules
  | in-Keys w ↦
      let pairs : List (List ℕ × ℕ) = w.deref_mut-in-Keys.result.now in
      let next : List (List ℕ × ℕ) = w.shift.new.self in
      let old : c.args.self.now ≡ Keyed pairs = search rules in
      let new : children_in c.match-self.self-inside.form ≡ Keyed next = search rules in
      new ∙ keys_shifted c.args.by.now c.args.self.now pairs next old w.shift.ensures
  | in-Run w ↦
      let ids : List ℕ = consecutive w.in-Run.first w.in-Run.len in
      let next : List ℕ = consecutive w.first_shifted.result w.in-Run.len in
      let old : c.args.self.now ≡ Listed ids = search rules in
      let new : children_in c.match-self.self-inside.form ≡ Listed next = search rules in
      new ∙ items_shifted c.args.by.now c.args.self.now ids next old w.first_shifted.ensures.run
  | in-Items w ↦
      let ids : List ℕ = w.as_mut_slice.result.now in
      let next : List ℕ = w.shift_ids.new.ids in
      let old : c.args.self.now ≡ Listed ids = search rules in
      let new : children_in c.match-self.self-inside.form ≡ Listed next = search (rules, with_items_is) in
      new ∙ items_shifted c.args.by.now c.args.self.now ids next old w.shift_ids.ensures
]
