use Rattle.std.proofs.Common.{◌≡◌, ◌∙◌, rules}
use Rattle.keep_index_store.specs.Children.{Keyed, Listed}
use Rattle.std.proofs.lemmas.List.{with_items_is}
use Rattle.keep_index_store.specs.ChildForms.{children_in}
use Rattle.keep_index_store.specs.Runs.{consecutive}
use Rattle.keep_index_store.proofs.MovedKeyLemmas.{items_moved, keys_moved}
use Rattle.keep_index_store.proofs.MovedRunLemmas.{keys_end, keys_within, run_within}
use Rattle.keep_index_store.proofs.children.Children.renumber_each.Goals as goal
use Rattle.keep_index_store.proofs.children.Children.renumber_each.Goals.{in-Nothing-1, in-NoKeys-1, in-OneKey, in-Keys}
use Rattle.keep_index_store.proofs.children.Children.renumber_each.Goals.{in-Run, in-Items}

pub renumber-requires-clause-ends : goal.renumber-requires-clause-ends
renumber-requires-clause-ends c =
    let is : c.args.self.now ≡ Keyed c.deref_mut-in-Keys.result.now = search rules in
    keys_end c.args.last c.args.at c.args.self.now c.deref_mut-in-Keys.result.now c.requires is

pub renumber-requires-clause-within : goal.renumber-requires-clause-within
renumber-requires-clause-within c =
    let is : c.args.self.now ≡ Keyed c.deref_mut-in-Keys.result.now = search rules in
    keys_within c.args.last c.args.at c.args.self.now c.deref_mut-in-Keys.result.now c.requires is

pub first_then-requires-clause-within : goal.first_then-requires-clause-within
first_then-requires-clause-within c =
    let is : c.args.self.now ≡ Listed (consecutive c.in-Run.first c.in-Run.len) = search rules in
    run_within c.args.last c.args.at c.args.self.now c.in-Run.first c.in-Run.len c.requires is

pub returns : goal.returns
returns c = elim c.match-self.branch [
  | in-Nothing-1 w ↦ search rules
  | in-NoKeys-1 w ↦ search rules
  | in-OneKey w ↦ search rules
  | in-Keys w ↦
      let old : c.args.self.now ≡ Keyed w.deref_mut-in-Keys.result.now = search rules in
      let new : children_in c.match-self.self-inside.form ≡ Keyed w.renumber.new.self = search rules in
      new ∙ keys_moved c.args.last c.args.at c.args.self.now w.deref_mut-in-Keys.result.now w.renumber.new.self old
      w.renumber.ensures
  | in-Run w ↦
      let old : c.args.self.now ≡ Listed (consecutive w.in-Run.first w.in-Run.len) = search rules in
      let new : children_in c.match-self.self-inside.form ≡ Listed (consecutive w.first_then.result w.in-Run.len) =
      search rules in
      new ∙ items_moved c.args.last c.args.at c.args.self.now (consecutive w.in-Run.first w.in-Run.len)
      (consecutive w.first_then.result w.in-Run.len) old w.first_then.ensures.run
  | in-Items w ↦
      let old : c.args.self.now ≡ Listed w.as_mut_slice.result.now = search rules in
      let new : children_in c.match-self.self-inside.form ≡ Listed w.renumber_all.new.ids =
      search (rules, with_items_is) in
      new ∙ items_moved c.args.last c.args.at c.args.self.now w.as_mut_slice.result.now w.renumber_all.new.ids old
      w.renumber_all.ensures
]
