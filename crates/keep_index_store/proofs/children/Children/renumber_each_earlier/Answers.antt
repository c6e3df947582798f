use Rattle.std.proofs.Common.{◌≡◌, ◌∙◌, List, ℕ, rules, subst}
use Rattle.keep_index_store.specs.Children.{ChildList, Keyed, Listed, child_ids}
use Rattle.keep_index_store.specs.Moved.{EndsLate}
use Rattle.std.proofs.lemmas.List.{with_items_is}
use Rattle.keep_index_store.specs.ChildForms.{children_in}
use Rattle.keep_index_store.specs.Runs.{consecutive}
use Rattle.keep_index_store.proofs.RemovedKeyLemmas.{items_earlier, keys_earlier}
use Rattle.keep_index_store.proofs.RemovedRunLemmas.{run_apart}
use Rattle.keep_index_store.proofs.children.Children.renumber_each_earlier.Goals as goal
use Rattle.keep_index_store.proofs.children.Children.renumber_each_earlier.Goals.{in-Nothing-1, in-NoKeys-1, in-OneKey}
use Rattle.keep_index_store.proofs.children.Children.renumber_each_earlier.Goals.{in-Keys, in-Run, in-Items}

pub first_earlier-requires-clause-apart : goal.first_earlier-requires-clause-apart
first_earlier-requires-clause-apart c =
    let is : c.args.self.now ≡ Listed (consecutive c.in-Run.first c.in-Run.len) = search rules in
    run_apart c.args.at c.args.self.now c.in-Run.first c.in-Run.len c.requires.apart is

pub renumber_earlier-requires : goal.renumber_earlier-requires
renumber_earlier-requires c =
    let is : c.args.self.now ≡ Keyed c.deref_mut-in-Keys.result.now = search rules in
    subst (λ (k : ChildList). EndsLate c.args.at (child_ids k)) is c.requires.ends

pub returns : goal.returns
returns c = elim c.match-self.branch [
  | in-Nothing-1 w ↦ search rules
  | in-NoKeys-1 w ↦ search rules
  | in-OneKey w ↦ search rules
  | in-Keys w ↦
      let pairs : List (List ℕ × ℕ) = w.deref_mut-in-Keys.result.now in
      let next : List (List ℕ × ℕ) = w.renumber_earlier.new.self in
      let old : c.args.self.now ≡ Keyed pairs = search rules in
      let new : children_in c.match-self.self-inside.form ≡ Keyed next = search rules in
      new ∙ keys_earlier c.args.at c.args.self.now pairs next old w.renumber_earlier.ensures
  | in-Run w ↦
      let ids : List ℕ = consecutive w.in-Run.first w.in-Run.len in
      let next : List ℕ = consecutive w.first_earlier.result w.in-Run.len in
      let old : c.args.self.now ≡ Listed ids = search rules in
      let new : children_in c.match-self.self-inside.form ≡ Listed next = search rules in
      new ∙ items_earlier c.args.at c.args.self.now ids next old w.first_earlier.ensures.run
  | in-Items w ↦
      let ids : List ℕ = w.as_mut_slice.result.now in
      let next : List ℕ = w.renumber_earlier-in-Items.new.ids in
      let old : c.args.self.now ≡ Listed ids = search rules in
      let new : children_in c.match-self.self-inside.form ≡ Listed next = search (rules, with_items_is) in
      new ∙ items_earlier c.args.at c.args.self.now ids next old w.renumber_earlier-in-Items.ensures
]
