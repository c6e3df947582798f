-- The search ends behind the edits that begin before the place, since the edits follow one another. Only the last of
-- those can replace the byte before the place, and it does so exactly if it ends there.
use Rattle.std.proofs.Common.{◌≡◌, ◌≢◌, ℕ, ◌+◌, ◌-◌, ◌<◌, ◌≤◌, List, All, false, get_or, length, ltb, map, true}
use Rattle.std.proofs.Common.{ap, arith, rules, subst, subst₂, sym, ◌∙◌}
use Rattle.std.proofs.lemmas.Bool.{ltb-true}
use Rattle.std.proofs.lemmas.Fn.{always_returns_same}
use Rattle.std.proofs.lemmas.List.{get_or_read}
use Rattle.std.proofs.lemmas.List.Sorted.{IsPartitionedBy-ltb}
use Rattle.std.specs.List.Sorted.{IsPartitionPoint}
use Rattle.keep_edit_spec.specs.Runs.{takes_up_to}
use Rattle.keep_edit_spec.specs.TextChanges.{Follow, TextChange}
use Rattle.keep_edit_plan.specs.declared.text_edit.TextEdit.{TextEdit}
use Rattle.keep_edit_plan.specs.TextEdits.{TakesAlone, change_of}
use Rattle.keep_edit_plan.proofs.TextEditLaws.{follow_order, none_takes, one_alone, others_take_not, start_of, takes_it}
use Rattle.keep_edit_plan.proofs.text_edits.TextEdits.taking_up_to.Goals as goal
use Rattle.keep_edit_plan.proofs.text_edits.TextEdits.taking_up_to.Goals.{
  After-partition_point-after,
  then-after-eq0-via-then-after-eq0,
  then-after-eq0-via-else-after-eq0+then-index-place,
}

module _ (c : After-partition_point-after) where
  abbrev edits : List TextEdit
  edits = c.self.inside.edits.items

  abbrev after : ℕ
  after = c.partition_point-after.result

  within : after ≤ length edits
  within =
      subst (λ (ts : List TextEdit). after ≤ length ts) c.deref.ensures.value c.partition_point-after.ensures.bound

  point : IsPartitionPoint (λ (t : TextEdit). ltb (start_of t) c.args.place ≡ true)
      (λ (t : TextEdit). ltb (start_of t) c.args.place ≡ false) edits after
  point =
      let all = c.deref.result.now in
      let follow : Follow 0 (map change_of all) =
      subst (λ ts. Follow 0 (map change_of ts)) (sym c.deref.ensures.value) c.self.invariant.0 in
      let parted = IsPartitionedBy-ltb start_of all c.args.place (follow_order 0 all follow) in
      subst (λ ts. IsPartitionPoint (λ (t : TextEdit). ltb (start_of t) c.args.place ≡ true)
      (λ (t : TextEdit). ltb (start_of t) c.args.place ≡ false) ts after) c.deref.ensures.value
      (c.partition_point-after.ensures.partitioned (λ (t : TextEdit). ltb t.place.start c.args.place)
      (search (rules, always_returns_same)) parted)

pub returns-then-after-eq0-clause-other : goal.returns-then-after-eq0-clause-other
returns-then-after-eq0-clause-other c =
    λ none.
    let at = (goal.at.returns-then-after-eq0-clause-other c).After-partition_point-after in
    let edits = c.self.inside.edits.items in
    let after = c.partition_point-after.result in
    let place = c.args.place in
    let elsewhere : (k : ℕ) (d : TextEdit) → k < length edits → k + 1 ≡ after → (get_or edits k d).place.end ≢ place =
    λ k d w is. elim c.then-after-eq0.branch [
      | then-after-eq0-via-then-after-eq0 b ↦ absurd (omega (arith, is, b.if-after-eq0.true))
      | then-after-eq0-via-else-after-eq0+then-index-place b ↦
          λ end.
          let last : after - 1 ≡ k = omega (arith, is) in
          let read = get_or_read edits (after - 1) b.index.result.now (omega (arith, w, is)) b.index.ensures d in
          b.if-index-place.true
          (ap (λ (t : TextEdit). t.place.end) read ∙ ap (λ n. (get_or edits n d).place.end) last ∙ end)
    ] in
    subst (λ (changes : List TextChange). All (λ x. takes_up_to place x ≡ false) changes) c.self.view_is
    (none_takes place edits after c.self.invariant.0 c.self.invariant.1 (within at) (point at) elsewhere)

pub returns-clause-one : goal.returns-clause-one
returns-clause-one c =
    let at = (goal.at.returns-clause-one c).After-partition_point-after in
    let edits = c.self.inside.edits.items in
    let after = c.partition_point-after.result in
    let place = c.args.place in
    let there = c.index-2.result.now in
    let last : after - 1 < length edits = omega (arith, within at, c.if-after-eq0.false) in
    let starts : start_of (get_or edits (after - 1) there) < place =
    ltb-true (start_of (get_or edits (after - 1) there)) place
    ((point at).0 (after - 1) there (omega arith) (omega (arith, c.if-after-eq0.false))) in
    let ends : (get_or edits (after - 1) there).place.end ≡ place =
    sym (ap (λ (t : TextEdit). t.place.end)
    (get_or_read edits (after - 1) c.index.result.now last c.index.ensures there))
    ∙ c.if-index-place.false in
    let takes : takes_up_to place (change_of (get_or edits (after - 1) there)) ≡ true =
    takes_it place (get_or edits (after - 1) there) (omega (arith, starts, ends)) ends in
    subst₂ (λ (changes : List TextChange) t. TakesAlone place changes (change_of t)) c.self.view_is
    (sym c.index-2.ensures)
    (one_alone place edits (after - 1) there last takes
    (λ k e w other. others_take_not place edits after c.self.invariant.0 c.self.invariant.1 (within at) (point at) k e w
    (λ is. absurd (other (omega (arith, is))))))
