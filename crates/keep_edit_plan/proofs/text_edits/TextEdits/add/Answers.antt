-- The edits with one more, at the number that it would have, still follow one another.
use Rattle.std.proofs.Common.{◌≡◌, Bool, true, false, List, All, insert, map, if◌then◌else◌}
use Rattle.std.proofs.Common.{is_ok, sym, subst, ap, ◌∙◌, rules, arith}
use Rattle.keep_edit_spec.specs.TextChanges.{Follow, TextChange, with_change}
use Rattle.keep_edit_spec.proofs.Shared.{follow_with}
use Rattle.keep_edit_plan.specs.declared.text_edit.TextEdit.{TextEdit}
use Rattle.keep_edit_plan.specs.TextEdits.{HasRoom, IsOrdered, change_of}
use Rattle.keep_edit_plan.proofs.TextEditLaws.{all_insert, map_insert}
use Rattle.keep_edit_plan.proofs.text_edits.TextEdits.add.Goals as goal

room : (c : goal.Joined-insert-2)
    → HasRoom (map change_of c.self.inside.edits.items) (change_of c.args.edit) c.in-Some.number
room c =
    subst (λ (xs : List TextChange). HasRoom xs (change_of c.args.edit) c.in-Some.number) (sym c.self.view_is)
    c.in-Some.ensures.room

inserted : (c : goal.Joined-insert-2)
    → map change_of (insert c.self.inside.edits.items c.in-Some.number c.args.edit)
    ≡ with_change (map change_of c.self.inside.edits.items) (change_of c.args.edit)
inserted c = map_insert c.self.inside.edits.items c.in-Some.number c.args.edit ∙ sym (room c).is

-- what the invariant says
abbrev Kept : List TextEdit → Type 0
Kept ts = Follow 0 (map change_of ts) × All IsOrdered ts

both : (P : List TextEdit → Type 0) (b : Bool) (xs ys : List TextEdit) → P xs → P ys → P (if b then xs else ys)
both P true xs ys h k = h
both P false xs ys h k = k

pub invariant_of-self : goal.invariant_of-self
invariant_of-self c =
    let edit = c.args.edit in
    let edits = c.self.inside.edits.items in
    let number = c.in-Some.number in
    let follow : Follow 0 (map change_of (insert edits number edit)) =
    subst (λ (xs : List TextChange). Follow 0 xs) (sym (inserted c))
    (follow_with 0 (map change_of edits) (change_of edit) (omega arith) c.self.invariant.0 (room c).beside) in
    let ordered : All IsOrdered (insert edits number edit) =
    all_insert IsOrdered edits edit number c.requires c.self.invariant.1 in
    subst Kept (sym c.insert.ensures.items)
    (both Kept (is_ok c.insert.result) (insert edits number edit) edits (follow, ordered) c.self.invariant)

pub returns-clause-added : goal.returns-clause-added
returns-clause-added c =
    let now = inserted c ∙ ap (λ (xs : List TextChange). with_change xs (change_of c.args.edit)) c.self.view_is in
    search (rules, now)
