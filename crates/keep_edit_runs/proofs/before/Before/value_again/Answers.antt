use Rattle.std.proofs.Common.{◌≡◌, List, subst, sym}
use Rattle.std.specs.Prelude.{IfSome}
use Rattle.keep_syntax.specs.Tree.{Value}
use Rattle.keep_path.specs.Path.{Part}
use Rattle.keep_edit_spec.specs.Edits as law
use Rattle.keep_edit_plan.specs.TextEdits.{MakesChangeHere}
use Rattle.keep_edit_plan.specs.declared.edit.Edit.{Edit}
use Rattle.keep_edit_runs.specs.Lists.{IsEdit}
use Rattle.keep_edit_runs.specs.Runs.{IsSetBy}
use Rattle.keep_edit_runs.proofs.InRuns.{again}
use Rattle.keep_edit_runs.proofs.before.Before.value_again.Goals as goal

pub returns : goal.returns
returns c =
    let x = c.args.edit.now in
    let outlines = c.args.so_far.now.outlines.items in
    let r = c.change_by.result in
    again c.args.self.now outlines c.args.so_far.now.changes x c.in-Set.path r
    (subst (λ (x : Edit). (e : law.Edit) → IsEdit x e → (v : Value) × (e ≡ law.set c.in-Set.path v)) (sym c.in-Set.is)
    (λ e (v, text, is). (v, is)))
    (subst (λ (path : List Part). IsSetBy outlines path) c.of.ensures c.in_ok-setting.ensures.set)
    (subst (λ now. IfSome r (MakesChangeHere now x)) c.as_ref.ensures c.change_by.ensures)
