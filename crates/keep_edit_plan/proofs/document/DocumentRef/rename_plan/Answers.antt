use Rattle.std.proofs.Common.{Some, refl}
use Rattle.std.proofs.lemmas.Result.{err_from_is_err_and}
use Rattle.keep_token.specs.Encoded.{encoded_key}
use Rattle.keep_edit_spec.specs.Edits.{rename}
use Rattle.keep_edit_plan.specs.declared.plan.IndexChange.TheVariants as index
use Rattle.keep_edit_plan.proofs.AnswerLaws.{seen}
use Rattle.keep_edit_plan.proofs.EditedLaws.{refused_planned, full_planned, planned, of_plan}
use Rattle.keep_edit_plan.proofs.KeyLaws.{key_changed}
use Rattle.keep_edit_plan.proofs.RenameLaws.{law_of}
use Rattle.keep_edit_plan.proofs.document.DocumentRef.rename_plan.Goals as goal

pub returns-in_err-node-clause-planned : goal.returns-in_err-node-clause-planned
returns-in_err-node-clause-planned c = λ s read.
    let p = err_from_is_err_and c.from_residual.result c.from_residual.ensures.1 in
    rw (
      p.1,
      p.2,
    ) (refused_planned s (rename c.args.path.now c.args.key.now) c.args.self.now (encoded_key c.args.key.now) _
    (c.in_err-node.ensures s read))

pub returns-in_default-clause-planned : goal.returns-in_default-clause-planned
returns-in_default-clause-planned c = λ s read.
    let at = (c.in_ok-node.ensures s read).1 in
    full_planned c.args.self.now s (rename c.args.path.now c.args.key.now) c.in_ok-node.place
    (encoded_key c.args.key.now) read at
    (law_of c.args.self.now s c.args.path.now c.args.key.now read c.utf8.key at.0)

pub returns-clause-planned : goal.returns-clause-planned
returns-clause-planned c = λ s read.
    let (here, at) = c.in_ok-node.ensures s read in
    let change =
    key_changed c.args.self.now _ _ c.args.path.now s (seen c.self.view_is c.self.invariant) read c.in_ok-node.node here
    c.args.key c.utf8.key at.0 in
    planned c.args.self.now s (rename c.args.path.now c.args.key.now) c.in_ok-node.place (encoded_key c.args.key.now)
    read at
    (law_of c.args.self.now s c.args.path.now c.args.key.now read c.utf8.key at.0)
    (Some (index.Key c.in_ok-node.node c.args.key)) change (λ one. refl) _ ((refl, c.in-Ok.ensures.text), refl)

pub returns-clause-of_edit : goal.returns-clause-of_edit
returns-clause-of_edit c =
    let h = seen c.self.view_is c.self.invariant in
    let (here, at) = c.in_ok-node.ensures h.tree h.read in
    let change =
    key_changed c.args.self.now _ _ c.args.path.now h.tree h h.read c.in_ok-node.node here c.args.key c.utf8.key at.0 in
    of_plan c.args.self.now h.tree (rename c.args.path.now c.args.key.now) c.in_ok-node.place
    (encoded_key c.args.key.now) h.read at
    (law_of c.args.self.now h.tree c.args.path.now c.args.key.now h.read c.utf8.key at.0)
    (Some (index.Key c.in_ok-node.node c.args.key)) change _ (refl, c.in-Ok.ensures.text)
