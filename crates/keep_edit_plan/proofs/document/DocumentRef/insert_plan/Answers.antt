use Rattle.std.proofs.Common.{[], refl}
use Rattle.std.proofs.lemmas.Result.{err_from_is_err_and}
use Rattle.keep_edit_spec.specs.Edits.{insert}
use Rattle.keep_edit_plan.proofs.AnswerLaws.{seen}
use Rattle.keep_edit_plan.proofs.EditedLaws.{refused_planned, planned, of_plan}
use Rattle.keep_edit_plan.proofs.InsertedLaws.{insert_law, inserted_at}
use Rattle.keep_edit_plan.proofs.document.DocumentRef.insert_plan.Goals as goal

pub returns-in_err-insertion-clause-planned : goal.returns-in_err-insertion-clause-planned
returns-in_err-insertion-clause-planned c = λ s read v value.
    let p = err_from_is_err_and c.from_residual.result c.from_residual.ensures.1 in
    rw (
      p.1,
      p.2,
    ) (refused_planned s (insert c.args.path.now v) c.args.self.now [] _
    (c.in_err-insertion.ensures.insertion s read v value))

pub push_insertion-requires-clause-aimed : goal.push_insertion-requires-clause-aimed
push_insertion-requires-clause-aimed c =
    let h = seen c.self.view_is c.self.invariant in
    let (v, value) = c.as_str-given.ensures.accepted in
    (h.tree, h.read, (v, value, c.in_ok-insertion.ensures.insertion h.tree h.read v value))

pub returns-clause-planned : goal.returns-clause-planned
returns-clause-planned c = λ s read v value.
    let h = seen c.self.view_is c.self.invariant in
    let at =
    inserted_at _ _ _ c.args.path.now s v c.args.value.now _ h read value
    (c.in_ok-insertion.ensures.insertion s read v value) c.insertion.ensures.utf8 c.in-Ok.at _ _
    c.in-Some.ensures
    (c.in-Ok.ensures s read v value (c.in_ok-insertion.ensures.insertion s read v value)) in
    planned c.args.self.now s (insert c.args.path.now v) _ _
    read at (insert_law _ _ _ c.args.path.now s v c.args.value.now _ h read value
    (c.in_ok-insertion.ensures.insertion s read v value) c.insertion.ensures.utf8) c.insertion_change.result
    (c.insertion_change.ensures s read v value (c.in_ok-insertion.ensures.insertion s read v value)) (λ one. absurd one)
    _ ((refl, refl), refl)

pub returns-clause-of_edit : goal.returns-clause-of_edit
returns-clause-of_edit c =
    let h = seen c.self.view_is c.self.invariant in
    let (v, value) = c.as_str-given.ensures.accepted in
    let at =
    inserted_at _ _ _ c.args.path.now h.tree v c.args.value.now _ h h.read value
    (c.in_ok-insertion.ensures.insertion h.tree h.read v value) c.insertion.ensures.utf8 c.in-Ok.at _ _
    c.in-Some.ensures
    (c.in-Ok.ensures h.tree h.read v value
    (c.in_ok-insertion.ensures.insertion h.tree h.read v value)) in
    of_plan c.args.self.now h.tree (insert c.args.path.now v) _ _
    h.read at (insert_law _ _ _ c.args.path.now h.tree v c.args.value.now _ h h.read value
    (c.in_ok-insertion.ensures.insertion h.tree h.read v value) c.insertion.ensures.utf8) c.insertion_change.result
    (c.insertion_change.ensures h.tree h.read v value (c.in_ok-insertion.ensures.insertion h.tree h.read v value)) _
    (refl, refl)
