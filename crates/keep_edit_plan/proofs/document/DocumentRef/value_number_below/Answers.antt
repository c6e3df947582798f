use Rattle.std.proofs.Common.{[], ◌∷◌, ◌++◌}
use Rattle.keep_path.specs.Path.{key}
use Rattle.keep_edit_plan.specs.Answers.{path_at}
use Rattle.keep_edit_plan.proofs.AnswerLaws.{seen}
use Rattle.keep_edit_plan.proofs.FoundLaws.{inside, no_number_found, none_found, number_found, one_found, step_at}
use Rattle.keep_edit_plan.proofs.document.DocumentRef.value_number_below.Goals as goal

pub child-requires : goal.child-requires
child-requires c =
    let h = seen c.self.view_is c.self.invariant in
    inside _ _ _ h.tree h h.read c.args.node.0 (c.requires h.tree h.read)

pub returns-in_default : goal.returns-in_default
returns-in_default c = λ s read.
    let h = seen c.self.view_is c.self.invariant in
    none_found _ _ _ _ s h read _ c.in_default.is
    (step_at _ _ _ s h read c.args.node.0 (key c.args.text.now) _ c.child.ensures.found)

pub returns-in_default-origin : goal.returns-in_default-origin
returns-in_default-origin c = λ s read.
    let h = seen c.self.view_is c.self.invariant in
    let stated =
    one_found _ _ _ (path_at s c.args.node.0 ++ key c.args.text.now ∷ []) s h read _ _ _ c.in-Some.is
    (step_at _ _ _ s h read c.args.node.0 (key c.args.text.now) _ c.child.ensures.found) c.node.ensures in
    no_number_found _ _ s _ read stated c.in_default-origin.not-Value

pub returns : goal.returns
returns c = λ s read.
    let h = seen c.self.view_is c.self.invariant in
    let stated =
    one_found _ _ _ (path_at s c.args.node.0 ++ key c.args.text.now ∷ []) s h read _ _ _ c.in-Some.is
    (step_at _ _ _ s h read c.args.node.0 (key c.args.text.now) _ c.child.ensures.found) c.node.ensures in
    number_found _ s _ _ stated c.in-Value.is
