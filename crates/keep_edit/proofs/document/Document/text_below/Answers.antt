use Rattle.std.proofs.Common.{◌≡◌, ◌<◌, [], ◌∷◌, ◌++◌, List, Option, length, subst}
use Rattle.std.specs.Prelude.{IfOk, IfSome, option_map}
use Rattle.keep_syntax.specs.Tree.{Document}
use Rattle.keep_path.specs.Path.{Part, key}
use Rattle.keep_rules.specs.declared.index.NodeId.{NodeId}
use Rattle.keep_edit_plan.proofs.Shared.{seen}
use Rattle.keep_edit.specs.Answers.{path_at, str_value_of}
use Rattle.keep_edit.specs.Reading.{IsTextOfTree}
use Rattle.keep_edit.specs.StrTexts.{text_of_str}
use Rattle.keep_edit.proofs.NodeRefLaws.{at_each, at_is, path_of, same_node, same_number, there, within}
use Rattle.keep_edit.proofs.document.Document.text_below.Goals as goal

pub returns-in_default : goal.returns-in_default
returns-in_default c = λ s path read is.
    absurd (there c.args.node.0 _ _ c.in_default.is c.node_at.ensures.found
    (path_of _ _ _ s (seen c.self.view_is c.self.invariant) read path c.args.node is).0)

pub value_number_below-requires : goal.value_number_below-requires
value_number_below-requires c =
    rw (← c.as_ref.ensures) at (λ (s : Document) (read : IsTextOfTree c.args.self.now s).
    within _ _ _ s (seen c.self.view_is c.self.invariant) read c.in-Some.id.0
    (subst (λ (o : Option NodeId). IfSome o (λ id. id.0 < length c.self.inside.index.paths)) c.in-Some.is
    c.node_at.ensures.within))

pub text_found-requires : goal.text_found-requires
text_found-requires c =
    let h = seen c.self.view_is c.self.invariant in (
      path_at h.tree c.in-Some.id.0 ++ key c.args.text.now ∷ [],
      λ s read. at_each _ _ _ s h read c.in-Some.id.0 (key c.args.text.now) c.value_number_below.result
          ((rw c.as_ref.ensures at c.value_number_below.ensures) s read),
    )

pub returns : goal.returns
returns c = λ s path read is.
    let id = c.in-Some.id in
    let same : path_at s id.0 ≡ path =
    at_is path s id (same_node path s c.args.node id (same_number c.args.node.0 _ _ _ c.in-Some.is
    c.node_at.ensures.found) is) in
    subst (λ (p : List Part). IfOk c.text_found.result (λ found.
    option_map text_of_str found ≡ str_value_of (p ++ key c.args.text.now ∷ []) s)) same
    (c.text_found.ensures.string (path_at s id.0 ++ key c.args.text.now ∷ []) s read
    ((rw c.as_ref.ensures at c.value_number_below.ensures) s read))
