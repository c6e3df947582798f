use Rattle.std.proofs.Common.{◌-◌, List, ℕ, [], ◌∷◌, take, sym, ap, ◌∙◌, subst}
use Rattle.keep_syntax_store.specs.Left.{places_left}
use Rattle.keep_syntax_store.specs.Lifted.{moved}
use Rattle.keep_syntax_store.specs.Starts.{Ascend, last_of}
use Rattle.keep_syntax_store.proofs.AscendLaws.{ascend_take}
use Rattle.keep_syntax_store.proofs.RunLaws.{last_after}
use Rattle.keep_syntax_store.proofs.PastLaws.{stored_block}
use Rattle.keep_syntax_store.proofs.starts.Starts.append_block.Goals as goal

pub push_run-requires-clause-joins : goal.push_run-requires-clause-joins
push_run-requires-clause-joins c =
    let f = moved c.args.old c.args.new in
    ap (last_of 0) c.in_ok-push_moved.ensures.ok ∙ last_after 0 c.args.self.now (f c.in-Some.at ∷ [])
    ∙ ap f (c.in-Some.ensures.at ∙ sym c.first.ensures.at)

pub push_run-requires-clause-ascend : goal.push_run-requires-clause-ascend
push_run-requires-clause-ascend c =
    let rest = places_left c.advance.new.self in
    let at = c.in-Some.at in
    let k = c.args.count - 1 in
    let whole : Ascend c.args.left.now.at (at ∷ rest) =
    subst (Ascend c.args.left.now.at) c.in-Some.ensures.first c.requires.ascend in
    subst (λ (ps : List ℕ). Ascend c.first.result.at ps) (sym c.first.ensures.first)
    (subst (λ (low : ℕ). Ascend low (take k rest)) (c.in-Some.ensures.at ∙ sym c.first.ensures.at)
    (ascend_take at rest k whole.1))

pub returns : goal.returns
returns c =
    stored_block (moved c.args.old c.args.new) c.args.self.now c.push_moved.new.self c.push_run.new.self
    (places_left c.args.left.now) (places_left c.advance.new.self) (places_left c.first.result)
    c.in-Some.at c.args.count c.requires.some c.in_ok-push_moved.ensures.ok c.in_ok-push_run.ensures
    c.first.ensures.first c.in-Some.ensures.first
