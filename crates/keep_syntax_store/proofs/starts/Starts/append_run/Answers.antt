use Rattle.std.proofs.Common.{◌+◌, List, ℕ, ◌∷◌, ◌++◌, [], map, sym, ap, ◌∙◌, append_assoc, arith}
use Rattle.std.specs.Prelude.{slice_range}
use Rattle.keep_syntax_store.specs.Left.{places_left}
use Rattle.keep_syntax_store.specs.Lifted.{moved}
use Rattle.keep_syntax_store.specs.Starts.{last_of}
use Rattle.keep_syntax_store.proofs.RunLaws.{last_after}
use Rattle.keep_syntax_store.proofs.PastLaws.{range_first}
use Rattle.keep_syntax_store.proofs.starts.Starts.append_run.Goals as goal

pub push_between-requires-clause-joins : goal.push_between-requires-clause-joins
push_between-requires-clause-joins c =
    ap (last_of 0) c.in_ok-push_moved.ensures.ok
    ∙ last_after 0 c.args.self.now (moved c.args.old c.args.new c.between-others.result.low.place ∷ [])

pub returns : goal.returns
returns c =
    let f = moved c.args.old c.args.new in
    let before = c.args.self.now in
    let xs = c.args.other.now in
    let others = c.between-others in
    let left = places_left others.result.places in
    let first = others.result.low.place in
    c.push_milestone.ensures ∙ c.in_ok-push_between.ensures
    ∙ ap (λ (ys : List ℕ). ys ++ map f left) c.in_ok-push_moved.ensures.ok
    ∙ append_assoc before (f first ∷ []) (map f left)
    ∙ ap (λ (ys : List ℕ). before ++ (f first ∷ map f ys)) others.ensures.places
    ∙ ap (λ (place : ℕ). before ++ (f place ∷ map f (slice_range xs (c.args.from + 1) c.args.to))) others.ensures.low
    ∙ ap (λ (ys : List ℕ). before ++ map f ys)
    (sym (range_first xs c.args.from c.args.to (omega (arith, c.if-to-from.false)) c.requires))
