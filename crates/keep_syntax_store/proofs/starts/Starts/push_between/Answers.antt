use Rattle.std.proofs.Common.{◌≡◌, List, ℕ, ◌++◌, [], map, sym, ap, ◌∙◌, arith}
use Rattle.std.proofs.lemmas.List.{append-nil}
use Rattle.keep_syntax_store.specs.Left.{places_left}
use Rattle.keep_syntax_store.specs.Lifted.{moved}
use Rattle.keep_syntax_store.specs.Starts.{last_of, places_at}
use Rattle.keep_syntax_store.proofs.BulkMilestoneLemmas.{all_moved_on, between_after, starts_after}
use Rattle.keep_syntax_store.proofs.starts.Starts.push_between.Goals as goal

pub invariant_of-self-in_err-append : goal.invariant_of-self-in_err-append
invariant_of-self-in_err-append c =
    let s = c.self.inside in
    let b = c.args.between.now in
    let stored = c.self.invariant.stored in
    let new = c.push_steps.new in
    let is = c.in_ok-push_steps.ensures in
    let joins : s.last ≡ moved c.args.old c.args.new b.low.place =
    stored.last_is ∙ ap (last_of 0) c.self.view_is ∙ c.requires.joins in
    let done =
    between_after s.steps.items s.far.items c.args.old c.args.new s.last c.in-Some.end b.low b.high b.places
    b.milestones.now stored joins c.requires.after c.requires.are c.in-Some.ensures.1
    (omega (arith, c.in-Some.ensures.0.fits, c.in-Some.ensures.1)) in
    starts_after s.steps.items s.far.items new.steps.items new.far.items c.args.old c.args.new s.last c.in-Some.end
    s.milestones.items [] c.append.new.self.items b.places c.self.invariant done is.ok is.far
    (c.in_err-append.ensures.items ∙ sym (append-nil s.milestones.items)) tt

pub invariant_of-self-2 : goal.invariant_of-self-2
invariant_of-self-2 c =
    let s = c.self.inside in
    let b = c.args.between.now in
    let stored = c.self.invariant.stored in
    let new = c.push_steps.new in
    let is = c.in_ok-push_steps.ensures in
    let f = moved c.args.old c.args.new in
    let joins : s.last ≡ f b.low.place = stored.last_is ∙ ap (last_of 0) c.self.view_is ∙ c.requires.joins in
    let done =
    between_after s.steps.items s.far.items c.args.old c.args.new s.last c.in-Some.end b.low b.high b.places
    b.milestones.now stored joins c.requires.after c.requires.are c.in-Some.ensures.1
    (omega (arith, c.in-Some.ensures.0.fits, c.in-Some.ensures.1)) in
    let fresh = c.in_ok-milestones.ensures (s.steps.items ++ b.places.steps.now) (s.far.items ++ map f b.places.far.now)
    (all_moved_on s.steps.items s.far.items c.args.old c.args.new b.low b.high _ b.places b.milestones.now stored
    (omega arith) (omega arith) joins c.requires.after c.requires.are) in
    starts_after s.steps.items s.far.items new.steps.items new.far.items c.args.old c.args.new s.last c.in-Some.end
    s.milestones.items c.in_ok-milestones.milestones.items c.append.new.self.items b.places c.self.invariant
    done is.ok is.far c.in_ok-append.ensures.items fresh

pub returns : goal.returns
returns c =
    let s = c.self.inside in
    let b = c.args.between.now in
    let stored = c.self.invariant.stored in
    let is = c.in_ok-push_steps.ensures in
    let f = moved c.args.old c.args.new in
    let joins : s.last ≡ f b.low.place = stored.last_is ∙ ap (last_of 0) c.self.view_is ∙ c.requires.joins in
    let done =
    between_after s.steps.items s.far.items c.args.old c.args.new s.last c.in-Some.end b.low b.high b.places
    b.milestones.now stored joins c.requires.after c.requires.are c.in-Some.ensures.1
    (omega (arith, c.in-Some.ensures.0.fits, c.in-Some.ensures.1)) in
    ap (λ (xs : List ℕ). places_at 0 xs c.push_steps.new.far.items) is.ok
    ∙ ap (λ (g : List ℕ). places_at 0 (s.steps.items ++ b.places.steps.now) g) is.far
    ∙ done.places
    ∙ ap (λ (ps : List ℕ). ps ++ map f (places_left b.places)) c.self.view_is
