-- Each iteration reads one step more.
use Rattle.std.proofs.Common.{◌≡◌, ℕ, List, ◌++◌, ◌∷◌, [], Result, Err, map, drop, length, rules, arith, refl, subst}
use Rattle.std.proofs.Common.{string_bytes}
use Rattle.std.proofs.lemmas.Grind.{common_steps}
use Rattle.std.proofs.lemmas.Str.{IsCharBoundary-from_rest}
use Rattle.std.specs.Prelude.{IsCharBoundary, ◌<◌}
use Rattle.keep_path.specs.Path.{key}
use Rattle.keep_path.specs.Step.{part_of}
use Rattle.keep_path.specs.PathReading.{NoSteps}
use Rattle.keep_path.specs.PathText.{StopsAt}
use Rattle.keep_path.specs.declared.path.Path.{Path}
use Rattle.keep_path.specs.declared.fault.PathFault.{PathFault}
use Rattle.keep_path.specs.declared.fault.PathFault.TheVariants.{BadPath}
use Rattle.keep_path.proofs.ReadLaws.{so_far_first_read, so_far_next_read, one_read, path_on_first_read}
use Rattle.keep_path.proofs.ReadLaws.{path_on_next_read}
use Rattle.keep_path.proofs.StopLaws.{no_path, stops_first, stops_at}
use Rattle.keep_path.proofs.path.Path.read.Goals as goal

stops_here : (text : List ℕ) (at n : ℕ) → StopsAt text at
    → ◌≡◌ {A = Result Path PathFault} (Err (BadPath at)) (Err (BadPath n)) → StopsAt text n
stops_here text at n stop e = let same : at ≡ n = cc in subst (StopsAt text) same stop

pub returns-in_default-clause-read : goal.returns-in_default-clause-read
returns-in_default-clause-read c path stated =
    let some : 0 < length c.args.text.now = first_of (search rules, grind (arith, common_steps)) in
    absurd (no_path c.args.text.now 0
    (stops_first c.args.text.now some ((rw c.in_default.is at c.in_ok-key.ensures.none) refl)) path stated)

pub returns-in_default-clause-place : goal.returns-in_default-clause-place
returns-in_default-clause-place c n e =
    let some : 0 < length c.args.text.now = first_of (search rules, grind (arith, common_steps)) in
    stops_here c.args.text.now 0 n
    (stops_first c.args.text.now some ((rw c.in_default.is at c.in_ok-key.ensures.none) refl)) e

pub loop-at-init : goal.loop-at-init
loop-at-init c =
    let pushed : map part_of c.push.new.self.items ≡ key (string_bytes c.in-Some.key) ∷ [] =
    first_of (search rules, grind (arith, common_steps)) in
    record {
      cut = rw c.in-Some.is at c.in_ok-key.ensures.ends;
      so_far =
          so_far_first_read c.args.text.now (string_bytes c.in-Some.key) c.in-Some.at
          (map part_of c.push.new.self.items) pushed (rw c.in-Some.is at c.in_ok-key.ensures.found);
      on = path_on_first_read c.args.text.now (string_bytes c.in-Some.key) c.in-Some.at
          (rw c.in-Some.is at c.in_ok-key.ensures.found) (rw c.in-Some.is at c.in_ok-key.ensures.longest);
    }

pub loop-at-preserved : goal.loop-at-preserved
loop-at-preserved c =
    let pushed : map part_of c.push-in-loop-at.new.self.items ≡ map part_of c.loop-at.steps.items
    ++ part_of c.in-Some-2.step ∷ [] = first_of (search rules, grind (arith, common_steps)) in
    let after : c.range_from.result.now ≡ drop c.loop-at.at c.args.text.now =
    first_of (search rules, grind (arith, common_steps)) in
    let cut : IsCharBoundary (drop c.loop-at.at c.args.text.now) c.in-Some-2.len =
    rw (after, c.in-Some-2.is) at c.in_ok-step.ensures.ends in
    record {
      cut = IsCharBoundary-from_rest c.args.text.now c.loop-at.at c.in-Some-2.len c.loop-at.invariant.cut.0 cut;
      so_far =
          so_far_next_read c.args.text.now c.range_from.result.now (map part_of c.loop-at.steps.items)
          (map part_of c.push-in-loop-at.new.self.items)
          c.loop-at.at c.in-Some-2.len (part_of c.in-Some-2.step) pushed after c.loop-at.invariant.so_far
          (rw c.in-Some-2.is at c.in_ok-step.ensures.found);
      on = path_on_next_read c.args.text.now c.range_from.result.now c.loop-at.at c.in-Some-2.len after
          c.loop-at.invariant.on (rw c.in-Some-2.is at c.in_ok-step.ensures.on);
    }

pub returns-clause-one : goal.returns-clause-one
returns-clause-one c path stated =
    one_read c.args.text.now (map part_of c.loop-at.steps.items) c.loop-at.at c.loop-at-test.false
    c.loop-at.invariant.so_far path stated

pub returns-in_default-2-clause-read : goal.returns-in_default-2-clause-read
returns-in_default-2-clause-read c path stated =
    let after : c.range_from.result.now ≡ drop c.loop-at.at c.args.text.now =
    first_of (search rules, grind (arith, common_steps)) in
    let none = subst NoSteps after ((rw c.in_default-2.is at c.in_ok-step.ensures.none) refl) in
    absurd (no_path c.args.text.now c.loop-at.at
    (stops_at c.args.text.now (map part_of c.loop-at.steps.items) c.loop-at.at c.loop-at-test.true
    c.loop-at.invariant.so_far c.loop-at.invariant.on none) path stated)

pub returns-in_default-2-clause-place : goal.returns-in_default-2-clause-place
returns-in_default-2-clause-place c n e =
    let after : c.range_from.result.now ≡ drop c.loop-at.at c.args.text.now =
    first_of (search rules, grind (arith, common_steps)) in
    let none = subst NoSteps after ((rw c.in_default-2.is at c.in_ok-step.ensures.none) refl) in
    stops_here c.args.text.now c.loop-at.at n
    (stops_at c.args.text.now (map part_of c.loop-at.steps.items) c.loop-at.at c.loop-at-test.true
    c.loop-at.invariant.so_far c.loop-at.invariant.on none) e
