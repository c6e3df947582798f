use Rattle.std.proofs.Common.{arith, ℕ, ◌∙◌, ◌||◌, Bool, length-drop, length-take, ap₂}
use Rattle.keep_commands.proofs.Appends.{appends_more, takes_some}
use Rattle.keep_commands.proofs.write.write_after.Goals as goal

pub loop-at-preserved : goal.loop-at-preserved
loop-at-preserved g c =
    let called = c.in-Ok.ensures in
    record {
      fresh = called.failed
          ∙ ap₂ (λ (a b : Bool). a || b) c.loop-at.invariant.fresh (takes_some _ _ c.in-Ok.count-test.1);
      most = omega (arith, called.bound, length-take {A = ℕ}, length-drop {A = ℕ});
      silent = λ none. absurd (omega (arith, c.in-Ok.count-test.1));
      written =
          appends_more (g.W.Write.contents c.args.output.now.inner) _ _ c.args.bytes.now c.loop-at.at c.in-Ok.count
          c.loop-at.invariant.written called.bytes;
    }
