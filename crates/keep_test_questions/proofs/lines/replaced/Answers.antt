use Rattle.std.proofs.Common.{◌≡◌, Bool, false, IsTrue, length, sym, ap, ◌∙◌, inl, inr, arith}
use Rattle.keep_syntax.specs.Tree.{Document}
use Rattle.keep_syntax.specs.WholeLines.{begin}
use Rattle.keep_syntax.proofs.Shared.{same_begin}
use Rattle.keep_test_questions.proofs.LineLaws.{no_mark}
use Rattle.keep_test_questions.proofs.lines.replaced.Goals as goal
use Rattle.keep_test_questions.proofs.lines.replaced.Goals.{else-whole-text-via-then-whole-text+else-not-are_closed}
use Rattle.keep_test_questions.proofs.lines.replaced.Goals.{else-whole-text-via-else-whole-text}

clash : (b : Bool) → IsTrue b → b ≡ false → ⊥
clash b h k = cc

pub reread-requires : goal.reread-requires
reread-requires c =
    let d : Document = c.requires.read.0 in
    let reads = c.requires.read.1 in
    let is = c.requires.read.2 in
    let m : Document = c.in-Ok.ensures.found.0 in
    let new = c.in-Ok.ensures.found.1 in
    let i = c.requires.in_text in
    let e : Document = i.document in
    let same : begin e ≡ begin d = same_begin (begin e) (begin d) e.ended d.ended (sym i.is.lines ∙ is.lines) in
    record {
      document = d;
      is = is;
      new = m;
      can = record {
        valid = reads.valid;
        span = c.args.span;
        low = omega (arith, same, i.low);
        order = i.order;
        within = omega (arith, i.is.len, is.len, i.within);
        whole_is = sym (c.lines-whole.ensures d is);
        reads = new;
        bom = no_mark m c.text-lines.result.now new.spelled
            (λ f. clash c.has_mark.result (c.has_mark.ensures f) c.if-has_mark.false);
        closed = elim c.else-whole-text.branch [
          | else-whole-text-via-then-whole-text+else-not-are_closed w ↦
              inl (w.are_closed.ensures w.if-not-are_closed.false m new c.in-Ok.ensures.found.2)
          | else-whole-text-via-else-whole-text w ↦ inr (w.if-whole-text.false ∙ ap length reads.spelled)
        ];
      };
    }
