use Rattle.std.proofs.Common.{sym, ap, ◌∙◌, arith, lt-ltb, le-ltb}
use Rattle.std.specs.Prelude.{ltb}
use Rattle.keep_syntax_store.specs.Flat.{flat}
use Rattle.keep_syntax_store.proofs.TestLaws.{if_true, if_false}
use Rattle.keep_syntax_store.proofs.JoinLaws.{appended_as}
use Rattle.keep_syntax_store.proofs.rereading.replaced_parts.Goals.{then-whole-len+in_ok-append_moved-3, else-whole-len}
use Rattle.keep_syntax_store.proofs.rereading.replaced_parts.Goals as goal

pub returns : goal.returns
returns c =
    let whole = c.args.whole in
    let f = flat c.args.parts.now in
    let g = flat c.args.fresh.now in
    let one =
    appended_as f 0 c.new-out.ensures c.nothing.ensures c.counts_before.ensures c.in_ok-append_moved.ensures in
    let two = appended_as g whole.start one c.nothing-2.ensures c.counts_at.ensures c.in_ok-append_moved-2.ensures in
    elim c.if-whole-len.branch [
      | then-whole-len+in_ok-append_moved-3 w ↦ ap flat w.out-is
          ∙ appended_as f c.args.end two w.counts_before-then-whole-len.ensures w.counts_at-then-whole-len.ensures
          w.in_ok-append_moved-3.ensures
          ∙ sym (if_true (ltb whole.end c.args.len) _ _ (lt-ltb whole.end c.args.len w.if-whole-len.true))
      | else-whole-len w ↦ ap flat w.out-is ∙ two
          ∙ sym (if_false (ltb whole.end c.args.len) _ _
          (le-ltb whole.end c.args.len (omega (arith, w.if-whole-len.false))))
    ]
