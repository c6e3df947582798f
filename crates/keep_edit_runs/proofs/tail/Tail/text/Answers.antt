use Rattle.std.proofs.Common.{◌≡◌, ◌++◌, ◌∙◌, List, ap, arith, string_bytes, sym, take, ℕ}
use Rattle.std.proofs.lemmas.List.{take_all}
use Rattle.keep_edit_runs.specs.Tail.{bytes_of}
use Rattle.keep_edit_runs.specs.declared.tail.Block.{Block}
use Rattle.keep_edit_runs.proofs.BlockLaws.{bytes_one, one_more}
use Rattle.keep_edit_runs.proofs.tail.Tail.text.Goals as goal

pub loop-block-preserved : goal.loop-block-preserved
loop-block-preserved c =
    let blocks = c.deref-block-items.result.now in
    let n = c.loop-block.block-index in
    let b = c.block-item.result in
    let pushed = c.in_ok-push_str.ensures.bytes in
    one_more (λ (l : List Block). string_bytes c.push_str.new.self ≡ bytes_of l) blocks n b c.loop-block-test.true
    c.block-item.is
    (pushed ∙ ap (λ (l : List ℕ). l ++ c.as_str.result.now) c.loop-block.invariant
    ∙ ap (λ (l : List ℕ). bytes_of (take n blocks) ++ l) c.as_str.ensures.value ∙ sym (bytes_one (take n blocks) b))

pub returns : goal.returns
returns c =
    let blocks = c.deref-block-items.result.now in
    let n = c.loop-block.block-index in
    c.loop-block.invariant ∙ ap bytes_of (take_all n blocks (omega (arith, c.loop-block-test.false)))
    ∙ ap bytes_of c.deref-block-items.ensures.value
