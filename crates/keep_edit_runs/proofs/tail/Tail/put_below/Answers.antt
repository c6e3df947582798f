use Rattle.std.proofs.Common.{◌<◌, ◌∙◌, List, Some, ap, arith, length, refl, set, subst, sym}
use Rattle.keep_edit_runs.specs.Tail.{IsPutBelow, bytes_of}
use Rattle.keep_edit_runs.specs.declared.tail.Block.{Block}
use Rattle.keep_edit_runs.proofs.BlockLaws.{bytes_same, not_pushed, pushed_unless, put_below}
use Rattle.keep_edit_runs.proofs.tail.Tail.put_below.Goals as goal

pub returns-then-is_err-clause-refused : goal.returns-then-is_err-clause-refused
returns-then-is_err-clause-refused c = λ no.
    let same = c.add_outline.ensures.blocks in
    let blocks = c.add_outline.new.self.blocks.items in
    let n = c.args.number in
    let b = c.index_mut-block.result.now in
    let now : Block = record b { text = c.push_str.new.self } in
    let lt : n < length blocks =
    omega (arith, c.if-number-len.false, c.len.ensures, ap (λ (l : List Block). length l) same) in
    bytes_same blocks n b now lt c.index_mut-block.ensures.value
    (not_pushed c.push_str.result _ _ _ c.push_str.ensures.bytes (sym c.is_err.ensures.value ∙ c.if-is_err.true))
    ∙ ap bytes_of same

pub returns-clause-put : goal.returns-clause-put
returns-clause-put c = λ yes.
    let same = c.add_outline.ensures.blocks in
    let blocks = c.add_outline.new.self.blocks.items in
    let n = c.args.number in
    let b = c.index_mut-block.result.now in
    let now : Block = record b { text = c.push_str.new.self; table = Some c.args.table } in
    let lt : n < length blocks =
    omega (arith, c.if-number-len.false, c.len.ensures, ap (λ (l : List Block). length l) same) in
    subst (λ (l : List Block). IsPutBelow l n c.args.table c.args.text.now (set blocks n now)) same
    (put_below blocks n b now c.args.table c.args.text.now lt c.index_mut-block.ensures.value refl refl
    (pushed_unless c.push_str.result _ _ _ c.push_str.ensures.bytes
    (sym c.is_err.ensures.value ∙ c.if-is_err.false)))
