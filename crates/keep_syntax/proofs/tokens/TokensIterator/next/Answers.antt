use Rattle.std.proofs.Common.{◌≡◌, ◌+◌, sym, ap, length, rules}
use Rattle.keep_syntax_store.specs.Flat.{flat}
use Rattle.keep_syntax.specs.Cut.{all_kinds, start_in}
use Rattle.keep_syntax.proofs.CutLaws.{cut_next, cut_end}
use Rattle.keep_syntax.proofs.tokens.TokensIterator.next.Goals as goal

pub returns-in_err-leaf-clause-steps : goal.returns-in_err-leaf-clause-steps
returns-in_err-leaf-clause-steps c =
    let s = c.args.self.now in
    let h = cut_end s.text.now (all_kinds (flat s.parts.now)) (flat s.parts.now).starts s.next
    (sym c.in_err-leaf.ensures.value) in
    search rules

pub returns-clause-steps : goal.returns-clause-steps
returns-clause-steps c =
    let s = c.args.self.now in
    let end : c.unwrap_or-end.result ≡ start_in s.text.now (flat s.parts.now).starts (s.next + 1) = search rules in
    cut_next s.text.now (all_kinds (flat s.parts.now)) (flat s.parts.now).starts s.next c.in_ok-leaf.leaf s.start
    c.unwrap_or-end.result c.range.result.now
    (sym c.in_ok-leaf.ensures.value) s.starts end c.range.ensures.value

pub returns-clause-goes : goal.returns-clause-goes
returns-clause-goes c =
    let s = c.args.self.now in
    let end : c.unwrap_or-end.result ≡ start_in s.text.now (flat s.parts.now).starts (s.next + 1) = search rules in
    let h = ap length (cut_next s.text.now (all_kinds (flat s.parts.now)) (flat s.parts.now).starts s.next
    c.in_ok-leaf.leaf s.start c.unwrap_or-end.result c.range.result.now
    (sym c.in_ok-leaf.ensures.value) s.starts end c.range.ensures.value) in
    search rules
