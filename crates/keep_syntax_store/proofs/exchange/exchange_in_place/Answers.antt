use Rattle.std.proofs.Common.{◌≡◌, ◌-◌, ◌++◌, length, take, drop, slice_range, ap, sym, ◌∙◌, arith, vec_len}
use Rattle.std.proofs.Common.{append_assoc}
use Rattle.std.proofs.lemmas.List.{length-append, length-drop, take_rest}
use Rattle.keep_syntax_store.proofs.ExchangeLaws.{three, take_prefix, drop_prefix, take_length, range_length}
use Rattle.keep_syntax_store.proofs.exchange.exchange_in_place.Goals as goal

-- all four runs, the one that leaves at the end
swapped : (g : _) (c : goal.After-truncate g)
    → c.swap_runs_in.new.items.items ≡ take c.args.from c.args.items.now.items
    ++ (c.args.other.now.items ++ (drop c.args.to c.args.items.now.items
    ++ slice_range c.args.items.now.items c.args.from c.args.to))
swapped g c =
    let xs = c.args.items.now.items in
    let ns = c.args.other.now.items in
    let from = c.args.from in
    let to = c.args.to in
    let l : length xs ≡ vec_len c.args.items.now = omega (arith, c.args.items.now.ok.0) in
    let a = take_length xs from (omega (arith, c.requires.range.0, c.requires.range.1, l)) in
    let b = range_length xs from to c.requires.range.0 (omega (arith, c.requires.range.1, l)) in
    c.swap_runs_in.ensures.items (take from xs) (slice_range xs from to) (drop to xs) ns
    (c.in-Ok.ensures.items ∙ ap (λ ys. ys ++ ns) (three xs from to c.requires.range.0)) a b
    (omega (arith, a, b, l, length-drop to xs, c.requires.range.0, c.requires.range.1, c.len-before.ensures))

pub returns-clause-items : goal.returns-clause-items
returns-clause-items g c =
    let xs = c.args.items.now.items in
    let ns = c.args.other.now.items in
    let from = c.args.from in
    let to = c.args.to in
    let l : length xs ≡ vec_len c.args.items.now = omega (arith, c.args.items.now.ok.0) in
    let m : length ns ≡ vec_len c.args.other.now = omega (arith, c.args.other.now.ok.0) in
    let a = take from xs in
    let b = slice_range xs from to in
    let d = drop to xs in
    let together : a ++ (ns ++ (d ++ b)) ≡ (a ++ (ns ++ d)) ++ b =
    ap (λ ys. a ++ ys) (sym (append_assoc ns d b)) ∙ sym (append_assoc a (ns ++ d) b) in
    c.truncate.ensures.items ∙ ap (take (c.len.result - (to - from))) (swapped g c ∙ together)
    ∙ take_prefix (a ++ (ns ++ d)) b (c.len.result - (to - from))
    (omega (
      arith,
      length-append a (ns ++ d),
      length-append ns d,
      take_length xs from (omega (arith, c.requires.range.0, c.requires.range.1, l)),
      length-drop to xs,
      l,
      m,
      c.len.ensures,
      c.swap_runs_in.ensures.len,
      c.in-Ok.ensures.len,
      c.requires.range.0,
      c.requires.range.1,
    ))

pub returns-clause-gone : goal.returns-clause-gone
returns-clause-gone g c =
    let xs = c.args.items.now.items in
    let ns = c.args.other.now.items in
    let from = c.args.from in
    let to = c.args.to in
    let l : length xs ≡ vec_len c.args.items.now = omega (arith, c.args.items.now.ok.0) in
    let m : length ns ≡ vec_len c.args.other.now = omega (arith, c.args.other.now.ok.0) in
    let a = take from xs in
    let b = slice_range xs from to in
    let d = drop to xs in
    let together : a ++ (ns ++ (d ++ b)) ≡ (a ++ (ns ++ d)) ++ b =
    ap (λ ys. a ++ ys) (sym (append_assoc ns d b)) ∙ sym (append_assoc a (ns ++ d) b) in
    let n : length (a ++ (ns ++ d)) ≡ c.len.result - (to - from) =
    omega (
      arith,
      length-append a (ns ++ d),
      length-append ns d,
      take_length xs from (omega (arith, c.requires.range.0, c.requires.range.1, l)),
      length-drop to xs,
      l,
      m,
      c.len.ensures,
      c.swap_runs_in.ensures.len,
      c.in-Ok.ensures.len,
      c.requires.range.0,
      c.requires.range.1,
    ) in
    let rest : drop (c.len.result - (to - from)) c.swap_runs_in.new.items.items ≡ b =
    ap (drop (c.len.result - (to - from))) (swapped g c ∙ together)
    ∙ drop_prefix (a ++ (ns ++ d)) b (c.len.result - (to - from)) n in
    let all : c.extend_from_slice.new.self.items ≡ drop (c.len.result - (to - from)) c.swap_runs_in.new.items.items =
    c.in-Ok-extend_from_slice.ensures.items
    ∙ ap (λ ys.
    ys ++ take (length c.deref.result.now - (c.len.result - (to - from)))
    (drop (c.len.result - (to - from)) c.deref.result.now)) c.in-Ok.ensures.other_items
    ∙ take_rest c.deref.result.now (c.len.result - (to - from))
    ∙ ap (drop (c.len.result - (to - from))) c.deref.ensures.value in
    all ∙ rest
