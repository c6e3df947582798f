use Rattle.std.proofs.Common.{◌≡◌, ◌+◌, ◌-◌, ◌++◌, length, take, drop, slice_range, ap, sym, ◌∙◌, arith}
use Rattle.std.proofs.Common.{append_assoc}
use Rattle.std.proofs.Math.Seq.{take-append-add}
use Rattle.std.proofs.lemmas.List.{drop-drop, take_rest}
use Rattle.keep_syntax_store.proofs.ExchangeLaws.{take_prefix, drop_prefix, range_length}
use Rattle.keep_syntax_store.proofs.exchange.exchange_through.Goals as goal

-- the other vector's elements are as many as were counted
counted : (g : _) (c : goal.After-truncate-3 g) → length c.args.other.now.items ≡ c.len-added.result
counted g c = omega (arith, c.len-added.ensures, c.args.other.now.ok.0)

-- those from the run's start on wait after them
waiting : (g : _) (c : goal.After-truncate-3 g)
    → c.push_all.new.items.items ≡ c.args.other.now.items ++ drop c.args.from c.args.items.now.items
waiting g c =
    c.push_all.ensures.items
    ∙ ap (λ ys. c.args.other.now.items ++ ys)
    (take_rest c.deref.result.now c.args.from ∙ ap (drop c.args.from) c.deref.ensures.value)

pub returns-clause-items : goal.returns-clause-items
returns-clause-items g c =
    let xs = c.args.items.now.items in
    let ns = c.args.other.now.items in
    let from = c.args.from in
    let to = c.args.to in
    let n = c.len-added.result in
    let back = drop from xs in
    let all = ns ++ back in
    let first : c.push_all-2.new.items.items ≡ take from xs ++ ns =
    c.push_all-2.ensures.items
    ∙ ap (λ ys. ys ++ take n c.deref-2.result.now) c.truncate.ensures.items
    ∙ ap (λ ys. take from xs ++ take n ys) (c.deref-2.ensures.value ∙ waiting g c)
    ∙ ap (λ ys. take from xs ++ ys) (take_prefix ns back n (counted g c)) in
    let rest : drop (n + (to - from)) all ≡ drop to xs =
    sym (drop-drop (to - from) n all)
    ∙ ap (drop (to - from)) (drop_prefix ns back n (counted g c))
    ∙ drop-drop (to - from) from xs
    ∙ ap (λ k. drop k xs) (let e : from + (to - from) ≡ to = omega (arith, c.requires.range.0) in e) in
    c.push_all-3.ensures.items
    ∙ ap (λ ys. c.push_all-2.new.items.items ++ ys) (take_rest c.deref-3.result.now (n + (to - from)))
    ∙ ap (λ ys. c.push_all-2.new.items.items ++ drop (n + (to - from)) ys) (c.deref-3.ensures.value ∙ waiting g c)
    ∙ ap (λ ys. c.push_all-2.new.items.items ++ ys) rest
    ∙ ap (λ ys. ys ++ drop to xs) first
    ∙ append_assoc (take from xs) ns (drop to xs)

pub returns-clause-gone : goal.returns-clause-gone
returns-clause-gone g c =
    let xs = c.args.items.now.items in
    let ns = c.args.other.now.items in
    let from = c.args.from in
    let to = c.args.to in
    let n = c.len-added.result in
    let back = drop from xs in
    let run = slice_range xs from to in
    let kept : c.truncate-2.new.self.items ≡ ns ++ run =
    c.truncate-2.ensures.items
    ∙ ap (take (n + (to - from))) (waiting g c)
    ∙ ap (λ k. take k (ns ++ back))
    (let e : n + (to - from) ≡ length ns + (to - from) = omega (arith, counted g c) in e)
    ∙ take-append-add ns back (to - from) in
    let turned : c.rotate.new.items.items ≡ run ++ ns =
    c.rotate.ensures.items
    ∙ ap (λ ys. drop n ys ++ take n ys) kept
    ∙ ap (λ ys. ys ++ take n (ns ++ run)) (drop_prefix ns run n (counted g c))
    ∙ ap (λ ys. run ++ ys) (take_prefix ns run n (counted g c)) in
    c.truncate-3.ensures.items ∙ ap (take (to - from)) turned
    ∙ take_prefix run ns (to - from)
    (range_length xs from to c.requires.range.0
    (omega (arith, c.requires.range.1, c.args.items.now.ok.0)))
