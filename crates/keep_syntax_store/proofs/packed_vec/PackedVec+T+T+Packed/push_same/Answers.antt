use Rattle.std.proofs.Common.{◌≡◌, ◌++◌, ◌∷◌, [], length, refl, sym, ap, subst, ◌∙◌, arith}
use Rattle.std.proofs.lemmas.Bool.{eqb-true}
use Rattle.keep_syntax_store.specs.PackedVec.{entries}
use Rattle.keep_syntax_store.specs.Unfit.{AreBefore}
use Rattle.keep_syntax_store.proofs.EntryLaws.{no_items, pushed}
use Rattle.keep_syntax_store.proofs.MoveLaws.{range_one}
use Rattle.keep_syntax_store.proofs.packed_vec.PackedVec+T+T+Packed.push_same.Goals as goal

pub returns-in-Some : goal.returns-in-Some
returns-in-Some g c =
    let un = g.T.Entry.unpacked in
    let raise = g.T.Entry.raise in
    let v = c.args.self.now in
    let s = c.in-Some.stored in
    let before =
    subst (λ n. AreBefore n v.unfit)
    (let e : c.len.result ≡ length v.packed.items = omega (arith, c.len.ensures, v.packed.ok.0) in e)
    (c.ends_by.ensures c.if-ends_by.true) in
    let still : v.moves.items ≡ [] =
    no_items v.moves.items (omega (arith, eqb-true _ _ (sym c.is_empty.ensures ∙ c.if-is_empty.true), v.moves.ok.0)) in
    pushed un raise v c.push_reserved.new.self.items s (un s) still before refl
    (c.push_reserved.ensures.items ∙ ap (λ xs. xs ++ s ∷ []) c.in_ok-reserve.ensures.items)
    ∙ ap (λ xs. entries un raise v ++ xs)
    (sym (range_one (entries un raise c.args.other.now) c.args.number (un s) c.in-Some.ensures))
