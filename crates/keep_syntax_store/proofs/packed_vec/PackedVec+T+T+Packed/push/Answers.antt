use Rattle.std.proofs.Common.{◌≡◌, ◌++◌, ◌∷◌, [], length, sym, ap, subst, ◌∙◌, arith}
use Rattle.std.proofs.lemmas.Bool.{eqb-true}
use Rattle.keep_syntax_store.specs.Unfit.{AreBefore}
use Rattle.keep_syntax_store.proofs.EntryLaws.{no_items, pushed}
use Rattle.keep_syntax_store.proofs.packed_vec.PackedVec+T+T+Packed.push.Goals as goal

pub returns-in-Some : goal.returns-in-Some
returns-in-Some g c =
    let v = c.args.self.now in
    let before =
    subst (λ n. AreBefore n v.unfit)
    (let e : c.len.result ≡ length v.packed.items = omega (arith, c.len.ensures, v.packed.ok.0) in e)
    (c.ends_by.ensures c.if-ends_by.true) in
    let still : v.moves.items ≡ [] =
    no_items v.moves.items (omega (arith, eqb-true _ _ (sym c.is_empty.ensures ∙ c.if-is_empty.true), v.moves.ok.0)) in
    pushed g.T.Entry.unpacked g.T.Entry.raise v c.push_reserved.new.self.items c.in-Some.stored c.args.entry still
    before c.in-Some.ensures.stored
    (c.push_reserved.ensures.items ∙ ap (λ xs. xs ++ c.in-Some.stored ∷ []) c.in_ok-reserve.ensures.items)
