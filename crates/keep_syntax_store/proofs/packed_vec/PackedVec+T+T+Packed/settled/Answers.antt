use Rattle.std.proofs.Common.{◌≡◌, ◌<◌, length, None, Some, refl, sym, ap, ◌∙◌, arith}
use Rattle.std.proofs.lemmas.Option.{IfSome_then}
use Rattle.keep_syntax_store.specs.Blocks.{raise_by}
use Rattle.keep_syntax_store.specs.Unfit.{found}
use Rattle.keep_syntax_store.proofs.EntryLaws.{entries_length, packed_at}
use Rattle.keep_syntax_store.proofs.packed_vec.PackedVec+T+T+Packed.settled.Goals as goal

pub index-stored-requires : goal.index-stored-requires
index-stored-requires g c =
    omega (
      arith,
      c.requires,
      entries_length g.T.Entry.unpacked g.T.Entry.raise c.args.self.now,
      c.args.self.now.packed.ok.0,
    )

pub returns-in-Some : goal.returns-in-Some
returns-in-Some g c =
    let vs = c.args.self.now in
    let n = c.args.number in
    let un = g.T.Entry.unpacked in
    let raise = g.T.Entry.raise in
    let below : n < length vs.packed.items = omega (arith, c.requires, entries_length un raise vs) in
    let none : found n vs.unfit ≡ None = c.if-not-lacks.ensures refl in
    IfSome_then c.raised_packed.result c.raised_packed.ensures
    (λ moved_on is.
    packed_at un raise vs n c.index-stored.result.now below none c.index-stored.ensures
    ∙ ap (λ m. Some (raise_by raise m (un c.index-stored.result.now))) (sym c.block_move.ensures ∙ c.in-Some.is)
    ∙ ap Some (sym is))

pub returns-in-None : goal.returns-in-None
returns-in-None g c =
    let vs = c.args.self.now in
    let n = c.args.number in
    let un = g.T.Entry.unpacked in
    let raise = g.T.Entry.raise in
    let below : n < length vs.packed.items = omega (arith, c.requires, entries_length un raise vs) in
    let none : found n vs.unfit ≡ None = c.if-not-lacks.ensures refl in
    packed_at un raise vs n c.index-stored.result.now below none c.index-stored.ensures
    ∙ ap (λ m. Some (raise_by raise m (un c.index-stored.result.now))) (sym c.block_move.ensures ∙ c.in-None.is)
