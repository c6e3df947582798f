use Rattle.std.proofs.Common.{◌≡◌, ◌++◌, OnOk, sym, subst}
use Rattle.keep_syntax_store.specs.PackedVec.{entries}
use Rattle.keep_syntax_store.proofs.MoveLaws.{range_one}
use Rattle.keep_syntax_store.proofs.packed_vec.PackedVec+T+T+Packed.push_unpacked.Goals as goal

pub returns : goal.returns
returns g c =
    let old = entries g.T.Entry.unpacked g.T.Entry.raise c.args.self.now in
    let new = entries g.T.Entry.unpacked g.T.Entry.raise c.push.new.self in
    let es = entries g.T.Entry.unpacked g.T.Entry.raise c.args.other.now in
    subst (λ xs. OnOk c.push.result (new ≡ old ++ xs)) (sym (range_one es c.args.number c.get.result c.get.ensures))
    c.push.ensures
