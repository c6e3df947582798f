-- One table after another, from the lowest on.
use Rattle.std.proofs.Common.{◌≡◌, ℕ, suc, ◌+◌, ◌-◌, ◌<◌, arith, subst, sym}
use Rattle.std.proofs.lemmas.Option.{get_or_from_slice_get}
use Rattle.keep_path.specs.NodeInfos.{no_info}
use Rattle.keep_index_store.specs.DotsLess.{AreGivers, CanGive, IsGiver}
use Rattle.keep_index_store.proofs.tree.Tree.are_shared_tables.Goals as goal

pub loop-number-preserved : goal.loop-number-preserved
loop-number-preserved c =
    let t = c.args.self.now in
    let id : ℕ = c.loop-number.id in
    let rest : ℕ = c.args.count - (c.loop-number.number + 1) in
    let later : 0 < id = omega (arith, c.if-id-eq0.false) in
    let more : suc rest ≡ c.args.count - c.loop-number.number = omega (arith, c.loop-number-test.true) in
    let own : IsGiver t id = record {
      later = later;
      gives =
          subst CanGive (sym (get_or_from_slice_get t.infos id c.info.result no_info c.info.ensures))
          (c.can_give.ensures c.if-not-can_give.false);
    } in
    record {
      within = omega (arith, c.parent-id.ensures.earlier later, c.loop-number.invariant.within);
      left = λ others. c.loop-number.invariant.left (subst (AreGivers t id) more (
        own,
        subst (λ (up : ℕ). AreGivers t up rest) c.parent-id.ensures.parent others,
      ));
    }

pub returns : goal.returns
returns c _ =
    let none : 0 ≡ c.args.count - c.loop-number.number = omega (arith, c.loop-number-test.false) in
    c.loop-number.invariant.left (subst (AreGivers c.args.self.now c.loop-number.id) none tt)
