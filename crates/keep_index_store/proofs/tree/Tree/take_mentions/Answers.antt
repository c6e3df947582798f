-- One table after another, from the lowest on.
use Rattle.std.proofs.Common.{◌≡◌, ℕ, suc, ◌+◌, ◌-◌, ◌∙◌, ap, arith, length, subst, sym}
use Rattle.std.specs.Prelude.{All}
use Rattle.keep_index_store.specs.DotsLess.{AreGivers, HasSmallValue, all_less_mentioned, less_mentioned}
use Rattle.keep_index_store.specs.Tree.{TrieInfos}
use Rattle.keep_index_store.specs.Trie.{IsTrie, parent_at}
use Rattle.keep_index_store.proofs.DotsLessLemmas.{next_givers, parent_low, small_stay}
use Rattle.keep_index_store.proofs.tree.Tree.take_mentions.Goals as goal

pub take_mention-requires-clause-gives : goal.take_mention-requires-clause-gives
take_mention-requires-clause-gives c =
    let rest : ℕ = c.args.count - (c.loop-number.number + 1) in
    let more : c.args.count - c.loop-number.number ≡ suc rest = omega (arith, c.loop-number-test.true) in
    let all : AreGivers c.loop-number.self c.loop-number.id (suc rest) =
    subst (AreGivers c.loop-number.self c.loop-number.id) more c.loop-number.invariant.tables in
    all.0.gives

pub loop-number-preserved : goal.loop-number-preserved
loop-number-preserved c =
    let t : TrieInfos = c.loop-number.self in
    let id : ℕ = c.loop-number.id in
    let up : ℕ = c.parent-id.result in
    let rest : ℕ = c.args.count - (c.loop-number.number + 1) in
    let more : c.args.count - c.loop-number.number ≡ suc rest = omega (arith, c.loop-number-test.true) in
    let all : AreGivers t id (suc rest) = subst (AreGivers t id) more c.loop-number.invariant.tables in
    let is : c.take_mention.new.self ≡ less_mentioned id t = c.take_mention.ensures in
    let trie : IsTrie t.trie =
    subst IsTrie (sym c.loop-number.invariant.same)
    (subst (λ (x : TrieInfos). IsTrie x.trie) c.self.view_is c.self.invariant.trie) in
    let up_is : up ≡ parent_at t.trie id =
    c.parent-id.ensures.parent ∙ ap (λ (x : TrieInfos). parent_at x.trie id) is in
    record {
      same = ap (λ (x : TrieInfos). x.trie) is ∙ c.loop-number.invariant.same;
      within =
          omega (
            arith,
            up_is,
            parent_low t.trie trie id all.0.later c.loop-number.invariant.within,
            c.loop-number.invariant.within,
            ap (λ (x : TrieInfos). length x.trie) is,
          );
      tables =
          subst (λ (x : TrieInfos). AreGivers x up rest) (sym is)
          (subst (λ (p : ℕ). AreGivers (less_mentioned id t) p rest) (sym up_is)
          (next_givers t trie id rest c.loop-number.invariant.within all));
      small =
          subst (λ (x : TrieInfos). All HasSmallValue x.infos) (sym is)
          (small_stay t c.loop-number.invariant.small id);
      left =
          ap (all_less_mentioned up rest) is
          ∙ ap (λ (p : ℕ). all_less_mentioned p rest (less_mentioned id t)) up_is
          ∙ ap (λ (n : ℕ). all_less_mentioned id n t) (sym more) ∙ c.loop-number.invariant.left;
    }

pub returns-clause-taken : goal.returns-clause-taken
returns-clause-taken c =
    let none : 0 ≡ c.args.count - c.loop-number.number = omega (arith, c.loop-number-test.false) in
    ap (λ (n : ℕ). all_less_mentioned c.loop-number.id n c.loop-number.self) none ∙ c.loop-number.invariant.left
