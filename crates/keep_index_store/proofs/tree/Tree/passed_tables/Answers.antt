-- One table after another, from the lowest on.
use Rattle.std.proofs.Common.{◌≡◌, ℕ, ◌<◌, ◌+◌, ◌-◌, ◌++◌, ◌∷◌, [], ◌∙◌, List, ap, arith, length, map, subst, sym}
use Rattle.std.specs.Prelude.{All, reverse}
use Rattle.std.proofs.lemmas.List.Elements.{All-append, All-cons}
use Rattle.std.proofs.lemmas.List.{length-append}
use Rattle.std.proofs.lemmas.Option.{get_or_from_slice_get}
use Rattle.keep_path.specs.NodeInfos.{no_info}
use Rattle.keep_index_store.specs.Dots.{CanTake, IsPassed, up_from}
use Rattle.keep_index_store.specs.Tree.{TrieInfos}
use Rattle.keep_index_store.specs.Trie.{IsTrie, path_at}
use Rattle.keep_index_store.proofs.DotsLemmas.{All-reverse, AreLater, one_found, paths_up}
use Rattle.keep_index_store.proofs.tree.Tree.passed_tables.Goals as goal

pub loop-number-preserved : goal.loop-number-preserved
loop-number-preserved c =
    let infos = c.args.self.now.infos in
    let id : ℕ = c.loop-number.id in
    let later : 0 < id = omega (arith, c.if-id-eq0.false) in
    let own : IsPassed c.args.count infos c.args.last id = record {
      later = later;
      up_to = c.loop-number.invariant.up_to;
      takes =
          subst (CanTake c.args.count) (sym (get_or_from_slice_get infos id c.info.result no_info c.info.ensures))
          (c.can_take.ensures c.if-not-can_take.false);
    } in
    record {
      up_to = omega (arith, c.parent-id.ensures.earlier later, c.loop-number.invariant.up_to);
      counted =
          omega (
            arith,
            ap length c.in-Ok.ensures.items,
            length-append c.loop-number.tables.items (id ∷ []),
            c.loop-number.invariant.counted,
          );
      passed =
          subst (All (IsPassed c.args.count infos c.args.last)) (sym c.in-Ok.ensures.items)
          (All-append (IsPassed c.args.count infos c.args.last) c.loop-number.tables.items (id ∷ [])
          c.loop-number.invariant.passed
          (All-cons (IsPassed c.args.count infos c.args.last) id [] own (λ k d h. absurd (omega (arith, h)))));
      left =
          ap (λ (up : ℕ). up_from c.args.self.now.trie up (c.args.count - (c.loop-number.number + 1))
          ++ reverse c.push.new.self.items) c.parent-id.ensures.parent
          ∙ one_found c.args.self.now.trie c.args.last id c.args.count c.loop-number.number c.loop-number.tables.items
          c.push.new.self.items c.loop-number-test.true c.loop-number.invariant.left c.in-Ok.ensures.items;
    }

pub returns-clause-tables : goal.returns-clause-tables
returns-clause-tables c =
    subst (All (IsPassed c.args.count c.args.self.now.infos c.args.last)) (sym c.reverse.ensures.items)
    (All-reverse (IsPassed c.args.count c.args.self.now.infos c.args.last) c.loop-number.tables.items
    c.loop-number.invariant.passed)

pub returns-clause-paths : goal.returns-clause-paths
returns-clause-paths c base passed here many =
    let t = c.args.self.now in
    let items : List ℕ = c.loop-number.tables.items in
    let none : 0 ≡ c.args.count - c.loop-number.number = omega (arith, c.loop-number-test.false) in
    let all : reverse items ≡ up_from t.trie c.args.last c.args.count =
    ap (λ (n : ℕ). up_from t.trie c.loop-number.id n ++ reverse items) none ∙ c.loop-number.invariant.left in
    let later : AreLater (up_from t.trie c.args.last c.args.count) =
    subst AreLater all (λ k d h.
    (All-reverse (IsPassed c.args.count t.infos c.args.last) items c.loop-number.invariant.passed k d h).later) in
    ap (map (path_at t.trie)) (c.reverse.ensures.items ∙ all)
    ∙ paths_up t.trie (subst (λ (x : TrieInfos). IsTrie x.trie) c.self.view_is c.self.invariant.trie) c.args.count
    c.args.last c.requires later base passed here many
