-- The last child is the last element.
use Rattle.std.proofs.Common.{◌≡◌, ℕ, ◌∷◌, ◌++◌, ◌-◌, [], length, ◌∙◌, ap, sym}
use Rattle.keep_index_store.specs.Trie.{children_of, path_at}
use Rattle.keep_path.specs.Path.{index}
use Rattle.keep_rules.proofs.HeaderJoinLemmas.{tables_are}
use Rattle.keep_rules.proofs.index.headers.tables_below.Goals as goal

pub returns : goal.returns
returns c =
    let t = c.args.nodes.now in
    let array = c.in-Some.array in
    let last = c.in-Some-last_item.last in
    let here : path_at t.trie last ≡ path_at t.trie array ++ index (length (children_of t.trie array) - 1) ∷ [] =
    ap (path_at t.trie) (sym c.if-item-last.false) ∙ c.in-Some-item.ensures.1
    ∙ ap (λ (n : ℕ). path_at t.trie array ++ index (n - 1) ∷ []) c.child_count.ensures in
    record {
      within = c.in-Some.ensures.0;
      here = c.in-Some.ensures.1;
      listed = c.in-Some-last_item.ensures.listed;
      counted =
          tables_are t c.requires.trie array c.in-Some.ensures.0 c.info.result c.info.ensures c.in-Tables.is last
          c.in-Some-last_item.ensures.some.0 c.in-Some-last_item.ensures.some.1 here;
    }
