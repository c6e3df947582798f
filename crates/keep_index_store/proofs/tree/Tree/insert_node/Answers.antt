-- The nodes have one more, and so has the tree.
use Rattle.std.proofs.Common.{[], ◌∷◌, ◌++◌, ◌∙◌, ap, subst, sym}
use Rattle.std.specs.List.{insert}
use Rattle.keep_path.specs.Path.{key}
use Rattle.keep_index_store.specs.Children.{holding}
use Rattle.keep_index_store.specs.Facts.{info_of}
use Rattle.keep_index_store.specs.Inserted.{HasPlace}
use Rattle.keep_index_store.specs.Tree.{TrieInfos}
use Rattle.keep_index_store.specs.Trie.{holdings_of, path_at, paths_of}
use Rattle.keep_index_store.proofs.tree.Tree.insert_node.Goals as goal

pub insert_leaf-requires-clause-place : goal.insert_leaf-requires-clause-place
insert_leaf-requires-clause-place c =
    subst (λ (x : TrieInfos). HasPlace x.trie c.args.parent c.args.text.now c.args.at) (sym c.self.view_is) c.requires

pub returns-clause-paths : goal.returns-clause-paths
returns-clause-paths c done =
    (c.insert_leaf.ensures.inserted done).paths
    ∙ ap (λ (x : TrieInfos).
    insert (paths_of x.trie) c.args.at (path_at x.trie c.args.parent ++ key c.args.text.now ∷ [])) c.self.view_is

pub returns-clause-holdings : goal.returns-clause-holdings
returns-clause-holdings c done =
    (c.insert_leaf.ensures.inserted done).holdings
    ∙ ap (λ (x : TrieInfos). insert (holdings_of x.trie) c.args.at (holding c.args.holds)) c.self.view_is

pub returns-clause-infos : goal.returns-clause-infos
returns-clause-infos c done =
    (c.insert_leaf.ensures.inserted done).infos
    ∙ ap (λ (x : TrieInfos). insert x.infos c.args.at (info_of c.args.facts)) c.self.view_is

pub returns-clause-trie : goal.returns-clause-trie
returns-clause-trie c done = (c.insert_leaf.ensures.inserted done).leaf.stored.trie
