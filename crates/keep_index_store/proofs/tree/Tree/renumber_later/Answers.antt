-- The stored nodes keep their tree of steps, whether they change or not.
use Rattle.std.proofs.Common.{◌≡◌, ◌∙◌, ap, map, sym, subst}
use Rattle.std.specs.List.{AllByRecursion}
use Rattle.std.proofs.lemmas.Option.{IfSome_then}
use Rattle.keep_path.specs.NodeInfos.{renumbered, later_number}
use Rattle.keep_index_store.specs.Renumbering.{InfoCanGrow, numbers_of}
use Rattle.keep_index_store.specs.Stored.{IsStored, infos_of, trie_of}
use Rattle.keep_index_store.specs.Tree.{TrieInfos}
use Rattle.keep_index_store.proofs.RenumberedBackLemmas.{if_none_then, whether}
use Rattle.keep_index_store.proofs.RenumberingLemmas.{infos_could_grow, infos_renumbered, stored_renumbered, trie_stays}
use Rattle.keep_index_store.proofs.tree.Tree.renumber_later.Goals as goal

pub invariant_of-self : goal.invariant_of-self
invariant_of-self c =
    whether c.renumber_later.result (IsStored c.renumber_later.new.self.items) c.renumber_later.ensures.later
    c.renumber_later.ensures.unchanged
    (λ is.
    subst IsStored (sym is)
    (stored_renumbered later_number c.args.line c.self.inside.nodes.items c.self.invariant))
    (λ is. subst IsStored (sym (ap (λ ns. ns.items) is)) c.self.invariant)

pub returns-clause-trie : goal.returns-clause-trie
returns-clause-trie c =
    whether c.renumber_later.result (trie_of c.renumber_later.new.self.items ≡ c.args.self.now.trie)
    c.renumber_later.ensures.later c.renumber_later.ensures.unchanged
    (λ is.
    ap trie_of is ∙ trie_stays later_number c.args.line c.self.inside.nodes.items
    ∙ ap (λ (t : TrieInfos). t.trie) c.self.view_is)
    (λ is. ap (λ ns. trie_of ns.items) is ∙ ap (λ (t : TrieInfos). t.trie) c.self.view_is)

pub returns-clause-infos : goal.returns-clause-infos
returns-clause-infos c =
    IfSome_then c.renumber_later.result c.renumber_later.ensures.later (λ _ is.
    ap infos_of is ∙ infos_renumbered later_number c.args.line c.self.inside.nodes.items
    ∙ ap (λ (t : TrieInfos). map (renumbered later_number (numbers_of c.args.line)) t.infos) c.self.view_is)

pub returns-clause-full : goal.returns-clause-full
returns-clause-full c =
    if_none_then c.renumber_later.result c.renumber_later.ensures.full (λ full can.
    full (infos_could_grow c.self.inside.nodes.items
    (subst (λ (t : TrieInfos). AllByRecursion InfoCanGrow t.infos) (sym c.self.view_is) can)))
