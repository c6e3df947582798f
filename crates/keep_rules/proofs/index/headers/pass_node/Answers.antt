-- A header goes on from a key's node, or from the last element of the array of tables that the key names.
use Rattle.std.proofs.Common.{List, ◌∷◌, ◌++◌, [], subst, sym, ap, ◌∙◌}
use Rattle.keep_index_store.specs.declared.tree.joining.Join.{Join}
use Rattle.keep_rules.specs.HeaderJoins.{PassesKeys}
use Rattle.keep_rules.proofs.HeaderJoinLemmas.{other_node, past_key, tables_node, through_key}
use Rattle.keep_rules.proofs.index.headers.pass_node.Goals as goal

pub returns-in_default : goal.returns-in_default
returns-in_default c = λ first keys at text before here numbered.
    subst (λ (js : List Join).
    PassesKeys c.args.nodes.now js c.args.statement first (keys ++ text ∷ []) c.args.child)
    (sym c.in_ok-push_join.ensures)
    (through_key c.args.nodes.now c.requires.trie c.args.joins.now.items c.args.statement first keys at before
    text c.args.part numbered c.args.child c.requires.within here
    c.named-through.result c.named-through.ensures.info
    (other_node c.args.nodes.now c.requires.trie c.args.child c.requires.within c.info.result c.info.ensures
    c.in_default.not-Tables))

pub returns : goal.returns
returns c = λ first keys at text before here numbered.
    let last = c.in-Some.last in
    subst (λ (js : List Join).
    PassesKeys c.args.nodes.now js c.args.statement first (keys ++ text ∷ []) last)
    (sym (c.in_ok-push_join-3.ensures
    ∙ ap (λ (js : List Join). js ++ record { id = last; facts = c.passed.result } ∷ []) c.in_ok-push_join-2.ensures))
    (past_key c.args.nodes.now c.requires.trie c.args.joins.now.items c.args.statement first keys at before
    text c.args.part numbered c.args.child c.requires.within here
    last c.in-Some.ensures.some.0 c.in-Some.ensures.some.1
    c.named-past.result c.passed.result c.named-past.ensures.info c.passed.ensures
    (tables_node c.args.nodes.now c.requires.trie c.args.child c.requires.within c.info.result c.info.ensures
    c.in-Tables.is))
