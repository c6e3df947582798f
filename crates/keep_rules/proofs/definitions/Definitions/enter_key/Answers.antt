-- A header enters the node of a key without elements, which is defined, and that of the last element of any other.
use Rattle.std.proofs.Common.{ℕ, List, ◌∷◌, ◌++◌, [], subst, sym}
use Rattle.std.specs.Prelude.{IfErr}
use Rattle.std.proofs.lemmas.Result.{IfOk-weaker, IfErr-weaker, err_from_is_err_and}
use Rattle.keep_types.specs.declared.node.NodeInfo.{NodeInfo}
use Rattle.keep_types.specs.declared.role.Role.TheVariants.{Through}
use Rattle.keep_path.specs.Path.{Part, key}
use Rattle.keep_index_store.specs.Facts.{info_of}
use Rattle.keep_rules.specs.AddedInfos.{AddsInfo, HeaderAdds}
use Rattle.keep_rules.specs.Defines.{Defines, EntersKey}
use Rattle.keep_rules.specs.Outcomes.{DefinesOrRefuses}
use Rattle.keep_meaning.specs.Marks.{passing_mentions}
use Rattle.keep_index_store.specs.Trie.{TrieNode, by_key, path_at}
use Rattle.keep_rules.specs.Represents.{IsLastElement, HasNoElement, Enters, IsRefusedAt}
use Rattle.keep_rules.specs.DefineFaults.{FaultMeets}
use Rattle.keep_rules.proofs.PassLemmas.{none_unmet, entry_stops, passes_element, passes_marked}
use Rattle.keep_rules.proofs.KeyWalkInfoLemmas.{through_added}
use Rattle.keep_rules.proofs.definitions.Definitions.enter_key.Goals as goal
use Rattle.keep_rules.proofs.definitions.Definitions.enter_key.Goals.{In_ok-enter_element}

-- a new key

new : (c : goal.After-define_text)
    → HasNoElement c.args.self.now.tree.trie
    (path_at c.args.self.now.tree.trie c.args.parent ++ key c.args.text.now ∷ [])
new c = none_unmet c.args.self.now.tree.trie _ c.in_default.ensures

pub returns-in_default : goal.returns-in_default
returns-in_default c =
    let old = c.args.self.now.tree in
    let after = c.define_text.new.self.tree in
    let r = c.define_text.result in
    let p = path_at old.trie c.args.parent ++ key c.args.text.now ∷ [] in
    record {
      ok = IfOk-weaker r _ (EntersKey old after c.args.parent c.args.text.now c.args.part c.args.statement)
          (λ to (one : Defines old after p Through by_key (info_of c.named-through.result) to). record {
            node = passes_marked old.trie after.trie c.args.parent to c.args.text.now one.node (new c);
            facts = through_added old after p c.args.part c.args.statement (new c)
                (subst (λ (i : NodeInfo). AddsInfo old after p i) c.named-through.ensures.info one.facts);
          }) c.define_text.ensures.ok;
      refused = IfErr-weaker r _ _ (λ fault. entry_stops fault old.trie p c.args.part (new c))
          (subst (λ (n : ℕ). IfErr r (λ fault. FaultMeets fault (IsRefusedAt old.trie p Through n)))
          c.named-through.ensures.key c.define_text.ensures.refused);
      unchanged = c.define_text.ensures.unchanged;
    }

-- a key that is there

-- at no array of tables

plain : (c : goal.After-define_again)
    → HasNoElement c.args.self.now.tree.trie
    (path_at c.args.self.now.tree.trie c.args.parent ++ key c.args.text.now ∷ [])
plain c =
    subst (λ (p : List Part). HasNoElement c.args.self.now.tree.trie p) c.in-Some.ensures.1
    c.in_default-last_element.ensures.none

pub define_again-requires : goal.define_again-requires
define_again-requires c =
    record {
      within = c.in-Some.ensures.0;
      named = (path_at c.args.self.now.tree.trie c.args.parent, c.args.text.now, c.in-Some.ensures.1);
    }

pub returns-in_default-last_element : goal.returns-in_default-last_element
returns-in_default-last_element c =
    let old = c.args.self.now.tree in
    let after = c.define_again.new.self.tree in
    let r = c.define_again.result in
    let p = path_at old.trie c.args.parent ++ key c.args.text.now ∷ [] in
    let info = info_of c.named-through.result in
    let defined : DefinesOrRefuses old after p Through by_key info c.named-through.result.key r =
    subst (λ (q : List Part). DefinesOrRefuses old after q Through by_key info c.named-through.result.key r)
    c.in-Some.ensures.1 (c.define_again.ensures by_key) in
    record {
      ok = IfOk-weaker r _ (EntersKey old after c.args.parent c.args.text.now c.args.part c.args.statement)
          (λ to (one : Defines old after p Through by_key info to). record {
            node = passes_marked old.trie after.trie c.args.parent to c.args.text.now one.node (plain c);
            facts = through_added old after p c.args.part c.args.statement (plain c)
                (subst (λ (i : NodeInfo). AddsInfo old after p i) c.named-through.ensures.info one.facts);
          }) defined.ok;
      refused = IfErr-weaker r _ _ (λ fault. entry_stops fault old.trie p c.args.part (plain c))
          (subst (λ (n : ℕ). IfErr r (λ fault. FaultMeets fault (IsRefusedAt old.trie p Through n)))
          c.named-through.ensures.key defined.refused);
      unchanged = defined.unchanged;
    }

-- at an array of tables

pub enter_element-requires : goal.enter_element-requires
enter_element-requires c = c.in-Some-last_element.ensures.some

pub returns-in_err-enter_element : goal.returns-in_err-enter_element
returns-in_err-enter_element c =
    let p = err_from_is_err_and c.from_residual.result c.from_residual.ensures.1 in
    rw (p.1, p.2) (record { ok = tt; refused = tt; unchanged = c.in_err-enter_element.ensures.unchanged })

element : (c : In_ok-enter_element)
    → IsLastElement c.args.self.now.tree.trie
    (path_at c.args.self.now.tree.trie c.args.parent ++ key c.args.text.now ∷ []) c.in-Some.child
    c.in-Some-last_element.last
element c =
    subst (λ (p : List Part). IsLastElement c.args.self.now.tree.trie p c.in-Some.child c.in-Some-last_element.last)
    c.in-Some.ensures.1 c.in-Some-last_element.ensures.some

pub returns : goal.returns
returns c =
    let old = c.args.self.now.tree in
    let after = c.enter_element.new.self.tree in
    record {
      ok = record {
        node = subst (λ (ts : List TrieNode).
            Enters old.trie ts c.args.parent c.in-Some-last_element.last c.args.text.now)
            (sym c.in_ok-enter_element.ensures.same)
            (passes_element old.trie c.args.parent c.in-Some.child c.in-Some-last_element.last c.args.text.now
            (element (goal.at.returns c).In_ok-enter_element));
        facts = subst (λ (p : List Part).
            HeaderAdds old after c.args.part c.args.statement (λ tables. passing_mentions tables p)) c.in-Some.ensures.1
            (c.in_ok-enter_element.ensures.facts c.args.statement);
      };
      refused = tt;
      unchanged = tt;
    }
