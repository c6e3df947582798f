-- The state after the role is the node's, or the role is not allowed.
use Rattle.std.proofs.Common.{◌≡◌, List, ◌∷◌, ◌++◌, [], refl, subst, sym, Option, Some, true, false}
use Rattle.std.specs.List.{list_all}
use Rattle.std.proofs.lemmas.Result.{err_from_is_err_and}
use Rattle.keep_types.specs.declared.role.Role.{Role}
use Rattle.keep_path.specs.Path.{Part}
use Rattle.keep_meaning.specs.Rules.{allows}
use Rattle.keep_meaning.specs.State.{IsState}
use Rattle.keep_index_store.specs.Growth.{Restates}
use Rattle.keep_index_store.specs.Facts.{info_of}
use Rattle.keep_index_store.specs.Tree.{TrieInfos}
use Rattle.keep_index_store.specs.Trie.{Holding, by_key, path_at}
use Rattle.keep_rules.specs.Represents.{IsDefined}
use Rattle.keep_rules.specs.Tables.{IsShaped}
use Rattle.keep_rules.proofs.MarkLemmas.{marked_existing, was_refused}
use Rattle.keep_rules.proofs.AddedInfoLemmas.{added_at_existing}
use Rattle.keep_rules.proofs.OutcomeLemmas.{on_either}
use Rattle.keep_rules.proofs.definitions.Definitions.define_again.Goals as goal
use Rattle.keep_rules.proofs.definitions.Definitions.define_again.Goals.{After-set_role}

pub returns-in_default : goal.returns-in_default
returns-in_default c = λ holds.
    let nodes = c.args.self.now.tree in
    record {
      ok = tt;
      refused = record {
        place = refl;
        reason = c.why_of.ensures;
        refused = was_refused nodes.trie _ c.args.role c.args.id c.requires.within refl
            (subst (λ (s : Option Role). (roles : List Role) → IsState s roles
            → list_all (λ e. allows e c.args.role) roles ≡ false) c.role.ensures c.in_default.ensures.refused);
      };
      unchanged = refl;
    }

marked : (c : goal.After-set_role) (holds : Holding)
    → Restates c.args.self.now.tree.trie c.set_role.new.self.trie c.args.id c.in-Some.next
    → IsDefined c.args.self.now.tree.trie c.set_role.new.self.trie (path_at c.args.self.now.tree.trie c.args.id)
    c.args.role holds c.args.id
marked c holds restates =
    let nodes = c.args.self.now.tree.trie in
    let new = c.set_role.new.self.trie in
    let at = c.requires.named in
    subst (λ (p : List Part). IsDefined nodes new p c.args.role holds c.args.id) (sym at.2)
    (marked_existing nodes new at.0 at.1 c.args.role c.in-Some.next holds c.args.id restates c.args.self.now.shaped at.2
    (subst (λ (s : Option Role). (roles : List Role) → IsState s roles
    → list_all (λ e. allows e c.args.role) roles ≡ true) c.role.ensures c.in-Some.ensures.allowed)
    (subst (λ (s : Option Role). (roles : List Role) → IsState s roles
    → IsState (Some c.in-Some.next) (roles ++ c.args.role ∷ [])) c.role.ensures c.in-Some.ensures.next))

pub invariant_of-self : goal.invariant_of-self
invariant_of-self c = record {
  shaped =
      on_either c.set_role.result _ _ _
      (λ restates. (marked (goal.at.invariant_of-self c).After-set_role by_key restates).shaped)
      (λ (is : c.set_role.new.self ≡ c.args.self.now.tree).
      subst (λ (t : TrieInfos). IsShaped t.trie) (sym is) c.args.self.now.shaped) c.set_role.ensures.restates
      c.set_role.ensures.refused;
}

pub returns-in_err-set_role : goal.returns-in_err-set_role
returns-in_err-set_role c =
    let p = err_from_is_err_and c.from_residual.result c.from_residual.ensures.1 in
    rw (p.1, p.2) (λ holds. record { ok = tt; refused = tt; unchanged = c.in_err-set_role.ensures.refused })

pub returns : goal.returns
returns c = λ holds.
    let restates = c.in_ok-set_role.ensures.restates in
    record {
      ok = record {
        node = marked (goal.at.returns c).After-set_role holds restates;
        facts = added_at_existing c.args.self.now.tree c.set_role.new.self c.args.id _ (info_of c.args.facts)
            restates.trie restates.within refl restates.paths c.in_ok-set_role.ensures.infos;
      };
      refused = tt;
      unchanged = tt;
    }
