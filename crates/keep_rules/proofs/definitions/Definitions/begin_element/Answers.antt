-- The last key is defined, and then the array of tables gets one more element.
use Rattle.std.proofs.Common.{◌≡◌, ℕ, ◌+◌, ◌-◌, ◌<◌, [], ◌∷◌, ◌++◌, ap, sym, subst, refl, arith, length}
use Rattle.std.proofs.lemmas.Result.{err_from_is_err_and}
use Rattle.keep_types.specs.declared.node.Kind.TheVariants as kind
use Rattle.keep_types.specs.declared.node.NodeInfo.{NodeInfo}
use Rattle.keep_types.specs.declared.node.Origin.TheVariants as origin
use Rattle.keep_types.specs.declared.role.Role.TheVariants.{Element}
use Rattle.keep_path.specs.Path.{key}
use Rattle.keep_index_store.specs.Facts.{named_info}
use Rattle.keep_index_store.specs.Tree.{TrieInfos}
use Rattle.keep_index_store.specs.Trie.{by_index, path_at, holds_at}
use Rattle.keep_rules.specs.AddedInfos.{AddsInfo}
use Rattle.keep_rules.specs.Keys.{key_text_at, last_text}
use Rattle.keep_rules.specs.Reads.{FaultsIn}
use Rattle.keep_rules.specs.Represents.{Begins, IsDefined, IsRefusedAt}
use Rattle.keep_rules.specs.Statements.{element_of}
use Rattle.keep_rules.specs.DefineFaults.{FaultMeets}
use Rattle.keep_rules.specs.Tables.{IsShaped}
use Rattle.keep_rules.proofs.BuildLemmas.{stops_weaker, element_walk_stops, element_read, element_stops}
use Rattle.keep_rules.proofs.BuildLemmas.{element_all_added}
use Rattle.keep_rules.proofs.KeyWalkInfoLemmas.{begin_added}
use Rattle.keep_rules.proofs.OutcomeLemmas.{on_either}
use Rattle.keep_rules.proofs.StepLemmas.{begins}
use Rattle.keep_rules.proofs.TablesLemmas.{tables_listed}
use Rattle.keep_rules.proofs.definitions.Definitions.begin_element.Goals as goal
use Rattle.keep_rules.proofs.definitions.Definitions.begin_element.Goals.{After-count-last}

some : (c : goal.After-count-last) → 0 < length c.args.keys.now.texts
some c = omega (arith, c.count-last.ensures.many, c.count-last.ensures.some)

at_last : (c : goal.After-count-last) → c.count-last.result - 1 ≡ length c.args.keys.now.texts - 1
at_last c = ap (λ n. n - 1) c.count-last.ensures.many

pub returns-in_err-parent : goal.returns-in_err-parent
returns-in_err-parent c =
    let p = err_from_is_err_and c.from_residual.result c.from_residual.ensures.1 in
    rw (
      p.1,
      p.2,
    ) (record {
      ok = tt;
      define =
          element_walk_stops c.args.keys.now (some (goal.at.returns-in_err-parent c).After-count-last)
          c.args.self.now.tree.trie _ c.in_err-parent.ensures.define;
    })

pub define_key-requires : goal.define_key-requires
define_key-requires c =
    record {
      table = c.in_ok-parent.ensures.ok.node.table;
      low = omega (arith, c.count-last.ensures.many, c.count-last.ensures.some);
    }

pub returns-in_err-id : goal.returns-in_err-id
returns-in_err-id c =
    let old = c.args.self.now.tree.trie in
    let mid = c.descend_header.new.self.tree.trie in
    let keys = c.args.keys.now in
    let p = err_from_is_err_and c.from_residual-in_err-id.result c.from_residual-in_err-id.ensures.1 in
    rw (p.1, p.2) (record {
      ok = tt;
      define =
          stops_weaker _ mid (path_at mid c.in_ok-parent.parent ++ key (last_text keys) ∷ []) Element
          (keys.first + (length keys.texts - 1))
          (λ m w. (body : ℕ) → FaultsIn old body (element_of keys) keys.first m w)
          (λ was. element_stops keys (some (goal.at.returns-in_err-id c).After-count-last) (last_text keys) refl old mid
          c.in_ok-parent.parent c.in_ok-parent.ensures.ok.node was)
          (subst (λ (n : ℕ).
          FaultMeets c.in_err-id.field-0.0
          (IsRefusedAt mid (path_at mid c.in_ok-parent.parent ++ key (key_text_at keys n) ∷ []) Element
          (keys.first + n))) (at_last (goal.at.returns-in_err-id c).After-count-last) c.in_err-id.ensures.refused);
    })

pub add_item-requires : goal.add_item-requires
add_item-requires c =
    let mid = c.define_key.new.self.tree in
    let marked = c.in_ok-id.ensures.ok.node in
    let listed : holds_at mid.trie c.in_ok-id.id ≡ by_index =
    tables_listed mid.trie marked.shaped c.in_ok-id.id marked.nested marked.kind in
    record { within = marked.nested; listed = listed }

pub invariant_of-self : goal.invariant_of-self
invariant_of-self c =
    let old = c.descend_header.new.self.tree in
    let mid = c.define_key.new.self in
    let new = c.add_item.new.self in
    record {
      shaped =
          on_either c.add_item.result _ _ _
          (λ grows.
          (begins old.trie mid.tree.trie new.trie c.in_ok-parent.parent c.in_ok-id.id (length mid.tree.trie) _
          c.in_ok-id.ensures.ok.node grows refl).shaped)
          (λ (is : new ≡ mid.tree). subst (λ (t : TrieInfos). IsShaped t.trie) (sym is) mid.shaped)
          c.add_item.ensures.grows c.add_item.ensures.refused;
    }

pub returns-in_err-add_item : goal.returns-in_err-add_item
returns-in_err-add_item c =
    let p = err_from_is_err_and c.from_residual-in_err-add_item.result c.from_residual-in_err-add_item.ensures.1 in
    rw (p.1, p.2) (record { ok = tt; define = tt })

pub returns : goal.returns
returns c =
    let old = c.args.self.now.tree in
    let before = c.descend_header.new.self.tree in
    let mid = c.define_key.new.self.tree in
    let new = c.add_item.new.self in
    let keys = c.args.keys.now in
    let parent = c.in_ok-parent.parent in
    let n : ℕ = keys.first + (length keys.texts - 1) in
    let at = at_last (goal.at.returns c).After-count-last in
    let are = some (goal.at.returns c).After-count-last in
    let p = path_at before.trie parent ++ key (last_text keys) ∷ [] in
    let marked : IsDefined before.trie mid.trie p Element by_index c.in_ok-id.id =
    subst (λ (m : ℕ).
    IsDefined before.trie mid.trie (path_at before.trie parent ++ key (key_text_at keys m) ∷ []) Element by_index
    c.in_ok-id.id) at c.in_ok-id.ensures.ok.node in
    let joined : AddsInfo before mid p (named_info kind.Tables n origin.Tables) =
    subst (λ (m : ℕ).
    AddsInfo before mid (path_at before.trie parent ++ key (key_text_at keys m) ∷ [])
    (named_info kind.Tables (keys.first + m) origin.Tables)) at c.in_ok-id.ensures.ok.facts in
    let begun : Begins before.trie new.trie parent c.in_ok-add_item.field-0 (last_text keys) =
    begins before.trie mid.trie new.trie parent c.in_ok-id.id c.in_ok-add_item.field-0 (last_text keys) marked
    c.in_ok-add_item.ensures.grows c.in_ok-add_item.ensures.last in
    record {
      ok = record {
        node = element_read keys are (last_text keys) refl old.trie before.trie new.trie parent c.in_ok-add_item.field-0
            c.in_ok-parent.ensures.ok.node begun;
        facts = element_all_added keys are (last_text keys) refl old before new parent c.args.statement
            c.in_ok-parent.ensures.ok.node c.in_ok-parent.ensures.ok.facts
            (begin_added before mid new p c.in_ok-id.id n c.args.statement marked joined c.in_ok-add_item.ensures.grows
            (subst (λ (i : NodeInfo). new.infos ≡ mid.infos ++ i ∷ []) c.unnamed-element.ensures.info
            c.in_ok-add_item.ensures.infos));
      };
      define = tt;
    }
