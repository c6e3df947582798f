-- The last key is defined in the table to which the others lead.
use Rattle.std.proofs.Common.{◌≡◌, ℕ, ◌+◌, ◌-◌, ◌<◌, [], ◌∷◌, ◌++◌, ap, subst, refl, arith, length}
use Rattle.std.specs.Prelude.{IfOk, IfErr}
use Rattle.std.proofs.lemmas.Result.{err_from_is_err_and, IfOk-weaker, IfErr-weaker}
use Rattle.keep_types.specs.declared.node.Origin.TheVariants as origin
use Rattle.keep_types.specs.declared.role.Role.TheVariants.{Value}
use Rattle.keep_index_store.specs.Facts.{named_info}
use Rattle.keep_index_store.specs.Children.{holding}
use Rattle.keep_rules.specs.Keys.{key_text_at, last_text}
use Rattle.keep_path.specs.Path.{key}
use Rattle.keep_rules.specs.Reads.{KeyedFaults}
use Rattle.keep_rules.specs.Represents.{IsRefusedAt}
use Rattle.keep_rules.specs.DefineFaults.{FaultMeets}
use Rattle.keep_rules.specs.Defines.{Defines, DefinesValue}
use Rattle.keep_index_store.specs.Trie.{path_at}
use Rattle.keep_rules.proofs.BuildLemmas.{stops_weaker, keyed_walk_stops, value_given, keyed_stops, keyed_all_added}
use Rattle.keep_rules.proofs.definitions.Definitions.define_value.Goals as goal
use Rattle.keep_rules.proofs.definitions.Definitions.define_value.Goals.{After-count-last}

some : (c : goal.After-count-last) → 0 < length c.args.keys.now.texts
some c = omega (arith, c.count-last.ensures.many, c.count-last.ensures.some)

pub returns-in_err-parent : goal.returns-in_err-parent
returns-in_err-parent c =
    let p = err_from_is_err_and c.from_residual.result c.from_residual.ensures.1 in
    rw (
      p.1,
      p.2,
    ) (record {
      ok = tt;
      define =
          keyed_walk_stops c.args.keys.now (some (goal.at.returns-in_err-parent c).After-count-last)
          c.args.self.now.tree.trie c.args.table _ c.in_err-parent.ensures.define;
    })

pub define_key-requires : goal.define_key-requires
define_key-requires c =
    let open_ = c.in_ok-parent.ensures.ok.node.is_open in
    record {
      table = record { within = open_.nested; keyed = open_.open_to };
      low = omega (arith, c.count-last.ensures.many, c.count-last.ensures.some);
    }

pub returns : goal.returns
returns c =
    let old = c.args.self.now.tree in
    let mid = c.descend_dotted.new.self.tree in
    let new = c.define_key.new.self.tree in
    let r = c.define_key.result in
    let keys = c.args.keys.now in
    let holds = holding c.args.holds in
    let parent = c.in_ok-parent.parent in
    let gone = c.in_ok-parent.ensures.ok in
    let are = some (goal.at.returns c).After-count-last in
    let at : c.count-last.result - 1 ≡ length keys.texts - 1 = ap (λ n. n - 1) c.count-last.ensures.many in
    let n : ℕ = keys.first + (length keys.texts - 1) in
    let p = path_at mid.trie parent ++ key (last_text keys) ∷ [] in
    let ok : IfOk r (Defines mid new p Value holds (named_info c.args.kind n (origin.Value c.args.value))) =
    subst (λ (m : ℕ).
    IfOk r (Defines mid new (path_at mid.trie parent ++ key (key_text_at keys m) ∷ []) Value holds
    (named_info c.args.kind (keys.first + m) (origin.Value c.args.value)))) at c.define_key.ensures.ok in
    let refused : IfErr r (λ fault. FaultMeets fault (IsRefusedAt mid.trie p Value n)) =
    subst (λ (m : ℕ).
    IfErr r (λ fault.
    FaultMeets fault (IsRefusedAt mid.trie (path_at mid.trie parent ++ key (key_text_at keys m) ∷ []) Value
    (keys.first + m)))) at c.define_key.ensures.refused in
    record {
      ok = IfOk-weaker r _ (DefinesValue old new c.args.table keys c.args.value c.args.kind holds)
          (λ to (one : Defines mid new p Value holds (named_info c.args.kind n (origin.Value c.args.value)) to).
          record {
            node = value_given keys are (last_text keys) refl old.trie mid.trie new.trie c.args.table parent to holds
                gone.node one.node;
            facts = keyed_all_added keys are (last_text keys) refl old mid new c.args.table parent to c.args.value
                c.args.kind holds gone.node gone.facts one.node one.facts;
          }) ok;
      define =
          IfErr-weaker r (λ fault. FaultMeets fault (IsRefusedAt mid.trie p Value n))
          (λ fault. FaultMeets fault (KeyedFaults old.trie c.args.table keys.first keys.texts))
          (λ fault stop. stops_weaker fault mid.trie p Value n (KeyedFaults old.trie c.args.table keys.first keys.texts)
          (λ was. keyed_stops keys are (last_text keys) refl old.trie mid.trie c.args.table parent gone.node was) stop)
          refused;
    }
