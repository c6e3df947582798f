-- The last key is defined in the table to which the others lead.
use Rattle.std.proofs.Common.{◌≡◌, ℕ, ◌+◌, ◌-◌, ◌<◌, [], ◌∷◌, ◌++◌, ap, subst, refl, arith, length}
use Rattle.std.specs.Prelude.{IfOk, IfErr}
use Rattle.std.proofs.lemmas.Result.{err_from_is_err_and, IfOk-weaker, IfErr-weaker}
use Rattle.keep_types.specs.declared.node.Kind.TheVariants as kind
use Rattle.keep_types.specs.declared.node.Origin.TheVariants as origin
use Rattle.keep_types.specs.declared.role.Role.TheVariants.{Define}
use Rattle.keep_index_store.specs.Facts.{named_info}
use Rattle.keep_rules.specs.Keys.{key_text_at, last_text}
use Rattle.keep_path.specs.Path.{key}
use Rattle.keep_rules.specs.Reads.{FaultsIn}
use Rattle.keep_rules.specs.Represents.{IsRefusedAt}
use Rattle.keep_rules.specs.Statements.{header_of}
use Rattle.keep_rules.specs.DefineFaults.{FaultMeets}
use Rattle.keep_rules.specs.Defines.{Defines, DefinesHead}
use Rattle.keep_index_store.specs.Trie.{by_key, path_at}
use Rattle.keep_rules.proofs.BuildLemmas.{stops_weaker, header_walk_stops, header_read, header_stops, header_all_added}
use Rattle.keep_rules.proofs.KeyWalkInfoLemmas.{define_added}
use Rattle.keep_rules.proofs.definitions.Definitions.define_table.Goals as goal
use Rattle.keep_rules.proofs.definitions.Definitions.define_table.Goals.{After-count-last}

some : (c : goal.After-count-last) → 0 < length c.args.keys.now.texts
some c = omega (arith, c.count-last.ensures.many, c.count-last.ensures.some)

pub returns-in_err-parent : goal.returns-in_err-parent
returns-in_err-parent c =
    let p = err_from_is_err_and c.from_residual.result c.from_residual.ensures.1 in
    rw (
      p.1,
      p.2,
    ) (record {
      ok = tt;
      define =
          header_walk_stops c.args.keys.now (some (goal.at.returns-in_err-parent c).After-count-last)
          c.args.self.now.tree.trie _ c.in_err-parent.ensures.define;
    })

pub define_key-requires : goal.define_key-requires
define_key-requires c =
    record {
      table = c.in_ok-parent.ensures.ok.node.table;
      low = omega (arith, c.count-last.ensures.many, c.count-last.ensures.some);
    }

pub returns : goal.returns
returns c =
    let old = c.args.self.now.tree in
    let mid = c.descend_header.new.self.tree in
    let new = c.define_key.new.self.tree in
    let r = c.define_key.result in
    let keys = c.args.keys.now in
    let parent = c.in_ok-parent.parent in
    let walked = c.in_ok-parent.ensures.ok in
    let are = some (goal.at.returns c).After-count-last in
    let at : c.count-last.result - 1 ≡ length keys.texts - 1 = ap (λ n. n - 1) c.count-last.ensures.many in
    let n : ℕ = keys.first + (length keys.texts - 1) in
    let p = path_at mid.trie parent ++ key (last_text keys) ∷ [] in
    let ok : IfOk r (Defines mid new p Define by_key (named_info kind.Table n (origin.Header c.args.statement))) =
    subst (λ (m : ℕ).
    IfOk r (Defines mid new (path_at mid.trie parent ++ key (key_text_at keys m) ∷ []) Define by_key
    (named_info kind.Table (keys.first + m) (origin.Header c.args.statement)))) at c.define_key.ensures.ok in
    let refused : IfErr r (λ fault. FaultMeets fault (IsRefusedAt mid.trie p Define n)) =
    subst (λ (m : ℕ).
    IfErr r (λ fault.
    FaultMeets fault (IsRefusedAt mid.trie (path_at mid.trie parent ++ key (key_text_at keys m) ∷ []) Define
    (keys.first + m)))) at c.define_key.ensures.refused in
    record {
      ok = IfOk-weaker r _ (DefinesHead old new keys.first c.args.statement (header_of keys))
          (λ to (one : Defines mid new p Define by_key (named_info kind.Table n (origin.Header c.args.statement)) to).
          record {
            node = header_read keys are (last_text keys) refl old.trie mid.trie new.trie parent to walked.node one.node;
            facts = header_all_added keys are (last_text keys) refl old mid new parent c.args.statement walked.node
                walked.facts (define_added mid new p n c.args.statement one.facts);
          }) ok;
      define =
          IfErr-weaker r (λ fault. FaultMeets fault (IsRefusedAt mid.trie p Define n))
          (λ fault. FaultMeets fault (λ m w. (body : ℕ) → FaultsIn old.trie body (header_of keys) keys.first m w))
          (λ fault stop.
          stops_weaker fault mid.trie p Define n
          (λ m w. (body : ℕ) → FaultsIn old.trie body (header_of keys) keys.first m w)
          (λ was. header_stops keys are (last_text keys) refl old.trie mid.trie parent walked.node was) stop) refused;
    }
