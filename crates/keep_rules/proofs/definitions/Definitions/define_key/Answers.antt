-- The key part is decoded.
use Rattle.std.proofs.Common.{◌≡◌, ℕ, ◌+◌, List, [], ◌∷◌, ◌++◌, ap, ◌∙◌, subst, refl}
use Rattle.std.specs.Prelude.{IfOk, IfErr}
use Rattle.std.proofs.lemmas.Result.{err_from_is_err_and}
use Rattle.keep_types.specs.declared.node.NodeInfo.{NodeInfo}
use Rattle.keep_path.specs.Path.{key}
use Rattle.keep_index_store.specs.Children.{holding}
use Rattle.keep_index_store.specs.Facts.{named_info}
use Rattle.keep_index_store.specs.Trie.{path_at}
use Rattle.keep_rules.specs.Defines.{Defines}
use Rattle.keep_rules.specs.Keys.{key_text_at}
use Rattle.keep_rules.specs.Represents.{IsRefusedAt}
use Rattle.keep_rules.specs.DefineFaults.{FaultMeets}
use Rattle.keep_rules.proofs.definitions.Definitions.define_key.Goals as goal

pub returns-in_err-text : goal.returns-in_err-text
returns-in_err-text c =
    let p = err_from_is_err_and c.from_residual.result c.from_residual.ensures.1 in
    rw (p.1, p.2) (record { ok = tt; refused = tt; unchanged = refl })

pub define_text-requires : goal.define_text-requires
define_text-requires c = record { table = c.requires.table; fits = c.args.definition.fits }

pub returns : goal.returns
returns c =
    let old = c.args.self.now.tree in
    let new = c.define_text.new.self.tree in
    let r = c.define_text.result in
    let own = c.args.definition in
    let before = path_at old.trie c.args.parent in
    let is : c.as_str.result.now ≡ key_text_at c.args.keys.now c.args.number =
    c.as_str.ensures ∙ c.in_ok-text.ensures in
    record {
      ok = subst (λ (t : List ℕ).
          IfOk r (Defines old new (before ++ key t ∷ []) own.role (holding own.holds)
          (named_info own.kind (c.args.keys.now.first + c.args.number) own.origin))) is
          (subst (λ (i : NodeInfo).
          IfOk r (Defines old new (before ++ key c.as_str.result.now ∷ []) own.role (holding own.holds) i))
          (c.named-facts.ensures.info ∙ ap (λ n. named_info own.kind n own.origin) c.part_number-part.ensures)
          c.define_text.ensures.ok);
      refused =
          subst (λ (n : ℕ).
          IfErr r (λ fault.
          FaultMeets fault (IsRefusedAt old.trie (before ++ key (key_text_at c.args.keys.now c.args.number) ∷ [])
          own.role n))) (c.named-facts.ensures.key ∙ c.part_number-part.ensures)
          (subst (λ (t : List ℕ).
          IfErr r (λ fault.
          FaultMeets fault (IsRefusedAt old.trie (before ++ key t ∷ []) own.role c.named-facts.result.key))) is
          c.define_text.ensures.refused);
      unchanged = c.define_text.ensures.unchanged;
    }
