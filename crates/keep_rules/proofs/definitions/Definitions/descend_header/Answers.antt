use Rattle.std.proofs.Common.{◌≡◌, ℕ, ◌+◌, ◌-◌, List, [], ◌∷◌, ◌++◌, length, take, ◌∙◌, subst, arith, refl}
use Rattle.std.proofs.lemmas.Result.{err_from_is_err_and}
use Rattle.keep_syntax.specs.declared.fault.Why.{Why}
use Rattle.keep_rules.specs.Keys.{key_text_at, leading_texts}
use Rattle.keep_path.specs.Path.{Part, key}
use Rattle.keep_meaning.specs.Marks.{Mention, passing_mentions}
use Rattle.keep_index_store.specs.Trie.{path_at}
use Rattle.keep_rules.specs.Represents.{Represents, FaultFrom}
use Rattle.keep_rules.specs.Steps.{HeaderDescent}
use Rattle.keep_rules.specs.AddedInfos.{HeaderAdds}
use Rattle.keep_rules.specs.Descents.{descent_mentions}
use Rattle.keep_rules.proofs.PassLemmas.{entry_weaker}
use Rattle.keep_rules.proofs.StepLemmas.{walks_none}
use Rattle.keep_rules.proofs.KeyLemmas.{root_within, walked_more, walk_stops, walked_added}
use Rattle.keep_rules.proofs.definitions.Definitions.descend_header.Goals as goal

pub loop-number-init : goal.loop-number-init
loop-number-init c = record {
  walked = walks_none c.args.self.now.tree.trie (root_within c.args.self.now.tree.trie c.requires) c.requires;
  facts = λ ms tables represents d keys statements. refl;
}

pub returns-in_err-text : goal.returns-in_err-text
returns-in_err-text c =
    let p = err_from_is_err_and c.from_residual.result c.from_residual.ensures.1 in
    rw (p.1, p.2) (record { ok = tt; define = tt })

pub enter_key-requires : goal.enter_key-requires
enter_key-requires c = c.loop-number.invariant.walked.table

pub loop-number-preserved : goal.loop-number-preserved
loop-number-preserved c =
    let old = c.args.self.now.tree in
    let mid = c.loop-number.self.tree in
    let new = c.enter_key.new.self.tree in
    let keys = c.args.keys.now in
    let text = c.as_str.result.now in
    let is : text ≡ key_text_at keys c.loop-number.number = c.as_str.ensures ∙ c.in_ok-text.ensures in
    record {
      walked =
          walked_more old.trie mid.trie new.trie c.loop-number.at c.in_ok-at.at keys c.loop-number.number text
          (omega (arith, c.count-number-end.ensures.many)) is c.loop-number.invariant.walked c.in_ok-at.ensures.ok.node;
      facts = walked_added old mid new keys c.loop-number.number text c.loop-number.at c.args.statement
          (omega (arith, c.count-number-end.ensures.many)) is c.loop-number.invariant.walked
          c.loop-number.invariant.facts
          (subst (λ (n : ℕ).
          HeaderAdds mid new n c.args.statement
          (λ tables. passing_mentions tables (path_at mid.trie c.loop-number.at ++ key text ∷ [])))
          c.part_number-part.ensures c.in_ok-at.ensures.ok.facts);
    }

pub returns-in_err-at : goal.returns-in_err-at
returns-in_err-at c =
    let old = c.args.self.now.tree.trie in
    let mid = c.loop-number.self.tree.trie in
    let keys = c.args.keys.now in
    let number = c.loop-number.number in
    let text = c.as_str.result.now in
    let is : text ≡ key_text_at keys number = c.as_str.ensures ∙ c.in_ok-text.ensures in
    let Faults : ℕ → Why → Type 0 =
    λ n w. (ms : List Mention) (tables : List (List Part)) → Represents old ms tables
    → FaultFrom ms (descent_mentions tables [] (leading_texts keys)) keys.first n w in
    let p = err_from_is_err_and c.from_residual-in_err-at.result c.from_residual-in_err-at.ensures.1 in
    rw (p.1, p.2) (record {
      ok = tt;
      define =
          entry_weaker _ mid (path_at mid c.loop-number.at ++ key text ∷ []) c.part_number-part.result
          (keys.first + number) Faults c.part_number-part.ensures
          (λ was plain.
          walk_stops old mid c.loop-number.at keys number text (omega (arith, c.count-number-end.ensures.many)) is
          c.loop-number.invariant.walked was plain) c.in_err-at.ensures.refused;
    })

pub returns : goal.returns
returns c =
    let old = c.args.self.now.tree in
    let new = c.loop-number.self.tree in
    let keys = c.args.keys.now in
    let all : c.loop-number.number ≡ length keys.texts - 1 = omega (arith, c.count-number-end.ensures.many) in
    record {
      ok = record {
        node = subst (λ (n : ℕ). HeaderDescent old.trie new.trie c.loop-number.at (take n keys.texts)) all
            c.loop-number.invariant.walked;
        facts = subst (λ (n : ℕ).
            HeaderAdds old new keys.first c.args.statement (λ tables. descent_mentions tables [] (take n keys.texts)))
            all c.loop-number.invariant.facts;
      };
      define = tt;
    }
