use Rattle.std.proofs.Common.{◌≡◌, ℕ, ◌+◌, ◌-◌, List, [], ◌∷◌, ◌++◌, length, take, subst, arith, refl}
use Rattle.std.proofs.lemmas.Result.{err_from_is_err_and}
use Rattle.keep_syntax.specs.declared.fault.Why.{Why}
use Rattle.keep_types.specs.declared.role.Role.TheVariants.{Dotted}
use Rattle.keep_meaning.specs.Marks.{Mention}
use Rattle.keep_rules.specs.Keys.{key_text_at, leading_texts}
use Rattle.keep_path.specs.Path.{Part, key}
use Rattle.keep_rules.specs.Represents.{Represents, FaultFrom}
use Rattle.keep_rules.specs.Steps.{DottedDescent}
use Rattle.keep_rules.specs.AddedInfos.{DottedAdds}
use Rattle.keep_index_store.specs.Trie.{path_at}
use Rattle.keep_rules.specs.Descents.{dotted_mentions}
use Rattle.keep_rules.proofs.BuildLemmas.{stops_weaker}
use Rattle.keep_rules.proofs.StepLemmas.{dots_none}
use Rattle.keep_rules.proofs.KeyLemmas.{dotted_more, dots_stop, dotted_added}
use Rattle.keep_rules.proofs.definitions.Definitions.descend_dotted.Goals as goal

pub loop-number-init : goal.loop-number-init
loop-number-init c = record {
  gone = dots_none c.args.self.now.tree.trie c.args.table c.requires.within c.requires.keyed;
  facts = λ d keys number. refl;
}

pub define_key-requires : goal.define_key-requires
define_key-requires c =
    let open_ = c.loop-number.invariant.gone.is_open in
    record {
      table = record { within = open_.nested; keyed = open_.open_to };
      low = omega (arith, c.count-number-end.ensures.many);
    }

pub loop-number-preserved : goal.loop-number-preserved
loop-number-preserved c =
    let old = c.args.self.now.tree in
    let mid = c.loop-number.self.tree in
    let new = c.define_key.new.self.tree in
    let keys = c.args.keys.now in
    let text = key_text_at keys c.loop-number.number in
    record {
      gone = dotted_more old.trie mid.trie new.trie c.args.table c.loop-number.at c.in_ok-at.at keys
          c.loop-number.number text (omega (arith, c.count-number-end.ensures.many)) refl c.loop-number.invariant.gone
          c.in_ok-at.ensures.ok.node;
      facts = dotted_added old mid new keys c.loop-number.number text c.args.table c.loop-number.at c.args.value
          (omega (arith, c.count-number-end.ensures.many)) refl c.loop-number.invariant.gone
          c.loop-number.invariant.facts c.in_ok-at.ensures.ok.facts;
    }

pub returns-in_err-at : goal.returns-in_err-at
returns-in_err-at c =
    let old = c.args.self.now.tree.trie in
    let mid = c.loop-number.self.tree.trie in
    let keys = c.args.keys.now in
    let number = c.loop-number.number in
    let text = key_text_at keys number in
    let Faults : ℕ → Why → Type 0 =
    λ n w. (ms : List Mention) (tables : List (List Part)) → Represents old ms tables
    → FaultFrom ms (dotted_mentions (path_at old c.args.table) (leading_texts keys)) keys.first n w in
    let p = err_from_is_err_and c.from_residual.result c.from_residual.ensures.1 in
    rw (p.1, p.2) (record {
      ok = tt;
      define = stops_weaker _ mid (path_at mid c.loop-number.at ++ key text ∷ []) Dotted (keys.first + number) Faults
          (λ was. dots_stop old mid c.args.table c.loop-number.at keys number text
          (omega (arith, c.count-number-end.ensures.many)) refl c.loop-number.invariant.gone was)
          c.in_err-at.ensures.refused;
    })

pub returns : goal.returns
returns c =
    let old = c.args.self.now.tree in
    let new = c.loop-number.self.tree in
    let keys = c.args.keys.now in
    let all : c.loop-number.number ≡ length keys.texts - 1 = omega (arith, c.count-number-end.ensures.many) in
    record {
      ok = record {
        node = subst (λ (n : ℕ). DottedDescent old.trie new.trie c.args.table c.loop-number.at (take n keys.texts)) all
            c.loop-number.invariant.gone;
        facts = subst (λ (n : ℕ).
            DottedAdds old new keys.first c.args.value
            (dotted_mentions (path_at old.trie c.args.table) (take n keys.texts))) all c.loop-number.invariant.facts;
      };
      define = tt;
    }
