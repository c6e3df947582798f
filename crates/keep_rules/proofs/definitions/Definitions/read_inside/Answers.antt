-- The values so far have one node, the root.
use Rattle.std.proofs.Common.{◌≡◌, ℕ, ◌+◌, List, [], ◌∷◌, ◌++◌, length, ap, sym, ◌∙◌, subst}
use Rattle.std.proofs.lemmas.Result.{err_from_is_err_and}
use Rattle.keep_syntax_store.specs.Flat.{flat}
use Rattle.keep_rules.specs.NestedValues.{NestingState, NestedValue}
use Rattle.keep_rules.specs.Outcomes.{ReadsValuesOrRefuses}
use Rattle.keep_rules.specs.Plans.{AreNext}
use Rattle.keep_rules.proofs.definitions.Definitions.read_inside.Goals as goal
use Rattle.keep_rules.proofs.definitions.Definitions.read_inside.Goals.{In_ok-push_id}

one : (c : In_ok-push_id) → 0 ∷ [] ≡ c.push_id.new.ids.items
one c = sym (c.in_ok-push_id.ensures ∙ ap (λ l. l ++ 0 ∷ []) c.new-ids.ensures.items)

pub returns-in_err-push_id : goal.returns-in_err-push_id
returns-in_err-push_id c =
    let p = err_from_is_err_and c.from_residual.result c.from_residual.ensures.1 in
    rw (p.1, p.2) ([], record { was_read = tt; define = tt })

pub read_nested-requires : goal.read_nested-requires
read_nested-requires c = record {
  readable = c.requires.readable;
  numbered = ap (λ (ids : List ℕ). 1 + length ids) (sym (one (goal.at.read_nested-requires c).In_ok-push_id));
  next = subst (λ (ids : List ℕ).
      (s : NestingState) × (ts : List NestedValue) × (first : ℕ)
      × AreNext c.args.text.now (flat c.args.parts.now) c.args.self.now.tree.trie ids 1 1 first s ts)
      (one (goal.at.read_nested-requires c).In_ok-push_id) c.requires.next;
}

pub returns : goal.returns
returns c =
    let old = c.args.self.now.tree in
    let f = flat c.args.parts.now in (
      c.read_nested.new.ids.items,
      subst (λ (ids : List ℕ).
          ReadsValuesOrRefuses c.args.text.now f 1 1 old ids c.read_nested.new.self.tree c.read_nested.new.ids.items
          c.read_nested.result) (sym (one (goal.at.returns c).In_ok-push_id)) c.read_nested.ensures,
    )
