-- A keyval's own value is read, and then those in it.
use Rattle.std.proofs.Common.{◌≡◌, ℕ, ◌+◌, ◌<◌, List, [], ◌∷◌, length, refl, sym, ◌∙◌, ap, subst, arith}
use Rattle.std.proofs.lemmas.Result.{err_from_is_err_and}
use Rattle.std.proofs.lemmas.Option.{slice_get_within}
use Rattle.keep_syntax_store.specs.Blocks.{raise_value}
use Rattle.keep_syntax_store.specs.Flat.{flat, unpacked_value}
use Rattle.keep_syntax_store.proofs.EntryLaws.{entries_length}
use Rattle.keep_rules.specs.Keys.{AreKeysAt, Key, key_of}
use Rattle.keep_rules.specs.NestedValues.{NestingState, NestedValue}
use Rattle.keep_rules.specs.Plans.{AreNext, NestedValuesRead, NestedValuesFault}
use Rattle.keep_rules.specs.DefineFaults.{FaultMeets}
use Rattle.keep_rules.proofs.HeaderLemmas.{statement_keys}
use Rattle.keep_rules.proofs.KeyvalLemmas.{keys_break_as_matched, some_nested_next, keyval_is_read}
use Rattle.keep_rules.proofs.KeyvalLemmas.{nested_breaks_as_matched, two_ids}
use Rattle.keep_rules.proofs.KeyLemmas.{length-keys_in}
use Rattle.keep_rules.proofs.definitions.Definitions.read_keyval.Goals as goal
use Rattle.keep_rules.proofs.definitions.Definitions.read_keyval.Goals.{After-define_value, In_ok-push_id-2}

-- the key of the keyval
abbrev own : goal.After-define_value → Key
own c = key_of c.args.text.now (flat c.args.parts.now).keys c.args.statement.first_key c.args.statement.keys

are_keys : (c : goal.After-define_value)
    → AreKeysAt c.args.text.now (flat c.args.parts.now).keys c.args.statement.first_key c.args.statement.keys
are_keys c =
    let st = c.requires.statement in
    statement_keys c.args.text.now (flat c.args.parts.now).keys (flat c.args.parts.now).values c.args.statement
    st.statement st.readable st.matches

some : (c : goal.After-define_value) → 0 < length (own c).texts
some c = omega (arith, (are_keys c).some, length-keys_in c.args.text.now _ _ _ (are_keys c).within)

pub invariant_of-keys : goal.invariant_of-keys
invariant_of-keys c =
    let st = c.requires.statement in
    statement_keys c.args.text.now (flat c.args.parts.now).keys (flat c.args.parts.now).values c.args.statement
    st.statement st.readable st.matches

pub define_value-requires : goal.define_value-requires
define_value-requires c =
    record { within = c.requires.reading.2.is_open.nested; keyed = c.requires.reading.2.is_open.open_to }

pub returns-in_err-top : goal.returns-in_err-top
returns-in_err-top c =
    let p = err_from_is_err_and c.from_residual.result c.from_residual.ensures.1 in
    rw (p.1, p.2) (λ n. record {
      read = tt;
      define =
          keys_break_as_matched c.args.text.now (flat c.args.parts.now) c.args.statement c.args.self.now.tree
          c.args.body c.args.number _ refl c.requires.valued c.in_err-top.field-0.0 c.in_err-top.ensures.define;
    })

pub returns-in_err-push_id : goal.returns-in_err-push_id
returns-in_err-push_id c =
    let p = err_from_is_err_and c.from_residual-in_err-push_id.result c.from_residual-in_err-push_id.ensures.1 in
    rw (p.1, p.2) (λ n. record { read = tt; define = tt })

pub returns-in_err-push_id-2 : goal.returns-in_err-push_id-2
returns-in_err-push_id-2 c =
    let p = err_from_is_err_and c.from_residual-in_err-push_id-2.result c.from_residual-in_err-push_id-2.ensures.1 in
    rw (p.1, p.2) (λ n. record { read = tt; define = tt })

-- the nodes so far
ids_are : (c : goal.In_ok-push_id-2) → c.push_id-2.new.ids.items ≡ c.args.body ∷ c.in_ok-top.top ∷ []
ids_are c =
    two_ids c.clear.new.self.items c.push_id.new.ids.items c.push_id-2.new.ids.items c.args.body c.in_ok-top.top
    c.clear.ensures.items c.in_ok-push_id.ensures c.in_ok-push_id-2.ensures

pub read_nested-requires : goal.read_nested-requires
read_nested-requires c =
    let f = flat c.args.parts.now in
    let ids = ids_are (goal.at.read_nested-requires c).In_ok-push_id-2 in
    let d = (goal.at.read_nested-requires c).After-define_value in
    record {
      readable = c.requires.statement.readable;
      numbered = ap (λ (l : List ℕ). c.args.number + length l) ids ∙ omega arith;
      next = subst (λ (l : List ℕ).
          (s : NestingState) × (ts : List NestedValue) × (first : ℕ)
          × AreNext c.args.text.now f c.define_value.new.self.tree.trie l c.args.number (c.args.number + 1) first s ts)
          (sym ids)
          (some_nested_next c.args.text.now f c.args.statement c.args.self.now.tree c.define_value.new.self.tree
          c.args.body c.in_ok-top.top c.args.number (own d) c.value-value.result _ _ refl (some d) c.value-value.ensures
          c.requires.valued c.kind_of-kind.ensures c.holds_of_leaf-holds.ensures c.in_ok-top.ensures.ok.node
          c.in_ok-top.ensures.ok.facts (c.requires.statement.statement, c.requires.statement.matches)
          c.requires.reading);
    }

pub returns : goal.returns
returns c = λ n.
    let f = flat c.args.parts.now in
    let ids = ids_are (goal.at.returns c).In_ok-push_id-2 in
    let d = (goal.at.returns c).After-define_value in
    record {
      read = keyval_is_read c.args.text.now f c.args.statement c.args.self.now.tree c.define_value.new.self.tree
          c.args.body c.in_ok-top.top c.args.number (own d) c.value-value.result _ _ refl (some d) c.value-value.ensures
          c.requires.valued c.kind_of-kind.ensures c.holds_of_leaf-holds.ensures c.in_ok-top.ensures.ok.node
          c.in_ok-top.ensures.ok.facts c.read_nested.new.self.tree c.read_nested.new.ids.items
          (subst (λ (l : List ℕ).
          NestedValuesRead c.args.text.now f c.args.number (c.args.number + 1) c.define_value.new.self.tree l
          c.read_nested.new.self.tree c.read_nested.new.ids.items) ids c.in_ok-read_nested.ensures.was_read)
          c.requires.reading n;
      define = tt;
    }

pub returns-in_err-read_nested : goal.returns-in_err-read_nested
returns-in_err-read_nested c =
    let f = flat c.args.parts.now in
    let ids = ids_are (goal.at.returns-in_err-read_nested c).In_ok-push_id-2 in
    let d = (goal.at.returns-in_err-read_nested c).After-define_value in
    let fault = c.in_err-read_nested.field-0.0 in
    let p = err_from_is_err_and c.from_residual-in_err-read_nested.result
    c.from_residual-in_err-read_nested.ensures.1 in
    rw (p.1, p.2) (λ n. record {
      read = tt;
      define =
          nested_breaks_as_matched c.args.text.now f c.args.statement c.args.self.now.tree c.define_value.new.self.tree
          c.args.body c.in_ok-top.top c.args.number (own d) c.value-value.result _ _ refl (some d) c.value-value.ensures
          c.requires.valued c.kind_of-kind.ensures c.holds_of_leaf-holds.ensures c.in_ok-top.ensures.ok.node
          c.in_ok-top.ensures.ok.facts fault
          (subst (λ (l : List ℕ).
          FaultMeets fault (NestedValuesFault c.args.text.now f c.args.number (c.args.number + 1)
          c.define_value.new.self.tree l)) ids c.in_err-read_nested.ensures.define);
    })

pub overflow_add-number : goal.overflow_add-number
overflow_add-number c =
    let vs = c.args.parts.now.values in
    omega (
      arith,
      slice_get_within (flat c.args.parts.now).values c.args.number c.value-value.result c.value-value.ensures,
      entries_length unpacked_value raise_value vs,
      vs.packed.ok.0,
      vs.packed.ok.1,
      vs.packed.small,
    )
