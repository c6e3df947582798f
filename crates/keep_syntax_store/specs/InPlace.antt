-- What is stored of some lines changes places with what is stored of others, in place.
use Rattle.std.specs.Prelude.{◌≡◌, ℕ, ◌+◌, ◌<◌, ◌≤◌, ◌^◌, ltb, if◌then◌else◌, List, ◌++◌, length, map, take, drop}
use Rattle.std.specs.Prelude.{slice_range, vec_len}
use Rattle.std.specs.List.{AllByRecursion}
use Rattle.keep_types.specs.declared.syntax.Span.{Span}
use Rattle.keep_syntax_store.specs.declared.moves.Counts.{Counts}
use Rattle.keep_syntax_store.specs.declared.moves.RunCounts.{RunCounts}
use Rattle.keep_syntax_store.specs.declared.parts.patching.PartsPatch.{PartsPatch}
use Rattle.keep_syntax_store.specs.declared.parts.Parts.{Parts}
use Rattle.keep_syntax_store.specs.declared.replacing.Gone.{Gone}
use Rattle.keep_syntax_store.specs.declared.replacing.Gone.TheVariants as gone
use Rattle.keep_syntax_store.specs.Flat.{Flat, flat, unpacked_statement, unpacked_key_part, unpacked_value}
use Rattle.keep_syntax_store.specs.Flat.{statements_in, key_parts_in, values_in}
use Rattle.keep_syntax_store.specs.Blocks.{raise_key, raise_statement, raise_value}
use Rattle.keep_syntax_store.specs.Moving.{OnlyPlacesMove}
use Rattle.keep_syntax_store.specs.Lifted.{origin, moved, moved_statement, moved_key, moved_value}
use Rattle.keep_syntax_store.specs.Rereading.{count_of, nothing, counts_before, counts_at}
use Rattle.keep_syntax_store.specs.Shifting.{shifted_statement, shifted_key, shifted_value, CanShiftStatement}
use Rattle.keep_syntax_store.specs.Shifting.{CanShiftKey, CanShiftValue, IsShort, GrowLittle, IsSmallStatement}
use Rattle.keep_syntax_store.specs.Shifting.{IsSmallValue}
use Rattle.keep_syntax_store.specs.Exchanging.{HasRoom, Exchanged}
use Rattle.keep_syntax_store.specs.PackedVec.{IsAllPacked, HasSameRest, IsRunOf, Gives, IsWithin, IsPatched}

-- all is packed
pub record IsPacked (p : Parts) : Type 0 where
  pub statements : IsAllPacked p.statements
  pub keys : IsAllPacked p.keys
  pub values : IsAllPacked p.values

-- what is stored from a count on can be moved in place from after a count to after another
pub record CanShift (from old new : Counts) (p : Parts) : Type 0 where
  pub statements : AllByRecursion (CanShiftStatement old new) (drop from.statements p.statements.packed.items)
  pub keys : AllByRecursion (CanShiftKey old new) (drop from.keys p.keys.packed.items)
  pub values : AllByRecursion (CanShiftValue old new) (drop from.values p.values.packed.items)

-- what comes after a run can be moved in place, given that its places are between the run's end and the text's
pub record CanShiftRest (c : RunCounts) (p : Parts) : Type 0 where
  pub short : IsShort c.len c.to.at c.until.at
  pub grow : GrowLittle c.to c.until
  pub statements : AllByRecursion (IsSmallStatement c.to.at) (drop c.to.statements p.statements.packed.items)
  pub values : AllByRecursion (IsSmallValue c.to.at) (drop c.to.values p.values.packed.items)

-- a range of a list of some length
pub record IsRange (from to len : ℕ) : Type 0 where
  pub order : from ≤ to
  pub within : to ≤ len

-- a run from one count to another
pub record IsRun (from to : Counts) (p : Parts) : Type 0 where
  pub tokens : IsRange from.tokens to.tokens (vec_len p.kinds)
  pub statements : IsRange from.statements to.statements (vec_len p.statements.packed)
  pub keys : IsRange from.keys to.keys (vec_len p.keys.packed)
  pub values : IsRange from.values to.values (vec_len p.values.packed)

-- all numbers were moved
pub record IsShifted (old new : Counts) (p q : Parts) : Type 0 where
  pub kinds : q.kinds.items ≡ p.kinds.items
  pub statements : q.statements.packed.items ≡ map (shifted_statement old new) p.statements.packed.items
  pub keys : q.keys.packed.items ≡ map (shifted_key old new) p.keys.packed.items
  pub values : q.values.packed.items ≡ map (shifted_value old new) p.values.packed.items
  pub rest_of_statements : HasSameRest p.statements q.statements
  pub rest_of_keys : HasSameRest p.keys q.keys
  pub rest_of_values : HasSameRest p.values q.values

-- the same is stored, as lists
pub record IsAsBefore (p q : Parts) : Type 0 where
  pub kinds : q.kinds.items ≡ p.kinds.items
  pub starts : q.starts ≡ p.starts
  pub statements : q.statements.packed.items ≡ p.statements.packed.items
  pub keys : q.keys.packed.items ≡ p.keys.packed.items
  pub values : q.values.packed.items ≡ p.values.packed.items
  pub rest_of_statements : HasSameRest p.statements q.statements
  pub rest_of_keys : HasSameRest p.keys q.keys
  pub rest_of_values : HasSameRest p.values q.values

-- there is memory for the run and for all that takes its place
pub record CanExchange (from to : Counts) (p run : Parts) : Type 0 where
  pub kinds : HasRoom from.tokens to.tokens p.kinds run.kinds
  pub statements : HasRoom from.statements to.statements p.statements.packed run.statements.packed
  pub keys : HasRoom from.keys to.keys p.keys.packed run.keys.packed
  pub values : HasRoom from.values to.values p.values.packed run.values.packed

-- a token's kind has no number
abbrev pub same : {A : Type 0} → A → A
same x = x

-- the run and all of the other changed places, what is after it was moved, and the places of all tokens changed places
pub record IsExchanged (from to old new : Counts) (p run q gone : Parts) : Type 0 where
  pub kinds : Exchanged same from.tokens to.tokens p.kinds run.kinds q.kinds gone.kinds
  pub statements
      : Exchanged (shifted_statement old new) from.statements to.statements p.statements.packed run.statements.packed
      q.statements.packed gone.statements.packed
  pub keys : Exchanged
      (shifted_key old new) from.keys to.keys p.keys.packed run.keys.packed q.keys.packed gone.keys.packed
  pub values : Exchanged
      (shifted_value old new) from.values to.values p.values.packed run.values.packed q.values.packed gone.values.packed
  pub starts : q.starts ≡ run.starts
  pub gone_starts : gone.starts ≡ p.starts
  pub rest_of_statements : HasSameRest p.statements q.statements
  pub rest_of_keys : HasSameRest p.keys q.keys
  pub rest_of_values : HasSameRest p.values q.values

-- where the tokens begin after the exchange: those before, the new ones, and those after
abbrev pub replaced_places : Flat → Flat → Counts → Counts → ℕ → List ℕ
replaced_places f g from to end =
    (map (moved 0 0) (slice_range f.starts 0 from.tokens)
    ++ map (moved 0 from.at) (slice_range g.starts 0 (length g.kinds)))
    ++ map (moved to.at end) (slice_range f.starts to.tokens (length f.kinds))

-- what is stored after the exchange
abbrev pub placed : Flat → Flat → Counts → Counts → Counts → ℕ → Flat
placed f g from to until end = record {
  kinds = take from.tokens f.kinds ++ (g.kinds ++ drop to.tokens f.kinds);
  starts = replaced_places f g from to end;
  statements =
      take from.statements f.statements
      ++ (map (moved_statement origin (count_of from)) g.statements
      ++ map (moved_statement (count_of to) (count_of until)) (drop to.statements f.statements));
  keys =
      take from.keys f.keys ++ (map (moved_key origin (count_of from)) g.keys
      ++ map (moved_key (count_of to) (count_of until)) (drop to.keys f.keys));
  values =
      take from.values f.values ++ (map (moved_value origin (count_of from)) g.values
      ++ map (moved_value (count_of to) (count_of until)) (drop to.values f.values));
}

-- how much comes before what is after a run, if all that is counted takes its place
abbrev pub counts_after : Counts → Counts → ℕ → Counts
counts_after from all end = record {
  at = end;
  tokens = from.tokens + all.tokens;
  statements = from.statements + all.statements;
  keys = from.keys + all.keys;
  values = from.values + all.values;
}

-- machine words hold these counts
pub record AreHeld (from all : Counts) : Type 0 where
  pub tokens : from.tokens + all.tokens < 2 ^ 64
  pub statements : from.statements + all.statements < 2 ^ 64
  pub keys : from.keys + all.keys < 2 ^ 64
  pub values : from.values + all.values < 2 ^ 64

-- how much comes before what is after a span, in a text of `len` bytes
abbrev pub counts_through : Flat → Span → ℕ → Counts
counts_through f whole len = if ltb whole.end len then counts_before f whole.end else counts_at len f

-- the run can be replaced in place by all of the other, after which it ends at a count
pub record IsInPlace (from to until : Counts) (p fresh : Parts) : Type 0 where
  pub packed : IsPacked p
  pub fresh_packed : IsPacked fresh
  pub is_run : IsRun from to p
  pub can : CanShift to to until p
  pub fresh_can : CanShift nothing nothing from fresh

-- the run can be replaced in place, given that what comes after it is after it (`AreAfter`)
pub record CanReplace (c : RunCounts) (p fresh : Parts) : Type 0 where
  pub packed : IsPacked p
  pub fresh_packed : IsPacked fresh
  pub is_run : IsRun c.from c.to p
  pub can : CanShiftRest c p
  pub fresh_can : CanShift nothing nothing c.from fresh

-- ---- as many entries as there were

-- as many entries take the place of the run, so what comes after it moves by its places alone
pub record KeepsCounts (c : RunCounts) (p fresh : Parts) : Type 0 where
  pub places : OnlyPlacesMove c.len c.to c.until
  pub statements : IsRunOf
      c.from.statements c.to.statements (length (statements_in fresh.statements)) p.statements
  pub keys : IsRunOf c.from.keys c.to.keys (length (key_parts_in fresh.keys)) p.keys
  pub values : IsRunOf c.from.values c.to.values (length (values_in fresh.values)) p.values

-- what is stored is f once it changed places with the patch
pub record GivesParts (p : Parts) (c : PartsPatch) (f : Flat) : Type 0 where
  pub kinds : c.kinds.items ≡ f.kinds
  pub starts : c.starts ≡ f.starts
  pub statements : Gives unpacked_statement raise_statement p.statements c.statements f.statements
  pub keys : Gives unpacked_key_part raise_key p.keys c.keys f.keys
  pub values : Gives unpacked_value raise_value p.values c.values f.values

-- the entries of a patch are in the place of as many
pub record FitsParts (p : Parts) (c : PartsPatch) : Type 0 where
  pub statements : IsWithin p.statements c.statements
  pub keys : IsWithin p.keys c.keys
  pub values : IsWithin p.values c.values

-- what is stored and the patch changed places
pub record ArePatched (p : Parts) (c : PartsPatch) (q : Parts) (d : PartsPatch) : Type 0 where
  pub kinds : q.kinds.items ≡ c.kinds.items
  pub kinds_back : d.kinds.items ≡ p.kinds.items
  pub starts : q.starts ≡ c.starts
  pub starts_back : d.starts ≡ p.starts
  pub statements : IsPatched p.statements c.statements q.statements d.statements
  pub keys : IsPatched p.keys c.keys q.keys d.keys
  pub values : IsPatched p.values c.values q.values d.values

-- ---- going back

-- what is stored before is stored again once the patch changes places with what is stored after
pub record UndoesPatch (d : PartsPatch) (before after : Parts) : Type 0 where
  pub fits : FitsParts after d
  pub undone : (r : Parts) (e : PartsPatch) → ArePatched after d r e → flat r ≡ flat before

-- a run that was put in the place of another: what was there is put back by exchanging them again
pub record UndoesRun (gone : Parts) (from to until : Counts) (before after : Parts) : Type 0 where
  pub run : Parts
  pub is_run : IsRun from to before
  pub can : CanShift to to until before
  pub now : IsExchanged from to to until before run after gone
  pub tokens : until.tokens ≡ from.tokens + vec_len run.kinds
  pub statements : until.statements ≡ from.statements + vec_len run.statements.packed
  pub keys : until.keys ≡ from.keys + vec_len run.keys.packed
  pub values : until.values ≡ from.values + vec_len run.values.packed

-- putting it back in the second gives what is stored in the first
abbrev pub UndoesParts : Gone → Parts → Parts → Type 0
UndoesParts (gone.Lines patch) before after = UndoesPatch patch before after
UndoesParts (gone.Run run from to until) before after =
    (settled : Parts) × (flat settled ≡ flat before) × UndoesRun run from to until settled after
UndoesParts (gone.Whole parts) before after = flat parts ≡ flat before

abbrev pub CanUndoParts : Gone → Parts → Type 0
CanUndoParts g after = (before : Parts) × UndoesParts g before after
