-- Entries whose places are moved on are the entries moved, where machine words hold them.
--
-- A `step` is added to each place, and the sum goes on at 0 past the last machine word. Without that the sum is the
-- moved place and 2^64 (`on`), so it is the moved place if a word holds that (`once`); and one does, since the place is
-- not after the end of the text, which is held (`held`). A place that was moved on before is moved on by the sum of
-- both, which is to move it on twice (`again`). Numbers stay, since the counts before and after are the same (`still`).
-- Entries of each kind follow field by field (`key_once`, `key_again`, and those of the other kinds). Where the block
-- of a value is moved, a comma or an end is written as the place from which the move leads to it (`comma_written`,
-- `end_written`, and where the value is not packed `comma_raised`, `end_raised`).
--
-- Theorems: `keys_move`, `statements_move` and `values_move`: entries of each kind move right (`MovesRight`).
use Rattle.std.proofs.Common.{◌≡◌, ℕ, ◌+◌, ◌-◌, ◌%◌, ◌^◌, ◌<◌, ◌≤◌, refl, sym, ap, ◌∙◌, arith, true, Option, Some, None}
use Rattle.std.proofs.Math.Nat.{add-mod_right, add-mod-mod, mod-add-mod, mod-eq_of_lt}
use Rattle.keep_types.specs.declared.syntax.Span.{Span}
use Rattle.keep_types.specs.declared.syntax.KeyPart.{KeyPart}
use Rattle.keep_types.specs.declared.syntax.Owner.{Owner}
use Rattle.keep_types.specs.declared.syntax.Owner.TheVariants as owner
use Rattle.keep_types.specs.declared.syntax.Statement.{Statement}
use Rattle.keep_types.specs.declared.syntax.ValueInfo.{ValueInfo}
use Rattle.keep_syntax_store.specs.declared.moves.Counts.{Counts}
use Rattle.keep_syntax_store.specs.Held.{IsHeld}
use Rattle.keep_syntax_store.specs.After.{IsBetween, IsBetweenSpan, IsBetweenThere, IsFromThere, IsFromOwner}
use Rattle.keep_syntax_store.specs.After.{IsAfterKey, IsAfterStatement, IsAfterValue}
use Rattle.keep_syntax_store.specs.Lifted.{moved, moved_there, moved_span, moved_owner, moved_key, moved_statement}
use Rattle.keep_syntax_store.specs.Lifted.{moved_value}
use Rattle.keep_syntax_store.specs.Rereading.{count_of}
use Rattle.keep_syntax_store.specs.declared.values.PackedValue.{PackedValue}
use Rattle.keep_syntax_store.specs.Flat.{unpacked_value, with_comma, with_end}
use Rattle.keep_syntax_store.specs.Blocks.{raise_by, raise_place, step, raise_there, raise_span, raise_key}
use Rattle.keep_syntax_store.specs.Blocks.{raise_statement, raise_value}
use Rattle.keep_syntax_store.specs.Moving.{OnlyPlacesMove, MovesRight}
use Rattle.keep_syntax_store.proofs.StayLaws.{stays_key, stays_statement, stays_value}

-- ---- places

abbrev word : ℕ
word = 2 ^ 64

-- a place of a machine word, moved by a step
on : (old new n : ℕ) → old < word → IsHeld old new n → (n + (new + (word - old))) % word ≡ moved old new n
on old new n small h =
    ap (λ k. k % word) (let e : n + (new + (word - old)) ≡ moved old new n + word = omega (arith, small, h.low) in e)
    ∙ add-mod_right (moved old new n) word
    ∙ mod-eq_of_lt h.fits

once : (old new n : ℕ) → old < word → IsHeld old new n → raise_place (step old new) n ≡ moved old new n
once old new n small h = add-mod-mod n (new + (word - old)) word ∙ on old new n small h

again : (by old new n : ℕ) → old < word → IsHeld old new (raise_place by n)
    → raise_place (raise_place (step old new) by) n ≡ moved old new (raise_place by n)
again by old new n small h =
    add-mod-mod n (by + step old new) word
    ∙ ap (λ k. k % word) (let e : n + (by + step old new) ≡ n + by + step old new = omega arith in e)
    ∙ sym (mod-add-mod (n + by) word (step old new))
    ∙ once old new (raise_place by n) small h

-- a place in the text is held where the text's end is
held : (old new len n : ℕ) → IsHeld old new len → IsBetween old len n → IsHeld old new n
held old new len n e h = record { low = h.low; fits = omega (arith, e.fits, e.low, h.low, h.high) }

-- a number that is moved to after as many
still : (old new n : ℕ) → old ≡ new → old ≤ n → n ≡ moved old new n
still old new n e h = omega (arith, e, h)

still_there : (old new : ℕ) (o : Option ℕ) → old ≡ new → IsFromThere old o → o ≡ moved_there old new o
still_there old new None e h = refl
still_there old new (Some n) e h = ap Some (still old new n e h)

still_owner : (old new : Counts) (o : Owner) → old.statements ≡ new.statements → old.values ≡ new.values
    → IsFromOwner (count_of old) o → o ≡ moved_owner (count_of old) (count_of new) o
still_owner old new (owner.Line n) s v h = ap owner.Line (still old.statements new.statements n s h)
still_owner old new (owner.Inline n) s v h = ap owner.Inline (still old.values new.values n v h)
still_owner old new (owner.Item n) s v h = ap owner.Item (still old.values new.values n v h)

-- ---- entries, moved for the first time

module _ (len : ℕ) (old new : Counts) (e : OnlyPlacesMove len old new) where
  once_place : (n : ℕ) → IsBetween old.at len n → raise_place (step old.at new.at) n ≡ moved old.at new.at n
  once_place n h = once old.at new.at n e.at (held old.at new.at len n e.end h)

  once_there : (o : Option ℕ) → IsBetweenThere old.at len o
      → raise_there (step old.at new.at) o ≡ moved_there old.at new.at o
  once_there None h = refl
  once_there (Some n) h = ap Some (once_place n h)

  once_span : (s : Span) → IsBetweenSpan old.at len s → raise_span (step old.at new.at) s ≡ moved_span old.at new.at s
  once_span s h = let a = once_place s.start h.start in let b = once_place s.end h.end in cc

  key_once : (k : KeyPart) → IsAfterKey (count_of old) len k
      → raise_key (step old.at new.at) k ≡ moved_key (count_of old) (count_of new) k
  key_once k h = let s = once_span k.span h.span in cc

  statement_once : (s : Statement) → IsAfterStatement (count_of old) len s
      → raise_statement (step old.at new.at) s ≡ moved_statement (count_of old) (count_of new) s
  statement_once s h =
      let x = once_span s.span h.span in let y = once_span s.line h.line in
      let k = still old.keys new.keys s.first_key e.keys h.first_key in
      let v = still_there old.values new.values s.value e.values h.value in cc

  value_once : (v : ValueInfo) → IsAfterValue (count_of old) len v
      → raise_value (step old.at new.at) v ≡ moved_value (count_of old) (count_of new) v
  value_once v h =
      let x = once_span v.span h.span in let y = once_span v.whole h.whole in
      let o = still_owner old new v.owner e.statements e.values h.owner in
      let k = still old.keys new.keys v.first_key e.keys h.first_key in
      let s = once_there v.comma_before h.comma_before in let t = once_there v.comma_after h.comma_after in cc

-- ---- entries that were moved already

module _ (by len : ℕ) (old new : Counts) (e : OnlyPlacesMove len old new) where
  again_place : (n : ℕ) → IsBetween old.at len (raise_place by n)
      → raise_place (raise_place (step old.at new.at) by) n ≡ moved old.at new.at (raise_place by n)
  again_place n h = again by old.at new.at n e.at (held old.at new.at len (raise_place by n) e.end h)

  again_there : (o : Option ℕ) → IsBetweenThere old.at len (raise_there by o)
      → raise_there (raise_place (step old.at new.at) by) o ≡ moved_there old.at new.at (raise_there by o)
  again_there None h = refl
  again_there (Some n) h = ap Some (again_place n h)

  again_span : (s : Span) → IsBetweenSpan old.at len (raise_span by s)
      → raise_span (raise_place (step old.at new.at) by) s ≡ moved_span old.at new.at (raise_span by s)
  again_span s h = let a = again_place s.start h.start in let b = again_place s.end h.end in cc

  key_again : (k : KeyPart) → IsAfterKey (count_of old) len (raise_key by k)
      → raise_key (raise_place (step old.at new.at) by) k ≡ moved_key (count_of old) (count_of new) (raise_key by k)
  key_again k h = let s = again_span k.span h.span in cc

  statement_again : (s : Statement) → IsAfterStatement (count_of old) len (raise_statement by s)
      → raise_statement (raise_place (step old.at new.at) by) s
      ≡ moved_statement (count_of old) (count_of new) (raise_statement by s)
  statement_again s h =
      let x = again_span s.span h.span in let y = again_span s.line h.line in
      let k = still old.keys new.keys s.first_key e.keys h.first_key in
      let v = still_there old.values new.values s.value e.values h.value in cc

  value_again : (v : ValueInfo) → IsAfterValue (count_of old) len (raise_value by v)
      → raise_value (raise_place (step old.at new.at) by) v
      ≡ moved_value (count_of old) (count_of new) (raise_value by v)
  value_again v h =
      let x = again_span v.span h.span in let y = again_span v.whole h.whole in
      let o = still_owner old new v.owner e.statements e.values h.owner in
      let k = still old.keys new.keys v.first_key e.keys h.first_key in
      let s = again_there v.comma_before h.comma_before in let t = again_there v.comma_after h.comma_after in cc

-- ---- so entries of each kind move right

pub keys_move : MovesRight (λ c. IsAfterKey (count_of c)) (λ old new. moved_key (count_of old) (count_of new)) raise_key
keys_move =
    record {
      stays = stays_key;
      once = λ len old new k e h. key_once len old new e k h;
      again = λ by len old new k e h. key_again by len old new e k h;
    }

pub statements_move : MovesRight (λ c. IsAfterStatement (count_of c))
    (λ old new. moved_statement (count_of old) (count_of new)) raise_statement
statements_move =
    record {
      stays = stays_statement;
      once = λ len old new s e h. statement_once len old new e s h;
      again = λ by len old new s e h. statement_again by len old new e s h;
    }

pub values_move : MovesRight (λ c. IsAfterValue (count_of c)) (λ old new. moved_value (count_of old) (count_of new))
    raise_value
values_move =
    record {
      stays = stays_value;
      once = λ len old new v e h. value_once len old new e v h;
      again = λ by len old new v e h. value_again by len old new e v h;
    }

-- ---- a place that is written into a packed value whose block is moved

pub comma_written : (m : Option ℕ) (s : PackedValue) (after at : ℕ) → raise_by raise_place m after ≡ at
    → raise_by raise_value m (unpacked_value (record s { has_after = true; after = after }))
    ≡ with_comma at (raise_by raise_value m (unpacked_value s))
comma_written None s after at e = ap (λ (n : ℕ). with_comma n (unpacked_value s)) e
comma_written (Some by) s after at e = ap (λ (n : ℕ). with_comma n (raise_value by (unpacked_value s))) e

pub end_written : (m : Option ℕ) (s : PackedValue) (after at : ℕ) → raise_by raise_place m after ≡ at
    → raise_by raise_value m (unpacked_value (record s { end = after }))
    ≡ with_end at (raise_by raise_value m (unpacked_value s))
end_written None s after at e = ap (λ (n : ℕ). with_end n (unpacked_value s)) e
end_written (Some by) s after at e = ap (λ (n : ℕ). with_end n (raise_value by (unpacked_value s))) e

-- a value that is not packed, changed before its block moves it
pub comma_raised : (m : Option ℕ) (v : ValueInfo) (after at : ℕ) → raise_by raise_place m after ≡ at
    → raise_by raise_value m (with_comma after v) ≡ with_comma at (raise_by raise_value m v)
comma_raised None v after at e = ap (λ (n : ℕ). with_comma n v) e
comma_raised (Some by) v after at e = ap (λ (n : ℕ). with_comma n (raise_value by v)) e

pub end_raised : (m : Option ℕ) (v : ValueInfo) (after at : ℕ) → raise_by raise_place m after ≡ at
    → raise_by raise_value m (with_end after v) ≡ with_end at (raise_by raise_value m v)
end_raised None v after at e = ap (λ (n : ℕ). with_end n v) e
end_raised (Some by) v after at e = ap (λ (n : ℕ). with_end n (raise_value by v)) e
