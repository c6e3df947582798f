-- A text with changes, and its end: where no change takes the text's last byte, that byte stays behind all that ended
-- before it.
--
-- Each is by induction on the changes. The text from a byte on has bytes left behind the changes, as none of them takes
-- the last one (`some_left`). So behind a change that is beside all of them and ends before that byte, some are left
-- where they move it, too (`left_behind`).
--
-- Theorems: `before_last`; `takes_none`, `length_from`: of one change.
use Rattle.std.proofs.Common.{[], ◌≡◌, ℕ, ◌+◌, ◌<◌, ◌≤◌, All, List, ◌∷◌, ◌++◌, arith, drop, inl, inr, length}
use Rattle.std.proofs.Common.{take}
use Rattle.std.proofs.Common.{length-append, length-drop}
use Rattle.std.specs.Prelude.{◌⊎◌, false, nat_lt, true}
use Rattle.std.specs.List.{list_any}
use Rattle.std.proofs.lemmas.Bool.{cases_lt, eq-eqb, le-ltb, lt-ltb, or_parts}
use Rattle.std.proofs.lemmas.List.{length-take-le}
use Rattle.std.proofs.lemmas.List.Elements.{All-head, All-tail}
use Rattle.keep_edit_spec.specs.Runs.{takes_up_to}
use Rattle.keep_edit_spec.specs.TextChanges.{Follow, IsBeside, TextChange, come_to, gone_to, moved_by_all, text_with}

-- ---- the last byte

-- all end in the text
abbrev Within : List ℕ → List TextChange → Type 0
Within bytes cs = All (λ d. d.at + d.size ≤ length bytes) cs

-- a change that ends at the end of the text takes nothing, if it does not take the last byte
pub takes_none : (n : ℕ) (d : TextChange) → takes_up_to n d ≡ false → d.at + d.size ≡ n → d.size ≡ 0
takes_none n d clear ends = by (cases_lt 0 d.size)
  where
    by : (0 < d.size) ⊎ (d.size ≤ 0) → d.size ≡ 0
    by (inr none) = omega (arith, none)
    by (inl some) =
        let takes : takes_up_to n d ≡ true = rw (lt-ltb 0 d.size some) (eq-eqb (d.at + d.size) n ends) in
        absurd cc

-- how long the text is with one change more in front
pub length_from : (from : ℕ) (bytes : List ℕ) (d : TextChange) (cs : List TextChange) → from ≤ d.at
    → d.at + d.size ≤ length bytes
    → from + length (text_with from bytes (d ∷ cs))
    ≡ d.at + length d.new + length (text_with (d.at + d.size) bytes cs)
length_from from bytes d cs low within =
    let rest : List ℕ = text_with (d.at + d.size) bytes cs in
    omega (
      arith,
      low,
      length-append (drop from (take d.at bytes)) (d.new ++ rest),
      length-append d.new rest,
      length-drop from (take d.at bytes),
      length-take-le d.at bytes (omega (arith, within)),
    )

-- some bytes are left behind a byte that is not the end
some_left : (from : ℕ) (bytes : List ℕ) (cs : List TextChange) → Follow from cs → Within bytes cs
    → list_any (takes_up_to (length bytes)) cs ≡ false → from < length bytes → 0 < length (text_with from bytes cs)
some_left from bytes [] follow within clear less = omega (arith, less, length-drop from bytes)
some_left from bytes (d ∷ cs) follow within clear less =
    by (some_left (d.at + d.size) bytes cs follow.1
    (All-tail (λ (x : TextChange). x.at + x.size ≤ length bytes) d cs within) parts.1)
    (cases_lt (d.at + d.size) (length bytes))
  where
    its : d.at + d.size ≤ length bytes
    its = All-head (λ (x : TextChange). x.at + x.size ≤ length bytes) d cs within

    parts : (takes_up_to (length bytes) d ≡ false) × (list_any (takes_up_to (length bytes)) cs ≡ false)
    parts = or_parts (takes_up_to (length bytes) d) (list_any (takes_up_to (length bytes)) cs) clear

    by : (d.at + d.size < length bytes → 0 < length (text_with (d.at + d.size) bytes cs))
        → (d.at + d.size < length bytes) ⊎ (length bytes ≤ d.at + d.size) → 0 < length (text_with from bytes (d ∷ cs))
    by rest (inl more) = omega (arith, follow.0, length_from from bytes d cs follow.0 its, rest more)
    by rest (inr up) =
        omega (
          arith,
          less,
          up,
          its,
          takes_none (length bytes) d parts.0 (omega (arith, up, its)),
          length_from from bytes d cs follow.0 its,
        )

-- changes that begin later don't count
none_counts : (at from : ℕ) (cs : List TextChange) → at < from → Follow from cs
    → (come_to at cs ≡ 0) × (gone_to at cs ≡ 0)
none_counts at from [] less h = (omega arith, omega arith)
none_counts at from (d ∷ cs) less h =
    let before : at < d.at = omega (arith, less, h.0) in
    let later : nat_lt at d.at ≡ true = lt-ltb at d.at before in
    let (come, gone) = none_counts at (d.at + d.size) cs (omega (arith, before)) h.1 in
    (rw later (omega (arith, come)), rw later (omega (arith, gone)))

module _ (bytes : List ℕ) (c : TextChange) (before : c.at + c.size < length bytes) where
  -- what comes and goes before the change, and that bytes are left behind it
  record IsLeft (from : ℕ) (cs : List TextChange) : Type 0 where
    room : gone_to c.at cs + from ≤ c.at
    left : c.at + come_to c.at cs + c.size < gone_to c.at cs + from + length (text_with from bytes cs)

  left_behind : (from : ℕ) (cs : List TextChange) → from ≤ c.at → Follow from cs → Within bytes cs
      → All (λ d. IsBeside d c) cs → list_any (takes_up_to (length bytes)) cs ≡ false → IsLeft from cs
  left_behind from [] low follow within beside clear =
      record { room = omega (arith, low); left = omega (arith, low, before, length-drop from bytes) }
  left_behind from (d ∷ cs) low follow within beside clear =
      by (λ ends. left_behind (d.at + d.size) cs ends follow.1 others
      (All-tail (λ (x : TextChange). IsBeside x c) d cs beside) parts.1)
      (All-head (λ (x : TextChange). IsBeside x c) d cs beside)
    where
      its : d.at + d.size ≤ length bytes
      its = All-head (λ (x : TextChange). x.at + x.size ≤ length bytes) d cs within

      others : Within bytes cs
      others = All-tail (λ (x : TextChange). x.at + x.size ≤ length bytes) d cs within

      parts : (takes_up_to (length bytes) d ≡ false) × (list_any (takes_up_to (length bytes)) cs ≡ false)
      parts = or_parts (takes_up_to (length bytes) d) (list_any (takes_up_to (length bytes)) cs) clear

      -- behind a change that comes later there is the last byte, or it is at the end itself
      far : (d.at + d.size < length bytes) ⊎ (length bytes ≤ d.at + d.size) → c.at + c.size ≤ d.at
          → c.at + c.size < from + length (text_with from bytes (d ∷ cs))
      far (inl more) ends =
          omega (
            arith,
            ends,
            length_from from bytes d cs follow.0 its,
            some_left (d.at + d.size) bytes cs follow.1 others parts.1 more,
          )
      far (inr up) ends =
          omega (
            arith,
            before,
            up,
            its,
            takes_none (length bytes) d parts.0 (omega (arith, up, its)),
            length_from from bytes d cs follow.0 its,
          )

      by : (d.at + d.size ≤ c.at → IsLeft (d.at + d.size) cs) → IsBeside d c → IsLeft from (d ∷ cs)
      by more (inl ends) =
          let rest : IsLeft (d.at + d.size) cs = more ends in
          let counts : nat_lt c.at d.at ≡ false = le-ltb c.at d.at (omega (arith, ends)) in
          let grows = length_from from bytes d cs follow.0 its in
          record {
            room = rw counts (omega (arith, follow.0, rest.room));
            left = rw counts (omega (arith, follow.0, rest.left, grows));
          }
      by more (inr (first, ends)) =
          let (come, gone) = none_counts c.at d.at (d ∷ cs) first (omega arith, follow.1) in
          record {
            room = omega (arith, low, gone);
            left = omega (arith, come, gone, far (cases_lt (d.at + d.size) (length bytes)) ends);
          }

-- Where no change takes the last byte, one that is beside them and ends before that byte ends before the end still.
pub before_last : (bytes : List ℕ) (cs : List TextChange) (c : TextChange) → Follow 0 cs
    → All (λ d. d.at + d.size ≤ length bytes) cs → All (λ d. IsBeside d c) cs
    → list_any (takes_up_to (length bytes)) cs ≡ false → c.at + c.size < length bytes
    → moved_by_all cs c.at + c.size < length (text_with 0 bytes cs)
before_last bytes cs c follow within beside clear before =
    let h : IsLeft bytes c before 0 cs = left_behind bytes c before 0 cs (omega arith) follow within beside clear in
    omega (arith, h.room, h.left)
