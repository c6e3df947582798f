-- Numbers that stand for keys: with one more, of the keys where entries begin, and of keys that are none of those.
--
-- Theorems: `number_added`: one more; `numbers_next`: the loop that reads them; `others_of`: a key whose number is none
-- of them differs from each key of which one is.
use Rattle.std.proofs.Common.{◌≡◌, ◌+◌, ◌<◌, ◌==◌, ◌∙◌, ℕ, suc, Bool, BuildHasherDefault, FoldHasher, List, arith}
use Rattle.std.proofs.Common.{cond, drop, false, get_or, inl, inr, length, subst, sym, true}
use Rattle.std.proofs.Math.Seq.{drop-cons}
use Rattle.std.proofs.lemmas.Slice.Eq.{bytes_eq-Decides}
use Rattle.std.specs.Prelude.{IsTrue, bytes_eq}
use Rattle.std.specs.HashSet.{HashSet, Updates, contains_by}
use Rattle.keep_token.proofs.Shared.{tested}
use Rattle.keep_edit_plan.specs.KeyNumbers.{HasKey, HasNumber, number_of}
use Rattle.keep_edit_plan.specs.OpenKeyvals.{IsOther, KeyIs, KeysAre}
use Rattle.keep_edit_plan.specs.declared.open_value.EntryPlace.{EntryPlace}
use Rattle.keep_edit_plan.specs.declared.open_value.key_numbers.KeyNumbers.{KeyNumbers}

abbrev pub Numbers : Type 0
Numbers = HashSet ℕ (BuildHasherDefault FoldHasher)

-- the new ones are those of all keys of which the old ones are
abbrev pub GoOn : Numbers → Numbers → Type 0
GoOn old new = (key : List ℕ) → HasNumber old key → HasNumber new key

-- ---- one more

stays : (b had has : Bool) → has ≡ cond b true had → had ≡ true → has ≡ true
stays true had has is h = is
stays false had has is h = is ∙ h

pub number_added : (old new : Numbers) (n : ℕ) → Updates ◌==◌ old new n true
    → ((key : List ℕ) → n ≡ number_of key → HasNumber new key) × GoOn old new
number_added old new n updates = (
  λ key is. subst (λ (k : ℕ). IsTrue (contains_by (λ m. k == m) new)) is updates.1,
  λ key had. stays (n == number_of key) _ _ (updates.0 (number_of key)) had,
)

-- ---- the loop

module _ (text : List ℕ) (places : List EntryPlace) where
  abbrev default : EntryPlace
  default = record { gap = 0; len = 0 }

  -- If all further keys have their numbers among more numbers, all keys have.
  abbrev pub AreSoFar : Numbers → ℕ → List EntryPlace → Type 0
  AreSoFar numbers end rest =
      (more : Numbers) → GoOn numbers more → KeysAre (HasNumber more) text end rest
      → KeysAre (HasNumber more) text 1 places

  pub numbers_next : (was now : Numbers) (i end start next number : ℕ) → i < length places
      → AreSoFar was end (drop i places) → start ≡ end + (get_or places i default).gap
      → next ≡ start + (get_or places i default).len → KeyIs (λ key. number ≡ number_of key) (drop start text)
      → Updates ◌==◌ was now number true → AreSoFar now next (drop (i + 1) places)
  numbers_next was now i end start next number within so_far at further is updates = λ more on rest.
      let p : EntryPlace = get_or places i default in
      let (added, kept) = number_added was now number updates in
      let first : KeyIs (HasNumber more) (drop start text) = λ l n there. on _ (added _ (is l n there)) in
      let here : KeyIs (HasNumber more) (drop (end + p.gap) text) =
      subst (λ (k : ℕ). KeyIs (HasNumber more) (drop k text)) at first in
      let e : next ≡ end + p.gap + p.len = omega arith in
      let one : i + 1 ≡ suc i = omega arith in
      let rest' : KeysAre (HasNumber more) text (end + p.gap + p.len) (drop (suc i) places) =
      subst (λ (k : ℕ). KeysAre (HasNumber more) text k (drop (suc i) places)) e
      (subst (λ (k : ℕ). KeysAre (HasNumber more) text next (drop k places)) one rest) in
      so_far more (λ key had. on key (kept key had))
      (subst (KeysAre (HasNumber more) text end) (sym (drop-cons places i default within)) (here, rest'))

-- ---- a key that is none of those

pub others_of : (keys : KeyNumbers) (name : List ℕ) → ¬ HasKey keys name → (k : List ℕ) → HasKey keys k
    → IsOther name k
others_of keys name lacks k has =
    elim (tested (bytes_eq k name)) [
      | inr e ↦ e
      | inl e ↦ absurd (lacks (subst (HasKey keys) ((bytes_eq-Decides k name).0 e) has))
    ]
