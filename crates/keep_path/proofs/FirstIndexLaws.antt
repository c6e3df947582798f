-- The keys of a path text are passed one by one, up to its first index.
--
-- Theorems: `next_key_passed`: one key more, after a dot; `index_there`: before the end of a path's text, where no dot
-- follows, the first index begins; `all_keys`: at the end of the text there are only keys.
use Rattle.std.proofs.Common.{◌≡◌, ℕ, suc, ◌+◌, ◌<◌, ◌≤◌, true, List, [], ◌∷◌, ◌++◌, length, take, drop, refl, sym, ap}
use Rattle.std.proofs.Common.{◌∙◌, subst, arith, Option, Some, None, length-drop, drop-cons, add-one, add-zero}
use Rattle.std.specs.Prelude.{slice_index, IsUtf8, IsCharBoundary}
use Rattle.std.proofs.lemmas.List.{get_or-drop}
use Rattle.std.proofs.lemmas.Str.{IsCharBoundary-after_ascii}
use Rattle.keep_types.specs.declared.leaf.Leaf.{Leaf}
use Rattle.keep_types.specs.declared.leaf.Leaf.TheVariants as leaf
use Rattle.keep_types.specs.declared.leaf.Profile.TheVariants.{Strict, Wide}
use Rattle.keep_token.specs.Leaves.{IsLeaf, is_key_leaf, Means}
use Rattle.keep_token.specs.Pieces.{first}
use Rattle.keep_token.specs.Scanning.{key_at}
use Rattle.keep_token.proofs.Shared.{key_found, means_wider}
use Rattle.keep_path.specs.Path.{Part, key, index}
use Rattle.keep_path.specs.PathText.{AreKeys, FirstIndex, IsPathText, StepsText}
use Rattle.keep_path.specs.PathReading.{KeyFound, KeyRead, StepRead}
use Rattle.keep_path.proofs.IndexLaws.{within_of}
use Rattle.keep_path.proofs.PathReadLaws.{SoFar, so_far_first, so_far_more, so_far_done, dot_read, dot_stuck, key_first}
use Rattle.keep_path.proofs.PathReadLaws.{key_at_start}

-- ---- each key part means a key

meaning : (l : Leaf) (t : List ℕ) → is_key_leaf l ≡ true → IsLeaf Strict l t → (value : List ℕ) × Means Wide l t value
meaning leaf.BareKey t k h = (t, refl)
meaning leaf.Basic t k (pieces, h) = (_, means_wider leaf.Basic t _ (pieces, h, refl))
meaning leaf.Literal t k (pieces, h) = (_, means_wider leaf.Literal t _ (pieces, h, refl))
meaning _ t k h = absurd cc

key_meant : (text : List ℕ) (n : ℕ) → KeyFound text n → (value : List ℕ) × KeyRead text value n
key_meant text n (l, found) =
    let f = key_found Strict text l n found in
    let m = meaning l (take n text) f.0 f.3 in
    (m.0, (l, found, m.1))

-- ---- keys so far

pub byte_is : (text bytes : List ℕ) (at read : ℕ) → bytes ≡ text → read ≡ slice_index bytes at
    → slice_index text at ≡ read
byte_is text bytes at read same is = ap (λ (t : List ℕ). slice_index t at) (sym same) ∙ sym is

pub record KeysSoFar (text : List ℕ) (at : ℕ) : Type 0 where
  pub path : List Part
  pub keys : AreKeys path
  pub so_far : SoFar text path at

keys_more : (path : List Part) (value : List ℕ) → AreKeys path → AreKeys (path ++ key value ∷ [])
keys_more [] value h = tt
keys_more (key v ∷ path) value h = keys_more path value h
keys_more (index n ∷ path) value h = absurd h

pub first_key_passed : (text : List ℕ) (n : ℕ) → KeyFound text n → KeysSoFar text n
first_key_passed text n found =
    let (value, (l, at, m)) = key_meant text n found in
    record { path = key value ∷ []; keys = tt; so_far = so_far_first text l n value at m }

-- a dot is there
within_dot : (text : List ℕ) (at : ℕ) → slice_index text at ≡ 0x2E → at < length text
within_dot text at dot = within_of text at (omega (arith, dot))

dot_spelled : (text : List ℕ) (at : ℕ) → slice_index text at ≡ 0x2E → drop at text ≡ 0x2E ∷ drop (at + 1) text
dot_spelled text at dot = rw (drop-cons text at 0 (within_dot text at dot), add-one at, dot) refl

pub dot_cut : (text : List ℕ) (at : ℕ) → IsUtf8 text → slice_index text at ≡ 0x2E → IsCharBoundary text (at + 1)
dot_cut text at utf8 dot = IsCharBoundary-after_ascii text at utf8 (within_dot text at dot) (omega (arith, dot))

pub next_key_passed : (text rest : List ℕ) (at n : ℕ) → slice_index text at ≡ 0x2E → rest ≡ drop (at + 1) text
    → KeyFound rest n → KeysSoFar text at → KeysSoFar text (at + (1 + n))
next_key_passed text rest at n dot after found h =
    let (value, read) = key_meant rest n found in
    let P : List ℕ → Type 0 = λ t. StepRead t (key value) (suc n) in
    let step : StepRead (drop at text) (key value) (suc n) =
    subst P (ap (λ (t : List ℕ). 0x2E ∷ t) after ∙ sym (dot_spelled text at dot)) (dot_read rest n value read) in
    let Q : ℕ → Type 0 = λ i. SoFar text (h.path ++ key value ∷ []) i in
    let same : at + suc n ≡ at + (1 + n) = omega arith in
    record {
      path = h.path ++ key value ∷ [];
      keys = keys_more h.path value h.keys;
      so_far = subst Q same (so_far_more text h.path at (suc n) (key value) h.so_far step);
    }

-- ---- where it ends

pub no_first_key : (text : List ℕ) → key_at Strict text ≡ None → (q : List Part) → IsPathText text q → AreKeys q
no_first_key text none [] h = tt
no_first_key text none (key v ∷ parts) (a, b, e, k, more) =
    let found = key_at_start v parts text a b e k more in
    let never : ◌≡◌ {A = Option (Leaf × ℕ)} None (Some (found.0, length a)) = sym none ∙ found.1 in
    absurd cc
no_first_key text none (index n ∷ parts) h = absurd h

-- after a dot is a key part
pub no_next_key : (text rest : List ℕ) (at : ℕ) → slice_index text at ≡ 0x2E → rest ≡ drop (at + 1) text
    → key_at Strict rest ≡ None → KeysSoFar text at → (q : List Part) → IsPathText text q → ⊥
no_next_key text rest at dot after none h q stated =
    let r = h.so_far.all q stated in
    let P : List ℕ → Type 0 = λ t. StepsText r.0 t in
    let left : r.0 ≡ [] =
    dot_stuck rest none r.0 (subst P (dot_spelled text at dot ∙ ap (λ (t : List ℕ). 0x2E ∷ t) (sym after)) r.2) in
    let Q : List Part → Type 0 = λ p. StepsText p (drop at text) in
    let over : drop at text ≡ [] = subst Q left r.2 in
    omega (arith, within_dot text at dot, ap (λ (t : List ℕ). length t) over, length-drop at text)

index_of : (rest : List ℕ) (parts : List Part) → 0 < length rest → (first rest ≡ 0x2E → ⊥) → StepsText parts rest
    → (n : ℕ) × (more : List Part) × StepsText (index n ∷ more) rest
index_of rest [] some dot h = absurd (omega (arith, some, ap (λ (t : List ℕ). length t) h))
index_of rest (key v ∷ parts) some dot h =
    absurd (dot (ap (λ (t : List ℕ). first t) (key_first v parts rest h).spelled))
index_of rest (index n ∷ parts) some dot h = (n, parts, h)

pub index_there : (text : List ℕ) (at : ℕ) → at < length text → (slice_index text at ≡ 0x2E → ⊥) → KeysSoFar text at
    → (path : List Part) × IsPathText text path → FirstIndex text at
index_there text at some dot h (q, stated) =
    let r = h.so_far.all q stated in
    let prefix : first (drop at text) ≡ slice_index text at = rw (get_or-drop at text 0 0, add-zero at) refl in
    let f = index_of (drop at text) r.0 (omega (arith, some, length-drop at text)) (λ e. dot (sym prefix ∙ e)) r.2 in
    (h.path, h.keys, h.so_far.stated, f.0, f.1, f.2)

pub all_keys : (text : List ℕ) (at : ℕ) → length text ≤ at → KeysSoFar text at → (q : List Part) → IsPathText text q
    → AreKeys q
all_keys text at end h q stated = subst AreKeys (sym ((so_far_done text h.path at end h.so_far).1 q stated)) h.keys
