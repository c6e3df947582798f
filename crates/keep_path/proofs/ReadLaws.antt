-- What the readers find at the start of a text is a step of its path, and where they find nothing no step begins.
--
-- Theorems: `dot_step`: a dot and the key that is read after it are a step; `bracket_step`: so are a bracket and an
-- index; `one_read`: the path that is read to the end of the text is its only one.
use Rattle.std.proofs.Common.{◌≡◌, ℕ, ◌+◌, ◌<◌, ◌≤◌, List, [], ◌∷◌, ◌++◌, length, take, drop, refl, sym, ap, ◌∙◌, subst}
use Rattle.std.proofs.Common.{arith, add-one}
use Rattle.std.specs.Prelude.{IsUtf8, IsCharBoundary, slice_index}
use Rattle.std.proofs.lemmas.Str.{IsCharBoundary-after_ascii}
use Rattle.std.specs.Fmt.{decimal}
use Rattle.keep_types.specs.declared.leaf.Leaf.{Leaf}
use Rattle.keep_types.specs.declared.leaf.Profile.TheVariants.{Strict, Wide}
use Rattle.keep_token.specs.Leaves.{IsLeaf, KeyLeaf}
use Rattle.keep_token.proofs.Shared.{leaf_wider}
use Rattle.keep_path.specs.Path.{Part, key, index}
use Rattle.keep_path.specs.PathText.{IsPathText}
use Rattle.keep_path.specs.PathReading.{KeyRead, KeysWithin, NoSteps, StepRead, StepsGoOn}
use Rattle.keep_path.proofs.StopLaws.{PathGoesOn, bracket_none, bracket_on, dot_none, dot_on, other_none, path_on_first}
use Rattle.keep_path.proofs.StopLaws.{path_on_more}
use Rattle.keep_path.proofs.PathReadLaws.{SoFar, so_far_first, so_far_more, so_far_done, dot_read, bracket_read}

-- a key part of TOML is one with the additions
pub wide_key : (text part : List ℕ) (l : Leaf) (n : ℕ) → part ≡ take n text → KeyLeaf Strict text l n
    → IsLeaf Wide l part
wide_key text part l n e found = rw e (leaf_wider l (take n text) found.leaf.belongs)

-- a byte below 128 comes first
pub record Prefix (text : List ℕ) (byte : ℕ) : Type 0 where
  pub spelled : byte ∷ drop 1 text ≡ text
  pub cut : IsCharBoundary text 1

pub prefix_is : (text : List ℕ) (byte : ℕ) → IsUtf8 text → slice_index text 0 ≡ byte → 0 < byte → byte < 128
    → Prefix text byte
prefix_is [] byte utf8 e some low = absurd (omega (arith, e, some))
prefix_is (b ∷ text) byte utf8 e some low = record {
  spelled = rw e refl;
  cut = IsCharBoundary-after_ascii (b ∷ text) 0 utf8 (omega arith) (omega (arith, e, low));
}

first_of_bytes : (text bytes : List ℕ) (byte : ℕ) → bytes ≡ text → byte ≡ slice_index bytes 0
    → slice_index text 0 ≡ byte
first_of_bytes text bytes byte same is = ap (λ (t : List ℕ). slice_index t 0) (sym same) ∙ sym is

pub prefix_of : (text bytes : List ℕ) (read byte : ℕ) → bytes ≡ text → read ≡ slice_index bytes 0 → IsUtf8 text
    → read ≡ byte → 0 < byte → byte < 128 → Prefix text byte
prefix_of text bytes read byte same is utf8 e some low =
    prefix_is text byte utf8 (first_of_bytes text bytes read same is ∙ e) some low

pub dot_step : (text after value : List ℕ) (n : ℕ) → Prefix text 0x2E → after ≡ drop 1 text → KeyRead after value n
    → StepRead text (key value) (n + 1)
dot_step text after value n prefix e found =
    let P : List ℕ → Type 0 = λ t. StepRead t (key value) (n + 1) in
    let Q : List ℕ → Type 0 = λ t. KeyRead t value n in
    subst P prefix.spelled (rw (add-one n) (dot_read (drop 1 text) n value (subst Q e found)))

pub bracket_step : (text after : List ℕ) (i n : ℕ) → Prefix text 0x5B → after ≡ drop 1 text → i < 1_000_000_000
    → after ≡ (decimal i ++ 0x5D ∷ []) ++ drop n after → n ≡ length (decimal i ++ 0x5D ∷ [])
    → StepRead text (index i) (n + 1)
bracket_step text after i n prefix e small is count =
    let P : List ℕ → Type 0 = λ t. StepRead t (index i) (n + 1) in
    let Q : List ℕ → Type 0 = λ t. t ≡ (decimal i ++ 0x5D ∷ []) ++ drop n t in
    subst P prefix.spelled (rw (add-one n) (bracket_read (drop 1 text) i n small (subst Q e is) count))

-- ---- what a longer prefix of the text goes on with

pub dot_goes_on : (text after value : List ℕ) (n : ℕ) → Prefix text 0x2E → after ≡ drop 1 text → KeyRead after value n
    → KeysWithin after n → StepsGoOn text (n + 1)
dot_goes_on text after value n prefix e (l, found, m) within =
    let P : List ℕ → Type 0 = λ t. StepsGoOn (0x2E ∷ t) (n + 1) in
    let Q : List ℕ → Type 0 = λ t. StepsGoOn t (n + 1) in
    subst Q prefix.spelled (subst P e (rw (add-one n) (dot_on after l n found within)))

pub bracket_goes_on : (text after : List ℕ) (i n : ℕ) → Prefix text 0x5B → after ≡ drop 1 text → i < 1_000_000_000
    → after ≡ (decimal i ++ 0x5D ∷ []) ++ drop n after → n ≡ length (decimal i ++ 0x5D ∷ []) → StepsGoOn text (n + 1)
bracket_goes_on text after i n prefix e small is count =
    let P : List ℕ → Type 0 = λ t. StepsGoOn (0x5B ∷ t) (n + 1) in
    let Q : List ℕ → Type 0 = λ t. StepsGoOn t (n + 1) in
    subst Q prefix.spelled (subst P e (rw (add-one n) (bracket_on after i n small is count)))

-- no step begins with a byte after which nothing fits
no_steps_after : (text after : List ℕ) (byte : ℕ) → Prefix text byte → after ≡ drop 1 text → NoSteps (byte ∷ after)
    → NoSteps text
no_steps_after text after byte prefix e none =
    subst NoSteps (ap (λ (t : List ℕ). byte ∷ t) e ∙ prefix.spelled) none

pub dot_stops : (text after : List ℕ) → Prefix text 0x2E → after ≡ drop 1 text → KeysWithin after 0 → NoSteps text
dot_stops text after prefix e within = no_steps_after text after 0x2E prefix e (dot_none after within)

pub bracket_stops : (text after : List ℕ) → Prefix text 0x5B → after ≡ drop 1 text
    → ((n : ℕ) (rest : List ℕ) → n < 1_000_000_000 → after ≡ decimal n ++ 0x5D ∷ rest → ⊥) → NoSteps text
bracket_stops text after prefix e none = no_steps_after text after 0x5B prefix e (bracket_none after none)

pub other_stops : (text bytes : List ℕ) (read : ℕ) → bytes ≡ text → read ≡ slice_index bytes 0 → (read ≡ 0x2E → ⊥)
    → (read ≡ 0x5B → ⊥) → NoSteps text
other_stops text bytes read same is dot bracket =
    let e = first_of_bytes text bytes read same is in
    other_none text (λ d. dot (sym e ∙ d)) (λ b. bracket (sym e ∙ b))

pub path_on_first_read : (text value : List ℕ) (n : ℕ) → KeyRead text value n → KeysWithin text n → PathGoesOn text n
path_on_first_read text value n (l, found, m) within = path_on_first text l n found within

pub path_on_next_read : (text rest : List ℕ) (at n : ℕ) → rest ≡ drop at text → PathGoesOn text at → StepsGoOn rest n
    → PathGoesOn text (at + n)
path_on_next_read text rest at n is path steps = path_on_more text at n path (subst (λ t. StepsGoOn t n) is steps)

-- ---- the path that is read

pub so_far_first_read : (text value : List ℕ) (n : ℕ) (path : List Part) → path ≡ key value ∷ [] → KeyRead text value n
    → SoFar text path n
so_far_first_read text value n path is (l, found, m) = rw is (so_far_first text l n value found m)

pub so_far_next_read : (text rest : List ℕ) (path more : List Part) (at n : ℕ) (part : Part) → more ≡ path ++ part ∷ []
    → rest ≡ drop at text → SoFar text path at → StepRead rest part n → SoFar text more (at + n)
so_far_next_read text rest path more at n part is after h found =
    rw is (so_far_more text path at n part h (rw after at found))

pub one_read : (text : List ℕ) (path : List Part) (at : ℕ) → length text ≤ at → SoFar text path at → (q : List Part)
    → IsPathText text q → path ≡ q
one_read text path at end h q stated = sym ((so_far_done text path at end h).1 q stated)
