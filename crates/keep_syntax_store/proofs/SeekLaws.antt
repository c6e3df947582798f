-- A place is sought among stored places, and near places that follow one another are passed at once. Near steps lead
-- forward: if the last of their places is at most another place, so are they all, and likewise if it is before it.
--
-- Theorems: `run_to`: the last place up to another is sought after a place and the near places after it, from the last
-- of these; `run_from`: the first place from another on is sought after them.
use Rattle.std.proofs.Common.{◌≡◌, ℕ, ◌+◌, ◌<◌, ◌≤◌, List, [], ◌∷◌, ◌++◌, length, refl, sym, ap, ◌∙◌, arith}
use Rattle.std.specs.Prelude.{sum, leb}
use Rattle.std.proofs.lemmas.Bool.{le-leb, lt-leb}
use Rattle.keep_syntax_store.specs.Starts.{places_at, fars, first_from, last_of, last_to, Ascend}
use Rattle.keep_syntax_store.proofs.TestLaws.{if_true, if_false}
use Rattle.keep_syntax_store.proofs.AscendLaws.{ascend_last}
use Rattle.keep_syntax_store.proofs.StartLaws.{near_step}
use Rattle.keep_syntax_store.proofs.RunLaws.{IsNear, is_near}

-- ---- the last up to a place

one_to : (place low at : ℕ) (places : List ℕ) → at ≤ place
    → last_to place low (at ∷ places) ≡ last_to place at places
one_to place low at places le = if_true (leb at place) _ _ (le-leb at place le)

-- all, if the last of them is
pub all_to : (place low start : ℕ) (xs : List ℕ) → Ascend start xs → last_of start xs ≤ place → 0 < length xs
    → last_to place low xs ≡ last_of start xs
all_to place low start [] ascends within some = absurd (omega (arith, some))
all_to place low start (x ∷ []) ascends within some = one_to place low x [] within
all_to place low start (x ∷ y ∷ ys) ascends within some =
    one_to place low x (y ∷ ys) (omega (arith, within, ascend_last x (y ∷ ys) ascends.1))
    ∙ all_to place x x (y ∷ ys) ascends.1 within (omega arith)

near_to : (place at : ℕ) (near rest : List ℕ) → fars near ≡ 0 → at + sum near ≤ place
    → last_to place at (places_at at near [] ++ rest) ≡ last_to place (at + sum near) rest
near_to place at [] rest none last = ap (λ (low : ℕ). last_to place low rest) (omega arith)
near_to place at (step ∷ steps) rest none last =
    let n : IsNear step steps = is_near step steps none in
    ap (λ (ps : List ℕ). last_to place at (ps ++ rest)) (near_step at step steps [] n.first)
    ∙ one_to place at (at + step) (places_at (at + step) steps [] ++ rest) (omega (arith, last, n.whole))
    ∙ near_to place (at + step) steps rest n.others (omega (arith, last, n.whole))
    ∙ ap (λ (low : ℕ). last_to place low rest) (omega (arith, n.whole))

-- a place, the near places after it up to `last`, and the others
pub run_to : (place low at there last : ℕ) (left after near rest : List ℕ) → left ≡ at ∷ after → at ≡ there
    → after ≡ places_at there near [] ++ rest → fars near ≡ 0 → last ≡ there + sum near → at ≤ place → last ≤ place
    → last_to place low left ≡ last_to place last rest
run_to place low at there last left after near rest first same split none is le order =
    ap (last_to place low) first
    ∙ one_to place low at after le
    ∙ ap (λ (l : ℕ). last_to place l after) same
    ∙ ap (last_to place there) split
    ∙ near_to place there near rest none (omega (arith, is, order))
    ∙ ap (λ (l : ℕ). last_to place l rest) (sym is)

-- ---- the first from a place on

one_from : (place high at : ℕ) (places : List ℕ) → at < place
    → first_from place high (at ∷ places) ≡ first_from place high places
one_from place high at places before = if_false (leb place at) _ _ (lt-leb place at before)

near_from : (place high at : ℕ) (near rest : List ℕ) → fars near ≡ 0 → at + sum near < place
    → first_from place high (places_at at near [] ++ rest) ≡ first_from place high rest
near_from place high at [] rest none last = refl
near_from place high at (step ∷ steps) rest none last =
    let n : IsNear step steps = is_near step steps none in
    ap (λ (ps : List ℕ). first_from place high (ps ++ rest)) (near_step at step steps [] n.first)
    ∙ one_from place high (at + step) (places_at (at + step) steps [] ++ rest) (omega (arith, last, n.whole))
    ∙ near_from place high (at + step) steps rest n.others (omega (arith, last, n.whole))

-- a place, the near places after it up to `last`, and the others
pub run_from : (place high at there last : ℕ) (left after near rest : List ℕ) → left ≡ at ∷ after
    → after ≡ places_at there near [] ++ rest → fars near ≡ 0 → last ≡ there + sum near → at < place → last < place
    → first_from place high left ≡ first_from place high rest
run_from place high at there last left after near rest first split none is before order =
    ap (first_from place high) first
    ∙ one_from place high at after before
    ∙ ap (first_from place high) split
    ∙ near_from place high there near rest none (omega (arith, is, order))

-- none of them, if the last is before the place
pub none_from : (place high low : ℕ) (xs : List ℕ) → Ascend low xs → last_of low xs < place
    → first_from place high xs ≡ high
none_from place high low [] ascends before = refl
none_from place high low (x ∷ xs) ascends before =
    if_false (leb place x) _ _ (lt-leb place x (omega (arith, before, ascend_last x xs ascends.1)))
    ∙ none_from place high x xs ascends.1 before
