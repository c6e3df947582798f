-- What the keys of a line that it passes say: one mention each, of a path one step longer than the one before. They
-- come before what the line's other keys say (`passed_first`), and each is one key part (`count_dots`).
--
-- Theorems: `passed_first` and `count_dots`.
use Rattle.std.proofs.Common.{◌≡◌, ℕ, suc, ◌+◌, List, [], ◌∷◌, ◌++◌, length, map, refl, sym, ap, ap₂, ◌∙◌, arith}
use Rattle.std.proofs.Common.{append_assoc, append-nil}
use Rattle.keep_path.specs.Path.{Part, key}
use Rattle.keep_meaning.specs.Counts.{Count, count_after, count_with_mention}
use Rattle.keep_meaning.specs.Marks.{Mention, below, dotted}
use Rattle.keep_meaning.specs.Meaning.{keyed_mentions}
use Rattle.keep_meaning.proofs.KeyChainLemmas.{below_below}

abbrev pub dot_mentions : List Part → List (List ℕ) → List Mention
dot_mentions at [] = []
dot_mentions at (k ∷ ks) = record { path = at ++ key k ∷ []; kind = dotted } ∷ dot_mentions (at ++ key k ∷ []) ks

next_key : (k : List ℕ) (ks : List (List ℕ)) (first : List ℕ) (further : List (List ℕ)) (ms : List Mention)
    → keyed_mentions (k ∷ (ks ++ first ∷ further)) ms
    ≡ map (below (key k ∷ [])) (record { path = []; kind = dotted } ∷ keyed_mentions (ks ++ first ∷ further) ms)
next_key k [] first further ms = refl
next_key k (l ∷ ks) first further ms = refl

-- they come first, and the others go on from them
pub passed_first : (at : List Part) (ks : List (List ℕ)) (first : List ℕ) (further : List (List ℕ)) (ms : List Mention)
    → map (below at) (keyed_mentions (ks ++ first ∷ further) ms)
    ≡ dot_mentions at ks ++ map (below (at ++ map key ks)) (keyed_mentions (first ∷ further) ms)
passed_first at [] first further ms =
    ap (λ (p : List Part). map (below p) (keyed_mentions (first ∷ further) ms)) (sym (append-nil at))
passed_first at (k ∷ ks) first further ms =
    let own : Mention = record { path = at ++ key k ∷ []; kind = dotted } in
    ap (map (below at)) (next_key k ks first further ms)
    ∙ ap (λ (l : List Mention). own ∷ l)
    (below_below at (key k ∷ []) (keyed_mentions (ks ++ first ∷ further) ms)
    ∙ passed_first (at ++ key k ∷ []) ks first further ms
    ∙ ap (λ (p : List Part).
    dot_mentions (at ++ key k ∷ []) ks ++ map (below p) (keyed_mentions (first ∷ further) ms))
    (append_assoc at (key k ∷ []) (map key ks)))

-- a count after so many key parts more
abbrev pub parts_later : ℕ → Count → Count
parts_later m c = record c { keys = c.keys + m }

pub count_dots : (c : Count) (at : List Part) (ks : List (List ℕ))
    → count_after c (dot_mentions at ks) ≡ parts_later (length ks) c
count_dots c at [] =
    let same : c.keys ≡ c.keys + 0 = omega arith in
    ap (λ (k : ℕ). record { statements = c.statements; values = c.values; keys = k }) same
count_dots c at (k ∷ ks) =
    let own : Mention = record { path = at ++ key k ∷ []; kind = dotted } in
    let values : c.values + 0 ≡ c.values = omega arith in
    let keys : (c.keys + 1) + length ks ≡ c.keys + suc (length ks) = omega arith in
    count_dots (count_with_mention c own) (at ++ key k ∷ []) ks
    ∙ ap₂ (λ (v n : ℕ). record { statements = c.statements; values = v; keys = n }) values keys
