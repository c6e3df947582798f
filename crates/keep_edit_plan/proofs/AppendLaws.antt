-- Appending headers: the last byte says if the text ends in a newline, and the keys are written one by one.
--
-- Theorems: `by_last`: the last byte; `one_key_more`: the keys so far, and the next one; `all_written`: in the end all
-- keys are written.
use Rattle.std.proofs.Common.{◌≡◌, ℕ, suc, Bool, ◌+◌, ◌-◌, ◌<◌, ◌≤◌, false, ◌==◌, List, [], ◌∷◌, ◌++◌, length, take}
use Rattle.std.proofs.Common.{slice_get, refl, sym, ap, ◌∙◌, append_assoc, arith, Option, Some, None}
use Rattle.std.specs.Prelude.{String, string_bytes, codes, slice_index_or}
use Rattle.std.specs.Global.{Global}
use Rattle.std.specs.List.{flat_map}
use Rattle.std.proofs.lemmas.List.{append-nil, map-append, take_more, take_all}
use Rattle.std.proofs.lemmas.List.Concat.{flat_map-append}
use Rattle.keep_token.specs.Encoded.{encoded_key}
use Rattle.keep_edit_spec.specs.TextEnds.{ends_in_newline}
use Rattle.keep_edit_plan.specs.Headers.{key_texts, keys_text}

-- the last byte of a text
abbrev pub is_line_feed : Option ℕ → Bool
is_line_feed None = false
is_line_feed (Some c) = c == 0x0A

last_byte : (t : List ℕ) → is_line_feed (slice_get t (length t - 1)) ≡ ends_in_newline t
last_byte [] = refl
last_byte (c ∷ []) = refl
last_byte (c ∷ d ∷ cs) =
    let n : length (c ∷ d ∷ cs) - 1 ≡ suc (length (d ∷ cs) - 1) = omega arith in
    let later : is_line_feed (slice_get (c ∷ d ∷ cs) (length (c ∷ d ∷ cs) - 1))
    ≡ is_line_feed (slice_get (d ∷ cs) (length (d ∷ cs) - 1)) = ap (λ k. is_line_feed (slice_get (c ∷ d ∷ cs) k)) n in
    later ∙ last_byte (d ∷ cs)

pub by_last : (t : List ℕ) (o : Option ℕ) → o ≡ slice_get t (length t - 1) → is_line_feed o ≡ ends_in_newline t
by_last t o e = ap is_line_feed e ∙ last_byte t

-- ---- keys

-- a key after others
abbrev pub further_key : List ℕ → List ℕ
further_key k = codes "." ++ encoded_key k

-- the keys so far
abbrev pub keys_so_far : List (String Global) → ℕ → List ℕ
keys_so_far further i = flat_map further_key (key_texts (take i further))

pub one_key_more : (further : List (String Global)) (i : ℕ) (x : String Global) (before : List ℕ) → i < length further
    → x ≡ slice_index_or further i x
    → ((before ++ keys_so_far further i) ++ codes ".") ++ encoded_key (string_bytes x) ≡ before
    ++ keys_so_far further (i + 1)
one_key_more further i x before less is =
    append_assoc (before ++ keys_so_far further i) (codes ".") (encoded_key (string_bytes x))
    ∙ append_assoc before (keys_so_far further i) (further_key (string_bytes x))
    ∙ ap (λ (t : List ℕ). before ++ t) (sym more)
  where
    more : keys_so_far further (i + 1) ≡ keys_so_far further i ++ further_key (string_bytes x)
    more =
        ap (λ (keys : List (String Global)). flat_map further_key (key_texts keys)) (take_more further i x less)
        ∙ ap (flat_map further_key) (map-append string_bytes (take i further) (slice_index_or further i x ∷ []))
        ∙ flat_map-append further_key (key_texts (take i further)) (string_bytes (slice_index_or further i x) ∷ [])
        ∙ ap (λ (t : List ℕ). keys_so_far further i ++ t)
        (append-nil (further_key (string_bytes (slice_index_or further i x)))
        ∙ ap (λ (y : String Global). further_key (string_bytes y)) (sym is))

pub all_written : (keys further : List (String Global)) (first : String Global) (i : ℕ) → keys ≡ first ∷ further
    → length further ≤ i → encoded_key (string_bytes first) ++ keys_so_far further i ≡ keys_text (key_texts keys)
all_written keys further first i e past =
    ap (λ (more : List (String Global)). encoded_key (string_bytes first) ++ flat_map further_key (key_texts more))
    (take_all i further past) ∙ sym (ap (λ (x : List (String Global)). keys_text (key_texts x)) e)
