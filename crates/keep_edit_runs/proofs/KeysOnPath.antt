-- The keys of a header and those of the steps of a path, which are compared one by one.
--
-- What is left of the keys after those of a path is what is left after the keys of its first steps, and then after
-- those of the others. So a step that is an index leaves it as it is. A key takes the next of the keys away if it is
-- that one. If it is not, or none is left, the keys do not begin with those of the path, nor with those of a longer
-- one.
--
-- Theorems: `index_next`, `key_next`: one step more; `key_stops`, `stops_at_end`, `stops_at_other`: where they do not
-- begin so; `none_beside`, `end_beside`, `key_beside`: of a path with a new key in place of its last step.
use Rattle.std.proofs.Common.{◌≡◌, ◌≢◌, ◌≤◌, ◌<◌, ◌+◌, ◌-◌, ◌∷◌, ◌++◌, [], ℕ, zero, suc, Bool, true, false, not}
use Rattle.std.proofs.Common.{List, length, take, drop, get_or, slice_get, map, Option, Some, None, option_map}
use Rattle.std.proofs.Common.{Global, String, string_bytes, bytes_eq, refl, sym, ap, ◌∙◌, arith, inl, inr}
use Rattle.std.specs.Bool.{Decides}
use Rattle.std.specs.Option.{option_and_then}
use Rattle.std.proofs.lemmas.Bool.Decides.{Decides-like, same_from_decides}
use Rattle.std.proofs.lemmas.Slice.Eq.{bytes_eq-Decides}
use Rattle.std.proofs.lemmas.List.{drop_all, drop_more, length-map, map-append, take_all, take_more}
use Rattle.std.proofs.lemmas.List.Elements.{filter_map-append}
use Rattle.std.proofs.lemmas.Option.{get_or_from_slice_get, slice_get-map, slice_get_cases, slice_get_within}
use Rattle.keep_path.specs.Path.{Part, beside, index, key, same_part, strip}
use Rattle.keep_edit_spec.specs.Look.{key_text, keys_in}
use Rattle.keep_edit_plan.specs.Headers.{key_texts}
use Rattle.keep_edit_runs.specs.Runs.{rest_after, rest_from}
use Rattle.keep_edit_runs.proofs.AlikeLaws.{before_last, read_key}

-- ---- after more steps

strip_more : (first more path : List Part)
    → strip (first ++ more) path ≡ option_and_then (strip more) (strip first path)
strip_more [] more path = refl
strip_more (p ∷ first) more [] = refl
strip_more (p ∷ first) more (q ∷ path) = by (same_part p q) (strip_more first more path)
  where
    by : (b : Bool) → strip (first ++ more) path ≡ option_and_then (strip more) (strip first path)
        → ◌≡◌ {A = Option (List Part)} (elim b [ true ↦ strip (first ++ more) path | false ↦ None ])
        (option_and_then (strip more) (elim b [ true ↦ strip first path | false ↦ None ]))
    by true e = e
    by false e = refl

after_more : (keys : List (String Global)) (path more : List Part)
    → rest_after keys (path ++ more) ≡ option_and_then (strip (map key (keys_in more))) (rest_after keys path)
after_more keys path more =
    ap (λ (l : List Part). strip l (map key (key_texts keys)))
    (ap (map key) (filter_map-append key_text path more) ∙ map-append key (keys_in path) (keys_in more))
    ∙ strip_more (map key (keys_in path)) (map key (keys_in more)) (map key (key_texts keys))

-- none is left after more steps if none was before them
take_within : (n m : ℕ) (path : List Part) → n ≤ m → take m path ≡ take n path ++ drop n (take m path)
take_within zero m path le = refl
take_within (suc n) zero path le = absurd (omega (arith, le))
take_within (suc n) (suc m) [] le = refl
take_within (suc n) (suc m) (p ∷ path) le =
    ap (λ (l : List Part). p ∷ l) (take_within n m path (omega (arith, le)))

none_after : (keys : List (String Global)) (path : List Part) (n m : ℕ) → n ≤ m
    → rest_after keys (take n path) ≡ None → rest_after keys (take m path) ≡ None
none_after keys path n m le none =
    let more = drop n (take m path) in
    ap (rest_after keys) (take_within n m path le) ∙ after_more keys (take n path) more
    ∙ ap (option_and_then (strip (map key (keys_in more)))) none

-- ---- one step more

after_step : (keys : List (String Global)) (path : List Part) (n : ℕ) (p : Part) (rest : List Part)
    → slice_get path n ≡ Some p → rest_after keys (take n path) ≡ Some rest
    → rest_after keys (take (n + 1) path) ≡ strip (map key (keys_in (p ∷ []))) rest
after_step keys path n p rest is was =
    ap (rest_after keys)
    (take_more path n p (slice_get_within path n p is)
    ∙ ap (λ (q : Part). take n path ++ q ∷ []) (get_or_from_slice_get path n p p is))
    ∙ after_more keys (take n path) (p ∷ []) ∙ ap (option_and_then (strip (map key (keys_in (p ∷ []))))) was

pub index_next : (keys : List (String Global)) (path : List Part) (n : ℕ) (rest : List Part)
    → ((text : List ℕ) → slice_get path n ≢ Some (key text)) → rest_after keys (take n path) ≡ Some rest
    → rest_after keys (take (n + 1) path) ≡ Some rest
index_next keys path n rest no_key was = elim (slice_get_cases path n).1 [
  | inl (p, lt, is, same) ↦ by p is
  | inr (le, none) ↦
      ap (rest_after keys) (take_all (n + 1) path (omega (arith, le)) ∙ sym (take_all n path le)) ∙ was
]
  where
    by : (p : Part) → slice_get path n ≡ Some p → rest_after keys (take (n + 1) path) ≡ Some rest
    by (key text) is = absurd (no_key text is)
    by (index i) is = after_step keys path n (index i) rest is was

-- what is left begins with the next key
next_is : (keys : List (String Global)) (n : ℕ) (own : String Global) → n < length keys → own ≡ get_or keys n own
    → rest_from keys n ≡ key (string_bytes own) ∷ rest_from keys (n + 1)
next_is keys n own lt is =
    let all = map key (key_texts keys) in
    let here : slice_get all n ≡ Some (key (string_bytes own)) =
    slice_get-map key (key_texts keys) n ∙ ap (λ (o : Option (List ℕ)). option_map key o) (read_key keys n own lt is) in
    drop_more all n (key (string_bytes own)) (slice_get_within all n (key (string_bytes own)) here)
    ∙ ap (λ (p : Part). p ∷ drop (n + 1) all) (get_or_from_slice_get all n (key (string_bytes own)) _ here)

none_next : (keys : List (String Global)) (n : ℕ) → n ≡ length keys → rest_from keys n ≡ []
none_next keys n end =
    drop_all n (map key (key_texts keys))
    (omega (arith, end, length-map (key_texts keys) key, length-map keys string_bytes))

by_key : (text own : List ℕ) (rest : List Part) (b : Bool) → bytes_eq text own ≡ b
    → strip (key text ∷ []) (key own ∷ rest) ≡ elim b [ true ↦ Some rest | false ↦ None ]
by_key text own rest b e = ap (λ (c : Bool). elim c [ true ↦ Some rest | false ↦ None ]) e

turned : (text own : List ℕ) (b : Bool) → bytes_eq own text ≡ b → bytes_eq text own ≡ b
turned text own b e =
    same_from_decides (bytes_eq text own) (bytes_eq own text) (bytes_eq-Decides text own)
    (Decides-like (bytes_eq own text) sym sym (bytes_eq-Decides own text)) ∙ e

-- a key of the path, where none is left, where another comes next, and where it is the next one
pub stops_at_end : (keys : List (String Global)) (next : ℕ) (text : List ℕ) → next ≡ length keys
    → strip (key text ∷ []) (rest_from keys next) ≡ None
stops_at_end keys next text end = ap (strip (key text ∷ [])) (none_next keys next end)

pub stops_at_other : (keys : List (String Global)) (next : ℕ) (own : String Global) (text : List ℕ)
    → next < length keys → own ≡ get_or keys next own → bytes_eq (string_bytes own) text ≡ false
    → strip (key text ∷ []) (rest_from keys next) ≡ None
stops_at_other keys next own text lt is differ =
    ap (strip (key text ∷ [])) (next_is keys next own lt is)
    ∙ by_key text (string_bytes own) (rest_from keys (next + 1)) false (turned text (string_bytes own) false differ)

goes_on : (keys : List (String Global)) (next : ℕ) (own : String Global) (text : List ℕ)
    → next < length keys → own ≡ get_or keys next own → bytes_eq (string_bytes own) text ≡ true
    → strip (key text ∷ []) (rest_from keys next) ≡ Some (rest_from keys (next + 1))
goes_on keys next own text lt is same =
    ap (strip (key text ∷ [])) (next_is keys next own lt is)
    ∙ by_key text (string_bytes own) (rest_from keys (next + 1)) true (turned text (string_bytes own) true same)

pub key_next : (keys : List (String Global)) (path : List Part) (n next : ℕ) (own : String Global) (text : List ℕ)
    → slice_get path n ≡ Some (key text) → rest_after keys (take n path) ≡ Some (rest_from keys next)
    → next < length keys → own ≡ get_or keys next own → bytes_eq (string_bytes own) text ≡ true
    → rest_after keys (take (n + 1) path) ≡ Some (rest_from keys (next + 1))
key_next keys path n next own text step was lt is same =
    after_step keys path n (key text) (rest_from keys next) step was ∙ goes_on keys next own text lt is same

pub key_stops : (keys : List (String Global)) (path : List Part) (n m next : ℕ) (text : List ℕ) → n < m
    → slice_get path n ≡ Some (key text) → rest_after keys (take n path) ≡ Some (rest_from keys next)
    → strip (key text ∷ []) (rest_from keys next) ≡ None → rest_after keys (take m path) ≡ None
key_stops keys path n m next text lt step was stops =
    none_after keys path (n + 1) m (omega (arith, lt))
    (after_step keys path n (key text) (rest_from keys next) step was ∙ stops)

-- ---- with a new key in place of the last step

after_beside : (keys : List (String Global)) (path : List Part) (text : List ℕ) (n : ℕ) (o : Option (List Part))
    → n ≡ length path - 1 → o ≡ rest_after keys (take n path)
    → rest_after keys (beside path text) ≡ option_and_then (strip (key text ∷ [])) o
after_beside keys path text n o long was =
    ap (λ (l : List Part). rest_after keys (l ++ key text ∷ []))
    (before_last path ∙ ap (λ (k : ℕ). take k path) (sym long))
    ∙ after_more keys (take n path) (key text ∷ []) ∙ ap (option_and_then (strip (key text ∷ []))) (sym was)

pub none_beside : (keys : List (String Global)) (path : List Part) (text : List ℕ) (n : ℕ) → n ≡ length path - 1
    → None ≡ rest_after keys (take n path) → rest_after keys (beside path text) ≡ None
none_beside keys path text n long none = after_beside keys path text n None long none

module _ (keys : List (String Global)) (path : List Part) (text : List ℕ) (n next : ℕ) (long : n ≡ length path - 1)
    (was : Some (rest_from keys next) ≡ rest_after keys (take n path)) where
  pub end_beside : next ≡ length keys → rest_after keys (beside path text) ≡ None
  end_beside end =
      after_beside keys path text n (Some (rest_from keys next)) long was ∙ stops_at_end keys next text end

  pub key_beside : (own : String Global) (b : Bool) → bytes_eq (string_bytes own) text ≡ b → next < length keys
      → own ≡ get_or keys next own → Decides (not b) (rest_after keys (beside path text) ≡ None)
  key_beside own true same lt is = (
    λ yes. absurd cc,
    λ none.
        let left = after_beside keys path text n (Some (rest_from keys next)) long was in
        let no : Some (rest_from keys (next + 1)) ≡ None =
        sym (goes_on keys next own text lt is same) ∙ sym left ∙ none in
        absurd cc,
  )
  key_beside own false differ lt is = (
    λ yes. after_beside keys path text n (Some (rest_from keys next)) long was
        ∙ stops_at_other keys next own text lt is differ,
    λ none. refl,
  )
