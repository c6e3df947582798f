-- The path of a key, and what it mentions, follow from its leading parts and its last part.
--
-- Theorems: `header_prefixes-split`: a header mentions on its way what its leading keys mention; `header_path-split`:
-- the path of a header; `keyed-past` and `keyed-split`: what a keyval mentions.
use Rattle.std.proofs.Common.{◌≡◌, ℕ, true, false, cond, List, [], ◌∷◌, ◌++◌, length, map, refl, sym, ◌∙◌, ap, arith}
use Rattle.std.proofs.Common.{length-append}
use Rattle.std.specs.Prelude.{◌==◌}
use Rattle.std.proofs.lemmas.List.{append_assoc, append-nil, map-append}
use Rattle.std.proofs.lemmas.List.Elements.{filter_map-append}
use Rattle.keep_path.specs.Path.{Part, key}
use Rattle.keep_meaning.specs.Marks.{Mention, below, through, past, passed, dotted, passing_mentions, entered_path}
use Rattle.keep_meaning.specs.Marks.{header_prefixes, header_path, marks, mark_of, elements_of}
use Rattle.keep_meaning.specs.Meaning.{keyed_mentions}
use Rattle.keep_rules.specs.Descents.{descent_path, descent_mentions, dotted_mentions}

pub descent_mentions-append : (ts : List (List Part)) (at : List Part) (ks ls : List (List ℕ))
    → descent_mentions ts at (ks ++ ls) ≡ descent_mentions ts at ks ++ descent_mentions ts (descent_path ts at ks) ls
descent_mentions-append ts at [] ls = refl
descent_mentions-append ts at (k ∷ ks) ls =
    ap (λ w. passing_mentions ts (at ++ key k ∷ []) ++ w)
    (descent_mentions-append ts (entered_path ts (at ++ key k ∷ [])) ks ls)
    ∙ sym (append_assoc (passing_mentions ts (at ++ key k ∷ []))
    (descent_mentions ts (entered_path ts (at ++ key k ∷ [])) ks)
    (descent_mentions ts (descent_path ts (entered_path ts (at ++ key k ∷ [])) ks) ls))

pub descent_path-append : (ts : List (List Part)) (at : List Part) (ks ls : List (List ℕ))
    → descent_path ts at (ks ++ ls) ≡ descent_path ts (descent_path ts at ks) ls
descent_path-append ts at [] ls = refl
descent_path-append ts at (k ∷ ks) ls = descent_path-append ts (entered_path ts (at ++ key k ∷ [])) ks ls

-- the leading keys of a header
pub header_prefixes-split : (ts : List (List Part)) (at : List Part) (leading : List (List ℕ)) (k : List ℕ)
    → header_prefixes ts at (leading ++ k ∷ []) ≡ descent_mentions ts at leading
header_prefixes-split ts at [] k = refl
header_prefixes-split ts at (w ∷ []) k = refl
header_prefixes-split ts at (w ∷ x ∷ leading) k =
    ap (λ ms. passing_mentions ts (at ++ key w ∷ []) ++ ms)
    (header_prefixes-split ts (entered_path ts (at ++ key w ∷ [])) (x ∷ leading) k)

pub header_path-split : (ts : List (List Part)) (at : List Part) (leading : List (List ℕ)) (k : List ℕ)
    → header_path ts at (leading ++ k ∷ []) ≡ descent_path ts at leading ++ key k ∷ []
header_path-split ts at [] k = refl
header_path-split ts at (w ∷ []) k = refl
header_path-split ts at (w ∷ x ∷ leading) k = header_path-split ts (entered_path ts (at ++ key w ∷ [])) (x ∷ leading) k

marks-passing : (ts : List (List Part)) (p : List Part) → length (marks (passing_mentions ts p)) ≡ 1
marks-passing ts p =
    elim (0 == elements_of p ts) as
    (λ b. length (marks (cond b (record { path = p; kind = through } ∷ [])
    (record { path = p; kind = past } ∷ record { path = entered_path ts p; kind = passed } ∷ []))) ≡ 1) [
      | true ↦ refl
      | false ↦ refl
    ]

pub marks-descent_mentions : (ts : List (List Part)) (at : List Part) (ks : List (List ℕ))
    → length (marks (descent_mentions ts at ks)) ≡ length ks
marks-descent_mentions ts at [] = refl
marks-descent_mentions ts at (k ∷ ks) =
    let p : List Part = at ++ key k ∷ [] in
    omega (
      arith,
      marks-passing ts p,
      marks-descent_mentions ts (entered_path ts p) ks,
      ap length (filter_map-append mark_of (passing_mentions ts p) (descent_mentions ts (entered_path ts p) ks)),
      length-append (marks (passing_mentions ts p)) (marks (descent_mentions ts (entered_path ts p) ks)),
    )

-- ---- keyvals

pub dotted_mentions-append : (at : List Part) (ks ls : List (List ℕ))
    → dotted_mentions at (ks ++ ls) ≡ dotted_mentions at ks ++ dotted_mentions (at ++ map key ks) ls
dotted_mentions-append at [] ls = ap (λ p. dotted_mentions p ls) (sym (append-nil at))
dotted_mentions-append at (k ∷ ks) ls =
    ap (λ w. record { path = at ++ key k ∷ []; kind = dotted } ∷ w) (dotted_mentions-append (at ++ key k ∷ []) ks ls
    ∙ ap (λ p. dotted_mentions (at ++ key k ∷ []) ks ++ dotted_mentions p ls)
    (append_assoc at (key k ∷ []) (map key ks)))

pub marks-dotted_mentions : (at : List Part) (ks : List (List ℕ)) → length (marks (dotted_mentions at ks)) ≡ length ks
marks-dotted_mentions at [] = refl
marks-dotted_mentions at (k ∷ ks) = omega (arith, marks-dotted_mentions (at ++ key k ∷ []) ks)

pub below-below : (p q : List Part) (ms : List Mention) → map (below p) (map (below q) ms) ≡ map (below (p ++ q)) ms
below-below p q [] = refl
below-below p q (m ∷ ms) =
    ap (λ w. record { path = p ++ (q ++ m.path); kind = m.kind } ∷ w) (below-below p q ms)
    ∙ ap (λ r. record { path = r; kind = m.kind } ∷ map (below (p ++ q)) ms) (sym (append_assoc p q m.path))

-- what the first of several keys says, and what the others say below it
keyed_next : (at : List Part) (w x : List ℕ) (ks : List (List ℕ)) (ms : List Mention)
    → map (below at) (keyed_mentions (w ∷ x ∷ ks) ms) ≡ record { path = at ++ key w ∷ []; kind = dotted }
    ∷ map (below (at ++ key w ∷ [])) (keyed_mentions (x ∷ ks) ms)
keyed_next at w x ks ms =
    ap (λ r. record { path = at ++ key w ∷ []; kind = dotted } ∷ r)
    (below-below at (key w ∷ []) (keyed_mentions (x ∷ ks) ms))

-- the mentions of a keyval are those of the keys that it passes, and then those of the further ones, below these
pub keyed-past : (at : List Part) (leading : List (List ℕ)) (k : List ℕ) (ks : List (List ℕ)) (ms : List Mention)
    → map (below at) (keyed_mentions (leading ++ k ∷ ks) ms) ≡ dotted_mentions at leading
    ++ map (below (at ++ map key leading)) (keyed_mentions (k ∷ ks) ms)
keyed-past at [] k ks ms = ap (λ p. map (below p) (keyed_mentions (k ∷ ks) ms)) (sym (append-nil at))
keyed-past at (w ∷ []) k ks ms = keyed_next at w k ks ms
keyed-past at (w ∷ x ∷ leading) k ks ms =
    keyed_next at w x (leading ++ k ∷ ks) ms
    ∙ ap (λ r. record { path = at ++ key w ∷ []; kind = dotted } ∷ r)
    (keyed-past (at ++ key w ∷ []) (x ∷ leading) k ks ms
    ∙ ap (λ p. dotted_mentions (at ++ key w ∷ []) (x ∷ leading) ++ map (below p) (keyed_mentions (k ∷ ks) ms))
    (append_assoc at (key w ∷ []) (map key (x ∷ leading))))

-- the mentions of a keyval are those of its leading keys and then those of its value
pub keyed-split : (at : List Part) (leading : List (List ℕ)) (k : List ℕ) (ms : List Mention)
    → map (below at) (keyed_mentions (leading ++ k ∷ []) ms) ≡ dotted_mentions at leading
    ++ map (below (at ++ map key (leading ++ k ∷ []))) ms
keyed-split at leading k ms =
    keyed-past at leading k [] ms
    ∙ ap (λ r. dotted_mentions at leading ++ r)
    (below-below (at ++ map key leading) (key k ∷ []) ms
    ∙ ap (λ p. map (below p) ms)
    (append_assoc at (map key leading) (key k ∷ []) ∙ ap (λ l. at ++ l) (sym (map-append key leading (k ∷ [])))))
