-- The key part of a path, by its number among the keys of a header or a keyval.
--
-- `IsPart` says that the key of a number leads to the path, `AreRenamed` that the keys are the same but for that one.
-- From the keys, each path on the way is longer than the one before it (`part_longer`), so only one key leads to the
-- path, and after it the keys stay (`keys_beyond`). So the mentions of the keyval or the header are the old ones with
-- changed paths (`keyed_renamed`), and the number of the key part is its place among the prefixes of the keys
-- (`header_position`, `keyval_position`).
--
-- Theorems: `keys_renamed`, `keyed_renamed`, `header_position` and `keyval_position`.
use Rattle.std.proofs.Common.{◌≡◌, ℕ, zero, suc, ◌-◌, ◌<◌, ◌≤◌, Bool, true, false, cond, List, [], ◌∷◌, ◌++◌, length}
use Rattle.std.proofs.Common.{map, get_or, refl, sym, ap, subst, ◌∙◌, append_assoc, length-append, arith, Some, inl}
use Rattle.std.proofs.Common.{inr}
use Rattle.std.specs.Prelude.{◌==◌, position}
use Rattle.std.proofs.lemmas.List.{append-nil}
use Rattle.std.proofs.lemmas.List.Quantifiers.{position-Some}
use Rattle.keep_path.specs.Path.{Part, key, index, same_path, moved_path}
use Rattle.keep_meaning.specs.Marks.{MentionKind, dotted, Mention, below, elements_of, entered_path, passing_mentions}
use Rattle.keep_meaning.specs.Marks.{header_path, header_prefixes}
use Rattle.keep_meaning.specs.Meaning.{valued_mentions, keyed_mentions}
use Rattle.keep_edit_spec.specs.Look.{strip, without_last}
use Rattle.keep_edit_spec.specs.Lines.{key_prefixes}
use Rattle.keep_edit_spec.proofs.Common.Runs.{SomeOf, some_left, some_right, solid, same_path-sound, strip-append}
use Rattle.keep_edit_spec.proofs.Common.SetLaw.{IsSolidAt, map_twice}
use Rattle.keep_edit_spec.proofs.Common.LineLaws.{Reaches}
use Rattle.keep_edit_spec.proofs.Common.Moves.{moved}
use Rattle.keep_edit_spec.proofs.Common.Cuts.{without_last-snoc}
use Rattle.keep_edit_spec.proofs.Rename.RenamedPath.{IsBeside, under_renamed, disjoint_renamed, strip_more}
use Rattle.keep_edit_spec.proofs.Rename.RenamedPath.{renamed_beyond, renamed_step, short_disjoint, moved_under}
use Rattle.keep_edit_spec.proofs.Rename.RenamedKeys.{AreRenamed, passing_solid}

-- the key with that number leads to the path
abbrev pub IsPart : List Part → List (List Part) → List Part → ℕ → List (List ℕ) → Type 0
IsPart p tables at n [] = ⊥
IsPart p tables at zero (k ∷ ks) = at ++ key k ∷ [] ≡ p
IsPart p tables at (suc n) (k ∷ ks) = IsPart p tables (entered_path tables (at ++ key k ∷ [])) n ks

-- the keys with the one with that number replaced
abbrev pub replaced_key : List ℕ → ℕ → List (List ℕ) → List (List ℕ)
replaced_key t n [] = []
replaced_key t zero (k ∷ ks) = t ∷ ks
replaced_key t (suc n) (k ∷ ks) = k ∷ replaced_key t n ks

-- ---- how long the paths are

entered_length : (q : List Part) (x : Part) (c : Bool) → length q ≤ length (cond c q (q ++ x ∷ []))
entered_length q x true = omega arith
entered_length q x false = omega (arith, length-append q (x ∷ []))

entered_longer : (tables : List (List Part)) (q : List Part) → length q ≤ length (entered_path tables q)
entered_longer tables q = entered_length q (index (elements_of q tables - 1)) (0 == elements_of q tables)

pub part_longer : (p : List Part) (tables : List (List Part)) (at : List Part) (n : ℕ) (keys : List (List ℕ))
    → IsPart p tables at n keys → length at < length p
part_longer p tables at n [] h = absurd h
part_longer p tables at zero (k ∷ ks) h = omega (arith, ap length h, length-append at (key k ∷ []))
part_longer p tables at (suc n) (k ∷ ks) h =
    let q : List Part = at ++ key k ∷ [] in
    omega (
      arith,
      part_longer p tables (entered_path tables q) n ks h,
      entered_longer tables q,
      length-append at (key k ∷ []),
    )

-- ---- the keys with that one replaced

entered_under : (p q : List Part) (x : Part) (c : Bool) → Reaches p q → Reaches p (cond c q (q ++ x ∷ []))
entered_under p q x true u = u
entered_under p q x false u = (u.0 ++ x ∷ [], strip_more p q (x ∷ []) u.0 u.1)

-- after the path the keys stay
keys_beyond : (p b : List Part) (tables : List (List Part)) (at : List Part) (ks : List (List ℕ)) → Reaches p at
    → AreRenamed p b tables at ks ks
keys_beyond p b tables at [] u = tt
keys_beyond p b tables at (k ∷ ks) u =
    let q : List Part = at ++ key k ∷ [] in
    let v : Reaches p q = (u.0 ++ key k ∷ [], strip_more p at (key k ∷ []) u.0 u.1) in (
      renamed_beyond p b at (key k ∷ []) u,
      keys_beyond p b tables (entered_path tables q) ks
          (entered_under p q (index (elements_of q tables - 1)) (0 == elements_of q tables) v),
    )

pub strip_self : (p : List Part) → strip p p ≡ Some []
strip_self p = ap (strip p) (sym (append-nil p)) ∙ strip-append p []

pub keys_renamed : (t : List ℕ) (p b : List Part) (tables : List (List Part)) (at : List Part) (n : ℕ)
    (keys : List (List ℕ)) → IsBeside t p b → IsPart p tables at n keys
    → AreRenamed p b tables at keys (replaced_key t n keys)
keys_renamed t p b tables at n [] beside h = absurd h
keys_renamed t p b tables at zero (k ∷ ks) beside h =
    let q : List Part = at ++ key k ∷ [] in
    let same : at ≡ beside.prefix =
    sym (without_last-snoc at (key k)) ∙ ap without_last (h ∙ beside.was)
    ∙ without_last-snoc beside.prefix (key beside.old) in
    let short : length at < length p = omega (arith, ap length h, length-append at (key k ∷ [])) in
    let v : Reaches p q = ([], ap (strip p) h ∙ strip_self p) in (
      ap (moved_path p b) h ∙ under_renamed p b p [] (strip_self p) ∙ append-nil b
          ∙ beside.is
          ∙ ap (λ (x : List Part). x ++ key t ∷ [])
          (sym same ∙ sym (disjoint_renamed p b at (short_disjoint p at short))),
      keys_beyond p b tables (entered_path tables q) ks
          (entered_under p q (index (elements_of q tables - 1)) (0 == elements_of q tables) v),
    )
keys_renamed t p b tables at (suc n) (k ∷ ks) beside h =
    let q : List Part = at ++ key k ∷ [] in (
      renamed_step p b at (key k) (λ e.
          absurd (omega (
            arith,
            ap length e,
            part_longer p tables (entered_path tables q) n ks h,
            entered_longer tables q,
          ))),
      keys_renamed t p b tables (entered_path tables q) n ks beside h,
    )

-- ---- something is said of the path there

pub part_solid : (p : List Part) (tables : List (List Part)) (at : List Part) (n : ℕ) (keys : List (List ℕ))
    (mention_kind : MentionKind) → solid mention_kind ≡ true → IsPart p tables at n keys
    → SomeOf (IsSolidAt p) (header_prefixes tables at keys
    ++ record { path = header_path tables at keys; kind = mention_kind } ∷ [])
part_solid p tables at n [] mention_kind s h = absurd h
part_solid p tables at zero (k ∷ []) mention_kind s h = inl (record { path = h; kind = s })
part_solid p tables at (suc n) (k ∷ []) mention_kind s h = absurd h
part_solid p tables at zero (k ∷ l ∷ ks) mention_kind s h =
    let q : List Part = at ++ key k ∷ [] in
    let rest : List Mention = header_prefixes tables (entered_path tables q) (l ∷ ks) in
    some_left (IsSolidAt p) (passing_mentions tables q ++ rest) _
    (some_left (IsSolidAt p) (passing_mentions tables q) rest
    (subst (λ (x : List Part). SomeOf (IsSolidAt x) (passing_mentions tables q)) h (passing_solid tables q)))
part_solid p tables at (suc n) (k ∷ l ∷ ks) mention_kind s h =
    let q : List Part = at ++ key k ∷ [] in
    let rest : List Mention = header_prefixes tables (entered_path tables q) (l ∷ ks) in
    let end : List Mention =
    record { path = header_path tables (entered_path tables q) (l ∷ ks); kind = mention_kind } ∷ [] in
    subst (SomeOf (IsSolidAt p)) (sym (append_assoc (passing_mentions tables q) rest end))
    (some_right (IsSolidAt p) (passing_mentions tables q) (rest ++ end)
    (part_solid p tables (entered_path tables q) n (l ∷ ks) mention_kind s h))

pub keyed_solid : (p at : List Part) (n : ℕ) (keys : List (List ℕ)) (mention_kind : MentionKind) (ms : List Mention)
    → solid mention_kind ≡ true → IsPart p [] at n keys
    → SomeOf (IsSolidAt p) (map (below at) (keyed_mentions keys (valued_mentions mention_kind ms)))
keyed_solid p at n [] mention_kind ms s h = absurd h
keyed_solid p at zero (k ∷ []) mention_kind ms s h = inl (record { path = h; kind = s })
keyed_solid p at (suc n) (k ∷ []) mention_kind ms s h = absurd h
keyed_solid p at zero (k ∷ l ∷ ks) mention_kind ms s h = inl (record { path = h; kind = refl })
keyed_solid p at (suc n) (k ∷ l ∷ ks) mention_kind ms s h =
    inr (subst (SomeOf (IsSolidAt p))
    (sym (map_twice at (key k ∷ []) (keyed_mentions (l ∷ ks) (valued_mentions mention_kind ms))))
    (keyed_solid p (at ++ key k ∷ []) n (l ∷ ks) mention_kind ms s h))

-- the path is a prefix of the keys' path
pub part_reaches : (p at : List Part) (n : ℕ) (keys : List (List ℕ)) → IsPart p [] at n keys
    → Reaches p (at ++ map key keys)
part_reaches p at n [] h = absurd h
part_reaches p at zero (k ∷ ks) h = (
  map key ks,
  ap (strip p) (sym (append_assoc at (key k ∷ []) (map key ks)) ∙ ap (λ l. l ++ map key ks) h)
      ∙ strip-append p (map key ks),
)
part_reaches p at (suc n) (k ∷ ks) h =
    subst (λ (x : List Part). Reaches p x) (append_assoc at (key k ∷ []) (map key ks))
    (part_reaches p (at ++ key k ∷ []) n ks h)

-- ---- what a keyval says, with its keys replaced

pub keyed_renamed : (p b at : List Part) (keys keys' : List (List ℕ)) (ms : List Mention)
    → AreRenamed p b [] at keys keys' → Reaches p (at ++ map key keys)
    → map (moved (moved_path p b)) (map (below at) (keyed_mentions keys ms))
    ≡ map (below (moved_path p b at)) (keyed_mentions keys' ms)
keyed_renamed p b at [] [] ms h u = moved_under p b at ms (subst (λ (x : List Part). Reaches p x) (append-nil at) u)
keyed_renamed p b at [] (k' ∷ ks') ms h u = absurd h
keyed_renamed p b at (k ∷ ks) [] ms h u = absurd h
keyed_renamed p b at (k ∷ []) (k' ∷ l' ∷ ks') ms h u = absurd h.1
keyed_renamed p b at (k ∷ l ∷ ks) (k' ∷ []) ms h u = absurd h.1
keyed_renamed p b at (k ∷ []) (k' ∷ []) ms h u =
    let f : List Part → List Part = moved_path p b in
    ap (map (moved f)) (map_twice at (key k ∷ []) ms)
    ∙ moved_under p b (at ++ key k ∷ []) ms u
    ∙ ap (λ (x : List Part). map (below x) ms) h.0
    ∙ sym (map_twice (f at) (key k' ∷ []) ms)
keyed_renamed p b at (k ∷ l ∷ ks) (k' ∷ l' ∷ ks') ms h u =
    let f : List Part → List Part = moved_path p b in
    let q : List Part = at ++ key k ∷ [] in
    let inner : List Mention = keyed_mentions (l ∷ ks) ms in
    let inner' : List Mention = keyed_mentions (l' ∷ ks') ms in
    let v : Reaches p (q ++ map key (l ∷ ks)) =
    subst (λ (x : List Part). Reaches p x) (sym (append_assoc at (key k ∷ []) (map key (l ∷ ks)))) u in
    let rest : map (moved f) (map (below at) (map (below (key k ∷ [])) inner))
    ≡ map (below (f at)) (map (below (key k' ∷ [])) inner') =
    ap (map (moved f)) (map_twice at (key k ∷ []) inner)
    ∙ keyed_renamed p b q (l ∷ ks) (l' ∷ ks') ms h.1 v
    ∙ ap (λ (x : List Part). map (below x) inner') h.0
    ∙ sym (map_twice (f at) (key k' ∷ []) inner') in
    ap (λ (x : List Part).
    record { path = x; kind = dotted } ∷ map (moved f) (map (below at) (map (below (key k ∷ [])) inner))) h.0
    ∙ ap (λ (l : List Mention). record { path = f at ++ key k' ∷ []; kind = dotted } ∷ l) rest

-- ---- the number is found

headed : (tables : List (List Part)) (at : List Part) (k l : List ℕ) (xs : List (List (List ℕ)))
    → map (header_path tables at) (map (λ prefix. k ∷ prefix) (map (λ prefix. l ∷ prefix) xs))
    ≡ map (header_path tables (entered_path tables (at ++ key k ∷ []))) (map (λ prefix. l ∷ prefix) xs)
headed tables at k l [] = refl
headed tables at k l (x ∷ xs) =
    ap (λ (r : List (List Part)). header_path tables (entered_path tables (at ++ key k ∷ [])) (l ∷ x) ∷ r)
    (headed tables at k l xs)

pub prefixes_entered : (tables : List (List Part)) (at : List Part) (k : List ℕ) (ks : List (List ℕ))
    → map (header_path tables at) (map (λ prefix. k ∷ prefix) (key_prefixes ks))
    ≡ map (header_path tables (entered_path tables (at ++ key k ∷ []))) (key_prefixes ks)
prefixes_entered tables at k [] = refl
prefixes_entered tables at k (l ∷ ks) =
    ap (λ (r : List (List Part)). header_path tables (entered_path tables (at ++ key k ∷ [])) (l ∷ []) ∷ r)
    (headed tables at k l (key_prefixes ks))

header_part : (p : List Part) (tables : List (List Part)) (at d : List Part) (n : ℕ) (keys : List (List ℕ))
    → n < length (map (header_path tables at) (key_prefixes keys))
    → get_or (map (header_path tables at) (key_prefixes keys)) n d ≡ p → IsPart p tables at n keys
header_part p tables at d n [] lt e = absurd (omega arith)
header_part p tables at d zero (k ∷ ks) lt e = e
header_part p tables at d (suc n) (k ∷ ks) lt e =
    let w = prefixes_entered tables at k ks in
    header_part p tables (entered_path tables (at ++ key k ∷ [])) d n ks (omega (arith, ap length w))
    (ap (λ (x : List (List Part)). get_or x n d) (sym w) ∙ e)

pub header_position : (p : List Part) (tables : List (List Part)) (n : ℕ) (keys : List (List ℕ))
    → position (same_path p) (map (header_path tables []) (key_prefixes keys)) ≡ Some n → IsPart p tables [] n keys
header_position p tables n keys e =
    let (lt, here, first) = position-Some (same_path p) (map (header_path tables []) (key_prefixes keys)) n [] e in
    header_part p tables [] [] n keys lt
    (sym (same_path-sound p (get_or (map (header_path tables []) (key_prefixes keys)) n []) here))

pub prefixes_beyond : (at : List Part) (k : List ℕ) (xs : List (List (List ℕ)))
    → map (λ prefix. at ++ map key prefix) (map (λ prefix. k ∷ prefix) xs)
    ≡ map (λ prefix. (at ++ key k ∷ []) ++ map key prefix) xs
prefixes_beyond at k [] = refl
prefixes_beyond at k (x ∷ xs) =
    ap (λ (q : List Part). q ∷ map (λ prefix. at ++ map key prefix) (map (λ prefix. k ∷ prefix) xs))
    (sym (append_assoc at (key k ∷ []) (map key x)))
    ∙ ap (λ (r : List (List Part)). ((at ++ key k ∷ []) ++ map key x) ∷ r) (prefixes_beyond at k xs)

keyval_part : (p at d : List Part) (n : ℕ) (keys : List (List ℕ))
    → n < length (map (λ prefix. at ++ map key prefix) (key_prefixes keys))
    → get_or (map (λ prefix. at ++ map key prefix) (key_prefixes keys)) n d ≡ p → IsPart p [] at n keys
keyval_part p at d n [] lt e = absurd (omega arith)
keyval_part p at d zero (k ∷ ks) lt e = e
keyval_part p at d (suc n) (k ∷ ks) lt e =
    let w = prefixes_beyond at k (key_prefixes ks) in
    keyval_part p (at ++ key k ∷ []) d n ks (omega (arith, ap length w))
    (ap (λ (x : List (List Part)). get_or x n d) (sym w) ∙ e)

pub keyval_position : (p at : List Part) (n : ℕ) (keys : List (List ℕ))
    → position (same_path p) (map (λ prefix. at ++ map key prefix) (key_prefixes keys)) ≡ Some n → IsPart p [] at n keys
keyval_position p at n keys e =
    let (lt, here, first) =
    position-Some (same_path p) (map (λ prefix. at ++ map key prefix) (key_prefixes keys)) n [] e in
    keyval_part p at [] n keys lt (sym
    (same_path-sound p (get_or (map (λ prefix. at ++ map key prefix) (key_prefixes keys)) n []) here))
