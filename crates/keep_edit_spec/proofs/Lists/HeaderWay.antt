-- What a header says is of its own path and of beginnings of it, and each of its key parts leads to one of these.
--
-- A path on a header's way is a beginning of the path that the rest of the way leads to (`key_reaches`, by induction
-- over the keys). So of a path that is no beginning of the header's a header says nothing (`silent_beside`), and none
-- of its key parts leads there (`unnamed`).
--
-- Theorems: `on_way`; `silent_beside`, `unnamed`.
use Rattle.std.proofs.Common.{◌≡◌, ℕ, ◌-◌, Bool, true, false, cond, List, [], ◌∷◌, ◌++◌, map, refl, subst, Option, Some}
use Rattle.std.proofs.Common.{None}
use Rattle.std.specs.Prelude.{◌==◌, position}
use Rattle.keep_path.specs.Path.{Part, index, key, same_path, strip}
use Rattle.keep_meaning.specs.Marks.{Mention, MentionKind, define, elements_of, entered_path, header_path}
use Rattle.keep_meaning.specs.Marks.{header_prefixes, passed, passing_mentions, past, through}
use Rattle.keep_meaning.specs.Nodes.{is_at, kinds_at}
use Rattle.keep_edit_spec.specs.Lines.{key_prefixes}
use Rattle.keep_edit_spec.proofs.Common.LineLaws.{Reaches, header_all}
use Rattle.keep_edit_spec.proofs.Common.Runs.{AllOf, all_join, meet, same_path-sound, strip-append, strip_shorter}
use Rattle.keep_edit_spec.proofs.Common.SetLaw.{IsSolidAt}
use Rattle.keep_edit_spec.proofs.Remove.Shift.{not_reached}
use Rattle.keep_edit_spec.proofs.Rename.RenamedParts.{header_position, part_solid, strip_self}

-- It is of that path or of a beginning of it.
abbrev pub IsOnWay : List Part → Mention → Type 0
IsOnWay p m = Reaches m.path p

-- ---- all that a header says

-- so is a path, if it is with one step more
before_entered : (q p : List Part) (x : Part) (b : Bool) → Reaches (cond b q (q ++ x ∷ [])) p → Reaches q p
before_entered q p x true u = u
before_entered q p x false u = (x ∷ u.0, strip_shorter q (x ∷ []) p u.0 u.1)

passing_on : (tables : List (List Part)) (q p : List Part) → Reaches q p → Reaches (entered_path tables q) p
    → (b : Bool) → AllOf (IsOnWay p) (cond b (record { path = q; kind = through } ∷ [])
    (record { path = q; kind = past } ∷ record { path = entered_path tables q; kind = passed } ∷ []))
passing_on tables q p here entered true = (here, tt)
passing_on tables q p here entered false = (here, (entered, tt))

module _ (tables : List (List Part)) where
  start_reaches : (at : List Part) (keys : List (List ℕ)) → Reaches at (header_path tables at keys)
  start_reaches at [] = ([], strip_self at)
  start_reaches at (k ∷ []) = (key k ∷ [], strip-append at (key k ∷ []))
  start_reaches at (k ∷ l ∷ ks) =
      let q : List Part = at ++ key k ∷ [] in
      let end : List Part = header_path tables (entered_path tables q) (l ∷ ks) in
      let u : Reaches q end =
      before_entered q end (index (elements_of q tables - 1)) (0 == elements_of q tables)
      (start_reaches (entered_path tables q) (l ∷ ks)) in
      before_entered at end (key k) false u

  key_reaches : (q : List Part) (keys : List (List ℕ)) → Reaches q (header_path tables (entered_path tables q) keys)
  key_reaches q keys =
      before_entered q (header_path tables (entered_path tables q) keys) (index (elements_of q tables - 1))
      (0 == elements_of q tables) (start_reaches (entered_path tables q) keys)

  way_on : (at : List Part) (keys : List (List ℕ))
      → AllOf (IsOnWay (header_path tables at keys)) (header_prefixes tables at keys)
  way_on at [] = tt
  way_on at (k ∷ []) = tt
  way_on at (k ∷ l ∷ ks) =
      let q : List Part = at ++ key k ∷ [] in
      let end : List Part = header_path tables (entered_path tables q) (l ∷ ks) in
      all_join (IsOnWay end) (passing_mentions tables q) (header_prefixes tables (entered_path tables q) (l ∷ ks))
      (passing_on tables q end (key_reaches q (l ∷ ks)) (start_reaches (entered_path tables q) (l ∷ ks))
      (0 == elements_of q tables)) (way_on (entered_path tables q) (l ∷ ks))

  pub on_way : (keys : List (List ℕ)) (kind : MentionKind)
      → AllOf (IsOnWay (header_path tables [] keys)) (header_all tables [] keys kind)
  on_way keys kind =
      let p : List Part = header_path tables [] keys in
      all_join (IsOnWay p) (header_prefixes tables [] keys) (record { path = p; kind = kind } ∷ []) (way_on [] keys)
      (([], strip_self p), tt)

-- ---- a path that is no beginning of the header's

not_there : (p q : List Part) (m : Mention) → strip q p ≡ None → IsOnWay p m → m.path ≡ q → ⊥
not_there p q m clear u same = not_reached q p clear (subst (λ (x : List Part). Reaches x p) same u)

pub silent_beside : (p q : List Part) (ms : List Mention) → strip q p ≡ None → AllOf (IsOnWay p) ms
    → kinds_at q ms ≡ []
silent_beside p q [] clear h = refl
silent_beside p q (m ∷ ms) clear h = by (is_at q m) refl (silent_beside p q ms clear h.1)
  where
    by : (b : Bool) → is_at q m ≡ b → kinds_at q ms ≡ [] → kinds_at q (m ∷ ms) ≡ []
    by true e k = absurd (not_there p q m clear h.0 (same_path-sound m.path q e))
    by false e k = rw e k

pub unnamed : (tables : List (List Part)) (keys : List (List ℕ)) (q : List Part)
    → strip q (header_path tables [] keys) ≡ None
    → position (same_path q) (map (header_path tables []) (key_prefixes keys)) ≡ None
unnamed tables keys q clear = by (position (same_path q) (map (header_path tables []) (key_prefixes keys))) refl
  where
    by : (o : Option ℕ) → position (same_path q) (map (header_path tables []) (key_prefixes keys)) ≡ o
        → position (same_path q) (map (header_path tables []) (key_prefixes keys)) ≡ None
    by None e = e
    by (Some n) e =
        let p : List Part = header_path tables [] keys in
        let (m, there, on) =
        meet (IsSolidAt q) (IsOnWay p) (header_all tables [] keys define)
        (part_solid q tables [] n keys define refl (header_position q tables n keys e)) (on_way tables keys define) in
        absurd (not_there p q m clear on there.path)
