-- The keys of a header or a keyval where the one at a path is replaced.
--
-- In a path at or under `p`, `moved_path` puts `b` in the place of `p`. `AreRenamed` says of two lists of keys that
-- each key of the second leads to where `moved_path` puts the path that its key in the first leads to. The full paths
-- of the `[[..]]` lines are changed in the same way, and none is at or under `b` (`AreClear`), nor is a path on the way
-- (`passing_clear`). Such paths stay different if they were (`same_renamed`). So each path has as many elements as
-- before (`elements_renamed`), and a key goes on from the last of them as before (`entered_renamed`,
-- `passing_renamed`). By this `header_renamed` goes on from key to key. Where none of a header's keys leads to `p`
-- itself, they stay as they are (`keys_preserved`).
--
-- Theorems: `header_renamed`: the path of a header then, and what it says on the way; `keys_preserved`: keys that stay.
use Rattle.std.proofs.Common.{◌≡◌, ℕ, ◌-◌, Bool, true, false, cond, List, [], ◌∷◌, ◌++◌, map, refl, sym, ap, subst, ◌∙◌}
use Rattle.std.proofs.Common.{arith, None, inl}
use Rattle.std.specs.Prelude.{⊤, ◌==◌}
use Rattle.std.proofs.lemmas.List.{map-append}
use Rattle.keep_path.specs.Path.{Part, key, index, same_path, moved_path}
use Rattle.keep_meaning.specs.Marks.{through, past, passed, Mention, elements_of, entered_path, passing_mentions}
use Rattle.keep_meaning.specs.Marks.{header_path, header_prefixes}
use Rattle.keep_edit_spec.specs.Look.{strip}
use Rattle.keep_edit_spec.proofs.Common.Runs.{AllOf, SomeOf, all_left, all_right, some_left, some_right, IsDisjoint}
use Rattle.keep_edit_spec.proofs.Common.Runs.{same_path-sound, same_path-refl}
use Rattle.keep_edit_spec.proofs.Common.SetLaw.{IsSolidAt}
use Rattle.keep_edit_spec.proofs.Common.LineLaws.{EndsInKey}
use Rattle.keep_edit_spec.proofs.Common.Moves.{moved}
use Rattle.keep_edit_spec.proofs.Common.DoneAtValue.{count_step}
use Rattle.keep_edit_spec.proofs.Rename.RenamedPath.{renamed_injective, renamed_step, renamed_index}

-- ---- the elements of a table with a new path

same_renamed : (p b t q : List Part) → strip b t ≡ None → strip b q ≡ None → (c d : Bool) → same_path t q ≡ c
    → same_path (moved_path p b t) (moved_path p b q) ≡ d → d ≡ c
same_renamed p b t q ht hq true true e k = refl
same_renamed p b t q ht hq false false e k = refl
same_renamed p b t q ht hq true false e k =
    let x : t ≡ q = same_path-sound t q e in
    let y : same_path (moved_path p b t) (moved_path p b q) ≡ true =
    subst (λ (z : List Part). same_path (moved_path p b t) (moved_path p b z) ≡ true) x
    (same_path-refl (moved_path p b t)) in
    absurd cc
same_renamed p b t q ht hq false true e k =
    let x : t ≡ q = renamed_injective p b t q ht hq (same_path-sound (moved_path p b t) (moved_path p b q) k) in
    let y : same_path t q ≡ true = subst (λ (z : List Part). same_path t z ≡ true) x (same_path-refl t) in
    absurd cc

-- not at or under the path
abbrev pub AreClear : List Part → List (List Part) → Type 0
AreClear b tables = AllOf (λ t. strip b t ≡ None) tables

pub elements_renamed : (p b : List Part) (tables : List (List Part)) (q : List Part) → AreClear b tables
    → strip b q ≡ None → elements_of (moved_path p b q) (map (moved_path p b) tables) ≡ elements_of q tables
elements_renamed p b [] q h hq = refl
elements_renamed p b (t ∷ tables) q h hq =
    let x = count_step (λ u. same_path u (moved_path p b q)) (moved_path p b t) (map (moved_path p b) tables) in
    let y = count_step (λ u. same_path u q) t tables in
    let z = ap {B = ℕ} (λ c. cond c 1 0)
    (same_renamed p b t q h.0 hq (same_path t q) (same_path (moved_path p b t) (moved_path p b q)) refl refl) in
    let w = elements_renamed p b tables q h.1 hq in
    omega (arith, x, y, z, w)

-- ---- keys one by one

-- from a path on, each of the second keys leads to where the path goes to that the first leads to
abbrev pub AreRenamed : List Part → List Part → List (List Part) → List Part → List (List ℕ) → List (List ℕ) → Type 0
AreRenamed p b tables at [] [] = ⊤
AreRenamed p b tables at [] (k' ∷ ks') = ⊥
AreRenamed p b tables at (k ∷ ks) [] = ⊥
AreRenamed p b tables at (k ∷ ks) (k' ∷ ks') =
    (moved_path p b (at ++ key k ∷ []) ≡ moved_path p b at ++ key k' ∷ [])
    × AreRenamed p b tables (entered_path tables (at ++ key k ∷ [])) ks ks'

entered_by : (p b q : List Part) → EndsInKey p → (n : ℕ) (c : Bool)
    → cond c (moved_path p b q) (moved_path p b q ++ index n ∷ []) ≡ moved_path p b (cond c q (q ++ index n ∷ []))
entered_by p b q ends n true = refl
entered_by p b q ends n false = sym (renamed_index p b q n ends)

pub entered_renamed : (p b : List Part) (tables : List (List Part)) (q : List Part) → EndsInKey p → AreClear b tables
    → strip b q ≡ None
    → entered_path (map (moved_path p b) tables) (moved_path p b q) ≡ moved_path p b (entered_path tables q)
entered_renamed p b tables q ends clear hq =
    ap (λ n. cond (0 == n) (moved_path p b q) (moved_path p b q ++ index (n - 1) ∷ []))
    (elements_renamed p b tables q clear hq)
    ∙ entered_by p b q ends (elements_of q tables - 1) (0 == elements_of q tables)

passing_by : (f : List Part → List Part) (q e e' : List Part) → e' ≡ f e → (c : Bool)
    → cond c (record { path = f q; kind = through } ∷ [])
    (record { path = f q; kind = past } ∷ record { path = e'; kind = passed } ∷ [])
    ≡ map (moved f) (cond c (record { path = q; kind = through } ∷ [])
    (record { path = q; kind = past } ∷ record { path = e; kind = passed } ∷ []))
passing_by f q e e' h true = refl
passing_by f q e e' h false =
    ap (λ (x : List Part). record { path = f q; kind = past } ∷ record { path = x; kind = passed } ∷ []) h

passing_renamed : (p b : List Part) (tables : List (List Part)) (q : List Part) → EndsInKey p → AreClear b tables
    → strip b q ≡ None
    → passing_mentions (map (moved_path p b) tables) (moved_path p b q)
    ≡ map (moved (moved_path p b)) (passing_mentions tables q)
passing_renamed p b tables q ends clear hq =
    let f : List Part → List Part = moved_path p b in
    let e' : List Part = entered_path (map f tables) (f q) in
    ap (λ n.
    cond (0 == n) (record { path = f q; kind = through } ∷ [])
    (record { path = f q; kind = past } ∷ record { path = e'; kind = passed } ∷ []))
    (elements_renamed p b tables q clear hq)
    ∙ passing_by f q (entered_path tables q) e' (entered_renamed p b tables q ends clear hq) (0 == elements_of q tables)

passing_clear : (tables : List (List Part)) (b q : List Part) → AllOf (IsDisjoint b) (passing_mentions tables q)
    → strip b q ≡ None
passing_clear tables b q h = by (entered_path tables q) (0 == elements_of q tables) h
  where
    by : (e : List Part) (c : Bool)
        → AllOf (IsDisjoint b) (cond c (record { path = q; kind = through } ∷ [])
        (record { path = q; kind = past } ∷ record { path = e; kind = passed } ∷ [])) → strip b q ≡ None
    by e true h = h.0
    by e false h = h.0

-- ---- a header

pub record IsHeaderRenamed (p b : List Part) (tables : List (List Part)) (at : List Part)
    (keys keys' : List (List ℕ)) : Type 0 where
  pub path : header_path (map (moved_path p b) tables) (moved_path p b at) keys'
      ≡ moved_path p b (header_path tables at keys)
  pub prefixes : header_prefixes (map (moved_path p b) tables) (moved_path p b at) keys'
      ≡ map (moved (moved_path p b)) (header_prefixes tables at keys)

pub header_renamed : (p b : List Part) (tables : List (List Part)) (at : List Part) (keys keys' : List (List ℕ))
    → EndsInKey p → AreClear b tables
    → AllOf (IsDisjoint b) (header_prefixes tables at keys) → AreRenamed p b tables at keys keys'
    → IsHeaderRenamed p b tables at keys keys'
header_renamed p b tables at [] [] ends clear prefixes h = record { path = refl; prefixes = refl }
header_renamed p b tables at [] (k' ∷ ks') ends clear prefixes h = absurd h
header_renamed p b tables at (k ∷ ks) [] ends clear prefixes h = absurd h
header_renamed p b tables at (k ∷ []) (k' ∷ []) ends clear prefixes h = record { path = sym h.0; prefixes = refl }
header_renamed p b tables at (k ∷ []) (k' ∷ l' ∷ ks') ends clear prefixes h = absurd h.1
header_renamed p b tables at (k ∷ l ∷ ks) (k' ∷ []) ends clear prefixes h = absurd h.1
header_renamed p b tables at (k ∷ l ∷ ks) (k' ∷ l' ∷ ks') ends clear prefixes h =
    let f : List Part → List Part = moved_path p b in
    let q : List Part = at ++ key k ∷ [] in
    let first =
    all_left (IsDisjoint b) (passing_mentions tables q) (header_prefixes tables (entered_path tables q) (l ∷ ks))
    prefixes in
    let rest =
    all_right (IsDisjoint b) (passing_mentions tables q) (header_prefixes tables (entered_path tables q) (l ∷ ks))
    prefixes in
    let hq : strip b q ≡ None = passing_clear tables b q first in
    let e : f at ++ key k' ∷ [] ≡ f q = sym h.0 in
    let entered : entered_path (map f tables) (f at ++ key k' ∷ []) ≡ f (entered_path tables q) =
    ap (entered_path (map f tables)) e ∙ entered_renamed p b tables q ends clear hq in
    let ih = header_renamed p b tables (entered_path tables q) (l ∷ ks) (l' ∷ ks') ends clear rest h.1 in
    record {
      path = ap (λ x. header_path (map f tables) x (l' ∷ ks')) entered ∙ ih.path;
      prefixes =
          ap (λ x.
          passing_mentions (map f tables) x
          ++ header_prefixes (map f tables) (entered_path (map f tables) (f at ++ key k' ∷ [])) (l' ∷ ks')) e
          ∙ ap (λ x. passing_mentions (map f tables) (f q) ++ header_prefixes (map f tables) x (l' ∷ ks')) entered
          ∙ ap (λ x. x ++ header_prefixes (map f tables) (f (entered_path tables q)) (l' ∷ ks'))
          (passing_renamed p b tables q ends clear hq)
          ∙ ap (λ x. map (moved f) (passing_mentions tables q) ++ x) ih.prefixes
          ∙ sym (map-append (moved f) (passing_mentions tables q)
          (header_prefixes tables (entered_path tables q) (l ∷ ks)));
    }

pub passing_solid : (tables : List (List Part)) (q : List Part) → SomeOf (IsSolidAt q) (passing_mentions tables q)
passing_solid tables q = by (entered_path tables q) (0 == elements_of q tables)
  where
    by : (e : List Part) (c : Bool)
        → SomeOf (IsSolidAt q) (cond c (record { path = q; kind = through } ∷ [])
        (record { path = q; kind = past } ∷ record { path = e; kind = passed } ∷ []))
    by e true = inl (record { path = refl; kind = refl })
    by e false = inl (record { path = refl; kind = refl })

-- the keys stay where nothing is said of the path itself
pub keys_preserved : (p b : List Part) (tables : List (List Part)) (at : List Part) (keys : List (List ℕ))
    → (SomeOf (IsSolidAt p) (header_prefixes tables at keys) → ⊥) → (header_path tables at keys ≡ p → ⊥)
    → AreRenamed p b tables at keys keys
keys_preserved p b tables at [] never end = tt
keys_preserved p b tables at (k ∷ []) never end = (renamed_step p b at (key k) end, tt)
keys_preserved p b tables at (k ∷ l ∷ ks) never end =
    let q : List Part = at ++ key k ∷ [] in
    let prefixes : List Mention = header_prefixes tables (entered_path tables q) (l ∷ ks) in (
      renamed_step p b at (key k) (λ e.
          never (some_left (IsSolidAt p) (passing_mentions tables q) prefixes
          (subst (λ (x : List Part). SomeOf (IsSolidAt x) (passing_mentions tables q)) e (passing_solid tables q)))),
      keys_preserved p b tables (entered_path tables q) (l ∷ ks)
          (λ s. never (some_right (IsSolidAt p) (passing_mentions tables q) prefixes s)) end,
    )
