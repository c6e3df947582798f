-- The prefix of a header's way, up to a path that the header goes through.
--
-- A header goes through a path only where no elements are counted, so its next key continues from the path itself
-- (`passes_here`). By induction over the keys, the path is that of a header with fewer keys, and the mentions on the
-- whole header's way begin with those of the shorter one (`through_prefix`). The whole header's path is longer
-- (`path_longer`). One more `[[..]]` line with a longer path changes none of the counts that a way depends on
-- (`elements_same`), so the path and the mentions on the way stay as they are (`way_stays`). The keys in the path are
-- those of the header (`path_keys`), and each mention on the way is of a kind that may be repeated (`way_again`).
--
-- Theorems: `through_prefix`: the path is that of a header with fewer keys; `way_stays`: one more `[[..]]` line, with a
-- longer path, changes nothing of the way.
use Rattle.std.proofs.Common.{◌≡◌, ℕ, ◌-◌, Bool, true, false, cond, List, [], ◌∷◌, ◌++◌, length, refl, sym, ap, ◌∙◌}
use Rattle.std.proofs.Common.{append_assoc, length-append, arith, inl, inr}
use Rattle.std.specs.Prelude.{◌==◌}
use Rattle.std.proofs.lemmas.List.{append-nil}
use Rattle.std.proofs.lemmas.List.Elements.{filter_map-append}
use Rattle.std.proofs.lemmas.List.Sums.{sum_by-append}
use Rattle.keep_path.specs.Path.{Part, key, index, same_path}
use Rattle.keep_meaning.specs.Marks.{through, past, passed, Mention, header_path, header_prefixes, passing_mentions}
use Rattle.keep_meaning.specs.Marks.{entered_path, elements_of}
use Rattle.keep_meaning.specs.Nodes.{is_through}
use Rattle.keep_edit_spec.specs.Look.{keys_in, key_text}
use Rattle.keep_edit_spec.proofs.Common.Runs.{AllOf, SomeOf, all_join, same_path-sound}
use Rattle.keep_edit_spec.proofs.Common.Doubles.{IsMentioned, repeatable}
use Rattle.keep_edit_spec.proofs.Common.ValueThere.{some_cases}

-- ---- a header's path is longer than where it begins

pub record IsLonger (at path : List Part) : Type 0 where
  pub part : Part
  pub more : List Part
  pub is : path ≡ at ++ part ∷ more

longer_by : (at rest path : List Part) (k : List ℕ) (b : Bool) (n : ℕ)
    → IsLonger (cond b (at ++ key k ∷ []) ((at ++ key k ∷ []) ++ index n ∷ [])) path → IsLonger at path
longer_by at rest path k true n h =
    record { part = key k; more = h.part ∷ h.more; is = h.is ∙ append_assoc at (key k ∷ []) (h.part ∷ h.more) }
longer_by at rest path k false n h =
    record {
      part = key k;
      more = index n ∷ h.part ∷ h.more;
      is = h.is ∙ append_assoc (at ++ key k ∷ []) (index n ∷ []) (h.part ∷ h.more)
          ∙ append_assoc at (key k ∷ []) (index n ∷ h.part ∷ h.more);
    }

pub path_longer : (tables : List (List Part)) (at : List Part) (k : List ℕ) (ks : List (List ℕ))
    → IsLonger at (header_path tables at (k ∷ ks))
path_longer tables at k [] = record { part = key k; more = []; is = refl }
path_longer tables at k (l ∷ ks) =
    let q : List Part = at ++ key k ∷ [] in
    longer_by at [] (header_path tables (entered_path tables q) (l ∷ ks)) k (0 == elements_of q tables)
    (elements_of q tables - 1) (path_longer tables (entered_path tables q) l ks)

-- ---- the prefix

pub record LeadsThrough (tables : List (List Part)) (at : List Part) (keys : List (List ℕ)) (a : List Part) : Type
    0 where
  pub first : List ℕ
  pub prefix : List (List ℕ)
  pub path : a ≡ header_path tables at (first ∷ prefix)
  pub others : List Mention
  pub prefixes : header_prefixes tables at keys ≡ header_prefixes tables at (first ∷ prefix) ++ others
  pub longer : IsLonger a (header_path tables at keys)

passes_here : (tables : List (List Part)) (q a : List Part) (n : ℕ) (b : Bool)
    → SomeOf (IsMentioned is_through a)
    (cond b (record { path = q; kind = through } ∷ [])
    (record { path = q; kind = past } ∷ record { path = cond b q (q ++ index n ∷ []); kind = passed } ∷ []))
    → (q ≡ a) × (b ≡ true)
passes_here tables q a n true (inl h) = (h.0, refl)
passes_here tables q a n true (inr h) = absurd h
passes_here tables q a n false (inl h) = let no : is_through past ≡ true = h.1 in absurd cc
passes_here tables q a n false (inr (inl h)) = let no : is_through passed ≡ true = h.1 in absurd cc
passes_here tables q a n false (inr (inr h)) = absurd h

pub through_prefix : (tables : List (List Part)) (at : List Part) (keys : List (List ℕ)) (a : List Part)
    → SomeOf (IsMentioned is_through a) (header_prefixes tables at keys) → LeadsThrough tables at keys a
through_prefix tables at [] a h = absurd h
through_prefix tables at (k ∷ []) a h = absurd h
through_prefix tables at (k ∷ l ∷ ks) a h =
    let q : List Part = at ++ key k ∷ [] in
    elim (some_cases (IsMentioned is_through a) (passing_mentions tables q)
    (header_prefixes tables (entered_path tables q) (l ∷ ks)) h) [
      | inl p ↦
          (let (same, none) = passes_here tables q a (elements_of q tables - 1) (0 == elements_of q tables) p in
          let stays : entered_path tables q ≡ a =
          ap (λ (b : Bool). cond b q (q ++ index (elements_of q tables - 1) ∷ [])) none ∙ same in
          let g = path_longer tables (entered_path tables q) l ks in
          record {
            first = k;
            prefix = [];
            path = sym same;
            others = header_prefixes tables at (k ∷ l ∷ ks);
            prefixes = refl;
            longer =
                record { part = g.part; more = g.more; is = g.is ∙ ap (λ (x : List Part). x ++ g.part ∷ g.more) stays };
          })
      | inr r ↦
          (let g = through_prefix tables (entered_path tables q) (l ∷ ks) a r in
          record {
            first = k;
            prefix = g.first ∷ g.prefix;
            path = g.path;
            others = g.others;
            prefixes =
                ap (λ (x : List Mention). passing_mentions tables q ++ x) g.prefixes
                ∙ sym (append_assoc (passing_mentions tables q)
                (header_prefixes tables (entered_path tables q) (g.first ∷ g.prefix)) g.others);
            longer = g.longer;
          })
    ]

-- ---- an element that begins further down changes nothing of it

not_same : (p q : List Part) (z : Part) (zs : List Part) (b : Bool) → p ≡ q ++ z ∷ zs → same_path p q ≡ b → b ≡ false
not_same p q z zs false e h = refl
not_same p q z zs true e h =
    let k : p ≡ q = same_path-sound p q h in
    let n : length p ≡ length (q ++ z ∷ zs) = ap length e in
    let m : length p ≡ length q = ap length k in absurd (omega (arith, n, m, length-append q (z ∷ zs)))

elements_same : (tables : List (List Part)) (p q : List Part) (z : Part) (zs : List Part) → p ≡ q ++ z ∷ zs
    → elements_of q (tables ++ p ∷ []) ≡ elements_of q tables
elements_same tables p q z zs e =
    let none : same_path p q ≡ false = not_same p q z zs (same_path p q) e refl in
    let one : cond {A = ℕ} (same_path p q) 1 0 ≡ 0 = ap (λ (b : Bool). cond {A = ℕ} b 1 0) none in
    omega (arith, one, sum_by-append (λ t. cond (same_path t q) 1 0) tables (p ∷ []))

abbrev entered_by : List Part → ℕ → List Part
entered_by q n = cond (0 == n) q (q ++ index (n - 1) ∷ [])

abbrev passing_by : List Part → ℕ → List Mention
passing_by q n =
    cond (0 == n) (record { path = q; kind = through } ∷ [])
    (record { path = q; kind = past } ∷ record { path = entered_by q n; kind = passed } ∷ [])

entered_longer : (q path : List Part) (n : ℕ) (b : Bool) → IsLonger (cond b q (q ++ index n ∷ [])) path
    → IsLonger q path
entered_longer q path n true h = h
entered_longer q path n false h =
    record { part = index n; more = h.part ∷ h.more; is = h.is ∙ append_assoc q (index n ∷ []) (h.part ∷ h.more) }

pub way_stays : (tables : List (List Part)) (p at : List Part) (k : List ℕ) (ks : List (List ℕ))
    → IsLonger (header_path tables at (k ∷ ks)) p
    → (header_path (tables ++ p ∷ []) at (k ∷ ks) ≡ header_path tables at (k ∷ ks))
    × (header_prefixes (tables ++ p ∷ []) at (k ∷ ks) ≡ header_prefixes tables at (k ∷ ks))
way_stays tables p at k [] h = (refl, refl)
way_stays tables p at k (l ∷ ks) h =
    let q : List Part = at ++ key k ∷ [] in
    let more : List (List Part) = tables ++ p ∷ [] in
    let g = path_longer tables (entered_path tables q) l ks in
    let further : IsLonger (entered_path tables q) p = record {
      part = g.part;
      more = g.more ++ h.part ∷ h.more;
      is = h.is ∙ ap (λ (x : List Part). x ++ h.part ∷ h.more) g.is
          ∙ append_assoc (entered_path tables q) (g.part ∷ g.more) (h.part ∷ h.more);
    } in
    let far : IsLonger q p = entered_longer q p (elements_of q tables - 1) (0 == elements_of q tables) further in
    let few : elements_of q more ≡ elements_of q tables = elements_same tables p q far.part far.more far.is in
    let entered : entered_path more q ≡ entered_path tables q = ap (entered_by q) few in
    let passing : passing_mentions more q ≡ passing_mentions tables q = ap (passing_by q) few in
    let (path, prefixes) = way_stays tables p (entered_path tables q) l ks h in (
      ap (λ (x : List Part). header_path more x (l ∷ ks)) entered ∙ path,
      ap (λ (x : List Mention). x ++ header_prefixes more (entered_path more q) (l ∷ ks)) passing
          ∙ ap (λ (x : List Part). passing_mentions tables q ++ header_prefixes more x (l ∷ ks)) entered
          ∙ ap (λ (x : List Mention). passing_mentions tables q ++ x) prefixes,
    )

-- ---- the keys of a header's path are the header's

entered_keys : (q : List Part) (n : ℕ) (b : Bool) → keys_in (cond b q (q ++ index n ∷ [])) ≡ keys_in q ++ []
entered_keys q n true = sym (append-nil (keys_in q))
entered_keys q n false = filter_map-append key_text q (index n ∷ [])

pub path_keys : (tables : List (List Part)) (at : List Part) (k : List ℕ) (ks : List (List ℕ))
    → keys_in (header_path tables at (k ∷ ks)) ≡ keys_in at ++ k ∷ ks
path_keys tables at k [] = filter_map-append key_text at (key k ∷ [])
path_keys tables at k (l ∷ ks) =
    let q : List Part = at ++ key k ∷ [] in
    path_keys tables (entered_path tables q) l ks
    ∙ ap (λ (x : List (List ℕ)). x ++ l ∷ ks)
    (entered_keys q (elements_of q tables - 1) (0 == elements_of q tables)
    ∙ ap (λ (x : List (List ℕ)). x ++ []) (filter_map-append key_text at (key k ∷ [])))
    ∙ append_assoc (keys_in at ++ k ∷ []) [] (l ∷ ks) ∙ append_assoc (keys_in at) (k ∷ []) (l ∷ ks)

-- ---- a way may be said again

again_passing : (q : List Part) (n : ℕ) (b : Bool)
    → AllOf (λ (m : Mention). repeatable m.kind ≡ true)
    (cond b (record { path = q; kind = through } ∷ [])
    (record { path = q; kind = past } ∷ record { path = cond b q (q ++ index n ∷ []); kind = passed } ∷ []))
again_passing q n true = (refl, tt)
again_passing q n false = (refl, (refl, tt))

pub way_again : (tables : List (List Part)) (at : List Part) (keys : List (List ℕ))
    → AllOf (λ (m : Mention). repeatable m.kind ≡ true) (header_prefixes tables at keys)
way_again tables at [] = tt
way_again tables at (k ∷ []) = tt
way_again tables at (k ∷ l ∷ ks) =
    let q : List Part = at ++ key k ∷ [] in
    all_join (λ (m : Mention). repeatable m.kind ≡ true) (passing_mentions tables q)
    (header_prefixes tables (entered_path tables q) (l ∷ ks))
    (again_passing q (elements_of q tables - 1) (0 == elements_of q tables))
    (way_again tables (entered_path tables q) (l ∷ ks))
