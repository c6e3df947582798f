-- The paths of the key parts of headers that are read twice, in a document and in another: each goes where a function
-- of paths takes it.
--
-- So at a path that the function leaves there are as many elements of an array once the lines are read, if there were
-- before them (`elements_go`), and a header's key part that leads there has the same number (`position_goes`). Both
-- ask that the function keeps different paths different.
--
-- Theorems: `elements_go`, `position_goes`; `parts_bodies`, `parts_still`.
use Rattle.std.proofs.Common.{◌≡◌, ℕ, Bool, true, cond, ◌+◌, List, [], ◌∷◌, ◌++◌, map, refl, sym, ap, ap₂, subst}
use Rattle.std.proofs.Common.{◌∙◌, Option, Some, None, not}
use Rattle.std.specs.List.{position_or_len}
use Rattle.std.specs.Prelude.{⊤, nat_lt, position}
use Rattle.std.proofs.lemmas.List.{length-map}
use Rattle.std.proofs.lemmas.Simd.{map-map}
use Rattle.keep_syntax.specs.Tree.{Written, Gap, Content, blank, keyval, header, element, Line}
use Rattle.keep_path.specs.Path.{Part, same_path}
use Rattle.keep_meaning.specs.Marks.{Reading, elements_of, header_path}
use Rattle.keep_meaning.specs.Meaning.{after_line, key_value, further_value, reading_after_lines}
use Rattle.keep_edit_spec.specs.Lines.{is_header, key_prefixes, part_paths}
use Rattle.keep_edit_spec.proofs.Common.HeadersGo.{same_goes, with_body}
use Rattle.keep_edit_spec.proofs.Common.Moves.{IsInjectiveOn}
use Rattle.keep_edit_spec.proofs.Common.Runs.{AllOf}
use Rattle.keep_edit_spec.proofs.Remove.ShiftPrefixes.{elements_more}

abbrev pub HeaderParts : (List Part → Type 0) → (List Part → List Part) → Reading → Reading → Line → Type 0
HeaderParts D f r u l =
    is_header l.content ≡ true
    → AllOf D (part_paths r l.content) × (part_paths u l.content ≡ map f (part_paths r l.content))

abbrev pub PartsGo : (List Part → Type 0) → (List Part → List Part) → Reading → Reading → List Line → Type 0
PartsGo D f r u [] = ⊤
PartsGo D f r u (l ∷ ls) = HeaderParts D f r u l × PartsGo D f (after_line r l) (after_line u l) ls

module _ (D : List Part → Type 0) (f : List Part → List Part) where
  bodies_by : (r u : Reading) (a b : List Part) (before after : Gap) (comment : Option Written) (c : Content)
      (ls : List Line)
      → ((r u : Reading) → PartsGo D f r u ls → PartsGo D f (with_body a r) (with_body b u) ls)
      → (let l : Line = record { before = before; content = c; after = after; comment = comment } in
      PartsGo D f r u (l ∷ ls) → PartsGo D f (with_body a r) (with_body b u) (l ∷ ls))
  bodies_by r u a b before after comment blank ls more h = ((λ e. absurd cc), more r u h.1)
  bodies_by r u a b before after comment (keyval name v) ls more h = ((λ e. absurd cc), more r u h.1)
  bodies_by r u a b before after comment (header x k y) ls more h = h
  bodies_by r u a b before after comment (element x k y) ls more h = h

  -- the body in which the reading is before them does not count
  pub parts_bodies : (a b : List Part) (r u : Reading) (ls : List Line) → PartsGo D f r u ls
      → PartsGo D f (with_body a r) (with_body b u) ls
  parts_bodies a b r u [] h = tt
  parts_bodies a b r u (l ∷ ls) h =
      bodies_by r u a b l.before l.after l.comment l.content ls (λ r u h. parts_bodies a b r u ls h) h

-- ---- the elements of an array

module _ (D : List Part → Type 0) (f : List Part → List Part) where
  -- the last of the key parts leads to the header's path
  whole_goes : (g h : List (List ℕ) → List Part) (k : List ℕ) (ks : List (List ℕ))
      → AllOf D (map g (key_prefixes (k ∷ ks)))
      → map h (key_prefixes (k ∷ ks)) ≡ map f (map g (key_prefixes (k ∷ ks)))
      → D (g (k ∷ ks)) × (h (k ∷ ks) ≡ f (g (k ∷ ks)))
  whole_goes g h k [] all is = (all.0, cc)
  whole_goes g h k (l ∷ ks) all is =
      let ps : List (List (List ℕ)) = key_prefixes (l ∷ ks) in
      let was : map g (map (λ prefix. k ∷ prefix) ps) ≡ map (λ prefix. g (k ∷ prefix)) ps =
      map-map g (λ prefix. k ∷ prefix) ps in
      let rest : map h (map (λ prefix. k ∷ prefix) ps) ≡ map f (map g (map (λ prefix. k ∷ prefix) ps)) = cc in
      whole_goes (λ prefix. g (k ∷ prefix)) (λ prefix. h (k ∷ prefix)) l ks (subst (AllOf D) was all.1)
      (sym (map-map h (λ prefix. k ∷ prefix) ps) ∙ rest ∙ ap (map f) was)

module _ (D : List Part → Type 0) (f : List Part → List Part) (inj : IsInjectiveOn D f) (q : List Part) (there : D q)
    (still : f q ≡ q) where
  same_test : (p : List Part) → D p → same_path (f p) q ≡ same_path p q
  same_test p dp = ap (same_path (f p)) (sym still) ∙ same_goes D f inj p q dp there

  one_more : (ts us : List (List Part)) (k : List ℕ) (ks : List (List ℕ))
      → AllOf D (map (header_path ts []) (key_prefixes (k ∷ ks)))
      → map (header_path us []) (key_prefixes (k ∷ ks)) ≡ map f (map (header_path ts []) (key_prefixes (k ∷ ks)))
      → elements_of q us ≡ elements_of q ts
      → elements_of q (us ++ header_path us [] (k ∷ ks) ∷ []) ≡ elements_of q (ts ++ header_path ts [] (k ∷ ks) ∷ [])
  one_more ts us k ks all is same =
      let (dp, goes) = whole_goes D f (header_path ts []) (header_path us []) k ks all is in
      elements_more q (header_path us [] (k ∷ ks)) us
      ∙ ap₂ (λ (n : ℕ) (b : Bool). n + cond b 1 0) same
      (ap (λ (p : List Part). same_path p q) goes ∙ same_test (header_path ts [] (k ∷ ks)) dp)
      ∙ sym (elements_more q (header_path ts [] (k ∷ ks)) ts)

  elements_by : (r u : Reading) (before after : Gap) (comment : Option Written) (c : Content)
      → (let l : Line = record { before = before; content = c; after = after; comment = comment } in
      HeaderParts D f r u l → elements_of q u.tables ≡ elements_of q r.tables
      → elements_of q (after_line u l).tables ≡ elements_of q (after_line r l).tables)
  elements_by r u before after comment blank h same = same
  elements_by r u before after comment (keyval name v) h same = same
  elements_by r u before after comment (header x k y) h same = same
  elements_by r u before after comment (element x k y) h same =
      let (all, is) = h refl in
      one_more r.tables u.tables (key_value k.first) (map further_value k.more) all is same

  pub elements_go : (r u : Reading) (ls : List Line) → PartsGo D f r u ls
      → elements_of q u.tables ≡ elements_of q r.tables
      → elements_of q (reading_after_lines u ls).tables ≡ elements_of q (reading_after_lines r ls).tables
  elements_go r u [] h same = same
  elements_go r u (l ∷ ls) h same =
      elements_go (after_line r l) (after_line u l) ls h.1
      (elements_by r u l.before l.after l.comment l.content h.0 same)

  -- ---- the number of a key part

  test_goes : (p : List Part) → D p → same_path q (f p) ≡ same_path q p
  test_goes p dp = ap (λ (a : List Part). same_path a (f p)) (sym still) ∙ same_goes D f inj q p there dp

  place_goes : (ps : List (List Part)) → AllOf D ps
      → position_or_len (same_path q) (map f ps) ≡ position_or_len (same_path q) ps
  place_goes [] all = refl
  place_goes (p ∷ ps) all =
      ap₂ (λ (b : Bool) (n : ℕ). cond (not b) (1 + n) 0) (test_goes p all.0) (place_goes ps all.1)

  pub position_goes : (ps : List (List Part)) → AllOf D ps
      → position (same_path q) (map f ps) ≡ position (same_path q) ps
  position_goes ps all =
      ap₂ (λ (k n : ℕ). cond (nat_lt k n) (Some k) None) (place_goes ps all) (length-map ps f)

-- ---- where no path changes

all_there : (ps : List (List Part)) → AllOf (λ (q : List Part). ⊤) ps × (ps ≡ map (λ q. q) ps)
all_there [] = (tt, refl)
all_there (p ∷ ps) = let (all, same) = all_there ps in ((tt, all), ap (λ (qs : List (List Part)). p ∷ qs) same)

pub parts_still : (r : Reading) (ls : List Line) → PartsGo (λ q. ⊤) (λ q. q) r r ls
parts_still r [] = tt
parts_still r (l ∷ ls) = ((λ e. all_there (part_paths r l.content)), parts_still (after_line r l) ls)
