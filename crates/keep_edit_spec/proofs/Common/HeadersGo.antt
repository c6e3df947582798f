-- Lines that are read twice, in a document and in another: each header's path goes where a function of paths takes it.
--
-- Which lines begin the body of a path depends on the headers' paths alone. So if the function keeps different paths
-- different, the same lines begin the body where the path goes (`begins_goes`), and the last of them is the same
-- (`last_goes`). The body in which the reading is before the first header does not count (`goes_bodies`).
--
-- Theorems: `begins_goes`, `last_goes`; `goes_left`, `goes_right`, `goes_bodies`, `goes_still`.
use Rattle.std.proofs.Common.{◌≡◌, ℕ, zero, suc, Bool, true, false, cond, ◌&&◌, List, [], ◌∷◌, ◌++◌, refl, sym, ap, ap₂}
use Rattle.std.proofs.Common.{◌∙◌, Option, Some, None}
use Rattle.std.specs.Prelude.{⊤}
use Rattle.keep_syntax.specs.Tree.{Written, Gap, Content, blank, keyval, header, element, Line}
use Rattle.keep_path.specs.Path.{Part, same_path}
use Rattle.keep_meaning.specs.Marks.{Reading}
use Rattle.keep_meaning.specs.Meaning.{after_line, reading_after_lines}
use Rattle.keep_edit_spec.specs.Lines.{begins, is_header, last_line}
use Rattle.keep_edit_spec.proofs.Common.Moves.{IsInjectiveOn}
use Rattle.keep_edit_spec.proofs.Common.Runs.{same_path-sound, same_path-refl}

-- a header's path is one of those that stay apart, and goes there
abbrev pub HeaderGoes : (List Part → Type 0) → (List Part → List Part) → Reading → Reading → Line → Type 0
HeaderGoes D f r u l =
    is_header l.content ≡ true → D (after_line r l).body × ((after_line u l).body ≡ f (after_line r l).body)

abbrev pub with_body : List Part → Reading → Reading
with_body b r = record { tables = r.tables; body = b }

abbrev pub Goes : (List Part → Type 0) → (List Part → List Part) → Reading → Reading → List Line → Type 0
Goes D f r u [] = ⊤
Goes D f r u (l ∷ ls) = HeaderGoes D f r u l × Goes D f (after_line r l) (after_line u l) ls

abbrev pub last_or : Bool → Option ℕ → Option ℕ
last_or b o = elim o [ Some n ↦ Some (suc n) | None ↦ cond b (Some zero) None ]

module _ (D : List Part → Type 0) (f : List Part → List Part) (inj : IsInjectiveOn D f) where
  pub same_goes : (a b : List Part) → D a → D b → same_path (f a) (f b) ≡ same_path a b
  same_goes a b da db = by (same_path a b) (same_path (f a) (f b)) refl refl
    where
      by : (u v : Bool) → same_path a b ≡ u → same_path (f a) (f b) ≡ v → same_path (f a) (f b) ≡ same_path a b
      by true true h g = g ∙ sym h
      by false false h g = g ∙ sym h
      by true false h g =
          let z : same_path (f a) (f b) ≡ true =
          ap (λ (q : List Part). same_path (f a) (f q)) (sym (same_path-sound a b h)) ∙ same_path-refl (f a) in
          absurd cc
      by false true h g =
          let z : same_path a b ≡ true =
          ap (same_path a) (sym (inj a b da db (same_path-sound (f a) (f b) g))) ∙ same_path-refl a in
          absurd cc

  pub begins_goes : (r u : Reading) (l : Line) → HeaderGoes D f r u l → (q : List Part) → D q
      → begins (f q) u l ≡ begins q r l
  begins_goes r u l h q dq = by (is_header l.content) refl
    where
      by : (b : Bool) → is_header l.content ≡ b → begins (f q) u l ≡ begins q r l
      by false e =
          ap (λ (b : Bool). b && same_path (after_line u l).body (f q)) e
          ∙ sym (ap (λ (b : Bool). b && same_path (after_line r l).body q) e)
      by true e =
          let (d, is) = h e in
          ap (λ (b : Bool). is_header l.content && b)
          (ap (λ (p : List Part). same_path p (f q)) is ∙ same_goes (after_line r l).body q d dq)

  pub last_goes : (r u : Reading) (ls : List Line) → Goes D f r u ls → (q : List Part) → D q
      → last_line (begins (f q)) u ls ≡ last_line (begins q) r ls
  last_goes r u [] h q dq = refl
  last_goes r u (l ∷ ls) h q dq =
      ap₂ last_or (begins_goes r u l h.0 q dq) (last_goes (after_line r l) (after_line u l) ls h.1 q dq)

module _ (D : List Part → Type 0) (f : List Part → List Part) where
  pub goes_left : (r u : Reading) (a b : List Line) → Goes D f r u (a ++ b) → Goes D f r u a
  goes_left r u [] b h = tt
  goes_left r u (l ∷ a) b h = (h.0, goes_left (after_line r l) (after_line u l) a b h.1)

  pub goes_right : (r u : Reading) (a b : List Line) → Goes D f r u (a ++ b)
      → Goes D f (reading_after_lines r a) (reading_after_lines u a) b
  goes_right r u [] b h = h
  goes_right r u (l ∷ a) b h = goes_right (after_line r l) (after_line u l) a b h.1

  bodies_by : (r u : Reading) (a b : List Part) (before after : Gap) (comment : Option Written) (c : Content)
      (ls : List Line)
      → ((r u : Reading) → Goes D f r u ls → Goes D f (with_body a r) (with_body b u) ls)
      → (let l : Line = record { before = before; content = c; after = after; comment = comment } in
      Goes D f r u (l ∷ ls) → Goes D f (with_body a r) (with_body b u) (l ∷ ls))
  bodies_by r u a b before after comment blank ls more h = ((λ e. absurd cc), more r u h.1)
  bodies_by r u a b before after comment (keyval name v) ls more h = ((λ e. absurd cc), more r u h.1)
  bodies_by r u a b before after comment (header x k y) ls more h = h
  bodies_by r u a b before after comment (element x k y) ls more h = h

  pub goes_bodies : (a b : List Part) (r u : Reading) (ls : List Line) → Goes D f r u ls
      → Goes D f (with_body a r) (with_body b u) ls
  goes_bodies a b r u [] h = tt
  goes_bodies a b r u (l ∷ ls) h =
      bodies_by r u a b l.before l.after l.comment l.content ls (λ r u h. goes_bodies a b r u ls h) h

-- where no path changes
pub goes_still : (r : Reading) (ls : List Line) → Goes (λ q. ⊤) (λ q. q) r r ls
goes_still r [] = tt
goes_still r (l ∷ ls) = ((λ e. (tt, refl)), goes_still (after_line r l) ls)
