-- Lines that are read twice, in a document and in another: what each header says is said at the paths where a function
-- of paths takes its own.
--
-- Of a path that stays the same is said then, if the function keeps different paths different (`mentions_moved`). So
-- the last header that goes through such a path is the same (`last_says`). The body in which the reading is before the
-- first header does not count (`says_bodies`).
--
-- Theorems: `last_says`, `says_bodies`.
use Rattle.std.proofs.Common.{◌≡◌, Bool, true, false, ◌&&◌, List, [], ◌∷◌, map, sym, ap, ap₂, ◌∙◌, Option, refl}
use Rattle.std.specs.List.{list_any}
use Rattle.std.specs.Prelude.{⊤}
use Rattle.keep_syntax.specs.Tree.{Written, Gap, Content, blank, keyval, header, element, Line}
use Rattle.keep_path.specs.Path.{Part}
use Rattle.keep_meaning.specs.Marks.{Mention, Reading}
use Rattle.keep_meaning.specs.Meaning.{after_line, line_mentions}
use Rattle.keep_meaning.specs.Nodes.{has, is_through, kinds_at}
use Rattle.keep_edit_spec.specs.Lines.{is_header, last_line, leads_through}
use Rattle.keep_edit_spec.proofs.Common.HeadersGo.{last_or, with_body}
use Rattle.keep_edit_spec.proofs.Common.Moves.{IsInjectiveOn, mentions_moved, moved}
use Rattle.keep_edit_spec.proofs.Common.Runs.{AllOf}

-- what a header says is said of paths that stay apart, and goes there
abbrev pub HeaderSays : (List Part → Type 0) → (List Part → List Part) → Reading → Reading → Line → Type 0
HeaderSays D f r u l =
    is_header l.content ≡ true
    → (line_mentions u l ≡ map (moved f) (line_mentions r l)) × AllOf (λ (m : Mention). D m.path) (line_mentions r l)

abbrev pub Says : (List Part → Type 0) → (List Part → List Part) → Reading → Reading → List Line → Type 0
Says D f r u [] = ⊤
Says D f r u (l ∷ ls) = HeaderSays D f r u l × Says D f (after_line r l) (after_line u l) ls

module _ (D : List Part → Type 0) (f : List Part → List Part) where
  bodies_by : (r u : Reading) (a b : List Part) (before after : Gap) (comment : Option Written) (c : Content)
      (ls : List Line)
      → ((r u : Reading) → Says D f r u ls → Says D f (with_body a r) (with_body b u) ls)
      → (let l : Line = record { before = before; content = c; after = after; comment = comment } in
      Says D f r u (l ∷ ls) → Says D f (with_body a r) (with_body b u) (l ∷ ls))
  bodies_by r u a b before after comment blank ls more h = ((λ e. absurd cc), more r u h.1)
  bodies_by r u a b before after comment (keyval name v) ls more h = ((λ e. absurd cc), more r u h.1)
  bodies_by r u a b before after comment (header x k y) ls more h = h
  bodies_by r u a b before after comment (element x k y) ls more h = h

  pub says_bodies : (a b : List Part) (r u : Reading) (ls : List Line) → Says D f r u ls
      → Says D f (with_body a r) (with_body b u) ls
  says_bodies a b r u [] h = tt
  says_bodies a b r u (l ∷ ls) h =
      bodies_by r u a b l.before l.after l.comment l.content ls (λ r u h. says_bodies a b r u ls h) h

-- of a path that stays
module _ (D : List Part → Type 0) (f : List Part → List Part) (inj : IsInjectiveOn D f) (q : List Part) (there : D q)
    (same : f q ≡ q) where
  through_says : (r u : Reading) (l : Line) → HeaderSays D f r u l → leads_through q u l ≡ leads_through q r l
  through_says r u l h = by (is_header l.content) refl
    where
      by : (b : Bool) → is_header l.content ≡ b → leads_through q u l ≡ leads_through q r l
      by false e =
          ap (λ (b : Bool). b && has is_through q (line_mentions u l)) e
          ∙ sym (ap (λ (b : Bool). b && has is_through q (line_mentions r l)) e)
      by true e =
          let (is, apart) = h e in
          ap (λ (b : Bool). is_header l.content && b)
          (ap (list_any is_through)
          (ap (kinds_at q) is
          ∙ ap (λ (p : List Part). kinds_at p (map (moved f) (line_mentions r l))) (sym same)
          ∙ mentions_moved D f inj q there (line_mentions r l) apart))

  pub last_says : (r u : Reading) (ls : List Line) → Says D f r u ls
      → last_line (leads_through q) u ls ≡ last_line (leads_through q) r ls
  last_says r u [] h = refl
  last_says r u (l ∷ ls) h =
      ap₂ last_or (through_says r u l h.0) (last_says (after_line r l) (after_line u l) ls h.1)
