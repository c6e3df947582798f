-- A change that is searched for in the lines for a path stays after a rename made its own elsewhere.
--
-- The change is searched for by a function that does the same with a line that is read as before for that path, and
-- whose change of the line with the key stays. Then the search has the same change, at the moved place: by induction
-- over the lines, which are read as before for the path (RenamedReads). It is the change of the line with the key
-- (`here_stays`), or the two searches part at a line (`later_line_stays`).
--
-- Theorem: `renamed_stays`.
use Rattle.std.proofs.Common.{◌≡◌, ℕ, List, [], ◌∷◌, ◌++◌, refl, sym, ap, subst, ◌∙◌, Option, Some, None, inl, inr}
use Rattle.keep_syntax.specs.Tree.{Line, Ended, Document, bom_leaves, ended_leaves, text_of}
use Rattle.keep_path.specs.Path.{Part}
use Rattle.keep_meaning.specs.Marks.{Reading, start}
use Rattle.keep_meaning.specs.Meaning.{after_line}
use Rattle.keep_edit_spec.specs.Changed.{Changed, framed_change, within}
use Rattle.keep_edit_spec.specs.Lines.{Page, in_document, in_lines, line_text, with_page}
use Rattle.keep_edit_spec.proofs.Common.Texts.{EachIs}
use Rattle.keep_edit_spec.proofs.Lists.RenamedReads.{Agrees, IsHere, IsLineRead, IsRenamedPage, PageRead, line_alone}
use Rattle.keep_edit_spec.proofs.Lists.RenamedReads.{lines_same, page_after, page_right, page_with}
use Rattle.keep_edit_spec.proofs.Lists.SetPlaces.{Stays, first_stays, framed_stays, later_stays, past_line, stays_as}

module _ (t : List ℕ) (path other : List Part) (f : Reading → Line → Option (Changed Line))
    (cuts : (r : Reading) (l : Line) → EachIs line_text l (f r l))
    (line_same : (r r' : Reading) (l : Line) → Agrees other r.body r'.body → f r' l ≡ f r l)
    (line_second : (r r' : Reading) (l : Line) (x : Changed Line) → IsLineRead t path other r r' l x
    → Stays x (f r l) (f r' x.to)) where
  abbrev second : Reading → Page → Option (Changed Page)
  second r b = in_lines f r b.ended b.last

  module _ (e : Ended) where
    found : (r : Reading) (b : Page) (l : Line) (d : Changed Line) → f r l ≡ Some d
        → second r (page_with e b l) ≡ within (page_with e b) [] (page_right e b) (Some d)
    found r b l d h = rw h refl

    passed : (r : Reading) (b : Page) (l : Line) → f r l ≡ None
        → second r (page_with e b l)
        ≡ within (λ (y : Page). page_with e y l) (line_text l ++ e.newline.text) [] (second (after_line r l) b)
    passed r b l h =
        rw h (ap (λ (w : List ℕ). within (λ (y : Page). page_with e y l) w [] (second (after_line r l) b))
        (past_line l e.newline))

    -- the key is in this line
    here_stays : (r r' : Reading) (b : Page) (c : Changed Page) → IsHere t path other r r' e b c
        → Stays c (second r (page_with e b e.line)) (second r' c.to)
    here_stays r r' b c h =
        subst (λ (z : Changed Page). Stays z (second r (page_with e b e.line)) (second r' z.to)) (sym h.is)
        (by (f r e.line) refl (line_second r r' e.line h.change h.read))
      where
        x : Changed Line
        x = h.change

        right : List ℕ
        right = page_right e b

        further : Option (Changed Page)
        further = second (after_line r e.line) b

        by : (o : Option (Changed Line)) → f r e.line ≡ o → Stays x o (f r' x.to)
            → Stays (framed_change (page_with e b) [] right x) (second r (page_with e b e.line))
            (second r' (page_with e b x.to))
        by None g k =
            stays_as (framed_change (page_with e b) [] right x)
            (within (λ (y : Page). page_with e y e.line) (line_text e.line ++ e.newline.text) [] further)
            (within (λ (y : Page). page_with e y x.to) (line_text x.to ++ e.newline.text) [] further)
            (second r (page_with e b e.line)) (second r' (page_with e b x.to)) (passed r b e.line g)
            (passed r' b x.to k
            ∙ ap (within (λ (y : Page). page_with e y x.to) (line_text x.to ++ e.newline.text) [])
            (lines_same other f line_same (after_line r e.line) (after_line r' x.to) b.ended b.last h.more))
            (first_stays line_text e.line (page_with e b) [] right e.newline.text x
            (λ (y : Page). page_with e y e.line) (λ (y : Page). page_with e y x.to) further h.cut)
        by (Some d) g k =
            stays_as (framed_change (page_with e b) [] right x) (within (page_with e b) [] right (Some d))
            (within (page_with e b) [] right (f r' x.to))
            (second r (page_with e b e.line)) (second r' (page_with e b x.to)) (found r b e.line d g)
            (found r' b x.to k.next k.is ∙ sym (ap (within (page_with e b) [] right) k.is))
            (framed_stays (page_with e b) [] right x (Some d) (f r' x.to) k)

    -- it is in a later line
    later_line_stays : (r r' : Reading) (b : Page) (y : Changed Page) → Agrees other r.body r'.body
        → Stays y (second (after_line r e.line) b) (second (after_line r' e.line) y.to)
        → Stays (framed_change (page_after e) (text_of (ended_leaves e)) [] y) (second r (page_after e b))
        (second r' (page_after e y.to))
    later_line_stays r r' b y agrees h = by (f r e.line) refl
      where
        left : List ℕ
        left = text_of (ended_leaves e)

        by : (o : Option (Changed Line)) → f r e.line ≡ o
            → Stays (framed_change (page_after e) left [] y) (second r (page_after e b))
            (second r' (page_after e y.to))
        by None g =
            let g' : f r' e.line ≡ None = line_same r r' e.line agrees ∙ g in
            stays_as (framed_change (page_after e) left [] y)
            (within (page_after e) left [] (second (after_line r e.line) b))
            (within (page_after e) left [] (second (after_line r' e.line) y.to))
            (second r (page_after e b)) (second r' (page_after e y.to)) (rw g refl) (rw g' refl)
            (framed_stays (page_after e) left [] y (second (after_line r e.line) b)
            (second (after_line r' e.line) y.to) h)
        by (Some d) g =
            let g' : f r' e.line ≡ Some d = line_same r r' e.line agrees ∙ g in
            stays_as (framed_change (page_after e) left [] y) (within (page_with e b) [] (page_right e b) (Some d))
            (within (page_with e y.to) [] (page_right e y.to) (Some d))
            (second r (page_after e b)) (second r' (page_after e y.to)) (found r b e.line d g)
            (found r' y.to e.line d g')
            (subst (λ (w : List ℕ). Stays (framed_change (page_after e) w [] y)
            (within (page_with e b) [] (page_right e b) (Some d))
            (within (page_with e y.to) [] (page_right e y.to) (Some d))) (sym (past_line e.line e.newline))
            (later_stays line_text e.line (page_with e b) (page_with e y.to) [] (page_right e b) (page_right e y.to)
            e.newline.text (Some d) (page_after e) y (subst (EachIs line_text e.line) g (cuts r e.line))))

  page_stays : (r r' : Reading) (es : List Ended) (last : Line) (c : Changed Page)
      → PageRead t path other r r' es last c → Stays c (in_lines f r es last) (second r' c.to)
  page_stays r r' [] last c h =
      subst (λ (z : Changed Page). Stays z (in_lines f r [] last) (second r' z.to)) (sym h.is)
      (framed_stays line_alone [] [] h.change (f r last) (f r' h.change.to)
      (line_second r r' last h.change h.read))
  page_stays r r' (e ∷ es) last c (inl h) = here_stays e r r' (record { ended = es; last = last }) c h
  page_stays r r' (e ∷ es) last c (inr (y, is, agrees, h)) =
      subst (λ (z : Changed Page). Stays z (in_lines f r (e ∷ es) last) (second r' z.to)) (sym is)
      (later_line_stays e r r' (record { ended = es; last = last }) y agrees
      (page_stays (after_line r e.line) (after_line r' e.line) es last y h))

  pub renamed_stays : (s : Document) (x : Changed Document) → IsRenamedPage t path other s x
      → Stays x (in_document s (in_lines f start s.ended s.last))
      (in_document x.to (in_lines f start x.to.ended x.to.last))
  renamed_stays s x h =
      subst (λ (z : Changed Document). Stays z (in_document s (in_lines f start s.ended s.last))
      (in_document z.to (in_lines f start z.to.ended z.to.last))) (sym h.is)
      (framed_stays (with_page s) (text_of (bom_leaves s.bom)) [] h.page (in_lines f start s.ended s.last)
      (second start h.page.to) (page_stays start start s.ended s.last h.page h.read))
