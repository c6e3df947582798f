-- A remove that takes a line takes the same one after a rename made its own change elsewhere.
--
-- One line is changed by the rename, and each is read as before for the other path (RenamedReads). So the other path
-- has its own line at the same number (`last_page`), and no line of it has a comment (`none_page`). So the remove takes
-- its line at the moved place (StaysBeside).
--
-- Theorems: `hidden_own`, `clear_same`, `line_alike`, `last_page`: whose line each is, and its comment;
-- `remove_after_rename`.
use Rattle.std.proofs.Common.{◌≡◌, ℕ, Bool, false, List, [], ◌∷◌, ◌++◌, map, refl, sym, ap, ap₂, subst, ◌∙◌, Option}
use Rattle.std.proofs.Common.{Some, None, inl, inr}
use Rattle.keep_syntax.specs.Tree.{Name, Value, Content, blank, keyval, header, element, Line, Ended, Document}
use Rattle.keep_syntax.specs.Tree.{comment_leaves, ended_leaves, name_leaves, text_of}
use Rattle.keep_path.specs.Path.{Part}
use Rattle.keep_meaning.specs.Marks.{Reading, marks, start}
use Rattle.keep_meaning.specs.Meaning.{after_line, line_of, lines, mentions_in, step}
use Rattle.keep_meaning.specs.Rules.{ObeysRules}
use Rattle.keep_edit_spec.specs.Changed.{Changed, or_else, within}
use Rattle.keep_edit_spec.specs.Edits.{changed_or_same, clear_line, edited_document, is_own, key_part, rename}
use Rattle.keep_edit_spec.specs.Laws.{IsLawfulEdit}
use Rattle.keep_edit_spec.specs.Lines.{Page, in_content, in_line, in_lines, last_line, with_page}
use Rattle.keep_edit_spec.specs.Look.{strip}
use Rattle.keep_edit_spec.proofs.Lists.TwoKinds.{RemoveAfterRename}
use Rattle.keep_edit_spec.specs.RemovedLines.{RemovesLine}
use Rattle.keep_edit_spec.specs.TextChanges.{moved}
use Rattle.keep_edit_spec.specs.Values.{in_value, renaming}
use Rattle.keep_edit_spec.proofs.EditLaws.{rename_lawful}
use Rattle.keep_edit_spec.proofs.Common.DoneAtValue.{EachOf}
use Rattle.keep_edit_spec.proofs.Common.SetDocument.{page_lines}
use Rattle.keep_edit_spec.proofs.Common.SetLaw.{EachTo, to_within}
use Rattle.keep_edit_spec.proofs.Lists.LineStarts.{LinesBegin, rename_lines_begin}
use Rattle.keep_edit_spec.proofs.Lists.LinesReplaced.{IsAlike, clear_alike, cleared_by}
use Rattle.keep_edit_spec.proofs.Lists.RemovedOwn.{last_or, none_parts, within_none}
use Rattle.keep_edit_spec.proofs.Lists.RemovedPlaces.{mine}
use Rattle.keep_edit_spec.proofs.Lists.RenamePlaces.{change_at, placed}
use Rattle.keep_edit_spec.proofs.Lists.RenamedReads.{Agrees, AreRead, IsHidden, IsLineRead, IsRenamedPage, PageRead}
use Rattle.keep_edit_spec.proofs.Lists.RenamedReads.{agrees_path, by_key, in_braces, line_alone, lines_same, none_path}
use Rattle.keep_edit_spec.proofs.Lists.RenamedReads.{page_after, page_right, page_with, renamed_page}
use Rattle.keep_edit_spec.proofs.Lists.StaysBeside.{removes_beside}

-- ---- whose line it is, and its comment

own_same : (other : List Part) (r r' : Reading) (c : Content) → Agrees other r.body r'.body
    → is_own other r' c ≡ is_own other r c
own_same other r r' blank h = refl
own_same other r r' (keyval name value) h = agrees_path other r.body r'.body (step 0 (Some name)) h
own_same other r r' (header before k after) h = refl
own_same other r r' (element before k after) h = refl

pub hidden_own : (other : List Part) (r : Reading) (c : Content) → IsHidden other r.body c → is_own other r c ≡ false
hidden_own other r blank h = refl
hidden_own other r (keyval name value) h = none_path (r.body ++ step 0 (Some name)) other h
hidden_own other r (header before k after) h = refl
hidden_own other r (element before k after) h = refl

pub clear_same : (other : List Part) (r r' : Reading) (l : Line) → Agrees other r.body r'.body
    → clear_line other r' l ≡ clear_line other r l
clear_same other r r' l h = ap (cleared_by l l.comment) (own_same other r r' l.content h)

module _ (t : List ℕ) (path other : List Part) where
  -- a value in which a key is renamed keeps its own key
  value_alike : (r : Reading) (l : Line)
      → EachTo (IsAlike other r r l) (in_line (renaming (key_part t)) path r l)
  value_alike r l =
      to_within (λ y. is_own other r y ≡ is_own other r l.content) (IsAlike other r r l) (λ c. record l { content = c })
      (text_of l.before) (text_of l.after ++ text_of (comment_leaves l.comment))
      (in_content (renaming (key_part t)) r.body path l.content) (λ y k. record { own = k; comment = refl })
      (of_content l.content)
    where
      of_value : (name : Name) (value : Value) (o : Option (Changed Value))
          → EachTo (λ y. is_own other r y ≡ is_own other r (keyval name value))
          (within (keyval name) (text_of (name_leaves name)) [] o)
      of_value name value None = tt
      of_value name value (Some c) = refl

      by : (name : Name) (value : Value) (o : Option (List Part))
          → EachTo {A = Content} (λ y. is_own other r y ≡ is_own other r (keyval name value)) (elim o [
            | None ↦ None
            | Some more ↦ within (keyval name) (text_of (name_leaves name)) []
                (in_value (renaming (key_part t)) more value)
          ])
      by name value None = tt
      by name value (Some more) = of_value name value (in_value (renaming (key_part t)) more value)

      of_content : (c : Content)
          → EachTo (λ y. is_own other r y ≡ is_own other r c) (in_content (renaming (key_part t)) r.body path c)
      of_content blank = tt
      of_content (header before k after) = tt
      of_content (element before k after) = tt
      of_content (keyval name value) = by name value (strip (r.body ++ step 0 (Some name)) path)

  pub line_alike : (r r' : Reading) (l : Line) (x : Changed Line) → IsLineRead t path other r r' l x
      → IsAlike other r r' l x.to
  line_alike r r' l x (by_key h) = record {
    own = hidden_own other r' x.to.content h.now ∙ sym (hidden_own other r l.content h.was);
    comment = h.comment;
  }
  line_alike r r' l x (in_braces same is) =
      subst (λ (q : Reading). IsAlike other r q l x.to) (sym same)
      (subst (EachTo (IsAlike other r r l)) is (value_alike r l))

  -- ---- the lines of a page

  -- no line is changed, since neither this one is nor those after it
  none_more : (f : Reading → Line → Option (Changed Line)) (r : Reading) (e : Ended) (b : Page) → f r e.line ≡ None
      → in_lines f (after_line r e.line) b.ended b.last ≡ None → in_lines f r (e ∷ b.ended) b.last ≡ None
  none_more f r e b h g =
      ap₂ (λ (x : Option (Changed Line)) (y : Option (Changed Page)).
      or_else (within (page_with e b) [] (page_right e b) x) (within (page_after e) (text_of (ended_leaves e)) [] y))
      h g

  none_page : (r r' : Reading) (es : List Ended) (last : Line) (c : Changed Page) → PageRead t path other r r' es last c
      → in_lines (clear_line other) r es last ≡ None → in_lines (clear_line other) r' c.to.ended c.to.last ≡ None
  none_page r r' [] last c h e =
      ap (λ (z : Changed Page). in_lines (clear_line other) r' z.to.ended z.to.last) h.is
      ∙ ap (within line_alone [] []) (clear_alike other r r' last h.change.to (line_alike r r' last h.change h.read)
      (within_none line_alone [] [] (clear_line other r last) e))
  none_page r r' (e ∷ es) last c (inl h) k =
      let p = none_parts (clear_line other) last r e es k in
      let x : Changed Line = h.change in
      ap (λ (z : Changed Page). in_lines (clear_line other) r' z.to.ended z.to.last) h.is
      ∙ none_more (clear_line other) r' (record { line = x.to; newline = e.newline })
      (record { ended = es; last = last })
      (clear_alike other r r' e.line x.to (line_alike r r' e.line x h.read) p.here)
      (lines_same other (clear_line other) (clear_same other) (after_line r e.line) (after_line r' x.to) es last h.more
      ∙ p.later)
  none_page r r' (e ∷ es) last c (inr (y, is, agrees, h)) k =
      let p = none_parts (clear_line other) last r e es k in
      ap (λ (z : Changed Page). in_lines (clear_line other) r' z.to.ended z.to.last) is
      ∙ none_more (clear_line other) r' e y.to (clear_same other r r' e.line agrees ∙ p.here)
      (none_page (after_line r e.line) (after_line r' e.line) es last y h p.later)

  last_same : (r r' : Reading) (ls : List Line) → AreRead other r r' ls
      → last_line (mine other) r' ls ≡ last_line (mine other) r ls
  last_same r r' [] h = refl
  last_same r r' (l ∷ ls) h =
      ap₂ last_or (own_same other r r' l.content h.0) (last_same (after_line r l) (after_line r' l) ls h.1)

  pub last_page : (r r' : Reading) (es : List Ended) (last : Line) (c : Changed Page)
      → PageRead t path other r r' es last c
      → last_line (mine other) r' (page_lines c.to) ≡ last_line (mine other) r (map line_of es ++ last ∷ [])
  last_page r r' [] last c h =
      ap (λ (z : Changed Page). last_line (mine other) r' (page_lines z.to)) h.is
      ∙ ap (λ (b : Bool). last_or b None) (line_alike r r' last h.change h.read).own
  last_page r r' (e ∷ es) last c (inl h) =
      let x : Changed Line = h.change in
      ap (λ (z : Changed Page). last_line (mine other) r' (page_lines z.to)) h.is
      ∙ ap₂ last_or (line_alike r r' e.line x h.read).own
      (last_same (after_line r e.line) (after_line r' x.to) (map line_of es ++ last ∷ []) h.more)
  last_page r r' (e ∷ es) last c (inr (y, is, agrees, h)) =
      ap (λ (z : Changed Page). last_line (mine other) r' (page_lines z.to)) is
      ∙ ap₂ last_or (own_same other r r' e.line.content agrees)
      (last_page (after_line r e.line) (after_line r' e.line) es last y h)

pub remove_after_rename : RemoveAfterRename
remove_after_rename profile limit s path name c other d fine h k apart fresh side =
    let law : IsLawfulEdit profile limit s (rename path name) =
    rename_lawful profile limit s path name fine h.utf8 h.allowed in
    let x : Changed Document = law.changed in
    let to : x.to ≡ edited_document s (rename path name) =
    ap (λ (o : Option (Changed Document)). (changed_or_same s o).to) (sym law.is) in
    let whole : IsRenamedPage name path other s x =
    renamed_page profile limit s path name other x fine h.utf8 h.allowed apart.0 fresh.0 law.is in
    let page : x.to ≡ with_page s whole.page.to = ap (λ (y : Changed Document). y.to) whole.is in
    subst (λ (t : Document). RemovesLine profile limit t other (moved c d)) to
    (removes_beside profile limit s x c (subst (EachOf (LinesBegin s)) law.is (rename_lines_begin s path name))
    (change_at c x (placed s (rename path name) x c law.is h.is)) h.some other d k side
    (subst (λ (t : Document). ObeysRules (marks (mentions_in t))) (sym to) law.obeys)
    (ap (λ (t : Document). in_lines (clear_line other) start t.ended t.last) page
    ∙ none_page name path other start start s.ended s.last whole.page whole.read k.bare)
    (ap (λ (t : Document). last_line (mine other) start (lines t)) page
    ∙ last_page name path other start start s.ended s.last whole.page whole.read))
