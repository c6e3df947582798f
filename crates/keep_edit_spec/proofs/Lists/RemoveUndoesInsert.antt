-- A remove of the line that an insert has just added, at the end of a body or to a table that dotted keys make: it
-- leaves the document as it was before both.
--
-- Nothing was at the path, so none of the lines was its own (`own_was`), and none could be cleared (`bare_was`). The
-- new line has no comment, so none can be now (`bare_now`), and the last own line is the new one (`own_now`). The
-- remove takes that line, and the others are as they were (`same_now`). It is not refused, since a keyval's own line
-- says that there is a value (RemovedOwn).
--
-- Theorem: `remove_undoes_insert`.
use Rattle.std.proofs.Common.{◌≡◌, ℕ, suc, ◌<◌, Bool, true, false, ◌||◌, List, [], ◌∷◌, ◌++◌, length, map, take, drop}
use Rattle.std.proofs.Common.{refl, sym, ap, ap₂, subst, ◌∙◌, append_assoc, length-append, arith, Option, Some, None}
use Rattle.std.specs.List.{list_any}
use Rattle.std.proofs.lemmas.List.{length-map, length-take-le, map-append, take-append-drop}
use Rattle.keep_types.specs.declared.leaf.Profile.{Profile}
use Rattle.keep_syntax.specs.Tree.{Value, Line, Ended, Document}
use Rattle.keep_path.specs.Path.{Part, same_path}
use Rattle.keep_meaning.specs.Marks.{Reading, marks, start}
use Rattle.keep_meaning.specs.Meaning.{after_line, line_of, lines, mentions_in}
use Rattle.keep_meaning.specs.Nodes.{is_at, is_node, is_root}
use Rattle.keep_meaning.specs.Rules.{ObeysRules}
use Rattle.keep_edit_spec.specs.Changed.{Changed, or_else, within}
use Rattle.keep_edit_spec.specs.Edits.{clear_line, edited_document, insert, remove}
use Rattle.keep_edit_spec.specs.Laws.{IsEditable, IsLawfulEdit}
use Rattle.keep_edit_spec.specs.Lines.{Page, in_lines, last_line}
use Rattle.keep_edit_spec.specs.Look.{holder}
use Rattle.keep_edit_spec.specs.Refusals.{refusal}
use Rattle.keep_edit_spec.specs.TextChanges.{TextChange}
use Rattle.keep_edit_spec.specs.UndoneInserts.{IsUndone, RemoveUndoesInsert}
use Rattle.keep_edit_spec.proofs.Common.LineTexts.{clear_line-is}
use Rattle.keep_edit_spec.proofs.Common.Marks.{rules_of_document}
use Rattle.keep_edit_spec.proofs.Common.Runs.{same_path-refl}
use Rattle.keep_edit_spec.proofs.Lists.AddedKeyval as added
use Rattle.keep_edit_spec.proofs.Lists.AddedKeyval.{AddsKeyval, keeps, keyval_of, own_path, past_lines, to_is}
use Rattle.keep_edit_spec.proofs.Lists.ClearStays.{not_cleared}
use Rattle.keep_edit_spec.proofs.Lists.HeaderAfterInsert.{line_lawful}
use Rattle.keep_edit_spec.proofs.Lists.NewHolder.{path_new}
use Rattle.keep_edit_spec.proofs.Lists.NewPaths.{unsaid}
use Rattle.keep_edit_spec.proofs.Lists.OneLineMore.{last_with, or_new}
use Rattle.keep_edit_spec.proofs.Lists.RemovedOwn.{here_in, last_or, later_in, own_allowed, own_node}
use Rattle.keep_edit_spec.proofs.Lists.RemovedPlaces.{IsCutAt, cut, edited_is, lines_here, mine}
use Rattle.keep_edit_spec.proofs.Lists.SetPlaces.{Stays}

-- ---- where no line is the path's own

none_of : (test : Reading → Line → Bool) (r : Reading) (l : Line) (ls : List Line) → last_line test r (l ∷ ls) ≡ None
    → (test r l ≡ false) × (last_line test (after_line r l) ls ≡ None)
none_of test r l ls h = by (last_line test (after_line r l) ls) (test r l) h
  where
    by : (o : Option ℕ) (b : Bool) → last_or b o ≡ None → (b ≡ false) × (o ≡ None)
    by (Some n) b h = absurd cc
    by None true h = absurd cc
    by None false h = (refl, refl)

none_cleared : (path : List Part) (r : Reading) (es : List Ended) (last : Line)
    → last_line (mine path) r (map line_of es ++ last ∷ []) ≡ None → in_lines (clear_line path) r es last ≡ None
none_cleared path r [] last h =
    ap (within (λ l. record { ended = []; last = l }) [] [])
    (not_cleared path r last (none_of (mine path) r last [] h).0)
none_cleared path r (e ∷ es) last h =
    let none = none_of (mine path) r e.line (map line_of es ++ last ∷ []) h in
    ap₂ (λ (a : Option (Changed Line)) (b : Option (Changed Page)).
    or_else (here_in (clear_line path) last r e es a) (later_in (clear_line path) last e b))
    (not_cleared path r e.line none.0) (none_cleared path (after_line r e.line) es last none.1)

-- ---- lines without one

without_here : (first : List Ended) (e : Ended) (more : List Ended)
    → take (length first) (first ++ e ∷ more) ++ drop (suc (length first)) (first ++ e ∷ more) ≡ first ++ more
without_here [] e more = refl
without_here (x ∷ first) e more = ap (λ (es : List Ended). x ∷ es) (without_here first e more)

root_of : (a b : Bool) → (a || b) ≡ false → a ≡ false
root_of true b h = absurd cc
root_of false b h = refl

-- ---- after the insert

module _ (profile : Profile) (limit : ℕ) (s : Document) (path : List Part) (value : Value) (c : TextChange)
    (fine : IsEditable profile limit s) (law : IsLawfulEdit profile limit s (insert path value))
    (h : AddsKeyval profile limit s path value c) where
  abbrev x : Ended
  x = added.x profile limit s path value c h

  abbrev first : List Ended
  first = take h.n s.ended

  abbrev rest : List Ended
  rest = drop h.n s.ended

  abbrev now : Document
  now = record { bom = s.bom; ended = first ++ x ∷ rest; last = s.last }

  first_long : length first ≡ h.n
  first_long = length-take-le h.n s.ended h.few

  cut_was : first ++ rest ≡ s.ended
  cut_was = take-append-drop h.n s.ended

  -- ---- before it

  fresh : is_node path (mentions_in s) ≡ false
  fresh =
      path_new s path (holder path (mentions_in s)) h.inserts.text h.inserts.more h.inserts.new
      (unsaid profile limit s path value h.inserts)

  own_was : last_line (mine path) start (lines s) ≡ None
  own_was = by (last_line (mine path) start (lines s)) refl
    where
      by : (o : Option ℕ) → last_line (mine path) start (lines s) ≡ o → last_line (mine path) start (lines s) ≡ None
      by None e = e
      by (Some n) e =
          let node : is_node path (mentions_in s) ≡ true =
          own_node s path n (rules_of_document s fine.obeys) e in
          let both : true ≡ false = sym node ∙ fresh in
          absurd cc

  bare_was : in_lines (clear_line path) start s.ended s.last ≡ None
  bare_was = none_cleared path start s.ended s.last own_was

  -- ---- the new line

  bare_now : in_lines (clear_line path) start now.ended now.last ≡ None
  bare_now =
      subst (λ (d : Document). in_lines (clear_line path) start d.ended d.last ≡ None)
      (to_is profile limit s path value c h)
      (subst (λ (o : Option (Changed Page)). Stays (added.put_page profile limit s path value c h) o
      (in_lines (clear_line path) start (added.made profile limit s path value c h).to.ended
      (added.made profile limit s path value c h).to.last)) bare_was
      (past_lines profile limit s path value c h (clear_line path) (λ q e. clear_line-is path q e) refl))

  is_mine : mine path (added.r profile limit s path value c h) x.line ≡ true
  is_mine =
      ap (λ (p : List Part). same_path p path) (own_path profile limit s path value c h) ∙ same_path-refl path

  abbrev before : List Line
  before = map line_of first

  abbrev after : List Line
  after = map line_of rest ++ s.last ∷ []

  lines_were : lines s ≡ before ++ after
  lines_were =
      ap (λ (es : List Ended). map line_of es ++ s.last ∷ []) (sym cut_was)
      ∙ ap (λ (ls : List Line). ls ++ s.last ∷ []) (map-append line_of first rest)
      ∙ append_assoc before (map line_of rest) (s.last ∷ [])

  own_now : last_line (mine path) start (lines now) ≡ Some h.n
  own_now =
      ap (last_line (mine path) start) (lines_here first x rest s.last)
      ∙ last_with (mine path) start before x.line after (keeps profile limit s path value c h) is_mine
      ∙ ap (λ (o : Option ℕ). Some (or_new (length before) o))
      (ap (last_line (mine path) start) (sym lines_were) ∙ own_was)
      ∙ ap (λ (n : ℕ). Some n) (length-map first line_of ∙ first_long)

  closed_now : h.n < length now.ended
  closed_now = omega (arith, first_long, length-append first (x ∷ rest))

  -- ---- it is taken

  abbrev gone : IsCutAt h.n now.ended
  gone = cut now path h.n bare_now own_now closed_now

  lines_are : gone.first ++ gone.more ≡ s.ended
  lines_are =
      sym (without_here gone.first gone.here gone.more)
      ∙ ap₂ (λ (n : ℕ) (es : List Ended). take n es ++ drop (suc n) es) (sym gone.number ∙ sym first_long)
      (sym gone.was)
      ∙ without_here first x rest ∙ cut_was

  same_now : edited_document now (remove path) ≡ s
  same_now =
      edited_is now path h.n bare_now own_now closed_now
      ∙ ap (λ (es : List Ended). record { bom = s.bom; ended = es; last = s.last }) lines_are

  allowed_now : refusal profile limit now (remove path) ≡ None
  allowed_now =
      own_allowed profile limit now path h.n
      (rules_of_document now (subst (λ (d : Document). ObeysRules (marks (mentions_in d))) h.puts.is law.obeys))
      own_now (root_of (is_root path) (list_any (is_at path) (mentions_in s)) fresh)

  undone : IsUndone profile limit s path value
  undone = record {
    allowed = subst (λ (d : Document). refusal profile limit d (remove path) ≡ None) (sym h.puts.is) allowed_now;
    same = ap (λ (d : Document). edited_document d (remove path)) h.puts.is ∙ same_now;
  }

pub remove_undoes_insert : RemoveUndoesInsert
remove_undoes_insert profile limit s path value c to fine adds =
    undone profile limit s path value c fine (line_lawful to profile limit s path value c fine adds)
    (keyval_of profile limit s path value c to fine adds)
