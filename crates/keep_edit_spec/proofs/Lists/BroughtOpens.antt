-- An insert into a table whose header another insert brought adds its line directly behind what came.
--
-- No line began the table's body before, so the new header is the last that does (`begun`, `last_now`). Its body is the
-- new keyval: what comes behind was behind the body of the last header that goes through the table, and there no keyval
-- comes before the next header (BroughtFound). So the body ends behind the three new lines (`ends_now`), where what
-- came ends (`place_now`).
--
-- The first new key is another, so the insert is not refused, and the table is its holder still (BroughtAllowed).
--
-- Theorem: `opens_table`.
use Rattle.std.proofs.Common.{◌≡◌, ◌≢◌, ℕ, suc, ◌+◌, ◌≤◌, Bool, false, List, [], ◌∷◌, ◌++◌, length, map, take, drop}
use Rattle.std.proofs.Common.{refl, sym, ap, ap₂, ◌∙◌, arith, Option, None, Some, inl, inr}
use Rattle.std.proofs.lemmas.Bool.{le-ltb}
use Rattle.keep_types.specs.declared.leaf.Profile.{Profile}
use Rattle.keep_syntax.specs.Tree.{Document, Line, Value, keyval}
use Rattle.keep_path.specs.Path.{Part, key, same_path}
use Rattle.keep_meaning.specs.Marks.{Reading, start}
use Rattle.keep_meaning.specs.Meaning.{lines, mentions_in, reading_after_lines}
use Rattle.keep_edit_spec.specs.AddedLines.{AddsLine, first_new}
use Rattle.keep_edit_spec.specs.BroughtHeaders.{BringsHeader, OpensTable}
use Rattle.keep_edit_spec.specs.Edits.{edited_document, end_of, insert, name_with, place}
use Rattle.keep_edit_spec.specs.Insertion.{keyed_text, put_in}
use Rattle.keep_edit_spec.specs.Laws.{IsEditable}
use Rattle.keep_edit_spec.specs.Lines.{begins, body_length, last_line, newline_of}
use Rattle.keep_edit_spec.specs.Look.{holder}
use Rattle.keep_edit_spec.specs.TextChanges.{TextChange, change_at, moved_by}
use Rattle.keep_edit_spec.proofs.Common.Runs.{same_path-refl}
use Rattle.keep_edit_spec.proofs.Insert.InsertSection.{no_body}
use Rattle.keep_edit_spec.proofs.Insert.LineBefore.{new_line_text}
use Rattle.keep_edit_spec.proofs.Lists.BodyEnds.{end_at}
use Rattle.keep_edit_spec.proofs.Lists.BroughtAllowed.{brought_keys, holder_stays, refusal_stays}
use Rattle.keep_edit_spec.proofs.Lists.BroughtBodies as bodies
use Rattle.keep_edit_spec.proofs.Lists.BroughtBodies.{are, behind_same, were}
use Rattle.keep_edit_spec.proofs.Lists.BroughtFound.{none_left}
use Rattle.keep_edit_spec.proofs.Lists.BroughtLines as brought
use Rattle.keep_edit_spec.proofs.Lists.BroughtLines.{at_is, last, length_now, long, place_after, reading_is}
use Rattle.keep_edit_spec.proofs.Lists.BroughtWay.{path_is}
use Rattle.keep_edit_spec.proofs.Lists.HeaderLines.{last_before}
use Rattle.keep_edit_spec.proofs.Lists.HeaderOpens.{end_below}
use Rattle.keep_edit_spec.proofs.Lists.LinesAfterBody.{bodiless_begins, drop_behind, last_behind}
use Rattle.keep_edit_spec.proofs.Lists.NewPaths.{InsertsKeys}
use Rattle.keep_edit_spec.proofs.Lists.Places.{changes, item_none}
use Rattle.keep_edit_spec.proofs.Lists.RemovedOwn.{last_or}

module _ (profile : Profile) (limit : ℕ) (s : Document) (path : List Part) (value : Value) (c : TextChange)
    (fine : IsEditable profile limit s) (h : BringsHeader profile limit s path value c) where
  abbrev now : Document
  now = edited_document s (insert path value)

  abbrev a : List Part
  a = holder path (mentions_in s)

  -- ---- the lines

  -- the number of the first new line
  abbrev n : ℕ
  n = brought.n profile limit s path value c h

  abbrev rest : List Line
  rest = brought.rest profile limit s path value c h

  abbrev first : List Line
  first = brought.first profile limit s path value c h

  abbrev new : List Line
  new = bodies.new profile limit s path value c fine h

  abbrev r : Reading
  r = brought.r profile limit s path value c h

  abbrev there : Reading
  there = reading_after_lines start first

  -- ---- where the table's body ends

  -- the second new line, the header, begins it
  begun : last_line (begins a) there new ≡ Some 1
  begun =
      ap (λ (x : Reading). last_line (begins a) x new) (reading_is profile limit s path value c h)
      ∙ ap (λ (p : List Part). last_or false (last_or (same_path p a) None))
      (path_is profile limit s path value c fine h)
      ∙ ap (λ (b : Bool). last_or false (last_or b None)) (same_path-refl a)

  none_behind : last_line (begins a) there rest ≡ None
  none_behind = by (last_line (begins a) there rest) refl
    where
      none : last_line (begins a) start (first ++ rest) ≡ None
      none =
          ap (last_line (begins a) start) (sym (were profile limit s path value c fine h)) ∙ (no_body s a h.bare).1

      by : (o : Option ℕ) → last_line (begins a) there rest ≡ o → o ≡ None
      by None e = refl
      by (Some k) e =
          let no : None ≡ Some (length first + k) = sym none ∙ last_behind (begins a) start first rest k e in absurd cc

  last_now : last_line (begins a) start (lines now) ≡ Some (length first + 1)
  last_now =
      ap (last_line (begins a) start) (are profile limit s path value c fine h)
      ∙ last_behind (begins a) start first (new ++ rest) 1
      (last_before (begins a) there new rest
      (behind_same profile limit s path value c fine h (begins a) (bodiless_begins a) ∙ none_behind)
      ∙ begun)

  -- its body is the keyval
  body_now : body_length (drop (suc (length first + 1)) (lines now)) ≡ 1
  body_now =
      let next : suc (length first + 1) ≡ length first + 2 = omega arith in
      ap body_length
      (ap₂ (λ (i : ℕ) (ls : List Line). drop i ls) next (are profile limit s path value c fine h)
      ∙ drop_behind first (new ++ rest) 2)
      ∙ ap suc (none_left (last profile limit s path value c h).post)

  ends_now : end_of now a ≡ Some (3 + n)
  ends_now =
      end_below now a (no_body s a h.bare).0 ∙ ap (end_at (lines now)) last_now
      ∙ ap (λ (i : ℕ). Some i) (omega (arith, body_now, long profile limit s path value c h))

  -- ---- another insert into the table

  module _ (other : List Part) (more : Value) (d : TextChange) (k : BringsHeader profile limit s other more d)
      (same : a ≡ holder other (mentions_in s)) (differs : first_new s path ≢ first_new s other) where
    abbrev its : InsertsKeys profile limit s other more
    its = brought_keys profile limit s other more d k

    abbrev b : List Part
    b = holder other (mentions_in s)

    holds : holder other (mentions_in now) ≡ b
    holds = holder_stays profile limit s path value c fine h other more its differs

    new_there : other ≡ holder other (mentions_in now) ++ map key (k.text ∷ k.more)
    new_there = k.new ∙ ap (λ (q : List Part). q ++ map key (k.text ∷ k.more)) (sym holds)

    ends_there : end_of now (holder other (mentions_in now)) ≡ Some (3 + n)
    ends_there = ap (end_of now) (holds ∙ sym same) ∙ ends_now

    closed : 3 + n ≤ length now.ended
    closed = omega (arith, h.closed, length_now profile limit s path value c h)

    abbrev line : List ℕ
    line = keyed_text (k.text ∷ k.more) more ++ (newline_of s).text

    -- at the byte where the new lines begin, moved past them
    past : moved_by c c.at ≡ c.at + length c.new
    past = rw (le-ltb c.at c.at (omega arith)) (omega (arith, h.adds))

    place_now : place now (insert other more) ≡ put_in (c.at + length c.new) line
    place_now =
        place_after profile limit s path value c h fine n (3 + n) h.closed (inr (refl, omega arith))
        (change_at c.at 0 line) (insert other more) (keyval (name_with (k.text ∷ k.more)) more ∷ [])
        (sym (new_line_text (newline_of s) k.text k.more more)) (at_is profile limit s path value c h)
        (changes now other more k.text k.more (3 + n)
        (item_none other b k.text k.more k.new (mentions_in now)) new_there ends_there closed)
        ∙ ap (λ (i : ℕ). put_in i line) past

    opens : AddsLine profile limit now other more (change_at (c.at + length c.new) 0 line)
        × (first_new now other ≡ first_new s other)
    opens = (
      record {
        utf8 = k.utf8;
        given = k.given;
        allowed = refusal_stays profile limit s path value c fine h other more its differs;
        text = k.text;
        more = k.more;
        new = new_there;
        number = 3 + n;
        ends = ends_there;
        closed = closed;
        newline = inl (omega arith);
        adds = refl;
        is = place_now;
      },
      ap (λ (q : List Part). take (suc (length q)) other) holds,
    )

pub opens_table : OpensTable
opens_table profile limit s path value c other more d fine h k same differs =
    opens profile limit s path value c fine h other more d k same differs
