-- A line that comes ahead of edits of a list makes the document that the list makes with it before them.
--
-- The edits come behind the line: each comes to its byte and takes nothing there (`comes_there`). So they leave the
-- place of the line where it is, and its edit makes its change there after any of them (`IsAhead`, by induction on
-- them). Right after the others the last of them comes to that very place, and each two kinds have a law of their own
-- (`ahead_of_first`); after one more edit the next comes further on, past the bytes that are written (`writes_bytes`,
-- `no_sooner`), and the edit of the line is as any other (`ahead_of_later`, by StillMakes). With the line before it
-- each comes by as many bytes further on as the line has (`further_on`). So both texts are the same, and a text is
-- that of one document (`same_made`).
--
-- Theorems: `documents_ahead`; `adds_bytes`: new lines have bytes; `text_made`: the text with a change.
use Rattle.std.proofs.Common.{◌≡◌, ◌≢◌, ◌<◌, ◌≤◌, ◌+◌, ℕ, true, false, List, [], ◌∷◌, ◌++◌, All, None, length, refl}
use Rattle.std.proofs.Common.{sym, ap, subst, subst₂, ◌∙◌, arith, inl, inr, length-append, ◌&&◌}
use Rattle.std.specs.Prelude.{Any, ◌==◌}
use Rattle.std.proofs.lemmas.Bool.{and_parts, eq-eqb, eqb-true, le-ltb, lt-ltb}
use Rattle.std.proofs.lemmas.List.Elements.{All-head, All-tail}
use Rattle.keep_types.specs.declared.leaf.Profile.{Profile}
use Rattle.keep_syntax.specs.Tree.{Content, Document, Value, element, header, keyval, text}
use Rattle.keep_syntax.proofs.Shared.{one_document}
use Rattle.keep_path.specs.Path.{Part, without_last}
use Rattle.keep_meaning.specs.Meaning.{mentions_in}
use Rattle.keep_edit_spec.specs.AddedLines.{first_new}
use Rattle.keep_edit_spec.specs.Changed.{Place, put}
use Rattle.keep_edit_spec.specs.Edits.{Edit, append_element, append_table, edited_document, insert, key_with, name_with}
use Rattle.keep_edit_spec.specs.Edits.{remove, rename, set}
use Rattle.keep_edit_spec.specs.InsertKinds.{Added, AddsAs, IsAfterAs, IsAfterLine, IsHeaderAt, added_as, kind_of}
use Rattle.keep_edit_spec.specs.InsertKinds.{table_of}
use Rattle.keep_edit_spec.specs.Insertion.{keyed_text}
use Rattle.keep_edit_spec.specs.Laws.{IsEditable}
use Rattle.keep_edit_spec.specs.Lines.{content_text, new_line, newline_of}
use Rattle.keep_edit_spec.specs.LinesAhead.{StillAddsAheadOfAbove, StillAddsAheadOfElement, StillAddsAheadOfEnd}
use Rattle.keep_edit_spec.specs.LinesAhead.{StillAddsAheadOfTable, comes_before, comes_behind, is_below, table_in}
use Rattle.keep_edit_spec.specs.Look.{holder}
use Rattle.keep_edit_spec.specs.Refusals.{refusal}
use Rattle.keep_edit_spec.specs.RunLists.{AreAtOnce, FollowsHeader, MadeEdit, MakesInPlace, changes_of, document_after}
use Rattle.keep_edit_spec.specs.RunLists.{lines_of, made, seen_of}
use Rattle.keep_edit_spec.specs.Runs.{IsRun, IsSeenStill, IsStillPlaced, LeavesAlone, LetsTable, MakesChange}
use Rattle.keep_edit_spec.specs.Runs.{PassesBy, PassesTable, is_header, is_insert, seen, with_line}
use Rattle.keep_edit_spec.specs.TextChanges.{Follow, IsBeside, TextChange, change_at, moved, moved_by, moved_by_all}
use Rattle.keep_edit_spec.specs.TextChanges.{moved_past, place_of_change, with_change}
use Rattle.keep_edit_spec.specs.TextEnds.{ends_in_newline}
use Rattle.keep_edit_spec.specs.declared.line_kind.LineKind.{LineKind}
use Rattle.keep_edit_spec.specs.declared.line_kind.LineKind.TheVariants.{LastInBody, OfDotted, WithHeader}
use Rattle.keep_edit_spec.proofs.Common.LineEnds.{newline_ends}
use Rattle.keep_edit_spec.proofs.Common.NewLines.{newline_is}
use Rattle.keep_edit_spec.proofs.EditLaws.{change_put}
use Rattle.keep_edit_spec.proofs.Insert.LineBefore.{new_line_text}
use Rattle.keep_edit_spec.proofs.Lists.AheadOfHeader.{adds_ahead}
use Rattle.keep_edit_spec.proofs.Lists.BehindHeaders.{any_rest, made_now, not_both}
use Rattle.keep_edit_spec.proofs.Lists.BehindLine.{before_header}
use Rattle.keep_edit_spec.proofs.Lists.BroughtTexts.{more_than_line}
use Rattle.keep_edit_spec.proofs.Lists.DottedLine as dotted
use Rattle.keep_edit_spec.proofs.Lists.HeaderLines.{newline_again}
use Rattle.keep_edit_spec.proofs.Lists.HeaderPlaces.{first_place, written}
use Rattle.keep_edit_spec.proofs.Lists.LineKinds.{as_of_kind, kind_is}
use Rattle.keep_edit_spec.proofs.Lists.MadeChanges.{added, change_allowed, change_lawful, change_puts, within_text}
use Rattle.keep_edit_spec.proofs.Lists.Places.{line_is, one_text}
use Rattle.keep_edit_spec.proofs.Lists.PlacesKept.{change_placed}
use Rattle.keep_edit_spec.proofs.Lists.RunLaws.{same_seen, seen_on}
use Rattle.keep_edit_spec.proofs.Lists.RunLists.{each_apart, run_is_known}
use Rattle.keep_edit_spec.proofs.Lists.StillMakes.{still_makes}
use Rattle.keep_edit_spec.proofs.Lists.TextChanges.{moved_with}

-- an edit that makes its change puts it into the text
pub text_made : (profile : Profile) (limit : ℕ) (s : Document) (e : Edit) (c : TextChange) → IsEditable profile limit s
    → MakesChange profile limit s e c → text (edited_document s e) ≡ put (text s) (place_of_change c)
text_made profile limit s e c fine h = change_put s e ∙ change_puts profile limit s e c fine h

-- Of two changes that take nothing, the one that begins no later than the other can be made first or last.
abbrev pub PutAheadOf : Type 0
PutAheadOf =
    (bytes : List ℕ) (c d : TextChange) → c.at ≤ d.at → c.size ≡ 0 → d.size ≡ 0 → d.at ≤ length bytes
    → put (put bytes (place_of_change d)) (place_of_change c)
    ≡ put (put bytes (place_of_change c)) (place_of_change (moved c d))

-- where a byte comes with one change more there that takes nothing
past_one : (cs : List TextChange) (d : TextChange) (at : ℕ) → Follow 0 cs → All (λ x. IsBeside x d) cs → d.at ≡ at
    → d.size ≡ 0 → moved_by_all (with_change cs d) at ≡ moved_by_all cs at + length d.new
past_one cs d at follow left here none =
    subst (λ (n : ℕ). moved_by_all (with_change cs d) n ≡ moved_by_all cs n + length d.new) here
    (ap (λ (x : TextChange). x.at) (moved_with cs d d follow left left (inl (omega (arith, none)))) ∙ past)
  where
    past : moved_by (moved_past cs d) (moved_by_all cs d.at) ≡ moved_by_all cs d.at + length d.new
    past = rw (le-ltb (moved_by_all cs d.at) (moved_by_all cs d.at) (omega arith)) (omega (arith, none))

-- ---- new lines and headers have bytes

module _ (profile : Profile) (limit : ℕ) (s : Document) (fine : IsEditable profile limit s) where
  newline_some : 0 < length (newline_of s).text
  newline_some = (newline_ends (newline_of s).text (newline_is profile s fine.valid).newline).0

  line_some : (k : List ℕ) (ks : List (List ℕ)) (value : Value)
      → 0 < length (keyed_text (k ∷ ks) value ++ (newline_of s).text)
  line_some k ks value =
      omega (arith, newline_some, length-append (keyed_text (k ∷ ks) value) (newline_of s).text)

  header_some : (closed : ends_in_newline (text s) ≡ true) (content : Content)
      → 0 < length (written profile s fine.valid closed content)
  header_some closed content =
      omega (
        arith,
        newline_some,
        length-append (newline_of s).text (content_text content ++ (newline_of s).text),
      )

  pub adds_bytes : (kind : LineKind) (path : List Part) (value : Value) (c : TextChange)
      → AddsAs kind profile limit s path value c → 0 < length c.new
  adds_bytes LastInBody path value c h =
      subst (λ (t : List ℕ). 0 < length t)
      (sym (new_line_text (newline_of s) h.text h.more value)
      ∙ one_text (new_line (newline_of s) (keyval (name_with (h.text ∷ h.more)) value))
      ∙ sym (line_is profile limit s path value c h)) (line_some h.text h.more value)
  adds_bytes OfDotted path value c h =
      let first : List ℕ = (dotted.before profile limit s path value c h).first in
      let later : List (List ℕ) = (dotted.before profile limit s path value c h).prefix ++ h.text ∷ h.more in
      subst (λ (t : List ℕ). 0 < length t)
      (sym (new_line_text (newline_of s) first later value)
      ∙ one_text (new_line (newline_of s) (keyval (name_with (first ∷ later)) value))
      ∙ sym (dotted.line_is profile limit s path value c h)) (line_some first later value)
  adds_bytes WithHeader path value c h = omega (arith, more_than_line profile limit s path value c h)

-- ---- the line and what comes behind it

module _ (profile : Profile) (limit : ℕ) (s : Document) (fine : IsEditable profile limit s) (path : List Part)
    (value : Value) (kind : LineKind) (c : TextChange) (adds : AddsAs kind profile limit s path value c) where
  abbrev e : Edit
  e = insert path value

  abbrev own : MadeEdit
  own = made e c

  abbrev line : Added
  line = added_as s path c

  abbrev table : List Part
  table = table_in s path

  abbrev IsBehind : MadeEdit → Type 0
  IsBehind m = comes_behind s kind table c.at m ≡ true

  abbrev IsBefore : MadeEdit → Type 0
  IsBefore m = comes_behind s kind table c.at m ≡ false

  none : c.size ≡ 0
  none = (added profile limit s path value c (kind, adds)).adds

  -- it comes to the same byte, and takes nothing
  comes_there : (m : MadeEdit) (ms : List MadeEdit) → IsBehind m → AreAtOnce profile limit s (m ∷ ms)
      → (m.change.at ≡ c.at) × (m.change.size ≡ 0)
  comes_there m ms behind h = by m.edit behind h.0
    where
      same_byte : (other : List Part)
          → ((m.change.at == c.at) && comes_before kind table (kind_of s other) (table_in s other)) ≡ true
          → m.change.at ≡ c.at
      same_byte other is =
          eqb-true m.change.at c.at
          (and_parts (m.change.at == c.at) (comes_before kind table (kind_of s other) (table_in s other)) is).0

      at_end : (f : Edit) → is_header f ≡ true → is_insert f ≡ false → MakesChange profile limit s f m.change
          → m.change.size ≡ 0 → (c.at == length (text s)) ≡ true → (m.change.at ≡ c.at) × (m.change.size ≡ 0)
      at_end f head other makes none end =
          elim ((change_placed profile limit s f m.change fine makes).takes other) [
            | inl some ↦ absurd (omega (arith, some, none))
            | inr (it, (none, there)) ↦ (there ∙ sym (eqb-true c.at (length (text s)) end), none)
          ]

      by : (f : Edit) → comes_behind s kind table c.at (made f m.change) ≡ true
          → MakesInPlace profile limit s (seen_of s ms) (changes_of ms) (lines_of s ms) f m.change
          → (m.change.at ≡ c.at) × (m.change.size ≡ 0)
      by (insert other new) is (inl (makes, placed)) = (
        same_byte other is,
        (added profile limit s other new m.change makes).adds,
      )
      by (insert other new) is (inr (follows, keeps)) = (
        same_byte other is,
        follows.alone.adds,
      )
      by (append_table keys) is (inl (makes, placed)) =
          at_end (append_table keys) refl refl makes makes.adds is
      by (append_table keys) is (inr (follows, keeps)) = absurd follows
      by (append_element keys) is (inl (makes, placed)) =
          at_end (append_element keys) refl refl makes makes.adds is
      by (append_element keys) is (inr (follows, keeps)) = absurd follows
      by (set other new) is makes = absurd cc
      by (rename other name) is makes = absurd cc
      by (remove other) is makes = absurd cc

  -- and writes bytes
  writes_bytes : (now : Document) → IsEditable profile limit now → (m : MadeEdit) → IsBehind m → (d : TextChange)
      → MakesChange profile limit now m.edit d → 0 < length d.new
  writes_bytes now editable m behind d makes = by m.edit behind makes
    where
      by : (f : Edit) → comes_behind s kind table c.at (made f m.change) ≡ true → MakesChange profile limit now f d
          → 0 < length d.new
      by (insert other new) is (a, h) = adds_bytes profile limit now editable a other new d h
      by (append_table keys) is h =
          let content : Content = header [] (key_with keys) [] in
          subst (λ (t : List ℕ). 0 < length t)
          (ap (λ (p : Place). p.new) (sym (first_place profile now editable.valid h.closed content) ∙ h.is))
          (header_some profile limit now editable h.closed content)
      by (append_element keys) is h =
          let content : Content = element [] (key_with keys) [] in
          subst (λ (t : List ℕ). 0 < length t)
          (ap (λ (p : Place). p.new) (sym (first_place profile now editable.valid h.closed content) ∙ h.is))
          (header_some profile limit now editable h.closed content)
      by (set other new) is h = absurd cc
      by (rename other name) is h = absurd cc
      by (remove other) is h = absurd cc

  -- ---- where it comes

  -- where the byte of the line comes after the edits
  abbrev past : List MadeEdit → ℕ
  past ms = moved_by_all (changes_of ms) c.at

  past_more : (m : MadeEdit) (ms : List MadeEdit) → m.change.at ≡ c.at → m.change.size ≡ 0
      → AreAtOnce profile limit s (m ∷ ms) → past (m ∷ ms) ≡ past ms + length m.change.new
  past_more m ms at size (makes, (alone, (beside, others))) =
      past_one (changes_of ms) m.change c.at (run_is_known profile limit s ms fine others).follow beside at size

  past_behind : (m : MadeEdit) (ms : List MadeEdit) → IsBehind m → AreAtOnce profile limit s (m ∷ ms)
      → past (m ∷ ms) ≡ past ms + length m.change.new
  past_behind m ms behind h =
      let (at, size) = comes_there m ms behind h in past_more m ms at size h

  module _ (rest : List MadeEdit) where
    -- what comes behind comes no sooner than the line
    no_sooner : (bs : List MadeEdit) → All IsBehind bs → AreAtOnce profile limit s (bs ++ rest)
        → past rest ≤ past (bs ++ rest)
    no_sooner [] all h = omega arith
    no_sooner (b ∷ bs) all h =
        omega (
          arith,
          past_behind b (bs ++ rest) (All-head IsBehind b bs all) h,
          no_sooner bs (All-tail IsBehind b bs all) h.1.1.1,
        )

    -- and further on by the bytes of the line, where that came before
    further_on : (bs : List MadeEdit) → All IsBehind bs → AreAtOnce profile limit s (bs ++ rest)
        → AreAtOnce profile limit s (bs ++ own ∷ rest) → past (bs ++ own ∷ rest) ≡ past (bs ++ rest) + length c.new
    further_on [] all h g = past_more own rest refl none g
    further_on (b ∷ bs) all h g =
        let behind : IsBehind b = All-head IsBehind b bs all in
        omega (
          arith,
          past_behind b (bs ++ rest) behind h,
          past_behind b (bs ++ own ∷ rest) behind g,
          further_on bs (All-tail IsBehind b bs all) h.1.1.1 g.1.1.1,
        )

    abbrev there : TextChange
    there = moved_past (changes_of rest) c

    -- after the edits it makes its change where it does after those before it, and with it before them the document is
    -- the same
    record IsAhead (bs : List MadeEdit) : Type 0 where
      makes : AddsAs kind profile limit (document_after s (bs ++ rest)) path value there
      seen : IsSeenStill s (document_after s (bs ++ rest)) e
      same : edited_document (document_after s (bs ++ rest)) e ≡ document_after s (bs ++ own ∷ rest)

    ahead_of_none : AreAtOnce profile limit s rest → AreAtOnce profile limit s (own ∷ rest) → IsAhead []
    ahead_of_none h (inl (makes, placed), (alone, (beside, others))) =
        let (is_now, seen_now) = (run_is_known profile limit s rest fine h).later e c makes alone beside placed in
        record {
          makes = as_of_kind kind profile limit (document_after s rest) path value there
              (seen_now.1 ∙ kind_is kind profile limit s path value c adds) is_now;
          seen = seen_now;
          same = refl;
        }
    ahead_of_none h (inr (follows, keeps), others) =
        absurd (not_both profile limit s (lines_of s rest) e c (kind, adds) follows)

    -- ---- after one that comes behind

    module _ (b : MadeEdit) (bs : List MadeEdit) (behind : IsBehind b)
        (lets : LetsTable line (seen s b.edit)) (h : AreAtOnce profile limit s ((b ∷ bs) ++ rest))
        (g : AreAtOnce profile limit s ((b ∷ bs) ++ own ∷ rest)) (ih : IsAhead bs) where
      -- before it
      abbrev now : Document
      now = document_after s (bs ++ rest)

      -- and after it
      abbrev then : Document
      then = edited_document now b.edit

      abbrev its : TextChange
      its = moved_past (changes_of (bs ++ rest)) b.change

      run : IsRun profile limit s (seen_of s (bs ++ rest)) (changes_of (bs ++ rest)) (lines_of s (bs ++ rest)) now
      run = run_is_known profile limit s (bs ++ rest) fine h.1.1.1

      its_now : MakesChange profile limit now b.edit its × (seen now b.edit ≡ seen s b.edit)
      its_now = made_now profile limit s b (bs ++ rest) fine h

      -- as others see it, the edit of the line leaves it alone
      left : LeavesAlone (seen s e) (seen s b.edit)
      left = (each_apart s (λ f. LeavesAlone f (seen s b.edit)) own bs rest g.1.0).0

      kind_now : kind_of now path ≡ kind
      kind_now = kind_is kind profile limit now path value there ih.makes

      -- where a header passes by the table of the line, it does so still
      passes_table : (keys : List (List ℕ)) → PassesTable keys line → PassesTable keys (added_as now path there)
      passes_table keys passes is =
          subst (λ (p : List Part). PassesBy keys (without_last p)) (sym ih.seen.0) (passes (sym ih.seen.1 ∙ is))

      abbrev ComesInFront : Type 0
      ComesInFront = AddsAs kind profile limit then path value there × IsSeenStill now then e

      -- ---- further on than the line

      module _ (less : there.at < its.at) where
        -- the edit of a line comes in order
        after_line : (other : List Part) → comes_before kind table (kind_of s other) (table_in s other) ≡ true
            → IsAfterLine (added_as now other its) (added_as now path there)
        after_line other is =
            subst (λ (a : LineKind). IsAfterAs a (added_as now other its) (added_as now path there)) (sym kind_now)
            (by kind is)
          where
            by : (a : LineKind) → comes_before a table (kind_of s other) (table_in s other) ≡ true
                → IsAfterAs a (added_as now other its) (added_as now path there)
            by LastInBody is = λ same. absurd (omega (arith, less, same))
            by OfDotted is = λ same. absurd (omega (arith, less, same))
            by WithHeader is = absurd cc

        apart : its.at + its.size ≢ there.at
        apart same = omega (arith, less, same)

        placed : (f : Edit) → comes_behind s kind table c.at (made f b.change) ≡ true
            → MakesChange profile limit now f its → LetsTable line (seen s f) → IsStillPlaced now f its e there
        placed (insert other new) is makes passes = (
          λ after. absurd cc,
          after_line other
              (and_parts (b.change.at == c.at) (comes_before kind table (kind_of s other) (table_in s other)) is).1,
        )
        placed (append_table keys) is makes passes = (
          λ after. (
            newline_again profile now run.editable.valid makes.closed (header [] (key_with keys) []),
            λ other. inl apart,
          ),
          passes_table keys passes,
        )
        placed (append_element keys) is makes passes = (
          λ after. (
            newline_again profile now run.editable.valid makes.closed (element [] (key_with keys) []),
            λ other. inl apart,
          ),
          passes_table keys passes,
        )
        placed (set other new) is makes passes = absurd cc
        placed (rename other name) is makes passes = absurd cc
        placed (remove other) is makes passes = absurd cc

        -- it leaves that edit alone, too
        left_back : (f : Edit) → comes_behind s kind table c.at (made f b.change) ≡ true
            → LeavesAlone (seen s e) (seen s f) → LeavesAlone (seen s f) (seen s e)
        left_back (insert other new) is apart = λ same. apart (sym same)
        left_back (append_table keys) is apart = apart
        left_back (append_element keys) is apart = apart
        left_back (set other new) is apart = absurd cc
        left_back (rename other name) is apart = absurd cc
        left_back (remove other) is apart = absurd cc

        ahead_of_later : ComesInFront
        ahead_of_later =
            let (makes, still) =
            still_makes profile limit now b.edit its e there run.editable its_now.0 (kind, ih.makes)
            (subst₂ LeavesAlone (sym its_now.1) (sym (same_seen s now e ih.seen)) (left_back b.edit behind left))
            (inr (less, omega (arith, less, none))) (placed b.edit behind its_now.0 lets) in (
              subst (λ (n : ℕ). AddsAs kind profile limit then path value (change_at n c.size c.new)) stays
                  (as_of_kind kind profile limit then path value (moved its there) (still.1 ∙ kind_now) makes),
              still,
            )
          where
            stays : moved_by its there.at ≡ there.at
            stays = rw (lt-ltb there.at its.at less) refl

      -- ---- the same document

      -- the edit makes its change where the line moves it
      its_then : MakesChange profile limit (document_after s (bs ++ own ∷ rest)) b.edit
          (moved_past (changes_of (bs ++ own ∷ rest)) b.change)
      its_then = (made_now profile limit s b (bs ++ own ∷ rest) fine g).0

      module _ (put_ahead_of : PutAheadOf) (low : there.at ≤ its.at)
          (on : moved_past (changes_of (bs ++ own ∷ rest)) b.change ≡ moved there its) (size : b.change.size ≡ 0)
          (front : ComesInFront) where
        abbrev ends : Document
        ends = document_after s (bs ++ own ∷ rest)

        then_fine : IsEditable profile limit then
        then_fine = (run_is_known profile limit s ((b ∷ bs) ++ rest) fine h).editable

        same_text : text (edited_document then e) ≡ text (edited_document ends b.edit)
        same_text =
            text_made profile limit then e there then_fine (kind, front.0)
            ∙ ap (λ (t : List ℕ). put t (place_of_change there))
            (text_made profile limit now b.edit its run.editable its_now.0)
            ∙ put_ahead_of (text now) there its low none size
            (omega (arith, within_text profile limit now b.edit its run.editable its_now.0))
            ∙ ap (λ (t : List ℕ). put t (place_of_change (moved there its)))
            (sym (text_made profile limit now e there run.editable (kind, ih.makes)) ∙ ap text ih.same)
            ∙ ap (λ (x : TextChange). put (text ends) (place_of_change x)) (sym on)
            ∙ sym (text_made profile limit ends b.edit (moved_past (changes_of (bs ++ own ∷ rest)) b.change)
            (run_is_known profile limit s (bs ++ own ∷ rest) fine g.1.1.1).editable its_then)

        same_made : edited_document then e ≡ edited_document ends b.edit
        same_made =
            one_document profile (edited_document then e) (edited_document ends b.edit)
            (change_lawful profile limit then e there then_fine (kind, front.0)).reads.valid
            (run_is_known profile limit s ((b ∷ bs) ++ own ∷ rest) fine g).editable.valid same_text

        is_ahead : IsAhead (b ∷ bs)
        is_ahead = record {
          makes = front.0;
          seen = seen_on s now then e ih.seen front.1;
          same = same_made;
        }

    -- ---- right after the others

    abbrev IsThere : List Part → Added → Type 0
    IsThere own l = IsHeaderAt c.at l × (table_of l ≡ own)

    abbrev IsFirst : Type 0
    IsFirst = (other : List Part) → comes_before kind table WithHeader other ≡ true

    -- none of the others brings a header there
    none_headed : (own : List Part) → IsFirst → (ms : List MadeEdit) → All IsBefore ms
        → Any (IsThere own) (lines_of s ms) → ⊥
    none_headed own before [] all any = (let few = any.2 in absurd (omega (arith, few)))
    none_headed own before (m ∷ ms) all any =
        by m.edit (none_headed own before ms (All-tail IsBefore m ms all)) (All-head IsBefore m ms all) any
      where
        by : (f : Edit) → (Any (IsThere own) (lines_of s ms) → ⊥)
            → comes_behind s kind table c.at (made f m.change) ≡ false
            → Any (IsThere own) (with_line s f m.change (lines_of s ms)) → ⊥
        by (insert other new) ih is any =
            elim (any_rest (IsThere own) (added_as s other m.change) (lines_of s ms) any) [
              | inl ((at, head), _) ↦ comes at head is
              | inr more ↦ ih more
            ]
          where
            comes : m.change.at ≡ c.at → kind_of s other ≡ WithHeader
                → ((m.change.at == c.at) && comes_before kind table (kind_of s other) (table_in s other)) ≡ false → ⊥
            comes at head is =
                let both : ((m.change.at == c.at) && comes_before kind table (kind_of s other) (table_in s other))
                ≡ true = rw (eq-eqb m.change.at c.at at, head, before (table_in s other)) refl in
                absurd cc
        by (set other new) ih is any = ih any
        by (rename other name) ih is any = ih any
        by (remove other) ih is any = ih any
        by (append_table keys) ih is any = ih any
        by (append_element keys) ih is any = ih any

    module _ (b : MadeEdit) (behind : IsBehind b) (before : All IsBefore rest) (lets : LetsTable line (seen s b.edit))
        (h : AreAtOnce profile limit s (b ∷ rest)) (g : AreAtOnce profile limit s (b ∷ own ∷ rest)) (ih : IsAhead [])
      where
        abbrev others : Document
        others = document_after s rest

        abbrev here : TextChange
        here = moved_past (changes_of rest) b.change

        others_run : IsRun profile limit s (seen_of s rest) (changes_of rest) (lines_of s rest) others
        others_run = run_is_known profile limit s rest fine h.1.1.1

        same_place : here.at ≡ there.at
        same_place = ap (moved_by_all (changes_of rest)) (comes_there b rest behind h).0

        abbrev ComesFirst : Edit → Type 0
        ComesFirst f =
            AddsAs kind profile limit (edited_document others f) path value there
            × IsSeenStill others (edited_document others f) e

        -- an insert that adds its line there
        module _ (of_above : StillAddsAheadOfAbove) (of_end : StillAddsAheadOfEnd) (other : List Part) (new : Value)
            (is_now : MakesChange profile limit others (insert other new) here)
            (seen_now : IsSeenStill s others (insert other new)) (apart : first_new s path ≢ first_new s other) where
          differs : first_new others other ≢ first_new others path
          differs same = apart (sym ih.seen.0 ∙ sym same ∙ seen_now.0)

          -- the tables of both
          tables_now : is_below table (table_in s other) ≡ true
              → is_below (table_in others path) (table_in others other) ≡ true
          tables_now below =
              subst₂ (λ (p q : List Part). is_below (without_last p) (without_last q) ≡ true) (sym ih.seen.0)
              (sym seen_now.0) below

          ahead_of_line : (a k : LineKind) → comes_before a table k (table_in s other) ≡ true
              → AddsAs a profile limit others path value there → kind_of s other ≡ k
              → AddsAs a profile limit (edited_document others (insert other new)) path value there
              × IsSeenStill others (edited_document others (insert other new)) e
          ahead_of_line OfDotted OfDotted is its own =
              of_above profile limit others other new here path value there others_run.editable
              (as_of_kind OfDotted profile limit others other new here (seen_now.1 ∙ own) is_now) its (tables_now is)
              differs same_place
          ahead_of_line OfDotted LastInBody is its own =
              of_end profile limit others other new here path value there others_run.editable
              (as_of_kind LastInBody profile limit others other new here (seen_now.1 ∙ own) is_now) its differs
              same_place
          ahead_of_line OfDotted WithHeader is its own =
              adds_ahead profile limit others other new here OfDotted path value there others_run.editable
              (as_of_kind WithHeader profile limit others other new here (seen_now.1 ∙ own) is_now) its
              (λ same. absurd cc) differs same_place
          ahead_of_line LastInBody WithHeader is its own =
              adds_ahead profile limit others other new here LastInBody path value there others_run.editable
              (as_of_kind WithHeader profile limit others other new here (seen_now.1 ∙ own) is_now) its
              (λ same. absurd cc) differs same_place
          ahead_of_line LastInBody OfDotted is its own = absurd cc
          ahead_of_line LastInBody LastInBody is its own = absurd cc
          ahead_of_line WithHeader k is its own = absurd cc

        -- so it follows none of the others
        follows_none : (other : List Part) (new : Value)
            → ((b.change.at == c.at) && comes_before kind table (kind_of s other) (table_in s other)) ≡ true
            → FollowsHeader profile limit s (lines_of s rest) other new b.change → ⊥
        follows_none other new is f =
            none_headed (holder other (mentions_in s))
            (λ with_it. before_header kind (kind_of s other) table (table_in s other) with_it
            (and_parts (b.change.at == c.at) (comes_before kind table (kind_of s other) (table_in s other)) is).1) rest
            before
            (subst
            (λ (n : ℕ). Any (λ l. IsHeaderAt n l × (table_of l ≡ holder other (mentions_in s))) (lines_of s rest))
            (comes_there b rest behind h).0 f.header)

        ahead_of_first : StillAddsAheadOfAbove → StillAddsAheadOfEnd → StillAddsAheadOfTable → StillAddsAheadOfElement
            → ComesFirst b.edit
        ahead_of_first of_above of_end of_table of_element =
            by b.edit behind lets h.0 h.1.0 (left b [] behind lets h g ih)
          where
            passes : (keys : List (List ℕ)) → PassesBy keys (first_new s path) → PassesBy keys (first_new others path)
            passes keys = subst (PassesBy keys) (sym ih.seen.0)

            by : (f : Edit) → comes_behind s kind table c.at (made f b.change) ≡ true → LetsTable line (seen s f)
                → MakesInPlace profile limit s (seen_of s rest) (changes_of rest) (lines_of s rest) f b.change
                → All (λ x. LeavesAlone x (seen s f)) (seen_of s rest) → LeavesAlone (seen s e) (seen s f)
                → ComesFirst f
            by (insert other new) is its (inl (makes, placed)) alone apart =
                let (is_now, seen_now) =
                others_run.later (insert other new) b.change makes alone h.1.1.0 placed in
                ahead_of_line of_above of_end other new is_now seen_now apart kind (kind_of s other)
                (and_parts (b.change.at == c.at) (comes_before kind table (kind_of s other) (table_in s other)) is).1
                ih.makes refl
            by (insert other new) is its (inr (follows, keeps)) alone apart =
                absurd (follows_none other new is follows)
            by (append_table keys) is its (inl (makes, placed)) alone apart =
                let (is_now, seen_now) = others_run.later (append_table keys) b.change makes alone h.1.1.0 placed in
                of_table profile limit others keys here kind path value there others_run.editable is_now ih.makes
                (passes keys apart) (passes_table b [] behind lets h g ih keys its)
            by (append_table keys) is its (inr (follows, keeps)) alone apart = absurd follows
            by (append_element keys) is its (inl (makes, placed)) alone apart =
                let (is_now, seen_now) = others_run.later (append_element keys) b.change makes alone h.1.1.0 placed in
                of_element profile limit others keys here kind path value there others_run.editable is_now ih.makes
                (passes keys apart) (passes_table b [] behind lets h g ih keys its)
            by (append_element keys) is its (inr (follows, keeps)) alone apart = absurd follows
            by (set other new) is its makes alone apart = absurd cc
            by (rename other name) is its makes alone apart = absurd cc
            by (remove other) is its makes alone apart = absurd cc

    -- ---- after all that come behind

    module _ (of_above : StillAddsAheadOfAbove) (of_end : StillAddsAheadOfEnd) (of_table : StillAddsAheadOfTable)
        (of_element : StillAddsAheadOfElement) (put_ahead_of : PutAheadOf) (before : All IsBefore rest) where
      -- one more, in front of which the line comes
      one_more : (b : MadeEdit) (bs : List MadeEdit) (behind : IsBehind b) → All IsBehind bs
          → (lets : LetsTable line (seen s b.edit)) (h : AreAtOnce profile limit s ((b ∷ bs) ++ rest))
          (g : AreAtOnce profile limit s ((b ∷ bs) ++ own ∷ rest)) (ih : IsAhead bs)
          → ComesInFront b bs behind lets h g ih → IsAhead (b ∷ bs)
      one_more b bs behind all lets h g ih front =
          let (at, size) = comes_there b (bs ++ rest) behind h in
          let same : moved_by_all (changes_of (bs ++ rest)) b.change.at ≡ past (bs ++ rest) =
          ap (moved_by_all (changes_of (bs ++ rest))) at in
          let low : past rest ≤ moved_by_all (changes_of (bs ++ rest)) b.change.at =
          omega (arith, same, no_sooner bs all h.1.1.1) in
          is_ahead b bs behind lets h g ih put_ahead_of low
          (ap (λ (n : ℕ). change_at n b.change.size b.change.new)
          (ap (moved_by_all (changes_of (bs ++ own ∷ rest))) at
          ∙ further_on bs all h.1.1.1 g.1.1.1
          ∙ ap (λ (n : ℕ). n + length c.new) (sym same)
          ∙ sym (moves (moved_by_all (changes_of (bs ++ rest)) b.change.at) low))) size front
        where
          moves : (n : ℕ) → past rest ≤ n → moved_by there n ≡ n + length c.new
          moves n low = rw (le-ltb n (past rest) low) (omega (arith, none))

      ahead_of_all : (bs : List MadeEdit) → All IsBehind bs → All (LetsTable line) (seen_of s (bs ++ rest))
          → AreAtOnce profile limit s (bs ++ rest) → AreAtOnce profile limit s (bs ++ own ∷ rest) → IsAhead bs
      ahead_of_all [] all lets h g = ahead_of_none h g
      ahead_of_all (b ∷ []) all lets h g =
          let behind : IsBehind b = All-head IsBehind b [] all in
          let its : LetsTable line (seen s b.edit) = All-head (LetsTable line) (seen s b.edit) (seen_of s rest) lets in
          let ih : IsAhead [] = ahead_of_none h.1.1.1 g.1.1.1 in
          one_more b [] behind (All-tail IsBehind b [] all) its h g ih
          (ahead_of_first b behind before its h g ih of_above of_end of_table of_element)
      ahead_of_all (b ∷ d ∷ bs) all lets h g =
          let behind : IsBehind b = All-head IsBehind b (d ∷ bs) all in
          let more : All IsBehind (d ∷ bs) = All-tail IsBehind b (d ∷ bs) all in
          let first : IsBehind d = All-head IsBehind d bs more in
          let its : LetsTable line (seen s b.edit) =
          All-head (LetsTable line) (seen s b.edit) (seen_of s ((d ∷ bs) ++ rest)) lets in
          let ih : IsAhead (d ∷ bs) =
          ahead_of_all (d ∷ bs) more
          (All-tail (LetsTable line) (seen s b.edit) (seen_of s ((d ∷ bs) ++ rest)) lets) h.1.1.1 g.1.1.1 in
          one_more b (d ∷ bs) behind more its h g ih
          (ahead_of_later b (d ∷ bs) behind its h g ih
          (omega (
            arith,
            ap (moved_by_all (changes_of ((d ∷ bs) ++ rest))) (comes_there b ((d ∷ bs) ++ rest) behind h).0,
            past_behind d (bs ++ rest) first h.1.1.1,
            no_sooner bs (All-tail IsBehind d bs more) h.1.1.1.1.1.1,
            writes_bytes (document_after s (bs ++ rest))
                (run_is_known profile limit s (bs ++ rest) fine h.1.1.1.1.1.1).editable d first
                (moved_past (changes_of (bs ++ rest)) d.change)
                (made_now profile limit s d (bs ++ rest) fine h.1.1.1).0,
          )))

-- The insert after edits that come behind its line: it adds the line where it does after those before them, and makes
-- the document that all make with it before them.
pub record IsMadeAhead (profile : Profile) (limit : ℕ) (s : Document) (path : List Part) (value : Value)
    (kind : LineKind) (c : TextChange) (bs rest : List MadeEdit) : Type 0 where
  pub allowed : refusal profile limit (document_after s (bs ++ rest)) (insert path value) ≡ None
  pub makes : AddsAs kind profile limit (document_after s (bs ++ rest)) path value (moved_past (changes_of rest) c)
  pub seen : IsSeenStill s (document_after s (bs ++ rest)) (insert path value)
  pub same : edited_document (document_after s (bs ++ rest)) (insert path value)
      ≡ document_after s (bs ++ made (insert path value) c ∷ rest)

pub documents_ahead : (profile : Profile) (limit : ℕ) (s : Document) (path : List Part) (value : Value)
    (kind : LineKind) (c : TextChange) (bs rest : List MadeEdit)
    → StillAddsAheadOfAbove → StillAddsAheadOfEnd → StillAddsAheadOfTable → StillAddsAheadOfElement → PutAheadOf
    → IsEditable profile limit s → AddsAs kind profile limit s path value c
    → All (λ b. comes_behind s kind (table_in s path) c.at b ≡ true) bs
    → All (λ m. comes_behind s kind (table_in s path) c.at m ≡ false) rest
    → All (LetsTable (added_as s path c)) (seen_of s (bs ++ rest))
    → AreAtOnce profile limit s (bs ++ rest) → AreAtOnce profile limit s (bs ++ made (insert path value) c ∷ rest)
    → IsMadeAhead profile limit s path value kind c bs rest
documents_ahead profile limit s path value kind c bs rest of_above of_end of_table of_element put_ahead_of fine adds
    all before lets h g =
    let there : IsAhead profile limit s fine path value kind c adds rest bs =
    ahead_of_all profile limit s fine path value kind c adds rest of_above of_end of_table of_element put_ahead_of
    before bs all lets h g in
    record {
      allowed = change_allowed profile limit (document_after s (bs ++ rest)) (insert path value)
          (moved_past (changes_of rest) c) (kind, there.makes);
      makes = there.makes;
      seen = there.seen;
      same = there.same;
    }
