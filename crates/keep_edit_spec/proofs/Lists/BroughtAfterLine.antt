-- An insert that brings the header of its table brings the same after another insert, of another first new key, added a
-- line: at the end of a body, or to a table which dotted keys make.
--
-- The new line is no header, so the last header that goes through the table is the same one, a line later if it comes
-- after the new line, and its body ends later as the line makes it, also if the line comes at that very end (BodyEnds).
-- No header defines the table still. That dotted keys make it was not said before, as the table may be defined
-- (`never_dotted`), and is not said now (SaidOnWay): so no line's key leads through it (`none_leads`). The insert is
-- not refused, and its holder is the same (SaidOnWay): so the same lines come, at the moved place (BroughtAgain).
--
-- Theorem: `brought_after_line`.
use Rattle.std.proofs.Common.{◌≡◌, ◌≢◌, ℕ, ◌≤◌, Bool, true, false, List, ◌∷◌, ◌++◌, length, take, drop, refl, sym, ap}
use Rattle.std.proofs.Common.{ap₂, subst, ◌∙◌, length-append, Option, Some, None}
use Rattle.std.specs.Option.{option_map}
use Rattle.std.proofs.lemmas.Bool.{and_parts}
use Rattle.std.proofs.lemmas.List.{take-append-drop}
use Rattle.keep_types.specs.declared.leaf.Profile.{Profile}
use Rattle.keep_syntax.specs.Tree.{Value, Ended, Line, Document, Name, bom_leaves, keyval, text_of}
use Rattle.keep_path.specs.Path.{Part, strip}
use Rattle.keep_meaning.specs.Marks.{Mention, MentionKind, define, dotted, start}
use Rattle.keep_meaning.specs.Meaning.{line_mentions, lines, mentions_in}
use Rattle.keep_meaning.specs.Nodes.{has, is_dotted, is_through}
use Rattle.keep_edit_spec.specs.AddedLines.{first_new}
use Rattle.keep_edit_spec.specs.BroughtHeaders.{BringsHeader, StillBrings}
use Rattle.keep_edit_spec.specs.ClearedLines.{line_start}
use Rattle.keep_edit_spec.specs.Edits.{edited_document, end_of, insert, name_with}
use Rattle.keep_edit_spec.specs.Laws.{IsEditable}
use Rattle.keep_edit_spec.specs.Lines.{begins, body_end, ended_text, is_header, last_line, leads_dotted, leads_through}
use Rattle.keep_edit_spec.specs.Lines.{new_line, newline_of}
use Rattle.keep_edit_spec.specs.Look.{holder}
use Rattle.keep_edit_spec.specs.TextChanges.{TextChange, moved, moved_by}
use Rattle.keep_edit_spec.proofs.Common.Doubles.{IsMentioned, has_some, some_has}
use Rattle.keep_edit_spec.proofs.Common.Runs.{kinds_allow, meet}
use Rattle.keep_edit_spec.proofs.Insert.InsertDotted.{dotted_line}
use Rattle.keep_edit_spec.proofs.Insert.SectionPlace.{Lets}
use Rattle.keep_edit_spec.proofs.Lists.BodyEnds.{IsCut, cut_at, ends_move}
use Rattle.keep_edit_spec.proofs.Lists.BroughtAgain.{IsThroughThere, brought_again}
use Rattle.keep_edit_spec.proofs.Lists.BroughtAllowed.{brought_keys}
use Rattle.keep_edit_spec.proofs.Lists.BroughtKinds.{BroughtAfterLine}
use Rattle.keep_edit_spec.proofs.Lists.BroughtLines.{at_is}
use Rattle.keep_edit_spec.proofs.Lists.BroughtWay.{section}
use Rattle.keep_edit_spec.proofs.Lists.DottedAfter.{bare_by}
use Rattle.keep_edit_spec.proofs.Lists.DottedLine.{puts as dotted_puts}
use Rattle.keep_edit_spec.proofs.Lists.LineAfterDotted.{cut_through}
use Rattle.keep_edit_spec.proofs.Lists.LineOnWay as line
use Rattle.keep_edit_spec.proofs.Lists.LineOnWay.{AddsOnWay, dotted_on_way, line_on_way}
use Rattle.keep_edit_spec.proofs.Lists.NewPaths.{InsertsKeys, goes, node_clear}
use Rattle.keep_edit_spec.proofs.Lists.OneLineMore.{none_still}
use Rattle.keep_edit_spec.proofs.Lists.Places.{later_line, line_moves}
use Rattle.keep_edit_spec.proofs.Lists.PutsKeyval.{PutsKeyval, few_still, first_long, line_puts, lines_are}
use Rattle.keep_edit_spec.proofs.Lists.RemovedOwn.{last_without}
use Rattle.keep_edit_spec.proofs.Lists.SaidOnWay.{any_stays, holder_stays, refusal_stays}

-- ---- no dotted keys make the table

dotted_alone : (x : MentionKind) → is_dotted x ≡ true → kinds_allow x define ≡ true → ⊥
dotted_alone dotted h allowed = absurd cc
dotted_alone other h allowed = absurd cc

never_dotted : (profile : Profile) (limit : ℕ) (s : Document) (other : List Part) (more : Value) (d : TextChange)
    → IsEditable profile limit s → BringsHeader profile limit s other more d
    → has is_dotted (holder other (mentions_in s)) (mentions_in s) ≡ false
never_dotted profile limit s other more d fine k = by (has is_dotted b (mentions_in s)) refl
  where
    b : List Part
    b = holder other (mentions_in s)

    by : (t : Bool) → has is_dotted b (mentions_in s) ≡ t → has is_dotted b (mentions_in s) ≡ false
    by false e = e
    by true e =
        let (m, said, lets) = meet (IsMentioned is_dotted b) (Lets b) (mentions_in s)
        (has_some is_dotted b (mentions_in s) e) (section profile limit s other more d fine k).lets in
        absurd (dotted_alone m.kind said.1 (lets said.0).0)

-- a line's key that leads through a path says that dotted keys make it
none_leads : (s : Document) (b : List Part) → has is_dotted b (mentions_in s) ≡ false
    → last_line (leads_dotted b) start (lines s) ≡ None
none_leads s b never = by (last_line (leads_dotted b) start (lines s)) refl
  where
    by : (o : Option ℕ) → last_line (leads_dotted b) start (lines s) ≡ o
        → last_line (leads_dotted b) start (lines s) ≡ None
    by None e = e
    by (Some n) e =
        let said : has is_dotted b (mentions_in s) ≡ true =
        some_has is_dotted b (mentions_in s) (dotted_line s b n e).dotted in
        absurd cc

-- ---- a line of either kind

module _ (profile : Profile) (limit : ℕ) (s : Document) (path : List Part) (value : Value) (c : TextChange)
    (other : List Part) (more : Value) (d : TextChange) (fine : IsEditable profile limit s)
    (k : BringsHeader profile limit s other more d) (differs : first_new s path ≢ first_new s other)
    (way : AddsOnWay profile limit s path value) where
  abbrev ms : List Mention
  ms = mentions_in s

  abbrev now : Document
  now = edited_document s (insert path value)

  abbrev b : List Part
  b = holder other ms

  abbrev n : ℕ
  n = way.n

  abbrev name : Name
  name = name_with (line.keys profile limit s path value way)

  abbrev x : Ended
  x = new_line (newline_of s) (keyval name value)

  abbrev its : InsertsKeys profile limit s other more
  its = brought_keys profile limit s other more d k

  module _ (put : PutsKeyval s now n name value c) (cut : IsCut name value (lines s) n) where
    abbrev first : List Line
    first = take n (lines s)

    abbrev rest : List Line
    rest = drop n (lines s)

    were : first ++ rest ≡ lines s
    were = take-append-drop n (lines s)

    are : lines now ≡ first ++ x.line ∷ rest
    are = lines_are s now n name value c put

    -- ---- the table

    bare_now : end_of now b ≡ None
    bare_now =
        bare_by s now b k.bare
        (λ none. ap (last_line (begins b) start) are
        ∙ none_still (begins b) start first x.line rest refl refl (ap (last_line (begins b) start) were ∙ none))

    dots_now : last_line (leads_dotted b) start (lines now) ≡ None
    dots_now =
        let clear : strip (first_new s path) b ≡ None =
        node_clear profile limit s path value way.inserts b (goes profile limit s other more its).node in
        none_leads now b
        (any_stays profile limit s path value way b clear is_dotted ∙ never_dotted profile limit s other more d fine k)

    -- ---- the last header that goes through it, and the end of its body

    -- its number then
    abbrev j : ℕ
    j = later_line n k.number

    last_now : last_line (leads_through b) start (lines now) ≡ Some j
    last_now =
        ap (last_line (leads_through b) start) are
        ∙ last_without (leads_through b) start first x.line rest refl refl
        ∙ ap (λ (ls : List Line). option_map (later_line (length first)) (last_line (leads_through b) start ls)) were
        ∙ ap₂ (λ (m : ℕ) (o : Option ℕ). option_map (later_line m) o) (first_long s now n name value c put) k.last

    abbrev m : ℕ
    m = body_end k.number (lines s)

    number : body_end j (lines now) ≡ later_line n m
    number =
        ends_move name value (leads_through b)
        (λ r l e. (and_parts (is_header l.content) (has is_through b (line_mentions r l)) e).0) (lines s) (lines now) n
        k.number j cut are k.last last_now

    there : IsThroughThere s other now j
    there = record {
      bare = bare_now;
      no_dots = dots_now;
      last = last_now;
      closed = subst (λ (i : ℕ). i ≤ length now.ended) (sym number) (few_still s now n name value c put m k.closed);
    }

    begins_at : line_start now (body_end j (lines now)) ≡ moved_by c d.at
    begins_at =
        let bom : List ℕ = text_of (bom_leaves s.bom) in
        let es : List Ended = take n s.ended ++ x ∷ drop n s.ended in
        ap (line_start now) number
        ∙ ap (λ (t : Document). line_start t (later_line n m)) put.is
        ∙ sym (length-append bom (ended_text (take (later_line n m) es)))
        ∙ line_moves profile bom s.ended fine.valid.ended n m x c d put.few k.closed put.adds put.line put.at
        (at_is profile limit s other more d k)

    brings : StillBrings profile limit s now other more (moved c d)
    brings =
        brought_again profile limit s now other more c d k j there begins_at put.newline
        (holder_stays profile limit s path value way other more its differs)
        (refusal_stays profile limit s path value way other more its differs)

-- ---- both kinds

pub brought_after_line : BroughtAfterLine
brought_after_line profile limit s path value c false other more d fine h k differs =
    brings profile limit s path value c other more d fine k differs (line_on_way profile limit s path value c h)
    (line_puts profile limit s path value c fine h)
    (cut_at (name_with (h.text ∷ h.more)) value s (holder path (mentions_in s)) h.number h.ends)
brought_after_line profile limit s path value c true other more d fine h k differs =
    let way : AddsOnWay profile limit s path value = dotted_on_way profile limit s path value c h in
    brings profile limit s path value c other more d fine k differs way
    (dotted_puts profile limit s path value c h fine)
    (cut_through (name_with (line.keys profile limit s path value way)) value (holder path (mentions_in s)) (lines s)
    h.number h.last)
