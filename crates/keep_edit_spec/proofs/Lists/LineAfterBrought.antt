-- An insert that adds a line, at the end of a body or to a table which dotted keys make, adds the same one after an
-- insert brought the header of its own table to another place.
--
-- The first new keys are others, so the line's insert is not refused, and its holder is the same (BroughtAllowed). The
-- tables are others, too, since nothing but headers makes the table whose header comes. So the holder's body ends where
-- it did, or three lines later (BroughtEnds), and the same line comes, at the moved place (AddsAgain). To a table that
-- dotted keys make it comes after the last line that leads through the holder, which is the same, or three lines later
-- (DottedAgain).
--
-- Theorems: `line_after_brought`, `dotted_after_brought`; `line_differs`, `dotted_differs`: the tables are others.
use Rattle.std.proofs.Common.{◌≡◌, ◌≢◌, ℕ, suc, ◌+◌, ◌<◌, true, List, length, take, sym, ap, ◌∙◌, arith, None, Some}
use Rattle.std.proofs.Common.{◌⊎◌, inl, inr}
use Rattle.std.proofs.lemmas.Bool.{cases_lt}
use Rattle.keep_types.specs.declared.leaf.Profile.{Profile}
use Rattle.keep_syntax.specs.Tree.{Document, Value, bom_leaves, text_of, value_depth}
use Rattle.keep_path.specs.Path.{Part}
use Rattle.keep_meaning.specs.Marks.{start}
use Rattle.keep_meaning.specs.Meaning.{lines, mentions_in}
use Rattle.keep_edit_spec.specs.AddedLines.{AddsLine, AddsLineStill, first_new}
use Rattle.keep_edit_spec.specs.BroughtHeaders.{BringsHeader}
use Rattle.keep_edit_spec.specs.DottedLines.{AddsDotted, StillAdds}
use Rattle.keep_edit_spec.specs.Edits.{edited_document, end_of, insert}
use Rattle.keep_edit_spec.specs.Laws.{IsEditable}
use Rattle.keep_edit_spec.specs.Lines.{last_line, leads_dotted}
use Rattle.keep_edit_spec.specs.Look.{holder}
use Rattle.keep_edit_spec.specs.TextChanges.{TextChange, moved}
use Rattle.keep_edit_spec.proofs.Lists.AddsAgain.{adds_there}
use Rattle.keep_edit_spec.proofs.Lists.BroughtAllowed.{holder_clear, holder_stays, refusal_stays}
use Rattle.keep_edit_spec.proofs.Lists.BroughtEnds.{IsEndMoved, IsLeadMoved, IsMoved, bare_now, dots_move, end_moves}
use Rattle.keep_edit_spec.proofs.Lists.BroughtKinds.{DottedAfterBrought, LineAfterBrought}
use Rattle.keep_edit_spec.proofs.Lists.BroughtLines as brought
use Rattle.keep_edit_spec.proofs.Lists.BroughtLines.{enough, newline_stays, starts_at}
use Rattle.keep_edit_spec.proofs.Lists.DottedAgain.{IsLastThere, dotted_again}
use Rattle.keep_edit_spec.proofs.Lists.DottedLine as dotted
use Rattle.keep_edit_spec.proofs.Lists.NewPaths.{InsertsKeys, dotted_keys, line_keys}
use Rattle.keep_edit_spec.proofs.Lists.Places.{at_is, width}

-- ---- the tables

module _ (profile : Profile) (limit : ℕ) (s : Document) (path : List Part) (value : Value) (c : TextChange)
    (other : List Part) (more : Value) (d : TextChange) (h : BringsHeader profile limit s path value c) where
  abbrev own : List Part
  own = holder path (mentions_in s)

  abbrev table : List Part
  table = holder other (mentions_in s)

  -- a header defines that of the line
  pub line_differs : AddsLine profile limit s other more d → own ≢ table
  line_differs k same = let no : None ≡ Some k.number = sym h.bare ∙ ap (end_of s) same ∙ k.ends in absurd cc

  -- or dotted keys make it
  pub dotted_differs : AddsDotted profile limit s other more d → own ≢ table
  dotted_differs k same =
      let no : None ≡ Some k.number =
      sym h.no_dots ∙ ap (λ (q : List Part). last_line (leads_dotted q) start (lines s)) same ∙ k.last in
      absurd cc

-- ---- the line

module _ (profile : Profile) (limit : ℕ) (s : Document) (path : List Part) (value : Value) (c : TextChange)
    (other : List Part) (more : Value) (d : TextChange) (fine : IsEditable profile limit s)
    (h : BringsHeader profile limit s path value c) (other_keys : first_new s path ≢ first_new s other)
    (apart : c.at ≢ d.at) where
  abbrev now : Document
  now = edited_document s (insert path value)

  abbrev a : List Part
  a = holder path (mentions_in s)

  abbrev b : List Part
  b = holder other (mentions_in s)

  -- the number of the first new line, and how many there are
  abbrev n : ℕ
  n = brought.n profile limit s path value c h

  abbrev more_now : ℕ
  more_now = length (brought.new_lines profile limit s path value c h)

  abbrev bom : ℕ
  bom = length (text_of (bom_leaves s.bom))

  -- what comes before another line comes to another place
  other_line : (m : ℕ) → d.at ≡ bom + width (take m s.ended) → m ≡ n → ⊥
  other_line m at is =
      apart
      (brought.at_is profile limit s path value c h ∙ ap (λ (i : ℕ). bom + width (take i s.ended)) (sym is) ∙ sym at)

  -- ---- at the end of a body

  module _ (k : AddsLine profile limit s other more d) where
    abbrev its : InsertsKeys profile limit s other more
    its = line_keys profile limit s other more d k

    differs : a ≢ b
    differs = line_differs profile limit s path value c other more d h k

    d_at : d.at ≡ bom + width (take k.number s.ended)
    d_at = at_is profile limit s other more d k

    end : IsEndMoved now b n more_now k.number
    end = end_moves profile limit s path value c fine h b differs k.number k.ends (other_line k.number d_at)

    newline : (0 < end.number) ⊎ (value_depth more ≡ 0)
    newline = elim k.newline [
      | inl some ↦
          inl (elim end.moves [ inl x ↦ omega (arith, some, x.0) | inr x ↦ omega (arith, some, x.0) ])
      | inr scalar ↦ inr scalar
    ]

    adds_now : AddsLineStill profile limit s now other more (moved c d)
    adds_now =
        adds_there profile limit s now other more d k end.number end.ends
        (enough profile limit s path value c h fine k.number end.number k.closed end.moves) c
        (starts_at profile limit s path value c h fine k.number end.number k.closed end.moves d d_at)
        (newline_stays profile limit s path value c h fine)
        (holder_stays profile limit s path value c fine h other more its other_keys)
        (refusal_stays profile limit s path value c fine h other more its other_keys) newline

  -- ---- to a table that dotted keys make

  module _ (k : AddsDotted profile limit s other more d) where
    abbrev its_dotted : InsertsKeys profile limit s other more
    its_dotted = dotted_keys profile limit s other more d k

    differs_dotted : a ≢ b
    differs_dotted = dotted_differs profile limit s path value c other more d h k

    dotted_at : d.at ≡ bom + width (take (suc k.number) s.ended)
    dotted_at = dotted.at_is profile limit s other more d k

    lead : IsLeadMoved s now b n more_now k.number
    lead =
        dots_move profile limit s path value c fine h b
        (holder_clear profile limit s path value c fine h other more its_dotted other_keys) k.number k.last

    -- the line after it
    after : IsMoved n more_now (suc k.number) (suc lead.number)
    after = elim lead.moves [
      | inl x ↦ elim (cases_lt (suc k.number) n) [
        | inl less ↦ inl (ap suc x.0, less)
        | inr past ↦ absurd (other_line (suc k.number) dotted_at (omega (arith, x.1, past)))
      ]
      | inr x ↦ inr (omega (arith, x.0), omega (arith, x.1))
    ]

    there : IsLastThere s other k.number now lead.number
    there = record {
      bare = bare_now profile limit s path value c fine h b differs_dotted k.bare;
      last = lead.last;
      body = lead.body;
      closed = enough profile limit s path value c h fine (suc k.number) (suc lead.number) k.closed after;
    }

    adds_dotted_now : StillAdds true profile limit s now other more (moved c d)
    adds_dotted_now =
        dotted_again profile limit s now other more c d k lead.number there
        (starts_at profile limit s path value c h fine (suc k.number) (suc lead.number) k.closed after d dotted_at)
        (newline_stays profile limit s path value c h fine)
        (holder_stays profile limit s path value c fine h other more its_dotted other_keys)
        (refusal_stays profile limit s path value c fine h other more its_dotted other_keys)

pub line_after_brought : LineAfterBrought
line_after_brought profile limit s path value c other more d fine h k other_keys apart =
    adds_now profile limit s path value c other more d fine h other_keys apart k

pub dotted_after_brought : DottedAfterBrought
dotted_after_brought profile limit s path value c other more d fine h k other_keys apart =
    adds_dotted_now profile limit s path value c other more d fine h other_keys apart k
