-- An insert that adds a line to a table which dotted keys make adds the same one after a change within one line, beside
-- it or right behind it, where the change leaves what the insert asks of the document.
--
-- That is what is said of its path and of the prefixes of it (SaidOfPrefixes), that no header begins a body of its
-- holder, and which lines lead through the holder by their own keys (LedAlike). Then the last such line has the same
-- number, in the same body, and the next line begins where it did, or moved by the change (LineStarts).
--
-- Theorems: `dotted_beside`; `next_moves`, `next_stays`: the place.
use Rattle.std.proofs.Common.{◌≡◌, ℕ, suc, ◌<◌, true, List, ◌++◌, sym, ◌∙◌, arith}
use Rattle.keep_types.specs.declared.leaf.Profile.{Profile}
use Rattle.keep_syntax.specs.Tree.{Document, Value}
use Rattle.keep_path.specs.Path.{Part}
use Rattle.keep_meaning.specs.Marks.{Mention, start}
use Rattle.keep_meaning.specs.Meaning.{lines, mentions_in}
use Rattle.keep_meaning.specs.Nodes.{kinds_at}
use Rattle.keep_edit_spec.specs.Changed.{Changed}
use Rattle.keep_edit_spec.specs.ClearedLines.{line_start}
use Rattle.keep_edit_spec.specs.DottedLines.{AddsDotted, StillAdds}
use Rattle.keep_edit_spec.specs.Edits.{end_of}
use Rattle.keep_edit_spec.specs.Lines.{newline_of}
use Rattle.keep_edit_spec.specs.Look.{holder}
use Rattle.keep_edit_spec.specs.TextChanges.{IsBeside, TextChange, moved, moved_by}
use Rattle.keep_edit_spec.proofs.Lists.DottedAgain.{dotted_again}
use Rattle.keep_edit_spec.proofs.Lists.DottedLine.{at_is}
use Rattle.keep_edit_spec.proofs.Lists.LedAlike.{AreLedAlike, body_alike, last_alike}
use Rattle.keep_edit_spec.proofs.Lists.LineStarts.{LinesBegin, line_moves, line_stays}
use Rattle.keep_edit_spec.proofs.Lists.RenamePlaces.{IsChangeAt}
use Rattle.keep_edit_spec.proofs.Lists.SaidOfPrefixes.{holder_same, refusal_same}
use Rattle.keep_edit_spec.proofs.Lists.TextChanges.{behind, unmoved}

-- where the next line begins then: it is beside the change,
pub next_moves : (profile : Profile) (limit : ℕ) (s : Document) (path : List Part) (value : Value) (d : TextChange)
    (k : AddsDotted profile limit s path value d) (x : Changed Document) (c : TextChange) → LinesBegin s x
    → IsChangeAt c x → 0 < c.size → IsBeside c d → line_start x.to (suc k.number) ≡ moved_by c d.at
next_moves profile limit s path value d k x c begin there some side =
    omega (
      arith,
      line_moves s x c d begin there some side (suc k.number) 0 (omega arith)
          (omega (arith, at_is profile limit s path value d k)),
    )

-- or begins with it
pub next_stays : (profile : Profile) (limit : ℕ) (s : Document) (path : List Part) (value : Value) (d : TextChange)
    (k : AddsDotted profile limit s path value d) (x : Changed Document) (c : TextChange) → LinesBegin s x
    → IsChangeAt c x → 0 < c.size → c.at ≡ d.at → line_start x.to (suc k.number) ≡ moved_by (behind d.at) d.at
next_stays profile limit s path value d k x c begin there some same =
    line_stays s x c begin there some (suc k.number) (same ∙ at_is profile limit s path value d k)
    ∙ sym (at_is profile limit s path value d k) ∙ sym (unmoved d.at)

module _ (profile : Profile) (limit : ℕ) (s : Document) (x : Changed Document) (begin : LinesBegin s x) where
  pub dotted_beside : (path : List Part) (value : Value) (d : TextChange) (k : AddsDotted profile limit s path value d)
      (c : TextChange) → line_start x.to (suc k.number) ≡ moved_by c d.at → newline_of x.to ≡ newline_of s
      → ((q rest : List Part) → path ≡ q ++ rest
      → kinds_at q (mentions_in x.to) ≡ kinds_at q (mentions_in s))
      → end_of x.to (holder path (mentions_in s)) ≡ end_of s (holder path (mentions_in s))
      → AreLedAlike (holder path (mentions_in s)) start start (lines s) (lines x.to)
      → StillAdds true profile limit s x.to path value (moved c d)
  dotted_beside path value d k c at newline said end led =
      let n : ℕ = k.number in
      let ms : List Mention = mentions_in s in
      let now : List Mention = mentions_in x.to in
      let a : List Part = holder path ms in
      dotted_again profile limit s x.to path value c d k n
      (record {
        bare = end ∙ k.bare;
        last = last_alike a start start (lines s) (lines x.to) led ∙ k.last;
        body = body_alike a start start (lines s) (lines x.to) n led k.last;
        closed = omega (arith, k.closed, begin.count);
      }) at newline (holder_same ms now path k.text k.more k.new said)
      (refusal_same ms now path k.text k.more k.new said profile limit value ∙ k.allowed)
