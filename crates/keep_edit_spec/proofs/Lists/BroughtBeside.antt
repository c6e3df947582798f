-- An insert that brings the header of its table brings the same after a change within one line beside it, where the
-- change leaves what the insert asks of the document.
--
-- That is what is said of its path and of the prefixes of it (SaidOfPrefixes), and of its table that no header begins a
-- body of it, which line is the last that leads through it by its own key, which header is the last that goes through
-- it, and where the bodies of headers end (`IsTableLeft`). Then the body of that last header ends at the same line,
-- which begins where it did, or moved by the change (LineStarts). So the same header comes there (BroughtAgain).
--
-- Theorem: `brought_beside`.
use Rattle.std.proofs.Common.{◌≡◌, ℕ, ◌<◌, List, ◌++◌, ap, ◌∙◌, arith}
use Rattle.keep_types.specs.declared.leaf.Profile.{Profile}
use Rattle.keep_syntax.specs.Tree.{Document, Value}
use Rattle.keep_path.specs.Path.{Part}
use Rattle.keep_meaning.specs.Marks.{Mention, start}
use Rattle.keep_meaning.specs.Meaning.{lines, mentions_in}
use Rattle.keep_meaning.specs.Nodes.{kinds_at}
use Rattle.keep_edit_spec.specs.BroughtHeaders.{BringsHeader, StillBrings}
use Rattle.keep_edit_spec.specs.Changed.{Changed}
use Rattle.keep_edit_spec.specs.ClearedLines.{line_start}
use Rattle.keep_edit_spec.specs.Edits.{end_of}
use Rattle.keep_edit_spec.specs.Lines.{body_end, last_line, leads_dotted, leads_through, newline_of}
use Rattle.keep_edit_spec.specs.Look.{holder}
use Rattle.keep_edit_spec.specs.TextChanges.{IsBeside, TextChange, moved, moved_by}
use Rattle.keep_edit_spec.proofs.Lists.BroughtAgain.{brought_again}
use Rattle.keep_edit_spec.proofs.Lists.BroughtLines.{at_is}
use Rattle.keep_edit_spec.proofs.Lists.LineStarts.{LinesBegin, line_moves}
use Rattle.keep_edit_spec.proofs.Lists.RenamePlaces.{IsChangeAt}
use Rattle.keep_edit_spec.proofs.Lists.SaidOfPrefixes.{holder_same, refusal_same}

-- What is found of a table in the lines of another document is as it was: where its body ends, the last keyval that
-- leads through it, the last header that goes through it, and where the body of each header ends.
pub record IsTableLeft (s now : Document) (a : List Part) : Type 0 where
  pub ends : end_of now a ≡ end_of s a
  pub dotted : last_line (leads_dotted a) start (lines now) ≡ last_line (leads_dotted a) start (lines s)
  pub through : last_line (leads_through a) start (lines now) ≡ last_line (leads_through a) start (lines s)
  pub bodies : (i : ℕ) → body_end i (lines now) ≡ body_end i (lines s)

module _ (profile : Profile) (limit : ℕ) (s : Document) (x : Changed Document) (c : TextChange)
    (begin : LinesBegin s x) (there : IsChangeAt c x) (some : 0 < c.size) where
  pub brought_beside : (path : List Part) (value : Value) (d : TextChange) → BringsHeader profile limit s path value d
      → IsBeside c d → newline_of x.to ≡ newline_of s
      → ((q rest : List Part) → path ≡ q ++ rest
      → kinds_at q (mentions_in x.to) ≡ kinds_at q (mentions_in s))
      → IsTableLeft s x.to (holder path (mentions_in s)) → StillBrings profile limit s x.to path value (moved c d)
  brought_beside path value d k side newline said left =
      let ms : List Mention = mentions_in s in
      let now : List Mention = mentions_in x.to in
      let n : ℕ = body_end k.number (lines s) in
      let same : body_end k.number (lines x.to) ≡ n = left.bodies k.number in
      let begins : line_start x.to n ≡ moved_by c d.at =
      omega (
        arith,
        line_moves s x c d begin there some side n 0 (omega arith)
            (omega (arith, at_is profile limit s path value d k)),
      ) in
      brought_again profile limit s x.to path value c d k k.number
      (record {
        bare = left.ends ∙ k.bare;
        no_dots = left.dotted ∙ k.no_dots;
        last = left.through ∙ k.last;
        closed = omega (arith, k.closed, begin.count, same);
      }) (ap (line_start x.to) same ∙ begins) newline (holder_same ms now path k.text k.more k.new said)
      (refusal_same ms now path k.text k.more k.new said profile limit value ∙ k.allowed)
