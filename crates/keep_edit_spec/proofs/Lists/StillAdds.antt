-- An insert that adds a line adds the same one after another insert, of another first new key, added its line.
--
-- The document says of the second path what it said (SaidOnWay), so the insert is not refused, and its holder and
-- first new key are the same. The holder's body ends where it did, or a line later (BodyEnds), so the line comes at the
-- moved place (PutsKeyval).
--
-- Theorem: `still_adds`.
use Rattle.std.proofs.Common.{◌∷◌}
use Rattle.keep_syntax.specs.Tree.{Document, Name}
use Rattle.keep_meaning.specs.Meaning.{mentions_in}
use Rattle.keep_edit_spec.specs.AddedLines.{StillAddsLine}
use Rattle.keep_edit_spec.specs.Edits.{edited_document, insert, name_with}
use Rattle.keep_edit_spec.specs.Look.{holder}
use Rattle.keep_edit_spec.proofs.Lists.BodyEnds.{cut_at, end_moves}
use Rattle.keep_edit_spec.proofs.Lists.LineOnWay.{AddsOnWay, line_on_way}
use Rattle.keep_edit_spec.proofs.Lists.NewPaths.{InsertsKeys, line_keys}
use Rattle.keep_edit_spec.proofs.Lists.PutsKeyval.{PutsKeyval, line_puts, line_still, lines_are}
use Rattle.keep_edit_spec.proofs.Lists.SaidOnWay.{holder_stays, refusal_stays}

pub still_adds : StillAddsLine
still_adds profile limit s path value l other more m fine h k differs =
    let now : Document = edited_document s (insert path value) in
    let name : Name = name_with (h.text ∷ h.more) in
    let p : PutsKeyval s now h.number name value l = line_puts profile limit s path value l fine h in
    let way : AddsOnWay profile limit s path value = line_on_way profile limit s path value l h in
    let keys : InsertsKeys profile limit s other more = line_keys profile limit s other more m k in
    line_still s now h.number name value l p profile limit other more m fine k
    (holder_stays profile limit s path value way other more keys differs)
    (refusal_stays profile limit s path value way other more keys differs)
    (end_moves name value s now h.number (holder other (mentions_in s)) k.number
    (cut_at name value s (holder path (mentions_in s)) h.number h.ends)
    (lines_are s now h.number name value l p) k.ends)
