-- The document where a key is renamed says the same line by line, with the paths changed.
--
-- Theorems: `moved_lines`: the key is one of a header or of a keyval's own; `moved_nested`: it is in braces.
use Rattle.std.proofs.Common.{◌≡◌, ℕ, List, [], ◌∷◌, ◌++◌, map, sym, ap, subst, ◌∙◌}
use Rattle.keep_types.specs.declared.leaf.Profile.{Profile}
use Rattle.keep_syntax.specs.Tree.{Line, Document, text}
use Rattle.keep_syntax.specs.Grammar.{IsDocument}
use Rattle.keep_path.specs.Path.{Part, moved_path}
use Rattle.keep_meaning.specs.Marks.{start}
use Rattle.keep_meaning.specs.Meaning.{statement_of, keyval_mentions, lines_mentions, lines, mentions_in}
use Rattle.keep_edit_spec.specs.Values.{renaming}
use Rattle.keep_edit_spec.specs.Lines.{rename_line, in_line, in_lines, in_document, with_page}
use Rattle.keep_edit_spec.specs.Edits.{key_part, nested}
use Rattle.keep_edit_spec.proofs.Common.Runs.{AllOf, IsDisjoint, Rules}
use Rattle.keep_edit_spec.proofs.Common.SetLaw.{EachTo, to_within}
use Rattle.keep_edit_spec.proofs.Common.SetDocument.{page_lines}
use Rattle.keep_edit_spec.proofs.Common.Moves.{moved}
use Rattle.keep_edit_spec.proofs.Rename.MovedLines.{AreLinesMoved, lines_around}
use Rattle.keep_edit_spec.proofs.Common.InValue.{LinesDone, done_lines, mentions_done}
use Rattle.keep_edit_spec.proofs.Common.NewLines.{IsKeyText}
use Rattle.keep_edit_spec.proofs.Rename.RenamedPath.{IsBeside, ends_old}
use Rattle.keep_edit_spec.proofs.Rename.RenameOnce.{Once}
use Rattle.keep_edit_spec.proofs.Rename.RenameContent.{root_renamed}
use Rattle.keep_edit_spec.proofs.Rename.RenameLines.{AreLinesRenamed, lines_renamed}
use Rattle.keep_edit_spec.proofs.Rename.RenameEntry.{IsRenamedTo, does_rename}
use Rattle.keep_edit_spec.proofs.Rename.RenameInValue.{mentions_renamed}

-- line by line
abbrev pub IsMovedTo : List Part → List Part → Document → Document → Type 0
IsMovedTo p b s s' = AreLinesMoved (moved_path p b) start start (lines s) (lines s')

-- line by line the new document says the same, with the paths changed
pub moved_lines : (profile : Profile) (s : Document) (path b : List Part) (t : List ℕ) → IsKeyText profile t
    → IsBeside t path b → AllOf (IsDisjoint b) (mentions_in s) → Once path (mentions_in s)
    → EachTo (IsMovedTo path b s) (in_document s (in_lines (rename_line (key_part t) path) start s.ended s.last))
moved_lines profile s path b t text h clear once =
    to_within (λ g. AreLinesRenamed path b start (lines s) (page_lines g)) (IsMovedTo path b s) (with_page s) _ []
    (in_lines (rename_line (key_part t) path) start s.ended s.last)
    (λ g k. subst (λ (x : List Part).
    AreLinesMoved (moved_path path b) start (record { tables = []; body = x }) (lines s) (page_lines g))
    (root_renamed path b (ends_old t path b h)) (k.moves tt clear once))
    (lines_renamed profile t path b text h start s.ended s.last)

-- one keyval's line is another, where all that is said is the same with the paths changed
one_keyval : (f : List Part → List Part) (from to : List Line) (path : List Part) (t : List ℕ)
    → (h : LinesDone (IsRenamedTo t) start path from to)
    → lines_mentions start to ≡ map (moved f) (lines_mentions start from)
    → AreLinesMoved f start start from to
one_keyval f from to path t h e =
    let was : map (moved f) (lines_mentions start (h.pre ++ h.old ∷ h.post))
    ≡ map (moved f) (lines_mentions start from) =
    ap (λ (ls : List Line). map (moved f) (lines_mentions start ls)) (sym h.was) in
    let k : AreLinesMoved f start start (h.pre ++ h.old ∷ h.post) (h.pre ++ h.now ∷ h.post) =
    lines_around f start h.pre h.post h.old h.now (keyval_mentions h.content.name h.content.old)
    (keyval_mentions h.content.name h.content.now) (ap statement_of h.content.was) (ap statement_of h.content.is)
    (ap (lines_mentions start) (sym h.is) ∙ e ∙ sym was) in
    subst (λ (ls : List Line). AreLinesMoved f start start ls to) (sym h.was)
    (subst (λ (ls : List Line). AreLinesMoved f start start (h.pre ++ h.old ∷ h.post) ls) (sym h.is) k)

pub moved_nested : (profile : Profile) (s : Document) (path b : List Part) (t : List ℕ) → IsDocument profile s
    → Rules (mentions_in s) → IsKeyText profile t → IsBeside t path b → Once path (mentions_in s)
    → EachTo (IsMovedTo path b s) (nested (renaming (key_part t)) path s)
moved_nested profile s path b t valid rules text h once =
    to_within (λ g. LinesDone (IsRenamedTo t) start path (lines s) (page_lines g)) (IsMovedTo path b s) (with_page s) _
    [] (in_lines (in_line (renaming (key_part t)) path) start s.ended s.last)
    (λ g k.
    (let d = mentions_done (IsRenamedTo t) path (lines s) (page_lines g) rules k in
    one_keyval (moved_path path b) (lines s) (page_lines g) path t k
    (mentions_renamed t d.prefix path b (mentions_in s) (lines_mentions start (page_lines g)) h once d.at)))
    (done_lines profile (IsRenamedTo t) (renaming (key_part t)) (does_rename profile t text) path start s.ended s.last
    valid.ended valid.last)
