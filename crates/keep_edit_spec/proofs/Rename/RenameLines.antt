-- Lines of which one has a key part renamed: they say the same line by line, with the paths changed.
--
-- How a line is read depends on the table paths before it (`Reading`), and these are changed too (`moved_reading`). So
-- the lines are compared one by one, each with its own reading (`one_more`). Of the line with the key part,
-- `content_renamed` gives what it says then. The path is named once (`Once`), so no other line names it, and each says
-- the same with the paths changed (`content_preserved`; `lines_preserved` for all after the renamed one). Nothing is
-- said at or under the new path, so no `[[..]]` line has a path there (`clear_content`). The change is in the first
-- line (`here_renamed`), or in a later one (`further_renamed`).
--
-- Theorems: `lines_renamed`: all lines; `line_renamed`: the one with the key part.
use Rattle.std.proofs.Common.{◌≡◌, ℕ, List, [], ◌∷◌, ◌++◌, map, refl, sym, subst, Option, Some, None}
use Rattle.std.specs.Prelude.{position}
use Rattle.keep_types.specs.declared.leaf.Profile.{Profile}
use Rattle.keep_syntax.specs.Tree.{Content, blank, keyval, header, element, Line, Ended, comment_leaves, ended_leaves}
use Rattle.keep_syntax.specs.Tree.{text_of}
use Rattle.keep_syntax.specs.Grammar.{IsLine}
use Rattle.keep_path.specs.Path.{Part, same_path, moved_path}
use Rattle.keep_meaning.specs.Marks.{Mention, Reading, header_path, header_prefixes}
use Rattle.keep_meaning.specs.Meaning.{keys_of, line_mentions, after_line, lines_mentions, line_of}
use Rattle.keep_edit_spec.specs.Look.{strip}
use Rattle.keep_edit_spec.specs.Changed.{within}
use Rattle.keep_edit_spec.specs.Lines.{Page, page_text, part_paths, rename_content, rename_line, in_lines}
use Rattle.keep_edit_spec.specs.Edits.{key_part}
use Rattle.keep_edit_spec.proofs.Common.Runs.{AllOf, SomeOf, all_left, all_right, all_join, some_left, some_right}
use Rattle.keep_edit_spec.proofs.Common.Runs.{IsDisjoint}
use Rattle.keep_edit_spec.proofs.Common.SetLaw.{IsSolidAt, EachTo, to_within, to_or_else}
use Rattle.keep_edit_spec.proofs.Common.SetDocument.{page_lines}
use Rattle.keep_edit_spec.proofs.Common.LineLaws.{EndsInKey}
use Rattle.keep_edit_spec.proofs.Rename.MovedLines.{AreLinesMoved}
use Rattle.keep_edit_spec.proofs.Common.NewLines.{IsKeyText}
use Rattle.keep_edit_spec.proofs.Rename.RenamedPath.{IsBeside, ends_old}
use Rattle.keep_edit_spec.proofs.Rename.RenamedKeys.{AreClear}
use Rattle.keep_edit_spec.proofs.Rename.RenameOnce.{Once, once_after, once_right}
use Rattle.keep_edit_spec.proofs.Rename.RenameContent.{content_mentions, content_after, moved_reading, IsContentMoved}
use Rattle.keep_edit_spec.proofs.Rename.RenameContent.{content_preserved, IsContentRenamed, content_renamed}

-- the full paths of the `[[..]]` lines are not at or under a path where nothing is said there
pub clear_content : (b : List Part) (r : Reading) (c : Content) → AreClear b r.tables
    → AllOf (IsDisjoint b) (content_mentions r c) → AreClear b (content_after r c).tables
clear_content b r blank clear disjoint = clear
clear_content b r (keyval name v) clear disjoint = clear
clear_content b r (header x k y) clear disjoint = clear
clear_content b r (element x k y) clear disjoint =
    all_join (λ t. strip b t ≡ None) r.tables (header_path r.tables [] (keys_of k) ∷ []) clear
    ((all_right (IsDisjoint b) (header_prefixes r.tables [] (keys_of k)) _ disjoint).0, tt)

-- the first line says the same, and so do those after it
one_more : (p b : List Part) (r : Reading) (l l' : Line) (ls ls' : List Line)
    → IsContentMoved p b r l.content l'.content → (let f : List Part → List Part = moved_path p b in
    AreLinesMoved f (after_line r l) (moved_reading f (after_line r l)) ls ls'
    → AreLinesMoved f r (moved_reading f r) (l ∷ ls) (l' ∷ ls'))
one_more p b r l l' ls ls' m more =
    let f : List Part → List Part = moved_path p b in (
      record { stated = m.stated; mentioned = m.mentioned },
      subst (λ (x : Reading). AreLinesMoved f (after_line r l) x ls ls') (sym m.after) more,
    )

-- lines that say nothing of the path itself
pub lines_preserved : (p b : List Part) → EndsInKey p → (r : Reading) (ls : List Line) → AreClear b r.tables
    → AllOf (IsDisjoint b) (lines_mentions r ls) → (SomeOf (IsSolidAt p) (lines_mentions r ls) → ⊥)
    → AreLinesMoved (moved_path p b) r (moved_reading (moved_path p b) r) ls ls
lines_preserved p b ends r [] clear disjoint never = tt
lines_preserved p b ends r (l ∷ ls) clear disjoint never =
    let first : List Mention = line_mentions r l in
    let rest : List Mention = lines_mentions (after_line r l) ls in
    let disjoint_first = all_left (IsDisjoint b) first rest disjoint in
    one_more p b r l l ls ls (content_preserved p b r ends clear l.content disjoint_first
    (λ s. never (some_left (IsSolidAt p) first rest s)))
    (lines_preserved p b ends (after_line r l) ls (clear_content b r l.content clear disjoint_first)
    (all_right (IsDisjoint b) first rest disjoint) (λ s. never (some_right (IsSolidAt p) first rest s)))

-- ---- the line with the key

pub record IsLineRenamed (profile : Profile) (p b : List Part) (r : Reading) (l l' : Line) : Type 0 where
  pub content : IsContentRenamed profile p b r l.content l'.content
  pub valid : IsLine profile l → IsLine profile l'

pub line_renamed : (profile : Profile) (t : List ℕ) (p b : List Part) → IsKeyText profile t → IsBeside t p b
    → (r : Reading) (l : Line) → EachTo (IsLineRenamed profile p b r l) (rename_line (key_part t) p r l)
line_renamed profile t p b text beside r l = by (position (same_path p) (part_paths r l.content)) refl
  where
    by : (o : Option ℕ) → position (same_path p) (part_paths r l.content) ≡ o
        → EachTo (IsLineRenamed profile p b r l) (elim o [
          | None ↦ None
          | Some n ↦
              within (λ c. record l { content = c }) (text_of l.before)
              (text_of l.after ++ text_of (comment_leaves l.comment)) (rename_content (key_part t) n l.content)
        ])
    by None e = tt
    by (Some n) e =
        to_within (IsContentRenamed profile p b r l.content) (IsLineRenamed profile p b r l)
        (λ c. record l { content = c }) (text_of l.before) (text_of l.after ++ text_of (comment_leaves l.comment))
        (rename_content (key_part t) n l.content)
        (λ c h. record {
          content = h;
          valid = λ w.
              record {
                before = w.before;
                content = h.valid w.content;
                after = h.after l.after w.after;
                comment = w.comment;
              };
        })
        (content_renamed profile t p b r text beside n l.content e)

-- one line is renamed, and the others say nothing of the path
pub record AreLinesRenamed (p b : List Part) (r : Reading) (from to : List Line) : Type 0 where
  pub some : SomeOf (IsSolidAt p) (lines_mentions r from)
  pub moves : AreClear b r.tables → AllOf (IsDisjoint b) (lines_mentions r from) → Once p (lines_mentions r from)
      → AreLinesMoved (moved_path p b) r (moved_reading (moved_path p b) r) from to

here_renamed : (profile : Profile) (p b : List Part) → EndsInKey p → (r : Reading) (l l' : Line) (ls : List Line)
    → IsLineRenamed profile p b r l l' → AreLinesRenamed p b r (l ∷ ls) (l' ∷ ls)
here_renamed profile p b ends r l l' ls h =
    let first : List Mention = line_mentions r l in
    let rest : List Mention = lines_mentions (after_line r l) ls in
    record {
      some = some_left (IsSolidAt p) first rest h.content.some;
      moves = λ clear disjoint once.
          (let disjoint_first = all_left (IsDisjoint b) first rest disjoint in
          one_more p b r l l' ls ls (h.content.moves clear disjoint_first)
          (lines_preserved p b ends (after_line r l) ls (clear_content b r l.content clear disjoint_first)
          (all_right (IsDisjoint b) first rest disjoint) (once_after p first rest once h.content.some)));
    }

further_renamed : (p b : List Part) → EndsInKey p → (r : Reading) (l : Line) (ls ls' : List Line)
    → AreLinesRenamed p b (after_line r l) ls ls' → AreLinesRenamed p b r (l ∷ ls) (l ∷ ls')
further_renamed p b ends r l ls ls' h =
    let first : List Mention = line_mentions r l in
    let rest : List Mention = lines_mentions (after_line r l) ls in
    record {
      some = some_right (IsSolidAt p) first rest h.some;
      moves = λ clear disjoint once.
          (let disjoint_first = all_left (IsDisjoint b) first rest disjoint in
          one_more p b r l l ls ls' (content_preserved p b r ends clear l.content disjoint_first
          (λ s. once_after p first rest once s h.some))
          (h.moves (clear_content b r l.content clear disjoint_first) (all_right (IsDisjoint b) first rest disjoint)
          (once_right p first rest once)));
    }

pub lines_renamed : (profile : Profile) (t : List ℕ) (p b : List Part) → IsKeyText profile t → IsBeside t p b
    → (r : Reading) (es : List Ended) (last : Line)
    → EachTo (λ g. AreLinesRenamed p b r (map line_of es ++ last ∷ []) (page_lines g))
    (in_lines (rename_line (key_part t) p) r es last)
lines_renamed profile t p b text beside r [] last =
    to_within (IsLineRenamed profile p b r last) (λ g. AreLinesRenamed p b r (last ∷ []) (page_lines g))
    (λ l. record { ended = []; last = l }) [] [] (rename_line (key_part t) p r last)
    (λ l h. here_renamed profile p b (ends_old t p b beside) r last l [] h)
    (line_renamed profile t p b text beside r last)
lines_renamed profile t p b text beside r (e ∷ es) last =
    let P : Page → Type 0 = λ g. AreLinesRenamed p b r (map line_of (e ∷ es) ++ last ∷ []) (page_lines g) in
    to_or_else P _ _
    (to_within (IsLineRenamed profile p b r e.line) P
    (λ l. record { ended = record { line = l; newline = e.newline } ∷ es; last = last }) []
    (e.newline.text ++ page_text (record { ended = es; last = last })) (rename_line (key_part t) p r e.line)
    (λ l h. here_renamed profile p b (ends_old t p b beside) r e.line l (map line_of es ++ last ∷ []) h)
    (line_renamed profile t p b text beside r e.line))
    (to_within (λ g. AreLinesRenamed p b (after_line r e.line) (map line_of es ++ last ∷ []) (page_lines g)) P
    (λ g. record { ended = e ∷ g.ended; last = g.last }) (text_of (ended_leaves e)) []
    (in_lines (rename_line (key_part t) p) (after_line r e.line) es last)
    (λ g h. further_renamed p b (ends_old t p b beside) r e.line (map line_of es ++ last ∷ []) (page_lines g) h)
    (lines_renamed profile t p b text beside (after_line r e.line) es last))
