-- All that holds of `remove` where it makes a change.
--
-- Theorems: `remove_key_is_right`: at a path that ends in a key, where no header goes through it;
-- `remove_value_is_right`: at a path that begins no body; `remove_by`: the rules and the tree, where they are right for
-- the lines of a section or an element.
use Rattle.std.proofs.Common.{◌≡◌, ℕ, suc, false, List, drop, sym, subst, Option, Some, None}
use Rattle.keep_types.specs.declared.leaf.Profile.{Profile}
use Rattle.keep_syntax.specs.Tree.{Document}
use Rattle.keep_syntax.specs.Grammar.{IsDocument}
use Rattle.keep_path.specs.Path.{Part}
use Rattle.keep_meaning.specs.Rules.{ObeysRules}
use Rattle.keep_meaning.specs.Marks.{marks, start}
use Rattle.keep_meaning.specs.Meaning.{lines, mentions_in}
use Rattle.keep_meaning.specs.Nodes.{has, is_through}
use Rattle.keep_edit_spec.specs.Lines.{last_line, begins, body_length}
use Rattle.keep_edit_spec.specs.Edits.{remove, change, without_lines}
use Rattle.keep_edit_spec.proofs.Common.Runs.{Rules}
use Rattle.keep_edit_spec.proofs.Common.LineTexts.{change-is}
use Rattle.keep_edit_spec.proofs.Common.LineLaws.{EndsInKey}
use Rattle.keep_edit_spec.proofs.Common.SetLaw.{EachTo, to_or_else}
use Rattle.keep_edit_spec.proofs.Common.SetDocument.{IsLawful}
use Rattle.keep_edit_spec.proofs.Common.SetWhole.{IsSetWhole, EachChange, together}
use Rattle.keep_edit_spec.proofs.Common.Marks.{rules_of_document}
use Rattle.keep_edit_spec.proofs.Remove.RemoveInValue.{removed_in_value}
use Rattle.keep_edit_spec.proofs.Remove.RemoveLines.{line_cleared, line_dropped}
use Rattle.keep_edit_spec.proofs.Remove.RemoveSection.{section_dropped}
use Rattle.keep_edit_spec.proofs.Remove.RemoveValid.{valid_remove}

-- by what holds of a section's or an element's lines
pub remove_by : (profile : Profile) (s : Document) (path : List Part) → IsDocument profile s → Rules (mentions_in s)
    → EachTo (IsLawful s (remove path))
    (elim (last_line (begins path) start (lines s)) [
      | None ↦ None
      | Some i ↦
          without_lines s i (suc (body_length (drop (suc i) (lines s))))
    ])
    → EachTo (IsLawful s (remove path)) (change s (remove path))
remove_by profile s path valid rules section =
    to_or_else (IsLawful s (remove path)) _ _ (line_cleared s path rules)
    (to_or_else (IsLawful s (remove path)) _ _ (line_dropped s path rules)
    (to_or_else (IsLawful s (remove path)) _ _ section (removed_in_value profile s path valid rules)))

-- A path that ends in a key: a keyval in braces, a keyval's line, or a section that no header goes through.
pub remove_key_law : (profile : Profile) (s : Document) (path : List Part) → EndsInKey path → IsDocument profile s
    → Rules (mentions_in s) → has is_through path (mentions_in s) ≡ false
    → EachTo (IsLawful s (remove path)) (change s (remove path))
remove_key_law profile s path ends valid rules single =
    remove_by profile s path valid rules (section_dropped s path ends rules single)

-- A path that begins no body: of an item, or of a keyval.
pub remove_value_law : (profile : Profile) (s : Document) (path : List Part)
    → last_line (begins path) start (lines s) ≡ None → IsDocument profile s → Rules (mentions_in s)
    → EachTo (IsLawful s (remove path)) (change s (remove path))
remove_value_law profile s path no_body valid rules =
    remove_by profile s path valid rules
    (subst (λ (o : Option ℕ).
    EachTo (IsLawful s (remove path))
    (elim o [ None ↦ None | Some i ↦ without_lines s i (suc (body_length (drop (suc i) (lines s)))) ])) (sym no_body)
    tt)

pub remove_key_is_right : (profile : Profile) (s : Document) (path : List Part) → EndsInKey path → IsDocument profile s
    → ObeysRules (marks (mentions_in s)) → has is_through path (mentions_in s) ≡ false
    → EachChange (IsSetWhole profile s (remove path)) (change s (remove path))
remove_key_is_right profile s path ends valid obeys single =
    together profile s (remove path) (change s (remove path)) (valid_remove profile s path valid)
    (change-is s (remove path))
    (remove_key_law profile s path ends valid (rules_of_document s obeys) single)

pub remove_value_is_right : (profile : Profile) (s : Document) (path : List Part)
    → last_line (begins path) start (lines s) ≡ None → IsDocument profile s → ObeysRules (marks (mentions_in s))
    → EachChange (IsSetWhole profile s (remove path)) (change s (remove path))
remove_value_is_right profile s path no_body valid obeys =
    together profile s (remove path) (change s (remove path)) (valid_remove profile s path valid)
    (change-is s (remove path))
    (remove_value_law profile s path no_body valid (rules_of_document s obeys))
