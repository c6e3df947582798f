-- What is known to leave the first newline of the document of a text: where the text has no carriage return, what has
-- none; else what comes behind the first line.
--
-- Theorems: `feeds_known`, `line_known`, `none_known`.
use Rattle.std.proofs.Common.{◌≡◌, ◌≢◌, ◌≤◌, ℕ, Bool, List, ap, arith, false, length, refl, subst, sym, true}
use Rattle.std.specs.Prelude.{◌==◌}
use Rattle.std.proofs.lemmas.Bool.{ne_eqb}
use Rattle.std.proofs.lemmas.List.Elements.{All-weaker}
use Rattle.std.proofs.lemmas.List.Folds.{list_any_none}
use Rattle.keep_syntax.specs.Tree.{Document, text}
use Rattle.keep_edit_spec.specs.FirstNewline.{ComesAfter, IsPlain, LeavesNewlineOf, has_return}
use Rattle.keep_edit_spec.specs.TextChanges.{TextChange, change_at}
use Rattle.keep_edit_spec.proofs.Shared.{first_line_within, plain_by}
use Rattle.keep_edit_plan.proofs.Shared.{editable}
use Rattle.keep_edit_plan.specs.Newlines.{IsFirstLineEnd}
use Rattle.keep_edit_plan.specs.Reading.{IsTextOfTree, ProfiledText, limit}
use Rattle.keep_edit_runs.specs.Newlines.{IsNewlineOf}
use Rattle.keep_edit_runs.specs.declared.newline.Newline.TheVariants.{After, LineFeed, Unknown}

has_none : (bytes : List ℕ) → IsPlain bytes → has_return bytes ≡ false
has_none bytes plain =
    list_any_none (λ b. b == 0x0D) bytes
    (All-weaker (λ (b : ℕ). b ≢ 0x0D) (λ (b : ℕ). (b == 0x0D) ≡ false) (λ b other. ne_eqb b 0x0D other) bytes plain)

-- no carriage return is in the text
pub feeds_known : (now : ProfiledText) → IsPlain now.text → IsNewlineOf now LineFeed
feeds_known now plain = record {
  changes = leaves;
  ends = λ new its. leaves (change_at (length now.text) 0 new) its;
}
  where
    leaves : (c : TextChange) → IsPlain c.new → (s : Document) → IsTextOfTree now s
        → LeavesNewlineOf (has_return (text s)) s c
    leaves c its s read =
        subst (λ (b : Bool). LeavesNewlineOf b s c)
        (sym (has_none (text s) (subst IsPlain read.reads.spelled plain))) its

-- one is, and the first line ends at this byte
pub line_known : (now : ProfiledText) (end : ℕ) → (IsPlain now.text → ⊥)
    → ((s : Document) → IsTextOfTree now s → IsFirstLineEnd s end) → IsNewlineOf now (After end)
line_known now end some ends = record {
  changes = leaves;
  ends = λ new its s read.
      let (line, (is, long)) = ends s read in
      leaves (change_at (length now.text) 0 new)
      (omega (
        arith,
        first_line_within now.profile limit s (editable now s read) line is,
        long,
        ap (λ (bytes : List ℕ). length bytes) read.reads.spelled,
      )) s read;
}
  where
    returns : (s : Document) → IsTextOfTree now s → has_return (text s) ≡ true
    returns s read = by (has_return (text s)) refl
      where
        by : (b : Bool) → has_return (text s) ≡ b → has_return (text s) ≡ true
        by true is = is
        by false is = absurd (some (subst IsPlain (sym read.reads.spelled) (plain_by (text s) is)))

    leaves : (c : TextChange) → end ≤ c.at → (s : Document) → IsTextOfTree now s
        → LeavesNewlineOf (has_return (text s)) s c
    leaves c after s read =
        let (line, (is, long)) = ends s read in
        let behind : length line ≤ c.at = omega (arith, after, long) in
        subst (λ (b : Bool). LeavesNewlineOf b s c) (sym (returns s read))
        (subst (λ l. ComesAfter l c) (sym is) behind)

-- it is not known
pub none_known : (now : ProfiledText) → IsNewlineOf now Unknown
none_known now = record { changes = λ c never. absurd never; ends = λ new never. absurd never }
