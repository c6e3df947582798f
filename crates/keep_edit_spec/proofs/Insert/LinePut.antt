-- The line that an insert of one key or of several puts before a line, or after the last: where it comes among the
-- lines, and what the document says with it.
--
-- Theorems: `put`, `edited_with`; `edited`: where nothing is in the value.
use Rattle.std.proofs.Common.{◌≡◌, ℕ, suc, ◌≤◌, List, [], ◌∷◌, ◌++◌, length, take, drop, ap, ◌∙◌, Option}
use Rattle.keep_syntax.specs.Tree.{Value, Line, Ended, Document, keyval}
use Rattle.keep_path.specs.Path.{Part}
use Rattle.keep_meaning.specs.Counts.{statements_in}
use Rattle.keep_meaning.specs.Marks as marks
use Rattle.keep_meaning.specs.Marks.{Statement, value as kinds_value}
use Rattle.keep_meaning.specs.Meaning.{body_fact, entries_mentions, keyed_mentions, keys_of, keyval_mentions, line_of}
use Rattle.keep_meaning.specs.Meaning.{lines, valued_mentions}
use Rattle.keep_edit_spec.specs.Changed.{Changed}
use Rattle.keep_edit_spec.specs.Edits.{at_line, change, changed_or_same, edited_document, insert, name_with}
use Rattle.keep_edit_spec.specs.KeyvalLines.{bare_value}
use Rattle.keep_edit_spec.specs.Lines.{new_line, newline_of, put_lines}
use Rattle.keep_edit_spec.proofs.Common.LineStatements.{put_statements, statements-append, statements_of}
use Rattle.keep_edit_spec.proofs.Common.SetDocument.{page_lines}

-- The insert puts the line before line n, with these keys, and they mean themselves.
module _ (s : Document) (path : List Part) (text : List ℕ) (more : List (List ℕ)) (value : Value) (n : ℕ)
    (changes : (v : Value)
    → change s (insert path v) ≡ at_line s n (keyval (name_with (text ∷ more)) v ∷ []))
    (few : n ≤ suc (length s.ended)) (means : keys_of (name_with (text ∷ more)).key ≡ text ∷ more) where
  abbrev before : List Line
  before = take n (lines s)

  abbrev after : List Line
  after = drop n (lines s)

  abbrev line_with : Value → Ended
  line_with v = new_line (newline_of s) (keyval (name_with (text ∷ more)) v)

  -- the new line is put among the lines
  pub put : (v : Value) → lines (edited_document s (insert path v))
      ≡ page_lines (put_lines n (line_with v ∷ []) (newline_of s) s.ended s.last).to
  put v = ap (λ (o : Option (Changed Document)). lines (changed_or_same s o).to) (changes v)

  -- what the keys say with a value
  abbrev said_by : Value → List (List ℕ) → Statement
  said_by v ks =
      marks.keyval (keyed_mentions ks (valued_mentions (kinds_value (body_fact v.body)) (entries_mentions 0 v.nested)))

  said : (v : Value) → marks.keyval (keyval_mentions (name_with (text ∷ more)) v) ≡ said_by v (text ∷ more)
  said v = ap (said_by v) means

  pub edited_with : (v : Value) → statements_in (edited_document s (insert path v))
      ≡ statements_of before ++ said_by v (text ∷ more) ∷ statements_of after
  edited_with v =
      ap statements_of (put v) ∙ put_statements n (line_with v ∷ []) (newline_of s) s.ended s.last few
      ∙ statements-append before (line_of (line_with v) ∷ after)
      ∙ ap (λ (st : Statement). statements_of before ++ st ∷ statements_of after) (said v)

  -- with nothing in it
  pub edited : statements_in (edited_document s (insert path (bare_value value)))
      ≡ statements_of before ++ said_by (bare_value value) (text ∷ more) ∷ statements_of after
  edited = edited_with (bare_value value)
