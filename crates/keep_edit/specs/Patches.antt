-- An edit that is written into the bytes of a text, and what undoes it.
use Rattle.std.specs.Prelude.{◌≡◌, ℕ, ◌+◌, ◌≤◌, List, length, Result, Ok, Err, IsUtf8, String, string_bytes}
use Rattle.std.specs.Prelude.{string_capacity, string_len}
use Rattle.std.specs.Global.{Global}
use Rattle.keep_meaning.specs.KeyText.{text_at}
use Rattle.keep_edit_plan.specs.Answers.{IsSpanOf, text_after}
use Rattle.keep_edit_plan.specs.declared.text_edit.TextEdit.{TextEdit}

-- The edit was written into this text, whose bytes were these before. The bytes that it replaced are kept, and the text
-- has room to take them back.
pub record CanPutBack (made : TextEdit) (before replaced_bytes : List ℕ) (text : String Global) : Type 0 where
  pub utf8 : IsUtf8 before
  pub within : IsSpanOf before made.place
  pub was : replaced_bytes ≡ text_at before made.place
  pub put : string_bytes text ≡ text_after before made
  pub room : string_len text + length replaced_bytes ≤ string_capacity text

-- The edit was written, and the replaced bytes are kept; or memory ran out, and the text is as before.
abbrev pub IsPutIn : {E : Type 0} → TextEdit → String Global → String Global → Result (String Global) E → Type 0
IsPutIn made old new (Ok replaced_bytes) = CanPutBack made (string_bytes old) (string_bytes replaced_bytes) new
IsPutIn made old new (Err f) = string_bytes new ≡ string_bytes old
