-- What the strings of a document mean, as it is handed out.
use Rattle.std.specs.Prelude.{ℕ, Bool, ◌||◌, List, string_bytes}
use Rattle.keep_types.specs.declared.leaf.Leaf.{Leaf}
use Rattle.keep_token.specs.Leaves.{is_many_lines, is_one_line}
use Rattle.keep_edit.specs.declared.str_text.StrText.{StrText}
use Rattle.keep_edit.specs.declared.str_text.StrText.TheVariants.{Decoded, Plain}

-- a string's leaf: with one mark on each side, or with three
abbrev pub is_quoted : Leaf → Bool
is_quoted l = is_one_line l || is_many_lines l

-- the bytes of the text
abbrev pub text_of_str : StrText → List ℕ
text_of_str (Plain text) = text.now
text_of_str (Decoded text) = string_bytes text
