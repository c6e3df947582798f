-- The text of a key, as it is stored.
use Rattle.std.specs.Prelude.{ℕ, List, string_bytes}
use Rattle.keep_index_store.specs.declared.stored_key.Form.{Form}
use Rattle.keep_index_store.specs.declared.stored_key.Form.TheVariants.{Short, Long}

-- the bytes of the text
abbrev pub text_in : Form → List ℕ
text_in (Short text) = text.bytes
text_in (Long text) = string_bytes text
