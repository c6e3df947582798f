-- What is read to replace lines.
use Rattle.std.specs.Prelude.{◌≡◌, ℕ, ◌+◌, List, length}
use Rattle.keep_types.specs.declared.leaf.Profile.{Profile}
use Rattle.keep_types.specs.declared.syntax.Span.{Span}
use Rattle.keep_syntax_store.specs.Flat.{flat}
use Rattle.keep_syntax_store.specs.Lifted.{moved}
use Rattle.keep_syntax_store.specs.Rereading.{replaced_starts}
use Rattle.keep_syntax.specs.declared.reread.NewLines.{NewLines}
use Rattle.keep_syntax.specs.FlatLines.{DocumentIs}

-- Lines with these bytes were read, to be put in the place of whole lines of a text with so many bytes, in which lines
-- begin at `starts`: what is stored of them, how many bytes they have and where they end; then where all lines begin,
-- and how many bytes there are.
pub record AreNewLines (profile : Profile) (limit : ℕ) (bytes : List ℕ) (starts : List ℕ) (len : ℕ) (whole : Span)
    (new : NewLines) : Type 0 where
  pub begins : List ℕ
  pub read : DocumentIs profile limit bytes (flat new.parts) begins
  pub size : new.size ≡ length bytes
  pub end : new.end ≡ whole.start + new.size
  pub starts_are : new.starts ≡ replaced_starts starts begins whole len new.size new.end
  pub len_is : new.len ≡ moved whole.end new.end len
