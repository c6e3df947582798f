-- The line that an insert of one key or of several puts at the end of a body: where it comes among the lines, and what
-- the document says with it where nothing is in the value.
--
-- Theorems: `few`, `put`, `edited`; `edited_with`: where something is in the value.
use Rattle.std.proofs.Common.{◌≡◌, ℕ, suc, ◌≤◌, List, [], ◌∷◌, ◌++◌, length, map, take, drop, ap, ◌∙◌, arith}
use Rattle.std.proofs.Common.{length-append, Some, None}
use Rattle.std.specs.Prelude.{IsUtf8}
use Rattle.std.specs.List.{AllByRecursion}
use Rattle.std.proofs.lemmas.List.{length-map}
use Rattle.keep_types.specs.declared.leaf.Profile.{Profile}
use Rattle.keep_syntax.specs.Tree.{Value, Document, keyval}
use Rattle.keep_path.specs.Path.{Part, key}
use Rattle.keep_meaning.specs.Counts.{statements_in}
use Rattle.keep_meaning.specs.Marks as marks
use Rattle.keep_meaning.specs.Marks.{value as kinds_value}
use Rattle.keep_meaning.specs.Meaning.{body_fact, entries_mentions, keyed_mentions, keys_of, line_of, lines}
use Rattle.keep_meaning.specs.Meaning.{mentions_in, valued_mentions}
use Rattle.keep_edit_spec.specs.Edits.{at_line, change, edited_document, end_of, insert, name_with}
use Rattle.keep_edit_spec.specs.KeyvalLines.{bare_value}
use Rattle.keep_edit_spec.specs.Lines.{new_line, newline_of, put_lines}
use Rattle.keep_edit_spec.specs.Look.{holder, keys_in}
use Rattle.keep_edit_spec.specs.Refusals.{refusal}
use Rattle.keep_edit_spec.proofs.Common.BodyEnd.{IsBodyEnd}
use Rattle.keep_edit_spec.proofs.Common.LineStatements.{statements_of}
use Rattle.keep_edit_spec.proofs.Common.SetDocument.{page_lines}
use Rattle.keep_edit_spec.proofs.Insert.InsertLine.{change_here}
use Rattle.keep_edit_spec.proofs.Insert.KeysAtEnd as keys
use Rattle.keep_edit_spec.proofs.Insert.LinePut as line
use Rattle.keep_edit_spec.proofs.Insert.NewPath.{keys_of_map}

module _ (profile : Profile) (limit : ℕ) (s : Document) (path : List Part) (text : List ℕ) (more : List (List ℕ))
    (value : Value) (n : ℕ) (utf8 : AllByRecursion IsUtf8 (keys_in path))
    (allowed : refusal profile limit s (insert path value) ≡ None)
    (new : path ≡ holder path (mentions_in s) ++ map key (text ∷ more))
    (ends : end_of s (holder path (mentions_in s)) ≡ Some n) where
  changes : (v : Value) → change s (insert path v) ≡ at_line s n (keyval (name_with (text ∷ more)) v ∷ [])
  changes v =
      change_here s path v n (keys.no_item profile limit s path text more value n utf8 allowed new ends) ends
      ∙ ap (λ (ks : List (List ℕ)). at_line s n (keyval (name_with ks) v ∷ []))
      (ap keys_in (keys.rest profile limit s path text more value n utf8 allowed new ends)
      ∙ keys_of_map (text ∷ more))

  pub few : n ≤ suc (length s.ended)
  few =
      let end : IsBodyEnd s (holder path (mentions_in s)) n =
      keys.end profile limit s path text more value n utf8 allowed new ends in
      omega (arith, end.few, length-append (map line_of s.ended) (s.last ∷ []), length-map s.ended line_of)

  means : keys_of (name_with (text ∷ more)).key ≡ text ∷ more
  means = keys.means profile limit s path text more value n utf8 allowed new ends

  -- the new line is put among the lines
  pub put : (v : Value) → lines (edited_document s (insert path v))
      ≡ page_lines (put_lines n (new_line (newline_of s) (keyval (name_with (text ∷ more)) v) ∷ []) (newline_of s)
      s.ended s.last).to
  put v = line.put s path text more value n changes few means v

  pub edited : statements_in (edited_document s (insert path (bare_value value)))
      ≡ statements_of (take n (lines s))
      ++ marks.keyval (keyed_mentions (text ∷ more)
      (record { path = []; kind = kinds_value (body_fact value.body) } ∷ []))
      ∷ statements_of (drop n (lines s))
  edited = line.edited s path text more value n changes few means

  -- with what is in it
  pub edited_with : statements_in (edited_document s (insert path value))
      ≡ statements_of (take n (lines s))
      ++ marks.keyval (keyed_mentions (text ∷ more)
      (valued_mentions (kinds_value (body_fact value.body)) (entries_mentions 0 value.nested)))
      ∷ statements_of (drop n (lines s))
  edited_with = line.edited_with s path text more value n changes few means value
