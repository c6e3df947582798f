-- What a `set` or a `rename` replaces has at least one byte.
--
-- A `set` replaces the value at its path, from its first byte to its last (`set_place`), and a valid value begins with
-- a byte (`value_has_bytes`). A `rename` replaces one of the key parts that are listed of the document
-- (`rename_place`). Each of them has bytes, since a bare key is not empty and the others have quotes: it is so of one
-- (`part_has_bytes`) and thereby of those of a key, of entries, of a line and of all lines, by induction over the tree.
-- That `rename` has a change where it is not refused is `rename_changes`.
--
-- Theorems: `value_has_bytes`, `set_has_bytes`, `rename_changes`, `rename_has_bytes`.
use Rattle.std.proofs.Common.{◌≡◌, ℕ, ◌+◌, ◌<◌, true, List, [], ◌∷◌, ◌++◌, length, ap, subst, arith, Option, Some, None}
use Rattle.std.specs.List.{AllByRecursion}
use Rattle.keep_types.specs.declared.leaf.Profile.{Profile}
use Rattle.keep_types.specs.declared.syntax.KeyPart.{KeyPart}
use Rattle.keep_token.specs.Pieces.{first}
use Rattle.keep_syntax.specs.Tree.{Written, Further, Key, Name, Entries, none, entry, Value, Content, blank, keyval}
use Rattle.keep_syntax.specs.Tree.{header, element, Line, Ended, Document, name_leaves, value_text}
use Rattle.keep_syntax.specs.Grammar.{IsKeyPart, IsFurther, IsKey, Place, in_scalar, in_array, in_inline, place_in}
use Rattle.keep_syntax.specs.Grammar.{IsNamed, AreEntries, IsValue, IsContent, IsLine, IsEnded, IsDocument}
use Rattle.keep_syntax.specs.Numbered as syntax
use Rattle.keep_syntax.specs.Numbered.{width, part_at, further_parts, key_parts, named_parts, value_start, nested_start}
use Rattle.keep_syntax.specs.Numbered.{entry_end, entries_parts, content_start, content_parts, line_parts, over_lines}
use Rattle.keep_syntax.specs.Numbered.{next_line, first_line}
use Rattle.keep_syntax.proofs.Shared.{part_begins, value_begins}
use Rattle.keep_syntax.proofs.ValueLaws.{is_value_first}
use Rattle.keep_path.specs.Path.{Part, beside}
use Rattle.keep_meaning.specs.Meaning.{mentions_in}
use Rattle.keep_edit_spec.specs.Changed.{Changed, place_of}
use Rattle.keep_edit_spec.specs.Edits.{set, rename, change, changed_or_same, key_part, place}
use Rattle.keep_edit_spec.specs.Laws.{IsEditable}
use Rattle.keep_edit_spec.specs.Refusals.{refusal, has_value}
use Rattle.keep_edit_spec.proofs.Common.DoneAtValue.{EachOf}
use Rattle.keep_edit_spec.proofs.Common.Marks.{rules_of_document}
use Rattle.keep_edit_spec.proofs.Common.Runs.{AllOf, all_join, all_right}
use Rattle.keep_edit_spec.proofs.Common.ValueThere.{the_some}
use Rattle.keep_edit_spec.proofs.Rename.RenameFound.{some_rename}
use Rattle.keep_edit_spec.proofs.Rename.RenameOnce.{some_counted}
use Rattle.keep_edit_spec.proofs.Rename.RenamePlace.{IsRenamedIn, rename_place}
use Rattle.keep_edit_spec.proofs.Rename.RenameWhole.{IsRenamable, beside_is, renamable}
use Rattle.keep_edit_spec.proofs.Rename.RenamedPath.{ends_old}
use Rattle.keep_edit_spec.proofs.Set.SetIsLawful.{settable}
use Rattle.keep_edit_spec.proofs.Values.ValuePlace.{set_place, value_of_path}

-- ---- a set

-- a valid value
pub value_has_bytes : (profile : Profile) (v : Value) → IsValue profile v → 0 < length (value_text v)
value_has_bytes profile v valid = by (value_text v) (value_begins profile v [] valid)
  where
    by : (t : List ℕ) → is_value_first (first (t ++ [])) ≡ true → 0 < length t
    by [] h = absurd cc
    by (c ∷ cs) h = omega arith

-- The value that a `set` replaces has bytes.
pub set_has_bytes : (profile : Profile) (limit : ℕ) (s : Document) (path : List Part) (value : Value)
    → IsEditable profile limit s → refusal profile limit s (set path value) ≡ None
    → (place s (set path value)).start < (place s (set path value)).end
set_has_bytes profile limit s path value editable allowed =
    let has : has_value path (mentions_in s) ≡ true =
    (settable profile limit path value (mentions_in s) allowed).valued in
    let (v, i, there) = value_of_path profile path s editable.valid editable.obeys has in
    let some : 0 < length (value_text there.value) = value_has_bytes profile there.value there.valid in
    let at = set_place path value s v i editable.obeys has there.number there.info in
    omega (arith, ap (λ p. p.start) at, ap (λ p. p.end) at, there.end, some)

-- ---- the key parts of a document

abbrev HasBytes : KeyPart → Type 0
HasBytes p = p.span.start < p.span.end

abbrev HaveBytes : List KeyPart → Type 0
HaveBytes ps = AllOf HasBytes ps

module _ (profile : Profile) where
  part_has_bytes : (at : ℕ) (w : Written) → IsKeyPart profile w → HasBytes (part_at at w)
  part_has_bytes at w h = omega (arith, (part_begins profile w [] h).0)

  further_have : (at : ℕ) (fs : List Further) → AllByRecursion (IsFurther profile) fs → HaveBytes (further_parts at fs)
  further_have at [] h = tt
  further_have at (f ∷ fs) h =
      let from : ℕ = at + width f.before + 1 + width f.after in
      (part_has_bytes from f.part h.0.part, further_have (from + length f.part.text) fs h.1)

  key_has : (at : ℕ) (k : Key) → IsKey profile k → HaveBytes (key_parts at k)
  key_has at k h = (part_has_bytes at k.first h.first, further_have (at + length k.first.text) k.more h.more)

  named_has : (place : Place) (at : ℕ) (name : Option Name) → IsNamed profile place name
      → HaveBytes (named_parts at name)
  named_has place at None h = tt
  named_has in_scalar at (Some n) h = absurd h
  named_has in_array at (Some n) h = absurd h
  named_has in_inline at (Some n) h = key_has at n.key h.key

  entries_have : (place : Place) (at : ℕ) (es : Entries) → AreEntries profile place es
      → HaveBytes (entries_parts at es)
  entries_have place at none h = tt
  entries_have place at (entry name body nested after comma rest) h =
      let i : ℕ = nested_start (value_start at name) body in
      let e : ℕ = entry_end at name body nested after comma in
      all_join HasBytes (named_parts at name) (entries_parts i nested ++ entries_parts e rest)
      (named_has place at name h.0)
      (all_join HasBytes (entries_parts i nested) (entries_parts e rest) (entries_have (place_in body) i nested h.2)
      (entries_have place e rest h.5))

  content_has : (at : ℕ) (c : Content) → IsContent profile c → HaveBytes (content_parts at c)
  content_has at blank h = tt
  content_has at (keyval name v) h =
      let i : ℕ = nested_start (at + width (name_leaves name)) v.body in
      all_join HasBytes (key_parts at name.key) (entries_parts i v.nested) (key_has at name.key h.0.key)
      (entries_have (place_in v.body) i v.nested h.1.nested)
  content_has at (header before k after) h = key_has (at + 1 + width before) k h.1
  content_has at (element before k after) h = key_has (at + 2 + width before) k h.1

  lines_have : (c : syntax.Count) (es : List Ended) (last : Line) → AllByRecursion (IsEnded profile) es
      → IsLine profile last → HaveBytes (over_lines (λ c l line_end. line_parts c l) c es last)
  lines_have c [] last h is = content_has (content_start c last) last.content is.content
  lines_have c (e ∷ es) last h is =
      all_join HasBytes (line_parts c e.line) (over_lines (λ c l line_end. line_parts c l) (next_line c e) es last)
      (content_has (content_start c e.line) e.line.content h.0.line.content) (lines_have (next_line c e) es last h.1 is)

  -- each key part of a valid document has bytes
  parts_have_bytes : (s : Document) → IsDocument profile s → HaveBytes (syntax.parts s)
  parts_have_bytes s valid = lines_have (first_line s) s.ended s.last valid.ended valid.last

-- ---- a rename

pub rename_changes : (profile : Profile) (limit : ℕ) (s : Document) (path : List Part) (text : List ℕ)
    → IsEditable profile limit s → refusal profile limit s (rename path text) ≡ None
    → (c : Changed Document) × (change s (rename path text) ≡ Some c)
rename_changes profile limit s path text editable allowed =
    let named : IsRenamable path text (mentions_in s) = renamable profile limit s path text allowed in
    the_some (change s (rename path text))
    (some_rename profile s path text editable.valid (rules_of_document s editable.obeys)
    (ends_old text path (beside path text) (beside_is path text (mentions_in s) named))
    (some_counted path (mentions_in s) (omega (arith, named.marks))))

-- The key part that a `rename` replaces has bytes.
pub rename_has_bytes : (profile : Profile) (limit : ℕ) (s : Document) (path : List Part) (text : List ℕ)
    → IsEditable profile limit s → refusal profile limit s (rename path text) ≡ None
    → (place s (rename path text)).start < (place s (rename path text)).end
rename_has_bytes profile limit s path text editable allowed =
    let (c, e) = rename_changes profile limit s path text editable allowed in
    let h : IsRenamedIn 0 path (key_part text).text (mentions_in s) (syntax.parts s) c =
    subst (EachOf (IsRenamedIn 0 path (key_part text).text (mentions_in s) (syntax.parts s))) e
    (rename_place path text s) in
    let some : h.own.span.start < h.own.span.end =
    (all_right HasBytes h.prefix (h.own ∷ h.after)
    (subst (λ (ps : List KeyPart). HaveBytes ps) h.here (parts_have_bytes profile s editable.valid))).0 in
    let at = ap (λ (o : Option (Changed Document)). place_of (changed_or_same s o)) e in
    omega (arith, ap (λ p. p.start) at, ap (λ p. p.end) at, h.end, some)
