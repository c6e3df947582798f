-- A set of the value that an insert gave which brought its header: it replaces that value, and is not refused.
--
-- The new lines are an empty one, the header and the keyval (BroughtLines). A search for a value at the path finds
-- nothing in the first two. The header's path is the table (BroughtWay), so the keyval is in the table's body, and its
-- keys lead to the path: the search finds its whole value (`found_there`), behind these two lines and the keys
-- (`before_long`). That this is the value which the set replaces, and that the set is not refused, is as for a line
-- that is added alone (ValueAdded).
--
-- Theorems: `set_after_brought_line`.
use Rattle.std.proofs.Common.{◌≡◌, ℕ, ◌+◌, List, [], ◌∷◌, ◌++◌, length, map, take, drop, refl, sym, subst}
use Rattle.std.proofs.Common.{length-append, arith}
use Rattle.keep_types.specs.declared.leaf.Profile.{Profile}
use Rattle.keep_syntax.specs.Tree.{Ended, Document, Value, blank, ended_leaves, text_of, value_text}
use Rattle.keep_path.specs.Path.{Part}
use Rattle.keep_meaning.specs.Marks.{Reading, start}
use Rattle.keep_meaning.specs.Meaning.{after_line, line_of, reading_after_lines}
use Rattle.keep_edit_spec.specs.BroughtHeaders.{BringsHeader}
use Rattle.keep_edit_spec.specs.Edits.{edited_document, insert, name_with, new_header}
use Rattle.keep_edit_spec.specs.Laws.{IsEditable}
use Rattle.keep_edit_spec.specs.Lines.{in_line, in_lines, new_line, newline_of}
use Rattle.keep_edit_spec.specs.Look.{keys_in}
use Rattle.keep_edit_spec.specs.SetValues.{SetsValue}
use Rattle.keep_edit_spec.specs.TextChanges.{TextChange, change_at}
use Rattle.keep_edit_spec.specs.Values.{replacement}
use Rattle.keep_edit_spec.specs.declared.line_kind.LineKind.TheVariants.{WithHeader}
use Rattle.keep_edit_spec.proofs.Lists.AddedKeys.{keys_text}
use Rattle.keep_edit_spec.proofs.Lists.BroughtFound as found
use Rattle.keep_edit_spec.proofs.Lists.BroughtFound.{before_is, own_place}
use Rattle.keep_edit_spec.proofs.Lists.BroughtLines.{at_is, edited_is}
use Rattle.keep_edit_spec.proofs.Lists.BroughtTexts.{before_value}
use Rattle.keep_edit_spec.proofs.Lists.BroughtWay.{path_is}
use Rattle.keep_edit_spec.proofs.Lists.LineKinds.{keys_of_line}
use Rattle.keep_edit_spec.proofs.Lists.Places.{width_more}
use Rattle.keep_edit_spec.proofs.Lists.ValueAdded.{IsThere, next_there, own_there, set_there}

module _ (profile : Profile) (limit : ℕ) (s : Document) (path : List Part) (value : Value) (c : TextChange)
    (h : BringsHeader profile limit s path value c) (fine : IsEditable profile limit s) where
  abbrev table : List Part
  table = found.table profile limit s path value c fine h

  abbrev n : ℕ
  n = found.n profile limit s path value c fine h

  abbrev r : Reading
  r = found.r profile limit s path value c fine h

  abbrev keys : List (List ℕ)
  keys = h.text ∷ h.more

  -- the new lines before the keyval, and those from it on
  abbrev empty : Ended
  empty = new_line (newline_of s) blank

  abbrev head : Ended
  head = new_line (newline_of s) (new_header (keys_in table))

  abbrev from_keyval : List Ended
  from_keyval =
      record { line = found.statement profile limit s path value c fine h; newline = newline_of s } ∷ drop n s.ended

  abbrev before : List ℕ
  before = text_of (ended_leaves empty) ++ (text_of (ended_leaves head) ++ keys_text keys)

  before_long : length before ≡ length (before_value profile limit s path value c h)
  before_long =
      omega (
        arith,
        length-append (text_of (ended_leaves empty)) (text_of (ended_leaves head) ++ keys_text keys),
        length-append (text_of (ended_leaves head)) (keys_text keys),
        length-append (text_of (ended_leaves empty ++ (ended_leaves head ++ []))) (keys_text keys),
        width_more empty (head ∷ []),
        width_more head [],
      )

  module _ (more : Value) where
    abbrev Finds : Reading → List Ended → List ℕ → Type 0
    Finds q es b =
        IsThere (in_lines (in_line (replacement more) path) q es s.last) b (value_text value) (value_text more)

    in_keyval : Finds (found.inside profile limit s path value c fine h) from_keyval (keys_text keys)
    in_keyval =
        own_there path (name_with keys) value more (newline_of s) (found.inside profile limit s path value c fine h)
        (drop n s.ended) s.last (own_place profile limit s path value c fine h)

    found_there : Finds (reading_after_lines start (map line_of (take n s.ended))) (empty ∷ head ∷ from_keyval) before
    found_there =
        let after_head : Finds (after_line r head.line) from_keyval (keys_text keys) =
        subst (λ (p : List Part). Finds (record { tables = r.tables; body = p }) from_keyval (keys_text keys))
        (sym (path_is profile limit s path value c fine h)) in_keyval in
        subst (λ (q : Reading). Finds q (empty ∷ head ∷ from_keyval) before)
        (sym (before_is profile limit s path value c fine h))
        (next_there (in_line (replacement more) path) s.last r empty (head ∷ from_keyval)
        (text_of (ended_leaves head) ++ keys_text keys) (value_text value) (value_text more) refl
        (next_there (in_line (replacement more) path) s.last r head from_keyval (keys_text keys) (value_text value)
        (value_text more) refl after_head))

    pub set_after_brought_line : (d : TextChange) → BringsHeader profile limit s path more d
        → SetsValue profile limit (edited_document s (insert path value)) path more
        (change_at (c.at + length (before_value profile limit s path value c h)) (length (value_text value))
        (value_text more))
    set_after_brought_line d k =
        subst (λ (m : ℕ). SetsValue profile limit (edited_document s (insert path value)) path more
        (change_at (c.at + m) (length (value_text value)) (value_text more))) before_long
        (set_there profile limit s path value c (keys_of_line WithHeader profile limit s path value c h) fine
        (WithHeader, h) n (empty ∷ head ∷ from_keyval) h.closed (edited_is profile limit s path value c h)
        (at_is profile limit s path value c h) more before found_there k.given k.allowed)
