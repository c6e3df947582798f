-- What is answered of an edit, by the tree of the document: the number of a value, what the edit writes and where, or
-- the refusal.
use Rattle.std.specs.Prelude.{◌≡◌, ◌≤◌, ◌+◌, ℕ, true, false, List, length, Option, Some, None, Result, Ok, Err}
use Rattle.std.specs.Prelude.{[], MatchResult, IsCharBoundary, slice_index_or, string_bytes}
use Rattle.keep_syntax.specs.Tree.{Document}
use Rattle.keep_types.specs.declared.syntax.Span.{Span}
use Rattle.keep_syntax.specs.Numbered.{span}
use Rattle.keep_meaning.specs.Counts.{numbered_in, is_value}
use Rattle.keep_meaning.specs.Meaning.{mentions_in}
use Rattle.keep_meaning.specs.Nodes.{is_node, node_paths, numbered_at, last_number, value_number}
use Rattle.keep_path.specs.Path.{Part}
use Rattle.keep_edit_spec.specs.declared.fault.EditFault.{EditFault}
use Rattle.keep_edit_spec.specs.declared.fault.EditFault.TheVariants.{Memory, NotFound, NotValue}
use Rattle.keep_edit_spec.specs.declared.splice.Splice.{Splice}
use Rattle.keep_edit_spec.specs.Changed.{Place, put}
use Rattle.keep_edit_spec.specs.Edits.{Edit, edited_document, place}
use Rattle.keep_edit_spec.specs.Laws.{given_size}
use Rattle.keep_edit_spec.specs.Refusals.{refusal, has_value}
use Rattle.keep_edit_spec.specs.TouchedLines.{scanned}
use Rattle.keep_edit_spec.specs.Trees.{IsTreeOf}
use Rattle.keep_edit_plan.specs.Reading.{limit, ProfiledText, text_in, IsTextOfTree}
use Rattle.keep_edit_plan.specs.declared.text_edit.TextEdit.{TextEdit}

-- ---- the value of a node

-- the path of the node with that number
abbrev pub path_at : Document → ℕ → List Part
path_at s n = slice_index_or (node_paths (mentions_in s)) n []

-- the number of the value at a path
abbrev pub value_number_of : List Part → Document → Option ℕ
value_number_of path s = last_number is_value value_number (numbered_at path (numbered_in s))

-- no node, or one without a value
abbrev pub HasNoValue : List Part → Document → EditFault → Type 0
HasNoValue path s NotFound = is_node path (mentions_in s) ≡ false
HasNoValue path s NotValue = (is_node path (mentions_in s) ≡ true) × (has_value path (mentions_in s) ≡ false)
HasNoValue path s _ = ⊥

-- the number of the value at a path, or why there is none
abbrev pub IsFound : List Part → Document → Result ℕ EditFault → Type 0
IsFound path s (Ok number) = value_number_of path s ≡ Some number
IsFound path s (Err f) = HasNoValue path s f

-- bytes of a text, from character to character
pub record IsSpanOf (bytes : List ℕ) (span : Span) : Type 0 where
  pub ordered : span.start ≤ span.end
  pub within : span.end ≤ length bytes
  pub starts : IsCharBoundary bytes span.start
  pub ends : IsCharBoundary bytes span.end

-- ---- edits

-- where bytes of a document were replaced, by how many, and how many of the new text are scanned for it
abbrev pub splice_of : Document → Place → Splice
splice_of s p = record { start = p.start; end = p.end; added = length p.new; scanned = scanned s p }

-- What holds of the text after an edit. Its profile is the old one's. The edit's place has its new bytes, and every
-- other byte is kept. It is the text of the new tree. That tree is the old one, changed as the edit says and nowhere
-- else. And the text has grown by no more than what the edit gives, as it is written, and 12 bytes.
pub record IsTextAfter (s : Document) (e : Edit) (new : ProfiledText) (old : ProfiledText) : Type 0 where
  pub profile : new.profile ≡ old.profile
  pub text : new.text ≡ put old.text (place s e)
  pub tree : IsTextOfTree new (edited_document s e)
  pub changed : IsTreeOf (mentions_in s) e (mentions_in (edited_document s e))
  pub growth : length new.text ≤ length old.text + given_size e + 12

-- The splice is the edit's, and the text is what it is after the edit.
abbrev pub IsEdited : Document → Edit → ProfiledText → ProfiledText → Splice → Type 0
IsEdited s e new old splice = (splice ≡ splice_of s (place s e)) × IsTextAfter s e new old

-- what an edit answers, by its refusal: out of memory can be the answer in place of what an edit does, and of nothing
-- else
abbrev pub IsDone : {T : Type 0} → (T → Type 0) → Option EditFault → Result T EditFault → Type 0
IsDone good (Some f) result = result ≡ Err f
IsDone good None result = MatchResult result good (λ f. f ≡ Memory)

-- why an edit of this text is refused, if it is
abbrev pub refusal_in : ProfiledText → Document → Edit → Option EditFault
refusal_in old s e = refusal old.profile limit s e

-- it is of this place
abbrev pub IsMadeAt : Place → TextEdit → Type 0
IsMadeAt p made = (made.place ≡ span p.start p.end) × (string_bytes made.new ≡ p.new)

-- the old text with the new bytes in place of those of the span
abbrev pub text_after : List ℕ → TextEdit → List ℕ
text_after old made = put old (record { start = made.place.start; end = made.place.end; new = string_bytes made.new })

-- It is of the edit's place, and the text with it is what it is after the edit.
abbrev pub IsMade : Document → Edit → ProfiledText → TextEdit → Type 0
IsMade s e old made = IsMadeAt (place s e) made × IsTextAfter s e (text_in old.profile (text_after old.text made)) old
