-- What an edit adds ends in the document's first newline: which changes leave that as it is.
use Rattle.std.specs.Prelude.{◌≡◌, ◌≢◌, ◌==◌, ⊤, ℕ, ◌≤◌, Bool, true, false, List, [], ◌∷◌, ◌++◌, length, All, Option}
use Rattle.std.specs.Prelude.{Some, None}
use Rattle.std.specs.List.{list_any}
use Rattle.keep_syntax.specs.Tree.{Document, Ended, bom_leaves, ended_leaves, text, text_of}
use Rattle.keep_edit_spec.specs.TextChanges.{TextChange}

-- no carriage return, so that each newline is a line feed
abbrev pub IsPlain : List ℕ → Type 0
IsPlain bytes = All (λ b. b ≢ 0x0D) bytes

-- the text up to the end of the first of these lines, its newline among it
abbrev pub first_line_text : Bool → List Ended → Option (List ℕ)
first_line_text bom [] = None
first_line_text bom (e ∷ es) = Some (text_of (bom_leaves bom) ++ text_of (ended_leaves e))

-- ---- by what is known of a document

-- it has no carriage return, or begins with this line
abbrev pub HasFirst : Option (List ℕ) → Document → Type 0
HasFirst None s = IsPlain (text s)
HasFirst (Some line) s = first_line_text s.bom s.ended ≡ Some line

-- the change writes no carriage return, or comes after that line
abbrev pub LeavesFirst : Option (List ℕ) → TextChange → Type 0
LeavesFirst None c = IsPlain c.new
LeavesFirst (Some line) c = length line ≤ c.at

-- so does what comes at the end of the text
abbrev pub LeavesFirstAtEnd : Option (List ℕ) → List ℕ → Type 0
LeavesFirstAtEnd None new = IsPlain new
LeavesFirstAtEnd (Some line) new = ⊤

-- ---- by its text

abbrev pub has_return : List ℕ → Bool
has_return bytes = list_any (λ b. b == 0x0D) bytes

abbrev pub ComesAfter : Option (List ℕ) → TextChange → Type 0
ComesAfter None c = ⊥
ComesAfter (Some line) c = length line ≤ c.at

abbrev pub LeavesNewlineOf : Bool → Document → TextChange → Type 0
LeavesNewlineOf true s c = ComesAfter (first_line_text s.bom s.ended) c
LeavesNewlineOf false s c = IsPlain c.new

-- In a text without carriage returns the change writes none; else it comes after the first line.
abbrev pub LeavesNewline : Document → TextChange → Type 0
LeavesNewline s c = LeavesNewlineOf (has_return (text s)) s c
