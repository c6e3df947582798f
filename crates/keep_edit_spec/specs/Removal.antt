-- Where `remove` cuts, by the lists of all statements and values, and the bytes of the text.
use Rattle.std.specs.Prelude.{ℕ, suc, ◌+◌, ◌==◌, Bool, if◌then◌else◌, List, [], ◌∷◌, drop, Some, None}
use Rattle.std.specs.List.{list_any, prefix_len}
use Rattle.keep_token.specs.Abnf.{is_ws}
use Rattle.keep_token.specs.Pieces.{first}
use Rattle.keep_types.specs.declared.syntax.Statement.{Statement}
use Rattle.keep_types.specs.declared.syntax.StatementKind.TheVariants.{KeyVal}
use Rattle.keep_types.specs.declared.syntax.ValueInfo.{ValueInfo}
use Rattle.keep_syntax.specs.Numbered.{span}
use Rattle.keep_meaning.specs.KeyText.{text_at}
use Rattle.keep_edit_spec.specs.Changed.{Place}

-- the end of the white space that begins at a place
abbrev pub past_space : List ℕ → ℕ → ℕ
past_space bytes at = at + prefix_len is_ws (drop at bytes)

abbrev pub is_hash : ℕ → Bool
is_hash byte = byte == 0x23

-- the gap between two places, if it holds a comment
abbrev pub preserved_text : List ℕ → List ℕ
preserved_text gap = if list_any is_hash gap then gap else []

-- an item of an array, or a keyval in braces: with the comma after it, else with the one before it, else alone
abbrev pub entry_place : List ℕ → ValueInfo → Place
entry_place bytes v = elim v.comma_after [
  | Some comma ↦ record {
    start = v.whole.start;
    end = past_space bytes (suc comma);
    new = preserved_text (text_at bytes (span v.span.end comma));
  }
  | None ↦ elim v.comma_before [
    | Some comma ↦ record {
      start = comma;
      end = v.span.end;
      new = preserved_text (text_at bytes (span (suc comma) v.whole.start));
    }
    | None ↦ record { start = v.whole.start; end = v.span.end; new = [] }
  ]
]

-- a keyval on a line: up to a comment after its value, else with its line
abbrev pub line_place : List ℕ → Statement → ValueInfo → Place
line_place bytes s v =
    let end : ℕ = past_space bytes v.span.end in
    if is_hash (first (drop end bytes)) then record { start = s.span.start; end = end; new = [] }
    else record { start = s.line.start; end = s.line.end; new = [] }

-- where a body ends whose header's line ends at a place: with the last keyval before the next header
abbrev pub body_end : ℕ → List Statement → ℕ
body_end at [] = at
body_end at (s ∷ ss) = elim s.kind [
  | KeyVal ↦ body_end s.line.end ss
  | _ ↦ at
]

-- a header with its body, of the statements from it on
abbrev pub section_place : List Statement → Place
section_place [] = record { start = 0; end = 0; new = [] }
section_place (s ∷ ss) = record { start = s.line.start; end = body_end s.line.end ss; new = [] }
