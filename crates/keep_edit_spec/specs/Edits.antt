-- The edits, and the change that each makes.
use Rattle.std.specs.Prelude.{ℕ, suc, Bool, true, false, if◌then◌else◌, List, [], ◌∷◌, ◌++◌, length, map, drop, Option}
use Rattle.std.specs.Prelude.{Some, None}
use Rattle.keep_syntax.specs.Tree.{Written, Further, Key, Name, Value, Content, blank, keyval, header, element, Line}
use Rattle.keep_syntax.specs.Tree.{Document, text_of}
use Rattle.keep_token.specs.Encoded.{encoded_key, encoded_key_leaf}
use Rattle.keep_path.specs.Path.{Part, same_path}
use Rattle.keep_meaning.specs.Marks.{Mention, Reading, start}
use Rattle.keep_meaning.specs.Meaning.{mentions_in, lines, step}
use Rattle.keep_edit_spec.specs.Look.{holder, item_number, keys_in}
use Rattle.keep_edit_spec.specs.Changed.{Changed, or_else, Place, place_of}
use Rattle.keep_edit_spec.specs.Values.{Act, replacement, put_item, put_named, removal, renaming, space}
use Rattle.keep_edit_spec.specs.Lines.{in_document, in_lines, in_line, rename_line, put_lines, drop_lines, last_line}
use Rattle.keep_edit_spec.specs.Lines.{begins, leads_through, leads_dotted, body_length, body_end, newline_of, new_line}
use Rattle.keep_edit_spec.specs.Lines.{content_text, is_empty, reading_at}

-- An edit. Its value is the tree of a value's text.
pub data Edit : Type 0 where
  set : (path : List Part) (value : Value) → Edit
  insert : (path : List Part) (value : Value) → Edit
  rename : (path : List Part) (text : List ℕ) → Edit
  remove : (path : List Part) → Edit
  append_table : (keys : List (List ℕ)) → Edit
  append_element : (keys : List (List ℕ)) → Edit

-- ---- how keys are written

-- a key part with this meaning: bare where it can be, else a basic string
abbrev pub key_part : List ℕ → Written
key_part text = record { leaf = encoded_key_leaf text; text = encoded_key text }

abbrev pub further_part : List ℕ → Further
further_part text = record { before = []; after = []; part = key_part text }

-- a key of at least one part
abbrev pub key_with : List (List ℕ) → Key
key_with [] = record { first = key_part []; more = [] }
key_with (k ∷ ks) = record { first = key_part k; more = map further_part ks }

abbrev pub name_with : List (List ℕ) → Name
name_with keys = record { key = key_with keys; before = space; after = space }

abbrev pub new_keyval : List Part → Value → Content
new_keyval path value = keyval (name_with (keys_in path)) value

abbrev pub new_header : List (List ℕ) → Content
new_header keys = header [] (key_with keys) []

-- ---- each edit's change, where it is not refused

-- inside a line's value
abbrev pub nested : Act → List Part → Document → Option (Changed Document)
nested act path s = in_document s (in_lines (in_line act path) start s.ended s.last)

-- lines before line number n
abbrev pub at_line : Document → ℕ → List Content → Option (Changed Document)
at_line s n contents =
    in_document s (Some (put_lines n (map (new_line (newline_of s)) contents) (newline_of s) s.ended s.last))

abbrev pub without_lines : Document → ℕ → ℕ → Option (Changed Document)
without_lines s i n = in_document s (Some (drop_lines i n s.ended s.last))

-- the number of the line after the body of a root, a table or an element
abbrev pub end_of : Document → List Part → Option ℕ
end_of s [] = Some (body_length (lines s))
end_of s (p ∷ ps) =
    elim (last_line (begins (p ∷ ps)) start (lines s)) [ None ↦ None | Some i ↦ Some (body_end i (lines s)) ]

-- A keyval with a new path: the prefix of it that names a node is the holder, and the rest is new.
abbrev pub insert_line : Document → List Part → List Part → Value → Option (Changed Document)
insert_line s a rest value =
    elim (end_of s a) [
      | Some n ↦ at_line s n (new_keyval rest value ∷ [])
      | None ↦ elim (last_line (leads_dotted a) start (lines s)) [
        | Some i ↦ at_line s (suc i) (new_keyval (drop (length (reading_at i (lines s)).body) (a ++ rest)) value ∷ [])
        | None ↦ elim (last_line (leads_through a) start (lines s)) [
          | Some i ↦ at_line s (body_end i (lines s)) (blank ∷ new_header (keys_in a) ∷ new_keyval rest value ∷ [])
          | None ↦ None
        ]
      ]
    ]

abbrev pub change_insert : Document → List Part → Value → Option (Changed Document)
change_insert s path value =
    let ms : List Mention = mentions_in s in
    elim (item_number path ms) [
      | Some n ↦ nested (put_item value) path s
      | None ↦
          let a : List Part = holder path ms in
          let rest : List Part = drop (length a) path in
          or_else (insert_line s a rest value) (nested (put_named name_with (length rest) value) path s)
    ]

-- the line is the keyval of that path
abbrev pub is_own : List Part → Reading → Content → Bool
is_own path r (keyval name value) = same_path (r.body ++ step 0 (Some name)) path
is_own path r _ = false

-- a keyval's own line: without what it says, or without the line
abbrev pub clear_line : List Part → Reading → Line → Option (Changed Line)
clear_line path r l = elim l.comment [
  | None ↦ None
  | Some c ↦ elim (is_own path r l.content) [
    | false ↦ None
    | true ↦ Some (record {
      to = record { before = l.before; content = blank; after = []; comment = Some c };
      before = text_of l.before;
      old = content_text l.content ++ text_of l.after;
      new = [];
      after = c.text;
    })
  ]
]

abbrev pub change_remove : Document → List Part → Option (Changed Document)
change_remove s path =
    or_else (in_document s (in_lines (clear_line path) start s.ended s.last))
    (or_else (elim (last_line (λ r l. is_own path r l.content) start
    (lines s)) [ None ↦ None | Some i ↦ without_lines s i 1 ])
    (or_else (elim (last_line (begins path) start (lines s)) [
      | None ↦ None
      | Some i ↦ without_lines s i
          (suc (body_length (drop (suc i) (lines s))))
    ])
    (nested removal path s)))

abbrev pub change_rename : Document → List Part → List ℕ → Option (Changed Document)
change_rename s path text =
    or_else (in_document s (in_lines (rename_line (key_part text) path) start s.ended s.last))
    (nested (renaming (key_part text)) path s)

-- a header at the end of the text
abbrev pub append : Document → Content → Option (Changed Document)
append s content = elim s.ended [
  | [] ↦ (if is_empty s.last then at_line s 0 (content ∷ []) else at_line s 1 (blank ∷ content ∷ []))
  | e ∷ es ↦ (if is_empty s.last then at_line s (length s.ended) (blank ∷ content ∷ [])
      else at_line s (suc (length s.ended)) (blank ∷ content ∷ []))
]

-- the change of a document by an edit
abbrev pub change : Document → Edit → Option (Changed Document)
change s (set path value) = nested (replacement value) path s
change s (insert path value) = change_insert s path value
change s (rename path text) = change_rename s path text
change s (remove path) = change_remove s path
change s (append_table keys) = append s (header [] (key_with keys) [])
change s (append_element keys) = append s (element [] (key_with keys) [])

-- the document after an edit, and the place of the change; both are meant only where the edit is not refused
abbrev pub changed_or_same : Document → Option (Changed Document) → Changed Document
changed_or_same s None = record { to = s; before = []; old = []; new = []; after = [] }
changed_or_same s (Some c) = c

abbrev pub edited_document : Document → Edit → Document
edited_document s e = (changed_or_same s (change s e)).to

abbrev pub place : Document → Edit → Place
place s e = place_of (changed_or_same s (change s e))
