-- Changes of lines: where in the document, and what there.
use Rattle.std.specs.Prelude.{ℕ, zero, suc, ◌+◌, Bool, true, false, ◌&&◌, if◌then◌else◌, List, [], ◌∷◌, ◌++◌, map, take}
use Rattle.std.specs.Prelude.{drop, codes, position, Option, Some, None}
use Rattle.std.specs.List.{flat_map}
use Rattle.keep_types.specs.declared.leaf.Leaf.TheVariants as leaf
use Rattle.keep_syntax.specs.Tree.{Written, Content, blank, keyval, header, element, Line, Ended, Document, name_leaves}
use Rattle.keep_syntax.specs.Tree.{content_leaves, comment_leaves, line_leaves, ended_leaves, bom_leaves, leaves}
use Rattle.keep_syntax.specs.Tree.{text_of}
use Rattle.keep_syntax.specs.WholeLines.{empty_line}
use Rattle.keep_path.specs.Path.{Part, key, same_path}
use Rattle.keep_meaning.specs.Marks.{Reading, start, header_path, below}
use Rattle.keep_meaning.specs.Meaning.{keys_of, step, keyed_mentions, line_mentions, after_line, reading_after_lines}
use Rattle.keep_edit_spec.specs.Look.{strip}
use Rattle.keep_meaning.specs.Nodes.{has, is_dotted, is_through}
use Rattle.keep_edit_spec.specs.Changed.{Changed, framed_change, within, or_else}
use Rattle.keep_edit_spec.specs.Values.{Act, in_value, text_of_value, rename_part, rename_name}

abbrev pub line_text : Line → List ℕ
line_text l = text_of (line_leaves l)

abbrev pub ended_text : List Ended → List ℕ
ended_text es = text_of (flat_map ended_leaves es)

-- the lines of a document: those with a newline, and the last
pub record Page : Type 0 where
  pub ended : List Ended
  pub last : Line

abbrev pub page_text : Page → List ℕ
page_text b = ended_text b.ended ++ line_text b.last

abbrev pub with_page : Document → Page → Document
with_page s b = record { bom = s.bom; ended = b.ended; last = b.last }

abbrev pub page_of : Document → Page
page_of s = record { ended = s.ended; last = s.last }

-- seen from the document
abbrev pub in_document : Document → Option (Changed Page) → Option (Changed Document)
in_document s = within (with_page s) (text_of (bom_leaves s.bom)) []

-- ---- one line

-- the first line that can be changed so
abbrev pub in_lines : (Reading → Line → Option (Changed Line)) → Reading → List Ended → Line → Option (Changed Page)
in_lines f r [] last = within (λ l. record { ended = []; last = l }) [] [] (f r last)
in_lines f r (e ∷ es) last =
    or_else (within (λ l. record { ended = record { line = l; newline = e.newline } ∷ es; last = last }) []
    (e.newline.text ++ page_text (record { ended = es; last = last })) (f r e.line))
    (within (λ b. record { ended = e ∷ b.ended; last = b.last }) (text_of (ended_leaves e)) []
    (in_lines f (after_line r e.line) es last))

-- the value of a line's keyval, or what is inside it
abbrev pub in_content : Act → List Part → List Part → Content → Option (Changed Content)
in_content act body path (keyval name value) = elim (strip (body ++ step 0 (Some name)) path) [
  | None ↦ None
  | Some more ↦ within (keyval name) (text_of (name_leaves name)) [] (in_value act more value)
]
in_content act body path _ = None

abbrev pub in_line : Act → List Part → Reading → Line → Option (Changed Line)
in_line act path r l =
    within (λ c. record l { content = c }) (text_of l.before) (text_of l.after ++ text_of (comment_leaves l.comment))
    (in_content act r.body path l.content)

-- the paths of the key parts of a line
abbrev pub key_prefixes : List (List ℕ) → List (List (List ℕ))
key_prefixes [] = []
key_prefixes (k ∷ ks) = (k ∷ []) ∷ map (λ prefix. k ∷ prefix) (key_prefixes ks)

abbrev pub part_paths : Reading → Content → List (List Part)
part_paths r blank = []
part_paths r (keyval name value) = map (λ prefix. r.body ++ map key prefix) (key_prefixes (keys_of name.key))
part_paths r (header before k after) = map (header_path r.tables []) (key_prefixes (keys_of k))
part_paths r (element before k after) = map (header_path r.tables []) (key_prefixes (keys_of k))

-- the part with that number renamed
abbrev pub rename_content : Written → ℕ → Content → Option (Changed Content)
rename_content new n blank = None
rename_content new n (keyval name value) =
    within (λ nm. keyval nm value) [] (text_of_value value) (rename_name new n name)
rename_content new n (header before k after) =
    within (λ k. header before k after) (codes "[" ++ text_of before) (text_of after ++ codes "]")
    (rename_part new n k)
rename_content new n (element before k after) =
    within (λ k. element before k after) (codes "[[" ++ text_of before) (text_of after ++ codes "]]")
    (rename_part new n k)

abbrev pub rename_line : Written → List Part → Reading → Line → Option (Changed Line)
rename_line new path r l = elim (position (same_path path) (part_paths r l.content)) [
  | None ↦ None
  | Some n ↦ within (λ c. record l { content = c }) (text_of l.before)
      (text_of l.after ++ text_of (comment_leaves l.comment)) (rename_content new n l.content)
]

-- ---- whole lines, by their numbers

-- new lines before line number n; before the line after the last, the last gets a newline first
abbrev pub put_lines : ℕ → List Ended → Written → List Ended → Line → Changed Page
put_lines n new newline [] last = elim n [
  | zero ↦ record {
    to = record { ended = new; last = last };
    before = [];
    old = [];
    new = ended_text new;
    after = line_text last;
  }
  | suc m ↦ record {
    to = record { ended = record { line = last; newline = newline } ∷ new; last = empty_line };
    before = line_text last;
    old = [];
    new = newline.text ++ ended_text new;
    after = [];
  }
]
put_lines n new newline (e ∷ es) last = elim n [
  | zero ↦ record {
    to = record { ended = new ++ e ∷ es; last = last };
    before = [];
    old = [];
    new = ended_text new;
    after = page_text (record { ended = e ∷ es; last = last });
  }
  | suc m ↦ framed_change (λ b. record { ended = e ∷ b.ended; last = b.last }) (text_of (ended_leaves e)) []
      (put_lines m new newline es last)
]

-- the first n lines gone
abbrev pub drop_prefix : ℕ → List Ended → Line → Changed Page
drop_prefix n [] last = elim n [
  | zero ↦ record { to = record { ended = []; last = last }; before = []; old = []; new = []; after = line_text last }
  | suc m ↦ record {
    to = record { ended = []; last = empty_line };
    before = [];
    old = line_text last;
    new = [];
    after = [];
  }
]
drop_prefix n (e ∷ es) last = elim n [
  | zero ↦ record {
    to = record { ended = e ∷ es; last = last };
    before = [];
    old = [];
    new = [];
    after = page_text (record { ended = e ∷ es; last = last });
  }
  | suc m ↦ (let c = drop_prefix m es last in record c { old = text_of (ended_leaves e) ++ c.old })
]

-- n lines gone, from line number i on
abbrev pub drop_lines : ℕ → ℕ → List Ended → Line → Changed Page
drop_lines i n [] last = drop_prefix n [] last
drop_lines i n (e ∷ es) last = elim i [
  | zero ↦ drop_prefix n (e ∷ es) last
  | suc j ↦ framed_change (λ b. record { ended = e ∷ b.ended; last = b.last }) (text_of (ended_leaves e)) []
      (drop_lines j n es last)
]

-- ---- the numbers of lines

-- the number of the last line that passes
abbrev pub last_line : (Reading → Line → Bool) → Reading → List Line → Option ℕ
last_line test r [] = None
last_line test r (l ∷ ls) = elim (last_line test (after_line r l) ls) [
  | Some n ↦ Some (suc n)
  | None ↦ (if test r l then Some zero else None)
]

-- the line begins the body of that path
abbrev pub is_header : Content → Bool
is_header (header before k after) = true
is_header (element before k after) = true
is_header _ = false

abbrev pub begins : List Part → Reading → Line → Bool
begins path r l = is_header l.content && same_path (after_line r l).body path

-- a header continues from the path
abbrev pub leads_through : List Part → Reading → Line → Bool
leads_through path r l = is_header l.content && has is_through path (line_mentions r l)

-- a keyval's own key continues from the path
abbrev pub leads_dotted : List Part → Reading → Line → Bool
leads_dotted path r l = elim l.content [
  | blank ↦ false
  | keyval name value ↦ has is_dotted path (map (below r.body) (keyed_mentions (keys_of name.key) []))
  | header before k after ↦ false
  | element before k after ↦ false
]

-- How many lines there are up to the last keyval before the next header.
abbrev pub more_lines : Bool → ℕ → ℕ
more_lines true n = suc n
more_lines false zero = zero
more_lines false (suc n) = suc (suc n)

abbrev pub body_length : List Line → ℕ
body_length [] = 0
body_length (l ∷ ls) = elim l.content [
  | blank ↦ more_lines false (body_length ls)
  | keyval name value ↦ more_lines true (body_length ls)
  | header before k after ↦ 0
  | element before k after ↦ 0
]

-- the number of the line after the body that begins after line i
abbrev pub body_end : ℕ → List Line → ℕ
body_end i ls = suc i + body_length (drop (suc i) ls)

-- ---- new lines

abbrev pub first_newline : List Written → Option Written
first_newline [] = None
first_newline (w ∷ ws) = elim w.leaf [
  | leaf.Newline ↦ Some w
  | _ ↦ first_newline ws
]

-- NL: the first newline of the document
abbrev pub newline_of : Document → Written
newline_of s = elim (first_newline (leaves s)) [ Some w ↦ w | None ↦ record { leaf = leaf.Newline; text = codes "\n" } ]

abbrev pub plain_line : Content → Line
plain_line c = record { before = []; content = c; after = []; comment = None }

abbrev pub new_line : Written → Content → Ended
new_line newline c = record { line = plain_line c; newline = newline }

abbrev pub content_text : Content → List ℕ
content_text c = text_of (content_leaves c)

-- the line has no bytes
abbrev pub is_empty_list : {A : Type 0} → List A → Bool
is_empty_list [] = true
is_empty_list (x ∷ xs) = false

abbrev pub is_empty : Line → Bool
is_empty l = is_empty_list (line_leaves l)

-- what the reading is before line i
abbrev pub reading_at : ℕ → List Line → Reading
reading_at i ls = reading_after_lines start (take i ls)
