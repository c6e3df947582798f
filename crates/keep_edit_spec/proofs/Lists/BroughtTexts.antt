-- The bytes that an insert writes which brings the header of its table: those before the value are the same for each
-- value, and as many in two documents in which it writes the same.
--
-- They are an empty line, the header and a keyval, each with a newline (`brought_text`). What is before the value comes
-- from the document and the path alone (`brought_alike`), and so does the place (`brought_at_one`). In two documents
-- with the same first new key the table is the same, and so are the header and the keys of the keyval: at most the
-- three newlines differ. So where the whole is as long, each newline is, and what is before the value
-- (`brought_as_long`).
--
-- Theorems: `brought_text`, `more_than_line`; `brought_at_one`, `brought_alike`; `brought_as_long`, `keys_alike`,
-- `newline_alike`.
use Rattle.std.proofs.Common.{◌≡◌, ℕ, ◌+◌, List, [], ◌∷◌, ◌++◌, length, map, take, Some, refl, sym, ap, ◌∙◌}
use Rattle.std.proofs.Common.{append_assoc, ap₂, ◌<◌, drop, length-append, arith}
use Rattle.std.proofs.lemmas.List.{append-nil, drop_at}
use Rattle.keep_types.specs.declared.leaf.Profile.{Profile}
use Rattle.keep_syntax.specs.Tree.{Written, Content, Document, Value, blank, bom_leaves, content_leaves}
use Rattle.keep_syntax.specs.Tree.{keyval, text_of, value_text}
use Rattle.keep_path.specs.Path.{Part, without_last}
use Rattle.keep_meaning.specs.Meaning.{lines, mentions_in}
use Rattle.keep_edit_spec.specs.AddedLines.{first_new}
use Rattle.keep_edit_spec.specs.BroughtHeaders.{BringsHeader}
use Rattle.keep_edit_spec.specs.Edits.{name_with, new_header}
use Rattle.keep_edit_spec.specs.Insertion.{keyed_text}
use Rattle.keep_edit_spec.specs.Lines.{body_end, content_text, ended_text, new_line, newline_of}
use Rattle.keep_edit_spec.specs.Look.{holder, keys_in}
use Rattle.keep_edit_spec.specs.TextChanges.{TextChange}
use Rattle.keep_edit_spec.specs.declared.line_kind.LineKind.TheVariants.{WithHeader}
use Rattle.keep_edit_spec.proofs.Common.Texts.{text_of-append}
use Rattle.keep_edit_spec.proofs.Insert.LineBefore.{new_line_text}
use Rattle.keep_edit_spec.proofs.Touched.FitLaws.{ended_append}
use Rattle.keep_edit_spec.proofs.Lists.AddedKeys.{keys_text, keyval_text, same_keys}
use Rattle.keep_edit_spec.proofs.Lists.BroughtLines.{at_is, new_is}
use Rattle.keep_edit_spec.proofs.Lists.LineKinds.{keys_of_line, table_is}
use Rattle.keep_edit_spec.proofs.Lists.Places.{one_text, width}

-- an empty line, and a line of that content
abbrev two_lines : Written → Content → List ℕ
two_lines newline content = ended_text (map (new_line newline) (blank ∷ content ∷ []))

two_lines_long : (newline : Written) (content : Content)
    → length (two_lines newline content)
    ≡ length newline.text + (length (content_text content) + length newline.text)
two_lines_long newline content =
    let here : List Written = content_leaves content in
    omega (
      arith,
      length-append newline.text (ended_text (new_line newline content ∷ [])),
      ap (λ (t : List ℕ). length t) (one_text (new_line newline content)),
      ap (λ (t : List ℕ). length t) (text_of-append (here ++ []) (newline ∷ [])),
      ap (λ (ws : List Written). length (text_of ws)) (append-nil here),
      length-append (text_of (here ++ [])) (newline.text ++ []),
      ap (λ (t : List ℕ). length t) (append-nil newline.text),
    )

module _ (profile : Profile) (limit : ℕ) (s : Document) (path : List Part) (value : Value) (c : TextChange)
    (h : BringsHeader profile limit s path value c) where
  abbrev newline : Written
  newline = newline_of s

  abbrev header : Content
  header = new_header (keys_in (holder path (mentions_in s)))

  abbrev keys : List (List ℕ)
  keys = h.text ∷ h.more

  -- the empty line, the header, and the keys of the keyval
  abbrev pub before_value : List ℕ
  before_value =
      ended_text (map (new_line (newline_of s)) (blank ∷ new_header (keys_in (holder path (mentions_in s))) ∷ []))
      ++ keys_text (h.text ∷ h.more)

  pub brought_text : c.new ≡ before_value ++ (value_text value ++ (newline_of s).text)
  brought_text =
      let two : List Content = blank ∷ header ∷ [] in
      let three : Content = keyval (name_with keys) value in
      new_is profile limit s path value c h
      ∙ ended_append (map (new_line newline) two) (new_line newline three ∷ [])
      ∙ ap (λ (t : List ℕ). two_lines newline header ++ t)
      (one_text (new_line newline three) ∙ keyval_text keys value newline)
      ∙ sym (append_assoc (two_lines newline header) (keys_text keys) (value_text value ++ newline.text))

  -- more than the line alone
  pub more_than_line : length (keyed_text keys value ++ newline.text) < length c.new
  more_than_line =
      let two : List Content = blank ∷ header ∷ [] in
      let line : List ℕ = ended_text (new_line newline (keyval (name_with keys) value) ∷ []) in
      omega (
        arith,
        ap (λ (t : List ℕ). length t) (new_is profile limit s path value c h
            ∙ ended_append (map (new_line newline) two) (new_line newline (keyval (name_with keys) value) ∷ [])),
        length-append (two_lines newline header) line,
        two_lines_long newline header,
        ap (λ (t : List ℕ). length t) (new_line_text newline h.text h.more value),
      )

  before_long : length before_value ≡ length (two_lines newline header) + length (keys_text keys)
  before_long = length-append (two_lines newline header) (keys_text keys)

  text_long : length c.new ≡ length before_value + (length (value_text value) + length newline.text)
  text_long =
      omega (
        arith,
        ap (λ (t : List ℕ). length t) brought_text,
        length-append before_value (value_text value ++ newline.text),
        length-append (value_text value) newline.text,
      )

-- two inserts of one path into one document
module _ (profile : Profile) (limit : ℕ) (s : Document) (path : List Part) (value more : Value) (c d : TextChange)
    (h : BringsHeader profile limit s path value c) (k : BringsHeader profile limit s path more d) where
  same_number : h.number ≡ k.number
  same_number = let same : Some h.number ≡ Some k.number = sym h.last ∙ k.last in cc

  pub brought_at_one : c.at ≡ d.at
  brought_at_one =
      at_is profile limit s path value c h
      ∙ ap (λ (i : ℕ). length (text_of (bom_leaves s.bom)) + width (take (body_end i (lines s)) s.ended)) same_number
      ∙ sym (at_is profile limit s path more d k)

  pub brought_alike : before_value profile limit s path value c h ≡ before_value profile limit s path more d k
  brought_alike =
      let a : List Part = holder path (mentions_in s) in
      ap (λ (ks : List (List ℕ)). two_lines (newline_of s) (new_header (keys_in a)) ++ keys_text ks)
      (same_keys path a a (h.text ∷ h.more) (k.text ∷ k.more) h.new k.new refl)

-- one into two documents, with the same first new key and the same bytes
module _ (profile : Profile) (limit : ℕ) (s now : Document) (path : List Part) (value : Value) (c d : TextChange)
    (h : BringsHeader profile limit s path value c) (k : BringsHeader profile limit now path value d)
    (new : c.new ≡ d.new) (first : first_new now path ≡ first_new s path) where
  abbrev table_here : List Part
  table_here = holder path (mentions_in s)

  abbrev table_there : List Part
  table_there = holder path (mentions_in now)

  same_table : table_here ≡ table_there
  same_table =
      sym (table_is profile limit s path value c (keys_of_line WithHeader profile limit s path value c h))
      ∙ ap without_last (sym first)
      ∙ table_is profile limit now path value d (keys_of_line WithHeader profile limit now path value d k)

  pub keys_alike : h.text ∷ h.more ≡ k.text ∷ k.more
  keys_alike =
      same_keys path table_here table_there (h.text ∷ h.more) (k.text ∷ k.more) h.new k.new
      (ap (λ (p : List Part). length p) same_table)

  pub brought_as_long : length (before_value profile limit s path value c h)
      ≡ length (before_value profile limit now path value d k)
  brought_as_long =
      omega (
        arith,
        ap (λ (t : List ℕ). length t) new,
        text_long profile limit s path value c h,
        text_long profile limit now path value d k,
        before_long profile limit s path value c h,
        before_long profile limit now path value d k,
        two_lines_long (newline_of s) (new_header (keys_in table_here)),
        two_lines_long (newline_of now) (new_header (keys_in table_there)),
        ap (λ (p : List Part). length (content_text (new_header (keys_in p)))) same_table,
        ap (λ (ks : List (List ℕ)). length (keys_text ks)) keys_alike,
      )

  -- and with the same newline
  pub newline_alike : (newline_of s).text ≡ (newline_of now).text
  newline_alike =
      let here : List ℕ = before_value profile limit s path value c h in
      let there : List ℕ = before_value profile limit now path value d k in
      let behind : List ℕ = value_text value in
      sym (drop_at behind (newline_of s).text (length behind) refl)
      ∙ ap (drop (length behind))
      (sym (drop_at here (behind ++ (newline_of s).text) (length here) refl)
      ∙ ap₂ (λ (n : ℕ) (t : List ℕ). drop n t) brought_as_long
      (sym (brought_text profile limit s path value c h) ∙ new ∙ brought_text profile limit now path value d k)
      ∙ drop_at there (behind ++ (newline_of now).text) (length there) refl)
      ∙ drop_at behind (newline_of now).text (length behind) refl
