-- What an insert writes that brings the header of its table: three lines, where a body ends.
--
-- They are an empty line, the header and the keyval (`brings_at`), and come after the body of the last header that goes
-- through the table: the lines before them end in that body, where the reading is as after that header (`reading_is`).
-- A line comes before them, so the document's newline stays (`newline_stays`). Other lines that were put in before line
-- m are put in three lines later from line n on, at the moved place (`starts_at`, `place_after`). The first new line
-- begins where the change is (`new_start`).
--
-- Theorems: `brings_at`; `means`, `no_item`, `changed`, `edited_is`, `length_now`, `at_is`, `new_is`, `new_start`,
-- `lines_now`; `last`, `head`, `first_lines`, `rest_lines`, `long`, `body_ends`, `reading_is`; `newline_stays`;
-- `enough`, `starts_at`, `place_after`.
use Rattle.std.proofs.Common.{◌≡◌, ℕ, zero, suc, ◌+◌, ◌<◌, ◌≤◌, Bool, List, [], ◌∷◌, ◌++◌, length, map, take, drop}
use Rattle.std.proofs.Common.{true, sym, ap, ◌∙◌, length-append, arith, Some, None, ◌⊎◌, inl, inr}
use Rattle.std.specs.List.{AllByRecursion}
use Rattle.std.proofs.lemmas.Bool.{and_parts}
use Rattle.std.proofs.lemmas.List.{length-take-le, take-append-drop}
use Rattle.keep_types.specs.declared.leaf.Profile.{Profile}
use Rattle.keep_syntax.specs.Tree.{Written, Content, Value, Line, Ended, Document, blank, bom_leaves, keyval, text_of}
use Rattle.keep_syntax.specs.Grammar.{IsEnded}
use Rattle.keep_path.specs.Path.{Part, key}
use Rattle.keep_meaning.specs.Marks.{Mention, Reading, start}
use Rattle.keep_meaning.specs.Meaning.{after_line, keys_of, line_mentions, line_of, lines, mentions_in}
use Rattle.keep_meaning.specs.Meaning.{reading_after_lines}
use Rattle.keep_meaning.specs.Nodes.{has, is_through}
use Rattle.keep_edit_spec.specs.BroughtHeaders.{BringsHeader}
use Rattle.keep_edit_spec.specs.Changed.{Place}
use Rattle.keep_edit_spec.specs.ClearedLines.{line_start}
use Rattle.keep_edit_spec.specs.Edits.{Edit, at_line, change, edited_document, end_of, insert, name_with, new_header}
use Rattle.keep_edit_spec.specs.Edits.{new_keyval, place}
use Rattle.keep_edit_spec.specs.Insertion.{put_in}
use Rattle.keep_edit_spec.specs.Laws.{IsEditable}
use Rattle.keep_edit_spec.specs.Lines.{body_end, body_length, ended_text, is_header, last_line, leads_dotted}
use Rattle.keep_edit_spec.specs.Lines.{leads_through, new_line, newline_of}
use Rattle.keep_edit_spec.specs.Look.{holder, item_number, keys_in}
use Rattle.keep_edit_spec.specs.TextChanges.{TextChange, moved_by}
use Rattle.keep_edit_spec.proofs.Append.AppendLaw.{reading_append}
use Rattle.keep_edit_spec.proofs.Common.BodyEnd.{IsLast, body_few, last_found}
use Rattle.keep_edit_spec.proofs.Common.NewLines.{key_means}
use Rattle.keep_edit_spec.proofs.Insert.InsertLine.{later_keys}
use Rattle.keep_edit_spec.proofs.Insert.InsertSection.{change_section}
use Rattle.keep_edit_spec.proofs.Insert.NewPath.{drop_prefix_parts, keys_of_map}
use Rattle.keep_edit_spec.proofs.Insert.SectionPlace.{IsEndAfter, end_after}
use Rattle.keep_edit_spec.proofs.Remove.RemoveSection.{body_is}
use Rattle.keep_edit_spec.proofs.Rename.KeyTexts.{key_texts}
use Rattle.keep_edit_spec.proofs.Lists.BodyEnds.{all_put}
use Rattle.keep_edit_spec.proofs.Lists.HeaderPlaces.{newline_kept}
use Rattle.keep_edit_spec.proofs.Lists.Places.{earlier, item_none, lines_move, lines_stay, puts_document, puts_place}
use Rattle.keep_edit_spec.proofs.Lists.Places.{width, with_lines_before}

-- the lines that bring the header of a table
abbrev pub header_lines : List Part → List (List ℕ) → Value → List Content
header_lines a keys value = blank ∷ new_header (keys_in a) ∷ keyval (name_with keys) value ∷ []

pub brings_at : (s : Document) (path : List Part) (value : Value) (text : List ℕ) (more : List (List ℕ)) (i : ℕ)
    → (let a : List Part = holder path (mentions_in s) in
    path ≡ a ++ map key (text ∷ more) → end_of s a ≡ None → last_line (leads_dotted a) start (lines s) ≡ None
    → last_line (leads_through a) start (lines s) ≡ Some i
    → change s (insert path value) ≡ at_line s (body_end i (lines s)) (header_lines a (text ∷ more) value))
brings_at s path value text more i new bare no_dots last =
    let a : List Part = holder path (mentions_in s) in
    let n : ℕ = body_end i (lines s) in
    change_section s path value i (item_none path a text more new (mentions_in s)) bare no_dots last
    ∙ ap (λ (p : List Part). at_line s n (blank ∷ new_header (keys_in a) ∷ new_keyval p value ∷ []))
    (ap (drop (length a)) new ∙ drop_prefix_parts a (map key (text ∷ more)))
    ∙ ap (λ (ks : List (List ℕ)). at_line s n (header_lines a ks value)) (keys_of_map (text ∷ more))

-- the newline is that of the first line
newline_more : (profile : Profile) (bom : Bool) (last : Line) (n : ℕ) (xs es : List Ended)
    → AllByRecursion (IsEnded profile) es → 0 < n → n ≤ length es
    → newline_of (record { bom = bom; ended = take n es ++ (xs ++ drop n es); last = last })
    ≡ newline_of (record { bom = bom; ended = es; last = last })
newline_more profile bom last zero xs es valid some few = absurd (omega (arith, some))
newline_more profile bom last (suc n) xs [] valid some few = absurd (omega (arith, few))
newline_more profile bom last (suc n) xs (e ∷ es) valid some few =
    newline_kept bom e (take n es ++ (xs ++ drop n es)) es last last valid.0.kind

module _ (profile : Profile) (limit : ℕ) (s : Document) (path : List Part) (value : Value) (c : TextChange)
    (h : BringsHeader profile limit s path value c) where
  abbrev ms : List Mention
  ms = mentions_in s

  abbrev pub a : List Part
  a = holder path ms

  abbrev pub now : Document
  now = edited_document s (insert path value)

  -- the number of the first new line
  abbrev pub n : ℕ
  n = body_end h.number (lines s)

  abbrev pub keys : List (List ℕ)
  keys = h.text ∷ h.more

  pub means : keys_of (name_with keys).key ≡ keys
  means =
      key_means profile h.text h.more
      (later_keys profile a path keys h.new (key_texts profile (keys_in path) h.utf8))

  pub no_item : item_number path ms ≡ None
  no_item = item_none path a h.text h.more h.new ms

  pub changed : change s (insert path value) ≡ at_line s n (header_lines a keys value)
  changed = brings_at s path value h.text h.more h.number h.new h.bare h.no_dots h.last

  abbrev pub new_lines : List Ended
  new_lines = map (new_line (newline_of s)) (header_lines a keys value)

  pub edited_is : now ≡ with_lines_before n new_lines s
  edited_is = puts_document s (insert path value) (header_lines a keys value) n changed h.closed

  pub length_now : length now.ended ≡ 3 + length s.ended
  length_now =
      omega (
        arith,
        ap (λ (d : Document). length d.ended) edited_is,
        length-append (take n s.ended) (new_lines ++ drop n s.ended),
        length-append (take n s.ended) (drop n s.ended),
        ap (λ (fs : List Ended). length fs) (take-append-drop n s.ended),
      )

  abbrev bom : List ℕ
  bom = text_of (bom_leaves s.bom)

  placed_at : place s (insert path value) ≡ put_in (length (bom ++ ended_text (take n s.ended))) (ended_text new_lines)
  placed_at = puts_place s (insert path value) (header_lines a keys value) n changed h.closed

  pub at_is : c.at ≡ length bom + width (take n s.ended)
  at_is =
      ap (λ (p : Place). p.start) (sym h.is ∙ placed_at) ∙ length-append bom (ended_text (take n s.ended))

  pub new_is : c.new ≡ ended_text new_lines
  new_is = ap (λ (p : Place). p.new) (sym h.is ∙ placed_at)

  pub new_start : line_start now n ≡ c.at
  new_start =
      ap (λ (z : Document). line_start z n) edited_is
      ∙ ap (λ (es : List Ended). length bom + width es) (earlier n n new_lines s.ended (omega arith) h.closed)
      ∙ sym at_is

  pub lines_now : lines now ≡ take n (lines s) ++ (map line_of new_lines ++ drop n (lines s))
  lines_now = ap lines edited_is ∙ all_put n new_lines s.ended s.last h.closed

  -- ---- the line of the last header that goes through the table, and its body

  pub last : IsLast (leads_through a) start (lines s) h.number
  last = last_found (leads_through a) start (lines s) h.number h.last

  cut : IsEndAfter (lines s) h.number last.pre last.here last.post
  cut = end_after (lines s) h.number last.pre last.here last.post last.was last.number

  pub head : is_header last.here.content ≡ true
  head =
      (and_parts (is_header last.here.content)
      (has is_through a (line_mentions (reading_after_lines start last.pre) last.here)) last.passes).0

  abbrev pub body : List Line
  body = take (body_length last.post) last.post

  abbrev pub rest : List Line
  rest = drop (body_length last.post) last.post

  abbrev pub first : List Line
  first = last.pre ++ last.here ∷ body

  pub first_lines : take n (lines s) ≡ first
  first_lines = cut.taken

  pub rest_lines : drop n (lines s) ≡ rest
  rest_lines = cut.dropped

  body_long : length body ≡ body_length last.post
  body_long = length-take-le (body_length last.post) last.post (body_few last.post)

  pub long : length first ≡ n
  long = omega (arith, cut.number, length-append last.pre (last.here ∷ body), body_long)

  pub body_ends : body_length (body ++ rest) ≡ length body
  body_ends = ap body_length (take-append-drop (body_length last.post) last.post) ∙ sym body_long

  -- before that line, and after it
  abbrev pub at : Reading
  at = reading_after_lines start last.pre

  abbrev pub r : Reading
  r = after_line at last.here

  pub reading_is : reading_after_lines start first ≡ r
  reading_is = reading_append start last.pre (last.here ∷ body) ∙ (body_is r last.post).keeps

  -- ---- what puts in other lines then

  module _ (fine : IsEditable profile limit s) where
    pub newline_stays : newline_of now ≡ newline_of s
    newline_stays =
        ap newline_of edited_is
        ∙ newline_more profile s.bom s.last n new_lines s.ended fine.valid.ended (omega arith) h.closed

    module _ (m j : ℕ) (few : m ≤ length s.ended)
        (number : ((j ≡ m) × (m < n)) ⊎ ((j ≡ length new_lines + m) × (n ≤ m))) where
      abbrev to : List Ended
      to = take n s.ended ++ (new_lines ++ drop n s.ended)

      three_more : j ≤ 3 + m
      three_more = elim number [ inl x ↦ omega (arith, x.0) | inr x ↦ omega (arith, x.0) ]

      pub enough : j ≤ length now.ended
      enough = omega (arith, few, three_more, length_now)

      moves : (d : TextChange) → d.at ≡ length bom + width (take m s.ended)
          → length (bom ++ ended_text (take j to)) ≡ moved_by c d.at
      moves d at = by number
        where
          by : ((j ≡ m) × (m < n)) ⊎ ((j ≡ length new_lines + m) × (n ≤ m))
              → length (bom ++ ended_text (take j to)) ≡ moved_by c d.at
          by (inl x) =
              ap (λ (i : ℕ). length (bom ++ ended_text (take i to))) x.0
              ∙ lines_stay profile bom s.ended fine.valid.ended n m new_lines c d h.closed few h.adds new_is at_is at
              x.1
          by (inr x) =
              ap (λ (i : ℕ). length (bom ++ ended_text (take i to))) x.0
              ∙ lines_move profile bom s.ended fine.valid.ended n m new_lines c d h.closed few h.adds new_is at_is at
              x.1

      pub starts_at : (d : TextChange) → d.at ≡ line_start s m → line_start now j ≡ moved_by c d.at
      starts_at d at =
          ap (λ (z : Document). line_start z j) edited_is ∙ sym (length-append bom (ended_text (take j to)))
          ∙ moves d at

      pub place_after : (d : TextChange) (e : Edit) (contents : List Content)
          → d.new ≡ ended_text (map (new_line (newline_of s)) contents)
          → d.at ≡ length bom + width (take m s.ended) → change now e ≡ at_line now j contents
          → place now e ≡ put_in (moved_by c d.at) d.new
      place_after d e contents line at changed_now =
          let put : Written → List ℕ = λ w. ended_text (map (new_line w) contents) in
          puts_place now e contents j changed_now enough
          ∙ ap (λ (z : Document). put_in (length (text_of (bom_leaves z.bom) ++ ended_text (take j z.ended)))
          (put (newline_of now))) edited_is
          ∙ ap (λ (w : Written). put_in (length (bom ++ ended_text (take j to))) (put w)) newline_stays
          ∙ ap (put_in (length (bom ++ ended_text (take j to)))) (sym line)
          ∙ ap (λ (i : ℕ). put_in i d.new) (moves d at)
