-- What is found in the lines of a document after an insert brought the header of its table.
--
-- Three lines are new: an empty one, the header and the keyval. At a path that does not begin with that of the first
-- new key an act finds nothing in them (`act_none`), and a rename finds no part of the header's key or of the keyval's
-- if the two paths are apart (`header_none`, `rename_none`), as each part is on the way to the new path. Behind the new
-- lines no keyval comes before the next header (`none_left`), so these lines are in another body, but what is found in
-- them is the same (`alike_behind`). So a change that is found in another line is the one before, moved by the new
-- lines (`found_stays`, by LineMore).
--
-- Theorems: `none_left`; `own_place`, `its`, `path_clear`, `path_apart`, `path_differs`, `table_differs`;
-- `made_place`, `to_is`, `before_is`, `found_stays`; `act_none`, `still_nested`; `header_none`, `rename_none`;
-- `kinds_stay`: at a path apart from that of the first new key.
use Rattle.std.proofs.Common.{◌≡◌, ◌≢◌, ℕ, zero, suc, ◌+◌, List, [], ◌∷◌, ◌++◌, map, take, drop, refl, sym, ap}
use Rattle.std.proofs.Common.{ap₂, subst, ◌∙◌, arith, Option, Some, None, false}
use Rattle.std.specs.Prelude.{position}
use Rattle.std.proofs.lemmas.List.{drop-append-le, drop-map, length-map, take-append-le, take-map}
use Rattle.keep_types.specs.declared.leaf.Profile.{Profile}
use Rattle.keep_syntax.specs.Tree.{Written, Gap, Key, Content, Name, Value, Line, Ended, Document, blank, bom_leaves}
use Rattle.keep_syntax.specs.Tree.{comment_leaves, element, ended_leaves, header, keyval, text_of}
use Rattle.keep_path.specs.Path.{Part, key, same_path, strip}
use Rattle.keep_meaning.specs.Marks.{Reading, header_path, start}
use Rattle.keep_meaning.specs.Meaning.{after_line, keys_of, line_of, lines, mentions_in, reading_after_lines, step}
use Rattle.keep_meaning.specs.Nodes.{kinds_at}
use Rattle.keep_edit_spec.specs.AddedLines.{first_new}
use Rattle.keep_edit_spec.specs.BroughtHeaders.{BringsHeader}
use Rattle.keep_edit_spec.specs.Changed.{Changed, framed_change, or_else, place_of, within}
use Rattle.keep_edit_spec.specs.Edits.{changed_or_same, edited_document, insert, key_with, name_with, nested}
use Rattle.keep_edit_spec.specs.Edits.{new_header}
use Rattle.keep_edit_spec.specs.Laws.{IsEditable}
use Rattle.keep_edit_spec.specs.Lines.{Page, body_length, in_content, in_document, in_line, in_lines}
use Rattle.keep_edit_spec.specs.Lines.{line_text, more_lines, newline_of, page_text, part_paths, plain_line, put_lines}
use Rattle.keep_edit_spec.specs.Lines.{rename_line, with_page}
use Rattle.keep_edit_spec.specs.Look.{holder, keys_in}
use Rattle.keep_edit_spec.specs.Runs.{AreApart}
use Rattle.keep_edit_spec.specs.TextChanges.{TextChange, place_of_change}
use Rattle.keep_edit_spec.specs.Values.{Act}
use Rattle.keep_edit_spec.proofs.Common.LineLaws.{Reaches}
use Rattle.keep_edit_spec.proofs.Common.LineTexts.{in_line-is}
use Rattle.keep_edit_spec.proofs.Common.Runs.{strip-append}
use Rattle.keep_edit_spec.proofs.Common.Texts.{EachIs, IsAct}
use Rattle.keep_edit_spec.proofs.Insert.KeysAtEnd.{first_is, path_goes_on}
use Rattle.keep_edit_spec.proofs.Lists.BroughtLines as brought
use Rattle.keep_edit_spec.proofs.Lists.BroughtLines.{changed, edited_is, last, means, rest_lines}
use Rattle.keep_edit_spec.proofs.Lists.BroughtSaid.{kinds_apart, table_clear}
use Rattle.keep_edit_spec.proofs.Lists.BroughtWay.{path_is, reading_there}
use Rattle.keep_edit_spec.proofs.Lists.HeaderWay.{unnamed}
use Rattle.keep_edit_spec.proofs.Lists.LineMore.{FindsNone, more_past}
use Rattle.keep_edit_spec.proofs.Lists.NewHolder.{apart_differs, apart_under, clear_under}
use Rattle.keep_edit_spec.proofs.Lists.Places.{with_lines_before}
use Rattle.keep_edit_spec.proofs.Lists.SetPlaces.{Stays, framed_stays}
use Rattle.keep_edit_spec.proofs.Remove.RemoveLines.{IsOwnLine}
use Rattle.keep_edit_spec.proofs.Remove.Shift.{not_reached}
use Rattle.keep_edit_spec.proofs.Rename.RenamedParts.{keyval_position, part_reaches}

-- ---- after the end of a body no keyval comes before the next header

left_by : (x : Content) (before after : Gap) (comment : Option Written) (ls : List Line)
    → body_length (drop (body_length ls) ls) ≡ 0
    → (let l : Line = record { before = before; content = x; after = after; comment = comment } in
    body_length (drop (body_length (l ∷ ls)) (l ∷ ls)) ≡ 0)
left_by blank before after comment ls none = by (body_length ls) refl none
  where
    l : Line
    l = record { before = before; content = blank; after = after; comment = comment }

    by : (k : ℕ) → body_length ls ≡ k → body_length (drop k ls) ≡ 0
        → body_length (drop (more_lines false k) (l ∷ ls)) ≡ 0
    by zero e none = ap (more_lines false) e
    by (suc k) e none = none
left_by (keyval name v) before after comment ls none = none
left_by (header x k y) before after comment ls none = refl
left_by (element x k y) before after comment ls none = refl

pub none_left : (ls : List Line) → body_length (drop (body_length ls) ls) ≡ 0
none_left [] = refl
none_left (l ∷ ls) = left_by l.content l.before l.after l.comment ls (none_left ls)

-- ---- changes that ask for the reading's body at keyvals alone

-- what a change finds in a line, from a reading on
abbrev pub Finds : Type 0
Finds = Reading → Line → Option (Changed Line)

abbrev AlikeIn : Finds → Line → Type 0
AlikeIn f l =
    (t : List (List Part)) (a b : List Part)
    → f (record { tables = t; body = a }) l ≡ f (record { tables = t; body = b }) l

-- nothing in a line without content, and in a header the same in each body
abbrev pub FindsInAnyBody : Finds → Type 0
FindsInAnyBody f =
    (before after : Gap) (comment : Option Written)
    → ((r : Reading) → f r (record { before = before; content = blank; after = after; comment = comment }) ≡ None)
    × ((x y : Gap) (k : Key)
    → AlikeIn f (record { before = before; content = header x k y; after = after; comment = comment })
    × AlikeIn f (record { before = before; content = element x k y; after = after; comment = comment }))

module _ (f : Finds) (bodiless : FindsInAnyBody f) (t : List (List Part)) (a b : List Part) where
  abbrev in_a : Reading
  in_a = record { tables = t; body = a }

  abbrev in_b : Reading
  in_b = record { tables = t; body = b }

  -- of a line that is no keyval
  alike_line : (x : Content) (before after : Gap) (comment : Option Written) (ls : List Line)
      → (let l : Line = record { before = before; content = x; after = after; comment = comment } in
      body_length (l ∷ ls) ≡ 0 → f in_a l ≡ f in_b l)
  alike_line blank before after comment ls none =
      (bodiless before after comment).0 in_a ∙ sym ((bodiless before after comment).0 in_b)
  alike_line (keyval name v) before after comment ls none = absurd cc
  alike_line (header x k y) before after comment ls none = ((bodiless before after comment).1 x y k).0 t a b
  alike_line (element x k y) before after comment ls none = ((bodiless before after comment).1 x y k).1 t a b

  -- and of those after it
  alike_after : (x : Content) (before after : Gap) (comment : Option Written) (es : List Ended) (last : Line)
      → (let l : Line = record { before = before; content = x; after = after; comment = comment } in
      body_length (l ∷ (map line_of es ++ last ∷ [])) ≡ 0
      → (body_length (map line_of es ++ last ∷ []) ≡ 0 → in_lines f in_a es last ≡ in_lines f in_b es last)
      → in_lines f (after_line in_a l) es last ≡ in_lines f (after_line in_b l) es last)
  alike_after blank before after comment es last none then = by (body_length (map line_of es ++ last ∷ [])) refl none
    where
      by : (k : ℕ) → body_length (map line_of es ++ last ∷ []) ≡ k → more_lines false k ≡ 0
          → in_lines f in_a es last ≡ in_lines f in_b es last
      by zero e some = then e
      by (suc k) e some = absurd cc
  alike_after (keyval name v) before after comment es last none then = absurd cc
  alike_after (header x k y) before after comment es last none then = refl
  alike_after (element x k y) before after comment es last none then = refl

  alike_behind : (es : List Ended) (last : Line) → body_length (map line_of es ++ last ∷ []) ≡ 0
      → in_lines f in_a es last ≡ in_lines f in_b es last
  alike_behind [] last none =
      ap (within (λ (l : Line). record { ended = []; last = l }) [] [])
      (alike_line last.content last.before last.after last.comment [] none)
  alike_behind (e ∷ es) last none =
      let page : Page = record { ended = es; last = last } in
      let with_line : Line → Page = λ x.
      record { ended = record { line = x; newline = e.newline } ∷ es; last = last } in
      let after_first : Page → Page = λ b. record { ended = e ∷ b.ended; last = b.last } in
      let l : Line = e.line in
      ap₂ (λ (o : Option (Changed Line)) (p : Option (Changed Page)).
      or_else (within with_line [] (e.newline.text ++ page_text page) o)
      (within after_first (text_of (ended_leaves e)) [] p))
      (alike_line l.content l.before l.after l.comment (map line_of es ++ last ∷ []) none)
      (alike_after l.content l.before l.after l.comment es last none (alike_behind es last))

module _ (profile : Profile) (limit : ℕ) (s : Document) (path : List Part) (value : Value) (c : TextChange)
    (fine : IsEditable profile limit s) (h : BringsHeader profile limit s path value c) where
  abbrev pub now : Document
  now = edited_document s (insert path value)

  abbrev pub table : List Part
  table = holder path (mentions_in s)

  -- the number of the first new line, and the new lines
  abbrev pub n : ℕ
  n = brought.n profile limit s path value c h

  abbrev pub new_lines : List Ended
  new_lines = brought.new_lines profile limit s path value c h

  -- the lines of the header and of the keyval, and the reading before each
  abbrev pub head_line : Line
  head_line = plain_line (new_header (keys_in table))

  abbrev pub statement : Line
  statement = plain_line (keyval (name_with (h.text ∷ h.more)) value)

  abbrev pub r : Reading
  r = brought.r profile limit s path value c h

  abbrev pub inside : Reading
  inside = record { tables = r.tables; body = table }

  -- ---- the keyval

  abbrev name : Name
  name = name_with (h.text ∷ h.more)

  pub own_place : table ++ step 0 (Some name) ≡ path
  own_place = ap (λ (ks : List (List ℕ)). table ++ map key ks) (means profile limit s path value c h) ∙ sym h.new

  pub its : IsOwnLine inside.body path statement.content
  its = record { name = name; held = value; was = refl; place = own_place }

  pub path_clear : (other : List Part) → strip (first_new s path) other ≡ None → strip path other ≡ None
  path_clear other clear =
      subst (λ (p : List Part). strip p other ≡ None) (sym (path_goes_on s path h.text h.more h.new))
      (clear_under (first_new s path) (map key h.more) other clear)

  pub path_apart : (other : List Part) → AreApart (first_new s path) other → AreApart path other
  path_apart other apart =
      subst (λ (p : List Part). AreApart p other) (sym (path_goes_on s path h.text h.more h.new))
      (apart_under (first_new s path) (map key h.more) other apart)

  pub path_differs : (other : List Part) → strip (first_new s path) other ≡ None → path ≢ other
  path_differs other clear = apart_differs path other (path_clear other clear)

  -- the table's path is a beginning of that of the first new key
  pub table_differs : (other : List Part) → AreApart (first_new s path) other → table ≢ other
  table_differs other apart same =
      let on : strip other (first_new s path) ≡ Some (key h.text ∷ []) =
      ap₂ (λ (p q : List Part). strip p q) (sym same) (first_is s path h.text h.more h.new)
      ∙ strip-append table (key h.text ∷ []) in
      let no : None ≡ Some (key h.text ∷ []) = sym apart.1 ∙ on in
      absurd cc

  -- ---- the insert's change

  abbrev pub put_page : Changed Page
  put_page = put_lines n new_lines (newline_of s) s.ended s.last

  abbrev pub made : Changed Document
  made = framed_change (with_page s) (text_of (bom_leaves s.bom)) [] put_page

  pub made_place : place_of made ≡ place_of_change c
  made_place =
      let end : c.at ≡ c.at + c.size = omega (arith, h.adds) in
      ap (λ (o : Option (Changed Document)). place_of (changed_or_same s o))
      (sym (changed profile limit s path value c h)) ∙ h.is
      ∙ ap (λ (z : ℕ). record { start = c.at; end = z; new = c.new }) end

  edited_made : made.to ≡ now
  edited_made =
      ap (λ (o : Option (Changed Document)). (changed_or_same s o).to) (sym (changed profile limit s path value c h))

  pub to_is : made.to ≡ with_lines_before n new_lines s
  to_is = edited_made ∙ edited_is profile limit s path value c h

  -- ---- the lines behind the new ones

  lines_before : take n (lines s) ≡ map line_of (take n s.ended)
  lines_before =
      take-append-le n (map line_of s.ended) (s.last ∷ []) (omega (arith, h.closed, length-map s.ended line_of))
      ∙ take-map line_of n s.ended

  lines_behind : drop n (lines s) ≡ map line_of (drop n s.ended) ++ s.last ∷ []
  lines_behind =
      drop-append-le n (map line_of s.ended) (s.last ∷ []) (omega (arith, h.closed, length-map s.ended line_of))
      ∙ ap (λ (ls : List Line). ls ++ s.last ∷ []) (drop-map line_of n s.ended)

  none_behind : body_length (map line_of (drop n s.ended) ++ s.last ∷ []) ≡ 0
  none_behind =
      ap body_length (sym lines_behind ∙ rest_lines profile limit s path value c h)
      ∙ none_left (last profile limit s path value c h).post

  -- ---- what is found after the insert

  -- before the new lines
  abbrev before_new : Reading
  before_new = reading_after_lines start (map line_of (take n s.ended))

  pub before_is : before_new ≡ r
  before_is =
      ap (reading_after_lines start) (sym lines_before) ∙ reading_there profile limit s path value c fine h

  -- after the header's line
  abbrev after_head : List Part → Reading
  after_head p = record { tables = r.tables; body = p }

  abbrev own_path : List Part
  own_path = header_path r.tables [] (keys_of (key_with (keys_in table)))

  -- of a change that finds nothing in the new lines
  module _ (f : Finds) (cuts : (q : Reading) (l : Line) → EachIs line_text l (f q l)) (bodiless : FindsInAnyBody f)
      (headless : f r head_line ≡ None) (none : f inside statement ≡ None) where
    finds_none : FindsNone f cuts before_new new_lines
    finds_none =
        let in_keyval : f (after_head own_path) statement ≡ None =
        ap (λ (p : List Part). f (after_head p) statement) (path_is profile limit s path value c fine h) ∙ none in
        subst (λ (q : Reading). FindsNone f cuts q new_lines) (sym before_is)
        ((bodiless [] [] None).0 r, (headless, (in_keyval, tt)))

    abbrev behind : Reading → Option (Changed Page)
    behind q = in_lines f q (drop n s.ended) s.last

    behind_stays : behind (reading_after_lines before_new (map line_of new_lines)) ≡ behind before_new
    behind_stays =
        ap (λ (q : Reading). behind (reading_after_lines q (map line_of new_lines))) before_is
        ∙ alike_behind f bodiless r.tables own_path r.body (drop n s.ended) s.last none_behind
        ∙ ap behind (sym before_is)

    pub found_stays : Stays made (in_document s (in_lines f start s.ended s.last))
        (in_document now (in_lines f start now.ended now.last))
    found_stays =
        subst (λ (d : Document). Stays made (in_document s (in_lines f start s.ended s.last))
        (in_document d (in_lines f start d.ended d.last))) edited_made
        (framed_stays (with_page s) (text_of (bom_leaves s.bom)) [] put_page (in_lines f start s.ended s.last)
        (in_lines f start made.to.ended made.to.last)
        (more_past f cuts new_lines (newline_of s) start n s.ended s.last h.closed finds_none behind_stays))

  -- in values
  pub act_none : (act : Act) (other : List Part) → strip (first_new s path) other ≡ None
      → in_line act other inside statement ≡ None
  act_none act other clear =
      let no : strip (table ++ step 0 (Some name)) other ≡ None =
      ap (λ (p : List Part). strip p other) own_place ∙ path_clear other clear in
      let none : in_content act table other (keyval name value) ≡ None = rw (in_content, no) refl in
      let here : Line = statement in
      ap (within (λ (x : Content). record here { content = x }) (text_of here.before)
      (text_of here.after ++ text_of (comment_leaves here.comment))) none

  pub still_nested : (act : Act) → IsAct act → (other : List Part) → strip (first_new s path) other ≡ None
      → Stays made (nested act other s) (nested act other now)
  still_nested act is other clear =
      found_stays (in_line act other) (λ q l. in_line-is act is other q l)
      (λ before after comment. ((λ q. refl), λ x y k. ((λ t a b. refl), λ t a b. refl))) refl
      (act_none act other clear)

  -- among key parts
  pub header_none : (new : Written) (other : List Part) → AreApart (first_new s path) other
      → rename_line new other r head_line ≡ None
  header_none new other apart =
      let clear : strip other own_path ≡ None =
      ap (strip other) (path_is profile limit s path value c fine h)
      ∙ table_clear profile limit s path value c fine h other apart in
      let no : position (same_path other) (part_paths r head_line.content) ≡ None =
      unnamed r.tables (keys_of (key_with (keys_in table))) other clear in
      rw (rename_line, no) refl

  -- each part of the keyval's key is on the way to the path
  part_none : (other : List Part) → AreApart (first_new s path) other
      → position (same_path other) (part_paths inside statement.content) ≡ None
  part_none other apart = by (position (same_path other) (part_paths inside statement.content)) refl
    where
      by : (o : Option ℕ) → position (same_path other) (part_paths inside statement.content) ≡ o
          → position (same_path other) (part_paths inside statement.content) ≡ None
      by None e = e
      by (Some i) e =
          let ks : List (List ℕ) = keys_of name.key in
          let u : Reaches other (table ++ map key ks) =
          part_reaches other table i ks (keyval_position other table i ks e) in
          absurd (not_reached other path (path_apart other apart).1
          (subst (λ (p : List Part). Reaches other p) own_place u))

  pub rename_none : (new : Written) (other : List Part) → AreApart (first_new s path) other
      → rename_line new other inside statement ≡ None
  rename_none new other apart = rw (rename_line, part_none other apart) refl

  -- ---- what is said

  pub kinds_stay : (q : List Part) → AreApart (first_new s path) q
      → kinds_at q (mentions_in now) ≡ kinds_at q (mentions_in s)
  kinds_stay = kinds_apart profile limit s path value c fine h
