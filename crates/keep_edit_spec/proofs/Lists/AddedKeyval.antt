-- The line that an insert adds, at the end of a body or to a table which dotted keys make: what both have.
--
-- Its key goes by the keys on the way from its body to the holder, if there are any, and then by the new ones
-- (LineOnWay). The line says again of the tables on that way that they are dotted, which a line before it says, too;
-- and all else that it says is at the path of the first new key or under it. So of a path that does not begin with that
-- one the same holds as before (`fact_stays`, `node_stays`, `any_stays`, `elements_stay`), and if it is no beginning of
-- that one either, the same is said (`kinds_stay`; all in SaidOnWay). At a path that does not begin with that of the
-- first new key an act finds nothing in the line (`act_none`), and a rename finds no part of its key if the two paths
-- are apart (`rename_none`), as each part is on the way to the new path. The insert puts in this one line, so a change
-- that is found in another line is the one before, moved by the line (`found_stays`).
--
-- Theorems: `keyval_of`; `fact_stays`, `node_stays`, `any_stays`, `elements_stay`, `kinds_stay`; `its`, `keeps`,
-- `path_differs`, `rename_none`; `made_place`, `to_is`, `past_lines`, `found_stays`, `still_nested`.
use Rattle.std.proofs.Common.{◌≡◌, ◌≢◌, ℕ, ◌+◌, ◌≤◌, Bool, true, false, List, [], ◌∷◌, ◌++◌, length, map, take, drop}
use Rattle.std.proofs.Common.{refl, sym, ap, subst, ◌∙◌, arith, Option, Some, None}
use Rattle.std.specs.List.{count_by, list_any}
use Rattle.std.specs.Prelude.{position}
use Rattle.std.proofs.lemmas.List.{length-map, take-append-le, take-map}
use Rattle.keep_types.specs.declared.leaf.Profile.{Profile}
use Rattle.keep_syntax.specs.Tree.{Written, Content, Value, Line, Ended, Document, bom_leaves, comment_leaves}
use Rattle.keep_syntax.specs.Tree.{keyval, text_of}
use Rattle.keep_path.specs.Path.{Part, key, same_path, strip}
use Rattle.keep_meaning.specs.Marks.{MentionKind, Reading, below, start}
use Rattle.keep_meaning.specs.Meaning.{after_line, keys_of, line_of, lines, lines_mentions, mentions_in}
use Rattle.keep_meaning.specs.Meaning.{reading_after_lines, step}
use Rattle.keep_meaning.specs.Nodes.{fact_at, is_element, is_node, kinds_at}
use Rattle.keep_edit_spec.specs.AddedLines.{first_new}
use Rattle.keep_edit_spec.specs.Changed.{Changed, framed_change, place_of, within}
use Rattle.keep_edit_spec.specs.DottedLines.{AddsLineTo}
use Rattle.keep_edit_spec.specs.Edits.{at_line, change, changed_or_same, edited_document, insert, name_with, nested}
use Rattle.keep_edit_spec.specs.Edits.{place}
use Rattle.keep_edit_spec.specs.Insertion.{put_in}
use Rattle.keep_edit_spec.specs.Laws.{IsEditable}
use Rattle.keep_edit_spec.specs.Lines.{Page, in_content, in_document, in_line, in_lines, line_text, new_line}
use Rattle.keep_edit_spec.specs.Lines.{newline_of, part_paths, put_lines, reading_at, rename_line, with_page}
use Rattle.keep_edit_spec.specs.Look.{holder}
use Rattle.keep_edit_spec.specs.Runs.{AreApart}
use Rattle.keep_edit_spec.specs.TextChanges.{TextChange, place_of_change}
use Rattle.keep_edit_spec.specs.Values.{Act}
use Rattle.keep_edit_spec.proofs.Common.Doubles.{IsDoubleOf}
use Rattle.keep_edit_spec.proofs.Common.LineLaws.{Reaches}
use Rattle.keep_edit_spec.proofs.Common.LineTexts.{in_line-is}
use Rattle.keep_edit_spec.proofs.Common.Runs.{AllOf}
use Rattle.keep_edit_spec.proofs.Common.SetDocument.{reading_of}
use Rattle.keep_edit_spec.proofs.Common.Stops.{stops}
use Rattle.keep_edit_spec.proofs.Common.Texts.{EachIs, IsAct}
use Rattle.keep_edit_spec.proofs.Lists.DottedLine.{puts as dotted_puts}
use Rattle.keep_edit_spec.proofs.Lists.LineMore.{lines_past}
use Rattle.keep_edit_spec.proofs.Lists.LineOnWay.{AddsOnWay, dotted_on_way, line_on_way, path_apart, path_clear}
use Rattle.keep_edit_spec.proofs.Lists.LineOnWay.{path_is}
use Rattle.keep_edit_spec.proofs.Lists.NewHolder.{apart_differs}
use Rattle.keep_edit_spec.proofs.Lists.NewPaths.{InsertsKeys}
use Rattle.keep_edit_spec.proofs.Lists.PutsKeyval.{PutsKeyval, line_puts}
use Rattle.keep_edit_spec.proofs.Lists.SaidOnWay as said
use Rattle.keep_edit_spec.proofs.Lists.SetPlaces.{Stays, framed_stays}
use Rattle.keep_edit_spec.proofs.Remove.RemoveLines.{IsOwnLine}
use Rattle.keep_edit_spec.proofs.Remove.Shift.{not_reached}
use Rattle.keep_edit_spec.proofs.Rename.RenamedParts.{keyval_position, part_reaches}

-- Before which line it comes, and by which keys its own goes from its body to the holder.
pub record AddsKeyval (profile : Profile) (limit : ℕ) (s : Document) (path : List Part) (value : Value)
    (c : TextChange) : Type 0 where
  pub inserts : InsertsKeys profile limit s path value
  pub n : ℕ
  pub way : List (List ℕ)
  pub few : n ≤ length s.ended
  pub holds : holder path (mentions_in s) ≡ (reading_at n (lines s)).body ++ map key way
  pub means : keys_of (name_with (way ++ inserts.text ∷ inserts.more)).key ≡ way ++ inserts.text ∷ inserts.more
  pub changed : change s (insert path value)
      ≡ at_line s n (keyval (name_with (way ++ inserts.text ∷ inserts.more)) value ∷ [])
  pub doubles : AllOf (IsDoubleOf (lines_mentions start (take n (lines s))))
      (map (below (reading_at n (lines s)).body) (stops way))
  pub puts : PutsKeyval s (edited_document s (insert path value)) n (name_with (way ++ inserts.text ∷ inserts.more))
      value c
  pub is : place s (insert path value) ≡ put_in c.at c.new

-- without what it writes, and with it
abbrev on_way : (profile : Profile) (limit : ℕ) (s : Document) (path : List Part) (value : Value) (c : TextChange)
    → AddsKeyval profile limit s path value c → AddsOnWay profile limit s path value
on_way profile limit s path value c h = record {
  inserts = h.inserts;
  n = h.n;
  way = h.way;
  few = h.few;
  holds = h.holds;
  means = h.means;
  changed = h.changed;
  doubles = h.doubles;
}

abbrev keyval_on : (profile : Profile) (limit : ℕ) (s : Document) (path : List Part) (value : Value) (c : TextChange)
    → (w : AddsOnWay profile limit s path value)
    → PutsKeyval s (edited_document s (insert path value)) w.n
    (name_with (w.way ++ w.inserts.text ∷ w.inserts.more)) value c
    → place s (insert path value) ≡ put_in c.at c.new → AddsKeyval profile limit s path value c
keyval_on profile limit s path value c w puts is = record {
  inserts = w.inserts;
  n = w.n;
  way = w.way;
  few = w.few;
  holds = w.holds;
  means = w.means;
  changed = w.changed;
  doubles = w.doubles;
  puts = puts;
  is = is;
}

pub keyval_of : (profile : Profile) (limit : ℕ) (s : Document) (path : List Part) (value : Value) (c : TextChange)
    (to : Bool) → IsEditable profile limit s → AddsLineTo to profile limit s path value c
    → AddsKeyval profile limit s path value c
keyval_of profile limit s path value c false fine h =
    keyval_on profile limit s path value c (line_on_way profile limit s path value c h)
    (line_puts profile limit s path value c fine h) h.is
keyval_of profile limit s path value c true fine h =
    keyval_on profile limit s path value c (dotted_on_way profile limit s path value c h)
    (dotted_puts profile limit s path value c h fine) h.is

module _ (profile : Profile) (limit : ℕ) (s : Document) (path : List Part) (value : Value) (c : TextChange)
    (h : AddsKeyval profile limit s path value c) where
  abbrev pub now : Document
  now = edited_document s (insert path value)

  -- the keys of the line
  abbrev pub keys : List (List ℕ)
  keys = h.way ++ h.inserts.text ∷ h.inserts.more

  abbrev pub x : Ended
  x = new_line (newline_of s) (keyval (name_with keys) value)

  abbrev pub first : List Ended
  first = take h.n s.ended

  abbrev pub r : Reading
  r = reading_after_lines start (map line_of first)

  abbrev way : AddsOnWay profile limit s path value
  way = on_way profile limit s path value c h

  -- ---- what it says

  pub fact_stays : (q : List Part) → strip (first_new s path) q ≡ None
      → fact_at q (mentions_in now) ≡ fact_at q (mentions_in s)
  fact_stays = said.fact_stays profile limit s path value way

  pub node_stays : (q : List Part) → strip (first_new s path) q ≡ None
      → is_node q (mentions_in now) ≡ is_node q (mentions_in s)
  node_stays = said.node_stays profile limit s path value way

  pub any_stays : (test : MentionKind → Bool) (q : List Part) → strip (first_new s path) q ≡ None
      → list_any test (kinds_at q (mentions_in now)) ≡ list_any test (kinds_at q (mentions_in s))
  any_stays test q clear = said.any_stays profile limit s path value way q clear test

  pub elements_stay : (q : List Part) → strip (first_new s path) q ≡ None
      → count_by is_element (kinds_at q (mentions_in now)) ≡ count_by is_element (kinds_at q (mentions_in s))
  elements_stay = said.elements_stay profile limit s path value way

  -- neither path begins with the other
  pub kinds_stay : (q : List Part) → AreApart (first_new s path) q
      → kinds_at q (mentions_in now) ≡ kinds_at q (mentions_in s)
  kinds_stay = said.kinds_apart profile limit s path value way

  -- ---- the line

  lines_before : take h.n (lines s) ≡ map line_of first
  lines_before =
      take-append-le h.n (map line_of s.ended) (s.last ∷ []) (omega (arith, h.few, length-map s.ended line_of))
      ∙ take-map line_of h.n s.ended

  pub own_path : r.body ++ step 0 (Some (name_with keys)) ≡ path
  own_path =
      ap (λ (ls : List Line). (reading_after_lines start ls).body ++ step 0 (Some (name_with keys))) (sym lines_before)
      ∙ path_is profile limit s path value way

  pub its : IsOwnLine r.body path x.line.content
  its = record { name = name_with keys; held = value; was = refl; place = own_path }

  pub keeps : after_line r x.line ≡ r
  keeps = reading_of r x.line (name_with keys) value refl

  pub path_differs : (other : List Part) → strip (first_new s path) other ≡ None → path ≢ other
  path_differs other clear = apart_differs path other (path_clear profile limit s path value way other clear)

  act_none : (act : Act) (other : List Part) → strip (first_new s path) other ≡ None
      → in_line act other r x.line ≡ None
  act_none act other clear =
      let no : strip (r.body ++ step 0 (Some (name_with keys))) other ≡ None =
      ap (λ (p : List Part). strip p other) own_path ∙ path_clear profile limit s path value way other clear in
      let none : in_content act r.body other (keyval (name_with keys) value) ≡ None = rw (in_content, no) refl in
      let here : Line = x.line in
      ap (within (λ (c : Content). record here { content = c }) (text_of here.before)
      (text_of here.after ++ text_of (comment_leaves here.comment))) none

  -- each part of its key is on the way to the path
  part_none : (other : List Part) → AreApart (first_new s path) other
      → position (same_path other) (part_paths r x.line.content) ≡ None
  part_none other apart = by (position (same_path other) (part_paths r x.line.content)) refl
    where
      by : (o : Option ℕ) → position (same_path other) (part_paths r x.line.content) ≡ o
          → position (same_path other) (part_paths r x.line.content) ≡ None
      by None e = e
      by (Some n) e =
          let ks : List (List ℕ) = keys_of (name_with keys).key in
          let u : Reaches other (r.body ++ map key ks) =
          part_reaches other r.body n ks (keyval_position other r.body n ks e) in
          absurd (not_reached other path
          (path_apart profile limit s path value way other apart).1
          (subst (λ (p : List Part). Reaches other p) own_path u))

  pub rename_none : (new : Written) (other : List Part) → AreApart (first_new s path) other
      → rename_line new other r x.line ≡ None
  rename_none new other apart = rw (rename_line, part_none other apart) refl

  -- ---- the insert's change

  abbrev pub put_page : Changed Page
  put_page = put_lines h.n (x ∷ []) (newline_of s) s.ended s.last

  abbrev pub made : Changed Document
  made = framed_change (with_page s) (text_of (bom_leaves s.bom)) [] put_page

  pub made_place : place_of made ≡ place_of_change c
  made_place =
      let end : c.at ≡ c.at + c.size = omega (arith, h.puts.adds) in
      ap (λ (o : Option (Changed Document)). place_of (changed_or_same s o)) (sym h.changed) ∙ h.is
      ∙ ap (λ (z : ℕ). record { start = c.at; end = z; new = c.new }) end

  edited_made : made.to ≡ now
  edited_made = ap (λ (o : Option (Changed Document)). (changed_or_same s o).to) (sym h.changed)

  pub to_is : made.to ≡ record { bom = s.bom; ended = first ++ x ∷ drop h.n s.ended; last = s.last }
  to_is = edited_made ∙ h.puts.is

  -- ---- what is found after the insert

  pub past_lines : (f : Reading → Line → Option (Changed Line))
      → ((q : Reading) (k : Line) → EachIs line_text k (f q k)) → f r x.line ≡ None
      → Stays put_page (in_lines f start s.ended s.last) (in_lines f start made.to.ended made.to.last)
  past_lines f cuts none = lines_past f cuts x (newline_of s) start h.n s.ended s.last h.few keeps none

  pub found_stays : (f : Reading → Line → Option (Changed Line))
      → ((q : Reading) (k : Line) → EachIs line_text k (f q k)) → f r x.line ≡ None
      → Stays made (in_document s (in_lines f start s.ended s.last))
      (in_document now (in_lines f start now.ended now.last))
  found_stays f cuts none =
      subst (λ (d : Document). Stays made (in_document s (in_lines f start s.ended s.last))
      (in_document d (in_lines f start d.ended d.last))) edited_made
      (framed_stays (with_page s) (text_of (bom_leaves s.bom)) [] put_page (in_lines f start s.ended s.last)
      (in_lines f start made.to.ended made.to.last) (past_lines f cuts none))

  pub still_nested : (act : Act) → IsAct act → (other : List Part) → strip (first_new s path) other ≡ None
      → Stays made (nested act other s) (nested act other now)
  still_nested act is other clear =
      found_stays (in_line act other) (λ q k. in_line-is act is other q k) (act_none act other clear)
