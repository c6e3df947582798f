-- A remove takes the same table or element with its header after an insert, of a first new key apart from its path,
-- added its line beside it.
--
-- The new line begins no body, so the header is still the last that begins the body, a line later if it comes after the
-- new one (`head_now`). The new one comes where a body ends or right after a keyval (`cut_here`), so the same is true
-- of the end of the body (`end_now`). The line is not added at that end: there the body is that of the path that goes,
-- and the first new key would be under it (`not_at_end`). So the end comes as much later as the header does (`starts`,
-- `moves_whole`). The line says nothing at the path (AddedKeyval), and the text still ends in a newline. So the remove
-- takes these lines (TakenAgain).
--
-- Theorems: `taken_after_insert`; `moves_whole`.
use Rattle.std.proofs.Common.{◌≡◌, ℕ, suc, ◌+◌, ◌≤◌, Bool, true, false, List, [], ◌∷◌, ◌++◌, length, map, take, drop}
use Rattle.std.proofs.Common.{refl, sym, ap, ap₂, subst, ◌∙◌, append_assoc, length-append, arith, Some, None, inl, inr}
use Rattle.std.specs.Option.{option_map}
use Rattle.std.specs.Prelude.{nat_lt}
use Rattle.std.proofs.lemmas.Bool.{cases_lt, le-ltb, lt-ltb}
use Rattle.std.proofs.lemmas.List.{take-append-drop}
use Rattle.keep_types.specs.declared.leaf.Profile.{Profile}
use Rattle.keep_syntax.specs.Tree.{Document, Ended, Line, Name, Value, bom_leaves, keyval, text_of}
use Rattle.keep_path.specs.Path.{Part, key, strip}
use Rattle.keep_meaning.specs.Marks.{start}
use Rattle.keep_meaning.specs.Meaning.{lines, mentions_in, reading_after_lines}
use Rattle.keep_edit_spec.specs.AddedLines.{first_new}
use Rattle.keep_edit_spec.specs.ClearedLines.{line_start}
use Rattle.keep_edit_spec.specs.DottedLines.{AddsLineTo}
use Rattle.keep_edit_spec.specs.Edits.{edited_document, end_of, insert, name_with}
use Rattle.keep_edit_spec.specs.Laws.{IsEditable, IsLawfulEdit}
use Rattle.keep_edit_spec.specs.Lines.{begins, ended_text, last_line, new_line, newline_of, plain_line, reading_at}
use Rattle.keep_edit_spec.specs.Look.{holder}
use Rattle.keep_edit_spec.specs.RemovedHeaders.{RemovesHeader}
use Rattle.keep_edit_spec.specs.Runs.{AreApart}
use Rattle.keep_edit_spec.specs.TextChanges.{IsBeside, TextChange, change_at, moved, moved_by}
use Rattle.keep_edit_spec.proofs.Common.BodyEnd.{end_is}
use Rattle.keep_edit_spec.proofs.Common.Runs.{strip-append}
use Rattle.keep_edit_spec.proofs.Common.SetDocument.{reading_of}
use Rattle.keep_edit_spec.proofs.Lists.AddedKeyval.{AddsKeyval, keys, keyval_of, kinds_stay}
use Rattle.keep_edit_spec.proofs.Lists.BodyEnds.{IsCut, cut_at, end_moves}
use Rattle.keep_edit_spec.proofs.Lists.DottedLine.{at_is as dotted_at}
use Rattle.keep_edit_spec.proofs.Lists.HeaderAfterInsert.{line_lawful, still_closed}
use Rattle.keep_edit_spec.proofs.Lists.InsertInPlace.{same_number}
use Rattle.keep_edit_spec.proofs.Lists.LineAfterDotted.{cut_through}
use Rattle.keep_edit_spec.proofs.Lists.NewPaths.{first_path}
use Rattle.keep_edit_spec.proofs.Lists.Places.{at_is as line_at, later_line, line_moves}
use Rattle.keep_edit_spec.proofs.Lists.PutsKeyval.{first_long, lines_are}
use Rattle.keep_edit_spec.proofs.Lists.RemovedOwn.{last_without}
use Rattle.keep_edit_spec.proofs.Lists.TakenAgain as again
use Rattle.keep_edit_spec.proofs.Lists.TakenKinds.{TakenAfterInsert}

-- ---- bytes that come beside others

-- not at their end: so where these end is moved as where they begin
pub moves_whole : (c d : TextChange) → c.size ≡ 0 → IsBeside c d → (d.at + d.size ≡ c.at → ⊥)
    → moved_by c (d.at + d.size) ≡ moved_by c d.at + d.size
moves_whole c d adds (inl first) apart =
    let begin : nat_lt d.at c.at ≡ false = le-ltb d.at c.at (omega (arith, first, adds)) in
    let end : nat_lt (d.at + d.size) c.at ≡ false = le-ltb (d.at + d.size) c.at (omega (arith, first, adds)) in
    rw (begin, end) (omega (arith, adds))
moves_whole c d adds (inr (less, within)) apart = elim (cases_lt (d.at + d.size) c.at) [
  | inl before ↦ rw (lt-ltb d.at c.at less, lt-ltb (d.at + d.size) c.at before) refl
  | inr at ↦ absurd (apart (omega (arith, at, within)))
]

-- ---- the section

module _ (profile : Profile) (limit : ℕ) (s : Document) (path : List Part) (value : Value) (c : TextChange) (to : Bool)
    (other : List Part) (d : TextChange) (fine : IsEditable profile limit s)
    (adds : AddsLineTo to profile limit s path value c) (k : RemovesHeader profile limit s other d)
    (apart : AreApart (first_new s path) other) where
  h : AddsKeyval profile limit s path value c
  h = keyval_of profile limit s path value c to fine adds

  abbrev now : Document
  now = edited_document s (insert path value)

  abbrev n : ℕ
  n = h.n

  abbrev head : ℕ
  head = again.head_number profile limit s other d fine k

  abbrev end : ℕ
  end = again.end_number profile limit s other d fine k

  abbrev name : Name
  name = name_with (keys profile limit s path value c h)

  law : IsLawfulEdit profile limit s (insert path value)
  law = line_lawful to profile limit s path value c fine adds

  fine_now : IsEditable profile limit now
  fine_now = record { valid = law.reads.valid; shallow = law.reads.shallow; obeys = law.obeys }

  -- ---- the numbers of the header and of the end

  abbrev before : List Line
  before = take n (lines s)

  abbrev added : Line
  added = plain_line (keyval name value)

  head_now : last_line (begins other) start (lines now) ≡ Some (later_line n head)
  head_now =
      ap (last_line (begins other) start) (lines_are s now n name value c h.puts)
      ∙ last_without (begins other) start before added (drop n (lines s))
      (reading_of (reading_after_lines start before) added name value refl) refl
      ∙ ap₂ (λ (i : ℕ) (ls : List Line). option_map (later_line i) (last_line (begins other) start ls))
      (first_long s now n name value c h.puts) (take-append-drop n (lines s))
      ∙ ap (option_map (later_line n)) (again.head_is profile limit s other d fine k)

  -- the line comes at the end of a body, or right after a keyval
  cut_here : (b : Bool) → AddsLineTo b profile limit s path value c → IsCut name value (lines s) n
  cut_here true it =
      subst (IsCut name value (lines s)) (same_number profile limit s fine (suc it.number) n it.closed h.few
      (sym (dotted_at profile limit s path value c it) ∙ h.puts.at))
      (cut_through name value (holder path (mentions_in s)) (lines s) it.number it.last)
  cut_here false it =
      subst (IsCut name value (lines s)) (same_number profile limit s fine it.number n it.closed h.few
      (sym (line_at profile limit s path value c it) ∙ h.puts.at))
      (cut_at name value s (holder path (mentions_in s)) it.number it.ends)

  end_now : end_of now other ≡ Some (later_line n end)
  end_now =
      end_moves name value s now n other end (cut_here to adds) (lines_are s now n name value c h.puts)
      (again.ends_is profile limit s other d fine k)

  -- ---- where they begin

  starts : (m : ℕ) (x : TextChange) → m ≤ length s.ended → x.at ≡ line_start s m
      → line_start now (later_line n m) ≡ moved_by c x.at
  starts m x few at =
      let bom : List ℕ = text_of (bom_leaves s.bom) in
      let put : List Ended = take n s.ended ++ new_line (newline_of s) (keyval name value) ∷ drop n s.ended in
      ap (λ (t : Document). line_start t (later_line n m)) h.puts.is
      ∙ sym (length-append bom (ended_text (take (later_line n m) put)))
      ∙ line_moves profile bom s.ended fine.valid.ended n m (new_line (newline_of s) (keyval name value)) c x h.few
      few h.puts.adds h.puts.line h.puts.at at

  -- the line's body is not the one that goes, since the first new key is under it
  not_at_end : n ≡ end → ⊥
  not_at_end e =
      let body : ℕ → List Part = λ i. (reading_at i (lines s)).body in
      let rest : List Part = map key h.way ++ key h.inserts.text ∷ [] in
      let new : first_new s path ≡ other ++ rest =
      first_path profile limit s path value h.inserts ∙ ap (λ (a : List Part). a ++ key h.inserts.text ∷ []) h.holds
      ∙ append_assoc (body n) (map key h.way) (key h.inserts.text ∷ [])
      ∙ ap (λ (b : List Part). b ++ rest)
      (ap body e ∙ (end_is s other end (again.ends_is profile limit s other d fine k)).body) in
      let under : None ≡ Some rest = sym apart.1 ∙ ap (strip other) new ∙ strip-append other rest in
      absurd cc

  not_there : d.at + d.size ≡ c.at → ⊥
  not_there e =
      not_at_end (same_number profile limit s fine n end h.few (again.few profile limit s other d fine k)
      (sym h.puts.at ∙ sym e ∙ again.ends_at profile limit s other d fine k))

  takes_still : IsBeside c d → RemovesHeader profile limit now other (moved c d)
  takes_still side =
      let few : end ≤ length s.ended = again.few profile limit s other d fine k in
      again.taken_again profile limit s other d fine k now c (later_line n head) (later_line n end) fine_now
      (still_closed profile limit s path value c fine law h (again.its profile limit s other d fine k).closed)
      (kinds_stay profile limit s path value c h other apart) head_now end_now
      (starts head d (omega (arith, few)) (again.starts_at profile limit s other d fine k))
      (starts end (change_at (d.at + d.size) 0 []) few (again.ends_at profile limit s other d fine k)
      ∙ moves_whole c d h.puts.adds side not_there)

pub taken_after_insert : TakenAfterInsert
taken_after_insert profile limit s path value c to other d fine adds k apart side =
    takes_still profile limit s path value c to other d fine adds k apart side
