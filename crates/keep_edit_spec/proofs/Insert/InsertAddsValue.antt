-- An insert of one key at the end of a body adds a line, and a value there, whatever is in it.
--
-- Between the two documents is the one that an insert of the bare value gives: it has the line (`bare_added`), and
-- obeys the rules, since the path is new and a bare value says one thing alone (`bare_rules`). The new document has the
-- same lines as that one but for the value of the new line (`put_around`), so it has another value there
-- (`replaced_value`).
--
-- Theorem: `insert_adds_value`.
use Rattle.std.proofs.Common.{◌≡◌, ℕ, zero, suc, ◌≤◌, List, [], ◌∷◌, ◌++◌, length, map, take, drop, refl, sym, ap}
use Rattle.std.proofs.Common.{subst, ◌∙◌, arith, Option, Some, None}
use Rattle.std.specs.Prelude.{IsUtf8}
use Rattle.std.specs.List.{AllByRecursion}
use Rattle.keep_types.specs.declared.leaf.Profile.{Profile}
use Rattle.keep_syntax.specs.Tree.{Written, Name, Value, Line, Ended, Document, keyval}
use Rattle.keep_syntax.specs.WholeLines.{empty_line}
use Rattle.keep_path.specs.Path.{Part, key}
use Rattle.keep_meaning.specs.Marks.{marks, start}
use Rattle.keep_meaning.specs.Meaning.{body_fact, line_of, lines, mentions_in, reading_after_lines, step}
use Rattle.keep_meaning.specs.OtherValues.{HasOtherValue}
use Rattle.keep_meaning.specs.Rules.{ObeysRules}
use Rattle.keep_edit_spec.specs.Changed.{Changed}
use Rattle.keep_edit_spec.specs.Edits.{at_line, changed_or_same, edited_document, end_of, insert, name_with, new_keyval}
use Rattle.keep_edit_spec.specs.KeyvalLines.{InsertAddsValue, IsBareLine, bare_value}
use Rattle.keep_edit_spec.specs.Lines.{new_line, newline_of, plain_line, put_lines}
use Rattle.keep_edit_spec.specs.Look.{holder, keys_in}
use Rattle.keep_edit_spec.specs.Refusals.{refusal}
use Rattle.keep_edit_spec.proofs.Common.BodyEnd.{IsBodyEnd}
use Rattle.keep_edit_spec.proofs.Common.InsertLaw.{IsKeyvalLaw}
use Rattle.keep_edit_spec.proofs.Common.Marks.{rules_of_document}
use Rattle.keep_edit_spec.proofs.Common.Runs.{Rules}
use Rattle.keep_edit_spec.proofs.Common.SetDocument.{page_lines}
use Rattle.keep_edit_spec.proofs.Common.SetLaw.{EachTo}
use Rattle.keep_edit_spec.proofs.Insert.InsertAddsLine.{bare_added, end, few, means, no_item, put, rest, texts, unsaid}
use Rattle.keep_edit_spec.proofs.Insert.InsertLine.{body_law, change_here}
use Rattle.keep_edit_spec.proofs.Values.BareValue.{bare_line}
use Rattle.keep_edit_spec.proofs.Values.LineValue.{replaced_value}

-- The lines beside a new line: those before line n, and the same others whatever the line is.
record IsPutBetween (n : ℕ) (newline : Written) (es : List Ended) (last : Line) : Type 0 where
  post : List Line
  is : (e : Ended)
      → page_lines (put_lines n (e ∷ []) newline es last).to ≡ take n (map line_of es ++ last ∷ []) ++ e.line ∷ post

put_around : (n : ℕ) (newline : Written) (es : List Ended) (last : Line) → n ≤ suc (length es)
    → IsPutBetween n newline es last
put_around zero newline [] last h = record { post = last ∷ []; is = λ e. refl }
put_around (suc zero) newline [] last h = record { post = empty_line ∷ []; is = λ e. refl }
put_around (suc (suc m)) newline [] last h = absurd (let k : suc (suc m) ≤ suc 0 = h in omega (arith, k))
put_around zero newline (x ∷ es) last h = record { post = map line_of (x ∷ es) ++ last ∷ []; is = λ e. refl }
put_around (suc m) newline (x ∷ es) last h =
    let more : IsPutBetween m newline es last =
    put_around m newline es last (let k : suc m ≤ suc (suc (length es)) = h in omega (arith, k)) in
    record { post = more.post; is = λ e. ap (λ (ls : List Line). x.line ∷ ls) (more.is e) }

module _ (profile : Profile) (limit : ℕ) (s : Document) (path : List Part) (text : List ℕ) (value : Value) (n : ℕ)
    (utf8 : AllByRecursion IsUtf8 (keys_in path)) (allowed : refusal profile limit s (insert path value) ≡ None)
    (one : path ≡ holder path (mentions_in s) ++ key text ∷ []) (ends : end_of s (holder path (mentions_in s)) ≡ Some n)
    (obeys : ObeysRules (marks (mentions_in s))) where
  abbrev name : Name
  name = name_with (text ∷ [])

  abbrev with_value : Value → Document
  with_value v = edited_document s (insert path v)

  abbrev bare : Document
  bare = with_value (bare_value value)

  abbrev before : List Line
  before = take n (lines s)

  body_ends : IsBodyEnd s (holder path (mentions_in s)) n
  body_ends = end profile limit s path text value n utf8 allowed one ends

  bare_rules : Rules (mentions_in bare)
  bare_rules =
      let v : Value = bare_value value in
      let law : EachTo (IsKeyvalLaw s (holder path (mentions_in s) ++ key text ∷ []) v)
      (at_line s n (keyval name v ∷ [])) =
      body_law profile s (holder path (mentions_in s)) n text [] v body_ends
      (texts profile limit s path text value n utf8 allowed one ends)
      (unsaid profile limit s path text value n utf8 allowed one ends) (rules_of_document s obeys) (tt, tt) in
      let same : at_line s n (new_keyval (drop (length (holder path (mentions_in s))) path) v ∷ [])
      ≡ at_line s n (keyval name v ∷ []) =
      ap (λ (ps : List Part). at_line s n (new_keyval ps v ∷ []))
      (rest profile limit s path text value n utf8 allowed one ends) in
      subst (λ (o : Option (Changed Document)). Rules (mentions_in (changed_or_same s o).to))
      (sym (change_here s path v n (no_item profile limit s path text value n utf8 allowed one ends) ends ∙ same))
      law.rules

  between : IsPutBetween n (newline_of s) s.ended s.last
  between = put_around n (newline_of s) s.ended s.last (few profile limit s path text value n utf8 allowed one ends)

  abbrev line_with : Value → Line
  line_with v = plain_line (keyval name v)

  lines_with : (v : Value) → lines (with_value v) ≡ before ++ line_with v ∷ between.post
  lines_with v =
      put profile limit s path text value n utf8 allowed one ends v
      ∙ between.is (new_line (newline_of s) (keyval name v))

  here : (reading_after_lines start before).body ++ step 0 (Some name) ≡ path
  here =
      ap (λ (ks : List (List ℕ)). (reading_after_lines start before).body ++ map key ks)
      (means profile limit s path text value n utf8 allowed one ends)
      ∙ ap (λ (p : List Part). p ++ key text ∷ []) body_ends.body ∙ sym one

  value_put : HasOtherValue bare (with_value value) path value
  value_put =
      subst (λ (p : List Part). HasOtherValue bare (with_value value) p value) here
      (replaced_value bare (with_value value) before between.post (line_with (bare_value value)) (line_with value) name
      (bare_value value) value bare_rules
      (lines_with (bare_value value)) refl (lines_with value) refl)

  pub value_added : (bare : Document) × IsBareLine s bare path (body_fact value.body) before
      × HasOtherValue bare (with_value value) path value
  value_added = (
    bare,
    bare_line s bare path (body_fact value.body) before
        (bare_added profile limit s path text value n utf8 allowed one ends) bare_rules,
    value_put,
  )

pub insert_adds_value : InsertAddsValue
insert_adds_value profile limit s path text value n editable given utf8 allowed one ends =
    value_added profile limit s path text value n utf8 allowed one ends editable.obeys
