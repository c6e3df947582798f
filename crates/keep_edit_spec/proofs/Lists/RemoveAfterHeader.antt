-- A remove takes the same line, or leaves its own line with the comment, after a header came at the end of the text.
--
-- All lines are still there, read as before, and the header's two come behind them (HeaderLines). These, and the last
-- line, which is blank, are no own line of a path. So the other line is still the last that is, at the same number
-- (`own_now`), no line of its path has a comment (`bare_now`), and the remove is not refused, as the new document obeys
-- the rules. The lines before it are as long as before, and the header comes after it (`stays`).
--
-- Theorems: `remove_after_table`, `remove_after_element`, `clear_after_table`, `clear_after_element`.
use Rattle.std.proofs.Common.{◌≡◌, ℕ, suc, ◌+◌, ◌-◌, ◌<◌, ◌≤◌, Bool, true, false, cond, List, [], ◌∷◌, length, map}
use Rattle.std.proofs.Common.{refl, sym, ap, ap₂, subst, ◌∙◌, length-append, arith, Option, Some, None, inr}
use Rattle.std.proofs.lemmas.Bool.{lt-ltb}
use Rattle.std.proofs.lemmas.List.{take-append-le}
use Rattle.keep_types.specs.declared.leaf.Profile.{Profile}
use Rattle.keep_syntax.specs.Tree.{Content, blank, element, header, Line, Ended, Document, bom_leaves, text, text_of}
use Rattle.keep_path.specs.Path.{Part}
use Rattle.keep_meaning.specs.Marks.{Reading, marks, start}
use Rattle.keep_meaning.specs.Meaning.{after_line, line_of, lines, mentions_in, reading_after_lines}
use Rattle.keep_meaning.specs.Rules.{ObeysRules}
use Rattle.keep_edit_spec.specs.Changed.{Changed, Place, place_of, put}
use Rattle.keep_edit_spec.specs.ClearedLines.{ClearsLine, line_start}
use Rattle.keep_edit_spec.specs.Edits.{append, append_element, append_table, changed_or_same, clear_line, is_own}
use Rattle.keep_edit_spec.specs.Edits.{key_with, remove}
use Rattle.keep_edit_spec.specs.Laws.{IsEditable}
use Rattle.keep_edit_spec.specs.Lines.{in_document, in_lines, last_line, plain_line}
use Rattle.keep_edit_spec.proofs.Lists.TwoKinds.{RemoveAfterElement, RemoveAfterTable}
use Rattle.keep_edit_spec.specs.Refusals.{refusal}
use Rattle.keep_edit_spec.specs.RemovedLines.{RemovesLine}
use Rattle.keep_edit_spec.specs.TextChanges.{IsBeside, TextChange, moved, moved_by, place_of_change}
use Rattle.keep_edit_spec.specs.TextEnds.{ends_in_newline}
use Rattle.keep_edit_spec.proofs.EditLaws.{append_element_lawful, append_table_lawful, change_put}
use Rattle.keep_edit_spec.proofs.Append.AppendPlace.{append_place}
use Rattle.keep_edit_spec.proofs.Common.LineTexts.{clear_line-is}
use Rattle.keep_edit_spec.proofs.Common.Marks.{rules_of_document}
use Rattle.keep_edit_spec.proofs.Lists.ClearStays.{clears_now, not_cleared}
use Rattle.keep_edit_spec.proofs.Lists.ClearedKinds.{ClearAfterElement, ClearAfterTable}
use Rattle.keep_edit_spec.proofs.Lists.HeaderLines.{FindsNothing, after_is, append_is, headed, header_lines}
use Rattle.keep_edit_spec.proofs.Lists.HeaderLines.{last_before, last_blank, lines_are, lines_stay, none_stays}
use Rattle.keep_edit_spec.proofs.Lists.HeaderLines.{not_last, put_is, with_header}
use Rattle.keep_edit_spec.proofs.Lists.Places.{width}
use Rattle.keep_edit_spec.proofs.Lists.RemovedOwn.{own_allowed}
use Rattle.keep_edit_spec.proofs.Lists.RemovedPlaces.{at_is, end_is, line_has_bytes, mine, place_is}
use Rattle.keep_edit_spec.proofs.Lists.SetPlaces.{Stays}
use Rattle.keep_edit_spec.proofs.Remove.RemoveWhole.{removable}

module _ (profile : Profile) (limit : ℕ) (s : Document) (content : Content) (c : TextChange) (other : List Part)
    (d : TextChange) (fine : IsEditable profile limit s) (closed : ends_in_newline (text s) ≡ true)
    (comes : place_of (changed_or_same s (append s content)) ≡ place_of_change c)
    (obeys : ObeysRules (marks (mentions_in (changed_or_same s (append s content)).to)))
    (no_keyval : (r : Reading) → is_own other r content ≡ false)
    (allowed : refusal profile limit s (remove other) ≡ None) (n : ℕ)
    (own : last_line (mine other) start (lines s) ≡ Some n) (few : n < length s.ended) where
  abbrev now : Document
  now = with_header s content

  is_now : (changed_or_same s (append s content)).to ≡ now
  is_now = after_is profile s fine.valid closed content

  empty : s.last.content ≡ blank
  empty = last_blank profile s fine.valid closed

  abbrev first : List Line
  first = map line_of s.ended

  -- ---- the lines

  own_now : last_line (mine other) start (lines now) ≡ Some n
  own_now =
      let r : Reading = reading_after_lines start first in
      let on : Reading = after_line r (plain_line content) in
      let more : List Line = plain_line blank ∷ plain_line content ∷ s.last ∷ [] in
      let none : (x : Reading) → last_line (mine other) x (s.last ∷ []) ≡ None =
      λ x. not_last (mine other) x s.last [] (ap (is_own other x) empty) refl in
      ap (last_line (mine other) start) (lines_are s content)
      ∙ last_before (mine other) start first more
      (not_last (mine other) r (plain_line blank) (plain_line content ∷ s.last ∷ []) refl
      (not_last (mine other) r (plain_line content) (s.last ∷ []) (no_keyval r) (none on)))
      ∙ sym (last_before (mine other) start first (s.last ∷ []) (none r)) ∙ own

  closed_now : n < length now.ended
  closed_now = omega (arith, few, length-append s.ended (header_lines s content))

  allowed_now : refusal profile limit now (remove other) ≡ None
  allowed_now =
      own_allowed profile limit now other n
      (rules_of_document now (subst (λ (t : Document). ObeysRules (marks (mentions_in t))) is_now obeys))
      own_now (removable profile limit s other allowed).below_root

  -- ---- the place

  abbrev length_to : List Ended → ℕ
  length_to es = length (text_of (bom_leaves s.bom)) + width es

  at_end : c.at ≡ length (text s)
  at_end = ap (λ (p : Place). p.start) (sym comes ∙ append_place profile s fine.valid content)

  stays : 0 < d.size → d.at + d.size ≤ length (text s) → moved_by c d.at ≡ d.at
  stays some within_text =
      ap (λ (b : Bool). cond b d.at ((d.at + length c.new) - c.size))
      (lt-ltb d.at c.at (omega (arith, at_end, some, within_text)))

  -- where a line begins or ends that comes before the header
  begins : (i : ℕ) → i ≤ length s.ended → line_start now i ≡ line_start s i
  begins i low = ap length_to (take-append-le i s.ended (header_lines s content) low)

  -- ---- the line is taken

  nothing : FindsNothing (clear_line other) content
  nothing = record {
    blanks = λ r l e. not_cleared other r l (ap (is_own other r) e);
    there = λ r. not_cleared other r (plain_line content) (no_keyval r);
  }

  bare_now : in_lines (clear_line other) start s.ended s.last ≡ None
      → in_lines (clear_line other) start now.ended now.last ≡ None
  bare_now bare =
      subst (λ (t : Document). in_lines (clear_line other) start t.ended t.last ≡ None) (put_is s content)
      (none_stays s content empty (clear_line other) (λ r l. clear_line-is other r l) nothing bare)

  removes_after : in_lines (clear_line other) start s.ended s.last ≡ None → d.new ≡ [] → d.at ≡ line_start s n
      → d.at + d.size ≡ line_start s (suc n) → 0 < d.size → d.at + d.size ≤ length (text s)
      → RemovesLine profile limit (changed_or_same s (append s content)).to other (moved c d)
  removes_after bare takes d_at d_end some within_text =
      let moves : moved_by c d.at ≡ d.at = stays some within_text in
      let begin : line_start now n ≡ moved_by c d.at = begins n (omega (arith, few)) ∙ sym d_at ∙ sym moves in
      let end : line_start now (suc n) ≡ moved_by c d.at + d.size =
      begins (suc n) (omega (arith, few)) ∙ sym d_end ∙ ap (λ (a : ℕ). a + d.size) (sym moves) in
      subst (λ (t : Document). RemovesLine profile limit t other (moved c d)) (sym is_now)
      (record {
        allowed = allowed_now;
        bare = bare_now bare;
        number = n;
        own = own_now;
        closed = closed_now;
        takes = takes;
        is = place_is now other n (bare_now bare) own_now closed_now
            ∙ ap₂ (λ (b e : ℕ). record { start = b; end = e; new = [] }) begin end;
      })

  -- ---- the line stays with its comment

  clears_after : (k : ClearsLine profile limit s other d) → k.number ≡ n → c.size ≡ 0
      → (let o : Changed Document = changed_or_same s (append s content) in text o.to ≡ put (text s) (place_of o))
      → ClearsLine profile limit (changed_or_same s (append s content)).to other (moved c d)
  clears_after k same none spelled =
      let some : 0 < d.size = omega (arith, k.some, k.is.start, k.is.end) in
      let within_text : d.at + d.size ≤ length (text s) = omega (arith, k.is.end, k.is.within) in
      let moves : moved_by c d.at ≡ d.at = stays some within_text in
      let side : IsBeside c d =
      inr ((omega (arith, at_end, some, within_text)), (omega (arith, at_end, within_text))) in
      let made : Changed Document = headed s content in
      subst (λ (t : Document). ClearsLine profile limit t other (moved c d)) (sym is_now)
      (clears_now profile limit s now other c d k side allowed_now n own_now closed_now
      (begins (suc n) (omega (arith, few)) ∙ ap (λ (i : ℕ). line_start s (suc i)) (sym same) ∙ sym k.ends
      ∙ ap (λ (a : ℕ). a + d.size) (sym moves))
      (ap text (sym is_now) ∙ spelled ∙ ap (put (text s)) comes) (omega (arith, at_end, none)) made c
      (ap (λ (o : Option (Changed Document)). place_of (changed_or_same s o))
      (sym (append_is profile s fine.valid closed content)) ∙ comes) (λ at. refl)
      (subst (λ (t : Document). Stays made (in_document s (in_lines (clear_line other) start s.ended s.last))
      (in_document t (in_lines (clear_line other) start t.ended t.last))) (put_is s content)
      (lines_stay s content empty (clear_line other) (λ r l. clear_line-is other r l) nothing)))

pub remove_after_table : RemoveAfterTable
remove_after_table profile limit s keys c other d fine h k =
    let (some, within_text) = line_has_bytes profile limit s other d fine k in
    removes_after profile limit s (header [] (key_with keys) []) c other d fine h.closed h.is
    (append_table_lawful profile limit s keys fine h.utf8 h.allowed).obeys (λ r. refl) k.allowed k.number k.own k.closed
    k.bare k.takes (at_is profile limit s other d k) (end_is profile limit s other d k) some within_text

pub remove_after_element : RemoveAfterElement
remove_after_element profile limit s keys c other d fine h k =
    let (some, within_text) = line_has_bytes profile limit s other d fine k in
    removes_after profile limit s (element [] (key_with keys) []) c other d fine h.closed h.is
    (append_element_lawful profile limit s keys fine h.utf8 h.allowed).obeys (λ r. refl) k.allowed k.number k.own
    k.closed k.bare k.takes (at_is profile limit s other d k) (end_is profile limit s other d k) some within_text

pub clear_after_table : ClearAfterTable
clear_after_table profile limit s keys c other d fine h k =
    clears_after profile limit s (header [] (key_with keys) []) c other d fine h.closed h.is
    (append_table_lawful profile limit s keys fine h.utf8 h.allowed).obeys (λ r. refl) k.allowed k.number k.own k.closed
    k refl h.adds (change_put s (append_table keys))

pub clear_after_element : ClearAfterElement
clear_after_element profile limit s keys c other d fine h k =
    clears_after profile limit s (element [] (key_with keys) []) c other d fine h.closed h.is
    (append_element_lawful profile limit s keys fine h.utf8 h.allowed).obeys (λ r. refl) k.allowed k.number k.own
    k.closed k refl h.adds (change_put s (append_element keys))
