-- A header makes the same change at the end of the text after an insert brought the header of its table.
--
-- The header is no second one of that table, and passes by the first new key. So at each path with first keys of it,
-- what the new lines say was said before (BroughtSaid), but that the table is defined, if the path is the table's.
-- Then the header has more keys and goes through the table, as it may where that is defined (`told_still`). So it is
-- let come (`lets_come`). The last line is the same, and there are lines with a newline: the new ones
-- (`still_closed`). So the header is written as before (HeaderStays).
--
-- Theorems: `table_after_brought`, `element_after_brought`.
use Rattle.std.proofs.Common.{◌≡◌, ◌≢◌, ◌⊎◌, ℕ, true, false, List, [], ◌++◌, length, take, drop, sym, ap, ◌∙◌}
use Rattle.std.proofs.Common.{append-nil, length-append, arith, inl, inr}
use Rattle.keep_types.specs.declared.leaf.Profile.{Profile}
use Rattle.keep_types.specs.declared.role.Role.{Role}
use Rattle.keep_types.specs.declared.role.Role.TheVariants.{Through}
use Rattle.keep_syntax.specs.Tree.{Value, Document, Ended, text}
use Rattle.keep_path.specs.Path.{Part, same_path}
use Rattle.keep_meaning.specs.Marks.{define}
use Rattle.keep_meaning.specs.Meaning.{mentions_in}
use Rattle.keep_meaning.specs.Nodes.{has}
use Rattle.keep_edit_spec.specs.AddedLines.{first_new}
use Rattle.keep_edit_spec.specs.BroughtHeaders.{BringsHeader}
use Rattle.keep_edit_spec.specs.Edits.{edited_document, insert, place}
use Rattle.keep_edit_spec.specs.Laws.{IsEditable}
use Rattle.keep_edit_spec.specs.Lines.{is_empty}
use Rattle.keep_edit_spec.specs.Look.{holder, keys_in}
use Rattle.keep_edit_spec.specs.Runs.{PassesBy}
use Rattle.keep_edit_spec.specs.TextChanges.{TextChange, place_of_change}
use Rattle.keep_edit_spec.specs.TextEnds.{ends_in_newline}
use Rattle.keep_edit_spec.proofs.Common.Runs.{same_path-sound}
use Rattle.keep_edit_spec.proofs.Lists.BroughtKinds.{ElementAfterBrought, TableAfterBrought}
use Rattle.keep_edit_spec.proofs.Lists.BroughtLines as brought
use Rattle.keep_edit_spec.proofs.Lists.BroughtLines.{edited_is}
use Rattle.keep_edit_spec.proofs.Lists.BroughtSaid.{any_stays, count_stays, lawful}
use Rattle.keep_edit_spec.proofs.Lists.HeaderLines.{last_empty, lines_end}
use Rattle.keep_edit_spec.proofs.Lists.HeaderSaid.{LetsCome, passes_clear, refuses_role, told_lets}
use Rattle.keep_edit_spec.proofs.Lists.HeaderStays.{element_stays, table_stays}

module _ (profile : Profile) (limit : ℕ) (s : Document) (path : List Part) (value : Value) (c : TextChange)
    (fine : IsEditable profile limit s) (h : BringsHeader profile limit s path value c) where
  abbrev now : Document
  now = edited_document s (insert path value)

  abbrev a : List Part
  a = holder path (mentions_in s)

  abbrev new_lines : List Ended
  new_lines = brought.new_lines profile limit s path value c h

  abbrev n : ℕ
  n = brought.n profile limit s path value c h

  made : place s (insert path value) ≡ place_of_change c
  made = h.is ∙ ap (λ (e : ℕ). record { start = c.at; end = e; new = c.new }) (omega (arith, h.adds))

  still_closed : ends_in_newline (text s) ≡ true → ends_in_newline (text now) ≡ true
  still_closed closed =
      let is = edited_is profile limit s path value c h in
      lines_end profile now (lawful profile limit s path value c fine h).reads.valid
      (ap (λ (d : Document). is_empty d.last) is ∙ last_empty profile s fine.valid closed)
      (omega (
        arith,
        ap (λ (d : Document). length d.ended) is,
        length-append (take n s.ended) (new_lines ++ drop n s.ended),
        length-append new_lines (drop n s.ended),
      ))

  -- ---- what the header meets

  module _ (more : List (List ℕ)) (passes : PassesBy more (first_new s path)) (other : more ≢ keys_in a) where
    -- That the table is defined refuses no header that goes through it, and this one's own path is another.
    not_there : (role : Role) (q : List Part) (rest : List (List ℕ)) → more ≡ keys_in q ++ rest
        → (rest ≡ []) ⊎ (role ≡ Through) → same_path a q ≡ true → refuses_role role define ≡ false
    not_there role q rest is (inl last) at =
        let own : more ≡ keys_in a =
        is ∙ ap (λ (l : List (List ℕ)). keys_in q ++ l) last ∙ append-nil (keys_in q)
        ∙ ap keys_in (sym (same_path-sound a q at)) in
        absurd (other own)
    not_there role q rest is (inr through) at = ap (λ (r : Role). refuses_role r define) through

    told_still : (role : Role) (q : List Part) (rest : List (List ℕ)) → more ≡ keys_in q ++ rest
        → (rest ≡ []) ⊎ (role ≡ Through)
        → has (refuses_role role) q (mentions_in now) ≡ has (refuses_role role) q (mentions_in s)
    told_still role q rest is comes =
        any_stays profile limit s path value c fine h q (passes_clear more (first_new s path) q rest passes is)
        (refuses_role role)
        (λ at refused. absurd (let clear = not_there role q rest is comes at in cc))

    lets_come : LetsCome (mentions_in s) (mentions_in now) more
    lets_come =
        told_lets (mentions_in s) (mentions_in now) more told_still
        (λ q rest is.
        count_stays profile limit s path value c fine h q (passes_clear more (first_new s path) q rest passes is))

pub table_after_brought : TableAfterBrought
table_after_brought profile limit s path value c more d fine h k passes other newline =
    table_stays profile limit s (insert path value) c more d fine (lawful profile limit s path value c fine h)
    (made profile limit s path value c fine h) newline
    (λ e. still_closed profile limit s path value c fine h k.closed)
    (lets_come profile limit s path value c fine h more passes other) k

pub element_after_brought : ElementAfterBrought
element_after_brought profile limit s path value c more d fine h k passes other newline =
    element_stays profile limit s (insert path value) c more d fine (lawful profile limit s path value c fine h)
    (made profile limit s path value c fine h) newline
    (λ e. still_closed profile limit s path value c fine h k.closed)
    (lets_come profile limit s path value c fine h more passes other) k
