-- An insert that brings the header of its table at the end of the text, after other inserts into that table, which are
-- at the end, too: it adds its line alone, behind theirs.
--
-- The table of both is one, so both are of one kind (`brings_too`, `adds_too`). The first of the others brings the
-- header, and opens the table (BroughtOpens, `over_first`); each of the rest adds its line at the end of the body, and
-- moves this one on (StillAdds, `over_next`). The keys and the newline of the line are those of the first document,
-- since the insert writes the same in both (BroughtTexts).
--
-- Theorems: `over_own`; `line_leaves`: the line is a part of what is written with the header.
use Rattle.std.proofs.Common.{◌≡◌, ◌≢◌, ℕ, ◌+◌, List, [], ◌∷◌, ◌++◌, length, map, All, refl, sym, ap, ap₂, subst, ◌∙◌}
use Rattle.std.proofs.Common.{arith, Option, Some, None}
use Rattle.std.proofs.lemmas.Bool.{le-ltb}
use Rattle.std.proofs.lemmas.List.Elements.{All-head, All-tail}
use Rattle.keep_types.specs.declared.leaf.Profile.{Profile}
use Rattle.keep_syntax.specs.Tree.{Content, Document, Value, blank, keyval, text}
use Rattle.keep_path.specs.Path.{Part, without_last}
use Rattle.keep_meaning.specs.Marks.{start}
use Rattle.keep_meaning.specs.Meaning.{lines, mentions_in}
use Rattle.keep_edit_spec.specs.AddedLines.{AddsLine, first_new}
use Rattle.keep_edit_spec.specs.BroughtHeaders.{BringsHeader}
use Rattle.keep_edit_spec.specs.Edits.{Edit, append_element, append_table, edited_document, end_of, insert, name_with}
use Rattle.keep_edit_spec.specs.Edits.{new_header, remove, rename, set}
use Rattle.keep_edit_spec.specs.EndEdits.{AreAtEnd, EndEdit, IsAtEnd, IsInto, document_with, end_change}
use Rattle.keep_edit_spec.specs.FirstNewline.{IsPlain, LeavesFirstAtEnd}
use Rattle.keep_edit_spec.specs.InsertKinds.{AddsAs}
use Rattle.keep_edit_spec.specs.Insertion.{keyed_text}
use Rattle.keep_edit_spec.specs.Laws.{IsEditable}
use Rattle.keep_edit_spec.specs.Lines.{ended_text, last_line, leads_dotted, new_line, newline_of}
use Rattle.keep_edit_spec.specs.Look.{holder, keys_in}
use Rattle.keep_edit_spec.specs.Runs.{LeavesAlone, MakesChange, seen}
use Rattle.keep_edit_spec.specs.TextChanges.{TextChange, change_at, moved_by}
use Rattle.keep_edit_spec.specs.declared.line_kind.LineKind.{LineKind}
use Rattle.keep_edit_spec.specs.declared.line_kind.LineKind.TheVariants.{LastInBody, OfDotted, WithHeader}
use Rattle.keep_edit_spec.proofs.Insert.LineBefore.{new_line_text}
use Rattle.keep_edit_spec.proofs.Touched.FitLaws.{ended_append}
use Rattle.keep_edit_spec.proofs.Lists.BroughtLines.{new_is}
use Rattle.keep_edit_spec.proofs.Lists.BroughtOpens.{opens_table}
use Rattle.keep_edit_spec.proofs.Lists.BroughtTexts.{keys_alike, newline_alike}
use Rattle.keep_edit_spec.proofs.Lists.EndJoined.{all_last, fine_after_one, length_behind}
use Rattle.keep_edit_spec.proofs.Lists.LineKinds.{keys_of_line, table_is}
use Rattle.keep_edit_spec.proofs.Lists.StillAdds.{still_adds}

-- It adds these bytes at the end of the text of that document, and its first new key is the same.
pub record AddsAtEnd (kind : LineKind) (profile : Profile) (limit : ℕ) (s now : Document) (path : List Part)
    (value : Value) (new : List ℕ) : Type 0 where
  pub fine : IsEditable profile limit now
  pub adds : AddsAs kind profile limit now path value (change_at (length (text now)) 0 new)
  pub first : first_new now path ≡ first_new s path

-- ---- two inserts into one table

module _ (profile : Profile) (limit : ℕ) (s : Document) (path : List Part) (value : Value) (c : TextChange)
    (other : List Part) (more : Value) (d : TextChange)
    (same : holder other (mentions_in s) ≡ holder path (mentions_in s)) where
  -- where the one brings the header, the other does
  brings_too : BringsHeader profile limit s path value c → (kind : LineKind) → AddsAs kind profile limit s other more d
      → BringsHeader profile limit s other more d
  brings_too h LastInBody k =
      let both : None ≡ Some k.number = sym h.bare ∙ sym (ap (end_of s) same) ∙ k.ends in absurd cc
  brings_too h OfDotted k =
      let both : None ≡ Some k.number =
      sym h.no_dots ∙ sym (ap (λ (q : List Part). last_line (leads_dotted q) start (lines s)) same) ∙ k.last in
      absurd cc
  brings_too h WithHeader k = k

  -- and where the one adds its line at the end of the body
  adds_too : AddsLine profile limit s path value c → (kind : LineKind) → AddsAs kind profile limit s other more d
      → AddsLine profile limit s other more d
  adds_too h LastInBody k = k
  adds_too h OfDotted k =
      let both : None ≡ Some h.number = sym k.bare ∙ ap (end_of s) same ∙ h.ends in absurd cc
  adds_too h WithHeader k =
      let both : None ≡ Some h.number = sym k.bare ∙ ap (end_of s) same ∙ h.ends in absurd cc

-- ---- after the others

module _ (profile : Profile) (limit : ℕ) (s : Document) (path : List Part) (value : Value) (c : TextChange)
    (h : BringsHeader profile limit s path value c) (table : List Part)
    (is_table : without_last (first_new s path) ≡ table) where
  abbrev e : Edit
  e = insert path value

  abbrev line : List ℕ
  line = keyed_text (h.text ∷ h.more) value ++ (newline_of s).text

  -- it is the last of the lines that come with the header
  line_plain : IsPlain c.new → IsPlain line
  line_plain plain =
      let newline = newline_of s in
      let two : List Content = blank ∷ new_header (keys_in (holder path (mentions_in s))) ∷ [] in
      let own : Content = keyval (name_with (h.text ∷ h.more)) value in
      let first : List ℕ = ended_text (map (new_line newline) two) in
      all_last (λ b. b ≢ 0x0D) first line
      (subst IsPlain
      (new_is profile limit s path value c h ∙ ended_append (map (new_line newline) two) (new_line newline own ∷ [])
      ∙ ap (λ (bytes : List ℕ). first ++ bytes) (new_line_text newline h.text h.more value)) plain)

  -- so it leaves the first newline where that does
  pub line_leaves : (first : Option (List ℕ)) → LeavesFirstAtEnd first c.new → LeavesFirstAtEnd first line
  line_leaves None plain = line_plain plain
  line_leaves (Some first) h = tt

  module _ (kind : LineKind) (new : List ℕ) (x : Document) (b : AddsAtEnd kind profile limit s x path value new)
      (t : EndEdit) (end : IsAtEnd profile limit x t) where
    abbrev here : TextChange
    here = change_at (length (text x)) 0 new

    abbrev its : TextChange
    its = end_change x t

    -- another into the table has the same one
    one_table : (other : List Part) (more : Value) (a : LineKind) → AddsAs a profile limit x other more its
        → without_last (first_new x other) ≡ table → holder other (mentions_in x) ≡ holder path (mentions_in x)
    one_table other more a k into =
        sym (table_is profile limit x other more its (keys_of_line a profile limit x other more its k)) ∙ into
        ∙ sym (ap without_last b.first ∙ is_table)
        ∙ table_is profile limit x path value here (keys_of_line kind profile limit x path value here b.adds)

  -- ---- the first brings the header

  module _ (x : Document) (b : AddsAtEnd WithHeader profile limit s x path value c.new) (t : EndEdit)
      (end : IsAtEnd profile limit x t) where
    abbrev whole : TextChange
    whole = change_at (length (text x)) 0 c.new

    line_is : keyed_text (b.adds.text ∷ b.adds.more) value ++ (newline_of x).text ≡ line
    line_is =
        ap₂ (λ (ks : List (List ℕ)) (bytes : List ℕ). keyed_text ks value ++ bytes)
        (sym (keys_alike profile limit s x path value c whole h b.adds refl b.first))
        (sym (newline_alike profile limit s x path value c whole h b.adds refl b.first))

    after_first : (f : Edit) → MakesChange profile limit x f (end_change x t) → IsInto table (seen x f)
        → LeavesAlone (seen x f) (seen s e)
        → AddsLine profile limit (edited_document x f) path value (change_at (length (text x) + length t.new) 0 line)
        × (first_new (edited_document x f) path ≡ first_new s path)
    after_first (insert other more) (a, k) into alone =
        let same : holder other (mentions_in x) ≡ holder path (mentions_in x) =
        one_table WithHeader c.new x b t end other more a k into in
        let (adds, first) =
        opens_table profile limit x other more (end_change x t) path value whole b.fine
        (brings_too profile limit x path value whole other more (end_change x t) same b.adds a k) b.adds same
        (λ both. alone (both ∙ b.first)) in (
          subst (λ (bytes : List ℕ). AddsLine profile limit (edited_document x (insert other more)) path value
              (change_at (length (text x) + length t.new) 0 bytes)) line_is adds,
          first ∙ b.first,
        )
    after_first (append_table keys) makes into alone = absurd into
    after_first (append_element keys) makes into alone = absurd into
    after_first (set other more) makes into alone = absurd into
    after_first (rename other name) makes into alone = absurd into
    after_first (remove other) makes into alone = absurd into

    over_first : IsInto table t.seen → LeavesAlone t.seen (seen s e)
        → AddsAtEnd LastInBody profile limit s (edited_document x t.edit) path value line
    over_first into alone =
        let (adds, first) =
        after_first t.edit end.makes (subst (IsInto table) (sym end.seen_is) into)
        (subst (λ (f : Edit). LeavesAlone f (seen s e)) (sym end.seen_is) alone) in
        record {
          fine = fine_after_one profile limit x t b.fine end;
          adds = subst (λ (n : ℕ). AddsLine profile limit (edited_document x t.edit) path value (change_at n 0 line))
              (sym (length_behind profile limit x t b.fine end)) adds;
          first = first;
        }

  -- ---- each of the rest moves the line on

  module _ (x : Document) (b : AddsAtEnd LastInBody profile limit s x path value line) (t : EndEdit)
      (end : IsAtEnd profile limit x t) where
    abbrev there : TextChange
    there = change_at (length (text x)) 0 line

    past : moved_by (end_change x t) (length (text x)) ≡ length (text x) + length t.new
    past = rw (le-ltb (length (text x)) (length (text x)) (omega arith)) (omega arith)

    after_next : (f : Edit) → MakesChange profile limit x f (end_change x t) → IsInto table (seen x f)
        → LeavesAlone (seen x f) (seen s e)
        → AddsLine profile limit (edited_document x f) path value (change_at (length (text x) + length t.new) 0 line)
        × (first_new (edited_document x f) path ≡ first_new s path)
    after_next (insert other more) (a, k) into alone =
        let same : holder other (mentions_in x) ≡ holder path (mentions_in x) =
        one_table LastInBody line x b t end other more a k into in
        let (adds, first) =
        still_adds profile limit x other more (end_change x t) path value there b.fine
        (adds_too profile limit x path value there other more (end_change x t) same b.adds a k) b.adds
        (λ both. alone (both ∙ b.first)) in (
          subst (λ (n : ℕ). AddsLine profile limit (edited_document x (insert other more)) path value
              (change_at n 0 line)) past adds,
          first ∙ b.first,
        )
    after_next (append_table keys) makes into alone = absurd into
    after_next (append_element keys) makes into alone = absurd into
    after_next (set other more) makes into alone = absurd into
    after_next (rename other name) makes into alone = absurd into
    after_next (remove other) makes into alone = absurd into

    over_next : IsInto table t.seen → LeavesAlone t.seen (seen s e)
        → AddsAtEnd LastInBody profile limit s (edited_document x t.edit) path value line
    over_next into alone =
        let (adds, first) =
        after_next t.edit end.makes (subst (IsInto table) (sym end.seen_is) into)
        (subst (λ (f : Edit). LeavesAlone f (seen s e)) (sym end.seen_is) alone) in
        record {
          fine = fine_after_one profile limit x t b.fine end;
          adds = subst (λ (n : ℕ). AddsLine profile limit (edited_document x t.edit) path value (change_at n 0 line))
              (sym (length_behind profile limit x t b.fine end)) adds;
          first = first;
        }

  -- ---- after all

  over_rest : (x : Document) (ts : List EndEdit) → AddsAtEnd LastInBody profile limit s x path value line
      → AreAtEnd profile limit x ts → All (λ t. IsInto table t.seen) ts
      → All (λ t. LeavesAlone t.seen (seen s e)) ts
      → AddsAtEnd LastInBody profile limit s (document_with x ts) path value line
  over_rest x [] b ends into alone = b
  over_rest x (t ∷ ts) b ends into alone =
      over_rest (edited_document x t.edit) ts
      (over_next x b t ends.0 (All-head (λ (u : EndEdit). IsInto table u.seen) t ts into)
      (All-head (λ (u : EndEdit). LeavesAlone u.seen (seen s e)) t ts alone)) ends.1
      (All-tail (λ (u : EndEdit). IsInto table u.seen) t ts into)
      (All-tail (λ (u : EndEdit). LeavesAlone u.seen (seen s e)) t ts alone)

  pub over_own : (x : Document) (t : EndEdit) (ts : List EndEdit)
      → AddsAtEnd WithHeader profile limit s x path value c.new
      → AreAtEnd profile limit x (t ∷ ts) → All (λ t. IsInto table t.seen) (t ∷ ts)
      → All (λ t. LeavesAlone t.seen (seen s e)) (t ∷ ts)
      → AddsAtEnd LastInBody profile limit s (document_with x (t ∷ ts)) path value line
  over_own x t ts b ends into alone =
      over_rest (edited_document x t.edit) ts
      (over_first x b t ends.0 (All-head (λ (u : EndEdit). IsInto table u.seen) t ts into)
      (All-head (λ (u : EndEdit). LeavesAlone u.seen (seen s e)) t ts alone)) ends.1
      (All-tail (λ (u : EndEdit). IsInto table u.seen) t ts into)
      (All-tail (λ (u : EndEdit). LeavesAlone u.seen (seen s e)) t ts alone)
