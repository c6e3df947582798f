-- The text after edits at its end: what they write stands behind it, and the document is editable still.
--
-- Such an edit takes nothing and writes behind the last byte (`put_last`), so all bytes of the text before it stay
-- where they are (`bytes_stay`), the document's first newline too (NewlineStays).
--
-- Another edit puts its change into the text, so the end of the text is where the change moves it (`then_end`), and the
-- one at the end is there again (`end_again`). What it changes is the same, whatever comes behind the text
-- (`put_before`). So in either order the two make one text, and a text is that of one document (`same_made`).
--
-- Theorems: `same_newline`: after any edit that puts a change into the text; `end_puts`, `end_editable`, `end_text`,
-- `end_length`, `end_later`, `leave_rest`: after one at the end; `header_or_line`: what that is;
-- `end_again`, `same_made`: that one and another; `with_ends`: after all of a list; `bytes_stay`.
use Rattle.std.proofs.Common.{◌≡◌, ℕ, ◌+◌, ◌<◌, ◌≤◌, false, true, List, [], ◌∷◌, ◌++◌, length, take, drop, sym, ap}
use Rattle.std.proofs.Common.{ap₂, subst, ◌∙◌, arith, inl, inr, append_assoc, append-nil, length-append, length-drop}
use Rattle.std.proofs.Common.{Option}
use Rattle.std.proofs.lemmas.Bool.{le-ltb}
use Rattle.std.proofs.lemmas.List.{drop_all, drop-append-le, length-take-le, take_all, take-append-le}
use Rattle.std.proofs.lemmas.List.Elements.{All-head, All-tail}
use Rattle.keep_types.specs.declared.leaf.Profile.{Profile}
use Rattle.keep_syntax.specs.Tree.{Document, text}
use Rattle.keep_syntax.proofs.Shared.{one_document}
use Rattle.keep_edit_spec.specs.Changed.{put}
use Rattle.keep_edit_spec.specs.Edits.{Edit, edited_document}
use Rattle.keep_edit_spec.specs.EndEdits.{AreAtEnd, EndEdit, EndsLeave, IsAtEnd, document_with}
use Rattle.keep_edit_spec.specs.EndEdits.{end_change}
use Rattle.keep_edit_spec.specs.FirstNewline.{HasFirst, LeavesFirstAtEnd}
use Rattle.keep_edit_spec.specs.Laws.{IsEditable}
use Rattle.keep_edit_spec.specs.Lines.{newline_of}
use Rattle.keep_edit_spec.specs.Runs.{IsSeenStill, MakesChange, is_header, is_insert}
use Rattle.keep_edit_spec.specs.TextChanges.{TextChange, change_at, moved, moved_by, place_of_change}
use Rattle.keep_edit_spec.proofs.EditLaws.{change_put}
use Rattle.keep_edit_spec.proofs.Lists.PlacesKept.{change_placed}
use Rattle.keep_edit_spec.proofs.Lists.NewlineStays.{first_behind, newline_by}
use Rattle.keep_edit_spec.proofs.Lists.RunLaws.{same_seen}
use Rattle.keep_edit_spec.proofs.Lists.TextsAfter.{PutsChange, made_puts}

-- ---- bytes that are put in

-- behind the last one
put_last : (bytes new : List ℕ) → put bytes (place_of_change (change_at (length bytes) 0 new)) ≡ bytes ++ new
put_last bytes new =
    ap₂ (λ (a b : List ℕ). a ++ (new ++ b)) (take_all (length bytes) bytes (omega arith))
    (drop_all (length bytes + 0) bytes (omega arith))
    ∙ ap (λ (b : List ℕ). bytes ++ b) (append-nil new)

-- what comes behind all of them stays as it is
put_before : (bytes more : List ℕ) (c : TextChange) → c.at + c.size ≤ length bytes
    → put (bytes ++ more) (place_of_change c) ≡ put bytes (place_of_change c) ++ more
put_before bytes more c within =
    let rest : List ℕ = drop (c.at + c.size) bytes in
    ap₂ (λ (a b : List ℕ). a ++ (c.new ++ b)) (take-append-le c.at bytes more (omega (arith, within)))
    (drop-append-le (c.at + c.size) bytes more within)
    ∙ ap (λ (b : List ℕ). take c.at bytes ++ b) (sym (append_assoc c.new rest more))
    ∙ sym (append_assoc (take c.at bytes) (c.new ++ rest) more)

-- as many as come, without those that go
put_long : (bytes : List ℕ) (c : TextChange) → c.at + c.size ≤ length bytes
    → length (put bytes (place_of_change c)) + c.size ≡ length bytes + length c.new
put_long bytes c within =
    omega (
      arith,
      within,
      length-append (take c.at bytes) (c.new ++ drop (c.at + c.size) bytes),
      length-append c.new (drop (c.at + c.size) bytes),
      length-take-le c.at bytes (omega (arith, within)),
      length-drop (c.at + c.size) bytes,
    )

-- ---- after an edit that puts a change into the text

module _ (profile : Profile) (limit : ℕ) (s : Document) (e : Edit) (c : TextChange)
    (h : PutsChange profile limit s e c) where
  pub then_editable : IsEditable profile limit (edited_document s e)
  then_editable =
      record { valid = h.lawful.reads.valid; shallow = h.lawful.reads.shallow; obeys = h.lawful.obeys }

  then_text : text (edited_document s e) ≡ put (text s) (place_of_change c)
  then_text = change_put s e ∙ h.puts

  then_end : moved_by c (length (text s)) ≡ length (text (edited_document s e))
  then_end =
      rw (le-ltb (length (text s)) c.at (omega (arith, h.within)))
      (omega (
        arith,
        h.within,
        put_long (text s) c h.within,
        ap (λ (b : List ℕ). length b) then_text,
      ))

  -- the first newline is the same if it is known so
  pub same_newline : IsEditable profile limit s → (line : Option (List ℕ)) → HasFirst line s
      → HasFirst line (edited_document s e) → newline_of (edited_document s e) ≡ newline_of s
  same_newline fine = newline_by profile limit s (edited_document s e) fine then_editable

-- ---- after one at the end

module _ (profile : Profile) (limit : ℕ) (s : Document) (t : EndEdit) (fine : IsEditable profile limit s)
    (h : IsAtEnd profile limit s t) where
  abbrev now : Document
  now = edited_document s t.edit

  abbrev d : TextChange
  d = end_change s t

  pub end_puts : PutsChange profile limit s t.edit d
  end_puts = made_puts profile limit s t.edit d fine h.makes

  pub end_editable : IsEditable profile limit now
  end_editable = then_editable profile limit s t.edit d end_puts

  pub end_text : text now ≡ text s ++ t.new
  end_text = then_text profile limit s t.edit d end_puts ∙ put_last (text s) t.new

  pub end_length : length (text now) ≡ length (text s) + length t.new
  end_length = ap (λ (b : List ℕ). length b) end_text ∙ length-append (text s) t.new

  -- what was in the text is no longer at its end
  pub end_later : (n : ℕ) → n ≤ length (text s) → n < length (text now)
  end_later n within = omega (arith, within, h.some, end_length)

  -- where it leaves the first newline, that is known as before
  pub end_first : (line : Option (List ℕ)) → HasFirst line s → LeavesFirstAtEnd line t.new → HasFirst line now
  end_first line has = first_behind profile limit s now fine end_editable line t.new end_text has

  -- the others leave it after it, too
  pub leave_rest : (line : Option (List ℕ)) (ts : List EndEdit) → EndsLeave line s (t ∷ ts) → EndsLeave line now ts
  leave_rest line ts h = record {
    has = end_first line h.has
        (All-head (λ (u : EndEdit). LeavesFirstAtEnd line u.new) t ts h.ends);
    ends = All-tail (λ (u : EndEdit). LeavesFirstAtEnd line u.new) t ts h.ends;
  }

  -- it takes nothing, so it adds a line or appends a header
  pub header_or_line : is_insert t.edit ≡ false → is_header t.edit ≡ true
  header_or_line no_line =
      elim ((change_placed profile limit s t.edit d fine h.makes).takes no_line) [
        | inl some ↦ absurd (omega (arith, some))
        | inr (head, there) ↦ head
      ]

-- ---- one at the end and another

module _ (profile : Profile) (limit : ℕ) (s : Document) (e : Edit) (c : TextChange)
    (h : PutsChange profile limit s e c) (t : EndEdit) (ends : IsAtEnd profile limit s t) where
  abbrev then : Document
  then = edited_document s e

  -- the one at the end after the other, which moves its change
  pub end_again : MakesChange profile limit then t.edit (moved c (end_change s t)) × IsSeenStill s then t.edit
      → IsAtEnd profile limit then t
  end_again (makes, still) = record {
    makes = subst (λ (at : ℕ). MakesChange profile limit then t.edit (change_at at 0 t.new))
        (then_end profile limit s e c h) makes;
    seen_is = same_seen s then t.edit still ∙ ends.seen_is;
    some = ends.some;
  }

  -- both orders, where the other puts the same change into the text after the one at the end
  pub same_made : IsEditable profile limit s → IsAtEnd profile limit then t
      → PutsChange profile limit (edited_document s t.edit) e c
      → edited_document then t.edit ≡ edited_document (edited_document s t.edit) e
  same_made fine again k =
      let now : Document = edited_document s t.edit in
      let then_fine : IsEditable profile limit then = then_editable profile limit s e c h in
      one_document profile (edited_document then t.edit) (edited_document now e)
      (end_editable profile limit then t then_fine again).valid
      (then_editable profile limit now e c k).valid
      (end_text profile limit then t then_fine again
      ∙ ap (λ (b : List ℕ). b ++ t.new) (then_text profile limit s e c h)
      ∙ sym (put_before (text s) t.new c h.within)
      ∙ ap (λ (b : List ℕ). put b (place_of_change c)) (sym (end_text profile limit s t fine ends))
      ∙ sym (then_text profile limit now e c k))

-- ---- after all

-- The document is editable, and its text is that of the first with more bytes behind it.
pub record IsLonger (profile : Profile) (limit : ℕ) (s now : Document) : Type 0 where
  pub editable : IsEditable profile limit now
  pub more : List ℕ
  pub is : text now ≡ text s ++ more

pub with_ends : (profile : Profile) (limit : ℕ) (s : Document) (ts : List EndEdit) → IsEditable profile limit s
    → AreAtEnd profile limit s ts → IsLonger profile limit s (document_with s ts)
with_ends profile limit s [] fine h = record { editable = fine; more = []; is = sym (append-nil (text s)) }
with_ends profile limit s (t ∷ ts) fine h =
    let rest : IsLonger profile limit (edited_document s t.edit) (document_with (edited_document s t.edit) ts) =
    with_ends profile limit (edited_document s t.edit) ts (end_editable profile limit s t fine h.0) h.1 in
    record {
      editable = rest.editable;
      more = t.new ++ rest.more;
      is = rest.is ∙ ap (λ (b : List ℕ). b ++ rest.more) (end_text profile limit s t fine h.0)
          ∙ append_assoc (text s) t.new rest.more;
    }

-- bytes of the first text are there still
pub bytes_stay : (profile : Profile) (limit : ℕ) (s now : Document) (c : TextChange) → IsLonger profile limit s now
    → c.at + c.size ≤ length (text s) → take c.size (drop c.at (text now)) ≡ take c.size (drop c.at (text s))
bytes_stay profile limit s now c h within =
    ap (λ (b : List ℕ). take c.size (drop c.at b)) h.is
    ∙ ap (take c.size) (drop-append-le c.at (text s) h.more (omega (arith, within)))
    ∙ take-append-le c.size (drop c.at (text s)) h.more (omega (arith, within, length-drop c.at (text s)))
