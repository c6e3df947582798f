-- Edits at the end of a text, one list of them after another: each is at the end of the text after those before it.
--
-- Such an edit takes nothing, so the text after it is the text with what it writes behind (`text_behind`).
--
-- Theorems: `document_joined`, `ends_split`, `ends_joined`: two lists; `all_first`, `all_last`: what holds of all;
-- `text_behind`, `length_behind`; `fine_after_one`, `fine_after`, `first_after`: the document after one, or after all.
use Rattle.std.proofs.Common.{◌≡◌, ℕ, ◌+◌, List, [], ◌∷◌, ◌++◌, length, refl, ap, ap₂, ◌∙◌}
use Rattle.std.proofs.Common.{length-append, arith, All, Option}
use Rattle.std.proofs.lemmas.List.{append-nil, drop_all, take_all}
use Rattle.std.proofs.lemmas.List.Elements.{All-cons, All-head, All-nil, All-tail}
use Rattle.keep_types.specs.declared.leaf.Profile.{Profile}
use Rattle.keep_syntax.specs.Tree.{Document, text}
use Rattle.keep_edit_spec.specs.Edits.{edited_document}
use Rattle.keep_edit_spec.specs.EndEdits.{AreAtEnd, EndEdit, EndsLeave, IsAtEnd, document_with}
use Rattle.keep_edit_spec.specs.EndEdits.{end_change}
use Rattle.keep_edit_spec.specs.FirstNewline.{HasFirst, LeavesFirstAtEnd}
use Rattle.keep_edit_spec.specs.Laws.{IsEditable, IsLawfulEdit}
use Rattle.keep_edit_spec.proofs.EditLaws.{change_put}
use Rattle.keep_edit_spec.proofs.Lists.MadeChanges.{change_lawful, change_puts}
use Rattle.keep_edit_spec.proofs.Lists.NewlineStays.{first_behind}

-- ---- two lists

pub document_joined : (s : Document) (first last : List EndEdit)
    → document_with s (first ++ last) ≡ document_with (document_with s first) last
document_joined s [] last = refl
document_joined s (t ∷ first) last = document_joined (edited_document s t.edit) first last

pub ends_split : (profile : Profile) (limit : ℕ) (s : Document) (first last : List EndEdit)
    → AreAtEnd profile limit s (first ++ last)
    → AreAtEnd profile limit s first × AreAtEnd profile limit (document_with s first) last
ends_split profile limit s [] last h = (tt, h)
ends_split profile limit s (t ∷ first) last h =
    let (others, behind) = ends_split profile limit (edited_document s t.edit) first last h.1 in
    ((h.0, others), behind)

pub ends_joined : (profile : Profile) (limit : ℕ) (s : Document) (first last : List EndEdit)
    → AreAtEnd profile limit s first → AreAtEnd profile limit (document_with s first) last
    → AreAtEnd profile limit s (first ++ last)
ends_joined profile limit s [] last h k = k
ends_joined profile limit s (t ∷ first) last h k =
    (h.0, ends_joined profile limit (edited_document s t.edit) first last h.1 k)

-- what holds of all of both holds of those of each
pub all_first : {X : Type 0} (P : X → Type 0) (first last : List X) → All P (first ++ last) → All P first
all_first P [] last h = All-nil P
all_first P (x ∷ first) last h =
    All-cons P x first (All-head P x (first ++ last) h) (all_first P first last (All-tail P x (first ++ last) h))

pub all_last : {X : Type 0} (P : X → Type 0) (first last : List X) → All P (first ++ last) → All P last
all_last P [] last h = h
all_last P (x ∷ first) last h = all_last P first last (All-tail P x (first ++ last) h)

-- ---- the document after one

module _ (profile : Profile) (limit : ℕ) (s : Document) (t : EndEdit) (fine : IsEditable profile limit s)
    (h : IsAtEnd profile limit s t) where
  pub text_behind : text (edited_document s t.edit) ≡ text s ++ t.new
  text_behind =
      change_put s t.edit ∙ change_puts profile limit s t.edit (end_change s t) fine h.makes
      ∙ ap₂ (λ (first last : List ℕ). first ++ (t.new ++ last)) (take_all (length (text s)) (text s) (omega arith))
      (drop_all (length (text s) + 0) (text s) (omega arith))
      ∙ ap (λ (new : List ℕ). text s ++ new) (append-nil t.new)

  pub length_behind : length (text (edited_document s t.edit)) ≡ length (text s) + length t.new
  length_behind = ap (λ (bytes : List ℕ). length bytes) text_behind ∙ length-append (text s) t.new

  pub fine_after_one : IsEditable profile limit (edited_document s t.edit)
  fine_after_one =
      let lawful : IsLawfulEdit profile limit s t.edit =
      change_lawful profile limit s t.edit (end_change s t) fine h.makes in
      record { valid = lawful.reads.valid; shallow = lawful.reads.shallow; obeys = lawful.obeys }

-- ---- and after all

pub fine_after : (profile : Profile) (limit : ℕ) (s : Document) (ts : List EndEdit) → IsEditable profile limit s
    → AreAtEnd profile limit s ts → IsEditable profile limit (document_with s ts)
fine_after profile limit s [] fine h = fine
fine_after profile limit s (t ∷ ts) fine h =
    fine_after profile limit (edited_document s t.edit) ts (fine_after_one profile limit s t fine h.0) h.1

-- The document has its first newline so after all of them.
pub first_after : (profile : Profile) (limit : ℕ) (s : Document) (ts : List EndEdit) → IsEditable profile limit s
    → AreAtEnd profile limit s ts → (line : Option (List ℕ)) → EndsLeave line s ts → HasFirst line (document_with s ts)
first_after profile limit s [] fine h line leave = leave.has
first_after profile limit s (t ∷ ts) fine h line leave =
    let then = fine_after_one profile limit s t fine h.0 in
    first_after profile limit (edited_document s t.edit) ts then h.1 line (record {
      has = first_behind profile limit s (edited_document s t.edit) fine then line t.new
          (text_behind profile limit s t fine h.0) leave.has
          (All-head (λ (u : EndEdit). LeavesFirstAtEnd line u.new) t ts leave.ends);
      ends = All-tail (λ (u : EndEdit). LeavesFirstAtEnd line u.new) t ts leave.ends;
    })
