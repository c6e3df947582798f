-- Edits at the end of the text come after any other edit that they leave alone, whichever was made first.
--
-- One of them and that edit can be made in either order (SwappedEnds): so the edit makes its change after the first of
-- them as before it, and the others leave it alone there still (`before_rest`). What it takes and writes is before the
-- bytes that came (`ends_sooner`), and so no longer at the end of the text. By induction the same holds of all of them.
-- An edit of an entry makes what the set of the value makes that holds it, before them and after them, as the bytes of
-- that value stay (`bytes_stay`).
--
-- Theorems: `end_comes_later`, `end_comes_after_entry`.
use Rattle.std.proofs.Common.{◌+◌, ◌<◌, ℕ, List, [], ◌∷◌, All, length, refl, sym, ap, ap₂, subst, ◌∙◌, arith}
use Rattle.std.proofs.lemmas.List.Elements.{All-head, All-tail, All-weaker}
use Rattle.keep_types.specs.declared.leaf.Profile.{Profile}
use Rattle.keep_syntax.specs.Tree.{Document, text}
use Rattle.keep_path.specs.Path.{Part}
use Rattle.keep_edit_spec.specs.Edits.{Edit, append_element, append_table, edited_document, insert, remove, rename, set}
use Rattle.keep_edit_spec.specs.EndEdits.{AreAtEnd, ComesBefore, EndComesAfterEntry, EndComesLater}
use Rattle.keep_edit_spec.specs.EndEdits.{EndEdit, IsAtEnd, IsMadeBefore, LetsEdit, LetsLine, document_with}
use Rattle.keep_edit_spec.specs.EntryEdits.{MakesSet}
use Rattle.keep_edit_spec.specs.FirstNewline.{HasFirst, LeavesFirstAtEnd}
use Rattle.keep_edit_spec.specs.InsertKinds.{Added}
use Rattle.keep_edit_spec.specs.Laws.{IsEditable}
use Rattle.keep_edit_spec.specs.Runs.{IsSeenStill, LeavesAlone, MakesChange, seen}
use Rattle.keep_edit_spec.specs.TextChanges.{TextChange}
use Rattle.keep_edit_spec.specs.declared.line_kind.LineKind.{LineKind}
use Rattle.keep_edit_spec.proofs.Lists.EndTexts.{IsLonger, bytes_stay, end_editable, end_first, end_later, leave_rest}
use Rattle.keep_edit_spec.proofs.Lists.EndTexts.{then_editable, with_ends}
use Rattle.keep_edit_spec.proofs.Lists.EntryEdits.{of_itself, still_makes_set}
use Rattle.keep_edit_spec.proofs.Lists.MadeChanges.{within_text}
use Rattle.keep_edit_spec.proofs.Lists.RunLaws.{same_seen, seen_here, seen_on}
use Rattle.keep_edit_spec.proofs.Lists.SwappedEnds.{IsSwapped, swap_end}
use Rattle.keep_edit_spec.proofs.Lists.TextsAfter.{made_puts}

-- ---- after the first of them

-- the line that an edit adds is the same where it is seen as before
lets_now : (s now : Document) (e : Edit) (c : TextChange) (t : EndEdit) → IsSeenStill s now e → LetsEdit s e c t
    → LetsEdit now e c t
lets_now s now (insert path value) c t still lets =
    subst (λ (l : Added). LetsLine l t.seen)
    (ap₂ (λ (p : List Part) (k : LineKind). record { first = p; at = c.at; kind = k }) (sym still.0) (sym still.1)) lets
lets_now s now (set path value) c t still lets = tt
lets_now s now (rename path name) c t still lets = tt
lets_now s now (remove path) c t still lets = tt
lets_now s now (append_table keys) c t still lets = tt
lets_now s now (append_element keys) c t still lets = tt

module _ (profile : Profile) (limit : ℕ) (s : Document) (t : EndEdit) (ts : List EndEdit) (e : Edit) (c : TextChange)
    (fine : IsEditable profile limit s) (first : IsAtEnd profile limit s t) (makes : MakesChange profile limit s e c)
    (h : ComesBefore s (t ∷ ts) e c) where
  abbrev now : Document
  now = edited_document s t.edit

  -- it ends before the bytes that came
  ends_sooner : c.at + c.size < length (text now)
  ends_sooner =
      end_later profile limit s t fine first (c.at + c.size) (within_text profile limit s e c fine makes)

  before_rest : IsSeenStill s now e → HasFirst h.newline.0 (edited_document now e) → ComesBefore now ts e c
  before_rest still first_then = record {
    other = h.other;
    alone = All-tail (λ u. LeavesAlone u.seen (seen now e)) t ts
        (subst (λ (f : Edit). All (λ u. LeavesAlone u.seen f) (t ∷ ts)) (sym (same_seen s now e still)) h.alone);
    lets = All-weaker (LetsEdit s e c) (LetsEdit now e c) (λ u. lets_now s now e c u still) ts
        (All-tail (LetsEdit s e c) t ts h.lets);
    newline = (
      h.newline.0,
      (leave_rest profile limit s t fine first h.newline.0 ts h.newline.1.0, first_then),
    );
    clear = λ other same. (let less = ends_sooner in omega (arith, less, same));
    first = λ same. absurd (let less = ends_sooner in omega (arith, less, same));
  }

-- ---- after all of them

pub end_comes_later : EndComesLater
end_comes_later profile limit s [] e c fine h makes before =
    record { makes = makes; still = seen_here s e; ends = tt; same = refl }
end_comes_later profile limit s (t ∷ ts) e c fine h makes before =
    let x : Document = edited_document s t.edit in
    let one : IsSwapped profile limit s e c t =
    swap_end profile limit s e c t fine h.0 makes before.other
    (All-head (λ u. LeavesAlone u.seen (seen s e)) t ts before.alone)
    (All-head (LetsEdit s e c) t ts before.lets) before.newline.0 before.newline.1.0.has before.newline.1.1
    before.clear before.first in
    let still_first : HasFirst before.newline.0 (edited_document x e) =
    subst (HasFirst before.newline.0) one.same
    (end_first profile limit (edited_document s e) t
    (then_editable profile limit s e c (made_puts profile limit s e c fine makes)) one.ends before.newline.0
    before.newline.1.1 (All-head (λ u. LeavesFirstAtEnd before.newline.0 u.new) t ts before.newline.1.0.ends)) in
    let rest : IsMadeBefore profile limit x ts e c =
    end_comes_later profile limit x ts e c (end_editable profile limit s t fine h.0) h.1 one.makes
    (before_rest profile limit s t ts e c fine h.0 makes before one.still still_first) in
    record {
      makes = rest.makes;
      still = seen_on s x (document_with x ts) e one.still rest.still;
      ends = (one.ends, subst (λ (d : Document). AreAtEnd profile limit d ts) (sym one.same) rest.ends);
      same = rest.same ∙ ap (λ (d : Document). document_with d ts) (sym one.same);
    }

-- an edit of an entry, as the set of the value that holds it
pub end_comes_after_entry : EndComesAfterEntry
end_comes_after_entry profile limit s ts e path value c fine h makes before =
    let now : Document = document_with s ts in
    let set_is : IsMadeBefore profile limit s ts (set path value) c =
    end_comes_later profile limit s ts (set path value) c fine h makes.sets before in
    let longer : IsLonger profile limit s now = with_ends profile limit s ts fine h in
    let still : MakesSet profile limit now e path value c =
    still_makes_set profile limit s e path value c now e path c fine longer.editable makes set_is.makes
    (bytes_stay profile limit s now c longer (within_text profile limit s (set path value) c fine makes.sets))
    (of_itself profile limit s e path value c makes) in
    record {
      makes = still;
      ends = subst (λ (d : Document). AreAtEnd profile limit d ts) (sym makes.same) set_is.ends;
      same = still.same ∙ set_is.same ∙ ap (λ (d : Document). document_with d ts) (sym makes.same);
    }
