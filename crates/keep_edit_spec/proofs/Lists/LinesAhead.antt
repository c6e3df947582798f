-- Edits that are made at once go on by a line that comes to a byte at which some of them bring what has to come behind
-- it.
--
-- Those that come behind it could come last (GatheredEdits): the changes are the same, so is the text, and a text is
-- that of one document (`same_gathered`). With the line before them they are at once still. The line comes in front of
-- them after all, and makes the same document (AheadDocuments); its change goes right before theirs (AheadChanges).
--
-- Theorem: `run_goes_on_ahead`.
use Rattle.std.proofs.Common.{◌≡◌, ◌<◌, ℕ, Bool, true, false, not, List, [], ◌∷◌, ◌++◌, length, All, None, sym}
use Rattle.std.proofs.Common.{ap, refl, subst, ◌∙◌}
use Rattle.std.proofs.lemmas.List.Elements.{All-cons, All-head, All-nil, All-tail, All-weaker, filter_passes}
use Rattle.keep_types.specs.declared.leaf.Profile.{Profile}
use Rattle.keep_syntax.specs.Tree.{Document, Value, text}
use Rattle.keep_syntax.proofs.Shared.{one_document}
use Rattle.keep_path.specs.Path.{Part}
use Rattle.keep_edit_spec.specs.Edits.{Edit, edited_document, insert}
use Rattle.keep_edit_spec.specs.InsertKinds.{AddsAs, added_as}
use Rattle.keep_edit_spec.specs.Laws.{IsEditable}
use Rattle.keep_edit_spec.specs.LinesAhead.{ComesAhead, RunGoesOnAhead, before, behind, comes_behind, table_in}
use Rattle.keep_edit_spec.specs.LinesAhead.{with_ahead}
use Rattle.keep_edit_spec.specs.Refusals.{refusal}
use Rattle.keep_edit_spec.specs.RunLists.{AreAtOnce, MadeEdit, changes_of, document_after, lines_of, made, seen_of}
use Rattle.keep_edit_spec.specs.Runs.{IsRun, IsSeenStill, LeavesAlone, LetsTable, seen}
use Rattle.keep_edit_spec.specs.TextChanges.{Follow, IsBeside, TextChange, moved_past, text_with}
use Rattle.keep_edit_spec.specs.declared.line_kind.LineKind.{LineKind}
use Rattle.keep_edit_spec.proofs.Lists.AheadChanges.{low_before, put_ahead_of, put_before_all}
use Rattle.keep_edit_spec.proofs.Lists.AheadDocuments.{IsMadeAhead, documents_ahead}
use Rattle.keep_edit_spec.proofs.Lists.AheadOfAbove.{adds_ahead_of_above}
use Rattle.keep_edit_spec.proofs.Lists.AheadOfAppended.{adds_ahead_of_element, adds_ahead_of_table}
use Rattle.keep_edit_spec.proofs.Lists.AheadOfEnd.{adds_ahead_of_end}
use Rattle.keep_edit_spec.proofs.Lists.BehindLine.{at_byte}
use Rattle.keep_edit_spec.proofs.Lists.EditsAhead.{still_ahead}
use Rattle.keep_edit_spec.proofs.Lists.GatheredEdits.{gathered, none}
use Rattle.keep_edit_spec.proofs.Lists.OtherOrder.{all_sorted, by_seen, of_seen}
use Rattle.keep_edit_spec.proofs.Lists.RunLists.{run_is_known}

not_true : (b : Bool) → not b ≡ true → b ≡ false
not_true true is = absurd cc
not_true false is = refl

module _ (profile : Profile) (limit : ℕ) (s : Document) (ms : List MadeEdit) (path : List Part) (value : Value)
    (kind : LineKind) (c : TextChange) (fine : IsEditable profile limit s) (all : AreAtOnce profile limit s ms)
    (adds : AddsAs kind profile limit s path value c)
    (alone : All (λ f. LeavesAlone f (seen s (insert path value))) (seen_of s ms))
    (beside : All (λ d. IsBeside d c) (changes_of ms)) (ahead : ComesAhead s ms kind (added_as s path c) c) where
  abbrev e : Edit
  e = insert path value

  abbrev table : List Part
  table = table_in s path

  -- those that come behind the line, and the others
  abbrev bs : List MadeEdit
  bs = behind s kind table c.at ms

  abbrev rest : List MadeEdit
  rest = before s kind table c.at ms

  abbrev sorted : List MadeEdit
  sorted = bs ++ rest

  sorted_at_once : AreAtOnce profile limit s sorted × (changes_of sorted ≡ changes_of ms)
  sorted_at_once = gathered profile limit s ms path value kind c fine adds beside ahead all

  still : AreAtOnce profile limit s (with_ahead s kind table ms (made e c))
  still = still_ahead profile limit s ms path value kind c fine adds alone beside ahead all

  run_of : (l : List MadeEdit) → AreAtOnce profile limit s l
      → IsRun profile limit s (seen_of s l) (changes_of l) (lines_of s l) (document_after s l)
  run_of l = run_is_known profile limit s l fine

  same_gathered : document_after s ms ≡ document_after s sorted
  same_gathered =
      one_document profile (document_after s ms) (document_after s sorted) (run_of ms all).editable.valid
      (run_of sorted sorted_at_once.0).editable.valid
      ((run_of ms all).text ∙ ap (text_with 0 (text s)) (sym sorted_at_once.1)
      ∙ sym (run_of sorted sorted_at_once.0).text)

  all_behind : All (λ b. comes_behind s kind table c.at b ≡ true) bs
  all_behind = filter_passes (comes_behind s kind table c.at) ms

  none_behind : All (λ m. comes_behind s kind table c.at m ≡ false) rest
  none_behind =
      All-weaker (λ m. not (comes_behind s kind table c.at m) ≡ true) (λ m. comes_behind s kind table c.at m ≡ false)
      (λ m. not_true (comes_behind s kind table c.at m)) rest
      (filter_passes (λ m. not (comes_behind s kind table c.at m)) ms)

  lets : All (LetsTable (added_as s path c)) (seen_of s sorted)
  lets =
      let L : Edit → Type 0 = LetsTable (added_as s path c) in
      by_seen s L sorted
      (all_sorted (comes_behind s kind table c.at) (λ m. L (seen s m.edit)) ms (of_seen s L ms ahead.lets))

  documents : IsMadeAhead profile limit s path value kind c bs rest
  documents =
      documents_ahead profile limit s path value kind c bs rest adds_ahead_of_above adds_ahead_of_end
      adds_ahead_of_table adds_ahead_of_element put_ahead_of fine adds all_behind none_behind lets sorted_at_once.0
      still

  goes_ahead : (first between last : List TextChange) → changes_of ms ≡ first ++ between ++ last
      → All (λ x. x.at ≡ c.at) between → All (λ x. c.at < x.at) last → 0 < length between
      → length between ≡ length bs
      → changes_of (with_ahead s kind table ms (made e c)) ≡ first ++ c ∷ between ++ last
  goes_ahead first between last is there later some many =
      put_before_all bs rest (made e c) places first between last (sorted_at_once.1 ∙ is)
      (low_before 0 c.at first between last (subst (Follow 0) is (run_of ms all).follow) there some) there later many
    where
      each_there : (l : List MadeEdit) → All (λ b. comes_behind s kind table c.at b ≡ true) l
          → AreAtOnce profile limit s (l ++ rest) → All (λ b. b.change.at ≡ c.at) l
      each_there [] h at_once = All-nil (λ b. b.change.at ≡ c.at)
      each_there (b ∷ l) h (makes, (left, (near, more))) =
          All-cons (λ x. x.change.at ≡ c.at) b l
          (at_byte profile limit s fine kind table c
          (none profile limit s ms path value kind c fine adds beside ahead) b (seen_of s (l ++ rest))
          (changes_of (l ++ rest)) (lines_of s (l ++ rest))
          (All-head (λ x. comes_behind s kind table c.at x ≡ true) b l h) makes).0
          (each_there l (All-tail (λ x. comes_behind s kind table c.at x ≡ true) b l h) more)

      places : All (λ b. b.change.at ≡ c.at) bs
      places = each_there bs all_behind sorted_at_once.0

pub run_goes_on_ahead : RunGoesOnAhead
run_goes_on_ahead profile limit s ms path value kind c fine all adds alone beside ahead = record {
  there = moved_past (changes_of (before s kind (table_in s path) c.at ms)) c;
  new_is = refl;
  makes = subst (λ (t : Document). AddsAs kind profile limit t path value
      (moved_past (changes_of (before s kind (table_in s path) c.at ms)) c))
      (sym (same_gathered profile limit s ms path value kind c fine all adds alone beside ahead))
      (documents profile limit s ms path value kind c fine all adds alone beside ahead).makes;
  seen_still = subst (λ (t : Document). IsSeenStill s t (insert path value))
      (sym (same_gathered profile limit s ms path value kind c fine all adds alone beside ahead))
      (documents profile limit s ms path value kind c fine all adds alone beside ahead).seen;
  allowed = subst (λ (t : Document). refusal profile limit t (insert path value) ≡ None)
      (sym (same_gathered profile limit s ms path value kind c fine all adds alone beside ahead))
      (documents profile limit s ms path value kind c fine all adds alone beside ahead).allowed;
  same = ap (λ (t : Document). edited_document t (insert path value))
      (same_gathered profile limit s ms path value kind c fine all adds alone beside ahead)
      ∙ (documents profile limit s ms path value kind c fine all adds alone beside ahead).same;
  still = still profile limit s ms path value kind c fine all adds alone beside ahead;
  put = goes_ahead profile limit s ms path value kind c fine all adds alone beside ahead;
}
