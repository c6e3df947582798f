-- The first newline of a document, which changes of its text leave, and what comes at the end: what it is known by is
-- known of the documents before and after these changes, too.
--
-- Theorems: `known_of_both`: of two documents of which one is longer by an edit; `ends_leave`: of one, with what comes
-- at its end next.
use Rattle.std.proofs.Common.{[], ◌≡◌, ◌∙◌, ◌∷◌, ℕ, All, List, Option, ap, inl, inr, length, refl, subst, sym}
use Rattle.std.specs.Prelude.{◌⊎◌}
use Rattle.std.proofs.lemmas.List.Elements.{All-head, All-weaker}
use Rattle.keep_syntax.specs.Tree.{Document}
use Rattle.keep_edit_spec.specs.EndEdits.{EndEdit, EndsLeave}
use Rattle.keep_edit_spec.specs.FirstNewline.{HasFirst, LeavesFirst, LeavesFirstAtEnd, LeavesNewline}
use Rattle.keep_edit_spec.specs.TextChanges.{TextChange, change_at, text_with}
use Rattle.keep_edit_spec.proofs.Shared.{FirstKnown, first_known, stays_first}
use Rattle.keep_edit_plan.proofs.Shared.{editable}
use Rattle.keep_edit_plan.specs.Reading.{IsTextOfTree, ProfiledText, limit}
use Rattle.keep_edit_runs.specs.Newlines.{LeavesEndHere, LeavesHere}
use Rattle.keep_edit_runs.specs.Runs.{changed_text}

-- It is known so of each document after changes that leave it.
record IsKnownBy (now : ProfiledText) (first : Option (List ℕ)) : Type 0 where
  after : (cs : List TextChange) → All (LeavesHere now) cs → (t : Document) → IsTextOfTree (changed_text now cs) t
      → HasFirst first t
  at_end : (new : List ℕ) → LeavesEndHere now new → LeavesFirstAtEnd first new

known_by : (now : ProfiledText) (s : Document) → IsTextOfTree now s → (c : TextChange) → LeavesHere now c
    → (first : Option (List ℕ)) × IsKnownBy now first
known_by now s read c its =
    let known : FirstKnown s = first_known s c (its s read) in (
      known.first,
      record {
        after = λ cs leave t is.
            (stays_first now.profile limit s t (editable now s read) (editable (changed_text now cs) t is) known.first
            cs (sym is.reads.spelled ∙ ap (λ (bytes : List ℕ). text_with 0 bytes cs) read.reads.spelled) known.has
            (All-weaker (LeavesHere now) (LeavesFirst known.first) (λ d h. known.leaves d (h s read)) cs leave)).1;
        at_end = λ new leaves. known.at_end new
            (subst (λ (n : ℕ). LeavesNewline s (change_at n 0 new))
            (ap (λ (bytes : List ℕ). length bytes) read.reads.spelled) (leaves s read));
      },
    )

-- Nothing is at the end, or what the first newline is known by is known of this document and of one after it, and what
-- is at the end leaves it.
abbrev pub IsFirstKnown : Document → List EndEdit → Document → Type 0
IsFirstKnown before ts after =
    (ts ≡ []) ⊎ ((first : Option (List ℕ)) × (EndsLeave first before ts × HasFirst first after))

module _ (now : ProfiledText) (s : Document) (read : IsTextOfTree now s) where
  abbrev AreLeft : List TextChange → Type 0
  AreLeft cs = All (LeavesHere now) cs

  abbrev IsLeftAtEnd : EndEdit → Type 0
  IsLeftAtEnd t = LeavesEndHere now t.new

  pub known_of_both : (old new : List TextChange) (d t : Document) → IsTextOfTree (changed_text now old) d
      → IsTextOfTree (changed_text now new) t → AreLeft old → AreLeft new → (ts : List EndEdit)
      → All IsLeftAtEnd ts → IsFirstKnown d ts t
  known_of_both old new d t was is left_before left [] ends = inl refl
  known_of_both old new d t was is left_before left (u ∷ us) ends =
      let (first, known) =
      known_by now s read (change_at (length now.text) 0 u.new) (All-head IsLeftAtEnd u us ends) in
      inr (
        first,
        (
          record {
            has = known.after old left_before d was;
            ends = All-weaker IsLeftAtEnd (λ (w : EndEdit). LeavesFirstAtEnd first w.new)
                (λ w. known.at_end w.new) (u ∷ us) ends;
          },
          known.after new left t is,
        ),
      )

  pub ends_leave : (cs : List TextChange) (t : Document) → IsTextOfTree (changed_text now cs) t → AreLeft cs
      → (ts : List EndEdit) → All IsLeftAtEnd ts → (new : List ℕ) → LeavesEndHere now new
      → (first : Option (List ℕ)) × (EndsLeave first t ts × LeavesFirstAtEnd first new)
  ends_leave cs t is left ts ends new its =
      let (first, known) = known_by now s read (change_at (length now.text) 0 new) its in (
        first,
        (
          record {
            has = known.after cs left t is;
            ends = All-weaker IsLeftAtEnd (λ (w : EndEdit). LeavesFirstAtEnd first w.new)
                (λ w. known.at_end w.new) ts ends;
          },
          known.at_end new its,
        ),
      )
