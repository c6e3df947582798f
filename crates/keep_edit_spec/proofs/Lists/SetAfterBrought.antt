-- A set makes the same change after an insert that brought the header of its table, if its own path is apart from that
-- of the first new key.
--
-- The fact at the set's path stays, and at each prefix of it there is an array or an inline table only where there was
-- one, so the set is not refused (SetAllowed). It finds nothing in the new lines, so it finds the same value, at the
-- moved place (BroughtFound).
--
-- Theorem: `set_after_brought`.
use Rattle.std.proofs.Common.{◌≡◌, ℕ, ◌∷◌, List, None, ap}
use Rattle.keep_types.specs.declared.leaf.Profile.{Profile}
use Rattle.keep_syntax.specs.Tree.{Document, Value}
use Rattle.keep_path.specs.Path.{Part}
use Rattle.keep_meaning.specs.Meaning.{mentions_in}
use Rattle.keep_edit_spec.specs.AddedLines.{first_new}
use Rattle.keep_edit_spec.specs.BroughtHeaders.{BringsHeader}
use Rattle.keep_edit_spec.specs.Edits.{edited_document, insert, set}
use Rattle.keep_edit_spec.specs.Laws.{IsEditable, IsLawfulEdit}
use Rattle.keep_edit_spec.specs.Refusals.{refusal}
use Rattle.keep_edit_spec.specs.Runs.{AreApart}
use Rattle.keep_edit_spec.specs.SetValues.{SetsValue}
use Rattle.keep_edit_spec.specs.TextChanges.{TextChange, moved}
use Rattle.keep_edit_spec.specs.Values.{replacement}
use Rattle.keep_edit_spec.proofs.EditLaws.{set_lawful}
use Rattle.keep_edit_spec.proofs.Common.Texts.{replacement-is}
use Rattle.keep_edit_spec.proofs.Lists.BroughtFound.{made, made_place, still_nested, table_differs}
use Rattle.keep_edit_spec.proofs.Lists.BroughtKinds.{SetAfterBrought}
use Rattle.keep_edit_spec.proofs.Lists.BroughtSaid.{bracket_same, fact_stays}
use Rattle.keep_edit_spec.proofs.Lists.SetAllowed.{prefix_clear, set_kept, value_of}
use Rattle.keep_edit_spec.proofs.Lists.SetPlaces.{still_place}

module _ (profile : Profile) (limit : ℕ) (s : Document) (path : List Part) (value : Value) (c : TextChange)
    (other : List Part) (more : Value) (d : TextChange) (fine : IsEditable profile limit s)
    (h : BringsHeader profile limit s path value c) (k : SetsValue profile limit s other more d)
    (apart : AreApart (first_new s path) other) where
  abbrev now : Document
  now = edited_document s (insert path value)

  allowed_now : refusal profile limit now (set other more) ≡ None
  allowed_now =
      set_kept profile limit other more (mentions_in s) (mentions_in now)
      (ap value_of
      (fact_stays profile limit s path value c fine h other apart.0
      (table_differs profile limit s path value c fine h other apart)))
      (λ q p qs is. bracket_same profile limit s path value c fine h q
      (prefix_clear (first_new s path) other q (p ∷ qs) apart.0 is))
      k.allowed

  law : IsLawfulEdit profile limit s (set other more)
  law = set_lawful profile limit s other more fine k.given k.allowed

  again : SetsValue profile limit now other more (moved c d)
  again = record {
    given = k.given;
    allowed = allowed_now;
    some = k.some;
    is = still_place c d s now (set other more) (made profile limit s path value c fine h) law.changed
        (made_place profile limit s path value c fine h) k.is k.some law.is
        (still_nested profile limit s path value c fine h (replacement more) (replacement-is more) other apart.0);
  }

pub set_after_brought : SetAfterBrought
set_after_brought profile limit s path value c other more d fine h k apart beside =
    again profile limit s path value c other more d fine h k apart
