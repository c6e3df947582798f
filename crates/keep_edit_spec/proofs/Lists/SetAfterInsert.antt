-- A set makes the same change after an insert that added a line, if its own path does not begin with that of the first
-- new key.
--
-- The facts at the set's path and at its prefixes stay, so the set is not refused (SetAllowed). It finds nothing in the
-- new line, so it finds the same value, at the moved place (AddedKeyval).
--
-- Theorem: `set_after_insert`.
use Rattle.std.proofs.Common.{◌≡◌, ℕ, List, None}
use Rattle.keep_types.specs.declared.leaf.Profile.{Profile}
use Rattle.keep_syntax.specs.Tree.{Document, Value}
use Rattle.keep_path.specs.Path.{Part, strip}
use Rattle.keep_meaning.specs.Meaning.{mentions_in}
use Rattle.keep_edit_spec.specs.AddedLines.{first_new}
use Rattle.keep_edit_spec.specs.Edits.{edited_document, insert, set}
use Rattle.keep_edit_spec.specs.Laws.{IsEditable, IsLawfulEdit}
use Rattle.keep_edit_spec.specs.Refusals.{refusal}
use Rattle.keep_edit_spec.specs.SetValues.{SetsValue}
use Rattle.keep_edit_spec.specs.TextChanges.{TextChange, moved}
use Rattle.keep_edit_spec.specs.Values.{replacement}
use Rattle.keep_edit_spec.proofs.EditLaws.{set_lawful}
use Rattle.keep_edit_spec.proofs.Common.Texts.{replacement-is}
use Rattle.keep_edit_spec.proofs.Lists.AddedKeyval.{AddsKeyval, fact_stays, keyval_of, made, made_place, still_nested}
use Rattle.keep_edit_spec.proofs.Lists.SetAllowed.{facts_kept, prefix_clear}
use Rattle.keep_edit_spec.proofs.Lists.SetPlaces.{still_place}
use Rattle.keep_edit_spec.proofs.Lists.TwoKinds.{SetAfterInsert}

module _ (profile : Profile) (limit : ℕ) (s : Document) (path : List Part) (value : Value) (c : TextChange)
    (other : List Part) (more : Value) (d : TextChange) (fine : IsEditable profile limit s)
    (h : AddsKeyval profile limit s path value c) (k : SetsValue profile limit s other more d)
    (clear : strip (first_new s path) other ≡ None) where
  abbrev now : Document
  now = edited_document s (insert path value)

  allowed_now : refusal profile limit now (set other more) ≡ None
  allowed_now =
      facts_kept profile limit other more (mentions_in s) (mentions_in now)
      (λ q rest is. fact_stays profile limit s path value c h q
      (prefix_clear (first_new s path) other q rest clear is)) k.allowed

  law : IsLawfulEdit profile limit s (set other more)
  law = set_lawful profile limit s other more fine k.given k.allowed

  again : SetsValue profile limit now other more (moved c d)
  again = record {
    given = k.given;
    allowed = allowed_now;
    some = k.some;
    is = still_place c d s now (set other more) (made profile limit s path value c h) law.changed
        (made_place profile limit s path value c h) k.is k.some law.is
        (still_nested profile limit s path value c h (replacement more) (replacement-is more) other clear);
  }

pub set_after_insert : SetAfterInsert
set_after_insert profile limit s path value c to other more d fine h k apart beside =
    again profile limit s path value c other more d fine (keyval_of profile limit s path value c to fine h) k apart.0
