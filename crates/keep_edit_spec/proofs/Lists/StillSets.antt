-- A set makes the same change after another set made its own elsewhere.
--
-- Since the two places are apart, neither path is a prefix of the other (SetApart). So the second set is not refused
-- (SetAllowed), and it replaces the same value, at the moved place (SetPlaces).
--
-- Theorem: `still_sets`.
use Rattle.keep_edit_spec.specs.Laws.{IsLawfulEdit}
use Rattle.keep_edit_spec.specs.Edits.{set}
use Rattle.keep_edit_spec.specs.SetValues.{StillSetsValue}
use Rattle.keep_edit_spec.proofs.EditLaws.{set_lawful}
use Rattle.keep_edit_spec.proofs.Lists.SetAllowed.{set_allowed}
use Rattle.keep_edit_spec.proofs.Lists.SetApart.{apart_paths}
use Rattle.keep_edit_spec.proofs.Lists.SetPlaces.{set_place_stays}

pub still_sets : StillSetsValue
still_sets profile limit s path value c other more d fine h k beside =
    let apart = apart_paths profile limit s path value c other more d fine h k beside in
    let first : IsLawfulEdit profile limit s (set path value) =
    set_lawful profile limit s path value fine h.given h.allowed in
    let second : IsLawfulEdit profile limit s (set other more) =
    set_lawful profile limit s other more fine k.given k.allowed in
    record {
      given = k.given;
      allowed = set_allowed profile limit s path value c other more d fine h k apart.0 apart.1;
      some = k.some;
      is = set_place_stays s path value c other more d first.changed second.changed apart.0 apart.1 first.is second.is
          k.some h.is k.is;
    }
