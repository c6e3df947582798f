-- A rename makes the same change after another made its own elsewhere.
--
-- The second is not refused (RenameAllowed), and replaces the same key part, at the moved place (RenamePlaces).
--
-- Theorem: `still_renames`.
use Rattle.keep_edit_spec.specs.RenamedKeys.{StillRenamesKey}
use Rattle.keep_edit_spec.proofs.Lists.RenameAllowed.{rename_allowed}
use Rattle.keep_edit_spec.proofs.Lists.RenamePlaces.{rename_place_stays}

pub still_renames : StillRenamesKey
still_renames profile limit s path text c other more d fine h k apart beside = record {
  utf8 = k.utf8;
  allowed = rename_allowed profile limit s path text c other more d fine h k apart;
  some = k.some;
  is = rename_place_stays profile limit s path text c other more d fine h k apart beside;
}
