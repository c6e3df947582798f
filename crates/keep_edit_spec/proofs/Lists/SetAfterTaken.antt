-- A set makes the same change after a remove of another path took a table or an element with its header.
--
-- The set finds nothing in the lines that go, since its path does not begin with the changed path. So it makes the same
-- change as before, at the moved place (TakenSearch). The facts of paths that don't begin with the changed path are as
-- before (TakenGone), so the set is not refused (SetAllowed).
--
-- Theorem: `set_after_taken`.
use Rattle.std.proofs.Common.{◌≡◌, ℕ, List, None, sym, subst}
use Rattle.keep_types.specs.declared.leaf.Profile.{Profile}
use Rattle.keep_syntax.specs.Tree.{Document, Value}
use Rattle.keep_path.specs.Path.{Part, strip}
use Rattle.keep_meaning.specs.Meaning.{mentions_in}
use Rattle.keep_edit_spec.specs.Edits.{change, set}
use Rattle.keep_edit_spec.specs.ElementRuns.{changed_path}
use Rattle.keep_edit_spec.specs.Laws.{IsEditable, IsLawfulEdit}
use Rattle.keep_edit_spec.specs.Refusals.{refusal}
use Rattle.keep_edit_spec.specs.RemovedHeaders.{RemovesHeader}
use Rattle.keep_edit_spec.specs.SetValues.{SetsValue}
use Rattle.keep_edit_spec.specs.TextChanges.{TextChange, moved}
use Rattle.keep_edit_spec.specs.Values.{replacement}
use Rattle.keep_edit_spec.proofs.EditLaws.{set_lawful}
use Rattle.keep_edit_spec.proofs.Common.Texts.{replacement-is}
use Rattle.keep_edit_spec.proofs.Lists.SetAllowed.{facts_kept, prefix_clear}
use Rattle.keep_edit_spec.proofs.Lists.SetPlaces.{Stays}
use Rattle.keep_edit_spec.proofs.Lists.TakenGone as gone
use Rattle.keep_edit_spec.proofs.Lists.TakenKinds.{SetAfterTaken}
use Rattle.keep_edit_spec.proofs.Lists.TakenSearch as search

module _ (profile : Profile) (limit : ℕ) (s : Document) (path : List Part) (c : TextChange) (other : List Part)
    (more : Value) (d : TextChange) (fine : IsEditable profile limit s) (h : RemovesHeader profile limit s path c)
    (k : SetsValue profile limit s other more d) (apart : strip (changed_path path) other ≡ None) where
  abbrev now : Document
  now = gone.now profile limit s path c fine h

  allowed_now : refusal profile limit now (set other more) ≡ None
  allowed_now =
      facts_kept profile limit other more (mentions_in s) (mentions_in now)
      (λ q rest is. gone.fact_now profile limit s path c fine h q
      (prefix_clear (changed_path path) other q rest apart is)) k.allowed

  stays : Stays (search.removed profile limit s path c fine h) (change s (set other more)) (change now (set other more))
  stays = search.nested_without profile limit s path c fine h (replacement more) (replacement-is more) other apart

  sets_now : SetsValue profile limit now other more (moved c d)
  sets_now =
      let law : IsLawfulEdit profile limit s (set other more) =
      set_lawful profile limit s other more fine k.given k.allowed in
      record {
        given = k.given;
        allowed = allowed_now;
        some = k.some;
        is = search.place_without profile limit s path c fine h d (set other more) law.changed law.is k.is k.some stays;
      }

pub set_after_taken : SetAfterTaken
set_after_taken profile limit s path c other more d fine h k apart beside =
    subst (λ (t : Document). SetsValue profile limit t other more (moved c d))
    (sym (gone.is_now profile limit s path c fine h))
    (sets_now profile limit s path c other more d fine h k apart.0)
