-- Which lines lead through a path elsewhere, behind a table or an element that a remove takes with its header.
--
-- They are read with it and without it, and the path stays where it is. What a header says goes where its paths go, so
-- of those that go through the path the same one is the last (`through_same`, HeadersSay). A keyval in a body at the
-- changed path or below it leads through no path elsewhere. So of the keyvals that lead through the path the same one
-- is the last (`dotted_same`, TakenFound).
--
-- Theorems: `through_same`, `dotted_same`.
use Rattle.std.proofs.Common.{◌≡◌, ℕ, List, sym, ap, ◌∙◌, None}
use Rattle.keep_types.specs.declared.leaf.Profile.{Profile}
use Rattle.keep_syntax.specs.Tree.{Line, Document}
use Rattle.keep_path.specs.Path.{Part, strip}
use Rattle.keep_meaning.specs.Marks.{Reading}
use Rattle.keep_meaning.specs.Meaning.{after_line, reading_after_lines}
use Rattle.keep_edit_spec.specs.ElementRuns.{changed_path}
use Rattle.keep_edit_spec.specs.Laws.{IsEditable}
use Rattle.keep_edit_spec.specs.Lines.{last_line, leads_dotted, leads_through}
use Rattle.keep_edit_spec.specs.RemovedHeaders.{RemovesHeader}
use Rattle.keep_edit_spec.specs.TextChanges.{TextChange}
use Rattle.keep_edit_spec.proofs.Common.HeadersSay.{last_says}
use Rattle.keep_edit_spec.proofs.Lists.DottedAfterTaken.{leads_below, leads_body, leads_keyval}
use Rattle.keep_edit_spec.proofs.Lists.SectionsApart as sections
use Rattle.keep_edit_spec.proofs.Lists.SectionsApart.{body_keeps}
use Rattle.keep_edit_spec.proofs.Lists.TakenFound.{same_after}
use Rattle.keep_edit_spec.proofs.Lists.TakenGone as gone

module _ (profile : Profile) (limit : ℕ) (s : Document) (path : List Part) (c : TextChange)
    (fine : IsEditable profile limit s) (h : RemovesHeader profile limit s path c) (a : List Part)
    (clear : strip (changed_path path) a ≡ None) where
  abbrev D : List Part → Type 0
  D = gone.stays profile limit s path c fine h

  abbrev f : List Part → List Part
  f = gone.goes profile limit s path c fine h

  -- the reading before it, and behind it
  abbrev x : Reading
  x = sections.r s path (gone.at profile limit s path c fine h)

  abbrev u : Reading
  u = reading_after_lines x (gone.taken_lines profile limit s path c fine h)

  abbrev after : List Line
  after = gone.after profile limit s path c fine h

  -- its body leaves the reading as it is after its header
  in_body : u ≡ after_line x (gone.at profile limit s path c fine h).head.line
  in_body =
      body_keeps s path (gone.at profile limit s path c fine h)
      (after_line x (gone.at profile limit s path c fine h).head.line)

  there : D a
  there = (gone.stays_apart profile limit s path c fine h a clear).0

  stays : f a ≡ a
  stays = (gone.stays_apart profile limit s path c fine h a clear).1

  pub through_same : last_line (leads_through a) u after ≡ last_line (leads_through a) x after
  through_same =
      ap (λ (r : Reading). last_line (leads_through a) r after) in_body
      ∙ sym (last_says D f (gone.was profile limit s path c fine h).inj a there stays _ x after
      (gone.was profile limit s path c fine h).says)

  pub dotted_same : last_line (leads_dotted a) u after ≡ last_line (leads_dotted a) x after
  dotted_same =
      same_after profile limit s path c fine h (leads_dotted a) (leads_keyval a) (leads_body a)
      (leads_below a (changed_path path) clear)
