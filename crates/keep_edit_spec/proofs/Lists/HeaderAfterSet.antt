-- A header makes the same change at the end of the text after a set made its change before that.
--
-- The set leaves what is said of paths that are not at or below its own (SetLeaves), so of each with first keys of a
-- header that passes it by (`set_lets`). So the header is written as before (HeaderStays).
--
-- Theorems: `table_after_set`, `element_after_set`.
use Rattle.std.proofs.Common.{◌≡◌, ℕ, List, sym, ap, subst, Option}
use Rattle.keep_types.specs.declared.leaf.Profile.{Profile}
use Rattle.keep_syntax.specs.Tree.{Document, Value}
use Rattle.keep_path.specs.Path.{Part}
use Rattle.keep_meaning.specs.Meaning.{mentions_in}
use Rattle.keep_meaning.specs.Nodes.{kinds_at}
use Rattle.keep_edit_spec.specs.Changed.{Changed}
use Rattle.keep_edit_spec.specs.Edits.{changed_or_same, edited_document, set}
use Rattle.keep_edit_spec.specs.Laws.{IsEditable, IsLawfulEdit}
use Rattle.keep_edit_spec.specs.Runs.{PassesBy}
use Rattle.keep_edit_spec.proofs.Lists.TwoKinds.{ElementAfterSet, TableAfterSet}
use Rattle.keep_edit_spec.proofs.EditLaws.{set_lawful}
use Rattle.keep_edit_spec.proofs.Common.Marks.{rules_of_document}
use Rattle.keep_edit_spec.proofs.Lists.HeaderSaid.{LetsCome, passes_clear, same_lets}
use Rattle.keep_edit_spec.proofs.Lists.HeaderStays.{element_stays, table_stays}
use Rattle.keep_edit_spec.proofs.Lists.SetLeaves.{set_kinds}

set_lets : (profile : Profile) (limit : ℕ) (s : Document) (path : List Part) (value : Value)
    (more : List (List ℕ)) → IsEditable profile limit s → IsLawfulEdit profile limit s (set path value)
    → PassesBy more path → LetsCome (mentions_in s) (mentions_in (edited_document s (set path value))) more
set_lets profile limit s path value more fine law passes =
    same_lets (mentions_in s) (mentions_in (edited_document s (set path value))) more
    (λ q rest is. subst (λ (t : Document). kinds_at q (mentions_in t) ≡ kinds_at q (mentions_in s))
    (ap (λ (o : Option (Changed Document)). (changed_or_same s o).to) (sym law.is))
    (set_kinds s path value law.changed (rules_of_document s fine.obeys) law.is q
    (passes_clear more path q rest passes is)))

pub table_after_set : TableAfterSet
table_after_set profile limit s path value c more d fine h k passes newline far =
    let law : IsLawfulEdit profile limit s (set path value) =
    set_lawful profile limit s path value fine h.given h.allowed in
    table_stays profile limit s (set path value) c more d fine law h.is
    newline (λ e. absurd (far e)) (set_lets profile limit s path value more fine law passes) k

pub element_after_set : ElementAfterSet
element_after_set profile limit s path value c more d fine h k passes newline far =
    let law : IsLawfulEdit profile limit s (set path value) =
    set_lawful profile limit s path value fine h.given h.allowed in
    element_stays profile limit s (set path value) c more d fine law h.is
    newline (λ e. absurd (far e)) (set_lets profile limit s path value more fine law passes) k
