-- A set makes the same change after a header came at the end of the text, if its keys do not lead to the set's path.
--
-- The header says nothing of the set's path, and of the prefixes of it at most that they are tables (HeaderSays). So
-- the set is not refused, as before (`allowed_after`). It finds its value in the lines before the header, since that
-- has none, so its change is the same (HeaderLines).
--
-- Theorems: `set_after_table`, `set_after_element`.
use Rattle.std.proofs.Common.{◌≡◌, ℕ, List, [], ◌++◌, ap, ◌∙◌, None}
use Rattle.std.specs.List.{filter_map}
use Rattle.keep_types.specs.declared.leaf.Profile.{Profile}
use Rattle.keep_syntax.specs.Tree.{Content, Document, Value, element, header}
use Rattle.keep_path.specs.Path.{Part}
use Rattle.keep_meaning.specs.Marks.{Mention, MentionKind, fact_of}
use Rattle.keep_meaning.specs.Meaning.{mentions_in}
use Rattle.keep_meaning.specs.Nodes.{first_of}
use Rattle.keep_edit_spec.specs.Edits.{change, key_with, set}
use Rattle.keep_edit_spec.specs.Laws.{IsEditable, IsLawfulEdit}
use Rattle.keep_edit_spec.specs.Lines.{in_line}
use Rattle.keep_edit_spec.specs.Runs.{PassesBy}
use Rattle.keep_edit_spec.proofs.Lists.TwoKinds.{SetAfterElement, SetAfterTable}
use Rattle.keep_edit_spec.specs.Refusals.{refusal_by}
use Rattle.keep_edit_spec.specs.SetValues.{SetsValue}
use Rattle.keep_edit_spec.specs.TextChanges.{TextChange, moved}
use Rattle.keep_edit_spec.specs.Values.{replacement}
use Rattle.keep_edit_spec.proofs.EditLaws.{set_lawful}
use Rattle.keep_edit_spec.proofs.Common.LineTexts.{in_line-is}
use Rattle.keep_edit_spec.proofs.Common.Runs.{AllOf}
use Rattle.keep_edit_spec.proofs.Common.Texts.{replacement-is}
use Rattle.keep_edit_spec.proofs.Lists.HeaderLines.{headed, lines_stay}
use Rattle.keep_edit_spec.proofs.Lists.HeaderComes.{HeaderComes, after_header, element_comes, table_comes, values_pass}
use Rattle.keep_edit_spec.proofs.Lists.HeaderSays.{IsOfHeader, bracket_same, kinds_same}
use Rattle.keep_edit_spec.proofs.Lists.SetAllowed.{set_kept, value_of}
use Rattle.keep_edit_spec.proofs.Lists.SetPlaces.{Stays, still_place}

allowed_after : (profile : Profile) (limit : ℕ) (keys : List (List ℕ)) (path : List Part) (value : Value)
    (ms own : List Mention) → PassesBy keys path → AllOf (IsOfHeader keys) own
    → refusal_by profile limit ms (set path value) ≡ None → refusal_by profile limit (ms ++ own) (set path value) ≡ None
allowed_after profile limit keys path value ms own clear of_header =
    set_kept profile limit path value ms (ms ++ own)
    (ap (λ (kinds : List MentionKind). value_of (first_of (filter_map fact_of kinds)))
    (kinds_same keys path ms own clear of_header))
    (λ q k qs is. bracket_same keys q ms own of_header)

set_after_header : (profile : Profile) (limit : ℕ) (s : Document) (keys : List (List ℕ)) (c : TextChange)
    (content : Content) (other : List Part) (more : Value) (d : TextChange)
    → IsEditable profile limit s → HeaderComes s keys c content → SetsValue profile limit s other more d
    → PassesBy keys other → SetsValue profile limit (headed s content).to other more (moved c d)
set_after_header profile limit s keys c content other more d fine h g clear =
    let law : IsLawfulEdit profile limit s (set other more) =
    set_lawful profile limit s other more fine g.given g.allowed in
    let stays : Stays (headed s content) (change s (set other more)) (change (headed s content).to (set other more)) =
    lines_stay s content h.empty (in_line (replacement more) other)
    (λ r l. in_line-is (replacement more) (replacement-is more) other r l)
    (values_pass s keys c content h (replacement more) other) in
    record {
      given = g.given;
      allowed = ap (λ (ms : List Mention). refusal_by profile limit ms (set other more)) h.says
          ∙ allowed_after profile limit keys other more (mentions_in s) h.own clear h.of_header g.allowed;
      some = g.some;
      is =
          still_place c d s (headed s content).to (set other more) (headed s content) law.changed h.is g.is g.some
          law.is stays;
    }

pub set_after_table : SetAfterTable
set_after_table profile limit s keys c other more d fine h g clear =
    let come : HeaderComes s keys c (header [] (key_with keys) []) = table_comes profile limit s keys c fine h in
    after_header (λ (t : Document). SetsValue profile limit t other more (moved c d)) s (header [] (key_with keys) [])
    keys c come (set_after_header profile limit s keys c (header [] (key_with keys) []) other more d fine come g clear)

pub set_after_element : SetAfterElement
set_after_element profile limit s keys c other more d fine h g clear =
    let come : HeaderComes s keys c (element [] (key_with keys) []) = element_comes profile limit s keys c fine h in
    after_header (λ (t : Document). SetsValue profile limit t other more (moved c d)) s (element [] (key_with keys) [])
    keys c come (set_after_header profile limit s keys c (element [] (key_with keys) []) other more d fine come g clear)
