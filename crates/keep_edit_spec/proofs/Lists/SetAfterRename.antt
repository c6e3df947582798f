-- A set makes the same change after a rename made its own elsewhere.
--
-- The lines are searched for the other path as before: they are read as before for it (RenamedReads), and the line with
-- the key has the same in it there, or it never had anything (`line_second`). So the set has the same change, at the
-- moved place (RenamedStays). It is not refused, since the rename leaves the facts at paths that begin with neither the
-- renamed path nor the new one (`fact_stays`).
--
-- Theorem: `set_after_rename`.
use Rattle.std.proofs.Common.{◌≡◌, ℕ, List, [], ◌++◌, refl, sym, ap, subst, ◌∙◌, Option, Some, None}
use Rattle.keep_types.specs.declared.leaf.Profile.{Profile}
use Rattle.keep_syntax.specs.Tree.{Value, Content, blank, keyval, header, element, Line, Document, comment_leaves}
use Rattle.keep_syntax.specs.Tree.{name_leaves, text_of}
use Rattle.keep_path.specs.Path.{Part, beside}
use Rattle.keep_meaning.specs.Marks.{Mention, Reading}
use Rattle.keep_meaning.specs.Meaning.{mentions_in, step}
use Rattle.keep_meaning.specs.Nodes.{fact_at}
use Rattle.keep_edit_spec.specs.Changed.{Changed, place_of, within}
use Rattle.keep_edit_spec.specs.Edits.{change, changed_or_same, edited_document, nested, rename, set}
use Rattle.keep_edit_spec.specs.Laws.{IsLawfulEdit}
use Rattle.keep_edit_spec.specs.Lines.{in_content, in_line}
use Rattle.keep_edit_spec.specs.Look.{strip}
use Rattle.keep_edit_spec.proofs.Lists.TwoKinds.{SetAfterRename}
use Rattle.keep_edit_spec.specs.Refusals.{refusal_by}
use Rattle.keep_edit_spec.specs.Trees.{fact_from, from, source}
use Rattle.keep_edit_spec.specs.Values.{Act, in_value, replacement}
use Rattle.keep_edit_spec.proofs.EditLaws.{rename_lawful, set_lawful}
use Rattle.keep_edit_spec.proofs.Common.DoneAtValue.{IsAtEnd}
use Rattle.keep_edit_spec.proofs.Common.LineTexts.{in_line-is}
use Rattle.keep_edit_spec.proofs.Common.NewLines.{IsKeyText}
use Rattle.keep_edit_spec.proofs.Common.Texts.{IsAct, replacement-is}
use Rattle.keep_edit_spec.proofs.Lists.RenameStays.{IsApart, line_stays}
use Rattle.keep_edit_spec.proofs.Lists.RenamedReads.{Agrees, IsHidden, IsLineRead, IsRenamedPage, agrees_strip, by_key}
use Rattle.keep_edit_spec.proofs.Lists.RenamedReads.{in_braces, renamed_page}
use Rattle.keep_edit_spec.proofs.Lists.RenamedStays.{renamed_stays}
use Rattle.keep_edit_spec.proofs.Lists.SetAllowed.{facts_kept, prefix_clear}
use Rattle.keep_edit_spec.proofs.Lists.SetPlaces.{EachStays, Stays, stays_as, still_place}
use Rattle.keep_edit_spec.proofs.Rename.KeyTexts.{key_text}
use Rattle.keep_edit_spec.proofs.Rename.RenameWhole.{beside_is, renamable}

-- ---- the change

-- the second act, which is done at the end of the other path alone
module _ (profile : Profile) (t : List ℕ) (is_text : IsKeyText profile t) (two : Act) (is_two : IsAct two)
    (ends_two : IsAtEnd two) (path other : List Part) (apart : IsApart t path other) where
  -- a line that is read as before for the other path
  line_same : (r r' : Reading) (l : Line) → Agrees other r.body r'.body
      → in_line two other r' l ≡ in_line two other r l
  line_same r r' l h =
      ap (within (λ c. record l { content = c }) (text_of l.before)
      (text_of l.after ++ text_of (comment_leaves l.comment))) (by l.content)
    where
      by : (c : Content) → in_content two r'.body other c ≡ in_content two r.body other c
      by blank = refl
      by (keyval name value) =
          ap {B = Option (Changed Content)} (λ (o : Option (List Part)). elim o [
            | None ↦ None
            | Some more ↦ within (keyval name) (text_of (name_leaves name)) [] (in_value two more value)
          ]) (agrees_strip other r.body r'.body (step 0 (Some name)) h)
      by (header before k after) = refl
      by (element before k after) = refl

  hidden_line : (r : Reading) (l : Line) → IsHidden other r.body l.content → in_line two other r l ≡ None
  hidden_line r l h =
      ap (within (λ c. record l { content = c }) (text_of l.before)
      (text_of l.after ++ text_of (comment_leaves l.comment))) (by l.content h)
    where
      by : (c : Content) → IsHidden other r.body c → in_content two r.body other c ≡ None
      by blank k = refl
      by (keyval name value) k = rw (in_content, k) refl
      by (header before key after) k = refl
      by (element before key after) k = refl

  -- the line with the key
  line_second : (r r' : Reading) (l : Line) (x : Changed Line) → IsLineRead t path other r r' l x
      → Stays x (in_line two other r l) (in_line two other r' x.to)
  line_second r r' l x (by_key h) =
      stays_as x None None (in_line two other r l) (in_line two other r' x.to) (hidden_line r l h.was)
      (hidden_line r' x.to h.now) refl
  line_second r r' l x (in_braces same is) =
      subst (λ (q : Reading). Stays x (in_line two other r l) (in_line two other q x.to)) (sym same)
      (subst (λ (o : Option (Changed Line)). EachStays o (in_line two other r) l) is
      (line_stays profile t is_text two is_two ends_two path other apart r l))

  second_stays : (s : Document) (x : Changed Document) → IsRenamedPage t path other s x
      → Stays x (nested two other s) (nested two other x.to)
  second_stays =
      renamed_stays t path other (in_line two other) (λ r l. in_line-is two is_two other r l) line_same line_second

-- ---- it is not refused

module _ (profile : Profile) (limit : ℕ) (s : Document) (path : List Part) (t : List ℕ)
    (law : IsLawfulEdit profile limit s (rename path t)) where
  abbrev ms : List Mention
  ms = mentions_in s

  abbrev now : List Mention
  now = mentions_in (edited_document s (rename path t))

  fact_stays : (q : List Part) → strip path q ≡ None → strip (beside path t) q ≡ None → fact_at q now ≡ fact_at q ms
  fact_stays q below new = law.tree q ∙ ap (fact_from ms []) by
    where
      by : source ms (rename path t) q ≡ from q
      by = rw (new, below, source) refl

  kept : (other : List Part) (more : Value) → strip path other ≡ None → strip (beside path t) other ≡ None
      → refusal_by profile limit ms (set other more) ≡ None → refusal_by profile limit now (set other more) ≡ None
  kept other more below new =
      facts_kept profile limit other more ms now (λ q rest is. fact_stays q (prefix_clear path other q rest below is)
      (prefix_clear (beside path t) other q rest new is))

-- ---- the law

pub set_after_rename : SetAfterRename
set_after_rename profile limit s path name c other more d fine h k apart fresh side =
    let edited : Document = edited_document s (rename path name) in
    let first : IsLawfulEdit profile limit s (rename path name) =
    rename_lawful profile limit s path name fine h.utf8 h.allowed in
    let second : IsLawfulEdit profile limit s (set other more) =
    set_lawful profile limit s other more fine k.given k.allowed in
    let x : Changed Document = first.changed in
    let y : Changed Document = second.changed in
    let is_apart : IsApart name path other = record {
      new_path = beside path name;
      two = beside_is path name (mentions_in s) (renamable profile limit s path name h.allowed);
      below = apart.0;
      above = apart.1;
      new = fresh.0;
    } in
    let page : IsRenamedPage name path other s x =
    renamed_page profile limit s path name other x fine h.utf8 h.allowed apart.0 fresh.0 first.is in
    let goes : Stays x (change s (set other more)) (change x.to (set other more)) =
    second_stays profile name (key_text profile name h.utf8) (replacement more) (replacement-is more) (λ p ps v. refl)
    path other is_apart s x page in
    let to : x.to ≡ edited = ap (λ (o : Option (Changed Document)). (changed_or_same s o).to) (sym first.is) in
    record {
      given = k.given;
      allowed = kept profile limit s path name first other more apart.0 fresh.0 k.allowed;
      some = k.some;
      is = still_place c d s edited (set other more) x y
          (ap (λ (o : Option (Changed Document)). place_of (changed_or_same s o)) (sym first.is) ∙ h.is) k.is k.some
          second.is (subst (λ (u : Document). Stays x (change s (set other more)) (change u (set other more))) to goes);
    }
