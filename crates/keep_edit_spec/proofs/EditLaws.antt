-- The laws of the edits, as they are promised.
--
-- Other files prove of each edit that it makes a change, and all that the law says of the change: that it is valid,
-- obeys the rules, and has the text and the tree that it should (`IsSetWhole`). Here this becomes a statement about the
-- document after the edit (`edited_from`), with a bound of its depth and of its text's length: `lawful` does it once
-- for all edits. Both edits that append add a line without a value, so they share `append_lawful`. `insert` has three
-- cases by where the value comes (`inserted`): an item of an array (`insert_item`), on lines (`insert_whole`), or in
-- braces (`insert_braces`). That a change replaces its place in the text, and nothing else, holds whether the edit is
-- refused or not (`changed_put`).
--
-- Theorems: `change_put`: a change replaces its place in the text; `set_lawful`, and its like for each other edit: the
-- law of an edit that is not refused; `growth_bounded`: by how much the text grows.
use Rattle.std.proofs.Common.{◌≡◌, ℕ, ◌+◌, ◌≤◌, Bool, true, false, List, [], length, refl, sym, ap, subst, ◌∙◌, arith}
use Rattle.std.proofs.Common.{length-append, Option, Some, None}
use Rattle.keep_types.specs.declared.leaf.Profile.{Profile}
use Rattle.keep_syntax.specs.Tree.{Value, Content, header, element, Document, text, content_depth, depth}
use Rattle.keep_syntax.specs.Grammar.{IsValue, Reads}
use Rattle.keep_syntax.specs.Profiles.{is_allowed_in}
use Rattle.keep_syntax.proofs.Shared.{allowed_value}
use Rattle.keep_path.specs.Path.{Part}
use Rattle.keep_meaning.specs.Rules.{ObeysRules}
use Rattle.keep_meaning.specs.Marks.{marks}
use Rattle.keep_meaning.specs.Meaning.{mentions_in}
use Rattle.keep_edit_spec.specs.Changed.{Changed, place_of, put}
use Rattle.keep_edit_spec.specs.Edits.{Edit, set, insert, rename, remove, append_table, append_element, key_with}
use Rattle.keep_edit_spec.specs.Edits.{append, change, changed_or_same, place}
use Rattle.keep_edit_spec.specs.Look.{keys_in, holder, item_number}
use Rattle.keep_edit_spec.specs.Refusals.{refusal}
use Rattle.keep_edit_spec.specs.Trees.{IsTreeOf}
use Rattle.keep_edit_spec.specs.Laws.{given_size, IsEditable, IsLawfulEdit, ChangeIsPut, SetIsLawful}
use Rattle.keep_edit_spec.specs.Laws.{AppendTableIsLawful, AppendElementIsLawful, RemoveIsLawful, RenameIsLawful}
use Rattle.keep_edit_spec.specs.Laws.{GrowthIsBounded, IsGivenValue, InsertIsLawful}
use Rattle.keep_edit_spec.proofs.Common.Texts.{EachIs, put-place_of}
use Rattle.keep_edit_spec.proofs.Common.LineTexts.{change-is}
use Rattle.keep_edit_spec.proofs.Common.SetLaw.{EachTo}
use Rattle.keep_edit_spec.proofs.Common.SetWhole.{IsSetWhole, EachChange}
use Rattle.keep_edit_spec.proofs.Set.SetIsLawful.{set_is_lawful}
use Rattle.keep_edit_spec.proofs.Rename.KeyTexts.{key_texts}
use Rattle.keep_edit_spec.proofs.Insert.LineDepths.{line_change, line_depth, appended}
use Rattle.keep_edit_spec.proofs.Append.AppendTable.{append_table_is_right}
use Rattle.keep_edit_spec.proofs.Append.AppendElement.{append_element_is_right}
use Rattle.keep_edit_spec.proofs.Remove.RemoveDepth.{remove_depth}
use Rattle.keep_edit_spec.proofs.Remove.RemoveAny.{remove_any}
use Rattle.keep_edit_spec.proofs.Insert.InsertWhole.{insert_whole, suits_there, IsInsertedWhole, has_lines}
use Rattle.keep_edit_spec.proofs.Rename.RenameWhole.{rename_whole}
use Rattle.keep_edit_spec.proofs.Common.Runs.{AllOf}
use Rattle.keep_edit_spec.proofs.Common.NewLines.{IsKeyText}
use Rattle.keep_edit_spec.proofs.Insert.InsertItem.{insert_item}
use Rattle.keep_edit_spec.proofs.Insert.ItemThere.{granted}
use Rattle.keep_edit_spec.proofs.Insert.InsertBraces.{insert_braces}
use Rattle.keep_edit_spec.proofs.Growth.GrowthLaw.{growth}

-- ---- the text

changed_put : (s : Document) (o : Option (Changed Document)) → EachIs text s o
    → text (changed_or_same s o).to ≡ put (text s) (place_of (changed_or_same s o))
changed_put s None h = refl
changed_put s (Some c) h = put-place_of text s c h

pub change_put : ChangeIsPut
change_put s e = changed_put s (change s e) (change-is s e)

-- the place of an edit is in the text
end_within : (s : Document) (o : Option (Changed Document)) → EachIs text s o
    → (place_of (changed_or_same s o)).end ≤ length (text s)
end_within s None h = omega arith
end_within s (Some c) h = omega (arith, ap (λ (t : List ℕ). length t) h.was, length-append {A = ℕ})

pub place_within : (s : Document) (e : Edit) → (place s e).end ≤ length (text s)
place_within s e = end_within s (change s e) (change-is s e)

ordered : (o : Option (Changed Document)) (s : Document)
    → (place_of (changed_or_same s o)).start ≤ (place_of (changed_or_same s o)).end
ordered None s = omega arith
ordered (Some c) s = omega arith

pub place_ordered : (s : Document) (e : Edit) → (place s e).start ≤ (place s e).end
place_ordered s e = ordered (change s e) s

-- ---- set

-- what holds of the change holds of the document after the edit
edited_from : (P : Changed Document → Type 0) (s : Document) (e : Edit) (c : Changed Document) → change s e ≡ Some c
    → P c → P (changed_or_same s (change s e))
edited_from P s e c is holds = subst P (sym (ap (changed_or_same s) is)) holds

-- all that holds of the change, as it is promised
lawful : (profile : Profile) (limit : ℕ) (s : Document) (e : Edit) (c : Changed Document) → change s e ≡ Some c
    → IsSetWhole profile s e c → depth c.to ≤ limit
    → length (text c.to) ≤ length (text s) + given_size e + 12 → IsLawfulEdit profile limit s e
lawful profile limit s e c is whole low grown = record {
  changed = c;
  is = is;
  reads = edited_from (λ x. Reads profile limit (put (text s) (place_of x)) x.to) s e c is
      (record { valid = whole.valid; spelled = sym whole.spelled; shallow = low });
  obeys = edited_from (λ x. ObeysRules (marks (mentions_in x.to))) s e c is whole.obeys;
  tree = edited_from (λ x. IsTreeOf (mentions_in s) e (mentions_in x.to)) s e c is whole.tree;
  growth = edited_from (λ x. length (text x.to) ≤ length (text s) + given_size e + 12) s e c is grown;
}

pub set_lawful : SetIsLawful
set_lawful profile limit s path new editable given allowed =
    let (c, law) =
    set_is_lawful profile limit s path new editable.valid editable.shallow editable.obeys given.valid given.obeys
    allowed in
    lawful profile limit s (set path new) c law.is law.whole law.shallow (omega (arith, law.growth))

-- ---- append_table, append_element

-- an edit that appends a line without a value
append_lawful : (profile : Profile) (limit : ℕ) (s : Document) (e : Edit) (content : Content)
    → change s e ≡ append s content → content_depth content ≡ 0 → IsEditable profile limit s
    → EachChange (IsSetWhole profile s e) (change s e) → refusal profile limit s e ≡ None
    → IsLawfulEdit profile limit s e
append_lawful profile limit s e content by flat editable right allowed =
    let a = appended s content in
    let c : Changed Document = line_change s a.number a.contents in
    let is : change s e ≡ Some c = by ∙ a.is in
    lawful profile limit s e c is (subst (EachChange (IsSetWhole profile s e)) is right)
    (omega (arith, line_depth s a.number a.contents, a.flat, flat, editable.shallow))
    (growth profile limit s e c editable.valid editable.obeys allowed is)

pub append_table_lawful : AppendTableIsLawful
append_table_lawful profile limit s keys editable texts allowed =
    append_lawful profile limit s (append_table keys) (header [] (key_with keys) []) refl refl editable
    (append_table_is_right profile limit s keys allowed (key_texts profile keys texts) editable.valid editable.obeys)
    allowed

pub append_element_lawful : AppendElementIsLawful
append_element_lawful profile limit s keys editable texts allowed =
    append_lawful profile limit s (append_element keys) (element [] (key_with keys) []) refl refl editable
    (append_element_is_right profile limit s keys allowed (key_texts profile keys texts) editable.valid editable.obeys)
    allowed

-- ---- insert

inserted : (profile : Profile) (limit : ℕ) (s : Document) (path : List Part) (new : Value) → IsEditable profile limit s
    → IsGivenValue profile new → AllOf (IsKeyText profile) (keys_in path)
    → refusal profile limit s (insert path new) ≡ None → IsInsertedWhole profile limit s path new
inserted profile limit s path new editable given texts allowed =
    by (item_number path (mentions_in s)) refl (has_lines s (holder path (mentions_in s))) refl
  where
    by : (o : Option ℕ) → item_number path (mentions_in s) ≡ o → (b : Bool)
        → has_lines s (holder path (mentions_in s)) ≡ b → IsInsertedWhole profile limit s path new
    by (Some n) e b h = insert_item profile limit s path new n editable given e allowed
    by None e true h = insert_whole profile limit s path new editable given texts e h allowed
    by None e false h = insert_braces profile limit s path new editable given texts e h allowed

-- the profile's grammar has a value that is not refused
suiting : (profile : Profile) (limit : ℕ) (s : Document) (path : List Part) (new : Value)
    → refusal profile limit s (insert path new) ≡ None → is_allowed_in profile new ≡ true
suiting profile limit s path new allowed = by (item_number path (mentions_in s)) refl
  where
    by : (o : Option ℕ) → item_number path (mentions_in s) ≡ o → is_allowed_in profile new ≡ true
    by (Some n) e = (granted profile limit s path n new e allowed).suits
    by None e = suits_there profile limit s path new e allowed

pub insert_lawful : InsertIsLawful
insert_lawful profile limit s path new editable given texts allowed =
    let valid : IsValue profile new =
    allowed_value profile new given.valid (suiting profile limit s path new allowed) in
    let r = inserted profile limit s path new editable (record { valid = valid; obeys = given.obeys })
    (key_texts profile (keys_in path) texts) allowed in
    lawful profile limit s (insert path new) r.changed r.is r.whole r.low
    (growth profile limit s (insert path new) r.changed editable.valid editable.obeys allowed r.is)

-- ---- remove

depth_of : (n : ℕ) (o : Option (Changed Document)) (c : Changed Document) → o ≡ Some c → EachTo (λ s'. depth s' ≤ n) o
    → depth c.to ≤ n
depth_of n o c is h = subst (EachTo (λ s'. depth s' ≤ n)) is h

pub remove_lawful : RemoveIsLawful
remove_lawful profile limit s path editable allowed =
    let r = remove_any profile limit s path editable.valid editable.obeys allowed in
    lawful profile limit s (remove path) r.changed r.is r.whole
    (omega (arith, depth_of (depth s) (change s (remove path)) r.changed r.is (remove_depth s path), editable.shallow))
    (growth profile limit s (remove path) r.changed editable.valid editable.obeys allowed r.is)

-- ---- rename

pub rename_lawful : RenameIsLawful
rename_lawful profile limit s path text editable utf8 allowed =
    let r = rename_whole profile limit s path text editable.valid editable.obeys utf8 allowed in
    lawful profile limit s (rename path text) r.changed r.is r.whole (omega (arith, r.flat, editable.shallow))
    (growth profile limit s (rename path text) r.changed editable.valid editable.obeys allowed r.is)

-- ---- growth

pub growth_bounded : GrowthIsBounded
growth_bounded profile limit s e valid obeys allowed = by (change s e) refl
  where
    by : (o : Option (Changed Document)) → change s e ≡ o
        → length (text (changed_or_same s o).to) ≤ length (text s) + given_size e + 12
    by None is = omega arith
    by (Some c) is = growth profile limit s e c valid obeys allowed is
