-- Inserts of a list that add items to one array: the edits so far are made in the document's text, with their items.
--
-- By the law of such runs one more is not refused, and its text comes after those before it at the same place. So the
-- edits up to it are made, as in RunSteps. Which array it is, and where its next item comes, is the same for each edit,
-- since a path has one last step (`same_item`) and an insert one place.
--
-- Theorems: `no_items`, `more_items`: before the first insert, and with one more; `items_made`: so all are made;
-- `item_here`: what an edit is found to do; `number_there`, `item_after`: of an item's path, and that of one after it.
use Rattle.std.proofs.Common.{◌≡◌, ◌↔◌, ◌<◌, ◌≤◌, ◌+◌, ◌-◌, ◌∷◌, ◌++◌, [], ℕ, suc, List, length, take, get_or, refl}
use Rattle.std.proofs.Common.{sym}
use Rattle.std.proofs.Common.{ap, subst, ◌∙◌, arith, All, IsUtf8, Option, Some, None, slice_get}
use Rattle.std.proofs.Common.{length-append}
use Rattle.std.specs.Prelude.{IfSome, ◌⊎◌}
use Rattle.std.specs.List.{AllByRecursion}
use Rattle.std.proofs.Common.{inl, inr}
use Rattle.std.proofs.Math.Seq.{take-append_seam, take-suc}
use Rattle.std.proofs.lemmas.Option.{get_or_from_slice_get, slice_get_within}
use Rattle.std.proofs.lemmas.List.{take_all}
use Rattle.std.proofs.lemmas.List.Elements.{All-nil}
use Rattle.std.proofs.lemmas.Str.{IsUtf8-string_bytes}
use Rattle.keep_types.specs.declared.leaf.Profile.TheVariants.{Wide}
use Rattle.keep_syntax.specs.Tree.{Document, Value, value_text}
use Rattle.keep_path.specs.Path.{Part, index, last_part, without_last}
use Rattle.keep_path.proofs.Shared.{last_pushed}
use Rattle.keep_edit_spec.specs.AddedItems.{AddsNextItem, CanBeItem, HasItems, IsItemRun, IsItemRunLonger, item_path}
use Rattle.keep_edit_spec.specs.AddedItems.{separator}
use Rattle.keep_edit_spec.specs.TextChanges.{TextChange, change_at, with_change}
use Rattle.keep_edit_spec.proofs.Shared.{all_with, item_run_goes_on, keys_same, length_with, none_is_item_run}
use Rattle.keep_edit_spec.specs.Changed.{Place}
use Rattle.keep_edit_spec.specs.Edits as law
use Rattle.keep_edit_spec.specs.Edits.{edited_document}
use Rattle.keep_edit_spec.specs.Laws.{IsLawfulEdit}
use Rattle.keep_edit_spec.proofs.Shared.{insert_lawful, without_last-snoc}
use Rattle.keep_edit_plan.proofs.Shared.{change_in, editable}
use Rattle.keep_edit_plan.specs.Answers.{IsSpanOf}
use Rattle.keep_edit_plan.specs.TextEdits.{IsChangeIn, change_of}
use Rattle.keep_edit_plan.specs.declared.text_edit.TextEdit.{TextEdit}
use Rattle.keep_edit_plan.specs.declared.edit.Edit.{Edit}
use Rattle.keep_edit_plan.specs.declared.edit.Edit.TheVariants as edit
use Rattle.keep_edit_runs.specs.Lists.{IsEdit, AreMade}
use Rattle.keep_edit_plan.specs.Reading.{limit, IsAcceptedValue, IsTextOfTree, IsTextOfValue, ProfiledText}
use Rattle.keep_edit_runs.specs.Runs.{AddsItemHere, IsItemRunTo, MakeChanges, changed_text}
use Rattle.keep_edit_runs.proofs.RunSteps.{change_made, tree_made}

-- ---- one array, and one place

same_number : (n m : ℕ) → Some (index n) ≡ Some (index m) → n ≡ m
same_number n m e = cc

same_item : (a b : List Part) (n m : ℕ) → item_path a n ≡ item_path b m → (a ≡ b) × (n ≡ m)
same_item a b n m e = (
  sym (without_last-snoc a (index n)) ∙ ap without_last e ∙ without_last-snoc b (index m),
  same_number n m (sym (last_pushed a (index n)) ∙ ap last_part e ∙ last_pushed b (index m)),
)

-- ---- one more

module _ (s : Document) (edits : List Edit) (first n : ℕ) (old now : ProfiledText) (before : Document)
    (array : List Part) (count at : ℕ) (texts : List TextChange) (read : IsTextOfTree now before)
    (h : IsItemRunTo s edits first n old now before array count at texts) (d x : Edit) (lt : n < length edits)
    (here : get_or edits n d ≡ x) (v : Value)
    (given : IsEdit x (law.insert (item_path array (count + length texts)) v)) (added : TextChange)
    (can : CanBeItem now.profile limit before array v)
    (is : added ≡ change_at at 0 (separator (count + length texts) ++ value_text v))
    (utf8 : All (λ c. IsUtf8 c.new) (with_change texts added))
    (within : All (IsChangeIn now.text) (with_change texts added)) where
  abbrev t : Document
  t = h.made.tree

  abbrev e : law.Edit
  e = law.insert (item_path array (count + length texts)) v

  longer : IsItemRunLonger now.profile limit before array count at texts t v added
  longer = item_run_goes_on now.profile limit before array count at texts t v added h.run can is

  lawful : IsLawfulEdit now.profile limit t e
  lawful =
      insert_lawful now.profile limit t (item_path array (count + length texts)) v h.run.editable can.given
      (subst (AllByRecursion IsUtf8) (sym (keys_same array (count + length texts))) h.run.items.utf8) longer.allowed

  made : AreMade s (take (suc n) edits) old (changed_text now (with_change texts added))
  made =
      change_made s edits n old now before texts read h.made d x lt here e given added h.run.text longer.run.text
      longer.run.follow longer.allowed lawful utf8 within

  same_tree : edited_document t e ≡ made.tree
  unfolding made
  same_tree =
      tree_made s edits n old now before texts read h.made d x lt here e given added h.run.text longer.run.text
      longer.run.follow longer.allowed lawful utf8 within

  pub item_added : IsItemRunTo s edits first (suc n) old now before array count at (with_change texts added)
  item_added = record {
    made = made;
    run = subst (IsItemRun now.profile limit before array count at (with_change texts added))
        same_tree longer.run;
  }

-- ---- as the code goes

-- which array the path's item is the next of, and where it comes
pub record IsNextOf (now : ProfiledText) (t : Document) (path : List Part) : Type 0 where
  pub array : List Part
  pub number : ℕ
  pub at : ℕ
  pub whole : path ≡ item_path array number
  pub items : HasItems now.profile limit t array number at

-- So far these items are added, and the edits up to number `end` are made by them.
pub record AreItemsAdded (edits : List Edit) (first end : ℕ) (now : ProfiledText) (path : List Part)
    (texts : List TextChange) : Type 0 where
  pub many : first + length texts ≡ end
  pub made : (s : Document) (old : ProfiledText) → (h : AreMade s (take first edits) old now)
      → (k : IsNextOf now h.tree path) → IsItemRunTo s edits first end old now h.tree k.array k.number k.at texts
  pub known : (t : Document) → IsTextOfTree now t → (texts ≡ []) ⊎ IsNextOf now t path
  pub within : All (IsChangeIn now.text) texts
  pub utf8 : All (λ c. IsUtf8 c.new) texts

pub no_items : (edits : List Edit) (first : ℕ) (now : ProfiledText) (path : List Part)
    → AreItemsAdded edits first first now path []
no_items edits first now path = record {
  many = omega arith;
  made = λ s old h k. record {
    made = h;
    run = none_is_item_run now.profile limit h.tree k.array k.number k.at (editable now h.tree h.read) k.items;
  };
  known = λ t read. inl refl;
  within = All-nil (IsChangeIn now.text);
  utf8 = All-nil (λ c. IsUtf8 c.new);
}

-- what one edit says of the array is what the path says
item_there : (now : ProfiledText) (t : Document) (path : List Part) (before : ℕ) (v : Value) (added : TextChange)
    (k : IsNextOf now t path) → AddsNextItem now.profile limit t path before v added
    → CanBeItem now.profile limit t k.array v
    × (added ≡ change_at k.at 0 (separator (k.number + before) ++ value_text v))
item_there now t path before v added k adds =
    let (array, number) = same_item adds.array k.array adds.number k.number (sym adds.whole ∙ k.whole) in
    let items : HasItems now.profile limit t k.array k.number added.at =
    subst (λ (n : ℕ). HasItems now.profile limit t k.array n added.at) number
    (subst (λ (a : List Part). HasItems now.profile limit t a adds.number added.at) array adds.items) in
    let at : added.at ≡ k.at = ap (λ (p : Place). p.start) (sym (items.next v) ∙ k.items.next v) in (
      subst (λ (a : List Part). CanBeItem now.profile limit t a v) array adds.can,
      ap (λ (m : ℕ). change_at added.at m added.new) adds.adds
          ∙ ap (λ (b : List ℕ). change_at added.at 0 b)
          (adds.is ∙ ap (λ (m : ℕ). separator (m + before) ++ value_text v) number)
          ∙ ap (λ (m : ℕ). change_at m 0 (separator (k.number + before) ++ value_text v)) at,
    )

pub more_items : (edits : List Edit) (first end : ℕ) (now : ProfiledText) (path : List Part) (texts : List TextChange)
    (d x : Edit) (before : ℕ) (t : TextEdit)
    → AreItemsAdded edits first end now path texts → end < length edits → get_or edits end d ≡ x
    → before ≡ end - first → AddsItemHere now x path before t
    → AreItemsAdded edits first (suc end) now path (with_change texts (change_of t))
more_items edits first end now path texts d x before t so_far lt here count adds =
    let added : TextChange = change_of t in
    let utf8 = all_with (λ c. IsUtf8 c.new) texts added so_far.utf8 (IsUtf8-string_bytes t.new) in
    let within = all_with (IsChangeIn now.text) texts added so_far.within (change_in now.text t adds.within) in
    let many : before ≡ length texts = omega (arith, count, so_far.many) in
    record {
      many = omega (arith, so_far.many, length_with texts added);
      made = λ s old h k.
          let (can, is) = item_there now h.tree path before adds.value added k (adds.adds h.tree h.read) in
          item_added s edits first end old now h.tree k.array k.number k.at texts h.read (so_far.made s old h k) d x lt
          here adds.value
          (subst (λ (m : ℕ). IsEdit x (law.insert (item_path k.array (k.number + m)) adds.value)) many
          (adds.insert_is k.array k.number k.whole)) added can
          (is ∙ ap (λ (m : ℕ). change_at k.at 0 (separator (k.number + m) ++ value_text adds.value)) many) utf8 within;
      known = λ s read.
          let a = adds.adds s read in
          inr (record { array = a.array; number = a.number; at = added.at; whole = a.whole; items = a.items });
      within = within;
      utf8 = utf8;
    }

pub items_made : (edits : List Edit) (first end : ℕ) (now : ProfiledText) (path : List Part) (texts : List TextChange)
    → AreItemsAdded edits first end now path texts → MakeChanges edits first (first + length texts) now texts
items_made edits first end now path texts so_far s old h = elim (so_far.known h.tree h.read) [
  | inl none ↦
      subst (λ (ts : List TextChange). AreMade s (take (first + length ts) edits) old (changed_text now ts)) (sym none)
      (subst (λ (n : ℕ). AreMade s (take n edits) old now) (let e : first ≡ first + 0 = omega arith in e) h)
  | inr k ↦
      subst (λ (n : ℕ). AreMade s (take n edits) old (changed_text now texts)) (sym so_far.many)
      (so_far.made s old h k).made
]

-- An edit that is found to add an item does so there.
pub item_here : (now : ProfiledText) (x : Edit) (path own : List Part) (before : ℕ) (given : List ℕ)
    (r : Option TextEdit) → x ≡ edit.Insert own given
    → ((array : List Part) (n : ℕ) → path ≡ item_path array n → own ≡ item_path array (n + before))
    → ((s : Document) → IsTextOfTree now s → (v : Value) → IsTextOfValue given v
    → IfSome r (λ made. AddsNextItem now.profile limit s path before v (change_of made)))
    → IfSome r (λ made. IsSpanOf now.text made.place) → IsAcceptedValue Wide given
    → IfSome r (AddsItemHere now x path before)
item_here now x path own before given None is own_is adds within value = tt
item_here now x path own before given (Some t) is own_is adds within (v, value) =
    record {
      value = v;
      insert_is = λ array n whole.
          subst (λ (e : Edit). IsEdit e (law.insert (item_path array (n + before)) v)) (sym is)
          (v, value, ap (λ (p : List Part). law.insert p v) (sym (own_is array n whole)));
      adds = λ s read. adds s read v value;
      within = within;
    }

-- ---- the path of an item

array_size : (item array : List Part) (n len : ℕ) → item ≡ item_path array n → len ≡ length item
    → len - 1 ≡ length array
array_size item array n len is long =
    omega (arith, long, ap (λ (l : List Part). length l) is, length-append array (index n ∷ []))

index_there : (array : List Part) (n : ℕ) → slice_get (item_path array n) (length array) ≡ Some (index n)
index_there [] n = refl
index_there (a ∷ array) n = index_there array n

-- its last step is its number
pub number_there : (item array : List Part) (n len : ℕ) → item ≡ item_path array n → len ≡ length item
    → slice_get item (len - 1) ≡ Some (index n)
number_there item array n len is long =
    ap (λ (k : ℕ). slice_get item k) (array_size item array n len is long)
    ∙ ap (λ (l : List Part). slice_get l (length array)) is ∙ index_there array n

-- and what comes before it is the array's path
array_there : (item array : List Part) (n len : ℕ) → item ≡ item_path array n → len ≡ length item
    → take (len - 1) item ≡ array
array_there item array n len is long =
    ap (λ (k : ℕ). take k item) (array_size item array n len is long)
    ∙ ap (λ (l : List Part). take (length array) l) is ∙ take-append_seam array (index n ∷ [])

snoc_there : (path : List Part) (n own : ℕ) → length path ≤ suc n → slice_get path n ≡ Some (index own)
    → path ≡ take n path ++ index own ∷ []
snoc_there path n own many there =
    sym (take_all (suc n) path many) ∙ take-suc path n (index own) (slice_get_within path n (index own) there)
    ∙ ap (λ (p : Part). take n path ++ p ∷ []) (get_or_from_slice_get path n (index own) (index own) there)

-- A path that agrees with it up to the last step, and has a number there too: so many more exactly if it is the path of
-- the item so many numbers after it.
pub item_after : (path item array : List Part) (n number own before len : ℕ) → item ≡ item_path array n
    → len ≡ length path → len ≡ length item → take (len - 1) path ≡ take (len - 1) item
    → slice_get item (len - 1) ≡ Some (index number) → slice_get path (len - 1) ≡ Some (index own)
    → (own ≡ number + before) ↔ (path ≡ item_path array (n + before))
item_after path item array n number own before len is many long agree here there =
    let first : n ≡ number = same_number n number (sym (number_there item array n len is long) ∙ here) in (
      λ sum.
          snoc_there path (len - 1) own (omega (arith, many)) there
          ∙ ap (λ (l : List Part). l ++ index own ∷ []) (agree ∙ array_there item array n len is long)
          ∙ ap (item_path array) (omega (arith, sum, first)),
      λ after.
          let second : n + before ≡ own =
          same_number (n + before) own (sym (number_there path array (n + before) len after many) ∙ there) in
          omega (arith, first, second),
    )
