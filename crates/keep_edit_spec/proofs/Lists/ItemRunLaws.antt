-- Runs of inserts that add items to one array: the law of one more.
--
-- A run keeps all that is known of the array, for the document after it. So `item_is_added` tells that one more insert
-- is not refused, and what is known of the array then. By the law of `insert` the new document is editable, and its
-- text has the item put in there (`text_with_one`). The next item comes after it: at the same place of the first
-- document, moved past it by the texts with this one (`moved_with`).
--
-- Theorems: `none_is_item_run`, `item_run_goes_on`.
use Rattle.std.proofs.Common.{◌≡◌, ◌≤◌, ℕ, suc, ◌+◌, ◌-◌, Bool, cond, nat_lt, All, inl, List, [], ◌∷◌, ◌++◌, length}
use Rattle.std.proofs.Common.{refl, sym, ap, subst, ◌∙◌, arith, IsUtf8}
use Rattle.std.specs.List.{AllByRecursion}
use Rattle.std.proofs.lemmas.Bool.{le-ltb}
use Rattle.std.proofs.lemmas.List.Elements.{All-cons, All-head, All-nil, All-tail}
use Rattle.keep_types.specs.declared.leaf.Profile.{Profile}
use Rattle.keep_syntax.specs.Tree.{Value, Document, inline, none, text, value_text}
use Rattle.keep_path.specs.Path.{Part}
use Rattle.keep_edit_spec.specs.Changed.{Place, put}
use Rattle.keep_edit_spec.specs.Edits.{Edit, edited_document, insert}
use Rattle.keep_edit_spec.specs.Insertion.{put_in}
use Rattle.keep_edit_spec.specs.Laws.{IsLawfulEdit}
use Rattle.keep_edit_spec.proofs.EditLaws.{change_put, insert_lawful, place_within}
use Rattle.keep_edit_spec.specs.AddedItems.{AddsItem, CanBeItem, HasItems, IsItemRun, IsItemRunLonger, ItemRunGoesOn}
use Rattle.keep_edit_spec.specs.AddedItems.{ComesAt, NoneIsItemRun, item_path, separator}
use Rattle.keep_edit_spec.specs.TextChanges.{Follow, IsBeside, TextChange, change_at, moved_by_all, moved_past}
use Rattle.keep_edit_spec.specs.TextChanges.{text_with, with_change}
use Rattle.keep_edit_spec.proofs.Lists.ItemAdded.{item_is_added}
use Rattle.keep_edit_spec.proofs.Lists.MoreItems.{keys_same}
use Rattle.keep_edit_spec.proofs.Lists.MadeChanges.{same_place}
use Rattle.keep_edit_spec.proofs.Lists.TextChanges.{all_with, follow_with, length_with, moved_with, text_with_one}

-- what is known of an array, with its count and the place of the next item written in another way
items_at : (profile : Profile) (limit : ℕ) (s : Document) (array : List Part) (n n' at at' : ℕ) → n ≡ n' → at ≡ at'
    → HasItems profile limit s array n at → HasItems profile limit s array n' at'
items_at profile limit s array n n' at at' number place h =
    subst (λ (k : ℕ). HasItems profile limit s array k at') number
    (subst (λ (k : ℕ). HasItems profile limit s array n k) place h)

-- the next item's place is in the text: it is asked of this value, and is the same for each
some_value : Value
some_value = record { body = inline []; nested = none }

pub none_is_item_run : NoneIsItemRun
none_is_item_run profile limit s array n at editable items = record {
  editable = editable;
  start =
      subst (λ (p : Place). p.end ≤ length (text s)) (items.next some_value)
      (place_within s (insert (item_path array n) some_value));
  here = All-nil (ComesAt at);
  follow = tt;
  text = refl;
  items = items_at profile limit s array n (n + 0) at (moved_by_all [] at) (omega arith) (omega arith) items;
  others = λ value can. can;
}

-- ---- one more

-- a text that comes at a place is beside those that come there
all_beside : (at : ℕ) (new : List ℕ) (texts : List TextChange) → All (ComesAt at) texts
    → All (λ x. IsBeside x (change_at at 0 new)) texts
all_beside at new [] here = All-nil (λ x. IsBeside x (change_at at 0 new))
all_beside at new (c ∷ cs) here =
    let h = All-head (ComesAt at) c cs here in
    All-cons (λ x. IsBeside x (change_at at 0 new)) c cs (inl (omega (arith, h.0, h.1)))
    (all_beside at new cs (All-tail (ComesAt at) c cs here))

-- and moves that place past it
past_itself : (texts : List TextChange) (at : ℕ) (new : List ℕ) → Follow 0 texts → All (ComesAt at) texts
    → moved_by_all (with_change texts (change_at at 0 new)) at ≡ moved_by_all texts at + length new
past_itself texts at new follow here =
    let c : TextChange = change_at at 0 new in
    let beside : All (λ x. IsBeside x c) texts = all_beside at new texts here in
    let to : ℕ = moved_by_all texts at in
    let by : cond (nat_lt to to) to ((to + length new) - 0) ≡ (to + length new) - 0 =
    ap (λ (b : Bool). cond b to ((to + length new) - 0)) (le-ltb to to (omega arith)) in
    ap (λ (x : TextChange). x.at) (moved_with texts c c follow beside beside (inl (omega arith))) ∙ by
    ∙ (let e : (to + length new) - 0 ≡ to + length new = omega arith in e)

longer : (profile : Profile) (limit : ℕ) (s : Document) (array : List Part) (n at : ℕ) (texts : List TextChange)
    (now : Document) (value : Value) → IsItemRun profile limit s array n at texts now
    → CanBeItem profile limit s array value
    → IsItemRunLonger profile limit s array n at texts now value
    (change_at at 0 (separator (n + length texts) ++ value_text value))
longer profile limit s array n at texts now value r fine =
    let k : ℕ = n + length texts in
    let to : ℕ = moved_by_all texts at in
    let new : List ℕ = separator k ++ value_text value in
    let c : TextChange = change_at at 0 new in
    let beside : All (λ x. IsBeside x c) texts = all_beside at new texts r.here in
    let e : Edit = insert (item_path array k) value in
    let can : CanBeItem profile limit now array value = r.others value fine in
    let b : AddsItem profile limit now array k to value =
    item_is_added profile limit now array k to value r.editable r.items can in
    let lawful : IsLawfulEdit profile limit now e =
    insert_lawful profile limit now (item_path array k) value r.editable can.given
    (subst (AllByRecursion IsUtf8) (sym (keys_same array k)) r.items.utf8) b.allowed in
    record {
      allowed = b.allowed;
      is = r.items.next value;
      run = record {
        editable = record {
          valid = lawful.reads.valid;
          shallow = lawful.reads.shallow;
          obeys = lawful.obeys;
        };
        start = r.start;
        here = all_with (ComesAt at) texts c r.here (refl, refl);
        follow = follow_with 0 texts c (omega arith) r.follow beside;
        text = change_put now e ∙ ap (put (text now)) (r.items.next value)
            ∙ ap (λ (t : List ℕ). put t (put_in to new)) r.text
            ∙ ap (put (text_with 0 (text s) texts)) (same_place (moved_past texts c) refl)
            ∙ sym (text_with_one (text s) texts c (omega (arith, r.start)) r.follow beside);
        items = items_at profile limit (edited_document now e) array (suc k) (n + length (with_change texts c))
            (to + length new) (moved_by_all (with_change texts c) at)
            (omega (arith, length_with texts c)) (sym (past_itself texts at new r.follow r.here)) b.more;
        others = λ other h. b.others other (r.others other h);
      };
    }

pub item_run_goes_on : ItemRunGoesOn
item_run_goes_on profile limit s array n at texts now value c r can is =
    subst (λ (x : TextChange). IsItemRunLonger profile limit s array n at texts now value x) (sym is)
    (longer profile limit s array n at texts now value r can)
