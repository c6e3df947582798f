-- An item that comes into an array whose text and places are known: what is held then.
--
-- The tree of the text is an array, since the kind says so (`array_body`). The item is put into it where the places say
-- (`put_item_laid`), so the bytes that come in there make the text of the new tree (`text_inserted`). That this is a
-- value by the rules, and how deep it is, is the law of changes of entries.
--
-- Theorems: `item_holds`, `item_puts`.
use Rattle.std.proofs.Common.{◌≡◌, ℕ, suc, max, ◌+◌, ◌≤◌, List, [], ◌∷◌, ◌++◌, length, take, drop, refl, sym, ap}
use Rattle.std.proofs.Common.{◌∙◌, append_assoc, arith, slice_get, Option, Some, subst}
use Rattle.std.proofs.Math.Seq.{take-append_seam, drop-append_seam}
use Rattle.std.specs.List.{insert_slice}
use Rattle.keep_types.specs.declared.leaf.Profile.TheVariants.{Strict}
use Rattle.keep_types.specs.declared.node.Kind.{Kind}
use Rattle.keep_types.specs.declared.node.Kind.TheVariants as kind
use Rattle.keep_syntax.specs.Tree.{Gap, Body, scalar, array, inline, Value, text_of, value_depth, value_text}
use Rattle.keep_syntax.specs.Grammar.{AreEntries, place_in}
use Rattle.keep_edit_spec.specs.Changed.{Changed, IsChangeOf}
use Rattle.keep_edit_spec.specs.Values.{put_item, text_of_value}
use Rattle.keep_path.specs.Path.{index}
use Rattle.keep_edit_plan.specs.OpenValues.{AreLaid, HoldsOpen, IsBracketed, PutsItemText, first_gap}
use Rattle.keep_edit_plan.specs.OpenPlaces.{item_text, place_of_new, with_place}
use Rattle.keep_edit_plan.proofs.OpenItemLaws.{IsPut, put_item_laid, laid_length}
use Rattle.keep_edit_spec.specs.EntryChanges.{PutsItem}
use Rattle.keep_edit_spec.specs.Laws.{IsGivenValue}
use Rattle.keep_meaning.specs.Meaning.{body_fact}
use Rattle.keep_meaning.specs.Nodes.{fact_kind}
use Rattle.keep_meaning.specs.ReadText.{IsValueText}
use Rattle.keep_rules.proofs.Shared.{in_wide}
use Rattle.keep_edit_spec.proofs.Shared.{EachIs, put_item-is, put_item_is_value}
use Rattle.keep_edit_plan.specs.Reading.{IsTextOfValue, limit}
use Rattle.keep_edit_plan.specs.KeyNumbers.{HasKey}
use Rattle.keep_edit_plan.specs.declared.open_value.EntryPlace.{EntryPlace}
use Rattle.keep_edit_plan.specs.declared.open_value.key_numbers.KeyNumbers.{KeyNumbers}
use Rattle.keep_edit_plan.proofs.FirstParts.{parts_of_items}

-- the text of a value that something came into at a place
text_inserted : (was is before old new after : List ℕ) (at : ℕ) → was ≡ before ++ (old ++ after)
    → is ≡ before ++ (new ++ after) → old ≡ [] → length before ≡ at → insert_slice was at new ≡ is
text_inserted was is before old new after at e k none long =
    let cut : was ≡ before ++ after = e ∙ ap (λ (l : List ℕ). before ++ (l ++ after)) none in
    let first : take at was ≡ before =
    ap (λ (l : List ℕ). take at l) cut ∙ ap (λ (n : ℕ). take n (before ++ after)) (sym long)
    ∙ take-append_seam before after in
    let last : drop at was ≡ after =
    ap (λ (l : List ℕ). drop at l) cut ∙ ap (λ (n : ℕ). drop n (before ++ after)) (sym long)
    ∙ drop-append_seam before after in
    ap (λ (l : List ℕ). (l ++ new) ++ drop at was) first ∙ ap (λ (l : List ℕ). (before ++ new) ++ l) last
    ∙ append_assoc before new after ∙ sym k

array_body : (body : Body) → IsBracketed body → kind.Array ≡ fact_kind (body_fact body)
    → (first : Gap) × (body ≡ array first)
array_body (scalar w) bracketed is = absurd bracketed
array_body (array first) bracketed is = (first, refl)
array_body (inline first) bracketed is = absurd cc

change_is : (v : Value) (o : Option (Changed Value)) (c : Changed Value) → o ≡ Some c → EachIs text_of_value v o
    → IsChangeOf text_of_value v c
change_is v o c e h = subst (EachIs text_of_value v) e h

module _ (bytes : List ℕ) (places : List EntryPlace) (keys : KeyNumbers) (k : Kind) (depth : ℕ)
    (h : HoldsOpen bytes places keys k depth) (array_kind : k ≡ kind.Array) (n : ℕ) (few : n ≤ length places)
    (item_bytes : List ℕ) (item : Value) (read : IsValueText Strict limit item_bytes item)
    (low : suc (value_depth item) ≤ limit) where
  pub is_item : IsTextOfValue item_bytes item
  is_item = in_wide Strict item_bytes item read

  first_is : (first : Gap) × (h.value.body ≡ array first)
  first_is = array_body h.value.body h.bracketed (sym array_kind ∙ h.is)

  abbrev first : Gap
  first = first_is.0

  laid : AreLaid (length (text_of first)) h.value.nested places
  laid =
      subst (λ (g : ℕ). AreLaid g h.value.nested places)
      (ap first_gap first_is.1) h.laid

  placed : IsPut item n first h.value.nested places
  placed = put_item_laid item n first h.value.nested places laid few

  abbrev to : Value
  to = placed.made.to

  by : put_item item (index n ∷ []) h.value ≡ Some placed.made
  by =
      ap (λ (b : Body). put_item item (index n ∷ []) (record { body = b; nested = h.value.nested })) first_is.1
      ∙ placed.by

  puts : PutsItem h.value n item to
  puts =
      record {
        made = placed.made;
        by = by;
        is = refl;
        array = ap body_fact first_is.1;
        few = omega (arith, few, laid_length h.value.nested places (length (text_of first)) laid);
      }

  change : IsChangeOf text_of_value h.value placed.made
  change =
      change_is h.value (put_item item (index n ∷ []) h.value) placed.made by
      (put_item-is item (index n ∷ []) h.value)

  abbrev next : Option EntryPlace
  next = slice_get places n

  text_is : insert_slice bytes (1 + place_of_new n places) (item_text item_bytes places next) ≡ value_text to
  text_is =
      let same : item_text item_bytes places next ≡ placed.made.new =
      ap (λ (l : List ℕ). item_text l places next) read.reads.spelled ∙ sym placed.new in
      ap (λ (l : List ℕ). insert_slice bytes (1 + place_of_new n places) l) same
      ∙ text_inserted bytes (value_text to) placed.made.before placed.made.old placed.made.new placed.made.after
      (1 + place_of_new n places) (h.read.reads.spelled ∙ change.was) change.is placed.old placed.at

  law : IsGivenValue Strict to × (value_depth to ≡ max (value_depth h.value) (suc (value_depth item)))
  law =
      put_item_is_value Strict h.value n item to (record { valid = h.strict; obeys = h.read.obeys })
      (record { valid = read.reads.valid; obeys = read.obeys }) puts

  is_now : (now : List ℕ)
      → now ≡ insert_slice bytes (1 + place_of_new n places) (item_text item_bytes places next)
      → IsTextOfValue now to
  is_now now made =
      in_wide Strict now to (record {
        reads =
            record {
              valid = law.0.valid;
              spelled = made ∙ text_is;
              shallow = omega (arith, law.1, h.read.reads.shallow, low);
            };
        obeys = law.0.obeys;
      })

  pub item_puts : (now : List ℕ)
      → now ≡ insert_slice bytes (1 + place_of_new n places) (item_text item_bytes places next)
      → PutsItemText bytes n item_bytes now
  item_puts now made = record {
    value = item;
    is = is_item;
    puts = record { before = h.value; after = to; read = h.read; reads = is_now now made; made = puts };
  }

  pub item_holds : (now : List ℕ) (places' : List EntryPlace) (depth' : ℕ)
      → now ≡ insert_slice bytes (1 + place_of_new n places) (item_text item_bytes places next)
      → places' ≡ with_place n (length item_bytes) places next
      → depth' ≡ max depth (suc (value_depth item)) → HoldsOpen now places' keys k depth'
  item_holds now places' depth' made laid_is deep = record {
    value = to;
    read = is_now now made;
    strict = law.0.valid;
    bracketed = subst IsBracketed (sym placed.body) tt;
    is = array_kind ∙ ap (λ (b : Body). fact_kind (body_fact b)) (sym placed.body);
    deep = omega (arith, deep, h.deep, law.1);
    laid = subst (λ (l : List EntryPlace). AreLaid (first_gap to.body) to.nested l)
        (sym (laid_is ∙ ap (λ (l : ℕ). with_place n l places next)
        (ap (λ (l : List ℕ). length l) read.reads.spelled))) placed.laid;
    known = parts_of_items (HasKey keys) to.nested
        (subst (λ (b : Body). AreEntries Strict (place_in b) to.nested) placed.body law.0.valid.nested);
  }
