-- A keyval that comes into an inline table whose text and places are known: what is held then.
--
-- It comes after the last entry (`put_last_laid`, an induction over the entries), or into empty braces
-- (`put_keyval_laid`). So the bytes that come in where the places say make the text of the new tree. That this is a
-- value by the rules, and how deep it is, is the law of changes of entries, if nothing is at the key before: each key
-- there begins with another one, or has its number among some, of which the key's is none (`are_others`).
--
-- Theorems: `keyval_holds`, `keyval_puts`.
use Rattle.std.proofs.Common.{◌≡◌, ℕ, suc, max, ◌+◌, ◌≤◌, false, List, [], ◌∷◌, ◌++◌, length, take, drop, refl, sym, ap}
use Rattle.std.proofs.Common.{◌∙◌, ◌⊎◌, append_assoc, arith, inl, inr, length-append, slice_get, Option, Some, None}
use Rattle.std.proofs.Common.{subst}
use Rattle.std.specs.Prelude.{IsUtf8, codes}
use Rattle.std.specs.List.{insert_slice, list_any}
use Rattle.std.proofs.lemmas.List.{append-nil}
use Rattle.std.proofs.lemmas.Option.{slice_get_past}
use Rattle.std.proofs.Math.Seq.{take-append_seam, drop-append_seam, take-length}
use Rattle.keep_types.specs.declared.leaf.Profile.TheVariants.{Strict}
use Rattle.keep_types.specs.declared.node.Kind.{Kind}
use Rattle.keep_types.specs.declared.node.Kind.TheVariants as kind
use Rattle.keep_syntax.specs.Tree.{Body, Entries, Gap, Name, Value, array, comma_leaves, entry, inline, named_leaves}
use Rattle.keep_syntax.specs.Tree.{none}
use Rattle.keep_syntax.specs.Tree.{scalar, text_of, value_depth, value_text}
use Rattle.keep_path.specs.Path.{key}
use Rattle.keep_meaning.specs.Meaning.{body_fact, mentions_of_value}
use Rattle.keep_meaning.specs.Nodes.{fact_kind, is_at}
use Rattle.keep_meaning.specs.ReadText.{IsValueText}
use Rattle.keep_rules.proofs.Shared.{in_wide}
use Rattle.keep_edit_spec.specs.Changed.{Changed, IsChangeOf, framed_change, or_else, within}
use Rattle.keep_edit_spec.specs.Edits.{name_with}
use Rattle.keep_edit_spec.specs.EntryChanges.{PutsKeyval}
use Rattle.keep_edit_spec.specs.Laws.{IsGivenValue}
use Rattle.keep_edit_spec.specs.Values.{bracketed_change, entry_back, entry_prefix, put_after, put_named}
use Rattle.keep_edit_spec.specs.Values.{space, text_of_value}
use Rattle.keep_edit_spec.proofs.Shared.{EachIs, put_keyval_is_value, put_named-is, text_of-append}
use Rattle.keep_edit_plan.specs.KeyNumbers.{HasKey}
use Rattle.keep_edit_plan.specs.OpenKeyvals.{AreOtherKeys, IsOther, KeysAre, keyval_text}
use Rattle.keep_edit_plan.specs.OpenPlaces.{extent, gap_before, item_text, place, place_of_new, with_place}
use Rattle.keep_edit_plan.specs.OpenValues.{AreLaid, FirstPartsAre, HoldsOpen, IsBracketed, PutsKeyvalText, first_gap}
use Rattle.keep_edit_plan.specs.Reading.{IsTextOfValue, limit}
use Rattle.keep_edit_plan.specs.declared.open_value.EntryPlace.{EntryPlace}
use Rattle.keep_edit_plan.specs.declared.open_value.key_numbers.KeyNumbers.{KeyNumbers}
use Rattle.keep_edit_plan.proofs.FirstParts.{parts_also, parts_put}
use Rattle.keep_edit_plan.proofs.KeyNumberLaws.{others_of}
use Rattle.keep_edit_plan.proofs.OtherKeys.{value_free, value_parts}

-- ---- after the last

module _ (named : Name) (item : Value) where
  abbrev new_text : List ℕ
  new_text = text_of (named_leaves (Some named)) ++ text_of_value item

  -- an entry is its name and its value
  entry_len : length new_text ≡ length (entry_prefix (Some named) item.body item.nested)
  entry_len =
      ap (λ (l : List ℕ). length (text_of (named_leaves (Some named)) ++ l)) (simp text_of-append refl)

  record IsPutLast (gap : ℕ) (es : Entries) (ps : List EntryPlace) : Type 0 where
    made : Changed Entries
    by : put_after [] (Some named) item es ≡ Some made
    at : gap + length made.before ≡ extent ps
    old : made.old ≡ []
    new : made.new ≡ codes ", " ++ new_text
    laid : AreLaid gap made.to (ps ++ (place 2 (length new_text) ∷ []))

  put_last_laid : (gap : ℕ) (es : Entries) (q : EntryPlace) (qs : List EntryPlace) → AreLaid gap es (q ∷ qs)
      → IsPutLast gap es (q ∷ qs)
  put_last_laid gap none q qs laid = absurd laid
  put_last_laid gap (entry name body nested after comma none) q [] laid = record {
    made = _;
    by = refl;
    at = omega (arith, laid.0, laid.1.0);
    old = refl;
    new = refl;
    laid = (laid.0, (laid.1.0, (refl, (entry_len, tt))));
  }
  put_last_laid gap (entry name body nested after comma none) q (r ∷ rs) laid = absurd laid.1.1
  put_last_laid gap (entry name body nested after comma (entry n b e a c t)) q [] laid = absurd laid.1.1
  put_last_laid gap (entry name body nested after comma (entry n b e a c t)) q (r ∷ rs) laid =
      let rest : Entries = entry n b e a c t in
      let gap' : ℕ = length (text_of after) + length (text_of (comma_leaves comma)) in
      let left : List ℕ = entry_prefix name body nested ++ (text_of after ++ text_of (comma_leaves comma)) in
      let h : IsPutLast gap' rest (r ∷ rs) = put_last_laid gap' rest r rs laid.1.1 in
      record {
        made = framed_change (entry name body nested after comma) left [] h.made;
        by = ap (λ (o : Option (Changed Entries)).
            or_else (within (entry name body nested after comma) left [] o) (Some (record {
              to = entry name body nested [] (Some space) (entry (Some named) item.body item.nested after comma rest);
              before = entry_prefix name body nested;
              old = [];
              new = codes ", " ++ (text_of (named_leaves (Some named)) ++ text_of_value item);
              after = entry_back after comma rest;
            }))) h.by;
        at =
            omega (
              arith,
              laid.0,
              laid.1.0,
              h.at,
              length-append left h.made.before,
              length-append (entry_prefix name body nested) (text_of after ++ text_of (comma_leaves comma)),
              length-append (text_of after) (text_of (comma_leaves comma)),
            );
        old = h.old;
        new = h.new;
        laid = (laid.0, (laid.1.0, h.laid));
      }

  -- ---- in braces

  record IsPutKeyval (first : Gap) (es : Entries) (ps : List EntryPlace) : Type 0 where
    made : Changed Value
    by : bracketed_change (Some named) item (put_after [] (Some named) item) (inline first) es ≡ Some made
    at : length made.before ≡ 1 + extent ps
    old : made.old ≡ []
    new : made.new ≡ item_text new_text ps None
    gap : Gap
    body : made.to.body ≡ inline gap
    laid : AreLaid (first_gap made.to.body) made.to.nested (with_place (length ps) (length new_text) ps None)

  put_keyval_laid : (first : Gap) (es : Entries) (ps : List EntryPlace) → AreLaid (length (text_of first)) es ps
      → IsPutKeyval first es ps
  put_keyval_laid first none (q ∷ qs) laid = absurd laid
  put_keyval_laid first none [] laid = record {
    made = _;
    by = refl;
    at = refl;
    old = refl;
    new = refl;
    gap = [];
    body = refl;
    laid = (refl, (entry_len, tt));
  }
  put_keyval_laid first (entry name body nested after comma rest) [] laid = absurd laid
  put_keyval_laid first (entry name body nested after comma rest) (q ∷ qs) laid =
      let es : Entries = entry name body nested after comma rest in
      let outer : Entries → Value = λ es. record { body = inline first; nested = es } in
      let opens : List ℕ = codes "{" ++ text_of first in
      let h : IsPutLast (length (text_of first)) es (q ∷ qs) =
      put_last_laid (length (text_of first)) es q qs laid in
      record {
        made = framed_change outer opens (codes "}") h.made;
        by = ap (within outer opens (codes "}")) h.by;
        at = omega (arith, h.at, length-append opens h.made.before, length-append (codes "{") (text_of first));
        old = h.old;
        new = h.new;
        gap = first;
        body = refl;
        laid = h.laid;
      }

-- ---- the text

-- the text of a value that something came into at a place
text_inserted : (was is before old new after : List ℕ) (at : ℕ) → was ≡ before ++ (old ++ after)
    → is ≡ before ++ (new ++ after) → old ≡ [] → length before ≡ at → insert_slice was at new ≡ is
text_inserted was is before old new after at e k gone long =
    let cut : was ≡ before ++ after = e ∙ ap (λ (l : List ℕ). before ++ (l ++ after)) gone in
    let first : take at was ≡ before =
    ap (λ (l : List ℕ). take at l) cut ∙ ap (λ (n : ℕ). take n (before ++ after)) (sym long)
    ∙ take-append_seam before after in
    let last : drop at was ≡ after =
    ap (λ (l : List ℕ). drop at l) cut ∙ ap (λ (n : ℕ). drop n (before ++ after)) (sym long)
    ∙ drop-append_seam before after in
    ap (λ (l : List ℕ). (l ++ new) ++ drop at was) first ∙ ap (λ (l : List ℕ). (before ++ new) ++ l) last
    ∙ append_assoc before new after ∙ sym k

inline_body : (body : Body) → IsBracketed body → kind.Inline ≡ fact_kind (body_fact body)
    → (first : Gap) × (body ≡ inline first)
inline_body (scalar w) bracketed is = absurd bracketed
inline_body (array first) bracketed is = absurd cc
inline_body (inline first) bracketed is = (first, refl)

-- the new entry's text
keyval_is : (name : List ℕ) (item : Value) → new_text (name_with (name ∷ [])) item ≡ keyval_text name (value_text item)
keyval_is name item = simp (text_of-append, append_assoc, append-nil) refl

change_is : (v : Value) (o : Option (Changed Value)) (c : Changed Value) → o ≡ Some c → EachIs text_of_value v o
    → IsChangeOf text_of_value v c
change_is v o c e h = subst (EachIs text_of_value v) e h

-- what is said of a text and places, said of the same ones
pub said_here : (F : List ℕ → List EntryPlace → Type 0) (text bytes : List ℕ) (these places : List EntryPlace)
    → text ≡ bytes → these ≡ places → F text these → F bytes places
said_here F text bytes these places e f h =
    subst (λ (b : List ℕ). F b places) e (subst (F text) f h)

module _ (bytes : List ℕ) (places : List EntryPlace) (keys : KeyNumbers) (k : Kind) (depth : ℕ)
    (h : HoldsOpen bytes places keys k depth) (inline_kind : k ≡ kind.Inline) (name : List ℕ) (utf8 : IsUtf8 name)
    (numbers : KeyNumbers) (known : numbers ≡ keys ⊎ KeysAre (HasKey numbers) bytes 1 places)
    (new : (¬ HasKey numbers name) ⊎ AreOtherKeys name bytes 1 places) (item_bytes : List ℕ) (item : Value)
    (read : IsValueText Strict limit item_bytes item) (low : suc (value_depth item) ≤ limit) where
  abbrev named : Name
  named = name_with (name ∷ [])

  first_is : (first : Gap) × (h.value.body ≡ inline first)
  first_is = inline_body h.value.body h.bracketed (sym inline_kind ∙ h.is)

  abbrev first : Gap
  first = first_is.0

  laid : AreLaid (length (text_of first)) h.value.nested places
  laid = subst (λ (g : ℕ). AreLaid g h.value.nested places) (ap first_gap first_is.1) h.laid

  placed : IsPutKeyval named item first h.value.nested places
  placed = put_keyval_laid named item first h.value.nested places laid

  abbrev to : Value
  to = placed.made.to

  by : put_named name_with 1 item (key name ∷ []) h.value ≡ Some placed.made
  by =
      ap (λ (b : Body). put_named name_with 1 item (key name ∷ []) (record { body = b; nested = h.value.nested }))
      first_is.1
      ∙ placed.by

  -- of each key there, what the code knows of it
  parts : (P : List ℕ → Type 0) → KeysAre P bytes 1 places → FirstPartsAre P h.value.nested
  parts P are = value_parts P bytes places first h.value h.read.reads.spelled h.strict first_is.1 laid are

  have_numbers : FirstPartsAre (HasKey numbers) h.value.nested
  have_numbers =
      elim known [
        | inl same ↦ subst (λ (ns : KeyNumbers). FirstPartsAre (HasKey ns) h.value.nested) (sym same) h.known
        | inr are ↦ parts (HasKey numbers) are
      ]

  are_others : FirstPartsAre (IsOther name) h.value.nested
  are_others =
      elim new [
        | inl lacks ↦ parts_also (HasKey numbers) (IsOther name) (others_of numbers name lacks) h.value.nested
            have_numbers
        | inr others ↦ parts (IsOther name) others
      ]

  free : list_any (is_at (key name ∷ [])) (mentions_of_value h.value) ≡ false
  free = value_free name first h.value h.strict first_is.1 are_others

  puts : PutsKeyval h.value name item to
  puts = record {
    made = placed.made;
    by = by;
    is = refl;
    inline = ap body_fact first_is.1;
    free = free;
    utf8 = utf8;
  }

  change : IsChangeOf text_of_value h.value placed.made
  change =
      change_is h.value (put_named name_with 1 item (key name ∷ []) h.value) placed.made by
      (put_named-is name_with 1 item (key name ∷ []) h.value)

  -- what comes in where
  abbrev text_with : List ℕ
  text_with = insert_slice bytes (1 + extent places) (item_text (keyval_text name item_bytes) places None)

  text_is : insert_slice bytes (1 + extent places) (item_text (keyval_text name item_bytes) places None)
      ≡ value_text to
  text_is =
      let same : item_text (keyval_text name item_bytes) places None ≡ placed.made.new =
      ap (λ (l : List ℕ). item_text (keyval_text name l) places None) read.reads.spelled
      ∙ ap (λ (l : List ℕ). item_text l places None) (sym (keyval_is name item)) ∙ sym placed.new in
      ap (λ (l : List ℕ). insert_slice bytes (1 + extent places) l) same
      ∙ text_inserted bytes (value_text to) placed.made.before placed.made.old placed.made.new placed.made.after
      (1 + extent places) (h.read.reads.spelled ∙ change.was) change.is placed.old placed.at

  law : IsGivenValue Strict to × (value_depth to ≡ max (value_depth h.value) (suc (value_depth item)))
  law =
      put_keyval_is_value Strict h.value name item to (record { valid = h.strict; obeys = h.read.obeys })
      (record { valid = read.reads.valid; obeys = read.obeys }) puts

  is_now : (now : List ℕ) → now ≡ text_with → IsTextOfValue now to
  is_now now made =
      in_wide Strict now to (record {
        reads =
            record {
              valid = law.0.valid;
              spelled = made ∙ text_is;
              shallow = omega (arith, law.1, h.read.reads.shallow, low);
            };
        obeys = law.0.obeys;
      })

  -- with the number of entries for the number of the new one
  past : slice_get places (length places) ≡ None
  past = slice_get_past places (length places) (omega arith)

  -- n is the number of entries
  module _ (n : ℕ) (all : n ≡ length places) (text : List ℕ) (text_of_keyval : text ≡ keyval_text name item_bytes) where
    none_at : slice_get places n ≡ None
    none_at = ap (slice_get places) all ∙ past

    made_is : (now : List ℕ) (at : ℕ) → at ≡ 1 + place_of_new n places
        → now ≡ insert_slice bytes at (item_text text places (slice_get places n)) → now ≡ text_with
    made_is now at at_is made =
        let whole : extent (take n places) ≡ extent places =
        ap (λ (m : ℕ). extent (take m places)) all ∙ ap extent (take-length places) in
        let no_gap : gap_before (slice_get places n) ≡ 0 = ap gap_before none_at in
        let end : at ≡ 1 + extent places = omega arith in
        made ∙ ap (λ (m : ℕ). insert_slice bytes m (item_text text places (slice_get places n))) end
        ∙ ap (λ (o : Option EntryPlace). insert_slice bytes (1 + extent places) (item_text text places o)) none_at
        ∙ ap (λ (l : List ℕ). insert_slice bytes (1 + extent places) (item_text l places None)) text_of_keyval

    pub keyval_puts : (now : List ℕ) (at : ℕ) → at ≡ 1 + place_of_new n places
        → now ≡ insert_slice bytes at (item_text text places (slice_get places n))
        → PutsKeyvalText bytes name item_bytes now
    keyval_puts now at at_is made =
        let reads : IsTextOfValue now to = is_now now (made_is now at at_is made) in
        record {
          value = item;
          is = in_wide Strict item_bytes item read;
          puts = record { before = h.value; after = to; read = h.read; reads = reads; made = puts };
        }

    pub keyval_holds : (now : List ℕ) (at : ℕ) (places' : List EntryPlace) (keys' : KeyNumbers) (depth' : ℕ)
        → HasKey keys' name → ((other : List ℕ) → HasKey numbers other → HasKey keys' other)
        → at ≡ 1 + place_of_new n places
        → now ≡ insert_slice bytes at (item_text text places (slice_get places n))
        → places' ≡ with_place n (length text) places (slice_get places n)
        → depth' ≡ max depth (suc (value_depth item)) → HoldsOpen now places' keys' k depth'
    keyval_holds now at places' keys' depth' own more at_is made laid_is deep =
        let long : length text ≡ length (new_text named item) =
        ap (λ (l : List ℕ). length l) text_of_keyval
        ∙ ap (λ (l : List ℕ). length (keyval_text name l)) read.reads.spelled
        ∙ ap (λ (l : List ℕ). length l) (sym (keyval_is name item)) in
        let same : places' ≡ with_place (length places) (length (new_text named item)) places None =
        laid_is ∙ ap (λ (o : Option EntryPlace). with_place n (length text) places o) none_at
        ∙ ap (λ (m : ℕ). with_place n m places None) long
        ∙ ap (λ (m : ℕ). with_place m (length (new_text named item)) places None) all in
        record {
          value = to;
          read = is_now now (made_is now at at_is made);
          strict = law.0.valid;
          bracketed = subst IsBracketed (sym placed.body) tt;
          is = inline_kind ∙ ap (λ (b : Body). fact_kind (body_fact b)) (sym placed.body);
          deep = omega (arith, deep, h.deep, law.1);
          laid = subst (λ (l : List EntryPlace). AreLaid (first_gap to.body) to.nested l) (sym same) placed.laid;
          known = parts_put (HasKey keys') name item h.value placed.made by utf8 own
              (parts_also (HasKey numbers) (HasKey keys') more h.value.nested have_numbers);
        }
