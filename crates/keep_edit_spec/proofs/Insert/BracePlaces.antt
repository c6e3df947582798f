-- Where a keyval is put into braces: after the last keyval that goes past the dots, or into empty braces.
--
-- That the insert is done at the braces is known (`keyval_found`): the holder is reached by keys alone from the value
-- at `at`, the new path is free, and so `put_named` acts there. Here the place is found. If the braces are empty, it is
-- after the opening brace; else it is after an entry of them (`by_after`), the last one whose key goes past the dots.
-- `by_parts` is this split. The place is computed from the stored value of the braces or of that entry. What follows is
-- a byte of ASCII or nothing, so the place is between characters (`put_low`).
--
-- Theorems: `keyval_found`: the insert is done at these braces; `keyval_placed`: where it is done.
use Rattle.std.proofs.Common.{◌≡◌, ℕ, suc, ◌+◌, ◌-◌, true, false, List, [], ◌∷◌, ◌++◌, length, map, take, slice_get}
use Rattle.std.proofs.Common.{refl, sym, ap, subst, ◌∙◌, append_assoc, length-append, arith, Option, Some, None, ◌⊎◌}
use Rattle.std.proofs.Common.{inl, inr}
use Rattle.std.proofs.lemmas.Option.{same_Some}
use Rattle.std.specs.Prelude.{codes, IsUtf8}
use Rattle.std.specs.List.{AllByRecursion, list_any}
use Rattle.std.proofs.lemmas.List.Elements.{filter_map-append}
use Rattle.keep_types.specs.declared.leaf.Profile.{Profile}
use Rattle.keep_types.specs.declared.leaf.Profile.TheVariants.{Wide}
use Rattle.keep_types.specs.declared.syntax.Start.{Start}
use Rattle.keep_types.specs.declared.syntax.ValueInfo.{ValueInfo}
use Rattle.keep_syntax.specs.Tree.{Name, named_leaves, Body, scalar, array, inline, Entries, none, entry, Value}
use Rattle.keep_syntax.specs.Tree.{Document, text_of}
use Rattle.keep_syntax.specs.Grammar.{IsValue, IsBody, AreEntries, in_inline}
use Rattle.keep_syntax.specs.declared.info.Brackets.TheVariants as brackets
use Rattle.keep_syntax.proofs.Shared.{gap_blank, allowed_value}
use Rattle.keep_token.specs.Pieces.{first}
use Rattle.keep_syntax.specs.Numbered as syntax
use Rattle.keep_syntax.specs.Numbered.{nested_of}
use Rattle.keep_path.specs.Path.{Part, key}
use Rattle.keep_meaning.specs.Marks.{Mention}
use Rattle.keep_meaning.specs.Meaning.{entries_mentions, step, lines, mentions_in}
use Rattle.keep_meaning.specs.Nodes.{is_at, is_node}
use Rattle.keep_edit_spec.specs.Look.{holder, item_number, is_table, keys_in, key_text}
use Rattle.keep_edit_spec.specs.Changed.{Changed}
use Rattle.keep_edit_spec.specs.Values.{put_after, put_named, bracketed_change, text_of_value, leads_past}
use Rattle.keep_edit_spec.specs.Edits.{insert, change, nested, name_with}
use Rattle.keep_edit_spec.specs.Insertion.{put_in, name_of, after_entry, in_empty, keyed_text}
use Rattle.keep_edit_spec.specs.Laws.{IsEditable, IsGivenValue}
use Rattle.keep_edit_spec.specs.Refusals.{refusal, has_value}
use Rattle.keep_edit_spec.proofs.Common.Runs.{AllOf, SomeOf, all_right, Rules, IsDisjoint}
use Rattle.keep_edit_spec.proofs.Common.SetLaw.{IsAloneAt}
use Rattle.keep_edit_spec.proofs.Common.Marks.{rules_of_document}
use Rattle.keep_edit_spec.proofs.Common.NewLines.{IsKeyText}
use Rattle.keep_edit_spec.proofs.Common.InsertLaw.{fresh_disjoint}
use Rattle.keep_edit_spec.proofs.Common.ValueThere.{alone_of_has, fact_of_has}
use Rattle.keep_edit_spec.proofs.Rename.KeyTexts.{key_texts}
use Rattle.keep_edit_spec.proofs.Insert.DoneThere.{IsDoneThere}
use Rattle.keep_edit_spec.proofs.Insert.LinesNamed.{named_of}
use Rattle.keep_edit_spec.proofs.Insert.NewPath.{IsNewPath, new_path}
use Rattle.keep_edit_spec.proofs.Insert.InsertWhole.{suits_there, has_lines}
use Rattle.keep_edit_spec.proofs.Insert.InsertBraces.{no_lines, change_braces}
use Rattle.keep_edit_spec.proofs.Insert.ItemThere.{never_whole}
use Rattle.keep_edit_spec.proofs.Insert.BracesPlace.{is_inline, entries_inline, take_prefix, IsBracesPlace}
use Rattle.keep_edit_spec.proofs.Insert.BracesPlace.{braces_there}
use Rattle.keep_edit_spec.proofs.Insert.BracesStops.{rest_name, rest_keys}
use Rattle.keep_edit_spec.proofs.Insert.NamedEntries.{IsStated}
use Rattle.keep_edit_spec.proofs.Insert.NoLines.{value_no_lines}
use Rattle.keep_edit_spec.proofs.Insert.FoundThere.{TakesNothing, IsFoundThere, found_there, put_place}
use Rattle.keep_edit_spec.proofs.Insert.EntryPlaces.{IsEntryAt, own_of, IsAfterEntry, after_at}
use Rattle.keep_edit_spec.proofs.Insert.EntryEdges.{gap_low, back_low, low_put}
use Rattle.keep_edit_spec.proofs.Insert.LineBefore.{IsLowPlace}
use Rattle.keep_edit_spec.proofs.Remove.RemoveLinePlace.{is_high}
use Rattle.keep_edit_spec.proofs.Insert.EntryThere.{first_in}
use Rattle.keep_edit_spec.proofs.Insert.ItemPlaces.{bracketed_nothing, after_nothing, Nothing, of_some, within_is}

named_nothing : (name : List (List ℕ) → Name) (rest : ℕ) (new : Value) → TakesNothing (put_named name rest new)
named_nothing name rest new more v d e =
    of_some Nothing (put_named name rest new more v) d e
    (bracketed_nothing (Some (name (keys_in more))) new
    (put_after (take (length more - rest) more) (Some (name (keys_in more))) new) v.body v.nested
    (λ es. after_nothing (take (length more - rest) more) (Some (name (keys_in more))) new es))

-- keys of which there are some have a name
name_is : (xs : List (List ℕ)) (k : List ℕ) (ks : List (List ℕ))
    → name_of (xs ++ k ∷ ks) ≡ Some (name_with (xs ++ k ∷ ks))
name_is [] k ks = refl
name_is (x ∷ xs) k ks = refl

-- after the value with that number
pub record IsPutAfter (path : List Part) (s : Document) (new : Value) (keys : List (List ℕ)) (w : ℕ) : Type 0 where
  pub info : ValueInfo
  pub here : slice_get (syntax.values s) w ≡ Some info
  pub placed : IsLowPlace s (insert path new) (after_entry info keys new)

-- ---- what is done

-- the keyval is put into the braces at `at`, with the keys from there on
pub record IsKeyvalFound (profile : Profile) (s : Document) (path at dots : List Part) (new : Value) (k : List ℕ)
    (ks : List (List ℕ)) : Type 0 where
  pub changed : Changed Document
  pub is : change s (insert path new) ≡ Some changed
  pub place : IsBracesPlace s at dots k
  pub whole : path ≡ at ++ (dots ++ map key (k ∷ ks))
  pub there : IsFoundThere profile is_inline (put_named name_with (length (map key (k ∷ ks))) new)
      (dots ++ map key (k ∷ ks)) at s changed

module _ (profile : Profile) (limit : ℕ) (s : Document) (path : List Part) (new : Value)
    (editable : IsEditable profile limit s) (given : IsGivenValue Wide new)
    (utf8 : AllByRecursion IsUtf8 (keys_in path))
    (no_item : item_number path (mentions_in s) ≡ None) (allowed : refusal profile limit s (insert path new) ≡ None)
    (at dots : List Part) (whole : holder path (mentions_in s) ≡ at ++ dots)
    (valued : has_value at (mentions_in s) ≡ true)
    (free : (b : Part) (bs r : List Part) → dots ≡ (b ∷ bs) ++ r
    → has_value (at ++ b ∷ bs) (mentions_in s) ≡ false) where
  abbrev ms : List Mention
  ms = mentions_in s

  rules : Rules ms
  rules = rules_of_document s editable.obeys

  alone : SomeOf (IsAloneAt at) ms
  alone = alone_of_has at ms valued

  pub fresh_path : IsNewPath path ms
  fresh_path = new_path profile limit ms path new no_item allowed

  named_there : list_any (is_at (at ++ dots)) ms ≡ true
  named_there = by at refl (subst (λ (x : List Part). is_node x ms ≡ true) whole fresh_path.node)
    where
      by : (x : List Part) → at ≡ x → is_node (x ++ dots) ms ≡ true → list_any (is_at (at ++ dots)) ms ≡ true
      by [] e node = absurd (never_whole s (subst (λ (x : List Part). SomeOf (IsAloneAt x) ms) e alone))
      by (p ∷ ps) e node = ap (λ (x : List Part). list_any (is_at (x ++ dots)) ms) e ∙ node

  there : IsBracesPlace s at dots fresh_path.first
  there =
      let (f, e, is) = fact_of_has at ms valued in
      record {
        fact = f;
        here = e;
        valued = is;
        none = free;
        fresh = subst (λ (x : List Part). AllOf (IsDisjoint (x ++ key fresh_path.first ∷ [])) ms) whole
            (fresh_disjoint (holder path ms ++ key fresh_path.first ∷ []) (lines s)
            (holder path ms, fresh_path.first, refl) fresh_path.fresh);
        table = subst (λ (x : List Part). is_table x ms ≡ true) whole fresh_path.table;
        named = named_of (at ++ dots) ms named_there;
      }

  pub keyval_found : IsKeyvalFound profile s path at dots new fresh_path.first fresh_path.more
  keyval_found =
      let k : List ℕ = fresh_path.first in
      let ks : List (List ℕ) = fresh_path.more in
      let rest : List Part = dots ++ map key (k ∷ ks) in
      let path_is : path ≡ at ++ rest =
      fresh_path.whole ∙ ap (λ (x : List Part). x ++ map key (k ∷ ks)) whole
      ∙ append_assoc at dots (map key (k ∷ ks)) in
      let texts : AllOf (IsKeyText profile) (keys_in path) = key_texts profile (keys_in path) utf8 in
      let mine : AllOf (IsKeyText profile) (keys_in rest) =
      all_right (IsKeyText profile) (keys_in at) (keys_in rest)
      (subst (AllOf (IsKeyText profile)) (ap keys_in path_is ∙ filter_map-append key_text at rest) texts) in
      let valid : IsValue profile new =
      allowed_value profile new given.valid (suits_there profile limit s path new no_item allowed) in
      let d : IsDoneThere profile is_inline (put_named name_with (length (map key (k ∷ ks))) new) rest at s =
      braces_there profile s at dots k ks there new editable.valid rules (rest_name profile dots k ks mine) valid in
      let lines : has_lines s (holder path ms) ≡ false =
      ap (has_lines s) whole ∙ value_no_lines s at dots rules alone in
      let is : change s (insert path new) ≡ Some d.changed =
      change_braces s path new no_item (no_lines s (holder path ms) lines)
      ∙ ap (λ (l : List Part). nested (put_named name_with (length l) new) path s) fresh_path.rest
      ∙ ap (λ (x : List Part). nested (put_named name_with (length (map key (k ∷ ks))) new) x s) path_is ∙ d.is in
      record {
        changed = d.changed;
        is = is;
        place = there;
        whole = path_is;
        there = found_there profile is_inline (put_named name_with (length (map key (k ∷ ks))) new) rest at s
            editable.valid rules
            (named_nothing name_with (length (map key (k ∷ ks))) new) d.changed d.is d.ended_is;
      }

-- ---- where in the braces

module _ (profile : Profile) (s : Document) (path at dots : List Part) (new : Value) (k : List ℕ) (ks : List (List ℕ))
    (h : IsKeyvalFound profile s path at dots new k ks) where
  abbrev keys : List Part
  keys = map key (k ∷ ks)

  abbrev pub rest : List Part
  rest = dots ++ map key (k ∷ ks)

  abbrev c : Changed Document
  c = h.changed

  abbrev v : Value
  v = h.there.found.value

  abbrev pub begin : Start
  begin = first_in profile is_inline (put_named name_with (length (map key (k ∷ ks))) new)
      (dots ++ map key (k ∷ ks)) at s h.changed h.there

  abbrev named : Option Name
  named = Some (name_with (keys_in rest))

  -- the entries of the braces have values of their own
  abbrev pub RowOutcome : ℕ → Option Name → Type 0
  RowOutcome m name = IsStated (step m name) (entries_mentions 0 h.there.found.value.nested)

  abbrev put : Entries → Option (Changed Entries)
  put es = put_after (take (length rest - length keys) rest) named new es

  pub record IsAfterKeyval : Type 0 where
    pub entry : IsEntryAt RowOutcome 0 begin v.nested
    pub goes : leads_past dots entry.name ≡ true
    pub last : put_after dots named new entry.rest ≡ None
    pub is : IsLowPlace s (insert path new) (after_entry (own_of RowOutcome 0 begin v.nested entry) (keys_in rest) new)

  are : AreEntries profile in_inline v.nested
  are = entries_inline profile v h.there.fit h.there.valid

  text_is : keyed_text (keys_in rest) new ≡ text_of (named_leaves named) ++ text_of_value new
  text_is =
      let e : name_of (keys_in rest) ≡ named =
      ap name_of (rest_keys dots k ks) ∙ name_is (keys_in dots) k ks
      ∙ ap (λ (l : List (List ℕ)). Some (name_with l)) (sym (rest_keys dots k ks)) in
      ap (λ (o : Option Name). text_of (named_leaves o) ++ text_of_value new) e

  -- bytes are put in there
  put_low : (at : ℕ) (fresh : List ℕ) → length c.before ≡ at → c.new ≡ fresh → is_high (first c.after) ≡ false
      → IsLowPlace s (insert path new) (put_in at fresh)
  put_low at fresh start e low =
      let nothing : c.old ≡ [] = h.there.found.old ∙ h.there.nothing in
      low_put s (insert path new) c (put_in at fresh) h.is nothing (put_place c at fresh nothing start e) low

  -- into empty braces, or after a keyval
  abbrev pub Placed : Type 0
  Placed =
      ((v.nested ≡ none) × IsLowPlace s (insert path new) (in_empty h.there.found.own (keys_in rest) new))
      ⊎ IsAfterKeyval

  by_after : (d : Changed Entries) → put_after dots named new v.nested ≡ Some d
      → length c.before ≡ begin.at + length d.before → c.new ≡ d.new
      → c.after ≡ d.after ++ (codes "}" ++ h.there.found.beyond) → Placed
  by_after d e start fresh more =
      let b : IsAfterEntry RowOutcome dots named new 0 begin v.nested d =
      of_some (IsAfterEntry RowOutcome dots named new 0 begin v.nested) (put_after dots named new v.nested) d e
      (after_at RowOutcome dots named new 0 begin v.nested) in
      inr (record {
        entry = b.entry;
        goes = b.goes;
        last = b.last;
        is = put_low (own_of RowOutcome 0 begin v.nested b.entry).span.end (codes ", " ++ keyed_text (keys_in rest) new)
            (omega (arith, start, b.end))
            (fresh ∙ b.given ∙ ap (λ (t : List ℕ). codes ", " ++ t) (sym text_is))
            (ap (λ (t : List ℕ). is_high (first t))
            (more ∙ ap (λ (t : List ℕ). t ++ (codes "}" ++ h.there.found.beyond)) b.after)
            ∙ back_low profile brackets.Inline b.entry.after b.entry.comma b.entry.rest (codes "}"
            ++ h.there.found.beyond) (b.entry.valid profile in_inline are).3 (b.entry.valid profile in_inline are).5
            refl);
      })

  by_parts : (b : Body) (es : Entries) → v.body ≡ b → v.nested ≡ es → is_inline b ≡ true
      → bracketed_change named new put b es ≡ Some h.there.found.done → Placed
  by_parts (scalar w) es eb ei fit e = absurd cc
  by_parts (array g) es eb ei fit e = absurd cc
  by_parts (inline g) none eb ei fit e =
      let j = same_Some _ h.there.found.done e in
      let before : h.there.found.done.before ≡ codes "{" = sym (ap (λ (x : Changed Value). x.before) j) in
      inl (
        ei,
        put_low (suc h.there.found.own.span.start) (keyed_text (keys_in rest) new)
            (omega (arith, h.there.found.start, ap (λ (t : List ℕ). length t) before))
            (h.there.found.new ∙ sym (ap (λ (x : Changed Value). x.new) j) ∙ sym text_is)
            (ap (λ (t : List ℕ). is_high (first t))
            (h.there.found.text_after
            ∙ ap (λ (t : List ℕ). t ++ h.there.found.beyond) (sym (ap (λ (x : Changed Value). x.after) j))
            ∙ append_assoc (text_of g) (codes "}") h.there.found.beyond)
            ∙ gap_low g (codes "}" ++ h.there.found.beyond)
            (gap_blank profile brackets.Inline g (subst (IsBody profile) eb h.there.valid.body)) refl),
      )
  by_parts (inline g) (entry name body nested after comma more) eb ei fit e =
      let es : Entries = entry name body nested after comma more in
      let w = within_is (λ xs. record { body = inline g; nested = xs }) (codes "{" ++ text_of g) (codes "}") (put es)
      h.there.found.done e in
      let at : h.there.found.from + length (codes "{" ++ text_of g) ≡ begin.at =
      omega (
        arith,
        ap (λ (x : Body). (nested_of h.there.found.begin h.there.found.from h.there.found.keys x).at) eb,
        length-append (codes "{") (text_of g),
      ) in
      let begins : h.there.found.own.span.start ≡ h.there.found.from =
      ap (λ (i : ValueInfo). i.span.start) h.there.found.stated in
      let start : length c.before ≡ begin.at + length w.inner.before =
      omega (
        arith,
        h.there.found.start,
        begins,
        ap (λ (t : List ℕ). length t) w.before,
        length-append (codes "{" ++ text_of g) w.inner.before,
        at,
      ) in
      by_after w.inner (ap (λ (x : List Part). put_after x named new v.nested) (sym (take_prefix dots keys)) ∙ ap put ei
      ∙ w.is) start (h.there.found.new ∙ w.new)
      (h.there.found.text_after ∙ ap (λ (t : List ℕ). t ++ h.there.found.beyond) w.after
      ∙ append_assoc w.inner.after (codes "}") h.there.found.beyond)

  pub keyval_placed : Placed
  keyval_placed = by_parts v.body v.nested refl refl h.there.fit h.there.by
