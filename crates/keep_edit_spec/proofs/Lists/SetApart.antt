-- Two sets of one document at places that do not overlap: neither path is a prefix of the other.
--
-- A set replaces the value at its path, which is the one of its number in the list of all values. By the rules nothing
-- outside that value is said at its path or under it. So a value whose path begins with the same path is that value or
-- is nested in it: its number is among theirs (`within_run`, `under_inside`). Nested values are in the text of the
-- value that they are nested in (`entries_inside`). So the place of the one set is within that of the other
-- (`set_within`), and as each takes some bytes, they overlap.
--
-- Theorem: `apart_paths`.
use Rattle.std.proofs.Common.{◌≡◌, ℕ, zero, suc, ◌+◌, ◌≤◌, Bool, true, false, List, [], ◌∷◌, ◌++◌, length, map}
use Rattle.std.proofs.Common.{slice_get, refl, sym, ap, subst, ◌∙◌, arith, Option, Some, None, ◌⊎◌, inl, inr}
use Rattle.std.specs.Prelude.{filter}
use Rattle.std.proofs.lemmas.List.{append-nil}
use Rattle.std.proofs.lemmas.List.Elements.{filter-append}
use Rattle.std.proofs.lemmas.Option.{same_Some}
use Rattle.keep_types.specs.declared.leaf.Profile.{Profile}
use Rattle.keep_types.specs.declared.syntax.Start.{Start}
use Rattle.keep_types.specs.declared.syntax.ValueInfo.{ValueInfo}
use Rattle.keep_syntax.specs.Tree.{Written, Entries, none, entry, Value, Document, named_leaves, opening, closing}
use Rattle.keep_syntax.specs.Tree.{comma_leaves, entries_leaves}
use Rattle.keep_syntax.specs.Numbered as syntax
use Rattle.keep_syntax.specs.Numbered.{width, value_start, name_count, nested_of, rest_of, entries_values}
use Rattle.keep_syntax.proofs.Shared.{width-append}
use Rattle.keep_path.specs.Path.{Part, strip}
use Rattle.keep_meaning.specs.Rules.{ObeysRules}
use Rattle.keep_meaning.specs.Marks.{Mention, below, marks}
use Rattle.keep_meaning.specs.Meaning.{entries_mentions, mentions_in}
use Rattle.keep_meaning.specs.Counts.{is_value}
use Rattle.keep_meaning.proofs.Shared.{valued-below, valued-entries, length-entries_values}
use Rattle.keep_edit_spec.specs.Changed.{Changed, Place}
use Rattle.keep_edit_spec.specs.Values.{replacement}
use Rattle.keep_edit_spec.specs.Laws.{IsEditable}
use Rattle.keep_edit_spec.specs.Refusals.{has_value}
use Rattle.keep_edit_spec.specs.TextChanges.{IsBeside, TextChange, place_of_change}
use Rattle.keep_edit_spec.specs.SetValues.{SetsValue}
use Rattle.keep_edit_spec.proofs.Common.Runs.{AllOf, all_join, all_map, IsDisjoint, none_or_some, strip-append}
use Rattle.keep_edit_spec.proofs.Common.Runs.{strip-sound}
use Rattle.keep_edit_spec.proofs.Common.DoneAtValue.{EachOf}
use Rattle.keep_edit_spec.proofs.Common.FoundValue.{IsFoundIn, Valid_document, found_nested}
use Rattle.keep_edit_spec.proofs.Common.Marks.{rules_of_document}
use Rattle.keep_edit_spec.proofs.Common.ValuesMention.{states_value, value_mentions, length-mentions}
use Rattle.keep_edit_spec.proofs.Remove.RemovePlace.{IsValueAt, value_at_split}
use Rattle.keep_edit_spec.proofs.Set.SetIsLawful.{set_changes, settable}
use Rattle.keep_edit_spec.proofs.Values.ValuePlace.{mention_of_number, set_place, value_of_path}

-- ---- values in a text

abbrev IsInside : ℕ → ℕ → ValueInfo → Type 0
IsInside from to i = (from ≤ i.span.start) × (i.span.end ≤ to)

inside_more : (low from to high : ℕ) (infos : List ValueInfo) → low ≤ from → to ≤ high
    → AllOf (IsInside from to) infos → AllOf (IsInside low high) infos
inside_more low from to high infos e f h =
    all_map (IsInside from to) (IsInside low high) (λ i k. (omega (arith, k.0, e), omega (arith, k.1, f))) infos h

-- the values of entries, and those nested in them, are in the text of the entries
entries_inside : (p : Start) (es : Entries)
    → AllOf (IsInside p.at (p.at + width (entries_leaves es))) (entries_values p es)
entries_inside p none = tt
entries_inside p (entry name body nested after comma rest) =
    let i : Start = nested_of p (value_start p.at name) (name_count name) body in
    let r : Start = rest_of p name body nested after comma in
    let end : ℕ = p.at + width (entries_leaves (entry name body nested after comma rest)) in
    let tail : List Written = entries_leaves rest in
    let whole : end ≡ r.at + width tail =
    omega (
      arith,
      width-append (named_leaves name)
          (opening body ++ (entries_leaves nested ++ (closing body ++ (after ++ (comma_leaves comma ++ tail))))),
      width-append (opening body)
          (entries_leaves nested ++ (closing body ++ (after ++ (comma_leaves comma ++ tail)))),
      width-append (entries_leaves nested) (closing body ++ (after ++ (comma_leaves comma ++ tail))),
      width-append (closing body) (after ++ (comma_leaves comma ++ tail)),
      width-append after (comma_leaves comma ++ tail),
      width-append (comma_leaves comma) tail,
    ) in (
      (omega arith, omega (arith, whole)),
      all_join (IsInside p.at end) (entries_values i nested) (entries_values r rest)
          (inside_more p.at i.at (i.at + width (entries_leaves nested)) end (entries_values i nested) (omega arith)
          (omega (arith, whole)) (entries_inside i nested))
          (inside_more p.at r.at (r.at + width tail) end (entries_values r rest) (omega arith) (omega (arith, whole))
          (entries_inside r rest)),
    )

-- ---- the same number in two lists

all_at : {A : Type 0} (P : A → Type 0) (xs : List A) (n : ℕ) (x : A) → AllOf P xs → slice_get xs n ≡ Some x → P x
all_at P [] n x h e = absurd cc
all_at P (y ∷ xs) zero x h e = subst P (same_Some y x e) h.0
all_at P (y ∷ xs) (suc n) x h e = all_at P xs n x h.1 e

all_filtered : {A : Type 0} (P : A → Type 0) (test : A → Bool) (xs : List A) → AllOf P xs → AllOf P (filter test xs)
all_filtered P test [] h = tt
all_filtered P test (x ∷ xs) h = by (test x) refl (all_filtered P test xs h.1)
  where
    by : (b : Bool) → test x ≡ b → AllOf P (filter test xs) → AllOf P (filter test (x ∷ xs))
    by true e k = rw e (h.0, k)
    by false e k = rw e k

-- The one is outside of a run of the first list, or the other is in the run of the second list at the same numbers.
within_run : {A B : Type 0} (P : A → Type 0) (Q : B → Type 0) (xs run ys : List A) (us now vs : List B) (n : ℕ)
    (x : A) (u : B) → length xs ≡ length us → length run ≡ length now
    → AllOf P xs → AllOf P ys → AllOf Q now
    → slice_get (xs ++ (run ++ ys)) n ≡ Some x → slice_get (us ++ (now ++ vs)) n ≡ Some u → P x ⊎ Q u
within_run P Q [] [] ys [] [] vs n x u k l h g q e f = inl (all_at P ys n x g e)
within_run P Q [] (a ∷ run) ys [] (b ∷ now) vs zero x u k l h g q e f = inr (subst Q (same_Some b u f) q.0)
within_run P Q [] (a ∷ run) ys [] (b ∷ now) vs (suc n) x u k l h g q e f =
    within_run P Q [] run ys [] now vs n x u k (omega (arith, l)) h g q.1 e f
within_run P Q (a ∷ xs) run ys (b ∷ us) now vs zero x u k l h g q e f = inl (subst P (same_Some a x e) h.0)
within_run P Q (a ∷ xs) run ys (b ∷ us) now vs (suc n) x u k l h g q e f =
    within_run P Q xs run ys us now vs n x u (omega (arith, k)) l h.1 g q e f
within_run P Q [] [] ys [] (b ∷ now) vs n x u k l h g q e f = absurd (omega (arith, l))
within_run P Q [] (a ∷ run) ys [] [] vs n x u k l h g q e f = absurd (omega (arith, l))
within_run P Q [] run ys (b ∷ us) now vs n x u k l h g q e f = absurd (omega (arith, k))
within_run P Q (a ∷ xs) run ys [] now vs n x u k l h g q e f = absurd (omega (arith, k))

-- ---- the value that a set replaces

abbrev IsFoundSet : (path : List Part) (value : Value) (s : Document) → Changed Document → Type 0
IsFoundSet path value s = IsFoundIn (replacement value) (Valid_document s) 0 path (mentions_in s) (syntax.values s)

module _ (path : List Part) (value : Value) (s : Document) (c : Changed Document) (h : IsFoundSet path value s c)
    (obeys : ObeysRules (marks (mentions_in s))) where
  abbrev inner : List Mention
  inner = map (below h.mention.path) (entries_mentions 0 h.value.nested)

  abbrev nested_values : List ValueInfo
  nested_values = entries_values (nested_of h.begin h.from h.keys h.value.body) h.value.nested

  -- it is at the end of the path
  named : h.mention.path ≡ path
  named = by h.more refl
    where
      by : (more : List Part) → h.more ≡ more → h.mention.path ≡ path
      by [] e =
          sym (append-nil h.mention.path) ∙ ap (λ (q : List Part). h.mention.path ++ q) (sym e) ∙ sym h.place
      by (p ∷ ps) e =
          let k : None ≡ Some h.done = ap (λ q. replacement value q h.value) (sym e) ∙ h.by in absurd cc

  own_at : IsValueAt path s h.own
  own_at =
      value_at_split path s h.earlier h.mention h.later h.prefix h.own h.after (rules_of_document s obeys) h.mentioned
      named h.tells h.here h.count

  told : value_mentions (mentions_in s)
      ≡ value_mentions h.earlier ++ ((h.mention ∷ value_mentions inner) ++ value_mentions h.further)
  told =
      ap value_mentions (h.mentioned ∙ ap (λ (l : List Mention). h.earlier ++ h.mention ∷ l) h.within_mentioned)
      ∙ filter-append states_value h.earlier (h.mention ∷ (inner ++ h.further))
      ∙ ap (λ (l : List Mention). value_mentions h.earlier ++ l)
      (head h.mention (inner ++ h.further) h.tells
      ∙ ap (λ (l : List Mention). h.mention ∷ l) (filter-append states_value inner h.further))
    where
      head : (m : Mention) (ms : List Mention) → is_value m.kind ≡ true
          → value_mentions (m ∷ ms) ≡ m ∷ value_mentions ms
      head m ms e = rw e refl

  listed : syntax.values s ≡ h.prefix ++ ((h.own ∷ nested_values) ++ h.others)
  listed = h.here ∙ ap (λ (l : List ValueInfo). h.prefix ++ h.own ∷ l) h.within_values

  as_many : length (h.mention ∷ value_mentions inner) ≡ length (h.own ∷ nested_values)
  as_many =
      omega (
        arith,
        length-mentions inner,
        valued-below h.mention.path (entries_mentions 0 h.value.nested),
        valued-entries 0 h.value.nested,
        length-entries_values (nested_of h.begin h.from h.keys h.value.body) h.value.nested,
      )

  inside : AllOf (IsInside h.own.span.start h.own.span.end) (h.own ∷ nested_values)
  inside =
      let i : Start = nested_of h.begin h.from h.keys h.value.body in
      let start : h.own.span.start ≡ h.from = ap (λ (x : ValueInfo). x.span.start) h.stated in
      let end : h.own.span.end ≡ i.at + width (entries_leaves h.value.nested) + width (closing h.value.body) =
      ap (λ (x : ValueInfo). x.span.end) h.stated in (
        (omega arith, omega arith),
        inside_more h.own.span.start i.at (i.at + width (entries_leaves h.value.nested)) h.own.span.end nested_values
            (omega (arith, start)) (omega (arith, end)) (entries_inside i h.value.nested),
      )

  -- a value at the path or under it is the one there, or is nested in it
  under_inside : (m : Mention) (i : ValueInfo) (v : ℕ) (rest : List Part) → m.path ≡ path ++ rest
      → slice_get (value_mentions (mentions_in s)) v ≡ Some m → slice_get (syntax.values s) v ≡ Some i
      → IsInside h.own.span.start h.own.span.end i
  under_inside m i v rest at e f =
      let apart = h.disjoint (rules_of_document s obeys) in
      elim (within_run (IsDisjoint h.mention.path) (IsInside h.own.span.start h.own.span.end)
      (value_mentions h.earlier) (h.mention ∷ value_mentions inner) (value_mentions h.further) h.prefix
      (h.own ∷ nested_values) h.others v m i (omega (arith, length-mentions h.earlier, h.count)) as_many
      (all_filtered (IsDisjoint h.mention.path) states_value h.earlier apart.0)
      (all_filtered (IsDisjoint h.mention.path) states_value h.further apart.1) inside
      (ap (λ (l : List Mention). slice_get l v) (sym told) ∙ e)
      (ap (λ (l : List ValueInfo). slice_get l v) (sym listed) ∙ f)) [
        | inl none_there ↦
            let k : None ≡ Some rest =
            sym none_there ∙ ap (strip h.mention.path) (at ∙ ap (λ (q : List Part). q ++ rest) (sym named))
            ∙ strip-append h.mention.path rest in
            absurd cc
        | inr i_inside ↦ i_inside
      ]

-- ---- places of sets

-- the second place is within the first
abbrev IsWithin : Place → Place → Type 0
IsWithin p q = (p.start ≤ q.start) × (q.end ≤ p.end)

set_within : (profile : Profile) (limit : ℕ) (s : Document) (path : List Part) (value : Value) (c : TextChange)
    (other : List Part) (more : Value) (d : TextChange) (rest : List Part)
    → IsEditable profile limit s → SetsValue profile limit s path value c → SetsValue profile limit s other more d
    → other ≡ path ++ rest → IsWithin (place_of_change c) (place_of_change d)
set_within profile limit s path value c other more d rest editable h g is =
    let ms : List Mention = mentions_in s in
    let has : has_value path ms ≡ true = (settable profile limit path value ms h.allowed).valued in
    let has_other : has_value other ms ≡ true = (settable profile limit other more ms g.allowed).valued in
    let (x, e) = set_changes profile limit s path value editable.obeys h.allowed in
    let found : IsFoundSet path value s x =
    subst (λ (o : Option (Changed Document)). EachOf (IsFoundSet path value s) o) e
    (found_nested (replacement value) path s) in
    let own = own_at path value s x found editable.obeys in
    let (v, i, there) = value_of_path profile other s editable.valid editable.obeys has_other in
    let (m, at, mentioned) = mention_of_number other s v editable.obeys there.number in
    subst (λ (p : Place). IsWithin p (place_of_change d))
    (sym (set_place path value s own.number found.own editable.obeys has own.is own.here) ∙ h.is)
    (subst (λ (q : Place). IsWithin (record { start = found.own.span.start; end = found.own.span.end; new = [] }) q)
    (sym (set_place other more s v i editable.obeys has_other there.number there.info) ∙ g.is)
    (under_inside path value s x found editable.obeys m i v rest (at ∙ is) mentioned there.info))

-- Where two sets replace places that do not overlap, neither path is a prefix of the other.
pub apart_paths : (profile : Profile) (limit : ℕ) (s : Document) (path : List Part) (value : Value) (c : TextChange)
    (other : List Part) (more : Value) (d : TextChange)
    → IsEditable profile limit s → SetsValue profile limit s path value c → SetsValue profile limit s other more d
    → IsBeside c d → (strip path other ≡ None) × (strip other path ≡ None)
apart_paths profile limit s path value c other more d editable h g beside = (
  elim (none_or_some (strip path other)) [
    | inl e ↦ e
    | inr r ↦ absurd (no_second beside (set_within profile limit s path value c other more d r.0 editable h g
        (strip-sound path other r.0 r.1)))
  ],
  elim (none_or_some (strip other path)) [
    | inl e ↦ e
    | inr r ↦ absurd (no_first beside (set_within profile limit s other more d path value c r.0 editable g h
        (strip-sound other path r.0 r.1)))
  ],
)
  where
    no_second : IsBeside c d → IsWithin (place_of_change c) (place_of_change d) → ⊥
    no_second (inl e) w = omega (arith, e, w.0, w.1, g.some)
    no_second (inr e) w = omega (arith, e.0, w.0)

    no_first : IsBeside c d → IsWithin (place_of_change d) (place_of_change c) → ⊥
    no_first (inl e) w = omega (arith, e, w.0, h.some)
    no_first (inr e) w = omega (arith, e.1, w.1, h.some)
