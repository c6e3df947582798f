-- Where a keyval is put into braces that hold a dotted table: after the keyval that continues from it last, which is
-- its number.
--
-- The keyval that is put in comes after the last entry whose key leads past the dots; the code has the number of the
-- last mention of the dotted path by dots. Both are the same entry. The entry's key continues beyond the dots
-- (`longer_by`): it does not end at a prefix of them, as a value would then be on the way (`on_way`). So the last of
-- its stops up to there is a dotted mention of the path (`last_stop`), and what comes after it does not mention the
-- path (`longer_never`, `never_none`). The braces are not empty, since the path is named (`some_nested`).
--
-- Theorem: `after_dotted`.
use Rattle.std.proofs.Common.{◌≡◌, ℕ, ◌+◌, Bool, true, false, List, [], ◌∷◌, ◌++◌, length, map, slice_get, refl, sym}
use Rattle.std.proofs.Common.{ap, subst, ◌∙◌, append_assoc, arith, Option, Some, None, inl, inr}
use Rattle.std.proofs.lemmas.List.{map-append}
use Rattle.keep_types.specs.declared.leaf.Profile.{Profile}
use Rattle.keep_types.specs.declared.syntax.ValueInfo.{ValueInfo}
use Rattle.keep_syntax.specs.Tree.{Name, Entries, none, Value, Document}
use Rattle.keep_syntax.specs.Numbered as syntax
use Rattle.keep_path.specs.Path.{Part, key, index}
use Rattle.keep_meaning.specs.Fact.{Fact, is_value_fact}
use Rattle.keep_meaning.specs.Marks.{MentionKind, Mention, value, dotted, below}
use Rattle.keep_meaning.specs.Meaning.{keys_of, body_fact, valued_mentions, keyed_mentions, entry_mentions}
use Rattle.keep_meaning.specs.Meaning.{entries_mentions, step, mentions_in}
use Rattle.keep_meaning.specs.Counts.{numbered_in}
use Rattle.keep_meaning.specs.Nodes.{is_dotted, numbered_at, last_number, value_number}
use Rattle.keep_meaning.proofs.Shared.{valued, valued-append, valued-below}
use Rattle.keep_edit_spec.specs.Look.{keys_in}
use Rattle.keep_edit_spec.specs.Values.{put_after, put_named}
use Rattle.keep_edit_spec.specs.Edits.{name_with}
use Rattle.keep_edit_spec.specs.Refusals.{has_value}
use Rattle.keep_edit_spec.proofs.Common.Runs.{AllOf, SomeOf, same_path-sound}
use Rattle.keep_edit_spec.proofs.Common.ValueThere.{some_cases}
use Rattle.keep_edit_spec.proofs.Common.ValueNumber.{NoneAt, number_of_last}
use Rattle.keep_edit_spec.proofs.Common.SetDocument.{cancel}
use Rattle.keep_edit_spec.proofs.Common.Stops.{stops, keyed_stops}
use Rattle.keep_edit_spec.proofs.Insert.Gives.{IsNamedAt, never_named, named_beyond}
use Rattle.keep_edit_spec.proofs.Insert.PutValue.{LeadsPast, some_after}
use Rattle.keep_edit_spec.proofs.Insert.BracesPlace.{is_inline}
use Rattle.keep_edit_spec.proofs.Insert.BracesStops.{IsKeySplit, key_split, past_sound}
use Rattle.keep_edit_spec.proofs.Insert.NamedEntries.{SomeEntry, EachEntry, some_both, IsNear, at_or_under, further}
use Rattle.keep_edit_spec.proofs.Insert.NamedEntries.{entries_near, IsStated, entries_stated, IsLonger, never_index}
use Rattle.keep_edit_spec.proofs.Insert.NamedEntries.{past_entry}
use Rattle.keep_edit_spec.proofs.Insert.ItemCount.{Longer, longer_keyed}
use Rattle.keep_types.proofs.Shared.{one_of_two}
use Rattle.keep_edit_spec.proofs.Insert.EntryPlaces.{own_of}
use Rattle.keep_edit_spec.proofs.Insert.EntryThere.{infos_before, mentioned_before, here_there, mentioned_there}
use Rattle.keep_edit_spec.proofs.Insert.EntryThere.{count_there}
use Rattle.keep_edit_spec.proofs.Insert.BracePlaces.{IsPutAfter, IsKeyvalFound, rest, begin, RowOutcome, IsAfterKeyval}
use Rattle.keep_edit_spec.proofs.Insert.BracePlaces.{Placed, keyval_placed}
use Rattle.keep_edit_spec.proofs.Insert.HolderThere.{never_some}

-- ---- the last stop of a dotted key

record IsLastStop (prefixes : List (List ℕ)) : Type 0 where
  first : List Mention
  whole : stops prefixes ≡ first ++ record { path = map key prefixes; kind = dotted } ∷ []
  none : valued first ≡ 0

last_stop : (f : List ℕ) (fs : List (List ℕ)) → IsLastStop (f ∷ fs)
last_stop f [] = record { first = []; whole = refl; none = refl }
last_stop f (g ∷ gs) =
    let h = last_stop g gs in
    let top : Mention = record { path = key f ∷ []; kind = dotted } in
    record {
      first = top ∷ map (below (key f ∷ [])) h.first;
      whole = ap (λ (l : List Mention). top ∷ l)
          (ap (map (below (key f ∷ []))) h.whole
          ∙ map-append (below (key f ∷ [])) h.first (record { path = map key (g ∷ gs); kind = dotted } ∷ []));
      none = omega (arith, valued-below (key f ∷ []) h.first, h.none);
    }

-- ---- nothing names the path

never_none : (is : MentionKind → Bool) (q : List Part) (ms : List Mention) → (SomeOf (IsNamedAt q) ms → ⊥)
    → AllOf (NoneAt is q) ms
never_none is q [] h = tt
never_none is q (m ∷ ms) h = ((λ e. absurd (h (inl (same_path-sound m.path q e)))), never_none is q ms (λ s. h (inr s)))

longer_never : (p : List Part) (ms : List Mention) → AllOf Longer ms → SomeOf (IsNamedAt p) (map (below p) ms) → ⊥
longer_never p [] h s = s
longer_never p (m ∷ ms) h (inl e) = h.0 (cancel p m.path [] (e ∙ sym (append_nil p)))
  where
    append_nil : (q : List Part) → q ++ [] ≡ q
    append_nil [] = refl
    append_nil (x ∷ q) = ap (λ (l : List Part). x ∷ l) (append_nil q)
longer_never p (m ∷ ms) h (inr s) = longer_never p ms h.1 s

-- ---- the keyval that continues from the table

module _ (profile : Profile) (s : Document) (path at : List Part) (d : Part) (ds : List Part) (new : Value) (k : List ℕ)
    (ks : List (List ℕ)) (h : IsKeyvalFound profile s path at (d ∷ ds) new k ks) where
  abbrev dots : List Part
  dots = d ∷ ds

  abbrev v : Value
  v = h.there.found.value

  abbrev T : ℕ → Option Name → Type 0
  T = RowOutcome profile s path at (d ∷ ds) new k ks h

  abbrev named : Option Name
  named = Some (name_with (keys_in (rest profile s path at (d ∷ ds) new k ks h)))

  -- a value of an entry is one in the document
  value_there : (b : Part) (bs : List Part) → IsStated (b ∷ bs) (entries_mentions 0 v.nested)
      → has_value (at ++ b ∷ bs) (mentions_in s) ≡ true
  value_there b bs t =
      ap (λ (o : Option Fact). elim o [ None ↦ false | Some f ↦ is_value_fact f ]) (h.there.facts (b ∷ bs) ∙ t.is)
      ∙ t.valued

  on_way : (b : Part) (bs r : List Part) → IsStated (b ∷ bs) (entries_mentions 0 v.nested) → dots ≡ (b ∷ bs) ++ r → ⊥
  on_way b bs r t e = let yes = value_there b bs t in let never = h.place.none b bs r e in absurd cc

  longer_by : (m : ℕ) (name : Option Name) → IsNear dots m name → T m name → IsLonger dots m name
  longer_by m name (further b bs e) t = (b, bs, e)
  longer_by m None (at_or_under r e) t = absurd (on_way (index m) [] r t e)
  longer_by m (Some name) (at_or_under r e) t = absurd (on_way _ _ r t e)

  module _ (b : IsAfterKeyval profile s path at (d ∷ ds) new k ks h) where
    -- nothing after it names the table
    none_after : SomeOf (IsNamedAt dots) (entries_mentions (b.entry.number + 1) b.entry.rest) → ⊥
    none_after x =
        let stated : EachEntry T (b.entry.number + 1) b.entry.rest =
        b.entry.each (entries_stated 0 v.nested h.there.rules) in
        let near : SomeEntry (IsNear dots) (b.entry.number + 1) b.entry.rest =
        entries_near dots (b.entry.number + 1) b.entry.rest x in
        let past : LeadsPast dots b.entry.rest =
        past_entry d ds (b.entry.number + 1) b.entry.rest
        (some_both (IsNear dots) T (IsLonger dots) longer_by (b.entry.number + 1) b.entry.rest near stated) in
        never_some (put_after dots named new b.entry.rest) b.last (some_after dots named new b.entry.rest past)

    abbrev mentions_first : List Mention
    mentions_first =
        mentioned_before profile is_inline (put_named name_with (length (map key (k ∷ ks))) new)
        (dots ++ map key (k ∷ ks)) at s h.changed h.there T b.entry

    abbrev infos : List ValueInfo
    infos = infos_before profile is_inline (put_named name_with (length (map key (k ∷ ks))) new)
        (dots ++ map key (k ∷ ks)) at s h.changed h.there T b.entry

    abbrev tail : List Mention
    tail = map (below at) (entries_mentions (b.entry.number + 1) b.entry.rest) ++ h.there.found.further

    none_tail : (deeper : List Mention) → (SomeOf (IsNamedAt dots) deeper → ⊥)
        → SomeOf (IsNamedAt (at ++ dots)) (map (below at) deeper ++ tail) → ⊥
    none_tail deeper never x = elim (some_cases (IsNamedAt (at ++ dots)) (map (below at) deeper) tail x) [
      | inl y ↦ never (named_beyond at dots deeper y)
      | inr y ↦
          (elim (some_cases (IsNamedAt (at ++ dots))
          (map (below at) (entries_mentions (b.entry.number + 1) b.entry.rest)) h.there.found.further y) [
            | inl z ↦ none_after (named_beyond at dots (entries_mentions (b.entry.number + 1) b.entry.rest) z)
            | inr z ↦ never_named at dots h.there.found.further h.there.disjoint_after z
          ])
    ]

    -- the number that is known of the table
    by_keys : (name : Name) → b.entry.name ≡ Some name → IsKeySplit (keys_of name.key) dots
        → last_number is_dotted value_number (numbered_at (at ++ dots) (numbered_in s)) ≡ Some (length infos)
    by_keys name e split = by split.prefixes split.path split.whole
      where
        vs : List Mention
        vs = valued_mentions (value (body_fact b.entry.body)) (entries_mentions 0 b.entry.nested)

        by : (prefixes : List (List ℕ)) → dots ≡ map key prefixes
            → keys_of name.key ≡ prefixes ++ split.next ∷ split.more
            → last_number is_dotted value_number (numbered_at (at ++ dots) (numbered_in s)) ≡ Some (length infos)
        by [] p w = absurd cc
        by (f ∷ fs) p w =
            let t = last_stop f fs in
            let deeper : List Mention = map (below (map key (f ∷ fs))) (keyed_mentions (split.next ∷ split.more) vs) in
            let m : Mention = record { path = map key (f ∷ fs); kind = dotted } in
            let own : entry_mentions b.entry.number b.entry.name (body_fact b.entry.body)
            (entries_mentions 0 b.entry.nested) ≡ t.first ++ m ∷ deeper =
            ap (λ (o : Option Name).
            entry_mentions b.entry.number o (body_fact b.entry.body) (entries_mentions 0 b.entry.nested)) e
            ∙ ap (λ (l : List (List ℕ)). keyed_mentions l vs) w
            ∙ keyed_stops (f ∷ fs) split.next split.more vs
            ∙ ap (λ (l : List Mention). l ++ deeper) t.whole
            ∙ append_assoc t.first (m ∷ []) deeper in
            let earlier : List Mention = mentions_first ++ map (below at) t.first in
            let mentioned : mentions_in s ≡ earlier ++ below at m ∷ (map (below at) deeper ++ tail) =
            mentioned_there profile is_inline (put_named name_with (length (map key (k ∷ ks))) new)
            (dots ++ map key (k ∷ ks)) at s h.changed h.there T b.entry
            ∙ ap (λ (l : List Mention). mentions_first ++ (map (below at) l ++ tail)) own
            ∙ ap (λ (l : List Mention). mentions_first ++ (l ++ tail)) (map-append (below at) t.first (m ∷ deeper))
            ∙ regroup mentions_first (map (below at) t.first) (map (below at) deeper) tail (below at m) in
            let never : SomeOf (IsNamedAt dots) deeper → ⊥ = λ x.
            longer_never (map key (f ∷ fs)) (keyed_mentions (split.next ∷ split.more) vs)
            (longer_keyed split.next split.more vs) (subst (λ (q : List Part). SomeOf (IsNamedAt q) deeper) p x) in
            let few : valued earlier ≡ length infos =
            omega (
              arith,
              valued-append mentions_first (map (below at) t.first),
              valued-below at t.first,
              t.none,
              count_there profile is_inline (put_named name_with (length (map key (k ∷ ks))) new)
                  (dots ++ map key (k ∷ ks)) at s h.changed h.there T b.entry,
            ) in
            number_of_last is_dotted (at ++ dots) s earlier (below at m) (map (below at) deeper ++ tail) mentioned
            (ap (λ (q : List Part). at ++ q) (sym p)) refl
            (never_none is_dotted (at ++ dots) (map (below at) deeper ++ tail) (none_tail deeper never))
            ∙ ap Some few
          where
            regroup : (a b c d : List Mention) (m : Mention) → a ++ ((b ++ m ∷ c) ++ d) ≡ (a ++ b) ++ m ∷ (c ++ d)
            regroup a b c d m = simp append_assoc refl

    number_is : last_number is_dotted value_number (numbered_at (at ++ dots) (numbered_in s)) ≡ Some (length infos)
    number_is = by b.entry.name refl (past_sound d ds b.entry.name b.goes)
      where
        by : (name : Option Name) → b.entry.name ≡ name
            → (q : Part) × (qs : List Part) × (step 0 b.entry.name ≡ dots ++ q ∷ qs)
            → last_number is_dotted value_number (numbered_at (at ++ dots) (numbered_in s)) ≡ Some (length infos)
        by None e w = absurd (never_index 0 d ds w.0 w.1 (ap (step 0) (sym e) ∙ w.2))
        by (Some name) e w = by_keys name e (key_split (keys_of name.key) dots w.0 w.1 (ap (step 0) (sym e) ∙ w.2))

  -- the braces are not empty
  some_nested : v.nested ≡ none → ⊥
  some_nested e =
      let run : List Mention = valued_mentions h.there.found.mention.kind (entries_mentions 0 v.nested) in
      elim (some_cases (IsNamedAt (at ++ dots)) h.there.found.earlier (map (below at) run ++ h.there.found.further)
      (subst (SomeOf (IsNamedAt (at ++ dots))) h.there.whole h.place.named)) [
        | inl x ↦ never_named at dots h.there.found.earlier h.there.disjoint_before x
        | inr x ↦ (elim (some_cases (IsNamedAt (at ++ dots)) (map (below at) run) h.there.found.further x) [
          | inl y ↦
              never (subst (λ (es : Entries).
              SomeOf (IsNamedAt dots) (valued_mentions h.there.found.mention.kind (entries_mentions 0 es))) e
              (named_beyond at dots run y))
          | inr y ↦ never_named at dots h.there.found.further h.there.disjoint_after y
        ])
      ]
    where
      never : SomeOf (IsNamedAt dots) (record { path = []; kind = h.there.found.mention.kind } ∷ []) → ⊥
      never (inl x) = absurd cc
      never (inr x) = x

  -- After the keyval of the table's number.
  pub after_dotted : (w : ℕ) → last_number is_dotted value_number (numbered_at (at ++ dots) (numbered_in s)) ≡ Some w
      → IsPutAfter path s new (keys_in (dots ++ map key (k ∷ ks))) w
  after_dotted w number = by (keyval_placed profile s path at (d ∷ ds) new k ks h)
    where
      by : Placed profile s path at (d ∷ ds) new k ks h → IsPutAfter path s new (keys_in (dots ++ map key (k ∷ ks))) w
      by (inl x) = absurd (some_nested x.0)
      by (inr b) =
          let same : w ≡ length (infos b) =
          one_of_two (last_number is_dotted value_number (numbered_at (at ++ dots) (numbered_in s))) w
          (length (infos b)) number (number_is b) in
          record {
            info = own_of T 0 (begin profile s path at (d ∷ ds) new k ks h) v.nested b.entry;
            here = ap (slice_get (syntax.values s)) same
                ∙ here_there profile is_inline (put_named name_with (length (map key (k ∷ ks))) new)
                (dots ++ map key (k ∷ ks)) at s h.changed h.there T b.entry;
            placed = b.is;
          }
