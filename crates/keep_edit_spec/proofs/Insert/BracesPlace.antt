-- The braces that take a new keyval: which they are, and that it fits in them.
--
-- `IsBracesPlace` says what is known of the place: a value is at `at`, dots lead on from it to a table, and the new
-- keys are free. From it comes all that `done_there` asks for. The value is an inline table: a table by its fact, if
-- the dots are none, else a value with keys inside (`table_body`, `place_body`). In it the search finds nothing deeper,
-- as no value is between `at` and the table. And a keyval can be put there: it is valid, and leads on from an entry
-- with those dots (`valid_by`, `put_by`).
--
-- Theorem: `braces_there`: the keyval is put into these braces, with all that holds of the change.
use Rattle.std.proofs.Common.{◌≡◌, ℕ, ◌-◌, Bool, true, false, not, List, [], ◌∷◌, ◌++◌, length, map, take, refl, sym}
use Rattle.std.proofs.Common.{ap, subst, ◌∙◌, append_assoc, length-append, arith, Option, Some, None, ◌⊎◌, inl, inr}
use Rattle.std.specs.List.{filter_map}
use Rattle.std.proofs.lemmas.Bool.{and_parts}
use Rattle.keep_types.specs.declared.leaf.Profile.{Profile}
use Rattle.keep_types.specs.declared.leaf.Leaf.{Leaf}
use Rattle.keep_types.specs.declared.leaf.Leaf.TheVariants as leaf
use Rattle.keep_syntax.specs.Tree.{Name, Body, scalar, array, inline, Entries, none, entry, Value, Document}
use Rattle.keep_syntax.specs.Grammar.{AreEntries, IsName, IsValue, IsDocument, in_inline, place_in}
use Rattle.keep_meaning.specs.Fact.{Fact, is_value_fact, is_bracket}
use Rattle.keep_path.specs.Path.{Part, key, index}
use Rattle.keep_meaning.specs.Marks.{Mention, fact_of}
use Rattle.keep_meaning.specs.Meaning.{body_fact, scalar_fact, entries_mentions, step, mentions_in, mentions_of_value}
use Rattle.keep_meaning.specs.Nodes.{fact_at, first_of, has, is_element}
use Rattle.keep_edit_spec.specs.Look.{strip, is_table_fact, is_table, keys_in}
use Rattle.keep_edit_spec.specs.Refusals.{has_value}
use Rattle.keep_edit_spec.specs.Values.{put_named}
use Rattle.keep_edit_spec.specs.Edits.{name_with}
use Rattle.keep_edit_spec.proofs.Common.Runs.{AllOf, SomeOf, Rules, IsDisjoint, kinds_at-disjoint, strip-append}
use Rattle.keep_edit_spec.proofs.Common.Runs.{strip-sound, none_or_some}
use Rattle.keep_edit_spec.proofs.Common.SetLaw.{EachTo}
use Rattle.keep_edit_spec.proofs.Common.LineLaws.{within_first, beyond, prefix_cases}
use Rattle.keep_edit_spec.proofs.Common.ValueThere.{IsSome}
use Rattle.keep_edit_spec.proofs.Insert.Gives.{IsNamedAt, Holds}
use Rattle.keep_edit_spec.proofs.Insert.DoneThere.{IsApt, IsDoneThere, done_there}
use Rattle.keep_edit_spec.proofs.Insert.PutValue.{LeadsPast, IsNamedPut, named_put, some_named, valid_named, OneDeeper}
use Rattle.keep_edit_spec.proofs.Insert.PutValue.{named_depth}
use Rattle.keep_edit_spec.proofs.Insert.NamedEntries.{SomeEntry, each_map, some_both, IsNear, at_or_under, further}
use Rattle.keep_edit_spec.proofs.Insert.NamedEntries.{entries_near, IsStated, entries_stated, none_in_entries, IsLonger}
use Rattle.keep_edit_spec.proofs.Insert.NamedEntries.{past_entry, past_named}

-- ---- braces

abbrev pub is_inline : Body → Bool
is_inline (scalar w) = false
is_inline (array first) = false
is_inline (inline first) = true

pub table_body : (body : Body) → is_table_fact (Some (body_fact body)) ≡ true → is_inline body ≡ true
table_body (inline first) e = refl
table_body (array first) e = absurd cc
table_body (scalar w) e =
    absurd (let z : is_table_fact (Some (scalar_fact w.leaf w.text)) ≡ false = no_table w.leaf w.text in cc)
  where
    no_table : (l : Leaf) (t : List ℕ) → is_table_fact (Some (scalar_fact l t)) ≡ false
    no_table leaf.Integer t = refl
    no_table _ t = refl

place_body : (body : Body) → place_in body ≡ in_inline → is_inline body ≡ true
place_body (inline first) e = refl
place_body (array first) e = absurd cc
place_body (scalar w) e = absurd cc

pub bracket_inline : (body : Body) → is_inline body ≡ true → is_bracket (body_fact body) ≡ true
bracket_inline (inline first) e = refl
bracket_inline (array first) e = absurd cc
bracket_inline (scalar w) e = absurd cc

pub entries_inline : (profile : Profile) (v : Value) → is_inline v.body ≡ true → IsValue profile v
    → AreEntries profile in_inline v.nested
entries_inline profile v e valid = by v.body v.nested e valid
  where
    by : (body : Body) (nested : Entries) → is_inline body ≡ true
        → IsValue profile (record { body = body; nested = nested }) → AreEntries profile in_inline nested
    by (inline first) nested e valid = valid.nested
    by (array first) nested e valid = absurd cc
    by (scalar w) nested e valid = absurd cc

-- ---- the place

-- A value is at `at`; the path continues by dots to a table in it, where no other value is on the way, and then by new
-- keys.
pub record IsBracesPlace (s : Document) (at dots : List Part) (k : List ℕ) : Type 0 where
  pub fact : Fact
  pub here : fact_at at (mentions_in s) ≡ Some fact
  pub valued : is_value_fact fact ≡ true
  pub none : (b : Part) (bs r : List Part) → dots ≡ (b ∷ bs) ++ r → has_value (at ++ b ∷ bs) (mentions_in s) ≡ false
  pub fresh : AllOf (IsDisjoint ((at ++ dots) ++ key k ∷ [])) (mentions_in s)
  pub table : is_table (at ++ dots) (mentions_in s) ≡ true
  pub named : SomeOf (IsNamedAt (at ++ dots)) (mentions_in s)

pub take_all : (a b : List Part) → take (length a) (a ++ b) ≡ a
take_all [] [] = refl
take_all [] (x ∷ b) = refl
take_all (p ∷ a) b = ap (λ (l : List Part). p ∷ l) (take_all a b)

pub take_prefix : (a b : List Part) → take (length (a ++ b) - length b) (a ++ b) ≡ a
take_prefix a b =
    let e : length (a ++ b) - length b ≡ length a = omega (arith, length-append a b) in
    ap (λ (n : ℕ). take n (a ++ b)) e ∙ take_all a b

valued_by : (path : List Part) (ms : List Mention) (f : Fact) → fact_at path ms ≡ Some f → is_value_fact f ≡ true
    → has_value path ms ≡ true
valued_by path ms f e v = ap (λ (o : Option Fact). elim o [ None ↦ false | Some x ↦ is_value_fact x ]) e ∙ v

no_value_disjoint : (p x : List Part) (ms : List Mention) → AllOf (IsDisjoint p) ms → has_value (p ++ x) ms ≡ false
no_value_disjoint p x ms h =
    let e : fact_at (p ++ x) ms ≡ None =
    ap (λ l. first_of (filter_map fact_of l)) (kinds_at-disjoint p (p ++ x) x ms h (strip-append p x)) in
    ap (λ (o : Option Fact). elim o [ None ↦ false | Some f ↦ is_value_fact f ]) e

module _ (profile : Profile) (s : Document) (at dots : List Part) (k : List ℕ) (ks : List (List ℕ))
    (place : IsBracesPlace s at dots k) where
  abbrev ms : List Mention
  ms = mentions_in s

  abbrev keys : List Part
  keys = map key (k ∷ ks)

  module _ (body : Body) (nested : Entries) (valid : IsValue profile (record { body = body; nested = nested }))
      (rules : Rules (entries_mentions 0 nested))
      (h : Holds (λ q. fact_at (at ++ q) ms) dots []
      (mentions_of_value (record { body = body; nested = nested }))) where
    -- a value in the braces is one in the document
    stated_value : (b : Part) (bs : List Part) → IsStated (b ∷ bs) (entries_mentions 0 nested)
        → has_value (at ++ b ∷ bs) ms ≡ true
    stated_value b bs t = valued_by (at ++ b ∷ bs) ms t.fact (sym (h.facts (b ∷ bs)) ∙ t.is) t.valued

    not_on_way : (b : Part) (bs r : List Part) → IsStated (b ∷ bs) (entries_mentions 0 nested) → dots ≡ (b ∷ bs) ++ r
        → ⊥
    not_on_way b bs r t e = let yes = stated_value b bs t in let never = place.none b bs r e in absurd cc

    longer_by : (m : ℕ) (name : Option Name) → IsNear dots m name → IsStated (step m name) (entries_mentions 0 nested)
        → IsLonger dots m name
    longer_by m name (further b bs e) t = (b, bs, e)
    longer_by m None (at_or_under r e) t = absurd (not_on_way (index m) [] r t e)
    longer_by m (Some name) (at_or_under r e) t = absurd (not_on_way _ _ r t e)

    -- an entry goes past the dots
    longer : (d : Part) (ds : List Part) → dots ≡ d ∷ ds → SomeEntry (IsLonger dots) 0 nested
    longer d ds e =
        some_both (IsNear dots) (λ m name. IsStated (step m name) (entries_mentions 0 nested)) (IsLonger dots) longer_by
        0 nested
        (entries_near dots 0 nested (elim
        h.named [ inl root ↦ (let z : [] ≡ d ∷ ds = root ∙ e in absurd cc) | inr deep ↦ deep ]))
        (entries_stated 0 nested rules)

    at_top : is_table (at ++ []) ms ≡ true → is_inline body ≡ true
    at_top t =
        let fact : is_table_fact (fact_at (at ++ []) ms) ≡ true =
        (and_parts (is_table_fact (fact_at (at ++ []) ms)) (not (has is_element (at ++ []) ms)) t).0 in
        table_body body (ap is_table_fact (h.facts []) ∙ fact)

    pub fit_inline : is_inline body ≡ true
    fit_inline = by dots refl
      where
        by : (x : List Part) → dots ≡ x → is_inline body ≡ true
        by [] e = at_top (subst (λ (x : List Part). is_table (at ++ x) ms ≡ true) e place.table)
        by (d ∷ ds) e =
            place_body body (past_named profile (place_in body) d ds 0 nested valid.nested
            (subst (λ (x : List Part). SomeEntry (IsLonger x) 0 nested) e (longer d ds e)))

    past_nested : (nested ≡ none) ⊎ LeadsPast dots nested
    past_nested = by dots refl nested refl
      where
        by : (x : List Part) → dots ≡ x → (es : Entries) → nested ≡ es → (nested ≡ none) ⊎ LeadsPast dots nested
        by [] e none i = inl i
        by [] e (entry name body' nested' after comma rest) i =
            inr (subst (λ (y : List Part). LeadsPast y nested) (sym e) (subst (LeadsPast []) (sym i) (inl refl)))
        by (d ∷ ds) e es i =
            inr (subst (λ (y : List Part). LeadsPast y nested) (sym e)
            (past_entry d ds 0 nested (subst (λ (x : List Part). SomeEntry (IsLonger x) 0 nested) e (longer d ds e))))

    -- nothing in the braces is on the path
    none_step : (b : Part) (bs : List Part) → IsStated (b ∷ bs) (entries_mentions 0 nested)
        → strip (b ∷ bs) (dots ++ keys) ≡ None
    none_step b bs t = elim (none_or_some (strip (b ∷ bs) (dots ++ keys))) [
      | inl e ↦ e
      | inr e ↦ (elim (prefix_cases (b ∷ bs) dots keys e.0 e.1) [
        | within_first u ↦ absurd (not_on_way b bs u.0 t (strip-sound (b ∷ bs) dots u.0 u.1))
        | beyond c cs w u ↦
            (let there : key k ∷ map key ks ≡ c ∷ (cs ++ u.0) = strip-sound (c ∷ cs) keys u.0 u.1 in
            let same : c ≡ key k = cc in
            let whole : at ++ b ∷ bs ≡ ((at ++ dots) ++ key k ∷ []) ++ cs =
            ap (λ (x : List Part). at ++ x) (w ∙ ap (λ (x : Part). dots ++ x ∷ cs) same)
            ∙ sym (append_assoc at dots (key k ∷ cs)) ∙ sym (append_assoc (at ++ dots) (key k ∷ []) cs) in
            let yes : has_value (at ++ b ∷ bs) ms ≡ true = stated_value b bs t in
            let never : has_value (at ++ b ∷ bs) ms ≡ false =
            ap (λ (x : List Part). has_value x ms) whole
            ∙ no_value_disjoint ((at ++ dots) ++ key k ∷ []) cs ms place.fresh in
            absurd cc)
      ])
    ]

    none_deeper : (m : ℕ) (name : Option Name) → IsStated (step m name) (entries_mentions 0 nested)
        → strip (step m name) (dots ++ keys) ≡ None
    none_deeper m None t = none_step (index m) [] t
    none_deeper m (Some name) t = none_step _ _ t

    pub apt_braces : (new : Value) → IsApt is_inline (put_named name_with (length keys) new) (dots ++ keys) body nested
    apt_braces new = record {
      fit = fit_inline;
      shallow = none_in_entries (put_named name_with (length keys) new) (dots ++ keys) 0 nested
          (each_map (λ m name. IsStated (step m name) (entries_mentions 0 nested))
          (λ m name. strip (step m name) (dots ++ keys) ≡ None) none_deeper 0 nested (entries_stated 0 nested rules));
      some = some_by body fit_inline
          (elim past_nested [
            | inl e ↦ inl e
            | inr g ↦
                inr (subst (λ (x : List Part). LeadsPast x nested) (sym (take_prefix dots keys)) g)
          ]);
    }
      where
        some_by : (b : Body) → is_inline b ≡ true
            → (nested ≡ none) ⊎ LeadsPast (take (length (dots ++ keys) - length keys) (dots ++ keys)) nested
            → IsSome (put_named name_with (length keys) new (dots ++ keys) (record { body = b; nested = nested }))
        some_by (inline first) e g = some_named name_with (length keys) new (dots ++ keys) first nested g
        some_by (array first) e g = absurd cc
        some_by (scalar w) e g = absurd cc

  -- ---- it is done there

  valid_by : (new v : Value) → is_inline v.body ≡ true → IsName profile (name_with (keys_in (dots ++ keys)))
      → IsValue profile new → IsValue profile v
      → EachTo (IsValue profile) (put_named name_with (length keys) new (dots ++ keys) v)
  valid_by new v e name given valid = by v.body v.nested e valid
    where
      by : (b : Body) (nested : Entries) → is_inline b ≡ true → IsValue profile (record { body = b; nested = nested })
          → EachTo (IsValue profile) (put_named name_with (length keys) new (dots ++ keys)
          (record { body = b; nested = nested }))
      by (inline first) nested e valid =
          valid_named profile name_with (length keys) new (dots ++ keys) first nested name given valid
      by (array first) nested e valid = absurd cc
      by (scalar w) nested e valid = absurd cc

  pub deep_by : (new v : Value) → is_inline v.body ≡ true
      → EachTo (OneDeeper new v) (put_named name_with (length keys) new (dots ++ keys) v)
  deep_by new v e = by v.body v.nested e
    where
      by : (b : Body) (nested : Entries) → is_inline b ≡ true
          → EachTo (OneDeeper new (record { body = b; nested = nested }))
          (put_named name_with (length keys) new (dots ++ keys) (record { body = b; nested = nested }))
      by (inline first) nested e = named_depth name_with (length keys) new (dots ++ keys) first nested
      by (array first) nested e = absurd cc
      by (scalar w) nested e = absurd cc

  pub put_by : (new v : Value) → is_inline v.body ≡ true
      → EachTo (IsNamedPut dots (name_with (keys_in (dots ++ keys))) new v)
      (put_named name_with (length keys) new (dots ++ keys) v)
  put_by new v e =
      subst (λ (x : List Part).
      EachTo (IsNamedPut x (name_with (keys_in (dots ++ keys))) new v)
      (put_named name_with (length keys) new (dots ++ keys) v)) (take_prefix dots keys) (by v.body v.nested e)
    where
      by : (b : Body) (nested : Entries) → is_inline b ≡ true
          → EachTo (IsNamedPut (take (length (dots ++ keys) - length keys) (dots ++ keys))
          (name_with (keys_in (dots ++ keys))) new (record { body = b; nested = nested }))
          (put_named name_with (length keys) new (dots ++ keys) (record { body = b; nested = nested }))
      by (inline first) nested e = named_put name_with (length keys) new (dots ++ keys) first nested
      by (array first) nested e = absurd cc
      by (scalar w) nested e = absurd cc

  pub braces_there : (new : Value) → IsDocument profile s → Rules ms
      → IsName profile (name_with (keys_in (dots ++ keys))) → IsValue profile new
      → IsDoneThere profile is_inline (put_named name_with (length keys) new) (dots ++ keys) at s
  braces_there new valid rules name given =
      done_there profile is_inline (put_named name_with (length keys) new) (dots ++ keys) at dots s place.fact valid
      rules place.here place.valued place.named
      (λ v e h. valid_by new v e name given h) (λ body nested h r g. apt_braces body nested h r g new)
