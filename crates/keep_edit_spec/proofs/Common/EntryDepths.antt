-- How deep the values in a value are: as many arrays and inline tables enclose each as there are at the prefixes of its
-- path.
--
-- The stored depth counts the brackets around a value as the tree has them; the definition counts the prefixes of its
-- path at which an array or an inline table is mentioned. `entries_deep` shows by induction over entries that they are
-- equal. A value's own entries are one deeper (`value_deep`, `one_around`). The hard part is that nothing else adds to
-- the count: no bracket is at a prefix of an entry's key (`key_open`), and what comes before the entry says nothing at
-- the prefixes of its path (`before_same`). Both follow from the rules.
--
-- Theorem: `entries_deep`: in valid entries each value is as deep as brackets enclose its path.
use Rattle.std.proofs.Common.{◌≡◌, ℕ, suc, ◌+◌, Bool, true, false, cond, List, [], ◌∷◌, ◌++◌, length, map, refl, sym}
use Rattle.std.proofs.Common.{ap, subst, ◌∙◌, length-append, arith, Option, Some, None, inl, inr}
use Rattle.std.specs.List.{AllZip, count_by, filter_map}
use Rattle.std.proofs.lemmas.List.{append-nil}
use Rattle.std.proofs.lemmas.List.Elements.{filter-append}
use Rattle.std.proofs.lemmas.List.Sums.{sum_by-append}
use Rattle.keep_types.specs.declared.leaf.Profile.{Profile}
use Rattle.keep_types.specs.declared.syntax.Start.{Start}
use Rattle.keep_types.specs.declared.syntax.ValueInfo.{ValueInfo}
use Rattle.keep_syntax.specs.Tree.{Name, Body, scalar, array, inline, Entries, none, entry}
use Rattle.keep_syntax.specs.Grammar.{Place, place_in, AreEntries}
use Rattle.keep_syntax.specs.Numbered.{value_start, comma_start, comma_place, name_count, info, nested_of, rest_of}
use Rattle.keep_syntax.specs.Numbered.{entries_values}
use Rattle.keep_meaning.specs.Fact.{Fact, table, is_value_fact, is_bracket}
use Rattle.keep_path.specs.Path.{Part, key, index, same_path}
use Rattle.keep_meaning.specs.Marks.{MentionKind, value, item, Mention, below, fact_of}
use Rattle.keep_meaning.specs.Meaning.{keys_of, body_fact, valued_mentions, keyed_mentions, entry_mentions}
use Rattle.keep_meaning.specs.Meaning.{entries_mentions, step}
use Rattle.keep_meaning.specs.Counts.{is_value}
use Rattle.keep_meaning.specs.Nodes.{fact_at, first_of}
use Rattle.keep_edit_spec.specs.Look.{strip, is_bracket_at, prefixes, enclosing}
use Rattle.keep_edit_spec.proofs.Common.Runs.{AllOf, SomeOf, meet, some_left, some_right, pairs_split, Allowed, Rules}
use Rattle.keep_edit_spec.proofs.Common.Runs.{IsDisjoint, strip-append, kinds_at-disjoint}
use Rattle.keep_edit_spec.proofs.Common.SetLaw.{IsAloneAt, some_alone_below, closed_named, closed_entries, clash_before}
use Rattle.keep_edit_spec.proofs.Common.SetLaw.{disjoint_closed, keyed_split, disjoint_from_entry, rules_named, tag_of}
use Rattle.keep_edit_spec.proofs.Common.SetLaw.{tag_stated, tag_alone}
use Rattle.keep_edit_spec.proofs.Common.SetDocument.{valued_facts}
use Rattle.keep_edit_spec.proofs.Common.ValueThere.{some_cases, alone_of_fact, entry_beyond}
use Rattle.keep_edit_spec.proofs.Common.DoneAtValue.{fact_join, fact_keep, entries_root, step_facts, bracket_fact}
use Rattle.keep_edit_spec.proofs.Common.DoneAtValue.{count_map}
use Rattle.keep_edit_spec.proofs.Common.ValuesMention.{states_value, value_mentions, zip_join}
use Rattle.keep_edit_spec.proofs.Common.ValueNumber.{false_unless}

-- ---- counting brackets at prefixes

abbrev pub bracket_of : Option Fact → Bool
bracket_of o = elim o [ None ↦ false | Some f ↦ is_bracket f ]

bracket_is_value : (f : Fact) → is_bracket f ≡ true → is_value_fact f ≡ true
bracket_is_value table h = absurd cc
bracket_is_value _ h = refl

-- a bracket at a path is a value that is alone there
pub alone_of_bracket : (q : List Part) (ms : List Mention) → is_bracket_at ms q ≡ true → SomeOf (IsAloneAt q) ms
alone_of_bracket q ms h = let (f, e, v) = bracket_fact (fact_at q ms) h in alone_of_fact q ms f e v

count_step : (t : List Part → Bool) (q : List Part) (l : List (List Part))
    → count_by t (q ∷ l) ≡ cond (t q) 1 0 + count_by t l
count_step t q l = omega (arith, sum_by-append (λ x. cond (t x) 1 0) (q ∷ []) l)

-- prefixes of which the same holds
pub count_same : (t u : List Part → Bool) (path : List Part)
    → ((q : List Part) (k : Part) (qs : List Part) → path ≡ q ++ k ∷ qs → t q ≡ u q)
    → count_by t (prefixes path) ≡ count_by u (prefixes path)
count_same t u [] h = refl
count_same t u (a ∷ path) h =
    let here : cond {A = ℕ} (t []) 1 0 ≡ cond (u []) 1 0 = ap (λ b. cond {A = ℕ} b 1 0) (h [] a path refl) in
    omega (
      arith,
      here,
      count_step t [] (map (λ q. a ∷ q) (prefixes path)),
      count_step u [] (map (λ q. a ∷ q) (prefixes path)),
      count_map t (λ q. a ∷ q) (prefixes path),
      count_map u (λ q. a ∷ q) (prefixes path),
      count_same (λ q. t (a ∷ q)) (λ q. u (a ∷ q)) path (λ q k qs e. h (a ∷ q) k qs (ap (λ (x : List Part). a ∷ x) e)),
    )

count_never : (l : List (List Part)) → count_by (λ q. false) l ≡ 0
count_never [] = refl
count_never (q ∷ l) = omega (arith, count_step (λ q. false) q l, count_never l)

pub enclosing_none : (path : List Part) (ms : List Mention)
    → ((q : List Part) (k : Part) (qs : List Part) → path ≡ q ++ k ∷ qs → is_bracket_at ms q ≡ false)
    → enclosing path ms ≡ 0
enclosing_none path ms h = count_same (is_bracket_at ms) (λ q. false) path h ∙ count_never (prefixes path)

prefixes_split : (t : List Part → Bool) (p more : List Part)
    → count_by t (prefixes (p ++ more)) ≡ count_by t (prefixes p) + count_by (λ q. t (p ++ q)) (prefixes more)
prefixes_split t [] more = omega arith
prefixes_split t (a ∷ p) more =
    omega (
      arith,
      prefixes_split (λ q. t (a ∷ q)) p more,
      count_step t [] (map (λ q. a ∷ q) (prefixes (p ++ more))),
      count_step t [] (map (λ q. a ∷ q) (prefixes p)),
      count_map t (λ q. a ∷ q) (prefixes (p ++ more)),
      count_map t (λ q. a ∷ q) (prefixes p),
    )

-- beyond a path at and under which the same is said as of a value
pub enclosing_beyond : (p more : List Part) (ms inner : List Mention)
    → ((q : List Part) → fact_at (p ++ q) ms ≡ fact_at q inner)
    → enclosing (p ++ more) ms ≡ enclosing p ms + enclosing more inner
enclosing_beyond p more ms inner f =
    let same : count_by (λ q. is_bracket_at ms (p ++ q)) (prefixes more) ≡ enclosing more inner =
    count_same (λ q. is_bracket_at ms (p ++ q)) (is_bracket_at inner) more (λ q k qs e. ap bracket_of (f q)) in
    omega (arith, same, prefixes_split (is_bracket_at ms) p more)

-- what is disjoint from a path is not alone at its path beyond it
pub disjoint_alone : (p more path : List Part) (ms : List Mention) → path ≡ p ++ more → AllOf (IsDisjoint p) ms
    → SomeOf (IsAloneAt path) ms → ⊥
disjoint_alone p more path ms e h s =
    let (m, a, disjoint) = meet (IsAloneAt path) (IsDisjoint p) ms s h in
    let k : None ≡ Some more = sym disjoint ∙ ap (strip p) (a.path ∙ e) ∙ strip-append p more in
    absurd cc

-- a prefix is shorter
pub no_prefix : (s q : List Part) (k : Part) (qs more : List Part) → s ≡ q ++ k ∷ qs → q ≡ s ++ more → ⊥
no_prefix s q k qs more e f =
    omega (
      arith,
      ap (λ (l : List Part). length l) e,
      ap (λ (l : List Part). length l) f,
      length-append q (k ∷ qs),
      length-append s more,
    )

-- ---- the entries of a value

-- The value is as deep as stated, and is mentioned there alone.
pub record IsDeep (depth : ℕ) (ms : List Mention) (m : Mention) (i : ValueInfo) : Type 0 where
  pub deep : i.depth ≡ depth + enclosing m.path ms
  pub alone : SomeOf (IsAloneAt m.path) ms

zip_to : {A B : Type 0} (R S : A → B → Type 0) (xs : List A) (ys : List B) → ((x : A) (y : B) → R x y → S x y)
    → AllZip R xs ys → AllZip S xs ys
zip_to R S [] [] f h = tt
zip_to R S [] (y ∷ ys) f h = absurd h
zip_to R S (x ∷ xs) [] f h = absurd h
zip_to R S (x ∷ xs) (y ∷ ys) f h = (f x y h.0, zip_to R S xs ys f h.1)

pub zip_map : {A C B : Type 0} (R : A → B → Type 0) (S : C → B → Type 0) (g : A → C) (xs : List A) (ys : List B)
    → ((x : A) (y : B) → R x y → S (g x) y) → AllZip R xs ys → AllZip S (map g xs) ys
zip_map R S g [] [] f h = tt
zip_map R S g [] (y ∷ ys) f h = absurd h
zip_map R S g (x ∷ xs) [] f h = absurd h
zip_map R S g (x ∷ xs) (y ∷ ys) f h = (f x y h.0, zip_map R S g xs ys f h.1)

pub mentions-below : (p : List Part) (ms : List Mention)
    → value_mentions (map (below p) ms) ≡ map (below p) (value_mentions ms)
mentions-below p [] = refl
mentions-below p (m ∷ ms) = by (is_value m.kind) (mentions-below p ms)
  where
    by : (b : Bool) → value_mentions (map (below p) ms) ≡ map (below p) (value_mentions ms)
        → cond b (below p m ∷ value_mentions (map (below p) ms)) (value_mentions (map (below p) ms))
        ≡ map (below p) (cond b (m ∷ value_mentions ms) (value_mentions ms))
    by true e = ap (λ (l : List Mention). below p m ∷ l) e
    by false e = e

mentions-dots : (ks : List (List ℕ)) → value_mentions (keyed_mentions ks []) ≡ []
mentions-dots [] = refl
mentions-dots (k ∷ []) = refl
mentions-dots (k ∷ l ∷ ks) =
    mentions-below (key k ∷ []) (keyed_mentions (l ∷ ks) []) ∙ ap (map (below (key k ∷ []))) (mentions-dots (l ∷ ks))

pub mentions-entry : (n : ℕ) (name : Option Name) (f : Fact) (nested : List Mention)
    → value_mentions (entry_mentions n name f nested)
    ≡ map (below (step n name)) (valued_mentions (tag_of name f) (value_mentions nested))
mentions-entry n None f nested = mentions-below (index n ∷ []) (valued_mentions (item f) nested)
mentions-entry n (Some name) f nested =
    let ms : List Mention = valued_mentions (value f) nested in
    let p : List Part = map key (keys_of name.key) in
    ap value_mentions (keyed_split (keys_of name.key) ms)
    ∙ filter-append states_value (keyed_mentions (keys_of name.key) []) (map (below p) ms)
    ∙ ap (λ (l : List Mention). l ++ value_mentions (map (below p) ms)) (mentions-dots (keys_of name.key))
    ∙ mentions-below p ms

-- what is alone at its path in a value is alone at its path beyond its key or number
pub alone_named : (n : ℕ) (name : Option Name) (f : Fact) (nested : List Mention) (x : List Part)
    → SomeOf (IsAloneAt x) (valued_mentions (tag_of name f) nested)
    → SomeOf (IsAloneAt (step n name ++ x)) (entry_mentions n name f nested)
alone_named n None f nested x h = some_alone_below (index n ∷ []) x (valued_mentions (item f) nested) h
alone_named n (Some name) f nested x h =
    let ms : List Mention = valued_mentions (value f) nested in
    let p : List Part = map key (keys_of name.key) in
    subst (λ (l : List Mention). SomeOf (IsAloneAt (p ++ x)) l) (sym (keyed_split (keys_of name.key) ms))
    (some_right (IsAloneAt (p ++ x)) (keyed_mentions (keys_of name.key) []) (map (below p) ms)
    (some_alone_below p x ms h))

-- nothing in entries is known of what they are in
never_empty : (n : ℕ) (es : Entries) → SomeOf (IsAloneAt []) (entries_mentions n es) → ⊥
never_empty n none s = absurd s
never_empty n (entry name body nested after comma rest) s =
    elim (some_cases (IsAloneAt []) (entry_mentions n name (body_fact body) (entries_mentions 0 nested))
    (entries_mentions (n + 1) rest) s) [
      | inl a ↦
          no_step name (entry_beyond n name (body_fact body) (entries_mentions 0 nested) [] a).more
          (entry_beyond n name (body_fact body) (entries_mentions 0 nested) [] a).is
      | inr b ↦ never_empty (n + 1) rest b
    ]
  where
    no_step : (name : Option Name) (more : List Part) → [] ≡ step n name ++ more → ⊥
    no_step None more e = absurd cc
    no_step (Some name) more e = absurd cc

-- a value with entries is an array or an inline table
bracket_around : (profile : Profile) (body : Body) (nested : Entries) (x : List Part)
    → AreEntries profile (place_in body) nested → SomeOf (IsAloneAt x) (entries_mentions 0 nested)
    → is_bracket (body_fact body) ≡ true
bracket_around profile (array first) nested x are s = refl
bracket_around profile (inline first) nested x are s = refl
bracket_around profile (scalar w) none x are s = absurd s
bracket_around profile (scalar w) (entry name body nested after comma rest) x are s = absurd are.0

-- it is one more around them
one_around : (mention_kind : MentionKind) (f : Fact) (n : ℕ) (es : Entries) (p : Part) (ps : List Part)
    → fact_of mention_kind ≡ Some f → is_bracket f ≡ true
    → enclosing (p ∷ ps) (valued_mentions mention_kind (entries_mentions n es))
    ≡ suc (enclosing (p ∷ ps) (entries_mentions n es))
one_around mention_kind f n es p ps e h =
    let t : List Part → Bool = is_bracket_at (entries_mentions n es) in
    let u : List Part → Bool = is_bracket_at (valued_mentions mention_kind (entries_mentions n es)) in
    let none_here : cond {A = ℕ} (t []) 1 0 ≡ 0 =
    ap (λ (o : Option Fact). cond {A = ℕ} (bracket_of o) 1 0) (entries_root n es) in
    let stated : fact_at [] (valued_mentions mention_kind (entries_mentions n es)) ≡ Some f = rw e refl in
    let one_here : cond {A = ℕ} (u []) 1 0 ≡ 1 =
    ap (λ (o : Option Fact). cond {A = ℕ} (bracket_of o) 1 0) stated ∙ ap (λ b. cond {A = ℕ} b 1 0) h in
    let c : count_by (λ q. t (p ∷ q)) (prefixes ps) ≡ count_by (λ q. u (p ∷ q)) (prefixes ps) =
    count_same (λ q. t (p ∷ q)) (λ q. u (p ∷ q)) ps (λ q k qs e. refl) in
    omega (
      arith,
      c,
      none_here,
      one_here,
      count_step t [] (map (λ q. p ∷ q) (prefixes ps)),
      count_step u [] (map (λ q. p ∷ q) (prefixes ps)),
      count_map t (λ q. p ∷ q) (prefixes ps),
      count_map u (λ q. p ∷ q) (prefixes ps),
    )

-- a value, and those in it
pub value_deep : (profile : Profile) (depth : ℕ) (name : Option Name) (body : Body) (nested : Entries) (own : ValueInfo)
    (infos : List ValueInfo) → AreEntries profile (place_in body) nested → own.depth ≡ depth
    → AllZip (IsDeep (suc depth) (entries_mentions 0 nested)) (value_mentions (entries_mentions 0 nested)) infos
    → AllZip (IsDeep depth (valued_mentions (tag_of name (body_fact body)) (entries_mentions 0 nested)))
    (valued_mentions (tag_of name (body_fact body)) (value_mentions (entries_mentions 0 nested))) (own ∷ infos)
value_deep profile depth name body nested own infos are e h =
    let f : Fact = body_fact body in
    let ms : List Mention = entries_mentions 0 nested in
    let whole : List Mention = valued_mentions (tag_of name f) ms in (
      record { deep = omega (arith, e); alone = inl (record { path = refl; kind = tag_alone name f }) },
      zip_to (IsDeep (suc depth) ms) (IsDeep depth whole) (value_mentions ms) infos
          (λ m i k. record { deep = by m.path i k.alone k.deep; alone = inr k.alone }) h,
    )
  where
    by : (x : List Part) (i : ValueInfo) → SomeOf (IsAloneAt x) (entries_mentions 0 nested)
        → i.depth ≡ suc depth + enclosing x (entries_mentions 0 nested)
        → i.depth ≡ depth + enclosing x (valued_mentions (tag_of name (body_fact body)) (entries_mentions 0 nested))
    by [] i a d = absurd (never_empty 0 nested a)
    by (p ∷ ps) i a d =
        omega (
          arith,
          d,
          one_around (tag_of name (body_fact body)) (body_fact body) 0 nested p ps (tag_stated name (body_fact body))
              (bracket_around profile body nested (p ∷ ps) are a),
        )

-- no bracket is at a prefix of an entry's own key
key_open : (n : ℕ) (name : Option Name) (body : Body) (nested rest : Entries)
    → Rules (entry_mentions n name (body_fact body) (entries_mentions 0 nested) ++ entries_mentions (n + 1) rest)
    → (q : List Part) (k : Part) (qs : List Part) → step n name ≡ q ++ k ∷ qs
    → SomeOf (IsAloneAt q) (entry_mentions n name (body_fact body) (entries_mentions 0 nested)
    ++ entries_mentions (n + 1) rest) → ⊥
key_open n name body nested rest rules q k qs e s =
    let first : List Mention = entry_mentions n name (body_fact body) (entries_mentions 0 nested) in
    elim (some_cases (IsAloneAt q) first (entries_mentions (n + 1) rest) s) [
      | inl a ↦
          (let h = entry_beyond n name (body_fact body) (entries_mentions 0 nested) q a in
          no_prefix (step n name) q k qs h.more e h.is)
      | inr b ↦ after q e b
    ]
  where
    after : (q : List Part) → step n name ≡ q ++ k ∷ qs → SomeOf (IsAloneAt q) (entries_mentions (n + 1) rest) → ⊥
    after [] e b = never_empty (n + 1) rest b
    after (j ∷ js) e b =
        let first : List Mention = entry_mentions n name (body_fact body) (entries_mentions 0 nested) in
        let disjoint : AllOf (IsDisjoint (j ∷ js)) first =
        disjoint_closed (j ∷ js) first first
        (closed_named n name (body_fact body) (entries_mentions 0 nested) (closed_entries 0 nested) j js)
        (λ s. clash_before (j ∷ js) first (entries_mentions (n + 1) rest) s b rules) in
        let own : SomeOf (IsAloneAt (step n name ++ [])) first =
        alone_named n name (body_fact body) (entries_mentions 0 nested) []
        (inl (record { path = refl; kind = tag_alone name (body_fact body) })) in
        disjoint_alone (j ∷ js) (k ∷ qs) (step n name ++ []) first (append-nil (step n name) ∙ e) disjoint own

-- ---- what comes before

nothing_disjoint : (q : List Part) (ms : List Mention) → AllOf (IsDisjoint q) ms → fact_at q ms ≡ None
nothing_disjoint q ms h =
    ap (λ (l : List MentionKind). first_of (filter_map fact_of l))
    (kinds_at-disjoint q q [] ms h (ap (strip q) (sym (append-nil q)) ∙ strip-append q []))

-- at a prefix of a value's path, what comes before its entry tells nothing
before_same : (n : ℕ) (name : Option Name) (body : Body) (nested rest : Entries)
    → Rules (entry_mentions n name (body_fact body) (entries_mentions 0 nested) ++ entries_mentions (n + 1) rest)
    → (path q : List Part) (k : Part) (qs : List Part) → path ≡ q ++ k ∷ qs
    → SomeOf (IsAloneAt path) (entries_mentions (n + 1) rest)
    → is_bracket_at (entry_mentions n name (body_fact body) (entries_mentions 0 nested)
    ++ entries_mentions (n + 1) rest) q ≡ is_bracket_at (entries_mentions (n + 1) rest) q
before_same n name body nested rest rules path q k qs e s = by (fact_at q first) refl
  where
    first : List Mention
    first = entry_mentions n name (body_fact body) (entries_mentions 0 nested)

    more : List Mention
    more = entries_mentions (n + 1) rest

    disjoint_first : (q : List Part) → SomeOf (IsAloneAt q) more → fact_at q first ≡ None
    disjoint_first [] b = absurd (never_empty (n + 1) rest b)
    disjoint_first (j ∷ js) b =
        let disjoint : AllOf (IsDisjoint (j ∷ js)) first =
        disjoint_closed (j ∷ js) first first
        (closed_named n name (body_fact body) (entries_mentions 0 nested) (closed_entries 0 nested) j js)
        (λ s. clash_before (j ∷ js) first more s b rules) in
        nothing_disjoint (j ∷ js) first disjoint

    of_fact : (f : Fact) → fact_at q first ≡ Some f → (b : Bool) → is_value_fact f ≡ b
        → is_bracket_at (first ++ more) q ≡ is_bracket_at more q
    of_fact f h true v =
        let g = entry_beyond n name (body_fact body) (entries_mentions 0 nested) q (alone_of_fact q first f h v) in
        let disjoint : AllOf (IsDisjoint (step n name ++ g.more)) more =
        disjoint_from_entry n name (body_fact body) (entries_mentions 0 nested) rest g.more rules in
        absurd (disjoint_alone (step n name ++ g.more) (k ∷ qs) path more (e ∙ ap (λ (x : List Part). x ++ k ∷ qs) g.is)
        disjoint s)
    of_fact f h false v =
        let here : is_bracket_at (first ++ more) q ≡ is_bracket f = ap bracket_of (fact_keep q first more f h) in
        let flat : is_bracket f ≡ false =
        false_unless (is_bracket f) (λ b. let t : false ≡ true = sym v ∙ bracket_is_value f b in absurd cc) in
        here ∙ flat
        ∙ sym (false_unless (is_bracket_at more q)
        (λ b. let t : None ≡ Some f = sym (disjoint_first q (alone_of_bracket q more b)) ∙ h in absurd cc))

    by : (o : Option Fact) → fact_at q first ≡ o → is_bracket_at (first ++ more) q ≡ is_bracket_at more q
    by None h = ap bracket_of (fact_join q first more h)
    by (Some f) h = of_fact f h (is_value_fact f) refl

-- ---- all values in a value

-- The values of entries are as deep as their owner tells, and one deeper for each that encloses them here.
pub entries_deep : (profile : Profile) (place : Place) (n : ℕ) (p : Start) (es : Entries) → AreEntries profile place es
    → Rules (entries_mentions n es)
    → AllZip (IsDeep p.depth (entries_mentions n es)) (value_mentions (entries_mentions n es)) (entries_values p es)
entries_deep profile place n p none are rules = tt
entries_deep profile place n p (entry name body nested after comma rest) are rules =
    let f : Fact = body_fact body in
    let i : Start = nested_of p (value_start p.at name) (name_count name) body in
    let r : Start = rest_of p name body nested after comma in
    let own : ValueInfo =
    info p (value_start p.at name) (name_count name) body nested
    (comma_place (comma_start p.at name body nested after) comma) in
    let within : List Mention = entries_mentions 0 nested in
    let first : List Mention = entry_mentions n name f within in
    let more : List Mention = entries_mentions (n + 1) rest in
    let whole : List Mention = first ++ more in
    let s : List Part = step n name in
    let ms : List Mention = valued_mentions (tag_of name f) within in
    let vs : List Mention = valued_mentions (tag_of name f) (value_mentions within) in
    let split = pairs_split Allowed first more rules in
    let facts : (q : List Part) → fact_at (s ++ q) whole ≡ fact_at q ms =
    λ q. step_facts n name body nested after comma rest rules q
    ∙ valued_facts (item f) (tag_of name f) within q (sym (tag_stated name f)) (same_path [] q) refl in
    let open_key : enclosing s whole ≡ 0 =
    enclosing_none s whole (λ q k qs e.
    false_unless (is_bracket_at whole q)
    (λ b. key_open n name body nested rest rules q k qs e (alone_of_bracket q whole b))) in
    let inner : AllZip (IsDeep p.depth ms) vs (own ∷ entries_values i nested) =
    value_deep profile p.depth name body nested own (entries_values i nested) are.2 refl
    (entries_deep profile (place_in body) 0 i nested are.2 (rules_named n name f within split.left)) in
    let here : AllZip (IsDeep p.depth whole) (map (below s) vs) (own ∷ entries_values i nested) =
    zip_map (IsDeep p.depth ms) (IsDeep p.depth whole) (below s) vs (own ∷ entries_values i nested)
    (λ m j h. record {
      deep = omega (arith, h.deep, open_key, enclosing_beyond s m.path whole ms facts);
      alone = some_left (IsAloneAt (s ++ m.path)) first more (alone_named n name f within m.path h.alone);
    }) inner in
    let further : AllZip (IsDeep p.depth whole) (value_mentions more) (entries_values r rest) =
    zip_to (IsDeep p.depth more) (IsDeep p.depth whole) (value_mentions more) (entries_values r rest)
    (λ m j h. record {
      deep = h.deep
          ∙ ap (λ (d : ℕ).
          p.depth + d) (sym (count_same (is_bracket_at whole) (is_bracket_at more) m.path
          (λ q k qs e. before_same n name body nested rest rules m.path q k qs e h.alone)));
      alone = some_right (IsAloneAt m.path) first more h.alone;
    }) (entries_deep profile place (n + 1) r rest are.5 split.right) in
    let mentioned : value_mentions whole ≡ map (below s) vs ++ value_mentions more =
    filter-append states_value first more
    ∙ ap (λ (l : List Mention). l ++ value_mentions more) (mentions-entry n name f within) in
    subst (λ (l : List Mention).
    AllZip (IsDeep p.depth whole) l (entries_values p (entry name body nested after comma rest))) (sym mentioned)
    (zip_join (IsDeep p.depth whole) (map (below s) vs) (value_mentions more) (own ∷ entries_values i nested)
    (entries_values r rest) here further)
