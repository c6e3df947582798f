-- What is done at the value of a path: which value it is, what the text says of it, and how deep it is.
--
-- The proof follows the search into entries, by induction over them (`done_entries`): the value is in the first entry
-- (`done_entry`) or in a later one (`done_further`). In both cases two things have to carry over to the whole. Facts:
-- what the mentions say at the path and under it is what the value says (`step_facts`, `further_facts`). Depth: at
-- least as many brackets enclose the path in the whole as in the part (`enclosing_beyond`, `enclosing_further`), and
-- one more where the value is in brackets (`enclosing_nested`). So the depth after the change is bounded by that before
-- it and that of the new value.
--
-- Theorems: `done_entries` and `done_value`: the change is the act at the value of the path, with its facts and its
-- depth.
use Rattle.std.proofs.Common.{◌≡◌, ℕ, suc, ◌+◌, ◌≤◌, Bool, true, false, cond, List, [], ◌∷◌, ◌++◌, map, refl, sym, ap}
use Rattle.std.proofs.Common.{subst, ◌∙◌, append_assoc, arith, Option, Some, None}
use Rattle.std.specs.Prelude.{⊤, max}
use Rattle.std.specs.List.{filter_map, count_by}
use Rattle.std.proofs.lemmas.List.{append-nil}
use Rattle.std.proofs.lemmas.List.Elements.{filter_map-append}
use Rattle.std.proofs.lemmas.List.Sums.{sum_by-append}
use Rattle.keep_types.specs.declared.leaf.Leaf.{Leaf}
use Rattle.keep_types.specs.declared.leaf.Leaf.TheVariants as leaf
use Rattle.keep_syntax.specs.Tree.{Gap, Name, named_leaves, opening, closing, comma_leaves, Body, scalar, array, inline}
use Rattle.keep_syntax.specs.Tree.{Entries, none, entry, Value, text_of, around, entries_depth, value_depth}
use Rattle.keep_meaning.specs.Fact as fact
use Rattle.keep_meaning.specs.Fact.{Fact, table, is_value_fact, is_bracket}
use Rattle.keep_path.specs.Path.{Part, key, index, same_path}
use Rattle.keep_meaning.specs.Marks.{MentionKind, dotted, value, item, Mention, below, fact_of}
use Rattle.keep_meaning.specs.Meaning.{key_value, further_value, keys_of, scalar_fact, body_fact, valued_mentions}
use Rattle.keep_meaning.specs.Meaning.{keyed_mentions, entry_mentions, entries_mentions, step, mentions_of_value}
use Rattle.keep_meaning.specs.Nodes.{kinds_at, fact_at, first_of}
use Rattle.keep_edit_spec.specs.Look.{strip, is_bracket_at, prefixes, enclosing}
use Rattle.keep_edit_spec.specs.Changed.{Changed, within, or_else, framed_change}
use Rattle.keep_edit_spec.specs.Values.{Act, entry_prefix, entry_back, in_entries, in_value}
use Rattle.keep_edit_spec.specs.Edits.{nested}
use Rattle.keep_edit_spec.proofs.Common.Runs.{AllOf, pairs_split, Allowed, Rules, IsDisjoint, strip-sound, strip-append}
use Rattle.keep_edit_spec.proofs.Common.Runs.{kinds_at-append, kinds_at-disjoint, kinds_at-below, fact_under}
use Rattle.keep_edit_spec.proofs.Common.SetLaw.{closed_named, closed_entries, disjoint_closed, clash_before}
use Rattle.keep_edit_spec.proofs.Common.SetLaw.{keyed_split, keyed_disjoint, rules_named, disjoint_from_entry}
use Rattle.keep_edit_spec.proofs.Common.SetDocument.{valued_facts}
use Rattle.keep_edit_spec.proofs.Common.ValueThere.{alone_of_fact}

-- ---- a change, where there is one

abbrev pub EachOf : {A : Type 0} → (Changed A → Type 0) → Option (Changed A) → Type 0
EachOf P None = ⊤
EachOf P (Some c) = P c

pub of_within : {A B : Type 0} (P : Changed A → Type 0) (Q : Changed B → Type 0) (outer : A → B) (left right : List ℕ)
    (o : Option (Changed A))
    → ((c : Changed A) → P c → Q (framed_change outer left right c)) → EachOf P o → EachOf Q (within outer left right o)
of_within P Q outer left right None f h = tt
of_within P Q outer left right (Some c) f h = f c h

pub of_or_else : {A : Type 0} (P : Changed A → Type 0) (o p : Option (Changed A)) → EachOf P o → EachOf P p
    → EachOf P (or_else o p)
of_or_else P None p h g = g
of_or_else P (Some c) p h g = h

-- ---- facts

pub value_fact-body : (b : Body) → is_value_fact (body_fact b) ≡ true
value_fact-body (array first) = refl
value_fact-body (inline first) = refl
value_fact-body (scalar w) = by w.leaf w.text
  where
    by : (l : Leaf) (t : List ℕ) → is_value_fact (scalar_fact l t) ≡ true
    by leaf.Integer t = refl
    by _ t = refl

abbrev facts_of : List MentionKind → Option Fact
facts_of l = first_of (filter_map fact_of l)

first_join : (a b : List Fact) → first_of a ≡ None → first_of (a ++ b) ≡ first_of b
first_join [] b e = refl
first_join (x ∷ a) b e = absurd cc

first_keep : (a b : List Fact) (f : Fact) → first_of a ≡ Some f → first_of (a ++ b) ≡ Some f
first_keep [] b f e = absurd cc
first_keep (x ∷ a) b f e = e

facts_append : (q : List Part) (xs ys : List Mention)
    → filter_map fact_of (kinds_at q (xs ++ ys)) ≡ filter_map fact_of (kinds_at q xs)
    ++ filter_map fact_of (kinds_at q ys)
facts_append q xs ys =
    ap (filter_map fact_of) (kinds_at-append q xs ys) ∙ filter_map-append fact_of (kinds_at q xs) (kinds_at q ys)

pub fact_join : (q : List Part) (xs ys : List Mention) → fact_at q xs ≡ None → fact_at q (xs ++ ys) ≡ fact_at q ys
fact_join q xs ys e =
    ap first_of (facts_append q xs ys)
    ∙ first_join (filter_map fact_of (kinds_at q xs)) (filter_map fact_of (kinds_at q ys)) e

pub fact_keep : (q : List Part) (xs ys : List Mention) (f : Fact) → fact_at q xs ≡ Some f
    → fact_at q (xs ++ ys) ≡ Some f
fact_keep q xs ys f e =
    ap first_of (facts_append q xs ys)
    ∙ first_keep (filter_map fact_of (kinds_at q xs)) (filter_map fact_of (kinds_at q ys)) f e

-- nothing in entries is said of what they are in
below_root : (k : Part) (ms : List Mention) → fact_at [] (map (below (k ∷ [])) ms) ≡ None
below_root k [] = refl
below_root k (m ∷ ms) = below_root k ms

keyed_root : (k : List ℕ) (ks : List (List ℕ)) (ms : List Mention) → fact_at [] (keyed_mentions (k ∷ ks) ms) ≡ None
keyed_root k [] ms = below_root (key k) ms
keyed_root k (l ∷ ks) ms = below_root (key k) (record { path = []; kind = dotted } ∷ keyed_mentions (l ∷ ks) ms)

entry_root : (n : ℕ) (name : Option Name) (f : Fact) (nested : List Mention)
    → fact_at [] (entry_mentions n name f nested) ≡ None
entry_root n None f nested = below_root (index n) (valued_mentions (item f) nested)
entry_root n (Some name) f nested =
    keyed_root (key_value name.key.first) (map further_value name.key.more) (valued_mentions (value f) nested)

pub entries_root : (n : ℕ) (es : Entries) → fact_at [] (entries_mentions n es) ≡ None
entries_root n none = refl
entries_root n (entry name body nested after comma rest) =
    fact_join [] (entry_mentions n name (body_fact body) (entries_mentions 0 nested)) (entries_mentions (n + 1) rest)
    (entry_root n name (body_fact body) (entries_mentions 0 nested))
    ∙ entries_root (n + 1) rest

-- an entry's facts, seen from its value
pub entry_facts : (n : ℕ) (name : Option Name) (f : Fact) (nested : List Mention) (q : List Part)
    → fact_at (step n name ++ q) (entry_mentions n name f nested) ≡ fact_at q (valued_mentions (item f) nested)
entry_facts n None f nested q = ap facts_of (kinds_at-below (index n ∷ []) q (valued_mentions (item f) nested))
entry_facts n (Some name) f nested q =
    let p : List Part = map key (keys_of name.key) in
    let ms : List Mention = valued_mentions (value f) nested in
    let dots : List Mention = keyed_mentions (keys_of name.key) [] in
    let split : keyed_mentions (keys_of name.key) ms ≡ dots ++ (map (below p) ms ++ []) =
    keyed_split (keys_of name.key) ms ∙ ap (λ l. dots ++ l) (sym (append-nil (map (below p) ms))) in
    ap (fact_at (p ++ q)) split
    ∙ fact_under p (p ++ q) q dots (map (below p) ms) []
    (keyed_disjoint (key_value name.key.first) (map further_value name.key.more)) tt (strip-append p q)
    ∙ ap facts_of (kinds_at-below p q ms)
    ∙ valued_facts (value f) (item f) nested q refl (same_path [] q) refl

-- ... with the entries after it
pub step_facts : (n : ℕ) (name : Option Name) (body : Body) (nested : Entries) (after : Gap) (comma : Option Gap)
    (rest : Entries)
    → Rules (entries_mentions n (entry name body nested after comma rest)) → (q : List Part)
    → fact_at (step n name ++ q) (entries_mentions n (entry name body nested after comma rest))
    ≡ fact_at q (mentions_of_value (record { body = body; nested = nested }))
step_facts n name body nested after comma rest rules q =
    let p : List Part = step n name in
    let first : List Mention = entry_mentions n name (body_fact body) (entries_mentions 0 nested) in
    let disjoint : AllOf (IsDisjoint p) (entries_mentions (n + 1) rest) =
    subst (λ (x : List Part). AllOf (IsDisjoint x) (entries_mentions (n + 1) rest)) (append-nil p)
    (disjoint_from_entry n name (body_fact body) (entries_mentions 0 nested) rest [] rules) in
    fact_under p (p ++ q) q [] first (entries_mentions (n + 1) rest) tt disjoint (strip-append p q)
    ∙ entry_facts n name (body_fact body) (entries_mentions 0 nested) q

-- before the entries that tell of a value, nothing is said at or under its path
pub disjoint_of_fact : (n : ℕ) (name : Option Name) (body : Body) (nested rest : Entries) (p : Part) (ps : List Part)
    (f : Fact)
    → Rules (entry_mentions n name (body_fact body) (entries_mentions 0 nested) ++ entries_mentions (n + 1) rest)
    → fact_at (p ∷ ps) (entries_mentions (n + 1) rest) ≡ Some f → is_value_fact f ≡ true
    → AllOf (IsDisjoint (p ∷ ps)) (entry_mentions n name (body_fact body) (entries_mentions 0 nested))
disjoint_of_fact n name body nested rest p ps f rules e h =
    let first : List Mention = entry_mentions n name (body_fact body) (entries_mentions 0 nested) in
    disjoint_closed (p ∷ ps) first first
    (closed_named n name (body_fact body) (entries_mentions 0 nested) (closed_entries 0 nested) p ps)
    (λ s. clash_before (p ∷ ps) first (entries_mentions (n + 1) rest) s
    (alone_of_fact (p ∷ ps) (entries_mentions (n + 1) rest) f e h) rules)

disjoint_no_fact : (p q : List Part) (ms : List Mention) → AllOf (IsDisjoint p) ms → fact_at (p ++ q) ms ≡ None
disjoint_no_fact p q ms h = ap facts_of (kinds_at-disjoint p (p ++ q) q ms h (strip-append p q))

pub further_facts : (n : ℕ) (name : Option Name) (body : Body) (nested rest : Entries) (path : List Part) (f : Fact)
    → Rules (entry_mentions n name (body_fact body) (entries_mentions 0 nested) ++ entries_mentions (n + 1) rest)
    → fact_at path (entries_mentions (n + 1) rest) ≡ Some f → is_value_fact f ≡ true → (q : List Part)
    → fact_at (path ++ q) (entry_mentions n name (body_fact body) (entries_mentions 0 nested)
    ++ entries_mentions (n + 1) rest) ≡ fact_at (path ++ q) (entries_mentions (n + 1) rest)
further_facts n name body nested rest [] f rules e h q =
    let k : None ≡ Some f = sym (entries_root (n + 1) rest) ∙ e in absurd cc
further_facts n name body nested rest (p ∷ ps) f rules e h q =
    let first : List Mention = entry_mentions n name (body_fact body) (entries_mentions 0 nested) in
    fact_join ((p ∷ ps) ++ q) first (entries_mentions (n + 1) rest)
    (disjoint_no_fact (p ∷ ps) q first (disjoint_of_fact n name body nested rest p ps f rules e h))

-- ---- how many brackets enclose a path

abbrev bracket_of : Option Fact → Bool
bracket_of o = elim o [ None ↦ false | Some f ↦ is_bracket f ]

bracket_is_value : (f : Fact) → is_bracket f ≡ true → is_value_fact f ≡ true
bracket_is_value fact.array h = refl
bracket_is_value table h = absurd cc
bracket_is_value _ h = refl

pub bracket_fact : (o : Option Fact) → bracket_of o ≡ true → (f : Fact) × (o ≡ Some f) × (is_value_fact f ≡ true)
bracket_fact None h = absurd cc
bracket_fact (Some f) h = (f, refl, bracket_is_value f h)

pub count_step : (t : List Part → Bool) (q : List Part) (l : List (List Part))
    → count_by t (q ∷ l) ≡ cond (t q) 1 0 + count_by t l
count_step t q l = omega (arith, sum_by-append (λ x. cond (t x) 1 0) (q ∷ []) l)

one_more : (b c : Bool) → (b ≡ true → c ≡ true) → cond {A = ℕ} b 1 0 ≤ cond c 1 0
one_more true true f = omega arith
one_more true false f = let k : false ≡ true = f refl in absurd cc
one_more false true f = omega arith
one_more false false f = omega arith

count_more : (t u : List Part → Bool) → ((q : List Part) → t q ≡ true → u q ≡ true) → (l : List (List Part))
    → count_by t l ≤ count_by u l
count_more t u f [] = omega arith
count_more t u f (q ∷ l) =
    omega (arith, count_step t q l, count_step u q l, one_more (t q) (u q) (f q), count_more t u f l)

pub count_map : (t : List Part → Bool) (f : List Part → List Part) (l : List (List Part))
    → count_by t (map f l) ≡ count_by (λ q. t (f q)) l
count_map t f [] = refl
count_map t f (q ∷ l) = omega (arith, count_step t (f q) (map f l), count_step (λ q. t (f q)) q l, count_map t f l)

prefixes_beyond : (p more : List Part) (t : List Part → Bool)
    → count_by (λ q. t (p ++ q)) (prefixes more) ≤ count_by t (prefixes (p ++ more))
prefixes_beyond [] more t = omega arith
prefixes_beyond (a ∷ p) more t =
    omega (
      arith,
      prefixes_beyond p more (λ q. t (a ∷ q)),
      count_map t (λ q. a ∷ q) (prefixes (p ++ more)),
      count_step t [] (map (λ q. a ∷ q) (prefixes (p ++ more))),
    )

pub enclosing_beyond : (p more : List Part) (ms inner : List Mention)
    → ((q : List Part) → fact_at (p ++ q) ms ≡ fact_at q inner) → enclosing more inner ≤ enclosing (p ++ more) ms
enclosing_beyond p more ms inner f =
    let one : count_by (is_bracket_at inner) (prefixes more)
    ≤ count_by (λ q. is_bracket_at ms (p ++ q)) (prefixes more) =
    count_more (is_bracket_at inner) (λ q. is_bracket_at ms (p ++ q)) (λ q h. ap bracket_of (f q) ∙ h)
    (prefixes more) in
    omega (arith, one, prefixes_beyond p more (is_bracket_at ms))

enclosing_further : (n : ℕ) (name : Option Name) (body : Body) (nested rest : Entries) (path : List Part)
    → Rules (entry_mentions n name (body_fact body) (entries_mentions 0 nested) ++ entries_mentions (n + 1) rest)
    → enclosing path (entries_mentions (n + 1) rest)
    ≤ enclosing path (entry_mentions n name (body_fact body) (entries_mentions 0 nested)
    ++ entries_mentions (n + 1) rest)
enclosing_further n name body nested rest path rules =
    let first : List Mention = entry_mentions n name (body_fact body) (entries_mentions 0 nested) in
    let more : List Mention = entries_mentions (n + 1) rest in
    count_more (is_bracket_at more) (is_bracket_at (first ++ more))
    (λ q h. let (f, e, v) = bracket_fact (fact_at q more) h in
    ap bracket_of (ap (λ (x : List Part). fact_at x (first ++ more)) (sym (append-nil q))
    ∙ further_facts n name body nested rest q f rules e v [] ∙ ap (λ (x : List Part). fact_at x more) (append-nil q))
    ∙ h)
    (prefixes path)

-- brackets enclose what is in them
enclosing_nested : (body : Body) (nested : Entries) (p : Part) (ps : List Part) → is_bracket (body_fact body) ≡ true
    → suc (enclosing (p ∷ ps) (entries_mentions 0 nested))
    ≤ enclosing (p ∷ ps) (mentions_of_value (record { body = body; nested = nested }))
enclosing_nested body nested p ps h =
    let v : Value = record { body = body; nested = nested } in
    let t : List Part → Bool = is_bracket_at (entries_mentions 0 nested) in
    let u : List Part → Bool = is_bracket_at (mentions_of_value v) in
    let none_here : cond {A = ℕ} (t []) 1 0 ≡ 0 =
    ap (λ (o : Option Fact). cond {A = ℕ} (bracket_of o) 1 0) (entries_root 0 nested) in
    let one_here : cond {A = ℕ} (u []) 1 0 ≡ 1 = ap (λ b. cond {A = ℕ} b 1 0) h in
    let c : count_by (λ q. t (p ∷ q)) (prefixes ps) ≤ count_by (λ q. u (p ∷ q)) (prefixes ps) =
    count_more (λ q. t (p ∷ q)) (λ q. u (p ∷ q)) (λ q e. e) (prefixes ps) in
    omega (
      arith,
      c,
      none_here,
      one_here,
      count_step t [] (map (λ q. p ∷ q) (prefixes ps)),
      count_step u [] (map (λ q. p ∷ q) (prefixes ps)),
      count_map t (λ q. p ∷ q) (prefixes ps),
      count_map u (λ q. p ∷ q) (prefixes ps),
    )

-- ---- what is done at a value

-- The change is what is done at the value of the path, of which the text says this.
pub record IsDoneAt {A : Type 0} (act : Act) (path : List Part) (mentioned : List Mention) (depth_of : A → ℕ) (from : A)
    (c : Changed A) : Type 0 where
  pub value : Value
  pub done : Changed Value
  pub by : act [] value ≡ Some done
  pub old : c.old ≡ done.old
  pub new : c.new ≡ done.new
  pub facts : (q : List Part) → fact_at (path ++ q) mentioned ≡ fact_at q (mentions_of_value value)
  pub depth : depth_of c.to ≤ max (depth_of from) (enclosing path mentioned + value_depth done.to)
  pub bounded : (k : ℕ) → value_depth done.to ≤ max (value_depth value) k
      → depth_of c.to ≤ max (depth_of from) (enclosing path mentioned + k)

-- nothing is done before the path ends
abbrev pub IsAtEnd : Act → Type 0
IsAtEnd act = (p : Part) (ps : List Part) (v : Value) → act (p ∷ ps) v ≡ None

pub done_framed : {A B : Type 0} (act : Act) (path : List Part) (mentioned : List Mention) (da : A → ℕ) (db : B → ℕ)
    (from : A) (whole : B) (outer : A → B) (left right : List ℕ) (c : Changed A)
    → ((w : ℕ) → da c.to ≤ max (da from) w → db (outer c.to) ≤ max (db whole) w)
    → IsDoneAt act path mentioned da from c → IsDoneAt act path mentioned db whole (framed_change outer left right c)
done_framed act path mentioned da db from whole outer left right c f h =
    record {
      value = h.value;
      done = h.done;
      by = h.by;
      old = h.old;
      new = h.new;
      facts = h.facts;
      depth = f (enclosing path mentioned + value_depth h.done.to) h.depth;
      bounded = λ k e. f (enclosing path mentioned + k) (h.bounded k e);
    }

done_here : (act : Act) (v : Value) (o : Option (Changed Value)) → act [] v ≡ o
    → EachOf (IsDoneAt act [] (mentions_of_value v) value_depth v) o
done_here act v None e = tt
done_here act v (Some c) e =
    record {
      value = v;
      done = c;
      by = e;
      old = refl;
      new = refl;
      facts = λ q. refl;
      depth = omega arith;
      bounded = λ k h. omega (arith, h);
    }

around_step : (b : Body) (d e k m w : ℕ) → e ≤ max d (k + w) → (is_bracket (body_fact b) ≡ true → suc k ≤ m)
    → around b e ≤ max (around b d) (m + w)
around_step (scalar l) d e k m w h f = omega arith
around_step (array first) d e k m w h f = omega (arith, h, f refl)
around_step (inline first) d e k m w h f = omega (arith, h, f refl)

done_deeper : (act : Act) (more : List Part) (body : Body) (nested : Entries) (left right : List ℕ)
    (c : Changed Entries)
    → IsDoneAt act more (entries_mentions 0 nested) entries_depth nested c
    → IsDoneAt act more (mentions_of_value (record { body = body; nested = nested })) value_depth
    (record { body = body; nested = nested }) (framed_change (λ es. record { body = body; nested = es }) left right c)
done_deeper act [] body nested left right c h =
    let k : None ≡ Some (body_fact h.value.body) = sym (entries_root 0 nested) ∙ h.facts [] in absurd cc
done_deeper act (p ∷ ps) body nested left right c h =
    record {
      value = h.value;
      done = h.done;
      by = h.by;
      old = h.old;
      new = h.new;
      facts = h.facts;
      depth = around_step body (entries_depth nested) (entries_depth c.to)
          (enclosing (p ∷ ps) (entries_mentions 0 nested))
          (enclosing (p ∷ ps) (mentions_of_value (record { body = body; nested = nested }))) (value_depth h.done.to)
          h.depth
          (λ e. enclosing_nested body nested p ps e);
      bounded =
          λ k e. around_step body (entries_depth nested) (entries_depth c.to)
          (enclosing (p ∷ ps) (entries_mentions 0 nested))
          (enclosing (p ∷ ps) (mentions_of_value (record { body = body; nested = nested }))) k (h.bounded k e)
          (λ b. enclosing_nested body nested p ps b);
    }

done_value-by : (act : Act) → IsAtEnd act → (more : List Part) (body : Body) (nested : Entries) (left right : List ℕ)
    → EachOf (IsDoneAt act more (entries_mentions 0 nested) entries_depth nested) (in_entries act more 0 nested)
    → (let v : Value = record { body = body; nested = nested } in
    EachOf (IsDoneAt act more (mentions_of_value v) value_depth v)
    (or_else (within (λ es. record { body = body; nested = es }) left right (in_entries act more 0 nested))
    (act more v)))
done_value-by act ends more body nested left right h =
    let v : Value = record { body = body; nested = nested } in
    of_or_else (IsDoneAt act more (mentions_of_value v) value_depth v)
    (within (λ es. record { body = body; nested = es }) left right (in_entries act more 0 nested)) (act more v)
    (of_within (IsDoneAt act more (entries_mentions 0 nested) entries_depth nested)
    (IsDoneAt act more (mentions_of_value v) value_depth v) (λ es. record { body = body; nested = es }) left right
    (in_entries act more 0 nested)
    (λ c k. done_deeper act more body nested left right c k) h)
    (by more)
  where
    by : (more : List Part)
        → (let v : Value = record { body = body; nested = nested } in
        EachOf (IsDoneAt act more (mentions_of_value v) value_depth v) (act more v))
    by [] = done_here act (record { body = body; nested = nested }) (act [] (record { body = body; nested = nested }))
        refl
    by (p ∷ ps) =
        let v : Value = record { body = body; nested = nested } in
        subst (EachOf (IsDoneAt act (p ∷ ps) (mentions_of_value v) value_depth v)) (sym (ends p ps v)) tt

done_further : (act : Act) (path : List Part) (n : ℕ) (name : Option Name) (body : Body) (nested : Entries)
    (after : Gap) (comma : Option Gap) (rest : Entries) (left right : List ℕ) (c : Changed Entries)
    → Rules (entries_mentions n (entry name body nested after comma rest))
    → IsDoneAt act path (entries_mentions (n + 1) rest) entries_depth rest c
    → IsDoneAt act path (entries_mentions n (entry name body nested after comma rest)) entries_depth
    (entry name body nested after comma rest) (framed_change (entry name body nested after comma) left right c)
done_further act path n name body nested after comma rest left right c rules h =
    let here : fact_at path (entries_mentions (n + 1) rest) ≡ Some (body_fact h.value.body) =
    ap (λ (x : List Part). fact_at x (entries_mentions (n + 1) rest)) (sym (append-nil path)) ∙ h.facts [] in
    record {
      value = h.value;
      done = h.done;
      by = h.by;
      old = h.old;
      new = h.new;
      facts = λ q.
          further_facts n name body nested rest path (body_fact h.value.body) rules here (value_fact-body h.value.body)
          q ∙ h.facts q;
      depth = omega (arith, h.depth, enclosing_further n name body nested rest path rules);
      bounded = λ k e. omega (arith, h.bounded k e, enclosing_further n name body nested rest path rules);
    }

done_entry : (act : Act) (path more : List Part) (n : ℕ) (name : Option Name) (body : Body) (nested : Entries)
    (after : Gap) (comma : Option Gap) (rest : Entries) (left right : List ℕ) (c : Changed Value)
    → Rules (entries_mentions n (entry name body nested after comma rest)) → path ≡ step n name ++ more
    → (let v : Value = record { body = body; nested = nested } in
    IsDoneAt act more (mentions_of_value v) value_depth v c)
    → IsDoneAt act path (entries_mentions n (entry name body nested after comma rest)) entries_depth
    (entry name body nested after comma rest)
    (framed_change (λ v. entry name v.body v.nested after comma rest) left right c)
done_entry act path more n name body nested after comma rest left right c rules e h =
    let v : Value = record { body = body; nested = nested } in
    let mentioned : List Mention = entries_mentions n (entry name body nested after comma rest) in
    let f : (q : List Part) → fact_at (step n name ++ q) mentioned ≡ fact_at q (mentions_of_value v) =
    step_facts n name body nested after comma rest rules in
    let g : enclosing more (mentions_of_value v) ≤ enclosing path mentioned =
    subst (λ (x : List Part). enclosing more (mentions_of_value v) ≤ enclosing x mentioned) (sym e)
    (enclosing_beyond (step n name) more mentioned (mentions_of_value v) f) in
    record {
      value = h.value;
      done = h.done;
      by = h.by;
      old = h.old;
      new = h.new;
      facts = λ q. ap (λ (x : List Part). fact_at (x ++ q) mentioned) e
          ∙ ap (λ (x : List Part). fact_at x mentioned) (append_assoc (step n name) more q) ∙ f (more ++ q) ∙ h.facts q;
      depth = omega (arith, h.depth, g);
      bounded = λ k e. omega (arith, h.bounded k e, g);
    }

done_entries-by : (act : Act) → IsAtEnd act
    → (path : List Part) (n : ℕ) (name : Option Name) (body : Body) (nested : Entries) (after : Gap)
    (comma : Option Gap) (rest : Entries)
    → Rules (entries_mentions n (entry name body nested after comma rest))
    → EachOf (IsDoneAt act path (entries_mentions (n + 1) rest) entries_depth rest) (in_entries act path (n + 1) rest)
    → ((more : List Part)
    → EachOf (IsDoneAt act more (entries_mentions 0 nested) entries_depth nested) (in_entries act more 0 nested))
    → (o : Option (List Part)) → strip (step n name) path ≡ o
    → EachOf (IsDoneAt act path (entries_mentions n (entry name body nested after comma rest)) entries_depth
    (entry name body nested after comma rest)) (elim o [
      | None ↦
          within (entry name body nested after comma)
          (entry_prefix name body nested ++ (text_of after ++ text_of (comma_leaves comma))) []
          (in_entries act path (n + 1) rest)
      | Some more ↦
          within (λ v. entry name v.body v.nested after comma rest) (text_of (named_leaves name))
          (entry_back after comma rest)
          (or_else (within (λ es. record { body = body; nested = es }) (text_of (opening body)) (text_of (closing body))
          (in_entries act more 0 nested))
          (act more (record { body = body; nested = nested })))
    ])
done_entries-by act ends path n name body nested after comma rest rules further deeper None e =
    let whole : Entries = entry name body nested after comma rest in
    of_within (IsDoneAt act path (entries_mentions (n + 1) rest) entries_depth rest)
    (IsDoneAt act path (entries_mentions n whole) entries_depth whole)
    (entry name body nested after comma)
    (entry_prefix name body nested ++ (text_of after ++ text_of (comma_leaves comma))) []
    (in_entries act path (n + 1) rest)
    (λ c h. done_further act path n name body nested after comma rest
    (entry_prefix name body nested ++ (text_of after ++ text_of (comma_leaves comma))) [] c rules h) further
done_entries-by act ends path n name body nested after comma rest rules further deeper (Some more) e =
    let whole : Entries = entry name body nested after comma rest in
    let v : Value = record { body = body; nested = nested } in
    of_within (IsDoneAt act more (mentions_of_value v) value_depth v)
    (IsDoneAt act path (entries_mentions n whole) entries_depth whole)
    (λ v. entry name v.body v.nested after comma rest) (text_of (named_leaves name)) (entry_back after comma rest) _
    (λ c h. done_entry act path more n name body nested after comma rest (text_of (named_leaves name))
    (entry_back after comma rest) c rules (strip-sound (step n name) path more e) h)
    (done_value-by act ends more body nested (text_of (opening body)) (text_of (closing body)) (deeper more))

pub done_entries : (act : Act) → IsAtEnd act → (path : List Part) (n : ℕ) (es : Entries) → Rules (entries_mentions n es)
    → EachOf (IsDoneAt act path (entries_mentions n es) entries_depth es) (in_entries act path n es)
done_entries act ends path n none rules = tt
done_entries act ends path n (entry name body nested after comma rest) rules =
    let first : List Mention = entry_mentions n name (body_fact body) (entries_mentions 0 nested) in
    let split = pairs_split Allowed first (entries_mentions (n + 1) rest) rules in
    done_entries-by act ends path n name body nested after comma rest rules
    (done_entries act ends path (n + 1) rest split.right)
    (λ more.
    done_entries act ends more 0 nested (rules_named n name (body_fact body) (entries_mentions 0 nested) split.left))
    (strip (step n name) path) refl

pub done_value : (act : Act) → IsAtEnd act → (more : List Part) (v : Value) → Rules (entries_mentions 0 v.nested)
    → EachOf (IsDoneAt act more (mentions_of_value v) value_depth v) (in_value act more v)
done_value act ends more v rules =
    done_value-by act ends more v.body v.nested (text_of (opening v.body)) (text_of (closing v.body))
    (done_entries act ends more 0 v.nested rules)
