-- `set` replaces a run of mentions at and under its path, and nothing else is there.
--
-- A run of mentions is a value's own mention and those inside it. `set_entries` is an induction over the entries: the
-- path leads into an entry or past it. So the hard part is that all other mentions are disjoint from the path. Mentions
-- are closed: what is mentioned under a path comes with a mention at the path (`Closed`, `closed_entries`). By the
-- rules nothing can be mentioned beside a value (`clash_before`, `clash_after`). So nothing else is mentioned under it
-- either (`disjoint_closed`), neither before it (`disjoint_from_held`) nor after it (`disjoint_from_entry`). Items
-- differ by their numbers.
--
-- Theorems: `set_entries` and `set_value`: setting a value in entries, or in a value, replaces its run of mentions
-- alone.
use Rattle.std.proofs.Common.{◌≡◌, ℕ, ◌+◌, ◌<◌, ◌≤◌, Bool, true, false, List, [], ◌∷◌, ◌++◌, map, refl, sym, ap, subst}
use Rattle.std.proofs.Common.{◌∙◌, append_assoc, arith, Option, Some, None, inl, inr}
use Rattle.std.specs.Prelude.{⊤, ◌==◌}
use Rattle.std.proofs.lemmas.List.{map-append, append-nil}
use Rattle.std.proofs.lemmas.Bool.{eqb-true}
use Rattle.keep_syntax.specs.Tree.{Gap, Name, Body, Entries, none, entry, Value, named_leaves, opening, closing}
use Rattle.keep_syntax.specs.Tree.{comma_leaves, text_of}
use Rattle.keep_meaning.specs.Fact.{Fact}
use Rattle.keep_path.specs.Path.{Part, key, index, same_part}
use Rattle.keep_meaning.specs.Marks.{MentionKind, through, past, define, element, dotted, value, begun, passed, item}
use Rattle.keep_meaning.specs.Marks.{Mention, below, fact_of}
use Rattle.keep_meaning.specs.Meaning.{key_value, further_value, keys_of, body_fact, valued_mentions, keyed_mentions}
use Rattle.keep_meaning.specs.Meaning.{entry_mentions, entries_mentions, step}
use Rattle.keep_edit_spec.specs.Look.{strip}
use Rattle.keep_edit_spec.specs.Changed.{Changed, within, or_else}
use Rattle.keep_edit_spec.specs.Values.{Act, entry_prefix, entry_back, in_entries, in_value, replacement}
use Rattle.keep_edit_spec.proofs.Common.Runs.{AllOf, SomeOf, Pairs, pairs_split, all_join, all_map, meet, some_left}
use Rattle.keep_edit_spec.proofs.Common.Runs.{some_right, Allowed, Rules, kinds_allow, exclusive, solid, IsDisjoint}
use Rattle.keep_edit_spec.proofs.Common.Runs.{IsUnder, same_part-sound, strip-sound, strip_both, disjoint_longer}
use Rattle.keep_edit_spec.proofs.Common.Runs.{none_or_some}

-- ---- what is alone

pub exclusive-solid : (a b : MentionKind) → exclusive a ≡ true → solid b ≡ true → kinds_allow a b ≡ false
exclusive-solid a b e h = rw (e, h) refl

pub exclusive_is_solid : (a : MentionKind) → exclusive a ≡ true → solid a ≡ true
exclusive_is_solid (value f) e = refl
exclusive_is_solid (item f) e = refl
exclusive_is_solid through e = refl
exclusive_is_solid past e = refl
exclusive_is_solid define e = refl
exclusive_is_solid element e = refl
exclusive_is_solid dotted e = refl
exclusive_is_solid begun e = absurd cc
exclusive_is_solid passed e = absurd cc

pub solid-exclusive : (a b : MentionKind) → solid a ≡ true → exclusive b ≡ true → kinds_allow a b ≡ false
solid-exclusive a b h e = by (exclusive a) refl
  where
    by : (c : Bool) → exclusive a ≡ c → kinds_allow a b ≡ false
    by true k = exclusive-solid a b k (exclusive_is_solid b e)
    by false k = rw (k, e, h) refl

-- ---- each prefix of a path, down to the value, is spoken of where something beyond it is

pub record IsSolidAt (p : List Part) (m : Mention) : Type 0 where
  pub path : m.path ≡ p
  pub kind : solid m.kind ≡ true

pub record IsAloneAt (p : List Part) (m : Mention) : Type 0 where
  pub path : m.path ≡ p
  pub kind : exclusive m.kind ≡ true

abbrev pub ClosedAt : List Part → List Mention → List Mention → Type 0
ClosedAt p all ms = AllOf (λ m. IsUnder p m → SomeOf (IsSolidAt p) all) ms

abbrev pub Closed : List Mention → Type 0
Closed ms = (q : Part) (qs : List Part) → ClosedAt (q ∷ qs) ms ms

pub closed_join : (xs ys : List Mention) → Closed xs → Closed ys → Closed (xs ++ ys)
closed_join xs ys h g j js =
    let p : List Part = j ∷ js in
    all_join (λ m. IsUnder p m → SomeOf (IsSolidAt p) (xs ++ ys)) xs ys
    (all_map (λ m. IsUnder p m → SomeOf (IsSolidAt p) xs) (λ m. IsUnder p m → SomeOf (IsSolidAt p) (xs ++ ys))
    (λ m f u. some_left (IsSolidAt p) xs ys (f u)) xs (h j js))
    (all_map (λ m. IsUnder p m → SomeOf (IsSolidAt p) ys) (λ m. IsUnder p m → SomeOf (IsSolidAt p) (xs ++ ys))
    (λ m f u. some_right (IsSolidAt p) xs ys (f u)) ys (g j js))

-- what is under a path beyond a prefix
pub some_below : (s p : List Part) (ms : List Mention) → SomeOf (IsSolidAt p) ms
    → SomeOf (IsSolidAt (s ++ p)) (map (below s) ms)
some_below s p [] h = absurd h
some_below s p (m ∷ ms) (inl h) = inl (record { path = ap (λ q. s ++ q) h.path; kind = h.kind })
some_below s p (m ∷ ms) (inr h) = inr (some_below s p ms h)

pub some_alone_below : (s p : List Part) (ms : List Mention) → SomeOf (IsAloneAt p) ms
    → SomeOf (IsAloneAt (s ++ p)) (map (below s) ms)
some_alone_below s p [] h = absurd h
some_alone_below s p (m ∷ ms) (inl h) = inl (record { path = ap (λ q. s ++ q) h.path; kind = h.kind })
some_alone_below s p (m ∷ ms) (inr h) = inr (some_alone_below s p ms h)

pub under_part : (j k : Part) (p q r : List Part) (c : Bool) → same_part j k ≡ c
    → elim c [ true ↦ strip p q | false ↦ None ] ≡ Some r → (j ≡ k) × (strip p q ≡ Some r)
under_part j k p q r true e h = (same_part-sound j k e, h)
under_part j k p q r false e h = absurd cc

closed_step : (k : Part) (all ms : List Mention) → SomeOf (IsSolidAt []) all → (j : Part) (js : List Part)
    → ((i : Part) (is : List Part) → ClosedAt (i ∷ is) all ms)
    → ClosedAt (j ∷ js) (map (below (k ∷ [])) all) (map (below (k ∷ [])) ms)
closed_step k all [] top j js h = tt
closed_step k all (m ∷ ms) top j [] h = (
  (λ u. let (same, more) = under_part j k [] m.path u.0 (same_part j k) refl u.1 in
      subst (λ (x : Part). SomeOf (IsSolidAt (x ∷ [])) (map (below (k ∷ [])) all)) (sym same)
      (some_below (k ∷ []) [] all top)),
  closed_step k all ms top j [] (λ i is. (h i is).1),
)
closed_step k all (m ∷ ms) top j (i ∷ is) h = (
  (λ u. let (same, more) = under_part j k (i ∷ is) m.path u.0 (same_part j k) refl u.1 in
      subst (λ (x : Part). SomeOf (IsSolidAt (x ∷ i ∷ is)) (map (below (k ∷ [])) all)) (sym same)
      (some_below (k ∷ []) (i ∷ is) all ((h i is).0 (u.0, more)))),
  closed_step k all ms top j (i ∷ is) (λ i is. (h i is).1),
)

pub closed_below : (k : Part) (ms : List Mention) → SomeOf (IsSolidAt []) ms → Closed ms
    → Closed (map (below (k ∷ [])) ms)
closed_below k ms top h j js = closed_step k ms ms top j js h

-- what is at the start is under no key
pub closed_cons : (mention_kind : MentionKind) (ms : List Mention) → Closed ms
    → Closed (record { path = []; kind = mention_kind } ∷ ms)
closed_cons mention_kind ms h j js = (
  (λ u. absurd (none_some u.0 u.1)),
  all_map (λ m. IsUnder (j ∷ js) m → SomeOf (IsSolidAt (j ∷ js)) ms)
      (λ m. IsUnder (j ∷ js) m → SomeOf (IsSolidAt (j ∷ js)) (record { path = []; kind = mention_kind } ∷ ms))
      (λ m f u. inr (f u)) ms (h j js),
)
  where
    none_some : (r : List Part) → strip (j ∷ js) [] ≡ Some r → ⊥
    none_some r e = cc

pub closed_keyed : (k : List ℕ) (ks : List (List ℕ)) (ms : List Mention) → SomeOf (IsSolidAt []) ms → Closed ms
    → Closed (keyed_mentions (k ∷ ks) ms)
closed_keyed k [] ms top h = closed_below (key k) ms top h
closed_keyed k (l ∷ ks) ms top h =
    closed_below (key k) (record { path = []; kind = dotted } ∷ keyed_mentions (l ∷ ks) ms)
    (inl (record { path = refl; kind = refl }))
    (closed_cons dotted (keyed_mentions (l ∷ ks) ms) (closed_keyed l ks ms top h))

pub closed_named : (n : ℕ) (name : Option Name) (f : Fact) (nested : List Mention) → Closed nested
    → Closed (entry_mentions n name f nested)
closed_named n None f nested h =
    closed_below (index n) (valued_mentions (item f) nested) (inl (record { path = refl; kind = refl }))
    (closed_cons (item f) nested h)
closed_named n (Some name) f nested h =
    closed_keyed _ _ (valued_mentions (value f) nested) (inl (record { path = refl; kind = refl }))
    (closed_cons (value f) nested h)

pub closed_entries : (n : ℕ) (es : Entries) → Closed (entries_mentions n es)
closed_entries n none = λ j js. tt
closed_entries n (entry name body nested after comma rest) =
    closed_join (entry_mentions n name (body_fact body) (entries_mentions 0 nested)) (entries_mentions (n + 1) rest)
    (closed_named n name (body_fact body) (entries_mentions 0 nested) (closed_entries 0 nested))
    (closed_entries (n + 1) rest)

-- ---- the run of a value

abbrev pub run : List Part → MentionKind → List Mention → List Mention
run path mention_kind nested = record { path = path; kind = mention_kind } ∷ map (below path) nested

-- how a value is mentioned: as an item or as a keyval
abbrev pub tag_of : Option Name → Fact → MentionKind
tag_of None f = item f
tag_of (Some name) f = value f

pub tag_stated : (name : Option Name) (f : Fact) → fact_of (tag_of name f) ≡ Some f
tag_stated None f = refl
tag_stated (Some name) f = refl

pub tag_alone : (name : Option Name) (f : Fact) → exclusive (tag_of name f) ≡ true
tag_alone None f = refl
tag_alone (Some name) f = refl

-- The mentions of the new tree are those of the old one, with the run at the path replaced; there is nothing else at or
-- under it. The value has that name, or is an item; `fact` and `entries` are those of the value before.
pub record IsSet (path : List Part) (new : Value) (from to : List Mention) : Type 0 where
  pub name : Option Name
  pub fact : Fact
  pub entries : Entries
  pub before : List Mention
  pub after : List Mention
  pub was : from ≡ before ++ (run path (tag_of name fact) (entries_mentions 0 entries) ++ after)
  pub is : to ≡ before ++ (run path (tag_of name (body_fact new.body)) (entries_mentions 0 new.nested) ++ after)
  pub disjoint_before : AllOf (IsDisjoint path) before
  pub disjoint_after : AllOf (IsDisjoint path) after

pub map_twice : (s p : List Part) (ms : List Mention) → map (below s) (map (below p) ms) ≡ map (below (s ++ p)) ms
map_twice s p [] = refl
map_twice s p (m ∷ ms) =
    let one : s ++ (p ++ m.path) ≡ (s ++ p) ++ m.path = sym (append_assoc s p m.path) in
    ap (λ (q : List Part). record { path = q; kind = m.kind } ∷ map (below s) (map (below p) ms)) one
    ∙ ap (λ l. below (s ++ p) m ∷ l) (map_twice s p ms)

pub map_none : (ms : List Mention) → map (below []) ms ≡ ms
map_none [] = refl
map_none (m ∷ ms) = ap (λ l. m ∷ l) (map_none ms)

map_parts : (s p : List Part) (before nested after : List Mention) (mention_kind : MentionKind)
    → map (below s) (before ++ (run p mention_kind nested ++ after)) ≡ map (below s) before
    ++ (run (s ++ p) mention_kind nested ++ map (below s) after)
map_parts s p before nested after mention_kind =
    map-append (below s) before (run p mention_kind nested ++ after)
    ∙ ap (λ l. map (below s) before ++ l)
    (map-append (below s) (run p mention_kind nested) after
    ∙ ap (λ l. (record { path = s ++ p; kind = mention_kind } ∷ l) ++ map (below s) after) (map_twice s p nested))

pub disjoint_below : (s p : List Part) (ms : List Mention) → AllOf (IsDisjoint p) ms
    → AllOf (IsDisjoint (s ++ p)) (map (below s) ms)
disjoint_below s p [] h = tt
disjoint_below s p (m ∷ ms) h = (strip_both s p m.path ∙ h.0, disjoint_below s p ms h.1)

pub set_below : (s path : List Part) (new : Value) (from to : List Mention) → IsSet path new from to
    → IsSet (s ++ path) new (map (below s) from) (map (below s) to)
set_below s path new from to h = record {
  name = h.name;
  fact = h.fact;
  entries = h.entries;
  before = map (below s) h.before;
  after = map (below s) h.after;
  was = ap (map (below s)) h.was
      ∙ map_parts s path h.before (entries_mentions 0 h.entries) h.after (tag_of h.name h.fact);
  is = ap (map (below s)) h.is
      ∙ map_parts s path h.before (entries_mentions 0 new.nested) h.after (tag_of h.name (body_fact new.body));
  disjoint_before = disjoint_below s path h.before h.disjoint_before;
  disjoint_after = disjoint_below s path h.after h.disjoint_after;
}

around : (left before mid after right : List Mention)
    → left ++ ((before ++ (mid ++ after)) ++ right) ≡ (left ++ before) ++ (mid ++ (after ++ right))
around left before mid after right = simp append_assoc refl

pub set_beside : (path : List Part) (new : Value) (from to left right : List Mention) → AllOf (IsDisjoint path) left
    → AllOf (IsDisjoint path) right
    → IsSet path new from to → IsSet path new (left ++ (from ++ right)) (left ++ (to ++ right))
set_beside path new from to left right hl hr h = record {
  name = h.name;
  fact = h.fact;
  entries = h.entries;
  before = left ++ h.before;
  after = h.after ++ right;
  was = ap (λ l. left ++ (l ++ right)) h.was
      ∙ around left h.before (run path (tag_of h.name h.fact) (entries_mentions 0 h.entries)) h.after right;
  is = ap (λ l. left ++ (l ++ right)) h.is
      ∙ around left h.before (run path (tag_of h.name (body_fact new.body)) (entries_mentions 0 new.nested)) h.after
      right;
  disjoint_before = all_join (IsDisjoint path) left h.before hl h.disjoint_before;
  disjoint_after = all_join (IsDisjoint path) h.after right h.disjoint_after hr;
}

-- ---- keys

pub keyed_split : (ks : List (List ℕ)) (ms : List Mention)
    → keyed_mentions ks ms ≡ keyed_mentions ks [] ++ map (below (map key ks)) ms
keyed_split [] ms = sym (map_none ms)
keyed_split (k ∷ []) ms = refl
keyed_split (k ∷ l ∷ ks) ms =
    ap (λ x. map (below (key k ∷ [])) (record { path = []; kind = dotted } ∷ x)) (keyed_split (l ∷ ks) ms)
    ∙ map-append (below (key k ∷ [])) (record { path = []; kind = dotted } ∷ keyed_mentions (l ∷ ks) [])
    (map (below (map key (l ∷ ks))) ms)
    ∙ ap (λ x. map (below (key k ∷ [])) (record { path = []; kind = dotted } ∷ keyed_mentions (l ∷ ks) []) ++ x)
    (map_twice (key k ∷ []) (map key (l ∷ ks)) ms)

pub keyed_disjoint : (k : List ℕ) (ks : List (List ℕ))
    → AllOf (IsDisjoint (map key (k ∷ ks))) (keyed_mentions (k ∷ ks) [])
keyed_disjoint k [] = tt
keyed_disjoint k (l ∷ ks) =
    disjoint_below (key k ∷ []) (map key (l ∷ ks)) (record { path = []; kind = dotted } ∷ keyed_mentions (l ∷ ks) [])
    (refl, keyed_disjoint l ks)

-- ---- what cannot be beside a value

pub clash_before : (p : List Part) (xs ys : List Mention) → SomeOf (IsSolidAt p) xs → SomeOf (IsAloneAt p) ys
    → Pairs Allowed (xs ++ ys) → ⊥
clash_before p xs ys h g rules =
    let (x, solid_x, all_x) =
    meet (IsSolidAt p) (λ x. AllOf (Allowed x) ys) xs h (pairs_split Allowed xs ys rules).across in
    let (y, alone_y, allowed) = meet (IsAloneAt p) (Allowed x) ys g all_x in
    let yes : kinds_allow x.kind y.kind ≡ true = allowed (solid_x.path ∙ sym alone_y.path) in
    let no : kinds_allow x.kind y.kind ≡ false = solid-exclusive x.kind y.kind solid_x.kind alone_y.kind in
    absurd cc

pub clash_after : (p : List Part) (xs ys : List Mention) → SomeOf (IsAloneAt p) xs → SomeOf (IsSolidAt p) ys
    → Pairs Allowed (xs ++ ys) → ⊥
clash_after p xs ys h g rules =
    let (x, alone_x, all_x) =
    meet (IsAloneAt p) (λ x. AllOf (Allowed x) ys) xs h (pairs_split Allowed xs ys rules).across in
    let (y, solid_y, allowed) = meet (IsSolidAt p) (Allowed x) ys g all_x in
    let yes : kinds_allow x.kind y.kind ≡ true = allowed (alone_x.path ∙ sym solid_y.path) in
    let no : kinds_allow x.kind y.kind ≡ false = exclusive-solid x.kind y.kind alone_x.kind solid_y.kind in
    absurd cc

-- where nothing solid is at a path, nothing is under it
pub disjoint_closed : (p : List Part) (all ms : List Mention) → ClosedAt p all ms → (SomeOf (IsSolidAt p) all → ⊥)
    → AllOf (IsDisjoint p) ms
disjoint_closed p all [] h never = tt
disjoint_closed p all (m ∷ ms) h never = (
  elim (none_or_some (strip p m.path)) [ inl e ↦ e | inr u ↦ absurd (never (h.0 u)) ],
  disjoint_closed p all ms h.1 never,
)

pub all_longer : (s p : List Part) (ms : List Mention) → AllOf (IsDisjoint s) ms → AllOf (IsDisjoint (s ++ p)) ms
all_longer s p ms h = all_map (IsDisjoint s) (IsDisjoint (s ++ p)) (λ m a. disjoint_longer s p m a) ms h

-- ---- items have their own numbers

pub other_number : (m n : ℕ) → m < n → (m == n) ≡ false
other_number m n h = by (m == n) refl
  where
    by : (b : Bool) → (m == n) ≡ b → (m == n) ≡ false
    by true e = let k : m ≡ n = eqb-true m n e in absurd (omega arith)
    by false e = e

pub more_number : (m n : ℕ) → m < n → (n == m) ≡ false
more_number m n h = by (n == m) refl
  where
    by : (b : Bool) → (n == m) ≡ b → (n == m) ≡ false
    by true e = let k : n ≡ m = eqb-true n m e in absurd (omega arith)
    by false e = e

disjoint_step : (k n : ℕ) (tail : List Part) (ms : List Mention) → (k == n) ≡ false
    → AllOf (IsDisjoint (index k ∷ tail)) (map (below (index n ∷ [])) ms)
disjoint_step k n tail [] h = tt
disjoint_step k n tail (m ∷ ms) h = (rw (strip, h) refl, disjoint_step k n tail ms h)

disjoint_key : (k : ℕ) (tail : List Part) (j : List ℕ) (ms : List Mention)
    → AllOf (IsDisjoint (index k ∷ tail)) (map (below (key j ∷ [])) ms)
disjoint_key k tail j [] = tt
disjoint_key k tail j (m ∷ ms) = (refl, disjoint_key k tail j ms)

disjoint_keyed : (k : ℕ) (tail : List Part) (j : List ℕ) (js : List (List ℕ)) (ms : List Mention)
    → AllOf (IsDisjoint (index k ∷ tail)) (keyed_mentions (j ∷ js) ms)
disjoint_keyed k tail j [] ms = disjoint_key k tail j ms
disjoint_keyed k tail j (l ∷ js) ms =
    disjoint_key k tail j (record { path = []; kind = dotted } ∷ keyed_mentions (l ∷ js) ms)

pub disjoint_named : (k n : ℕ) (tail : List Part) (name : Option Name) (f : Fact) (nested : List Mention)
    → (k == n) ≡ false → AllOf (IsDisjoint (index k ∷ tail)) (entry_mentions n name f nested)
disjoint_named k n tail None f nested h = disjoint_step k n tail (valued_mentions (item f) nested) h
disjoint_named k n tail (Some name) f nested h = disjoint_keyed k tail _ _ (valued_mentions (value f) nested)

pub later_disjoint : (k n : ℕ) (tail : List Part) (es : Entries) → k < n
    → AllOf (IsDisjoint (index k ∷ tail)) (entries_mentions n es)
later_disjoint k n tail none h = tt
later_disjoint k n tail (entry name body nested after comma rest) h =
    all_join (IsDisjoint (index k ∷ tail)) (entry_mentions n name (body_fact body) (entries_mentions 0 nested))
    (entries_mentions (n + 1) rest)
    (disjoint_named k n tail name (body_fact body) (entries_mentions 0 nested) (other_number k n h))
    (later_disjoint k (n + 1) tail rest (omega arith))

-- ---- set inside entries

-- the path goes through an entry of these, or names one
pub data Held (n : ℕ) (path : List Part) (ms : List Mention) : Type 0 where
  by_key : (j : List ℕ) (js : List (List ℕ)) (tail : List Part) → path ≡ map key (j ∷ js) ++ tail
      → SomeOf (IsAloneAt (map key (j ∷ js))) ms → Held n path ms
  by_index : (k : ℕ) (tail : List Part) → n ≤ k → path ≡ index k ∷ tail → Held n path ms

pub record IsSetIn (n : ℕ) (path : List Part) (new : Value) (from to : List Mention) : Type 0 where
  pub set : IsSet path new from to
  pub held : Held n path from

abbrev pub EachTo : {A : Type 0} → (A → Type 0) → Option (Changed A) → Type 0
EachTo P None = ⊤
EachTo P (Some c) = P c.to

pub to_within : {A B : Type 0} (P : A → Type 0) (Q : B → Type 0) (outer : A → B) (left right : List ℕ)
    (o : Option (Changed A))
    → ((y : A) → P y → Q (outer y)) → EachTo P o → EachTo Q (within outer left right o)
to_within P Q outer left right None f h = tt
to_within P Q outer left right (Some c) f h = f c.to h

pub to_or_else : {A : Type 0} (P : A → Type 0) (o p : Option (Changed A)) → EachTo P o → EachTo P p
    → EachTo P (or_else o p)
to_or_else P None p h g = g
to_or_else P (Some c) p h g = h

-- what comes before the entries that hold the path is disjoint from it
pub disjoint_from_held : (n : ℕ) (path : List Part) (name : Option Name) (f : Fact) (nested rest : List Mention)
    → Closed nested
    → Held (n + 1) path rest → Rules (entry_mentions n name f nested ++ rest)
    → AllOf (IsDisjoint path) (entry_mentions n name f nested)
disjoint_from_held n path name f nested rest closed (by_key j js tail e alone) rules =
    let e_mentions : List Mention = entry_mentions n name f nested in
    subst (λ (q : List Part). AllOf (IsDisjoint q) (entry_mentions n name f nested)) (sym e)
    (all_longer (map key (j ∷ js)) tail e_mentions
    (disjoint_closed (map key (j ∷ js)) e_mentions e_mentions (closed_named n name f nested closed (key j) (map key js))
    (λ s. clash_before (map key (j ∷ js)) e_mentions rest s alone rules)))
disjoint_from_held n path name f nested rest closed (by_index k tail h e) rules =
    subst (λ (q : List Part). AllOf (IsDisjoint q) (entry_mentions n name f nested)) (sym e)
    (disjoint_named k n tail name f nested (more_number n k (omega arith)))

-- what comes after an entry is disjoint from what is in it
pub disjoint_from_entry : (n : ℕ) (name : Option Name) (f : Fact) (nested : List Mention) (rest : Entries)
    (more : List Part)
    → Rules (entry_mentions n name f nested ++ entries_mentions (n + 1) rest)
    → AllOf (IsDisjoint (step n name ++ more)) (entries_mentions (n + 1) rest)
disjoint_from_entry n None f nested rest more rules = later_disjoint n (n + 1) more rest (omega arith)
disjoint_from_entry n (Some name) f nested rest more rules =
    let p : List Part = map key (keys_of name.key) in
    let top : SomeOf (IsAloneAt p) (keyed_mentions (keys_of name.key) (valued_mentions (value f) nested)) =
    subst (λ (l : List Mention). SomeOf (IsAloneAt p) l)
    (sym (keyed_split (keys_of name.key) (valued_mentions (value f) nested)))
    (some_right (IsAloneAt p) (keyed_mentions (keys_of name.key) []) (map (below p) (valued_mentions (value f) nested))
    (inl (record { path = append-nil p; kind = refl }))) in
    all_longer p more (entries_mentions (n + 1) rest)
    (disjoint_closed p (entries_mentions (n + 1) rest) (entries_mentions (n + 1) rest)
    (closed_entries (n + 1) rest (key (key_value name.key.first)) (map key (map further_value name.key.more)))
    (λ s. clash_after p (keyed_mentions (keys_of name.key) (valued_mentions (value f) nested))
    (entries_mentions (n + 1) rest) top s rules))

-- the rules hold inside a value too
pub rules_below : (s : List Part) (ms : List Mention) → Rules (map (below s) ms) → Rules ms
rules_below s [] h = tt
rules_below s (m ∷ ms) h = (one ms h.0, rules_below s ms h.1)
  where
    one : (xs : List Mention) → AllOf (Allowed (below s m)) (map (below s) xs) → AllOf (Allowed m) xs
    one [] g = tt
    one (x ∷ xs) g = ((λ e. g.0 (ap (λ q. s ++ q) e)), one xs g.1)

pub rules_named : (n : ℕ) (name : Option Name) (f : Fact) (nested : List Mention)
    → Rules (entry_mentions n name f nested) → Rules nested
rules_named n None f nested h = (rules_below (index n ∷ []) (valued_mentions (item f) nested) h).1
rules_named n (Some name) f nested h =
    let both : Rules (keyed_mentions (keys_of name.key) []
    ++ map (below (map key (keys_of name.key))) (valued_mentions (value f) nested)) =
    subst Rules (keyed_split (keys_of name.key) (valued_mentions (value f) nested)) h in
    (rules_below (map key (keys_of name.key)) (valued_mentions (value f) nested)
    (pairs_split Allowed (keyed_mentions (keys_of name.key) [])
    (map (below (map key (keys_of name.key))) (valued_mentions (value f) nested)) both).right).1

pub set_named : (n : ℕ) (name : Option Name) (f f' : Fact) (nested nested' : List Mention) (more : List Part)
    (new : Value)
    → IsSet more new (valued_mentions (tag_of name f) nested) (valued_mentions (tag_of name f') nested')
    → IsSet (step n name ++ more) new (entry_mentions n name f nested) (entry_mentions n name f' nested')
set_named n None f f' nested nested' more new h = set_below (index n ∷ []) more new _ _ h
set_named n (Some name) f f' nested nested' more new h =
    let p : List Part = map key (keys_of name.key) in
    let dots : List Mention = keyed_mentions (keys_of name.key) [] in
    let split : (g : Fact) (ms : List Mention)
    → dots ++ (map (below p) (valued_mentions (value g) ms) ++ [])
    ≡ keyed_mentions (keys_of name.key) (valued_mentions (value g) ms) =
    λ g ms. ap (λ l. dots ++ l) (append-nil (map (below p) (valued_mentions (value g) ms)))
    ∙ sym (keyed_split (keys_of name.key) (valued_mentions (value g) ms)) in
    let one =
    set_beside (p ++ more) new (map (below p) (valued_mentions (value f) nested))
    (map (below p) (valued_mentions (value f') nested')) dots []
    (all_longer p more dots (keyed_disjoint _ _)) tt
    (set_below p more new (valued_mentions (value f) nested) (valued_mentions (value f') nested') h) in
    subst (λ (l : List Mention).
    IsSet (p ++ more) new l (keyed_mentions (keys_of name.key) (valued_mentions (value f') nested'))) (split f nested)
    (subst (λ (l : List Mention).
    IsSet (p ++ more) new (dots ++ (map (below p) (valued_mentions (value f) nested) ++ [])) l) (split f' nested') one)

pub held_entry : (n : ℕ) (name : Option Name) (f : Fact) (nested rest : List Mention) (more : List Part)
    → Held n (step n name ++ more) (entry_mentions n name f nested ++ rest)
held_entry n None f nested rest more = by_index n more (omega arith) refl
held_entry n (Some name) f nested rest more =
    let p : List Part = map key (keys_of name.key) in
    by_key _ _ more refl
    (some_left (IsAloneAt p) (keyed_mentions (keys_of name.key) (valued_mentions (value f) nested)) rest
    (subst (λ (l : List Mention). SomeOf (IsAloneAt p) l)
    (sym (keyed_split (keys_of name.key) (valued_mentions (value f) nested)))
    (some_right (IsAloneAt p) (keyed_mentions (keys_of name.key) []) (map (below p) (valued_mentions (value f) nested))
    (inl (record { path = append-nil p; kind = refl })))))

pub held_further : (n : ℕ) (path : List Part) (first rest : List Mention) → Held (n + 1) path rest
    → Held n path (first ++ rest)
held_further n path first rest (by_key j js tail e alone) =
    by_key j js tail e (some_right (IsAloneAt (map key (j ∷ js))) first rest alone)
held_further n path first rest (by_index k tail h e) = by_index k tail (omega arith) e

-- the value itself
pub set_here : (name : Option Name) (f : Fact) (entries : Entries) (new : Value)
    → IsSet [] new (valued_mentions (tag_of name f) (entries_mentions 0 entries))
    (valued_mentions (tag_of name (body_fact new.body)) (entries_mentions 0 new.nested))
set_here name f entries new = record {
  name = name;
  fact = f;
  entries = entries;
  before = [];
  after = [];
  was = ap (λ l. record { path = []; kind = tag_of name f } ∷ l)
      (sym (map_none (entries_mentions 0 entries)) ∙ sym (append-nil (map (below []) (entries_mentions 0 entries))));
  is = ap (λ l. record { path = []; kind = tag_of name (body_fact new.body) } ∷ l)
      (sym (map_none (entries_mentions 0 new.nested))
      ∙ sym (append-nil (map (below []) (entries_mentions 0 new.nested))));
  disjoint_before = tt;
  disjoint_after = tt;
}

-- deeper in the value
set_deeper : (mention_kind : MentionKind) (q : Part) (qs : List Part) (new : Value) (from to : List Mention)
    → IsSet (q ∷ qs) new from to
    → IsSet (q ∷ qs) new (valued_mentions mention_kind from) (valued_mentions mention_kind to)
set_deeper mention_kind q qs new from to h =
    subst (λ (l : List Mention).
    IsSet (q ∷ qs) new (valued_mentions mention_kind from) (valued_mentions mention_kind l)) (append-nil to)
    (subst (λ (l : List Mention).
    IsSet (q ∷ qs) new (valued_mentions mention_kind l) (valued_mentions mention_kind (to ++ []))) (append-nil from)
    (set_beside (q ∷ qs) new from to (record { path = []; kind = mention_kind } ∷ []) [] (refl, tt) tt h))

within_none : {A B : Type 0} (outer : A → B) (left right : List ℕ) (o : Option (Changed A)) → o ≡ None
    → within outer left right o ≡ None
within_none outer left right None e = refl
within_none outer left right (Some c) e = absurd cc

pub no_entry : (act : Act) (n : ℕ) (es : Entries) → in_entries act [] n es ≡ None
no_entry act n none = refl
no_entry act n (entry None body nested after comma rest) =
    within_none _ _ _ (in_entries act [] (n + 1) rest) (no_entry act (n + 1) rest)
no_entry act n (entry (Some name) body nested after comma rest) =
    within_none _ _ _ (in_entries act [] (n + 1) rest) (no_entry act (n + 1) rest)

abbrev pub ValueSet : Option Name → List Part → Value → Body → Entries → Value → Type 0
ValueSet name more new body nested v =
    IsSet more new (valued_mentions (tag_of name (body_fact body)) (entries_mentions 0 nested))
    (valued_mentions (tag_of name (body_fact v.body)) (entries_mentions 0 v.nested))

set_value-by : (name : Option Name) (new : Value) (more : List Part) (body : Body) (nested : Entries)
    (left right : List ℕ)
    → EachTo (λ es. IsSetIn 0 more new (entries_mentions 0 nested) (entries_mentions 0 es))
    (in_entries (replacement new) more 0 nested)
    → EachTo (ValueSet name more new body nested)
    (or_else (within (λ es. record { body = body; nested = es }) left right
    (in_entries (replacement new) more 0 nested)) (replacement new more (record { body = body; nested = nested })))
set_value-by name new [] body nested left right ih =
    subst (λ (o : Option (Changed Entries)).
    EachTo (ValueSet name [] new body nested)
    (or_else (within (λ es. record { body = body; nested = es }) left right o)
    (replacement new [] (record { body = body; nested = nested }))))
    (sym (no_entry (replacement new) 0 nested)) (set_here name (body_fact body) nested new)
set_value-by name new (q ∷ qs) body nested left right ih =
    to_or_else (ValueSet name (q ∷ qs) new body nested) _ None
    (to_within (λ es. IsSetIn 0 (q ∷ qs) new (entries_mentions 0 nested) (entries_mentions 0 es))
    (ValueSet name (q ∷ qs) new body nested) (λ es. record { body = body; nested = es }) left right
    (in_entries (replacement new) (q ∷ qs) 0 nested)
    (λ es h.
    set_deeper (tag_of name (body_fact body)) q qs new (entries_mentions 0 nested) (entries_mentions 0 es) h.set) ih) tt

set_entries-by : (new : Value) (path : List Part) (n : ℕ) (name : Option Name) (body : Body) (nested : Entries)
    (after : Gap) (comma : Option Gap) (rest : Entries)
    → Rules (entries_mentions n (entry name body nested after comma rest))
    → EachTo (λ es. IsSetIn (n + 1) path new (entries_mentions (n + 1) rest) (entries_mentions (n + 1) es))
    (in_entries (replacement new) path (n + 1) rest)
    → ((more : List Part)
    → EachTo (λ es. IsSetIn 0 more new (entries_mentions 0 nested) (entries_mentions 0 es))
    (in_entries (replacement new) more 0 nested))
    → (o : Option (List Part)) → strip (step n name) path ≡ o
    → EachTo (λ es.
    IsSetIn n path new (entries_mentions n (entry name body nested after comma rest)) (entries_mentions n es)) (elim o [
      | None ↦
          within (entry name body nested after comma)
          (entry_prefix name body nested ++ (text_of after ++ text_of (comma_leaves comma))) []
          (in_entries (replacement new) path (n + 1) rest)
      | Some more ↦
          within (λ v. entry name v.body v.nested after comma rest) (text_of (named_leaves name))
          (entry_back after comma rest)
          (or_else (within (λ es. record { body = body; nested = es }) (text_of (opening body)) (text_of (closing body))
          (in_entries (replacement new) more 0 nested))
          (replacement new more (record { body = body; nested = nested })))
    ])
set_entries-by new path n name body nested after comma rest rules further deeper None e =
    let first : List Mention = entry_mentions n name (body_fact body) (entries_mentions 0 nested) in
    to_within (λ es. IsSetIn (n + 1) path new (entries_mentions (n + 1) rest) (entries_mentions (n + 1) es))
    (λ es. IsSetIn n path new (entries_mentions n (entry name body nested after comma rest)) (entries_mentions n es))
    (entry name body nested after comma) _ [] (in_entries (replacement new) path (n + 1) rest)
    (λ es h. record {
      set =
          subst (λ (l : List Mention). IsSet path new (first ++ entries_mentions (n + 1) rest) (first ++ l))
          (append-nil (entries_mentions (n + 1) es))
          (subst (λ (l : List Mention). IsSet path new (first ++ l) (first ++ (entries_mentions (n + 1) es ++ [])))
          (append-nil (entries_mentions (n + 1) rest))
          (set_beside path new (entries_mentions (n + 1) rest) (entries_mentions (n + 1) es) first []
          (disjoint_from_held n path name (body_fact body) (entries_mentions 0 nested) (entries_mentions (n + 1) rest)
          (closed_entries 0 nested) h.held rules) tt h.set));
      held = held_further n path first (entries_mentions (n + 1) rest) h.held;
    }) further
set_entries-by new path n name body nested after comma rest rules further deeper (Some more) e =
    let first : List Mention = entry_mentions n name (body_fact body) (entries_mentions 0 nested) in
    let whole : path ≡ step n name ++ more = strip-sound (step n name) path more e in
    to_within (ValueSet name more new body nested)
    (λ es. IsSetIn n path new (entries_mentions n (entry name body nested after comma rest)) (entries_mentions n es))
    (λ v. entry name v.body v.nested after comma rest) _ _ _
    (λ v h. subst (λ (q : List Part).
    IsSetIn n q new (entries_mentions n (entry name body nested after comma rest))
    (entries_mentions n (entry name v.body v.nested after comma rest))) (sym whole) (record {
      set = set_beside (step n name ++ more) new first
          (entry_mentions n name (body_fact v.body) (entries_mentions 0 v.nested)) [] (entries_mentions (n + 1) rest) tt
          (disjoint_from_entry n name (body_fact body) (entries_mentions 0 nested) rest more rules)
          (set_named n name (body_fact body) (body_fact v.body) (entries_mentions 0 nested)
          (entries_mentions 0 v.nested) more new h);
      held = held_entry n name (body_fact body) (entries_mentions 0 nested) (entries_mentions (n + 1) rest) more;
    }))
    (set_value-by name new more body nested (text_of (opening body)) (text_of (closing body)) (deeper more))

pub set_entries : (new : Value) (path : List Part) (n : ℕ) (es : Entries) → Rules (entries_mentions n es)
    → EachTo (λ es'. IsSetIn n path new (entries_mentions n es) (entries_mentions n es'))
    (in_entries (replacement new) path n es)
set_entries new path n none rules = tt
set_entries new path n (entry name body nested after comma rest) rules =
    let first : List Mention = entry_mentions n name (body_fact body) (entries_mentions 0 nested) in
    let split = pairs_split Allowed first (entries_mentions (n + 1) rest) rules in
    set_entries-by new path n name body nested after comma rest rules
    (set_entries new path (n + 1) rest split.right)
    (λ more. set_entries new more 0 nested (rules_named n name (body_fact body) (entries_mentions 0 nested) split.left))
    (strip (step n name) path) refl

-- in the value of a keyval or an item
pub set_value : (name : Option Name) (new : Value) (more : List Part) (v : Value) → Rules (entries_mentions 0 v.nested)
    → EachTo (ValueSet name more new v.body v.nested) (in_value (replacement new) more v)
set_value name new more v rules =
    set_value-by name new more v.body v.nested (text_of (opening v.body)) (text_of (closing v.body))
    (set_entries new more 0 v.nested rules)
