-- An array has as many items as are counted of its path.
--
-- An item of a path is a mention one index further. Of the entries of the array, each makes one such mention, and what
-- is in its value is two or more steps further (`longer_entries`), so nothing else is counted: no more than the array's
-- entries (`items_few`), and no fewer (`items_many`), by induction over them. No other line of the document has a path
-- at or under the array's.
--
-- Theorems: `item_count_few` and `item_count_many`.
use Rattle.std.proofs.Common.{◌≡◌, ℕ, ◌+◌, ◌≤◌, Bool, true, false, cond, List, [], ◌∷◌, ◌++◌, map, refl, sym, ap, ◌∙◌}
use Rattle.std.proofs.Common.{arith, Option, Some, None}
use Rattle.std.specs.List.{count_by}
use Rattle.std.proofs.lemmas.List.{map-append}
use Rattle.std.proofs.lemmas.List.Sums.{sum_by-append}
use Rattle.keep_types.specs.declared.leaf.Profile.{Profile}
use Rattle.keep_syntax.specs.Tree.{Name, Entries, none, entry}
use Rattle.keep_syntax.specs.Grammar.{AreEntries, in_array}
use Rattle.keep_meaning.specs.Fact.{Fact}
use Rattle.keep_path.specs.Path.{Part, key, index, same_path}
use Rattle.keep_meaning.specs.Marks.{MentionKind, through, past, define, element, dotted, value, begun, passed, item}
use Rattle.keep_meaning.specs.Marks.{Mention, below}
use Rattle.keep_meaning.specs.Meaning.{key_value, further_value, body_fact, valued_mentions, keyed_mentions}
use Rattle.keep_meaning.specs.Meaning.{entry_mentions, entries_mentions}
use Rattle.keep_edit_spec.specs.Look.{strip, without_last, is_item_of, item_count}
use Rattle.keep_edit_spec.proofs.Common.Runs.{AllOf, all_join, IsDisjoint, same_path-sound, same_path-refl}
use Rattle.keep_edit_spec.proofs.Common.Runs.{strip-append}
use Rattle.keep_edit_spec.proofs.Common.SetDocument.{cancel}
use Rattle.keep_edit_spec.proofs.Insert.PutIn.{size}

count_join : (t : Mention → Bool) (xs ys : List Mention) → count_by t (xs ++ ys) ≡ count_by t xs + count_by t ys
count_join t xs ys = omega (arith, sum_by-append (λ x. cond (t x) 1 0) xs ys)

count_none : (t : Mention → Bool) (ms : List Mention) → AllOf (λ m. t m ≡ false) ms → count_by t ms ≡ 0
count_none t [] h = refl
count_none t (m ∷ ms) h = omega (arith, count_join t (m ∷ []) ms, one, count_none t ms h.1)
  where
    one : count_by t (m ∷ []) ≡ 0
    one = rw h.0 refl

count_one : (t : Mention → Bool) (m : Mention) → count_by t (m ∷ []) ≤ 1
count_one t m = by (t m) refl
  where
    by : (b : Bool) → t m ≡ b → count_by t (m ∷ []) ≤ 1
    by true e = rw e (omega arith)
    by false e = rw e (omega arith)

-- ---- what is an item of a path

item_mentions : (a p : List Part) (s : MentionKind) → is_item_of a (record { path = p; kind = s }) ≡ true
    → without_last p ≡ a
item_mentions a p (item f) h = same_path-sound (without_last p) a h
item_mentions a p through h = absurd cc
item_mentions a p past h = absurd cc
item_mentions a p define h = absurd cc
item_mentions a p element h = absurd cc
item_mentions a p dotted h = absurd cc
item_mentions a p (value f) h = absurd cc
item_mentions a p begun h = absurd cc
item_mentions a p passed h = absurd cc

-- a path is its prefix and its last part
pub last_split : (p : Part) (ps : List Part) → (x : Part) × (p ∷ ps ≡ without_last (p ∷ ps) ++ x ∷ [])
last_split p [] = (p, refl)
last_split p (q ∷ ps) = let (x, e) = last_split q ps in (x, ap (λ (l : List Part). p ∷ l) e)

item_path : (a0 : Part) (more_parts : List Part) (p : List Part) (s : MentionKind)
    → is_item_of (a0 ∷ more_parts) (record { path = p; kind = s }) ≡ true
    → (x : Part) × (p ≡ (a0 ∷ more_parts) ++ x ∷ [])
item_path a0 more_parts [] s h = let e : [] ≡ a0 ∷ more_parts = item_mentions (a0 ∷ more_parts) [] s h in absurd cc
item_path a0 more_parts (q ∷ qs) s h =
    let e : without_last (q ∷ qs) ≡ a0 ∷ more_parts = item_mentions (a0 ∷ more_parts) (q ∷ qs) s h in
    let (x, w) = last_split q qs in
    (x, w ∙ ap (λ (l : List Part). l ++ x ∷ []) e)

never_item : (a0 : Part) (more_parts : List Part) (m : Mention)
    → ((x : Part) → m.path ≡ (a0 ∷ more_parts) ++ x ∷ [] → ⊥) → is_item_of (a0 ∷ more_parts) m ≡ false
never_item a0 more_parts m never = by (is_item_of (a0 ∷ more_parts) m) refl
  where
    by : (b : Bool) → is_item_of (a0 ∷ more_parts) m ≡ b → is_item_of (a0 ∷ more_parts) m ≡ false
    by false e = e
    by true e = let (x, w) = item_path a0 more_parts m.path m.kind e in absurd (never x w)

none_disjoint : (a0 : Part) (more_parts : List Part) (ms : List Mention) → AllOf (IsDisjoint (a0 ∷ more_parts)) ms
    → AllOf (λ m. is_item_of (a0 ∷ more_parts) m ≡ false) ms
none_disjoint a0 more_parts [] h = tt
none_disjoint a0 more_parts (m ∷ ms) h = (
  never_item a0 more_parts m (λ x e. let k : None ≡ Some (x ∷ []) = sym h.0 ∙ ap (strip (a0 ∷ more_parts)) e
      ∙ strip-append (a0 ∷ more_parts) (x ∷ []) in absurd cc),
  none_disjoint a0 more_parts ms h.1,
)

-- ---- entries say nothing of what they are in

abbrev pub Longer : Mention → Type 0
Longer m = m.path ≡ [] → ⊥

longer_below : (p : Part) (ps : List Part) (ms : List Mention) → AllOf Longer (map (below (p ∷ ps)) ms)
longer_below p ps [] = tt
longer_below p ps (m ∷ ms) = ((λ e. absurd (no m.path e)), longer_below p ps ms)
  where
    no : (q : List Part) → p ∷ (ps ++ q) ≡ [] → ⊥
    no q e = cc

pub longer_keyed : (k : List ℕ) (ks : List (List ℕ)) (ms : List Mention) → AllOf Longer (keyed_mentions (k ∷ ks) ms)
longer_keyed k [] ms = longer_below (key k) [] ms
longer_keyed k (l ∷ ks) ms = longer_below (key k) [] (record { path = []; kind = dotted } ∷ keyed_mentions (l ∷ ks) ms)

longer_entry : (n : ℕ) (name : Option Name) (f : Fact) (nested : List Mention)
    → AllOf Longer (entry_mentions n name f nested)
longer_entry n None f nested = longer_below (index n) [] (valued_mentions (item f) nested)
longer_entry n (Some name) f nested =
    longer_keyed (key_value name.key.first) (map further_value name.key.more) (valued_mentions (value f) nested)

pub longer_entries : (n : ℕ) (es : Entries) → AllOf Longer (entries_mentions n es)
longer_entries n none = tt
longer_entries n (entry name body nested after comma rest) =
    all_join Longer (entry_mentions n name (body_fact body) (entries_mentions 0 nested)) (entries_mentions (n + 1) rest)
    (longer_entry n name (body_fact body) (entries_mentions 0 nested)) (longer_entries (n + 1) rest)

-- ---- the items of an array

deep_none : (a0 : Part) (more_parts : List Part) (n : ℕ) (ms : List Mention) → AllOf Longer ms
    → AllOf (λ m. is_item_of (a0 ∷ more_parts) m ≡ false)
    (map (below (a0 ∷ more_parts)) (map (below (index n ∷ [])) ms))
deep_none a0 more_parts n [] h = tt
deep_none a0 more_parts n (m ∷ ms) h = (
  never_item a0 more_parts (below (a0 ∷ more_parts) (below (index n ∷ []) m))
      (λ x e. h.0 (tail m.path x (cancel (a0 ∷ more_parts) (index n ∷ m.path) (x ∷ []) e))),
  deep_none a0 more_parts n ms h.1,
)
  where
    tail : (q : List Part) (x : Part) → index n ∷ q ≡ x ∷ [] → q ≡ []
    tail q x e = cc

items_few : (profile : Profile) (a0 : Part) (more_parts : List Part) (n : ℕ) (es : Entries)
    → AreEntries profile in_array es
    → count_by (is_item_of (a0 ∷ more_parts)) (map (below (a0 ∷ more_parts)) (entries_mentions n es)) ≤ size es
items_few profile a0 more_parts n none valid = omega arith
items_few profile a0 more_parts n (entry (Some name) body nested after comma rest) valid = absurd valid.0
items_few profile a0 more_parts n (entry None body nested after comma rest) valid =
    let t : Mention → Bool = is_item_of (a0 ∷ more_parts) in
    let deep : List Mention = map (below (a0 ∷ more_parts)) (map (below (index n ∷ [])) (entries_mentions 0 nested)) in
    let top : Mention =
    below (a0 ∷ more_parts) (below (index n ∷ []) (record { path = []; kind = item (body_fact body) })) in
    let more : List Mention = map (below (a0 ∷ more_parts)) (entries_mentions (n + 1) rest) in
    let split : map (below (a0 ∷ more_parts)) (entries_mentions n (entry None body nested after comma rest))
    ≡ (top ∷ deep) ++ more =
    map-append (below (a0 ∷ more_parts)) (entry_mentions n None (body_fact body) (entries_mentions 0 nested))
    (entries_mentions (n + 1) rest) in
    let whole : count_by t (map (below (a0 ∷ more_parts))
    (entries_mentions n (entry None body nested after comma rest))) ≡ count_by t ((top ∷ deep) ++ more) =
    ap (λ (l : List Mention). count_by t l) split in
    omega (
      arith,
      whole,
      count_join t (top ∷ deep) more,
      count_join t (top ∷ []) deep,
      count_one t top,
      count_none t deep (deep_none a0 more_parts n (entries_mentions 0 nested) (longer_entries 0 nested)),
      items_few profile a0 more_parts (n + 1) rest valid.5,
    )

-- Where an array is at the path, and nothing else at or under it, no more items are counted than the array has.
pub item_count_few : (profile : Profile) (a : List Part) (before after : List Mention) (mention_kind : MentionKind)
    (es : Entries) → (a ≡ [] → ⊥) → AreEntries profile in_array es → AllOf (IsDisjoint a) before
    → AllOf (IsDisjoint a) after
    → item_count a (before ++ (map (below a) (valued_mentions mention_kind (entries_mentions 0 es)) ++ after)) ≤ size es
item_count_few profile [] before after mention_kind es root valid hb hh = absurd (root refl)
item_count_few profile (a0 ∷ more_parts) before after mention_kind es root valid hb hh =
    let t : Mention → Bool = is_item_of (a0 ∷ more_parts) in
    let top : Mention = below (a0 ∷ more_parts) (record { path = []; kind = mention_kind }) in
    let more : List Mention = map (below (a0 ∷ more_parts)) (entries_mentions 0 es) in
    let not_top : t top ≡ false =
    never_item a0 more_parts top (λ x e. absurd (no x (cancel (a0 ∷ more_parts) [] (x ∷ []) e))) in
    omega (
      arith,
      count_join t before ((top ∷ more) ++ after),
      count_join t (top ∷ more) after,
      count_join t (top ∷ []) more,
      count_none t (top ∷ []) (not_top, tt),
      count_none t before (none_disjoint a0 more_parts before hb),
      count_none t after (none_disjoint a0 more_parts after hh),
      items_few profile a0 more_parts 0 es valid,
    )
  where
    no : (x : Part) → [] ≡ x ∷ [] → ⊥
    no x e = cc

-- ---- ... and no fewer

pub without_last-snoc : (p : List Part) (x : Part) → without_last (p ++ x ∷ []) ≡ p
without_last-snoc [] x = refl
without_last-snoc (a ∷ []) x = refl
without_last-snoc (a ∷ b ∷ p) x = ap (λ (l : List Part). a ∷ l) (without_last-snoc (b ∷ p) x)

top_item : (a : List Part) (n : ℕ) (f : Fact) → is_item_of a (record { path = a ++ index n ∷ []; kind = item f }) ≡ true
top_item a n f = ap (λ (p : List Part). same_path p a) (without_last-snoc a (index n)) ∙ same_path-refl a

items_many : (profile : Profile) (a : List Part) (n : ℕ) (es : Entries) → AreEntries profile in_array es
    → size es ≤ count_by (is_item_of a) (map (below a) (entries_mentions n es))
items_many profile a n none valid = omega arith
items_many profile a n (entry (Some name) body nested after comma rest) valid = absurd valid.0
items_many profile a n (entry None body nested after comma rest) valid =
    let t : Mention → Bool = is_item_of a in
    let deep : List Mention = map (below a) (map (below (index n ∷ [])) (entries_mentions 0 nested)) in
    let top : Mention = record { path = a ++ index n ∷ []; kind = item (body_fact body) } in
    let more : List Mention = map (below a) (entries_mentions (n + 1) rest) in
    let split : map (below a) (entries_mentions n (entry None body nested after comma rest)) ≡ (top ∷ deep) ++ more =
    map-append (below a) (entry_mentions n None (body_fact body) (entries_mentions 0 nested))
    (entries_mentions (n + 1) rest) in
    let whole : count_by t (map (below a) (entries_mentions n (entry None body nested after comma rest)))
    ≡ count_by t ((top ∷ deep) ++ more) = ap (λ (l : List Mention). count_by t l) split in
    let one : count_by t (top ∷ []) ≡ 1 = rw (top_item a n (body_fact body)) refl in
    omega (
      arith,
      whole,
      count_join t (top ∷ deep) more,
      count_join t (top ∷ []) deep,
      one,
      items_many profile a (n + 1) rest valid.5,
    )

pub item_count_many : (profile : Profile) (a : List Part) (before after : List Mention) (mention_kind : MentionKind)
    (es : Entries) → AreEntries profile in_array es
    → size es ≤ item_count a (before ++ (map (below a) (valued_mentions mention_kind (entries_mentions 0 es)) ++ after))
item_count_many profile a before after mention_kind es valid =
    let t : Mention → Bool = is_item_of a in
    let top : Mention = below a (record { path = []; kind = mention_kind }) in
    let more : List Mention = map (below a) (entries_mentions 0 es) in
    omega (
      arith,
      count_join t before ((top ∷ more) ++ after),
      count_join t (top ∷ more) after,
      count_join t (top ∷ []) more,
      items_many profile a 0 es valid,
    )
