-- The rules over marks give those over mentions: items differ by their numbers.
--
-- The rules over marks compare only mentions that have a role; the rules over mentions compare items as well. Marks end
-- in a key and items in an index (`Formed`), so a mark and an item are never at one path. Two marks are allowed by the
-- table of roles. So what is left is that two items are at different paths: `items_entries`, by induction over entries,
-- where the items of an entry are under its step and the later ones are disjoint from it (`rest_disjoint`).
-- `allowed_by` joins the cases, one for each pair of kinds.
--
-- Theorems: `rules_from` for any mentions; `rules_entries` and `rules_value` for those inside a value.
use Rattle.std.proofs.Common.{◌≡◌, ℕ, ◌+◌, Bool, true, false, List, [], ◌∷◌, ◌++◌, map, refl, sym, ap, subst, ◌∙◌}
use Rattle.std.proofs.Common.{append_assoc, arith, Option, Some, None, inl}
use Rattle.std.specs.Prelude.{⊤}
use Rattle.std.proofs.lemmas.List.{append-nil}
use Rattle.keep_syntax.specs.Tree.{Name, Entries, none, entry, Value}
use Rattle.keep_meaning.specs.Fact.{Fact}
use Rattle.keep_path.specs.Path.{Part, key, index}
use Rattle.keep_meaning.specs.Marks.{MentionKind, through, past, define, element, dotted, value, begun, passed, item}
use Rattle.keep_meaning.specs.Marks.{Mention, below, role_of}
use Rattle.keep_meaning.specs.Meaning.{key_value, further_value, keys_of, body_fact, valued_mentions, keyed_mentions}
use Rattle.keep_meaning.specs.Meaning.{entry_mentions, entries_mentions, step}
use Rattle.keep_edit_spec.specs.Look.{strip}
use Rattle.keep_meaning.specs.Meaning.{mentions_of_value}
use Rattle.keep_edit_spec.proofs.Common.Runs.{AllOf, SomeOf, Pairs, pairs_split, pairs_join, all_join, all_map, meet}
use Rattle.keep_edit_spec.proofs.Common.Runs.{some_right, Across, Allowed, Rules, kinds_allow, solid, IsDisjoint}
use Rattle.keep_edit_spec.proofs.Common.Runs.{IsUnder}
use Rattle.keep_edit_spec.proofs.Common.SetLaw.{IsSolidAt, disjoint_closed, closed_entries, keyed_split, later_disjoint}
use Rattle.keep_edit_spec.proofs.Common.LineLaws.{EndsInKey, last_snoc, last_from}
use Rattle.keep_edit_spec.proofs.Common.SetDocument.{cancel, under_below, ends_keys}
use Rattle.keep_edit_spec.proofs.Common.Bridge.{role_allow}

abbrev pub EndsInIndex : List Part → Type 0
EndsInIndex p = (prefix : List Part) × (n : ℕ) × (p ≡ prefix ++ index n ∷ [])

pub ends_disjoint : (p q : List Part) → EndsInKey p → EndsInIndex q → p ≡ q → ⊥
ends_disjoint p q hp hq e =
    let same : key hp.1 ≡ index hq.1 =
    sym (last_snoc (index 0) (key hp.1) hp.0) ∙ ap (last_from (index 0)) (sym hp.2 ∙ e ∙ hq.2)
    ∙ last_snoc (index 0) (index hq.1) hq.0 in
    absurd cc

-- marks are at keys, items at indexes
abbrev pub IsFormed : MentionKind → List Part → Type 0
IsFormed (item f) p = EndsInIndex p
IsFormed begun p = ⊤
IsFormed passed p = ⊤
IsFormed _ p = EndsInKey p

abbrev pub Formed : Mention → Type 0
Formed m = IsFormed m.kind m.path

abbrev pub is_item : MentionKind → Bool
is_item (item f) = true
is_item _ = false

-- the table over those that have roles
abbrev pub MarkAllowed : Mention → Mention → Type 0
MarkAllowed a b = a.path ≡ b.path → role_allow (role_of a.kind) (role_of b.kind) ≡ true

-- two items are at different paths
abbrev pub ItemsDisjoint : Mention → Mention → Type 0
ItemsDisjoint a b = is_item a.kind ≡ true → is_item b.kind ≡ true → a.path ≡ b.path → ⊥

allowed_by : (a b : MentionKind) (p q : List Part) → IsFormed a p → IsFormed b q
    → (p ≡ q → role_allow (role_of a) (role_of b) ≡ true) → (is_item a ≡ true → is_item b ≡ true → p ≡ q → ⊥) → p ≡ q
    → kinds_allow a b ≡ true
allowed_by through through p q fa fb h n e = refl
allowed_by through past p q fa fb h n e = (let k : false ≡ true = h e in absurd cc)
allowed_by through define p q fa fb h n e = refl
allowed_by through element p q fa fb h n e = (let k : false ≡ true = h e in absurd cc)
allowed_by through dotted p q fa fb h n e = refl
allowed_by through (value g) p q fa fb h n e = (let k : false ≡ true = h e in absurd cc)
allowed_by through begun p q fa fb h n e = refl
allowed_by through passed p q fa fb h n e = refl
allowed_by through (item g) p q fa fb h n e = absurd (ends_disjoint p q fa fb e)
allowed_by past through p q fa fb h n e = (let k : false ≡ true = h e in absurd cc)
allowed_by past past p q fa fb h n e = refl
allowed_by past define p q fa fb h n e = (let k : false ≡ true = h e in absurd cc)
allowed_by past element p q fa fb h n e = refl
allowed_by past dotted p q fa fb h n e = (let k : false ≡ true = h e in absurd cc)
allowed_by past (value g) p q fa fb h n e = (let k : false ≡ true = h e in absurd cc)
allowed_by past begun p q fa fb h n e = refl
allowed_by past passed p q fa fb h n e = refl
allowed_by past (item g) p q fa fb h n e = absurd (ends_disjoint p q fa fb e)
allowed_by define through p q fa fb h n e = refl
allowed_by define past p q fa fb h n e = (let k : false ≡ true = h e in absurd cc)
allowed_by define define p q fa fb h n e = (let k : false ≡ true = h e in absurd cc)
allowed_by define element p q fa fb h n e = (let k : false ≡ true = h e in absurd cc)
allowed_by define dotted p q fa fb h n e = (let k : false ≡ true = h e in absurd cc)
allowed_by define (value g) p q fa fb h n e = (let k : false ≡ true = h e in absurd cc)
allowed_by define begun p q fa fb h n e = refl
allowed_by define passed p q fa fb h n e = refl
allowed_by define (item g) p q fa fb h n e = absurd (ends_disjoint p q fa fb e)
allowed_by element through p q fa fb h n e = (let k : false ≡ true = h e in absurd cc)
allowed_by element past p q fa fb h n e = refl
allowed_by element define p q fa fb h n e = (let k : false ≡ true = h e in absurd cc)
allowed_by element element p q fa fb h n e = refl
allowed_by element dotted p q fa fb h n e = (let k : false ≡ true = h e in absurd cc)
allowed_by element (value g) p q fa fb h n e = (let k : false ≡ true = h e in absurd cc)
allowed_by element begun p q fa fb h n e = refl
allowed_by element passed p q fa fb h n e = refl
allowed_by element (item g) p q fa fb h n e = absurd (ends_disjoint p q fa fb e)
allowed_by dotted through p q fa fb h n e = refl
allowed_by dotted past p q fa fb h n e = (let k : false ≡ true = h e in absurd cc)
allowed_by dotted define p q fa fb h n e = (let k : false ≡ true = h e in absurd cc)
allowed_by dotted element p q fa fb h n e = (let k : false ≡ true = h e in absurd cc)
allowed_by dotted dotted p q fa fb h n e = refl
allowed_by dotted (value g) p q fa fb h n e = (let k : false ≡ true = h e in absurd cc)
allowed_by dotted begun p q fa fb h n e = refl
allowed_by dotted passed p q fa fb h n e = refl
allowed_by dotted (item g) p q fa fb h n e = absurd (ends_disjoint p q fa fb e)
allowed_by (value f) through p q fa fb h n e = (let k : false ≡ true = h e in absurd cc)
allowed_by (value f) past p q fa fb h n e = (let k : false ≡ true = h e in absurd cc)
allowed_by (value f) define p q fa fb h n e = (let k : false ≡ true = h e in absurd cc)
allowed_by (value f) element p q fa fb h n e = (let k : false ≡ true = h e in absurd cc)
allowed_by (value f) dotted p q fa fb h n e = (let k : false ≡ true = h e in absurd cc)
allowed_by (value f) (value g) p q fa fb h n e = (let k : false ≡ true = h e in absurd cc)
allowed_by (value f) begun p q fa fb h n e = refl
allowed_by (value f) passed p q fa fb h n e = refl
allowed_by (value f) (item g) p q fa fb h n e = absurd (ends_disjoint p q fa fb e)
allowed_by begun through p q fa fb h n e = refl
allowed_by begun past p q fa fb h n e = refl
allowed_by begun define p q fa fb h n e = refl
allowed_by begun element p q fa fb h n e = refl
allowed_by begun dotted p q fa fb h n e = refl
allowed_by begun (value g) p q fa fb h n e = refl
allowed_by begun begun p q fa fb h n e = refl
allowed_by begun passed p q fa fb h n e = refl
allowed_by begun (item g) p q fa fb h n e = refl
allowed_by passed through p q fa fb h n e = refl
allowed_by passed past p q fa fb h n e = refl
allowed_by passed define p q fa fb h n e = refl
allowed_by passed element p q fa fb h n e = refl
allowed_by passed dotted p q fa fb h n e = refl
allowed_by passed (value g) p q fa fb h n e = refl
allowed_by passed begun p q fa fb h n e = refl
allowed_by passed passed p q fa fb h n e = refl
allowed_by passed (item g) p q fa fb h n e = refl
allowed_by (item f) through p q fa fb h n e = absurd (ends_disjoint q p fb fa (sym e))
allowed_by (item f) past p q fa fb h n e = absurd (ends_disjoint q p fb fa (sym e))
allowed_by (item f) define p q fa fb h n e = absurd (ends_disjoint q p fb fa (sym e))
allowed_by (item f) element p q fa fb h n e = absurd (ends_disjoint q p fb fa (sym e))
allowed_by (item f) dotted p q fa fb h n e = absurd (ends_disjoint q p fb fa (sym e))
allowed_by (item f) (value g) p q fa fb h n e = absurd (ends_disjoint q p fb fa (sym e))
allowed_by (item f) begun p q fa fb h n e = refl
allowed_by (item f) passed p q fa fb h n e = refl
allowed_by (item f) (item g) p q fa fb h n e = absurd (n refl refl e)

allowed_all : (a : Mention) (ms : List Mention) → Formed a → AllOf Formed ms → AllOf (MarkAllowed a) ms
    → AllOf (ItemsDisjoint a) ms → AllOf (Allowed a) ms
allowed_all a [] fa f h n = tt
allowed_all a (m ∷ ms) fa f h n =
    (allowed_by a.kind m.kind a.path m.path fa f.0 h.0 n.0, allowed_all a ms fa f.1 h.1 n.1)

pub rules_from : (ms : List Mention) → AllOf Formed ms → Pairs MarkAllowed ms → Pairs ItemsDisjoint ms → Rules ms
rules_from [] f h n = tt
rules_from (m ∷ ms) f h n = (allowed_all m ms f.0 f.1 h.0 n.0, rules_from ms f.1 h.1 n.1)

-- ---- what is statement_mentions inside a value is formed

formed_by : (s p : List Part) (mention_kind : MentionKind) → IsFormed mention_kind p → IsFormed mention_kind (s ++ p)
formed_by s p (item f) h = (s ++ h.0, h.1, ap (λ q. s ++ q) h.2 ∙ sym (append_assoc s h.0 (index h.1 ∷ [])))
formed_by s p begun h = tt
formed_by s p passed h = tt
formed_by s p through h = (s ++ h.0, h.1, ap (λ q. s ++ q) h.2 ∙ sym (append_assoc s h.0 (key h.1 ∷ [])))
formed_by s p past h = (s ++ h.0, h.1, ap (λ q. s ++ q) h.2 ∙ sym (append_assoc s h.0 (key h.1 ∷ [])))
formed_by s p define h = (s ++ h.0, h.1, ap (λ q. s ++ q) h.2 ∙ sym (append_assoc s h.0 (key h.1 ∷ [])))
formed_by s p element h = (s ++ h.0, h.1, ap (λ q. s ++ q) h.2 ∙ sym (append_assoc s h.0 (key h.1 ∷ [])))
formed_by s p dotted h = (s ++ h.0, h.1, ap (λ q. s ++ q) h.2 ∙ sym (append_assoc s h.0 (key h.1 ∷ [])))
formed_by s p (value f) h = (s ++ h.0, h.1, ap (λ q. s ++ q) h.2 ∙ sym (append_assoc s h.0 (key h.1 ∷ [])))

pub formed_below : (s : List Part) (ms : List Mention) → AllOf Formed ms → AllOf Formed (map (below s) ms)
formed_below s [] h = tt
formed_below s (m ∷ ms) h = (formed_by s m.path m.kind h.0, formed_below s ms h.1)

formed_keyed : (k : List ℕ) (ks : List (List ℕ)) (f : Fact) (ms : List Mention) → AllOf Formed ms
    → AllOf Formed (keyed_mentions (k ∷ ks) (valued_mentions (value f) ms))
formed_keyed k [] f ms h = (([], k, refl), formed_below (key k ∷ []) ms h)
formed_keyed k (l ∷ ks) f ms h = (
  ([], k, refl),
  formed_below (key k ∷ []) (keyed_mentions (l ∷ ks) (valued_mentions (value f) ms)) (formed_keyed l ks f ms h),
)

pub formed_named : (n : ℕ) (name : Option Name) (f : Fact) (ms : List Mention) → AllOf Formed ms
    → AllOf Formed (entry_mentions n name f ms)
formed_named n None f ms h = (([], n, refl), formed_below (index n ∷ []) ms h)
formed_named n (Some name) f ms h = formed_keyed (key_value name.key.first) (map further_value name.key.more) f ms h

pub formed_entries : (n : ℕ) (es : Entries) → AllOf Formed (entries_mentions n es)
formed_entries n none = tt
formed_entries n (entry name body nested after comma rest) =
    all_join Formed (entry_mentions n name (body_fact body) (entries_mentions 0 nested)) (entries_mentions (n + 1) rest)
    (formed_named n name (body_fact body) (entries_mentions 0 nested) (formed_entries 0 nested))
    (formed_entries (n + 1) rest)

-- ---- items inside a value are at different paths

pub value_denies : (f : Fact) (b : MentionKind) (p : List Part) → solid b ≡ true → IsFormed b p → EndsInKey p
    → role_allow (role_of (value f)) (role_of b) ≡ false
value_denies f (item g) p s h ends = absurd (ends_disjoint p p ends h refl)
value_denies f begun p s h ends = absurd cc
value_denies f passed p s h ends = absurd cc
value_denies f through p s h ends = refl
value_denies f past p s h ends = refl
value_denies f define p s h ends = refl
value_denies f element p s h ends = refl
value_denies f dotted p s h ends = refl
value_denies f (value g) p s h ends = refl

pub record IsValueAt (p : List Part) (m : Mention) : Type 0 where
  pub path : m.path ≡ p
  pub fact : Fact
  pub kind : m.kind ≡ value fact

-- after a value nothing solid is at its path
pub clash_value : (p : List Part) (xs ys : List Mention) → EndsInKey p → SomeOf (IsValueAt p) xs → AllOf Formed ys
    → Pairs MarkAllowed (xs ++ ys) → SomeOf (IsSolidAt p) ys → ⊥
clash_value p xs ys ends vs formed rules ss =
    let (x, at_x, all_x) =
    meet (IsValueAt p) (λ x. AllOf (MarkAllowed x) ys) xs vs (pairs_split MarkAllowed xs ys rules).across in
    let (y, at_y, both) =
    meet (IsSolidAt p) (λ y. MarkAllowed x y × Formed y) ys ss (zip_all (MarkAllowed x) Formed ys all_x formed) in
    let yes : role_allow (role_of x.kind) (role_of y.kind) ≡ true = both.0 (at_x.path ∙ sym at_y.path) in
    let no' : role_allow (role_of (value at_x.fact)) (role_of y.kind) ≡ false =
    value_denies at_x.fact y.kind p at_y.kind (subst (λ (q : List Part). IsFormed y.kind q) at_y.path both.1) ends in
    let k : true ≡ false =
    sym yes ∙ ap (λ (z : MentionKind). role_allow (role_of z) (role_of y.kind)) at_x.kind ∙ no' in
    absurd cc
  where
    zip_all : (P Q : Mention → Type 0) (zs : List Mention) → AllOf P zs → AllOf Q zs → AllOf (λ z. P z × Q z) zs
    zip_all P Q [] a b = tt
    zip_all P Q (z ∷ zs) a b = ((a.0, b.0), zip_all P Q zs a.1 b.1)

pub items_across : (p : List Part) (xs ys : List Mention) → AllOf (λ x. is_item x.kind ≡ true → IsUnder p x) xs
    → AllOf (IsDisjoint p) ys → Across ItemsDisjoint xs ys
items_across p [] ys h g = tt
items_across p (x ∷ xs) ys h g = (
  all_map (IsDisjoint p) (ItemsDisjoint x)
      (λ y a hx hy e. let k : None ≡ Some (h.0 hx).0 = sym a ∙ ap (strip p) (sym e) ∙ (h.0 hx).1 in absurd cc) ys g,
  items_across p xs ys h.1 g,
)

pub items_below : (s : List Part) (ms : List Mention) → Pairs ItemsDisjoint ms → Pairs ItemsDisjoint (map (below s) ms)
items_below s [] h = tt
items_below s (m ∷ ms) h = (one ms h.0, items_below s ms h.1)
  where
    one : (xs : List Mention) → AllOf (ItemsDisjoint m) xs → AllOf (ItemsDisjoint (below s m)) (map (below s) xs)
    one [] g = tt
    one (x ∷ xs) g = ((λ a b e. g.0 a b (cancel s m.path x.path e)), one xs g.1)

pub marks_below : (s : List Part) (ms : List Mention) → Pairs MarkAllowed (map (below s) ms) → Pairs MarkAllowed ms
marks_below s [] h = tt
marks_below s (m ∷ ms) h = (one ms h.0, marks_below s ms h.1)
  where
    one : (xs : List Mention) → AllOf (MarkAllowed (below s m)) (map (below s) xs) → AllOf (MarkAllowed m) xs
    one [] g = tt
    one (x ∷ xs) g = ((λ e. g.0 (ap (λ q. s ++ q) e)), one xs g.1)

-- the head is no item, or an item at the start where nothing else is
head_items : (mention_kind : MentionKind) (ms : List Mention) → is_item mention_kind ≡ false
    → AllOf (ItemsDisjoint (record { path = []; kind = mention_kind })) ms
head_items mention_kind [] h = tt
head_items mention_kind (m ∷ ms) h =
    ((λ a b e. absurd (let k : true ≡ false = sym a ∙ h in cc)), head_items mention_kind ms h)

item_path : (mention_kind : MentionKind) (p : List Part) → is_item mention_kind ≡ true → IsFormed mention_kind p
    → [] ≡ p → ⊥
item_path (item f) p i h e =
    let same : key [] ≡ index h.1 = ap (last_from (key [])) (e ∙ h.2) ∙ last_snoc (key []) (index h.1) h.0 in
    absurd cc
item_path begun p i h e = absurd cc
item_path other p i h e = absurd cc

pub head_disjoint : (mention_kind : MentionKind) (ms : List Mention) → AllOf Formed ms
    → AllOf (ItemsDisjoint (record { path = []; kind = mention_kind })) ms
head_disjoint mention_kind [] h = tt
head_disjoint mention_kind (m ∷ ms) h = ((λ a b e. item_path m.kind m.path b h.0 e), head_disjoint mention_kind ms h.1)

items_keyed : (k : List ℕ) (ks : List (List ℕ)) (ms : List Mention) → Pairs ItemsDisjoint ms
    → Pairs ItemsDisjoint (keyed_mentions (k ∷ ks) ms)
items_keyed k [] ms h = items_below (key k ∷ []) ms h
items_keyed k (l ∷ ks) ms h =
    items_below (key k ∷ []) (record { path = []; kind = dotted } ∷ keyed_mentions (l ∷ ks) ms)
    (head_items dotted (keyed_mentions (l ∷ ks) ms) refl, items_keyed l ks ms h)

pub items_named : (n : ℕ) (name : Option Name) (f : Fact) (ms : List Mention) → AllOf Formed ms → Pairs ItemsDisjoint ms
    → Pairs ItemsDisjoint (entry_mentions n name f ms)
items_named n None f ms formed h =
    items_below (index n ∷ []) (valued_mentions (item f) ms) (head_disjoint (item f) ms formed, h)
items_named n (Some name) f ms formed h =
    items_keyed (key_value name.key.first) (map further_value name.key.more) (valued_mentions (value f) ms)
    (head_disjoint (value f) ms formed, h)

pub marks_named : (n : ℕ) (name : Option Name) (f : Fact) (ms : List Mention)
    → Pairs MarkAllowed (entry_mentions n name f ms) → Pairs MarkAllowed ms
marks_named n None f ms h = (marks_below (index n ∷ []) (valued_mentions (item f) ms) h).1
marks_named n (Some name) f ms h =
    let ks : List (List ℕ) = keys_of name.key in
    let both : Pairs MarkAllowed (keyed_mentions ks [] ++ map (below (map key ks)) (valued_mentions (value f) ms)) =
    subst (Pairs MarkAllowed) (keyed_split ks (valued_mentions (value f) ms)) h in
    (marks_below (map key ks) (valued_mentions (value f) ms)
    (pairs_split MarkAllowed (keyed_mentions ks []) (map (below (map key ks)) (valued_mentions (value f) ms))
    both).right).1

-- the items of an entry are under its step
ways_items : (ks : List (List ℕ)) → AllOf (λ x. is_item x.kind ≡ true → ⊥) (keyed_mentions ks [])
ways_items [] = tt
ways_items (k ∷ []) = tt
ways_items (k ∷ l ∷ ks) = ((λ e. cc), lift (keyed_mentions (l ∷ ks) []) (ways_items (l ∷ ks)))
  where
    lift : (xs : List Mention) → AllOf (λ x. is_item x.kind ≡ true → ⊥) xs
        → AllOf (λ x. is_item x.kind ≡ true → ⊥) (map (below (key k ∷ [])) xs)
    lift [] h = tt
    lift (x ∷ xs) h = (h.0, lift xs h.1)

pub items_under : (n : ℕ) (name : Option Name) (f : Fact) (ms : List Mention)
    → AllOf (λ x. is_item x.kind ≡ true → IsUnder (step n name) x) (entry_mentions n name f ms)
items_under n None f ms =
    all_map (IsUnder (index n ∷ [])) (λ x. is_item x.kind ≡ true → IsUnder (index n ∷ []) x) (λ x u i. u)
    (map (below (index n ∷ [])) (valued_mentions (item f) ms))
    (under_below (index n ∷ []) (valued_mentions (item f) ms))
items_under n (Some name) f ms =
    let ks : List (List ℕ) = keys_of name.key in
    let p : List Part = map key ks in
    subst (λ (l : List Mention). AllOf (λ x. is_item x.kind ≡ true → IsUnder p x) l)
    (sym (keyed_split ks (valued_mentions (value f) ms)))
    (all_join (λ x. is_item x.kind ≡ true → IsUnder p x) (keyed_mentions ks [])
    (map (below p) (valued_mentions (value f) ms))
    (all_map (λ x. is_item x.kind ≡ true → ⊥) (λ x. is_item x.kind ≡ true → IsUnder p x) (λ x g i. absurd (g i))
    (keyed_mentions ks []) (ways_items ks))
    (all_map (IsUnder p) (λ x. is_item x.kind ≡ true → IsUnder p x) (λ x u i. u)
    (map (below p) (valued_mentions (value f) ms)) (under_below p (valued_mentions (value f) ms))))

pub value_at : (ks : List (List ℕ)) (f : Fact) (ms : List Mention)
    → SomeOf (IsValueAt (map key ks)) (keyed_mentions ks (valued_mentions (value f) ms))
value_at ks f ms =
    subst (λ (l : List Mention). SomeOf (IsValueAt (map key ks)) l)
    (sym (keyed_split ks (valued_mentions (value f) ms)))
    (some_right (IsValueAt (map key ks)) (keyed_mentions ks [])
    (map (below (map key ks)) (valued_mentions (value f) ms))
    (inl (record { path = append-nil (map key ks); fact = f; kind = refl })))

rest_disjoint : (n : ℕ) (name : Option Name) (f : Fact) (ms : List Mention) (rest : Entries)
    → Pairs MarkAllowed (entry_mentions n name f ms ++ entries_mentions (n + 1) rest)
    → AllOf (IsDisjoint (step n name)) (entries_mentions (n + 1) rest)
rest_disjoint n None f ms rest rules = later_disjoint n (n + 1) [] rest (omega arith)
rest_disjoint n (Some name) f ms rest rules =
    let p : List Part = map key (keys_of name.key) in
    disjoint_closed p (entries_mentions (n + 1) rest) (entries_mentions (n + 1) rest)
    (closed_entries (n + 1) rest (key (key_value name.key.first)) (map key (map further_value name.key.more)))
    (λ s. clash_value p (keyed_mentions (keys_of name.key) (valued_mentions (value f) ms))
    (entries_mentions (n + 1) rest) (ends_keys [] (key_value name.key.first) (map further_value name.key.more))
    (value_at (keys_of name.key) f ms) (formed_entries (n + 1) rest) rules s)

pub items_entries : (n : ℕ) (es : Entries) → Pairs MarkAllowed (entries_mentions n es)
    → Pairs ItemsDisjoint (entries_mentions n es)
items_entries n none rules = tt
items_entries n (entry name body nested after comma rest) rules =
    let first : List Mention = entry_mentions n name (body_fact body) (entries_mentions 0 nested) in
    let parts = pairs_split MarkAllowed first (entries_mentions (n + 1) rest) rules in
    pairs_join ItemsDisjoint first (entries_mentions (n + 1) rest) (record {
      left = items_named n name (body_fact body) (entries_mentions 0 nested) (formed_entries 0 nested)
          (items_entries 0 nested (marks_named n name (body_fact body) (entries_mentions 0 nested) parts.left));
      right = items_entries (n + 1) rest parts.right;
      across =
          items_across (step n name) first (entries_mentions (n + 1) rest)
          (items_under n name (body_fact body) (entries_mentions 0 nested))
          (rest_disjoint n name (body_fact body) (entries_mentions 0 nested) rest rules);
    })

-- Inside a value the rules over marks are those over mentions.
pub rules_entries : (n : ℕ) (es : Entries) → Pairs MarkAllowed (entries_mentions n es) → Rules (entries_mentions n es)
rules_entries n es rules = rules_from (entries_mentions n es) (formed_entries n es) rules (items_entries n es rules)

abbrev NotAtRoot : Mention → Type 0
NotAtRoot m = [] ≡ m.path → ⊥

-- what an item at the start allows
item_allows : (f : Fact) (ms : List Mention) → AllOf Formed ms → AllOf NotAtRoot ms
    → AllOf (Allowed (record { path = []; kind = item f })) ms
item_allows f [] h g = tt
item_allows f (m ∷ ms) h g = ((λ e. absurd (g.0 e)), item_allows f ms h.1 g.1)

-- nothing inside a value is at its start
root_below : (p : Part) (ms : List Mention) → AllOf NotAtRoot (map (below (p ∷ [])) ms)
root_below p [] = tt
root_below p (m ∷ ms) = (no_path m.path, root_below p ms)
  where
    no_path : (q : List Part) → [] ≡ p ∷ q → ⊥
    no_path q e = cc

root_named : (n : ℕ) (name : Option Name) (f : Fact) (ms : List Mention) → AllOf NotAtRoot (entry_mentions n name f ms)
root_named n None f ms = root_below (index n) (valued_mentions (item f) ms)
root_named n (Some name) f ms = by (key_value name.key.first) (map further_value name.key.more)
  where
    by : (k : List ℕ) (ks : List (List ℕ)) → AllOf NotAtRoot (keyed_mentions (k ∷ ks) (valued_mentions (value f) ms))
    by k [] = root_below (key k) (valued_mentions (value f) ms)
    by k (l ∷ ks) =
        root_below (key k) (record { path = []; kind = dotted }
        ∷ keyed_mentions (l ∷ ks) (valued_mentions (value f) ms))

root_entries : (n : ℕ) (es : Entries) → AllOf NotAtRoot (entries_mentions n es)
root_entries n none = tt
root_entries n (entry name body nested after comma rest) =
    all_join NotAtRoot (entry_mentions n name (body_fact body) (entries_mentions 0 nested))
    (entries_mentions (n + 1) rest) (root_named n name (body_fact body) (entries_mentions 0 nested))
    (root_entries (n + 1) rest)

-- of a value alone
pub rules_value : (v : Value) → Pairs MarkAllowed (mentions_of_value v) → Rules (mentions_of_value v)
rules_value v h = (
  item_allows (body_fact v.body) (entries_mentions 0 v.nested) (formed_entries 0 v.nested) (root_entries 0 v.nested),
  rules_entries 0 v.nested h.1,
)
