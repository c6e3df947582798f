-- `insert` of a keyval as a line at a body's end: the rules and the tree.
--
-- The new keyval's path names no node, so no mention is at or under it (`fresh_disjoint`), and only the mentions of the
-- keyval itself are compared with one another: they obey the rules if the value alone does (`rules_keyval`). Of its
-- facts there are those of the value, under the new path, and tables at the keys before it; where a mention states no
-- fact, it may be left out of the count (`without_ways`). All other paths have the facts that they had.
--
-- Theorems: `rules_keyval` and `keyval_law`.
use Rattle.std.proofs.Common.{◌≡◌, ℕ, ◌≤◌, Bool, true, false, not, ◌||◌, List, [], ◌∷◌, ◌++◌, length, map, take, refl}
use Rattle.std.proofs.Common.{sym, ap, subst, ◌∙◌, append_assoc, Option, Some, None, inl, inr}
use Rattle.std.specs.List.{filter_map, cons_option, list_any}
use Rattle.std.proofs.lemmas.List.{map-append, append-nil}
use Rattle.std.proofs.lemmas.List.Elements.{filter_map-append}
use Rattle.keep_syntax.specs.Tree.{Name, Value, keyval, Line, Document}
use Rattle.keep_meaning.specs.Fact.{Fact}
use Rattle.keep_path.specs.Path.{Part, key, same_path}
use Rattle.keep_meaning.specs.Marks.{MentionKind, value, item, dotted, Mention, below, fact_of, start}
use Rattle.keep_meaning.specs.Meaning.{key_value, further_value, keys_of, body_fact, valued_mentions, keyed_mentions}
use Rattle.keep_meaning.specs.Meaning.{entries_mentions, step, keyval_mentions, lines_mentions, reading_after_lines}
use Rattle.keep_meaning.specs.Meaning.{lines, mentions_in}
use Rattle.keep_edit_spec.specs.Look.{strip}
use Rattle.keep_meaning.specs.Nodes.{is_at, kinds_at, fact_at, first_of}
use Rattle.keep_edit_spec.specs.Edits.{at_line}
use Rattle.keep_meaning.specs.Meaning.{mentions_of_value}
use Rattle.keep_edit_spec.proofs.Common.Runs.{kinds_allow, exclusive, solid, AllOf, SomeOf, Allowed, Rules, all_left}
use Rattle.keep_edit_spec.proofs.Common.Runs.{all_right, all_join, IsDisjoint, IsUnder, same_path-refl, kinds_at-append}
use Rattle.keep_edit_spec.proofs.Common.Runs.{kinds_at-below, strip-sound, strip_both, fact_under, fact_elsewhere}
use Rattle.keep_edit_spec.proofs.Common.SetLaw.{IsSolidAt, EachTo, keyed_split, keyed_disjoint, all_longer, map_twice}
use Rattle.keep_edit_spec.proofs.Common.SetLaw.{disjoint_below}
use Rattle.keep_edit_spec.proofs.Common.SetDocument.{valued_facts, rules_outside, under_below, from_closed, each_to}
use Rattle.keep_edit_spec.proofs.Common.LineLaws.{EndsInKey, lines_closed, never_root}
use Rattle.keep_edit_spec.proofs.Common.PutLines.{IsPut, keyval_put, rules_put}

-- ---- a path that names no node has nothing under it

pub or_true : (a b : Bool) → b ≡ true → (a || b) ≡ true
or_true true b h = refl
or_true false b h = h

pub some_named : (p : List Part) (ms : List Mention) → SomeOf (IsSolidAt p) ms → list_any (is_at p) ms ≡ true
some_named p [] h = absurd h
some_named p (m ∷ ms) (inl h) =
    let e : same_path m.path p ≡ true =
    subst (λ (q : List Part). same_path m.path q ≡ true) h.path (same_path-refl m.path) in rw e refl
some_named p (m ∷ ms) (inr h) = or_true (is_at p m) (list_any (is_at p) ms) (some_named p ms h)

pub fresh_disjoint : (p : List Part) (ls : List Line) → EndsInKey p
    → list_any (is_at p) (lines_mentions start ls) ≡ false → AllOf (IsDisjoint p) (lines_mentions start ls)
fresh_disjoint p ls ends h =
    from_closed p [] (lines_mentions start ls) (lines_closed p start ls ends) (λ v. never_root p ends v)
    (λ s. let k : list_any (is_at p) (lines_mentions start ls) ≡ true = some_named p (lines_mentions start ls) s in
    absurd cc)

-- ---- the run of a keyval

pub keyed_under : (k : List ℕ) (ks : List (List ℕ)) (ms : List Mention)
    → AllOf (IsUnder (key k ∷ [])) (keyed_mentions (k ∷ ks) ms)
keyed_under k [] ms = under_below (key k ∷ []) ms
keyed_under k (l ∷ ks) ms = under_below (key k ∷ []) (record { path = []; kind = dotted } ∷ keyed_mentions (l ∷ ks) ms)

pub under_both : (s p : List Part) (ms : List Mention) → AllOf (IsUnder p) ms
    → AllOf (IsUnder (s ++ p)) (map (below s) ms)
under_both s p [] h = tt
under_both s p (m ∷ ms) h = ((h.0.0, strip_both s p m.path ∙ h.0.1), under_both s p ms h.1)

disjoint_root : (mention_kind : MentionKind) (k : List ℕ) (ms : List Mention)
    → AllOf (Allowed (record { path = []; kind = mention_kind })) (map (below (key k ∷ [])) ms)
disjoint_root mention_kind k [] = tt
disjoint_root mention_kind k (m ∷ ms) = ((λ e. absurd (no_path m.path e)), disjoint_root mention_kind k ms)
  where
    no_path : (q : List Part) → [] ≡ key k ∷ q → ⊥
    no_path q e = cc

keyed_root : (mention_kind : MentionKind) (k : List ℕ) (ks : List (List ℕ)) (ms : List Mention)
    → AllOf (Allowed (record { path = []; kind = mention_kind })) (keyed_mentions (k ∷ ks) ms)
keyed_root mention_kind k [] ms = disjoint_root mention_kind k ms
keyed_root mention_kind k (l ∷ ks) ms =
    disjoint_root mention_kind k (record { path = []; kind = dotted } ∷ keyed_mentions (l ∷ ks) ms)

pub rules_keyed : (k : List ℕ) (ks : List (List ℕ)) (ms : List Mention) → Rules ms → Rules (keyed_mentions (k ∷ ks) ms)
rules_keyed k [] ms h = rules_outside (key k ∷ []) ms h
rules_keyed k (l ∷ ks) ms h =
    rules_outside (key k ∷ []) (record { path = []; kind = dotted } ∷ keyed_mentions (l ∷ ks) ms)
    (keyed_root dotted l ks ms, rules_keyed l ks ms h)

-- a keyval's value obeys the rules where the value alone does
pub head_same : (a b : MentionKind) (ms : List Mention) → exclusive a ≡ true → exclusive b ≡ true
    → AllOf (Allowed (record { path = []; kind = a })) ms → AllOf (Allowed (record { path = []; kind = b })) ms
head_same a b [] ha hb h = tt
head_same a b (x ∷ ms) ha hb h = (
  (λ e.
      let was : kinds_allow a x.kind ≡ not (solid x.kind) = rw ha refl in
      let now : kinds_allow b x.kind ≡ not (solid x.kind) = rw hb refl in
      now ∙ sym was ∙ h.0 e),
  head_same a b ms ha hb h.1,
)

pub rules_keyval : (name : Name) (v : Value) → Rules (mentions_of_value v) → Rules (keyval_mentions name v)
rules_keyval name v h =
    rules_keyed (key_value name.key.first) (map further_value name.key.more)
    (valued_mentions (value (body_fact v.body)) (entries_mentions 0 v.nested))
    (head_same (item (body_fact v.body)) (value (body_fact v.body)) (entries_mentions 0 v.nested) refl refl h.0, h.1)

-- ---- its tree

no_facts : (q : List Part) (ms : List Mention) → AllOf (λ m. fact_of m.kind ≡ None) ms
    → filter_map fact_of (kinds_at q ms) ≡ []
no_facts q [] h = refl
no_facts q (m ∷ ms) h = by (is_at q m) refl (no_facts q ms h.1)
  where
    by : (b : Bool) → is_at q m ≡ b → filter_map fact_of (kinds_at q ms) ≡ []
        → filter_map fact_of (kinds_at q (m ∷ ms)) ≡ []
    by true e ih = rw e (ap (λ (o : Option Fact). cons_option o (filter_map fact_of (kinds_at q ms))) h.0 ∙ ih)
    by false e ih = rw e ih

facts-append : (q : List Part) (xs ys : List Mention)
    → filter_map fact_of (kinds_at q (xs ++ ys)) ≡ filter_map fact_of (kinds_at q xs)
    ++ filter_map fact_of (kinds_at q ys)
facts-append q xs ys =
    ap (filter_map fact_of) (kinds_at-append q xs ys) ∙ filter_map-append fact_of (kinds_at q xs) (kinds_at q ys)

-- what tells no fact may be left out
pub without_ways : (q : List Part) (before ways after : List Mention) → AllOf (λ m. fact_of m.kind ≡ None) ways
    → fact_at q ((before ++ ways) ++ after) ≡ fact_at q (before ++ after)
without_ways q before ways after h =
    ap first_of (facts-append q (before ++ ways) after
    ∙ ap (λ l. l ++ filter_map fact_of (kinds_at q after))
    (facts-append q before ways ∙ ap (λ l. filter_map fact_of (kinds_at q before) ++ l) (no_facts q ways h)
    ∙ append-nil (filter_map fact_of (kinds_at q before)))
    ∙ sym (facts-append q before after))

pub none_below : (s : List Part) (ms : List Mention) → AllOf (λ m. fact_of m.kind ≡ None) ms
    → AllOf (λ m. fact_of m.kind ≡ None) (map (below s) ms)
none_below s [] h = tt
none_below s (m ∷ ms) h = (h.0, none_below s ms h.1)

pub dots_none : (ks : List (List ℕ)) → AllOf (λ m. fact_of m.kind ≡ None) (keyed_mentions ks [])
dots_none [] = tt
dots_none (k ∷ []) = tt
dots_none (k ∷ l ∷ ks) =
    none_below (key k ∷ []) (record { path = []; kind = dotted } ∷ keyed_mentions (l ∷ ks) [])
    (refl, dots_none (l ∷ ks))

abbrev pub KeyvalFact : List Part → Value → List Mention → List Part → Option Fact
KeyvalFact p v ms q = elim (strip p q) [ Some more ↦ fact_at more (mentions_of_value v) | None ↦ fact_at q ms ]

tidy : (a b c d : List Mention) → a ++ ((b ++ c) ++ d) ≡ (a ++ b) ++ (c ++ d)
tidy a b c d = simp append_assoc refl

pub tree_put-by : (a : List Part) (name : Name) (v : Value) (before after : List Mention)
    → (let p : List Part = a ++ step 0 (Some name) in
    AllOf (IsDisjoint p) before → AllOf (IsDisjoint p) after → (q : List Part) (o : Option (List Part)) → strip p q ≡ o
    → fact_at q (before ++ (map (below a) (keyval_mentions name v) ++ after))
    ≡ elim o [ Some more ↦ fact_at more (mentions_of_value v) | None ↦ fact_at q (before ++ after) ])
tree_put-by a name v before after hb hh q o e = by o e
  where
    p : List Part
    p = a ++ step 0 (Some name)

    ways : List Mention
    ways = map (below a) (keyed_mentions (keys_of name.key) [])

    vs : List Mention
    vs = valued_mentions (value (body_fact v.body)) (entries_mentions 0 v.nested)

    shape : before ++ (map (below a) (keyval_mentions name v) ++ after) ≡ (before ++ ways)
        ++ (map (below p) vs ++ after)
    shape = ap (λ l. before ++ (l ++ after))
        (ap (map (below a)) (keyed_split (keys_of name.key) vs)
        ∙ map-append (below a) (keyed_mentions (keys_of name.key) []) (map (below (map key (keys_of name.key))) vs)
        ∙ ap (λ l. ways ++ l) (map_twice a (map key (keys_of name.key)) vs))
        ∙ tidy before ways (map (below p) vs) after

    disjoint_paths : AllOf (IsDisjoint p) ways
    disjoint_paths =
        disjoint_below a (map key (keys_of name.key)) (keyed_mentions (keys_of name.key) [])
        (keyed_disjoint (key_value name.key.first) (map further_value name.key.more))

    by : (o : Option (List Part)) → strip p q ≡ o
        → fact_at q (before ++ (map (below a) (keyval_mentions name v) ++ after))
        ≡ elim o [ Some more ↦ fact_at more (mentions_of_value v) | None ↦ fact_at q (before ++ after) ]
    by None e =
        ap (fact_at q) shape
        ∙ fact_elsewhere p q (before ++ ways) [] (map (below p) vs) after tt (under_below p vs) e
        ∙ without_ways q before ways after
        (none_below a (keyed_mentions (keys_of name.key) []) (dots_none (keys_of name.key)))
    by (Some r) e =
        ap (fact_at q) shape
        ∙ fact_under p q r (before ++ ways) (map (below p) vs) after
        (all_join (IsDisjoint p) before ways hb disjoint_paths) hh e
        ∙ ap (λ (x : List Part). fact_at x (map (below p) vs)) (strip-sound p q r e)
        ∙ ap (λ l. first_of (filter_map fact_of l)) (kinds_at-below p r vs)
        ∙ valued_facts (value (body_fact v.body)) (item (body_fact v.body)) (entries_mentions 0 v.nested) r refl
        (same_path [] r) refl

-- A keyval whose first new key names no node, put in as a line of its body.
pub record IsKeyvalLaw (s : Document) (p : List Part) (v : Value) (s' : Document) : Type 0 where
  pub rules : Rules (mentions_in s')
  pub tree : (q : List Part) → fact_at q (mentions_in s') ≡ KeyvalFact p v (mentions_in s) q

pub keyval_law : (s : Document) (n : ℕ) (name : Name) (v : Value) → n ≤ length (lines s)
    → (let a : List Part = (reading_after_lines start (take n (lines s))).body in
    list_any (is_at (a ++ key (key_value name.key.first) ∷ [])) (mentions_in s) ≡ false → Rules (mentions_in s)
    → Rules (mentions_of_value v)
    → EachTo (IsKeyvalLaw s (a ++ step 0 (Some name)) v) (at_line s n (keyval name v ∷ [])))
keyval_law s n name v few fresh rules value_rules =
    let a : List Part = (reading_after_lines start (take n (lines s))).body in
    let k : List ℕ = key_value name.key.first in
    let ks : List (List ℕ) = map further_value name.key.more in
    let p0 : List Part = a ++ key k ∷ [] in
    let p : List Part = a ++ step 0 (Some name) in
    let new : List Mention = map (below a) (keyval_mentions name v) in
    let disjoint : AllOf (IsDisjoint p0) (mentions_in s) = fresh_disjoint p0 (lines s) (a, k, refl) fresh in
    let far : AllOf (IsDisjoint p) (mentions_in s) =
    subst (λ (x : List Part). AllOf (IsDisjoint x) (mentions_in s)) (append_assoc a (key k ∷ []) (map key ks))
    (all_longer p0 (map key ks) (mentions_in s) disjoint) in
    each_to (λ s'. IsPut start n (lines s) new (mentions_in s')) (IsKeyvalLaw s p v) (at_line s n (keyval name v ∷ []))
    (λ s' h.
    let both : AllOf (IsDisjoint p) (h.before ++ h.after) =
    subst (λ (l : List Mention). AllOf (IsDisjoint p) l) h.was far in
    record {
      rules = rules_put p0 start n (lines s) new (mentions_in s') h rules disjoint
          (under_both a (key k ∷ []) (keyval_mentions name v)
          (keyed_under k ks (valued_mentions (value (body_fact v.body)) (entries_mentions 0 v.nested))))
          (rules_outside a (keyval_mentions name v) (rules_keyval name v value_rules));
      tree = λ q. ap (fact_at q) h.is
          ∙ tree_put-by a name v h.before h.after (all_left (IsDisjoint p) h.before h.after both)
          (all_right (IsDisjoint p) h.before h.after both) q (strip p q) refl
          ∙ ap (λ (l : List Mention). KeyvalFact p v l q) (sym h.was);
    })
    (keyval_put s n name v few)
