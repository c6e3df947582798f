-- `remove` of an item of an array and of a keyval in braces: the rules and the tree.
--
-- What the search does at the value is known (`done_document`); here the value's own change is looked at. If its entry
-- has no name, it is an item: its mentions are cut out, and the items after it have numbers one lower (`IsItemOut`,
-- `item_is`). The rules hold, as different paths stay different (`item_rules`). The tree at a path is that at the path
-- before the change: the same one below the item's number, and the one with the next number from there on
-- (`by_number`). If it has a name, it is a keyval in braces: its mentions are cut out, and nothing is renumbered
-- (`keyval_cut`).
--
-- Theorem: `removed_in_value`.
use Rattle.std.proofs.Common.{◌≡◌, ℕ, ◌+◌, ◌-◌, ◌<◌, ◌≤◌, Bool, true, false, cond, List, [], ◌∷◌, ◌++◌, map, refl, sym}
use Rattle.std.proofs.Common.{ap, subst, ◌∙◌, arith, Option, Some, None, inl, inr}
use Rattle.std.specs.Prelude.{nat_lt}
use Rattle.std.specs.List.{filter_map}
use Rattle.std.proofs.lemmas.List.{map-append, append-nil}
use Rattle.std.proofs.lemmas.Bool.{cases_lt, lt-ltb, le-ltb}
use Rattle.keep_types.specs.declared.leaf.Profile.{Profile}
use Rattle.keep_syntax.specs.Tree.{Name, Entries, none, entry, Document}
use Rattle.keep_syntax.specs.Grammar.{IsNamed, AreEntries, IsDocument, Place, in_scalar, in_array, in_inline, place_in}
use Rattle.keep_path.specs.Path.{Part, key, index}
use Rattle.keep_meaning.specs.Marks.{MentionKind, value, item, Mention, below, fact_of}
use Rattle.keep_meaning.specs.Meaning.{key_value, further_value, keys_of, body_fact, valued_mentions, keyed_mentions}
use Rattle.keep_meaning.specs.Meaning.{entry_mentions, entries_mentions, step, mentions_in}
use Rattle.keep_meaning.specs.Nodes.{fact_at, first_of}
use Rattle.keep_edit_spec.specs.Look.{strip}
use Rattle.keep_edit_spec.specs.Values.{removal}
use Rattle.keep_edit_spec.specs.Edits.{remove, nested}
use Rattle.keep_edit_spec.specs.Trees.{IsTreeOf, source, fact_from, from as from_path, put_out}
use Rattle.keep_edit_spec.proofs.Common.Runs.{AllOf, all_join, Rules, IsDisjoint, fact_elsewhere, strip-append}
use Rattle.keep_edit_spec.proofs.Common.Runs.{strip-sound}
use Rattle.keep_edit_spec.proofs.Common.SetLaw.{EachTo, all_longer, later_disjoint, keyed_split, other_number}
use Rattle.keep_edit_spec.proofs.Common.SetLaw.{more_number, disjoint_from_entry}
use Rattle.keep_edit_spec.proofs.Common.SetDocument.{IsLawful, each_to, under_below, rules_outside, ends_keys}
use Rattle.keep_edit_spec.proofs.Common.InsertLaw.{dots_none}
use Rattle.keep_edit_spec.proofs.Common.LineLaws.{EndsInKey}
use Rattle.keep_edit_spec.proofs.Common.Runs.{pairs_split, Allowed}
use Rattle.keep_edit_spec.proofs.Common.Moves.{moved, down, down-injective, rules_moved, rules_taken, mentions_moved}
use Rattle.keep_edit_spec.proofs.Common.Moves.{entries_after}
use Rattle.keep_edit_spec.proofs.Common.InValue.{tagged, IsDone, IsDoneAt, done_document, rules_there, rules_done}
use Rattle.keep_edit_spec.proofs.Common.InValue.{elsewhere_done, there_now, there_before}
use Rattle.keep_edit_spec.proofs.Common.Cuts.{IsCut, cut_below, cut_beside, rules_cut, tree_cut, last_part-snoc}
use Rattle.keep_edit_spec.proofs.Common.Cuts.{without_last-snoc, removed_by}
use Rattle.keep_edit_spec.proofs.Remove.TakenOut.{IsOut, IsRemoved, does_remove}

-- ---- an item

pub record IsItemOut (n : ℕ) (from to : Entries) : Type 0 where
  pub before : List Mention
  pub run : List Mention
  pub rest : Entries
  pub was : entries_mentions 0 from ≡ before ++ (map (below (index n ∷ [])) run ++ entries_mentions (n + 1) rest)
  pub is : entries_mentions 0 to ≡ before ++ entries_mentions n rest
  pub stays : map (moved (down n)) before ≡ before
  pub disjoint : AllOf (IsDisjoint (index n ∷ [])) before

pub item_out : (path : List Part) (from to : Entries) → (t : IsOut path 0 from to) → t.name ≡ None
    → Rules (entries_mentions 0 from) → IsItemOut t.number from to
item_out path from to t e rules = record {
  before = t.before;
  run = valued_mentions (item (body_fact t.body)) (entries_mentions 0 t.nested);
  rest = t.rest;
  was = t.was
      ∙ ap (λ (o : Option Name).
      t.before ++ (entry_mentions t.number o (body_fact t.body) (entries_mentions 0 t.nested)
      ++ entries_mentions (t.number + 1) t.rest)) e;
  is = t.is;
  stays = t.stays;
  disjoint =
      subst (λ (q : List Part). AllOf (IsDisjoint q) t.before) (sym t.named ∙ ap (step t.number) e) (t.disjoint rules);
}

module _ (n : ℕ) (mention_kind : MentionKind) (from to : Entries) (h : IsItemOut n from to) where
  pub item_preserved : AllOf (IsDisjoint (index n ∷ []))
      ((record { path = []; kind = mention_kind } ∷ h.before) ++ entries_mentions (n + 1) h.rest)
  item_preserved = (
    refl,
    all_join (IsDisjoint (index n ∷ [])) h.before (entries_mentions (n + 1) h.rest) h.disjoint
        (later_disjoint n (n + 1) [] h.rest (omega arith)),
  )

  pub item_is : valued_mentions mention_kind (entries_mentions 0 to)
      ≡ map (moved (down n)) ((record { path = []; kind = mention_kind } ∷ h.before) ++ entries_mentions (n + 1) h.rest)
  item_is = ap (λ l. record { path = []; kind = mention_kind } ∷ l)
      (h.is ∙ ap (λ l. l ++ entries_mentions n h.rest) (sym h.stays)
      ∙ ap (λ l. map (moved (down n)) h.before ++ l) (sym (entries_after n n h.rest (omega arith)))
      ∙ sym (map-append (moved (down n)) h.before (entries_mentions (n + 1) h.rest)))

  pub item_was : valued_mentions mention_kind (entries_mentions 0 from)
      ≡ (record { path = []; kind = mention_kind } ∷ h.before)
      ++ (map (below (index n ∷ [])) h.run ++ entries_mentions (n + 1) h.rest)
  item_was = ap (λ l. record { path = []; kind = mention_kind } ∷ l) h.was

  pub item_rules : Rules (valued_mentions mention_kind (entries_mentions 0 from))
      → Rules (valued_mentions mention_kind (entries_mentions 0 to))
  item_rules rules =
      subst Rules (sym item_is)
      (rules_moved (λ q. strip (index n ∷ []) q ≡ None) (down n) (down-injective n)
      ((record { path = []; kind = mention_kind } ∷ h.before) ++ entries_mentions (n + 1) h.rest) item_preserved
      (rules_taken (record { path = []; kind = mention_kind } ∷ h.before) (map (below (index n ∷ [])) h.run)
      (entries_mentions (n + 1) h.rest) (subst Rules item_was rules)))

  -- what was at a path that is kept is now where it has moved
  pub item_facts : (q : List Part) → strip (index n ∷ []) q ≡ None
      → fact_at (down n q) (valued_mentions mention_kind (entries_mentions 0 to))
      ≡ fact_at q (valued_mentions mention_kind (entries_mentions 0 from))
  item_facts q hq =
      ap (fact_at (down n q)) item_is
      ∙ ap (λ l. first_of (filter_map fact_of l))
      (mentions_moved (λ q. strip (index n ∷ []) q ≡ None) (down n) (down-injective n) q hq
      ((record { path = []; kind = mention_kind } ∷ h.before) ++ entries_mentions (n + 1) h.rest) item_preserved)
      ∙ fact_elsewhere (index n ∷ []) q (record { path = []; kind = mention_kind } ∷ h.before)
      (map (below (index n ∷ [])) h.run) [] (entries_mentions (n + 1) h.rest) (under_below (index n ∷ []) h.run) tt hq
      ∙ ap (fact_at q) (sym item_was)

-- where an item was that now has number m
pub item_below : (n m : ℕ) (r : List Part) → m < n → strip (index n ∷ []) (index m ∷ r) ≡ None
item_below n m r h = rw (strip, more_number m n h) refl

pub item_above : (n m : ℕ) (r : List Part) → n < m → strip (index n ∷ []) (index m ∷ r) ≡ None
item_above n m r h = rw (strip, other_number n m h) refl

pub down_below : (n m : ℕ) (r : List Part) → m < n → down n (index m ∷ r) ≡ index m ∷ r
down_below n m r h = ap (λ b. index (cond b (m - 1) m) ∷ r) (le-ltb n m (let k : m ≤ n = omega arith in k))

pub down_above : (n m : ℕ) (r : List Part) → n ≤ m → down n (index (m + 1) ∷ r) ≡ index m ∷ r
down_above n m r h =
    ap (λ b. index (cond b (m + 1 - 1) (m + 1)) ∷ r) (lt-ltb n (m + 1) (let k : n < m + 1 = omega arith in k))
    ∙ ap (λ (k : ℕ). index k ∷ r) (let e : m + 1 - 1 ≡ m = omega arith in e)

-- in braces every entry has a name, and numbers do not count
pub renumbered : (profile : Profile) (place : Place) (name : Name) (rest : Entries) (a b : ℕ)
    → IsNamed profile place (Some name) → AreEntries profile place rest
    → entries_mentions a rest ≡ entries_mentions b rest
renumbered profile in_scalar name rest a b h valid = absurd h
renumbered profile in_array name rest a b h valid = absurd h
renumbered profile in_inline name none a b h valid = refl
renumbered profile in_inline name (entry None body nested after comma rest) a b h valid = absurd valid.0
renumbered profile in_inline name (entry (Some other) body nested after comma rest) a b h valid =
    ap (λ l.
    keyed_mentions (keys_of other.key) (valued_mentions (value (body_fact body)) (entries_mentions 0 nested)) ++ l)
    (renumbered profile in_inline name rest (a + 1) (b + 1) h valid.5)

pub record IsRulesAndTree (path : List Part) (from to : List Mention) : Type 0 where
  pub rules : Rules to
  pub tree : IsTreeOf from (remove path) to

module _ (profile : Profile) (prefix path : List Part) (from to : List Mention)
    (h : IsDoneAt (IsRemoved profile) prefix path from to) (rules : Rules from) where
  there : Rules (tagged h.tag h.old)
  there = rules_there (IsRemoved profile) prefix path from to h rules

  nested_rules : Rules (entries_mentions 0 h.old.nested)
  nested_rules = there.1

  now_mentioned : (mention_kind : MentionKind) → h.tag (body_fact h.old.body) ≡ mention_kind
      → tagged h.tag h.now ≡ valued_mentions mention_kind (entries_mentions 0 h.now.nested)
  now_mentioned mention_kind e =
      ap (λ (s : MentionKind). valued_mentions s (entries_mentions 0 h.now.nested)) (ap h.tag h.done.fact ∙ e)

  item_facts_there : h.done.out.name ≡ None → (q : List Part) → strip (index h.done.out.number ∷ []) q ≡ None
      → fact_at (down h.done.out.number q) (tagged h.tag h.now) ≡ fact_at q (tagged h.tag h.old)
  item_facts_there e q hq =
      ap (fact_at (down h.done.out.number q)) (now_mentioned (h.tag (body_fact h.old.body)) refl)
      ∙ item_facts h.done.out.number (h.tag (body_fact h.old.body)) h.old.nested h.now.nested
      (item_out h.rest h.old.nested h.now.nested h.done.out e nested_rules) q hq

  item_rules_there : h.done.out.name ≡ None → Rules to
  item_rules_there e =
      rules_done (IsRemoved profile) prefix path from to h rules
      (rules_outside prefix (tagged h.tag h.now) (subst Rules (sym (now_mentioned (h.tag (body_fact h.old.body)) refl))
      (item_rules h.done.out.number (h.tag (body_fact h.old.body)) h.old.nested h.now.nested
      (item_out h.rest h.old.nested h.now.nested h.done.out e nested_rules) there)))

  -- by the place of the fact in the array
  at_place : h.done.out.name ≡ None → (q r r' : List Part) → strip prefix q ≡ Some r
      → strip (index h.done.out.number ∷ []) r' ≡ None → down h.done.out.number r' ≡ r
      → fact_at q to ≡ fact_at (prefix ++ r') from
  at_place e q r r' u hr d =
      there_now (IsRemoved profile) prefix path from to h q r u
      ∙ ap (λ (x : List Part). fact_at x (tagged h.tag h.now)) (sym d)
      ∙ item_facts_there e r' hr
      ∙ sym (there_before (IsRemoved profile) prefix path from to h (prefix ++ r') r' (strip-append prefix r'))

  by_number : h.done.out.name ≡ None → (q : List Part) (m : ℕ) (r : List Part) → strip prefix q ≡ Some (index m ∷ r)
      → q ≡ prefix ++ index m ∷ r → (b : Bool) → nat_lt m h.done.out.number ≡ b
      → fact_at q to ≡ fact_from from [] (cond b (from_path q) (from_path (prefix ++ index (m + 1) ∷ r)))
  by_number e q m r u w true k = elim (cases_lt m h.done.out.number) [
    | inl l ↦
        at_place e q (index m ∷ r) (index m ∷ r) u (item_below h.done.out.number m r l)
        (down_below h.done.out.number m r l)
        ∙ ap (λ (x : List Part). fact_at x from) (sym w)
    | inr g ↦ absurd (let z : nat_lt m h.done.out.number ≡ false = le-ltb m h.done.out.number g in cc)
  ]
  by_number e q m r u w false k = elim (cases_lt m h.done.out.number) [
    | inl l ↦ absurd (let z : nat_lt m h.done.out.number ≡ true = lt-ltb m h.done.out.number l in cc)
    | inr g ↦
        at_place e q (index m ∷ r) (index (m + 1) ∷ r) u (item_above h.done.out.number (m + 1) r (omega arith))
        (down_above h.done.out.number m r g)
  ]

  item_by : h.done.out.name ≡ None → (q : List Part) (o : Option (List Part)) → strip prefix q ≡ o
      → fact_at q to ≡ fact_from from [] (elim o [
        | None ↦ from_path q
        | Some more ↦ elim more [
          | [] ↦ from_path q
          | part ∷ rest ↦ elim part [
            | key text ↦ from_path q
            | index m ↦ cond (nat_lt m h.done.out.number) (from_path q) (from_path (prefix ++ index (m + 1) ∷ rest))
          ]
        ]
      ])
  item_by e q None u = elsewhere_done (IsRemoved profile) prefix path from to h q u
  item_by e q (Some []) u =
      at_place e q [] [] u refl refl ∙ ap (λ (x : List Part). fact_at x from) (sym (strip-sound prefix q [] u))
  item_by e q (Some (key text ∷ r)) u =
      at_place e q (key text ∷ r) (key text ∷ r) u refl refl
      ∙ ap (λ (x : List Part). fact_at x from) (sym (strip-sound prefix q (key text ∷ r) u))
  item_by e q (Some (index m ∷ r)) u =
      by_number e q m r u (strip-sound prefix q (index m ∷ r) u) (nat_lt m h.done.out.number) refl

  item_path : h.done.out.name ≡ None → path ≡ prefix ++ index h.done.out.number ∷ []
  item_path e = h.whole ∙ ap (λ l. prefix ++ l) (sym h.done.out.named ∙ ap (step h.done.out.number) e)

  item_tree : h.done.out.name ≡ None → IsTreeOf from (remove path) to
  item_tree e q =
      item_by e q (strip prefix q) refl
      ∙ ap (λ (f : List Part). fact_from from [] (put_out f h.done.out.number q))
      (sym (without_last-snoc prefix (index h.done.out.number)))
      ∙ ap (λ (o : Option Part). fact_from from [] (removed_by (prefix ++ index h.done.out.number ∷ []) q o))
      (sym (last_part-snoc prefix (index h.done.out.number)))
      ∙ ap (λ (p : List Part). fact_from from [] (source from (remove p) q)) (sym (item_path e))

  -- a keyval in braces
  keyval_cut : (name : Name) → h.done.out.name ≡ Some name
      → IsCut (map key (keys_of name.key)) (tagged h.tag h.old) (tagged h.tag h.now)
  keyval_cut name e =
      let t = h.done.out in
      let p : List Part = map key (keys_of name.key) in
      let mention_kind : MentionKind = h.tag (body_fact h.old.body) in
      let whole : p ≡ h.rest = sym (ap (step t.number) e) ∙ t.named in
      let ways : List Mention = keyed_mentions (keys_of name.key) [] in
      let vs : List Mention = valued_mentions (value (body_fact t.body)) (entries_mentions 0 t.nested) in
      let valid = t.valid profile (place_in h.old.body) h.done.valid.nested in
      let same : entries_mentions t.number t.rest ≡ entries_mentions (t.number + 1) t.rest =
      renumbered profile (place_in h.old.body) name t.rest t.number (t.number + 1)
      (subst (λ (o : Option Name). IsNamed profile (place_in h.old.body) o) e valid.0) valid.1 in
      let was : entries_mentions 0 h.old.nested ≡ t.before
      ++ (entry_mentions t.number (Some name) (body_fact t.body) (entries_mentions 0 t.nested)
      ++ entries_mentions (t.number + 1) t.rest) =
      t.was ∙ ap (λ (o : Option Name).
      t.before ++ (entry_mentions t.number o (body_fact t.body) (entries_mentions 0 t.nested)
      ++ entries_mentions (t.number + 1) t.rest)) e in
      let rules_out : Rules (entry_mentions t.number (Some name) (body_fact t.body) (entries_mentions 0 t.nested)
      ++ entries_mentions (t.number + 1) t.rest) =
      (pairs_split Allowed t.before (entry_mentions t.number (Some name) (body_fact t.body)
      (entries_mentions 0 t.nested) ++ entries_mentions (t.number + 1) t.rest) (subst Rules was nested_rules)).right in
      record {
        before = record { path = []; kind = mention_kind } ∷ t.before;
        ways = ways;
        run = map (below p) vs;
        after = entries_mentions (t.number + 1) t.rest;
        was = ap (λ l. record { path = []; kind = mention_kind } ∷ l)
            (was ∙ ap (λ l. t.before ++ (l ++ entries_mentions (t.number + 1) t.rest))
            (keyed_split (keys_of name.key) vs));
        is = now_mentioned mention_kind refl
            ∙ ap (λ l. record { path = []; kind = mention_kind } ∷ l) (t.is ∙ ap (λ l. t.before ++ l) same);
        disjoint_before =
            (refl, subst (λ (q : List Part). AllOf (IsDisjoint q) t.before) (sym whole) (t.disjoint nested_rules));
        disjoint_after =
            subst (λ (q : List Part). AllOf (IsDisjoint q) (entries_mentions (t.number + 1) t.rest)) (append-nil p)
            (disjoint_from_entry t.number (Some name) (body_fact t.body) (entries_mentions 0 t.nested) t.rest []
            rules_out);
        silent = dots_none (keys_of name.key);
        under = under_below p vs;
      }

  keyval_path : (name : Name) → h.done.out.name ≡ Some name → path ≡ prefix ++ map key (keys_of name.key)
  keyval_path name e = h.whole ∙ ap (λ l. prefix ++ l) (sym h.done.out.named ∙ ap (step h.done.out.number) e)

  keyval_gone : (name : Name) → h.done.out.name ≡ Some name → IsCut (prefix ++ map key (keys_of name.key)) from to
  keyval_gone name e =
      let p : List Part = prefix ++ map key (keys_of name.key) in
      subst (λ (l : List Mention). IsCut p l to) (sym h.was)
      (subst (λ (l : List Mention). IsCut p (h.before ++ (map (below prefix) (tagged h.tag h.old) ++ h.after)) l)
      (sym h.is)
      (cut_beside p (map (below prefix) (tagged h.tag h.old)) (map (below prefix) (tagged h.tag h.now)) h.before h.after
      (all_longer prefix (map key (keys_of name.key)) h.before h.disjoint_before)
      (all_longer prefix (map key (keys_of name.key)) h.after h.disjoint_after)
      (cut_below prefix (map key (keys_of name.key)) (tagged h.tag h.old) (tagged h.tag h.now) (keyval_cut name e))))

  removed : (o : Option Name) → h.done.out.name ≡ o → IsRulesAndTree path from to
  removed None e = record { rules = item_rules_there e; tree = item_tree e }
  removed (Some name) e =
      let p : List Part = prefix ++ map key (keys_of name.key) in
      let ends : EndsInKey p = ends_keys prefix (key_value name.key.first) (map further_value name.key.more) in
      record {
        rules = rules_cut p from to (keyval_gone name e) rules;
        tree = subst (λ (q : List Part). IsTreeOf from (remove q) to) (sym (keyval_path name e))
            (tree_cut p from to ends (keyval_gone name e));
      }

-- An item of an array or a keyval in braces removed: the rules are kept, and the tree is changed as stated.
pub removed_in_value : (profile : Profile) (s : Document) (path : List Part) → IsDocument profile s
    → Rules (mentions_in s) → EachTo (IsLawful s (remove path)) (nested removal path s)
removed_in_value profile s path valid rules =
    each_to (λ s'. IsDone (IsRemoved profile) path (mentions_in s) (mentions_in s')) (IsLawful s (remove path))
    (nested removal path s)
    (λ s' h. let r =
    removed profile h.prefix path (mentions_in s) (mentions_in s') h.at rules h.at.done.out.name refl in
    record { rules = r.rules; tree = r.tree })
    (done_document profile (IsRemoved profile) removal (does_remove profile) s path valid rules)
