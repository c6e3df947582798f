-- With an item put into an array, what the array says obeys the rules, and the facts of the item are its value's.
--
-- Theorems: `put_rules`: the rules; `put_facts`: the facts of the item; `put_out`: what was there is what is now there
-- without the item.
use Rattle.std.proofs.Common.{◌≡◌, ℕ, ◌+◌, ◌-◌, ◌<◌, List, [], ◌∷◌, ◌++◌, map, refl, sym, ap, subst, ◌∙◌, arith}
use Rattle.std.specs.List.{filter_map}
use Rattle.keep_syntax.specs.Tree.{Value, Entries}
use Rattle.keep_path.specs.Path.{Part, index}
use Rattle.keep_meaning.specs.Marks.{MentionKind, Mention, below, fact_of}
use Rattle.keep_meaning.specs.Meaning.{valued_mentions, entries_mentions, mentions_of_value}
use Rattle.keep_meaning.specs.Nodes.{fact_at, first_of}
use Rattle.keep_edit_spec.proofs.Common.Runs.{AllOf, Allowed, Rules, IsDisjoint, all_left, all_right, rules_replaced}
use Rattle.keep_edit_spec.proofs.Common.Runs.{kinds_at-below, fact_under, strip-append}
use Rattle.keep_edit_spec.proofs.Common.SetDocument.{rules_outside, under_below}
use Rattle.keep_edit_spec.proofs.Common.Moves.{moved, down}
use Rattle.keep_edit_spec.proofs.Remove.RemoveInValue.{IsItemOut, item_preserved, item_is, item_was, down_above}
use Rattle.keep_edit_spec.proofs.Insert.PutIn.{IsItemIn}

-- what was there is what is now there without the item, of which the run is what its value says
pub put_out : (new : Value) (n : ℕ) (from to : Entries) → IsItemIn new n 0 from to
    → (o : IsItemOut n to from) × (o.run ≡ mentions_of_value new)
put_out new n from to h = subst (λ (m : ℕ). (o : IsItemOut m to from) × (o.run ≡ mentions_of_value new)) h.at (
  record {
    before = h.put.before;
    run = mentions_of_value new;
    rest = h.put.rest;
    was = h.put.is;
    is = h.put.was;
    stays = h.put.stays;
    disjoint = h.put.disjoint;
  },
  refl,
)

-- paths that are the same are still the same after any change of them
unmoved_all : (f : List Part → List Part) (m : Mention) (ms : List Mention)
    → AllOf (Allowed (moved f m)) (map (moved f) ms) → AllOf (Allowed m) ms
unmoved_all f m [] h = tt
unmoved_all f m (x ∷ ms) h = ((λ e. h.0 (ap f e)), unmoved_all f m ms h.1)

rules_unmoved : (f : List Part → List Part) (ms : List Mention) → Rules (map (moved f) ms) → Rules ms
rules_unmoved f [] h = tt
rules_unmoved f (m ∷ ms) h = (unmoved_all f m ms h.0, rules_unmoved f ms h.1)

module _ (new : Value) (n : ℕ) (mention_kind : MentionKind) (from to : Entries) (o : IsItemOut n to from)
    (run : o.run ≡ mentions_of_value new) where
  abbrev prefix : List Mention
  prefix = record { path = []; kind = mention_kind } ∷ o.before

  now_mentioned : valued_mentions mention_kind (entries_mentions 0 to) ≡ prefix
      ++ (map (below (index n ∷ [])) (mentions_of_value new) ++ entries_mentions (n + 1) o.rest)
  now_mentioned =
      item_was n mention_kind to from o
      ∙ ap (λ (l : List Mention). prefix ++ (map (below (index n ∷ [])) l ++ entries_mentions (n + 1) o.rest)) run

  preserved : AllOf (IsDisjoint (index n ∷ [])) (prefix ++ entries_mentions (n + 1) o.rest)
  preserved = item_preserved n mention_kind to from o

  pub put_rules : Rules (mentions_of_value new) → Rules (valued_mentions mention_kind (entries_mentions 0 from))
      → Rules (valued_mentions mention_kind (entries_mentions 0 to))
  put_rules given rules =
      subst Rules (sym now_mentioned)
      (rules_replaced (index n ∷ []) prefix [] (map (below (index n ∷ [])) (mentions_of_value new))
      (entries_mentions (n + 1) o.rest)
      (rules_unmoved (down n) (prefix ++ entries_mentions (n + 1) o.rest)
      (subst Rules (item_is n mention_kind to from o) rules))
      (all_left (IsDisjoint (index n ∷ [])) prefix (entries_mentions (n + 1) o.rest) preserved)
      (all_right (IsDisjoint (index n ∷ [])) prefix (entries_mentions (n + 1) o.rest) preserved)
      (under_below (index n ∷ []) (mentions_of_value new)) (rules_outside (index n ∷ []) (mentions_of_value new) given))

  -- the facts of the item
  pub put_facts : (r : List Part)
      → fact_at (index n ∷ r) (valued_mentions mention_kind (entries_mentions 0 to)) ≡ fact_at r (mentions_of_value new)
  put_facts r =
      ap (fact_at (index n ∷ r)) now_mentioned
      ∙ fact_under (index n ∷ []) (index n ∷ r) r prefix (map (below (index n ∷ [])) (mentions_of_value new))
      (entries_mentions (n + 1) o.rest)
      (all_left (IsDisjoint (index n ∷ [])) prefix (entries_mentions (n + 1) o.rest) preserved)
      (all_right (IsDisjoint (index n ∷ [])) prefix (entries_mentions (n + 1) o.rest) preserved)
      (strip-append (index n ∷ []) r)
      ∙ ap (λ l. first_of (filter_map fact_of l)) (kinds_at-below (index n ∷ []) r (mentions_of_value new))

pub down_less : (n m : ℕ) (r : List Part) → n < m → down n (index m ∷ r) ≡ index (m - 1) ∷ r
down_less n m r h =
    let e : m - 1 + 1 ≡ m = omega arith in
    ap (λ (k : ℕ). down n (index k ∷ r)) (sym e) ∙ down_above n (m - 1) r (omega arith)
