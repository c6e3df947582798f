-- The holder of an insert of new keys, and its refusal, by what is said of its path and of the prefixes of that.
--
-- The holder is the longest proper prefix that names a node, which is known by what is said of it (`node_same`). An
-- insert of a path that ends in a key is refused by its holder, and by whether that is a table, whether the path is a
-- node, and how many brackets enclose it (`refused_alike`). So both stay where the same is said of each prefix.
--
-- Theorems: `holder_same`, `refusal_same`; `holder_alike`, `refused_alike`, `enclosing_same`: where less is known;
-- `node_kinds`.
use Rattle.std.proofs.Common.{◌≡◌, ℕ, ◌+◌, Bool, true, false, not, cond, ◌&&◌, ◌||◌, nat_lt, List, [], ◌∷◌, ◌++◌}
use Rattle.std.proofs.Common.{map}
use Rattle.std.proofs.Common.{length, drop, refl, sym, ap, ap₂, ◌∙◌, Option, Some, None}
use Rattle.std.specs.List.{filter_map, list_any}
use Rattle.std.proofs.lemmas.List.{append-nil}
use Rattle.keep_types.specs.declared.leaf.Profile.{Profile}
use Rattle.keep_syntax.specs.Tree.{Value, value_depth}
use Rattle.keep_path.specs.Path.{Part, key}
use Rattle.keep_meaning.specs.Marks.{Mention, MentionKind, fact_of}
use Rattle.keep_meaning.specs.Nodes.{fact_at, first_of, is_at, is_element, is_node, is_root, kinds_at}
use Rattle.keep_edit_spec.specs.declared.fault.EditFault.{EditFault}
use Rattle.keep_edit_spec.specs.declared.fault.EditFault.TheVariants as fault
use Rattle.keep_edit_spec.specs.Edits.{insert}
use Rattle.keep_edit_spec.specs.Look.{enclosing, holder, is_bracket_at, is_index, is_table, is_table_fact}
use Rattle.keep_edit_spec.specs.Look.{last_passing, prefixes}
use Rattle.keep_edit_spec.specs.Refusals.{first_that_holds, is_foreign, refusal_by}
use Rattle.keep_edit_spec.proofs.Common.EntryDepths.{bracket_of, count_same}
use Rattle.keep_edit_spec.proofs.Insert.NewPath.{mapped, passing_map}
use Rattle.keep_edit_spec.proofs.Lists.Places.{item_none}

-- tests that agree on the proper prefixes of a path
last_same : (t u : List Part → Bool) (path : List Part)
    → ((q : List Part) (k : Part) (qs : List Part) → path ≡ q ++ k ∷ qs → t q ≡ u q)
    → last_passing t (prefixes path) ≡ last_passing u (prefixes path)
last_same t u [] h = refl
last_same t u (p ∷ ps) h =
    ap₂ (λ (o : Option (List Part)) (b : Bool). elim o [ Some y ↦ Some y | None ↦ cond b (Some []) None ])
    (passing_map t (λ q. p ∷ q) (prefixes ps)
    ∙ ap (mapped (λ q. p ∷ q))
    (last_same (λ q. t (p ∷ q)) (λ q. u (p ∷ q)) ps
    (λ q k qs e. h (p ∷ q) k qs (ap (λ (x : List Part). p ∷ x) e)))
    ∙ sym (passing_map u (λ q. p ∷ q) (prefixes ps))) (h [] p ps refl)

-- ---- what is said of a path tells whether it is a node

pub any_kinds : (q : List Part) (ms : List Mention)
    → list_any (is_at q) ms ≡ list_any (λ (k : MentionKind). true) (kinds_at q ms)
any_kinds q [] = refl
any_kinds q (m ∷ ms) = by (is_at q m) refl (any_kinds q ms)
  where
    by : (b : Bool) → is_at q m ≡ b → list_any (is_at q) ms ≡ list_any (λ (k : MentionKind). true) (kinds_at q ms)
        → list_any (is_at q) (m ∷ ms) ≡ list_any (λ (k : MentionKind). true) (kinds_at q (m ∷ ms))
    by true e h = rw e refl
    by false e h = rw e h

abbrev pub node_of : List Part → List MentionKind → Bool
node_of q kinds = is_root q || list_any (λ (k : MentionKind). true) kinds

pub node_kinds : (q : List Part) (ms : List Mention) → is_node q ms ≡ node_of q (kinds_at q ms)
node_kinds q ms = ap (λ (b : Bool). is_root q || b) (any_kinds q ms)

-- ---- what an insert is refused by

same_four : {A B C D E : Type 0} (f : A → B → C → D → E) (a x : A) (b y : B) (c z : C) (d w : D) → a ≡ x → b ≡ y
    → c ≡ z → d ≡ w → f a b c d ≡ f x y z w
same_four f a x b y c z d w p q r s = cc

module _ (was now : List Mention) (path : List Part) where
  pub enclosing_same : ((q rest : List Part) → path ≡ q ++ rest → fact_at q now ≡ fact_at q was)
      → enclosing path now ≡ enclosing path was
  enclosing_same same =
      count_same (is_bracket_at now) (is_bracket_at was) path (λ q k qs is. ap bracket_of (same q (k ∷ qs) is))

  pub holder_alike : ((q rest : List Part) → path ≡ q ++ rest → is_node q now ≡ is_node q was)
      → holder path now ≡ holder path was
  holder_alike same =
      ap (λ (o : Option (List Part)). elim o [ Some a ↦ a | None ↦ [] ])
      (last_same (λ q. is_node q now) (λ q. is_node q was) path (λ q k qs is. same q (k ∷ qs) is))

  module _ (text : List ℕ) (more : List (List ℕ)) (new : path ≡ holder path was ++ map key (text ∷ more)) where
    module _ (profile : Profile) (limit : ℕ) (value : Value) where
      abbrev tests : List Part → Bool → Bool → ℕ → Option EditFault
      tests a node table deep = first_that_holds (
          (not node && list_any is_index (drop (length a) path), fault.NotFound)
          ∷ (node, fault.Exists)
          ∷ (not table, fault.NotTable)
          ∷ (nat_lt limit (deep + value_depth value), fault.TooDeep)
          ∷ (is_foreign profile value, fault.Profile) ∷ [])

      refused_by : (ms : List Mention) → refusal_by profile limit ms (insert path value)
          ≡ tests (holder path ms) (is_node path ms) (is_table (holder path ms) ms) (enclosing path ms)
      refused_by ms = rw (item_none path (holder path was) text more new ms, refusal_by) refl

      pub refused_alike : holder path now ≡ holder path was → is_node path now ≡ is_node path was
          → is_table (holder path now) now ≡ is_table (holder path was) was → enclosing path now ≡ enclosing path was
          → refusal_by profile limit now (insert path value) ≡ refusal_by profile limit was (insert path value)
      refused_alike held node table deep =
          refused_by now
          ∙ same_four tests (holder path now) (holder path was) (is_node path now) (is_node path was)
          (is_table (holder path now) now) (is_table (holder path was) was) (enclosing path now) (enclosing path was)
          held node table deep
          ∙ sym (refused_by was)

    -- ---- where the same is said of each prefix

    module _ (same : (q rest : List Part) → path ≡ q ++ rest → kinds_at q now ≡ kinds_at q was) where
      node_same : (q rest : List Part) → path ≡ q ++ rest → is_node q now ≡ is_node q was
      node_same q rest is = node_kinds q now ∙ ap (node_of q) (same q rest is) ∙ sym (node_kinds q was)

      pub holder_same : holder path now ≡ holder path was
      holder_same = holder_alike node_same

      table_same : is_table (holder path now) now ≡ is_table (holder path was) was
      table_same =
          ap (λ (a : List Part). is_table a now) holder_same
          ∙ ap (λ (kinds : List MentionKind).
          is_table_fact (first_of (filter_map fact_of kinds)) && not (list_any is_element kinds))
          (same (holder path was) (map key (text ∷ more)) new)

      pub refusal_same : (profile : Profile) (limit : ℕ) (value : Value)
          → refusal_by profile limit now (insert path value) ≡ refusal_by profile limit was (insert path value)
      refusal_same profile limit value =
          refused_alike profile limit value holder_same (node_same path [] (sym (append-nil path))) table_same
          (enclosing_same
          (λ q rest is. ap (λ (kinds : List MentionKind). first_of (filter_map fact_of kinds)) (same q rest is)))
