-- One mention more of a table of dotted keys, by a keyval that continues from it: the same nodes, and of that one a
-- mark more, and the value's number if no later keyval continues from it (`dot_added`); and so of several
-- (`dots_added`).
--
-- The table is mentioned before by a key part, so it has the number of its first key part (`first_here`), and its kind
-- is what it was, as such a mention gives none. Its place is that of the last keyval that continues from it: the one of
-- the new mention, if none after it does, since numbers ascend (`dotted_more`).
--
-- Theorem: `dots_added`.
use Rattle.std.proofs.Common.{◌≡◌, ℕ, suc, ◌+◌, ◌<◌, ◌≤◌, Bool, true}
use Rattle.std.proofs.Common.{false, cond, ◌||◌, List, [], ◌∷◌, ◌++◌, get_or, length}
use Rattle.std.proofs.Common.{map, refl, sym, ap, ap₂, subst, ◌∙◌}
use Rattle.std.proofs.Common.{arith, append_assoc, Option, Some, None, ◌⊎◌, inl, inr}
use Rattle.std.specs.Prelude.{fold, max, slice_set}
use Rattle.std.specs.List.{list_any}
use Rattle.std.proofs.lemmas.Bool.{false_from_ne_true, or_left, or_right}
use Rattle.std.proofs.lemmas.List.{get_or-map, get_or-set_other, get_or-set_same, length-map, map-append}
use Rattle.std.proofs.lemmas.List.Elements.{filter-append, filter_map-append}
use Rattle.std.proofs.lemmas.List.Folds.{list_any-append}
use Rattle.std.proofs.lemmas.List.Sums.{fold-append}
use Rattle.keep_types.specs.declared.node.Kind.{Kind}
use Rattle.keep_types.specs.declared.node.Kind.TheVariants as kind
use Rattle.keep_types.specs.declared.node.NodeInfo.{NodeInfo}
use Rattle.keep_types.specs.declared.node.Origin.{Origin}
use Rattle.keep_types.specs.declared.node.Origin.TheVariants as origin
use Rattle.keep_path.specs.Dots.{info_with_dots, with_dots}
use Rattle.keep_path.specs.KeysAlone.{paths_below}
use Rattle.keep_path.specs.NodeInfos.{NodeInfos, no_info}
use Rattle.keep_path.specs.NodesBelow.{value_of}
use Rattle.keep_path.specs.Path.{Part, key, same_path}
use Rattle.keep_path.proofs.Shared.{path_decides}
use Rattle.keep_meaning.specs.Counts.{Count, Numbered, count_with_mention, is_mark, is_value, numbered_mentions}
use Rattle.keep_meaning.specs.Fact.{Fact}
use Rattle.keep_meaning.specs.Marks.{Mention, MentionKind, dotted, fact_of}
use Rattle.keep_meaning.specs.Nodes.{first_number, first_of, is_at, is_begun, is_define, is_dotted, is_element}
use Rattle.keep_meaning.specs.Nodes.{is_numbered_at, is_passed, is_root, is_through, key_number, kind_or_table}
use Rattle.keep_meaning.specs.Nodes.{last_number, mention_kind_of, mention_of, mentioned_kind, mentioned_node}
use Rattle.keep_meaning.specs.Nodes.{mentioned_origin, node_at, node_info, node_number, node_paths, numbered_at}
use Rattle.keep_meaning.specs.Nodes.{paths_with, statement_number, value_number}
use Rattle.keep_meaning.proofs.CountLemmas.{paths-nodes}
use Rattle.keep_meaning.proofs.DotsLaws.{dot_mentions}
use Rattle.keep_meaning.proofs.LineNodeLemmas.{fitting, infos_of, map_twice, path_of}
use Rattle.keep_meaning.proofs.LineNumberLemmas.{AllOf, all_join}
use Rattle.keep_meaning.proofs.MetLemmas.{node_met}
use Rattle.keep_rules.proofs.AllInfoLemmas.{infos_set, node_paths-distinct}
use Rattle.keep_rules.proofs.LookupLemmas.{number_is}
use Rattle.keep_rules.proofs.RoleStateLemmas.{one_place}
use Rattle.std.proofs.lemmas.Bool.{cases_eq}

-- ---- the kinds of what is said of one path

kinds_same : (ks ls : List MentionKind) → mentioned_kind (ks ++ dotted ∷ ls) ≡ mentioned_kind (ks ++ ls)
kinds_same ks ls =
    ap₂ (λ (b : Bool) (fs : List Fact). cond b kind.Tables (kind_or_table (first_of fs)))
    (list_any-append is_element ks (dotted ∷ ls) ∙ sym (list_any-append is_element ks ls))
    (filter_map-append fact_of ks (dotted ∷ ls) ∙ sym (filter_map-append fact_of ks ls))

-- ---- numbers

module _ (is : MentionKind → Bool) (number : Count → ℕ) where
  abbrev known_by : Option ℕ → Numbered → Option ℕ
  known_by known n = cond (is n.mention.kind) (Some (number n.before)) known

  -- a mention of another kind leaves the last number
  last_stays : (xs : List Numbered) (d : Numbered) (ys : List Numbered) → is d.mention.kind ≡ false
      → last_number is number (xs ++ d ∷ ys) ≡ last_number is number (xs ++ ys)
  last_stays xs d ys not =
      fold-append known_by None xs (d ∷ ys)
      ∙ ap (λ (b : Bool). fold known_by (cond b (Some (number d.before)) (fold known_by None xs)) ys) not
      ∙ sym (fold-append known_by None xs ys)

  -- the first number is found among those before
  first_here : (xs ys zs : List Numbered) → list_any (λ (n : Numbered). is n.mention.kind) xs ≡ true
      → first_number is number (xs ++ ys) ≡ first_number is number (xs ++ zs)
  first_here [] ys zs h = absurd cc
  first_here (n ∷ xs) ys zs h = by (is n.mention.kind) h (first_here xs ys zs)
    where
      by : (b : Bool) → (b || list_any (λ (m : Numbered). is m.mention.kind) xs) ≡ true
          → (list_any (λ (m : Numbered). is m.mention.kind) xs ≡ true
          → first_number is number (xs ++ ys) ≡ first_number is number (xs ++ zs))
          → cond b (Some (number n.before)) (first_number is number (xs ++ ys))
          ≡ cond b (Some (number n.before)) (first_number is number (xs ++ zs))
      by true g more = refl
      by false g more = more g

-- ---- how many key parts

abbrev marks_by : ℕ → Numbered → ℕ
marks_by n m = n + cond (is_mark m.mention.kind) 1 0

marks_up : (n : ℕ) (ys : List Numbered) → fold marks_by (n + 1) ys ≡ suc (fold marks_by n ys)
marks_up n [] = omega arith
marks_up n (y ∷ ys) =
    let x : ℕ = cond (is_mark y.mention.kind) 1 0 in
    let moved : (n + 1) + x ≡ (n + x) + 1 = omega arith in
    ap (λ (k : ℕ). fold marks_by k ys) moved ∙ marks_up (n + x) ys

marks_more : (xs : List Numbered) (d : Numbered) (ys : List Numbered) → is_mark d.mention.kind ≡ true
    → fold marks_by 0 (xs ++ d ∷ ys) ≡ suc (fold marks_by 0 (xs ++ ys))
marks_more xs d ys marked =
    fold-append marks_by 0 xs (d ∷ ys)
    ∙ ap (λ (b : Bool). fold marks_by (fold marks_by 0 xs + cond b 1 0) ys) marked
    ∙ marks_up (fold marks_by 0 xs) ys
    ∙ ap suc (sym (fold-append marks_by 0 xs ys))

-- ---- where it comes from

fitted : (v t e h d s : Option ℕ) (w : ℕ) → fitting v t e h d s ≡ origin.Dotted w
    → (v ≡ None) × (t ≡ None) × (e ≡ None) × (h ≡ None) × (d ≡ Some w)
fitted (Some v) t e h d s w is = absurd cc
fitted None (Some t) e h d s w is = absurd cc
fitted None None (Some e) h d s w is = absurd cc
fitted None None None (Some h) d s w is = absurd cc
fitted None None None None (Some d) s w is = let same : d ≡ w = cc in (refl, refl, refl, refl, ap Some same)
fitted None None None None None (Some s) w is = absurd cc
fitted None None None None None None w is = absurd cc

max_left : (a b : ℕ) → b ≤ a → max a b ≡ a
max_left a b h = omega (arith, h)

max_right : (a b : ℕ) → a ≤ b → max a b ≡ b
max_right a b h = omega (arith, h)

module _ (c : Count) where
  abbrev pub IsEarly : Numbered → Type 0
  IsEarly n = n.before.values ≤ c.values

  abbrev pub IsLate : Numbered → Type 0
  IsLate n = c.values ≤ n.before.values

  abbrev dot_known : Option ℕ → Numbered → Option ℕ
  dot_known = known_by is_dotted value_number

  -- of later mentions, either none is of a keyval that continues, or the last one's number is not lower
  later_dots : (ys : List Numbered) → AllOf IsLate ys
      → ((k : Option ℕ) → fold dot_known k ys ≡ k)
      ⊎ ((u : ℕ) × (c.values ≤ u) × ((k : Option ℕ) → fold dot_known k ys ≡ Some u))
  later_dots [] h = inl (λ k. refl)
  later_dots (y ∷ ys) h = by (is_dotted y.mention.kind) refl (later_dots ys h.1)
    where
      by : (b : Bool) → is_dotted y.mention.kind ≡ b
          → ((k : Option ℕ) → fold dot_known k ys ≡ k)
          ⊎ ((u : ℕ) × (c.values ≤ u) × ((k : Option ℕ) → fold dot_known k ys ≡ Some u))
          → ((k : Option ℕ) → fold dot_known k (y ∷ ys) ≡ k)
          ⊎ ((u : ℕ) × (c.values ≤ u) × ((k : Option ℕ) → fold dot_known k (y ∷ ys) ≡ Some u))
      by true e (inl f) = inr (
        y.before.values,
        h.0,
        λ k. ap (λ (b : Bool). fold dot_known (cond b (Some y.before.values) k) ys) e ∙ f (Some y.before.values),
      )
      by false e (inl f) = inl (λ k. ap (λ (b : Bool). fold dot_known (cond b (Some y.before.values) k) ys) e ∙ f k)
      by b e (inr f) = inr (f.0, f.1, λ k. f.2 (dot_known k y))

  early_dot : (xs : List Numbered) (k : Option ℕ) (w : ℕ) → AllOf IsEarly xs
      → ((v : ℕ) → k ≡ Some v → v ≤ c.values) → fold dot_known k xs ≡ Some w → w ≤ c.values
  early_dot [] k w h low e = low w e
  early_dot (x ∷ xs) k w h low e = early_dot xs (dot_known k x) w h.1 (by (is_dotted x.mention.kind) refl) e
    where
      by : (b : Bool) → is_dotted x.mention.kind ≡ b → (v : ℕ) → dot_known k x ≡ Some v → v ≤ c.values
      by true f v g =
          let own : Some x.before.values ≡ Some v =
          sym (ap (λ (b : Bool). cond b (Some x.before.values) k) f) ∙ g in
          let same : x.before.values ≡ v = cc in
          omega (arith, h.0, same)
      by false f v g = low v (sym (ap (λ (b : Bool). cond b (Some x.before.values) k) f) ∙ g)

  -- one mention more, by a keyval that continues, whose value has this number
  module _ (q : List Part) (xs : List Numbered) (d : Numbered) (ys : List Numbered) (is_dot : d.mention.kind ≡ dotted)
      (its_value : d.before.values ≡ c.values) (early : AllOf IsEarly xs) (late : AllOf IsLate ys)
      (marked : list_any (λ (n : Numbered). is_mark n.mention.kind) xs ≡ true) (w : ℕ)
      (from : mentioned_origin (xs ++ ys) ≡ origin.Dotted w) where
    abbrev zs : List Numbered
    zs = xs ++ ys

    abbrev with_d : List Numbered
    with_d = xs ++ d ∷ ys

    other : (is : MentionKind → Bool) (number : Count → ℕ) → is dotted ≡ false
        → last_number is number with_d ≡ last_number is number zs
    other is number not = last_stays is number xs d ys (ap is is_dot ∙ not)

    its : (last_number is_value value_number zs ≡ None) × (last_number is_element statement_number zs ≡ None)
        × (last_number is_begun statement_number zs ≡ None) × (last_number is_define statement_number zs ≡ None)
        × (last_number is_dotted value_number zs ≡ Some w)
    its =
        fitted (last_number is_value value_number zs) (last_number is_element statement_number zs)
        (last_number is_begun statement_number zs) (last_number is_define statement_number zs)
        (last_number is_dotted value_number zs) (last_number is_through statement_number zs) w from

    dotted_more : last_number is_dotted value_number with_d ≡ Some (max c.values w)
    dotted_more = by (later_dots ys late)
      where
        whole : last_number is_dotted value_number with_d ≡ fold dot_known (Some c.values) ys
        whole =
            fold-append dot_known None xs (d ∷ ys)
            ∙ ap₂ (λ (b : Bool) (v : ℕ). fold dot_known (cond b (Some v) (fold dot_known None xs)) ys)
            (ap is_dotted is_dot) its_value

        was : fold dot_known (fold dot_known None xs) ys ≡ Some w
        was = sym (fold-append dot_known None xs ys) ∙ its.4

        by : ((k : Option ℕ) → fold dot_known k ys ≡ k)
            ⊎ ((u : ℕ) × (c.values ≤ u) × ((k : Option ℕ) → fold dot_known k ys ≡ Some u))
            → last_number is_dotted value_number with_d ≡ Some (max c.values w)
        by (inl f) =
            let low : w ≤ c.values =
            early_dot xs None w early (λ v e. absurd cc) (sym (f (fold dot_known None xs)) ∙ was) in
            whole ∙ f (Some c.values) ∙ ap Some (sym (max_left c.values w low))
        by (inr f) =
            let both : Some f.0 ≡ Some w = sym (f.2 (fold dot_known None xs)) ∙ was in
            let same : f.0 ≡ w = cc in
            let high : c.values ≤ w = omega (arith, f.1, same) in
            whole ∙ f.2 (Some c.values) ∙ ap Some (same ∙ sym (max_right c.values w high))

    origin_more : mentioned_origin with_d ≡ origin.Dotted (max c.values w)
    origin_more =
        let s : Option ℕ = last_number is_through statement_number with_d in
        ap₂ (λ (v t : Option ℕ).
        fitting v t (last_number is_begun statement_number with_d) (last_number is_define statement_number with_d)
        (last_number is_dotted value_number with_d) s) (other is_value value_number refl ∙ its.0)
        (other is_element statement_number refl ∙ its.1)
        ∙ ap₂ (λ (e h : Option ℕ). fitting None None e h (last_number is_dotted value_number with_d) s)
        (other is_begun statement_number refl ∙ its.2) (other is_define statement_number refl ∙ its.3)
        ∙ ap (λ (o : Option ℕ). fitting None None None None o s) dotted_more

    info_more : node_info (mentioned_node q with_d) ≡ info_with_dots c.values (node_info (mentioned_node q zs))
    info_more =
        let new : NodeInfo = node_info (mentioned_node q with_d) in
        let old : NodeInfo = node_info (mentioned_node q zs) in
        let kinds : mentioned_kind (map mention_kind_of with_d) ≡ mentioned_kind (map mention_kind_of zs) =
        ap mentioned_kind (map-append mention_kind_of xs (d ∷ ys)
        ∙ ap (λ (k : MentionKind). map mention_kind_of xs ++ k ∷ map mention_kind_of ys) is_dot)
        ∙ kinds_same (map mention_kind_of xs) (map mention_kind_of ys)
        ∙ ap mentioned_kind (sym (map-append mention_kind_of xs ys)) in
        let passed : new.passed ≡ old.passed =
        list_any-append (λ (n : Numbered). is_passed n.mention.kind) xs (d ∷ ys)
        ∙ ap (λ (b : Bool).
        list_any (λ (n : Numbered). is_passed n.mention.kind) xs
        || (b || list_any (λ (n : Numbered). is_passed n.mention.kind) ys)) (ap is_passed is_dot)
        ∙ sym (list_any-append (λ (n : Numbered). is_passed n.mention.kind) xs ys) in
        let number : value_of old ≡ w = ap (λ (o : Origin). value_of (record old { origin = o })) from in
        ap₂ (λ (k : Kind) (f : Option ℕ).
        record { kind = k; key = f; marks = new.marks; passed = new.passed; origin = new.origin }) kinds
        (first_here is_mark key_number xs (d ∷ ys) ys marked)
        ∙ ap₂ (λ (m : ℕ) (b : Bool).
        record { kind = old.kind; key = old.key; marks = m; passed = b; origin = new.origin })
        (marks_more xs d ys (ap is_mark is_dot)) passed
        ∙ ap (λ (o : Origin).
        record { kind = old.kind; key = old.key; marks = suc old.marks; passed = old.passed; origin = o })
        (origin_more ∙ ap (λ (n : ℕ). origin.Dotted (max c.values n)) (sym number))

  -- ---- all nodes

  abbrev info_at : List Numbered → List Part → NodeInfo
  info_at ns q = node_info (node_at ns q)

  infos_are : (ns : List Numbered) → (infos_of ns).infos ≡ map (info_at ns) (node_paths (map mention_of ns))
  infos_are ns = map_twice node_info (node_at ns) (node_paths (map mention_of ns))

  paths_are : (ns : List Numbered) → (infos_of ns).paths ≡ node_paths (map mention_of ns)
  paths_are ns = paths-nodes ns (node_paths (map mention_of ns))

  -- a key part names the path among these
  abbrev pub IsMarked : List Numbered → List Part → Type 0
  IsMarked xs q = list_any (λ (n : Numbered). is_mark n.mention.kind) (numbered_at q xs) ≡ true

  some_at : (q : List Part) (xs : List Numbered) → IsMarked xs q → list_any (is_at q) (map mention_of xs) ≡ true
  some_at q [] h = absurd cc
  some_at q (n ∷ xs) h = by (is_at q n.mention) h (some_at q xs)
    where
      by : (b : Bool)
          → list_any (λ (m : Numbered). is_mark m.mention.kind) (cond b (n ∷ numbered_at q xs) (numbered_at q xs))
          ≡ true
          → (IsMarked xs q → list_any (is_at q) (map mention_of xs) ≡ true)
          → (b || list_any (is_at q) (map mention_of xs)) ≡ true
      by true g more = refl
      by false g more = more g

  module _ (q : List Part) (xs : List Numbered) (d : Numbered) (ys : List Numbered) (at : d.mention.path ≡ q)
      (is_dot : d.mention.kind ≡ dotted) (its_value : d.before.values ≡ c.values) (early : AllOf IsEarly xs)
      (late : AllOf IsLate ys) (marked : IsMarked xs q) where
    abbrev before : NodeInfos
    before = infos_of (xs ++ ys)

    abbrev ps : List (List Part)
    ps = node_paths (map mention_of (xs ++ ys))

    met : list_any (same_path q) (node_paths (map mention_of xs)) ≡ true
    met = node_met q (map mention_of xs)
        ∙ or_right (is_root q) (list_any (is_at q) (map mention_of xs)) (some_at q xs marked)

    same_paths : node_paths (map mention_of (xs ++ d ∷ ys)) ≡ ps
    same_paths =
        let us : List (List Part) = map path_of (map mention_of xs) in
        let vs : List (List Part) = map path_of (map mention_of ys) in
        let front : List (List Part) = fold paths_with ([] ∷ []) us in
        ap node_paths (map-append mention_of xs (d ∷ ys))
        ∙ ap (fold paths_with ([] ∷ [])) (map-append path_of (map mention_of xs) (map mention_of (d ∷ ys)))
        ∙ fold-append paths_with ([] ∷ []) us (d.mention.path ∷ vs)
        ∙ ap (λ (p : List Part). fold paths_with (paths_with front p) vs) at
        ∙ ap (λ (b : Bool). fold paths_with (cond b front (front ++ q ∷ [])) vs) met
        ∙ sym (fold-append paths_with ([] ∷ []) us vs)
        ∙ ap (fold paths_with ([] ∷ [])) (sym (map-append path_of (map mention_of xs) (map mention_of ys)))
        ∙ ap node_paths (sym (map-append mention_of xs ys))

    elsewhere : (p : List Part) → (p ≡ q → ⊥) → info_at (xs ++ d ∷ ys) p ≡ info_at (xs ++ ys) p
    elsewhere p differ =
        let test : Numbered → Bool = is_numbered_at p in
        let not : is_at p d.mention ≡ false =
        ap (λ (r : List Part). same_path r p) at
        ∙ false_from_ne_true (same_path q p) (λ e. differ (sym ((path_decides q p).0 e))) in
        ap (λ (l : List Numbered). node_info (mentioned_node p l))
        (filter-append test xs (d ∷ ys)
        ∙ ap (λ (b : Bool). numbered_at p xs ++ cond b (d ∷ numbered_at p ys) (numbered_at p ys)) not
        ∙ sym (filter-append test xs ys))

    all_at : (P : Numbered → Type 0) (ns : List Numbered) → AllOf P ns → AllOf P (numbered_at q ns)
    all_at P [] h = tt
    all_at P (n ∷ ns) h = by (is_numbered_at q n) (all_at P ns h.1)
      where
        by : (b : Bool) → AllOf P (numbered_at q ns) → AllOf P (cond b (n ∷ numbered_at q ns) (numbered_at q ns))
        by true more = (h.0, more)
        by false more = more

    module _ (i : ℕ) (number : node_number before.paths q ≡ Some i) (w : ℕ)
        (from : (get_or before.infos i no_info).origin ≡ origin.Dotted w) where
      here : (i < length ps) × (get_or ps i [] ≡ q)
      here = number_is ps q i (ap (λ (l : List (List Part)). node_number l q) (sym (paths_are (xs ++ ys))) ∙ number)

      own_info : get_or before.infos i no_info ≡ info_at (xs ++ ys) q
      own_info =
          ap (λ (l : List NodeInfo). get_or l i no_info) (infos_are (xs ++ ys))
          ∙ get_or-map (info_at (xs ++ ys)) ps i [] no_info here.0 ∙ ap (info_at (xs ++ ys)) here.1

      -- one mention more of the node with that number
      pub dot_added : infos_of (xs ++ d ∷ ys)
          ≡ record before {
            infos = slice_set before.infos i (info_with_dots c.values (get_or before.infos i no_info));
          }
      dot_added =
          let test : Numbered → Bool = is_numbered_at q in
          let is_here : is_at q d.mention ≡ true = (path_decides d.mention.path q).1 at in
          let came : mentioned_origin (numbered_at q xs ++ numbered_at q ys) ≡ origin.Dotted w =
          ap (λ (l : List Numbered). mentioned_origin l) (sym (filter-append test xs ys))
          ∙ ap (λ (n : NodeInfo). n.origin) (sym own_info) ∙ from in
          let own : info_at (xs ++ d ∷ ys) q ≡ info_with_dots c.values (info_at (xs ++ ys) q) =
          ap (λ (l : List Numbered). node_info (mentioned_node q l))
          (filter-append test xs (d ∷ ys)
          ∙ ap (λ (b : Bool). numbered_at q xs ++ cond b (d ∷ numbered_at q ys) (numbered_at q ys)) is_here)
          ∙ info_more q (numbered_at q xs) d (numbered_at q ys) is_dot its_value (all_at IsEarly xs early)
          (all_at IsLate ys late) marked w came
          ∙ ap (λ (l : List Numbered). info_with_dots c.values (node_info (mentioned_node q l)))
          (sym (filter-append test xs ys)) in
          let new : info_with_dots c.values (get_or before.infos i no_info)
          ≡ info_at (xs ++ d ∷ ys) (get_or ps i []) =
          ap (info_with_dots c.values) own_info ∙ sym own ∙ ap (info_at (xs ++ d ∷ ys)) (sym here.1) in
          ap₂ (λ (l : List (List Part)) (is : List NodeInfo). record { paths = l; infos = is })
          (paths_are (xs ++ d ∷ ys) ∙ same_paths ∙ sym (paths_are (xs ++ ys)))
          (infos_are (xs ++ d ∷ ys) ∙ ap (map (info_at (xs ++ d ∷ ys))) same_paths
          ∙ sym (infos_set (info_at (xs ++ ys)) (info_at (xs ++ d ∷ ys)) ps i
          (info_with_dots c.values (get_or before.infos i no_info)) here.0 new
          (λ k low other.
          elsewhere (get_or ps k []) (λ e.
          other (one_place ps (node_paths-distinct (xs ++ ys)) k i low here.0 (e ∙ sym here.1)))))
          ∙ ap (λ (l : List NodeInfo).
          slice_set l i (info_with_dots c.values (get_or before.infos i no_info))) (sym (infos_are (xs ++ ys))))

  -- ---- of several tables

  -- they are tables of dotted keys by these facts
  abbrev pub AreTables : List NodeInfo → List ℕ → Type 0
  AreTables infos ids = AllOf (λ (i : ℕ). (w : ℕ) × ((get_or infos i no_info).origin ≡ origin.Dotted w)) ids

  stay_tables : (infos : List NodeInfo) (i v : ℕ) (ids : List ℕ) → i < length infos → AreTables infos ids
      → AreTables (slice_set infos i (info_with_dots v (get_or infos i no_info))) ids
  stay_tables infos i v [] low h = tt
  stay_tables infos i v (j ∷ ids) low h = (by (cases_eq j i), stay_tables infos i v ids low h.1)
    where
      now : List NodeInfo
      now = slice_set infos i (info_with_dots v (get_or infos i no_info))

      by : (j ≡ i) ⊎ (j ≡ i → ⊥) → (w : ℕ) × ((get_or now j no_info).origin ≡ origin.Dotted w)
      by (inl same) = (
        max v (value_of (get_or infos i no_info)),
        ap (λ (k : ℕ). (get_or now k no_info).origin) same
            ∙ ap (λ (n : NodeInfo). n.origin)
            (get_or-set_same infos i (info_with_dots v (get_or infos i no_info)) no_info low),
      )
      by (inr other) = (
        h.0.0,
        ap (λ (n : NodeInfo). n.origin)
            (get_or-set_other infos i j (info_with_dots v (get_or infos i no_info)) no_info other)
            ∙ h.0.1,
      )

  still_marked : (xs : List Numbered) (d : Numbered) (ps : List (List Part)) → AllOf (IsMarked xs) ps
      → AllOf (IsMarked (xs ++ d ∷ [])) ps
  still_marked xs d [] h = tt
  still_marked xs d (p ∷ ps) h = (
    ap (list_any (λ (n : Numbered). is_mark n.mention.kind)) (filter-append (is_numbered_at p) xs (d ∷ []))
        ∙ list_any-append (λ (n : Numbered). is_mark n.mention.kind) (numbered_at p xs) (numbered_at p (d ∷ []))
        ∙ or_left (list_any (λ (n : Numbered). is_mark n.mention.kind) (numbered_at p xs))
        (list_any (λ (n : Numbered). is_mark n.mention.kind) (numbered_at p (d ∷ []))) h.0,
    still_marked xs d ps h.1,
  )

  pub dots_added : (at : List Part) (ks : List (List ℕ)) (e : Count) → e.values ≡ c.values → (xs ys : List Numbered)
      → AllOf IsEarly xs → AllOf IsLate ys → AllOf (IsMarked xs) (paths_below at ks) → (ids : List ℕ)
      → map (node_number (infos_of (xs ++ ys)).paths) (paths_below at ks) ≡ map Some ids
      → AreTables (infos_of (xs ++ ys)).infos ids
      → infos_of (xs ++ (numbered_mentions e (dot_mentions at ks) ++ ys)) ≡ with_dots c.values ids (infos_of (xs ++ ys))
  dots_added at [] e value xs ys early late marked [] numbers tables = refl
  dots_added at [] e value xs ys early late marked (i ∷ ids) numbers tables = absurd cc
  dots_added at (k ∷ ks) e value xs ys early late marked [] numbers tables = absurd cc
  dots_added at (k ∷ ks) e value xs ys early late marked (i ∷ ids) numbers tables =
      let q : List Part = at ++ key k ∷ [] in
      let own : Mention = record { path = q; kind = dotted } in
      let d : Numbered = record { mention = own; before = e } in
      let next : Count = count_with_mention e own in
      let us : List Numbered = numbered_mentions next (dot_mentions q ks) ++ ys in
      let t : NodeInfos = infos_of (xs ++ ys) in
      let first : node_number t.paths q ≡ Some i = cc in
      let others : map (node_number t.paths) (paths_below q ks) ≡ map Some ids = cc in
      let one : infos_of (xs ++ d ∷ ys)
      ≡ record t { infos = slice_set t.infos i (info_with_dots c.values (get_or t.infos i no_info)) } =
      dot_added q xs d ys refl refl value early late marked.0 i first tables.0.0 tables.0.1 in
      let split : infos_of ((xs ++ d ∷ []) ++ ys)
      ≡ record t { infos = slice_set t.infos i (info_with_dots c.values (get_or t.infos i no_info)) } =
      ap infos_of (append_assoc xs (d ∷ []) ys) ∙ one in
      let within : i < length t.infos =
      omega (
        arith,
        (number_is t.paths q i first).0,
        ap length (paths_are (xs ++ ys)),
        ap length (infos_are (xs ++ ys)),
        length-map (node_paths (map mention_of (xs ++ ys))) (info_at (xs ++ ys)),
      ) in
      let values : next.values ≡ c.values = omega (arith, value) in
      ap infos_of (sym (append_assoc xs (d ∷ []) us))
      ∙ dots_added q ks next values (xs ++ d ∷ []) ys
      (all_join IsEarly xs (d ∷ []) early (omega (arith, value), tt)) late
      (still_marked xs d (paths_below q ks) marked.1) ids
      (ap (λ (u : NodeInfos). map (node_number u.paths) (paths_below q ks)) split ∙ others)
      (subst (λ (u : NodeInfos). AreTables u.infos ids) (sym split)
      (stay_tables t.infos i c.values ids within tables.1))
      ∙ ap (with_dots c.values ids) split
