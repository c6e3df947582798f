-- A table of dotted keys has the number of the last value that the nodes one step below it have.
--
-- Its number is that of the last keyval that continues from it. This keyval's next key part says something of a node
-- one step below it, which so has no lower number (`reached`, by DotReachLemmas). What gives a node one step below the
-- table comes from a keyval that continues from the table (`few_below`, by DotLinkLemmas), as that has no value, no
-- header opens it, and it is not the root. So no such node has a greater number.
--
-- Theorem: `dots_have_last`.
use Rattle.std.proofs.Common.{◌≡◌, ℕ, ◌<◌, ◌≤◌, Bool, true, false, cond, ◌&&◌, ◌||◌, List, [], ◌∷◌, ◌++◌, length}
use Rattle.std.proofs.Common.{get_or, map, refl, sym, ap, ap₂, subst, ◌∙◌, ◌⊎◌, inl, inr, arith, Some, None}
use Rattle.std.specs.Prelude.{max}
use Rattle.std.specs.List.{list_any}
use Rattle.std.proofs.lemmas.Bool.{and_parts, or_cases, or_left, or_right}
use Rattle.std.proofs.lemmas.List.{get_or-map, length-map}
use Rattle.keep_types.specs.declared.node.NodeInfo.{NodeInfo}
use Rattle.keep_types.specs.declared.node.Origin.TheVariants as origin
use Rattle.keep_syntax.specs.Tree.{Document}
use Rattle.keep_path.specs.NodeInfos.{no_info}
use Rattle.keep_path.specs.NodesBelow.{value_of}
use Rattle.keep_path.specs.Path.{Part, key, same_part, same_path, without_last}
use Rattle.keep_path.proofs.Shared.{path_decides}
use Rattle.keep_meaning.specs.Counts.{Numbered, is_mark, is_value, numbered_in}
use Rattle.keep_meaning.specs.DotsLess.{DotsHaveLast, last_value}
use Rattle.keep_meaning.specs.Marks.{MentionKind, marks}
use Rattle.keep_meaning.specs.Meaning.{mentions_in}
use Rattle.keep_meaning.specs.Nodes.{is_at, is_begun, is_child, is_define, is_dotted, is_element, is_root, is_through}
use Rattle.keep_meaning.specs.Nodes.{Node, mention_of, node_at, node_info, node_path, node_paths, statement_number}
use Rattle.keep_meaning.specs.Nodes.{value_number}
use Rattle.keep_meaning.specs.Rules.{ObeysRules}
use Rattle.keep_meaning.proofs.CountLemmas.{paths-nodes}
use Rattle.keep_meaning.proofs.DotLinkLemmas.{Follows, From, In, IsLinked, IsOther, IsStep, is_given, linked_in}
use Rattle.keep_meaning.proofs.DotNumberLemmas.{AreDottedParts, HasNumber, IsOf, SaidAt, ascends_in, dotted_parts}
use Rattle.keep_meaning.proofs.DotNumberLemmas.{last_greatest, last_said, last_there, number_few}
use Rattle.keep_meaning.proofs.DotReachLemmas.{dots_reach, fits, number_at, value_reaches}
use Rattle.keep_meaning.proofs.ElementLemmas.{no_longer, without_pushed}
use Rattle.keep_meaning.proofs.LineNumberLemmas.{AllOf}
use Rattle.keep_meaning.proofs.MetLemmas.{node_met}
use Rattle.keep_meaning.proofs.NamedLemmas.{Fits, SomeOf, ends, key_ends}

-- ---- one step below a path

child_pushed : (p : List Part) (x : Part) → is_child p (p ++ x ∷ []) ≡ true
child_pushed [] x = refl
child_pushed (a ∷ p) x =
    ap₂ (λ (s t : Bool). s && t)
    (and_parts (same_part a a) true ((path_decides (a ∷ []) (a ∷ [])).1 refl)).0 (child_pushed p x)

child_path : (p q : List Part) → is_child p q ≡ true → (x : Part) × (q ≡ p ++ x ∷ [])
child_path [] [] e = absurd cc
child_path [] (x ∷ []) e = (x, refl)
child_path [] (x ∷ y ∷ q) e = absurd cc
child_path (a ∷ p) [] e = absurd cc
child_path (a ∷ p) (b ∷ q) e =
    let both = and_parts (same_part a b) (is_child p q) e in
    let one : a ∷ [] ≡ b ∷ [] = (path_decides (a ∷ []) (b ∷ [])).0 (ap (λ (t : Bool). t && true) both.0) in
    let same : b ≡ a = cc in
    let more = child_path p q both.1 in
    (more.0, ap₂ (λ (y : Part) (ys : List Part). y ∷ ys) same more.1)

-- ---- one of a list

one_of : {A : Type 0} (P Q : A → Type 0) (xs : List A) → AllOf P xs → SomeOf Q xs → (x : A) × P x × Q x
one_of P Q [] h g = absurd g
one_of P Q (x ∷ xs) h (inl g) = (x, h.0, g)
one_of P Q (x ∷ xs) h (inr g) = one_of P Q xs h.1 g

-- of one of two kinds
some_either : (a b : MentionKind → Bool) (p : List Part) (ns : List Numbered)
    → SomeOf (SaidAt (IsOf (λ k. a k || b k)) p) ns → SomeOf (SaidAt (IsOf a) p) ns ⊎ SomeOf (SaidAt (IsOf b) p) ns
some_either a b p [] h = absurd h
some_either a b p (n ∷ ns) (inl h) = by (or_cases (a n.mention.kind) (b n.mention.kind) h.0)
  where
    by : (a n.mention.kind ≡ true) ⊎ (b n.mention.kind ≡ true)
        → SomeOf (SaidAt (IsOf a) p) (n ∷ ns) ⊎ SomeOf (SaidAt (IsOf b) p) (n ∷ ns)
    by (inl e) = inl (inl (e, h.1))
    by (inr e) = inr (inl (e, h.1))
some_either a b p (n ∷ ns) (inr h) = by (some_either a b p ns h)
  where
    by : SomeOf (SaidAt (IsOf a) p) ns ⊎ SomeOf (SaidAt (IsOf b) p) ns
        → SomeOf (SaidAt (IsOf a) p) (n ∷ ns) ⊎ SomeOf (SaidAt (IsOf b) p) (n ∷ ns)
    by (inl g) = inl (inr g)
    by (inr g) = inr (inr g)

-- what is said of a path is a mention of it
mentioned : (P : Numbered → Type 0) (q : List Part) (ns : List Numbered) → SomeOf (SaidAt P q) ns
    → list_any (is_at q) (map mention_of ns) ≡ true
mentioned P q [] h = absurd h
mentioned P q (n ∷ ns) (inl h) =
    or_left (is_at q n.mention) (list_any (is_at q) (map mention_of ns)) ((path_decides n.mention.path q).1 h.1)
mentioned P q (n ∷ ns) (inr h) =
    or_right (is_at q n.mention) (list_any (is_at q) (map mention_of ns)) (mentioned P q ns h)

-- ---- a table of dotted keys

module _ (d : Document) where
  abbrev ns : List Numbered
  ns = numbered_in d

  module _ (p : List Part) (v : ℕ) (is : (node_at ns p).origin ≡ origin.Dotted v) where
    parts : AreDottedParts (number_at d is_value value_number p) (number_at d is_begun statement_number p)
        (number_at d is_define statement_number p) (number_at d is_dotted value_number p) v
    parts =
        dotted_parts (number_at d is_value value_number p) (number_at d is_element statement_number p)
        (number_at d is_begun statement_number p) (number_at d is_define statement_number p)
        (number_at d is_dotted value_number p) (number_at d is_through statement_number p) v is

    last_dots : SomeOf (SaidAt (HasNumber is_dotted value_number v) p) ns
    last_dots = last_said is_dotted value_number p ns v parts.dotted

    not_root : p ≡ [] → ⊥
    not_root root =
        let one =
        one_of (λ (n : Numbered). Fits n.mention) (SaidAt (HasNumber is_dotted value_number v) p) ns (fits d)
        last_dots in
        let clash : Some (is_mark one.0.mention.kind) ≡ None = sym one.1 ∙ ap ends one.2.1 ∙ ap ends root in cc

    not_other : SomeOf (IsOther p) ns → ⊥
    not_other h = by (some_either is_value (λ k. is_define k || is_begun k) p ns h)
      where
        opened : SomeOf (SaidAt (IsOf is_define) p) ns ⊎ SomeOf (SaidAt (IsOf is_begun) p) ns → ⊥
        opened (inl g) = last_there is_define statement_number p ns g parts.header
        opened (inr g) = last_there is_begun statement_number p ns g parts.element

        by : SomeOf (SaidAt (IsOf is_value) p) ns ⊎ SomeOf (SaidAt (IsOf (λ k. is_define k || is_begun k)) p) ns → ⊥
        by (inl g) = last_there is_value value_number p ns g parts.value
        by (inr g) = opened (some_either is_define is_begun p ns g)

    few_from : (w : ℕ) → From (In []) ns p w → w ≤ v
    few_from w (inl root) = absurd (not_root root)
    few_from w (inr (inl o)) = absurd (not_other o)
    few_from w (inr (inr g)) = last_greatest is_dotted p ns w v (ascends_in d) g parts.dotted

    few_given : (of : MentionKind → Bool) → ((k : MentionKind) → of k ≡ true → is_given k ≡ true) → (x : Part) (w : ℕ)
        → number_at d of value_number (p ++ x ∷ []) ≡ Some w → w ≤ v
    few_given of given x w e = by one.0 one.1 one.2
      where
        one : (n : Numbered) × IsLinked (In []) ns n × SaidAt (HasNumber of value_number w) (p ++ x ∷ []) n
        one = one_of (IsLinked (In []) ns) (SaidAt (HasNumber of value_number w) (p ++ x ∷ [])) ns (linked_in d)
            (last_said of value_number (p ++ x ∷ []) ns w e)

        by : (n : Numbered) → IsLinked (In []) ns n → SaidAt (HasNumber of value_number w) (p ++ x ∷ []) n → w ≤ v
        by n linked said =
            let step : IsStep (In []) ns n = linked.step (given n.mention.kind said.0.0) in
            let above : step.above ≡ p =
            sym (without_pushed step.above step.last) ∙ ap without_last (sym step.path ∙ said.1)
            ∙ without_pushed p x in
            few_from w (subst (λ (y : ℕ). From (In []) ns p y) said.0.1
            (subst (λ (a : List Part). From (In []) ns a n.before.values) above step.from))

    few_below : (q : List Part) → is_child p q ≡ true → value_of (node_info (node_at ns q)) ≤ v
    few_below q e =
        let child = child_path p q e in
        subst (λ (a : List Part). value_of (node_info (node_at ns a)) ≤ v) (sym child.1) (by child.0)
      where
        by : (x : Part) → value_of (node_info (node_at ns (p ++ x ∷ []))) ≤ v
        by x =
            let q : List Part = p ++ x ∷ [] in
            number_few v (number_at d is_value value_number q) (number_at d is_element statement_number q)
            (number_at d is_begun statement_number q) (number_at d is_define statement_number q)
            (number_at d is_dotted value_number q) (number_at d is_through statement_number q)
            (few_given is_value (λ k h. or_right (is_dotted k) (is_value k) h) x)
            (few_given is_dotted (λ k h. or_left (is_dotted k) (is_value k) h) x)

    -- ---- the last keyval that continues from it

    abbrev NextSaid : List Numbered → List ℕ → Type 0
    NextSaid xs k =
        SomeOf (SaidAt (HasNumber is_dotted value_number v) (p ++ key k ∷ [])) xs
        ⊎ SomeOf (SaidAt (HasNumber is_value value_number v) (p ++ key k ∷ [])) xs

    next_said : (xs : List Numbered) → SomeOf (Follows p v) xs → (k : List ℕ) × NextSaid xs k
    next_said [] h = absurd h
    next_said (n ∷ xs) (inl h) = (h.1.0, by (or_cases (is_dotted n.mention.kind) (is_value n.mention.kind) h.0.0))
      where
        by : (is_dotted n.mention.kind ≡ true) ⊎ (is_value n.mention.kind ≡ true) → NextSaid (n ∷ xs) h.1.0
        by (inl e) = inl (inl ((e, h.0.1), h.1.1))
        by (inr e) = inr (inl ((e, h.0.1), h.1.1))
    next_said (n ∷ xs) (inr h) = let more = next_said xs h in (more.0, by more.0 more.1)
      where
        by : (k : List ℕ) → NextSaid xs k → NextSaid (n ∷ xs) k
        by k (inl g) = inl (inr g)
        by k (inr g) = inr (inr g)

    next : (k : List ℕ) × NextSaid ns k
    next = by one.0 one.1 one.2
      where
        one : (n : Numbered) × IsLinked (In []) ns n × SaidAt (HasNumber is_dotted value_number v) p n
        one = one_of (IsLinked (In []) ns) (SaidAt (HasNumber is_dotted value_number v) p) ns (linked_in d) last_dots

        by : (n : Numbered) → IsLinked (In []) ns n → SaidAt (HasNumber is_dotted value_number v) p n
            → (k : List ℕ) × NextSaid ns k
        by n linked said =
            next_said ns (subst (λ (w : ℕ). SomeOf (Follows p w) ns) said.0.1
            (subst (λ (a : List Part). SomeOf (Follows a n.before.values) ns) said.1 (linked.next said.0.0)))

    -- a node one step below the table that has no lower number
    abbrev IsReached : List Part → Type 0
    IsReached q =
        (is_child p q ≡ true) × (list_any (same_path q) (node_paths (map mention_of ns)) ≡ true)
        × (v ≤ value_of (node_info (node_at ns q)))

    met_said : (P : Numbered → Type 0) (q : List Part) → SomeOf (SaidAt P q) ns
        → list_any (same_path q) (node_paths (map mention_of ns)) ≡ true
    met_said P q h =
        node_met q (map mention_of ns)
        ∙ or_right (is_root q) (list_any (is_at q) (map mention_of ns)) (mentioned P q ns h)

    reached : ObeysRules (marks (mentions_in d)) → (q : List Part) × IsReached q
    reached obeys = (p ++ key next.0 ∷ [], by next.0 next.1)
      where
        by : (k : List ℕ) → NextSaid ns k → IsReached (p ++ key k ∷ [])
        by k (inl h) = (
          child_pushed p (key k),
          met_said (HasNumber is_dotted value_number v) (p ++ key k ∷ []) h,
          dots_reach d obeys v (p ++ key k ∷ []) (key_ends p k) h,
        )
        by k (inr h) = (
          child_pushed p (key k),
          met_said (HasNumber is_value value_number v) (p ++ key k ∷ []) h,
          value_reaches d v (p ++ key k ∷ []) h,
        )

    -- ---- of these nodes

    abbrev last_of : List (List Part) → ℕ
    last_of qs = last_value p (map node_path (map (node_at ns) qs)) (map node_info (map (node_at ns) qs))

    last_few : (qs : List (List Part)) → last_of qs ≤ v
    last_few [] = omega arith
    last_few (q ∷ qs) = by (is_child p q) refl (last_few qs)
      where
        by : (b : Bool) → is_child p q ≡ b → last_of qs ≤ v
            → cond b (max (value_of (node_info (node_at ns q))) (last_of qs)) (last_of qs) ≤ v
        by true e rest = let own = few_below q e in omega (arith, own, rest)
        by false e rest = rest

    last_high : (q : List Part) → is_child p q ≡ true → v ≤ value_of (node_info (node_at ns q))
        → (qs : List (List Part)) → list_any (same_path q) qs ≡ true → v ≤ last_of qs
    last_high q child high [] met = absurd cc
    last_high q child high (x ∷ qs) met = by (same_path q x) refl met (last_high q child high qs)
      where
        rest : (b : Bool) → v ≤ last_of qs
            → v ≤ cond b (max (value_of (node_info (node_at ns x))) (last_of qs)) (last_of qs)
        rest true h = omega (arith, h)
        rest false h = h

        own : (b : Bool) → is_child p x ≡ b → is_child p x ≡ true → v ≤ value_of (node_info (node_at ns x))
            → v ≤ cond b (max (value_of (node_info (node_at ns x))) (last_of qs)) (last_of qs)
        own true e c h = omega (arith, h)
        own false e c h = absurd (no_longer (is_child p x) c e)

        by : (b : Bool) → same_path q x ≡ b → (b || list_any (same_path q) qs) ≡ true
            → (list_any (same_path q) qs ≡ true → v ≤ last_of qs)
            → v ≤ cond (is_child p x) (max (value_of (node_info (node_at ns x))) (last_of qs)) (last_of qs)
        by true e m more =
            let same : q ≡ x = (path_decides q x).0 e in
            own (is_child p x) refl (subst (λ (a : List Part). is_child p a ≡ true) same child)
            (subst (λ (a : List Part). v ≤ value_of (node_info (node_at ns a))) same high)
        by false e m more = rest (is_child p x) (more m)

    last_is : ObeysRules (marks (mentions_in d)) → last_of (node_paths (map mention_of ns)) ≡ v
    last_is obeys =
        let there = reached obeys in
        omega (
          arith,
          last_few (node_paths (map mention_of ns)),
          last_high there.0 there.1.0 there.1.2 (node_paths (map mention_of ns)) there.1.1,
        )

-- ---- the node of a number

module _ (d : Document) (id : ℕ) where
  abbrev qs : List (List Part)
  qs = node_paths (map mention_of (numbered_in d))

  abbrev xs : List Node
  xs = map (node_at (numbered_in d)) qs

  abbrev path : List Part
  path = get_or qs id []

  path_is : get_or (map node_path xs) id [] ≡ path
  path_is = ap (λ (ps : List (List Part)). get_or ps id []) (paths-nodes (numbered_in d) qs)

  info_is : id < length (map node_info xs)
      → get_or (map node_info xs) id no_info ≡ node_info (node_at (numbered_in d) path)
  info_is within =
      let low : id < length xs = omega (arith, within, length-map xs node_info) in
      get_or-map node_info xs id (node_at (numbered_in d) []) no_info low
      ∙ ap node_info (get_or-map (node_at (numbered_in d)) qs id [] (node_at (numbered_in d) [])
      (omega (arith, low, length-map qs (node_at (numbered_in d)))))

pub dots_have_last : DotsHaveLast
dots_have_last d obeys id v within is =
    ap (λ (p : List Part). last_value p (map node_path (xs d id)) (map node_info (xs d id))) (path_is d id)
    ∙ last_is d (path d id) v (sym (ap (λ (i : NodeInfo). i.origin) (info_is d id within)) ∙ is) obeys
