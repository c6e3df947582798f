-- The facts about a node state whether it is first met before a line or after it.
--
-- What is said of an item or an element before the line, and what is said after it, are not both of the kind that its
-- facts have a number of (`apart`): the key parts that name it would not be allowed beside one another, and no element
-- is begun twice. What is first said after the line begins the element, or is the item (`some_more`), since only what
-- was begun is passed.
--
-- Theorems: `met_before` and `met_after`.
use Rattle.std.proofs.Common.{◌≡◌, Bool, true, false, ◌||◌, List, [], ◌∷◌, ◌++◌, map, refl, sym, ap, ap₂, subst, ◌∙◌}
use Rattle.std.proofs.Common.{◌⊎◌, inl, inr, Option, Some, None}
use Rattle.std.specs.Prelude.{⊤}
use Rattle.std.specs.List.{list_any}
use Rattle.std.proofs.lemmas.Bool.{false_from_ne_true, or_parts}
use Rattle.keep_types.specs.declared.role.Role.TheVariants as role
use Rattle.keep_path.specs.Path.{Part}
use Rattle.keep_meaning.specs.Counts.{Count, Numbered, is_mark, is_value}
use Rattle.keep_meaning.specs.Marks.{Mention, Reading, marks, start}
use Rattle.keep_meaning.specs.Nodes.{is_at, is_begun, is_node, is_numbered_at, is_passed, is_root, mention_of}
use Rattle.keep_meaning.specs.Nodes.{numbered_at}
use Rattle.keep_meaning.specs.Rules.{ObeysRules}
use Rattle.keep_meaning.proofs.ElementLemmas.{Begins, IsSaid, IsSound, is_reached, no_longer, none_reached, said_all}
use Rattle.keep_meaning.proofs.FoundLemmas.{allowed, at_all, bare, bare_high, bare_low, begun_at, element_named}
use Rattle.keep_meaning.proofs.FoundLemmas.{marked_high, marked_low, met_at, some_at, unmarked}
use Rattle.keep_meaning.proofs.LineNodeLemmas.{all_filter, line_of, none_numbered}
use Rattle.keep_meaning.proofs.LineNumberLemmas.{AllOf, IsHigher, IsLower, all_join, all_of}
use Rattle.keep_meaning.proofs.NamedLemmas.{Says, SomeOf, base, ends, is_item}

root_no_end : (p : List Part) (b : Bool) → ends p ≡ Some b → is_root p ≡ false
root_no_end [] b h = absurd cc
root_no_end (x ∷ p) b h = refl

some_weaker : {A : Type 0} (P : A → Type 0) (xs : List A) → SomeOf P xs → SomeOf (λ (x : A). ⊤) xs
some_weaker P [] h = h
some_weaker P (x ∷ xs) (inl h) = inl tt
some_weaker P (x ∷ xs) (inr h) = inr (some_weaker P xs h)

module _ (c : Count) (xs ys : List Numbered) (middle last : Reading) (first : IsSound start middle (map mention_of xs))
    (second : IsSound middle last (map mention_of ys))
    (low : AllOf (IsLower c) xs) (high : AllOf (IsHigher c) ys)
    (obeys : ObeysRules (marks (map mention_of xs ++ map mention_of ys))) (p : List Part) where
  abbrev mx : List Mention
  mx = map mention_of xs

  abbrev my : List Mention
  my = map mention_of ys

  abbrev zs : List Numbered
  zs = numbered_at p xs

  abbrev ws : List Numbered
  ws = numbered_at p ys

  abbrev Before : Numbered → Type 0
  Before n = IsSaid start middle mx n.mention × (n.mention.path ≡ p)

  abbrev After : Numbered → Type 0
  After n = IsSaid middle last my n.mention × (n.mention.path ≡ p)

  said_before : AllOf Before zs
  said_before = at_all (IsSaid start middle mx) p xs (said_all start middle mx first)

  said_after : AllOf After ws
  said_after = at_all (IsSaid middle last my) p ys (said_all middle last my second)

  -- whether key parts name the path
  marked_before : (b : Bool) → ends p ≡ Some b → (n : Numbered) → Before n → is_mark n.mention.kind ≡ b
  marked_before b e n h = let both : Some (is_mark n.mention.kind) ≡ Some b = sym h.0.fits ∙ ap ends h.1 ∙ e in cc

  marked_after : (b : Bool) → ends p ≡ Some b → (n : Numbered) → After n → is_mark n.mention.kind ≡ b
  marked_after b e n h = let both : Some (is_mark n.mention.kind) ≡ Some b = sym h.0.fits ∙ ap ends h.1 ∙ e in cc

  none_before : ends p ≡ None → zs ≡ []
  none_before e = by zs said_before
    where
      by : (ns : List Numbered) → AllOf Before ns → ns ≡ []
      by [] h = refl
      by (n ∷ ns) h =
          absurd (let clash : Some (is_mark n.mention.kind) ≡ None = sym h.0.0.fits ∙ ap ends h.0.1 ∙ e in cc)

  none_after : ends p ≡ None → ws ≡ []
  none_after e = by ws said_after
    where
      by : (ns : List Numbered) → AllOf After ns → ns ≡ []
      by [] h = refl
      by (n ∷ ns) h =
          absurd (let clash : Some (is_mark n.mention.kind) ≡ None = sym h.0.0.fits ∙ ap ends h.0.1 ∙ e in cc)

  -- an element that is there before the line was begun before it
  was_begun : is_reached middle.tables p ≡ true → SomeOf (Begins p) mx
  was_begun h = by (first.begins p h)
    where
      by : (is_reached start.tables p ≡ true) ⊎ SomeOf (Begins p) mx → SomeOf (Begins p) mx
      by (inl g) = absurd (no_longer (is_reached [] p) g (none_reached p))
      by (inr g) = g

  item_named_before : (n : Numbered) → Before n → is_item n.mention.kind ≡ true → SomeOf (Says role.Value (base p)) mx
  item_named_before n h is = subst (λ (q : List Part). SomeOf (Says role.Value (base q)) mx) h.1 (h.0.item is)

  item_named_after : (n : Numbered) → After n → is_item n.mention.kind ≡ true → SomeOf (Says role.Value (base p)) my
  item_named_after n h is = subst (λ (q : List Part). SomeOf (Says role.Value (base q)) my) h.1 (h.0.item is)

  element_named_after : (n : Numbered) → After n → is_begun n.mention.kind ≡ true
      → SomeOf (Says role.Element (base p)) my
  element_named_after n h is = subst (λ (q : List Part). SomeOf (Says role.Element (base q)) my) h.1 (h.0.element is)

  there_before : (n : Numbered) → Before n → (is_begun n.mention.kind || is_passed n.mention.kind) ≡ true
      → is_reached middle.tables p ≡ true
  there_before n h is = subst (λ (q : List Part). is_reached middle.tables q ≡ true) h.1 (h.0.there is)

  -- of an item or element that is said before, none is said after
  apart : ends p ≡ Some false → (z : Numbered) → Before z → (w : Numbered) → After w
      → (is_value w.mention.kind ≡ false) × (is_begun w.mention.kind ≡ false)
  apart e z hz w hw = (
    false_from_ne_true (is_value w.mention.kind)
        (λ is. no_value (item_named_after w hw ((bare w.mention.kind (marked_after false e w hw)).4 ∙ is)) said),
    false_from_ne_true (is_begun w.mention.kind)
        (λ is. no_element (element_named_after w hw is)
        (subst (λ (q : List Part). is_reached middle.tables q ≡ false) hw.1 (hw.0.fresh is)) said),
  )
    where
      said : (is_item z.mention.kind ≡ true) ⊎ ((is_begun z.mention.kind || is_passed z.mention.kind) ≡ true)
      said = unmarked z.mention.kind (marked_before false e z hz)

      no_value : SomeOf (Says role.Value (base p)) my
          → (is_item z.mention.kind ≡ true) ⊎ ((is_begun z.mention.kind || is_passed z.mention.kind) ≡ true) → ⊥
      no_value g (inl is) =
          let yes = allowed mx my (base p) role.Value role.Value obeys (item_named_before z hz is) g in cc
      no_value g (inr is) =
          let yes =
          allowed mx my (base p) role.Element role.Value obeys
          (element_named p mx mx first.elements (was_begun (there_before z hz is))) g in cc

      no_element : SomeOf (Says role.Element (base p)) my → is_reached middle.tables p ≡ false
          → (is_item z.mention.kind ≡ true) ⊎ ((is_begun z.mention.kind || is_passed z.mention.kind) ≡ true) → ⊥
      no_element g new (inl is) =
          let yes = allowed mx my (base p) role.Value role.Element obeys (item_named_before z hz is) g in cc
      no_element g new (inr is) = no_longer (is_reached middle.tables p) (there_before z hz is) new

  none_more : ends p ≡ Some false → SomeOf (λ (n : Numbered). ⊤) zs
      → AllOf (λ (n : Numbered). (is_value n.mention.kind ≡ false) × (is_begun n.mention.kind ≡ false)) ws
  none_more e some = by zs said_before some
    where
      by : (ns : List Numbered) → AllOf Before ns → SomeOf (λ (n : Numbered). ⊤) ns
          → AllOf (λ (n : Numbered). (is_value n.mention.kind ≡ false) × (is_begun n.mention.kind ≡ false)) ws
      by [] h s = absurd s
      by (z ∷ ns) h s =
          all_of After (λ (n : Numbered). (is_value n.mention.kind ≡ false) × (is_begun n.mention.kind ≡ false))
          (apart e z h.0) ws said_after

  -- what is first said after the line is an item, or an element that is begun there
  some_more : ends p ≡ Some false → zs ≡ [] → SomeOf (λ (n : Numbered). ⊤) ws
      → SomeOf (λ (n : Numbered). is_value n.mention.kind ≡ true) ws
      ⊎ SomeOf (λ (n : Numbered). is_begun n.mention.kind ≡ true) ws
  some_more e none some = by ws said_after some (λ g. begun_at p ys g)
    where
      begun_after : (is_reached middle.tables p ≡ true) ⊎ SomeOf (Begins p) my → SomeOf (Begins p) my
      begun_after (inl g) =
          absurd (subst (λ (l : List Numbered). SomeOf (λ (n : Numbered). is_begun n.mention.kind ≡ true) l) none
          (begun_at p xs (was_begun g)))
      begun_after (inr g) = g

      by : (ns : List Numbered) → AllOf After ns → SomeOf (λ (n : Numbered). ⊤) ns
          → (SomeOf (Begins p) my → SomeOf (λ (n : Numbered). is_begun n.mention.kind ≡ true) ns)
          → SomeOf (λ (n : Numbered). is_value n.mention.kind ≡ true) ns
          ⊎ SomeOf (λ (n : Numbered). is_begun n.mention.kind ≡ true) ns
      by [] h s f = absurd s
      by (w ∷ ns) h s f = kinds (unmarked w.mention.kind (marked_after false e w h.0))
        where
          kinds : (is_item w.mention.kind ≡ true) ⊎ ((is_begun w.mention.kind || is_passed w.mention.kind) ≡ true)
              → SomeOf (λ (n : Numbered). is_value n.mention.kind ≡ true) (w ∷ ns)
              ⊎ SomeOf (λ (n : Numbered). is_begun n.mention.kind ≡ true) (w ∷ ns)
          kinds (inl is) = inl (inl (sym (bare w.mention.kind (marked_after false e w h.0)).4 ∙ is))
          kinds (inr is) =
              inr (f (begun_after (second.begins p
              (subst (λ (q : List Part). is_reached last.tables q ≡ true) h.0.1 (h.0.0.there is)))))

  low_at : AllOf (IsLower c) zs
  low_at = all_filter (IsLower c) (is_numbered_at p) xs low

  high_at : AllOf (IsHigher c) ws
  high_at = all_filter (IsHigher c) (is_numbered_at p) ys high

  -- met before the line
  pub met_before : is_node p mx ≡ true → met_at (line_of c) p (zs ++ ws) ≡ false
  met_before node = by (ends p) refl
    where
      some : (b : Bool) → ends p ≡ Some b → SomeOf (λ (n : Numbered). ⊤) zs
      some b e = some_at p xs (ap (λ (r : Bool). r || list_any (is_at p) mx) (sym (root_no_end p b e)) ∙ node)

      by : (o : Option Bool) → ends p ≡ o → met_at (line_of c) p (zs ++ ws) ≡ false
      by None e = ap₂ (λ (l m : List Numbered). met_at (line_of c) p (l ++ m)) (none_before e) (none_after e)
      by (Some true) e =
          marked_low c zs ws low_at high_at p
          (all_of Before (λ (n : Numbered). is_mark n.mention.kind ≡ true) (marked_before true e) zs said_before)
          (some true e)
      by (Some false) e =
          bare_low c zs ws low_at high_at p
          (all_join (λ (n : Numbered). is_mark n.mention.kind ≡ false) zs ws
          (all_of Before (λ (n : Numbered). is_mark n.mention.kind ≡ false) (marked_before false e) zs said_before)
          (all_of After (λ (n : Numbered). is_mark n.mention.kind ≡ false) (marked_after false e) ws said_after))
          (none_more e (some false e))

  -- first met after it
  pub met_after : is_node p mx ≡ false → list_any (is_at p) my ≡ true → met_at (line_of c) p (zs ++ ws) ≡ true
  met_after unmet said = ap (λ (l : List Numbered). met_at (line_of c) p (l ++ ws)) none ∙ by (ends p) refl
    where
      none : zs ≡ []
      none = none_numbered p xs (or_parts (is_root p) (list_any (is_at p) mx) unmet).1

      some : SomeOf (λ (n : Numbered). ⊤) ws
      some = some_at p ys said

      by : (o : Option Bool) → ends p ≡ o → met_at (line_of c) p ws ≡ true
      by None e = absurd (subst (λ (l : List Numbered). SomeOf (λ (n : Numbered). ⊤) l) (none_after e) some)
      by (Some true) e =
          marked_high c zs ws low_at high_at p
          (all_of After (λ (n : Numbered). is_mark n.mention.kind ≡ true) (marked_after true e) ws said_after) some
      by (Some false) e =
          bare_high c zs ws low_at high_at p
          (all_of After (λ (n : Numbered). is_mark n.mention.kind ≡ false) (marked_after false e) ws said_after)
          (some_more e none some)
