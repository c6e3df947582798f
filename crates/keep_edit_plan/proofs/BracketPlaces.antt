-- Where `insert` writes in brackets, by the spot that is found for it.
--
-- A spot in brackets names a value by its number, and the place there is before the value, after it, or in its empty
-- brackets. Once the value of the number is found, the spot has a place (`at_number`). That this is the edit's place is
-- what laws of keep_edit_spec say. Of an item it is `item_law`: no keys are written, since no step of the path is left
-- (`no_keys`). Of a keyval in an inline table it is `inline_placed`: the braces are empty (`empty_placed`), or it comes
-- after their last keyval (`last_placed`). Of a keyval in a table that dots continue to, in braces, it is
-- `dots_placed`: it comes after the keyval that continues to it last, with the keys from the base on (`dotted_placed`).
--
-- Theorems: `item_placed`: an item of an array; `braces_placed`: a keyval in braces.
use Rattle.std.proofs.Common.{◌≡◌, ℕ, suc, true, List, [], ◌∷◌, ◌++◌, length, drop, take, slice_get, refl, sym, ap}
use Rattle.std.proofs.Common.{subst, ◌∙◌, Some, None, inl, inr}
use Rattle.std.specs.Prelude.{IsUtf8, ⊤}
use Rattle.std.specs.List.{AllByRecursion}
use Rattle.std.specs.Option.{option_map, option_and_then}
use Rattle.keep_types.specs.declared.leaf.Profile.TheVariants.{Wide}
use Rattle.keep_types.specs.declared.syntax.ValueInfo.{ValueInfo}
use Rattle.keep_syntax.specs.Tree.{Value, Document}
use Rattle.keep_syntax.specs.Numbered as syntax
use Rattle.keep_path.specs.Path.{Part, index}
use Rattle.keep_types.specs.declared.node.Origin.{Origin}
use Rattle.keep_types.specs.declared.node.Origin.TheVariants as origin
use Rattle.keep_meaning.specs.Meaning.{mentions_in}
use Rattle.keep_meaning.specs.Counts.{numbered_in}
use Rattle.keep_meaning.specs.Nodes.{numbered_at}
use Rattle.keep_edit_spec.specs.Changed as changed
use Rattle.keep_edit_spec.specs.Edits.{insert}
use Rattle.keep_edit_spec.specs.Insertion.{before_item, after_entry, in_empty, last_keyval}
use Rattle.keep_edit_spec.specs.Laws.{IsGivenValue}
use Rattle.keep_edit_spec.specs.Look.{holder, item_number, keys_in, without_last}
use Rattle.keep_edit_spec.specs.Refusals.{refusal}
use Rattle.keep_edit_spec.proofs.Shared.{IsLowPlace, IsValueOf, value_of_number, IsItemLaw, item_law, IsPutAfter}
use Rattle.keep_edit_spec.proofs.Shared.{IsInlineLaw, inline_placed, dots_placed, IsDottedNode, dotted_node}
use Rattle.keep_edit_plan.specs.Reading.{limit, ProfiledText, IsTextOfTree}
use Rattle.keep_edit_plan.specs.Answers.{value_number_of}
use Rattle.keep_edit_plan.specs.Inserting.{origin_of, is_dotted_origin, IsBase, IsItemSpot, IsKeyvalSpot}
use Rattle.keep_edit_plan.specs.Inserting.{last_keyval_of, spot_place}
use Rattle.keep_edit_plan.specs.declared.insert.Insertion.{Insertion}
use Rattle.keep_edit_plan.specs.declared.insert.Spot.{Spot}
use Rattle.keep_edit_plan.specs.declared.insert.Spot.TheVariants as spot
use Rattle.keep_edit_plan.proofs.EditedLaws.{editable}
use Rattle.keep_edit_plan.proofs.FoundLaws.{origin_of_value}

-- no line is written
abbrev pub IsInBrackets : Spot → Type 0
IsInBrackets (spot.BeforeItem w) = ⊤
IsInBrackets (spot.AfterEntry w) = ⊤
IsInBrackets (spot.InEmpty w) = ⊤
IsInBrackets _ = ⊥

-- The edit's place is that of the spot, between characters.
pub record IsLowSpot (path : List Part) (s : Document) (v : Value) (i : Insertion) : Type 0 where
  pub place : changed.Place
  pub is : spot_place s path v i ≡ Some place
  pub low : IsLowPlace s (insert path v) place

pub drop_all : (path : List Part) → drop (length path) path ≡ []
drop_all [] = refl
drop_all (p ∷ path) = drop_all path

-- a spot at the value of a number
at_number : (path : List Part) (s : Document) (v : Value) (i : Insertion) (w : ℕ) (info : ValueInfo)
    (where_put : ValueInfo → changed.Place) → slice_get (syntax.values s) w ≡ Some info
    → spot_place s path v i ≡ option_map where_put (slice_get (syntax.values s) w)
    → IsLowPlace s (insert path v) (where_put info) → IsLowSpot path s v i
at_number path s v i w info where_put here is low =
    record { place = where_put info; is = is ∙ ap (option_map where_put) here; low = low }

module _ (d : ProfiledText) (path : List Part) (s : Document) (v : Value) (read : IsTextOfTree d s)
    (given : IsGivenValue Wide v) (allowed : refusal d.profile limit s (insert path v) ≡ None) where
  -- ---- items

  module _ (n : ℕ) (at : item_number path (mentions_in s) ≡ Some n) (from : ℕ) (whole : from ≡ length path) where
    law : IsItemLaw path n s v
    law = item_law d.profile limit s path v n (editable d s read) given at allowed

    -- no keys are written
    no_keys : keys_in (drop from path) ≡ []
    no_keys = ap (λ (m : ℕ). keys_in (drop m path)) whole ∙ ap keys_in (drop_all path)

    pub item_placed : (at : Spot) → IsItemSpot path n s at → IsLowSpot path s v (record { spot = at; from = from })
    item_placed (spot.BeforeItem w) h =
        let (info, of) = value_of_number d.profile path s w read.reads.valid read.obeys h in
        at_number path s v (record { spot = spot.BeforeItem w; from = from }) w info
        (λ (x : ValueInfo). before_item x v) of.info refl (law.before w info h of.info)
    item_placed (spot.AfterEntry w) (m, more, count, number) =
        let (info, of) =
        value_of_number d.profile (without_last path ++ index m ∷ []) s w read.reads.valid read.obeys number in
        at_number path s v (record { spot = spot.AfterEntry w; from = from }) w info
        (λ (x : ValueInfo). after_entry x (keys_in (drop from path)) v) of.info refl
        (subst (λ (l : List (List ℕ)). IsLowPlace s (insert path v) (after_entry info l v)) (sym no_keys)
        (law.after m w info more count number of.info))
    item_placed (spot.InEmpty w) (zero_n, count, number) =
        let (info, of) = value_of_number d.profile (without_last path) s w read.reads.valid read.obeys number in
        at_number path s v (record { spot = spot.InEmpty w; from = from }) w info
        (λ (x : ValueInfo). in_empty x (keys_in (drop from path)) v) of.info refl
        (subst (λ (l : List (List ℕ)). IsLowPlace s (insert path v) (in_empty info l v)) (sym no_keys)
        (law.empty w info count number of.info))
    item_placed (spot.AfterBody o) h = absurd h
    item_placed (spot.AfterLine w) h = absurd h
    item_placed (spot.NewSection w) h = absurd h

  -- ---- keyvals in braces

  module _ (utf8 : AllByRecursion IsUtf8 (keys_in path)) (no_item : item_number path (mentions_in s) ≡ None)
      (from : ℕ) where
    abbrev a : List Part
    a = holder path (mentions_in s)

    number_of : (p : List Part) (w : ℕ) → origin_of p s ≡ origin.Value w → value_number_of p s ≡ Some w
    number_of p w e = origin_of_value (numbered_at p (numbered_in s)) w e

    abbrev keys_from : ℕ → List (List ℕ)
    keys_from m = keys_in (drop m path)

    -- after a value, with the keys from the base on
    pub after_placed : (w : ℕ) → IsPutAfter path s v (keys_in (drop from path)) w
        → IsLowSpot path s v (record { spot = spot.AfterEntry w; from = from })
    after_placed w h =
        at_number path s v (record { spot = spot.AfterEntry w; from = from }) w h.info
        (λ (x : ValueInfo). after_entry x (keys_from from) v) h.here refl h.placed

    -- of an inline table
    module _ (b : ℕ) (of_value : origin_of (holder path (mentions_in s)) s ≡ origin.Value b)
        (base : from ≡ length (holder path (mentions_in s))) where
      found : (info : ValueInfo) × IsValueOf d.profile (holder path (mentions_in s)) s b info
      found = value_of_number d.profile a s b read.reads.valid read.obeys (number_of a b of_value)

      inline_law : IsInlineLaw path s v b found.0
      inline_law =
          inline_placed d.profile limit s path v (editable d s read) given utf8 no_item allowed b found.0
          (number_of a b of_value) found.1.info

      last_is : last_keyval_of b s ≡ last_keyval (suc b) found.0.depth (drop (suc b) (syntax.values s))
      last_is =
          ap (option_and_then (λ (x : ValueInfo). last_keyval (suc b) x.depth (drop (suc b) (syntax.values s))))
          found.1.info

      pub empty_placed : last_keyval_of b s ≡ None → IsLowSpot path s v (record { spot = spot.InEmpty b; from = from })
      empty_placed e =
          at_number path s v (record { spot = spot.InEmpty b; from = from }) b found.0
          (λ (x : ValueInfo). in_empty x (keys_from from) v) found.1.info refl
          (subst (λ (m : ℕ). IsLowPlace s (insert path v) (in_empty found.0 (keys_from m) v)) (sym base)
          (inline_law.empty (sym last_is ∙ e)))

      pub last_placed : (w : ℕ) → last_keyval_of b s ≡ Some w
          → IsLowSpot path s v (record { spot = spot.AfterEntry w; from = from })
      last_placed w e =
          after_placed w (subst (λ (m : ℕ). IsPutAfter path s v (keys_from m) w) (sym base)
          (inline_law.after w (sym last_is ∙ e)))

    dotted_is : (p : Origin) → is_dotted_origin p ≡ true → (w : ℕ) × (p ≡ origin.Dotted w)
    dotted_is (origin.Dotted w) e = (w, refl)
    dotted_is origin.Root e = absurd cc
    dotted_is (origin.Value w) e = absurd cc
    dotted_is (origin.Header w) e = absurd cc
    dotted_is (origin.Element w) e = absurd cc
    dotted_is (origin.Through w) e = absurd cc
    dotted_is origin.Tables e = absurd cc

    -- of a table that dots continue to
    pub dotted_placed : (b w : ℕ) → origin_of (holder path (mentions_in s)) s ≡ origin.Dotted w
        → IsBase (holder path (mentions_in s)) s from
        → origin_of (take from (holder path (mentions_in s))) s ≡ origin.Value b
        → IsLowSpot path s v (record { spot = spot.AfterEntry w; from = from })
    dotted_placed b w dotted base of_value =
        let node : IsDottedNode a s w = dotted_node a s w dotted in
        after_placed w (dots_placed d.profile limit s path v (editable d s read) given utf8 no_item allowed from b w
        base.within (number_of (take from a) b of_value)
        (λ n more few. let (m, e) = dotted_is (origin_of (take n a) s) (base.dots n more few) in
        (dotted_node (take n a) s m e).value) node.value node.number)

    pub braces_placed : (at : Spot) → IsInBrackets at → IsKeyvalSpot (holder path (mentions_in s)) s from at
        → IsLowSpot path s v (record { spot = at; from = from })
    braces_placed (spot.InEmpty b) in_brackets (of_value, base, e) = empty_placed b of_value base e
    braces_placed (spot.AfterEntry w) in_brackets (inl (b, of_value, base, e)) = last_placed b of_value base w e
    braces_placed (spot.AfterEntry w) in_brackets (inr (b, dotted, base, of_value)) =
        dotted_placed b w dotted base of_value
    braces_placed (spot.BeforeItem w) in_brackets h = absurd h
    braces_placed (spot.AfterBody o) in_brackets h = absurd in_brackets
    braces_placed (spot.AfterLine w) in_brackets h = absurd in_brackets
    braces_placed (spot.NewSection w) in_brackets h = absurd in_brackets
