-- Where `insert` puts a keyval into braces, where it is not refused: by the origin of the node that the new path
-- continues from.
--
-- Theorems: `inline_placed`, `dots_placed`.
use Rattle.std.proofs.Common.{◌≡◌, ℕ, suc, ◌<◌, ◌≤◌, true, false, List, [], ◌∷◌, ◌++◌, length, map, take, drop}
use Rattle.std.proofs.Common.{slice_get, refl, sym, ap, subst, ◌∙◌, append_assoc, length-append, take-append-drop}
use Rattle.std.proofs.Common.{arith, Option, Some, None}
use Rattle.std.specs.Prelude.{IsUtf8}
use Rattle.std.specs.List.{AllByRecursion}
use Rattle.std.proofs.lemmas.List.{append-nil, length-take-le}
use Rattle.keep_types.specs.declared.leaf.Profile.{Profile}
use Rattle.keep_types.specs.declared.leaf.Profile.TheVariants.{Wide}
use Rattle.keep_types.specs.declared.syntax.ValueInfo.{ValueInfo}
use Rattle.keep_syntax.specs.Tree.{Value, Document}
use Rattle.keep_syntax.specs.Numbered as syntax
use Rattle.keep_path.specs.Path.{Part, key}
use Rattle.keep_meaning.specs.Meaning.{mentions_in}
use Rattle.keep_meaning.specs.Counts.{is_value, numbered_in}
use Rattle.keep_meaning.specs.Nodes.{is_dotted, numbered_at, last_number, value_number}
use Rattle.keep_edit_spec.specs.Look.{holder, item_number, keys_in}
use Rattle.keep_edit_spec.specs.Edits.{insert}
use Rattle.keep_edit_spec.specs.Insertion.{in_empty, last_keyval}
use Rattle.keep_edit_spec.specs.Laws.{IsEditable, IsGivenValue}
use Rattle.keep_edit_spec.specs.Refusals.{refusal, has_value}
use Rattle.keep_edit_spec.proofs.Values.ValuePlace.{has_of_number, none_of_number}
use Rattle.keep_edit_spec.proofs.Insert.LineBefore.{IsLowPlace}
use Rattle.keep_edit_spec.proofs.Insert.NewPath.{IsNewPath, drop_prefix_parts}
use Rattle.keep_edit_spec.proofs.Insert.BracePlaces.{IsPutAfter, fresh_path, keyval_found}
use Rattle.keep_edit_spec.proofs.Insert.BraceLaws.{into_empty, after_last}
use Rattle.keep_edit_spec.proofs.Insert.BraceDotted.{after_dotted}
use Rattle.keep_edit_spec.proofs.Insert.BracesPlace.{take_all}

-- the number of the value at a path
abbrev stated_number : List Part → Document → Option ℕ
stated_number path s = last_number is_value value_number (numbered_at path (numbered_in s))

-- into the braces of an inline table
pub record IsInlineLaw (path : List Part) (s : Document) (new : Value) (v : ℕ) (own : ValueInfo) : Type 0 where
  pub empty : last_keyval (suc v) own.depth (drop (suc v) (syntax.values s)) ≡ None
      → IsLowPlace s (insert path new) (in_empty own (keys_in (drop (length (holder path (mentions_in s))) path)) new)
  pub after : (w : ℕ) → last_keyval (suc v) own.depth (drop (suc v) (syntax.values s)) ≡ Some w
      → IsPutAfter path s new (keys_in (drop (length (holder path (mentions_in s))) path)) w

module _ (profile : Profile) (limit : ℕ) (s : Document) (path : List Part) (new : Value)
    (editable : IsEditable profile limit s) (given : IsGivenValue Wide new)
    (utf8 : AllByRecursion IsUtf8 (keys_in path))
    (no_item : item_number path (mentions_in s) ≡ None)
    (allowed : refusal profile limit s (insert path new) ≡ None) where
  abbrev a : List Part
  a = holder path (mentions_in s)

  pub inline_placed : (v : ℕ) (own : ValueInfo) → stated_number (holder path (mentions_in s)) s ≡ Some v
      → slice_get (syntax.values s) v ≡ Some own → IsInlineLaw path s new v own
  inline_placed v own number here =
      let whole : a ≡ a ++ [] = sym (append-nil a) in
      let valued : has_value a (mentions_in s) ≡ true = has_of_number a s v editable.obeys number in
      let free : (b : Part) (bs r : List Part) → [] ≡ (b ∷ bs) ++ r → has_value (a ++ b ∷ bs) (mentions_in s) ≡ false =
      λ b bs r e. absurd (no b bs r e) in
      let n : IsNewPath path (mentions_in s) =
      fresh_path profile limit s path new editable given utf8 no_item allowed a [] whole valued free in
      let h = keyval_found profile limit s path new editable given utf8 no_item allowed a [] whole valued free in
      let keys : keys_in (map key (n.first ∷ n.more)) ≡ keys_in (drop (length a) path) = ap keys_in (sym n.rest) in
      record {
        empty = λ e.
            subst (λ (l : List (List ℕ)). IsLowPlace s (insert path new) (in_empty own l new)) keys
            (into_empty profile s path a new n.first n.more h v own number here e);
        after = λ w e.
            subst (λ (l : List (List ℕ)). IsPutAfter path s new l w) keys
            (after_last profile s path a new n.first n.more h v own number here w e);
      }
    where
      no : (b : Part) (bs r : List Part) → [] ≡ (b ∷ bs) ++ r → ⊥
      no b bs r e = absurd cc

  -- After the keyval in braces that continues from a dotted table last. The path's first `from` steps lead to the
  -- braces.
  pub dots_placed : (from b v : ℕ) → from ≤ length (holder path (mentions_in s))
      → stated_number (take from (holder path (mentions_in s))) s ≡ Some b
      → ((n : ℕ) → from < n → n ≤ length (holder path (mentions_in s))
      → stated_number (take n (holder path (mentions_in s))) s ≡ None)
      → stated_number (holder path (mentions_in s)) s ≡ None
      → last_number is_dotted value_number (numbered_at (holder path (mentions_in s)) (numbered_in s)) ≡ Some v
      → IsPutAfter path s new (keys_in (drop from path)) v
  dots_placed from b v within number nones none dots = by (drop from a) refl
    where
      at : List Part
      at = take from a

      long : length at ≡ from
      long = length-take-le from a within

      by : (x : List Part) → drop from a ≡ x → IsPutAfter path s new (keys_in (drop from path)) v
      by [] e =
          let same : at ≡ a = sym (append-nil at) ∙ ap (λ (l : List Part). at ++ l) (sym e) ∙ take-append-drop from a in
          let no : None ≡ Some b = sym none ∙ ap (λ (q : List Part). stated_number q s) (sym same) ∙ number in absurd cc
      by (d ∷ ds) e =
          let whole : a ≡ at ++ d ∷ ds = sym (take-append-drop from a) ∙ ap (λ (l : List Part). at ++ l) e in
          let valued : has_value at (mentions_in s) ≡ true = has_of_number at s b editable.obeys number in
          let free : (p : Part) (ps r : List Part) → d ∷ ds ≡ (p ∷ ps) ++ r
          → has_value (at ++ p ∷ ps) (mentions_in s) ≡ false = λ p ps r f.
          (let split : a ≡ (at ++ p ∷ ps) ++ r = whole ∙ ap (λ (l : List Part). at ++ l) f
          ∙ sym (append_assoc at (p ∷ ps) r) in
          let n : ℕ = length (at ++ p ∷ ps) in
          let prefix : take n a ≡ at ++ p ∷ ps = ap (take n) split ∙ take_all (at ++ p ∷ ps) r in
          let more : from < n = omega (arith, long, length-append at (p ∷ ps)) in
          let few : n ≤ length a =
          omega (arith, ap (λ (l : List Part). length l) split, length-append (at ++ p ∷ ps) r) in
          none_of_number (at ++ p ∷ ps) s editable.obeys
          (ap (λ (q : List Part). stated_number q s) (sym prefix) ∙ nones n more few)) in
          let n : IsNewPath path (mentions_in s) =
          fresh_path profile limit s path new editable given utf8 no_item allowed at (d ∷ ds) whole valued free in
          let h = keyval_found profile limit s path new editable given utf8 no_item allowed at (d ∷ ds) whole valued
          free in
          let rest : List Part = (d ∷ ds) ++ map key (n.first ∷ n.more) in
          let keys : keys_in rest ≡ keys_in (drop from path) =
          ap keys_in (sym (drop_prefix_parts at rest) ∙ ap (λ (m : ℕ). drop m (at ++ rest)) long
          ∙ ap (drop from) (sym h.whole)) in
          let last : last_number is_dotted value_number (numbered_at (at ++ d ∷ ds) (numbered_in s)) ≡ Some v =
          ap (λ (q : List Part). last_number is_dotted value_number (numbered_at q (numbered_in s))) (sym whole)
          ∙ dots in
          subst (λ (l : List (List ℕ)). IsPutAfter path s new l v) keys
          (after_dotted profile s path at d ds new n.first n.more h v last)
