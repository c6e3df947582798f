-- A value with an entry more is deeper than the entry by one, at least.
--
-- Wherever the entry is put in, it is among the entries of the new value (`before_deep`, `after_deep`, by induction
-- over the entries), or alone there. And the path of the entry is enclosed by one value more, at most.
--
-- Theorems: `put_deep`, `put_keyval_deep`; `enclosing_entry`.
use Rattle.std.proofs.Common.{◌≡◌, ℕ, zero, suc, ◌≤◌, Bool, true, false, cond, List, [], ◌∷◌, ◌++◌, refl, arith}
use Rattle.std.proofs.Common.{Option, Some, None, inl, inr}
use Rattle.std.specs.Prelude.{codes}
use Rattle.keep_syntax.specs.Tree.{Name, Body, scalar, array, inline, Entries, none, entry, Value, entries_depth}
use Rattle.keep_syntax.specs.Tree.{text_of, value_depth}
use Rattle.keep_path.specs.Path.{Part, index, key}
use Rattle.keep_meaning.specs.Marks.{Mention}
use Rattle.keep_meaning.specs.Nodes.{fact_at}
use Rattle.keep_edit_spec.specs.Changed.{Changed, or_else}
use Rattle.keep_edit_spec.specs.Edits.{name_with}
use Rattle.keep_edit_spec.specs.Look.{enclosing, is_bracket_at}
use Rattle.keep_edit_spec.specs.Values.{put_after, put_before, put_item, put_named}
use Rattle.keep_edit_spec.proofs.Common.DoneAtValue.{count_step}
use Rattle.keep_edit_spec.proofs.Common.EntryDepths.{enclosing_beyond}
use Rattle.keep_edit_spec.proofs.Common.SetLaw.{EachTo, to_or_else, to_within}
use Rattle.keep_edit_spec.proofs.Common.ValueThere.{IsSome}
use Rattle.keep_edit_spec.proofs.Insert.BracesPlace.{is_inline}
use Rattle.keep_edit_spec.proofs.Insert.DoneThere.{same_value}
use Rattle.keep_edit_spec.proofs.Insert.ItemThere.{is_array}
use Rattle.keep_edit_spec.proofs.Insert.PutValue.{some_named}
use Rattle.keep_edit_spec.proofs.Lists.AtHolder.{put_at, put_keyval_at, some_item}

-- ---- the entries

before_deep : (n : ℕ) (new : Value) (es : Entries)
    → EachTo (λ fs. value_depth new ≤ entries_depth fs) (put_before n new es)
before_deep n new none = tt
before_deep zero new (entry name body nested after comma rest) = omega arith
before_deep (suc m) new (entry name body nested after comma rest) =
    to_within (λ fs. value_depth new ≤ entries_depth fs) (λ fs. value_depth new ≤ entries_depth fs)
    (entry name body nested after comma) _ [] (put_before m new rest) (λ fs h. omega (arith, h))
    (before_deep m new rest)

after_deep : (named : Option Name) (new : Value) (es : Entries)
    → EachTo (λ fs. value_depth new ≤ entries_depth fs) (put_after [] named new es)
after_deep named new none = tt
after_deep named new (entry name body nested after comma rest) =
    to_or_else (λ fs. value_depth new ≤ entries_depth fs) _ (Some _)
    (to_within (λ fs. value_depth new ≤ entries_depth fs) (λ fs. value_depth new ≤ entries_depth fs)
    (entry name body nested after comma) _ [] (put_after [] named new rest) (λ fs h. omega (arith, h))
    (after_deep named new rest)) (omega arith)

each_first : {A : Type 0} (P : A → Type 0) (o p : Option (Changed A)) → IsSome o → EachTo P o → EachTo P (or_else o p)
each_first P None p some h = absurd some
each_first P (Some c) p some h = h

-- ---- the value

-- an array with an item more
pub put_deep : (new : Value) (n : ℕ) (v : Value) → is_array v.body ≡ true
    → EachTo (λ u. suc (value_depth new) ≤ value_depth u) (put_at new n [] v)
put_deep new n v is = by v.body v.nested is
  where
    by : (body : Body) (nested : Entries) → is_array body ≡ true
        → EachTo (λ u. suc (value_depth new) ≤ value_depth u)
        (put_at new n [] (record { body = body; nested = nested }))
    by (scalar w) nested e = absurd cc
    by (inline gap) nested e = absurd cc
    by (array gap) none e = omega arith
    by (array gap) (entry name body nested after comma rest) e =
        let es : Entries = entry name body nested after comma rest in
        each_first (λ u. suc (value_depth new) ≤ value_depth u)
        (put_item new (index n ∷ []) (record { body = array gap; nested = es }))
        (Some (same_value (record { body = array gap; nested = es }))) (some_item new n gap es)
        (to_within (λ fs. value_depth new ≤ entries_depth fs) (λ u. suc (value_depth new) ≤ value_depth u)
        (λ fs. record { body = array gap; nested = fs }) (codes "[" ++ text_of gap) (codes "]")
        (or_else (put_before n new es) (put_after [] None new es))
        (λ fs h. omega (arith, h))
        (to_or_else (λ fs. value_depth new ≤ entries_depth fs) (put_before n new es) (put_after [] None new es)
        (before_deep n new es) (after_deep None new es)))

-- an inline table with a keyval more
pub put_keyval_deep : (new : Value) (k : List ℕ) (v : Value) → is_inline v.body ≡ true
    → EachTo (λ u. suc (value_depth new) ≤ value_depth u) (put_keyval_at new k [] v)
put_keyval_deep new k v is = by v.body v.nested is
  where
    by : (body : Body) (nested : Entries) → is_inline body ≡ true
        → EachTo (λ u. suc (value_depth new) ≤ value_depth u)
        (put_keyval_at new k [] (record { body = body; nested = nested }))
    by (scalar w) nested e = absurd cc
    by (array gap) nested e = absurd cc
    by (inline gap) none e = omega arith
    by (inline gap) (entry name body nested after comma rest) e =
        let es : Entries = entry name body nested after comma rest in
        let named : Option Name = Some (name_with (k ∷ [])) in
        each_first (λ u. suc (value_depth new) ≤ value_depth u)
        (put_named name_with 1 new (key k ∷ []) (record { body = inline gap; nested = es }))
        (Some (same_value (record { body = inline gap; nested = es })))
        (some_named name_with 1 new (key k ∷ []) gap es (inr (inl refl)))
        (to_within (λ fs. value_depth new ≤ entries_depth fs) (λ u. suc (value_depth new) ≤ value_depth u)
        (λ fs. record { body = inline gap; nested = fs }) (codes "{" ++ text_of gap) (codes "}")
        (put_after [] named new es) (λ fs h. omega (arith, h)) (after_deep named new es))

-- ---- what encloses an entry

few_more : (b : Bool) → cond {A = ℕ} b 1 0 ≤ 1
few_more true = omega arith
few_more false = omega arith

-- at most one value more than what encloses the value that holds it
pub enclosing_entry : (a : List Part) (p : Part) (ms inner : List Mention)
    → ((q : List Part) → fact_at (a ++ q) ms ≡ fact_at q inner) → enclosing (a ++ p ∷ []) ms ≤ suc (enclosing a ms)
enclosing_entry a p ms inner facts =
    let t : List Part → Bool = is_bracket_at inner in
    omega (arith, enclosing_beyond a (p ∷ []) ms inner facts, count_step t [] [], few_more (t []))
