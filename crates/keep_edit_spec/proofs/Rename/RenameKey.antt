-- One part of a key renamed: what the key means then, that it is still one, and that there is such a change.
--
-- Theorems: `key_renamed`: of a key; `name_renamed`: of a keyval's key; `some_name`: a part of a keyval's key can be
-- renamed.
use Rattle.std.proofs.Common.{◌≡◌, ℕ, zero, suc, List, [], ◌∷◌, ◌++◌, map, ap}
use Rattle.std.specs.Prelude.{codes}
use Rattle.std.specs.List.{AllByRecursion}
use Rattle.keep_types.specs.declared.leaf.Profile.{Profile}
use Rattle.keep_syntax.specs.Tree.{Written, Further, Key, Name, text_of, further_leaves}
use Rattle.keep_syntax.specs.Grammar.{IsFurther, IsKey, IsName}
use Rattle.keep_path.specs.Path.{Part, key}
use Rattle.keep_meaning.specs.Meaning.{key_value, further_value, keys_of}
use Rattle.keep_edit_spec.specs.Edits.{key_part}
use Rattle.keep_edit_spec.specs.Values.{rename_further, rename_part, rename_name}
use Rattle.keep_edit_spec.proofs.Common.SetLaw.{EachTo, to_within}
use Rattle.keep_edit_spec.proofs.Common.ValueThere.{IsSome, some_within}
use Rattle.keep_edit_spec.proofs.Common.NewLines.{IsKeyText}
use Rattle.keep_edit_spec.proofs.Rename.RenamedParts.{IsPart, replaced_key}
use Rattle.keep_meaning.specs.Marks.{entered_path}

pub record IsFurtherRenamed (profile : Profile) (t : List ℕ) (n : ℕ) (from to : List Further) : Type 0 where
  pub keys : map further_value to ≡ replaced_key t n (map further_value from)
  pub valid : AllByRecursion (IsFurther profile) from → AllByRecursion (IsFurther profile) to

pub record IsKeyRenamed (profile : Profile) (t : List ℕ) (n : ℕ) (from to : Key) : Type 0 where
  pub keys : keys_of to ≡ replaced_key t n (keys_of from)
  pub valid : IsKey profile from → IsKey profile to

pub record IsNameRenamed (profile : Profile) (t : List ℕ) (n : ℕ) (from to : Name) : Type 0 where
  pub keys : keys_of to.key ≡ replaced_key t n (keys_of from.key)
  pub valid : IsName profile from → IsName profile to

further_renamed : (profile : Profile) (t : List ℕ) → IsKeyText profile t → (n : ℕ) (fs : List Further)
    → EachTo (IsFurtherRenamed profile t n fs) (rename_further (key_part t) n fs)
further_renamed profile t text n [] = tt
further_renamed profile t text zero (f ∷ fs) = record {
  keys = ap (λ l. l ∷ map further_value fs) text.means;
  valid = λ h. (record { before = h.0.before; after = h.0.after; part = text.valid }, h.1);
}
further_renamed profile t text (suc m) (f ∷ fs) =
    to_within (IsFurtherRenamed profile t m fs) (IsFurtherRenamed profile t (suc m) (f ∷ fs)) (λ gs. f ∷ gs)
    (text_of (further_leaves f)) [] (rename_further (key_part t) m fs)
    (λ gs h. record { keys = ap (λ l. further_value f ∷ l) h.keys; valid = λ v. (v.0, h.valid v.1) })
    (further_renamed profile t text m fs)

pub key_renamed : (profile : Profile) (t : List ℕ) → IsKeyText profile t → (n : ℕ) (k : Key)
    → EachTo (IsKeyRenamed profile t n k) (rename_part (key_part t) n k)
key_renamed profile t text zero k = record {
  keys = ap (λ l. l ∷ map further_value k.more) text.means;
  valid = λ h. record { first = text.valid; more = h.more };
}
key_renamed profile t text (suc m) k =
    to_within (IsFurtherRenamed profile t m k.more) (IsKeyRenamed profile t (suc m) k) (λ fs. record k { more = fs })
    k.first.text [] (rename_further (key_part t) m k.more)
    (λ fs h.
    record {
      keys = ap (λ l. key_value k.first ∷ l) h.keys;
      valid = λ v. record { first = v.first; more = h.valid v.more };
    }) (further_renamed profile t text m k.more)

pub name_renamed : (profile : Profile) (t : List ℕ) → IsKeyText profile t → (n : ℕ) (name : Name)
    → EachTo (IsNameRenamed profile t n name) (rename_name (key_part t) n name)
name_renamed profile t text n name =
    to_within (IsKeyRenamed profile t n name.key) (IsNameRenamed profile t n name) (λ k. record name { key = k }) []
    (text_of name.before ++ (codes "=" ++ text_of name.after)) (rename_part (key_part t) n name.key)
    (λ k h. record { keys = h.keys; valid = λ v. record { key = h.valid v.key; before = v.before; after = v.after } })
    (key_renamed profile t text n name.key)

-- ---- where there is such a part, it can be renamed

some_further : (new : Written) (p : List Part) (tables : List (List Part)) (at : List Part) (n : ℕ) (fs : List Further)
    → IsPart p tables at n (map further_value fs) → IsSome (rename_further new n fs)
some_further new p tables at n [] h = absurd h
some_further new p tables at zero (f ∷ fs) h = tt
some_further new p tables at (suc n) (f ∷ fs) h =
    some_within (λ gs. f ∷ gs) (text_of (further_leaves f)) [] (rename_further new n fs)
    (some_further new p tables (entered_path tables (at ++ key (further_value f) ∷ [])) n fs h)

pub some_key : (new : Written) (p : List Part) (tables : List (List Part)) (at : List Part) (n : ℕ) (k : Key)
    → IsPart p tables at n (keys_of k) → IsSome (rename_part new n k)
some_key new p tables at zero k h = tt
some_key new p tables at (suc n) k h =
    some_within (λ fs. record k { more = fs }) k.first.text [] (rename_further new n k.more)
    (some_further new p tables (entered_path tables (at ++ key (key_value k.first) ∷ [])) n k.more h)

pub some_name : (new : Written) (p : List Part) (tables : List (List Part)) (at : List Part) (n : ℕ) (name : Name)
    → IsPart p tables at n (keys_of name.key) → IsSome (rename_name new n name)
some_name new p tables at n name h =
    some_within (λ k. record name { key = k }) [] (text_of name.before ++ (codes "=" ++ text_of name.after))
    (rename_part new n name.key) (some_key new p tables at n name.key h)
