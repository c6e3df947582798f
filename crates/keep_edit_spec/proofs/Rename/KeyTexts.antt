-- Every key in UTF-8 is written as a key part that means it.
--
-- Theorems: `key_text`: that; `key_texts`: of each key of a list; `one_key`: keys that are written alike are the same.
use Rattle.std.proofs.Common.{◌≡◌, ℕ, Bool, true, false, cond, List, [], ◌∷◌, refl, sym, ap, ◌∙◌, IsUtf8}
use Rattle.std.specs.Prelude.{IsTrue}
use Rattle.std.specs.List.{AllByRecursion}
use Rattle.keep_types.specs.declared.leaf.Leaf.{Leaf}
use Rattle.keep_types.specs.declared.leaf.Leaf.TheVariants as leaf
use Rattle.keep_types.specs.declared.leaf.Profile.{Profile}
use Rattle.keep_types.specs.declared.leaf.Profile.TheVariants.{Strict, Wide}
use Rattle.keep_token.specs.Encoded.{is_bare_text, encoded_key, encoded_key_leaf, encoded_string}
use Rattle.keep_token.specs.Leaves.{IsLeaf, is_key_leaf, is_string_leaf}
use Rattle.keep_token.proofs.Shared.{key_is_leaf, key_means, leaf_wider, means_wider}
use Rattle.keep_path.proofs.Shared.{text_bytes}
use Rattle.keep_meaning.specs.Meaning.{string_value}
use Rattle.keep_meaning.proofs.Shared.{means_value}
use Rattle.keep_edit_spec.proofs.Common.Runs.{AllOf}
use Rattle.keep_edit_spec.proofs.Common.NewLines.{IsKeyText}

key_kind : (b : Bool) → IsTrue (is_key_leaf (cond b leaf.BareKey leaf.Basic))
key_kind true = refl
key_kind false = refl

string_kind : (b : Bool) → IsTrue (is_string_leaf (cond b leaf.BareKey leaf.Basic))
string_kind true = refl
string_kind false = refl

in_profile : (profile : Profile) (l : Leaf) (text : List ℕ) → IsLeaf Strict l text → IsLeaf profile l text
in_profile Strict l text h = h
in_profile Wide l text h = leaf_wider l text h

pub key_text : (profile : Profile) (k : List ℕ) → IsUtf8 k → IsKeyText profile k
key_text profile k utf8 = record {
  valid = (
    key_kind (is_bare_text k),
    in_profile profile (encoded_key_leaf k) (encoded_key k) (key_is_leaf k (text_bytes k utf8)),
  );
  means = sym (means_value (encoded_key_leaf k) (encoded_key k) k (string_kind (is_bare_text k))
      (means_wider (encoded_key_leaf k) (encoded_key k) k (key_means k (text_bytes k utf8))));
}

pub key_texts : (profile : Profile) (ks : List (List ℕ)) → AllByRecursion IsUtf8 ks → AllOf (IsKeyText profile) ks
key_texts profile [] h = tt
key_texts profile (k ∷ ks) h = (key_text profile k h.0, key_texts profile ks h.1)

-- A key that is bare does not begin with a quotation mark, and otherwise what is written means the key.
pub one_key : (a b : List ℕ) → IsUtf8 a → IsUtf8 b → encoded_key a ≡ encoded_key b → a ≡ b
one_key a b utf8 utf8_b same =
    by (is_bare_text a) (is_bare_text b) refl refl (key_text Wide a utf8).means (key_text Wide b utf8_b).means same
  where
    quoted : (k t : List ℕ) → is_bare_text k ≡ true → k ≡ encoded_string t → ⊥
    quoted k t bare is = let no : is_bare_text (encoded_string t) ≡ true = sym (ap is_bare_text is) ∙ bare in absurd cc

    by : (x y : Bool) → is_bare_text a ≡ x → is_bare_text b ≡ y
        → string_value (cond x leaf.BareKey leaf.Basic) (cond x a (encoded_string a)) ≡ a
        → string_value (cond y leaf.BareKey leaf.Basic) (cond y b (encoded_string b)) ≡ b
        → cond x a (encoded_string a) ≡ cond y b (encoded_string b) → a ≡ b
    by true true e k means means_b same = same
    by false false e k means means_b same = sym means ∙ ap (string_value leaf.Basic) same ∙ means_b
    by true false e k means means_b same = absurd (quoted a b e same)
    by false true e k means means_b same = absurd (quoted b a k (sym same))
