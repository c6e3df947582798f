-- An insert of one key or of several at the end of a body: what its path and its new keys are.
--
-- The path continues from its holder by the new keys (NewKeys), which mean themselves where they are written. Nothing
-- is said of the path of the first one.
--
-- Theorems: `rest`, `texts`, `means`, `end`, `unsaid`; `first_is`, `path_goes_on`: the path of the first new key.
use Rattle.std.proofs.Common.{◌≡◌, ℕ, suc, false, List, [], ◌∷◌, ◌++◌, length, map, take, drop, refl, sym, ap}
use Rattle.std.proofs.Common.{◌∙◌, append_assoc, Some, None}
use Rattle.std.specs.Prelude.{IsUtf8}
use Rattle.std.specs.List.{AllByRecursion, list_any}
use Rattle.keep_types.specs.declared.leaf.Profile.{Profile}
use Rattle.keep_syntax.specs.Tree.{Value, Document}
use Rattle.keep_path.specs.Path.{Part, key}
use Rattle.keep_meaning.specs.Meaning.{keys_of, mentions_in}
use Rattle.keep_meaning.specs.Nodes.{is_at}
use Rattle.keep_edit_spec.specs.AddedLines.{first_new}
use Rattle.keep_edit_spec.specs.Edits.{end_of, insert, name_with}
use Rattle.keep_edit_spec.specs.Look.{holder, item_number, keys_in}
use Rattle.keep_edit_spec.specs.Refusals.{refusal}
use Rattle.keep_edit_spec.proofs.Common.BodyEnd.{IsBodyEnd, end_is}
use Rattle.keep_edit_spec.proofs.Common.NewLines.{IsKeyText, key_means}
use Rattle.keep_edit_spec.proofs.Common.Runs.{AllOf}
use Rattle.keep_edit_spec.proofs.Insert.InsertLine.{later_keys}
use Rattle.keep_edit_spec.proofs.Insert.NewKeys as keys
use Rattle.keep_edit_spec.proofs.Rename.KeyTexts.{key_texts}

take_next : (a b : List Part) (p : Part) → take (suc (length a)) (a ++ p ∷ b) ≡ a ++ p ∷ []
take_next [] [] p = refl
take_next [] (q ∷ b) p = refl
take_next (x ∷ a) b p = ap (λ (l : List Part). x ∷ l) (take_next a b p)

module _ (s : Document) (path : List Part) (text : List ℕ) (more : List (List ℕ))
    (new : path ≡ holder path (mentions_in s) ++ map key (text ∷ more)) where
  pub first_is : first_new s path ≡ holder path (mentions_in s) ++ key text ∷ []
  first_is =
      ap (take (suc (length (holder path (mentions_in s))))) new
      ∙ take_next (holder path (mentions_in s)) (map key more) (key text)

  pub path_goes_on : path ≡ first_new s path ++ map key more
  path_goes_on =
      new ∙ sym (append_assoc (holder path (mentions_in s)) (key text ∷ []) (map key more))
      ∙ ap (λ (p : List Part). p ++ map key more) (sym first_is)

module _ (profile : Profile) (limit : ℕ) (s : Document) (path : List Part) (text : List ℕ) (more : List (List ℕ))
    (value : Value) (n : ℕ) (utf8 : AllByRecursion IsUtf8 (keys_in path))
    (allowed : refusal profile limit s (insert path value) ≡ None)
    (new : path ≡ holder path (mentions_in s) ++ map key (text ∷ more))
    (ends : end_of s (holder path (mentions_in s)) ≡ Some n) where
  abbrev a : List Part
  a = holder path (mentions_in s)

  pub no_item : item_number path (mentions_in s) ≡ None
  no_item = keys.no_item profile limit s path text more value allowed new

  pub rest : drop (length a) path ≡ map key (text ∷ more)
  rest = keys.rest profile limit s path text more value allowed new

  pub texts : AllOf (IsKeyText profile) (text ∷ more)
  texts = later_keys profile a path (text ∷ more) new (key_texts profile (keys_in path) utf8)

  pub means : keys_of (name_with (text ∷ more)).key ≡ text ∷ more
  means = key_means profile text more texts

  pub end : IsBodyEnd s a n
  end = end_is s a n ends

  pub unsaid : list_any (is_at (a ++ key text ∷ [])) (mentions_in s) ≡ false
  unsaid = keys.unsaid profile limit s path text more value allowed new
