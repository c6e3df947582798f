-- An insert of one key or of several after the holder of its path: no path of an item, and nothing is said of the path
-- of the first key.
--
-- Theorems: `no_item`, `rest`, `unsaid`.
use Rattle.std.proofs.Common.{◌≡◌, ℕ, false, List, [], ◌∷◌, ◌++◌, length, map, drop, refl, sym, ap, ◌∙◌, None}
use Rattle.std.specs.List.{list_any}
use Rattle.keep_types.specs.declared.leaf.Profile.{Profile}
use Rattle.keep_syntax.specs.Tree.{Value, Document}
use Rattle.keep_path.specs.Path.{EndsInKey, Part, key, last_part}
use Rattle.keep_meaning.specs.Meaning.{mentions_in}
use Rattle.keep_meaning.specs.Nodes.{is_at}
use Rattle.keep_edit_spec.specs.Edits.{insert}
use Rattle.keep_edit_spec.specs.Look.{holder, item_number}
use Rattle.keep_edit_spec.specs.Refusals.{refusal}
use Rattle.keep_edit_spec.proofs.Insert.NewPath.{IsNewPath, drop_prefix_parts, ends_in_key, new_path}

module _ (profile : Profile) (limit : ℕ) (s : Document) (path : List Part) (text : List ℕ) (more : List (List ℕ))
    (value : Value) (allowed : refusal profile limit s (insert path value) ≡ None)
    (new : path ≡ holder path (mentions_in s) ++ map key (text ∷ more)) where
  abbrev a : List Part
  a = holder path (mentions_in s)

  pub no_item : item_number path (mentions_in s) ≡ None
  no_item =
      let last : EndsInKey (a ++ map key (text ∷ more)) = ends_in_key a text more in
      rw (ap last_part new ∙ last.1, item_number) refl

  pub rest : drop (length a) path ≡ map key (text ∷ more)
  rest = ap (drop (length a)) new ∙ drop_prefix_parts a (map key (text ∷ more))

  pub unsaid : list_any (is_at (a ++ key text ∷ [])) (mentions_in s) ≡ false
  unsaid =
      let is_new : IsNewPath path (mentions_in s) = new_path profile limit (mentions_in s) path value no_item allowed in
      let first : key text ∷ map key more ≡ key is_new.first ∷ map key is_new.more = sym rest ∙ is_new.rest in
      let same : text ≡ is_new.first = cc in
      ap (λ (t : List ℕ). list_any (is_at (a ++ key t ∷ [])) (mentions_in s)) same ∙ is_new.fresh
