-- A node's path as it is written: the text of its parent's path, and the node's own step after it.
--
-- Theorems: `encoded_more`: the text of any path with one step more; `key_added` and `index_added`: a text that ends in
-- the parent's path ends in the node's once the step is added, which is a key or an index.
use Rattle.std.proofs.Common.{◌≡◌, ◌≢◌, ℕ, ◌+◌, ◌<◌, List, [], ◌∷◌, ◌++◌, length, length-append, refl, sym, ◌∙◌, ap}
use Rattle.std.proofs.Common.{append_assoc, append-nil, inl, inr}
use Rattle.std.specs.Prelude.{◌==◌, if◌then◌else◌}
use Rattle.std.specs.List.{flat_map}
use Rattle.std.proofs.lemmas.Bool.Decides.{eqb_tells}
use Rattle.std.proofs.lemmas.Grind.{flat_map-append}
use Rattle.keep_token.specs.Encoded.{encoded_key}
use Rattle.keep_path.specs.Path.{Part, key, index}
use Rattle.keep_path.specs.PathText.{encoded_path, first_text, part_text, index_text}
use Rattle.keep_index_store.specs.Trie.{TrieNode, IsTrie, parent_at, part_at, path_at}
use Rattle.keep_rules.proofs.ClimbLemmas.{root_alone, step_last}
use Rattle.keep_index_store.proofs.Shared.{path_at-root}

-- a step as it is written after a path
abbrev pub step_text : List Part → Part → List ℕ
step_text [] part = first_text part
step_text (p ∷ ps) part = part_text part

step_after : (path : List Part) (part : Part) → path ≢ [] → step_text path part ≡ part_text part
step_after [] part some = absurd (some refl)
step_after (p ∷ ps) part some = refl

step_of_index : (path : List Part) (n : ℕ) → step_text path (index n) ≡ index_text n
step_of_index [] n = refl
step_of_index (p ∷ ps) n = refl

pub encoded_more : (path : List Part) (part : Part)
    → encoded_path (path ++ part ∷ []) ≡ encoded_path path ++ step_text path part
encoded_more [] part = append-nil (first_text part)
encoded_more (p ∷ ps) part =
    ap (λ t. first_text p ++ t) (flat_map-append part_text ps (part ∷ [])
    ∙ ap (λ t. flat_map part_text ps ++ t) (append-nil (part_text part)))
    ∙ sym (append_assoc (first_text p) (flat_map part_text ps) (part_text part))

-- a step is added to a text that ends in the path before it
added : (before old new : List ℕ) (path longer : List Part) (part : Part) (text : List ℕ) → path ++ part ∷ [] ≡ longer
    → step_text path part ≡ text
    → old ≡ before ++ encoded_path path → new ≡ old ++ text → new ≡ before ++ encoded_path longer
added before old new path longer part text is seen o n =
    n ∙ ap (λ t. t ++ text) o
    ∙ append_assoc before (encoded_path path) text
    ∙ ap (λ t. before ++ (encoded_path path ++ t)) (sym seen)
    ∙ ap (λ t. before ++ t) (sym (encoded_more path part))
    ∙ ap (λ p. before ++ encoded_path p) is

module _ (nodes : List TrieNode) (trie : IsTrie nodes) (id : ℕ) (later : 0 < id) (within : id < length nodes) where
  above : List Part
  above = path_at nodes (parent_at nodes id)

  key_seen : (up : ℕ) (text : List ℕ) → up ≡ parent_at nodes id
      → step_text above (key text) ≡ (if up == 0 then encoded_key text else 0x2E ∷ encoded_key text)
  unfolding above
  key_seen up text is = elim (eqb_tells up 0) [
    | inl same ↦
        let empty : path_at nodes (parent_at nodes id) ≡ [] =
        ap (path_at nodes) (sym is ∙ same.1) ∙ path_at-root nodes in
        ap (λ (p : List Part). step_text p (key text)) empty
        ∙ ap (λ b. if b then encoded_key text else 0x2E ∷ encoded_key text) (sym same.0)
    | inr other ↦
        step_after (path_at nodes (parent_at nodes id)) (key text)
        (λ bare. other.1 (is ∙ root_alone nodes trie id later within bare))
        ∙ ap (λ b. if b then encoded_key text else 0x2E ∷ encoded_key text) (sym other.0)
  ]

  -- the step is a key
  pub key_added : (up : ℕ) (text before old new : List ℕ) → up ≡ parent_at nodes id → part_at nodes id ≡ key text
      → old ≡ before ++ encoded_path (path_at nodes (parent_at nodes id))
      → new ≡ old ++ (if up == 0 then encoded_key text else 0x2E ∷ encoded_key text)
      → new ≡ before ++ encoded_path (path_at nodes id)
  unfolding above
  key_added up text before old new is part o n =
      added before old new (path_at nodes (parent_at nodes id)) (path_at nodes id) (key text) _
      (step_last nodes trie id later within (path_at nodes (parent_at nodes id)) (key text) part refl)
      (key_seen up text is) o n

  -- the step is an index
  pub index_added : (number : ℕ) (before old new : List ℕ) → part_at nodes id ≡ index number
      → old ≡ before ++ encoded_path (path_at nodes (parent_at nodes id)) → new ≡ old ++ index_text number
      → new ≡ before ++ encoded_path (path_at nodes id)
  index_added number before old new part o n =
      added before old new (path_at nodes (parent_at nodes id)) (path_at nodes id) (index number) (index_text number)
      (step_last nodes trie id later within (path_at nodes (parent_at nodes id)) (index number) part refl)
      (step_of_index (path_at nodes (parent_at nodes id)) number) o n

  -- how long the text is then
  pub key_size : (up : ℕ) (text before old : List ℕ) → up ≡ parent_at nodes id → part_at nodes id ≡ key text
      → old ≡ before ++ encoded_path (path_at nodes (parent_at nodes id))
      → length old + length (if up == 0 then encoded_key text else 0x2E ∷ encoded_key text) ≡ length before
      + length (encoded_path (path_at nodes id))
  key_size up text before old is part o =
      let step : List ℕ = if up == 0 then encoded_key text else 0x2E ∷ encoded_key text in
      sym (length-append old step)
      ∙ (ap length (key_added up text before old (old ++ step) is part o refl)
      ∙ length-append before (encoded_path (path_at nodes id)))

  pub index_size : (number : ℕ) (before old : List ℕ) → part_at nodes id ≡ index number
      → old ≡ before ++ encoded_path (path_at nodes (parent_at nodes id))
      → length old + length (index_text number) ≡ length before + length (encoded_path (path_at nodes id))
  index_size number before old part o =
      sym (length-append old (index_text number))
      ∙ (ap length (index_added number before old (old ++ index_text number) part o refl)
      ∙ length-append before (encoded_path (path_at nodes id)))
