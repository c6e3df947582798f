-- Lists of edits that are made at once, where a key that one of them renames is renamed again: it is renamed once, by
-- the later edit, from its first path.
use Rattle.std.specs.Prelude.{◌≡◌, ◌≢◌, ◌⊎◌, ℕ, ◌<◌, List, [], ◌∷◌, length, All, IsUtf8}
use Rattle.keep_types.specs.declared.leaf.Profile.{Profile}
use Rattle.keep_token.specs.Encoded.{encoded_key}
use Rattle.keep_syntax.specs.Tree as tree
use Rattle.keep_syntax.specs.Tree.{Document}
use Rattle.keep_path.specs.Path.{Part, beside}
use Rattle.keep_edit_spec.specs.Edits.{Edit, append_element, append_table, edited_document, insert, remove, rename, set}
use Rattle.keep_edit_spec.specs.Laws.{IsEditable}
use Rattle.keep_edit_spec.specs.RenamedKeys.{ArePathsApart, RenamesKey}
use Rattle.keep_edit_spec.specs.RunLists.{AreAtOnce, IsOneOf, MadeEdit, changes_of, document_after, made, seen_of}
use Rattle.keep_edit_spec.specs.Runs.{IsNoStep, PassesBy}
use Rattle.keep_edit_spec.specs.TextChanges.{TextChange, change_at, moved_by_all, text_with, with_change}

-- the edit renames the key of that path
abbrev pub IsRenameOf : List Part → Edit → Type 0
IsRenameOf path e = (text : List ℕ) × (e ≡ rename path text)

-- one of them does
abbrev pub IsRenameIn : List Part → List MadeEdit → Type 0
IsRenameIn path [] = ⊥
IsRenameIn path (m ∷ ms) = IsRenameOf path m.edit ⊎ IsRenameIn path ms

-- An edit that leaves a rename of that path alone, or is left alone by it, leaves alone a rename to this key, too: the
-- key is no step of its path, or of its new path; and no header of its keys is that of the key's new path, or below it.
-- Of another rename its path is not above that path.
abbrev pub AllowsKey : List Part → List ℕ → Edit → Type 0
AllowsKey path name (insert other value) = IsNoStep name other
AllowsKey path name (remove other) = IsNoStep name other
AllowsKey path name (set other value) = IsNoStep name other
AllowsKey path name (rename other more) = (other ≡ path) ⊎ ArePathsApart other more path name
AllowsKey path name (append_table keys) = PassesBy keys (beside path name)
AllowsKey path name (append_element keys) = PassesBy keys (beside path name)

-- After these edits, one of which renames the key of that path, with the change c, the key is renamed again. If it gets
-- another key, that makes its change where the first rename has made its own. And the others with the rename of the
-- first path to the last key, in the place of the first rename, are at once and make the same document.
pub record IsRunRenamedAgain (profile : Profile) (limit : ℕ) (s : Document) (ms : List MadeEdit) (path : List Part)
    (more : List ℕ) (d : TextChange) : Type 0 where
  pub rest : List MadeEdit
  pub text : List ℕ
  pub c : TextChange
  pub one : IsOneOf (made (rename path text) c) ms rest
  pub changes : changes_of ms ≡ with_change (changes_of rest) c
  pub at : c.at ≡ d.at
  pub size : c.size ≡ d.size
  pub some : 0 < c.size
  pub utf8 : IsUtf8 text
  pub wrote : c.new ≡ encoded_key text
  pub renames : text ≢ more → RenamesKey profile limit (document_after s ms) (beside path text) more
      (change_at (moved_by_all (changes_of rest) d.at) (length c.new) d.new)
  pub same : text ≢ more → edited_document (document_after s ms) (rename (beside path text) more)
      ≡ document_after s (made (rename path more) d ∷ rest)
  pub still : AreAtOnce profile limit s (made (rename path more) d ∷ rest)
  pub spelled : tree.text (document_after s (made (rename path more) d ∷ rest))
      ≡ text_with 0 (tree.text s) (with_change (changes_of rest) d)

-- Each of the edits allows the key that the path is renamed to in the end.
abbrev pub RunGoesOnRenamed : Type 0
RunGoesOnRenamed =
    (profile : Profile) (limit : ℕ) (s : Document) (ms : List MadeEdit) (path : List Part) (more : List ℕ)
    (d : TextChange)
    → IsEditable profile limit s → AreAtOnce profile limit s ms → IsRenameIn path ms
    → All (AllowsKey path more) (seen_of s ms) → RenamesKey profile limit s path more d
    → IsRunRenamedAgain profile limit s ms path more d
