-- Inserts of a list that add lines: each is known by the first document alone, as long as the first new keys of all
-- have other paths.
use Rattle.std.specs.Prelude.{◌≡◌, ◌≢◌, ◌⊎◌, ℕ, ◌<◌, ◌≤◌, suc, List, ◌∷◌, ◌++◌, length, map, take}
use Rattle.std.specs.Prelude.{Some, None, IsUtf8}
use Rattle.std.specs.List.{AllByRecursion}
use Rattle.keep_types.specs.declared.leaf.Profile.{Profile}
use Rattle.keep_types.specs.declared.leaf.Profile.TheVariants.{Wide}
use Rattle.keep_syntax.specs.Tree.{Value, Document, value_depth}
use Rattle.keep_path.specs.Path.{Part, key}
use Rattle.keep_meaning.specs.Meaning.{mentions_in}
use Rattle.keep_edit_spec.specs.Edits.{edited_document, end_of, insert, place}
use Rattle.keep_edit_spec.specs.Insertion.{put_in}
use Rattle.keep_edit_spec.specs.Laws.{IsEditable, IsGivenValue}
use Rattle.keep_edit_spec.specs.Look.{holder, keys_in}
use Rattle.keep_edit_spec.specs.Refusals.{refusal}
use Rattle.keep_edit_spec.specs.TextChanges.{TextChange, moved}

-- the path of the first new key of an insert: one step longer than what is there of its path
abbrev pub first_new : Document → List Part → List Part
first_new s path = take (suc (length (holder path (mentions_in s)))) path

-- An insert of one key or of several, which is not refused, into the root, a table or an element that is defined. The
-- line before is ended by a newline, so it adds this line. If no line is before, the value is a scalar: so the first
-- newline of the document stays.
pub record AddsLine (profile : Profile) (limit : ℕ) (s : Document) (path : List Part) (value : Value)
    (c : TextChange) : Type 0 where
  pub utf8 : AllByRecursion IsUtf8 (keys_in path)
  pub given : IsGivenValue Wide value
  pub allowed : refusal profile limit s (insert path value) ≡ None
  pub text : List ℕ
  pub more : List (List ℕ)
  pub new : path ≡ holder path (mentions_in s) ++ map key (text ∷ more)
  pub number : ℕ
  pub ends : end_of s (holder path (mentions_in s)) ≡ Some number
  pub closed : number ≤ length s.ended
  pub newline : (0 < number) ⊎ (value_depth value ≡ 0)
  pub adds : c.size ≡ 0
  pub is : place s (insert path value) ≡ put_in c.at c.new

-- It adds its line in another document, too, and its first new key is the same there.
abbrev pub AddsLineStill : Profile → ℕ → Document → Document → List Part → Value → TextChange → Type 0
AddsLineStill profile limit s now path value c =
    AddsLine profile limit now path value c × (first_new now path ≡ first_new s path)

-- An insert that adds a line adds the same one after another insert, of another first new key, added its line.
abbrev pub StillAddsLine : Type 0
StillAddsLine =
    (profile : Profile) (limit : ℕ) (s : Document) (path : List Part) (value : Value) (c : TextChange)
    (other : List Part) (more : Value) (d : TextChange)
    → IsEditable profile limit s → AddsLine profile limit s path value c → AddsLine profile limit s other more d
    → first_new s path ≢ first_new s other
    → AddsLineStill profile limit s (edited_document s (insert path value)) other more (moved c d)
