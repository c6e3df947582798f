-- The edit that an operation makes of its words; or the first of them, from the left, that can't be read.
use Rattle.std.specs.Prelude.{◌≡◌, ◌⊎◌, ⊤, ℕ, List, [], ◌∷◌, length, map, take, Option, Some, None}
use Rattle.std.specs.Prelude.{String, string_bytes, Vec}
use Rattle.std.specs.Global.{Global}
use Rattle.keep_types.specs.declared.leaf.Profile.{Profile}
use Rattle.keep_path.specs.Path.{Part, key}
use Rattle.keep_path.specs.PathText.{AreKeys, FirstIndex, IsPathText, StopsAt}
use Rattle.keep_meaning.specs.ReadText as reading
use Rattle.keep_edit.specs.Headers.{key_texts}
use Rattle.keep_edit.specs.Reading.{limit, IsAcceptedValue}
use Rattle.keep_edit_plan.specs.declared.edit.Edit.{Edit}
use Rattle.keep_edit_plan.specs.declared.edit.Edit.TheVariants as edit
use Rattle.keep_args.specs.declared.subcommand.Op.{Op}
use Rattle.keep_args.specs.declared.subcommand.Op.TheVariants as op
use Rattle.keep_args.specs.declared.subcommand.Word.{Word}
use Rattle.keep_args.specs.declared.subcommand.Word.TheVariants as word
use Rattle.keep_args.specs.Table.{edit_words}
use Rattle.keep_cli.specs.declared.edit.WordFault.{WordFault}
use Rattle.keep_cli.specs.declared.edit.WordFault.TheVariants as fault

-- ---- one word

-- the word is a path's text
abbrev pub IsPath : List ℕ → Type 0
IsPath word = (path : List Part) × IsPathText word path

-- the word is the text of a path of these keys
abbrev pub IsKeysText : List ℕ → List (List ℕ) → Type 0
IsKeysText word keys = IsPathText word (map (λ text. key text) keys)

-- the word is a value's text by the profile, and this is it
abbrev pub IsGivenValue : Profile → List ℕ → List ℕ → Type 0
IsGivenValue profile word value = (value ≡ word) × IsAcceptedValue profile word

-- The word can be read as what it is. A key can be any text. (A script is no word of an edit.)
abbrev pub IsReadable : Profile → Word → List ℕ → Type 0
IsReadable profile word.Path text = IsPath text
IsReadable profile word.Keys text = (keys : List (List ℕ)) × IsKeysText text keys
IsReadable profile word.Value text = IsAcceptedValue profile text
IsReadable profile word.Key text = ⊤
IsReadable profile _ text = ⊥

-- it stops being a path's text there
abbrev pub IsPathFault : List ℕ → WordFault → Type 0
IsPathFault text (fault.Path at) = StopsAt text at
IsPathFault text _ = ⊥

-- it stops being a path's text there; or its first index is there
abbrev pub IsKeysFault : List ℕ → WordFault → Type 0
IsKeysFault text (fault.Path at) = StopsAt text at ⊎ FirstIndex text at
IsKeysFault text _ = ⊥

-- it is no value's text by the profile, and this is why
abbrev pub IsValueFault : Profile → List ℕ → WordFault → Type 0
IsValueFault profile text (fault.Value f) = reading.IsValueFault profile limit text f
IsValueFault profile text _ = ⊥

abbrev pub IsFaultOf : Profile → Word → List ℕ → WordFault → Type 0
IsFaultOf profile word.Path text f = IsPathFault text f
IsFaultOf profile word.Keys text f = IsKeysFault text f
IsFaultOf profile word.Value text f = IsValueFault profile text f
IsFaultOf profile _ text f = ⊥

-- the word can't be read as what it is, and this is why
abbrev pub IsUnreadable : Profile → Word → List ℕ → WordFault → Type 0
IsUnreadable profile w text f = (IsReadable profile w text → ⊥) × IsFaultOf profile w text f

-- ---- all words

-- the first word, from the left, that can't be read, and why
abbrev pub IsFirstUnreadable : Profile → List Word → List (List ℕ) → WordFault → Type 0
IsFirstUnreadable profile (w ∷ ws) (text ∷ texts) f =
    IsUnreadable profile w text f ⊎ (IsReadable profile w text × IsFirstUnreadable profile ws texts f)
IsFirstUnreadable profile _ _ f = ⊥

-- the operation makes this edit of its words, of which a value is read by the profile
abbrev pub Makes : Profile → Op → List (List ℕ) → Edit → Type 0
Makes profile op.Set (path ∷ value ∷ []) (edit.Set p v) = IsPathText path p × IsGivenValue profile value v
Makes profile op.Insert (path ∷ value ∷ []) (edit.Insert p v) = IsPathText path p × IsGivenValue profile value v
Makes profile op.Rename (path ∷ name ∷ []) (edit.Rename p k) = IsPathText path p × (string_bytes k ≡ name)
Makes profile op.Remove (path ∷ []) (edit.Remove p) = IsPathText path p
Makes profile op.Table (keys ∷ []) (edit.Table ks) = IsKeysText keys (key_texts ks.items)
Makes profile op.Element (keys ∷ []) (edit.Element ks) = IsKeysText keys (key_texts ks.items)
Makes profile _ _ _ = ⊥

-- it makes none, since this is the first word that can't be read
abbrev pub MakesNone : Profile → Op → List (List ℕ) → WordFault → Type 0
MakesNone profile o words f = IsFirstUnreadable profile (edit_words o) words f

-- ---- how they are read

-- the words of an operation: the first of these, or both
abbrev pub words_for : Op → List ℕ → List ℕ → List (List ℕ)
words_for o first second = take (length (edit_words o)) (first ∷ second ∷ [])

-- the text is this path's, and no other's
abbrev pub IsOnlyPath : List ℕ → List Part → Type 0
IsOnlyPath text path = IsPathText text path × ((other : List Part) → IsPathText text other → path ≡ other)

-- these are all steps of the path, or one of them is an index
abbrev pub IsKeysIn : List Part → Option (Vec (String Global) Global) → Type 0
IsKeysIn path None = AreKeys path → ⊥
IsKeysIn path (Some keys) = path ≡ map (λ text. key text) (key_texts keys.items)
