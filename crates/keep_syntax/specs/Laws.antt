-- What holds of every document and every value, whatever is read.
use Rattle.std.specs.Prelude.{◌≡◌, ℕ, ◌+◌, ◌<◌, ◌≤◌, ◌↔◌, true, List, [], ◌∷◌, length, slice_range}
use Rattle.std.specs.List.{flat_map}
use Rattle.keep_types.specs.declared.leaf.Profile.{Profile}
use Rattle.keep_types.specs.declared.leaf.Profile.TheVariants.{Strict, Wide}
use Rattle.keep_types.specs.declared.leaf.Leaf.TheVariants as leaf
use Rattle.keep_types.specs.declared.syntax.Span.{Span}
use Rattle.keep_syntax.specs.Tree.{Document, Value, text, value_text, depth}
use Rattle.keep_syntax.specs.Grammar.{IsDocument, IsValue, Reads, ReadsValue}
use Rattle.keep_syntax.specs.Numbered.{Placed, tokens}
use Rattle.keep_syntax.specs.Deep.{IsTooDeep, IsValueTooDeep}
use Rattle.keep_syntax.specs.Profiles.{is_allowed_in}
use Rattle.keep_syntax.specs.WholeLines.{replaced}
use Rattle.keep_syntax.specs.Contract.{CanReplace, put_at}

-- At most one document has a given text.
abbrev pub OneDocument : Type 0
OneDocument =
    (profile : Profile) (d e : Document) → IsDocument profile d → IsDocument profile e → text d ≡ text e → d ≡ e

-- At most one value has a given text.
abbrev pub OneValue : Type 0
OneValue =
    (profile : Profile) (v w : Value) → IsValue profile v → IsValue profile w → value_text v ≡ value_text w → v ≡ w

-- At most one bracket of a text is too deep.
abbrev pub OneTooDeep : Type 0
OneTooDeep =
    (profile : Profile) (limit : ℕ) (bytes : List ℕ) (at also : ℕ)
    → IsTooDeep profile limit bytes at → IsTooDeep profile limit bytes also → at ≡ also

abbrev pub OneTooDeepValue : Type 0
OneTooDeepValue =
    (profile : Profile) (limit : ℕ) (bytes : List ℕ) (at also : ℕ)
    → IsValueTooDeep profile limit bytes at → IsValueTooDeep profile limit bytes also → at ≡ also

-- What Strict accepts Wide accepts, with the same tree.
abbrev pub WideReadsStrict : Type 0
WideReadsStrict = (limit : ℕ) (bytes : List ℕ) (d : Document) → Reads Strict limit bytes d → Reads Wide limit bytes d

abbrev pub WideReadsStrictValue : Type 0
WideReadsStrictValue =
    (limit : ℕ) (bytes : List ℕ) (v : Value) → ReadsValue Strict limit bytes v → ReadsValue Wide limit bytes v

-- Of the values of Wide's grammar, the test takes those of the profile's grammar and no other.
abbrev pub ProfileIsTested : Type 0
ProfileIsTested =
    (profile : Profile) (v : Value) → IsValue Wide v → (is_allowed_in profile v ≡ true) ↔ IsValue profile v

-- The texts of a document's tokens joined are its text.
abbrev pub TokensJoin : Type 0
TokensJoin = (d : Document) → flat_map (λ (t : Placed). t.text) (tokens d) ≡ text d

-- From this place on each byte of the text is in one token, each token has a byte, and End alone is empty and last.
abbrev pub ArePartition : List ℕ → ℕ → List Placed → Type 0
ArePartition bytes at [] = ⊥
ArePartition bytes at (t ∷ []) = (t.leaf ≡ leaf.End) × (t.at ≡ at) × (t.text ≡ []) × (at ≡ length bytes)
ArePartition bytes at (t ∷ u ∷ more) =
    (t.at ≡ at) × (0 < length t.text) × (t.text ≡ slice_range bytes at (at + length t.text))
    × ArePartition bytes (at + length t.text) (u ∷ more)

abbrev pub TokensPartition : Type 0
TokensPartition = (profile : Profile) (d : Document) → IsDocument profile d → ArePartition (text d) 0 (tokens d)

-- A text of so many bytes has at most one token more.
abbrev pub TokensAreFew : Type 0
TokensAreFew =
    (profile : Profile) (limit : ℕ) (bytes : List ℕ) (d : Document) → Reads profile limit bytes d
    → length (tokens d) ≤ length bytes + 1

-- There are texts of any length with as many.
abbrev pub TokensReachBound : Type 0
TokensReachBound = (n : ℕ) → (d : Document) × IsDocument Strict d × (length (text d) ≡ n) × (length (tokens d) ≡ n + 1)

-- A document with lines replaced has the text with these bytes replaced; it is one of the grammar, within the limit if
-- the old one is.
abbrev pub LinesAreReplaced : Type 0
LinesAreReplaced =
    (profile : Profile) (limit : ℕ) (d : Document) (whole : Span) (lines : List ℕ) (m : Document)
    → CanReplace profile limit d whole lines m → depth d ≤ limit
    → Reads profile limit (put_at whole lines (text d)) (replaced d whole m)
