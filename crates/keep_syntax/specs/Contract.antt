-- What the public functions ensure: which document, or which value, was read of a text, and what a fault means.
use Rattle.std.specs.Prelude.{◌≡◌, ℕ, ◌+◌, ◌≤◌, ◌⊎◌, false, List, ◌++◌, length, take, drop, None, ⊤, IsCharBoundary}
use Rattle.keep_types.specs.declared.leaf.Profile.{Profile}
use Rattle.keep_syntax.specs.declared.fault.ReadFault.{ReadFault}
use Rattle.keep_syntax.specs.declared.fault.ReadFault.TheVariants as faults
use Rattle.keep_types.specs.declared.syntax.Statement.{Statement}
use Rattle.keep_types.specs.declared.syntax.KeyPart.{KeyPart}
use Rattle.keep_types.specs.declared.syntax.ValueInfo.{ValueInfo}
use Rattle.keep_types.specs.declared.syntax.Span.{Span}
use Rattle.keep_types.specs.declared.syntax.Start.{Start}
use Rattle.keep_types.specs.declared.syntax.Owner.TheVariants as owner
use Rattle.keep_syntax.specs.declared.info.Token.{Token}
use Rattle.keep_syntax.specs.declared.syntax.Syntax.{Syntax}
use Rattle.keep_syntax.specs.declared.alone.ValueSyntax.{ValueSyntax}
use Rattle.keep_syntax.specs.declared.tokens.Tokens.{Tokens}
use Rattle.keep_syntax.specs.Tree.{Value, Document, text, value_depth}
use Rattle.keep_syntax.specs.Grammar.{IsDocument, Reads, ReadsValue}
use Rattle.keep_syntax.specs.Numbered.{Placed, tokens, statements, parts, values, nested_start, entries_parts}
use Rattle.keep_syntax.specs.Numbered.{value_values}
use Rattle.keep_syntax.specs.Deep.{IsTooDeep, IsValueTooDeep, IsNoDocument, IsNoValue}
use Rattle.keep_syntax_store.specs.Flat.{flat}
use Rattle.keep_syntax.specs.Cut.{start_in, cut_by}
use Rattle.keep_syntax.specs.FlatLines.{flat_of}
use Rattle.keep_syntax.specs.WholeLines.{empty_line, begin, starts_of, touched}

-- ---- what a syntax holds

-- the tokens that it gives of a text, End the last
abbrev pub tokens_of : Syntax → List ℕ → List Placed
tokens_of s bytes = cut_by (flat s.parts) bytes

abbrev pub statements_of : Syntax → List Statement
statements_of s = (flat s.parts).statements

abbrev pub parts_of : Syntax → List KeyPart
parts_of s = (flat s.parts).keys

abbrev pub values_of : Syntax → List ValueInfo
values_of s = (flat s.parts).values

-- Its tokens, statements, key parts and values are those of the document, each in text order. `stored` says of all
-- vectors together that they have what the document has and no more. It also has where the lines begin and the length
-- of the text.
pub record IsSyntaxOf (s : Syntax) (d : Document) : Type 0 where
  pub tokens : tokens_of s (text d) ≡ tokens d
  pub statements : statements_of s ≡ statements d
  pub parts : parts_of s ≡ parts d
  pub values : values_of s ≡ values d
  pub stored : flat s.parts ≡ flat_of d
  pub lines : s.lines ≡ starts_of d
  pub len : s.len ≡ length (text d)

-- It was read of this text: a document within the limit has the text, and these are its tokens, statements, key parts
-- and values.
abbrev pub IsReadOf : Profile → ℕ → List ℕ → Syntax → Type 0
IsReadOf profile limit bytes s = (d : Document) × Reads profile limit bytes d × IsSyntaxOf s d

-- Its parts are those of this text: each token begins at the start of a character, and none after the next.
pub record IsTextOf (s : Syntax) (bytes : List ℕ) : Type 0 where
  pub document : Document
  pub spelled : bytes ≡ text document
  pub is : IsSyntaxOf s document
  pub cuts : (n : ℕ) → IsCharBoundary bytes (start_in bytes (flat s.parts).starts n)
  pub forward : (n : ℕ) → start_in bytes (flat s.parts).starts n ≤ start_in bytes (flat s.parts).starts (n + 1)

-- The span lies in the text that was read, after its byte order mark.
pub record IsSpanIn (s : Syntax) (sp : Span) : Type 0 where
  pub document : Document
  pub is : IsSyntaxOf s document
  pub low : begin document ≤ sp.start
  pub order : sp.start ≤ sp.end
  pub within : sp.end ≤ length (text document)

-- Lines can be replaced: `whole` is whole lines of d, which are those that some span touches. The document m has the
-- text of the new lines, within the limit and with no byte order mark. It ends with a newline, so that its last line is
-- empty, unless `whole` ends with the text.
pub record CanReplace (profile : Profile) (limit : ℕ) (d : Document) (whole : Span) (lines : List ℕ) (m : Document)
    : Type 0 where
  pub valid : IsDocument profile d
  pub span : Span
  pub low : begin d ≤ span.start
  pub order : span.start ≤ span.end
  pub within : span.end ≤ length (text d)
  pub whole_is : touched d span ≡ whole
  pub reads : Reads profile limit lines m
  pub bom : m.bom ≡ false
  pub closed : (m.last ≡ empty_line) ⊎ (whole.end ≡ length (text d))

-- This is the syntax of a document with these lines, and the new ones are those of some document.
pub record MayReread (profile : Profile) (limit : ℕ) (s : Syntax) (whole : Span) (lines : List ℕ) : Type 0 where
  pub document : Document
  pub is : IsSyntaxOf s document
  pub new : Document
  pub can : CanReplace profile limit document whole lines new

-- a text with the bytes of a span replaced
abbrev pub put_at : Span → List ℕ → List ℕ → List ℕ
put_at sp new bytes = take sp.start bytes ++ (new ++ drop sp.end bytes)

-- ---- one value

abbrev pub value_parts_of : ValueSyntax → List KeyPart
value_parts_of s = (flat s.parts).keys

abbrev pub value_values_of : ValueSyntax → List ValueInfo
value_values_of s = (flat s.parts).values

-- A value alone begins its text, and is stored as that of a keyval with no key.
abbrev pub alone : Start
alone = record { at = 0; values = 0; parts = 0; owner = owner.Line 0; depth = 0; comma = None }

abbrev pub parts_alone : Value → List KeyPart
parts_alone v = entries_parts (nested_start 0 v.body) v.nested

abbrev pub values_alone : Value → List ValueInfo
values_alone v = value_values alone 0 0 v

-- Its key parts and values are those of the value, each in text order, and its depth is the value's.
pub record IsValueSyntaxOf (s : ValueSyntax) (v : Value) : Type 0 where
  pub parts : value_parts_of s ≡ parts_alone v
  pub values : value_values_of s ≡ values_alone v
  pub depth : s.depth ≡ value_depth v

-- It was read of this text: a value within the limit has the text, and these are its key parts and values.
abbrev pub IsReadAlone : Profile → ℕ → List ℕ → ValueSyntax → Type 0
IsReadAlone profile limit bytes s = (v : Value) × ReadsValue profile limit bytes v × IsValueSyntaxOf s v

-- ---- faults

-- `Syntax` only where no document of any depth has the text, and no bracket of it is too deep. `TooDeep` only where no
-- document within the limit has it, and up to the bracket at that place, the first where so many are open, a deeper
-- document could begin so.
abbrev pub IsFaultOf : Profile → ℕ → List ℕ → ReadFault → Type 0
IsFaultOf profile limit bytes faults.Memory = ⊤
IsFaultOf profile limit bytes (faults.Syntax at what) = IsNoDocument profile limit bytes
IsFaultOf profile limit bytes (faults.TooDeep at) = IsTooDeep profile limit bytes at
IsFaultOf profile limit bytes _ = ⊥

-- What a fault says of the text of one value.
abbrev pub IsValueFaultOf : Profile → ℕ → List ℕ → ReadFault → Type 0
IsValueFaultOf profile limit bytes faults.Memory = ⊤
IsValueFaultOf profile limit bytes (faults.Syntax at what) = IsNoValue profile limit bytes
IsValueFaultOf profile limit bytes (faults.TooDeep at) = IsValueTooDeep profile limit bytes at
IsValueFaultOf profile limit bytes _ = ⊥

-- ---- the iterator over tokens

abbrev pub placed_token : Token → Placed
placed_token t = record { leaf = t.leaf; at = t.at; text = t.text.now }

-- the tokens that it has not given yet
abbrev pub left : Tokens → List Placed
left t = drop t.next (cut_by (flat t.parts.now) t.text.now)
