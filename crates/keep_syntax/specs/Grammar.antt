-- Which trees are documents, and which texts have one.
use Rattle.std.specs.Prelude.{◌≡◌, ℕ, ◌≤◌, Bool, true, false, not, IsTrue, List, [], ◌∷◌, Option, Some, None, ⊤}
use Rattle.std.specs.List.{AllByRecursion}
use Rattle.keep_types.specs.declared.leaf.Profile.{Profile}
use Rattle.keep_types.specs.declared.leaf.Profile.TheVariants.{Strict, Wide}
use Rattle.keep_types.specs.declared.leaf.Leaf.{Leaf}
use Rattle.keep_types.specs.declared.leaf.Leaf.TheVariants as leaf
use Rattle.keep_token.specs.Leaves.{IsLeaf, is_key_leaf, is_scalar_leaf, is_gap_leaf}
use Rattle.keep_syntax.specs.Tree.{Written, Gap, Further, Key, Name, Body, scalar, array, inline, Entries, none, entry}
use Rattle.keep_syntax.specs.Tree.{Value, Content, blank, keyval, header, element, Line, Ended, Document, text, depth}
use Rattle.keep_syntax.specs.Tree.{value_text, value_depth}

-- the text is one of the leaf's kind
abbrev pub IsWritten : Profile → Written → Type 0
IsWritten profile w = IsLeaf profile w.leaf w.text

-- [ ws ]
abbrev pub IsSpace : Gap → Type 0
IsSpace [] = ⊤
IsSpace (w ∷ []) = (w.leaf ≡ leaf.Ws) × IsLeaf Strict leaf.Ws w.text
IsSpace (w ∷ v ∷ more) = ⊥

abbrev pub is_ws_leaf : Leaf → Bool
is_ws_leaf leaf.Ws = true
is_ws_leaf _ = false

-- A run of white space is maximal, and a comment ends in a newline.
abbrev pub Continues : Leaf → Gap → Type 0
Continues leaf.Comment [] = ⊥
Continues leaf.Comment (v ∷ more) = v.leaf ≡ leaf.Newline
Continues leaf.Ws (v ∷ more) = IsTrue (not (is_ws_leaf v.leaf))
Continues _ _ = ⊤

-- *( wschar / [ comment ] newline )
abbrev pub IsBlank : Gap → Type 0
IsBlank [] = ⊤
IsBlank (w ∷ more) = IsTrue (is_gap_leaf w.leaf) × IsWritten Strict w × Continues w.leaf more × IsBlank more

-- simple-key
abbrev pub IsKeyPart : Profile → Written → Type 0
IsKeyPart profile w = IsTrue (is_key_leaf w.leaf) × IsWritten profile w

pub record IsFurther (profile : Profile) (f : Further) : Type 0 where
  pub before : IsSpace f.before
  pub after : IsSpace f.after
  pub part : IsKeyPart profile f.part

pub record IsKey (profile : Profile) (k : Key) : Type 0 where
  pub first : IsKeyPart profile k.first
  pub more : AllByRecursion (IsFurther profile) k.more

pub record IsName (profile : Profile) (n : Name) : Type 0 where
  pub key : IsKey profile n.key
  pub before : IsSpace n.before
  pub after : IsSpace n.after

-- what entries are in; a scalar has none
pub data Place : Type 0 where
  in_scalar : Place
  in_array : Place
  in_inline : Place

abbrev pub place_in : Body → Place
place_in (scalar w) = in_scalar
place_in (array first) = in_array
place_in (inline first) = in_inline

-- the gaps between the parts
abbrev pub IsGap : Profile → Place → Gap → Type 0
IsGap profile in_scalar g = ⊥
IsGap profile in_array g = IsBlank g
IsGap Strict in_inline g = IsSpace g
IsGap Wide in_inline g = IsBlank g

-- items have no name, keyvals have one
abbrev pub IsNamed : Profile → Place → Option Name → Type 0
IsNamed profile in_array None = ⊤
IsNamed profile in_inline (Some n) = IsName profile n
IsNamed profile _ _ = ⊥

abbrev pub IsBody : Profile → Body → Type 0
IsBody profile (scalar w) = IsTrue (is_scalar_leaf w.leaf) × IsWritten profile w
IsBody profile (array first) = IsGap profile in_array first
IsBody profile (inline first) = IsGap profile in_inline first

-- whether a comma may come after the last
abbrev pub MayEndInComma : Profile → Place → Type 0
MayEndInComma profile in_array = ⊤
MayEndInComma Wide in_inline = ⊤
MayEndInComma _ _ = ⊥

-- a comma between two
abbrev pub IsComma : Profile → Place → Option Gap → Entries → Type 0
IsComma profile place None none = ⊤
IsComma profile place None (entry name body nested after comma rest) = ⊥
IsComma profile place (Some after) none = IsGap profile place after × MayEndInComma profile place
IsComma profile place (Some next_gap) (entry name body nested after comma rest) = IsGap profile place next_gap

abbrev pub AreEntries : Profile → Place → Entries → Type 0
AreEntries profile place none = ⊤
AreEntries profile place (entry name body nested after comma rest) =
    IsNamed profile place name × IsBody profile body × AreEntries profile (place_in body) nested
    × IsGap profile place after × IsComma profile place comma rest × AreEntries profile place rest

pub record IsValue (profile : Profile) (v : Value) : Type 0 where
  pub body : IsBody profile v.body
  pub nested : AreEntries profile (place_in v.body) v.nested

abbrev pub IsContent : Profile → Content → Type 0
IsContent profile blank = ⊤
IsContent profile (keyval name value) = IsName profile name × IsValue profile value
IsContent profile (header before key after) = IsSpace before × IsKey profile key × IsSpace after
IsContent profile (element before key after) = IsSpace before × IsKey profile key × IsSpace after

-- an empty line has one gap
abbrev pub IsAfter : Content → Gap → Type 0
IsAfter blank g = g ≡ []
IsAfter _ g = IsSpace g

abbrev pub IsComment : Option Written → Type 0
IsComment None = ⊤
IsComment (Some w) = (w.leaf ≡ leaf.Comment) × IsLeaf Strict leaf.Comment w.text

pub record IsLine (profile : Profile) (l : Line) : Type 0 where
  pub before : IsSpace l.before
  pub content : IsContent profile l.content
  pub after : IsAfter l.content l.after
  pub comment : IsComment l.comment

pub record IsEnded (profile : Profile) (e : Ended) : Type 0 where
  pub line : IsLine profile e.line
  pub kind : e.newline.leaf ≡ leaf.Newline
  pub newline : IsLeaf Strict leaf.Newline e.newline.text

pub record IsDocument (profile : Profile) (s : Document) : Type 0 where
  pub ended : AllByRecursion (IsEnded profile) s.ended
  pub last : IsLine profile s.last

-- The tree has this text, and its depth is within the limit.
pub record Reads (profile : Profile) (limit : ℕ) (bytes : List ℕ) (s : Document) : Type 0 where
  pub valid : IsDocument profile s
  pub spelled : bytes ≡ text s
  pub shallow : depth s ≤ limit

-- A value of the grammar within the limit has the text, with nothing before or after it.
pub record ReadsValue (profile : Profile) (limit : ℕ) (bytes : List ℕ) (v : Value) : Type 0 where
  pub valid : IsValue profile v
  pub spelled : bytes ≡ value_text v
  pub shallow : value_depth v ≤ limit
