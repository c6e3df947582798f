-- Documents that were read: texts in a profile, to the standard depth. keep_rules says what is read of single values.
use Rattle.std.specs.Prelude.{◌≡◌, ℕ, List, map}
use Rattle.keep_types.specs.declared.leaf.Profile.{Profile}
use Rattle.keep_syntax.specs.declared.syntax.Syntax.{Syntax}
use Rattle.keep_syntax.specs.Tree.{Document}
use Rattle.keep_syntax.specs.Contract.{IsSyntaxOf, IsTextOf}
use Rattle.keep_meaning.specs.Counts.{statements_in}
use Rattle.keep_meaning.specs.Marks.{start, reading_after}
use Rattle.keep_meaning.specs.Meaning.{mentions_in}
use Rattle.keep_meaning.specs.Nodes.{node_path, nodes_in, infos_in}
use Rattle.keep_meaning.specs.ReadText.{IsRead}
use Rattle.keep_path.specs.NodeInfos.{NodeInfos}
use Rattle.keep_rules.specs.Nested.{AreNested}
pub use Rattle.keep_rules.specs.ValueTexts.{limit, IsTextOfValue, IsAcceptedValue, IsTextOfFact, IsRefusedValue}

-- ---- documents

-- a text, with the profile that it is read in
pub record ProfiledText : Type 0 where
  pub text : List ℕ
  pub profile : Profile

abbrev pub text_in : Profile → List ℕ → ProfiledText
text_in profile bytes = record { text = bytes; profile = profile }

-- The text is that of this document, by the grammar of its profile and to the standard depth, and the rules hold.
abbrev pub IsTextOfTree : ProfiledText → Document → Type 0
IsTextOfTree t s = IsRead t.profile limit t.text s

-- the text of some document
abbrev pub IsAccepted : ProfiledText → Type 0
IsAccepted t = (s : Document) × IsTextOfTree t s

-- what the nodes of a document tell
abbrev pub telling_in : Document → NodeInfos
telling_in s = record { paths = map node_path (nodes_in s); infos = infos_in s }

-- Of this text some document was read, and its syntax and its nodes are these.
pub record Holds (t : ProfiledText) (syntax : Syntax) (index : NodeInfos) : Type 0 where
  pub tree : Document
  pub read : IsTextOfTree t tree
  pub is : IsSyntaxOf syntax tree
  pub of_text : IsTextOf syntax t.text
  pub stated : index ≡ telling_in tree
  pub nested : AreNested (mentions_in tree) (reading_after start (statements_in tree)).tables
