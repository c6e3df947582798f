-- The index of a document, and where a document breaks the definition rules.
use Rattle.std.specs.Prelude.{◌≡◌, ℕ, ◌+◌, ◌≤◌, List, length, map, Some, slice_get, IfErr, IfOk, IsOkUnless, OnOk}
use Rattle.std.specs.Prelude.{Result}
use Rattle.keep_types.specs.declared.leaf.Profile.{Profile}
use Rattle.keep_syntax.specs.declared.alone.ValueSyntax.{ValueSyntax}
use Rattle.keep_syntax.specs.declared.fault.ReadFault.{ReadFault}
use Rattle.keep_syntax.specs.declared.fault.ReadFault.TheVariants as faults
use Rattle.keep_types.specs.declared.syntax.KeyPart.{KeyPart}
use Rattle.keep_syntax.specs.declared.syntax.Syntax.{Syntax}
use Rattle.keep_syntax.specs.Contract.{IsSyntaxOf, IsValueSyntaxOf}
use Rattle.keep_syntax.specs.Grammar.{Reads, ReadsValue}
use Rattle.keep_syntax.specs.Tree.{Value, Document}
use Rattle.keep_rules.specs.declared.definitions.DefineFault.{DefineFault}
use Rattle.keep_rules.specs.declared.definitions.DefineFault.TheVariants.{Refused, Memory}
use Rattle.keep_meaning.specs.Faults.{IsFaultIn, IsFaultInValue}
use Rattle.keep_meaning.specs.Counts.{statements_in}
use Rattle.keep_meaning.specs.Marks.{marks, start, reading_after}
use Rattle.keep_meaning.specs.Meaning.{mentions_in, mentions_of_value}
use Rattle.keep_meaning.specs.Nodes.{node_path, nodes_in, infos_in}
use Rattle.keep_meaning.specs.Rules.{ObeysRules}
use Rattle.keep_path.specs.NodeInfos.{NodeInfos}
use Rattle.keep_index_store.specs.Tree.{TrieInfos, node_infos}
use Rattle.keep_rules.specs.Tables.{RootIsTable}
use Rattle.keep_rules.specs.Nested.{AreNested}

-- The text was read as this document, in some profile and to some depth, and the syntax is that of the document.
pub record WasRead (bytes : List ℕ) (s : Syntax) (d : Document) : Type 0 where
  pub profile : Profile
  pub limit : ℕ
  pub reads : Reads profile limit bytes d
  pub is : IsSyntaxOf s d

-- the text was read as this value
pub record WasReadAlone (bytes : List ℕ) (s : ValueSyntax) (v : Value) : Type 0 where
  pub profile : Profile
  pub limit : ℕ
  pub reads : ReadsValue profile limit bytes v
  pub is : IsValueSyntaxOf s v

-- The document obeys the rules, and these are its nodes with their facts, nested as its headers say.
pub record IsIndexOf (d : Document) (t : NodeInfos) : Type 0 where
  pub obeys : ObeysRules (marks (mentions_in d))
  pub nested : AreNested (mentions_in d) (reading_after start (statements_in d)).tables
  pub facts : t ≡ record { paths = map node_path (nodes_in d); infos = infos_in d }

abbrev pub ValueObeys : Value → Type 0
ValueObeys v = ObeysRules (marks (mentions_of_value v))

-- A document is refused at its first faulty mark alone, or where memory runs out.
abbrev pub IsRefusal : Document → ReadFault → Type 0
IsRefusal d (faults.Define at why) = IsFaultIn d at why
IsRefusal d faults.Memory = Unit {0}
IsRefusal d _ = ⊥

abbrev pub IsValueRefusal : Value → ReadFault → Type 0
IsValueRefusal v (faults.Define at why) = IsFaultInValue v at why
IsValueRefusal v faults.Memory = Unit {0}
IsValueRefusal v _ = ⊥

-- What reading the document by the rules answers. It is the document's index exactly if the document obeys the rules,
-- unless memory runs out, with no more nodes than the text has bytes and one.
pub record IsBuilt (bytes : List ℕ) (s : Syntax) (r : Result NodeInfos ReadFault) : Type 0 where
  pub ok : (d : Document) → WasRead bytes s d → IfOk r (IsIndexOf d)
  pub read : (d : Document) → WasRead bytes s d → ObeysRules (marks (mentions_in d)) → IsOkUnless r faults.Memory
  pub few : IfOk r (λ t. length t.paths ≤ length bytes + 1)
  pub faults : (d : Document) → WasRead bytes s d → IfErr r (IsRefusal d)

-- what reading the statements of a document answers: its nodes, of which the root is a table, or the first fault
pub record IsReadDocument (bytes : List ℕ) (s : Syntax) (r : Result TrieInfos ReadFault) : Type 0 where
  pub rooted : IfOk r (λ nodes. RootIsTable nodes.trie)
  pub ok : IfOk r (λ nodes. (d : Document) → WasRead bytes s d → IsIndexOf d (node_infos nodes))
  pub faults : IfErr r (λ fault. (d : Document) → WasRead bytes s d → IsRefusal d fault)

-- Whether a value alone obeys the rules: Ok exactly if it does, unless memory runs out, and else its first fault.
pub record IsChecked {A : Type 0} (bytes : List ℕ) (s : ValueSyntax) (r : Result A ReadFault) : Type 0 where
  pub ok : (v : Value) → WasReadAlone bytes s v → OnOk r (ValueObeys v)
  pub read : (v : Value) → WasReadAlone bytes s v → ValueObeys v → IsOkUnless r faults.Memory
  pub faults : (v : Value) → WasReadAlone bytes s v → IfErr r (IsValueRefusal v)

-- the fault, with the start of its key part
abbrev pub IsFaultAt : List KeyPart → DefineFault → ReadFault → Type 0
IsFaultAt parts (Refused number why) fault =
    (part : KeyPart) × (slice_get parts number ≡ Some part) × (fault ≡ faults.Define part.span.start why)
IsFaultAt parts Memory fault = fault ≡ faults.Memory
