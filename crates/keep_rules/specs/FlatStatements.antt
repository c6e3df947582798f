-- How the flat list of a document's statements matches its tree.
use Rattle.std.specs.Prelude.{◌≡◌, ℕ, ◌+◌, ◌<◌, ◌≤◌, List, length, take, drop, slice_get, Some, None}
use Rattle.std.specs.List.{AllZip}
use Rattle.keep_types.specs.declared.leaf.Profile.{Profile}
use Rattle.keep_types.specs.declared.syntax.KeyPart.{KeyPart}
use Rattle.keep_types.specs.declared.syntax.Owner.TheVariants as owner
use Rattle.keep_types.specs.declared.syntax.Statement.{Statement}
use Rattle.keep_types.specs.declared.syntax.StatementKind.TheVariants.{KeyVal, Header, Element}
use Rattle.keep_types.specs.declared.syntax.ValueInfo.{ValueInfo}
use Rattle.keep_syntax.specs.Tree.{Name, Value}
use Rattle.keep_syntax.specs.Grammar.{IsValue}
use Rattle.keep_syntax.specs.Numbered.{value_count}
use Rattle.keep_meaning.specs.Counts.{Count}
use Rattle.keep_types.specs.Kinds.{leaf_kind}
use Rattle.keep_rules.specs.FlatValues.{leaf_holding, MatchesNested}
use Rattle.keep_rules.specs.FirstKeys.{FirstKeys}
use Rattle.keep_rules.specs.NestedValues.{holding_of, nested_values}
use Rattle.keep_meaning.specs.KeyText.{keys_in}
use Rattle.keep_meaning.specs.Marks as marks
use Rattle.keep_meaning.specs.Marks.{Mention}
use Rattle.keep_meaning.specs.Meaning.{keys_of, body_fact, keyval_mentions}
use Rattle.keep_meaning.specs.Nodes.{fact_kind}

-- the value with that number, if there is one, is that of a line's keyval
abbrev pub LineStarts : List ValueInfo → ℕ → Type 0
LineStarts values n = (info : ValueInfo) → slice_get values n ≡ Some info → (i : ℕ) × (info.owner ≡ owner.Line i)

-- the key parts of a statement mean these keys
pub record MatchesKeys (bytes : List ℕ) (parts : List KeyPart) (st : Statement) (ks : List (List ℕ)) : Type 0 where
  pub keys : keys_in bytes parts st.first_key st.keys ≡ ks
  pub some : 0 < st.keys
  pub within : st.first_key + st.keys ≤ length parts

-- the values of a statement are this value and those in it, and the next is another line's
pub record MatchesValues (bytes : List ℕ) (parts : List KeyPart) (values : List ValueInfo) (v : Value) (st : Statement)
    : Type 0 where
  pub first : ℕ
  pub valued : st.value ≡ Some first
  pub own : ValueInfo
  pub here : slice_get values first ≡ Some own
  pub kind : fact_kind (body_fact v.body) ≡ leaf_kind own.leaf
  pub holds : holding_of (body_fact v.body) ≡ leaf_holding own.leaf
  pub within : first + 1 + value_count v.nested ≤ length values
  pub nested : AllZip (MatchesNested bytes parts first) (nested_values 1 2 v.nested)
      (take (value_count v.nested) (drop (first + 1) values))
  pub firsts : FirstKeys (st.first_key + st.keys) (nested_values 1 2 v.nested)
      (take (value_count v.nested) (drop (first + 1) values))
  pub next_line : LineStarts values (first + 1 + value_count v.nested)

-- a statement of the flat list is a keyval with these mentions
pub record MatchesKeyvalOf (bytes : List ℕ) (parts : List KeyPart) (values : List ValueInfo) (st : Statement)
    (mentioned : List Mention) : Type 0 where
  pub profile : Profile
  pub name : Name
  pub value : Value
  pub is : IsValue profile value
  pub mentions : mentioned ≡ keyval_mentions name value
  pub kind : st.kind ≡ KeyVal
  pub keys : MatchesKeys bytes parts st (keys_of name.key)
  pub valued : MatchesValues bytes parts values value st

-- this statement of the flat list is that statement
abbrev pub MatchesStatement : List ℕ → List KeyPart → List ValueInfo → Statement → marks.Statement → Type 0
MatchesStatement bytes parts values st (marks.header ks) =
    (st.kind ≡ Header) × (st.value ≡ None) × MatchesKeys bytes parts st ks
MatchesStatement bytes parts values st (marks.element_header ks) =
    (st.kind ≡ Element) × (st.value ≡ None) × MatchesKeys bytes parts st ks
MatchesStatement bytes parts values st (marks.keyval ms) = MatchesKeyvalOf bytes parts values st ms

-- so many statements, values and key parts are before the statement with that number
pub record IsCountBefore (number : ℕ) (st : Statement) (c : Count) : Type 0 where
  pub statements : c.statements ≡ number
  pub keys : c.keys ≡ st.first_key
  pub values : (first : ℕ) → st.value ≡ Some first → c.values ≡ first
