-- What is stored of a text, as lists.
use Rattle.std.specs.Prelude.{◌≡◌, ℕ, ◌+◌, List, [], ◌∷◌, ◌++◌, length, Bool, if◌then◌else◌, Option, Some, None}
use Rattle.keep_types.specs.declared.leaf.Leaf.{Leaf}
use Rattle.keep_types.specs.declared.syntax.Statement.{Statement}
use Rattle.keep_types.specs.declared.syntax.KeyPart.{KeyPart}
use Rattle.keep_types.specs.declared.syntax.ValueInfo.{ValueInfo}
use Rattle.keep_types.specs.declared.syntax.Start.{Start}
use Rattle.keep_syntax_store.specs.declared.statements.PackedStatement.{PackedStatement}
use Rattle.keep_syntax_store.specs.declared.keys.PackedKeyPart.{PackedKeyPart}
use Rattle.keep_syntax_store.specs.declared.values.Within.{Within}
use Rattle.keep_syntax_store.specs.declared.values.Within.TheVariants as within
use Rattle.keep_syntax_store.specs.declared.values.PackedValue.{PackedValue}
use Rattle.keep_syntax_store.specs.declared.packed_vec.PackedVec.{PackedVec}
use Rattle.keep_syntax_store.specs.declared.parts.Parts.{Parts}
use Rattle.keep_types.specs.declared.syntax.Owner.{Owner}
use Rattle.keep_types.specs.declared.syntax.Owner.TheVariants as owner
use Rattle.keep_syntax_store.specs.Counts.{span}
use Rattle.keep_syntax_store.specs.Blocks.{raise_key, raise_statement, raise_value}
use Rattle.keep_syntax_store.specs.PackedVec.{entries}

-- the kinds of the tokens, their places, and the other lists, each in text order
pub record Flat : Type 0 where
  pub kinds : List Leaf
  pub starts : List ℕ
  pub statements : List Statement
  pub keys : List KeyPart
  pub values : List ValueInfo

-- a number that is there or not
abbrev pub if_there : Bool → ℕ → Option ℕ
if_there there number = if there then Some number else None

-- what a value is in, with its number
abbrev pub owner_of : Within → ℕ → Owner
owner_of within.Line number = owner.Line number
owner_of within.Inline number = owner.Inline number
owner_of within.Item number = owner.Item number

-- the statement that was packed
abbrev pub unpacked_statement : PackedStatement → Statement
unpacked_statement s = record {
  kind = s.kind;
  span = span (s.line_start + s.before) s.end;
  line = span s.line_start (s.end + s.after);
  first_key = s.first_key;
  keys = s.keys;
  value = if_there s.has_value s.value;
}

abbrev pub statements_in : PackedVec Statement PackedStatement → List Statement
statements_in ss = entries unpacked_statement raise_statement ss

-- the key part that was packed
abbrev pub unpacked_key_part : PackedKeyPart → KeyPart
unpacked_key_part k = record { leaf = k.leaf; span = span k.start (k.start + k.len) }

abbrev pub key_parts_in : PackedVec KeyPart PackedKeyPart → List KeyPart
key_parts_in ks = entries unpacked_key_part raise_key ks

-- the value that was packed
abbrev pub unpacked_value : PackedValue → ValueInfo
unpacked_value s = record {
  leaf = s.leaf;
  span = span (s.anchor + s.gap + s.lead) s.end;
  whole = span (s.anchor + s.gap) s.end;
  owner = owner_of s.within s.owner;
  depth = s.depth;
  first_key = s.first_key;
  keys = s.keys;
  comma_before = if_there s.has_before s.anchor;
  comma_after = if_there s.has_after s.after;
}

abbrev pub values_in : PackedVec ValueInfo PackedValue → List ValueInfo
values_in vs = entries unpacked_value raise_value vs

abbrev pub flat : Parts → Flat
flat p =
    record {
      kinds = p.kinds.items;
      starts = p.starts;
      statements = statements_in p.statements;
      keys = key_parts_in p.keys;
      values = values_in p.values;
    }

abbrev pub empty : Flat
empty = record { kinds = []; starts = []; statements = []; keys = []; values = [] }

-- ---- one more

abbrev pub with_token : Leaf → ℕ → Flat → Flat
with_token leaf at f = record f { kinds = f.kinds ++ leaf ∷ []; starts = f.starts ++ at ∷ [] }

abbrev pub with_statement : Statement → Flat → Flat
with_statement s f = record f { statements = f.statements ++ s ∷ [] }

abbrev pub with_key : KeyPart → Flat → Flat
with_key k f = record f { keys = f.keys ++ k ∷ [] }

abbrev pub with_value : ValueInfo → Flat → Flat
with_value v f = record f { values = f.values ++ v ∷ [] }

-- a value whose end and comma after it are not known yet: it ends at this place
abbrev pub begun : Leaf → ℕ → ℕ → ℕ → Start → ValueInfo
begun leaf at end keys p = record {
  leaf = leaf;
  span = span at end;
  whole = span p.at end;
  owner = p.owner;
  depth = p.depth;
  first_key = p.parts;
  keys = keys;
  comma_before = p.comma;
  comma_after = None;
}

abbrev pub with_comma : ℕ → ValueInfo → ValueInfo
with_comma at info = record info { comma_after = Some at }

abbrev pub with_end : ℕ → ValueInfo → ValueInfo
with_end end info = record info { span = span info.span.start end; whole = span info.whole.start end }

-- the value with this number is changed so, of a list
abbrev pub Changes : (ValueInfo → ValueInfo) → ℕ → List ValueInfo → List ValueInfo → Type 0
Changes change number old new =
    (prefix : List ValueInfo) (info : ValueInfo) (back : List ValueInfo) → length prefix ≡ number
    → old ≡ prefix ++ (info ∷ back) → new ≡ prefix ++ (change info ∷ back)

-- and of what is stored
abbrev pub ChangesValue : (ValueInfo → ValueInfo) → ℕ → Flat → Flat → Type 0
ChangesValue change number old new =
    (prefix : List ValueInfo) (info : ValueInfo) (back : List ValueInfo) → length prefix ≡ number
    → old.values ≡ prefix ++ (info ∷ back)
    → new ≡ record old { values = prefix ++ (change info ∷ back) }
