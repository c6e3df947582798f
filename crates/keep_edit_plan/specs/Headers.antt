-- What a header at the end of a document meets, asked of the index.
use Rattle.std.specs.Prelude.{◌≡◌, ℕ, ◌<◌, Bool, true, false, ◌&&◌, ◌==◌, List, [], ◌∷◌, ◌++◌, codes, length, map}
use Rattle.std.specs.Prelude.{Option, Some, None, Result, Ok, Err, MatchResult, String, string_bytes}
use Rattle.std.specs.Global.{Global}
use Rattle.std.specs.List.{flat_map}
use Rattle.keep_token.specs.Encoded.{encoded_key}
use Rattle.keep_syntax.specs.Tree.{Document}
use Rattle.keep_syntax.specs.declared.fault.Why.{Why}
use Rattle.keep_types.specs.declared.node.Origin.{Origin}
use Rattle.keep_types.specs.declared.node.Origin.TheVariants as origin
use Rattle.keep_types.specs.declared.role.Role.{Role}
use Rattle.keep_types.specs.declared.role.Role.TheVariants as role
use Rattle.keep_meaning.specs.Marks as statements
use Rattle.keep_meaning.specs.Marks.{Statement, marks, elements_of, entered_path}
use Rattle.keep_meaning.specs.Meaning.{mentions_in}
use Rattle.keep_meaning.specs.Nodes.{node_number}
use Rattle.keep_meaning.specs.Rules.{why_of}
use Rattle.keep_path.specs.NodeInfos.{NodeInfos}
use Rattle.keep_path.specs.Path.{Part}
use Rattle.keep_rules.specs.declared.index.NodeId.{NodeId}
use Rattle.keep_rules.specs.Lookup.{path_numbered}
use Rattle.keep_edit_spec.specs.Edits.{Edit, append_table, append_element}
use Rattle.keep_edit_spec.specs.Headers.{is_refused, header_conflict}
use Rattle.keep_edit_spec.specs.Refusals.{tables_in}
use Rattle.keep_edit_plan.specs.declared.header.Header.{Header}
use Rattle.keep_edit_plan.specs.declared.header.Header.TheVariants.{Table, Element}

-- what the last key of a header does
abbrev pub role_of : Header → Role
role_of Table = role.Define
role_of Element = role.Element

-- Where a node comes from whose marks all let its last key follow: headers that go through it, or the headers of
-- elements.
abbrev pub may_follow : Header → Origin → Bool
may_follow Table (origin.Through n) = true
may_follow Element origin.Tables = true
may_follow _ _ = false

-- the edit that appends it
abbrev pub edit_of : Header → List (List ℕ) → Edit
edit_of Table keys = append_table keys
edit_of Element keys = append_element keys

-- what it is among the statements of the new document
abbrev pub statement_of : Header → List (List ℕ) → Statement
statement_of Table keys = statements.header keys
statement_of Element keys = statements.element_header keys

abbrev pub key_texts : List (String Global) → List (List ℕ)
key_texts keys = map string_bytes keys

-- the reason for refusing the first key of those to go, from a path on
abbrev pub conflict_from : Document → List Part → List (List ℕ) → Role → Option Why
conflict_from s at keys role = header_conflict (marks (mentions_in s)) (tables_in (mentions_in s)) at keys role

-- no key is refused, or the first for this reason
abbrev pub ConflictIs : Option Why → Result (Unit {0}) Why → Type 0
ConflictIs found result = MatchResult result (λ done. found ≡ None) (λ why. found ≡ Some why)

-- a header that is to continue from this path is refused there
abbrev pub is_stopped : Document → List Part → Bool
is_stopped s path =
    0 == elements_of path (tables_in (mentions_in s)) && is_refused (marks (mentions_in s)) role.Through path

-- where it continues
abbrev pub entered_in : Document → List Part → List Part
entered_in s path = entered_path (tables_in (mentions_in s)) path

-- a header continues from this path at this node, or at none, or is refused
abbrev pub EntersAt : Document → NodeInfos → List Part → Result (Option NodeId) Why → Type 0
EntersAt s t path (Ok (Some id)) =
    (is_stopped s path ≡ false) × (id.0 < length t.paths) × (path_numbered t id.0 ≡ entered_in s path)
EntersAt s t path (Ok None) =
    (is_stopped s path ≡ false) × ((more : List Part) → node_number t.paths (entered_in s path ++ more) ≡ None)
EntersAt s t path (Err why) = (is_stopped s path ≡ true) × (why ≡ why_of role.Through)

-- ---- how a header is written

-- keys with dots between them
abbrev pub keys_text : List (List ℕ) → List ℕ
keys_text [] = []
keys_text (k ∷ ks) = encoded_key k ++ flat_map (λ more. codes "." ++ encoded_key more) ks

abbrev pub opening : Header → List ℕ
opening Table = codes "["
opening Element = codes "[["

abbrev pub closing : Header → List ℕ
closing Table = codes "]"
closing Element = codes "]]"

abbrev pub header_text : Header → List (List ℕ) → List ℕ
header_text header keys = opening header ++ (keys_text keys ++ closing header)
