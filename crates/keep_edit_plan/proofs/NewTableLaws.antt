-- A new table at the end of a document: the index tells that its keys lead to no node, and its header is appended.
--
-- The code looks up key by key. A node that is found is no value and no array of tables, so its path has no element and
-- is no value in brackets (`passable_there`). Where none is found, there is none below, and nothing is said of the
-- paths there (`none_from`). So of each key it is known what comes of the rest (`LeadOn`), and what comes of all keys
-- is what the law of new tables asks (`all_lead`). What is known where the keys end is left open, since elements have
-- such a way too (NewElementLaws).
--
-- Theorems: `leads_at_none`, `leads_at_next` for a key, `leads_there` for their end, `passes` for their beginnings,
-- `all_lead` for all, and `appends_here` for the header.
use Rattle.std.proofs.Common.{◌≡◌, ◌≤◌, ◌+◌, ℕ, false, true, List, [], ◌∷◌, ◌++◌, map, refl, sym, ap, subst, ◌∙◌}
use Rattle.std.proofs.Common.{append_assoc, Option, Some, None, Ok, slice_get, String, drop, ◌<◌, length}
use Rattle.std.specs.Prelude.{slice_index_or, string_bytes}
use Rattle.std.specs.Global.{Global}
use Rattle.std.proofs.lemmas.List.{append-nil, drop_more}
use Rattle.keep_types.specs.declared.node.NodeInfo.{NodeInfo}
use Rattle.keep_types.specs.declared.node.Origin.TheVariants as origin
use Rattle.keep_syntax.specs.Tree as tree
use Rattle.keep_syntax.specs.Tree.{Document, text}
use Rattle.keep_path.specs.NodeInfos.{NodeInfos}
use Rattle.keep_path.specs.Path.{Part, key}
use Rattle.keep_meaning.specs.Counts.{is_value, numbered_in}
use Rattle.keep_meaning.specs.Fact as fact
use Rattle.keep_meaning.specs.Fact.{Fact, is_bracket, is_value_fact}
use Rattle.keep_meaning.specs.Marks.{marks}
use Rattle.keep_meaning.specs.Meaning.{mentions_in}
use Rattle.keep_meaning.specs.Nodes.{fact_at, is_node, last_number, node_number, numbered_at, value_number}
use Rattle.keep_meaning.specs.Rules.{ObeysRules}
use Rattle.keep_rules.specs.declared.index.NodeId.{NodeId}
use Rattle.keep_rules.specs.Lookup.{number_of, path_numbered}
use Rattle.keep_rules.specs.ReadDocuments.{IsIndexOf}
use Rattle.keep_rules.proofs.Shared.{number_is}
use Rattle.keep_edit_spec.specs.Changed.{Place}
use Rattle.keep_edit_spec.specs.Edits.{Edit, append_table, key_with, place}
use Rattle.keep_edit_spec.specs.Look.{is_bracket_at}
use Rattle.keep_edit_spec.specs.Refusals.{refusal}
use Rattle.keep_edit_spec.specs.TextChanges.{TextChange, place_of_change}
use Rattle.keep_edit_spec.specs.TextEnds.{ends_in_newline}
use Rattle.keep_edit_spec.proofs.Shared.{append_place, none_counted, none_of_number}
use Rattle.keep_edit_spec.specs.FilledTables.{AppendsNewTable}
use Rattle.keep_edit_plan.specs.Headers.{key_texts}
use Rattle.keep_edit_plan.specs.NewTables.{HasElements, LeadToNone}
use Rattle.keep_edit_plan.specs.Plans.{EditPlanned}
use Rattle.keep_edit_plan.specs.Reading.{limit, IsTextOfTree, ProfiledText}
use Rattle.keep_edit_plan.specs.TextEdits.{change_of}
use Rattle.keep_edit_plan.specs.declared.plan.Plan.{Plan}
use Rattle.keep_edit_plan.proofs.AppendDone.{keys_utf8}
use Rattle.keep_edit_plan.proofs.ChangeLaws.{place_is, planned_is, size_none}
use Rattle.keep_edit_plan.proofs.FoundLaws.{IsStated, fact_node, none_unless, value_of_origin}
use Rattle.keep_edit_plan.proofs.HeaderLaws.{is_open, none_below, none_mentioned, number_there, root_number}
use Rattle.keep_edit_plan.proofs.HeaderLaws.{stated_there}
use Rattle.keep_edit_plan.proofs.NodeLaws.{no_node}
use Rattle.keep_edit_plan.proofs.RootLaws.{root_unsaid}

-- ---- what is on the way

-- neither an array of tables nor a value in brackets
abbrev pub IsPassable : Document → List Part → Type 0
IsPassable s path = HasElements s path 0

-- From a path on, these keys lead to such a path, past passable ones alone.
abbrev pub LeadOn : Document → (List Part → Type 0) → List Part → List (List ℕ) → Type 0
LeadOn s End at [] = End at
LeadOn s End at (k ∷ ks) = IsPassable s (at ++ key k ∷ []) × LeadOn s End (at ++ key k ∷ []) ks

-- no node is there
abbrev pub IsNew : Document → List Part → Type 0
IsNew s path = is_node path (mentions_in s) ≡ false

-- what is in brackets is a value
no_bracket : (o : Option Fact) → elim o [ None ↦ false | Some f ↦ is_value_fact f ] ≡ false
    → elim o [ None ↦ false | Some f ↦ is_bracket f ] ≡ false
no_bracket None e = refl
no_bracket (Some (fact.string v)) e = refl
no_bracket (Some (fact.integer v)) e = refl
no_bracket (Some (fact.boolean v)) e = refl
no_bracket (Some (fact.float v)) e = refl
no_bracket (Some (fact.moment l v)) e = refl
no_bracket (Some fact.array) e = absurd cc
no_bracket (Some fact.inline) e = absurd cc
no_bracket (Some fact.table) e = refl

pub flat_unless : (path : List Part) (s : Document) → ObeysRules (marks (mentions_in s))
    → last_number is_value value_number (numbered_at path (numbered_in s)) ≡ None
    → is_bracket_at (mentions_in s) path ≡ false
flat_unless path s obeys none = no_bracket (fact_at path (mentions_in s)) (none_of_number path s obeys none)

-- a node that comes of no value has none
pub no_value : (path : List Part) (s : Document) (info : NodeInfo) → IsStated path s info
    → ((n : ℕ) → info.origin ≡ origin.Value n → ⊥)
    → last_number is_value value_number (numbered_at path (numbered_in s)) ≡ None
no_value path s info stated other =
    none_unless (last_number is_value value_number (numbered_at path (numbered_in s)))
    (λ n e. other n (ap (λ (i : NodeInfo). i.origin) stated.is
    ∙ value_of_origin (numbered_at path (numbered_in s)) n e))

-- where there is no node, nothing is in brackets
flat_at_none : (path : List Part) (s : Document) → is_node path (mentions_in s) ≡ false
    → is_bracket_at (mentions_in s) path ≡ false
flat_at_none path s unnamed = by (fact_at path (mentions_in s)) refl
  where
    by : (o : Option Fact) → fact_at path (mentions_in s) ≡ o → is_bracket_at (mentions_in s) path ≡ false
    by None e = ap (λ (o : Option Fact). elim o [ None ↦ false | Some f ↦ is_bracket f ]) e
    by (Some f) e =
        let k : true ≡ false = sym (fact_node path (mentions_in s) f e) ∙ unnamed in absurd cc

module _ (s : Document) (t : NodeInfos) (h : IsIndexOf s t) where
  -- ---- where there is no node

  unnamed : (path : List Part) → node_number t.paths path ≡ None → is_node path (mentions_in s) ≡ false
  unnamed path none = no_node path (mentions_in s) (number_there s t h path None (sym none))

  pub passable_at_none : (path : List Part) → node_number t.paths path ≡ None → IsPassable s path
  passable_at_none path none = record {
    counted = none_counted path (mentions_in s) (none_mentioned s t h path none);
    flat = flat_at_none path s (unnamed path none);
  }

  pub is_new : (at : List Part) → ((more : List Part) → node_number t.paths (at ++ more) ≡ None) → IsNew s at
  is_new at none = unnamed at (ap (node_number t.paths) (sym (append-nil at)) ∙ none [])

  -- this is known where there is no node, nor below
  module _ (End : List Part → Type 0)
      (end : (at : List Part) → ((more : List Part) → node_number t.paths (at ++ more) ≡ None) → End at) where
    none_from : (at : List Part) (keys : List (List ℕ))
        → ((more : List Part) → node_number t.paths (at ++ more) ≡ None) → LeadOn s End at keys
    none_from at [] none = end at none
    none_from at (k ∷ ks) none = (
      passable_at_none (at ++ key k ∷ []) (none (key k ∷ [])),
      none_from (at ++ key k ∷ []) ks
          (λ more. none_below s t h (at ++ key k ∷ []) more (none (key k ∷ []))),
    )

    pub leads_at_none : (at : List Part) (k : List ℕ) (ks : List (List ℕ)) (o : Option NodeId) → o ≡ None
        → number_of o ≡ node_number t.paths (at ++ key k ∷ []) → LeadOn s End at (k ∷ ks)
    leads_at_none at k ks o is found =
        let none : node_number t.paths (at ++ key k ∷ []) ≡ None = sym found ∙ ap number_of is in (
          passable_at_none (at ++ key k ∷ []) none,
          none_from (at ++ key k ∷ []) ks (λ more. none_below s t h (at ++ key k ∷ []) more none),
        )

  -- ---- where there is a node

  module _ (at : List Part) (k : List ℕ) (id : NodeId) (info : NodeInfo) (o : Option NodeId) (one : o ≡ Some id)
      (found : number_of o ≡ node_number t.paths (at ++ key k ∷ [])) (there : slice_get t.infos id.0 ≡ Some info)
      (no_value_there : (n : ℕ) → info.origin ≡ origin.Value n → ⊥) (no_tables : info.origin ≡ origin.Tables → ⊥)
    where
      passable_there : IsPassable s (at ++ key k ∷ [])
      passable_there =
          let number = number_there s t h (at ++ key k ∷ []) (Some id.0) (sym (ap number_of one) ∙ found) in
          record {
            counted = (is_open s t h at k id.0 info number there no_value_there no_tables).none;
            flat =
                flat_unless (at ++ key k ∷ []) s h.obeys
                (no_value (at ++ key k ∷ []) s info (stated_there s t h (at ++ key k ∷ []) id.0 info number there)
                no_value_there);
          }

      pub leads_at_next : (End : List Part → Type 0) (ks : List (List ℕ)) → LeadOn s End (path_numbered t id.0) ks
          → LeadOn s End at (k ∷ ks)
      leads_at_next End ks on =
          let r = number_is t.paths (at ++ key k ∷ []) id.0 (sym found ∙ ap number_of one) in
          (passable_there, subst (λ (p : List Part). LeadOn s End p ks) r.1 on)

  -- ---- all keys

  module _ (End : List Part → Type 0) where
    pub leads_there : (at : List Part) (keys : List (List ℕ)) → LeadOn s End at keys → End (at ++ map key keys)
    leads_there at [] on = subst End (sym (append-nil at)) on
    leads_there at (k ∷ ks) on =
        subst End (append_assoc at (key k ∷ []) (map key ks)) (leads_there (at ++ key k ∷ []) ks on.1)

    pub passes : (at : List Part) (keys : List (List ℕ)) (k : List ℕ) (ks rest : List (List ℕ)) → LeadOn s End at keys
        → keys ≡ k ∷ ks ++ rest → IsPassable s (at ++ map key (k ∷ ks))
    passes at [] k ks rest on e = absurd cc
    passes at (l ∷ ls) k [] rest on e =
        let first : l ≡ k = cc in subst (λ (x : List ℕ). IsPassable s (at ++ key x ∷ [])) first on.0
    passes at (l ∷ ls) k (m ∷ ks) rest on e =
        let first : l ≡ k = cc in
        let more : ls ≡ m ∷ ks ++ rest = cc in
        subst (IsPassable s) (append_assoc at (key k ∷ []) (map key (m ∷ ks)))
        (passes (at ++ key k ∷ []) ls m ks rest
        (subst (λ (x : List ℕ). LeadOn s End (at ++ key x ∷ []) ls) first on.1) more)

  pub root_flat : is_bracket_at (mentions_in s) [] ≡ false
  root_flat = flat_unless [] s h.obeys (ap (last_number is_value value_number) (root_unsaid s))

  pub all_lead : (keys : List (List ℕ)) → LeadOn s (IsNew s) [] keys → LeadToNone s keys
  all_lead keys on = record {
    new = leads_there (IsNew s) [] keys on;
    no_elements = λ k ks rest e. (passes (IsNew s) [] keys k ks rest on e).counted;
    no_brackets = λ ks rest e. brackets ks rest e;
  }
    where
      brackets : (ks rest : List (List ℕ)) → keys ≡ ks ++ rest → is_bracket_at (mentions_in s) (map key ks) ≡ false
      brackets [] rest e = root_flat
      brackets (k ∷ ks) rest e = (passes (IsNew s) [] keys k ks rest on e).flat

-- ---- the keys of the code

pub from_root : (s : Document) (t : NodeInfos) → IsIndexOf s t → (End : List Part → Type 0)
    (keys : List (String Global)) → LeadOn s End (path_numbered t 0) (key_texts (drop 0 keys))
    → LeadOn s End [] (key_texts keys)
from_root s t h End [] on = subst (λ (p : List Part). LeadOn s End p []) (root_number s t h).1 on
from_root s t h End (k ∷ ks) on =
    subst (λ (p : List Part). LeadOn s End p (key_texts (k ∷ ks))) (root_number s t h).1 on

pub next_key : (keys : List (String Global)) (i : ℕ) (x : String Global) (name : List ℕ) → i < length keys
    → x ≡ slice_index_or keys i x → name ≡ string_bytes x
    → key_texts (drop i keys) ≡ name ∷ key_texts (drop (i + 1) keys)
next_key keys i x name less is named =
    ap key_texts (drop_more keys i x less)
    ∙ ap (λ (y : String Global). string_bytes y ∷ key_texts (drop (i + 1) keys)) (sym is)
    ∙ ap (λ (n : List ℕ). n ∷ key_texts (drop (i + 1) keys)) (sym named)

-- ---- the header

-- what is appended is not refused, after a newline, and takes nothing
pub record IsHeaderMade (now : ProfiledText) (s : Document) (e : Edit) (c : TextChange) : Type 0 where
  pub allowed : refusal now.profile limit s e ≡ None
  pub closed : ends_in_newline (text s) ≡ true
  pub adds : c.size ≡ 0
  pub is : place s e ≡ place_of_change c

pub header_made : (now : ProfiledText) (e : Edit) (plan : Plan) (s : Document) → IsTextOfTree now s
    → ends_in_newline now.text ≡ true → EditPlanned s e now (Ok plan)
    → plan.text_edit.place.start ≤ plan.text_edit.place.end → (place s e).start ≡ (place s e).end
    → IsHeaderMade now s e (change_of plan.text_edit)
header_made now e plan s read late planned ordered one =
    let (allowed, made) = planned_is now s e plan planned in
    record {
      allowed = allowed;
      closed = ap ends_in_newline (sym read.reads.spelled) ∙ late;
      adds = size_none (place s e) plan.text_edit made one;
      is = place_is (place s e) plan.text_edit made ordered;
    }

pub appends_here : (now : ProfiledText) (keys : List (String Global)) (plan : Plan) (s : Document)
    → IsTextOfTree now s → ends_in_newline now.text ≡ true
    → EditPlanned s (append_table (key_texts keys)) now (Ok plan)
    → plan.text_edit.place.start ≤ plan.text_edit.place.end → LeadToNone s (key_texts keys)
    → AppendsNewTable now.profile limit s (key_texts keys) (change_of plan.text_edit)
appends_here now keys plan s read late planned ordered lead =
    let at = append_place now.profile s read.reads.valid (tree.header [] (key_with (key_texts keys)) []) in
    let made =
    header_made now (append_table (key_texts keys)) plan s read late planned ordered
    (ap (λ (p : Place). p.start) at ∙ sym (ap (λ (p : Place). p.end) at)) in
    record {
      appends = record {
        utf8 = keys_utf8 keys;
        allowed = made.allowed;
        closed = made.closed;
        adds = made.adds;
        is = made.is;
      };
      new = lead.new;
      no_elements = lead.no_elements;
      no_brackets = lead.no_brackets;
    }
