-- Two documents that say the same but at a zone's path and under it: elsewhere the facts are the same, and nothing is
-- said in the second that was not in the first.
--
-- So it is where a run at a path and under it is gone, with what only led there (Cuts), and where a table or an element
-- is taken with its header, elsewhere than at the changed path and under it (TakenGone). Of the prefixes of an insert's
-- path that is not under the zone's, none is under it. So the facts of them are the same, and nothing is said of its
-- first new key. If its holder is a node still, it is the holder still (NewHolder), and the insert is not refused
-- (SaidOfPrefixes). That such inserts make their changes, is in AddsAgain (`adds_beside_said`), DottedAgain
-- (`dotted_said`) and BroughtAgain (`brought_said`).
--
-- Theorems: `said_of_cut`, `said_now`: where it is so; `holder_beside`, `refusal_beside`: an insert of new keys.
use Rattle.std.proofs.Common.{◌≡◌, ℕ, Bool, true, false, not, ◌&&◌, List, [], ◌∷◌, ◌++◌, map, sym, ap, ap₂, ◌∙◌, None}
use Rattle.std.specs.List.{list_any}
use Rattle.std.proofs.lemmas.Bool.{and_parts, not-true}
use Rattle.keep_types.specs.declared.leaf.Profile.{Profile}
use Rattle.keep_syntax.specs.Tree.{Value, Document}
use Rattle.keep_path.specs.Path.{Part, key, strip}
use Rattle.keep_meaning.specs.Marks.{Mention, MentionKind}
use Rattle.keep_meaning.specs.Meaning.{mentions_in}
use Rattle.keep_meaning.specs.Nodes.{fact_at, has, is_at, is_element, is_node, kinds_at}
use Rattle.keep_edit_spec.specs.Edits.{insert}
use Rattle.keep_edit_spec.specs.ElementRuns.{changed_path}
use Rattle.keep_edit_spec.specs.Laws.{IsEditable}
use Rattle.keep_edit_spec.specs.Look.{holder, is_table, is_table_fact}
use Rattle.keep_edit_spec.specs.Refusals.{refusal}
use Rattle.keep_edit_spec.specs.RemovedHeaders.{RemovesHeader}
use Rattle.keep_edit_spec.specs.TextChanges.{TextChange}
use Rattle.keep_edit_spec.proofs.Common.Cuts.{IsCut, cut_by}
use Rattle.keep_edit_spec.proofs.Insert.KeysAtEnd.{path_goes_on}
use Rattle.keep_edit_spec.proofs.Lists.NewHolder.{holder_of_node, path_new}
use Rattle.keep_edit_spec.proofs.Lists.NewPaths.{InsertsKeys, first_path, goes, unsaid}
use Rattle.keep_edit_spec.proofs.Lists.OwnLine.{kinds_cut}
use Rattle.keep_edit_spec.proofs.Lists.SaidOfPrefixes.{any_kinds, enclosing_same, refused_alike}
use Rattle.keep_edit_spec.proofs.Lists.SetAllowed.{prefix_clear}
use Rattle.keep_edit_spec.proofs.Lists.TakenGone as taken

pub record IsSaidBeside (zone : List Part) (from to : List Mention) : Type 0 where
  pub facts : (q : List Part) → strip zone q ≡ None → fact_at q to ≡ fact_at q from
  pub unsaid : (T : MentionKind → Bool) (q : List Part) → strip zone q ≡ None → list_any T (kinds_at q from) ≡ false
      → list_any T (kinds_at q to) ≡ false

-- ---- a run that is gone, and a table or an element

pub said_of_cut : (path : List Part) (from to : List Mention) → IsCut path from to → IsSaidBeside path from to
said_of_cut path from to cut = record {
  facts = λ q clear. cut_by path from to cut q None clear;
  unsaid = λ T q clear none. kinds_cut T path q from to cut none;
}

pub said_now : (profile : Profile) (limit : ℕ) (s : Document) (path : List Part) (c : TextChange)
    → (fine : IsEditable profile limit s) (h : RemovesHeader profile limit s path c)
    → IsSaidBeside (changed_path path) (mentions_in s) (mentions_in (taken.now profile limit s path c fine h))
said_now profile limit s path c fine h =
    record {
      facts = taken.fact_now profile limit s path c fine h;
      unsaid = taken.kinds_unsaid profile limit s path c fine h;
    }

-- ---- an insert of new keys

module _ (profile : Profile) (limit : ℕ) (s : Document) (zone : List Part) (now : Document)
    (said : IsSaidBeside zone (mentions_in s) (mentions_in now)) (other : List Part) (more : Value)
    (k : InsertsKeys profile limit s other more) (clear : strip zone other ≡ None)
    (node : is_node (holder other (mentions_in s)) (mentions_in now) ≡ true) where
  abbrev ms : List Mention
  ms = mentions_in s

  abbrev left : List Mention
  left = mentions_in now

  abbrev a : List Part
  a = holder other ms

  abbrev first : List Part
  first = a ++ key k.text ∷ []

  -- ---- the first new key, and the holder

  unsaid_then : list_any (is_at first) ms ≡ false
  unsaid_then = unsaid profile limit s other more k

  first_clear : strip zone first ≡ None
  first_clear =
      prefix_clear zone other first (map key k.more) clear
      (path_goes_on s other k.text k.more k.new
      ∙ ap (λ (q : List Part). q ++ map key k.more) (first_path profile limit s other more k))

  unsaid_now : list_any (is_at first) left ≡ false
  unsaid_now =
      any_kinds first left
      ∙ said.unsaid (λ (t : MentionKind). true) first first_clear (sym (any_kinds first ms) ∙ unsaid_then)

  pub holder_beside : holder other left ≡ a
  holder_beside = holder_of_node now other a k.text k.more k.new unsaid_now node

  -- ---- the refusal

  fact_same : (q rest : List Part) → other ≡ q ++ rest → fact_at q left ≡ fact_at q ms
  fact_same q rest is = said.facts q (prefix_clear zone other q rest clear is)

  table_same : is_table (holder other left) left ≡ is_table a ms
  table_same =
      let keys : List Part = map key (k.text ∷ k.more) in
      let table : is_table a ms ≡ true = (goes profile limit s other more k).table in
      let (known, single) = and_parts (is_table_fact (fact_at a ms)) (not (has is_element a ms)) table in
      let single_now : has is_element a left ≡ false =
      said.unsaid is_element a (prefix_clear zone other a keys clear k.new) (not-true (has is_element a ms) single) in
      ap (λ (q : List Part). is_table q left) holder_beside
      ∙ ap₂ (λ (x y : Bool). x && not y) (ap is_table_fact (fact_same a keys k.new) ∙ known) single_now
      ∙ sym table

  node_same : is_node other left ≡ is_node other ms
  node_same =
      path_new now other a k.text k.more k.new unsaid_now ∙ sym (path_new s other a k.text k.more k.new unsaid_then)

  pub refusal_beside : refusal profile limit now (insert other more) ≡ None
  refusal_beside =
      refused_alike ms left other k.text k.more k.new profile limit more holder_beside node_same table_same
      (enclosing_same ms left other fact_same) ∙ k.allowed
