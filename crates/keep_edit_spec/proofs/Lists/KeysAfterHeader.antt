-- An insert of new keys is not refused after a header came at the end of the text, if its holder is a node still of
-- which the header states nothing, and the header's keys do not lead to the first new key.
--
-- The header says nothing of the first new key's path, so nothing is under it, and the holder is the same (NewHolder).
-- It is a table as before (HeaderNew). Of the prefixes of the path the header says at most that they are tables
-- (HeaderSays). So the insert is not refused (SaidOfPrefixes). The header comes behind all that is there, so the place
-- stays of an insert that does not write at the end of the text itself (`at_headed`).
--
-- Theorems: `holder_headed`, `refusal_headed`; `at_headed`.
use Rattle.std.proofs.Common.{◌≡◌, ◌≢◌, ℕ, ◌+◌, ◌-◌, ◌≤◌, Bool, true, false, cond, List, [], ◌∷◌, ◌++◌, length}
use Rattle.std.proofs.Common.{sym, ap, subst, ◌∙◌, arith, None, inl, inr}
use Rattle.std.specs.List.{list_any}
use Rattle.std.proofs.lemmas.Bool.{cases_lt, lt-ltb}
use Rattle.keep_types.specs.declared.leaf.Profile.{Profile}
use Rattle.keep_syntax.specs.Tree.{Content, Document, Value, text}
use Rattle.keep_syntax.specs.Grammar.{IsDocument}
use Rattle.keep_path.specs.Path.{Part, key}
use Rattle.keep_meaning.specs.Marks.{Mention, MentionKind}
use Rattle.keep_meaning.specs.Meaning.{mentions_in}
use Rattle.keep_meaning.specs.Nodes.{is_at, is_node, kinds_at}
use Rattle.keep_edit_spec.specs.AddedLines.{first_new}
use Rattle.keep_edit_spec.specs.Changed.{Place}
use Rattle.keep_edit_spec.specs.Edits.{Edit, insert, place}
use Rattle.keep_edit_spec.specs.Insertion.{put_in}
use Rattle.keep_edit_spec.specs.Look.{enclosing, holder, is_bracket_at, is_table}
use Rattle.keep_edit_spec.specs.Refusals.{refusal}
use Rattle.keep_edit_spec.specs.Runs.{PassesBy}
use Rattle.keep_edit_spec.specs.TextChanges.{TextChange, moved_by}
use Rattle.keep_edit_spec.proofs.EditLaws.{place_within}
use Rattle.keep_edit_spec.proofs.Common.EntryDepths.{count_same}
use Rattle.keep_edit_spec.proofs.Common.Runs.{AllOf}
use Rattle.keep_edit_spec.proofs.Lists.HeaderComes.{HeaderComes, comes_at}
use Rattle.keep_edit_spec.proofs.Lists.HeaderLines.{headed}
use Rattle.keep_edit_spec.proofs.Lists.HeaderNew.{StatesNothing, table_stays}
use Rattle.keep_edit_spec.proofs.Lists.HeaderSays.{bracket_same, kinds_same}
use Rattle.keep_edit_spec.proofs.Lists.NewHolder.{holder_of_node, path_new}
use Rattle.keep_edit_spec.proofs.Lists.NewPaths.{InsertsKeys, first_path, unsaid}
use Rattle.keep_edit_spec.proofs.Lists.SaidOfPrefixes.{any_kinds, refused_alike}

module _ (s : Document) (keys : List (List ℕ)) (c : TextChange) (content : Content) (h : HeaderComes s keys c content)
  where
    abbrev now : Document
    now = (headed s content).to

    -- ---- an insert of new keys

    module _ (profile : Profile) (limit : ℕ) (other : List Part) (more : Value)
        (k : InsertsKeys profile limit s other more) (clear : PassesBy keys (first_new s other))
        (node : is_node (holder other (mentions_in s)) (mentions_in now) ≡ true)
        (nothing : AllOf (StatesNothing (holder other (mentions_in s))) h.own) where
      abbrev ms : List Mention
      ms = mentions_in s

      abbrev left : List Mention
      left = mentions_in now

      abbrev a : List Part
      a = holder other ms

      abbrev first : List Part
      first = a ++ key k.text ∷ []

      first_passed : PassesBy keys first
      first_passed = subst (PassesBy keys) (first_path profile limit s other more k) clear

      unsaid_then : list_any (is_at first) ms ≡ false
      unsaid_then = unsaid profile limit s other more k

      unsaid_now : list_any (is_at first) left ≡ false
      unsaid_now =
          any_kinds first left
          ∙ ap (list_any (λ (kind : MentionKind). true))
          (ap (kinds_at first) h.says ∙ kinds_same keys first ms h.own first_passed h.of_header)
          ∙ sym (any_kinds first ms) ∙ unsaid_then

      pub holder_headed : holder other left ≡ a
      holder_headed = holder_of_node now other a k.text k.more k.new unsaid_now node

      node_now : is_node other left ≡ is_node other ms
      node_now =
          path_new now other a k.text k.more k.new unsaid_now
          ∙ sym (path_new s other a k.text k.more k.new unsaid_then)

      table_now : is_table (holder other left) left ≡ is_table a ms
      table_now =
          ap (λ (q : List Part). is_table q left) holder_headed ∙ ap (is_table a) h.says
          ∙ table_stays a ms h.own nothing

      depth_now : enclosing other left ≡ enclosing other ms
      depth_now =
          ap (enclosing other) h.says
          ∙ count_same (is_bracket_at (ms ++ h.own)) (is_bracket_at ms) other
          (λ q x qs e. bracket_same keys q ms h.own h.of_header)

      pub refusal_headed : refusal profile limit now (insert other more) ≡ None
      refusal_headed =
          refused_alike ms left other k.text k.more k.new profile limit more holder_headed node_now table_now depth_now
          ∙ k.allowed

    -- ---- a place that is not the end of the text

    pub at_headed : (profile : Profile) → IsDocument profile s → (e : Edit) (d : TextChange)
        → place s e ≡ put_in d.at d.new → c.at ≢ d.at → moved_by c d.at ≡ d.at
    at_headed profile valid e d is apart =
        let end : c.at ≡ length (text s) = comes_at s keys c content h profile valid in
        let within : d.at ≤ length (text s) = omega (arith, ap (λ (p : Place). p.end) is, place_within s e) in
        elim (cases_lt d.at c.at) [
          | inl less ↦
              ap (λ (b : Bool). cond b d.at ((d.at + length c.new) - c.size)) (lt-ltb d.at c.at less)
          | inr far ↦ absurd (apart (omega (arith, far, end, within)))
        ]
