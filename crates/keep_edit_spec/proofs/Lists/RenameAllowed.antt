-- A rename that is not refused is not refused after another rename, if neither path begins with the other and the two
-- new paths differ.
--
-- A rename moves what is said at and below its path to the new path, at and below which nothing was said before. So
-- the same is said as before of a path that begins with neither (`kinds_stay`). The other path begins with neither: a
-- key part names it, and none names what is at or below the new path (`marked_clear`). Nor does the path that the other
-- rename leads to (`sibling_clear`): but for its last key it is the other path, and as a whole it is another than each
-- of the two. What is said at these two paths is all that a refusal asks (`unrefused`, the converse of `renamable`).
--
-- Theorem: `rename_allowed`.
use Rattle.std.proofs.Common.{◌≡◌, ℕ, Bool, true, false, not, cond, ◌&&◌, ◌||◌, List, [], ◌∷◌, ◌++◌, length}
use Rattle.std.proofs.Common.{map, refl, sym, ap, subst, ◌∙◌, arith, Option, Some, None, inl, inr}
use Rattle.std.specs.Prelude.{◌==◌}
use Rattle.std.specs.List.{cons_option, filter_map, list_any}
use Rattle.std.proofs.lemmas.Bool.{eq-eqb}
use Rattle.keep_types.specs.declared.leaf.Profile.{Profile}
use Rattle.keep_types.specs.declared.role.Role.{Role}
use Rattle.keep_syntax.specs.Tree.{Document}
use Rattle.keep_path.specs.Path.{Part, beside, key, moved_path, strip}
use Rattle.keep_meaning.specs.Marks.{Mention, MentionKind, role_of}
use Rattle.keep_meaning.specs.Meaning.{mentions_in}
use Rattle.keep_meaning.specs.Nodes.{is_at, is_node, is_root, kinds_at, mark_count}
use Rattle.keep_edit_spec.specs.declared.fault.EditFault.TheVariants as fault
use Rattle.keep_edit_spec.specs.Edits.{edited_document, rename}
use Rattle.keep_edit_spec.specs.Laws.{IsEditable}
use Rattle.keep_edit_spec.specs.Refusals.{ends_in_index, first_that_holds, refusal, refusal_by}
use Rattle.keep_edit_spec.specs.RenamedKeys.{ArePathsApart, RenamesKey}
use Rattle.keep_edit_spec.specs.TextChanges.{TextChange}
use Rattle.keep_edit_spec.proofs.Common.LineLaws.{Cases, beyond, one_part, prefix_cases, within_first}
use Rattle.keep_edit_spec.proofs.Common.Moves.{mentions_moved, moved}
use Rattle.keep_edit_spec.proofs.Common.Runs.{AllOf, IsDisjoint, kinds_at-disjoint, none_or_some}
use Rattle.keep_edit_spec.proofs.Lists.SaidOfPrefixes.{node_kinds}
use Rattle.keep_edit_spec.proofs.Rename.RenamedPath.{IsBeside, disjoint_renamed, strip_more}
use Rattle.keep_edit_spec.proofs.Rename.RenameNodes.{IsClear, IsNodeRenamed, nodes_renamed}
use Rattle.keep_edit_spec.proofs.Rename.RenameOnce.{counted, uncounted}
use Rattle.keep_edit_spec.proofs.Rename.RenameWhole.{IsRenamable, beside_is, renamable}

-- ---- what is not refused

pub unrefused : (profile : Profile) (limit : ℕ) (path : List Part) (text : List ℕ) (ms : List Mention)
    → IsRenamable path text ms → refusal_by profile limit ms (rename path text) ≡ None
unrefused profile limit path text ms h =
    by (is_node path ms) (is_root path) (ends_in_index path) (is_node (beside path text) ms) (mark_count path ms == 1)
    h.node h.below_root h.by_key h.fresh (eq-eqb (mark_count path ms) 1 h.marks)
  where
    by : (a r i x c : Bool) → a ≡ true → r ≡ false → i ≡ false → x ≡ false → c ≡ true
        → first_that_holds ((not a, fault.NotFound) ∷ ((not r && not i) && x, fault.Exists) ∷ (r || i, fault.NotKey)
        ∷ (not c, fault.Scattered) ∷ []) ≡ None
    by a r i x c e f g h k = rw (e, f, g, h, k) refl

-- ---- what is said of a path tells how many key parts name it

kinds_with : (q : List Part) (m : Mention) (ms : List Mention) (b : Bool) → is_at q m ≡ b
    → kinds_at q (m ∷ ms) ≡ cond b (m.kind ∷ kinds_at q ms) (kinds_at q ms)
kinds_with q m ms true e = rw e refl
kinds_with q m ms false e = rw e refl

abbrev pub role_count : List MentionKind → ℕ
role_count kinds = length (filter_map role_of kinds)

pub mark_kinds : (q : List Part) (ms : List Mention) → mark_count q ms ≡ role_count (kinds_at q ms)
mark_kinds q [] = refl
mark_kinds q (m ∷ ms) = by (role_of m.kind) refl (is_at q m) refl (mark_kinds q ms)
  where
    -- how many there are, where the first is at the path
    here : (o : Option Role) → role_of m.kind ≡ o → is_at q m ≡ true
        → role_count (kinds_at q (m ∷ ms)) ≡ length (cons_option o (filter_map role_of (kinds_at q ms)))
    here o e k =
        ap role_count (kinds_with q m ms true k)
        ∙ ap (λ (o : Option Role). length (cons_option o (filter_map role_of (kinds_at q ms)))) e

    by : (o : Option Role) → role_of m.kind ≡ o → (b : Bool) → is_at q m ≡ b
        → mark_count q ms ≡ role_count (kinds_at q ms) → mark_count q (m ∷ ms) ≡ role_count (kinds_at q (m ∷ ms))
    by None e true k h = uncounted q m ms e ∙ h ∙ sym (here None e k)
    by None e false k h = uncounted q m ms e ∙ h ∙ sym (ap role_count (kinds_with q m ms false k))
    by (Some r) e true k h =
        omega (arith, counted q m ms r e, ap {B = ℕ} (λ c. cond c 1 0) k, h, here (Some r) e k)
    by (Some r) e false k h =
        omega (
          arith,
          counted q m ms r e,
          ap {B = ℕ} (λ c. cond c 1 0) k,
          h,
          ap role_count (kinds_with q m ms false k),
        )

-- ---- paths

-- a path that a key part names is not at or below one where nothing is said
marked_clear : (p q : List Part) (ms : List Mention) → AllOf (IsDisjoint p) ms → mark_count q ms ≡ 1
    → strip p q ≡ None
marked_clear p q ms clear one = elim (none_or_some (strip p q)) [
  | inl e ↦ e
  | inr u ↦
      absurd (omega (arith, one, mark_kinds q ms, ap role_count (kinds_at-disjoint p q u.0 ms clear u.1)))
]

-- a path with another last key is not at or below one where it was not before, but for that path itself
sibling_clear : (t : List ℕ) (p q b : List Part) → IsBeside t q b → strip p q ≡ None → (p ≡ b → ⊥) → strip p b ≡ None
sibling_clear t p q b h clear other = elim (none_or_some (strip p b)) [
  | inl e ↦ e
  | inr u ↦ absurd (by (prefix_cases p h.prefix (key t ∷ []) u.0 (ap (strip p) (sym h.is) ∙ u.1)))
]
  where
    by : Cases p h.prefix (key t ∷ []) → ⊥
    by (within_first v) =
        let k : None ≡ Some (v.0 ++ key h.old ∷ []) =
        sym clear ∙ ap (strip p) h.was ∙ strip_more p h.prefix (key h.old ∷ []) v.0 v.1 in
        absurd cc
    by (beyond x xs e v) =
        let (one, none) = one_part x (key t) xs v.0 v.1 in
        let last : x ∷ xs ≡ key t ∷ [] = cc in
        other (e ∙ ap (λ (l : List Part). h.prefix ++ l) last ∙ sym h.is)

-- ---- after a rename

module _ (path b : List Part) (s s' : Document) (h : IsNodeRenamed path b s s') where
  abbrev ms : List Mention
  ms = mentions_in s

  abbrev now : List Mention
  now = mentions_in s'

  pub kinds_stay : (q : List Part) → strip path q ≡ None → strip b q ≡ None → kinds_at q now ≡ kinds_at q ms
  kinds_stay q apart clear =
      ap (kinds_at q) h.moved.mentioned
      ∙ ap (λ (p : List Part). kinds_at p (map (moved (moved_path path b)) ms)) (sym (disjoint_renamed path b q apart))
      ∙ mentions_moved (IsClear b) (moved_path path b) h.steps.different q clear ms h.clear

  pub node_stays : (q : List Part) → strip path q ≡ None → strip b q ≡ None → is_node q now ≡ is_node q ms
  node_stays q apart clear =
      node_kinds q now ∙ ap (λ (kinds : List MentionKind). is_root q || list_any (λ (k : MentionKind). true) kinds)
      (kinds_stay q apart clear) ∙ sym (node_kinds q ms)

  marks_stay : (q : List Part) → strip path q ≡ None → strip b q ≡ None → mark_count q now ≡ mark_count q ms
  marks_stay q apart clear = mark_kinds q now ∙ ap role_count (kinds_stay q apart clear) ∙ sym (mark_kinds q ms)

  renamable_stays : (other : List Part) (more : List ℕ) → strip path other ≡ None → (b ≡ beside other more → ⊥)
      → IsRenamable other more ms → IsRenamable other more now
  renamable_stays other more apart differ g =
      let two : IsBeside more other (beside other more) = beside_is other more ms g in
      let clear : strip b other ≡ None = marked_clear b other ms h.clear g.marks in
      let was : path ≡ beside other more → ⊥ =
      λ same. (let node : is_node (beside other more) ms ≡ true =
      subst (λ (q : List Part). is_node q ms ≡ true) same h.node in let none = g.fresh in absurd cc) in
      record {
        node = node_stays other apart clear ∙ g.node;
        below_root = g.below_root;
        by_key = g.by_key;
        fresh = node_stays (beside other more) (sibling_clear more path other (beside other more) two apart was)
            (sibling_clear more b other (beside other more) two clear differ)
            ∙ g.fresh;
        marks = marks_stay other apart clear ∙ g.marks;
      }

pub rename_allowed : (profile : Profile) (limit : ℕ) (s : Document) (path : List Part) (text : List ℕ) (c : TextChange)
    (other : List Part) (more : List ℕ) (d : TextChange)
    → IsEditable profile limit s → RenamesKey profile limit s path text c → RenamesKey profile limit s other more d
    → ArePathsApart path text other more
    → refusal profile limit (edited_document s (rename path text)) (rename other more) ≡ None
rename_allowed profile limit s path text c other more d editable h g apart =
    let edited : Document = edited_document s (rename path text) in
    unrefused profile limit other more (mentions_in edited)
    (renamable_stays path (beside path text) s edited
    (nodes_renamed profile limit s path text editable.valid editable.obeys h.utf8 h.allowed) other more apart.below
    apart.new (renamable profile limit s other more g.allowed))
