-- What a rename makes of the nodes: the document says the same with the paths changed, and all numbers stay
-- (`nodes_renamed`).
--
-- The paths that change are those at and under the key's. A step stays a step there (`moved_steps`): the root is the
-- root, an item or an element has its number, and different paths stay different, of those that are not at or under the
-- new key's path.
--
-- Theorem: `nodes_renamed`.
use Rattle.std.proofs.Common.{◌≡◌, ℕ, Bool, true, false, cond, List, [], ◌∷◌, ◌++◌, length, refl, sym, ap, subst, ◌∙◌}
use Rattle.std.proofs.Common.{arith, length-append, Option, Some, None, inl, inr, IsUtf8}
use Rattle.std.specs.List.{cons_option}
use Rattle.std.proofs.lemmas.List.{append-nil}
use Rattle.keep_types.specs.declared.leaf.Profile.{Profile}
use Rattle.keep_syntax.specs.Tree.{Document}
use Rattle.keep_syntax.specs.Grammar.{IsDocument}
use Rattle.keep_path.specs.Path.{Part, key, index, same_path, moved_path}
use Rattle.keep_meaning.specs.Rules.{ObeysRules}
use Rattle.keep_meaning.specs.Counts.{statements_in}
use Rattle.keep_meaning.specs.Marks.{Mention, marks, start, reading_after}
use Rattle.keep_meaning.specs.Meaning.{mentions_in}
use Rattle.keep_meaning.specs.Nodes.{is_node, is_element}
use Rattle.keep_edit_spec.specs.Look.{strip, without_last}
use Rattle.keep_edit_spec.specs.Changed.{Changed}
use Rattle.keep_edit_spec.specs.Edits.{rename, changed_or_same, edited_document}
use Rattle.keep_edit_spec.specs.Refusals.{refusal, beside, tables_in}
use Rattle.keep_edit_spec.proofs.Common.Runs.{AllOf, IsDisjoint, none_or_some, same_path-sound, same_path-refl}
use Rattle.keep_edit_spec.proofs.Common.LineLaws.{EndsInKey, index_cases}
use Rattle.keep_edit_spec.proofs.Common.Cuts.{without_last-snoc}
use Rattle.keep_edit_spec.proofs.Common.Moves.{IsInjectiveOn}
use Rattle.keep_edit_spec.proofs.Rename.MovedLines.{IsDocumentMoved, tables_at_end}
use Rattle.keep_edit_spec.proofs.Rename.RenamedPath.{IsBeside, ends_old, ends_new, under_renamed, disjoint_renamed}
use Rattle.keep_edit_spec.proofs.Rename.RenamedPath.{renamed_injective, strip_more, renamed_step, renamed_index}
use Rattle.keep_edit_spec.proofs.Rename.RenamedPath.{short_disjoint}
use Rattle.keep_edit_spec.proofs.Rename.RenamedParts.{strip_self}
use Rattle.keep_edit_spec.proofs.Rename.RenameContent.{root_renamed}
use Rattle.keep_edit_spec.proofs.Rename.RenameWhole.{renamable, rename_whole}

-- ---- steps

-- A change of paths that leads each step to a step, and keeps different paths different, of those that fit.
pub record KeepsSteps (P : List Part → Type 0) (f : List Part → List Part) : Type 0 where
  pub root : f [] ≡ []
  pub root_fits : P []
  pub different : IsInjectiveOn P f
  pub step : (q : List Part) (x : Part) → (y : Part) × (f (q ++ x ∷ []) ≡ f q ++ y ∷ [])
  pub numbered : (q : List Part) (n : ℕ) → f (q ++ index n ∷ []) ≡ f q ++ index n ∷ []
  pub fits_before : (q : List Part) (x : Part) → P (q ++ x ∷ []) → P q
  pub fits_numbered : (q : List Part) (n : ℕ) → P q → P (q ++ index n ∷ [])

-- the path is not at or under b
abbrev pub IsClear : List Part → List Part → Type 0
IsClear b q = strip b q ≡ None

clear_before : (b q : List Part) (x : Part) → IsClear b (q ++ x ∷ []) → IsClear b q
clear_before b q x clear = elim (none_or_some (strip b q)) [
  | inl e ↦ e
  | inr u ↦ absurd (let k : None ≡ Some (u.0 ++ x ∷ []) = sym clear ∙ strip_more b q (x ∷ []) u.0 u.1 in cc)
]

clear_numbered : (b q : List Part) (n : ℕ) → EndsInKey b → IsClear b q → IsClear b (q ++ index n ∷ [])
clear_numbered b q n ends clear = elim (none_or_some (strip b (q ++ index n ∷ []))) [
  | inl e ↦ e
  | inr u ↦ absurd (let v = index_cases b q n ends u in let k : None ≡ Some v.0 = sym clear ∙ v.1 in cc)
]

one_step : (t : List ℕ) (p b q : List Part) (x : Part) → IsBeside t p b
    → (y : Part) × (moved_path p b (q ++ x ∷ []) ≡ moved_path p b q ++ y ∷ [])
one_step t p b q x h = by (same_path (q ++ x ∷ []) p) refl
  where
    by : (c : Bool) → same_path (q ++ x ∷ []) p ≡ c
        → (y : Part) × (moved_path p b (q ++ x ∷ []) ≡ moved_path p b q ++ y ∷ [])
    by true e =
        let here : q ++ x ∷ [] ≡ p = same_path-sound (q ++ x ∷ []) p e in
        let prefix : q ≡ h.prefix =
        sym (without_last-snoc q x) ∙ ap without_last (here ∙ h.was) ∙ without_last-snoc h.prefix (key h.old) in
        let stays : moved_path p b q ≡ q =
        disjoint_renamed p b q (short_disjoint p q (omega (arith, ap length here, length-append q (x ∷ [])))) in (
          key t,
          ap (moved_path p b) here ∙ under_renamed p b p [] (strip_self p) ∙ append-nil b ∙ h.is
              ∙ ap (λ (l : List Part). l ++ key t ∷ []) (sym (stays ∙ prefix)),
        )
    by false e = (
      x,
      renamed_step p b q x (λ here.
          (let k : same_path (q ++ x ∷ []) p ≡ true = ap (same_path (q ++ x ∷ [])) (sym here)
          ∙ same_path-refl (q ++ x ∷ []) in
          absurd cc)),
    )

pub moved_steps : (t : List ℕ) (p b : List Part) → IsBeside t p b → KeepsSteps (IsClear b) (moved_path p b)
moved_steps t p b h = record {
  root = root_renamed p b (ends_old t p b h);
  root_fits = short_disjoint b [] (omega (arith, ap length h.is, length-append h.prefix (key t ∷ [])));
  different = renamed_injective p b;
  step = λ q x. one_step t p b q x h;
  numbered = λ q n. renamed_index p b q n (ends_old t p b h);
  fits_before = clear_before b;
  fits_numbered = λ q n clear. clear_numbered b q n (ends_new t p b h) clear;
}

-- ---- the document

clear_tables : (b : List Part) (ms : List Mention) → AllOf (IsDisjoint b) ms → AllOf (IsClear b) (tables_in ms)
clear_tables b [] h = tt
clear_tables b (m ∷ ms) h = by (is_element m.kind) (clear_tables b ms h.1)
  where
    by : (e : Bool) → AllOf (IsClear b) (tables_in ms)
        → AllOf (IsClear b) (cons_option (cond e (Some m.path) None) (tables_in ms))
    by true k = (h.0, k)
    by false k = k

-- After the edit the same is said, with the paths at and under the key's changed; nothing was at or under the new ones.
pub record IsNodeRenamed (path b : List Part) (s s' : Document) : Type 0 where
  pub moved : IsDocumentMoved (moved_path path b) s s'
  pub steps : KeepsSteps (IsClear b) (moved_path path b)
  pub clear : AllOf (IsDisjoint b) (mentions_in s)
  pub tables_clear : AllOf (IsClear b) (reading_after start (statements_in s)).tables
  pub node : is_node path (mentions_in s) ≡ true
  pub fresh : is_node b (mentions_in s) ≡ false
  pub ends : EndsInKey path

pub nodes_renamed : (profile : Profile) (limit : ℕ) (s : Document) (path : List Part) (t : List ℕ)
    → IsDocument profile s → ObeysRules (marks (mentions_in s)) → IsUtf8 t
    → refusal profile limit s (rename path t) ≡ None
    → IsNodeRenamed path (beside path t) s (edited_document s (rename path t))
nodes_renamed profile limit s path t valid obeys utf8 allowed =
    let b : List Part = beside path t in
    let h = renamable profile limit s path t allowed in
    let r = rename_whole profile limit s path t valid obeys utf8 allowed in
    let to : edited_document s (rename path t) ≡ r.changed.to =
    ap (λ (c : Option (Changed Document)). (changed_or_same s c).to) r.is in
    record {
      moved = subst (λ (u : Document). IsDocumentMoved (moved_path path b) s u) (sym to) r.moved;
      steps = moved_steps t path b r.two;
      clear = r.clear;
      tables_clear = subst (AllOf (IsClear b)) (sym (tables_at_end s)) (clear_tables b (mentions_in s) r.clear);
      node = h.node;
      fresh = h.fresh;
      ends = ends_old t path b r.two;
    }
