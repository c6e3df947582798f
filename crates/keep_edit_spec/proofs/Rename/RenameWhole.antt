-- `rename`, whole: where nothing is refused there is a change, and all that should hold of it does.
--
-- Here the parts are put together. Where nothing is refused, one key part names the path and the new path is free
-- (`renamable`). So the mentions of the new document are the old ones with the paths at and under the old path moved to
-- the new one. Different paths stay different, so the rules hold. The tree at a path is that at the path it was moved
-- from; nothing is left at the old path (`none_under`), nothing was at the new one (`fresh_clear`), and neither is
-- under the other (`other_keys`). The grammar and the depth follow line by line (`valid_rename`, `rename_depth`).
--
-- Theorems: `rename_whole`: where nothing is refused, `rename` has a change, and all that should hold of it does.
use Rattle.std.proofs.Common.{◌≡◌, ℕ, ◌≤◌, Bool, true, false, List, [], ◌∷◌, ◌++◌, map, refl, sym, ap, subst, ◌∙◌}
use Rattle.std.proofs.Common.{append_assoc, arith, Option, Some, None, inl, inr, IsUtf8}
use Rattle.std.specs.Prelude.{not, ◌&&◌, ◌||◌, ◌==◌}
use Rattle.std.specs.List.{filter_map, list_any}
use Rattle.std.proofs.lemmas.Bool.{eqb-true}
use Rattle.keep_types.specs.declared.leaf.Profile.{Profile}
use Rattle.keep_syntax.specs.Tree.{Document, text, depth}
use Rattle.keep_syntax.specs.Grammar.{IsLine, IsDocument}
use Rattle.keep_path.specs.Path.{Part, key, index, moved_path}
use Rattle.keep_meaning.specs.Rules.{ObeysRules}
use Rattle.keep_meaning.specs.Marks.{Mention, fact_of, start, marks}
use Rattle.keep_meaning.specs.Meaning.{lines, mentions_in}
use Rattle.keep_meaning.specs.Nodes.{is_at, is_root, is_node, fact_at, first_of, mark_count}
use Rattle.keep_edit_spec.specs.declared.fault.EditFault.TheVariants as fault
use Rattle.keep_edit_spec.specs.Look.{strip, last_part, without_last, is_index}
use Rattle.keep_edit_spec.specs.Changed.{Changed}
use Rattle.keep_edit_spec.specs.Values.{renaming}
use Rattle.keep_edit_spec.specs.Lines.{rename_line, in_line, in_lines, with_page}
use Rattle.keep_edit_spec.specs.Edits.{rename, key_part, change}
use Rattle.keep_edit_spec.specs.Refusals.{refusal, first_that_holds, ends_in_index, beside}
use Rattle.keep_edit_spec.specs.Trees.{IsTreeOf, fact_from, from as from_path, nothing}
use Rattle.keep_edit_spec.proofs.Common.Runs.{AllOf, IsDisjoint, Rules, strip-sound, strip-append, none_or_some}
use Rattle.keep_edit_spec.proofs.Common.Runs.{kinds_at-disjoint}
use Rattle.keep_edit_spec.proofs.Common.SetLaw.{EachTo, to_within, to_or_else}
use Rattle.keep_edit_spec.proofs.Common.SetValid.{IsPage, valid_line, valid_lines}
use Rattle.keep_edit_spec.proofs.Common.SetDocument.{IsLawful, cancel, each_to}
use Rattle.keep_edit_spec.proofs.Common.SetWhole.{IsSetWhole, EachChange, together}
use Rattle.keep_edit_spec.proofs.Common.LineTexts.{change-is}
use Rattle.keep_edit_spec.proofs.Common.LineLaws.{EndsInKey}
use Rattle.keep_edit_spec.proofs.Common.InsertLaw.{fresh_disjoint}
use Rattle.keep_edit_spec.proofs.Common.Marks.{rules_of_document}
use Rattle.keep_edit_spec.proofs.Common.Moves.{moved, rules_moved, mentions_moved}
use Rattle.keep_edit_spec.proofs.Rename.MovedLines.{mentions_of_moved, IsDocumentMoved, moved_document}
use Rattle.keep_edit_spec.proofs.Common.Cuts.{last_part-snoc, without_last-snoc}
use Rattle.keep_edit_spec.proofs.Common.ValueThere.{the_some}
use Rattle.keep_edit_spec.proofs.Common.NewLines.{IsKeyText}
use Rattle.keep_edit_spec.proofs.Rename.KeyTexts.{key_text}
use Rattle.keep_edit_spec.proofs.Common.ActDepth.{NoDeeperLine, line_depths, pages_depth, in_document_depth}
use Rattle.keep_edit_spec.proofs.Rename.RenamedPath.{IsBeside, ends_old, ends_new, under_renamed, disjoint_renamed}
use Rattle.keep_edit_spec.proofs.Rename.RenamedPath.{renamed_injective}
use Rattle.keep_edit_spec.proofs.Rename.RenameOnce.{Once, once_counted, some_counted}
use Rattle.keep_edit_spec.proofs.Rename.RenameMoves.{IsMovedTo, moved_lines, moved_nested}
use Rattle.keep_edit_spec.proofs.Rename.RenameLines.{IsLineRenamed, line_renamed}
use Rattle.keep_edit_spec.proofs.Rename.RenameEntry.{valid_renaming, flat_renaming}
use Rattle.keep_edit_spec.proofs.Rename.RenameInValue.{snoc_of}
use Rattle.keep_edit_spec.proofs.Rename.RenameFound.{some_rename}

-- ---- what is not refused

pub record IsRenamable (path : List Part) (t : List ℕ) (ms : List Mention) : Type 0 where
  pub node : is_node path ms ≡ true
  pub below_root : is_root path ≡ false
  pub by_key : ends_in_index path ≡ false
  pub fresh : is_node (beside path t) ms ≡ false
  pub marks : mark_count path ms ≡ 1

pub renamable : (profile : Profile) (limit : ℕ) (s : Document) (path : List Part) (t : List ℕ)
    → refusal profile limit s (rename path t) ≡ None → IsRenamable path t (mentions_in s)
renamable profile limit s path t h =
    by (is_node path (mentions_in s)) (is_root path) (ends_in_index path) (is_node (beside path t) (mentions_in s))
    (mark_count path (mentions_in s) == 1) refl refl refl refl refl h
  where
    by : (a r i x c : Bool) → is_node path (mentions_in s) ≡ a → is_root path ≡ r → ends_in_index path ≡ i
        → is_node (beside path t) (mentions_in s) ≡ x → (mark_count path (mentions_in s) == 1) ≡ c
        → first_that_holds ((not a, fault.NotFound) ∷ ((not r && not i) && x, fault.Exists) ∷ (r || i, fault.NotKey)
        ∷ (not c, fault.Scattered) ∷ []) ≡ None → IsRenamable path t (mentions_in s)
    by false r i x c ea er ei ex ec h = absurd cc
    by true true i x c ea er ei ex ec h = absurd cc
    by true false true x c ea er ei ex ec h = absurd cc
    by true false false true c ea er ei ex ec h = absurd cc
    by true false false false false ea er ei ex ec h = absurd cc
    by true false false false true ea er ei ex ec h =
        record {
          node = ea;
          below_root = er;
          by_key = ei;
          fresh = ex;
          marks = eqb-true (mark_count path (mentions_in s)) 1 ec;
        }

key_last : (prefix : List Part) (z : Part) (path : List Part) → path ≡ prefix ++ z ∷ [] → ends_in_index path ≡ false
    → EndsInKey path
key_last prefix (key k) path e h = (prefix, k, e)
key_last prefix (index n) path e h =
    let k : true ≡ false =
    sym (ap (λ (o : Option Part). elim o [ None ↦ false | Some part ↦ is_index part ])
    (ap last_part e ∙ last_part-snoc prefix (index n))) ∙ h in
    absurd cc

ends_in_key : (path : List Part) → is_root path ≡ false → ends_in_index path ≡ false → EndsInKey path
ends_in_key [] r i = absurd cc
ends_in_key (q ∷ qs) r i = let (prefix, z, e) = snoc_of q qs in key_last prefix z (q ∷ qs) e i

pub beside_is : (path : List Part) (t : List ℕ) (ms : List Mention) → IsRenamable path t ms
    → IsBeside t path (beside path t)
beside_is path t ms h =
    let (prefix, old, was) = ends_in_key path h.below_root h.by_key in
    record {
      prefix = prefix;
      old = old;
      was = was;
      is = ap (λ q. q ++ key t ∷ []) (ap without_last was ∙ without_last-snoc prefix (key old));
    }

either_false : (a b : Bool) → (a || b) ≡ false → b ≡ false
either_false true b h = absurd cc
either_false false b h = h

-- nothing is said at or under the new path
fresh_clear : (s : Document) (path : List Part) (t : List ℕ) → IsRenamable path t (mentions_in s)
    → AllOf (IsDisjoint (beside path t)) (mentions_in s)
fresh_clear s path t h =
    let b : List Part = beside path t in
    fresh_disjoint b (lines s) (ends_new t path b (beside_is path t (mentions_in s) h))
    (either_false (is_root b) (list_any (is_at b) (mentions_in s)) h.fresh)

-- the two paths are not at or under one another
pub other_keys : (t : List ℕ) (p b more r : List Part) → IsBeside t p b → p ++ more ≡ b ++ r → p ≡ b
other_keys t p b more r h e =
    let rest : key h.old ∷ more ≡ key t ∷ r =
    cancel h.prefix (key h.old ∷ more) (key t ∷ r)
    (sym (append_assoc h.prefix (key h.old ∷ []) more) ∙ ap (λ q. q ++ more) (sym h.was) ∙ e ∙ ap (λ q. q ++ r) h.is
    ∙ append_assoc h.prefix (key t ∷ []) r) in
    let same : key h.old ≡ key t = cc in
    h.was ∙ ap (λ x. h.prefix ++ x ∷ []) same ∙ sym h.is

-- ---- rules and tree

abbrev pub IsMentioned : List Part → List Part → List Mention → List Mention → Type 0
IsMentioned p b from to = to ≡ map (moved (moved_path p b)) from

none_under : (t : List ℕ) (p b : List Part) → IsBeside t p b → (p ≡ b → ⊥) → (ms : List Mention)
    → AllOf (IsDisjoint p) (map (moved (moved_path p b)) ms)
none_under t p b h other [] = tt
none_under t p b h other (m ∷ ms) = (
  elim (none_or_some (strip p m.path)) [
    | inl e ↦ ap (strip p) (disjoint_renamed p b m.path e) ∙ e
    | inr u ↦ elim (none_or_some (strip p (moved_path p b m.path))) [
      | inl e ↦ e
      | inr v ↦
          absurd (other (other_keys t p b v.0 u.0 h
          (sym (strip-sound p (moved_path p b m.path) v.0 v.1) ∙ under_renamed p b m.path u.0 u.1)))
    ]
  ],
  none_under t p b h other ms,
)

pub tree_renamed : (path : List Part) (t : List ℕ) (from to : List Mention) → IsBeside t path (beside path t)
    → (path ≡ beside path t → ⊥) → AllOf (IsDisjoint (beside path t)) from → IsMentioned path (beside path t) from to
    → IsTreeOf from (rename path t) to
tree_renamed path t from to h other clear mentioned q = by (strip (beside path t) q) (strip path q) refl refl
  where
    facts : (f : List Part) → strip (beside path t) f ≡ None
        → fact_at (moved_path path (beside path t) f) to ≡ fact_at f from
    facts f e =
        ap (λ l. fact_at (moved_path path (beside path t) f) l) mentioned
        ∙ ap (λ l. first_of (filter_map fact_of l))
        (mentions_moved (λ x. strip (beside path t) x ≡ None) (moved_path path (beside path t))
        (renamed_injective path (beside path t)) f e from clear)

    old_clear : (more : List Part) → strip (beside path t) (path ++ more) ≡ None
    old_clear more = elim (none_or_some (strip (beside path t) (path ++ more))) [
      | inl e ↦ e
      | inr u ↦
          absurd (other (other_keys t path (beside path t) more u.0 h
          (strip-sound (beside path t) (path ++ more) u.0 u.1)))
    ]

    by : (o o' : Option (List Part)) → strip (beside path t) q ≡ o → strip path q ≡ o'
        → fact_at q to ≡ fact_from from [] (elim
        o [ Some more ↦ from_path (path ++ more) | None ↦ elim o' [ Some more ↦ nothing | None ↦ from_path q ] ])
    by (Some more) o' e e' =
        let there : moved_path path (beside path t) (path ++ more) ≡ q =
        under_renamed path (beside path t) (path ++ more) more (strip-append path more)
        ∙ sym (strip-sound (beside path t) q more e) in
        ap (λ x. fact_at x to) (sym there) ∙ facts (path ++ more) (old_clear more)
    by None (Some more) e e' =
        ap (fact_at q) mentioned
        ∙ ap (λ l. first_of (filter_map fact_of l))
        (kinds_at-disjoint path q more (map (moved (moved_path path (beside path t))) from)
        (none_under t path (beside path t) h other from) e')
    by None None e e' = ap (λ x. fact_at x to) (sym (disjoint_renamed path (beside path t) q e')) ∙ facts q e

-- ---- the document

pub valid_rename : (profile : Profile) (s : Document) (path b : List Part) (t : List ℕ) → IsDocument profile s
    → IsKeyText profile t → IsBeside t path b → EachTo (IsDocument profile) (change s (rename path t))
valid_rename profile s path b t valid text h =
    to_or_else (IsDocument profile) _ _
    (to_within (IsPage profile) (IsDocument profile) (with_page s) _ []
    (in_lines (rename_line (key_part t) path) start s.ended s.last) (λ g k. record { ended = k.ended; last = k.last })
    (valid_lines profile (rename_line (key_part t) path)
    (λ r l v.
    each_to (IsLineRenamed profile path b r l) (IsLine profile) (rename_line (key_part t) path r l) (λ l' k. k.valid v)
    (line_renamed profile t path b text h r l)) start s.ended s.last valid.ended valid.last))
    (to_within (IsPage profile) (IsDocument profile) (with_page s) _ []
    (in_lines (in_line (renaming (key_part t)) path) start s.ended s.last)
    (λ g k. record { ended = k.ended; last = k.last })
    (valid_lines profile (in_line (renaming (key_part t)) path)
    (λ r l. valid_line profile (renaming (key_part t)) (valid_renaming profile t text) path r l) start s.ended s.last
    valid.ended valid.last))

pub rename_depth : (profile : Profile) (s : Document) (path b : List Part) (t : List ℕ) → IsKeyText profile t
    → IsBeside t path b → EachTo (λ s'. depth s' ≤ depth s) (change s (rename path t))
rename_depth profile s path b t text h =
    to_or_else (λ s'. depth s' ≤ depth s) _ _
    (in_document_depth s (in_lines (rename_line (key_part t) path) start s.ended s.last)
    (pages_depth (rename_line (key_part t) path)
    (λ r l. each_to (IsLineRenamed profile path b r l) (NoDeeperLine l) (rename_line (key_part t) path r l)
    (λ l' k. omega (arith, k.content.deep)) (line_renamed profile t path b text h r l)) start s.ended s.last))
    (in_document_depth s (in_lines (in_line (renaming (key_part t)) path) start s.ended s.last)
    (pages_depth (in_line (renaming (key_part t)) path)
    (line_depths (renaming (key_part t)) (flat_renaming profile t text) path) start s.ended s.last))

-- ---- the law

pub record IsRenamedWhole (profile : Profile) (s : Document) (path : List Part) (t : List ℕ) : Type 0 where
  pub changed : Changed Document
  pub is : change s (rename path t) ≡ Some changed
  pub whole : IsSetWhole profile s (rename path t) changed
  pub flat : depth changed.to ≤ depth s
  pub by_line : IsMovedTo path (beside path t) s changed.to
  pub moved : IsDocumentMoved (moved_path path (beside path t)) s changed.to
  pub two : IsBeside t path (beside path t)
  pub clear : AllOf (IsDisjoint (beside path t)) (mentions_in s)

pub rename_whole : (profile : Profile) (limit : ℕ) (s : Document) (path : List Part) (t : List ℕ) → IsDocument profile s
    → ObeysRules (marks (mentions_in s)) → IsUtf8 t
    → refusal profile limit s (rename path t) ≡ None → IsRenamedWhole profile s path t
rename_whole profile limit s path t valid obeys utf8 allowed =
    let ms : List Mention = mentions_in s in
    let b : List Part = beside path t in
    let e = rename path t in
    let rules : Rules ms = rules_of_document s obeys in
    let h = renamable profile limit s path t allowed in
    let text : IsKeyText profile t = key_text profile t utf8 in
    let two : IsBeside t path b = beside_is path t ms h in
    let clear : AllOf (IsDisjoint b) ms = fresh_clear s path t h in
    let once : Once path ms = once_counted path ms rules (omega (arith, h.marks)) in
    let other : path ≡ b → ⊥ =
    λ same. (let x : is_node b ms ≡ true = subst (λ (q : List Part). is_node q ms ≡ true) same h.node in
    let y = h.fresh in absurd cc) in
    let moves : EachTo (IsMovedTo path b s) (change s e) =
    to_or_else (IsMovedTo path b s) _ _ (moved_lines profile s path b t text two clear once)
    (moved_nested profile s path b t valid rules text two once) in
    let mentioned : EachTo (λ s'. IsMentioned path b ms (mentions_in s')) (change s e) =
    each_to (IsMovedTo path b s) (λ s'. IsMentioned path b ms (mentions_in s')) (change s e)
    (λ s' k. mentions_of_moved (moved_path path b) start start (lines s) (lines s') k) moves in
    let lawful : EachTo (IsLawful s e) (change s e) =
    each_to (λ s'. IsMentioned path b ms (mentions_in s')) (IsLawful s e) (change s e)
    (λ s' k. record {
      rules = subst Rules (sym k) (rules_moved (λ x. strip b x ≡ None) (moved_path path b) (renamed_injective path b) ms
          clear rules);
      tree = tree_renamed path t ms (mentions_in s') two other clear k;
    }) mentioned in
    let (c, is) =
    the_some (change s e) (some_rename profile s path t valid rules (ends_old t path b two)
    (some_counted path ms (omega (arith, h.marks)))) in
    record {
      changed = c;
      is = is;
      whole = subst (EachChange (IsSetWhole profile s e)) is
          (together profile s e (change s e) (valid_rename profile s path b t valid text two) (change-is s e) lawful);
      flat = subst (EachTo (λ s'. depth s' ≤ depth s)) is (rename_depth profile s path b t text two);
      by_line = subst (EachTo (IsMovedTo path b s)) is moves;
      moved = moved_document (moved_path path b) s c.to (subst (EachTo (IsMovedTo path b s)) is moves);
      two = two;
      clear = clear;
    }
