-- A rename makes the same change after a set made its own elsewhere.
--
-- A set replaces what is said at and below its path. So of a path that does not begin with it the same is said as
-- before (`kinds_stay`): of the rename's path, and of the path that the rename leads to. That is all that a refusal
-- asks (RenameAllowed). Where the rename is made is known from SetRenamePlaces.
--
-- Theorem: `rename_after_set`.
use Rattle.std.proofs.Common.{◌≡◌, ℕ, true, ◌||◌, List, ◌++◌, sym, ap, subst, ◌∙◌, Option, Some, None}
use Rattle.std.specs.List.{list_any}
use Rattle.keep_syntax.specs.Tree.{Document, Value}
use Rattle.keep_path.specs.Path.{Part, beside, strip}
use Rattle.keep_meaning.specs.Marks.{Mention, MentionKind}
use Rattle.keep_meaning.specs.Meaning.{body_fact, entries_mentions, mentions_in}
use Rattle.keep_meaning.specs.Nodes.{is_node, is_root, kinds_at}
use Rattle.keep_edit_spec.specs.Changed.{Changed}
use Rattle.keep_edit_spec.specs.Edits.{change, changed_or_same, edited_document, rename, set}
use Rattle.keep_edit_spec.specs.Laws.{IsLawfulEdit}
use Rattle.keep_edit_spec.proofs.Lists.TwoKinds.{RenameAfterSet}
use Rattle.keep_edit_spec.proofs.EditLaws.{rename_lawful, set_lawful}
use Rattle.keep_edit_spec.proofs.Common.Marks.{rules_of_document}
use Rattle.keep_edit_spec.proofs.Common.Runs.{AllOf, IsUnder, kinds_at-append, kinds_at-under}
use Rattle.keep_edit_spec.proofs.Common.SetDocument.{document_set, under_run}
use Rattle.keep_edit_spec.proofs.Common.SetLaw.{EachTo, IsSet, run, tag_of}
use Rattle.keep_edit_spec.proofs.Lists.RenameAllowed.{mark_kinds, role_count, unrefused}
use Rattle.keep_edit_spec.proofs.Lists.SaidOfPrefixes.{node_kinds}
use Rattle.keep_edit_spec.proofs.Lists.SetRenamePlaces.{rename_stays}
use Rattle.keep_edit_spec.proofs.Lists.SetPlaces.{place_after}
use Rattle.keep_edit_spec.proofs.Rename.RenameWhole.{IsRenamable, renamable}

-- ---- what is said elsewhere

without_run : (path q : List Part) (ms before mid after : List Mention) → ms ≡ before ++ (mid ++ after)
    → AllOf (IsUnder path) mid → strip path q ≡ None → kinds_at q ms ≡ kinds_at q before ++ kinds_at q after
without_run path q ms before mid after was under clear =
    ap (kinds_at q) was ∙ kinds_at-append q before (mid ++ after)
    ∙ ap (λ (k : List MentionKind). kinds_at q before ++ k)
    (kinds_at-append q mid after
    ∙ ap (λ (k : List MentionKind). k ++ kinds_at q after) (kinds_at-under path q mid under clear))

module _ (path : List Part) (value : Value) (ms now : List Mention) (h : IsSet path value ms now) where
  pub kinds_stay : (q : List Part) → strip path q ≡ None → kinds_at q now ≡ kinds_at q ms
  kinds_stay q clear =
      without_run path q now h.before
      (run path (tag_of h.name (body_fact value.body)) (entries_mentions 0 value.nested)) h.after h.is
      (under_run path (tag_of h.name (body_fact value.body)) (entries_mentions 0 value.nested)) clear
      ∙ sym (without_run path q ms h.before (run path (tag_of h.name h.fact) (entries_mentions 0 h.entries)) h.after
      h.was (under_run path (tag_of h.name h.fact) (entries_mentions 0 h.entries)) clear)

  node_stays : (q : List Part) → strip path q ≡ None → is_node q now ≡ is_node q ms
  node_stays q clear =
      node_kinds q now ∙ ap (λ (kinds : List MentionKind). is_root q || list_any (λ (k : MentionKind). true) kinds)
      (kinds_stay q clear) ∙ sym (node_kinds q ms)

  renamable_now : (other : List Part) (key : List ℕ) → strip path other ≡ None → strip path (beside other key) ≡ None
      → IsRenamable other key ms → IsRenamable other key now
  renamable_now other key clear beside_clear g = record {
    node = node_stays other clear ∙ g.node;
    below_root = g.below_root;
    by_key = g.by_key;
    fresh = node_stays (beside other key) beside_clear ∙ g.fresh;
    marks = mark_kinds other now ∙ ap role_count (kinds_stay other clear) ∙ sym (mark_kinds other ms) ∙ g.marks;
  }

-- ---- after a set

-- what is said is the same, but for a run at the path
pub set_run : (s : Document) (path : List Part) (value : Value) (x : Changed Document)
    → change s (set path value) ≡ Some x
    → EachTo (λ (t : Document). IsSet path value (mentions_in s) (mentions_in t)) (change s (set path value))
    → IsSet path value (mentions_in s) (mentions_in (edited_document s (set path value)))
set_run s path value x made h =
    subst (λ (t : Document). IsSet path value (mentions_in s) (mentions_in t))
    (ap (λ (o : Option (Changed Document)). (changed_or_same s o).to) (sym made))
    (subst (EachTo (λ (t : Document). IsSet path value (mentions_in s) (mentions_in t))) made h)

pub rename_after_set : RenameAfterSet
rename_after_set profile limit s path value c other key d fine h k apart apart_new side =
    let first : IsLawfulEdit profile limit s (set path value) =
    set_lawful profile limit s path value fine h.given h.allowed in
    let second : IsLawfulEdit profile limit s (rename other key) =
    rename_lawful profile limit s other key fine k.utf8 k.allowed in
    let now : List Mention = mentions_in (edited_document s (set path value)) in
    let said : IsSet path value (mentions_in s) now =
    set_run s path value first.changed first.is (document_set s path value (rules_of_document s fine.obeys)) in
    record {
      utf8 = k.utf8;
      allowed = unrefused profile limit other key now
          (renamable_now path value (mentions_in s) now said other key apart.0 apart_new.0
          (renamable profile limit s other key k.allowed));
      some = k.some;
      is = place_after s (set path value) (rename other key) c d first.changed second.changed
          (rename_stays s path value other key apart.0 apart.1) first.is second.is k.some h.is k.is;
    }
