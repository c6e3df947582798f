-- A rename makes the same change after a remove of another path took a line, beside it.
--
-- The rename finds nothing in that line (RenameLineGone). So it makes the same change as before, at the moved place
-- (LineGone). No key part in the line names the path of the rename, so as many do as before; and what is said without
-- the line was said before, so there is still nothing at the new path. So the rename is not refused (RenameAllowed).
--
-- Theorems: `renamable_without`: a key can be renamed without what is said in other lines; `rename_after_remove`.
use Rattle.std.proofs.Common.{◌≡◌, ℕ, Bool, true, false, ◌||◌, List, ◌++◌, refl, sym, ap, subst, ◌∙◌, arith, Option}
use Rattle.std.proofs.Common.{None}
use Rattle.std.specs.List.{list_any}
use Rattle.std.proofs.lemmas.List.Folds.{list_any-append}
use Rattle.keep_types.specs.declared.leaf.Profile.{Profile}
use Rattle.keep_syntax.specs.Tree.{Document}
use Rattle.keep_path.specs.Path.{Part, beside, strip}
use Rattle.keep_meaning.specs.Marks.{Mention, start}
use Rattle.keep_meaning.specs.Meaning.{line_mentions, lines_mentions, mentions_in}
use Rattle.keep_meaning.specs.Nodes.{is_at, is_node, is_root, mark_count}
use Rattle.keep_edit_spec.specs.Changed.{Changed}
use Rattle.keep_edit_spec.specs.Edits.{change, key_part, nested, rename}
use Rattle.keep_edit_spec.specs.Laws.{IsEditable, IsLawfulEdit}
use Rattle.keep_edit_spec.specs.Lines.{in_document, in_lines, rename_line}
use Rattle.keep_edit_spec.proofs.Lists.TwoKinds.{RenameAfterRemove}
use Rattle.keep_edit_spec.specs.Refusals.{refusal}
use Rattle.keep_edit_spec.specs.RemovedLines.{RemovesLine}
use Rattle.keep_edit_spec.specs.RenamedKeys.{RenamesKey}
use Rattle.keep_edit_spec.specs.TextChanges.{IsBeside, TextChange, moved}
use Rattle.keep_edit_spec.specs.Values.{renaming}
use Rattle.keep_edit_spec.proofs.EditLaws.{rename_lawful}
use Rattle.keep_edit_spec.proofs.Common.InsertLaw.{some_named}
use Rattle.keep_edit_spec.proofs.Common.LineTexts.{rename_line-is}
use Rattle.keep_edit_spec.proofs.Common.Texts.{renaming-is}
use Rattle.keep_edit_spec.proofs.Lists.LineGone as gone
use Rattle.keep_edit_spec.proofs.Lists.RemovedPlaces.{after_is, at_is, before_is, end_is}
use Rattle.keep_edit_spec.proofs.Lists.RenameAllowed.{unrefused}
use Rattle.keep_edit_spec.proofs.Lists.RenameLineGone.{IsTaken, misses, unmarked}
use Rattle.keep_edit_spec.proofs.Lists.SetPlaces.{Stays, either_stays}
use Rattle.keep_edit_spec.proofs.Rename.RenameNumber.{mark_count-append}
use Rattle.keep_edit_spec.proofs.Rename.RenameOnce.{some_counted}
use Rattle.keep_edit_spec.proofs.Rename.RenameWhole.{IsRenamable, renamable}

-- ---- without some of what is said

still_none : (r a m b : Bool) → (r || (a || (m || b))) ≡ false → (r || (a || b)) ≡ false
still_none false false false b e = e
still_none true a m b e = absurd cc
still_none false true m b e = absurd cc
still_none false false true b e = absurd cc

node_without : (q : List Part) (xs ms ys : List Mention) → is_node q (xs ++ (ms ++ ys)) ≡ false
    → is_node q (xs ++ ys) ≡ false
node_without q xs ms ys none =
    let all : list_any (is_at q) (xs ++ (ms ++ ys))
    ≡ (list_any (is_at q) xs || (list_any (is_at q) ms || list_any (is_at q) ys)) =
    list_any-append (is_at q) xs (ms ++ ys)
    ∙ ap (λ (b : Bool). list_any (is_at q) xs || b) (list_any-append (is_at q) ms ys) in
    ap (λ (b : Bool). is_root q || b) (list_any-append (is_at q) xs ys)
    ∙ still_none (is_root q) (list_any (is_at q) xs) (list_any (is_at q) ms) (list_any (is_at q) ys)
    (sym (ap (λ (b : Bool). is_root q || b) all) ∙ none)

node_there : (r b : Bool) → b ≡ true → (r || b) ≡ true
node_there true b e = refl
node_there false b e = e

pub renamable_without : (other : List Part) (key : List ℕ) (ms now earlier here later : List Mention)
    → ms ≡ earlier ++ (here ++ later) → now ≡ earlier ++ later → mark_count other here ≡ 0
    → IsRenamable other key ms → IsRenamable other key now
renamable_without other key ms now earlier here later was are unmarked named =
    let count : mark_count other now ≡ 1 =
    omega (
      arith,
      named.marks,
      ap (mark_count other) was,
      ap (mark_count other) are,
      mark_count-append other earlier (here ++ later),
      mark_count-append other here later,
      mark_count-append other earlier later,
      unmarked,
    ) in
    record {
      node = node_there (is_root other) (list_any (is_at other) now)
          (some_named other now (some_counted other now (omega (arith, count))));
      below_root = named.below_root;
      by_key = named.by_key;
      fresh = ap (is_node (beside other key)) are
          ∙ node_without (beside other key) earlier here later
          (sym (ap (is_node (beside other key)) was) ∙ named.fresh);
      marks = count;
    }

-- ---- after the remove

module _ (profile : Profile) (limit : ℕ) (s : Document) (path : List Part) (c : TextChange) (other : List Part)
    (key : List ℕ) (d : TextChange) (fine : IsEditable profile limit s) (h : RemovesLine profile limit s path c)
    (k : RenamesKey profile limit s other key d) (apart : strip path other ≡ None) (side : IsBeside c d) where
  abbrev now : Document
  now = gone.now profile limit s path c fine h

  abbrev earlier : List Mention
  earlier = lines_mentions start (gone.before profile limit s path c fine h)

  abbrev here : List Mention
  here = line_mentions (gone.r profile limit s path c fine h) (gone.c profile limit s path c fine h).here.line

  abbrev later : List Mention
  later = lines_mentions (gone.r profile limit s path c fine h) (gone.after profile limit s path c fine h)

  taken : IsTaken profile limit s path h.number fine h.own h.closed c
  taken = record {
    from = omega (arith, at_is profile limit s path c h, before_is s path h.number h.bare h.own h.closed);
    to = omega (arith, end_is profile limit s path c h, after_is s path h.number h.bare h.own h.closed);
  }

  was : mentions_in s ≡ earlier ++ (here ++ later)
  was = gone.said_was profile limit s path c fine h

  are : mentions_in now ≡ earlier ++ later
  are = gone.said_now profile limit s path c fine h

  renamable_now : IsRenamable other key (mentions_in now)
  renamable_now =
      renamable_without other key (mentions_in s) (mentions_in now) earlier here later was are
      (unmarked profile limit s path h.number fine h.own h.closed c taken other key d k apart side)
      (renamable profile limit s other key k.allowed)

  allowed_now : refusal profile limit now (rename other key) ≡ None
  allowed_now = unrefused profile limit other key (mentions_in now) renamable_now

  abbrev in_keys : Document → Option (Changed Document)
  in_keys t = in_document t (in_lines (rename_line (key_part key) other) start t.ended t.last)

  stays : Stays (gone.removed profile limit s path c fine h) (change s (rename other key))
      (change now (rename other key))
  stays =
      either_stays (gone.removed profile limit s path c fine h) (in_keys s) (in_keys now)
      (nested (renaming (key_part key)) other s) (nested (renaming (key_part key)) other now)
      (gone.document_without profile limit s path c fine h (rename_line (key_part key) other)
      (λ r l. rename_line-is (key_part key) other r l)
      (misses profile limit s path h.number fine h.own h.closed c taken other key d k apart side))
      (gone.nested_without profile limit s path c fine h (renaming (key_part key)) (renaming-is (key_part key)) other
      apart)

  renames_now : RenamesKey profile limit now other key (moved c d)
  renames_now =
      let law : IsLawfulEdit profile limit s (rename other key) =
      rename_lawful profile limit s other key fine k.utf8 k.allowed in
      record {
        utf8 = k.utf8;
        allowed = allowed_now;
        some = k.some;
        is =
            gone.place_without profile limit s path c fine h d (rename other key) law.changed law.is k.is k.some stays;
      }

pub rename_after_remove : RenameAfterRemove
rename_after_remove profile limit s path c other key d fine h k apart differ side =
    subst (λ (t : Document). RenamesKey profile limit t other key (moved c d))
    (sym (gone.is_now profile limit s path c fine h))
    (renames_now profile limit s path c other key d fine h k apart.0 side)
