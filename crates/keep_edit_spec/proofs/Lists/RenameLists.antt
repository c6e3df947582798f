-- If one of some edits that are made at once renames a key, the others with another rename of it are at once too; and
-- they make what a later rename of the renamed key makes after all of them.
--
-- Each of the others leaves the rename alone, or is left alone by it (`each_either`); and it allows the other key, so
-- it leaves the other rename alone (`alone_new`). A rename takes bytes, and is then left alone by what it leaves alone
-- (`left_back`), so it could come last (RunLists). After the others the first rename and the one that comes in its
-- place each make their change, so the law of a key that is renamed twice says what a rename of the renamed key makes
-- after the first.
--
-- Theorem: `run_goes_on_renamed`.
use Rattle.std.proofs.Common.{◌≡◌, ℕ, ◌<◌, List, [], ◌∷◌, ◌++◌, length, All, refl, sym, ap, subst, subst₂, ◌∙◌}
use Rattle.std.proofs.Common.{inl, inr, None, Some}
use Rattle.std.specs.Prelude.{◌⊎◌}
use Rattle.std.proofs.lemmas.List.Elements.{All-cons, All-head, All-nil, All-tail, All-weaker}
use Rattle.keep_types.specs.declared.leaf.Profile.{Profile}
use Rattle.keep_syntax.specs.Tree.{Document}
use Rattle.keep_path.specs.Path.{Part, beside}
use Rattle.keep_edit_spec.specs.InsertKinds.{Added}
use Rattle.keep_edit_spec.specs.Edits.{Edit, append_element, append_table, edited_document, insert, remove, rename, set}
use Rattle.keep_edit_spec.specs.Laws.{IsEditable}
use Rattle.keep_edit_spec.specs.RenameLists.{AllowsKey, IsRenameIn, RunGoesOnRenamed}
use Rattle.keep_edit_spec.specs.RenamedKeys.{IsRenamedAgain, RenamesKey}
use Rattle.keep_edit_spec.specs.RunLists.{AreAtOnce, IsOneOf, MadeEdit, changes_of, document_after, lines_of}
use Rattle.keep_edit_spec.specs.RunLists.{made, seen_of}
use Rattle.keep_edit_spec.specs.Runs.{IsRun, KeepsPlace, LeavesAlone, MakesChange, seen}
use Rattle.keep_edit_spec.specs.TextChanges.{IsBeside, TextChange, change_at, moved_by_all, moved_past}
use Rattle.keep_edit_spec.proofs.Lists.RenameTwice.{renames_again, same_places, wrote_key}
use Rattle.keep_edit_spec.proofs.Lists.RunLists.{ComesLast, beside_rest, each_apart, each_of_others, last_of}
use Rattle.keep_edit_spec.proofs.Lists.RunLists.{moves_past, others, run_before, run_is_known, same_document}
use Rattle.keep_edit_spec.proofs.Rename.RenamedParts.{strip_self}

-- ---- one of them

-- a rename of the key, among them
record HasRename (path : List Part) (ms : List MadeEdit) : Type 0 where
  text : List ℕ
  c : TextChange
  rest : List MadeEdit
  one : IsOneOf (made (rename path text) c) ms rest

has_rename : (path : List Part) (ms : List MadeEdit) → IsRenameIn path ms → HasRename path ms
has_rename path [] h = absurd h
has_rename path (m ∷ ms) (inl (text, same)) = record {
  text = text;
  c = m.change;
  rest = ms;
  one = record { later = []; earlier = ms; all = ap (λ (e : Edit). made e m.change ∷ ms) same; others = refl };
}
has_rename path (m ∷ ms) (inr h) =
    let there : HasRename path ms = has_rename path ms h in
    record {
      text = there.text;
      c = there.c;
      rest = m ∷ there.rest;
      one = record {
        later = m ∷ there.one.later;
        earlier = there.one.earlier;
        all = ap (λ (l : List MadeEdit). m ∷ l) there.one.all;
        others = ap (λ (l : List MadeEdit). m ∷ l) there.one.others;
      };
    }

-- ---- what leaves a rename alone

-- Two renames of one path do not leave one another alone.
not_alone : (path : List Part) (text more : List ℕ) → LeavesAlone (rename path text) (rename path more) → ⊥
not_alone path text more h = let k : Some [] ≡ None = sym (strip_self path) ∙ h.below in absurd cc

-- two edits of which one leaves the other alone
abbrev IsEither : Edit → Edit → Type 0
IsEither e f = LeavesAlone f e ⊎ LeavesAlone e f

-- What leaves alone one rename of a path, and allows another key, leaves the rename to that alone.
alone_new : (path : List Part) (text more : List ℕ) (f : Edit) → IsEither (rename path text) f
    → AllowsKey path more f → LeavesAlone f (rename path more)
alone_new path text more (insert other new) (inl h) k = (h.0, k)
alone_new path text more (insert other new) (inr h) k = ((h.0.1, h.0.0), k)
alone_new path text more (remove other) (inl h) k = (h.0, k)
alone_new path text more (remove other) (inr h) k = ((h.0.1, h.0.0), k)
alone_new path text more (set other new) (inl h) k = (h.0, k)
alone_new path text more (set other new) (inr h) k = ((h.0.1, h.0.0), k)
alone_new path text more (rename other name) (inl h) (inl same) =
    absurd (not_alone path name text (subst (λ (q : List Part). LeavesAlone (rename q name) (rename path text)) same h))
alone_new path text more (rename other name) (inr h) (inl same) =
    absurd (not_alone path text name (subst (λ (q : List Part). LeavesAlone (rename path text) (rename q name)) same h))
alone_new path text more (rename other name) h (inr k) = k
alone_new path text more (append_table keys) (inl h) k = (h.0, k)
alone_new path text more (append_table keys) (inr h) k = (h.0, k)
alone_new path text more (append_element keys) (inl h) k = (h.0, k)
alone_new path text more (append_element keys) (inr h) k = (h.0, k)

-- What leaves alone one rename of a path, and is left alone by another, leaves that one alone.
left_back : (path : List Part) (text more : List ℕ) (f : Edit) → LeavesAlone f (rename path more)
    → LeavesAlone (rename path text) f → LeavesAlone f (rename path text)
left_back path text more (insert other new) k h = ((h.0.1, h.0.0), h.1)
left_back path text more (remove other) k h = ((h.0.1, h.0.0), h.1)
left_back path text more (set other new) k h = ((h.0.1, h.0.0), h.1)
left_back path text more (rename other name) k h = record { below = k.below; new = λ same. h.new (sym same) }
left_back path text more (append_table keys) k h = h
left_back path text more (append_element keys) k h = h

-- of the edits but one, each leaves that one alone, or is left alone by it
each_either : (profile : Profile) (limit : ℕ) (s : Document) (m : MadeEdit) (later earlier : List MadeEdit)
    → AreAtOnce profile limit s (later ++ m ∷ earlier)
    → All (IsEither (seen s m.edit)) (seen_of s (later ++ earlier))
each_either profile limit s m [] earlier (makes, (alone, more)) =
    All-weaker (λ f. LeavesAlone f (seen s m.edit)) (IsEither (seen s m.edit)) (λ f its. inl its) (seen_of s earlier)
    alone
each_either profile limit s m (x ∷ later) earlier (makes, (alone, (side, more))) =
    All-cons (IsEither (seen s m.edit)) (seen s x.edit) (seen_of s (later ++ earlier))
    (inr (each_apart s (λ f. LeavesAlone f (seen s x.edit)) m later earlier alone).0)
    (each_either profile limit s m later earlier more)

all_both : (P Q R : Edit → Type 0) → ((f : Edit) → P f → Q f → R f) → (fs : List Edit) → All P fs → All Q fs
    → All R fs
all_both P Q R by [] hs ks = All-nil R
all_both P Q R by (f ∷ fs) hs ks =
    All-cons R f fs (by f (All-head P f fs hs) (All-head Q f fs ks))
    (all_both P Q R by fs (All-tail P f fs hs) (All-tail Q f fs ks))

-- ---- renamed again

module _ (profile : Profile) (limit : ℕ) (s : Document) (ms rest : List MadeEdit) (path : List Part) (text : List ℕ)
    (c : TextChange) (more : List ℕ) (d : TextChange) (fine : IsEditable profile limit s)
    (h : AreAtOnce profile limit s ms) (one : IsOneOf (made (rename path text) c) ms rest)
    (allow : All (AllowsKey path more) (seen_of s ms)) (makes : RenamesKey profile limit s path more d) where
  abbrev e : Edit
  e = rename path text

  abbrev f : Edit
  f = rename path more

  some_bytes : MakesChange profile limit s e c → 0 < c.size
  some_bytes its = its.some

  any_place : (edits : List Edit) (changes : List TextChange) (lines : List Added)
      → KeepsPlace s edits changes lines e c
  any_place edits changes lines = tt

  alone_rest : All (λ g. LeavesAlone g f) (seen_of s rest)
  alone_rest =
      all_both (IsEither e) (AllowsKey path more) (λ g. LeavesAlone g f) (alone_new path text more) (seen_of s rest)
      (subst (λ (l : List MadeEdit). All (IsEither e) (seen_of s l)) (sym one.others)
      (each_either profile limit s (made e c) one.later one.earlier (subst (AreAtOnce profile limit s) one.all h)))
      (each_of_others s (AllowsKey path more) (made e c) ms rest one allow).1

  k : ComesLast profile limit s e c ms rest
  k =
      last_of profile limit s e c some_bytes (λ lines never. never) any_place ms rest one
      (All-weaker (λ g. LeavesAlone g f) (λ g. LeavesAlone e g → LeavesAlone g e) (left_back path text more)
      (seen_of s rest) alone_rest) h

  places : (d.at ≡ c.at) × (d.size ≡ c.size)
  places = same_places profile limit s path text c more d fine k.makes makes

  before : IsRun profile limit s (seen_of s rest) (changes_of rest) (lines_of s rest) (document_after s rest)
  before = run_before profile limit s e c ms rest fine k

  beside_others : All (λ x. IsBeside x d) (changes_of rest)
  beside_others = beside_rest profile limit s e c ms rest fine k d (sym places.0) (sym places.1)

  still : AreAtOnce profile limit s (made f d ∷ rest)
  still = (inl (makes, tt), (alone_rest, (beside_others, others profile limit s e c ms rest fine k)))

  now : document_after s ms ≡ edited_document (document_after s rest) e
  now = same_document profile limit s e c ms rest fine k h

  again : (text ≡ more → ⊥) → IsRenamedAgain profile limit (document_after s rest) path text
      (moved_past (changes_of rest) c) more (moved_past (changes_of rest) d)
  again =
      renames_again profile limit (document_after s rest) path text (moved_past (changes_of rest) c) more
      (moved_past (changes_of rest) d) before.editable
      (moves_past profile limit s e c ms rest fine k).0
      (before.later f d makes alone_rest beside_others tt).0

  renames : (text ≡ more → ⊥) → RenamesKey profile limit (document_after s ms) (beside path text) more
      (change_at (moved_by_all (changes_of rest) d.at) (length c.new) d.new)
  renames other =
      subst₂ (λ (t : Document) (n : ℕ). RenamesKey profile limit t (beside path text) more
      (change_at n (length c.new) d.new)) (sym now) (ap (moved_by_all (changes_of rest)) (sym places.0))
      (again other).renames

pub run_goes_on_renamed : RunGoesOnRenamed
run_goes_on_renamed profile limit s ms path more d fine h there allow makes =
    let has : HasRename path ms = has_rename path ms there in
    let rest : List MadeEdit = has.rest in
    let name : List ℕ = has.text in
    let c : TextChange = has.c in
    let last : ComesLast profile limit s (rename path name) c ms rest =
    k profile limit s ms rest path name c more d fine h has.one allow makes in
    let same_place = places profile limit s ms rest path name c more d fine h has.one allow makes in
    let at_once : AreAtOnce profile limit s (made (rename path more) d ∷ rest) =
    still profile limit s ms rest path name c more d fine h has.one allow makes in
    record {
      rest = rest;
      text = name;
      c = c;
      one = has.one;
      changes = last.changes;
      at = sym same_place.0;
      size = sym same_place.1;
      some = last.makes.some;
      utf8 = last.makes.utf8;
      wrote = wrote_key profile limit s path name c fine last.makes;
      renames = renames profile limit s ms rest path name c more d fine h has.one allow makes;
      same = λ other.
          ap (λ (t : Document). edited_document t (rename (beside path name) more))
          (now profile limit s ms rest path name c more d fine h has.one allow makes)
          ∙ (again profile limit s ms rest path name c more d fine h has.one allow makes other).same;
      still = at_once;
      spelled = (run_is_known profile limit s (made (rename path more) d ∷ rest) fine at_once).text;
    }
