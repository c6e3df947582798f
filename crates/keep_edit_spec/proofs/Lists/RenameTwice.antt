-- A key that is renamed twice is as if it was renamed once, to the second key.
--
-- The first rename leads the path to the new one, where one key part names it, with the same number (RenamePlaces).
-- That key part is the one that the first rename wrote (`lead_there`), so the second replaces what the first wrote. It
-- is not refused: at the third path nothing was, and nothing is, since it is neither of the first two (`free`). The
-- text is then that of the second rename alone (`same_text`), and a text is that of one document.
--
-- Theorems: `wrote_key`: what a rename writes; `same_places`: two renames of a path replace the same bytes;
-- `renames_again`.
use Rattle.std.proofs.Common.{◌≡◌, ◌<◌, ◌≤◌, ◌+◌, ℕ, Bool, false, true, List, [], ◌∷◌, ◌++◌, length, take, drop}
use Rattle.std.proofs.Common.{refl, sym, ap, ap₂, subst, ◌∙◌, arith, inl, inr, Option, None, Some, append_assoc}
use Rattle.std.proofs.Common.{length-append}
use Rattle.std.specs.Prelude.{◌||◌}
use Rattle.std.specs.List.{list_any}
use Rattle.std.proofs.lemmas.List.{append-nil, drop_at, length-take-le, take_at}
use Rattle.keep_token.specs.Encoded.{encoded_key}
use Rattle.keep_types.specs.declared.leaf.Profile.{Profile}
use Rattle.keep_types.specs.declared.syntax.KeyPart.{KeyPart}
use Rattle.keep_syntax.specs.Tree as tree
use Rattle.keep_syntax.specs.Tree.{Document}
use Rattle.keep_syntax.proofs.Shared.{one_document}
use Rattle.keep_path.specs.Path.{Part, beside, key, moved_path, strip, without_last}
use Rattle.keep_meaning.specs.Marks.{Mention, MentionKind}
use Rattle.keep_meaning.specs.Meaning.{mentions_in}
use Rattle.keep_meaning.specs.Nodes.{is_node, is_root, kinds_at, mark_count}
use Rattle.keep_edit_spec.specs.Changed.{Place, put}
use Rattle.keep_edit_spec.specs.Edits.{edited_document, place, rename}
use Rattle.keep_edit_spec.specs.Laws.{IsEditable, IsLawfulEdit}
use Rattle.keep_edit_spec.specs.Look.{is_index, last_part}
use Rattle.keep_edit_spec.specs.Refusals.{ends_in_index, refusal}
use Rattle.keep_edit_spec.specs.RenamedKeys.{IsRenamedAgain, RenamesAgain, RenamesKey}
use Rattle.keep_edit_spec.specs.TextChanges.{TextChange, change_at, place_of_change}
use Rattle.keep_edit_spec.proofs.EditLaws.{change_put, place_within, rename_lawful}
use Rattle.keep_edit_spec.proofs.Common.Cuts.{last_part-snoc, without_last-snoc}
use Rattle.keep_edit_spec.proofs.Common.Runs.{none_or_some, strip-sound}
use Rattle.keep_edit_spec.proofs.Lists.PartPlaces.{PartStays, begins_after, begins_there, ends_before}
use Rattle.keep_edit_spec.proofs.Lists.RenameAllowed.{mark_kinds, node_stays, role_count, unrefused}
use Rattle.keep_edit_spec.proofs.Lists.RenamePlaces as places
use Rattle.keep_edit_spec.proofs.Lists.SaidOfPrefixes.{node_kinds}
use Rattle.keep_edit_spec.proofs.Lists.SomeBytes.{rename_has_bytes}
use Rattle.keep_edit_spec.proofs.Rename.RenameNodes.{IsNodeRenamed, nodes_renamed}
use Rattle.keep_edit_spec.proofs.Rename.RenameNumber.{IsKeyRenamed, rename_place_is, rename_placed}
use Rattle.keep_edit_spec.proofs.Rename.RenameWhole.{IsRenamable, beside_is, other_keys, renamable}
use Rattle.keep_edit_spec.proofs.Rename.RenamedParts.{strip_self}
use Rattle.keep_edit_spec.proofs.Rename.RenamedPath.{IsBeside, ends_new, under_renamed}

-- ---- paths

-- siblings with other keys are not below one another
sibling_apart : (t : List ℕ) (p b : List Part) → IsBeside t p b → (p ≡ b → ⊥) → strip p b ≡ None
sibling_apart t p b two other = elim (none_or_some (strip p b)) [
  | inl e ↦ e
  | inr u ↦
      absurd (other (other_keys t p b u.0 [] two (sym (strip-sound p b u.0 u.1) ∙ sym (append-nil b))))
]

-- a sibling of a sibling
beside_twice : (path : List Part) (text more : List ℕ) (old : List Part) (k : List ℕ) → path ≡ old ++ key k ∷ []
    → beside (beside path text) more ≡ beside path more
beside_twice path text more old k is =
    ap (λ (q : List Part). q ++ key more ∷ []) (without_last-snoc (without_last path) (key text))

pub ends_in_key : (q : List Part) (k : List ℕ) → ends_in_index (q ++ key k ∷ []) ≡ false
ends_in_key q k =
    ap (λ (o : Option Part). elim o [ None ↦ false | Some part ↦ is_index part ]) (last_part-snoc q (key k))

pub root_pushed : (q : List Part) (x : Part) → is_root (q ++ x ∷ []) ≡ false
root_pushed [] x = refl
root_pushed (p ∷ q) x = refl

-- one that a key part names is that of a node
marked_node : (q : List Part) (ms : List Mention) → mark_count q ms ≡ 1 → is_node q ms ≡ true
marked_node q ms one = node_kinds q ms ∙ by (kinds_at q ms) (is_root q) (sym (mark_kinds q ms) ∙ one)
  where
    by : (kinds : List MentionKind) (r : Bool) → role_count kinds ≡ 1
        → (r || list_any (λ (k : MentionKind). true) kinds) ≡ true
    by [] r e = absurd (omega (arith, e))
    by (k ∷ ks) true e = refl
    by (k ∷ ks) false e = refl

-- ---- the text

-- What is put in the place of bytes, and then other bytes in the place of those.
put_twice : (bytes : List ℕ) (c d : TextChange) → d.at ≡ c.at → d.size ≡ c.size → c.at ≤ length bytes
    → put (put bytes (place_of_change c)) (place_of_change (change_at c.at (length c.new) d.new))
    ≡ put bytes (place_of_change d)
put_twice bytes c d at size within =
    let a : List ℕ = take c.at bytes in
    let b : List ℕ = drop (c.at + c.size) bytes in
    let long : length a ≡ c.at = length-take-le c.at bytes within in
    let front : take c.at (a ++ (c.new ++ b)) ≡ a = take_at a (c.new ++ b) c.at long in
    let back : drop (c.at + length c.new) (a ++ (c.new ++ b)) ≡ b =
    ap (drop (c.at + length c.new)) (sym (append_assoc a c.new b))
    ∙ drop_at (a ++ c.new) b (c.at + length c.new) (omega (arith, length-append a c.new, long)) in
    ap₂ (λ (x y : List ℕ). x ++ (d.new ++ y)) (front ∙ ap (λ (n : ℕ). take n bytes) (sym at))
    (back ∙ ap (λ (n : ℕ). drop n bytes) (omega (arith, at, size)))

-- ---- two renames of one path

pub wrote_key : (profile : Profile) (limit : ℕ) (s : Document) (path : List Part) (text : List ℕ) (c : TextChange)
    → IsEditable profile limit s → RenamesKey profile limit s path text c → c.new ≡ encoded_key text
wrote_key profile limit s path text c fine h =
    let x : IsLawfulEdit profile limit s (rename path text) =
    rename_lawful profile limit s path text fine h.utf8 h.allowed in
    let one = (renamable profile limit s path text h.allowed).marks in
    let first : IsKeyRenamed path text s x.changed = rename_placed path text s x.changed one x.is in
    sym (ap (λ (p : Place). p.new) (sym (rename_place_is path text s x.changed first x.is) ∙ h.is))

-- the key part that both replace
pub same_places : (profile : Profile) (limit : ℕ) (s : Document) (path : List Part) (text : List ℕ) (c : TextChange)
    (more : List ℕ) (d : TextChange) → IsEditable profile limit s → RenamesKey profile limit s path text c
    → RenamesKey profile limit s path more d → (d.at ≡ c.at) × (d.size ≡ c.size)
same_places profile limit s path text c more d fine h k =
    let x : IsLawfulEdit profile limit s (rename path text) =
    rename_lawful profile limit s path text fine h.utf8 h.allowed in
    let y : IsLawfulEdit profile limit s (rename path more) =
    rename_lawful profile limit s path more fine k.utf8 k.allowed in
    let one = (renamable profile limit s path text h.allowed).marks in
    let first : IsKeyRenamed path text s x.changed = rename_placed path text s x.changed one x.is in
    let second : IsKeyRenamed path more s y.changed = rename_placed path more s y.changed one y.is in
    let same : Some first.own.span ≡ Some second.own.span = sym first.span ∙ second.span in
    let span : first.own.span ≡ second.own.span = cc in
    let here = sym (rename_place_is path text s x.changed first x.is) ∙ h.is in
    let there = sym (rename_place_is path more s y.changed second y.is) ∙ k.is in
    let at : d.at ≡ c.at =
    sym (ap (λ (p : Place). p.start) there) ∙ ap (λ r. r.start) (sym span) ∙ ap (λ (p : Place). p.start) here in
    let end : d.at + d.size ≡ c.at + c.size =
    sym (ap (λ (p : Place). p.end) there) ∙ ap (λ r. r.end) (sym span) ∙ ap (λ (p : Place). p.end) here in
    (at, omega (arith, at, end))

-- the key part that the first replaces, and the bytes that it writes
lead_there : (c d : TextChange) → 0 < c.size → d.at ≡ c.at → d.size ≡ c.size → (q q' : KeyPart)
    → PartStays c.at c.size (length c.new) q q' → q.span.start ≡ d.at → q.span.end ≡ d.at + d.size
    → (q'.span.start ≡ c.at) × (q'.span.end ≡ c.at + length c.new)
lead_there c d some same size q q' (ends_before before start end) at to =
    absurd (omega (arith, before, to, same, size, some))
lead_there c d some same size q q' (begins_there here start end) at to = (start, end)
lead_there c d some same size q q' (begins_after past start end) at to =
    absurd (omega (arith, past, at, same, some))

module _ (profile : Profile) (limit : ℕ) (s : Document) (path : List Part) (text : List ℕ) (c : TextChange)
    (more : List ℕ) (d : TextChange) (fine : IsEditable profile limit s) (h : RenamesKey profile limit s path text c)
    (k : RenamesKey profile limit s path more d) (other : text ≡ more → ⊥) where
  abbrev b : List Part
  b = beside path text

  abbrev now : Document
  now = edited_document s (rename path text)

  first : IsRenamable path text (mentions_in s)
  first = renamable profile limit s path text h.allowed

  second : IsRenamable path more (mentions_in s)
  second = renamable profile limit s path more k.allowed

  two : IsBeside text path b
  two = beside_is path text (mentions_in s) first

  three : IsBeside more path (beside path more)
  three = beside_is path more (mentions_in s) second

  twice : beside b more ≡ beside path more
  twice = beside_twice path text more two.prefix two.old two.was

  -- the new path has the second as a sibling
  from_new : IsBeside more b (beside path more)
  from_new = record {
    prefix = two.prefix;
    old = text;
    was = two.is;
    is = ap (λ (q : List Part). q ++ key more ∷ [])
        (ap without_last two.was ∙ without_last-snoc two.prefix (key two.old));
  }

  goes : moved_path path b path ≡ b
  goes = under_renamed path b path [] (strip_self path) ∙ append-nil b

  abbrev again : TextChange
  again = change_at c.at (length c.new) d.new

  same : (d.at ≡ c.at) × (d.size ≡ c.size)
  same = same_places profile limit s path text c more d fine h k

  place_is : place now (rename b more) ≡ place_of_change again
  place_is =
      places.place_stays profile limit s path text path more fine h.utf8 k.utf8 h.allowed k.allowed b goes
      (ends_new text path b two) c d again h.is k.is refl (lead_there c d h.some same.0 same.1)

  one : mark_count b (mentions_in now) ≡ 1
  one =
      places.one_stays profile limit s path text path more fine h.utf8 k.utf8 h.allowed k.allowed b goes
      (ends_new text path b two)

  -- ---- it is not refused

  renamed : IsNodeRenamed path b s now
  renamed = nodes_renamed profile limit s path text fine.valid fine.obeys h.utf8 h.allowed

  -- at the third path nothing was, and it is neither of the first two
  free : is_node (beside path more) (mentions_in now) ≡ false
  free =
      node_stays path b s now renamed (beside path more) (sibling_apart more path (beside path more) three (λ e.
      (let was : is_node (beside path more) (mentions_in s) ≡ true =
      subst (λ (q : List Part). is_node q (mentions_in s) ≡ true) e first.node in
      let none = second.fresh in
      absurd cc)))
      (sibling_apart more b (beside path more) from_new (λ e. other (last_key e)))
      ∙ second.fresh
    where
      last_key : b ≡ beside path more → text ≡ more
      last_key e =
          let keys : Some (key text) ≡ Some (key more) =
          sym (last_part-snoc (without_last path) (key text)) ∙ ap last_part e
          ∙ last_part-snoc (without_last path) (key more) in
          cc

  allowed : refusal profile limit now (rename b more) ≡ None
  allowed =
      unrefused profile limit b more (mentions_in now) (record {
        node = marked_node b (mentions_in now) one;
        below_root = ap is_root two.is ∙ root_pushed two.prefix (key text);
        by_key = ap ends_in_index two.is ∙ ends_in_key two.prefix text;
        fresh = ap (λ (q : List Part). is_node q (mentions_in now)) twice ∙ free;
        marks = one;
      })

  -- ---- what it makes

  law : IsLawfulEdit profile limit s (rename path text)
  law = rename_lawful profile limit s path text fine h.utf8 h.allowed

  fine_now : IsEditable profile limit now
  fine_now = record { valid = law.reads.valid; shallow = law.reads.shallow; obeys = law.obeys }

  same_text : tree.text (edited_document now (rename b more)) ≡ tree.text (edited_document s (rename path more))
  same_text =
      change_put now (rename b more) ∙ ap (put (tree.text now)) place_is
      ∙ ap (λ (t : List ℕ). put t (place_of_change again))
      (change_put s (rename path text) ∙ ap (put (tree.text s)) h.is)
      ∙ put_twice (tree.text s) c d same.0 same.1
      (omega (arith, place_within s (rename path text), ap (λ (p : Place). p.end) h.is))
      ∙ sym (change_put s (rename path more) ∙ ap (put (tree.text s)) k.is)

  same_document : edited_document now (rename b more) ≡ edited_document s (rename path more)
  same_document =
      one_document profile (edited_document now (rename b more)) (edited_document s (rename path more))
      (rename_lawful profile limit now b more fine_now k.utf8 allowed).reads.valid
      (rename_lawful profile limit s path more fine k.utf8 k.allowed).reads.valid same_text

  goes_on : IsRenamedAgain profile limit s path text c more d
  goes_on = record {
    at = same.0;
    size = same.1;
    renames = record {
      utf8 = k.utf8;
      allowed = allowed;
      some = omega (
        arith,
        rename_has_bytes profile limit now b more fine_now allowed,
        ap (λ (p : Place). p.start) place_is,
        ap (λ (p : Place). p.end) place_is,
      );
      is = place_is;
    };
    same = same_document;
  }

pub renames_again : RenamesAgain
renames_again profile limit s path text c more d fine h k other =
    goes_on profile limit s path text c more d fine h k other
