-- An edit of an entry makes of any document what the set of the value that holds it makes, if the edit of that entry
-- does so of one in which a value has the same text, at the same path or at another. The entry is an item of an array
-- or a keyval of an inline table.
--
-- What it makes is told by EntryMade, and of an insert by EntryInserts, of a set by EntrySets and of a rename by
-- EntryRenames, each with why it is not refused. A remove is not refused where the entry has a value, and it has one
-- there too. The two paths go on by one step, which the path of the first edit tells (`one_step`).
--
-- Theorems: `still_makes_set`; `of_itself`: an edit is of the same entry as itself.
use Rattle.std.proofs.Common.{◌≡◌, ℕ, Bool, true, false, not, ◌||◌, List, [], ◌∷◌, ◌++◌, take, drop, refl, sym, ap}
use Rattle.std.proofs.Common.{subst, ◌∙◌, None, IsUtf8}
use Rattle.std.specs.List.{AllByRecursion}
use Rattle.std.proofs.lemmas.Option.{same_Some}
use Rattle.keep_types.specs.declared.leaf.Profile.{Profile}
use Rattle.keep_syntax.specs.Tree.{Value, Document, text}
use Rattle.keep_path.specs.Path.{Part, index, key}
use Rattle.keep_meaning.specs.Marks.{Mention}
use Rattle.keep_meaning.specs.Meaning.{mentions_in}
use Rattle.keep_meaning.specs.Nodes.{fact_at, is_node, is_root}
use Rattle.keep_edit_spec.specs.declared.fault.EditFault.TheVariants as fault
use Rattle.keep_edit_spec.specs.Edits.{Edit, append_element, append_table, edited_document, insert, remove, rename, set}
use Rattle.keep_edit_spec.specs.EntryEdits.{AreOfSameEntry, AreSameEntry, CanHold, InsertsEntry, MakesSet, RemovesEntry}
use Rattle.keep_edit_spec.specs.EntryEdits.{RenamesEntry, SetsEntry, StillMakesSet}
use Rattle.keep_edit_spec.specs.Laws.{IsEditable}
use Rattle.keep_edit_spec.specs.Look.{keys_in, last_part}
use Rattle.keep_edit_spec.specs.Refusals.{first_that_holds, has_value, is_one_piece, refusal, refusal_by}
use Rattle.keep_edit_spec.specs.SetValues.{SetsValue}
use Rattle.keep_edit_spec.specs.TextChanges.{TextChange}
use Rattle.keep_edit_spec.proofs.Common.Cuts.{last_part-snoc}
use Rattle.keep_edit_spec.proofs.Common.ValueThere.{alone_of_has}
use Rattle.keep_edit_spec.proofs.Lists.AtHolder.{take_at}
use Rattle.keep_edit_spec.proofs.Lists.EntryInserts.{insert_allowed, insert_same, keyval_allowed, keyval_same, no_root}
use Rattle.keep_edit_spec.proofs.Lists.EntryMade.{remove_there, same_fact, same_valued, still_same}
use Rattle.keep_edit_spec.proofs.Lists.EntryRenames.{rename_allowed, rename_same}
use Rattle.keep_edit_spec.proofs.Lists.EntrySets.{set_allowed, set_same}
use Rattle.keep_edit_spec.proofs.Lists.SetAllowed.{node_alone}

-- ---- the refusal of a remove

pub removable : (profile : Profile) (limit : ℕ) (a : List Part) (p : Part) (ms : List Mention)
    → has_value (a ++ p ∷ []) ms ≡ true → refusal_by profile limit ms (remove (a ++ p ∷ [])) ≡ None
removable profile limit a p ms valued =
    by (is_node (a ++ p ∷ []) ms) (is_root (a ++ p ∷ [])) (is_one_piece (a ++ p ∷ []) ms)
    (node_alone (a ++ p ∷ []) ms (alone_of_has (a ++ p ∷ []) ms valued)) (no_root a p)
    (piece (has_value (a ++ p ∷ []) ms) _ valued)
  where
    piece : (v more : Bool) → v ≡ true → (v || more) ≡ true
    piece true more e = refl
    piece false more e = absurd cc

    by : (x y z : Bool) → x ≡ true → y ≡ false → z ≡ true
        → first_that_holds ((not x, fault.NotFound) ∷ (y, fault.NotKey) ∷ (not z, fault.Scattered) ∷ []) ≡ None
    by x y z e f g = rw (e, f, g) refl

-- ---- the same entry

one_step : (a path : List Part) (p q : Part) → path ≡ a ++ p ∷ [] → path ≡ a ++ q ∷ [] → p ≡ q
one_step a path p q here there =
    same_Some p q (sym (last_part-snoc a p) ∙ ap last_part (sym here ∙ there) ∙ last_part-snoc a q)

-- in the other value it is the same step
there_by : (a path b more : List Part) (part : Part) → path ≡ a ++ part ∷ [] → AreSameEntry a path b more
    → more ≡ b ++ part ∷ []
there_by a path b more part is x =
    x.there ∙ ap (λ (p : Part). b ++ p ∷ []) (one_step a path x.part part x.is is)

pub of_itself : (profile : Profile) (limit : ℕ) (s : Document) (e : Edit) (a : List Part) (value : Value)
    (c : TextChange) → MakesSet profile limit s e a value c → AreOfSameEntry a e a e
of_itself profile limit s (insert path new) a value c h =
    let entry : InsertsEntry s a path new = h.of_entry in
    (record { part = entry.part; is = entry.is; there = entry.is }, refl, entry.utf8)
of_itself profile limit s (remove path) a value c h =
    let entry : RemovesEntry s a path = h.of_entry in
    record { part = entry.part; is = entry.is; there = entry.is }
of_itself profile limit s (set path new) a value c h =
    let entry : SetsEntry s a path new = h.of_entry in
    (record { part = entry.part; is = entry.is; there = entry.is }, refl)
of_itself profile limit s (rename path name) a value c h =
    let entry : RenamesEntry s a path name = h.of_entry in
    (record { part = entry.part; is = entry.is; there = entry.is }, refl)
of_itself profile limit s (append_table keys) a value c h = absurd h.of_entry
of_itself profile limit s (append_element keys) a value c h = absurd h.of_entry

-- ---- in another document

module _ (profile : Profile) (limit : ℕ) (s : Document) (a : List Part) (value : Value) (c : TextChange)
    (now : Document) (b : List Part) (d : TextChange) (fine : IsEditable profile limit s)
    (fine_now : IsEditable profile limit now) (to : SetsValue profile limit now b value d)
    (same : take d.size (drop d.at (text now)) ≡ take c.size (drop c.at (text s))) where
  can_hold : (h : SetsValue profile limit s a value c) (part : Part) → CanHold (fact_at a (mentions_in s)) part
      → CanHold (fact_at b (mentions_in now)) part
  can_hold h (index n) holds = same_fact profile limit s a value c now b d fine fine_now h to same ∙ holds
  can_hold h (key k) holds = same_fact profile limit s a value c now b d fine fine_now h to same ∙ holds

  -- an insert is not refused, and makes the same
  record IsStillMade (path : List Part) (new : Value) : Type 0 where
    allowed : refusal profile limit now (insert path new) ≡ None
    makes : edited_document now (insert path new) ≡ edited_document now (set b value)

  still_made : (h : SetsValue profile limit s a value c) (part : Part) (new : Value)
      → CanHold (fact_at a (mentions_in s)) part → refusal profile limit s (insert (a ++ part ∷ []) new) ≡ None
      → edited_document s (insert (a ++ part ∷ []) new) ≡ edited_document s (set a value)
      → IsStillMade (b ++ part ∷ []) new
  still_made h (index n) new holds allowed sets = record {
    allowed = insert_allowed profile limit s a value c now b d fine fine_now h to same n new holds allowed sets;
    makes = insert_same profile limit s a value c now b d fine fine_now h to same n new holds allowed sets;
  }
  still_made h (key k) new holds allowed sets = record {
    allowed = keyval_allowed profile limit s a value c now b d fine fine_now h to same k new holds allowed sets;
    makes = keyval_same profile limit s a value c now b d fine fine_now h to same k new holds allowed sets;
  }

  of_insert : (path more : List Part) (new : Value) → AreSameEntry a path b more → AllByRecursion IsUtf8 (keys_in more)
      → MakesSet profile limit s (insert path new) a value c → MakesSet profile limit now (insert more new) b value d
  of_insert path more new entry utf8 h =
      let part : Part = h.of_entry.part in
      let is : path ≡ a ++ part ∷ [] = h.of_entry.is in
      let is_there : more ≡ b ++ part ∷ [] = there_by a path b more part is entry in
      let made : IsStillMade more new =
      subst (λ (p : List Part). IsStillMade p new) (sym is_there)
      (still_made h.sets part new h.of_entry.holds
      (subst (λ (p : List Part). refusal profile limit s (insert p new) ≡ None) is h.allowed)
      (subst (λ (p : List Part). edited_document s (insert p new) ≡ edited_document s (set a value)) is h.same)) in
      record {
        of_entry = record {
          part = part;
          is = is_there;
          holds = can_hold h.sets part h.of_entry.holds;
          given = h.of_entry.given;
          utf8 = utf8;
        };
        allowed = made.allowed;
        sets = to;
        same = made.makes;
      }

  of_remove : (path more : List Part) → AreSameEntry a path b more → MakesSet profile limit s (remove path) a value c
      → MakesSet profile limit now (remove more) b value d
  of_remove path more entry h =
      let part : Part = h.of_entry.part in
      let is : path ≡ a ++ part ∷ [] = h.of_entry.is in
      let is_there : more ≡ b ++ part ∷ [] = there_by a path b more part is entry in
      let valued : has_value (a ++ part ∷ []) (mentions_in s) ≡ true =
      subst (λ (p : List Part). has_value p (mentions_in s) ≡ true) is h.of_entry.valued in
      let sets : edited_document s (remove (a ++ part ∷ [])) ≡ edited_document s (set a value) =
      subst (λ (p : List Part). edited_document s (remove p) ≡ edited_document s (set a value)) is h.same in
      let still : has_value (b ++ part ∷ []) (mentions_in now) ≡ true =
      same_valued profile limit s a value c now b d fine fine_now h.sets to same part ∙ valued in
      record {
        of_entry = record {
          part = part;
          is = is_there;
          holds = can_hold h.sets part h.of_entry.holds;
          valued = subst (λ (p : List Part). has_value p (mentions_in now) ≡ true) (sym is_there) still;
        };
        allowed = subst (λ (p : List Part). refusal profile limit now (remove p) ≡ None) (sym is_there)
            (removable profile limit b part (mentions_in now) still);
        sets = to;
        same = subst (λ (p : List Part). edited_document now (remove p) ≡ edited_document now (set b value))
            (sym is_there)
            (still_same profile limit s a value c now b d fine fine_now h.sets to same (take_at part)
            (remove (a ++ part ∷ [])) (remove_there profile limit s a value c fine h.sets part valued) sets
            (remove (b ++ part ∷ [])) (remove_there profile limit now b value d fine_now to part still));
      }

  of_set : (path more : List Part) (new : Value) → AreSameEntry a path b more
      → MakesSet profile limit s (set path new) a value c → MakesSet profile limit now (set more new) b value d
  of_set path more new entry h =
      let part : Part = h.of_entry.part in
      let is : path ≡ a ++ part ∷ [] = h.of_entry.is in
      let is_there : more ≡ b ++ part ∷ [] = there_by a path b more part is entry in
      let allowed : refusal profile limit s (set (a ++ part ∷ []) new) ≡ None =
      subst (λ (p : List Part). refusal profile limit s (set p new) ≡ None) is h.allowed in
      let sets : edited_document s (set (a ++ part ∷ []) new) ≡ edited_document s (set a value) =
      subst (λ (p : List Part). edited_document s (set p new) ≡ edited_document s (set a value)) is h.same in
      record {
        of_entry = record {
          part = part;
          is = is_there;
          holds = can_hold h.sets part h.of_entry.holds;
          given = h.of_entry.given;
        };
        allowed = subst (λ (p : List Part). refusal profile limit now (set p new) ≡ None) (sym is_there)
            (set_allowed profile limit s a value c now b d fine fine_now h.sets to same part new h.of_entry.holds
            allowed sets);
        sets = to;
        same = subst (λ (p : List Part). edited_document now (set p new) ≡ edited_document now (set b value))
            (sym is_there)
            (set_same profile limit s a value c now b d fine fine_now h.sets to same part new h.of_entry.holds
            allowed sets);
      }

  of_rename : (path more : List Part) (name : List ℕ) → AreSameEntry a path b more
      → MakesSet profile limit s (rename path name) a value c → MakesSet profile limit now (rename more name) b value d
  of_rename path more name entry h =
      let part : Part = h.of_entry.part in
      let is : path ≡ a ++ part ∷ [] = h.of_entry.is in
      let is_there : more ≡ b ++ part ∷ [] = there_by a path b more part is entry in
      let allowed : refusal profile limit s (rename (a ++ part ∷ []) name) ≡ None =
      subst (λ (p : List Part). refusal profile limit s (rename p name) ≡ None) is h.allowed in
      let sets : edited_document s (rename (a ++ part ∷ []) name) ≡ edited_document s (set a value) =
      subst (λ (p : List Part). edited_document s (rename p name) ≡ edited_document s (set a value)) is h.same in
      record {
        of_entry = record {
          part = part;
          is = is_there;
          holds = can_hold h.sets part h.of_entry.holds;
          utf8 = h.of_entry.utf8;
        };
        allowed = subst (λ (p : List Part). refusal profile limit now (rename p name) ≡ None) (sym is_there)
            (rename_allowed profile limit s a value c now b d fine fine_now h.sets to same part name allowed sets);
        sets = to;
        same = subst (λ (p : List Part). edited_document now (rename p name) ≡ edited_document now (set b value))
            (sym is_there)
            (rename_same profile limit s a value c now b d fine fine_now h.sets to same part name allowed sets);
      }

  of_edits : (e f : Edit) → MakesSet profile limit s e a value c → AreOfSameEntry a e b f
      → MakesSet profile limit now f b value d
  of_edits (insert path new) (insert more other) h (entry, alike, utf8) =
      subst (λ (v : Value). MakesSet profile limit now (insert more v) b value d) (sym alike)
      (of_insert path more new entry utf8 h)
  of_edits (insert path new) (remove more) h entry = absurd entry
  of_edits (insert path new) (set more other) h entry = absurd entry
  of_edits (insert path new) (rename more name) h entry = absurd entry
  of_edits (insert path new) (append_table keys) h entry = absurd entry
  of_edits (insert path new) (append_element keys) h entry = absurd entry
  of_edits (remove path) (remove more) h entry = of_remove path more entry h
  of_edits (remove path) (insert more other) h entry = absurd entry
  of_edits (remove path) (set more other) h entry = absurd entry
  of_edits (remove path) (rename more name) h entry = absurd entry
  of_edits (remove path) (append_table keys) h entry = absurd entry
  of_edits (remove path) (append_element keys) h entry = absurd entry
  of_edits (set path new) (set more other) h (entry, alike) =
      subst (λ (v : Value). MakesSet profile limit now (set more v) b value d) (sym alike)
      (of_set path more new entry h)
  of_edits (set path new) (insert more other) h entry = absurd entry
  of_edits (set path new) (remove more) h entry = absurd entry
  of_edits (set path new) (rename more name) h entry = absurd entry
  of_edits (set path new) (append_table keys) h entry = absurd entry
  of_edits (set path new) (append_element keys) h entry = absurd entry
  of_edits (rename path name) (rename more other) h (entry, alike) =
      subst (λ (k : List ℕ). MakesSet profile limit now (rename more k) b value d) (sym alike)
      (of_rename path more name entry h)
  of_edits (rename path name) (insert more other) h entry = absurd entry
  of_edits (rename path name) (remove more) h entry = absurd entry
  of_edits (rename path name) (set more other) h entry = absurd entry
  of_edits (rename path name) (append_table keys) h entry = absurd entry
  of_edits (rename path name) (append_element keys) h entry = absurd entry
  of_edits (append_table keys) f h entry = absurd h.of_entry
  of_edits (append_element keys) f h entry = absurd h.of_entry

pub still_makes_set : StillMakesSet
still_makes_set profile limit s e a value c now f b d fine fine_now h k same entry =
    of_edits profile limit s a value c now b d fine fine_now k same e f h entry
