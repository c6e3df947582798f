-- A key in braces renamed: what the entries say then, that they are still valid, and that they are as deep.
--
-- `entries_renamed` goes along the entries to the first whose keys begin with the path. By its length the path gives
-- the number of the key part that leads to it (`prefix_part`), and what this entry says is what it said with the paths
-- changed (`here_renamed`). The path is named once (`Once`), so the other entries say nothing at it or under it
-- (`closed_entries`), and what they say stays: of those after the entry by `here_renamed`, of those before it by
-- `later_renamed`. Only a name is replaced, by one that is valid where the old one is (`name_renamed`), so the entries
-- stay valid and as deep. The last three lemmas go from the entries to the value around them.
--
-- Theorems: `does_rename`: what the entries of the value say then; `valid_renaming`: it is still valid;
-- `flat_renaming`: it is no deeper.
use Rattle.std.proofs.Common.{◌≡◌, ℕ, ◌+◌, ◌-◌, List, [], ◌∷◌, ◌++◌, length, map, refl, sym, ap, subst, ◌∙◌}
use Rattle.std.proofs.Common.{append_assoc, arith, Option, Some, None}
use Rattle.std.proofs.lemmas.List.{map-append}
use Rattle.keep_types.specs.declared.leaf.Profile.{Profile}
use Rattle.keep_syntax.specs.Tree.{Gap, Name, Body, Entries, none, entry, Value, opening, closing, comma_leaves}
use Rattle.keep_syntax.specs.Tree.{entries_depth, text_of}
use Rattle.keep_syntax.specs.Grammar.{IsName, IsNamed, AreEntries, IsValue, Place, in_scalar, in_array, in_inline}
use Rattle.keep_path.specs.Path.{Part, key, same_part, moved_path}
use Rattle.keep_meaning.specs.Marks.{value, Mention, below}
use Rattle.keep_meaning.specs.Meaning.{keys_of, body_fact, valued_mentions, keyed_mentions, entry_mentions}
use Rattle.keep_meaning.specs.Meaning.{entries_mentions, step}
use Rattle.keep_edit_spec.specs.Look.{strip}
use Rattle.keep_edit_spec.specs.Changed.{within}
use Rattle.keep_edit_spec.specs.Values.{entries_text, entry_prefix, entry_back, rename_name, rename_entry, renaming}
use Rattle.keep_edit_spec.specs.Edits.{key_part}
use Rattle.keep_edit_spec.proofs.Common.Runs.{SomeOf, some_left, some_right}
use Rattle.keep_edit_spec.proofs.Common.SetLaw.{IsSolidAt, EachTo, to_within, map_none, under_part, closed_named}
use Rattle.keep_edit_spec.proofs.Common.SetLaw.{closed_entries, disjoint_closed}
use Rattle.keep_edit_spec.proofs.Common.SetValid.{SameEnd, comma_preserved, IsActValid}
use Rattle.keep_edit_spec.proofs.Common.Moves.{moved}
use Rattle.keep_edit_spec.proofs.Common.NewLines.{IsKeyText}
use Rattle.keep_edit_spec.proofs.Common.InValue.{Does}
use Rattle.keep_edit_spec.proofs.Common.ActDepth.{NoDeeper, IsActFlat, around_less}
use Rattle.keep_edit_spec.proofs.Rename.RenamedPath.{IsBeside, ends_old, moved_disjoint}
use Rattle.keep_edit_spec.proofs.Rename.RenamedKeys.{AreRenamed}
use Rattle.keep_edit_spec.proofs.Rename.RenamedParts.{IsPart, keys_renamed, keyed_solid, part_reaches, keyed_renamed}
use Rattle.keep_edit_spec.proofs.Rename.RenameKey.{IsNameRenamed, name_renamed}
use Rattle.keep_edit_spec.proofs.Rename.RenameOnce.{Once, once_after, once_right}
use Rattle.keep_edit_spec.proofs.Rename.RenameContent.{root_renamed}

-- ---- the part that a path names, where the path is a prefix of the keys

part_after : (at : List Part) (q : Part) (qs : List Part) (k : List ℕ) (ks : List (List ℕ)) (more : List Part)
    → (q ≡ key k) × (strip qs (map key ks) ≡ Some more)
    → ((r : Part) (rs : List Part) → strip (r ∷ rs) (map key ks) ≡ Some more
    → IsPart ((at ++ key k ∷ []) ++ r ∷ rs) [] (at ++ key k ∷ []) (length rs) ks)
    → IsPart (at ++ q ∷ qs) [] at (length qs) (k ∷ ks)
part_after at q [] k ks more (same, rest) ih = ap (λ x. at ++ x ∷ []) (sym same)
part_after at q (r ∷ rs) k ks more (same, rest) ih =
    let whole : (at ++ key k ∷ []) ++ r ∷ rs ≡ at ++ q ∷ r ∷ rs =
    append_assoc at (key k ∷ []) (r ∷ rs) ∙ ap (λ x. at ++ x ∷ r ∷ rs) (sym same) in
    subst (λ x. IsPart x [] (at ++ key k ∷ []) (length rs) ks) whole (ih r rs rest)

pub prefix_part : (at : List Part) (q : Part) (qs : List Part) (keys : List (List ℕ)) (more : List Part)
    → strip (q ∷ qs) (map key keys) ≡ Some more → IsPart (at ++ q ∷ qs) [] at (length qs) keys
prefix_part at q qs [] more e = absurd cc
prefix_part at q qs (k ∷ ks) more e =
    part_after at q qs k ks more (under_part q (key k) qs (map key ks) more (same_part q (key k)) refl e)
    (λ r rs g. prefix_part (at ++ key k ∷ []) r rs ks more g)

-- ---- entries

pub record AreEntriesRenamed (profile : Profile) (t : List ℕ) (p : List Part) (n : ℕ) (from to : Entries) : Type 0 where
  pub some : SomeOf (IsSolidAt p) (entries_mentions n from)
  pub mentioned : (b : List Part) → IsBeside t p b → Once p (entries_mentions n from)
      → entries_mentions n to ≡ map (moved (moved_path p b)) (entries_mentions n from)
  pub valid : (place : Place) → AreEntries profile place from → AreEntries profile place to
  pub end : SameEnd from to
  pub deep : entries_depth to ≡ entries_depth from

named_preserved : (profile : Profile) (place : Place) (name name' : Name) → (IsName profile name → IsName profile name')
    → IsNamed profile place (Some name) → IsNamed profile place (Some name')
named_preserved profile in_scalar name name' f h = h
named_preserved profile in_array name name' f h = h
named_preserved profile in_inline name name' f h = f h

-- this entry
here_renamed : (profile : Profile) (t : List ℕ) (q : Part) (qs : List Part) (n : ℕ) (name name' : Name) (body : Body)
    (nested : Entries) (after : Gap) (comma : Option Gap) (rest : Entries) (more : List Part)
    → strip (q ∷ qs) (map key (keys_of name.key)) ≡ Some more → IsNameRenamed profile t (length qs) name name'
    → AreEntriesRenamed profile t (q ∷ qs) n (entry (Some name) body nested after comma rest)
    (entry (Some name') body nested after comma rest)
here_renamed profile t q qs n name name' body nested after comma rest more e h =
    let p : List Part = q ∷ qs in
    let keys : List (List ℕ) = keys_of name.key in
    let vs : List Mention = valued_mentions (value (body_fact body)) (entries_mentions 0 nested) in
    let part : IsPart p [] [] (length qs) keys = prefix_part [] q qs keys more e in
    let first : List Mention = keyed_mentions keys vs in
    let solid_first : SomeOf (IsSolidAt p) first =
    subst (SomeOf (IsSolidAt p)) (map_none first)
    (keyed_solid p [] (length qs) keys (value (body_fact body)) (entries_mentions 0 nested) refl part) in
    record {
      some = some_left (IsSolidAt p) first (entries_mentions (n + 1) rest) solid_first;
      mentioned = λ b beside once.
          (let f : List Part → List Part = moved_path p b in
          let both : AreRenamed p b [] [] keys (keys_of name'.key) =
          subst (AreRenamed p b [] [] keys) (sym h.keys) (keys_renamed t p b [] [] (length qs) keys beside part) in
          let moves : map (moved f) first ≡ keyed_mentions (keys_of name'.key) vs =
          ap (map (moved f)) (sym (map_none first))
          ∙ keyed_renamed p b [] keys (keys_of name'.key) vs both (part_reaches p [] (length qs) keys part)
          ∙ ap (λ x. map (below x) (keyed_mentions (keys_of name'.key) vs)) (root_renamed p b (ends_old t p b beside))
          ∙ map_none (keyed_mentions (keys_of name'.key) vs) in
          let stays : map (moved f) (entries_mentions (n + 1) rest) ≡ entries_mentions (n + 1) rest =
          moved_disjoint p b (entries_mentions (n + 1) rest)
          (disjoint_closed p (entries_mentions (n + 1) rest) (entries_mentions (n + 1) rest)
          (closed_entries (n + 1) rest q qs) (once_after p first (entries_mentions (n + 1) rest) once solid_first)) in
          ap (λ x. x ++ entries_mentions (n + 1) rest) (sym moves) ∙ ap (λ x. map (moved f) first ++ x) (sym stays)
          ∙ sym (map-append (moved f) first (entries_mentions (n + 1) rest)));
      valid = λ place (hn, hb, hi, ha, hc, hr).
          (named_preserved profile place name name' h.valid hn, hb, hi, ha, hc, hr);
      end = tt;
      deep = refl;
    }

-- one after it
later_renamed : (profile : Profile) (t : List ℕ) (q : Part) (qs : List Part) (n : ℕ) (name : Name) (body : Body)
    (nested : Entries) (after : Gap) (comma : Option Gap) (rest rest' : Entries)
    → AreEntriesRenamed profile t (q ∷ qs) (n + 1) rest rest'
    → AreEntriesRenamed profile t (q ∷ qs) n (entry (Some name) body nested after comma rest)
    (entry (Some name) body nested after comma rest')
later_renamed profile t q qs n name body nested after comma rest rest' h =
    let p : List Part = q ∷ qs in
    let first : List Mention = entry_mentions n (Some name) (body_fact body) (entries_mentions 0 nested) in
    record {
      some = some_right (IsSolidAt p) first (entries_mentions (n + 1) rest) h.some;
      mentioned = λ b beside once.
          (let f : List Part → List Part = moved_path p b in
          let stays : map (moved f) first ≡ first =
          moved_disjoint p b first (disjoint_closed p first first
          (closed_named n (Some name) (body_fact body) (entries_mentions 0 nested) (closed_entries 0 nested) q qs)
          (λ s. once_after p first (entries_mentions (n + 1) rest) once s h.some)) in
          ap (λ x. first ++ x) (h.mentioned b beside (once_right p first (entries_mentions (n + 1) rest) once))
          ∙ ap (λ x. x ++ map (moved f) (entries_mentions (n + 1) rest)) (sym stays)
          ∙ sym (map-append (moved f) first (entries_mentions (n + 1) rest)));
      valid = λ place (hn, hb, hi, ha, hc, hr).
          (hn, hb, hi, ha, comma_preserved profile place comma rest rest' h.end hc, h.valid place hr);
      end = tt;
      deep = omega (arith, h.deep);
    }

pub entries_renamed : (profile : Profile) (t : List ℕ) → IsKeyText profile t
    → (q : Part) (qs : List Part) (n : ℕ) (es : Entries)
    → EachTo (AreEntriesRenamed profile t (q ∷ qs) n es) (rename_entry (key_part t) (q ∷ qs) es)
entries_renamed profile t text q qs n none = tt
entries_renamed profile t text q qs n (entry None body nested after comma rest) = tt
entries_renamed profile t text q qs n (entry (Some name) body nested after comma rest) =
    by (entries_renamed profile t text q qs (n + 1) rest) (strip (q ∷ qs) (step 0 (Some name))) refl
  where
    by : EachTo (AreEntriesRenamed profile t (q ∷ qs) (n + 1) rest) (rename_entry (key_part t) (q ∷ qs) rest)
        → (o : Option (List Part)) → strip (q ∷ qs) (step 0 (Some name)) ≡ o
        → EachTo (AreEntriesRenamed profile t (q ∷ qs) n (entry (Some name) body nested after comma rest)) (elim o [
          | Some more ↦
              within (λ nm. entry (Some nm) body nested after comma rest) []
              (text_of (opening body) ++ (entries_text nested
              ++ (text_of (closing body) ++ entry_back after comma rest)))
              (rename_name (key_part t) (length (q ∷ qs) - 1) name)
          | None ↦
              within (entry (Some name) body nested after comma)
              (entry_prefix (Some name) body nested ++ (text_of after ++ text_of (comma_leaves comma))) []
              (rename_entry (key_part t) (q ∷ qs) rest)
        ])
    by ih (Some more) e =
        let number : length (q ∷ qs) - 1 ≡ length qs = omega arith in
        to_within (IsNameRenamed profile t (length (q ∷ qs) - 1) name)
        (AreEntriesRenamed profile t (q ∷ qs) n (entry (Some name) body nested after comma rest))
        (λ nm. entry (Some nm) body nested after comma rest) [] _ (rename_name (key_part t) (length (q ∷ qs) - 1) name)
        (λ nm h.
        here_renamed profile t q qs n name nm body nested after comma rest more e
        (subst (λ m. IsNameRenamed profile t m name nm) number h))
        (name_renamed profile t text (length (q ∷ qs) - 1) name)
    by ih None e =
        to_within (AreEntriesRenamed profile t (q ∷ qs) (n + 1) rest)
        (AreEntriesRenamed profile t (q ∷ qs) n (entry (Some name) body nested after comma rest))
        (entry (Some name) body nested after comma) _ [] (rename_entry (key_part t) (q ∷ qs) rest)
        (λ es h. later_renamed profile t q qs n name body nested after comma rest es h) ih

-- ---- the value around them

pub record IsRenamedTo (t : List ℕ) (more : List Part) (old now : Value) : Type 0 where
  pub fact : body_fact now.body ≡ body_fact old.body
  pub head : Part
  pub tail : List Part
  pub filled : more ≡ head ∷ tail
  pub mentioned : (b : List Part) → IsBeside t more b → Once more (entries_mentions 0 old.nested)
      → entries_mentions 0 now.nested ≡ map (moved (moved_path more b)) (entries_mentions 0 old.nested)

pub does_rename : (profile : Profile) (t : List ℕ) → IsKeyText profile t
    → Does profile (IsRenamedTo t) (renaming (key_part t))
does_rename profile t text [] v valid = tt
does_rename profile t text (q ∷ qs) v valid =
    to_within (AreEntriesRenamed profile t (q ∷ qs) 0 v.nested) (IsRenamedTo t (q ∷ qs) v)
    (λ es. record v { nested = es }) (text_of (opening v.body)) (text_of (closing v.body))
    (rename_entry (key_part t) (q ∷ qs) v.nested)
    (λ es h. record { fact = refl; head = q; tail = qs; filled = refl; mentioned = h.mentioned })
    (entries_renamed profile t text q qs 0 v.nested)

pub valid_renaming : (profile : Profile) (t : List ℕ) → IsKeyText profile t → IsActValid profile (renaming (key_part t))
valid_renaming profile t text [] v valid = tt
valid_renaming profile t text (q ∷ qs) v valid =
    to_within (AreEntriesRenamed profile t (q ∷ qs) 0 v.nested) (IsValue profile) (λ es. record v { nested = es })
    (text_of (opening v.body)) (text_of (closing v.body)) (rename_entry (key_part t) (q ∷ qs) v.nested)
    (λ es h. record { body = valid.body; nested = h.valid _ valid.nested })
    (entries_renamed profile t text q qs 0 v.nested)

-- a value gets no deeper by it
pub flat_renaming : (profile : Profile) (t : List ℕ) → IsKeyText profile t → IsActFlat (renaming (key_part t))
flat_renaming profile t text [] v = tt
flat_renaming profile t text (q ∷ qs) v =
    to_within (AreEntriesRenamed profile t (q ∷ qs) 0 v.nested) (NoDeeper v) (λ es. record v { nested = es })
    (text_of (opening v.body)) (text_of (closing v.body)) (rename_entry (key_part t) (q ∷ qs) v.nested)
    (λ es h. around_less v.body (entries_depth es) (entries_depth v.nested) (omega (arith, h.deep)))
    (entries_renamed profile t text q qs 0 v.nested)
