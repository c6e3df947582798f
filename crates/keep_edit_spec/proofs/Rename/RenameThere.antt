-- Where a key in braces names a path, `rename` has a change there.
--
-- A mention at the path that is made inside a value comes from one entry: from a part of that entry's key, and then the
-- path is a prefix of its keys, or from what is in its value (`keyed_cases`, `entry_cases`). In the first case that
-- part of the key can be renamed (`entry_there`); in the second the value's entries have the change (`deeper_there`);
-- else it is in a later entry (`after_there`). Items of arrays have no key, so nothing is renamed in front of them
-- (`no_key`).
--
-- Theorems: `entry_cases`; `entry_there`, `value_there`, `deeper_there` and `after_there`.
use Rattle.std.proofs.Common.{◌≡◌, ℕ, zero, suc, ◌+◌, ◌-◌, List, [], ◌∷◌, ◌++◌, length, map, refl, sym, ap, subst, ◌∙◌}
use Rattle.std.proofs.Common.{append_assoc, arith, Option, Some, None, ◌⊎◌, inl, inr}
use Rattle.keep_types.specs.declared.leaf.Profile.{Profile}
use Rattle.keep_syntax.specs.Tree.{Written, Gap, Name, Body, Entries, none, entry, named_leaves, opening, closing}
use Rattle.keep_syntax.specs.Tree.{comma_leaves, text_of}
use Rattle.keep_syntax.specs.Grammar.{IsNamed, AreEntries, Place, in_scalar, in_array, in_inline}
use Rattle.keep_meaning.specs.Fact.{Fact}
use Rattle.keep_path.specs.Path.{Part, key, index}
use Rattle.keep_meaning.specs.Marks.{MentionKind, dotted, value, item, Mention, below}
use Rattle.keep_meaning.specs.Meaning.{key_value, further_value, keys_of, body_fact, valued_mentions, keyed_mentions}
use Rattle.keep_meaning.specs.Meaning.{entry_mentions, entries_mentions, step}
use Rattle.keep_edit_spec.specs.Look.{strip}
use Rattle.keep_edit_spec.specs.Changed.{Changed, within, or_else}
use Rattle.keep_edit_spec.specs.Values.{entries_text, entry_prefix, entry_back, in_entries, rename_name, rename_entry}
use Rattle.keep_edit_spec.specs.Values.{renaming}
use Rattle.keep_edit_spec.proofs.Common.Runs.{AllOf, SomeOf, meet, Rules, IsDisjoint, strip-sound, strip-append}
use Rattle.keep_edit_spec.proofs.Common.SetLaw.{IsSolidAt, map_twice, map_none, disjoint_from_entry}
use Rattle.keep_edit_spec.proofs.Common.LineLaws.{Reaches, EndsInKey}
use Rattle.keep_edit_spec.proofs.Common.ValueThere.{IsSome, some_within, some_first, some_second, some_cases}
use Rattle.keep_edit_spec.proofs.Rename.RenamedPath.{not_index}
use Rattle.keep_edit_spec.proofs.Rename.RenamedParts.{IsPart, part_reaches, strip_self}
use Rattle.keep_edit_spec.proofs.Rename.RenameKey.{some_name}
use Rattle.keep_edit_spec.proofs.Rename.RenameEntry.{prefix_part}

-- ---- where the path is spoken of

-- nothing in brackets speaks of the brackets
below_root : (x : Part) (ms : List Mention) → SomeOf (IsSolidAt []) (map (below (x ∷ [])) ms) → ⊥
below_root x [] s = s
below_root x (m ∷ ms) (inl h) = let e : x ∷ m.path ≡ [] = h.path in absurd cc
below_root x (m ∷ ms) (inr s) = below_root x ms s

keyed_root : (k : List ℕ) (ks : List (List ℕ)) (ms : List Mention) → SomeOf (IsSolidAt []) (keyed_mentions (k ∷ ks) ms)
    → ⊥
keyed_root k [] ms s = below_root (key k) ms s
keyed_root k (l ∷ ks) ms s = below_root (key k) (record { path = []; kind = dotted } ∷ keyed_mentions (l ∷ ks) ms) s

pub entries_root : (n : ℕ) (es : Entries) → SomeOf (IsSolidAt []) (entries_mentions n es) → ⊥
entries_root n none s = s
entries_root n (entry None body nested after comma rest) s =
    elim (some_cases (IsSolidAt []) (entry_mentions n None (body_fact body) (entries_mentions 0 nested))
    (entries_mentions (n + 1) rest) s) [
      | inl a ↦ below_root (index n) (valued_mentions (item (body_fact body)) (entries_mentions 0 nested)) a
      | inr b ↦ entries_root (n + 1) rest b
    ]
entries_root n (entry (Some name) body nested after comma rest) s =
    elim (some_cases (IsSolidAt []) (entry_mentions n (Some name) (body_fact body) (entries_mentions 0 nested))
    (entries_mentions (n + 1) rest) s) [
      | inl a ↦
          keyed_root (key_value name.key.first) (map further_value name.key.more)
          (valued_mentions (value (body_fact body)) (entries_mentions 0 nested)) a
      | inr b ↦ entries_root (n + 1) rest b
    ]

-- what is beyond a prefix, seen from there
pub record IsSolidBeyond (prefix p : List Part) (ms : List Mention) : Type 0 where
  pub rest : List Part
  pub whole : p ≡ prefix ++ rest
  pub some : SomeOf (IsSolidAt rest) ms

pub solid_beyond : (prefix p : List Part) (ms : List Mention) → SomeOf (IsSolidAt p) (map (below prefix) ms)
    → IsSolidBeyond prefix p ms
solid_beyond prefix p [] s = absurd s
solid_beyond prefix p (m ∷ ms) (inl h) =
    record { rest = m.path; whole = sym h.path; some = inl (record { path = refl; kind = h.kind }) }
solid_beyond prefix p (m ∷ ms) (inr s) =
    let h = solid_beyond prefix p ms s in record { rest = h.rest; whole = h.whole; some = inr h.some }

abbrev pub SomePart : List Part → List (List Part) → List Part → List (List ℕ) → Type 0
SomePart p tables at keys = (n : ℕ) × IsPart p tables at n keys

-- a key part speaks of the path, or something in the value does
pub keyed_cases : (p at : List Part) (k : List ℕ) (ks : List (List ℕ)) (mention_kind : MentionKind) (ms : List Mention)
    → SomeOf (IsSolidAt p) (map (below at) (keyed_mentions (k ∷ ks) (valued_mentions mention_kind ms)))
    → SomePart p [] at (k ∷ ks) ⊎ IsSolidBeyond (at ++ map key (k ∷ ks)) p ms
keyed_cases p at k [] mention_kind ms (inl h) = inl (zero, h.path)
keyed_cases p at k [] mention_kind ms (inr s) =
    inr (solid_beyond (at ++ key k ∷ []) p ms (subst (SomeOf (IsSolidAt p)) (map_twice at (key k ∷ []) ms) s))
keyed_cases p at k (l ∷ ks) mention_kind ms (inl h) = inl (zero, h.path)
keyed_cases p at k (l ∷ ks) mention_kind ms (inr s) =
    let inner : List Mention = keyed_mentions (l ∷ ks) (valued_mentions mention_kind ms) in
    elim (keyed_cases p (at ++ key k ∷ []) l ks mention_kind ms
    (subst (SomeOf (IsSolidAt p)) (map_twice at (key k ∷ []) inner) s)) [
      | inl part ↦ inl (suc part.0, part.1)
      | inr b ↦
          inr (record {
            rest = b.rest;
            whole = b.whole
                ∙ ap (λ q. q ++ b.rest) (append_assoc at (key k ∷ []) (map key (l ∷ ks)));
            some = b.some;
          })
    ]

-- the path is a prefix of the entry's keys
abbrev pub IsKeyOf : List Part → Option Name → Type 0
IsKeyOf p None = ⊥
IsKeyOf p (Some name) = Reaches p (map key (keys_of name.key))

pub entry_cases : (p : List Part) → EndsInKey p → (n : ℕ) (name : Option Name) (f : Fact) (ms : List Mention)
    → SomeOf (IsSolidAt p) (entry_mentions n name f ms) → IsKeyOf p name ⊎ IsSolidBeyond (step n name) p ms
entry_cases p ends n None f ms (inl h) = let e : index n ∷ [] ≡ p = h.path in absurd (not_index p [] n ends e)
entry_cases p ends n None f ms (inr s) = inr (solid_beyond (index n ∷ []) p ms s)
entry_cases p ends n (Some name) f ms s =
    let first : List Mention = keyed_mentions (keys_of name.key) (valued_mentions (value f) ms) in
    elim (keyed_cases p [] (key_value name.key.first) (map further_value name.key.more) (value f) ms
    (subst (SomeOf (IsSolidAt p)) (sym (map_none first)) s)) [
      | inl part ↦ inl (part_reaches p [] part.0 (keys_of name.key) part.1)
      | inr b ↦ inr b
    ]

-- ---- the change in entries

-- where the path is a prefix of a key, that part can be renamed
named_there : (new : Written) (q : Part) (qs : List Part) (name : Name) → Reaches (q ∷ qs) (map key (keys_of name.key))
    → IsSome (rename_name new (length (q ∷ qs) - 1) name)
named_there new q qs name u =
    let number : length qs ≡ length (q ∷ qs) - 1 = omega arith in
    subst (λ n. IsSome (rename_name new n name)) number
    (some_name new (q ∷ qs) [] [] (length qs) name (prefix_part [] q qs (keys_of name.key) u.0 u.1))

pub entry_there : (new : Written) (q : Part) (qs : List Part) (name : Name) (body : Body) (nested : Entries)
    (after : Gap) (comma : Option Gap) (rest : Entries)
    → Reaches (q ∷ qs) (map key (keys_of name.key)) ⊎ IsSome (rename_entry new (q ∷ qs) rest)
    → IsSome (rename_entry new (q ∷ qs) (entry (Some name) body nested after comma rest))
entry_there new q qs name body nested after comma rest s = by (strip (q ∷ qs) (step 0 (Some name))) refl s
  where
    by : (o : Option (List Part)) → strip (q ∷ qs) (step 0 (Some name)) ≡ o
        → Reaches (q ∷ qs) (map key (keys_of name.key)) ⊎ IsSome (rename_entry new (q ∷ qs) rest)
        → IsSome {A = Changed Entries} (elim o [
          | Some more ↦
              within (λ nm. entry (Some nm) body nested after comma rest) []
              (text_of (opening body) ++ (entries_text nested
              ++ (text_of (closing body) ++ entry_back after comma rest)))
              (rename_name new (length (q ∷ qs) - 1) name)
          | None ↦
              within (entry (Some name) body nested after comma)
              (entry_prefix (Some name) body nested ++ (text_of after ++ text_of (comma_leaves comma))) []
              (rename_entry new (q ∷ qs) rest)
        ])
    by (Some more) e s =
        some_within (λ nm. entry (Some nm) body nested after comma rest) [] _
        (rename_name new (length (q ∷ qs) - 1) name) (named_there new q qs name (more, e))
    by None e (inr s) = some_within (entry (Some name) body nested after comma) _ [] (rename_entry new (q ∷ qs) rest) s
    by None e (inl u) = absurd (let k : None ≡ Some u.0 = sym e ∙ u.1 in cc)

-- items have no keys
no_key : (profile : Profile) (new : Written) (p : List Part) (es : Entries) → AreEntries profile in_array es
    → IsSome (rename_entry new p es) → ⊥
no_key profile new p none valid s = s
no_key profile new p (entry None body nested after comma rest) valid s = s
no_key profile new p (entry (Some name) body nested after comma rest) valid s = valid.0

pub no_key_after : (profile : Profile) (place : Place) (new : Written) (p : List Part) (es : Entries)
    → IsNamed profile place None → AreEntries profile place es → IsSome (rename_entry new p es) → ⊥
no_key_after profile in_scalar new p es named valid s = named
no_key_after profile in_array new p es named valid s = no_key profile new p es valid s
no_key_after profile in_inline new p es named valid s = named

abbrev pub IsThere : Written → List Part → ℕ → Entries → Type 0
IsThere new p n es = IsSome (in_entries (renaming new) p n es) ⊎ IsSome (rename_entry new p es)

-- a change in the value's entries is one of the value
pub value_there : (new : Written) (more : List Part) (body : Body) (nested : Entries)
    → SomeOf (IsSolidAt more) (entries_mentions 0 nested) → IsThere new more 0 nested
    → IsSome (or_else (within (λ es. record { body = body; nested = es }) (text_of (opening body))
    (text_of (closing body)) (in_entries (renaming new) more 0 nested))
    (renaming new more (record { body = body; nested = nested })))
value_there new more body nested s (inl h) =
    some_first (within (λ es. record { body = body; nested = es }) (text_of (opening body)) (text_of (closing body))
    (in_entries (renaming new) more 0 nested)) (renaming new more (record { body = body; nested = nested }))
    (some_within (λ es. record { body = body; nested = es }) (text_of (opening body)) (text_of (closing body))
    (in_entries (renaming new) more 0 nested) h)
value_there new [] body nested s (inr h) = absurd (entries_root 0 nested s)
value_there new (q ∷ qs) body nested s (inr h) =
    some_second (within (λ es. record { body = body; nested = es }) (text_of (opening body)) (text_of (closing body))
    (in_entries (renaming new) (q ∷ qs) 0 nested)) (renaming new (q ∷ qs) (record { body = body; nested = nested }))
    (some_within (λ es. record { body = body; nested = es }) (text_of (opening body)) (text_of (closing body))
    (rename_entry new (q ∷ qs) nested) h)

-- in this entry's value
pub deeper_there : (new : Written) (p : List Part) (n : ℕ) (name : Option Name) (body : Body) (nested : Entries)
    (after : Gap) (comma : Option Gap) (rest : Entries)
    → IsSolidBeyond (step n name) p (entries_mentions 0 nested)
    → ((more : List Part) → SomeOf (IsSolidAt more) (entries_mentions 0 nested) → p ≡ step n name ++ more
    → IsThere new more 0 nested)
    → IsSome (in_entries (renaming new) p n (entry name body nested after comma rest))
deeper_there new p n name body nested after comma rest b deeper =
    let e : strip (step n name) p ≡ Some b.rest =
    ap (strip (step n name)) b.whole ∙ strip-append (step n name) b.rest in
    subst (λ (o : Option (List Part)). IsSome {A = Changed Entries} (elim o [
      | None ↦
          within (entry name body nested after comma)
          (entry_prefix name body nested ++ (text_of after ++ text_of (comma_leaves comma))) []
          (in_entries (renaming new) p (n + 1) rest)
      | Some more ↦
          within (λ v. entry name v.body v.nested after comma rest) (text_of (named_leaves name))
          (entry_back after comma rest)
          (or_else (within (λ es. record { body = body; nested = es }) (text_of (opening body)) (text_of (closing body))
          (in_entries (renaming new) more 0 nested))
          (renaming new more (record { body = body; nested = nested })))
    ])) (sym e)
    (some_within (λ v. entry name v.body v.nested after comma rest) (text_of (named_leaves name))
    (entry_back after comma rest) _ (value_there new b.rest body nested b.some (deeper b.rest b.some b.whole)))

-- after this entry, where the path does not go through it
pub after_there : (new : Written) (p : List Part) (n : ℕ) (name : Option Name) (body : Body) (nested : Entries)
    (after : Gap) (comma : Option Gap) (rest : Entries)
    → Rules (entries_mentions n (entry name body nested after comma rest))
    → SomeOf (IsSolidAt p) (entries_mentions (n + 1) rest) → IsSome (in_entries (renaming new) p (n + 1) rest)
    → IsSome (in_entries (renaming new) p n (entry name body nested after comma rest))
after_there new p n name body nested after comma rest rules s h = by (strip (step n name) p) refl
  where
    by : (o : Option (List Part)) → strip (step n name) p ≡ o → IsSome {A = Changed Entries} (elim o [
      | None ↦
          within (entry name body nested after comma)
          (entry_prefix name body nested ++ (text_of after ++ text_of (comma_leaves comma))) []
          (in_entries (renaming new) p (n + 1) rest)
      | Some more ↦
          within (λ v. entry name v.body v.nested after comma rest) (text_of (named_leaves name))
          (entry_back after comma rest)
          (or_else (within (λ es. record { body = body; nested = es }) (text_of (opening body)) (text_of (closing body))
          (in_entries (renaming new) more 0 nested))
          (renaming new more (record { body = body; nested = nested })))
    ])
    by None e = some_within (entry name body nested after comma) _ [] (in_entries (renaming new) p (n + 1) rest) h
    by (Some more) e =
        let disjoint : AllOf (IsDisjoint p) (entries_mentions (n + 1) rest) =
        subst (λ (q : List Part). AllOf (IsDisjoint q) (entries_mentions (n + 1) rest))
        (sym (strip-sound (step n name) p more e))
        (disjoint_from_entry n name (body_fact body) (entries_mentions 0 nested) rest more rules) in
        let (m, solid_m, disjoint_m) = meet (IsSolidAt p) (IsDisjoint p) (entries_mentions (n + 1) rest) s disjoint in
        absurd (let k : None ≡ Some [] = sym disjoint_m ∙ ap (strip p) solid_m.path ∙ strip_self p in cc)
