-- The first parts of the keys of entries, where an entry comes in or goes.
--
-- A property of what each means stays one: the entries that are left were there before, and with a new keyval the
-- property is asked of its key as well. An item has no key.
--
-- Theorems: `parts_any`, `parts_also`, `parts_of_items`; `parts_put`: with a keyval; `parts_left`: without an entry.
use Rattle.std.proofs.Common.{◌≡◌, ℕ, ◌+◌, Bool, true, false, cond, List, [], ◌∷◌, ◌++◌, refl, sym}
use Rattle.std.proofs.Common.{subst, Option, Some, None, IsUtf8}
use Rattle.std.specs.Prelude.{⊤, IsTrue, codes}
use Rattle.keep_types.specs.declared.leaf.Leaf.TheVariants as leaf
use Rattle.keep_types.specs.declared.leaf.Profile.TheVariants.{Strict}
use Rattle.keep_token.specs.Encoded.{encoded_key, encoded_key_leaf, is_bare_text}
use Rattle.keep_token.specs.Leaves.{is_string_leaf}
use Rattle.keep_token.proofs.Shared.{key_means, means_wider}
use Rattle.keep_syntax.specs.Tree.{Body, Entries, Gap, Name, Value, array, comma_leaves, entry, inline, none, scalar}
use Rattle.keep_syntax.specs.Tree.{text_of}
use Rattle.keep_syntax.specs.Grammar.{AreEntries, in_array}
use Rattle.keep_path.specs.Path.{Part, key, same_path}
use Rattle.keep_path.proofs.Shared.{text_bytes}
use Rattle.keep_meaning.specs.Meaning.{key_value, step}
use Rattle.keep_meaning.proofs.Shared.{means_value}
use Rattle.keep_edit_spec.specs.Changed.{Changed, or_else, within}
use Rattle.keep_edit_spec.specs.Edits.{key_part, name_with}
use Rattle.keep_edit_spec.specs.Values.{Row, entry_prefix, is_last_named, put_after, put_named, removal, take_out}
use Rattle.keep_edit_spec.specs.Values.{taken_first, taken_last, taken_only}
use Rattle.keep_edit_plan.specs.OpenValues.{FirstPartIs, FirstPartsAre}

pub parts_also : (P Q : List ℕ → Type 0) → ((k : List ℕ) → P k → Q k) → (es : Entries) → FirstPartsAre P es
    → FirstPartsAre Q es
parts_also P Q also none h = tt
parts_also P Q also (entry None body nested after comma rest) h = (tt, parts_also P Q also rest h.1)
parts_also P Q also (entry (Some nm) body nested after comma rest) h =
    (also (key_value nm.key.first) h.0, parts_also P Q also rest h.1)

-- what is written for a key means it
string_kind : (b : Bool) → IsTrue (is_string_leaf (cond b leaf.BareKey leaf.Basic))
string_kind true = refl
string_kind false = refl

part_means : (k : List ℕ) → IsUtf8 k → key_value (key_part k) ≡ k
part_means k utf8 =
    sym (means_value (encoded_key_leaf k) (encoded_key k) k (string_kind (is_bare_text k))
    (means_wider (encoded_key_leaf k) (encoded_key k) k (key_means k (text_bytes k utf8))))

module _ (P : List ℕ → Type 0) where
  pub parts_any : ((k : List ℕ) → P k) → (es : Entries) → FirstPartsAre P es
  parts_any all none = tt
  parts_any all (entry None body nested after comma rest) = (tt, parts_any all rest)
  parts_any all (entry (Some nm) body nested after comma rest) = (all (key_value nm.key.first), parts_any all rest)

  pub parts_of_items : (es : Entries) → AreEntries Strict in_array es → FirstPartsAre P es
  parts_of_items none valid = tt
  parts_of_items (entry None body nested after comma rest) valid = (tt, parts_of_items rest valid.5)
  parts_of_items (entry (Some nm) body nested after comma rest) valid = absurd valid.0

  -- ---- a keyval comes in

  abbrev ArePut : Option (Changed Entries) → Type 0
  ArePut None = ⊤
  ArePut (Some c) = FirstPartsAre P c.to

  put_or_else : (o other : Option (Changed Entries)) → ArePut o → ArePut other → ArePut (or_else o other)
  put_or_else None other h k = k
  put_or_else (Some c) other h k = h

  put_further : (name : Option Name) (body : Body) (nested : Entries) (after : Gap) (comma : Option Gap)
      (l : List ℕ) (o : Option (Changed Entries)) → FirstPartIs P name → ArePut o
      → ArePut (within (entry name body nested after comma) l [] o)
  put_further name body nested after comma l None own h = tt
  put_further name body nested after comma l (Some c) own h = (own, h)

  after_last : (named : Option Name) (new : Value) (es : Entries) → FirstPartIs P named → FirstPartsAre P es
      → ArePut (put_after [] named new es)
  after_last named new none own h = tt
  after_last named new (entry name body nested after comma rest) own h =
      put_or_else
      (within (entry name body nested after comma)
      (entry_prefix name body nested ++ (text_of after ++ text_of (comma_leaves comma))) []
      (put_after [] named new rest)) _
      (put_further name body nested after comma
      (entry_prefix name body nested ++ (text_of after ++ text_of (comma_leaves comma))) (put_after [] named new rest)
      h.0 (after_last named new rest own h.1))
      (h.0, (own, h.1))

  abbrev AreIn : Option (Changed Value) → Type 0
  AreIn None = ⊤
  AreIn (Some c) = FirstPartsAre P c.to.nested

  put_in : (body : Body) (l r : List ℕ) (o : Option (Changed Entries)) → ArePut o
      → AreIn (within (λ es. record { body = body; nested = es }) l r o)
  put_in body l r None h = tt
  put_in body l r (Some c) h = h

  named_put : (name : List ℕ) (new : Value) (body : Body) (nested : Entries)
      → FirstPartIs P (Some (name_with (name ∷ []))) → FirstPartsAre P nested
      → AreIn (put_named name_with 1 new (key name ∷ []) (record { body = body; nested = nested }))
  named_put name new (scalar w) nested own h = tt
  named_put name new (array first) none own h = (own, tt)
  named_put name new (inline first) none own h = (own, tt)
  named_put name new (array first) (entry n b s a c rest) own h =
      put_in (array first) (codes "[" ++ text_of first) (codes "]")
      (put_after [] (Some (name_with (name ∷ []))) new (entry n b s a c rest))
      (after_last (Some (name_with (name ∷ []))) new (entry n b s a c rest) own h)
  named_put name new (inline first) (entry n b s a c rest) own h =
      put_in (inline first) (codes "{" ++ text_of first) (codes "}")
      (put_after [] (Some (name_with (name ∷ []))) new (entry n b s a c rest))
      (after_last (Some (name_with (name ∷ []))) new (entry n b s a c rest) own h)

  pub parts_put : (name : List ℕ) (new v : Value) (c : Changed Value)
      → put_named name_with 1 new (key name ∷ []) v ≡ Some c → IsUtf8 name → P name → FirstPartsAre P v.nested
      → FirstPartsAre P c.to.nested
  parts_put name new v c by utf8 own h =
      subst AreIn by (named_put name new v.body v.nested (subst P (sym (part_means name utf8)) own) h)

  -- ---- an entry goes

  abbrev AreLeft : Option (Changed Row) → Type 0
  AreLeft None = ⊤
  AreLeft (Some c) = FirstPartsAre P c.to.entries

  left_of : (b : Bool) (x y : Option (Changed Row)) → AreLeft x → AreLeft y
      → AreLeft (elim b [ true ↦ x | false ↦ y ])
  left_of true x y h k = h
  left_of false x y h k = k

  left_further : (gap : Gap) (name : Option Name) (body : Body) (nested : Entries) (after : Gap) (l : List ℕ)
      (o : Option (Changed Row)) → FirstPartIs P name → AreLeft o
      → AreLeft (within (λ (r : Row). record {
        gap = gap;
        entries = entry name body nested after (Some r.gap) r.entries;
      }) l [] o)
  left_further gap name body nested after l None own h = tt
  left_further gap name body nested after l (Some c) own h = (own, h)

  left_among : (path : List Part) (k : ℕ) (gap : Gap) (es : Entries) → FirstPartsAre P es
      → AreLeft (take_out path k gap es)
  left_among path k gap none h = tt
  left_among path k gap (entry name body nested after None none) h =
      left_of (same_path (step k name) path) (Some (taken_only gap name body nested after)) None tt tt
  left_among path k gap (entry name body nested after None (entry n b s a c rest)) h = tt
  left_among path k gap (entry name body nested after (Some g) none) h =
      left_of (same_path (step k name) path) (Some (taken_first gap name body nested after g none)) None tt tt
  left_among path k gap (entry name body nested after (Some g) (entry n b s a c rest)) h =
      let others : Entries = entry n b s a c rest in
      let l : List ℕ = text_of gap ++ (entry_prefix name body nested ++ (text_of after ++ codes ",")) in
      let further : Option (Changed Row) =
      within (λ (r : Row). record { gap = gap; entries = entry name body nested after (Some r.gap) r.entries }) l []
      (take_out path (k + 1) g others) in
      let last : Option (Changed Row) = Some (taken_last gap name body nested after g n b s a) in
      left_of (same_path (step k name) path) (Some (taken_first gap name body nested after g others))
      (elim (is_last_named path (k + 1) others) [ true ↦ last | false ↦ further ]) h.1
      (left_of (is_last_named path (k + 1) others) last further (h.0, tt)
      (left_further gap name body nested after l (take_out path (k + 1) g others) h.0
      (left_among path (k + 1) g (entry n b s a c rest) h.1)))

  left_in : (outer : Gap → Body) (l r : List ℕ) (o : Option (Changed Row)) → AreLeft o
      → AreIn (within (λ (row : Row). record { body = outer row.gap; nested = row.entries }) l r o)
  left_in outer l r None h = tt
  left_in outer l r (Some c) h = h

  removal_left : (path : List Part) (body : Body) (nested : Entries) → FirstPartsAre P nested
      → AreIn (removal path (record { body = body; nested = nested }))
  removal_left path (scalar w) nested h = tt
  removal_left path (array first) nested h =
      left_in array (codes "[") (codes "]") (take_out path 0 first nested) (left_among path 0 first nested h)
  removal_left path (inline first) nested h =
      left_in inline (codes "{") (codes "}") (take_out path 0 first nested) (left_among path 0 first nested h)

  pub parts_left : (path : List Part) (v : Value) (c : Changed Value) → removal path v ≡ Some c
      → FirstPartsAre P v.nested → FirstPartsAre P c.to.nested
  parts_left path v c by h = subst AreIn by (removal_left path v.body v.nested h)
