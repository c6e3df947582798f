-- A rename of a key in braces does not change where and what an act at the end of another path does in the same value,
-- except that its place moves.
--
-- The other path neither begins with the renamed one, nor with the new one, and it is no prefix of the renamed one
-- (`IsApart`, kept from a path to the rest of it by `apart_rest`). So the entry whose key is renamed is passed by the
-- search for the other path before and after the rename (`keys_apart`). Elsewhere the two searches part at an entry, as
-- those of two sets do (SetPlaces). The proof is by induction over entries: `keys_stay` where the key is one of theirs,
-- `entries_stay` where it is in an entry's value.
--
-- Theorems: `longer_none`, `own_apart`, `new_apart`: the paths of keys; `line_stays`: in a line.
use Rattle.std.proofs.Common.{◌≡◌, ℕ, ◌+◌, ◌-◌, List, [], ◌∷◌, ◌++◌, length, map, refl, sym, ap, ap₂, subst, ◌∙◌}
use Rattle.std.proofs.Common.{append_assoc, arith, Option, Some, None, inl, inr}
use Rattle.std.proofs.lemmas.List.{append-nil}
use Rattle.keep_types.specs.declared.leaf.Profile.{Profile}
use Rattle.keep_syntax.specs.Tree.{Gap, Name, name_leaves, named_leaves, opening, closing, comma_leaves, comment_leaves}
use Rattle.keep_syntax.specs.Tree.{Entries, none, entry, Value, Content, blank, keyval, header, element, Line, text_of}
use Rattle.keep_path.specs.Path.{Part, key, moved_path}
use Rattle.keep_meaning.specs.Marks.{Reading}
use Rattle.keep_meaning.specs.Meaning.{keys_of, step}
use Rattle.keep_edit_spec.specs.Look.{strip}
use Rattle.keep_edit_spec.specs.Changed.{Changed, framed_change, within, or_else}
use Rattle.keep_edit_spec.specs.Values.{Act, entries_text, entry_prefix, entry_back, text_of_value, in_entries}
use Rattle.keep_edit_spec.specs.Values.{in_value, rename_name, rename_entry, renaming}
use Rattle.keep_edit_spec.specs.Lines.{in_content, in_line}
use Rattle.keep_edit_spec.specs.Edits.{key_part}
use Rattle.keep_edit_spec.proofs.Common.DoneAtValue.{IsAtEnd}
use Rattle.keep_edit_spec.proofs.Common.NewLines.{IsKeyText}
use Rattle.keep_edit_spec.proofs.Common.Runs.{none_or_some, strip-sound, strip_both, strip_shorter}
use Rattle.keep_edit_spec.proofs.Common.SetLaw.{EachTo}
use Rattle.keep_edit_spec.proofs.Common.Texts.{EachIs, IsAct, name_text_of, in_value-is, rename_name-is, renaming-is}
use Rattle.keep_edit_spec.proofs.Lists.SetPlaces.{EachStays, each_within, first_stays, later_stays, past_end}
use Rattle.keep_edit_spec.proofs.Lists.SetPlaces.{past_entry, rest_none, stays_as}
use Rattle.keep_edit_spec.proofs.Rename.RenameContent.{root_renamed}
use Rattle.keep_edit_spec.proofs.Rename.RenameEntry.{prefix_part}
use Rattle.keep_edit_spec.proofs.Rename.RenameInValue.{IsRestBeside, rest_beside}
use Rattle.keep_edit_spec.proofs.Rename.RenameKey.{IsNameRenamed, name_renamed}
use Rattle.keep_edit_spec.proofs.Rename.RenamedKeys.{AreRenamed}
use Rattle.keep_edit_spec.proofs.Rename.RenamedParts.{IsPart, keys_renamed, part_reaches, replaced_key}
use Rattle.keep_edit_spec.proofs.Rename.RenamedPath.{IsBeside, ends_old, under_renamed}

-- ---- paths

pub longer_none : (q more other : List Part) → strip q other ≡ None → strip (q ++ more) other ≡ None
longer_none q more other h = elim (none_or_some (strip (q ++ more) other)) [
  | inl e ↦ e
  | inr u ↦ (let k : None ≡ Some (more ++ u.0) = sym h ∙ strip_shorter q more other u.0 u.1 in absurd cc)
]

-- The other path is not at or under the renamed one, nor at or under the new one, nor a prefix of the renamed one.
pub record IsApart (t : List ℕ) (path other : List Part) : Type 0 where
  pub new_path : List Part
  pub two : IsBeside t path new_path
  pub below : strip path other ≡ None
  pub above : strip other path ≡ None
  pub new : strip new_path other ≡ None

apart_rest : (t : List ℕ) (s path other more rests : List Part) → strip s path ≡ Some more → strip s other ≡ Some rests
    → IsApart t path other → IsApart t more rests
apart_rest t s path other more rests e f h =
    by more refl (rest_none s path other more rests e f h.below) (rest_none s other path rests more f e h.above)
  where
    by : (q : List Part) → more ≡ q → strip more rests ≡ None → strip rests more ≡ None → IsApart t more rests
    by [] k a b = let z : None ≡ Some rests = sym a ∙ ap (λ (p : List Part). strip p rests) k in absurd cc
    by (q ∷ qs) k a b =
        let r : IsRestBeside t s more h.new_path =
        rest_beside t s more path h.new_path q qs h.two (strip-sound s path more e) k in
        record {
          new_path = r.other;
          two = r.beside;
          below = a;
          above = b;
          new = sym (strip_both s r.other rests)
              ∙ ap₂ (λ (p q : List Part). strip p q) (sym r.whole) (sym (strip-sound s other rests f)) ∙ h.new;
        }

-- ---- the keys that are renamed

path_renamed : (p b at : List Part) (ks ks' : List (List ℕ)) → AreRenamed p b [] at ks ks'
    → moved_path p b (at ++ map key ks) ≡ moved_path p b at ++ map key ks'
path_renamed p b at [] [] h = ap (moved_path p b) (append-nil at) ∙ sym (append-nil (moved_path p b at))
path_renamed p b at [] (k' ∷ ks') h = absurd h
path_renamed p b at (k ∷ ks) [] h = absurd h
path_renamed p b at (k ∷ ks) (k' ∷ ks') h =
    ap (moved_path p b) (sym (append_assoc at (key k ∷ []) (map key ks)))
    ∙ path_renamed p b (at ++ key k ∷ []) ks ks' h.1
    ∙ ap (λ (q : List Part). q ++ map key ks') h.0
    ∙ append_assoc (moved_path p b at) (key k' ∷ []) (map key ks')

-- their path is not a prefix of the other path
pub own_apart : (p other at : List Part) (n : ℕ) (ks : List (List ℕ)) → strip p other ≡ None → IsPart p [] at n ks
    → strip (at ++ map key ks) other ≡ None
own_apart p other at n ks h part =
    let u = part_reaches p at n ks part in
    ap (λ (q : List Part). strip q other) (strip-sound p (at ++ map key ks) u.0 u.1) ∙ longer_none p u.0 other h

-- nor is the new one
pub new_apart : (t : List ℕ) (p b other at : List Part) (n : ℕ) (ks ks' : List (List ℕ)) → IsBeside t p b
    → strip b other ≡ None → IsPart p [] at n ks → ks' ≡ replaced_key t n ks
    → strip (moved_path p b at ++ map key ks') other ≡ None
new_apart t p b other at n ks ks' two h part is =
    let u = part_reaches p at n ks part in
    let both : AreRenamed p b [] at ks ks' =
    subst (AreRenamed p b [] at ks) (sym is) (keys_renamed t p b [] at n ks two part) in
    ap (λ (q : List Part). strip q other)
    (sym (path_renamed p b at ks ks' both) ∙ under_renamed p b (at ++ map key ks) u.0 u.1)
    ∙ longer_none b u.0 other h

-- ---- in values

each_or_else : {A : Type 0} (o p : Option (Changed A)) (f : A → Option (Changed A)) (x : A) → EachStays o f x
    → EachStays p f x → EachStays (or_else o p) f x
each_or_else None p f x h g = g
each_or_else (Some c) p f x h g = h

-- the act of the other path
module _ (profile : Profile) (t : List ℕ) (is_text : IsKeyText profile t) (two : Act) (is_two : IsAct two)
    (ends_two : IsAtEnd two) where
  abbrev one : Act
  one = renaming (key_part t)

  -- one entry, and the search for the other path there
  module _ (other : List Part) (n : ℕ) (name : Option Name) (v : Value) (after : Gap) (comma : Option Gap)
      (rest : Entries) where
    abbrev front : List ℕ
    front = text_of (named_leaves name)

    abbrev gaps : List ℕ
    gaps = text_of after ++ text_of (comma_leaves comma)

    -- with another value, or with other entries behind it
    abbrev with_value : Entries → Value → Entries
    with_value es y = entry name y.body y.nested after comma es

    abbrev before_entries : Value → Entries → Entries
    before_entries y = entry name y.body y.nested after comma

    found : (y : Value) (es : Entries) (rests : List Part) → strip (step n name) other ≡ Some rests
        → in_entries two other n (with_value es y)
        ≡ within (with_value es) front (entry_back after comma es) (in_value two rests y)
    found y es rests f = rw (in_entries, f) refl

    passed : (y : Value) → strip (step n name) other ≡ None → in_entries two other n (with_value rest y)
        ≡ within (before_entries y) (front ++ (text_of_value y ++ gaps)) [] (in_entries two other (n + 1) rest)
    passed y f =
        rw (in_entries, f) (ap (λ (t : List ℕ). within (before_entries y) t [] (in_entries two other (n + 1) rest))
        (past_entry name y after comma))

    -- the rename is in this entry's value, and the other path goes past it
    entry_first : (o : Option (Changed Value)) → EachIs text_of_value v o → strip (step n name) other ≡ None
        → EachStays (within (with_value rest) front (entry_back after comma rest) o) (in_entries two other n)
        (with_value rest v)
    entry_first None k f = tt
    entry_first (Some c) k f =
        stays_as (framed_change (with_value rest) front (entry_back after comma rest) c)
        (within (before_entries v) (front ++ (text_of_value v ++ gaps)) [] (in_entries two other (n + 1) rest))
        (within (before_entries c.to) (front ++ (text_of_value c.to ++ gaps)) [] (in_entries two other (n + 1) rest))
        (in_entries two other n (with_value rest v)) (in_entries two other n (with_value rest c.to)) (passed v f)
        (passed c.to f)
        (first_stays text_of_value v (with_value rest) front (entry_back after comma rest) gaps c (before_entries v)
        (before_entries c.to) (in_entries two other (n + 1) rest) k)

    -- the rename is in the entries behind it
    entry_later : (o : Option (Changed Entries)) → EachStays o (in_entries two other (n + 1)) rest
        → EachStays (within (before_entries v) (entry_prefix name v.body v.nested ++ gaps) [] o)
        (in_entries two other n) (with_value rest v)
    entry_later o h = by (strip (step n name) other) refl
      where
        here : (o : Option (Changed Entries)) (rests : List Part) → strip (step n name) other ≡ Some rests
            → EachStays (within (before_entries v) (front ++ (text_of_value v ++ gaps)) [] o) (in_entries two other n)
            (with_value rest v)
        here None rests f = tt
        here (Some c) rests f =
            stays_as (framed_change (before_entries v) (front ++ (text_of_value v ++ gaps)) [] c)
            (within (with_value rest) front (entry_back after comma rest) (in_value two rests v))
            (within (with_value c.to) front (entry_back after comma c.to) (in_value two rests v))
            (in_entries two other n (with_value rest v)) (in_entries two other n (with_value c.to v))
            (found v rest rests f) (found v c.to rests f)
            (later_stays text_of_value v (with_value rest) (with_value c.to) front (entry_back after comma rest)
            (entry_back after comma c.to) gaps (in_value two rests v) (before_entries v) c
            (in_value-is two is_two rests v))

        by : (p : Option (List Part)) → strip (step n name) other ≡ p
            → EachStays (within (before_entries v) (entry_prefix name v.body v.nested ++ gaps) [] o)
            (in_entries two other n) (with_value rest v)
        by None f =
            each_within (before_entries v) (entry_prefix name v.body v.nested ++ gaps) [] o
            (in_entries two other (n + 1)) (in_entries two other n) rest (λ y. rw (in_entries, f) refl) h
        by (Some rests) f =
            subst (λ (t : List ℕ). EachStays (within (before_entries v) t [] o) (in_entries two other n)
            (with_value rest v)) (sym (past_entry name v after comma)) (here o rests f)

  -- the entries with the key
  keys_stay : (path other : List Part) → IsApart t path other → (n : ℕ) (es : Entries)
      → EachStays (rename_entry (key_part t) path es) (in_entries two other n) es
  keys_stay path other h n none = tt
  keys_stay path other h n (entry None body nested after comma rest) = tt
  keys_stay path other h n (entry (Some name) body nested after comma rest) =
      by (strip path (step 0 (Some name))) refl (keys_stay path other h (n + 1) rest)
    where
      v : Value
      v = record { body = body; nested = nested }

      tail : List ℕ
      tail = text_of (opening body) ++ (entries_text nested ++ text_of (closing body))

      back : List ℕ
      back = text_of (opening body) ++ (entries_text nested ++ (text_of (closing body) ++ entry_back after comma rest))

      more : List ℕ
      more = text_of after ++ text_of (comma_leaves comma)

      named : Name → Entries
      named nm = entry (Some nm) body nested after comma rest

      passed_by : (nm : Name) → strip (step n (Some nm)) other ≡ None → in_entries two other n (named nm)
          ≡ within (entry (Some nm) body nested after comma) ([] ++ (name_text_of nm ++ (tail ++ more))) []
          (in_entries two other (n + 1) rest)
      passed_by nm f =
          rw (in_entries, f) (ap (λ (x : List ℕ).
          within (entry (Some nm) body nested after comma) x [] (in_entries two other (n + 1) rest))
          (append_assoc (name_text_of nm) tail more))

      first : (o : Option (Changed Name)) → EachIs name_text_of name o
          → EachTo (λ (nm : Name). strip (step n (Some nm)) other ≡ None) o → strip (step n (Some name)) other ≡ None
          → EachStays (within named [] back o) (in_entries two other n) (named name)
      first None k g f = tt
      first (Some c) k g f =
          stays_as (framed_change named [] back c)
          (within (entry (Some name) body nested after comma) ([] ++ (name_text_of name ++ (tail ++ more))) []
          (in_entries two other (n + 1) rest))
          (within (entry (Some c.to) body nested after comma) ([] ++ (name_text_of c.to ++ (tail ++ more))) []
          (in_entries two other (n + 1) rest))
          (in_entries two other n (named name)) (in_entries two other n (named c.to)) (passed_by name f)
          (passed_by c.to g)
          (first_stays name_text_of name named [] back (tail ++ more) c (entry (Some name) body nested after comma)
          (entry (Some c.to) body nested after comma) (in_entries two other (n + 1) rest) k)

      own_part : (path' : List Part) → path' ≡ path → (u : List Part) → strip path' (step 0 (Some name)) ≡ Some u
          → strip path' other ≡ None → IsPart path' [] [] (length path' - 1) (keys_of name.key)
      own_part [] same u e g = absurd cc
      own_part (q ∷ qs) same u e g =
          let number : length (q ∷ qs) - 1 ≡ length qs = omega arith in
          subst (λ (k : ℕ). IsPart (q ∷ qs) [] [] k (keys_of name.key)) (sym number)
          (prefix_part [] q qs (keys_of name.key) u e)

      renamed : (o : Option (Changed Name)) → IsPart path [] [] (length path - 1) (keys_of name.key)
          → EachTo (IsNameRenamed profile t (length path - 1) name) o
          → EachTo (λ (nm : Name). strip (step n (Some nm)) other ≡ None) o
      renamed None part g = tt
      renamed (Some c) part g =
          ap (λ (at : List Part). strip (at ++ map key (keys_of c.to.key)) other)
          (sym (root_renamed path h.new_path (ends_old t path h.new_path h.two)))
          ∙ new_apart t path h.new_path other [] (length path - 1) (keys_of name.key) (keys_of c.to.key) h.two h.new
          part g.keys

      by : (o : Option (List Part)) → strip path (step 0 (Some name)) ≡ o
          → EachStays (rename_entry (key_part t) path rest) (in_entries two other (n + 1)) rest
          → EachStays {A = Entries} (elim o [
            | Some u ↦ within (λ nm. entry (Some nm) body nested after comma rest) []
                (text_of (opening body) ++ (entries_text nested
                ++ (text_of (closing body) ++ entry_back after comma rest)))
                (rename_name (key_part t) (length path - 1) name)
            | None ↦ within (entry (Some name) body nested after comma)
                (entry_prefix (Some name) body nested ++ (text_of after ++ text_of (comma_leaves comma))) []
                (rename_entry (key_part t) path rest)
          ]) (in_entries two other n) (entry (Some name) body nested after comma rest)
      by (Some u) e further =
          let part : IsPart path [] [] (length path - 1) (keys_of name.key) = own_part path refl u e h.below in
          let o : Option (Changed Name) = rename_name (key_part t) (length path - 1) name in
          first o (rename_name-is (key_part t) (length path - 1) name)
          (renamed o part (name_renamed profile t is_text (length path - 1) name))
          (own_apart path other [] (length path - 1) (keys_of name.key) h.below part)
      by None e further =
          entry_later other n (Some name) v after comma rest (rename_entry (key_part t) path rest) further

  value_stays : (path other : List Part) → IsApart t path other → (v : Value)
      → EachStays (in_entries one path 0 v.nested) (in_entries two other 0) v.nested
      → EachStays (in_value one path v) (in_value two other) v
  value_stays [] other h v k = let z : None ≡ Some other = sym h.below in absurd cc
  value_stays (p ∷ ps) [] h v k = let z : None ≡ Some (p ∷ ps) = sym h.above in absurd cc
  value_stays (p ∷ ps) (q ∷ qs) h v k =
      let outer : Entries → Value = λ es. record v { nested = es } in
      let left : List ℕ = text_of (opening v.body) in
      let right : List ℕ = text_of (closing v.body) in
      each_or_else (within outer left right (in_entries one (p ∷ ps) 0 v.nested)) (one (p ∷ ps) v)
      (in_value two (q ∷ qs)) v
      (each_within outer left right (in_entries one (p ∷ ps) 0 v.nested) (in_entries two (q ∷ qs) 0)
      (in_value two (q ∷ qs)) v.nested (λ y. past_end two ends_two q qs (record v { nested = y })) k)
      (each_within outer left right (rename_entry (key_part t) (p ∷ ps) v.nested) (in_entries two (q ∷ qs) 0)
      (in_value two (q ∷ qs)) v.nested (λ y. past_end two ends_two q qs (record v { nested = y }))
      (keys_stay (p ∷ ps) (q ∷ qs) h 0 v.nested))

  entries_stay : (path other : List Part) → IsApart t path other → (n : ℕ) (es : Entries)
      → EachStays (in_entries one path n es) (in_entries two other n) es
  entries_stay path other h n none = tt
  entries_stay path other h n (entry name body nested after comma rest) =
      by (strip (step n name) path) refl (strip (step n name) other) refl (entries_stay path other h (n + 1) rest)
      (λ more deeper k. entries_stay more deeper k 0 nested)
    where
      v : Value
      v = record { body = body; nested = nested }

      by : (o : Option (List Part)) → strip (step n name) path ≡ o
          → (p : Option (List Part)) → strip (step n name) other ≡ p
          → EachStays (in_entries one path (n + 1) rest) (in_entries two other (n + 1)) rest
          → ((more deeper : List Part) → IsApart t more deeper
          → EachStays (in_entries one more 0 nested) (in_entries two deeper 0) nested)
          → EachStays {A = Entries} (elim o [
            | None ↦
                within (entry name body nested after comma)
                (entry_prefix name body nested ++ (text_of after ++ text_of (comma_leaves comma))) []
                (in_entries one path (n + 1) rest)
            | Some more ↦
                within (λ v. entry name v.body v.nested after comma rest) (text_of (named_leaves name))
                (entry_back after comma rest) (in_value one more (record { body = body; nested = nested }))
          ]) (in_entries two other n) (entry name body nested after comma rest)
      by None e p f further inner =
          entry_later other n name v after comma rest (in_entries one path (n + 1) rest) further
      by (Some more) e None f further inner =
          entry_first other n name v after comma rest (in_value one more v)
          (in_value-is one (renaming-is (key_part t)) more v) f
      by (Some more) e (Some rests) f further inner =
          let a : IsApart t more rests = apart_rest t (step n name) path other more rests e f h in
          each_within (λ y. entry name y.body y.nested after comma rest) (text_of (named_leaves name))
          (entry_back after comma rest) (in_value one more v) (in_value two rests) (in_entries two other n) v
          (λ y. found other n name v after comma rest y rest rests f) (value_stays more rests a v (inner more rests a))

  -- ---- in lines

  content_stays : (body path other : List Part) → IsApart t path other → (c : Content)
      → EachStays (in_content one body path c) (in_content two body other) c
  content_stays body path other h blank = tt
  content_stays body path other h (header before k after) = tt
  content_stays body path other h (element before k after) = tt
  content_stays body path other h (keyval name value) = by (strip own path) refl (strip own other) refl
    where
      own : List Part
      own = body ++ step 0 (Some name)

      left : List ℕ
      left = text_of (name_leaves name)

      found_in : (y : Value) (rests : List Part) → strip own other ≡ Some rests
          → in_content two body other (keyval name y) ≡ within (keyval name) left [] (in_value two rests y)
      found_in y rests f = rw (in_content, f) refl

      elsewhere : (y : Value) → strip own other ≡ None → in_content two body other (keyval name y) ≡ None
      elsewhere y f = rw (in_content, f) refl

      alone : (o : Option (Changed Value)) → strip own other ≡ None
          → EachStays (within (keyval name) left [] o) (in_content two body other) (keyval name value)
      alone None f = tt
      alone (Some c) f =
          stays_as (framed_change (keyval name) left [] c) None None (in_content two body other (keyval name value))
          (in_content two body other (keyval name c.to)) (elsewhere value f) (elsewhere c.to f) refl

      by : (o : Option (List Part)) → strip own path ≡ o → (p : Option (List Part)) → strip own other ≡ p
          → EachStays {A = Content} (elim o [
            | None ↦ None
            | Some more ↦ within (keyval name) (text_of (name_leaves name)) [] (in_value one more value)
          ]) (in_content two body other) (keyval name value)
      by None e p f = tt
      by (Some more) e None f = alone (in_value one more value) f
      by (Some more) e (Some rests) f =
          let a : IsApart t more rests = apart_rest t own path other more rests e f h in
          each_within (keyval name) left [] (in_value one more value) (in_value two rests) (in_content two body other)
          value (λ y. found_in y rests f)
          (value_stays more rests a value (entries_stay more rests a 0 value.nested))

  pub line_stays : (path other : List Part) → IsApart t path other → (r : Reading) (l : Line)
      → EachStays (in_line one path r l) (in_line two other r) l
  line_stays path other h r l =
      each_within (λ c. record l { content = c }) (text_of l.before)
      (text_of l.after ++ text_of (comment_leaves l.comment)) (in_content one r.body path l.content)
      (in_content two r.body other) (in_line two other r) l.content (λ y. refl)
      (content_stays r.body path other h l.content)
