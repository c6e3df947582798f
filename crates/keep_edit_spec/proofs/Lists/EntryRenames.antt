-- A rename of a key of an inline table makes what the set of the whole table makes, also in a document where a value
-- with the same text is, at the same path or at another.
--
-- It is done at that value alone. A line whose own key is renamed says something of the path (RenameLineGone). But no
-- line does so below a value's path, except the value's own (NoLines), and the key of that one is shorter (`shorter`).
-- So no line's own key is renamed (`by_no_line`), and what is left is the search in values. At the path, which goes on
-- from the value by one step, this does what an act does that is done at the value alone (`gives_renaming`), as
-- AtHolder shows for a remove: it does nothing deeper, and an entry of the value has a key that begins with the step
-- (`some_renaming`), since something is said there, and all that entries say is of their keys or items
-- (`solid_entries`).
--
-- So it makes the same (EntryMade). Nor is it refused there: at the path and at the one with the new key the same is
-- said (`same_kinds`), and that is all that the refusal asks (RenameAllowed).
--
-- Theorems: `rename_there`: it is done at the value; `rename_same`, `rename_allowed`: in another document.
use Rattle.std.proofs.Common.{◌≡◌, ℕ, ◌+◌, Bool, true, false, List, [], ◌∷◌, ◌++◌, map, take, drop, length, refl, sym}
use Rattle.std.proofs.Common.{ap, ap₂, ◌||◌, suc, ◌∙◌, length-append, arith, Option, Some, None, inl, inr}
use Rattle.std.specs.Prelude.{position}
use Rattle.std.specs.List.{list_any}
use Rattle.keep_types.specs.declared.leaf.Profile.{Profile}
use Rattle.keep_syntax.specs.Grammar.{IsDocument, IsValue, place_in}
use Rattle.keep_syntax.specs.Numbered.{Count, first_line}
use Rattle.keep_syntax.specs.Tree.{Body, Content, Document, Ended, Entries, Line, Name, Value, Written, closing, entry}
use Rattle.keep_syntax.specs.Tree.{ended_leaves, keyval, none, opening, text, text_of}
use Rattle.keep_path.specs.Path.{Part, beside, index, key, same_path}
use Rattle.keep_meaning.specs.Fact.{Fact, is_value_fact}
use Rattle.keep_meaning.specs.Marks.{Mention, Reading, below, dotted, item, start, value as valued}
use Rattle.keep_meaning.specs.Meaning.{after_line, body_fact, entries_mentions, entry_mentions, keyed_mentions, keys_of}
use Rattle.keep_meaning.specs.Meaning.{line_mentions, line_of, mentions_in, mentions_of_value, step}
use Rattle.keep_meaning.specs.Meaning.{valued_mentions}
use Rattle.keep_meaning.specs.Nodes.{fact_at, is_at, is_node}
use Rattle.keep_edit_spec.specs.Changed.{Changed, or_else, within}
use Rattle.keep_edit_spec.specs.Edits.{change, changed_or_same, edited_document, key_part, nested, rename, set}
use Rattle.keep_edit_spec.specs.Laws.{IsEditable}
use Rattle.keep_edit_spec.specs.Lines.{Page, in_document, in_lines, last_line, part_paths, rename_line}
use Rattle.keep_edit_spec.specs.Look.{is_index}
use Rattle.keep_edit_spec.specs.Refusals.{ends_in_index, refusal}
use Rattle.keep_edit_spec.specs.SetValues.{SetsValue}
use Rattle.keep_edit_spec.specs.TextChanges.{TextChange}
use Rattle.keep_edit_spec.specs.Values.{Act, in_entries, in_value, rename_entry, renaming}
use Rattle.keep_edit_spec.proofs.Common.Cuts.{last_part-snoc, without_last-snoc}
use Rattle.keep_edit_spec.proofs.Common.LineLaws.{EndsInKey, Reaches}
use Rattle.keep_edit_spec.proofs.Common.Marks.{rules_of_document}
use Rattle.keep_edit_spec.proofs.Common.Runs.{AllOf, Rules, SomeOf, all_join, solid, strip-sound}
use Rattle.keep_edit_spec.proofs.Common.SetLaw.{IsAloneAt, IsSolidAt}
use Rattle.keep_edit_spec.proofs.Common.ValueThere.{IsSome, alone_of_fact, fact_of_has, some_within}
use Rattle.keep_edit_spec.proofs.Insert.DoneThere.{can_ended, ended, gives_some, same_value}
use Rattle.keep_edit_spec.proofs.Insert.Gives.{Gives, IsNamedAt}
use Rattle.keep_edit_spec.proofs.Insert.GivesLines.{gives_nested}
use Rattle.keep_edit_spec.proofs.Insert.HolderThere.{never_some}
use Rattle.keep_edit_spec.proofs.Insert.NoLines.{StatesEdits, value_none}
use Rattle.keep_edit_spec.proofs.Lists.AtHolder.{any_body, gives_here, nothing_deeper, there_too}
use Rattle.keep_edit_spec.proofs.Lists.EntryInserts.{no_root}
use Rattle.keep_edit_spec.proofs.Lists.EntryMade.{IsMadeThere, holder_valued, its, made_by, same_kinds, same_node}
use Rattle.keep_edit_spec.proofs.Lists.EntryMade.{still_same, there}
use Rattle.keep_edit_spec.proofs.Lists.LineGone.{behind, right_of, with_line}
use Rattle.keep_edit_spec.proofs.Lists.RenameAllowed.{mark_kinds, role_count, unrefused}
use Rattle.keep_edit_spec.proofs.Lists.RenameLineGone.{told}
use Rattle.keep_edit_spec.proofs.Rename.RenameFound.{entries_there}
use Rattle.keep_edit_spec.proofs.Rename.RenameOnce.{some_counted}
use Rattle.keep_edit_spec.proofs.Rename.RenameThere.{IsThere}
use Rattle.keep_edit_spec.proofs.Rename.RenameWhole.{IsRenamable, renamable}
use Rattle.keep_edit_spec.proofs.Rename.RenamedParts.{IsPart, keyval_position, part_reaches}

named_solid : (q : List Part) (ms : List Mention) → SomeOf (IsSolidAt q) ms → SomeOf (IsNamedAt q) ms
named_solid q [] s = absurd s
named_solid q (m ∷ ms) (inl h) = inl h.path
named_solid q (m ∷ ms) (inr s) = inr (named_solid q ms s)

-- ---- no line renames at a path below a value's

abbrev is_done : {A : Type 0} → Option A → Bool
is_done None = false
is_done (Some x) = true

-- the line has a key part that is renamed
abbrev renames : Written → List Part → Reading → Line → Bool
renames new path r l = is_done (rename_line new path r l)

-- then it says something of the path
states : (count : Count) (new : Written) (path : List Part) → StatesEdits path (renames new path)
states count new path r l e = by (rename_line new path r l) refl e
  where
    by : (o : Option (Changed Line)) → rename_line new path r l ≡ o → is_done o ≡ true
        → SomeOf (IsNamedAt path) (line_mentions r l)
    by None is e = absurd cc
    by (Some d) is e = named_solid path (line_mentions r l) (told new path count r l d is)

-- but the key of the value's own line is shorter
shorter : (new : Written) (a : List Part) (p : Part) (r : Reading) (l : Line) (name : Name) (v : Value)
    (more : List Part) → l.content ≡ keyval name v → a ≡ (r.body ++ step 0 (Some name)) ++ more
    → renames new (a ++ p ∷ []) r l ≡ false
shorter new a p r l name v more content place = by (position (same_path path) (part_paths r l.content)) refl
  where
    path : List Part
    path = a ++ p ∷ []

    by : (o : Option ℕ) → position (same_path (a ++ p ∷ [])) (part_paths r l.content) ≡ o
        → renames new (a ++ p ∷ []) r l ≡ false
    by None e =
        let none : rename_line new (a ++ p ∷ []) r l ≡ None = rw (e, rename_line) refl in
        ap {B = Bool} is_done none
    by (Some n) e =
        let part : IsPart path [] r.body n (keys_of name.key) =
        keyval_position path r.body n (keys_of name.key)
        (ap (λ (c : Content). position (same_path path) (part_paths r c)) (sym content) ∙ e) in
        let reach : Reaches path (r.body ++ map key (keys_of name.key)) =
        part_reaches path r.body n (keys_of name.key) part in
        let begin : List Part = r.body ++ step 0 (Some name) in
        let whole : begin ≡ path ++ reach.0 = strip-sound path begin reach.0 reach.1 in
        absurd (omega (
          arith,
          ap (λ (q : List Part). length q) whole,
          length-append path reach.0,
          length-append a (p ∷ []),
          ap (λ (q : List Part). length q) place,
          length-append begin more,
        ))

-- where no line passes, the first does not, and none after it does
record IsPast (test : Reading → Line → Bool) (r : Reading) (l : Line) (ls : List Line) : Type 0 where
  here : test r l ≡ false
  later : last_line test (after_line r l) ls ≡ None

past : (test : Reading → Line → Bool) (r : Reading) (l : Line) (ls : List Line) → last_line test r (l ∷ ls) ≡ None
    → IsPast test r l ls
past test r l ls h = by (last_line test (after_line r l) ls) (test r l) refl refl
  where
    by : (o : Option ℕ) (b : Bool) → last_line test (after_line r l) ls ≡ o → test r l ≡ b → IsPast test r l ls
    by None false e k = record { here = k; later = e }
    by None true e k = absurd (let no : last_line test r (l ∷ ls) ≡ Some 0 = rw (e, k) refl in cc)
    by (Some n) b e k = absurd (let no : last_line test r (l ∷ ls) ≡ Some (suc n) = rw e refl in cc)

not_done : {A : Type 0} (o : Option A) → is_done o ≡ false → o ≡ None
not_done None h = refl
not_done (Some x) h = absurd cc

none_in_lines : (f : Reading → Line → Option (Changed Line)) (r : Reading) (es : List Ended) (last : Line)
    → last_line (λ r l. is_done (f r l)) r (map line_of es ++ last ∷ []) ≡ None → in_lines f r es last ≡ None
none_in_lines f r [] last h =
    let k : IsPast (λ r l. is_done (f r l)) r last [] = past (λ r l. is_done (f r l)) r last [] h in
    ap (within (λ (l : Line). record { ended = []; last = l }) [] []) (not_done (f r last) k.here)
none_in_lines f r (e ∷ es) last h =
    let more : List Line = map line_of es ++ last ∷ [] in
    let k : IsPast (λ r l. is_done (f r l)) r e.line more = past (λ r l. is_done (f r l)) r e.line more h in
    ap₂ (λ (o : Option (Changed Line)) (q : Option (Changed Page)).
    or_else (within (with_line last e es) [] (right_of last e es) o)
    (within (behind e) (text_of (ended_leaves e)) [] q)) (not_done (f r e.line) k.here)
    (none_in_lines f (after_line r e.line) es last k.later)

module _ (s : Document) (a : List Part) (p : Part) (name : List ℕ) (rules : Rules (mentions_in s))
    (alone : SomeOf (IsAloneAt a) (mentions_in s)) where
  abbrev path : List Part
  path = a ++ p ∷ []

  by_no_line : in_lines (rename_line (key_part name) path) start s.ended s.last ≡ None
  by_no_line =
      none_in_lines (rename_line (key_part name) path) start s.ended s.last
      (value_none s a (p ∷ []) rules alone (renames (key_part name) path) (states (first_line s) (key_part name) path)
      (shorter (key_part name) a p))

  changes : change s (rename path name) ≡ nested (renaming (key_part name)) path s
  changes =
      ap (λ (o : Option (Changed Page)). or_else (in_document s o) (nested (renaming (key_part name)) path s))
      by_no_line

-- ---- at the value

-- not said of an element by the way: so is all that entries say
abbrev IsSolid : Mention → Type 0
IsSolid m = solid m.kind ≡ true

solid_below : (at : List Part) (ms : List Mention) → AllOf IsSolid ms → AllOf IsSolid (map (below at) ms)
solid_below at [] h = tt
solid_below at (m ∷ ms) h = (h.0, solid_below at ms h.1)

solid_keyed : (ks : List (List ℕ)) (ms : List Mention) → AllOf IsSolid ms → AllOf IsSolid (keyed_mentions ks ms)
solid_keyed [] ms h = h
solid_keyed (k ∷ []) ms h = solid_below (key k ∷ []) ms h
solid_keyed (k ∷ l ∷ ks) ms h =
    solid_below (key k ∷ []) (record { path = []; kind = dotted } ∷ keyed_mentions (l ∷ ks) ms)
    (refl, solid_keyed (l ∷ ks) ms h)

solid_entry : (n : ℕ) (name : Option Name) (f : Fact) (ms : List Mention) → AllOf IsSolid ms
    → AllOf IsSolid (entry_mentions n name f ms)
solid_entry n None f ms h = solid_below (index n ∷ []) (valued_mentions (item f) ms) (refl, h)
solid_entry n (Some name) f ms h = solid_keyed (keys_of name.key) (valued_mentions (valued f) ms) (refl, h)

solid_entries : (n : ℕ) (es : Entries) → AllOf IsSolid (entries_mentions n es)
solid_entries n none = tt
solid_entries n (entry name body nested after comma rest) =
    let inner : List Mention = entries_mentions 0 nested in
    all_join IsSolid (entry_mentions n name (body_fact body) inner) (entries_mentions (n + 1) rest)
    (solid_entry n name (body_fact body) inner (solid_entries 0 nested)) (solid_entries (n + 1) rest)

solid_at : (q : List Part) (ms : List Mention) → AllOf IsSolid ms → SomeOf (IsNamedAt q) ms → SomeOf (IsSolidAt q) ms
solid_at q [] h s = absurd s
solid_at q (m ∷ ms) h (inl e) = inl (record { path = e; kind = h.0 })
solid_at q (m ∷ ms) h (inr s) = inr (solid_at q ms h.1 s)

-- an entry there has a key that begins with the step
some_renaming : (profile : Profile) (name : List ℕ) (p : Part) (body : Body) (nested : Entries) → EndsInKey (p ∷ [])
    → IsValue profile (record { body = body; nested = nested }) → Rules (entries_mentions 0 nested)
    → SomeOf (IsNamedAt (p ∷ [])) (mentions_of_value (record { body = body; nested = nested }))
    → IsSome (renaming (key_part name) (p ∷ []) (record { body = body; nested = nested }))
some_renaming profile name p body nested ends valid rules (inl root) =
    absurd (let none : [] ≡ p ∷ [] = root in cc)
some_renaming profile name p body nested ends valid rules (inr s) =
    by (entries_there profile (key_part name) (place_in body) (p ∷ []) ends 0 nested valid.nested rules
    (solid_at (p ∷ []) (entries_mentions 0 nested) (solid_entries 0 nested) s))
  where
    by : IsThere (key_part name) (p ∷ []) 0 nested
        → IsSome (renaming (key_part name) (p ∷ []) (record { body = body; nested = nested }))
    by (inl deeper) =
        absurd (never_some (in_entries (renaming (key_part name)) (p ∷ []) 0 nested)
        (nothing_deeper (renaming (key_part name)) (λ v. refl) p 0 nested) deeper)
    by (inr h) =
        some_within (λ es. record { body = body; nested = es }) (text_of (opening body)) (text_of (closing body))
        (rename_entry (key_part name) (p ∷ []) nested) h

abbrev pub rename_at : List ℕ → Part → Act
rename_at name p = ended any_body (renaming (key_part name)) (p ∷ [])

gives_renaming : (profile : Profile) (s : Document) (a : List Part) (p : Part) (name : List ℕ) (f : Fact)
    → IsDocument profile s → Rules (mentions_in s) → fact_at a (mentions_in s) ≡ Some f → is_value_fact f ≡ true
    → EndsInKey (p ∷ []) → SomeOf (IsNamedAt (a ++ p ∷ [])) (mentions_in s)
    → Gives (nested (rename_at name p) a s) (nested (renaming (key_part name)) (a ++ p ∷ []) s)
gives_renaming profile s a p name f valid rules at is_value ends named =
    gives_nested profile (rename_at name p) (renaming (key_part name)) (λ q qs v. refl) (p ∷ [])
    (λ q. fact_at (a ++ q) (mentions_in s)) (p ∷ []) f (there_too a (mentions_in s) f at) is_value
    (λ body nested h r k. by body nested h r k.named)
    a s valid rules (record { facts = λ q. refl; named = named })
  where
    by : (body : Body) (nested : Entries) → IsValue profile (record { body = body; nested = nested })
        → Rules (entries_mentions 0 nested)
        → SomeOf (IsNamedAt (p ∷ [])) (mentions_of_value (record { body = body; nested = nested }))
        → Gives (rename_at name p [] (record { body = body; nested = nested }))
        (in_value (renaming (key_part name)) (p ∷ []) (record { body = body; nested = nested }))
    by body nested h r some =
        gives_here (λ es. record { body = body; nested = es }) (text_of (opening body)) (text_of (closing body))
        (in_entries (renaming (key_part name)) (p ∷ []) 0 nested)
        (renaming (key_part name) (p ∷ []) (record { body = body; nested = nested }))
        (same_value (record { body = body; nested = nested }))
        (nothing_deeper (renaming (key_part name)) (λ v. refl) p 0 nested)
        (some_renaming profile name p body nested ends h r some)

-- ---- in the document

last_index : (a : List Part) (p : Part) → ends_in_index (a ++ p ∷ []) ≡ is_index p
last_index a p =
    ap (λ (o : Option Part). elim o [ None ↦ false | Some part ↦ is_index part ]) (last_part-snoc a p)

key_step : (p : Part) → is_index p ≡ false → EndsInKey (p ∷ [])
key_step (key k) h = ([], k, refl)
key_step (index n) h = absurd cc

module _ (profile : Profile) (limit : ℕ) (s : Document) (a : List Part) (value : Value) (c : TextChange)
    (fine : IsEditable profile limit s) (h : SetsValue profile limit s a value c) (p : Part) (name : List ℕ)
    (named : IsRenamable (a ++ p ∷ []) name (mentions_in s)) where
  renamed_entry : (x : Changed Document) → nested (rename_at name p) a s ≡ Some x
      → change s (rename (a ++ p ∷ []) name) ≡ Some x
  renamed_entry x e =
      let path : List Part = a ++ p ∷ [] in
      let rules : Rules (mentions_in s) = rules_of_document s fine.obeys in
      let (f, at, is_value) = fact_of_has a (mentions_in s) (holder_valued profile limit s a value c fine h) in
      changes s a p name rules (alone_of_fact a (mentions_in s) f at is_value)
      ∙ gives_some (nested (rename_at name p) a s) (nested (renaming (key_part name)) path s) x e
      (gives_renaming profile s a p name f fine.valid rules at is_value
      (key_step p (sym (last_index a p) ∙ named.by_key))
      (named_solid path (mentions_in s) (some_counted path (mentions_in s) (omega (arith, named.marks)))))

  pub rename_there : IsMadeThere (rename_at name p) (its profile limit s a value c fine h)
      (there profile limit s a value c fine h).outer (edited_document s (rename (a ++ p ∷ []) name))
  rename_there =
      made_by profile limit s a value c fine h (rename_at name p) (λ q qs v. refl)
      (can_ended any_body (renaming (key_part name)) (p ∷ [])) (rename (a ++ p ∷ []) name)
      (λ x e. ap (λ (o : Option (Changed Document)). (changed_or_same s o).to) (renamed_entry x e))

-- ---- in another document

beside_step : (a : List Part) (p : Part) (name : List ℕ) → beside (a ++ p ∷ []) name ≡ a ++ key name ∷ []
beside_step a p name = ap (λ (q : List Part). q ++ key name ∷ []) (without_last-snoc a p)

node_of_step : (a : List Part) (p : Part) (ms : List Mention)
    → is_node (a ++ p ∷ []) ms ≡ list_any (is_at (a ++ p ∷ [])) ms
node_of_step a p ms = ap (λ (root : Bool). root || list_any (is_at (a ++ p ∷ [])) ms) (no_root a p)

module _ (profile : Profile) (limit : ℕ) (s : Document) (a : List Part) (value : Value) (c : TextChange)
    (now : Document) (b : List Part) (d : TextChange) (fine : IsEditable profile limit s)
    (fine_now : IsEditable profile limit now)
    (h : SetsValue profile limit s a value c) (k : SetsValue profile limit now b value d)
    (same : take d.size (drop d.at (text now)) ≡ take c.size (drop c.at (text s))) where
  still_node : (p : Part) → is_node (b ++ p ∷ []) (mentions_in now) ≡ is_node (a ++ p ∷ []) (mentions_in s)
  still_node p =
      node_of_step b p (mentions_in now) ∙ same_node profile limit s a value c now b d fine fine_now h k same p
      ∙ sym (node_of_step a p (mentions_in s))

  module _ (p : Part) (name : List ℕ) (allowed : refusal profile limit s (rename (a ++ p ∷ []) name) ≡ None)
      (makes : edited_document s (rename (a ++ p ∷ []) name) ≡ edited_document s (set a value)) where
    named_was : IsRenamable (a ++ p ∷ []) name (mentions_in s)
    named_was = renamable profile limit s (a ++ p ∷ []) name allowed

    named_now : IsRenamable (b ++ p ∷ []) name (mentions_in now)
    named_now = record {
      node = still_node p ∙ named_was.node;
      below_root = no_root b p;
      by_key = last_index b p ∙ sym (last_index a p) ∙ named_was.by_key;
      fresh = ap (λ (q : List Part). is_node q (mentions_in now)) (beside_step b p name) ∙ still_node (key name)
          ∙ ap (λ (q : List Part). is_node q (mentions_in s)) (sym (beside_step a p name)) ∙ named_was.fresh;
      marks = mark_kinds (b ++ p ∷ []) (mentions_in now)
          ∙ ap role_count (same_kinds profile limit s a value c now b d fine fine_now h k same p)
          ∙ sym (mark_kinds (a ++ p ∷ []) (mentions_in s)) ∙ named_was.marks;
    }

    pub rename_same : edited_document now (rename (b ++ p ∷ []) name) ≡ edited_document now (set b value)
    rename_same =
        still_same profile limit s a value c now b d fine fine_now h k same (rename_at name p)
        (rename (a ++ p ∷ []) name) (rename_there profile limit s a value c fine h p name named_was) makes
        (rename (b ++ p ∷ []) name) (rename_there profile limit now b value d fine_now k p name named_now)

    pub rename_allowed : refusal profile limit now (rename (b ++ p ∷ []) name) ≡ None
    rename_allowed = unrefused profile limit (b ++ p ∷ []) name (mentions_in now) named_now
