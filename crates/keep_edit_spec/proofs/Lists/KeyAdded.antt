-- A rename of the key of a line that an insert has just added: what it replaces, and that it is not refused.
--
-- The insert is of one new key, at the end of a body. Nothing was said at its path before, so the search for a key part
-- of that path found nothing (`none_found`). With the new line it finds the first key of this one, with which the line
-- begins (`own_there`). One key part names the path, that of the line (`one_mark`); and where the new path can be
-- inserted as well, it is free still, as the insert says nothing there. So the rename is not refused (`allowed`).
--
-- Theorems: `rename_right_after`; `line_keyval`; `whole`, `other_holder`, `other_first`, `two`: the paths of two
-- inserts of one new key, which differ in that; `free_path`: nothing is at the path of an insert.
use Rattle.std.proofs.Common.{◌≡◌, ◌≢◌, ℕ, suc, ◌+◌, Bool, true, false, ◌||◌, List, [], ◌∷◌, ◌++◌}
use Rattle.std.proofs.Common.{length, map, take, drop, refl, sym, ap, ap₂, subst, ◌∙◌, arith, IsUtf8}
use Rattle.std.proofs.Common.{length-append, Option, Some, None}
use Rattle.std.specs.Prelude.{position}
use Rattle.std.specs.List.{flat_map, list_any}
use Rattle.std.proofs.lemmas.List.{append-nil, length-map}
use Rattle.keep_types.specs.declared.leaf.Profile.{Profile}
use Rattle.keep_token.specs.Encoded.{encoded_key}
use Rattle.keep_syntax.specs.Tree.{Content, Document, Ended, Line, Name, Value, Written, bom_leaves}
use Rattle.keep_syntax.specs.Tree.{further_leaves, keyval, text_of}
use Rattle.keep_path.specs.Path.{Part, beside, key, same_path, strip, without_last}
use Rattle.keep_meaning.specs.Marks.{Mention, Reading, below, start, value as value_kind}
use Rattle.keep_meaning.specs.Meaning.{body_fact, entries_mentions, keyed_mentions, keyval_mentions, keys_of}
use Rattle.keep_meaning.specs.Meaning.{lines, lines_mentions, mentions_in, valued_mentions}
use Rattle.keep_meaning.specs.Nodes.{is_at, is_node, is_root, kinds_at, mark_count}
use Rattle.keep_edit_spec.specs.AddedLines.{AddsLine, first_new}
use Rattle.keep_edit_spec.specs.Changed.{Changed, framed_change, or_else, place_of}
use Rattle.keep_edit_spec.specs.Edits.{changed_or_same, edited_document, insert, key_part, name_with, nested, place}
use Rattle.keep_edit_spec.specs.Edits.{rename}
use Rattle.keep_edit_spec.specs.Laws.{IsEditable}
use Rattle.keep_edit_spec.specs.Lines.{Page, ended_text, in_document, in_lines, key_prefixes, newline_of, part_paths}
use Rattle.keep_edit_spec.specs.Lines.{plain_line, rename_line}
use Rattle.keep_edit_spec.specs.Look.{holder}
use Rattle.keep_edit_spec.specs.Refusals.{ends_in_index, refusal}
use Rattle.keep_edit_spec.specs.RenamedKeys.{RenamesKey}
use Rattle.keep_edit_spec.specs.TextChanges.{TextChange, change_at, place_of_change}
use Rattle.keep_edit_spec.specs.Values.{renaming, text_of_value}
use Rattle.keep_edit_spec.specs.declared.line_kind.LineKind.TheVariants.{LastInBody}
use Rattle.keep_edit_spec.proofs.Common.LineLaws.{lines_mentions-append}
use Rattle.keep_edit_spec.proofs.Common.Runs.{AllOf, IsDisjoint, all_left, all_right, kinds_at-below}
use Rattle.keep_edit_spec.proofs.Common.Runs.{kinds_at-run, meet, same_path-refl}
use Rattle.keep_edit_spec.proofs.Common.SetDocument.{page_lines}
use Rattle.keep_edit_spec.proofs.Common.SetLaw.{EachTo, IsSolidAt, map_twice}
use Rattle.keep_edit_spec.proofs.Common.ValueThere.{alone_of_has}
use Rattle.keep_edit_spec.proofs.Insert.InsertDotted.{mentioned_before}
use Rattle.keep_edit_spec.proofs.Insert.ItemCount.{without_last-snoc}
use Rattle.keep_edit_spec.proofs.Insert.KeysAtEnd.{first_is}
use Rattle.keep_edit_spec.proofs.Lists.AddedKeyval as added
use Rattle.keep_edit_spec.proofs.Lists.AddedKeyval.{AddsKeyval}
use Rattle.keep_edit_spec.proofs.Lists.GivenBytes.{key_has_bytes}
use Rattle.keep_edit_spec.proofs.Lists.LineOnWay as line
use Rattle.keep_edit_spec.proofs.Lists.LineOnWay.{AddsOnWay, line_on_way, lines_now}
use Rattle.keep_edit_spec.proofs.Lists.MadeChanges.{change_lawful}
use Rattle.keep_edit_spec.proofs.Lists.NewHolder.{body_node, holder_of_node, nothing_under, path_new}
use Rattle.keep_edit_spec.proofs.Lists.NewPaths.{InsertsKeys, first_clear, line_keys, unsaid}
use Rattle.keep_edit_spec.proofs.Lists.PutsKeyval.{line_puts}
use Rattle.keep_edit_spec.proofs.Lists.RenameAllowed.{mark_kinds, role_count, unrefused}
use Rattle.keep_edit_spec.proofs.Lists.RenameAfterTaken.{none_counted}
use Rattle.keep_edit_spec.proofs.Lists.RenameTwice.{ends_in_key, root_pushed}
use Rattle.keep_edit_spec.proofs.Lists.SetAllowed.{node_alone}
use Rattle.keep_edit_spec.proofs.Lists.ValueAdded.{IsThere, first_there, has_then, lines_there}
use Rattle.keep_edit_spec.proofs.Rename.KeyTexts.{key_text}
use Rattle.keep_edit_spec.proofs.Rename.RenameLines.{AreLinesRenamed, lines_renamed}
use Rattle.keep_edit_spec.proofs.Rename.RenameThere.{entries_root}
use Rattle.keep_edit_spec.proofs.Rename.RenamedParts.{strip_self}
use Rattle.keep_edit_spec.proofs.Rename.RenamedPath.{IsBeside}

-- ---- the key of a line

module _ (path : List Part) (text : List ℕ) (ks : List (List ℕ)) (value : Value) (new : Written) (r : Reading) where
  abbrev name : Name
  name = name_with (text ∷ ks)

  abbrev own_line : Line
  own_line = plain_line (keyval name value)

  -- what the rename makes of the line, and of its content
  abbrev made_name : Changed Content
  made_name =
      framed_change (λ nm. keyval nm value) [] (text_of_value value)
      (framed_change (λ k. record name { key = k }) [] (text_of name.before ++ (0x3D ∷ text_of name.after))
      (record {
        to = record name.key { first = new };
        before = [];
        old = encoded_key text;
        new = new.text;
        after = text_of (flat_map further_leaves name.key.more);
      }))

  abbrev made : Changed Line
  made = framed_change (λ (c : Content). record own_line { content = c }) [] [] made_name

  line_made : position (same_path path) (part_paths r (keyval name value)) ≡ Some 0
      → rename_line new path r own_line ≡ Some made
  line_made at = rw (rename_line, at) refl

  -- its first key is the part of the path
  first_part : keys_of name.key ≡ text ∷ [] → r.body ++ map key (keys_of name.key) ≡ path
      → position (same_path path) (part_paths r (keyval name value)) ≡ Some 0
  first_part one own =
      let is : r.body ++ key text ∷ [] ≡ path =
      ap (λ (l : List (List ℕ)). r.body ++ map key l) (sym one) ∙ own in
      ap (λ (l : List (List ℕ)).
      position (same_path path) (map (λ prefix. r.body ++ map key prefix) (key_prefixes l))) one
      ∙ ap (λ (q : List Part). position (same_path path) (q ∷ [])) is
      ∙ here
    where
      here : position (same_path path) (path ∷ []) ≡ Some 0
      here = rw (same_path-refl path) refl

  own_there : (newline : Written) (es : List Ended) (last : Line) → keys_of name.key ≡ text ∷ []
      → r.body ++ map key (keys_of name.key) ≡ path → (let x : Ended = record { line = own_line; newline = newline } in
      IsThere (in_lines (rename_line new path) r (x ∷ es) last) [] (encoded_key text) new.text)
  own_there newline es last one own =
      first_there (rename_line new path) last (record { line = own_line; newline = newline }) made r es
      (line_made (first_part one own))

-- the place of what the search finds in a document
place_there : (s : Document) (path : List Part) (name : List ℕ) (before old : List ℕ) (at : ℕ)
    → IsThere (in_lines (rename_line (key_part name) path) start s.ended s.last) before old (encoded_key name)
    → length (text_of (bom_leaves s.bom)) + length before ≡ at
    → place s (rename path name) ≡ place_of_change (change_at at (length old) (encoded_key name))
place_there s path name before old at found begins =
    let bom : List ℕ = text_of (bom_leaves s.bom) in
    let there : length (bom ++ found.next.before) ≡ at =
    omega (arith, length-append bom found.next.before, ap (λ (t : List ℕ). length t) found.left, begins) in
    ap (λ (o : Option (Changed Page)).
    place_of (changed_or_same s (or_else (in_document s o) (nested (renaming (key_part name)) path s)))) found.is
    ∙ ap₂ (λ (z : ℕ) (t : List ℕ). record { start = z; end = z + length found.next.old; new = t }) there found.comes
    ∙ ap (λ (t : List ℕ). record { start = at; end = at + length t; new = encoded_key name }) found.gone

-- ---- the line

-- its key goes from the body right to the new one
abbrev pub line_keyval : (profile : Profile) (limit : ℕ) (s : Document) (path : List Part) (value : Value)
    (c : TextChange) → IsEditable profile limit s → AddsLine profile limit s path value c
    → AddsKeyval profile limit s path value c
line_keyval profile limit s path value c fine h =
    let w : AddsOnWay profile limit s path value = line_on_way profile limit s path value c h in
    record {
      inserts = w.inserts;
      n = w.n;
      way = w.way;
      few = w.few;
      holds = w.holds;
      means = w.means;
      changed = w.changed;
      doubles = w.doubles;
      puts = line_puts profile limit s path value c fine h;
      is = h.is;
    }

-- ---- two inserts of one new key

none_said : (a b : Bool) → (a || b) ≡ false → b ≡ false
none_said true b h = absurd cc
none_said false b h = h

-- nothing is at the path of an insert of new keys
pub free_path : (profile : Profile) (limit : ℕ) (s : Document) (path : List Part) (value : Value)
    → InsertsKeys profile limit s path value → is_node path (mentions_in s) ≡ false
free_path profile limit s path value h =
    path_new s path (holder path (mentions_in s)) h.text h.more h.new (unsaid profile limit s path value h)

module _ (profile : Profile) (limit : ℕ) (s : Document) (path : List Part) (value : Value) (c : TextChange)
    (h : AddsLine profile limit s path value c) (one : first_new s path ≡ path) where
  abbrev a : List Part
  a = holder path (mentions_in s)

  pub whole : path ≡ a ++ key h.text ∷ []
  whole = sym one ∙ first_is s path h.text h.more h.new

  pub none_more : h.more ≡ []
  none_more = by h.more count
    where
      count : length h.more ≡ 0
      count =
          omega (
            arith,
            ap length whole,
            length-append a (key h.text ∷ []),
            ap length h.new,
            length-append a (map key (h.text ∷ h.more)),
            length-map h.more key,
          )

      by : (l : List (List ℕ)) → length l ≡ 0 → l ≡ []
      by [] e = refl
      by (k ∷ l) e = absurd cc

  -- ---- and of another key there

  module _ (name : List ℕ) (more : Value) (d : TextChange) (k : AddsLine profile limit s (beside path name) more d)
    where
      abbrev pub two : IsBeside name path (beside path name)
      two = record {
        prefix = a;
        old = h.text;
        was = whole;
        is = ap (λ (q : List Part). q ++ key name ∷ []) (ap without_last whole ∙ without_last-snoc a (key h.text));
      }

      free : is_node (beside path name) (mentions_in s) ≡ false
      free = free_path profile limit s (beside path name) more (line_keys profile limit s (beside path name) more d k)

      pub other_holder : holder (beside path name) (mentions_in s) ≡ a
      other_holder =
          holder_of_node s (beside path name) a name [] two.is
          (none_said (is_root (a ++ key name ∷ [])) (list_any (is_at (a ++ key name ∷ [])) (mentions_in s))
          (ap (λ (q : List Part). is_node q (mentions_in s)) (sym two.is) ∙ free))
          (body_node s a h.number h.ends)

      pub other_first : first_new s (beside path name) ≡ beside path name
      other_first =
          first_is s (beside path name) name []
          (two.is ∙ ap (λ (q : List Part). q ++ key name ∷ []) (sym other_holder))
          ∙ ap (λ (q : List Part). q ++ key name ∷ []) other_holder ∙ sym two.is

-- ---- right after the insert

module _ (profile : Profile) (limit : ℕ) (s : Document) (path : List Part) (value : Value) (c : TextChange)
    (fine : IsEditable profile limit s) (h : AddsLine profile limit s path value c) (one : first_new s path ≡ path)
    (name : List ℕ) (utf8 : IsUtf8 name) (more : Value) (d : TextChange)
    (k : AddsLine profile limit s (beside path name) more d) (differs : path ≢ beside path name) where
  abbrev ms : List Mention
  ms = mentions_in s

  abbrev now : Document
  now = edited_document s (insert path value)

  abbrev b : List Part
  b = beside path name

  abbrev its : InsertsKeys profile limit s path value
  its = line_keys profile limit s path value c h

  abbrev kv : AddsKeyval profile limit s path value c
  kv = line_keyval profile limit s path value c fine h

  abbrev beside_is : IsBeside name path b
  beside_is = two profile limit s path value c h one name more d k

  path_is : path ≡ holder path ms ++ key h.text ∷ []
  path_is = whole profile limit s path value c h one

  -- nothing was said at the path
  silent : AllOf (IsDisjoint path) ms
  silent =
      subst (λ (p : List Part). AllOf (IsDisjoint p) ms) (sym path_is)
      (nothing_under s path (holder path ms) h.text h.more h.new (unsaid profile limit s path value its))

  -- ---- what is found

  none_found : in_lines (rename_line (key_part name) path) start s.ended s.last ≡ None
  none_found =
      by (in_lines (rename_line (key_part name) path) start s.ended s.last)
      (lines_renamed profile name path b (key_text profile name utf8) beside_is start s.ended s.last)
    where
      by : (o : Option (Changed Page)) → EachTo (λ g. AreLinesRenamed path b start (lines s) (page_lines g)) o
          → o ≡ None
      by None found = refl
      by (Some g) found =
          let (m, there, apart) = meet (IsSolidAt path) (IsDisjoint path) ms found.some silent in
          let both : Some [] ≡ None = sym (strip_self path) ∙ ap (strip path) (sym there.path) ∙ apart in
          absurd cc

  abbrev first : List Ended
  first = take h.number s.ended

  -- the keys of the line
  means : keys_of (name_with (h.text ∷ h.more)).key ≡ h.text ∷ []
  means =
      kv.means ∙ ap (λ (l : List (List ℕ)). h.text ∷ l) (none_more profile limit s path value c h one)

  abbrev later : List Ended
  later = added.x profile limit s path value c kv ∷ drop h.number s.ended

  found_there : IsThere (in_lines (rename_line (key_part name) path) start (first ++ later) s.last)
      (ended_text first ++ []) (encoded_key h.text) (encoded_key name)
  found_there =
      lines_there (rename_line (key_part name) path) s.last start h.number s.ended later [] (encoded_key h.text)
      (encoded_key name) h.closed none_found
      (own_there path h.text h.more value (key_part name) (added.r profile limit s path value c kv) (newline_of s)
      (drop h.number s.ended) s.last means (added.own_path profile limit s path value c kv))

  place_is : place now (rename path name)
      ≡ place_of_change (change_at c.at (length (encoded_key h.text)) (encoded_key name))
  place_is =
      ap (λ (t : Document). place t (rename path name)) kv.puts.is
      ∙ place_there (record { bom = s.bom; ended = first ++ later; last = s.last }) path name
      (ended_text first ++ []) (encoded_key h.text) c.at found_there
      (omega (arith, length-append (ended_text first) [], kv.puts.at))

  -- ---- one key part names the path

  abbrev w : AddsOnWay profile limit s path value
  w = line_on_way profile limit s path value c h

  abbrev r : Reading
  r = line.r profile limit s path value w

  abbrev early : List Mention
  early = lines_mentions start (take h.number (lines s))

  abbrev late : List Mention
  late = lines_mentions r (drop h.number (lines s))

  abbrev own : List Mention
  own = map (below r.body) (keyval_mentions (name_with (h.text ∷ h.more)) value)

  abbrev inside : List Mention
  inside = entries_mentions 0 value.nested

  abbrev inner : List Mention
  inner = valued_mentions (value_kind (body_fact value.body)) inside

  said : mentions_in now ≡ early ++ (own ++ late)
  said =
      ap (lines_mentions start) (lines_now profile limit s path value w)
      ∙ lines_mentions-append start (take h.number (lines s))
      ((line.x profile limit s path value w).line ∷ drop h.number (lines s))

  own_is : own ≡ map (below (r.body ++ key h.text ∷ [])) inner
  own_is =
      ap (λ (l : List (List ℕ)). map (below r.body) (keyed_mentions l inner)) means
      ∙ map_twice r.body (key h.text ∷ []) inner

  path_on : path ≡ (r.body ++ key h.text ∷ []) ++ []
  path_on =
      path_is ∙ ap (λ (q : List Part). q ++ key h.text ∷ []) (w.holds ∙ append-nil r.body)
      ∙ sym (append-nil (r.body ++ key h.text ∷ []))

  kinds_are : kinds_at path (mentions_in now) ≡ value_kind (body_fact value.body) ∷ kinds_at [] inside
  kinds_are =
      let apart : AllOf (IsDisjoint path) (early ++ late) =
      subst (AllOf (IsDisjoint path)) (mentioned_before s h.number) silent in
      ap (kinds_at path) said
      ∙ kinds_at-run path path [] early own late (all_left (IsDisjoint path) early late apart)
      (all_right (IsDisjoint path) early late apart) (strip_self path)
      ∙ ap₂ (λ (q : List Part) (l : List Mention). kinds_at q l) path_on own_is
      ∙ kinds_at-below (r.body ++ key h.text ∷ []) [] inner

  one_mark : mark_count path (mentions_in now) ≡ 1
  one_mark =
      let none : role_count (kinds_at [] inside) ≡ 0 =
      sym (mark_kinds [] inside) ∙ none_counted [] inside (entries_root 0 value.nested) in
      mark_kinds path (mentions_in now) ∙ ap role_count kinds_are ∙ ap suc none

  -- ---- it is not refused

  clear : strip (first_new s path) b ≡ None
  clear =
      let other : first_new s b ≡ b = other_first profile limit s path value c h one name more d k in
      subst (λ (q : List Part). strip (first_new s path) q ≡ None) other
      (first_clear profile limit s path value b more its (line_keys profile limit s b more d k)
      (λ same. differs (sym one ∙ same ∙ other)))

  node_now : is_node path (mentions_in now) ≡ true
  node_now =
      node_alone path (mentions_in now)
      (alone_of_has path (mentions_in now)
      (has_then profile limit s path value its
      (change_lawful profile limit s (insert path value) c fine (LastInBody, h))))

  allowed : refusal profile limit now (rename path name) ≡ None
  allowed =
      unrefused profile limit path name (mentions_in now) (record {
        node = node_now;
        below_root = ap is_root path_is ∙ root_pushed (holder path ms) (key h.text);
        by_key = ap ends_in_index path_is ∙ ends_in_key (holder path ms) h.text;
        fresh = added.node_stays profile limit s path value c kv b clear
            ∙ free_path profile limit s b more (line_keys profile limit s b more d k);
        marks = one_mark;
      })

  pub rename_right_after : RenamesKey profile limit now path name
      (change_at c.at (length (encoded_key h.text)) (encoded_key name))
  rename_right_after =
      record { utf8 = utf8; allowed = allowed; some = key_has_bytes h.text; is = place_is }
