-- What `rename` changes in a document is one of its key parts: which one it is, by how many marks come before it, and
-- where it is written.
--
-- The proof follows the search for the key: over lines (`renamed_lines`), then over entries (`renamed_entries`). The
-- record `IsRenamedIn` says which mention and which key part it is. Four lemmas take it one step outwards: more text
-- round it, a longer path, other mentions and parts before it, and others after it (`renamed_framed`, `renamed_beyond`,
-- `renamed_after`, `renamed_before`). As marks and key parts are counted alike, the mention and the part have the same
-- number. The key that is renamed may be one of several in a dotted key or a header (`renamed_here`, `renamed_own`).
--
-- Theorem: `rename_place`: the change replaces one key part, whose mention is at the path.
use Rattle.std.proofs.Common.{◌≡◌, ℕ, ◌+◌, ◌-◌, List, [], ◌∷◌, ◌++◌, length, map, refl, sym, ap, subst, ◌∙◌}
use Rattle.std.proofs.Common.{append_assoc, length-append, arith, Option, Some, None}
use Rattle.std.specs.Prelude.{true, codes, position}
use Rattle.std.proofs.lemmas.List.{map-append, append-nil, length-map}
use Rattle.keep_types.specs.declared.syntax.KeyPart.{KeyPart}
use Rattle.keep_syntax.specs.Tree.{Written, Gap, Key, Name, Body, Entries, none, entry, Value, Content, blank, keyval}
use Rattle.keep_syntax.specs.Tree.{header, element, Line, Ended, Document, name_leaves, named_leaves, opening, closing}
use Rattle.keep_syntax.specs.Tree.{comma_leaves, comment_leaves, ended_leaves, bom_leaves, text_of}
use Rattle.keep_syntax.specs.Numbered as syntax
use Rattle.keep_syntax.specs.Numbered.{value_start, nested_start, entry_end, key_parts, named_parts, entries_parts}
use Rattle.keep_syntax.specs.Numbered.{content_start, content_parts, line_parts, over_lines, next_line, first_line}
use Rattle.keep_meaning.specs.Fact.{Fact}
use Rattle.keep_path.specs.Path.{Part, key, index, same_path}
use Rattle.keep_meaning.specs.Marks.{define, element as kinds_element, begun, value, item, Mention, below, Reading}
use Rattle.keep_meaning.specs.Marks.{elements_of, header_path, start}
use Rattle.keep_meaning.specs.Meaning.{key_value, further_value, keys_of, body_fact, valued_mentions, keyed_mentions}
use Rattle.keep_meaning.specs.Meaning.{entry_mentions, entries_mentions, step, keyval_mentions, line_mentions}
use Rattle.keep_meaning.specs.Meaning.{after_line, lines_mentions, line_of, mentions_in}
use Rattle.keep_meaning.specs.Counts.{is_mark, one_if}
use Rattle.keep_meaning.proofs.Shared.{one_mark, marked, marked-append, marked-below, marked-keyed, marked-entries}
use Rattle.keep_meaning.proofs.Shared.{marked-content, length-named, length-entries_parts}
use Rattle.keep_edit_spec.specs.Look.{strip}
use Rattle.keep_edit_spec.specs.Changed.{Changed, framed_change, within, or_else}
use Rattle.keep_edit_spec.specs.Values.{entries_text, entry_prefix, entry_back, in_entries, in_value, rename_part}
use Rattle.keep_edit_spec.specs.Values.{rename_name, rename_entry, renaming, text_of_value}
use Rattle.keep_edit_spec.specs.Lines.{Page, page_text, with_page, part_paths, rename_content, rename_line, in_content}
use Rattle.keep_edit_spec.specs.Lines.{in_line, in_lines, in_document}
use Rattle.keep_edit_spec.specs.Edits.{nested, key_part, rename, change}
use Rattle.keep_edit_spec.proofs.Common.Runs.{strip-sound}
use Rattle.keep_edit_spec.proofs.Common.SetLaw.{map_none, keyed_split}
use Rattle.keep_edit_spec.proofs.Common.DoneAtValue.{EachOf, of_within, of_or_else}
use Rattle.keep_edit_spec.proofs.Rename.RenamedParts.{header_position, keyval_position}
use Rattle.keep_edit_spec.proofs.Rename.RenameEntry.{prefix_part}
use Rattle.keep_edit_spec.proofs.Rename.RenameContent.{content_mentions}
use Rattle.keep_edit_spec.proofs.Rename.RenameMarks.{IsPartAt, IsMarkedAt, key_at, name_at, header_marked, keyed_marked}

-- The change replaces one of these key parts; its text begins at `at`. The mention that the key part makes is at the
-- path. As many marks come before it as key parts before the one that is replaced.
pub record IsRenamedIn {A : Type 0} (at : ℕ) (p : List Part) (new : List ℕ) (ms : List Mention) (parts : List KeyPart)
    (c : Changed A) : Type 0 where
  pub earlier : List Mention
  pub mention : Mention
  pub later : List Mention
  pub mentioned : ms ≡ earlier ++ mention ∷ later
  pub place : mention.path ≡ p
  pub names : is_mark mention.kind ≡ true
  pub prefix : List KeyPart
  pub own : KeyPart
  pub after : List KeyPart
  pub here : parts ≡ prefix ++ own ∷ after
  pub count : marked earlier ≡ length prefix
  pub start : at + length c.before ≡ own.span.start
  pub end : own.span.end ≡ own.span.start + length c.old
  pub fresh : c.new ≡ new

-- the mention with that number, and the key part with that number
renamed_both : {A : Type 0} (at n : ℕ) (p : List Part) (new : List ℕ) (ms : List Mention) (parts : List KeyPart)
    (c : Changed A) → IsMarkedAt p n ms → IsPartAt at n new parts c → IsRenamedIn at p new ms parts c
renamed_both at n p new ms parts c m h = record {
  earlier = m.earlier;
  mention = m.mention;
  later = m.later;
  mentioned = m.mentioned;
  place = m.place;
  names = m.names;
  prefix = h.prefix;
  own = h.own;
  after = h.after;
  here = h.here;
  count = m.count ∙ sym h.count;
  start = h.start;
  end = h.end;
  fresh = h.fresh;
}

-- ---- seen from outside

renamed_framed : {A B : Type 0} (at from : ℕ) (p : List Part) (new : List ℕ) (ms : List Mention) (parts : List KeyPart)
    (outer : A → B) (left right : List ℕ) (c : Changed A)
    → from + length left ≡ at → IsRenamedIn at p new ms parts c
    → IsRenamedIn from p new ms parts (framed_change outer left right c)
renamed_framed at from p new ms parts outer left right c e h = record {
  earlier = h.earlier;
  mention = h.mention;
  later = h.later;
  mentioned = h.mentioned;
  place = h.place;
  names = h.names;
  prefix = h.prefix;
  own = h.own;
  after = h.after;
  here = h.here;
  count = h.count;
  start = omega (arith, e, h.start, length-append left c.before);
  end = h.end;
  fresh = h.fresh;
}

-- beyond a prefix of the path
renamed_beyond : {A : Type 0} (at : ℕ) (q more p : List Part) (new : List ℕ) (ms : List Mention) (parts : List KeyPart)
    (c : Changed A)
    → p ≡ q ++ more → IsRenamedIn at more new ms parts c → IsRenamedIn at p new (map (below q) ms) parts c
renamed_beyond at q more p new ms parts c e h = record {
  earlier = map (below q) h.earlier;
  mention = below q h.mention;
  later = map (below q) h.later;
  mentioned = ap (map (below q)) h.mentioned ∙ map-append (below q) h.earlier (h.mention ∷ h.later);
  place = ap (λ x. q ++ x) h.place ∙ sym e;
  names = h.names;
  prefix = h.prefix;
  own = h.own;
  after = h.after;
  here = h.here;
  count = marked-below q h.earlier ∙ h.count;
  start = h.start;
  end = h.end;
  fresh = h.fresh;
}

-- after others, and before others
renamed_after : {A : Type 0} (at : ℕ) (p : List Part) (new : List ℕ) (xs ms : List Mention) (is parts : List KeyPart)
    (c : Changed A)
    → marked xs ≡ length is → IsRenamedIn at p new ms parts c → IsRenamedIn at p new (xs ++ ms) (is ++ parts) c
renamed_after at p new xs ms is parts c e h = record {
  earlier = xs ++ h.earlier;
  mention = h.mention;
  later = h.later;
  mentioned = ap (λ l. xs ++ l) h.mentioned ∙ sym (append_assoc xs h.earlier (h.mention ∷ h.later));
  place = h.place;
  names = h.names;
  prefix = is ++ h.prefix;
  own = h.own;
  after = h.after;
  here = ap (λ l. is ++ l) h.here ∙ sym (append_assoc is h.prefix (h.own ∷ h.after));
  count = omega (arith, e, h.count, marked-append xs h.earlier, length-append is h.prefix);
  start = h.start;
  end = h.end;
  fresh = h.fresh;
}

renamed_before : {A : Type 0} (at : ℕ) (p : List Part) (new : List ℕ) (ms ys : List Mention) (parts js : List KeyPart)
    (c : Changed A)
    → IsRenamedIn at p new ms parts c → IsRenamedIn at p new (ms ++ ys) (parts ++ js) c
renamed_before at p new ms ys parts js c h = record {
  earlier = h.earlier;
  mention = h.mention;
  later = h.later ++ ys;
  mentioned = ap (λ l. l ++ ys) h.mentioned ∙ append_assoc h.earlier (h.mention ∷ h.later) ys;
  place = h.place;
  names = h.names;
  prefix = h.prefix;
  own = h.own;
  after = h.after ++ js;
  here = ap (λ l. l ++ js) h.here ∙ append_assoc h.prefix (h.own ∷ h.after) js;
  count = h.count;
  start = h.start;
  end = h.end;
  fresh = h.fresh;
}

-- inside the value of an entry
many_keys : (at : ℕ) (name : Name) (m : Mention) → is_mark m.kind ≡ true
    → marked (keyed_mentions (keys_of name.key) [] ++ m ∷ []) ≡ length (named_parts at (Some name))
many_keys at name m is =
    let one : marked (m ∷ []) ≡ 1 = one_mark m.kind m.path [] ∙ ap (λ b. one_if b + 0) is in
    omega (
      arith,
      marked-append (keyed_mentions (keys_of name.key) []) (m ∷ []),
      one,
      marked-keyed (key_value name.key.first) (map further_value name.key.more) [],
      length-map name.key.more further_value,
      length-named at (Some name),
    )

renamed_named : {A : Type 0} (at from n : ℕ) (name : Option Name) (f : Fact) (new : List ℕ) (nested : List Mention)
    (more p : List Part) (parts : List KeyPart) (c : Changed A)
    → p ≡ step n name ++ more → IsRenamedIn at more new nested parts c
    → IsRenamedIn at p new (entry_mentions n name f nested) (named_parts from name ++ parts) c
renamed_named at from n None f new nested more p parts c e h =
    renamed_after at p new (below (index n ∷ []) (record { path = []; kind = item f }) ∷ [])
    (map (below (index n ∷ [])) nested) [] parts c refl
    (renamed_beyond at (index n ∷ []) more p new nested parts c e h)
renamed_named at from n (Some name) f new nested more p parts c e h =
    let q : List Part = map key (keys_of name.key) in
    let own : Mention = below q (record { path = []; kind = value f }) in
    let prefixes : List Mention = keyed_mentions (keys_of name.key) [] in
    let whole : keyed_mentions (keys_of name.key) (valued_mentions (value f) nested) ≡ (prefixes ++ own ∷ [])
    ++ map (below q) nested =
    keyed_split (keys_of name.key) (valued_mentions (value f) nested)
    ∙ sym (append_assoc prefixes (own ∷ []) (map (below q) nested)) in
    subst (λ (l : List Mention). IsRenamedIn at p new l (named_parts from (Some name) ++ parts) c) (sym whole)
    (renamed_after at p new (prefixes ++ own ∷ []) (map (below q) nested) (named_parts from (Some name)) parts c
    (many_keys from name own refl)
    (renamed_beyond at q more p new nested parts c e h))

many_entry : (n at : ℕ) (name : Option Name) (body : Body) (nested : Entries)
    → marked (entry_mentions n name (body_fact body) (entries_mentions 0 nested))
    ≡ length (named_parts at name ++ entries_parts (nested_start (value_start at name) body) nested)
many_entry n at name body nested =
    let first : List Mention = entry_mentions n name (body_fact body) (entries_mentions 0 nested) in
    let i : ℕ = nested_start (value_start at name) body in
    omega (
      arith,
      marked-append first [],
      marked-entries n (entry name body nested [] None none),
      length-append (named_parts at name) (entries_parts i nested),
      length-named at name,
      length-entries_parts i nested,
    )

prefix_ends : (at : ℕ) (name : Option Name) (body : Body) (nested : Entries) (after : Gap) (comma : Option Gap)
    → at + length (entry_prefix name body nested ++ (text_of after ++ text_of (comma_leaves comma)))
    ≡ entry_end at name body nested after comma
prefix_ends at name body nested after comma =
    let a : List ℕ = text_of (named_leaves name) in
    let b : List ℕ = text_of (opening body) in
    let c : List ℕ = entries_text nested in
    let d : List ℕ = text_of (closing body) in
    omega (
      arith,
      length-append (a ++ (b ++ (c ++ d))) (text_of after ++ text_of (comma_leaves comma)),
      length-append a (b ++ (c ++ d)),
      length-append b (c ++ d),
      length-append c d,
      length-append (text_of after) (text_of (comma_leaves comma)),
    )

module _ (new : Written) where
  abbrev Renamed : {A : Type 0} → ℕ → List Part → List Mention → List KeyPart → Changed A → Type 0
  Renamed at p ms parts c = IsRenamedIn at p new.text ms parts c

  -- ---- the key of an entry

  renamed_here : (q : Part) (qs : List Part) (n at : ℕ) (name : Name) (body : Body) (nested : Entries) (after : Gap)
      (comma : Option Gap) (rest : Entries) (more : List Part)
      → strip (q ∷ qs) (map key (keys_of name.key)) ≡ Some more → (right : List ℕ)
      → (let whole : Entries = entry (Some name) body nested after comma rest in
      EachOf (Renamed at (q ∷ qs) (entries_mentions n whole) (entries_parts at whole))
      (within (λ nm. entry (Some nm) body nested after comma rest) [] right
      (rename_name new (length (q ∷ qs) - 1) name)))
  renamed_here q qs n at name body nested after comma rest more e right =
      let p : List Part = q ∷ qs in
      let whole : Entries = entry (Some name) body nested after comma rest in
      let outer : Name → Entries = λ nm. entry (Some nm) body nested after comma rest in
      let keys : List (List ℕ) = keys_of name.key in
      let first : List Mention =
      keyed_mentions keys (valued_mentions (value (body_fact body)) (entries_mentions 0 nested)) in
      let further : List KeyPart =
      entries_parts (nested_start (value_start at (Some name)) body) nested
      ++ entries_parts (entry_end at (Some name) body nested after comma) rest in
      let number : length qs ≡ length (q ∷ qs) - 1 = omega arith in
      let m : IsMarkedAt p (length (q ∷ qs) - 1) first =
      subst (λ k. IsMarkedAt p k first) number
      (subst (IsMarkedAt p (length qs)) (map_none first)
      (keyed_marked p [] (length qs) keys (value (body_fact body)) (entries_mentions 0 nested) refl
      (prefix_part [] q qs keys more e))) in
      of_within (IsPartAt at (length (q ∷ qs) - 1) new.text (key_parts at name.key))
      (Renamed at p (entries_mentions n whole) (entries_parts at whole)) outer [] right
      (rename_name new (length (q ∷ qs) - 1) name)
      (λ c h.
      renamed_before at p new.text first (entries_mentions (n + 1) rest) (key_parts at name.key) further
      (framed_change outer [] right c)
      (renamed_framed at at p new.text first (key_parts at name.key) outer [] right c (omega arith)
      (renamed_both at (length (q ∷ qs) - 1) p new.text first (key_parts at name.key) c m h)))
      (name_at new at (length (q ∷ qs) - 1) name)

  renamed_later : {A : Type 0} (p : List Part) (n at : ℕ) (name : Option Name) (body : Body) (nested : Entries)
      (after : Gap) (comma : Option Gap) (rest : Entries) (outer : Entries → A) (o : Option (Changed Entries))
      → EachOf (Renamed (entry_end at name body nested after comma) p (entries_mentions (n + 1) rest)
      (entries_parts (entry_end at name body nested after comma) rest)) o
      → EachOf (Renamed at p (entries_mentions n (entry name body nested after comma rest))
      (entries_parts at (entry name body nested after comma rest)))
      (within outer (entry_prefix name body nested ++ (text_of after ++ text_of (comma_leaves comma))) [] o)
  renamed_later p n at name body nested after comma rest outer o h =
      let whole : Entries = entry name body nested after comma rest in
      let end : ℕ = entry_end at name body nested after comma in
      let left : List ℕ = entry_prefix name body nested ++ (text_of after ++ text_of (comma_leaves comma)) in
      let first : List Mention = entry_mentions n name (body_fact body) (entries_mentions 0 nested) in
      let named : List KeyPart = named_parts at name in
      let inner : List KeyPart = entries_parts (nested_start (value_start at name) body) nested in
      let suffix : List KeyPart = entries_parts end rest in
      of_within (Renamed end p (entries_mentions (n + 1) rest) suffix)
      (Renamed at p (entries_mentions n whole) (entries_parts at whole)) outer left [] o
      (λ c k.
      subst (λ (l : List KeyPart). Renamed at p (entries_mentions n whole) l (framed_change outer left [] c))
      (append_assoc named inner suffix)
      (renamed_after at p new.text first (entries_mentions (n + 1) rest) (named ++ inner) suffix
      (framed_change outer left [] c) (many_entry n at name body nested)
      (renamed_framed end at p new.text (entries_mentions (n + 1) rest) suffix outer left [] c
      (prefix_ends at name body nested after comma) k))) h

  renamed_entry : (q : Part) (qs : List Part) (n at : ℕ) (es : Entries)
      → EachOf (Renamed at (q ∷ qs) (entries_mentions n es) (entries_parts at es)) (rename_entry new (q ∷ qs) es)
  renamed_entry q qs n at none = tt
  renamed_entry q qs n at (entry None body nested after comma rest) = tt
  renamed_entry q qs n at (entry (Some name) body nested after comma rest) =
      by (renamed_entry q qs (n + 1) (entry_end at (Some name) body nested after comma) rest)
      (strip (q ∷ qs) (step 0 (Some name))) refl
    where
      whole : Entries
      whole = entry (Some name) body nested after comma rest

      by : EachOf (Renamed (entry_end at (Some name) body nested after comma) (q ∷ qs) (entries_mentions (n + 1) rest)
          (entries_parts (entry_end at (Some name) body nested after comma) rest)) (rename_entry new (q ∷ qs) rest)
          → (o : Option (List Part)) → strip (q ∷ qs) (step 0 (Some name)) ≡ o
          → EachOf (Renamed at (q ∷ qs) (entries_mentions n whole) (entries_parts at whole)) (elim o [
            | Some more ↦
                within (λ nm. entry (Some nm) body nested after comma rest) []
                (text_of (opening body) ++ (entries_text nested
                ++ (text_of (closing body) ++ entry_back after comma rest)))
                (rename_name new (length (q ∷ qs) - 1) name)
            | None ↦
                within (entry (Some name) body nested after comma)
                (entry_prefix (Some name) body nested ++ (text_of after ++ text_of (comma_leaves comma))) []
                (rename_entry new (q ∷ qs) rest)
          ])
      by later (Some more) e = renamed_here q qs n at name body nested after comma rest more e _
      by later None e =
          renamed_later (q ∷ qs) n at (Some name) body nested after comma rest
          (entry (Some name) body nested after comma) (rename_entry new (q ∷ qs) rest) later

  -- ---- in a value

  renamed_act : (at : ℕ) (more : List Part) (body : Body) (nested : Entries)
      → EachOf (Renamed at more (entries_mentions 0 nested) (entries_parts (nested_start at body) nested))
      (renaming new more (record { body = body; nested = nested }))
  renamed_act at [] body nested = tt
  renamed_act at (q ∷ qs) body nested =
      let outer : Entries → Value = λ es. record { body = body; nested = es } in
      let i : ℕ = nested_start at body in
      of_within (Renamed i (q ∷ qs) (entries_mentions 0 nested) (entries_parts i nested))
      (Renamed at (q ∷ qs) (entries_mentions 0 nested) (entries_parts i nested)) outer (text_of (opening body))
      (text_of (closing body)) (rename_entry new (q ∷ qs) nested)
      (λ c h. renamed_framed i at (q ∷ qs) new.text (entries_mentions 0 nested) (entries_parts i nested) outer
      (text_of (opening body)) (text_of (closing body)) c refl h)
      (renamed_entry q qs 0 i nested)

  renamed_value : (at : ℕ) (more : List Part) (body : Body) (nested : Entries)
      → EachOf (Renamed (nested_start at body) more (entries_mentions 0 nested)
      (entries_parts (nested_start at body) nested)) (in_entries (renaming new) more 0 nested)
      → EachOf (Renamed at more (entries_mentions 0 nested) (entries_parts (nested_start at body) nested))
      (or_else (within (λ es. record { body = body; nested = es }) (text_of (opening body)) (text_of (closing body))
      (in_entries (renaming new) more 0 nested)) (renaming new more (record { body = body; nested = nested })))
  renamed_value at more body nested h =
      let outer : Entries → Value = λ es. record { body = body; nested = es } in
      let i : ℕ = nested_start at body in
      let ms : List Mention = entries_mentions 0 nested in
      let left : List ℕ = text_of (opening body) in
      let right : List ℕ = text_of (closing body) in
      of_or_else (Renamed at more ms (entries_parts i nested))
      (within outer left right (in_entries (renaming new) more 0 nested))
      (renaming new more (record { body = body; nested = nested }))
      (of_within (Renamed i more ms (entries_parts i nested)) (Renamed at more ms (entries_parts i nested)) outer left
      right (in_entries (renaming new) more 0 nested)
      (λ c k. renamed_framed i at more new.text ms (entries_parts i nested) outer left right c refl k) h)
      (renamed_act at more body nested)

  renamed_entries : (p : List Part) (n at : ℕ) (es : Entries)
      → EachOf (Renamed at p (entries_mentions n es) (entries_parts at es)) (in_entries (renaming new) p n es)
  renamed_entries p n at none = tt
  renamed_entries p n at (entry name body nested after comma rest) =
      by (renamed_entries p (n + 1) (entry_end at name body nested after comma) rest)
      (λ more. renamed_entries more 0 (nested_start (value_start at name) body) nested) (strip (step n name) p) refl
    where
      whole : Entries
      whole = entry name body nested after comma rest

      by : EachOf (Renamed (entry_end at name body nested after comma) p (entries_mentions (n + 1) rest)
          (entries_parts (entry_end at name body nested after comma) rest)) (in_entries (renaming new) p (n + 1) rest)
          → ((more : List Part)
          → EachOf (Renamed (nested_start (value_start at name) body) more (entries_mentions 0 nested)
          (entries_parts (nested_start (value_start at name) body) nested)) (in_entries (renaming new) more 0 nested))
          → (o : Option (List Part)) → strip (step n name) p ≡ o
          → EachOf (Renamed at p (entries_mentions n whole) (entries_parts at whole)) (elim o [
            | None ↦
                within (entry name body nested after comma)
                (entry_prefix name body nested ++ (text_of after ++ text_of (comma_leaves comma))) []
                (in_entries (renaming new) p (n + 1) rest)
            | Some more ↦
                within (λ v. entry name v.body v.nested after comma rest) (text_of (named_leaves name))
                (entry_back after comma rest)
                (or_else (within (λ es. record { body = body; nested = es }) (text_of (opening body))
                (text_of (closing body)) (in_entries (renaming new) more 0 nested))
                (renaming new more (record { body = body; nested = nested })))
          ])
      by later deeper None e =
          renamed_later p n at name body nested after comma rest (entry name body nested after comma)
          (in_entries (renaming new) p (n + 1) rest) later
      by later deeper (Some more) e =
          let v : ℕ = value_start at name in
          let i : ℕ = nested_start v body in
          let outer : Value → Entries = λ x. entry name x.body x.nested after comma rest in
          let left : List ℕ = text_of (named_leaves name) in
          let right : List ℕ = entry_back after comma rest in
          let named : List KeyPart = named_parts at name in
          let inner : List KeyPart = entries_parts i nested in
          let suffix : List KeyPart = entries_parts (entry_end at name body nested after comma) rest in
          let first : List Mention = entry_mentions n name (body_fact body) (entries_mentions 0 nested) in
          of_within (Renamed v more (entries_mentions 0 nested) inner)
          (Renamed at p (entries_mentions n whole) (entries_parts at whole)) outer left right _
          (λ c h.
          renamed_framed v at p new.text (entries_mentions n whole) (entries_parts at whole) outer left right c refl
          (subst (λ (l : List KeyPart). Renamed v p (entries_mentions n whole) l c) (append_assoc named inner suffix)
          (renamed_before v p new.text first (entries_mentions (n + 1) rest) (named ++ inner) suffix c
          (renamed_named v at n name (body_fact body) new.text (entries_mentions 0 nested) more p inner c
          (strip-sound (step n name) p more e) h))))
          (renamed_value v more body nested (deeper more))

  -- ---- in a line

  renamed_keyval : (p : List Part) (r : Reading) (at : ℕ) (name : Name) (v : Value) (o : Option (List Part))
      → strip (r.body ++ step 0 (Some name)) p ≡ o
      → EachOf (Renamed at p (content_mentions r (keyval name v)) (content_parts at (keyval name v))) (elim o [
        | None ↦ None
        | Some more ↦ within (keyval name) (text_of (name_leaves name)) [] (in_value (renaming new) more v)
      ])
  renamed_keyval p r at name v None e = tt
  renamed_keyval p r at name v (Some more) e =
      let from : ℕ = value_start at (Some name) in
      let parts : List KeyPart = entries_parts (nested_start from v.body) v.nested in
      let inner : List Part = step 0 (Some name) ++ more in
      let whole : p ≡ r.body ++ inner =
      strip-sound (r.body ++ step 0 (Some name)) p more e ∙ append_assoc r.body (step 0 (Some name)) more in
      of_within (Renamed from more (entries_mentions 0 v.nested) parts)
      (Renamed at p (content_mentions r (keyval name v)) (content_parts at (keyval name v)))
      (keyval name) (text_of (name_leaves name)) [] (in_value (renaming new) more v)
      (λ c h.
      renamed_framed from at p new.text (content_mentions r (keyval name v)) (content_parts at (keyval name v))
      (keyval name) (text_of (name_leaves name)) [] c refl
      (renamed_beyond from r.body inner p new.text (keyval_mentions name v) (content_parts at (keyval name v)) c whole
      (renamed_named from at 0 (Some name) (body_fact v.body) new.text (entries_mentions 0 v.nested) more inner parts c
      refl h)))
      (renamed_value from more v.body v.nested (renamed_entries more 0 (nested_start from v.body) v.nested))

  renamed_content : (p : List Part) (r : Reading) (at : ℕ) (c : Content)
      → EachOf (Renamed at p (content_mentions r c) (content_parts at c)) (in_content (renaming new) r.body p c)
  renamed_content p r at blank = tt
  renamed_content p r at (keyval name v) = renamed_keyval p r at name v (strip (r.body ++ step 0 (Some name)) p) refl
  renamed_content p r at (header before k suffix) = tt
  renamed_content p r at (element before k suffix) = tt

  -- the line's own key
  renamed_own : (p : List Part) (r : Reading) (at n : ℕ) (c : Content)
      → position (same_path p) (part_paths r c) ≡ Some n
      → EachOf (Renamed at p (content_mentions r c) (content_parts at c)) (rename_content new n c)
  renamed_own p r at n blank e = tt
  renamed_own p r at n (keyval name v) e =
      let parts : List KeyPart = entries_parts (nested_start (value_start at (Some name)) v.body) v.nested in
      let ms : List Mention = content_mentions r (keyval name v) in
      let m : IsMarkedAt p n ms =
      keyed_marked p r.body n (keys_of name.key) (value (body_fact v.body)) (entries_mentions 0 v.nested) refl
      (keyval_position p r.body n (keys_of name.key) e) in
      of_within (IsPartAt at n new.text (key_parts at name.key)) (Renamed at p ms (content_parts at (keyval name v)))
      (λ nm. keyval nm v) [] (text_of_value v) (rename_name new n name)
      (λ c h.
      subst (λ (l : List Mention).
      Renamed at p l (key_parts at name.key ++ parts) (framed_change (λ nm. keyval nm v) [] (text_of_value v) c))
      (append-nil ms)
      (renamed_before at p new.text ms [] (key_parts at name.key) parts
      (framed_change (λ nm. keyval nm v) [] (text_of_value v) c)
      (renamed_framed at at p new.text ms (key_parts at name.key) (λ nm. keyval nm v) [] (text_of_value v) c
      (omega arith) (renamed_both at n p new.text ms (key_parts at name.key) c m h))))
      (name_at new at n name)
  renamed_own p r at n (header x k y) e =
      let from : ℕ = at + 1 + syntax.width x in
      let ms : List Mention = content_mentions r (header x k y) in
      let outer : Key → Content = λ k. header x k y in
      let left : List ℕ = codes "[" ++ text_of x in
      let right : List ℕ = text_of y ++ codes "]" in
      let m : IsMarkedAt p n ms =
      header_marked p r.tables [] n (keys_of k) define [] refl (header_position p r.tables n (keys_of k) e) in
      of_within (IsPartAt from n new.text (key_parts from k)) (Renamed at p ms (key_parts from k)) outer left right
      (rename_part new n k)
      (λ c h. renamed_framed from at p new.text ms (key_parts from k) outer left right c
      (omega (arith, length-append (codes "[") (text_of x)))
      (renamed_both from n p new.text ms (key_parts from k) c m h))
      (key_at new from n k)
  renamed_own p r at n (element x k y) e =
      let from : ℕ = at + 2 + syntax.width x in
      let ms : List Mention = content_mentions r (element x k y) in
      let outer : Key → Content = λ k. element x k y in
      let left : List ℕ = codes "[[" ++ text_of x in
      let right : List ℕ = text_of y ++ codes "]]" in
      let path : List Part = header_path r.tables [] (keys_of k) in
      let m : IsMarkedAt p n ms =
      header_marked p r.tables [] n (keys_of k) kinds_element
      (record { path = path ++ index (elements_of path r.tables) ∷ []; kind = begun } ∷ []) refl
      (header_position p r.tables n (keys_of k) e) in
      of_within (IsPartAt from n new.text (key_parts from k)) (Renamed at p ms (key_parts from k)) outer left right
      (rename_part new n k)
      (λ c h. renamed_framed from at p new.text ms (key_parts from k) outer left right c
      (omega (
        arith,
        length-append (codes "[[") (text_of x),
      )) (renamed_both from n p new.text ms (key_parts from k) c m h))
      (key_at new from n k)

  abbrev in_a_line : List Part → Reading → syntax.Count → Line → Changed Line → Type 0
  in_a_line p r c l d = Renamed c.at p (line_mentions r l) (line_parts c l) d

  renamed_framed_line : (p : List Part) (r : Reading) (c : syntax.Count) (l : Line) (o : Option (Changed Content))
      → EachOf (Renamed (content_start c l) p (line_mentions r l) (line_parts c l)) o
      → EachOf (in_a_line p r c l) (within (λ x. record l { content = x }) (text_of l.before)
      (text_of l.after ++ text_of (comment_leaves l.comment)) o)
  renamed_framed_line p r c l o h =
      let outer : Content → Line = λ x. record l { content = x } in
      let right : List ℕ = text_of l.after ++ text_of (comment_leaves l.comment) in
      of_within (Renamed (content_start c l) p (line_mentions r l) (line_parts c l)) (in_a_line p r c l) outer
      (text_of l.before) right o
      (λ d k. renamed_framed (content_start c l) c.at p new.text (line_mentions r l) (line_parts c l) outer
      (text_of l.before) right d refl k) h

  renamed_in_line : (p : List Part) (r : Reading) (c : syntax.Count) (l : Line)
      → EachOf (in_a_line p r c l) (in_line (renaming new) p r l)
  renamed_in_line p r c l =
      renamed_framed_line p r c l (in_content (renaming new) r.body p l.content)
      (renamed_content p r (content_start c l) l.content)

  pub renamed_own_line : (p : List Part) (r : Reading) (c : syntax.Count) (l : Line)
      → EachOf (in_a_line p r c l) (rename_line new p r l)
  renamed_own_line p r c l = by (position (same_path p) (part_paths r l.content)) refl
    where
      by : (o : Option ℕ) → position (same_path p) (part_paths r l.content) ≡ o → EachOf (in_a_line p r c l) (elim o [
        | None ↦ None
        | Some n ↦
            within (λ c. record l { content = c }) (text_of l.before)
            (text_of l.after ++ text_of (comment_leaves l.comment)) (rename_content new n l.content)
      ])
      by None e = tt
      by (Some n) e =
          renamed_framed_line p r c l (rename_content new n l.content)
          (renamed_own p r (content_start c l) n l.content e)

  -- ---- in a document

  abbrev all_parts : syntax.Count → List Ended → Line → List KeyPart
  all_parts c es last = over_lines (λ c l line_end. line_parts c l) c es last

  renamed_lines : (f : Reading → Line → Option (Changed Line)) (p : List Part)
      → ((r : Reading) (c : syntax.Count) (l : Line) → EachOf (in_a_line p r c l) (f r l))
      → (r : Reading) (c : syntax.Count) (es : List Ended) (last : Line)
      → EachOf (Renamed c.at p (lines_mentions r (map line_of es ++ last ∷ [])) (all_parts c es last))
      (in_lines f r es last)
  renamed_lines f p each r c [] last =
      of_within (in_a_line p r c last) (Renamed c.at p (line_mentions r last ++ []) (line_parts c last))
      (λ l. record { ended = []; last = l }) [] [] (f r last)
      (λ d h.
      renamed_framed c.at c.at p new.text (line_mentions r last ++ []) (line_parts c last)
      (λ l. record { ended = []; last = l }) [] [] d (omega arith)
      (subst (λ (l : List Mention). Renamed c.at p l (line_parts c last) d) (sym (append-nil (line_mentions r last)))
      h))
      (each r c last)
  renamed_lines f p each r c (e ∷ es) last =
      let here : List Mention = line_mentions r e.line in
      let rest : List Mention = lines_mentions (after_line r e.line) (map line_of es ++ last ∷ []) in
      let own : List KeyPart = line_parts c e.line in
      let more : List KeyPart = all_parts (next_line c e) es last in
      let right : List ℕ = e.newline.text ++ page_text (record { ended = es; last = last }) in
      let one : Line → Page = λ l. record { ended = record { line = l; newline = e.newline } ∷ es; last = last } in
      let others : Page → Page = λ b. record { ended = e ∷ b.ended; last = b.last } in
      of_or_else (Renamed c.at p (here ++ rest) (own ++ more)) _ _
      (of_within (in_a_line p r c e.line) (Renamed c.at p (here ++ rest) (own ++ more)) one [] right (f r e.line)
      (λ d h.
      renamed_framed c.at c.at p new.text (here ++ rest) (own ++ more) one [] right d (omega arith)
      (renamed_before c.at p new.text here rest own more d h))
      (each r c e.line))
      (of_within (Renamed (next_line c e).at p rest more) (Renamed c.at p (here ++ rest) (own ++ more)) others
      (text_of (ended_leaves e)) [] (in_lines f (after_line r e.line) es last)
      (λ d h.
      renamed_framed (next_line c e).at c.at p new.text (here ++ rest) (own ++ more) others (text_of (ended_leaves e))
      [] d refl
      (renamed_after (next_line c e).at p new.text here rest own more d
      (marked-content r (content_start c e.line) e.line.content) h))
      (renamed_lines f p each (after_line r e.line) (next_line c e) es last))

  renamed_page : (f : Reading → Line → Option (Changed Line)) (p : List Part) (s : Document)
      → ((r : Reading) (c : syntax.Count) (l : Line) → EachOf (in_a_line p r c l) (f r l))
      → EachOf (Renamed 0 p (mentions_in s) (syntax.parts s)) (in_document s (in_lines f start s.ended s.last))
  renamed_page f p s each =
      of_within (Renamed (first_line s).at p (mentions_in s) (syntax.parts s))
      (Renamed 0 p (mentions_in s) (syntax.parts s)) (with_page s) (text_of (bom_leaves s.bom)) []
      (in_lines f start s.ended s.last)
      (λ c h. renamed_framed (first_line s).at 0 p new.text (mentions_in s) (syntax.parts s) (with_page s)
      (text_of (bom_leaves s.bom)) [] c (omega arith) h)
      (renamed_lines f p each start (first_line s) s.ended s.last)

-- What `rename` changes in a document is one of its key parts, which names the path.
pub rename_place : (p : List Part) (text : List ℕ) (s : Document)
    → EachOf (IsRenamedIn 0 p (key_part text).text (mentions_in s) (syntax.parts s)) (change s (rename p text))
rename_place p text s =
    let new : Written = key_part text in
    of_or_else (IsRenamedIn 0 p new.text (mentions_in s) (syntax.parts s))
    (in_document s (in_lines (rename_line new p) start s.ended s.last)) (nested (renaming new) p s)
    (renamed_page new (rename_line new p) p s (renamed_own_line new p))
    (renamed_page new (in_line (renaming new) p) p s (renamed_in_line new p))
