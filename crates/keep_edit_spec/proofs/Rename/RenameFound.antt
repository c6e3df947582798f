-- Where a key part names a path, `rename` has a change.
--
-- A mention that names the path comes from one key part, and the search for it is followed: in lines (`lines_there`),
-- in what a line says (`content_cases`), and in the entries of its value (`entries_there`, by induction). In a line
-- there are two outcomes: a key of the line itself is the part, or one inside its value. For a key of the line, the
-- number of the part is found among the paths of its prefixes (`header_number`, `keyval_number`), and a part with that
-- number can be renamed (`content_there`). In entries the mention is in the first entry or in a later one, and in both
-- cases there is a change (`keyed_there`, `further_there`).
--
-- Theorems: `entries_there`: in entries; `some_rename`.
use Rattle.std.proofs.Common.{◌≡◌, ℕ, zero, suc, ◌+◌, ◌<◌, Bool, true, false, cond, List, [], ◌∷◌, ◌++◌, length, map}
use Rattle.std.proofs.Common.{get_or, refl, sym, ap, subst, ◌∙◌, append_assoc, arith, Option, Some, None, ◌⊎◌, inl, inr}
use Rattle.std.specs.Prelude.{codes, position, ◌==◌}
use Rattle.std.specs.List.{AllByRecursion, position_or_len}
use Rattle.std.proofs.lemmas.Bool.{cases_lt, lt-ltb}
use Rattle.std.proofs.lemmas.List.Sums.{fails_before_first}
use Rattle.keep_types.specs.declared.leaf.Profile.{Profile}
use Rattle.keep_syntax.specs.Tree.{Written, Gap, Name, Body, Entries, none, entry, Value, Content, blank, keyval}
use Rattle.keep_syntax.specs.Tree.{header, element, Line, Ended, Document, name_leaves, comment_leaves, ended_leaves}
use Rattle.keep_syntax.specs.Tree.{bom_leaves, text_of}
use Rattle.keep_syntax.specs.Grammar.{IsNamed, AreEntries, IsContent, IsLine, IsEnded, IsDocument, Place, place_in}
use Rattle.keep_path.specs.Path.{Part, key, index, same_path}
use Rattle.keep_meaning.specs.Marks.{MentionKind, through, past, passed, define, element as kinds_element, begun, value}
use Rattle.keep_meaning.specs.Marks.{Mention, Reading, start, elements_of, entered_path, passing_mentions, header_path}
use Rattle.keep_meaning.specs.Marks.{header_prefixes}
use Rattle.keep_meaning.specs.Meaning.{key_value, further_value, keys_of, body_fact, entry_mentions, entries_mentions}
use Rattle.keep_meaning.specs.Meaning.{step, keyval_mentions, line_mentions, after_line, lines_mentions, line_of}
use Rattle.keep_meaning.specs.Meaning.{mentions_in}
use Rattle.keep_edit_spec.specs.Look.{strip}
use Rattle.keep_edit_spec.specs.Changed.{Changed, within}
use Rattle.keep_edit_spec.specs.Values.{in_value, rename_entry, renaming, rename_part, rename_name, text_of_value}
use Rattle.keep_edit_spec.specs.Lines.{Page, page_text, with_page, key_prefixes, part_paths, rename_content}
use Rattle.keep_edit_spec.specs.Lines.{rename_line, in_content, in_line, in_lines, in_document}
use Rattle.keep_edit_spec.specs.Edits.{key_part, nested, change_rename}
use Rattle.keep_edit_spec.proofs.Common.Runs.{SomeOf, pairs_split, Allowed, Rules, same_path-refl, strip-append}
use Rattle.keep_edit_spec.proofs.Common.SetLaw.{IsSolidAt, rules_below, rules_named}
use Rattle.keep_edit_spec.proofs.Common.LineLaws.{EndsInKey}
use Rattle.keep_edit_spec.proofs.Common.ValueThere.{IsSome, some_within, some_first, some_second, some_cases}
use Rattle.keep_edit_spec.proofs.Rename.RenamedParts.{IsPart, prefixes_entered, prefixes_beyond, header_position}
use Rattle.keep_edit_spec.proofs.Rename.RenamedParts.{keyval_position}
use Rattle.keep_edit_spec.proofs.Rename.RenameKey.{some_key, some_name}
use Rattle.keep_edit_spec.proofs.Rename.RenameContent.{content_mentions}
use Rattle.keep_edit_spec.proofs.Rename.RenameInValue.{ends_later}
use Rattle.keep_edit_spec.proofs.Rename.RenameThere.{entries_root, SomePart, keyed_cases, IsKeyOf, entry_cases}
use Rattle.keep_edit_spec.proofs.Rename.RenameThere.{entry_there, no_key_after, IsThere, value_there, deeper_there}
use Rattle.keep_edit_spec.proofs.Rename.RenameThere.{after_there}

-- ---- in entries

keyed_there : (new : Written) (q : Part) (qs : List Part) (name : Option Name) (body : Body) (nested : Entries)
    (after : Gap) (comma : Option Gap) (rest : Entries)
    → IsKeyOf (q ∷ qs) name → IsSome (rename_entry new (q ∷ qs) (entry name body nested after comma rest))
keyed_there new q qs None body nested after comma rest u = absurd u
keyed_there new q qs (Some name) body nested after comma rest u =
    entry_there new q qs name body nested after comma rest (inl u)

further_there : (profile : Profile) (place : Place) (new : Written) (q : Part) (qs : List Part) (name : Option Name)
    (body : Body) (nested : Entries) (after : Gap) (comma : Option Gap) (rest : Entries)
    → IsNamed profile place name → AreEntries profile place rest → IsSome (rename_entry new (q ∷ qs) rest)
    → IsSome (rename_entry new (q ∷ qs) (entry name body nested after comma rest))
further_there profile place new q qs None body nested after comma rest named valid s =
    absurd (no_key_after profile place new (q ∷ qs) rest named valid s)
further_there profile place new q qs (Some name) body nested after comma rest named valid s =
    entry_there new q qs name body nested after comma rest (inr s)

filled_by : (es : Entries) (more : List Part) → SomeOf (IsSolidAt more) (entries_mentions 0 es) → more ≡ [] → ⊥
filled_by es more s e = entries_root 0 es (subst (λ (q : List Part). SomeOf (IsSolidAt q) (entries_mentions 0 es)) e s)

pub entries_there : (profile : Profile) (new : Written) (place : Place) (p : List Part) → EndsInKey p
    → (n : ℕ) (es : Entries) → AreEntries profile place es → Rules (entries_mentions n es)
    → SomeOf (IsSolidAt p) (entries_mentions n es)
    → IsThere new p n es
entries_there profile new place p ends n none valid rules s = absurd s
entries_there profile new place [] ends n (entry name body nested after comma rest) valid rules s =
    absurd (entries_root n (entry name body nested after comma rest) s)
entries_there profile new place (q ∷ qs) ends n (entry name body nested after comma rest) (hn, hb, hi, ha, hc, hr) rules
    s =
    let p : List Part = q ∷ qs in
    let first : List Mention = entry_mentions n name (body_fact body) (entries_mentions 0 nested) in
    let split = pairs_split Allowed first (entries_mentions (n + 1) rest) rules in
    let inner : Rules (entries_mentions 0 nested) =
    rules_named n name (body_fact body) (entries_mentions 0 nested) split.left in
    elim (some_cases (IsSolidAt p) first (entries_mentions (n + 1) rest) s) [
      | inl a ↦ elim (entry_cases p ends n name (body_fact body) (entries_mentions 0 nested) a) [
        | inl u ↦ inr (keyed_there new q qs name body nested after comma rest u)
        | inr b ↦ inl (deeper_there new p n name body nested after comma rest b
            (λ more t e.
            entries_there profile new (place_in body) more
            (ends_later (step n name) more p e ends (filled_by nested more t)) 0 nested hi inner t))
      ]
      | inr b ↦ elim (entries_there profile new place (q ∷ qs) ends (n + 1) rest hr split.right b) [
        | inl h ↦ inl (after_there new p n name body nested after comma rest rules b h)
        | inr h ↦ inr (further_there profile place new q qs name body nested after comma rest hn hr h)
      ]
    ]

-- ---- the number of the part is found

position_there : {A : Type 0} (test : A → Bool) (xs : List A) (n : ℕ) (d : A) → n < length xs
    → test (get_or xs n d) ≡ true → IsSome (position test xs)
position_there test xs n d lt e = elim (cases_lt (position_or_len test xs) (length xs)) [
  | inl l ↦ rw (lt-ltb (position_or_len test xs) (length xs) l) tt
  | inr g ↦ (let no : test (get_or xs n d) ≡ false = fails_before_first test xs n d (omega arith) in absurd cc)
]

record IsAtNumber (p d : List Part) (n : ℕ) (xs : List (List Part)) : Type 0 where
  within : n < length xs
  is : get_or xs n d ≡ p

header_number : (p d : List Part) (tables : List (List Part)) (at : List Part) (n : ℕ) (keys : List (List ℕ))
    → IsPart p tables at n keys → IsAtNumber p d n (map (header_path tables at) (key_prefixes keys))
header_number p d tables at n [] h = absurd h
header_number p d tables at zero (k ∷ ks) h = record { within = omega arith; is = h }
header_number p d tables at (suc n) (k ∷ ks) h =
    let w = prefixes_entered tables at k ks in
    let ih = header_number p d tables (entered_path tables (at ++ key k ∷ [])) n ks h in
    record {
      within = omega (arith, ih.within, ap length w);
      is = ap (λ (x : List (List Part)). get_or x n d) w
          ∙ ih.is;
    }

keyval_number : (p d at : List Part) (n : ℕ) (keys : List (List ℕ)) → IsPart p [] at n keys
    → IsAtNumber p d n (map (λ prefix. at ++ map key prefix) (key_prefixes keys))
keyval_number p d at n [] h = absurd h
keyval_number p d at zero (k ∷ ks) h = record { within = omega arith; is = h }
keyval_number p d at (suc n) (k ∷ ks) h =
    let w = prefixes_beyond at k (key_prefixes ks) in
    let ih = keyval_number p d (at ++ key k ∷ []) n ks h in
    record {
      within = omega (arith, ih.within, ap length w);
      is = ap (λ (x : List (List Part)). get_or x n d) w
          ∙ ih.is;
    }

numbered : (p : List Part) (n : ℕ) (xs : List (List Part)) → IsAtNumber p [] n xs → IsSome (position (same_path p) xs)
numbered p n xs h = position_there (same_path p) xs n [] h.within (ap (same_path p) h.is ∙ same_path-refl p)

-- ---- what a line says of the path

passing_at : (p : List Part) (tables : List (List Part)) (q : List Part)
    → SomeOf (IsSolidAt p) (passing_mentions tables q) → q ≡ p
passing_at p tables q s = by (entered_path tables q) (0 == elements_of q tables) s
  where
    by : (e : List Part) (c : Bool)
        → SomeOf (IsSolidAt p) (cond c (record { path = q; kind = through } ∷ [])
        (record { path = q; kind = past } ∷ record { path = e; kind = passed } ∷ [])) → q ≡ p
    by e true (inl h) = h.path
    by e true (inr h) = absurd h
    by e false (inl h) = h.path
    by e false (inr (inl h)) = absurd (let x = h.kind in cc)
    by e false (inr (inr h)) = absurd h

header_cases : (p : List Part) (tables : List (List Part)) (at : List Part) (k : List ℕ) (ks : List (List ℕ))
    (mention_kind : MentionKind) (more : List Mention) → (SomeOf (IsSolidAt p) more → ⊥)
    → SomeOf (IsSolidAt p) (header_prefixes tables at (k ∷ ks)
    ++ record { path = header_path tables at (k ∷ ks); kind = mention_kind } ∷ more) → SomePart p tables at (k ∷ ks)
header_cases p tables at k [] mention_kind more never (inl h) = (zero, h.path)
header_cases p tables at k [] mention_kind more never (inr s) = absurd (never s)
header_cases p tables at k (l ∷ ks) mention_kind more never s =
    let q : List Part = at ++ key k ∷ [] in
    let passed_prefixes : List Mention = header_prefixes tables (entered_path tables q) (l ∷ ks) in
    let end : List Mention =
    record { path = header_path tables (entered_path tables q) (l ∷ ks); kind = mention_kind } ∷ more in
    elim (some_cases (IsSolidAt p) (passing_mentions tables q) (passed_prefixes ++ end)
    (subst (SomeOf (IsSolidAt p)) (append_assoc (passing_mentions tables q) passed_prefixes end) s)) [
      | inl a ↦ (zero, passing_at p tables q a)
      | inr b ↦ (let h = header_cases p tables (entered_path tables q) l ks mention_kind more never b in (suc h.0, h.1))
    ]

-- ---- in a line

content_there : (new : Written) (p : List Part) (r : Reading) (n : ℕ) (c : Content)
    → position (same_path p) (part_paths r c) ≡ Some n → IsSome (rename_content new n c)
content_there new p r n blank e = absurd cc
content_there new p r n (keyval name v) e =
    some_within (λ nm. keyval nm v) [] (text_of_value v) (rename_name new n name)
    (some_name new p [] r.body n name (keyval_position p r.body n (keys_of name.key) e))
content_there new p r n (header x k y) e =
    some_within (λ k. header x k y) (codes "[" ++ text_of x) (text_of y ++ codes "]") (rename_part new n k)
    (some_key new p r.tables [] n k (header_position p r.tables n (keys_of k) e))
content_there new p r n (element x k y) e =
    some_within (λ k. element x k y) (codes "[[" ++ text_of x) (text_of y ++ codes "]]") (rename_part new n k)
    (some_key new p r.tables [] n k (header_position p r.tables n (keys_of k) e))

renamed_there : (new : Written) (p : List Part) (r : Reading) (l : Line)
    → IsSome (position (same_path p) (part_paths r l.content)) → IsSome (rename_line new p r l)
renamed_there new p r l s = by (position (same_path p) (part_paths r l.content)) refl s
  where
    by : (o : Option ℕ) → position (same_path p) (part_paths r l.content) ≡ o → IsSome o
        → IsSome {A = Changed Line} (elim o [
          | None ↦ None
          | Some n ↦
              within (λ c. record l { content = c }) (text_of l.before)
              (text_of l.after ++ text_of (comment_leaves l.comment)) (rename_content new n l.content)
        ])
    by None e s = absurd s
    by (Some n) e s =
        some_within (λ c. record l { content = c }) (text_of l.before)
        (text_of l.after ++ text_of (comment_leaves l.comment)) (rename_content new n l.content)
        (content_there new p r n l.content e)

value_in_content : (new : Written) (body p : List Part) (name : Name) (v : Value) (more : List Part)
    → p ≡ (body ++ step 0 (Some name)) ++ more → IsSome (in_value (renaming new) more v)
    → IsSome (in_content (renaming new) body p (keyval name v))
value_in_content new body p name v more whole h =
    let e : strip (body ++ step 0 (Some name)) p ≡ Some more =
    ap (strip (body ++ step 0 (Some name))) whole ∙ strip-append (body ++ step 0 (Some name)) more in
    subst (λ (o : Option (List Part)).
    IsSome {A =
    Changed Content} (elim o [
      | None ↦ None
      | Some more ↦
          within (keyval name) (text_of (name_leaves name)) [] (in_value (renaming new) more v)
    ])) (sym e)
    (some_within (keyval name) (text_of (name_leaves name)) [] (in_value (renaming new) more v) h)

content_cases : (profile : Profile) (new : Written) (p : List Part) → EndsInKey p → (r : Reading) (c : Content)
    → IsContent profile c → Rules (content_mentions r c) → SomeOf (IsSolidAt p) (content_mentions r c)
    → IsSome (position (same_path p) (part_paths r c)) ⊎ IsSome (in_content (renaming new) r.body p c)
content_cases profile new p ends r blank valid rules s = absurd s
content_cases profile new p ends r (keyval name v) valid rules s =
    let keys : List (List ℕ) = keys_of name.key in
    elim (keyed_cases p r.body (key_value name.key.first) (map further_value name.key.more) (value (body_fact v.body))
    (entries_mentions 0 v.nested) s) [
      | inl part ↦
          inl (numbered p part.0 (map (λ prefix. r.body ++ map key prefix) (key_prefixes keys))
          (keyval_number p [] r.body part.0 keys part.1))
      | inr b ↦
          (let inner : Rules (entries_mentions 0 v.nested) =
          rules_named 0 (Some name) (body_fact v.body) (entries_mentions 0 v.nested)
          (rules_below r.body (keyval_mentions name v) rules) in
          let ends_rest : EndsInKey b.rest =
          ends_later (r.body ++ map key keys) b.rest p b.whole ends (filled_by v.nested b.rest b.some) in
          inr (value_in_content new r.body p name v b.rest b.whole
          (value_there new b.rest v.body v.nested b.some
          (entries_there profile new (place_in v.body) b.rest ends_rest 0 v.nested valid.1.nested inner b.some))))
    ]
content_cases profile new p ends r (header x k y) valid rules s =
    let part = header_cases p r.tables [] (key_value k.first) (map further_value k.more) define [] (λ t. t) s in
    inl (numbered p part.0 (map (header_path r.tables []) (key_prefixes (keys_of k)))
    (header_number p [] r.tables [] part.0 (keys_of k) part.1))
content_cases profile new p ends r (element x k y) valid rules s =
    let part =
    header_cases p r.tables [] (key_value k.first) (map further_value k.more) kinds_element
    (record {
      path = header_path r.tables [] (keys_of k) ++ index (elements_of (header_path r.tables [] (keys_of k)) r.tables)
          ∷ [];
      kind = begun;
    } ∷ [])
    begun_never s in
    inl (numbered p part.0 (map (header_path r.tables []) (key_prefixes (keys_of k)))
    (header_number p [] r.tables [] part.0 (keys_of k) part.1))
  where
    begun_never : {path : List Part} → SomeOf (IsSolidAt p) (record { path = path; kind = begun } ∷ []) → ⊥
    begun_never (inl h) = let x = h.kind in absurd cc
    begun_never (inr h) = h

pub line_there : (profile : Profile) (new : Written) (p : List Part) → EndsInKey p → (r : Reading) (l : Line)
    → IsLine profile l → Rules (line_mentions r l) → SomeOf (IsSolidAt p) (line_mentions r l)
    → IsSome (rename_line new p r l) ⊎ IsSome (in_line (renaming new) p r l)
line_there profile new p ends r l valid rules s =
    elim (content_cases profile new p ends r l.content valid.content rules s) [
      | inl h ↦ inl (renamed_there new p r l h)
      | inr h ↦
          inr (some_within (λ c. record l { content = c }) (text_of l.before)
          (text_of l.after ++ text_of (comment_leaves l.comment)) (in_content (renaming new) r.body p l.content) h)
    ]

-- ---- in lines

some_line_first : (f : Reading → Line → Option (Changed Line)) (r : Reading) (e : Ended) (es : List Ended) (last : Line)
    → IsSome (f r e.line) → IsSome (in_lines f r (e ∷ es) last)
some_line_first f r e es last h =
    let here : Option (Changed Page) =
    within (λ l. record { ended = record { line = l; newline = e.newline } ∷ es; last = last }) []
    (e.newline.text ++ page_text (record { ended = es; last = last })) (f r e.line) in
    some_first here (within (λ b. record { ended = e ∷ b.ended; last = b.last }) (text_of (ended_leaves e)) []
    (in_lines f (after_line r e.line) es last)) (some_within _ [] _ (f r e.line) h)

some_line_later : (f : Reading → Line → Option (Changed Line)) (r : Reading) (e : Ended) (es : List Ended) (last : Line)
    → IsSome (in_lines f (after_line r e.line) es last) → IsSome (in_lines f r (e ∷ es) last)
some_line_later f r e es last h =
    let there : Option (Changed Page) =
    within (λ b. record { ended = e ∷ b.ended; last = b.last }) (text_of (ended_leaves e)) []
    (in_lines f (after_line r e.line) es last) in
    some_second (within (λ l. record { ended = record { line = l; newline = e.newline } ∷ es; last = last }) []
    (e.newline.text ++ page_text (record { ended = es; last = last })) (f r e.line)) there
    (some_within (λ b. record { ended = e ∷ b.ended; last = b.last }) (text_of (ended_leaves e)) []
    (in_lines f (after_line r e.line) es last) h)

lines_there : (profile : Profile) (new : Written) (p : List Part) → EndsInKey p
    → (r : Reading) (es : List Ended) (last : Line) → AllByRecursion (IsEnded profile) es → IsLine profile last
    → Rules (lines_mentions r (map line_of es ++ last ∷ []))
    → SomeOf (IsSolidAt p) (lines_mentions r (map line_of es ++ last ∷ []))
    → IsSome (in_lines (rename_line new p) r es last) ⊎ IsSome (in_lines (in_line (renaming new) p) r es last)
lines_there profile new p ends r [] last each valid rules s =
    let outer : Line → Page = λ l. record { ended = []; last = l } in
    let here : SomeOf (IsSolidAt p) (line_mentions r last) =
    elim (some_cases (IsSolidAt p) (line_mentions r last) [] s) [ inl a ↦ a | inr b ↦ absurd b ] in
    elim (line_there profile new p ends r last valid (pairs_split Allowed (line_mentions r last) [] rules).left here) [
      | inl h ↦ inl (some_within outer [] [] (rename_line new p r last) h)
      | inr h ↦ inr (some_within outer [] [] (in_line (renaming new) p r last) h)
    ]
lines_there profile new p ends r (e ∷ es) last each valid rules s =
    let rest : List Mention = lines_mentions (after_line r e.line) (map line_of es ++ last ∷ []) in
    let split = pairs_split Allowed (line_mentions r e.line) rest rules in
    elim (some_cases (IsSolidAt p) (line_mentions r e.line) rest s) [
      | inl a ↦ elim (line_there profile new p ends r e.line each.0.line split.left a) [
        | inl h ↦ inl (some_line_first (rename_line new p) r e es last h)
        | inr h ↦ inr (some_line_first (in_line (renaming new) p) r e es last h)
      ]
      | inr b ↦ elim (lines_there profile new p ends (after_line r e.line) es last each.1 valid split.right b) [
        | inl h ↦ inl (some_line_later (rename_line new p) r e es last h)
        | inr h ↦ inr (some_line_later (in_line (renaming new) p) r e es last h)
      ]
    ]

-- A key part names the path.
pub some_rename : (profile : Profile) (s : Document) (p : List Part) (t : List ℕ) → IsDocument profile s
    → Rules (mentions_in s) → EndsInKey p → SomeOf (IsSolidAt p) (mentions_in s) → IsSome (change_rename s p t)
some_rename profile s p t valid rules ends there =
    let new : Written = key_part t in
    let one = in_document s (in_lines (rename_line new p) start s.ended s.last) in
    elim (lines_there profile new p ends start s.ended s.last valid.ended valid.last rules there) [
      | inl h ↦
          some_first one (nested (renaming new) p s)
          (some_within (with_page s) (text_of (bom_leaves s.bom)) [] (in_lines (rename_line new p) start s.ended s.last)
          h)
      | inr h ↦
          some_second one (nested (renaming new) p s)
          (some_within (with_page s) (text_of (bom_leaves s.bom)) []
          (in_lines (in_line (renaming new) p) start s.ended s.last) h)
    ]
