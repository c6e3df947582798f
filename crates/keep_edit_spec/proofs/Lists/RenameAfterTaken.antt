-- A rename makes the same change after a remove of another path took a table or an element with its header, beside it.
--
-- What the header that goes says is of paths that its body's begins with (`head_leads`), and what its body says is at
-- that path or under it. The path of the rename is none of those, as it is apart from the changed path. So the lines
-- that go say nothing of it: the rename finds nothing there (`misses`). In the lines after them it finds what it found,
-- where readings are another: the key parts of headers lead where the paths go, and one that leads to the path has the
-- same number (`same_number`). So it makes the same change as before, at the moved place (TakenSearch). No key part of
-- the lines that go names its path (`unmarked`), so as many do as before; and what is said without them was said
-- before, so there is still nothing at the new path. So the rename is not refused (RenameAllowed).
--
-- Theorem: `rename_after_taken`.
use Rattle.std.proofs.Common.{◌≡◌, ℕ, zero, suc, ◌+◌, Bool, true, false, cond, not, List, [], ◌∷◌, ◌++◌, length, map}
use Rattle.std.proofs.Common.{refl, sym, ap, ap₂, subst, ◌∙◌, append_assoc, arith, Option, Some, None, inl, inr}
use Rattle.std.specs.Prelude.{◌-◌, ◌==◌, position}
use Rattle.std.specs.List.{position_or_len}
use Rattle.std.proofs.lemmas.Bool.{le-ltb}
use Rattle.std.proofs.lemmas.List.{append-nil}
use Rattle.keep_types.specs.declared.leaf.Profile.{Profile}
use Rattle.keep_syntax.specs.Numbered.{first_line}
use Rattle.keep_syntax.specs.Tree.{Written, Gap, Content, blank, keyval, header, element, Line, Ended, Document}
use Rattle.keep_syntax.specs.Tree.{comment_leaves, ended_leaves, text_of}
use Rattle.keep_path.specs.Path.{Part, beside, index, key, same_path, strip}
use Rattle.keep_meaning.specs.Marks as marks_of
use Rattle.keep_meaning.specs.Marks.{Mention, Reading, begun, define, elements_of, entered_path, header_path}
use Rattle.keep_meaning.specs.Marks.{header_prefixes, passed, passing_mentions, past, start, through}
use Rattle.keep_meaning.specs.Meaning.{after_line, keys_of, keyval_mentions, line_mentions, line_of, lines_mentions}
use Rattle.keep_meaning.specs.Meaning.{mentions_in}
use Rattle.keep_meaning.specs.Nodes.{is_node, mark_count}
use Rattle.keep_edit_spec.specs.Changed.{Changed, or_else, within}
use Rattle.keep_edit_spec.specs.Edits.{change, key_part, nested, rename}
use Rattle.keep_edit_spec.specs.ElementRuns.{changed_path}
use Rattle.keep_edit_spec.specs.Laws.{IsEditable, IsLawfulEdit}
use Rattle.keep_edit_spec.specs.Lines.{Page, in_document, in_lines, is_header, key_prefixes, part_paths}
use Rattle.keep_edit_spec.specs.Lines.{rename_content, rename_line}
use Rattle.keep_edit_spec.specs.Refusals.{refusal}
use Rattle.keep_edit_spec.specs.RemovedHeaders.{RemovesHeader}
use Rattle.keep_edit_spec.specs.RenamedKeys.{RenamesKey}
use Rattle.keep_edit_spec.specs.Runs.{AreApart}
use Rattle.keep_edit_spec.specs.TextChanges.{TextChange, moved}
use Rattle.keep_edit_spec.specs.Values.{renaming}
use Rattle.keep_edit_spec.proofs.EditLaws.{rename_lawful}
use Rattle.keep_edit_spec.proofs.Common.HeadersGo.{Goes}
use Rattle.keep_edit_spec.proofs.Common.LineLaws.{Cases, Reaches, beyond, lines_mentions-append, prefix_cases}
use Rattle.keep_edit_spec.proofs.Common.LineLaws.{within_first}
use Rattle.keep_edit_spec.proofs.Common.LineTexts.{rename_line-is}
use Rattle.keep_edit_spec.proofs.Common.Moves.{IsInjectiveOn}
use Rattle.keep_edit_spec.proofs.Common.Runs.{AllOf, IsUnder, SomeOf, all_join, all_map, meet, same_path-sound}
use Rattle.keep_edit_spec.proofs.Common.Runs.{strip-append, strip-sound}
use Rattle.keep_edit_spec.proofs.Common.SetDocument.{under_below}
use Rattle.keep_edit_spec.proofs.Common.SetLaw.{IsSolidAt}
use Rattle.keep_edit_spec.proofs.Common.Texts.{renaming-is}
use Rattle.keep_edit_spec.proofs.Lists.LineGone.{behind, right_of, with_line}
use Rattle.keep_edit_spec.proofs.Lists.RenameAfterRemove.{renamable_without}
use Rattle.keep_edit_spec.proofs.Lists.RenameAllowed.{mark_kinds, role_count, unrefused}
use Rattle.keep_edit_spec.proofs.Lists.RenameLineGone.{told}
use Rattle.keep_edit_spec.proofs.Lists.SaidOfPrefixes.{node_kinds, node_of}
use Rattle.keep_edit_spec.proofs.Lists.SectionAt.{IsSectionAt}
use Rattle.keep_edit_spec.proofs.Lists.SectionsApart as sections
use Rattle.keep_edit_spec.proofs.Lists.SectionsApart.{body_taken, is_head, more_none}
use Rattle.keep_edit_spec.proofs.Lists.SetPlaces.{Stays, either_stays}
use Rattle.keep_edit_spec.proofs.Lists.TakenGone as gone
use Rattle.keep_edit_spec.proofs.Lists.TakenKinds.{RenameAfterTaken}
use Rattle.keep_edit_spec.proofs.Lists.TakenSearch as search
use Rattle.keep_edit_spec.proofs.Lists.TakenSearch.{AreNear, FindsNone, NearOrNone, below_none, next_by}
use Rattle.keep_edit_spec.proofs.Remove.PartsGo.{HeaderParts, PartsGo, position_goes}
use Rattle.keep_edit_spec.proofs.Remove.RemoveSection.{body_is}
use Rattle.keep_edit_spec.proofs.Remove.Shift.{not_reached, unreached}
use Rattle.keep_edit_spec.proofs.Rename.RenameNumber.{mark_count-append}
use Rattle.keep_edit_spec.proofs.Rename.RenameOnce.{some_counted}
use Rattle.keep_edit_spec.proofs.Rename.RenameWhole.{IsRenamable, renamable}

-- ---- the paths on a header's way

abbrev LeadsFrom : List Part → List Part → Type 0
LeadsFrom p q = (r : List Part) × (q ≡ p ++ r)

leads_on : (p q t : List Part) → LeadsFrom p q → LeadsFrom q t → LeadsFrom p t
leads_on p q t (r, e) (w, g) = (r ++ w, g ∙ ap (λ (z : List Part). z ++ w) e ∙ append_assoc p r w)

entered_leads : (tables : List (List Part)) (p : List Part) → LeadsFrom p (entered_path tables p)
entered_leads tables p = by (0 == elements_of p tables)
  where
    by : (b : Bool) → LeadsFrom p (cond b p (p ++ index (elements_of p tables - 1) ∷ []))
    by true = ([], sym (append-nil p))
    by false = (index (elements_of p tables - 1) ∷ [], refl)

module _ (tables : List (List Part)) where
  -- a header's path goes on from each of its keys
  key_leads : (at : List Part) (k : List ℕ) (ks : List (List ℕ))
      → LeadsFrom (at ++ key k ∷ []) (header_path tables at (k ∷ ks))
  key_leads at k [] = ([], sym (append-nil (at ++ key k ∷ [])))
  key_leads at k (l ∷ ks) =
      let p : List Part = at ++ key k ∷ [] in
      let q : List Part = entered_path tables p in
      let t : List Part = header_path tables q (l ∷ ks) in
      leads_on p q t (entered_leads tables p) (leads_on q (q ++ key l ∷ []) t (key l ∷ [], refl) (key_leads q l ks))

  passing_leads : (p t : List Part) → LeadsFrom p t → LeadsFrom (entered_path tables p) t
      → AllOf (λ (m : Mention). LeadsFrom m.path t) (passing_mentions tables p)
  passing_leads p t h g = by (0 == elements_of p tables)
    where
      by : (b : Bool) → AllOf (λ (m : Mention). LeadsFrom m.path t) (cond b
          (record { path = p; kind = through } ∷ [])
          (record { path = p; kind = past } ∷ record { path = entered_path tables p; kind = passed } ∷ []))
      by true = (h, tt)
      by false = (h, (g, tt))

  way_leads : (at : List Part) (keys : List (List ℕ))
      → AllOf (λ (m : Mention). LeadsFrom m.path (header_path tables at keys)) (header_prefixes tables at keys)
  way_leads at [] = tt
  way_leads at (k ∷ []) = tt
  way_leads at (k ∷ l ∷ ks) =
      let p : List Part = at ++ key k ∷ [] in
      let q : List Part = entered_path tables p in
      let t : List Part = header_path tables q (l ∷ ks) in
      all_join (λ (m : Mention). LeadsFrom m.path t) (passing_mentions tables p) (header_prefixes tables q (l ∷ ks))
      (passing_leads p t (key_leads at k (l ∷ ks))
      (leads_on q (q ++ key l ∷ []) t (key l ∷ [], refl) (key_leads q l ks)))
      (way_leads q (l ∷ ks))

-- what a header says is of paths that its body's begins with
head_by : (r : Reading) (before after : Gap) (comment : Option Written) (c : Content) → is_header c ≡ true
    → (let l : Line = record { before = before; content = c; after = after; comment = comment } in
    AllOf (λ (m : Mention). LeadsFrom m.path (after_line r l).body) (line_mentions r l))
head_by r before after comment blank e = tt
head_by r before after comment (keyval name v) e = absurd cc
head_by r before after comment (header x k y) e =
    let t : List Part = header_path r.tables [] (keys_of k) in
    all_join (λ (m : Mention). LeadsFrom m.path t) (header_prefixes r.tables [] (keys_of k))
    (record { path = t; kind = define } ∷ []) (way_leads r.tables [] (keys_of k)) (([], sym (append-nil t)), tt)
head_by r before after comment (element x k y) e =
    let p : List Part = header_path r.tables [] (keys_of k) in
    let more : List Part = index (elements_of p r.tables) ∷ [] in
    let t : List Part = p ++ more in
    all_join (λ (m : Mention). LeadsFrom m.path t) (header_prefixes r.tables [] (keys_of k))
    (record { path = p; kind = marks_of.element } ∷ record { path = t; kind = begun } ∷ [])
    (all_map (λ (m : Mention). LeadsFrom m.path p) (λ (m : Mention). LeadsFrom m.path t)
    (λ m leads. leads_on m.path p t leads (more, refl)) (header_prefixes r.tables [] (keys_of k))
    (way_leads r.tables [] (keys_of k)))
    ((more, refl), (([], sym (append-nil t)), tt))

-- ---- the lines after what went

abbrev renamed_at : Written → Line → Option ℕ → Option (Changed Line)
renamed_at new l o = elim o [
  | None ↦ None
  | Some n ↦ within (λ k. record l { content = k }) (text_of l.before)
      (text_of l.after ++ text_of (comment_leaves l.comment)) (rename_content new n l.content)
]

place_none : (test : List Part → Bool) (ps : List (List Part)) → AllOf (λ (p : List Part). test p ≡ false) ps
    → position_or_len test ps ≡ length ps
place_none test [] h = refl
place_none test (p ∷ ps) h =
    ap₂ (λ (b : Bool) (n : ℕ). cond (not b) (1 + n) 0) h.0 (place_none test ps h.1) ∙ omega arith

position_none : (test : List Part → Bool) (ps : List (List Part)) → AllOf (λ (p : List Part). test p ≡ false) ps
    → position test ps ≡ None
position_none test ps h =
    ap (λ (b : Bool). cond {A = Option ℕ} b (Some (position_or_len test ps)) None)
    (le-ltb (position_or_len test ps) (length ps) (omega (arith, place_none test ps h)))

module _ (zone other : List Part) (apart : strip zone other ≡ None) where
  -- no key part of a keyval at the zone or below it leads elsewhere
  none_lead : (b : List Part) → Reaches zone b → (xs : List (List (List ℕ)))
      → AllOf (λ (p : List Part). same_path other p ≡ false) (map (λ prefix. b ++ map key prefix) xs)
  none_lead b w [] = tt
  none_lead b w (x ∷ xs) = (by (same_path other (b ++ map key x)) refl, none_lead b w xs)
    where
      by : (t : Bool) → same_path other (b ++ map key x) ≡ t → t ≡ false
      by false e = refl
      by true e =
          absurd (not_reached b other (below_none zone other b apart w)
          (map key x, ap (strip b) (same_path-sound other (b ++ map key x) e) ∙ strip-append b (map key x)))

  none_in : (b : List Part) → Reaches zone b → (xs : List (List (List ℕ)))
      → position (same_path other) (map (λ prefix. b ++ map key prefix) xs) ≡ None
  none_in b w xs = position_none (same_path other) (map (λ prefix. b ++ map key prefix) xs) (none_lead b w xs)

  module _ (D : List Part → Type 0) (g : List Part → List Part) (inj : IsInjectiveOn D g) (there : D other)
      (still : g other ≡ other) (near : (q : List Part) → D q → AreNear zone q (g q)) where
    same_number : (r u : Reading) (before after : Gap) (comment : Option Written) (c : Content) (ls : List Line)
        → (let l : Line = record { before = before; content = c; after = after; comment = comment } in
        HeaderParts D g r u l → NearOrNone zone r u (l ∷ ls)
        → position (same_path other) (part_paths r c) ≡ position (same_path other) (part_paths u c))
    same_number r u before after comment blank ls parts n = refl
    same_number r u before after comment (keyval name v) ls parts (inl (inl e)) =
        ap (λ (b : List Part).
        position (same_path other) (map (λ prefix. b ++ map key prefix) (key_prefixes (keys_of name.key)))) e
    same_number r u before after comment (keyval name v) ls parts (inl (inr (w, x))) =
        none_in r.body w (key_prefixes (keys_of name.key)) ∙ sym (none_in u.body x (key_prefixes (keys_of name.key)))
    same_number r u before after comment (keyval name v) ls parts (inr none) = absurd cc
    same_number r u before after comment (header x k y) ls parts n =
        let (all, is) = parts refl in
        sym (ap (position (same_path other)) is
        ∙ position_goes D g inj other there still (part_paths r (header x k y)) all)
    same_number r u before after comment (element x k y) ls parts n =
        let (all, is) = parts refl in
        sym (ap (position (same_path other)) is
        ∙ position_goes D g inj other there still (part_paths r (element x k y)) all)

    found_same : (new : Written) (r u : Reading) (l : Line) (ls : List Line) → HeaderParts D g r u l
        → NearOrNone zone r u (l ∷ ls) → rename_line new other r l ≡ rename_line new other u l
    found_same new r u l ls parts n =
        ap (renamed_at new l) (same_number r u l.before l.after l.comment l.content ls parts n)

    same_renames : (new : Written) (r u : Reading) (es : List Ended) (last : Line)
        → Goes D g r u (map line_of es ++ last ∷ []) → PartsGo D g r u (map line_of es ++ last ∷ [])
        → NearOrNone zone r u (map line_of es ++ last ∷ [])
        → in_lines (rename_line new other) r es last ≡ in_lines (rename_line new other) u es last
    same_renames new r u [] last goes parts n =
        ap (within (λ l. record { ended = []; last = l }) [] []) (found_same new r u last [] parts.0 n)
    same_renames new r u (e ∷ es) last goes parts n =
        let ls : List Line = map line_of es ++ last ∷ [] in
        ap₂ (λ (o : Option (Changed Line)) (p : Option (Changed Page)).
        or_else (within (with_line last e es) [] (right_of last e es) o)
        (within (behind e) (text_of (ended_leaves e)) [] p))
        (found_same new r u e.line ls parts.0 n)
        (same_renames new (after_line r e.line) (after_line u e.line) es last goes.1 parts.1
        (next_by zone D g near r u e.line.before e.line.after e.line.comment e.line.content ls goes.0 n))

-- ---- what lines say

-- a line that is no header speaks of what is at or under the body's path
line_under : (r : Reading) (l : Line) → is_header l.content ≡ false → AllOf (IsUnder r.body) (line_mentions r l)
line_under r l e = by l.content e
  where
    by : (k : Content) → is_header k ≡ false
        → AllOf (IsUnder r.body)
        (line_mentions r (record { before = l.before; content = k; after = l.after; comment = l.comment }))
    by blank e = tt
    by (keyval name v) e = under_below r.body (keyval_mentions name v)
    by (header x k y) e = absurd cc
    by (element x k y) e = absurd cc

pub none_counted : (q : List Part) (ms : List Mention) → (SomeOf (IsSolidAt q) ms → ⊥) → mark_count q ms ≡ 0
none_counted q ms none = by (mark_count q ms) refl
  where
    by : (m : ℕ) → mark_count q ms ≡ m → m ≡ 0
    by zero e = refl
    by (suc m) e = absurd (none (some_counted q ms (omega (arith, e))))

-- ---- after the remove

module _ (profile : Profile) (limit : ℕ) (s : Document) (path : List Part) (c : TextChange) (other : List Part)
    (text : List ℕ) (d : TextChange) (fine : IsEditable profile limit s) (h : RemovesHeader profile limit s path c)
    (k : RenamesKey profile limit s other text d) (apart : AreApart (changed_path path) other)
    (differ : AreApart (changed_path path) (beside other text)) where
  abbrev now : Document
  now = gone.now profile limit s path c fine h

  abbrev at : IsSectionAt s path
  at = gone.at profile limit s path c fine h

  abbrev x : Reading
  x = search.x profile limit s path c fine h

  abbrev u : Reading
  u = search.u profile limit s path c fine h

  abbrev taken : List Line
  taken = search.taken_lines profile limit s path c fine h

  -- ---- what the lines that go say

  own_in : Reaches (changed_path path) u.body
  own_in = search.own_in profile limit s path c fine h

  -- the body's path does not begin with the other
  not_begun : strip other u.body ≡ None
  not_begun = unreached other u.body (λ v. by (prefix_cases other zone own_in.0 v.0
      (ap (strip other) (sym (strip-sound zone u.body own_in.0 own_in.1)) ∙ v.1)))
    where
      zone : List Part
      zone = changed_path path

      by : Cases other zone own_in.0 → ⊥
      by (within_first v) = not_reached other zone apart.1 v
      by (beyond b bs e v) =
          not_reached zone other apart.0 (b ∷ bs, ap (strip zone) e ∙ strip-append zone (b ∷ bs))

  silent_under : (ms : List Mention) → AllOf (IsUnder u.body) ms → SomeOf (IsSolidAt other) ms → ⊥
  silent_under ms under some =
      let (m, there, v) = meet (IsSolidAt other) (IsUnder u.body) ms some under in
      not_reached u.body other (below_none (changed_path path) other u.body apart.0 own_in)
      (v.0, ap (strip u.body) (sym there.path) ∙ v.1)

  silent_leading : (ms : List Mention) → AllOf (λ (m : Mention). LeadsFrom m.path u.body) ms
      → SomeOf (IsSolidAt other) ms → ⊥
  silent_leading ms leads some =
      let (m, there, (r, e)) = meet (IsSolidAt other) (λ (m : Mention). LeadsFrom m.path u.body) ms some leads in
      not_reached other u.body not_begun
      (r, ap (strip other) (e ∙ ap (λ (q : List Part). q ++ r) there.path) ∙ strip-append other r)

  head_leads : AllOf (λ (m : Mention). LeadsFrom m.path u.body) (line_mentions x at.head.line)
  head_leads =
      head_by x at.head.line.before at.head.line.after at.head.line.comment at.head.line.content (is_head s path at)

  body_under : AllOf (IsUnder u.body) (lines_mentions u (map line_of at.body))
  body_under =
      subst (λ (ls : List Line). AllOf (IsUnder u.body) (lines_mentions u ls)) (body_taken s path at)
      (body_is u (sections.after s path at)).under

  misses_by : (r : Reading) (l : Line) → (SomeOf (IsSolidAt other) (line_mentions r l) → ⊥)
      → rename_line (key_part text) other r l ≡ None
  misses_by r l silent = by (rename_line (key_part text) other r l) refl
    where
      by : (o : Option (Changed Line)) → rename_line (key_part text) other r l ≡ o → o ≡ None
      by None e = refl
      by (Some y) e = absurd (silent (told (key_part text) other (first_line s) r l y e))

  misses : FindsNone (rename_line (key_part text) other) x taken
  misses =
      search.section_misses profile limit s path c fine h (rename_line (key_part text) other)
      (misses_by x at.head.line (silent_leading (line_mentions x at.head.line) head_leads))
      (λ l e. misses_by u l (silent_under (line_mentions u l) (line_under u l e)))

  -- ---- without what they say

  abbrev earlier : List Mention
  earlier = lines_mentions start (gone.before profile limit s path c fine h)

  abbrev here : List Mention
  here = lines_mentions x taken

  abbrev later : List Mention
  later = lines_mentions u (gone.after profile limit s path c fine h)

  unmarked : mark_count other here ≡ 0
  unmarked =
      let head : List Mention = line_mentions x at.head.line in
      let body : List Mention = lines_mentions u (map line_of at.body) in
      omega (
        arith,
        mark_count-append other head body,
        none_counted other head (silent_leading head head_leads),
        none_counted other body (silent_under body body_under),
      )

  was : mentions_in s ≡ earlier ++ (here ++ later)
  was =
      let pre : List Line = gone.before profile limit s path c fine h in
      let post : List Line = gone.after profile limit s path c fine h in
      ap (lines_mentions start) (gone.lines_were profile limit s path c fine h)
      ∙ lines_mentions-append start pre (taken ++ post)
      ∙ ap (λ (ms : List Mention). earlier ++ ms) (lines_mentions-append x taken post)
      ∙ ap (λ (r : Reading). earlier ++ (here ++ lines_mentions r post))
      (search.section_read profile limit s path c fine h)

  abbrev mid : List Mention
  mid = (gone.was profile limit s path c fine h).mid

  renamable_mid : IsRenamable other text mid
  renamable_mid =
      renamable_without other text (mentions_in s) mid earlier here later was
      (gone.was profile limit s path c fine h).mid_is unmarked (renamable profile limit s other text k.allowed)

  -- at both paths as much is said by those that are left
  node_now : (q : List Part) → strip (changed_path path) q ≡ None → is_node q (mentions_in now) ≡ is_node q mid
  node_now q clear =
      node_kinds q (mentions_in now) ∙ ap (node_of q) (gone.kinds_mid profile limit s path c fine h q clear)
      ∙ sym (node_kinds q mid)

  renamable_now : IsRenamable other text (mentions_in now)
  renamable_now =
      record {
        node = node_now other apart.0 ∙ renamable_mid.node;
        below_root = renamable_mid.below_root;
        by_key = renamable_mid.by_key;
        fresh = node_now (beside other text) differ.0 ∙ renamable_mid.fresh;
        marks = mark_kinds other (mentions_in now)
            ∙ ap role_count (gone.kinds_mid profile limit s path c fine h other apart.0)
            ∙ sym (mark_kinds other mid) ∙ renamable_mid.marks;
      }

  allowed_now : refusal profile limit now (rename other text) ≡ None
  allowed_now = unrefused profile limit other text (mentions_in now) renamable_now

  -- ---- the change

  abbrev in_keys : Document → Option (Changed Document)
  in_keys t = in_document t (in_lines (rename_line (key_part text) other) start t.ended t.last)

  same_behind : in_lines (rename_line (key_part text) other) u at.more s.last
      ≡ in_lines (rename_line (key_part text) other) x at.more s.last
  same_behind =
      let left = gone.was profile limit s path c fine h in
      let (there, still) = gone.stays_apart profile limit s path c fine h other apart.0 in
      same_renames (changed_path path) other apart.0 (gone.stays profile limit s path c fine h)
      (gone.goes profile limit s path c fine h) left.inj there still
      (search.goes_near profile limit s path c fine h) (key_part text) u x at.more s.last left.behind left.parts
      (inr (more_none s path at))

  stays : Stays (search.removed profile limit s path c fine h) (change s (rename other text))
      (change now (rename other text))
  stays =
      either_stays (search.removed profile limit s path c fine h) (in_keys s) (in_keys now)
      (nested (renaming (key_part text)) other s) (nested (renaming (key_part text)) other now)
      (search.document_without profile limit s path c fine h (rename_line (key_part text) other)
      (λ r l. rename_line-is (key_part text) other r l) misses
      (ap (λ (r : Reading). in_lines (rename_line (key_part text) other) r at.more s.last)
      (search.section_read profile limit s path c fine h) ∙ same_behind))
      (search.nested_without profile limit s path c fine h (renaming (key_part text)) (renaming-is (key_part text))
      other apart.0)

  renames_now : RenamesKey profile limit now other text (moved c d)
  renames_now =
      let law : IsLawfulEdit profile limit s (rename other text) =
      rename_lawful profile limit s other text fine k.utf8 k.allowed in
      record {
        utf8 = k.utf8;
        allowed = allowed_now;
        some = k.some;
        is =
            search.place_without profile limit s path c fine h d (rename other text) law.changed law.is k.is k.some
            stays;
      }

pub rename_after_taken : RenameAfterTaken
rename_after_taken profile limit s path c other text d fine h k apart differ side =
    subst (λ (t : Document). RenamesKey profile limit t other text (moved c d))
    (sym (gone.is_now profile limit s path c fine h))
    (renames_now profile limit s path c other text d fine h k apart differ)
