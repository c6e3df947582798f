-- Without a keyval's line, the tables of dotted keys that its keys pass stay such tables, and are named before the
-- line, where a keyval says something of a path one step below the last of them, and that path is named before it.
--
-- The path is not that of the first key that is not passed, which is named by the line alone (`differs`). So it is said
-- by another line (`kept_now`), and then keyvals say something of each path above it, down from the body of a line
-- (`kept_up`). The passed paths are no such bodies, since the line continues from them by dots. So dots are said of
-- each without the line, too (`stays`). What is said before the line is said of each path above it as well
-- (`named_above`).
--
-- Theorems: `body_is`, `passed_is`, `new_key_is`: which line it is; `tables_named`, `tables_dotted`.
use Rattle.std.proofs.Common.{◌≡◌, ℕ, Bool, true, false, ◌||◌, List, [], ◌∷◌, ◌++◌, length, map, refl, sym, ap, subst}
use Rattle.std.proofs.Common.{◌∙◌, append-nil, append_assoc, length-append, arith, None, Some, ◌⊎◌, inl, inr}
use Rattle.std.specs.List.{list_any}
use Rattle.std.proofs.lemmas.List.{append_cancel_left, length-map, map-append}
use Rattle.keep_syntax.specs.Tree.{Value, Line, Document}
use Rattle.keep_path.specs.KeysAlone.{paths_below}
use Rattle.keep_path.specs.Path.{Part, key, same_part, same_path, strip}
use Rattle.keep_meaning.specs.Counts.{is_value}
use Rattle.keep_meaning.specs.DotsMore.{HasDotsMore, new_path, passed_paths}
use Rattle.keep_meaning.specs.Marks as marks
use Rattle.keep_meaning.specs.Marks.{Mention, MentionKind, Reading, Statement, below, dotted, item, mentions}
use Rattle.keep_meaning.specs.Marks.{reading_after, start, value as kinds_value}
use Rattle.keep_meaning.specs.Meaning.{body_fact, entries_mentions, keyed_mentions, keyval_mentions, lines_mentions}
use Rattle.keep_meaning.specs.Meaning.{mentions_in, reading_after_lines, valued_mentions}
use Rattle.keep_meaning.specs.Nodes.{is_at, is_dotted, is_node, mark_count}
use Rattle.keep_meaning.specs.Rules.{ObeysRules}
use Rattle.keep_meaning.proofs.KeyChainLemmas.{below_below}
use Rattle.keep_meaning.proofs.Shared.{lines_mentions-statements}
use Rattle.keep_edit_spec.specs.Edits.{edited_document, remove}
use Rattle.keep_edit_spec.specs.KeyvalLines.{HasDotsAt, IsDotsLineOf, first_path}
use Rattle.keep_edit_spec.specs.Look.{keys_in}
use Rattle.keep_edit_spec.proofs.Common.Doubles.{IsMentioned}
use Rattle.keep_edit_spec.proofs.Common.LineLaws.{EndsInKey, lines_closed, never_root}
use Rattle.keep_edit_spec.proofs.Common.LineStatements.{reading_statements}
use Rattle.keep_edit_spec.proofs.Common.Marks.{rules_of_document}
use Rattle.keep_edit_spec.proofs.Common.Runs.{AllOf, IsDisjoint, Rules, SomeOf, all_join, all_map, meet, some_left}
use Rattle.keep_edit_spec.proofs.Common.Runs.{same_part-sound, same_path-refl, some_right, strip-append}
use Rattle.keep_edit_spec.proofs.Common.SetLaw.{IsSolidAt, disjoint_below}
use Rattle.keep_edit_spec.proofs.Common.Stops.{stops, stops_disjoint}
use Rattle.keep_edit_spec.proofs.Common.ValueThere.{some_cases}
use Rattle.keep_edit_spec.proofs.Insert.DotsPassed.{IsNamed}
use Rattle.keep_edit_spec.proofs.Insert.NewPath.{keys_of_map}
use Rattle.keep_edit_spec.proofs.Insert.OneBase.{IsBody, body_no_dots, no_value}
use Rattle.keep_edit_spec.proofs.Remove.KeyvalPaths.{IsKept, dots_kept, in_keyval, kept_of, kept_up}
use Rattle.keep_edit_spec.proofs.Remove.RemoveTakesDots as taken_line
use Rattle.keep_edit_spec.proofs.Rename.MovedLines.{split_even}

-- ---- what is said at a path

disjoint_never : (p : List Part) (is : MentionKind → Bool) (ms : List Mention) → AllOf (IsDisjoint p) ms
    → SomeOf (IsMentioned is p) ms → ⊥
disjoint_never p is [] h s = s
disjoint_never p is (m ∷ ms) h (inr s) = disjoint_never p is ms h.1 s
disjoint_never p is (m ∷ ms) h (inl s) =
    let clash : None ≡ Some [] = sym h.0 ∙ ap (strip p) (s.0 ∙ sym (append-nil p)) ∙ strip-append p [] in absurd cc

-- what keyvals say is said by dots, or of a value
kept_cases : (p : List Part) (ms : List Mention) → IsKept p ms
    → SomeOf (IsMentioned is_dotted p) ms ⊎ SomeOf (IsMentioned is_value p) ms
kept_cases p [] s = absurd s
kept_cases p (m ∷ ms) (inr s) = elim (kept_cases p ms s) [ inl h ↦ inl (inr h) | inr h ↦ inr (inr h) ]
kept_cases p (m ∷ ms) (inl s) = by m.kind s.0 s.1
  where
    by : (k : MentionKind) → m.path ≡ p → in_keyval k ≡ true
        → SomeOf (IsMentioned is_dotted p) (record { path = m.path; kind = k } ∷ ms)
        ⊎ SomeOf (IsMentioned is_value p) (record { path = m.path; kind = k } ∷ ms)
    by dotted at is = inl (inl (at, refl))
    by (kinds_value f) at is = inr (inl (at, refl))
    by (item f) at is = inr (inl (at, refl))
    by other at is = absurd cc

solid_named : (p : List Part) (ms : List Mention) → SomeOf (IsSolidAt p) ms → list_any (is_at p) ms ≡ true
solid_named p [] s = absurd s
solid_named p (m ∷ ms) (inl s) =
    ap (λ (b : Bool). b || list_any (is_at p) ms)
    (subst (λ (q : List Part). same_path m.path q ≡ true) s.path (same_path-refl m.path))
solid_named p (m ∷ ms) (inr s) = by (is_at p m) (solid_named p ms s)
  where
    by : (b : Bool) → list_any (is_at p) ms ≡ true → (b || list_any (is_at p) ms) ≡ true
    by true more = refl
    by false more = more

node_named : (p : List Part) (ms : List Mention) → list_any (is_at p) ms ≡ true → is_node p ms ≡ true
node_named [] ms h = refl
node_named (q ∷ p) ms h = h

same_first : (x y : Part) (xs ys : List Part) → x ∷ xs ≡ y ∷ ys → x ≡ y
same_first x y xs ys e = cc

-- ---- a key with another first part

other_part : (x : Part) (k : List ℕ) (ms : List Mention) → same_part x (key k) ≡ false
    → AllOf (IsDisjoint (x ∷ [])) (map (below (key k ∷ [])) ms)
other_part x k [] e = tt
other_part x k (m ∷ ms) e = (rw (strip, e) refl, other_part x k ms e)

other_key : (x : Part) (k : List ℕ) (ks : List (List ℕ)) (ms : List Mention) → same_part x (key k) ≡ false
    → AllOf (IsDisjoint (x ∷ [])) (keyed_mentions (k ∷ ks) ms)
other_key x k [] ms e = other_part x k ms e
other_key x k (l ∷ ks) ms e = other_part x k (record { path = []; kind = dotted } ∷ keyed_mentions (l ∷ ks) ms) e

-- dots are said of each path on a key's way
stops_dotted : (at : List Part) (ks : List (List ℕ))
    → AllOf (λ (p : List Part). SomeOf (IsMentioned is_dotted p) (map (below at) (stops ks))) (paths_below at ks)
stops_dotted at [] = tt
stops_dotted at (k ∷ ks) =
    let next : List Part = at ++ key k ∷ [] in
    let more : List Mention = map (below at) (map (below (key k ∷ [])) (stops ks)) in (
      inl (refl, refl),
      all_map (λ (p : List Part). SomeOf (IsMentioned is_dotted p) (map (below next) (stops ks)))
          (λ (p : List Part). SomeOf (IsMentioned is_dotted p) (map (below at) (stops (k ∷ ks))))
          (λ p h. inr (subst (λ (ms : List Mention). SomeOf (IsMentioned is_dotted p) ms)
          (sym (below_below at (key k ∷ []) (stops ks))) h))
          (paths_below next ks) (stops_dotted next ks),
    )

-- ---- the line

module _ (s : Document) (path : List Part) (before : List Line) (value : Value)
    (obeys : ObeysRules (marks.marks (mentions_in s))) (h : IsDotsLineOf s path before value)
    (once : mark_count (first_path before h.passed h.first) (mentions_in s) ≡ 1) where
  abbrev r : Reading
  r = reading_after_lines start before

  abbrev now : Document
  now = edited_document s (remove path)

  abbrev table : List Part
  table = r.body ++ map key h.passed

  abbrev left : List Mention
  left = lines_mentions start before

  abbrev own : List Mention
  own = map (below r.body) (keyval_mentions h.name value)

  abbrev right : List Mention
  right = lines_mentions r h.after

  said_now : mentions_in now ≡ left ++ right
  said_now = taken_line.said_now s path before value obeys h once

  said_were : mentions_in s ≡ left ++ (own ++ right)
  said_were = taken_line.said_were s path before value obeys h once

  its_rules : Rules (mentions_in s)
  its_rules = rules_of_document s obeys

  abbrev Dotted : Document → List Part → Type 0
  Dotted u p = SomeOf (IsMentioned is_dotted p) (mentions_in u)

  -- what is said without the line is said with it
  still : (P : Mention → Type 0) → SomeOf P (mentions_in now) → SomeOf P (mentions_in s)
  still P t = subst (SomeOf P) (sym said_were) (elim (some_cases P left right (subst (SomeOf P) said_now t)) [
    | inl a ↦ some_left P left (own ++ right) a
    | inr b ↦ some_right P left (own ++ right) (some_right P own right b)
  ])

  own_dotted : AllOf (Dotted s) (paths_below r.body h.passed)
  own_dotted =
      let run : List Mention =
      keyed_mentions (h.first ∷ h.further)
      (valued_mentions (kinds_value (body_fact value.body)) (entries_mentions 0 value.nested)) in
      let deep : List Mention = map (below (map key h.passed)) run in
      let own_is : own ≡ map (below r.body) (stops h.passed) ++ map (below r.body) deep =
      taken_line.own_is s path before value obeys h once ∙ map-append (below r.body) (stops h.passed) deep in
      all_map (λ (p : List Part). SomeOf (IsMentioned is_dotted p) (map (below r.body) (stops h.passed))) (Dotted s)
      (λ p t. subst (SomeOf (IsMentioned is_dotted p)) (sym said_were)
      (some_right (IsMentioned is_dotted p) left (own ++ right)
      (some_left (IsMentioned is_dotted p) own right
      (subst (SomeOf (IsMentioned is_dotted p)) (sym own_is)
      (some_left (IsMentioned is_dotted p) (map (below r.body) (stops h.passed)) (map (below r.body) deep) t)))))
      (paths_below r.body h.passed) (stops_dotted r.body h.passed)

  -- a path of which the line says dots, and below which a keyval says something without it
  stays : (p : List Part) (y : Part) → IsKept (p ++ y ∷ []) (mentions_in now) → Dotted s p → Dotted now p
  stays p y kept dots = elim (kept_up now p y kept) [
    | inl b ↦ absurd (body_no_dots s p its_rules (body_still b) dots)
    | inr k ↦ (elim (kept_cases p (mentions_in now) k) [
      | inl t ↦ t
      | inr v ↦ absurd (no_value p s its_rules dots (still (IsMentioned is_value p) v))
    ])
  ]
    where
      body_still : IsBody p (mentions_in now) → IsBody p (mentions_in s)
      body_still (inl e) = inl e
      body_still (inr (inl d)) = inr (inl (still _ d))
      body_still (inr (inr g)) = inr (inr (still _ g))

  all_stay : (at : List Part) (ks : List (List ℕ)) (x : Part) → IsKept ((at ++ map key ks) ++ x ∷ []) (mentions_in now)
      → AllOf (Dotted s) (paths_below at ks) → AllOf (Dotted now) (paths_below at ks)
  all_stay at [] x kept dots = tt
  all_stay at (k ∷ ks) x kept dots =
      let next : List Part = at ++ key k ∷ [] in
      let there : IsKept ((next ++ map key ks) ++ x ∷ []) (mentions_in now) =
      subst (λ (p : List Part). IsKept (p ++ x ∷ []) (mentions_in now))
      (sym (append_assoc at (key k ∷ []) (map key ks))) kept in
      let more : AllOf (Dotted now) (paths_below next ks) = all_stay next ks x there dots.1 in
      let (y, below_it) = one_below next ks x there more in
      (stays next y below_it dots.0, more)
    where
      one_below : (q : List Part) (ks : List (List ℕ)) (x : Part)
          → IsKept ((q ++ map key ks) ++ x ∷ []) (mentions_in now) → AllOf (Dotted now) (paths_below q ks)
          → (y : Part) × IsKept (q ++ y ∷ []) (mentions_in now)
      one_below q [] x there more =
          (x, subst (λ (p : List Part). IsKept (p ++ x ∷ []) (mentions_in now)) (append-nil q) there)
      one_below q (l ∷ ls) x there more =
          (key l, kept_of is_dotted dots_kept (q ++ key l ∷ []) (mentions_in now) more.0)

  -- ---- the line that the law tells

  module _ (taken : HasDotsAt now s path value (length h.passed) before) where
    abbrev line : HasDotsMore now s
    line = taken.line

    pub body_is : (reading_after start line.before).body ≡ r.body
    body_is =
        ap (λ (ss : List Statement). (reading_after start ss).body) taken.after
        ∙ ap (λ (q : Reading). q.body) (reading_statements start before)

    keys_whole : (r.body ++ map key line.passed) ++ map key (line.first ∷ line.further)
        ≡ table ++ map key (h.first ∷ h.further)
    keys_whole =
        ap (λ (b : List Part). (b ++ map key line.passed) ++ map key (line.first ∷ line.further)) (sym body_is)
        ∙ sym (append_assoc ((reading_after start line.before).body ++ map key line.passed) (key line.first ∷ [])
        (map key line.further))
        ∙ taken.place ∙ sym h.place ∙ ap (λ (ks : List (List ℕ)). r.body ++ map key ks) h.parts
        ∙ ap (λ (p : List Part). r.body ++ p) (map-append key h.passed (h.first ∷ h.further))
        ∙ sym (append_assoc r.body (map key h.passed) (map key (h.first ∷ h.further)))

    same : (r.body ++ map key line.passed ≡ table)
        × (map key (line.first ∷ line.further) ≡ map key (h.first ∷ h.further))
    same =
        split_even (r.body ++ map key line.passed) table (map key (line.first ∷ line.further))
        (map key (h.first ∷ h.further))
        (omega (
          arith,
          taken.count,
          length-append r.body (map key line.passed),
          length-append r.body (map key h.passed),
          length-map line.passed key,
          length-map h.passed key,
        ))
        keys_whole

    pub passed_is : line.passed ≡ h.passed
    passed_is =
        sym (keys_of_map line.passed)
        ∙ ap keys_in (append_cancel_left r.body (map key line.passed) (map key h.passed) same.0)
        ∙ keys_of_map h.passed

    pub new_key_is : new_path line.before line.passed line.first ≡ table ++ key h.first ∷ []
    new_key_is =
        let one : key line.first ≡ key h.first =
        same_first (key line.first) (key h.first) (map key line.further) (map key h.further) same.1 in
        ap (λ (b : List Part). (b ++ map key line.passed) ++ key line.first ∷ []) body_is
        ∙ ap (λ (p : List Part). p ++ key line.first ∷ []) same.0
        ∙ ap (λ (y : Part). table ++ y ∷ []) one

    its_paths : passed_paths line.before line.passed ≡ paths_below r.body h.passed
    its_paths =
        ap (λ (b : List Part). paths_below b line.passed) body_is
        ∙ ap (λ (ks : List (List ℕ)). paths_below r.body ks) passed_is

  -- ---- a path below the last table

  module _ (x : Part) (named : SomeOf (λ (m : Mention). m.path ≡ table ++ x ∷ []) left)
      (kept : IsKept (table ++ x ∷ []) (mentions_in s)) where
    differs : same_part x (key h.first) ≡ false
    differs = by (same_part x (key h.first)) refl
      where
        by : (b : Bool) → same_part x (key h.first) ≡ b → b ≡ false
        by false e = refl
        by true e =
            let (m, at, beside) =
            meet (λ (m : Mention). m.path ≡ table ++ x ∷ []) (IsDisjoint (table ++ key h.first ∷ [])) left named
            (taken_line.beside_left s path before value obeys h once) in
            let here : m.path ≡ table ++ key h.first ∷ [] =
            at ∙ ap (λ (y : Part). table ++ y ∷ []) (same_part-sound x (key h.first) e) in
            absurd (disjoint_never (table ++ key h.first ∷ []) (λ k. true) (m ∷ []) (beside, tt) (inl (here, refl)))

    own_beside : AllOf (IsDisjoint (table ++ x ∷ [])) own
    own_beside =
        let run : List Mention =
        keyed_mentions (h.first ∷ h.further)
        (valued_mentions (kinds_value (body_fact value.body)) (entries_mentions 0 value.nested)) in
        let deep : List Mention = map (below (map key h.passed)) run in
        let q : List Part = map key h.passed ++ x ∷ [] in
        subst (λ (ms : List Mention). AllOf (IsDisjoint (table ++ x ∷ [])) ms)
        (sym (taken_line.own_is s path before value obeys h once))
        (subst (λ (p : List Part). AllOf (IsDisjoint p) (map (below r.body) (stops h.passed ++ deep)))
        (sym (append_assoc r.body (map key h.passed) (x ∷ [])))
        (disjoint_below r.body q (stops h.passed ++ deep)
        (all_join (IsDisjoint q) (stops h.passed) deep (stops_disjoint h.passed x)
        (disjoint_below (map key h.passed) (x ∷ []) run (other_key x h.first h.further _ differs)))))

    kept_now : IsKept (table ++ x ∷ []) (mentions_in now)
    kept_now =
        let P : Mention → Type 0 = IsMentioned in_keyval (table ++ x ∷ []) in
        subst (SomeOf P) (sym said_now) (elim (some_cases P left (own ++ right) (subst (SomeOf P) said_were kept)) [
          | inl a ↦ some_left P left right a
          | inr b ↦ (elim (some_cases P own right b) [
            | inl c ↦ absurd (disjoint_never (table ++ x ∷ []) in_keyval own own_beside c)
            | inr d ↦ some_right P left right d
          ])
        ])

    -- each path above is named before the line
    named_above : (p : List Part) → EndsInKey p → (rest : List Part) → table ++ x ∷ [] ≡ p ++ rest
        → IsNamed left p
    named_above p ends rest whole =
        let (m, at, closed) = meet (λ (m : Mention). m.path ≡ table ++ x ∷ []) _ left named
        (lines_closed p start before ends) in
        elim (closed (rest, ap (strip p) (at ∙ whole) ∙ strip-append p rest)) [
          | inl there ↦ node_named p left (solid_named p left there)
          | inr root ↦ absurd (never_root p ends root)
        ]

    all_named : (at : List Part) (ks : List (List ℕ)) → table ++ x ∷ [] ≡ (at ++ map key ks) ++ x ∷ []
        → AllOf (IsNamed left) (paths_below at ks)
    all_named at [] whole = tt
    all_named at (k ∷ ks) whole =
        let next : List Part = at ++ key k ∷ [] in
        let more : table ++ x ∷ [] ≡ (next ++ map key ks) ++ x ∷ [] =
        whole ∙ ap (λ (p : List Part). p ++ x ∷ []) (sym (append_assoc at (key k ∷ []) (map key ks))) in (
          named_above next (at, k, refl) (map key ks ++ x ∷ []) (more ∙ append_assoc next (map key ks) (x ∷ [])),
          all_named next ks more,
        )

    -- ---- the tables that the line passes

    module _ (taken : HasDotsAt now s path value (length h.passed) before) where
      pub tables_named : AllOf (IsNamed (mentions taken.line.before))
          (passed_paths taken.line.before taken.line.passed)
      tables_named =
          subst (λ (ms : List Mention). AllOf (IsNamed ms) (passed_paths taken.line.before taken.line.passed))
          (lines_mentions-statements start before ∙ ap mentions (sym taken.after))
          (subst (λ (ps : List (List Part)). AllOf (IsNamed left) ps) (sym (its_paths taken))
          (all_named r.body h.passed refl))

      pub tables_dotted : AllOf (Dotted now) (passed_paths taken.line.before taken.line.passed)
      tables_dotted =
          subst (AllOf (Dotted now)) (sym (its_paths taken)) (all_stay r.body h.passed x kept_now own_dotted)
