-- A table that no line begins, passes by dots, or goes through is in a keyval's value.
--
-- The table's path is mentioned by some line. By cases of that line and of where in it the mention is made: a header's
-- last key would begin the path's body, a key on its way would go through it, and a keyval's own key would continue
-- from it; each of these is excluded. What is left is a keyval whose path the table's path begins with.
--
-- Theorem: `holder_keyval`.
use Rattle.std.proofs.Common.{◌≡◌, ℕ, ◌-◌, ◌<◌, Bool, true, false, List, [], ◌∷◌, ◌++◌, map, refl, sym, ap, subst, ◌∙◌}
use Rattle.std.proofs.Common.{append_assoc, arith, Option, Some, None, inl, inr}
use Rattle.std.specs.List.{list_any}
use Rattle.keep_syntax.specs.Tree.{Written, Gap, Name, Value, Content, blank, keyval, header, element, Line, Document}
use Rattle.keep_path.specs.Path.{Part, key, index, same_path}
use Rattle.keep_meaning.specs.Marks.{MentionKind, define, value, begun, Mention, Reading, start, below, header_path}
use Rattle.keep_meaning.specs.Marks.{header_prefixes, elements_of}
use Rattle.keep_meaning.specs.Marks as marks_of
use Rattle.keep_meaning.specs.Meaning.{keys_of, keyed_mentions, valued_mentions, entries_mentions, keyval_mentions}
use Rattle.keep_meaning.specs.Meaning.{body_fact, line_mentions, lines_mentions, after_line, reading_after_lines, lines}
use Rattle.keep_meaning.specs.Meaning.{mentions_in}
use Rattle.keep_meaning.specs.Nodes.{is_at, has, is_through, is_element, is_dotted}
use Rattle.keep_edit_spec.specs.Lines.{last_line, begins, leads_dotted, leads_through}
use Rattle.keep_edit_spec.specs.Refusals.{tables_in}
use Rattle.keep_edit_spec.proofs.Common.Runs.{SomeOf, some_left, some_right, same_path-refl}
use Rattle.keep_edit_spec.proofs.Common.SetLaw.{keyed_split}
use Rattle.keep_edit_spec.proofs.Common.LineLaws.{lines_mentions-append}
use Rattle.keep_edit_spec.proofs.Append.AppendTable.{tables_stated}
use Rattle.keep_edit_spec.proofs.Common.Doubles.{IsMentioned, some_has}
use Rattle.keep_edit_spec.proofs.Common.Stops.{some_mentioned_below}
use Rattle.keep_edit_spec.proofs.Common.ValueThere.{IsSome, some_cases}
use Rattle.keep_edit_spec.proofs.Insert.Gives.{IsNamedAt}
use Rattle.keep_edit_spec.proofs.Insert.GivesLines.{keyval_path}
use Rattle.keep_edit_spec.proofs.Insert.LinesNamed.{named_of, named_unbelow, line_of_some, some_among, some_prefix}
use Rattle.keep_edit_spec.proofs.Insert.LinesNamed.{tables_begin, counted, WayCase, goes, beyond_element, at_element}
use Rattle.keep_edit_spec.proofs.Insert.LinesNamed.{way_case}

-- the path lies at or under that of a keyval
pub record IsInKeyval (s : Document) (h : List Part) : Type 0 where
  pub pre : List Line
  pub line : Line
  pub post : List Line
  pub was : lines s ≡ pre ++ line ∷ post
  pub name : Name
  pub value : Value
  pub content : line.content ≡ keyval name value
  pub rest : List Part
  pub whole : h ≡ keyval_path pre name ++ rest

-- what would be if not
data Elsewhere (s : Document) (h : List Part) : Type 0 where
  begun_by : IsSome (last_line (begins h) start (lines s)) → Elsewhere s h
  dotted_by : IsSome (last_line (leads_dotted h) start (lines s)) → Elsewhere s h
  through_by : IsSome (last_line (leads_through h) start (lines s)) → Elsewhere s h
  an_element : SomeOf (IsMentioned is_element h) (mentions_in s) → Elsewhere s h
  in_keyval : IsInKeyval s h → Elsewhere s h

pub all_dotted : (x : List Part) (ks : List (List ℕ)) → SomeOf (IsNamedAt x) (keyed_mentions ks [])
    → SomeOf (IsMentioned is_dotted x) (keyed_mentions ks [])
all_dotted x [] s = absurd s
all_dotted x (k ∷ []) s = absurd s
all_dotted x (k ∷ l ∷ ks) (inl e) = inl (e, refl)
all_dotted x (k ∷ l ∷ ks) (inr s) =
    let (y, (e, g)) = named_unbelow (key k ∷ []) x (keyed_mentions (l ∷ ks) []) s in
    inr (subst (λ (p : List Part).
    SomeOf (IsMentioned is_dotted p) (map (below (key k ∷ [])) (keyed_mentions (l ∷ ks) []))) (sym e)
    (some_mentioned_below is_dotted (key k ∷ []) y (keyed_mentions (l ∷ ks) []) (all_dotted y (l ∷ ks) g)))

module _ (s : Document) (h : List Part) (pre : List Line) (before after : Gap) (comment : Option Written) (c : Content)
    (post : List Line) where
  abbrev here : Line
  here = record { before = before; content = c; after = after; comment = comment }

  abbrev r : Reading
  r = reading_after_lines start pre

  module _ (was : lines s ≡ pre ++ here ∷ post) where
    among : (test : Reading → Line → Bool) → test r here ≡ true → IsSome (last_line test start (lines s))
    among test e =
        subst (λ (ls : List Line). IsSome (last_line test start ls)) (sym was) (some_among test start pre here post e)

    mentioned_here : (is : MentionKind → Bool) → SomeOf (IsMentioned is h) (line_mentions r here)
        → SomeOf (IsMentioned is h) (mentions_in s)
    mentioned_here is k = subst (λ (ls : List Line). SomeOf (IsMentioned is h) (lines_mentions start ls)) (sym was)
        (subst (SomeOf (IsMentioned is h)) (sym (lines_mentions-append start pre (here ∷ post)))
        (some_right (IsMentioned is h) (lines_mentions start pre) _
        (some_left (IsMentioned is h) (line_mentions r here) (lines_mentions (after_line r here) post) k)))

    from_way : (head : (SomeOf (IsMentioned is_through h) (line_mentions r here)) → leads_through h r here ≡ true)
        (prefixes : List Mention)
        → (SomeOf (IsMentioned is_through h) prefixes → SomeOf (IsMentioned is_through h) (line_mentions r here))
        → WayCase r.tables h prefixes → Elsewhere s h
    from_way head prefixes carry (goes k) = through_by (among (leads_through h) (head (carry k)))
    from_way head prefixes carry (beyond_element k) =
        let stated : r.tables ≡ tables_in (lines_mentions start pre) = tables_stated start pre in
        an_element (subst (λ (ls : List Line). SomeOf (IsMentioned is_element h) (lines_mentions start ls)) (sym was)
        (subst (SomeOf (IsMentioned is_element h)) (sym (lines_mentions-append start pre (here ∷ post)))
        (some_left (IsMentioned is_element h) (lines_mentions start pre) _
        (counted h (lines_mentions start pre) (subst (λ (t : List (List Part)). 0 < elements_of h t) stated k)))))
    from_way head prefixes carry (at_element q e k) =
        let n : ℕ = elements_of q r.tables in
        let begin : IsSome (last_line (begins (q ++ index (n - 1) ∷ [])) start pre) =
        tables_begin q (n - 1) start pre (omega arith) (omega (arith, k)) in
        begun_by (subst (λ (x : List Part). IsSome (last_line (begins x) start (lines s))) (sym e)
        (subst (λ (ls : List Line). IsSome (last_line (begins (q ++ index (n - 1) ∷ [])) start ls)) (sym was)
        (some_prefix (begins (q ++ index (n - 1) ∷ [])) start pre (here ∷ post) begin)))

ends_there : (p h : List Part) → p ≡ h → same_path p h ≡ true
ends_there p h e = ap (same_path p) (sym e) ∙ same_path-refl p

where_mentioned : (s : Document) (h : List Part) (pre : List Line) (before after : Gap) (comment : Option Written)
    (c : Content) (post : List Line)
    → (let l : Line = record { before = before; content = c; after = after; comment = comment } in
    lines s ≡ pre ++ l ∷ post → SomeOf (IsNamedAt h) (line_mentions (reading_after_lines start pre) l) → Elsewhere s h)
where_mentioned s h pre before after comment blank post was x = absurd x
where_mentioned s h pre before after comment (header b k a) post was x =
    let l : Line = record { before = before; content = header b k a; after = after; comment = comment } in
    let r : Reading = reading_after_lines start pre in
    let prefixes : List Mention = header_prefixes r.tables [] (keys_of k) in
    let path : List Part = header_path r.tables [] (keys_of k) in
    let end : List Mention = record { path = path; kind = define } ∷ [] in
    elim (some_cases (IsNamedAt h) prefixes end x) [
      | inl w ↦
          from_way s h pre before after comment (header b k a) post was
          (λ g. some_has is_through h (line_mentions r l) g) prefixes
          (λ g. some_left (IsMentioned is_through h) prefixes end g) (way_case r.tables h [] (keys_of k) w)
      | inr t ↦ (elim t [
        | inl e ↦ begun_by (among s h pre before after comment (header b k a) post was (begins h) (ends_there path h e))
        | inr none ↦ absurd none
      ])
    ]
where_mentioned s h pre before after comment (element b k a) post was x =
    let l : Line = record { before = before; content = element b k a; after = after; comment = comment } in
    let r : Reading = reading_after_lines start pre in
    let prefixes : List Mention = header_prefixes r.tables [] (keys_of k) in
    let path : List Part = header_path r.tables [] (keys_of k) in
    let top : List Part = path ++ index (elements_of path r.tables) ∷ [] in
    let end : List Mention =
    record { path = path; kind = marks_of.element } ∷ record { path = top; kind = begun } ∷ [] in
    elim (some_cases (IsNamedAt h) prefixes end x) [
      | inl w ↦
          from_way s h pre before after comment (element b k a) post was
          (λ g. some_has is_through h (line_mentions r l) g) prefixes
          (λ g. some_left (IsMentioned is_through h) prefixes end g) (way_case r.tables h [] (keys_of k) w)
      | inr t ↦ (elim t [
        | inl e ↦
            an_element (mentioned_here s h pre before after comment (element b k a) post was is_element
            (some_right (IsMentioned is_element h) prefixes end (inl (e, refl))))
        | inr u ↦ (elim u [
          | inl e ↦
              begun_by (among s h pre before after comment (element b k a) post was (begins h) (ends_there top h e))
          | inr none ↦ absurd none
        ])
      ])
    ]
where_mentioned s h pre before after comment (keyval name v) post was x =
    let r : Reading = reading_after_lines start pre in
    let keys : List (List ℕ) = keys_of name.key in
    let vs : List Mention = valued_mentions (value (body_fact v.body)) (entries_mentions 0 v.nested) in
    let (y, (e, g)) = named_unbelow r.body h (keyval_mentions name v) x in
    elim (some_cases (IsNamedAt y) (keyed_mentions keys []) (map (below (map key keys)) vs)
    (subst (SomeOf (IsNamedAt y)) (keyed_split keys vs) g)) [
      | inl own ↦ dotted_by (among s h pre before after comment (keyval name v) post was (leads_dotted h)
          (some_has is_dotted h (map (below r.body) (keyed_mentions keys []))
          (subst (λ (p : List Part). SomeOf (IsMentioned is_dotted p) (map (below r.body) (keyed_mentions keys [])))
          (sym e) (some_mentioned_below is_dotted r.body y (keyed_mentions keys []) (all_dotted y keys own)))))
      | inr deep ↦
          (let (w, (e', g')) = named_unbelow (map key keys) y vs deep in
          in_keyval (record {
            pre = pre;
            line = record { before = before; content = keyval name v; after = after; comment = comment };
            post = post;
            was = was;
            name = name;
            value = v;
            content = refl;
            rest = w;
            whole = e ∙ ap (λ (q : List Part). r.body ++ q) e' ∙ sym (append_assoc r.body (map key keys) w);
          }))
    ]

pub never_some : {A : Type 0} (o : Option A) → o ≡ None → IsSome o → ⊥
never_some None e s = s
never_some (Some x) e s = absurd cc

pub holder_keyval : (s : Document) (h : List Part) → list_any (is_at h) (mentions_in s) ≡ true
    → last_line (begins h) start (lines s) ≡ None → last_line (leads_dotted h) start (lines s) ≡ None
    → last_line (leads_through h) start (lines s) ≡ None → has is_element h (mentions_in s) ≡ false → IsInKeyval s h
holder_keyval s h node begun_none dotted_none through_none element_none =
    let l = line_of_some (IsNamedAt h) start (lines s) (named_of h (mentions_in s) node) in
    by (where_mentioned s h l.pre l.here.before l.here.after l.here.comment l.here.content l.post l.was l.mentioned)
  where
    by : Elsewhere s h → IsInKeyval s h
    by (begun_by k) = absurd (never_some (last_line (begins h) start (lines s)) begun_none k)
    by (dotted_by k) = absurd (never_some (last_line (leads_dotted h) start (lines s)) dotted_none k)
    by (through_by k) = absurd (never_some (last_line (leads_through h) start (lines s)) through_none k)
    by (an_element k) =
        let yes : has is_element h (mentions_in s) ≡ true = some_has is_element h (mentions_in s) k in absurd cc
    by (in_keyval k) = k
