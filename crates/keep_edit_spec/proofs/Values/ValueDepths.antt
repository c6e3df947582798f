-- How deep the values of a document are: as many arrays and inline tables enclose each as there are at the prefixes of
-- its path.
--
-- `EntryDepths` has this for the values inside one value; here it is brought to documents. Each value of a document is
-- in a keyval of one line (`in_lines`), whose own path is enclosed by nothing: no value is at a proper prefix of it
-- (`prefix_open`). This is the hard case. A value there would be in a keyval of a line before or after it, and then
-- this keyval's path would be under the other's, which the rules refuse. `lines_deep` joins the lines by induction.
--
-- Theorems: `depth_of_value`: a stored value's depth is that of its path; `too_deep_at`: what `set` refuses as too
-- deep.
use Rattle.std.proofs.Common.{◌≡◌, ℕ, ◌+◌, Bool, true, false, cond, List, [], ◌∷◌, ◌++◌, length, map, slice_get, refl}
use Rattle.std.proofs.Common.{sym, ap, subst, ◌∙◌, append_assoc, arith, Some, None, inl, inr}
use Rattle.std.specs.Prelude.{nat_lt}
use Rattle.std.specs.List.{AllZip, AllByRecursion}
use Rattle.std.proofs.lemmas.List.{append-nil}
use Rattle.std.proofs.lemmas.List.Elements.{filter-append}
use Rattle.keep_types.specs.declared.leaf.Profile.{Profile}
use Rattle.keep_types.specs.declared.syntax.Start.{Start}
use Rattle.keep_types.specs.declared.syntax.ValueInfo.{ValueInfo}
use Rattle.keep_syntax.specs.Tree.{Name, Value, Content, blank, keyval, header, element, Line, Ended, Document}
use Rattle.keep_syntax.specs.Tree.{name_leaves, value_depth}
use Rattle.keep_syntax.specs.Grammar.{IsContent, IsLine, IsEnded, IsDocument, place_in}
use Rattle.keep_syntax.specs.Numbered as syntax
use Rattle.keep_syntax.specs.Numbered.{key_count, info, nested_of, entries_values, line_start, content_values}
use Rattle.keep_syntax.specs.Numbered.{line_values, over_lines, next_line, first_line}
use Rattle.keep_meaning.specs.Fact.{Fact}
use Rattle.keep_path.specs.Path.{Part, same_path}
use Rattle.keep_meaning.specs.Rules.{ObeysRules}
use Rattle.keep_meaning.specs.Marks.{MentionKind, value, item, Mention, below, marks, Reading, statement_mentions}
use Rattle.keep_meaning.specs.Marks.{start}
use Rattle.keep_meaning.specs.Meaning.{key_value, further_value, keys_of, body_fact, valued_mentions, entries_mentions}
use Rattle.keep_meaning.specs.Meaning.{step, keyval_mentions, statement_of, line_mentions, after_line, lines_mentions}
use Rattle.keep_meaning.specs.Meaning.{reading_after_lines, line_of, lines, mentions_in}
use Rattle.keep_meaning.specs.Counts.{is_value, numbered_in}
use Rattle.keep_meaning.specs.Nodes.{fact_at, numbered_at, last_number, value_number}
use Rattle.keep_edit_spec.specs.Look.{is_bracket_at, enclosing}
use Rattle.keep_edit_spec.specs.Refusals.{is_too_deep}
use Rattle.keep_edit_spec.proofs.Common.Runs.{AllOf, SomeOf, some_left, some_right, pairs_split, Allowed, Rules}
use Rattle.keep_edit_spec.proofs.Common.Runs.{exclusive, IsDisjoint}
use Rattle.keep_edit_spec.proofs.Common.SetLaw.{IsAloneAt, some_alone_below, clash_before, clash_after}
use Rattle.keep_edit_spec.proofs.Common.SetDocument.{ends_keys, longer, keyval_alone, from_closed, mentions_of}
use Rattle.keep_edit_spec.proofs.Common.SetDocument.{reading_of, whole_mentions, valued_facts}
use Rattle.keep_edit_spec.proofs.Common.LineLaws.{EndsInKey, lines_closed, lines_mentions-append, never_root}
use Rattle.keep_edit_spec.proofs.Common.Marks.{rules_of_document}
use Rattle.keep_edit_spec.proofs.Common.ValueThere.{some_cases, entry_beyond}
use Rattle.keep_edit_spec.proofs.Common.DoneInDocument.{keyval_facts}
use Rattle.keep_edit_spec.proofs.Common.ValuesMention.{value_mention_kinds, length-mention_kinds, mention_kinds-header}
use Rattle.keep_edit_spec.proofs.Common.ValuesMention.{mention_kinds-element, states_value, value_mentions}
use Rattle.keep_edit_spec.proofs.Common.ValuesMention.{length-mentions, zip_join}
use Rattle.keep_edit_spec.proofs.Common.ValueNumber.{false_unless}
use Rattle.keep_edit_spec.proofs.Values.ValuePlace.{zip_at, mention_of_number}
use Rattle.keep_edit_spec.proofs.Common.EntryDepths.{alone_of_bracket, enclosing_none, enclosing_beyond, disjoint_alone}
use Rattle.keep_edit_spec.proofs.Common.EntryDepths.{no_prefix, IsDeep, zip_map, mentions-below, mentions-entry}
use Rattle.keep_edit_spec.proofs.Common.EntryDepths.{alone_named, value_deep, entries_deep}
use Rattle.keep_edit_spec.proofs.Append.AppendLaw.{reading_append}

-- ---- a value's line

exclusive_is_value : (s : MentionKind) → exclusive s ≡ true → is_value s ≡ true
exclusive_is_value (value f) e = refl
exclusive_is_value (item f) e = refl
exclusive_is_value other e = absurd cc

-- nothing is alone at its path where no value is said
none_alone : (q : List Part) (ms : List Mention) → value_mention_kinds ms ≡ [] → SomeOf (IsAloneAt q) ms → ⊥
none_alone q [] e s = absurd s
none_alone q (m ∷ ms) e s = by (is_value m.kind) refl e s (none_alone q ms)
  where
    by : (b : Bool) → is_value m.kind ≡ b → cond b (m.kind ∷ value_mention_kinds ms) (value_mention_kinds ms) ≡ []
        → SomeOf (IsAloneAt q) (m ∷ ms) → (value_mention_kinds ms ≡ [] → SomeOf (IsAloneAt q) ms → ⊥) → ⊥
    by true is k s more = absurd cc
    by false is k (inl a) more = let t : false ≡ true = sym is ∙ exclusive_is_value m.kind a.kind in absurd cc
    by false is k (inr h) more = more k h

no_mentions : (ms : List Mention) → value_mention_kinds ms ≡ [] → value_mentions ms ≡ []
no_mentions ms e =
    empty (value_mentions ms) (length-mentions ms ∙ sym (length-mention_kinds ms)
    ∙ ap (λ (l : List MentionKind). length l) e)
  where
    empty : (l : List Mention) → length l ≡ 0 → l ≡ []
    empty [] h = refl
    empty (x ∷ l) h = absurd (omega (arith, h))

beyond : (p path : List Part) (ms : List Mention) → SomeOf (IsAloneAt path) (map (below p) ms)
    → (more : List Part) × ((path ≡ p ++ more) × SomeOf (IsAloneAt more) ms)
beyond p path [] s = absurd s
beyond p path (m ∷ ms) (inl a) = (m.path, (sym a.path, inl (record { path = refl; kind = a.kind })))
beyond p path (m ∷ ms) (inr s) = let (more, (e, h)) = beyond p path ms s in (more, (e, inr h))

abbrev content_mentions : Reading → Content → List Mention
content_mentions r c = elim (statement_of c) [ None ↦ [] | Some s ↦ statement_mentions r s ]

-- a keyval's path
abbrev own_path : Reading → Name → List Part
own_path r name = r.body ++ step 0 (Some name)

-- beyond a keyval's path
record IsInKeyval (r : Reading) (q : List Part) (c : Content) : Type 0 where
  name : Name
  value : Value
  more : List Part
  content : c ≡ keyval name value
  place : q ≡ own_path r name ++ more

in_keyval : (r : Reading) (q : List Part) (name : Name) (v : Value)
    → SomeOf (IsAloneAt q) (map (below r.body) (keyval_mentions name v))
    → (more : List Part) × (q ≡ own_path r name ++ more)
in_keyval r q name v s =
    let (x, (e, h)) = beyond r.body q (keyval_mentions name v) s in
    let g = entry_beyond 0 (Some name) (body_fact v.body) (entries_mentions 0 v.nested) x h in
    (g.more, e ∙ ap (λ (y : List Part). r.body ++ y) g.is ∙ sym (append_assoc r.body (step 0 (Some name)) g.more))

in_content : (r : Reading) (q : List Part) (c : Content) → SomeOf (IsAloneAt q) (content_mentions r c)
    → IsInKeyval r q c
in_content r q blank s = absurd s
in_content r q (keyval name v) s =
    let (more, e) = in_keyval r q name v s in record { name = name; value = v; more = more; content = refl; place = e }
in_content r q (header before k after) s =
    absurd (none_alone q (content_mentions r (header before k after)) (mention_kinds-header r (keys_of k)) s)
in_content r q (element before k after) s =
    absurd (none_alone q (content_mentions r (element before k after)) (mention_kinds-element r (keys_of k)) s)

-- a value of lines is in a keyval among them
record IsInLines (r : Reading) (q : List Part) (ls : List Line) : Type 0 where
  pre : List Line
  line : Line
  post : List Line
  was : ls ≡ pre ++ line ∷ post
  here : IsInKeyval (reading_after_lines r pre) q line.content

in_lines : (r : Reading) (q : List Part) (ls : List Line) → SomeOf (IsAloneAt q) (lines_mentions r ls)
    → IsInLines r q ls
in_lines r q [] s = absurd s
in_lines r q (l ∷ ls) s =
    elim (some_cases (IsAloneAt q) (line_mentions r l) (lines_mentions (after_line r l) ls) s) [
      | inl a ↦ record { pre = []; line = l; post = ls; was = refl; here = in_content r q l.content a }
      | inr b ↦
          (let h = in_lines (after_line r l) q ls b in
          record {
            pre = l ∷ h.pre;
            line = h.line;
            post = h.post;
            was = ap (λ (x : List Line). l ∷ x) h.was;
            here = h.here;
          })
    ]

-- ---- nothing else is said at or under a keyval's path

record IsDisjointFrom (p : List Part) (left right : List Mention) : Type 0 where
  before : AllOf (IsDisjoint p) left
  after : AllOf (IsDisjoint p) right

keyval_disjoint : (pre post : List Line) (l : Line) (name : Name) (v : Value) → l.content ≡ keyval name v
    → Rules (lines_mentions start (pre ++ l ∷ post))
    → (let r : Reading = reading_after_lines start pre in
    IsDisjointFrom (own_path r name) (lines_mentions start pre) (lines_mentions r post))
keyval_disjoint pre post l name v e rules =
    let r : Reading = reading_after_lines start pre in
    let p : List Part = own_path r name in
    let left : List Mention = lines_mentions start pre in
    let right : List Mention = lines_mentions r post in
    let mid : List Mention = map (below r.body) (keyval_mentions name v) in
    let all_rules : Rules (left ++ (mid ++ right)) = subst Rules (whole_mentions pre post l name v e) rules in
    let outer = pairs_split Allowed left (mid ++ right) all_rules in
    let ends : EndsInKey p = ends_keys r.body (key_value name.key.first) (map further_value name.key.more) in
    let alone : SomeOf (IsAloneAt p) mid = keyval_alone r.body name v in
    record {
      before =
          from_closed p [] left (lines_closed p start pre ends) (λ u. never_root p ends u)
          (λ s. clash_before p left (mid ++ right) s (some_left (IsAloneAt p) mid right alone) all_rules);
      after = from_closed p r.body right (lines_closed p r post ends) (λ u. longer r.body _ _ u)
          (λ s. clash_after p mid right alone s outer.right);
    }

-- what a line among lines says
among_lines : (r : Reading) (pre post : List Line) (l : Line) (p : List Part)
    → SomeOf (IsAloneAt p) (line_mentions (reading_after_lines r pre) l)
    → SomeOf (IsAloneAt p) (lines_mentions r (pre ++ l ∷ post))
among_lines r pre post l p s =
    let q : Reading = reading_after_lines r pre in
    subst (λ (x : List Mention). SomeOf (IsAloneAt p) x) (sym (lines_mentions-append r pre (l ∷ post)))
    (some_right (IsAloneAt p) (lines_mentions r pre) (lines_mentions q (l ∷ post))
    (some_left (IsAloneAt p) (line_mentions q l) (lines_mentions (after_line q l) post) s))

own_alone : (r : Reading) (l : Line) (name : Name) (v : Value) → l.content ≡ keyval name v
    → SomeOf (IsAloneAt (own_path r name)) (line_mentions r l)
own_alone r l name v e =
    subst (λ (x : List Mention). SomeOf (IsAloneAt (own_path r name)) x) (sym (mentions_of r l name v e))
    (keyval_alone r.body name v)

-- No value is at a prefix of a keyval's path.
prefix_open : (pre post : List Line) (l : Line) (name : Name) (v : Value) → l.content ≡ keyval name v
    → Rules (lines_mentions start (pre ++ l ∷ post))
    → (q : List Part) (k : Part) (qs : List Part) → own_path (reading_after_lines start pre) name ≡ q ++ k ∷ qs
    → SomeOf (IsAloneAt q) (lines_mentions start (pre ++ l ∷ post)) → ⊥
prefix_open pre post l name v e rules q k qs prefix s =
    elim (some_cases (IsAloneAt q) left (mid ++ right)
    (subst (λ (x : List Mention). SomeOf (IsAloneAt q) x) (whole_mentions pre post l name v e) s)) [
      | inl a ↦ earlier (in_lines start q pre a)
      | inr b ↦ elim (some_cases (IsAloneAt q) mid right b) [
        | inl c ↦ (let (more, f) = in_keyval r q name v c in no_prefix p q k qs more prefix f)
        | inr d ↦ later (in_lines r q post d)
      ]
    ]
  where
    r : Reading
    r = reading_after_lines start pre

    p : List Part
    p = own_path r name

    left : List Mention
    left = lines_mentions start pre

    mid : List Mention
    mid = map (below r.body) (keyval_mentions name v)

    right : List Mention
    right = lines_mentions r post

    under : (o more : List Part) → q ≡ o ++ more → p ≡ o ++ (more ++ k ∷ qs)
    under o more f = prefix ∙ ap (λ (x : List Part). x ++ k ∷ qs) f ∙ append_assoc o more (k ∷ qs)

    -- in a line before
    earlier : IsInLines start q pre → ⊥
    earlier h =
        let o : List Part = own_path (reading_after_lines start h.pre) h.here.name in
        let first : Reading = reading_after_lines start h.pre in
        let whole : pre ++ l ∷ post ≡ h.pre ++ h.line ∷ (h.post ++ l ∷ post) =
        ap (λ (x : List Line). x ++ l ∷ post) h.was ∙ append_assoc h.pre (h.line ∷ h.post) (l ∷ post) in
        let disjoint =
        keyval_disjoint h.pre (h.post ++ l ∷ post) h.line h.here.name h.here.value h.here.content
        (subst (λ (x : List Line). Rules (lines_mentions start x)) whole rules) in
        let same : reading_after_lines first h.post ≡ r =
        ap (λ (x : Reading). reading_after_lines x h.post)
        (sym (reading_of first h.line h.here.name h.here.value h.here.content))
        ∙ sym (reading_append start h.pre (h.line ∷ h.post)) ∙ ap (reading_after_lines start) (sym h.was) in
        let mine : SomeOf (IsAloneAt p) (lines_mentions first (h.post ++ l ∷ post)) =
        among_lines first h.post post l p
        (subst (λ (x : Reading). SomeOf (IsAloneAt p) (line_mentions x l)) (sym same) (own_alone r l name v e)) in
        disjoint_alone o (h.here.more ++ k ∷ qs) p (lines_mentions first (h.post ++ l ∷ post))
        (under o h.here.more h.here.place) disjoint.after mine

    -- in a line after
    later : IsInLines r q post → ⊥
    later h =
        let prefix_lines : List Line = pre ++ l ∷ h.pre in
        let whole : pre ++ l ∷ post ≡ prefix_lines ++ h.line ∷ h.post =
        ap (λ (x : List Line). pre ++ l ∷ x) h.was ∙ sym (append_assoc pre (l ∷ h.pre) (h.line ∷ h.post)) in
        let disjoint =
        keyval_disjoint prefix_lines h.post h.line h.here.name h.here.value h.here.content
        (subst (λ (x : List Line). Rules (lines_mentions start x)) whole rules) in
        let same : reading_after_lines start prefix_lines ≡ reading_after_lines r h.pre =
        reading_append start pre (l ∷ h.pre)
        ∙ ap (λ (x : Reading). reading_after_lines x h.pre) (reading_of r l name v e) in
        let o : List Part = own_path (reading_after_lines start prefix_lines) h.here.name in
        let place : q ≡ o ++ h.here.more =
        h.here.place ∙ ap (λ (x : Reading). own_path x h.here.name ++ h.here.more) (sym same) in
        let mine : SomeOf (IsAloneAt p) (lines_mentions start prefix_lines) =
        among_lines start pre h.pre l p (own_alone r l name v e) in
        disjoint_alone o (h.here.more ++ k ∷ qs) p (lines_mentions start prefix_lines) (under o h.here.more place)
        disjoint.before mine

-- ---- a line's values

content_deep : (profile : Profile) (pre post : List Line) (c : syntax.Count) (l : Line) (x : Content) → l.content ≡ x
    → IsContent profile x → Rules (lines_mentions start (pre ++ l ∷ post))
    → AllZip (IsDeep 0 (lines_mentions start (pre ++ l ∷ post)))
    (value_mentions (content_mentions (reading_after_lines start pre) x)) (content_values (line_start c l) x)
content_deep profile pre post c l blank e is rules = tt
content_deep profile pre post c l (header before k after) e is rules =
    let r : Reading = reading_after_lines start pre in
    subst (λ (ms : List Mention). AllZip (IsDeep 0 (lines_mentions start (pre ++ l ∷ post))) ms [])
    (sym (no_mentions (content_mentions r (header before k after)) (mention_kinds-header r (keys_of k)))) tt
content_deep profile pre post c l (element before k after) e is rules =
    let r : Reading = reading_after_lines start pre in
    subst (λ (ms : List Mention). AllZip (IsDeep 0 (lines_mentions start (pre ++ l ∷ post))) ms [])
    (sym (no_mentions (content_mentions r (element before k after)) (mention_kinds-element r (keys_of k)))) tt
content_deep profile pre post c l (keyval name v) e is rules =
    let p : Start = line_start c l in
    let r : Reading = reading_after_lines start pre in
    let f : Fact = body_fact v.body in
    let at : ℕ = p.at + syntax.width (name_leaves name) in
    let i : Start = nested_of p at (key_count name.key) v.body in
    let own : ValueInfo = info p at (key_count name.key) v.body v.nested None in
    let within : List Mention = entries_mentions 0 v.nested in
    let infos : List ValueInfo = own ∷ entries_values i v.nested in
    let ms : List Mention = valued_mentions (value f) within in
    let vs : List Mention = valued_mentions (value f) (value_mentions within) in
    let s : List Part = step 0 (Some name) in
    let path : List Part = own_path r name in
    let whole : List Mention = lines_mentions start (pre ++ l ∷ post) in
    let k = keyval_facts pre post l name v e rules in
    let facts : (q : List Part) → fact_at (path ++ q) whole ≡ fact_at q ms =
    λ q. k.facts q ∙ valued_facts (item f) (value f) within q refl (same_path [] q) refl in
    let open_key : enclosing path whole ≡ 0 =
    enclosing_none path whole (λ q j qs g.
    false_unless (is_bracket_at whole q)
    (λ b. prefix_open pre post l name v e rules q j qs g (alone_of_bracket q whole b))) in
    let inner : AllZip (IsDeep 0 ms) vs infos =
    value_deep profile 0 (Some name) v.body v.nested own (entries_values i v.nested) is.1.nested refl
    (entries_deep profile (place_in v.body) 0 i v.nested is.1.nested k.rules) in
    let left : List Mention = lines_mentions start pre in
    let mid : List Mention = map (below r.body) (keyval_mentions name v) in
    let right : List Mention = lines_mentions r post in
    let here : AllZip (IsDeep 0 whole) (map (λ m. below r.body (below s m)) vs) infos =
    zip_map (IsDeep 0 ms) (IsDeep 0 whole) (λ m. below r.body (below s m)) vs infos
    (λ m j h.
    let same : path ++ m.path ≡ r.body ++ (s ++ m.path) = append_assoc r.body s m.path in
    record {
      deep = subst (λ (y : List Part). j.depth ≡ 0 + enclosing y whole) same
          (omega (arith, h.deep, open_key, enclosing_beyond path m.path whole ms facts));
      alone = subst (λ (y : List Mention). SomeOf (IsAloneAt (r.body ++ (s ++ m.path))) y)
          (sym (whole_mentions pre post l name v e))
          (some_right (IsAloneAt (r.body ++ (s ++ m.path))) left (mid ++ right)
          (some_left (IsAloneAt (r.body ++ (s ++ m.path))) mid right
          (some_alone_below r.body (s ++ m.path) (keyval_mentions name v)
          (alone_named 0 (Some name) f within m.path h.alone))));
    }) inner in
    let mentioned : value_mentions (map (below r.body) (keyval_mentions name v))
    ≡ map (λ m. below r.body (below s m)) vs =
    mentions-below r.body (keyval_mentions name v) ∙ ap (map (below r.body)) (mentions-entry 0 (Some name) f within)
    ∙ map_both r.body s vs in
    subst (λ (y : List Mention). AllZip (IsDeep 0 whole) y infos) (sym mentioned) here
  where
    map_both : (a b : List Part) (ms : List Mention)
        → map (below a) (map (below b) ms) ≡ map (λ m. below a (below b m)) ms
    map_both a b [] = refl
    map_both a b (m ∷ ms) = ap (λ (x : List Mention). below a (below b m) ∷ x) (map_both a b ms)

-- ---- a document

lines_deep : (profile : Profile) (pre : List Line) (c : syntax.Count) (es : List Ended) (last : Line)
    → AllByRecursion (IsEnded profile) es → IsLine profile last
    → (whole : List Line) → whole ≡ pre ++ (map line_of es ++ last ∷ []) → Rules (lines_mentions start whole)
    → AllZip (IsDeep 0 (lines_mentions start whole))
    (value_mentions (lines_mentions (reading_after_lines start pre) (map line_of es ++ last ∷ [])))
    (over_lines (λ c l line_end. line_values c l) c es last)
lines_deep profile pre c [] last are is whole e rules =
    let r : Reading = reading_after_lines start pre in
    let deep : AllZip (IsDeep 0 (lines_mentions start whole)) (value_mentions (line_mentions r last))
    (line_values c last) =
    subst (λ (x : List Line).
    AllZip (IsDeep 0 (lines_mentions start x)) (value_mentions (line_mentions r last)) (line_values c last)) (sym e)
    (content_deep profile pre [] c last last.content refl is.content
    (subst (λ (x : List Line). Rules (lines_mentions start x)) e rules)) in
    subst (λ (l : List Mention). AllZip (IsDeep 0 (lines_mentions start whole)) (value_mentions l) (line_values c last))
    (sym (append-nil (line_mentions r last))) deep
lines_deep profile pre c (x ∷ es) last are is whole e rules =
    let r : Reading = reading_after_lines start pre in
    let post : List Line = map line_of es ++ last ∷ [] in
    let ms : List Mention = lines_mentions start whole in
    let here : List Mention = line_mentions r x.line in
    let rest : List Mention = lines_mentions (after_line r x.line) post in
    let more : List ValueInfo = over_lines (λ c l line_end. line_values c l) (next_line c x) es last in
    let next : List Line = pre ++ x.line ∷ [] in
    let first : AllZip (IsDeep 0 ms) (value_mentions here) (line_values c x.line) =
    subst (λ (y : List Line). AllZip (IsDeep 0 (lines_mentions start y)) (value_mentions here) (line_values c x.line))
    (sym e)
    (content_deep profile pre post c x.line x.line.content refl are.0.line.content
    (subst (λ (y : List Line). Rules (lines_mentions start y)) e rules)) in
    let further : AllZip (IsDeep 0 ms) (value_mentions (lines_mentions (reading_after_lines start next) post)) more =
    lines_deep profile next (next_line c x) es last are.1 is whole (e ∙ sym (append_assoc pre (x.line ∷ []) post))
    rules in
    let same : reading_after_lines start next ≡ after_line r x.line = reading_append start pre (x.line ∷ []) in
    subst (λ (l : List Mention). AllZip (IsDeep 0 ms) l (line_values c x.line ++ more))
    (sym (filter-append states_value here rest))
    (zip_join (IsDeep 0 ms) (value_mentions here) (value_mentions rest) (line_values c x.line) more first
    (subst (λ (q : Reading). AllZip (IsDeep 0 ms) (value_mentions (lines_mentions q post)) more) same further))

-- Each value is as deep as there are arrays and inline tables at the prefixes of its path.
pub values_deep : (profile : Profile) (s : Document) → IsDocument profile s → Rules (mentions_in s)
    → AllZip (IsDeep 0 (mentions_in s)) (value_mentions (mentions_in s)) (syntax.values s)
values_deep profile s valid rules =
    lines_deep profile [] (first_line s) s.ended s.last valid.ended valid.last (lines s) refl rules

-- The value of a node's number is as deep as arrays and inline tables enclose its path.
pub depth_of_value : (profile : Profile) (path : List Part) (s : Document) (v : ℕ) (i : ValueInfo)
    → IsDocument profile s → ObeysRules (marks (mentions_in s))
    → last_number is_value value_number (numbered_at path (numbered_in s)) ≡ Some v
    → slice_get (syntax.values s) v ≡ Some i → enclosing path (mentions_in s) ≡ i.depth
depth_of_value profile path s v i valid obeys number here =
    let (m, place, there) = mention_of_number path s v obeys number in
    let deep : IsDeep 0 (mentions_in s) m i =
    zip_at (IsDeep 0 (mentions_in s)) (value_mentions (mentions_in s)) (syntax.values s) v m i
    (values_deep profile s valid (rules_of_document s obeys)) there here in
    ap (λ (q : List Part). enclosing q (mentions_in s)) (sym place) ∙ omega (arith, deep.deep)

-- so the limit is passed where the value's own depth and the new brackets pass it
pub too_deep_at : (profile : Profile) (limit : ℕ) (path : List Part) (new : Value) (s : Document) (v : ℕ)
    (i : ValueInfo) → IsDocument profile s → ObeysRules (marks (mentions_in s))
    → last_number is_value value_number (numbered_at path (numbered_in s)) ≡ Some v
    → slice_get (syntax.values s) v ≡ Some i
    → is_too_deep limit path new (mentions_in s) ≡ nat_lt limit (i.depth + value_depth new)
too_deep_at profile limit path new s v i valid obeys number here =
    ap (λ (d : ℕ). nat_lt limit (d + value_depth new)) (depth_of_value profile path s v i valid obeys number here)
