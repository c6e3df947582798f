-- What is done at the value of a path, seen from the document.
--
-- An act in a document is an act in the value of the keyval that it finds, whose path the given path begins with.
-- `DoneAtValue` shows of that value what is done at the path that is left. Around it come the key, the line and the
-- lines: their text is before and after the change, their depth and their validity stay (`done_content`, `done_line`,
-- `done_lines`, by induction over the lines). What the document says at and under the keyval's path is what the value
-- says (`keyval_facts`), as nothing else may be at a value's path.
--
-- Theorem: `done_nested`.
use Rattle.std.proofs.Common.{◌≡◌, ℕ, ◌≤◌, List, [], ◌∷◌, ◌++◌, map, refl, sym, ap, subst, ◌∙◌, append_assoc, arith}
use Rattle.std.proofs.Common.{Option, Some, None}
use Rattle.std.specs.Prelude.{max}
use Rattle.std.specs.List.{filter_map}
use Rattle.keep_syntax.specs.Tree.{Name, name_leaves, comment_leaves, Value, Content, blank, keyval, header, element}
use Rattle.keep_syntax.specs.Tree.{Line, Ended, Document, ended_leaves, bom_leaves, text_of, value_depth, content_depth}
use Rattle.keep_syntax.specs.Tree.{lines_depth, depth}
use Rattle.keep_meaning.specs.Fact.{Fact}
use Rattle.keep_path.specs.Path.{Part}
use Rattle.keep_meaning.specs.Marks.{MentionKind, Mention, below, fact_of, Reading, start}
use Rattle.keep_meaning.specs.Meaning.{key_value, further_value, body_fact, entries_mentions, step, keyval_mentions}
use Rattle.keep_meaning.specs.Meaning.{after_line, lines_mentions, reading_after_lines, line_of, mentions_in}
use Rattle.keep_meaning.specs.Meaning.{mentions_of_value}
use Rattle.keep_meaning.specs.Nodes.{fact_at, first_of}
use Rattle.keep_edit_spec.specs.Look.{strip, enclosing}
use Rattle.keep_edit_spec.specs.Changed.{Changed, within, framed_change}
use Rattle.keep_edit_spec.specs.Values.{Act, in_value}
use Rattle.keep_edit_spec.specs.Lines.{Page, page_text, page_of, in_content, in_line, in_lines, with_page}
use Rattle.keep_edit_spec.specs.Edits.{nested}
use Rattle.keep_edit_spec.proofs.Common.Runs.{AllOf, SomeOf, pairs_split, some_left, Allowed, Rules, IsDisjoint}
use Rattle.keep_edit_spec.proofs.Common.Runs.{strip-sound, strip-append, kinds_at-below, fact_under}
use Rattle.keep_edit_spec.proofs.Common.SetLaw.{IsAloneAt, clash_before, clash_after, rules_below, rules_named}
use Rattle.keep_edit_spec.proofs.Common.LineLaws.{EndsInKey, lines_closed, never_root}
use Rattle.keep_edit_spec.proofs.Common.SetDocument.{ends_keys, longer, from_closed, keyval_alone, whole_mentions}
use Rattle.keep_edit_spec.proofs.Common.SetDocument.{page_lines}
use Rattle.keep_edit_spec.proofs.Common.DoneAtValue.{EachOf, of_within, of_or_else, IsDoneAt, IsAtEnd, done_framed}
use Rattle.keep_edit_spec.proofs.Common.DoneAtValue.{done_value, entry_facts, enclosing_beyond}

-- in the value of a keyval
pub record IsDoneIn (act : Act) (body path : List Part) (from : Content) (c : Changed Content) : Type 0 where
  pub name : Name
  pub value : Value
  pub more : List Part
  pub was : from ≡ keyval name value
  pub place : path ≡ (body ++ step 0 (Some name)) ++ more
  pub changed : Rules (entries_mentions 0 value.nested)
      → IsDoneAt act more (mentions_of_value value) content_depth from c

later_done : (R : Type 0) (P : Changed Value → Type 0) (o : Option (Changed Value)) → (R → EachOf P o)
    → EachOf (λ c. R → P c) o
later_done R P None h = tt
later_done R P (Some c) h = h

done_content-by : (act : Act) → IsAtEnd act → (body path : List Part) (name : Name) (v : Value) (o : Option (List Part))
    → strip (body ++ step 0 (Some name)) path ≡ o → EachOf (IsDoneIn act body path (keyval name v)) (elim o [
      | None ↦ None
      | Some more ↦ within (keyval name) (text_of (name_leaves name)) [] (in_value act more v)
    ])
done_content-by act ends body path name v None e = tt
done_content-by act ends body path name v (Some more) e =
    let R : Type 0 = Rules (entries_mentions 0 v.nested) in
    of_within (λ c. R → IsDoneAt act more (mentions_of_value v) value_depth v c)
    (IsDoneIn act body path (keyval name v)) (keyval name) (text_of (name_leaves name)) [] (in_value act more v)
    (λ c h. record {
      name = name;
      value = v;
      more = more;
      was = refl;
      place = strip-sound (body ++ step 0 (Some name)) path more e;
      changed =
          λ rules.
          done_framed act more (mentions_of_value v) value_depth content_depth v (keyval name v) (keyval name)
          (text_of (name_leaves name)) [] c (λ w d. d) (h rules);
    })
    (later_done R (IsDoneAt act more (mentions_of_value v) value_depth v) (in_value act more v)
    (λ rules. done_value act ends more v rules))

done_content : (act : Act) → IsAtEnd act → (body path : List Part) (c : Content)
    → EachOf (IsDoneIn act body path c) (in_content act body path c)
done_content act ends body path blank = tt
done_content act ends body path (keyval name v) =
    done_content-by act ends body path name v (strip (body ++ step 0 (Some name)) path) refl
done_content act ends body path (header before k after) = tt
done_content act ends body path (element before k after) = tt

-- in one of the lines
abbrev pub page_depth : Page → ℕ
page_depth p = max (lines_depth p.ended) (content_depth p.last.content)

pub record IsDoneInLines (act : Act) (r : Reading) (path : List Part) (from : Page) (c : Changed Page) : Type 0 where
  pub pre : List Line
  pub post : List Line
  pub line : Line
  pub name : Name
  pub value : Value
  pub more : List Part
  pub was : page_lines from ≡ pre ++ line ∷ post
  pub content : line.content ≡ keyval name value
  pub place : path ≡ ((reading_after_lines r pre).body ++ step 0 (Some name)) ++ more
  pub changed : Rules (entries_mentions 0 value.nested) → IsDoneAt act more (mentions_of_value value) page_depth from c

abbrev line_depth : Line → ℕ
line_depth l = content_depth l.content

-- ... seen from the line
done_line : (act : Act) → IsAtEnd act
    → (path : List Part) (r : Reading) (l : Line) (whole : Page) (pre post : List Line) (outer : Line → Page)
    (left right : List ℕ)
    → page_lines whole ≡ l ∷ post
    → ((l' : Line) (w : ℕ) → line_depth l' ≤ max (line_depth l) w → page_depth (outer l') ≤ max (page_depth whole) w)
    → EachOf (IsDoneInLines act r path whole) (within outer left right (in_line act path r l))
done_line act ends path r l whole pre post outer left right e f =
    let a : List ℕ = text_of l.before in
    let b : List ℕ = text_of l.after ++ text_of (comment_leaves l.comment) in
    of_within (λ c.
    (d : Changed Content) × IsDoneIn act r.body path l.content d
    × (c ≡ framed_change (λ x. record l { content = x }) a b d)) (IsDoneInLines act r path whole) outer left right
    (in_line act path r l)
    (λ c h. let (d, k, e') = h in record {
      pre = [];
      post = post;
      line = l;
      name = k.name;
      value = k.value;
      more = k.more;
      was = e;
      content = k.was;
      place = k.place;
      changed = λ rules.
          done_framed act k.more (mentions_of_value k.value) line_depth page_depth l whole outer left right c
          (λ w. f c.to w)
          (subst (λ (x : Changed Line). IsDoneAt act k.more (mentions_of_value k.value) line_depth l x) (sym e')
          (done_framed act k.more (mentions_of_value k.value) content_depth line_depth l.content l
          (λ x. record l { content = x }) a b d (λ w i. i) (k.changed rules)));
    })
    (of_within (IsDoneIn act r.body path l.content)
    (λ c. (d : Changed Content) × IsDoneIn act r.body path l.content d
    × (c ≡ framed_change (λ x. record l { content = x }) a b d))
    (λ x. record l { content = x }) a b (in_content act r.body path l.content) (λ d k. (d, k, refl))
    (done_content act ends r.body path l.content))

pub done_lines : (act : Act) → IsAtEnd act → (path : List Part) (r : Reading) (es : List Ended) (last : Line)
    → EachOf (IsDoneInLines act r path (record { ended = es; last = last })) (in_lines (in_line act path) r es last)
done_lines act ends path r [] last =
    done_line act ends path r last (record { ended = []; last = last }) [] [] (λ l. record { ended = []; last = l }) []
    [] refl (λ l' w h. omega (arith, h))
done_lines act ends path r (e ∷ es) last =
    let whole : Page = record { ended = e ∷ es; last = last } in
    let rest : Page = record { ended = es; last = last } in
    let outer : Page → Page = λ b. record { ended = e ∷ b.ended; last = b.last } in
    of_or_else (IsDoneInLines act r path whole) _ _
    (done_line act ends path r e.line whole [] (map line_of es ++ last ∷ [])
    (λ l. record { ended = record { line = l; newline = e.newline } ∷ es; last = last }) []
    (e.newline.text ++ page_text rest) refl (λ l' w h. omega (arith, h)))
    (of_within (IsDoneInLines act (after_line r e.line) path rest) (IsDoneInLines act r path whole) outer
    (text_of (ended_leaves e)) [] (in_lines (in_line act path) (after_line r e.line) es last)
    (λ c h. record {
      pre = e.line ∷ h.pre;
      post = h.post;
      line = h.line;
      name = h.name;
      value = h.value;
      more = h.more;
      was = ap (λ l. e.line ∷ l) h.was;
      content = h.content;
      place = h.place;
      changed =
          λ rules.
          done_framed act h.more (mentions_of_value h.value) page_depth page_depth rest whole outer
          (text_of (ended_leaves e)) [] c (λ w d. omega (arith, d)) (h.changed rules);
    })
    (done_lines act ends path (after_line r e.line) es last))

abbrev facts_of : List MentionKind → Option Fact
facts_of l = first_of (filter_map fact_of l)

-- what a document says at and under a keyval's path is what its value says
pub record IsKeyvalOf (ms : List Mention) (p : List Part) (v : Value) : Type 0 where
  pub facts : (q : List Part) → fact_at (p ++ q) ms ≡ fact_at q (mentions_of_value v)
  pub rules : Rules (entries_mentions 0 v.nested)

pub keyval_facts : (pre post : List Line) (l : Line) (name : Name) (v : Value) → l.content ≡ keyval name v
    → Rules (lines_mentions start (pre ++ l ∷ post))
    → IsKeyvalOf (lines_mentions start (pre ++ l ∷ post)) ((reading_after_lines start pre).body ++ step 0 (Some name)) v
keyval_facts pre post l name v e rules =
    let r : Reading = reading_after_lines start pre in
    let p : List Part = r.body ++ step 0 (Some name) in
    let left : List Mention = lines_mentions start pre in
    let right : List Mention = lines_mentions r post in
    let mid : List Mention = map (below r.body) (keyval_mentions name v) in
    let mentioned : lines_mentions start (pre ++ l ∷ post) ≡ left ++ (mid ++ right) =
    whole_mentions pre post l name v e in
    let all_rules : Rules (left ++ (mid ++ right)) = subst Rules mentioned rules in
    let outer = pairs_split Allowed left (mid ++ right) all_rules in
    let inner = pairs_split Allowed mid right outer.right in
    let ends : EndsInKey p = ends_keys r.body (key_value name.key.first) (map further_value name.key.more) in
    let alone : SomeOf (IsAloneAt p) mid = keyval_alone r.body name v in
    let disjoint_left : AllOf (IsDisjoint p) left =
    from_closed p [] left (lines_closed p start pre ends) (λ u. never_root p ends u)
    (λ s. clash_before p left (mid ++ right) s (some_left (IsAloneAt p) mid right alone) all_rules) in
    let disjoint_right : AllOf (IsDisjoint p) right =
    from_closed p r.body right (lines_closed p r post ends) (λ u. longer r.body _ _ u)
    (λ s. clash_after p mid right alone s outer.right) in
    record {
      facts = λ q.
          ap (fact_at (p ++ q)) mentioned
          ∙ fact_under p (p ++ q) q left mid right disjoint_left disjoint_right (strip-append p q)
          ∙ ap (λ (x : List Part). fact_at x mid) (append_assoc r.body (step 0 (Some name)) q)
          ∙ ap facts_of (kinds_at-below r.body (step 0 (Some name) ++ q) (keyval_mentions name v))
          ∙ entry_facts 0 (Some name) (body_fact v.body) (entries_mentions 0 v.nested) q;
      rules = rules_named 0 (Some name) (body_fact v.body) (entries_mentions 0 v.nested)
          (rules_below r.body (keyval_mentions name v) inner.left);
    }

-- What is done in a document is done at the value of the path.
pub done_nested : (act : Act) → IsAtEnd act → (path : List Part) (s : Document) → Rules (mentions_in s)
    → EachOf (IsDoneAt act path (mentions_in s) depth s) (nested act path s)
done_nested act ends path s rules =
    of_within (IsDoneInLines act start path (page_of s)) (IsDoneAt act path (mentions_in s) depth s) (with_page s)
    (text_of (bom_leaves s.bom)) [] (in_lines (in_line act path) start s.ended s.last)
    (λ c h.
    let p : List Part = (reading_after_lines start h.pre).body ++ step 0 (Some h.name) in
    let mentioned : mentions_in s ≡ lines_mentions start (h.pre ++ h.line ∷ h.post) = ap (lines_mentions start) h.was in
    let k : IsKeyvalOf (mentions_in s) p h.value =
    subst (λ (l : List Mention). IsKeyvalOf l p h.value) (sym mentioned)
    (keyval_facts h.pre h.post h.line h.name h.value h.content (subst Rules mentioned rules)) in
    let d = h.changed k.rules in
    let g : enclosing h.more (mentions_of_value h.value) ≤ enclosing path (mentions_in s) =
    subst (λ (x : List Part). enclosing h.more (mentions_of_value h.value) ≤ enclosing x (mentions_in s)) (sym h.place)
    (enclosing_beyond p h.more (mentions_in s) (mentions_of_value h.value) k.facts) in
    record {
      value = d.value;
      done = d.done;
      by = d.by;
      old = d.old;
      new = d.new;
      facts = λ q. ap (λ (x : List Part). fact_at (x ++ q) (mentions_in s)) h.place
          ∙ ap (λ (x : List Part). fact_at x (mentions_in s)) (append_assoc p h.more q) ∙ k.facts (h.more ++ q)
          ∙ d.facts q;
      depth = omega (arith, d.depth, g);
      bounded = λ k e. omega (arith, d.bounded k e, g);
    })
    (done_lines act ends path start s.ended s.last)
