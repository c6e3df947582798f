-- Where `set` puts a value without entries in place of another such, the numbered mentions stay as they are, but for
-- the fact of the one mention at the path.
--
-- The value is one mention of its keyval, and neither value has further mentions. A count does not look at facts
-- (`one_count`), so the numbers after the mention are what they were (`numbers_split`). The statement of the line gives
-- the same reading for the lines after it, so these have the numbers that they had too (`lines_fact_set`), and at the
-- path and under it nothing else is said.
--
-- Theorem: `fact_set`.
use Rattle.std.proofs.Common.{◌≡◌, ◌+◌, List, [], ◌∷◌, ◌++◌, map, refl, sym, ap, subst, ◌∙◌, append_assoc, Option, Some}
use Rattle.std.proofs.Common.{None}
use Rattle.std.specs.List.{filter_map}
use Rattle.std.proofs.lemmas.List.{map-append}
use Rattle.std.proofs.lemmas.List.Sums.{fold-append}
use Rattle.keep_syntax.specs.Tree.{Name, none, Value, Line, Document}
use Rattle.keep_path.specs.Path.{Part}
use Rattle.keep_meaning.specs.Fact.{Fact}
use Rattle.keep_meaning.specs.Marks as marks
use Rattle.keep_meaning.specs.Marks.{Mention, below, Reading, reading_after, start}
use Rattle.keep_meaning.specs.Meaning.{body_fact, entries_mentions, keyval_mentions, statement_of, after_line}
use Rattle.keep_meaning.specs.Meaning.{lines_mentions, reading_after_lines, lines, mentions_in}
use Rattle.keep_meaning.specs.Counts.{Count, Numbered, count_with_mention, count_after, next_count, no_count}
use Rattle.keep_meaning.specs.Counts.{numbered_mentions, numbered_from, line_statement, statements_in, numbered_in}
use Rattle.keep_meaning.specs.Nodes.{mention_of, node_paths, children}
use Rattle.keep_meaning.proofs.Shared.{numbered_mentions-append, mentions-numbered_mentions, mentions-numbered_from}
use Rattle.keep_meaning.proofs.Shared.{lines_mentions-statements}
use Rattle.keep_edit_spec.specs.Changed.{Changed}
use Rattle.keep_edit_spec.specs.Edits.{set, change}
use Rattle.keep_edit_spec.proofs.Common.Runs.{AllOf, all_join, Rules, IsDisjoint}
use Rattle.keep_edit_spec.proofs.Common.SetLaw.{IsSet, run, tag_of, EachTo}
use Rattle.keep_edit_spec.proofs.Common.StatementNumbers.{reading_lines, count_of_lines, numbered_around}
use Rattle.keep_edit_spec.proofs.Common.SetDocument.{LinesSet, IsLineSet, line_set, one_line_set, whole_mentions}
use Rattle.keep_edit_spec.proofs.Common.SetDocument.{reading_of}
use Rattle.keep_edit_spec.proofs.Set.Childless.{childless}

-- ---- in one statement

-- the mention of a value with this fact
abbrev pub value_mention : List Part → Option Name → Fact → Mention
value_mention path name f = record { path = path; kind = tag_of name f }

abbrev pub numbered_value : List Part → Option Name → Count → Fact → Numbered
numbered_value path name c f = record { mention = value_mention path name f; before = c }

-- the fact does not count
one_count : (path : List Part) (name : Option Name) (f g : Fact) (c : Count)
    → count_with_mention c (value_mention path name f) ≡ count_with_mention c (value_mention path name g)
one_count path None f g c = refl
one_count path (Some name) f g c = refl

same_count : (path : List Part) (name : Option Name) (f g : Fact) (c : Count) (before after : List Mention)
    → count_after c (before ++ value_mention path name f ∷ after)
    ≡ count_after c (before ++ value_mention path name g ∷ after)
same_count path name f g c before after =
    fold-append count_with_mention c before (value_mention path name f ∷ after)
    ∙ ap (λ (d : Count). count_after d after) (one_count path name f g (count_after c before))
    ∙ sym (fold-append count_with_mention c before (value_mention path name g ∷ after))

-- the numbers of what comes after the mention
abbrev numbers_after : List Part → Option Name → Fact → Count → List Mention → List Numbered
numbers_after path name f d after = numbered_mentions (count_with_mention d (value_mention path name f)) after

numbers_split : (path : List Part) (name : Option Name) (f g : Fact) (c : Count) (before after : List Mention)
    → numbered_mentions c (before ++ value_mention path name g ∷ after)
    ≡ numbered_mentions c before ++ numbered_value path name (count_after c before) g
    ∷ numbers_after path name f (count_after c before) after
numbers_split path name f g c before after =
    numbered_mentions-append c before (value_mention path name g ∷ after)
    ∙ ap (λ (d : Count).
    numbered_mentions c before ++ numbered_value path name (count_after c before) g ∷ numbered_mentions d after)
    (one_count path name g f (count_after c before))

-- ---- in the document

-- One mention has another fact, and nothing else is said at its path or under it.
pub record IsFactSet (path : List Part) (g : Fact) (s s' : Document) : Type 0 where
  pub name : Option Name
  pub fact : Fact
  pub count : Count
  pub before : List Numbered
  pub after : List Numbered
  pub was : numbered_in s ≡ before ++ numbered_value path name count fact ∷ after
  pub is : numbered_in s' ≡ before ++ numbered_value path name count g ∷ after
  pub disjoint_before : AllOf (IsDisjoint path) (map mention_of before)
  pub disjoint_after : AllOf (IsDisjoint path) (map mention_of after)
  pub reading : reading_after start (statements_in s') ≡ reading_after start (statements_in s)

-- lines with another line in the place of one, that reads on alike
pub reading_past : (r : Reading) (pre post : List Line) (l l' : Line)
    → ((q : Reading) → after_line q l ≡ after_line q l')
    → reading_after_lines r (pre ++ l ∷ post) ≡ reading_after_lines r (pre ++ l' ∷ post)
reading_past r [] post l l' same = ap (λ (q : Reading). reading_after_lines q post) (same r)
reading_past r (x ∷ pre) post l l' same = reading_past (after_line r x) pre post l l' same

around : (left before : List Numbered) (x : Numbered) (after right : List Numbered)
    → left ++ ((before ++ x ∷ after) ++ right) ≡ (left ++ before) ++ x ∷ (after ++ right)
around left before x after right =
    ap (λ l. left ++ l) (append_assoc before (x ∷ after) right) ∙ sym (append_assoc left before (x ∷ (after ++ right)))

no_entries : (new : Value) → new.nested ≡ none → entries_mentions 0 new.nested ≡ []
no_entries new e = ap (entries_mentions 0) e

-- the value of a line, where there is no node below it
no_nested : (path : List Part) (new : Value) (left mid now right : List Mention) (h : IsSet path new mid now)
    → children path (node_paths (left ++ (mid ++ right))) ≡ [] → entries_mentions 0 h.entries ≡ []
no_nested path new left mid now right h childless_here =
    let here : List Mention = run path (tag_of h.name h.fact) (entries_mentions 0 h.entries) in
    let all : left ++ (mid ++ right) ≡ (left ++ h.before) ++ (here ++ (h.after ++ right)) =
    ap (λ (l : List Mention). left ++ (l ++ right)) h.was ∙ simp append_assoc refl in
    childless path (tag_of h.name h.fact) h.entries (left ++ h.before) (h.after ++ right)
    (subst (λ (l : List Mention). children path (node_paths l) ≡ []) all childless_here)

lines_fact_set : (s s' : Document) (path : List Part) (new : Value) → Rules (mentions_in s)
    → LinesSet start path new (lines s) (lines s') → new.nested ≡ none
    → children path (node_paths (mentions_in s)) ≡ [] → IsFactSet path (body_fact new.body) s s'
lines_fact_set s s' path new rules h plain childless_here =
    let x = h.content in
    let r : Reading = reading_after_lines start h.pre in
    let c : Count = count_of_lines h.pre in
    let left : List Mention = lines_mentions start h.pre in
    let right : List Mention = lines_mentions r h.post in
    let mid : List Mention = map (below r.body) (keyval_mentions x.name x.old) in
    let mid' : List Mention = map (below r.body) (keyval_mentions x.name x.now) in
    let one : IsLineSet path new left mid mid' right = line_set path new (lines s) (lines s') rules h in
    let i : IsSet path new mid mid' = one.set in
    let f : Fact = i.fact in
    let g : Fact = body_fact new.body in
    let mentioned : mentions_in s ≡ left ++ (mid ++ right) =
    ap (lines_mentions start) h.was ∙ whole_mentions h.pre h.post h.old x.name x.old x.was in
    let nested : entries_mentions 0 i.entries ≡ [] =
    no_nested path new left mid mid' right i
    (subst (λ (l : List Mention). children path (node_paths l) ≡ []) mentioned childless_here) in
    let was : mid ≡ i.before ++ value_mention path i.name f ∷ i.after =
    i.was ∙ ap (λ (l : List Mention). i.before ++ (run path (tag_of i.name f) l ++ i.after)) nested in
    let is : mid' ≡ i.before ++ value_mention path i.name g ∷ i.after =
    i.is ∙ ap (λ (l : List Mention). i.before ++ (run path (tag_of i.name g) l ++ i.after)) (no_entries new plain) in
    let d : Count = count_after c i.before in
    let earlier : List Numbered = numbered_from no_count start (filter_map line_statement h.pre) in
    let prefix : List Numbered = numbered_mentions c i.before in
    let after : List Numbered = numbers_after path i.name f d i.after in
    let later : List Numbered = numbered_from (next_count c mid) r (filter_map line_statement h.post) in
    let counts : next_count c mid' ≡ next_count c mid =
    ap (next_count c) is
    ∙ ap (λ (e : Count). record e { statements = e.statements + 1 }) (same_count path i.name g f c i.before i.after)
    ∙ sym (ap (next_count c) was) in
    let old_statement : statement_of h.old.content ≡ Some (marks.keyval (keyval_mentions x.name x.old)) =
    ap statement_of x.was in
    let new_statement : statement_of h.now.content ≡ Some (marks.keyval (keyval_mentions x.name x.now)) =
    ap statement_of x.is in
    record {
      name = i.name;
      fact = f;
      count = d;
      before = earlier ++ prefix;
      after = after ++ later;
      was = ap (λ (ls : List Line). numbered_from no_count start (filter_map line_statement ls)) h.was
          ∙ numbered_around h.pre h.post h.old (marks.keyval (keyval_mentions x.name x.old)) old_statement
          ∙ ap (λ (ns : List Numbered). earlier ++ (ns ++ later))
          (ap (numbered_mentions c) was ∙ numbers_split path i.name f f c i.before i.after)
          ∙ around earlier prefix (numbered_value path i.name d f) after later;
      is = ap (λ (ls : List Line). numbered_from no_count start (filter_map line_statement ls)) h.is
          ∙ numbered_around h.pre h.post h.now (marks.keyval (keyval_mentions x.name x.now)) new_statement
          ∙ ap (λ (e : Count).
          earlier ++ (numbered_mentions c mid' ++ numbered_from e r (filter_map line_statement h.post))) counts
          ∙ ap (λ (ns : List Numbered). earlier ++ (ns ++ later))
          (ap (numbered_mentions c) is ∙ numbers_split path i.name f g c i.before i.after)
          ∙ around earlier prefix (numbered_value path i.name d g) after later;
      disjoint_before = subst (λ (l : List Mention). AllOf (IsDisjoint path) l)
          (sym (map-append mention_of earlier prefix
          ∙ ap (λ (l : List Mention). l ++ map mention_of prefix)
          (mentions-numbered_from no_count start (filter_map line_statement h.pre)
          ∙ sym (lines_mentions-statements start h.pre))
          ∙ ap (λ (l : List Mention). left ++ l) (mentions-numbered_mentions c i.before)))
          (all_join (IsDisjoint path) left i.before one.disjoint_left i.disjoint_before);
      disjoint_after = subst (λ (l : List Mention). AllOf (IsDisjoint path) l)
          (sym (map-append mention_of after later
          ∙ ap (λ (l : List Mention). l ++ map mention_of later)
          (mentions-numbered_mentions (count_with_mention d (value_mention path i.name f)) i.after)
          ∙ ap (λ (l : List Mention). i.after ++ l)
          (mentions-numbered_from (next_count c mid) r (filter_map line_statement h.post)
          ∙ sym (lines_mentions-statements r h.post))))
          (all_join (IsDisjoint path) i.after right i.disjoint_after one.disjoint_right);
      reading = reading_lines start (lines s') ∙ ap (reading_after_lines start) h.is
          ∙ reading_past start h.pre h.post h.now h.old
          (λ q. reading_of q h.now x.name x.now x.is ∙ sym (reading_of q h.old x.name x.old x.was))
          ∙ sym (ap (reading_after_lines start) h.was) ∙ sym (reading_lines start (lines s));
    }

pub the_to : {A : Type 0} (P : A → Type 0) (o : Option (Changed A)) (c : Changed A) → o ≡ Some c → EachTo P o → P c.to
the_to P o c e h = subst (λ o. EachTo P o) e h

-- `set` changes the fact of the one mention at its path, where neither value has entries.
pub fact_set : (s : Document) (path : List Part) (new : Value) (c : Changed Document) → Rules (mentions_in s)
    → change s (set path new) ≡ Some c → new.nested ≡ none
    → children path (node_paths (mentions_in s)) ≡ [] → IsFactSet path (body_fact new.body) s c.to
fact_set s path new c rules e plain childless_here =
    let lines_changed : LinesSet start path new (lines s) (lines c.to) =
    the_to (λ s'. LinesSet start path new (lines s) (lines s')) (change s (set path new)) c e
    (one_line_set s path new) in
    lines_fact_set s c.to path new rules lines_changed plain childless_here
