-- Any act in a value, seen from the document: what is said at and under the value is replaced, and nothing else is
-- there.
--
-- An act is a change of a value; `D` says what it does to one. `IsDoneAt` says that the mentions of one value at a
-- prefix of the path are replaced and all others are disjoint from that prefix. The proof goes from the inside
-- outwards: at the value itself (`done_here`), deeper in it (`done_deeper`), in entries by induction over them
-- (`done_entries`), in a line (`done_content`) and in the lines of a document (`done_lines`). The hard part is that
-- what is beside the value is disjoint; it follows from the rules, for entries as in `SetLaw` and for lines by
-- `beside_keyval`.
--
-- Theorem: `done_document`: what an act does to a value, it does at one place of the document, and all else is as
-- before.
use Rattle.std.proofs.Common.{◌≡◌, ℕ, ◌+◌, true, List, [], ◌∷◌, ◌++◌, map, refl, sym, ap, subst, ◌∙◌, append_assoc}
use Rattle.std.proofs.Common.{Option, Some, None}
use Rattle.std.specs.List.{AllByRecursion}
use Rattle.std.proofs.lemmas.List.{map-append, append-nil}
use Rattle.keep_types.specs.declared.leaf.Profile.{Profile}
use Rattle.keep_syntax.specs.Tree.{Gap, Name, name_leaves, named_leaves, opening, closing, comma_leaves, Body, Entries}
use Rattle.keep_syntax.specs.Tree.{none, entry, Value, Content, blank, keyval, header, element, Line, Ended, Document}
use Rattle.keep_syntax.specs.Tree.{ended_leaves, text_of}
use Rattle.keep_syntax.specs.Grammar.{AreEntries, IsValue, IsContent, IsLine, IsEnded, IsDocument, Place, place_in}
use Rattle.keep_meaning.specs.Fact.{Fact}
use Rattle.keep_path.specs.Path.{Part, key, index}
use Rattle.keep_meaning.specs.Marks.{MentionKind, value, Mention, below, fact_of, Reading, start}
use Rattle.keep_meaning.specs.Meaning.{key_value, further_value, keys_of, body_fact, valued_mentions, keyed_mentions}
use Rattle.keep_meaning.specs.Meaning.{entry_mentions, entries_mentions, step, keyval_mentions, after_line}
use Rattle.keep_meaning.specs.Meaning.{lines_mentions, reading_after_lines, line_of, lines, mentions_in}
use Rattle.keep_meaning.specs.Nodes.{fact_at, first_of}
use Rattle.keep_edit_spec.specs.Look.{strip}
use Rattle.std.specs.List.{filter_map}
use Rattle.keep_edit_spec.specs.Changed.{within, or_else}
use Rattle.keep_edit_spec.specs.Values.{Act, entry_prefix, entry_back, in_entries, in_value}
use Rattle.keep_edit_spec.specs.Lines.{page_text, in_content, in_line, in_lines, with_page}
use Rattle.keep_edit_spec.specs.Edits.{nested}
use Rattle.keep_edit_spec.proofs.Common.Runs.{AllOf, SomeOf, pairs_split, all_join, Allowed, Rules, IsDisjoint}
use Rattle.keep_edit_spec.proofs.Common.Runs.{strip-sound, some_left, rules_replaced, kinds_at-below, fact_under}
use Rattle.keep_edit_spec.proofs.Common.Runs.{fact_elsewhere, exclusive}
use Rattle.keep_edit_spec.proofs.Common.SetLaw.{IsAloneAt, Held, by_key, by_index, map_twice, map_none, disjoint_below}
use Rattle.keep_edit_spec.proofs.Common.SetLaw.{EachTo, to_within, to_or_else, all_longer, keyed_split, keyed_disjoint}
use Rattle.keep_edit_spec.proofs.Common.SetLaw.{tag_of, tag_stated, tag_alone, disjoint_from_held, disjoint_from_entry}
use Rattle.keep_edit_spec.proofs.Common.SetLaw.{held_entry, held_further, rules_below, rules_named, closed_entries}
use Rattle.keep_edit_spec.proofs.Common.SetLaw.{clash_before, clash_after}
use Rattle.keep_edit_spec.proofs.Common.LineLaws.{EndsInKey, lines_closed, never_root}
use Rattle.keep_edit_spec.proofs.Common.SetDocument.{page_lines, whole_mentions, keyval_alone, from_closed, ends_keys}
use Rattle.keep_edit_spec.proofs.Common.SetDocument.{longer, under_below, each_to, later}

-- what a value says of itself, by the mention that tells of it, and what is said in it
abbrev pub tagged : (Fact → MentionKind) → Value → List Mention
tagged tag v = valued_mentions (tag (body_fact v.body)) (entries_mentions 0 v.nested)

-- One value was at this prefix of the path, and another is there now; D tells what was done there, by the rest of the
-- path. All else is as it was, and is disjoint from the prefix.
pub record IsDoneAt (D : List Part → Value → Value → Type 0) (prefix path : List Part) (from to : List Mention) : Type
    0 where
  pub rest : List Part
  pub whole : path ≡ prefix ++ rest
  pub tag : Fact → MentionKind
  pub stated : (f : Fact) → fact_of (tag f) ≡ Some f
  pub alone : (f : Fact) → exclusive (tag f) ≡ true
  pub old : Value
  pub now : Value
  pub done : D rest old now
  pub before : List Mention
  pub after : List Mention
  pub was : from ≡ before ++ (map (below prefix) (tagged tag old) ++ after)
  pub is : to ≡ before ++ (map (below prefix) (tagged tag now) ++ after)
  pub disjoint_before : AllOf (IsDisjoint prefix) before
  pub disjoint_after : AllOf (IsDisjoint prefix) after

pub record IsDone (D : List Part → Value → Value → Type 0) (path : List Part) (from to : List Mention) : Type 0 where
  pub prefix : List Part
  pub at : IsDoneAt D prefix path from to

pub record IsDoneIn (D : List Part → Value → Value → Type 0) (n : ℕ) (path : List Part) (from to : List Mention) : Type
    0 where
  pub prefix : List Part
  pub at : IsDoneAt D prefix path from to
  pub held : Held n prefix from

map_parts : (s p : List Part) (before mid after : List Mention)
    → map (below s) (before ++ (map (below p) mid ++ after)) ≡ map (below s) before
    ++ (map (below (s ++ p)) mid ++ map (below s) after)
map_parts s p before mid after =
    map-append (below s) before (map (below p) mid ++ after)
    ∙ ap (λ l. map (below s) before ++ l)
    (map-append (below s) (map (below p) mid) after ∙ ap (λ l. l ++ map (below s) after) (map_twice s p mid))

around : (left before mid after right : List Mention)
    → left ++ ((before ++ (mid ++ after)) ++ right) ≡ (left ++ before) ++ (mid ++ (after ++ right))
around left before mid after right = simp append_assoc refl

done_below : (D : List Part → Value → Value → Type 0) (s prefix path : List Part) (from to : List Mention)
    → IsDoneAt D prefix path from to → IsDoneAt D (s ++ prefix) (s ++ path) (map (below s) from) (map (below s) to)
done_below D s prefix path from to h = record {
  rest = h.rest;
  whole = ap (λ q. s ++ q) h.whole ∙ sym (append_assoc s prefix h.rest);
  tag = h.tag;
  stated = h.stated;
  alone = h.alone;
  old = h.old;
  now = h.now;
  done = h.done;
  before = map (below s) h.before;
  after = map (below s) h.after;
  was = ap (map (below s)) h.was ∙ map_parts s prefix h.before (tagged h.tag h.old) h.after;
  is = ap (map (below s)) h.is ∙ map_parts s prefix h.before (tagged h.tag h.now) h.after;
  disjoint_before = disjoint_below s prefix h.before h.disjoint_before;
  disjoint_after = disjoint_below s prefix h.after h.disjoint_after;
}

done_beside : (D : List Part → Value → Value → Type 0) (prefix path : List Part) (from to left right : List Mention)
    → AllOf (IsDisjoint prefix) left → AllOf (IsDisjoint prefix) right
    → IsDoneAt D prefix path from to → IsDoneAt D prefix path (left ++ (from ++ right)) (left ++ (to ++ right))
done_beside D prefix path from to left right hl hr h = record {
  rest = h.rest;
  whole = h.whole;
  tag = h.tag;
  stated = h.stated;
  alone = h.alone;
  old = h.old;
  now = h.now;
  done = h.done;
  before = left ++ h.before;
  after = h.after ++ right;
  was = ap (λ l. left ++ (l ++ right)) h.was
      ∙ around left h.before (map (below prefix) (tagged h.tag h.old)) h.after right;
  is = ap (λ l. left ++ (l ++ right)) h.is
      ∙ around left h.before (map (below prefix) (tagged h.tag h.now)) h.after right;
  disjoint_before = all_join (IsDisjoint prefix) left h.before hl h.disjoint_before;
  disjoint_after = all_join (IsDisjoint prefix) h.after right h.disjoint_after hr;
}

done_named : (D : List Part → Value → Value → Type 0) (n : ℕ) (name : Option Name) (f f' : Fact)
    (nested nested' : List Mention) (prefix more : List Part)
    → IsDoneAt D prefix more (valued_mentions (tag_of name f) nested) (valued_mentions (tag_of name f') nested')
    → IsDoneAt D (step n name ++ prefix) (step n name ++ more) (entry_mentions n name f nested)
    (entry_mentions n name f' nested')
done_named D n None f f' nested nested' prefix more h = done_below D (index n ∷ []) prefix more _ _ h
done_named D n (Some name) f f' nested nested' prefix more h =
    let p : List Part = map key (keys_of name.key) in
    let dots : List Mention = keyed_mentions (keys_of name.key) [] in
    let split : (g : Fact) (ms : List Mention)
    → dots ++ (map (below p) (valued_mentions (value g) ms) ++ [])
    ≡ keyed_mentions (keys_of name.key) (valued_mentions (value g) ms) =
    λ g ms. ap (λ l. dots ++ l) (append-nil (map (below p) (valued_mentions (value g) ms)))
    ∙ sym (keyed_split (keys_of name.key) (valued_mentions (value g) ms)) in
    let one =
    done_beside D (p ++ prefix) (p ++ more) (map (below p) (valued_mentions (value f) nested))
    (map (below p) (valued_mentions (value f') nested')) dots []
    (all_longer p prefix dots (keyed_disjoint _ _)) tt
    (done_below D p prefix more (valued_mentions (value f) nested) (valued_mentions (value f') nested') h) in
    subst (λ (l : List Mention).
    IsDoneAt D (p ++ prefix) (p ++ more) l (keyed_mentions (keys_of name.key) (valued_mentions (value f') nested')))
    (split f nested)
    (subst (λ (l : List Mention).
    IsDoneAt D (p ++ prefix) (p ++ more) (dots ++ (map (below p) (valued_mentions (value f) nested) ++ [])) l)
    (split f' nested') one)

-- at the value itself
done_here : (D : List Part → Value → Value → Type 0) (tag : Fact → MentionKind)
    → ((f : Fact) → fact_of (tag f) ≡ Some f) → ((f : Fact) → exclusive (tag f) ≡ true)
    → (more : List Part) (old now : Value) → D more old now → IsDoneAt D [] more (tagged tag old) (tagged tag now)
done_here D tag stated alone more old now h = record {
  rest = more;
  whole = refl;
  tag = tag;
  stated = stated;
  alone = alone;
  old = old;
  now = now;
  done = h;
  before = [];
  after = [];
  was = sym (map_none (tagged tag old)) ∙ sym (append-nil (map (below []) (tagged tag old)));
  is = sym (map_none (tagged tag now)) ∙ sym (append-nil (map (below []) (tagged tag now)));
  disjoint_before = tt;
  disjoint_after = tt;
}

held_long : (n : ℕ) (prefix : List Part) (ms : List Mention) (mention_kind : MentionKind) → Held n prefix ms
    → IsDisjoint prefix (record { path = []; kind = mention_kind })
held_long n prefix ms mention_kind (by_key j js tail e alone) =
    subst (λ (q : List Part). strip q [] ≡ None) (sym e) refl
held_long n prefix ms mention_kind (by_index k tail h e) = subst (λ (q : List Part). strip q [] ≡ None) (sym e) refl

-- deeper in the value
done_deeper : (D : List Part → Value → Value → Type 0) (mention_kind : MentionKind) (path : List Part)
    (from to : List Mention) → IsDoneIn D 0 path from to
    → IsDone D path (valued_mentions mention_kind from) (valued_mentions mention_kind to)
done_deeper D mention_kind path from to h = record {
  prefix = h.prefix;
  at =
      subst (λ (l : List Mention).
      IsDoneAt D h.prefix path (valued_mentions mention_kind from) (valued_mentions mention_kind l)) (append-nil to)
      (subst (λ (l : List Mention).
      IsDoneAt D h.prefix path (valued_mentions mention_kind l) (valued_mentions mention_kind (to ++ [])))
      (append-nil from)
      (done_beside D h.prefix path from to (record { path = []; kind = mention_kind } ∷ []) []
      (held_long 0 h.prefix from mention_kind h.held, tt) tt h.at));
}

-- what an act does with valid values
abbrev pub Does : Profile → (List Part → Value → Value → Type 0) → Act → Type 0
Does profile D act = (more : List Part) (v : Value) → IsValue profile v → EachTo (D more v) (act more v)

abbrev pub ValueDone : (List Part → Value → Value → Type 0) → (Fact → MentionKind) → List Part → Body → Entries → Value
    → Type 0
ValueDone D tag more body nested v = IsDone D more (tagged tag (record { body = body; nested = nested })) (tagged tag v)

done_value-by : (profile : Profile) (D : List Part → Value → Value → Type 0) (act : Act) → Does profile D act
    → (tag : Fact → MentionKind) → ((f : Fact) → fact_of (tag f) ≡ Some f) → ((f : Fact) → exclusive (tag f) ≡ true)
    → (more : List Part) (body : Body) (nested : Entries) (left right : List ℕ)
    → IsValue profile (record { body = body; nested = nested })
    → EachTo (λ es. IsDoneIn D 0 more (entries_mentions 0 nested) (entries_mentions 0 es))
    (in_entries act more 0 nested)
    → EachTo (ValueDone D tag more body nested)
    (or_else (within (λ es. record { body = body; nested = es }) left right (in_entries act more 0 nested))
    (act more (record { body = body; nested = nested })))
done_value-by profile D act does tag stated alone more body nested left right valid ih =
    to_or_else (ValueDone D tag more body nested) _ _
    (to_within (λ es. IsDoneIn D 0 more (entries_mentions 0 nested) (entries_mentions 0 es))
    (ValueDone D tag more body nested) (λ es. record { body = body; nested = es }) left right
    (in_entries act more 0 nested)
    (λ es h. done_deeper D (tag (body_fact body)) more (entries_mentions 0 nested) (entries_mentions 0 es) h) ih)
    (each_to (D more (record { body = body; nested = nested })) (ValueDone D tag more body nested)
    (act more (record { body = body; nested = nested }))
    (λ v h. record {
      prefix = [];
      at = done_here D tag stated alone more (record { body = body; nested = nested }) v h;
    }) (does more (record { body = body; nested = nested }) valid))

done_entries-by : (profile : Profile) (D : List Part → Value → Value → Type 0) (act : Act) → Does profile D act
    → (path : List Part) (n : ℕ) (name : Option Name) (body : Body) (nested : Entries) (after : Gap)
    (comma : Option Gap) (rest : Entries)
    → IsValue profile (record { body = body; nested = nested })
    → Rules (entries_mentions n (entry name body nested after comma rest))
    → EachTo (λ es. IsDoneIn D (n + 1) path (entries_mentions (n + 1) rest) (entries_mentions (n + 1) es))
    (in_entries act path (n + 1) rest)
    → ((more : List Part)
    → EachTo (λ es. IsDoneIn D 0 more (entries_mentions 0 nested) (entries_mentions 0 es))
    (in_entries act more 0 nested))
    → (o : Option (List Part)) → strip (step n name) path ≡ o
    → EachTo (λ es.
    IsDoneIn D n path (entries_mentions n (entry name body nested after comma rest)) (entries_mentions n es)) (elim o [
      | None ↦
          within (entry name body nested after comma)
          (entry_prefix name body nested ++ (text_of after ++ text_of (comma_leaves comma))) []
          (in_entries act path (n + 1) rest)
      | Some more ↦
          within (λ v. entry name v.body v.nested after comma rest) (text_of (named_leaves name))
          (entry_back after comma rest)
          (or_else (within (λ es. record { body = body; nested = es }) (text_of (opening body)) (text_of (closing body))
          (in_entries act more 0 nested))
          (act more (record { body = body; nested = nested })))
    ])
done_entries-by profile D act does path n name body nested after comma rest valid rules further deeper None e =
    let first : List Mention = entry_mentions n name (body_fact body) (entries_mentions 0 nested) in
    to_within (λ es. IsDoneIn D (n + 1) path (entries_mentions (n + 1) rest) (entries_mentions (n + 1) es))
    (λ es. IsDoneIn D n path (entries_mentions n (entry name body nested after comma rest)) (entries_mentions n es))
    (entry name body nested after comma) _ [] (in_entries act path (n + 1) rest)
    (λ es h. record {
      prefix = h.prefix;
      at =
          subst (λ (l : List Mention). IsDoneAt D h.prefix path (first ++ entries_mentions (n + 1) rest) (first ++ l))
          (append-nil (entries_mentions (n + 1) es))
          (subst (λ (l : List Mention).
          IsDoneAt D h.prefix path (first ++ l) (first ++ (entries_mentions (n + 1) es ++ [])))
          (append-nil (entries_mentions (n + 1) rest))
          (done_beside D h.prefix path (entries_mentions (n + 1) rest) (entries_mentions (n + 1) es) first []
          (disjoint_from_held n h.prefix name (body_fact body) (entries_mentions 0 nested)
          (entries_mentions (n + 1) rest) (closed_entries 0 nested) h.held rules) tt h.at));
      held = held_further n h.prefix first (entries_mentions (n + 1) rest) h.held;
    }) further
done_entries-by profile D act does path n name body nested after comma rest valid rules further deeper (Some more) e =
    let first : List Mention = entry_mentions n name (body_fact body) (entries_mentions 0 nested) in
    let whole : path ≡ step n name ++ more = strip-sound (step n name) path more e in
    to_within (ValueDone D (tag_of name) more body nested)
    (λ es. IsDoneIn D n path (entries_mentions n (entry name body nested after comma rest)) (entries_mentions n es))
    (λ v. entry name v.body v.nested after comma rest) _ _ _
    (λ v h. subst (λ (q : List Part).
    IsDoneIn D n q (entries_mentions n (entry name body nested after comma rest))
    (entries_mentions n (entry name v.body v.nested after comma rest))) (sym whole) (record {
      prefix = step n name ++ h.prefix;
      at = done_beside D (step n name ++ h.prefix) (step n name ++ more) first
          (entry_mentions n name (body_fact v.body) (entries_mentions 0 v.nested)) [] (entries_mentions (n + 1) rest) tt
          (disjoint_from_entry n name (body_fact body) (entries_mentions 0 nested) rest h.prefix rules)
          (done_named D n name (body_fact body) (body_fact v.body) (entries_mentions 0 nested)
          (entries_mentions 0 v.nested) h.prefix more h.at);
      held = held_entry n name (body_fact body) (entries_mentions 0 nested) (entries_mentions (n + 1) rest) h.prefix;
    }))
    (done_value-by profile D act does (tag_of name) (tag_stated name) (tag_alone name) more body nested
    (text_of (opening body)) (text_of (closing body)) valid (deeper more))

pub done_entries : (profile : Profile) (D : List Part → Value → Value → Type 0) (act : Act) → Does profile D act
    → (place : Place) (path : List Part) (n : ℕ) (es : Entries) → AreEntries profile place es
    → Rules (entries_mentions n es)
    → EachTo (λ es'. IsDoneIn D n path (entries_mentions n es) (entries_mentions n es')) (in_entries act path n es)
done_entries profile D act does place path n none valid rules = tt
done_entries profile D act does place path n (entry name body nested after comma rest) (hn, hb, hi, ha, hc, hr) rules =
    let first : List Mention = entry_mentions n name (body_fact body) (entries_mentions 0 nested) in
    let split = pairs_split Allowed first (entries_mentions (n + 1) rest) rules in
    done_entries-by profile D act does path n name body nested after comma rest (record { body = hb; nested = hi })
    rules
    (done_entries profile D act does place path (n + 1) rest hr split.right)
    (λ more.
    done_entries profile D act does (place_in body) more 0 nested hi
    (rules_named n name (body_fact body) (entries_mentions 0 nested) split.left))
    (strip (step n name) path) refl

-- in the value of a keyval or an item
pub done_value : (profile : Profile) (D : List Part → Value → Value → Type 0) (act : Act) → Does profile D act
    → (name : Option Name) (more : List Part) (v : Value) → IsValue profile v → Rules (entries_mentions 0 v.nested)
    → EachTo (ValueDone D (tag_of name) more v.body v.nested) (in_value act more v)
done_value profile D act does name more v valid rules =
    done_value-by profile D act does (tag_of name) (tag_stated name) (tag_alone name) more v.body v.nested
    (text_of (opening v.body)) (text_of (closing v.body)) valid
    (done_entries profile D act does (place_in v.body) more 0 v.nested valid.nested rules)

-- ---- in a line

pub record ContentDone (D : List Part → Value → Value → Type 0) (body path : List Part) (from to : Content) : Type
    0 where
  pub name : Name
  pub old : Value
  pub now : Value
  pub more : List Part
  pub was : from ≡ keyval name old
  pub is : to ≡ keyval name now
  pub place : path ≡ (body ++ step 0 (Some name)) ++ more
  pub changed : Rules (entries_mentions 0 old.nested) → ValueDone D (tag_of (Some name)) more old.body old.nested now

done_content-by : (profile : Profile) (D : List Part → Value → Value → Type 0) (act : Act) → Does profile D act
    → (body path : List Part) (name : Name) (v : Value) → IsValue profile v → (o : Option (List Part))
    → strip (body ++ step 0 (Some name)) path ≡ o
    → EachTo (ContentDone D body path (keyval name v)) (elim o [
      | None ↦ None
      | Some more ↦ within (keyval name) (text_of (name_leaves name)) [] (in_value act more v)
    ])
done_content-by profile D act does body path name v valid None e = tt
done_content-by profile D act does body path name v valid (Some more) e =
    to_within (λ now. Rules (entries_mentions 0 v.nested) → ValueDone D (tag_of (Some name)) more v.body v.nested now)
    (ContentDone D body path (keyval name v))
    (keyval name) (text_of (name_leaves name)) [] (in_value act more v)
    (λ now h.
    record {
      name = name;
      old = v;
      now = now;
      more = more;
      was = refl;
      is = refl;
      place = strip-sound (body ++ step 0 (Some name)) path more e;
      changed = h;
    })
    (later (Rules (entries_mentions 0 v.nested)) (ValueDone D (tag_of (Some name)) more v.body v.nested)
    (in_value act more v) (λ rules. done_value profile D act does (Some name) more v valid rules))

done_content : (profile : Profile) (D : List Part → Value → Value → Type 0) (act : Act) → Does profile D act
    → (body path : List Part) (c : Content) → IsContent profile c
    → EachTo (ContentDone D body path c) (in_content act body path c)
done_content profile D act does body path blank valid = tt
done_content profile D act does body path (keyval name v) valid =
    done_content-by profile D act does body path name v valid.1 (strip (body ++ step 0 (Some name)) path) refl
done_content profile D act does body path (header before k after) valid = tt
done_content profile D act does body path (element before k after) valid = tt

-- one line is changed
pub record LinesDone (D : List Part → Value → Value → Type 0) (r : Reading) (path : List Part)
    (from to : List Line) : Type 0 where
  pub pre : List Line
  pub post : List Line
  pub old : Line
  pub now : Line
  pub was : from ≡ pre ++ old ∷ post
  pub is : to ≡ pre ++ now ∷ post
  pub content : ContentDone D (reading_after_lines r pre).body path old.content now.content

pub done_lines : (profile : Profile) (D : List Part → Value → Value → Type 0) (act : Act) → Does profile D act
    → (path : List Part) (r : Reading) (es : List Ended) (last : Line) → AllByRecursion (IsEnded profile) es
    → IsLine profile last
    → EachTo (λ p. LinesDone D r path (map line_of es ++ last ∷ []) (page_lines p))
    (in_lines (in_line act path) r es last)
done_lines profile D act does path r [] last he hl =
    to_within (λ l. ContentDone D r.body path last.content l.content)
    (λ p. LinesDone D r path (last ∷ []) (page_lines p)) (λ l. record { ended = []; last = l }) [] []
    (in_line act path r last)
    (λ l h. record { pre = []; post = []; old = last; now = l; was = refl; is = refl; content = h })
    (to_within (ContentDone D r.body path last.content) (λ l. ContentDone D r.body path last.content l.content)
    (λ c. record last { content = c }) _ _ (in_content act r.body path last.content)
    (λ c h. h) (done_content profile D act does r.body path last.content hl.content))
done_lines profile D act does path r (e ∷ es) last he hl =
    to_or_else (λ p. LinesDone D r path (map line_of (e ∷ es) ++ last ∷ []) (page_lines p)) _ _
    (to_within (λ l. ContentDone D r.body path e.line.content l.content)
    (λ p. LinesDone D r path (map line_of (e ∷ es) ++ last ∷ []) (page_lines p))
    (λ l. record { ended = record { line = l; newline = e.newline } ∷ es; last = last }) []
    (e.newline.text ++ page_text (record { ended = es; last = last })) (in_line act path r e.line)
    (λ l h. record {
      pre = [];
      post = map line_of es ++ last ∷ [];
      old = e.line;
      now = l;
      was = refl;
      is = refl;
      content = h;
    })
    (to_within (ContentDone D r.body path e.line.content) (λ l. ContentDone D r.body path e.line.content l.content)
    (λ c. record e.line { content = c }) _ _ (in_content act r.body path e.line.content)
    (λ c h. h) (done_content profile D act does r.body path e.line.content he.0.line.content)))
    (to_within (λ p. LinesDone D (after_line r e.line) path (map line_of es ++ last ∷ []) (page_lines p))
    (λ p. LinesDone D r path (map line_of (e ∷ es) ++ last ∷ []) (page_lines p))
    (λ b. record { ended = e ∷ b.ended; last = b.last }) (text_of (ended_leaves e)) []
    (in_lines (in_line act path) (after_line r e.line) es last)
    (λ p h. record {
      pre = e.line ∷ h.pre;
      post = h.post;
      old = h.old;
      now = h.now;
      was = ap (λ l. e.line ∷ l) h.was;
      is = ap (λ l. e.line ∷ l) h.is;
      content = h.content;
    })
    (done_lines profile D act does path (after_line r e.line) es last he.1 hl))

-- what is beside a keyval's line is disjoint from its path
pub record IsBeside (p : List Part) (left mid right : List Mention) : Type 0 where
  pub before : AllOf (IsDisjoint p) left
  pub after : AllOf (IsDisjoint p) right
  pub rules : Rules mid

pub beside_keyval : (pre post : List Line) (name : Name) (v : Value)
    → (let r : Reading = reading_after_lines start pre in
    Rules (lines_mentions start pre ++ (map (below r.body) (keyval_mentions name v) ++ lines_mentions r post))
    → IsBeside (r.body ++ step 0 (Some name)) (lines_mentions start pre) (map (below r.body) (keyval_mentions name v))
    (lines_mentions r post))
beside_keyval pre post name v rules =
    let r : Reading = reading_after_lines start pre in
    let p : List Part = r.body ++ step 0 (Some name) in
    let left : List Mention = lines_mentions start pre in
    let right : List Mention = lines_mentions r post in
    let mid : List Mention = map (below r.body) (keyval_mentions name v) in
    let outer = pairs_split Allowed left (mid ++ right) rules in
    let inner = pairs_split Allowed mid right outer.right in
    let ends : EndsInKey p = ends_keys r.body (key_value name.key.first) (map further_value name.key.more) in
    let alone : SomeOf (IsAloneAt p) mid = keyval_alone r.body name v in
    record {
      before = from_closed p [] left (lines_closed p start pre ends) (λ v. never_root p ends v)
          (λ s. clash_before p left (mid ++ right) s (some_left (IsAloneAt p) mid right alone) rules);
      after = from_closed p r.body right (lines_closed p r post ends) (λ v. longer r.body _ _ v)
          (λ s. clash_after p mid right alone s outer.right);
      rules = inner.left;
    }

pub mentions_done : (D : List Part → Value → Value → Type 0) (path : List Part) (from to : List Line)
    → Rules (lines_mentions start from) → LinesDone D start path from to
    → IsDone D path (lines_mentions start from) (lines_mentions start to)
mentions_done D path from to rules h =
    let c = h.content in
    let r : Reading = reading_after_lines start h.pre in
    let p : List Part = r.body ++ step 0 (Some c.name) in
    let left : List Mention = lines_mentions start h.pre in
    let right : List Mention = lines_mentions r h.post in
    let mid : List Mention = map (below r.body) (keyval_mentions c.name c.old) in
    let mid' : List Mention = map (below r.body) (keyval_mentions c.name c.now) in
    let old_mentioned : lines_mentions start from ≡ left ++ (mid ++ right) =
    ap (lines_mentions start) h.was ∙ whole_mentions h.pre h.post h.old c.name c.old c.was in
    let new_mentions : lines_mentions start to ≡ left ++ (mid' ++ right) =
    ap (lines_mentions start) h.is ∙ whole_mentions h.pre h.post h.now c.name c.now c.is in
    let b = beside_keyval h.pre h.post c.name c.old (subst Rules old_mentioned rules) in
    let nested_rules : Rules (entries_mentions 0 c.old.nested) =
    rules_named 0 (Some c.name) (body_fact c.old.body) (entries_mentions 0 c.old.nested)
    (rules_below r.body (keyval_mentions c.name c.old) b.rules) in
    let d = c.changed nested_rules in
    let prefix : List Part = p ++ d.prefix in
    let one : IsDoneAt D (step 0 (Some c.name) ++ d.prefix) (step 0 (Some c.name) ++ c.more)
    (keyval_mentions c.name c.old) (keyval_mentions c.name c.now) =
    done_named D 0 (Some c.name) (body_fact c.old.body) (body_fact c.now.body) (entries_mentions 0 c.old.nested)
    (entries_mentions 0 c.now.nested) d.prefix c.more d.at in
    let two : IsDoneAt D prefix (p ++ c.more) mid mid' =
    subst (λ (q : List Part). IsDoneAt D prefix q mid mid') (sym (append_assoc r.body (step 0 (Some c.name)) c.more))
    (subst (λ (q : List Part). IsDoneAt D q (r.body ++ (step 0 (Some c.name) ++ c.more)) mid mid')
    (sym (append_assoc r.body (step 0 (Some c.name)) d.prefix))
    (done_below D r.body (step 0 (Some c.name) ++ d.prefix) (step 0 (Some c.name) ++ c.more)
    (keyval_mentions c.name c.old) (keyval_mentions c.name c.now) one)) in
    let three : IsDoneAt D prefix (p ++ c.more) (left ++ (mid ++ right)) (left ++ (mid' ++ right)) =
    done_beside D prefix (p ++ c.more) mid mid' left right (all_longer p d.prefix left b.before)
    (all_longer p d.prefix right b.after) two in
    record {
      prefix = prefix;
      at = subst (λ (q : List Part). IsDoneAt D prefix q (lines_mentions start from) (lines_mentions start to))
          (sym c.place)
          (subst (λ (l : List Mention). IsDoneAt D prefix (p ++ c.more) l (lines_mentions start to)) (sym old_mentioned)
          (subst (λ (l : List Mention). IsDoneAt D prefix (p ++ c.more) (left ++ (mid ++ right)) l) (sym new_mentions)
          three));
    }

-- Whatever an act does with a value, it does there, and the document says the same elsewhere.
pub done_document : (profile : Profile) (D : List Part → Value → Value → Type 0) (act : Act) → Does profile D act
    → (s : Document) (path : List Part) → IsDocument profile s → Rules (mentions_in s)
    → EachTo (λ s'. IsDone D path (mentions_in s) (mentions_in s')) (nested act path s)
done_document profile D act does s path valid rules =
    to_within (λ p. LinesDone D start path (lines s) (page_lines p))
    (λ s'. IsDone D path (mentions_in s) (mentions_in s')) (with_page s) _ []
    (in_lines (in_line act path) start s.ended s.last)
    (λ p h. mentions_done D path (lines s) (page_lines p) rules h)
    (done_lines profile D act does path start s.ended s.last valid.ended valid.last)

-- ---- its rules and its tree

-- the rules hold of the value that was there
pub rules_there : (D : List Part → Value → Value → Type 0) (prefix path : List Part) (from to : List Mention)
    → (h : IsDoneAt D prefix path from to) → Rules from → Rules (tagged h.tag h.old)
rules_there D prefix path from to h rules =
    let outer =
    pairs_split Allowed h.before (map (below prefix) (tagged h.tag h.old) ++ h.after) (subst Rules h.was rules) in
    rules_below prefix (tagged h.tag h.old)
    (pairs_split Allowed (map (below prefix) (tagged h.tag h.old)) h.after outer.right).left

-- the rules hold, if they do of the new value
pub rules_done : (D : List Part → Value → Value → Type 0) (prefix path : List Part) (from to : List Mention)
    → (h : IsDoneAt D prefix path from to) → Rules from → Rules (map (below prefix) (tagged h.tag h.now)) → Rules to
rules_done D prefix path from to h rules new =
    subst Rules (sym h.is)
    (rules_replaced prefix h.before (map (below prefix) (tagged h.tag h.old)) (map (below prefix) (tagged h.tag h.now))
    h.after (subst Rules h.was rules) h.disjoint_before h.disjoint_after
    (under_below prefix (tagged h.tag h.now)) new)

pub elsewhere_done : (D : List Part → Value → Value → Type 0) (prefix path : List Part) (from to : List Mention)
    → (h : IsDoneAt D prefix path from to) → (q : List Part) → strip prefix q ≡ None → fact_at q to ≡ fact_at q from
elsewhere_done D prefix path from to h q e =
    ap (fact_at q) h.is
    ∙ fact_elsewhere prefix q h.before (map (below prefix) (tagged h.tag h.old))
    (map (below prefix) (tagged h.tag h.now)) h.after (under_below prefix (tagged h.tag h.old))
    (under_below prefix (tagged h.tag h.now)) e
    ∙ ap (fact_at q) (sym h.was)

under_run : (prefix q r : List Part) (before inner after : List Mention) → AllOf (IsDisjoint prefix) before
    → AllOf (IsDisjoint prefix) after → strip prefix q ≡ Some r
    → fact_at q (before ++ (map (below prefix) inner ++ after)) ≡ fact_at r inner
under_run prefix q r before inner after hb hh e =
    fact_under prefix q r before (map (below prefix) inner) after hb hh e
    ∙ ap (λ (x : List Part). fact_at x (map (below prefix) inner)) (strip-sound prefix q r e)
    ∙ ap (λ l. first_of (filter_map fact_of l)) (kinds_at-below prefix r inner)

pub there_now : (D : List Part → Value → Value → Type 0) (prefix path : List Part) (from to : List Mention)
    → (h : IsDoneAt D prefix path from to)
    → (q r : List Part) → strip prefix q ≡ Some r → fact_at q to ≡ fact_at r (tagged h.tag h.now)
there_now D prefix path from to h q r e =
    ap (fact_at q) h.is
    ∙ under_run prefix q r h.before (tagged h.tag h.now) h.after h.disjoint_before h.disjoint_after e

pub there_before : (D : List Part → Value → Value → Type 0) (prefix path : List Part) (from to : List Mention)
    → (h : IsDoneAt D prefix path from to)
    → (q r : List Part) → strip prefix q ≡ Some r → fact_at q from ≡ fact_at r (tagged h.tag h.old)
there_before D prefix path from to h q r e =
    ap (fact_at q) h.was
    ∙ under_run prefix q r h.before (tagged h.tag h.old) h.after h.disjoint_before h.disjoint_after e
