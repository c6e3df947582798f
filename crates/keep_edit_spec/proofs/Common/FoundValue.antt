-- What an act changes is one of the values in the list of all: which one it is, by how many come before it, and where
-- it is.
--
-- `nested` looks for the value by recursion over lines and entries, so the proof follows it: `found_lines` goes through
-- the lines, `found_entries` through the entries of brackets. What is known of the found value is the record
-- `IsFoundIn`. Each step outwards has a lemma: more text round it (`found_framed`), a longer path (`found_beyond`), and
-- other mentions and values before or after it (`found_after`, `found_before`). The hard field is `disjoint`: nothing
-- else is mentioned at the value's path or under it. It comes from the rules, since a value is the only thing that its
-- path may name.
--
-- Theorem: `found_nested`: the change is made at one value, whose number and place are known.
use Rattle.std.proofs.Common.{◌≡◌, ℕ, suc, ◌+◌, ◌≤◌, true, false, List, [], ◌∷◌, ◌++◌, length, map, refl, sym, ap}
use Rattle.std.proofs.Common.{subst, ◌∙◌, append_assoc, length-append, arith, Option, Some, None, inl, inr}
use Rattle.std.specs.Prelude.{⊤}
use Rattle.std.specs.List.{AllByRecursion}
use Rattle.std.proofs.lemmas.List.{map-append, append-nil}
use Rattle.keep_types.specs.declared.leaf.Profile.{Profile}
use Rattle.keep_types.specs.declared.syntax.Start.{Start}
use Rattle.keep_types.specs.declared.syntax.ValueInfo.{ValueInfo}
use Rattle.keep_syntax.specs.Tree.{Gap, Name, Body, Entries, none, entry, Value, Content, blank, keyval, header}
use Rattle.keep_syntax.specs.Tree.{element, Line, Ended, Document, name_leaves, named_leaves, opening, closing}
use Rattle.keep_syntax.specs.Tree.{comma_leaves, comment_leaves, ended_leaves, bom_leaves, text_of, value_text}
use Rattle.keep_syntax.specs.Grammar.{Place, place_in, AreEntries, IsValue, IsContent, IsLine, IsEnded, IsDocument}
use Rattle.keep_syntax.specs.Numbered as syntax
use Rattle.keep_syntax.specs.Numbered.{value_start, nested_start, comma_start, comma_place, key_count, name_count, info}
use Rattle.keep_syntax.specs.Numbered.{nested_of, rest_of, entries_values, line_start, content_values, line_values}
use Rattle.keep_syntax.specs.Numbered.{over_lines, next_line, first_line}
use Rattle.keep_meaning.specs.Fact.{Fact}
use Rattle.keep_path.specs.Path.{Part, key, index}
use Rattle.keep_meaning.specs.Marks.{MentionKind, dotted, value, item, Mention, below, fact_of, Reading}
use Rattle.keep_meaning.specs.Marks.{statement_mentions, start}
use Rattle.keep_meaning.specs.Meaning.{key_value, further_value, keys_of, body_fact, valued_mentions, keyed_mentions}
use Rattle.keep_meaning.specs.Meaning.{entry_mentions, entries_mentions, step, keyval_mentions, statement_of}
use Rattle.keep_meaning.specs.Meaning.{line_mentions, after_line, lines_mentions, reading_after_lines, line_of}
use Rattle.keep_meaning.specs.Meaning.{mentions_in}
use Rattle.keep_meaning.specs.Counts.{is_value, one_if}
use Rattle.keep_meaning.proofs.Shared.{valued, valued-append, valued-below, valued-keyed, valued-content}
use Rattle.keep_meaning.proofs.Shared.{valued-entries, length-entries_values}
use Rattle.keep_edit_spec.specs.Look.{strip}
use Rattle.keep_edit_spec.specs.Changed.{Changed, framed_change, within, or_else}
use Rattle.keep_edit_spec.specs.Values.{Act, entries_text, entry_prefix, entry_back, in_entries, in_value}
use Rattle.keep_edit_spec.specs.Lines.{page_text, in_content, in_line, in_lines, with_page}
use Rattle.keep_edit_spec.specs.Edits.{nested}
use Rattle.keep_edit_spec.proofs.Common.Runs.{AllOf, SomeOf, all_right, all_join, all_map, meet, some_right}
use Rattle.keep_edit_spec.proofs.Common.Runs.{pairs_split, Allowed, Rules, exclusive, IsDisjoint, strip-sound}
use Rattle.keep_edit_spec.proofs.Common.SetLaw.{IsAloneAt, tag_of, tag_stated, keyed_split, keyed_disjoint, map_twice}
use Rattle.keep_edit_spec.proofs.Common.SetLaw.{all_longer, disjoint_below, disjoint_closed, disjoint_from_entry}
use Rattle.keep_edit_spec.proofs.Common.SetLaw.{clash_before, closed_named, closed_entries, rules_below}
use Rattle.keep_edit_spec.proofs.Common.LineLaws.{lines_mentions-append}
use Rattle.keep_edit_spec.proofs.Common.SetDocument.{mentions_of, whole_mentions}
use Rattle.keep_edit_spec.proofs.Common.InValue.{beside_keyval}
use Rattle.keep_edit_spec.proofs.Common.ValueThere.{some_cases}
use Rattle.keep_edit_spec.proofs.Common.ValueNumber.{value_is_exclusive}
use Rattle.keep_edit_spec.proofs.Common.DoneAtValue.{EachOf, of_within, of_or_else}
use Rattle.keep_edit_spec.proofs.Common.ValuesMention.{length-mention_kinds, mention_kinds-entry, value_ends}

-- the first of these, if there is one, is no deeper
abbrev pub BeginNoDeeper : ℕ → List ValueInfo → Type 0
BeginNoDeeper d [] = ⊤
BeginNoDeeper d (i ∷ is) = i.depth ≤ d

-- The change is what an act does at one of these values, with that rest of the path; its text begins at `at`.
-- As many mentions of values come before the value's own as values before it.
-- Where the whole is valid, so is the value; what is said in it, and its values, come right after it, and the values
-- that follow them do not begin deeper. By the rules nothing else is said at or under its path.
pub record IsFoundIn {A : Type 0} (act : Act) (Whole : Profile → Type 0) (at : ℕ) (path : List Part) (ms : List Mention)
    (infos : List ValueInfo) (c : Changed A) : Type 0 where
  pub value : Value
  pub valid : (profile : Profile) → Whole profile → IsValue profile value
  pub more : List Part
  pub done : Changed Value
  pub by : act more value ≡ Some done
  pub old : c.old ≡ done.old
  pub new : c.new ≡ done.new
  pub earlier : List Mention
  pub mention : Mention
  pub later : List Mention
  pub mentioned : ms ≡ earlier ++ mention ∷ later
  pub place : path ≡ mention.path ++ more
  pub tells : is_value mention.kind ≡ true
  pub fact : fact_of mention.kind ≡ Some (body_fact value.body)
  pub prefix : List ValueInfo
  pub own : ValueInfo
  pub after : List ValueInfo
  pub here : infos ≡ prefix ++ own ∷ after
  pub count : valued earlier ≡ length prefix
  pub start : at + length c.before ≡ own.span.start + length done.before
  pub end : own.span.end ≡ own.span.start + length (value_text value)
  pub begin : Start
  pub from : ℕ
  pub keys : ℕ
  pub comma : Option ℕ
  pub stated : own ≡ info begin from keys value.body value.nested comma
  pub further : List Mention
  pub within_mentioned : later ≡ map (below mention.path) (entries_mentions 0 value.nested) ++ further
  pub others : List ValueInfo
  pub within_values : after ≡ entries_values (nested_of begin from keys value.body) value.nested ++ others
  pub beyond : List ℕ
  pub text_after : c.after ≡ done.after ++ beyond
  pub ends : BeginNoDeeper own.depth others
  pub disjoint : Rules ms → AllOf (IsDisjoint mention.path) earlier × AllOf (IsDisjoint mention.path) further

-- ---- what is alone at a path

alone_here : (earlier later ms : List Mention) (m : Mention) → ms ≡ earlier ++ m ∷ later → is_value m.kind ≡ true
    → SomeOf (IsAloneAt m.path) ms
alone_here earlier later ms m mentioned tells =
    subst (SomeOf (IsAloneAt m.path)) (sym mentioned)
    (some_right (IsAloneAt m.path) earlier (m ∷ later)
    (inl (record { path = refl; kind = value_is_exclusive m.kind tells })))

-- seen from where the path begins
pub record IsAloneBeyond (p q : List Part) (ms : List Mention) : Type 0 where
  pub more : List Part
  pub whole : q ≡ p ++ more
  pub alone : SomeOf (IsAloneAt more) ms

pub alone_beyond : (p q : List Part) (ms : List Mention) → SomeOf (IsAloneAt q) (map (below p) ms)
    → IsAloneBeyond p q ms
alone_beyond p q [] s = absurd s
alone_beyond p q (m ∷ ms) (inl a) =
    record { more = m.path; whole = sym a.path; alone = inl (record { path = refl; kind = a.kind }) }
alone_beyond p q (m ∷ ms) (inr s) =
    let h = alone_beyond p q ms s in record { more = h.more; whole = h.whole; alone = inr h.alone }

abbrev Shared : Mention → Type 0
Shared m = exclusive m.kind ≡ false

shared_below : (p : List Part) (ms : List Mention) → AllOf Shared ms → AllOf Shared (map (below p) ms)
shared_below p [] h = tt
shared_below p (m ∷ ms) h = (h.0, shared_below p ms h.1)

shared_ways : (ks : List (List ℕ)) → AllOf Shared (keyed_mentions ks [])
shared_ways [] = tt
shared_ways (k ∷ []) = tt
shared_ways (k ∷ l ∷ ks) =
    shared_below (key k ∷ []) (record { path = []; kind = dotted } ∷ keyed_mentions (l ∷ ks) [])
    (refl, shared_ways (l ∷ ks))

never_shared : (q : List Part) (ms : List Mention) → AllOf Shared ms → SomeOf (IsAloneAt q) ms → ⊥
never_shared q ms h s =
    let (m, alone, shared) = meet (IsAloneAt q) Shared ms s h in
    let k : true ≡ false = sym alone.kind ∙ shared in absurd cc

-- at or under an entry's step
pub alone_named : (n : ℕ) (name : Option Name) (f : Fact) (nested : List Mention) (q : List Part)
    → SomeOf (IsAloneAt q) (entry_mentions n name f nested) → (more : List Part) × (q ≡ step n name ++ more)
alone_named n None f nested q s =
    let h = alone_beyond (index n ∷ []) q (valued_mentions (item f) nested) s in (h.more, h.whole)
alone_named n (Some name) f nested q s =
    let p : List Part = map key (keys_of name.key) in
    let ways : List Mention = keyed_mentions (keys_of name.key) [] in
    let ms : List Mention = valued_mentions (value f) nested in
    elim (some_cases (IsAloneAt q) ways (map (below p) ms)
    (subst (SomeOf (IsAloneAt q)) (keyed_split (keys_of name.key) ms) s)) [
      | inl w ↦ absurd (never_shared q ways (shared_ways (keys_of name.key)) w)
      | inr t ↦ (let h = alone_beyond p q ms t in (h.more, h.whole))
    ]

-- never what entries are in
alone_entries : (n : ℕ) (es : Entries) → SomeOf (IsAloneAt []) (entries_mentions n es) → ⊥
alone_entries n none s = s
alone_entries n (entry name body nested after comma rest) s =
    elim (some_cases (IsAloneAt []) (entry_mentions n name (body_fact body) (entries_mentions 0 nested))
    (entries_mentions (n + 1) rest) s) [
      | inl t ↦ (let (more, e) = alone_named n name (body_fact body) (entries_mentions 0 nested) [] t in no name more e)
      | inr t ↦ alone_entries (n + 1) rest t
    ]
  where
    no : (name : Option Name) (more : List Part) → [] ≡ step n name ++ more → ⊥
    no None more e = absurd cc
    no (Some name) more e = absurd cc

-- ---- how deep values are

own_deep : (d : ℕ) (infos prefix : List ValueInfo) (own : ValueInfo) (after : List ValueInfo)
    → AllOf (λ (i : ValueInfo). d ≤ i.depth) infos → infos ≡ prefix ++ own ∷ after → d ≤ own.depth
own_deep d infos prefix own after h e =
    (all_right (λ (i : ValueInfo). d ≤ i.depth) prefix (own ∷ after)
    (subst (AllOf (λ (i : ValueInfo). d ≤ i.depth)) e h)).0

pub entries_deep : (p : Start) (es : Entries) → AllOf (λ (i : ValueInfo). p.depth ≤ i.depth) (entries_values p es)
entries_deep p none = tt
entries_deep p (entry name body nested after comma rest) =
    let i : Start = nested_of p (value_start p.at name) (name_count name) body in
    let r : Start = rest_of p name body nested after comma in (
      omega arith,
      all_join (λ (x : ValueInfo). p.depth ≤ x.depth) (entries_values i nested) (entries_values r rest)
          (all_map (λ (x : ValueInfo). i.depth ≤ x.depth) (λ (x : ValueInfo). p.depth ≤ x.depth)
          (λ x h. omega (arith, h)) (entries_values i nested) (entries_deep i nested))
          (entries_deep r rest),
    )

entries_begin_deep : (p : Start) (es : Entries) → BeginNoDeeper p.depth (entries_values p es)
entries_begin_deep p none = tt
entries_begin_deep p (entry name body nested after comma rest) = omega arith

no_deeper-join : (d k : ℕ) (xs ys : List ValueInfo) → BeginNoDeeper d xs → BeginNoDeeper k ys → k ≤ d
    → BeginNoDeeper d (xs ++ ys)
no_deeper-join d k [] [] h g e = tt
no_deeper-join d k [] (y ∷ ys) h g e = omega (arith, g, e)
no_deeper-join d k (x ∷ xs) ys h g e = h

line_no_deeper : (p : Start) (c : Content) → p.depth ≡ 0 → BeginNoDeeper 0 (content_values p c)
line_no_deeper p blank e = tt
line_no_deeper p (keyval name v) e = omega (arith, e)
line_no_deeper p (header before k after) e = tt
line_no_deeper p (element before k after) e = tt

-- ---- seen from outside

found_framed : {A B : Type 0} (act : Act) (Inner Whole : Profile → Type 0) (at from : ℕ) (path : List Part)
    (ms : List Mention) (infos : List ValueInfo) (outer : A → B) (left right : List ℕ) (c : Changed A)
    → ((profile : Profile) → Whole profile → Inner profile) → from + length left ≡ at
    → IsFoundIn act Inner at path ms infos c → IsFoundIn act Whole from path ms infos (framed_change outer left right c)
found_framed act Inner Whole at from path ms infos outer left right c valid e h = record {
  value = h.value;
  valid = λ profile w. h.valid profile (valid profile w);
  more = h.more;
  done = h.done;
  by = h.by;
  old = h.old;
  new = h.new;
  earlier = h.earlier;
  mention = h.mention;
  later = h.later;
  mentioned = h.mentioned;
  place = h.place;
  tells = h.tells;
  fact = h.fact;
  prefix = h.prefix;
  own = h.own;
  after = h.after;
  here = h.here;
  count = h.count;
  start = omega (arith, e, h.start, length-append left c.before);
  end = h.end;
  begin = h.begin;
  from = h.from;
  keys = h.keys;
  comma = h.comma;
  stated = h.stated;
  further = h.further;
  within_mentioned = h.within_mentioned;
  others = h.others;
  within_values = h.within_values;
  beyond = h.beyond ++ right;
  text_after = ap (λ (t : List ℕ). t ++ right) h.text_after ∙ append_assoc h.done.after h.beyond right;
  ends = h.ends;
  disjoint = h.disjoint;
}

-- beyond a prefix of the path
found_beyond : {A : Type 0} (act : Act) (Whole : Profile → Type 0) (at : ℕ) (p more path : List Part)
    (ms : List Mention) (infos : List ValueInfo) (c : Changed A)
    → path ≡ p ++ more → IsFoundIn act Whole at more ms infos c → IsFoundIn act Whole at path (map (below p) ms) infos c
found_beyond act Whole at p more path ms infos c e h = record {
  value = h.value;
  valid = h.valid;
  more = h.more;
  done = h.done;
  by = h.by;
  old = h.old;
  new = h.new;
  earlier = map (below p) h.earlier;
  mention = below p h.mention;
  later = map (below p) h.later;
  mentioned = ap (map (below p)) h.mentioned ∙ map-append (below p) h.earlier (h.mention ∷ h.later);
  place = e ∙ ap (λ q. p ++ q) h.place ∙ sym (append_assoc p h.mention.path h.more);
  tells = h.tells;
  fact = h.fact;
  prefix = h.prefix;
  own = h.own;
  after = h.after;
  here = h.here;
  count = valued-below p h.earlier ∙ h.count;
  start = h.start;
  end = h.end;
  begin = h.begin;
  from = h.from;
  keys = h.keys;
  comma = h.comma;
  stated = h.stated;
  further = map (below p) h.further;
  within_mentioned =
      ap (map (below p)) h.within_mentioned
      ∙ map-append (below p) (map (below h.mention.path) (entries_mentions 0 h.value.nested)) h.further
      ∙ ap (λ (l : List Mention). l ++ map (below p) h.further)
      (map_twice p h.mention.path (entries_mentions 0 h.value.nested));
  others = h.others;
  within_values = h.within_values;
  beyond = h.beyond;
  text_after = h.text_after;
  ends = h.ends;
  disjoint =
      λ rules. let a =
      h.disjoint (rules_below p ms rules) in
      (disjoint_below p h.mention.path h.earlier a.0, disjoint_below p h.mention.path h.further a.1);
}

-- after others, and before others
found_after : {A : Type 0} (act : Act) (Whole : Profile → Type 0) (at : ℕ) (path : List Part) (xs ms : List Mention)
    (is infos : List ValueInfo) (c : Changed A)
    → valued xs ≡ length is → (Rules (xs ++ ms) → (q : List Part) → SomeOf (IsAloneAt q) ms → AllOf (IsDisjoint q) xs)
    → IsFoundIn act Whole at path ms infos c → IsFoundIn act Whole at path (xs ++ ms) (is ++ infos) c
found_after act Whole at path xs ms is infos c e far h = record {
  value = h.value;
  valid = h.valid;
  more = h.more;
  done = h.done;
  by = h.by;
  old = h.old;
  new = h.new;
  earlier = xs ++ h.earlier;
  mention = h.mention;
  later = h.later;
  mentioned = ap (λ l. xs ++ l) h.mentioned ∙ sym (append_assoc xs h.earlier (h.mention ∷ h.later));
  place = h.place;
  tells = h.tells;
  fact = h.fact;
  prefix = is ++ h.prefix;
  own = h.own;
  after = h.after;
  here = ap (λ l. is ++ l) h.here ∙ sym (append_assoc is h.prefix (h.own ∷ h.after));
  count = omega (arith, e, h.count, valued-append xs h.earlier, length-append is h.prefix);
  start = h.start;
  end = h.end;
  begin = h.begin;
  from = h.from;
  keys = h.keys;
  comma = h.comma;
  stated = h.stated;
  further = h.further;
  within_mentioned = h.within_mentioned;
  others = h.others;
  within_values = h.within_values;
  beyond = h.beyond;
  text_after = h.text_after;
  ends = h.ends;
  disjoint = λ rules. let a = h.disjoint (pairs_split Allowed xs ms rules).right in (
    all_join (IsDisjoint h.mention.path) xs h.earlier
        (far rules h.mention.path (alone_here h.earlier h.later ms h.mention h.mentioned h.tells)) a.0,
    a.1,
  );
}

found_before : {A : Type 0} (act : Act) (Whole : Profile → Type 0) (at : ℕ) (path : List Part) (ms ys : List Mention)
    (infos js : List ValueInfo) (c : Changed A)
    → (d : ℕ) → AllOf (λ (i : ValueInfo). d ≤ i.depth) infos → BeginNoDeeper d js
    → (Rules (ms ++ ys) → (q : List Part) → SomeOf (IsAloneAt q) ms → AllOf (IsDisjoint q) ys)
    → IsFoundIn act Whole at path ms infos c → IsFoundIn act Whole at path (ms ++ ys) (infos ++ js) c
found_before act Whole at path ms ys infos js c d deep low far h = record {
  value = h.value;
  valid = h.valid;
  more = h.more;
  done = h.done;
  by = h.by;
  old = h.old;
  new = h.new;
  earlier = h.earlier;
  mention = h.mention;
  later = h.later ++ ys;
  mentioned = ap (λ l. l ++ ys) h.mentioned ∙ append_assoc h.earlier (h.mention ∷ h.later) ys;
  place = h.place;
  tells = h.tells;
  fact = h.fact;
  prefix = h.prefix;
  own = h.own;
  after = h.after ++ js;
  here = ap (λ l. l ++ js) h.here ∙ append_assoc h.prefix (h.own ∷ h.after) js;
  count = h.count;
  start = h.start;
  end = h.end;
  begin = h.begin;
  from = h.from;
  keys = h.keys;
  comma = h.comma;
  stated = h.stated;
  further = h.further ++ ys;
  within_mentioned =
      ap (λ l. l ++ ys) h.within_mentioned
      ∙ append_assoc (map (below h.mention.path) (entries_mentions 0 h.value.nested)) h.further ys;
  others = h.others ++ js;
  within_values =
      ap (λ l. l ++ js) h.within_values
      ∙ append_assoc (entries_values (nested_of h.begin h.from h.keys h.value.body) h.value.nested) h.others js;
  beyond = h.beyond;
  text_after = h.text_after;
  ends = no_deeper-join h.own.depth d h.others js h.ends low (own_deep d infos h.prefix h.own h.after deep h.here);
  disjoint = λ rules. let a = h.disjoint (pairs_split Allowed ms ys rules).left in (
    a.0,
    all_join (IsDisjoint h.mention.path) h.further ys a.1
        (far rules h.mention.path (alone_here h.earlier h.later ms h.mention h.mentioned h.tells)),
  );
}

-- between others, of lines
found_between : {A : Type 0} (act : Act) (Whole : Profile → Type 0) (at : ℕ) (path : List Part)
    (xs ms ys : List Mention) (is infos js : List ValueInfo) (c : Changed A)
    → valued xs ≡ length is → BeginNoDeeper 0 js
    → (Rules (xs ++ (ms ++ ys)) → (q : List Part) → SomeOf (IsAloneAt q) ms
    → AllOf (IsDisjoint q) xs × AllOf (IsDisjoint q) ys)
    → IsFoundIn act Whole at path ms infos c → IsFoundIn act Whole at path (xs ++ (ms ++ ys)) (is ++ (infos ++ js)) c
found_between act Whole at path xs ms ys is infos js c e low far h = record {
  value = h.value;
  valid = h.valid;
  more = h.more;
  done = h.done;
  by = h.by;
  old = h.old;
  new = h.new;
  earlier = xs ++ h.earlier;
  mention = h.mention;
  later = h.later ++ ys;
  mentioned = ap (λ l. xs ++ (l ++ ys)) h.mentioned ∙ around_one xs h.earlier h.later ys h.mention;
  place = h.place;
  tells = h.tells;
  fact = h.fact;
  prefix = is ++ h.prefix;
  own = h.own;
  after = h.after ++ js;
  here = ap (λ l. is ++ (l ++ js)) h.here ∙ around_info is h.prefix h.after js h.own;
  count = omega (arith, e, h.count, valued-append xs h.earlier, length-append is h.prefix);
  start = h.start;
  end = h.end;
  begin = h.begin;
  from = h.from;
  keys = h.keys;
  comma = h.comma;
  stated = h.stated;
  further = h.further ++ ys;
  within_mentioned =
      ap (λ l. l ++ ys) h.within_mentioned
      ∙ append_assoc (map (below h.mention.path) (entries_mentions 0 h.value.nested)) h.further ys;
  others = h.others ++ js;
  within_values =
      ap (λ l. l ++ js) h.within_values
      ∙ append_assoc (entries_values (nested_of h.begin h.from h.keys h.value.body) h.value.nested) h.others js;
  beyond = h.beyond;
  text_after = h.text_after;
  ends = no_deeper-join h.own.depth 0 h.others js h.ends low (omega arith);
  disjoint = λ rules.
      let a = h.disjoint (pairs_split Allowed ms ys (pairs_split Allowed xs (ms ++ ys) rules).right).left in
      let b = far rules h.mention.path (alone_here h.earlier h.later ms h.mention h.mentioned h.tells) in (
        all_join (IsDisjoint h.mention.path) xs h.earlier b.0 a.0,
        all_join (IsDisjoint h.mention.path) h.further ys a.1 b.1,
      );
}
  where
    around_one : (a b c d : List Mention) (m : Mention) → a ++ ((b ++ m ∷ c) ++ d) ≡ (a ++ b) ++ m ∷ (c ++ d)
    around_one a b c d m = simp append_assoc refl

    around_info : (a b c d : List ValueInfo) (m : ValueInfo) → a ++ ((b ++ m ∷ c) ++ d) ≡ (a ++ b) ++ m ∷ (c ++ d)
    around_info a b c d m = simp append_assoc refl

-- an entry's value is found where its key or number leads
found_named : {A : Type 0} (act : Act) (Whole : Profile → Type 0) (at n : ℕ) (name : Option Name) (f : Fact)
    (nested : List Mention) (more path : List Part) (infos : List ValueInfo) (c : Changed A)
    → path ≡ step n name ++ more → IsFoundIn act Whole at more (valued_mentions (tag_of name f) nested) infos c
    → IsFoundIn act Whole at path (entry_mentions n name f nested) infos c
found_named act Whole at n None f nested more path infos c e h =
    found_beyond act Whole at (index n ∷ []) more path (valued_mentions (item f) nested) infos c e h
found_named act Whole at n (Some name) f nested more path infos c e h =
    let ms : List Mention = valued_mentions (value f) nested in
    let p : List Part = map key (keys_of name.key) in
    subst (λ (l : List Mention). IsFoundIn act Whole at path l infos c) (sym (keyed_split (keys_of name.key) ms))
    (found_after act Whole at path (keyed_mentions (keys_of name.key) []) (map (below p) ms) [] infos c
    (valued-keyed (key_value name.key.first) (map further_value name.key.more) [])
    (λ rules q alone. let b = alone_beyond p q ms alone in
    subst (λ (x : List Part). AllOf (IsDisjoint x) (keyed_mentions (keys_of name.key) [])) (sym b.whole)
    (all_longer p b.more (keyed_mentions (keys_of name.key) [])
    (keyed_disjoint (key_value name.key.first) (map further_value name.key.more))))
    (found_beyond act Whole at p more path ms infos c e h))

-- ---- in a value

-- entries, in some place
abbrev pub Valid_entries : Entries → Profile → Type 0
Valid_entries es profile = (place : Place) × AreEntries profile place es

abbrev pub Valid_value : Value → Profile → Type 0
Valid_value v profile = IsValue profile v

below_root : (ms : List Mention) → ms ≡ map (below []) ms
below_root [] = refl
below_root (m ∷ ms) = ap (λ (l : List Mention). m ∷ l) (below_root ms)

found_here : (act : Act) (p : Start) (at keys : ℕ) (comma : Option ℕ) (body : Body) (nested : Entries)
    (mention_kind : MentionKind) (more : List Part)
    → is_value mention_kind ≡ true → fact_of mention_kind ≡ Some (body_fact body) → (o : Option (Changed Value))
    → act more (record { body = body; nested = nested }) ≡ o
    → EachOf (IsFoundIn act (Valid_value (record { body = body; nested = nested })) at more
    (valued_mentions mention_kind (entries_mentions 0 nested))
    (info p at keys body nested comma ∷ entries_values (nested_of p at keys body) nested)) o
found_here act p at keys comma body nested mention_kind more is f None e = tt
found_here act p at keys comma body nested mention_kind more is f (Some c) e = record {
  value = record { body = body; nested = nested };
  valid = λ profile v. v;
  more = more;
  done = c;
  by = e;
  old = refl;
  new = refl;
  earlier = [];
  mention = record { path = []; kind = mention_kind };
  later = entries_mentions 0 nested;
  mentioned = refl;
  place = refl;
  tells = is;
  fact = f;
  prefix = [];
  own = info p at keys body nested comma;
  after = entries_values (nested_of p at keys body) nested;
  here = refl;
  count = refl;
  start = refl;
  end = value_ends at body nested;
  begin = p;
  from = at;
  keys = keys;
  comma = comma;
  stated = refl;
  further = [];
  within_mentioned =
      below_root (entries_mentions 0 nested) ∙ sym (append-nil (map (below []) (entries_mentions 0 nested)));
  others = [];
  within_values = sym (append-nil (entries_values (nested_of p at keys body) nested));
  beyond = [];
  text_after = sym (append-nil c.after);
  ends = tt;
  disjoint = λ rules. (tt, tt);
}

root_disjoint : (mention_kind : MentionKind) (nested : Entries) (q : List Part)
    → SomeOf (IsAloneAt q) (entries_mentions 0 nested)
    → AllOf (IsDisjoint q) (record { path = []; kind = mention_kind } ∷ [])
root_disjoint mention_kind nested [] s = absurd (alone_entries 0 nested s)
root_disjoint mention_kind nested (p ∷ q) s = (refl, tt)

found_value : (act : Act) (p : Start) (at keys : ℕ) (comma : Option ℕ) (body : Body) (nested : Entries)
    (mention_kind : MentionKind) (more : List Part)
    → is_value mention_kind ≡ true → fact_of mention_kind ≡ Some (body_fact body)
    → EachOf (IsFoundIn act (Valid_entries nested) (nested_start at body) more (entries_mentions 0 nested)
    (entries_values (nested_of p at keys body) nested)) (in_entries act more 0 nested)
    → EachOf (IsFoundIn act (Valid_value (record { body = body; nested = nested })) at more
    (valued_mentions mention_kind (entries_mentions 0 nested))
    (info p at keys body nested comma ∷ entries_values (nested_of p at keys body) nested))
    (or_else (within (λ es. record { body = body; nested = es }) (text_of (opening body)) (text_of (closing body))
    (in_entries act more 0 nested)) (act more (record { body = body; nested = nested })))
found_value act p at keys comma body nested mention_kind more is f h =
    let ms : List Mention = entries_mentions 0 nested in
    let infos : List ValueInfo = entries_values (nested_of p at keys body) nested in
    let own : ValueInfo = info p at keys body nested comma in
    let outer : Entries → Value = λ es. record { body = body; nested = es } in
    let V : Profile → Type 0 = Valid_value (record { body = body; nested = nested }) in
    let E : Profile → Type 0 = Valid_entries nested in
    let left : List ℕ = text_of (opening body) in
    let right : List ℕ = text_of (closing body) in
    let one : valued (record { path = []; kind = mention_kind } ∷ []) ≡ 1 = ap (λ b. one_if b + 0) is in
    of_or_else (IsFoundIn act V at more (valued_mentions mention_kind ms) (own ∷ infos))
    (within outer left right (in_entries act more 0 nested)) (act more (record { body = body; nested = nested }))
    (of_within (IsFoundIn act E (nested_start at body) more ms infos)
    (IsFoundIn act V at more (valued_mentions mention_kind ms) (own ∷ infos)) outer left right
    (in_entries act more 0 nested)
    (λ c k.
    found_framed act E V (nested_start at body) at more (valued_mentions mention_kind ms) (own ∷ infos) outer left right
    c (λ profile v. (place_in body, v.nested)) refl
    (found_after act E (nested_start at body) more (record { path = []; kind = mention_kind } ∷ []) ms (own ∷ []) infos
    c one (λ rules q alone. root_disjoint mention_kind nested q alone) k)) h)
    (found_here act p at keys comma body nested mention_kind more is f
    (act more (record { body = body; nested = nested })) refl)

tag_valued : (name : Option Name) (f : Fact) → is_value (tag_of name f) ≡ true
tag_valued None f = refl
tag_valued (Some name) f = refl

pub valued-entry : (n : ℕ) (name : Option Name) (f : Fact) (nested : List Mention)
    → valued (entry_mentions n name f nested) ≡ suc (valued nested)
valued-entry n name f nested =
    sym (length-mention_kinds (entry_mentions n name f nested))
    ∙ ap (λ (l : List MentionKind). length l) (mention_kinds-entry n name f nested)
    ∙ ap suc (length-mention_kinds nested)

first_disjoint : (n : ℕ) (name : Option Name) (f : Fact) (nested rest : Entries)
    → Rules (entry_mentions n name f (entries_mentions 0 nested) ++ entries_mentions (n + 1) rest)
    → (q : List Part) → SomeOf (IsAloneAt q) (entries_mentions (n + 1) rest)
    → AllOf (IsDisjoint q) (entry_mentions n name f (entries_mentions 0 nested))
first_disjoint n name f nested rest rules [] s = absurd (alone_entries (n + 1) rest s)
first_disjoint n name f nested rest rules (p ∷ q) s =
    let first : List Mention = entry_mentions n name f (entries_mentions 0 nested) in
    disjoint_closed (p ∷ q) first first
    (closed_named n name f (entries_mentions 0 nested) (closed_entries 0 nested) p q)
    (λ t. clash_before (p ∷ q) first (entries_mentions (n + 1) rest) t s rules)

rest_disjoint : (n : ℕ) (name : Option Name) (f : Fact) (nested : List Mention) (rest : Entries)
    → Rules (entry_mentions n name f nested ++ entries_mentions (n + 1) rest)
    → (q : List Part) → SomeOf (IsAloneAt q) (entry_mentions n name f nested)
    → AllOf (IsDisjoint q) (entries_mentions (n + 1) rest)
rest_disjoint n name f nested rest rules q s =
    let (more, e) = alone_named n name f nested q s in
    subst (λ (x : List Part). AllOf (IsDisjoint x) (entries_mentions (n + 1) rest)) (sym e)
    (disjoint_from_entry n name f nested rest more rules)

pub prefix_ends : (at : ℕ) (name : Option Name) (body : Body) (nested : Entries) (after : Gap) (comma : Option Gap)
    → at + length (entry_prefix name body nested ++ (text_of after ++ text_of (comma_leaves comma)))
    ≡ syntax.entry_end at name body nested after comma
prefix_ends at name body nested after comma =
    let a : List ℕ = text_of (named_leaves name) in
    let b : List ℕ = text_of (opening body) in
    let c : List ℕ = entries_text nested in
    let d : List ℕ = text_of (closing body) in
    omega (
      arith,
      length-append (a ++ (b ++ (c ++ d))) (text_of after ++ text_of (comma_leaves comma)),
      length-append a (b ++ (c ++ d)),
      length-append b (c ++ d),
      length-append c d,
      length-append (text_of after) (text_of (comma_leaves comma)),
    )

found_entries-by : (act : Act) (path : List Part) (n : ℕ) (p : Start) (name : Option Name) (body : Body)
    (nested : Entries) (after : Gap) (comma : Option Gap) (rest : Entries)
    → (let r : Start = rest_of p name body nested after comma in
    EachOf (IsFoundIn act (Valid_entries rest) r.at path (entries_mentions (n + 1) rest) (entries_values r rest))
    (in_entries act path (n + 1) rest))
    → ((more : List Part) → let i : Start = nested_of p (value_start p.at name) (name_count name) body in
    EachOf (IsFoundIn act (Valid_entries nested) i.at more (entries_mentions 0 nested) (entries_values i nested))
    (in_entries act more 0 nested))
    → (o : Option (List Part)) → strip (step n name) path ≡ o
    → EachOf (IsFoundIn act (Valid_entries (entry name body nested after comma rest)) p.at path
    (entries_mentions n (entry name body nested after comma rest))
    (entries_values p (entry name body nested after comma rest))) (elim o [
      | None ↦
          within (entry name body nested after comma)
          (entry_prefix name body nested ++ (text_of after ++ text_of (comma_leaves comma))) []
          (in_entries act path (n + 1) rest)
      | Some more ↦
          within (λ v. entry name v.body v.nested after comma rest) (text_of (named_leaves name))
          (entry_back after comma rest)
          (or_else (within (λ es. record { body = body; nested = es }) (text_of (opening body)) (text_of (closing body))
          (in_entries act more 0 nested))
          (act more (record { body = body; nested = nested })))
    ])
found_entries-by act path n p name body nested after comma rest further deeper None e =
    let whole : Entries = entry name body nested after comma rest in
    let at : ℕ = value_start p.at name in
    let i : Start = nested_of p at (name_count name) body in
    let r : Start = rest_of p name body nested after comma in
    let own : ValueInfo =
    info p at (name_count name) body nested (comma_place (comma_start p.at name body nested after) comma) in
    let first : List Mention = entry_mentions n name (body_fact body) (entries_mentions 0 nested) in
    let left : List ℕ = entry_prefix name body nested ++ (text_of after ++ text_of (comma_leaves comma)) in
    let count : valued first ≡ length (own ∷ entries_values i nested) =
    omega (
      arith,
      valued-entry n name (body_fact body) (entries_mentions 0 nested),
      valued-entries 0 nested,
      length-entries_values i nested,
    ) in
    of_within (IsFoundIn act (Valid_entries rest) r.at path (entries_mentions (n + 1) rest) (entries_values r rest))
    (IsFoundIn act (Valid_entries whole) p.at path (entries_mentions n whole) (entries_values p whole))
    (entry name body nested after comma) left [] (in_entries act path (n + 1) rest)
    (λ c h.
    found_framed act (Valid_entries rest) (Valid_entries whole) r.at p.at path (entries_mentions n whole)
    (entries_values p whole) (entry name body nested after comma) left [] c (λ profile v. (v.0, v.1.5))
    (prefix_ends p.at name body nested after comma)
    (found_after act (Valid_entries rest) r.at path first (entries_mentions (n + 1) rest)
    (own ∷ entries_values i nested) (entries_values r rest) c count (first_disjoint n name (body_fact body) nested rest)
    h)) further
found_entries-by act path n p name body nested after comma rest further deeper (Some more) e =
    let whole : Entries = entry name body nested after comma rest in
    let at : ℕ = value_start p.at name in
    let i : Start = nested_of p at (name_count name) body in
    let r : Start = rest_of p name body nested after comma in
    let own : ValueInfo =
    info p at (name_count name) body nested (comma_place (comma_start p.at name body nested after) comma) in
    let first : List Mention = entry_mentions n name (body_fact body) (entries_mentions 0 nested) in
    let outer : Value → Entries = λ v. entry name v.body v.nested after comma rest in
    let left : List ℕ = text_of (named_leaves name) in
    let V : Profile → Type 0 = Valid_value (record { body = body; nested = nested }) in
    let deep : AllOf (λ (x : ValueInfo). p.depth ≤ x.depth) (own ∷ entries_values i nested) = (
      omega arith,
      all_map (λ (x : ValueInfo). i.depth ≤ x.depth) (λ (x : ValueInfo). p.depth ≤ x.depth) (λ x h. omega (arith, h))
          (entries_values i nested) (entries_deep i nested),
    ) in
    of_within (IsFoundIn act V at more (valued_mentions (tag_of name (body_fact body)) (entries_mentions 0 nested))
    (own ∷ entries_values i nested))
    (IsFoundIn act (Valid_entries whole) p.at path (entries_mentions n whole) (entries_values p whole))
    outer left (entry_back after comma rest) _
    (λ c h.
    found_framed act V (Valid_entries whole) at p.at path (entries_mentions n whole) (entries_values p whole) outer left
    (entry_back after comma rest) c (λ profile v. record { body = v.1.1; nested = v.1.2 }) refl
    (found_before act V at path first (entries_mentions (n + 1) rest) (own ∷ entries_values i nested)
    (entries_values r rest) c
    p.depth deep (entries_begin_deep r rest) (rest_disjoint n name (body_fact body) (entries_mentions 0 nested) rest)
    (found_named act V at n name (body_fact body) (entries_mentions 0 nested) more path (own ∷ entries_values i nested)
    c (strip-sound (step n name) path more e) h)))
    (found_value act p at (name_count name) (comma_place (comma_start p.at name body nested after) comma) body nested
    (tag_of name (body_fact body)) more
    (tag_valued name (body_fact body)) (tag_stated name (body_fact body)) (deeper more))

found_entries : (act : Act) (path : List Part) (n : ℕ) (p : Start) (es : Entries)
    → EachOf (IsFoundIn act (Valid_entries es) p.at path (entries_mentions n es) (entries_values p es))
    (in_entries act path n es)
found_entries act path n p none = tt
found_entries act path n p (entry name body nested after comma rest) =
    found_entries-by act path n p name body nested after comma rest
    (found_entries act path (n + 1) (rest_of p name body nested after comma) rest)
    (λ more. found_entries act more 0 (nested_of p (value_start p.at name) (name_count name) body) nested)
    (strip (step n name) path) refl

-- ---- in a document

abbrev Valid_content : Content → Profile → Type 0
Valid_content c profile = IsContent profile c

abbrev Valid_line : Line → Profile → Type 0
Valid_line l profile = IsLine profile l

found_content-by : (act : Act) (prefix path : List Part) (p : Start) (name : Name) (v : Value) (o : Option (List Part))
    → strip (prefix ++ step 0 (Some name)) path ≡ o
    → EachOf (IsFoundIn act (Valid_content (keyval name v)) p.at path (map (below prefix) (keyval_mentions name v))
    (content_values p (keyval name v))) (elim o [
      | None ↦ None
      | Some more ↦ within (keyval name) (text_of (name_leaves name)) [] (in_value act more v)
    ])
found_content-by act prefix path p name v None e = tt
found_content-by act prefix path p name v (Some more) e =
    let at : ℕ = p.at + syntax.width (name_leaves name) in
    let i : Start = nested_of p at (key_count name.key) v.body in
    let infos : List ValueInfo = content_values p (keyval name v) in
    let f : Fact = body_fact v.body in
    let inner : List Part = step 0 (Some name) ++ more in
    let whole : path ≡ prefix ++ inner =
    strip-sound (prefix ++ step 0 (Some name)) path more e ∙ append_assoc prefix (step 0 (Some name)) more in
    of_within (IsFoundIn act (Valid_value v) at more (valued_mentions (value f) (entries_mentions 0 v.nested)) infos)
    (IsFoundIn act (Valid_content (keyval name v)) p.at path (map (below prefix) (keyval_mentions name v)) infos)
    (keyval name) (text_of (name_leaves name)) [] (in_value act more v)
    (λ c h.
    found_framed act (Valid_value v) (Valid_content (keyval name v)) at p.at path
    (map (below prefix) (keyval_mentions name v)) infos (keyval name) (text_of (name_leaves name)) [] c
    (λ profile x. x.1) refl
    (found_beyond act (Valid_value v) at prefix inner path (keyval_mentions name v) infos c whole
    (found_named act (Valid_value v) at 0 (Some name) f (entries_mentions 0 v.nested) more inner infos c refl h)))
    (found_value act p at (key_count name.key) None v.body v.nested (value f) more refl refl
    (found_entries act more 0 i v.nested))

found_content : (act : Act) (path : List Part) (r : Reading) (p : Start) (c : Content)
    → EachOf (IsFoundIn act (Valid_content c) p.at path
    (elim (statement_of c) [ None ↦ [] | Some s ↦ statement_mentions r s ]) (content_values p c))
    (in_content act r.body path c)
found_content act path r p blank = tt
found_content act path r p (keyval name v) =
    found_content-by act r.body path p name v (strip (r.body ++ step 0 (Some name)) path) refl
found_content act path r p (header before k after) = tt
found_content act path r p (element before k after) = tt

found_line : (act : Act) (path : List Part) (r : Reading) (c : syntax.Count) (l : Line)
    → EachOf (IsFoundIn act (Valid_line l) c.at path (line_mentions r l) (line_values c l)) (in_line act path r l)
found_line act path r c l =
    let p : Start = line_start c l in
    let outer : Content → Line = λ x. record l { content = x } in
    let right : List ℕ = text_of l.after ++ text_of (comment_leaves l.comment) in
    of_within (IsFoundIn act (Valid_content l.content) p.at path (line_mentions r l) (line_values c l))
    (IsFoundIn act (Valid_line l) c.at path (line_mentions r l) (line_values c l)) outer (text_of l.before) right
    (in_content act r.body path l.content)
    (λ d h. found_framed act (Valid_content l.content) (Valid_line l) p.at c.at path (line_mentions r l)
    (line_values c l) outer (text_of l.before) right d (λ profile x. x.content) refl h)
    (found_content act path r p l.content)

abbrev all_values : syntax.Count → List Ended → Line → List ValueInfo
all_values c es last = over_lines (λ c l line_end. line_values c l) c es last

abbrev Valid_lines : List Ended → Line → Profile → Type 0
Valid_lines es last profile = AllByRecursion (IsEnded profile) es × IsLine profile last

abbrev pub Valid_document : Document → Profile → Type 0
Valid_document s profile = IsDocument profile s

-- ... of a keyval
record IsFoundOnLine (act : Act) (path : List Part) (r : Reading) (c : syntax.Count) (l : Line)
    (d : Changed Line) : Type 0 where
  found : IsFoundIn act (Valid_line l) c.at path (line_mentions r l) (line_values c l) d
  name : Name
  value : Value
  content : l.content ≡ keyval name value

each_none : {A : Type 0} (P : Changed A → Type 0) (o : Option (Changed A)) → o ≡ None → EachOf P o
each_none P None e = tt
each_none P (Some c) e = absurd cc

each_map : {A : Type 0} (P Q : Changed A → Type 0) (o : Option (Changed A)) → ((c : Changed A) → P c → Q c) → EachOf P o
    → EachOf Q o
each_map P Q None f h = tt
each_map P Q (Some c) f h = f c h

found_on_line : (act : Act) (path : List Part) (r : Reading) (c : syntax.Count) (l : Line)
    → EachOf (IsFoundOnLine act path r c l) (in_line act path r l)
found_on_line act path r c l = by l.content refl
  where
    never : (x : Content) → l.content ≡ x → in_content act r.body path x ≡ None
        → EachOf (IsFoundOnLine act path r c l) (in_line act path r l)
    never x e empty = each_none (IsFoundOnLine act path r c l) (in_line act path r l)
        (ap (within (λ (x : Content). record l { content = x }) (text_of l.before)
        (text_of l.after ++ text_of (comment_leaves l.comment))) (ap (in_content act r.body path) e ∙ empty))

    by : (x : Content) → l.content ≡ x → EachOf (IsFoundOnLine act path r c l) (in_line act path r l)
    by blank e = never blank e refl
    by (keyval name v) e =
        each_map (IsFoundIn act (Valid_line l) c.at path (line_mentions r l) (line_values c l))
        (IsFoundOnLine act path r c l) (in_line act path r l)
        (λ d h. record { found = h; name = name; value = v; content = e }) (found_line act path r c l)
    by (header before k after) e = never (header before k after) e refl
    by (element before k after) e = never (element before k after) e refl

alone_keyval : (body : List Part) (name : Name) (v : Value) (q : List Part)
    → SomeOf (IsAloneAt q) (map (below body) (keyval_mentions name v))
    → (more : List Part) × (q ≡ (body ++ step 0 (Some name)) ++ more)
alone_keyval body name v q s =
    let b = alone_beyond body q (keyval_mentions name v) s in
    let (more, e) = alone_named 0 (Some name) (body_fact v.body) (entries_mentions 0 v.nested) b.more b.alone in
    (more, b.whole ∙ ap (λ (x : List Part). body ++ x) e ∙ sym (append_assoc body (step 0 (Some name)) more))

-- the line between others, from the first line on
found_at_line : (act : Act) (path : List Part) (pre post : List Line) (lefts js : List ValueInfo) (c : syntax.Count)
    (l : Line) (d : Changed Line)
    → valued (lines_mentions start pre) ≡ length lefts → BeginNoDeeper 0 js
    → IsFoundOnLine act path (reading_after_lines start pre) c l d
    → IsFoundIn act (Valid_line l) c.at path (lines_mentions start (pre ++ l ∷ post)) (lefts ++ (line_values c l ++ js))
    d
found_at_line act path pre post lefts js c l d count low h =
    let r : Reading = reading_after_lines start pre in
    let left : List Mention = lines_mentions start pre in
    let mid : List Mention = map (below r.body) (keyval_mentions h.name h.value) in
    let right : List Mention = lines_mentions r post in
    let p : List Part = r.body ++ step 0 (Some h.name) in
    subst (λ (ms : List Mention). IsFoundIn act (Valid_line l) c.at path ms (lefts ++ (line_values c l ++ js)) d)
    (sym (whole_mentions pre post l h.name h.value h.content))
    (found_between act (Valid_line l) c.at path left mid right lefts (line_values c l) js d count low
    (λ rules q alone.
    let b = beside_keyval pre post h.name h.value rules in
    let (more, e) = alone_keyval r.body h.name h.value q alone in (
      subst (λ (x : List Part). AllOf (IsDisjoint x) left) (sym e) (all_longer p more left b.before),
      subst (λ (x : List Part). AllOf (IsDisjoint x) right) (sym e) (all_longer p more right b.after),
    ))
    (subst (λ (ms : List Mention). IsFoundIn act (Valid_line l) c.at path ms (line_values c l) d)
    (mentions_of r l h.name h.value h.content) h.found))

lines_no_deeper : (c : syntax.Count) (es : List Ended) (last : Line) → BeginNoDeeper 0 (all_values c es last)
lines_no_deeper c [] last = line_no_deeper (line_start c last) last.content refl
lines_no_deeper c (e ∷ es) last =
    no_deeper-join 0 0 (line_values c e.line) (all_values (next_line c e) es last)
    (line_no_deeper (line_start c e.line) e.line.content refl) (lines_no_deeper (next_line c e) es last) (omega arith)

reading_snoc : (r : Reading) (pre : List Line) (l : Line)
    → reading_after_lines r (pre ++ l ∷ []) ≡ after_line (reading_after_lines r pre) l
reading_snoc r [] l = refl
reading_snoc r (x ∷ pre) l = reading_snoc (after_line r x) pre l

mentions_snoc : (pre : List Line) (r : Reading) (c : syntax.Count) (l : Line) (lefts : List ValueInfo)
    → reading_after_lines start pre ≡ r → valued (lines_mentions start pre) ≡ length lefts
    → valued (lines_mentions start (pre ++ l ∷ [])) ≡ length (lefts ++ line_values c l)
mentions_snoc pre r c l lefts e n =
    let mentioned : lines_mentions start (pre ++ l ∷ []) ≡ lines_mentions start pre ++ line_mentions r l =
    lines_mentions-append start pre (l ∷ [])
    ∙ ap (λ (x : List Mention). lines_mentions start pre ++ x)
    (append-nil (line_mentions (reading_after_lines start pre) l))
    ∙ ap (λ (x : Reading). lines_mentions start pre ++ line_mentions x l) e in
    ap valued mentioned
    ∙ omega (
      arith,
      valued-append (lines_mentions start pre) (line_mentions r l),
      n,
      valued-content r (line_start c l) l.content,
      length-append lefts (line_values c l),
    )

found_lines : (act : Act) (path : List Part) (pre : List Line) (lefts : List ValueInfo) (r : Reading) (c : syntax.Count)
    (es : List Ended) (last : Line)
    → reading_after_lines start pre ≡ r → valued (lines_mentions start pre) ≡ length lefts
    → EachOf (IsFoundIn act (Valid_lines es last) c.at path
    (lines_mentions start (pre ++ (map line_of es ++ last ∷ []))) (lefts ++ all_values c es last))
    (in_lines (in_line act path) r es last)
found_lines act path pre lefts r c [] last e n =
    let ms : List Mention = lines_mentions start (pre ++ last ∷ []) in
    let infos : List ValueInfo = lefts ++ line_values c last in
    of_within (IsFoundOnLine act path r c last) (IsFoundIn act (Valid_lines [] last) c.at path ms infos)
    (λ l. record { ended = []; last = l }) [] [] (in_line act path r last)
    (λ d h.
    found_framed act (Valid_line last) (Valid_lines [] last) c.at c.at path ms infos
    (λ l. record { ended = []; last = l }) [] [] d (λ profile v. v.1) (omega arith)
    (subst (λ (l : List ValueInfo). IsFoundIn act (Valid_line last) c.at path ms (lefts ++ l) d)
    (append-nil (line_values c last))
    (found_at_line act path pre [] lefts [] c last d n tt
    (subst (λ (x : Reading). IsFoundOnLine act path x c last d) (sym e) h))))
    (found_on_line act path r c last)
found_lines act path pre lefts r c (e ∷ es) last same n =
    let post : List Line = map line_of es ++ last ∷ [] in
    let ms : List Mention = lines_mentions start (pre ++ e.line ∷ post) in
    let own : List ValueInfo = line_values c e.line in
    let more : List ValueInfo = all_values (next_line c e) es last in
    let infos : List ValueInfo = lefts ++ (own ++ more) in
    let right : List ℕ = e.newline.text ++ page_text (record { ended = es; last = last }) in
    let Whole : Profile → Type 0 = Valid_lines (e ∷ es) last in
    let further : List Line = (pre ++ e.line ∷ []) ++ post in
    of_or_else (IsFoundIn act Whole c.at path ms infos) _ _
    (of_within (IsFoundOnLine act path r c e.line) (IsFoundIn act Whole c.at path ms infos)
    (λ l. record { ended = record { line = l; newline = e.newline } ∷ es; last = last }) [] right
    (in_line act path r e.line)
    (λ d h.
    found_framed act (Valid_line e.line) Whole c.at c.at path ms infos
    (λ l. record { ended = record { line = l; newline = e.newline } ∷ es; last = last }) [] right d
    (λ profile v. v.0.0.line) (omega arith)
    (found_at_line act path pre post lefts more c e.line d n (lines_no_deeper (next_line c e) es last)
    (subst (λ (x : Reading). IsFoundOnLine act path x c e.line d) (sym same) h)))
    (found_on_line act path r c e.line))
    (of_within (IsFoundIn act (Valid_lines es last) (next_line c e).at path (lines_mentions start further)
    ((lefts ++ own) ++ more)) (IsFoundIn act Whole c.at path ms infos)
    (λ b. record { ended = e ∷ b.ended; last = b.last }) (text_of (ended_leaves e)) []
    (in_lines (in_line act path) (after_line r e.line) es last)
    (λ d h.
    found_framed act (Valid_lines es last) Whole (next_line c e).at c.at path ms infos
    (λ b. record { ended = e ∷ b.ended; last = b.last }) (text_of (ended_leaves e)) [] d (λ profile v. (v.0.1, v.1))
    refl
    (subst (λ (l : List Line).
    IsFoundIn act (Valid_lines es last) (next_line c e).at path (lines_mentions start l) infos d)
    (append_assoc pre (e.line ∷ []) post)
    (subst (λ (l : List ValueInfo).
    IsFoundIn act (Valid_lines es last) (next_line c e).at path (lines_mentions start further) l d)
    (append_assoc lefts own more) h)))
    (found_lines act path (pre ++ e.line ∷ []) (lefts ++ own) (after_line r e.line) (next_line c e) es last
    (reading_snoc start pre e.line ∙ ap (λ (x : Reading). after_line x e.line) same)
    (mentions_snoc pre r c e.line lefts same n)))

-- What an act changes in a document is one of its values.
pub found_nested : (act : Act) (path : List Part) (s : Document)
    → EachOf (IsFoundIn act (Valid_document s) 0 path (mentions_in s) (syntax.values s)) (nested act path s)
found_nested act path s =
    let Lines : Profile → Type 0 = Valid_lines s.ended s.last in
    of_within (IsFoundIn act Lines (first_line s).at path (mentions_in s) (syntax.values s))
    (IsFoundIn act (Valid_document s) 0 path (mentions_in s) (syntax.values s)) (with_page s)
    (text_of (bom_leaves s.bom)) []
    (in_lines (in_line act path) start s.ended s.last)
    (λ c h. found_framed act Lines (Valid_document s) (first_line s).at 0 path (mentions_in s) (syntax.values s)
    (with_page s) (text_of (bom_leaves s.bom)) [] c (λ profile v. (v.ended, v.last)) (omega arith) h)
    (found_lines act path [] [] start (first_line s) s.ended s.last refl refl)
