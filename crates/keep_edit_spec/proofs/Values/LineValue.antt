-- What is changed inside a line's value gives the document another value at the path of the line's key.
--
-- Whatever an act is, in a document it changes the value of one line, or what is in that (`lines_changed`). The line's
-- value is a value with a key, so the line was changed as if `set` had put the new value in its place (`set_at_key`).
-- It is alone at its path by the rules, and before it in its statement come only the key parts that its key continues
-- from (`one_set`). So what is known of `set` holds here too, and as those key parts have no values, the value's number
-- is how many values the lines before have, in both documents (`line_number`).
--
-- Theorems: `nested_value`; `replaced_value` where it is known which line has which value; `line_value_number` and
-- `new_line_value_number`: the number of the line's value.
use Rattle.std.proofs.Common.{◌≡◌, ℕ, ◌+◌, List, [], ◌∷◌, ◌++◌, map, refl, sym, ap, subst, ◌∙◌, append_assoc, arith}
use Rattle.std.proofs.Common.{Option, Some, None}
use Rattle.std.specs.Prelude.{⊤}
use Rattle.std.specs.List.{filter_map}
use Rattle.std.proofs.lemmas.List.{map-append, append-nil}
use Rattle.keep_syntax.specs.Tree.{Name, name_leaves, Value, Content, blank, keyval, header, element, Line, Ended}
use Rattle.keep_syntax.specs.Tree.{Document, ended_leaves, text_of}
use Rattle.keep_path.specs.Path.{Part, key, last_part, strip, EndsInKey}
use Rattle.keep_meaning.specs.Marks.{value, Mention, Statement, below, Reading, next_reading, mentions_from, start}
use Rattle.keep_meaning.specs.Marks.{statement_mentions}
use Rattle.keep_meaning.specs.Meaning.{key_value, further_value, keys_of, body_fact, step, valued_mentions}
use Rattle.keep_meaning.specs.Meaning.{keyed_mentions, entries_mentions, keyval_mentions, after_line, line_of}
use Rattle.keep_meaning.specs.Meaning.{lines_mentions, reading_after_lines, lines, mentions_in}
use Rattle.keep_meaning.specs.Counts.{Count, count_after, count_from, is_value, line_statement, next_count, no_count}
use Rattle.keep_meaning.specs.Counts.{numbered_in}
use Rattle.keep_meaning.specs.Nodes.{last_number, numbered_at, value_number}
use Rattle.keep_meaning.specs.OtherValues.{HasOtherValue}
use Rattle.keep_meaning.proofs.Shared.{count_after-values, lines_mentions-statements, valued, valued-append}
use Rattle.keep_meaning.proofs.Shared.{valued-below, valued-keyed}
use Rattle.keep_edit_spec.specs.Changed.{Changed, within}
use Rattle.keep_edit_spec.specs.Values.{Act, in_value}
use Rattle.keep_edit_spec.specs.Lines.{page_text, in_content, in_line, in_lines, with_page}
use Rattle.keep_edit_spec.specs.Edits.{nested}
use Rattle.keep_edit_spec.proofs.Common.Runs.{Rules, strip-sound}
use Rattle.keep_edit_spec.proofs.Common.SetLaw.{EachTo, run, to_within, to_or_else, disjoint_below, keyed_split}
use Rattle.keep_edit_spec.proofs.Common.SetLaw.{keyed_disjoint, map_twice, set_here}
use Rattle.keep_edit_spec.proofs.Common.Cuts.{last_part-snoc}
use Rattle.keep_edit_spec.proofs.Common.StatementNumbers.{count_of_lines}
use Rattle.keep_edit_spec.proofs.Common.SetDocument.{LinesSet, page_lines, whole_mentions, ends_keys}
use Rattle.keep_edit_spec.proofs.Common.ValueNumber.{number_of_value}
use Rattle.keep_edit_spec.proofs.Common.InValue.{IsBeside, beside_keyval}
use Rattle.keep_edit_spec.proofs.Set.SetNumbers.{the_to}
use Rattle.keep_edit_spec.proofs.Set.SetValue.{IsOneSet, IsOtherValue, value_in_place}

-- ---- one line is changed, in its value

record ContentChanged (body path : List Part) (from to : Content) : Type 0 where
  name : Name
  old : Value
  now : Value
  more : List Part
  was : from ≡ keyval name old
  is : to ≡ keyval name now
  place : path ≡ (body ++ step 0 (Some name)) ++ more

any_to : {A : Type 0} (o : Option (Changed A)) → EachTo (λ (x : A). ⊤) o
any_to None = tt
any_to (Some c) = tt

content_changed-by : (act : Act) (body path : List Part) (name : Name) (v : Value) (o : Option (List Part))
    → strip (body ++ step 0 (Some name)) path ≡ o → EachTo (ContentChanged body path (keyval name v)) (elim o [
      | None ↦ None
      | Some more ↦ within (keyval name) (text_of (name_leaves name)) [] (in_value act more v)
    ])
content_changed-by act body path name v None e = tt
content_changed-by act body path name v (Some more) e =
    to_within (λ (now : Value). ⊤) (ContentChanged body path (keyval name v)) (keyval name) (text_of (name_leaves name))
    [] (in_value act more v)
    (λ now h.
    record {
      name = name;
      old = v;
      now = now;
      more = more;
      was = refl;
      is = refl;
      place = strip-sound (body ++ step 0 (Some name)) path more e;
    })
    (any_to (in_value act more v))

content_changed : (act : Act) (body path : List Part) (c : Content)
    → EachTo (ContentChanged body path c) (in_content act body path c)
content_changed act body path blank = tt
content_changed act body path (keyval name v) =
    content_changed-by act body path name v (strip (body ++ step 0 (Some name)) path) refl
content_changed act body path (header before k after) = tt
content_changed act body path (element before k after) = tt

line_changed : (act : Act) (path : List Part) (r : Reading) (l : Line)
    → EachTo (λ (x : Line). ContentChanged r.body path l.content x.content) (in_line act path r l)
line_changed act path r l =
    to_within (ContentChanged r.body path l.content) (λ (x : Line). ContentChanged r.body path l.content x.content)
    (λ c. record l { content = c }) _ _ (in_content act r.body path l.content)
    (λ c h. h) (content_changed act r.body path l.content)

record LinesChanged (r : Reading) (path : List Part) (from to : List Line) : Type 0 where
  pre : List Line
  post : List Line
  old : Line
  now : Line
  was : from ≡ pre ++ old ∷ post
  is : to ≡ pre ++ now ∷ post
  content : ContentChanged (reading_after_lines r pre).body path old.content now.content

lines_changed : (act : Act) (path : List Part) (r : Reading) (es : List Ended) (last : Line)
    → EachTo (λ p. LinesChanged r path (map line_of es ++ last ∷ []) (page_lines p))
    (in_lines (in_line act path) r es last)
lines_changed act path r [] last =
    to_within (λ (x : Line). ContentChanged r.body path last.content x.content)
    (λ p. LinesChanged r path (last ∷ []) (page_lines p))
    (λ l. record { ended = []; last = l }) [] [] (in_line act path r last)
    (λ l h. record { pre = []; post = []; old = last; now = l; was = refl; is = refl; content = h })
    (line_changed act path r last)
lines_changed act path r (e ∷ es) last =
    to_or_else (λ p. LinesChanged r path (map line_of (e ∷ es) ++ last ∷ []) (page_lines p)) _ _
    (to_within (λ (x : Line). ContentChanged r.body path e.line.content x.content)
    (λ p. LinesChanged r path (map line_of (e ∷ es) ++ last ∷ []) (page_lines p))
    (λ l. record { ended = record { line = l; newline = e.newline } ∷ es; last = last }) []
    (e.newline.text ++ page_text (record { ended = es; last = last })) (in_line act path r e.line)
    (λ l h. record {
      pre = [];
      post = map line_of es ++ last ∷ [];
      old = e.line;
      now = l;
      was = refl;
      is = refl;
      content = h;
    })
    (line_changed act path r e.line))
    (to_within (λ p. LinesChanged (after_line r e.line) path (map line_of es ++ last ∷ []) (page_lines p))
    (λ p. LinesChanged r path (map line_of (e ∷ es) ++ last ∷ []) (page_lines p))
    (λ b. record { ended = e ∷ b.ended; last = b.last }) (text_of (ended_leaves e)) []
    (in_lines (in_line act path) (after_line r e.line) es last)
    (λ p h. record {
      pre = e.line ∷ h.pre;
      post = h.post;
      old = h.old;
      now = h.now;
      was = ap (λ l. e.line ∷ l) h.was;
      is = ap (λ l. e.line ∷ l) h.is;
      content = h.content;
    })
    (lines_changed act path (after_line r e.line) es last))

document_changed : (act : Act) (path : List Part) (s : Document)
    → EachTo (λ s'. LinesChanged start path (lines s) (lines s')) (nested act path s)
document_changed act path s =
    to_within (λ p. LinesChanged start path (lines s) (page_lines p))
    (λ s'. LinesChanged start path (lines s) (lines s')) (with_page s) _ []
    (in_lines (in_line act path) start s.ended s.last) (λ p h. h) (lines_changed act path start s.ended s.last)

-- ---- what a line says of its value

-- of the key parts that its key continues from
abbrev ways : List Part → Name → List Mention
ways body name = map (below body) (keyed_mentions (keys_of name.key) [])

abbrev own_run : List Part → Name → Value → List Mention
own_run body name v = run (body ++ step 0 (Some name)) (value (body_fact v.body)) (entries_mentions 0 v.nested)

line_says : (body : List Part) (name : Name) (v : Value)
    → map (below body) (keyval_mentions name v) ≡ ways body name ++ (own_run body name v ++ [])
line_says body name v =
    let p : List Part = map key (keys_of name.key) in
    let dots : List Mention = keyed_mentions (keys_of name.key) [] in
    let ms : List Mention = valued_mentions (value (body_fact v.body)) (entries_mentions 0 v.nested) in
    let deep : List Mention = map (below (body ++ p)) (entries_mentions 0 v.nested) in
    ap (map (below body)) (keyed_split (keys_of name.key) ms) ∙ map-append (below body) dots (map (below p) ms)
    ∙ ap (λ (l : List Mention). ways body name ++ l)
    (map_twice body p ms
    ∙ ap (λ (q : List Part). record { path = q; kind = value (body_fact v.body) } ∷ deep) (append-nil (body ++ p))
    ∙ sym (append-nil (own_run body name v)))

-- a key's parts are no values
ways_count : (c : Count) (body : List Part) (name : Name) → (count_after c (ways body name)).values ≡ c.values
ways_count c body name =
    let ks : List (List ℕ) = keys_of name.key in
    let dots : List Mention = keyed_mentions ks [] in
    let none : valued dots ≡ 0 = valued-keyed (key_value name.key.first) (map further_value name.key.more) [] in
    omega (arith, count_after-values c (ways body name), valued-below body dots, none)

-- ---- in the document

-- One line has another value, and the document has it at the path of the line's key, which the path of the change goes
-- through or to. The line's own value, old or new, has the number of the values in the lines before.
pub record IsLineValueChanged (path : List Part) (s to : Document) : Type 0 where
  pub at : List Part
  pub more : List Part
  pub name : Name
  pub old : Value
  pub value : Value
  pub before : List Line
  pub after : List Line
  pub line : Line
  pub line' : Line
  pub place : path ≡ at ++ more
  pub was : lines s ≡ before ++ line ∷ after
  pub is : lines to ≡ before ++ line' ∷ after
  pub content : line.content ≡ keyval name old
  pub content' : line'.content ≡ keyval name value
  pub here : (reading_after_lines start before).body ++ step 0 (Some name) ≡ at
  pub other : HasOtherValue s to at value
  pub fact : other.fact ≡ body_fact old.body
  pub entries : other.entries ≡ old.nested
  pub number : other.count.values ≡ (count_from no_count start (filter_map line_statement before)).values

module _ (s to : Document) (path : List Part) (rules : Rules (mentions_in s))
    (h : LinesChanged start path (lines s) (lines to)) where
  abbrev body : List Part
  body = (reading_after_lines start h.pre).body

  abbrev at : List Part
  at = body ++ step 0 (Some h.content.name)

  abbrev now : Value
  now = h.content.now

  -- as `set` changes it
  abbrev set_at_key : LinesSet start at now (lines s) (lines to)
  set_at_key =
      let c = h.content in
      record {
        pre = h.pre;
        post = h.post;
        old = h.old;
        now = h.now;
        was = h.was;
        is = h.is;
        content = record {
          name = c.name;
          old = c.old;
          now = c.now;
          more = [];
          was = c.was;
          is = c.is;
          place = sym (append-nil at);
          changed = λ nested_rules. set_here (Some c.name) (body_fact c.old.body) c.old.nested c.now;
        };
      }

  beside : IsBeside at (lines_mentions start h.pre) (map (below body) (keyval_mentions h.content.name h.content.old))
      (lines_mentions (reading_after_lines start h.pre) h.post)
  beside =
      let c = h.content in
      beside_keyval h.pre h.post c.name c.old
      (subst Rules (ap (lines_mentions start) h.was ∙ whole_mentions h.pre h.post h.old c.name c.old c.was) rules)

  abbrev one_set : IsOneSet s to at now set_at_key
  one_set =
      let c = h.content in
      let ks : List (List ℕ) = keys_of c.name.key in
      record {
        set = record {
          name = Some c.name;
          fact = body_fact c.old.body;
          entries = c.old.nested;
          before = ways body c.name;
          after = [];
          was = line_says body c.name c.old;
          is = line_says body c.name c.now;
          disjoint_before =
              disjoint_below body (map key ks) (keyed_mentions ks [])
              (keyed_disjoint (key_value c.name.key.first) (map further_value c.name.key.more));
          disjoint_after = tt;
        };
        disjoint_left = beside.before;
        disjoint_right = beside.after;
      }

  ends : EndsInKey at
  ends =
      let k = h.content.name.key in
      let e = ends_keys body (key_value k.first) (map further_value k.more) in
      (e.1, ap last_part e.2 ∙ last_part-snoc e.0 (key e.1))

  in_place : IsOtherValue s to at now set_at_key one_set
  in_place = value_in_place s to at now set_at_key one_set ends

  values_before : in_place.other.count.values ≡ (count_of_lines h.pre).values
  values_before = ap (λ (c : Count). c.values) in_place.count ∙ ways_count (count_of_lines h.pre) body h.content.name

  value_changed : IsLineValueChanged path s to
  value_changed = record {
    at = at;
    more = h.content.more;
    name = h.content.name;
    old = h.content.old;
    value = now;
    before = h.pre;
    after = h.post;
    line = h.old;
    line' = h.now;
    place = h.content.place;
    was = h.was;
    is = h.is;
    content = h.content.was;
    content' = h.content.is;
    here = refl;
    other = in_place.other;
    fact = in_place.fact;
    entries = in_place.entries;
    number = values_before;
  }

-- A change inside a line's value gives the document another value at the path of the line's key.
pub nested_value : (act : Act) (path : List Part) (s : Document) (c : Changed Document) → Rules (mentions_in s)
    → nested act path s ≡ Some c → IsLineValueChanged path s c.to
nested_value act path s c rules e =
    value_changed s c.to path rules
    (the_to (λ s'. LinesChanged start path (lines s) (lines s')) (nested act path s) c e (document_changed act path s))

-- A line with another value in its keyval, beside the same lines.
pub replaced_value : (s to : Document) (pre post : List Line) (l l' : Line) (name : Name) (old now : Value)
    → Rules (mentions_in s)
    → lines s ≡ pre ++ l ∷ post → l.content ≡ keyval name old → lines to ≡ pre ++ l' ∷ post
    → l'.content ≡ keyval name now
    → HasOtherValue s to ((reading_after_lines start pre).body ++ step 0 (Some name)) now
replaced_value s to pre post l l' name old now rules was content is content' =
    let p : List Part = (reading_after_lines start pre).body ++ step 0 (Some name) in
    let changed : LinesChanged start p (lines s) (lines to) = record {
      pre = pre;
      post = post;
      old = l;
      now = l';
      was = was;
      is = is;
      content =
          record {
            name = name;
            old = old;
            now = now;
            more = [];
            was = content;
            is = content';
            place = sym (append-nil p);
          };
    } in
    (in_place s to p rules changed).other

-- ---- the number of a line's value

values_counted : (c : Count) (r : Reading) (ss : List Statement)
    → (count_from c r ss).values ≡ c.values + valued (mentions_from r ss)
values_counted c r [] = omega arith
values_counted c r (s ∷ ss) =
    let ms : List Mention = statement_mentions r s in
    omega (
      arith,
      values_counted (next_count c ms) (next_reading r s) ss,
      count_after-values c ms,
      valued-append ms (mentions_from (next_reading r s) ss),
    )

-- the number of a keyval's value on a line after these
line_number : (d : Document) (pre post : List Line) (l : Line) (name : Name) (v : Value) → Rules (mentions_in d)
    → lines d ≡ pre ++ l ∷ post → l.content ≡ keyval name v
    → last_number is_value value_number
    (numbered_at ((reading_after_lines start pre).body ++ step 0 (Some name)) (numbered_in d))
    ≡ Some (count_of_lines pre).values
line_number d pre post l name v rules whole content =
    let r : Reading = reading_after_lines start pre in
    let p : List Part = r.body ++ step 0 (Some name) in
    let left : List Mention = lines_mentions start pre in
    let right : List Mention = lines_mentions r post in
    let earlier : List Mention = left ++ ways r.body name in
    let its_run : List Mention = own_run r.body name v in
    let said : mentions_in d ≡ earlier ++ (its_run ++ right) =
    ap (lines_mentions start) whole ∙ whole_mentions pre post l name v content
    ∙ ap (λ (ms : List Mention). left ++ (ms ++ right)) (line_says r.body name v)
    ∙ regroup left (ways r.body name) its_run right in
    let count : valued earlier ≡ (count_of_lines pre).values =
    omega (
      arith,
      valued-append left (ways r.body name),
      count_after-values no_count (ways r.body name),
      ways_count no_count r.body name,
      values_counted no_count start (filter_map line_statement pre),
      ap valued (lines_mentions-statements start pre),
    ) in
    number_of_value p d earlier (record { path = p; kind = value (body_fact v.body) })
    (map (below p) (entries_mentions 0 v.nested) ++ right) rules said refl refl
    ∙ ap (λ (n : ℕ). Some n) count
  where
    regroup : (a b c d : List Mention) → a ++ ((b ++ (c ++ [])) ++ d) ≡ (a ++ b) ++ (c ++ d)
    regroup a b c d = simp (append_assoc, append-nil) refl

-- The line's value has one number in both documents.
pub line_value_number : (path : List Part) (s to : Document) (h : IsLineValueChanged path s to) → Rules (mentions_in s)
    → last_number is_value value_number (numbered_at h.at (numbered_in s)) ≡ Some h.other.count.values
line_value_number path s to h rules =
    subst (λ (q : List Part).
    last_number is_value value_number (numbered_at q (numbered_in s)) ≡ Some h.other.count.values) h.here
    (line_number s h.before h.after h.line h.name h.old rules h.was h.content ∙ ap (λ (n : ℕ). Some n) (sym h.number))

pub new_line_value_number : (path : List Part) (s to : Document) (h : IsLineValueChanged path s to)
    → Rules (mentions_in to)
    → last_number is_value value_number (numbered_at h.at (numbered_in to)) ≡ Some h.other.count.values
new_line_value_number path s to h rules =
    subst (λ (q : List Part).
    last_number is_value value_number (numbered_at q (numbered_in to)) ≡ Some h.other.count.values) h.here
    (line_number to h.before h.after h.line' h.name h.value rules h.is h.content'
    ∙ ap (λ (n : ℕ). Some n) (sym h.number))
