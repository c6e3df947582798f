-- Where dots lead to a path from the bodies of lines: the number of the last such keyval, and where its line ends.
--
-- What is said of dots has the number of the next value, which is that of the keyval on whose line they are. No later
-- line's key leads to the path, and by `OneBase` no key in braces does; so what is said last of dots there is said by
-- that line, and the number that is known of the node is that of the line's value.
--
-- Theorem: `dotted_at`.
use Rattle.std.proofs.Common.{◌≡◌, ℕ, zero, suc, Bool, true, false, List, [], ◌∷◌, ◌++◌, length, map, take, slice_get}
use Rattle.std.proofs.Common.{refl, sym, ap, subst, ◌∙◌, append_assoc, length-append, arith, Option, Some, None}
use Rattle.std.proofs.Common.{◌⊎◌, inl, inr}
use Rattle.std.specs.List.{cons_option}
use Rattle.std.proofs.lemmas.List.{map-append, append-nil, length-map}
use Rattle.keep_types.specs.declared.syntax.Owner.TheVariants as owner
use Rattle.keep_types.specs.declared.syntax.Statement.{Statement as Listed}
use Rattle.keep_types.specs.declared.syntax.ValueInfo.{ValueInfo}
use Rattle.keep_syntax.specs.Tree.{Written, Gap, Name, Value, Content, blank, keyval, header, element, Line, Ended}
use Rattle.keep_syntax.specs.Tree.{Document}
use Rattle.keep_syntax.specs.Numbered as syntax
use Rattle.keep_path.specs.Path.{Part, key, same_path}
use Rattle.keep_path.specs.NodeInfos.{LineNumbers}
use Rattle.keep_meaning.specs.Marks.{MentionKind, value, Mention, Reading, Statement, start, below}
use Rattle.keep_meaning.specs.Marks.{keyval as keyval_statement}
use Rattle.keep_meaning.specs.Fact.{Fact}
use Rattle.keep_meaning.specs.Meaning.{keys_of, key_value, further_value, body_fact, valued_mentions, keyed_mentions}
use Rattle.keep_meaning.specs.Meaning.{entries_mentions, step, keyval_mentions, line_mentions, after_line}
use Rattle.keep_meaning.specs.Meaning.{lines_mentions, reading_after_lines, line_of, lines, mentions_in, statement_of}
use Rattle.keep_meaning.specs.Counts.{is_value, line_statement, no_count, numbered_in, statements_in}
use Rattle.keep_meaning.specs.Nodes.{is_at, numbered_at, last_number, value_number, is_dotted}
use Rattle.keep_meaning.proofs.Shared.{count_from-statements, valued, valued-append, valued-below, valued-keyed}
use Rattle.keep_edit_spec.specs.Lines.{last_line, leads_dotted, ended_text}
use Rattle.keep_edit_spec.proofs.Common.Runs.{AllOf, SomeOf, Rules, all_join, same_path-sound, same_path-refl}
use Rattle.keep_edit_spec.proofs.Common.Doubles.{IsMentioned, has_some}
use Rattle.keep_edit_spec.proofs.Common.LineLaws.{lines_mentions-append}
use Rattle.keep_edit_spec.proofs.Common.LineStatements.{statements-append, statements_of}
use Rattle.keep_edit_spec.proofs.Common.SetDocument.{mentions_of}
use Rattle.keep_edit_spec.proofs.Common.SetLaw.{keyed_split}
use Rattle.keep_edit_spec.proofs.Common.Stops.{some_unbelow}
use Rattle.keep_edit_spec.proofs.Common.ValueNumber.{NoneAt, number_of_value, number_of_last, false_unless}
use Rattle.keep_edit_spec.proofs.Remove.RemoveLinePlace.{head_line, tail_lines, head_text, lines_split, IsPageLine}
use Rattle.keep_edit_spec.proofs.Remove.RemoveLinePlace.{page_line, IsOwnLine, IsLineValue, line_value}
use Rattle.keep_edit_spec.proofs.Remove.LineOfValue.{line_numbers}
use Rattle.keep_edit_spec.proofs.Remove.RemoveSectionPlace.{none_some}
use Rattle.keep_edit_spec.proofs.Insert.DottedBase.{IsDottedIn, in_left, in_right, in_below, deep_in, nested_keyval}
use Rattle.keep_edit_spec.proofs.Insert.DottedBase.{dotted_where}
use Rattle.keep_edit_spec.proofs.Insert.LineBefore.{mentions_something, IsLineBefore}
use Rattle.keep_edit_spec.proofs.Insert.LinesPut.{prefix_of, line_begins, prefix_past, prefix_one}
use Rattle.keep_edit_spec.proofs.Insert.OneBase.{IsLineBase, line_base, not_in_braces}

-- ---- the last that is said

module _ (is : MentionKind → Bool) (path : List Part) where
  record IsLastMentioned (ms : List Mention) : Type 0 where
    earlier : List Mention
    mention : Mention
    later : List Mention
    whole : ms ≡ earlier ++ mention ∷ later
    place : mention.path ≡ path
    tells : is mention.kind ≡ true
    none : AllOf (NoneAt is path) later

  none_at : (ms : List Mention) → (SomeOf (IsMentioned is path) ms → ⊥) → AllOf (NoneAt is path) ms
  none_at [] unsaid = tt
  none_at (m ∷ ms) unsaid = (
    (λ e. false_unless (is m.kind) (λ t. unsaid (inl (same_path-sound m.path path e, t)))),
    none_at ms (λ s. unsaid (inr s)),
  )

  never : (ms : List Mention) → AllOf (NoneAt is path) ms → SomeOf (IsMentioned is path) ms → ⊥
  never [] h s = s
  never (m ∷ ms) h (inl s) =
      let here : is_at path m ≡ true = ap (λ (q : List Part). same_path q path) s.0 ∙ same_path-refl path in
      let no : is m.kind ≡ false = h.0 here in
      let yes : is m.kind ≡ true = s.1 in
      absurd cc
  never (m ∷ ms) h (inr s) = never ms h.1 s

  look : (ms : List Mention) → IsLastMentioned ms ⊎ AllOf (NoneAt is path) ms
  look [] = inr tt
  look (m ∷ ms) = elim (look ms) [
    | inl h ↦
        inl (record {
          earlier = m ∷ h.earlier;
          mention = h.mention;
          later = h.later;
          whole = ap (λ (l : List Mention). m ∷ l) h.whole;
          place = h.place;
          tells = h.tells;
          none = h.none;
        })
    | inr none ↦ by (is_at path m) refl (is m.kind) refl none
  ]
    where
      by : (b : Bool) → is_at path m ≡ b → (c : Bool) → is m.kind ≡ c → AllOf (NoneAt is path) ms
          → IsLastMentioned (m ∷ ms) ⊎ AllOf (NoneAt is path) (m ∷ ms)
      by true e true k none =
          inl (record {
            earlier = [];
            mention = m;
            later = ms;
            whole = refl;
            place = same_path-sound m.path path e;
            tells = k;
            none = none;
          })
      by true e false k none = inr ((λ h. k), none)
      by false e c k none = inr ((λ h. absurd (let z : is_at path m ≡ true = h in cc)), none)

  last_mentioned : (ms : List Mention) → SomeOf (IsMentioned is path) ms → IsLastMentioned ms
  last_mentioned ms s = elim (look ms) [ inl h ↦ h | inr none ↦ absurd (never ms none s) ]

-- ---- the statements up to a keyval's line

taken_to : {A : Type 0} (xs : List A) (y : A) (ys : List A) (n : ℕ) → n ≡ length xs
    → take (suc n) (xs ++ y ∷ ys) ≡ xs ++ y ∷ []
taken_to [] y [] zero e = refl
taken_to [] y (z ∷ ys) zero e = refl
taken_to [] y ys (suc n) e = absurd (omega (arith, e))
taken_to (x ∷ xs) y ys zero e = absurd (omega (arith, e))
taken_to {A} (x ∷ xs) y ys (suc n) e = ap (λ (l : List A). x ∷ l) (taken_to xs y ys n (omega (arith, e)))

counted_to : (path : List Part) (s : Document) (pre rest : List Ended) (was : s.ended ≡ pre ++ rest)
    (v : IsLineValue path s pre rest) (i : ℕ) → i ≡ length pre
    → statements_of (take (suc i) (lines s)) ≡ take (suc v.number) (statements_in s)
counted_to path s pre rest was v i number =
    let earlier : List Statement = statements_of (map line_of pre) in
    let l : Line = head_line rest s.last in
    let stated : Statement = keyval_statement (keyval_mentions v.its_line.name v.its_line.held) in
    let says : line_statement l ≡ Some stated = ap statement_of v.its_line.content in
    let there : lines s ≡ map line_of pre ++ l ∷ tail_lines rest s.last =
    ap (λ (es : List Ended). map line_of es ++ s.last ∷ []) was ∙ lines_split pre rest s.last in
    let so_many : v.number ≡ length earlier =
    omega (
      arith,
      ap (λ (n : LineNumbers). n.statement) (line_numbers path s pre rest was v),
      count_from-statements no_count start earlier,
    ) in
    ap (λ (ls : List Line). statements_of (take (suc i) ls)) there
    ∙ ap statements_of (taken_to (map line_of pre) l (tail_lines rest s.last) i
    (omega (arith, number, length-map pre line_of)))
    ∙ statements-append (map line_of pre) (l ∷ [])
    ∙ ap (λ (o : Option Statement). earlier ++ cons_option o []) says
    ∙ sym (taken_to earlier stated (statements_of (tail_lines rest s.last)) v.number so_many)
    ∙ ap (take (suc v.number)) (sym (ap statements_of there
    ∙ statements-append (map line_of pre) (l ∷ tail_lines rest s.last)
    ∙ ap (λ (o : Option Statement). earlier ++ cons_option o (statements_of (tail_lines rest s.last))) says))

-- ---- the line

record IsKeyvalLine (a : List Part) (r : Reading) (c : Content) : Type 0 where
  name : Name
  held : Value
  content : c ≡ keyval name held
  mentioned : SomeOf (IsMentioned is_dotted a) (map (below r.body) (keyed_mentions (keys_of name.key) []))

keyval_content : (a : List Part) (r : Reading) (before after : Gap) (comment : Option Written) (c : Content)
    → leads_dotted a r (record { before = before; content = c; after = after; comment = comment }) ≡ true
    → IsKeyvalLine a r c
keyval_content a r before after comment blank h = absurd cc
keyval_content a r before after comment (header b k x) h = absurd cc
keyval_content a r before after comment (element b k x) h = absurd cc
keyval_content a r before after comment (keyval name v) h =
    record {
      name = name;
      held = v;
      content = refl;
      mentioned = has_some is_dotted a (map (below r.body) (keyed_mentions (keys_of name.key) [])) h;
    }

-- The last keyval on a line that continues from the path by dots: the number of its value, and its line.
pub record IsDottedAt (a : List Part) (s : Document) (i : ℕ) : Type 0 where
  pub number : ℕ
  pub is : last_number is_dotted value_number (numbered_at a (numbered_in s)) ≡ Some number
  pub own : ValueInfo
  pub here : slice_get (syntax.values s) number ≡ Some own
  pub line : ℕ
  pub owned : own.owner ≡ owner.Line line
  pub statement : Listed
  pub there : slice_get (syntax.statements s) line ≡ Some statement
  pub ends : statement.line.end ≡ line_begins s (suc i)
  pub counted : statements_of (take (suc i) (lines s)) ≡ take (suc line) (statements_in s)
  pub before : IsLineBefore s (suc i)
  pub base : IsLineBase s a (reading_after_lines start (take i (lines s))).body

module _ (a : List Part) (s : Document) (rules : Rules (mentions_in s)) (pre rest : List Ended)
    (was : s.ended ≡ pre ++ rest) where
  abbrev r : Reading
  r = reading_after_lines start (map line_of pre)

  abbrev l : Line
  l = head_line rest s.last

  abbrev left : List Mention
  left = lines_mentions start (map line_of pre)

  abbrev right : List Mention
  right = lines_mentions (after_line r l) (tail_lines rest s.last)

  lines_are : lines s ≡ map line_of pre ++ (l ∷ tail_lines rest s.last)
  lines_are = ap (λ (es : List Ended). map line_of es ++ s.last ∷ []) was ∙ lines_split pre rest s.last

  mentioned_are : mentions_in s ≡ left ++ (line_mentions r l ++ right)
  mentioned_are =
      ap (lines_mentions start) lines_are ∙ lines_mentions-append start (map line_of pre) (l ∷ tail_lines rest s.last)

  module _ (name : Name) (v : Value) (content : l.content ≡ keyval name v) (base : IsLineBase s a r.body) where
    abbrev keys : List (List ℕ)
    keys = keys_of name.key

    abbrev inner : List Mention
    inner = valued_mentions (value (body_fact v.body)) (entries_mentions 0 v.nested)

    -- no key in the line's own value
    not_nested : SomeOf (IsMentioned is_dotted a) (map (below r.body) (map (below (map key keys)) inner)) → ⊥
    not_nested h =
        let u = some_unbelow is_dotted r.body a (map (below (map key keys)) inner) h in
        let w = some_unbelow is_dotted (map key keys) u.0 inner u.1.1 in
        let whole : a ≡ r.body ++ (map key keys ++ w.0) = u.1.0 ∙ ap (λ (q : List Part). r.body ++ q) w.1.0 in
        let run : IsDottedIn (map (below r.body) (keyval_mentions name v)) (r.body ++ (map key keys ++ w.0)) =
        in_below r.body (map key keys ++ w.0) (keyval_mentions name v)
        (deep_in name w.0 inner (nested_keyval v w.0 w.1.1)) in
        let line : IsDottedIn (line_mentions r l) a =
        subst (IsDottedIn (line_mentions r l)) (sym whole)
        (subst (λ (ms : List Mention). IsDottedIn ms (r.body ++ (map key keys ++ w.0)))
        (sym (mentions_of r l name v content)) run) in
        not_in_braces s a r.body rules base
        (subst (λ (ms : List Mention). IsDottedIn ms a) (sym mentioned_are)
        (in_right a left (line_mentions r l ++ right) (in_left a (line_mentions r l) right line)))

    -- nor any later one
    not_later : last_line (leads_dotted a) (after_line r l) (tail_lines rest s.last) ≡ None
        → SomeOf (IsMentioned is_dotted a) right → ⊥
    not_later none h = elim (dotted_where a (after_line r l) (tail_lines rest s.last) h) [
      | inl some ↦ none_some (last_line (leads_dotted a) (after_line r l) (tail_lines rest s.last)) none some
      | inr held ↦
          not_in_braces s a r.body rules base
          (subst (λ (ms : List Mention). IsDottedIn ms a) (sym mentioned_are)
          (in_right a left (line_mentions r l ++ right) (in_right a (line_mentions r l) right held)))
    ]

    number_is : SomeOf (IsMentioned is_dotted a) (map (below r.body) (keyed_mentions keys []))
        → last_line (leads_dotted a) (after_line r l) (tail_lines rest s.last) ≡ None
        → last_number is_dotted value_number (numbered_at a (numbered_in s))
        ≡ last_number is_value value_number (numbered_at (r.body ++ step 0 (Some name)) (numbered_in s))
    number_is some none_later =
        let fact : Fact = body_fact v.body in
        let nested : List Mention = entries_mentions 0 v.nested in
        let ways : List Mention = map (below r.body) (keyed_mentions keys []) in
        let top : Mention = below r.body (below (map key keys) (record { path = []; kind = value fact })) in
        let deep : List Mention = map (below r.body) (map (below (map key keys)) nested) in
        let line : line_mentions r l ≡ ways ++ top ∷ deep =
        mentions_of r l name v content ∙ ap (map (below r.body)) (keyed_split keys inner)
        ∙ map-append (below r.body) (keyed_mentions keys []) (map (below (map key keys)) inner) in
        let mentioned : mentions_in s ≡ (left ++ ways) ++ top ∷ (deep ++ right) =
        mentioned_are ∙ ap (λ (x : List Mention). left ++ (x ++ right)) line ∙ regroup left ways deep right top in
        let d = last_mentioned is_dotted a ways some in
        let last : mentions_in s ≡ (left ++ d.earlier) ++ d.mention ∷ (d.later ++ top ∷ (deep ++ right)) =
        mentioned ∙ ap (λ (x : List Mention). (left ++ x) ++ top ∷ (deep ++ right)) d.whole
        ∙ regroup_last left d.earlier d.later (top ∷ (deep ++ right)) d.mention in
        let nested_none : AllOf (NoneAt is_dotted a) (top ∷ deep) = none_at is_dotted a (top ∷ deep) not_nested in
        let none : AllOf (NoneAt is_dotted a) (d.later ++ top ∷ (deep ++ right)) =
        all_join (NoneAt is_dotted a) d.later (top ∷ (deep ++ right)) d.none
        (all_join (NoneAt is_dotted a) (top ∷ deep) right nested_none
        (none_at is_dotted a right (not_later none_later))) in
        let few : valued (left ++ d.earlier) ≡ valued (left ++ ways) =
        omega (
          arith,
          valued-append left d.earlier,
          valued-append left ways,
          valued-append d.earlier (d.mention ∷ d.later),
          ap valued d.whole,
          valued-below r.body (keyed_mentions keys []),
          valued-keyed (key_value name.key.first) (map further_value name.key.more) [],
        ) in
        number_of_last is_dotted a s (left ++ d.earlier) d.mention (d.later ++ top ∷ (deep ++ right)) last d.place
        d.tells none
        ∙ ap Some few
        ∙ sym (number_of_value (r.body ++ step 0 (Some name)) s (left ++ ways) top (deep ++ right) rules mentioned
        (ap (λ (x : List Part). r.body ++ x) (append-nil (map key keys))) refl)
      where
        regroup : (a b c d : List Mention) (m : Mention) → a ++ ((b ++ m ∷ c) ++ d) ≡ (a ++ b) ++ m ∷ (c ++ d)
        regroup a b c d m = simp append_assoc refl

        regroup_last : (a b c d : List Mention) (m : Mention) → (a ++ (b ++ m ∷ c)) ++ d ≡ (a ++ b) ++ m ∷ (c ++ d)
        regroup_last a b c d m = simp append_assoc refl

pub dotted_at : (a : List Part) (s : Document) (i : ℕ) → Rules (mentions_in s)
    → last_line (leads_dotted a) start (lines s) ≡ Some i → IsDottedAt a s i
dotted_at a s i rules found =
    let h : IsPageLine (leads_dotted a) start s.ended s.last i =
    page_line (leads_dotted a) start s.ended s.last i found in
    let l : Line = head_line h.rest s.last in
    let r : Reading = reading_after_lines start (map line_of h.pre) in
    let k : IsKeyvalLine a r l.content = keyval_content a r l.before l.after l.comment l.content h.passes in
    let own_path : List Part = r.body ++ step 0 (Some k.name) in
    let own : IsOwnLine own_path s h.pre h.rest =
    record { name = k.name; held = k.held; content = k.content; named = refl } in
    let v : IsLineValue own_path s h.pre h.rest = line_value own_path s rules h.pre h.rest h.was own in
    let base : IsLineBase s a r.body =
    line_base s a (map line_of h.pre) l (tail_lines h.rest s.last) (lines_are a s rules h.pre h.rest h.was) h.passes in
    let prefix : prefix_of (suc i) s.ended s.last ≡ ended_text h.pre ++ head_text h.rest s.last =
    ap (λ (es : List Ended). prefix_of (suc i) es s.last) h.was
    ∙ prefix_past h.pre 1 h.rest s.last (suc i) (omega (arith, h.number))
    ∙ ap (λ (t : List ℕ). ended_text h.pre ++ t) (prefix_one h.rest s.last) in
    let here : reading_after_lines start (take i (lines s)) ≡ r =
    ap (λ (n : ℕ). reading_after_lines start (take n (lines s))) h.number
    ∙ ap (λ (ls : List Line). reading_after_lines start (take (length h.pre) ls))
    (lines_are a s rules h.pre h.rest h.was)
    ∙ ap (reading_after_lines start) (take_lines h.pre (l ∷ tail_lines h.rest s.last)) in
    record {
      number = v.value.number;
      is = number_is a s rules h.pre h.rest h.was k.name k.held k.content base k.mentioned h.none_later ∙ v.value.is;
      own = v.own;
      here = v.value.here;
      line = v.number;
      owned = v.line;
      statement = v.statement;
      there = v.here;
      ends = omega (
        arith,
        v.line_ends,
        v.line_begins,
        ap (λ (t : List ℕ). length t) prefix,
        length-append (ended_text h.pre) (head_text h.rest s.last),
      );
      counted = counted_to own_path s h.pre h.rest h.was v i h.number;
      before =
          record {
            pre = h.pre;
            rest = h.rest;
            was = h.was;
            number = ap suc h.number;
            kind = ap mentions_something k.content;
          };
      base = subst (λ (x : Reading). IsLineBase s a x.body) (sym here) base;
    }
  where
    take_lines : (pre : List Ended) (post : List Line) → take (length pre) (map line_of pre ++ post) ≡ map line_of pre
    take_lines [] [] = refl
    take_lines [] (y ∷ post) = refl
    take_lines (x ∷ pre) post = ap (λ (ls : List Line). x.line ∷ ls) (take_lines pre post)
