-- Where `remove` cuts whole lines, or one up to its comment: found by the statement of the line.
--
-- The definition finds the line by recursion over lines; the code has the stored statement and value. `line_value`
-- joins the two: the line cuts the lists of mentions, statements and values at the same counts. Two cases are left. A
-- line with a comment is cut from its first key up to the comment (`cleared_placed`); a line without one is cut whole
-- (`dropped_placed`). The byte after the white space that follows the value decides which it is (`next_byte`). A cut
-- begins and ends before an ASCII byte or at the end of the text (`IsLow`), so it never splits a character.
--
-- Theorems: `cleared_placed` and `dropped_placed`: the cut is at `line_place` of the value and its statement.
use Rattle.std.proofs.Common.{◌≡◌, ℕ, zero, suc, ◌+◌, Bool, true, false, cond, List, [], ◌∷◌, ◌++◌, length, map, drop}
use Rattle.std.proofs.Common.{slice_get, refl, sym, ap, subst, ◌∙◌, append_assoc, length-append, arith, Option, Some}
use Rattle.std.proofs.Common.{None, drop_at}
use Rattle.std.proofs.lemmas.Option.{same_Some}
use Rattle.std.specs.Prelude.{nat_le, not, IsTrue}
use Rattle.std.specs.List.{list_all, prefix_len, flat_map, AllByRecursion}
use Rattle.std.proofs.lemmas.Bool.Decides.{nat_tests}
use Rattle.std.proofs.lemmas.List.{map-append, append-nil}
use Rattle.keep_types.specs.declared.leaf.Leaf.TheVariants as leaf
use Rattle.keep_types.specs.declared.leaf.Profile.{Profile}
use Rattle.keep_types.specs.declared.leaf.Profile.TheVariants.{Strict}
use Rattle.keep_token.specs.Abnf.{is_ws}
use Rattle.keep_token.specs.Leaves.{IsLeaf}
use Rattle.keep_token.specs.Pieces.{first}
use Rattle.keep_types.specs.declared.syntax.Owner.TheVariants as owner
use Rattle.keep_types.specs.declared.syntax.Statement.{Statement}
use Rattle.keep_types.specs.declared.syntax.StatementKind.TheVariants.{KeyVal}
use Rattle.keep_types.specs.declared.syntax.ValueInfo.{ValueInfo}
use Rattle.keep_syntax.specs.Tree.{Written, Gap, Name, Value, Content, blank, keyval, header, element, Line, Ended}
use Rattle.keep_syntax.specs.Tree.{Document, name_leaves, value_leaves, content_leaves, line_leaves, comment_leaves}
use Rattle.keep_syntax.specs.Tree.{ended_leaves, bom_leaves, text_of, text}
use Rattle.keep_syntax.specs.Grammar.{IsSpace, IsAfter, IsComment, IsLine, IsEnded, IsDocument, IsName, IsContent}
use Rattle.keep_syntax.specs.Numbered as syntax
use Rattle.keep_syntax.specs.Numbered.{span, width, Count, key_count, info, nested_of, entries_values, value_end}
use Rattle.keep_syntax.specs.Numbered.{line_start, line_values, line_statements, over_lines, next_line, first_line}
use Rattle.keep_syntax.specs.Numbered.{after_lines, statement}
use Rattle.keep_syntax.proofs.Shared.{over_ended, after_lines-at, after_lines-statements, after_lines-values}
use Rattle.keep_syntax.proofs.Shared.{key_first_solid, name_begins, is_solid, space_class, newline_class, comment_class}
use Rattle.keep_path.specs.Path.{Part}
use Rattle.keep_meaning.specs.Marks.{Mention, Reading, start, below}
use Rattle.keep_meaning.specs.Meaning.{body_fact, entries_mentions, step, line_mentions, after_line, lines_mentions}
use Rattle.keep_meaning.specs.Meaning.{reading_after_lines, line_of, lines, mentions_in}
use Rattle.keep_meaning.proofs.Shared.{valued, valued-append, valued-below, valued-content}
use Rattle.keep_edit_spec.specs.Changed.{Changed, IsChangeOf, place_of, framed_change, within}
use Rattle.keep_edit_spec.specs.Lines.{Page, page_text, ended_text, content_text, with_page, in_lines, drop_prefix}
use Rattle.keep_edit_spec.specs.Lines.{drop_lines, last_line}
use Rattle.keep_edit_spec.specs.Edits.{is_own, clear_line, without_lines}
use Rattle.keep_edit_spec.specs.Removal.{past_space, is_hash, line_place}
use Rattle.keep_edit_spec.proofs.Common.Runs.{Rules, same_path-sound}
use Rattle.keep_edit_spec.proofs.Common.Texts.{text_of-append}
use Rattle.keep_edit_spec.proofs.Common.LineLaws.{lines_mentions-append}
use Rattle.keep_edit_spec.proofs.Common.LineTexts.{clear_cases, drop_prefix-is}
use Rattle.keep_edit_spec.proofs.Common.SetDocument.{mentions_of}
use Rattle.keep_edit_spec.proofs.Common.ValueNumber.{number_of_value}
use Rattle.keep_edit_spec.proofs.Common.ValuesMention.{value_ends}
use Rattle.keep_edit_spec.proofs.Common.DoneAtValue.{EachOf, of_within, of_or_else}
use Rattle.keep_edit_spec.proofs.Remove.RemoveEntry.{named_split}
use Rattle.keep_edit_spec.proofs.Remove.RemovePlace.{run_ends, same_place, IsValueAt}
use Rattle.keep_edit_spec.proofs.Values.ValuePlace.{get_here}

-- ---- a line among lines

-- the first of these lines, those after it, and where it ends with its newline
abbrev pub head_line : List Ended → Line → Line
head_line [] last = last
head_line (e ∷ es) last = e.line

abbrev pub tail_lines : List Ended → Line → List Line
tail_lines [] last = []
tail_lines (e ∷ es) last = map line_of es ++ last ∷ []

abbrev pub head_text : List Ended → Line → List ℕ
head_text [] last = text_of (line_leaves last)
head_text (e ∷ es) last = text_of (ended_leaves e)

pub lines_head : (rest : List Ended) (last : Line)
    → map line_of rest ++ last ∷ [] ≡ head_line rest last ∷ tail_lines rest last
lines_head [] last = refl
lines_head (e ∷ es) last = refl

-- lists over lines, cut before a line and after it
abbrev pub over_tail : {A : Type 0} → (Count → Line → ℕ → List A) → Count → List Ended → Line → List A
over_tail f c [] last = []
over_tail f c (e ∷ es) last = over_lines f (next_line c e) es last

pub over_split : {A : Type 0} (f : Count → Line → ℕ → List A) (c : Count) (pre rest : List Ended) (last : Line)
    → over_lines f c (pre ++ rest) last ≡ over_ended f c pre ++ over_lines f (after_lines c pre) rest last
over_split f c [] rest last = refl
over_split {A} f c (e ∷ pre) rest last =
    let here : List A = f c e.line (c.at + width (ended_leaves e)) in
    ap (λ (l : List A). here ++ l) (over_split f (next_line c e) pre rest last)
    ∙ sym (append_assoc here (over_ended f (next_line c e) pre)
    (over_lines f (after_lines (next_line c e) pre) rest last))

pub over_head : {A : Type 0} (f : Count → Line → ℕ → List A) (c : Count) (rest : List Ended) (last : Line)
    → over_lines f c rest last ≡ f c (head_line rest last) (c.at + length (head_text rest last))
    ++ over_tail f c rest last
over_head f c [] last = sym (append-nil (f c last (c.at + width (line_leaves last))))
over_head f c (e ∷ es) last = refl

abbrev values_of : Count → Line → ℕ → List ValueInfo
values_of c l line_end = line_values c l

pub lines_split : (pre rest : List Ended) (last : Line)
    → map line_of (pre ++ rest) ++ last ∷ [] ≡ map line_of pre ++ (head_line rest last ∷ tail_lines rest last)
lines_split pre rest last =
    ap (λ (l : List Line). l ++ last ∷ []) (map-append line_of pre rest)
    ∙ append_assoc (map line_of pre) (map line_of rest) (last ∷ [])
    ∙ ap (λ (l : List Line). map line_of pre ++ l) (lines_head rest last)

pub prefix_valued : (r : Reading) (c : Count) (pre : List Ended)
    → valued (lines_mentions r (map line_of pre)) ≡ length (over_ended values_of c pre)
prefix_valued r c [] = refl
prefix_valued r c (e ∷ pre) =
    omega (
      arith,
      valued-append (line_mentions r e.line) (lines_mentions (after_line r e.line) (map line_of pre)),
      valued-content r (line_start c e.line) e.line.content,
      prefix_valued (after_line r e.line) (next_line c e) pre,
      length-append (line_values c e.line) (over_ended values_of (next_line c e) pre),
    )

pub prefix_text : (s : Document) (pre : List Ended)
    → (after_lines (first_line s) pre).at ≡ length (text_of (bom_leaves s.bom)) + length (ended_text pre)
prefix_text s pre = after_lines-at (first_line s) pre

-- ---- the line of a keyval

-- the value of a keyval's line, and its statement
pub record IsOwnLine (path : List Part) (s : Document) (pre rest : List Ended) : Type 0 where
  pub name : Name
  pub held : Value
  pub content : (head_line rest s.last).content ≡ keyval name held
  pub named : (reading_after_lines start (map line_of pre)).body ++ step 0 (Some name) ≡ path

pub own_line : (path : List Part) (s : Document) (pre rest : List Ended) (c : Content)
    → (head_line rest s.last).content ≡ c → is_own path (reading_after_lines start (map line_of pre)) c ≡ true
    → IsOwnLine path s pre rest
own_line path s pre rest blank e h = absurd cc
own_line path s pre rest (keyval name v) e h =
    record {
      name = name;
      held = v;
      content = e;
      named = same_path-sound ((reading_after_lines start (map line_of pre)).body ++ step 0 (Some name)) path h;
    }
own_line path s pre rest (header b k a) e h = absurd cc
own_line path s pre rest (element b k a) e h = absurd cc

pub record IsLineValue (path : List Part) (s : Document) (pre rest : List Ended) : Type 0 where
  pub own : ValueInfo
  pub value : IsValueAt path s own
  pub number : ℕ
  pub line : own.owner ≡ owner.Line number
  pub statement : Statement
  pub here : slice_get (syntax.statements s) number ≡ Some statement
  pub line_begins : statement.line.start ≡ length (text_of (bom_leaves s.bom)) + length (ended_text pre)
  pub line_ends : statement.line.end ≡ statement.line.start + length (head_text rest s.last)
  pub begins : statement.span.start ≡ statement.line.start + length (text_of (head_line rest s.last).before)
  pub ends : own.span.end ≡ statement.span.start + length (content_text (head_line rest s.last).content)
  pub its_line : IsOwnLine path s pre rest
  pub keys : own.keys ≡ key_count its_line.name.key
  pub statements_before : number ≡ (after_lines (first_line s) pre).statements
  pub values_before : value.number ≡ (after_lines (first_line s) pre).values
  pub keys_before : own.first_key ≡ (after_lines (first_line s) pre).parts

width-append : (a b : List Written) → width (a ++ b) ≡ width a + width b
width-append a b = ap (λ (t : List ℕ). length t) (text_of-append a b) ∙ length-append (text_of a) (text_of b)

module _ (path : List Part) (s : Document) (rules : Rules (mentions_in s)) (pre rest : List Ended)
    (was : s.ended ≡ pre ++ rest) (h : IsOwnLine path s pre rest) where
  pub line_value : IsLineValue path s pre rest
  line_value =
      let r : Reading = reading_after_lines start (map line_of pre) in
      let c : Count = after_lines (first_line s) pre in
      let l : Line = head_line rest s.last in
      let line_end : ℕ = c.at + length (head_text rest s.last) in
      let name : Name = h.name in
      let v : Value = h.held in
      let p = line_start c l in
      let at : ℕ = p.at + width (name_leaves name) in
      let own : ValueInfo = info p at (key_count name.key) v.body v.nested None in
      let st : Statement = statement c l line_end KeyVal (key_count name.key) (Some c.values) in
      let split = named_split 0 (Some name) (body_fact v.body) (entries_mentions 0 v.nested) in
      let left : List Mention = lines_mentions start (map line_of pre) in
      let right : List Mention = lines_mentions (after_line r l) (tail_lines rest s.last) in
      let lines_are : lines s ≡ map line_of pre ++ (l ∷ tail_lines rest s.last) =
      ap (λ (es : List Ended). map line_of es ++ s.last ∷ []) was ∙ lines_split pre rest s.last in
      let line_is : line_mentions r l ≡ map (below r.body) (split.ways ++ split.mention ∷ split.more) =
      mentions_of r l name v h.content ∙ ap (map (below r.body)) split.is in
      let mentioned : mentions_in s ≡ (left ++ map (below r.body) split.ways) ++ below r.body split.mention
      ∷ (map (below r.body) split.more ++ right) =
      ap (lines_mentions start) lines_are ∙ lines_mentions-append start (map line_of pre) (l ∷ tail_lines rest s.last)
      ∙ ap (λ (x : List Mention). left ++ (x ++ right))
      (line_is ∙ map-append (below r.body) split.ways (split.mention ∷ split.more))
      ∙ regroup left (map (below r.body) split.ways) (map (below r.body) split.more) right
      (below r.body split.mention) in
      let prefix : List ValueInfo = over_ended values_of (first_line s) pre in
      let inner : List ValueInfo = entries_values (nested_of p at (key_count name.key) v.body) v.nested in
      let values : syntax.values s ≡ prefix ++ own ∷ (inner ++ over_tail values_of c rest s.last) =
      ap (λ (es : List Ended). over_lines values_of (first_line s) es s.last) was
      ∙ over_split values_of (first_line s) pre rest s.last
      ∙ ap (λ (x : List ValueInfo). prefix ++ x) (over_head values_of c rest s.last)
      ∙ ap (λ (x : Content). prefix ++ (syntax.content_values p x ++ over_tail values_of c rest s.last)) h.content in
      let statements : syntax.statements s ≡ over_ended line_statements (first_line s) pre ++ st
      ∷ over_tail line_statements c rest s.last =
      ap (λ (es : List Ended). over_lines line_statements (first_line s) es s.last) was
      ∙ over_split line_statements (first_line s) pre rest s.last
      ∙ ap (λ (x : List Statement). over_ended line_statements (first_line s) pre ++ x)
      (over_head line_statements c rest s.last)
      ∙ ap (λ (x : Content).
      over_ended line_statements (first_line s) pre
      ++ (syntax.content_statements c l line_end x ++ over_tail line_statements c rest s.last)) h.content in
      let count : valued (left ++ map (below r.body) split.ways) ≡ length prefix =
      omega (
        arith,
        valued-append left (map (below r.body) split.ways),
        valued-below r.body split.ways,
        split.few,
        prefix_valued start (first_line s) pre,
      ) in
      let many : c.values ≡ length prefix = omega (arith, after_lines-values (first_line s) pre) in
      record {
        own = own;
        value = record {
          number = c.values;
          is = number_of_value path s (left ++ map (below r.body) split.ways) (below r.body split.mention)
              (map (below r.body) split.more ++ right)
              rules mentioned (ap (λ (x : List Part). r.body ++ x) split.place ∙ h.named) split.tells
              ∙ ap Some (count ∙ sym many);
          here = ap (λ (x : List ValueInfo). slice_get x c.values) values
              ∙ get_here prefix own (inner ++ over_tail values_of c rest s.last) c.values many;
        };
        number = c.statements;
        line = refl;
        statement = st;
        here = ap (λ (x : List Statement). slice_get x c.statements) statements
            ∙ get_here (over_ended line_statements (first_line s) pre) st (over_tail line_statements c rest s.last)
            c.statements (omega (arith, after_lines-statements (first_line s) pre));
        line_begins = prefix_text s pre;
        line_ends = refl;
        begins = refl;
        ends = omega (
          arith,
          value_long at v,
          ap (λ (x : Content). width (content_leaves x)) h.content,
          width-append (name_leaves name) (value_leaves v),
        );
        its_line = h;
        keys = refl;
        statements_before = refl;
        values_before = refl;
        keys_before = refl;
      }
    where
      regroup : (a b c d : List Mention) (m : Mention) → a ++ ((b ++ m ∷ c) ++ d) ≡ (a ++ b) ++ m ∷ (c ++ d)
      regroup a b c d m = simp append_assoc refl

      value_long : (at : ℕ) (v : Value) → value_end at v.body v.nested ≡ at + width (value_leaves v)
      value_long at v = value_ends at v.body v.nested

-- ---- the bytes after a value

space_all : (g : Gap) → IsSpace g → IsTrue (list_all is_ws (text_of g))
space_all [] h = refl
space_all (w ∷ []) h = subst (λ (t : List ℕ). IsTrue (list_all is_ws t)) (sym (append-nil w.text)) h.1.1
space_all (w ∷ v ∷ g) h = absurd h

pub record IsScanned (bytes : List ℕ) (at : ℕ) (after : Gap) (suffix : List ℕ) : Type 0 where
  pub prefix : List ℕ
  pub whole : bytes ≡ prefix ++ (text_of after ++ suffix)
  pub place : length prefix ≡ at
  pub blank : IsSpace after
  pub stops : is_ws (first suffix) ≡ false

module _ (bytes : List ℕ) (at : ℕ) (after : Gap) (suffix : List ℕ) (h : IsScanned bytes at after suffix) where
  pub space_ends : past_space bytes at ≡ at + length (text_of after)
  space_ends =
      ap (λ (t : List ℕ). at + prefix_len is_ws t)
      (ap (drop at) h.whole ∙ drop_at h.prefix (text_of after ++ suffix) at h.place)
      ∙ ap (λ n. at + n) (run_ends (text_of after) suffix (space_all after h.blank) h.stops)

  pub next_byte : first (drop (past_space bytes at) bytes) ≡ first suffix
  next_byte = ap (λ n. first (drop n bytes)) space_ends
      ∙ ap (λ (t : List ℕ). first (drop (at + length (text_of after)) t))
      (h.whole ∙ sym (append_assoc h.prefix (text_of after) suffix))
      ∙ ap first (drop_at (h.prefix ++ text_of after) suffix (at + length (text_of after))
      (omega (arith, length-append h.prefix (text_of after), h.place)))

-- ---- what lines begin with

-- beyond ASCII
abbrev pub is_high : ℕ → Bool
is_high c = nat_le 0x80 c

pub ws_low : (c : ℕ) → is_ws c ≡ true → is_high c ≡ false
ws_low c h = grind (arith, nat_tests)

pub solid_low : (c : ℕ) → is_solid c ≡ true → is_high c ≡ false
solid_low c h = grind (arith, nat_tests)

name_low : (profile : Profile) (name : Name) (x : List ℕ) → IsName profile name
    → is_high (first (text_of (name_leaves name) ++ x)) ≡ false
name_low profile name x h =
    solid_low (first (text_of (name_leaves name) ++ x))
    (key_first_solid (first (text_of (name_leaves name) ++ x)) (name_begins profile name x h))

content_low : (profile : Profile) (c : Content) (x : List ℕ) → IsContent profile c → is_high (first x) ≡ false
    → is_high (first (content_text c ++ x)) ≡ false
content_low profile blank x h low = low
content_low profile (keyval name v) x h low =
    ap (λ (t : List ℕ). is_high (first (t ++ x))) (text_of-append (name_leaves name) (value_leaves v))
    ∙ ap (λ (t : List ℕ). is_high (first t)) (append_assoc (text_of (name_leaves name)) (text_of (value_leaves v)) x)
    ∙ name_low profile name (text_of (value_leaves v) ++ x) h.0
content_low profile (header b k a) x h low = refl
content_low profile (element b k a) x h low = refl

comment_low : (o : Option Written) (x : List ℕ) → IsComment o → is_high (first x) ≡ false
    → is_high (first (text_of (comment_leaves o) ++ x)) ≡ false
comment_low None x h low = low
comment_low (Some w) x h low =
    ap (λ (t : List ℕ). is_high (first (t ++ x))) (append-nil w.text) ∙ comment_class is_high w.text x refl h.1

after_space : (c : Content) (g : Gap) → IsAfter c g → IsSpace g
after_space blank g h = subst IsSpace (sym h) tt
after_space (keyval name v) g h = h
after_space (header b k a) g h = h
after_space (element b k a) g h = h

line_low : (profile : Profile) (l : Line) (x : List ℕ) → IsLine profile l → is_high (first x) ≡ false
    → is_high (first (text_of (line_leaves l) ++ x)) ≡ false
line_low profile l x is low =
    ap (λ (t : List ℕ). is_high (first t)) spread
    ∙ space_class is_high l.before
    (content_text l.content ++ (text_of l.after ++ (text_of (comment_leaves l.comment) ++ x))) is.before ws_low
    (content_low profile l.content (text_of l.after ++ (text_of (comment_leaves l.comment) ++ x)) is.content
    (space_class is_high l.after (text_of (comment_leaves l.comment) ++ x) (after_space l.content l.after is.after)
    ws_low (comment_low l.comment x is.comment low)))
  where
    tidy : (a b c d e : List ℕ) → (a ++ (b ++ (c ++ d))) ++ e ≡ a ++ (b ++ (c ++ (d ++ e)))
    tidy a b c d e = simp append_assoc refl

    spread : text_of (line_leaves l) ++ x ≡ text_of l.before
        ++ (content_text l.content ++ (text_of l.after ++ (text_of (comment_leaves l.comment) ++ x)))
    spread =
        ap (λ (t : List ℕ).
        t ++ x) (text_of-append l.before (content_leaves l.content ++ (l.after ++ comment_leaves l.comment))
        ∙ ap (λ (t : List ℕ). text_of l.before ++ t)
        (text_of-append (content_leaves l.content) (l.after ++ comment_leaves l.comment)
        ∙ ap (λ (t : List ℕ). content_text l.content ++ t) (text_of-append l.after (comment_leaves l.comment))))
        ∙ tidy (text_of l.before) (content_text l.content) (text_of l.after) (text_of (comment_leaves l.comment)) x

pub page_low : (profile : Profile) (es : List Ended) (last : Line) → AllByRecursion (IsEnded profile) es
    → IsLine profile last → is_high (first (page_text (record { ended = es; last = last }))) ≡ false
page_low profile [] last all is =
    ap (λ (t : List ℕ). is_high (first t)) (sym (append-nil (text_of (line_leaves last))))
    ∙ line_low profile last [] is refl
page_low profile (e ∷ es) last all is =
    let more : List ℕ = text_of (flat_map ended_leaves es) ++ text_of (line_leaves last) in
    ap (λ (t : List ℕ). is_high (first t)) spread
    ∙ line_low profile e.line (e.newline.text ++ more) all.0.line
    (newline_class is_high e.newline.text more refl refl all.0.newline)
  where
    tidy : (a b c d : List ℕ) → ((a ++ b) ++ c) ++ d ≡ a ++ (b ++ (c ++ d))
    tidy a b c d = simp append_assoc refl

    spread : page_text (record { ended = e ∷ es; last = last }) ≡ text_of (line_leaves e.line)
        ++ (e.newline.text ++ (text_of (flat_map ended_leaves es) ++ text_of (line_leaves last)))
    spread =
        ap (λ (t : List ℕ). t ++ text_of (line_leaves last)) (text_of-append (ended_leaves e) (flat_map ended_leaves es)
        ∙ ap (λ (t : List ℕ). t ++ text_of (flat_map ended_leaves es))
        (text_of-append (line_leaves e.line) (e.newline ∷ [])
        ∙ ap (λ (t : List ℕ). text_of (line_leaves e.line) ++ t) (append-nil e.newline.text)))
        ∙ tidy (text_of (line_leaves e.line)) e.newline.text (text_of (flat_map ended_leaves es))
        (text_of (line_leaves last))

pub rest_valid : (profile : Profile) (pre rest : List Ended) → AllByRecursion (IsEnded profile) (pre ++ rest)
    → AllByRecursion (IsEnded profile) rest
rest_valid profile [] rest h = h
rest_valid profile (e ∷ pre) rest h = rest_valid profile pre rest h.1

-- what comes after dropped lines
pub drop_low : (profile : Profile) (n : ℕ) (es : List Ended) (last : Line) → AllByRecursion (IsEnded profile) es
    → IsLine profile last → is_high (first (drop_prefix n es last).after) ≡ false
drop_low profile zero [] last all is = page_low profile [] last all is
drop_low profile (suc m) [] last all is = refl
drop_low profile zero (e ∷ es) last all is = page_low profile (e ∷ es) last all is
drop_low profile (suc m) (e ∷ es) last all is = drop_low profile m es last all.1 is

-- A cut begins at an ASCII byte, and such a byte or nothing comes after it.
pub record IsLow (old after : List ℕ) : Type 0 where
  pub opens : is_high (first (old ++ after)) ≡ false
  pub closes : is_high (first after) ≡ false

pub without_low : (profile : Profile) (s : Document) (pre rest : List Ended) (n : ℕ) (old after : List ℕ)
    → IsDocument profile s → s.ended ≡ pre ++ rest
    → old ≡ (drop_prefix n rest s.last).old → after ≡ (drop_prefix n rest s.last).after → IsLow old after
without_low profile s pre rest n old after valid was old_is after_is =
    let all : AllByRecursion (IsEnded profile) rest =
    rest_valid profile pre rest (subst (λ (es : List Ended). AllByRecursion (IsEnded profile) es) was valid.ended) in
    let d : Changed Page = drop_prefix n rest s.last in
    let cut = drop_prefix-is n rest s.last in
    let whole : old ++ after ≡ page_text (record { ended = rest; last = s.last }) =
    ap (λ (t : List ℕ). t ++ after) old_is ∙ ap (λ (t : List ℕ). d.old ++ t) after_is
    ∙ sym (cut.0.was ∙ ap (λ (t : List ℕ). t ++ (d.old ++ d.after)) cut.1) in
    record {
      opens = ap (λ (t : List ℕ). is_high (first t)) whole ∙ page_low profile rest s.last all valid.last;
      closes = ap (λ (t : List ℕ). is_high (first t)) after_is ∙ drop_low profile n rest s.last all valid.last;
    }

-- ---- which line is cut

-- a line that passes, and none after it does
pub record IsPageLine (test : Reading → Line → Bool) (r : Reading) (es : List Ended) (last : Line) (i : ℕ) : Type
    0 where
  pub pre : List Ended
  pub rest : List Ended
  pub was : es ≡ pre ++ rest
  pub number : i ≡ length pre
  pub passes : test (reading_after_lines r (map line_of pre)) (head_line rest last) ≡ true
  pub none_later : last_line test (after_line (reading_after_lines r (map line_of pre)) (head_line rest last))
      (tail_lines rest last) ≡ None

page_last : (test : Reading → Line → Bool) (r : Reading) (last : Line) (i : ℕ) (b : Bool) → test r last ≡ b
    → cond b (Some zero) None ≡ Some i → IsPageLine test r [] last i
page_last test r last i true e h =
    let k : zero ≡ i = cc in record { pre = []; rest = []; was = refl; number = sym k; passes = e; none_later = refl }
page_last test r last i false e h = absurd cc

page_more : (test : Reading → Line → Bool) (r : Reading) (e : Ended) (es : List Ended) (last : Line) (i : ℕ)
    (o : Option ℕ) → last_line test (after_line r e.line) (map line_of es ++ last ∷ []) ≡ o
    → ((n : ℕ) → o ≡ Some n → IsPageLine test (after_line r e.line) es last n) → (b : Bool) → test r e.line ≡ b
    → elim o [ Some n ↦ Some (suc n) | None ↦ cond b (Some zero) None ] ≡ Some i
    → IsPageLine test r (e ∷ es) last i
page_more test r e es last i (Some n) none more b t h =
    let k : suc n ≡ i = cc in
    let p = more n refl in
    record {
      pre = e ∷ p.pre;
      rest = p.rest;
      was = ap (λ (l : List Ended). e ∷ l) p.was;
      number = sym k
          ∙ ap suc p.number;
      passes = p.passes;
      none_later = p.none_later;
    }
page_more test r e es last i None none more true t h =
    let k : zero ≡ i = cc in
    record { pre = []; rest = e ∷ es; was = refl; number = sym k; passes = t; none_later = none }
page_more test r e es last i None none more false t h = absurd cc

pub page_line : (test : Reading → Line → Bool) (r : Reading) (es : List Ended) (last : Line) (i : ℕ)
    → last_line test r (map line_of es ++ last ∷ []) ≡ Some i → IsPageLine test r es last i
page_line test r [] last i h = page_last test r last i (test r last) refl h
page_line test r (e ∷ es) last i h =
    page_more test r e es last i (last_line test (after_line r e.line) (map line_of es ++ last ∷ [])) refl
    (λ n k. page_line test (after_line r e.line) es last n k) (test r e.line) refl h

-- ---- lines dropped

drop_none : (es : List Ended) (last : Line) → (drop_prefix 0 es last).old ≡ []
drop_none [] last = refl
drop_none (e ∷ es) last = refl

pub drop_new : (n : ℕ) (es : List Ended) (last : Line) → (drop_prefix n es last).new ≡ []
drop_new zero [] last = refl
drop_new (suc m) [] last = refl
drop_new zero (e ∷ es) last = refl
drop_new (suc m) (e ∷ es) last = drop_new m es last

pub record IsDropped (pre rest : List Ended) (last : Line) (n : ℕ) (c : Changed Page) : Type 0 where
  pub before : length c.before ≡ length (ended_text pre)
  pub old : c.old ≡ (drop_prefix n rest last).old
  pub new : c.new ≡ []
  pub after : c.after ≡ (drop_prefix n rest last).after

pub dropped : (pre rest : List Ended) (last : Line) (n : ℕ)
    → IsDropped pre rest last n (drop_lines (length pre) n (pre ++ rest) last)
dropped [] [] last n =
    record {
      before = ap (λ (t : List ℕ). length t) (drop_prefix-is n [] last).1;
      old = refl;
      new = drop_new n [] last;
      after = refl;
    }
dropped [] (e ∷ es) last n =
    record {
      before = ap (λ (t : List ℕ). length t) (drop_prefix-is n (e ∷ es) last).1;
      old = refl;
      new = drop_new n (e ∷ es) last;
      after = refl;
    }
dropped (e ∷ pre) rest last n =
    let h = dropped pre rest last n in
    let d : Changed Page = drop_lines (length pre) n (pre ++ rest) last in
    record {
      before =
          length-append (text_of (ended_leaves e)) d.before ∙ ap (λ k. length (text_of (ended_leaves e)) + k) h.before
          ∙ sym (width-append (ended_leaves e) (flat_map ended_leaves pre));
      old = h.old;
      new = h.new;
      after = append-nil d.after ∙ h.after;
    }

-- in the document
pub record IsWithout (s : Document) (pre rest : List Ended) (n : ℕ) (c : Changed Document) : Type 0 where
  pub start : length c.before ≡ length (text_of (bom_leaves s.bom)) + length (ended_text pre)
  pub old : c.old ≡ (drop_prefix n rest s.last).old
  pub new : c.new ≡ []
  pub after : c.after ≡ (drop_prefix n rest s.last).after

pub without : (s : Document) (i n : ℕ) (pre rest : List Ended) (c : Changed Document) → s.ended ≡ pre ++ rest
    → i ≡ length pre → without_lines s i n ≡ Some c → IsWithout s pre rest n c
without s i n pre rest c was number is =
    let p : Changed Page = drop_lines (length pre) n (pre ++ rest) s.last in
    let h = dropped pre rest s.last n in
    let same : framed_change (with_page s) (text_of (bom_leaves s.bom)) [] p ≡ c =
    same_Some (framed_change (with_page s) (text_of (bom_leaves s.bom)) [] p) c
    (ap (λ (k : ℕ). within (with_page s) (text_of (bom_leaves s.bom)) [] (Some (drop_lines k n (pre ++ rest) s.last)))
    (sym number)
    ∙ ap (λ (es : List Ended). within (with_page s) (text_of (bom_leaves s.bom)) [] (Some (drop_lines i n es s.last)))
    (sym was) ∙ is) in
    record {
      start = sym (ap (λ (x : Changed Document). length x.before) same)
          ∙ length-append (text_of (bom_leaves s.bom)) p.before
          ∙ ap (λ k. length (text_of (bom_leaves s.bom)) + k) h.before;
      old = sym (ap (λ (x : Changed Document). x.old) same) ∙ h.old;
      new = sym (ap (λ (x : Changed Document). x.new) same) ∙ h.new;
      after = sym (ap (λ (x : Changed Document). x.after) same) ∙ append-nil p.after ∙ h.after;
    }

drop_one : (rest : List Ended) (last : Line) → (drop_prefix 1 rest last).old ≡ head_text rest last
drop_one [] last = refl
drop_one (e ∷ es) last =
    ap (λ (t : List ℕ). text_of (ended_leaves e) ++ t) (drop_none es last) ∙ append-nil (text_of (ended_leaves e))

-- ---- a keyval's line

pub record IsLinePlaced (path : List Part) (s : Document) (c : Changed Document) : Type 0 where
  pub pre : List Ended
  pub rest : List Ended
  pub was : s.ended ≡ pre ++ rest
  pub found : IsLineValue path s pre rest
  pub low : IsLow c.old c.after
  pub place : line_place (text s) found.statement found.own ≡ place_of c

head_valid : (profile : Profile) (pre rest : List Ended) (last : Line) → AllByRecursion (IsEnded profile) (pre ++ rest)
    → IsLine profile last → IsLine profile (head_line rest last)
head_valid profile [] [] last h is = is
head_valid profile [] (e ∷ es) last h is = h.0.line
head_valid profile (e ∷ pre) rest last h is = head_valid profile pre rest last h.1 is

after_valid : (profile : Profile) (l : Line) (name : Name) (v : Value) → IsLine profile l → l.content ≡ keyval name v
    → IsSpace l.after
after_valid profile l name v is e = subst (λ (c : Content). IsAfter c l.after) e is.after

place_is : (b : Bool) (bytes : List ℕ) (st : Statement) (own : ValueInfo)
    → is_hash (first (drop (past_space bytes own.span.end) bytes)) ≡ b
    → line_place bytes st own ≡ cond b (record {
      start = st.span.start;
      end = past_space bytes own.span.end;
      new = [];
    }) (record { start = st.line.start; end = st.line.end; new = [] })
place_is b bytes st own e =
    ap (λ (x : Bool).
    cond x (record { start = st.span.start; end = past_space bytes own.span.end; new = [] })
    (record { start = st.line.start; end = st.line.end; new = [] })) e

not_true : (b : Bool) → not b ≡ false → b ≡ true
not_true true h = refl
not_true false h = absurd cc

-- a line whose comment is kept
pub record IsCleared (path : List Part) (r : Reading) (es : List Ended) (last : Line) (c : Changed Page) : Type 0 where
  pub pre : List Ended
  pub rest : List Ended
  pub was : es ≡ pre ++ rest
  pub comment : Written
  pub is : (head_line rest last).comment ≡ Some comment
  pub own : is_own path (reading_after_lines r (map line_of pre)) (head_line rest last).content ≡ true
  pub prefix : length c.before ≡ length (ended_text pre) + length (text_of (head_line rest last).before)
  pub old : c.old ≡ content_text (head_line rest last).content ++ text_of (head_line rest last).after
  pub new : c.new ≡ []
  pub more : List ℕ
  pub after : c.after ≡ comment.text ++ more

record IsClearedLine (path : List Part) (r : Reading) (l : Line) (d : Changed Line) : Type 0 where
  comment : Written
  is : l.comment ≡ Some comment
  own : is_own path r l.content ≡ true
  prefix : d.before ≡ text_of l.before
  old : d.old ≡ content_text l.content ++ text_of l.after
  new : d.new ≡ []
  after : d.after ≡ comment.text

cleared_line : (path : List Part) (r : Reading) (l : Line) → EachOf (IsClearedLine path r l) (clear_line path r l)
cleared_line path r l = clear_cases (EachOf (IsClearedLine path r l)) path r l tt
    (λ c e own. record { comment = c; is = e; own = own; prefix = refl; old = refl; new = refl; after = refl })

pub cleared_lines : (path : List Part) (r : Reading) (es : List Ended) (last : Line)
    → EachOf (IsCleared path r es last) (in_lines (clear_line path) r es last)
cleared_lines path r [] last =
    of_within (IsClearedLine path r last) (IsCleared path r [] last) (λ l. record { ended = []; last = l }) [] []
    (clear_line path r last)
    (λ d h. record {
      pre = [];
      rest = [];
      was = refl;
      comment = h.comment;
      is = h.is;
      own = h.own;
      prefix = omega (arith, ap (λ (t : List ℕ). length t) h.prefix);
      old = h.old;
      new = h.new;
      more = [];
      after = ap (λ (t : List ℕ). t ++ []) h.after;
    }) (cleared_line path r last)
cleared_lines path r (e ∷ es) last =
    of_or_else (IsCleared path r (e ∷ es) last) _ _
    (of_within (IsClearedLine path r e.line) (IsCleared path r (e ∷ es) last)
    (λ l. record { ended = record { line = l; newline = e.newline } ∷ es; last = last }) []
    (e.newline.text ++ page_text (record { ended = es; last = last })) (clear_line path r e.line)
    (λ d h. record {
      pre = [];
      rest = e ∷ es;
      was = refl;
      comment = h.comment;
      is = h.is;
      own = h.own;
      prefix = omega (arith, ap (λ (t : List ℕ). length t) h.prefix);
      old = h.old;
      new = h.new;
      more = e.newline.text ++ page_text (record { ended = es; last = last });
      after = ap (λ (t : List ℕ). t ++ (e.newline.text ++ page_text (record { ended = es; last = last }))) h.after;
    }) (cleared_line path r e.line))
    (of_within (IsCleared path (after_line r e.line) es last) (IsCleared path r (e ∷ es) last)
    (λ b. record { ended = e ∷ b.ended; last = b.last }) (text_of (ended_leaves e)) []
    (in_lines (clear_line path) (after_line r e.line) es last)
    (λ d h. record {
      pre = e ∷ h.pre;
      rest = h.rest;
      was = ap (λ (l : List Ended). e ∷ l) h.was;
      comment = h.comment;
      is = h.is;
      own = h.own;
      prefix =
          omega (
            arith,
            h.prefix,
            length-append (text_of (ended_leaves e)) d.before,
            width-append (ended_leaves e) (flat_map ended_leaves h.pre),
          );
      old = h.old;
      new = h.new;
      more = h.more ++ [];
      after = ap (λ (t : List ℕ). t ++ []) h.after ∙ append_assoc h.comment.text h.more [];
    })
    (cleared_lines path (after_line r e.line) es last))

module _ (profile : Profile) (path : List Part) (s : Document) (valid : IsDocument profile s)
    (rules : Rules (mentions_in s)) (c : Changed Document) (cut : IsChangeOf text s c) where
  -- up to its comment
  pub cleared_placed : (p : Changed Page) → IsCleared path start s.ended s.last p
      → framed_change (with_page s) (text_of (bom_leaves s.bom)) [] p ≡ c → IsLinePlaced path s c
  cleared_placed p h same =
      let l : Line = head_line h.rest s.last in
      let own = own_line path s h.pre h.rest l.content refl h.own in
      let v = line_value path s rules h.pre h.rest h.was own in
      let is : IsLine profile l =
      head_valid profile h.pre h.rest s.last
      (subst (λ (es : List Ended). AllByRecursion (IsEnded profile) es) h.was valid.ended) valid.last in
      let begins : length c.before ≡ v.statement.span.start =
      omega (
        arith,
        sym (ap (λ (x : Changed Document). length x.before) same),
        length-append (text_of (bom_leaves s.bom)) p.before,
        h.prefix,
        v.begins,
        v.line_begins,
      ) in
      let old : c.old ≡ content_text l.content ++ text_of l.after =
      sym (ap (λ (x : Changed Document). x.old) same) ∙ h.old in
      let rest : List ℕ = h.more ++ [] in
      let after : c.after ≡ h.comment.text ++ rest =
      sym (ap (λ (x : Changed Document). x.after) same) ∙ ap (λ (t : List ℕ). t ++ []) h.after
      ∙ append_assoc h.comment.text h.more [] in
      let commented : (h.comment.leaf ≡ leaf.Comment) × IsLeaf Strict leaf.Comment h.comment.text =
      subst IsComment h.is is.comment in
      let scan : IsScanned (text s) v.own.span.end l.after (h.comment.text ++ rest) =
      record {
        prefix = c.before ++ content_text l.content;
        whole = cut.was ∙ ap (λ (t : List ℕ). c.before ++ (t ++ c.after)) old
            ∙ ap (λ (t : List ℕ). c.before ++ ((content_text l.content ++ text_of l.after) ++ t)) after
            ∙ regroup c.before (content_text l.content) (text_of l.after) (h.comment.text ++ rest);
        place = omega (arith, length-append c.before (content_text l.content), begins, v.ends);
        blank = after_valid profile l own.name own.held is own.content;
        stops = comment_class is_ws h.comment.text rest refl commented.1;
      } in
      let hash : is_hash (first (drop (past_space (text s) v.own.span.end) (text s))) ≡ true =
      ap is_hash (next_byte (text s) v.own.span.end l.after (h.comment.text ++ rest) scan)
      ∙ not_true (is_hash (first (h.comment.text ++ rest)))
      (comment_class (λ b. not (is_hash b)) h.comment.text rest refl commented.1) in
      record {
        pre = h.pre;
        rest = h.rest;
        was = h.was;
        found = v;
        low = record {
          opens = ap (λ (t : List ℕ). is_high (first (t ++ c.after))) old
              ∙ ap (λ (t : List ℕ). is_high (first t)) (append_assoc (content_text l.content) (text_of l.after) c.after)
              ∙ content_low profile l.content (text_of l.after ++ c.after) is.content
              (space_class is_high l.after c.after (after_space l.content l.after is.after) ws_low
              (ap (λ (t : List ℕ). is_high (first t)) after
              ∙ comment_class is_high h.comment.text rest refl commented.1));
          closes =
              ap (λ (t : List ℕ). is_high (first t)) after ∙ comment_class is_high h.comment.text rest refl commented.1;
        };
        place = place_is true (text s) v.statement v.own hash
            ∙ same_place v.statement.span.start (length c.before) (past_space (text s) v.own.span.end)
            (length c.before + length c.old) [] c.new (sym begins)
            (omega (
              arith,
              space_ends (text s) v.own.span.end l.after (h.comment.text ++ rest) scan,
              begins,
              v.ends,
              ap (λ (t : List ℕ). length t) old,
              length-append (content_text l.content) (text_of l.after),
            ))
            (sym (sym (ap (λ (x : Changed Document). x.new) same) ∙ h.new));
      }
    where
      regroup : (a b c d : List ℕ) → a ++ ((b ++ c) ++ d) ≡ (a ++ b) ++ (c ++ d)
      regroup a b c d = simp append_assoc refl

  -- whole, where it has no comment
  pub dropped_placed : (pre rest : List Ended) → s.ended ≡ pre ++ rest
      → is_own path (reading_after_lines start (map line_of pre)) (head_line rest s.last).content ≡ true
      → (head_line rest s.last).comment ≡ None
      → IsWithout s pre rest 1 c → IsLinePlaced path s c
  dropped_placed pre rest was owned none h =
      let l : Line = head_line rest s.last in
      let own = own_line path s pre rest l.content refl owned in
      let v = line_value path s rules pre rest was own in
      let all : AllByRecursion (IsEnded profile) (pre ++ rest) =
      subst (λ (es : List Ended). AllByRecursion (IsEnded profile) es) was valid.ended in
      let is : IsLine profile l = head_valid profile pre rest s.last all valid.last in
      let begins : length c.before ≡ v.statement.line.start = h.start ∙ sym v.line_begins in
      let old : c.old ≡ head_text rest s.last = h.old ∙ drop_one rest s.last in
      let scan : IsScanned (text s) v.own.span.end l.after (head_newline rest ++ c.after) =
      record {
        prefix = c.before ++ (text_of l.before ++ content_text l.content);
        whole = cut.was ∙ ap (λ (t : List ℕ). c.before ++ (t ++ c.after)) (old ∙ head_cut rest s.last none)
            ∙ regroup c.before (text_of l.before) (content_text l.content) (text_of l.after) (head_newline rest)
            c.after;
        place = omega (
          arith,
          length-append c.before (text_of l.before ++ content_text l.content),
          length-append (text_of l.before) (content_text l.content),
          begins,
          v.begins,
          v.ends,
        );
        blank = after_valid profile l own.name own.held is own.content;
        stops = newline_stops is_ws pre rest all refl refl refl c.after (none_after rest h.after);
      } in
      let hash : is_hash (first (drop (past_space (text s) v.own.span.end) (text s))) ≡ false =
      ap is_hash (next_byte (text s) v.own.span.end l.after (head_newline rest ++ c.after) scan)
      ∙ newline_stops is_hash pre rest all refl refl refl c.after (none_after rest h.after) in
      record {
        pre = pre;
        rest = rest;
        was = was;
        found = v;
        low = without_low profile s pre rest 1 c.old c.after valid was h.old h.after;
        place = place_is false (text s) v.statement v.own hash
            ∙ same_place v.statement.line.start (length c.before) v.statement.line.end (length c.before + length c.old)
            [] c.new (sym begins)
            (omega (arith, v.line_ends, begins, ap (λ (t : List ℕ). length t) old)) (sym h.new);
      }
    where
      head_newline : List Ended → List ℕ
      head_newline [] = []
      head_newline (e ∷ es) = e.newline.text

      regroup : (a b c d e f : List ℕ) → a ++ ((b ++ (c ++ (d ++ e))) ++ f) ≡ (a ++ (b ++ c)) ++ (d ++ (e ++ f))
      regroup a b c d e f = simp append_assoc refl

      plain_cut : (l : Line) → l.comment ≡ None
          → text_of (line_leaves l) ≡ text_of l.before ++ (content_text l.content ++ (text_of l.after ++ []))
      plain_cut l e =
          ap (λ (o : Option Written). text_of (l.before ++ (content_leaves l.content ++ (l.after ++ comment_leaves o))))
          e
          ∙ text_of-append l.before (content_leaves l.content ++ (l.after ++ []))
          ∙ ap (λ (t : List ℕ). text_of l.before ++ t)
          (text_of-append (content_leaves l.content) (l.after ++ [])
          ∙ ap (λ (t : List ℕ). content_text l.content ++ t) (text_of-append l.after []))

      head_cut : (rest : List Ended) (last : Line) → (head_line rest last).comment ≡ None
          → head_text rest last ≡ text_of (head_line rest last).before
          ++ (content_text (head_line rest last).content ++ (text_of (head_line rest last).after ++ head_newline rest))
      head_cut [] last e = plain_cut last e
      head_cut (x ∷ es) last e =
          text_of-append (line_leaves x.line) (x.newline ∷ [])
          ∙ ap (λ (t : List ℕ). text_of (line_leaves x.line) ++ t) (append-nil x.newline.text)
          ∙ ap (λ (t : List ℕ). t ++ x.newline.text) (plain_cut x.line e)
          ∙ tidy (text_of x.line.before) (content_text x.line.content) (text_of x.line.after) x.newline.text
        where
          tidy : (a b c d : List ℕ) → (a ++ (b ++ (c ++ []))) ++ d ≡ a ++ (b ++ (c ++ d))
          tidy a b c d = simp (append_assoc, append-nil) refl

      -- what comes after the last line
      none_after : (rest : List Ended) → c.after ≡ (drop_prefix 1 rest s.last).after → rest ≡ [] → c.after ≡ []
      none_after [] e k = e
      none_after (x ∷ es) e k = absurd cc

      newline_stops : (p : ℕ → Bool) (pre rest : List Ended) → AllByRecursion (IsEnded profile) (pre ++ rest)
          → p 0x0A ≡ false → p 0x0D ≡ false → p 0 ≡ false → (after : List ℕ) → (rest ≡ [] → after ≡ [])
          → p (first (head_newline rest ++ after)) ≡ false
      newline_stops p [] [] all a b z after none = ap (λ (t : List ℕ). p (first t)) (none refl) ∙ z
      newline_stops p [] (x ∷ es) all a b z after none = newline_class p x.newline.text after a b all.0.newline
      newline_stops p (y ∷ pre) rest all a b z after none = newline_stops p pre rest all.1 a b z after none
