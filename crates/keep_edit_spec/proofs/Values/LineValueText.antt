-- The value of a keyval's line by its number: how many values come before the line. Its bytes in the text are a text of
-- that very value.
--
-- The values of a document are those of its lines, one line after another, and a line's own value comes first among its
-- values. So by induction over the lines, the value that is found after as many values as the lines before have is the
-- line's own (`lines_found`). Its text lies in the text of its line, which lies in that of the document (`own_found`),
-- and no line is deeper than the document. The rules hold inside the value, since they hold for all that the document
-- says (`nested_obeys`).
--
-- Theorem: `line_value_text`.
use Rattle.std.proofs.Common.{◌≡◌, ℕ, ◌+◌, ◌-◌, ◌≤◌, List, [], ◌∷◌, ◌++◌, length, map, slice_get, refl, sym, ap, subst}
use Rattle.std.proofs.Common.{◌∙◌, append_assoc, length-append, arith, Some, None}
use Rattle.std.specs.List.{cons_option, filter_map, AllByRecursion}
use Rattle.std.proofs.lemmas.List.{append-nil}
use Rattle.keep_types.specs.declared.leaf.Profile.{Profile}
use Rattle.keep_types.specs.declared.syntax.Start.{Start}
use Rattle.keep_types.specs.declared.syntax.ValueInfo.{ValueInfo}
use Rattle.keep_syntax.specs.Tree.{Name, Value, Content, blank, keyval, header, element, Line, Ended, Document}
use Rattle.keep_syntax.specs.Tree.{name_leaves, value_leaves, content_leaves, text, value_text, value_depth}
use Rattle.keep_syntax.specs.Tree.{content_depth, lines_depth, depth}
use Rattle.keep_syntax.specs.Grammar.{IsValue, IsContent, IsLine, IsEnded, IsDocument}
use Rattle.keep_syntax.specs.Numbered as syntax
use Rattle.keep_syntax.specs.Numbered.{width, key_count, leaf_of, info, nested_of, entries_values, content_start}
use Rattle.keep_syntax.specs.Numbered.{content_values, line_start, line_values, over_lines, next_line, first_line}
use Rattle.keep_meaning.specs.Counts.{Count, count_from, line_statement, next_count, no_count}
use Rattle.keep_meaning.specs.KeyText.{text_at}
use Rattle.keep_meaning.specs.Marks as marks
use Rattle.keep_meaning.specs.Marks.{Mention, Reading, Statement, below, marks as marks_of, next_reading, start}
use Rattle.keep_meaning.specs.Marks.{statement_mentions}
use Rattle.keep_meaning.specs.Meaning.{body_fact, entries_mentions, keys_of, keyval_mentions, line_of, lines}
use Rattle.keep_meaning.specs.Meaning.{lines_mentions, mentions_in, mentions_of_value, reading_after_lines}
use Rattle.keep_meaning.specs.Meaning.{statement_of}
use Rattle.keep_meaning.specs.Rules.{ObeysRules}
use Rattle.keep_meaning.proofs.Shared.{IsPart, LinesSpelled, Spelled, content_spelled, count_after-values, line_spelled}
use Rattle.keep_meaning.proofs.Shared.{lines_spelled, next_spelled, part_ends, part_taken, spelled_right}
use Rattle.keep_meaning.proofs.Shared.{valued-content}
use Rattle.keep_edit_spec.proofs.Common.Bridge.{obeys_from_rules}
use Rattle.keep_edit_spec.proofs.Common.Marks.{rules_of_document}
use Rattle.keep_edit_spec.proofs.Common.Runs.{Allowed, Rules, pairs_split}
use Rattle.keep_edit_spec.proofs.Common.SetDocument.{whole_mentions}
use Rattle.keep_edit_spec.proofs.Common.SetLaw.{rules_below, rules_named}
use Rattle.keep_edit_spec.proofs.Common.ValuesMention.{value_ends}
use Rattle.keep_edit_spec.proofs.Values.ValuePlace.{get_here}

-- ---- the numbers of values

-- these statements have so many values, whatever is counted before them
abbrev HaveValues : List Statement → ℕ → Type 0
HaveValues ss n = (k : Count) (r : Reading) → (count_from k r ss).values ≡ k.values + n

-- a line's statement has as many as its content, and those of later lines come after it
content_counted : (p : Start) (c : Content) (ss : List Statement) (n : ℕ) → HaveValues ss n
    → HaveValues (cons_option (statement_of c) ss) (length (content_values p c) + n)
content_counted p blank ss n h k r = omega (arith, h k r)
content_counted p (keyval name v) ss n h k r =
    let s : Statement = marks.keyval (keyval_mentions name v) in
    let ms : List Mention = statement_mentions r s in
    omega (arith, h (next_count k ms) (next_reading r s), count_after-values k ms, valued-content r p (keyval name v))
content_counted p (header b y a) ss n h k r =
    let s : Statement = marks.header (keys_of y) in
    let ms : List Mention = statement_mentions r s in
    omega (arith, h (next_count k ms) (next_reading r s), count_after-values k ms, valued-content r p (header b y a))
content_counted p (element b y a) ss n h k r =
    let s : Statement = marks.element_header (keys_of y) in
    let ms : List Mention = statement_mentions r s in
    omega (arith, h (next_count k ms) (next_reading r s), count_after-values k ms, valued-content r p (element b y a))

-- ---- a value among those of lines

-- After the values of the lines before comes this value: where it is, and that its text is there.
record IsFoundAfter (bytes : List ℕ) (profile : Profile) (deep : ℕ) (before : List Line) (infos : List ValueInfo)
    (v : Value) : Type 0 where
  prefix : List ValueInfo
  own : ValueInfo
  rest : List ValueInfo
  whole : infos ≡ prefix ++ own ∷ rest
  counted : HaveValues (filter_map line_statement before) (length prefix)
  here : IsPart bytes own.span.start (value_text v)
  end : own.span.end ≡ own.span.start + length (value_text v)
  leaf : own.leaf ≡ leaf_of v.body
  valid : IsValue profile v
  shallow : value_depth v ≤ deep

never_none : (xs : List Line) (y : Line) (ys : List Line) → [] ≡ xs ++ y ∷ ys → ⊥
never_none [] y ys e = absurd cc
never_none (x ∷ xs) y ys e = absurd cc

module _ (bytes : List ℕ) (profile : Profile) (deep : ℕ) where
  abbrev Found : List Line → List ValueInfo → Value → Type 0
  Found = IsFoundAfter bytes profile deep

  abbrev values_of : syntax.Count → Line → ℕ → List ValueInfo
  values_of c l line_end = line_values c l

  -- a keyval's own value is the first
  keyval_found : (p : Start) (name : Name) (v : Value) (rest : List ValueInfo) → IsContent profile (keyval name v)
      → Spelled bytes p.at (content_leaves (keyval name v)) → value_depth v ≤ deep
      → Found [] (content_values p (keyval name v) ++ rest) v
  keyval_found p name v rest is spelled low =
      let at : ℕ = p.at + width (name_leaves name) in
      record {
        prefix = [];
        own = info p at (key_count name.key) v.body v.nested None;
        rest = entries_values (nested_of p at (key_count name.key) v.body) v.nested ++ rest;
        whole = refl;
        counted = λ k r. omega arith;
        here = spelled_right bytes p.at (name_leaves name) (value_leaves v) spelled;
        end = value_ends at v.body v.nested;
        leaf = refl;
        valid = is.1;
        shallow = low;
      }

  -- that of a line
  own_found : (c : syntax.Count) (l : Line) (name : Name) (v : Value) (rest : List ValueInfo)
      → l.content ≡ keyval name v → IsContent profile l.content
      → Spelled bytes (content_start c l) (content_leaves l.content) → content_depth l.content ≤ deep
      → Found [] (line_values c l ++ rest) v
  own_found c l name v rest e =
      subst (λ (x : Content). IsContent profile x → Spelled bytes (content_start c l) (content_leaves x)
      → content_depth x ≤ deep → Found [] (content_values (line_start c l) x ++ rest) v) (sym e)
      (keyval_found (line_start c l) name v rest)

  -- past a line
  found_past : (c : syntax.Count) (l : Line) (before : List Line) (infos : List ValueInfo) (v : Value)
      → Found before infos v → Found (l ∷ before) (line_values c l ++ infos) v
  found_past c l before infos v h = record {
    prefix = line_values c l ++ h.prefix;
    own = h.own;
    rest = h.rest;
    whole = ap (λ (vs : List ValueInfo). line_values c l ++ vs) h.whole
        ∙ sym (append_assoc (line_values c l) h.prefix (h.own ∷ h.rest));
    counted =
        λ k r. content_counted (line_start c l) l.content (filter_map line_statement before) (length h.prefix) h.counted
        k r ∙ ap (λ (n : ℕ). k.values + n) (sym (length-append (line_values c l) h.prefix));
    here = h.here;
    end = h.end;
    leaf = h.leaf;
    valid = h.valid;
    shallow = h.shallow;
  }

  -- that of one of these lines
  lines_found : (c : syntax.Count) (es : List Ended) (last : Line) (before after : List Line) (line : Line)
      (name : Name) (v : Value) → AllByRecursion (IsEnded profile) es → IsLine profile last
      → LinesSpelled bytes c.at es last
      → lines_depth es ≤ deep → content_depth last.content ≤ deep → map line_of es ++ last ∷ [] ≡ before ++ line ∷ after
      → line.content ≡ keyval name v → Found before (over_lines values_of c es last) v
  lines_found c [] last [] after line name v are is spelled low low' same content =
      let one : last ≡ line = cc in
      subst (λ (vs : List ValueInfo). Found [] vs v) (append-nil (line_values c last))
      (own_found c last name v [] (ap (λ (l : Line). l.content) one ∙ content) is.content
      (content_spelled bytes c last spelled) low')
  lines_found c [] last (b ∷ before) after line name v are is spelled low low' same content =
      let none : [] ≡ before ++ line ∷ after = cc in absurd (never_none before line after none)
  lines_found c (e ∷ es) last [] after line name v are is spelled low low' same content =
      let one : e.line ≡ line = cc in
      own_found c e.line name v (over_lines values_of (next_line c e) es last)
      (ap (λ (l : Line). l.content) one ∙ content) are.0.line.content
      (content_spelled bytes c e.line (line_spelled bytes c e es last spelled)) (omega (arith, low))
  lines_found c (e ∷ es) last (b ∷ before) after line name v are is spelled low low' same content =
      let first : e.line ≡ b = cc in
      let more : map line_of es ++ last ∷ [] ≡ before ++ line ∷ after = cc in
      subst (λ (l : Line). Found (l ∷ before) (over_lines values_of c (e ∷ es) last) v) first
      (found_past c e.line before (over_lines values_of (next_line c e) es last) v
      (lines_found (next_line c e) es last before after line name v are.1 is (next_spelled bytes c e es last spelled)
      (omega (arith, low)) low' more content))

-- ---- the rules inside a value

nested_obeys : (d : Document) → ObeysRules (marks_of (mentions_in d))
    → (before after : List Line) (line : Line) (name : Name) (v : Value) → lines d ≡ before ++ line ∷ after
    → line.content ≡ keyval name v
    → ObeysRules (marks_of (mentions_of_value v))
nested_obeys d obeys before after line name v here content =
    let r : Reading = reading_after_lines start before in
    let left : List Mention = lines_mentions start before in
    let mid : List Mention = map (below r.body) (keyval_mentions name v) in
    let right : List Mention = lines_mentions r after in
    let mentioned : mentions_in d ≡ left ++ (mid ++ right) =
    ap (lines_mentions start) here ∙ whole_mentions before after line name v content in
    let rules : Rules (left ++ (mid ++ right)) = subst Rules mentioned (rules_of_document d obeys) in
    let its : Rules mid = (pairs_split Allowed mid right (pairs_split Allowed left (mid ++ right) rules).right).left in
    obeys_from_rules (entries_mentions 0 v.nested)
    (rules_named 0 (Some name) (body_fact v.body) (entries_mentions 0 v.nested)
    (rules_below r.body (keyval_mentions name v) its))

-- ---- the value of a line

-- The value with this number is this one: its bytes in the document are its text, and it is a value by itself.
pub record IsLineValueText (profile : Profile) (d : Document) (number : ℕ) (v : Value) : Type 0 where
  pub info : ValueInfo
  pub here : slice_get (syntax.values d) number ≡ Some info
  pub spelled : text_at (text d) info.span ≡ value_text v
  pub within : (info.span.start ≤ info.span.end) × (info.span.end ≤ length (text d))
  pub leaf : info.leaf ≡ leaf_of v.body
  pub valid : IsValue profile v
  pub shallow : value_depth v ≤ depth d
  pub obeys : ObeysRules (marks_of (mentions_of_value v))

-- The value of a keyval's line has as its number how many values the lines before it have, and its bytes alone are a
-- text of it.
pub line_value_text : (profile : Profile) (d : Document) → IsDocument profile d → ObeysRules (marks_of (mentions_in d))
    → (before after : List Line) (line : Line) (name : Name) (v : Value)
    → lines d ≡ before ++ line ∷ after → line.content ≡ keyval name v
    → IsLineValueText profile d (count_from no_count start (filter_map line_statement before)).values v
line_value_text profile d is obeys before after line name v here content =
    let number : ℕ = (count_from no_count start (filter_map line_statement before)).values in
    let h : IsFoundAfter (text d) profile (depth d) before (syntax.values d) v =
    lines_found (text d) profile (depth d) (first_line d) d.ended d.last before after line name v is.ended is.last
    (lines_spelled (text d) d refl) (omega arith) (omega arith) here content in
    let count : number ≡ length h.prefix = omega (arith, h.counted no_count start) in
    record {
      info = h.own;
      here = ap (λ (vs : List ValueInfo). slice_get vs number) h.whole ∙ get_here h.prefix h.own h.rest number count;
      spelled =
          part_taken (text d) h.own.span.start (h.own.span.end - h.own.span.start) (value_text v) h.here
          (omega (arith, h.end));
      within = (omega (arith, h.end), omega (arith, h.end, part_ends (text d) h.own.span.start (value_text v) h.here));
      leaf = h.leaf;
      valid = h.valid;
      shallow = h.shallow;
      obeys = nested_obeys d obeys before after line name v here content;
    }
