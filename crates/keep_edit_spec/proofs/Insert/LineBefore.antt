-- The place of new lines, by the bytes of the text.
--
-- New lines go after the line of a header or of a keyval (or before all lines). Such a line has bytes, and none of its
-- own bytes at its end is a line feed; so the last byte of the text before the new lines tells whether that line has a
-- newline. `prefix_of n` is the text of the first n lines, and `is_past n` says that there are fewer than n newlines;
-- `open_before` ties the two.
--
-- Theorems: `line_placed`, `section_placed`, `low_place`; `new_line_text`, `new_section_text`: what new lines say.
use Rattle.std.proofs.Common.{◌≡◌, ℕ, zero, suc, ◌+◌, ◌<◌, ◌≤◌, Bool, true, false, not, List, [], ◌∷◌, ◌++◌, length}
use Rattle.std.proofs.Common.{map, take, drop, refl, sym, ap, subst, ◌∙◌, append_assoc, length-append, arith, cond}
use Rattle.std.proofs.Common.{Option, take_at, drop_at}
use Rattle.std.specs.List.{flat_map, AllByRecursion}
use Rattle.std.proofs.lemmas.List.{append-nil}
use Rattle.keep_types.specs.declared.leaf.Profile.{Profile}
use Rattle.keep_token.specs.Pieces.{first}
use Rattle.keep_syntax.specs.Tree.{Written, Value, Content, blank, keyval, header, element, Line, Ended, Document}
use Rattle.keep_syntax.specs.Tree.{name_leaves, value_leaves, content_leaves, line_leaves, ended_leaves, bom_leaves}
use Rattle.keep_syntax.specs.Tree.{text_of, text}
use Rattle.keep_syntax.specs.Grammar.{IsLine, IsEnded, IsDocument}
use Rattle.keep_meaning.specs.Meaning.{line_of, lines}
use Rattle.keep_edit_spec.specs.Changed.{Changed, Place, IsChangeOf, place_of}
use Rattle.keep_edit_spec.specs.Insertion.{put_in, is_open, missing_newline, keyed_text, line_at, section_at}
use Rattle.keep_edit_spec.specs.Lines.{ended_text, content_text, is_empty, drop_prefix, body_length, more_lines}
use Rattle.keep_edit_spec.specs.Lines.{plain_line, new_line, newline_of}
use Rattle.keep_edit_spec.specs.Edits.{Edit, change, changed_or_same, place, at_line, name_with, new_header}
use Rattle.keep_edit_spec.specs.TextEnds.{ends_in_newline}
use Rattle.keep_edit_spec.proofs.Common.LineEnds.{ends_after, line_quiet, line_some, ended_ends}
use Rattle.keep_edit_spec.proofs.Common.LineTexts.{at_line-is}
use Rattle.keep_edit_spec.proofs.Common.Texts.{text_of-append}
use Rattle.keep_edit_spec.proofs.Insert.LineDepths.{line_change}
use Rattle.keep_edit_spec.proofs.Insert.LinesPut.{is_past, newline_if, prefix_of, bom_width, line_begins, AreLinesPut}
use Rattle.keep_edit_spec.proofs.Insert.LinesPut.{lines_put, lines_place, prefix_none, prefix_past, past_past}
use Rattle.keep_edit_spec.proofs.Insert.LinesPut.{prefix_one}
use Rattle.keep_edit_spec.proofs.Remove.RemoveLinePlace.{head_line, tail_lines, head_text, is_high, drop_low}
use Rattle.keep_edit_spec.proofs.Remove.RemoveLinePlace.{rest_valid}

-- ---- a line that says something

abbrev pub mentions_something : Content → Bool
mentions_something blank = false
mentions_something (keyval name value) = true
mentions_something (header before k after) = true
mentions_something (element before k after) = true

-- the line before the line with that number
pub record IsLineBefore (s : Document) (n : ℕ) : Type 0 where
  pub pre : List Ended
  pub rest : List Ended
  pub was : s.ended ≡ pre ++ rest
  pub number : n ≡ suc (length pre)
  pub kind : mentions_something (head_line rest s.last).content ≡ true

-- ---- whether it has a newline

open_ends : (t : List ℕ) → 0 < length t → is_open t ≡ not (ends_in_newline t)
open_ends [] some = absurd (omega (arith, some))
open_ends (c ∷ []) some = refl
open_ends (c ∷ d ∷ t) some = open_ends (d ∷ t) (omega arith)

not_empty : (l : Line) → mentions_something l.content ≡ true → is_empty l ≡ false
not_empty l h = by l.before l.content h
  where
    by : (before : List Written) (c : Content) → mentions_something c ≡ true
        → is_empty (record l { before = before; content = c }) ≡ false
    by (w ∷ ws) c h = refl
    by [] blank h = absurd cc
    by [] (keyval name value) h = refl
    by [] (header b k a) h = refl
    by [] (element b k a) h = refl

past_none : (es : List Ended) → is_past 0 es ≡ false
past_none [] = refl
past_none (e ∷ es) = refl

open_head : (profile : Profile) (rest : List Ended) (last : Line) → AllByRecursion (IsEnded profile) rest
    → IsLine profile last → mentions_something (head_line rest last).content ≡ true
    → (0 < length (head_text rest last)) × (ends_in_newline (head_text rest last) ≡ not (is_past 1 rest))
open_head profile [] last all is h = (line_some profile last is (not_empty last h), line_quiet profile last is)
open_head profile (e ∷ es) last all is h =
    let end = ended_ends profile e all.0 in
    (end.0, end.1 ∙ ap not (sym (past_none es)))

twice : (b : Bool) → not (not b) ≡ b
twice true = refl
twice false = refl

pub open_before : (profile : Profile) (s : Document) (n : ℕ) → IsDocument profile s → IsLineBefore s n
    → is_open (prefix_of n s.ended s.last) ≡ is_past n s.ended
open_before profile s n valid h =
    let one : n ≡ length h.pre + 1 = omega (arith, h.number) in
    let all : AllByRecursion (IsEnded profile) h.rest =
    rest_valid profile h.pre h.rest
    (subst (λ (es : List Ended). AllByRecursion (IsEnded profile) es) h.was valid.ended) in
    let end = open_head profile h.rest s.last all valid.last h.kind in
    let prefix : prefix_of n s.ended s.last ≡ ended_text h.pre ++ head_text h.rest s.last =
    ap (λ (es : List Ended). prefix_of n es s.last) h.was ∙ prefix_past h.pre 1 h.rest s.last n one
    ∙ ap (λ (t : List ℕ). ended_text h.pre ++ t) (prefix_one h.rest s.last) in
    ap is_open prefix
    ∙ open_ends (ended_text h.pre ++ head_text h.rest s.last)
    (omega (arith, length-append (ended_text h.pre) (head_text h.rest s.last), end.0))
    ∙ ap not (ends_after (ended_text h.pre) (head_text h.rest s.last) end.0 ∙ end.1)
    ∙ twice (is_past 1 h.rest)
    ∙ sym (ap (is_past n) h.was ∙ past_past h.pre 1 h.rest n one)

-- ---- the place of new lines

taken : (a b c t : List ℕ) → t ≡ (a ++ b) ++ c → drop (length a) (take (length a + length b) t) ≡ b
taken a b c t e =
    ap (λ (x : List ℕ). drop (length a) (take (length a + length b) x)) e
    ∙ ap (drop (length a)) (take_at (a ++ b) c (length a + length b) (length-append a b))
    ∙ drop_at a b (length a) refl

-- the text, cut where the line with that number begins
cut_text : (s : Document) (n : ℕ)
    → text s ≡ (text_of (bom_leaves s.bom) ++ prefix_of n s.ended s.last) ++ (drop_prefix n s.ended s.last).after
cut_text s n =
    let c : Changed Document = line_change s n [] in
    let cut : IsChangeOf text s c = at_line-is s n [] in
    let h : AreLinesPut s n [] c = lines_put s n [] c refl in
    let prefix : List ℕ = text_of (bom_leaves s.bom) ++ prefix_of n s.ended s.last in
    cut.was ∙ ap (λ (t : List ℕ). t ++ (c.old ++ c.after)) h.before
    ∙ ap (λ (t : List ℕ). prefix ++ (t ++ c.after)) h.old ∙ ap (λ (t : List ℕ). prefix ++ t) h.after

-- The edit's place is this one, within the text, and no byte of a longer character is there.
pub record IsLowPlace (s : Document) (e : Edit) (p : Place) : Type 0 where
  pub placed : place s e ≡ p
  pub within : p.start ≤ length (text s)
  pub low : is_high (first (drop p.start (text s))) ≡ false

pub low_at : (profile : Profile) (s : Document) (n : ℕ) → IsDocument profile s
    → is_high (first (drop (line_begins s n) (text s))) ≡ false
low_at profile s n valid =
    let prefix : List ℕ = text_of (bom_leaves s.bom) ++ prefix_of n s.ended s.last in
    let after : List ℕ = (drop_prefix n s.ended s.last).after in
    ap (λ (t : List ℕ). is_high (first (drop (line_begins s n) t))) (cut_text s n)
    ∙ ap (λ (t : List ℕ). is_high (first t))
    (drop_at prefix after (line_begins s n) (length-append (text_of (bom_leaves s.bom)) (prefix_of n s.ended s.last)))
    ∙ drop_low profile n s.ended s.last valid.ended valid.last

-- no byte of a longer character begins the lines
pub lines_low : (profile : Profile) (s : Document) → IsDocument profile s
    → is_high (first (drop (bom_width s) (text s))) ≡ false
lines_low profile s valid =
    let at : bom_width s ≡ line_begins s 0 =
    omega (arith, ap (λ (t : List ℕ). length t) (prefix_none s.ended s.last)) in
    ap (λ (m : ℕ). is_high (first (drop m (text s)))) at ∙ low_at profile s 0 valid

pub low_place : (profile : Profile) (s : Document) (e : Edit) (p : Place) (n : ℕ) → IsDocument profile s → place s e ≡ p
    → p.start ≡ line_begins s n → IsLowPlace s e p
low_place profile s e p n valid placed begins =
    let bom : List ℕ = text_of (bom_leaves s.bom) in
    let prefix : List ℕ = prefix_of n s.ended s.last in
    let after : List ℕ = (drop_prefix n s.ended s.last).after in
    let long : line_begins s n ≡ length (bom ++ prefix) = sym (length-append bom prefix) in
    record {
      placed = placed;
      within =
          omega (
            arith,
            begins,
            long,
            ap (λ (t : List ℕ). length t) (cut_text s n),
            length-append (bom ++ prefix) after,
          );
      low = ap (λ (m : ℕ). is_high (first (drop m (text s)))) begins ∙ low_at profile s n valid;
    }

newline_by : (b : Bool) (newline : List ℕ) (past : Bool) → b ≡ past → cond b newline [] ≡ newline_if past newline
newline_by b newline past e = ap (λ (x : Bool). cond x newline []) e

-- the byte before tells of the newline
missing_is : (s : Document) (n : ℕ) → is_open (prefix_of n s.ended s.last) ≡ is_past n s.ended
    → missing_newline (text s) (newline_of s).text (bom_width s) (line_begins s n)
    ≡ newline_if (is_past n s.ended) (newline_of s).text
missing_is s n opens =
    newline_by (is_open (drop (bom_width s) (take (line_begins s n) (text s)))) (newline_of s).text (is_past n s.ended)
    (ap is_open (taken (text_of (bom_leaves s.bom)) (prefix_of n s.ended s.last) (drop_prefix n s.ended s.last).after
    (text s) (cut_text s n)) ∙ opens)

plain_text : (newline : Written) (c : Content) (es : List Ended)
    → ended_text (new_line newline c ∷ es) ≡ content_text c ++ (newline.text ++ ended_text es)
plain_text newline c es =
    text_of-append (ended_leaves (new_line newline c)) (flat_map ended_leaves es)
    ∙ ap (λ (t : List ℕ). t ++ ended_text es)
    (text_of-append (line_leaves (plain_line c)) (newline ∷ [])
    ∙ ap (λ (t : List ℕ). t ++ (newline.text ++ [])) (line_is c))
    ∙ tidy (content_text c) newline.text (ended_text es)
  where
    line_is : (c : Content) → text_of (line_leaves (plain_line c)) ≡ content_text c
    line_is c = text_of-append (content_leaves c) [] ∙ append-nil (content_text c)

    tidy : (a b c : List ℕ) → (a ++ (b ++ [])) ++ c ≡ a ++ (b ++ c)
    tidy a b c = simp (append_assoc, append-nil) refl

keyval_text : (k : List ℕ) (ks : List (List ℕ)) (v : Value)
    → content_text (keyval (name_with (k ∷ ks)) v) ≡ keyed_text (k ∷ ks) v
keyval_text k ks v = text_of-append (name_leaves (name_with (k ∷ ks))) (value_leaves v)

-- what a new line with a keyval says
pub new_line_text : (newline : Written) (k : List ℕ) (ks : List (List ℕ)) (v : Value)
    → ended_text (new_line newline (keyval (name_with (k ∷ ks)) v) ∷ []) ≡ keyed_text (k ∷ ks) v ++ newline.text
new_line_text newline k ks v =
    plain_text newline (keyval (name_with (k ∷ ks)) v) []
    ∙ ap (λ (t : List ℕ). t ++ (newline.text ++ [])) (keyval_text k ks v)
    ∙ ap (λ (t : List ℕ). keyed_text (k ∷ ks) v ++ t) (append-nil newline.text)

-- the lines of a new section, and what they say
abbrev pub new_section : List (List ℕ) → List (List ℕ) → Value → List Content
new_section table keys v = blank ∷ new_header table ∷ keyval (name_with keys) v ∷ []

pub new_section_text : (newline : Written) (table : List (List ℕ)) (k : List ℕ) (ks : List (List ℕ)) (v : Value)
    → ended_text (map (new_line newline) (new_section table (k ∷ ks) v))
    ≡ newline.text ++ (content_text (new_header table) ++ (newline.text ++ (keyed_text (k ∷ ks) v ++ newline.text)))
new_section_text newline table k ks v =
    let last : Content = keyval (name_with (k ∷ ks)) v in
    plain_text newline blank (map (new_line newline) (new_header table ∷ last ∷ []))
    ∙ ap (λ (t : List ℕ). newline.text ++ t)
    (plain_text newline (new_header table) (map (new_line newline) (last ∷ []))
    ∙ ap (λ (t : List ℕ). content_text (new_header table) ++ (newline.text ++ t)) (new_line_text newline k ks v))

-- The place of an edit that puts a keyval there as a line.
pub line_placed : (s : Document) (e : Edit) (n : ℕ) (k : List ℕ) (ks : List (List ℕ)) (v : Value)
    → is_open (prefix_of n s.ended s.last) ≡ is_past n s.ended
    → change s e ≡ at_line s n (keyval (name_with (k ∷ ks)) v ∷ [])
    → place s e ≡ line_at (text s) (newline_of s).text (bom_width s) (line_begins s n) (k ∷ ks) v
line_placed s e n k ks v opens is =
    let newline : Written = newline_of s in
    let contents : List Content = keyval (name_with (k ∷ ks)) v ∷ [] in
    ap (λ (o : Option (Changed Document)). place_of (changed_or_same s o)) is
    ∙ lines_place s n contents (line_change s n contents) refl
    ∙ ap (λ (t : List ℕ). put_in (line_begins s n) (newline_if (is_past n s.ended) newline.text ++ t))
    (new_line_text newline k ks v)
    ∙ ap (λ (t : List ℕ). put_in (line_begins s n) (t ++ (keyed_text (k ∷ ks) v ++ newline.text)))
    (sym (missing_is s n opens))

-- The place of an edit that puts a section there.
pub section_placed : (s : Document) (e : Edit) (n : ℕ) (table : List (List ℕ)) (k : List ℕ) (ks : List (List ℕ))
    (v : Value) → is_open (prefix_of n s.ended s.last) ≡ is_past n s.ended
    → change s e ≡ at_line s n (new_section table (k ∷ ks) v)
    → place s e ≡ section_at (text s) (newline_of s).text (bom_width s) (line_begins s n) table (k ∷ ks) v
section_placed s e n table k ks v opens is =
    let newline : Written = newline_of s in
    let contents : List Content = new_section table (k ∷ ks) v in
    let line : List ℕ = keyed_text (k ∷ ks) v ++ newline.text in
    let below : List ℕ = content_text (new_header table) ++ (newline.text ++ line) in
    ap (λ (o : Option (Changed Document)). place_of (changed_or_same s o)) is
    ∙ lines_place s n contents (line_change s n contents) refl
    ∙ ap (λ (t : List ℕ). put_in (line_begins s n) (newline_if (is_past n s.ended) newline.text ++ t))
    (new_section_text newline table k ks v)
    ∙ ap (λ (t : List ℕ). put_in (line_begins s n) (t ++ (newline.text ++ below))) (sym (missing_is s n opens))

-- ---- which line is before

-- a body's last keyval
record IsBodyLast (es : List Ended) (last : Line) (k : ℕ) : Type 0 where
  pre : List Ended
  rest : List Ended
  was : es ≡ pre ++ rest
  number : k ≡ length pre
  kind : mentions_something (head_line rest last).content ≡ true

body_last : (es : List Ended) (last : Line) (k : ℕ) → body_length (map line_of es ++ last ∷ []) ≡ suc k
    → IsBodyLast es last k
body_last [] last k h = by last.content refl h
  where
    by : (x : Content) → last.content ≡ x → (elim x [
      | blank ↦ more_lines false 0
      | keyval name value ↦ more_lines true 0
      | header before key after ↦ 0
      | element before key after ↦ 0
    ]) ≡ suc k → IsBodyLast [] last k
    by blank e h = absurd cc
    by (keyval name value) e h =
        record { pre = []; rest = []; was = refl; number = omega (arith, h); kind = ap mentions_something e }
    by (header b x a) e h = absurd cc
    by (element b x a) e h = absurd cc
body_last (e ∷ es) last k h =
    by e.line.content refl (body_length (map line_of es ++ last ∷ [])) refl h (λ m g. body_last es last m g)
  where
    by : (x : Content) → e.line.content ≡ x → (m : ℕ) → body_length (map line_of es ++ last ∷ []) ≡ m → (elim x [
      | blank ↦ more_lines false m
      | keyval name value ↦ more_lines true m
      | header before key after ↦ 0
      | element before key after ↦ 0
    ]) ≡ suc k → ((m : ℕ) → body_length (map line_of es ++ last ∷ []) ≡ suc m → IsBodyLast es last m)
        → IsBodyLast (e ∷ es) last k
    by blank c zero g h ih = absurd cc
    by blank c (suc m) g h ih =
        let r : IsBodyLast es last m = ih m g in
        record {
          pre = e ∷ r.pre;
          rest = r.rest;
          was = ap (λ (l : List Ended). e ∷ l) r.was;
          number = omega (arith, h, r.number);
          kind = r.kind;
        }
    by (keyval name value) c zero g h ih =
        record { pre = []; rest = e ∷ es; was = refl; number = omega (arith, h); kind = ap mentions_something c }
    by (keyval name value) c (suc m) g h ih =
        let r : IsBodyLast es last m = ih m g in
        record {
          pre = e ∷ r.pre;
          rest = r.rest;
          was = ap (λ (l : List Ended). e ∷ l) r.was;
          number = omega (arith, h, r.number);
          kind = r.kind;
        }
    by (header b x a) c m g h ih = absurd cc
    by (element b x a) c m g h ih = absurd cc

-- the root's body ends after a keyval, or is empty
pub root_open : (profile : Profile) (s : Document) → IsDocument profile s
    → is_open (prefix_of (body_length (lines s)) s.ended s.last) ≡ is_past (body_length (lines s)) s.ended
root_open profile s valid = by (body_length (lines s)) refl
  where
    by : (n : ℕ) → body_length (lines s) ≡ n → is_open (prefix_of n s.ended s.last) ≡ is_past n s.ended
    by zero e = ap is_open (prefix_none s.ended s.last) ∙ sym (past_none s.ended)
    by (suc k) e =
        let r : IsBodyLast s.ended s.last k = body_last s.ended s.last k e in
        open_before profile s (suc k) valid
        (record { pre = r.pre; rest = r.rest; was = r.was; number = ap suc r.number; kind = r.kind })

-- a header's body ends after a keyval, or after the header
pub body_before : (s : Document) (pre rest : List Ended) (i : ℕ) → s.ended ≡ pre ++ rest → i ≡ length pre
    → mentions_something (head_line rest s.last).content ≡ true
    → IsLineBefore s (suc i + body_length (tail_lines rest s.last))
body_before s pre [] i was number mention_kind =
    record { pre = pre; rest = []; was = was; number = omega (arith, number); kind = mention_kind }
body_before s pre (e ∷ es) i was number mention_kind = by (body_length (map line_of es ++ s.last ∷ [])) refl
  where
    by : (m : ℕ) → body_length (map line_of es ++ s.last ∷ []) ≡ m → IsLineBefore s (suc i + m)
    by zero g = record { pre = pre; rest = e ∷ es; was = was; number = omega (arith, number); kind = mention_kind }
    by (suc k) g =
        let r : IsBodyLast es s.last k = body_last es s.last k g in
        record {
          pre = pre ++ e ∷ r.pre;
          rest = r.rest;
          was = was ∙ ap (λ (l : List Ended). pre ++ e ∷ l) r.was ∙ sym (append_assoc pre (e ∷ r.pre) r.rest);
          number = omega (arith, number, r.number, length-append pre (e ∷ r.pre));
          kind = r.kind;
        }
