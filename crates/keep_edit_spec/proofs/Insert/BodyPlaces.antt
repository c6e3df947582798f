-- Where a body ends, by the list of all statements: after the line before which new lines are put.
--
-- `body_ends` and `tail_ends` say that going over the statements of a body gives the end of its last keyval's line.
-- Here this is said of the header that is the last to name the path, or to go through it, whose number among the
-- statements is that of the node.
--
-- Theorems: `root_end`, `headed_at`, `through_at`.
use Rattle.std.proofs.Common.{◌≡◌, ℕ, zero, suc, ◌+◌, ◌<◌, true, false, List, [], ◌∷◌, ◌++◌, length, map, take, drop}
use Rattle.std.proofs.Common.{refl, sym, ap, subst, ◌∙◌, length-append, arith, Option, Some, None, inl, inr, drop_at}
use Rattle.std.proofs.lemmas.Bool.{and_parts}
use Rattle.keep_types.specs.declared.syntax.Statement.{Statement}
use Rattle.keep_types.specs.declared.syntax.StatementKind.{StatementKind}
use Rattle.keep_types.specs.declared.syntax.StatementKind.TheVariants as kind
use Rattle.keep_syntax.specs.Tree.{Written, Gap, Content, blank, keyval, header, element, Line, Ended, Document}
use Rattle.keep_syntax.specs.Numbered as syntax
use Rattle.keep_syntax.specs.Numbered.{Count, key_count, line_statements, content_statements, over_lines, first_line}
use Rattle.keep_syntax.specs.Numbered.{after_lines, statement}
use Rattle.keep_syntax.proofs.Shared.{over_ended, after_lines-statements}
use Rattle.keep_path.specs.Path.{Part, same_path}
use Rattle.keep_meaning.specs.Marks as marks_of
use Rattle.keep_meaning.specs.Marks.{Mention, Reading, start, below, statement_mentions, next_reading}
use Rattle.keep_meaning.specs.Meaning.{keys_of, keyval_mentions, statement_of, line_mentions, after_line}
use Rattle.keep_meaning.specs.Meaning.{lines_mentions, reading_after_lines, line_of, lines}
use Rattle.keep_meaning.specs.Counts.{numbered_in, statements_in}
use Rattle.keep_meaning.specs.Nodes.{has, numbered_at, last_number, statement_number, is_through}
use Rattle.keep_edit_spec.specs.Insertion.{next_statement, section_end}
use Rattle.keep_edit_spec.specs.Lines.{last_line, begins, leads_through, is_header, body_length, ended_text}
use Rattle.keep_edit_spec.specs.Lines.{body_end as line_end}
use Rattle.keep_edit_spec.specs.Removal.{body_end}
use Rattle.keep_edit_spec.proofs.Common.Runs.{AllOf, SomeOf, same_path-sound}
use Rattle.keep_edit_spec.proofs.Common.Doubles.{IsMentioned, has_some, some_has}
use Rattle.keep_edit_spec.proofs.Common.LineStatements.{statements_of}
use Rattle.keep_edit_spec.proofs.Common.RemoveThere.{some_here, some_later}
use Rattle.keep_edit_spec.proofs.Common.ValueThere.{IsSome, some_cases}
use Rattle.keep_edit_spec.proofs.Remove.KeyvalMentions.{mentions_keyval, mentioned_below}
use Rattle.keep_edit_spec.proofs.Remove.RemoveLinePlace.{head_line, tail_lines, head_text, over_tail, over_split}
use Rattle.keep_edit_spec.proofs.Remove.RemoveLinePlace.{over_head, lines_split, prefix_text, IsPageLine, page_line}
use Rattle.keep_edit_spec.proofs.Remove.RemoveSectionPlace.{IsHeaded, IsHeaderLine, after_length, body_by, body_ends}
use Rattle.keep_edit_spec.proofs.Remove.RemoveSectionPlace.{header_line, line_number, none_some, tail_ends}
use Rattle.keep_edit_spec.proofs.Insert.BodyStatements.{header_counted}
use Rattle.keep_edit_spec.proofs.Insert.LinesPut.{prefix_of, bom_width, line_begins, prefix_none, prefix_past}
use Rattle.keep_edit_spec.proofs.Insert.LineBefore.{mentions_something, IsLineBefore, body_before}

-- ---- the root's

body_by_is : (at : ℕ) (es : List Ended) (last : Line) (n : ℕ)
    → body_by at at es last n ≡ at + length (prefix_of n es last)
body_by_is at es last zero = omega (arith, ap (λ (t : List ℕ). length t) (prefix_none es last))
body_by_is at es last (suc k) = refl

pub root_end : (s : Document) → body_end (bom_width s) (syntax.statements s) ≡ line_begins s (body_length (lines s))
root_end s =
    body_ends (bom_width s) (first_line s) s.ended s.last
    ∙ body_by_is (bom_width s) s.ended s.last (body_length (lines s))

-- ---- a header's

-- the statement of a header
record IsHead (x : Content) : Type 0 where
  kind : StatementKind
  keys : ℕ
  stated : marks_of.Statement
  tells : statement_of x ≡ Some stated
  statements : (c : Count) (l : Line) (line_end : ℕ)
      → content_statements c l line_end x ≡ statement c l line_end kind keys None ∷ []
  mentions_some : mentions_something x ≡ true

head : (x : Content) → is_header x ≡ true → IsHead x
head blank h = absurd cc
head (keyval name v) h = absurd cc
head (header b k a) h =
    record {
      kind = kind.Header;
      keys = key_count k;
      stated = marks_of.header (keys_of k);
      tells = refl;
      statements = λ c l e. refl;
      mentions_some = refl;
    }
head (element b k a) h =
    record {
      kind = kind.Element;
      keys = key_count k;
      stated = marks_of.element_header (keys_of k);
      tells = refl;
      statements = λ c l e. refl;
      mentions_some = refl;
    }

-- the number of a line's statement
abbrev pub number_at : Document → List Ended → ℕ
number_at s pre = (after_lines (first_line s) pre).statements

-- A line with a header: its body ends where the line with this number begins, after a line that says something. The
-- statements before that line are those up to the last keyval of the body.
pub record IsBodyBefore (s : Document) (number n : ℕ) : Type 0 where
  pub within : number < length (syntax.statements s)
  pub ends : section_end (drop number (syntax.statements s)) ≡ line_begins s n
  pub before : IsLineBefore s n
  pub counted : statements_of (take n (lines s))
      ≡ take (next_statement (Some number) (syntax.statements s)) (statements_in s)

line_split : (s : Document) (pre rest : List Ended) → s.ended ≡ pre ++ rest
    → drop (suc (length pre)) (lines s) ≡ tail_lines rest s.last
line_split s pre rest was =
    ap (λ (es : List Ended). drop (suc (length pre)) (map line_of es ++ s.last ∷ [])) was
    ∙ ap (drop (suc (length pre))) (lines_split pre rest s.last)
    ∙ after_length pre (head_line rest s.last) (tail_lines rest s.last)

body_at : (s : Document) (pre rest : List Ended) (i : ℕ) → s.ended ≡ pre ++ rest → i ≡ length pre
    → is_header (head_line rest s.last).content ≡ true → IsBodyBefore s (number_at s pre) (line_end i (lines s))
body_at s pre rest i was number is =
    let l : Line = head_line rest s.last in
    let h : IsHead l.content = head l.content is in
    let m : ℕ = body_length (tail_lines rest s.last) in
    let tail : drop (suc i) (lines s) ≡ tail_lines rest s.last =
    ap (λ (k : ℕ). drop (suc k) (lines s)) number ∙ line_split s pre rest was in
    let same : line_end i (lines s) ≡ suc i + m = ap (λ (ls : List Line). suc i + body_length ls) tail in
    let x : Count = after_lines (first_line s) pre in
    let prefix : List Statement = over_ended line_statements (first_line s) pre in
    let at : ℕ = x.at + length (head_text rest s.last) in
    let st : Statement = statement x l at h.kind h.keys None in
    let more : List Statement = over_tail line_statements x rest s.last in
    let all : syntax.statements s ≡ prefix ++ (st ∷ more) =
    ap (λ (es : List Ended). over_lines line_statements (first_line s) es s.last) was
    ∙ over_split line_statements (first_line s) pre rest s.last
    ∙ ap (λ (ss : List Statement). prefix ++ ss)
    (over_head line_statements x rest s.last ∙ ap (λ (ss : List Statement). ss ++ more) (h.statements x l at)) in
    let count : length prefix ≡ x.statements = omega (arith, after_lines-statements (first_line s) pre) in
    let from : drop x.statements (syntax.statements s) ≡ st ∷ more =
    ap (drop x.statements) all ∙ drop_at prefix (st ∷ more) x.statements count in
    let far : prefix_of (suc i + m) s.ended s.last ≡ ended_text pre ++ prefix_of (suc m) rest s.last =
    ap (λ (es : List Ended). prefix_of (suc i + m) es s.last) was
    ∙ prefix_past pre (suc m) rest s.last (suc i + m) (omega (arith, number)) in
    record {
      within = omega (arith, ap (λ (ss : List Statement). length ss) all, length-append prefix (st ∷ more), count);
      ends = ap section_end from ∙ tail_ends x rest s.last
          ∙ omega (
            arith,
            prefix_text s pre,
            ap (λ (t : List ℕ). length t) far,
            length-append (ended_text pre) (prefix_of (suc m) rest s.last),
          )
          ∙ ap (line_begins s) (sym same);
      before = subst (IsLineBefore s) (sym same) (body_before s pre rest i was number h.mentions_some);
      counted = ap (λ (k : ℕ). statements_of (take k (lines s))) same
          ∙ ap (λ (k : ℕ). statements_of (take (suc k + m) (lines s))) number
          ∙ header_counted s pre rest was h.stated h.tells st all;
    }

-- ---- the last header that names the path

pub record IsHeadedAt (a : List Part) (s : Document) (n : ℕ) : Type 0 where
  pub number : ℕ
  pub headed : IsHeaded a s number
  pub body : IsBodyBefore s number n

pub headed_at : (a : List Part) (s : Document) (i : ℕ) → last_line (begins a) start (lines s) ≡ Some i
    → IsHeadedAt a s (line_end i (lines s))
headed_at a s i found =
    let h : IsPageLine (begins a) start s.ended s.last i = page_line (begins a) start s.ended s.last i found in
    let l : Line = head_line h.rest s.last in
    let at : List Part = (after_line (reading_after_lines start (map line_of h.pre)) l).body in
    let (one, two) = and_parts (is_header l.content) (same_path at a) h.passes in
    let line : IsHeaderLine a s h.pre h.rest =
    header_line a s h.pre h.rest l.content h.was refl one (same_path-sound at a two) h.none_later in
    record { number = number_at s h.pre; headed = line.headed; body = body_at s h.pre h.rest i h.was h.number one }

-- ---- the last header that goes through the path

never_through : (a : List Part) (ms : List Mention) → AllOf (λ (m : Mention). is_through m.kind ≡ false) ms
    → SomeOf (IsMentioned is_through a) ms → ⊥
never_through a [] h s = s
never_through a (m ∷ ms) h (inl s) =
    let no : is_through m.kind ≡ false = h.0 in let yes : is_through m.kind ≡ true = s.1 in absurd cc
never_through a (m ∷ ms) h (inr s) = never_through a ms h.1 s

through_content : (a : List Part) (r : Reading) (before after : Gap) (comment : Option Written) (c : Content)
    → (let l : Line = record { before = before; content = c; after = after; comment = comment } in
    SomeOf (IsMentioned is_through a) (line_mentions r l) → leads_through a r l ≡ true)
through_content a r before after comment blank s = absurd s
through_content a r before after comment (keyval name v) s =
    absurd (never_through a (map (below r.body) (keyval_mentions name v))
    (mentioned_below (λ x. is_through x ≡ false) r.body (keyval_mentions name v)
    (mentions_keyval (λ x. is_through x ≡ false) (record { dot = refl; held = λ f. refl; unnamed = λ f. refl }) name v))
    s)
through_content a r before after comment (header b k x) s = some_has is_through a _ s
through_content a r before after comment (element b k x) s = some_has is_through a _ s

pub through_lines : (a : List Part) (r : Reading) (ls : List Line)
    → SomeOf (IsMentioned is_through a) (lines_mentions r ls) → IsSome (last_line (leads_through a) r ls)
through_lines a r [] s = absurd s
through_lines a r (l ∷ ls) s =
    elim (some_cases (IsMentioned is_through a) (line_mentions r l) (lines_mentions (after_line r l) ls) s) [
      | inl h ↦ some_here (leads_through a) r l ls (through_content a r l.before l.after l.comment l.content h)
      | inr h ↦ some_later (leads_through a) r l ls (through_lines a (after_line r l) ls h)
    ]

pub record IsThroughAt (a : List Part) (s : Document) (n : ℕ) : Type 0 where
  pub number : ℕ
  pub through : last_number is_through statement_number (numbered_at a (numbered_in s)) ≡ Some number
  pub body : IsBodyBefore s number n

pub through_at : (a : List Part) (s : Document) (i : ℕ) → last_line (leads_through a) start (lines s) ≡ Some i
    → IsThroughAt a s (line_end i (lines s))
through_at a s i found =
    let h : IsPageLine (leads_through a) start s.ended s.last i =
    page_line (leads_through a) start s.ended s.last i found in
    let r : Reading = reading_after_lines start (map line_of h.pre) in
    let l : Line = head_line h.rest s.last in
    let (one, two) = and_parts (is_header l.content) (has is_through a (line_mentions r l)) h.passes in
    let is : IsHead l.content = head l.content one in
    let mentioned : line_mentions r l ≡ statement_mentions r is.stated =
    ap (λ (o : Option marks_of.Statement). elim o [ None ↦ [] | Some x ↦ statement_mentions r x ]) is.tells in
    let next : after_line r l ≡ next_reading r is.stated =
    ap (λ (o : Option marks_of.Statement). elim o [ None ↦ r | Some x ↦ next_reading r x ]) is.tells in
    let later : last_line (leads_through a) (next_reading r is.stated) (tail_lines h.rest s.last) ≡ None =
    ap (λ (x : Reading). last_line (leads_through a) x (tail_lines h.rest s.last)) (sym next) ∙ h.none_later in
    record {
      number = number_at s h.pre;
      through = line_number is_through a s h.pre h.rest is.stated h.was is.tells
          (subst (SomeOf (IsMentioned is_through a)) mentioned (has_some is_through a (line_mentions r l) two))
          (λ x. none_some (last_line (leads_through a) (next_reading r is.stated) (tail_lines h.rest s.last)) later
          (through_lines a (next_reading r is.stated) (tail_lines h.rest s.last) x));
      body = body_at s h.pre h.rest i h.was h.number one;
    }
