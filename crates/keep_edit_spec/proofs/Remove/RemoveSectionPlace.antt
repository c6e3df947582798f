-- Where `remove` cuts a header with its body: found by the statements from the header's number on.
--
-- The definition finds the header by recursion over the lines, and its body by counting lines; the code has the number
-- of a statement and the statements after it. Two facts join them. The number that is known of a path is that of the
-- last line that mentions it so (`line_number`): later lines do not mention it, and all mentions of one line have the
-- same number. The end that is computed from the statements is the end of the body's lines: `body_ends`, an induction
-- over lines, where blank lines after the last keyval do not belong to the body (`blank_more`, `keyval_more`).
--
-- Theorems: `section_placed`: the change is at `section_place` of the statements from the header's number on.
use Rattle.std.proofs.Common.{◌≡◌, ℕ, zero, suc, ◌+◌, ◌<◌, Bool, true, false, List, [], ◌∷◌, ◌++◌, length, map, drop}
use Rattle.std.proofs.Common.{refl, sym, ap, subst, ◌∙◌, length-append, arith, Option, Some, None, ◌⊎◌, inl, inr}
use Rattle.std.proofs.Common.{drop_at}
use Rattle.std.specs.Prelude.{fold, if◌then◌else◌}
use Rattle.std.specs.List.{filter_map, cons_option}
use Rattle.std.proofs.lemmas.Bool.{and_parts}
use Rattle.std.proofs.lemmas.List.{length-map}
use Rattle.std.proofs.lemmas.List.Elements.{filter-append, filter_map-append}
use Rattle.std.proofs.lemmas.List.Sums.{fold-append}
use Rattle.keep_types.specs.declared.leaf.Profile.{Profile}
use Rattle.keep_types.specs.declared.syntax.Statement.{Statement}
use Rattle.keep_types.specs.declared.syntax.StatementKind.{StatementKind}
use Rattle.keep_types.specs.declared.syntax.StatementKind.TheVariants as kind
use Rattle.keep_syntax.specs.Tree.{Written, Gap, Content, blank, keyval, header, element, Line, Ended, Document}
use Rattle.keep_syntax.specs.Tree.{ended_leaves, text_of}
use Rattle.keep_syntax.specs.Grammar.{IsDocument}
use Rattle.keep_syntax.specs.Numbered as syntax
use Rattle.keep_syntax.specs.Numbered.{width, Count, key_count, line_statements, content_statements, over_lines}
use Rattle.keep_syntax.specs.Numbered.{next_line, first_line, after_lines, statement}
use Rattle.keep_syntax.proofs.Shared.{over_ended, after_lines-statements}
use Rattle.keep_path.specs.Path.{Part, same_path}
use Rattle.keep_meaning.specs.Marks as marks_of
use Rattle.keep_meaning.specs.Marks.{MentionKind, Mention, Reading, start, statement_mentions, next_reading}
use Rattle.keep_meaning.specs.Marks.{reading_after, header_prefixes}
use Rattle.keep_meaning.specs.Meaning.{keys_of, statement_of, after_line, lines_mentions, reading_after_lines, line_of}
use Rattle.keep_meaning.specs.Meaning.{lines}
use Rattle.keep_meaning.specs.Counts as counts
use Rattle.keep_meaning.specs.Counts.{Numbered, count_with_mention, next_count, no_count, numbered_mentions}
use Rattle.keep_meaning.specs.Counts.{numbered_from, count_from, line_statement, statements_in, numbered_in}
use Rattle.keep_meaning.specs.Nodes.{is_at, is_numbered_at, numbered_at, mention_of, last_number, statement_number}
use Rattle.keep_meaning.specs.Nodes.{is_define, is_begun}
use Rattle.keep_meaning.proofs.Shared.{mentions-numbered_mentions, mentions-numbered_from, lines_mentions-statements}
use Rattle.keep_meaning.proofs.Shared.{count_from-statements, numbered_from-append}
use Rattle.keep_edit_spec.specs.Changed.{Changed, place_of}
use Rattle.keep_edit_spec.specs.Lines.{last_line, begins, is_header, body_length, more_lines, drop_prefix}
use Rattle.keep_edit_spec.specs.Edits.{without_lines}
use Rattle.keep_edit_spec.specs.Removal.{body_end, section_place}
use Rattle.keep_edit_spec.proofs.Common.Runs.{AllOf, SomeOf, some_right, same_path-sound, same_path-refl}
use Rattle.keep_edit_spec.proofs.Common.Doubles.{IsMentioned}
use Rattle.keep_edit_spec.proofs.Common.BodyEnd.{drop_after}
use Rattle.keep_edit_spec.proofs.Common.StatementNumbers.{reading_lines}
use Rattle.keep_edit_spec.proofs.Common.ValueThere.{IsSome}
use Rattle.keep_edit_spec.proofs.Common.ValueNumber.{false_unless}
use Rattle.keep_edit_spec.proofs.Common.TableThere.{some_begins}
use Rattle.keep_edit_spec.proofs.Remove.ElementThere as element_there
use Rattle.keep_edit_spec.proofs.Remove.RemovePlace.{same_place}
use Rattle.keep_edit_spec.proofs.Remove.RemoveLinePlace.{head_line, tail_lines, head_text, over_tail, over_split}
use Rattle.keep_edit_spec.proofs.Remove.RemoveLinePlace.{over_head, lines_split, prefix_text, page_line, IsWithout}
use Rattle.keep_edit_spec.proofs.Remove.RemoveLinePlace.{without, IsLow, without_low}

-- ---- the last statement that says it

abbrev NotMentionedAt : (MentionKind → Bool) → List Part → Mention → Type 0
NotMentionedAt is path m = is_at path m ≡ true → is m.kind ≡ false

abbrev last_from : (MentionKind → Bool) → List Part → Option ℕ → List Numbered → Option ℕ
last_from is path known ns =
    fold (λ known n. if is n.mention.kind then Some (statement_number n.before) else known) known (numbered_at path ns)

module _ (is : MentionKind → Bool) (path : List Part) where
  past : (known : Option ℕ) (n : Numbered) (ns : List Numbered) → is_at path n.mention ≡ false
      → last_from is path known (n ∷ ns) ≡ last_from is path known ns
  past known n ns e = rw e refl

  here : (known : Option ℕ) (n : Numbered) (ns : List Numbered) → is_at path n.mention ≡ true
      → last_from is path known (n ∷ ns)
      ≡ last_from is path (if is n.mention.kind then Some (statement_number n.before) else known) ns
  here known n ns e = rw e refl

  -- nothing more is said
  preserved : (known : Option ℕ) (ns : List Numbered) → AllOf (NotMentionedAt is path) (map mention_of ns)
      → last_from is path known ns ≡ known
  preserved known [] h = refl
  preserved known (n ∷ ns) h = by (is_at path n.mention) refl (preserved known ns h.1)
    where
      by : (b : Bool) → is_at path n.mention ≡ b → last_from is path known ns ≡ known
          → last_from is path known (n ∷ ns) ≡ known
      by false e more = past known n ns e ∙ more
      by true e more =
          here known n ns e
          ∙ ap (λ (b : Bool). last_from is path (if b then Some (statement_number n.before) else known) ns) (h.0 e)
          ∙ more

  abbrev IsOf : ℕ → Numbered → Type 0
  IsOf j n = n.before.statements ≡ j

  -- all of one statement
  stays : (j : ℕ) (ns : List Numbered) → AllOf (IsOf j) ns → last_from is path (Some j) ns ≡ Some j
  stays j [] h = refl
  stays j (n ∷ ns) h = by (is_at path n.mention) refl (is n.mention.kind) refl (stays j ns h.1)
    where
      by : (b : Bool) → is_at path n.mention ≡ b → (k : Bool) → is n.mention.kind ≡ k
          → last_from is path (Some j) ns ≡ Some j → last_from is path (Some j) (n ∷ ns) ≡ Some j
      by false e k t more = past (Some j) n ns e ∙ more
      by true e false t more =
          here (Some j) n ns e
          ∙ ap (λ (b : Bool). last_from is path (if b then Some (statement_number n.before) else Some j) ns) t ∙ more
      by true e true t more =
          here (Some j) n ns e
          ∙ ap (λ (b : Bool). last_from is path (if b then Some (statement_number n.before) else Some j) ns) t
          ∙ ap (λ (k : ℕ). last_from is path (Some k) ns) h.0 ∙ more

  of_statement : (j : ℕ) (known : Option ℕ) (ns : List Numbered) → AllOf (IsOf j) ns
      → SomeOf (IsMentioned is path) (map mention_of ns) → last_from is path known ns ≡ Some j
  of_statement j known [] h s = absurd s
  of_statement j known (n ∷ ns) h (inl s) =
      let at : is_at path n.mention ≡ true = ap (λ (q : List Part). same_path q path) s.0 ∙ same_path-refl path in
      here known n ns at
      ∙ ap (λ (b : Bool). last_from is path (if b then Some (statement_number n.before) else known) ns) s.1
      ∙ ap (λ (k : ℕ). last_from is path (Some k) ns) h.0 ∙ stays j ns h.1
  of_statement j known (n ∷ ns) h (inr s) = by (is_at path n.mention) refl (λ k. of_statement j k ns h.1 s)
    where
      by : (b : Bool) → is_at path n.mention ≡ b → ((k : Option ℕ) → last_from is path k ns ≡ Some j)
          → last_from is path known (n ∷ ns) ≡ Some j
      by false e more = past known n ns e ∙ more known
      by true e more = here known n ns e ∙ more (if is n.mention.kind then Some (statement_number n.before) else known)

  none_at : (ms : List Mention) → (SomeOf (IsMentioned is path) ms → ⊥) → AllOf (NotMentionedAt is path) ms
  none_at [] unsaid = tt
  none_at (m ∷ ms) unsaid = (
    (λ e. false_unless (is m.kind) (λ t. unsaid (inl (same_path-sound m.path path e, t)))),
    none_at ms (λ s. unsaid (inr s)),
  )

  -- the last of several runs that says it
  last_of_runs : (j : ℕ) (earlier run later : List Numbered) → AllOf (IsOf j) run
      → SomeOf (IsMentioned is path) (map mention_of run) → (SomeOf (IsMentioned is path) (map mention_of later) → ⊥)
      → last_number is statement_number (numbered_at path (earlier ++ (run ++ later))) ≡ Some j
  last_of_runs j earlier run later one some none =
      let f : Option ℕ → Numbered → Option ℕ =
      λ known n. if is n.mention.kind then Some (statement_number n.before) else known in
      ap (fold f None) (filter-append (is_numbered_at path) earlier (run ++ later))
      ∙ fold-append f None (numbered_at path earlier) (numbered_at path (run ++ later))
      ∙ ap (fold f (fold f None (numbered_at path earlier))) (filter-append (is_numbered_at path) run later)
      ∙ fold-append f (fold f None (numbered_at path earlier)) (numbered_at path run) (numbered_at path later)
      ∙ ap (λ (o : Option ℕ). fold f o (numbered_at path later))
      (of_statement j (fold f None (numbered_at path earlier)) run one some)
      ∙ preserved (Some j) later (none_at (map mention_of later) none)

-- ---- the statement of a line

one_statement : (c : counts.Count) (ms : List Mention)
    → AllOf (λ (n : Numbered). n.before.statements ≡ c.statements) (numbered_mentions c ms)
one_statement c [] = tt
one_statement c (m ∷ ms) = (refl, one_statement (count_with_mention c m) ms)

line_counts : (c : Count) (l : Line) (line_end : ℕ) (x : Content) (ss : List marks_of.Statement)
    → length (cons_option (statement_of x) ss) ≡ length (content_statements c l line_end x) + length ss
line_counts c l line_end blank ss = omega arith
line_counts c l line_end (keyval name v) ss = omega arith
line_counts c l line_end (header b k a) ss = omega arith
line_counts c l line_end (element b k a) ss = omega arith

pub prefix_statements : (c : Count) (pre : List Ended)
    → length (filter_map line_statement (map line_of pre)) ≡ length (over_ended line_statements c pre)
prefix_statements c [] = refl
prefix_statements c (e ∷ pre) =
    omega (
      arith,
      line_counts c e.line (c.at + width (ended_leaves e)) e.line.content (filter_map line_statement (map line_of pre)),
      prefix_statements (next_line c e) pre,
      length-append (line_statements c e.line (c.at + width (ended_leaves e)))
          (over_ended line_statements (next_line c e) pre),
    )

-- the number that is known of what this line says last
pub line_number : (is : MentionKind → Bool) (path : List Part) (s : Document) (pre rest : List Ended)
    (st : marks_of.Statement) → s.ended ≡ pre ++ rest → statement_of (head_line rest s.last).content ≡ Some st
    → (let r : Reading = reading_after_lines start (map line_of pre) in
    SomeOf (IsMentioned is path) (statement_mentions r st)
    → (SomeOf (IsMentioned is path) (lines_mentions (next_reading r st) (tail_lines rest s.last)) → ⊥)
    → last_number is statement_number (numbered_at path (numbered_in s))
    ≡ Some (after_lines (first_line s) pre).statements)
line_number is path s pre rest st was e some none =
    let prefix : List marks_of.Statement = filter_map line_statement (map line_of pre) in
    let later : List marks_of.Statement = filter_map line_statement (tail_lines rest s.last) in
    let r : Reading = reading_after_lines start (map line_of pre) in
    let q : Reading = reading_after start prefix in
    let same : q ≡ r = reading_lines start (map line_of pre) in
    let c : counts.Count = count_from no_count start prefix in
    let all : statements_in s ≡ prefix ++ (st ∷ later) =
    ap (λ (es : List Ended). filter_map line_statement (map line_of es ++ s.last ∷ [])) was
    ∙ ap (filter_map line_statement) (lines_split pre rest s.last)
    ∙ filter_map-append line_statement (map line_of pre) (head_line rest s.last ∷ tail_lines rest s.last)
    ∙ ap (λ (o : Option marks_of.Statement). prefix ++ cons_option o later) e in
    let runs : numbered_in s ≡ numbered_from no_count start prefix
    ++ (numbered_mentions c (statement_mentions q st)
    ++ numbered_from (next_count c (statement_mentions q st)) (next_reading q st) later) =
    ap (numbered_from no_count start) all ∙ numbered_from-append no_count start prefix (st ∷ later) in
    let number : c.statements ≡ (after_lines (first_line s) pre).statements =
    omega (
      arith,
      count_from-statements no_count start prefix,
      prefix_statements (first_line s) pre,
      after_lines-statements (first_line s) pre,
    ) in
    let some' : SomeOf (IsMentioned is path) (map mention_of (numbered_mentions c (statement_mentions q st))) =
    subst (λ (ms : List Mention). SomeOf (IsMentioned is path) ms)
    (sym (mentions-numbered_mentions c (statement_mentions q st)))
    (subst (λ (x : Reading). SomeOf (IsMentioned is path) (statement_mentions x st)) (sym same) some) in
    let later_mentioned : map mention_of
    (numbered_from (next_count c (statement_mentions q st)) (next_reading q st) later)
    ≡ lines_mentions (next_reading r st) (tail_lines rest s.last) =
    mentions-numbered_from (next_count c (statement_mentions q st)) (next_reading q st) later
    ∙ sym (lines_mentions-statements (next_reading q st) (tail_lines rest s.last))
    ∙ ap (λ (x : Reading). lines_mentions (next_reading x st) (tail_lines rest s.last)) same in
    ap (λ (ns : List Numbered). last_number is statement_number (numbered_at path ns)) runs
    ∙ last_of_runs is path c.statements (numbered_from no_count start prefix)
    (numbered_mentions c (statement_mentions q st))
    (numbered_from (next_count c (statement_mentions q st)) (next_reading q st) later)
    (one_statement c (statement_mentions q st)) some'
    (λ x. none (subst (λ (ms : List Mention). SomeOf (IsMentioned is path) ms) later_mentioned x))
    ∙ ap Some number

-- ---- where the body ends

abbrev pub body_by : ℕ → ℕ → List Ended → Line → ℕ → ℕ
body_by at from es last n = elim n [ zero ↦ at | suc k ↦ from + length (drop_prefix (suc k) es last).old ]

last_body : (at : ℕ) (c : Count) (before after : Gap) (comment : Option Written) (x : Content)
    → (let l : Line = record { before = before; content = x; after = after; comment = comment } in
    body_end at (over_lines line_statements c [] l) ≡ body_by at c.at [] l (body_length (l ∷ [])))
last_body at c before after comment blank = refl
last_body at c before after comment (keyval name v) = refl
last_body at c before after comment (header b k a) = refl
last_body at c before after comment (element b k a) = refl

text_long : (e : Ended) (n : ℕ) (es : List Ended) (last : Line) (c : Count)
    → (next_line c e).at + length (drop_prefix n es last).old ≡ c.at + length (drop_prefix (suc n) (e ∷ es) last).old
text_long e n es last c = omega (arith, length-append (text_of (ended_leaves e)) (drop_prefix n es last).old)

drop_none : (es : List Ended) (last : Line) → length (drop_prefix 0 es last).old ≡ 0
drop_none [] last = refl
drop_none (e ∷ es) last = refl

blank_more : (at : ℕ) (c : Count) (e : Ended) (es : List Ended) (last : Line) (n : ℕ)
    → body_by at (next_line c e).at es last n ≡ body_by at c.at (e ∷ es) last (more_lines false n)
blank_more at c e es last zero = refl
blank_more at c e es last (suc k) = text_long e (suc k) es last c

keyval_more : (c : Count) (e : Ended) (es : List Ended) (last : Line) (n : ℕ)
    → body_by (c.at + width (ended_leaves e)) (next_line c e).at es last n ≡ c.at
    + length (drop_prefix (suc n) (e ∷ es) last).old
keyval_more c e es last zero = omega (arith, drop_none es last, text_long e 0 es last c)
keyval_more c e es last (suc k) = text_long e (suc k) es last c

pub body_ends : (at : ℕ) (c : Count) (es : List Ended) (last : Line)
    → body_end at (over_lines line_statements c es last)
    ≡ body_by at c.at es last (body_length (map line_of es ++ last ∷ []))
body_ends at c [] last = last_body at c last.before last.after last.comment last.content
body_ends at c (e ∷ es) last =
    by e.line.before e.line.after e.line.comment e.line.content refl (λ from. body_ends from (next_line c e) es last)
  where
    more : List Line
    more = map line_of es ++ last ∷ []

    by : (before after : Gap) (comment : Option Written) (x : Content) → e.line.content ≡ x
        → ((from : ℕ)
        → body_end from (over_lines line_statements (next_line c e) es last)
        ≡ body_by from (next_line c e).at es last (body_length (map line_of es ++ last ∷ [])))
        → body_end at (content_statements c e.line (c.at + width (ended_leaves e)) x
        ++ over_lines line_statements (next_line c e) es last)
        ≡ body_by at c.at (e ∷ es) last (elim x [
          | blank ↦ more_lines false (body_length (map line_of es ++ last ∷ []))
          | keyval name value ↦ more_lines true (body_length (map line_of es ++ last ∷ []))
          | header before k suffix ↦ 0
          | element before k suffix ↦ 0
        ])
    by before after comment blank k ih = ih at ∙ blank_more at c e es last (body_length (map line_of es ++ last ∷ []))
    by before after comment (keyval name v) k ih =
        ih (c.at + width (ended_leaves e)) ∙ keyval_more c e es last (body_length (map line_of es ++ last ∷ []))
    by before after comment (header b y a) k ih = refl
    by before after comment (element b y a) k ih = refl

pub tail_ends : (c : Count) (rest : List Ended) (last : Line)
    → body_end (c.at + length (head_text rest last)) (over_tail line_statements c rest last) ≡ c.at
    + length (drop_prefix (suc (body_length (tail_lines rest last))) rest last).old
tail_ends c [] last = refl
tail_ends c (e ∷ es) last =
    body_ends (c.at + width (ended_leaves e)) (next_line c e) es last
    ∙ keyval_more c e es last (body_length (map line_of es ++ last ∷ []))

-- ---- the section

-- the last header that defines the table, or that begins the element
abbrev pub IsHeaded : List Part → Document → ℕ → Type 0
IsHeaded path s number =
    (last_number is_define statement_number (numbered_at path (numbered_in s)) ≡ Some number)
    ⊎ (last_number is_begun statement_number (numbered_at path (numbered_in s)) ≡ Some number)

pub record IsSectionPlaced (path : List Part) (s : Document) (c : Changed Document) : Type 0 where
  pub number : ℕ
  pub headed : IsHeaded path s number
  pub within : number < length (syntax.statements s)
  pub low : IsLow c.old c.after
  pub place : section_place (drop number (syntax.statements s)) ≡ place_of c

pub none_some : (o : Option ℕ) → o ≡ None → IsSome o → ⊥
none_some None e s = s
none_some (Some n) e s = absurd cc

-- the statement of a header's line
pub record IsHeaderLine (path : List Part) (s : Document) (pre rest : List Ended) : Type 0 where
  pub kind : StatementKind
  pub keys : ℕ
  pub statements : (c : Count) (line_end : ℕ)
      → line_statements c (head_line rest s.last) line_end ≡ statement c (head_line rest s.last) line_end kind keys None
      ∷ []
  pub headed : IsHeaded path s (after_lines (first_line s) pre).statements

pub header_line : (path : List Part) (s : Document) (pre rest : List Ended) (x : Content) → s.ended ≡ pre ++ rest
    → (head_line rest s.last).content ≡ x → (let r : Reading = reading_after_lines start (map line_of pre) in
    is_header x ≡ true → (after_line r (head_line rest s.last)).body ≡ path
    → last_line (begins path) (after_line r (head_line rest s.last)) (tail_lines rest s.last) ≡ None
    → IsHeaderLine path s pre rest)
header_line path s pre rest blank was e is at none = absurd cc
header_line path s pre rest (keyval name v) was e is at none = absurd cc
header_line path s pre rest (header b k a) was e is at none =
    let r : Reading = reading_after_lines start (map line_of pre) in
    let st : marks_of.Statement = marks_of.header (keys_of k) in
    let stated : statement_of (head_line rest s.last).content ≡ Some st = ap statement_of e in
    let next : after_line r (head_line rest s.last) ≡ next_reading r st =
    ap (λ (o : Option marks_of.Statement). elim o [ None ↦ r | Some x ↦ next_reading r x ]) stated in
    let place : (next_reading r st).body ≡ path = sym (ap (λ (x : Reading). x.body) next) ∙ at in
    let none' : last_line (begins path) (next_reading r st) (tail_lines rest s.last) ≡ None =
    ap (λ (x : Reading). last_line (begins path) x (tail_lines rest s.last)) (sym next) ∙ none in
    record {
      kind = kind.Header;
      keys = key_count k;
      statements = λ c line_end. ap (content_statements c (head_line rest s.last) line_end) e;
      headed = inl (line_number is_define path s pre rest st was stated
          (some_right (IsMentioned is_define path) (header_prefixes r.tables [] (keys_of k)) _ (inl (place, refl)))
          (λ x. none_some (last_line (begins path) (next_reading r st) (tail_lines rest s.last)) none'
          (some_begins path (next_reading r st) (tail_lines rest s.last) x).0));
    }
header_line path s pre rest (element b k a) was e is at none =
    let r : Reading = reading_after_lines start (map line_of pre) in
    let st : marks_of.Statement = marks_of.element_header (keys_of k) in
    let stated : statement_of (head_line rest s.last).content ≡ Some st = ap statement_of e in
    let next : after_line r (head_line rest s.last) ≡ next_reading r st =
    ap (λ (o : Option marks_of.Statement). elim o [ None ↦ r | Some x ↦ next_reading r x ]) stated in
    let place : (next_reading r st).body ≡ path = sym (ap (λ (x : Reading). x.body) next) ∙ at in
    let none' : last_line (begins path) (next_reading r st) (tail_lines rest s.last) ≡ None =
    ap (λ (x : Reading). last_line (begins path) x (tail_lines rest s.last)) (sym next) ∙ none in
    record {
      kind = kind.Element;
      keys = key_count k;
      statements = λ c line_end. ap (content_statements c (head_line rest s.last) line_end) e;
      headed = inr (line_number is_begun path s pre rest st was stated
          (some_right (IsMentioned is_begun path) (header_prefixes r.tables [] (keys_of k)) _ (inr (inl (place, refl))))
          (λ x. none_some (last_line (begins path) (next_reading r st) (tail_lines rest s.last)) none'
          (element_there.some_begins path (next_reading r st) (tail_lines rest s.last) x)));
    }

pub after_length : (pre : List Ended) (l : Line) (post : List Line)
    → drop (suc (length pre)) (map line_of pre ++ l ∷ post) ≡ post
after_length pre l post =
    ap (λ (k : ℕ). drop (suc k) (map line_of pre ++ l ∷ post)) (sym (length-map pre line_of))
    ∙ drop_after (map line_of pre) l post

pub section_placed : (profile : Profile) (path : List Part) (s : Document) (i : ℕ) (c : Changed Document)
    → IsDocument profile s → last_line (begins path) start (lines s) ≡ Some i
    → without_lines s i (suc (body_length (drop (suc i) (lines s)))) ≡ Some c → IsSectionPlaced path s c
section_placed profile path s i c valid found is =
    let h = page_line (begins path) start s.ended s.last i found in
    let l : Line = head_line h.rest s.last in
    let n : ℕ = suc (body_length (tail_lines h.rest s.last)) in
    let tail : drop (suc i) (lines s) ≡ tail_lines h.rest s.last =
    ap (λ (k : ℕ). drop (suc k) (lines s)) h.number
    ∙ ap (λ (es : List Ended). drop (suc (length h.pre)) (map line_of es ++ s.last ∷ [])) h.was
    ∙ ap (drop (suc (length h.pre))) (lines_split h.pre h.rest s.last)
    ∙ after_length h.pre l (tail_lines h.rest s.last) in
    let w : IsWithout s h.pre h.rest n c =
    without s i n h.pre h.rest c h.was h.number
    (ap (λ (ls : List Line). without_lines s i (suc (body_length ls))) (sym tail) ∙ is) in
    let (one, two) =
    and_parts (is_header l.content) (same_path (after_line (reading_after_lines start (map line_of h.pre)) l).body path)
    h.passes in
    let line =
    header_line path s h.pre h.rest l.content h.was refl one
    (same_path-sound (after_line (reading_after_lines start (map line_of h.pre)) l).body path two) h.none_later in
    let x : Count = after_lines (first_line s) h.pre in
    let prefix : List Statement = over_ended line_statements (first_line s) h.pre in
    let line_end : ℕ = x.at + length (head_text h.rest s.last) in
    let st : Statement = statement x l line_end line.kind line.keys None in
    let more : List Statement = over_tail line_statements x h.rest s.last in
    let all : syntax.statements s ≡ prefix ++ (st ∷ more) =
    ap (λ (es : List Ended). over_lines line_statements (first_line s) es s.last) h.was
    ∙ over_split line_statements (first_line s) h.pre h.rest s.last
    ∙ ap (λ (ss : List Statement). prefix ++ ss)
    (over_head line_statements x h.rest s.last
    ∙ ap (λ (ss : List Statement). ss ++ more) (line.statements x line_end)) in
    let number : length prefix ≡ x.statements = omega (arith, after_lines-statements (first_line s) h.pre) in
    let from : drop x.statements (syntax.statements s) ≡ st ∷ more =
    ap (drop x.statements) all ∙ drop_at prefix (st ∷ more) x.statements number in
    let begins : x.at ≡ length c.before = prefix_text s h.pre ∙ sym w.start in
    record {
      number = x.statements;
      headed = line.headed;
      within = omega (arith, ap (λ (ss : List Statement). length ss) all, length-append prefix (st ∷ more), number);
      low = without_low profile s h.pre h.rest n c.old c.after valid h.was w.old w.after;
      place = ap section_place from
          ∙ same_place x.at (length c.before) (body_end line_end more) (length c.before + length c.old) [] c.new begins
          (omega (arith, tail_ends x h.rest s.last, begins, ap (λ (t : List ℕ). length t) w.old)) (sym w.new);
    }
