-- A remove of a keyval's line, with its comment left or without, leaves the statements of the other lines.
--
-- Which line the remove takes hold of is known by the rules: what is beside a keyval's line is beside its path, so no
-- two lines give one path a value (`no_two`), and two cuts of the lines at such a line are one (`same_line`). There is
-- such a line, so the remove clears it (`cleared`) or drops it (`dropped`). Both ways leave the statements of the
-- others (`left_by`).
--
-- Theorems: `rules`; `statements_left`; `said_left`: what a document with these statements says.
use Rattle.std.proofs.Common.{◌≡◌, ℕ, zero, suc, ◌≤◌, Bool, true, cond, List, [], ◌∷◌, ◌++◌, length, map, take}
use Rattle.std.proofs.Common.{drop, refl, sym, ap, ap₂, subst, ◌∙◌, ◌⊎◌, inl, inr, arith, length-append, Option, Some}
use Rattle.std.proofs.Common.{None}
use Rattle.std.specs.List.{cons_option}
use Rattle.std.proofs.lemmas.List.{length-map}
use Rattle.keep_syntax.specs.Tree.{Content, Name, Value, Line, Document, keyval}
use Rattle.keep_path.specs.Path.{Part, strip}
use Rattle.keep_path.proofs.Shared.{path_decides}
use Rattle.keep_meaning.specs.Counts.{statements_in}
use Rattle.keep_meaning.specs.Marks as marks
use Rattle.keep_meaning.specs.Marks.{Mention, Reading, below, start, value as kinds_value}
use Rattle.keep_meaning.specs.Meaning.{after_line, body_fact, entries_mentions, keyed_mentions, keys_of}
use Rattle.keep_meaning.specs.Meaning.{keyval_mentions, line_of, lines, lines_mentions, mentions_in}
use Rattle.keep_meaning.specs.Meaning.{reading_after_lines, statement_of, step, valued_mentions}
use Rattle.keep_meaning.specs.Rules.{ObeysRules}
use Rattle.keep_meaning.proofs.Shared.{lines_mentions-statements}
use Rattle.keep_edit_spec.specs.Changed.{Changed, or_else}
use Rattle.keep_edit_spec.specs.Edits.{changed_or_same, clear_line, edited_document, is_own, nested, remove}
use Rattle.keep_edit_spec.specs.Edits.{without_lines}
use Rattle.keep_edit_spec.specs.Lines.{begins, body_length, in_document, in_lines, last_line, with_page}
use Rattle.keep_edit_spec.specs.Values.{removal}
use Rattle.keep_edit_spec.proofs.Common.InValue.{beside_keyval}
use Rattle.keep_edit_spec.proofs.Common.LineLaws.{lines_mentions-append}
use Rattle.keep_edit_spec.proofs.Common.LineStatements.{dropped_statements, statements-append, statements_of}
use Rattle.keep_edit_spec.proofs.Common.Marks.{rules_of_document}
use Rattle.keep_edit_spec.proofs.Common.Runs.{AllOf, IsDisjoint, Rules, all_left, all_right, strip-append}
use Rattle.keep_edit_spec.proofs.Common.SetDocument.{page_lines, whole_mentions}
use Rattle.keep_edit_spec.proofs.Common.SetLaw.{EachTo, to_within}
use Rattle.keep_edit_spec.proofs.Remove.RemoveLines.{IsFound, IsLastLine, IsOwnLine, LinesCleared, drop_prefix_of}
use Rattle.keep_edit_spec.proofs.Remove.RemoveLines.{found, keyval_run, lines_cleared, own_line, take_prefix}

-- ---- one line

-- what a keyval's line says is at its path
said_at : (path : List Part) (pre post : List Line) (l : Line)
    → IsOwnLine (reading_after_lines start pre).body path l.content
    → AllOf (IsDisjoint path) (lines_mentions start (pre ++ l ∷ post)) → ⊥
said_at path pre post l own h =
    let r : Reading = reading_after_lines start pre in
    let p : List Part = r.body ++ step 0 (Some own.name) in
    let ms : List Mention = map (below r.body) (keyval_mentions own.name own.held) in
    let vs : List Mention =
    valued_mentions (kinds_value (body_fact own.held.body)) (entries_mentions 0 own.held.nested) in
    let ways : List Mention = map (below r.body) (keyed_mentions (keys_of own.name.key) []) in
    let right : List Mention = lines_mentions r post in
    let cut : AllOf (IsDisjoint path) (lines_mentions start pre ++ (ms ++ right)) =
    subst (AllOf (IsDisjoint path)) (whole_mentions pre post l own.name own.held own.was) h in
    let mine : AllOf (IsDisjoint path) ms =
    all_left (IsDisjoint path) ms right (all_right (IsDisjoint path) (lines_mentions start pre) (ms ++ right) cut) in
    let run : AllOf (IsDisjoint path) (map (below p) vs) =
    all_right (IsDisjoint path) ways (map (below p) vs)
    (subst (AllOf (IsDisjoint path)) (keyval_run r.body own.name own.held) mine) in
    let clash : None ≡ Some [] =
    sym run.0 ∙ ap (λ (q : List Part). strip q (p ++ [])) (sym own.place) ∙ strip-append p [] in
    cc

-- no two lines give the path a value
no_two : (path : List Part) (earlier pre mid post : List Line) (l l' : Line) → earlier ≡ pre ++ l ∷ mid
    → IsOwnLine (reading_after_lines start pre).body path l.content
    → IsOwnLine (reading_after_lines start earlier).body path l'.content
    → Rules (lines_mentions start (earlier ++ l' ∷ post)) → ⊥
no_two path earlier pre mid post l l' e own own' rules =
    let b = beside_keyval earlier post own'.name own'.held
    (subst Rules (whole_mentions earlier post l' own'.name own'.held own'.was) rules) in
    said_at path pre mid l own
    (subst (λ (q : List Part). AllOf (IsDisjoint q) (lines_mentions start (pre ++ l ∷ mid))) own'.place
    (subst (λ (ls : List Line).
    AllOf (IsDisjoint ((reading_after_lines start earlier).body ++ step 0 (Some own'.name))) (lines_mentions start ls))
    e b.before))

-- two cuts of one list
two_cuts : (xs ys us vs : List Line) (x y : Line) → xs ++ x ∷ us ≡ ys ++ y ∷ vs
    → ((xs ≡ ys) × (us ≡ vs)) ⊎ (((m : List Line) × (xs ≡ ys ++ y ∷ m)) ⊎ ((m : List Line) × (ys ≡ xs ++ x ∷ m)))
two_cuts [] [] us vs x y e = inl (refl, (let same : us ≡ vs = cc in same))
two_cuts [] (b ∷ ys) us vs x y e = let same : b ≡ x = cc in inr (inr (ys, ap (λ (z : Line). z ∷ ys) same))
two_cuts (a ∷ xs) [] us vs x y e = let same : a ≡ y = cc in inr (inl (xs, ap (λ (z : Line). z ∷ xs) same))
two_cuts (a ∷ xs) (b ∷ ys) us vs x y e =
    let head : a ≡ b = cc in
    let tail : xs ++ x ∷ us ≡ ys ++ y ∷ vs = cc in
    by head (two_cuts xs ys us vs x y tail)
  where
    by : a ≡ b
        → ((xs ≡ ys) × (us ≡ vs)) ⊎ (((m : List Line) × (xs ≡ ys ++ y ∷ m)) ⊎ ((m : List Line) × (ys ≡ xs ++ x ∷ m)))
        → ((a ∷ xs ≡ b ∷ ys) × (us ≡ vs))
        ⊎ (((m : List Line) × (a ∷ xs ≡ b ∷ ys ++ y ∷ m)) ⊎ ((m : List Line) × (b ∷ ys ≡ a ∷ xs ++ x ∷ m)))
    by head (inl h) = inl (ap₂ (λ (z : Line) (l : List Line). z ∷ l) head h.0, h.1)
    by head (inr (inl h)) = inr (inl (h.0, ap₂ (λ (z : Line) (l : List Line). z ∷ l) head h.1))
    by head (inr (inr h)) = inr (inr (h.0, ap₂ (λ (z : Line) (l : List Line). z ∷ l) (sym head) h.1))

-- a line that passes is found
not_found : (test : Reading → Line → Bool) (r : Reading) (pre post : List Line) (l : Line)
    → test (reading_after_lines r pre) l ≡ true → last_line test r (pre ++ l ∷ post) ≡ None → ⊥
not_found test r [] post l h e =
    by (last_line test (after_line r l) post)
    (ap (λ (b : Bool).
    elim (last_line test (after_line r l) post) [ Some n ↦ Some (suc n) | None ↦ cond b (Some zero) None ]) (sym h) ∙ e)
  where
    by : (o : Option ℕ) → ◌≡◌ {A = Option ℕ} (elim o [ Some n ↦ Some (suc n) | None ↦ Some zero ]) None → ⊥
    by None e = cc
    by (Some n) e = cc
not_found test r (x ∷ pre) post l h e =
    by (last_line test (after_line r x) (pre ++ l ∷ post)) e (not_found test (after_line r x) pre post l h)
  where
    by : (o : Option ℕ)
        → ◌≡◌ {A = Option ℕ} (elim o [ Some n ↦ Some (suc n) | None ↦ cond (test r x) (Some zero) None ]) None
        → (o ≡ None → ⊥) → ⊥
    by None e more = more refl
    by (Some n) e more = cc

-- Between these lines is one that gives the path this value, and the document obeys the rules.
module _ (s : Document) (path : List Part) (before after : List Line) (line : Line) (name : Name) (value : Value)
    (obeys : ObeysRules (marks.marks (mentions_in s))) (here : lines s ≡ before ++ line ∷ after)
    (content : line.content ≡ keyval name value)
    (place : (reading_after_lines start before).body ++ step 0 (Some name) ≡ path) where
  pub rules : Rules (lines_mentions start (before ++ line ∷ after))
  rules = subst (λ (ls : List Line). Rules (lines_mentions start ls)) here (rules_of_document s obeys)

  own : IsOwnLine (reading_after_lines start before).body path line.content
  own = record { name = name; held = value; was = content; place = place }

  -- another line with the path is this one
  same_line : (pre post : List Line) (l : Line) → lines s ≡ pre ++ l ∷ post
      → IsOwnLine (reading_after_lines start pre).body path l.content → (pre ≡ before) × (post ≡ after)
  same_line pre post l is mine = by (two_cuts pre before post after l line (sym is ∙ here))
    where
      by : ((pre ≡ before) × (post ≡ after))
          ⊎ (((m : List Line) × (pre ≡ before ++ line ∷ m)) ⊎ ((m : List Line) × (before ≡ pre ++ l ∷ m)))
          → (pre ≡ before) × (post ≡ after)
      by (inl same) = same
      by (inr (inl later)) =
          absurd (no_two path pre before later.0 post line l later.1 own mine
          (subst (λ (ls : List Line). Rules (lines_mentions start ls)) is (rules_of_document s obeys)))
      by (inr (inr earlier)) = absurd (no_two path before pre earlier.0 after l line earlier.1 mine own rules)

  -- the statements of the other lines
  abbrev Leaves : Document → Type 0
  Leaves d = statements_in d ≡ statements_of (before ++ after)

  left_by : (d : Document) (pre post : List Line) (l : Line) → lines s ≡ pre ++ l ∷ post
      → IsOwnLine (reading_after_lines start pre).body path l.content
      → statements_in d ≡ statements_of (pre ++ post) → Leaves d
  left_by d pre post l is mine left =
      let same = same_line pre post l is mine in
      left ∙ ap₂ (λ (xs ys : List Line). statements_of (xs ++ ys)) same.0 same.1

  pub said_left : (d : Document) → Leaves d
      → mentions_in d ≡ lines_mentions start before ++ lines_mentions (reading_after_lines start before) after
  said_left d is =
      lines_mentions-statements start (lines d) ∙ ap (marks.mentions_from start) is
      ∙ sym (lines_mentions-statements start (before ++ after)) ∙ lines_mentions-append start before after

  -- ---- the two ways

  cleared : EachTo Leaves (in_document s (in_lines (clear_line path) start s.ended s.last))
  cleared =
      to_within (λ p. LinesCleared start path (lines s) (page_lines p)) Leaves (with_page s) _ []
      (in_lines (clear_line path) start s.ended s.last)
      (λ p c. left_by (with_page s p) c.pre c.post c.old c.was c.own
      (ap statements_of c.is ∙ statements-append c.pre (c.now ∷ c.post)
      ∙ ap (λ (x : Content). statements_of c.pre ++ cons_option (statement_of x) (statements_of c.post)) c.clear
      ∙ sym (statements-append c.pre c.post)))
      (lines_cleared path start s.ended s.last)

  abbrev is_mine : Reading → Line → Bool
  is_mine r l = is_own path r l.content

  dropped : (i : ℕ) → IsLastLine is_mine start (lines s) i → Leaves (changed_or_same s (without_lines s i 1)).to
  dropped i f =
      let few : i ≤ length s.ended =
      omega (
        arith,
        sym f.number,
        ap length f.was,
        length-append (map line_of s.ended) (s.last ∷ []),
        length-map s.ended line_of,
        length-append f.pre (f.line ∷ f.post),
      ) in
      left_by (changed_or_same s (without_lines s i 1)).to f.pre f.post f.line f.was
      (own_line path (reading_after_lines start f.pre) f.line.content f.passes)
      (dropped_statements i 1 s.ended s.last few
      ∙ ap (λ (x : List Line). statements_of (take i x ++ drop 1 (drop i x))) f.was
      ∙ ap (λ (k : ℕ). statements_of (take k (f.pre ++ f.line ∷ f.post) ++ drop 1 (drop k (f.pre ++ f.line ∷ f.post))))
      (sym f.number)
      ∙ ap₂ (λ (x y : List Line). statements_of (x ++ drop 1 y)) (take_prefix f.pre (f.line ∷ f.post))
      (drop_prefix_of f.pre (f.line ∷ f.post)))

  is_there : last_line is_mine start (lines s) ≡ None → ⊥
  is_there gone =
      not_found is_mine start before after line
      (ap (is_own path (reading_after_lines start before)) content
      ∙ (path_decides ((reading_after_lines start before).body ++ step 0 (Some name)) path).1 place)
      (ap (last_line is_mine start) (sym here) ∙ gone)

  -- what would be removed if no line gave the path a value
  abbrev otherwise : Option (Changed Document)
  otherwise =
      or_else (elim (last_line (begins path) start (lines s)) [
        | None ↦ None
        | Some i ↦ without_lines s i (suc (body_length (drop (suc i) (lines s))))
      ])
      (nested removal path s)

  abbrev unless_cleared : Option (Changed Document)
  unless_cleared =
      or_else (elim (last_line is_mine start (lines s)) [ None ↦ None | Some i ↦ without_lines s i 1 ]) otherwise

  pub statements_left : statements_in (edited_document s (remove path)) ≡ statements_of (before ++ after)
  statements_left = by (in_document s (in_lines (clear_line path) start s.ended s.last)) cleared
    where
      drops : (o : Option ℕ) → last_line is_mine start (lines s) ≡ o → IsFound is_mine start (lines s) o
          → Leaves (changed_or_same s (or_else (elim o [ None ↦ None | Some i ↦ without_lines s i 1 ]) otherwise)).to
      drops None e f = absurd (is_there e)
      drops (Some i) e f = dropped i f

      by : (o : Option (Changed Document)) → EachTo Leaves o
          → Leaves (changed_or_same s (or_else o unless_cleared)).to
      by (Some c) h = h
      by None h = drops (last_line is_mine start (lines s)) refl (found is_mine start (lines s))
