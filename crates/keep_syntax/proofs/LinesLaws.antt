-- A list over lines from one count on is the list over them from another, moved.
--
-- Theorems: `moved_over`: any such list; `moved_statements`, and its like for key parts and values: one of them;
-- `over-prefix`: the list over some lines and then over the others.
use Rattle.std.proofs.Common.{◌≡◌, ℕ, ◌+◌, List, [], ◌∷◌, ◌++◌, map, refl, sym, ap, ◌∙◌, append_assoc}
use Rattle.keep_syntax.specs.Tree.{Line, Ended, ended_leaves}
use Rattle.keep_syntax.specs.Numbered.{width, Count, line_statements, line_parts, line_values, next_line, over_lines}
use Rattle.keep_syntax.specs.Numbered.{after_lines}
use Rattle.keep_syntax_store.proofs.Shared.{Moves, moves_all, moves_keys, moves_statements, moves_values, plus-origin}
use Rattle.keep_syntax.proofs.LineNumberingLaws.{over_ended}
use Rattle.keep_syntax_store.specs.Lifted.{origin, plus, lift_key, lift_statement, lift_value, moved_key}
use Rattle.keep_syntax_store.specs.Lifted.{moved_statement, moved_value}
use Rattle.keep_syntax.proofs.LiftLaws.{lifted_over, lifted_line_statements, lifted_line_parts, lifted_line_values}

-- ---- lists over lines

abbrev pub OverLine : Type 0 → Type 0
OverLine A = Count → Line → ℕ → List A

-- after a count it is the list from 0, lifted
abbrev pub Lifts : {A : Type 0} → OverLine A → (Count → A → A) → Type 0
Lifts f lift = (c d : Count) (l : Line) (end : ℕ) → f (plus c d) l (c.at + end) ≡ map (lift c) (f d l end)

pub over-prefix : {A : Type 0} (f : OverLine A) (c : Count) (prefix es : List Ended) (last : Line)
    → over_lines f c (prefix ++ es) last ≡ over_ended f c prefix ++ over_lines f (after_lines c prefix) es last
over-prefix f c [] es last = refl
over-prefix {A} f c (e ∷ prefix) es last =
    let here : List A = f c e.line (c.at + width (ended_leaves e)) in
    ap (λ xs. here ++ xs) (over-prefix f (next_line c e) prefix es last)
    ∙ sym (append_assoc here (over_ended f (next_line c e) prefix)
    (over_lines f (after_lines (next_line c e) prefix) es last))

-- lines from one count on are those from another, moved
pub moved_over : {A : Type 0} (f : OverLine A) (lift : Count → A → A) (move : Count → Count → A → A) → Lifts f lift
    → Moves lift move
    → (a b : Count) (es : List Ended) (last : Line) → map (move a b) (over_lines f a es last) ≡ over_lines f b es last
moved_over {A} f lift move h m a b es last =
    let alone : List A = over_lines f origin es last in
    let was : over_lines f a es last ≡ map (lift a) alone =
    ap (λ k. over_lines f k es last) (sym (plus-origin a)) ∙ lifted_over f lift h a origin es last in
    let is : over_lines f b es last ≡ map (lift b) alone =
    ap (λ k. over_lines f k es last) (sym (plus-origin b)) ∙ lifted_over f lift h b origin es last in
    ap (map (move a b)) was ∙ moves_all lift move m a b alone ∙ sym is

-- ---- and moved

abbrev pub MovesOver : {A : Type 0} → OverLine A → (Count → Count → A → A) → Type 0
MovesOver f move =
    (a b : Count) (es : List Ended) (last : Line) → map (move a b) (over_lines f a es last) ≡ over_lines f b es last

pub moved_statements : MovesOver line_statements moved_statement
moved_statements = moved_over line_statements lift_statement moved_statement lifted_line_statements moves_statements

pub moved_parts : MovesOver (λ c l line_end. line_parts c l) moved_key
moved_parts =
    moved_over (λ c l line_end. line_parts c l) lift_key moved_key (λ c d l end. lifted_line_parts c d l) moves_keys

pub moved_values : MovesOver (λ c l line_end. line_values c l) moved_value
moved_values =
    moved_over (λ c l line_end. line_values c l) lift_value moved_value (λ c d l end. lifted_line_values c d l)
    moves_values
