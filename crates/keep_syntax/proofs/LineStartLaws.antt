-- Where lines begin that are looked up by a place, and which lines come before it.
--
-- Theorems: `line_step`: a place after the first line is looked up among the lines after it; `next_high`: the next line
-- begins at or after the place; `before_step`: a line that begins before the place comes before it.
use Rattle.std.proofs.Common.{◌≡◌, ℕ, ◌+◌, ◌<◌, ◌≤◌, Bool, true, false, List, [], ◌∷◌, refl, sym, ◌∙◌, arith, le-leb}
use Rattle.std.proofs.Common.{lt-ltb, le-ltb, leb-true}
use Rattle.std.specs.Prelude.{⊤, ltb, leb, if◌then◌else◌}
use Rattle.std.proofs.lemmas.Bool.{lt-leb}
use Rattle.keep_syntax_store.proofs.Shared.{if_true, if_false}
use Rattle.keep_syntax.specs.Tree.{Ended, ended_leaves}
use Rattle.keep_syntax.specs.Numbered.{width}
use Rattle.keep_syntax.specs.WholeLines.{line_starts, last_to, first_from, lines_before, lines_from}

-- Of lines that begin at `at`: the start of the line of a place, and the first line start at or after a place.
abbrev pub line_of : ℕ → ℕ → List Ended → ℕ
line_of start at es = last_to start at (line_starts at es)

abbrev pub next_of : ℕ → ℕ → ℕ → List Ended → ℕ
next_of end total at es = first_from end total (line_starts at es)

-- each line has its newline
abbrev pub HaveBytes : List Ended → Type 0
HaveBytes [] = ⊤
HaveBytes (e ∷ es) = (0 < width (ended_leaves e)) × HaveBytes es

-- ---- places

-- where a line begins at or before a place, it does not matter what else would be given
pub last_any : (place low other at : ℕ) (es : List Ended) → at ≤ place
    → last_to place low (line_starts at es) ≡ last_to place other (line_starts at es)
last_any place low other at [] h =
    if_true (leb at place) at low (le-leb at place h) ∙ sym (if_true (leb at place) at other (le-leb at place h))
last_any place low other at (e ∷ es) h =
    if_true (leb at place) _ low (le-leb at place h) ∙ sym (if_true (leb at place) _ other (le-leb at place h))

-- the first of the starts is where the first line begins
pub same_begin : (a b : ℕ) (es ds : List Ended) → line_starts a es ≡ line_starts b ds → a ≡ b
same_begin a b [] [] h = cc
same_begin a b [] (d ∷ ds) h = cc
same_begin a b (e ∷ es) [] h = cc
same_begin a b (e ∷ es) (d ∷ ds) h = cc

pub line_low : (start low at : ℕ) (es : List Ended) → low ≤ at → low ≤ last_to start low (line_starts at es)
line_low start low at [] h = by (leb at start)
  where
    by : (b : Bool) → low ≤ (if b then at else low)
    by true = h
    by false = omega arith
line_low start low at (e ∷ es) h = by (leb at start) (line_low start at (at + width (ended_leaves e)) es (omega arith))
  where
    by : (b : Bool) → at ≤ last_to start at (line_starts (at + width (ended_leaves e)) es)
        → low ≤ (if b then last_to start at (line_starts (at + width (ended_leaves e)) es) else low)
    by true k = omega (arith, h, k)
    by false k = omega arith

pub next_high : (end total at : ℕ) (es : List Ended) → end ≤ total → end ≤ next_of end total at es
next_high end total at [] h = by (leb end at) refl
  where
    by : (b : Bool) → leb end at ≡ b → end ≤ (if b then at else total)
    by true e = leb-true end at e
    by false e = h
next_high end total at (e ∷ es) h = by (leb end at) refl (next_high end total (at + width (ended_leaves e)) es h)
  where
    by : (b : Bool) → leb end at ≡ b → end ≤ next_of end total (at + width (ended_leaves e)) es
        → end ≤ (if b then at else next_of end total (at + width (ended_leaves e)) es)
    by true t k = leb-true end at t
    by false t k = k

-- a place after the first line is in one of the lines after it
pub line_step : (start at : ℕ) (e : Ended) (es : List Ended) → at + width (ended_leaves e) ≤ start
    → line_of start at (e ∷ es) ≡ line_of start (at + width (ended_leaves e)) es
line_step start at e es h = if_true (leb at start) _ _ (le-leb at start (omega (arith, h))) ∙ first es
  where
    b : ℕ
    b = at + width (ended_leaves e)

    first : (es : List Ended) → last_to start at (line_starts b es) ≡ last_to start b (line_starts b es)
    first [] = if_true (leb b start) b at (le-leb b start h) ∙ sym (if_true (leb b start) b b (le-leb b start h))
    first (d ∷ ds) = if_true (leb b start) _ at (le-leb b start h) ∙ sym (if_true (leb b start) _ b (le-leb b start h))

pub next_step : (end total at : ℕ) (e : Ended) (es : List Ended) → at < end
    → next_of end total at (e ∷ es) ≡ next_of end total (at + width (ended_leaves e)) es
next_step end total at e es h = if_false (leb end at) _ _ (lt-leb end at h)

pub before_step : (place at : ℕ) (e : Ended) (es : List Ended) → at < place
    → lines_before place at (e ∷ es) ≡ e ∷ lines_before place (at + width (ended_leaves e)) es
before_step place at e es h = if_true (ltb at place) _ _ (lt-ltb at place h)

pub from_step : (place at : ℕ) (e : Ended) (es : List Ended) → at < place
    → lines_from place at (e ∷ es) ≡ lines_from place (at + width (ended_leaves e)) es
from_step place at e es h = if_true (ltb at place) _ _ (lt-ltb at place h)

pub none_before : (at : ℕ) (es : List Ended) → lines_before at at es ≡ []
none_before at [] = refl
none_before at (e ∷ es) = if_false (ltb at at) _ _ (le-ltb at at (omega arith))

pub all_from : (at : ℕ) (es : List Ended) → lines_from at at es ≡ es
all_from at [] = refl
all_from at (e ∷ es) = if_false (ltb at at) _ _ (le-ltb at at (omega arith))
