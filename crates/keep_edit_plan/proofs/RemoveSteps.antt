-- A body continues over a keyval, and ends before a header and after the last statement.
--
-- Theorems: `body_next`: over a keyval; `body_on`: before a statement of another kind; `body_done`: after the last.
use Rattle.std.proofs.Common.{◌≡◌, ℕ, zero, suc, ◌-◌, ◌≤◌, List, [], ◌∷◌, length, take, drop, slice_get, refl, sym, ap}
use Rattle.std.proofs.Common.{◌∙◌, arith, Some}
use Rattle.keep_types.specs.declared.syntax.Statement.{Statement}
use Rattle.keep_types.specs.declared.syntax.StatementKind.{StatementKind}
use Rattle.keep_types.specs.declared.syntax.StatementKind.TheVariants as kind
use Rattle.keep_syntax.specs.Numbered.{span}
use Rattle.keep_meaning.specs.KeyText.{text_at}
use Rattle.keep_edit_spec.specs.Removal.{body_end, section_place}

-- the statements from one on
pub from_here : (ss : List Statement) (n : ℕ) (st : Statement) → slice_get ss n ≡ Some st
    → drop n ss ≡ st ∷ drop (suc n) ss
from_here [] n st e = absurd cc
from_here (s ∷ ss) zero st e = let same : s ≡ st = cc in ap (λ (x : Statement). x ∷ ss) same
from_here (s ∷ ss) (suc n) st e = from_here ss n st e

by_kind : (at : ℕ) (st : Statement) (ss : List Statement) (k : StatementKind) → st.kind ≡ k
    → body_end at (st ∷ ss) ≡ elim k [ kind.KeyVal ↦ body_end st.line.end ss | _ ↦ at ]
by_kind at st ss k e = ap (λ (x : StatementKind). elim x [ kind.KeyVal ↦ body_end st.line.end ss | _ ↦ at ]) e

pub body_over : (at n : ℕ) (st : Statement) (ss : List Statement) → slice_get ss n ≡ Some st → st.kind ≡ kind.KeyVal
    → body_end at (drop n ss) ≡ body_end st.line.end (drop (suc n) ss)
body_over at n st ss here e = ap (body_end at) (from_here ss n st here) ∙ by_kind at st (drop (suc n) ss) kind.KeyVal e

other_kind : (at : ℕ) (st : Statement) (ss : List Statement) (k : StatementKind) → st.kind ≡ k → (k ≡ kind.KeyVal → ⊥)
    → body_end at (st ∷ ss) ≡ at
other_kind at st ss kind.KeyVal e other = absurd (other refl)
other_kind at st ss kind.Header e other = by_kind at st ss kind.Header e
other_kind at st ss kind.Element e other = by_kind at st ss kind.Element e

pub body_on : (at n : ℕ) (st : Statement) (ss : List Statement) → slice_get ss n ≡ Some st → (st.kind ≡ kind.KeyVal → ⊥)
    → body_end at (drop n ss) ≡ at
body_on at n st ss here other =
    ap (body_end at) (from_here ss n st here) ∙ other_kind at st (drop (suc n) ss) st.kind refl other

pub body_done : (at n : ℕ) (ss : List Statement) → length ss ≤ n → body_end at (drop n ss) ≡ at
body_done at zero [] h = refl
body_done at (suc n) [] h = refl
body_done at zero (s ∷ ss) h = absurd (omega (arith, h))
body_done at (suc n) (s ∷ ss) h = body_done at n ss (omega (arith, h))

pub section_here : (n : ℕ) (st : Statement) (ss : List Statement) → slice_get ss n ≡ Some st
    → section_place (drop n ss) ≡ record {
      start = st.line.start;
      end = body_end st.line.end (drop (suc n) ss);
      new = [];
    }
section_here n st ss here = ap section_place (from_here ss n st here)

pub body_next : (at n m : ℕ) (st : Statement) (ss : List Statement) (x : ℕ) → slice_get ss n ≡ Some st
    → st.kind ≡ kind.KeyVal → m ≡ suc n → body_end at (drop n ss) ≡ x → body_end st.line.end (drop m ss) ≡ x
body_next at n m st ss x here e next h =
    ap (λ (k : ℕ). body_end st.line.end (drop k ss)) next ∙ sym (body_over at n st ss here e) ∙ h

-- no bytes
take_none : (l : List ℕ) → take 0 l ≡ []
take_none [] = refl
take_none (x ∷ l) = refl

pub text_none : (bytes : List ℕ) (n : ℕ) → text_at bytes (span n n) ≡ []
text_none bytes n =
    ap (λ (k : ℕ). take k (drop n bytes)) (let e : n - n ≡ 0 = omega arith in e) ∙ take_none (drop n bytes)
