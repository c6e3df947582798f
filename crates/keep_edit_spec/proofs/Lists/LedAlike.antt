-- Lines of two documents, one by one: each leads through a path by its own key, from the same body, or neither does.
--
-- So the last line that leads through the path has the same number in both (`last_alike`), and the body before it is
-- the same (`body_alike`), by induction over the lines.
--
-- Theorems: `last_alike`, `body_alike`.
use Rattle.std.proofs.Common.{◌≡◌, ℕ, suc, Bool, true, false, List, [], ◌∷◌, take, refl, ap₂, subst, Option, Some, None}
use Rattle.std.specs.Prelude.{⊤}
use Rattle.keep_syntax.specs.Tree.{Line}
use Rattle.keep_path.specs.Path.{Part}
use Rattle.keep_meaning.specs.Marks.{Reading}
use Rattle.keep_meaning.specs.Meaning.{after_line, reading_after_lines}
use Rattle.keep_edit_spec.specs.Lines.{last_line, leads_dotted}
use Rattle.keep_edit_spec.proofs.Lists.RemovedOwn.{last_or}

-- the second line leads through the path where the first does, and then from the same body
pub record IsLedAlike (a : List Part) (r r' : Reading) (l l' : Line) : Type 0 where
  pub leads : leads_dotted a r' l' ≡ leads_dotted a r l
  pub body : leads_dotted a r l ≡ true → r'.body ≡ r.body

abbrev pub AreLedAlike : List Part → Reading → Reading → List Line → List Line → Type 0
AreLedAlike a r r' [] [] = ⊤
AreLedAlike a r r' [] (l' ∷ ls') = ⊥
AreLedAlike a r r' (l ∷ ls) [] = ⊥
AreLedAlike a r r' (l ∷ ls) (l' ∷ ls') =
    IsLedAlike a r r' l l' × AreLedAlike a (after_line r l) (after_line r' l') ls ls'

-- the same lines
pub same_lines : (a : List Part) (r : Reading) (ls : List Line) → AreLedAlike a r r ls ls
same_lines a r [] = tt
same_lines a r (l ∷ ls) = (record { leads = refl; body = λ e. refl }, same_lines a (after_line r l) ls)

pub last_alike : (a : List Part) (r r' : Reading) (ls ls' : List Line) → AreLedAlike a r r' ls ls'
    → last_line (leads_dotted a) r' ls' ≡ last_line (leads_dotted a) r ls
last_alike a r r' [] [] h = refl
last_alike a r r' [] (l' ∷ ls') h = absurd h
last_alike a r r' (l ∷ ls) [] h = absurd h
last_alike a r r' (l ∷ ls) (l' ∷ ls') h =
    ap₂ last_or h.0.leads (last_alike a (after_line r l) (after_line r' l') ls ls' h.1)

pub body_alike : (a : List Part) (r r' : Reading) (ls ls' : List Line) (n : ℕ) → AreLedAlike a r r' ls ls'
    → last_line (leads_dotted a) r ls ≡ Some n
    → (reading_after_lines r' (take n ls')).body ≡ (reading_after_lines r (take n ls)).body
body_alike a r r' [] [] n h e = absurd cc
body_alike a r r' [] (l' ∷ ls') n h e = absurd h
body_alike a r r' (l ∷ ls) [] n h e = absurd h
body_alike a r r' (l ∷ ls) (l' ∷ ls') n h e =
    by (last_line (leads_dotted a) (after_line r l) ls) (leads_dotted a r l) refl h.0.body
    (λ m later. body_alike a (after_line r l) (after_line r' l') ls ls' m h.1 later) e
  where
    IsSame : ℕ → Type 0
    IsSame i =
        (reading_after_lines r' (take i (l' ∷ ls'))).body ≡ (reading_after_lines r (take i (l ∷ ls))).body

    by : (o : Option ℕ) (b : Bool) → leads_dotted a r l ≡ b → (leads_dotted a r l ≡ true → r'.body ≡ r.body)
        → ((m : ℕ) → o ≡ Some m → IsSame (suc m)) → last_or b o ≡ Some n → IsSame n
    by None false leads here later k = absurd cc
    by None true leads here later k = let first : 0 ≡ n = cc in subst IsSame first (here leads)
    by (Some m) b leads here later k = let next : suc m ≡ n = cc in subst IsSame next (later m refl)
