-- The first value on the way into the value of a line is the line's own.
--
-- What is a value at a path is in the value of a line, for another value could be set in its place (`some_nested`). Of
-- two lines with keyvals neither's path is a prefix of the other's (`two_keyvals`, `one_key`). So where a value is at a
-- prefix of the path of a line's key, it is in the value of that very line, and at its key.
--
-- Theorem: `first_is_line_value`.
use Rattle.std.proofs.Common.{◌≡◌, ℕ, List, [], ◌∷◌, ◌++◌, length, refl, sym, ap, ap₂, subst, ◌∙◌, append_assoc}
use Rattle.std.proofs.Common.{length-append, arith, Some, None}
use Rattle.std.proofs.lemmas.List.{append-nil}
use Rattle.keep_syntax.specs.Tree.{Name, Value, keyval, Line, Document}
use Rattle.keep_path.specs.Path.{Part, strip}
use Rattle.keep_meaning.specs.Counts.{is_value, numbered_in}
use Rattle.keep_meaning.specs.Marks.{start}
use Rattle.keep_meaning.specs.Meaning.{lines, lines_mentions, mentions_in}
use Rattle.keep_meaning.specs.Nodes.{last_number, numbered_at, value_number}
use Rattle.keep_edit_spec.specs.Values.{replacement}
use Rattle.keep_edit_spec.proofs.Common.Runs.{Rules, strip-append}
use Rattle.keep_edit_spec.proofs.Common.ValueNumber.{alone_of_number}
use Rattle.keep_edit_spec.proofs.Common.ValueThere.{some_nested, the_some}
use Rattle.keep_edit_spec.proofs.Insert.GivesLines.{keyval_path, two_keyvals}
use Rattle.keep_edit_spec.proofs.Values.LineValue.{IsLineValueChanged, nested_value}

-- ---- two cuts of one list

data Cuts (xs ys : List Line) (x y : Line) : Type 0 where
  same : xs ≡ ys → x ≡ y → Cuts xs ys x y
  later : (m : List Line) → xs ≡ ys ++ y ∷ m → Cuts xs ys x y
  sooner : (m : List Line) → ys ≡ xs ++ x ∷ m → Cuts xs ys x y

cuts : (xs ys us vs : List Line) (x y : Line) → xs ++ x ∷ us ≡ ys ++ y ∷ vs → Cuts xs ys x y
cuts [] [] us vs x y e = same refl (let head : x ≡ y = cc in head)
cuts [] (b ∷ ys) us vs x y e = let head : b ≡ x = cc in sooner ys (ap (λ (z : Line). z ∷ ys) head)
cuts (a ∷ xs) [] us vs x y e = let head : a ≡ y = cc in later xs (ap (λ (z : Line). z ∷ xs) head)
cuts (a ∷ xs) (b ∷ ys) us vs x y e =
    let head : a ≡ b = cc in
    let tail : xs ++ x ∷ us ≡ ys ++ y ∷ vs = cc in
    by head (cuts xs ys us vs x y tail)
  where
    by : a ≡ b → Cuts xs ys x y → Cuts (a ∷ xs) (b ∷ ys) x y
    by head (same h k) = same (ap₂ (λ (z : Line) (l : List Line). z ∷ l) head h) k
    by head (later m h) = later m (ap₂ (λ (z : Line) (l : List Line). z ∷ l) head h)
    by head (sooner m h) = sooner m (ap₂ (λ (z : Line) (l : List Line). z ∷ l) (sym head) h)

-- ---- the path of a line's key

-- the path of a keyval's line, of which another's is no prefix
module _ (s : Document) (rules : Rules (mentions_in s)) (before before' after after' : List Line) (line line' : Line)
    (name name' : Name) (v v' : Value) (here : lines s ≡ before ++ line ∷ after)
    (here' : lines s ≡ before' ++ line' ∷ after') (content : line.content ≡ keyval name v)
    (content' : line'.content ≡ keyval name' v') where
  never_beyond : (p q more : List Part) → strip p q ≡ None → q ≡ p ++ more → ⊥
  never_beyond p q more none whole =
      let k : None ≡ Some more = sym none ∙ ap (strip p) whole ∙ strip-append p more in absurd cc

  one_key : (more : List Part) → keyval_path before' name' ≡ keyval_path before name ++ more
      → keyval_path before' name' ≡ keyval_path before name
  one_key more whole = by (cuts before before' after after' line line' (sym here ∙ here'))
    where
      rules_of : (ls : List Line) → lines s ≡ ls → Rules (lines_mentions start ls)
      rules_of ls e = subst (λ (k : List Line). Rules (lines_mentions start k)) e rules

      by : Cuts before before' line line' → keyval_path before' name' ≡ keyval_path before name
      by (same h k) =
          let one : keyval name v ≡ keyval name' v' = sym content ∙ ap (λ (l : Line). l.content) k ∙ content' in
          let named : name ≡ name' = cc in
          ap₂ keyval_path (sym h) (sym named)
      by (later m h) =
          let all : lines s ≡ before' ++ line' ∷ (m ++ line ∷ after) =
          here ∙ ap (λ (b : List Line). b ++ line ∷ after) h ∙ append_assoc before' (line' ∷ m) (line ∷ after) in
          let apart = two_keyvals before' m after line' line name' name v' v content' content (rules_of _ all) in
          absurd (never_beyond (keyval_path before name) (keyval_path before' name') more
          (ap (λ (b : List Line). strip (keyval_path b name) (keyval_path before' name')) h ∙ apart.other) whole)
      by (sooner m h) =
          let all : lines s ≡ before ++ line ∷ (m ++ line' ∷ after') =
          here' ∙ ap (λ (b : List Line). b ++ line' ∷ after') h ∙ append_assoc before (line ∷ m) (line' ∷ after') in
          let apart = two_keyvals before m after' line line' name name' v v' content content' (rules_of _ all) in
          absurd (never_beyond (keyval_path before name) (keyval_path before' name') more
          (ap (λ (b : List Line). strip (keyval_path before name) (keyval_path b name')) h ∙ apart.one) whole)

nothing_more : (at a b : List Part) → at ≡ (at ++ a) ++ b → a ≡ []
nothing_more at [] b e = refl
nothing_more at (x ∷ a) b e =
    absurd (omega (arith, ap length e, length-append (at ++ x ∷ a) b, length-append at (x ∷ a)))

-- A value at a prefix of the path of the line's key is at the key.
pub first_is_line_value : (path : List Part) (s to : Document) (h : IsLineValueChanged path s to)
    → Rules (mentions_in s) → (q more : List Part) (number : ℕ) → h.at ≡ q ++ more
    → last_number is_value value_number (numbered_at q (numbered_in s)) ≡ Some number → q ≡ h.at
first_is_line_value path s to h rules q more number whole found =
    let (c, e) =
    the_some _ (some_nested (replacement h.value) (λ v. tt) q s rules (alone_of_number q s number found)) in
    let g : IsLineValueChanged q s c.to = nested_value (replacement h.value) q s c rules e in
    let longer : h.at ≡ g.at ++ (g.more ++ more) =
    whole ∙ ap (λ (p : List Part). p ++ more) g.place ∙ append_assoc g.at g.more more in
    let key : h.at ≡ g.at =
    sym h.here
    ∙ one_key s rules g.before h.before g.after h.after g.line h.line g.name h.name g.old h.old g.was h.was g.content
    h.content (g.more ++ more)
    (h.here ∙ longer ∙ ap (λ (p : List Part). p ++ (g.more ++ more)) (sym g.here))
    ∙ g.here in
    let none : g.more ≡ [] =
    nothing_more h.at g.more more (longer ∙ ap (λ (p : List Part). p ++ (g.more ++ more)) (sym key)
    ∙ sym (append_assoc h.at g.more more)) in
    g.place ∙ ap (λ (p : List Part). g.at ++ p) none ∙ append-nil g.at ∙ sym key
