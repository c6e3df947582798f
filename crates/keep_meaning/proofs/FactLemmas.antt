-- What one more mention changes in what is known of its node.
--
-- Theorems: `marks-more`: how many key parts name it; `last_number-more`: the last number of a sort is that of the
-- mention, if it is of the sort; `first_number-more`: the first number of a sort stays, if there is one.
use Rattle.std.proofs.Common.{◌≡◌, ℕ, ◌+◌, Bool, true, false, cond, ◌||◌, List, [], ◌∷◌, ◌++◌, refl, Option, Some, None}
use Rattle.std.specs.List.{list_any}
use Rattle.std.proofs.lemmas.List.Sums.{fold-append}
use Rattle.keep_path.specs.Path.{Part}
use Rattle.keep_meaning.specs.Marks.{MentionKind}
use Rattle.keep_meaning.specs.Counts.{Count, Numbered, is_mark}
use Rattle.keep_meaning.specs.Nodes.{is_passed, last_number, first_number, mentioned_node}

-- how many key parts name it
pub marks-more : (p : List Part) (ns : List Numbered) (n : Numbered)
    → (mentioned_node p (ns ++ n ∷ [])).marks ≡ (mentioned_node p ns).marks + cond (is_mark n.mention.kind) 1 0
marks-more p ns n = fold-append (λ (a : ℕ) (m : Numbered). a + cond (is_mark m.mention.kind) 1 0) 0 ns (n ∷ [])

-- the last number of a sort
pub last_number-more : (is : MentionKind → Bool) (number : Count → ℕ) (ns : List Numbered) (n : Numbered)
    → last_number is number (ns ++ n ∷ [])
    ≡ cond (is n.mention.kind) (Some (number n.before)) (last_number is number ns)
last_number-more is number ns n =
    fold-append (λ (known : Option ℕ) (m : Numbered). cond (is m.mention.kind) (Some (number m.before)) known) None ns
    (n ∷ [])

-- the first number of a sort stays
abbrev pub or_number : Option ℕ → Option ℕ → Option ℕ
or_number (Some k) other = Some k
or_number None other = other

pub first_number-more : (is : MentionKind → Bool) (number : Count → ℕ) (ns : List Numbered) (n : Numbered)
    → first_number is number (ns ++ n ∷ [])
    ≡ or_number (first_number is number ns) (cond (is n.mention.kind) (Some (number n.before)) None)
first_number-more is number [] n = refl
first_number-more is number (m ∷ ns) n =
    elim (is m.mention.kind) as (λ b.
    cond b (Some (number m.before)) (first_number is number (ns ++ n ∷ []))
    ≡ or_number (cond b (Some (number m.before)) (first_number is number ns))
    (cond (is n.mention.kind) (Some (number n.before)) None)) [
      | true ↦ refl
      | false ↦ first_number-more is number ns n
    ]

-- once passed, it is passed
pub passed-more : (p : List Part) (ns : List Numbered) (n : Numbered)
    → (mentioned_node p (ns ++ n ∷ [])).passed ≡ ((mentioned_node p ns).passed || is_passed n.mention.kind)
passed-more p [] n = or_false (is_passed n.mention.kind)
  where
    or_false : (b : Bool) → (b || false) ≡ b
    or_false true = refl
    or_false false = refl
passed-more p (m ∷ ns) n =
    elim (is_passed m.mention.kind) as
    (λ b. (b || list_any (λ (x : Numbered). is_passed x.mention.kind) (ns ++ n ∷ []))
    ≡ ((b || list_any (λ (x : Numbered). is_passed x.mention.kind) ns) || is_passed n.mention.kind)) [
      | true ↦ refl
      | false ↦ passed-more p ns n
    ]
