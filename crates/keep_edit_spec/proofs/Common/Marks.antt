-- If the marks of a document or of a value obey the rules, so do its mentions. So the law of `set` needs the rules over
-- marks alone.
--
-- Theorems: `rules_of_document` and `rules_of_value`: the mentions obey the rules; `set_is_right`: the law of `set`.
use Rattle.std.proofs.Common.{◌≡◌, ℕ, zero, suc, ◌<◌, true, List, [], ◌∷◌, length, refl, sym, ap, subst, ◌∙◌, arith}
use Rattle.std.proofs.Common.{get_or, Option, Some, None}
use Rattle.std.specs.Prelude.{AllPairs}
use Rattle.std.specs.List.{cons_option}
use Rattle.keep_types.specs.declared.leaf.Profile.{Profile}
use Rattle.keep_syntax.specs.Tree.{Value, Document}
use Rattle.keep_syntax.specs.Grammar.{IsValue, IsDocument}
use Rattle.keep_types.specs.declared.role.Role.{Role}
use Rattle.keep_path.specs.Path.{Part}
use Rattle.keep_meaning.specs.Rules.{Allows, ObeysRules}
use Rattle.keep_meaning.specs.Marks.{Mention, role_of, with_path, marks}
use Rattle.keep_meaning.specs.Meaning.{mentions_in}
use Rattle.keep_edit_spec.specs.Edits.{set, change}
use Rattle.keep_meaning.specs.Meaning.{mentions_of_value}
use Rattle.keep_edit_spec.proofs.Common.Runs.{AllOf, Pairs, Rules}
use Rattle.keep_edit_spec.proofs.Common.Bridge.{role_allow}
use Rattle.keep_edit_spec.proofs.Common.FromMarks.{MarkAllowed, rules_value}
use Rattle.keep_edit_spec.proofs.Common.FromMarksLines.{document_rules}
use Rattle.keep_edit_spec.proofs.Common.SetWhole.{IsSetWhole, EachChange, set_whole}

all_from_index : {A : Type 0} (P : A → Type 0) (xs : List A) → ((k : ℕ) (d : A) → k < length xs → P (get_or xs k d))
    → AllOf P xs
all_from_index P [] h = tt
all_from_index P (x ∷ xs) h = (h zero x (omega arith), all_from_index P xs (λ k d lt. h (suc k) d (omega arith)))

pub pairs_from_index : {A : Type 0} (R : A → A → Type 0) (xs : List A) → AllPairs R xs → Pairs R xs
pairs_from_index R [] h = tt
pairs_from_index R (x ∷ xs) h = (
  all_from_index (R x) xs (λ k d lt. h zero (suc k) d (omega arith) (omega arith)),
  pairs_from_index R xs (λ i j d lt within. h (suc i) (suc j) d (omega arith) (omega arith)),
)

abbrev Lets : List Part → Option Role → Mention → Type 0
Lets p o x = p ≡ x.path → role_allow o (role_of x.kind) ≡ true

no_role : (p : List Part) (ms : List Mention) → AllOf (Lets p None) ms
no_role p [] = tt
no_role p (m ∷ ms) = ((λ e. refl), no_role p ms)

lets_all : (p : List Part) (r : Role) (ms : List Mention) → AllOf (Allows (record { role = r; path = p })) (marks ms)
    → AllOf (Lets p (Some r)) ms
lets_all p r [] h = tt
lets_all p r (m ∷ ms) h = by (role_of m.kind) refl h (λ g. lets_all p r ms g)
  where
    by : (o : Option Role) → role_of m.kind ≡ o
        → AllOf (Allows (record { role = r; path = p })) (cons_option (with_path m.path o) (marks ms))
        → (AllOf (Allows (record { role = r; path = p })) (marks ms) → AllOf (Lets p (Some r)) ms)
        → AllOf (Lets p (Some r)) (m ∷ ms)
    by None e g rest = ((λ q. ap (role_allow (Some r)) e), rest g)
    by (Some t) e g rest = ((λ q. ap (role_allow (Some r)) e ∙ g.0 q), rest g.1)

pub marks_pairs : (ms : List Mention) → Pairs Allows (marks ms) → Pairs MarkAllowed ms
marks_pairs [] h = tt
marks_pairs (m ∷ ms) h = by (role_of m.kind) refl h (λ g. marks_pairs ms g)
  where
    by : (o : Option Role) → role_of m.kind ≡ o → Pairs Allows (cons_option (with_path m.path o) (marks ms))
        → (Pairs Allows (marks ms) → Pairs MarkAllowed ms) → Pairs MarkAllowed (m ∷ ms)
    by None e g rest = (subst (λ (o : Option Role). AllOf (Lets m.path o) ms) (sym e) (no_role m.path ms), rest g)
    by (Some r) e g rest =
        (subst (λ (o : Option Role). AllOf (Lets m.path o) ms) (sym e) (lets_all m.path r ms g.0), rest g.1)

pub rules_of_document : (s : Document) → ObeysRules (marks (mentions_in s)) → Rules (mentions_in s)
rules_of_document s h =
    document_rules s (marks_pairs (mentions_in s) (pairs_from_index Allows (marks (mentions_in s)) h))

pub rules_of_value : (v : Value) → ObeysRules (marks (mentions_of_value v)) → Rules (mentions_of_value v)
rules_of_value v h =
    rules_value v (marks_pairs (mentions_of_value v) (pairs_from_index Allows (marks (mentions_of_value v)) h))

-- Where `set` makes a change, of a valid document that obeys the rules and a valid value that obeys them.
pub set_is_right : (profile : Profile) (s : Document) (path : List Part) (new : Value) → IsDocument profile s
    → ObeysRules (marks (mentions_in s)) → IsValue profile new → ObeysRules (marks (mentions_of_value new))
    → EachChange (IsSetWhole profile s (set path new)) (change s (set path new))
set_is_right profile s path new valid obeys value_valid value_obeys =
    set_whole profile s path new valid (rules_of_document s obeys) value_valid (rules_of_value new value_obeys)
