-- The rules over mentions give those over marks.
--
-- Theorem: `obeys_from_rules`.
use Rattle.std.proofs.Common.{◌≡◌, ℕ, zero, suc, ◌<◌, Bool, true, List, [], ◌∷◌, length, refl, sym, ap, ◌∙◌, arith}
use Rattle.std.proofs.Common.{get_or, Option, Some, None}
use Rattle.std.specs.Prelude.{IsTrue, AllPairs}
use Rattle.std.specs.List.{cons_option}
use Rattle.std.proofs.lemmas.List.Kept.{AllPairs-cons}
use Rattle.keep_types.specs.declared.role.Role.{Role}
use Rattle.keep_meaning.specs.Rules.{allows, Allows, ObeysRules}
use Rattle.keep_meaning.specs.Marks.{MentionKind, through, past, define, element, dotted, value, begun, passed, item}
use Rattle.keep_meaning.specs.Marks.{Mention, role_of, with_path, marks}
use Rattle.keep_edit_spec.proofs.Common.Runs.{AllOf, Pairs, Allowed, Rules, kinds_allow}

all_index : {A : Type 0} (P : A → Type 0) (xs : List A) → AllOf P xs → (k : ℕ) (d : A) → k < length xs
    → P (get_or xs k d)
all_index P [] h k d lt = absurd (omega arith)
all_index P (x ∷ xs) h zero d lt = h.0
all_index P (x ∷ xs) h (suc k) d lt = all_index P xs h.1 k d (omega arith)

pairs_index : {A : Type 0} (R : A → A → Type 0) (xs : List A) → Pairs R xs → AllPairs R xs
pairs_index R [] h = λ i j d lt within. absurd (omega arith)
pairs_index R (x ∷ xs) h = AllPairs-cons R x xs (all_index (R x) xs h.0) (pairs_index R xs h.1)

abbrev pub role_allow : Option Role → Option Role → Bool
role_allow (Some r) (Some t) = allows r t
role_allow _ _ = true

-- mention kinds allow what the roles that they have do
table_both : (a b : MentionKind) → kinds_allow a b ≡ true → role_allow (role_of a) (role_of b) ≡ true
table_both through through h = refl
table_both through define h = refl
table_both through dotted h = refl
table_both through begun h = refl
table_both through passed h = refl
table_both through b h = absurd cc
table_both past past h = refl
table_both past element h = refl
table_both past begun h = refl
table_both past passed h = refl
table_both past b h = absurd cc
table_both define through h = refl
table_both define begun h = refl
table_both define passed h = refl
table_both define b h = absurd cc
table_both element past h = refl
table_both element element h = refl
table_both element begun h = refl
table_both element passed h = refl
table_both element b h = absurd cc
table_both dotted through h = refl
table_both dotted dotted h = refl
table_both dotted begun h = refl
table_both dotted passed h = refl
table_both dotted b h = absurd cc
table_both (value f) begun h = refl
table_both (value f) passed h = refl
table_both (value f) b h = absurd cc
table_both (item f) begun h = refl
table_both (item f) passed h = refl
table_both (item f) b h = absurd cc
table_both begun b h = refl
table_both passed b h = refl

same_table : (a b : MentionKind) (r t : Role) → role_of a ≡ Some r → role_of b ≡ Some t → kinds_allow a b ≡ true
    → IsTrue (allows r t)
same_table a b r t ha hb h =
    let both : role_allow (role_of a) (role_of b) ≡ allows r t =
    ap (λ o. role_allow o (role_of b)) ha ∙ ap (role_allow (Some r)) hb in
    sym both ∙ table_both a b h

allow_marks : (a : Mention) (r : Role) → role_of a.kind ≡ Some r → (ms : List Mention) → AllOf (Allowed a) ms
    → AllOf (Allows (record { role = r; path = a.path })) (marks ms)
allow_marks a r ha [] h = tt
allow_marks a r ha (m ∷ ms) h = by (role_of m.kind) refl (allow_marks a r ha ms h.1)
  where
    by : (o : Option Role) → role_of m.kind ≡ o → AllOf (Allows (record { role = r; path = a.path })) (marks ms)
        → AllOf (Allows (record { role = r; path = a.path })) (cons_option (with_path m.path o) (marks ms))
    by None e rest = rest
    by (Some t) e rest = ((λ p. same_table a.kind m.kind r t ha e (h.0 p)), rest)

rules_marks : (ms : List Mention) → Rules ms → Pairs Allows (marks ms)
rules_marks [] h = tt
rules_marks (m ∷ ms) h = by (role_of m.kind) refl (rules_marks ms h.1)
  where
    by : (o : Option Role) → role_of m.kind ≡ o → Pairs Allows (marks ms)
        → Pairs Allows (cons_option (with_path m.path o) (marks ms))
    by None e ih = ih
    by (Some r) e ih = (allow_marks m r e ms h.0, ih)

pub obeys_from_rules : (ms : List Mention) → Rules ms → ObeysRules (marks ms)
obeys_from_rules ms h = pairs_index Allows (marks ms) (rules_marks ms h)
