-- The last keyval of braces: which it is of the values after the braces' own.
--
-- Theorems: `entry_last`: it is the last entry's; `last_none`: there is none where all the values are deeper in the
-- braces.
use Rattle.std.proofs.Common.{◌≡◌, ℕ, suc, ◌+◌, ◌<◌, ◌≤◌, Bool, true, false, cond, List, [], ◌∷◌, ◌++◌, length, refl}
use Rattle.std.proofs.Common.{ap, subst, ◌∙◌, append_assoc, arith, Option, Some, None}
use Rattle.std.specs.Prelude.{nat_lt, ◌==◌}
use Rattle.std.proofs.lemmas.Bool.{lt-ltb, le-ltb, eq-eqb, eqb-true}
use Rattle.std.proofs.lemmas.List.{append-nil}
use Rattle.keep_types.specs.declared.syntax.Start.{Start}
use Rattle.keep_types.specs.declared.syntax.ValueInfo.{ValueInfo}
use Rattle.keep_syntax.specs.Tree.{Name, Entries, none}
use Rattle.keep_syntax.specs.Numbered.{value_start, name_count, nested_of, rest_of, entries_values}
use Rattle.keep_edit_spec.specs.Insertion.{last_keyval}
use Rattle.keep_edit_spec.proofs.Common.Runs.{AllOf, all_left}
use Rattle.keep_edit_spec.proofs.Common.FoundValue.{BeginNoDeeper, entries_deep}
use Rattle.keep_edit_spec.proofs.Insert.EntryPlaces.{IsEntryAt, own_of}

abbrev Deep : ℕ → List ValueInfo → Type 0
Deep d vs = AllOf (λ (v : ValueInfo). d ≤ v.depth) vs

other : (a b : ℕ) → a < b → (b == a) ≡ false
other a b h = by (b == a) refl
  where
    by : (c : Bool) → (b == a) ≡ c → (b == a) ≡ false
    by false e = e
    by true e = absurd (let same : b ≡ a = eqb-true b a e in omega (arith, same, h))

abbrev step_by : ℕ → Bool → Option ℕ → Bool → Option ℕ
step_by at b o c = elim b [ false ↦ None | true ↦ elim o [ Some n ↦ Some n | None ↦ cond c (Some at) None ] ]

step_is : (at d : ℕ) (v : ValueInfo) (vs : List ValueInfo) (b : Bool) (o : Option ℕ) (c : Bool) → nat_lt d v.depth ≡ b
    → last_keyval (suc at) d vs ≡ o → (v.depth == suc d) ≡ c → last_keyval at d (v ∷ vs) ≡ step_by at b o c
step_is at d v vs b o c e f g =
    ap (λ (x : Bool). step_by at x (last_keyval (suc at) d vs) (v.depth == suc d)) e
    ∙ ap (λ (x : Option ℕ). step_by at b x (v.depth == suc d)) f
    ∙ ap (λ (x : Bool). step_by at b o x) g

-- none, where all are deeper in the braces, up to the first that is not
pub last_none : (at d : ℕ) (deep others : List ValueInfo) → Deep (suc (suc d)) deep → BeginNoDeeper d others
    → last_keyval at d (deep ++ others) ≡ None
last_none at d [] [] h ends = refl
last_none at d [] (o ∷ os) h ends =
    step_is at d o os false (last_keyval (suc at) d os) (o.depth == suc d) (le-ltb d o.depth ends) refl refl
last_none at d (v ∷ vs) others h ends =
    let deeper : nat_lt d v.depth ≡ true = lt-ltb d v.depth (omega (arith, h.0)) in
    let no : (v.depth == suc d) ≡ false = other (suc d) v.depth (omega (arith, h.0)) in
    step_is at d v (vs ++ others) true None false deeper (last_none (suc at) d vs others h.1 ends) no

-- the one before those is one
last_here : (at d : ℕ) (v : ValueInfo) (deep others : List ValueInfo) → v.depth ≡ suc d → Deep (suc (suc d)) deep
    → BeginNoDeeper d others → last_keyval at d (v ∷ (deep ++ others)) ≡ Some at
last_here at d v deep others one h ends =
    let deeper : nat_lt d v.depth ≡ true = lt-ltb d v.depth (omega (arith, one)) in
    let yes : (v.depth == suc d) ≡ true = eq-eqb v.depth (suc d) one in
    step_is at d v (deep ++ others) true None true deeper (last_none (suc at) d deep others h ends) yes

-- what comes before it in the braces is passed
last_past : (at d w : ℕ) (prefix rest : List ValueInfo) → Deep (suc d) prefix
    → last_keyval (at + length prefix) d rest ≡ Some w → last_keyval at d (prefix ++ rest) ≡ Some w
last_past at d w [] rest h e = let same : at ≡ at + 0 = omega arith in ap (λ (n : ℕ). last_keyval n d rest) same ∙ e
last_past at d w (v ∷ vs) rest h e =
    let deeper : nat_lt d v.depth ≡ true = lt-ltb d v.depth (omega (arith, h.0)) in
    let same : suc at + length vs ≡ at + suc (length vs) = omega arith in
    step_is at d v (vs ++ rest) true (Some w) (v.depth == suc d) deeper
    (last_past (suc at) d w vs rest h.1 (ap (λ (n : ℕ). last_keyval n d rest) same ∙ e)) refl

-- The last of these entries, and its number.
pub entry_last : (P : ℕ → Option Name → Type 0) (k : ℕ) (p : Start) (es : Entries) (z : IsEntryAt P k p es)
    (others : List ValueInfo) (at d : ℕ) → z.rest ≡ none → p.depth ≡ suc d → BeginNoDeeper d others
    → last_keyval at d (entries_values p es ++ others) ≡ Some (at + length z.prefix)
entry_last P k p es z others at d alone deep ends =
    let i : Start = nested_of z.begin (value_start z.begin.at z.name) (name_count z.name) z.body in
    let r : Start = rest_of z.begin z.name z.body z.nested z.after z.comma in
    let own : ValueInfo = own_of P k p es z in
    let inner : List ValueInfo = entries_values i z.nested in
    let values : entries_values p es ++ others ≡ z.prefix ++ (own ∷ (inner ++ others)) =
    ap (λ (l : List ValueInfo). l ++ others)
    (z.values ∙ ap (λ (x : Entries). z.prefix ++ (own ∷ (inner ++ entries_values r x))) alone
    ∙ ap (λ (l : List ValueInfo). z.prefix ++ (own ∷ l)) (append-nil inner))
    ∙ append_assoc z.prefix (own ∷ inner) others in
    let all : Deep p.depth (z.prefix ++ (own ∷ (inner ++ entries_values r z.rest))) =
    subst (Deep p.depth) z.values (entries_deep p es) in
    let prefix : Deep (suc d) z.prefix =
    subst (λ (n : ℕ). Deep n z.prefix) deep
    (all_left (λ (v : ValueInfo). p.depth ≤ v.depth) z.prefix (own ∷ (inner ++ entries_values r z.rest)) all) in
    let nested : Deep (suc (suc d)) inner =
    subst (λ (n : ℕ). Deep n inner) (ap suc (z.depth ∙ deep)) (entries_deep i z.nested) in
    ap (last_keyval at d) values
    ∙ last_past at d (at + length z.prefix) z.prefix (own ∷ (inner ++ others)) prefix
    (last_here (at + length z.prefix) d own inner others (z.depth ∙ deep) nested ends)
