-- One value and nothing else: it is read exactly where there is one within the limit, and there is at most one.
--
-- Theorems: `value_found`: what is read is a value with this text, within the limit; `value_read`: such a value is
-- read; `one_value`: at most one value has a given text.
use Rattle.std.proofs.Common.{◌≡◌, ℕ, zero, suc, ◌≤◌, max, cond, ◌==◌, List, [], length, drop, Result, Ok, Err, refl}
use Rattle.std.proofs.Common.{sym, ap, ◌∙◌, subst, arith, eqb-true}
use Rattle.std.proofs.lemmas.List.{append-nil, nil_from_length}
use Rattle.keep_types.specs.declared.leaf.Profile.{Profile}
use Rattle.keep_token.specs.Scanning.{first, scalar_at}
use Rattle.keep_syntax.specs.declared.info.Brackets.{Brackets}
use Rattle.keep_syntax.specs.declared.info.Brackets.TheVariants as brackets
use Rattle.keep_syntax.specs.Tree.{Entries, none, Value, value_text, value_depth}
use Rattle.keep_syntax.specs.Grammar.{IsValue, ReadsValue}
use Rattle.keep_syntax.specs.Reading.{Fault, Bad, Deep, Read, ◌>>=◌, close_byte, body_in, gap_in, named_in, after_by}
use Rattle.keep_syntax.specs.Reading.{item_by, iteration_of, entry_by, entries_by, bracket_by, scalar_of, value_by}
use Rattle.keep_syntax.specs.Reading.{value_of, read_one_value}
use Rattle.keep_syntax.proofs.LoopLaws.{bind_ok, ok_is, guard_ok, Same, same_refl, same_bind, same_cond, same_repeat}
use Rattle.keep_syntax.proofs.ValueLaws.{value_takes}
use Rattle.keep_syntax.proofs.AgainLaws.{value_again}

-- What is read is a value with this text, within the limit.
pub value_found : (profile : Profile) (limit : ℕ) (text : List ℕ) (v : Value) → read_one_value profile limit text ≡ Ok v
    → ReadsValue profile limit text v
unfolding read_one_value
value_found profile limit text v e =
    let (x, e1, e2) = bind_ok (value_of profile limit text) (λ v. cond (length v.1 == 0) (Ok v.0) (Err Bad)) v e in
    let t = value_takes profile limit text x.0 x.1 e1 in
    let g = guard_ok (length x.1 == 0) Bad x.0 v e2 in
    let nothing : x.1 ≡ [] = nil_from_length x.1 (eqb-true (length x.1) 0 g.0) in
    subst (λ (w : Value). ReadsValue profile limit text w) g.1
    (record { valid = t.valid; spelled = t.spelled ∙ rw nothing (append-nil (value_text x.0)); shallow = t.shallow })

-- A value within the limit is read.
pub value_read : (profile : Profile) (limit : ℕ) (text : List ℕ) (v : Value) → ReadsValue profile limit text v
    → read_one_value profile limit text ≡ Ok v
unfolding read_one_value
value_read profile limit text v h =
    let e : value_of profile limit text ≡ Ok (v, []) =
    ap (value_of profile limit) (h.spelled ∙ sym (append-nil (value_text v)))
    ∙ value_again profile limit v [] h.valid h.shallow refl in
    rw e refl

of_text : (profile : Profile) (limit : ℕ) (v : Value) → IsValue profile v → value_depth v ≤ limit
    → read_one_value profile limit (value_text v) ≡ Ok v
of_text profile limit v h le =
    value_read profile limit (value_text v) v (record { valid = h; spelled = refl; shallow = le })

-- At most one value has a given text.
pub one_value : (profile : Profile) (v w : Value) → IsValue profile v → IsValue profile w → value_text v ≡ value_text w
    → v ≡ w
one_value profile v w h k e =
    let limit = max (value_depth v) (value_depth w) in
    ok_is v w (sym (of_text profile limit v h (omega arith)) ∙ ap (read_one_value profile limit) e
    ∙ of_text profile limit w k (omega arith))

-- ---- a larger limit

same_item : (profile : Profile) (b : Brackets) (value value' : List ℕ → Read Value)
    → ((t : List ℕ) → Same (value t) (value' t)) → (text : List ℕ)
    → Same (item_by profile b value text) (item_by profile b value' text)
unfolding item_by
same_item profile b value value' h text =
    same_bind (named_in profile b text) (named_in profile b text)
    (λ n. value n.1 >>= λ v. after_by profile b n.0 v.0 (gap_in profile b v.1))
    (λ n. value' n.1 >>= λ v. after_by profile b n.0 v.0 (gap_in profile b v.1)) (same_refl (named_in profile b text))
    (λ n. same_bind (value n.1) (value' n.1) (λ v. after_by profile b n.0 v.0 (gap_in profile b v.1))
    (λ v. after_by profile b n.0 v.0 (gap_in profile b v.1)) (h n.1)
    (λ v. same_refl (after_by profile b n.0 v.0 (gap_in profile b v.1))))

same_entry : (profile : Profile) (b : Brackets) (value value' : List ℕ → Read Value)
    → ((t : List ℕ) → Same (value t) (value' t)) → (prefix : Entries) (text : List ℕ)
    → Same (entry_by profile b value prefix text) (entry_by profile b value' prefix text)
unfolding entry_by
same_entry profile b value value' h prefix text =
    same_cond (first text == close_byte b) _ _ _ _ refl
    (same_bind (item_by profile b value text) (item_by profile b value' text)
    (λ i. Ok (iteration_of prefix i.0 i.0.comma, i.1)) (λ i. Ok (iteration_of prefix i.0 i.0.comma, i.1))
    (same_item profile b value value' h text) (λ i. refl))

same_bracket : (profile : Profile) (value value' : List ℕ → Read Value) → ((t : List ℕ) → Same (value t) (value' t))
    → (b : Brackets) (text : List ℕ) → Same (bracket_by profile value b text) (bracket_by profile value' b text)
same_bracket profile value value' h b text =
    let g = gap_in profile b (drop 1 text) in
    same_bind (entries_by profile b value none g.1) (entries_by profile b value' none g.1)
    (λ es. Ok (record { body = body_in b g.0; nested = es.0 }, drop 1 es.1))
    (λ es. Ok (record { body = body_in b g.0; nested = es.0 }, drop 1 es.1))
    (same_repeat (suc (length g.1)) (entry_by profile b value) (entry_by profile b value')
    (same_entry profile b value value' h) none g.1) (λ es. refl)

same_value : (profile : Profile) (bracket bracket' : Brackets → List ℕ → Read Value)
    → ((b : Brackets) (t : List ℕ) → Same (bracket b t) (bracket' b t)) → (text : List ℕ)
    → Same (value_by profile bracket text) (value_by profile bracket' text)
same_value profile bracket bracket' h text =
    same_cond (first text == 0x5B) _ _ _ _ (h brackets.Array text)
    (same_cond (first text == 0x7B) _ _ _ _ (h brackets.Inline text)
    (same_refl (scalar_of text (scalar_at profile text))))

-- A larger limit reads the same, unless the smaller was passed.
pub value_depth_left : (profile : Profile) (a b : ℕ) (text : List ℕ) → a ≤ b
    → Same (value_of profile a text) (value_of profile b text)
unfolding value_of
value_depth_left profile zero zero text le = same_refl (value_of profile zero text)
value_depth_left profile zero (suc b) text le =
    same_value profile (λ b t. Err (Deep t)) (bracket_by profile (value_of profile b)) (λ k t. tt) text
value_depth_left profile (suc a) zero text le = absurd (omega arith)
value_depth_left profile (suc a) (suc b) text le =
    same_value profile (bracket_by profile (value_of profile a)) (bracket_by profile (value_of profile b))
    (same_bracket profile (value_of profile a) (value_of profile b) (λ t. value_depth_left profile a b t (omega arith)))
    text

one_value_depth_left : (profile : Profile) (a b : ℕ) (text : List ℕ) → a ≤ b
    → Same (read_one_value profile a text) (read_one_value profile b text)
unfolding read_one_value
one_value_depth_left profile a b text le =
    same_bind (value_of profile a text) (value_of profile b text) (λ v. cond (length v.1 == 0) (Ok v.0) (Err Bad))
    (λ v. cond (length v.1 == 0) (Ok v.0) (Err Bad)) (value_depth_left profile a b text le)
    (λ v. same_refl (cond (length v.1 == 0) (Ok v.0) (Err Bad)))

pub bad_stays : {A : Type 0} (r s : Result A Fault) (x : A) → r ≡ Err Bad → Same r s → s ≡ Ok x → ⊥
bad_stays {A} r s x bad same e = by (subst (λ (q : Result A Fault). Same q s) bad same)
  where
    by : s ≡ Err Bad → ⊥
    by k = let clash : Err Bad ≡ Ok x = sym k ∙ e in absurd cc

-- Where nothing fits, nothing fits at any depth.
pub value_bad : (profile : Profile) (limit : ℕ) (text : List ℕ) → read_one_value profile limit text ≡ Err Bad
    → (v : Value) → IsValue profile v → text ≡ value_text v → ⊥
value_bad profile limit text bad v h e =
    let more = max limit (value_depth v) in
    bad_stays (read_one_value profile limit text) (read_one_value profile more text) v bad
    (one_value_depth_left profile limit more text (omega arith))
    (ap (read_one_value profile more) e ∙ of_text profile more v h (omega arith))
