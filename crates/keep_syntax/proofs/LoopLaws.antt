-- Loops of reading: the count of iterations can be forgotten, and what holds of each iteration holds of the loop.
--
-- A `loop` is `repeat` with one more iteration than there are bytes. Each iteration that continues takes a byte
-- (`Shortens`), so every count above the number of bytes gives the same, by induction over the count (`repeat_same`).
-- Hence a loop is its first iteration and, where that continues, the loop from there (`loop_step`); there is a lemma
-- for an iteration that continues, is the last, or fails (`loop_on`, `loop_ready`, `loop_err`). What holds of the loop
-- is found by the same induction, from the last iteration back (`repeat_holds`), also where the loop fails at a bracket
-- that is one too many (`repeat_deep`). With a larger limit each result is the same, unless the smaller limit was
-- passed (`Same`); this goes through steps, tests and loops (`same_bind`, `same_cond`, `same_repeat`).
--
-- Theorems: `loop_on`: the loop goes on with what an iteration that continues leaves; `repeat_holds`: what holds of
-- each iteration holds of the loop; `same_repeat`: a loop with a larger limit.
use Rattle.std.proofs.Common.{◌≡◌, ℕ, zero, suc, ◌<◌, Bool, true, false, cond, List, length, Result, Ok, Err, refl, ap}
use Rattle.std.proofs.Common.{◌∙◌, subst, inl, inr, arith, ◌⊎◌}
use Rattle.keep_syntax.specs.Reading.{Fault, Bad, Deep, Read, ◌>>=◌, Iteration, continues, ready, onward, repeat, loop}

-- ---- steps

-- the value of steps that did not fail
pub bind_ok : {A B : Type 0} (r : Result A Fault) (f : A → Result B Fault) (y : B) → (r >>= f) ≡ Ok y
    → (x : A) × (r ≡ Ok x) × (f x ≡ Ok y)
bind_ok (Ok x) f y e = (x, refl, e)
bind_ok (Err d) f y e = absurd cc

-- the step that failed
pub bind_err : {A B : Type 0} (r : Result A Fault) (f : A → Result B Fault) (d : Fault) → (r >>= f) ≡ Err d
    → (r ≡ Err d) ⊎ ((x : A) × (r ≡ Ok x) × (f x ≡ Err d))
bind_err (Ok x) f d e = inr (x, refl, e)
bind_err (Err c) f d e = inl (let g : c ≡ d = cc in ap Err g)

pub bind_same : {A B : Type 0} (r : Result A Fault) (f g : A → Result B Fault) → ((x : A) → r ≡ Ok x → f x ≡ g x)
    → (r >>= f) ≡ (r >>= g)
bind_same (Ok x) f g h = h x refl
bind_same (Err e) f g h = refl

abbrev pub done : {A : Type 0} → A → Result A Fault
done x = Ok x

pub ok_is : {A : Type 0} (x y : A) → done x ≡ done y → x ≡ y
ok_is x y e = cc

-- a test that lets nothing through but this
pub guard_ok : {A : Type 0} (b : Bool) (d : Fault) (x y : A) → cond b (Ok x) (Err d) ≡ Ok y → (b ≡ true) × (x ≡ y)
guard_ok true d x y e = (refl, cc)
guard_ok false d x y e = absurd cc

-- ---- loops

-- each iteration that continues takes a byte
abbrev pub Shortens : {S A : Type 0} → (S → List ℕ → Read (Iteration S A)) → Type 0
Shortens {S} iteration =
    (s : S) (text : List ℕ) (s' : S) (rest : List ℕ) → iteration s text ≡ Ok (continues s', rest)
    → length rest < length text

-- as many iterations as there are bytes are enough
repeat_same : {S A : Type 0} (iteration : S → List ℕ → Read (Iteration S A)) → Shortens iteration
    → (n m : ℕ) (s : S) (text : List ℕ) → length text < n → length text < m
    → repeat n iteration s text ≡ repeat m iteration s text
unfolding repeat
repeat_same iteration short zero m s text lt lt' = absurd (omega arith)
repeat_same iteration short (suc n) zero s text lt lt' = absurd (omega arith)
repeat_same {S} {A} iteration short (suc n) (suc m) s text lt lt' =
    bind_same (iteration s text) (λ t. onward (repeat n iteration) t.0 t.1) (λ t. onward (repeat m iteration) t.0 t.1)
    (λ t is. by t.0 t.1 is (λ s' rest k. repeat_same iteration short n m s' rest (omega arith) (omega arith)))
  where
    by : (t : Iteration S A) (rest : List ℕ) → iteration s text ≡ Ok (t, rest)
        → ((s' : S) (rest : List ℕ) → length rest < length text
        → repeat n iteration s' rest ≡ repeat m iteration s' rest)
        → onward (repeat n iteration) t rest ≡ onward (repeat m iteration) t rest
    by (ready a) rest is ih = refl
    by (continues s') rest is ih = ih s' rest (short s text s' rest is)

pub loop_step : {S A : Type 0} (iteration : S → List ℕ → Read (Iteration S A)) → Shortens iteration
    → (s : S) (text : List ℕ) → loop iteration s text ≡ (iteration s text >>= λ t. onward (loop iteration) t.0 t.1)
unfolding repeat
loop_step {S} {A} iteration short s text =
    bind_same (iteration s text) (λ t. onward (repeat (length text) iteration) t.0 t.1)
    (λ t. onward (loop iteration) t.0 t.1) (λ t is. by t.0 t.1 is)
  where
    by : (t : Iteration S A) (rest : List ℕ) → iteration s text ≡ Ok (t, rest)
        → onward (repeat (length text) iteration) t rest ≡ onward (loop iteration) t rest
    by (ready a) rest is = refl
    by (continues s') rest is =
        repeat_same iteration short (length text) (suc (length rest)) s' rest (short s text s' rest is) (omega arith)

-- an iteration that continues
pub loop_on : {S A : Type 0} (iteration : S → List ℕ → Read (Iteration S A)) → Shortens iteration
    → (s : S) (text : List ℕ) (s' : S) (rest : List ℕ) → iteration s text ≡ Ok (continues s', rest)
    → loop iteration s text ≡ loop iteration s' rest
loop_on iteration short s text s' rest e =
    loop_step iteration short s text ∙ ap (λ r. r >>= λ t. onward (loop iteration) t.0 t.1) e

-- the last iteration
pub loop_ready : {S A : Type 0} (iteration : S → List ℕ → Read (Iteration S A)) (s : S) (text : List ℕ) (a : A)
    (rest : List ℕ) → iteration s text ≡ Ok (ready a, rest) → loop iteration s text ≡ Ok (a, rest)
unfolding repeat
loop_ready iteration s text a rest e = ap (λ r. r >>= λ t. onward (repeat (length text) iteration) t.0 t.1) e

-- an iteration that fails
pub loop_err : {S A : Type 0} (iteration : S → List ℕ → Read (Iteration S A)) (s : S) (text : List ℕ) (d : Fault)
    → iteration s text ≡ Err d → loop iteration s text ≡ Err d
unfolding repeat
loop_err iteration s text d e = ap (λ r. r >>= λ t. onward (repeat (length text) iteration) t.0 t.1) e

-- What holds of the last iteration, and of an iteration if it holds of the iterations after it, holds of all.
pub repeat_holds : {S A : Type 0} (iteration : S → List ℕ → Read (Iteration S A)) (P : S → List ℕ → A → List ℕ → Type 0)
    → ((s : S) (text : List ℕ) (a : A) (rest : List ℕ) → iteration s text ≡ Ok (ready a, rest) → P s text a rest)
    → ((s : S) (text : List ℕ) (s' : S) (text' : List ℕ) (a : A) (rest : List ℕ)
    → iteration s text ≡ Ok (continues s', text') → P s' text' a rest → P s text a rest)
    → (n : ℕ) (s : S) (text : List ℕ) (a : A) (rest : List ℕ) → repeat n iteration s text ≡ Ok (a, rest)
    → P s text a rest
unfolding repeat
repeat_holds iteration P last on zero s text a rest h = absurd cc
repeat_holds {S} {A} iteration P last on (suc n) s text a rest h =
    let (t, e1, e2) = bind_ok (iteration s text) (λ t. onward (repeat n iteration) t.0 t.1) (a, rest) h in
    by t.0 t.1 e1 e2 (λ s' text' k. repeat_holds iteration P last on n s' text' a rest k)
  where
    by : (t : Iteration S A) (text' : List ℕ) → iteration s text ≡ Ok (t, text')
        → onward (repeat n iteration) t text' ≡ Ok (a, rest)
        → ((s' : S) (text' : List ℕ) → repeat n iteration s' text' ≡ Ok (a, rest) → P s' text' a rest) → P s text a rest
    by (ready b) text' e1 e2 ih =
        let same = ok_is (b, text') (a, rest) e2 in
        subst (λ (x : A × List ℕ). P s text x.0 x.1) same (last s text b text' e1)
    by (continues s') text' e1 e2 ih = on s text s' text' a rest e1 (ih s' text' e2)

-- what holds of each iteration holds of a loop that fails at a bracket that is one too many
pub repeat_deep : {S A : Type 0} (iteration : S → List ℕ → Read (Iteration S A)) (P : S → List ℕ → List ℕ → Type 0)
    → ((s : S) (text rest : List ℕ) → iteration s text ≡ Err (Deep rest) → P s text rest)
    → ((s : S) (text : List ℕ) (s' : S) (text' : List ℕ) (rest : List ℕ) → iteration s text ≡ Ok (continues s', text')
    → P s' text' rest → P s text rest)
    → (n : ℕ) (s : S) (text rest : List ℕ) → repeat n iteration s text ≡ Err (Deep rest) → P s text rest
unfolding repeat
repeat_deep iteration P fails on zero s text rest h = absurd cc
repeat_deep {S} {A} iteration P fails on (suc n) s text rest h =
    elim (bind_err (iteration s text) (λ t. onward (repeat n iteration) t.0 t.1) (Deep rest) h) [
      | inl e ↦ fails s text rest e
      | inr x ↦ by x.0.0 x.0.1 x.1 x.2 (λ s' text' k. repeat_deep iteration P fails on n s' text' rest k)
    ]
  where
    by : (t : Iteration S A) (text' : List ℕ) → iteration s text ≡ Ok (t, text')
        → onward (repeat n iteration) t text' ≡ Err (Deep rest)
        → ((s' : S) (text' : List ℕ) → repeat n iteration s' text' ≡ Err (Deep rest) → P s' text' rest) → P s text rest
    by (ready b) text' e1 e2 ih = absurd cc
    by (continues s') text' e1 e2 ih = on s text s' text' rest e1 (ih s' text' e2)

-- ---- a larger limit

-- two results are equal, or the smaller limit was passed
abbrev pub Same : {A : Type 0} → Result A Fault → Result A Fault → Type 0
Same (Ok x) s = s ≡ Ok x
Same (Err Bad) s = s ≡ Err Bad
Same (Err (Deep rest)) s = Unit {0}

pub same_refl : {A : Type 0} (r : Result A Fault) → Same r r
same_refl (Ok x) = refl
same_refl (Err Bad) = refl
same_refl (Err (Deep rest)) = tt

pub same_bind : {A B : Type 0} (r s : Result A Fault) (f g : A → Result B Fault) → Same r s
    → ((x : A) → Same (f x) (g x)) → Same (r >>= f) (s >>= g)
same_bind (Ok x) s f g h k = rw h (k x)
same_bind (Err Bad) s f g h k = rw h refl
same_bind (Err (Deep rest)) s f g h k = tt

pub same_cond : {A : Type 0} (b : Bool) (x y z w : Result A Fault) → Same x z → Same y w
    → Same (cond b x y) (cond b z w)
same_cond true x y z w h k = h
same_cond false x y z w h k = k

pub same_repeat : {S A : Type 0} (n : ℕ) (iteration iteration' : S → List ℕ → Read (Iteration S A))
    → ((s : S) (text : List ℕ) → Same (iteration s text) (iteration' s text)) → (s : S) (text : List ℕ)
    → Same (repeat n iteration s text) (repeat n iteration' s text)
unfolding repeat
same_repeat zero iteration iteration' h s text = refl
same_repeat {S} {A} (suc n) iteration iteration' h s text =
    same_bind (iteration s text) (iteration' s text) (λ t. onward (repeat n iteration) t.0 t.1)
    (λ t. onward (repeat n iteration') t.0 t.1) (h s text)
    (λ t. by t.0 t.1 (λ s' rest. same_repeat n iteration iteration' h s' rest))
  where
    by : (t : Iteration S A) (rest : List ℕ)
        → ((s' : S) (rest : List ℕ) → Same (repeat n iteration s' rest) (repeat n iteration' s' rest))
        → Same (onward (repeat n iteration) t rest) (onward (repeat n iteration') t rest)
    by (ready a) rest ih = refl
    by (continues s') rest ih = ih s' rest
