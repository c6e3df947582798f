-- Where something holds of an Option or a Result, so does what follows from it.
--
-- Theorems: `on_either`: what follows from Ok, and from an error, holds; `both_ok` and `two_ok`: what follows from two
-- things where the result is Ok.
use Rattle.std.proofs.Common.{Option, Some, None, Ok, Err}
use Rattle.std.specs.Prelude.{IfOk, OnOk, OnErr, IfSome, IfNone, Result}

pub both_ok : {T E : Type 0} (r : Result T E) (P : Type 0) (Q R : T → Type 0) → (P → (x : T) → Q x → R x) → OnOk r P
    → IfOk r Q → IfOk r R
both_ok (Ok x) P Q R f p q = f p x q
both_ok (Err e) P Q R f p q = q

pub if_none : {T : Type 0} (o : Option T) (P Q : Type 0) → (P → Q) → IfNone o P → IfNone o Q
if_none (Some x) P Q f h = h
if_none None P Q f h = f h

pub two_ok : {T E : Type 0} (r : Result T E) (P Q R : T → Type 0) → ((x : T) → P x → Q x → R x) → IfOk r P → IfOk r Q
    → IfOk r R
two_ok (Ok x) P Q R f p q = f x p q
two_ok (Err e) P Q R f p q = tt

-- what holds of it either way
pub on_either : {T E : Type 0} (r : Result T E) (P Q C : Type 0) → (P → C) → (Q → C) → OnOk r P → OnErr r Q → C
on_either (Ok x) P Q C f g p q = f p
on_either (Err e) P Q C f g p q = g q

pub two_some : {T : Type 0} (o : Option T) (P Q R : T → Type 0) → ((x : T) → P x → Q x → R x) → IfSome o P → IfSome o Q
    → IfSome o R
two_some (Some x) P Q R f p q = f x p q
two_some None P Q R f p q = tt
