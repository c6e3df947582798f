-- What a `Counted` tells.
use Rattle.std.specs.Prelude.{◌≡◌, ◌+◌, ◌-◌, ◌^◌, min, ℕ, Bool, true, false, List, length, Result, Ok, Err, ◌&&◌}
use Rattle.std.specs.Prelude.{nat_lt, ◌==◌}
use Rattle.keep_commands.specs.declared.counted.Counted.{Counted}

abbrev pub is_err : {T E : Type 0} → Result T E → Bool
is_err (Ok x) = false
is_err (Err e) = true

-- an error, or a write of something that took nothing
abbrev pub is_refused : {E : Type 0} → Result ℕ E → List ℕ → Bool
is_refused (Ok n) bytes = nat_lt 0 (length bytes) && (n == 0)
is_refused (Err e) bytes = true

abbrev pub next_call : ℕ → ℕ
next_call calls = min (calls + 1) (2 ^ 64 - 1)

module _ {T : Type 0} where
  -- the reader or the writer
  abbrev pub inner_of : Counted T → T
  inner_of c = c.inner

  -- the calls so far
  abbrev pub calls_of : Counted T → ℕ
  calls_of c = c.calls

  -- a call failed
  abbrev pub has_failed : Counted T → Bool
  has_failed c = c.failed

  -- no call was made
  pub record IsFresh (c : Counted T) : Type 0 where
    pub calls : calls_of c ≡ 0
    pub failed : has_failed c ≡ false
