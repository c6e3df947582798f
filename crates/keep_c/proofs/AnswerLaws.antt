-- A call that comes to a text answers by it: the buffer begins with the text, or the text has no room there.
--
-- Theorems: `written`: where the text comes first in the buffer, this is an answer with status 0; `without_room`: where
-- the buffer is shorter than the text and is as it was, this is one with status 3.
use Rattle.std.proofs.Common.{◌≡◌, ◌++◌, ◌<◌, ℕ, List, refl, subst, inl, inr, length, drop, Global, String}
use Rattle.std.specs.Prelude.{Result, Ok, string_bytes}
use Rattle.keep_edit.specs.Reading.{ProfiledText}
use Rattle.keep_args.specs.declared.subcommand.Ask.{Ask}
use Rattle.keep_c.specs.Answer.{Answers, IsAnswer}
use Rattle.keep_c.specs.Numbers.{no_fault, no_room}
use Rattle.keep_c.specs.declared.fault.Fault.{Fault}
use Rattle.keep_c.specs.declared.numbers.KeepTomlFault.{KeepTomlFault}

module _ (answer : Result (String Global) Fault) (text : String Global) (is : answer ≡ Ok text) (old new : List ℕ)
    (size : ℕ) (numbers : KeepTomlFault) (sized : size ≡ length (string_bytes text)) where
  pub written : numbers ≡ no_fault → new ≡ string_bytes text ++ drop (length (string_bytes text)) old
      → (ask : Ask) (words : List (List ℕ)) (input : ProfiledText) → Answers ask words input answer
      → IsAnswer ask words input old new size numbers 0
  written none put ask words input h =
      inl (
        refl,
        none,
        (
          string_bytes text,
          subst (λ (r : Result (String Global) Fault). Answers ask words input r) is h,
          sized,
          rw sized put,
        ),
      )

  pub without_room : numbers ≡ no_room → (new ≡ old) × (length old < length (string_bytes text))
      → (ask : Ask) (words : List (List ℕ)) (input : ProfiledText) → Answers ask words input answer
      → IsAnswer ask words input old new size numbers 3
  without_room full (kept, less) ask words input h =
      inr (inl (
        refl,
        full,
        (
          string_bytes text,
          subst (λ (r : Result (String Global) Fault). Answers ask words input r) is h,
          sized,
          rw sized less,
          kept,
        ),
      ))
