-- The line up to a byte, as the code finds it: the byte before is a line feed, and so is the last one before that. So
-- the line's bytes are those from the one to the other, none of them a line feed but the last, and its white space ends
-- before it does.
--
-- Theorems: `space_ends`: its white space ends in it; `line_says`: it says something, if that is so of its first byte
-- past white space; `place_left`: an edit leaves its place to a new line, if others leave the line before it.
use Rattle.std.proofs.Common.{◌≡◌, ℕ, suc, ◌+◌, ◌-◌, ◌<◌, ◌≤◌, ◌==◌, Bool, true, false, not, List, [], ◌∷◌, length}
use Rattle.std.proofs.Common.{get_or, take, drop, All, Some, string_bytes, refl, sym, ap, subst, ◌∙◌, drop-cons}
use Rattle.std.proofs.Common.{add-one, arith, inl, inr}
use Rattle.std.proofs.lemmas.Bool.{cases_lt, eqb-true}
use Rattle.std.proofs.lemmas.List.{drop-take, get_or-drop, get_or-take, length-drop, length-take-le}
use Rattle.std.proofs.lemmas.List.Elements.{All-weaker}
use Rattle.std.proofs.lemmas.List.Sums.{prefix_len_is, prefix_len_passes}
use Rattle.std.specs.List.{prefix_len}
use Rattle.memchr.specs.Find.{IsLastByte, is_byte}
use Rattle.keep_token.specs.Abnf.{is_ws}
use Rattle.keep_types.specs.declared.syntax.Span.{Span}
use Rattle.keep_syntax.specs.Numbered.{span}
use Rattle.keep_syntax.proofs.Shared.{first-drop}
use Rattle.keep_edit_spec.specs.Removal.{past_space}
use Rattle.keep_edit_spec.specs.Runs.{LeavesPlace}
use Rattle.keep_edit_spec.specs.SaidLines.{begins_nothing, is_in_line}
use Rattle.keep_edit_spec.specs.TextChanges.{IsBeside, TextChange, change_at}
use Rattle.keep_edit_plan.specs.SaidSpans.{IsSaidSpan, Leaves}
use Rattle.keep_edit_plan.specs.TextEdits.{change_of}
use Rattle.keep_edit_plan.specs.declared.text_edit.TextEdit.{TextEdit}

module _ (bytes : List ℕ) (at start : ℕ) (within : at ≤ length bytes) (ends : get_or (take at bytes) (at - 1) 0 ≡ 10)
    (found : IsLastByte (is_byte 10) (take (at - 1) (take at bytes)) (Some start)) where
  abbrev text : List ℕ
  text = take at bytes

  abbrev line : List ℕ
  line = drop (start + 1) text

  text_long : length text ≡ at
  text_long = length-take-le at bytes within

  before_long : length (take (at - 1) text) ≡ at - 1
  before_long = length-take-le (at - 1) text (omega (arith, text_long))

  low : start < at - 1
  low = omega (arith, found.0.high, before_long)

  long : length line ≡ at - (start + 1)
  long = length-drop (start + 1) text ∙ ap (λ n. n - (start + 1)) text_long

  begins : get_or text start 0 ≡ 10
  begins =
      eqb-true (get_or text start 0) 10
      (ap (is_byte 10) (sym (get_or-take (at - 1) text start 0 low)) ∙ found.1)

  byte_is : (k : ℕ) → get_or line k 0 ≡ get_or text (start + 1 + k) 0
  byte_is k = get_or-drop (start + 1) text k 0

  last_is : get_or line (length line - 1) 0 ≡ 10
  last_is =
      let same : start + 1 + (length line - 1) ≡ at - 1 = omega (arith, long, low) in
      byte_is (length line - 1) ∙ ap (λ n. get_or text n 0) same ∙ ends

  space_within : prefix_len is_ws line < length line
  space_within = elim (cases_lt (prefix_len is_ws line) (length line)) [
    | inl less ↦ less
    | inr all ↦
        let passes : is_ws (get_or line (length line - 1) 0) ≡ true =
        prefix_len_passes is_ws line (length line - 1) 0 (omega (arith, all, long, low)) in
        let not_so : is_ws (get_or line (length line - 1) 0) ≡ false = ap is_ws last_is in
        absurd cc
  ]

  pub space_ends : past_space text (start + 1) < length text
  space_ends = omega (arith, space_within, long, text_long, low)

  inside : (k : ℕ) → k < length line - 1 → is_in_line (get_or line k 0) ≡ true
  inside k lt = by (get_or line k 0 == 10) refl
    where
      there : start + 1 + k < at - 1
      there = omega (arith, lt, long, low)

      by : (b : Bool) → (get_or line k 0 == 10) ≡ b → not b ≡ true
      by false is = refl
      by true is =
          absurd (found.0.after (start + 1 + k) (omega arith) (omega (arith, there, before_long))
          (ap (is_byte 10) (get_or-take (at - 1) text (start + 1 + k) 0 there ∙ sym (byte_is k)) ∙ is))

  line_ends : suc (prefix_len is_in_line line) ≡ length line
  line_ends =
      let is : prefix_len is_in_line line ≡ length line - 1 =
      prefix_len_is is_in_line line (length line - 1) 0 (omega arith) inside (λ lt. ap is_in_line last_is) in
      omega (arith, is, long, low)

  bytes_are : take (suc (length line)) (drop start bytes) ≡ 10 ∷ line
  bytes_are =
      let end : start + suc (length line) ≡ at = omega (arith, long, low) in
      sym (drop-take start (suc (length line)) bytes) ∙ ap (λ n. drop start (take n bytes)) end
      ∙ drop-cons text start 0 (omega (arith, text_long, low))
      ∙ ap (λ b. b ∷ drop (suc start) text) begins
      ∙ ap (λ n. 10 ∷ drop n text) (sym (add-one start))

  pub line_says : (next : ℕ) → next ≡ past_space text (start + 1) → begins_nothing (get_or text next 0) ≡ false
      → IsSaidSpan bytes at (span start at)
  line_says next is some = record {
    says = record {
      from = start;
      line = line;
      ends = omega (arith, long, low);
      is = bytes_are;
      said = record {
        begins = ap begins_nothing
            (first-drop line (prefix_len is_ws line) ∙ byte_is (prefix_len is_ws line)
            ∙ ap (λ n. get_or text n 0) (sym is))
            ∙ some;
        ends = line_ends;
      };
    };
    starts = refl;
    ends = refl;
  }

-- ---- an edit that leaves its place to a new line

nothing : (xs : List ℕ) → length xs ≡ 0 → xs ≡ []
nothing [] h = refl
nothing (x ∷ xs) h = absurd (omega (arith, h))

pub place_left : (bytes : List ℕ) (changes : List TextChange) (t : TextEdit) (line : Span)
    → length (string_bytes t.new) ≡ 0 → IsSaidSpan bytes t.place.start line → All (Leaves line) changes
    → LeavesPlace bytes changes (change_of t)
place_left bytes changes t line none is leave =
    let size : line.end - line.start ≡ suc (length is.says.line) = omega (arith, is.starts, is.ends, is.says.ends) in
    record {
      takes = nothing (string_bytes t.new) none;
      said = is.says;
      stays = All-weaker (Leaves line) (λ x. IsBeside x (change_at is.says.from (suc (length is.says.line)) []))
          (λ x h. subst (λ (n : ℕ). IsBeside x (change_at n (suc (length is.says.line)) [])) is.starts
          (subst (λ (n : ℕ). IsBeside x (change_at line.start n [])) size h.beside))
          changes leave;
      alone = All-weaker (Leaves line) (λ x. x.at ≡ t.place.start → 0 < x.size)
          (λ x h at. h.after (at ∙ sym is.ends)) changes leave;
    }
