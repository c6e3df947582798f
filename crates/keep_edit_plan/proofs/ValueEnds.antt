-- The text of a value begins and ends in ASCII, so that a document may be cut before and after it.
--
-- An array, an inline table and a string are each between two bytes of ASCII (`in_brackets`, `between_marks`); where
-- three quotation marks or apostrophes end a string, the last is that byte (`after_three`). Any other scalar is one run
-- of bytes of a word, or a date, a space and one more run (`run_ends`, `two_runs_end`), and each byte of a word is
-- ASCII (`low_word`). `scalar_ends` goes through the kinds of scalars. Nothing is nested in a scalar
-- (`nothing_nested`), so the text of such a value is that of its token. The first and last byte of a part of a text are
-- bytes of the whole text (`part_byte`), and before or after an ASCII byte a text may be cut
-- (`IsCharBoundary-before_ascii` and its like).
--
-- Theorems: `value_ends`: the value begins and ends in ASCII; `starts_between` and `ends_between`: the text may be cut
-- before and after such a part.
use Rattle.std.proofs.Common.{◌≡◌, ℕ, zero, suc, ◌+◌, ◌-◌, ◌<◌, true, false, ◌&&◌, ◌==◌, List, [], ◌∷◌, ◌++◌, length}
use Rattle.std.proofs.Common.{get_or, take, drop, Some, None, refl, sym, ap, ◌∙◌, subst, inl, inr, arith, add-zero}
use Rattle.std.proofs.Common.{get_or-drop, append_assoc}
use Rattle.std.specs.Prelude.{IsTrue, IsUtf8, IsCharBoundary}
use Rattle.std.specs.List.{prefix_len}
use Rattle.std.specs.Char.{is_ascii_digit}
use Rattle.std.proofs.Math.Seq.{get_or-append_seam}
use Rattle.std.proofs.lemmas.Bool.{and_parts}
use Rattle.std.proofs.lemmas.Bool.Decides.{nat_tests}
use Rattle.std.proofs.lemmas.List.{append-nil, length-append, get_or-append-add, get_or_append_left}
use Rattle.std.proofs.lemmas.List.Concat.{flat_map-append}
use Rattle.std.proofs.lemmas.List.Sums.{prefix_len_passes}
use Rattle.std.proofs.lemmas.Str.{IsCharBoundary-before_ascii, IsCharBoundary-after_ascii}
use Rattle.keep_types.specs.declared.leaf.Profile.{Profile}
use Rattle.keep_types.specs.declared.leaf.Leaf.{Leaf}
use Rattle.keep_types.specs.declared.leaf.Leaf.TheVariants as leaf
use Rattle.keep_token.specs.Abnf.{is_word}
use Rattle.keep_token.specs.Leaves.{IsLeaf, is_scalar_leaf, word_len, has_date_shape}
use Rattle.keep_token.specs.Pieces.{first}
use Rattle.keep_token.specs.Strings as strings
use Rattle.keep_token.proofs.Shared.{tested, prefix_len-positive, word_len_again, word_first, scalar_kind, a_word}
use Rattle.keep_token.proofs.Shared.{a_basic, a_literal, a_ml_basic, a_ml_literal}
use Rattle.keep_syntax.specs.Tree.{Written, Body, scalar, array, inline, none, entry, Entries, Value, token}
use Rattle.keep_syntax.specs.Tree.{entries_leaves, text_of, value_text}
use Rattle.keep_syntax.specs.Grammar.{IsValue, IsBody, AreEntries, in_scalar, place_in}
use Rattle.keep_meaning.proofs.Shared.{IsPart, part_ends, HasAsciiEnds}

-- ---- between marks

after_prefix : (prefix : List ℕ) (c n : ℕ) → n ≡ length prefix → get_or (prefix ++ (c ∷ [])) n 0 ≡ c
after_prefix prefix c n e = ap (λ i. get_or (prefix ++ (c ∷ [])) i 0) e ∙ get_or-append_seam prefix c [] 0

between_marks : (a b : ℕ) (body text : List ℕ) → a < 128 → b < 128 → text ≡ a ∷ body ++ (b ∷ []) → HasAsciiEnds text
between_marks a b body text low_a low_b e =
    let many : length text ≡ length body + 2 = omega (arith, ap length e, length-append body (b ∷ [])) in
    let last : get_or text (length text - 1) 0 ≡ b =
    ap (λ t. get_or t (length text - 1) 0) e ∙ after_prefix (a ∷ body) b (length text - 1) (omega (arith, many)) in
    record {
      some = omega (arith, many);
      first = subst (λ t. get_or t 0 0 < 128) (sym e) low_a;
      last = omega (arith, last);
    }

-- three marks after a body: the last of them
after_three : (mark : ℕ) (body : List ℕ)
    → mark ∷ mark ∷ mark ∷ body ++ (mark ∷ mark ∷ mark ∷ []) ≡ mark ∷ (mark ∷ mark ∷ body ++ (mark ∷ mark ∷ []))
    ++ (mark ∷ [])
after_three mark body = ap (λ t. mark ∷ mark ∷ mark ∷ t) (sym (append_assoc body (mark ∷ mark ∷ []) (mark ∷ [])))

-- ---- words

low_word : (c : ℕ) → is_word c ≡ true → c < 128
low_word c h = grind (arith, nat_tests)

digit_word : (c : ℕ) → is_ascii_digit c ≡ true → is_word c ≡ true
digit_word c h = grind (arith, nat_tests)

-- one run
run_ends : (t : List ℕ) → 0 < length t → prefix_len is_word t ≡ length t → HasAsciiEnds t
run_ends t some e = record {
  some = some;
  first = low_word (get_or t 0 0) (prefix_len_passes is_word t 0 0 (omega (arith, e)));
  last = low_word (get_or t (length t - 1) 0) (prefix_len_passes is_word t (length t - 1) 0 (omega (arith, e)));
}

date_some : (run : ℕ) (t : List ℕ) → has_date_shape (take run t) ≡ true → 0 < run
date_some zero t h = absurd (let k : false ≡ true = h in cc)
date_some (suc run) t h = omega arith

-- two runs, with a space between
two_runs_end : (t : List ℕ) (run : ℕ) → run ≡ prefix_len is_word t → has_date_shape (take run t) ≡ true
    → is_ascii_digit (get_or t (run + 1) 0) ≡ true
    → run + 1 + prefix_len is_word (drop (run + 1) t) ≡ length t → HasAsciiEnds t
two_runs_end t run is date digit e =
    let more : ℕ = prefix_len is_word (drop (run + 1) t) in
    let begins : is_word (first (drop (run + 1) t)) ≡ true =
    rw (get_or-drop (run + 1) t 0 0, add-zero) (digit_word (get_or t (run + 1) 0) digit) in
    let positive : 0 < more = prefix_len-positive is_word (drop (run + 1) t) refl begins in
    let pass : is_word (get_or (drop (run + 1) t) (more - 1) 0) ≡ true =
    prefix_len_passes is_word (drop (run + 1) t) (more - 1) 0 (omega arith) in
    let low : get_or t (run + 1 + (more - 1)) 0 < 128 =
    rw (get_or-drop (run + 1) t (more - 1) 0) at (low_word (get_or (drop (run + 1) t) (more - 1) 0) pass) in
    let same : run + 1 + (more - 1) ≡ length t - 1 = omega (arith, e) in
    record {
      some = omega (arith, e);
      first = low_word (get_or t 0 0) (prefix_len_passes is_word t 0 0 (omega (arith, is, date_some run t date)));
      last = subst (λ (n : ℕ). get_or t n 0 < 128) same low;
    }

word_ends : (t : List ℕ) → 0 < length t → word_len t ≡ length t → HasAsciiEnds t
word_ends t some e =
    let run : ℕ = prefix_len is_word t in
    elim (tested (has_date_shape (take run t) && (get_or t run 0 == 0x20 && is_ascii_digit (get_or t (run + 1) 0)))) [
      | inl k ↦
          let date = (and_parts (has_date_shape (take run t)) _ k).0 in
          let digit =
          (and_parts (get_or t run 0 == 0x20) (is_ascii_digit (get_or t (run + 1) 0))
          (and_parts (has_date_shape (take run t)) _ k).1).1 in
          two_runs_end t run refl date digit (rw k at e)
      | inr k ↦ run_ends t some (rw k at e)
    ]

-- ---- scalars

scalar_ends : (profile : Profile) (l : Leaf) (t : List ℕ) → IsTrue (is_scalar_leaf l) → IsLeaf profile l t
    → HasAsciiEnds t
scalar_ends profile l t kind h =
    elim (scalar_kind l kind) [
      | a_word e ↦
          word_ends t (word_first profile l t h e).0
          (ap word_len (sym (append-nil t)) ∙ word_len_again profile l t [] e h refl)
      | a_basic e ↦ let b =
          rw e at h in between_marks 0x22 0x22 (strings.text_of b.0) t (omega arith) (omega arith) b.1.spelled
      | a_literal e ↦ let b =
          rw e at h in between_marks 0x27 0x27 (strings.text_of b.0) t (omega arith) (omega arith) b.1.spelled
      | a_ml_basic e ↦ let b =
          rw e at h in
          between_marks 0x22 0x22 (0x22 ∷ 0x22 ∷ strings.text_of b.0 ++ (0x22 ∷ 0x22 ∷ [])) t (omega arith)
          (omega arith) (b.1.spelled ∙ after_three 0x22 (strings.text_of b.0))
      | a_ml_literal e ↦ let b =
          rw e at h in
          between_marks 0x27 0x27 (0x27 ∷ 0x27 ∷ strings.text_of b.0 ++ (0x27 ∷ 0x27 ∷ [])) t (omega arith)
          (omega arith) (b.1.spelled ∙ after_three 0x27 (strings.text_of b.0))
    ]

-- ---- values

nothing_nested : (profile : Profile) (nested : Entries) → AreEntries profile in_scalar nested
    → text_of (entries_leaves nested) ≡ []
nothing_nested profile none h = refl
nothing_nested profile (entry None body nested after comma rest) h = absurd h.0
nothing_nested profile (entry (Some n) body nested after comma rest) h = absurd h.0

in_brackets : (a b : ℕ) (l : Leaf) (gap nested : List Written) → a < 128 → b < 128
    → HasAsciiEnds (a ∷ text_of (gap ++ (nested ++ token l (b ∷ []))))
in_brackets a b l gap nested low_a low_b =
    let spelled : text_of (gap ++ (nested ++ token l (b ∷ []))) ≡ text_of (gap ++ nested) ++ (b ∷ []) =
    ap text_of (sym (append_assoc gap nested (token l (b ∷ []))))
    ∙ flat_map-append (λ (w : Written). w.text) (gap ++ nested) (token l (b ∷ [])) in
    between_marks a b (text_of (gap ++ nested)) (a ∷ text_of (gap ++ (nested ++ token l (b ∷ [])))) low_a low_b
    (ap (λ t. a ∷ t) spelled)

pub value_ends : (profile : Profile) (v : Value) → IsValue profile v → HasAsciiEnds (value_text v)
value_ends profile v h = by v.body v.nested h.body h.nested
  where
    by : (b : Body) (nested : Entries) → IsBody profile b → AreEntries profile (place_in b) nested
        → HasAsciiEnds (value_text (record { body = b; nested = nested }))
    by (scalar w) nested is in_it =
        let spelled : w.text ≡ value_text (record { body = scalar w; nested = nested }) =
        sym (append-nil w.text) ∙ ap (λ t. w.text ++ t) (sym (nothing_nested profile nested in_it))
        ∙ ap (λ ws. w.text ++ text_of ws) (sym (append-nil (entries_leaves nested))) in
        subst HasAsciiEnds spelled (scalar_ends profile w.leaf w.text is.0 is.1)
    by (array gap) nested is in_it =
        in_brackets 0x5B 0x5D leaf.ArrayClose gap (entries_leaves nested) (omega arith) (omega arith)
    by (inline gap) nested is in_it =
        in_brackets 0x7B 0x7D leaf.InlineClose gap (entries_leaves nested) (omega arith) (omega arith)

-- ---- where it is

-- a byte of a part of a text
part_byte : (bytes : List ℕ) (at : ℕ) (t : List ℕ) (i : ℕ) → IsPart bytes at t → i < length t
    → get_or bytes (at + i) 0 ≡ get_or t i 0
part_byte bytes at t i h lt =
    let from : at + i ≡ length h.prefix + i = ap (λ n. n + i) (sym h.place) in
    ap (λ n. get_or bytes n 0) from ∙ ap (λ b. get_or b (length h.prefix + i) 0) h.whole
    ∙ get_or-append-add h.prefix (t ++ h.after) i 0 ∙ get_or_append_left t h.after 0 i lt

pub starts_between : (bytes : List ℕ) (at : ℕ) (t : List ℕ) → IsPart bytes at t → HasAsciiEnds t
    → IsCharBoundary bytes at
starts_between bytes at t there ends =
    let byte : get_or bytes (at + 0) 0 ≡ get_or t 0 0 = part_byte bytes at t 0 there ends.some in
    let same : get_or bytes at 0 ≡ get_or bytes (at + 0) 0 = ap (λ n. get_or bytes n 0) (omega arith) in
    IsCharBoundary-before_ascii bytes at (omega (arith, part_ends bytes at t there, ends.some))
    (omega (arith, same, byte, ends.first))

pub ends_between : (bytes : List ℕ) (at : ℕ) (t : List ℕ) → IsUtf8 bytes → IsPart bytes at t → HasAsciiEnds t
    → IsCharBoundary bytes (at + length t)
ends_between bytes at t utf8 there ends =
    let last : ℕ = length t - 1 in
    let byte : get_or bytes (at + last) 0 ≡ get_or t last 0 =
    part_byte bytes at t last there (omega (arith, ends.some)) in
    let next : at + last + 1 ≡ at + length t = omega (arith, ends.some) in
    subst (IsCharBoundary bytes) next
    (IsCharBoundary-after_ascii bytes (at + last) utf8 (omega (arith, part_ends bytes at t there, ends.some))
    (omega (arith, byte, ends.last)))
