-- A quoted key part without escapes means what is between its quotes.
--
-- Theorems: `basic_plain`: of a basic string without a backslash; `literal_plain`: of a literal string.
use Rattle.std.proofs.Common.{◌≡◌, ℕ, ◌-◌, Bool, false, ◌==◌, IsTrue, List, [], ◌∷◌, ◌++◌, length, take, drop, refl}
use Rattle.std.proofs.Common.{sym, ap, ◌∙◌, subst, arith}
use Rattle.std.specs.List.{slice_range, list_any}
use Rattle.std.specs.Str.{IsUtf8, IsCharBoundary}
use Rattle.std.proofs.lemmas.Bool.{or_parts}
use Rattle.std.proofs.lemmas.List.Folds.{list_any-append}
use Rattle.keep_types.specs.declared.leaf.Profile.TheVariants.{Wide}
use Rattle.keep_types.specs.declared.leaf.Leaf.{Leaf}
use Rattle.keep_types.specs.declared.leaf.Leaf.TheVariants as leaf
use Rattle.keep_token.specs.Strings.{text_of}
use Rattle.keep_token.specs.Leaves.{IsLeaf, is_key_leaf, is_one_line}
use Rattle.keep_token.proofs.Shared.{start_cut, one_ascii}
use Rattle.keep_meaning.specs.Meaning.{unescaped_text, between_marks, string_value}
use Rattle.keep_meaning.proofs.DecodeLaws.{one_between, plain_read}

abbrev pub is_backslash : ℕ → Bool
is_backslash c = c == 0x5C

-- ---- the marks

pub is_marked : (l : Leaf) → IsTrue (is_key_leaf l) → (l ≡ leaf.BareKey → ⊥) → IsTrue (is_one_line l)
is_marked leaf.BareKey kind other = absurd (other refl)
is_marked leaf.Basic kind other = refl
is_marked leaf.Literal kind other = refl
is_marked _ kind other = absurd cc

pub literal_only : (l : Leaf) → IsTrue (is_key_leaf l) → (l ≡ leaf.BareKey → ⊥) → (l ≡ leaf.Basic → ⊥)
    → l ≡ leaf.Literal
literal_only leaf.BareKey kind bare basic = absurd (bare refl)
literal_only leaf.Basic kind bare basic = absurd (basic refl)
literal_only leaf.Literal kind bare basic = refl
literal_only _ kind bare basic = absurd cc

pub marked_start : (l : Leaf) (text : List ℕ) → IsTrue (is_one_line l) → IsLeaf Wide l text → IsUtf8 text
    → IsCharBoundary text 1
marked_start leaf.Basic text kind (ps, string) u =
    start_cut text (0x22 ∷ []) (text_of ps) (0x22 ∷ []) 1 string.spelled u (one_ascii 0x22 (omega arith)) refl
marked_start leaf.Literal text kind (ps, string) u =
    start_cut text (0x27 ∷ []) (text_of ps) (0x27 ∷ []) 1 string.spelled u (one_ascii 0x27 (omega arith)) refl
marked_start _ text kind h u = absurd cc

inner : (text : List ℕ) → slice_range text 1 (length text - 1) ≡ between_marks 1 text
inner text = ap (λ n. take n (drop 1 text)) (omega arith)

-- ---- no backslash

plain_text : (text : List ℕ) → list_any is_backslash text ≡ false → unescaped_text 0 text ≡ text
plain_text [] h = refl
plain_text (c ∷ cs) h =
    let parts = or_parts (is_backslash c) (list_any is_backslash cs) h in
    plain_read c cs parts.0 ∙ ap (λ t. c ∷ t) (plain_text cs parts.1)

none_nested : (text body : List ℕ) → text ≡ 0x22 ∷ body ++ (0x22 ∷ []) → list_any is_backslash text ≡ false
    → list_any is_backslash body ≡ false
none_nested text body e h =
    (or_parts (list_any is_backslash body) (list_any is_backslash (0x22 ∷ []))
    (sym (list_any-append is_backslash body (0x22 ∷ [])) ∙ sym (ap (list_any is_backslash) e) ∙ h)).0

pub basic_plain : (l : Leaf) (text part : List ℕ) → l ≡ leaf.Basic → IsLeaf Wide l text
    → list_any is_backslash text ≡ false → part ≡ slice_range text 1 (length text - 1) → part ≡ string_value l text
basic_plain leaf.Basic text part e (ps, string) none cut =
    let body = one_between 0x22 text (text_of ps) string.spelled in
    let plain = plain_text (text_of ps) (none_nested text (text_of ps) string.spelled none) in
    cut ∙ inner text ∙ body ∙ sym plain ∙ ap (unescaped_text 0) (sym body)
basic_plain _ text part e h none cut = absurd cc

pub literal_plain : (l : Leaf) (text part : List ℕ) → l ≡ leaf.Literal → part ≡ slice_range text 1 (length text - 1)
    → part ≡ string_value l text
literal_plain l text part e cut = subst (λ (k : Leaf). part ≡ string_value k text) (sym e) (cut ∙ inner text)
