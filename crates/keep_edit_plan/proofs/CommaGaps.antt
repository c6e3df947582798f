-- What a remove finds at the commas of brackets, by the bytes there.
--
-- A gap begins with no comma, so where a comma comes first there is no gap (`no_gap`), and where none of the bytes is a
-- comma there is none in the tree (`no_comma`). White space after a comma ends where the scan of bytes ends it, and a
-- comment is found by its `#` alone.
--
-- Theorems: `comma_after`: of a comma directly after an entry, and the white space after it; `closing_after`: it is not
-- the closing bracket; `last_after`: of a comma, a gap without a comment and the last entry.
use Rattle.std.proofs.Common.{◌≡◌, ℕ, suc, ◌+◌, Bool, true, false, cond, ◌||◌, ◌==◌, List, [], ◌∷◌, ◌++◌, length, refl}
use Rattle.std.proofs.Common.{sym, ap, ◌∙◌, subst, arith, append_assoc, length-append, drop, take, drop_at}
use Rattle.std.proofs.Common.{Option, Some, None}
use Rattle.std.specs.Prelude.{IsTrue}
use Rattle.std.specs.List.{list_any, prefix_len}
use Rattle.std.proofs.Math.Seq.{take-append_seam}
use Rattle.std.proofs.lemmas.Bool.Decides.{nat_tests}
use Rattle.std.proofs.lemmas.Bool.{and_parts}
use Rattle.std.specs.List.{list_all}
use Rattle.keep_types.specs.declared.leaf.Leaf.{Leaf}
use Rattle.keep_types.specs.declared.leaf.Leaf.TheVariants as leaf
use Rattle.keep_types.specs.declared.leaf.Profile.TheVariants.{Strict}
use Rattle.keep_token.specs.Abnf.{is_ws}
use Rattle.keep_token.specs.Leaves.{IsLeaf, is_gap_leaf}
use Rattle.keep_token.specs.Scanning.{first}
use Rattle.keep_syntax.specs.declared.info.Brackets.{Brackets}
use Rattle.keep_syntax.specs.declared.info.Brackets.TheVariants as brackets
use Rattle.keep_syntax.specs.Tree.{Gap, comma_leaves, text_of}
use Rattle.keep_syntax.specs.Grammar.{IsBlank, IsGap}
use Rattle.keep_syntax.specs.Reading.{close_byte}
use Rattle.keep_syntax.proofs.Shared.{comment_class, gap_blank, is_solid, newline_class, place_of}
use Rattle.keep_edit_spec.specs.Removal.{is_hash}
use Rattle.keep_edit_spec.specs.Values.{preserved_gap, prefix_ws, past_ws}
use Rattle.keep_edit_spec.proofs.Shared.{all_prefix, past_stops, past_ws-text, preserved_is, run_ends}
use Rattle.keep_edit_plan.specs.TakenEntries.{HasNoComma, IsCommaRun, IsLastGap, is_comma}

-- ---- what gaps begin with

ws_class : (p : ℕ → Bool) (t x : List ℕ) → ((c : ℕ) → is_ws c ≡ true → p c ≡ false) → IsLeaf Strict leaf.Ws t
    → p (first (t ++ x)) ≡ false
ws_class p [] x ws h = absurd (omega (arith, h.0))
ws_class p (c ∷ cs) x ws h = ws c (and_parts (is_ws c) (list_all is_ws cs) h.1).0

-- a gap leaf's first byte
leaf_class : (p : ℕ → Bool) (l : Leaf) (t x : List ℕ) → ((c : ℕ) → is_ws c ≡ true → p c ≡ false) → p 0x0A ≡ false
    → p 0x0D ≡ false → p 0x23 ≡ false → IsTrue (is_gap_leaf l) → IsLeaf Strict l t → p (first (t ++ x)) ≡ false
leaf_class p leaf.Ws t x ws e0 e1 e2 k i = ws_class p t x ws i
leaf_class p leaf.Newline t x ws e0 e1 e2 k i = newline_class p t x e0 e1 i
leaf_class p leaf.Comment t x ws e0 e1 e2 k i = comment_class p t x e2 i
leaf_class p _ t x ws e0 e1 e2 k i = absurd cc

ws_no_comma : (c : ℕ) → is_ws c ≡ true → (c == 0x2C) ≡ false
ws_no_comma c h = grind (arith, nat_tests)

comma_is : (c : ℕ) → c ≡ 0x2C → (c == 0x2C) ≡ true
comma_is c h = grind (arith, nat_tests)

no_blank : (g : Gap) (x : List ℕ) → IsBlank g → first (text_of g ++ x) ≡ 0x2C → g ≡ []
no_blank [] x h e = refl
no_blank (w ∷ more) x h e =
    let no : (first (w.text ++ (text_of more ++ x)) == 0x2C) ≡ false =
    leaf_class (λ (c : ℕ). c == 0x2C) w.leaf w.text (text_of more ++ x) ws_no_comma refl refl refl h.0 h.1 in
    let e' : first (w.text ++ (text_of more ++ x)) ≡ 0x2C =
    subst (λ (t : List ℕ). first t ≡ 0x2C) (append_assoc w.text (text_of more) x) e in
    let yes = comma_is (first (w.text ++ (text_of more ++ x))) e' in
    absurd cc

pub no_gap : (b : Brackets) (g : Gap) (x : List ℕ) → IsGap Strict (place_of b) g → first (text_of g ++ x) ≡ 0x2C
    → g ≡ []
no_gap b g x h e = no_blank g x (gap_blank Strict b g h) e

-- ---- a comma directly after an entry

pub record IsCommaAfter (after next_gap : Gap) (n : ℕ) : Type 0 where
  pub before : after ≡ []
  pub len : n ≡ suc (length (text_of (prefix_ws next_gap)))

white_run : (g : Gap) (x : List ℕ) → IsBlank g → is_solid (first x) ≡ true
    → prefix_len is_ws (text_of g ++ x) ≡ length (text_of (prefix_ws g))
white_run g x h solid =
    ap (λ (t : List ℕ). prefix_len is_ws (t ++ x)) (past_ws-text g)
    ∙ ap (prefix_len is_ws) (append_assoc (text_of (prefix_ws g)) (text_of (past_ws g)) x)
    ∙ run_ends (text_of (prefix_ws g)) (text_of (past_ws g) ++ x) (all_prefix g h) (past_stops g x h solid)

pub comma_after : (b : Brackets) (after next_gap : Gap) (x : List ℕ) (n : ℕ) → IsGap Strict (place_of b) after
    → IsGap Strict (place_of b) next_gap → is_solid (first x) ≡ true
    → IsCommaRun n (text_of after ++ (0x2C ∷ (text_of next_gap ++ x))) → IsCommaAfter after next_gap n
comma_after b after next_gap x n ha hn solid run =
    let is : after ≡ [] = no_gap b after (0x2C ∷ (text_of next_gap ++ x)) ha run.0 in
    let run' : IsCommaRun n (text_of [] ++ (0x2C ∷ (text_of next_gap ++ x))) =
    subst (λ (g : Gap). IsCommaRun n (text_of g ++ (0x2C ∷ (text_of next_gap ++ x)))) is run in
    record {
      before = is;
      len = run'.1 ∙ ap (λ (k : ℕ). suc k) (white_run next_gap x (gap_blank Strict b next_gap hn) solid);
    }

close_no_comma : (b : Brackets) (c : ℕ) → (c == close_byte b) ≡ true → c ≡ 0x2C → ⊥
close_no_comma brackets.Array c h e = let h' : (0x2C == 0x5D) ≡ true = subst (λ (k : ℕ). (k == 0x5D) ≡ true) e h in cc
close_no_comma brackets.Inline c h e = let h' : (0x2C == 0x7D) ≡ true = subst (λ (k : ℕ). (k == 0x7D) ≡ true) e h in cc

pub closing_after : (b : Brackets) (after : Gap) (x : List ℕ) → IsGap Strict (place_of b) after
    → (first x == close_byte b) ≡ true → first (text_of after ++ x) ≡ 0x2C → ⊥
closing_after b after x h closed e =
    close_no_comma b (first x) closed
    (subst (λ (g : Gap). first (text_of g ++ x) ≡ 0x2C) (no_gap b after x h e) e)

-- ---- no comma

or_right : (b c : Bool) → (b || c) ≡ false → c ≡ false
or_right false c e = e
or_right true c e = absurd cc

has_comma : (a x : List ℕ) → HasNoComma (a ++ (0x2C ∷ x)) → ⊥
has_comma [] x e = cc
has_comma (c ∷ a) x e = has_comma a x (or_right (is_comma c) (list_any is_comma (a ++ (0x2C ∷ x))) e)

pub no_comma : (after : Gap) (comma : Option Gap) (x : List ℕ)
    → HasNoComma (text_of after ++ (text_of (comma_leaves comma) ++ x)) → comma ≡ None
no_comma after None x e = refl
no_comma after (Some g) x e = absurd (has_comma (text_of after) (text_of g ++ x) e)

-- ---- before the last entry

pub record IsLastAfter (after next_gap : Gap) (gap : ℕ) (tail : List ℕ) : Type 0 where
  pub before : after ≡ []
  pub preserved : text_of (preserved_gap next_gap) ≡ []
  pub len : gap ≡ suc (length (text_of next_gap))
  pub no_more : HasNoComma tail

no_comment : (g : Gap) (x : List ℕ) (n : ℕ) → IsBlank g → n ≡ suc (length (text_of g))
    → list_any is_hash (take n (0x2C ∷ (text_of g ++ x))) ≡ false → text_of (preserved_gap g) ≡ []
no_comment g x n h e none =
    let part : take n (0x2C ∷ (text_of g ++ x)) ≡ 0x2C ∷ text_of g =
    ap (λ (k : ℕ). take k (0x2C ∷ (text_of g ++ x))) e
    ∙ ap (λ (t : List ℕ). 0x2C ∷ t) (take-append_seam (text_of g) x) in
    let none' : list_any is_hash (0x2C ∷ text_of g) ≡ false =
    subst (λ (t : List ℕ). list_any is_hash t ≡ false) part none in
    let here : list_any is_hash (text_of g) ≡ false = none' in
    sym (preserved_is g h) ∙ ap (λ (c : Bool). cond c (text_of g) []) here

pub last_after : (b : Brackets) (after next_gap : Gap) (prefix tail : List ℕ) (gap len : ℕ)
    → IsGap Strict (place_of b) after → IsGap Strict (place_of b) next_gap
    → gap ≡ length (text_of after) + suc (length (text_of next_gap)) → len ≡ length prefix
    → IsLastGap gap len (text_of after ++ (0x2C ∷ (text_of next_gap ++ (prefix ++ tail))))
    → IsLastAfter after next_gap gap tail
last_after b after next_gap prefix tail gap len ha hn eg el h =
    let x = 0x2C ∷ (text_of next_gap ++ (prefix ++ tail)) in
    let is : after ≡ [] = no_gap b after x ha h.0 in
    let h' : IsLastGap gap len x = subst (λ (g : Gap). IsLastGap gap len (text_of g ++ x)) is h in
    let none : length (text_of after) ≡ 0 = ap (λ (g : Gap). length (text_of g)) is in
    let size : gap ≡ suc (length (text_of next_gap)) = omega arith in
    let a : List ℕ = 0x2C ∷ (text_of next_gap ++ prefix) in
    let split : x ≡ a ++ tail =
    ap (λ (t : List ℕ). 0x2C ∷ t) (sym (append_assoc (text_of next_gap) prefix tail)) in
    let long : gap + len ≡ length a = omega (arith, length-append (text_of next_gap) prefix) in
    let past : drop (gap + len) x ≡ tail = ap (drop (gap + len)) split ∙ drop_at a tail (gap + len) (sym long) in
    record {
      before = is;
      preserved = no_comment next_gap (prefix ++ tail) gap (gap_blank Strict b next_gap hn) size h'.1.0;
      len = size;
      no_more = subst HasNoComma past h'.1.1;
    }
