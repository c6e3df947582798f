-- The line of a key at the end of a text that ends in a newline: none is missing before it (`none_missing`), so that it
-- is written as it is. The last step of the path is its key (`last_step`).
--
-- Theorems: `no_index`: what is written of the path is no index; `key_line_is`: the line.
use Rattle.std.proofs.Common.{◌≡◌, ◌-◌, ◌≤◌, ℕ, zero, suc, Bool, true, false, cond, not, List, [], ◌∷◌, ◌++◌, length}
use Rattle.std.proofs.Common.{drop, refl, sym, ap, subst, ◌∙◌, arith, Some}
use Rattle.std.specs.Prelude.{IsUtf8}
use Rattle.std.specs.List.{list_any}
use Rattle.std.proofs.lemmas.List.{take_all}
use Rattle.keep_types.specs.declared.leaf.Profile.{Profile}
use Rattle.keep_syntax.specs.Profiles.{is_allowed_in}
use Rattle.keep_syntax.specs.Tree.{Document, Value, text, value_depth}
use Rattle.keep_path.specs.Path.{AreUtf8, EndsInKey, Part, index, key, last_part, without_last}
use Rattle.keep_edit_spec.specs.Insertion.{is_open, keyed_text, missing_newline}
use Rattle.keep_edit_spec.specs.Lines.{newline_of}
use Rattle.keep_edit_spec.specs.Look.{is_index, keys_in}
use Rattle.keep_edit_spec.specs.TextChanges.{change_at}
use Rattle.keep_edit_spec.specs.TextEnds.{ends_in_newline}
use Rattle.keep_edit_plan.specs.Inserting.{lines_start, new_line_at}
use Rattle.keep_edit_plan.specs.NewTables.{IsKeyLine}
use Rattle.keep_edit_plan.specs.Reading.{limit, IsTextOfTree, IsTextOfValue, ProfiledText}

-- ---- the last step

further : (x y : Part) (p : List Part) → length (x ∷ y ∷ p) - 1 ≡ suc (length (y ∷ p) - 1)
further x y p = omega arith

last_step : (path : List Part) (name : List ℕ) → last_part path ≡ Some (key name)
    → drop (length path - 1) path ≡ key name ∷ []
last_step [] name e = absurd cc
last_step (x ∷ []) name e = let same : x ≡ key name = cc in ap (λ (p : Part). p ∷ []) same
last_step (x ∷ y ∷ p) name e =
    ap (λ (n : ℕ). drop n (x ∷ y ∷ p)) (further x y p) ∙ last_step (y ∷ p) name e

last_whole : (path : List Part) (name : List ℕ) → last_part path ≡ Some (key name)
    → path ≡ without_last path ++ key name ∷ []
last_whole [] name e = absurd cc
last_whole (x ∷ []) name e = let same : x ≡ key name = cc in ap (λ (p : Part). p ∷ []) same
last_whole (x ∷ y ∷ p) name e = ap (λ (q : List Part). x ∷ q) (last_whole (y ∷ p) name e)

last_utf8 : (path : List Part) (name : List ℕ) → AreUtf8 path → last_part path ≡ Some (key name) → IsUtf8 name
last_utf8 [] name utf8 e = absurd cc
last_utf8 (key k ∷ []) name utf8 e = let same : k ≡ name = cc in subst IsUtf8 same utf8.0
last_utf8 (index n ∷ []) name utf8 e = absurd cc
last_utf8 (key k ∷ y ∷ p) name utf8 e = last_utf8 (y ∷ p) name utf8.1 e
last_utf8 (index n ∷ y ∷ p) name utf8 e = last_utf8 (y ∷ p) name utf8 e

-- no step from it on is an index
pub no_index : (path : List Part) (from : ℕ) → EndsInKey path → from ≡ length path - 1
    → list_any is_index (drop from path) ≡ false
no_index path from (name, e) is =
    ap (λ (n : ℕ). list_any is_index (drop n path)) is ∙ ap (list_any is_index) (last_step path name e)

-- ---- after a newline

closed_at_end : (n : ℕ) (bytes : List ℕ) → ends_in_newline bytes ≡ true → is_open (drop n bytes) ≡ false
closed_at_end n [] late = absurd cc
closed_at_end zero (c ∷ []) late = ap not late
closed_at_end (suc zero) (c ∷ []) late = refl
closed_at_end (suc (suc n)) (c ∷ []) late = refl
closed_at_end zero (c ∷ d ∷ bytes) late = closed_at_end zero (d ∷ bytes) late
closed_at_end (suc n) (c ∷ d ∷ bytes) late = closed_at_end n (d ∷ bytes) late

none_missing : (bytes newline : List ℕ) (start : ℕ) → ends_in_newline bytes ≡ true
    → missing_newline bytes newline start (length bytes) ≡ []
none_missing bytes newline start late =
    ap (λ (t : List ℕ). cond (is_open (drop start t)) newline []) (take_all (length bytes) bytes (omega arith))
    ∙ ap (λ (b : Bool). cond b newline []) (closed_at_end start bytes late)

-- ---- the line

pub key_line_is : (d : ProfiledText) (s : Document) (path : List Part) (v : Value) (bytes : List ℕ) (at from : ℕ)
    (profile : Profile) (old line : List ℕ) (allowed : Bool) (depth : ℕ)
    → IsTextOfTree d s → IsTextOfValue bytes v → AreUtf8 path → EndsInKey path → profile ≡ d.profile
    → allowed ≡ is_allowed_in profile v → allowed ≡ true → depth ≡ value_depth v → depth ≤ limit
    → ends_in_newline d.text ≡ true → at ≡ length d.text → from ≡ length path - 1 → old ≡ []
    → line ≡ old ++ (new_line_at s at (keys_in (drop from path)) v).new
    → IsKeyLine d.profile s path v (change_at at (at - at) line)
key_line_is d s path v bytes at from profile old line allowed depth read value utf8 (name, ends) same is_allowed lets
    deep few late at_end last none_before pushed = record {
      holder = without_last path;
      name = name;
      whole = last_whole path name ends;
      utf8 = last_utf8 path name utf8 ends;
      fitting = record {
        given = record { valid = value.reads.valid; obeys = value.obeys };
        allowed =
            ap (λ (p : Profile). not (is_allowed_in p v)) (sym same) ∙ ap not (sym is_allowed ∙ lets);
        shallow = omega (arith, deep, few);
      };
      is =
          ap (λ (n : ℕ). change_at at n line) none_gone
          ∙ ap (λ (n : ℕ). change_at n 0 line) end
          ∙ ap (change_at (length (text s)) 0) line_is;
    }
  where
    end : at ≡ length (text s)
    end = at_end ∙ ap length read.reads.spelled

    none_gone : at - at ≡ 0
    none_gone = omega arith

    keys : keys_in (drop from path) ≡ name ∷ []
    keys = ap (λ (n : ℕ). keys_in (drop n path)) last ∙ ap keys_in (last_step path name ends)

    late_tree : ends_in_newline (text s) ≡ true
    late_tree = ap ends_in_newline (sym read.reads.spelled) ∙ late

    line_is : line ≡ keyed_text (name ∷ []) v ++ (newline_of s).text
    line_is =
        pushed
        ∙ ap (λ (t : List ℕ). t ++ (new_line_at s at (keys_in (drop from path)) v).new) none_before
        ∙ ap (λ (l : List (List ℕ)). (new_line_at s at l v).new) keys
        ∙ ap (λ (n : ℕ). (new_line_at s n (name ∷ []) v).new) end
        ∙ ap (λ (t : List ℕ). t ++ (keyed_text (name ∷ []) v ++ (newline_of s).text))
        (none_missing (text s) (newline_of s).text (lines_start s) late_tree)
