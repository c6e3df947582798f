-- `insert` of a keyval at the end of the body of the root, a defined table or an element: all that holds of it.
--
-- Where the holder's body has an end (`end_of`), the edit puts one keyval there (`change_here`). At that line the
-- reading is still in the holder's body (`end_is`), and the keys that are written mean the keys after the holder
-- (`key_means`). So by `keyval_law` the rules and the facts are those of a keyval with a new path (`body_law`). The
-- edit's definition of the tree has an exception for a holder that only headers go through. No path with a body is such
-- a holder (`body_not_alone`), so the definition gives the facts of the law (`source_plain`). `insert_whole` puts them
-- together with the grammar and the text.
--
-- Theorems: `insert_at_body_end`: the whole, from no refusal; `insert_whole`: the same of any change with the rules and
-- facts of a new keyval; `change_here`: which line is put where.
use Rattle.std.proofs.Common.{◌≡◌, ℕ, Bool, true, false, not, cond, ◌&&◌, ◌||◌, List, [], ◌∷◌, ◌++◌, length, map, take}
use Rattle.std.proofs.Common.{drop, refl, sym, ap, subst, ◌∙◌, Option, Some, None, inl, inr}
use Rattle.std.specs.List.{list_any}
use Rattle.std.proofs.lemmas.List.Elements.{filter_map-append}
use Rattle.keep_types.specs.declared.leaf.Profile.{Profile}
use Rattle.keep_syntax.specs.Tree.{Name, Value, keyval, Document}
use Rattle.keep_syntax.specs.Grammar.{IsValue, IsDocument}
use Rattle.keep_path.specs.Path.{Part, key, same_path}
use Rattle.keep_meaning.specs.Rules.{ObeysRules}
use Rattle.keep_meaning.specs.Marks.{Mention, start, marks}
use Rattle.keep_meaning.specs.Meaning.{key_value, step, lines, reading_after_lines, mentions_in, mentions_of_value}
use Rattle.keep_meaning.specs.Nodes.{is_at, fact_at, is_root, has, is_define, is_begun, is_dotted}
use Rattle.keep_edit_spec.specs.Look.{strip, holder, item_number, keys_in, key_text}
use Rattle.keep_edit_spec.specs.Changed.{Changed}
use Rattle.keep_edit_spec.specs.Edits.{insert, change, change_insert, insert_line, end_of, at_line, new_keyval}
use Rattle.keep_edit_spec.specs.Edits.{name_with}
use Rattle.keep_edit_spec.specs.Refusals.{refusal}
use Rattle.keep_edit_spec.specs.Trees.{source, fact_from, has_fact, is_through_alone}
use Rattle.keep_edit_spec.specs.Trees as trees
use Rattle.keep_edit_spec.proofs.Common.Runs.{AllOf, all_right, Rules, same_path-sound}
use Rattle.keep_edit_spec.proofs.Common.SetLaw.{EachTo}
use Rattle.keep_edit_spec.proofs.Common.SetDocument.{IsLawful}
use Rattle.keep_edit_spec.proofs.Common.SetWhole.{IsSetWhole, EachChange, together}
use Rattle.keep_edit_spec.proofs.Common.LineTexts.{change-is}
use Rattle.keep_edit_spec.proofs.Common.InsertLaw.{KeyvalFact, IsKeyvalLaw, keyval_law}
use Rattle.keep_edit_spec.proofs.Common.Marks.{rules_of_document, rules_of_value}
use Rattle.keep_edit_spec.proofs.Insert.NewPath.{IsNewPath, new_path, keys_of_map}
use Rattle.keep_edit_spec.proofs.Common.BodyEnd.{IsBodyEnd, end_is, stated_has}
use Rattle.keep_edit_spec.proofs.Common.NewLines.{IsKeyText, valid_at_line, valid_name, key_means}

-- ---- where the facts come from

not_alone : (a b c d : Bool) → (b || c) ≡ true → (not a && not ((b || c) || d)) ≡ false
not_alone true b c d h = refl
not_alone false b c d h = rw h refl

-- a body's path is no table that only headers go through
pub body_not_alone : (s : Document) (a : List Part) (n : ℕ) → IsBodyEnd s a n
    → is_through_alone a (mentions_in s) ≡ false
body_not_alone s a n h = elim h.stated [
  | inl e ↦ subst (λ (p : List Part). is_through_alone p (mentions_in s) ≡ false) (sym e) refl
  | inr t ↦
      not_alone (is_root a) (has is_define a (mentions_in s)) (has is_begun a (mentions_in s))
      (has is_dotted a (mentions_in s) || has_fact a (mentions_in s)) (stated_has a (mentions_in s) t)
]

from_by : (ms : List Mention) (a q : List Part) (v : Value) → is_through_alone a ms ≡ false → (b : Bool)
    → same_path q a ≡ b
    → fact_from ms (mentions_of_value v) (cond (b && is_through_alone q ms) trees.a_table (trees.from q)) ≡ fact_at q ms
from_by ms a q v h false e = refl
from_by ms a q v h true e =
    let no : is_through_alone q ms ≡ false =
    subst (λ (p : List Part). is_through_alone p ms ≡ false) (sym (same_path-sound q a e)) h in
    rw no refl

source_by : (ms : List Mention) (path q : List Part) (v : Value) → is_through_alone (holder path ms) ms ≡ false
    → (o : Option (List Part))
    → fact_from ms (mentions_of_value v)
    (elim o [
      | Some more ↦ trees.given more
      | None ↦
          cond (same_path q (holder path ms) && is_through_alone q ms) trees.a_table (trees.from q)
    ])
    ≡ elim o [ Some more ↦ fact_at more (mentions_of_value v) | None ↦ fact_at q ms ]
source_by ms path q v h (Some more) = refl
source_by ms path q v h None = from_by ms (holder path ms) q v h (same_path q (holder path ms)) refl

-- the tree after an insert, where the holder was a table already
pub source_plain : (ms : List Mention) (path : List Part) (v : Value) → item_number path ms ≡ None
    → is_through_alone (holder path ms) ms ≡ false → (q : List Part)
    → fact_from ms (mentions_of_value v) (source ms (insert path v) q) ≡ KeyvalFact path v ms q
source_plain ms path v no_item h q = rw (no_item, source) (source_by ms path q v h (strip path q))

-- ---- the keys after the holder

pub later_keys : (profile : Profile) (a path : List Part) (ks : List (List ℕ)) → path ≡ a ++ map key ks
    → AllOf (IsKeyText profile) (keys_in path) → AllOf (IsKeyText profile) ks
later_keys profile a path ks e h =
    all_right (IsKeyText profile) (keys_in a) ks
    (subst (λ (l : List (List ℕ)). AllOf (IsKeyText profile) l)
    (ap keys_in e ∙ filter_map-append key_text a (map key ks) ∙ ap (λ l. keys_in a ++ l) (keys_of_map ks)) h)

-- ---- the law

pub body_law : (profile : Profile) (s : Document) (a : List Part) (n : ℕ) (k : List ℕ) (ks : List (List ℕ)) (v : Value)
    → IsBodyEnd s a n → AllOf (IsKeyText profile) (k ∷ ks)
    → list_any (is_at (a ++ key k ∷ [])) (mentions_in s) ≡ false → Rules (mentions_in s) → Rules (mentions_of_value v)
    → EachTo (IsKeyvalLaw s (a ++ map key (k ∷ ks)) v) (at_line s n (keyval (name_with (k ∷ ks)) v ∷ []))
body_law profile s a n k ks v end texts fresh rules value_rules =
    let name : Name = name_with (k ∷ ks) in
    let body : List Part = (reading_after_lines start (take n (lines s))).body in
    subst (λ (p : List Part). EachTo (IsKeyvalLaw s p v) (at_line s n (keyval name v ∷ [])))
    (ap (λ (x : List Part). x ++ step 0 (Some name)) end.body
    ∙ ap (λ (l : List (List ℕ)). a ++ map key l) (key_means profile k ks texts))
    (keyval_law s n name v end.few
    (subst (λ (p : List Part). list_any (is_at p) (mentions_in s) ≡ false)
    (sym (ap (λ (x : List Part). x ++ key (key_value name.key.first) ∷ []) end.body
    ∙ ap (λ (l : List ℕ). a ++ key l ∷ []) texts.0.means)) fresh)
    rules value_rules)

pub change_here : (s : Document) (path : List Part) (v : Value) (n : ℕ) → item_number path (mentions_in s) ≡ None
    → end_of s (holder path (mentions_in s)) ≡ Some n
    → change s (insert path v) ≡ at_line s n (new_keyval (drop (length (holder path (mentions_in s))) path) v ∷ [])
change_here s path v n no_item ends = rw (no_item, change_insert) (rw (ends, insert_line) refl)

-- all that holds, where the change has the rules and facts of a new keyval
pub insert_whole : (profile : Profile) (s : Document) (path : List Part) (v : Value) (c : Changed Document)
    → change s (insert path v) ≡ Some c
    → item_number path (mentions_in s) ≡ None → is_through_alone (holder path (mentions_in s)) (mentions_in s) ≡ false
    → IsKeyvalLaw s path v c.to → IsDocument profile c.to
    → IsSetWhole profile s (insert path v) c
insert_whole profile s path v c same no_item plain law good =
    let lawful : IsLawful s (insert path v) c.to =
    record { rules = law.rules; tree = λ q. law.tree q ∙ sym (source_plain (mentions_in s) path v no_item plain q) } in
    subst (λ (o : Option (Changed Document)). EachTo (IsDocument profile) o → EachTo (IsLawful s (insert path v)) o
    → EachChange (IsSetWhole profile s (insert path v)) o) same
    (λ g l. together profile s (insert path v) (change s (insert path v)) g (change-is s (insert path v)) l) good lawful

-- From no refusal: the keyval is put in as a line at the body's end, and the new document is right.
pub insert_at_body_end : (profile : Profile) (limit : ℕ) (s : Document) (path : List Part) (v : Value) (n : ℕ)
    → refusal profile limit s (insert path v) ≡ None → item_number path (mentions_in s) ≡ None
    → end_of s (holder path (mentions_in s)) ≡ Some n
    → AllOf (IsKeyText profile) (keys_in path)
    → IsDocument profile s → ObeysRules (marks (mentions_in s)) → IsValue profile v
    → ObeysRules (marks (mentions_of_value v))
    → (c : Changed Document) × ((change s (insert path v) ≡ Some c) × IsSetWhole profile s (insert path v) c)
insert_at_body_end profile limit s path v n granted no_item ends texts valid obeys value_valid value_obeys =
    let ms : List Mention = mentions_in s in
    let a : List Part = holder path ms in
    let new : IsNewPath path ms = new_path profile limit ms path v no_item granted in
    let k : List ℕ = new.first in
    let ks : List (List ℕ) = new.more in
    let end : IsBodyEnd s a n = end_is s a n ends in
    let mine : AllOf (IsKeyText profile) (k ∷ ks) = later_keys profile a path (k ∷ ks) new.whole texts in
    let law : EachTo (IsKeyvalLaw s (a ++ map key (k ∷ ks)) v) (at_line s n (keyval (name_with (k ∷ ks)) v ∷ [])) =
    body_law profile s a n k ks v end mine new.fresh (rules_of_document s obeys) (rules_of_value v value_obeys) in
    let o : Option (Changed Document) = at_line s n (keyval (name_with (k ∷ ks)) v ∷ []) in
    let same : change s (insert path v) ≡ o =
    change_here s path v n no_item ends
    ∙ ap (λ (l : List (List ℕ)). at_line s n (keyval (name_with l) v ∷ [])) new.keys in
    let good : EachTo (IsDocument profile) o =
    valid_at_line profile s n (keyval (name_with (k ∷ ks)) v ∷ []) valid
    ((valid_name profile k ks mine, value_valid), tt) in (
      _,
      (
        same,
        insert_whole profile s path v _ same no_item (body_not_alone s a n end)
            (subst (λ (p : List Part). EachTo (IsKeyvalLaw s p v) o) (sym new.whole) law) good,
      ),
    )
