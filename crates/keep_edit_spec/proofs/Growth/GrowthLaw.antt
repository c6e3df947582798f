-- The text gets longer by an edit by no more than what the edit gives, and twelve bytes.
--
-- If a change puts in at most so many bytes more than it takes out (`GrowsBy`), the text gets longer by at most as many
-- (`of_grows`). For `insert`, `rename` and the edits that append, `GrowthOfEdits` has the lemmas; new lines need
-- newlines, of at most two bytes each (`newline_short`). For `set` the lemma is `set_growth`, of the whole text. The
-- first half is about `remove`, which never makes the text longer (`remove_grows`): clearing a line and dropping lines
-- put nothing in (`clear_grows`, `lines_grow`), and where an entry goes (`take_out_grows`), at most a gap is put in
-- that was taken out with it (`preserved_shorter`).
--
-- Theorem: `growth`.
use Rattle.std.proofs.Common.{◌≡◌, ℕ, zero, suc, ◌+◌, ◌≤◌, Bool, true, false, cond, List, [], ◌∷◌, ◌++◌, length, map}
use Rattle.std.proofs.Common.{drop, ap, subst, length-append, arith, Option, Some, None}
use Rattle.std.specs.Prelude.{codes}
use Rattle.std.specs.List.{list_any}
use Rattle.keep_types.specs.declared.leaf.Profile.{Profile}
use Rattle.keep_syntax.specs.Tree.{Gap, Name, Body, scalar, array, inline, Entries, none, entry, Line, Ended, Document}
use Rattle.keep_syntax.specs.Tree.{text_of, text, value_text}
use Rattle.keep_syntax.specs.Grammar.{IsDocument}
use Rattle.keep_path.specs.Path.{Part, key, same_path}
use Rattle.keep_path.specs.PathText.{encoded_path}
use Rattle.keep_edit_spec.specs.Edits.{key_part}
use Rattle.keep_meaning.specs.Marks.{Reading, start, marks}
use Rattle.keep_meaning.specs.Rules.{ObeysRules}
use Rattle.keep_meaning.specs.Meaning.{step, lines, mentions_in}
use Rattle.keep_edit_spec.specs.Changed.{Changed}
use Rattle.keep_edit_spec.specs.Values.{prefix_ws, entry_prefix, taken_first, taken_only, taken_last, is_last_named}
use Rattle.keep_edit_spec.specs.Values.{take_out, removal, preserved_gap, is_comment_leaf}
use Rattle.keep_edit_spec.specs.Lines.{in_lines, last_line, drop_lines, begins, body_length}
use Rattle.keep_edit_spec.specs.Edits.{Edit, set, insert, rename, remove, append_table, append_element, nested}
use Rattle.keep_edit_spec.specs.Edits.{without_lines, clear_line, is_own, change_remove, change}
use Rattle.keep_edit_spec.specs.Refusals.{refusal}
use Rattle.keep_edit_spec.specs.Laws.{given_size}
use Rattle.keep_edit_spec.proofs.Common.Texts.{EachIs}
use Rattle.keep_edit_spec.proofs.Common.LineTexts.{change-is, clear_cases}
use Rattle.keep_edit_spec.proofs.Common.Marks.{rules_of_document}
use Rattle.keep_edit_spec.proofs.Set.SetIsLawful.{set_growth}
use Rattle.keep_edit_spec.proofs.Growth.Growth.{GrowsBy, grows_within, grows_or_else, longer_text, IsBound, grows_lines}
use Rattle.keep_edit_spec.proofs.Growth.Growth.{grows_document, grows_nested}
use Rattle.keep_edit_spec.proofs.Growth.GrowthOfEdits.{insert_grows, rename_grows, append_table_grows}
use Rattle.keep_edit_spec.proofs.Growth.GrowthOfEdits.{append_element_grows}
use Rattle.keep_edit_spec.proofs.Growth.NewlineLength.{newline_short}
use Rattle.keep_edit_spec.proofs.Remove.RemoveLinePlace.{drop_new}

-- ---- remove

preserved_shorter : (g : Gap) → length (text_of (preserved_gap g)) ≤ length (text_of g)
preserved_shorter g = by (list_any (λ w. is_comment_leaf w.leaf) g)
  where
    by : (b : Bool) → length (text_of (cond b g [])) ≤ length (text_of g)
    by true = omega arith
    by false = omega arith

taken_first_grows : (gap : Gap) (name : Option Name) (body : Body) (nested : Entries) (after next_gap : Gap)
    (rest : Entries) → GrowsBy 0 (Some (taken_first gap name body nested after next_gap rest))
taken_first_grows gap name body nested after next_gap rest =
    let c = taken_first gap name body nested after next_gap rest in
    omega (
      arith,
      preserved_shorter after,
      length-append (entry_prefix name body nested) (text_of after ++ (codes "," ++ text_of (prefix_ws next_gap))),
      length-append (text_of after) (codes "," ++ text_of (prefix_ws next_gap)),
    )

taken_last_grows : (gap : Gap) (name : Option Name) (body : Body) (nested : Entries) (after next_gap : Gap)
    (name' : Option Name) (body' : Body) (nested' : Entries) (after' : Gap)
    → GrowsBy 0 (Some (taken_last gap name body nested after next_gap name' body' nested' after'))
taken_last_grows gap name body nested after next_gap name' body' nested' after' =
    omega (
      arith,
      preserved_shorter next_gap,
      length-append (codes ",") (text_of next_gap ++ entry_prefix name' body' nested'),
      length-append (text_of next_gap) (entry_prefix name' body' nested'),
    )

when_grows : {A : Type 0} (b : Bool) (o p : Option (Changed A)) → GrowsBy 0 o → GrowsBy 0 p
    → GrowsBy 0 (elim b [ true ↦ o | false ↦ p ])
when_grows true o p h g = h
when_grows false o p h g = g

take_out_grows : (path : List Part) (n : ℕ) (gap : Gap) (es : Entries) → GrowsBy 0 (take_out path n gap es)
take_out_grows path n gap none = tt
take_out_grows path n gap (entry name body nested after None none) =
    when_grows (same_path (step n name) path) (Some (taken_only gap name body nested after)) None (omega arith) tt
take_out_grows path n gap (entry name body nested after None (entry name' body' nested' after' comma' rest')) = tt
take_out_grows path n gap (entry name body nested after (Some next_gap) none) =
    when_grows (same_path (step n name) path) (Some (taken_first gap name body nested after next_gap none)) None
    (taken_first_grows gap name body nested after next_gap none) tt
take_out_grows path n gap (entry name body nested after (Some next_gap)
    (entry name' body' nested' after' comma' rest')) =
    when_grows (same_path (step n name) path)
    (Some (taken_first gap name body nested after next_gap (entry name' body' nested' after' comma' rest'))) _
    (taken_first_grows gap name body nested after next_gap (entry name' body' nested' after' comma' rest'))
    (when_grows (is_last_named path (n + 1) (entry name' body' nested' after' comma' rest'))
    (Some (taken_last gap name body nested after next_gap name' body' nested' after')) _
    (taken_last_grows gap name body nested after next_gap name' body' nested' after')
    (grows_within 0 (λ r. record { gap = gap; entries = entry name body nested after (Some r.gap) r.entries })
    (text_of gap ++ (entry_prefix name body nested ++ (text_of after ++ codes ","))) []
    (take_out path (n + 1) next_gap (entry name' body' nested' after' comma' rest'))
    (take_out_grows path (n + 1) next_gap (entry name' body' nested' after' comma' rest'))))

removal_bound : IsBound removal (λ more. 0)
removal_bound = record { grows = λ more v. by more v.body v.nested; falls = λ p more. omega arith }
  where
    by : (more : List Part) (b : Body) (es : Entries) → GrowsBy 0 (removal more (record { body = b; nested = es }))
    by more (scalar w) es = tt
    by more (array first) es =
        grows_within 0 (λ r. record { body = array r.gap; nested = r.entries }) (codes "[") (codes "]")
        (take_out more 0 first es) (take_out_grows more 0 first es)
    by more (inline first) es =
        grows_within 0 (λ r. record { body = inline r.gap; nested = r.entries }) (codes "{") (codes "}")
        (take_out more 0 first es) (take_out_grows more 0 first es)

lines_give : (i n : ℕ) (es : List Ended) (last : Line) → (drop_lines i n es last).new ≡ []
lines_give i n [] last = drop_new n [] last
lines_give zero n (e ∷ es) last = drop_new n (e ∷ es) last
lines_give (suc j) n (e ∷ es) last = lines_give j n es last

lines_grow : (s : Document) (i n : ℕ) → GrowsBy 0 (without_lines s i n)
lines_grow s i n =
    grows_document 0 s (Some (drop_lines i n s.ended s.last))
    (omega (arith, ap (λ (l : List ℕ). length l) (lines_give i n s.ended s.last)))

clear_grows : (path : List Part) (r : Reading) (l : Line) → GrowsBy 0 (clear_line path r l)
clear_grows path r l = clear_cases (λ (o : Option (Changed Line)). GrowsBy 0 o) path r l tt (λ c e own. omega arith)

number_grows : (f : ℕ → Option (Changed Document)) → ((i : ℕ) → GrowsBy 0 (f i)) → (o : Option ℕ)
    → GrowsBy 0 (elim o [ None ↦ None | Some i ↦ f i ])
number_grows f h None = tt
number_grows f h (Some i) = h i

pub remove_grows : (s : Document) (path : List Part) → GrowsBy 0 (change_remove s path)
remove_grows s path =
    grows_or_else 0 _ _ (grows_document 0 s (in_lines (clear_line path) start s.ended s.last)
    (grows_lines 0 (clear_line path) (clear_grows path) start s.ended s.last))
    (grows_or_else 0 _ _ (number_grows (λ i. without_lines s i 1) (λ i. lines_grow s i 1)
    (last_line (λ r l. is_own path r l.content) start (lines s)))
    (grows_or_else 0 _ _ (number_grows (λ i. without_lines s i (suc (body_length (drop (suc i) (lines s)))))
    (λ i. lines_grow s i (suc (body_length (drop (suc i) (lines s))))) (last_line (begins path) start (lines s)))
    (grows_nested removal (λ more. 0) removal_bound path s)))

-- ---- every edit

of_grows : (s : Document) (n : ℕ) (o : Option (Changed Document)) (c : Changed Document) → o ≡ Some c → EachIs text s o
    → GrowsBy n o → length (text c.to) ≤ length (text s) + n
of_grows s n None c e i h = absurd cc
of_grows s n (Some d) c e i h =
    let k : d ≡ c = cc in
    subst (λ (x : Changed Document). length (text x.to) ≤ length (text s) + n) k (longer_text text s n d i h)

pub growth : (profile : Profile) (limit : ℕ) (s : Document) (e : Edit) (c : Changed Document) → IsDocument profile s
    → ObeysRules (marks (mentions_in s)) → refusal profile limit s e ≡ None → change s e ≡ Some c
    → length (text c.to) ≤ length (text s) + given_size e + 12
growth profile limit s (set path v) c valid obeys h k =
    omega (arith, set_growth path v s c (rules_of_document s obeys) k)
growth profile limit s (insert path v) c valid obeys h k =
    omega (
      arith,
      of_grows s (length (encoded_path path) + length (value_text v) + 12) (change s (insert path v)) c k
          (change-is s (insert path v)) (insert_grows profile limit s path v (newline_short profile s valid) h),
    )
growth profile limit s (rename path name) c valid obeys h k =
    omega (
      arith,
      of_grows s (length (key_part name).text) (change s (rename path name)) c k (change-is s (rename path name))
          (rename_grows s path name),
    )
growth profile limit s (remove path) c valid obeys h k =
    omega (arith, of_grows s 0 (change s (remove path)) c k (change-is s (remove path)) (remove_grows s path))
growth profile limit s (append_table keys) c valid obeys h k =
    omega (
      arith,
      of_grows s (length (encoded_path (map key keys)) + 12) (change s (append_table keys)) c k
          (change-is s (append_table keys)) (append_table_grows s keys (newline_short profile s valid)),
    )
growth profile limit s (append_element keys) c valid obeys h k =
    omega (
      arith,
      of_grows s (length (encoded_path (map key keys)) + 12) (change s (append_element keys)) c k
          (change-is s (append_element keys)) (append_element_grows s keys (newline_short profile s valid)),
    )
