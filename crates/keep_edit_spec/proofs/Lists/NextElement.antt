-- A document says nothing of the next element of an array of tables, nor of what is below it, if a header that begins
-- it obeys the rules after the document.
--
-- The element's number is how many elements there are. A header goes past the last element that there is before it,
-- which has a lesser number (`lines_before`, by induction over the lines). As the new header names the array, the rules
-- allow nothing but headers of the array at its path (`all_before`). So all lines are beside the element, and what they
-- begin has lesser numbers; then all that they say is elsewhere (`lines_shift`).
--
-- Theorem: `next_unsaid`.
use Rattle.std.proofs.Common.{◌≡◌, ℕ, ◌-◌, ◌≤◌, Bool, true, false, cond, List, [], ◌∷◌, ◌++◌, map, refl, sym, ap, subst}
use Rattle.std.proofs.Common.{◌∙◌, append_assoc, arith, Option, inl}
use Rattle.std.specs.Prelude.{◌==◌}
use Rattle.keep_syntax.specs.Tree.{Written, Gap, Content, blank, keyval, header, element, Line, Document}
use Rattle.keep_path.specs.Path.{Part, index, key}
use Rattle.keep_meaning.specs.Marks as marks_of
use Rattle.keep_meaning.specs.Marks.{Mention, MentionKind, Reading, begun, below, define, element_header, elements_of}
use Rattle.keep_meaning.specs.Marks.{entered_path, header_path, header_prefixes, passed, passing_mentions, past, start}
use Rattle.keep_meaning.specs.Marks.{statement_mentions, through}
use Rattle.keep_meaning.specs.Meaning.{after_line, keys_of, keyval_mentions, line_mentions, lines, lines_mentions}
use Rattle.keep_meaning.specs.Meaning.{mentions_in, reading_after_lines}
use Rattle.keep_meaning.specs.Nodes.{is_passed}
use Rattle.keep_edit_spec.specs.Refusals.{end_reading, tables_in}
use Rattle.keep_edit_spec.proofs.Append.AppendTable.{tables_stated}
use Rattle.keep_edit_spec.proofs.Common.FromMarksLines.{path_ends}
use Rattle.keep_edit_spec.proofs.Common.LineLaws.{EndsInKey}
use Rattle.keep_edit_spec.proofs.Common.Runs.{AllOf, IsDisjoint, Rules, all_join, all_left, all_map}
use Rattle.keep_edit_spec.proofs.Insert.LinesNamed.{some_elements}
use Rattle.keep_edit_spec.proofs.Remove.KeyvalMentions.{mentioned_below, mentions_keyval}
use Rattle.keep_edit_spec.proofs.Remove.RemoveElement.{IsOfArray, all_before, start_shift}
use Rattle.keep_edit_spec.proofs.Remove.Shift.{element_at, last_same, prefix_same, same_number}
use Rattle.keep_edit_spec.proofs.Remove.ShiftLines.{all_both}
use Rattle.keep_edit_spec.proofs.Remove.ShiftMentioned.{lines_more, lines_shift}
use Rattle.keep_edit_spec.proofs.Remove.ShiftPrefixes.{NotPassed}

-- ---- no header goes past an element that is not there yet

module _ (prefix : List Part) (n : ℕ) where
  -- the last element there has a lesser number
  not_entered : (tables : List (List Part)) (q : List Part) → elements_of prefix tables ≤ n
      → (0 == elements_of q tables) ≡ false → entered_path tables q ≡ element_at prefix n → ⊥
  not_entered tables q few some there =
      let last : ℕ = elements_of q tables - 1 in
      let at : q ++ index last ∷ [] ≡ prefix ++ index n ∷ [] =
      ap (λ (b : Bool). cond b q (q ++ index last ∷ [])) (sym some) ∙ there in
      omega (
        arith,
        few,
        same_number last n (last_same q prefix (index last) (index n) at),
        some_elements (elements_of q tables) some,
        ap (λ (p : List Part). elements_of p tables) (prefix_same q prefix (index last) (index n) at),
      )

  passing_before : (tables : List (List Part)) (q : List Part) → elements_of prefix tables ≤ n → (b : Bool)
      → (0 == elements_of q tables) ≡ b
      → AllOf (NotPassed (element_at prefix n)) (cond b (record { path = q; kind = through } ∷ [])
      (record { path = q; kind = past } ∷ record { path = entered_path tables q; kind = passed } ∷ []))
  passing_before tables q few true e = ((λ there. refl), tt)
  passing_before tables q few false e =
      ((λ there. refl), ((λ there. absurd (not_entered tables q few e there)), tt))

  way_before : (tables : List (List Part)) → elements_of prefix tables ≤ n → (at : List Part) (keys : List (List ℕ))
      → AllOf (NotPassed (element_at prefix n)) (header_prefixes tables at keys)
  way_before tables few at [] = tt
  way_before tables few at (k ∷ []) = tt
  way_before tables few at (k ∷ l ∷ ks) =
      let q : List Part = at ++ key k ∷ [] in
      all_join (NotPassed (element_at prefix n)) (passing_mentions tables q)
      (header_prefixes tables (entered_path tables q) (l ∷ ks))
      (passing_before tables q few (0 == elements_of q tables) refl)
      (way_before tables few (entered_path tables q) (l ∷ ks))

  content_before : (r : Reading) (before after' : Gap) (comment : Option Written) (c : Content)
      → elements_of prefix r.tables ≤ n
      → AllOf (NotPassed (element_at prefix n))
      (line_mentions r (record { before = before; content = c; after = after'; comment = comment }))
  content_before r before after' comment blank few = tt
  content_before r before after' comment (keyval name v) few =
      all_map (λ (m : Mention). is_passed m.kind ≡ false) (NotPassed (element_at prefix n)) (λ m none there. none)
      (map (below r.body) (keyval_mentions name v))
      (mentioned_below (λ (a : MentionKind). is_passed a ≡ false) r.body (keyval_mentions name v)
      (mentions_keyval (λ (a : MentionKind). is_passed a ≡ false)
      (record { dot = refl; held = λ f. refl; unnamed = λ f. refl }) name v))
  content_before r before after' comment (header b k a) few =
      all_join (NotPassed (element_at prefix n)) (header_prefixes r.tables [] (keys_of k))
      (record { path = header_path r.tables [] (keys_of k); kind = define } ∷ [])
      (way_before r.tables few [] (keys_of k)) ((λ there. refl), tt)
  content_before r before after' comment (element b k a) few =
      let at : List Part = header_path r.tables [] (keys_of k) in
      all_join (NotPassed (element_at prefix n)) (header_prefixes r.tables [] (keys_of k))
      (record { path = at; kind = marks_of.element }
      ∷ record { path = at ++ index (elements_of at r.tables) ∷ []; kind = begun } ∷ [])
      (way_before r.tables few [] (keys_of k)) ((λ there. refl), ((λ there. refl), tt))

  lines_before : (r : Reading) (ls : List Line) → elements_of prefix (reading_after_lines r ls).tables ≤ n
      → AllOf (NotPassed (element_at prefix n)) (lines_mentions r ls)
  lines_before r [] few = tt
  lines_before r (l ∷ ls) few =
      all_join (NotPassed (element_at prefix n)) (line_mentions r l) (lines_mentions (after_line r l) ls)
      (content_before r l.before l.after l.comment l.content (omega (arith, few, lines_more prefix r (l ∷ ls))))
      (lines_before (after_line r l) ls few)

-- ---- all that is said is elsewhere

pub next_unsaid : (s : Document) (k : List ℕ) (ks : List (List ℕ))
    → (let tables : List (List Part) = tables_in (mentions_in s) in
    let array : List Part = header_path tables [] (k ∷ ks) in
    Rules (mentions_in s ++ statement_mentions (end_reading (mentions_in s)) (element_header (k ∷ ks)))
    → AllOf (IsDisjoint (element_at array (elements_of array tables))) (mentions_in s))
next_unsaid s k ks rules =
    let ms : List Mention = mentions_in s in
    let tables : List (List Part) = tables_in ms in
    let array : List Part = header_path tables [] (k ∷ ks) in
    let n : ℕ = elements_of array tables in
    let ends : EndsInKey array = path_ends tables [] k ks in
    let way : List Mention = header_prefixes tables [] (k ∷ ks) in
    let top : Mention = record { path = array; kind = marks_of.element } in
    let new : Mention = record { path = element_at array n; kind = begun } in
    let of_array : AllOf (IsOfArray array) ms =
    all_left (IsOfArray array) ms way
    (all_before array (ms ++ way) (new ∷ []) (subst Rules (sym (append_assoc ms way (top ∷ new ∷ []))) rules)) in
    let stated : elements_of array (reading_after_lines start (lines s)).tables ≡ n =
    ap (elements_of array) (tables_stated start (lines s)) in
    let not_passed : AllOf (NotPassed (element_at array n)) ms =
    lines_before array n start (lines s) (omega (arith, stated)) in
    (lines_shift array ends n start start (lines s) (start_shift array ends n)
    (all_both (IsOfArray array) (NotPassed (element_at array n)) ms of_array not_passed)
    (inl (omega (arith, stated)))).preserved
