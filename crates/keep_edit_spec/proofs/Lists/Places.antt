-- What an insert that adds a line writes, and where: the place of a line, and the moved place once there is one more.
--
-- An insert at the end of a body puts a line in before line n, so its place is the length of the lines before it
-- (`put_here`). More lines before line n leave the lines before line i as they are if i comes before n, and else make
-- them longer by those lines (`later_width`). A line has at least one byte, so their lengths are in the order of
-- their numbers (`width_grows`, `width_stays`). The newline is the document's first, so it is the same if the new value
-- has none in it, or if a line comes before the new one.
--
-- Theorems: `place_is`, `edited_is`, `at_is`, `line_is`, `newline_stays`; `put_place`, `put_document`, `newline_by`,
-- `line_moves`: of any change that puts in a keyval; `puts_place`, `puts_document`, `lines_stay`, `lines_move`: of one
-- that puts in lines; `earlier`, `later_width`: the lines before one then; `scalar_quiet`: a scalar has no newline in
-- it; `item_none`.
use Rattle.std.proofs.Common.{◌≡◌, ℕ, zero, suc, ◌+◌, ◌-◌, ◌<◌, ◌≤◌, Bool, true, false, cond, List, [], ◌∷◌, ◌++◌}
use Rattle.std.proofs.Common.{length, take, drop, refl, sym, ap, subst, ◌∙◌, append_assoc, length-append, arith}
use Rattle.std.proofs.Common.{Option, Some, None, inl, inr, map}
use Rattle.std.specs.Prelude.{codes, IsTrue, nat_lt, if◌then◌else◌, ◌⊎◌}
use Rattle.std.specs.List.{AllByRecursion, flat_map}
use Rattle.std.proofs.lemmas.Bool.{lt-ltb, le-ltb, ltb-true, ltb-false}
use Rattle.std.proofs.lemmas.List.{append-nil}
use Rattle.keep_types.specs.declared.leaf.Profile.{Profile}
use Rattle.keep_types.specs.declared.leaf.Leaf.{Leaf}
use Rattle.keep_types.specs.declared.leaf.Leaf.TheVariants as leaf
use Rattle.keep_syntax.specs.Tree.{Written, Name, Value, Content, Line, Ended, Document, keyval, bom_leaves}
use Rattle.keep_syntax.specs.Tree.{ended_leaves, further_leaves, leaves}
use Rattle.keep_syntax.specs.Tree.{line_leaves, name_leaves, text_of, token, value_leaves, scalar, Entries, none, entry}
use Rattle.keep_syntax.specs.Grammar.{IsEnded, IsValue}
use Rattle.keep_path.specs.Path.{EndsInKey, Part, key, last_part}
use Rattle.keep_token.specs.Leaves.{is_scalar_leaf}
use Rattle.keep_token.specs.Encoded.{encoded_key, is_bare_text}
use Rattle.keep_meaning.specs.Marks.{Mention}
use Rattle.keep_meaning.specs.Meaning.{mentions_in}
use Rattle.keep_edit_spec.specs.Changed.{Changed, Place, place_of}
use Rattle.keep_edit_spec.specs.Edits.{Edit, at_line, change, changed_or_same, edited_document, end_of, further_part}
use Rattle.keep_edit_spec.specs.Edits.{insert, key_part, name_with, new_keyval, place}
use Rattle.keep_edit_spec.specs.Insertion.{put_in}
use Rattle.keep_edit_spec.specs.Laws.{IsEditable}
use Rattle.keep_edit_spec.specs.Lines.{Page, ended_text, first_newline, new_line, newline_of, put_lines}
use Rattle.keep_edit_spec.specs.Look.{holder, item_number}
use Rattle.keep_edit_spec.specs.Values.{space}
use Rattle.keep_edit_spec.proofs.Common.LineEnds.{ended_ends}
use Rattle.keep_edit_spec.proofs.Common.NewLines.{newline_is}
use Rattle.keep_edit_spec.proofs.Common.Texts.{text_of-append}
use Rattle.keep_edit_spec.proofs.Insert.InsertLine.{change_here}
use Rattle.keep_edit_spec.proofs.Insert.NewPath.{drop_prefix_parts, ends_in_key, keys_of_map}
use Rattle.keep_edit_spec.specs.AddedLines.{AddsLine}
use Rattle.keep_edit_spec.specs.TextChanges.{TextChange, moved_by}

-- where the line of that number is once there is one more before line n
abbrev pub later_line : ℕ → ℕ → ℕ
later_line n i = if nat_lt i n then i else suc i

-- a path that ends in keys is of no item
pub item_none : (path a : List Part) (text : List ℕ) (more : List (List ℕ)) → path ≡ a ++ map key (text ∷ more)
    → (ms : List Mention) → item_number path ms ≡ None
item_none path a text more new ms =
    let last : EndsInKey (a ++ map key (text ∷ more)) = ends_in_key a text more in
    rw (ap last_part new ∙ last.1, item_number) refl

-- ---- lines put in before the last

record IsPutHere (n : ℕ) (more : List Ended) (newline : Written) (es : List Ended) (last : Line) : Type 0 where
  to : (put_lines n more newline es last).to ≡ record { ended = take n es ++ (more ++ drop n es); last = last }
  before : (put_lines n more newline es last).before ≡ ended_text (take n es)
  old : (put_lines n more newline es last).old ≡ []
  new : (put_lines n more newline es last).new ≡ ended_text more

put_here : (n : ℕ) (more : List Ended) (newline : Written) (es : List Ended) (last : Line) → n ≤ length es
    → IsPutHere n more newline es last
put_here zero more newline [] last h = record {
  to = ap (λ (l : List Ended). record { ended = l; last = last }) (sym (append-nil more));
  before = refl;
  old = refl;
  new = refl;
}
put_here (suc m) more newline [] last h = absurd (omega (arith, h))
put_here zero more newline (e ∷ es) last h = record { to = refl; before = refl; old = refl; new = refl }
put_here (suc m) more newline (e ∷ es) last h =
    let p : IsPutHere m more newline es last = put_here m more newline es last (omega (arith, h)) in
    record {
      to = ap (λ (b : Page). record { ended = e ∷ b.ended; last = b.last }) p.to;
      before = ap (λ (t : List ℕ). text_of (ended_leaves e) ++ t) p.before
          ∙ sym (text_of-append (ended_leaves e) (flat_map ended_leaves (take m es)));
      old = p.old;
      new = p.new;
    }

-- ---- what a change writes that puts in lines

abbrev pub with_lines_before : ℕ → List Ended → Document → Document
with_lines_before n xs s = record { bom = s.bom; ended = take n s.ended ++ (xs ++ drop n s.ended); last = s.last }

abbrev pub with_line_before : ℕ → Ended → Document → Document
with_line_before n x s = with_lines_before n (x ∷ []) s

module _ (s : Document) (e : Edit) (contents : List Content) (n : ℕ)
    (changed : change s e ≡ at_line s n contents) (few : n ≤ length s.ended) where
  abbrev new_lines : List Ended
  new_lines = map (new_line (newline_of s)) contents

  here : IsPutHere n new_lines (newline_of s) s.ended s.last
  here = put_here n new_lines (newline_of s) s.ended s.last few

  abbrev placed : List ℕ → List ℕ → List ℕ → Place
  placed b o w =
      let at : ℕ = length (text_of (bom_leaves s.bom) ++ b) in record { start = at; end = at + length o; new = w }

  pub puts_place : place s e
      ≡ put_in (length (text_of (bom_leaves s.bom) ++ ended_text (take n s.ended))) (ended_text new_lines)
  puts_place =
      let bom : List ℕ = text_of (bom_leaves s.bom) in
      let at : ℕ = length (bom ++ ended_text (take n s.ended)) in
      ap (λ (c : Option (Changed Document)). place_of (changed_or_same s c)) changed
      ∙ ap (λ (b : List ℕ). placed b (put_lines n new_lines (newline_of s) s.ended s.last).old
      (put_lines n new_lines (newline_of s) s.ended s.last).new) here.before
      ∙ ap (λ (o : List ℕ). placed (ended_text (take n s.ended)) o
      (put_lines n new_lines (newline_of s) s.ended s.last).new) here.old
      ∙ ap (placed (ended_text (take n s.ended)) []) here.new
      ∙ ap (λ (z : ℕ). record { start = at; end = z; new = ended_text new_lines }) (omega arith)

  pub puts_document : edited_document s e ≡ with_lines_before n new_lines s
  puts_document =
      ap (λ (c : Option (Changed Document)). (changed_or_same s c).to) changed
      ∙ ap (λ (b : Page). record { bom = s.bom; ended = b.ended; last = b.last }) here.to

-- ---- what a change writes that puts in a keyval

pub one_text : (x : Ended) → ended_text (x ∷ []) ≡ text_of (ended_leaves x)
one_text x = ap text_of (append-nil (ended_leaves x))

module _ (s : Document) (e : Edit) (name : Name) (value : Value) (n : ℕ)
    (changed : change s e ≡ at_line s n (keyval name value ∷ [])) (few : n ≤ length s.ended) where
  abbrev line : Ended
  line = new_line (newline_of s) (keyval name value)

  pub put_place : place s e
      ≡ put_in (length (text_of (bom_leaves s.bom) ++ ended_text (take n s.ended))) (text_of (ended_leaves line))
  put_place =
      puts_place s e (keyval name value ∷ []) n changed few
      ∙ ap (put_in (length (text_of (bom_leaves s.bom) ++ ended_text (take n s.ended)))) (one_text line)

  pub put_document : edited_document s e ≡ with_line_before n line s
  put_document = puts_document s e (keyval name value ∷ []) n changed few

-- ---- what an insert at the end of a body writes

module _ (s : Document) (path : List Part) (value : Value) (text : List ℕ) (more : List (List ℕ)) (n : ℕ)
    (no_item : item_number path (mentions_in s) ≡ None)
    (new : path ≡ holder path (mentions_in s) ++ map key (text ∷ more))
    (ends : end_of s (holder path (mentions_in s)) ≡ Some n) (few : n ≤ length s.ended) where
  pub changes : change s (insert path value) ≡ at_line s n (keyval (name_with (text ∷ more)) value ∷ [])
  changes = change_here s path value n no_item ends
      ∙ ap (λ (ps : List Part). at_line s n (new_keyval ps value ∷ []))
      (ap (drop (length (holder path (mentions_in s)))) new
      ∙ drop_prefix_parts (holder path (mentions_in s)) (map key (text ∷ more)))
      ∙ ap (λ (ks : List (List ℕ)). at_line s n (keyval (name_with ks) value ∷ [])) (keys_of_map (text ∷ more))

  pub place_is : place s (insert path value)
      ≡ put_in (length (text_of (bom_leaves s.bom) ++ ended_text (take n s.ended)))
      (text_of (ended_leaves (new_line (newline_of s) (keyval (name_with (text ∷ more)) value))))
  place_is = put_place s (insert path value) (name_with (text ∷ more)) value n changes few

  pub put_is : edited_document s (insert path value)
      ≡ with_line_before n (new_line (newline_of s) (keyval (name_with (text ∷ more)) value)) s
  put_is = put_document s (insert path value) (name_with (text ∷ more)) value n changes few

-- ---- the lengths of the lines before one

abbrev pub size : Ended → ℕ
size e = length (text_of (ended_leaves e))

abbrev pub width : List Ended → ℕ
width es = length (ended_text es)

pub width_more : (e : Ended) (es : List Ended) → width (e ∷ es) ≡ size e + width es
width_more e es =
    ap (λ (t : List ℕ). length t) (text_of-append (ended_leaves e) (flat_map ended_leaves es))
    ∙ length-append (text_of (ended_leaves e)) (ended_text es)

take_none : (es : List Ended) → take 0 es ≡ []
take_none [] = refl
take_none (e ∷ es) = refl

drop_none : (es : List Ended) → drop 0 es ≡ es
drop_none [] = refl
drop_none (e ∷ es) = refl

-- the lines before line i, with more before line n
pub earlier : (n i : ℕ) (xs es : List Ended) → i ≤ n → n ≤ length es
    → take i (take n es ++ (xs ++ drop n es)) ≡ take i es
earlier zero zero xs es h few = take_none (take 0 es ++ (xs ++ drop 0 es)) ∙ sym (take_none es)
earlier zero (suc i) xs es h few = absurd (omega (arith, h))
earlier (suc n) i xs [] h few = absurd (omega (arith, few))
earlier (suc n) zero xs (e ∷ es) h few = refl
earlier (suc n) (suc i) xs (e ∷ es) h few =
    ap (λ (l : List Ended). e ∷ l) (earlier n i xs es (omega (arith, h)) (omega (arith, few)))

past_width : (i : ℕ) (xs es : List Ended) → width (take (length xs + i) (xs ++ es)) ≡ width (take i es) + width xs
past_width i [] es = omega (arith, ap (λ (k : ℕ). width (take k es)) (let same : 0 + i ≡ i = omega arith in same))
past_width i (x ∷ xs) es =
    let next : suc (length xs) + i ≡ suc (length xs + i) = omega arith in
    ap (λ (k : ℕ). width (take k (x ∷ (xs ++ es)))) next
    ∙ omega (
      arith,
      width_more x (take (length xs + i) (xs ++ es)),
      width_more x xs,
      past_width i xs es,
    )

pub later_width : (n i : ℕ) (xs es : List Ended) → n ≤ i → i ≤ length es
    → width (take (length xs + i) (take n es ++ (xs ++ drop n es))) ≡ width (take i es) + width xs
later_width zero i xs es h few =
    ap (λ (l : List Ended). width (take (length xs + i) (l ++ (xs ++ drop 0 es)))) (take_none es)
    ∙ ap (λ (l : List Ended). width (take (length xs + i) (xs ++ l))) (drop_none es)
    ∙ past_width i xs es
later_width (suc n) zero xs es h few = absurd (omega (arith, h))
later_width (suc n) (suc i) xs [] h few = absurd (omega (arith, few))
later_width (suc n) (suc i) xs (e ∷ es) h few =
    let next : length xs + suc i ≡ suc (length xs + i) = omega arith in
    ap (λ (k : ℕ). width (take k (e ∷ (take n es ++ (xs ++ drop n es))))) next
    ∙ omega (
      arith,
      width_more e (take (length xs + i) (take n es ++ (xs ++ drop n es))),
      width_more e (take i es),
      later_width n i xs es (omega (arith, h)) (omega (arith, few)),
    )

-- Each line has bytes, so more lines are longer.
module _ (profile : Profile) where
  pub width_grows : (n i : ℕ) (es : List Ended) → AllByRecursion (IsEnded profile) es → i < n → n ≤ length es
      → width (take i es) < width (take n es)
  width_grows zero i es valid h few = absurd (omega (arith, h))
  width_grows (suc n) i [] valid h few = absurd (omega (arith, few))
  width_grows (suc n) zero (e ∷ es) valid h few =
      omega (arith, width_more e (take n es), (ended_ends profile e valid.0).0)
  width_grows (suc n) (suc i) (e ∷ es) valid h few =
      let less : width (take i es) < width (take n es) =
      width_grows n i es valid.1 (omega (arith, h)) (omega (arith, few)) in
      omega (arith, width_more e (take n es), width_more e (take i es), less)

pub width_stays : (n i : ℕ) (es : List Ended) → n ≤ i → width (take n es) ≤ width (take i es)
width_stays zero i es h = omega (arith, ap width (take_none es))
width_stays (suc n) zero es h = absurd (omega (arith, h))
width_stays (suc n) (suc i) [] h = omega arith
width_stays (suc n) (suc i) (e ∷ es) h =
    omega (arith, width_more e (take n es), width_more e (take i es), width_stays n i es (omega (arith, h)))

-- ---- the place of a line once there are more before line n

module _ (profile : Profile) (bom : List ℕ) (es : List Ended) (valid : AllByRecursion (IsEnded profile) es) (n k : ℕ)
    (xs : List Ended) (l m : TextChange) (closed : n ≤ length es) (few : k ≤ length es) (adds : l.size ≡ 0)
    (line : l.new ≡ ended_text xs) (at : l.at ≡ length bom + width (take n es))
    (m_at : m.at ≡ length bom + width (take k es)) where
  abbrev before : ℕ → List Ended
  before j = take j (take n es ++ (xs ++ drop n es))

  pub lines_stay : k < n → length (bom ++ ended_text (before k)) ≡ moved_by l m.at
  lines_stay less =
      let earlier_at : nat_lt m.at l.at ≡ true =
      lt-ltb m.at l.at (omega (arith, at, m_at, width_grows profile n k es valid less closed)) in
      length-append bom (ended_text (before k))
      ∙ ap (λ (fs : List Ended). length bom + width fs) (earlier n k xs es (omega (arith, less)) closed)
      ∙ sym m_at
      ∙ ap (λ (b : Bool). cond b m.at ((m.at + length l.new) - l.size)) (sym earlier_at)

  pub lines_move : n ≤ k → length (bom ++ ended_text (before (length xs + k))) ≡ moved_by l m.at
  lines_move past =
      let later_at : nat_lt m.at l.at ≡ false =
      le-ltb m.at l.at (omega (arith, at, m_at, width_stays n k es past)) in
      let long : length (bom ++ ended_text (before (length xs + k))) ≡ (m.at + length l.new) - l.size =
      omega (
        arith,
        length-append bom (ended_text (before (length xs + k))),
        later_width n k xs es past few,
        m_at,
        ap (λ (t : List ℕ). length t) line,
        adds,
      ) in
      long ∙ ap (λ (b : Bool). cond b m.at ((m.at + length l.new) - l.size)) (sym later_at)

-- one line more
module _ (profile : Profile) (bom : List ℕ) (es : List Ended) (valid : AllByRecursion (IsEnded profile) es) (n k : ℕ)
    (x : Ended) (l m : TextChange) (closed : n ≤ length es) (few : k ≤ length es) (adds : l.size ≡ 0)
    (line : l.new ≡ text_of (ended_leaves x)) (at : l.at ≡ length bom + width (take n es))
    (m_at : m.at ≡ length bom + width (take k es)) where
  abbrev with_line : ℕ → List Ended
  with_line j = take j (take n es ++ x ∷ drop n es)

  one_line : l.new ≡ ended_text (x ∷ [])
  one_line = line ∙ sym (one_text x)

  moves_by : (b : Bool) → nat_lt k n ≡ b
      → length (bom ++ ended_text (with_line (cond b k (suc k)))) ≡ moved_by l m.at
  moves_by true e = lines_stay profile bom es valid n k (x ∷ []) l m closed few adds one_line at m_at (ltb-true k n e)
  moves_by false e =
      let next : suc k ≡ 1 + k = omega arith in
      ap (λ (j : ℕ). length (bom ++ ended_text (with_line j))) next
      ∙ lines_move profile bom es valid n k (x ∷ []) l m closed few adds one_line at m_at (ltb-false k n e)

  pub line_moves : length (bom ++ ended_text (with_line (later_line n k))) ≡ moved_by l m.at
  line_moves = moves_by (nat_lt k n) refl

-- ---- the newline

-- what comes after a newline does not matter
pub up_to_newline : (ws : List Written) (w : Written) (more others : List Written) → w.leaf ≡ leaf.Newline
    → first_newline (ws ++ w ∷ more) ≡ first_newline (ws ++ w ∷ others)
up_to_newline [] w more others h =
    subst (λ (l : Leaf). elim l [ leaf.Newline ↦ Some w | _ ↦ first_newline more ]
    ≡ elim l [ leaf.Newline ↦ Some w | _ ↦ first_newline others ]) (sym h) refl
up_to_newline (v ∷ ws) w more others h =
    ap (λ (o : Option Written). elim v.leaf [ leaf.Newline ↦ Some v | _ ↦ o ]) (up_to_newline ws w more others h)

abbrev newline_or : Written → Option Written → Leaf → Option Written
newline_or w rest l = elim l [ leaf.Newline ↦ Some w | _ ↦ rest ]

none_before : (ws more : List Written) → first_newline ws ≡ None → first_newline (ws ++ more) ≡ first_newline more
none_before [] more h = refl
none_before (w ∷ ws) more h = by w.leaf h (none_before ws more)
  where
    by : (l : Leaf) → newline_or w (first_newline ws) l ≡ None
        → (first_newline ws ≡ None → first_newline (ws ++ more) ≡ first_newline more)
        → newline_or w (first_newline (ws ++ more)) l ≡ first_newline more
    by leaf.Newline k rest = absurd cc
    by _ k rest = rest k

at_newline : (ws : List Written) (w : Written) (more : List Written) → w.leaf ≡ leaf.Newline → first_newline ws ≡ None
    → first_newline (ws ++ w ∷ more) ≡ Some w
at_newline ws w more h quiet =
    none_before ws (w ∷ more) quiet
    ∙ ap (λ (l : Leaf). elim l [ leaf.Newline ↦ Some w | _ ↦ first_newline more ]) h

bom_none : (b : Bool) → first_newline (bom_leaves b) ≡ None
bom_none true = refl
bom_none false = refl

key_none : (text : List ℕ) (ws : List Written) → first_newline (key_part text ∷ ws) ≡ first_newline ws
key_none text ws = by (is_bare_text text)
  where
    by : (b : Bool)
        → first_newline (record { leaf = cond b leaf.BareKey leaf.Basic; text = encoded_key text } ∷ ws)
        ≡ first_newline ws
    by true = refl
    by false = refl

further_none : (ks : List (List ℕ)) (ws : List Written)
    → first_newline (flat_map further_leaves (map further_part ks) ++ ws) ≡ first_newline ws
further_none [] ws = refl
further_none (k ∷ ks) ws =
    key_none k (flat_map further_leaves (map further_part ks) ++ ws) ∙ further_none ks ws

name_none : (text : List ℕ) (more : List (List ℕ)) → first_newline (name_leaves (name_with (text ∷ more))) ≡ None
name_none text more =
    let equals : List Written = space ++ (token leaf.Equals (0x3D ∷ []) ++ space) in
    key_none text (flat_map further_leaves (map further_part more) ++ equals) ∙ further_none more equals

-- A scalar has none.
pub scalar_quiet : (profile : Profile) (w : Written) (nested : Entries)
    → IsValue profile (record { body = scalar w; nested = nested })
    → first_newline (value_leaves (record { body = scalar w; nested = nested })) ≡ None
scalar_quiet profile w none h = by w.leaf h.body.0
  where
    by : (l : Leaf) → IsTrue (is_scalar_leaf l) → newline_or w None l ≡ None
    by leaf.Newline k = absurd (let z : false ≡ true = k in cc)
    by _ k = refl
scalar_quiet profile w (entry None body nested after comma rest) h = absurd h.nested.0
scalar_quiet profile w (entry (Some n) body nested after comma rest) h = absurd h.nested.0

-- the leaves of a document that has an ended line, up to that line's newline
pub first_line : (bom : Bool) (e : Ended) (es : List Ended) (last : Line)
    → leaves (record { bom = bom; ended = e ∷ es; last = last })
    ≡ (bom_leaves bom ++ line_leaves e.line) ++ e.newline ∷ (flat_map ended_leaves es
    ++ (line_leaves last ++ token leaf.End []))
first_line bom e es last = simp append_assoc refl

abbrev pub or_line_feed : Option Written → Written
or_line_feed o = elim o [ Some w ↦ w | None ↦ record { leaf = leaf.Newline; text = codes "\n" } ]

module _ (profile : Profile) (bom : Bool) (last : Line) (x : Ended) where
  pub newline_by : (n : ℕ) (es : List Ended)
      → (let s : Document = record { bom = bom; ended = es; last = last } in
      AllByRecursion (IsEnded profile) es → n ≤ length es → x.newline ≡ newline_of s
      → x.newline.leaf ≡ leaf.Newline → (first_newline (line_leaves x.line) ≡ None) ⊎ (0 < n)
      → newline_of (with_line_before n x s) ≡ newline_of s)
  newline_by zero es valid few same kind (inl quiet) =
      let rest : List Written = flat_map ended_leaves es ++ (line_leaves last ++ token leaf.End []) in
      ap (λ (l : List Ended). newline_of (record { bom = bom; ended = l ++ x ∷ drop 0 es; last = last })) (take_none es)
      ∙ ap (λ (l : List Ended). newline_of (record { bom = bom; ended = x ∷ l; last = last })) (drop_none es)
      ∙ ap (λ (ws : List Written). or_line_feed (first_newline ws)) (first_line bom x es last)
      ∙ ap or_line_feed (at_newline (bom_leaves bom ++ line_leaves x.line) x.newline rest kind
      (none_before (bom_leaves bom) (line_leaves x.line) (bom_none bom) ∙ quiet))
      ∙ same
  newline_by zero es valid few same kind (inr past) = absurd (omega (arith, past))
  newline_by (suc n) [] valid few same kind first = absurd (omega (arith, few))
  newline_by (suc n) (e ∷ es) valid few same kind first =
      let rest : List Ended → List Written =
      λ l. flat_map ended_leaves l ++ (line_leaves last ++ token leaf.End []) in
      ap (λ (ws : List Written). or_line_feed (first_newline ws)) (first_line bom e (take n es ++ x ∷ drop n es) last)
      ∙ ap or_line_feed (up_to_newline (bom_leaves bom ++ line_leaves e.line) e.newline
      (rest (take n es ++ x ∷ drop n es)) (rest es) valid.0.kind)
      ∙ ap (λ (ws : List Written). or_line_feed (first_newline ws)) (sym (first_line bom e es last))

-- ---- after an insert that adds a line

module _ (profile : Profile) (limit : ℕ) (s : Document) (path : List Part) (value : Value) (l : TextChange)
    (h : AddsLine profile limit s path value l) where
  abbrev added : Ended
  added = new_line (newline_of s) (keyval (name_with (h.text ∷ h.more)) value)

  no_item : item_number path (mentions_in s) ≡ None
  no_item = item_none path (holder path (mentions_in s)) h.text h.more h.new (mentions_in s)

  pub edited_is : edited_document s (insert path value) ≡ with_line_before h.number added s
  edited_is = put_is s path value h.text h.more h.number no_item h.new h.ends h.closed

  placed_at : place s (insert path value) ≡ put_in
      (length (text_of (bom_leaves s.bom) ++ ended_text (take h.number s.ended))) (text_of (ended_leaves added))
  placed_at = place_is s path value h.text h.more h.number no_item h.new h.ends h.closed

  pub at_is : l.at ≡ length (text_of (bom_leaves s.bom)) + width (take h.number s.ended)
  at_is = ap (λ (p : Place). p.start) (sym h.is ∙ placed_at)
      ∙ length-append (text_of (bom_leaves s.bom)) (ended_text (take h.number s.ended))

  pub line_is : l.new ≡ text_of (ended_leaves added)
  line_is = ap (λ (p : Place). p.new) (sym h.is ∙ placed_at)

  pub newline_stays : IsEditable profile limit s → (first_newline (value_leaves value) ≡ None) ⊎ (0 < h.number)
      → newline_of (edited_document s (insert path value)) ≡ newline_of s
  newline_stays fine quiet =
      ap newline_of edited_is
      ∙ newline_by profile s.bom s.last added h.number s.ended fine.valid.ended h.closed refl
      (newline_is profile s fine.valid).kind (by quiet)
    where
      by : (first_newline (value_leaves value) ≡ None) ⊎ (0 < h.number)
          → (first_newline (line_leaves added.line) ≡ None) ⊎ (0 < h.number)
      by (inl clear) =
          let name : List Written = name_leaves (name_with (h.text ∷ h.more)) in
          inl (ap first_newline (append-nil (name ++ value_leaves value))
          ∙ none_before name (value_leaves value) (name_none h.text h.more) ∙ clear)
      by (inr past) = inr past
