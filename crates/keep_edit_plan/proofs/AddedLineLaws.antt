-- The line that an insert adds which is not refused, at the end of a body where the text is not open.
--
-- The path is the holder of the body and the keys that are new. The edit puts the keyval before the line at which the
-- body ends. If that came after the last line, the edit would put a newline first (`past_new`), and so more bytes than
-- were written where the text is not open: a newline has bytes (`newline_some`). If it came before the first line, it
-- would be put where the lines start.
--
-- Theorems: `line_is_added`; `at_boundary`: it comes between characters; `not_past`, `not_past_last`.
use Rattle.std.proofs.Common.{◌≡◌, ◌⊎◌, ℕ, zero, suc, ◌-◌, ◌<◌, ◌≤◌, Bool, true, false, not, cond, List, [], ◌∷◌}
use Rattle.std.proofs.Common.{◌++◌, length, take, drop, refl, sym, ap, subst, ◌∙◌, arith, append_assoc, length-append}
use Rattle.std.proofs.Common.{Option, Some, None, Result, Ok, Err, OnOk, inl, inr, map, ◌≢◌}
use Rattle.std.specs.Prelude.{IsCharBoundary, is_some}
use Rattle.std.specs.List.{flat_map}
use Rattle.std.specs.Result.{result_ok}
use Rattle.std.proofs.lemmas.Bool.{cases_lt}
use Rattle.std.proofs.lemmas.List.{append-nil}
use Rattle.keep_types.specs.declared.leaf.Leaf.{Leaf}
use Rattle.keep_types.specs.declared.leaf.Leaf.TheVariants as leaf
use Rattle.keep_types.specs.declared.leaf.Profile.{Profile}
use Rattle.keep_syntax.specs.declared.syntax.Syntax.{Syntax}
use Rattle.keep_syntax.specs.Grammar.{IsDocument}
use Rattle.keep_syntax.specs.Tree.{Written, Value, Document, Content, Line, Ended, keyval, leaves, token, bom_leaves}
use Rattle.keep_syntax.specs.Tree.{ended_leaves, line_leaves, text, text_of, value_depth}
use Rattle.keep_syntax.proofs.Shared.{AreSome, document_some}
use Rattle.keep_path.specs.NodeInfos.{NodeInfos}
use Rattle.keep_path.specs.Path.{Part, AreUtf8, key}
use Rattle.keep_meaning.specs.Meaning.{mentions_in}
use Rattle.keep_edit_spec.specs.declared.fault.EditFault.{EditFault}
use Rattle.keep_edit_spec.specs.Changed.{Changed, Place, place_of}
use Rattle.keep_edit_spec.specs.Edits.{at_line, change, change_insert, changed_or_same, end_of, insert, insert_line}
use Rattle.keep_edit_spec.specs.Edits.{name_with, new_keyval, place}
use Rattle.keep_edit_spec.specs.Insertion.{is_open, missing_newline, put_in}
use Rattle.keep_edit_spec.specs.Lines.{ended_text, first_newline, new_line, newline_of}
use Rattle.keep_edit_spec.specs.Lines.{put_lines}
use Rattle.keep_edit_spec.specs.Look.{holder, item_number, keys_in}
use Rattle.keep_edit_spec.proofs.Shared.{IsNewPath, header_ends, new_line_text, new_path, place_is, root_ends}
use Rattle.keep_edit_spec.specs.AddedLines.{AddsLine}
use Rattle.keep_edit_spec.specs.TextChanges.{change_at}
use Rattle.keep_edit_plan.specs.Inserting.{IsInsertionOf, IsKeyvalSpot, lines_start, new_line_at}
use Rattle.keep_edit_plan.specs.PutLines.{body_end_of}
use Rattle.keep_edit_plan.specs.Reading.{limit, ProfiledText, Holds, IsTextOfTree, IsTextOfValue}
use Rattle.keep_edit_plan.specs.declared.insert.Insertion.{Insertion}
use Rattle.keep_edit_plan.specs.declared.insert.Spot.TheVariants.{AfterBody}
use Rattle.keep_edit_plan.proofs.InsertedLaws.{body_put, body_there, keyval_only}
use Rattle.keep_edit_plan.proofs.KeysLaws.{keys_utf8}
use Rattle.keep_edit_plan.proofs.LineChangeLaws.{body_spot}

-- ---- of what is known of the answers on the way

pub insertion_there : (profile : Profile) (path : List Part) (v : Value) (s : Document) (i : Insertion)
    (result : Result Insertion EditFault) → Some i ≡ result_ok result → IsInsertionOf profile path v s result
    → IsInsertionOf profile path v s (Ok i)
insertion_there profile path v s i (Ok j) e there =
    let same : j ≡ i = cc in subst (λ (k : Insertion). IsInsertionOf profile path v s (Ok k)) same there
insertion_there profile path v s i (Err f) e there = absurd cc

pub done : {E : Type 0} (P : Type 0) (result : Result (Unit {0}) E) (u : Unit {0}) → Some u ≡ result_ok result
    → OnOk result P → P
done P (Ok w) u e h = h
done P (Err f) u e h = absurd cc

pub headed : (header : Option ℕ) (b : Bool) → is_some header ≡ not b → b ≡ false → header ≡ None → ⊥
headed (Some n) b is e h = absurd cc
headed None b is e h = let some : false ≡ true = is ∙ ap not e in absurd cc

-- ---- a document's newline has bytes

abbrev or_line_feed : Option Written → Written
or_line_feed o = elim o [ Some w ↦ w | None ↦ record { leaf = leaf.Newline; text = 0x0A ∷ [] } ]

some_by : (w : Written) (o : Option Written) (l : Leaf) → 0 < length w.text → 0 < length (or_line_feed o).text
    → 0 < length (or_line_feed (elim l [ leaf.Newline ↦ Some w | _ ↦ o ])).text
some_by w o leaf.Newline here later = here
some_by w o _ here later = later

first_some : (ws : List Written) → AreSome ws
    → 0 < length (or_line_feed (first_newline (ws ++ token leaf.End []))).text
first_some [] all = omega arith
first_some (w ∷ ws) all = some_by w (first_newline (ws ++ token leaf.End [])) w.leaf all.0.0 (first_some ws all.1)

newline_some : (profile : Profile) (s : Document) → IsDocument profile s → 0 < length (newline_of s).text
newline_some profile s valid =
    let inner : List Written = bom_leaves s.bom ++ (flat_map ended_leaves s.ended ++ line_leaves s.last) in
    let all : leaves s ≡ inner ++ token leaf.End [] =
    tidy (bom_leaves s.bom) (flat_map ended_leaves s.ended) (line_leaves s.last) (token leaf.End []) in
    subst (λ (ws : List Written). 0 < length (or_line_feed (first_newline ws)).text) (sym all)
    (first_some inner (document_some profile s valid))
  where
    tidy : (a b c d : List Written) → a ++ (b ++ (c ++ d)) ≡ (a ++ (b ++ c)) ++ d
    tidy a b c d = simp append_assoc refl

-- ---- a line after the last one

past_new : (n : ℕ) (new : List Ended) (newline : Written) (es : List Ended) (last : Line) → length es < n
    → (put_lines n new newline es last).new ≡ newline.text ++ ended_text new
past_new zero new newline es last past = absurd (omega (arith, past))
past_new (suc m) new newline [] last past = refl
past_new (suc m) new newline (e ∷ es) last past = past_new m new newline es last (omega (arith, past))

-- Where the text is not open, nothing comes before the new lines, so they are not put after the last line.
pub not_past : (d : ProfiledText) (s : Document) (path : List Part) (v : Value) (n at : ℕ) (contents : List Content)
    (given : List ℕ)
    → IsTextOfTree d s → change s (insert path v) ≡ at_line s n contents
    → given ≡ missing_newline (text s) (newline_of s).text (lines_start s) at
    ++ ended_text (map (new_line (newline_of s)) contents)
    → place s (insert path v) ≡ put_in at given
    → false ≡ is_open (drop (lines_start s) (take at d.text)) → n ≤ length s.ended
not_past d s path v n at contents given read changes given_is is closed = elim (cases_lt (length s.ended) n) [
  | inl past ↦ absurd (longer past)
  | inr few ↦ few
]
  where
    longer : length s.ended < n → ⊥
    longer past =
        let newline : Written = newline_of s in
        let new : List Ended = map (new_line newline) contents in
        let missing : missing_newline (text s) newline.text (lines_start s) at ≡ [] =
        ap (λ (b : Bool). cond b newline.text [])
        (ap (λ (t : List ℕ). is_open (drop (lines_start s) (take at t))) (sym read.reads.spelled) ∙ sym closed) in
        let less : given ≡ ended_text new = given_is ∙ ap (λ (t : List ℕ). t ++ ended_text new) missing in
        let more : given ≡ newline.text ++ ended_text new =
        ap (λ (p : Place). p.new) (sym is)
        ∙ ap (λ (o : Option (Changed Document)). (place_of (changed_or_same s o)).new) changes
        ∙ past_new n new newline s.ended s.last past in
        omega (
          arith,
          newline_some d.profile s read.reads.valid,
          ap length less,
          ap length more,
          length-append newline.text (ended_text new),
        )

-- the same, where the new line is one with a keyval
pub not_past_last : (d : ProfiledText) (s : Document) (path : List Part) (v : Value) (n at : ℕ) (k : List ℕ)
    (ks : List (List ℕ)) (line : List ℕ)
    → IsTextOfTree d s → change s (insert path v) ≡ at_line s n (keyval (name_with (k ∷ ks)) v ∷ [])
    → line ≡ (new_line_at s at (k ∷ ks) v).new → place s (insert path v) ≡ put_in at line
    → false ≡ is_open (drop (lines_start s) (take at d.text)) → n ≤ length s.ended
not_past_last d s path v n at k ks line read changes line_is =
    not_past d s path v n at (keyval (name_with (k ∷ ks)) v ∷ []) line read changes
    (line_is
    ∙ ap (λ (t : List ℕ). missing_newline (text s) (newline_of s).text (lines_start s) at ++ t)
    (sym (new_line_text (newline_of s) k ks v)))

-- ---- where the lines start

take_none : (es : List Ended) → take 0 es ≡ []
take_none [] = refl
take_none (e ∷ es) = refl

start_is : (s : Document) → lines_start s ≡ length (text_of (bom_leaves s.bom))
start_is s = omega arith

-- ---- the line

module _ (d : ProfiledText) (syntax : Syntax) (nodes : NodeInfos) (path : List Part) (s : Document) (v : Value)
    (bytes : List ℕ) (i : Insertion)
    (holds : Holds d syntax nodes) (read : IsTextOfTree d s) (value : IsTextOfValue bytes v)
    (there : IsInsertionOf d.profile path v s (Ok i)) (utf8 : AreUtf8 path) (header : Option ℕ)
    (after_body : i.spot ≡ AfterBody header) where
  abbrev a : List Part
  a = holder path (mentions_in s)

  no_item : item_number path (mentions_in s) ≡ None
  no_item = (keyval_only d syntax nodes path s v bytes i holds read value there utf8 (AfterBody header) after_body
      (λ n h. absurd h)).0

  spot : IsKeyvalSpot a s i.from (AfterBody header)
  spot = body_spot d syntax nodes path s v bytes i holds read value there utf8 header after_body

  from_holder : i.from ≡ length a
  from_holder = by header spot
    where
      by : (o : Option ℕ) → IsKeyvalSpot a s i.from (AfterBody o) → i.from ≡ length a
      by None h = h.1 ∙ sym (ap (λ (p : List Part). length p) h.0)
      by (Some n) h = h.1

  -- the body ends before this line
  body_ends : (n : ℕ) × (end_of s a ≡ Some n)
  body_ends = by header spot
    where
      by : (o : Option ℕ) → IsKeyvalSpot a s i.from (AfterBody o) → (n : ℕ) × (end_of s a ≡ Some n)
      by None h = ((root_ends s).line, ap (end_of s) h.0 ∙ (root_ends s).ends)
      by (Some n) h = ((header_ends a s n h.0).line, (header_ends a s n h.0).ends)

  -- the keys after the holder
  new : IsNewPath path (mentions_in s)
  new = new_path d.profile limit (mentions_in s) path v no_item there.0

  keys_are : drop i.from path ≡ map key (new.first ∷ new.more)
  keys_are = ap (λ (n : ℕ). drop n path) from_holder ∙ new.rest

  texts_are : keys_in (drop i.from path) ≡ new.first ∷ new.more
  texts_are = ap (λ (n : ℕ). keys_in (drop n path)) from_holder ∙ new.keys

  -- what the edit changes
  changes : (n : ℕ) → end_of s a ≡ Some n
      → change s (insert path v) ≡ at_line s n (keyval (name_with (new.first ∷ new.more)) v ∷ [])
  changes n ends =
      let is : change s (insert path v) ≡ at_line s n (new_keyval (drop (length a) path) v ∷ []) =
      rw (no_item, change_insert) (rw (ends, insert_line) refl) in
      is ∙ ap (λ (l : List (List ℕ)). at_line s n (keyval (name_with l) v ∷ [])) new.keys

  -- it comes between characters
  pub at_boundary : (at : ℕ) → at ≡ body_end_of s header → IsCharBoundary d.text at
  at_boundary at at_end =
      subst (λ (n : ℕ). IsCharBoundary d.text n) (sym at_end)
      (subst (λ (t : List ℕ). IsCharBoundary t (body_end_of s header)) (sym read.reads.spelled)
      (body_there d syntax nodes path s v bytes i holds read value there utf8 header after_body).put.boundary)

  -- It is put where the lines start only if it comes before the first.
  not_first : (n at : ℕ) (line : List ℕ) → end_of s a ≡ Some n → n ≤ length s.ended
      → place s (insert path v) ≡ put_in at line → (value_depth v ≤ 0) ⊎ (at ≢ lines_start s)
      → (0 < n) ⊎ (value_depth v ≡ 0)
  not_first n at line ends few put (inl flat) = inr (omega (arith, flat))
  not_first (suc n) at line ends few put (inr later) = inl (omega arith)
  not_first zero at line ends few put (inr later) =
      let bom : List ℕ = text_of (bom_leaves s.bom) in
      let placed : place s (insert path v) ≡ put_in (length (bom ++ ended_text (take 0 s.ended))) _ =
      place_is s path v new.first new.more 0 no_item new.whole ends few in
      let none : ended_text (take 0 s.ended) ≡ [] = ap ended_text (take_none s.ended) in
      absurd (later (ap (λ (p : Place). p.start) (sym put ∙ placed)
      ∙ ap (λ (t : List ℕ). length (bom ++ t)) none ∙ ap length (append-nil bom) ∙ sym (start_is s)))

  pub line_is_added : (at : ℕ) (old line : List ℕ) → at ≡ body_end_of s header → old ≡ []
      → line ≡ old ++ (new_line_at s at (keys_in (drop i.from path)) v).new
      → false ≡ is_open (drop (lines_start s) (take at d.text))
      → (value_depth v ≤ 0) ⊎ (at ≢ lines_start s) → AddsLine d.profile limit s path v (change_at at (at - at) line)
  line_is_added at old line at_end none_before pushed closed later =
      let line_is : line ≡ (new_line_at s at (keys_in (drop i.from path)) v).new =
      pushed ∙ ap (λ (t : List ℕ). t ++ (new_line_at s at (keys_in (drop i.from path)) v).new) none_before in
      let (given, is, placed, within) =
      body_put d syntax nodes path s v bytes i holds read value there utf8 header at [] line after_body at_end line_is
      in
      let put : place s (insert path v) ≡ put_in at line = placed ∙ ap (put_in at) (sym is) in
      let (number, ends) = body_ends in
      let few : number ≤ length s.ended =
      not_past_last d s path v number at new.first new.more line read (changes number ends)
      (line_is ∙ ap (λ (l : List (List ℕ)). (new_line_at s at l v).new) texts_are) put closed in
      record {
        utf8 = keys_utf8 path utf8;
        given = record { valid = value.reads.valid; obeys = value.obeys };
        allowed = there.0;
        text = new.first;
        more = new.more;
        new = new.whole;
        number = number;
        ends = ends;
        closed = few;
        newline = not_first number at line ends few put later;
        adds = omega arith;
        is = put;
      }
