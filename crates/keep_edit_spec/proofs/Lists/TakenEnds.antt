-- Where bodies end without a table or an element that is taken with its header and its body.
--
-- A header is in no body, and no keyval after the body that goes is in one that began before it. So a body that began
-- before the header has the length that it had, and ends at the header's line or before it (`ends_before`). No other
-- header is among the lines that go (`ends_past`), and after them each header's path goes where it goes once they are
-- gone (`behind`). A path elsewhere than at the changed path and below it stays, so the last header of it is the same.
-- Thus a body of it that begins after them ends as many lines earlier as go. It ends after its own header, so not right
-- where the header was that goes.
--
-- Theorems: `end_now`, `none_now`: where a body ends; `few_now`, `at_now`: the line at an end.
use Rattle.std.proofs.Common.{◌≡◌, ◌≢◌, ℕ, suc, ◌+◌, ◌<◌, ◌≤◌, Bool, true, false, List, [], ◌∷◌, ◌++◌, length, map}
use Rattle.std.proofs.Common.{refl, sym, ap, ap₂, subst, ◌∙◌, arith, Option, Some, None, ◌⊎◌, inl, inr}
use Rattle.std.specs.Option.{option_map}
use Rattle.std.specs.Prelude.{⊤}
use Rattle.std.proofs.lemmas.Bool.{and_parts}
use Rattle.std.proofs.lemmas.List.{length-map, append-nil}
use Rattle.keep_types.specs.declared.leaf.Profile.{Profile}
use Rattle.keep_syntax.specs.Tree.{Document, Line}
use Rattle.keep_path.specs.Path.{Part, same_path, strip}
use Rattle.keep_meaning.specs.Marks.{Reading, start}
use Rattle.keep_meaning.specs.Meaning.{after_line, line_of, lines, reading_after_lines}
use Rattle.keep_edit_spec.specs.ClearedLines.{line_start}
use Rattle.keep_edit_spec.specs.Edits.{end_of}
use Rattle.keep_edit_spec.specs.ElementRuns.{changed_path}
use Rattle.keep_edit_spec.specs.Laws.{IsEditable}
use Rattle.keep_edit_spec.specs.Lines.{begins, body_length, is_header, last_line}
use Rattle.keep_edit_spec.specs.RemovedHeaders.{RemovesHeader}
use Rattle.keep_edit_spec.specs.TextChanges.{IsBeside, TextChange, moved_by}
use Rattle.keep_edit_spec.proofs.Common.BodyEnd.{body_few}
use Rattle.keep_edit_spec.proofs.Common.HeadersGo.{last_goes}
use Rattle.keep_edit_spec.proofs.Common.Runs.{same_path-sound}
use Rattle.keep_edit_spec.proofs.Lists.BodyEnds.{end_at, end_cons, end_in, end_or, header_none}
use Rattle.keep_edit_spec.proofs.Lists.HeaderEnds.{lengths_same}
use Rattle.keep_edit_spec.proofs.Lists.NewHolder.{apart_differs}
use Rattle.keep_edit_spec.proofs.Lists.RemovedOwn.{last_or}
use Rattle.keep_edit_spec.proofs.Lists.SectionAt.{IsSectionAt}
use Rattle.keep_edit_spec.proofs.Lists.SectionsApart.{body_keeps, body_none, is_head, more_none, none_or, r}
use Rattle.keep_edit_spec.proofs.Lists.TakenGone as gone_of

-- ---- an end, of a body that is before the lines that go, or after them

abbrev pub MovesBack : ℕ → ℕ → ℕ → ℕ → Type 0
MovesBack n gone was now = ((was ≡ now) × (was ≤ n)) ⊎ ((was ≡ now + gone) × (n < now))

pub record IsEndGone (now : Document) (a : List Part) (n gone was : ℕ) : Type 0 where
  pub number : ℕ
  pub ends : end_of now a ≡ Some number
  pub moves : MovesBack n gone was number

abbrev EndMoves : ℕ → ℕ → Option ℕ → Option ℕ → Type 0
EndMoves n gone None None = ⊤
EndMoves n gone None (Some j) = ⊥
EndMoves n gone (Some i) None = ⊥
EndMoves n gone (Some i) (Some j) = MovesBack n gone i j

moves_next : (n gone i j : ℕ) → MovesBack n gone i j → MovesBack (suc n) gone (suc i) (suc j)
moves_next n gone i j (inl h) = inl (ap suc h.0, omega (arith, h.1))
moves_next n gone i j (inr h) = inr (omega (arith, h.0), omega (arith, h.1))

-- from the end among the lines after one line
ends_before : (begun : Bool) (o p : Option ℕ) (m b n gone : ℕ) → EndMoves n gone o p → m ≡ b → m ≤ n
    → EndMoves (suc n) gone (end_or begun m o) (end_or begun b p)
ends_before begun (Some i) (Some j) m b n gone h same few = moves_next n gone i j h
ends_before begun (Some i) None m b n gone h same few = absurd h
ends_before begun None (Some j) m b n gone h same few = absurd h
ends_before true None None m b n gone h same few = inl (ap suc same, omega (arith, few))
ends_before false None None m b n gone h same few = tt

-- ---- lines in a row that go

ends_past : (a : List Part) (x : Reading) (gone more : List Line) → last_line (begins a) x gone ≡ None
    → end_in a x (gone ++ more)
    ≡ option_map (λ i. i + length gone) (end_in a (reading_after_lines x gone) more)
ends_past a x [] more none = by (end_in a x more)
  where
    by : (o : Option ℕ) → o ≡ option_map (λ i. i + 0) o
    by None = refl
    by (Some i) = ap (λ (k : ℕ). Some k) (omega arith)
ends_past a x (l ∷ gone) more none =
    let (rest, one) = none_or (begins a x l) (last_line (begins a) (after_line x l) gone) none in
    end_cons a x l (gone ++ more)
    ∙ ap₂ (λ (b : Bool) (o : Option ℕ). end_or b (body_length (gone ++ more)) o) one
    (ends_past a (after_line x l) gone more rest)
    ∙ by (end_in a (reading_after_lines (after_line x l) gone) more)
  where
    by : (o : Option ℕ) → end_or false (body_length (gone ++ more)) (option_map (λ i. i + length gone) o)
        ≡ option_map (λ i. i + suc (length gone)) o
    by None = refl
    by (Some i) = ap (λ (k : ℕ). Some k) (omega arith)

-- an end is after the header
end_moves : (gone : ℕ) (ls : List Line) (o : Option ℕ)
    → EndMoves 0 gone (option_map (λ i. i + gone) (end_at ls o)) (end_at ls o)
end_moves gone ls None = tt
end_moves gone ls (Some i) = inr (refl, omega arith)

-- lines that are in no body before them, nor are those after them
module _ (gone more : List Line) (over : body_length (gone ++ more) ≡ 0) (over_now : body_length more ≡ 0) where
  length_same : (pre : List Line) → body_length (pre ++ (gone ++ more)) ≡ body_length (pre ++ more)
  length_same pre = lengths_same pre (gone ++ more) more (over ∙ sym over_now)

  length_few : (pre : List Line) → body_length (pre ++ (gone ++ more)) ≤ length pre
  length_few pre =
      omega (arith, lengths_same pre (gone ++ more) [] over, ap body_length (append-nil pre), body_few pre)

  -- with no header of the path's among them, and none that was not there after them
  abbrev LeavesHeaders : List Part → Reading → Type 0
  LeavesHeaders a x =
      (last_line (begins a) x gone ≡ None)
      × (last_line (begins a) (reading_after_lines x gone) more ≡ last_line (begins a) x more)

  ends_without : (a : List Part) (y : Reading) (pre : List Line) → LeavesHeaders a (reading_after_lines y pre)
      → EndMoves (length pre) (length gone) (end_in a y (pre ++ (gone ++ more))) (end_in a y (pre ++ more))
  ends_without a y [] h =
      subst (λ (o : Option ℕ). EndMoves 0 (length gone) o (end_in a y more))
      (sym (ends_past a y gone more h.0 ∙ ap (λ (o : Option ℕ). option_map (λ i. i + length gone) (end_at more o)) h.1))
      (end_moves (length gone) more (last_line (begins a) y more))
  ends_without a y (l ∷ pre) h =
      let n : ℕ = suc (length pre) in
      subst (λ (o : Option ℕ). EndMoves n (length gone) o (end_in a y (l ∷ (pre ++ more))))
      (sym (end_cons a y l (pre ++ (gone ++ more))))
      (subst (EndMoves n (length gone) (end_or (begins a y l) (body_length (pre ++ (gone ++ more)))
      (end_in a (after_line y l) (pre ++ (gone ++ more))))) (sym (end_cons a y l (pre ++ more)))
      (ends_before (begins a y l) (end_in a (after_line y l) (pre ++ (gone ++ more)))
      (end_in a (after_line y l) (pre ++ more)) (body_length (pre ++ (gone ++ more))) (body_length (pre ++ more))
      (length pre) (length gone) (ends_without a (after_line y l) pre h) (length_same pre) (length_few pre)))

  -- of a path that is not the root
  ends_moved : (s now : Document) (pre : List Line) → lines s ≡ pre ++ (gone ++ more) → lines now ≡ pre ++ more
      → (a : List Part) → LeavesHeaders a (reading_after_lines start pre)
      → (o : Option ℕ) → end_in a start (lines s) ≡ o
      → EndMoves (length pre) (length gone) o (end_in a start (lines now))
  ends_moved s now pre was are a h o ends =
      subst (λ (ls : List Line). EndMoves (length pre) (length gone) o (end_in a start ls)) (sym are)
      (subst (λ (p : Option ℕ). EndMoves (length pre) (length gone) p (end_in a start (pre ++ more)))
      (ap (end_in a start) (sym was) ∙ ends) (ends_without a start pre h))

  none_without : (s now : Document) (pre : List Line) → lines s ≡ pre ++ (gone ++ more) → lines now ≡ pre ++ more
      → (a : List Part) → LeavesHeaders a (reading_after_lines start pre) → end_of s a ≡ None → end_of now a ≡ None
  none_without s now pre was are [] h none = absurd cc
  none_without s now pre was are (p ∷ ps) h none =
      by (end_in (p ∷ ps) start (lines now)) refl (ends_moved s now pre was are (p ∷ ps) h None none)
    where
      by : (o : Option ℕ) → end_of now (p ∷ ps) ≡ o → EndMoves (length pre) (length gone) None o
          → end_of now (p ∷ ps) ≡ None
      by None e moves = e
      by (Some j) e moves = absurd moves

  end_without : (s now : Document) (pre : List Line) → lines s ≡ pre ++ (gone ++ more) → lines now ≡ pre ++ more
      → (a : List Part) (i : ℕ) → LeavesHeaders a (reading_after_lines start pre) → end_of s a ≡ Some i
      → IsEndGone now a (length pre) (length gone) i
  end_without s now pre was are [] i h ends =
      let all : body_length (lines s) ≡ i = cc in
      let length_was : i ≡ body_length (pre ++ (gone ++ more)) = sym all ∙ ap body_length was in
      record {
        number = body_length (lines now);
        ends = refl;
        moves = inl (
          length_was ∙ length_same pre ∙ ap body_length (sym are),
          omega (arith, length_was, length_few pre),
        );
      }
  end_without s now pre was are (p ∷ ps) i h ends =
      by (end_in (p ∷ ps) start (lines now)) refl (ends_moved s now pre was are (p ∷ ps) h (Some i) ends)
    where
      by : (o : Option ℕ) → end_of now (p ∷ ps) ≡ o → EndMoves (length pre) (length gone) (Some i) o
          → IsEndGone now (p ∷ ps) (length pre) (length gone) i
      by None e moves = absurd moves
      by (Some j) e moves = record { number = j; ends = e; moves = moves }

-- ---- a body of a path elsewhere

module _ (profile : Profile) (limit : ℕ) (s : Document) (path : List Part) (c : TextChange)
    (fine : IsEditable profile limit s) (h : RemovesHeader profile limit s path c) (a : List Part)
    (clear : strip (changed_path path) a ≡ None) where
  abbrev at : IsSectionAt s path
  at = gone_of.at profile limit s path c fine h

  abbrev x : Reading
  x = r s path at

  abbrev u : Reading
  u = after_line x at.head.line

  abbrev taken : List Line
  taken = gone_of.taken_lines profile limit s path c fine h

  abbrev after : List Line
  after = gone_of.after profile limit s path c fine h

  not_begun : (b : Bool) → begins a x at.head.line ≡ b → begins a x at.head.line ≡ false
  not_begun false e = e
  not_begun true e =
      let mine : u.body ≡ path =
      same_path-sound u.body path (and_parts (is_header at.head.line.content) (same_path u.body path) at.passes).1 in
      let theirs : u.body ≡ a =
      same_path-sound u.body a (and_parts (is_header at.head.line.content) (same_path u.body a) e).1 in
      absurd (apart_differs path a (gone_of.under profile limit s path c fine h a clear) (sym mine ∙ theirs))

  over : body_length (taken ++ after) ≡ 0
  over = header_none at.head.line.content (body_length (map line_of at.body ++ after)) (is_head s path at)

  over_now : body_length after ≡ 0
  over_now = more_none s path at

  last_same : last_line (begins a) u after ≡ last_line (begins a) x after
  last_same =
      let stays = gone_of.stays profile limit s path c fine h in
      let goes = gone_of.goes profile limit s path c fine h in
      let was = gone_of.was profile limit s path c fine h in
      let (there, same) = gone_of.stays_apart profile limit s path c fine h a clear in
      sym (last_goes stays goes was.inj u x after was.behind a there)
      ∙ ap (λ (q : List Part). last_line (begins q) x after) same

  leaves_headers : LeavesHeaders taken after over over_now a x
  leaves_headers = (
    ap₂ last_or (not_begun (begins a x at.head.line) refl) (body_none s path at a u),
    ap (λ (y : Reading). last_line (begins a) y after) (body_keeps s path at u) ∙ last_same,
  )

  -- no header begins a body of it then, if none did
  pub none_now : end_of s a ≡ None → end_of (gone_of.now profile limit s path c fine h) a ≡ None
  none_now none =
      none_without taken after over over_now s (gone_of.now profile limit s path c fine h)
      (gone_of.before profile limit s path c fine h) (gone_of.lines_were profile limit s path c fine h)
      (gone_of.lines_are profile limit s path c fine h) a leaves_headers none

  pub end_now : (i : ℕ) → end_of s a ≡ Some i
      → IsEndGone (gone_of.now profile limit s path c fine h) a (gone_of.n profile limit s path c fine h)
      (gone_of.gone profile limit s path c fine h) i
  end_now i ends =
      let now : Document = gone_of.now profile limit s path c fine h in
      let pre : List Line = gone_of.before profile limit s path c fine h in
      subst (λ (n : ℕ). IsEndGone now a n (gone_of.gone profile limit s path c fine h) i)
      (length-map at.first line_of)
      (subst (λ (k : ℕ). IsEndGone now a (length pre) k i) (ap suc (length-map at.body line_of))
      (end_without taken after over over_now s now pre
      (gone_of.lines_were profile limit s path c fine h) (gone_of.lines_are profile limit s path c fine h) a i
      leaves_headers ends))

-- ---- an end then

module _ (profile : Profile) (limit : ℕ) (s : Document) (path : List Part) (c : TextChange)
    (fine : IsEditable profile limit s) (h : RemovesHeader profile limit s path c) (was j : ℕ)
    (moves : MovesBack (gone_of.n profile limit s path c fine h) (gone_of.gone profile limit s path c fine h) was j)
  where
    pub few_now : was ≤ length s.ended → j ≤ length (gone_of.now profile limit s path c fine h).ended
    few_now few =
        let count = gone_of.few profile limit s path c fine h in
        let length_was = gone_of.length_was profile limit s path c fine h in
        elim moves [
          | inl to ↦ omega (arith, to.0, to.1, count, length_was)
          | inr from ↦ omega (arith, from.0, few, length_was)
        ]

    -- what is put in there is beside what goes
    pub at_now : (d : TextChange) → IsBeside c d → d.at ≡ line_start s was
        → line_start (gone_of.now profile limit s path c fine h) j ≡ moved_by c d.at
    at_now d beside d_at = elim moves [
      | inl to ↦
          let apart : was ≢ gone_of.n profile limit s path c fine h =
          λ e. gone_of.begins_elsewhere profile limit s path c fine h d beside
          (gone_of.start_is profile limit s path c fine h ∙ ap (line_start s) (sym e) ∙ sym d_at) in
          sym (gone_of.at_before profile limit s path c fine h j d.at (omega (arith, to.0, to.1, apart))
          (d_at ∙ ap (line_start s) to.0))
      | inr from ↦
          sym (gone_of.at_from profile limit s path c fine h j d.at (omega (arith, from.1))
          (d_at ∙ ap (line_start s) from.0))
    ]
