-- An insert that brings the header of its table brings the same after a remove, elsewhere, took a table or an element
-- with its header.
--
-- Behind what went the last line that leads through a path elsewhere is the same (TakenLeads). So where no keyval led
-- through it none does (`none_now`), and where no header began a body of it none does (TakenEnds). Among the lines that
-- go only the header can go through another path. If it is the last that does, its body ends where the change does,
-- which is not where the new header comes. So the last one is another (`through_now`): one before those lines, whose
-- body ends there as it did, or one behind them, whose body ends as many lines earlier as went. There the insert brings
-- its header (BroughtAgain).
--
-- Theorem: `brought_after_taken`.
use Rattle.std.proofs.Common.{◌≡◌, ◌≢◌, ℕ, suc, ◌+◌, ◌<◌, Bool, true, false, List, ◌∷◌, ◌++◌, length, map, drop}
use Rattle.std.proofs.Common.{refl, sym, ap, ap₂, subst, ◌∙◌, length-append, arith, Option, Some, None, inl, inr}
use Rattle.std.proofs.lemmas.Bool.{and_parts}
use Rattle.std.proofs.lemmas.List.{drop-append-le, length-drop, length-map}
use Rattle.keep_types.specs.declared.leaf.Profile.{Profile}
use Rattle.keep_syntax.specs.Tree.{Document, Line, Value}
use Rattle.keep_path.specs.Path.{Part, key, strip}
use Rattle.keep_meaning.specs.Marks.{Reading, start}
use Rattle.keep_meaning.specs.Meaning.{line_mentions, line_of, lines, mentions_in, reading_after_lines}
use Rattle.keep_meaning.specs.Nodes.{has, is_through}
use Rattle.keep_edit_spec.specs.BroughtHeaders.{BringsHeader, StillBrings}
use Rattle.keep_edit_spec.specs.ClearedLines.{line_start}
use Rattle.keep_edit_spec.specs.ElementRuns.{changed_path}
use Rattle.keep_edit_spec.specs.Laws.{IsEditable}
use Rattle.keep_edit_spec.specs.Lines.{body_end, body_length, is_header, last_line, leads_dotted, leads_through}
use Rattle.keep_edit_spec.specs.Lines.{newline_of}
use Rattle.keep_edit_spec.specs.Look.{holder}
use Rattle.keep_edit_spec.specs.RemovedHeaders.{RemovesHeader}
use Rattle.keep_edit_spec.specs.TextChanges.{IsBeside, TextChange, moved, moved_by}
use Rattle.keep_edit_spec.proofs.Common.BodyEnd.{IsLast, drop_after, last_found}
use Rattle.keep_edit_spec.proofs.Lists.BodyEnds.{header_few, header_none}
use Rattle.keep_edit_spec.proofs.Lists.BroughtAgain.{IsThroughThere, brought_said}
use Rattle.keep_edit_spec.proofs.Lists.BroughtLines.{at_is}
use Rattle.keep_edit_spec.proofs.Lists.TakenEnds.{MovesBack}
use Rattle.keep_edit_spec.proofs.Lists.HeaderEnds.{lengths_same}
use Rattle.keep_edit_spec.proofs.Lists.HeaderLines.{last_before}
use Rattle.keep_edit_spec.proofs.Lists.LinesAfterBody.{Test, drop_behind, last_behind, none_in_body}
use Rattle.keep_edit_spec.proofs.Lists.NewHolder.{new_clear}
use Rattle.keep_edit_spec.proofs.Lists.RemovedOwn.{last_or}
use Rattle.keep_edit_spec.proofs.Lists.SectionAt.{IsSectionAt}
use Rattle.keep_edit_spec.proofs.Lists.SectionsApart.{after_split, is_head, more_none, none_split}
use Rattle.keep_edit_spec.proofs.Lists.SaidBeside.{said_now}
use Rattle.keep_edit_spec.proofs.Lists.SetAllowed.{prefix_clear}
use Rattle.keep_edit_spec.proofs.Lists.TakenEnds as ends
use Rattle.keep_edit_spec.proofs.Lists.TakenGone as gone_of
use Rattle.keep_edit_spec.proofs.Lists.TakenKinds.{BroughtAfterTaken}
use Rattle.keep_edit_spec.proofs.Lists.TakenLeads.{dotted_same, through_same}

-- ---- the lines without the header and its body

-- the number of the last line that passes, and where the body ends that it begins
record IsLastThen (s now : Document) (test : Test) (n gone was : ℕ) : Type 0 where
  number : ℕ
  last : last_line test start (lines now) ≡ Some number
  ends : MovesBack n gone (body_end was (lines s)) (body_end number (lines now))

module _ (profile : Profile) (limit : ℕ) (s : Document) (path : List Part) (c : TextChange)
    (fine : IsEditable profile limit s) (h : RemovesHeader profile limit s path c) where
  abbrev at : IsSectionAt s path
  at = gone_of.at profile limit s path c fine h

  abbrev now : Document
  now = gone_of.now profile limit s path c fine h

  -- the number of the header, and how many lines go with it
  abbrev n : ℕ
  n = gone_of.n profile limit s path c fine h

  abbrev gone : ℕ
  gone = gone_of.gone profile limit s path c fine h

  abbrev pre : List Line
  pre = gone_of.before profile limit s path c fine h

  abbrev body : List Line
  body = map line_of at.body

  abbrev taken : List Line
  taken = gone_of.taken_lines profile limit s path c fine h

  abbrev rest : List Line
  rest = gone_of.after profile limit s path c fine h

  -- the reading before the header, and that after its lines
  abbrev x : Reading
  x = reading_after_lines start pre

  abbrev u : Reading
  u = reading_after_lines x taken

  were : lines s ≡ pre ++ (taken ++ rest)
  were = gone_of.lines_were profile limit s path c fine h

  are : lines now ≡ pre ++ rest
  are = gone_of.lines_are profile limit s path c fine h

  pre_long : length pre ≡ n
  pre_long = length-map at.first line_of

  taken_long : length taken ≡ gone
  taken_long = ap suc (length-map at.body line_of)

  -- ---- a test that passes the same line as the last one behind them

  module _ (test : Test) (same_behind : last_line test u rest ≡ last_line test x rest) where
    none_now : last_line test start (lines s) ≡ None → last_line test start (lines now) ≡ None
    none_now none =
        let (early, later) = none_split test start pre (taken ++ rest) (ap (last_line test start) (sym were) ∙ none) in
        ap (last_line test start) are
        ∙ last_before test start pre rest (sym same_behind ∙ (none_split test x taken rest later).1) ∙ early

    module _ (heads : (r : Reading) (l : Line) → test r l ≡ true → is_header l.content ≡ true) (was : ℕ)
        (passed : last_line test start (lines s) ≡ Some was) where
      found : last_line test start (pre ++ (taken ++ rest)) ≡ Some was
      found = ap (last_line test start) (sym were) ∙ passed

      behind : (m : ℕ) → last_line test x rest ≡ Some m → IsLastThen s now test n gone was
      behind m e =
          let j : ℕ = length pre + m in
          let number : was ≡ length pre + (length taken + m) =
          (let both : Some was ≡ Some (length pre + (length taken + m)) =
          sym found ∙ last_behind test start pre (taken ++ rest) (length taken + m)
          (last_behind test x taken rest m (same_behind ∙ e)) in cc) in
          let next_was : suc was ≡ length pre + (length taken + suc m) = omega (arith, number) in
          let next_now : suc j ≡ length pre + suc m = omega arith in
          let after_was : drop (suc was) (lines s) ≡ drop (suc m) rest =
          ap₂ (λ (i : ℕ) (ls : List Line). drop i ls) next_was were
          ∙ drop_behind pre (taken ++ rest) (length taken + suc m) ∙ drop_behind taken rest (suc m) in
          let after_now : drop (suc j) (lines now) ≡ drop (suc m) rest =
          ap₂ (λ (i : ℕ) (ls : List Line). drop i ls) next_now are ∙ drop_behind pre rest (suc m) in
          record {
            number = j;
            last = ap (last_line test start) are ∙ last_behind test start pre rest m e;
            ends = inr (
              omega (arith, number, taken_long, ap body_length after_was, ap body_length after_now),
              omega (arith, pre_long),
            );
          }

      -- ---- the header, and those before it

      over : body_length (taken ++ rest) ≡ 0
      over = header_none at.head.line.content (body_length (body ++ rest)) (is_head s path at)

      body_whole : body_length (body ++ rest) ≡ length body
      body_whole = ap body_length (sym (after_split s path at)) ∙ at.size ∙ sym (length-map at.body line_of)

      last_taken : (b : Bool) → test x at.head.line ≡ b → last_line test x taken ≡ last_or b None
      last_taken b e = ap₂ last_or e (none_in_body test heads _ body rest body_whole)

      before : last_line test start pre ≡ Some was → last_line test x rest ≡ None → IsLastThen s now test n gone was
      before early none =
          let f : IsLast test start pre was = last_found test start pre was early in
          let less : was < length pre =
          omega (arith, f.number, ap (λ (ls : List Line). length ls) f.was, length-append f.pre (f.here ∷ f.post)) in
          let between : List Line = drop (suc was) pre in
          let after_was : drop (suc was) (lines s) ≡ between ++ (taken ++ rest) =
          ap (drop (suc was)) were ∙ drop-append-le (suc was) pre (taken ++ rest) (omega (arith, less)) in
          let after_now : drop (suc was) (lines now) ≡ between ++ rest =
          ap (drop (suc was)) are ∙ drop-append-le (suc was) pre rest (omega (arith, less)) in
          let same : body_length (between ++ (taken ++ rest)) ≡ body_length (between ++ rest) =
          lengths_same between (taken ++ rest) rest (over ∙ sym (more_none s path at)) in
          record {
            number = was;
            last = ap (last_line test start) are ∙ last_before test start pre rest none ∙ early;
            ends = inl (
              omega (arith, ap body_length after_was, ap body_length after_now, same),
              omega (
                arith,
                less,
                pre_long,
                ap body_length after_was,
                header_few between at.head.line (body ++ rest) (is_head s path at),
                length-drop (suc was) pre,
              ),
            );
          }

      -- the body of the header ends behind its lines
      own_end : was ≡ length pre → body_end was (lines s) ≡ n + gone
      own_end here =
          let after_head : drop (suc was) (lines s) ≡ body ++ rest =
          ap₂ (λ (i : ℕ) (ls : List Line). drop (suc i) ls) here were ∙ drop_after pre at.head.line (body ++ rest) in
          omega (arith, here, pre_long, ap body_length after_head, body_whole, length-map at.body line_of)

      not_behind : last_line test x rest ≡ None → body_end was (lines s) ≢ n + gone → (b : Bool)
          → test x at.head.line ≡ b → IsLastThen s now test n gone was
      not_behind none other true passes =
          let both : Some was ≡ Some (length pre + 0) =
          sym found
          ∙ last_behind test start pre (taken ++ rest) 0
          (last_before test x taken rest (same_behind ∙ none) ∙ last_taken true passes) in
          let here : was ≡ length pre + 0 = cc in
          absurd (other (own_end (omega (arith, here))))
      not_behind none other false fails =
          before
          (sym (last_before test start pre (taken ++ rest)
          (last_before test x taken rest (same_behind ∙ none) ∙ last_taken false fails)) ∙ found)
          none

      through_now : body_end was (lines s) ≢ n + gone → IsLastThen s now test n gone was
      through_now other = by (last_line test x rest) refl
        where
          by : (o : Option ℕ) → last_line test x rest ≡ o → IsLastThen s now test n gone was
          by None e = not_behind e other (test x at.head.line) refl
          by (Some m) e = behind m e

-- ---- the insert

module _ (profile : Profile) (limit : ℕ) (s : Document) (path : List Part) (c : TextChange)
    (other : List Part) (more : Value) (d : TextChange) (fine : IsEditable profile limit s)
    (h : RemovesHeader profile limit s path c) (k : BringsHeader profile limit s other more d)
    (clear : strip (changed_path path) other ≡ None) (past : c.at + c.size ≢ d.at) where
  abbrev to : Document
  to = gone_of.now profile limit s path c fine h

  abbrev b : List Part
  b = holder other (mentions_in s)

  holder_clear : strip (changed_path path) b ≡ None
  holder_clear = prefix_clear (changed_path path) other b (map key (k.text ∷ k.more)) clear k.new

  -- where the body ends after which the header comes
  abbrev end : ℕ
  end = body_end k.number (lines s)

  d_at : d.at ≡ line_start s end
  d_at = at_is profile limit s other more d k

  end_apart : end ≢ gone_of.n profile limit s path c fine h + gone_of.gone profile limit s path c fine h
  end_apart e = past (gone_of.end_is profile limit s path c fine h ∙ ap (line_start s) (sym e) ∙ sym d_at)

  through : IsLastThen s to (leads_through b) (gone_of.n profile limit s path c fine h)
      (gone_of.gone profile limit s path c fine h) k.number
  through =
      through_now profile limit s path c fine h (leads_through b)
      (through_same profile limit s path c fine h b holder_clear)
      (λ r l e. (and_parts (is_header l.content) (has is_through b (line_mentions r l)) e).0) k.number k.last end_apart

  abbrev j : ℕ
  j = through.number

  there : IsThroughThere s other to j
  there = record {
    bare = ends.none_now profile limit s path c fine h b holder_clear k.bare;
    no_dots =
        none_now profile limit s path c fine h (leads_dotted b)
        (dotted_same profile limit s path c fine h b holder_clear) k.no_dots;
    last = through.last;
    closed = ends.few_now profile limit s path c fine h end (body_end j (lines to)) through.ends k.closed;
  }

  brings_now : IsBeside c d → newline_of to ≡ newline_of s → StillBrings profile limit s to other more (moved c d)
  brings_now beside same =
      let at : line_start to (body_end j (lines to)) ≡ moved_by c d.at =
      ends.at_now profile limit s path c fine h end (body_end j (lines to)) through.ends d beside d_at in
      brought_said profile limit s to other more c d k j there at same (changed_path path)
      (said_now profile limit s path c fine h) clear

pub brought_after_taken : BroughtAfterTaken
brought_after_taken profile limit s path c other more d fine h k apart beside same past =
    let is = gone_of.is_now profile limit s path c fine h in
    let clear : strip (changed_path path) other ≡ None =
    new_clear s other k.text k.more k.new (changed_path path) apart in
    subst (λ (z : Document). StillBrings profile limit s z other more (moved c d)) (sym is)
    (brings_now profile limit s path c other more d fine h k clear past beside (ap newline_of (sym is) ∙ same))
