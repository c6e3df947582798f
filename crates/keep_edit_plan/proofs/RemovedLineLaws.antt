-- The line of a value that a remove takes, or leaves with its comment: what it changes from where it cuts to the end of
-- the line.
--
-- The lines of a document that are the path's own all have its value and its statement (`line_at`), so the last of
-- them is where the statement is. It has a newline if a line feed is its last byte (`ended_line`), since no line ends
-- with one without its newline. Then the white space after the value ends before the end of the line (`space_short`).
--
-- If no `#` follows, the edit cuts the text where the line is (`line_arm`), so what it takes out ends with a line feed
-- (`cut_ends`). What is before a comment does not (`quiet_before`), so the edit clears no line: it drops one
-- (`takes_line`). If a `#` follows, the cut ends before the line does. A cut that drops the line ends with it, so the
-- edit clears a line up to its comment (`clears_line`).
--
-- Theorems: `line_is_removed`; `line_within`: the line is in the text; `cut_span`, `rest_span`: what is changed of it
-- goes from character to character, and what comes back, too; `value_found`: the value is the path's.
use Rattle.std.proofs.Common.{◌≡◌, ℕ, suc, ◌+◌, ◌-◌, ◌<◌, ◌≤◌, Bool, true, false, cond, List, [], ◌∷◌, ◌++◌, length}
use Rattle.std.proofs.Common.{map, take, drop, get_or, slice_get, refl, sym, ap, subst, ◌∙◌, append-nil, append_assoc}
use Rattle.std.proofs.Common.{length-append, get_or-drop, arith, Option, Some, None, Result, Ok, inl, inr}
use Rattle.std.specs.Prelude.{IsCharBoundary, ◌==◌}
use Rattle.std.specs.List.{AllByRecursion, flat_map}
use Rattle.std.proofs.lemmas.Bool.{cases_lt}
use Rattle.std.proofs.lemmas.Grind.{flat_map-append}
use Rattle.std.proofs.lemmas.List.{get_or-append-add, get_or_append_left}
use Rattle.std.proofs.lemmas.List.Sums.{prefix_len_passes}
use Rattle.std.proofs.lemmas.Str.{IsCharBoundary-after_ascii}
use Rattle.keep_types.proofs.Shared.{one_of_two}
use Rattle.keep_types.specs.declared.leaf.Leaf.TheVariants as leaf
use Rattle.keep_types.specs.declared.leaf.Profile.{Profile}
use Rattle.keep_types.specs.declared.leaf.Profile.TheVariants.{Strict}
use Rattle.keep_types.specs.declared.syntax.Owner.TheVariants as owner
use Rattle.keep_types.specs.declared.syntax.Statement.{Statement}
use Rattle.keep_types.specs.declared.syntax.ValueInfo.{ValueInfo}
use Rattle.keep_token.specs.Abnf.{is_ws}
use Rattle.keep_token.specs.Leaves.{IsLeaf}
use Rattle.keep_token.specs.Pieces.{first}
use Rattle.keep_syntax.specs.declared.syntax.Syntax.{Syntax}
use Rattle.keep_syntax.specs.Contract.{statements_of, values_of}
use Rattle.keep_syntax.specs.Grammar.{IsContent, IsEnded, IsLine}
use Rattle.keep_syntax.specs.Numbered as numbered
use Rattle.keep_syntax.specs.Numbered.{span}
use Rattle.keep_syntax.specs.Tree.{Written, Name, Value as TreeValue, Content, keyval, Line, Ended, Document}
use Rattle.keep_syntax.specs.Tree.{bom_leaves, comment_leaves, content_leaves, ended_leaves, line_leaves, name_leaves}
use Rattle.keep_syntax.specs.Tree.{text, text_of, value_leaves, value_text}
use Rattle.keep_meaning.specs.KeyText.{text_at}
use Rattle.keep_meaning.specs.Marks.{Reading, start}
use Rattle.keep_meaning.specs.Meaning.{line_of, lines, reading_after_lines, step}
use Rattle.keep_path.specs.NodeInfos.{NodeInfos}
use Rattle.keep_path.specs.Path.{Part, same_path}
use Rattle.keep_rules.specs.declared.index.NodeId.{NodeId}
use Rattle.keep_edit_spec.specs.declared.fault.EditFault.{EditFault}
use Rattle.keep_edit_spec.specs.Changed.{Changed, Place, framed_change, or_else, within}
use Rattle.keep_edit_spec.specs.ClearedLines.{ClearsLine, line_start}
use Rattle.keep_edit_spec.specs.Edits.{clear_line, is_own, nested, place, remove, without_lines}
use Rattle.keep_edit_spec.specs.Lines.{Page, begins, body_length, content_text, drop_prefix, ended_text, in_lines}
use Rattle.keep_edit_spec.specs.Lines.{last_line, line_text, with_page}
use Rattle.keep_edit_spec.specs.Refusals.{refusal}
use Rattle.keep_edit_spec.specs.Removal.{is_hash, line_place, past_space}
use Rattle.keep_edit_spec.specs.RemovedLines.{RemovesLine}
use Rattle.keep_edit_spec.specs.Runs.{MakesChange}
use Rattle.keep_edit_spec.specs.TextChanges.{IsWider, TextChange, change_at}
use Rattle.keep_edit_spec.specs.TextEnds.{ends_in_newline}
use Rattle.keep_edit_spec.specs.Values.{removal}
use Rattle.keep_edit_spec.proofs.Shared.{EachOf, IsCleared, IsLineValue, IsOwnLine, IsSome, cleared_lines, ends_at}
use Rattle.keep_edit_spec.proofs.Shared.{head_line, head_text, line_quiet, line_value, lines_split, none_some, own_line}
use Rattle.keep_edit_spec.proofs.Shared.{page_line, rest_valid, rules_of_document, same_path-refl, some_among}
use Rattle.keep_edit_spec.proofs.Shared.{tail_lines, text_is, text_of-append, value_closed, without}
use Rattle.keep_edit_plan.specs.Answers.{IsSpanOf, value_number_of}
use Rattle.keep_edit_plan.specs.Reading.{limit, ProfiledText, Holds, IsTextOfTree}
use Rattle.keep_edit_plan.specs.Removing.{IsCutAt, IsRemovalFound, KeepsNothing, cut_place}
use Rattle.keep_edit_plan.specs.declared.remove.Cut.{Cut}
use Rattle.keep_edit_plan.specs.declared.remove.Piece.{Piece}
use Rattle.keep_edit_plan.specs.declared.remove.Piece.TheVariants.{Value}
use Rattle.keep_edit_plan.proofs.RemoveCut.{IsLineArm, IsLineOfValue, line_arm, one_line, own_is, statements_are}
use Rattle.keep_edit_plan.proofs.RemoveCut.{the_change}
use Rattle.keep_edit_plan.proofs.RemoveSteps.{text_none}

-- ---- ends of texts

-- what is on a line before its comment
quiet_before : (profile : Profile) (l : Line) → IsLine profile l
    → ends_in_newline (content_text l.content ++ text_of l.after) ≡ false
quiet_before profile l is =
    let bare : Line = record { before = []; content = l.content; after = l.after; comment = None } in
    let content : List Written = content_leaves l.content in
    let whole : line_text bare ≡ content_text l.content ++ text_of l.after =
    ap (λ (ws : List Written). text_of (content ++ ws)) (append-nil l.after) ∙ text_of-append content l.after in
    ap ends_in_newline (sym whole)
    ∙ line_quiet profile bare (record { before = tt; content = is.content; after = is.after; comment = tt })

-- what is in a text ends as the text does there
part_ends : (before old after bytes : List ℕ) → bytes ≡ before ++ (old ++ after) → 0 < length old
    → get_or bytes (length before + length old - 1) 0 ≡ 0x0A → ends_in_newline old ≡ true
part_ends before old after bytes was some byte =
    let k : ℕ = length old - 1 in
    let place : length before + length old - 1 ≡ length before + k = omega (arith, some) in
    let here : get_or bytes (length before + length old - 1) 0 ≡ get_or old k 0 =
    ap (λ (n : ℕ). get_or bytes n 0) place
    ∙ ap (λ (t : List ℕ). get_or t (length before + k) 0) was
    ∙ get_or-append-add before (old ++ after) k 0
    ∙ get_or_append_left old after 0 k (omega (arith, some)) in
    ends_at old some ∙ ap (λ (n : ℕ). n == 0x0A) (sym here ∙ byte)

not_both : (b : Bool) → b ≡ true → b ≡ false → ⊥
not_both b e f = let k : true ≡ false = sym e ∙ f in absurd cc

-- ---- the text by its lines

-- after the first of these lines
abbrev tail_text : List Ended → Line → List ℕ
tail_text [] last = []
tail_text (e ∷ es) last = ended_text es ++ line_text last

ended_append : (pre rest : List Ended) → ended_text (pre ++ rest) ≡ ended_text pre ++ ended_text rest
ended_append pre rest =
    ap text_of (flat_map-append ended_leaves pre rest)
    ∙ text_of-append (flat_map ended_leaves pre) (flat_map ended_leaves rest)

abbrev before_lines : Document → List Ended → List ℕ
before_lines s pre = text_of (bom_leaves s.bom) ++ ended_text pre

text_parts : (s : Document) (pre rest : List Ended) → s.ended ≡ pre ++ rest
    → text s ≡ before_lines s pre ++ (head_text rest s.last ++ tail_text rest s.last)
text_parts s pre rest was =
    text_is s ∙ ap (λ (es : List Ended). text_of (bom_leaves s.bom) ++ (ended_text es ++ line_text s.last)) was
    ∙ ap (λ (t : List ℕ). text_of (bom_leaves s.bom) ++ (t ++ line_text s.last)) (ended_append pre rest)
    ∙ by rest
  where
    by : (rest : List Ended) → text_of (bom_leaves s.bom) ++ ((ended_text pre ++ ended_text rest) ++ line_text s.last)
        ≡ before_lines s pre ++ (head_text rest s.last ++ tail_text rest s.last)
    by [] = simp (append_assoc, append-nil) refl
    by (e ∷ es) =
        ap (λ (t : List ℕ). text_of (bom_leaves s.bom) ++ ((ended_text pre ++ t) ++ line_text s.last))
        (text_of-append (ended_leaves e) (flat_map ended_leaves es))
        ∙ simp append_assoc refl

-- with its newline
long_head : (rest : List Ended) (last : Line)
    → length (line_text (head_line rest last)) ≤ length (head_text rest last)
long_head [] last = omega arith
long_head (e ∷ es) last =
    omega (
      arith,
      ap (λ (t : List ℕ). length t) (text_of-append (line_leaves e.line) (e.newline ∷ [])),
      length-append (line_text e.line) (text_of (e.newline ∷ [])),
    )

newline_some : (t : List ℕ) → IsLeaf Strict leaf.Newline t → 0 < length t
newline_some t (inl e) = omega (arith, ap (λ (x : List ℕ). length x) e)
newline_some t (inr e) = omega (arith, ap (λ (x : List ℕ). length x) e)

longer_ended : (profile : Profile) (e : Ended) → IsEnded profile e
    → length (line_text e.line) < length (text_of (ended_leaves e))
longer_ended profile e is =
    omega (
      arith,
      ap (λ (t : List ℕ). length t) (text_of-append (line_leaves e.line) (e.newline ∷ [])),
      length-append (line_text e.line) (text_of (e.newline ∷ [])),
      length-append e.newline.text [],
      newline_some e.newline.text is.newline,
    )

ended_long : (e : Ended) (es : List Ended)
    → length (ended_text (e ∷ es)) ≡ length (text_of (ended_leaves e)) + length (ended_text es)
ended_long e es =
    ap (λ (t : List ℕ). length t) (text_of-append (ended_leaves e) (flat_map ended_leaves es))
    ∙ length-append (text_of (ended_leaves e)) (ended_text es)

-- where the line after these begins
next_start : (first more : List Ended) (e : Ended)
    → length (ended_text (take (suc (length first)) (first ++ e ∷ more)))
    ≡ length (ended_text first) + length (text_of (ended_leaves e))
next_start [] more e = omega (arith, ended_long e [])
next_start (x ∷ first) more e =
    omega (
      arith,
      next_start first more e,
      ended_long x (take (suc (length first)) (first ++ e ∷ more)),
      ended_long x first,
    )

content_some : (profile : Profile) (c : Content) (name : Name) (held : TreeValue) → IsContent profile c
    → c ≡ keyval name held → 0 < length (content_text c)
content_some profile c name held is was =
    let whole : content_text c ≡ text_of (name_leaves name) ++ value_text held =
    ap content_text was ∙ text_of-append (name_leaves name) (value_leaves held) in
    let valid : IsContent profile (keyval name held) = subst (IsContent profile) was is in
    omega (
      arith,
      ap (λ (t : List ℕ). length t) whole,
      length-append (text_of (name_leaves name)) (value_text held),
      (value_closed profile held valid.1).some,
    )

-- ---- the line

head_is : (profile : Profile) (rest : List Ended) (last : Line) → AllByRecursion (IsEnded profile) rest
    → IsLine profile last → IsLine profile (head_line rest last)
head_is profile [] last all is = is
head_is profile (e ∷ es) last all is = all.0.line

module _ (d : ProfiledText) (syntax : Syntax) (index : NodeInfos) (path : List Part) (s : Document)
    (holds : Holds d syntax index) (read : IsTextOfTree d s)
    (allowed : refusal d.profile limit s (remove path) ≡ None) (number : ℕ)
    (found : value_number_of path s ≡ Some number) (info : ValueInfo)
    (stored : slice_get (values_of syntax) number ≡ Some info) (line : ℕ) (owned : info.owner ≡ owner.Line line)
    (st : Statement) (here : slice_get (statements_of syntax) line ≡ Some st) where
  abbrev mine : Reading → Line → Bool
  mine r l = is_own path r l.content

  arm : IsLineArm d syntax index path s holds read allowed number info line
  arm = line_arm d syntax index path s holds read allowed number info line found stored owned

  abbrev of : IsLineOfValue d syntax index path s holds read allowed number info line
  of = arm.of

  rest_is : (pre rest : List Ended) → s.ended ≡ pre ++ rest → AllByRecursion (IsEnded d.profile) rest
  rest_is pre rest was =
      rest_valid d.profile pre rest
      (subst (λ (es : List Ended). AllByRecursion (IsEnded d.profile) es) was read.reads.valid.ended)

  -- where the first of these lines is in the text, and the value in it
  record IsLineAt (pre rest : List Ended) : Type 0 where
    begins : st.line.start ≡ length (before_lines s pre)
    ends : st.line.end ≡ st.line.start + length (head_text rest s.last)
    low : st.line.start ≤ st.span.start
    some : st.span.start < info.span.end
    fits : info.span.end ≤ st.line.start + length (line_text (head_line rest s.last))

  line_at : (pre rest : List Ended) → s.ended ≡ pre ++ rest → IsLineValue path s pre rest → IsLineAt pre rest
  line_at pre rest was v =
      let l : Line = head_line rest s.last in
      let same : v.own ≡ info =
      own_is d syntax index path s holds read allowed number info v.own found stored v.value in
      let line_is : v.number ≡ line =
      one_line v.number line (sym v.line ∙ ap (λ (i : ValueInfo). i.owner) same ∙ owned) in
      let one : v.statement ≡ st =
      one_of_two (slice_get (statements_of syntax) line) v.statement st
      (ap (λ (x : List Statement). slice_get x line) (statements_are d syntax index path s holds read allowed)
      ∙ ap (slice_get (numbered.statements s)) (sym line_is) ∙ v.here) here in
      let is : IsLine d.profile l = head_is d.profile rest s.last (rest_is pre rest was) read.reads.valid.last in
      let begins : st.line.start ≡ length (text_of (bom_leaves s.bom)) + length (ended_text pre) =
      subst (λ (x : Statement). x.line.start ≡ length (text_of (bom_leaves s.bom)) + length (ended_text pre)) one
      v.line_begins in
      let key : st.span.start ≡ st.line.start + length (text_of l.before) =
      subst (λ (x : Statement). x.span.start ≡ x.line.start + length (text_of l.before)) one v.begins in
      let end : info.span.end ≡ st.span.start + length (content_text l.content) =
      subst (λ (i : ValueInfo). i.span.end ≡ st.span.start + length (content_text l.content)) same
      (subst (λ (x : Statement). v.own.span.end ≡ x.span.start + length (content_text l.content)) one v.ends) in
      let more : List Written = l.after ++ comment_leaves l.comment in
      record {
        begins = begins ∙ sym (length-append (text_of (bom_leaves s.bom)) (ended_text pre));
        ends =
            subst (λ (x : Statement). x.line.end ≡ x.line.start + length (head_text rest s.last)) one v.line_ends;
        low = omega (arith, key);
        some =
            omega (
              arith,
              end,
              content_some d.profile l.content v.its_line.name v.its_line.held is.content
                  v.its_line.content,
            );
        fits =
            omega (
              arith,
              key,
              end,
              ap (λ (t : List ℕ). length t) (text_of-append l.before (content_leaves l.content ++ more)),
              length-append (text_of l.before) (text_of (content_leaves l.content ++ more)),
              ap (λ (t : List ℕ). length t) (text_of-append (content_leaves l.content) more),
              length-append (content_text l.content) (text_of more),
            );
      }

  pub line_within : (0 < st.line.end) × (st.line.end ≤ length d.text)
  line_within =
      let at : IsLineAt of.pre of.rest = line_at of.pre of.rest of.was of.found in
      let head : List ℕ = head_text of.rest s.last in
      let tail : List ℕ = tail_text of.rest s.last in
      let long : length d.text ≡ length (before_lines s of.pre) + (length head + length tail) =
      ap (λ (t : List ℕ). length t) (read.reads.spelled ∙ text_parts s of.pre of.rest of.was)
      ∙ length-append (before_lines s of.pre) (head ++ tail)
      ∙ ap (λ (n : ℕ). length (before_lines s of.pre) + n) (length-append head tail) in (
        omega (arith, at.some, at.fits, at.ends, long_head of.rest s.last),
        omega (arith, at.begins, at.ends, long),
      )

  -- the value's line is the path's own
  there : IsSome (last_line mine start (lines s))
  there =
      let its_line : IsOwnLine path s of.pre of.rest = of.found.its_line in
      let r : Reading = reading_after_lines start (map line_of of.pre) in
      let lines_are : lines s ≡ map line_of of.pre ++ (head_line of.rest s.last ∷ tail_lines of.rest s.last) =
      ap (λ (es : List Ended). map line_of es ++ s.last ∷ []) of.was ∙ lines_split of.pre of.rest s.last in
      let p : List Part = r.body ++ step 0 (Some its_line.name) in
      let passes : mine r (head_line of.rest s.last) ≡ true =
      ap (is_own path r) its_line.content
      ∙ subst (λ (q : List Part). same_path p q ≡ true) its_line.named (same_path-refl p) in
      subst (λ (ls : List Line). IsSome (last_line mine start ls)) (sym lines_are)
      (some_among mine start (map line_of of.pre) (head_line of.rest s.last) (tail_lines of.rest s.last) passes)

  module _ (byte : get_or d.text (st.line.end - 1) 0 ≡ 0x0A) where
    -- it has a newline
    record IsEndedLine : Type 0 where
      first : List Ended
      it : Ended
      more : List Ended
      was : s.ended ≡ first ++ it ∷ more
      own : last_line mine start (lines s) ≡ Some (length first)
      at : IsLineAt first (it ∷ more)

    ended_line : IsEndedLine
    ended_line = by (last_line mine start (lines s)) refl
      where
        here_is : (i : ℕ) → last_line mine start (lines s) ≡ Some i → (pre rest : List Ended) → s.ended ≡ pre ++ rest
            → i ≡ length pre → IsLineAt pre rest → IsEndedLine
        here_is i e pre [] was is at =
            let ends : ends_in_newline (line_text s.last) ≡ true =
            part_ends (before_lines s pre) (line_text s.last) [] d.text
            (read.reads.spelled ∙ text_parts s pre [] was) (omega (arith, at.low, at.some, at.fits))
            (ap (λ (n : ℕ). get_or d.text (n - 1) 0) (omega (arith, at.begins, at.ends)) ∙ byte) in
            absurd (not_both (ends_in_newline (line_text s.last)) ends
            (line_quiet d.profile s.last read.reads.valid.last))
        here_is i e pre (x ∷ more) was is at =
            record { first = pre; it = x; more = more; was = was; own = e ∙ ap Some is; at = at }

        by : (o : Option ℕ) → last_line mine start (lines s) ≡ o → IsEndedLine
        by None e = absurd (none_some (last_line mine start (lines s)) e there)
        by (Some i) e =
            let p = page_line mine start s.ended s.last i e in
            let own : IsOwnLine path s p.pre p.rest =
            own_line path s p.pre p.rest (head_line p.rest s.last).content refl p.passes in
            here_is i e p.pre p.rest p.was p.number (line_at p.pre p.rest p.was
            (line_value path s (rules_of_document s read.obeys) p.pre p.rest p.was own))

    abbrev l : IsEndedLine
    l = ended_line

    closed : length l.first < length s.ended
    closed = omega (arith, ap length l.was, length-append l.first (l.it ∷ l.more))

    next : st.line.end ≡ line_start s (suc (length l.first))
    next =
        omega (
          arith,
          l.at.begins,
          l.at.ends,
          length-append (text_of (bom_leaves s.bom)) (ended_text l.first),
          next_start l.first l.more l.it,
          ap (λ (es : List Ended). length (ended_text (take (suc (length l.first)) es))) l.was,
        )

    -- the white space after the value
    abbrev space : ℕ
    space = past_space d.text info.span.end

    space_short : space < st.line.end
    space_short = elim (cases_lt space st.line.end) [
      | inl e ↦ e
      | inr far ↦
          (let k : ℕ = st.line.end - 1 - info.span.end in
          let value_short : info.span.end < st.line.end =
          omega (arith, l.at.fits, l.at.ends, longer_ended d.profile l.it (rest_is l.first (l.it ∷ l.more) l.was).0) in
          let passes : is_ws (get_or (drop info.span.end d.text) k 0) ≡ true =
          prefix_len_passes is_ws (drop info.span.end d.text) k 0 (omega (arith, far, value_short)) in
          let at : info.span.end + k ≡ st.line.end - 1 = omega (arith, value_short) in
          let byte_is : get_or (drop info.span.end d.text) k 0 ≡ 0x0A =
          get_or-drop info.span.end d.text k 0 ∙ ap (λ (n : ℕ). get_or d.text n 0) at ∙ byte in
          absurd (not_both (is_ws 0x0A) (ap is_ws (sym byte_is) ∙ passes) refl))
    ]

    abbrev commented : Place
    commented = record { start = st.span.start; end = space; new = [] }

    abbrev whole : Place
    whole = record { start = st.line.start; end = st.line.end; new = [] }

    -- what is changed of the line, with this cut
    abbrev to_end : Place → TextChange
    to_end p = change_at p.start (st.line.end - p.start) (text_at d.text (span p.end st.line.end))

    module _ (cut : Cut) (cuts : cut_place d.text cut ≡ line_place d.text st info) (keeps : KeepsNothing cut) where
      cut_at : IsCutAt path s d.text cut
      cut_at = arm.cut st cut here cuts keeps

      abbrev hash : Bool
      hash = is_hash (first (drop space d.text))

      its_cut : (b : Bool) → hash ≡ b → cut_place d.text cut ≡ cond b commented whole
      its_cut b e = cuts ∙ ap (λ (x : Bool). cond x commented whole) e

      its_place : (b : Bool) → hash ≡ b → place s (remove path) ≡ cond b commented whole
      its_place b e = cut_at.0 ∙ its_cut b e

      cut_short : (b : Bool) → hash ≡ b → cut.span.end ≤ st.line.end
      cut_short true e = omega (arith, ap (λ (p : Place). p.end) (its_cut true e), space_short)
      cut_short false e = omega (arith, ap (λ (p : Place). p.end) (its_cut false e))

      end_here : IsCharBoundary d.text st.line.end
      end_here =
          let at : st.line.end - 1 + 1 ≡ st.line.end = omega (arith, line_within.0) in
          subst (IsCharBoundary d.text) at
          (IsCharBoundary-after_ascii d.text (st.line.end - 1) read.utf8
          (omega (arith, line_within.0, line_within.1)) (omega (arith, byte)))

      pub rest_span : IsSpanOf d.text (span cut.span.end st.line.end)
      rest_span = record {
        ordered = cut_short hash refl;
        within = line_within.1;
        starts = cut_at.1.ends;
        ends = end_here;
      }

      pub cut_span : IsSpanOf d.text (span cut.span.start st.line.end)
      cut_span = record {
        ordered = omega (arith, cut_at.1.ordered, cut_short hash refl);
        within = line_within.1;
        starts = cut_at.1.starts;
        ends = end_here;
      }

      abbrev otherwise : Option (Changed Document)
      otherwise =
          or_else (elim (last_line (begins path) start (lines s)) [
            | None ↦ None
            | Some i ↦ without_lines s i (suc (body_length (drop (suc i) (lines s))))
          ]) (nested removal path s)

      -- the change of the edit, by the line that is cleared, if one is
      abbrev change_by : Option (Changed Page) → Option (Changed Document)
      change_by o =
          or_else (within (with_page s) (text_of (bom_leaves s.bom)) [] o)
          (or_else (elim (last_line mine start (lines s)) [ None ↦ None | Some i ↦ without_lines s i 1 ]) otherwise)

      abbrev cleared : Option (Changed Page)
      cleared = in_lines (clear_line path) start s.ended s.last

      -- no `#` follows the value: no line is cleared
      takes_line : hash ≡ false → RemovesLine d.profile limit s path (to_end whole)
      takes_line plain =
          let is : place s (remove path) ≡ whole = its_place false plain in
          let (c, h) = the_change d path s read allowed in
          let at : length c.before ≡ st.line.start = ap (λ (p : Place). p.start) (sym h.place ∙ is) in
          let end : length c.before + length c.old ≡ st.line.end = ap (λ (p : Place). p.end) (sym h.place ∙ is) in
          let ends : ends_in_newline c.old ≡ true =
          part_ends c.before c.old c.after d.text (read.reads.spelled ∙ h.cut.was)
          (omega (arith, at, end, l.at.low, l.at.some, l.at.fits, l.at.ends, long_head (l.it ∷ l.more) s.last))
          (ap (λ (n : ℕ). get_or d.text (n - 1) 0) end ∙ byte) in
          let long : st.line.end ≡ st.line.start + (st.line.end - st.line.start) = omega (arith, at, end) in
          record {
            allowed = allowed;
            bare = bare c ends cleared refl h.is;
            number = length l.first;
            own = l.own;
            closed = closed;
            takes = text_none d.text st.line.end;
            is = is ∙ ap (λ (n : ℕ). record { start = st.line.start; end = n; new = [] }) long;
          }
        where
          bare : (c : Changed Document) → ends_in_newline c.old ≡ true → (o : Option (Changed Page)) → cleared ≡ o
              → change_by o ≡ Some c → cleared ≡ None
          bare c ends None e is = e
          bare c ends (Some p) e is =
              let k : IsCleared path start s.ended s.last p =
              subst (λ (o : Option (Changed Page)). EachOf (IsCleared path start s.ended s.last) o) e
              (cleared_lines path start s.ended s.last) in
              let same : framed_change (with_page s) (text_of (bom_leaves s.bom)) [] p ≡ c = cc in
              absurd (not_both (ends_in_newline c.old) ends
              (ap ends_in_newline (sym (ap (λ (x : Changed Document). x.old) same) ∙ k.old)
              ∙ quiet_before d.profile (head_line k.rest s.last)
              (head_is d.profile k.rest s.last (rest_is k.pre k.rest k.was) read.reads.valid.last)))

      -- a `#` follows the value: the line is not dropped
      clears_line : hash ≡ true → ClearsLine d.profile limit s path (to_end commented)
      clears_line follows =
          let is : place s (remove path) ≡ commented = its_place true follows in
          let (c, h) = the_change d path s read allowed in
          let (p, e) = some c (ap (λ (p : Place). p.end) (sym h.place ∙ is)) cleared refl h.is in
          let start : (place s (remove path)).start ≡ st.span.start = ap (λ (p : Place). p.start) is in
          let end : (place s (remove path)).end ≡ space = ap (λ (p : Place). p.end) is in
          let long : st.span.start < st.line.end = omega (arith, l.at.some, space_short) in
          record {
            allowed = allowed;
            cleared = p;
            commented = e;
            number = length l.first;
            own = l.own;
            closed = closed;
            some = omega (arith, start, end, l.at.some);
            is = subst (λ (x : Place). IsWider (text s) x (to_end commented)) (sym is) (record {
              rest = st.line.end - space;
              start = refl;
              end = omega (arith, long, space_short);
              within = omega (arith, space_short, line_within.1, ap (λ (t : List ℕ). length t) read.reads.spelled);
              new = ap (λ (t : List ℕ). take (st.line.end - space) (drop space t)) read.reads.spelled;
            });
            ends = omega (arith, long, next);
          }
        where
          some : (c : Changed Document) → length c.before + length c.old ≡ space → (o : Option (Changed Page))
              → cleared ≡ o → change_by o ≡ Some c → (p : Changed Page) × (cleared ≡ Some p)
          some c end (Some p) e is = (p, e)
          some c end None e is =
              let gone = without s (length l.first) 1 l.first (l.it ∷ l.more) c l.was refl
              (subst (λ (o : Option ℕ). or_else (elim o [ None ↦ None | Some i ↦ without_lines s i 1 ]) otherwise
              ≡ Some c) l.own is) in
              absurd (omega (
                arith,
                end,
                space_short,
                gone.start,
                ap (λ (t : List ℕ). length t) gone.old,
                length-append (text_of (ended_leaves l.it)) (drop_prefix 0 l.more s.last).old,
                l.at.begins,
                l.at.ends,
                length-append (text_of (bom_leaves s.bom)) (ended_text l.first),
              ))

      pub line_is_removed : MakesChange d.profile limit s (remove path) (to_end (cut_place d.text cut))
      line_is_removed = by hash refl
        where
          either : (b : Bool) → hash ≡ b → MakesChange d.profile limit s (remove path) (to_end (cond b commented whole))
          either true e = inr (inl (clears_line e))
          either false e = inl (takes_line e)

          by : (b : Bool) → hash ≡ b → MakesChange d.profile limit s (remove path) (to_end (cut_place d.text cut))
          by b e =
              subst (λ (p : Place). MakesChange d.profile limit s (remove path) (to_end p)) (sym (its_cut b e))
              (either b e)

-- ---- what is removed

-- it is a value
pub value_found : (profile : Profile) (path : List Part) (s : Document) (result : Result (NodeId × Piece) EditFault)
    (id : NodeId) (piece : Piece) (number : ℕ) → result ≡ Ok (id, piece) → piece ≡ Value number
    → IsRemovalFound profile path s result
    → (refusal profile limit s (remove path) ≡ None) × (value_number_of path s ≡ Some number)
value_found profile path s result id piece number is it h =
    (subst (λ (p : Piece). IsRemovalFound profile path s (Ok (id, p))) it
    (subst (IsRemovalFound profile path s) is h)).1
