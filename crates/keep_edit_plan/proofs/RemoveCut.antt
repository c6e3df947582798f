-- What `remove` takes hold of is cut where the edit's place is, between characters.
--
-- There are three arms, as in the code: a value on its own line (`line_arm`), a value in brackets (`entry_arm`), and a
-- section (`section_arm`). In each the value or statement that the code looked up is the one of the definition, since
-- the path has one number. Then the cut is at the same place. That its ends are between characters is shown from the
-- bytes: before an ASCII byte or at the end of the text there is always a boundary (`low_boundary`). In brackets this
-- takes a case for each comma (`entry_cut_at`), and the gap that is put back has such ends, too.
--
-- Theorems: `line_arm`, `entry_arm`, `section_arm`: the cut that each arm makes is the edit's; `removal_done` for the
-- whole edit.
use Rattle.std.proofs.Common.{◌≡◌, ℕ, zero, suc, ◌+◌, ◌<◌, ◌≤◌, true, false, List, [], ◌++◌, length, get_or, drop}
use Rattle.std.proofs.Common.{slice_get, refl, sym, ap, subst, ◌∙◌, length-append, append_assoc, length-drop}
use Rattle.std.proofs.Common.{get_or-drop, arith, Option, Some, None, Ok, inl, inr, drop_at}
use Rattle.keep_types.proofs.Shared.{one_of_two}
use Rattle.std.specs.Prelude.{IsUtf8, IsCharBoundary}
use Rattle.std.specs.List.{prefix_len}
use Rattle.std.proofs.lemmas.Bool.{cases_lt}
use Rattle.std.proofs.lemmas.Bool.Decides.{nat_tests}
use Rattle.std.proofs.lemmas.List.Sums.{prefix_len-le-length, prefix_len_passes}
use Rattle.std.proofs.lemmas.Option.{slice_get_within}
use Rattle.std.proofs.lemmas.Str.{IsCharBoundary-before_ascii, IsCharBoundary-after_ascii, IsCharBoundary-end}
use Rattle.keep_token.specs.Abnf.{is_ws}
use Rattle.keep_token.specs.Pieces.{first}
use Rattle.keep_types.specs.declared.syntax.Owner.{Owner}
use Rattle.keep_types.specs.declared.syntax.Owner.TheVariants as owner
use Rattle.keep_types.specs.declared.syntax.Statement.{Statement}
use Rattle.keep_types.specs.declared.syntax.ValueInfo.{ValueInfo}
use Rattle.keep_syntax.specs.declared.syntax.Syntax.{Syntax}
use Rattle.keep_syntax.specs.Tree.{Document, Ended, text}
use Rattle.keep_syntax.specs.Contract.{statements_of, values_of}
use Rattle.keep_syntax.specs.Numbered as numbered
use Rattle.keep_syntax.specs.Numbered.{span}
use Rattle.keep_syntax.proofs.Shared.{first-drop, is_solid}
use Rattle.keep_meaning.specs.KeyText.{text_at}
use Rattle.keep_path.specs.Path.{Part}
use Rattle.keep_meaning.specs.Meaning.{mentions_in}
use Rattle.keep_meaning.specs.Nodes.{is_define, is_begun, statement_number}
use Rattle.keep_path.specs.NodeInfos.{NodeInfos}
use Rattle.keep_edit_spec.specs.Changed.{Changed, Place, IsChangeOf, place_of}
use Rattle.keep_edit_spec.specs.Edits.{remove, change, nested as in_value, place, changed_or_same}
use Rattle.keep_edit_spec.specs.Values.{removal}
use Rattle.keep_edit_spec.specs.Laws.{IsLawfulEdit}
use Rattle.keep_edit_spec.specs.Refusals.{refusal}
use Rattle.keep_edit_spec.specs.Removal.{past_space, preserved_text, entry_place, line_place, section_place}
use Rattle.keep_edit_spec.proofs.Shared.{Rules, SomeOf, IsAloneAt, rules_of_document, has_some, remove_lawful}
use Rattle.keep_edit_spec.proofs.Shared.{alone_of_has, has_of_number, begun_alone, no_both, shared_define, IsValueAt}
use Rattle.keep_edit_spec.proofs.Shared.{IsLineValue, IsNested, IsEdged, IsComma, is_high, IsLow, IsSectionPlaced}
use Rattle.keep_edit_spec.proofs.Shared.{IsPlaced, IsRemoved, removed}
use Rattle.keep_edit_plan.specs.Reading.{limit, ProfiledText, IsTextOfTree, Holds}
use Rattle.keep_edit_plan.specs.Answers.{value_number_of, IsSpanOf}
use Rattle.keep_edit_plan.specs.Removing.{IsHeaded, IsRemovalOf, cut_place, KeepsNothing, KeepsGap, IsEntryIn, IsCutAt}
use Rattle.keep_edit_plan.specs.Places.{IsDoneAt}
use Rattle.keep_edit_plan.specs.declared.remove.Cut.{Cut}
use Rattle.keep_edit_plan.specs.declared.remove.Piece.{Piece}
use Rattle.keep_edit_plan.proofs.AnswerLaws.{tree_is}
use Rattle.keep_edit_plan.proofs.EditedLaws.{editable}
use Rattle.keep_edit_plan.proofs.FoundLaws.{value_there}
use Rattle.keep_edit_plan.proofs.RemoveNode.{has_of}

-- ---- between characters

low_byte : (c : ℕ) → is_high c ≡ false → c < 128
low_byte c h = grind (arith, nat_tests)

solid_low : (c : ℕ) → is_solid c ≡ true → is_high c ≡ false
solid_low c h = grind (arith, nat_tests)

ws_low : (c : ℕ) → is_ws c ≡ true → c < 128
ws_low c h = grind (arith, nat_tests)

-- before a byte of ASCII, or at the end
pub low_boundary : (bytes : List ℕ) (p : ℕ) → p ≤ length bytes → is_high (first (drop p bytes)) ≡ false
    → IsCharBoundary bytes p
low_boundary bytes p within low = elim (cases_lt p (length bytes)) [
  | inl l ↦
      IsCharBoundary-before_ascii bytes p l (low_byte (get_or bytes p 0) (ap is_high (sym (first-drop bytes p)) ∙ low))
  | inr g ↦
      (let e : length bytes ≡ p = omega (arith, within, g) in subst (IsCharBoundary bytes) e (IsCharBoundary-end bytes))
]

space_within : (bytes : List ℕ) (at : ℕ) → at ≤ length bytes → past_space bytes at ≤ length bytes
space_within bytes at h = omega (arith, h, prefix_len-le-length is_ws (drop at bytes), length-drop at bytes)

space_boundary : (bytes : List ℕ) (at : ℕ) → IsUtf8 bytes → at ≤ length bytes → IsCharBoundary bytes at
    → IsCharBoundary bytes (past_space bytes at)
space_boundary bytes at utf8 within here = by (prefix_len is_ws (drop at bytes)) refl
  where
    by : (n : ℕ) → prefix_len is_ws (drop at bytes) ≡ n → IsCharBoundary bytes (at + prefix_len is_ws (drop at bytes))
    by zero e =
        let same : at ≡ at + prefix_len is_ws (drop at bytes) = omega (arith, e) in
        subst (IsCharBoundary bytes) same here
    by (suc m) e =
        let passes : is_ws (get_or (drop at bytes) m 0) ≡ true =
        prefix_len_passes is_ws (drop at bytes) m 0 (omega (arith, e)) in
        let low : get_or bytes (at + m) 0 < 128 =
        ws_low (get_or bytes (at + m) 0) (ap is_ws (sym (get_or-drop at bytes m 0)) ∙ passes) in
        let same : at + m + 1 ≡ at + prefix_len is_ws (drop at bytes) = omega (arith, e) in
        subst (IsCharBoundary bytes) same
        (IsCharBoundary-after_ascii bytes (at + m) utf8 (omega (arith, e, space_within bytes at within)) low)

-- ---- a cut that keeps nothing

module _ (bytes : List ℕ) (path : List Part) (s : Document) (spelled : bytes ≡ text s) (c : Changed Document)
    (is : place s (remove path) ≡ place_of c) (was : IsChangeOf text s c) where
  whole : bytes ≡ c.before ++ (c.old ++ c.after)
  whole = spelled ∙ was.was

  long : length bytes ≡ length c.before + (length c.old + length c.after)
  long = ap (λ (t : List ℕ). length t) whole ∙ length-append c.before (c.old ++ c.after)
      ∙ ap (λ n. length c.before + n) (length-append c.old c.after)

  prefix_drop : drop (length c.before) bytes ≡ c.old ++ c.after
  prefix_drop = ap (drop (length c.before)) whole ∙ drop_at c.before (c.old ++ c.after) (length c.before) refl

  back_drop : drop (length c.before + length c.old) bytes ≡ c.after
  back_drop =
      ap (drop (length c.before + length c.old)) (whole ∙ sym (append_assoc c.before c.old c.after))
      ∙ drop_at (c.before ++ c.old) c.after (length c.before + length c.old) (length-append c.before c.old)

  pub low_cut : (cut : Cut) → cut_place bytes cut ≡ place_of c → KeepsNothing cut → IsLow c.old c.after
      → IsCutAt path s bytes cut
  low_cut cut at keeps low =
      let start : cut.span.start ≡ length c.before = ap (λ (p : Place). p.start) at in
      let end : cut.span.end ≡ length c.before + length c.old = ap (λ (p : Place). p.end) at in
      let first_here : IsCharBoundary bytes cut.span.start =
      low_boundary bytes cut.span.start (omega (arith, start, long))
      (ap (λ n. is_high (first (drop n bytes))) start ∙ ap (λ (t : List ℕ). is_high (first t)) prefix_drop
      ∙ low.opens) in
      let last_here : IsCharBoundary bytes cut.span.end =
      low_boundary bytes cut.span.end (omega (arith, end, long))
      (ap (λ n. is_high (first (drop n bytes))) end ∙ ap (λ (t : List ℕ). is_high (first t)) back_drop
      ∙ low.closes) in (
        is ∙ sym at,
        record {
          ordered = omega (arith, start, end);
          within = omega (arith, end, long);
          starts = first_here;
          ends = last_here;
        },
        record {
          ordered = omega (arith, keeps.0, keeps.1);
          within = omega (arith, keeps.1, start, long);
          starts = subst (IsCharBoundary bytes) (sym keeps.0) first_here;
          ends = subst (IsCharBoundary bytes) (sym keeps.1) first_here;
        },
      )

-- ---- a cut in brackets

pub entry_in : (bytes : List ℕ) (v : ValueInfo) → IsEdged bytes v → IsSpanOf bytes v.span → IsEntryIn bytes v
entry_in bytes v edged at = record {
  within = at.within;
  after = λ c e. let h = edged.after c e in (h.1, h.0.within);
  before = λ c e f. let h = edged.before c e f in (h.1, omega (arith, edged.ordered, at.within));
}

comma_low : (bytes : List ℕ) (c : ℕ) → IsComma bytes c → is_high (first (drop c bytes)) ≡ false
comma_low bytes c h = ap is_high h.byte

comma_here : (bytes : List ℕ) (c : ℕ) → IsComma bytes c → IsCharBoundary bytes c
comma_here bytes c h = low_boundary bytes c (omega (arith, h.within)) (comma_low bytes c h)

comma_past : (bytes : List ℕ) (c : ℕ) → IsUtf8 bytes → IsComma bytes c → IsCharBoundary bytes (suc c)
comma_past bytes c utf8 h =
    let e : c + 1 ≡ suc c = omega arith in
    subst (IsCharBoundary bytes) e
    (IsCharBoundary-after_ascii bytes c utf8 h.within
    (low_byte (get_or bytes c 0) (ap is_high (sym (first-drop bytes c)) ∙ comma_low bytes c h)))

module _ (bytes : List ℕ) (utf8 : IsUtf8 bytes) (v : ValueInfo) (edged : IsEdged bytes v) (at : IsSpanOf bytes v.span)
    (cut : Cut) where
  opens_here : IsCharBoundary bytes v.whole.start
  opens_here =
      low_boundary bytes v.whole.start (omega (arith, edged.ordered, at.within))
      (solid_low (first (drop v.whole.start bytes)) edged.opens)

  span_by : (a b : Option ℕ) → v.comma_after ≡ a → v.comma_before ≡ b
      → cut_place bytes cut ≡ elim a [
        | Some comma ↦
            record {
              start = v.whole.start;
              end = past_space bytes (suc comma);
              new = preserved_text (text_at bytes (span v.span.end comma));
            }
        | None ↦ elim b [
          | Some comma ↦
              record {
                start = comma;
                end = v.span.end;
                new = preserved_text (text_at bytes (span (suc comma) v.whole.start));
              }
          | None ↦ record { start = v.whole.start; end = v.span.end; new = [] }
        ]
      ] → IsSpanOf bytes cut.span
  span_by (Some comma) b e f h =
      let start : cut.span.start ≡ v.whole.start = ap (λ (p : Place). p.start) h in
      let end : cut.span.end ≡ past_space bytes (suc comma) = ap (λ (p : Place). p.end) h in
      let (occurs, after) = edged.after comma e in
      let within : suc comma ≤ length bytes = omega (arith, occurs.within) in
      record {
        ordered = omega (arith, start, end, edged.ordered, after);
        within = omega (arith, end, space_within bytes (suc comma) within);
        starts = subst (IsCharBoundary bytes) (sym start) opens_here;
        ends = subst (IsCharBoundary bytes) (sym end)
            (space_boundary bytes (suc comma) utf8 within (comma_past bytes comma utf8 occurs));
      }
  span_by None (Some comma) e f h =
      let start : cut.span.start ≡ comma = ap (λ (p : Place). p.start) h in
      let end : cut.span.end ≡ v.span.end = ap (λ (p : Place). p.end) h in
      let (occurs, before) = edged.before comma e f in
      record {
        ordered = omega (arith, start, end, edged.ordered, before);
        within = omega (arith, end, at.within);
        starts = subst (IsCharBoundary bytes) (sym start) (comma_here bytes comma occurs);
        ends = subst (IsCharBoundary bytes) (sym end) at.ends;
      }
  span_by None None e f h =
      let start : cut.span.start ≡ v.whole.start = ap (λ (p : Place). p.start) h in
      let end : cut.span.end ≡ v.span.end = ap (λ (p : Place). p.end) h in
      record {
        ordered = omega (arith, start, end, edged.ordered);
        within = omega (arith, end, at.within);
        starts = subst (IsCharBoundary bytes) (sym start) opens_here;
        ends = subst (IsCharBoundary bytes) (sym end) at.ends;
      }

  preserved_by : IsSpanOf bytes cut.span → KeepsGap v cut → IsSpanOf bytes cut.preserved
  preserved_by h (inl keeps) = record {
    ordered = omega (arith, keeps.0, keeps.1);
    within = omega (arith, keeps.1, h.ordered, h.within);
    starts = subst (IsCharBoundary bytes) (sym keeps.0) h.starts;
    ends = subst (IsCharBoundary bytes) (sym keeps.1) h.starts;
  }
  preserved_by h (inr (inl (start, comma))) =
      let (occurs, after) = edged.after cut.preserved.end comma in
      record {
        ordered = omega (arith, start, after);
        within = omega (arith, occurs.within);
        starts = subst (IsCharBoundary bytes) (sym start) at.ends;
        ends = comma_here bytes cut.preserved.end occurs;
      }
  preserved_by h (inr (inr (none, comma, start, end))) =
      let (occurs, before) = edged.before cut.span.start none comma in
      record {
        ordered = omega (arith, start, end, before);
        within = omega (arith, end, edged.ordered, at.within);
        starts = subst (IsCharBoundary bytes) (sym start) (comma_past bytes cut.span.start utf8 occurs);
        ends = subst (IsCharBoundary bytes) (sym end) opens_here;
      }

  pub entry_cut_at : (path : List Part) (s : Document) → place s (remove path) ≡ entry_place bytes v
      → cut_place bytes cut ≡ entry_place bytes v → KeepsGap v cut → IsCutAt path s bytes cut
  entry_cut_at path s is h keeps =
      let here : IsSpanOf bytes cut.span = span_by v.comma_after v.comma_before refl refl h in
      (is ∙ sym h, here, preserved_by here keeps)

-- ---- what the code finds

pub one_line : (a b : ℕ) → owner.Line a ≡ owner.Line b → a ≡ b
one_line a b e = cc

not_nested : (o : Owner) (i : ℕ) → IsNested o → o ≡ owner.Line i → ⊥
not_nested (owner.Line j) i h e = h
not_nested (owner.Inline j) i h e = absurd cc
not_nested (owner.Item j) i h e = absurd cc

-- what holds of the change
pub record IsChanged (path : List Part) (s : Document) (c : Changed Document) : Type 0 where
  pub is : change s (remove path) ≡ Some c
  pub place : place s (remove path) ≡ place_of c
  pub cut : IsChangeOf text s c
  pub placed : IsPlaced path s c

pub the_change : (d : ProfiledText) (path : List Part) (s : Document) → IsTextOfTree d s
    → refusal d.profile limit s (remove path) ≡ None → (c : Changed Document) × IsChanged path s c
the_change d path s read allowed =
    let r : IsRemoved d.profile limit path s = removed d.profile limit path s (editable d s read) allowed in (
      r.lawful.changed,
      record {
        is = r.lawful.is;
        place = ap (λ (o : Option (Changed Document)). place_of (changed_or_same s o)) r.lawful.is;
        cut = r.cut;
        placed = r.placed;
      },
    )

-- a value and a header are not at one path
no_header : (d : ProfiledText) (path : List Part) (s : Document) (n : ℕ) (c : Changed Document) → IsTextOfTree d s
    → value_number_of path s ≡ Some n → IsSectionPlaced path s c → ⊥
no_header d path s n c read found h =
    let rules : Rules (mentions_in s) = rules_of_document s read.obeys in
    let alone : SomeOf (IsAloneAt path) (mentions_in s) =
    alone_of_has path (mentions_in s) (has_of_number path s n read.obeys found) in
    elim h.headed [
      | inl d ↦
          no_both is_define shared_define path (mentions_in s)
          (has_some is_define path (mentions_in s) (has_of path s read.obeys is_define statement_number h.number d))
          alone rules
      | inr b ↦
          begun_alone s path rules (has_some is_begun path (mentions_in s)
          (has_of path s read.obeys is_begun statement_number h.number b)) alone
    ]

module _ (d : ProfiledText) (syntax : Syntax) (index : NodeInfos) (path : List Part) (s : Document)
    (holds : Holds d syntax index) (read : IsTextOfTree d s)
    (allowed : refusal d.profile limit s (remove path) ≡ None) where
  pub statements_are : statements_of syntax ≡ numbered.statements s
  statements_are = holds.is.statements ∙ ap numbered.statements (tree_is d syntax index s holds read)

  values_are : values_of syntax ≡ numbered.values s
  values_are = holds.is.values ∙ ap numbered.values (tree_is d syntax index s holds read)

  pub own_is : (number : ℕ) (info own : ValueInfo) → value_number_of path s ≡ Some number
      → slice_get (values_of syntax) number ≡ Some info → IsValueAt path s own → own ≡ info
  own_is number info own found here h =
      one_of_two (slice_get (numbered.values s) number) own info
      (ap (slice_get (numbered.values s)) (one_of_two (value_number_of path s) number h.number found h.is) ∙ h.here)
      (ap (λ (l : List ValueInfo). slice_get l number) (sym values_are) ∙ here)

  -- a keyval's line
  pub record IsLineOfValue (number : ℕ) (info : ValueInfo) (line : ℕ) : Type 0 where
    pub pre : List Ended
    pub rest : List Ended
    pub was : s.ended ≡ pre ++ rest
    pub found : IsLineValue path s pre rest
    pub own_is : found.own ≡ info
    pub value_is : found.value.number ≡ number
    pub line_is : found.number ≡ line

  pub record IsLineArm (number : ℕ) (info : ValueInfo) (line : ℕ) : Type 0 where
    pub within : line < length (statements_of syntax)
    pub ends : info.span.end ≤ length d.text
    pub cut : (st : Statement) (cut : Cut) → slice_get (statements_of syntax) line ≡ Some st
        → cut_place d.text cut ≡ line_place d.text st info → KeepsNothing cut → IsCutAt path s d.text cut
    pub of : IsLineOfValue number info line

  pub line_arm : (number : ℕ) (info : ValueInfo) (line : ℕ) → value_number_of path s ≡ Some number
      → slice_get (values_of syntax) number ≡ Some info → info.owner ≡ owner.Line line → IsLineArm number info line
  line_arm number info line found here owned =
      let (c, h) = the_change d path s read allowed in
      let there = value_there d syntax index path s number holds read found info here in
      elim h.placed [
        | inl p ↦
            (let v : IsLineValue path s p.pre p.rest = p.found in
            let same : v.own ≡ info = own_is number info v.own found here v.value in
            let line_is : v.number ≡ line =
            one_line v.number line (sym v.line ∙ ap (λ (i : ValueInfo). i.owner) same ∙ owned) in
            let occurs : slice_get (statements_of syntax) line ≡ Some v.statement =
            ap (λ (l : List Statement). slice_get l line) statements_are
            ∙ ap (slice_get (numbered.statements s)) (sym line_is) ∙ v.here in
            record {
              within = slice_get_within (statements_of syntax) line v.statement occurs;
              ends = there.span.within;
              cut = λ st cut is at keeps.
                  (let one : st ≡ v.statement =
                  one_of_two (slice_get (statements_of syntax) line) st v.statement is occurs in
                  low_cut d.text path s read.reads.spelled c h.place h.cut cut
                  (at ∙ ap (λ (t : Statement). line_place d.text t info) one
                  ∙ ap (line_place d.text v.statement) (sym same)
                  ∙ ap (λ (b : List ℕ). line_place b v.statement v.own) read.reads.spelled ∙ p.place) keeps p.low);
              of = record {
                pre = p.pre;
                rest = p.rest;
                was = p.was;
                found = v;
                own_is = same;
                value_is = one_of_two (value_number_of path s) v.value.number number v.value.is found;
                line_is = line_is;
              };
            })
        | inr (inl (p, inside)) ↦
            absurd (not_nested p.own.owner line p.nested
            (ap (λ (i : ValueInfo). i.owner) (own_is number info p.own found here p.value) ∙ owned))
        | inr (inr p) ↦ absurd (no_header d path s number c read found p)
      ]

  -- an entry of brackets
  pub record IsEntryArm (info : ValueInfo) : Type 0 where
    pub inside : change s (remove path) ≡ in_value removal path s
    pub nested : IsEntryIn d.text info
    pub cut : (cut : Cut) → cut_place d.text cut ≡ entry_place d.text info → KeepsGap info cut
        → IsCutAt path s d.text cut

  pub entry_arm : (number : ℕ) (info : ValueInfo) → value_number_of path s ≡ Some number
      → slice_get (values_of syntax) number ≡ Some info → ((i : ℕ) → info.owner ≡ owner.Line i → ⊥) → IsEntryArm info
  entry_arm number info found here other =
      let (c, h) = the_change d path s read allowed in
      let there = value_there d syntax index path s number holds read found info here in
      elim h.placed [
        | inl p ↦
            absurd (other p.found.number (sym
            (ap (λ (i : ValueInfo). i.owner) (own_is number info p.found.own found here p.found.value)) ∙ p.found.line))
        | inr (inl (p, inside)) ↦
            (let same : p.own ≡ info = own_is number info p.own found here p.value in
            let edged : IsEdged d.text info =
            subst (λ (i : ValueInfo). IsEdged d.text i) same
            (subst (λ (b : List ℕ). IsEdged b p.own) (sym read.reads.spelled) p.edged) in
            let is : place s (remove path) ≡ entry_place d.text info =
            h.place ∙ sym p.place ∙ ap (λ (b : List ℕ). entry_place b p.own) (sym read.reads.spelled)
            ∙ ap (entry_place d.text) same in
            record {
              inside = h.is ∙ sym inside;
              nested = entry_in d.text info edged there.span;
              cut = λ cut at keeps. entry_cut_at d.text read.utf8 info edged there.span cut path s is at keeps;
            })
        | inr (inr p) ↦ absurd (no_header d path s number c read found p)
      ]

  -- a header with its body
  pub record IsSectionArm (number : ℕ) : Type 0 where
    pub within : number < length (statements_of syntax)
    pub cut : (cut : Cut) → cut_place d.text cut ≡ section_place (drop number (statements_of syntax)) → KeepsNothing cut
        → IsCutAt path s d.text cut

  headed_is : (n m : ℕ) → IsHeaded path s n → (c : Changed Document) (p : IsSectionPlaced path s c) → p.number ≡ m
      → m ≡ n
  headed_is n m (inl (d, b)) c p e = elim p.headed [
    | inl k ↦ sym e ∙ one_of_two _ p.number n k d
    | inr k ↦ (let bad : Some p.number ≡ None = sym k ∙ b in absurd cc)
  ]
  headed_is n m (inr (b, d)) c p e = elim p.headed [
    | inl k ↦ (let bad : Some p.number ≡ None = sym k ∙ d in absurd cc)
    | inr k ↦ sym e ∙ one_of_two _ p.number n k b
  ]

  pub section_arm : (number : ℕ) → value_number_of path s ≡ None → IsHeaded path s number → IsSectionArm number
  section_arm number none headed =
      let (c, h) = the_change d path s read allowed in
      elim h.placed [
        | inl p ↦ absurd (valued p.found.own p.found.value)
        | inr (inl (p, inside)) ↦ absurd (valued p.own p.value)
        | inr (inr p) ↦
            (let same : p.number ≡ number = headed_is number p.number headed c p refl in
            record {
              within = omega (arith, same, p.within, ap (λ (l : List Statement). length l) statements_are);
              cut = λ cut at keeps. low_cut d.text path s read.reads.spelled c h.place h.cut cut
                  (at ∙ ap (λ (l : List Statement). section_place (drop number l)) statements_are
                  ∙ ap (λ n. section_place (drop n (numbered.statements s))) (sym same) ∙ p.place) keeps p.low;
            })
      ]
    where
      valued : (own : ValueInfo) → IsValueAt path s own → ⊥
      valued own v = let bad : Some v.number ≡ None = sym v.is ∙ none in absurd cc

-- ---- the edit

pub removal_law : (d : ProfiledText) (path : List Part) (s : Document) → IsTextOfTree d s
    → refusal d.profile limit s (remove path) ≡ None → IsLawfulEdit d.profile limit s (remove path)
removal_law d path s read allowed = remove_lawful d.profile limit s path (editable d s read) allowed

pub removal_done : (d : ProfiledText) (path : List Part) (s : Document) (piece : Piece) (cut : Cut)
    → IsRemovalOf d.profile path s (Ok piece) → IsCutAt path s d.text cut
    → IsDoneAt s (remove path) d (text_at d.text cut.preserved) (Ok cut.span)
removal_done d path s piece cut h at = (h.0, at.0, at.1)
