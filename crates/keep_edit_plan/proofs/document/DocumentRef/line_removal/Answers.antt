use Rattle.std.proofs.Common.{◌≡◌, ℕ, ◌-◌, ◌≤◌, List, length, get_or, arith, subst, sym, ap, ◌∙◌, Some}
use Rattle.std.specs.Global.{Global}
use Rattle.std.specs.Prelude.{Err, IfOk, Ok, Result, String, string_bytes}
use Rattle.std.specs.Result.{result_ok}
use Rattle.keep_syntax.specs.Numbered.{span}
use Rattle.keep_meaning.specs.KeyText.{text_at}
use Rattle.keep_edit_spec.specs.Edits.{remove}
use Rattle.keep_edit_spec.specs.Removal.{line_place}
use Rattle.keep_edit_spec.specs.Runs.{MakesChange}
use Rattle.keep_edit_spec.specs.TextChanges.{change_at}
use Rattle.keep_edit_plan.specs.Answers.{IsSpanOf}
use Rattle.keep_edit_plan.specs.Reading.{limit}
use Rattle.keep_edit_plan.specs.Removing.{cut_place}
use Rattle.keep_edit_plan.proofs.AnswerLaws.{seen, text_seen}
use Rattle.keep_edit_plan.proofs.FoundLaws.{value_nested}
use Rattle.keep_edit_plan.proofs.RemoveCut.{line_arm}
use Rattle.keep_edit_plan.proofs.RemovedLineLaws.{cut_span, line_is_removed, line_within, rest_span, value_found}
use Rattle.keep_edit_plan.proofs.document.DocumentRef.line_removal.Goals as goal

-- the bytes of a text that was copied
copied : {E : Type 0} (r : Result (String Global) E) (t : String Global) (bytes : List ℕ) → Some t ≡ result_ok r
    → IfOk r (λ (u : String Global). string_bytes u ≡ bytes) → string_bytes t ≡ bytes
copied (Ok u) t bytes is h = let same : u ≡ t = cc in subst (λ (x : String Global). string_bytes x ≡ bytes) same h
copied (Err e) t bytes is h = absurd cc

pub value-value-requires : goal.value-value-requires
value-value-requires c =
    let h = seen c.self.view_is c.self.invariant in
    let found =
    value_found c.args.self.now.profile c.args.path.now h.tree c.piece.result _ _ _ c.in-Ok-default-Value.is
    c.in-Ok-default-Value.field-0-1-is (c.piece.ensures h.tree h.read) in
    value_nested _ _ _ c.args.path.now h.tree _ h h.read found.1

pub statement-statement-requires : goal.statement-statement-requires
statement-statement-requires c =
    let h = seen c.self.view_is c.self.invariant in
    let found =
    value_found c.args.self.now.profile c.args.path.now h.tree c.piece.result _ _ _ c.in-Ok-default-Value.is
    c.in-Ok-default-Value.field-0-1-is (c.piece.ensures h.tree h.read) in
    (line_arm _ _ _ c.args.path.now h.tree h h.read found.0 _ c.value-value.result c.in-Line.line found.1
    c.value-value.ensures.stored c.in-Line.is).within

pub overflow_sub-end : goal.overflow_sub-end
overflow_sub-end c =
    let h = seen c.self.view_is c.self.invariant in
    let found =
    value_found c.args.self.now.profile c.args.path.now h.tree c.piece.result _ _ _ c.in-Ok-default-Value.is
    c.in-Ok-default-Value.field-0-1-is (c.piece.ensures h.tree h.read) in
    (line_within _ _ _ c.args.path.now h.tree h h.read found.0 _ found.1 c.value-value.result
    c.value-value.ensures.stored c.in-Line.line c.in-Line.is c.statement-statement.result
    c.statement-statement.ensures).0

pub bounds-bytes-end : goal.bounds-bytes-end
bounds-bytes-end c =
    let h = seen c.self.view_is c.self.invariant in
    let found =
    value_found c.args.self.now.profile c.args.path.now h.tree c.piece.result _ _ _ c.in-Ok-default-Value.is
    c.in-Ok-default-Value.field-0-1-is (c.piece.ensures h.tree h.read) in
    let same : c.as_bytes-bytes.result.now ≡ c.args.self.now.text =
    c.as_bytes-bytes.ensures.value ∙ text_seen c.self.view_is in
    let within =
    line_within _ _ _ c.args.path.now h.tree h h.read found.0 _ found.1 c.value-value.result
    c.value-value.ensures.stored c.in-Line.line c.in-Line.is c.statement-statement.result
    c.statement-statement.ensures in
    omega (arith, within.0, within.1, ap length same)

pub line_cut-requires : goal.line_cut-requires
line_cut-requires c =
    let h = seen c.self.view_is c.self.invariant in
    let found =
    value_found c.args.self.now.profile c.args.path.now h.tree c.piece.result _ _ _ c.in-Ok-default-Value.is
    c.in-Ok-default-Value.field-0-1-is (c.piece.ensures h.tree h.read) in
    let same : c.as_bytes-bytes.result.now ≡ c.args.self.now.text =
    c.as_bytes-bytes.ensures.value ∙ text_seen c.self.view_is in
    subst (λ (b : List ℕ). c.value-value.result.span.end ≤ length b) (sym same)
    (line_arm _ _ _ c.args.path.now h.tree h h.read found.0 _ c.value-value.result c.in-Line.line found.1
    c.value-value.ensures.stored c.in-Line.is).ends

pub part_at-rest-requires : goal.part_at-rest-requires
part_at-rest-requires c =
    let h = seen c.self.view_is c.self.invariant in
    let found =
    value_found c.args.self.now.profile c.args.path.now h.tree c.piece.result _ _ _ c.in-Ok-default-Value.is
    c.in-Ok-default-Value.field-0-1-is (c.piece.ensures h.tree h.read) in
    let same : c.as_bytes-bytes.result.now ≡ c.args.self.now.text =
    c.as_bytes-bytes.ensures.value ∙ text_seen c.self.view_is in
    let st = c.statement-statement.result in
    let cut = c.line_cut.result in
    subst (λ (b : List ℕ). IsSpanOf b (span cut.span.end st.line.end)) (sym (text_seen c.self.view_is))
    (rest_span _ _ _ c.args.path.now h.tree h h.read found.0 _ found.1 c.value-value.result
    c.value-value.ensures.stored c.in-Line.line c.in-Line.is st c.statement-statement.ensures
    (ap (λ (b : List ℕ). get_or b (st.line.end - 1) 0) (sym same) ∙ c.if-bytes-end-ne10.false) cut
    (subst (λ (b : List ℕ). cut_place b cut ≡ line_place b st c.value-value.result) same c.line_cut.ensures.place)
    c.line_cut.ensures.preserved)

pub returns-clause-taken : goal.returns-clause-taken
returns-clause-taken c = λ s read.
    let h = seen c.self.view_is c.self.invariant in
    let found =
    value_found c.args.self.now.profile c.args.path.now s c.piece.result _ _ _ c.in-Ok-default-Value.is
    c.in-Ok-default-Value.field-0-1-is (c.piece.ensures s read) in
    let same : c.as_bytes-bytes.result.now ≡ c.args.self.now.text =
    c.as_bytes-bytes.ensures.value ∙ text_seen c.self.view_is in
    let st = c.statement-statement.result in
    let cut = c.line_cut.result in
    let new : string_bytes c.in_ok-ok.field-0 ≡ text_at c.args.self.now.text (span cut.span.end st.line.end) =
    copied c.from_str.result c.in_ok-ok.field-0 c.part_at-rest.result.now c.in_ok-ok.ensures.value c.from_str.ensures.ok
    ∙ c.part_at-rest.ensures
    ∙ ap (λ (b : List ℕ). text_at b (span cut.span.end st.line.end)) (text_seen c.self.view_is) in
    subst (λ (b : List ℕ). MakesChange c.args.self.now.profile limit s (remove c.args.path.now)
    (change_at cut.span.start (st.line.end - cut.span.start) b)) (sym new)
    (line_is_removed _ _ _ c.args.path.now s h read found.0 _ found.1 c.value-value.result
    c.value-value.ensures.stored c.in-Line.line c.in-Line.is st c.statement-statement.ensures
    (ap (λ (b : List ℕ). get_or b (st.line.end - 1) 0) (sym same) ∙ c.if-bytes-end-ne10.false) cut
    (subst (λ (b : List ℕ). cut_place b cut ≡ line_place b st c.value-value.result) same c.line_cut.ensures.place)
    c.line_cut.ensures.preserved)

pub returns-clause-within : goal.returns-clause-within
returns-clause-within c =
    let h = seen c.self.view_is c.self.invariant in
    let found =
    value_found c.args.self.now.profile c.args.path.now h.tree c.piece.result _ _ _ c.in-Ok-default-Value.is
    c.in-Ok-default-Value.field-0-1-is (c.piece.ensures h.tree h.read) in
    let same : c.as_bytes-bytes.result.now ≡ c.args.self.now.text =
    c.as_bytes-bytes.ensures.value ∙ text_seen c.self.view_is in
    let st = c.statement-statement.result in
    let cut = c.line_cut.result in
    cut_span _ _ _ c.args.path.now h.tree h h.read found.0 _ found.1 c.value-value.result
    c.value-value.ensures.stored c.in-Line.line c.in-Line.is st c.statement-statement.ensures
    (ap (λ (b : List ℕ). get_or b (st.line.end - 1) 0) (sym same) ∙ c.if-bytes-end-ne10.false) cut
    (subst (λ (b : List ℕ). cut_place b cut ≡ line_place b st c.value-value.result) same c.line_cut.ensures.place)
    c.line_cut.ensures.preserved
