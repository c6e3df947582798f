use Rattle.std.proofs.Common.{◌≡◌, ◌≢◌, ◌⊎◌, ◌==◌, ◌≤◌, ℕ, List, Result, ap, drop, false}
use Rattle.std.proofs.Common.{length, arith, inl, inr, subst, sym}
use Rattle.std.proofs.Common.{take, true, ◌∙◌}
use Rattle.std.proofs.lemmas.Bool.{eq-eqb}
use Rattle.std.specs.Prelude.{IsCharBoundary, string_bytes}
use Rattle.keep_syntax.specs.Tree as tree
use Rattle.keep_syntax.specs.Tree.{value_depth}
use Rattle.keep_path.specs.Path.{Part}
use Rattle.keep_edit_spec.specs.declared.fault.EditFault.{EditFault}
use Rattle.keep_edit_spec.specs.Insertion as insertion
use Rattle.keep_edit_plan.specs.Inserting.{IsInsertionOf, lines_start}
use Rattle.keep_edit_plan.specs.Reading.{IsTextOfTree, IsTextOfValue, ProfiledText}
use Rattle.keep_edit_plan.specs.declared.insert.Insertion.{Insertion}
use Rattle.keep_edit_plan.proofs.AddedLineLaws.{at_boundary, done, insertion_there, line_is_added}
use Rattle.keep_edit_plan.proofs.AnswerLaws.{seen}
use Rattle.keep_edit_plan.proofs.InsertedLaws.{body_there, body_within}
use Rattle.keep_edit_plan.proofs.planner.Planner.added_line.Goals as goal
use Rattle.keep_edit_plan.proofs.planner.Planner.added_line.Goals.{else-depth-gt0, then-depth-gt0}

-- of the document that edits are planned of
abbrev IsFound : ProfiledText → List Part → List ℕ → Result Insertion EditFault → Type 0
IsFound now path value result =
    (s : tree.Document) → IsTextOfTree now s → (v : tree.Value) → IsTextOfValue value v
    → IsInsertionOf now.profile path v s result

pub body_end-at-requires : goal.body_end-at-requires
body_end-at-requires c =
    let now = c.args.self.now in
    let h = seen c.self.view_is (seen (ap (λ p. p.document) c.self-inside.view_is) c.self-inside.invariant) in
    let found : IsFound now c.args.path.now c.args.value.now c.insertion.result =
    subst (λ d. IsFound d c.args.path.now c.args.value.now c.insertion.result) c.self.view_is
    c.insertion.ensures.insertion in
    let (v, value) = c.as_str-given.ensures.accepted in
    let there =
    insertion_there now.profile c.args.path.now v h.tree c.in_ok-insertion.insertion c.insertion.result
    c.in_ok-insertion.ensures.value (found h.tree h.read v value) in (
      h.tree,
      h.read,
      (body_there _ _ _ c.args.path.now h.tree v c.args.value.now c.in_ok-insertion.insertion h h.read value there
          c.insertion.ensures.utf8 _ c.in-AfterBody.is).within,
    )

pub is_open-requires-clause-within : goal.is_open-requires-clause-within
is_open-requires-clause-within c =
    let now = c.args.self.now in
    let h = seen c.self.view_is (seen (ap (λ p. p.document) c.self-inside.view_is) c.self-inside.invariant) in
    let found : IsFound now c.args.path.now c.args.value.now c.insertion.result =
    subst (λ d. IsFound d c.args.path.now c.args.value.now c.insertion.result) c.self.view_is
    c.insertion.ensures.insertion in
    let (v, value) = c.as_str-given.ensures.accepted in
    let there =
    insertion_there now.profile c.args.path.now v h.tree c.in_ok-insertion.insertion c.insertion.result
    c.in_ok-insertion.ensures.value (found h.tree h.read v value) in
    subst (λ (d : ProfiledText). c.body_end-at.result ≤ length d.text)
    (sym (c.self-2.view_is ∙ c.body_end-at.ensures.same))
    (body_within _ _ _ c.args.path.now h.tree v c.args.value.now c.in_ok-insertion.insertion h h.read value there
    c.insertion.ensures.utf8 _ _ c.in-AfterBody.is (c.body_end-at.ensures.end h.tree h.read))

pub push_line-requires-clause-within : goal.push_line-requires-clause-within
push_line-requires-clause-within c =
    let now = c.args.self.now in
    let h = seen c.self.view_is (seen (ap (λ p. p.document) c.self-inside.view_is) c.self-inside.invariant) in
    let found : IsFound now c.args.path.now c.args.value.now c.insertion.result =
    subst (λ d. IsFound d c.args.path.now c.args.value.now c.insertion.result) c.self.view_is
    c.insertion.ensures.insertion in
    let (v, value) = c.as_str-given.ensures.accepted in
    let there =
    insertion_there now.profile c.args.path.now v h.tree c.in_ok-insertion.insertion c.insertion.result
    c.in_ok-insertion.ensures.value (found h.tree h.read v value) in
    subst (λ (d : ProfiledText). c.body_end-at.result ≤ length d.text)
    (sym (c.self-2.view_is ∙ c.body_end-at.ensures.same))
    (body_within _ _ _ c.args.path.now h.tree v c.args.value.now c.in_ok-insertion.insertion h h.read value there
    c.insertion.ensures.utf8 _ _ c.in-AfterBody.is (c.body_end-at.ensures.end h.tree h.read))

pub returns-clause-added : goal.returns-clause-added
returns-clause-added c = λ s read v value.
    let now = c.args.self.now in
    let h = seen c.self.view_is (seen (ap (λ p. p.document) c.self-inside.view_is) c.self-inside.invariant) in
    let found : IsFound now c.args.path.now c.args.value.now c.insertion.result =
    subst (λ d. IsFound d c.args.path.now c.args.value.now c.insertion.result) c.self.view_is
    c.insertion.ensures.insertion in
    let there =
    insertion_there now.profile c.args.path.now v s c.in_ok-insertion.insertion c.insertion.result
    c.in_ok-insertion.ensures.value (found s read v value) in
    let then_read : IsTextOfTree c.self-2.inside.document s =
    subst (λ (d : ProfiledText). IsTextOfTree d s) (sym (c.self-2.view_is ∙ c.body_end-at.ensures.same)) read in
    let closed : false ≡ insertion.is_open (drop (lines_start s) (take c.body_end-at.result now.text)) =
    subst (λ (d : ProfiledText).
    false ≡ insertion.is_open (drop (lines_start s) (take c.body_end-at.result d.text)))
    (c.self-2.view_is ∙ c.body_end-at.ensures.same)
    (sym c.if-is_open.false ∙ c.is_open.ensures s then_read) in
    let later : (value_depth v ≤ 0) ⊎ (c.body_end-at.result ≢ lines_start s) =
    elim c.if-depth-gt0.branch [
      | else-depth-gt0 w ↦ inl (omega (arith, w.if-depth-gt0.false, c.depth.ensures v value))
      | then-depth-gt0 w ↦ inr (λ same.
          (let yes : (c.body_end-at.result == w.lines_start.result) ≡ true =
          eq-eqb c.body_end-at.result w.lines_start.result (same ∙ sym (w.lines_start.ensures s then_read)) in
          let no : (c.body_end-at.result == w.lines_start.result) ≡ false =
          sym w.value-is ∙ c.if-at-lines_start.false in
          absurd cc))
    ] in
    line_is_added _ _ _ c.args.path.now s v c.args.value.now c.in_ok-insertion.insertion h read value there
    c.insertion.ensures.utf8 c.in-AfterBody.header c.in-AfterBody.is c.body_end-at.result _
    (string_bytes c.push_line.new.out) (c.body_end-at.ensures.end s read) c.in_ok-line.ensures
    (done _ c.push_line.result _ c.in_ok-ok.ensures.value (c.push_line.ensures s then_read v value)) closed later

pub returns-clause-within : goal.returns-clause-within
returns-clause-within c =
    let now = c.args.self.now in
    let h = seen c.self.view_is (seen (ap (λ p. p.document) c.self-inside.view_is) c.self-inside.invariant) in
    let found : IsFound now c.args.path.now c.args.value.now c.insertion.result =
    subst (λ d. IsFound d c.args.path.now c.args.value.now c.insertion.result) c.self.view_is
    c.insertion.ensures.insertion in
    let (v, value) = c.as_str-given.ensures.accepted in
    let there =
    insertion_there now.profile c.args.path.now v h.tree c.in_ok-insertion.insertion c.insertion.result
    c.in_ok-insertion.ensures.value (found h.tree h.read v value) in
    let at : IsCharBoundary now.text c.body_end-at.result =
    at_boundary _ _ _ c.args.path.now h.tree v c.args.value.now c.in_ok-insertion.insertion h h.read value there
    c.insertion.ensures.utf8 c.in-AfterBody.header c.in-AfterBody.is c.body_end-at.result
    (c.body_end-at.ensures.end h.tree h.read) in
    record { ordered = omega arith; within = at.0; starts = at; ends = at }
