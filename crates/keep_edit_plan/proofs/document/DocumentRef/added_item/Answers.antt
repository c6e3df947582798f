use Rattle.std.proofs.Common.{◌≡◌, ◌++◌, length, arith, ap, ◌∙◌, inl, inr}
use Rattle.std.specs.Prelude.{IsCharBoundary, codes, string_bytes}
use Rattle.keep_edit_plan.proofs.AddedItemLaws.{IsStart, after_added, after_boundary, first_added, first_boundary}
use Rattle.keep_edit_plan.proofs.AddedItemLaws.{pushed}
use Rattle.keep_edit_plan.proofs.AddedLineLaws.{insertion_there}
use Rattle.keep_edit_plan.proofs.AnswerLaws.{seen, text_seen}
use Rattle.keep_edit_plan.proofs.InsertedLaws.{after_within, empty_nested, empty_within}
use Rattle.keep_edit_plan.proofs.document.DocumentRef.added_item.Goals as goal
use Rattle.keep_edit_plan.proofs.document.DocumentRef.added_item.Goals.{in-AfterEntry, in-InEmpty}
use Rattle.keep_edit_plan.proofs.document.DocumentRef.added_item.Goals.{else-before-gt0+else-not-is_first}
use Rattle.keep_edit_plan.proofs.document.DocumentRef.added_item.Goals.{then-before-gt0+in_ok-ok}
use Rattle.keep_edit_plan.proofs.document.DocumentRef.added_item.Goals.{then-before-gt0-via-then-before-gt0}
use Rattle.keep_edit_plan.proofs.document.DocumentRef.added_item.Goals.{
  then-before-gt0-via-else-before-gt0+then-not-is_first,
}

pub value-requires : goal.value-requires
value-requires c =
    let h = seen c.self.view_is c.self.invariant in
    let (v, value) = c.as_str-given.ensures.accepted in
    let there =
    insertion_there c.args.self.now.profile c.args.path.now v h.tree c.in_ok-insertion.insertion c.insertion.result
    c.in_ok-insertion.ensures.value (c.insertion.ensures.insertion h.tree h.read v value) in
    after_within _ _ _ c.args.path.now h.tree v c.args.value.now c.in_ok-insertion.insertion h h.read value there
    c.insertion.ensures.utf8 _ c.in-AfterEntry.is

pub value-requires-in-InEmpty : goal.value-requires-in-InEmpty
value-requires-in-InEmpty c =
    let h = seen c.self.view_is c.self.invariant in
    let (v, value) = c.as_str-given.ensures.accepted in
    let there =
    insertion_there c.args.self.now.profile c.args.path.now v h.tree c.in_ok-insertion.insertion c.insertion.result
    c.in_ok-insertion.ensures.value (c.insertion.ensures.insertion h.tree h.read v value) in
    empty_within _ _ _ c.args.path.now h.tree v c.args.value.now c.in_ok-insertion.insertion h h.read value there
    c.insertion.ensures.utf8 _ c.in-InEmpty.is

pub after_bracket-requires : goal.after_bracket-requires
after_bracket-requires c =
    let h = seen c.self.view_is c.self.invariant in
    let (v, value) = c.as_str-given.ensures.accepted in
    let there =
    insertion_there c.args.self.now.profile c.args.path.now v h.tree c.in_ok-insertion.insertion c.insertion.result
    c.in_ok-insertion.ensures.value (c.insertion.ensures.insertion h.tree h.read v value) in
    omega (
      arith,
      empty_nested _ _ _ c.args.path.now h.tree v c.args.value.now c.in_ok-insertion.insertion h h.read value there
          c.insertion.ensures.utf8 _ _ c.in-InEmpty.is c.value-in-InEmpty.ensures.stored,
      ap length (text_seen c.self.view_is),
    )

pub returns-clause-added : goal.returns-clause-added
returns-clause-added c = λ s read v value.
    let h = seen c.self.view_is c.self.invariant in
    let there =
    insertion_there c.args.self.now.profile c.args.path.now v s c.in_ok-insertion.insertion c.insertion.result
    c.in_ok-insertion.ensures.value (c.insertion.ensures.insertion s read v value) in
    let whole : c.in_ok-insertion.insertion.from ≡ length c.args.path.now =
    omega (arith, c.if-insertion-len.false, c.len.ensures.count) in
    let start : IsStart c.match-insertion.is_first.0 c.args.before (string_bytes c.if-before-gt0.added) =
    elim c.if-before-gt0.branch [
      | then-before-gt0+in_ok-ok w ↦
          inl (
            ap string_bytes w.added-is
                ∙ pushed w.push_str.result _ _ _ _ w.in_ok-ok.ensures.value w.push_str.ensures.bytes
                ∙ ap (λ t. t ++ codes ", ") c.in_ok-added.ensures,
            elim w.then-before-gt0.branch [
              | then-before-gt0-via-then-before-gt0 w' ↦ inl w'.if-before-gt0.true
              | then-before-gt0-via-else-before-gt0+then-not-is_first w' ↦ inr w'.if-not-is_first.true
            ],
          )
      | else-before-gt0+else-not-is_first w ↦
          inr (
            ap string_bytes w.added-is ∙ c.in_ok-added.ensures,
            (omega (arith, w.if-before-gt0.false), w.if-not-is_first.false),
          )
    ] in
    let line : string_bytes c.push_str-2.new.self ≡ string_bytes c.if-before-gt0.added ++ c.args.value.now =
    pushed c.push_str-2.result _ _ _ _ c.in_ok-ok-2.ensures.value c.push_str-2.ensures.bytes
    ∙ ap (λ t. string_bytes c.if-before-gt0.added ++ t) c.as_str-given.ensures.text in
    elim c.match-insertion.branch [
      | in-AfterEntry w ↦
          after_added _ _ _ c.args.path.now s v c.args.value.now c.in_ok-insertion.insertion h read value there
          c.insertion.ensures.utf8 whole c.match-insertion.is_first _ _ w.in-AfterEntry.is w.value.ensures.stored
          w.is_first-is c.args.before _ _ start line
      | in-InEmpty w ↦
          first_added _ _ _ c.args.path.now s v c.args.value.now c.in_ok-insertion.insertion h read value there
          c.insertion.ensures.utf8 whole c.match-insertion.is_first _ _ _ w.in-InEmpty.is
          w.value-in-InEmpty.ensures.stored w.after_bracket.ensures w.is_first-is c.args.before _ _ start line
    ]

pub returns-clause-within : goal.returns-clause-within
returns-clause-within c =
    let h = seen c.self.view_is c.self.invariant in
    let (v, value) = c.as_str-given.ensures.accepted in
    let there =
    insertion_there c.args.self.now.profile c.args.path.now v h.tree c.in_ok-insertion.insertion c.insertion.result
    c.in_ok-insertion.ensures.value (c.insertion.ensures.insertion h.tree h.read v value) in
    let whole : c.in_ok-insertion.insertion.from ≡ length c.args.path.now =
    omega (arith, c.if-insertion-len.false, c.len.ensures.count) in
    let at : IsCharBoundary c.args.self.now.text c.match-insertion.is_first.1 =
    elim c.match-insertion.branch [
      | in-AfterEntry w ↦
          after_boundary _ _ _ c.args.path.now h.tree v c.args.value.now c.in_ok-insertion.insertion h h.read value
          there c.insertion.ensures.utf8 whole c.match-insertion.is_first _ _ w.in-AfterEntry.is
          w.value.ensures.stored w.is_first-is
      | in-InEmpty w ↦
          first_boundary _ _ _ c.args.path.now h.tree v c.args.value.now c.in_ok-insertion.insertion h h.read value
          there c.insertion.ensures.utf8 whole c.match-insertion.is_first _ _ _ w.in-InEmpty.is
          w.value-in-InEmpty.ensures.stored w.after_bracket.ensures w.is_first-is
    ] in
    record { ordered = omega arith; within = at.0; starts = at; ends = at }
