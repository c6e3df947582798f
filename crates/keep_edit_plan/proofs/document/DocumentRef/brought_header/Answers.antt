use Rattle.std.proofs.Common.{◌≡◌, ◌∙◌, arith, drop, false, refl, sym, take}
use Rattle.std.specs.Prelude.{IsCharBoundary, string_bytes}
use Rattle.keep_edit_spec.specs.Insertion as insertion
use Rattle.keep_edit_plan.specs.Inserting.{lines_start}
use Rattle.keep_edit_plan.proofs.AddedLineLaws.{done, insertion_there}
use Rattle.keep_edit_plan.proofs.AnswerLaws.{seen}
use Rattle.keep_edit_plan.proofs.BroughtHeaderLaws.{brought_boundary, header_is_brought}
use Rattle.keep_edit_plan.proofs.InsertedLaws.{section_header, section_there, section_within}
use Rattle.keep_edit_plan.proofs.document.DocumentRef.brought_header.Goals as goal

pub body_end-at-requires : goal.body_end-at-requires
body_end-at-requires c =
    let h = seen c.self.view_is c.self.invariant in
    let (v, value) = c.as_str-given.ensures.accepted in
    let there =
    insertion_there c.args.self.now.profile c.args.path.now v h.tree c.in_ok-insertion.insertion c.insertion.result
    c.in_ok-insertion.ensures.value (c.insertion.ensures.insertion h.tree h.read v value) in (
      h.tree,
      h.read,
      section_header _ _ _ c.args.path.now h.tree v c.args.value.now c.in_ok-insertion.insertion h h.read value there
          c.insertion.ensures.utf8 _ c.in-NewSection.is refl,
    )

pub is_open-requires-clause-within : goal.is_open-requires-clause-within
is_open-requires-clause-within c =
    let h = seen c.self.view_is c.self.invariant in
    let (v, value) = c.as_str-given.ensures.accepted in
    let there =
    insertion_there c.args.self.now.profile c.args.path.now v h.tree c.in_ok-insertion.insertion c.insertion.result
    c.in_ok-insertion.ensures.value (c.insertion.ensures.insertion h.tree h.read v value) in
    omega (
      arith,
      section_within _ _ _ c.args.path.now h.tree v c.args.value.now c.in_ok-insertion.insertion h h.read value there
          c.insertion.ensures.utf8 _ _ c.in-NewSection.is (c.body_end-at.ensures h.tree h.read),
    )

pub push_section-requires-clause-within : goal.push_section-requires-clause-within
push_section-requires-clause-within c =
    let h = seen c.self.view_is c.self.invariant in
    let (v, value) = c.as_str-given.ensures.accepted in
    let there =
    insertion_there c.args.self.now.profile c.args.path.now v h.tree c.in_ok-insertion.insertion c.insertion.result
    c.in_ok-insertion.ensures.value (c.insertion.ensures.insertion h.tree h.read v value) in
    section_within _ _ _ c.args.path.now h.tree v c.args.value.now c.in_ok-insertion.insertion h h.read value there
    c.insertion.ensures.utf8 _ _ c.in-NewSection.is (c.body_end-at.ensures h.tree h.read)

pub push_section-requires-clause-table : goal.push_section-requires-clause-table
push_section-requires-clause-table c =
    let h = seen c.self.view_is c.self.invariant in
    let (v, value) = c.as_str-given.ensures.accepted in
    let there =
    insertion_there c.args.self.now.profile c.args.path.now v h.tree c.in_ok-insertion.insertion c.insertion.result
    c.in_ok-insertion.ensures.value (c.insertion.ensures.insertion h.tree h.read v value) in
    let l = section_there _ _ _ c.args.path.now h.tree v c.args.value.now c.in_ok-insertion.insertion h h.read value
    there c.insertion.ensures.utf8 _ c.in-NewSection.is in
    (l.first, l.more, l.table)

pub push_section-requires-clause-keys : goal.push_section-requires-clause-keys
push_section-requires-clause-keys c =
    let h = seen c.self.view_is c.self.invariant in
    let (v, value) = c.as_str-given.ensures.accepted in
    let there =
    insertion_there c.args.self.now.profile c.args.path.now v h.tree c.in_ok-insertion.insertion c.insertion.result
    c.in_ok-insertion.ensures.value (c.insertion.ensures.insertion h.tree h.read v value) in
    (section_there _ _ _ c.args.path.now h.tree v c.args.value.now c.in_ok-insertion.insertion h h.read value there
    c.insertion.ensures.utf8 _ c.in-NewSection.is).put.keys

pub returns-clause-added : goal.returns-clause-added
returns-clause-added c = λ s read v value.
    let h = seen c.self.view_is c.self.invariant in
    let there =
    insertion_there c.args.self.now.profile c.args.path.now v s c.in_ok-insertion.insertion c.insertion.result
    c.in_ok-insertion.ensures.value (c.insertion.ensures.insertion s read v value) in
    let closed : false ≡ insertion.is_open (drop (lines_start s) (take c.body_end-at.result c.args.self.now.text)) =
    sym c.if-is_open.false ∙ c.is_open.ensures s read in
    header_is_brought _ _ _ c.args.path.now s v c.args.value.now c.in_ok-insertion.insertion h read value there
    c.insertion.ensures.utf8 c.in-NewSection.header c.in-NewSection.is c.body_end-at.result _
    (string_bytes c.push_section.new.out) (c.body_end-at.ensures s read) c.in_ok-section.ensures
    (done _ c.push_section.result _ c.in_ok-ok.ensures.value (c.push_section.ensures s read v value)) closed

pub returns-clause-within : goal.returns-clause-within
returns-clause-within c =
    let h = seen c.self.view_is c.self.invariant in
    let (v, value) = c.as_str-given.ensures.accepted in
    let there =
    insertion_there c.args.self.now.profile c.args.path.now v h.tree c.in_ok-insertion.insertion c.insertion.result
    c.in_ok-insertion.ensures.value (c.insertion.ensures.insertion h.tree h.read v value) in
    let at : IsCharBoundary c.args.self.now.text c.body_end-at.result =
    brought_boundary _ _ _ c.args.path.now h.tree v c.args.value.now c.in_ok-insertion.insertion h h.read value there
    c.insertion.ensures.utf8 c.in-NewSection.header c.in-NewSection.is c.body_end-at.result
    (c.body_end-at.ensures h.tree h.read) in
    record { ordered = omega arith; within = at.0; starts = at; ends = at }
