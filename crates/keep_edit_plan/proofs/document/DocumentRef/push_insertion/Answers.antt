use Rattle.std.proofs.Common.{refl, ◌∙◌, ap, arith, length, ◌++◌, string_bytes}
use Rattle.keep_edit_plan.proofs.AnswerLaws.{text_seen, seen}
use Rattle.keep_edit_plan.proofs.InsertedLaws.{before_within, before_put, after_within, after_keys, after_put}
use Rattle.keep_edit_plan.proofs.InsertedLaws.{empty_within, empty_keys, empty_nested, empty_put, body_there}
use Rattle.keep_edit_plan.proofs.InsertedLaws.{body_within, body_put, line_there, line_within, line_put, section_there}
use Rattle.keep_edit_plan.proofs.InsertedLaws.{section_header, section_within, section_put}
use Rattle.keep_edit_plan.proofs.document.DocumentRef.push_insertion.Goals as goal

pub value-requires : goal.value-requires
value-requires c =
    let (s, read, (v, value, there)) = c.requires.aimed in
    before_within _ _ _ c.args.path.now s v c.args.value.now c.args.insertion (seen c.self.view_is c.self.invariant)
    read value there c.requires.utf8 _ c.in-BeforeItem.is

pub push_keyed-requires : goal.push_keyed-requires
push_keyed-requires c =
    let (s, read, (v, value, there)) = c.requires.aimed in
    after_keys _ _ _ c.args.path.now s v c.args.value.now c.args.insertion (seen c.self.view_is c.self.invariant) read
    value there c.requires.utf8 _ c.in-AfterEntry.is

pub value-requires-in-AfterEntry : goal.value-requires-in-AfterEntry
value-requires-in-AfterEntry c =
    let (s, read, (v, value, there)) = c.requires.aimed in
    after_within _ _ _ c.args.path.now s v c.args.value.now c.args.insertion (seen c.self.view_is c.self.invariant) read
    value there c.requires.utf8 _ c.in-AfterEntry.is

pub push_keyed-requires-in-InEmpty : goal.push_keyed-requires-in-InEmpty
push_keyed-requires-in-InEmpty c =
    let (s, read, (v, value, there)) = c.requires.aimed in
    empty_keys _ _ _ c.args.path.now s v c.args.value.now c.args.insertion (seen c.self.view_is c.self.invariant) read
    value there c.requires.utf8 _ c.in-InEmpty.is

pub value-requires-in-InEmpty : goal.value-requires-in-InEmpty
value-requires-in-InEmpty c =
    let (s, read, (v, value, there)) = c.requires.aimed in
    empty_within _ _ _ c.args.path.now s v c.args.value.now c.args.insertion (seen c.self.view_is c.self.invariant) read
    value there c.requires.utf8 _ c.in-InEmpty.is

pub after_bracket-requires : goal.after_bracket-requires
after_bracket-requires c =
    let (s, read, (v, value, there)) = c.requires.aimed in
    omega (
      arith,
      empty_nested _ _ _ c.args.path.now s v c.args.value.now c.args.insertion (seen c.self.view_is c.self.invariant)
          read value there c.requires.utf8 _ _ c.in-InEmpty.is c.value-in-InEmpty.ensures.stored,
      ap length (text_seen c.self.view_is),
    )

pub body_end-at-requires : goal.body_end-at-requires
body_end-at-requires c =
    let (s, read, (v, value, there)) = c.requires.aimed in (
      s,
      read,
      (body_there _ _ _ c.args.path.now s v c.args.value.now c.args.insertion (seen c.self.view_is c.self.invariant)
          read value there c.requires.utf8 _ c.in-AfterBody.is).within,
    )

pub push_line-requires-clause-within : goal.push_line-requires-clause-within
push_line-requires-clause-within c =
    let (s, read, (v, value, there)) = c.requires.aimed in
    body_within _ _ _ c.args.path.now s v c.args.value.now c.args.insertion (seen c.self.view_is c.self.invariant) read
    value there c.requires.utf8 _ _ c.in-AfterBody.is (c.body_end-at.ensures s read)

pub push_line-requires-clause-keys : goal.push_line-requires-clause-keys
push_line-requires-clause-keys c =
    let (s, read, (v, value, there)) = c.requires.aimed in
    (body_there _ _ _ c.args.path.now s v c.args.value.now c.args.insertion (seen c.self.view_is c.self.invariant) read
    value there c.requires.utf8 _ c.in-AfterBody.is).put.keys

pub keyval_end-at-requires : goal.keyval_end-at-requires
keyval_end-at-requires c =
    let (s, read, (v, value, there)) = c.requires.aimed in
    let l = line_there _ _ _ c.args.path.now s v c.args.value.now c.args.insertion
    (seen c.self.view_is c.self.invariant) read value there c.requires.utf8 _ c.in-AfterLine.is in
    (s, read, (l.at, l.ends))

pub push_line-requires-in-AfterLine-clause-within : goal.push_line-requires-in-AfterLine-clause-within
push_line-requires-in-AfterLine-clause-within c =
    let (s, read, (v, value, there)) = c.requires.aimed in
    line_within _ _ _ c.args.path.now s v c.args.value.now c.args.insertion (seen c.self.view_is c.self.invariant) read
    value there c.requires.utf8 _ _ c.in-AfterLine.is (c.keyval_end-at.ensures s read)

pub push_line-requires-in-AfterLine-clause-keys : goal.push_line-requires-in-AfterLine-clause-keys
push_line-requires-in-AfterLine-clause-keys c =
    let (s, read, (v, value, there)) = c.requires.aimed in
    (line_there _ _ _ c.args.path.now s v c.args.value.now c.args.insertion (seen c.self.view_is c.self.invariant) read
    value there c.requires.utf8 _ c.in-AfterLine.is).put.keys

pub body_end-at-requires-in-NewSection : goal.body_end-at-requires-in-NewSection
body_end-at-requires-in-NewSection c =
    let (s, read, (v, value, there)) = c.requires.aimed in (
      s,
      read,
      section_header _ _ _ c.args.path.now s v c.args.value.now c.args.insertion (seen c.self.view_is c.self.invariant)
          read value there c.requires.utf8 _ c.in-NewSection.is refl,
    )

pub push_section-requires-clause-within : goal.push_section-requires-clause-within
push_section-requires-clause-within c =
    let (s, read, (v, value, there)) = c.requires.aimed in
    section_within _ _ _ c.args.path.now s v c.args.value.now c.args.insertion (seen c.self.view_is c.self.invariant)
    read value there c.requires.utf8 _ _ c.in-NewSection.is (c.body_end-at-in-NewSection.ensures s read)

pub push_section-requires-clause-table : goal.push_section-requires-clause-table
push_section-requires-clause-table c =
    let (s, read, (v, value, there)) = c.requires.aimed in
    let l = section_there _ _ _ c.args.path.now s v c.args.value.now c.args.insertion
    (seen c.self.view_is c.self.invariant) read value there c.requires.utf8 _ c.in-NewSection.is in
    (l.first, l.more, l.table)

pub push_section-requires-clause-keys : goal.push_section-requires-clause-keys
push_section-requires-clause-keys c =
    let (s, read, (v, value, there)) = c.requires.aimed in
    (section_there _ _ _ c.args.path.now s v c.args.value.now c.args.insertion (seen c.self.view_is c.self.invariant)
    read value there c.requires.utf8 _ c.in-NewSection.is).put.keys

pub returns-in_ok-push_str-in-BeforeItem-2 : goal.returns-in_ok-push_str-in-BeforeItem-2
returns-in_ok-push_str-in-BeforeItem-2 c = λ s read v value there.
    before_put _ _ _ c.args.path.now s v c.args.value.now c.args.insertion (seen c.self.view_is c.self.invariant) read
    value there c.requires.utf8 _ _ _ _ _ c.in-BeforeItem.is c.value.ensures.stored
    (c.in_ok-push_str-in-BeforeItem.ensures.bytes ∙ ap (λ t. string_bytes c.args.out.now ++ t) c.as_str.ensures.text)
    c.in_ok-push_str-in-BeforeItem-2.ensures.bytes

pub returns-in_ok-push_keyed-in-AfterEntry : goal.returns-in_ok-push_keyed-in-AfterEntry
returns-in_ok-push_keyed-in-AfterEntry c = λ s read v value there.
    after_put _ _ _ c.args.path.now s v c.args.value.now c.args.insertion (seen c.self.view_is c.self.invariant) read
    value there c.requires.utf8 _ _ _ _ _ c.in-AfterEntry.is c.value-in-AfterEntry.ensures.stored
    c.in_ok-push_str-in-AfterEntry.ensures.bytes (c.in_ok-push_keyed-in-AfterEntry.ensures v value)

pub returns-in_ok-push_keyed-in-InEmpty : goal.returns-in_ok-push_keyed-in-InEmpty
returns-in_ok-push_keyed-in-InEmpty c = λ s read v value there.
    empty_put _ _ _ c.args.path.now s v c.args.value.now c.args.insertion (seen c.self.view_is c.self.invariant) read
    value there c.requires.utf8 _ _ _ _ _ c.in-InEmpty.is c.value-in-InEmpty.ensures.stored c.after_bracket.ensures
    (c.in_ok-push_keyed-in-InEmpty.ensures v value)

pub returns-in_ok-push_line-in-AfterBody : goal.returns-in_ok-push_line-in-AfterBody
returns-in_ok-push_line-in-AfterBody c = λ s read v value there.
    body_put _ _ _ c.args.path.now s v c.args.value.now c.args.insertion (seen c.self.view_is c.self.invariant) read
    value there c.requires.utf8 _ _ _ _ c.in-AfterBody.is (c.body_end-at.ensures s read)
    (c.in_ok-push_line-in-AfterBody.ensures s read v value)

pub returns-in_ok-push_line-in-AfterLine : goal.returns-in_ok-push_line-in-AfterLine
returns-in_ok-push_line-in-AfterLine c = λ s read v value there.
    line_put _ _ _ c.args.path.now s v c.args.value.now c.args.insertion (seen c.self.view_is c.self.invariant) read
    value there c.requires.utf8 _ _ _ _ c.in-AfterLine.is (c.keyval_end-at.ensures s read)
    (c.in_ok-push_line-in-AfterLine.ensures s read v value)

pub returns-in_ok-push_section-in-NewSection : goal.returns-in_ok-push_section-in-NewSection
returns-in_ok-push_section-in-NewSection c = λ s read v value there.
    section_put _ _ _ c.args.path.now s v c.args.value.now c.args.insertion (seen c.self.view_is c.self.invariant) read
    value there c.requires.utf8 _ _ _ _ c.in-NewSection.is (c.body_end-at-in-NewSection.ensures s read)
    (c.in_ok-push_section-in-NewSection.ensures s read v value)
