use Rattle.std.proofs.Common.{◌∙◌, ap, subst}
use Rattle.keep_meaning.specs.KeyText.{text_at}
use Rattle.keep_edit.specs.Answers.{IsFound}
use Rattle.keep_edit.specs.StrTexts.{text_of_str}
use Rattle.keep_edit_plan.proofs.Shared.{text_seen, seen, value_nested, value_there}
use Rattle.keep_edit.proofs.ScalarLaws.{value_at, quoted_leaf, string_readable, string_found, no_string_found}
use Rattle.keep_edit.proofs.ScalarLaws.{no_string_leaf}
use Rattle.keep_edit.proofs.document.Document.text_found.Goals as goal

pub value-value-requires : goal.value-value-requires
value-value-requires c =
    let (path, found) = c.requires in
    let h = seen c.self.view_is c.self.invariant in
    value_nested _ _ _ path h.tree c.in-Ok.number h h.read
    (subst (IsFound path h.tree) c.in-Ok.is (found h.tree h.read))

pub part_at-requires : goal.part_at-requires
part_at-requires c =
    let (path, found) = c.requires in
    let h = seen c.self.view_is c.self.invariant in
    rw (c.as_str-text.ensures.value, text_seen c.self.view_is)
    (value_there _ _ _ path h.tree c.in-Ok.number h h.read
    (subst (IsFound path h.tree) c.in-Ok.is (found h.tree h.read)) c.value-value.result
    c.value-value.ensures.stored).span

pub str_text-requires-clause-leaf : goal.str_text-requires-clause-leaf
str_text-requires-clause-leaf c =
    let (path, found) = c.requires in
    let h = seen c.self.view_is c.self.invariant in
    let at =
    value_at _ _ _ h.tree path c.in-Ok.number c.value-value.result h h.read
    (subst (IsFound path h.tree) c.in-Ok.is (found h.tree h.read)) c.value-value.ensures.stored in
    string_readable c.args.self.now c.part_at.result.now path h.tree c.in-Ok.number
    c.value-value.result at (quoted_leaf c.value-value.result.leaf c.in-Basic.is)
    (c.part_at.ensures
    ∙ ap (λ bytes. text_at bytes c.value-value.result.span) (c.as_str-text.ensures.value ∙ text_seen c.self.view_is))

pub returns-in_default-clause-string : goal.returns-in_default-clause-string
returns-in_default-clause-string c =
    λ path s read found.
    no_string_found path s c.in_default.field-0 (subst (IsFound path s) c.in_default.is found)

pub returns-in_default-leaf-clause-string : goal.returns-in_default-leaf-clause-string
returns-in_default-leaf-clause-string c = λ path s read found.
    let at =
    value_at _ _ _ s path c.in-Ok.number c.value-value.result (seen c.self.view_is c.self.invariant) read
    (subst (IsFound path s) c.in-Ok.is found) c.value-value.ensures.stored in
    no_string_leaf _ path s c.in-Ok.number c.value-value.result at c.in_default-leaf.not-Basic
    c.in_default-leaf.not-Literal c.in_default-leaf.not-MlBasic c.in_default-leaf.not-MlLiteral

pub returns-in_ok-str_text-in-Basic-clause-string : goal.returns-in_ok-str_text-in-Basic-clause-string
returns-in_ok-str_text-in-Basic-clause-string c = λ path s read found.
    let at =
    value_at _ _ _ s path c.in-Ok.number c.value-value.result (seen c.self.view_is c.self.invariant) read
    (subst (IsFound path s) c.in-Ok.is found) c.value-value.ensures.stored in
    string_found c.args.self.now c.part_at.result.now path s c.in-Ok.number c.value-value.result
    (text_of_str c.in_ok-str_text-in-Basic.field-0) at
    (quoted_leaf c.value-value.result.leaf c.in-Basic.is)
    (c.part_at.ensures
    ∙ ap (λ bytes. text_at bytes c.value-value.result.span) (c.as_str-text.ensures.value ∙ text_seen c.self.view_is))
    c.in_ok-str_text-in-Basic.ensures
