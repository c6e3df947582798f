use Rattle.std.proofs.Common.{ap, ◌∙◌, List, ℕ, string_bytes, length}
use Rattle.keep_edit_plan.proofs.Shared.{seen}
use Rattle.keep_edit.specs.Reading.{text_in}
use Rattle.keep_edit.proofs.PatchLaws.{patched_is, splice_is}
use Rattle.keep_edit.proofs.document.Document.replaced.Goals as goal

pub returns-in-Ok-reread-clause-moved : goal.returns-in-Ok-reread-clause-moved
returns-in-Ok-reread-clause-moved c =
    let is =
    patched_is c.args.self.now c.args.plan.text_edit c.self.inside.profile (string_bytes c.self.inside.text) _
    c.self.view_is (c.as_str-text.ensures.value ∙ c.in-Ok.ensures.put) in
    let taken =
    c.in-Ok-reread.ensures c.args.self.now
    (record { holds = seen c.self.view_is c.self.invariant; edit = c.requires.0; is = is }) c.requires.1 in (
      λ s p read at.
          splice_is s p c.args.plan.text_edit _ _ at (ap length c.as_str-added.ensures.value) (taken.1 s p read at),
      patched_is c.args.self.now c.args.plan.text_edit c.self.inside.profile (string_bytes c.self.inside.text) _
          c.self.view_is c.in-Ok.ensures.put,
    )

pub returns-clause-moved : goal.returns-clause-moved
returns-clause-moved c =
    let is =
    patched_is c.args.self.now c.args.plan.text_edit c.self.inside.profile (string_bytes c.self.inside.text) _
    c.self.view_is (c.as_str-text.ensures.value ∙ c.in-Ok.ensures.put) in
    let taken =
    c.in-Err.ensures c.args.self.now
    (record { holds = seen c.self.view_is c.self.invariant; edit = c.requires.0; is = is }) c.requires.1 in
    let back = c.put_back.ensures (string_bytes c.self.inside.text) (rw c.as_str.ensures.value c.in-Ok.ensures) in
    (taken.0, ap (λ (b : List ℕ). text_in c.self.inside.profile b) back ∙ c.self.view_is)
