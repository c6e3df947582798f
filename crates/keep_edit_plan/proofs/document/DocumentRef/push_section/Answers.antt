use Rattle.keep_edit_plan.proofs.LineWriting.{section_pushed}
use Rattle.keep_edit_plan.proofs.document.DocumentRef.push_section.Goals as goal

pub returns : goal.returns
returns c = λ s read v given.
    section_pushed c.args.self.now s c.args.at c.args.from c.args.path.now v c.newline-newline.result.now _ _ _ _ _ _ _
    _ _ read (c.newline-newline.ensures s read) c.requires.table (c.in_ok-push_missing.ensures s read)
    c.in_ok-push_str.ensures.bytes c.in_ok-push_str-2.ensures.bytes c.in_ok-push_keys.ensures
    c.in_ok-push_str-3.ensures.bytes c.in_ok-push_str-4.ensures.bytes (c.in_ok-push_keyed.ensures v given)
    c.in_ok-push_str-5.ensures.bytes
