use Rattle.std.proofs.Common.{rules, ◌≡◌, string_bytes, ◌+◌, length}
use Rattle.std.specs.List.{replace_range}
use Rattle.keep_edit.proofs.PatchLaws.{starts_there, is_back}
use Rattle.keep_edit.proofs.patch.put_back.Goals as goal

pub replace_range-requires-clause-start_boundary : goal.replace_range-requires-clause-start_boundary
replace_range-requires-clause-start_boundary c =
    let (before, can) = c.requires in
    let at = starts_there c.args.edited.now before c.args.replaced_bytes.now c.args.text.now can in
    (at.0, λ some. at.1)

pub returns : goal.returns
returns c = λ before can.
    let put : string_bytes c.replace_range.new.self
    ≡ replace_range (string_bytes c.args.text.now) c.args.edited.now.place.start
    (c.args.edited.now.place.start + length c.as_str.result.now) c.args.replaced_bytes.now = search rules in
    is_back c.args.edited.now before c.args.replaced_bytes.now c.args.text.now can
    (string_bytes c.replace_range.new.self) (rw c.as_str.ensures.value at put)
