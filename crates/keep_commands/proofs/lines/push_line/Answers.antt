use Rattle.std.proofs.Common.{slice_get, string_bytes, subst, Option}
use Rattle.keep_types.specs.declared.node.Kind.{Kind}
use Rattle.keep_edit.specs.Answers.{entries_of, AddsEntryPath}
use Rattle.keep_commands.proofs.ListRooms.{line_added, no_lack, ok_of, on_ok}
use Rattle.keep_commands.proofs.lines.push_line.Goals as goal

pub returns-in-Some-clause-line : goal.returns-in-Some-clause-line
returns-in-Some-clause-line c = λ s read.
    let added =
    subst (λ (k : Option Kind).
    AddsEntryPath (slice_get (entries_of s) c.args.number) k (string_bytes c.args.out.now)
    (string_bytes c.push_entry_path_within.new.out)) c.in-Some.is (c.in_ok-kind.ensures.entry s read) in
    on_ok c.push_kind.result (line_added (slice_get (entries_of s) c.args.number) c.in-Some.kind
    (string_bytes c.args.out.now) (string_bytes c.push_entry_path_within.new.out) (string_bytes c.push_kind.new.out)
    added) c.push_kind.ensures.pushed

pub returns-in-Some-clause-fits : goal.returns-in-Some-clause-fits
returns-in-Some-clause-fits c = λ s read room.
    let added =
    subst (λ (k : Option Kind).
    AddsEntryPath (slice_get (entries_of s) c.args.number) k (string_bytes c.args.out.now)
    (string_bytes c.push_entry_path_within.new.out)) c.in-Some.is (c.in_ok-kind.ensures.entry s read) in
    ok_of c.push_kind.result c.push_kind.ensures.full
    (no_lack (slice_get (entries_of s) c.args.number) c.in-Some.kind c.args.room.now _ c.args.out.now
    (string_bytes c.push_entry_path_within.new.out) added room c.push_entry_path_within.ensures.grown.0)
