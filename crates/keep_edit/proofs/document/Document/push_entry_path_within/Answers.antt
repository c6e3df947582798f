use Rattle.std.proofs.Common.{◌≡◌, ◌≤◌, false, true, arith, length, string_bytes, OnOk}
use Rattle.keep_edit_plan.proofs.Shared.{seen}
use Rattle.keep_edit.proofs.ListLaws.{entry_added, entry_has, entry_room, no_entry, none_has, of_error}
use Rattle.keep_edit.proofs.document.Document.push_entry_path_within.Goals as goal

pub returns-then-number-last-clause-entry : goal.returns-then-number-last-clause-entry
returns-then-number-last-clause-entry c = λ s read.
    no_entry _ _ _ s c.args.number (string_bytes c.args.out.now) (seen c.self.view_is c.self.invariant) read
    (omega arith)

pub returns-clause-entry : goal.returns-clause-entry
returns-clause-entry c = λ s read.
    entry_added _ _ _ s c.args.number (string_bytes c.args.out.now) _ c.node.result
    (seen c.self.view_is c.self.invariant) read (omega arith) c.in_ok-push_path_within.ensures.pushed c.node.ensures

pub returns-then-number-last-clause-enough : goal.returns-then-number-last-clause-enough
returns-then-number-last-clause-enough c =
    λ s read. none_has _ _ _ _ s c.args.number (seen c.self.view_is c.self.invariant) read (omega arith)

pub returns-in_err-push_path_within-clause-enough : goal.returns-in_err-push_path_within-clause-enough
returns-in_err-push_path_within-clause-enough c = λ s read.
    entry_has (λ path. OnOk c.from_residual.result (length path ≤ c.push_path_within.new.room)) _ _ _ s c.args.number
    (seen c.self.view_is c.self.invariant) read (omega arith)
    (of_error _ c.from_residual.result c.from_residual.ensures.0)

pub returns-clause-enough : goal.returns-clause-enough
returns-clause-enough c = λ s read.
    entry_has (λ path. length path ≤ c.push_path_within.new.room) _ _ _ s c.args.number
    (seen c.self.view_is c.self.invariant) read (omega arith) c.in_ok-push_path_within.ensures.enough

pub returns-in_err-push_path_within-clause-fits : goal.returns-in_err-push_path_within-clause-fits
returns-in_err-push_path_within-clause-fits c = λ s read room.
    let no : false ≡ true =
    c.in_err-push_path_within.ensures.fits
    (entry_room _ _ _ s c.args.number c.args.room.now c.args.out.now (seen c.self.view_is c.self.invariant) read
    (omega arith) room) in
    absurd cc
