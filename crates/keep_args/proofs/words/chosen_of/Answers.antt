use Rattle.std.proofs.Common.{◌≡◌, inr, ap, subst, sym, ◌∙◌, Some, true, false, map, string_bytes}
use Rattle.clap.specs.Words.{app_of}
use Rattle.clap.specs.declared.error.kind.ErrorKind.{ErrorKind}
use Rattle.clap.specs.declared.error.kind.ErrorKind.TheVariants.{OutOfMemory}
use Rattle.clap.specs.contracts.error.kind.ErrorKind.{the_type}
use denote.Enum.Bare.{sameb}
use Rattle.keep_args.proofs.Parse.{are_utf8, err_refuses, ok_reads, whole_read}
use Rattle.keep_args.specs.Wanted.{IsWhole, Wanted}
use Rattle.clap.specs.Words.{subcommand_rows_of}
use Rattle.keep_args.proofs.words.chosen_of.Goals as goal

pub returns-in-Err-2-clause-asked : goal.returns-in-Err-2-clause-asked
returns-in-Err-2-clause-asked c =
    inr (err_refuses (app_of c.in-Ok.command) (map (λ s. string_bytes s) c.args.words.now) c.in-Err.error
    c.in-Ok.ensures (are_utf8 c.args.words.now) c.in-Err.ensures.kinds
    (λ e.
    let bad : false ≡ true =
    sym c.if-eq.false ∙ (c.eq.ensures ∙ ap (λ (k : ErrorKind). sameb the_type k OutOfMemory) (c.kind.ensures ∙ e)) in
    cc))

pub returns-in-Ok-chosen_in-clause-asked : goal.returns-in-Ok-chosen_in-clause-asked
returns-in-Ok-chosen_in-clause-asked c =
    let parse = c.in-Ok-try_get_matches_from in
    ok_reads (app_of c.in-Ok.command) (map (λ s. string_bytes s) c.args.words.now) parse.matches c.in-Ok.ensures
    (are_utf8 c.args.words.now) parse.ensures.kinds parse.ensures.matches
    ∙ ap (λ (w : Wanted). Some w) (sym c.in-Ok-chosen_in.ensures)

pub returns-in-Ok-chosen_in-clause-whole : goal.returns-in-Ok-chosen_in-clause-whole
returns-in-Ok-chosen_in-clause-whole c =
    subst IsWhole (sym c.in-Ok-chosen_in.ensures) (whole_read (subcommand_rows_of c.in-Ok-try_get_matches_from.matches))
