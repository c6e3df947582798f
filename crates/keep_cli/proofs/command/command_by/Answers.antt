use Rattle.std.proofs.Common.{◌≡◌, ◌∙◌, ◌⊎◌, ℕ, List, ap, length}
use Rattle.std.specs.Prelude.{MatchResult}
use Rattle.keep_args.specs.declared.subcommand.Ask.{Ask}
use Rattle.keep_args.specs.declared.subcommand.Ask.TheVariants as ask
use Rattle.keep_args.specs.Table.{words_of}
use Rattle.keep_cli.specs.declared.fault.UseFault.TheVariants.{Memory}
use Rattle.keep_cli.specs.Uses.{IsCommand, IsWordFault}
use Rattle.keep_cli.proofs.CommandLaws.{holds_of, one_word}
use Rattle.keep_cli.proofs.command.command_by.Goals as goal

pub returns-in-Get-clause-asked : goal.returns-in-Get-clause-asked
returns-in-Get-clause-asked c =
    let many : length c.args.words.now ≡ 1 = c.requires ∙ ap (λ (a : Ask). length (words_of a)) c.in-Get.is in
    holds_of (λ (a : Ask) (words : List (List ℕ)).
    MatchResult c.get_of.result (IsCommand c.args.profile a words)
    (λ fault. (fault ≡ Memory) ⊎ IsWordFault c.args.profile a words fault))
    c.args.ask ask.Get _ _ c.in-Get.is
    (one_word c.args.words.now c.index-words-0.result c.as_str.result.now many c.index-words-0.is
    c.as_str.ensures.value) c.get_of.ensures.asked

pub returns-in-Text-clause-asked : goal.returns-in-Text-clause-asked
returns-in-Text-clause-asked c =
    let many : length c.args.words.now ≡ 1 = c.requires ∙ ap (λ (a : Ask). length (words_of a)) c.in-Text.is in
    holds_of (λ (a : Ask) (words : List (List ℕ)).
    MatchResult c.text_of.result (IsCommand c.args.profile a words)
    (λ fault. (fault ≡ Memory) ⊎ IsWordFault c.args.profile a words fault))
    c.args.ask ask.Text _ _ c.in-Text.is
    (one_word c.args.words.now c.index-words-0-in-Text.result c.as_str-in-Text.result.now many
    c.index-words-0-in-Text.is c.as_str-in-Text.ensures.value) c.text_of.ensures.asked
