use Rattle.std.proofs.Common.{◌≡◌, ◌∙◌, ◌⊎◌, List, ℕ, map, string_bytes, subst, sym}
use Rattle.std.proofs.lemmas.List.{length-map}
use Rattle.keep_args.specs.declared.subcommand.Ask.TheVariants as ask
use Rattle.keep_args.specs.Table.{edit_words}
use Rattle.keep_cli.specs.declared.edit.WordFault.TheVariants.{Memory}
use Rattle.keep_cli.specs.EditWords.{Makes, MakesNone, words_for}
use Rattle.keep_cli.specs.Uses.{IsCommand, IsOne}
use Rattle.keep_cli.proofs.CommandLaws.{one_edit, word_passed}
use Rattle.keep_cli.proofs.EditLaws.{words_are}
use Rattle.keep_cli.proofs.command.edit_by.Goals as goal

pub returns-in_err-edit-clause-asked : goal.returns-in_err-edit-clause-asked
returns-in_err-edit-clause-asked c =
    let words : List (List ℕ) = map (λ s. string_bytes s) c.args.words.now in
    let so : words_for c.args.op c.word_or_none-first.result.now c.word_or_none-second.result.now ≡ words =
    words_are c.args.op words _ _ (length-map c.args.words.now (λ s. string_bytes s) ∙ c.requires)
    c.word_or_none-first.ensures c.word_or_none-second.ensures in
    word_passed (IsCommand c.args.profile (ask.Edit c.args.op) words) c.args.profile (edit_words c.args.op) words
    c.in_err-edit.field-0.0 c.from_residual.result c.from_residual.ensures.1
    (subst (λ (ws : List (List ℕ)).
    (c.in_err-edit.field-0.0 ≡ Memory) ⊎ MakesNone c.args.profile c.args.op ws c.in_err-edit.field-0.0) so
    c.in_err-edit.ensures)

pub returns-clause-asked : goal.returns-clause-asked
returns-clause-asked c =
    let words : List (List ℕ) = map (λ s. string_bytes s) c.args.words.now in
    let so : words_for c.args.op c.word_or_none-first.result.now c.word_or_none-second.result.now ≡ words =
    words_are c.args.op words _ _ (length-map c.args.words.now (λ s. string_bytes s) ∙ c.requires)
    c.word_or_none-first.ensures c.word_or_none-second.ensures in
    one_edit (IsCommand c.args.profile (ask.Edit c.args.op) words) _ _ c.one_edit.result c.one_edit.ensures
    (λ edits same.
    subst (IsOne (Makes c.args.profile c.args.op words)) (sym same)
    (subst (λ (ws : List (List ℕ)). Makes c.args.profile c.args.op ws c.in_ok-edit.edit) so c.in_ok-edit.ensures))
