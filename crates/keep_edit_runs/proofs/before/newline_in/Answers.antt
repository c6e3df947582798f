use Rattle.std.proofs.Common.{◌≡◌, ◌∙◌, false, subst, sym, true}
use Rattle.keep_edit_spec.specs.FirstNewline.{IsPlain}
use Rattle.keep_edit_runs.proofs.NewlineLaws.{feeds_known, line_known}
use Rattle.keep_edit_runs.proofs.before.newline_in.Goals as goal

pub returns-then-is_plain : goal.returns-then-is_plain
returns-then-is_plain c =
    feeds_known c.args.document (subst IsPlain c.requires (c.is_plain.ensures.0 c.if-is_plain.true))

pub returns-in-Some : goal.returns-in-Some
returns-in-Some c =
    line_known c.args.document c.in-Some.end
    (λ plain. absurd (let both : false ≡ true = sym c.if-is_plain.false
    ∙ c.is_plain.ensures.1 (subst IsPlain (sym c.requires) plain) in cc))
    c.in-Some.ensures
