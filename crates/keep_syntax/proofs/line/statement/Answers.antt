use Rattle.std.proofs.Common.{ℕ, [], ◌∷◌, None, refl, ap, ◌∙◌, drop}
use Rattle.std.proofs.lemmas.Result.{err_from_is_err_and}
use Rattle.keep_types.specs.declared.syntax.Owner.TheVariants as owner
use Rattle.keep_syntax_store.specs.Flat.{flat}
use Rattle.keep_syntax.specs.Reading.{space_at, ended_at}
use Rattle.keep_syntax.specs.FlatLines.{with_statements}
use Rattle.keep_syntax.proofs.LineCodeLaws.{stated_by}
use Rattle.keep_syntax.proofs.LineEndLaws.{only_memory, content_fails, stated_line, stated_fails}
use Rattle.keep_syntax.proofs.line.statement.Goals as goal

pub returns-in_err-close : goal.returns-in_err-close
returns-in_err-close c =
    let p = err_from_is_err_and c.from_residual.result c.from_residual.ensures.1 in
    rw (
      p.1,
      p.2,
    ) (λ first s.
    content_fails c.args.limits.profile c.args.limits.depth c.args.text.now c.args.at c.args.begin first
    (flat c.args.out.now) c.in_err-close.field-0.0 s c.in_err-close.ensures)

pub returns-in_err-after : goal.returns-in_err-after
returns-in_err-after c =
    let p = err_from_is_err_and c.from_residual-in_err-after.result c.from_residual-in_err-after.ensures.1 in
    rw (
      p.1,
      p.2,
    ) (λ first s prefix.
    only_memory c.args.text.now c.in_err-after.field-0.0 (space_at (drop c.in_ok-close.close c.args.text.now))
    (ended_at c.args.limits.profile c.args.limits.depth prefix (drop c.args.at c.args.text.now)) c.in_err-after.ensures)

pub returns-in_err-next : goal.returns-in_err-next
returns-in_err-next c =
    let p = err_from_is_err_and c.from_residual-in_err-next.result c.from_residual-in_err-next.ensures.1 in
    rw (
      p.1,
      p.2,
    ) (λ first s.
    stated_fails c.args.limits.profile c.args.limits.depth c.args.text.now c.args.at c.args.begin c.in_ok-close.close
    c.in_ok-after.after first (flat c.args.out.now) (flat c.statement_head.new.out) (flat c.space.new.out)
    (flat c.line_end.new.out)
    (record {
      at = c.args.begin;
      values = c.value_count.result;
      parts = c.key_count-first_key.result;
      owner = owner.Line c.statement_count.result;
      depth = 0;
      comma = None;
    }) c.in_ok-close.head c.in_err-next.field-0.0 s
    (rw (c.value_count.ensures, c.key_count-first_key.ensures, c.statement_count.ensures) refl) c.in_ok-close.ensures
    c.in_ok-after.ensures c.in_err-next.ensures)

pub returns : goal.returns
returns c = λ first s.
    let stored =
    c.in_ok-push_statement.ensures.ok
    ∙ ap (λ (n : ℕ).
    with_statements (stated_by c.in_ok-close.head c.args.begin c.in_ok-close.close c.args.at n
    c.key_count-first_key.result ∷ []) (flat c.line_end.new.out)) c.unwrap_or.ensures in
    stated_line c.args.limits.profile c.args.limits.depth c.args.text.now c.args.at c.args.begin c.in_ok-close.close
    c.in_ok-after.after first (flat c.args.out.now) (flat c.statement_head.new.out) (flat c.space.new.out)
    (flat c.line_end.new.out) (flat c.push_statement.new.self)
    (record {
      at = c.args.begin;
      values = c.value_count.result;
      parts = c.key_count-first_key.result;
      owner = owner.Line c.statement_count.result;
      depth = 0;
      comma = None;
    }) c.in_ok-close.head c.in_ok-next.next c.key_count-first_key.result s
    (rw (c.value_count.ensures, c.key_count-first_key.ensures, c.statement_count.ensures) refl)
    c.key_count-first_key.ensures c.in_ok-close.ensures c.in_ok-after.ensures c.in_ok-next.ensures stored
