use Rattle.std.proofs.Common.{◌∙◌, ap, sym, ◌∷◌, ◌++◌, [], ◌+◌, drop, Option, Ok, subst}
use Rattle.std.specs.Prelude.{string_bytes}
use Rattle.std.proofs.lemmas.Result.{err_from_is_err_and}
use Rattle.keep_path.specs.Path.{key}
use Rattle.keep_syntax.specs.declared.fault.Why.{Why}
use Rattle.keep_rules.specs.declared.index.NodeId.{NodeId}
use Rattle.keep_rules.specs.Lookup.{path_numbered}
use Rattle.keep_edit_plan.specs.Headers.{role_of, key_texts, conflict_from, ConflictIs, EntersAt}
use Rattle.keep_edit_plan.proofs.HeaderLaws.{root_number, all_keys, met_next, no_keys, walk_free, walk_refused, walk_on}
use Rattle.keep_edit_plan.proofs.header.check_header.Goals as goal

pub loop-name-init : goal.loop-name-init
loop-name-init c = (
  (root_number c.requires.0 c.args.index.now c.requires.1).0,
  λ s h.
      ap (λ keys. conflict_from s [] keys (role_of c.args.header))
      (all_keys c.args.keys.now c.in-Some.prefix.now c.in-Some.last.now c.in-Some.ensures.cases.0)
      ∙ ap (λ at.
      conflict_from s at (key_texts (drop 0 c.in-Some.prefix.now) ++ string_bytes c.in-Some.last.now ∷ [])
      (role_of c.args.header)) (sym (root_number s c.args.index.now h).1),
)

pub enter-requires : goal.enter-requires
enter-requires c = c.loop-name.invariant.0

pub returns-in_err-next : goal.returns-in_err-next
returns-in_err-next c = λ s h.
    let p = err_from_is_err_and c.from_residual.result c.from_residual.ensures.1 in
    rw (p.1, p.2) (
    met_next s (path_numbered c.args.index.now c.loop-name.at.0) (role_of c.args.header) _ c.in-Some.prefix.now
    c.loop-name.name-index c.name-item.result c.in-Some.last.now c.as_str.result.now c.loop-name-test.true
    c.name-item.is c.as_str.ensures.value (c.loop-name.invariant.1 s h)
    ∙ walk_refused s c.args.index.now h (path_numbered c.args.index.now c.loop-name.at.0) c.as_str.result.now
    (key_texts (drop (c.loop-name.name-index + 1) c.in-Some.prefix.now)) (string_bytes c.in-Some.last.now)
    (role_of c.args.header) c.in_err-next.field-0.0 (c.in_err-next.ensures s h))

pub returns-in_default-2 : goal.returns-in_default-2
returns-in_default-2 c = λ s h.
    met_next s (path_numbered c.args.index.now c.loop-name.at.0) (role_of c.args.header) _ c.in-Some.prefix.now
    c.loop-name.name-index c.name-item.result c.in-Some.last.now c.as_str.result.now c.loop-name-test.true
    c.name-item.is c.as_str.ensures.value (c.loop-name.invariant.1 s h)
    ∙ walk_free s c.args.index.now h (path_numbered c.args.index.now c.loop-name.at.0) c.as_str.result.now
    (key_texts (drop (c.loop-name.name-index + 1) c.in-Some.prefix.now)) (string_bytes c.in-Some.last.now)
    (role_of c.args.header)
    (subst (λ (o : Option NodeId).
    EntersAt s c.args.index.now (path_numbered c.args.index.now c.loop-name.at.0 ++ key c.as_str.result.now ∷ [])
    (Ok o)) c.in_default-2.is (c.in_ok-next.ensures s h))

pub loop-name-preserved : goal.loop-name-preserved
loop-name-preserved c = (
  (subst (λ (o : Option NodeId).
      EntersAt c.requires.0 c.args.index.now
      (path_numbered c.args.index.now c.loop-name.at.0 ++ key c.as_str.result.now ∷ []) (Ok o)) c.in-Some-2.is
      (c.in_ok-next.ensures c.requires.0 c.requires.1)).1,
  λ s h.
      met_next s (path_numbered c.args.index.now c.loop-name.at.0) (role_of c.args.header) _ c.in-Some.prefix.now
      c.loop-name.name-index c.name-item.result c.in-Some.last.now c.as_str.result.now c.loop-name-test.true
      c.name-item.is c.as_str.ensures.value (c.loop-name.invariant.1 s h)
      ∙ walk_on s c.args.index.now h (path_numbered c.args.index.now c.loop-name.at.0) c.as_str.result.now
      (key_texts (drop (c.loop-name.name-index + 1) c.in-Some.prefix.now)) (string_bytes c.in-Some.last.now)
      (role_of c.args.header) c.in-Some-2.next
      (subst (λ (o : Option NodeId).
      EntersAt s c.args.index.now (path_numbered c.args.index.now c.loop-name.at.0 ++ key c.as_str.result.now ∷ [])
      (Ok o)) c.in-Some-2.is (c.in_ok-next.ensures s h)),
)

pub check_last-requires : goal.check_last-requires
check_last-requires c = c.loop-name.invariant.0

pub returns : goal.returns
returns c = λ s h.
    let at = path_numbered c.args.index.now c.loop-name.at.0 in
    let all =
    c.loop-name.invariant.1 s h
    ∙ ap (λ keys. conflict_from s at keys (role_of c.args.header))
    (no_keys c.in-Some.prefix.now c.loop-name.name-index c.in-Some.last.now c.loop-name-test.false
    ∙ ap (λ n. n ∷ []) (sym c.as_str-2.ensures.value)) in
    subst (λ (o : Option Why). ConflictIs o c.check_last.result) (sym all) (c.check_last.ensures s h)
