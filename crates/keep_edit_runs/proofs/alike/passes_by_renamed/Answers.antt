use Rattle.std.proofs.Common.{◌≡◌, ◌-◌, ◌∙◌, List, ℕ, ap, arith, eq-eqb, length, not, refl, string_bytes}
use Rattle.std.specs.Str.{bytes_eq}
use Rattle.std.proofs.lemmas.Bool.Decides.{Decides-at}
use Rattle.keep_edit_runs.proofs.KeysOnPath.{end_beside, key_beside, none_beside}
use Rattle.keep_edit_runs.proofs.alike.passes_by_renamed.Goals as goal

pub returns-then-next-keys : goal.returns-then-next-keys
returns-then-next-keys c =
    let keys = c.args.keys.now in
    let path = c.args.path.now in
    let next = c.in-Some.next in
    let end = c.if-next-keys.true in
    let long : c.saturating_sub.result ≡ length path - 1 =
    omega (arith, c.saturating_sub.ensures, c.len.ensures) in (
      λ yes. end_beside keys path c.args.key.now c.saturating_sub.result next long c.in-Some.ensures.rest end,
      λ none. eq-eqb next (length keys) end,
    )

pub returns-else-next-keys : goal.returns-else-next-keys
returns-else-next-keys c =
    let keys = c.args.keys.now in
    let path = c.args.path.now in
    let text = c.args.key.now in
    let next = c.in-Some.next in
    let own = c.index-keys-next.result in
    let same = bytes_eq (string_bytes own) text in
    let long : c.saturating_sub.result ≡ length path - 1 =
    omega (arith, c.saturating_sub.ensures, c.len.ensures) in
    Decides-at c.ne.result (not same)
    (c.ne.ensures ∙ ap (λ (l : List ℕ). not (bytes_eq l text)) c.as_str.ensures.value)
    (key_beside keys path text c.saturating_sub.result next long c.in-Some.ensures.rest own same refl
    (omega (arith, c.in-Some.ensures.few, c.if-next-keys.false)) c.index-keys-next.is)

pub returns-in-None : goal.returns-in-None
returns-in-None c =
    let path = c.args.path.now in
    let long : c.saturating_sub.result ≡ length path - 1 =
    omega (arith, c.saturating_sub.ensures, c.len.ensures) in (
      λ yes. none_beside c.args.keys.now path c.args.key.now c.saturating_sub.result long c.in-None.ensures.rest,
      λ none. refl,
    )
