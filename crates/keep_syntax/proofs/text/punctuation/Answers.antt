use Rattle.std.proofs.Common.{◌≡◌, ℕ, ◌+◌, ◌-◌, ◌<◌, length, refl, subst, arith, IsCharBoundary}
use Rattle.std.proofs.lemmas.Str.{IsCharBoundary-after_ascii}
use Rattle.keep_syntax.proofs.text.punctuation.Goals as goal

pub returns : goal.returns
returns c =
    let last = c.args.at + c.args.len - 1 in
    let some : 0 < c.args.len = c.requires.some in
    let within : last < length c.args.text.now = omega (arith, c.requires.within) in
    let e : last + 1 ≡ c.args.at + c.args.len = omega arith in
    record {
      end_is = refl;
      bound = subst (λ (n : ℕ). IsCharBoundary c.args.text.now n) e
          (IsCharBoundary-after_ascii c.args.text.now last c.utf8.text within c.requires.ascii);
      start = c.requires.bound;
      stored = c.in_ok-push_token.ensures.ok;
    }
