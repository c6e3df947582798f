-- What was added is cut off again.
use Rattle.std.proofs.Common.{◌≡◌, arith, length, rules, string_bytes, subst, sym}
use Rattle.std.proofs.lemmas.Grind.{common_steps}
use Rattle.std.proofs.lemmas.Str.{IsUtf8-string_bytes}
use Rattle.std.specs.String.Boundary.{IsSplitPoint}
use Rattle.keep_rules.proofs.AddedTexts.{old_ends}
use Rattle.keep_rules.proofs.path_text.push_path.Goals as goal

pub truncate-requires : goal.truncate-requires
truncate-requires c _ =
    let count : c.len-len.result ≡ length (string_bytes c.args.out.now) =
    first_of (search rules, grind (arith, common_steps)) in
    subst (IsSplitPoint (string_bytes c.push_steps.new.out)) (sym count)
    (old_ends (string_bytes c.args.out.now) (string_bytes c.push_steps.new.out)
    (IsUtf8-string_bytes c.args.out.now) (IsUtf8-string_bytes c.push_steps.new.out) c.push_steps.ensures.grown)
