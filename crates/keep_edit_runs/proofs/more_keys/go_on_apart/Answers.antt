use Rattle.std.proofs.Common.{◌≡◌, ◌∙◌, ◌∷◌, ◌++◌, Some, ap, drop, rules, slice_get, string_bytes, suc, sym}
use Rattle.keep_path.specs.Path.{key}
use Rattle.keep_edit_runs.proofs.MoreKeySteps.{split_at}
use Rattle.keep_edit_runs.proofs.more_keys.go_on_apart.Goals as goal

pub returns-in-Some-Key-Some-Key : goal.returns-in-Some-Key-Some-Key
returns-in-Some-Key-Some-Key c = λ yes same.
    let n = c.args.count in
    let own = c.in-Some-Key-Some-Key.own in
    let next = c.in-Some-Key-Some-Key.next in
    let here : slice_get c.args.path.now n ≡ Some (key (string_bytes own)) = search rules in
    let there : slice_get c.args.other.now n ≡ Some (key (string_bytes next)) = search rules in
    record {
      own = string_bytes own;
      own_rest = drop (suc n) c.args.path.now;
      path_is = split_at c.args.path.now n (key (string_bytes own)) here;
      next = string_bytes next;
      rest = drop (suc n) c.args.other.now;
      other_is = split_at c.args.other.now n (key (string_bytes next)) there
          ∙ ap (λ l. l ++ key (string_bytes next) ∷ drop (suc n) c.args.other.now) (sym same);
      differ = search rules;
    }
