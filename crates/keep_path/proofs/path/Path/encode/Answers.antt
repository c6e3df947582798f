use Rattle.std.proofs.Common.{◌≡◌, ℕ, List, string_bytes, arith, rules, sym, subst}
use Rattle.std.proofs.lemmas.Grind.{common_steps}
use Rattle.keep_path.specs.Path.{Part}
use Rattle.keep_path.specs.PathText.{encoded_path, HasSmallIndexes, IsPathText}
use Rattle.keep_path.proofs.PathTextLaws.{encoded_stated}
use Rattle.keep_path.proofs.path.Path.encode.Goals as goal

pub returns-clause-reads_back : goal.returns-clause-reads_back
returns-clause-reads_back c small =
    let path = c.args.self.now in
    let text : string_bytes c.if-as_slice-lt1.out ≡ encoded_path path =
    first_of (search rules, grind (arith, common_steps)) in
    let stated =
    encoded_stated c.self.inside.steps.items c.self.invariant (subst HasSmallIndexes (sym c.self.view_is) small) in
    let P : List Part → Type 0 = λ p. IsPathText (encoded_path p) p in
    let Q : List ℕ → Type 0 = λ t. IsPathText t path in
    subst Q (sym text) (subst P c.self.view_is stated)
