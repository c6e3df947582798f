use Rattle.std.proofs.Common.{not, arith}
use Rattle.std.proofs.lemmas.Bool.Decides.{Decides-like, Decides-not}
use Rattle.keep_edit_runs.proofs.AlikeLaws.{paths_apart}
use Rattle.keep_edit_runs.proofs.alike.are_apart.Goals as goal

pub returns : goal.returns
returns c =
    let (apart, back) =
    paths_apart c.min.result c.args.path.now c.args.other.now
    (omega (arith, c.min.ensures, c.len.ensures, c.len-2.ensures)) in
    Decides-like (not c.agree.result) apart back (Decides-not c.agree.result c.agree.ensures)
