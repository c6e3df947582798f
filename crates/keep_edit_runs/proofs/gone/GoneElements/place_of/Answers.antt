use Rattle.std.proofs.Common.{◌≢◌, All, subst}
use Rattle.keep_edit_spec.specs.AddedItems.{item_path}
use Rattle.keep_edit_runs.proofs.KnownLaws.{if_none, none_of_array}
use Rattle.keep_edit_runs.proofs.gone.GoneElements.place_of.Goals as goal

pub returns : goal.returns
returns c =
    let array = c.args.array.now in
    if_none c.at.result _ _ (λ lacks n.
    subst (All (λ path. path ≢ item_path array n)) c.self.view_is
    (none_of_array c.self.inside.known array lacks c.self.inside.arrays.items c.self.invariant.1 n)) c.at.ensures
