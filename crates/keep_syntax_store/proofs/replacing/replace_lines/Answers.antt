use Rattle.std.proofs.Common.{subst}
use Rattle.std.specs.Prelude.{Option, IfSome}
use Rattle.keep_syntax_store.specs.declared.parts.patching.PartsPatch.{PartsPatch}
use Rattle.keep_syntax_store.specs.Flat.{flat}
use Rattle.keep_syntax_store.specs.InPlace.{placed, GivesParts}
use Rattle.keep_syntax_store.proofs.PatchLaws.{given_fits, given_flat, patch_undone}
use Rattle.keep_syntax_store.proofs.replacing.replace_lines.Goals as goal

given : (c : goal.After-exchange_patch)
    → GivesParts c.args.parts.now c.in-Some.patch
    (placed (flat c.args.parts.now) (flat c.args.fresh.now) c.args.counts.now.from c.args.counts.now.to
    c.args.counts.now.until c.args.counts.now.until.at)
given c =
    let k = c.args.counts.now in
    subst (λ (o : Option PartsPatch).
    IfSome o (λ d.
    GivesParts c.args.parts.now d (placed (flat c.args.parts.now) (flat c.args.fresh.now) k.from k.to k.until
    k.until.at))) c.in-Some.is c.in_ok-patch.ensures

pub returns-clause-done : goal.returns-clause-done
returns-clause-done c =
    given_flat c.args.parts.now c.exchange_patch.new.self c.in-Some.patch c.exchange_patch.new.patch _ (given c)
    c.exchange_patch.ensures

pub returns-clause-undo : goal.returns-clause-undo
returns-clause-undo c =
    patch_undone c.args.parts.now c.exchange_patch.new.self c.in-Some.patch c.exchange_patch.new.patch
    (given_fits c.args.parts.now c.in-Some.patch _ (given c)) c.exchange_patch.ensures
