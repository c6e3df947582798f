use Rattle.keep_edit.specs.Reading.{limit}
use Rattle.keep_edit.proofs.planned.renew.Goals as goal

pub growth_refused-requires : goal.growth_refused-requires
growth_refused-requires c =
    let (d, was) = c.requires.read in
    c.in-Err.ensures.read d (record {
      profile = c.args.new.profile;
      limit = limit;
      reads = was.read.reads;
      is = was.is;
    }) was.read.obeys
