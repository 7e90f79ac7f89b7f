-- Each case of what is found is a part of the record: the payload's, or one with no bytes.
use Rattle.segment.proofs.Laws.{none_given, part_given}
use Rattle.segment.proofs.payload.Goals as goal

pub returns-in_default : goal.returns-in_default
returns-in_default c =
    none_given c.args.view c.args.place c.args.bytes.now c.in_default.ensures

pub returns : goal.returns
returns c =
    part_given c.args.view c.args.place c.args.bytes.now c.in-Ok.ensures
