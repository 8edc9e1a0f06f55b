use Rattle.std.proofs.Common.{◌<◌, length, arith}
use Rattle.device_profile.proofs.Parts.{parts-whole, parts-cut}
use Rattle.device_profile.proofs.code_ranges.first_part.Goals as goal

pub returns-then-end-text-clause-parts : goal.returns-then-end-text-clause-parts
returns-then-end-text-clause-parts c =
    parts-whole c.args.text.now c.args.byte c.place_of-end.result (omega arith) c.place_of-end.ensures.before

pub returns-else-end-text-clause-parts : goal.returns-else-end-text-clause-parts
returns-else-end-text-clause-parts c =
    let inside : c.place_of-end.result < length c.args.text.now = omega (arith, c.place_of-end.ensures.within) in
    parts-cut c.args.text.now c.args.byte c.place_of-end.result inside c.place_of-end.ensures.before (c.place_of-end.ensures.found inside)
