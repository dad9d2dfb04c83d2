use Rattle.std.proofs.Common.{sym, arith}
use Rattle.std.proofs.lemmas.List.{get_or_past}
use Rattle.h4_framing.proofs.ExtentLemmas.{unfinished_octets, unfinished_right, refused_wrong}
use Rattle.h4_framing.proofs.LengthLemmas.{least_known, least_short, head_of}
use Rattle.h4_framing.proofs.extent.least_length.Goals as goal

pub unreachable-requires : goal.unreachable-requires
unreachable-requires c =
    unfinished_right c.args.limit c.args.octets.now _ _ c.requires.unfinished (refused_wrong c.args.limit c.args.octets.now _ _ (unfinished_octets c.args.limit c.args.octets.now c.requires.unfinished) (sym c.in-Refused.ensures))

pub returns-in-Known : goal.returns-in-Known
returns-in-Known c = least_known c.args.limit c.args.octets.now c.in-Known.length c.requires.unfinished (sym c.in-Known.ensures)

pub returns-in-empty : goal.returns-in-empty
returns-in-empty c =
    let head = head_of c.args.limit c.in-AtLeast.length c.args.octets.now c.requires.limit c.requires.unfinished (sym c.in-AtLeast.ensures) in
    least_short c.args.limit c.in-AtLeast.length 3 c.args.octets.now c.requires.limit c.requires.unfinished (sym c.in-AtLeast.ensures)
    (omega (arith, head.empty (omega arith), get_or_past c.args.octets.now 3 0 (omega arith)))

pub returns-in-2 : goal.returns-in-2
returns-in-2 c =
    let head = head_of c.args.limit c.in-AtLeast.length c.args.octets.now c.requires.limit c.requires.unfinished (sym c.in-AtLeast.ensures) in
    least_short c.args.limit c.in-AtLeast.length _ c.args.octets.now c.requires.limit c.requires.unfinished (sym c.in-AtLeast.ensures) (omega (arith, head.short, head.bound))

pub returns-in_default : goal.returns-in_default
returns-in_default c =
    let head = head_of c.args.limit c.in-AtLeast.length c.args.octets.now c.requires.limit c.requires.unfinished (sym c.in-AtLeast.ensures) in
    least_short c.args.limit c.in-AtLeast.length _ c.args.octets.now c.requires.limit c.requires.unfinished (sym c.in-AtLeast.ensures)
    (omega (arith, head.some (omega arith), get_or_past c.args.octets.now 3 0 (omega arith)))

pub returns-in_default-2 : goal.returns-in_default-2
returns-in_default-2 c =
    let head = head_of c.args.limit c.in-AtLeast.length c.args.octets.now c.requires.limit c.requires.unfinished (sym c.in-AtLeast.ensures) in
    absurd (omega (arith, head.acl (omega (arith, head.short, head.bound))))

pub returns-in_default-3 : goal.returns-in_default-3
returns-in_default-3 c =
    let head = head_of c.args.limit c.in-AtLeast.length c.args.octets.now c.requires.limit c.requires.unfinished (sym c.in-AtLeast.ensures) in
    absurd (omega (arith, head.short, head.bound))
