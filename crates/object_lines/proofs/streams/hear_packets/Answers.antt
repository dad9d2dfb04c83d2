use Rattle.std.proofs.Common.{List, ℕ, map, subst, arith}
use Rattle.object_lines.specs.Tallies.{plain_told, plain_tally}
use Rattle.object_lines.proofs.Packeting.{IsPacked, packed_more, tail_is, end_is, packed_tally, packed_told}
use Rattle.object_lines.proofs.streams.hear_packets.Goals as goal

pub returns-in-None-clause-rest : goal.returns-in-None-clause-rest
returns-in-None-clause-rest c = (omega arith, end_is c.args.stream.now c.packets.invariant.packets c.packets.rest.now c.packets.invariant.split c.in-None.ensures)

pub returns-in-None-clause-tally : goal.returns-in-None-clause-tally
returns-in-None-clause-tally c = packed_tally c.args.most c.args.stream.now c.packets.rest.now (plain_tally c.args.tally.now) _ (map plain_told c.args.found.now.items) _ c.packets.invariant c.in-None.ensures

pub returns-in-None-clause-told : goal.returns-in-None-clause-told
returns-in-None-clause-told c = packed_told c.args.most c.args.stream.now c.packets.rest.now (plain_tally c.args.tally.now) _ (map plain_told c.args.found.now.items) _ c.packets.invariant c.in-None.ensures

pub packets-preserved : goal.packets-preserved
packets-preserved c =
    let rest = c.packets.rest.now in
    let packed = λ (left : List ℕ). IsPacked c.args.most c.args.stream.now left (plain_tally c.args.tally.now) (plain_tally c.hear.new.self) (map plain_told c.args.found.now.items) (map plain_told c.hear.new.found.items) in
    subst packed (tail_is c.in-Some.size rest)
    (packed_more c.args.most c.args.stream.now rest (plain_tally c.args.tally.now) _ _ (map plain_told c.args.found.now.items) _ _ c.in-Some.size c.in-Some.ensures.0 c.packets.invariant c.in_ok-hear-in-Some.ensures.left c.in_ok-hear-in-Some.ensures.told)
