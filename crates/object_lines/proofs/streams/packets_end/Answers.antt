use Rattle.std.proofs.Common.{[], ◌∷◌, ◌++◌, take, refl, subst, arith}
use Rattle.object_lines.proofs.Splitting.{IsSplit, split_more}
use Rattle.object_lines.proofs.Packeting.{tail_is, end_is}
use Rattle.object_lines.proofs.streams.packets_end.Goals as goal

pub returns-in-None : goal.returns-in-None
returns-in-None c = (omega arith, end_is c.args.stream.now c.packets.invariant.0 c.packets.rest.now c.packets.invariant.1 c.in-None.ensures)

pub packets-preserved : goal.packets-preserved
packets-preserved c =
    let rest = c.packets.rest.now in
    let one = take c.in-Some.size rest in
    let packets = c.packets.invariant.0 in
    (packets ++ one ∷ [], subst (IsSplit c.args.stream.now (packets ++ one ∷ [])) (tail_is c.in-Some.size rest) (split_more c.args.stream.now packets (packets ++ one ∷ []) rest c.in-Some.size c.in-Some.ensures.0 refl c.packets.invariant.1))
