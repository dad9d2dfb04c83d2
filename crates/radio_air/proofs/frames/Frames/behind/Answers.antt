use Rattle.std.proofs.Common.{◌≡◌, ◌+◌, ◌<◌, ◌≤◌, ◌^◌, Some, length, drop, take, sym, ap, ap₂, ◌∙◌, arith}
use Rattle.std.proofs.lemmas.Option.{slice_get_within}
use Rattle.radio_air.specs.Rings.{total}
use Rattle.radio_air.proofs.Splitting.{total_at, split_at, split_past}
use Rattle.radio_air.proofs.frames.Frames.behind.Goals as goal

pub octets_of-from-requires-clause-enough : goal.octets_of-from-requires-clause-enough
octets_of-from-requires-clause-enough c = omega (arith, slice_get_within c.self.inside.lengths.items c.args.count c.in-Some.length.now (sym c.in-Some.ensures))

pub part-requires : goal.part-requires
part-requires c =
    let here = c.self.inside in
    let more = total_at here.lengths.items c.args.count c.in-Some.length.now (sym c.in-Some.ensures) in
    omega (arith, more.1, c.octets_of-from.ensures, c.self.invariant.whole_is, c.self.invariant.within)

pub returns-in-Some : goal.returns-in-Some
returns-in-Some c =
    let here = c.self.inside in
    let parts = c.part.ensures ∙ ap (λ from. take c.in-Some.length.now (drop from here.octets.items)) c.octets_of-from.ensures in
    rw (← c.self.view_is) (ap (λ octets. Some octets) parts ∙ sym (split_at here.lengths.items here.octets.items c.args.count c.in-Some.length.now (sym c.in-Some.ensures)))

pub returns-in-None : goal.returns-in-None
returns-in-None c = rw (← c.self.view_is) (sym (split_past c.self.inside.lengths.items c.self.inside.octets.items c.args.count (sym c.in-None.ensures)))
