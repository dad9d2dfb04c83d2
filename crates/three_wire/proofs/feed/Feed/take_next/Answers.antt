use Rattle.std.proofs.Common.{◌-◌, ℕ, List, take, drop, refl, sym, ap, subst, ◌∙◌, arith}
use Rattle.std.proofs.lemmas.List.{with_items_is, take_at}
use Rattle.h4_framing.specs.declared.framer.Taken.{Taken}
use Rattle.h4_framing.specs.declared.framer.Taken.TheVariants.{Whole, More, Refused}
use Rattle.h4_framing.specs.Packets.{packet, spelling, IsPacket}
use Rattle.h4_framing.specs.Taking.{Takes}
use Rattle.three_wire.proofs.Feeding.{unit_bound, fed_whole, fed_more, fed_refused}
use Rattle.three_wire.proofs.feed.Feed.take_next.Goals as goal

pub write_unit-n-requires-clause-room : goal.write_unit-n-requires-clause-room
write_unit-n-requires-clause-room c =
    let feed = c.args.self.now in
    let whole = subst (λ (t : Taken). Takes feed.framer (take (feed.end - feed.at) (drop feed.at c.deref.result.now)) t c.take.follows.lender-at-none) c.in-Whole.is c.take.follows.holds-at-none in
    let bound = unit_bound (packet c.in-Whole.unit) (subst (λ (l : ℕ). IsPacket l (packet c.in-Whole.unit)) c.requires.shape.limit whole.1) in
    omega (arith, bound, c.deref_mut.ensures.len, c.requires.shape.unit)

pub returns-in-Whole-clause-takes : goal.returns-in-Whole-clause-takes
returns-in-Whole-clause-takes c = λ input left packets f.
    let feed = c.args.self.now in
    let whole = subst (λ (t : Taken). Takes feed.framer (take (feed.end - feed.at) (drop feed.at c.deref.result.now)) t c.take.follows.lender-at-none) c.in-Whole.is c.take.follows.holds-at-none in
    let takes = subst (λ (xs : List ℕ). Takes feed.framer (take (feed.end - feed.at) (drop feed.at xs)) (Whole c.in-Whole.unit c.in-Whole.used) c.take.follows.lender-at-none) c.deref.ensures.value whole in
    let next = fed_whole input left feed _ packets c.in-Whole.unit c.in-Whole.used c.requires.shape f takes refl refl refl refl in
    let same = with_items_is c.args.self.now.unit c.write_unit-n.new.into (omega (arith, c.write_unit-n.auto.into, c.deref_mut.ensures.len)) in (
      packet c.in-Whole.unit,
      next.0,
      next.1,
      c.write_unit-n.ensures.count,
      ap (take c.write_unit-n.result) (same ∙ c.write_unit-n.ensures.written) ∙ take_at (spelling (packet c.in-Whole.unit)) (drop c.write_unit-n.result c.deref_mut.result.now) c.write_unit-n.result (sym c.write_unit-n.ensures.count),
    )

pub returns-in-More-clause-takes : goal.returns-in-More-clause-takes
returns-in-More-clause-takes c = λ input left packets f.
    let feed = c.args.self.now in
    let more = subst (λ (t : Taken). Takes feed.framer (take (feed.end - feed.at) (drop feed.at c.deref.result.now)) t c.take.follows.lender-at-none) c.in-More.is c.take.follows.holds-at-none in
    let takes = subst (λ (xs : List ℕ). Takes feed.framer (take (feed.end - feed.at) (drop feed.at xs)) More c.take.follows.lender-at-none) c.deref.ensures.value more in
    fed_more input left feed _ packets c.requires.shape f takes refl refl refl refl

pub returns-in-Refused-clause-takes : goal.returns-in-Refused-clause-takes
returns-in-Refused-clause-takes c = λ input left packets f.
    let feed = c.args.self.now in
    let refused = subst (λ (t : Taken). Takes feed.framer (take (feed.end - feed.at) (drop feed.at c.deref.result.now)) t c.take.follows.lender-at-none) c.in-Refused.is c.take.follows.holds-at-none in
    let takes = subst (λ (xs : List ℕ). Takes feed.framer (take (feed.end - feed.at) (drop feed.at xs)) (Refused c.in-Refused.refusal c.in-Refused.place) c.take.follows.lender-at-none) c.deref.ensures.value refused in
    fed_refused input left feed c.take.follows.lender-at-none packets c.in-Refused.refusal c.in-Refused.place c.requires.shape f takes
