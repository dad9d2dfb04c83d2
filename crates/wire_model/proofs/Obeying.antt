-- The tags of a run obey the draws.
use Rattle.std.proofs.Common.{◌≡◌, ℕ, Bool, List, [], ◌∷◌, Option, ap, subst}
use Rattle.wire_packets.specs.Packets.{Packet}
use Rattle.wire_model.specs.declared.link.Way.{Way}
use Rattle.wire_model.specs.declared.link.Way.TheVariants.{Forth, Back}
use Rattle.wire_model.specs.Machine.{Unit}
use Rattle.wire_model.specs.Draws.{loses, drawn_on}
use Rattle.wire_model.specs.Trace.{Obeys}
use Rattle.wire_model.specs.Pair.{Pair, Event, Took, Crossed, Rang, Runs, CrossesBy, crossings_of}

drew : (way : Way) (p q : Pair) (lost : Bool) (packet : Packet) (got : Option Unit) → CrossesBy way p lost packet got q → (lost ≡ loses p.draws) × (q.draws ≡ drawn_on p.draws)
drew Forth p q lost packet got c = (c.loses, c.draws_on)
drew Back p q lost packet got c = (c.loses, c.draws_on)

pub obeys : (p q : Pair) (events : List Event) → Runs p events q → Obeys p.draws (crossings_of events)
obeys p q [] r = tt
obeys p q (Took unit ∷ events) r = subst (λ (d : Option ℕ). Obeys d (crossings_of events)) (ap (λ (x : Pair). x.draws) r.1.becomes) (obeys r.0 q events r.2)
obeys p q (Crossed crossing got ∷ events) r =
    let d = drew crossing.way p r.0 crossing.lost crossing.packet got r.1 in
    (d.0, subst (λ (x : Option ℕ). Obeys x (crossings_of events)) d.1 (obeys r.0 q events r.2))
obeys p q (Rang ∷ events) r = subst (λ (d : Option ℕ). Obeys d (crossings_of events)) (ap (λ (x : Pair). x.draws) r.1) (obeys r.0 q events r.2)
