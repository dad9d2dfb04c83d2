-- The numbers of each packet of a run fit their fields.
use Rattle.std.proofs.Common.{◌≡◌, ℕ, ◌<◌, Bool, true, false, cond, List, [], ◌∷◌, Option, Some, None, eqb, leb, ◌&&◌, refl, sym, subst, arith}
use Rattle.std.specs.List.{AllByRecursion}
use Rattle.wire_packets.specs.Packets.{Packet}
use Rattle.wire_model.specs.declared.link.LinkMessage.{LinkMessage}
use Rattle.wire_model.specs.declared.link.LinkMessage.TheVariants.{Sync, SyncResponse, Config, ConfigResponse}
use Rattle.wire_model.specs.declared.link.Stage.{Stage}
use Rattle.wire_model.specs.declared.link.Stage.TheVariants.{Uninitialized, Initialized, Active, Reset}
use Rattle.wire_model.specs.declared.link.Way.{Way}
use Rattle.wire_model.specs.declared.link.Way.TheVariants.{Forth, Back}
use Rattle.wire_model.specs.Machine.{Unit, Wire, Heard, Said, hears, hears_message, message_of, hears_sync, hears_ack, hears_numbers, takes_unit, takes_number, acknowledged, past, quiet, is_unit_kind, link_control, ticked}
use Rattle.wire_model.specs.Pair.{Pair, Event, Took, Crossed, Rang, Runs, Crosses, CrossesBy, hears_over, crossings_of}
use Rattle.wire_model.specs.Reading.{NumbersFit}
use Rattle.wire_model.proofs.Saying.{Saying, message, unit, answer, saying_of}
use Rattle.wire_model.proofs.Hearing.{waits_keeps, message_keeps, tick_keeps}

-- the number that an end expects has three bits
abbrev Expects : Wire → Type 0
Expects w = w.expected < 8

abbrev BothExpect : Pair → Type 0
BothExpect p = Expects p.first × Expects p.second

kept : (w w' : Wire) → w'.expected ≡ w.expected → Expects w → Expects w'
kept w w' e low = omega (arith, e, low)

-- ---- what is said

record Fits (said : Said) : Type 0 where
  seq : said.packet.seq < 8
  ack : said.packet.ack < 8
  after : Expects said.after

said_fits : (w : Wire) (said : Said) → Expects w → Saying w said → Fits said
said_fits w said low (message m rest sound at is) = rw is (record { seq = omega arith; ack = omega arith; after = low })
said_fits w said low (unit u active none at is) = rw is (record { seq = omega arith; ack = low; after = low })
said_fits w said low (answer active none past due is) = rw is (record { seq = omega arith; ack = low; after = low })

-- ---- what is heard

sync_keeps : (stage : Stage) (w : Wire) → (hears_sync stage w).expected ≡ w.expected
sync_keeps Uninitialized w = (waits_keeps SyncResponse w).expected
sync_keeps Initialized w = (waits_keeps SyncResponse w).expected
sync_keeps Active w = refl
sync_keeps Reset w = refl

heard_message : (m : Option LinkMessage) (w : Wire) → (hears_message m w).expected ≡ w.expected
heard_message None w = refl
heard_message (Some Sync) w = sync_keeps w.stage w
heard_message (Some SyncResponse) w = (message_keeps SyncResponse w (λ e. absurd cc)).expected
heard_message (Some (Config field)) w = (message_keeps (Config field) w (λ e. absurd cc)).expected
heard_message (Some (ConfigResponse field)) w = (message_keeps (ConfigResponse field) w (λ e. absurd cc)).expected

heard_ack : (ack : ℕ) (w : Wire) → Expects w → Expects (hears_ack ack w)
heard_ack ack w low = elim (leb (past w.first ack) w.given) as (λ b. Expects (cond b (acknowledged (past w.first ack) w) w)) [ true ↦ low | false ↦ low ]

heard_number : (same : Bool) (u : Unit) (w : Wire) → Expects w → Expects (takes_number same u w).after
heard_number true u w low = omega arith
heard_number false u w low = low

heard_unit : (is_unit : Bool) (packet : Packet) (w : Wire) → Expects w → Expects (takes_unit is_unit packet w).after
heard_unit true packet w low = heard_number (eqb packet.seq w.expected) (record { kind = packet.kind; octets = packet.payload }) w low
heard_unit false packet w low = low

heard_numbers : (stage : Stage) (packet : Packet) (w : Wire) → Expects w → Expects (hears_numbers stage packet w).after
heard_numbers Uninitialized packet w low = low
heard_numbers Initialized packet w low = low
heard_numbers Active packet w low = heard_unit (packet.reliable && is_unit_kind packet.kind) packet (hears_ack packet.ack w) (heard_ack packet.ack w low)
heard_numbers Reset packet w low = low

heard : (packet : Packet) (w : Wire) → Expects w → Expects (hears packet w).after
heard packet w low = elim (eqb packet.kind link_control) as (λ b. let h : Heard = cond b (quiet (hears_message (message_of packet.payload) w)) (hears_numbers w.stage packet w) in Expects h.after) [
  | true ↦ kept w (hears_message (message_of packet.payload) w) (heard_message (message_of packet.payload) w) low
  | false ↦ heard_numbers w.stage packet w low
]

heard_over : (lost : Bool) (packet : Packet) (w : Wire) → Expects w → Expects (hears_over lost packet w).after
heard_over true packet w low = low
heard_over false packet w low = heard packet w low

-- ---- runs

crossed : (from to from' to' : Wire) (draws draws' : Option ℕ) (lost : Bool) (packet : Packet) (got : Option Unit) → Expects from → Expects to → Crosses from to from' to' draws draws' lost packet got
    → ((packet.seq < 8) × (packet.ack < 8)) × Expects from' × Expects to'
crossed from to from' to' draws draws' lost packet got low low' c =
    let said : Said = record { packet = packet; after = from' } in
    let fits = said_fits from said low (saying_of from said c.says) in
    ((fits.seq, fits.ack), fits.after, subst Expects (sym c.hears) (heard_over lost packet to low'))

crosses : (way : Way) (p q : Pair) (lost : Bool) (packet : Packet) (got : Option Unit) → BothExpect p → CrossesBy way p lost packet got q → ((packet.seq < 8) × (packet.ack < 8)) × BothExpect q
crosses Forth p q lost packet got low c = let x = crossed p.first p.second q.first q.second p.draws q.draws lost packet got low.0 low.1 c in (x.0, (x.1, x.2))
crosses Back p q lost packet got low c = let x = crossed p.second p.first q.second q.first p.draws q.draws lost packet got low.1 low.0 c in (x.0, (x.2, x.1))

pub numbers_fit : (p q : Pair) (events : List Event) → BothExpect p → Runs p events q → AllByRecursion NumbersFit (crossings_of events)
numbers_fit p q [] low r = tt
numbers_fit p q (Took u ∷ events) low r = numbers_fit r.0 q events (subst BothExpect (sym r.1.becomes) low) r.2
numbers_fit p q (Crossed c got ∷ events) low r =
    let x = crosses c.way p r.0 c.lost c.packet got low r.1 in
    (x.0, numbers_fit r.0 q events x.1 r.2)
numbers_fit p q (Rang ∷ events) low r =
    let ticks : BothExpect (record p { first = ticked p.first; second = ticked p.second }) = (kept p.first (ticked p.first) (tick_keeps p.first).expected low.0, kept p.second (ticked p.second) (tick_keeps p.second).expected low.1) in
    numbers_fit r.0 q events (subst BothExpect (sym r.1) ticks) r.2
