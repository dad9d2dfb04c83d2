-- A host in code is what its octets say, and is so again behind each of its calls.
use Rattle.std.proofs.Common.{◌≡◌, ◌<◌, List, [], ◌∷◌, length, refl, sym, ap, subst, ◌∙◌, arith}
use Rattle.radio_world.specs.h4_framing.specs.Packets.{Packet, Command, Acl, Sync, Event, spelling}
use Rattle.radio_world.specs.push_terms.specs.declared.word.Side.{Side}
use Rattle.radio_world.specs.host_link.specs.Lines.{Line}
use Rattle.radio_world.specs.host_link.specs.PuttingOut.{started}
use Rattle.radio_world.specs.world_model.specs.Machines.{Upper}
use Rattle.radio_world.specs.world_model.specs.Stations.{Order, order_packet, Station, Effort, Commanding, first_station}
use Rattle.radio_world.specs.station_laws.specs.Seen.{role_of, IsWithin, IsStation, station_of}
use Rattle.radio_world.specs.station_laws.specs.Striving.{Makes, Strives}
use Rattle.radio_world.specs.station_laws.proofs.Striving.{starts_as_first}
use Rattle.radio_world.specs.Hosts.{order_octets, MakesEfforts}
use Rattle.line_laws.specs.Reading.{orders_in}
use Rattle.line_laws.specs.Seeing.{seen, SaysOctets, MaySend, IsSeen}
use Rattle.line_laws.specs.Laws.{StationsAreSeen, StrivesAreSeen, GoesAsSeen, HearsAsSeen}
use Rattle.line_laws.proofs.Reading.{orders_are_read}
use Rattle.line_laws.proofs.Sending.{efforts_keep, first_sends}

some_octets : (packet : Packet) → 0 < length (spelling packet)
some_octets (Command opcode params) = omega arith
some_octets (Acl word octets) = omega arith
some_octets (Sync word octets) = omega arith
some_octets (Event code params) = omega arith

nothing_gone : (side : Side) (orders : List Order) → IsWithin side 0 orders
nothing_gone side [] = refl
nothing_gone side (order ∷ orders) = some_octets (order_packet side order)

-- a station that may send is the one that its octets tell of
pub station_seen : {S : Type 0} (side : Side) (line : Line) (station : Station S) → IsStation side 0 line station → MaySend side station → HearsAsSeen side station line
station_seen {S} side line station is sends =
    let octets : line.out ≡ order_octets side station.out = is.offers.octets_are in
    let read : orders_in line.out ≡ station.out = ap orders_in octets ∙ orders_are_read side station.out sends.out in
    let same : seen station.upper line ≡ station = ap (λ (out : List Order). station_of station.upper out line) read ∙ sym is.seen in
    record {
      is_seen = record { host = is.host; octets = octets ∙ ap (order_octets side) (sym read); sends = subst (λ (s : Station S). MaySend side s) (sym same) sends };
      station_is = same;
    }

pub seen_station : {S : Type 0} (side : Side) (upper : S) (line : Line) → IsSeen side upper line → IsStation side 0 line (seen upper line)
seen_station side upper line is = record { host = is.host; offers = record { octets_are = is.octets; within = nothing_gone side (orders_in line.out) }; seen = refl }

makes_efforts : {S G : Type 0} (U : Upper S G) (side : Side) (efforts : List Effort) (old new : Station S) → Makes U side efforts old new → MakesEfforts U side efforts old new
makes_efforts U side [] old new makes = makes
makes_efforts U side (effort ∷ efforts) old new (mid, does, makes) = (mid, does, makes_efforts U side efforts mid new makes)

pub goes_as_seen : {S G : Type 0} (U : Upper S G) (side : Side) (efforts : List Effort) (old : Station S) (upper : S) (line : Line) → SaysOctets U → MaySend side old → Strives U side 0 efforts old upper line → GoesAsSeen U side efforts old upper line
goes_as_seen {S} U side efforts old upper line octets sends strives =
    let there = station_seen side line strives.after strives.is_station (efforts_keep U side efforts old strives.after octets strives.makes sends) in
    record {
      is_seen = subst (λ (s : S). IsSeen side s line) strives.upper_is there.is_seen;
      makes = subst (λ (s : S). MakesEfforts U side efforts old (seen s line)) strives.upper_is
          (subst (λ (s : Station S). MakesEfforts U side efforts old s) (sym there.station_is) (makes_efforts U side efforts old strives.after strives.makes));
    }

pub stations_are_seen : {S G : Type 0} (U : Upper S G) → StationsAreSeen U
stations_are_seen U side octets = goes_as_seen U side (Commanding ∷ []) (first_station U side) U.first (started (role_of side)) octets (first_sends U side) (starts_as_first U side)

pub strives_are_seen : {S G : Type 0} (U : Upper S G) → StrivesAreSeen U
strives_are_seen U side efforts upper after old new octets is strives = goes_as_seen U side efforts (seen upper old) after new octets is.sends strives
