-- What comes to a host in code, and what its controller took.
use Rattle.std.proofs.Common.{refl}
use Rattle.radio_world.specs.radio_model.specs.Controllers.{answer_packet, piece_packet}
use Rattle.radio_world.specs.host_link.specs.Hearing.{heard}
use Rattle.radio_world.specs.world_model.specs.Machines.{Upper}
use Rattle.radio_world.specs.world_model.specs.Stations.{hears_answer, hears_piece}
use Rattle.radio_world.specs.station_laws.proofs.Answering.{answers_are_heard}
use Rattle.radio_world.specs.station_laws.proofs.Hearing.{pieces_are_heard}
use Rattle.line_laws.specs.Seeing.{seen}
use Rattle.line_laws.specs.Laws.{HeardIsSeen, TakenIsSeen}
use Rattle.line_laws.proofs.Sending.{answer_sends, piece_sends}
use Rattle.line_laws.proofs.Seeing.{station_seen, seen_station}

pub heard_is_seen : {S G : Type 0} (U : Upper S G) → HeardIsSeen U
heard_is_seen U side answers upper line is =
    let there = seen_station side upper line is in (
      λ answer may. station_seen side (heard (answer_packet side answer) line) (hears_answer U answers side answer (seen upper line))
          ((answers_are_heard U side 0 answer line (seen upper line) there may).is_station answers) (answer_sends U side answers answer (seen upper line) may is.sends),
      λ handle piece low. station_seen side (heard (piece_packet handle piece) line) (hears_piece U answers handle piece (seen upper line))
          ((pieces_are_heard U side 0 handle piece line (seen upper line) there low).is_station answers) (piece_sends U side answers handle piece (seen upper line) is.sends),
    )

pub taken_is_seen : {S G : Type 0} (U : Upper S G) → TakenIsSeen U
taken_is_seen U side upper line is = record {
  is_seen = record {
    host = record { role = is.host.role; commands = is.host.commands; few = is.host.few; number = is.host.number; alone = is.host.alone; off = is.host.off };
    octets = refl;
    sends = record { out = tt; waiting = is.sends.waiting; pieces = is.sends.pieces; link = is.sends.link; size = is.sends.size };
  };
  station_is = refl;
}
