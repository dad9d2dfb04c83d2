-- Objects within any longest packet, by stretches.
use Rattle.std.proofs.Common.{ℕ, List, map, refl, sym}
use Rattle.std.specs.Prelude.{◌≡◌, ◌↔◌}
use Rattle.link_talk.specs.bt_base.specs.Objects.{Object}
use Rattle.link_talk.specs.obex_headers.specs.Runs.{spelled, FallsInto}
use Rattle.link_talk.specs.obex_headers.proofs.RunLaws.{packets_fall, stretches_spell}
use Rattle.link_talk.specs.Packets.{packets_heard}
use Rattle.link_talk.specs.ObjectsHeard.{put_within, spelled_within}
use Rattle.link_talk.specs.Shortening.{shortened}
use Rattle.link_talk.proofs.Spelling.{spelled_is}
use Rattle.talk_laws.specs.Stretches.{ObjectsFallIntoStretches}

by_stretches : (most : ℕ) (packets : List (List ℕ)) (objects : List Object) → (objects ≡ spelled_within most packets) ↔ FallsInto (map (put_within most) packets) objects
by_stretches most packets objects = (packets_fall (map (put_within most) packets) objects, stretches_spell (map (put_within most) packets) objects)

pub objects-fall_into_stretches : ObjectsFallIntoStretches
objects-fall_into_stretches = record {
  within = by_stretches;
  heard = λ party channel said objects. by_stretches party.packet (packets_heard party channel said) objects;
  longer = λ most packets fits. sym (spelled_is most packets (map (shortened most) packets) (spelled (map (shortened most) packets)) fits refl refl);
}
