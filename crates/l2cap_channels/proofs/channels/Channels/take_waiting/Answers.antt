use Rattle.std.proofs.Common.{subst, sym}
use Rattle.l2cap_channels.specs.Sound.{owns, IsQueue}
use Rattle.l2cap_channels.proofs.Queuing.{queue_rest}
use Rattle.l2cap_channels.proofs.channels.Channels.take_waiting.Goals as goal

pub invariant_of-self : goal.invariant_of-self
invariant_of-self c =
    let s = c.self.invariant in
    record {
      four = s.four;
      places_room = s.places_room;
      free_room = s.free_room;
      events_room = s.events_room;
      given = s.given;
      queue = subst (IsQueue (owns c.self.inside.places.items)) (sym c.take.ensures.rest) (queue_rest (owns c.self.inside.places.items) c.self.inside.queue s.queue);
    }
