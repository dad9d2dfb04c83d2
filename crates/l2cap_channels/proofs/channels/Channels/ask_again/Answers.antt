use Rattle.std.proofs.Common.{◌≡◌, true, false, subst, sym}
use Rattle.channel_model.specs.Changing.{is_due}
use Rattle.l2cap_channels.specs.Machine.{Machine}
use Rattle.l2cap_channels.specs.Sound.{owns, is_known, IsQueue}
use Rattle.l2cap_channels.proofs.Queuing.{queue_ask}
use Rattle.l2cap_channels.proofs.Rooming.{room_ask}
use Rattle.l2cap_channels.proofs.Keeping.{few_owns}
use Rattle.l2cap_channels.proofs.channels.Channels.ask_again.Goals as goal

pub ask-requires : goal.ask-requires
ask-requires c =
    let i = c.self.inside in
    room_ask (owns i.places.items) i.queue c.args.errand c.self.invariant.queue (few_owns i c.self.invariant)
    (subst (λ (m : Machine). is_known (owns m.channels.held) c.args.errand ≡ true) (sym c.self.view_is) c.requires.known)
    (subst (λ (m : Machine). is_due c.args.errand m.channels ≡ false) (sym c.self.view_is) c.requires.none)

pub invariant_of-self : goal.invariant_of-self
invariant_of-self c =
    let i = c.self.inside in
    let s = c.self.invariant in
    record {
      four = s.four;
      places_room = s.places_room;
      free_room = s.free_room;
      events_room = s.events_room;
      given = s.given;
      queue = subst (IsQueue (owns i.places.items)) (sym c.ask.ensures)
          (queue_ask (owns i.places.items) i.queue c.args.errand s.queue
          (subst (λ (m : Machine). is_known (owns m.channels.held) c.args.errand ≡ true) (sym c.self.view_is) c.requires.known)
          (subst (λ (m : Machine). is_due c.args.errand m.channels ≡ false) (sym c.self.view_is) c.requires.none));
    }
