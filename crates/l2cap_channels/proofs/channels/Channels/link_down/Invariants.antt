use Rattle.std.proofs.Common.{◌≡◌, ◌≤◌, ◌++◌, take, length}
use Rattle.std.specs.List.{flat_map}
use Rattle.channel_model.specs.Value.{Held}
use Rattle.channel_model.specs.Calls.{lost_at}
use Rattle.l2cap_channels.specs.Machine.{with_channels}
use Rattle.l2cap_channels.proofs.channels.Channels.link_down.Given as goal

-- the channels before were told of
abbrev pub invariant-loop-at : goal.invariant-loop-at
invariant-loop-at l =
    (l.self ≡ with_channels l.fn.self (record l.fn.self.channels { events = l.fn.self.channels.events ++ flat_map (λ (h : Held). lost_at h.stage h) (take l.at l.fn.self.channels.held) }))
    × (length l.self.channels.events ≤ l.at)
