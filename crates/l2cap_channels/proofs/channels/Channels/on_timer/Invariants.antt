use Rattle.std.proofs.Common.{◌≡◌, ◌≤◌, ◌*◌, drop, length}
use Rattle.channel_model.specs.Timing.{times_channels}
use Rattle.l2cap_channels.specs.Machine.{with_channels}
use Rattle.l2cap_channels.specs.Sound.{owns}
use Rattle.l2cap_channels.proofs.channels.Channels.on_timer.Given as goal

-- what is left to be fired brings it to where all of it does
abbrev pub invariant-loop-own : goal.invariant-loop-own
invariant-loop-own l =
    (times_channels l.fn.self.settings.tries (drop l.own-index l.own-items) l.self.channels ≡ times_channels l.fn.self.settings.tries (owns l.fn.self.channels.held) l.fn.self.channels)
    × (l.self ≡ with_channels l.fn.self l.self.channels)
    × (length l.self.channels.events ≤ 2 * l.own-index)
    × (length l.own-items ≤ 4)
