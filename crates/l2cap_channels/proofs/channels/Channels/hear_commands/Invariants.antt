use Rattle.std.proofs.Common.{◌≡◌, ◌+◌, ◌≤◌, length}
use Rattle.std.specs.List.{AllByRecursion}
use Rattle.l2cap_signal.specs.Reading.{answers}
use Rattle.channel_model.specs.Hearing.{hears_commands}
use Rattle.l2cap_channels.specs.Machine.{policy_of, with_channels}
use Rattle.l2cap_channels.specs.Usable.{IsUsable}
use Rattle.l2cap_channels.proofs.channels.Channels.hear_commands.Given as goal

-- the commands that are left make of the channels what all of them make of those before; each event comes of a command
abbrev pub invariant-loop-heard : goal.invariant-loop-heard
invariant-loop-heard l =
    (with_channels l.self (hears_commands (policy_of l.self) l.signals l.self.channels) ≡ with_channels l.fn.self (hears_commands (policy_of l.fn.self) (answers l.payload) l.fn.self.channels))
    × AllByRecursion IsUsable l.signals
    × (length l.self.channels.events + length l.signals ≤ 168)

abbrev pub decreases-loop-heard : goal.decreases-loop-heard
decreases-loop-heard l = length l.signals
