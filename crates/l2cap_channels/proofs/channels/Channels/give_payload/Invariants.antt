use Rattle.std.proofs.Common.{◌≡◌, take}
use Rattle.std.specs.Prelude.{None}
use Rattle.std.specs.List.{find}
use Rattle.channel_model.specs.Giving.{gives}
use Rattle.l2cap_channels.proofs.channels.Channels.give_payload.Given as goal

-- the channels before have nothing to give
abbrev pub invariant-loop-at : goal.invariant-loop-at
invariant-loop-at l = (l.self ≡ l.fn.self) × (l.into ≡ l.fn.into) × (find gives (take l.at l.fn.self.channels.held) ≡ None)
