use Rattle.std.proofs.Common.{◌≡◌, take}
use Rattle.std.specs.List.{find}
use Rattle.std.specs.Prelude.{None}
use Rattle.channel_model.specs.Changing.{has_own}
use Rattle.l2cap_channels.proofs.channels.Channels.place_of.Given as goal

-- none before has the endpoint
abbrev pub invariant-loop-at : goal.invariant-loop-at
invariant-loop-at l = find (has_own l.own) (take l.at l.place-items) ≡ None
