-- What holds of what is known of a link, whatever was said on it.
use Rattle.std.specs.Prelude.{ℕ, ◌≡◌, List, Bool}
use Rattle.l2cap_signal.specs.Commands.{connection_response}
use Rattle.seen_channels.specs.declared.direction.Direction.{Direction}
use Rattle.seen_channels.specs.declared.channel.Channel.{Channel}
use Rattle.seen_channels.specs.Tellings.{Learnt, told, with_mode}

-- A successful response that comes again at once tells nothing more: the channel is the one that it was, with its mode.
abbrev pub SameResponseAgain : Type 0
SameResponseAgain = (direction : Direction) (identifier destination source source' status status' : ℕ) (learnt : Learnt)
    → told direction identifier (connection_response destination source' 0 status') (told direction identifier (connection_response destination source 0 status) learnt)
    ≡ told direction identifier (connection_response destination source 0 status) learnt

-- Of two modes that are asked for one after the other the later one counts.
abbrev pub LaterModeCounts : Type 0
LaterModeCounts = (direction : Direction) (cid : ℕ) (first second : Bool) (channels : List Channel) → with_mode direction cid second (with_mode direction cid first channels) ≡ with_mode direction cid second channels
