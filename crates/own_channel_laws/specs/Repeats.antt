-- Requests that are sent again (Core 5.1, Volume 3 Part A, 4).
use Rattle.std.specs.Prelude.{◌≡◌, true, option_map, Ok}
use Rattle.talk_laws.specs.l2cap_signal.specs.Commands.{Command}
use Rattle.channel_model.specs.Value.{Channels}
use Rattle.channel_model.specs.Policies.{Policy}
use Rattle.channel_model.specs.Following.{can_say}
use Rattle.channel_model.specs.Hearing.{hears_command}
use Rattle.own_channel_laws.specs.OwnTalk.{reply_to}

-- A request for whose response there is room gets the same response when it comes again, or none again, whatever followed from it.
abbrev pub RepeatsAreAnswered : Type 0
RepeatsAreAnswered = (policy : Policy) (command : Command) (v : Channels) → can_say (option_map (λ (c : Command). c.content) (reply_to policy (Ok command) v)) v ≡ true
    → reply_to policy (Ok command) (hears_command policy (Ok command) v) ≡ reply_to policy (Ok command) v
