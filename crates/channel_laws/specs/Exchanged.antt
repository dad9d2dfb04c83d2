-- What is spoken on a basic channel, both ways in one order (Core 5.1, Volume 3 Part A, 3.1).
use Rattle.std.specs.Prelude.{ℕ, ◌≡◌, ◌==◌, List, [], ◌∷◌, ◌++◌, map, if◌then◌else◌}
use Rattle.own_channel_laws.specs.talk_laws.specs.capture.specs.declared.flow.Flow.TheVariants.{Out, Into}
use Rattle.own_channel_laws.specs.talk_laws.specs.capture.specs.Histories.{given_by}
use Rattle.own_channel_laws.specs.talk_laws.specs.l2cap_config.specs.declared.wish.Mode.TheVariants.{Basic}
use Rattle.own_channel_laws.specs.talk_laws.specs.link_talk.specs.declared.channel.Channel.{Channel}
use Rattle.own_channel_laws.specs.talk_laws.specs.link_talk.specs.declared.party.Party.{Party}
use Rattle.own_channel_laws.specs.talk_laws.specs.link_talk.specs.Channels.{reading}
use Rattle.own_channel_laws.specs.talk_laws.specs.link_talk.specs.Sdus.{Spoken, spoken_as, spoken}
use Rattle.own_channel_laws.specs.channel_model.specs.Carrying.{Up, Nothing, Received}
use Rattle.own_channel_laws.specs.channel_model.specs.Policies.{Policy}
use Rattle.own_channel_laws.specs.channel_model.specs.Value.{Channels}
use Rattle.own_channel_laws.specs.Endpoints.{IsOf}
use Rattle.own_channel_laws.specs.Frames.{AreUttered}
use Rattle.own_channel_laws.specs.Runs.{Occurrence, up_with, run_of}
use Rattle.channel_laws.specs.Taken.{taken_in}
use Rattle.own_channel_laws.specs.Views.{read_at}

-- an SDU that is handed up of the channel of an own endpoint
abbrev pub heard_in : (own : ℕ) → Up → List Spoken
heard_in own Nothing = []
heard_in own (Received other psm sdu) = if other == own then spoken_as Into sdu ∷ [] else []

-- what is spoken there as something happens: an SDU is handed up, or one is taken
abbrev pub exchanged_in : (own : ℕ) → Occurrence → Channels → List Spoken
exchanged_in own more v = heard_in own (up_with more v) ++ map (spoken_as Out) (taken_in own more v)

-- all of it, in the order in which it happened
abbrev pub exchanged_of : Policy → (own : ℕ) → List Occurrence → List Spoken
exchanged_of policy own list = given_by (λ past more. exchanged_in own more (run_of policy past).value) list

-- Whatever happens to a host: what its own talk says that was spoken on a channel of which it wishes basic mode is what the channel took and
-- what was handed up of it, SDU for SDU, both ways in their order.
abbrev pub ExchangedIsSpoken : Type 0
ExchangedIsSpoken = (policy : Policy) (party : Party) (list : List Occurrence) (channel : Channel) → AreUttered policy list → IsOf channel (read_at channel.own (reading (run_of policy list).said).entries) → (policy.wish channel.psm).mode ≡ Basic
    → spoken party channel (run_of policy list).said ≡ exchanged_of policy channel.own list
