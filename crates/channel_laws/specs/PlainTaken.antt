-- That a basic channel carries what its host gave it, in its order (Core 5.1, Volume 3 Part A, 3.1).
use Rattle.std.specs.Prelude.{◌≡◌, List}
use Rattle.own_channel_laws.specs.talk_laws.specs.capture.specs.declared.flow.Flow.TheVariants.{Out}
use Rattle.own_channel_laws.specs.talk_laws.specs.l2cap_config.specs.declared.wish.Mode.TheVariants.{Basic}
use Rattle.own_channel_laws.specs.talk_laws.specs.link_talk.specs.declared.channel.Channel.{Channel}
use Rattle.own_channel_laws.specs.talk_laws.specs.link_talk.specs.declared.party.Party.{Party}
use Rattle.own_channel_laws.specs.talk_laws.specs.link_talk.specs.Channels.{reading}
use Rattle.own_channel_laws.specs.talk_laws.specs.link_talk.specs.Sdus.{sdus}
use Rattle.own_channel_laws.specs.channel_model.specs.Policies.{Policy}
use Rattle.own_channel_laws.specs.Runs.{Occurrence, run_of, sdus_up}
use Rattle.own_channel_laws.specs.Views.{read_at}
use Rattle.own_channel_laws.specs.Frames.{AreUttered}
use Rattle.own_channel_laws.specs.Endpoints.{IsOf}
use Rattle.channel_laws.specs.Pairs.{Near, Far, Turn, pair_of}
use Rattle.channel_laws.specs.Ends.{AreFair}
use Rattle.channel_laws.specs.Belonging.{AreRead}
use Rattle.channel_laws.specs.Pipes.{AreCarried, HaveChannel, IsFront}
use Rattle.channel_laws.specs.Taken.{taken_of}
use Rattle.channel_laws.specs.Delivered.{IsRunBy}
use Rattle.channel_laws.specs.Ordered.{IsOrdered}

-- Whatever happens to a host: what its own talk says that went out on a channel of which it wishes basic mode is what the channel took,
-- SDU for SDU.
abbrev pub PlainTakenGoesOut : Type 0
PlainTakenGoesOut = (policy : Policy) (party : Party) (list : List Occurrence) (channel : Channel) → AreUttered policy list → IsOf channel (read_at channel.own (reading (run_of policy list).said).entries) → (policy.wish channel.psm).mode ≡ Basic
    → sdus party channel Out (run_of policy list).said ≡ taken_of policy channel.own list

-- Where both hosts wish basic mode of its PSM, over a channel that they have in common there come, each way that is ordered or breaks, the
-- SDUs that the channel took of the other host, in their order and with none left out.
abbrev pub PlainTakenIsDelivered : Type 0
PlainTakenIsDelivered = (near far : Policy) (turns : List Turn) (channel : Channel) (one other : List Occurrence) → AreFair near far turns → AreRead near far turns → AreCarried near far turns → HaveChannel near far turns channel
    → (near.wish channel.psm).mode ≡ Basic → (far.wish channel.psm).mode ≡ Basic → IsRunBy near (pair_of near far turns).near.run one → IsRunBy far (pair_of near far turns).far.run other
    → (IsOrdered Near turns → IsFront (sdus_up channel.own (pair_of near far turns).near.run.up) (taken_of far channel.peer other))
    × (IsOrdered Far turns → IsFront (sdus_up channel.peer (pair_of near far turns).far.run.up) (taken_of near channel.own one))
