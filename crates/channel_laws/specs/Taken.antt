-- That an enhanced channel carries what its host gave it, in its order (Core 5.1, Volume 3 Part A, 7.3, 8.4 and 8.6).
use Rattle.std.specs.Prelude.{ℕ, ◌≡◌, ◌==◌, ◌&&◌, not, Bool, false, List, [], ◌∷◌, Option, Some, None, if◌then◌else◌}
use Rattle.own_channel_laws.specs.talk_laws.specs.capture.specs.declared.flow.Flow.TheVariants.{Out}
use Rattle.own_channel_laws.specs.talk_laws.specs.capture.specs.Histories.{given_by}
use Rattle.own_channel_laws.specs.talk_laws.specs.l2cap_config.specs.declared.wish.Mode.TheVariants.{Enhanced}
use Rattle.own_channel_laws.specs.talk_laws.specs.link_talk.specs.declared.channel.Channel.{Channel}
use Rattle.own_channel_laws.specs.talk_laws.specs.link_talk.specs.declared.party.Party.{Party}
use Rattle.own_channel_laws.specs.talk_laws.specs.link_talk.specs.Carriages.{mode_of}
use Rattle.own_channel_laws.specs.talk_laws.specs.link_talk.specs.Sdus.{sdus}
use Rattle.own_channel_laws.specs.channel_model.specs.Value.{Carrier, Channels}
use Rattle.own_channel_laws.specs.channel_model.specs.Policies.{Policy}
use Rattle.own_channel_laws.specs.channel_model.specs.Calls.{carrier_at, carrier_waits}
use Rattle.own_channel_laws.specs.Runs.{Occurrence, Comes, Connects, AsksFeatures, Disconnects, Sends, Gives, Fires, Tells, run_of}
use Rattle.own_channel_laws.specs.Frames.{AreUttered}
use Rattle.channel_laws.specs.Pipes.{IsFront}
use Rattle.own_channel_laws.specs.Sdus.{StatesFrame}

-- ---- what a channel takes

-- it is open, and no SDU waits that it took before
abbrev pub is_free : Option Carrier → Bool
is_free None = false
is_free (Some carrier) = not (carrier_waits carrier)

-- the SDU that the channel of an own endpoint takes of its host, if it does
abbrev pub taken_in : (own : ℕ) → Occurrence → Channels → List (List ℕ)
taken_in own (Comes pdu) v = []
taken_in own (Connects psm) v = []
taken_in own AsksFeatures v = []
taken_in own (Disconnects other) v = []
taken_in own (Sends other sdu) v = if (other == own) && is_free (carrier_at other v) then sdu ∷ [] else []
taken_in own (Gives pdu) v = []
taken_in own Fires v = []
taken_in own Tells v = []

-- all that it took, in its order
abbrev pub taken_of : Policy → (own : ℕ) → List Occurrence → List (List ℕ)
taken_of policy own list = given_by (λ past more. taken_in own more (run_of policy past).value) list

-- ---- the law

-- Whatever happens to a host: what its own talk says that went out on an enhanced channel is a front of what the channel took.
abbrev pub TakenGoesOut : Type 0
TakenGoesOut = (policy : Policy) (party : Party) (list : List Occurrence) (channel : Channel) → StatesFrame policy party → AreUttered policy list → mode_of channel (run_of policy list).said ≡ Enhanced
    → IsFront (sdus party channel Out (run_of policy list).said) (taken_of policy channel.own list)
