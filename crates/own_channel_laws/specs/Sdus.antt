-- The SDUs that are handed up of a channel (Core 5.1, Volume 3 Part A, 3.1, 3.3, 7.3 and 8.4).
use Rattle.std.specs.Prelude.{ℕ, ◌≡◌, true, Bool, List, [], ◌∷◌, ◌++◌, ◌⊎◌}
use Rattle.talk_laws.specs.capture.specs.declared.flow.Flow.TheVariants.{Into}
use Rattle.talk_laws.specs.link_talk.specs.declared.channel.Channel.{Channel}
use Rattle.talk_laws.specs.link_talk.specs.declared.party.Party.{Party}
use Rattle.talk_laws.specs.link_talk.specs.Sdus.{sdus}
use Rattle.channel_model.specs.Policies.{Policy}
use Rattle.channel_model.specs.Telling.{is_told_broken}
use Rattle.own_channel_laws.specs.Runs.{Occurrence, run_of, arisen, sdus_up}

-- a host states the same longest part of an SDU for all its channels
abbrev pub StatesFrame : Policy → Party → Type 0
StatesFrame policy party = (psm : ℕ) → (policy.wish psm).mps ≡ party.frame

-- What was handed up is what is read. Where its machine closed the channel, the PDU for which it did so may bring one SDU more.
abbrev pub IsHandedUp : (broken : Bool) → (up read : List (List ℕ)) → Type 0
IsHandedUp broken up read = (read ≡ up) ⊎ ((broken ≡ true) × (sdu : List ℕ) × (read ≡ up ++ sdu ∷ []))

-- Whatever happens: the SDUs that are handed up of a channel, in both modes, are those that the own talk of the host brings.
abbrev pub SdusAreRead : Type 0
SdusAreRead = (policy : Policy) (party : Party) (list : List Occurrence) (channel : Channel) → StatesFrame policy party
    → IsHandedUp (is_told_broken channel.own (arisen (run_of policy list))) (sdus_up channel.own (run_of policy list).up) (sdus party channel Into (run_of policy list).said)
