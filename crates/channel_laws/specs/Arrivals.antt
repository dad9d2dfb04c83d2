-- What comes over a basic channel, whatever a link loses and repeats (Core 5.1, Volume 3 Part A, 3.1).
use Rattle.std.specs.Prelude.{ℕ, ◌≡◌, List, [], ◌∷◌, ◌++◌, replicate, ◌⊎◌}
use Rattle.std.specs.List.{AllByRecursion}
use Rattle.own_channel_laws.specs.talk_laws.specs.capture.specs.declared.flow.Flow.TheVariants.{Out}
use Rattle.own_channel_laws.specs.talk_laws.specs.l2cap_config.specs.declared.wish.Mode.TheVariants.{Basic}
use Rattle.own_channel_laws.specs.talk_laws.specs.link_talk.specs.declared.channel.Channel.{Channel}
use Rattle.own_channel_laws.specs.talk_laws.specs.link_talk.specs.declared.party.Party.{Party}
use Rattle.own_channel_laws.specs.talk_laws.specs.link_talk.specs.Sayings.{Saying}
use Rattle.own_channel_laws.specs.talk_laws.specs.link_talk.specs.Carriages.{mode_of}
use Rattle.own_channel_laws.specs.talk_laws.specs.link_talk.specs.Sdus.{sdus}
use Rattle.own_channel_laws.specs.channel_model.specs.Policies.{Policy}
use Rattle.own_channel_laws.specs.channel_model.specs.Carrying.{Up}
use Rattle.own_channel_laws.specs.Runs.{sdus_up}
use Rattle.channel_laws.specs.Pairs.{Happening, Acts, Puts, Takes, Repeats, Loses, Damages, Turn, pair_of}
use Rattle.channel_laws.specs.Ends.{AreFair}
use Rattle.channel_laws.specs.Belonging.{AreRead}
use Rattle.channel_laws.specs.Common.{mirrored}
use Rattle.channel_laws.specs.Modes.{OneWishes}
use Rattle.channel_laws.specs.Pipes.{AreCarried, HaveChannel}

-- Of what was sent, in its order, some is left out and some comes two or more times running.
abbrev pub Arrives : {X : Type 0} → (came sent : List X) → Type 0
Arrives came [] = came ≡ []
Arrives {X} came (x ∷ sent) = (times : ℕ) × (rest : List X) × (came ≡ replicate times x ++ rest) × Arrives rest sent

-- so does what one host handed up of its endpoint, of what the other's talk says that went out
abbrev pub IsFerry : (sent : Channel) → List Saying → (own : ℕ) → List Up → Type 0
IsFerry sent said own ups = (party : Party) → mode_of sent said ≡ Basic → Arrives (sdus_up own ups) (sdus party sent Out said)

-- Whatever the link loses, repeats and damages: over a channel that two hosts have in common, and of which one of them wishes basic
-- mode, there come the SDUs that were sent, in their order, some left out and some two or more times running.
abbrev pub BasicChannelsArrive : Type 0
BasicChannelsArrive = (near far : Policy) (turns : List Turn) (channel : Channel) → AreFair near far turns → AreRead near far turns → AreCarried near far turns → HaveChannel near far turns channel → OneWishes near far channel.psm Basic
    → IsFerry (mirrored channel) (pair_of near far turns).far.run.said channel.own (pair_of near far turns).near.run.up × IsFerry channel (pair_of near far turns).near.run.said channel.peer (pair_of near far turns).far.run.up

-- ---- where the link repeats nothing

-- Of what was sent, in its order, some is left out.
abbrev pub ComesOnce : {X : Type 0} → (came sent : List X) → Type 0
ComesOnce came [] = came ≡ []
ComesOnce {X} came (x ∷ sent) = ComesOnce came sent ⊎ ((rest : List X) × (came ≡ x ∷ rest) × ComesOnce rest sent)

-- what is under way does not come in and stay
abbrev pub RepeatsNone : Happening → Type 0
RepeatsNone (Acts occurrence) = Unit {0}
RepeatsNone (Puts pdu) = Unit {0}
RepeatsNone Takes = Unit {0}
RepeatsNone Repeats = ⊥
RepeatsNone Loses = Unit {0}
RepeatsNone (Damages pdu) = Unit {0}

-- so does what one host handed up of its endpoint, of what the other's talk says that went out
abbrev pub IsOnceOver : (sent : Channel) → List Saying → (own : ℕ) → List Up → Type 0
IsOnceOver sent said own ups = (party : Party) → mode_of sent said ≡ Basic → ComesOnce (sdus_up own ups) (sdus party sent Out said)

-- Whatever the link loses and damages, where it repeats nothing: each SDU comes once at most.
abbrev pub BasicChannelsComeOnce : Type 0
BasicChannelsComeOnce = (near far : Policy) (turns : List Turn) (channel : Channel) → AreFair near far turns → AreRead near far turns → AreCarried near far turns → HaveChannel near far turns channel → OneWishes near far channel.psm Basic → AllByRecursion (λ turn. RepeatsNone turn.happening) turns
    → IsOnceOver (mirrored channel) (pair_of near far turns).far.run.said channel.own (pair_of near far turns).near.run.up × IsOnceOver channel (pair_of near far turns).near.run.said channel.peer (pair_of near far turns).far.run.up
