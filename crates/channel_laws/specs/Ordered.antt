-- A basic channel over a link that is ordered, or breaks, is a pipe of SDUs (Core 5.1, Volume 3 Part A, 2.1 and 3.1).
use Rattle.std.specs.Prelude.{ℕ, ◌≡◌, Bool, true, false, List, [], ◌∷◌}
use Rattle.own_channel_laws.specs.talk_laws.specs.capture.specs.declared.flow.Flow.TheVariants.{Out}
use Rattle.own_channel_laws.specs.talk_laws.specs.l2cap_config.specs.declared.wish.Mode.TheVariants.{Basic}
use Rattle.own_channel_laws.specs.talk_laws.specs.link_talk.specs.declared.channel.Channel.{Channel}
use Rattle.own_channel_laws.specs.talk_laws.specs.link_talk.specs.declared.party.Party.{Party}
use Rattle.own_channel_laws.specs.talk_laws.specs.link_talk.specs.Sayings.{Saying}
use Rattle.own_channel_laws.specs.talk_laws.specs.link_talk.specs.Carriages.{mode_of}
use Rattle.own_channel_laws.specs.talk_laws.specs.link_talk.specs.Sdus.{sdus}
use Rattle.own_channel_laws.specs.channel_model.specs.Policies.{Policy}
use Rattle.own_channel_laws.specs.channel_model.specs.Carrying.{Up}
use Rattle.own_channel_laws.specs.Runs.{sdus_up}
use Rattle.channel_laws.specs.Pairs.{Happening, Acts, Puts, Takes, Repeats, Loses, Damages, Side, Near, Far, Turn, pair_of}
use Rattle.channel_laws.specs.Ends.{AreFair}
use Rattle.channel_laws.specs.Belonging.{AreRead}
use Rattle.channel_laws.specs.Common.{mirrored}
use Rattle.channel_laws.specs.Modes.{OneWishes}
use Rattle.channel_laws.specs.Pipes.{AreCarried, HaveChannel, IsFront}

-- ---- a way that is ordered, or breaks

abbrev pub same_side : Side → Side → Bool
same_side Near Near = true
same_side Near Far = false
same_side Far Near = false
same_side Far Far = true

-- by whether it is at this end
abbrev pub AtEnd : Bool → (here away : Type 0) → Type 0
AtEnd true here away = here
AtEnd false here away = away

-- nothing comes in
abbrev pub ComesNone : Happening → Type 0
ComesNone (Acts occurrence) = Unit {0}
ComesNone (Puts pdu) = Unit {0}
ComesNone Takes = ⊥
ComesNone Repeats = ⊥
ComesNone Loses = Unit {0}
ComesNone (Damages pdu) = ⊥

-- nothing comes in at this end any more
abbrev pub IsBroken : Side → List Turn → Type 0
IsBroken side [] = Unit {0}
IsBroken side (turn ∷ turns) = AtEnd (same_side turn.side side) (ComesNone turn.happening) (Unit {0}) × IsBroken side turns

-- of what is under way the first comes in, once and as it is; or it is lost, and the way is broken from then on
abbrev pub KeepsWay : Happening → (whole broken : Type 0) → Type 0
KeepsWay (Acts occurrence) whole broken = whole
KeepsWay (Puts pdu) whole broken = whole
KeepsWay Takes whole broken = whole
KeepsWay Repeats whole broken = ⊥
KeepsWay Loses whole broken = broken
KeepsWay (Damages pdu) whole broken = ⊥

-- the way to this end hands over all in its order until it breaks, if it does
abbrev pub IsOrdered : Side → List Turn → Type 0
IsOrdered side [] = Unit {0}
IsOrdered side (turn ∷ turns) = AtEnd (same_side turn.side side) (KeepsWay turn.happening (IsOrdered side turns) (IsBroken side turns)) (IsOrdered side turns)

-- ---- the law

-- what one host handed up of its endpoint is a front of what the other's talk says that went out
abbrev pub IsBasicPipe : (sent : Channel) → List Saying → (own : ℕ) → List Up → Type 0
IsBasicPipe sent said own ups = (party : Party) → mode_of sent said ≡ Basic → IsFront (sdus_up own ups) (sdus party sent Out said)

-- A basic channel that two hosts have in common is a pipe of SDUs each way that is ordered or breaks, whatever becomes of the other way.
abbrev pub BasicChannelsArePipes : Type 0
BasicChannelsArePipes = (near far : Policy) (turns : List Turn) (channel : Channel) → AreFair near far turns → AreRead near far turns → AreCarried near far turns → HaveChannel near far turns channel → OneWishes near far channel.psm Basic
    → (IsOrdered Near turns → IsBasicPipe (mirrored channel) (pair_of near far turns).far.run.said channel.own (pair_of near far turns).near.run.up)
    × (IsOrdered Far turns → IsBasicPipe channel (pair_of near far turns).near.run.said channel.peer (pair_of near far turns).far.run.up)
