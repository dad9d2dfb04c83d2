-- That the machines of a channel which two hosts have in common go through what two ends go through on a link of their own (Core 5.1, Volume 3
-- Part A, 8.6).
use Rattle.std.specs.Prelude.{ℕ, ◌≡◌, true, List, [], ◌∷◌, Some, ◌⊎◌}
use Rattle.channel_laws.specs.l2cap_config.specs.declared.wish.Agreed.{Agreed}
use Rattle.channel_laws.specs.ertm_model.specs.Value.{Ertm}
use Rattle.channel_laws.specs.ertm_model.specs.Pair.{Give, Fire, Submit, Pass, Lose, Repeat, Turn as Deed, ByA, ByB, all_turned, AllMay, new_pair as new_ends, Meets}
use Rattle.channel_laws.specs.link_talk.specs.declared.channel.Channel.{Channel}
use Rattle.channel_laws.specs.channel_model.specs.Calls.{carrier_at}
use Rattle.channel_laws.specs.channel_model.specs.Policies.{Policy}
use Rattle.channel_laws.specs.channel_model.specs.Value.{Retransmitting}
use Rattle.channel_laws.specs.Belonging.{AreRead}
use Rattle.channel_laws.specs.Ends.{AreFair}
use Rattle.channel_laws.specs.Pairs.{Happening, Acts, Puts, Takes, Repeats, Loses, Damages, Side, Near, Far, Turn, pair_of}
use Rattle.channel_laws.specs.Pipes.{AreCarried, HaveChannel, CanStateBoth}
use Rattle.channel_laws.specs.Tries.{is_firing}

-- ---- one turn

-- What a turn of the near host may be for the ends, of which A is its own: its timer fires, it takes an SDU, or it gives a frame; and of the frames that B gave,
-- the front one is handed over, handed over and stays, or lost.
abbrev pub IsDeed : Happening → Deed → Type 0
IsDeed (Acts occurrence) deed = ((is_firing occurrence ≡ true) × (deed ≡ ByA Fire)) ⊎ ((sdu : List ℕ) × (deed ≡ ByA (Submit sdu)))
IsDeed (Puts pdu) deed = deed ≡ ByA Give
IsDeed Takes deed = deed ≡ ByB Pass
IsDeed Repeats deed = deed ≡ ByB Repeat
IsDeed Loses deed = deed ≡ ByB Lose
IsDeed (Damages pdu) deed = deed ≡ ByB Lose

abbrev pub mirrored_deed : Deed → Deed
mirrored_deed (ByA deed) = ByB deed
mirrored_deed (ByB deed) = ByA deed

abbrev pub IsDeedAt : Side → Happening → Deed → Type 0
IsDeedAt Near happening deed = IsDeed happening deed
IsDeedAt Far happening deed = IsDeed happening (mirrored_deed deed)

-- ---- all turns

-- each turn is nothing for the ends, or the next of these
abbrev pub AreDeeds : List Turn → List Deed → Type 0
AreDeeds [] [] = Unit {0}
AreDeeds [] (deed ∷ deeds) = ⊥
AreDeeds (turn ∷ turns) [] = AreDeeds turns []
AreDeeds (turn ∷ turns) (deed ∷ deeds) = AreDeeds turns (deed ∷ deeds) ⊎ (IsDeedAt turn.side turn.happening deed × AreDeeds turns deeds)

-- the machines of both hosts are those of two new ends after such deeds
pub record AreTwoEnds (turns : List Turn) (near_machine far_machine : Ertm) : Type 0 where
  pub near_agreed : Agreed
  pub far_agreed : Agreed
  pub meets : Meets near_agreed far_agreed
  pub met : Meets far_agreed near_agreed
  pub deeds : List Deed
  pub are : AreDeeds turns deeds
  pub may : AllMay deeds (new_ends near_agreed far_agreed)
  pub near_is : near_machine ≡ (all_turned deeds (new_ends near_agreed far_agreed)).a.machine
  pub far_is : far_machine ≡ (all_turned deeds (new_ends near_agreed far_agreed)).b.machine

-- Whatever the link loses, repeats and damages: while both hosts have an enhanced channel open, its machines are two ends that went through no more than one
-- deed for each turn. So all laws of two ends hold of them.
abbrev pub MachinesAreTwoEnds : Type 0
MachinesAreTwoEnds = (near far : Policy) (turns : List Turn) (channel : Channel) → AreFair near far turns → AreRead near far turns → AreCarried near far turns → HaveChannel near far turns channel → CanStateBoth near far channel.psm
    → (near_machine far_machine : Ertm) → carrier_at channel.own (pair_of near far turns).near.run.value ≡ Some (Retransmitting near_machine) → carrier_at channel.peer (pair_of near far turns).far.run.value ≡ Some (Retransmitting far_machine)
    → AreTwoEnds turns near_machine far_machine
