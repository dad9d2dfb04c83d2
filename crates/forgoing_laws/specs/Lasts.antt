-- That of two hosts one asks for the end of no channel, and the other gives up none, while few turns upset (Core 5.1, Volume 3 Part A, 4.4, 4.6, 6.2.1 and 8.6.5; which
-- turns upset is this project's own).
use Rattle.std.specs.Prelude.{ℕ, ◌<◌, List, []}
use Rattle.channel_laws.specs.capture.specs.Histories.{EachAfter}
use Rattle.channel_laws.specs.channel_model.specs.declared.errand.Errand.TheVariants.{Configuration, Disconnection}
use Rattle.channel_laws.specs.channel_model.specs.Policies.{Policy}
use Rattle.channel_laws.specs.Adverse.{AreRoomy}
use Rattle.channel_laws.specs.Belonging.{AreRead, HasAsked}
use Rattle.channel_laws.specs.Ends.{AreFair}
use Rattle.channel_laws.specs.Heeded.{AreMet}
use Rattle.channel_laws.specs.Pairs.{Near, Far, Turn, new_pair, pair_of}
use Rattle.channel_laws.specs.Pipes.{AreCarried, CanStateBoth}
use Rattle.configuration_laws.specs.Asked.{HasAskedEnd}
use Rattle.configuration_laws.specs.Met.{IdentifiersRise, Remains}
use Rattle.disconnection_laws.specs.Met.{AskInOrder}
use Rattle.disconnection_laws.specs.Waits.{GrantsApart}
use Rattle.lasting_laws.specs.Ends.{LeavesNone, PeerStays, AnswersSuccess}
use Rattle.lasting_laws.specs.Lasting.{AsksForNoEnd, Lasts}
use Rattle.leaving_laws.specs.Left.{AreMetUntilLeft}
use Rattle.recovered_laws.specs.Calm.{all_upsets}
use Rattle.forgoing_laws.specs.Forgone.{ForgoesNoEnd}

-- ---- what is asked of both

-- Each end utters what it is, PDUs are read as they were meant, and an answer has room when something comes in. The far host's profile asks for no channel and no end, and it grants one
-- endpoint alone to each of the near one's, which asks for one end at a time. The identifiers of neither come round. And fewer turns upset than both try,
-- and than the machines of the far one try.
pub record AreOrderly (near far : Policy) (turns : List Turn) : Type 0 where
  pub fair : AreFair near far turns
  pub read : AreRead near far turns
  pub room : AreRoomy near far turns
  pub carried : AreCarried near far turns
  pub leaves : EachAfter (λ past turn. LeavesNone turn.side turn.happening) [] turns
  pub none_called : (identifier psm own : ℕ) → HasAsked identifier psm own (pair_of near far turns).far.run.said → ⊥
  pub apart : GrantsApart (pair_of near far turns).far.run.said
  pub ends : AskInOrder Near near far turns
  pub near_rise : IdentifiersRise Near near far turns
  pub far_rise : IdentifiersRise Far near far turns
  pub few_near : all_upsets (new_pair near far) turns < near.tries
  pub few_far : all_upsets (new_pair near far) turns < far.tries
  pub few_machines : (psm : ℕ) → all_upsets (new_pair near far) turns < (far.wish psm).tries

-- At each moment up to which the far host asked for no end its peer's channels are there, and both hosts answer requests for options with success.
pub record StaysThere (near far : Policy) (turns : List Turn) : Type 0 where
  pub peer : EachAfter (λ past turn. AsksForNoEnd (pair_of near far past).far.run.said → PeerStays near far past) [] turns
  pub near_answers : AnswersSuccess (pair_of near far turns).near.run.said
  pub far_answers : AnswersSuccess (pair_of near far turns).far.run.said

-- ---- the law

-- The far host asks for the end of no channel, and closes none. Each copy of a request of the near one for an end, and of a request of the far one for options, that comes in is responded to, and each
-- response to it ends its wait; so it is of a request of the near one for the options of a channel while it did not ask for the end of it. The near one gives up no request for an end. And each channel of it
-- for whose end it did not ask remains at the far one.
pub record GoOn (near far : Policy) (turns : List Turn) : Type 0 where
  pub lasts : Lasts (pair_of near far turns).far.run
  pub ends : (own : ℕ) → AreMet (Disconnection own) Near near far turns
  pub forgoes : ForgoesNoEnd (pair_of near far turns).near.run.said
  pub options : (own : ℕ) → AreMet (Configuration own) Far near far turns
  pub until_left : (own : ℕ) → AreMetUntilLeft own near far turns
  pub remains : (own : ℕ) → ((peer : ℕ) → HasAskedEnd own peer (pair_of near far turns).near.run.said → ⊥) → Remains own (pair_of near far turns).far.run.said

-- Whatever the link loses, repeats and damages.
abbrev pub FewTurnsEndNone : Type 0
FewTurnsEndNone = (near far : Policy) (turns : List Turn) → ((psm : ℕ) → CanStateBoth near far psm) → AreOrderly near far turns → StaysThere near far turns → GoOn near far turns
