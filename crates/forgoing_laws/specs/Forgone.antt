-- That a host's timer finds no request spent, and gives up none for an end, while few turns disturb (Core 5.1, Volume 3 Part A, 4.6 and 6.2.1; which turns disturb is this project's own).
use Rattle.std.specs.Prelude.{ℕ, ◌≡◌, ◌<◌, List, [], Some}
use Rattle.channel_laws.specs.capture.specs.Histories.{EachAfter}
use Rattle.channel_laws.specs.link_talk.specs.Sayings.{Saying, GaveUp}
use Rattle.channel_laws.specs.link_talk.specs.Sayings as sayings
use Rattle.channel_laws.specs.channel_model.specs.declared.errand.Errand.{Errand}
use Rattle.channel_laws.specs.channel_model.specs.declared.errand.Errand.TheVariants.{Disconnection}
use Rattle.channel_laws.specs.channel_model.specs.Policies.{Policy}
use Rattle.channel_laws.specs.channel_model.specs.Value.{Request, Channels}
use Rattle.channel_laws.specs.Adverse.{disturbances}
use Rattle.channel_laws.specs.Belonging.{AreRead, said_at}
use Rattle.channel_laws.specs.Ends.{end_at, AreFair}
use Rattle.channel_laws.specs.Heeded.{AreMet}
use Rattle.channel_laws.specs.Pairs.{Acts, Side, Near, Far, Turn, new_pair, pair_of}
use Rattle.channel_laws.specs.Runs.{Fires}
use Rattle.channel_laws.specs.Signals.{StandsIn}
use Rattle.channel_laws.specs.Tries.{request_of}

-- the policy of one of two hosts
abbrev pub policy_at : Side → (near far : Policy) → Policy
policy_at Near near far = near
policy_at Far near far = far

-- a request of a host that waits was given less often than that
abbrev pub IsUnspent : (tries : ℕ) → Errand → Channels → Type 0
IsUnspent tries errand v = (request : Request) → request_of errand v ≡ Some request → request.given < tries

-- its timer fires
abbrev pub IsFiringAt : Side → Turn → Type 0
IsFiringAt side turn = (turn.side ≡ side) × (turn.happening ≡ Acts Fires)

-- each time its timer finds the request given less often than the host tries
abbrev pub AreUnspent : Errand → Side → (near far : Policy) → List Turn → Type 0
AreUnspent errand side near far turns = EachAfter (λ past turn. IsFiringAt side turn → IsUnspent (policy_at side near far).tries errand (end_at side (pair_of near far past)).run.value) [] turns

-- a host gave up no request for the end of a channel
abbrev pub ForgoesNoEnd : List Saying → Type 0
ForgoesNoEnd said = (own peer : ℕ) → StandsIn (GaveUp (sayings.Disconnection own peer)) said → ⊥

-- ---- the laws

-- Whatever the link loses, repeats and damages: where each end utters what it is, each copy of a request that comes in is responded to, each response to it ends its
-- wait, and fewer turns disturb than the host tries, its timer never finds the request spent.
abbrev pub FewDisturbancesSpendNone : Type 0
FewDisturbancesSpendNone = (near far : Policy) (turns : List Turn) → AreFair near far turns → AreRead near far turns → (side : Side) (errand : Errand) → AreMet errand side near far turns
    → disturbances (new_pair near far) turns < (policy_at side near far).tries → AreUnspent errand side near far turns

-- So a host gives up no request for the end of a channel, where that is so of each of these.
abbrev pub FewDisturbancesForgoNone : Type 0
FewDisturbancesForgoNone = (near far : Policy) (turns : List Turn) → AreFair near far turns → AreRead near far turns → (side : Side) → ((own : ℕ) → AreMet (Disconnection own) side near far turns)
    → disturbances (new_pair near far) turns < (policy_at side near far).tries → ForgoesNoEnd (said_at side (pair_of near far turns))
