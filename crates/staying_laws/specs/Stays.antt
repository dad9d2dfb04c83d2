-- That each channel that one of two hosts has is there at the other one, while few turns upset (Core 5.1, Volume 3 Part A, 4.4, 4.6, 6.2.1 and 8.6.5; which turns upset is this
-- project's own).
use Rattle.std.specs.Prelude.{ℕ, ◌≡◌, ◌<◌, List}
use Rattle.std.specs.List.{AllByRecursion}
use Rattle.channel_laws.specs.channel_model.specs.Policies.{Policy}
use Rattle.channel_laws.specs.channel_model.specs.Value.{Stage, Requested, Connected, Leaving, Closing, Crossed, Held, Channels}
use Rattle.channel_laws.specs.Pairs.{Turn, new_pair, pair_of}
use Rattle.channel_laws.specs.Pipes.{CanStateBoth}
use Rattle.recovered_laws.specs.Calm.{all_upsets}
use Rattle.lasting_laws.specs.Ends.{AnswersSuccess}
use Rattle.configuration_laws.specs.Met.{Remains}
use Rattle.forgoing_laws.specs.Forgone.{ForgoesNoEnd}
use Rattle.forgoing_laws.specs.Lasts.{AreOrderly, StaysThere, GoOn}

-- both hosts answer requests for options with success
pub record AnswerWell (near far : Policy) (turns : List Turn) : Type 0 where
  pub near_answers : AnswersSuccess (pair_of near far turns).near.run.said
  pub far_answers : AnswersSuccess (pair_of near far turns).far.run.said

-- fewer turns upset than the machines of the near host try
abbrev pub FewNearMachines : (near far : Policy) → List Turn → Type 0
FewNearMachines near far turns = (psm : ℕ) → all_upsets (new_pair near far) turns < (near.wish psm).tries

-- a channel that goes on so was not closed by its host
abbrev pub IsKept : Stage → Type 0
IsKept (Requested request) = Unit {0}
IsKept (Connected peer setup) = Unit {0}
IsKept (Leaving peer setup request) = Unit {0}
IsKept (Closing peer request checked) = ⊥
IsKept (Crossed peer request) = Unit {0}

-- a host closed no channel of this endpoint
abbrev pub KeptAt : (own : ℕ) → Held → Type 0
KeptAt own held = held.own ≡ own → IsKept held.stage

abbrev pub AllKept : (own : ℕ) → Channels → Type 0
AllKept own v = AllByRecursion (KeptAt own) v.held

-- The near host closed no channel that remains at the far one. And that one gave up no request for an end.
pub record CloseNone (near far : Policy) (turns : List Turn) : Type 0 where
  pub kept : (own : ℕ) → Remains own (pair_of near far turns).far.run.said → AllKept own (pair_of near far turns).near.run.value
  pub forgoes : ForgoesNoEnd (pair_of near far turns).far.run.said

-- ---- the laws

-- Whatever the link loses, repeats and damages: then so it is, of channels in either mode.
abbrev pub FewTurnsCloseNone : Type 0
FewTurnsCloseNone = (near far : Policy) (turns : List Turn) → ((psm : ℕ) → CanStateBoth near far psm) → AreOrderly near far turns → FewNearMachines near far turns → AnswerWell near far turns → CloseNone near far turns

-- And each enhanced channel that the far host has is there at the near one, at each moment up to which the far one asked for no end.
abbrev pub FewTurnsKeepPeers : Type 0
FewTurnsKeepPeers = (near far : Policy) (turns : List Turn) → ((psm : ℕ) → CanStateBoth near far psm) → AreOrderly near far turns → FewNearMachines near far turns → AnswerWell near far turns → StaysThere near far turns

-- So both go on.
abbrev pub FewTurnsEndNoneOfBoth : Type 0
FewTurnsEndNoneOfBoth = (near far : Policy) (turns : List Turn) → ((psm : ℕ) → CanStateBoth near far psm) → AreOrderly near far turns → FewNearMachines near far turns → AnswerWell near far turns → GoOn near far turns
