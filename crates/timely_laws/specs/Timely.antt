-- That two hosts answer all requests for options with success while few turns upset (Core 5.1, Volume 3 Part A, 4.4, 4.5 and 6.2.1; which turns upset is this project's own).
use Rattle.std.specs.Prelude.{ℕ, List, []}
use Rattle.channel_laws.specs.capture.specs.Histories.{EachAfter}
use Rattle.channel_laws.specs.channel_model.specs.Policies.{Policy}
use Rattle.channel_laws.specs.Pairs.{Turn, pair_of}
use Rattle.leaving_laws.specs.Left.{NoneWaitsInQuiet}
use Rattle.staying_laws.specs.forgoing_laws.specs.Lasts.{AreOrderly}
use Rattle.accepting_laws.specs.InTime.{WishTheSame}
use Rattle.lateness_laws.specs.Once.{CountsOne}
use Rattle.staying_laws.specs.Stays.{AnswerWell}

-- no two channels of the near host count, at each moment
abbrev pub NearCountsOne : (near far : Policy) → List Turn → Type 0
NearCountsOne near far turns = EachAfter (λ past turn. CountsOne (pair_of near far past).near.run.value) [] turns

-- Whatever the link loses, repeats and damages: two orderly hosts that wish the same answer all requests for options with success, where no two channels of the near one count, and no copy of its
-- request for an end waits to be given when its timer fires while the link is quiet. Fewer turns upset there than either tries (`AreOrderly`).
abbrev pub FewTurnsAnswerWell : Type 0
FewTurnsAnswerWell = (near far : Policy) (turns : List Turn) → WishTheSame near far → AreOrderly near far turns → NearCountsOne near far turns → ((own : ℕ) → NoneWaitsInQuiet own near far turns) → AnswerWell near far turns
