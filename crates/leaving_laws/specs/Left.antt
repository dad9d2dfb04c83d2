-- How often a host gives its requests for the options of a channel that it leaves (Core 5.1, Volume 3 Part A, 4.4, 4.6 and 6.2.1; which turns disturb is this project's own).
use Rattle.std.specs.Prelude.{ℕ, ◌≡◌, ◌≤◌, ◌+◌, true, List, [], Some, None}
use Rattle.channel_laws.specs.capture.specs.Histories.{EachAfter}
use Rattle.channel_laws.specs.channel_model.specs.declared.errand.Errand.TheVariants.{Configuration, Disconnection}
use Rattle.channel_laws.specs.channel_model.specs.Policies.{Policy}
use Rattle.channel_laws.specs.channel_model.specs.Value.{Request}
use Rattle.channel_laws.specs.Adverse.{is_quiet, disturbances}
use Rattle.channel_laws.specs.Belonging.{AreRead}
use Rattle.channel_laws.specs.Ends.{AreFair}
use Rattle.channel_laws.specs.Heeded.{AreMet, IsMetBy}
use Rattle.channel_laws.specs.Pairs.{Acts, Near, Turn, new_pair, pair_of}
use Rattle.channel_laws.specs.Runs.{Fires}
use Rattle.channel_laws.specs.Tries.{request_of, copies}

-- while the host at the near end did not ask for the end of its channel of this endpoint, each copy of its request for the options that comes in is responded to, and each response to it ends its wait
abbrev pub AreMetUntilLeft : (own : ℕ) → (near far : Policy) → List Turn → Type 0
AreMetUntilLeft own near far turns =
    EachAfter (λ past turn. request_of (Disconnection own) (pair_of near far past).near.run.value ≡ None → IsMetBy (Configuration own) Near turn.side turn.happening (pair_of near far past)) [] turns

-- when its timer fires while the link is quiet, no copy of its request for the end waits to be given
abbrev pub NoneWaitsInQuiet : (own : ℕ) → (near far : Policy) → List Turn → Type 0
NoneWaitsInQuiet own near far turns =
    EachAfter (λ past turn. turn.side ≡ Near → turn.happening ≡ Acts Fires → is_quiet (pair_of near far past) ≡ true → copies (Disconnection own) (pair_of near far past).near.run.value.queue ≡ 0) [] turns

-- Whatever the link loses, repeats and damages: where so it is, and its request for the end is responded to throughout, its request for options is given for the t-th time only behind t - 1 turns that
-- disturb, also behind the other host's answer to the request for the end, when none of its copies is responded to any more: each firing that gives it once more gives that for the end once more, too.
abbrev pub OptionsOfLeftAreCounted : Type 0
OptionsOfLeftAreCounted = (near far : Policy) (turns : List Turn) → AreFair near far turns → AreRead near far turns → (own : ℕ) → AreMet (Disconnection own) Near near far turns → AreMetUntilLeft own near far turns → NoneWaitsInQuiet own near far turns
    → (request : Request) → request_of (Configuration own) (pair_of near far turns).near.run.value ≡ Some request → copies (Configuration own) (pair_of near far turns).near.run.value.queue + request.given ≤ 1 + disturbances (new_pair near far) turns
