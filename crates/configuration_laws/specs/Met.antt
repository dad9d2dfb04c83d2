-- That a request for the options of a channel is responded to, and that the response ends its wait (Core 5.1, Volume 3 Part A, 4, 4.4, 4.5 and 7.1).
use Rattle.std.specs.Prelude.{ℕ, ◌≡◌, ◌≤◌, ◌+◌, List, [], Some}
use Rattle.channel_laws.specs.capture.specs.Histories.{EachAfter}
use Rattle.channel_laws.specs.link_talk.specs.Sayings.{Saying, GaveUp, Disconnection}
use Rattle.channel_laws.specs.channel_model.specs.declared.errand.Errand.TheVariants.{Configuration}
use Rattle.channel_laws.specs.channel_model.specs.Policies.{Policy}
use Rattle.channel_laws.specs.channel_model.specs.Value.{Request}
use Rattle.channel_laws.specs.Adverse.{disturbances, AreRoomy}
use Rattle.channel_laws.specs.Belonging.{AreRead, said_at}
use Rattle.channel_laws.specs.Ends.{end_at, AreFair}
use Rattle.channel_laws.specs.Heeded.{AreMet}
use Rattle.channel_laws.specs.Pairs.{Side, turned, Turn, new_pair, pair_after, pair_of}
use Rattle.channel_laws.specs.Signals.{StandsIn}
use Rattle.channel_laws.specs.Tries.{request_of, copies}
use Rattle.disconnection_laws.specs.Ended.{HasAnsweredEnd}
use Rattle.configuration_laws.specs.Asked.{HasAskedEnd}

-- ---- what is asked of both

-- the identifiers of the requests of a host have not come round: the next one never falls
abbrev pub IdentifiersRise : Side → (near far : Policy) → List Turn → Type 0
IdentifiersRise side near far turns = EachAfter (λ past turn. (end_at side (pair_of near far past)).run.value.identifier ≤ (end_at side (pair_after (pair_of near far past) turn)).run.value.identifier) [] turns

-- the peer of a host has its channel still for this endpoint of the host, once it had it: it answered no request for the end of it, and gave up none of its own
pub record Remains (own : ℕ) (theirs : List Saying) : Type 0 where
  pub unanswered : (identifier peer : ℕ) → HasAnsweredEnd identifier peer own theirs → ⊥
  pub not_forgone : (peer : ℕ) → StandsIn (GaveUp (Disconnection peer own)) theirs → ⊥

-- the host stays on it: it asked for no end of it, and its peer gave up none of its own requests for that
pub record StaysOn (own : ℕ) (mine theirs : List Saying) : Type 0 where
  pub not_asked : (peer : ℕ) → HasAskedEnd own peer mine → ⊥
  pub not_forgone : (peer : ℕ) → StandsIn (GaveUp (Disconnection peer own)) theirs → ⊥

-- ---- the laws

-- Whatever the link loses, repeats and damages: the channel of a host that stays on it remains at its peer.
abbrev pub StayingRemains : Type 0
StayingRemains = (near far : Policy) (turns : List Turn) → AreRead near far turns → (side : Side) (own : ℕ) → StaysOn own (said_at side (pair_of near far turns)) (said_at side (turned (pair_of near far turns))) → Remains own (said_at side (turned (pair_of near far turns)))

-- Where it remains, and an answer has room when something comes in, each copy of a request for the options of the channel that comes in is responded to, and
-- each response to it ends its wait.
abbrev pub OptionsAreMet : Type 0
OptionsAreMet = (near far : Policy) (turns : List Turn) → AreRead near far turns → AreRoomy near far turns → (side : Side) → IdentifiersRise side near far turns
    → (own : ℕ) → Remains own (said_at side (turned (pair_of near far turns))) → AreMet (Configuration own) side near far turns

-- So, where each end utters what it is, such a request is given for the t-th time only behind t - 1 turns that disturb.
abbrev pub OptionsAreCounted : Type 0
OptionsAreCounted = (near far : Policy) (turns : List Turn) → AreFair near far turns → AreRead near far turns → AreRoomy near far turns → (side : Side) → IdentifiersRise side near far turns
    → (own : ℕ) → Remains own (said_at side (turned (pair_of near far turns))) → (request : Request) → request_of (Configuration own) (end_at side (pair_of near far turns)).run.value ≡ Some request
    → copies (Configuration own) (end_at side (pair_of near far turns)).run.value.queue + request.given ≤ 1 + disturbances (new_pair near far) turns
