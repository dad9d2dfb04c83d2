-- Requests for channels that come one after the other, and what is granted to them (Core 5.1, Volume 3 Part A, 2.1, 4.1 to 4.3).
use Rattle.std.specs.Prelude.{ℕ, ◌≡◌, Bool, true, false, List, [], ◌∷◌, filter, Some, ◌⊎◌}
use Rattle.std.specs.List.{AllByRecursion, list_any}
use Rattle.own_channel_laws.specs.talk_laws.specs.capture.specs.Histories.{EachAfter}
use Rattle.own_channel_laws.specs.talk_laws.specs.capture.specs.declared.flow.Flow.{Flow}
use Rattle.own_channel_laws.specs.talk_laws.specs.capture.specs.declared.flow.Flow.TheVariants.{Out, Into}
use Rattle.own_channel_laws.specs.talk_laws.specs.link_talk.specs.declared.call.Call.{Call}
use Rattle.own_channel_laws.specs.talk_laws.specs.link_talk.specs.declared.call.Wanted.{Wanted}
use Rattle.own_channel_laws.specs.talk_laws.specs.link_talk.specs.Channels.{reading}
use Rattle.own_channel_laws.specs.talk_laws.specs.link_talk.specs.Requests.{went, has_source}
use Rattle.own_channel_laws.specs.talk_laws.specs.link_talk.specs.Sayings.{Saying}
use Rattle.own_channel_laws.specs.channel_model.specs.Value.{Requested, Request, Held, Channels}
use Rattle.own_channel_laws.specs.channel_model.specs.Policies.{Policy}
use Rattle.own_channel_laws.specs.channel_model.specs.Changing.{held_at}
use Rattle.channel_laws.specs.Belonging.{HasGranted}
use Rattle.own_channel_laws.specs.Runs.{Occurrence, Comes, Connects, AsksFeatures, Disconnects, Sends, Gives, Fires, Tells, Run, run_of}

-- the requests for channels that went one way, the latest first
abbrev pub calls_that_went : Flow → List Saying → List Call
calls_that_went flow said = filter (went flow) (reading said).requests.calls

-- a request names this endpoint of the side that asks
abbrev pub names : ℕ → Call → Bool
names source one = has_source source one.wanted

-- it is the last one again
abbrev pub IsAgain : Call → List Call → Type 0
IsAgain one [] = ⊥
IsAgain one (last ∷ before) = one ≡ last

-- It can be read, its PSM is one that may be asked for behind those before it, and it names an endpoint that none of them names.
pub record IsFresh (Fits : ℕ → List Call → Bool) (one : Call) (before : List Call) : Type 0 where
  pub wanted : Wanted
  pub wanted_is : one.wanted ≡ Some wanted
  pub fits : Fits wanted.psm before ≡ true
  pub unused : list_any (names wanted.source) before ≡ false

-- one channel is asked for after the other
abbrev pub AreOneByOne : (Fits : ℕ → List Call → Bool) → List Call → Type 0
AreOneByOne Fits [] = Unit {0}
AreOneByOne Fits (one ∷ before) = (IsAgain one before ⊎ IsFresh Fits one before) × AreOneByOne Fits before

-- Where the peer asks so, whatever else happens a host grants one endpoint alone to each endpoint of its peer.
abbrev pub GrantsAreSingle : Type 0
GrantsAreSingle = (policy : Policy) (list : List Occurrence) (Fits : ℕ → List Call → Bool) → AreOneByOne Fits (calls_that_went Into (run_of policy list).said)
    → (identifier status own other again second peer : ℕ) → HasGranted identifier status own peer (run_of policy list).said → HasGranted other again second peer (run_of policy list).said → own ≡ second

-- ---- a host that asks so

-- no channel is only asked for
abbrev pub NoneIsDue : Channels → Type 0
NoneIsDue v = (own : ℕ) (held : Held) (request : Request) → held_at own v ≡ Some held → held.stage ≡ Requested request → ⊥

-- a host asks for its next channel when no other one is only asked for
abbrev pub AsksSo : (Fits : ℕ → List Call → Bool) → Occurrence → Run → Type 0
AsksSo Fits (Comes pdu) run = Unit {0}
AsksSo Fits (Connects psm) run = NoneIsDue run.value × (Fits psm (calls_that_went Out run.said) ≡ true)
AsksSo Fits AsksFeatures run = Unit {0}
AsksSo Fits (Disconnects own) run = Unit {0}
AsksSo Fits (Sends own sdu) run = Unit {0}
AsksSo Fits (Gives pdu) run = Unit {0}
AsksSo Fits Fires run = Unit {0}
AsksSo Fits Tells run = Unit {0}

-- Then its requests come one after the other, however often its timer repeats them.
abbrev pub CallsAreOneByOne : Type 0
CallsAreOneByOne = (policy : Policy) (Fits : ℕ → List Call → Bool) (list : List Occurrence) → EachAfter (λ front one. AsksSo Fits one (run_of policy front)) [] list → AreOneByOne Fits (calls_that_went Out (run_of policy list).said)

-- ---- a host that asks for none

abbrev pub AsksForNoChannel : Occurrence → Type 0
AsksForNoChannel (Comes pdu) = Unit {0}
AsksForNoChannel (Connects psm) = ⊥
AsksForNoChannel AsksFeatures = Unit {0}
AsksForNoChannel (Disconnects own) = Unit {0}
AsksForNoChannel (Sends own sdu) = Unit {0}
AsksForNoChannel (Gives pdu) = Unit {0}
AsksForNoChannel Fires = Unit {0}
AsksForNoChannel Tells = Unit {0}

-- has no request for one in its talk
abbrev pub NoneIsCalled : Type 0
NoneIsCalled = (policy : Policy) (list : List Occurrence) → AllByRecursion AsksForNoChannel list → calls_that_went Out (run_of policy list).said ≡ []
