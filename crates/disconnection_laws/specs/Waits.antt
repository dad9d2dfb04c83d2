-- That a response to a request for the end of a channel ends its wait (Core 5.1, Volume 3 Part A, 4.6 and 4.7).
use Rattle.std.specs.Prelude.{ℕ, ◌≡◌, List, []}
use Rattle.channel_laws.specs.capture.specs.Histories.{EachAfter}
use Rattle.channel_laws.specs.link_talk.specs.Sayings.{Saying}
use Rattle.channel_laws.specs.channel_model.specs.declared.errand.Errand.{Errand}
use Rattle.channel_laws.specs.channel_model.specs.declared.errand.Errand.TheVariants.{Disconnection}
use Rattle.channel_laws.specs.channel_model.specs.Policies.{Policy}
use Rattle.channel_laws.specs.Adverse.{seen_from}
use Rattle.channel_laws.specs.Belonging.{AreRead, said_at, HasGranted}
use Rattle.channel_laws.specs.Heeded.{EndsWait}
use Rattle.channel_laws.specs.Pairs.{Pair, Happening, Acts, Puts, Takes, Repeats, Loses, Damages, Side, Near, Far, turned, Turn, pair_of}

-- A host granted one endpoint alone to each endpoint of its peer.
abbrev pub GrantsApart : List Saying → Type 0
GrantsApart said = (identifier status own other again second peer : ℕ) → HasGranted identifier status own peer said → HasGranted other again second peer said → own ≡ second

-- what comes first to the end that has the request ends its wait, if it is a response to it
abbrev pub IsAnsweredAt : Errand → (owner at : Side) → Pair → Type 0
IsAnsweredAt errand Near Near pair = EndsWait errand pair.near.coming pair
IsAnsweredAt errand Near Far pair = Unit {0}
IsAnsweredAt errand Far Near pair = Unit {0}
IsAnsweredAt errand Far Far pair = EndsWait errand (seen_from Far pair).near.coming (seen_from Far pair)

abbrev pub IsAnsweredBy : Errand → (owner at : Side) → Happening → Pair → Type 0
IsAnsweredBy errand owner at (Acts occurrence) pair = Unit {0}
IsAnsweredBy errand owner at (Puts pdu) pair = Unit {0}
IsAnsweredBy errand owner at Takes pair = IsAnsweredAt errand owner at pair
IsAnsweredBy errand owner at Repeats pair = Unit {0}
IsAnsweredBy errand owner at Loses pair = Unit {0}
IsAnsweredBy errand owner at (Damages pdu) pair = Unit {0}

-- each time
abbrev pub AreAnswered : Errand → (owner : Side) → (near far : Policy) → List Turn → Type 0
AreAnswered errand owner near far turns = EachAfter (λ past turn. IsAnsweredBy errand owner turn.side turn.happening (pair_of near far past)) [] turns

-- Whatever the link loses, repeats and damages: each response that comes in to a request for the end of a channel ends its wait, where the peer granted no
-- two endpoints to one.
abbrev pub EndsAreAnswered : Type 0
EndsAreAnswered = (near far : Policy) (turns : List Turn) → AreRead near far turns → (side : Side) → GrantsApart (said_at side (turned (pair_of near far turns))) → (own : ℕ) → AreAnswered (Disconnection own) side near far turns
