-- That a request for a channel is responded to, and that the response ends its wait (Core 5.1, Volume 3 Part A, 4, 4.2 and 4.3).
use Rattle.std.specs.Prelude.{ℕ, ◌≡◌, ◌≤◌, ◌+◌, Bool, false, List, [], ◌∷◌}
use Rattle.own_channel_laws.specs.talk_laws.specs.capture.specs.Histories.{EachAfter}
use Rattle.own_channel_laws.specs.talk_laws.specs.link_talk.specs.declared.call.Call.{Call}
use Rattle.own_channel_laws.specs.talk_laws.specs.link_talk.specs.Sayings.{Saying}
use Rattle.own_channel_laws.specs.channel_model.specs.declared.errand.Errand.TheVariants.{Connection}
use Rattle.own_channel_laws.specs.channel_model.specs.Policies.{Policy}
use Rattle.channel_laws.specs.Adverse.{AreRoomy}
use Rattle.channel_laws.specs.Belonging.{AreRead, said_at, HasAsked}
use Rattle.channel_laws.specs.Heeded.{AreMet}
use Rattle.channel_laws.specs.Pairs.{Side, Turn, pair_of}
use Rattle.own_channel_laws.specs.Runs.{Occurrence, Comes, Connects, AsksFeatures, Disconnects, Sends, Gives, Fires, Tells, run_of}
use Rattle.channel_laws.specs.Singly.{AsksSo}

-- An end asked for no two channels with one identifier: these come round after 255 requests, and one that is used again could be taken for
-- that of the request before.
abbrev pub NamesApart : List Saying → Type 0
NamesApart said = (identifier psm own other again : ℕ) → HasAsked identifier psm own said → HasAsked identifier other again said → own ≡ again

-- Then, whatever the link loses, repeats and damages: where an answer has room when something comes in, each copy of a request for a channel that
-- comes in is responded to, and each response to it ends its wait.
abbrev pub ConnectionsAreMet : Type 0
ConnectionsAreMet = (near far : Policy) (turns : List Turn) → AreRead near far turns → AreRoomy near far turns → (side : Side) → NamesApart (said_at side (pair_of near far turns)) → (own : ℕ) → AreMet (Connection own) side near far turns

-- ---- identifiers

-- How many requests may come of what a host asks for: five of a channel, as its options are asked for three times at most (4 and 7.1; three times is this
-- project's own), and one for the peer's features.
abbrev pub requests_by : Occurrence → ℕ
requests_by (Comes pdu) = 0
requests_by (Connects psm) = 5
requests_by AsksFeatures = 1
requests_by (Disconnects own) = 0
requests_by (Sends own sdu) = 0
requests_by (Gives pdu) = 0
requests_by Fires = 0
requests_by Tells = 0

abbrev pub requests_for : List Occurrence → ℕ
requests_for [] = 0
requests_for (more ∷ list) = requests_by more + requests_for list

-- Where a host offers no channel, asks for one after the other, and for so few that its identifiers do not come round, it asks for no two with one
-- identifier, however often its timer repeats them.
abbrev pub NamesAreApart : Type 0
NamesAreApart = (policy : Policy) (Fits : ℕ → List Call → Bool) (list : List Occurrence) → ((psm : ℕ) → policy.offers psm ≡ false) → EachAfter (λ front one. AsksSo Fits one (run_of policy front)) [] list → requests_for list ≤ 254
    → NamesApart (run_of policy list).said
