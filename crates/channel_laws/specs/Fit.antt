-- What a host gives is fit for a link (Core 5.1, Volume 3 Part A, 2.1, 3.1 and 4).
use Rattle.std.specs.Prelude.{ℕ, ◌≡◌, ◌^◌, ◌<◌, List, Some}
use Rattle.std.specs.List.{AllByRecursion}
use Rattle.own_channel_laws.specs.talk_laws.specs.acl_fragments.specs.Pieces.{channel_of}
use Rattle.own_channel_laws.specs.talk_laws.specs.bt_base.specs.Octets.{IsOctets}
use Rattle.own_channel_laws.specs.channel_model.specs.Policies.{Policy}
use Rattle.own_channel_laws.specs.channel_model.specs.Giving.{Given, IsPdu, next_given}
use Rattle.channel_laws.specs.Belonging.{IsFit}
use Rattle.own_channel_laws.specs.Runs.{Occurrence, Comes, Connects, AsksFeatures, Disconnects, Sends, Gives, Fires, Tells, run_of}

-- what comes in on the signalling channel are octets; and of a PSM to which a channel is asked for this is so
abbrev pub IsSoberFor : (ℕ → Type 0) → Occurrence → Type 0
IsSoberFor F (Comes pdu) = channel_of pdu ≡ 0x0001 → IsOctets pdu
IsSoberFor F (Connects psm) = F psm
IsSoberFor F AsksFeatures = Unit {0}
IsSoberFor F (Disconnects own) = Unit {0}
IsSoberFor F (Sends own sdu) = Unit {0}
IsSoberFor F (Gives pdu) = Unit {0}
IsSoberFor F Fires = Unit {0}
IsSoberFor F Tells = Unit {0}

-- it has two octets
abbrev pub IsSober : Occurrence → Type 0
IsSober one = IsSoberFor (λ psm. psm < 2 ^ 16) one

-- Whatever commands come in: what is given in octets is fit for a link. A command has an identifier and numbers of two octets, and is no
-- longer than what is heard of one payload; all else is for an endpoint that a channel can have.
abbrev pub GivenIsFit : Type 0
GivenIsFit = (policy : Policy) (list : List Occurrence) (given : Given) (pdu : List ℕ) → AllByRecursion IsSober list → next_given (run_of policy list).value ≡ Some given → IsPdu given pdu → IsOctets pdu → IsFit given
