-- How often a host gives its own requests, against what the link does to them and to their responses (Core 5.1, Volume 3 Part A, 4 and 6.2.1;
-- which turns are adverse is this project's own).
use Rattle.std.specs.Prelude.{ℕ, ◌≡◌, ◌≤◌, ◌+◌, ◌==◌, ◌&&◌, not, nat_lt, Bool, true, false, List, [], ◌∷◌, ◌++◌, length, drop, Option, Some, None, Ok, Err}
use Rattle.std.specs.List.{list_any}
use Rattle.own_channel_laws.specs.talk_laws.specs.acl_fragments.specs.Pieces.{channel_of}
use Rattle.own_channel_laws.specs.talk_laws.specs.capture.specs.Histories.{EachAfter}
use Rattle.own_channel_laws.specs.talk_laws.specs.l2cap_signal.specs.Commands.{Content, Command, reject, connection_request, connection_response, configuration_request, configuration_response, disconnection_request, disconnection_response, information_request, information_response}
use Rattle.own_channel_laws.specs.talk_laws.specs.l2cap_signal.specs.Reading.{Answer as Read, answers}
use Rattle.own_channel_laws.specs.channel_model.specs.declared.errand.Errand.{Errand}
use Rattle.own_channel_laws.specs.channel_model.specs.declared.errand.Errand.TheVariants.{Connection, Configuration, Disconnection, Features}
use Rattle.own_channel_laws.specs.channel_model.specs.Value.{Request, Queued, Answer, Ask}
use Rattle.own_channel_laws.specs.channel_model.specs.Policies.{Policy}
use Rattle.own_channel_laws.specs.channel_model.specs.Changing.{is_answer, has_room}
use Rattle.own_channel_laws.specs.Tries.{request_of, copies, one_if, is_firing}
use Rattle.channel_laws.specs.Pairs.{End, Pair, Happening, Acts, Puts, Takes, Repeats, Loses, Damages, Side, Near, Far, turned, Turn, new_pair, pair_after, pair_of}
use Rattle.channel_laws.specs.Ends.{end_at, AreFair}
use Rattle.channel_laws.specs.Belonging.{AreRead}

-- ---- the copies of a request, and its responses

abbrev pub asks_with : Errand → Content → Bool
asks_with (Connection own) (connection_request psm source) = source == own
asks_with (Configuration own) (configuration_request destination flags options) = true
asks_with (Disconnection own) (disconnection_request destination source) = source == own
asks_with Features (information_request kind) = true
asks_with errand content = false

abbrev pub responds_with : Errand → Content → Bool
responds_with (Connection own) (connection_response destination source answer status) = source == own
responds_with (Configuration own) (configuration_response source flags answer options) = source == own
responds_with (Disconnection own) (disconnection_response destination source) = source == own
responds_with Features (information_response kind answer rest) = true
responds_with Features (reject reason rest) = true
responds_with errand content = false

-- with the identifier of the request
abbrev pub asks_for : Errand → (identifier : ℕ) → Command → Bool
asks_for errand identifier command = (command.identifier == identifier) && asks_with errand command.content

abbrev pub responds_to : Errand → (identifier : ℕ) → Command → Bool
responds_to errand identifier command = (command.identifier == identifier) && responds_with errand command.content

-- ---- what is under way for a request

abbrev pub how_many : {X : Type 0} → (X → Bool) → List X → ℕ
how_many is [] = 0
how_many is (x ∷ xs) = one_if (is x) + how_many is xs

abbrev pub is_read_so : (Command → Bool) → Read → Bool
is_read_so is (Ok command) = is command
is_read_so is (Err refusal) = false

-- such a command is read of the PDU, on the signalling channel
abbrev pub brings : (Command → Bool) → List ℕ → Bool
brings is pdu = (channel_of pdu == 0x0001) && list_any (is_read_so is) (answers (drop 4 pdu))

-- such an answer waits to be given
abbrev pub answers_so : (Command → Bool) → Queued → Bool
answers_so is (Answer command) = is command
answers_so is (Ask errand) = false

-- of a request of the near end: its copies on their way to the far end, the responses that wait there, and those on their way back
abbrev pub under_way : Errand → (identifier : ℕ) → Pair → ℕ
under_way errand identifier pair =
    how_many (brings (asks_for errand identifier)) pair.far.coming
    + (how_many (answers_so (responds_to errand identifier)) pair.far.run.value.queue + how_many (brings (responds_to errand identifier)) pair.near.coming)

-- ---- adverse turns

-- nothing is under way to either end, and no answer waits at either
abbrev pub is_quiet : Pair → Bool
is_quiet pair =
    ((length pair.near.coming == 0) && (length pair.far.coming == 0)) && (not (list_any is_answer pair.near.run.value.queue) && not (list_any is_answer pair.far.run.value.queue))

abbrev pub falls : Errand → (before after : Pair) → (was now : Option Request) → Bool
falls errand before after None now = false
falls errand before after (Some was) None = false
falls errand before after (Some was) (Some now) = (was.identifier == now.identifier) && nat_lt (under_way errand now.identifier after) (under_way errand now.identifier before)

-- What came in was in vain for a request of the near end: it waits on, and less is under way for it. So it is with a copy to which the far end
-- gives no response, as where none has room, and with a response behind which the request waits on.
abbrev pub is_vain : Errand → (before after : Pair) → Bool
is_vain errand before after = falls errand before after (request_of errand before.near.run.value) (request_of errand after.near.run.value)

-- For a request a turn is adverse that repeats, loses or damages what is under way, that fires a timer while the link is not quiet, and one with
-- which something comes in in vain for it.
abbrev pub adverse_by : Errand → Happening → (before after : Pair) → ℕ
adverse_by errand (Acts occurrence) before after = one_if (is_firing occurrence && not (is_quiet before))
adverse_by errand (Puts pdu) before after = 0
adverse_by errand Takes before after = one_if (is_vain errand before after)
adverse_by errand Repeats before after = 1
adverse_by errand Loses before after = 1
adverse_by errand (Damages pdu) before after = 1

-- the pair with one end as the near one
abbrev pub seen_from : Side → Pair → Pair
seen_from Near pair = pair
seen_from Far pair = turned pair

-- how many turns are adverse for a request of one end, from one pair on
abbrev pub adverse_from : Errand → Side → Pair → List Turn → ℕ
adverse_from errand side pair [] = 0
adverse_from errand side pair (turn ∷ turns) =
    adverse_by errand turn.happening (seen_from side pair) (seen_from side (pair_after pair turn)) + adverse_from errand side (pair_after pair turn) turns

-- ---- the laws

-- Of each end of a link that loses, repeats and damages: a request that waits was given, with the copies of it that wait, at most once more often than
-- turns were adverse for it. So it is given for the t-th time only behind t - 1 adverse turns: the timers of a quiet link cost nothing.
abbrev pub AdverseTurnsAreCounted : Type 0
AdverseTurnsAreCounted = (near far : Policy) (turns : List Turn) → AreFair near far turns → AreRead near far turns → (side : Side) (errand : Errand) (request : Request)
    → request_of errand (seen_from side (pair_of near far turns)).near.run.value ≡ Some request
    → copies errand (seen_from side (pair_of near far turns)).near.run.value.queue + request.given ≤ 1 + adverse_from errand side (new_pair near far) turns

-- a request of the near end that waits was given, with the copies of it that wait, at most once, and each time it was given something is under way for it
abbrev pub IsFirst : Errand → Pair → Type 0
IsFirst errand pair = (request : Request) → request_of errand pair.near.run.value ≡ Some request
    → (copies errand pair.near.run.value.queue + request.given ≤ 1) × (request.given ≤ under_way errand request.identifier pair)

-- It is so from any turn on behind which none waited, or one was as new as that.
abbrev pub AdverseTurnsAreCountedSince : Type 0
AdverseTurnsAreCountedSince = (near far : Policy) (past turns : List Turn) → AreFair near far (past ++ turns) → AreRead near far (past ++ turns) → (side : Side) (errand : Errand) (request : Request)
    → IsFirst errand (seen_from side (pair_of near far past)) → request_of errand (seen_from side (pair_of near far (past ++ turns))).near.run.value ≡ Some request
    → copies errand (seen_from side (pair_of near far (past ++ turns))).near.run.value.queue + request.given ≤ 1 + adverse_from errand side (pair_of near far past) turns

-- ---- where nothing comes in in vain

-- a turn disturbs that repeats, loses or damages what is under way, or fires a timer while the link is not quiet
abbrev pub disturbs : Happening → Pair → ℕ
disturbs (Acts occurrence) pair = one_if (is_firing occurrence && not (is_quiet pair))
disturbs (Puts pdu) pair = 0
disturbs Takes pair = 0
disturbs Repeats pair = 1
disturbs Loses pair = 1
disturbs (Damages pdu) pair = 1

abbrev pub disturbances : Pair → List Turn → ℕ
disturbances pair [] = 0
disturbances pair (turn ∷ turns) = disturbs turn.happening pair + disturbances (pair_after pair turn) turns

abbrev pub IsHeeded : Errand → Happening → (before after : Pair) → Type 0
IsHeeded errand (Acts occurrence) before after = Unit {0}
IsHeeded errand (Puts pdu) before after = Unit {0}
IsHeeded errand Takes before after = is_vain errand before after ≡ false
IsHeeded errand Repeats before after = Unit {0}
IsHeeded errand Loses before after = Unit {0}
IsHeeded errand (Damages pdu) before after = Unit {0}

-- nothing comes in in vain for the request of one end, in the turns behind these
abbrev pub AreHeededSince : Errand → Side → (near far : Policy) → (past turns : List Turn) → Type 0
AreHeededSince errand side near far past turns = EachAfter (λ before turn. IsHeeded errand turn.happening (seen_from side (pair_of near far before)) (seen_from side (pair_after (pair_of near far before) turn))) past turns

abbrev pub AreHeeded : Errand → Side → (near far : Policy) → List Turn → Type 0
AreHeeded errand side near far turns = AreHeededSince errand side near far [] turns

-- Then a request is given for the t-th time only behind t - 1 turns that disturb.
abbrev pub DisturbancesAreCounted : Type 0
DisturbancesAreCounted = (near far : Policy) (turns : List Turn) → AreFair near far turns → AreRead near far turns → (side : Side) (errand : Errand) (request : Request) → AreHeeded errand side near far turns
    → request_of errand (seen_from side (pair_of near far turns)).near.run.value ≡ Some request
    → copies errand (seen_from side (pair_of near far turns)).near.run.value.queue + request.given ≤ 1 + disturbances (new_pair near far) turns

abbrev pub DisturbancesAreCountedSince : Type 0
DisturbancesAreCountedSince = (near far : Policy) (past turns : List Turn) → AreFair near far (past ++ turns) → AreRead near far (past ++ turns) → (side : Side) (errand : Errand) (request : Request) → AreHeededSince errand side near far past turns
    → IsFirst errand (seen_from side (pair_of near far past)) → request_of errand (seen_from side (pair_of near far (past ++ turns))).near.run.value ≡ Some request
    → copies errand (seen_from side (pair_of near far (past ++ turns))).near.run.value.queue + request.given ≤ 1 + disturbances (pair_of near far past) turns

-- ---- the question for the peer's features

-- there is room for an answer when something comes in
abbrev pub IsRoomy : Happening → End → Type 0
IsRoomy (Acts occurrence) end' = Unit {0}
IsRoomy (Puts pdu) end' = Unit {0}
IsRoomy Takes end' = has_room end'.run.value ≡ true
IsRoomy Repeats end' = Unit {0}
IsRoomy Loses end' = Unit {0}
IsRoomy (Damages pdu) end' = Unit {0}

abbrev pub AreRoomy : (near far : Policy) → List Turn → Type 0
AreRoomy near far turns = EachAfter (λ past turn. IsRoomy turn.happening (end_at turn.side (pair_of near far past))) [] turns

-- Then nothing comes in in vain for it: each copy is responded to, and each response ends the wait.
abbrev pub FeaturesAreHeeded : Type 0
FeaturesAreHeeded = (near far : Policy) (turns : List Turn) → AreRead near far turns → AreRoomy near far turns → (side : Side) → AreHeeded Features side near far turns
