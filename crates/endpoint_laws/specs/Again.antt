-- Requests that come again, whatever came in between (Core 5.1, Volume 3 Part A, 4 and 4.1).
use Rattle.std.specs.Prelude.{ℕ, ◌≡◌, ◌==◌, true, List, [], ◌∷◌, ◌++◌, drop, Option, Some, None, option_map, Ok, Err, if◌then◌else◌}
use Rattle.std.specs.List.{AllByRecursion}
use Rattle.channel_laws.specs.acl_fragments.specs.Pieces.{channel_of}
use Rattle.channel_laws.specs.l2cap_signal.specs.Commands.{Command, code_of}
use Rattle.channel_laws.specs.l2cap_signal.specs.Reading.{Answer as Read, answers}
use Rattle.channel_laws.specs.l2cap_signal.specs.declared.refusal.SignalRefusal.TheVariants.{ZeroIdentifier, BadLength, UnknownCode, AboveMtu}
use Rattle.channel_laws.specs.channel_model.specs.declared.request_kind.RequestKind.{RequestKind}
use Rattle.channel_laws.specs.channel_model.specs.Answers.{kind_of_code}
use Rattle.channel_laws.specs.channel_model.specs.Following.{can_say}
use Rattle.channel_laws.specs.channel_model.specs.Policies.{Policy}
use Rattle.channel_laws.specs.OwnTalk.{reply_to}
use Rattle.channel_laws.specs.Runs.{Occurrence, Comes, Connects, AsksFeatures, Disconnects, Sends, Gives, Fires, Tells, run_of}

-- The kind of a request, and its identifier. One whose length does not fit its code is a request of its kind all the same, which is not understood
-- (4.1; this project's own); one with no identifier, or that is too long to be read, is none.
abbrev pub request_with : Option RequestKind → ℕ → Option (RequestKind × ℕ)
request_with None identifier = None
request_with (Some kind) identifier = Some (kind, identifier)

abbrev pub request_unread : (code identifier : ℕ) → Option (RequestKind × ℕ)
request_unread code identifier = if identifier == 0 then None else request_with (kind_of_code code) identifier

abbrev pub request_in : Read → Option (RequestKind × ℕ)
request_in (Ok command) = request_with (kind_of_code (code_of command.content)) command.identifier
request_in (Err (ZeroIdentifier code identifier)) = None
request_in (Err (BadLength code None)) = None
request_in (Err (BadLength code (Some identifier))) = request_unread code identifier
request_in (Err (UnknownCode code None)) = None
request_in (Err (UnknownCode code (Some identifier))) = request_unread code identifier
request_in (Err (AboveMtu code identifier)) = None

-- no other request of the kind: each one has this identifier
abbrev pub IsNoOther : RequestKind → ℕ → Read → Type 0
IsNoOther kind identifier one = (other : ℕ) → request_in one ≡ Some (kind, other) → other ≡ identifier

-- nor does one come in
abbrev pub NoOtherComes : RequestKind → ℕ → Occurrence → Type 0
NoOtherComes kind identifier (Comes pdu) = (channel_of pdu == 0x0001) ≡ true → AllByRecursion (IsNoOther kind identifier) (answers (drop 4 pdu))
NoOtherComes kind identifier (Connects psm) = Unit {0}
NoOtherComes kind identifier AsksFeatures = Unit {0}
NoOtherComes kind identifier (Disconnects own) = Unit {0}
NoOtherComes kind identifier (Sends own sdu) = Unit {0}
NoOtherComes kind identifier (Gives pdu) = Unit {0}
NoOtherComes kind identifier Fires = Unit {0}
NoOtherComes kind identifier Tells = Unit {0}

-- A request for whose response there is room comes in. Then, whatever happens while the link is up and no other request of its kind comes in, one of that
-- kind with its identifier gets the same response, or none again: it is said where there is room for it then. So it is whatever the later one asks,
-- and of requests that are not understood.
abbrev pub LaterRepeatsAreAnswered : Type 0
LaterRepeatsAreAnswered = (policy : Policy) (list between : List Occurrence) (pdu : List ℕ) (one again : Read) (kind : RequestKind) (identifier : ℕ) → (channel_of pdu == 0x0001) ≡ true → answers (drop 4 pdu) ≡ one ∷ []
    → request_in one ≡ Some (kind, identifier) → request_in again ≡ Some (kind, identifier) → can_say (option_map (λ (c : Command). c.content) (reply_to policy one (run_of policy list).value)) (run_of policy list).value ≡ true
    → AllByRecursion (NoOtherComes kind identifier) between → reply_to policy again (run_of policy (list ++ Comes pdu ∷ between)).value ≡ reply_to policy one (run_of policy list).value
