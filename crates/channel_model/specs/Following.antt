-- What follows from a request of the peer, once it is answered (Core 5.1, Volume 3 Part A, 4.2 to 4.7).
use Rattle.std.specs.Prelude.{ℕ, ◌+◌, ◌==◌, Bool, true, List, [], ◌∷◌, ◌++◌, Option, Some, None, if◌then◌else◌}
use Rattle.l2cap_signal.specs.Commands.{Content, reject, connection_request, connection_response, configuration_request, configuration_response, disconnection_request, disconnection_response, echo_request, echo_response, information_request, information_response}
use Rattle.channel_model.specs.declared.request_kind.RequestKind.{RequestKind}
use Rattle.channel_model.specs.Value.{Setup, no_setup, Stage, Connected, Held, Remembered, Channels}
use Rattle.channel_model.specs.Policies.{Policy}
use Rattle.channel_model.specs.Changing.{held_at, is_peer, setup_of, has_room, answers}
use Rattle.channel_model.specs.Closing.{peer_closes}
use Rattle.channel_model.specs.Configuring.{verdict, follows_verdict}
use Rattle.channel_model.specs.Answers.{remembered, with_remembered, connection_result, answer_to}

-- ---- what follows

-- a channel is there, with the next own endpoint, which is never given again on the link
abbrev pub with_channel : (psm : ℕ) → Stage → Channels → Channels
with_channel psm stage v = record v { held = v.held ++ record { psm = psm; own = v.next; stage = stage } ∷ []; next = v.next + 1 }

abbrev pub follows_connection : (result psm source : ℕ) → Channels → Channels
follows_connection result psm source v = if result == 0 then with_channel psm (Connected source no_setup) v else v

abbrev pub follows_setup : Option Setup → Policy → Held → (flags : ℕ) → List ℕ → Channels → Channels
follows_setup None policy held flags octets v = v
follows_setup (Some setup) policy held flags octets v =
    follows_verdict (verdict policy held.own flags octets v) (policy.wish held.psm) held setup v

abbrev pub follows_configuration : Option Held → Policy → (flags : ℕ) → List ℕ → Channels → Channels
follows_configuration None policy flags octets v = v
follows_configuration (Some held) policy flags octets v = follows_setup (setup_of held.stage) policy held flags octets v

abbrev pub follows_disconnection : Option Held → (peer : ℕ) → Channels → Channels
follows_disconnection None peer v = v
follows_disconnection (Some held) peer v = if is_peer peer held.stage then peer_closes held v else v

abbrev pub follows : Policy → Content → Channels → Channels
follows policy (reject reason rest) v = v
follows policy (connection_request psm source) v = follows_connection (connection_result policy psm source v) psm source v
follows policy (connection_response destination source answer status) v = v
follows policy (configuration_request destination flags options) v = follows_configuration (held_at destination v) policy flags options v
follows policy (configuration_response source flags answer options) v = v
follows policy (disconnection_request destination source) v = follows_disconnection (held_at destination v) source v
follows policy (disconnection_response destination source) v = v
follows policy (echo_request octets) v = v
follows policy (echo_response octets) v = v
follows policy (information_request kind) v = v
follows policy (information_response kind answer rest) v = v

-- ---- a request

-- it is the last of its kind for now
abbrev pub remembers : RequestKind → (identifier : ℕ) → Option Content → Channels → Channels
remembers kind identifier response v =
    record v { memory = with_remembered kind (record { identifier = identifier; response = response }) v.memory }

abbrev pub says : (identifier : ℕ) → Option Content → Channels → Channels
says identifier None v = v
says identifier (Some response) v = answers identifier response v

-- there is room for the answer, if there is one
abbrev pub can_say : Option Content → Channels → Bool
can_say None v = true
can_say (Some response) v = has_room v

-- The answer waits, then own requests that follow from it. A request for whose answer there is no room is as if it were lost.
abbrev pub hears_new : RequestKind → (identifier : ℕ) → Option Content → (Channels → Channels) → Channels → Channels
hears_new kind identifier response more v =
    if can_say response v then more (says identifier response (remembers kind identifier response v)) else v

abbrev pub hears_again : (identifier : ℕ) → Option Content → Channels → Channels
hears_again identifier response v = if can_say response v then says identifier response v else v

-- a request with the identifier of the last one of its kind gets the same response again, or none again, and nothing else
-- (4: a request that is sent again has the identifier of the first)
abbrev pub hears_kind : Option Remembered → RequestKind → (identifier : ℕ) → Option Content → (Channels → Channels) → Channels → Channels
hears_kind None kind identifier response more v = hears_new kind identifier response more v
hears_kind (Some last) kind identifier response more v =
    if last.identifier == identifier then hears_again identifier last.response v else hears_new kind identifier response more v

abbrev pub hears_request : RequestKind → (identifier : ℕ) → Option Content → (Channels → Channels) → Channels → Channels
hears_request kind identifier response more v = hears_kind (remembered kind v.memory) kind identifier response more v

abbrev pub hears_question : Policy → RequestKind → (identifier : ℕ) → Content → Channels → Channels
hears_question policy kind identifier content v =
    hears_request kind identifier (answer_to policy content v) (follows policy content) v
