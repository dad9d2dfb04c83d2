-- What a payload on the signalling channel says.
use Rattle.std.specs.Prelude.{ℕ, zero, suc, List, [], ◌∷◌, length, take, drop, slice_index, slice_get, Option, Some, None, Result, Ok, Err, nat_lt, ◌==◌, ◌||◌, if◌then◌else◌}
use Rattle.byteorder.specs.Endian.{little_from}
use Rattle.l2cap_signal.specs.declared.signal.Signal.{Signal}
use Rattle.l2cap_signal.specs.declared.refusal.SignalRefusal.{SignalRefusal}
use Rattle.l2cap_signal.specs.declared.refusal.SignalRefusal.TheVariants.{ZeroIdentifier, BadLength, UnknownCode, AboveMtu}
use Rattle.l2cap_signal.specs.Commands.{Command, command, Content, reject, connection_request, connection_response, configuration_request, configuration_response, disconnection_request, disconnection_response, echo_request, echo_response, information_request, information_response}

-- the number in the two octets from a place on
abbrev pub word_at : ℕ → List ℕ → ℕ
word_at place octets = little_from place 2 octets

-- so many octets, and no others
abbrev pub exactly : ℕ → List ℕ → Content → Option Content
exactly size payload what = if length payload == size then Some what else None

-- so many octets, and any behind them
abbrev pub at_least : ℕ → List ℕ → Content → Option Content
at_least size payload what = if nat_lt (length payload) size then None else Some what

-- what a payload says under a code from 1 to 11, where it has a length of that code (Core 5.1, Volume 3
-- Part A, 4.1 to 4.11)
abbrev pub content_of : ℕ → List ℕ → Option Content
content_of code p =
    if code == 1 then at_least 2 p (reject (word_at 0 p) (drop 2 p)) else
    if code == 2 then exactly 4 p (connection_request (word_at 0 p) (word_at 2 p)) else
    if code == 3 then exactly 8 p (connection_response (word_at 0 p) (word_at 2 p) (word_at 4 p) (word_at 6 p)) else
    if code == 4 then at_least 4 p (configuration_request (word_at 0 p) (word_at 2 p) (drop 4 p)) else
    if code == 5 then at_least 6 p (configuration_response (word_at 0 p) (word_at 2 p) (word_at 4 p) (drop 6 p)) else
    if code == 6 then exactly 4 p (disconnection_request (word_at 0 p) (word_at 2 p)) else
    if code == 7 then exactly 4 p (disconnection_response (word_at 0 p) (word_at 2 p)) else
    if code == 8 then Some (echo_request p) else
    if code == 9 then Some (echo_response p) else
    if code == 10 then exactly 2 p (information_request (word_at 0 p)) else
    at_least 4 p (information_response (word_at 0 p) (word_at 2 p) (drop 4 p))

-- a command, or why it was refused
abbrev pub Answer : Type 0
Answer = Result Command SignalRefusal

-- what code returns, apart from where its octets lie in memory
abbrev pub answer : Result Signal SignalRefusal → Answer
answer (Ok signal) = Ok (command signal)
answer (Err refusal) = Err refusal

abbrev pub read_as : ℕ → ℕ → Option Content → Answer
read_as code identifier None = Err (BadLength code (Some identifier))
read_as code identifier (Some what) = Ok (record { identifier = identifier; content = what })

-- a command that is there whole: its identifier is judged first, then its code, then its length (4; the
-- order is this project's own)
abbrev pub judged : ℕ → ℕ → List ℕ → Answer
judged code identifier payload =
    if identifier == 0 then Err (ZeroIdentifier code (Some identifier)) else
    if (code == 0) || nat_lt 11 code then Err (UnknownCode code (Some identifier)) else
    read_as code identifier (content_of code payload)

-- the answer at the front of octets, and the octets that are still to be read. Only a payload that is
-- read from its front is ever above the limit. The limit of 672 octets, and that one answer stands for
-- all commands above it, are this project's own.
unfoldable pub first : List ℕ → Answer × List ℕ
first octets =
    let code = slice_index octets 0 in
    let identifier = slice_get octets 1 in
    let size = word_at 2 octets in
    if nat_lt 672 (length octets) then (Err (AboveMtu code identifier), []) else
    if nat_lt (length octets) 4 then (Err (BadLength code identifier), []) else
    if nat_lt (length (drop 4 octets)) size then (Err (BadLength code identifier), []) else
    (judged code (slice_index octets 1) (take size (drop 4 octets)), drop size (drop 4 octets))

-- the answers to octets in so many steps at most
unfoldable pub answers_within : ℕ → List ℕ → List Answer
answers_within steps [] = []
answers_within zero (o ∷ octets) = []
answers_within (suc steps) (o ∷ octets) = (first (o ∷ octets)).0 ∷ answers_within steps (first (o ∷ octets)).1

-- all that is answered to a payload on the signalling channel; no step takes less than an octet
unfoldable pub answers : List ℕ → List Answer
answers octets = answers_within (length octets) octets
