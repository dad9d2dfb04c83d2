-- The reply to a request (Core 5.1, Volume 3 Part B, 4.3 to 4.7): an error, or one part of one whole answer.
use Rattle.std.specs.Prelude.{◌≡◌, ℕ, ◌/◌, ◌*◌, ◌==◌, min, nat_lt, if◌then◌else◌, List, [], ◌∷◌, ◌++◌, length, take, drop, Option, Some, None, Result, Ok, Err}
use Rattle.byteorder.specs.Endian.{big_number}
use Rattle.bt_base.specs.Octets.{be16}
use Rattle.bt_base.specs.declared.settings.Serves.{Serves}
use Rattle.sdp_elements.specs.Answers.{Question, Handles, Attributes, Search, answer}
use Rattle.sdp_elements.specs.Exchange.{pdu_octets, offset_in, part_reply, error_reply}
use Rattle.sdp_elements.specs.Pdus.{PlainPdu, pdu_in}
use Rattle.sdp_elements.specs.Records.{record_handle}
use Rattle.sdp_server.specs.Requests.{Request, request_in}
use Rattle.sdp_server.specs.declared.fault.ErrorCode.{ErrorCode}
use Rattle.sdp_server.specs.declared.fault.ErrorCode.TheVariants.{InvalidHandle, InvalidSyntax, InvalidSize, InvalidContinuation}

-- the codes of errors (4.4.1)
abbrev pub code_number : ErrorCode → ℕ
code_number InvalidHandle = 2
code_number InvalidSyntax = 3
code_number InvalidSize = 4
code_number InvalidContinuation = 5

-- ---- one part of an answer

-- the part of the answer from there on
abbrev pub part_from : ℕ → ℕ → List ℕ → ℕ → ℕ → Option ℕ → Result (List ℕ) ErrorCode
part_from identifier transaction octets most room None = Err InvalidContinuation
part_from identifier transaction octets most room (Some offset) = Ok (part_reply identifier transaction octets offset most room)

-- the part of the answer that the request asks for
abbrev pub part_of : ℕ → ℕ → List ℕ → Request → ℕ → Result (List ℕ) ErrorCode
part_of identifier transaction octets request room = part_from identifier transaction octets request.most room (offset_in request.continuation (length octets))

-- the reply with handles of four octets: how many there are, how many it carries, the handles, no continuation state; it has no parts
abbrev pub handles_parameters : List ℕ → ℕ → List ℕ
handles_parameters octets count = be16 (length octets / 4) ++ (be16 count ++ (take (4 * count) octets ++ 0 ∷ []))

abbrev pub handles_reply : ℕ → List ℕ → Request → Result (List ℕ) ErrorCode
handles_reply transaction octets request =
    if length request.continuation == 0 then Ok (pdu_octets 3 transaction (handles_parameters octets (min request.most (length octets / 4))))
    else Err InvalidContinuation

-- ---- the reply to a request

-- what is replied to a question whose whole answer these octets are
abbrev pub replied : ℕ → Question → List ℕ → Request → ℕ → Result (List ℕ) ErrorCode
replied transaction (Handles pattern) octets request room = handles_reply transaction octets request
replied transaction (Attributes handle ranges) octets request room = if handle == record_handle then part_of 5 transaction octets request room else Err InvalidHandle
replied transaction (Search pattern ranges) octets request room = part_of 7 transaction octets request room

abbrev pub answered : Serves → ℕ → ℕ → Option Request → Result (List ℕ) ErrorCode
answered serves room transaction None = Err InvalidSyntax
answered serves room transaction (Some request) = replied transaction request.question (answer serves request.question) request room

-- the answer to a PDU, in so much room
abbrev pub responded : Serves → ℕ → Option PlainPdu → Result (List ℕ) ErrorCode
responded serves room None = Err InvalidSize
responded serves room (Some pdu) = answered serves room pdu.transaction (request_in pdu.identifier pdu.parameters)

-- an error carries the transaction of the request, or 0 where the octets are too few to have one
abbrev pub transaction_of : List ℕ → ℕ
transaction_of octets = if nat_lt (length octets) 3 then 0 else big_number 2 (drop 1 octets)

abbrev pub with_error : ℕ → Result (List ℕ) ErrorCode → List ℕ
with_error transaction (Ok octets) = octets
with_error transaction (Err code) = error_reply transaction (code_number code)

-- the one reply to whatever octets came, in so much room
abbrev pub reply_to : Serves → ℕ → List ℕ → List ℕ
reply_to serves room octets = with_error (transaction_of octets) (responded serves room (pdu_in octets))

-- ---- what the code gives

abbrev pub GivesOctets : {X : Type 0} → (X → List ℕ) → Result X ErrorCode → Result (List ℕ) ErrorCode → Type 0
GivesOctets octets_of (Ok x) read = read ≡ Ok (octets_of x)
GivesOctets octets_of (Err code) read = read ≡ Err code
