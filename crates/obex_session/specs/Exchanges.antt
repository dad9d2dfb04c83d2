-- Laws of an exchange: a request that a server's session hears, and the response that a client's session takes.
use Rattle.std.specs.Prelude.{◌≡◌, ℕ, ◌<◌, ◌≤◌, ◌^◌, ◌++◌, ◌==◌, Bool, true, false, List, [], ◌∷◌, length, Ok, is_err, if◌then◌else◌}
use Rattle.bt_base.specs.Objects.{Object}
use Rattle.obex_headers.specs.declared.codes.Code.{Code}
use Rattle.obex_headers.specs.declared.packet.Phase.TheVariants.{Response, ConnectResponse}
use Rattle.obex_headers.specs.Codes.{octet_of}
use Rattle.obex_headers.specs.Packets.{bare, with_header}
use Rattle.obex_headers.specs.Reading.{packet_in}
use Rattle.obex_session.specs.declared.asking.Request.{Request}
use Rattle.obex_session.specs.declared.client.Answered.{Answered}
use Rattle.obex_session.specs.declared.client.Answered.TheVariants.{Refused}
use Rattle.obex_session.specs.declared.marks.Kind.{Kind}
use Rattle.obex_session.specs.declared.marks.Kind.TheVariants as kinds
use Rattle.obex_session.specs.declared.marks.Marks.{Marks}
use Rattle.obex_session.specs.declared.responding.Saying.{Saying}
use Rattle.obex_session.specs.declared.responding.Saying.TheVariants as saying
use Rattle.obex_session.specs.Responses.{is_connect, connect_fields, single_header, response_octets, confirmation_octets}
use Rattle.obex_session.specs.InboxCalls.{Answer, come_of}
use Rattle.obex_session.specs.Rules.{progress_in}
use Rattle.obex_session.specs.Past.{Heard, Serving, progress_of, open_headers, stored_by}
use Rattle.obex_session.specs.Serving.{kind_heard, ruling_on, heard_with}
use Rattle.obex_session.specs.Asking.{phase_of, awaited_code, success_of, answer_to}

-- ---- responses are read

-- what a client makes of a response by its code alone
abbrev pub answer_by_code : Request → ℕ → Answered
answer_by_code request code = if code == awaited_code request then success_of request else Refused code

-- A response of a server is read as the packet that it is, and a client takes it by its code: never as bad, and never as
-- one with parameters of single response mode. The response to CONNECT is one to a client that asked CONNECT.
pub record ResponsesAreRead : Type 0 where
  pub plain : (packet : List ℕ) (own maximum : ℕ) (code : Code) → octet_of code < 256 → 7 ≤ maximum → is_connect packet ≡ false → packet_in Response maximum (response_octets packet own code) ≡ Ok (bare (octet_of code) [])
  pub connecting : (packet : List ℕ) (own maximum : ℕ) (code : Code) → octet_of code < 256 → 7 ≤ maximum → 255 ≤ own → own < 2 ^ 16 → is_connect packet ≡ true
      → packet_in ConnectResponse maximum (response_octets packet own code) ≡ Ok (bare (octet_of code) (connect_fields own))
  pub confirming : (maximum : ℕ) (code : Code) → octet_of code < 256 → 7 ≤ maximum → packet_in Response maximum (confirmation_octets code) ≡ Ok (with_header (bare (octet_of code) []) single_header)
  pub answer_plain : (request : Request) (packet : List ℕ) (own maximum : ℕ) (code : Code) → octet_of code < 256 → 7 ≤ maximum → is_connect packet ≡ false → phase_of request ≡ Response
      → answer_to maximum request (response_octets packet own code) ≡ answer_by_code request (octet_of code)
  pub answer_connecting : (request : Request) (packet : List ℕ) (own maximum : ℕ) (code : Code) → octet_of code < 256 → 7 ≤ maximum → 255 ≤ own → own < 2 ^ 16 → is_connect packet ≡ true → phase_of request ≡ ConnectResponse
      → answer_to maximum request (response_octets packet own code) ≡ answer_by_code request (octet_of code)
  pub answer_confirming : (request : Request) (maximum : ℕ) (code : Code) → octet_of code < 256 → 7 ≤ maximum → phase_of request ≡ Response → answer_to maximum request (confirmation_octets code) ≡ answer_by_code request (octet_of code)

-- ---- success

abbrev pub is_success_code : Code → Bool
is_success_code code = octet_of code == 0xA0

abbrev pub is_success : Saying → Bool
is_success (saying.Response code) = is_success_code code
is_success (saying.Confirmation code) = is_success_code code
is_success saying.Silence = false
is_success saying.NoMemory = false

-- success is said to a PUT
abbrev pub stores_one : Kind → Saying → Bool
stores_one kinds.Refused said = false
stores_one (kinds.Put final marks) said = is_success said
stores_one (kinds.Other octet) said = false

-- what a packet stores, behind those that were heard
pub record Gains (session : Serving) (past : List Heard) (packet : List ℕ) (failed : Bool) (kind : Kind) (said : Saying) : Type 0 where
  pub gained : List Object
  pub stored_is : stored_by session.maximum (past ++ (packet, failed) ∷ []) ≡ stored_by session.maximum past ++ gained
  -- one object exactly where success is said to a PUT
  pub counted : length gained ≡ (if stores_one kind said then 1 else 0)
  -- which is final
  pub last : (final : Bool) (marks : Marks) → kind ≡ kinds.Put final marks → is_success said ≡ true → final ≡ true

abbrev pub SuccessIsStored : Type 0
SuccessIsStored = (session : Serving) (past : List Heard) (packet : List ℕ) (answers : List Answer) → progress_in session.course ≡ progress_of (open_headers session.maximum past)
    → Gains session past packet (is_err (come_of (ruling_on session packet).calls answers)) (kind_heard session packet) (heard_with session packet answers).saying
