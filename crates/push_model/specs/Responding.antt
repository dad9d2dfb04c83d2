-- What a client makes of responses, over L2CAP and over RFCOMM (IrOBEX 1.5, 3.2; RFCOMM 1.2, 5).
use Rattle.std.specs.Prelude.{ℕ, zero, suc, ◌&&◌, ◌||◌, Bool, true, false, List, [], ◌++◌, length, Option, Some, None, if◌then◌else◌}
use Rattle.push_terms.specs.declared.outcome.Outcome.TheVariants as outcome
use Rattle.rfcomm_model.specs.declared.state.MuxReason.{MuxReason}
use Rattle.rfcomm_model.specs.declared.state.MuxReason.TheVariants.{Dm, Disc, NoCreditFlow, Overdrawn, BadFrame, CreditOverflow}
use Rattle.rfcomm_model.specs.Hearing.{Up, nothing, opened, bytes, closed, up, hears}
use Rattle.obex_session.specs.declared.client.Answered.{Answered}
use Rattle.obex_session.specs.declared.client.Answered.TheVariants.{Go, Done, Refused, Bad, Srmp}
use Rattle.obex_session.specs.Views.{is_stream, answer_at, after_at}
use Rattle.push_model.specs.declared.course.Contact.{Contact}
use Rattle.push_model.specs.declared.course.Contact.TheVariants.{Unmet, Met, Left, Closing}
use Rattle.push_model.specs.declared.course.Point.TheVariants.{Due}
use Rattle.push_model.specs.declared.course.Stage.{Stage}
use Rattle.push_model.specs.declared.course.Stage.TheVariants.{Rest, Link, SearchChannel, Search, SearchEnd, Features, ObjectChannel, Object, ObjectEnd, LinkEnd, Over}
use Rattle.push_model.specs.Causes.{cause_of_mux, cause_of_obex, unknown_parameters, unawaited_response}
use Rattle.push_model.specs.Client.{Client, ends}
use Rattle.push_model.specs.Streams.{Front, Whole, Partial, Broken, front_of}

-- ---- a response

-- the first success is that of CONNECT
abbrev pub met : Contact → Contact
met Unmet = Met
met Met = Met
met Left = Left
met Closing = Closing

-- A success comes too early before the last octet of its request was sent, and where more PUTs follow in single response
-- mode, which are one request. The session has taken it then, as any other response.
abbrev pub is_early : Client → Bool
is_early client = client.going || is_stream client.session.awaited

abbrev pub takes : Answered → Client → Client
takes Go client = record client { contact = met client.contact }
takes Done client = ends outcome.Done client
takes (Refused code) client = ends (outcome.Refused code) client
takes (Bad refusal) client = ends (cause_of_obex refusal) client
takes Srmp client = ends unknown_parameters client

abbrev pub is_success : Answered → Bool
is_success Go = true
is_success Done = true
is_success (Refused code) = false
is_success (Bad refusal) = false
is_success Srmp = false

abbrev pub hears_answer : Option Answered → List ℕ → Client → Client
hears_answer None packet client = ends unawaited_response client
hears_answer (Some answer) packet client =
    let heard = record client { session = after_at client.session.awaited client.session packet } in
    if is_success answer && is_early client then ends unawaited_response heard else takes answer heard

abbrev pub hears_response : List ℕ → Client → Client
hears_response packet client = hears_answer (answer_at client.session.awaited client.session packet) packet client

-- ---- the multiplexer

abbrev pub is_object : Stage → Bool
is_object Rest = false
is_object (Link point) = false
is_object (SearchChannel point) = false
is_object Search = false
is_object (SearchEnd point) = false
is_object (Features point) = false
is_object (ObjectChannel point) = false
is_object Object = true
is_object (ObjectEnd point) = false
is_object (LinkEnd point) = false
is_object Over = false

-- nothing more is read once the link is to be broken
abbrev pub reads_on : (Client → Client) → Client → Client
reads_on more client = if is_object client.stage then more client else client

abbrev pub hears_front : (List ℕ → Client → Client) → List ℕ → Front → Client → Client
hears_front more stream (Whole packet rest) client = reads_on (λ next. more rest next) (hears_response packet (record client { held = [] }))
hears_front more stream Partial client = record client { held = stream }
hears_front more stream (Broken refusal) client = ends (cause_of_obex refusal) (record client { held = [] })

-- packet by packet, in so many steps at most
unfoldable pub hears_stream : ℕ → List ℕ → Client → Client
hears_stream zero stream client = record client { held = stream }
hears_stream (suc steps) stream client = hears_front (λ rest next. hears_stream steps rest next) stream (front_of client.session.maximum stream) client

-- its own last DISC was answered
abbrev pub is_left : Contact → MuxReason → Bool
is_left Unmet reason = false
is_left Met reason = false
is_left Left reason = false
is_left Closing Disc = true
is_left Closing Dm = false
is_left Closing NoCreditFlow = false
is_left Closing Overdrawn = false
is_left Closing BadFrame = false
is_left Closing CreditOverflow = false

abbrev pub hears_end : MuxReason → Client → Client
hears_end reason client = if is_left client.contact reason then record client { stage = ObjectEnd Due } else ends (cause_of_mux reason) client

abbrev pub hears_up : Up → Client → Client
hears_up nothing client = client
hears_up opened client = client
hears_up (bytes octets) client = hears_stream (length (client.held ++ octets)) (client.held ++ octets) client
hears_up (closed reason) client = hears_end reason client

abbrev pub hears_frame : List ℕ → Client → Client
hears_frame sdu client = hears_up (up sdu client.mux) (record client { mux = hears sdu client.mux })
