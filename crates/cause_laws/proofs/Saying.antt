-- What an SDU says with which a push has an outcome.
use Rattle.std.proofs.Common.{◌≡◌, ℕ, ◌<◌, ◌+◌, zero, suc, Bool, true, false, not, ◌&&◌, ◌==◌, List, [], ◌∷◌, ◌++◌, length, Option, Some, None, is_none, Result, Ok, Err, refl, sym, ap, ap₂, subst, ◌∙◌, inl, inr, append_assoc, arith, if◌then◌else◌}
use Rattle.std.specs.Prelude.{nat_lt, slice_index, IfSome}
use Rattle.std.proofs.lemmas.Bool.{eqb-true, le-ltb}
use Rattle.scenario_laws.specs.bt_base.specs.declared.settings.Transport.{Transport}
use Rattle.scenario_laws.specs.bt_base.specs.declared.settings.Transport.TheVariants.{L2cap, Rfcomm}
use Rattle.scenario_laws.specs.push_terms.specs.declared.outcome.Outcome.{Outcome}
use Rattle.scenario_laws.specs.push_terms.specs.declared.outcome.Outcome.TheVariants.{Done, Refused, NoService}
use Rattle.scenario_laws.specs.obex_headers.specs.declared.fault.ObexRefusal.{ObexRefusal}
use Rattle.scenario_laws.specs.obex_headers.specs.declared.fault.ObexRefusal.TheVariants.{AboveMaximum, Short}
use Rattle.scenario_laws.specs.obex_headers.specs.declared.packet.Phase.{Phase}
use Rattle.scenario_laws.specs.obex_headers.specs.declared.packet.Phase.TheVariants.{Response}
use Rattle.scenario_laws.specs.obex_headers.specs.Packets.{PlainPacket, PlainHeader, fields_len}
use Rattle.scenario_laws.specs.obex_headers.specs.Reading.{◌>>=◌, headers_in, front_at, packet_in}
use Rattle.scenario_laws.specs.obex_session.specs.declared.asking.Request.{Request}
use Rattle.scenario_laws.specs.obex_session.specs.declared.asking.Request.TheVariants as requests
use Rattle.scenario_laws.specs.obex_session.specs.declared.client.Answered.{Answered}
use Rattle.scenario_laws.specs.obex_session.specs.declared.client.Answered.TheVariants as answer
use Rattle.scenario_laws.specs.obex_session.specs.Asking.{phase_of, awaited_code, success_of, answer_read, answer_to}
use Rattle.scenario_laws.specs.obex_session.specs.Marks.{marks_of}
use Rattle.scenario_laws.specs.obex_session.specs.Views.{answer_at}
use Rattle.scenario_laws.specs.rfcomm_frames.specs.declared.frame.MuxKind.{MuxKind}
use Rattle.scenario_laws.specs.rfcomm_frames.specs.declared.frame.MuxKind.TheVariants.{Sabm, Ua, Dm, Disc, Uih}
use Rattle.scenario_laws.specs.rfcomm_frames.specs.Frames.{PlainFrame}
use Rattle.scenario_laws.specs.rfcomm_frames.specs.Answers.{Answer}
use Rattle.scenario_laws.specs.rfcomm_frames.specs.FrameReading.{frame_answer}
use Rattle.scenario_laws.specs.rfcomm_model.specs.declared.state.MuxReason.{MuxReason}
use Rattle.scenario_laws.specs.rfcomm_model.specs.Hearing.{Up, nothing, opened, bytes, closed, up, news, read_data, data_kind, hears}
use Rattle.scenario_laws.specs.rfcomm_model.specs.Machine.{Mux, may_pass, is_ready}
use Rattle.scenario_laws.specs.sdp_elements.specs.declared.target.Target.{Target}
use Rattle.scenario_laws.specs.sdp_client.specs.declared.reason.Found.{Found}
use Rattle.scenario_laws.specs.sdp_client.specs.declared.reason.Found.TheVariants as found
use Rattle.scenario_laws.specs.sdp_client.specs.declared.reason.QueryReason.{QueryReason}
use Rattle.scenario_laws.specs.sdp_client.specs.declared.reason.QueryReason.TheVariants.{BadReply, ErrorCode, WrongTransaction, TooLong}
use Rattle.scenario_laws.specs.sdp_client.specs.Hearing.{found_at}
use Rattle.scenario_laws.specs.sdp_elements.specs.Targets.{is_service_psm}
use Rattle.scenario_laws.specs.push_model.specs.declared.course.Stage.{Stage}
use Rattle.scenario_laws.specs.push_model.specs.declared.course.Stage.TheVariants.{Search, ObjectChannel, Object, ObjectEnd}
use Rattle.scenario_laws.specs.push_model.specs.Causes.{cause_of_query, cause_of_mux, unawaited_response}
use Rattle.scenario_laws.specs.push_model.specs.Client.{Client}
use Rattle.scenario_laws.specs.push_model.specs.Events.{search_psm, kept_of}
use Rattle.scenario_laws.specs.push_model.specs.Responding.{is_early, is_success, is_left, hears_response}
use Rattle.scenario_laws.specs.push_model.specs.Streams.{Front, Whole, Partial, Broken, front_of}
use Rattle.scenario_laws.specs.push_model.specs.Shown.{first_of, way_of, found_shows, says, answer_shows, response_shows, front_shows, stream_shows, up_shows, object_shows, outside_shows, sdu_shows}
use Rattle.scenario_laws.specs.push_laws.proofs.Opening.{Walk, HasChannel, At, psm_over, course_of}
use Rattle.scenario_laws.specs.link_talk.specs.Sayings.{Saying}
use Rattle.cause_laws.specs.Said.{IsResponse, HasCode, IsCarried, octets_by, octets_read, user_octets, decision_of, Brings}
use Rattle.cause_laws.proofs.Fronts.{Leaves, IsWhole, whole_front, came_leaves, rest_leaves}
use Rattle.cause_laws.proofs.Holding.{HoldsSo}

-- what an SDU on a channel with that PSM says with which this outcome is shown
abbrev pub Says : Transport → (ahead : List Saying) → (psm : ℕ) → List ℕ → Option Outcome → Type 0
Says transport ahead psm octets None = Unit {0}
Says transport ahead psm octets (Some outcome) = IfSome (decision_of outcome) (λ decision. Brings transport decision ahead psm octets)

either : (transport : Transport) (ahead : List Saying) (psm : ℕ) (octets : List ℕ) (test : Bool) (a b : Option Outcome) → Says transport ahead psm octets a → Says transport ahead psm octets b → Says transport ahead psm octets (if test then a else b)
either transport ahead psm octets true a b x y = x
either transport ahead psm octets false a b x y = y

-- over a transport the channel of the object has such a PSM
abbrev FitsOver : Transport → (psm : ℕ) → Type 0
FitsOver L2cap psm = is_service_psm psm ≡ true
FitsOver Rfcomm psm = psm ≡ 0x0003

kept_fits : (test : ℕ → Bool) (found : Option ℕ) (number : ℕ) → kept_of test found ≡ Some number → test number ≡ true
kept_fits test None number is = cc
kept_fits test (Some one) number is = by (test one) refl is
  where
    by : (held : Bool) → test one ≡ held → (if held then Some one else None) ≡ Some number → test number ≡ true
    by true holds same = let it : one ≡ number = cc in subst (λ (n : ℕ). test n ≡ true) it holds
    by false fails same = cc

way_fits : (transport : Transport) (target : Target) (number : ℕ) → way_of transport target ≡ Some number → FitsOver transport (psm_over transport number)
way_fits L2cap target number is = kept_fits is_service_psm target.l2cap number is
way_fits Rfcomm target number is = refl

pub channel_fits : (transport : Transport) (walk : Walk) (client : Client) → client.transport ≡ transport → HasChannel walk (course_of client) → FitsOver transport client.psm
channel_fits transport walk client same channel =
    let names = channel.names in
    subst (λ (t : Transport). FitsOver t client.psm) (sym names.same ∙ same) (subst (FitsOver walk.transport) (sym names.psm_is) (way_fits walk.transport names.target names.number names.named))

-- ---- answers of service discovery

query_says : (transport : Transport) (ahead : List Saying) (psm : ℕ) (octets : List ℕ) (reason : QueryReason) → Says transport ahead psm octets (cause_of_query reason)
query_says transport ahead psm octets BadReply = tt
query_says transport ahead psm octets (ErrorCode code) = tt
query_says transport ahead psm octets WrongTransaction = tt
query_says transport ahead psm octets TooLong = tt

found_says : (transport : Transport) (ahead : List Saying) (psm : ℕ) (reply : List ℕ) (what : Found) → psm ≡ 0x0001 → Says transport ahead psm reply (found_shows transport what)
found_says transport ahead psm reply found.More here = tt
found_says transport ahead psm reply (found.Service target) here = either transport ahead psm reply (is_none (way_of transport target)) (Some NoService) None here tt
found_says transport ahead psm reply found.NoService here = here
found_says transport ahead psm reply (found.Refused reason) here = query_says transport ahead psm reply reason

-- ---- responses

-- what a packet is with which an outcome is shown
abbrev Speaks : List ℕ → Option Outcome → Type 0
Speaks packet None = Unit {0}
Speaks packet (Some Done) = IsResponse Response 0xA0 packet
Speaks packet (Some (Refused code)) = HasCode code packet
Speaks packet (Some NoService) = ⊥
Speaks packet (Some outcome) = Unit {0}

-- no packet is read in another way by one that takes longer ones
front_any : (phase : Phase) (maximum : ℕ) (octets : List ℕ) (front : List ℕ × List ℕ) → front_at phase maximum octets ≡ Ok front → front_at phase (length octets) octets ≡ Ok front
unfolding front_at
front_any phase maximum octets front is =
    by _ (nat_lt (length octets) (3 + fields_len phase (slice_index octets 0))) (nat_lt maximum (length octets)) (nat_lt (length octets) (length octets)) (le-ltb (length octets) (length octets) (omega arith)) is
  where
    by : (rest : Result (List ℕ × List ℕ) ObexRefusal) (short over own : Bool) → own ≡ false → (if short then Err Short else if over then Err AboveMaximum else rest) ≡ Ok front → (if short then Err Short else if own then Err AboveMaximum else rest) ≡ Ok front
    by rest true over own none same = cc
    by rest false true own none same = cc
    by rest false false own none same = ap (λ (b : Bool). if b then Err AboveMaximum else rest) none ∙ same

abbrev behind : List ℕ → Result (List ℕ × List ℕ) ObexRefusal → Result PlainPacket ObexRefusal
behind octets front = front >>= (λ (f : List ℕ × List ℕ). headers_in f.1 >>= (λ (headers : List PlainHeader). Ok (record { code = slice_index octets 0; extra = f.0; headers = headers })))

packet_any : (phase : Phase) (maximum : ℕ) (octets : List ℕ) (read : PlainPacket) → packet_in phase maximum octets ≡ Ok read → packet_in phase (length octets) octets ≡ Ok read
unfolding packet_in
packet_any phase maximum octets read is = by (front_at phase maximum octets) refl is
  where
    by : (front : Result (List ℕ × List ℕ) ObexRefusal) → front_at phase maximum octets ≡ front → behind octets front ≡ Ok read → behind octets (front_at phase (length octets) octets) ≡ Ok read
    by (Ok front) at same = ap (behind octets) (front_any phase maximum octets front at) ∙ same
    by (Err refusal) at same = cc

coded : (request : Request) (code : ℕ) (octets : List ℕ) → IsResponse (phase_of request) code octets → HasCode code octets
coded requests.Connect code octets response = inl response
coded request code octets response = inr response

answer_speaks : (maximum : ℕ) (request : Request) (octets : List ℕ) → Speaks octets (says (answer_to maximum request octets))
answer_speaks maximum request octets = by (packet_in (phase_of request) maximum octets) refl
  where
    succeeds : (read : PlainPacket) (one : Request) → one ≡ request → packet_in (phase_of request) (length octets) octets ≡ Ok read → read.code ≡ awaited_code one → Speaks octets (says (success_of one))
    succeeds read requests.FinalPut same is code = record { read = read; is = subst (λ (r : Request). packet_in (phase_of r) (length octets) octets ≡ Ok read) (sym same) is; code_is = code }
    succeeds read one same is code = tt

    tests : (read : PlainPacket) (parameters awaited : Bool) → packet_in (phase_of request) (length octets) octets ≡ Ok read → (read.code == awaited_code request) ≡ awaited → Speaks octets (says (if parameters then answer.Srmp else if awaited then success_of request else answer.Refused read.code))
    tests read true awaited is code = tt
    tests read false true is code = succeeds read request refl is (eqb-true read.code (awaited_code request) code)
    tests read false false is code = coded request read.code octets (record { read = read; is = is; code_is = refl })

    by : (read : Result PlainPacket ObexRefusal) → packet_in (phase_of request) maximum octets ≡ read → Speaks octets (says (answer_read request read))
    by (Ok read) is = tests read (marks_of read.headers).parameters (read.code == awaited_code request) (packet_any (phase_of request) maximum octets read is) refl
    by (Err refusal) is = tt

response_speaks : (octets : List ℕ) (client : Client) → Speaks octets (response_shows octets client)
response_speaks octets client = by client.session.awaited
  where
    early : (test : Bool) (answered : Answered) → Speaks octets (says answered) → Speaks octets (if test then Some unawaited_response else says answered)
    early true answered speaks = tt
    early false answered speaks = speaks

    by : (awaited : Option Request) → Speaks octets (answer_shows (answer_at awaited client.session octets) client)
    by None = tt
    by (Some request) =
        let answered = answer_to client.session.maximum request octets in early (is_success answered && is_early client) answered (answer_speaks client.session.maximum request octets)

-- over L2CAP the SDU is the packet
speaks_says : (ahead : List Saying) (psm : ℕ) (packet : List ℕ) (shown : Option Outcome) → is_service_psm psm ≡ true → Speaks packet shown → Says L2cap ahead psm packet shown
speaks_says ahead psm packet None fits speaks = tt
speaks_says ahead psm packet (Some Done) fits speaks = (fits, speaks)
speaks_says ahead psm packet (Some (Refused code)) fits speaks = (fits, speaks)
speaks_says ahead psm packet (Some NoService) fits speaks = absurd speaks
speaks_says ahead psm packet (Some outcome) fits speaks = tt

-- ---- a stream of packets

-- where that is a response, fewer octets are left than so many
abbrev Ends : Option Outcome → (left most : ℕ) → Type 0
Ends (Some Done) left most = left < most
Ends (Some (Refused code)) left most = left < most
Ends shown left most = Unit {0}

ends_so : (shown : Option Outcome) (left most : ℕ) → left < most → Ends shown left most
ends_so (Some Done) left most less = less
ends_so (Some (Refused code)) left most less = less
ends_so shown left most less = tt

-- such a packet stands in it
record StandsIn (shown : Option Outcome) (most : ℕ) (stream : List ℕ) : Type 0 where
  earlier : List ℕ
  packet : List ℕ
  later : List ℕ
  is : stream ≡ earlier ++ (packet ++ later)
  ends : Ends shown (length later) most
  speaks : Speaks packet shown

none_stands : (most : ℕ) (stream : List ℕ) → StandsIn None most stream
none_stands most stream = record { earlier = []; packet = []; later = stream; is = refl; ends = tt; speaks = tt }

stands_behind : (shown : Option Outcome) (most : ℕ) (stream packet rest : List ℕ) → stream ≡ packet ++ rest → StandsIn shown most rest → StandsIn shown most stream
stands_behind shown most stream packet rest is stands = record {
  earlier = packet ++ stands.earlier;
  packet = stands.packet;
  later = stands.later;
  is = is ∙ (ap (λ (l : List ℕ). packet ++ l) stands.is ∙ sym (append_assoc packet stands.earlier (stands.packet ++ stands.later)));
  ends = stands.ends;
  speaks = stands.speaks;
}

first_stands : (first later : Option Outcome) (most : ℕ) (stream : List ℕ) → StandsIn first most stream → StandsIn later most stream → StandsIn (first_of first later) most stream
first_stands None later most stream one two = two
first_stands (Some outcome) later most stream one two = one

front_stands : (most : ℕ) (more : List ℕ → Client → Option Outcome) → ((rest : List ℕ) (client : Client) → Leaves most rest → StandsIn (more rest client) most rest) → (maximum : ℕ) (stream : List ℕ) (front : Front) (client : Client) → Leaves most stream → front_of maximum stream ≡ front → StandsIn (front_shows more front client) most stream
front_stands most more all maximum stream (Whole packet rest) client leaves is =
    let alone : Client = record client { held = [] } in
    let whole : IsWhole stream packet rest = whole_front maximum stream packet rest is in
    let less : length rest < most = leaves maximum packet rest is in
    first_stands (response_shows packet alone) (more rest (hears_response packet alone)) most stream
    (record { earlier = []; packet = packet; later = rest; is = whole.is; ends = ends_so (response_shows packet alone) (length rest) most less; speaks = response_speaks packet alone })
    (stands_behind (more rest (hears_response packet alone)) most stream packet rest whole.is (all rest (hears_response packet alone) (rest_leaves most rest less)))
front_stands most more all maximum stream Partial client leaves is = none_stands most stream
front_stands most more all maximum stream (Broken refusal) client leaves is = record { earlier = []; packet = []; later = stream; is = refl; ends = tt; speaks = tt }

stream_stands : (most count : ℕ) (stream : List ℕ) (client : Client) → Leaves most stream → StandsIn (stream_shows count stream client) most stream
unfolding stream_shows
stream_stands most zero stream client leaves = none_stands most stream
stream_stands most (suc count) stream client leaves =
    front_stands most (λ rest next. stream_shows count rest next) (λ rest next. stream_stands most count rest next) client.session.maximum stream (front_of client.session.maximum stream) client leaves refl

-- ---- frames

-- a frame of a user channel, and its octets
record Reads (sdu octets : List ℕ) : Type 0 where
  frame : PlainFrame
  is : frame_answer sdu ≡ Ok frame
  kind : frame.kind ≡ Uih
  user : (frame.dlci == 0) ≡ false
  octets_are : frame.octets ≡ octets

kind_reads : (sdu : List ℕ) (kind : MuxKind) (frame : PlainFrame) (m : Mux) (octet : ℕ) (octets : List ℕ) → frame_answer sdu ≡ Ok frame → frame.kind ≡ kind → data_kind kind frame m ≡ octet ∷ octets → Reads sdu (octet ∷ octets)
kind_reads sdu Sabm frame m octet octets at kind is = cc
kind_reads sdu Ua frame m octet octets at kind is = cc
kind_reads sdu Dm frame m octet octets at kind is = cc
kind_reads sdu Disc frame m octet octets at kind is = cc
kind_reads sdu Uih frame m octet octets at kind is = by (frame.dlci == 0) ((frame.dlci == m.dlci) && may_pass m) refl is
  where
    by : (control passes : Bool) → (frame.dlci == 0) ≡ control → (if not control && passes then frame.octets else []) ≡ octet ∷ octets → Reads sdu (octet ∷ octets)
    by true passes zero' read = cc
    by false true zero' read = record { frame = frame; is = at; kind = kind; user = zero'; octets_are = read }
    by false false zero' read = cc

frame_reads : (sdu : List ℕ) (m : Mux) (read : Answer) (octet : ℕ) (octets : List ℕ) → frame_answer sdu ≡ read → read_data read m ≡ octet ∷ octets → Reads sdu (octet ∷ octets)
frame_reads sdu m (Ok frame) octet octets at is = kind_reads sdu frame.kind frame m octet octets at refl is
frame_reads sdu m (Err refusal) octet octets at is = cc

up_reads : (sdu : List ℕ) (m : Mux) (octets : List ℕ) → up sdu m ≡ bytes octets → Reads sdu octets
up_reads sdu m octets is = by m.closed (hears sdu m).closed (is_ready (hears sdu m) && not (is_ready m)) (read_data (frame_answer sdu) m) refl is
  where
    by : (before after : Option MuxReason) (ready : Bool) (info : List ℕ) → read_data (frame_answer sdu) m ≡ info → news before after ready info ≡ bytes octets → Reads sdu octets
    by (Some before) after ready info at said = cc
    by None (Some reason) ready info at said = cc
    by None None true info at said = cc
    by None None false [] at said = cc
    by None None false (octet ∷ info) at said = let same : octet ∷ info ≡ octets = cc in subst (Reads sdu) same (frame_reads sdu m (frame_answer sdu) octet info refl at)

-- it brings these octets
pub brings_octets : (sdu : List ℕ) (m : Mux) (octets : List ℕ) → up sdu m ≡ bytes octets → user_octets sdu ≡ octets
brings_octets sdu m octets is =
    let reads = up_reads sdu m octets is in
    ap octets_read reads.is ∙ (ap (λ (kind : MuxKind). octets_by kind reads.frame) reads.kind ∙ (ap (λ (b : Bool). if b then [] else reads.frame.octets) reads.user ∙ reads.octets_are))

carried_in : (Is : List ℕ → Type 0) (ahead : List Saying) (sdu octets held : List ℕ) → Reads sdu octets → HoldsSo held ahead → (earlier packet later : List ℕ) → held ++ octets ≡ earlier ++ (packet ++ later) → length later < length octets → Is packet → IsCarried Is ahead sdu
carried_in Is ahead sdu octets held reads so earlier packet later is ends read = record {
  frame = reads.frame;
  is = reads.is;
  kind = reads.kind;
  user = reads.user;
  others = so.came.others;
  among = so.came.among;
  earlier = so.came.before ++ earlier;
  ends = subst (λ (l : List ℕ). length later < length l) (sym reads.octets_are) ends;
  packet = packet;
  later = later;
  stream_is =
      ap₂ (λ (x y : List ℕ). x ++ y) so.came.stream_is reads.octets_are
      ∙ (append_assoc so.came.before held octets ∙ (ap (λ (l : List ℕ). so.came.before ++ l) is ∙ sym (append_assoc so.came.before earlier (packet ++ later))));
  read = read;
}

stands_says : (ahead : List Saying) (psm : ℕ) (sdu octets held : List ℕ) (shown : Option Outcome) → psm ≡ 0x0003 → Reads sdu octets → HoldsSo held ahead → StandsIn shown (length octets) (held ++ octets) → Says Rfcomm ahead psm sdu shown
stands_says ahead psm sdu octets held None fits reads so stands = tt
stands_says ahead psm sdu octets held (Some Done) fits reads so stands = (fits, carried_in (IsResponse Response 0xA0) ahead sdu octets held reads so stands.earlier stands.packet stands.later stands.is stands.ends stands.speaks)
stands_says ahead psm sdu octets held (Some (Refused code)) fits reads so stands = (fits, carried_in (HasCode code) ahead sdu octets held reads so stands.earlier stands.packet stands.later stands.is stands.ends stands.speaks)
stands_says ahead psm sdu octets held (Some NoService) fits reads so stands = absurd stands.speaks
stands_says ahead psm sdu octets held (Some outcome) fits reads so stands = tt

up_says : (ahead : List Saying) (psm : ℕ) (sdu : List ℕ) (m : Mux) (brought : Up) (client : Client) → psm ≡ 0x0003 → up sdu m ≡ brought → HoldsSo client.held ahead → Says Rfcomm ahead psm sdu (up_shows brought client)
up_says ahead psm sdu m nothing client fits is so = tt
up_says ahead psm sdu m opened client fits is so = tt
up_says ahead psm sdu m (bytes octets) client fits is so =
    let stream = client.held ++ octets in stands_says ahead psm sdu octets client.held (stream_shows (length stream) stream client) fits (up_reads sdu m octets is) so (stream_stands (length octets) (length stream) stream client (came_leaves client.held octets so.short))
up_says ahead psm sdu m (closed reason) client fits is so = either Rfcomm ahead psm sdu (is_left client.contact reason) None (Some (cause_of_mux reason)) tt tt

-- ---- an SDU

object_says : (transport : Transport) (ahead : List Saying) (psm : ℕ) (sdu : List ℕ) (client : Client) → FitsOver transport psm → (transport ≡ Rfcomm → HoldsSo client.held ahead) → Says transport ahead psm sdu (object_shows transport sdu client)
object_says L2cap ahead psm sdu client fits so = speaks_says ahead psm sdu (response_shows sdu client) fits (response_speaks sdu client)
object_says Rfcomm ahead psm sdu client fits so = up_says ahead psm sdu client.mux (up sdu client.mux) (record client { mux = hears sdu client.mux }) fits refl (so refl)

outside_says : (over transport : Transport) (ahead : List Saying) (psm : ℕ) (sdu : List ℕ) → Says over ahead psm sdu (outside_shows transport)
outside_says over L2cap ahead psm sdu = tt
outside_says over Rfcomm ahead psm sdu = tt

-- of a client over that transport, which stands so on its way
module _ (transport : Transport) (ahead : List Saying) (psm : ℕ) (sdu : List ℕ) (client : Client) (same : client.transport ≡ transport) (walk : Walk) (so : transport ≡ Rfcomm → HoldsSo client.held ahead) where
  search_says : (here : Bool) → (psm == search_psm) ≡ here → Says transport ahead psm sdu (if here then found_shows client.transport (found_at client.query sdu) else None)
  search_says true is =
      subst (λ (t : Transport). Says transport ahead psm sdu (found_shows t (found_at client.query sdu))) (sym same) (found_says transport ahead psm sdu (found_at client.query sdu) (eqb-true psm search_psm is))
  search_says false is = tt

  carries_says : HasChannel walk (course_of client) → (here : Bool) → (psm == client.psm) ≡ here → Says transport ahead psm sdu (if here then object_shows client.transport sdu client else None)
  carries_says channel true is =
      subst (λ (t : Transport). Says transport ahead psm sdu (object_shows t sdu client)) (sym same)
      (object_says transport ahead psm sdu client (subst (FitsOver transport) (sym (eqb-true psm client.psm is)) (channel_fits transport walk client same channel)) so)
  carries_says channel false is = tt

  pub sdu_says : (stage : Stage) → At walk stage (course_of client) → Says transport ahead psm sdu (sdu_shows stage psm sdu client)
  sdu_says Search at = search_says (psm == search_psm) refl
  sdu_says (ObjectChannel point) at = either transport ahead psm sdu (psm == client.psm) (outside_shows client.transport) None (outside_says transport client.transport ahead psm sdu) tt
  sdu_says Object at = carries_says at (psm == client.psm) refl
  sdu_says (ObjectEnd point) at = either transport ahead psm sdu (psm == client.psm) (outside_shows client.transport) None (outside_says transport client.transport ahead psm sdu) tt
  sdu_says stage at = tt
