-- What a client does on the channel of its object over RFCOMM leaves its multiplexer coupled to the server's.
use Rattle.std.proofs.Common.{Bool, true, false, ◌≡◌, ◌==◌, ℕ, zero, suc, ◌&&◌, ◌||◌, not, List, [], ◌∷◌, ◌++◌, length, drop, Option, Some, None, Result, Ok, Err, refl, sym, ap, subst, ◌∙◌, append-nil, if◌then◌else◌}
use Rattle.std.specs.List.{flat_map}
use Rattle.std.proofs.Math.Seq.{drop-nil}
use Rattle.link_talk.specs.bt_base.specs.declared.ports.PortFault.{PortFault}
use Rattle.link_talk.specs.bt_base.specs.declared.ports.PortFault.TheVariants as fault
use Rattle.link_talk.specs.push_terms.specs.declared.outcome.Outcome.{Outcome}
use Rattle.link_talk.specs.push_terms.specs.declared.outcome.Outcome.TheVariants as outcomes
use Rattle.push_model.specs.rfcomm_frames.specs.FrameReading.{is_empty}
use Rattle.push_model.specs.rfcomm_frames.specs.Frames.{PlainFrame}
use Rattle.rfcomm_laws.proofs.Running.{both_true}
use Rattle.push_model.specs.rfcomm_model.specs.Hearing.{Up, nothing, opened, bytes, closed}
use Rattle.push_model.specs.rfcomm_model.specs.Machine.{Mux, is_ready, sends, leaves, taken_count}
use Rattle.push_model.specs.rfcomm_model.specs.Saying.{Said, next}
use Rattle.push_model.specs.obex_session.specs.NextPut.{is_waiting}
use Rattle.push_model.specs.obex_session.specs.declared.client.Answered.{Answered}
use Rattle.push_model.specs.obex_session.specs.declared.client.Answered.TheVariants as answer
use Rattle.push_model.specs.obex_session.specs.Views.{answer_at, after_at}
use Rattle.push_model.specs.sdp_client.specs.Asking.{is_due, after_resend}
use Rattle.push_model.specs.declared.closing.CloseCause.{CloseCause}
use Rattle.push_model.specs.declared.course.Contact.TheVariants.{Closing}
use Rattle.push_model.specs.declared.course.Point.TheVariants.{Due}
use Rattle.push_model.specs.declared.course.Stage.{Stage}
use Rattle.push_model.specs.declared.course.Stage.TheVariants.{ObjectChannel, ObjectEnd, LinkEnd}
use Rattle.push_model.specs.Causes.{Ending, InOrder, AtOnce, ending_of, cause_of_link, cause_of_page, cause_of_close, cause_of_mux, cause_of_obex, unawaited_response, unknown_parameters}
use Rattle.push_model.specs.Client.{Client, ends, ends_by, ends_if, may_cancel, in_order, at_once, stage_after}
use Rattle.push_model.specs.Events as events
use Rattle.push_model.specs.Responding.{takes, hears_answer, hears_response, is_object, hears_front, hears_stream, hears_up, is_left, is_success, is_early}
use Rattle.push_model.specs.Steps.{Part, Stepped, Made, Ask, Connect, Put, Abort, Disconnect, Close, Nothing, put_count, puts_part, puts_from, puts, leaves_by, puts_or_leaves, requests, filled, said_by, says, sends_muxed, takes_some, asks_muxed, goes_muxed, steps_muxed, rests, may_ask, next_ask}
use Rattle.push_model.specs.Streams.{Front, Whole, Partial, Broken, front_of}
use Rattle.push_laws.specs.Carriage.{frames_of}
use Rattle.push_laws.specs.Sending.{packet_of, packet_asked, packets_behind, packets_muxed}
use Rattle.push_laws.proofs.Couples.{Coupled, Sums, client_gives, client_leaves, client_says, client_asks}
use Rattle.push_laws.proofs.Late.{IsLate, by_late, either}

-- ---- what is heard leaves the multiplexer, and brings no client to the channel of its object

-- Its multiplexer is `mux`, and `rest` is left of its last request; where it is on that channel, it was so before.
abbrev pub Stays : Mux → List ℕ → Bool → Client → Type 0
Stays mux rest here client = IsLate client.stage × (is_object client.stage ≡ true → here ≡ true) × (client.mux ≡ mux) × (client.rest ≡ rest)

late_so : (ending : Ending) (stage : Stage) → IsLate stage → IsLate (stage_after ending stage)
late_so InOrder = by_late (λ s. IsLate (in_order s)) tt (λ point. tt) (λ point. tt) tt tt
late_so AtOnce = by_late (λ s. IsLate (at_once s)) tt (λ point. tt) (λ point. tt) tt tt

no_object : (here : Bool) → false ≡ true → here ≡ true
no_object here e = cc

here_so : (ending : Ending) (here : Bool) (stage : Stage) → IsLate stage → (is_object stage ≡ true → here ≡ true) → is_object (stage_after ending stage) ≡ true → here ≡ true
here_so InOrder here =
    by_late (λ s. (is_object s ≡ true → here ≡ true) → is_object (in_order s) ≡ true → here ≡ true) (λ was e. was e) (λ point was e. no_object here e) (λ point was e. no_object here e) (λ was e. no_object here e) (λ was e. no_object here e)
here_so AtOnce here =
    by_late (λ s. (is_object s ≡ true → here ≡ true) → is_object (at_once s) ≡ true → here ≡ true) (λ was e. no_object here e) (λ point was e. no_object here e) (λ point was e. no_object here e) (λ was e. no_object here e) (λ was e. no_object here e)

module _ (mux : Mux) (rest : List ℕ) (here : Bool) where
  abbrev P : Client → Type 0
  P client = Stays mux rest here client

  by_stays : (cause : Option Outcome) (o : Outcome) (client : Client) → P client → P (ends_by cause o client)
  by_stays None o client s = (late_so (ending_of o) client.stage s.0, here_so (ending_of o) here client.stage s.0 s.1, s.2, s.3)
  by_stays (Some earlier) o client s = (late_so AtOnce client.stage s.0, here_so AtOnce here client.stage s.0 s.1, s.2, s.3)

  pub ends_stays : (o : Outcome) (client : Client) → P client → P (ends o client)
  ends_stays o client s = by_stays client.cause o client s

  takes_stays : (answered : Answered) (client : Client) → P client → P (takes answered client)
  takes_stays answer.Go client s = s
  takes_stays answer.Done client s = ends_stays outcomes.Done client s
  takes_stays (answer.Refused code) client s = ends_stays (outcomes.Refused code) client s
  takes_stays (answer.Bad refusal) client s = ends_stays (cause_of_obex refusal) client s
  takes_stays answer.Srmp client s = ends_stays unknown_parameters client s

  answer_stays : (answered : Option Answered) (packet : List ℕ) (client : Client) → P client → P (hears_answer answered packet client)
  answer_stays None packet client s = ends_stays unawaited_response client s
  answer_stays (Some answered) packet client s =
      let heard : Client = record client { session = after_at client.session.awaited client.session packet } in
      either P (is_success answered && is_early client) (ends unawaited_response heard) (takes answered heard) (ends_stays unawaited_response heard s) (takes_stays answered heard s)

  response_stays : (packet : List ℕ) (client : Client) → P client → P (hears_response packet client)
  response_stays packet client s = answer_stays (answer_at client.session.awaited client.session packet) packet client s

  front_stays : (more : List ℕ → Client → Client) → ((left : List ℕ) (client : Client) → P client → P (more left client)) → (stream : List ℕ) (front : Front) (client : Client) → P client → P (hears_front more stream front client)
  front_stays more keeps stream (Whole packet left) client s =
      let heard = hears_response packet (record client { held = [] }) in
      let kept : P heard = response_stays packet (record client { held = [] }) s in
      either P (is_object heard.stage) (more left heard) heard (keeps left heard kept) kept
  front_stays more keeps stream Partial client s = s
  front_stays more keeps stream (Broken refusal) client s = ends_stays (cause_of_obex refusal) (record client { held = [] }) s

  stream_stays : (count : ℕ) (stream : List ℕ) (client : Client) → P client → P (hears_stream count stream client)
  unfolding hears_stream
  stream_stays zero stream client s = s
  stream_stays (suc count) stream client s = front_stays (λ left next. hears_stream count left next) (λ left next. stream_stays count left next) stream (front_of client.session.maximum stream) client s

  pub up_stays : (news : Up) (client : Client) → P client → P (hears_up news client)
  up_stays nothing client s = s
  up_stays opened client s = s
  up_stays (bytes octets) client s = stream_stays (length (client.held ++ octets)) (client.held ++ octets) client s
  up_stays (closed reason) client s = either P (is_left client.contact reason) (record client { stage = ObjectEnd Due }) (ends (cause_of_mux reason) client) (tt, no_object here, s.2, s.3) (ends_stays (cause_of_mux reason) client s)

  -- ---- other news

  over_stays : (cause : Option Outcome) (o : Outcome) (client : Client) → (client.mux ≡ mux) × (client.rest ≡ rest) → P (events.over_by cause o client)
  over_stays None o client is = (tt, no_object here, is.0, is.1)
  over_stays (Some earlier) o client is = (tt, no_object here, is.0, is.1)

  if_stays : (found : Option Outcome) (client : Client) → P client → P (ends_if found client)
  if_stays None client s = s
  if_stays (Some o) client s = ends_stays o client s

  closed_stays : (at : ℕ) (cause : CloseCause) (client : Client) → P client → P (events.closed_at client.stage at cause client)
  closed_stays at cause client s =
      by_late (λ st. P (events.closed_at st at cause client)) (either P (at == client.psm) (ends_if (cause_of_close cause) client) client (if_stays (cause_of_close cause) client s) s)
      (λ point. either P (at == client.psm) (record client { stage = LinkEnd Due }) client (tt, no_object here, s.2, s.3) s) (λ point. s) s s client.stage s.0

  fires_stays : (client : Client) → P client → P (events.fires client)
  fires_stays client s =
      let fired : Client = record client { query = after_resend client.query } in
      either P (events.armed client && not (client.given || is_due client.query)) (if client.left == 0 then ends outcomes.RetryLimit client else fired) client
      (either P (client.left == 0) (ends outcomes.RetryLimit client) fired (ends_stays outcomes.RetryLimit client s) s) s

  -- no SDU
  pub news_stays : (news : events.News) (client : Client) → ((at : ℕ) (sdu : List ℕ) → news ≡ events.Sdu at sdu → ⊥) → P client → P (events.hears_news news client)
  news_stays events.LinkUp client none s = by_late (λ st. P (events.linked_at st client)) s (λ point. s) (λ point. s) s s client.stage s.0
  news_stays (events.LinkDown reason) client none s = either P (events.is_linked client.stage) (events.over (cause_of_link reason) client) client (over_stays client.cause (cause_of_link reason) client (s.2, s.3)) s
  news_stays (events.LinkFailed status) client none s = either P (events.is_paging client.stage) (events.over (cause_of_page status) client) client (over_stays client.cause (cause_of_page status) client (s.2, s.3)) s
  news_stays (events.ChannelOpen at mtu) client none s = by_late (λ st. P (events.opened_at st at mtu client)) s (λ point. s) (λ point. s) s s client.stage s.0
  news_stays (events.ChannelClosed at cause) client none s = closed_stays at cause client s
  news_stays (events.Sdu at sdu) client none s = absurd (none at sdu refl)
  news_stays events.FeaturesTold client none s = by_late (λ st. P (if events.is_asking_features st then record client { stage = ObjectChannel Due } else client)) s (λ point. s) (λ point. s) s s client.stage s.0
  news_stays events.FeaturesLost client none s = either P (events.is_asking_features client.stage) (ends outcomes.RetryLimit client) client (ends_stays outcomes.RetryLimit client s) s
  news_stays events.Timer client none s = fires_stays client s

  pub cancels_stays : (client : Client) → P client → P (if may_cancel client then ends outcomes.Cancelled client else client)
  cancels_stays client s = either P (may_cancel client) (ends outcomes.Cancelled client) client (ends_stays outcomes.Cancelled client s) s

-- ---- a request leaves the multiplexer

abbrev Same : Mux → Client → Type 0
Same mux client = client.mux ≡ mux

module _ (mux : Mux) where
  made_either : (test : Bool) (a b : Made) → Same mux a.client → Same mux b.client → Same mux (if test then a else b).client
  made_either true a b x y = x
  made_either false a b x y = y

  same_ends : (cause : Option Outcome) (o : Outcome) (client : Client) → Same mux client → Same mux (ends_by cause o client)
  same_ends None o client is = is
  same_ends (Some earlier) o client is = is

  part_same : (part : Part) (client : Client) (parts : List Part) → Same mux client → Same mux (puts_part part client parts).client
  part_same (Ok part) client parts is = is
  part_same (Err fault) client parts is = is

  from_same : (parts : List Part) (client : Client) → Same mux client → Same mux (puts_from parts client).client
  from_same [] client is = is
  from_same (part ∷ parts) client is = part_same part client parts is

  leaves_same : (ask : Ask) (client : Client) (parts : List Part) → Same mux client → Same mux (leaves_by ask client parts).client
  leaves_same Connect client parts is = is
  leaves_same Put client parts is = is
  leaves_same Abort client parts is = is
  leaves_same Disconnect client parts is = is
  leaves_same Close client parts is = is
  leaves_same Nothing client parts is = is

  or_leaves_same : (outcome : Result (Unit {0}) PortFault) (put : Made) → Same mux put.client → Same mux (puts_or_leaves outcome put).client
  or_leaves_same (Ok done) put is = is
  or_leaves_same (Err fault.Failed) put is = let ended = ends outcomes.ShelfFault put.client in leaves_same (next_ask ended) ended put.left (same_ends put.client.cause outcomes.ShelfFault put.client is)
  or_leaves_same (Err fault.NoMemory) put is = is

  pub requests_same : (ask : Ask) (client : Client) (parts : List Part) → Same mux client → Same mux (requests ask client parts).client
  requests_same Connect client parts is = is
  requests_same Put client parts is =
      or_leaves_same (puts client parts).outcome (puts client parts) (made_either (put_count client == 0) (puts_part (Ok []) client parts) (puts_from parts client) (part_same (Ok []) client parts is) (from_same parts client is))
  requests_same Abort client parts is = is
  requests_same Disconnect client parts is = is
  requests_same Close client parts is = is
  requests_same Nothing client parts is = is

-- ---- what is left to be sent of a request that is not made

abbrev Rested : Made → Type 0
Rested request = (fault : PortFault) → request.outcome ≡ Err fault → request.client.rest ≡ []

rested_either : (test : Bool) (a b : Made) → Rested a → Rested b → Rested (if test then a else b)
rested_either true a b x y = x
rested_either false a b x y = y

done_rested : (request : Made) → request.outcome ≡ Ok tt → Rested request
done_rested request done fault e = let f : Ok tt ≡ Err fault = sym done ∙ e in cc

part_rested : (part : Part) (client : Client) (parts : List Part) → client.rest ≡ [] → Rested (puts_part part client parts)
part_rested (Ok part) client parts none = done_rested (puts_part (Ok part) client parts) refl
part_rested (Err fault) client parts none = λ other e. none

from_rested : (parts : List Part) (client : Client) → client.rest ≡ [] → Rested (puts_from parts client)
from_rested [] client none = λ fault e. none
from_rested (part ∷ parts) client none = part_rested part client parts none

leaves_rested : (ask : Ask) (client : Client) (parts : List Part) → Rested (leaves_by ask client parts)
leaves_rested Connect client parts = done_rested (leaves_by Connect client parts) refl
leaves_rested Put client parts = done_rested (leaves_by Put client parts) refl
leaves_rested Abort client parts = done_rested (leaves_by Abort client parts) refl
leaves_rested Disconnect client parts = done_rested (leaves_by Disconnect client parts) refl
leaves_rested Close client parts = done_rested (leaves_by Close client parts) refl
leaves_rested Nothing client parts = done_rested (leaves_by Nothing client parts) refl

or_leaves_rested : (outcome : Result (Unit {0}) PortFault) (put : Made) → Rested put → Rested (puts_or_leaves outcome put)
or_leaves_rested (Ok done) put r = r
or_leaves_rested (Err fault.Failed) put r = let ended = ends outcomes.ShelfFault put.client in leaves_rested (next_ask ended) ended put.left
or_leaves_rested (Err fault.NoMemory) put r = r

requests_rested : (ask : Ask) (client : Client) (parts : List Part) → client.rest ≡ [] → Rested (requests ask client parts)
requests_rested Connect client parts none = done_rested (requests Connect client parts) refl
requests_rested Put client parts none =
    or_leaves_rested (puts client parts).outcome (puts client parts) (rested_either (put_count client == 0) (puts_part (Ok []) client parts) (puts_from parts client) (part_rested (Ok []) client parts none) (from_rested parts client none))
requests_rested Abort client parts none = done_rested (requests Abort client parts) refl
requests_rested Disconnect client parts none = done_rested (requests Disconnect client parts) refl
requests_rested Close client parts none = done_rested (requests Close client parts) refl
requests_rested Nothing client parts none = done_rested (requests Nothing client parts) refl

-- ---- a step on the channel of the object

abbrev pub joined : List (List ℕ) → List ℕ
joined packets = flat_map (λ (packet : List ℕ). packet) packets

-- all of its last request was taken, unless that is under way
abbrev pub IsQuiet : Client → Type 0
IsQuiet client = client.going ≡ false → client.rest ≡ []

may_asks : (client : Client) → may_ask client ≡ true → client.going ≡ false
may_asks client may = by client.going (both_true (not client.going) (not (is_waiting client.session.awaited)) may).0
  where
    by : (going : Bool) → not going ≡ true → going ≡ false
    by true e = absurd (let f : false ≡ true = e in cc)
    by false e = refl

module _ (sent : List PlainFrame) (come unheard : List (List ℕ)) (mux : Mux) (frame : Option PlainFrame) (answer : List ℕ) where
  abbrev At : Sums → Client → Type 0
  At sums client = Coupled client.mux sent come unheard mux frame client.rest answer sums

  abbrev Still : Sums → Stepped → Type 0
  Still sums s = Coupled s.client.mux (sent ++ frames_of s.step) come unheard mux frame s.client.rest answer sums

  -- so many octets more are to be sent, if all was taken before
  abbrev pub After : Type 0 → Sums → List ℕ → Stepped → Type 0
  After Quiet sums more s = (asked : List ℕ) × Still (record sums { asked = asked }) s × (Quiet → asked ≡ sums.asked ++ more)

  -- nothing is sent
  pub rests_after : (sums : Sums) (own : Mux) (rest : List ℕ) → Coupled own sent come unheard mux frame rest answer sums → Coupled own (sent ++ []) come unheard mux frame rest answer sums
  rests_after sums own rest c = subst (λ (fs : List PlainFrame). Coupled own fs come unheard mux frame rest answer sums) (sym (append-nil sent)) c

  module _ (Quiet : Type 0) (sums : Sums) where
    none_more : (s : Stepped) → Still sums s → After Quiet sums [] s
    none_more s c = (sums.asked, c, λ quiet. sym (append-nil sums.asked))

    fills : (client : Client) → At sums client → At sums (filled client)
    fills client c = by (is_ready client.mux && not (is_empty client.rest)) refl
      where
        by : (test : Bool) → (is_ready client.mux && not (is_empty client.rest)) ≡ test → At sums (if test then record client { mux = sends client.rest client.mux; rest = drop (taken_count (length client.rest) client.mux) client.rest } else client)
        by true is = client_gives client.mux sent come unheard mux client.rest answer sums frame (both_true (is_ready client.mux) (not (is_empty client.rest)) is).0 c
        by false is = c

    said_after : (said : Option Said) (client : Client) (parts : List Part) → next client.mux ≡ said → At sums client → Still sums (said_by said client parts)
    said_after None client parts is c = rests_after sums client.mux client.rest c
    said_after (Some said) client parts is c = client_says client.mux sent come unheard mux client.rest answer sums frame (Some said) is c

    says_after : (client : Client) (parts : List Part) → At sums client → Still sums (says client parts)
    says_after client parts c = let full = filled client in said_after (next full.mux) full parts refl (fills client c)

  module _ (Quiet : Type 0) (sums : Sums) where
    -- a request is made of the client, with the octets that it has to send
    sent_after : (outcome : Result (Unit {0}) PortFault) (request : Made) → request.outcome ≡ outcome → Rested request → (asked : List ℕ) → (Quiet → asked ≡ sums.asked ++ request.client.rest) → At (record sums { asked = asked }) request.client
        → After Quiet sums (joined (packet_of outcome request)) (sends_muxed outcome request)
    sent_after (Ok done) request is rested asked more c = (asked, says_after Quiet (record sums { asked = asked }) request.client request.left c, λ quiet. more quiet ∙ ap (λ (xs : List ℕ). sums.asked ++ xs) (sym (append-nil request.client.rest)))
    sent_after (Err fault) request is rested asked more c = (asked, rests_after (record sums { asked = asked }) request.client.mux request.client.rest c, λ quiet. more quiet ∙ ap (λ (xs : List ℕ). sums.asked ++ xs) (rested fault is))

    through_if : (takes : Bool) (ask : Ask) (client : Client) (parts : List Part) → (Quiet → client.rest ≡ []) → At sums client
        → (let request = requests ask (record client { rest = [] }) parts in After Quiet sums (joined (if takes then packet_of request.outcome request else [])) (if takes then sends_muxed request.outcome request else rests client parts))
    through_if false ask client parts quiet c = none_more Quiet sums (rests client parts) (rests_after sums client.mux client.rest c)
    through_if true ask client parts quiet c =
        let request = requests ask (record client { rest = [] }) parts in
        let next = client_asks client.mux sent come unheard mux frame client.rest request.client.rest answer sums c in
        sent_after request.outcome request refl (requests_rested ask (record client { rest = [] }) parts refl) next.0 (λ q. next.2 (quiet q))
        (subst (λ (m : Mux). Coupled m sent come unheard mux frame request.client.rest answer (record sums { asked = next.0 })) (sym (requests_same client.mux ask (record client { rest = [] }) parts refl)) next.1)

    closes_after : (client : Client) (parts : List Part) → At sums client → After Quiet sums [] (asks_muxed Close client parts)
    closes_after client parts c =
        let left : Client = record client { mux = leaves client.mux; contact = Closing } in
        none_more Quiet sums (says left parts) (says_after Quiet sums left parts (client_leaves client.mux sent come unheard mux client.rest answer sums frame c))

    -- the request is asked for where the multiplexer takes some of it
    muxed_after : (ask : Ask) (takes : Bool) (client : Client) (parts : List Part) → takes_some client.mux ≡ takes → (Quiet → client.rest ≡ []) → At sums client
        → After Quiet sums (joined (if takes then packet_asked ask (record client { rest = [] }) parts else [])) (asks_muxed ask client parts)
    muxed_after Close true client parts is quiet c = closes_after client parts c
    muxed_after Close false client parts is quiet c = closes_after client parts c
    muxed_after Nothing true client parts is quiet c = none_more Quiet sums (rests client parts) (rests_after sums client.mux client.rest c)
    muxed_after Nothing false client parts is quiet c = none_more Quiet sums (rests client parts) (rests_after sums client.mux client.rest c)
    muxed_after Connect takes client parts is quiet c =
        subst (λ (b : Bool). After Quiet sums (joined (if takes then packet_asked Connect (record client { rest = [] }) parts else [])) (if b then (let request = requests Connect (record client { rest = [] }) parts in sends_muxed request.outcome request) else rests client parts)) (sym is) (through_if takes Connect client parts quiet c)
    muxed_after Put takes client parts is quiet c =
        subst (λ (b : Bool). After Quiet sums (joined (if takes then packet_asked Put (record client { rest = [] }) parts else [])) (if b then (let request = requests Put (record client { rest = [] }) parts in sends_muxed request.outcome request) else rests client parts)) (sym is) (through_if takes Put client parts quiet c)
    muxed_after Abort takes client parts is quiet c =
        subst (λ (b : Bool). After Quiet sums (joined (if takes then packet_asked Abort (record client { rest = [] }) parts else [])) (if b then (let request = requests Abort (record client { rest = [] }) parts in sends_muxed request.outcome request) else rests client parts)) (sym is) (through_if takes Abort client parts quiet c)
    muxed_after Disconnect takes client parts is quiet c =
        subst (λ (b : Bool). After Quiet sums (joined (if takes then packet_asked Disconnect (record client { rest = [] }) parts else [])) (if b then (let request = requests Disconnect (record client { rest = [] }) parts in sends_muxed request.outcome request) else rests client parts)) (sym is) (through_if takes Disconnect client parts quiet c)

    asks_after : (may : Bool) (client : Client) (parts : List Part) → may_ask client ≡ may → (Quiet → IsQuiet client) → At sums client
        → After Quiet sums (joined (if may && takes_some client.mux then packet_asked (next_ask client) (record client { rest = [] }) parts else [])) (if may then asks_muxed (next_ask client) client parts else rests client parts)
    asks_after true client parts is quiet c = muxed_after (next_ask client) (takes_some client.mux) client parts refl (λ q. quiet q (may_asks client is)) c
    asks_after false client parts is quiet c = none_more Quiet sums (rests client parts) (rests_after sums client.mux client.rest c)

    goes_after : (said : Option Said) (client : Client) (parts : List Part) → next client.mux ≡ said → (Quiet → IsQuiet client) → At sums client → After Quiet sums (joined (packets_behind said client parts)) (goes_muxed said client parts)
    goes_after None client parts is quiet c = let calm : Client = record client { frame = None } in asks_after (may_ask calm) calm parts refl quiet c
    goes_after (Some said) client parts is quiet c = none_more Quiet sums (said_by (Some said) client parts) (said_after Quiet sums (Some said) client parts is c)

    filled_quiet : (client : Client) → IsQuiet client → IsQuiet (filled client)
    filled_quiet client quiet =
        by (is_ready client.mux && not (is_empty client.rest))
      where
        by : (test : Bool) → IsQuiet (if test then record client { mux = sends client.rest client.mux; rest = drop (taken_count (length client.rest) client.mux) client.rest } else client)
        by true = λ still. ap (drop (taken_count (length client.rest) client.mux)) (quiet still) ∙ drop-nil (taken_count (length client.rest) client.mux)
        by false = quiet

    pub steps_after : (client : Client) (parts : List Part) → (Quiet → IsQuiet client) → At sums client → After Quiet sums (joined (packets_muxed client parts)) (steps_muxed client parts)
    steps_after client parts quiet c = let full = filled client in goes_after (next full.mux) full parts refl (λ q. filled_quiet client (quiet q)) (fills Quiet sums client c)
