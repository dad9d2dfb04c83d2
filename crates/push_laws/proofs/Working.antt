-- What a client on the channel of its object or behind it keeps of its work: what it holds, and what is left to be sent.
use Rattle.std.proofs.Common.{Bool, true, false, ◌≡◌, ◌==◌, ℕ, zero, suc, ◌&&◌, ◌||◌, List, [], ◌∷◌, length, drop, Option, Some, None, Result, Ok, Err, refl, sym, ap, subst, ◌∙◌, if◌then◌else◌}
use Rattle.std.specs.Prelude.{not}
use Rattle.std.proofs.Math.Seq.{drop-nil}
use Rattle.link_talk.specs.bt_base.specs.declared.ports.PortFault.{PortFault}
use Rattle.link_talk.specs.bt_base.specs.declared.ports.PortFault.TheVariants as fault
use Rattle.link_talk.specs.bt_base.specs.declared.settings.Transport.{Transport}
use Rattle.link_talk.specs.bt_base.specs.declared.settings.Transport.TheVariants.{L2cap, Rfcomm}
use Rattle.link_talk.specs.push_terms.specs.declared.outcome.Outcome.{Outcome}
use Rattle.link_talk.specs.push_terms.specs.declared.outcome.Outcome.TheVariants as outcomes
use Rattle.push_model.specs.rfcomm_frames.specs.FrameReading.{is_empty}
use Rattle.push_model.specs.rfcomm_frames.specs.Frames.{PlainFrame}
use Rattle.push_model.specs.rfcomm_model.specs.Machine.{Mux, is_ready, sends, leaves, taken_count}
use Rattle.push_model.specs.rfcomm_model.specs.Saying.{Said, next}
use Rattle.push_model.specs.obex_session.specs.Asking as asking
use Rattle.push_model.specs.obex_session.specs.declared.client.Answered.{Answered}
use Rattle.push_model.specs.obex_session.specs.declared.client.Answered.TheVariants as answer
use Rattle.push_model.specs.obex_session.specs.Views.{answer_at, after_at}
use Rattle.push_model.specs.sdp_client.specs.Asking.{is_due, after_resend}
use Rattle.push_model.specs.declared.closing.CloseCause.{CloseCause}
use Rattle.push_model.specs.declared.course.Contact.{Contact}
use Rattle.push_model.specs.declared.course.Contact.TheVariants.{Unmet, Met, Left, Closing}
use Rattle.push_model.specs.declared.course.Point.TheVariants.{Due, Asked}
use Rattle.push_model.specs.declared.course.Stage.{Stage}
use Rattle.push_model.specs.declared.course.Stage.TheVariants.{Rest, Link, SearchChannel, Search, SearchEnd, Features, ObjectChannel, Object, ObjectEnd, LinkEnd, Over}
use Rattle.push_model.specs.Causes.{cause_of_link, cause_of_page, cause_of_close, cause_of_obex, unawaited_response, unknown_parameters}
use Rattle.push_model.specs.Client.{Client, ends, ends_by, ends_if, may_cancel, is_direct}
use Rattle.push_model.specs.Events as events
use Rattle.push_model.specs.Laws as deeds
use Rattle.push_model.specs.Laws.{Deed, Hears, Asks, Finishes, Cancels}
use Rattle.push_model.specs.Responding.{takes, hears_answer, hears_response, is_object, hears_front, hears_stream, is_success, is_early}
use Rattle.push_model.specs.Steps as steps
use Rattle.push_model.specs.Steps.{Part, Stepped, Made, Ask, Connect, Put, Abort, Disconnect, Close, Nothing, put_count, puts_part, puts_from, puts, leaves_by, failing, puts_or_leaves, requests, filled, said_by, says, sends_muxed, takes_some, asks_muxed, goes_muxed, steps_muxed, steps_at, steps_object, tells_end, rests, may_ask, next_ask}
use Rattle.push_model.specs.Streams.{Front, Whole, Partial, Broken, front_of}
use Rattle.push_laws.proofs.Driving.{IsQuiet}
use Rattle.push_laws.proofs.Late.{IsLate, by_late, either}
use Rattle.push_laws.proofs.Sending.{at_talk}
use Rattle.push_laws.proofs.Talks.{Talk, Kept, object_of, hears_by, news_keeps}

-- ---- news that are no SDU on its channel

-- the session, what is held, what is left to be sent, and whether it met its server; and a cause stays
abbrev pub Same : Client → Client → Type 0
Same client after =
    (after.session ≡ client.session) × (after.held ≡ client.held) × (after.going ≡ client.going) × (after.rest ≡ client.rest) × (after.contact ≡ client.contact) × (after.cause ≡ None → client.cause ≡ None)

pub same : (client : Client) → Same client client
same client = (refl, refl, refl, refl, refl, λ e. e)

pub some_cause : {A : Type 0} (o : Outcome) → Some o ≡ None → A
some_cause o e = absurd cc

module _ (client : Client) where
  by_same : (cause : Option Outcome) (o : Outcome) (c : Client) → Same client c → Same client (ends_by cause o c)
  by_same None o c s = (s.0, s.1, s.2, s.3, s.4, λ e. some_cause o e)
  by_same (Some earlier) o c s = s

  pub ends_same : (o : Outcome) (c : Client) → Same client c → Same client (ends o c)
  ends_same o c s = by_same c.cause o c s

  if_same : (found : Option Outcome) (c : Client) → Same client c → Same client (ends_if found c)
  if_same None c s = s
  if_same (Some o) c s = ends_same o c s

  over_same : (cause : Option Outcome) (o : Outcome) (c : Client) → Same client c → Same client (events.over_by cause o c)
  over_same None o c s = (s.0, s.1, s.2, s.3, s.4, λ e. some_cause o e)
  over_same (Some earlier) o c s = s

  closed_same : (at : ℕ) (cause : CloseCause) (stage : Stage) → IsLate stage → Same client (events.closed_at stage at cause client)
  closed_same at cause =
      by_late (λ st. Same client (events.closed_at st at cause client)) (either (Same client) (at == client.psm) (ends_if (cause_of_close cause) client) client (if_same (cause_of_close cause) client (same client)) (same client))
      (λ point. either (Same client) (at == client.psm) (record client { stage = LinkEnd Due }) client (same client) (same client)) (λ point. same client) (same client) (same client)

  fires_same : Same client (events.fires client)
  fires_same =
      let fired : Client = record client { query = after_resend client.query } in
      either (Same client) (events.armed client && not (client.given || is_due client.query)) (if client.left == 0 then ends outcomes.RetryLimit client else fired) client
      (either (Same client) (client.left == 0) (ends outcomes.RetryLimit client) fired (ends_same outcomes.RetryLimit client (same client)) (same client)) (same client)

  outside_same : (t : Transport) → Same client (events.hears_outside t client)
  outside_same L2cap = ends_same unawaited_response client (same client)
  outside_same Rfcomm = same client

  either_off : (test : Bool) (b c : Client) → test ≡ false → Same client c → Same client (if test then b else c)
  either_off true b c off s = absurd (let f : true ≡ false = off in cc)
  either_off false b c off s = s

  sdu_same : (at : ℕ) (sdu : List ℕ) (stage : Stage) → IsLate stage → (is_object stage && (at == client.psm)) ≡ false → Same client (events.sdu_at stage at sdu client)
  sdu_same at sdu =
      by_late (λ st. (is_object st && (at == client.psm)) ≡ false → Same client (events.sdu_at st at sdu client)) (λ off. either_off (at == client.psm) (events.hears_object client.transport sdu client) client off (same client))
      (λ point off. either (Same client) (at == client.psm) (events.hears_outside client.transport client) client (outside_same client.transport) (same client)) (λ point off. same client) (λ off. same client) (λ off. same client)

  -- an SDU on the channel is another matter
  pub news_same : (news : events.News) → IsLate client.stage → ((at : ℕ) (sdu : List ℕ) → news ≡ events.Sdu at sdu → (is_object client.stage && (at == client.psm)) ≡ false) → Same client (events.hears_news news client)
  news_same events.LinkUp late off = by_late (λ st. Same client (events.linked_at st client)) (same client) (λ point. same client) (λ point. same client) (same client) (same client) client.stage late
  news_same (events.LinkDown reason) late off = either (Same client) (events.is_linked client.stage) (events.over (cause_of_link reason) client) client (over_same client.cause (cause_of_link reason) client (same client)) (same client)
  news_same (events.LinkFailed status) late off = either (Same client) (events.is_paging client.stage) (events.over (cause_of_page status) client) client (over_same client.cause (cause_of_page status) client (same client)) (same client)
  news_same (events.ChannelOpen at mtu) late off = by_late (λ st. Same client (events.opened_at st at mtu client)) (same client) (λ point. same client) (λ point. same client) (same client) (same client) client.stage late
  news_same (events.ChannelClosed at cause) late off = closed_same at cause client.stage late
  news_same (events.Sdu at sdu) late off = sdu_same at sdu client.stage late (off at sdu refl)
  news_same events.FeaturesTold late off =
      by_late (λ st. Same client (if events.is_asking_features st then record client { stage = ObjectChannel Due } else client)) (same client) (λ point. same client) (λ point. same client) (same client) (same client) client.stage late
  news_same events.FeaturesLost late off = either (Same client) (events.is_asking_features client.stage) (ends outcomes.RetryLimit client) client (ends_same outcomes.RetryLimit client (same client)) (same client)
  news_same events.Timer late off = fires_same

  pub cancels_same : Same client (if may_cancel client then ends outcomes.Cancelled client else client)
  cancels_same = either (Same client) (may_cancel client) (ends outcomes.Cancelled client) client (ends_same outcomes.Cancelled client (same client)) (same client)

-- ---- what comes up of an SDU leaves what is to be sent

abbrev Work : Bool → List ℕ → Client → Type 0
Work going rest client = (client.going ≡ going) × (client.rest ≡ rest)

module _ (going : Bool) (rest : List ℕ) where
  abbrev W : Client → Type 0
  W client = Work going rest client

  by_work : (cause : Option Outcome) (o : Outcome) (client : Client) → W client → W (ends_by cause o client)
  by_work None o client w = w
  by_work (Some earlier) o client w = w

  ends_work : (o : Outcome) (client : Client) → W client → W (ends o client)
  ends_work o client w = by_work client.cause o client w

  takes_work : (answered : Answered) (client : Client) → W client → W (takes answered client)
  takes_work answer.Go client w = w
  takes_work answer.Done client w = ends_work outcomes.Done client w
  takes_work (answer.Refused code) client w = ends_work (outcomes.Refused code) client w
  takes_work (answer.Bad refusal) client w = ends_work (cause_of_obex refusal) client w
  takes_work answer.Srmp client w = ends_work unknown_parameters client w

  answer_work : (answered : Option Answered) (packet : List ℕ) (client : Client) → W client → W (hears_answer answered packet client)
  answer_work None packet client w = ends_work unawaited_response client w
  answer_work (Some answered) packet client w =
      let heard : Client = record client { session = after_at client.session.awaited client.session packet } in
      either W (is_success answered && is_early client) (ends unawaited_response heard) (takes answered heard) (ends_work unawaited_response heard w) (takes_work answered heard w)

  front_work : (more : List ℕ → Client → Client) → ((left : List ℕ) (client : Client) → W client → W (more left client)) → (stream : List ℕ) (front : Front) (client : Client) → W client → W (hears_front more stream front client)
  front_work more keeps stream (Whole packet left) client w =
      let heard = hears_response packet (record client { held = [] }) in
      let kept : W heard = answer_work (answer_at client.session.awaited client.session packet) packet (record client { held = [] }) w in
      either W (is_object heard.stage) (more left heard) heard (keeps left heard kept) kept
  front_work more keeps stream Partial client w = w
  front_work more keeps stream (Broken refusal) client w = ends_work (cause_of_obex refusal) (record client { held = [] }) w

  pub stream_work : (count : ℕ) (stream : List ℕ) (client : Client) → W client → W (hears_stream count stream client)
  unfolding hears_stream
  stream_work zero stream client w = w
  stream_work (suc count) stream client w = front_work (λ left next. hears_stream count left next) (λ left next. stream_work count left next) stream (front_of client.session.maximum stream) client w

-- ---- one step over RFCOMM

pub unmet : {A : Type 0} → Unmet ≡ Met → A
unmet e = absurd cc

pub left_unmet : {A : Type 0} → Left ≡ Met → A
left_unmet e = absurd cc

pub closing_unmet : {A : Type 0} → Closing ≡ Met → A
closing_unmet e = absurd cc

-- what is kept by all that a step does
record Steady (Q : Client → Type 0) : Type 0 where
  sets : (frame : Option PlainFrame) (c : Client) → Q c → Q (record c { frame = frame })
  clears : (c : Client) → Q c → Q (record c { rest = [] })
  takes_off : (c : Client) → Q c → Q (record c { mux = sends c.rest c.mux; rest = drop (taken_count (length c.rest) c.mux) c.rest })
  tells : (mux : Mux) (frame : Option PlainFrame) (c : Client) → Q c → Q (record c { mux = mux; frame = frame; given = true })
  closes : (mux : Mux) (c : Client) → Q c → Q (record c { mux = mux; contact = Closing })
  makes : (session : asking.Asking) (contact : Contact) (octets : List ℕ) (c : Client) → (contact ≡ Met → c.contact ≡ Met) → Q c → Q (record c { session = session; contact = contact; going = true; rest = octets })
  ending : (cause : Option Outcome) (o : Outcome) (c : Client) → Q c → Q (ends_by cause o c)
  lacking : (c : Client) → Q c → Q (record c { failed = true })

module _ (Q : Client → Type 0) (k : Steady Q) where
  said_keeps : (said : Option Said) (client : Client) (parts : List Part) → Q client → Q (said_by said client parts).client
  said_keeps None client parts q = k.sets None client q
  said_keeps (Some said) client parts q = k.tells said.after (Some said.frame) client q

  fills : (client : Client) → Q client → Q (filled client)
  fills client q = either Q (is_ready client.mux && not (is_empty client.rest)) (record client { mux = sends client.rest client.mux; rest = drop (taken_count (length client.rest) client.mux) client.rest }) client (k.takes_off client q) q

  says_keeps : (client : Client) (parts : List Part) → Q client → Q (says client parts).client
  says_keeps client parts q = let full = filled client in said_keeps (next full.mux) full parts (fills client q)

  made_either : (test : Bool) (a b : Made) → Q a.client → Q b.client → Q (if test then a else b).client
  made_either true a b x y = x
  made_either false a b x y = y

  part_keeps : (part : Part) (client : Client) (parts : List Part) → Q client → Q (puts_part part client parts).client
  part_keeps (Ok part) client parts q = k.makes _ client.contact _ client (λ e. e) q
  part_keeps (Err fault) client parts q = q

  from_keeps : (parts : List Part) (client : Client) → Q client → Q (puts_from parts client).client
  from_keeps [] client q = q
  from_keeps (part ∷ parts) client q = part_keeps part client parts q

  leaves_keeps : (ask : Ask) (client : Client) (parts : List Part) → Q client → Q (leaves_by ask client parts).client
  leaves_keeps Connect client parts q = k.makes _ _ _ client left_unmet q
  leaves_keeps Put client parts q = k.makes _ _ _ client left_unmet q
  leaves_keeps Abort client parts q = k.makes _ _ _ client (λ e. e) q
  leaves_keeps Disconnect client parts q = k.makes _ _ _ client left_unmet q
  leaves_keeps Close client parts q = k.makes _ _ _ client left_unmet q
  leaves_keeps Nothing client parts q = k.makes _ _ _ client left_unmet q

  or_leaves_keeps : (outcome : Result (Unit {0}) PortFault) (put : Made) → Q put.client → Q (puts_or_leaves outcome put).client
  or_leaves_keeps (Ok done) put q = q
  or_leaves_keeps (Err fault.Failed) put q = let ended = ends outcomes.ShelfFault put.client in leaves_keeps (next_ask ended) ended put.left (k.ending put.client.cause outcomes.ShelfFault put.client q)
  or_leaves_keeps (Err fault.NoMemory) put q = q

  requests_keeps : (ask : Ask) (client : Client) (parts : List Part) → Q client → Q (requests ask client parts).client
  requests_keeps Connect client parts q = k.makes _ _ _ client unmet q
  requests_keeps Put client parts q =
      or_leaves_keeps (puts client parts).outcome (puts client parts) (made_either (put_count client == 0) (puts_part (Ok []) client parts) (puts_from parts client) (part_keeps (Ok []) client parts q) (from_keeps parts client q))
  requests_keeps Abort client parts q = k.makes _ _ _ client (λ e. e) q
  requests_keeps Disconnect client parts q = k.makes _ _ _ client left_unmet q
  requests_keeps Close client parts q = k.makes _ _ _ client left_unmet q
  requests_keeps Nothing client parts q = k.makes _ _ _ client left_unmet q

  sent_keeps : (outcome : Result (Unit {0}) PortFault) (request : Made) → Q request.client → Q (sends_muxed outcome request).client
  sent_keeps (Ok done) request q = says_keeps request.client request.left q
  sent_keeps (Err fault) request q = k.lacking request.client q

  step_either : (test : Bool) (a b : Stepped) → Q a.client → Q b.client → Q (if test then a else b).client
  step_either true a b x y = x
  step_either false a b x y = y

  through_keeps : (ask : Ask) (client : Client) (parts : List Part) → Q client → Q (steps.asks_through ask client parts).client
  through_keeps ask client parts q =
      let request = requests ask (record client { rest = [] }) parts in
      step_either (takes_some client.mux) (sends_muxed request.outcome request) (rests client parts) (sent_keeps request.outcome request (requests_keeps ask (record client { rest = [] }) parts (k.clears client q))) q

  muxed_keeps : (ask : Ask) (client : Client) (parts : List Part) → Q client → Q (asks_muxed ask client parts).client
  muxed_keeps Close client parts q = says_keeps (record client { mux = leaves client.mux; contact = Closing }) parts (k.closes (leaves client.mux) client q)
  muxed_keeps Nothing client parts q = q
  muxed_keeps Connect client parts q = through_keeps Connect client parts q
  muxed_keeps Put client parts q = through_keeps Put client parts q
  muxed_keeps Abort client parts q = through_keeps Abort client parts q
  muxed_keeps Disconnect client parts q = through_keeps Disconnect client parts q

  goes_keeps : (said : Option Said) (client : Client) (parts : List Part) → Q client → Q (goes_muxed said client parts).client
  goes_keeps None client parts q =
      let quiet : Client = record client { frame = None } in
      step_either (may_ask quiet) (asks_muxed (next_ask quiet) quiet parts) (rests quiet parts) (muxed_keeps (next_ask quiet) quiet parts (k.sets None client q)) (k.sets None client q)
  goes_keeps (Some said) client parts q = said_keeps (Some said) client parts q

  steps_keep : (client : Client) (parts : List Part) → Q client → Q (steps_muxed client parts).client
  steps_keep client parts q = let full = filled client in goes_keeps (next full.mux) full parts (fills client q)

never : {A : Type 0} → true ≡ false → A
never e = cc

held_steady : (held : List ℕ) → Steady (λ c. c.held ≡ held)
held_steady held = record {
  sets = λ frame c q. q;
  clears = λ c q. q;
  takes_off = λ c q. q;
  tells = λ mux frame c q. q;
  closes = λ mux c q. q;
  makes = λ session contact octets c met q. q;
  ending = λ cause o c q. by_held cause o c q;
  lacking = λ c q. q;
}
  where
    by_held : (cause : Option Outcome) (o : Outcome) (c : Client) → c.held ≡ held → (ends_by cause o c).held ≡ held
    by_held None o c q = q
    by_held (Some earlier) o c q = q

quiet_steady : Steady IsQuiet
quiet_steady = record {
  sets = λ frame c q. q;
  clears = λ c q still. refl;
  takes_off = λ c q still. ap (drop (taken_count (length c.rest) c.mux)) (q still) ∙ drop-nil (taken_count (length c.rest) c.mux);
  tells = λ mux frame c q. q;
  closes = λ mux c q. q;
  makes = λ session contact octets c met q still. never still;
  ending = λ cause o c q. by_quiet cause o c q;
  lacking = λ c q. q;
}
  where
    by_quiet : (cause : Option Outcome) (o : Outcome) (c : Client) → IsQuiet c → IsQuiet (ends_by cause o c)
    by_quiet None o c q = q
    by_quiet (Some earlier) o c q = q

-- it met its server, and no cause is known
abbrev pub IsMet : Client → Type 0
IsMet client = (client.contact ≡ Met) × (client.cause ≡ None)

met_steady : (X : Type 0) → Steady (λ c. IsMet c → X)
met_steady X = record {
  sets = λ frame c q. q;
  clears = λ c q. q;
  takes_off = λ c q. q;
  tells = λ mux frame c q. q;
  closes = λ mux c q m. closing_unmet m.0;
  makes = λ session contact octets c met q m. q (met m.0, m.1);
  ending = λ cause o c q. by_met cause o c q;
  lacking = λ c q. q;
}
  where
    by_met : (cause : Option Outcome) (o : Outcome) (c : Client) → (IsMet c → X) → IsMet (ends_by cause o c) → X
    by_met None o c q m = some_cause o m.1
    by_met (Some earlier) o c q m = q m

-- what it holds stays, all that is left belongs to a request that goes on, and where it met its server it did before
abbrev pub Keeps : Client → Client → Type 0
Keeps client after = (after.held ≡ client.held) × (IsQuiet client → IsQuiet after) × (IsMet after → IsMet client)

keeps_either : (client : Client) (test : Bool) (a b : Stepped) → Keeps client a.client → Keeps client b.client → Keeps client (if test then a else b).client
keeps_either client true a b x y = x
keeps_either client false a b x y = y

still : (client : Client) → Keeps client client
still client = (refl, (λ q. q), λ m. m)

tells_keeps : (cause : Option Outcome) (client : Client) (parts : List Part) → Keeps client (tells_end cause client parts).client
tells_keeps None client parts = still client
tells_keeps (Some outcome) client parts = (refl, (λ q. q), λ m. m)

object_keeps : (t : Transport) (client : Client) (parts : List Part) → t ≡ Rfcomm → Keeps client (steps_object t client parts).client
object_keeps L2cap client parts is = absurd (let f : L2cap ≡ Rfcomm = is in cc)
object_keeps Rfcomm client parts is = (
  steps_keep (λ c. c.held ≡ client.held) (held_steady client.held) client parts refl,
  (λ q. steps_keep IsQuiet quiet_steady client parts q),
  steps_keep (λ c. IsMet c → IsMet client) (met_steady (IsMet client)) client parts (λ m. m),
)

at_keeps : (client : Client) (parts : List Part) → client.transport ≡ Rfcomm → (stage : Stage) → IsLate stage → Keeps client (steps_at stage client parts).client
at_keeps client parts t Object late = object_keeps client.transport client parts t
at_keeps client parts t (ObjectEnd Due) late = (refl, (λ q. q), λ m. m)
at_keeps client parts t (ObjectEnd Asked) late = still client
at_keeps client parts t (LinkEnd Due) late = (refl, (λ q. q), λ m. m)
at_keeps client parts t (LinkEnd Asked) late = still client
at_keeps client parts t Over late = tells_keeps client.cause client parts
at_keeps client parts t Rest late = still client
at_keeps client parts t (Link point) late = absurd late
at_keeps client parts t (SearchChannel point) late = absurd late
at_keeps client parts t Search late = absurd late
at_keeps client parts t (SearchEnd point) late = absurd late
at_keeps client parts t (Features point) late = absurd late
at_keeps client parts t (ObjectChannel point) late = absurd late

pub asks_keeps : (client : Client) (parts : List Part) → client.transport ≡ Rfcomm → IsLate client.stage → Keeps client (deeds.done (Asks parts) client)
asks_keeps client parts t late =
    keeps_either client client.failed (record { client = client; step = steps.NoMemory; left = parts }) (if client.given then rests client parts else steps_at client.stage client parts) (still client)
    (keeps_either client client.given (rests client parts) (steps_at client.stage client parts) (still client) (at_keeps client parts t client.stage late))

-- a step that was done
empty_is : (xs : List ℕ) → is_empty xs ≡ true → xs ≡ []
empty_is [] e = refl
empty_is (x ∷ xs) e = absurd (let f : false ≡ true = e in cc)

pub finished_quiet : (client : Client) → client.transport ≡ Rfcomm → is_object client.stage ≡ true → IsQuiet client → IsQuiet (deeds.done Finishes client)
finished_quiet client t here quiet free =
    let muxed : steps.is_muxed client ≡ true = ap (λ (b : Bool). b && not (is_direct client.transport)) here ∙ ap (λ (x : Transport). not (is_direct x)) t in
    ap (λ (b : Bool). if b then client.rest else []) muxed
    ∙ by client.going (is_empty client.rest) (is_empty client.mux.waiting) refl refl (sym (ap (λ (b : Bool). b && (client.going && (not (is_empty client.rest) || not (is_empty client.mux.waiting)))) muxed) ∙ free)
  where
    by : (going none waiting : Bool) → client.going ≡ going → is_empty client.rest ≡ none → (going && (not none || not waiting)) ≡ false → client.rest ≡ []
    by false none waiting g n e = quiet g
    by true true waiting g n e = empty_is client.rest n
    by true false waiting g n e = never e

-- its transport stays
transport_steady : (t : Transport) → Steady (λ c. c.transport ≡ t)
transport_steady t = record {
  sets = λ frame c q. q;
  clears = λ c q. q;
  takes_off = λ c q. q;
  tells = λ mux frame c q. q;
  closes = λ mux c q. q;
  makes = λ session contact octets c met q. q;
  ending = λ cause o c q. by_transport cause o c q;
  lacking = λ c q. q;
}
  where
    by_transport : (cause : Option Outcome) (o : Outcome) (c : Client) → c.transport ≡ t → (ends_by cause o c).transport ≡ t
    by_transport None o c q = q
    by_transport (Some earlier) o c q = q

object_transport : (t : Transport) (client : Client) (parts : List Part) → t ≡ Rfcomm → client.transport ≡ Rfcomm → (steps_object t client parts).client.transport ≡ Rfcomm
object_transport L2cap client parts is q = absurd (let f : L2cap ≡ Rfcomm = is in cc)
object_transport Rfcomm client parts is q = steps_keep (λ c. c.transport ≡ Rfcomm) (transport_steady Rfcomm) client parts q

at_transport : (object : Bool) (client : Client) (parts : List Part) → is_object client.stage ≡ object → client.transport ≡ Rfcomm → (steps_at client.stage client parts).client.transport ≡ Rfcomm
at_transport true client parts is q = subst (λ (st : Stage). (steps_at st client parts).client.transport ≡ Rfcomm) (sym (object_of client.stage is)) (object_transport client.transport client parts q q)
at_transport false client parts is q = at_talk (λ (t : Talk). t.transport ≡ Rfcomm) client.stage client parts is q

transport_either : (test : Bool) (a b : Stepped) → a.client.transport ≡ Rfcomm → b.client.transport ≡ Rfcomm → (if test then a else b).client.transport ≡ Rfcomm
transport_either true a b x y = x
transport_either false a b x y = y

abbrev IsMuxed : Talk → Type 0
IsMuxed t = t.transport ≡ Rfcomm

muxed_kept : Kept IsMuxed
muxed_kept = record {
  unheard = record { ends = λ outcome t free none p. p; opens = λ limit t least most p. p };
  hears = λ response client p. hears_by IsMuxed (λ o t x. x) (λ contact t x. x) response client p p;
}

pub transport_stays : (deed : Deed) (client : Client) → client.transport ≡ Rfcomm → (deeds.done deed client).transport ≡ Rfcomm
transport_stays (Hears news) client q = news_keeps IsMuxed muxed_kept news client q
transport_stays (Asks parts) client q =
    transport_either client.failed (record { client = client; step = steps.NoMemory; left = parts }) (if client.given then rests client parts else steps_at client.stage client parts) q
    (transport_either client.given (rests client parts) (steps_at client.stage client parts) q (at_transport (is_object client.stage) client parts refl q))
transport_stays Finishes client q = q
transport_stays Cancels client q = either (λ (c : Client). c.transport ≡ Rfcomm) (may_cancel client) (ends outcomes.Cancelled client) client (by client.cause) q
  where
    by : (cause : Option Outcome) → (ends_by cause outcomes.Cancelled client).transport ≡ Rfcomm
    by None = q
    by (Some earlier) = q
