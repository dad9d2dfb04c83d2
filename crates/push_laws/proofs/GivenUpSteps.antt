-- What a client sends of a push that may be given up: ABORT exactly where it gives up an object that it put in part.
use Rattle.std.proofs.Common.{◌≡◌, ℕ, ◌-◌, ◌++◌, inl, inr, ◌&&◌, ◌||◌, ◌==◌, not, Bool, true, false, List, [], ◌∷◌, length, drop, Option, Some, None, is_some, is_none, Result, Ok, Err, refl, sym, ap, subst, ◌∙◌, append_assoc, if◌then◌else◌}
use Rattle.std.proofs.lemmas.Bool.{cond_both, cond-true, cond-false}
use Rattle.link_talk.specs.bt_base.specs.Objects as objects
use Rattle.link_talk.specs.bt_base.specs.declared.ports.PortFault.{PortFault}
use Rattle.link_talk.specs.bt_base.specs.declared.ports.PortFault.TheVariants as fault
use Rattle.link_talk.specs.bt_base.specs.declared.settings.Transport.{Transport}
use Rattle.link_talk.specs.bt_base.specs.declared.settings.Transport.TheVariants.{L2cap, Rfcomm}
use Rattle.link_talk.specs.push_terms.specs.declared.outcome.Outcome.{Outcome}
use Rattle.link_talk.specs.push_terms.specs.declared.outcome.Outcome.TheVariants as outcomes
use Rattle.push_model.specs.rfcomm_frames.specs.FrameReading.{is_empty}
use Rattle.push_model.specs.rfcomm_model.specs.Machine as mux
use Rattle.push_model.specs.rfcomm_model.specs.Machine.{is_ready, taken_count}
use Rattle.push_model.specs.rfcomm_model.specs.Saying.{Said, next}
use Rattle.push_model.specs.sdp_client.specs.Asking.{is_due, after_request, request_octets}
use Rattle.push_model.specs.obex_session.specs.NextPut.{put_request, is_waiting}
use Rattle.push_model.specs.obex_session.specs.PutPackets.{units_in, head_of, ahead_of}
use Rattle.push_model.specs.obex_session.specs.Views.{is_final_put}
use Rattle.push_model.specs.declared.course.Contact.{Contact}
use Rattle.push_model.specs.declared.course.Contact.TheVariants.{Met, Closing}
use Rattle.push_model.specs.declared.course.Point.TheVariants.{Due, Asked}
use Rattle.push_model.specs.declared.course.Stage.{Stage}
use Rattle.push_model.specs.declared.course.Stage.TheVariants.{Rest, Link, SearchChannel, Search, SearchEnd, Features, ObjectChannel, Object, ObjectEnd, LinkEnd, Over}
use Rattle.push_model.specs.Client.{Client, ends, ends_by, in_order, is_rest, may_cancel, with_object}
use Rattle.push_model.specs.Events.{search_psm}
use Rattle.push_model.specs.Laws.{Deed, Hears, Asks, Finishes, Cancels, done, all_done}
use Rattle.push_model.specs.Payloads.{Octets}
use Rattle.push_model.specs.Responding.{is_object}
use Rattle.push_model.specs.Steps as steps
use Rattle.push_model.specs.Steps.{Part, Stepped, Made, Ask, Connect, Put, Abort, Disconnect, Close, Nothing, asks, next_ask, may_ask, put_count, is_last_put, put_octets, connect_octets, puts_part, puts_from, leaves_by, failing, puts_or_leaves, requests, sends_direct, asks_direct, steps_direct, filled, said_by, says, sends_muxed, takes_some, asks_muxed, goes_muxed, steps_muxed, steps_object, tells_end, steps_at, rests, sends_sdu}
use Rattle.push_model.proofs.CauseLaws.{first_causes_stay}
use Rattle.push_laws.specs.Sending.{packet_of, packet_asked, packets_behind, packets_muxed, packets_through, packets_by, packets_sent, sdus_of, end_of, ArePuts, GivesUp, IsPush, AllAnswer, SendsOnePush}
use Rattle.push_laws.proofs.Asking.{whence, no_wait}
use Rattle.push_laws.proofs.GivenUp.{has, has_more, is_put, is_abort, is_leave, not_both, put_no_abort, put_no_leave, at_once_off, OnlyPuts, fronts_put, wholes_put, put_goes_on, Seen, seen_of, Says, Works, Turn, Quiet, Off, Free, turn_works, says_on, gives_up, quietly, asks_on, aborts_on, leaves_on}
use Rattle.push_laws.proofs.GivenUpNews.{Turns, free_at, news_works}
use Rattle.push_laws.proofs.Pushing.{Task, HasSent, Fixed, Fresh, Stands, sent_of}
use Rattle.push_laws.proofs.Sending.{same_contact, has_ended, still_of, quiet_by, quiet_through, or_left, or_right, or_none, freely, final_stays, deed_stands, all_stand}
use Rattle.push_laws.proofs.Talks.{talk_of, object_of}

module _ (sent : List (List ℕ)) where
  -- these were sent with it
  abbrev Kept : List (List ℕ) → Client → Type 0
  Kept packets client = Says (sent ++ packets) (seen_of client)

  none : (client : Client) → Says sent (seen_of client) → Kept [] client
  none client said = quietly sent (seen_of client) said

  -- the channel of the object is there, and without a cause all that was put is under way, where no response is awaited
  abbrev Ready : Client → Type 0
  Ready client = Says sent (seen_of client) × (is_object client.stage ≡ true) × (client.cause ≡ None → is_waiting client.session.awaited ≡ false → has is_put sent ≡ true → is_some client.session.put ≡ true)

  -- ---- a request

  abbrev Makes : Made → Type 0
  Makes request = Kept (packet_of request.outcome request) request.client

  leaving : (cause : Option Outcome) (place : Option ℕ) (client : Client) (parts : List Part) → client.cause ≡ cause → client.session.put ≡ place → is_some cause ≡ true → is_object client.stage ≡ true → Says sent (seen_of client) → Makes (leaves_by (asks Met cause place) client parts)
  leaving None place client parts is put some here said = absurd (not_both (is_some {T = Outcome} None) some refl)
  leaving (Some o) None client parts is put some here said = leaves_on sent (seen_of client) (record (seen_of client) { put = None }) here refl refl refl (ap is_some is) said put
  leaving (Some o) (Some place) client parts is put some here said = aborts_on sent (seen_of client) (record (seen_of client) { put = None }) here refl refl refl (ap is_some is) said (ap is_some put)

  -- with the fault of the shelf as its first cause
  faulty : (cause : Option Outcome) (client : Client) → client.cause ≡ cause → cause ≡ None → is_waiting client.session.awaited ≡ false → Ready client
      → Says sent (seen_of (ends_by cause outcomes.ShelfFault client)) × (is_object (ends_by cause outcomes.ShelfFault client).stage ≡ true)
  faulty None client is free still r = (gives_up sent outcomes.ShelfFault client refl (inr refl) is (r.2 is still) r.0, ap (λ (stage : Stage). is_object (in_order stage)) (object_of client.stage r.1))
  faulty (Some earlier) client is free still r = absurd (let f : Some earlier ≡ None = free in cc)

  fails : (client : Client) (parts : List Part) → client.contact ≡ Met → client.cause ≡ None → is_waiting client.session.awaited ≡ false → Ready client → Makes (failing client parts)
  fails client parts met free still r =
      let ended = ends outcomes.ShelfFault client in
      let now = faulty client.cause client refl free still r in
      subst (λ (contact : Contact). Makes (leaves_by (asks contact ended.cause ended.session.put) ended parts)) (sym (same_contact client.cause outcomes.ShelfFault client ∙ met))
      (leaving ended.cause ended.session.put ended parts refl refl (has_ended client.cause outcomes.ShelfFault client refl) now.1 now.0)

  part_made : (part : Part) (client : Client) (parts : List Part) → client.contact ≡ Met → client.cause ≡ None → is_waiting client.session.awaited ≡ false → Ready client → Makes (puts_or_leaves (puts_part part client parts).outcome (puts_part part client parts))
  part_made (Ok part) client parts met free still r =
      asks_on sent (put_octets client part) (seen_of client) _ (put_no_abort (is_last_put client) (ahead_of client.session.wanted client.session.put client.name client.size) part) (put_no_leave (is_last_put client) (ahead_of client.session.wanted client.session.put client.name client.size) part) free free r.0
  part_made (Err fault.Failed) client parts met free still r = fails client parts met free still r
  part_made (Err fault.NoMemory) client parts met free still r = none client r.0

  from_made : (client : Client) (parts : List Part) → client.contact ≡ Met → client.cause ≡ None → is_waiting client.session.awaited ≡ false → Ready client → Makes (puts_or_leaves (puts_from parts client).outcome (puts_from parts client))
  from_made client [] met free still r = fails client [] met free still r
  from_made client (part ∷ parts) met free still r = part_made part client parts met free still r

  count_made : (zero : Bool) (client : Client) (parts : List Part) → client.contact ≡ Met → client.cause ≡ None → is_waiting client.session.awaited ≡ false → Ready client
      → Makes (let put = if zero then puts_part (Ok []) client parts else puts_from parts client in puts_or_leaves put.outcome put)
  count_made true client parts met free still r = part_made (Ok []) client parts met free still r
  count_made false client parts met free still r = from_made client parts met free still r

  connect_made : (client : Client) (parts : List Part) → Connect ≡ next_ask client → Ready client → Makes (requests Connect client parts)
  connect_made client parts is r = let when = (whence client.contact client.cause client.session.put).connect (sym is) in asks_on sent (connect_octets client.session) (seen_of client) _ refl refl when.1 when.1 r.0

  put_made : (client : Client) (parts : List Part) → Put ≡ next_ask client → is_waiting client.session.awaited ≡ false → Ready client → Makes (requests Put client parts)
  put_made client parts is still r = let when = (whence client.contact client.cause client.session.put).put (sym is) in count_made (put_count client == 0) client parts when.0 when.1 still r

  abort_made : (client : Client) (parts : List Part) → Abort ≡ next_ask client → Ready client → Makes (requests Abort client parts)
  abort_made client parts is r = let when = (whence client.contact client.cause client.session.put).abort (sym is) in aborts_on sent (seen_of client) (record (seen_of client) { put = None }) r.1 refl refl refl when.1 r.0 when.2

  leave_made : (client : Client) (parts : List Part) → Disconnect ≡ next_ask client → Ready client → Makes (requests Disconnect client parts)
  leave_made client parts is r = let when = (whence client.contact client.cause client.session.put).disconnect (sym is) in leaves_on sent (seen_of client) (record (seen_of client) { put = None }) r.1 refl refl refl when.1 r.0 when.2

  -- ---- over L2CAP

  sent_direct : (outcome : Result (Unit {0}) PortFault) (request : Made) → Kept (packet_of outcome request) request.client → Kept (sdus_of (sends_direct outcome request).step) (sends_direct outcome request).client
  sent_direct (Ok done) request made = made
  sent_direct (Err fault) request made = made

  direct : (ask : Ask) (client : Client) (parts : List Part) → ask ≡ next_ask client → is_waiting client.session.awaited ≡ false → Ready client → Kept (sdus_of (asks_direct ask client parts).step) (asks_direct ask client parts).client
  direct Close client parts is still r =
      let closed : Seen = record (seen_of client) { stage = ObjectEnd Asked } in
      quietly sent closed (says_on sent (seen_of client) closed (λ first e. e) (turn_works sent (seen_of client) closed (Off refl)) r.0)
  direct Nothing client parts is still r = none client r.0
  direct Connect client parts is still r = sent_direct (requests Connect client parts).outcome (requests Connect client parts) (connect_made client parts is r)
  direct Put client parts is still r = sent_direct (requests Put client parts).outcome (requests Put client parts) (put_made client parts is still r)
  direct Abort client parts is still r = sent_direct (requests Abort client parts).outcome (requests Abort client parts) (abort_made client parts is r)
  direct Disconnect client parts is still r = sent_direct (requests Disconnect client parts).outcome (requests Disconnect client parts) (leave_made client parts is r)

  direct_by : (may : Bool) (client : Client) (parts : List Part) → may ≡ may_ask client → Ready client → (let s = (if may then asks_direct (next_ask client) (record client { rest = [] }) parts else rests client parts) in Kept (sdus_of s.step) s.client)
  direct_by true client parts is r = direct (next_ask client) (record client { rest = [] }) parts refl (still_of client.going (is_waiting client.session.awaited) (sym is)) r
  direct_by false client parts is r = none client r.0

  -- ---- over RFCOMM: what the multiplexer takes and says changes nothing of it

  said_seen : (P : Seen → Type 0) (said : Option Said) (client : Client) (parts : List Part) → P (seen_of client) → P (seen_of (said_by said client parts).client)
  said_seen P None client parts p = p
  said_seen P (Some said) client parts p = p

  says_seen : (P : Seen → Type 0) (client : Client) (parts : List Part) → P (seen_of client) → P (seen_of (says client parts).client)
  says_seen P client parts p =
      let full = filled client in
      said_seen P (next full.mux) full parts
      (cond_both (is_ready client.mux && not (is_empty client.rest)) (record client { mux = mux.sends client.rest client.mux; rest = drop (taken_count (length client.rest) client.mux) client.rest }) client (λ (c : Client). P (seen_of c)) (λ e. p) (λ e. p))

  sent_muxed : (outcome : Result (Unit {0}) PortFault) (request : Made) → Kept (packet_of outcome request) request.client → Kept (packet_of outcome request) (sends_muxed outcome request).client
  sent_muxed (Ok done) request made = says_seen (Says (sent ++ request.client.rest ∷ [])) request.client request.left made
  sent_muxed (Err fault) request made = made

  through : (takes : Bool) (ask : Ask) (quiet : Client) (parts : List Part) → (let request = requests ask (record quiet { rest = [] }) parts in Makes request) → Says sent (seen_of quiet)
      → Kept (if takes then (let request = requests ask (record quiet { rest = [] }) parts in packet_of request.outcome request) else [])
      (if takes then (let request = requests ask (record quiet { rest = [] }) parts in sends_muxed request.outcome request) else rests quiet parts).client
  through true ask quiet parts made said = let request = requests ask (record quiet { rest = [] }) parts in sent_muxed request.outcome request made
  through false ask quiet parts made said = none quiet said

  none_if : (test : Bool) (client : Client) → Says sent (seen_of client) → Kept (if test then [] else []) client
  none_if true client said = none client said
  none_if false client said = none client said

  muxed : (ask : Ask) (quiet : Client) (parts : List Part) → ask ≡ next_ask quiet → is_waiting quiet.session.awaited ≡ false → Ready quiet
      → Kept (if takes_some quiet.mux then packet_asked ask (record quiet { rest = [] }) parts else []) (asks_muxed ask quiet parts).client
  muxed Close quiet parts is still r =
      let closing : Client = record quiet { mux = mux.leaves quiet.mux; contact = Closing } in
      none_if (takes_some quiet.mux) (says closing parts).client (says_seen (Says sent) closing parts r.0)
  muxed Nothing quiet parts is still r = none_if (takes_some quiet.mux) quiet r.0
  muxed Connect quiet parts is still r = through (takes_some quiet.mux) Connect quiet parts (connect_made (record quiet { rest = [] }) parts is r) r.0
  muxed Put quiet parts is still r = through (takes_some quiet.mux) Put quiet parts (put_made (record quiet { rest = [] }) parts is still r) r.0
  muxed Abort quiet parts is still r = through (takes_some quiet.mux) Abort quiet parts (abort_made (record quiet { rest = [] }) parts is r) r.0
  muxed Disconnect quiet parts is still r = through (takes_some quiet.mux) Disconnect quiet parts (leave_made (record quiet { rest = [] }) parts is r) r.0

  muxed_by : (may : Bool) (quiet : Client) (parts : List Part) → may ≡ may_ask quiet → Ready quiet
      → Kept (if may && takes_some quiet.mux then packet_asked (next_ask quiet) (record quiet { rest = [] }) parts else []) (if may then asks_muxed (next_ask quiet) quiet parts else rests quiet parts).client
  muxed_by true quiet parts is r = muxed (next_ask quiet) quiet parts refl (still_of quiet.going (is_waiting quiet.session.awaited) (sym is)) r
  muxed_by false quiet parts is r = none quiet r.0

  goes : (said : Option Said) (full : Client) (parts : List Part) → Ready full → Kept (packets_behind said full parts) (goes_muxed said full parts).client
  goes None full parts r = muxed_by (may_ask full) (record full { frame = None }) parts refl r
  goes (Some said) full parts r = none full r.0

  over_rfcomm : (client : Client) (parts : List Part) → Ready client → Kept (packets_muxed client parts) (steps_muxed client parts).client
  over_rfcomm client parts r =
      let full = filled client in
      goes (next full.mux) full parts
      (cond_both (is_ready client.mux && not (is_empty client.rest)) (record client { mux = mux.sends client.rest client.mux; rest = drop (taken_count (length client.rest) client.mux) client.rest }) client Ready (λ e. r) (λ e. r))

  -- ---- all steps

  step_if : (a : Seen) (test : Bool) (b c : Stepped) → Turn a (seen_of b.client) → Turn a (seen_of c.client) → Turn a (seen_of (if test then b else c).client)
  step_if a true b c x y = x
  step_if a false b c x y = y

  told_end : (cause : Option Outcome) (client : Client) (parts : List Part) → Turns client (tells_end cause client parts).client
  told_end None client parts = Quiet refl
  told_end (Some o) client parts = Off refl

  away : (stage : Stage) (client : Client) (parts : List Part) → client.stage ≡ stage → is_object stage ≡ false → Works sent (seen_of client) → Turns client (steps_at stage client parts).client
  away Rest client parts is off works = Quiet refl
  away (Link Due) client parts is off works = Off refl
  away (Link Asked) client parts is off works = Quiet refl
  away (SearchChannel Due) client parts is off works = Off refl
  away (SearchChannel Asked) client parts is off works = Quiet refl
  away Search client parts is off works =
      step_if (seen_of client) (is_due client.query) (sends_sdu search_psm (Octets (request_octets client.query)) (record client { query = after_request client.query; left = client.left - 1; rest = request_octets client.query }) parts) (rests client parts) (Quiet refl) (Quiet refl)
  away (SearchEnd Due) client parts is off works = Off refl
  away (SearchEnd Asked) client parts is off works = Quiet refl
  away (Features Due) client parts is off works = Free (free_at sent (Features Due) client is refl refl works)
  away (Features Asked) client parts is off works = Quiet refl
  away (ObjectChannel Due) client parts is off works = Free (free_at sent (ObjectChannel Due) client is refl refl works)
  away (ObjectChannel Asked) client parts is off works = Quiet refl
  away Object client parts is off works = absurd (not_both true refl off)
  away (ObjectEnd Due) client parts is off works = Off refl
  away (ObjectEnd Asked) client parts is off works = Quiet refl
  away (LinkEnd Due) client parts is off works = Off refl
  away (LinkEnd Asked) client parts is off works = Quiet refl
  away Over client parts is off works = told_end client.cause client parts

  -- what a step is, and what was sent with it
  StepSays : Client → List Part → Type 0
  StepSays client parts = Kept (packets_by (Asks parts) client) (steps.steps client parts).client

  step_so : (packets : List (List ℕ)) (client : Client) (parts : List Part) (after : Stepped) → steps.steps client parts ≡ after → packets_by (Asks parts) client ≡ packets → Kept packets after.client → StepSays client parts
  unfolding StepSays
  step_so packets client parts after is said kept =
      subst (λ (x : Stepped). Kept (packets_by (Asks parts) client) x.client) (sym is) (subst (λ (ps : List (List ℕ)). Kept ps after.client) (sym said) kept)

  over_both : (t : Transport) (client : Client) (parts : List Part) → steps.steps client parts ≡ steps_object t client parts → (client.failed || client.given) ≡ false → t ≡ client.transport → Ready client → StepSays client parts
  over_both L2cap client parts is free t r =
      step_so (sdus_of (steps_direct client parts).step) client parts (steps_direct client parts) is
      (cond-true (is_object client.stage) (packets_through client.transport client parts) [] r.1 ∙ ap (λ (x : Transport). packets_through x client parts) (sym t) ∙ ap (λ (x : Stepped). sdus_of x.step) is)
      (direct_by (may_ask client) client parts refl r)
  over_both Rfcomm client parts is free t r =
      step_so (packets_muxed client parts) client parts (steps_muxed client parts) is
      (cond-true (is_object client.stage) (packets_through client.transport client parts) [] r.1 ∙ ap (λ (x : Transport). packets_through x client parts) (sym t) ∙ cond-false (client.failed || client.given) [] (packets_muxed client parts) free)
      (over_rfcomm client parts r)

  held_back : (client : Client) (parts : List Part) (after : Stepped) → steps.steps client parts ≡ after → sdus_of after.step ≡ [] → (client.failed || client.given) ≡ true → Says sent (seen_of after.client) → StepSays client parts
  held_back client parts after is silent held said =
      step_so [] client parts after is (quiet_by (is_object client.stage) (packets_through client.transport client parts) (quiet_through client.transport client parts after is silent held)) (none after.client said)

  steps_by : (failed given object : Bool) (client : Client) (parts : List Part) → client.failed ≡ failed → client.given ≡ given → is_object client.stage ≡ object
      → (client.cause ≡ None → is_waiting client.session.awaited ≡ false → has is_put sent ≡ true → is_some client.session.put ≡ true) → Says sent (seen_of client) → StepSays client parts
  steps_by true given object client parts f g o on said =
      let after : Stepped = record { client = client; step = steps.NoMemory; left = parts } in
      held_back client parts after (cond-true client.failed after (if client.given then rests client parts else steps_at client.stage client parts) f) refl (or_left client.failed client.given f) said
  steps_by false true object client parts f g o on said =
      let lacking : Stepped = record { client = client; step = steps.NoMemory; left = parts } in
      let after = rests client parts in
      held_back client parts after (cond-false client.failed lacking (if client.given then after else steps_at client.stage client parts) f ∙ cond-true client.given after (steps_at client.stage client parts) g) refl (or_right client.failed client.given g) said
  steps_by false false false client parts f g o on said =
      let after = steps_at client.stage client parts in
      let is = freely client parts f g in
      let stays = subst (λ (s : Stepped). (first : Outcome) → client.cause ≡ Some first → s.client.cause ≡ Some first) is (first_causes_stay (Asks parts ∷ []) client) in
      step_so [] client parts after is (cond-false (is_object client.stage) (packets_through client.transport client parts) [] o)
      (none after.client (says_on sent (seen_of client) (seen_of after.client) stays (λ works. turn_works sent (seen_of client) (seen_of after.client) (away client.stage client parts refl o works) works) said))
  steps_by false false true client parts f g o on said =
      over_both client.transport client parts (freely client parts f g ∙ ap (λ (x : Stage). steps_at x client parts) (object_of client.stage o)) (or_none client.failed client.given f g) refl (said, o, on)

-- ---- all deeds

waits_none : (client : Client) (b : Bool) → is_waiting client.session.awaited ≡ false → client.session.awaited ≡ Some (put_request false true false) → b ≡ true
waits_none client b still waits = absurd (no_wait (is_waiting client.session.awaited) still (ap is_waiting waits))

goes_so : (w : Task) (sent : List (List ℕ)) (client : Client) → Stands w sent (talk_of client) → client.cause ≡ None → is_waiting client.session.awaited ≡ false → has is_put sent ≡ true → is_some client.session.put ≡ true
goes_so w sent client s free still some = elim (put_goes_on w sent (talk_of client) s free some) [ inl put ↦ put | inr waits ↦ waits_none client (is_some client.session.put) still waits ]

cancel_says : (w : Task) (sent : List (List ℕ)) (cause : Option Outcome) (client : Client) → client.cause ≡ cause → may_cancel client ≡ true → Stands w sent (talk_of client) → Says sent (seen_of client) → Says sent (seen_of (ends_by cause outcomes.Cancelled client))
cancel_says w sent None client is may s said = gives_up sent outcomes.Cancelled client refl (inl refl) is (λ some. elim (put_goes_on w sent (talk_of client) s is some) [ inl put ↦ put | inr waits ↦ absurd (late waits) ]) said
  where
    late : client.session.awaited ≡ Some (put_request false true false) → ⊥
    late waits = final_stays (not (is_rest client.stage)) (is_none client.cause) (is_final_put client.session.awaited) (ap is_final_put waits) may
cancel_says w sent (Some earlier) client is may s said =
    let ended = seen_of (ends_by (Some earlier) outcomes.Cancelled client) in
    says_on sent (seen_of client) ended (λ first e. e) (turn_works sent (seen_of client) ended (Off (at_once_off client.stage))) said

deed_says : (w : Task) (sent : List (List ℕ)) (deed : Deed) (client : Client) → Stands w sent (talk_of client) → Says sent (seen_of client) → Says (sent ++ packets_by deed client) (seen_of (done deed client))
unfolding StepSays
deed_says w sent (Hears news) client s said =
    quietly sent (seen_of (done (Hears news) client)) (says_on sent (seen_of client) (seen_of (done (Hears news) client)) (first_causes_stay (Hears news ∷ []) client) (λ works. news_works w sent news client s works) said)
deed_says w sent (Asks parts) client s said = steps_by sent client.failed client.given (is_object client.stage) client parts refl refl refl (goes_so w sent client s) said
deed_says w sent Finishes client s said = quietly sent (seen_of client) said
deed_says w sent Cancels client s said =
    quietly sent (seen_of (done Cancels client))
    (cond_both (may_cancel client) (ends outcomes.Cancelled client) client (λ (c : Client). Says sent (seen_of c)) (λ may. cancel_says w sent client.cause client refl may s said) (λ e. said))

pub all_say : (w : Task) (sent : List (List ℕ)) (deeds : List Deed) (client : Client) → AllAnswer w.content deeds client → Stands w sent (talk_of client) → Says sent (seen_of client) → Says (sent ++ packets_sent deeds client) (seen_of (all_done deeds client))
all_say w sent [] client answers s said = quietly sent (seen_of client) said
all_say w sent (deed ∷ deeds) client answers s said =
    subst (λ (xs : List (List ℕ)). Says xs (seen_of (all_done deeds (done deed client)))) (append_assoc sent (packets_by deed client) (packets_sent deeds (done deed client)))
    (all_say w (sent ++ packets_by deed client) deeds (done deed client) answers.1 (deed_stands w sent deed client answers.0 s) (deed_says w sent deed client s said))

-- ---- any push as which it is read

end_aborts : (gave_up left : Bool) → has is_abort (end_of gave_up left) ≡ gave_up
end_aborts true true = refl
end_aborts true false = refl
end_aborts false true = refl
end_aborts false false = refl

end_leaves : (gave_up left : Bool) → has is_leave (end_of gave_up left) ≡ left
end_leaves true true = refl
end_leaves true false = refl
end_leaves false true = refl
end_leaves false false = refl

or_last : (a b : Bool) → b ≡ true → (a || b) ≡ true
or_last true b e = refl
or_last false b e = e

are_puts : (wanted : Bool) (name : List ℕ) (size : ℕ) (content : Option (List objects.Object)) (cause : Option Outcome) (puts : List (List ℕ)) (gave_up : Bool) → ArePuts wanted name size content cause puts gave_up → OnlyPuts puts
are_puts wanted name size content cause puts gave_up (inl whole) = subst OnlyPuts (sym whole.0.said_is) (wholes_put (head_of wanted (units_in name) size) whole.0.parts whole.0.last)
are_puts wanted name size content cause puts gave_up (inr part) = let has_put = part.2 in subst OnlyPuts (sym has_put.said_is) (fronts_put (head_of (part.0).wanted (units_in name) size) has_put.parts)

pub gives_up_so : (connect : List ℕ) (wanted : Bool) (name : List ℕ) (size : ℕ) (content : Option (List objects.Object)) (cause : Option Outcome) (sent : List (List ℕ)) (stage : Stage) (put : Option ℕ) → is_abort connect ≡ false → Says sent (record { stage = stage; cause = cause; put = put })
    → (push : IsPush connect wanted name size content cause sent) → GivesUp cause push.puts push.gave_up push.left
gives_up_so connect wanted name size content cause sent stage put first said push = record {
  only = λ up. said.aborted (aborts ∙ up);
  always = λ given some left. sym aborts ∙ (said.left (tested is_leave ∙ or_last (is_leave connect) _ (or_last (has is_leave push.puts) _ (end_leaves push.gave_up push.left ∙ left)))).1 given
      (tested is_put ∙ or_last (is_put connect) _ (ap (λ (b : Bool). b || has is_put (end_of push.gave_up push.left)) (puts.some some)));
}
  where
    puts : OnlyPuts push.puts
    puts = are_puts wanted name size content cause push.puts push.gave_up push.puts_are

    tested : (test : List ℕ → Bool) → has test sent ≡ (test connect || (has test push.puts || has test (end_of push.gave_up push.left)))
    tested test = ap (has test) push.sent_is ∙ ap (λ (b : Bool). test connect || b) (has_more test push.puts (end_of push.gave_up push.left))

    aborts : has is_abort sent ≡ push.gave_up
    aborts = tested is_abort ∙ ap (λ (b : Bool). b || (has is_abort push.puts || has is_abort (end_of push.gave_up push.left))) first ∙ ap (λ (b : Bool). b || has is_abort (end_of push.gave_up push.left)) puts.aborts ∙ end_aborts push.gave_up push.left

-- ---- the law

first_says : (name : List ℕ) (size : ℕ) (client : Client) → Says [] (seen_of (with_object name size client))
first_says name size client = record { works = λ on. absurd (not_both false on refl); aborted = λ e. absurd (not_both false e refl); left = λ e. absurd (not_both false e refl) }

no_cause : (o : Outcome) → None ≡ Some o → ⊥
no_cause o e = cc

pub sends-one_push : SendsOnePush
sends-one_push client name size content deeds may answers =
    let w : Task = record { maximum = client.session.maximum; wanted = client.session.wanted; name = name; size = size; content = content } in
    let begun = with_object name size client in
    let fixed : Fixed w begun.session name size client.limit = record { maximum = refl; wanted = refl; name_is = refl; size_is = refl; short = may.short; small = may.small; least = may.least; most = may.most } in
    let end = all_done deeds begun in
    let after = talk_of end in
    let sent = packets_sent deeds begun in
    let first : Stands w [] (talk_of begun) = (fixed, Fresh refl refl refl refl (λ e. may.own) (λ e. no_cause outcomes.Done e)) in
    let stands = all_stand w [] deeds begun answers first in (
      subst (λ (n : ℕ). HasSent w name n after.cause sent) stands.0.size_is (subst (λ (n : List ℕ). HasSent w n after.size after.cause sent) stands.0.name_is (sent_of w sent after stands)),
      λ push. gives_up_so (connect_octets client.session) client.session.wanted name size content end.cause sent end.stage end.session.put refl (all_say w [] deeds begun answers first (first_says name size client)) push,
    )
