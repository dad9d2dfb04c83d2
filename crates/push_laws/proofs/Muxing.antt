-- What a client does with one step over RFCOMM: nothing, or it makes one request, where none waits for its response, and awaits one then.
use Rattle.std.proofs.Common.{inl, inr, ◌⊎◌, Bool, true, false, ◌≡◌, ◌==◌, ◌&&◌, ◌||◌, ◌<◌, ◌≤◌, ◌^◌, ℕ, List, [], ◌∷◌, length, drop, Option, Some, None, is_none, Result, Ok, Err, refl, sym, ap, subst, ◌∙◌, arith, if◌then◌else◌}
use Rattle.std.specs.Prelude.{not}
use Rattle.std.proofs.lemmas.Bool.{eqb-true}
use Rattle.link_talk.specs.bt_base.specs.Objects.{Object}
use Rattle.link_talk.specs.bt_base.specs.declared.ports.PortFault.{PortFault}
use Rattle.link_talk.specs.bt_base.specs.declared.ports.PortFault.TheVariants as fault
use Rattle.link_talk.specs.bt_base.specs.declared.settings.Transport.{Transport}
use Rattle.link_talk.specs.bt_base.specs.declared.settings.Transport.TheVariants.{Rfcomm}
use Rattle.link_talk.specs.push_terms.specs.declared.outcome.Outcome.{Outcome}
use Rattle.link_talk.specs.push_terms.specs.declared.outcome.Outcome.TheVariants as outcomes
use Rattle.push_model.specs.rfcomm_frames.specs.FrameReading.{is_empty}
use Rattle.push_model.specs.rfcomm_model.specs.Machine.{is_ready, sends, leaves, taken_count}
use Rattle.push_model.specs.rfcomm_model.specs.Saying.{Said, next}
use Rattle.push_model.specs.obex_session.specs.declared.asking.Request.{Request}
use Rattle.push_model.specs.obex_session.specs.declared.asking.Request.TheVariants as requests_of
use Rattle.push_model.specs.obex_session.specs.Asking.{Asking}
use Rattle.push_model.specs.obex_session.specs.NextPut.{is_waiting}
use Rattle.push_model.specs.obex_session.specs.PutPackets.{units_in}
use Rattle.push_model.specs.obex_session.specs.Views.{after_at}
use Rattle.push_model.specs.obex_session.proofs.ModeLaws.{limit_after}
use Rattle.push_model.specs.declared.course.Contact.TheVariants.{Unmet, Met, Closing}
use Rattle.push_model.specs.declared.course.Stage.{Stage}
use Rattle.push_model.specs.Client.{Client, ends, ends_by, may_cancel}
use Rattle.push_model.specs.Laws as deeds
use Rattle.push_model.specs.Laws.{Deed, Hears, Asks, Finishes, Cancels}
use Rattle.push_model.specs.Responding.{is_object}
use Rattle.push_model.specs.Steps as steps
use Rattle.push_model.specs.Steps.{Part, Stepped, Made, Ask, Connect, Put, Abort, Disconnect, Close, Nothing, next_ask, may_ask, put_count, is_last_put, puts_part, puts_from, puts, leaves_by, failing, puts_or_leaves, requests, filled, takes_some, says, said_by, sends_muxed, asks_muxed, goes_muxed, steps_muxed, steps_at, steps_object, rests}
use Rattle.push_laws.specs.Sending.{packet_of, packet_asked, packets_behind, packets_muxed, packets_through, packets_by, Answers, AnswersTo}
use Rattle.push_laws.proofs.Answered.{after_answered}
use Rattle.push_laws.proofs.Asking.{whence, not_gone, not_met, not_caused, no_wait}
use Rattle.push_laws.proofs.OneByOne.{off_behind, puts_wait, off_put}
use Rattle.push_laws.proofs.Pushing.{Task, Stands, State, Fresh, Connecting, Putting, GivenUp, Gone, is_gone}
use Rattle.push_laws.proofs.Pushing as state
use Rattle.push_laws.proofs.Requesting.{IsRequest, connect_request, abort_request, disconnect_request}
use Rattle.push_laws.proofs.Requesting as requesting
use Rattle.push_laws.proofs.Sending.{at_talk, still_of, says_talk}
use Rattle.push_laws.proofs.Talks.{Talk, talk_of, object_of, Kept, hears_by, news_keeps}

-- ---- a request

-- what it leaves of a session: that waits for a response
pub record Heavy (most : ℕ) (session : Asking) (packet : List ℕ) (after : Asking) : Type 0 where
  pub request : IsRequest most packet
  pub waits : is_waiting after.awaited ≡ true
  pub wanted : after.wanted ≡ session.wanted
  pub single : after.single ≡ false
  pub limit : after.limit ≡ session.limit
  pub maximum : after.maximum ≡ session.maximum

-- it is made, or the shelf failed
data MadeAs (most : ℕ) (session : Asking) (request : Made) : Type 0 where
  Fails : (fault : PortFault) → request.outcome ≡ Err fault → request.client.session ≡ session → MadeAs most session request
  Makes : request.outcome ≡ Ok tt → Heavy most session request.client.rest request.client.session → MadeAs most session request

-- nothing was asked, or one request was made
pub data Asked (most : ℕ) (session : Asking) (packets : List (List ℕ)) (after : Asking) : Type 0 where
  Silent : packets ≡ [] → after ≡ session → Asked most session packets after
  Asking1 : (packet : List ℕ) → packets ≡ packet ∷ [] → is_waiting session.awaited ≡ false → Heavy most session packet after → Asked most session packets after

-- a client whose requests have room; what it puts is no longer than that, once its server stated so
pub record Ready (most : ℕ) (t : Talk) : Type 0 where
  pub single : t.session.single ≡ false
  pub least : 255 ≤ t.session.maximum
  pub short : t.session.maximum < 2 ^ 16
  pub seven : 7 ≤ most
  pub fits : most < 2 ^ 16
  pub bound : t.contact ≡ Met → t.cause ≡ None → t.session.limit ≤ most
  pub name : length (units_in t.name) ≤ 100
  pub size : t.size < 2 ^ 32
  pub open_ : 255 ≤ t.limit
  pub wide : t.contact ≡ Met → t.cause ≡ None → is_waiting t.session.awaited ≡ false → 255 ≤ t.session.limit

same_session : (cause : Option Outcome) (o : Outcome) (client : Client) → (ends_by cause o client).session ≡ client.session
same_session None o client = refl
same_session (Some earlier) o client = refl

module _ (most : ℕ) (content : Option (List Object)) where
  abort_made : (client : Client) (parts : List Part) → 7 ≤ most → MadeAs most client.session (steps.aborts client parts)
  abort_made client parts room = Makes refl (record { request = abort_request most room; waits = refl; wanted = refl; single = refl; limit = refl; maximum = refl })

  leave_made : (client : Client) (parts : List Part) → 7 ≤ most → MadeAs most client.session (steps.disconnects client parts)
  leave_made client parts room = Makes refl (record { request = disconnect_request most room; waits = refl; wanted = refl; single = refl; limit = refl; maximum = refl })

  leaves_made : (ask : Ask) (client : Client) (parts : List Part) → 7 ≤ most → MadeAs most client.session (leaves_by ask client parts)
  leaves_made Connect client parts room = leave_made client parts room
  leaves_made Put client parts room = leave_made client parts room
  leaves_made Abort client parts room = abort_made client parts room
  leaves_made Disconnect client parts room = leave_made client parts room
  leaves_made Close client parts room = leave_made client parts room
  leaves_made Nothing client parts room = leave_made client parts room

  module _ (client : Client) (r : Ready most (talk_of client)) (still : is_waiting client.session.awaited ≡ false) where
    failing_made : (parts : List Part) → MadeAs most client.session (failing client parts)
    failing_made parts =
        let ended = ends outcomes.ShelfFault client in
        subst (λ (s : Asking). MadeAs most s (leaves_by (next_ask ended) ended parts)) (same_session client.cause outcomes.ShelfFault client) (leaves_made (next_ask ended) ended parts r.seven)

    part_made : (part : Part) (parts : List Part) → client.contact ≡ Met → client.cause ≡ None → ((octets : List ℕ) → part ≡ Ok octets → length octets ≡ put_count client) → MadeAs most client.session (puts_or_leaves (puts_part part client parts).outcome (puts_part part client parts))
    part_made (Ok part) parts met free told = Makes refl (record {
      request = requesting.put_request most client part r.name r.size r.open_ (r.wide met free still) (r.bound met free) r.fits (told part refl);
      waits = puts_wait (is_none client.session.put) (is_last_put client) client.session.single r.single;
      wanted = refl;
      single = off_put (is_last_put client) client.session.single r.single;
      limit = refl;
      maximum = refl;
    })
    part_made (Err fault.Failed) parts met free told = failing_made parts
    part_made (Err fault.NoMemory) parts met free told = Fails fault.NoMemory refl refl

    told_first : (part : Part) (parts : List Part) → Answers content client (part ∷ parts) → (octets : List ℕ) → part ≡ Ok octets → length octets ≡ put_count client
    told_first (Ok part) parts answers octets e = ap length (sym (same_octets part octets e)) ∙ answers.0
      where
        same_octets : (a b : List ℕ) → (let x : Part = Ok a in x) ≡ Ok b → a ≡ b
        same_octets a b f = cc
    told_first (Err fault) parts answers octets e = absurd cc

    from_made : (parts : List Part) → client.contact ≡ Met → client.cause ≡ None → Answers content client parts → MadeAs most client.session (puts_or_leaves (puts_from parts client).outcome (puts_from parts client))
    from_made [] met free answers = failing_made []
    from_made (part ∷ parts) met free answers = part_made part parts met free (told_first part parts answers)

    none_told : put_count client ≡ 0 → (octets : List ℕ) → (let x : Part = Ok [] in x) ≡ Ok octets → length octets ≡ put_count client
    none_told zero octets e = ap length (sym (same_octets octets e)) ∙ sym zero
      where
        same_octets : (b : List ℕ) → (let x : Part = Ok [] in x) ≡ Ok b → [] ≡ b
        same_octets b f = cc

    count_made : (zero : Bool) (parts : List Part) → zero ≡ (put_count client == 0) → client.contact ≡ Met → client.cause ≡ None → Answers content client parts
        → MadeAs most client.session (let put = if zero then puts_part (Ok []) client parts else puts_from parts client in puts_or_leaves put.outcome put)
    count_made true parts is met free answers = part_made (Ok []) parts met free (none_told (eqb-true (put_count client) 0 (sym is)))
    count_made false parts is met free answers = from_made parts met free answers

    request_made : (ask : Ask) (parts : List Part) → ask ≡ next_ask client → Answers content client parts → MadeAs most client.session (requests ask client parts)
    request_made Connect parts is answers =
        Makes refl (record { request = connect_request most client.session r.least r.short r.seven; waits = refl; wanted = refl; single = refl; limit = refl; maximum = refl })
    request_made Put parts is answers = let when = (whence client.contact client.cause client.session.put).put (sym is) in count_made (put_count client == 0) parts refl when.0 when.1 answers
    request_made Abort parts is answers = abort_made client parts r.seven
    request_made Disconnect parts is answers = leave_made client parts r.seven
    request_made Close parts is answers = leave_made client parts r.seven
    request_made Nothing parts is answers = leave_made client parts r.seven

  -- ---- through the multiplexer

  sent_asked : (session : Asking) (outcome : Result (Unit {0}) PortFault) (request : Made) → request.outcome ≡ outcome → is_waiting session.awaited ≡ false → MadeAs most session request → Asked most session (packet_of outcome request) (sends_muxed outcome request).client.session
  sent_asked session (Ok done) request is still (Makes made heavy) = says_talk (λ (t : Talk). Asked most session (request.client.rest ∷ []) t.session) request.client request.left (Asking1 request.client.rest refl still heavy)
  sent_asked session (Ok done) request is still (Fails fault failed same) = absurd (let f : Ok tt ≡ Err fault = sym is ∙ failed in cc)
  sent_asked session (Err fault) request is still (Fails other failed same) = Silent refl same
  sent_asked session (Err fault) request is still (Makes made heavy) = absurd (let f : Err fault ≡ Ok tt = sym is ∙ made in cc)

  -- what the shelf is asked for looks at the object and the session alone
  alike : (client : Client) (left : List ℕ) (m : _) (frame : _) (parts : List Part) → Answers content client parts → Answers content (record client { rest = left; mux = m; frame = frame }) parts
  alike client left m frame [] x = x
  alike client left m frame (Ok part ∷ parts) x = x
  alike client left m frame (Err fault ∷ parts) x = x

  module _ (quiet : Client) (r : Ready most (talk_of quiet)) (parts : List Part) (answers : Answers content quiet parts) where
    abbrev Through : Bool → Ask → Bool → Type 0
    Through takes ask also =
        Asked most quiet.session (if takes then packet_asked ask (record quiet { rest = [] }) parts else []) (if also then (let request = requests ask (record quiet { rest = [] }) parts in sends_muxed request.outcome request) else rests quiet parts).client.session

    asked_if : (takes : Bool) (ask : Ask) → ask ≡ next_ask quiet → is_waiting quiet.session.awaited ≡ false
        → (let request = requests ask (record quiet { rest = [] }) parts in Asked most quiet.session (if takes then packet_of request.outcome request else []) (if takes then sends_muxed request.outcome request else rests quiet parts).client.session)
    asked_if false ask is still = Silent refl refl
    asked_if true ask is still =
        let request = requests ask (record quiet { rest = [] }) parts in
        sent_asked quiet.session request.outcome request refl still (request_made (record quiet { rest = [] }) r still ask parts is (alike quiet [] quiet.mux quiet.frame parts answers))

    none_if : (takes : Bool) (after : Asking) → after ≡ quiet.session → Asked most quiet.session (if takes then [] else []) after
    none_if true after same = Silent refl same
    none_if false after same = Silent refl same

    muxed_asked : (ask : Ask) (takes : Bool) → takes_some quiet.mux ≡ takes → ask ≡ next_ask quiet → is_waiting quiet.session.awaited ≡ false → Asked most quiet.session (if takes then packet_asked ask (record quiet { rest = [] }) parts else []) (asks_muxed ask quiet parts).client.session
    muxed_asked Close takes same is still = none_if takes _ (says_talk (λ (t : Talk). t.session ≡ quiet.session) (record quiet { mux = leaves quiet.mux; contact = Closing }) parts refl)
    muxed_asked Nothing takes same is still = none_if takes quiet.session refl
    muxed_asked Connect takes same is still = subst (Through takes Connect) (sym same) (asked_if takes Connect is still)
    muxed_asked Put takes same is still = subst (Through takes Put) (sym same) (asked_if takes Put is still)
    muxed_asked Abort takes same is still = subst (Through takes Abort) (sym same) (asked_if takes Abort is still)
    muxed_asked Disconnect takes same is still = subst (Through takes Disconnect) (sym same) (asked_if takes Disconnect is still)

    may_asked : (may : Bool) → may ≡ may_ask quiet
        → Asked most quiet.session (if may && takes_some quiet.mux then packet_asked (next_ask quiet) (record quiet { rest = [] }) parts else []) (if may then asks_muxed (next_ask quiet) quiet parts else rests quiet parts).client.session
    may_asked true is = muxed_asked (next_ask quiet) (takes_some quiet.mux) refl refl (still_of quiet.going (is_waiting quiet.session.awaited) (sym is))
    may_asked false is = Silent refl refl

  goes_asked : (said : Option Said) (full : Client) (parts : List Part) → Ready most (talk_of full) → Answers content full parts → Asked most full.session (packets_behind said full parts) (goes_muxed said full parts).client.session
  goes_asked None full parts r answers = let quiet : Client = record full { frame = None } in may_asked quiet r parts (alike full full.rest full.mux None parts answers) (may_ask full) refl
  goes_asked (Some said) full parts r answers = Silent refl refl

  filled_asked : (client : Client) (parts : List Part) → Ready most (talk_of client) → Answers content client parts → Asked most client.session (packets_muxed client parts) (steps_muxed client parts).client.session
  filled_asked client parts r answers = by (is_ready client.mux && not (is_empty client.rest)) refl
    where
      taken : Client
      taken = record client { mux = sends client.rest client.mux; rest = drop (taken_count (length client.rest) client.mux) client.rest }

      by : (test : Bool) → (is_ready client.mux && not (is_empty client.rest)) ≡ test → Asked most client.session (packets_behind (next (filled client).mux) (filled client) parts) (goes_muxed (next (filled client).mux) (filled client) parts).client.session
      by true is =
          subst (λ (b : Bool). (let full : Client = if b then taken else client in Asked most client.session (packets_behind (next full.mux) full parts) (goes_muxed (next full.mux) full parts).client.session)) (sym is)
          (goes_asked (next taken.mux) taken parts r (alike client taken.rest taken.mux taken.frame parts answers))
      by false is =
          subst (λ (b : Bool). (let full : Client = if b then taken else client in Asked most client.session (packets_behind (next full.mux) full parts) (goes_muxed (next full.mux) full parts).client.session)) (sym is)
          (goes_asked (next client.mux) client parts r answers)

  -- ---- all steps

  at_asked : (object : Bool) (client : Client) (parts : List Part) → is_object client.stage ≡ object → client.transport ≡ Rfcomm → Ready most (talk_of client) → Answers content client parts
      → Asked most client.session (if object then packets_muxed client parts else []) (steps_at client.stage client parts).client.session
  at_asked true client parts is t r answers =
      subst (λ (st : Stage). Asked most client.session (packets_muxed client parts) (steps_at st client parts).client.session) (sym (object_of client.stage is))
      (subst (λ (x : Transport). Asked most client.session (packets_muxed client parts) (steps_object x client parts).client.session) (sym t) (filled_asked client parts r answers))
  at_asked false client parts is t r answers = at_talk (λ (after : Talk). Asked most client.session [] after.session) client.stage client parts is (Silent refl refl)

  steps_asked : (failed given : Bool) (client : Client) (parts : List Part) → client.transport ≡ Rfcomm → Ready most (talk_of client) → Answers content client parts
      → Asked most client.session (if is_object client.stage then (if failed || given then [] else packets_muxed client parts) else [])
      (if failed then record { client = client; step = steps.NoMemory; left = parts } else if given then rests client parts else steps_at client.stage client parts).client.session
  steps_asked true given client parts t r answers = nothing_sent (is_object client.stage)
    where
      nothing_sent : (object : Bool) → Asked most client.session (if object then [] else []) client.session
      nothing_sent true = Silent refl refl
      nothing_sent false = Silent refl refl
  steps_asked false true client parts t r answers = nothing_sent (is_object client.stage)
    where
      nothing_sent : (object : Bool) → Asked most client.session (if object then [] else []) client.session
      nothing_sent true = Silent refl refl
      nothing_sent false = Silent refl refl
  steps_asked false false client parts t r answers = at_asked (is_object client.stage) client parts refl t r answers

  pub asks_asked : (client : Client) (parts : List Part) → client.transport ≡ Rfcomm → Ready most (talk_of client) → Answers content client parts → Asked most client.session (packets_by (Asks parts) client) (deeds.done (Asks parts) client).session
  asks_asked client parts t r answers =
      subst (λ (x : Transport). Asked most client.session (if is_object client.stage then packets_through x client parts else []) (deeds.done (Asks parts) client).session) (sym t) (steps_asked client.failed client.given client parts t r answers)

-- ---- what stays of a client

-- the greatest length of a packet
abbrev pub widest : ℕ
widest = 65535

-- it wants no single response mode, and takes packets of at most so many octets
abbrev pub Fair : ℕ → Talk → Type 0
Fair most t = (t.session.wanted ≡ false) × (t.session.single ≡ false) × (t.session.limit ≤ t.session.maximum) × (255 ≤ t.session.maximum) × (t.session.maximum ≤ most)

pub limit_kept : (awaited : Option Request) (session : Asking) (response : List ℕ) → session.awaited ≡ awaited → (after_at session.awaited session response).limit ≤ session.limit
limit_kept None session response is = subst (λ (a : Option Request). (after_at a session response).limit ≤ session.limit) (sym is) (omega arith)
limit_kept (Some request) session response is = limit_after session request response is

heard_fair : (most : ℕ) (session : Asking) (response : List ℕ) → (session.wanted ≡ false) × (session.single ≡ false) × (session.limit ≤ session.maximum) × (255 ≤ session.maximum) × (session.maximum ≤ most)
    → (let after = after_at session.awaited session response in (after.wanted ≡ false) × (after.single ≡ false) × (after.limit ≤ after.maximum) × (255 ≤ after.maximum) × (after.maximum ≤ most))
heard_fair most session response f =
    let a = after_answered session response in
    let less = limit_kept session.awaited session response refl in
    let same = a.maximum in
    let room = f.2 in
    let least = f.3 in
    let within = f.4 in
    (a.wanted ∙ f.0, off_behind session.awaited session response f.0 f.1, omega (arith, less, same, room), omega (arith, same, least), omega (arith, same, within))

pub fair_kept : (most : ℕ) → Kept (Fair most)
fair_kept most = record {
  unheard = record { ends = λ outcome t free none p. p; opens = λ limit t least wide p. p };
  hears = λ response client p. hears_by (Fair most) (λ o t x. x) (λ contact t x. x) response client p (heard_fair most client.session response p);
}

pub heavy_fair : (most : ℕ) (session : Asking) (packet : List ℕ) (after : Asking) → Heavy most session packet after → (session.wanted ≡ false) × (session.single ≡ false) × (session.limit ≤ session.maximum) × (255 ≤ session.maximum) × (session.maximum ≤ most)
    → (after.wanted ≡ false) × (after.single ≡ false) × (after.limit ≤ after.maximum) × (255 ≤ after.maximum) × (after.maximum ≤ most)
heavy_fair most session packet after h f =
    let limit = h.limit in
    let maximum = h.maximum in
    let room = f.2 in
    let least = f.3 in
    let within = f.4 in
    (h.wanted ∙ f.0, h.single, omega (arith, limit, maximum, room), omega (arith, maximum, least), omega (arith, maximum, within))

-- ---- where its object is put it has room

pub wide_of : (w : Task) (sent : List (List ℕ)) (client : Client) → Stands w sent (talk_of client) → client.contact ≡ Met → client.cause ≡ None → is_waiting client.session.awaited ≡ false → 255 ≤ client.session.limit
wide_of w sent client s met free still = by s.1
  where
    by : State w sent client.cause client.contact client.session client.name client.size → 255 ≤ client.session.limit
    by (Fresh none was waits unput least other) = absurd (not_met client.contact was met)
    by (Connecting is was waits unput other) = absurd (not_met client.contact was met)
    by (Putting puts at is was wanted has place other any) = (place free).1
    by (state.Put puts is was whole waits unput other) = absurd (no_wait (is_waiting client.session.awaited) still (ap is_waiting (waits free)))
    by (GivenUp puts at is was wanted has given unput other any) = absurd (not_caused client.cause given free)
    by (Gone gone given past) = absurd (not_gone client.contact gone met)

pub ready_of : (most : ℕ) (w : Task) (sent : List (List ℕ)) (client : Client) → 7 ≤ most → most < 2 ^ 16 → (client.contact ≡ Met → client.cause ≡ None → client.session.limit ≤ most) → Stands w sent (talk_of client) → Fair widest (talk_of client) → Ready most (talk_of client)
ready_of most w sent client seven fits bound s f = record {
  single = f.1;
  least = f.3;
  short = let within = f.4 in omega (arith, within);
  seven = seven;
  fits = fits;
  bound = bound;
  name = s.0.short;
  size = s.0.small;
  open_ = s.0.least;
  wide = λ met free still. wide_of w sent client s met free still;
}

-- its own maximum bounds what it sends in any case
pub widest_ready : (w : Task) (sent : List (List ℕ)) (client : Client) → Stands w sent (talk_of client) → Fair widest (talk_of client) → Ready widest (talk_of client)
widest_ready w sent client s f = ready_of widest w sent client (omega arith) (omega arith) (λ met free. let room = f.2 in let within = f.4 in omega (arith, room, within)) s f

-- where it is still to meet its server, it awaits the response to CONNECT, if any
pub early_awaits : (w : Task) (sent : List (List ℕ)) (client : Client) → Stands w sent (talk_of client) → client.contact ≡ Unmet → client.cause ≡ None → (client.session.awaited ≡ None) ⊎ (client.session.awaited ≡ Some requests_of.Connect)
early_awaits w sent client s unmet free = by s.1
  where
    other : {A : Type 0} → client.contact ≡ Met → A
    other met = absurd (let never : Unmet ≡ Met = sym unmet ∙ met in cc)

    by : State w sent client.cause client.contact client.session client.name client.size → (client.session.awaited ≡ None) ⊎ (client.session.awaited ≡ Some requests_of.Connect)
    by (Fresh none was waits unput least done) = inl waits
    by (Connecting is was waits unput done) = inr (waits free).0
    by (Putting puts at is was wanted has place done any) = other was
    by (state.Put puts is was whole waits unput done) = other was
    by (GivenUp puts at is was wanted has given unput done any) = other was
    by (Gone gone given past) = absurd (no_contact gone)
      where
        no_contact : is_gone client.contact ≡ true → ⊥
        no_contact g = let never : false ≡ true = sym (ap is_gone unmet) ∙ g in cc

-- it stays fair, whatever it does
fair_session : ℕ → Asking → Type 0
fair_session most s = (s.wanted ≡ false) × (s.single ≡ false) × (s.limit ≤ s.maximum) × (255 ≤ s.maximum) × (s.maximum ≤ most)

asked_fair : (most : ℕ) (session : Asking) (packets : List (List ℕ)) (after : Asking) → Asked most session packets after → fair_session most session → fair_session most after
unfolding fair_session
asked_fair most session packets after (Silent none same) f = subst (λ (s : Asking). (s.wanted ≡ false) × (s.single ≡ false) × (s.limit ≤ s.maximum) × (255 ≤ s.maximum) × (s.maximum ≤ most)) (sym same) f
asked_fair most session packets after (Asking1 packet is still heavy) f = heavy_fair most session packet after heavy f

pub deed_fair : (most : ℕ) (content : Option (List Object)) (deed : Deed) (client : Client) → client.transport ≡ Rfcomm → AnswersTo content deed client → Ready most (talk_of client) → Fair most (talk_of client) → Fair most (talk_of (deeds.done deed client))
unfolding fair_session
deed_fair most content (Hears news) client t answers r f = news_keeps (Fair most) (fair_kept most) news client f
deed_fair most content (Asks parts) client t answers r f = asked_fair most client.session (packets_by (Asks parts) client) (deeds.done (Asks parts) client).session (asks_asked most content client parts t r answers) f
deed_fair most content Finishes client t answers r f = f
deed_fair most content Cancels client t answers r f = either (Fair most) (may_cancel client) (by client.cause) f
  where
    either : (P : Talk → Type 0) (test : Bool) → P (talk_of (ends outcomes.Cancelled client)) → P (talk_of client) → P (talk_of (if test then ends outcomes.Cancelled client else client))
    either P true x y = x
    either P false x y = y

    by : (cause : Option Outcome) → Fair most (talk_of (ends_by cause outcomes.Cancelled client))
    by None = f
    by (Some earlier) = f
