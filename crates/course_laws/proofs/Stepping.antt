-- Each step that a client gives lowers the number of those that are left.
use Rattle.std.proofs.Common.{◌≡◌, ℕ, ◌+◌, ◌≤◌, ◌<◌, ◌-◌, ◌==◌, ◌&&◌, not, nat_le, min, Bool, true, false, cond, List, [], ◌∷◌, Option, Some, None, is_some, is_none, Ok, Err, refl, sym, ap, subst, ◌∙◌, inl, inr, arith, if◌then◌else◌}
use Rattle.std.proofs.lemmas.Bool.Decides.{leb_tells}
use Rattle.std.proofs.Math.Nat.{min-le_left, le-min}
use Rattle.bt_base.specs.declared.ports.PortFault.TheVariants as fault
use Rattle.bt_base.specs.declared.settings.Transport.TheVariants.{L2cap}
use Rattle.push_terms.specs.declared.outcome.Outcome.{Outcome}
use Rattle.push_terms.specs.declared.outcome.Outcome.TheVariants as outcomes
use Rattle.push_model.specs.obex_session.specs.Asking.{Asking}
use Rattle.push_model.specs.obex_session.specs.NextPut.{left_of, room_for, is_waiting, put_request, after_put}
use Rattle.push_model.specs.obex_session.specs.PutPackets.{place_of}
use Rattle.push_model.specs.obex_session.specs.Views.{is_final_put, asks_connect, asks_abort}
use Rattle.push_model.specs.obex_session.specs.declared.asking.Request.{Request}
use Rattle.push_model.specs.obex_session.specs.declared.asking.Request.TheVariants as requested
use Rattle.push_model.specs.sdp_client.specs.declared.query.Stage.{Stage as QueryStage}
use Rattle.push_model.specs.sdp_client.specs.declared.query.Stage.TheVariants as query
use Rattle.push_model.specs.sdp_client.specs.Asking.{waits, written, is_due, request_octets, after_request}
use Rattle.push_model.specs.declared.course.Contact.{Contact}
use Rattle.push_model.specs.declared.course.Contact.TheVariants.{Unmet, Met, Left, Closing}
use Rattle.push_model.specs.declared.course.Point.TheVariants.{Due, Asked}
use Rattle.push_model.specs.declared.course.Stage.{Stage}
use Rattle.push_model.specs.declared.course.Stage.TheVariants.{Rest, Link, SearchChannel, Search, SearchEnd, Features, ObjectChannel, Object, ObjectEnd, LinkEnd, Over}
use Rattle.push_model.specs.Client.{Client, in_order, ends_by}
use Rattle.push_model.specs.Events.{search_psm}
use Rattle.push_model.specs.Payloads.{Octets}
use Rattle.push_model.specs.Steps.{CloseChannel, NoMemory, Part, Stepped, rests, gives, sends_sdu, Ask, Connect, Put, Abort, Disconnect, Close, Nothing, asks, next_ask, may_ask, Made, put_count, is_last_put, puts_part, puts_from, leaves_by, failing, puts_or_leaves, requests, sends_direct, asks_direct, steps_direct, steps_object, steps_search, tells_end, steps_at, steps}
use Rattle.course_laws.specs.Left.{puts_left, requests_left, requests_unmet, requests_met, sum_left, steps_left, count_of}

abbrev Lowers : Client → Stepped → Type 0
Lowers client s = count_of s.step + steps_left s.client ≤ steps_left client

rests_so : (client : Client) (parts : List Part) → Lowers client (rests client parts)
rests_so client parts = omega arith

-- it goes on to another stage
gives_so : (client : Client) (stage after : Stage) → client.stage ≡ stage → ((due : Bool) (requests : ℕ) → 1 + sum_left after due requests ≤ sum_left stage due requests) → 1 + steps_left (record client { stage = after; given = true }) ≤ steps_left client
gives_so client stage after is less =
    let due : Bool = is_due client.query in
    let requests : ℕ = requests_left client.contact client.cause client.session client.size in
    subst (λ s. 1 + sum_left after due requests ≤ sum_left s due requests) (sym is) (less due requests)

-- ---- the question for the service

written_done : (stage : QueryStage) → waits (written stage) ≡ false
written_done query.Due = refl
written_done query.Written = refl
written_done query.Again = refl
written_done query.Answered = refl
written_done (query.Refused reason) = refl

searches_so : (client : Client) (parts : List Part) → client.stage ≡ Search → Lowers client (steps_search client parts)
searches_so client parts is = by (is_due client.query) refl
  where
    r : ℕ
    r = requests_left client.contact client.cause client.session client.size

    less : (after : Bool) → after ≡ false → 1 + sum_left Search after r ≤ sum_left Search true r
    less true never = cc
    less false none = omega arith

    by : (due : Bool) → is_due client.query ≡ due → Lowers client (if due then sends_sdu search_psm (Octets (request_octets client.query)) (record client { query = after_request client.query; left = client.left - 1; rest = request_octets client.query }) parts else rests client parts)
    by true due =
        subst (λ s. 1 + sum_left s (waits (written client.query.stage)) r ≤ sum_left s (is_due client.query) r) (sym is)
        (subst (λ d. 1 + sum_left Search (waits (written client.query.stage)) r ≤ sum_left Search d r) (sym due) (less (waits (written client.query.stage)) (written_done client.query.stage)))
    by false due = rests_so client parts

-- ---- requests on the channel of the object

module _ (client : Client) (parts : List Part) (at : client.stage ≡ Object) where
  abbrev own : ℕ
  own = requests_left client.contact client.cause client.session client.size

  abbrev bare : Client
  bare = record client { rest = [] }

  -- a request was made, and fewer are left
  sent_so : (less : ℕ) → 1 + less ≤ own → 1 + sum_left client.stage (is_due client.query) less ≤ steps_left client
  sent_so less le = subst (λ s. 1 + sum_left s (is_due client.query) less ≤ sum_left s (is_due client.query) (own)) (sym at) (omega (arith, le))

  closes_so : Lowers client (gives (CloseChannel client.psm) (ObjectEnd Asked) bare parts)
  closes_so = gives_so bare Object (ObjectEnd Asked) at (λ due requests. omega arith)

  both_is : (contact : Contact) (cause : Option Outcome) → client.contact ≡ contact → client.cause ≡ cause → own ≡ requests_left contact cause client.session client.size
  both_is contact cause is why = ap (λ c. requests_left c client.cause client.session client.size) is ∙ ap (λ k. requests_left contact k client.session client.size) why

  connects_so : client.contact ≡ Unmet → client.cause ≡ None → is_waiting client.session.awaited ≡ false → Lowers client (let request : Made = requests Connect bare parts in sends_direct request.outcome request)
  connects_so is why free =
      let before = both_is Unmet None is why in
      let one = ap {B = ℕ} (λ b. cond b 0 1) free in
      let after = ap (λ k. requests_unmet k (asks_connect client.session) client.size) why in
      sent_so (requests_left Unmet client.cause (asks_connect client.session) client.size) (omega (arith, before, one, after))

  disconnects_so : client.contact ≡ Met → (cause : Outcome) → client.cause ≡ Some cause → Lowers client (let request : Made = requests Disconnect bare parts in sends_direct request.outcome request)
  disconnects_so is cause why = let before = both_is Met (Some cause) is why in sent_so 0 (omega (arith, before))

  aborts_so : client.contact ≡ Met → (cause : Outcome) → client.cause ≡ Some cause → (place : ℕ) → client.session.put ≡ Some place → Lowers client (let request : Made = requests Abort bare parts in sends_direct request.outcome request)
  aborts_so is cause why place put_is =
      let before = both_is Met (Some cause) is why in
      let some = ap {B = ℕ} (λ p. cond (is_some p) 1 0) put_is in
      let after = ap (λ c. requests_left c client.cause (asks_abort client.session) client.size) is ∙ ap (λ k. requests_met k (asks_abort client.session) client.size) why in
      sent_so (requests_left client.contact client.cause (asks_abort client.session) client.size) (omega (arith, before, some, after))

  -- ---- the next PUT

  module _ (is : client.contact ≡ Met) (why : client.cause ≡ None) (free : is_waiting client.session.awaited ≡ false) (roomy : 1 ≤ room_for client.session client.name client.size client.limit) where
    abbrev ahead : ℕ
    ahead = left_of client.session client.size

    abbrev space : ℕ
    space = room_for client.session client.name client.size client.limit

    not_final : (awaited : Option Request) → is_waiting awaited ≡ false → is_final_put awaited ≡ false
    not_final None free = refl
    not_final (Some requested.Connect) free = refl
    not_final (Some requested.FirstPut) free = refl
    not_final (Some requested.Put) free = refl
    not_final (Some requested.Stream) free = refl
    not_final (Some requested.FinalPut) free = cc
    not_final (Some requested.Abort) free = refl
    not_final (Some requested.Disconnect) free = refl

    before : own ≡ ahead + 1 + 2
    before = both_is Met None is why ∙ ap (λ b. cond b 0 (ahead + 1) + 2) (not_final client.session.awaited free)

    not_last : (first single : Bool) → is_final_put (Some (put_request first false single)) ≡ false
    not_last true single = refl
    not_last false true = refl
    not_last false false = refl

    -- with its octets, and whether they are the last
    fewer : (final : Bool) → nat_le ahead space ≡ final → puts_left (after_put client.session final (min ahead space)) client.size ≤ ahead
    fewer true last = omega arith
    fewer false last =
        let more : space < ahead = elim (leb_tells ahead space) [ inl (e, le) ↦ (let never : false ≡ true = sym last ∙ e in cc) | inr (e, lt) ↦ lt ] in
        let some : 1 ≤ min ahead space = le-min (omega (arith, more, roomy)) roomy in
        let few : min ahead space ≤ ahead = min-le_left ahead space in
        let none = ap (λ b. cond b 0 (client.size - (place_of client.session.put + min ahead space) + 1)) (not_last (is_none client.session.put) client.session.single) in
        omega (arith, more, some, few, none)

    put_so : (part : List ℕ) (more : List Part) → Lowers client (let put : Made = puts_part (Ok part) bare more in let request : Made = puts_or_leaves put.outcome put in sends_direct request.outcome request)
    put_so part more =
        let after : Asking = after_put client.session (is_last_put bare) (put_count bare) in
        let few = fewer (nat_le ahead space) refl in
        let same = ap (λ c. requests_left c client.cause after client.size) is ∙ ap (λ k. requests_met k after client.size) why in
        let start = before in
        sent_so (requests_left client.contact client.cause after client.size) (omega (arith, few, same, start))

    -- the shelf failed
    abbrev ended : Client
    ended = ends_by None outcomes.ShelfFault bare

    left_so : (ask : Ask) (more : List Part) → Lowers client (let request : Made = leaves_by ask ended more in sends_direct request.outcome request)
    left_so ask more = by ask
      where
        disconnected : 1 + sum_left client.stage (is_due client.query) 0 ≤ steps_left client
        disconnected = let start = before in sent_so 0 (omega (arith, start))

        in_stage : (less : ℕ) → 1 + sum_left client.stage (is_due client.query) less ≤ steps_left client → 1 + sum_left ended.stage (is_due client.query) less ≤ steps_left client
        in_stage less le = subst (λ s. 1 + sum_left s (is_due client.query) less ≤ steps_left client) stays le
          where
            stays : client.stage ≡ ended.stage
            stays = at ∙ sym (ap in_order at)

        by : (ask : Ask) → Lowers client (let request : Made = leaves_by ask ended more in sends_direct request.outcome request)
        by Connect = in_stage 0 disconnected
        by Put = in_stage 0 disconnected
        by Abort =
            let start = before in
            let same = ap (λ c. requests_left c (Some outcomes.ShelfFault) (asks_abort client.session) client.size) is in
            in_stage (requests_left client.contact (Some outcomes.ShelfFault) (asks_abort client.session) client.size) (sent_so (requests_left client.contact (Some outcomes.ShelfFault) (asks_abort client.session) client.size) (omega (arith, start, same)))
        by Disconnect = in_stage 0 disconnected
        by Close = in_stage 0 disconnected
        by Nothing = in_stage 0 disconnected

    failed_so : (more : List Part) → Lowers client (let request : Made = failing bare more in sends_direct request.outcome request)
    failed_so more = by client.cause why
      where
        by : (cause : Option Outcome) → cause ≡ None → Lowers client (let gone : Client = ends_by cause outcomes.ShelfFault bare in let request : Made = leaves_by (next_ask gone) gone more in sends_direct request.outcome request)
        by None none = left_so (next_ask ended) more
        by (Some earlier) none = cc

    part_so : (part : Part) (more : List Part) → Lowers client (let put : Made = puts_part part bare more in let request : Made = puts_or_leaves put.outcome put in sends_direct request.outcome request)
    part_so (Ok part) more = put_so part more
    part_so (Err fault.Failed) more = failed_so more
    part_so (Err fault.NoMemory) more = omega arith

    from_so : (list : List Part) → Lowers client (let put : Made = puts_from list bare in let request : Made = puts_or_leaves put.outcome put in sends_direct request.outcome request)
    from_so [] = failed_so []
    from_so (part ∷ more) = part_so part more

    puts_so : Lowers client (let request : Made = requests Put bare parts in sends_direct request.outcome request)
    puts_so = by (put_count bare == 0)
      where
        by : (none : Bool) → Lowers client (let put : Made = (if none then puts_part (Ok []) bare parts else puts_from parts bare) in let request : Made = puts_or_leaves put.outcome put in sends_direct request.outcome request)
        by true = put_so [] parts
        by false = from_so parts

  -- ---- whichever it is

  asks_so : is_waiting client.session.awaited ≡ false → 1 ≤ room_for client.session client.name client.size client.limit → (contact : Contact) (cause : Option Outcome) (put : Option ℕ) → client.contact ≡ contact → client.cause ≡ cause → client.session.put ≡ put
      → Lowers client (asks_direct (asks contact cause put) bare parts)
  asks_so free roomy Unmet None put is why put_is = connects_so is why free
  asks_so free roomy Unmet (Some cause) put is why put_is = closes_so
  asks_so free roomy Met None put is why put_is = puts_so is why free roomy
  asks_so free roomy Met (Some cause) None is why put_is = disconnects_so is cause why
  asks_so free roomy Met (Some cause) (Some place) is why put_is = aborts_so is cause why place put_is
  asks_so free roomy Left cause put is why put_is = closes_so
  asks_so free roomy Closing cause put is why put_is = omega arith

  object_so : 1 ≤ room_for client.session client.name client.size client.limit → Lowers client (steps_direct client parts)
  object_so roomy = by (may_ask client) refl
    where
      waits_none : (going waiting : Bool) → (not going && not waiting) ≡ true → waiting ≡ false
      waits_none true waiting is = cc
      waits_none false true is = cc
      waits_none false false is = refl

      by : (may : Bool) → may_ask client ≡ may → Lowers client (if may then asks_direct (next_ask client) bare parts else rests client parts)
      by true may = asks_so (waits_none client.going (is_waiting client.session.awaited) may) roomy client.contact client.cause client.session.put refl refl refl
      by false may = rests_so client parts

-- ---- all stages

ends_so : (cause : Option Outcome) (client : Client) (parts : List Part) → client.stage ≡ Over → Lowers client (tells_end cause client parts)
ends_so None client parts is = rests_so client parts
ends_so (Some outcome) client parts is =
    let r : ℕ = requests_left client.contact client.cause client.session client.size in
    subst (λ s. 1 + sum_left Rest (is_due client.query) r ≤ sum_left s (is_due client.query) r) (sym is) (omega arith)

stage_so : (client : Client) (parts : List Part) → client.transport ≡ L2cap → 1 ≤ room_for client.session client.name client.size client.limit → (stage : Stage) → client.stage ≡ stage → Lowers client (steps_at stage client parts)
stage_so client parts direct roomy Rest is = rests_so client parts
stage_so client parts direct roomy (Link Due) is = gives_so client (Link Due) (Link Asked) is (λ due requests. omega arith)
stage_so client parts direct roomy (Link Asked) is = rests_so client parts
stage_so client parts direct roomy (SearchChannel Due) is = gives_so client (SearchChannel Due) (SearchChannel Asked) is (λ due requests. omega arith)
stage_so client parts direct roomy (SearchChannel Asked) is = rests_so client parts
stage_so client parts direct roomy Search is = searches_so client parts is
stage_so client parts direct roomy (SearchEnd Due) is = gives_so client (SearchEnd Due) (SearchEnd Asked) is (λ due requests. omega arith)
stage_so client parts direct roomy (SearchEnd Asked) is = rests_so client parts
stage_so client parts direct roomy (Features Due) is = gives_so client (Features Due) (Features Asked) is (λ due requests. omega arith)
stage_so client parts direct roomy (Features Asked) is = rests_so client parts
stage_so client parts direct roomy (ObjectChannel Due) is = gives_so client (ObjectChannel Due) (ObjectChannel Asked) is (λ due requests. omega arith)
stage_so client parts direct roomy (ObjectChannel Asked) is = rests_so client parts
stage_so client parts direct roomy Object is = subst (λ t. Lowers client (steps_object t client parts)) (sym direct) (object_so client parts is roomy)
stage_so client parts direct roomy (ObjectEnd Due) is = gives_so client (ObjectEnd Due) (ObjectEnd Asked) is (λ due requests. omega arith)
stage_so client parts direct roomy (ObjectEnd Asked) is = rests_so client parts
stage_so client parts direct roomy (LinkEnd Due) is = gives_so client (LinkEnd Due) (LinkEnd Asked) is (λ due requests. omega arith)
stage_so client parts direct roomy (LinkEnd Asked) is = rests_so client parts
stage_so client parts direct roomy Over is = ends_so client.cause client parts is

pub steps-less : (client : Client) (parts : List Part) → client.transport ≡ L2cap → 1 ≤ room_for client.session client.name client.size client.limit → Lowers client (steps client parts)
steps-less client parts direct roomy = by client.failed client.given
  where
    by : (failed given : Bool) → Lowers client (if failed then record { client = client; step = NoMemory; left = parts } else if given then rests client parts else steps_at client.stage client parts)
    by true given = omega arith
    by false true = rests_so client parts
    by false false = stage_so client parts direct roomy client.stage refl
