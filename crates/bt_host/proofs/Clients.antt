-- The calls of a client as those of its profile.
use Rattle.std.proofs.Common.{arith, ◌≡◌, ◌∙◌, ◌-◌, ◌≤◌, ◌==◌, ◌&&◌, ◌||◌, not, ℕ, Bool, true, false, List, [], ◌∷◌, ◌++◌, length, refl, sym, ap, subst, true≢false, if◌then◌else◌, map, inl, inr}
use Rattle.std.specs.Prelude.{Option, Some, None, is_some, Result, Ok, Err}
use Rattle.std.specs.List.{AllByRecursion}
use Rattle.bt_base.specs.Objects.{Object}
use Rattle.shelf_model.specs.obex_session.specs.Counting.{HasRisenBy}
use Rattle.shelf_model.specs.obex_session.specs.PutPackets.{place_of}
use Rattle.shelf_model.specs.obex_session.proofs.CountingLaws.{rises_none, rises_once}
use Rattle.push_model.proofs.LinkLaws as LinkLaws
use Rattle.push_model.proofs.LinkLaws.{steps_keep}
use Rattle.bt_base.specs.Numbers.{IsPsm}
use Rattle.std.proofs.lemmas.Bool.{cases_Bool, cond-true, eqb-true, eq-eqb}
use Rattle.channel_model.specs.declared.event.ChannelEvent.{ChannelEvent}
use Rattle.channel_model.specs.declared.event.ChannelEvent.TheVariants as event
use Rattle.shelf_model.specs.world_model.specs.Machines as machines
use Rattle.shelf_model.specs.world_model.specs.Machines.{Linked, Up, Down, Failed, Heard, TimerFired, Cancelled, Opening}
use Rattle.bt_base.specs.declared.ports.PortFault.{PortFault}
use Rattle.bt_base.specs.declared.ports.PortFault.TheVariants as fault
use Rattle.bt_base.specs.declared.settings.Settings.{Settings}
use Rattle.bt_base.specs.declared.settings.Transport.{Transport}
use Rattle.bt_base.specs.declared.settings.Transport.TheVariants.{L2cap, Rfcomm}
use Rattle.channel_model.specs.Value.{Channels}
use Rattle.channel_model.specs.Calls.{sends, peer_mtu, waits}
use Rattle.shelf_model.specs.rfcomm_model.specs.Machine.{leaves}
use Rattle.shelf_model.specs.rfcomm_model.specs.Saying.{Said, next}
use Rattle.shelf_model.specs.sdp_client.specs.Asking.{is_due, after_request, request_octets}
use Rattle.push_terms.specs.declared.outcome.Outcome.{Outcome}
use Rattle.push_model.specs.declared.course.Contact.TheVariants.{Closing}
use Rattle.push_model.specs.declared.course.Point.TheVariants.{Due, Asked}
use Rattle.push_model.specs.declared.course.Stage.{Stage}
use Rattle.push_model.specs.declared.course.Stage.TheVariants.{Rest, Link, SearchChannel, Search, SearchEnd, Features, ObjectChannel, Object as Carries, ObjectEnd, LinkEnd, Over}
use Rattle.push_model.specs.declared.closing.CloseCause.{CloseCause}
use Rattle.push_model.specs.Client.{Client, cancelled}
use Rattle.push_model.specs.Events as events
use Rattle.push_model.specs.Events.{News, hears_news}
use Rattle.push_model.specs.Payloads.{Payload, Octets}
use Rattle.push_model.specs.Laws.{links, link_steps}
use Rattle.push_model.specs.Steps as course
use Rattle.push_model.specs.Steps.{Part as Octs, Ask, Made, Stepped, Connect, Put, Abort, Disconnect, Close, Nothing, steps, steps_at}
use Rattle.push_client.specs.Ending as push
use Rattle.push_client.specs.Pushing.{gone, payload_in, step_of, wants_memory}
use Rattle.push_client.specs.Putting.{AreAnswers, IsAnswer, Comes}
use Rattle.push_client.specs.declared.step.Step.{Step}
use Rattle.shelf_model.specs.host_model.specs.Circumstances.{Circumstance, Excerpt, Part, parts_in}
use Rattle.shelf_model.specs.host_model.specs.Clients as model
use Rattle.shelf_model.specs.host_model.specs.Clients.{ClientProfile, client_profile, after_end}
use Rattle.shelf_model.specs.host_model.specs.Endpoints.{endpoint_of, takes_sdu}
use Rattle.shelf_model.specs.host_model.specs.Pdus.{sdu_of}
use Rattle.shelf_model.specs.host_model.specs.Profiles.{Stride}
use Rattle.shelf_model.specs.host_model.specs.Shelves.{measured, bare_part, fitting, unused}
use Rattle.shelf_model.specs.host_model.proofs.Shelves.{unused_none, unused_one, next_part}
use Rattle.bt_host.specs.Calls.{Does}
use Rattle.bt_host.specs.Uppers.{IsAside}
use Rattle.bt_host.specs.Pushing.{pushing, HasCid, Pushes, FoundMemory, IsOf, failures_in, AreOf}
use Rattle.bt_host.specs.PushingLaws.{Answers, joins}
use Rattle.bt_host.specs.Shelving.{is_failed, failed_now, owed}
use Rattle.bt_host.proofs.Calling.{does_none}
use Rattle.bt_host.proofs.Spending.{Spends, Keeps, Takes, Fails, Wants, spends}
use Rattle.push_client.proofs.KeepingLaws as keeping

-- ---- a push that is over ends

abbrev Stays : Client → Stepped → Type 0
Stays client one = after_end one.step one.client client ≡ client

either : (test : Bool) (client : Client) (a b : Stepped) → Stays client a → Stays client b → Stays client (if test then a else b)
either true client a b first second = first
either false client a b first second = second

direct : (outcome : Result (Unit {0}) PortFault) (client : Client) (request : Made) → Stays client (course.sends_direct outcome request)
direct (Ok done) client request = refl
direct (Err fault) client request = refl

asks_direct : (ask : Ask) (client now : Client) → Stays client (course.asks_direct ask now [])
asks_direct Close client now = refl
asks_direct Nothing client now = refl
asks_direct Connect client now = let request = course.requests Connect now [] in direct request.outcome client request
asks_direct Put client now = let request = course.requests Put now [] in direct request.outcome client request
asks_direct Abort client now = let request = course.requests Abort now [] in direct request.outcome client request
asks_direct Disconnect client now = let request = course.requests Disconnect now [] in direct request.outcome client request

said : (one : Option Said) (client now : Client) (parts : List Octs) → Stays client (course.said_by one now parts)
said None client now parts = refl
said (Some one) client now parts = refl

says : (client now : Client) (parts : List Octs) → Stays client (course.says now parts)
says client now parts = let full = course.filled now in said (next full.mux) client full parts

muxed : (outcome : Result (Unit {0}) PortFault) (client : Client) (request : Made) → Stays client (course.sends_muxed outcome request)
muxed (Ok done) client request = says client request.client request.left
muxed (Err fault) client request = refl

through : (ask : Ask) (client now : Client) → Stays client (course.asks_through ask now [])
through ask client now =
    let request = course.requests ask (record now { rest = [] }) [] in
    either (course.takes_some now.mux) client (course.sends_muxed request.outcome request) (course.rests now []) (muxed request.outcome client request) refl

asks_muxed : (ask : Ask) (client now : Client) → Stays client (course.asks_muxed ask now [])
asks_muxed Close client now = says client (record now { mux = leaves now.mux; contact = Closing }) []
asks_muxed Nothing client now = refl
asks_muxed Connect client now = through Connect client now
asks_muxed Put client now = through Put client now
asks_muxed Abort client now = through Abort client now
asks_muxed Disconnect client now = through Disconnect client now

goes : (one : Option Said) (client now : Client) → Stays client (course.goes_muxed one now [])
goes None client now =
    let quiet = record now { frame = None } in
    either (course.may_ask quiet) client (course.asks_muxed (course.next_ask quiet) quiet []) (course.rests quiet []) (asks_muxed (course.next_ask quiet) client quiet) refl
goes (Some one) client now = refl

carried : (transport : Transport) (client : Client) → Stays client (course.steps_object transport client [])
carried L2cap client =
    let new = record client { rest = [] } in
    either (course.may_ask client) client (course.asks_direct (course.next_ask client) new []) (course.rests client []) (asks_direct (course.next_ask client) client new) refl
carried Rfcomm client = let full = course.filled client in goes (next full.mux) client full

searched : (test : Bool) (client asked : Client) (psm : ℕ) (payload : Payload) → Stays client (if test then course.sends_sdu psm payload asked [] else course.rests client [])
searched true client asked psm payload = refl
searched false client asked psm payload = refl

abbrev pub over_if : Bool → Client → Client
over_if test client = if test then record client { stage = Rest } else client

told_end : (cause : Option Outcome) (client : Client) → (let one = course.tells_end cause client [] in after_end one.step one.client client) ≡ over_if (is_some cause) client
told_end None client = refl
told_end (Some outcome) client = refl

over_at : (stage : Stage) (client : Client) → (let one = steps_at stage client [] in after_end one.step one.client client) ≡ over_if (push.is_over stage && is_some client.cause) client
over_at Rest client = refl
over_at (Link Due) client = refl
over_at (Link Asked) client = refl
over_at (SearchChannel Due) client = refl
over_at (SearchChannel Asked) client = refl
over_at Search client =
    searched (is_due client.query) client (record client { query = after_request client.query; left = client.left - 1; rest = request_octets client.query }) 0x0001 (Octets (request_octets client.query))
over_at (SearchEnd Due) client = refl
over_at (SearchEnd Asked) client = refl
over_at (Features Due) client = refl
over_at (Features Asked) client = refl
over_at (ObjectChannel Due) client = refl
over_at (ObjectChannel Asked) client = refl
over_at Carries client = carried client.transport client
over_at (ObjectEnd Due) client = refl
over_at (ObjectEnd Asked) client = refl
over_at (LinkEnd Due) client = refl
over_at (LinkEnd Asked) client = refl
over_at Over client = told_end client.cause client

over_by : (failed given : Bool) (client : Client)
    → (let one : Stepped = if failed then record { client = client; step = course.NoMemory; left = [] } else if given then course.rests client [] else steps_at client.stage client [] in after_end one.step one.client client)
    ≡ over_if (not (failed || given) && (push.is_over client.stage && is_some client.cause)) client
over_by true given client = refl
over_by false true client = refl
over_by false false client = over_at client.stage client

pub ended_is : (client : Client) → model.ended client ≡ push.ended client
ended_is client = over_by client.failed client.given client

-- ---- answers of the shelf

-- an answer is of the object that is pushed, from where the body of the next PUT begins
abbrev excerpt_of : Client → Octs → Excerpt
excerpt_of client answer = record { name = client.name; at = place_of client.session.put; answer = answer }

abbrev answered : Client → Octs → Circumstance
answered client answer = Part (excerpt_of client answer)

parts_of : (client : Client) (used : List Octs) (rest : List Circumstance) → parts_in (map (answered client) used ++ rest) ≡ map (excerpt_of client) used ++ parts_in rest
parts_of client [] rest = refl
parts_of client (answer ∷ used) rest = ap (λ (xs : List Excerpt). excerpt_of client answer ∷ xs) (parts_of client used rest)

-- answers fit what was asked, and behind the step those that were left over are left, whichever they are
record Fits (client : Client) (used : List Octs) (rest : List Excerpt) (new : Client) (result : Step) : Type 0 where
  left : List Octs
  stepped_is : steps client (fitting client (map (excerpt_of client) used ++ rest)) ≡ gone new result left
  left_is : unused left (map (excerpt_of client) used ++ rest) ≡ rest

module _ (client : Client) (content : Option (List Object)) (f f' s s' : ℕ) where
  one_is : (answer : Octs) → IsAnswer client content f f' s s' answer → FoundMemory answer → IsOf content (answered client answer)
  one_is (Ok part) is found = ((is.1, is.2), tt)
  one_is (Err fault.Failed) is found = (tt, tt)
  one_is (Err fault.NoMemory) is found = absurd found

  one_fails : (answer : Octs) → IsAnswer client content f f' s s' answer → f ≤ f' → HasRisenBy (failures_in (answered client answer ∷ [])) f f'
  one_fails (Ok part) is faults = rises_none f f' faults
  one_fails (Err fault.Failed) is faults = rises_once f f' faults is
  one_fails (Err fault.NoMemory) is faults = rises_none f f' faults

  pub answers_of : (content' : Option (List Object)) (used : List Octs) → AreAnswers client content f f' s s' used → AllByRecursion FoundMemory used → content' ≡ content → f ≤ f' → s ≤ s' → AreOf content content' f f' s s' (map (answered client) used)
  answers_of content' [] answers found stays faults shortages = record { content_stays = stays; faults_stay = faults; shortages_stay = shortages; each = tt; few = rises_none f f' faults }
  answers_of content' (answer ∷ []) answers found stays faults shortages =
      record { content_stays = stays; faults_stay = faults; shortages_stay = shortages; each = (one_is answer answers found.0, tt); few = one_fails answer answers faults }
  answers_of content' (answer ∷ other ∷ more) answers found stays faults shortages = absurd answers

  -- and they fit
  one_fits : (answer : Octs) → IsAnswer client content f f' s s' answer → measured (course.put_count client) answer ≡ answer
  one_fits (Ok part) is = cond-true (length part == course.put_count client) (Ok part) (Err fault.Failed) (eq-eqb (length part) (course.put_count client) is.0)
  one_fits (Err cause) is = refl

  all_fit : (used : List Octs) (rest : List Excerpt) (new : Client) (result : Step) → AreAnswers client content f f' s s' used → ((rest : List Octs) → steps client (used ++ rest) ≡ gone new result rest) → Fits client used rest new result
  all_fit [] rest new result answers comes = record { left = fitting client rest; stepped_is = comes (fitting client rest); left_is = unused_none client rest }
  all_fit (answer ∷ []) rest new result answers comes =
      let left = map bare_part rest in
      record { left = left; stepped_is = ap (λ (a : Octs). steps client (a ∷ left)) (next_part client answer ∙ one_fits answer answers) ∙ comes left; left_is = unused_one (excerpt_of client answer) rest }
  all_fit (answer ∷ other ∷ more) rest new result answers comes = absurd answers

-- what a step does leaves where its push is, its outcome, its PSM, and that it is not short of memory
record Alike (before after : Client) : Type 0 where
  pub failed : after.failed ≡ before.failed
  pub stage : after.stage ≡ before.stage
  pub psm : after.psm ≡ before.psm
  pub cause : after.cause ≡ before.cause

alike_if : (test : Bool) (own : ℕ) (on v : Channels) (end : ClientProfile) → Alike end.client (if test then model.waiting on (record end { submitted = Some own }) else model.waiting v end).profile.client
alike_if true own on v end = record { failed = refl; stage = refl; psm = refl; cause = refl }
alike_if false own on v end = record { failed = refl; stage = refl; psm = refl; cause = refl }

alike_submits : (own : Option ℕ) (payload : Payload) (v : Channels) (end : ClientProfile) → Alike end.client (model.submits own payload v end).profile.client
alike_submits None payload v end = record { failed = refl; stage = refl; psm = refl; cause = refl }
alike_submits (Some own) payload v end = alike_if (takes_sdu own (sdu_of payload) v) own (sends own (sdu_of payload) v) v end

alike : (one : course.Step) (v : Channels) (end : ClientProfile) → Alike end.client (model.takes one v end end).profile.client
alike course.Wait v end = record { failed = refl; stage = refl; psm = refl; cause = refl }
alike course.MakeLink v end = record { failed = refl; stage = refl; psm = refl; cause = refl }
alike course.AskFeatures v end = record { failed = refl; stage = refl; psm = refl; cause = refl }
alike (course.OpenChannel psm) v end = record { failed = refl; stage = refl; psm = refl; cause = refl }
alike (course.SendSdu psm payload) v end = alike_submits (endpoint_of psm end.endpoints) payload v end
alike (course.CloseChannel psm) v end = record { failed = refl; stage = refl; psm = refl; cause = refl }
alike course.BreakLink v end = record { failed = refl; stage = refl; psm = refl; cause = refl }
alike (course.Ended outcome) v end = record { failed = refl; stage = refl; psm = refl; cause = refl }
alike course.NoMemory v end = record { failed = refl; stage = refl; psm = refl; cause = refl }

-- ---- what a step used of them

never_now : (failed : Bool) → (failed && not failed) ≡ false
never_now true = refl
never_now false = refl

-- None of the answers that a step used was want of memory, and one said that the shelf failed where its push ends so.
pub record Used (old new : Client) (used : List Octs) : Type 0 where
  pub found : AllByRecursion FoundMemory used
  pub pays : failures_in (map (answered old) used) ≡ owed (failed_now old.cause new.cause)

still_owed : (old new : Client) → new.cause ≡ old.cause → 0 ≡ owed (failed_now old.cause new.cause)
still_owed old new same = sym (ap (λ (c : Option Outcome). owed (failed_now old.cause c)) same ∙ ap owed (never_now (is_failed old.cause)))

module _ (old new : Client) (result : Step) (works : new.failed ≡ false) where
  abbrev Left : List Octs → List Octs → Type 0
  Left parts left = Spends old.failed old.cause parts (gone new result left)

  used_none : Left (Ok [] ∷ []) (Ok [] ∷ []) → Used old new []
  used_none (Keeps left failed cause) = record { found = tt; pays = still_owed old new cause }
  used_none (Takes part is failed cause) = absurd (let e = is in cc)
  used_none (Fails (inl is) failed none now step) = absurd (let e = is in cc)
  used_none (Fails (inr is) failed none now step) = absurd (let e = is.0 in cc)
  used_none (Wants is failed) = absurd (let e = is in cc)

  used_one : (answer : Octs) → Left (answer ∷ []) [] → Used old new (answer ∷ [])
  used_one answer (Keeps left failed cause) = absurd (let e = left in cc)
  used_one (Ok given) (Takes part is failed cause) = record { found = (tt, tt); pays = still_owed old new cause }
  used_one (Err error) (Takes part is failed cause) = absurd (let e = is in cc)
  used_one (Ok given) (Fails (inl is) failed none now step) = absurd (let e = is in cc)
  used_one (Err fault.Failed) (Fails (inl is) failed none now step) =
      record { found = (tt, tt); pays = sym (ap (λ (c : Option Outcome). owed (failed_now c new.cause)) none ∙ ap (λ (c : Option Outcome). owed (is_failed c && true)) now) }
  used_one (Err fault.NoMemory) (Fails (inl is) failed none now step) = absurd (let e = is in cc)
  used_one answer (Fails (inr is) failed none now step) = absurd (let e = is.0 in cc)
  used_one answer (Wants is failed) = absurd (true≢false (sym failed ∙ works))

  pub used_so : (content : Option (List Object)) (f f' s s' : ℕ) (used : List Octs) → AreAnswers old content f f' s s' used → ((rest : List Octs) → steps old (used ++ rest) ≡ gone new result rest) → Used old new used
  used_so content f f' s s' [] answers comes = used_none (subst (λ (one : Stepped). Spends old.failed old.cause (Ok [] ∷ []) one) (comes (Ok [] ∷ [])) (spends old (Ok [] ∷ [])))
  used_so content f f' s s' (answer ∷ []) answers comes = used_one answer (subst (λ (one : Stepped). Spends old.failed old.cause (answer ∷ []) one) (comes []) (spends old (answer ∷ [])))
  used_so content f f' s s' (answer ∷ other ∷ more) answers comes = absurd answers

-- ---- a step

abbrev with_parts : List Excerpt → Stride ClientProfile → Stride ClientProfile
with_parts parts stride = record { channels = stride.channels; profile = record (stride.profile) { parts = parts }; more = stride.more }

submitted_with : (test : Bool) (own : ℕ) (on v : Channels) (end : ClientProfile) (parts : List Excerpt)
    → (if test then model.waiting on (record end { parts = parts; submitted = Some own }) else model.waiting v (record end { parts = parts }))
    ≡ with_parts parts (if test then model.waiting on (record end { submitted = Some own }) else model.waiting v end)
submitted_with true own on v end parts = refl
submitted_with false own on v end parts = refl

submits_with : (own : Option ℕ) (payload : Payload) (v : Channels) (end : ClientProfile) (parts : List Excerpt) → model.submits own payload v (record end { parts = parts }) ≡ with_parts parts (model.submits own payload v end)
submits_with None payload v end parts = refl
submits_with (Some own) payload v end parts = submitted_with (takes_sdu own (sdu_of payload) v) own (sends own (sdu_of payload) v) v end parts

asks_one : link_steps course.MakeLink ≡ 0 → ⊥
asks_one is = omega (arith, is)

-- what a step does hangs neither on the answers that are left, nor on what was before
takes_with : (one : course.Step) (v : Channels) (after before : ClientProfile) (parts : List Excerpt) → link_steps one ≡ 0 → model.takes one v (record after { parts = parts }) before ≡ with_parts parts (model.takes one v after after)
takes_with course.Wait v after before parts is = refl
takes_with course.MakeLink v after before parts is = absurd (asks_one is)
takes_with course.AskFeatures v after before parts is = refl
takes_with (course.OpenChannel psm) v after before parts is = refl
takes_with (course.SendSdu psm payload) v after before parts is = submits_with (endpoint_of psm after.endpoints) payload v after parts
takes_with (course.CloseChannel psm) v after before parts is = refl
takes_with course.BreakLink v after before parts is = refl
takes_with (course.Ended outcome) v after before parts is = refl
takes_with course.NoMemory v after before parts is = refl

-- no link is asked for
asks_none : (client : Client) (parts : List Octs) → links client.stage ≡ 0 → link_steps (steps client parts).step ≡ 0
asks_none client parts is = let e = steps_keep client parts in omega (arith, is, e)

called_still : (client : Client) (parts : List Octs) → links client.stage ≡ 0 → links (steps client parts).client.stage ≡ 0
called_still client parts is = let e = steps_keep client parts in omega (arith, is, e)

-- a step of its profile, of which it is known whether its shelf failed
pub record StepsTo {P : Type 0} (content : P → Option (List Object)) (faults shortages : P → ℕ) (settings : Settings) (old new : ClientProfile) (more : Bool) (v v' : Channels) (first last : P) : Type 0 where
  pub used : List Circumstance
  pub pays : failures_in used ≡ owed (failed_now old.client.cause new.client.cause)
  pub answered : Answers content faults shortages first used last
  pub does : (rest : List Circumstance) → (client_profile settings).steps v (pushing old (used ++ rest)) ≡ record { channels = v'; profile = pushing new rest; more = more }

module _ {P : Type 0} (content : P → Option (List Object)) (faults shortages : P → ℕ) where
  pub step_does : (end mid after : ClientProfile) (new : Client) (result : Step) (lacks more : Bool) (v v' : Channels) (first last : P)
      → mid ≡ record end { client = new } → links end.client.stage ≡ 0
      → Comes (steps end.client) (gone new result) end.client (content first) (faults first) (faults last) (shortages first) (shortages last) lacks → new.failed ≡ false → content last ≡ content first
      → record { channels = v'; profile = after; more = more } ≡ model.takes (step_of (payload_in mid.client) result) v mid mid
      → (settings : Settings) → StepsTo content faults shortages settings end after more v v' first last
  step_does end mid after new result lacks more v v' first last mid_is called k works stays takes_is settings = record {
    used = map (answered end.client) k.used;
    pays = (used_so end.client new result works (content first) (faults first) (faults last) (shortages first) (shortages last) k.used k.answers k.comes).pays
        ∙ ap (λ (c : Option Outcome). owed (failed_now end.client.cause c)) (sym (ap (λ (s : Stride ClientProfile). s.profile.client.cause) takes_is ∙ (alike (step_of (payload_in mid.client) result) v mid).cause ∙ ap (λ (m : ClientProfile). m.client.cause) mid_is));
    answered = answers_of end.client (content first) (faults first) (faults last) (shortages first) (shortages last) (content last) k.used k.answers (used_so end.client new result works (content first) (faults first) (faults last) (shortages first) (shortages last) k.used k.answers k.comes).found stays k.faults_stay k.shortages_stay;
    does = λ rest.
        let one = step_of (payload_in new) result in
        let none : link_steps one ≡ 0 = ap (λ (s : Stepped). link_steps s.step) (sym (k.comes [])) ∙ asks_none end.client (k.used ++ []) called in
        let fits = all_fit end.client (content first) (faults first) (faults last) (shortages first) (shortages last) k.used (parts_in rest) new result k.answers k.comes in
        let given = map (excerpt_of end.client) k.used ++ parts_in rest in
        ap (λ (xs : List Excerpt). model.next_stride v (record end { parts = xs })) (parts_of end.client k.used rest)
        ∙ ap (λ (s : Stepped). model.takes s.step v (record end { client = s.client; parts = unused s.left given }) (record end { parts = given })) fits.stepped_is
        ∙ ap (λ (xs : List Excerpt). model.takes one v (record end { client = new; parts = xs }) (record end { parts = given })) fits.left_is
        ∙ takes_with one v (record end { client = new }) (record end { parts = given }) (parts_in rest) none
        ∙ ap (λ (m : ClientProfile). with_parts (parts_in rest) (model.takes (step_of (payload_in m.client) result) v m m)) (sym mid_is)
        ∙ ap (with_parts (parts_in rest)) (sym takes_is);
  }

-- ---- what it needs, it has still

none_left : (n m : ℕ) → n ≤ m → m ≡ 0 → n ≡ 0
none_left n m low none = omega (arith, low, none)

pub hears_sound : (end : ClientProfile) (news : News) → Pushes end → Pushes (record end { client = hears_news news end.client })
hears_sound end news sound =
    let keeps = keeping.news_keeps news end.client in
    record {
      works = keeps.2 ∙ sound.works;
      called = none_left (links (hears_news news end.client).stage) (links end.client.stage) (LinkLaws.news_keeps news end.client) sound.called;
      psm = keeps.1 sound.psm;
      endpoints = sound.endpoints;
    }

over_sound : (test : Bool) (end : ClientProfile) → Pushes end → Pushes (record end { client = over_if test end.client })
over_sound true end sound = record { works = sound.works; called = refl; psm = sound.psm; endpoints = sound.endpoints }
over_sound false end sound = sound

pub ended_sound : (end : ClientProfile) → Pushes end → Pushes (record end { client = model.ended end.client })
ended_sound end sound = subst (λ (c : Client). Pushes (record end { client = c })) (sym (ended_is end.client)) (over_sound (push.tells_end end.client) end sound)

unlinked_sound : (client : Client) (end : ClientProfile) → Pushes (record end { client = client }) → Pushes (model.unlinked client end)
unlinked_sound client end sound = record { works = sound.works; called = sound.called; psm = sound.psm; endpoints = tt }

cancelled_sound : (end : ClientProfile) → Pushes end → Pushes (record end { client = cancelled end.client })
cancelled_sound end sound =
    let keeps = keeping.cancelled_keeps end.client in
    record {
      works = keeps.2 ∙ sound.works;
      called = none_left (links (cancelled end.client).stage) (links end.client.stage) (LinkLaws.cancelled_keeps end.client) sound.called;
      psm = keeps.1 sound.psm;
      endpoints = sound.endpoints;
    }

pub told_sound : (news : machines.News) (end : ClientProfile) → IsAside news → Pushes end → Pushes (model.told [] news end)
told_sound (Linked Up) end aside sound = unlinked_sound (hears_news events.LinkUp end.client) end (hears_sound end events.LinkUp sound)
told_sound (Linked (Down reason)) end aside sound =
    let heard = hears_news (events.LinkDown reason) end.client in
    unlinked_sound (model.ended heard) end (ended_sound (record end { client = heard }) (hears_sound end (events.LinkDown reason) sound))
told_sound (Failed status) end aside sound =
    let heard = hears_news (events.LinkFailed status) end.client in
    unlinked_sound (model.ended heard) end (ended_sound (record end { client = heard }) (hears_sound end (events.LinkFailed status) sound))
told_sound (Heard pdu) end aside sound = sound
told_sound TimerFired end aside sound = hears_sound end events.Timer sound
told_sound Cancelled end aside sound = ended_sound (record end { client = cancelled end.client }) (cancelled_sound end sound)
told_sound (Opening name) end aside sound = absurd aside

opened_sound : (mtu : Option ℕ) (psm : ℕ) (end : ClientProfile) → Pushes end → Pushes (record end { client = model.opened_by mtu psm end.client })
opened_sound None psm end sound = sound
opened_sound (Some mtu) psm end sound = hears_sound end (events.ChannelOpen psm mtu) sound

closed_sound : (cause : Option CloseCause) (psm : ℕ) (end : ClientProfile) → Pushes end → Pushes (record end { client = model.closed_by cause psm end.client })
closed_sound None psm end sound = sound
closed_sound (Some cause) psm end sound = hears_sound end (events.ChannelClosed psm cause) sound

pub happened_sound : (event : ChannelEvent) (v : Channels) (end : ClientProfile) → Pushes end → Pushes (model.happened event v end)
happened_sound (event.Opened own psm) v end sound = opened_sound (peer_mtu own v) psm end sound
happened_sound (event.Closed own psm reason) v end sound = closed_sound (model.cause_of reason) psm end sound
happened_sound (event.Features features) v end sound = hears_sound end events.FeaturesTold sound
happened_sound event.FeaturesLost v end sound = hears_sound end events.FeaturesLost sound
happened_sound (event.DisconnectLost own) v end sound = sound

pub done_sound : (end : ClientProfile) → Pushes end → Pushes (model.done end)
done_sound end sound = record { works = sound.works; called = sound.called; psm = sound.psm; endpoints = sound.endpoints }

settled_sound : (test : Bool) (end : ClientProfile) → Pushes end → Pushes (if test then end else model.done (record end { submitted = None }))
settled_sound true end sound = sound
settled_sound false end sound = record { works = sound.works; called = sound.called; psm = sound.psm; endpoints = sound.endpoints }

sent_sound_on : (own : Option ℕ) (v : Channels) (end : ClientProfile) → Pushes end → Pushes (model.sent_on own v end)
sent_sound_on None v end sound = sound
sent_sound_on (Some own) v end sound = settled_sound (waits own v) end sound

pub sent_sound : (v : Channels) (end : ClientProfile) → Pushes end → Pushes (model.sent v end)
sent_sound v end sound = sent_sound_on end.submitted v end sound

pub step_sound : {content : Option (List Object)} {f f' s s' : ℕ} (end mid after : ClientProfile) (new : Client) (result : Step) (lacks more : Bool) (v v' : Channels)
    → mid ≡ record end { client = new } → Pushes end → Comes (steps end.client) (gone new result) end.client content f f' s s' lacks → wants_memory result ≡ new.failed → wants_memory result ≡ false
    → record { channels = v'; profile = after; more = more } ≡ model.takes (step_of (payload_in mid.client) result) v mid mid → AllByRecursion HasCid after.endpoints → Pushes after
step_sound end mid after new result lacks more v v' mid_is sound k fails works takes_is endpoints =
    let one = model.takes (step_of (payload_in mid.client) result) v mid mid in
    let same : after ≡ one.profile = ap (λ (s : Stride ClientProfile). s.profile) takes_is in
    let kept = alike (step_of (payload_in mid.client) result) v mid in
    let client_is : mid.client ≡ new = ap (λ (m : ClientProfile). m.client) mid_is in
    let came : (steps end.client (k.used ++ [])).client ≡ new = ap (λ (s : Stepped). s.client) (k.comes []) in
    record {
      works = ap (λ (m : ClientProfile). m.client.failed) same ∙ kept.failed ∙ ap (λ (c : Client). c.failed) client_is ∙ sym fails ∙ works;
      called = ap (λ (m : ClientProfile). links m.client.stage) same ∙ ap links kept.stage ∙ ap (λ (c : Client). links c.stage) (client_is ∙ sym came) ∙ called_still end.client (k.used ++ []) sound.called;
      psm = subst IsPsm (sym (ap (λ (m : ClientProfile). m.client.psm) same ∙ kept.psm ∙ ap (λ (c : Client). c.psm) (client_is ∙ sym came))) ((keeping.steps_keep end.client (k.used ++ [])).1 sound.psm);
      endpoints = endpoints;
    }

-- ---- calls that do not ask the shelf

told_with : (news : machines.News) (end : ClientProfile) (rest : List Circumstance) → IsAside news → model.told [] news (pushing end rest) ≡ pushing (model.told [] news end) rest
told_with (Linked Up) end rest aside = refl
told_with (Linked (Down reason)) end rest aside = refl
told_with (Failed status) end rest aside = refl
told_with (Heard pdu) end rest aside = refl
told_with TimerFired end rest aside = refl
told_with Cancelled end rest aside = refl
told_with (Opening name) end rest aside = absurd aside

pub told_as : (news : machines.News) (old new : ClientProfile) → IsAside news → new ≡ model.told [] news old → (settings : Settings) (rest : List Circumstance) → (client_profile settings).told [] news (pushing old rest) ≡ pushing new rest
told_as news old new aside is settings rest = told_with news old rest aside ∙ ap (λ (e : ClientProfile). pushing e rest) (sym is)

settled_with : (test : Bool) (end : ClientProfile) (rest : List Circumstance)
    → (if test then pushing end rest else model.done (record (pushing end rest) { submitted = None })) ≡ pushing (if test then end else model.done (record end { submitted = None })) rest
settled_with true end rest = refl
settled_with false end rest = refl

sent_with : (own : Option ℕ) (v : Channels) (end : ClientProfile) (rest : List Circumstance) → model.sent_on own v (pushing end rest) ≡ pushing (model.sent_on own v end) rest
sent_with None v end rest = refl
sent_with (Some own) v end rest = settled_with (waits own v) end rest

pub sent_as : (v : Channels) (old new : ClientProfile) → new ≡ model.sent v old → (settings : Settings) (rest : List Circumstance) → (client_profile settings).sent v (pushing old rest) ≡ pushing new rest
sent_as v old new is settings rest = sent_with old.submitted v old rest ∙ ap (λ (e : ClientProfile). pushing e rest) (sym is)

module _ {P : Type 0} (content : P → Option (List Object)) (faults shortages : P → ℕ) (port : P) where
  pub told_does : (news : machines.News) (old new : ClientProfile) → IsAside news → new ≡ model.told [] news old
      → (settings : Settings) → Does (Answers content faults shortages) (λ rest. (client_profile settings).told [] news (pushing old rest)) (pushing new) port port
  told_does news old new aside is settings = does_none (Answers content faults shortages) (joins content faults shortages) _ _ port (λ rest. told_as news old new aside is settings rest)

  pub happened_does : (event : ChannelEvent) (v : Channels) (old new : ClientProfile) → new ≡ model.happened event v old
      → (settings : Settings) → Does (Answers content faults shortages) (λ rest. (client_profile settings).happened event v (pushing old rest)) (pushing new) port port
  happened_does event v old new is settings = does_none (Answers content faults shortages) (joins content faults shortages) _ _ port (λ rest. ap (λ (e : ClientProfile). pushing e rest) (sym is))

  pub received_does : (own psm : ℕ) (sdu : List ℕ) (old new : ClientProfile) → new ≡ model.received own psm sdu old
      → (settings : Settings) → Does (Answers content faults shortages) (λ rest. (client_profile settings).received own psm sdu (pushing old rest)) (pushing new) port port
  received_does own psm sdu old new is settings = does_none (Answers content faults shortages) (joins content faults shortages) _ _ port (λ rest. ap (λ (e : ClientProfile). pushing e rest) (sym is))

-- ---- an SDU of a PSM that is none

apart : (psm one : ℕ) → (IsPsm psm → ⊥) → IsPsm one → (psm == one) ≡ false
apart psm one none is = elim (cases_Bool (psm == one)) [ inl same ↦ absurd (none (subst IsPsm (sym (eqb-true psm one same)) is)) | inr off ↦ off ]

if_off : (test : Bool) (a b : Client) → test ≡ false → (if test then a else b) ≡ b
if_off true a b off = absurd (true≢false off)
if_off false a b off = refl

passed_at : (stage : Stage) (psm : ℕ) (sdu : List ℕ) (client : Client) → (IsPsm psm → ⊥) → IsPsm client.psm → events.sdu_at stage psm sdu client ≡ client
passed_at Rest psm sdu client none is = refl
passed_at (Link point) psm sdu client none is = refl
passed_at (SearchChannel point) psm sdu client none is = refl
passed_at Search psm sdu client none is = if_off (psm == events.search_psm) (events.hears_reply sdu client) client (apart psm events.search_psm none refl)
passed_at (SearchEnd point) psm sdu client none is = refl
passed_at (Features point) psm sdu client none is = refl
passed_at (ObjectChannel point) psm sdu client none is = if_off (psm == client.psm) (events.hears_outside client.transport client) client (apart psm client.psm none is)
passed_at Carries psm sdu client none is = if_off (psm == client.psm) (events.hears_object client.transport sdu client) client (apart psm client.psm none is)
passed_at (ObjectEnd point) psm sdu client none is = if_off (psm == client.psm) (events.hears_outside client.transport client) client (apart psm client.psm none is)
passed_at (LinkEnd point) psm sdu client none is = refl
passed_at Over psm sdu client none is = refl

pub passed : (own psm : ℕ) (sdu : List ℕ) (end : ClientProfile) → (IsPsm psm → ⊥) → IsPsm end.client.psm → end ≡ model.received own psm sdu end
passed own psm sdu end none is = ap (λ (c : Client). record end { client = c }) (sym (passed_at end.client.stage psm sdu end.client none is))
