-- All that a client goes through on a link spends a try for each request that its channel took.
use Rattle.std.proofs.Common.{◌≡◌, ◌≤◌, ◌+◌, ◌-◌, ℕ, Bool, true, false, not, ◌&&◌, ◌||◌, cond, List, [], ◌∷◌, length, Option, Some, None, refl, sym, ap, subst, ◌∙◌, inl, inr, arith, if◌then◌else◌}
use Rattle.std.specs.Prelude.{is_some}
use Rattle.std.specs.List.{AllByRecursion}
use Rattle.std.proofs.lemmas.List.{length-append}
use Rattle.cause_laws.specs.acl_fragments.specs.Pieces.{channel_of}
use Rattle.cause_laws.specs.bt_base.specs.declared.settings.Settings.{Settings}
use Rattle.cause_laws.specs.push_terms.specs.declared.outcome.Outcome.{Outcome}
use Rattle.cause_laws.specs.channel_model.specs.declared.event.ChannelEvent.{ChannelEvent}
use Rattle.cause_laws.specs.channel_model.specs.Calls.{waits, sends}
use Rattle.cause_laws.specs.channel_model.specs.Carrying.{Up as Handed, Nothing, Received}
use Rattle.cause_laws.specs.channel_model.specs.Hearing.{up}
use Rattle.cause_laws.specs.channel_model.specs.Value.{Channels, no_channels}
use Rattle.cause_laws.specs.sdp_client.specs.Asking.{is_due, after_request, request_octets}
use Rattle.cause_laws.specs.sdp_client.specs.Views.{is_awaiting}
use Rattle.cause_laws.specs.push_model.specs.declared.course.Point.TheVariants.{Due, Asked}
use Rattle.cause_laws.specs.push_model.specs.declared.course.Stage.{Stage}
use Rattle.cause_laws.specs.push_model.specs.declared.course.Stage.TheVariants.{Rest, Link, SearchChannel, Search, SearchEnd, Features, ObjectChannel, Object, ObjectEnd, LinkEnd, Over}
use Rattle.cause_laws.specs.push_model.specs.Client.{Client, cancelled}
use Rattle.cause_laws.specs.push_model.specs.Events.{is_search, search_psm}
use Rattle.cause_laws.specs.push_model.specs.Payloads.{Payload, Octets}
use Rattle.cause_laws.specs.push_model.specs.Steps as course
use Rattle.cause_laws.specs.push_model.specs.Steps.{Part, Step, Wait, MakeLink, AskFeatures, OpenChannel, SendSdu, CloseChannel, BreakLink, Ended, NoMemory, Stepped, steps, steps_at, tells_end}
use Rattle.cause_laws.specs.world_model.specs.Machines.{News, Linked, Failed, Heard, TimerFired, Cancelled, Opening}
use Rattle.cause_laws.specs.host_model.specs.Circumstances.{Circumstance}
use Rattle.cause_laws.specs.host_model.specs.Clients as profile
use Rattle.cause_laws.specs.host_model.specs.Clients.{ClientProfile, client_profile, after_end, ended, takes, submits, sent_on, fitted}
use Rattle.cause_laws.specs.host_model.specs.Endpoints.{endpoint_of, takes_sdu}
use Rattle.cause_laws.specs.host_model.specs.Hosts.{handed}
use Rattle.cause_laws.specs.host_model.specs.Pdus.{sdu_of}
use Rattle.cause_laws.specs.host_model.specs.Profiles.{Profile}
use Rattle.cause_laws.specs.host_model.specs.Shelves.{unused}
use Rattle.cause_laws.specs.host_laws.specs.Asked.{BeginsNone}
use Rattle.cause_laws.specs.host_laws.specs.Calls.{Asks, values_after}
use Rattle.cause_laws.specs.host_laws.specs.Woven.{Strand, Hearing, Giving, Firing, Telling, Gifting, Learning, Checking, Stepping, told_next, strand_list, strand_profile, woven_profile}
use Rattle.pair_laws.specs.push_laws.proofs.Late.{IsLate, anchor_of, object_quiet}
use Rattle.request_laws.specs.Streams.{taken_by, taken_at}
use Rattle.request_laws.specs.Twists.{taken_on}
use Rattle.search_laws.specs.Taken.{searches_taken, SearchesAreTaken}
use Rattle.search_laws.proofs.Counts.{IsSettled, StageCounts, Counts, late_counts, event_counts, hears_counts, timer_counts, cancels_counts}

abbrev Holds : (count : ℕ) → ClientProfile → Type 0
Holds count p = Counts count (is_some p.submitted) p.client

same : (count : ℕ) (p : ClientProfile) → Holds count p → Holds (count + 0) p
same count p holds = subst (λ (n : ℕ). Holds n p) (omega arith) holds

-- ---- a push that is over ends

module _ (count : ℕ) (waiting : Bool) (c : Client) (counts : Counts count waiting c) where
  abbrev Ends : Stepped → Type 0
  Ends o = Counts count waiting (after_end o.step o.client c)

  late_ends : (o : Stepped) → IsLate o.client.stage → Ends o
  late_ends o late = by o.step
    where
      by : (step : Step) → Counts count waiting (after_end step o.client c)
      by (Ended outcome) = late_counts count waiting o.client.stage o.client.given o.client.tries o.client.left late
      by Wait = counts
      by MakeLink = counts
      by AskFeatures = counts
      by (OpenChannel psm) = counts
      by (SendSdu psm payload) = counts
      by (CloseChannel psm) = counts
      by BreakLink = counts
      by NoMemory = counts

  told_ends : (cause : Option Outcome) (parts : List Part) → Ends (tells_end cause c parts)
  told_ends None parts = counts
  told_ends (Some outcome) parts = tt

  stage_ends : (stage : Stage) (parts : List Part) → c.stage ≡ stage → Ends (steps_at stage c parts)
  stage_ends Rest parts at = counts
  stage_ends (Link Due) parts at = counts
  stage_ends (Link Asked) parts at = counts
  stage_ends (SearchChannel Due) parts at = counts
  stage_ends (SearchChannel Asked) parts at = counts
  stage_ends Search parts at = by (is_due c.query)
    where
      asked : Client
      asked = record c { query = after_request c.query; left = c.left - 1; rest = request_octets c.query }

      by : (due : Bool) → Ends (if due then course.sends_sdu search_psm (Octets (request_octets c.query)) asked parts else course.rests c parts)
      by true = counts
      by false = counts
  stage_ends (SearchEnd Due) parts at = counts
  stage_ends (SearchEnd Asked) parts at = counts
  stage_ends (Features Due) parts at = counts
  stage_ends (Features Asked) parts at = counts
  stage_ends (ObjectChannel Due) parts at = counts
  stage_ends (ObjectChannel Asked) parts at = counts
  stage_ends Object parts at = late_ends (course.steps_object c.transport c parts) (object_quiet (anchor_of c) c.transport c parts (subst IsLate (sym at) tt, refl)).0.0
  stage_ends (ObjectEnd Due) parts at = counts
  stage_ends (ObjectEnd Asked) parts at = counts
  stage_ends (LinkEnd Due) parts at = counts
  stage_ends (LinkEnd Asked) parts at = counts
  stage_ends Over parts at = told_ends c.cause parts

  ended_counts : Counts count waiting (ended c)
  ended_counts = by c.failed c.given
    where
      lacking : Stepped
      lacking = record { client = c; step = NoMemory; left = [] }

      by : (failed given' : Bool) → Ends (if failed then lacking else if given' then course.rests c [] else steps_at c.stage c [])
      by true given' = counts
      by false true = counts
      by false false = stage_ends c.stage [] refl

-- ---- a step

module _ (count : ℕ) (v : Channels) (p : ClientProfile) (holds : Holds count p) where
  abbrev c : Client
  c = p.client

  abbrev after : Stepped → ClientProfile
  after o = record p { client = o.client; parts = unused o.left p.parts }

  abbrev Goes : Stepped → Type 0
  Goes o = Holds (count + length (taken_by search_psm o.step p.endpoints v)) (takes o.step v (after o) p).profile

  -- behind its search nothing is counted
  late_submits : (most : ℕ) (found : Option ℕ) (payload : Payload) (q : ClientProfile) → IsLate q.client.stage → Holds most (submits found payload v q).profile
  late_submits most None payload q late = late_counts most (is_some q.submitted) q.client.stage q.client.given q.client.tries q.client.left late
  late_submits most (Some own) payload q late = by (takes_sdu own (sdu_of payload) v)
    where
      by : (taken : Bool) → Holds most (cond taken (profile.waiting (sends own (sdu_of payload) v) (record q { submitted = Some own })) (profile.waiting v q)).profile
      by true = late_counts most true q.client.stage q.client.given q.client.tries q.client.left late
      by false = late_counts most (is_some q.submitted) q.client.stage q.client.given q.client.tries q.client.left late

  late_goes : (o : Stepped) → IsLate o.client.stage → Goes o
  late_goes o late = by o.step
    where
      now : (most : ℕ) (given : Bool) → StageCounts most given (is_some p.submitted) o.client.stage o.client.tries o.client.left
      now most given = late_counts most (is_some p.submitted) o.client.stage given o.client.tries o.client.left late

      by : (step : Step) → Holds (count + length (taken_by search_psm step p.endpoints v)) (takes step v (after o) p).profile
      by Wait = now (count + 0) o.client.given
      by MakeLink = same count p holds
      by AskFeatures = now (count + 0) false
      by (OpenChannel psm) = now (count + 0) false
      by (SendSdu psm payload) = late_submits (count + length (taken_by search_psm (SendSdu psm payload) p.endpoints v)) (endpoint_of psm p.endpoints) payload (after o) late
      by (CloseChannel psm) = now (count + 0) false
      by BreakLink = now (count + 0) false
      by (Ended outcome) = now (count + 0) o.client.given
      by NoMemory = now (count + 0) o.client.given

  told_goes : (cause : Option Outcome) (parts : List Part) → Goes (tells_end cause p.client parts)
  told_goes None parts = same count p holds
  told_goes (Some outcome) parts = tt

  abbrev asked : Client
  asked = record c { query = after_request p.client.query; left = p.client.left - 1; rest = request_octets p.client.query }

  sends_goes : (parts : List Part) → p.client.stage ≡ Search → p.client.given ≡ false → StageCounts count p.client.given (is_some p.submitted) Search p.client.tries p.client.left → Goes (course.sends_sdu search_psm (Octets (request_octets p.client.query)) asked parts)
  sends_goes parts at given now = by (endpoint_of search_psm p.endpoints)
    where
      payload : Payload
      payload = Octets (request_octets p.client.query)

      q : ClientProfile
      q = after (course.sends_sdu search_psm payload asked parts)

      none : is_some p.submitted ≡ false
      none = now.0 given

      open_still : (settled : IsSettled true (is_some p.submitted)) → ⊥
      open_still (inl is) = cc
      open_still (inr is) = let never : false ≡ true = sym none ∙ is in cc

      still : Holds (count + 0) (after (course.sends_sdu search_psm (Octets (request_octets p.client.query)) asked parts))
      still = subst (λ (s : Stage). StageCounts (count + 0) true (is_some p.submitted) s c.tries (c.left - 1)) (sym at) (λ is. cc, λ settled. absurd (open_still settled))

      spent : Holds (count + 1) (let took : ClientProfile = record q { submitted = Some 0 } in took)
      spent =
          let most : p.client.tries ≤ p.client.left + count = now.1 (inl given) in
          subst (λ (s : Stage). StageCounts (count + 1) true true s c.tries (c.left - 1)) (sym at) (λ is. cc, λ settled. omega (arith, most))

      on : (own : ℕ) (taken : Bool) → Holds (count + length (cond taken (sdu_of payload ∷ []) [])) (cond taken (profile.waiting (sends own (sdu_of payload) v) (record q { submitted = Some own })) (profile.waiting v q)).profile
      on own true = spent
      on own false = still

      by : (found : Option ℕ) → Holds (count + length (taken_on found (sdu_of payload) v)) (submits found payload v q).profile
      by None = still
      by (Some own) = on own (takes_sdu own (sdu_of payload) v)

  search_goes : (parts : List Part) → p.client.stage ≡ Search → p.client.given ≡ false → StageCounts count p.client.given (is_some p.submitted) Search p.client.tries p.client.left → Goes (course.steps_search p.client parts)
  search_goes parts at given now = by (is_due c.query)
    where
      by : (due : Bool) → Goes (if due then course.sends_sdu search_psm (Octets (request_octets p.client.query)) asked parts else course.rests p.client parts)
      by true = sends_goes parts at given now
      by false = same count p holds

  stage_goes : (stage : Stage) (parts : List Part) → p.client.stage ≡ stage → p.client.given ≡ false → StageCounts count p.client.given (is_some p.submitted) stage p.client.tries p.client.left → Goes (steps_at stage p.client parts)
  stage_goes Rest parts at given now = same count p holds
  stage_goes (Link Due) parts at given now = same count p holds
  stage_goes (Link Asked) parts at given now = same count p holds
  stage_goes (SearchChannel Due) parts at given now = (λ is. now.0 given, now.1)
  stage_goes (SearchChannel Asked) parts at given now = same count p holds
  stage_goes Search parts at given now = search_goes parts at given now
  stage_goes (SearchEnd Due) parts at given now = tt
  stage_goes (SearchEnd Asked) parts at given now = same count p holds
  stage_goes (Features Due) parts at given now = tt
  stage_goes (Features Asked) parts at given now = same count p holds
  stage_goes (ObjectChannel Due) parts at given now = tt
  stage_goes (ObjectChannel Asked) parts at given now = same count p holds
  stage_goes Object parts at given now = late_goes (course.steps_object c.transport c parts) (object_quiet (anchor_of c) c.transport c parts (subst IsLate (sym at) tt, refl)).0.0
  stage_goes (ObjectEnd Due) parts at given now = tt
  stage_goes (ObjectEnd Asked) parts at given now = same count p holds
  stage_goes (LinkEnd Due) parts at given now = tt
  stage_goes (LinkEnd Asked) parts at given now = same count p holds
  stage_goes Over parts at given now = told_goes c.cause parts

  steps_hold : Goes (steps p.client (fitted p))
  steps_hold = by c.failed c.given refl
    where
      lacking : Stepped
      lacking = record { client = p.client; step = NoMemory; left = fitted p }

      by : (failed given : Bool) → p.client.given ≡ given → Goes (if failed then lacking else if given then course.rests p.client (fitted p) else steps_at p.client.stage p.client (fitted p))
      by true given is = same count p holds
      by false true is = same count p holds
      by false false is = stage_goes c.stage (fitted p) refl is holds

-- ---- all else

module _ (settings : Settings) where
  abbrev A : Profile ClientProfile
  A = client_profile settings

  handed_holds : (count : ℕ) (brought : Handed) (p : ClientProfile) → Holds count p → Holds count (handed (client_profile settings) brought p)
  handed_holds count Nothing p holds = holds
  handed_holds count (Received own psm sdu) p holds = hears_counts count (is_some p.submitted) psm sdu p.client holds

  next_holds : (count : ℕ) (found : List ChannelEvent) (v : Channels) (p : ClientProfile) → Holds count p → Holds count (told_next (client_profile settings) found v p)
  next_holds count [] v p holds = holds
  next_holds count (event ∷ list) v p holds = let w : Channels = record v { events = list } in event_counts count (is_some p.submitted) event w p.client holds

  learns_holds : (count : ℕ) (circumstances : List Circumstance) (news : News) (p : ClientProfile) → BeginsNone (Learning circumstances news) → Holds count p → Holds count (profile.told circumstances news p)
  learns_holds count circumstances (Linked event) p none holds = absurd none
  learns_holds count circumstances (Failed status) p none holds = absurd none
  learns_holds count circumstances (Heard pdu) p none holds = holds
  learns_holds count circumstances TimerFired p none holds = timer_counts count (is_some p.submitted) p.client holds
  learns_holds count circumstances Cancelled p none holds = ended_counts count (is_some p.submitted) (cancelled p.client) (cancels_counts count (is_some p.submitted) p.client holds)
  learns_holds count circumstances (Opening name) p none holds = absurd none

  -- what its channel took was sent
  done_counts : (count : ℕ) (given : Bool) (stage : Stage) (tries left : ℕ) → StageCounts count given true stage tries left → StageCounts count false false stage tries left
  done_counts count given (SearchChannel point) tries left now = (λ is. refl, now.1)
  done_counts count given Search tries left now = (λ is. refl, λ settled. now.1 (inr refl))
  done_counts count given Rest tries left now = tt
  done_counts count given (Link point) tries left now = tt
  done_counts count given (SearchEnd point) tries left now = tt
  done_counts count given (Features point) tries left now = tt
  done_counts count given (ObjectChannel point) tries left now = tt
  done_counts count given Object tries left now = tt
  done_counts count given (ObjectEnd point) tries left now = tt
  done_counts count given (LinkEnd point) tries left now = tt
  done_counts count given Over tries left now = tt

  sent_holds : (count : ℕ) (submitted : Option ℕ) (v : Channels) (p : ClientProfile) → p.submitted ≡ submitted → Holds count p → Holds count (sent_on submitted v p)
  sent_holds count None v p is holds = holds
  sent_holds count (Some own) v p is holds = by (waits own v)
    where
      by : (waiting : Bool) → Holds count (cond waiting p (profile.done (record p { submitted = None })))
      by true = holds
      by false =
          done_counts count p.client.given p.client.stage p.client.tries p.client.left (subst (λ (o : Option ℕ). StageCounts count p.client.given (is_some o) p.client.stage p.client.tries p.client.left) is holds)

  strand_holds : (count : ℕ) (strand : Strand) (v : Channels) (p : ClientProfile) → BeginsNone strand → Holds count p → Holds (count + length (taken_at search_psm strand v p)) (strand_profile (client_profile settings) strand v p)
  strand_holds count (Hearing pdu) v p none holds = let q = handed A (up (channel_of pdu) pdu v) p in same count q (handed_holds count (up (channel_of pdu) pdu v) p holds)
  strand_holds count (Giving pdu) v p none holds = same count p holds
  strand_holds count Firing v p none holds = same count p holds
  strand_holds count Telling v p none holds = same count (told_next A v.events v p) (next_holds count v.events v p holds)
  strand_holds count (Gifting circumstances) v p none holds = same count (A.given circumstances p) holds
  strand_holds count (Learning circumstances news) v p none holds = same count (profile.told circumstances news p) (learns_holds count circumstances news p none holds)
  strand_holds count Checking v p none holds = same count (sent_on p.submitted v p) (sent_holds count p.submitted v p refl holds)
  strand_holds count Stepping v p none holds = steps_hold count v p holds

  weave_holds : (asks : Asks (client_profile settings)) (weave : List Strand) (count : ℕ) (v : Channels) (p : ClientProfile) → AllByRecursion BeginsNone weave → Holds count p
      → Holds (count + length (searches_taken settings asks weave v p)) (woven_profile (client_profile settings) asks weave v p)
  weave_holds asks [] count v p none holds = same count p holds
  weave_holds asks (strand ∷ weave) count v p none holds =
      let w = values_after A.policy v (strand_list A asks strand v p) in
      let q = strand_profile A strand v p in
      let here = taken_at search_psm strand v p in
      let later = searches_taken settings asks weave w q in
      let sum = length-append here later in
      subst (λ (n : ℕ). Holds n (woven_profile (client_profile settings) asks weave w q)) (omega (arith, sum)) (weave_holds asks weave (count + length here) w q none.1 (strand_holds count strand v p none.0 holds))

-- ---- on a link

fresh_counts : (stage : Stage) (given waiting : Bool) (tries left : ℕ) → tries ≤ left + 0 → is_search stage ≡ false → waiting ≡ false → StageCounts 0 given waiting stage tries left
fresh_counts (SearchChannel point) given waiting tries left whole before none = (λ is. none, omega (arith, whole))
fresh_counts Search given waiting tries left whole before none = cc
fresh_counts Rest given waiting tries left whole before none = tt
fresh_counts (Link point) given waiting tries left whole before none = tt
fresh_counts (SearchEnd point) given waiting tries left whole before none = tt
fresh_counts (Features point) given waiting tries left whole before none = tt
fresh_counts (ObjectChannel point) given waiting tries left whole before none = tt
fresh_counts Object given waiting tries left whole before none = tt
fresh_counts (ObjectEnd point) given waiting tries left whole before none = tt
fresh_counts (LinkEnd point) given waiting tries left whole before none = tt
fresh_counts Over given waiting tries left whole before none = tt

-- where it awaits its reply no step of it is left to be done
none_given : (search awaits given due : Bool) → ((search && awaits) && not (given || due)) ≡ true → (search ≡ true) × (given ≡ false)
none_given true true false due is = (refl, refl)
none_given true true true due is = cc
none_given true false given due is = cc
none_given false awaits given due is = cc

search_most : (count : ℕ) (given waiting : Bool) (stage : Stage) (tries left : ℕ) → is_search stage ≡ true → given ≡ false → StageCounts count given waiting stage tries left → tries ≤ left + count
search_most count given waiting Search tries left is none now = now.1 (inl none)
search_most count given waiting Rest tries left is none now = cc
search_most count given waiting (Link point) tries left is none now = cc
search_most count given waiting (SearchChannel point) tries left is none now = cc
search_most count given waiting (SearchEnd point) tries left is none now = cc
search_most count given waiting (Features point) tries left is none now = cc
search_most count given waiting (ObjectChannel point) tries left is none now = cc
search_most count given waiting Object tries left is none now = cc
search_most count given waiting (ObjectEnd point) tries left is none now = cc
search_most count given waiting (LinkEnd point) tries left is none now = cc
search_most count given waiting Over tries left is none now = cc

pub requests-are_taken : SearchesAreTaken
requests-are_taken settings asks list first last woven opens fresh awaits =
    let begun : Holds 0 first = fresh_counts first.client.stage first.client.given (is_some first.submitted) first.client.tries first.client.left fresh.whole fresh.before (ap (λ (o : Option ℕ). is_some o) fresh.none) in
    let all : Holds (0 + length (searches_taken settings asks woven.weave no_channels first)) last = subst (Holds (0 + length (searches_taken settings asks woven.weave no_channels first))) (sym woven.last_is) (weave_holds settings asks woven.weave 0 no_channels first opens begun) in
    let parts = none_given (is_search last.client.stage) (is_awaiting last.client.query) last.client.given (is_due last.client.query) awaits in
    let most = search_most (0 + length (searches_taken settings asks woven.weave no_channels first)) last.client.given (is_some last.submitted) last.client.stage last.client.tries last.client.left parts.0 parts.1 all in
    omega (arith, most)
