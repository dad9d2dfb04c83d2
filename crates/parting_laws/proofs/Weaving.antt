-- All that happens to a client on its links, one thing after the other: it ends no push since a limit was met, but by its own request.
use Rattle.std.proofs.Common.{◌≡◌, ℕ, suc, List, [], ◌∷◌, ◌++◌, fold, map, Bool, true, false, cond, Option, Some, None, refl, sym, ap, subst, ◌∙◌, ◌⊎◌, inl, inr, append_assoc, append-nil}
use Rattle.std.specs.Prelude.{get_or, is_some}
use Rattle.std.specs.List.{AllByRecursion, flat_map}
use Rattle.std.proofs.lemmas.List.Sums.{fold-append}
use Rattle.cause_laws.specs.acl_fragments.specs.Pieces.{channel_of}
use Rattle.cause_laws.specs.bt_base.specs.declared.settings.Settings.{Settings}
use Rattle.cause_laws.specs.capture.specs.Histories.{EachAfter}
use Rattle.cause_laws.specs.channel_model.specs.declared.event.ChannelEvent.{ChannelEvent}
use Rattle.cause_laws.specs.channel_model.specs.declared.event.ChannelEvent.TheVariants.{Closed}
use Rattle.cause_laws.specs.channel_model.specs.declared.event.CloseReason.TheVariants as reasons
use Rattle.cause_laws.specs.channel_model.specs.declared.errand.Errand.TheVariants as errands
use Rattle.cause_laws.specs.channel_model.specs.Asking.{new_request, asks as asks_for}
use Rattle.cause_laws.specs.channel_model.specs.Following.{with_channel}
use Rattle.cause_laws.specs.channel_model.specs.Calls.{can_connect, link_down, lost_at, waits, connected, asks_features, disconnected_at, disconnected_held, disconnected, sends_on, sends_held, sends}
use Rattle.cause_laws.specs.channel_model.specs.Carrying.{Up as Handed, Nothing, Received}
use Rattle.cause_laws.specs.channel_model.specs.Changing.{held_at, setup_of}
use Rattle.cause_laws.specs.channel_model.specs.Closing.{closes_at}
use Rattle.cause_laws.specs.channel_model.specs.Hearing.{up}
use Rattle.cause_laws.specs.channel_model.specs.Policies.{Policy, policy}
use Rattle.cause_laws.specs.channel_model.specs.Value.{Setup, Stage, Requested, Connected, Leaving, Closing, Crossed, Held, Channels, no_channels}
use Rattle.cause_laws.specs.push_model.specs.Client.{Client, begins, cancelled}
use Rattle.cause_laws.specs.push_model.specs.Events as events
use Rattle.cause_laws.specs.push_model.specs.Events.{hears_news}
use Rattle.cause_laws.specs.push_model.specs.Payloads.{Payload}
use Rattle.cause_laws.specs.push_model.specs.Steps.{Step, Wait, MakeLink, AskFeatures, OpenChannel, SendSdu, CloseChannel, BreakLink, Ended, NoMemory, steps, stepped}
use Rattle.cause_laws.specs.world_model.specs.Machines.{LinkEvent, Up, Down, News, Linked, Failed, Heard, TimerFired, Cancelled, Opening}
use Rattle.cause_laws.specs.host_model.specs.Circumstances.{Circumstance}
use Rattle.cause_laws.specs.host_model.specs.Clients.{ClientProfile, NoBid, client_profile, after_end, ended, after_call, calls, happened, told, sent_on, submits, takes, fitted}
use Rattle.cause_laws.specs.host_model.specs.Clients as profile
use Rattle.cause_laws.specs.host_model.specs.Endpoints.{endpoint_of, takes_sdu}
use Rattle.cause_laws.specs.host_model.specs.Hosts.{handed, tells_each}
use Rattle.cause_laws.specs.host_model.specs.Pdus.{sdu_of}
use Rattle.cause_laws.specs.host_model.specs.Profiles.{Profile}
use Rattle.cause_laws.specs.host_model.specs.Shelves.{size_for, name_for, unused}
use Rattle.cause_laws.specs.host_laws.specs.Calls.{Asks, Send, from_call, values_after}
use Rattle.cause_laws.specs.host_laws.specs.Feeds.{tidings_by}
use Rattle.cause_laws.specs.host_laws.specs.Lives.{Span}
use Rattle.cause_laws.specs.host_laws.specs.Searching.{AsksAsItSteps, step_call, sent_call, closed_call}
use Rattle.cause_laws.specs.host_laws.specs.Woven.{Strand, Hearing, Giving, Firing, Telling, Gifting, Learning, Checking, Stepping, IsOnLink, strand_list, strand_profile, woven_list, woven_profile, Woven, turned, AreWoven}
use Rattle.cause_laws.specs.host_laws.proofs.Changes.{comes-fine, gives-fine, timed-fine}
use Rattle.cause_laws.specs.host_laws.proofs.Courses.{StepSo, steps_so}
use Rattle.cause_laws.specs.host_laws.proofs.KeepingClients.{Stands, Well, strand_stands}
use Rattle.cause_laws.specs.host_laws.proofs.Links.{value_run}
use Rattle.cause_laws.specs.host_laws.proofs.OneChannel.{notes, notes_more}
use Rattle.cause_laws.specs.host_laws.proofs.Refusing.{value-more}
use Rattle.cause_laws.specs.host_laws.proofs.StandingClients.{Idle}
use Rattle.limit_laws.specs.pair_laws.specs.channel_laws.specs.Runs.{Occurrence, Comes, Connects, AsksFeatures, Disconnects, Sends, Gives, Fires, Run, new_link, run_on, run_of, value_after}
use Rattle.limit_laws.specs.pair_laws.specs.channel_laws.specs.Singly.{AsksForNoChannel}
use Rattle.limit_laws.specs.pair_laws.specs.channel_laws.proofs.Running.{all-sound}
use Rattle.limit_laws.specs.told_laws.specs.Limits.{LimitsNone}
use Rattle.limit_laws.specs.Spares.{LimitNone}
use Rattle.parting_laws.proofs.Deeds.{Spent, Searches, Moves, still, moves_both, hears_moves, timer_moves, asks_moves, finish_moves, cancels_moves, failed_moves, begins_moves, down_moves, up_spent}
use Rattle.parting_laws.proofs.Limiting.{Headed, Doom, Rests, goes_on, occurs, telling, search_used}
use Rattle.parting_laws.proofs.Plain.{AllPlain, plain_more}

-- ---- what it asks of its channels

-- nothing more is to be told, or that it took a request back
abbrev Grows : (v w : Channels) → Type 0
Grows v w = (w.events ≡ v.events) ⊎ ((own : ℕ) × (psm : ℕ) × (w.events ≡ v.events ++ Closed own psm reasons.OwnClosed ∷ []))

connect_grows : (psm : ℕ) (v : Channels) → (connected psm v).events ≡ v.events
connect_grows psm v = by (can_connect v)
  where
    by : (can : Bool) → (cond can (asks_for (errands.Connection v.next) (with_channel psm (Requested (new_request v)) v)) v).events ≡ v.events
    by true = refl
    by false = refl

features_grow : (v : Channels) → (asks_features v).events ≡ v.events
features_grow v = by (is_some v.features)
  where
    by : (asked : Bool) → (cond asked v (asks_for errands.Features (record v { features = Some (new_request v) }))).events ≡ v.events
    by true = refl
    by false = refl

send_grows : (own : ℕ) (sdu : List ℕ) (v : Channels) → (sends own sdu v).events ≡ v.events
send_grows own sdu v = by (held_at own v)
  where
    on : (held : Held) (setup : Option Setup) → (sends_on setup sdu held v).events ≡ v.events
    on held None = refl
    on held (Some setup) = refl

    by : (found : Option Held) → (sends_held found sdu v).events ≡ v.events
    by None = refl
    by (Some held) = on held (setup_of held.stage)

leave_grows : (own : ℕ) (v : Channels) → Grows v (disconnected own v)
leave_grows own v = by (held_at own v)
  where
    at : (held : Held) (stage : Stage) → held.stage ≡ stage → Grows v (disconnected_at stage held v)
    at held (Requested request) is = inr (held.own, held.psm, ap (λ (s : Stage). (closes_at s reasons.OwnClosed held v).events) is)
    at held (Connected peer setup) is = inl refl
    at held (Leaving peer setup request) is = inl refl
    at held (Closing peer request checked) is = inl refl
    at held (Crossed peer request) is = inl refl

    by : (found : Option Held) → Grows v (disconnected_held found v)
    by None = inl refl
    by (Some held) = at held held.stage refl

-- what was first stays so, and what is first was so before
headed_on : (v w : Channels) (event : ChannelEvent) → Grows v w → Headed event v → Headed event w
headed_on v w event (inl same) (more, told) = (more, ap notes same ∙ told)
headed_on v w event (inr (own, psm, is)) (more, told) =
    (more ++ Closed own psm reasons.OwnClosed ∷ [], ap notes is ∙ (notes_more v.events (Closed own psm reasons.OwnClosed ∷ []) ∙ ap (λ (l : List ChannelEvent). l ++ Closed own psm reasons.OwnClosed ∷ []) told))

limit_before : (v w : Channels) (own psm : ℕ) → Grows v w → Headed (Closed own psm reasons.RetryLimit) w → Headed (Closed own psm reasons.RetryLimit) v
limit_before v w own psm (inl same) (more, told) = (more, ap notes (sym same) ∙ told)
limit_before v w own psm (inr (o, n, is)) (more, told) = by (notes v.events) refl (sym (ap notes is ∙ notes_more v.events (Closed o n reasons.OwnClosed ∷ [])) ∙ told)
  where
    by : (before : List ChannelEvent) → notes v.events ≡ before → before ++ Closed o n reasons.OwnClosed ∷ [] ≡ Closed own psm reasons.RetryLimit ∷ more → Headed (Closed own psm reasons.RetryLimit) v
    by [] before both = cc
    by (first ∷ rest) before both = let same : first ≡ Closed own psm reasons.RetryLimit = cc in (rest, before ∙ ap (λ (e : ChannelEvent). e ∷ rest) same)

asked_rests : (v w : Channels) (c : Client) → Grows v w → (Searches c → AllPlain v → AllPlain w) → Rests v c → Rests w c
asked_rests v w c grows plain rests = record { spent = rests.spent; first = λ own psm headed. rests.first own psm (limit_before v w own psm grows headed); plain = λ searches. by searches (rests.plain searches) }
  where
    by : Searches c → Doom v ⊎ AllPlain v → Doom w ⊎ AllPlain w
    by searches (inl (own, psm, reason, headed)) = inl (own, psm, reason, headed_on v w (Closed own psm reason) grows headed)
    by searches (inr all) = inr (plain searches all)

-- ---- what it does besides

end_moves : (step : Step) (c d : Client) → Moves ⊥ c d → Moves ⊥ c (after_end step d c)
end_moves (Ended outcome) c d moves = moves
end_moves Wait c d moves = still c
end_moves MakeLink c d moves = still c
end_moves AskFeatures c d moves = still c
end_moves (OpenChannel psm) c d moves = still c
end_moves (SendSdu psm payload) c d moves = still c
end_moves (CloseChannel psm) c d moves = still c
end_moves BreakLink c d moves = still c
end_moves NoMemory c d moves = still c

ended_moves : (c : Client) → Moves ⊥ c (ended c)
ended_moves c = let one = steps c [] in end_moves one.step c one.client (asks_moves [] c)

call_moves : (step : Step) (p : ClientProfile) (d : Client) → Moves ⊥ p.client d → Moves ⊥ p.client (after_call step d p).client
call_moves MakeLink p d moves = moves_both p.client d (stepped d) moves (finish_moves d)
call_moves Wait p d moves = still p.client
call_moves AskFeatures p d moves = still p.client
call_moves (OpenChannel psm) p d moves = still p.client
call_moves (SendSdu psm payload) p d moves = still p.client
call_moves (CloseChannel psm) p d moves = still p.client
call_moves BreakLink p d moves = still p.client
call_moves (Ended outcome) p d moves = still p.client
call_moves NoMemory p d moves = still p.client

calls_moves : (p : ClientProfile) → Moves ⊥ p.client (calls p).client
calls_moves p = let one = steps p.client [] in call_moves one.step p one.client (asks_moves [] p.client)

then_ended : (c d : Client) → Moves ⊥ c d → Moves ⊥ c (ended d)
then_ended c d moves = moves_both c d (ended d) moves (ended_moves d)

learns_moves : (circumstances : List Circumstance) (news : News) (p : ClientProfile) → tidings_by news ≡ [] → Moves ⊥ p.client (told circumstances news p).client
learns_moves circumstances (Linked event) p aside = cc
learns_moves circumstances (Failed status) p aside = then_ended p.client (hears_news (events.LinkFailed status) p.client) (failed_moves status p.client)
learns_moves circumstances (Heard pdu) p aside = still p.client
learns_moves circumstances TimerFired p aside = timer_moves p.client
learns_moves circumstances Cancelled p aside = then_ended p.client (cancelled p.client) (cancels_moves p.client)
learns_moves circumstances (Opening name) p aside =
    let d = begins (size_for circumstances name) (name_for name) p.client in
    let begun : ClientProfile = record p { client = ended d; submitted = None; bid = NoBid } in
    moves_both p.client (ended d) (calls begun).client (then_ended p.client d (begins_moves (size_for circumstances name) (name_for name) p.client)) (calls_moves begun)

handed_moves : (brought : Handed) (p : ClientProfile) (settings : Settings) → Moves ⊥ p.client (handed (client_profile settings) brought p).client
handed_moves Nothing p settings = still p.client
handed_moves (Received own psm sdu) p settings = hears_moves psm sdu p.client

sent_moves : (submitted : Option ℕ) (v : Channels) (p : ClientProfile) → Moves ⊥ p.client (sent_on submitted v p).client
sent_moves None v p = still p.client
sent_moves (Some own) v p = by (waits own v)
  where
    by : (b : Bool) → Moves ⊥ p.client (cond b p (profile.done (record p { submitted = None }))).client
    by true = still p.client
    by false = finish_moves p.client

-- ---- on a link

module _ (settings : Settings) (asks : Asks (client_profile settings)) (as_steps : AsksAsItSteps settings asks) where
  abbrev wanted : Policy
  wanted = policy settings false

  abbrev A : Profile ClientProfile
  A = client_profile settings

  abbrev run : List Occurrence → Run
  run front = run_of (policy settings false) front

  abbrev value : List Occurrence → Channels
  value front = (run_of (policy settings false) front).value

  abbrev Limits : (front list : List Occurrence) → Type 0
  Limits front list = EachAfter (λ f one. LimitsNone (run f) (run (f ++ one ∷ []))) front list

  -- nothing happens to its channels
  quiet_rests : (front : List Occurrence) (c : Client) → Rests (value front) c → Rests (value (front ++ [])) c
  quiet_rests front c rests = subst (λ (l : List Occurrence). Rests (value l) c) (sym (append-nil front)) rests

  -- it asks for something
  one_asked : (front : List Occurrence) (one : Occurrence) (c d : Client) → Grows (value front) (value_after wanted one (value front)) → (Searches c → AsksForNoChannel one) → Moves ⊥ c d → Rests (value front) c → Rests (value (front ++ one ∷ [])) d
  one_asked front one c d grows quiet moves rests =
      let next = value-more wanted front one in
      goes_on (value (front ++ one ∷ [])) c d moves (asked_rests (value front) (value (front ++ one ∷ [])) c (subst (Grows (value front)) (sym next) grows) (λ searches all. plain_more settings front one (quiet searches) all) rests)

  submits_rests : (front : List Occurrence) (found : Option ℕ) (payload : Payload) (c : Client) (after : ClientProfile) → Moves ⊥ c after.client → Rests (value front) c → Rests (value (front ++ from_call (sent_call (value front) payload found))) (submits found payload (value front) after).profile.client
  submits_rests front None payload c after moves rests = quiet_rests front after.client (goes_on (value front) c after.client moves rests)
  submits_rests front (Some own) payload c after moves rests = by (takes_sdu own (sdu_of payload) (value front))
    where
      v : Channels
      v = value front

      by : (taken : Bool) → Rests (value (front ++ from_call (cond taken (Some (Send own (sdu_of payload))) None))) (cond taken (profile.waiting (sends own (sdu_of payload) v) (record after { submitted = Some own })) (profile.waiting v after)).profile.client
      by true = one_asked front (Sends own (sdu_of payload)) c after.client (inl (send_grows own (sdu_of payload) v)) (λ searches. tt) moves rests
      by false = quiet_rests front after.client (goes_on v c after.client moves rests)

  closes_rests : (front : List Occurrence) (found : Option ℕ) (c d : Client) → Moves ⊥ c d → Rests (value front) c → Rests (value (front ++ from_call (closed_call found))) d
  closes_rests front None c d moves rests = quiet_rests front d (goes_on (value front) c d moves rests)
  closes_rests front (Some own) c d moves rests = one_asked front (Disconnects own) c d (leave_grows own (value front)) (λ searches. tt) moves rests

  step_rests : (front : List Occurrence) (step : Step) (after before : ClientProfile) → StepSo before.client after.client step → Moves ⊥ before.client after.client → Rests (value front) before.client
      → Rests (value (front ++ from_call (step_call step (value front) after))) (takes step (value front) after before).profile.client
  step_rests front Wait after before so moves rests = quiet_rests front after.client (goes_on (value front) before.client after.client moves rests)
  step_rests front MakeLink after before so moves rests = quiet_rests front before.client rests
  step_rests front AskFeatures after before so moves rests =
      one_asked front AsksFeatures before.client (stepped after.client) (inl (features_grow (value front))) (λ searches. tt) (moves_both before.client after.client (stepped after.client) moves (finish_moves after.client)) rests
  step_rests front (OpenChannel psm) after before so moves rests =
      one_asked front (Connects psm) before.client (stepped after.client) (inl (connect_grows psm (value front))) (λ searches. search_used before.client.stage before.client.psm searches.0 so.0)
      (moves_both before.client after.client (stepped after.client) moves (finish_moves after.client)) rests
  step_rests front (SendSdu psm payload) after before so moves rests = submits_rests front (endpoint_of psm after.endpoints) payload before.client after moves rests
  step_rests front (CloseChannel psm) after before so moves rests =
      closes_rests front (endpoint_of psm after.endpoints) before.client (stepped after.client) (moves_both before.client after.client (stepped after.client) moves (finish_moves after.client)) rests
  step_rests front BreakLink after before so moves rests =
      quiet_rests front (stepped after.client) (goes_on (value front) before.client (stepped after.client) (moves_both before.client after.client (stepped after.client) moves (finish_moves after.client)) rests)
  step_rests front (Ended outcome) after before so moves rests = quiet_rests front after.client (goes_on (value front) before.client after.client moves rests)
  step_rests front NoMemory after before so moves rests = quiet_rests front after.client (goes_on (value front) before.client after.client moves rests)

  strand_rests : (strand : Strand) (front : List Occurrence) (p : ClientProfile) → IsOnLink strand → Limits front (strand_list A asks strand (value front) p) → Stands settings asks p.client (run front) → Rests (value front) p.client
      → Rests (value (front ++ strand_list A asks strand (value front) p)) (strand_profile A strand (value front) p).client
  strand_rests (Hearing pdu) front p on limits stands rests =
      goes_on (value (front ++ Comes pdu ∷ [])) p.client (handed A (up (channel_of pdu) pdu (value front)) p).client (handed_moves (up (channel_of pdu) pdu (value front)) p settings)
      (occurs settings asks front (Comes pdu) p.client (λ K fine k. comes-fine K fine wanted (λ psm. refl) pdu (value front) k) limits.0 rests tt stands)
  strand_rests (Giving pdu) front p on limits stands rests =
      occurs settings asks front (Gives pdu) p.client (λ K fine k. gives-fine K fine (value front) (all-sound wanted front).core.lone k) limits.0 rests tt stands
  strand_rests Firing front p on limits stands rests = occurs settings asks front Fires p.client (λ K fine k. timed-fine K fine wanted (value front) k) limits.0 rests tt stands
  strand_rests Telling front p on limits stands rests = telling settings asks front p limits.0.waits stands rests
  strand_rests (Gifting circumstances) front p on limits stands rests = quiet_rests front p.client rests
  strand_rests (Learning circumstances news) front p on limits stands rests =
      quiet_rests front (told circumstances news p).client (goes_on (value front) p.client (told circumstances news p).client (learns_moves circumstances news p on) rests)
  strand_rests Checking front p on limits stands rests =
      quiet_rests front (sent_on p.submitted (value front) p).client (goes_on (value front) p.client (sent_on p.submitted (value front) p).client (sent_moves p.submitted (value front) p) rests)
  strand_rests Stepping front p on limits stands rests =
      let one = steps p.client (fitted p) in
      let after : ClientProfile = record p { client = one.client; parts = unused one.left p.parts } in
      subst (λ call. Rests (value (front ++ from_call call)) (takes one.step (value front) after p).profile.client) (sym (as_steps (value front) p)) (step_rests front one.step after p (steps_so p.client (fitted p)) (asks_moves (fitted p) p.client) rests)

  each_ahead : (P : List Occurrence → Occurrence → Type 0) (front list rest : List Occurrence) → EachAfter P front (list ++ rest) → EachAfter P front list × EachAfter P (front ++ list) rest
  each_ahead P front [] rest each = (tt, subst (λ (l : List Occurrence). EachAfter P l rest) (sym (append-nil front)) each)
  each_ahead P front (one ∷ list) rest (now, later) =
      let more = each_ahead P (front ++ one ∷ []) list rest later in ((now, more.0), subst (λ (l : List Occurrence). EachAfter P l rest) (append_assoc front (one ∷ []) list) more.1)

  weave_rests : (weave : List Strand) (front : List Occurrence) (p : ClientProfile) (v : Channels) → value front ≡ v → AllByRecursion IsOnLink weave → Limits front (woven_list A asks weave v p) → Stands settings asks p.client (run front) → Rests (value front) p.client
      → Spent (woven_profile A asks weave v p).client
  weave_rests [] front p v is on limits stands rests = rests.spent
  weave_rests (strand ∷ weave) front p v is on limits stands rests =
      let list = strand_list A asks strand v p in
      let q = strand_profile A strand v p in
      let u = values_after wanted v list in
      let both = each_ahead (λ f one. LimitsNone (run f) (run (f ++ one ∷ []))) front list (woven_list A asks weave u q) limits in
      let here : Rests (value (front ++ list)) q.client
      = subst (λ w. Limits front (strand_list A asks strand w p) → Rests (value (front ++ strand_list A asks strand w p)) (strand_profile A strand w p).client) is (λ ahead. strand_rests strand front p on.0 ahead stands rests) both.0 in
      let now : Stands settings asks q.client (fold (run_on wanted) (run front) list)
      = subst (λ w. Stands settings asks (strand_profile A strand w p).client (fold (run_on wanted) (run front) (strand_list A asks strand w p))) is (strand_stands settings asks strand front p on.0 stands) in
      let next : value (front ++ list) ≡ u = ap (λ (r : Run). r.value) (fold-append (run_on wanted) new_link front list) ∙ (value_run wanted list (run front) ∙ ap (λ w. values_after wanted w list) is) in
      weave_rests weave (front ++ list) q u next on.1 both.1 (subst (Stands settings asks q.client) (sym (fold-append (run_on wanted) new_link front list)) now) here

  -- ---- on all links

  link_spent : (list : List Occurrence) (first last : ClientProfile) → LimitNone wanted list → Woven A asks list first last → Spent first.client → Spent last.client
  link_spent list first last limits woven spent =
      let begun : Stands settings asks first.client new_link = Well (Idle (record { held_is = refl; quiet = refl; notes_are = refl })) tt in
      let rests : Rests (value []) first.client = record { spent = spent; first = λ own psm headed. let no : [] ≡ Closed own psm reasons.RetryLimit ∷ headed.0 = headed.1 in cc; plain = λ searches. inr (λ own held found. cc) } in
      subst (λ (p : ClientProfile). Spent p.client) (sym woven.last_is)
      (weave_rests woven.weave [] first no_channels refl woven.on_link (subst (Limits []) woven.list_is limits) begun rests)

  -- a link that goes down tells of nothing but that
  lost_same : (stage : Stage) (held : Held) (rest : List ChannelEvent) (v : Channels) (p : ClientProfile) → ((w : Channels) (q : ClientProfile) → (tells_each A rest w q).client ≡ q.client) → (tells_each A (lost_at stage held ++ rest) v p).client ≡ p.client
  lost_same (Requested request) held rest v p later = later (record v { events = rest }) (happened (Closed held.own held.psm reasons.LinkDown) (record v { events = rest }) p)
  lost_same (Connected peer setup) held rest v p later = later (record v { events = rest }) (happened (Closed held.own held.psm reasons.LinkDown) (record v { events = rest }) p)
  lost_same (Leaving peer setup request) held rest v p later = later (record v { events = rest }) (happened (Closed held.own held.psm reasons.LinkDown) (record v { events = rest }) p)
  lost_same (Closing peer request checked) held rest v p later = later v p
  lost_same (Crossed peer request) held rest v p later = later v p

  all_lost : (list : List Held) (v : Channels) (p : ClientProfile) → (tells_each A (flat_map (λ (held : Held). lost_at held.stage held) list) v p).client ≡ p.client
  all_lost [] v p = refl
  all_lost (held ∷ list) v p = lost_same held.stage held (flat_map (λ (h : Held). lost_at h.stage h) list) v p (λ w q. all_lost list w q)

  turned_spent : (circumstances : List Circumstance) (event : LinkEvent) (v : Channels) (p : ClientProfile) → v.events ≡ [] → Spent p.client → Spent (turned A circumstances event v p).client
  turned_spent circumstances Up v p none spent = up_spent p.client spent
  turned_spent circumstances (Down reason) v p none spent =
      let told' = tells_each A (link_down v).events (link_down v) p in
      let same : told'.client ≡ p.client = ap (λ (l : List ChannelEvent). (tells_each A (l ++ flat_map (λ (held : Held). lost_at held.stage held) v.held) (link_down v) p).client) none ∙ all_lost v.held (link_down v) p in
      (then_ended told'.client (hears_news (events.LinkDown reason) told'.client) (down_moves reason told'.client)).spent (subst Spent (sym same) spent)

  pub links_spent : (spans : List Span) (now : List Occurrence) (first last : ClientProfile) → AllByRecursion (λ (span : Span). (run_of wanted span.list).value.events ≡ []) spans
      → ((k : ℕ) → LimitNone wanted (get_or (map (λ (span : Span). span.list) spans ++ now ∷ []) k [])) → AreWoven A asks spans now first last → Spent first.client → Spent last.client
  links_spent [] now first last none each woven spent = link_spent now first last (each 0) woven spent
  links_spent (span ∷ spans) now first last none each (mid, circumstances, woven, later) spent =
      let v = values_after wanted no_channels span.list in
      let events_none : v.events ≡ [] = ap (λ (w : Channels). w.events) (sym (value_run wanted span.list new_link)) ∙ none.0 in
      links_spent spans now (turned A circumstances span.event v mid) last none.1 (λ k. each (suc k)) later (turned_spent circumstances span.event v mid events_none (link_spent span.list first mid (each 0) woven spent))
