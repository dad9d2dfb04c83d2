-- What a client asks to be sent on the one channel of a PSM is what its end of that channel takes.
use Rattle.std.proofs.Common.{◌≡◌, ℕ, List, [], ◌∷◌, ◌++◌, Bool, true, false, cond, eqb, ◌&&◌, Option, Some, None, refl, sym, ap, ap₂, subst, ◌∙◌, inl, append_assoc, arith}
use Rattle.pair_laws.specs.acl_fragments.specs.Pieces.{channel_of}
use Rattle.pair_laws.specs.bt_base.specs.declared.settings.Settings.{Settings}
use Rattle.pair_laws.specs.l2cap_signal.specs.Commands.{Command, connection_request}
use Rattle.pair_laws.specs.link_talk.specs.Sayings.{Saying}
use Rattle.pair_laws.specs.channel_model.specs.declared.errand.Errand.TheVariants as errands
use Rattle.pair_laws.specs.channel_model.specs.declared.event.ChannelEvent.{ChannelEvent}
use Rattle.pair_laws.specs.channel_model.specs.Asking.{new_request, asks}
use Rattle.pair_laws.specs.channel_model.specs.Calls.{can_connect, carrier_at, peer_mtu, sends, waits}
use Rattle.pair_laws.specs.channel_model.specs.Carrying.{Up as Handed, Nothing, Received}
use Rattle.pair_laws.specs.channel_model.specs.Changing.{held_at}
use Rattle.pair_laws.specs.channel_model.specs.Following.{with_channel}
use Rattle.pair_laws.specs.channel_model.specs.Giving.{on_held, connection_at}
use Rattle.pair_laws.specs.channel_model.specs.Hearing.{up}
use Rattle.pair_laws.specs.channel_model.specs.Policies.{Policy, policy}
use Rattle.pair_laws.specs.channel_model.specs.Value.{Requested, Held, Channels, no_channels}
use Rattle.pair_laws.specs.channel_model.proofs.Going.{new_held}
use Rattle.pair_laws.specs.channel_laws.specs.Belonging.{HasAsked}
use Rattle.pair_laws.specs.channel_laws.specs.OwnTalk.{spoken, command_with, asked_between}
use Rattle.pair_laws.specs.channel_laws.specs.Runs.{Occurrence, Connects, Run, run_of}
use Rattle.pair_laws.specs.channel_laws.specs.Taken.{is_free, taken_of}
use Rattle.pair_laws.specs.channel_laws.proofs.Asking.{newest-asks, asked-one}
use Rattle.pair_laws.specs.channel_laws.proofs.Inviting.{held_here}
use Rattle.pair_laws.specs.channel_laws.proofs.Running.{all-sound}
use Rattle.pair_laws.specs.channel_laws.proofs.Saying.{stands-left, stands-right}
use Rattle.pair_laws.specs.push_model.specs.Payloads.{Payload}
use Rattle.pair_laws.specs.push_model.specs.Client.{Client, begins}
use Rattle.pair_laws.specs.push_model.specs.Steps.{Step, Wait, MakeLink, AskFeatures, OpenChannel, SendSdu, CloseChannel, BreakLink, Ended, NoMemory, steps}
use Rattle.pair_laws.specs.world_model.specs.Machines.{News, Linked, Up, Down, Failed, Heard, TimerFired, Cancelled, Opening}
use Rattle.pair_laws.specs.host_model.specs.Circumstances.{Circumstance}
use Rattle.pair_laws.specs.host_model.specs.Clients.{ClientProfile, NoBid, ended, after_call, submits, sent_on, takes, client_profile, fitted}
use Rattle.pair_laws.specs.host_model.specs.Clients as profile
use Rattle.pair_laws.specs.host_model.specs.Endpoints.{Endpoint, endpoint_of, with_answer, takes_sdu}
use Rattle.pair_laws.specs.host_model.specs.Hosts.{handed}
use Rattle.pair_laws.specs.host_model.specs.Pdus.{sdu_of}
use Rattle.pair_laws.specs.host_model.specs.Shelves.{size_for, name_for, unused}
use Rattle.pair_laws.specs.host_laws.specs.Calls.{from_call, values_after}
use Rattle.pair_laws.specs.host_laws.specs.Woven.{Strand, Hearing, Giving, Firing, Telling, Gifting, Learning, Checking, Stepping, told_next, strand_list, strand_profile, woven_list}
use Rattle.pair_laws.specs.host_laws.proofs.Asking.{send_if, sends_on, closes_on, asked, clients_ask, clients-call}
use Rattle.request_laws.specs.Streams.{taken_by, taken_at}
use Rattle.request_laws.specs.Twists.{taken_on}
use Rattle.request_laws.proofs.Accepted.{Opened, opened-open, opened-stays}
use Rattle.request_laws.proofs.Takes.{takes_from, takes_both, takes_of, run_more, value_behind, Grown, grown, IsTaken, is_taken, AllEndpoints, with_new, all_mapped, endpoint_so}

-- ---- a request for a channel is said

-- its host asked for a channel of the endpoint's PSM, with the endpoint
abbrev pub WasAsked : List Saying → Endpoint → Type 0
WasAsked said endpoint = (identifier : ℕ) × HasAsked identifier endpoint.psm endpoint.own said

pub asked_later : (before after : List Saying) → Grown before after → (endpoint : Endpoint) → WasAsked before endpoint → WasAsked after endpoint
asked_later before after more endpoint (identifier, stands) =
    (identifier, subst (λ (l : List Saying). HasAsked identifier endpoint.psm endpoint.own l) (sym more.is) (stands-left (spoken (command_with identifier (connection_request endpoint.psm endpoint.own))) before more.more stands))

asked_now : (own : Policy) (front : List Occurrence) (psm : ℕ) → can_connect (run_of own front).value ≡ true → WasAsked (run_of own (front ++ Connects psm ∷ [])).said (record { psm = psm; own = (run_of own front).value.next })
asked_now own front psm can = (
  v.identifier,
  subst (λ (r : Run). HasAsked v.identifier psm v.next r.said) (sym (run_more own front (Connects psm)))
      (subst (λ (b : Bool). HasAsked v.identifier psm v.next ((run_of own front).said ++ asked_between v (cond b w v))) (sym can)
      (subst (λ (l : List Saying). HasAsked v.identifier psm v.next ((run_of own front).said ++ l)) (sym said) (stands-right (spoken command) (run_of own front).said (spoken command ∷ []) (inl refl)))),
)
  where
    v : Channels
    v = (run_of own front).value

    new : Held
    new = new_held psm v.next (Requested (new_request v))

    w : Channels
    w = asks (errands.Connection v.next) (with_channel psm (Requested (new_request v)) v)

    command : Command
    command = command_with v.identifier (connection_request psm v.next)

    here : held_at v.next w ≡ Some new
    here = held_here v.held new ((all-sound own front).core.held_below v.next (omega arith))

    said : asked_between v w ≡ spoken command ∷ []
    said = asked-one v w (errands.Connection v.next) command refl (newest-asks (errands.Connection v.next) (with_channel psm (Requested (new_request v)) v)) (ap (on_held (λ h. connection_at h.stage h)) here)

-- ---- the endpoints of a client

module _ (carrier : ℕ) (settings : Settings) where
  abbrev own : Policy
  own = policy settings false

  abbrev pub Asked : List Occurrence → ClientProfile → Type 0
  Asked front p = AllEndpoints (WasAsked (run_of (policy settings false) front).said) p.endpoints

  later_asked : (front here : List Occurrence) (p : ClientProfile) → Asked front p → Asked (front ++ here) p
  later_asked front here p all = all_mapped (WasAsked (run_of own front).said) (WasAsked (run_of own (front ++ here)).said) p.endpoints (asked_later (run_of own front).said (run_of own (front ++ here)).said (grown own front here)) all

  handed_asked : (front : List Occurrence) (brought : Handed) (p : ClientProfile) → Asked front p → Asked front (handed (client_profile settings) brought p)
  handed_asked front Nothing p all = all
  handed_asked front (Received endpoint psm sdu) p all = all

  next_asked : (front : List Occurrence) (events : List ChannelEvent) (v : Channels) (p : ClientProfile) → Asked front p → Asked front (told_next (client_profile settings) events v p)
  next_asked front [] v p all = all
  next_asked front (event ∷ events) v p all = all

  call_asked : (front : List Occurrence) (step : Step) (client : Client) (p : ClientProfile) → Asked front p → Asked front (after_call step client p)
  call_asked front Wait client p all = all
  call_asked front MakeLink client p all = all
  call_asked front AskFeatures client p all = all
  call_asked front (OpenChannel psm) client p all = all
  call_asked front (SendSdu psm payload) client p all = all
  call_asked front (CloseChannel psm) client p all = all
  call_asked front BreakLink client p all = all
  call_asked front (Ended outcome) client p all = all
  call_asked front NoMemory client p all = all

  news_asked : (front : List Occurrence) (circumstances : List Circumstance) (news : News) (p : ClientProfile) → Asked front p → Asked front (profile.told circumstances news p)
  news_asked front circumstances (Linked Up) p all = tt
  news_asked front circumstances (Linked (Down reason)) p all = tt
  news_asked front circumstances (Failed status) p all = tt
  news_asked front circumstances (Heard pdu) p all = all
  news_asked front circumstances TimerFired p all = all
  news_asked front circumstances Cancelled p all = all
  news_asked front circumstances (Opening name) p all =
      let over : ClientProfile = record p { client = ended (begins (size_for circumstances name) (name_for name) p.client); submitted = None; bid = NoBid } in
      let one = steps over.client [] in call_asked front one.step one.client over all

  sent_asked : (front : List Occurrence) (found : Option ℕ) (v : Channels) (p : ClientProfile) → Asked front p → Asked front (sent_on found v p)
  sent_asked front None v p all = all
  sent_asked front (Some endpoint) v p all = by (waits endpoint v)
    where
      by : (waiting : Bool) → Asked front (cond waiting p (profile.done (record p { submitted = None })))
      by true = all
      by false = all

  submits_asked : (front : List Occurrence) (found : Option ℕ) (payload : Payload) (v : Channels) (p : ClientProfile) → Asked front p → Asked front (submits found payload v p).profile
  submits_asked front None payload v p all = all
  submits_asked front (Some endpoint) payload v p all = by (takes_sdu endpoint (sdu_of payload) v)
    where
      by : (taken : Bool) → Asked front (cond taken (profile.waiting (sends endpoint (sdu_of payload) v) (record p { submitted = Some endpoint })) (profile.waiting v p)).profile
      by true = all
      by false = all

  opens_asked : (front : List Occurrence) (psm : ℕ) (v : Channels) (endpoints : List Endpoint) → v ≡ (run_of own front).value → AllEndpoints (WasAsked (run_of own (front ++ Connects psm ∷ [])).said) endpoints
      → AllEndpoints (WasAsked (run_of own (front ++ Connects psm ∷ [])).said) (with_answer psm (cond (can_connect v) (Some v.next) None) endpoints)
  opens_asked front psm v endpoints at all = by (can_connect v) refl
    where
      by : (can : Bool) → can_connect v ≡ can → AllEndpoints (WasAsked (run_of own (front ++ Connects psm ∷ [])).said) (with_answer psm (cond can (Some v.next) None) endpoints)
      by true is =
          with_new (WasAsked (run_of own (front ++ Connects psm ∷ [])).said) psm v.next endpoints
          (subst (λ (w : Channels). WasAsked (run_of own (front ++ Connects psm ∷ [])).said (record { psm = psm; own = w.next })) (sym at) (asked_now own front psm (ap can_connect (sym at) ∙ is))) all
      by false is = all

  step_asked : (front : List Occurrence) (step : Step) (v : Channels) (after before : ClientProfile) → v ≡ (run_of own front).value → Asked (front ++ from_call (asked step v after)) after → Asked (front ++ from_call (asked step v after)) before
      → Asked (front ++ from_call (asked step v after)) (takes step v after before).profile
  step_asked front Wait v after before at all was = all
  step_asked front MakeLink v after before at all was = was
  step_asked front AskFeatures v after before at all was = all
  step_asked front (OpenChannel psm) v after before at all was = opens_asked front psm v after.endpoints at all
  step_asked front (SendSdu psm payload) v after before at all was = submits_asked (front ++ from_call (sends_on v payload (endpoint_of psm after.endpoints))) (endpoint_of psm after.endpoints) payload v after all
  step_asked front (CloseChannel psm) v after before at all was = all
  step_asked front BreakLink v after before at all was = all
  step_asked front (Ended outcome) v after before at all was = all
  step_asked front NoMemory v after before at all was = all

  abbrev list_of : Strand → Channels → ClientProfile → List Occurrence
  list_of strand v p = strand_list (client_profile settings) (clients_ask settings) strand v p

  pub strand_asked : (front : List Occurrence) (strand : Strand) (v : Channels) (p : ClientProfile) → v ≡ (run_of own front).value → Asked front p → Asked (front ++ list_of strand v p) (strand_profile (client_profile settings) strand v p)
  strand_asked front (Hearing pdu) v p at all = handed_asked (front ++ list_of (Hearing pdu) v p) (up (channel_of pdu) pdu v) p (later_asked front (list_of (Hearing pdu) v p) p all)
  strand_asked front (Giving pdu) v p at all = later_asked front (list_of (Giving pdu) v p) p all
  strand_asked front Firing v p at all = later_asked front (list_of Firing v p) p all
  strand_asked front Telling v p at all = next_asked (front ++ list_of Telling v p) v.events v p (later_asked front (list_of Telling v p) p all)
  strand_asked front (Gifting circumstances) v p at all = later_asked front [] p all
  strand_asked front (Learning circumstances news) v p at all = news_asked (front ++ []) circumstances news p (later_asked front [] p all)
  strand_asked front Checking v p at all = sent_asked (front ++ []) p.submitted v p (later_asked front [] p all)
  strand_asked front Stepping v p at all =
      let one = steps p.client (fitted p) in
      let after : ClientProfile = record p { client = one.client; parts = unused one.left p.parts } in
      let here = from_call (asked one.step v after) in
      subst (λ call. Asked (front ++ from_call call) (takes one.step v after p).profile) (sym (clients-call settings v p))
      (step_asked front one.step v after p at (later_asked front here after all) (later_asked front here p all))

  -- ---- what is taken with a step

  -- at an endpoint of the client that is open, the PSM is that of the object where the endpoint is this one
  abbrev pub Sure : List Occurrence → ℕ → Type 0
  Sure all here = (identifier psm at other : ℕ) → HasAsked identifier psm at (run_of (policy settings false) all).said → Opened (run_of (policy settings false) all).said other at → eqb psm carrier ≡ eqb at here

  none_if : (test : Bool) (taken : List (List ℕ)) → taken ≡ [] → cond test taken [] ≡ []
  none_if true taken none = none
  none_if false taken none = refl

  both_if : (one two free : Bool) (sdu : List ℕ) → one ≡ two → free ≡ true → cond one (sdu ∷ []) [] ≡ cond (two && free) (sdu ∷ []) [] ++ []
  both_if true true true sdu same is = refl
  both_if false false true sdu same is = refl
  both_if true false true sdu same is = cc
  both_if false true true sdu same is = cc
  both_if one two false sdu same is = cc

  -- an endpoint that the client keeps, where its channel takes an SDU
  agrees_at : (front later : List Occurrence) (here : ℕ) (v : Channels) (endpoints : List Endpoint) (psm at : ℕ) → v ≡ (run_of own front).value → AllEndpoints (WasAsked (run_of own front).said) endpoints → Sure (front ++ later) here
      → endpoint_of psm endpoints ≡ Some at → IsTaken at v → eqb psm carrier ≡ eqb at here
  agrees_at front later here v endpoints psm at is all sure found taken =
      let asked' = asked_later (run_of own front).said (run_of own (front ++ later)).said (grown own front later) (record { psm = psm; own = at }) (endpoint_so (WasAsked (run_of own front).said) psm at endpoints all found) in
      let open' = opened-open own front at taken.mtu (ap (λ (w : Channels). peer_mtu at w) (sym is) ∙ taken.mtu_is) in
      sure asked'.0 psm at open'.0 asked'.1 (opened-stays own front later open'.0 at open'.1)

  step_takes : (front later : List Occurrence) (here : ℕ) (step : Step) (v : Channels) (after : ClientProfile) → v ≡ (run_of own front).value → Asked front after → Sure (front ++ later) here
      → taken_by carrier step after.endpoints v ≡ takes_from own here v (from_call (asked step v after))
  step_takes front later here Wait v after at all sure = refl
  step_takes front later here MakeLink v after at all sure = refl
  step_takes front later here AskFeatures v after at all sure = refl
  step_takes front later here (OpenChannel psm) v after at all sure = refl
  step_takes front later here (SendSdu psm payload) v after at all sure = on (endpoint_of psm after.endpoints) refl
    where
      by : (at' : ℕ) (takes' : Bool) → endpoint_of psm after.endpoints ≡ Some at' → takes_sdu at' (sdu_of payload) v ≡ takes' → cond (eqb psm carrier) (cond takes' (sdu_of payload ∷ []) []) [] ≡ takes_from own here v (from_call (send_if takes' at' payload))
      by at' false found is = none_if (eqb psm carrier) [] refl
      by at' true found is =
          let taken = is_taken at' (sdu_of payload) v is in
          both_if (eqb psm carrier) (eqb at' here) (is_free (carrier_at at' v)) (sdu_of payload) (agrees_at front later here v after.endpoints psm at' at all sure found taken) taken.free

      on : (found : Option ℕ) → endpoint_of psm after.endpoints ≡ found → cond (eqb psm carrier) (taken_on found (sdu_of payload) v) [] ≡ takes_from own here v (from_call (sends_on v payload found))
      on None found = none_if (eqb psm carrier) [] refl
      on (Some at') found = by at' (takes_sdu at' (sdu_of payload) v) found refl
  step_takes front later here (CloseChannel psm) v after at all sure = sym (by (endpoint_of psm after.endpoints))
    where
      by : (found : Option ℕ) → takes_from own here v (from_call (closes_on found)) ≡ []
      by None = refl
      by (Some at') = refl
  step_takes front later here BreakLink v after at all sure = refl
  step_takes front later here (Ended outcome) v after at all sure = refl
  step_takes front later here NoMemory v after at all sure = refl

  pub strand_takes : (front later : List Occurrence) (here : ℕ) (strand : Strand) (v : Channels) (p : ClientProfile) → v ≡ (run_of own front).value → Asked front p → Sure (front ++ later) here → taken_at carrier strand v p ≡ takes_from own here v (list_of strand v p)
  strand_takes front later here (Hearing pdu) v p at all sure = refl
  strand_takes front later here (Giving pdu) v p at all sure = refl
  strand_takes front later here Firing v p at all sure = refl
  strand_takes front later here Telling v p at all sure = refl
  strand_takes front later here (Gifting circumstances) v p at all sure = refl
  strand_takes front later here (Learning circumstances news) v p at all sure = refl
  strand_takes front later here Checking v p at all sure = refl
  strand_takes front later here Stepping v p at all sure =
      let one = steps p.client (fitted p) in
      let after : ClientProfile = record p { client = one.client; parts = unused one.left p.parts } in
      step_takes front later here one.step v after at all sure ∙ ap (λ call. takes_from own here v (from_call call)) (sym (clients-call settings v p))

  -- ---- on a link

  -- what its channel took of what the client asked to be sent there
  abbrev pub took : List Strand → Channels → ClientProfile → List (List ℕ)
  took [] v p = []
  took (strand ∷ weave) v p =
      taken_at carrier strand v p ++ took weave (values_after (client_profile settings).policy v (strand_list (client_profile settings) (clients_ask settings) strand v p)) (strand_profile (client_profile settings) strand v p)

  took_from : (here : ℕ) (weave : List Strand) (front : List Occurrence) (v : Channels) (p : ClientProfile) → v ≡ (run_of own front).value → Asked front p → Sure (front ++ woven_list (client_profile settings) (clients_ask settings) weave v p) here
      → took weave v p ≡ takes_from own here v (woven_list (client_profile settings) (clients_ask settings) weave v p)
  took_from here [] front v p at all sure = refl
  took_from here (strand ∷ weave) front v p at all sure =
      let list = list_of strand v p in
      let w = values_after own v list in
      let q = strand_profile (client_profile settings) strand v p in
      let rest = woven_list (client_profile settings) (clients_ask settings) weave w q in
      ap₂ (λ (a b : List (List ℕ)). a ++ b) (strand_takes front (list ++ rest) here strand v p at all sure)
      (took_from here weave (front ++ list) w q (value_behind own front list v at) (strand_asked front strand v p at all) (subst (λ (l : List Occurrence). Sure l here) (sym (append_assoc front list rest)) sure))
      ∙ sym (takes_both own here list rest v)

  -- of a client that keeps no endpoint when the link comes up
  pub took-is : (here : ℕ) (weave : List Strand) (p : ClientProfile) → p.endpoints ≡ [] → Sure (woven_list (client_profile settings) (clients_ask settings) weave no_channels p) here
      → took weave no_channels p ≡ taken_of (policy settings false) here (woven_list (client_profile settings) (clients_ask settings) weave no_channels p)
  took-is here weave p none sure =
      took_from here weave [] no_channels p refl (subst (AllEndpoints (WasAsked [])) (sym none) tt) sure
      ∙ sym (takes_of own here (woven_list (client_profile settings) (clients_ask settings) weave no_channels p))
