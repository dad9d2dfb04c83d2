-- A server to which nothing but requests for service records came on its link answers each in the act in which it hears it: its host.
use Rattle.std.proofs.Common.{◌≡◌, ◌⊎◌, inl, inr, ℕ, zero, suc, Bool, true, false, cond, not, eqb, List, [], ◌∷◌, filter, take, Option, Some, None, is_some, refl, sym, ap, subst, ◌∙◌, if◌then◌else◌}
use Rattle.std.specs.List.{AllByRecursion}
use Rattle.std.proofs.lemmas.Bool.{cond_both, cond-false, eqb-true}
use Rattle.pair_laws.specs.acl_fragments.specs.Pieces.{channel_of}
use Rattle.pair_laws.specs.bt_base.specs.Objects.{Contents}
use Rattle.pair_laws.specs.bt_base.specs.declared.settings.Serves.{Serves}
use Rattle.pair_laws.specs.bt_base.specs.declared.settings.Settings.{Settings}
use Rattle.pair_laws.specs.channel_model.specs.declared.event.ChannelEvent.{ChannelEvent}
use Rattle.pair_laws.specs.channel_model.specs.declared.event.ChannelEvent.TheVariants.{Opened, Closed, Features, FeaturesLost, DisconnectLost}
use Rattle.pair_laws.specs.channel_model.specs.Calls.{link_down, sends}
use Rattle.pair_laws.specs.channel_model.specs.Carrying.{Up as Handed, Nothing, Received}
use Rattle.pair_laws.specs.channel_model.specs.Giving.{Given, next_given, after_given}
use Rattle.pair_laws.specs.channel_model.specs.Hearing.{hears, up}
use Rattle.pair_laws.specs.channel_model.specs.Policies.{policy}
use Rattle.pair_laws.specs.channel_model.specs.Timing.{timed_out}
use Rattle.pair_laws.specs.channel_model.specs.Value.{Channels}
use Rattle.pair_laws.specs.channel_laws.specs.Runs.{Occurrence, run_of}
use Rattle.pair_laws.specs.push_model.specs.declared.outlet.Outlet.{Outlet}
use Rattle.pair_laws.specs.push_model.specs.declared.outlet.Outlet.TheVariants.{Records}
use Rattle.pair_laws.specs.push_model.specs.Payloads.{Octets}
use Rattle.pair_laws.specs.push_model.specs.rfcomm_frames.specs.declared.connection.Role.TheVariants.{Responder}
use Rattle.pair_laws.specs.push_model.specs.rfcomm_frames.specs.FrameReading.{is_empty}
use Rattle.pair_laws.specs.push_model.specs.rfcomm_model.specs.Hearing as hearing
use Rattle.pair_laws.specs.push_model.specs.rfcomm_model.proofs.Keeping.{hears_keeps}
use Rattle.pair_laws.specs.push_model.specs.Events.{search_psm}
use Rattle.pair_laws.specs.push_model.specs.Sessions.{Gift}
use Rattle.pair_laws.specs.push_model.specs.Server as server
use Rattle.pair_laws.specs.push_model.specs.Server.{Server, Reacted, Lent, reply_room, hears_search, hears_up, hears_octets, lends, lent_sdu, lent_by}
use Rattle.pair_laws.specs.push_model.specs.sdp_server.specs.Replies.{reply_to}
use Rattle.pair_laws.specs.push_laws.proofs.Servers.{by_psm}
use Rattle.pair_laws.specs.world_model.specs.Machines.{News, Linked, Up, Down, Failed, Heard, TimerFired, Cancelled, Opening}
use Rattle.pair_laws.specs.host_model.specs.Circumstances.{Circumstance}
use Rattle.pair_laws.specs.host_model.specs.Endpoints.{Endpoint, is_of, endpoint_of, with_endpoint, takes_sdu}
use Rattle.pair_laws.specs.host_model.specs.Hosts.{Host, drives, driven, most_steps, steps_behind, goes_by, strides, tells_each, tells_events, handed, hears_news, ready, hear, after_said, says, next, with_channels}
use Rattle.pair_laws.specs.host_model.specs.Pdus.{sdu_of, pdu_of, is_frame}
use Rattle.pair_laws.specs.host_model.specs.Profiles.{Stride, Profile}
use Rattle.pair_laws.specs.host_model.specs.Servers as servers
use Rattle.pair_laws.specs.host_model.specs.Servers.{ServerProfile, next_stride, server_profile}
use Rattle.paying_laws.proofs.Prompt.{SearchesAlone, IsClean, lends_fails, taken_fails, Lends, lends_clean, Fit, happens_fit, ends_fit, steps_fit}
use Rattle.paying_laws.proofs.Reply.{reply-taken}
use Rattle.paying_laws.proofs.Speaking.{Speaks, still-given, came-speaks}

-- ---- an SDU comes

-- the endpoints of before were so too
alone_back : (endpoints : List Endpoint) → AllByRecursion (λ (e : Endpoint). is_of search_psm e ≡ true) (take 3 (filter (λ (e : Endpoint). not (is_of search_psm e)) endpoints)) → SearchesAlone endpoints
alone_back [] all = tt
alone_back (e ∷ endpoints) all = by (is_of search_psm e) refl (λ rest. alone_back endpoints rest) all
  where
    by : (here : Bool) → is_of search_psm e ≡ here → (AllByRecursion (λ (x : Endpoint). is_of search_psm x ≡ true) (take 3 (filter (λ (x : Endpoint). not (is_of search_psm x)) endpoints)) → SearchesAlone endpoints) → AllByRecursion (λ (x : Endpoint). is_of search_psm x ≡ true) (take 3 (cond (not here) (e ∷ filter (λ (x : Endpoint). not (is_of search_psm x)) endpoints) (filter (λ (x : Endpoint). not (is_of search_psm x)) endpoints)))
        → SearchesAlone (e ∷ endpoints)
    by true is later rest = (is, later rest)
    by false is later rest = let never : false ≡ true = sym is ∙ rest.0 in cc

up_role : (u : hearing.Up) (s : Server) (gift : Gift) → (hears_up u s gift).server.mux.role ≡ s.mux.role
up_role hearing.nothing s gift = refl
up_role hearing.opened s gift = refl
up_role (hearing.closed reason) s gift = refl
up_role (hearing.bytes octets) s gift = cond_both s.listener.breaks _ _ (λ (r : Reacted). r.server.mux.role ≡ s.mux.role) (λ e. refl) (λ e. refl)

pub sdu_role : (psm : ℕ) (sdu : List ℕ) (s : Server) (gift : Gift) → s.mux.role ≡ Responder → (server.on_sdu psm sdu s gift).server.mux.role ≡ Responder
sdu_role psm sdu s gift role =
    cond_both s.listener.service.failed (let r : Reacted = record { server = s; gift = gift } in r) (server.hears_on psm sdu s gift) (λ (r : Reacted). r.server.mux.role ≡ Responder) (λ e. role) (λ e.
    by_psm (λ p. (server.hears_on p sdu s gift).server.mux.role ≡ Responder)
    (cond_both (is_empty s.reply) (record s { reply = reply_to s.serves reply_room sdu }) s (λ (t : Server). t.mux.role ≡ Responder) (λ e. role) (λ e. role))
    (up_role (hearing.up sdu s.mux) (record s { mux = hearing.hears sdu s.mux }) gift ∙ ((hears_keeps sdu s.mux).0 ∙ role)) role
    (λ p x y z. subst (λ (r : Reacted). r.server.mux.role ≡ Responder) (sym (cond-false _ _ _ x ∙ (cond-false _ _ _ y ∙ cond-false _ _ (let r : Reacted = record { server = s; gift = gift } in r) z))) role) psm)

-- neither a PDU, nor news of its link
abbrev pub IsOther : News → Type 0
IsOther (Linked event) = ⊥
IsOther (Failed status) = Unit {0}
IsOther (Heard pdu) = ⊥
IsOther TimerFired = Unit {0}
IsOther Cancelled = Unit {0}
IsOther (Opening name) = Unit {0}

-- no reply waits; or one to this request
abbrev pub NoneWaits : List ℕ → Type 0
NoneWaits octets = octets ≡ []

abbrev Replies : Serves → (sdu octets : List ℕ) → Type 0
Replies serves sdu octets = (octets ≡ []) ⊎ (octets ≡ reply_to serves reply_room sdu)

-- with an SDU of another PSM nothing is said of it
other_fit : (R : List ℕ → Type 0) (own psm : ℕ) (sdu : List ℕ) (q : ServerProfile) → eqb psm search_psm ≡ false → q.server.mux.role ≡ Responder → Fit R (servers.received own psm sdu q)
other_fit R own psm sdu q apart role = (sdu_role psm sdu q.server q.inbox role, λ well alone. let never : false ≡ true = sym apart ∙ alone.0 in cc)

search_fit : (own psm : ℕ) (sdu : List ℕ) (q : ServerProfile) → psm ≡ search_psm → Fit NoneWaits q → Fit (Replies q.server.serves sdu) (servers.received own psm sdu q)
search_fit own psm sdu q psm_is fit = (sdu_role psm sdu q.server q.inbox fit.0, λ well alone. clean (server.on_sdu psm sdu s q.inbox) refl well (λ now. fit.1 now (alone_back q.endpoints (rest psm psm_is alone.1))))
  where
    s : Server
    s = q.server

    rest : (p : ℕ) → p ≡ search_psm → AllByRecursion (λ (e : Endpoint). is_of search_psm e ≡ true) (take 3 (filter (λ (e : Endpoint). not (is_of p e)) q.endpoints)) → AllByRecursion (λ (e : Endpoint). is_of search_psm e ≡ true) (take 3 (filter (λ (e : Endpoint). not (is_of search_psm e)) q.endpoints))
    rest p is all = subst (λ (n : ℕ). AllByRecursion (λ (e : Endpoint). is_of search_psm e ≡ true) (take 3 (filter (λ (e : Endpoint). not (is_of n e)) q.endpoints))) is all

    Good : Server → Type 0
    Good t = IsClean t × Replies s.serves sdu t.reply

    replied : IsClean s × NoneWaits s.reply → Good (hears_search sdu s)
    replied (c, none) = cond_both (is_empty s.reply) (record s { reply = reply_to s.serves reply_room sdu }) s Good
        (λ e. (record { lent = c.lent; none_response = c.none_response; none_answer = c.none_answer; none_frame = c.none_frame; unbroken = c.unbroken; silent = c.silent }, inr refl)) (λ e. (c, inl none))

    clean : (after : Reacted) → after ≡ server.on_sdu psm sdu s q.inbox → after.server.listener.service.failed ≡ false → (s.listener.service.failed ≡ false → IsClean s × NoneWaits s.reply) → Good after.server
    clean after is well so =
        subst (λ (r : Reacted). Good r.server) (sym is)
        (cond_both s.listener.service.failed (let r : Reacted = record { server = s; gift = q.inbox } in r) (server.hears_on psm sdu s q.inbox) (λ (r : Reacted). r.server.listener.service.failed ≡ false → Good r.server)
        (λ e well'. ((so well').0, inl (so well').1)) (λ e well'. subst (λ (n : ℕ). Good (server.hears_on n sdu s q.inbox).server) (sym psm_is) (replied (so e))) (subst (λ (r : Reacted). r.server.listener.service.failed ≡ false) is well))

-- ---- a host

module _ (settings : Settings) (content : Option Contents) where
  abbrev B : Profile ServerProfile
  B = server_profile settings content

  module _ (R : List ℕ → Type 0) (none : R []) where
    each_fit : (events : List ChannelEvent) (v : Channels) (q : ServerProfile) → Fit R q → Fit R (tells_each (server_profile settings content) events v q)
    each_fit [] v q fit = fit
    each_fit (event ∷ events) v q fit = let w : Channels = record v { events = events } in each_fit events w (servers.happened event w q) (happens_fit R none event w q fit)

    tells_fit : (host : Host ServerProfile) → Fit R host.profile → Fit R (tells_events (server_profile settings content) host).profile
    tells_fit host fit = each_fit host.channels.events host.channels host.profile fit

    strides_fit : (host : Host ServerProfile) → Fit R host.profile → Fit R (strides (server_profile settings content) (next_stride host.channels host.profile) host).profile
    strides_fit host fit = let stride = next_stride host.channels host.profile in tells_fit (record host { channels = stride.channels; profile = stride.profile }) (steps_fit R none host.channels host.profile fit)

    more_fit : (test : Bool) (more : Host ServerProfile → Host ServerProfile) (host : Host ServerProfile) → ((h : Host ServerProfile) → Fit R h.profile → Fit R (more h).profile) → Fit R host.profile → Fit R (if test then more host else host).profile
    more_fit true more host goes fit = goes host fit
    more_fit false more host goes fit = fit

    goes_fit : (test : Bool) (more : Host ServerProfile → Host ServerProfile) (host : Host ServerProfile) → ((h : Host ServerProfile) → Fit R h.profile → Fit R (more h).profile) → Fit R host.profile
        → Fit R (if test then host else goes_by (server_profile settings content) more (next_stride host.channels host.profile) host).profile
    goes_fit true more host goes fit = fit
    goes_fit false more host goes fit = let stride = next_stride host.channels host.profile in more_fit stride.more more (strides B stride host) goes (strides_fit host fit)

    drives_fit : (count : ℕ) (host : Host ServerProfile) → Fit R host.profile → Fit R (drives (server_profile settings content) count host).profile
    unfolding drives
    drives_fit zero host fit = fit
    drives_fit (suc count) host fit = goes_fit (is_some (next_given host.channels)) (λ h. drives B count h) host (λ h. drives_fit count h) fit

  -- ---- it answers

  answers_step : (v : Channels) (q : ServerProfile) (own : ℕ) (serves : Serves) (sdu : List ℕ) → Fit (Replies serves sdu) q → endpoint_of search_psm q.endpoints ≡ Some own → takes_sdu own (reply_to serves reply_room sdu) v ≡ true → Fit NoneWaits (next_stride v q).profile
  answers_step v q own serves sdu fit found taken = (plain.0, λ well alone. ((plain.1 well alone).0, gone (lent_sdu s) refl well alone))
    where
      plain : Fit (Replies serves sdu) (next_stride v q).profile
      plain = steps_fit (Replies serves sdu) (inl refl) v q fit

      s : Server
      s = lends q.server

      After : ServerProfile → Type 0
      After p = p.server.listener.service.failed ≡ false → SearchesAlone p.endpoints → NoneWaits p.server.reply

      before : s.listener.service.failed ≡ false → SearchesAlone q.endpoints → IsClean q.server × Replies serves sdu q.server.reply
      before well alone = fit.1 (sym (lends_fails q.server.lent q.server) ∙ well) alone

      lending : s.listener.service.failed ≡ false → SearchesAlone q.endpoints → Lends q.server s
      lending well alone = lends_clean q.server (before well alone).0

      -- the reply is lent
      lent_is : (lent : Lent) → lent_sdu s ≡ Some lent → Lends q.server s → (s.lent ≡ Some Records) × (lent ≡ (let l : Lent = record { psm = search_psm; payload = Octets s.reply } in l))
      lent_is lent is l = elim l.either [
        | inl (none, empty) ↦ (let never : None ≡ Some lent = sym (ap (λ (o : Option Outlet). lent_by o s) none) ∙ is in cc)
        | inr some ↦ (some, same_some _ _ (sym is ∙ ap (λ (o : Option Outlet). lent_by o s) some))
      ]
        where
          same_some : (a b : Lent) → Some a ≡ Some b → a ≡ b
          same_some a b e = cc

      stepped : (taken' : Bool) (own' : ℕ) (lent : Lent) → lent_sdu s ≡ Some lent → endpoint_of lent.psm q.endpoints ≡ Some own' → takes_sdu own' (sdu_of lent.payload) v ≡ taken'
          → After (cond taken' (let took : Stride ServerProfile = record { channels = sends own' (sdu_of lent.payload) v; profile = record q { server = server.stepped s }; more = true } in took) (servers.waiting v s q)).profile
      stepped true own' lent is at takes' well alone =
          let (some, same) = lent_is lent is (lending (sym (taken_fails s.lent s) ∙ well) alone) in
          ap (λ (o : Option Outlet). (server.taken_by o s).reply) some
      stepped false own' lent is at takes' well alone =
          let l = lending well alone in
          let (some, same) = lent_is lent is l in
          elim (before well alone).1 [
            | inl none ↦ l.same ∙ none
            | inr waits ↦ (
                let own_is : own' ≡ own = same_own own' own (sym at ∙ (ap (λ (x : Lent). endpoint_of x.psm q.endpoints) same ∙ found)) in
                let never : false ≡ true = sym takes' ∙ (ap (λ (x : Lent). takes_sdu own' (sdu_of x.payload) v) same ∙ (ap (λ (n : ℕ). takes_sdu n s.reply v) own_is ∙ (ap (λ (r : List ℕ). takes_sdu own r v) (l.same ∙ waits) ∙ taken))) in cc
                )
          ]
        where
          same_own : (a b : ℕ) → Some a ≡ Some b → a ≡ b
          same_own a b e = cc

      submitted : (at : Option ℕ) (lent : Lent) → lent_sdu s ≡ Some lent → endpoint_of lent.psm q.endpoints ≡ at → After (servers.submits at lent v s q).profile
      submitted None lent is at well alone =
          let (some, same) = lent_is lent is (lending well alone) in
          let never : None ≡ Some own = sym at ∙ (ap (λ (l : Lent). endpoint_of l.psm q.endpoints) same ∙ found) in cc
      submitted (Some own') lent is at well alone = stepped (takes_sdu own' (sdu_of lent.payload) v) own' lent is at refl well alone

      gone : (lent : Option Lent) → lent_sdu s ≡ lent → After (servers.takes lent v s q).profile
      gone None is well alone = elim (lending well alone).either [
        | inl (none, empty) ↦ empty
        | inr some ↦ (let off : true ≡ false = sym (ap (λ (o : Option Outlet). is_some (lent_by o s)) some) ∙ ap is_some is in cc)
      ]
      gone (Some lent) is well alone = submitted (endpoint_of lent.psm q.endpoints) lent is refl well alone

  drives_answer : (count own : ℕ) (serves : Serves) (sdu : List ℕ) (host : Host ServerProfile) → Fit (Replies serves sdu) host.profile → endpoint_of search_psm host.profile.endpoints ≡ Some own → next_given host.channels ≡ None → takes_sdu own (reply_to serves reply_room sdu) host.channels ≡ true
      → Fit NoneWaits (drives (server_profile settings content) (suc count) host).profile
  unfolding drives
  drives_answer count own serves sdu host fit found quiet taken =
      let stride = next_stride host.channels host.profile in
      let after = strides B stride host in
      let now : Fit NoneWaits after.profile = tells_fit NoneWaits refl (record host { channels = stride.channels; profile = stride.profile }) (answers_step host.channels host.profile own serves sdu fit found taken) in
      subst (λ (b : Bool). Fit NoneWaits (if b then host else goes_by B (λ h. drives B count h) stride host).profile) (sym (ap is_some quiet))
      (more_fit NoneWaits refl stride.more (λ h. drives B count h) after (λ h. drives_fit NoneWaits refl count h) now)

  abbrev SaidFit : Option (List ℕ × Host ServerProfile) → Type 0
  SaidFit None = Unit {0}
  SaidFit (Some one) = Fit NoneWaits one.1.profile

  -- ---- it hears

  abbrev pub Prompt : Host ServerProfile → Type 0
  Prompt host = Fit NoneWaits host.profile

  abbrev still : (host : Host ServerProfile) → Prompt host → Prompt (driven (server_profile settings content) host)
  still host fit = drives_fit NoneWaits refl most_steps host fit

  pub hears_other : (g : List Circumstance) (news : News) (host : Host ServerProfile) → IsOther news → Prompt host → Prompt (hear (server_profile settings content) g news host)
  hears_other g (Linked event) host other fit = absurd other
  hears_other g (Heard pdu) host other fit = absurd other
  hears_other g (Failed status) host other fit = still (hears_news B g (Failed status) (ready B g host)) fit
  hears_other g TimerFired host other fit =
      let now = ready B g host in
      let fired = with_channels (timed_out B.policy now.channels) now in
      still (hears_news B g TimerFired now) (tells_fit NoneWaits refl fired fit)
  hears_other g Cancelled host other fit = still (hears_news B g Cancelled (ready B g host)) fit
  hears_other g (Opening name) host other fit = still (hears_news B g (Opening name) (ready B g host)) fit

  pub hears_rise : (g : List Circumstance) (host : Host ServerProfile) → host.profile.endpoints ≡ [] → Prompt host → Prompt (hear (server_profile settings content) g (Linked Up) host)
  hears_rise g host none fit = still (hears_news B g (Linked Up) (ready B g host)) (fit.0, λ well alone. fit.1 well (subst SearchesAlone (sym none) tt))

  pub hears_fall : (g : List Circumstance) (reason : ℕ) (host : Host ServerProfile) → Prompt host → Prompt (hear (server_profile settings content) g (Linked (Down reason)) host)
  hears_fall g reason host fit =
      let now = ready B g host in
      let down = with_channels (link_down now.channels) now in
      still (hears_news B g (Linked (Down reason)) now) (ends_fit NoneWaits refl (tells_events B down).profile (tells_fit NoneWaits refl down fit).0)

  -- a PDU comes in where nothing is to be given
  pub hears_pdu : (g : List Circumstance) (pdu : List ℕ) (host : Host ServerProfile) (list : List Occurrence) → host.channels ≡ (run_of (policy settings true) list).value → host.channels.queue ≡ [] → next_given host.channels ≡ None → Prompt host → Prompt (hear (server_profile settings content) g (Heard pdu) host)
  hears_pdu g pdu host list run empty quiet fit = by (up (channel_of pdu) pdu host.channels) refl
    where
      now : Host ServerProfile
      now = ready B g host

      w : Channels
      w = hears B.policy (channel_of pdu) pdu host.channels

      heard : Handed → Host ServerProfile
      heard one = record now { channels = w; profile = handed B one now.profile }

      none_left : (events : List ChannelEvent) (v : Channels) (q : ServerProfile) → (tells_each (server_profile settings content) events v q).endpoints ≡ q.endpoints
      none_left [] v q = refl
      none_left (event ∷ events) v q = let x : Channels = record v { events = events } in none_left events x (servers.happened event x q) ∙ one event x q
        where
          one : (event : ChannelEvent) (v : Channels) (q : ServerProfile) → (servers.happened event v q).endpoints ≡ q.endpoints
          one (Opened own psm) v q = refl
          one (Closed own psm reason) v q = cond_both (servers.is_told reason) (servers.reacts (server.channel_down psm q.server q.inbox) q) q (λ (p : ServerProfile). p.endpoints ≡ q.endpoints) (λ e. refl) (λ e. refl)
          one (Features features) v q = refl
          one FeaturesLost v q = refl
          one (DisconnectLost own) v q = refl

      speaks : (own psm : ℕ) (sdu : List ℕ) → eqb psm search_psm ≡ true → up (channel_of pdu) pdu host.channels ≡ Received own psm sdu → Speaks own w
      speaks own psm sdu here came =
          subst (λ (v : Channels). Speaks own (hears (policy settings true) (channel_of pdu) pdu v)) (sym run)
          (came-speaks settings list pdu own psm sdu (ap (λ (v : Channels). v.queue) (sym run) ∙ empty) (ap next_given (sym run) ∙ quiet) here (ap (up (channel_of pdu) pdu) (sym run) ∙ came))

      search : (own psm : ℕ) (sdu : List ℕ) → eqb psm search_psm ≡ true → up (channel_of pdu) pdu host.channels ≡ Received own psm sdu → Prompt (driven B (tells_events B (heard (Received own psm sdu))))
      search own psm sdu here came =
          let told = tells_events B (heard (Received own psm sdu)) in
          let s = speaks own psm sdu here came in
          let psm_is = eqb-true psm search_psm here in
          drives_answer 3 own now.profile.server.serves sdu told (tells_fit (Replies now.profile.server.serves sdu) (inl refl) (heard (Received own psm sdu)) (search_fit own psm sdu now.profile psm_is fit))
          (ap (endpoint_of search_psm) (none_left w.events w (handed B (Received own psm sdu) now.profile)) ∙ first psm own now.profile.endpoints psm_is)
          (still-given told.channels s.empty s.none)
          (reply-taken settings content now.profile.server.serves sdu own s.agreed told.channels s.carrier_is s.most)
        where
          first : (p own : ℕ) (endpoints : List Endpoint) → p ≡ search_psm → endpoint_of search_psm (with_endpoint p own endpoints) ≡ Some own
          first p own endpoints is = subst (λ (n : ℕ). endpoint_of search_psm (with_endpoint n own endpoints) ≡ Some own) (sym is) refl

      received : (own psm : ℕ) (sdu : List ℕ) (here : Bool) → eqb psm search_psm ≡ here → up (channel_of pdu) pdu host.channels ≡ Received own psm sdu → Prompt (driven B (tells_events B (heard (Received own psm sdu))))
      received own psm sdu true here came = search own psm sdu here came
      received own psm sdu false apart came = still (tells_events B (heard (Received own psm sdu))) (tells_fit NoneWaits refl (heard (Received own psm sdu)) (other_fit NoneWaits own psm sdu now.profile apart fit.0))

      by : (one : Handed) → up (channel_of pdu) pdu host.channels ≡ one → Prompt (driven B (tells_events B (heard one)))
      by Nothing came = still (tells_events B (heard Nothing)) (tells_fit NoneWaits refl (heard Nothing) fit)
      by (Received own psm sdu) came = received own psm sdu (eqb psm search_psm) refl came

  -- ---- it says

  frame_fit : (test : Bool) (pdu : List ℕ) (host : Host ServerProfile) → Prompt host → SaidFit (if test then Some (pdu, host) else None)
  frame_fit true pdu host fit = fit
  frame_fit false pdu host fit = tt

  says_fit : (given : Option Given) (count : ℕ) (host : Host ServerProfile) → Prompt host → SaidFit (says (server_profile settings content) given count host)
  says_fit None count host fit = tt
  says_fit (Some given) zero host fit = tt
  says_fit (Some given) (suc count) host fit = frame_fit (is_frame (pdu_of given)) (pdu_of given) (after_said B count host) (drives_fit NoneWaits refl (steps_behind count) (with_channels (after_given host.channels) host) fit)

  pub says_prompt : (host : Host ServerProfile) (pdu : List ℕ) (after : Host ServerProfile) → next (server_profile settings content) host ≡ Some (pdu, after) → Prompt host → Prompt after
  says_prompt host pdu after is fit = subst SaidFit is (says_fit (next_given host.channels) host.may_say host fit)
