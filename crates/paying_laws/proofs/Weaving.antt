-- Where host b had no reply that waits each time that something came in, and has none now, each of its channels took as many SDUs as came up there.
use Rattle.std.proofs.Common.{◌≡◌, ◌≤◌, ◌+◌, ◌⊎◌, inl, inr, ℕ, Bool, true, false, cond, eqb, ◌&&◌, List, [], ◌∷◌, ◌++◌, length, Option, Some, None, refl, sym, ap, subst, ◌∙◌, append_assoc, append-nil, length-append, arith}
use Rattle.std.specs.Prelude.{option_to_list, slice_get}
use Rattle.std.specs.List.{AllByRecursion, cons_option}
use Rattle.std.proofs.lemmas.Bool.{cond_both, cond-false, eqb-true, eq-eqb}
use Rattle.std.proofs.lemmas.List.Elements.{filter_map-append}
use Rattle.pair_laws.specs.acl_fragments.specs.Pieces.{channel_of}
use Rattle.pair_laws.specs.bt_base.specs.Objects.{Contents}
use Rattle.pair_laws.specs.bt_base.specs.declared.settings.Settings.{Settings}
use Rattle.pair_laws.specs.capture.specs.Histories.{EachAfter}
use Rattle.pair_laws.specs.capture.proofs.HistoryLaws.{given_by-more}
use Rattle.pair_laws.specs.channel_model.specs.declared.event.ChannelEvent.{ChannelEvent}
use Rattle.pair_laws.specs.channel_model.specs.declared.event.ChannelEvent.TheVariants as events
use Rattle.pair_laws.specs.channel_model.specs.Calls.{carrier_at, sends}
use Rattle.pair_laws.specs.channel_model.specs.Carrying.{Up as Handed, Nothing, Received}
use Rattle.pair_laws.specs.channel_model.specs.Hearing.{up}
use Rattle.pair_laws.specs.channel_model.specs.Policies.{Policy, policy}
use Rattle.pair_laws.specs.channel_model.specs.Value.{Channels, no_channels}
use Rattle.pair_laws.specs.channel_laws.specs.Runs.{Occurrence, Comes, Sends, Gives, Fires, Tells, told_in, up_with, Run, run_of, run_on, sdu_up, sdus_up}
use Rattle.pair_laws.specs.channel_laws.specs.Taken.{is_free, taken_in, taken_of}
use Rattle.pair_laws.specs.push_model.specs.declared.outlet.Outlet.{Outlet}
use Rattle.pair_laws.specs.push_model.specs.declared.outlet.Outlet.TheVariants.{Records, Direct, Muxed}
use Rattle.pair_laws.specs.push_model.specs.rfcomm_frames.specs.FrameReading.{is_empty}
use Rattle.pair_laws.specs.push_model.specs.Payloads.{Octets}
use Rattle.pair_laws.specs.push_model.specs.Events.{search_psm}
use Rattle.pair_laws.specs.push_model.specs.Sessions.{Gift}
use Rattle.pair_laws.specs.push_model.specs.Server as server
use Rattle.pair_laws.specs.push_model.specs.Server.{Server, Reacted, Lent, reply_room, hears_search, lends, lent_sdu, lent_by}
use Rattle.pair_laws.specs.push_model.specs.sdp_server.specs.Replies.{reply_to}
use Rattle.pair_laws.specs.push_laws.proofs.Servers.{by_psm}
use Rattle.pair_laws.specs.world_model.specs.Machines.{News, Linked, Failed, Heard, TimerFired, Cancelled, Opening}
use Rattle.pair_laws.specs.host_model.specs.Circumstances.{Circumstance}
use Rattle.pair_laws.specs.host_model.specs.Endpoints.{Endpoint, is_of, endpoint_of, with_endpoint, takes_sdu}
use Rattle.pair_laws.specs.host_model.specs.Hosts.{handed}
use Rattle.pair_laws.specs.host_model.specs.Pdus.{sdu_of}
use Rattle.pair_laws.specs.host_model.specs.Profiles.{Stride, Profile}
use Rattle.pair_laws.specs.host_model.specs.Servers as servers
use Rattle.pair_laws.specs.host_model.specs.Servers.{ServerProfile, server_profile}
use Rattle.pair_laws.specs.host_laws.specs.Calls.{Call, Asks, from_call, values_after}
use Rattle.pair_laws.specs.host_laws.specs.Woven.{Strand, Hearing, Giving, Firing, Telling, Gifting, Learning, Checking, Stepping, IsOnLink, told_next, strand_list, strand_profile, woven_list, woven_profile, Woven}
use Rattle.pair_laws.specs.host_laws.proofs.Asking.{send_if, sends_on, lent_call, hosts_ask, servers-call}
use Rattle.pair_laws.specs.Heard.{IsHeardSo}
use Rattle.pair_laws.proofs.Facing.{each_split}
use Rattle.request_laws.proofs.Feeding.{all_ahead}
use Rattle.request_laws.proofs.Takes.{with_new, run_more, value_behind, is_taken}
use Rattle.paying_laws.specs.Answered.{IsSearch, EndsNoSearch, HasSearches, AnswersEach}
use Rattle.paying_laws.proofs.Prompt.{SearchesAlone, lends_reply, lends_fails, taken_fails}
use Rattle.paying_laws.proofs.Reply.{replies-some}

-- ---- counts

module _ (policy : Policy) where
  abbrev pub came : ℕ → List Occurrence → ℕ
  came own front = length (sdus_up own (run_of policy front).up)

  abbrev pub took : ℕ → List Occurrence → ℕ
  took own front = length (taken_of policy own front)

  came_more : (own : ℕ) (front : List Occurrence) (one : Occurrence) → came own (front ++ one ∷ []) ≡ came own front + length (sdus_up own (up_with one (run_of policy front).value ∷ []))
  came_more own front one =
      let run = run_of policy front in
      let here = up_with one run.value ∷ [] in
      ap (λ (r : Run). length (sdus_up own r.up)) (run_more policy front one) ∙ (ap length (filter_map-append (sdu_up own) run.up here) ∙ length-append (sdus_up own run.up) (sdus_up own here))

  took_more : (own : ℕ) (front : List Occurrence) (one : Occurrence) → took own (front ++ one ∷ []) ≡ took own front + length (taken_in own one (run_of policy front).value)
  took_more own front one =
      ap length (given_by-more (λ (past : List Occurrence) (more : Occurrence). taken_in own more (run_of policy past).value) front one) ∙ length-append (taken_of policy own front) (taken_in own one (run_of policy front).value)

  -- what is so of more is so of less
  searches_less : (front : List Occurrence) (one : Occurrence) → HasSearches (run_of policy (front ++ one ∷ [])) → HasSearches (run_of policy front) × IsSearch (up_with one (run_of policy front).value) × AllByRecursion EndsNoSearch (told_in one (run_of policy front).value)
  searches_less front one all =
      let run = run_of policy front in
      let more : HasSearches (run_on policy run one) = subst HasSearches (run_more policy front one) all in
      let ups = all_ahead IsSearch run.up (up_with one run.value ∷ []) more.ups in
      let told = all_ahead EndsNoSearch run.told (told_in one run.value) more.told in
      (record { ups = ups.0; told = told.0 }, ups.1.0, told.1)

-- ---- at a moment

module _ (settings : Settings) (content : Option Contents) where
  abbrev Q : Policy
  Q = policy settings true

  abbrev B : Profile ServerProfile
  B = server_profile settings content

  abbrev asks : Asks (server_profile settings content)
  asks = hosts_ask.servers settings content

  -- of a channel, as many SDUs came up as it took, or one more whose reply waits
  abbrev Counts : (own came took : ℕ) → ServerProfile → Type 0
  Counts own came' took' p = (came' ≤ took') ⊎ ((p.server.reply ≡ [] → ⊥) × (endpoint_of search_psm p.endpoints ≡ Some own) × (came' ≤ took' + 1))

  pub record Data (front : List Occurrence) (p : ServerProfile) : Type 0 where
    pub alone : SearchesAlone p.endpoints
    pub count : (own : ℕ) → Counts own (came (policy settings true) own front) (took (policy settings true) own front) p

  abbrev pub K : List Occurrence → ServerProfile → Type 0
  K front p = p.server.listener.service.failed ≡ false → HasSearches (run_of (policy settings true) front) → Data front p

  -- where something comes in nothing waits
  abbrev pub J : List Occurrence → Type 0
  J list = HasSearches (run_of (policy settings true) list) → AnswersEach (policy settings true) list

  counts_on : (own c t c' t' : ℕ) (p p' : ServerProfile) → c' ≡ c → t ≤ t' → p'.server.reply ≡ p.server.reply → p'.endpoints ≡ p.endpoints → Counts own c t p → Counts own c' t' p'
  counts_on own c t c' t' p p' same more reply_same ends (inl less) = inl (omega (arith, same, more, less))
  counts_on own c t c' t' p p' same more reply_same ends (inr (waits, at, less)) = inr ((λ none. waits (sym reply_same ∙ none)), ap (endpoint_of search_psm) ends ∙ at, omega (arith, same, more, less))

  -- nothing came up, and its profile is the same in that
  still : (front : List Occurrence) (one : Occurrence) (p p' : ServerProfile) → up_with one (run_of (policy settings true) front).value ≡ Nothing → p'.server.reply ≡ p.server.reply → p'.endpoints ≡ p.endpoints → Data front p → Data (front ++ one ∷ []) p'
  still front one p p' none reply_same ends facts = record {
    alone = subst SearchesAlone (sym ends) facts.alone;
    count = λ own.
        let more = came_more Q own front one in
        let zero' : length (sdus_up own (up_with one (run_of Q front).value ∷ [])) ≡ 0 = ap (λ (u : Handed). length (sdus_up own (u ∷ []))) none in
        let takes' = took_more Q own front one in
        counts_on own (came Q own front) (took Q own front) (came Q own (front ++ one ∷ [])) (took Q own (front ++ one ∷ [])) p p' (omega (arith, more, zero')) (omega (arith, takes')) reply_same ends (facts.count own);
  }

  -- it was asked for the SDU that it sends next
  lent_data : (front : List Occurrence) (p : ServerProfile) → Data front p → (let q : ServerProfile = record p { server = lends p.server } in Data front q)
  lent_data front p facts =
      let same = lends_reply p.server.lent p.server in
      let q : ServerProfile = record p { server = lends p.server } in
      record {
        alone = facts.alone;
        count = λ own. counts_on own (came Q own front) (took Q own front) (came Q own front) (took Q own front) p q refl (omega arith) same refl (facts.count own);
      }

  -- ---- an SDU comes up

  abbrev handed_by : Handed → ServerProfile → ServerProfile
  handed_by one p = handed (server_profile settings content) one p

  up_reply : (psm : ℕ) (sdu : List ℕ) (s : Server) (gift : Gift) → psm ≡ search_psm → s.listener.service.failed ≡ false → (server.on_sdu psm sdu s gift).server.reply ≡ [] → ⊥
  up_reply psm sdu s gift psm_is well none = waits (sym (ap (λ (b : Bool). (cond b (let r : Reacted = record { server = s; gift = gift } in r) (server.hears_on psm sdu s gift)).server.reply) well ∙ ap (λ (n : ℕ). (server.hears_on n sdu s gift).server.reply) psm_is) ∙ none)
    where
      waits : (hears_search sdu s).reply ≡ [] → ⊥
      waits = cond_both (is_empty s.reply) (let t : Server = record s { reply = reply_to s.serves reply_room sdu } in t) s (λ (t : Server). t.reply ≡ [] → ⊥) (λ e. replies-some s.serves sdu) (λ e nil. let never : true ≡ false = sym (ap is_empty nil) ∙ e in cc)

  failed_before : (psm : ℕ) (sdu : List ℕ) (s : Server) (gift : Gift) → psm ≡ search_psm → (server.on_sdu psm sdu s gift).server.listener.service.failed ≡ false → s.listener.service.failed ≡ false
  failed_before psm sdu s gift psm_is =
      cond_both s.listener.service.failed (let r : Reacted = record { server = s; gift = gift } in r) (server.hears_on psm sdu s gift) (λ (r : Reacted). r.server.listener.service.failed ≡ false → s.listener.service.failed ≡ false)
      (λ e well. well) (λ e well. e)

  hears_k : (front : List Occurrence) (pdu : List ℕ) (v : Channels) (p : ServerProfile) → v ≡ (run_of (policy settings true) front).value → K front p → J front → K (front ++ Comes pdu ∷ []) (strand_profile (server_profile settings content) (Hearing pdu) v p)
  hears_k front pdu v p at k j = by (up (channel_of pdu) pdu v) refl
    where
      came_up : up (channel_of pdu) pdu v ≡ up (channel_of pdu) pdu (run_of (policy settings true) front).value
      came_up = ap (up (channel_of pdu) pdu) at

      by : (one : Handed) → up (channel_of pdu) pdu v ≡ one → K (front ++ Comes pdu ∷ []) (handed_by one p)
      by Nothing is well searches = still front (Comes pdu) p p (sym came_up ∙ is) refl refl (k well (searches_less Q front (Comes pdu) searches).0)
      by (Received own psm sdu) is well searches =
          let (before, here, told) = searches_less Q front (Comes pdu) searches in
          let one : IsSearch (Received own psm sdu) = subst IsSearch (sym came_up ∙ is) here in
          let psm_is = one in
          let well' = failed_before psm sdu p.server p.inbox psm_is well in
          let facts = k well' before in
          let reply' = up_reply psm sdu p.server p.inbox psm_is well' in
          record {
            alone = with_new (λ (e : Endpoint). is_of search_psm e ≡ true) psm own p.endpoints (eq-eqb psm search_psm psm_is) facts.alone;
            count = λ other.
                let more = came_more Q other front (Comes pdu) in
                let takes' = took_more Q other front (Comes pdu) in
                let before' = j before other in
                counted other (eqb own other) refl reply' psm_is (omega (arith, takes')) more (ap (λ (u : Handed). length (sdus_up other (u ∷ []))) (sym came_up ∙ is)) before';
          }
        where
          after : ServerProfile
          after = handed_by (Received own psm sdu) p

          counted : (other : ℕ) (here : Bool) → eqb own other ≡ here → (after.server.reply ≡ [] → ⊥) → psm ≡ search_psm → took Q other front ≤ took Q other (front ++ Comes pdu ∷ []) → came Q other (front ++ Comes pdu ∷ []) ≡ came Q other front + length (sdus_up other (up_with (Comes pdu) (run_of Q front).value ∷ []))
              → length (sdus_up other (up_with (Comes pdu) (run_of Q front).value ∷ [])) ≡ length (sdus_up other (Received own psm sdu ∷ [])) → came Q other front ≤ took Q other front → Counts other (came Q other (front ++ Comes pdu ∷ [])) (took Q other (front ++ Comes pdu ∷ [])) after
          counted other true same reply' psm_is takes' more here before' =
              let one : length (sdus_up other (Received own psm sdu ∷ [])) ≡ 1 = ap (λ (b : Bool). length (cons_option (cond b (Some sdu) None) [])) same in
              inr (reply', first ∙ ap Some (eqb-true own other same), omega (arith, more, here, one, before', takes'))
            where
              first : endpoint_of search_psm (with_endpoint psm own p.endpoints) ≡ Some own
              first = subst (λ (n : ℕ). endpoint_of search_psm (with_endpoint n own p.endpoints) ≡ Some own) (sym psm_is) refl
          counted other false apart reply' psm_is takes' more here before' =
              let none : length (sdus_up other (Received own psm sdu ∷ [])) ≡ 0 = ap (λ (b : Bool). length (cons_option (cond b (Some sdu) None) [])) apart in
              inl (omega (arith, more, here, none, before', takes'))

  -- ---- what happened is told

  down_reply : (psm : ℕ) (s : Server) (gift : Gift) → (psm ≡ search_psm → ⊥) → (server.channel_down psm s gift).server.reply ≡ s.reply
  down_reply psm s gift =
      cond_both s.listener.service.failed (let r : Reacted = record { server = s; gift = gift } in r) (server.closed_on psm s gift) (λ (r : Reacted). (psm ≡ search_psm → ⊥) → r.server.reply ≡ s.reply) (λ e apart. refl) (λ e.
      by_psm (λ p. (p ≡ search_psm → ⊥) → (server.closed_on p s gift).server.reply ≡ s.reply) (λ apart. absurd (apart refl)) (λ apart. refl) (λ apart. refl)
      (λ p x y z apart. ap (λ (r : Reacted). r.server.reply) (cond-false _ _ _ x ∙ (cond-false _ _ _ y ∙ cond-false _ _ (let r : Reacted = record { server = s; gift = gift } in r) z))) psm)

  down_failed : (psm : ℕ) (s : Server) (gift : Gift) → (server.channel_down psm s gift).server.listener.service.failed ≡ false → s.listener.service.failed ≡ false
  down_failed psm s gift =
      cond_both s.listener.service.failed (let r : Reacted = record { server = s; gift = gift } in r) (server.closed_on psm s gift) (λ (r : Reacted). r.server.listener.service.failed ≡ false → s.listener.service.failed ≡ false) (λ e well. well) (λ e well. e)

  told_k : (event : ChannelEvent) (w : Channels) (p : ServerProfile) → EndsNoSearch event → (servers.happened event w p).server.listener.service.failed ≡ false
      → (p.server.listener.service.failed ≡ false) × ((servers.happened event w p).server.reply ≡ p.server.reply) × ((servers.happened event w p).endpoints ≡ p.endpoints)
  told_k (events.Opened own psm) w p ends = λ well. (well, refl, refl)
  told_k (events.Closed own psm reason) w p ends =
      cond_both (servers.is_told reason) (servers.reacts (server.channel_down psm p.server p.inbox) p) p (λ (q : ServerProfile). q.server.listener.service.failed ≡ false → (p.server.listener.service.failed ≡ false) × (q.server.reply ≡ p.server.reply) × (q.endpoints ≡ p.endpoints))
      (λ e well. (down_failed psm p.server p.inbox well, down_reply psm p.server p.inbox ends, refl)) (λ e well. (well, refl, refl))
  told_k (events.Features features) w p ends = λ well. (well, refl, refl)
  told_k events.FeaturesLost w p ends = λ well. (well, refl, refl)
  told_k (events.DisconnectLost own) w p ends = λ well. (well, refl, refl)

  tells_k : (front : List Occurrence) (v : Channels) (p : ServerProfile) → v ≡ (run_of (policy settings true) front).value → K front p → K (front ++ Tells ∷ []) (strand_profile (server_profile settings content) Telling v p)
  tells_k front v p at k = by v.events refl
    where
      by : (found : List ChannelEvent) → v.events ≡ found → K (front ++ Tells ∷ []) (told_next (server_profile settings content) found v p)
      by [] is well searches = still front Tells p p refl refl refl (k well (searches_less Q front Tells searches).0)
      by (event ∷ found) is well searches =
          let (before, here, told) = searches_less Q front Tells searches in
          let ends : AllByRecursion EndsNoSearch (option_to_list (slice_get (event ∷ found) 0)) = subst (λ (l : List ChannelEvent). AllByRecursion EndsNoSearch (option_to_list (slice_get l 0))) (ap (λ (w : Channels). w.events) (sym at) ∙ is) told in
          let w : Channels = record v { events = found } in
          let (well', reply_same, ends_same) = told_k event w p ends.0 well in
          still front Tells p (servers.happened event w p) refl reply_same ends_same (k well' before)

  -- ---- it takes a step

  abbrev step_list : Option Lent → Channels → ServerProfile → List Occurrence
  step_list lent v p = from_call (lent_call lent v p)

  -- its channel took what was lent
  sent_data : (front : List Occurrence) (own' : ℕ) (lent : Lent) (v : Channels) (p : ServerProfile) → v ≡ (run_of (policy settings true) front).value → (let s = lends p.server in lent_sdu s ≡ Some lent) → endpoint_of lent.psm p.endpoints ≡ Some own' → takes_sdu own' (sdu_of lent.payload) v ≡ true → Data front p
      → (let q : ServerProfile = record p { server = server.stepped (lends p.server) } in Data (front ++ Sends own' (sdu_of lent.payload) ∷ []) q)
  sent_data front own' lent v p at is found takes facts = by s.lent refl
    where
      s : Server
      s = lends p.server

      one : Occurrence
      one = Sends own' (sdu_of lent.payload)

      reply_same : s.reply ≡ p.server.reply
      reply_same = lends_reply p.server.lent p.server

      with_server : Server → ServerProfile
      with_server t = record p { server = t }

      plain : (t : Server) → t.reply ≡ p.server.reply → Data (front ++ one ∷ []) (with_server t)
      plain t same = still front one p (with_server t) refl same refl facts

      -- the channel that it was on took one more
      taken_one : (own : ℕ) → own ≡ own' → took Q own (front ++ one ∷ []) ≡ took Q own front + 1
      taken_one own same =
          let free = (is_taken own' (sdu_of lent.payload) v takes).free in
          took_more Q own front one ∙ ap (λ (b : Bool). took Q own front + length (cond b (sdu_of lent.payload ∷ []) [])) (both_on (eqb own' own) (is_free (carrier_at own' (run_of Q front).value)) (eq-eqb own' own (sym same)) (ap (λ (w : Channels). is_free (carrier_at own' w)) (sym at) ∙ free))
        where
          both_on : (a b : Bool) → a ≡ true → b ≡ true → (a && b) ≡ true
          both_on true b is' other = other
          both_on false b is' other = cc

      psm_is : s.lent ≡ Some Records → lent.psm ≡ search_psm
      psm_is some = let same : Some (let l : Lent = record { psm = search_psm; payload = Octets s.reply } in l) ≡ Some lent = ap (λ (o : Option Outlet). lent_by o s) (sym some) ∙ is in by_some _ lent same
        where
          by_some : (a b : Lent) → Some a ≡ Some b → b.psm ≡ a.psm
          by_some a b e = cc

      same_own : (a b : ℕ) → Some a ≡ Some b → a ≡ b
      same_own a b e = cc

      counted : (own : ℕ) → s.lent ≡ Some Records → Counts own (came Q own front) (took Q own front) p → (let q = with_server (server.taken_by (Some Records) s) in Counts own (came Q own (front ++ one ∷ [])) (took Q own (front ++ one ∷ [])) q)
      counted own some (inl less) = let more = came_more Q own front one in let takes' = took_more Q own front one in inl (omega (arith, more, takes', less))
      counted own some (inr (waits, there, less)) =
          let more = came_more Q own front one in
          let own_is = same_own own own' (sym there ∙ (ap (λ (n : ℕ). endpoint_of n p.endpoints) (sym (psm_is some)) ∙ found)) in
          let takes' = taken_one own own_is in
          inl (omega (arith, more, takes', less))

      by : (o : Option Outlet) → s.lent ≡ o → Data (front ++ one ∷ []) (with_server (server.taken_by o s))
      by None none = plain s reply_same
      by (Some Direct) some = plain (server.taken_by (Some Direct) s) reply_same
      by (Some Muxed) some = plain (server.taken_by (Some Muxed) s) reply_same
      by (Some Records) some = record { alone = facts.alone; count = λ own. counted own some (facts.count own) }

  steps_with : (lent : Option Lent) (front : List Occurrence) (v : Channels) (p : ServerProfile) → lent_sdu (lends p.server) ≡ lent → v ≡ (run_of (policy settings true) front).value → K front p → K (front ++ step_list lent v p) (servers.takes lent v (lends p.server) p).profile
  steps_with None front v p is at k = λ well searches. waited front p k (subst (λ (l : List Occurrence). HasSearches (run_of Q l)) (append-nil front) searches) well
    where
      waited : (front : List Occurrence) (p : ServerProfile) → K front p → HasSearches (run_of (policy settings true) front) → (lends p.server).listener.service.failed ≡ false → (let q : ServerProfile = record p { server = lends p.server } in Data (front ++ []) q)
      waited front p k searches well = subst (λ (l : List Occurrence). let q : ServerProfile = record p { server = lends p.server } in Data l q) (sym (append-nil front)) (lent_data front p (k (sym (lends_fails p.server.lent p.server) ∙ well) searches))
  steps_with (Some lent) front v p is at k = found (endpoint_of lent.psm p.endpoints) refl
    where
      waits : (well : (lends p.server).listener.service.failed ≡ false) → HasSearches (run_of (policy settings true) (front ++ [])) → (let q : ServerProfile = record p { server = lends p.server } in Data (front ++ []) q)
      waits well searches =
          subst (λ (l : List Occurrence). let q : ServerProfile = record p { server = lends p.server } in Data l q) (sym (append-nil front))
          (lent_data front p (k (sym (lends_fails p.server.lent p.server) ∙ well) (subst (λ (l : List Occurrence). HasSearches (run_of Q l)) (append-nil front) searches)))

      tests : (own' : ℕ) (taken : Bool) → endpoint_of lent.psm p.endpoints ≡ Some own' → takes_sdu own' (sdu_of lent.payload) v ≡ taken
          → (let took' : Stride ServerProfile = record { channels = sends own' (sdu_of lent.payload) v; profile = record p { server = server.stepped (lends p.server) }; more = true } in
          K (front ++ from_call (send_if taken own' lent.payload)) (cond taken took' (servers.waiting v (lends p.server) p)).profile)
      tests own' false at' takes' well searches = waits well searches
      tests own' true at' takes' well searches =
          let well' = sym (taken_fails (lends p.server).lent (lends p.server) ∙ lends_fails p.server.lent p.server) ∙ well in
          sent_data front own' lent v p at is at' takes' (k well' (searches_less Q front (Sends own' (sdu_of lent.payload)) searches).0)

      found : (own : Option ℕ) → endpoint_of lent.psm p.endpoints ≡ own → K (front ++ from_call (sends_on v lent.payload own)) (servers.submits own lent v (lends p.server) p).profile
      found None at' = waits
      found (Some own') at' = tests own' (takes_sdu own' (sdu_of lent.payload) v) at' refl

  steps_k : (front : List Occurrence) (v : Channels) (p : ServerProfile) → v ≡ (run_of (policy settings true) front).value → K front p → K (front ++ strand_list (server_profile settings content) asks Stepping v p) (strand_profile (server_profile settings content) Stepping v p)
  steps_k front v p at k =
      subst (λ (call : Option Call). K (front ++ from_call call) (servers.next_stride v p).profile) (sym (servers-call settings content v p))
      (steps_with (lent_sdu (lends p.server)) front v p refl at k)

  -- ---- on a link

  plain_k : (front : List Occurrence) (one : Occurrence) (p : ServerProfile) → up_with one (run_of (policy settings true) front).value ≡ Nothing → K front p → K (front ++ one ∷ []) p
  plain_k front one p none k well searches = still front one p p none refl refl (k well (searches_less Q front one searches).0)

  none_k : (front : List Occurrence) (p p' : ServerProfile) → p'.server ≡ p.server → p'.endpoints ≡ p.endpoints → K front p → K (front ++ []) p'
  none_k front p p' same ends k well searches =
      subst (λ (l : List Occurrence). Data l p') (sym (append-nil front))
      (moved (k (sym (ap (λ (t : Server). t.listener.service.failed) same) ∙ well) (subst (λ (l : List Occurrence). HasSearches (run_of Q l)) (append-nil front) searches)))
    where
      moved : Data front p → Data front p'
      moved facts = record {
        alone = subst SearchesAlone (sym ends) facts.alone;
        count = λ own. counts_on own (came Q own front) (took Q own front) (came Q own front) (took Q own front) p p' refl (omega arith) (ap (λ (t : Server). t.reply) same) ends (facts.count own);
      }

  news_k : (front : List Occurrence) (g : List Circumstance) (news : News) (p : ServerProfile) → IsOnLink (Learning g news) → K front p → K (front ++ []) (servers.told g news p)
  news_k front g (Linked event) p on k = let never : _ ≡ [] = on in cc
  news_k front g (Failed status) p on k = none_k front p p refl refl k
  news_k front g (Heard pdu) p on k = none_k front p p refl refl k
  news_k front g TimerFired p on k = none_k front p p refl refl k
  news_k front g Cancelled p on k = none_k front p p refl refl k
  news_k front g (Opening name) p on k = none_k front p p refl refl k

  strand_k : (strand : Strand) (front : List Occurrence) (v : Channels) (p : ServerProfile) → IsOnLink strand → v ≡ (run_of (policy settings true) front).value → EachAfter (IsHeardSo J) front (strand_list (server_profile settings content) asks strand v p) → K front p
      → K (front ++ strand_list (server_profile settings content) asks strand v p) (strand_profile (server_profile settings content) strand v p)
  strand_k (Hearing pdu) front v p on at hears k = hears_k front pdu v p at k hears.0
  strand_k (Giving pdu) front v p on at hears k = plain_k front (Gives pdu) p refl k
  strand_k Firing front v p on at hears k = plain_k front Fires p refl k
  strand_k Telling front v p on at hears k = tells_k front v p at k
  strand_k (Gifting g) front v p on at hears k = none_k front p (strand_profile B (Gifting g) v p) refl refl k
  strand_k (Learning g news) front v p on at hears k = news_k front g news p on k
  strand_k Checking front v p on at hears k = none_k front p p refl refl k
  strand_k Stepping front v p on at hears k = steps_k front v p at k

  weave_k : (weave : List Strand) (front : List Occurrence) (v : Channels) (p : ServerProfile) → AllByRecursion IsOnLink weave → v ≡ (run_of (policy settings true) front).value
      → EachAfter (IsHeardSo J) front (woven_list (server_profile settings content) asks weave v p) → K front p → K (front ++ woven_list (server_profile settings content) asks weave v p) (woven_profile (server_profile settings content) asks weave v p)
  weave_k [] front v p on at hears k = none_k front p p refl refl k
  weave_k (strand ∷ weave) front v p on at hears k =
      let list = strand_list B asks strand v p in
      let w = values_after B.policy v list in
      let q = strand_profile B strand v p in
      let rest = woven_list B asks weave w q in
      let parts = each_split (IsHeardSo J) front list rest hears in
      subst (λ (l : List Occurrence). K l (woven_profile B asks weave w q)) (append_assoc front list rest)
      (weave_k weave (front ++ list) w q on.1 (value_behind Q front list v at) parts.1 (strand_k strand front v p on.0 at parts.0 k))

  -- of a profile that knew no channel as the link came up, and that has no reply that waits
  pub woven-answers : (list : List Occurrence) (first last : ServerProfile) → Woven (server_profile settings content) asks list first last → first.endpoints ≡ [] → EachAfter (IsHeardSo J) [] list → last.server.listener.service.failed ≡ false → (SearchesAlone last.endpoints → last.server.reply ≡ []) → J list
  woven-answers list first last woven none hears well empty searches own = by ((now.count own))
    where
      begins : K [] first
      begins well' searches' = record { alone = subst SearchesAlone (sym none) tt; count = λ own'. inl (omega arith) }

      ends : K (woven_list B asks woven.weave no_channels first) (woven_profile B asks woven.weave no_channels first)
      ends = weave_k woven.weave [] no_channels first woven.on_link refl (subst (EachAfter (IsHeardSo J) []) woven.list_is hears) begins

      now : Data list last
      now = subst (K list) (sym woven.last_is) (subst (λ (l : List Occurrence). K l (woven_profile B asks woven.weave no_channels first)) (sym woven.list_is) ends) well searches

      by : Counts own (came Q own list) (took Q own list) last → came Q own list ≤ took Q own list
      by (inl less) = less
      by (inr (waits, at, less)) = absurd (waits (empty now.alone))
