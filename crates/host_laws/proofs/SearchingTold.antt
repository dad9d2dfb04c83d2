-- A client hears an SDU, is told what happened to its channels, and hears its timer or that its push is cancelled: what it holds of its search
-- stays so.
use Rattle.std.proofs.Common.{◌≡◌, ℕ, List, [], ◌∷◌, ◌++◌, drop, fold, Bool, true, false, cond, eqb, not, nat_lt, min, Option, Some, None, refl, sym, ap, subst, ◌∙◌, ◌⊎◌, inl, inr, append-nil}
use Rattle.std.specs.Prelude.{find, is_some, option_map}
use Rattle.std.proofs.lemmas.Bool.{eq-eqb}
use Rattle.shelf_model.specs.acl_fragments.specs.Pieces.{channel_of}
use Rattle.shelf_model.specs.bt_base.specs.Octets.{IsOctets}
use Rattle.shelf_model.specs.bt_base.specs.declared.settings.Settings.{Settings}
use Rattle.shelf_model.specs.bt_base.specs.declared.settings.Transport.{Transport}
use Rattle.shelf_model.specs.bt_base.specs.declared.settings.Transport.TheVariants.{L2cap, Rfcomm}
use Rattle.shelf_model.specs.capture.specs.declared.flow.Flow.TheVariants.{Into}
use Rattle.shelf_model.specs.l2cap_signal.proofs.Contents.{octets_behind}
use Rattle.push_laws.specs.link_talk.specs.Sdus.{spoken_as}
use Rattle.push_laws.specs.link_talk.specs.ServiceAnswers.{waiting_after}
use Rattle.shelf_model.specs.push_terms.specs.declared.outcome.Outcome.{Outcome}
use Rattle.shelf_model.specs.push_terms.specs.declared.outcome.Outcome.TheVariants as outcomes
use Rattle.shelf_model.specs.sdp_client.specs.Hearing.{found_at, after_reply}
use Rattle.shelf_model.specs.sdp_client.specs.Views.{is_awaiting}
use Rattle.channel_laws.specs.channel_model.specs.declared.event.ChannelEvent.{ChannelEvent}
use Rattle.channel_laws.specs.channel_model.specs.declared.event.ChannelEvent.TheVariants.{Opened, Closed, Features as Told, FeaturesLost, DisconnectLost}
use Rattle.channel_laws.specs.channel_model.specs.Value.{Setup, Stage as Held_stage, Requested, Connected, Leaving, Closing, Crossed, Held, Channels}
use Rattle.channel_laws.specs.channel_model.specs.Policies.{Policy, policy}
use Rattle.channel_laws.specs.channel_model.specs.Changing.{has_own, is_open, setup_of}
use Rattle.channel_laws.specs.channel_model.specs.Carrying.{Up, Nothing, Received}
use Rattle.channel_laws.specs.channel_model.specs.Hearing.{up}
use Rattle.channel_laws.specs.channel_model.specs.Calls.{setup_on, carrier_if, open_carrier, carrier_mtu, some_waits, peer_mtu, waits}
use Rattle.channel_laws.specs.channel_model.specs.Value.{Carrier, Plain, Retransmitting}
use Rattle.channel_laws.specs.channel_model.proofs.Lookups.{eqb-same}
use Rattle.channel_laws.specs.Frames.{IsUttered}
use Rattle.channel_laws.specs.Exchanged.{heard_in, exchanged_in}
use Rattle.channel_laws.specs.Runs.{Occurrence, Comes, Tells, value_after, Run, run_on, run_of}
use Rattle.channel_laws.proofs.Keeping.{StageKeeps}
use Rattle.channel_laws.proofs.Ready.{IsFreeSome, Ready, SendsNone, IsReady}
use Rattle.push_laws.specs.push_model.specs.declared.closing.CloseCause.{CloseCause}
use Rattle.push_laws.specs.push_model.specs.declared.course.Point.{Point}
use Rattle.push_laws.specs.push_model.specs.declared.course.Point.TheVariants.{Due, Asked}
use Rattle.push_laws.specs.push_model.specs.declared.course.Stage.{Stage}
use Rattle.push_laws.specs.push_model.specs.declared.course.Stage.TheVariants.{Rest, Link, SearchChannel, Search, SearchEnd, Features, ObjectChannel, Object, ObjectEnd, LinkEnd, Over}
use Rattle.push_laws.specs.push_model.specs.Causes.{small_channel, unawaited_response, cause_of_close}
use Rattle.push_laws.specs.push_model.specs.Client.{Client, ends, ends_if, may_cancel, cancelled}
use Rattle.push_laws.specs.push_model.specs.Events as events
use Rattle.push_laws.specs.push_model.specs.Events.{is_asking_features, object_opened, muxed_anew, opened_at, search_left, search_closed, closed_at, finds, hears_reply, hears_outside, sdu_at, hears_news}
use Rattle.push_laws.specs.push_model.specs.Steps.{Step, Wait, MakeLink, AskFeatures, OpenChannel, SendSdu, CloseChannel, BreakLink, Ended, NoMemory, steps}
use Rattle.shelf_model.specs.world_model.specs.Machines.{News, Linked, Failed, Heard, TimerFired, Cancelled, Opening}
use Rattle.shelf_model.specs.host_model.specs.Circumstances.{Circumstance}
use Rattle.shelf_model.specs.host_model.specs.Endpoints.{Endpoint}
use Rattle.shelf_model.specs.host_model.specs.Hosts.{handed}
use Rattle.shelf_model.specs.host_model.specs.Profiles.{Profile}
use Rattle.shelf_model.specs.host_model.specs.Clients as clients
use Rattle.shelf_model.specs.host_model.specs.Clients.{ClientProfile, client_profile, after_end, ended, opened_by, closed_by, cause_of, event_heard, sent_on}
use Rattle.host_laws.specs.Asked.{IsOfLink}
use Rattle.host_laws.specs.Leaving.{in_use, is_off}
use Rattle.host_laws.specs.Woven.{told_next}
use Rattle.host_laws.proofs.Changes.{Fine, comes-fine}
use Rattle.host_laws.proofs.Courses.{steps_off}
use Rattle.host_laws.proofs.Faces.{same_face, Goes, same, heard_goes, heard_off, timer_goes, timer_off, cancelled_goes, cancelled_off}
use Rattle.host_laws.proofs.OnwardSteps as onward
use Rattle.host_laws.proofs.Querying.{awaited, hears_awaited, IsAsking, begun_asks, reply_asks}
use Rattle.host_laws.proofs.Searching.{WaitsAt, OnSearch, IsNamed, Of, Finds, At, at_of, of_at, ends_find, if_find, either_find, finds_find, timer_find, used_finds}
use Rattle.host_laws.proofs.SearchingOn.{has_one, Hands, up_one, heard_none, searched, more_at, quiet_of}
use Rattle.host_laws.proofs.StandingClients.{Clean, Lives, Ends, Idle, Waits, Told as ToldThem, Fatal, most, clean_keeps, fatal_keeps, fatal-fine, fine_clean, event_off}
use Rattle.host_laws.proofs.KeepingClients.{TellsFirst, Result, event_clean, event_fatal}

-- ---- its push is not over

pub end_off : (step : Step) (c d : Client) → is_off c.stage ≡ true → is_off d.stage ≡ true → is_off (after_end step d c).stage ≡ true
end_off (Ended outcome) c d off now = now
end_off Wait c d off now = off
end_off MakeLink c d off now = off
end_off AskFeatures c d off now = off
end_off (OpenChannel psm) c d off now = off
end_off (SendSdu psm payload) c d off now = off
end_off (CloseChannel psm) c d off now = off
end_off BreakLink c d off now = off
end_off NoMemory c d off now = off

pub ended_off : (c : Client) → is_off c.stage ≡ true → is_off (ended c).stage ≡ true
ended_off c off = let one = steps c [] in end_off one.step c one.client off (steps_off c [] off)

pub end_same : (step : Step) (c d : Client) → is_off c.stage ≡ false → onward.StepSo c d step → after_end step d c ≡ c
end_same (Ended outcome) c d on (from, to) = let never : true ≡ false = sym (ap is_off from) ∙ on in absurd cc
end_same Wait c d on so = refl
end_same MakeLink c d on so = refl
end_same AskFeatures c d on so = refl
end_same (OpenChannel psm) c d on so = refl
end_same (SendSdu psm payload) c d on so = refl
end_same (CloseChannel psm) c d on so = refl
end_same BreakLink c d on so = refl
end_same NoMemory c d on so = refl

pub ended_same : (c : Client) → is_off c.stage ≡ false → ended c ≡ c
ended_same c on = let one = steps c [] in end_same one.step c one.client on (onward.steps_so c [])

module _ (settings : Settings) where
  abbrev wanted : Policy
  wanted = policy settings false

  abbrev A : Profile ClientProfile
  A = client_profile settings

  -- how it stands, and what it holds of its search
  pub data Sees (p : ClientProfile) (run : Run) : Type 0 where
    Off : is_off p.client.stage ≡ true → Sees p run
    Doomed : Fatal p.client run.value → Sees p run
    Well : Clean p.client run.value → Of wanted p.endpoints p.submitted run p.client → Sees p run

  pub well : (p : ClientProfile) (run : Run) → Clean p.client run.value → Finds wanted p.endpoints p.submitted run p.client → Sees p run
  well p run clean (inl off) = Off off
  well p run clean (inr so) = Well clean so

  pub moves_fatal : (c : Client) (q : ClientProfile) (run : Run) → Goes c q.client → Fatal c run.value → Sees q run
  moves_fatal c q run (inl off) fatal = Off off
  moves_fatal c q run (inr keeps) fatal = Doomed (fatal_keeps c q.client run.value (most c q.client keeps) fatal)

  pub moves_well : (c : Client) (q : ClientProfile) (run : Run) → Goes c q.client → Clean c run.value → Finds wanted q.endpoints q.submitted run q.client → Sees q run
  moves_well c q run (inl off) clean finds' = Off off
  moves_well c q run (inr keeps) clean finds' = well q run (clean_keeps c q.client run.value keeps clean) finds'

  -- ---- it hears an SDU

  module _ (list : List Occurrence) (pdu : List ℕ) (p : ClientProfile) (octets : IsOctets pdu) where
    abbrev run : Run
    run = run_of wanted list

    abbrev then : Run
    then = run_on wanted run (Comes pdu)

    abbrev c : Client
    c = p.client

    abbrev u : Up
    u = up (channel_of pdu) pdu run.value

    abbrev F : Client → Type 0
    F d = Finds wanted p.endpoints p.submitted then d

    goes : (K : Channels → Type 0) → Fine K → K run.value → K then.value
    goes K fine k = comes-fine K fine wanted (λ psm. refl) pdu run.value k

    module _ (clean : Clean c run.value) (now : Clean c then.value) (so : Of wanted p.endpoints p.submitted run c) where
      apart : (stage : Stage) → c.stage ≡ stage → (stage ≡ Search → ⊥) → F c
      apart stage at other = inr (at_of wanted p.endpoints p.submitted then stage c at (more_at settings list (Comes pdu) p goes tt tt stage at other (λ own. heard_none settings own u) clean now (of_at wanted p.endpoints p.submitted run stage c at so)))

      -- in its search
      reply : (own psm : ℕ) (sdu : List ℕ) → u ≡ Received own psm sdu → c.stage ≡ Search → F (sdu_at Search psm sdu c)
      reply own psm sdu is at =
          let was = of_at wanted p.endpoints p.submitted run Search c at so in
          let one : Held = was.1 in
          let has = has_one c run.value one (ap is_asking_features at) was.2 clean in
          let psm_is : one.psm ≡ 0x0001 = ap (λ (h : Held). h.psm) (sym has.is) ∙ (has.live.psm_is ∙ same_psm has.psm (sym has.uses.used ∙ ap (λ s. in_use s c.psm) at)) in
          by one (up_one settings list one pdu was.2 psm_is) psm_is (searched settings list (Comes pdu) p goes tt tt at clean now was)
        where
          same_psm : (n : ℕ) → Some n ≡ Some 0x0001 → n ≡ 0x0001
          same_psm n same = cc

          heard : Client
          heard = record c { query = after_reply c.query sdu }

          found : psm ≡ 0x0001 → Of wanted p.endpoints p.submitted then heard → F (sdu_at Search psm sdu c)
          found here of_heard = subst (λ b. F (cond b (hears_reply sdu c) c)) (sym (eq-eqb psm 0x0001 here)) (finds_find wanted p.endpoints p.submitted then (found_at c.query sdu) heard at of_heard)

          by : (one : Held) → Hands settings one pdu u → one.psm ≡ 0x0001
              → (IsAsking c.query × (next : Held) × (then.value.held ≡ next ∷ []) × OnSearch wanted p.endpoints p.submitted true (not c.given) true (fold waiting_after (awaited c.query) (exchanged_in one.own (Comes pdu) run.value)) then next) → F (sdu_at Search psm sdu c)
          by one (inl none) psm_is late = let never : Nothing ≡ Received own psm sdu = sym none ∙ is in absurd cc
          by one (inr hands) psm_is (asking, next, next_is, late) =
              let both : Received own psm sdu ≡ Received one.own one.psm (drop 4 pdu) = sym is ∙ hands in
              let own_is : own ≡ one.own = cc in
              let here : psm ≡ one.psm = cc in
              let sdu_is : sdu ≡ drop 4 pdu = cc in
              let spoke : fold waiting_after (awaited c.query) (exchanged_in one.own (Comes pdu) run.value) ≡ awaited (after_reply c.query sdu) =
              ap (λ x. fold waiting_after (awaited c.query) (heard_in one.own x ++ [])) is
              ∙ (ap (λ b. fold waiting_after (awaited c.query) (cond b (spoken_as Into sdu ∷ []) [] ++ [])) (eq-eqb own one.own own_is) ∙ hears_awaited c.query sdu) in
              found (here ∙ psm_is) (at_of wanted p.endpoints p.submitted then Search heard at (
                reply_asks c.query sdu (subst IsOctets (sym sdu_is) (octets_behind 4 pdu octets)) asking,
                next,
                next_is,
                subst (λ w. OnSearch wanted p.endpoints p.submitted true (not c.given) true w then next) spoke late,
              ))

      -- in each stage
      sdu_finds : (own psm : ℕ) (sdu : List ℕ) → u ≡ Received own psm sdu → (stage : Stage) → c.stage ≡ stage → Goes c (sdu_at c.stage psm sdu c) → F (sdu_at stage psm sdu c)
      sdu_finds own psm sdu is Search at step = reply own psm sdu is at
      sdu_finds own psm sdu is Rest at step = apart Rest at (λ is. cc)
      sdu_finds own psm sdu is (Link point) at step = apart (Link point) at (λ is. cc)
      sdu_finds own psm sdu is (SearchChannel point) at step = apart (SearchChannel point) at (λ is. cc)
      sdu_finds own psm sdu is (SearchEnd point) at step = apart (SearchEnd point) at (λ is. cc)
      sdu_finds own psm sdu is (Features point) at step = apart (Features point) at (λ is. cc)
      sdu_finds own psm sdu is (LinkEnd point) at step = apart (LinkEnd point) at (λ is. cc)
      sdu_finds own psm sdu is Over at step = apart Over at (λ is. cc)
      sdu_finds own psm sdu is (ObjectChannel point) at step = either_find wanted p.endpoints p.submitted then (eqb psm c.psm) (hears_outside c.transport c) c (outside c.transport (apart (ObjectChannel point) at (λ is. cc))) (apart (ObjectChannel point) at (λ is. cc))
        where
          outside : (transport : Transport) → F c → F (hears_outside transport c)
          outside L2cap (inl off) = inl (let never = ap is_off at in let wrong : true ≡ false = sym off ∙ never in absurd cc)
          outside L2cap (inr of_c) = ends_find wanted p.endpoints p.submitted then unawaited_response c of_c
          outside Rfcomm find_c = find_c
      sdu_finds own psm sdu is (ObjectEnd point) at step = either_find wanted p.endpoints p.submitted then (eqb psm c.psm) (hears_outside c.transport c) c (outside c.transport (apart (ObjectEnd point) at (λ is. cc))) (apart (ObjectEnd point) at (λ is. cc))
        where
          outside : (transport : Transport) → F c → F (hears_outside transport c)
          outside L2cap (inl off) = inl (let never = ap is_off at in let wrong : true ≡ false = sym off ∙ never in absurd cc)
          outside L2cap (inr of_c) = ends_find wanted p.endpoints p.submitted then unawaited_response c of_c
          outside Rfcomm find_c = find_c
      sdu_finds own psm sdu is Object at step = on (subst (λ s. Goes c (sdu_at s psm sdu c)) at step)
        where
          on : Goes c (sdu_at Object psm sdu c) → F (sdu_at Object psm sdu c)
          on (inl off) = inl off
          on (inr keeps) = let d = sdu_at Object psm sdu c in inr (used_finds wanted p.endpoints p.submitted then d.stage d c.psm refl (keeps.used ∙ ap (λ s. in_use s c.psm) at) (of_at wanted p.endpoints p.submitted run Object c at so))

      handed_well : (v : Up) → u ≡ v → Sees (handed A v p) then
      handed_well Nothing is = Well now (quiet_of settings list (Comes pdu) p goes tt tt (λ own. ap (λ x. heard_in own x ++ []) is) clean now so)
      handed_well (Received own psm sdu) is = moves_well c (clients.received own psm sdu p) then (heard_goes psm sdu c) now (sdu_finds own psm sdu is c.stage refl (heard_goes psm sdu c))

    handed_fatal : (v : Up) → Fatal c then.value → Sees (handed A v p) then
    handed_fatal Nothing fatal = Doomed fatal
    handed_fatal (Received own psm sdu) fatal = moves_fatal c (clients.received own psm sdu p) then (heard_goes psm sdu c) fatal

    handed_off : (v : Up) → is_off c.stage ≡ true → Sees (handed A v p) then
    handed_off Nothing off = Off off
    handed_off (Received own psm sdu) off = Off (heard_off psm sdu c off)

    pub hearing : Sees p run → Sees (handed A u p) then
    hearing (Off off) = handed_off u off
    hearing (Doomed fatal) = handed_fatal u (goes (Fatal c) (fatal-fine c) fatal)
    hearing (Well clean so) = by (fine_clean c run.value then.value goes clean)
      where
        by : Clean c then.value ⊎ Fatal c then.value → Sees (handed A u p) then
        by (inl now) = handed_well clean now so u refl
        by (inr fatal) = handed_fatal u fatal

  -- ---- a PDU is given, the timer fires

  pub changes : (list : List Occurrence) (more : Occurrence) (p : ClientProfile) → (let run = run_of wanted list in ((K : Channels → Type 0) → Fine K → K run.value → K (value_after wanted more run.value)) → SendsNone true more → IsUttered more run.value
      → ((own : ℕ) → exchanged_in own more run.value ≡ []) → Sees p run → Sees p (run_on wanted run more))
  changes list more p goes none uttered quiet (Off off) = Off off
  changes list more p goes none uttered quiet (Doomed fatal) = Doomed (goes (Fatal p.client) (fatal-fine p.client) fatal)
  changes list more p goes none uttered quiet (Well clean so) = by (fine_clean p.client (run_of wanted list).value (value_after wanted more (run_of wanted list).value) goes clean)
    where
      by : Clean p.client (value_after wanted more (run_of wanted list).value) ⊎ Fatal p.client (value_after wanted more (run_of wanted list).value) → Sees p (run_on wanted (run_of wanted list) more)
      by (inl now) = Well now (quiet_of settings list more p goes none uttered quiet clean now so)
      by (inr fatal) = Doomed fatal

  -- ---- it is told what happened

  module _ (list : List Occurrence) (p : ClientProfile) where
    abbrev told_run : Run
    told_run = run_of wanted list

    abbrev told_then : Run
    told_then = run_on wanted told_run Tells

    abbrev tc : Client
    tc = p.client

    abbrev T : Client → Type 0
    T d = Finds wanted p.endpoints p.submitted told_then d

    tells_one : (opens frees known : Bool) (waiting : Option ℕ) (one : Held) → OnSearch wanted p.endpoints p.submitted opens frees known waiting told_run one → OnSearch wanted p.endpoints p.submitted opens frees known waiting told_then one
    tells_one opens frees known waiting one so = record {
      endpoint = so.endpoint;
      submits = so.submits;
      ready = so.ready;
      waits_so = subst (λ said. WaitsAt known one.own said waiting) (sym (append-nil told_run.said)) so.waits_so;
      settled = so.settled;
    }

    -- nothing is said, and its channels stay as they are
    tells_at : (stage : Stage) → At wanted p.endpoints p.submitted told_run stage tc → At wanted p.endpoints p.submitted told_then stage tc
    tells_at (SearchChannel Due) so = so
    tells_at (SearchChannel Asked) (new, empty, free, so) = (new, empty, free, λ one is. tells_one false true true None one (so one is))
    tells_at Search (asking, one, is, so) = (asking, one, is, tells_one true (not tc.given) true (awaited tc.query) one so)
    tells_at (SearchEnd Due) (named, so) = (named, λ one is. tells_one false false (not (is_awaiting tc.query)) None one (so one is))
    tells_at (SearchEnd Asked) so = so
    tells_at (Features point) so = so
    tells_at (ObjectChannel point) so = so
    tells_at Object so = so
    tells_at (ObjectEnd point) so = so
    tells_at Rest so = so
    tells_at (Link point) so = so
    tells_at (LinkEnd point) so = so
    tells_at Over so = so

    -- a channel that is open
    record IsOpenOne (v : Channels) : Type 0 where
      one : Held
      held_is : v.held ≡ one ∷ []
      setup : Setup
      has : setup_of one.stage ≡ Some setup
      opened : is_open setup ≡ true

    open_held : (v : Channels) (own mtu : ℕ) (one : Held) → v.held ≡ one ∷ [] → peer_mtu own v ≡ Some mtu → IsOpenOne v
    open_held v own mtu one held_is is = by (eqb one.own own) (sym (ap (λ hs. option_map carrier_mtu (open_carrier (setup_on (find (has_own own) hs)))) held_is) ∙ is)
      where
        opens : (setup : Setup) (b : Bool) → setup_of one.stage ≡ Some setup → is_open setup ≡ b → option_map carrier_mtu (carrier_if b setup) ≡ Some mtu → IsOpenOne v
        opens setup true has opened found = record { one = one; held_is = held_is; setup = setup; has = has; opened = opened }
        opens setup false has opened found = cc

        on : (setup : Option Setup) → setup_of one.stage ≡ setup → option_map carrier_mtu (open_carrier setup) ≡ Some mtu → IsOpenOne v
        on None has found = cc
        on (Some setup) has found = opens setup (is_open setup) has refl found

        by : (b : Bool) → option_map carrier_mtu (open_carrier (setup_on (cond b (Some one) None))) ≡ Some mtu → IsOpenOne v
        by true found = on (setup_of one.stage) refl found
        by false found = cc

    none_open : (v : Channels) (own mtu : ℕ) → v.held ≡ [] → peer_mtu own v ≡ Some mtu → IsOpenOne v
    none_open v own mtu none is = let never : None ≡ Some mtu = sym (ap (λ hs. option_map carrier_mtu (open_carrier (setup_on (find (has_own own) hs)))) none) ∙ is in absurd cc

    open_one : (v : Channels) (own mtu : ℕ) → is_asking_features tc.stage ≡ false → Clean tc v → peer_mtu own v ≡ Some mtu → IsOpenOne v
    open_one v own mtu quiet (Lives psm asked leaving uses live) is = open_held v own mtu live.one live.held_is is
    open_one v own mtu quiet (Ends psm other used closes bare) is = none_open v own mtu bare.held_is is
    open_one v own mtu quiet (Idle bare) is = none_open v own mtu bare.held_is is
    open_one v own mtu quiet (Waits asks waits') is = let never : true ≡ false = sym asks ∙ quiet in absurd cc
    open_one v own mtu quiet (ToldThem asks features bare) is = let never : true ≡ false = sym asks ∙ quiet in absurd cc

    -- it is ready from then on
    ready_open : (frees : Bool) (o : IsOpenOne told_run.value) → IsReady wanted false true o.one → IsReady wanted true frees o.one
    ready_open frees o = by o.one.stage o.has
      where
        same_setup : (s : Setup) → Some s ≡ Some o.setup → is_open s ≡ true
        same_setup s same = let is : s ≡ o.setup = cc in ap is_open is ∙ o.opened

        by : (stage : Held_stage) → setup_of stage ≡ Some o.setup → StageKeeps (Ready false true) (wanted.wish o.one.psm) stage → StageKeeps (Ready true frees) (wanted.wish o.one.psm) stage
        by (Requested request) has ready = cc
        by (Connected peer s) has ready = (λ is. same_setup s has, λ is. ready.1 refl)
        by (Leaving peer s request) has ready = (λ is. same_setup s has, λ is. ready.1 refl)
        by (Closing peer request checked) has ready = tt
        by (Crossed peer request) has ready = tt

    module _ (u : Channels) (seen : u.held ≡ told_run.value.held) (clean : Clean tc told_run.value) (so : Of wanted p.endpoints p.submitted told_run tc) where
      still : T tc
      still = inr (at_of wanted p.endpoints p.submitted told_then tc.stage tc refl (tells_at tc.stage so))

      still_of : Of wanted p.endpoints p.submitted told_then tc
      still_of = tells_at tc.stage so

      either' : (b : Bool) (d e : Client) → T d → T e → T (cond b d e)
      either' b d e one other = either_find wanted p.endpoints p.submitted told_then b d e one other

      -- its search begins
      begins_search : (own mtu : ℕ) → peer_mtu own u ≡ Some mtu → tc.stage ≡ SearchChannel Asked → (let d : Client = record tc { stage = Search } in T d)
      begins_search own mtu is at =
          let o = open_one told_run.value own mtu (ap is_asking_features at) clean (sym (ap (λ hs. option_map carrier_mtu (open_carrier (setup_on (find (has_own own) hs)))) seen) ∙ is) in
          let (new, empty, free, rest) = of_at wanted p.endpoints p.submitted told_then (SearchChannel Asked) tc at still_of in
          let one = rest o.one o.held_is in
          inr (
            subst IsAsking (sym new) begun_asks,
            o.one,
            o.held_is,
            record {
              endpoint = one.endpoint;
              submits = one.submits;
              ready = ready_open (not tc.given) o one.ready;
              waits_so = subst (λ w. WaitsAt true o.one.own told_then.said w) (sym (ap awaited new)) one.waits_so;
              settled = λ opened none. ap not free;
            },
          )

      opened_finds : (own psm mtu : ℕ) → peer_mtu own u ≡ Some mtu → (stage : Stage) → tc.stage ≡ stage → T (opened_at stage psm mtu tc)
      opened_finds own psm mtu is (SearchChannel Asked) at = either' (eqb psm 0x0001) (record tc { stage = Search }) tc (begins_search own mtu is at) still
      opened_finds own psm mtu is (ObjectChannel Asked) at = either' (eqb psm tc.psm) (object_opened tc.transport mtu tc) tc (opens tc.transport) still
        where
          other : eqb tc.psm 0x0001 ≡ false
          other = of_at wanted p.endpoints p.submitted told_then (ObjectChannel Asked) tc at still_of

          opens : (transport : Transport) → T (object_opened transport mtu tc)
          opens L2cap = either' (nat_lt mtu 255) (ends small_channel tc) (record tc { stage = Object; limit = min mtu 32767 }) (ends_find wanted p.endpoints p.submitted told_then small_channel tc still_of) (inr other)
          opens Rfcomm = inr other
      opened_finds own psm mtu is Rest at = still
      opened_finds own psm mtu is (Link point) at = still
      opened_finds own psm mtu is (SearchChannel Due) at = still
      opened_finds own psm mtu is Search at = still
      opened_finds own psm mtu is (SearchEnd point) at = still
      opened_finds own psm mtu is (Features point) at = still
      opened_finds own psm mtu is (ObjectChannel Due) at = still
      opened_finds own psm mtu is Object at = still
      opened_finds own psm mtu is (ObjectEnd point) at = still
      opened_finds own psm mtu is (LinkEnd point) at = still
      opened_finds own psm mtu is Over at = still

      ends_so : (cause : Option Outcome) → T (ends_if cause tc)
      ends_so cause = if_find wanted p.endpoints p.submitted told_then cause tc still_of

      -- behind its search
      left_finds : (cause : Option Outcome) → IsNamed cause tc.psm → T (search_left cause tc)
      left_finds (Some outcome) named = inl refl
      left_finds None named = by tc.transport
        where
          by : (transport : Transport) → (let d : Client = record tc { stage = events.stage_behind transport } in T d)
          by L2cap = inr named
          by Rfcomm = inr named

      named_at : (point : Point) → At wanted p.endpoints p.submitted told_then (SearchEnd point) tc → IsNamed tc.cause tc.psm
      named_at Due so' = so'.0
      named_at Asked so' = so'.0

      closed_finds : (psm : ℕ) (cause : CloseCause) (stage : Stage) → tc.stage ≡ stage → T (closed_at stage psm cause tc)
      closed_finds psm cause (SearchChannel Asked) at = either' (eqb psm 0x0001) _ tc (ends_so (cause_of_close cause)) still
      closed_finds psm cause Search at = either' (eqb psm 0x0001) _ tc (ends_so (cause_of_close cause)) still
      closed_finds psm cause (SearchEnd point) at = either' (eqb psm 0x0001) (search_closed (cause_of_close cause) tc) tc (by (cause_of_close cause)) still
        where
          by : (found : Option Outcome) → T (search_closed found tc)
          by None = left_finds tc.cause (named_at point (of_at wanted p.endpoints p.submitted told_then (SearchEnd point) tc at still_of))
          by (Some outcome) = ends_find wanted p.endpoints p.submitted told_then outcome tc still_of
      closed_finds psm cause (ObjectChannel Asked) at = either' (eqb psm tc.psm) _ tc (ends_so (cause_of_close cause)) still
      closed_finds psm cause Object at = either' (eqb psm tc.psm) _ tc (ends_so (cause_of_close cause)) still
      closed_finds psm cause (ObjectEnd point) at = either' (eqb psm tc.psm) (record tc { stage = LinkEnd Due }) tc (inl refl) still
      closed_finds psm cause Rest at = still
      closed_finds psm cause (Link point) at = still
      closed_finds psm cause (SearchChannel Due) at = still
      closed_finds psm cause (Features point) at = still
      closed_finds psm cause (ObjectChannel Due) at = still
      closed_finds psm cause (LinkEnd point) at = still
      closed_finds psm cause Over at = still

      asking_is : (stage : Stage) → is_asking_features stage ≡ true → stage ≡ Features Asked
      asking_is (Features Asked) is = refl
      asking_is (Features Due) is = cc
      asking_is Rest is = cc
      asking_is (Link point) is = cc
      asking_is (SearchChannel point) is = cc
      asking_is Search is = cc
      asking_is (SearchEnd point) is = cc
      asking_is (ObjectChannel point) is = cc
      asking_is Object is = cc
      asking_is (ObjectEnd point) is = cc
      asking_is (LinkEnd point) is = cc
      asking_is Over is = cc

      features_finds : (b : Bool) → is_asking_features tc.stage ≡ b → (let d : Client = record tc { stage = ObjectChannel Due } in T (cond b d tc))
      features_finds false is = still
      features_finds true is = inr (of_at wanted p.endpoints p.submitted told_then (Features Asked) tc (asking_is tc.stage is) still_of)

      event_finds : (event : ChannelEvent) → T (event_heard event u tc)
      event_finds (Opened own psm) = by (peer_mtu own u) refl
        where
          by : (mtu : Option ℕ) → peer_mtu own u ≡ mtu → T (opened_by mtu psm tc)
          by None is = still
          by (Some mtu) is = opened_finds own psm mtu is tc.stage refl
      event_finds (Closed own psm reason) = by (cause_of reason)
        where
          by : (cause : Option CloseCause) → T (closed_by cause psm tc)
          by None = still
          by (Some cause) = closed_finds psm cause tc.stage refl
      event_finds (Told features) = features_finds (is_asking_features tc.stage) refl
      event_finds FeaturesLost = either' (is_asking_features tc.stage) (ends outcomes.RetryLimit tc) tc (ends_find wanted p.endpoints p.submitted told_then outcomes.RetryLimit tc still_of) still
      event_finds (DisconnectLost own) = still

    pub telling : Sees p told_run → Sees (told_next A told_run.value.events told_run.value p) told_then
    telling sees = by told_run.value.events refl sees
      where
        v : Channels
        v = told_run.value

        w : Channels
        w = value_after wanted Tells v

        by : (events' : List ChannelEvent) → v.events ≡ events' → Sees p told_run → Sees (told_next A events' v p) told_then
        by [] is (Off off) = Off off
        by [] is (Doomed fatal) = Doomed (subst (Fatal tc) same_value fatal)
          where
            same_value : v ≡ w
            same_value = ap (λ (l : List ChannelEvent). let x : Channels = record v { events = l } in x) (is ∙ sym (ap (drop 1) is))
        by [] is (Well clean so) = Well (subst (Clean tc) same_value clean) (tells_at tc.stage so)
          where
            same_value : v ≡ w
            same_value = ap (λ (l : List ChannelEvent). let x : Channels = record v { events = l } in x) (is ∙ sym (ap (drop 1) is))
        by (event ∷ rest) is (Off off) = let u : Channels = record v { events = rest } in Off (event_off event u tc off)
        by (event ∷ rest) is (Doomed fatal) = doomed (event_fatal event rest tc v w u tells fatal)
          where
            u : Channels
            u = record v { events = rest }

            tells : TellsFirst v w u event rest
            tells = record { events_are = is; held_is = refl; features_are = refl; rest_is = ap (drop 1) is; seen_is = refl }

            doomed : Result (event_heard event u tc) Fatal w → Sees (told_next A (event ∷ rest) v p) told_then
            doomed (inl off) = Off off
            doomed (inr now) = Doomed now
        by (event ∷ rest) is (Well clean so) = on (event_clean event rest tc v w u tells clean)
          where
            u : Channels
            u = record v { events = rest }

            tells : TellsFirst v w u event rest
            tells = record { events_are = is; held_is = refl; features_are = refl; rest_is = ap (drop 1) is; seen_is = refl }

            on : Result (event_heard event u tc) Clean w → Sees (told_next A (event ∷ rest) v p) told_then
            on (inl off) = Off off
            on (inr now) = well (told_next A (event ∷ rest) v p) told_then now (event_finds u refl clean so event)

  -- ---- it hears news

  pub learning : (circumstances : List Circumstance) (news : News) (run : Run) (p : ClientProfile) → IsOfLink news → Sees p run → Sees (A.told circumstances news p) run
  learning circumstances (Linked event) run p of sees = absurd of
  learning circumstances (Failed status) run p of sees = absurd of
  learning circumstances (Opening name) run p of sees = absurd of
  learning circumstances (Heard pdu) run p of sees = sees
  learning circumstances TimerFired run p of sees = by (is_off p.client.stage) refl sees
    where
      c : Client
      c = p.client

      by : (off : Bool) → is_off c.stage ≡ off → Sees p run → Sees (A.told circumstances TimerFired p) run
      by true is sees' = Off (timer_off c is)
      by false is (Off off) = let never : true ≡ false = sym off ∙ is in absurd cc
      by false is (Doomed fatal) = moves_fatal c (A.told circumstances TimerFired p) run (timer_goes c is) fatal
      by false is (Well clean so) = moves_well c (A.told circumstances TimerFired p) run (timer_goes c is) clean (timer_find wanted p.endpoints p.submitted run c so)
  learning circumstances Cancelled run p of sees = by (is_off c.stage) refl sees
    where
      c : Client
      c = p.client

      d : Client
      d = cancelled c

      cancelled_find : Of wanted p.endpoints p.submitted run c → Finds wanted p.endpoints p.submitted run d
      cancelled_find so = either_find wanted p.endpoints p.submitted run (may_cancel c) (ends outcomes.Cancelled c) c (ends_find wanted p.endpoints p.submitted run outcomes.Cancelled c so) (inr so)

      last : (off : Bool) → is_off d.stage ≡ off → (let q : ClientProfile = record p { client = d } in Sees q run) → Sees (A.told circumstances Cancelled p) run
      last true is sees' = Off (ended_off d is)
      last false is sees' = subst (λ (e : Client). let q : ClientProfile = record p { client = e } in Sees q run) (sym (ended_same d is)) sees'

      by : (off : Bool) → is_off c.stage ≡ off → Sees p run → Sees (A.told circumstances Cancelled p) run
      by true is sees' = Off (ended_off d (cancelled_off c is))
      by false is (Off off) = let never : true ≡ false = sym off ∙ is in absurd cc
      by false is (Doomed fatal) = last (is_off d.stage) refl (moves_fatal c (record p { client = d }) run (cancelled_goes c is) fatal)
      by false is (Well clean so) = last (is_off d.stage) refl (moves_well c (record p { client = d }) run (cancelled_goes c is) clean (cancelled_find so))

  -- ---- an SDU that waits no longer was sent

  -- its channel is open, and none waits
  free_ready : (v : Channels) (one : Held) (frees : Bool) → v.held ≡ one ∷ [] → waits one.own v ≡ false → IsReady wanted true frees one → IsReady wanted true true one
  free_ready v one frees held_is none = by one.stage refl
    where
      free_carrier : (carrier : Option Carrier) → some_waits carrier ≡ false → IsFreeSome carrier
      free_carrier None is = tt
      free_carrier (Some (Plain agreed None)) is = refl
      free_carrier (Some (Plain agreed (Some sdu))) is = cc
      free_carrier (Some (Retransmitting machine)) is = tt

      here : (setup : Setup) → setup_of one.stage ≡ Some setup → is_open setup ≡ true → some_waits setup.carrier ≡ false
      here setup has opened =
          sym (ap (λ h. some_waits (open_carrier (setup_on h))) (ap (find (has_own one.own)) held_is ∙ ap (λ b. cond b (Some one) None) (eqb-same one.own))
          ∙ (ap (λ s. some_waits (open_carrier s)) has ∙ ap (λ b. some_waits (carrier_if b setup)) opened)) ∙ none

      by : (stage : Held_stage) → one.stage ≡ stage → StageKeeps (Ready true frees) (wanted.wish one.psm) stage → StageKeeps (Ready true true) (wanted.wish one.psm) stage
      by (Requested request) is ready = (ready.0, λ on. tt)
      by (Connected peer setup) is ready = (ready.0, λ on. free_carrier setup.carrier (here setup (ap setup_of is) (ready.0 refl)))
      by (Leaving peer setup request) is ready = (ready.0, λ on. free_carrier setup.carrier (here setup (ap setup_of is) (ready.0 refl)))
      by (Closing peer request checked) is ready = tt
      by (Crossed peer request) is ready = tt

  done_one : (endpoints : List Endpoint) (submitted : Option ℕ) (frees known : Bool) (waiting : Option ℕ) (run : Run) (one : Held) → OnSearch wanted endpoints submitted false frees known waiting run one → OnSearch wanted endpoints None false frees known waiting run one
  done_one endpoints submitted frees known waiting run one so = record { endpoint = so.endpoint; submits = λ own is. cc; ready = so.ready; waits_so = so.waits_so; settled = λ opened. cc }

  pub checking : (run : Run) (p : ClientProfile) → Sees p run → Sees (sent_on p.submitted run.value p) run
  checking run p sees = by p.submitted refl
    where
      c : Client
      c = p.client

      done' : ClientProfile
      done' = clients.done (record p { submitted = None })

      done_at : (own : ℕ) → p.submitted ≡ Some own → waits own run.value ≡ false → (stage : Stage) → At wanted p.endpoints p.submitted run stage c → At wanted p.endpoints None run stage done'.client
      done_at own is none (SearchChannel Due) so = (so.0, refl)
      done_at own is none (SearchChannel Asked) (new, empty, free, so) = (new, refl, refl, λ one one_is. done_one p.endpoints p.submitted true true None run one (so one one_is))
      done_at own is none Search (asking, one, one_is, so) = (
        asking,
        one,
        one_is,
        record {
          endpoint = so.endpoint;
          submits = λ other none'. cc;
          ready = free_ready run.value one (not c.given) one_is (ap (λ n. waits n run.value) (sym (so.submits own is)) ∙ none) so.ready;
          waits_so = so.waits_so;
          settled = λ opened empty. refl;
        },
      )
      done_at own is none (SearchEnd Due) (named, so) = (named, λ one one_is. done_one p.endpoints p.submitted false (not (is_awaiting c.query)) None run one (so one one_is))
      done_at own is none (SearchEnd Asked) so = so
      done_at own is none (Features point) so = so
      done_at own is none (ObjectChannel point) so = so
      done_at own is none Object so = so
      done_at own is none (ObjectEnd point) so = so
      done_at own is none Rest so = so
      done_at own is none (Link point) so = so
      done_at own is none (LinkEnd point) so = so
      done_at own is none Over so = so

      sent : (own : ℕ) → p.submitted ≡ Some own → waits own run.value ≡ false → Sees p run → Sees done' run
      sent own is none (Off off) = Off off
      sent own is none (Doomed fatal) = Doomed (fatal_keeps c done'.client run.value (most c done'.client (same_face c.stage c.psm (is_some c.cause))) fatal)
      sent own is none (Well clean so) = Well (clean_keeps c done'.client run.value (same_face c.stage c.psm (is_some c.cause)) clean) (done_at own is none c.stage so)

      test : (own : ℕ) → p.submitted ≡ Some own → (b : Bool) → waits own run.value ≡ b → Sees (cond b p done') run
      test own is true waiting = sees
      test own is false waiting = sent own is waiting sees

      by : (submitted : Option ℕ) → p.submitted ≡ submitted → Sees (sent_on submitted run.value p) run
      by None is = sees
      by (Some own) is = test own is (waits own run.value) refl
