-- A client takes a step: what it holds of its search stays so.
use Rattle.std.proofs.Common.{◌≡◌, ℕ, ◌-◌, ◌≤◌, List, [], ◌∷◌, ◌++◌, fold, filter, length, map, Bool, true, false, cond, eqb, not, ◌&&◌, Option, Some, None, refl, sym, ap, subst, ◌∙◌, inr, arith}
use Rattle.std.specs.Prelude.{find, is_some, option_map}
use Rattle.std.proofs.lemmas.Bool.{le-leb}
use Rattle.shelf_model.specs.bt_base.specs.declared.settings.Settings.{Settings}
use Rattle.shelf_model.specs.capture.specs.declared.flow.Flow.TheVariants.{Out}
use Rattle.shelf_model.specs.l2cap_config.specs.declared.wish.Agreed.{Agreed}
use Rattle.shelf_model.specs.l2cap_config.specs.declared.wish.Mode.TheVariants.{Basic, Enhanced}
use Rattle.push_laws.specs.link_talk.specs.Sdus.{spoken_as}
use Rattle.push_laws.specs.link_talk.specs.ServiceAnswers.{asked_by, waiting_after}
use Rattle.shelf_model.specs.sdp_client.specs.Asking.{is_due, request_octets, after_request}
use Rattle.shelf_model.specs.sdp_client.specs.Views.{is_awaiting}
use Rattle.channel_laws.specs.channel_model.specs.declared.event.CloseReason.TheVariants.{OwnClosed}
use Rattle.channel_laws.specs.channel_model.specs.Value.{Carrier, Plain, Retransmitting, Setup, Stage as Held_stage, Requested, Connected, Leaving, Closing, Crossed, Held, Channels}
use Rattle.channel_laws.specs.channel_model.specs.Policies.{Policy, policy}
use Rattle.channel_laws.specs.channel_model.specs.declared.errand.Errand.TheVariants.{Connection}
use Rattle.channel_laws.specs.channel_model.specs.Asking.{new_request, asks}
use Rattle.channel_laws.specs.channel_model.specs.Following.{with_channel}
use Rattle.channel_laws.specs.channel_model.specs.Closing.{closes_at}
use Rattle.channel_laws.specs.channel_model.specs.Changing.{has_own, in_place_of, held_at, is_granted, is_open, setup_of}
use Rattle.channel_laws.specs.channel_model.specs.Calls.{can_connect, disconnected_at, disconnected_held, disconnected, setup_on, carrier_if, open_carrier, carrier_at, carrier_mtu, some_waits, peer_mtu, waits, sends}
use Rattle.channel_laws.specs.channel_model.proofs.Lookups.{eqb-same}
use Rattle.channel_laws.specs.Frames.{IsUttered}
use Rattle.channel_laws.specs.Exchanged.{exchanged_in}
use Rattle.channel_laws.specs.Runs.{Occurrence, Connects, Sends, Run, run_on, run_of}
use Rattle.channel_laws.specs.Taken.{is_free}
use Rattle.channel_laws.proofs.Exchanged.{unread-silent}
use Rattle.channel_laws.proofs.Ferrying.{IsBasic}
use Rattle.channel_laws.proofs.Keeping.{StageKeeps, HeldKeeps}
use Rattle.channel_laws.proofs.Ready.{Takes, all-take, IsFreeSome, Ready, IsReady}
use Rattle.channel_laws.proofs.Running.{all-sound}
use Rattle.push_laws.specs.push_model.specs.declared.course.Point.TheVariants.{Due, Asked}
use Rattle.push_laws.specs.push_model.specs.declared.course.Stage.{Stage}
use Rattle.push_laws.specs.push_model.specs.declared.course.Stage.TheVariants.{SearchChannel, Search, SearchEnd}
use Rattle.push_laws.specs.push_model.specs.Client.{Client}
use Rattle.push_laws.specs.push_model.specs.Events.{is_asking_features}
use Rattle.push_laws.specs.push_model.specs.Payloads.{Octets}
use Rattle.push_laws.specs.push_model.specs.Steps as course
use Rattle.push_laws.specs.push_model.specs.Steps.{Part, Step, Wait, MakeLink, AskFeatures, OpenChannel, SendSdu, CloseChannel, BreakLink, Ended, NoMemory, Stepped, steps}
use Rattle.shelf_model.specs.host_model.specs.Endpoints.{endpoint_of, with_answer, fits, takes_sdu}
use Rattle.shelf_model.specs.host_model.specs.Pdus.{are_octets}
use Rattle.shelf_model.specs.host_model.specs.Profiles.{Stride}
use Rattle.shelf_model.specs.host_model.specs.Clients as clients
use Rattle.shelf_model.specs.host_model.specs.Clients.{ClientProfile, client_profile, submits, closes, takes, fitted}
use Rattle.shelf_model.specs.host_model.specs.Shelves.{unused}
use Rattle.host_laws.specs.Calls.{Send, from_call}
use Rattle.host_laws.specs.Leaving.{in_use}
use Rattle.host_laws.specs.Searching.{sent_call, closed_call, step_call}
use Rattle.host_laws.proofs.Changes.{kind, is_alive, Fine, sends-fine}
use Rattle.host_laws.proofs.Faces.{same_face}
use Rattle.host_laws.proofs.Querying.{awaited, IsAsking, written_asks, IsRequest, request_so, request_awaited}
use Rattle.host_laws.proofs.Searching.{WaitsAt, OnSearch, Only, IsNamed, Of, Finds, At, at_of, of_at}
use Rattle.host_laws.proofs.SearchingOn.{has_one, one_alive, one_basic, none_basic, waits_more, search_next, search_more}
use Rattle.host_laws.proofs.StandingClients.{Clean, Lives, Ends, Idle, Waits, Told as ToldThem, clean_keeps}

module _ (settings : Settings) where
  abbrev wanted : Policy
  wanted = policy settings false

  module _ (list : List Occurrence) (p : ClientProfile) (clean : Clean p.client (run_of (policy settings false) list).value) (so : Of (policy settings false) p.endpoints p.submitted (run_of (policy settings false) list) p.client) where
    abbrev run : Run
    run = run_of wanted list

    abbrev v : Channels
    v = run.value

    abbrev c : Client
    c = p.client

    abbrev At_c : Stage → Type 0
    At_c stage = At wanted p.endpoints p.submitted run stage c

    so_at : (stage : Stage) → c.stage ≡ stage → At_c stage
    so_at stage at = of_at wanted p.endpoints p.submitted run stage c at so

    abbrev after : Stepped → ClientProfile
    after one = record p { client = one.client; parts = unused one.left p.parts }

    abbrev call_list : Stepped → List Occurrence
    call_list one = from_call (step_call one.step v (after one))

    abbrev behind : Stepped → Run
    behind one = fold (run_on wanted) run (call_list one)

    abbrev stride : Stepped → Stride ClientProfile
    stride one = takes one.step v (after one) p

    -- what is so behind a step
    abbrev pub G : Stepped → Type 0
    G one = Clean (stride one).profile.client (behind one).value → Finds wanted (stride one).profile.endpoints (stride one).profile.submitted (behind one) (stride one).profile.client

    -- ---- its first channel

    pub none_held : in_use c.stage c.psm ≡ None → is_asking_features c.stage ≡ false → v.held ≡ []
    none_held none quiet = by clean
      where
        by : Clean c v → v.held ≡ []
        by (Lives psm asked leaving uses live) = let never : None ≡ Some psm = sym none ∙ uses.used in absurd cc
        by (Ends psm own used closes' bare) = let never : None ≡ Some psm = sym none ∙ used in absurd cc
        by (Idle bare) = bare.held_is
        by (Waits asks waits') = let never : true ≡ false = sym asks ∙ quiet in absurd cc
        by (ToldThem asks features bare) = let never : true ≡ false = sym asks ∙ quiet in absurd cc

    opens_one : (can : Bool) (one : Held) → v.held ≡ [] → p.submitted ≡ None
        → (cond can (asks (Connection v.next) (with_channel 0x0001 (Requested (new_request v)) v)) v).held ≡ one ∷ []
        → OnSearch wanted (with_answer 0x0001 (cond can (Some v.next) None) p.endpoints) p.submitted false true true None (run_on wanted run (Connects 0x0001)) one
    opens_one false one none empty is = let never : [] ≡ one ∷ [] = sym none ∙ is in absurd cc
    opens_one true one none empty is =
        let new : Held = record { psm = 0x0001; own = v.next; stage = Requested (new_request v) } in
        let lists : new ∷ [] ≡ one ∷ [] = sym (ap (λ (hs : List Held). hs ++ new ∷ []) none) ∙ is in
        let same : new ≡ one = cc in
        subst (OnSearch wanted (with_answer 0x0001 (Some v.next) p.endpoints) p.submitted false true true None (run_on wanted run (Connects 0x0001))) same (record {
          endpoint = refl;
          submits = λ own sent. let never : None ≡ Some own = sym empty ∙ sent in absurd cc;
          ready = (λ is'. cc, λ is'. tt);
          waits_so = λ now channel own.
              waits_more settings list (Connects 0x0001) channel tt (none_basic settings channel.own v none)
              ∙ ap (fold waiting_after None) (unread-silent channel run.said ((all-sound wanted list).core.read_below channel.own (subst (λ n. v.next ≤ n) (sym own) (omega arith))));
          settled = λ opened. cc;
        })

    pub opens_search : c.stage ≡ SearchChannel Due → G (course.gives (OpenChannel 0x0001) (SearchChannel Asked) c (fitted p))
    opens_search at now =
        let (new, empty) = so_at (SearchChannel Due) at in
        let none = none_held (ap (λ s. in_use s c.psm) at) (ap is_asking_features at) in
        inr (new, empty, refl, λ one is. opens_one (can_connect v) one none empty is)

    -- ---- its request

    -- what its channel is ready for
    record CanSend (one : Held) : Type 0 where
      agreed : Agreed
      carrier_is : carrier_at one.own v ≡ Some (Plain agreed None)
      most : 48 ≤ agreed.send_mtu

    here : (one : Held) → v.held ≡ one ∷ [] → held_at one.own v ≡ Some one
    here one held_is = ap (find (has_own one.own)) held_is ∙ ap (λ b. cond b (Some one) None) (eqb-same one.own)

    takes_at : (one : Held) → v.held ≡ one ∷ [] → StageKeeps Takes (wanted.wish one.psm) one.stage
    takes_at one held_is = subst (HeldKeeps wanted Takes) (here one held_is) ((all-take wanted list).at one.own)

    can_send : (one : Held) → v.held ≡ one ∷ [] → is_alive one.stage ≡ true → IsBasic one.own v → IsReady wanted true true one → CanSend one
    can_send one held_is alive basic = by one.stage refl alive (takes_at one held_is)
      where
        by_carrier : (setup : Setup) (leaving : Bool) (carrier : Option Carrier) → setup_of one.stage ≡ Some setup → is_open setup ≡ true → setup.carrier ≡ carrier → IsFreeSome carrier → Takes (wanted.wish one.psm) leaving true carrier → CanSend one
        by_carrier setup leaving None has opened is free enough = let never : false ≡ true = sym (ap (λ (x : Option Carrier). is_some x && is_granted setup.own) is) ∙ opened in absurd cc
        by_carrier setup leaving (Some (Retransmitting machine)) has opened is free enough = let never : Enhanced ≡ Basic = basic one setup (Retransmitting machine) (here one held_is) has is in absurd cc
        by_carrier setup leaving (Some (Plain agreed waiting)) has opened is free enough = record {
          agreed = agreed;
          carrier_is = ap (λ h. open_carrier (setup_on h)) (here one held_is) ∙ (ap open_carrier has ∙ (ap (λ b. carrier_if b setup) opened ∙ (is ∙ ap (λ w. Some (Plain agreed w)) free)));
          most = enough;
        }

        opened_takes : (setup : Setup) (leaving : Bool) → is_open setup ≡ true → Takes (wanted.wish one.psm) leaving (is_open setup) setup.carrier → Takes (wanted.wish one.psm) leaving true setup.carrier
        opened_takes setup leaving opened enough = subst (λ b. Takes (wanted.wish one.psm) leaving b setup.carrier) opened enough

        by : (stage : Held_stage) → one.stage ≡ stage → is_alive stage ≡ true → StageKeeps Takes (wanted.wish one.psm) stage → StageKeeps (Ready true true) (wanted.wish one.psm) stage → CanSend one
        by (Requested request) is lives enough ready = let never : false ≡ true = ready.0 refl in absurd cc
        by (Connected peer setup) is lives enough ready = by_carrier setup false setup.carrier (ap setup_of is) (ready.0 refl) refl (ready.1 refl) (opened_takes setup false (ready.0 refl) enough)
        by (Leaving peer setup request) is lives enough ready = by_carrier setup true setup.carrier (ap setup_of is) (ready.0 refl) refl (ready.1 refl) (opened_takes setup true (ready.0 refl) enough)
        by (Closing peer request checked) is lives enough ready = cc
        by (Crossed peer request) is lives enough ready = cc

    both_on : (a b : Bool) → a ≡ true → b ≡ true → (a && b) ≡ true
    both_on true b is other = other
    both_on false b is other = cc

    -- it takes the request
    takes_request : (one : Held) → CanSend one → (request : IsRequest c.query) → takes_sdu one.own (request_octets c.query) v ≡ true
    takes_request one can request =
        let req = request_octets c.query in
        let short = request.short in
        let most = can.most in
        both_on (fits (length req) (peer_mtu one.own v) && not (waits one.own v)) (are_octets req)
        (both_on (fits (length req) (peer_mtu one.own v)) (not (waits one.own v))
        (ap (λ x. fits (length req) (option_map carrier_mtu x)) can.carrier_is ∙ le-leb (length req) can.agreed.send_mtu (omega (arith, short, most)))
        (ap (λ x. not (some_waits x)) can.carrier_is)) request.octets

    less_ready : (frees : Bool) (one : Held) → IsReady wanted true frees one → IsReady wanted true false one
    less_ready frees one = by one.stage
      where
        by : (stage : Held_stage) → StageKeeps (Ready true frees) (wanted.wish one.psm) stage → StageKeeps (Ready true false) (wanted.wish one.psm) stage
        by (Requested request) ready = (ready.0, λ is. cc)
        by (Connected peer setup) ready = (ready.0, λ is. cc)
        by (Leaving peer setup request) ready = (ready.0, λ is. cc)
        by (Closing peer request checked) ready = tt
        by (Crossed peer request) ready = tt

    abbrev pub request_step : Stepped
    request_step = course.sends_sdu 0x0001 (Octets (request_octets c.query)) (record c { query = after_request c.query; left = c.left - 1; rest = request_octets c.query }) (fitted p)

    abbrev asking : Client
    asking = request_step.client

    same_some : (a b : ℕ) → Some a ≡ Some b → a ≡ b
    same_some a b is = cc

    -- the request was sent
    sent_search : (one : Held) → c.stage ≡ Search → c.given ≡ false → is_due c.query ≡ true → IsAsking c.query → v.held ≡ one ∷ [] → OnSearch wanted p.endpoints p.submitted true (not c.given) true (awaited c.query) run one → IsUttered (Sends one.own (request_octets c.query)) v
        → (let then = run_on wanted run (Sends one.own (request_octets c.query)) in Clean asking then.value → Finds wanted p.endpoints (Some one.own) then asking)
    sent_search one at free due asks held_is is uttered now =
        let req = request_octets c.query in
        let then = run_on wanted run (Sends one.own req) in
        let goes = λ (K : Channels → Type 0) (fine : Fine K) (k : K v). sends-fine K fine one.own req v k in
        let later : Clean c then.value = clean_keeps asking c then.value (same_face c.stage c.psm (is_some c.cause)) now in
        let (next, next_is) = search_next settings c v then.value one at held_is clean later goes in
        let has = has_one c v one (ap is_asking_features at) held_is clean in
        let psm_is : one.psm ≡ 0x0001 = ap (λ (h : Held). h.psm) (sym has.is) ∙ (has.live.psm_is ∙ same_some has.psm 0x0001 (sym has.uses.used ∙ ap (λ s. in_use s c.psm) at)) in
        let basic = one_basic settings list one held_is psm_is in
        let request = request_so c.query asks in
        let can = can_send one held_is (one_alive c v one has) basic (subst (λ b. IsReady wanted true (not b) one) free is.ready) in
        let before : OnSearch wanted p.endpoints (Some one.own) true false true (awaited c.query) run one =
        record { endpoint = is.endpoint; submits = λ own sent. sym (same_some one.own own sent); ready = less_ready (not c.given) one is.ready; waits_so = is.waits_so; settled = λ opened none. cc } in
        let moved = search_more settings list (Sends one.own req) c p.endpoints (Some one.own) true false true (awaited c.query) one next goes refl uttered (ap (λ s. in_use s c.psm) at) (ap is_asking_features at) clean later held_is next_is before in
        let spoke : fold waiting_after (awaited c.query) (exchanged_in one.own (Sends one.own req) v) ≡ awaited (after_request c.query) =
        ap (λ b. fold waiting_after (awaited c.query) (map (spoken_as Out) (cond b (req ∷ []) []))) (both_on (eqb one.own one.own) (is_free (carrier_at one.own v)) (eqb-same one.own) (ap is_free can.carrier_is))
        ∙ (ap (asked_by (awaited c.query)) request.asks ∙ sym (request_awaited c.query due)) in
        inr (at_of wanted p.endpoints (Some one.own) then Search asking at (
          written_asks c.query asks,
          next,
          next_is,
          record {
            endpoint = moved.endpoint;
            submits = moved.submits;
            ready = moved.ready;
            waits_so = subst (WaitsAt true next.own then.said) spoke moved.waits_so;
            settled = moved.settled;
          },
        ))

    -- the SDUs that it sends are uttered
    abbrev pub Utters : Stepped → Type 0
    Utters one = (own : ℕ) (sdu : List ℕ) → step_call one.step v (after one) ≡ Some (Send own sdu) → IsUttered (Sends own sdu) v

    pub requests_search : c.stage ≡ Search → c.given ≡ false → is_due c.query ≡ true → Utters request_step → G request_step
    requests_search at free due utters =
        let (asks, one, held_is, is) = so_at Search at in
        let has = has_one c v one (ap is_asking_features at) held_is clean in
        let psm_is : one.psm ≡ 0x0001 = ap (λ (h : Held). h.psm) (sym has.is) ∙ (has.live.psm_is ∙ same_some has.psm 0x0001 (sym has.uses.used ∙ ap (λ s. in_use s c.psm) at)) in
        let can = can_send one held_is (one_alive c v one has) (one_basic settings list one held_is psm_is) (subst (λ b. IsReady wanted true (not b) one) free is.ready) in
        by one (endpoint_of 0x0001 p.endpoints) is.endpoint (takes_sdu one.own (request_octets c.query) v) refl (takes_request one can (request_so c.query asks)) utters (λ uttered now. sent_search one at free due asks held_is is uttered now)
      where
        req : List ℕ
        req = request_octets c.query

        G_at : Option ℕ → Type 0
        G_at found = ((own : ℕ) (sdu : List ℕ) → sent_call v (Octets req) found ≡ Some (Send own sdu) → IsUttered (Sends own sdu) v)
            → (let gone = submits found (Octets req) v (after request_step) in let then = fold (run_on wanted) run (from_call (sent_call v (Octets req) found)) in
            Clean gone.profile.client then.value → Finds wanted gone.profile.endpoints gone.profile.submitted then gone.profile.client)

        sent : ℕ → Stride ClientProfile
        sent own = clients.waiting (sends own req v) (record (after request_step) { submitted = Some own })

        taken : (one : Held) (b : Bool) → b ≡ true → (IsUttered (Sends one.own req) v → (let then = run_on wanted run (Sends one.own req) in Clean asking then.value → Finds wanted p.endpoints (Some one.own) then asking))
            → ((own : ℕ) (sdu : List ℕ) → cond b (Some (Send one.own req)) None ≡ Some (Send own sdu) → IsUttered (Sends own sdu) v)
            → (let gone : Stride ClientProfile = cond b (sent one.own) (clients.waiting v (after request_step)) in let then = fold (run_on wanted) run (from_call (cond b (Some (Send one.own req)) None)) in
            Clean gone.profile.client then.value → Finds wanted gone.profile.endpoints gone.profile.submitted then gone.profile.client)
        taken one true is goes utters now = goes (utters one.own req refl) now
        taken one false is goes utters now = cc

        by : (one : Held) (found : Option ℕ) → found ≡ Some one.own → (b : Bool) → takes_sdu one.own req v ≡ b → takes_sdu one.own req v ≡ true → ((own : ℕ) (sdu : List ℕ) → sent_call v (Octets req) found ≡ Some (Send own sdu) → IsUttered (Sends own sdu) v)
            → (IsUttered (Sends one.own req) v → (let then = run_on wanted run (Sends one.own req) in Clean asking then.value → Finds wanted p.endpoints (Some one.own) then asking))
            → (let gone = submits found (Octets req) v (after request_step) in let then = fold (run_on wanted) run (from_call (sent_call v (Octets req) found)) in Clean gone.profile.client then.value → Finds wanted gone.profile.endpoints gone.profile.submitted then gone.profile.client)
        by one None found b test is utters goes = cc
        by one (Some own) found b test is utters goes =
            subst G_at (sym found) (λ utters'. taken one (takes_sdu one.own req v) is goes utters') utters

    -- ---- the end of its search

    -- its channel is on its way to its end then
    leaves_one : (one next : Held) (stage : Held_stage) → one.stage ≡ stage → v.held ≡ one ∷ [] → is_alive one.stage ≡ true → (disconnected_at stage one v).held ≡ next ∷ [] → kind next.stage ≡ 2
    leaves_one one next (Requested request) is held_is alive late =
        let gone : (disconnected_at (Requested request) one v).held ≡ [] = ap (λ s. (closes_at s OwnClosed one v).held) is ∙ (ap (filter (λ (other : Held). not (eqb other.own one.own))) held_is ∙ ap (λ b. cond (not b) (one ∷ []) []) (eqb-same one.own)) in
        let never : [] ≡ next ∷ [] = sym gone ∙ late in absurd cc
    leaves_one one next (Connected peer setup) is held_is alive late =
        let left : Held = record one { stage = Leaving peer setup (new_request v) } in
        let lists : left ∷ [] ≡ next ∷ [] = sym (ap (map (in_place_of left)) held_is ∙ ap (λ b. cond b left one ∷ []) (eqb-same one.own)) ∙ late in
        let same : left ≡ next = cc in ap (λ (h : Held). kind h.stage) (sym same)
    leaves_one one next (Leaving peer setup request) is held_is alive late =
        let lists : one ∷ [] ≡ next ∷ [] = sym held_is ∙ late in
        let same : one ≡ next = cc in ap (λ (h : Held). kind h.stage) (sym same) ∙ ap kind is
    leaves_one one next (Closing peer request checked) is held_is alive late = let never : false ≡ true = sym (ap is_alive is) ∙ alive in absurd cc
    leaves_one one next (Crossed peer request) is held_is alive late = let never : false ≡ true = sym (ap is_alive is) ∙ alive in absurd cc

    pub ends_search : c.stage ≡ SearchEnd Due → G (course.gives (CloseChannel 0x0001) (SearchEnd Asked) c (fitted p))
    ends_search at now =
        let (named, is) = so_at (SearchEnd Due) at in
        by (endpoint_of 0x0001 p.endpoints) refl named is
      where
        quiet : is_asking_features c.stage ≡ false
        quiet = ap is_asking_features at

        closed : Option ℕ → Run
        closed found = fold (run_on wanted) run (from_call (closed_call found))

        alone : (own : ℕ) (next : Held) → (disconnected own v).held ≡ next ∷ [] → ((one : Held) → v.held ≡ one ∷ [] → own ≡ one.own) → Clean c v → kind next.stage ≡ 2
        alone own next late mine (Lives psm asked leaving uses live) =
            let one = live.one in
            let found : held_at own v ≡ Some one = ap (λ n. held_at n v) (mine one live.held_is) ∙ here one live.held_is in
            leaves_one one next one.stage refl live.held_is (one_alive c v one (has_one c v one quiet live.held_is (Lives psm asked leaving uses live))) (sym (ap (λ h. (disconnected_held h v).held) found) ∙ late)
        alone own next late mine (Ends psm other used closes' bare) = let never : [] ≡ next ∷ [] = sym (ap (λ h. (disconnected_held h v).held) (ap (find (has_own own)) bare.held_is) ∙ bare.held_is) ∙ late in absurd cc
        alone own next late mine (Idle bare) = let never : [] ≡ next ∷ [] = sym (ap (λ h. (disconnected_held h v).held) (ap (find (has_own own)) bare.held_is) ∙ bare.held_is) ∙ late in absurd cc
        alone own next late mine (Waits asks waits') = let never : true ≡ false = sym asks ∙ quiet in absurd cc
        alone own next late mine (ToldThem asks features bare) = let never : true ≡ false = sym asks ∙ quiet in absurd cc

        by : (found : Option ℕ) → endpoint_of 0x0001 p.endpoints ≡ found → IsNamed c.cause c.psm → Only run (OnSearch wanted p.endpoints p.submitted false false (not (is_awaiting c.query)) None run)
            → (let q = clients.done (after (course.gives (CloseChannel 0x0001) (SearchEnd Asked) c (fitted p))) in Finds wanted q.endpoints q.submitted (closed found) q.client)
        by None is named only = inr (named, λ next late. let one = only next late in let never : None ≡ Some next.own = sym is ∙ one.endpoint in absurd cc)
        by (Some own) is named only = inr (named, λ next late. alone own next late (λ one held_is. let it = only one held_is in same_some own one.own (sym is ∙ it.endpoint)) clean)
