-- On its link a client was told the whole answer that its question holds: its own talk has it.
use Rattle.std.proofs.Common.{◌≡◌, ◌⊎◌, ℕ, Bool, true, false, cond, eqb, not, ◌||◌, List, [], ◌∷◌, ◌++◌, drop, fold, Option, Some, None, inl, inr, refl, sym, ap, ap₂, subst, ◌∙◌, append_assoc, append-nil}
use Rattle.std.specs.List.{AllByRecursion, list_any}
use Rattle.std.proofs.lemmas.Bool.{eq-eqb}
use Rattle.std.proofs.lemmas.List.Folds.{list_any-append}
use Rattle.std.proofs.lemmas.List.Sums.{fold-append}
use Rattle.scenario_laws.specs.acl_fragments.specs.Pieces.{channel_of}
use Rattle.scenario_laws.specs.bt_base.specs.declared.settings.Settings.{Settings}
use Rattle.scenario_laws.specs.capture.specs.Histories.{EachAfter}
use Rattle.scenario_laws.specs.capture.specs.declared.flow.Flow.TheVariants.{Into}
use Rattle.scenario_laws.specs.l2cap_config.specs.declared.wish.Mode.TheVariants.{Basic}
use Rattle.scenario_laws.specs.sdp_client.specs.Asking.{Asking}
use Rattle.scenario_laws.specs.sdp_client.specs.declared.query.Stage.TheVariants as queries
use Rattle.scenario_laws.specs.sdp_elements.specs.declared.target.Target.{Target}
use Rattle.scenario_laws.specs.sdp_elements.specs.Targets.{target_in}
use Rattle.scenario_laws.specs.link_talk.specs.declared.channel.Channel.{Channel}
use Rattle.scenario_laws.specs.link_talk.specs.declared.party.Party.{Party}
use Rattle.scenario_laws.specs.link_talk.specs.Carriages.{mode_of}
use Rattle.scenario_laws.specs.link_talk.specs.Channels.{Entry, reading}
use Rattle.scenario_laws.specs.link_talk.specs.Sayings.{Saying}
use Rattle.scenario_laws.specs.link_talk.specs.Sdus.{spoken, spoken_as}
use Rattle.scenario_laws.specs.link_talk.specs.ServiceAnswers.{answers_in, channel_answers, service_answers}
use Rattle.scenario_laws.specs.host_laws.specs.talk_laws.specs.LinkAnswers.{answers_now}
use Rattle.scenario_laws.specs.host_laws.specs.talk_laws.proofs.LinkAnswers.{link-answers_grow}
use Rattle.scenario_laws.specs.channel_model.specs.declared.event.ChannelEvent.{ChannelEvent}
use Rattle.scenario_laws.specs.channel_model.specs.declared.event.ChannelEvent.TheVariants.{Opened, Closed, Features as FeaturesAre, FeaturesLost, DisconnectLost}
use Rattle.scenario_laws.specs.channel_model.specs.Calls.{peer_mtu, waits as still_waits}
use Rattle.scenario_laws.specs.channel_model.specs.Carrying.{Up, Nothing, Received}
use Rattle.scenario_laws.specs.channel_model.specs.Hearing.{up}
use Rattle.scenario_laws.specs.channel_model.specs.Policies.{Policy, policy}
use Rattle.scenario_laws.specs.channel_model.specs.Value.{Stage as Held_stage, Requested, Connected, Leaving, Closing, Crossed, Held, Channels, no_channels}
use Rattle.scenario_laws.specs.channel_laws.specs.Exchanged.{heard_in, exchanged_in}
use Rattle.scenario_laws.specs.channel_laws.specs.Runs.{Occurrence, Comes, Gives, Fires, Tells as Tell, said_in, value_after, Run, new_link, run_on, run_of}
use Rattle.scenario_laws.specs.channel_laws.specs.Views.{peer_of}
use Rattle.scenario_laws.specs.channel_laws.proofs.Awaiting.{any-other}
use Rattle.scenario_laws.specs.channel_laws.proofs.Entries.{read-own}
use Rattle.scenario_laws.specs.channel_laws.proofs.Exchanged.{spoken_on, basic-spoken}
use Rattle.scenario_laws.specs.channel_laws.proofs.Keeping.{StageKeeps}
use Rattle.scenario_laws.specs.channel_laws.proofs.Ready.{Ready, IsReady}
use Rattle.scenario_laws.specs.channel_laws.proofs.Running.{all-sound}
use Rattle.scenario_laws.specs.push_model.specs.declared.closing.CloseCause.{CloseCause}
use Rattle.scenario_laws.specs.push_model.specs.declared.course.Stage.{Stage}
use Rattle.scenario_laws.specs.push_model.specs.declared.course.Stage.TheVariants.{Search}
use Rattle.scenario_laws.specs.push_model.specs.Client.{Client, cancelled}
use Rattle.scenario_laws.specs.push_model.specs.Events as events
use Rattle.scenario_laws.specs.push_model.specs.Events.{hears_news, hears_reply, is_asking_features, sdu_at}
use Rattle.scenario_laws.specs.push_model.specs.Laws.{Finishes, done}
use Rattle.scenario_laws.specs.push_model.specs.Steps.{Part, Step, Wait, MakeLink, AskFeatures, OpenChannel, SendSdu, CloseChannel, BreakLink, Ended, NoMemory, Stepped, steps}
use Rattle.scenario_laws.specs.push_laws.proofs.Opening.{Walk, At, course_of}
use Rattle.scenario_laws.specs.world_model.specs.Machines.{News, Linked, Failed, Heard, TimerFired, Cancelled, Opening as OpeningNews}
use Rattle.scenario_laws.specs.host_model.specs.Circumstances.{Circumstance}
use Rattle.scenario_laws.specs.host_model.specs.Clients as clients
use Rattle.scenario_laws.specs.host_model.specs.Clients.{ClientProfile, client_profile, after_end, ended, opened_by, closed_by, cause_of, event_heard, sent_on, fitted}
use Rattle.scenario_laws.specs.host_model.specs.Hosts.{handed}
use Rattle.scenario_laws.specs.host_model.specs.Profiles.{Profile}
use Rattle.scenario_laws.specs.host_model.specs.Shelves.{unused}
use Rattle.scenario_laws.specs.host_laws.specs.Asked.{IsOfLink, BeginsNone}
use Rattle.scenario_laws.specs.host_laws.specs.Calls.{Asks, from_call, values_after}
use Rattle.scenario_laws.specs.host_laws.specs.Leaving.{is_off, in_use}
use Rattle.scenario_laws.specs.host_laws.specs.Searching.{AsksAsItSteps, ComesInOctets, BeginsSearch, SearchesOn}
use Rattle.scenario_laws.specs.host_laws.specs.Seen.{spoken_of}
use Rattle.scenario_laws.specs.host_laws.specs.Services as services
use Rattle.scenario_laws.specs.host_laws.specs.Woven.{Strand, Hearing, Giving, Firing, Telling, Gifting, Learning, Checking, Stepping, told_next, strand_list, strand_profile, woven_list, woven_profile}
use Rattle.scenario_laws.specs.host_laws.proofs.AsTold as as_told
use Rattle.scenario_laws.specs.host_laws.proofs.AsTold.{Holds, Away, Lost, Sure, searches_or}
use Rattle.scenario_laws.specs.host_laws.proofs.Changes.{is_alive, Fine, comes-fine, gives-fine, timed-fine}
use Rattle.scenario_laws.specs.host_laws.proofs.Courses.{steps_so}
use Rattle.scenario_laws.specs.host_laws.proofs.Faces.{Goes, heard_goes, timer_goes, timer_off, cancelled_goes, cancelled_off}
use Rattle.scenario_laws.specs.host_laws.proofs.Forgoing.{AllSpoken, all_passed, both_spoken, said_spoken}
use Rattle.scenario_laws.specs.host_laws.proofs.GoingAsTold.{on_link}
use Rattle.scenario_laws.specs.host_laws.proofs.KeepingClients as keeping
use Rattle.scenario_laws.specs.host_laws.proofs.KeepingClients.{TellsFirst, event_fatal, clean_quiet}
use Rattle.scenario_laws.specs.host_laws.proofs.Knowing.{IsTold, Knows, JoinsIn, SoFar, spoken_both, went, spoken_more}
use Rattle.scenario_laws.specs.host_laws.proofs.Links.{value_run}
use Rattle.scenario_laws.specs.host_laws.proofs.Phases.{phase}
use Rattle.scenario_laws.specs.host_laws.proofs.Querying.{awaited}
use Rattle.scenario_laws.specs.host_laws.proofs.Replies.{came, Tells}
use Rattle.scenario_laws.specs.host_laws.proofs.Searching.{waiting_on, OnSearch, Of, of_at}
use Rattle.scenario_laws.specs.host_laws.proofs.SearchingOn.{has_one, one_alive, up_one, Hands, searched}
use Rattle.scenario_laws.specs.host_laws.proofs.SearchingTold as seeing
use Rattle.scenario_laws.specs.host_laws.proofs.SearchingTold.{Sees, ended_off, ended_same}
use Rattle.scenario_laws.specs.host_laws.proofs.SearchingWeave.{each_split, all_split, UttersAt, call_utters, strand_sees, run_behind, begins_sees}
use Rattle.scenario_laws.specs.host_laws.proofs.ServiceHeard.{ServiceEntry, service_entry}
use Rattle.scenario_laws.specs.host_laws.proofs.ServicesTold.{holds, any_kept, any_within, or_right, targets-stay}
use Rattle.scenario_laws.specs.host_laws.proofs.StandingClients.{Clean, Idle, Fatal, most, fatal_keeps, fatal-fine, fine_clean}
use Rattle.scenario_laws.specs.host_laws.proofs.StepsAsTold.{stepping, taken_client}
use Rattle.scenario_laws.specs.host_laws.proofs.Taking.{Taken, Gone, Lost as LostNow, Stood, step_taken}
use Rattle.cause_laws.proofs.Clients.{never}
use Rattle.cause_laws.proofs.Off.{strand_off}
use Rattle.cause_laws.proofs.Seeking.{is_seeking, again_holds, Keeps, opens_so, closes_so, told_so, lost_so, timer_so, cancels_so, sdu_so, asks_so, reply_query, reply_holds}

-- ---- what was told

module _ (party : Party) where
  -- where its question is answered, it was told that
  abbrev pub Told : Client → List Saying → Type 0
  Told c said = is_seeking c.stage ≡ true → c.query.stage ≡ queries.Answered → (target : Target) → target_in c.query.joined ≡ Some target → IsTold party said target

  told_more : (said more : List Saying) (target : Target) → IsTold party said target → IsTold party (said ++ more) target
  told_more said more target told test is = subst (λ l. list_any test (services.targets_told party l) ≡ true) (sym (spoken_both said more)) (targets-stay party (spoken_of said) (spoken_of more) test (told test is))

  told_grows : (c : Client) (said more : List Saying) → Told c said → Told c (said ++ more)
  told_grows c said more told seeks answered target read = told_more said more target (told seeks answered target read)

  told_keeps : (c d : Client) (said : List Saying) → Keeps c d → Told c said → Told d said
  told_keeps c d said keeps told seeks answered target read =
      let (before, again) = keeps seeks in
      let (answered', same) = again_holds c.query d.query again answered in
      told before answered' target (ap target_in (sym same) ∙ read)

-- what is said grows
pub record Grown (before after : List Saying) : Type 0 where
  pub more : List Saying
  pub is : after ≡ before ++ more

pub grown : (policy : Policy) (list : List Occurrence) (run : Run) → Grown run.said (fold (run_on policy) run list).said
grown policy [] run = record { more = []; is = sym (append-nil run.said) }
grown policy (one ∷ list) run =
    let rest = grown policy list (run_on policy run one) in
    record { more = said_in policy one run.value ++ rest.more; is = rest.is ∙ append_assoc run.said (said_in policy one run.value) rest.more }

-- ---- a reply that ends its search

module _ (settings : Settings) (party : Party) (list : List Occurrence) (pdu : List ℕ) (p : ClientProfile) where
  abbrev reply_run : Run
  reply_run = run_of (policy settings false) list

  abbrev reply_then : Run
  reply_then = run_on (policy settings false) reply_run (Comes pdu)

  abbrev rc : Client
  rc = p.client

  reply_goes : (K : Channels → Type 0) → Fine K → K reply_run.value → K reply_then.value
  reply_goes K fine k = comes-fine K fine (policy settings false) (λ psm. refl) pdu reply_run.value k

  -- of the channel that it had, on which it comes in
  module _ (one : Held) (held_is : reply_run.value.held ≡ one ∷ []) (psm_is : one.psm ≡ 0x0001) (waits : (channel : Channel) → channel.own ≡ one.own → waiting_on channel reply_run.said ≡ awaited rc.query) (so_far : SoFar reply_run rc.query.joined)
      (sdu : List ℕ) (spoke : (n : ℕ) → n ≡ one.own → exchanged_in n (Comes pdu) reply_run.value ≡ came sdu) where
    answers_then : (channel : Channel) → channel.own ≡ one.own → mode_of channel reply_then.said ≡ Basic → answers_in (spoken party channel reply_then.said) ≡ answers_in (spoken_on channel reply_run.said) ++ answers_now (awaited rc.query) rc.query.joined (came sdu)
    answers_then channel own mode =
        ap answers_in (basic-spoken party channel reply_then.said mode ∙ (spoken_more settings list (Comes pdu) one channel held_is psm_is own tt ∙ ap (λ l. spoken_on channel reply_run.said ++ l) (spoke channel.own own)))
        ∙ (link-answers_grow.sdus (spoken_on channel reply_run.said) (came sdu)
        ∙ ap₂ (λ w octets. answers_in (spoken_on channel reply_run.said) ++ answers_now w octets (came sdu)) (waits channel own) (so_far one held_is channel own))

    answer_told : (target : Target) → AllSpoken reply_then.said → ServiceEntry reply_then one.own → Tells target (answers_now (awaited rc.query) rc.query.joined (came sdu)) → IsTold party reply_then.said target
    answer_told target said service tells test is =
        subst (λ l. list_any test (services.targets_told party l) ≡ true) (sym (all_passed reply_then.said said))
        (any_kept test target_in (service_answers party reply_then.said)
        ∙ (any_within passes (λ (e : Entry). channel_answers party reply_then.said e.channel) entries
        ∙ any-other (λ (e : Entry). eqb e.channel.own one.own) (λ (e : Entry). list_any passes (channel_answers party reply_then.said e.channel)) entries service.entry service.found one_passes))
      where
        entries : List Entry
        entries = (reading reply_then.said).entries

        channel : Channel
        channel = service.entry.channel

        passes : List ℕ → Bool
        passes answer = holds test (target_in answer)

        before : List (List ℕ)
        before = answers_in (spoken_on channel reply_run.said)

        one_passes : list_any passes (channel_answers party reply_then.said channel) ≡ true
        one_passes =
            ap (λ b. list_any passes (cond b (answers_in (spoken party channel reply_then.said)) [])) (eq-eqb channel.psm 0x0001 service.psm_is)
            ∙ (ap (list_any passes) (answers_then channel (read-own one.own entries service.entry service.found) service.mode_is ∙ ap (λ l. before ++ l) tells.only)
            ∙ (list_any-append passes before (tells.answer ∷ []) ∙ or_right (list_any passes before) (list_any passes (tells.answer ∷ [])) (ap (λ b. b || false) (ap (holds test) tells.heard_is ∙ is))))

  module _ (clean : Clean rc reply_run.value) (now : Clean rc reply_then.value) (so : Of (policy settings false) p.endpoints p.submitted reply_run rc) (at : rc.stage ≡ Search) (said : AllSpoken reply_then.said) (so_far : SoFar reply_run rc.query.joined) (own psm : ℕ) (sdu : List ℕ)
      (is : up (channel_of pdu) pdu reply_run.value ≡ Received own psm sdu) where
    some_psm : (n : ℕ) → Some n ≡ Some 0x0001 → n ≡ 0x0001
    some_psm n same = cc

    -- one that is open has an endpoint of the peer
    peer_there : (wanted : Policy) (frees : Bool) (next : Held) → is_alive next.stage ≡ true → IsReady wanted true frees next → (peer : ℕ) × (peer_of next.stage ≡ Some peer)
    peer_there wanted frees next = by next.stage
      where
        by : (stage : Held_stage) → is_alive stage ≡ true → StageKeeps (Ready true frees) (wanted.wish next.psm) stage → (peer : ℕ) × (peer_of stage ≡ Some peer)
        by (Requested request) alive ready = let no : false ≡ true = ready.0 refl in absurd cc
        by (Connected peer setup) alive ready = (peer, refl)
        by (Leaving peer setup request) alive ready = (peer, refl)
        by (Closing peer request checked) alive ready = cc
        by (Crossed peer request) alive ready = cc

    read_then : (next : Held) → reply_then.value.held ≡ next ∷ [] → next.psm ≡ 0x0001 → (peer : ℕ) → peer_of next.stage ≡ Some peer → ServiceEntry reply_then next.own
    read_then next next_is psm_next peer peer_is =
        let behind : run_of (policy settings false) (list ++ Comes pdu ∷ []) ≡ reply_then = fold-append (run_on (policy settings false)) new_link list (Comes pdu ∷ []) in
        subst (λ r. ServiceEntry r next.own) behind (service_entry settings (list ++ Comes pdu ∷ []) next peer (ap (λ (r : Run). r.value.held) behind ∙ next_is) psm_next peer_is)

    pub reply_told : (target : Target) → Tells target (answers_now (awaited rc.query) rc.query.joined (came sdu)) → IsTold party reply_then.said target
    reply_told target tells =
        let was = of_at (policy settings false) p.endpoints p.submitted reply_run Search rc at so in
        let (asking, next, next_is, later) = searched settings list (Comes pdu) p reply_goes tt tt at clean now was in
        let it = went settings list rc reply_then.value next reply_goes (ap (λ s. in_use s rc.psm) at) (ap is_asking_features at) clean now next_is in
        let lists : it.one ∷ [] ≡ was.1 ∷ [] = sym it.held_is ∙ was.2 in
        let same : it.one ≡ was.1 = cc in
        let psm_one : was.1.psm ≡ 0x0001 = ap (λ (h : Held). h.psm) (sym same) ∙ it.psm_is in
        let has = has_one rc reply_then.value next (ap is_asking_features at) next_is now in
        let psm_next : next.psm ≡ 0x0001 = ap (λ (h : Held). h.psm) (sym has.is) ∙ (has.live.psm_is ∙ some_psm has.psm (sym has.uses.used ∙ ap (λ s. in_use s rc.psm) at)) in
        let (peer, peer_is) = peer_there (policy settings false) (not rc.given) next (one_alive rc reply_then.value next has) later.ready in
        let service = subst (ServiceEntry reply_then) (it.same ∙ ap (λ (h : Held). h.own) same) (read_then next next_is psm_next peer peer_is) in
        by was.1 was.2 psm_one was.3 service (up_one settings list was.1 pdu was.2 psm_one)
      where
        by : (one : Held) → reply_run.value.held ≡ one ∷ [] → one.psm ≡ 0x0001 → OnSearch (policy settings false) p.endpoints p.submitted true (not rc.given) true (awaited rc.query) reply_run one → ServiceEntry reply_then one.own → Hands settings one pdu (up (channel_of pdu) pdu reply_run.value) → IsTold party reply_then.said target
        by one held_is psm_one on service (inl none) = let no : Nothing ≡ Received own psm sdu = sym none ∙ is in absurd cc
        by one held_is psm_one on service (inr hands) =
            let both : Received own psm sdu ≡ Received one.own one.psm (drop 4 pdu) = sym is ∙ hands in
            let own_is : own ≡ one.own = cc in
            answer_told one held_is psm_one (λ channel mine. on.waits_so refl channel mine) so_far sdu
            (λ n same. ap (λ x. heard_in n x ++ []) is ∙ ap (λ b. cond b (spoken_as Into sdu ∷ []) [] ++ []) (eq-eqb own n (own_is ∙ sym same))) target said service tells

    -- so it was told what it holds then
    pub heard_told : Told party rc reply_run.said → Told party (hears_news (events.Sdu psm sdu) rc) reply_then.said
    heard_told told = subst (λ (s : Stage). Told party (sdu_at s psm sdu rc) reply_then.said) (sym at) (by (eqb psm 0x0001))
      where
        grows : Told party rc reply_then.said
        grows = told_grows party rc reply_run.said _ told

        by : (here : Bool) → Told party (cond here (hears_reply sdu rc) rc) reply_then.said
        by false seeks answered target read = grows seeks answered target read
        by true seeks answered target read =
            let same = reply_query sdu rc in
            elim (reply_holds rc.query sdu (ap (λ (q : Asking). q.stage) (sym same) ∙ answered) target (ap (λ (q : Asking). target_in q.joined) (sym same) ∙ read)) [
              | inl still ↦ grows (ap is_seeking at) (ap (λ (q : Asking). q.stage) (sym (same ∙ still)) ∙ answered) target (ap (λ (q : Asking). target_in q.joined) (sym (same ∙ still)) ∙ read)
              | inr tells ↦ reply_told target tells
            ]

-- ---- it is not told any more

-- no push goes on over its link, or it is to be told what leaves it nothing but that
abbrev pub IsOut : Client → Channels → Type 0
IsOut c v = (is_off c.stage ≡ true) ⊎ Fatal c v

out_goes : (c d : Client) (v : Channels) → Goes c d → Fatal c v → IsOut d v
out_goes c d v (inl off) fatal = inl off
out_goes c d v (inr keeps) fatal = inr (fatal_keeps c d v (most c d keeps) fatal)

module _ (settings : Settings) (party : Party) (asks : Asks (client_profile settings)) (as_steps : AsksAsItSteps settings asks) where
  abbrev wanted : Policy
  wanted = policy settings false

  abbrev A : Profile ClientProfile
  A = client_profile settings

  abbrev behind : Strand → List Occurrence → ClientProfile → Run
  behind strand past p = fold (run_on (policy settings false)) (run_of (policy settings false) past) (strand_list (client_profile settings) asks strand (run_of (policy settings false) past).value p)

  abbrev after : Strand → List Occurrence → ClientProfile → ClientProfile
  after strand past p = strand_profile (client_profile settings) strand (run_of (policy settings false) past).value p

  -- ---- what is out stays out

  handed_out : (x : Up) (p : ClientProfile) (v : Channels) → Fatal p.client v → IsOut (handed A x p).client v
  handed_out Nothing p v fatal = inr fatal
  handed_out (Received own psm sdu) p v fatal = out_goes p.client (hears_news (events.Sdu psm sdu) p.client) v (heard_goes psm sdu p.client) fatal

  told_out : (events' : List ChannelEvent) (p : ClientProfile) (v : Channels) → v.events ≡ events' → Fatal p.client v → IsOut (told_next A events' v p).client (value_after wanted Tell v)
  told_out [] p v is fatal = inr (subst (Fatal p.client) (ap (λ (l : List ChannelEvent). let x : Channels = record v { events = l } in x) (is ∙ sym (ap (drop 1) is))) fatal)
  told_out (event ∷ rest) p v is fatal =
      let u : Channels = record v { events = rest } in
      event_fatal event rest p.client v (value_after wanted Tell v) u (record { events_are = is; held_is = refl; features_are = refl; rest_is = ap (drop 1) is; seen_is = refl }) fatal

  ended_out : (c : Client) (v : Channels) → IsOut c v → IsOut (ended c) v
  ended_out c v (inl off) = inl (ended_off c off)
  ended_out c v (inr fatal) = by (is_off c.stage) refl
    where
      by : (off : Bool) → is_off c.stage ≡ off → IsOut (ended c) v
      by true is = inl (ended_off c is)
      by false is = inr (subst (λ (d : Client). Fatal d v) (sym (ended_same c is)) fatal)

  learned_out : (circumstances : List Circumstance) (news : News) (p : ClientProfile) (v : Channels) → IsOfLink news → Fatal p.client v → IsOut (A.told circumstances news p).client v
  learned_out circumstances (Linked event) p v of fatal = absurd of
  learned_out circumstances (Failed status) p v of fatal = absurd of
  learned_out circumstances (OpeningNews name) p v of fatal = absurd of
  learned_out circumstances (Heard pdu) p v of fatal = inr fatal
  learned_out circumstances TimerFired p v of fatal = by (is_off p.client.stage) refl
    where
      by : (off : Bool) → is_off p.client.stage ≡ off → IsOut (hears_news events.Timer p.client) v
      by true is = inl (timer_off p.client is)
      by false is = out_goes p.client (hears_news events.Timer p.client) v (timer_goes p.client is) fatal
  learned_out circumstances Cancelled p v of fatal = by (is_off p.client.stage) refl
    where
      by : (off : Bool) → is_off p.client.stage ≡ off → IsOut (ended (cancelled p.client)) v
      by true is = inl (ended_off (cancelled p.client) (cancelled_off p.client is))
      by false is = ended_out (cancelled p.client) v (out_goes p.client (cancelled p.client) v (cancelled_goes p.client is) fatal)

  sent_out : (submitted : Option ℕ) (p : ClientProfile) (v : Channels) → Fatal p.client v → IsOut (sent_on submitted v p).client v
  sent_out None p v fatal = inr fatal
  sent_out (Some own) p v fatal = by (still_waits own v)
    where
      by : (waits : Bool) → IsOut (cond waits p (clients.done (record p { submitted = None }))).client v
      by true = inr fatal
      by false = inr (fatal_keeps p.client (done Finishes p.client) v (record { used = refl; closes = λ is. is; asks = λ is. is; ends = λ is. is }) fatal)

  stepped_out : (past : List Occurrence) (p : ClientProfile) → Fatal p.client (run_of wanted past).value → IsOut (after Stepping past p).client (behind Stepping past p).value
  stepped_out past p fatal = on (step_taken {S = ⊥} one.step v next p (steps_so p.client (fitted p)) (inr fatal))
    where
      v : Channels
      v = (run_of wanted past).value

      one : Stepped
      one = steps p.client (fitted p)

      next : ClientProfile
      next = record p { client = one.client; parts = unused one.left p.parts }

      value : (A.steps v p).channels ≡ (behind Stepping past p).value
      value = asks.steps_are v p ∙ sym (value_run wanted (from_call (asks.call v p)) (run_of wanted past))

      on : Taken ⊥ (A.steps v p).profile.client v (A.steps v p).channels → IsOut (A.steps v p).profile.client (behind Stepping past p).value
      on (Gone off) = inl off
      on (LostNow now) = inr (subst (Fatal (A.steps v p).profile.client) value now)
      on (Stood none now same) = absurd none

  fatal_out : (strand : Strand) (past : List Occurrence) (p : ClientProfile) → BeginsNone strand → Fatal p.client (run_of wanted past).value → IsOut (after strand past p).client (behind strand past p).value
  fatal_out (Hearing pdu) past p none fatal =
      let v = (run_of wanted past).value in
      handed_out (up (channel_of pdu) pdu v) p (behind (Hearing pdu) past p).value (comes-fine (Fatal p.client) (fatal-fine p.client) wanted (λ psm. refl) pdu v fatal)
  fatal_out (Giving pdu) past p none fatal = inr (gives-fine (Fatal p.client) (fatal-fine p.client) (run_of wanted past).value (all-sound wanted past).core.lone fatal)
  fatal_out Firing past p none fatal = inr (timed-fine (Fatal p.client) (fatal-fine p.client) wanted (run_of wanted past).value fatal)
  fatal_out Telling past p none fatal = told_out (run_of wanted past).value.events p (run_of wanted past).value refl fatal
  fatal_out (Gifting circumstances) past p none fatal = inr fatal
  fatal_out (Learning circumstances news) past p none fatal = learned_out circumstances news p (run_of wanted past).value none fatal
  fatal_out Checking past p none fatal = sent_out p.submitted p (run_of wanted past).value fatal
  fatal_out Stepping past p none fatal = stepped_out past p fatal

  strand_out : (strand : Strand) (past : List Occurrence) (p : ClientProfile) → BeginsNone strand → IsOut p.client (run_of wanted past).value → IsOut (after strand past p).client (behind strand past p).value
  strand_out strand past p none (inl off) = inl (strand_off settings strand (run_of wanted past).value p (on_link strand none) off)
  strand_out strand past p none (inr fatal) = fatal_out strand past p none fatal

  -- ---- what was told stays so

  module _ (said : List Saying) where
    abbrev T : Client → Type 0
    T c = Told party c said

    opened_told : (mtu : Option ℕ) (psm : ℕ) (c : Client) → T c → T (opened_by mtu psm c)
    opened_told None psm c told = told
    opened_told (Some mtu) psm c told = told_keeps party c (hears_news (events.ChannelOpen psm mtu) c) said (opens_so psm mtu c) told

    closed_told : (cause : Option CloseCause) (psm : ℕ) (c : Client) → T c → T (closed_by cause psm c)
    closed_told None psm c told = told
    closed_told (Some cause) psm c told = told_keeps party c (hears_news (events.ChannelClosed psm cause) c) said (closes_so psm cause c) told

    event_told : (event : ChannelEvent) (v : Channels) (c : Client) → T c → T (event_heard event v c)
    event_told (Opened own psm) v c told = opened_told (peer_mtu own v) psm c told
    event_told (Closed own psm reason) v c told = closed_told (cause_of reason) psm c told
    event_told (FeaturesAre features) v c told = told_keeps party c (hears_news events.FeaturesTold c) said (told_so c) told
    event_told FeaturesLost v c told = told_keeps party c (hears_news events.FeaturesLost c) said (lost_so c) told
    event_told (DisconnectLost own) v c told = told

    next_told : (events' : List ChannelEvent) (v : Channels) (p : ClientProfile) → T p.client → T (told_next A events' v p).client
    next_told [] v p told = told
    next_told (event ∷ rest) v p told = event_told event (record v { events = rest }) p.client told

    asked_told : (c : Client) (parts : List Part) → T c → T (steps c parts).client
    asked_told c parts told = told_keeps party c (steps c parts).client said (asks_so c parts) told

    end_told : (step : Step) (d c : Client) → T d → T c → T (after_end step d c)
    end_told (Ended outcome) d c now before = now
    end_told Wait d c now before = before
    end_told MakeLink d c now before = before
    end_told AskFeatures d c now before = before
    end_told (OpenChannel psm) d c now before = before
    end_told (SendSdu psm payload) d c now before = before
    end_told (CloseChannel psm) d c now before = before
    end_told BreakLink d c now before = before
    end_told NoMemory d c now before = before

    learned_told : (circumstances : List Circumstance) (news : News) (p : ClientProfile) → IsOfLink news → T p.client → T (A.told circumstances news p).client
    learned_told circumstances (Linked event) p of told = absurd of
    learned_told circumstances (Failed status) p of told = absurd of
    learned_told circumstances (OpeningNews name) p of told = absurd of
    learned_told circumstances (Heard pdu) p of told = told
    learned_told circumstances TimerFired p of told = told_keeps party p.client (hears_news events.Timer p.client) said (timer_so p.client) told
    learned_told circumstances Cancelled p of told =
        let c = cancelled p.client in
        let now = told_keeps party p.client c said (cancels_so p.client) told in
        end_told (steps c []).step (steps c []).client c (asked_told c [] now) now

    sent_told : (submitted : Option ℕ) (v : Channels) (p : ClientProfile) → T p.client → T (sent_on submitted v p).client
    sent_told None v p told = told
    sent_told (Some own) v p told = by (still_waits own v)
      where
        by : (waits : Bool) → T (cond waits p (clients.done (record p { submitted = None }))).client
        by true = told
        by false = told

    stepped_told : (v : Channels) (p : ClientProfile) → T p.client → T (A.steps v p).profile.client
    stepped_told v p told =
        let one = steps p.client (fitted p) in
        let now = asked_told p.client (fitted p) told in
        taken_client T one.step v (record p { client = one.client; parts = unused one.left p.parts }) p told now now

  -- ---- a PDU comes in

  abbrev Stays : ClientProfile → Run → Type 0
  Stays p run = IsOut p.client run.value ⊎ Told party p.client run.said

  module _ (past : List Occurrence) (pdu : List ℕ) (p : ClientProfile) where
    abbrev run : Run
    run = run_of (policy settings false) past

    abbrev then : Run
    then = run_on (policy settings false) run (Comes pdu)

    abbrev c : Client
    c = p.client

    abbrev more : List Saying
    more = said_in (policy settings false) (Comes pdu) run.value

    out : (x : Up) → Fatal c then.value → Stays (handed A x p) then
    out x fatal = inl (handed_out x p then.value fatal)

    elsewhere : (own psm : ℕ) (sdu : List ℕ) → (c.stage ≡ Search → ⊥) → Told party c run.said → Told party (handed A (Received own psm sdu) p).client then.said
    elsewhere own psm sdu apart told = told_keeps party c (hears_news (events.Sdu psm sdu) c) then.said (sdu_so c.stage psm sdu c refl apart) (told_grows party c run.said more told)

    module _ (clean : Clean c run.value) (so : Of (policy settings false) p.endpoints p.submitted run c) (at : c.stage ≡ Search) (told : Told party c run.said) (own psm : ℕ) (sdu : List ℕ) (is : up (channel_of pdu) pdu run.value ≡ Received own psm sdu) where
      on_search : {X : Type 0} → is_off c.stage ≡ true → X
      on_search off = never (sym (ap is_off at) ∙ off)

      all_spoken : Clean c then.value → keeping.Stands settings asks c run → AllSpoken then.said
      all_spoken now (keeping.Off off) = on_search off
      all_spoken now (keeping.Doomed fatal) = absurd (as_told.search_lost c run.value at clean fatal)
      all_spoken now (keeping.Well other spoken) = both_spoken run.said more spoken (said_spoken true (policy settings false) (Comes pdu) run.value tt (λ ends. cc) (clean_quiet c then.value now))

      sure : keeping.Stands settings asks c run → SoFar run c.query.joined → Stays (handed A (Received own psm sdu) p) then
      sure stands so_far = elim (fine_clean c run.value then.value (λ K fine k. comes-fine K fine (policy settings false) (λ psm. refl) pdu run.value k) clean) [
        | inl now ↦ inr (heard_told settings party past pdu p clean now so at (all_spoken now stands) so_far own psm sdu is told)
        | inr fatal ↦ out (Received own psm sdu) fatal
      ]

      held : keeping.Stands settings asks c run → Holds settings party asks p run → Stays (handed A (Received own psm sdu) p) then
      held stands (Away off) = on_search off
      held stands (Lost fatal knows) = out (Received own psm sdu) (comes-fine (Fatal c) (fatal-fine c) (policy settings false) (λ psm. refl) pdu run.value fatal)
      held stands (Sure knows joins) = sure stands (subst (λ (s : Stage). JoinsIn (phase s) c.query.joined run) at joins)

    hears_stays : (x : Up) → up (channel_of pdu) pdu run.value ≡ x → Sees settings p run → keeping.Stands settings asks c run → Holds settings party asks p run → Told party c run.said → Stays (handed A x p) then
    hears_stays Nothing is sees stands holds told = inr (told_grows party c run.said more told)
    hears_stays (Received own psm sdu) is sees stands holds told = elim (searches_or c.stage) [
      | inl at ↦ by at sees
      | inr apart ↦ inr (elsewhere own psm sdu apart told)
    ]
      where
        by : c.stage ≡ Search → Sees settings p run → Stays (handed A (Received own psm sdu) p) then
        by at (seeing.Off off) = never (sym (ap is_off at) ∙ off)
        by at (seeing.Doomed fatal) = out (Received own psm sdu) (comes-fine (Fatal c) (fatal-fine c) (policy settings false) (λ psm. refl) pdu run.value fatal)
        by at (seeing.Well clean so) = held clean so at told own psm sdu is stands holds

  -- ---- all that happens on its link

  record Standing (p : ClientProfile) (run : Run) : Type 0 where
    sees : Sees settings p run
    stands : keeping.Stands settings asks p.client run
    holds : Holds settings party asks p run
    stays : Stays p run

  grown_on : (strand : Strand) (past : List Occurrence) (p : ClientProfile) → Told party p.client (run_of wanted past).said → Told party p.client (behind strand past p).said
  grown_on strand past p told =
      let more = grown wanted (strand_list A asks strand (run_of wanted past).value p) (run_of wanted past) in
      subst (Told party p.client) (sym more.is) (told_grows party p.client (run_of wanted past).said more.more told)

  told_on : (strand : Strand) (past : List Occurrence) (p : ClientProfile) → BeginsNone strand → Standing p (run_of wanted past) → Told party p.client (run_of wanted past).said → Stays (after strand past p) (behind strand past p)
  told_on (Hearing pdu) past p none stood told = hears_stays past pdu p (up (channel_of pdu) pdu (run_of wanted past).value) refl stood.sees stood.stands stood.holds told
  told_on (Giving pdu) past p none stood told = inr (grown_on (Giving pdu) past p told)
  told_on Firing past p none stood told = inr (grown_on Firing past p told)
  told_on Telling past p none stood told = inr (next_told (behind Telling past p).said (run_of wanted past).value.events (run_of wanted past).value p (grown_on Telling past p told))
  told_on (Gifting circumstances) past p none stood told = inr (grown_on (Gifting circumstances) past p told)
  told_on (Learning circumstances news) past p none stood told = inr (learned_told (behind (Learning circumstances news) past p).said circumstances news p none (grown_on (Learning circumstances news) past p told))
  told_on Checking past p none stood told = inr (sent_told (behind Checking past p).said p.submitted (run_of wanted past).value p (grown_on Checking past p told))
  told_on Stepping past p none stood told = inr (stepped_told (behind Stepping past p).said (run_of wanted past).value p (grown_on Stepping past p told))

  strand_stays : (strand : Strand) (past : List Occurrence) (p : ClientProfile) → BeginsNone strand → Standing p (run_of wanted past) → Stays p (run_of wanted past) → Stays (after strand past p) (behind strand past p)
  strand_stays strand past p none stood (inl out') = inl (strand_out strand past p none out')
  strand_stays strand past p none stood (inr told) = told_on strand past p none stood told

  strand_holds : (strand : Strand) (past : List Occurrence) (p : ClientProfile) → BeginsNone strand → EachAfter (UttersAt settings asks as_steps) past (strand_list A asks strand (run_of wanted past).value p) → Sees settings (after strand past p) (behind strand past p) → Standing p (run_of wanted past)
      → Holds settings party asks (after strand past p) (behind strand past p)
  strand_holds (Hearing pdu) past p none uttered later stood = as_told.hearing settings party asks past pdu p stood.sees stood.stands stood.holds
  strand_holds (Giving pdu) past p none uttered later stood = as_told.changes settings party asks past (Gives pdu) p (λ K fine k. gives-fine K fine (run_of wanted past).value (all-sound wanted past).core.lone k) uttered.0 (λ own. refl) stood.sees stood.holds
  strand_holds Firing past p none uttered later stood = as_told.changes settings party asks past Fires p (λ K fine k. timed-fine K fine wanted (run_of wanted past).value k) tt (λ own. refl) stood.sees stood.holds
  strand_holds Telling past p none uttered later stood = as_told.telling settings party asks past p stood.sees stood.holds
  strand_holds (Gifting circumstances) past p none uttered later stood = as_told.gifting settings party asks circumstances (run_of wanted past) p stood.holds
  strand_holds (Learning circumstances news) past p none uttered later stood = as_told.learning settings party asks circumstances news (run_of wanted past) p none stood.holds
  strand_holds Checking past p none uttered later stood = as_told.checking settings party asks (run_of wanted past) p stood.holds
  strand_holds Stepping past p none uttered later stood = stepping settings party asks as_steps past p (call_utters settings asks as_steps past (asks.call (run_of wanted past).value p) uttered) stood.sees later stood.holds

  strand_stood : (strand : Strand) (past : List Occurrence) (p : ClientProfile) → (let v = (run_of wanted past).value in BeginsNone strand → EachAfter (UttersAt settings asks as_steps) past (strand_list A asks strand v p) → AllByRecursion ComesInOctets (strand_list A asks strand v p)
      → Standing p (run_of wanted past) → Standing (strand_profile A strand v p) (behind strand past p))
  strand_stood strand past p none uttered octets stood =
      let later = strand_sees settings asks as_steps strand past p none uttered octets stood.sees in
      record {
        sees = later;
        stands = keeping.strand_stands settings asks strand past p (on_link strand none) stood.stands;
        holds = strand_holds strand past p none uttered later stood;
        stays = strand_stays strand past p none stood stood.stays;
      }

  weave_stood : (weave : List Strand) (past : List Occurrence) (p : ClientProfile) (v : Channels) → (run_of wanted past).value ≡ v → AllByRecursion BeginsNone weave → EachAfter (UttersAt settings asks as_steps) past (woven_list A asks weave v p) → AllByRecursion ComesInOctets (woven_list A asks weave v p)
      → Standing p (run_of wanted past) → Standing (woven_profile A asks weave v p) (run_of wanted (past ++ woven_list A asks weave v p))
  weave_stood [] past p v is none uttered octets stood = subst (λ (l : List Occurrence). Standing p (run_of wanted l)) (sym (append-nil past)) stood
  weave_stood (strand ∷ weave) past p v is none uttered octets stood =
      let list = strand_list A asks strand v p in
      let q = strand_profile A strand v p in
      let u = values_after wanted v list in
      let rest = woven_list A asks weave u q in
      let utters = each_split (UttersAt settings asks as_steps) past list rest uttered in
      let comes = all_split ComesInOctets list rest octets in
      let here = subst (λ w. EachAfter (UttersAt settings asks as_steps) past (strand_list A asks strand w p) → AllByRecursion ComesInOctets (strand_list A asks strand w p) → Standing p (run_of wanted past)
      → Standing (strand_profile A strand w p) (fold (run_on wanted) (run_of wanted past) (strand_list A asks strand w p))) is (strand_stood strand past p none.0) utters.0 comes.0 stood in
      let value : (run_of wanted (past ++ list)).value ≡ u = ap (λ (r : Run). r.value) (run_behind settings asks as_steps past list) ∙ (value_run wanted list (run_of wanted past) ∙ ap (λ w. values_after wanted w list) is) in
      subst (λ (l : List Occurrence). Standing (woven_profile A asks weave u q) (run_of wanted l)) (append_assoc past list rest)
      (weave_stood weave (past ++ list) q u value none.1 utters.1 comes.1 (subst (Standing q) (sym (run_behind settings asks as_steps past list)) here))

  begins_holds : (first : ClientProfile) → BeginsSearch first → Holds settings party asks first new_link
  begins_holds first (inl (at, new, empty)) = Sure knows (subst (λ s. JoinsIn (phase s) first.client.query.joined new_link) (sym at) tt)
    where
      walk : Walk
      walk = record { transport = first.client.transport; targets = []; taken = [] }

      knows : Knows party first.client []
      knows = record { walk = walk; stands = subst (λ s. At walk s (course_of first.client)) (sym at) (record { same = refl; none = refl; is = refl }); told = tt }
  begins_holds first (inr off) = Away off

  begins_stays : (first : ClientProfile) → BeginsSearch first → Stays first new_link
  begins_stays first (inl (at, new, empty)) = inr (λ seeks answered. let no : queries.Due ≡ queries.Answered = ap (λ (q : Asking). q.stage) (sym new) ∙ answered in absurd cc)
  begins_stays first (inr off) = inl (inl off)

  -- behind all that happened on its link it was told what it holds, unless it is out
  pub link_told : (list : List Occurrence) (first last : ClientProfile) → SearchesOn settings asks list first last → IsOut last.client (run_of (policy settings false) list).value ⊎ Told party last.client (run_of (policy settings false) list).said
  link_told list first last on =
      let weave = on.woven.weave in
      let begins : Standing first new_link = record {
        sees = begins_sees settings asks as_steps first on.first_is;
        stands = keeping.Well (Idle (record { held_is = refl; quiet = refl; notes_are = refl })) tt;
        holds = begins_holds first on.first_is;
        stays = begins_stays first on.first_is;
      } in
      let all = weave_stood weave [] first no_channels refl on.begins (subst (EachAfter (UttersAt settings asks as_steps) []) on.woven.list_is on.uttered) (subst (AllByRecursion ComesInOctets) on.woven.list_is on.octets) begins in
      subst (λ (p : ClientProfile). Stays p (run_of wanted list)) (sym on.woven.last_is) (subst (λ (l : List Occurrence). Stays (woven_profile A asks weave no_channels first) (run_of wanted l)) (sym on.woven.list_is) all.stays)
