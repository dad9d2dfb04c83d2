-- A client hears a reply in its search: a target that it finds is that of a whole answer of its own talk.
use Rattle.std.proofs.Common.{◌≡◌, ℕ, List, [], ◌∷◌, ◌++◌, drop, fold, Bool, true, false, cond, eqb, not, ◌&&◌, ◌||◌, Option, Some, None, refl, sym, ap, ap₂, subst, ◌∙◌, ◌⊎◌, inl, inr, append-nil}
use Rattle.std.specs.Prelude.{find, is_some}
use Rattle.std.specs.List.{AllByRecursion, list_any}
use Rattle.std.proofs.lemmas.Bool.{eq-eqb}
use Rattle.std.proofs.lemmas.List.Folds.{list_any-append}
use Rattle.std.proofs.lemmas.List.Sums.{fold-append}
use Rattle.shelf_model.specs.acl_fragments.specs.Pieces.{channel_of}
use Rattle.shelf_model.specs.bt_base.specs.Octets.{IsOctets}
use Rattle.shelf_model.specs.bt_base.specs.declared.settings.Settings.{Settings}
use Rattle.shelf_model.specs.bt_base.specs.declared.settings.Transport.{Transport}
use Rattle.shelf_model.specs.bt_base.specs.declared.settings.Transport.TheVariants.{L2cap, Rfcomm}
use Rattle.shelf_model.specs.capture.specs.declared.flow.Flow.TheVariants.{Into}
use Rattle.shelf_model.specs.l2cap_config.specs.declared.wish.Mode.TheVariants.{Basic}
use Rattle.shelf_model.specs.push_terms.specs.declared.outcome.Outcome.{Outcome}
use Rattle.shelf_model.specs.push_terms.specs.declared.outcome.Outcome.TheVariants as outcomes
use Rattle.shelf_model.specs.sdp_elements.specs.declared.target.Target.{Target}
use Rattle.shelf_model.specs.sdp_elements.specs.Targets.{target_in, is_service_psm, is_server_channel}
use Rattle.shelf_model.specs.sdp_client.specs.declared.reason.Found.{Found}
use Rattle.shelf_model.specs.sdp_client.specs.declared.reason.Found.TheVariants.{More, Service, NoService, Refused}
use Rattle.shelf_model.specs.sdp_client.specs.declared.reason.QueryReason.TheVariants.{BadReply, ErrorCode, WrongTransaction, TooLong}
use Rattle.shelf_model.specs.sdp_client.specs.Asking.{Asking}
use Rattle.shelf_model.specs.sdp_client.specs.Hearing.{found_at, after_reply}
use Rattle.push_laws.specs.link_talk.specs.declared.channel.Channel.{Channel}
use Rattle.push_laws.specs.link_talk.specs.declared.party.Party.{Party}
use Rattle.push_laws.specs.link_talk.specs.Carriages.{mode_of}
use Rattle.push_laws.specs.link_talk.specs.Channels.{Entry, reading}
use Rattle.push_laws.specs.link_talk.specs.Sayings.{Saying}
use Rattle.push_laws.specs.link_talk.specs.Sdus.{spoken, spoken_as}
use Rattle.push_laws.specs.link_talk.specs.ServiceAnswers.{parts_from, answers_in, channel_answers, service_answers}
use Rattle.channel_laws.specs.talk_laws.specs.LinkAnswers.{unfinished_after, answers_now, unfinished_of}
use Rattle.channel_laws.specs.talk_laws.proofs.LinkAnswers.{link-answers_grow}
use Rattle.channel_laws.specs.channel_model.specs.Carrying.{Up, Nothing, Received}
use Rattle.channel_laws.specs.channel_model.specs.Changing.{has_own, held_at}
use Rattle.channel_laws.specs.channel_model.specs.Hearing.{up}
use Rattle.channel_laws.specs.channel_model.specs.Policies.{Policy, policy}
use Rattle.channel_laws.specs.channel_model.specs.Value.{Stage as Held_stage, Requested, Connected, Leaving, Closing, Crossed, Held, Channels}
use Rattle.channel_laws.specs.channel_model.proofs.Lookups.{eqb-same}
use Rattle.channel_laws.specs.Endpoints.{IsOf}
use Rattle.channel_laws.specs.Exchanged.{heard_in, exchanged_in}
use Rattle.channel_laws.specs.Runs.{Occurrence, Comes, Run, new_link, run_on, run_of}
use Rattle.channel_laws.specs.Views.{peer_of, read_at}
use Rattle.channel_laws.proofs.Awaiting.{any-other}
use Rattle.channel_laws.proofs.Entries.{read-own}
use Rattle.channel_laws.proofs.Exchanged.{spoken_on, basic-spoken}
use Rattle.channel_laws.proofs.Keeping.{StageKeeps}
use Rattle.channel_laws.proofs.PlainTaken.{basic_mode}
use Rattle.channel_laws.proofs.Ready.{Ready, IsReady}
use Rattle.channel_laws.proofs.Running.{all-sound}
use Rattle.channel_laws.proofs.Sound.{ReadsBy, Reads}
use Rattle.push_laws.specs.push_model.specs.declared.course.Point.TheVariants.{Due, Asked}
use Rattle.push_laws.specs.push_model.specs.declared.course.Stage.{Stage}
use Rattle.push_laws.specs.push_model.specs.declared.course.Stage.TheVariants.{Rest, Link, SearchChannel, Search, SearchEnd, Features, ObjectChannel, Object, ObjectEnd, LinkEnd, Over}
use Rattle.push_laws.specs.push_model.specs.Causes.{Ending, InOrder, AtOnce, ending_of, cause_of_query}
use Rattle.push_laws.specs.push_model.specs.Client.{Client, ends, ends_by, stage_after}
use Rattle.push_laws.specs.push_model.specs.Events as events
use Rattle.push_laws.specs.push_model.specs.Events.{is_search, is_asking_features, kept_of, found_psm, found_channel, found_way, finds, hears_reply, hears_news, sdu_at}
use Rattle.push_laws.specs.push_model.specs.Laws.{Hears}
use Rattle.push_laws.specs.Opening.{found_in, targets_by}
use Rattle.shelf_model.specs.host_model.specs.Clients.{ClientProfile}
use Rattle.host_laws.specs.Seen.{spoken_of}
use Rattle.host_laws.specs.Services as services
use Rattle.host_laws.proofs.Changes.{is_alive, Fine, comes-fine}
use Rattle.host_laws.proofs.Forgoing.{AllSpoken, all_passed}
use Rattle.host_laws.specs.Leaving.{in_use}
use Rattle.host_laws.proofs.Knowing.{IsTold, Knows, knows_more, knows_deed, SoFar, JoinsIn, Joins, went, spoken_more, unfinished_on}
use Rattle.host_laws.proofs.Phases.{Phase, Linking, Opening, Searching, Carrying, Aside, phase}
use Rattle.host_laws.proofs.Querying.{awaited}
use Rattle.host_laws.proofs.Replies.{came, Tells, unfinished_with, Reads as ReplyReads, reply_reads}
use Rattle.host_laws.proofs.Searching.{waiting_on, OnSearch, Of, of_at}
use Rattle.host_laws.proofs.SearchingOn.{has_one, one_alive, up_one, Hands, searched}
use Rattle.host_laws.proofs.ServicesTold.{holds, any_kept, any_within, or_right}
use Rattle.host_laws.proofs.StandingClients.{Clean}

-- ---- the channel of service discovery, as it is read

pub record ServiceEntry (run : Run) (own : ℕ) : Type 0 where
  pub entry : Entry
  pub found : read_at own (reading run.said).entries ≡ Some entry
  pub psm_is : entry.channel.psm ≡ 0x0001
  pub mode_is : mode_of entry.channel run.said ≡ Basic

pub service_entry : (settings : Settings) (list : List Occurrence) (one : Held) (peer : ℕ) → (let run = run_of (policy settings false) list in run.value.held ≡ one ∷ [] → one.psm ≡ 0x0001 → peer_of one.stage ≡ Some peer → ServiceEntry run one.own)
service_entry settings list one peer held_is psm_is peer_is = by (read_at one.own (reading run.said).entries) refl reads
  where
    wanted : Policy
    wanted = policy settings false

    run : Run
    run = run_of wanted list

    here : held_at one.own run.value ≡ Some one
    here = ap (find (has_own one.own)) held_is ∙ ap (λ b. cond b (Some one) None) (eqb-same one.own)

    reads : ReadsBy wanted one (Some peer) (read_at one.own (reading run.said).entries)
    reads = subst (λ p. ReadsBy wanted one p (read_at one.own (reading run.said).entries)) peer_is (subst (λ h. Reads wanted h (read_at one.own (reading run.said).entries)) here ((all-sound wanted list).core.reads one.own))

    by : (found : Option Entry) → read_at one.own (reading run.said).entries ≡ found → ReadsBy wanted one (Some peer) found → ServiceEntry run one.own
    by None is read' = elim read' [ ]
    by (Some entry) is (there, agrees) =
        let psm : entry.channel.psm ≡ 0x0001 = ap (λ (k : Channel). k.psm) there.channel_is ∙ psm_is in
        let own : entry.channel.own ≡ one.own = read-own one.own (reading run.said).entries entry is in
        let has : IsOf entry.channel (read_at entry.channel.own (reading run.said).entries) = subst (IsOf entry.channel) (sym (ap (λ n. read_at n (reading run.said).entries) own ∙ is)) refl in
        record { entry = entry; found = is; psm_is = psm; mode_is = basic_mode wanted list entry.channel has (ap (λ n. (wanted.wish n).mode) psm) }

-- ---- where its search goes with a reply

pub ends_aside : (outcome : Outcome) (c : Client) → c.stage ≡ Search → phase (ends outcome c).stage ≡ Aside
ends_aside outcome c at = by c.cause
  where
    after : (ending : Ending) → phase (stage_after ending c.stage) ≡ Aside
    after InOrder = ap (λ s. phase (stage_after InOrder s)) at
    after AtOnce = ap (λ s. phase (stage_after AtOnce s)) at

    by : (cause : Option Outcome) → phase (ends_by cause outcome c).stage ≡ Aside
    by None = after (ending_of outcome)
    by (Some earlier) = after AtOnce

pub psm_aside : (found : Option ℕ) (c : Client) → c.stage ≡ Search → phase (found_psm found c).stage ≡ Aside
psm_aside None c at = ends_aside outcomes.NoService c at
psm_aside (Some psm) c at = refl

pub channel_aside : (found : Option ℕ) (c : Client) → c.stage ≡ Search → phase (found_channel found c).stage ≡ Aside
channel_aside None c at = ends_aside outcomes.NoService c at
channel_aside (Some channel) c at = refl

pub way_aside : (transport : Transport) (target : Target) (c : Client) → c.stage ≡ Search → phase (found_way transport target c).stage ≡ Aside
way_aside L2cap target c at = psm_aside (kept_of is_service_psm target.l2cap) c at
way_aside Rfcomm target c at = channel_aside (kept_of is_server_channel target.rfcomm) c at

-- it searches on, or is done with it
pub found_phase : (found : Found) (c : Client) → c.stage ≡ Search → (phase (finds found c).stage ≡ Aside) ⊎ (phase (finds found c).stage ≡ Searching)
found_phase More c at = inr (ap phase at)
found_phase (Service target) c at = inl (way_aside c.transport target c at)
found_phase NoService c at = inl (ends_aside outcomes.NoService c at)
found_phase (Refused BadReply) c at = inl (ends_aside _ c at)
found_phase (Refused (ErrorCode code)) c at = inl (ends_aside _ c at)
found_phase (Refused WrongTransaction) c at = inr (ap phase at)
found_phase (Refused TooLong) c at = inl (ends_aside _ c at)

pub reply_phase : (psm : ℕ) (sdu : List ℕ) (c : Client) → c.stage ≡ Search → (phase (hears_news (events.Sdu psm sdu) c).stage ≡ Aside) ⊎ (phase (hears_news (events.Sdu psm sdu) c).stage ≡ Searching)
reply_phase psm sdu c at = subst (λ s. P (sdu_at s psm sdu c)) (sym at) (by (eqb psm 0x0001))
  where
    P : Client → Type 0
    P d = (phase d.stage ≡ Aside) ⊎ (phase d.stage ≡ Searching)

    by : (b : Bool) → P (cond b (hears_reply sdu c) c)
    by true = found_phase (found_at c.query sdu) (record c { query = after_reply c.query sdu }) at
    by false = inr (ap phase at)

module _ (settings : Settings) (party : Party) (list : List Occurrence) (pdu : List ℕ) (p : ClientProfile) where
  abbrev wanted : Policy
  wanted = policy settings false

  abbrev run : Run
  run = run_of wanted list

  abbrev then : Run
  then = run_on wanted run (Comes pdu)

  abbrev c : Client
  c = p.client

  abbrev u : Up
  u = up (channel_of pdu) pdu run.value

  goes : (K : Channels → Type 0) → Fine K → K run.value → K then.value
  goes K fine k = comes-fine K fine wanted (λ psm. refl) pdu run.value k

  -- ---- what is read then

  -- of the channel that it had, on which a reply comes in
  module _ (one : Held) (held_is : run.value.held ≡ one ∷ []) (psm_is : one.psm ≡ 0x0001) (waits : (channel : Channel) → channel.own ≡ one.own → waiting_on channel run.said ≡ awaited c.query) (so_far : SoFar run c.query.joined)
      (sdu : List ℕ) (spoke : (n : ℕ) → n ≡ one.own → exchanged_in n (Comes pdu) run.value ≡ came sdu) where
    unfinished_then : (channel : Channel) → channel.own ≡ one.own → unfinished_of (spoken_on channel then.said) ≡ unfinished_with c.query sdu
    unfinished_then channel own =
        unfinished_on settings list (Comes pdu) one channel held_is psm_is own tt
        ∙ (ap₂ (λ octets w. unfinished_after octets (parts_from w (exchanged_in channel.own (Comes pdu) run.value))) (so_far one held_is channel own) (waits channel own)
        ∙ ap (λ l. unfinished_after c.query.joined (parts_from (awaited c.query) l)) (spoke channel.own own))

    answers_then : (channel : Channel) → channel.own ≡ one.own → mode_of channel then.said ≡ Basic → answers_in (spoken party channel then.said) ≡ answers_in (spoken_on channel run.said) ++ answers_now (awaited c.query) c.query.joined (came sdu)
    answers_then channel own mode =
        ap answers_in (basic-spoken party channel then.said mode ∙ (spoken_more settings list (Comes pdu) one channel held_is psm_is own tt ∙ ap (λ l. spoken_on channel run.said ++ l) (spoke channel.own own)))
        ∙ (link-answers_grow.sdus (spoken_on channel run.said) (came sdu)
        ∙ ap₂ (λ w octets. answers_in (spoken_on channel run.said) ++ answers_now w octets (came sdu)) (waits channel own) (so_far one held_is channel own))

    told_then : (target : Target) → AllSpoken then.said → ServiceEntry then one.own → Tells target (answers_now (awaited c.query) c.query.joined (came sdu)) → IsTold party then.said target
    told_then target said service tells test is =
        subst (λ l. list_any test (services.targets_told party l) ≡ true) (sym (all_passed then.said said))
        (any_kept test target_in (service_answers party then.said)
        ∙ (any_within passes (λ (e : Entry). channel_answers party then.said e.channel) entries
        ∙ any-other (λ (e : Entry). eqb e.channel.own one.own) (λ (e : Entry). list_any passes (channel_answers party then.said e.channel)) entries service.entry service.found one_passes))
      where
        entries : List Entry
        entries = (reading then.said).entries

        channel : Channel
        channel = service.entry.channel

        passes : List ℕ → Bool
        passes answer = holds test (target_in answer)

        before : List (List ℕ)
        before = answers_in (spoken_on channel run.said)

        one_passes : list_any passes (channel_answers party then.said channel) ≡ true
        one_passes =
            ap (λ b. list_any passes (cond b (answers_in (spoken party channel then.said)) [])) (eq-eqb channel.psm 0x0001 service.psm_is)
            ∙ (ap (list_any passes) (answers_then channel (read-own one.own entries service.entry service.found) service.mode_is ∙ ap (λ l. before ++ l) tells.only)
            ∙ (list_any-append passes before (tells.answer ∷ []) ∙ or_right (list_any passes before) (list_any passes (tells.answer ∷ [])) (ap (λ b. b || false) (ap (holds test) tells.heard_is ∙ is))))

  -- ---- the reply

  -- it knows what it was told, and holds what its talk has so far
  pub record Heard (d : Client) : Type 0 where
    pub knows : Knows party c run.said → Knows party d then.said
    pub joins : Joins d then

  module _ (clean : Clean c run.value) (now : Clean c then.value) (so : Of wanted p.endpoints p.submitted run c) (at : c.stage ≡ Search) (said : AllSpoken then.said) (joins : Joins c run) (own psm : ℕ) (sdu : List ℕ) (is : u ≡ Received own psm sdu) where
    abbrev heard : Client
    heard = record c { query = after_reply c.query sdu }

    some_psm : (n : ℕ) → Some n ≡ Some 0x0001 → n ≡ 0x0001
    some_psm n same = cc

    so_far : SoFar run c.query.joined
    so_far = subst (λ s. JoinsIn (phase s) c.query.joined run) at joins

    module _ (one : Held) (held_is : run.value.held ≡ one ∷ []) (psm_one : one.psm ≡ 0x0001) (on : OnSearch wanted p.endpoints p.submitted true (not c.given) true (awaited c.query) run one) (own_is : own ≡ one.own) (psm_is : psm ≡ 0x0001) (service : ServiceEntry then one.own) where
      spoke : (n : ℕ) → n ≡ one.own → exchanged_in n (Comes pdu) run.value ≡ came sdu
      spoke n same = ap (λ x. heard_in n x ++ []) is ∙ ap (λ b. cond b (spoken_as Into sdu ∷ []) [] ++ []) (eq-eqb own n (own_is ∙ sym same))

      waits : (channel : Channel) → channel.own ≡ one.own → waiting_on channel run.said ≡ awaited c.query
      waits channel mine = on.waits_so refl channel mine

      same_own : (next : Held) → then.value.held ≡ next ∷ [] → next.own ≡ one.own
      same_own next next_is =
          let it = went settings list c then.value next goes (ap (λ s. in_use s c.psm) at) (ap is_asking_features at) clean now next_is in
          let lists : it.one ∷ [] ≡ one ∷ [] = sym it.held_is ∙ held_is in
          let same : it.one ≡ one = cc in it.same ∙ ap (λ (h : Held). h.own) same

      far : (octets : List ℕ) → unfinished_with c.query sdu ≡ octets → SoFar then octets
      far octets goes_so next next_is channel mine = unfinished_then one held_is psm_one waits so_far sdu spoke channel (mine ∙ same_own next next_is) ∙ goes_so

      -- it holds what came, where it searches on
      on_joins : (d : Client) → d.stage ≡ Search → d.query ≡ after_reply c.query sdu → unfinished_with c.query sdu ≡ (after_reply c.query sdu).joined → Joins d then
      on_joins d to same goes_so = subst (λ s. JoinsIn (phase s) d.query.joined then) (sym to) (far d.query.joined (goes_so ∙ ap (λ (q : Asking). q.joined) (sym same)))

      aside_joins : (d : Client) → phase d.stage ≡ Aside → Joins d then
      aside_joins d aside = subst (λ x. JoinsIn x d.query.joined then) (sym aside) tt

      found_joins : (found : Found) → ReplyReads c.query sdu found → Joins (finds found heard) then
      found_joins More reads = on_joins (finds More heard) at refl reads
      found_joins (Service target) reads = aside_joins (finds (Service target) heard) (way_aside heard.transport target heard at)
      found_joins NoService reads = aside_joins (finds NoService heard) (ends_aside outcomes.NoService heard at)
      found_joins (Refused BadReply) reads = aside_joins (finds (Refused BadReply) heard) (ends_aside _ heard at)
      found_joins (Refused (ErrorCode code)) reads = aside_joins (finds (Refused (ErrorCode code)) heard) (ends_aside _ heard at)
      found_joins (Refused WrongTransaction) reads = on_joins heard at refl (reads refl)
      found_joins (Refused TooLong) reads = aside_joins (finds (Refused TooLong) heard) (ends_aside _ heard at)

      found_told : (found : Found) → ReplyReads c.query sdu found → AllByRecursion (IsTold party then.said) (found_in found)
      found_told More reads = tt
      found_told (Service target) reads = (told_then one held_is psm_one waits so_far sdu spoke target said service reads, tt)
      found_told NoService reads = tt
      found_told (Refused reason) reads = tt

      all_told : (b : Bool) → AllByRecursion (IsTold party then.said) (cond b (found_in (found_at c.query sdu)) [])
      all_told true = found_told (found_at c.query sdu) (reply_reads c.query sdu)
      all_told false = tt

      replied : Heard (hears_news (events.Sdu psm sdu) c)
      replied = record {
        knows = λ knows. knows_deed party (Hears (events.Sdu psm sdu)) c then.said (all_told (is_search c.stage && eqb psm 0x0001)) (knows_more party c run.said _ knows);
        joins = subst (λ d. Joins d then) (sym (ap (λ s. sdu_at s psm sdu c) at ∙ ap (λ b. cond b (hears_reply sdu c) c) (eq-eqb psm 0x0001 psm_is))) (found_joins (found_at c.query sdu) (reply_reads c.query sdu));
      }

    -- one that is open has an endpoint of the peer
    peer_there : (wanted' : Policy) (frees : Bool) (next : Held) → is_alive next.stage ≡ true → IsReady wanted' true frees next → (peer : ℕ) × (peer_of next.stage ≡ Some peer)
    peer_there wanted' frees next = by next.stage
      where
        by : (stage : Held_stage) → is_alive stage ≡ true → StageKeeps (Ready true frees) (wanted'.wish next.psm) stage → (peer : ℕ) × (peer_of stage ≡ Some peer)
        by (Requested request) alive ready = let never : false ≡ true = ready.0 refl in absurd cc
        by (Connected peer setup) alive ready = (peer, refl)
        by (Leaving peer setup request) alive ready = (peer, refl)
        by (Closing peer request checked) alive ready = cc
        by (Crossed peer request) alive ready = cc

    read_then : (next : Held) → then.value.held ≡ next ∷ [] → next.psm ≡ 0x0001 → (peer : ℕ) → peer_of next.stage ≡ Some peer → ServiceEntry then next.own
    read_then next next_is psm_next peer peer_is =
        let behind : run_of wanted (list ++ Comes pdu ∷ []) ≡ then = fold-append (run_on wanted) new_link list (Comes pdu ∷ []) in
        subst (λ r. ServiceEntry r next.own) behind (service_entry settings (list ++ Comes pdu ∷ []) next peer (ap (λ (r : Run). r.value.held) behind ∙ next_is) psm_next peer_is)

    pub replies : Heard (hears_news (events.Sdu psm sdu) c)
    replies =
        let was = of_at wanted p.endpoints p.submitted run Search c at so in
        let (asking, next, next_is, later) = searched settings list (Comes pdu) p goes tt tt at clean now was in
        let it = went settings list c then.value next goes (ap (λ s. in_use s c.psm) at) (ap is_asking_features at) clean now next_is in
        let lists : it.one ∷ [] ≡ was.1 ∷ [] = sym it.held_is ∙ was.2 in
        let same : it.one ≡ was.1 = cc in
        let psm_one : was.1.psm ≡ 0x0001 = ap (λ (h : Held). h.psm) (sym same) ∙ it.psm_is in
        let has = has_one c then.value next (ap is_asking_features at) next_is now in
        let psm_next : next.psm ≡ 0x0001 = ap (λ (h : Held). h.psm) (sym has.is) ∙ (has.live.psm_is ∙ some_psm has.psm (sym has.uses.used ∙ ap (λ s. in_use s c.psm) at)) in
        let (peer, peer_is) = peer_there wanted (not c.given) next (one_alive c then.value next has) later.ready in
        let service = subst (ServiceEntry then) (it.same ∙ ap (λ (h : Held). h.own) same) (read_then next next_is psm_next peer peer_is) in
        by was.1 was.2 psm_one was.3 service (up_one settings list was.1 pdu was.2 psm_one)
      where
        by : (one : Held) → run.value.held ≡ one ∷ [] → one.psm ≡ 0x0001 → OnSearch wanted p.endpoints p.submitted true (not c.given) true (awaited c.query) run one → ServiceEntry then one.own → Hands settings one pdu u → Heard (hears_news (events.Sdu psm sdu) c)
        by one held_is psm_one on service (inl none) = let never : Nothing ≡ Received own psm sdu = sym none ∙ is in absurd cc
        by one held_is psm_one on service (inr hands) =
            let both : Received own psm sdu ≡ Received one.own one.psm (drop 4 pdu) = sym is ∙ hands in
            let own_is : own ≡ one.own = cc in
            let psm_is : psm ≡ one.psm = cc in
            replied one held_is psm_one on own_is (psm_is ∙ psm_one) service
