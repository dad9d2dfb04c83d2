-- A client goes by what it was told: what it knows stays so with all that happens on its link but for its own steps.
use Rattle.std.proofs.Common.{◌≡◌, ℕ, List, [], ◌∷◌, ◌++◌, drop, fold, Bool, true, false, cond, eqb, Option, Some, None, refl, sym, ap, subst, ◌∙◌, ◌⊎◌, inl, inr, append-nil}
use Rattle.shelf_model.specs.acl_fragments.specs.Pieces.{channel_of}
use Rattle.shelf_model.specs.bt_base.specs.declared.settings.Settings.{Settings}
use Rattle.push_laws.specs.link_talk.specs.declared.channel.Channel.{Channel}
use Rattle.push_laws.specs.link_talk.specs.declared.party.Party.{Party}
use Rattle.push_laws.specs.link_talk.specs.Sayings.{Saying}
use Rattle.push_laws.specs.link_talk.specs.ServiceAnswers.{parts_from}
use Rattle.shelf_model.specs.sdp_client.specs.Asking.{Asking, begun}
use Rattle.channel_laws.specs.channel_model.specs.declared.event.ChannelEvent.{ChannelEvent}
use Rattle.channel_laws.specs.channel_model.specs.declared.event.ChannelEvent.TheVariants.{Opened, Closed, Features as FeaturesAre, FeaturesLost, DisconnectLost}
use Rattle.channel_laws.specs.channel_model.specs.Calls.{peer_mtu, waits}
use Rattle.channel_laws.specs.channel_model.specs.Carrying.{Up, Nothing, Received}
use Rattle.channel_laws.specs.channel_model.specs.Hearing.{up}
use Rattle.channel_laws.specs.channel_model.specs.Policies.{Policy, policy}
use Rattle.channel_laws.specs.channel_model.specs.Value.{Held, Channels}
use Rattle.channel_laws.specs.Exchanged.{heard_in, exchanged_in}
use Rattle.channel_laws.specs.Frames.{IsUttered}
use Rattle.channel_laws.specs.Runs.{Occurrence, Comes, Tells, said_in, value_after, Run, run_on, run_of}
use Rattle.channel_laws.proofs.Exchanged.{spoken_on}
use Rattle.channel_laws.specs.talk_laws.specs.LinkAnswers.{unfinished_of}
use Rattle.push_laws.specs.push_model.specs.declared.closing.CloseCause.{CloseCause}
use Rattle.push_laws.specs.push_model.specs.declared.course.Point.TheVariants.{Due, Asked}
use Rattle.push_laws.specs.push_model.specs.declared.course.Stage.{Stage}
use Rattle.push_laws.specs.push_model.specs.declared.course.Stage.TheVariants.{Rest, Link, SearchChannel, Search, SearchEnd, Features, ObjectChannel, Object, ObjectEnd, LinkEnd, Over}
use Rattle.push_laws.specs.push_model.specs.Client.{Client, cancelled}
use Rattle.push_laws.specs.push_model.specs.Events as events
use Rattle.push_laws.specs.push_model.specs.Events.{hears_news, opened_at}
use Rattle.push_laws.specs.push_model.specs.Laws.{Hears, Finishes, Cancels, done}
use Rattle.shelf_model.specs.world_model.specs.Machines.{News, Linked, Failed, Heard as HeardPdu, TimerFired, Cancelled, Opening as OpeningNews}
use Rattle.shelf_model.specs.host_model.specs.Circumstances.{Circumstance}
use Rattle.shelf_model.specs.host_model.specs.Hosts.{handed}
use Rattle.shelf_model.specs.host_model.specs.Profiles.{Profile}
use Rattle.shelf_model.specs.host_model.specs.Clients as clients
use Rattle.shelf_model.specs.host_model.specs.Clients.{ClientProfile, client_profile, ended, opened_by, closed_by, cause_of, event_heard, sent_on}
use Rattle.host_laws.specs.Asked.{IsOfLink}
use Rattle.host_laws.specs.Calls.{Asks}
use Rattle.host_laws.specs.Leaving.{is_closing, is_off}
use Rattle.host_laws.specs.Woven.{told_next}
use Rattle.host_laws.proofs.Changes.{Fine, comes-fine}
use Rattle.host_laws.proofs.Faces.{Goes, heard_goes, heard_off, timer_goes, timer_off, cancelled_goes, cancelled_off}
use Rattle.host_laws.proofs.Forgoing.{AllSpoken, both_spoken, said_spoken}
use Rattle.host_laws.proofs.KeepingClients as keeping
use Rattle.host_laws.proofs.KeepingClients.{TellsFirst, Result, event_fatal, clean_quiet}
use Rattle.host_laws.proofs.Knowing.{Knows, knows_more, knows_deed, Passes, passes_same, passes_deed, heard_none, SoFar, JoinsIn, Joins, Seeks, joins_on, so_far_stays}
use Rattle.host_laws.proofs.OneChannel.{notes}
use Rattle.host_laws.proofs.Phases.{Phase, Linking, Opening, Searching, Carrying, Aside, phase, Moved, still}
use Rattle.host_laws.proofs.Searching.{waiting_on, Of, of_at}
use Rattle.host_laws.proofs.SearchingTold as seeing
use Rattle.host_laws.proofs.SearchingTold.{Sees, ended_off, ended_same}
use Rattle.host_laws.proofs.ServiceHeard.{reply_phase, replies}
use Rattle.host_laws.proofs.StandingClients.{Clean, Lives, Ends, Idle, Waits, Told, Fatal, Shut, Missed, most, fatal_keeps, fatal-fine, fine_clean, event_off}

-- ---- stages

pub searches_or : (s : Stage) → (s ≡ Search) ⊎ (s ≡ Search → ⊥)
searches_or Search = inl refl
searches_or Rest = inr (λ is. cc)
searches_or (Link point) = inr (λ is. cc)
searches_or (SearchChannel point) = inr (λ is. cc)
searches_or (SearchEnd point) = inr (λ is. cc)
searches_or (Features point) = inr (λ is. cc)
searches_or (ObjectChannel point) = inr (λ is. cc)
searches_or Object = inr (λ is. cc)
searches_or (ObjectEnd point) = inr (λ is. cc)
searches_or (LinkEnd point) = inr (λ is. cc)
searches_or Over = inr (λ is. cc)

pub opens_or : (s : Stage) → (s ≡ SearchChannel Asked) ⊎ (s ≡ SearchChannel Asked → ⊥)
opens_or (SearchChannel Asked) = inl refl
opens_or (SearchChannel Due) = inr (λ is. cc)
opens_or Search = inr (λ is. cc)
opens_or Rest = inr (λ is. cc)
opens_or (Link point) = inr (λ is. cc)
opens_or (SearchEnd point) = inr (λ is. cc)
opens_or (Features point) = inr (λ is. cc)
opens_or (ObjectChannel point) = inr (λ is. cc)
opens_or Object = inr (λ is. cc)
opens_or (ObjectEnd point) = inr (λ is. cc)
opens_or (LinkEnd point) = inr (λ is. cc)
opens_or Over = inr (λ is. cc)

-- one that seeks, and does not search, has its channel asked for
pub seeks_opening : (s : Stage) → (s ≡ Search → ⊥) → Seeks (phase s) → s ≡ SearchChannel Asked
seeks_opening (SearchChannel Asked) apart seeks = refl
seeks_opening (SearchChannel Due) apart seeks = absurd seeks
seeks_opening Search apart seeks = absurd (apart refl)
seeks_opening Rest apart seeks = absurd seeks
seeks_opening (Link point) apart seeks = absurd seeks
seeks_opening (SearchEnd point) apart seeks = absurd seeks
seeks_opening (Features point) apart seeks = absurd seeks
seeks_opening (ObjectChannel Due) apart seeks = absurd seeks
seeks_opening (ObjectChannel Asked) apart seeks = absurd seeks
seeks_opening Object apart seeks = absurd seeks
seeks_opening (ObjectEnd point) apart seeks = absurd seeks
seeks_opening (LinkEnd point) apart seeks = absurd seeks
seeks_opening Over apart seeks = absurd seeks

-- a search that stands well is told of no loss
pub search_lost : (c : Client) (v : Channels) → c.stage ≡ Search → Clean c v → Fatal c v → ⊥
search_lost c v at (Lives psm asked leaving uses live) (Shut own other reason more used why told) = let never : [] ≡ _ = sym live.none ∙ told in cc
search_lost c v at (Lives psm asked leaving uses live) (Missed asks missed) = let never : true ≡ false = sym asks ∙ ap events.is_asking_features at in cc
search_lost c v at (Ends psm own used closes bare) fatal = let never : true ≡ false = sym closes ∙ ap is_closing at in cc
search_lost c v at (Idle bare) (Shut own other reason more used why told) = let never : [] ≡ _ = sym bare.notes_are ∙ told in cc
search_lost c v at (Idle bare) (Missed asks missed) = let never : true ≡ false = sym asks ∙ ap events.is_asking_features at in cc
search_lost c v at (Waits asks waiting) fatal = let never : true ≡ false = sym asks ∙ ap events.is_asking_features at in cc
search_lost c v at (Told asks features bare) fatal = let never : true ≡ false = sym asks ∙ ap events.is_asking_features at in cc

module _ (settings : Settings) (party : Party) (asks : Asks (client_profile settings)) where
  abbrev wanted : Policy
  wanted = policy settings false

  abbrev A : Profile ClientProfile
  A = client_profile settings

  -- ---- how it stands

  pub data Holds (p : ClientProfile) (run : Run) : Type 0 where
    Away : is_off p.client.stage ≡ true → Holds p run
    -- a loss is to be told, and what it has to do with its object was told
    Lost : Fatal p.client run.value → (phase p.client.stage ≡ Carrying → Knows party p.client run.said) → Holds p run
    Sure : Knows party p.client run.said → Joins p.client run → Holds p run

  -- what it carries still it carried
  pub carried : (c d : Client) → Moved c d → phase d.stage ≡ Carrying → phase c.stage ≡ Carrying
  carried c d (inl aside) carrying = let never : Aside ≡ Carrying = sym aside ∙ carrying in cc
  carried c d (inr (same, query)) carrying = sym same ∙ carrying

  pub lost_goes : (p q : ClientProfile) (run then : Run) (more : List Saying) → then.said ≡ run.said ++ more → Passes party p.client q.client → (is_off q.client.stage ≡ true) ⊎ Fatal q.client then.value → (phase p.client.stage ≡ Carrying → Knows party p.client run.said) → Holds q then
  lost_goes p q run then more is passes (inl off) knows = Away off
  lost_goes p q run then more is passes (inr fatal) knows =
      Lost fatal (λ carrying. subst (Knows party q.client) (sym is) (knows_more party q.client run.said more (passes.knows run.said (knows (carried p.client q.client passes.moved carrying)))))

  kept : (c d : Client) (v : Channels) → Goes c d → Fatal c v → (is_off d.stage ≡ true) ⊎ Fatal d v
  kept c d v (inl off) fatal = inl off
  kept c d v (inr keeps) fatal = inr (fatal_keeps c d v (most c d keeps) fatal)

  -- ---- it hears an SDU

  module _ (list : List Occurrence) (pdu : List ℕ) (p : ClientProfile) where
    abbrev heard_run : Run
    heard_run = run_of wanted list

    abbrev heard_then : Run
    heard_then = run_on wanted heard_run (Comes pdu)

    abbrev c : Client
    c = p.client

    abbrev u : Up
    u = up (channel_of pdu) pdu heard_run.value

    abbrev more : List Saying
    more = said_in wanted (Comes pdu) heard_run.value

    goes : (K : Channels → Type 0) → Fine K → K heard_run.value → K heard_then.value
    goes K fine k = comes-fine K fine wanted (λ psm. refl) pdu heard_run.value k

    handed_off : (x : Up) → is_off c.stage ≡ true → Holds (handed A x p) heard_then
    handed_off Nothing off = Away off
    handed_off (Received own psm sdu) off = Away (heard_off psm sdu c off)

    handed_lost : (x : Up) → Fatal c heard_then.value → (phase c.stage ≡ Carrying → Knows party c heard_run.said) → Holds (handed A x p) heard_then
    handed_lost Nothing fatal knows = lost_goes p p heard_run heard_then more refl (passes_same party c) (inr fatal) knows
    handed_lost (Received own psm sdu) fatal knows = by (searches_or c.stage)
      where
        d : Client
        d = hears_news (events.Sdu psm sdu) c

        later : (is_off d.stage ≡ true) ⊎ Fatal d heard_then.value
        later = kept c d heard_then.value (heard_goes psm sdu c) fatal

        never : phase d.stage ≡ Carrying → (phase d.stage ≡ Aside) ⊎ (phase d.stage ≡ Searching) → Knows party d heard_then.said
        never carrying (inl aside) = let no : Aside ≡ Carrying = sym aside ∙ carrying in cc
        never carrying (inr searching) = let no : Searching ≡ Carrying = sym searching ∙ carrying in cc

        on : c.stage ≡ Search → (is_off d.stage ≡ true) ⊎ Fatal d heard_then.value → Holds (handed A (Received own psm sdu) p) heard_then
        on at (inl off) = Away off
        on at (inr now) = Lost now (λ carrying. never carrying (reply_phase psm sdu c at))

        by : (c.stage ≡ Search) ⊎ (c.stage ≡ Search → ⊥) → Holds (handed A (Received own psm sdu) p) heard_then
        by (inl at) = on at later
        by (inr apart) = lost_goes p (handed A (Received own psm sdu) p) heard_run heard_then more refl (passes_deed party (Hears (events.Sdu psm sdu)) c apart) later knows

    module _ (clean : Clean c heard_run.value) (now : Clean c heard_then.value) (so : Of wanted p.endpoints p.submitted heard_run c) (knows : Knows party c heard_run.said) (joins : Joins c heard_run) where
      -- nothing that is a part of an answer comes in
      stays : ((one : Held) → heard_run.value.held ≡ one ∷ [] → (channel : Channel) → channel.own ≡ one.own → parts_from (waiting_on channel heard_run.said) (exchanged_in channel.own (Comes pdu) heard_run.value) ≡ []) → Seeks (phase c.stage) → (octets : List ℕ) → SoFar heard_run octets → SoFar heard_then octets
      stays none seeks = so_far_stays settings list (Comes pdu) c goes tt clean now seeks none

      -- ahead of its search no request waits
      opening_none : (c.stage ≡ SearchChannel Asked) → (one : Held) → heard_run.value.held ≡ one ∷ [] → (channel : Channel) → channel.own ≡ one.own → parts_from (waiting_on channel heard_run.said) (exchanged_in channel.own (Comes pdu) heard_run.value) ≡ []
      opening_none at one held_is channel own =
          let (new, empty, free, only) = of_at wanted p.endpoints p.submitted heard_run (SearchChannel Asked) c at so in
          ap (λ w. parts_from w (exchanged_in channel.own (Comes pdu) heard_run.value)) ((only one held_is).waits_so refl channel own) ∙ heard_none channel.own u

      -- it gave nothing up
      all_spoken : c.stage ≡ Search → keeping.Stands settings asks c heard_run → AllSpoken heard_then.said
      all_spoken at (keeping.Off off) = let never : true ≡ false = sym off ∙ ap is_off at in cc
      all_spoken at (keeping.Doomed fatal) = absurd (search_lost c heard_run.value at clean fatal)
      all_spoken at (keeping.Well other spoken) = both_spoken heard_run.said more spoken (said_spoken true wanted (Comes pdu) heard_run.value tt (λ ends. cc) (clean_quiet c heard_then.value now))

      handed_sure : (x : Up) → u ≡ x → keeping.Stands settings asks c heard_run → Holds (handed A x p) heard_then
      handed_sure Nothing is stands = Sure (knows_more party c heard_run.said more knows) (joins_on c c heard_run heard_then (still c) (stays (λ one held_is channel own. ap (λ x. parts_from (waiting_on channel heard_run.said) (heard_in channel.own x ++ [])) is)) joins)
      handed_sure (Received own psm sdu) is stands = by (searches_or c.stage)
        where
          by : (c.stage ≡ Search) ⊎ (c.stage ≡ Search → ⊥) → Holds (handed A (Received own psm sdu) p) heard_then
          by (inl at) = let it = replies settings party list pdu p clean now so at (all_spoken at stands) joins own psm sdu is in Sure (it.knows knows) it.joins
          by (inr apart) =
              let passes = passes_deed party (Hears (events.Sdu psm sdu)) c apart in
              Sure (passes.knows heard_then.said (knows_more party c heard_run.said more knows))
              (joins_on c (hears_news (events.Sdu psm sdu) c) heard_run heard_then passes.moved (λ seeks. stays (opening_none (seeks_opening c.stage apart seeks)) seeks) joins)

    pub hearing : Sees settings p heard_run → keeping.Stands settings asks c heard_run → Holds p heard_run → Holds (handed A u p) heard_then
    hearing sees stands (Away off) = handed_off u off
    hearing sees stands (Lost fatal knows) = handed_lost u (goes (Fatal c) (fatal-fine c) fatal) knows
    hearing (seeing.Off off) stands (Sure knows joins) = handed_off u off
    hearing (seeing.Doomed fatal) stands (Sure knows joins) = handed_lost u (goes (Fatal c) (fatal-fine c) fatal) (λ carrying. knows)
    hearing (seeing.Well clean so) stands (Sure knows joins) = by (fine_clean c heard_run.value heard_then.value goes clean)
      where
        by : Clean c heard_then.value ⊎ Fatal c heard_then.value → Holds (handed A u p) heard_then
        by (inl now) = handed_sure clean now so knows joins u refl stands
        by (inr fatal) = handed_lost u fatal (λ carrying. knows)

  -- ---- a PDU is given, the timer fires

  pub changes : (list : List Occurrence) (more : Occurrence) (p : ClientProfile) → (let run = run_of wanted list in ((K : Channels → Type 0) → Fine K → K run.value → K (value_after wanted more run.value)) → IsUttered more run.value → ((own : ℕ) → exchanged_in own more run.value ≡ [])
      → Sees settings p run → Holds p run → Holds p (run_on wanted run more))
  changes list more p goes uttered quiet sees holds = on sees holds
    where
      run : Run
      run = run_of wanted list

      then : Run
      then = run_on wanted run more

      c : Client
      c = p.client

      said : List Saying
      said = said_in wanted more run.value

      lost : Fatal c then.value → (phase c.stage ≡ Carrying → Knows party c run.said) → Holds p then
      lost fatal knows = lost_goes p p run then said refl (passes_same party c) (inr fatal) knows

      stays : Clean c run.value → Clean c then.value → Seeks (phase c.stage) → (octets : List ℕ) → SoFar run octets → SoFar then octets
      stays clean now seeks = so_far_stays settings list more c goes uttered clean now seeks (λ one held_is channel own. ap (parts_from (waiting_on channel run.said)) (quiet channel.own))

      on : Sees settings p run → Holds p run → Holds p then
      on sees' (Away off) = Away off
      on sees' (Lost fatal knows) = lost (goes (Fatal c) (fatal-fine c) fatal) knows
      on (seeing.Off off) (Sure knows joins) = Away off
      on (seeing.Doomed fatal) (Sure knows joins) = lost (goes (Fatal c) (fatal-fine c) fatal) (λ carrying. knows)
      on (seeing.Well clean so) (Sure knows joins) = by (fine_clean c run.value then.value goes clean)
        where
          by : Clean c then.value ⊎ Fatal c then.value → Holds p then
          by (inl now) = Sure (knows_more party c run.said said knows) (joins_on c c run then (still c) (stays clean now) joins)
          by (inr fatal) = lost fatal (λ carrying. knows)

  -- ---- it is told what happened

  -- its search begins
  record Begins (c d : Client) : Type 0 where
    at : c.stage ≡ SearchChannel Asked
    to : d.stage ≡ Search
    query_is : d.query ≡ c.query
    knows : (said : List Saying) → Knows party c said → Knows party d said

  abbrev Turns : (c d : Client) → Type 0
  Turns c d = Passes party c d ⊎ Begins c d

  opened_turns : (mtu : Option ℕ) (psm : ℕ) (c : Client) → Turns c (opened_by mtu psm c)
  opened_turns None psm c = inl (passes_same party c)
  opened_turns (Some mtu) psm c = by (opens_or c.stage)
    where
      d : Client
      d = hears_news (events.ChannelOpen psm mtu) c

      knows : (said : List Saying) → Knows party c said → Knows party d said
      knows said so = knows_deed party (Hears (events.ChannelOpen psm mtu)) c said tt so

      at_channel : (b : Bool) → (c.stage ≡ SearchChannel Asked) → d ≡ cond b (record c { stage = Search }) c → Turns c d
      at_channel true at is = inr (record { at = at; to = ap (λ (x : Client). x.stage) is; query_is = ap (λ (x : Client). x.query) is; knows = knows })
      at_channel false at is = inl (subst (Passes party c) (sym is) (passes_same party c))

      by : (c.stage ≡ SearchChannel Asked) ⊎ (c.stage ≡ SearchChannel Asked → ⊥) → Turns c d
      by (inl at) = at_channel (eqb psm 0x0001) at (ap (λ s. opened_at s psm mtu c) at)
      by (inr apart) = inl (passes_deed party (Hears (events.ChannelOpen psm mtu)) c apart)

  closed_turns : (cause : Option CloseCause) (psm : ℕ) (c : Client) → Turns c (closed_by cause psm c)
  closed_turns None psm c = inl (passes_same party c)
  closed_turns (Some cause) psm c = inl (passes_deed party (Hears (events.ChannelClosed psm cause)) c tt)

  event_turns : (event : ChannelEvent) (u : Channels) (c : Client) → Turns c (event_heard event u c)
  event_turns (Opened own psm) u c = opened_turns (peer_mtu own u) psm c
  event_turns (Closed own psm reason) u c = closed_turns (cause_of reason) psm c
  event_turns (FeaturesAre features) u c = inl (passes_deed party (Hears events.FeaturesTold) c tt)
  event_turns FeaturesLost u c = inl (passes_deed party (Hears events.FeaturesLost) c tt)
  event_turns (DisconnectLost own) u c = inl (passes_same party c)

  module _ (list : List Occurrence) (p : ClientProfile) where
    abbrev told_run : Run
    told_run = run_of wanted list

    abbrev told_then : Run
    told_then = run_on wanted told_run Tells

    abbrev tc : Client
    tc = p.client

    tells_far : (octets : List ℕ) → SoFar told_run octets → SoFar told_then octets
    tells_far octets so one held_is channel own = subst (λ said. unfinished_of (spoken_on channel said) ≡ octets) (sym (append-nil told_run.said)) (so one held_is channel own)

    tells_sure : (q : ClientProfile) → Turns tc q.client → (tc.stage ≡ SearchChannel Asked → tc.query ≡ begun) → Knows party tc told_run.said → Joins tc told_run → Holds q told_then
    tells_sure q (inl passes) new knows joins = Sure (passes.knows told_then.said (knows_more party tc told_run.said [] knows)) (joins_on tc q.client told_run told_then passes.moved (λ seeks. tells_far) joins)
    tells_sure q (inr begins) new knows joins =
        let d = q.client in
        let fresh : SoFar told_run [] = subst (λ s. JoinsIn (phase s) tc.query.joined told_run) begins.at joins in
        let none : [] ≡ d.query.joined = ap (λ (x : Asking). x.joined) (sym (begins.query_is ∙ new begins.at)) in
        Sure (begins.knows told_then.said (knows_more party tc told_run.said [] knows)) (subst (λ s. JoinsIn (phase s) d.query.joined told_then) (sym begins.to) (subst (SoFar told_then) none (tells_far [] fresh)))

    tells_lost : (q : ClientProfile) → Turns tc q.client → (is_off q.client.stage ≡ true) ⊎ Fatal q.client told_then.value → (phase tc.stage ≡ Carrying → Knows party tc told_run.said) → Holds q told_then
    tells_lost q (inl passes) later knows = lost_goes p q told_run told_then [] refl passes later knows
    tells_lost q (inr begins) (inl off) knows = Away off
    tells_lost q (inr begins) (inr fatal) knows = Lost fatal (λ carrying. let never : Searching ≡ Carrying = sym (ap phase begins.to) ∙ carrying in cc)

    well_new : Of wanted p.endpoints p.submitted told_run tc → tc.stage ≡ SearchChannel Asked → tc.query ≡ begun
    well_new so at = (of_at wanted p.endpoints p.submitted told_run (SearchChannel Asked) tc at so).0

    pub telling : Sees settings p told_run → Holds p told_run → Holds (told_next A told_run.value.events told_run.value p) told_then
    telling sees holds = by told_run.value.events refl
      where
        v : Channels
        v = told_run.value

        w : Channels
        w = value_after wanted Tells v

        by : (found : List ChannelEvent) → v.events ≡ found → Holds (told_next A found v p) told_then
        by [] is = none sees holds
          where
            same_value : v ≡ w
            same_value = ap (λ (l : List ChannelEvent). let x : Channels = record v { events = l } in x) (is ∙ sym (ap (drop 1) is))

            lost : Fatal tc v → (phase tc.stage ≡ Carrying → Knows party tc told_run.said) → Holds p told_then
            lost fatal knows = tells_lost p (inl (passes_same party tc)) (inr (subst (Fatal tc) same_value fatal)) knows

            none : Sees settings p told_run → Holds p told_run → Holds p told_then
            none sees' (Away off) = Away off
            none sees' (Lost fatal knows) = lost fatal knows
            none (seeing.Off off) (Sure knows joins) = Away off
            none (seeing.Doomed fatal) (Sure knows joins) = lost fatal (λ carrying. knows)
            none (seeing.Well clean so) (Sure knows joins) = tells_sure p (inl (passes_same party tc)) (well_new so) knows joins
        by (event ∷ rest) is = some sees holds
          where
            u : Channels
            u = record v { events = rest }

            q : ClientProfile
            q = told_next A (event ∷ rest) v p

            tells : TellsFirst v w u event rest
            tells = record { events_are = is; held_is = refl; features_are = refl; rest_is = ap (drop 1) is; seen_is = refl }

            lost : Fatal tc v → (phase tc.stage ≡ Carrying → Knows party tc told_run.said) → Holds q told_then
            lost fatal knows = tells_lost q (event_turns event u tc) (event_fatal event rest tc v w u tells fatal) knows

            some : Sees settings p told_run → Holds p told_run → Holds q told_then
            some sees' (Away off) = Away (event_off event u tc off)
            some sees' (Lost fatal knows) = lost fatal knows
            some (seeing.Off off) (Sure knows joins) = Away (event_off event u tc off)
            some (seeing.Doomed fatal) (Sure knows joins) = lost fatal (λ carrying. knows)
            some (seeing.Well clean so) (Sure knows joins) = tells_sure q (event_turns event u tc) (well_new so) knows joins

  -- ---- nothing happens to its channels

  same_more : (p q : ClientProfile) (run : Run) → Passes party p.client q.client → (is_off p.client.stage ≡ true → is_off q.client.stage ≡ true) → (Fatal p.client run.value → (is_off q.client.stage ≡ true) ⊎ Fatal q.client run.value) → Holds p run → Holds q run
  same_more p q run passes off fatal (Away is) = Away (off is)
  same_more p q run passes off fatal (Lost now knows) = lost_goes p q run run [] (sym (append-nil run.said)) passes (fatal now) knows
  same_more p q run passes off fatal (Sure knows joins) = Sure (passes.knows run.said knows) (joins_on p.client q.client run run passes.moved (λ seeks octets so. so) joins)

  pub gifting : (circumstances : List Circumstance) (run : Run) (p : ClientProfile) → Holds p run → Holds (A.given circumstances p) run
  gifting circumstances run p (Away off) = Away off
  gifting circumstances run p (Lost fatal knows) = Lost fatal knows
  gifting circumstances run p (Sure knows joins) = Sure knows joins

  pub learning : (circumstances : List Circumstance) (news : News) (run : Run) (p : ClientProfile) → IsOfLink news → Holds p run → Holds (A.told circumstances news p) run
  learning circumstances (Linked event) run p of holds = absurd of
  learning circumstances (Failed status) run p of holds = absurd of
  learning circumstances (OpeningNews name) run p of holds = absurd of
  learning circumstances (HeardPdu pdu) run p of holds = holds
  learning circumstances TimerFired run p of holds = by (is_off p.client.stage) refl
    where
      c : Client
      c = p.client

      by : (off : Bool) → is_off c.stage ≡ off → Holds (A.told circumstances TimerFired p) run
      by true is = Away (timer_off c is)
      by false is = same_more p (A.told circumstances TimerFired p) run (passes_deed party (Hears events.Timer) c tt) (timer_off c) (kept c (hears_news events.Timer c) run.value (timer_goes c is)) holds
  learning circumstances Cancelled run p of holds = by (is_off c.stage) refl
    where
      c : Client
      c = p.client

      d : Client
      d = cancelled c

      q : ClientProfile
      q = record p { client = d }

      last : (off : Bool) → is_off d.stage ≡ off → Holds q run → Holds (A.told circumstances Cancelled p) run
      last true is holds' = Away (ended_off d is)
      last false is holds' = subst (λ (e : Client). let r : ClientProfile = record p { client = e } in Holds r run) (sym (ended_same d is)) holds'

      by : (off : Bool) → is_off c.stage ≡ off → Holds (A.told circumstances Cancelled p) run
      by true is = Away (ended_off d (cancelled_off c is))
      by false is = last (is_off d.stage) refl (same_more p q run (passes_deed party Cancels c tt) (cancelled_off c) (kept c d run.value (cancelled_goes c is)) holds)

  pub checking : (run : Run) (p : ClientProfile) → Holds p run → Holds (A.sent run.value p) run
  checking run p holds = by p.submitted
    where
      sent : ClientProfile
      sent = clients.done (record p { submitted = None })

      on : (b : Bool) → Holds (cond b p sent) run
      on true = holds
      on false = same_more p sent run (passes_deed party Finishes p.client tt) (λ off. off) (λ fatal. inr (fatal_keeps p.client sent.client run.value (record { used = refl; closes = λ is. is; asks = λ is. is; ends = λ is. is }) fatal)) holds

      by : (submitted : Option ℕ) → Holds (sent_on submitted run.value p) run
      by None = holds
      by (Some own) = on (waits own run.value)
