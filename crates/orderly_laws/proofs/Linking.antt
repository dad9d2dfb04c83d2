-- Over all links of a server each request comes behind the response to the one before, and nothing comes or goes over RFCOMM.
use Rattle.std.proofs.Common.{◌≡◌, ◌≤◌, ℕ, Bool, true, false, cond, eqb, List, [], ◌∷◌, ◌++◌, length, filter_map, Option, Some, None, refl, sym, ap, ap₂, subst, ◌∙◌, append_assoc, append-nil, arith, true≢false, inl, inr}
use Rattle.std.specs.List.{AllByRecursion}
use Rattle.std.proofs.lemmas.Bool.{eqb-true}
use Rattle.request_laws.specs.bt_base.specs.declared.settings.Settings.{Settings}
use Rattle.request_laws.specs.bt_base.specs.Objects.{Contents}
use Rattle.request_laws.specs.push_terms.specs.declared.word.Side.TheVariants as sides
use Rattle.request_laws.specs.link_talk.specs.declared.channel.Channel.{Channel}
use Rattle.request_laws.specs.link_talk.specs.Channels.{Entry, reading}
use Rattle.request_laws.specs.link_talk.specs.Sayings.{Saying}
use Rattle.request_laws.specs.channel_model.specs.declared.event.ChannelEvent.{ChannelEvent}
use Rattle.request_laws.specs.channel_model.specs.declared.event.ChannelEvent.TheVariants as events
use Rattle.request_laws.specs.channel_model.specs.Calls.{link_down}
use Rattle.request_laws.specs.channel_model.specs.Policies.{policy}
use Rattle.request_laws.specs.channel_model.specs.Value.{Channels, no_channels}
use Rattle.request_laws.specs.channel_laws.specs.Closings.{IsClosingRead}
use Rattle.request_laws.specs.channel_laws.specs.Endpoints.{IsOf}
use Rattle.request_laws.specs.channel_laws.specs.Frames.{AreUttered}
use Rattle.request_laws.specs.channel_laws.specs.Runs.{run_of}
use Rattle.request_laws.specs.channel_laws.specs.Runs as channels
use Rattle.request_laws.specs.channel_laws.specs.Singly.{AsksForNoChannel}
use Rattle.request_laws.specs.channel_laws.specs.Taken.{taken_of}
use Rattle.request_laws.specs.channel_laws.specs.Views.{channel_by, read_at}
use Rattle.request_laws.specs.channel_laws.proofs.Shutting.{closings-are_read}
use Rattle.request_laws.specs.push_model.specs.Server.{object_psm}
use Rattle.request_laws.specs.push_laws.specs.Answers.{said}
use Rattle.request_laws.specs.push_laws.specs.Occurrences.{Occurrence, Came, Went, Closed, LinkDown, Asked, Answering}
use Rattle.request_laws.specs.push_laws.specs.Parties.{sdu_if}
use Rattle.request_laws.specs.world_model.specs.Machines.{LinkEvent, Up, Down, Linked}
use Rattle.request_laws.specs.host_model.specs.Circumstances.{Circumstance}
use Rattle.request_laws.specs.host_model.specs.Profiles.{Profile}
use Rattle.request_laws.specs.host_model.specs.Servers.{ServerProfile, is_told, server_profile}
use Rattle.request_laws.specs.host_laws.specs.Calls.{Asks, values_after}
use Rattle.request_laws.specs.host_laws.specs.Fed.{WovenFed, happenings, turned_feeds, FedSpan, span_feeds, behind_span, AreFed}
use Rattle.request_laws.specs.host_laws.specs.Feeds.{Feed, Happens, Learns, fed}
use Rattle.request_laws.specs.host_laws.specs.Gaining.{IsDirect, ClosesItself, OneObjectChannel}
use Rattle.request_laws.specs.host_laws.specs.GainingOver.{IsNoPdu, CarriedOne, CarriesOne}
use Rattle.request_laws.specs.host_laws.specs.Lives.{Span, all_marks}
use Rattle.request_laws.specs.host_laws.specs.OneCarrier.{IsFor}
use Rattle.request_laws.specs.host_laws.specs.OneOnLinks.{CarriesOneOn}
use Rattle.request_laws.specs.host_laws.specs.OverLinks.{AreTimely, GoesOut}
use Rattle.request_laws.specs.host_laws.specs.Serving.{event_served, served_from}
use Rattle.request_laws.specs.host_laws.specs.Woven.{turned}
use Rattle.request_laws.specs.host_laws.proofs.Asking.{hosts_ask}
use Rattle.request_laws.specs.host_laws.proofs.Gaining.{found_in}
use Rattle.request_laws.specs.host_laws.proofs.InOrder.{asks-nothing}
use Rattle.request_laws.specs.host_laws.proofs.StrandsFed.{here_so, span_so}
use Rattle.request_laws.specs.host_laws.proofs.Telling.{events_run}
use Rattle.unit_laws.specs.scenario_laws.specs.Parties.{party_of}
use Rattle.request_laws.specs.BothFed.{IsDown}
use Rattle.request_laws.specs.HandedUp.{handed_for}
use Rattle.request_laws.proofs.Accepted.{Opened}
use Rattle.request_laws.specs.Carried.{NoneComesBehind}
use Rattle.request_laws.proofs.Behind.{muxes_end_last}
use Rattle.request_laws.proofs.Between.{between_still}
use Rattle.request_laws.proofs.Feeding.{all_both, served-both, up_served, down_served}
use Rattle.request_laws.proofs.ServerTakes.{WasOpened, Open}
use Rattle.request_laws.proofs.Silent.{IsStill}
use Rattle.request_laws.proofs.Sole.{is_of, for_of}
use Rattle.request_laws.proofs.Takes.{AllEndpoints}
use Rattle.request_laws.proofs.Timely.{HearsNothing, is_up, goes_down, is_deaf, is_deaf_now, is_down}
use Rattle.orderly_laws.specs.Answered.{responses_due, AreAnswered}
use Rattle.orderly_laws.proofs.Counts.{sure-at, behind-responses, hands-all_up}
use Rattle.orderly_laws.proofs.Counting.{NoneFollows}
use Rattle.orderly_laws.proofs.Following.{still-follow, down-follow, link-follow}
use Rattle.orderly_laws.proofs.Weaving.{TakesTurns, few-at, down-turns, still-turns, weave-later, weave-direct}

-- ---- a list of what happened, as it is read off what moved

pub record ReadLink (settings : Settings) (list : List channels.Occurrence) : Type 0 where
  pub talk : List Saying
  pub outs : List Saying
  pub said_is : (run_of (policy settings true) list).said ≡ talk ++ outs
  pub go_out : AllByRecursion GoesOut outs
  pub uttered : AreUttered (policy settings true) list
  pub answered : AreAnswered settings (party_of settings sides.B) talk
  pub only : CarriesOneOn object_psm (policy settings true) list
  pub none : AllByRecursion AsksForNoChannel list
  pub told : (run_of (policy settings true) list).value.events ≡ []

-- no more responses were taken there than are due to the requests that were handed up
abbrev pub Few : (settings : Settings) (list : List channels.Occurrence) → ReadLink settings list → Type 0
Few settings list read = length (filter_map said (taken_of (policy settings true) read.only.channel.own list)) ≤ responses_due settings (handed_for object_psm (run_of (policy settings true) list).up)

abbrev pub AllRead : Settings → List Span → Type 0
AllRead settings spans = AllByRecursion (λ (span : Span). ReadLink settings span.list) spans

-- on each link
abbrev pub AllFew : (settings : Settings) (spans : List Span) (now : List channels.Occurrence) → AllRead settings spans → ReadLink settings now → Type 0
AllFew settings [] now reads last = Unit {0}
AllFew settings (up ∷ []) now reads last = Few settings now last
AllFew settings (up ∷ down ∷ spans) now reads last = Few settings down.list reads.1.0 × AllFew settings spans now reads.1.1 last

-- ---- which PSM its channels have

-- none is RFCOMM's
abbrev pub NoneMuxed : Settings → List channels.Occurrence → Type 0
NoneMuxed settings list = (psm at : ℕ) → Opened (run_of (policy settings true) list).said psm at → psm ≡ 0x0003 → ⊥

pub plain_at : (settings : Settings) (list : List channels.Occurrence) (read : ReadLink settings list) (psm at : ℕ) → Opened (run_of (policy settings true) list).said psm at → psm ≡ 0x0003 → ⊥
plain_at settings list read psm at (peer, is) rfcomm = by (eqb at read.only.channel.own) refl
  where
    fit : IsFor read.only.channel (channel_by psm at peer)
    fit = for_of read.only.channel (channel_by psm at peer) (run_of (policy settings true) list).said at read.only.alone (is_of (channel_by psm at peer) (read_at at (reading (run_of (policy settings true) list).said).entries) is)

    by : (same : Bool) → eqb at read.only.channel.own ≡ same → ⊥
    by true is' = let never : 0x0003 ≡ 0x1001 = sym rfcomm ∙ (ap (λ (c : Channel). c.psm) (fit.same is') ∙ read.only.psm_is) in omega (arith, never)
    by false is' = (fit.aside is').1 rfcomm

pub all-plain : (settings : Settings) (spans : List Span) → AllRead settings spans → AllByRecursion (λ (span : Span). NoneMuxed settings span.list) spans
all-plain settings [] reads = tt
all-plain settings (span ∷ spans) reads = (plain_at settings span.list reads.0, all-plain settings spans reads.1)

-- ---- what is told of closings

closes_so : (channel : Channel) (entries : List Entry) → AllByRecursion (λ (entry : Entry). IsFor channel entry.channel) entries → (event : ChannelEvent) → IsClosingRead entries event → ClosesItself channel event
closes_so channel entries alone (events.Opened own psm) read = tt
closes_so channel entries alone (events.Closed own psm reason) (peer, of) = λ objects. by objects (read_at own entries) refl of
  where
    by : psm ≡ 0x1001 → (found : Option Entry) → read_at own entries ≡ found → IsOf (channel_by psm own peer) found → own ≡ channel.own
    by objects None at none = absurd none
    by objects (Some entry) at it = at_own (eqb entry.channel.own channel.own) refl
      where
        fit : IsFor channel entry.channel
        fit = found_in own (λ (one : Entry). IsFor channel one.channel) entries entry alone at

        at_own : (same : Bool) → eqb entry.channel.own channel.own ≡ same → own ≡ channel.own
        at_own true same = sym (ap (λ (c : Channel). c.own) it) ∙ eqb-true entry.channel.own channel.own same
        at_own false same = absurd ((fit.aside same).0 (ap (λ (c : Channel). c.psm) it ∙ objects))
closes_so channel entries alone (events.Features features) read = tt
closes_so channel entries alone events.FeaturesLost read = tt
closes_so channel entries alone (events.DisconnectLost own) read = tt

all_close : (channel : Channel) (entries : List Entry) → AllByRecursion (λ (entry : Entry). IsFor channel entry.channel) entries → (told : List ChannelEvent) → AllByRecursion (IsClosingRead entries) told → AllByRecursion (ClosesItself channel) told
all_close channel entries alone [] all = tt
all_close channel entries alone (event ∷ told) all = (closes_so channel entries alone event all.0, all_close channel entries alone told all.1)

one_object : (settings : Settings) (list : List channels.Occurrence) (read : ReadLink settings list) → Few settings list read → OneObjectChannel (policy settings true) list
one_object settings list read few =
    let one = read.only.channel in
    record {
      channel = one;
      psm_is = read.only.psm_is;
      alone = read.only.alone;
      whole = hands-all_up settings list read.talk read.outs read.said_is read.go_out read.uttered one read.only.psm_is read.only.alone read.answered few read.told;
      closings = subst (AllByRecursion (ClosesItself one)) (events_run (policy settings true) list)
          (all_close one (reading (run_of (policy settings true) list).said).entries read.only.alone (run_of (policy settings true) list).told (closings-are_read (policy settings true) list read.none));
    }

pub no_pdus : (list : List channels.Occurrence) → AllByRecursion HearsNothing list → AllByRecursion IsNoPdu list
no_pdus [] deaf = tt
no_pdus (channels.Comes pdu ∷ list) deaf = absurd deaf.0
no_pdus (channels.Connects psm ∷ list) deaf = (tt, no_pdus list deaf.1)
no_pdus (channels.AsksFeatures ∷ list) deaf = (tt, no_pdus list deaf.1)
no_pdus (channels.Disconnects own ∷ list) deaf = (tt, no_pdus list deaf.1)
no_pdus (channels.Sends own sdu ∷ list) deaf = (tt, no_pdus list deaf.1)
no_pdus (channels.Gives pdu ∷ list) deaf = (tt, no_pdus list deaf.1)
no_pdus (channels.Fires ∷ list) deaf = (tt, no_pdus list deaf.1)
no_pdus (channels.Tells ∷ list) deaf = (tt, no_pdus list deaf.1)

-- ---- then one channel carried packets on each link

pub record AllCarry (settings : Settings) (spans : List Span) (now : List channels.Occurrence) : Type 0 where
  pub carried : AllByRecursion (λ (span : Span). CarriedOne (policy settings true) span.event span.list) spans
  pub carries : CarriesOne (policy settings true) now

carried_up : (settings : Settings) (event : LinkEvent) (list : List channels.Occurrence) → event ≡ Up → CarriedOne (policy settings true) event list
carried_up settings event list is = subst (λ (e : LinkEvent). CarriedOne (policy settings true) e list) (sym is) tt

carried_down : (settings : Settings) (event : LinkEvent) (list : List channels.Occurrence) → OneObjectChannel (policy settings true) list → CarriedOne (policy settings true) event list
carried_down settings Up list one = tt
carried_down settings (Down reason) list one = one

pub all-carry : (settings : Settings) (spans : List Span) (now : List channels.Occurrence) (reads : AllRead settings spans) (last : ReadLink settings now) → AreTimely false (all_marks spans now) → AllFew settings spans now reads last → AllCarry settings spans now
all-carry settings [] now reads last timely few = record { carried = tt; carries = inl (no_pdus now (is_deaf_now now timely)) }
all-carry settings (up ∷ []) now reads last timely few = record { carried = (carried_up settings up.event up.list (is_up up [] now timely), tt); carries = inr (one_object settings now last few) }
all-carry settings (up ∷ down ∷ spans) now reads last timely few =
    let rises = is_up up (down ∷ spans) now timely in
    let deaf = is_deaf up (down ∷ spans) now rises timely in
    let drops = goes_down down spans now deaf.rest in
    let rest = all-carry settings spans now reads.1.1 last (is_down down spans now drops deaf.rest) few.1 in
    record { carried = (carried_up settings up.event up.list rises, (carried_down settings down.event down.list (one_object settings down.list reads.1.0 few.0), rest.carried)); carries = rest.carries }

-- ---- over all links

still_direct : (occurrences : List Occurrence) → AllByRecursion IsStill occurrences → AllByRecursion IsDirect occurrences
still_direct [] still = tt
still_direct (Came psm sdu ∷ rest) still = ((λ is. let never : sdu ∷ [] ≡ [] = subst (λ (p : ℕ). sdu_if (eqb p 0x0003) sdu ≡ []) is (still.0.come 0x0003) in cc), still_direct rest still.1)
still_direct (Went psm sdu ∷ rest) still = ((λ is. let never : sdu ∷ [] ≡ [] = subst (λ (p : ℕ). sdu_if (eqb p 0x0003) sdu ≡ []) is (still.0.gone 0x0003) in cc), still_direct rest still.1)
still_direct (Closed psm ∷ rest) still = (tt, still_direct rest still.1)
still_direct (LinkDown ∷ rest) still = (tt, still_direct rest still.1)
still_direct (Asked ∷ rest) still = (tt, still_direct rest still.1)
still_direct (Answering answers ∷ rest) still = (tt, still_direct rest still.1)

event_direct : (event : ChannelEvent) → AllByRecursion IsDirect (event_served event)
event_direct (events.Opened own psm) = tt
event_direct (events.Closed own psm reason) = by (is_told reason)
  where
    by : (told : Bool) → AllByRecursion IsDirect (cond told (Closed psm ∷ []) [])
    by true = (tt, tt)
    by false = tt
event_direct (events.Features features) = tt
event_direct events.FeaturesLost = tt
event_direct (events.DisconnectLost own) = tt

module _ (settings : Settings) (content : Option Contents) where
  abbrev B : Profile ServerProfile
  B = server_profile settings content

  abbrev asks : Asks (server_profile settings content)
  asks = hosts_ask.servers settings content

  abbrev pub served : ServerProfile → List Feed → List Occurrence
  served p feeds = served_from settings content p feeds

  happenings_direct : (list : List ChannelEvent) (v : Channels) (p : ServerProfile) → AllByRecursion IsDirect (served p (happenings v list))
  happenings_direct [] v p = tt
  happenings_direct (event ∷ list) v p =
      let w : Channels = record v { events = list } in
      let q = fed B p (Happens event w) in
      all_both IsDirect (event_served event) (served q (happenings w list)) (event_direct event) (happenings_direct list w q)

  turned_direct : (circumstances : List Circumstance) (event : LinkEvent) (v : Channels) (p : ServerProfile) → AllByRecursion IsDirect (served p (turned_feeds circumstances event v))
  turned_direct circumstances Up v p = tt
  turned_direct circumstances (Down reason) v p =
      let w = link_down v in
      subst (AllByRecursion IsDirect) (sym (served-both settings content (happenings w w.events) (Learns circumstances (Linked (Down reason)) ∷ []) p))
      (all_both IsDirect (served p (happenings w w.events)) _ (happenings_direct w.events w p) (tt, tt))

  pub new_server : (circumstances : List Circumstance) (event : LinkEvent) (v : Channels) (p : ServerProfile) → (turned B circumstances event v p).endpoints ≡ []
  new_server circumstances Up v p = refl
  new_server circumstances (Down reason) v p = refl

  none_open : (p : ServerProfile) → p.endpoints ≡ [] → Open object_psm settings content [] p
  none_open p none = subst (AllEndpoints (WasOpened object_psm settings content [])) (sym none) tt

  abbrev pub value_at : Span → Channels
  value_at span = values_after B.policy no_channels span.list

  -- one link: what is there, what comes as it turns, and all behind it
  pub span_served : (span : Span) (first : ServerProfile) (here : FedSpan B asks span first) (feeds later : List Feed) → feeds ≡ span_feeds B asks span first here ++ later
      → served first feeds ≡ served first here.here ++ (served here.mid (turned_feeds here.circumstances span.event (value_at span)) ++ served (behind_span B asks span first here) later)
  span_served span first here feeds later is =
      let turn = turned_feeds here.circumstances span.event (value_at span) in
      let S = served first here.here in
      let T = served here.mid turn in
      let R = served (behind_span B asks span first here) later in
      ap (served first) is
      ∙ (served-both settings content (span_feeds B asks span first here) later first
      ∙ (ap₂ (λ (a b : List Occurrence). a ++ b) (served-both settings content here.here turn first ∙ ap (λ (p : ServerProfile). S ++ served p turn) (here_so B asks span first here)) (ap (λ (p : ServerProfile). served p later) (span_so B asks span first here))
      ∙ append_assoc S T R))

  -- ---- nothing over RFCOMM

  link_direct : (list : List channels.Occurrence) (feeds : List Feed) (first last : ServerProfile) → WovenFed B asks list feeds first last → NoneMuxed settings list → first.endpoints ≡ [] → AllByRecursion IsDirect (served first feeds)
  link_direct list feeds first last so plain none =
      subst (λ (l : List Feed). AllByRecursion IsDirect (served first l)) (sym so.feeds_are)
      (weave-direct settings content list plain
      so.woven.weave [] no_channels first so.woven.list_is refl (none_open first none) so.woven.on_link)

  pub all-direct : (spans : List Span) (now : List channels.Occurrence) (feeds : List Feed) (first last : ServerProfile) → AreFed B asks spans now feeds first last → first.endpoints ≡ [] → AllByRecursion (λ (span : Span). NoneMuxed settings span.list) spans → NoneMuxed settings now → AllByRecursion IsDirect (served first feeds)
  all-direct [] now feeds first last so none plain last_plain = link_direct now feeds first last so last_plain none
  all-direct (span ∷ spans) now feeds first last (here, later, is, so) none plain last_plain =
      let turn = turned_feeds here.circumstances span.event (value_at span) in
      let after = behind_span B asks span first here in
      subst (AllByRecursion IsDirect) (sym (span_served span first here feeds later is))
      (all_both IsDirect (served first here.here) _ (link_direct span.list here.here first here.mid here.so plain.0 none)
      (all_both IsDirect (served here.mid turn) (served after later) (turned_direct here.circumstances span.event (value_at span) here.mid)
      (all-direct spans now later after last so (new_server here.circumstances span.event (value_at span) here.mid) plain.1 last_plain)))

  -- ---- nothing follows the closing of a channel

  ends_last : (list : List channels.Occurrence) (feeds : List Feed) (first last : ServerProfile) → WovenFed B asks list feeds first last → ReadLink settings list → NoneComesBehind object_psm (served first feeds)
  ends_last list feeds first last so read =
      subst (λ (l : List Feed). NoneComesBehind object_psm (served first l)) (sym so.feeds_are)
      (muxes_end_last object_psm settings content asks list first last so.woven (λ other aside same. aside.0 same) (asks-nothing settings content) read.only)

  up_follow : (circumstances : List Circumstance) (event : LinkEvent) (v : Channels) (p : ServerProfile) (rest : List Occurrence) → event ≡ Up → NoneFollows false rest → NoneFollows false (served p (turned_feeds circumstances event v) ++ rest)
  up_follow circumstances event v p rest rises follow = subst (λ (l : List Occurrence). NoneFollows false (l ++ rest)) (sym (up_served settings content circumstances event v p rises)) follow

  fall_follow : (closed : Bool) (circumstances : List Circumstance) (event : LinkEvent) (v : Channels) (p : ServerProfile) (rest : List Occurrence) → IsDown event → NoneFollows false rest → NoneFollows closed (served p (turned_feeds circumstances event v) ++ rest)
  fall_follow closed circumstances Up v p rest drops follow = absurd drops
  fall_follow closed circumstances (Down reason) v p rest drops follow =
      let down = down_served settings content circumstances reason v p in
      subst (NoneFollows closed) (sym (ap (λ (l : List Occurrence). l ++ rest) down.is ∙ append_assoc down.ahead (LinkDown ∷ []) rest)) (down-follow closed down.ahead rest down.quiet follow)

  never_shut : (rest : Type 0) → false ≡ true → rest
  never_shut rest is = absurd (true≢false (sym is))

  pub all-follow : (spans : List Span) (now : List channels.Occurrence) (feeds : List Feed) (first last : ServerProfile) → AreFed B asks spans now feeds first last → AreTimely false (all_marks spans now) → AllRead settings spans → ReadLink settings now → NoneFollows false (served first feeds)
  all-follow [] now feeds first last so timely reads read =
      subst (NoneFollows false) (append-nil (served first feeds)) (still-follow false (served first feeds) [] (between_still settings content asks now feeds first last so (is_deaf_now now timely)) tt)
  all-follow (up ∷ []) now feeds first last (here, later, is, so) timely reads read =
      let rises = is_up up [] now timely in
      let deaf = is_deaf up [] now rises timely in
      let mid = behind_span B asks up first here in
      let link : NoneFollows false (served mid later) = subst (NoneFollows false) (append-nil (served mid later)) (link-follow false (served mid later) [] (ends_last now later mid last so read) (never_shut _) (λ k. tt)) in
      subst (NoneFollows false) (sym (span_served up first here feeds later is))
      (still-follow false (served first here.here) (served here.mid (turned_feeds here.circumstances up.event (value_at up)) ++ served mid later) (between_still settings content asks up.list here.here first here.mid here.so deaf.deaf)
      (up_follow here.circumstances up.event (value_at up) here.mid (served mid later) rises link))
  all-follow (up ∷ down ∷ spans) now feeds first last (here, later, is, (there, rest, rest_is, so)) timely reads read =
      let rises = is_up up (down ∷ spans) now timely in
      let deaf = is_deaf up (down ∷ spans) now rises timely in
      let drops = goes_down down spans now deaf.rest in
      let mid = behind_span B asks up first here in
      let after = behind_span B asks down mid there in
      let behind = all-follow spans now rest after last so (is_down down spans now drops deaf.rest) reads.1.1 read in
      let turn = served there.mid (turned_feeds there.circumstances down.event (value_at down)) ++ served after rest in
      let link : NoneFollows false (served mid later) = subst (NoneFollows false) (sym (span_served down mid there later rest rest_is))
      (link-follow false (served mid there.here) turn (ends_last down.list there.here mid there.mid there.so reads.1.0) (never_shut _) (λ k. fall_follow k there.circumstances down.event (value_at down) there.mid (served after rest) drops behind)) in
      subst (NoneFollows false) (sym (span_served up first here feeds later is))
      (still-follow false (served first here.here) (served here.mid (turned_feeds here.circumstances up.event (value_at up)) ++ served mid later) (between_still settings content asks up.list here.here first here.mid here.so deaf.deaf)
      (up_follow here.circumstances up.event (value_at up) here.mid (served mid later) rises link))

  -- ---- in turn

  -- from a link's beginning
  link_turns : (G : Type 0) (list : List channels.Occurrence) (feeds : List Feed) (first last : ServerProfile) (rest : List Occurrence) (m : ℕ) (so : WovenFed B asks list feeds first last) (read : ReadLink settings list) → first.endpoints ≡ []
      → ((rs : List (List ℕ)) (k : ℕ) → rs ≡ handed_for object_psm (run_of (policy settings true) list).up → length (filter_map said (taken_of (policy settings true) read.only.channel.own list)) ≤ k → TakesTurns settings G rs k rest) → TakesTurns settings G [] m (served first feeds ++ rest)
  link_turns G list feeds first last rest m so read none next =
      let one = read.only.channel in
      let sure = sure-at settings list read.talk read.outs read.said_is read.go_out read.uttered one read.only.psm_is read.only.alone read.answered in
      let behind = behind-responses settings list read.talk read.outs read.said_is read.go_out read.uttered one read.only.psm_is read.only.alone read.answered in
      subst (λ (l : List Feed). TakesTurns settings G [] m (served first l ++ rest)) (sym so.feeds_are)
      (weave-later settings content list one.own sure G behind so.woven.weave [] no_channels first rest so.woven.list_is refl (none_open first none) so.woven.on_link next [] m refl (omega arith))

  few_here : (G : Type 0) (list : List channels.Occurrence) (read : ReadLink settings list) (rest : List Occurrence) (rs : List (List ℕ)) (k : ℕ) → rs ≡ handed_for object_psm (run_of (policy settings true) list).up
      → length (filter_map said (taken_of (policy settings true) read.only.channel.own list)) ≤ k → TakesTurns settings G rs k rest → TakesTurns settings (Few settings list read × G) rs k rest
  few_here G list read rest rs k same many turns = (turns.0, λ less. (let e = few-at settings rs k rest less in let few = ap (responses_due settings) same in omega (arith, few, many, e), turns.1 less))

  turned_up : (G : Type 0) (m : ℕ) (circumstances : List Circumstance) (event : LinkEvent) (v : Channels) (p : ServerProfile) (rest : List Occurrence) → event ≡ Up → TakesTurns settings G [] m rest → TakesTurns settings G [] m (served p (turned_feeds circumstances event v) ++ rest)
  turned_up G m circumstances event v p rest rises turns = subst (λ (l : List Occurrence). TakesTurns settings G [] m (l ++ rest)) (sym (up_served settings content circumstances event v p rises)) turns

  turned_down : (G : Type 0) (rs : List (List ℕ)) (m : ℕ) (circumstances : List Circumstance) (event : LinkEvent) (v : Channels) (p : ServerProfile) (rest : List Occurrence) → IsDown event → TakesTurns settings G [] 0 rest → TakesTurns settings G rs m (served p (turned_feeds circumstances event v) ++ rest)
  turned_down G rs m circumstances Up v p rest drops turns = absurd drops
  turned_down G rs m circumstances (Down reason) v p rest drops turns =
      let down = down_served settings content circumstances reason v p in
      subst (TakesTurns settings G rs m) (sym (ap (λ (l : List Occurrence). l ++ rest) down.is ∙ append_assoc down.ahead (LinkDown ∷ []) rest)) (down-turns settings G rs m down.ahead rest down.quiet turns)

  pub all-turns : (spans : List Span) (now : List channels.Occurrence) (feeds : List Feed) (first last : ServerProfile) → AreFed B asks spans now feeds first last → first.endpoints ≡ [] → AreTimely false (all_marks spans now) → (reads : AllRead settings spans) (read : ReadLink settings now) (m : ℕ)
      → TakesTurns settings (AllFew settings spans now reads read) [] m (served first feeds)
  all-turns [] now feeds first last so none timely reads read m =
      subst (TakesTurns settings (Unit {0}) [] m) (append-nil (served first feeds)) (still-turns settings (Unit {0}) [] m (served first feeds) [] (between_still settings content asks now feeds first last so (is_deaf_now now timely)) (λ k. (tt, λ few. tt)))
  all-turns (up ∷ []) now feeds first last (here, later, is, so) none timely reads read m =
      let rises = is_up up [] now timely in
      let deaf = is_deaf up [] now rises timely in
      let G = Few settings now read in
      let mid = behind_span B asks up first here in
      let link : (k : ℕ) → TakesTurns settings G [] k (served mid later) = λ k.
      subst (TakesTurns settings G [] k) (append-nil (served mid later))
      (link_turns G now later mid last [] k so read (new_server here.circumstances up.event (value_at up) here.mid) (λ rs j same many. (tt, λ less. let few = ap (responses_due settings) same in omega (arith, few, many, less)))) in
      subst (TakesTurns settings G [] m) (sym (span_served up first here feeds later is))
      (still-turns settings G [] m (served first here.here) (served here.mid (turned_feeds here.circumstances up.event (value_at up)) ++ served mid later) (between_still settings content asks up.list here.here first here.mid here.so deaf.deaf)
      (λ k. turned_up G k here.circumstances up.event (value_at up) here.mid (served mid later) rises (link k)))
  all-turns (up ∷ down ∷ spans) now feeds first last (here, later, is, (there, rest, rest_is, so)) none timely reads read m =
      let rises = is_up up (down ∷ spans) now timely in
      let deaf = is_deaf up (down ∷ spans) now rises timely in
      let drops = goes_down down spans now deaf.rest in
      let H = AllFew settings spans now reads.1.1 read in
      let G = Few settings down.list reads.1.0 × H in
      let mid = behind_span B asks up first here in
      let after = behind_span B asks down mid there in
      let behind = all-turns spans now rest after last so (new_server there.circumstances down.event (value_at down) there.mid) (is_down down spans now drops deaf.rest) reads.1.1 read 0 in
      let turn = served there.mid (turned_feeds there.circumstances down.event (value_at down)) ++ served after rest in
      let link : (k : ℕ) → TakesTurns settings G [] k (served mid later) = λ k.
      subst (TakesTurns settings G [] k) (sym (span_served down mid there later rest rest_is))
      (link_turns G down.list there.here mid there.mid turn k there.so reads.1.0 (new_server here.circumstances up.event (value_at up) here.mid)
      (λ rs j same many. few_here H down.list reads.1.0 turn rs j same many (turned_down H rs j there.circumstances down.event (value_at down) there.mid (served after rest) drops behind))) in
      subst (TakesTurns settings G [] m) (sym (span_served up first here feeds later is))
      (still-turns settings G [] m (served first here.here) (served here.mid (turned_feeds here.circumstances up.event (value_at up)) ++ served mid later) (between_still settings content asks up.list here.here first here.mid here.so deaf.deaf)
      (λ k. turned_up G k here.circumstances up.event (value_at up) here.mid (served mid later) rises (link k)))
