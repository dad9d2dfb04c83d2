-- What happened to a server over RFCOMM is read off what moved on its links, one after the other.
use Rattle.std.proofs.Common.{◌≡◌, ℕ, suc, Bool, true, false, cond, eqb, inl, inr, List, [], ◌∷◌, ◌++◌, map, Option, Some, None, refl, sym, ap, ap₂, subst, ◌∙◌, append_assoc, append-nil}
use Rattle.std.specs.Prelude.{get_or}
use Rattle.std.specs.List.{AllByRecursion, AllZip, flat_map}
use Rattle.std.proofs.lemmas.Bool.{eq-eqb}
use Rattle.std.proofs.lemmas.List.Concat.{flat_map-append}
use Rattle.std.proofs.lemmas.List.Elements.{filter_map-append}
use Rattle.pair_laws.specs.acl_fragments.specs.Pieces.{channel_of}
use Rattle.pair_laws.specs.bt_base.specs.declared.settings.Settings.{Settings}
use Rattle.pair_laws.specs.bt_base.specs.declared.settings.Transport.TheVariants.{Rfcomm}
use Rattle.pair_laws.specs.bt_base.specs.Objects.{Object, Contents}
use Rattle.pair_laws.specs.capture.specs.Histories.{EachAfter}
use Rattle.pair_laws.specs.capture.specs.Pdus.{Pdu}
use Rattle.pair_laws.specs.link_talk.specs.declared.party.Party.{Party}
use Rattle.pair_laws.specs.link_talk.specs.ObjectsHeard.{objects}
use Rattle.pair_laws.specs.link_talk.specs.Sayings.{Saying, said_by}
use Rattle.pair_laws.specs.link_talk.specs.Sdus.{Spoken, spoken}
use Rattle.pair_laws.specs.channel_model.specs.declared.event.ChannelEvent.{ChannelEvent}
use Rattle.pair_laws.specs.channel_model.specs.declared.event.ChannelEvent.TheVariants as events
use Rattle.pair_laws.specs.channel_model.specs.Calls.{link_down}
use Rattle.pair_laws.specs.channel_model.specs.Carrying.{Up as Handed, Nothing, Received}
use Rattle.pair_laws.specs.channel_model.specs.Hearing.{up}
use Rattle.pair_laws.specs.channel_model.specs.Policies.{Policy, policy}
use Rattle.pair_laws.specs.channel_model.specs.Value.{Channels, no_channels}
use Rattle.pair_laws.specs.channel_laws.specs.Frames.{AreUttered}
use Rattle.pair_laws.specs.channel_laws.specs.Runs as channels
use Rattle.pair_laws.specs.channel_laws.specs.Runs.{run_of}
use Rattle.pair_laws.specs.push_model.specs.Server.{Lent, lends, lent_sdu, object_psm, rfcomm_psm}
use Rattle.pair_laws.specs.push_laws.specs.Dialogs.{NoPacket}
use Rattle.pair_laws.specs.push_laws.specs.Occurrences.{Occurrence, Came, Went, Closed, LinkDown, Asked, Answering}
use Rattle.pair_laws.specs.push_laws.specs.Parties.{sdu_if}
use Rattle.pair_laws.specs.world_model.specs.Machines.{News, LinkEvent, Linked, Up, Down, Failed, Heard, TimerFired, Cancelled, Opening}
use Rattle.pair_laws.specs.world_model.specs.Talks.{Talk}
use Rattle.pair_laws.specs.host_model.specs.Circumstances.{Circumstance}
use Rattle.pair_laws.specs.host_model.specs.Endpoints.{endpoint_of, takes_sdu}
use Rattle.pair_laws.specs.host_model.specs.Pdus.{sdu_of}
use Rattle.pair_laws.specs.host_model.specs.Servers.{ServerProfile, is_told, server_profile}
use Rattle.pair_laws.specs.host_laws.specs.Calls.{values_after}
use Rattle.pair_laws.specs.host_laws.specs.Carriers.{links_from, links_of, move_on, ComesAside, ClosesLast, reader, CarriedLink, IsReadOn, objects_moved}
use Rattle.pair_laws.specs.host_laws.specs.Fed.{feeds_up, next_happening, happenings, strand_feeds, woven_feeds, turned_feeds, span_feeds, behind_span, WovenFed, FedSpan, AreFed}
use Rattle.pair_laws.specs.host_laws.specs.Feeds.{Feed, Happens, Learns, fed, tidings_by}
use Rattle.pair_laws.specs.host_laws.specs.GainingOver.{IsNoPdu}
use Rattle.pair_laws.specs.host_laws.specs.InOrder.{AsksNoChannels}
use Rattle.pair_laws.specs.host_laws.specs.Lives.{Span, all_marks}
use Rattle.pair_laws.specs.host_laws.specs.OneCarrier.{IsAside}
use Rattle.pair_laws.specs.host_laws.specs.OneOnLinks.{CarriesOneOn}
use Rattle.pair_laws.specs.host_laws.specs.OverLinks.{GoesOut, moved_in, AreTimely, IsTalkOf}
use Rattle.pair_laws.specs.host_laws.specs.Seen.{spoken_of}
use Rattle.pair_laws.specs.host_laws.specs.Serving.{news_served, event_served, taken_by, lent_by, served_from}
use Rattle.pair_laws.specs.host_laws.specs.Spoken.{AsksForNone, GrantsAnew, IsServed}
use Rattle.pair_laws.specs.host_laws.specs.Woven.{Strand, Hearing, Giving, Firing, Telling, Gifting, Learning, Checking, Stepping, IsOnLink, strand_list, strand_profile, woven_list, turned, Woven}
use Rattle.pair_laws.specs.host_laws.proofs.Asking.{hosts_ask}
use Rattle.pair_laws.specs.scenario_laws.specs.Coming.{out_of, FallTo}
use Rattle.pair_laws.specs.scenario_laws.proofs.Gaining.{all-out}
use Rattle.pair_laws.specs.host_laws.proofs.StrandsFed.{strand_so, here_so, span_so}
use Rattle.request_laws.specs.BothFed.{IsDown}
use Rattle.request_laws.specs.Carried.{NoneComesBehind}
use Rattle.request_laws.specs.Streams.{come_on}
use Rattle.request_laws.proofs.Behind.{muxes_end_last}
use Rattle.request_laws.proofs.Between.{between_still}
use Rattle.request_laws.proofs.Feeding.{all_both, all_ahead, served-both}
use Rattle.request_laws.proofs.Moved.{moves_in, link-moves}
use Rattle.request_laws.proofs.Paired.{lists_of}
use Rattle.request_laws.proofs.ServerTakes.{none-said}
use Rattle.request_laws.proofs.Silent.{IsStill}
use Rattle.request_laws.proofs.Timely.{HearsNothing, is_up, goes_down, is_deaf, is_down, is_deaf_now}

-- ---- what comes and goes for a server

-- nothing does, and no channel closes; or channels close alone; or its link lasts
abbrev Still : Occurrence → Type 0
Still (Came psm sdu) = ⊥
Still (Went psm sdu) = ⊥
Still (Closed psm) = ⊥
Still LinkDown = ⊥
Still Asked = Unit {0}
Still (Answering answers) = Unit {0}

abbrev Quiet : Occurrence → Type 0
Quiet (Came psm sdu) = ⊥
Quiet (Went psm sdu) = ⊥
Quiet (Closed psm) = Unit {0}
Quiet LinkDown = ⊥
Quiet Asked = Unit {0}
Quiet (Answering answers) = Unit {0}

abbrev Lasts : Occurrence → Type 0
Lasts (Came psm sdu) = Unit {0}
Lasts (Went psm sdu) = Unit {0}
Lasts (Closed psm) = Unit {0}
Lasts LinkDown = ⊥
Lasts Asked = Unit {0}
Lasts (Answering answers) = Unit {0}

still_quiet : (list : List Occurrence) → AllByRecursion Still list → AllByRecursion Quiet list
still_quiet [] still = tt
still_quiet (Came psm sdu ∷ list) still = absurd still.0
still_quiet (Went psm sdu ∷ list) still = absurd still.0
still_quiet (Closed psm ∷ list) still = absurd still.0
still_quiet (LinkDown ∷ list) still = absurd still.0
still_quiet (Asked ∷ list) still = (tt, still_quiet list still.1)
still_quiet (Answering answers ∷ list) still = (tt, still_quiet list still.1)

quiet_lasts : (list : List Occurrence) → AllByRecursion Quiet list → AllByRecursion Lasts list
quiet_lasts [] quiet = tt
quiet_lasts (Came psm sdu ∷ list) quiet = absurd quiet.0
quiet_lasts (Went psm sdu ∷ list) quiet = absurd quiet.0
quiet_lasts (Closed psm ∷ list) quiet = (tt, quiet_lasts list quiet.1)
quiet_lasts (LinkDown ∷ list) quiet = absurd quiet.0
quiet_lasts (Asked ∷ list) quiet = (tt, quiet_lasts list quiet.1)
quiet_lasts (Answering answers ∷ list) quiet = (tt, quiet_lasts list quiet.1)

none_move : (list : List Occurrence) → AllByRecursion Quiet list → moves_in rfcomm_psm list ≡ []
none_move [] quiet = refl
none_move (Came psm sdu ∷ list) quiet = absurd quiet.0
none_move (Went psm sdu ∷ list) quiet = absurd quiet.0
none_move (Closed psm ∷ list) quiet = none_move list quiet.1
none_move (LinkDown ∷ list) quiet = absurd quiet.0
none_move (Asked ∷ list) quiet = none_move list quiet.1
none_move (Answering answers ∷ list) quiet = none_move list quiet.1

-- ---- nothing comes over L2CAP, nor behind the end of the multiplexer's channel

aside_all : (list : List Occurrence) → AllByRecursion NoPacket list → AllByRecursion (ComesAside object_psm) list
aside_all [] none = tt
aside_all (Came psm sdu ∷ list) none = (none.0, aside_all list none.1)
aside_all (Went psm sdu ∷ list) none = (tt, aside_all list none.1)
aside_all (Closed psm ∷ list) none = (tt, aside_all list none.1)
aside_all (LinkDown ∷ list) none = (tt, aside_all list none.1)
aside_all (Asked ∷ list) none = (tt, aside_all list none.1)
aside_all (Answering answers ∷ list) none = (tt, aside_all list none.1)

none_ahead : (xs ys : List (List ℕ)) → xs ++ ys ≡ [] → (xs ≡ []) × (ys ≡ [])
none_ahead [] ys none = (refl, none)
none_ahead (x ∷ xs) ys none = cc

came_aside : (psm : ℕ) (sdu : List ℕ) → come_on rfcomm_psm (Came psm sdu) ≡ [] → psm ≡ rfcomm_psm → ⊥
came_aside psm sdu none muxed = by (eqb psm rfcomm_psm) (eq-eqb psm rfcomm_psm muxed) none
  where
    by : (here : Bool) → here ≡ true → sdu_if here sdu ≡ [] → ⊥
    by true is none = cc
    by false is none = cc

come_aside : (list : List Occurrence) → flat_map (come_on rfcomm_psm) list ≡ [] → AllByRecursion (ComesAside rfcomm_psm) list
come_aside [] none = tt
come_aside (Came psm sdu ∷ list) none = let cut = none_ahead (come_on rfcomm_psm (Came psm sdu)) (flat_map (come_on rfcomm_psm) list) none in (came_aside psm sdu cut.0, come_aside list cut.1)
come_aside (Went psm sdu ∷ list) none = (tt, come_aside list none)
come_aside (Closed psm ∷ list) none = (tt, come_aside list none)
come_aside (LinkDown ∷ list) none = (tt, come_aside list none)
come_aside (Asked ∷ list) none = (tt, come_aside list none)
come_aside (Answering answers ∷ list) none = (tt, come_aside list none)

quiet_aside : (list : List Occurrence) → AllByRecursion Quiet list → AllByRecursion (ComesAside rfcomm_psm) list
quiet_aside [] quiet = tt
quiet_aside (Came psm sdu ∷ list) quiet = absurd quiet.0
quiet_aside (Went psm sdu ∷ list) quiet = absurd quiet.0
quiet_aside (Closed psm ∷ list) quiet = (tt, quiet_aside list quiet.1)
quiet_aside (LinkDown ∷ list) quiet = absurd quiet.0
quiet_aside (Asked ∷ list) quiet = (tt, quiet_aside list quiet.1)
quiet_aside (Answering answers ∷ list) quiet = (tt, quiet_aside list quiet.1)

quiet_closes : (list : List Occurrence) → AllByRecursion Quiet list → ClosesLast rfcomm_psm list
quiet_closes [] quiet = tt
quiet_closes (one ∷ list) quiet = (λ is. quiet_aside list quiet.1, quiet_closes list quiet.1)

link_closes : (xs ys : List Occurrence) → NoneComesBehind rfcomm_psm xs → AllByRecursion Quiet ys → ClosesLast rfcomm_psm (xs ++ ys)
link_closes [] ys behind quiet = quiet_closes ys quiet
link_closes (one ∷ xs) ys behind quiet = (λ is. all_both (ComesAside rfcomm_psm) xs ys (come_aside xs (behind.0 is)) (quiet_aside ys quiet), link_closes xs ys behind.1 quiet)

still_closes : (xs ys : List Occurrence) → AllByRecursion Still xs → ClosesLast rfcomm_psm ys → ClosesLast rfcomm_psm (xs ++ ys)
still_closes [] ys still last = last
still_closes (Came psm sdu ∷ xs) ys still last = absurd still.0
still_closes (Went psm sdu ∷ xs) ys still last = absurd still.0
still_closes (Closed psm ∷ xs) ys still last = absurd still.0
still_closes (LinkDown ∷ xs) ys still last = absurd still.0
still_closes (Asked ∷ xs) ys still last = (λ is. (let never : false ≡ true = is in absurd cc), still_closes xs ys still.1 last)
still_closes (Answering answers ∷ xs) ys still last = (λ is. (let never : false ≡ true = is in absurd cc), still_closes xs ys still.1 last)

-- ---- the links of what happened

links_last : (list now : List Occurrence) → AllByRecursion Lasts list → links_from now list ≡ (now ++ list) ∷ []
links_last [] now lasts = ap (λ (l : List Occurrence). l ∷ []) (sym (append-nil now))
links_last (Came psm sdu ∷ list) now lasts = links_last list (now ++ Came psm sdu ∷ []) lasts.1 ∙ ap (λ (l : List Occurrence). l ∷ []) (append_assoc now (Came psm sdu ∷ []) list)
links_last (Went psm sdu ∷ list) now lasts = links_last list (now ++ Went psm sdu ∷ []) lasts.1 ∙ ap (λ (l : List Occurrence). l ∷ []) (append_assoc now (Went psm sdu ∷ []) list)
links_last (Closed psm ∷ list) now lasts = links_last list (now ++ Closed psm ∷ []) lasts.1 ∙ ap (λ (l : List Occurrence). l ∷ []) (append_assoc now (Closed psm ∷ []) list)
links_last (LinkDown ∷ list) now lasts = absurd lasts.0
links_last (Asked ∷ list) now lasts = links_last list (now ++ Asked ∷ []) lasts.1 ∙ ap (λ (l : List Occurrence). l ∷ []) (append_assoc now (Asked ∷ []) list)
links_last (Answering answers ∷ list) now lasts = links_last list (now ++ Answering answers ∷ []) lasts.1 ∙ ap (λ (l : List Occurrence). l ∷ []) (append_assoc now (Answering answers ∷ []) list)

links_down : (list now rest : List Occurrence) → AllByRecursion Lasts list → links_from now (list ++ LinkDown ∷ rest) ≡ (now ++ list) ∷ links_of rest
links_down [] now rest lasts = ap (λ (l : List Occurrence). l ∷ links_of rest) (sym (append-nil now))
links_down (Came psm sdu ∷ list) now rest lasts = links_down list (now ++ Came psm sdu ∷ []) rest lasts.1 ∙ ap (λ (l : List Occurrence). l ∷ links_of rest) (append_assoc now (Came psm sdu ∷ []) list)
links_down (Went psm sdu ∷ list) now rest lasts = links_down list (now ++ Went psm sdu ∷ []) rest lasts.1 ∙ ap (λ (l : List Occurrence). l ∷ links_of rest) (append_assoc now (Went psm sdu ∷ []) list)
links_down (Closed psm ∷ list) now rest lasts = links_down list (now ++ Closed psm ∷ []) rest lasts.1 ∙ ap (λ (l : List Occurrence). l ∷ links_of rest) (append_assoc now (Closed psm ∷ []) list)
links_down (LinkDown ∷ list) now rest lasts = absurd lasts.0
links_down (Asked ∷ list) now rest lasts = links_down list (now ++ Asked ∷ []) rest lasts.1 ∙ ap (λ (l : List Occurrence). l ∷ links_of rest) (append_assoc now (Asked ∷ []) list)
links_down (Answering answers ∷ list) now rest lasts = links_down list (now ++ Answering answers ∷ []) rest lasts.1 ∙ ap (λ (l : List Occurrence). l ∷ links_of rest) (append_assoc now (Answering answers ∷ []) list)

-- ---- what a server goes through

event_quiet : (event : ChannelEvent) → AllByRecursion Quiet (event_served event)
event_quiet (events.Opened own psm) = tt
event_quiet (events.Closed own psm reason) = by (is_told reason)
  where
    by : (told : Bool) → AllByRecursion Quiet (cond told (Closed psm ∷ []) [])
    by true = (tt, tt)
    by false = tt
event_quiet (events.Features features) = tt
event_quiet events.FeaturesLost = tt
event_quiet (events.DisconnectLost own) = tt

news_still : (news : News) → tidings_by news ≡ [] → AllByRecursion Still (news_served news ++ [])
news_still (Linked Up) on = tt
news_still (Linked (Down reason)) on = cc
news_still (Failed status) on = tt
news_still (Heard pdu) on = tt
news_still TimerFired on = tt
news_still Cancelled on = tt
news_still (Opening name) on = tt

taken_lasts : (own : Option ℕ) (lent : Lent) (v : Channels) → AllByRecursion Lasts (taken_by own lent v)
taken_lasts None lent v = tt
taken_lasts (Some own) lent v = by (takes_sdu own (sdu_of lent.payload) v)
  where
    by : (taken : Bool) → AllByRecursion Lasts (cond taken (Went lent.psm (sdu_of lent.payload) ∷ []) [])
    by true = (tt, tt)
    by false = tt

lent_lasts : (lent : Option Lent) (v : Channels) (p : ServerProfile) → AllByRecursion Lasts (lent_by lent v p ++ [])
lent_lasts None v p = tt
lent_lasts (Some lent) v p = all_both Lasts (taken_by (endpoint_of lent.psm p.endpoints) lent v) [] (taken_lasts (endpoint_of lent.psm p.endpoints) lent v) tt

module _ (settings : Settings) (content : Option Contents) where
  abbrev P : Policy
  P = policy settings true

  abbrev party : Party
  party = reader settings settings.mps Rfcomm

  abbrev served : ServerProfile → List Feed → List Occurrence
  served p feeds = served_from settings content p feeds

  abbrev woven : List Strand → Channels → ServerProfile → List Occurrence
  woven weave v p = served_from settings content p (woven_feeds (server_profile settings content) (hosts_ask.servers settings content) weave v p)

  abbrev woven_on : List Strand → Channels → ServerProfile → List channels.Occurrence
  woven_on weave v p = woven_list (server_profile settings content) (hosts_ask.servers settings content) weave v p

  next_lasts : (found : List ChannelEvent) (v : Channels) (p : ServerProfile) → AllByRecursion Lasts (served p (next_happening found v))
  next_lasts [] v p = tt
  next_lasts (event ∷ found) v p = all_both Lasts (event_served event) [] (quiet_lasts (event_served event) (event_quiet event)) tt

  up_lasts : (brought : Handed) (p : ServerProfile) → AllByRecursion Lasts (served p (feeds_up brought))
  up_lasts Nothing p = tt
  up_lasts (Received own psm sdu) p = (tt, tt)

  strand_lasts : (strand : Strand) (v : Channels) (p : ServerProfile) → IsOnLink strand → AllByRecursion Lasts (served p (strand_feeds strand v))
  strand_lasts (Hearing pdu) v p on = up_lasts (up (channel_of pdu) pdu v) p
  strand_lasts (Giving pdu) v p on = tt
  strand_lasts Firing v p on = tt
  strand_lasts Telling v p on = next_lasts v.events v p
  strand_lasts (Gifting circumstances) v p on = (tt, tt)
  strand_lasts (Learning circumstances news) v p on = quiet_lasts (news_served news ++ []) (still_quiet (news_served news ++ []) (news_still news on))
  strand_lasts Checking v p on = tt
  strand_lasts Stepping v p on = (tt, lent_lasts (lent_sdu (lends p.server)) v p)

  both_served : (Q : Occurrence → Type 0) (strand : Strand) (weave : List Strand) (v : Channels) (p : ServerProfile)
      → (let q = strand_profile (server_profile settings content) strand v p in
      AllByRecursion Q (served p (strand_feeds strand v)) → AllByRecursion Q (woven weave (values_after P v (strand_list (server_profile settings content) (hosts_ask.servers settings content) strand v p)) q) → AllByRecursion Q (woven (strand ∷ weave) v p))
  both_served Q strand weave v p here later =
      let B = server_profile settings content in
      let asks = hosts_ask.servers settings content in
      let q = strand_profile B strand v p in
      let feeds = strand_feeds strand v in
      let more = woven_feeds B asks weave (values_after P v (strand_list B asks strand v p)) q in
      subst (AllByRecursion Q) (sym (served-both settings content feeds more p ∙ ap (λ (x : ServerProfile). served p feeds ++ served x more) (strand_so B asks strand v p)))
      (all_both Q (served p feeds) (served q more) here later)

  link_lasts : (weave : List Strand) (v : Channels) (p : ServerProfile) → AllByRecursion IsOnLink weave → AllByRecursion Lasts (woven weave v p)
  link_lasts [] v p on = tt
  link_lasts (strand ∷ weave) v p on =
      both_served Lasts strand weave v p (strand_lasts strand v p on.0)
      (link_lasts weave (values_after P v (strand_list (server_profile settings content) (hosts_ask.servers settings content) strand v p)) (strand_profile (server_profile settings content) strand v p) on.1)

  -- ---- between two links

  one_still : (one : Occurrence) → IsStill one → Still one
  one_still (Came psm sdu) is = absurd (by (eqb psm psm) (eq-eqb psm psm refl) (is.come psm))
    where
      by : (here : Bool) → here ≡ true → sdu_if here sdu ≡ [] → ⊥
      by true same none = cc
      by false same none = cc
  one_still (Went psm sdu) is = absurd (by (eqb psm psm) (eq-eqb psm psm refl) (is.gone psm))
    where
      by : (here : Bool) → here ≡ true → sdu_if here sdu ≡ [] → ⊥
      by true same none = cc
      by false same none = cc
  one_still (Closed psm) is = let never : true ≡ false = sym (eq-eqb psm psm refl) ∙ is.open_yet psm in absurd cc
  one_still LinkDown is = let never : true ≡ false = is.open_yet 0 in absurd cc
  one_still Asked is = tt
  one_still (Answering answers) is = tt

  still_all : (list : List Occurrence) → AllByRecursion IsStill list → AllByRecursion Still list
  still_all [] all = tt
  still_all (one ∷ list) all = (one_still one all.0, still_all list all.1)

  -- ---- as a link comes up or goes down

  new_server : (circumstances : List Circumstance) (event : LinkEvent) (v : Channels) (p : ServerProfile) → (turned (server_profile settings content) circumstances event v p).endpoints ≡ []
  new_server circumstances Up v p = refl
  new_server circumstances (Down reason) v p = refl

  happenings_quiet : (found : List ChannelEvent) (v : Channels) (p : ServerProfile) → AllByRecursion Quiet (served p (happenings v found))
  happenings_quiet [] v p = tt
  happenings_quiet (event ∷ found) v p =
      let now : Channels = record v { events = found } in
      let q = fed (server_profile settings content) p (Happens event now) in all_both Quiet (event_served event) (served q (happenings now found)) (event_quiet event) (happenings_quiet found now q)

  record TurnsDown (list : List Occurrence) : Type 0 where
    ahead : List Occurrence
    quiet : AllByRecursion Quiet ahead
    is : list ≡ ahead ++ LinkDown ∷ []

  turns_down : (circumstances : List Circumstance) (event : LinkEvent) (v : Channels) (p : ServerProfile) → IsDown event → TurnsDown (served p (turned_feeds circumstances event v))
  turns_down circumstances Up v p down = absurd down
  turns_down circumstances (Down reason) v p down =
      let w = link_down v in
      record {
        ahead = served p (happenings w w.events);
        quiet = happenings_quiet w.events w p;
        is = served-both settings content (happenings w w.events) (Learns circumstances (Linked (Down reason)) ∷ []) p;
      }

  turns_up : (circumstances : List Circumstance) (event : LinkEvent) (v : Channels) (p : ServerProfile) → event ≡ Up → served p (turned_feeds circumstances event v) ≡ []
  turns_up circumstances event v p is = ap (λ (e : LinkEvent). served p (turned_feeds circumstances e v)) is

  -- ---- what moved on a link

  abbrev pub said_all : List Pdu → List Saying
  said_all list = flat_map said_by list

  abbrev pub spelled : List (List Pdu) → List Object
  spelled caught = flat_map (λ (link : List Pdu). objects party (said_all link)) caught

  -- what moved on a link that a part falls to, what waited behind it, and what is left
  record Fallen (list : List channels.Occurrence) (parts : List (List Talk)) (caught : List (List Pdu)) : Type 0 where
    moved : List Saying
    waits : List Saying
    talk_is : spoken_of (run_of (policy settings true) list).said ≡ moved ++ waits
    go_out : AllByRecursion GoesOut waits
    is_served : IsServed moved
    rest : List (List Pdu)
    fall : FallTo parts rest
    spells : spelled caught ≡ objects party moved ++ spelled rest

  each_front : (Q : List Saying → Saying → Type 0) (past xs ys : List Saying) → EachAfter Q past (xs ++ ys) → EachAfter Q past xs
  each_front Q past [] ys each = tt
  each_front Q past (x ∷ xs) ys each = (each.0, each_front Q (past ++ x ∷ []) xs ys each.1)

  front_served : (xs ys : List Saying) → IsServed (xs ++ ys) → IsServed xs
  front_served xs ys is = record { asks_for_none = (all_ahead AsksForNone xs ys is.asks_for_none).0; given_once = each_front GrantsAnew [] xs ys is.given_once }

  falls : (list : List channels.Occurrence) (part : List Talk) (parts : List (List Talk)) (caught : List (List Pdu)) → IsTalkOf (policy settings true) list part → IsServed (moved_in part) → FallTo (part ∷ parts) caught → Fallen list parts caught
  falls list part parts caught is once (inl (silent, more)) = record {
    moved = [];
    waits = is.waits;
    talk_is = is.talk_is ∙ ap (λ (pdus : List Pdu). said_all pdus ++ is.waits) silent;
    go_out = is.go_out;
    is_served = record { asks_for_none = tt; given_once = tt };
    rest = caught;
    fall = more;
    spells = refl;
  }
  falls list part parts caught is once (inr (link, rest, unsent, caught_is, moved_is, more)) =
      let late = said_all (map out_of unsent) in
      let both : moved_in part ≡ said_all link ++ late = ap said_all moved_is ∙ flat_map-append said_by link (map out_of unsent) in
      record {
        moved = said_all link;
        waits = late ++ is.waits;
        talk_is = is.talk_is ∙ (ap (λ (l : List Saying). l ++ is.waits) both ∙ append_assoc (said_all link) late is.waits);
        go_out = all_both GoesOut late is.waits (all-out unsent) is.go_out;
        is_served = front_served (said_all link) late (subst IsServed both once);
        rest = rest;
        fall = more;
        spells = ap spelled caught_is;
      }

  none_first : (xs ys : List Saying) → [] ≡ xs ++ ys → xs ≡ []
  none_first [] ys is = refl
  none_first (x ∷ xs) ys is = cc

  -- ---- a link

  -- on a link, with what comes before it comes up and what is told as it goes down
  reads_on : (between ahead : List Occurrence) (list : List channels.Occurrence) (first last : ServerProfile) (so : Woven (server_profile settings content) (hosts_ask.servers settings content) list first last) (parts : List (List Talk)) (caught : List (List Pdu)) → AsksNoChannels (server_profile settings content) (hosts_ask.servers settings content)
      → first.endpoints ≡ [] → AreUttered (policy settings true) list → CarriesOneOn rfcomm_psm (policy settings true) list → AllByRecursion Still between → AllByRecursion Quiet ahead → AllByRecursion NoPacket (between ++ (woven so.weave no_channels first ++ ahead))
      → (f : Fallen list parts caught) → IsReadOn settings settings.mps (between ++ (woven so.weave no_channels first ++ ahead)) (record { transport = Rfcomm; moved = f.moved })
  reads_on between ahead list first last so parts caught nothing none uttered one still quiet packets f =
      let link = woven so.weave no_channels first in
      let carries = λ (psm : ℕ) (aside : IsAside psm) (is : psm ≡ rfcomm_psm). aside.1 is in
      let behind = muxes_end_last rfcomm_psm settings content (hosts_ask.servers settings content) list first last so carries nothing one in
      let moves : moves_in rfcomm_psm link ≡ spoken party one.channel (run_of (policy settings true) list).said = link-moves rfcomm_psm settings content party list so.weave first so.list_is none carries one refl uttered in
      record {
        said = (run_of (policy settings true) list).said;
        waits = f.waits;
        talk_is = f.talk_is;
        go_out = f.go_out;
        is_served = f.is_served;
        channel = one.channel;
        psm_is = one.psm_is;
        alone = one.alone;
        sdus_are = filter_map-append (move_on rfcomm_psm) between (link ++ ahead)
            ∙ (ap₂ (λ (a b : List Spoken). a ++ b) (none_move between (still_quiet between still)) (filter_map-append (move_on rfcomm_psm) link ahead ∙ ap₂ (λ (a b : List Spoken). a ++ b) moves (none_move ahead quiet))
            ∙ append-nil (spoken party one.channel (run_of (policy settings true) list).said));
        aside = aside_all (between ++ (link ++ ahead)) packets;
        last = still_closes between (link ++ ahead) still (link_closes link ahead behind quiet);
      }

  -- while no link is up
  reads_none : (between : List Occurrence) → AllByRecursion Still between → AllByRecursion NoPacket between → IsReadOn settings settings.mps between (record { transport = Rfcomm; moved = [] })
  reads_none between still packets = record {
    said = [];
    waits = [];
    talk_is = refl;
    go_out = tt;
    is_served = record { asks_for_none = tt; given_once = tt };
    channel = record { psm = rfcomm_psm; own = 0; peer = 0 };
    psm_is = refl;
    alone = tt;
    sdus_are = none_move between (still_quiet between still);
    aside = aside_all between packets;
    last = quiet_closes between (still_quiet between still);
  }

  -- ---- all links

  pub record Reads (list : List Occurrence) (caught : List (List Pdu)) : Type 0 where
    pub links : List CarriedLink
    pub are : AllZip (IsReadOn settings settings.mps) (links_of list) links
    pub spells : objects_moved settings settings.mps links ≡ spelled caught

  abbrev AllFed : List Span → List channels.Occurrence → List Feed → (first last : ServerProfile) → Type 0
  AllFed spans now feeds first last = AreFed (server_profile settings content) (hosts_ask.servers settings content) spans now feeds first last

  abbrev Span' : Span → ServerProfile → Type 0
  Span' span first = FedSpan (server_profile settings content) (hosts_ask.servers settings content) span first

  abbrev behind : (span : Span) (first : ServerProfile) → FedSpan (server_profile settings content) (hosts_ask.servers settings content) span first → ServerProfile
  behind span first here = behind_span (server_profile settings content) (hosts_ask.servers settings content) span first here

  abbrev turned_on : (span : Span) (first : ServerProfile) → FedSpan (server_profile settings content) (hosts_ask.servers settings content) span first → List Occurrence
  turned_on span first here = served here.mid (turned_feeds here.circumstances span.event (values_after P no_channels span.list))

  -- a link, what is told as it turns, and what comes after that
  span_served : (span : Span) (first : ServerProfile) (here : FedSpan (server_profile settings content) (hosts_ask.servers settings content) span first) (feeds later : List Feed)
      → feeds ≡ span_feeds (server_profile settings content) (hosts_ask.servers settings content) span first here ++ later
      → served first feeds ≡ (woven here.so.woven.weave no_channels first ++ turned_on span first here) ++ served (behind span first here) later
  span_served span first here feeds later is =
      let B = server_profile settings content in
      let asks = hosts_ask.servers settings content in
      let turns = turned_feeds here.circumstances span.event (values_after P no_channels span.list) in
      let ahead = span_feeds B asks span first here in
      ap (served first) is
      ∙ (served-both settings content ahead later first
      ∙ (ap (λ (p : ServerProfile). served first ahead ++ served p later) (span_so B asks span first here)
      ∙ ap (λ (l : List Occurrence). l ++ served (behind span first here) later)
      (served-both settings content here.here turns first
      ∙ (ap (λ (p : ServerProfile). served first here.here ++ served p turns) (here_so B asks span first here) ∙ ap (λ (l : List Feed). served first l ++ turned_on span first here) here.so.feeds_are))))

  -- between two links nothing is said
  between_quiet : (list : List channels.Occurrence) (feeds : List Feed) (first last : ServerProfile) (so : WovenFed (server_profile settings content) (hosts_ask.servers settings content) list feeds first last) → AllByRecursion HearsNothing list → AllByRecursion Still (woven so.woven.weave no_channels first)
  between_quiet list feeds first last so deaf =
      still_all (woven so.woven.weave no_channels first) (subst (λ (l : List Feed). AllByRecursion IsStill (served first l)) so.feeds_are (between_still settings content (hosts_ask.servers settings content) list feeds first last so deaf))

  between_spells : (list : List channels.Occurrence) (first last : ServerProfile) (so : Woven (server_profile settings content) (hosts_ask.servers settings content) list first last) (parts : List (List Talk)) (caught : List (List Pdu)) → first.endpoints ≡ [] → AllByRecursion IsNoPdu list
      → (f : Fallen list parts caught) → spelled caught ≡ spelled f.rest
  between_spells list first last so parts caught none quiet f =
      let nothing : (run_of P list).said ≡ [] = ap (λ (l : List channels.Occurrence). (run_of P l).said) so.list_is ∙ none-said rfcomm_psm settings content so.weave first none (subst (AllByRecursion IsNoPdu) so.list_is quiet) in
      let still : f.moved ≡ [] = none_first f.moved f.waits (sym (ap spoken_of nothing) ∙ f.talk_is) in
      f.spells ∙ ap (λ (l : List Saying). objects party l ++ spelled f.rest) still

  no_pdus : (list : List channels.Occurrence) → AllByRecursion HearsNothing list → AllByRecursion IsNoPdu list
  no_pdus [] deaf = tt
  no_pdus (channels.Comes pdu ∷ list) deaf = absurd deaf.0
  no_pdus (channels.Connects psm ∷ list) deaf = (tt, no_pdus list deaf.1)
  no_pdus (channels.AsksFeatures ∷ list) deaf = (tt, no_pdus list deaf.1)
  no_pdus (channels.Disconnects own ∷ list) deaf = (tt, no_pdus list deaf.1)
  no_pdus (channels.Sends own sdu ∷ list) deaf = (tt, no_pdus list deaf.1)
  no_pdus (channels.Gives pdu ∷ list) deaf = (tt, no_pdus list deaf.1)
  no_pdus (channels.Fires ∷ list) deaf = (tt, no_pdus list deaf.1)
  no_pdus (channels.Tells ∷ list) deaf = (tt, no_pdus list deaf.1)

  pub reads_all : AsksNoChannels (server_profile settings content) (hosts_ask.servers settings content) → (spans : List Span) (now : List channels.Occurrence) (feeds : List Feed) (first last : ServerProfile) (parts : List (List Talk)) (caught : List (List Pdu)) → AllFed spans now feeds first last → first.endpoints ≡ []
      → AreTimely false (all_marks spans now) → AllZip (IsTalkOf (policy settings true)) (lists_of spans now) parts → AllByRecursion (λ part. IsServed (moved_in part)) parts → FallTo parts caught → AllByRecursion (AreUttered (policy settings true)) (lists_of spans now)
      → ((number : ℕ) → CarriesOneOn rfcomm_psm (policy settings true) (get_or (lists_of spans now) number [])) → AllByRecursion NoPacket (served first feeds) → Reads (served first feeds) caught
  reads_all nothing [] now feeds first last [] caught so none timely talks once fall uttered muxes packets = absurd talks
  reads_all nothing [] now feeds first last (part ∷ other ∷ parts) caught so none timely talks once fall uttered muxes packets = absurd talks.1
  reads_all nothing [] now feeds first last (part ∷ []) caught so none timely talks once fall uttered muxes packets =
      let deaf = is_deaf_now now timely in
      let quiet = no_pdus now deaf in
      let f = falls now part [] caught talks.0 once.0 fall in
      let still : AllByRecursion Still (served first feeds) = subst (λ (l : List Feed). AllByRecursion Still (served first l)) (sym so.feeds_are) (between_quiet now feeds first last so deaf) in
      record {
        links = record { transport = Rfcomm; moved = [] } ∷ [];
        are = subst (λ (l : List (List Occurrence)). AllZip (IsReadOn settings settings.mps) l (record { transport = Rfcomm; moved = [] } ∷ [])) (sym (links_last (served first feeds) [] (quiet_lasts (served first feeds) (still_quiet (served first feeds) still))))
            (reads_none (served first feeds) still packets, tt);
        spells = sym (between_spells now first last so.woven [] caught none quiet f ∙ ap spelled f.fall);
      }
  reads_all nothing (up ∷ spans) now feeds first last [] caught so none timely talks once fall uttered muxes packets = absurd talks
  reads_all nothing (up ∷ []) now feeds first last (part ∷ []) caught so none timely talks once fall uttered muxes packets = absurd talks.1
  reads_all nothing (up ∷ []) now feeds first last (part ∷ link ∷ other ∷ parts) caught so none timely talks once fall uttered muxes packets = absurd talks.1.1
  reads_all nothing (up ∷ []) now feeds first last (part ∷ link ∷ []) caught (here, later, is, so) none timely talks once fall uttered muxes packets =
      let rises = is_up up [] now timely in
      let deaf = is_deaf up [] now rises timely in
      let quiet = no_pdus up.list deaf.deaf in
      let f = falls up.list part (link ∷ []) caught talks.0 once.0 fall in
      let g = falls now link [] f.rest talks.1.0 once.1.0 f.fall in
      let mid = behind up first here in
      let new : mid.endpoints ≡ [] = new_server here.circumstances up.event (values_after P no_channels up.list) here.mid in
      let between = woven here.so.woven.weave no_channels first in
      let on = woven so.woven.weave no_channels mid in
      let still = between_quiet up.list here.here first here.mid here.so deaf.deaf in
      let list_is : served first feeds ≡ between ++ (on ++ []) =
      span_served up first here feeds later is
      ∙ (ap₂ (λ (a b : List Occurrence). (between ++ a) ++ b) (turns_up here.circumstances up.event (values_after P no_channels up.list) here.mid rises) (ap (served mid) so.feeds_are)
      ∙ ap₂ (λ (a b : List Occurrence). a ++ b) (append-nil between) (sym (append-nil on))) in
      let packets' : AllByRecursion NoPacket (between ++ (on ++ [])) = subst (AllByRecursion NoPacket) list_is packets in
      let lasts : AllByRecursion Lasts (between ++ (on ++ [])) = all_both Lasts between (on ++ []) (quiet_lasts between (still_quiet between still)) (all_both Lasts on [] (link_lasts so.woven.weave no_channels mid so.woven.on_link) tt) in
      record {
        links = record { transport = Rfcomm; moved = g.moved } ∷ [];
        are = subst (λ (l : List Occurrence). AllZip (IsReadOn settings settings.mps) (links_of l) (record { transport = Rfcomm; moved = g.moved } ∷ [])) (sym list_is)
            (subst (λ (l : List (List Occurrence)). AllZip (IsReadOn settings settings.mps) l (record { transport = Rfcomm; moved = g.moved } ∷ [])) (sym (links_last (between ++ (on ++ [])) [] lasts))
            (reads_on between [] now mid last so.woven [] f.rest nothing new uttered.1.0 (muxes 1) still tt packets' g, tt));
        spells = sym (between_spells up.list first here.mid here.so.woven (link ∷ []) caught none quiet f ∙ (g.spells ∙ ap (λ (l : List (List Pdu)). objects party g.moved ++ spelled l) g.fall));
      }
  reads_all nothing (up ∷ down ∷ spans) now feeds first last (part ∷ []) caught so none timely talks once fall uttered muxes packets = absurd talks.1
  reads_all nothing (up ∷ down ∷ spans) now feeds first last (part ∷ link ∷ parts) caught (here, later, is, (there, rest, rest_is, so)) none timely talks once fall uttered muxes packets =
      let rises = is_up up (down ∷ spans) now timely in
      let deaf = is_deaf up (down ∷ spans) now rises timely in
      let drops = goes_down down spans now deaf.rest in
      let quiet = no_pdus up.list deaf.deaf in
      let f = falls up.list part (link ∷ parts) caught talks.0 once.0 fall in
      let g = falls down.list link parts f.rest talks.1.0 once.1.0 f.fall in
      let mid = behind up first here in
      let after = behind down mid there in
      let new : mid.endpoints ≡ [] = new_server here.circumstances up.event (values_after P no_channels up.list) here.mid in
      let again : after.endpoints ≡ [] = new_server there.circumstances down.event (values_after P no_channels down.list) there.mid in
      let between = woven here.so.woven.weave no_channels first in
      let on = woven there.so.woven.weave no_channels mid in
      let still = between_quiet up.list here.here first here.mid here.so deaf.deaf in
      let turns = turns_down there.circumstances down.event (values_after P no_channels down.list) there.mid drops in
      let whole = between ++ (on ++ turns.ahead) in
      let list_is : served first feeds ≡ whole ++ LinkDown ∷ served after rest =
      span_served up first here feeds later is
      ∙ (ap₂ (λ (a b : List Occurrence). (between ++ a) ++ b) (turns_up here.circumstances up.event (values_after P no_channels up.list) here.mid rises) (span_served down mid there later rest rest_is)
      ∙ (ap (λ (l : List Occurrence). l ++ ((on ++ turned_on down mid there) ++ served after rest)) (append-nil between)
      ∙ (ap (λ (l : List Occurrence). between ++ ((on ++ l) ++ served after rest)) turns.is
      ∙ (ap (λ (l : List Occurrence). between ++ (l ++ served after rest)) (sym (append_assoc on turns.ahead (LinkDown ∷ [])))
      ∙ (ap (λ (l : List Occurrence). between ++ l) (append_assoc (on ++ turns.ahead) (LinkDown ∷ []) (served after rest)) ∙ sym (append_assoc between (on ++ turns.ahead) (LinkDown ∷ served after rest))))))) in
      let split = all_ahead NoPacket whole (LinkDown ∷ served after rest) (subst (AllByRecursion NoPacket) list_is packets) in
      let lasts : AllByRecursion Lasts whole =
      all_both Lasts between (on ++ turns.ahead) (quiet_lasts between (still_quiet between still)) (all_both Lasts on turns.ahead (link_lasts there.so.woven.weave no_channels mid there.so.woven.on_link) (quiet_lasts turns.ahead turns.quiet)) in
      let more = reads_all nothing spans now rest after last parts g.rest so again (is_down down spans now drops deaf.rest) talks.1.1 once.1.1 g.fall uttered.1.1 (λ number. muxes (suc (suc number))) split.1.1 in
      record {
        links = record { transport = Rfcomm; moved = g.moved } ∷ more.links;
        are = subst (λ (l : List Occurrence). AllZip (IsReadOn settings settings.mps) (links_of l) (record { transport = Rfcomm; moved = g.moved } ∷ more.links)) (sym list_is)
            (subst (λ (l : List (List Occurrence)). AllZip (IsReadOn settings settings.mps) l (record { transport = Rfcomm; moved = g.moved } ∷ more.links)) (sym (links_down whole [] (served after rest) lasts))
            (reads_on between turns.ahead down.list mid there.mid there.so.woven parts f.rest nothing new uttered.1.0 (muxes 1) still turns.quiet split.0 g, more.are));
        spells = sym (between_spells up.list first here.mid here.so.woven (link ∷ parts) caught none quiet f ∙ (g.spells ∙ ap (λ (l : List Object). objects party g.moved ++ l) (sym more.spells)));
      }
