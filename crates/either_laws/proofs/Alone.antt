-- What the inbox of a server gains on one link, over either transport, where it is as a new one before that.
use Rattle.std.proofs.Common.{◌≡◌, ◌⊎◌, inl, inr, true, false, List, [], ◌∷◌, ◌++◌, Option, refl, sym, ap, subst, ◌∙◌, append-nil}
use Rattle.std.specs.List.{AllByRecursion, AllZip, flat_map}
use Rattle.request_laws.specs.bt_base.specs.declared.settings.Settings.{Settings}
use Rattle.request_laws.specs.bt_base.specs.declared.settings.Transport.{Transport}
use Rattle.request_laws.specs.bt_base.specs.declared.settings.Transport.TheVariants.{L2cap, Rfcomm}
use Rattle.request_laws.specs.bt_base.specs.Objects.{Object, Contents}
use Rattle.request_laws.specs.capture.specs.Pdus.{Pdu}
use Rattle.request_laws.specs.link_talk.specs.declared.channel.Channel.{Channel}
use Rattle.request_laws.specs.link_talk.specs.ObjectsHeard.{objects}
use Rattle.request_laws.specs.link_talk.specs.Sayings.{Saying}
use Rattle.request_laws.specs.channel_model.specs.Policies.{policy}
use Rattle.request_laws.specs.channel_model.specs.Value.{Channels}
use Rattle.request_laws.specs.channel_laws.specs.Frames.{AreUttered}
use Rattle.request_laws.specs.channel_laws.specs.Runs as channels
use Rattle.request_laws.specs.channel_laws.specs.Runs.{run_of}
use Rattle.request_laws.specs.channel_laws.specs.Singly.{AsksForNoChannel}
use Rattle.request_laws.specs.push_model.specs.Server.{object_psm, rfcomm_psm}
use Rattle.request_laws.specs.push_laws.specs.Gains.{objects as spelled_by}
use Rattle.request_laws.specs.push_laws.specs.Laws.{new_over}
use Rattle.request_laws.specs.push_laws.specs.Occurrences.{Occurrence, LinkDown, Answering}
use Rattle.request_laws.specs.push_laws.specs.Premises.{AllMayCome}
use Rattle.request_laws.specs.world_model.specs.Machines.{LinkEvent, Up, Down}
use Rattle.request_laws.specs.world_model.specs.Talks.{Talk}
use Rattle.request_laws.specs.host_model.specs.Circumstances.{Circumstance}
use Rattle.request_laws.specs.host_model.specs.Servers.{ServerProfile, server_profile}
use Rattle.request_laws.specs.host_laws.specs.Calm.{pdus_in}
use Rattle.request_laws.specs.host_laws.specs.Carriers.{reader}
use Rattle.request_laws.specs.host_laws.specs.Fed.{WovenFed, turned_feeds, FedSpan, span_feeds, behind_span, AreFed}
use Rattle.request_laws.specs.host_laws.specs.Feeds.{Feed}
use Rattle.request_laws.specs.host_laws.specs.Gaining.{OneObjectChannel}
use Rattle.request_laws.specs.host_laws.specs.GainingOver.{CarriedOne, CarriesOne, IsNoPdu}
use Rattle.request_laws.specs.host_laws.specs.Lives.{Span, all_marks}
use Rattle.request_laws.specs.host_laws.specs.OneCarrier.{CarriesAlone}
use Rattle.request_laws.specs.host_laws.specs.OverLinks.{AreTimely, moved_in, IsTalkOf}
use Rattle.request_laws.specs.host_laws.specs.Serving.{served_from}
use Rattle.request_laws.specs.host_laws.specs.Spoken.{IsServed}
use Rattle.request_laws.specs.host_laws.proofs.Asking.{hosts_ask}
use Rattle.request_laws.specs.host_laws.proofs.Carriers.{read_by_carriers}
use Rattle.request_laws.specs.host_laws.proofs.Gains.{gain, objects-are_gained}
use Rattle.request_laws.specs.host_laws.proofs.InOrder.{asks-nothing}
use Rattle.orderly_laws.specs.unit_laws.specs.scenario_laws.specs.Coming.{FallTo}
use Rattle.request_laws.specs.BothFed.{GrantsAll, ComesNone, IsDown}
use Rattle.request_laws.proofs.AlongStreams.{none_carry}
use Rattle.request_laws.proofs.Feeding.{DownServed, up_served, down_served, all_both}
use Rattle.request_laws.proofs.Paired.{lists_of}
use Rattle.request_laws.proofs.ReadLinks.{spelled, Reads, reads_all}
use Rattle.request_laws.proofs.Silent.{IsStill}
use Rattle.carried_laws.specs.Orderly.{IsInOrder}
use Rattle.orderly_laws.specs.Carried.{passed_in}
use Rattle.orderly_laws.proofs.Framing.{FitLink}
use Rattle.orderly_laws.proofs.Linking.{ReadLink, AllRead, AllCarry, NoneMuxed, plain_at, all-carry, span_served, value_at}
use Rattle.orderly_laws.proofs.Passing.{muxed}
use Rattle.behind_laws.proofs.Gaining.{Of, follow-of, none-muxed}
use Rattle.behind_laws.proofs.Linking.{HandsObjectsUp, AllReadLinks, AllHandUp}
use Rattle.behind_laws.proofs.Weaving.{ReadsLink}
use Rattle.either_laws.proofs.Lives.{BeginsAnew, AllFed, direct_comes, turn_comes, carried_comes}
use Rattle.either_laws.proofs.LinkReads.{none_moved, bare_follows, direct_read, turn_read}

-- ---- what is so of a link

-- channels of objects come one behind the other, and requests on each of them one at a time
pub record TurnLink (settings : Settings) (list : List channels.Occurrence) : Type 0 where
  pub of : Of settings list
  pub read : ReadsLink settings list

abbrev pub Fits : Settings → Transport → List channels.Occurrence → List Talk → Type 0
Fits settings L2cap list part = (ReadLink settings list × IsServed (moved_in part)) ⊎ TurnLink settings list
Fits settings Rfcomm list part = FitLink settings list × IsServed (moved_in part)

-- it is orderly over a transport, and its PDUs spell these
pub record LinkOf (settings : Settings) (list : List channels.Occurrence) : Type 0 where
  pub transport : Transport
  pub part : List Talk
  pub is_talk : IsTalkOf (policy settings true) list part
  pub uttered : AreUttered (policy settings true) list
  pub none : AllByRecursion AsksForNoChannel list
  pub told : (run_of (policy settings true) list).value.events ≡ []
  pub fits : Fits settings transport list part
  pub gained : List Object
  pub spells : objects (reader settings settings.mps transport) (moved_in part) ≡ gained

-- ---- before a link nothing is said, so that is orderly over both

pub record IsQuietList (settings : Settings) (list : List channels.Occurrence) : Type 0 where
  pub link : LinkOf settings list
  pub nothing : (run_of (policy settings true) list).said ≡ []
  pub bare : AllByRecursion IsNoPdu list

alone_in : (settings : Settings) (list : List channels.Occurrence) (channel : Channel) → (run_of (policy settings true) list).said ≡ [] → CarriesAlone channel (run_of (policy settings true) list).said
alone_in settings list channel nothing = subst (CarriesAlone channel) (sym nothing) tt

quiet_read : (settings : Settings) (list : List channels.Occurrence) → IsQuietList settings list → ReadLink settings list
quiet_read settings list quiet =
    let channel : Channel = record { psm = object_psm; own = 0; peer = 0 } in
    record {
      talk = [];
      outs = [];
      said_is = quiet.nothing;
      go_out = tt;
      uttered = quiet.link.uttered;
      answered = tt;
      only = record { channel = channel; psm_is = refl; alone = alone_in settings list channel quiet.nothing };
      none = quiet.link.none;
      told = quiet.link.told;
    }

quiet_reads : (settings : Settings) (list : List channels.Occurrence) → IsQuietList settings list → ReadsLink settings list
quiet_reads settings list quiet =
    record { talk = []; outs = []; said_is = quiet.nothing; go_out = tt; uttered = quiet.link.uttered; answered = tt; behind = bare_follows settings list quiet.bare; told = quiet.link.told }

quiet_fit : (settings : Settings) (list : List channels.Occurrence) → IsQuietList settings list → FitLink settings list
quiet_fit settings list quiet =
    let other : Channel = record { psm = rfcomm_psm; own = 0; peer = 0 } in
    record {
      uttered = quiet.link.uttered;
      only = record { channel = other; psm_is = refl; alone = alone_in settings list other quiet.nothing };
      order = λ channel psm_is alone. subst (λ (l : List Saying). IsInOrder settings (passed_in (muxed settings) channel l)) (sym quiet.nothing) tt;
    }

empty_read : (settings : Settings) → ReadLink settings []
empty_read settings = record { talk = []; outs = []; said_is = refl; go_out = tt; uttered = tt; answered = tt; only = none_carry object_psm (policy settings true); none = tt; told = refl }

empty_reads : (settings : Settings) → ReadsLink settings []
empty_reads settings = record { talk = []; outs = []; said_is = refl; go_out = tt; uttered = tt; answered = tt; behind = tt; told = refl }

empty_fit : (settings : Settings) → FitLink settings []
empty_fit settings = record { uttered = tt; only = none_carry rfcomm_psm (policy settings true); order = λ channel psm_is alone. tt }

-- nothing moved there, and nothing is gained by it
pub quiet_moved : (settings : Settings) (content : Option Contents) (list : List channels.Occurrence) (quiet : IsQuietList settings list) → moved_in quiet.link.part ≡ []
quiet_moved settings content list quiet = none_moved settings content list quiet.link.part quiet.link.is_talk quiet.nothing

quiet_served : (settings : Settings) (content : Option Contents) (list : List channels.Occurrence) (quiet : IsQuietList settings list) → IsServed (moved_in quiet.link.part)
quiet_served settings content list quiet = subst IsServed (sym (quiet_moved settings content list quiet)) (record { asks_for_none = tt; given_once = tt })

pub quiet_gained : (settings : Settings) (content : Option Contents) (list : List channels.Occurrence) (quiet : IsQuietList settings list) → quiet.link.gained ≡ []
quiet_gained settings content list quiet = sym quiet.link.spells ∙ ap (objects (reader settings settings.mps quiet.link.transport)) (quiet_moved settings content list quiet)

-- ---- a stretch of its life

still_none : (list : List Occurrence) → AllByRecursion IsStill list → AllByRecursion ComesNone list
still_none [] still = tt
still_none (one ∷ list) still = (still.0.come, still_none list still.1)

module _ (settings : Settings) (content : Option Contents) where
  pub record LinkGains (stored : List Object) (first : ServerProfile) (feeds : List Feed) (gained : List Object) : Type 0 where
    pub comes : AllMayCome settings [] (new_over settings stored) (Answering first.inbox.answers ∷ served_from settings content first feeds)
    pub reads : spelled_by settings (served_from settings content first feeds) ≡ gained

  module _ (stored : List Object) (spans : List Span) (now : List channels.Occurrence) (feeds : List Feed) (first last : ServerProfile) (so : AreFed (server_profile settings content) (hosts_ask.servers settings content) spans now feeds first last) (begins : BeginsAnew settings stored first) (timely : AreTimely false (all_marks spans now)) (grants : AllByRecursion GrantsAll feeds) where
    -- over L2CAP
    direct_gains : AllRead settings spans → ReadLink settings now
        → (list : List channels.Occurrence) (here : List Feed) (mid end' : ServerProfile) → WovenFed (server_profile settings content) (hosts_ask.servers settings content) list here mid end' → mid.endpoints ≡ [] → (AllCarry settings spans now → CarriesOne (policy settings true) list)
        → (between tail : List Occurrence) → served_from settings content first feeds ≡ between ++ (served_from settings content mid here ++ tail) → AllByRecursion ComesNone between → AllByRecursion ComesNone tail
        → (link : LinkOf settings list) → IsServed (moved_in link.part) → objects (reader settings settings.mps L2cap) (moved_in link.part) ≡ link.gained → LinkGains stored first feeds link.gained
    direct_gains reads read list here mid end' on none pick between tail shape ahead behind link served spells =
        let life = direct_comes settings content stored spans now feeds first last so begins timely reads read grants in
        let carries = pick (all-carry settings spans now reads read timely life.few_went) in
        record {
          comes = life.comes;
          reads = objects-are_gained settings (served_from settings content first feeds) life.direct
              ∙ (ap (gain (reader settings settings.mps L2cap).packet []) shape ∙ (direct_read settings content list here mid end' on between tail link.part ahead behind carries link.told none link.is_talk served ∙ spells));
        }

    -- with channels of objects one behind the other
    turn_gains : AllReadLinks settings spans → ReadsLink settings now → AllByRecursion (λ (span : Span). NoneMuxed settings span.list) spans → NoneMuxed settings now
        → (list : List channels.Occurrence) (here : List Feed) (mid end' : ServerProfile) → WovenFed (server_profile settings content) (hosts_ask.servers settings content) list here mid end' → (AllHandUp settings spans now → HandsObjectsUp settings list)
        → (between tail : List Occurrence) → served_from settings content first feeds ≡ between ++ (served_from settings content mid here ++ tail) → AllByRecursion ComesNone between → AllByRecursion ComesNone tail
        → (link : LinkOf settings list) → TurnLink settings list → objects (reader settings settings.mps L2cap) (moved_in link.part) ≡ link.gained → LinkGains stored first feeds link.gained
    turn_gains reads read plain last_plain list here mid end' on pick between tail shape ahead behind link turn spells =
        let life = turn_comes settings content stored spans now feeds first last so begins timely reads read plain last_plain grants in
        let of = turn.of in
        let follow = follow-of settings list of (pick life.hands) in
        record {
          comes = life.comes;
          reads = objects-are_gained settings (served_from settings content first feeds) life.direct
              ∙ (ap (gain (reader settings settings.mps L2cap).packet []) shape ∙ (turn_read settings content list here mid end' on between tail link.part ahead behind follow link.told of.gives link.is_talk ∙ spells));
        }

    -- over RFCOMM
    carried_gains : AllByRecursion (λ (span : Span). FitLink settings span.list) spans → FitLink settings now → (parts : List (List Talk)) (caught : List (List Pdu)) → AllZip (IsTalkOf (policy settings true)) (lists_of spans now) parts
        → AllByRecursion (λ part. IsServed (moved_in part)) parts → FallTo parts caught → AllByRecursion (AreUttered (policy settings true)) (lists_of spans now) → (gained : List Object) → spelled settings content caught ≡ gained → LinkGains stored first feeds gained
    carried_gains fits fit parts caught talks once fall uttered gained spells =
        let life = carried_comes settings content stored spans now feeds first last so begins timely fits fit grants in
        let list = served_from settings content first feeds in
        let reads : Reads settings content list caught = reads_all settings content (asks-nothing settings content) spans now feeds first last parts caught so begins.none timely talks once fall uttered life.muxes life.packets in
        record { comes = life.comes; reads = read_by_carriers settings settings.mps list reads.links reads.are ∙ (reads.spells ∙ spells) }

  -- ---- the parts that it falls to

  abbrev moved : List Talk → List Pdu
  moved part = flat_map pdus_in part

  both_fall : (p q : List Talk) (rest : List (List Talk)) → FallTo rest [] → FallTo (p ∷ q ∷ rest) (flat_map pdus_in p ∷ flat_map pdus_in q ∷ [])
  both_fall p q rest fall = inr (moved p, moved q ∷ [], [], refl, sym (append-nil (moved p)), inr (moved q, [], [], refl, sym (append-nil (moved q)), fall))

  both_spell : (up list : List channels.Occurrence) (quiet : IsQuietList settings up) (link : LinkOf settings list) → objects (reader settings settings.mps Rfcomm) (moved_in link.part) ≡ link.gained → spelled settings content (flat_map pdus_in quiet.link.part ∷ flat_map pdus_in link.part ∷ []) ≡ link.gained
  both_spell up list quiet link spells =
      let party = reader settings settings.mps Rfcomm in
      ap (λ (l : List Saying). objects party l ++ (objects party (moved_in link.part) ++ [])) (quiet_moved settings content up quiet) ∙ (append-nil (objects party (moved_in link.part)) ∙ spells)

  -- ---- the link comes up

  module _ (up : Span) (first : ServerProfile) (here : FedSpan (server_profile settings content) (hosts_ask.servers settings content) up first) (rises : up.event ≡ Up) where
    abbrev mid : ServerProfile
    mid = behind_span (server_profile settings content) (hosts_ask.servers settings content) up first here

    up_shape : (feeds later : List Feed) → feeds ≡ span_feeds (server_profile settings content) (hosts_ask.servers settings content) up first here ++ later
        → served_from settings content first feeds ≡ served_from settings content first here.here ++ served_from settings content (behind_span (server_profile settings content) (hosts_ask.servers settings content) up first here) later
    up_shape feeds later is =
        span_served settings content up first here feeds later is
        ∙ ap (λ (l : List Occurrence). served_from settings content first here.here ++ (l ++ served_from settings content mid later)) (up_served settings content here.circumstances up.event (value_at settings content up) here.mid rises)

    -- and is there still
    pub last_gains : (stored : List Object) (now : List channels.Occurrence) (feeds later : List Feed) (last : ServerProfile) → feeds ≡ span_feeds (server_profile settings content) (hosts_ask.servers settings content) up first here ++ later
        → WovenFed (server_profile settings content) (hosts_ask.servers settings content) now later (behind_span (server_profile settings content) (hosts_ask.servers settings content) up first here) last → (behind_span (server_profile settings content) (hosts_ask.servers settings content) up first here).endpoints ≡ []
        → BeginsAnew settings stored first → AreTimely false (all_marks (up ∷ []) now) → AllByRecursion GrantsAll feeds → AllByRecursion IsStill (served_from settings content first here.here) → (quiet : IsQuietList settings up.list) (link : LinkOf settings now) → LinkGains stored first feeds link.gained
    last_gains stored now feeds later last is on none begins timely grants still quiet link = by link.transport link.fits link.spells
      where
        fed : AllFed settings content (up ∷ []) now feeds first last
        fed = (here, later, is, on)

        by : (T : Transport) → Fits settings T now link.part → objects (reader settings settings.mps T) (moved_in link.part) ≡ link.gained → LinkGains stored first feeds link.gained
        by L2cap (inl (read, served)) spells =
            direct_gains stored (up ∷ []) now feeds first last fed begins timely grants (quiet_read settings up.list quiet, tt) read now later mid last on none (λ (carry : AllCarry settings (up ∷ []) now). carry.carries) (served_from settings content first here.here) []
            (up_shape feeds later is ∙ ap (λ (l : List Occurrence). served_from settings content first here.here ++ l) (sym (append-nil (served_from settings content mid later)))) (still_none (served_from settings content first here.here) still) tt link served spells
        by L2cap (inr turn) spells =
            turn_gains stored (up ∷ []) now feeds first last fed begins timely grants (quiet_reads settings up.list quiet, tt) turn.read (plain_at settings up.list (quiet_read settings up.list quiet), tt) (none-muxed settings now turn.of) now later mid last on (λ hands. hands)
            (served_from settings content first here.here) [] (up_shape feeds later is ∙ ap (λ (l : List Occurrence). served_from settings content first here.here ++ l) (sym (append-nil (served_from settings content mid later)))) (still_none (served_from settings content first here.here) still) tt link turn spells
        by Rfcomm (fit, served) spells =
            let p = quiet.link.part in
            let q = link.part in
            carried_gains stored (up ∷ []) now feeds first last fed begins timely grants (quiet_fit settings up.list quiet, tt) fit (p ∷ q ∷ []) (moved p ∷ moved q ∷ []) (quiet.link.is_talk, (link.is_talk, tt)) (quiet_served settings content up.list quiet, (served, tt))
            (both_fall p q [] refl) (quiet.link.uttered, (link.uttered, tt)) link.gained (both_spell up.list now quiet link spells)

    -- or goes down

    module _ (down : Span) (there : FedSpan (server_profile settings content) (hosts_ask.servers settings content) down (behind_span (server_profile settings content) (hosts_ask.servers settings content) up first here)) (drops : IsDown down.event) where
      abbrev pub link_feeds : List Feed
      link_feeds = span_feeds (server_profile settings content) (hosts_ask.servers settings content) up first here
          ++ (span_feeds (server_profile settings content) (hosts_ask.servers settings content) down (behind_span (server_profile settings content) (hosts_ask.servers settings content) up first here) there ++ [])

      abbrev pub after : ServerProfile
      after = behind_span (server_profile settings content) (hosts_ask.servers settings content) down (behind_span (server_profile settings content) (hosts_ask.servers settings content) up first here) there

      pub link_fed : AllFed settings content (up ∷ down ∷ []) [] link_feeds first after
      link_fed = (here, span_feeds (server_profile settings content) (hosts_ask.servers settings content) down mid there ++ [], refl, (there, [], refl, record { woven = record { weave = []; list_is = refl; last_is = refl; on_link = tt }; feeds_are = refl }))

      turned : (circumstances : List Circumstance) (event : LinkEvent) (v : Channels) (p : ServerProfile) → IsDown event → DownServed (served_from settings content p (turned_feeds circumstances event v))
      turned circumstances Up v p is = absurd is
      turned circumstances (Down reason) v p is = down_served settings content circumstances reason v p

      pub downs : DownServed (served_from settings content there.mid (turned_feeds there.circumstances down.event (value_at settings content down)))
      downs = turned there.circumstances down.event (value_at settings content down) there.mid drops

      pub link_shape : served_from settings content first link_feeds ≡ served_from settings content first here.here ++ (served_from settings content mid there.here ++ (downs.ahead ++ LinkDown ∷ []))
      link_shape =
          let tail = span_feeds (server_profile settings content) (hosts_ask.servers settings content) down mid there ++ [] in
          up_shape link_feeds tail refl
          ∙ ap (λ (l : List Occurrence). served_from settings content first here.here ++ l)
          (span_served settings content down mid there tail [] refl ∙ ap (λ (l : List Occurrence). served_from settings content mid there.here ++ l) (append-nil _ ∙ downs.is))

      object_on : (event : LinkEvent) (list : List channels.Occurrence) → IsDown event → CarriedOne (policy settings true) event list → OneObjectChannel (policy settings true) list
      object_on Up list is one = absurd is
      object_on (Down reason) list is one = one

      pub ended_gains : (stored : List Object) → mid.endpoints ≡ [] → BeginsAnew settings stored first → AreTimely false (all_marks (up ∷ down ∷ []) []) → AllByRecursion GrantsAll link_feeds → AllByRecursion IsStill (served_from settings content first here.here)
          → (quiet : IsQuietList settings up.list) (link : LinkOf settings down.list) → LinkGains stored first link_feeds link.gained
      ended_gains stored none begins timely grants still quiet link = by link.transport link.fits link.spells
        where
          tail : List Occurrence
          tail = downs.ahead ++ LinkDown ∷ []

          by : (T : Transport) → Fits settings T down.list link.part → objects (reader settings settings.mps T) (moved_in link.part) ≡ link.gained → LinkGains stored first link_feeds link.gained
          by L2cap (inl (read, served)) spells =
              direct_gains stored (up ∷ down ∷ []) [] link_feeds first after link_fed begins timely grants (quiet_read settings up.list quiet, (read, tt)) (empty_read settings) down.list there.here mid there.mid there.so none
              (λ (carry : AllCarry settings (up ∷ down ∷ []) []). inr (object_on down.event down.list drops carry.carried.1.0)) (served_from settings content first here.here) tail link_shape
              (still_none (served_from settings content first here.here) still) (all_both ComesNone downs.ahead (LinkDown ∷ []) downs.quiet ((λ carrier. refl), tt)) link served spells
          by L2cap (inr turn) spells =
              turn_gains stored (up ∷ down ∷ []) [] link_feeds first after link_fed begins timely grants (quiet_reads settings up.list quiet, (turn.read, tt)) (empty_reads settings)
              (plain_at settings up.list (quiet_read settings up.list quiet), (none-muxed settings down.list turn.of, tt)) (plain_at settings [] (empty_read settings)) down.list there.here mid there.mid there.so
              (λ (hands : AllHandUp settings (up ∷ down ∷ []) []). hands.0) (served_from settings content first here.here) tail link_shape
              (still_none (served_from settings content first here.here) still) (all_both ComesNone downs.ahead (LinkDown ∷ []) downs.quiet ((λ carrier. refl), tt)) link turn spells
          by Rfcomm (fit, served) spells =
              let p = quiet.link.part in
              let q = link.part in
              carried_gains stored (up ∷ down ∷ []) [] link_feeds first after link_fed begins timely grants (quiet_fit settings up.list quiet, (fit, tt)) (empty_fit settings) (p ∷ q ∷ [] ∷ []) (moved p ∷ moved q ∷ [])
              (quiet.link.is_talk, (link.is_talk, (record { outer_is = refl; waits = []; talk_is = refl; go_out = tt }, tt))) (quiet_served settings content up.list quiet, (served, (record { asks_for_none = tt; given_once = tt }, tt)))
              (both_fall p q ([] ∷ []) (inl (refl, refl))) (quiet.link.uttered, (link.uttered, (tt, tt))) link.gained (both_spell up.list down.list quiet link spells)
