-- What a host with a tape goes through, one without it goes through that is given what the tape tells.
use Rattle.std.proofs.Common.{◌≡◌, List, [], ◌∷◌, ◌++◌, refl, sym, ap, ap₂, subst, ◌∙◌}
use Rattle.std.specs.List.{AllByRecursion}
use Rattle.std.proofs.lemmas.List.Sums.{fold-append}
use Rattle.inbox_laws.specs.acl_fragments.specs.Pieces.{channel_of}
use Rattle.inbox_laws.specs.channel_model.specs.declared.event.ChannelEvent.{ChannelEvent}
use Rattle.inbox_laws.specs.channel_model.specs.Value.{Channels, no_channels}
use Rattle.inbox_laws.specs.channel_model.specs.Calls.{link_down}
use Rattle.inbox_laws.specs.channel_model.specs.Carrying.{Up as Handed, Nothing, Received}
use Rattle.inbox_laws.specs.channel_model.specs.Hearing.{up}
use Rattle.inbox_laws.specs.channel_laws.specs.Runs.{Occurrence}
use Rattle.inbox_laws.specs.world_model.specs.Machines.{LinkEvent, Up, Down, News, Linked}
use Rattle.inbox_laws.specs.world_model.specs.Talks.{Talk}
use Rattle.inbox_laws.specs.host_model.specs.Circumstances.{Circumstance}
use Rattle.inbox_laws.specs.host_model.specs.Hosts.{Host, handed, tells_each}
use Rattle.inbox_laws.specs.host_model.specs.Profiles.{Profile}
use Rattle.inbox_laws.specs.host_laws.specs.Calls.{Asks, values_after}
use Rattle.inbox_laws.specs.host_laws.specs.Fed.{feeds_up, next_happening, strand_feeds, woven_feeds, WovenFed, happenings, turned_feeds, behind_span, AreFed, TalksFed}
use Rattle.inbox_laws.specs.host_laws.specs.Feeds.{Feed, Gifts, Learns, Receives, Happens, Sent, Steps, fed, all_fed, asked_with, asked_from, Tiding, tidings_in, tidings_of}
use Rattle.inbox_laws.specs.host_laws.specs.Lives.{Span}
use Rattle.inbox_laws.specs.host_laws.specs.Woven.{Strand, Hearing, Giving, Firing, Telling, Gifting, Learning, Checking, Stepping, IsOnLink, told_next, strand_list, strand_profile, woven_list, woven_profile, turned}
use Rattle.tape_laws.specs.Taped.{Tape, Taped, taped, taped_asks, untaped_feed, untaped, TapedHostsTalkSo}

-- ---- a profile, of all strands

module _ {P : Type 0} (A : Profile P) where
  up_fed : (one : Handed) (p : P) → all_fed A p (feeds_up one) ≡ handed A one p
  up_fed Nothing p = refl
  up_fed (Received own psm sdu) p = refl

  next_fed : (events : List ChannelEvent) (v : Channels) (p : P) → all_fed A p (next_happening events v) ≡ told_next A events v p
  next_fed [] v p = refl
  next_fed (event ∷ events) v p = refl

  strand_fed : (strand : Strand) (v : Channels) (p : P) → all_fed A p (strand_feeds strand v) ≡ strand_profile A strand v p
  strand_fed (Hearing pdu) v p = up_fed (up (channel_of pdu) pdu v) p
  strand_fed (Giving pdu) v p = refl
  strand_fed Firing v p = refl
  strand_fed Telling v p = next_fed v.events v p
  strand_fed (Gifting circumstances) v p = refl
  strand_fed (Learning circumstances news) v p = refl
  strand_fed Checking v p = refl
  strand_fed Stepping v p = refl

  weave_fed : (asks : Asks A) (weave : List Strand) (v : Channels) (p : P) → all_fed A p (woven_feeds A asks weave v p) ≡ woven_profile A asks weave v p
  weave_fed asks [] v p = refl
  weave_fed asks (strand ∷ weave) v p =
      let w = values_after A.policy v (strand_list A asks strand v p) in
      let q = strand_profile A strand v p in
      fold-append (fed A) p (strand_feeds strand v) (woven_feeds A asks weave w q) ∙ (ap (λ (at : P). all_fed A at (woven_feeds A asks weave w q)) (strand_fed strand v p) ∙ weave_fed asks weave w q)

  down_fed : (circumstances : List Circumstance) (news : News) (events : List ChannelEvent) (v : Channels) (p : P) → all_fed A p (happenings v events ++ Learns circumstances news ∷ []) ≡ A.told circumstances news (tells_each A events v p)
  down_fed circumstances news [] v p = refl
  down_fed circumstances news (event ∷ events) v p = let w : Channels = record v { events = events } in down_fed circumstances news events w (A.happened event w p)

  turn_fed : (circumstances : List Circumstance) (event : LinkEvent) (v : Channels) (p : P) → all_fed A p (turned_feeds circumstances event v) ≡ turned A circumstances event v p
  turn_fed circumstances Up v p = refl
  turn_fed circumstances (Down reason) v p = down_fed circumstances (Linked (Down reason)) (link_down v).events (link_down v) p

-- ---- with a tape and without

module _ {P T : Type 0} (A : Profile P) (tape : Tape P T) where
  abbrev B : Profile (Taped P T)
  B = taped A tape

  abbrev Now : Type 0
  Now = Taped P T

  abbrev bare : Now → List Feed → List Feed
  bare now feeds = untaped A tape now feeds

  fed_so : (now : Now) (feed : Feed) → (fed B now feed).profile ≡ fed A now.profile (untaped_feed tape now feed)
  fed_so now (Gifts circumstances) = refl
  fed_so now (Learns circumstances news) = refl
  fed_so now (Receives own psm sdu) = refl
  fed_so now (Happens event v) = refl
  fed_so now (Sent v) = refl
  fed_so now (Steps v) = refl

  pub all_so : (feeds : List Feed) (now : Now) → (all_fed B now feeds).profile ≡ all_fed A now.profile (bare now feeds)
  all_so [] now = refl
  all_so (feed ∷ feeds) now = let next = fed B now feed in all_so feeds next ∙ ap (λ (p : P). all_fed A p (bare next feeds)) (fed_so now feed)

  tiding_so : (now : Now) (feed : Feed) → tidings_in (untaped_feed tape now feed) ≡ tidings_in feed
  tiding_so now (Gifts circumstances) = refl
  tiding_so now (Learns circumstances news) = refl
  tiding_so now (Receives own psm sdu) = refl
  tiding_so now (Happens event v) = refl
  tiding_so now (Sent v) = refl
  tiding_so now (Steps v) = refl

  pub tidings_so : (feeds : List Feed) (now : Now) → tidings_of (bare now feeds) ≡ tidings_of feeds
  tidings_so [] now = refl
  tidings_so (feed ∷ feeds) now = ap₂ (λ (a b : List Tiding). a ++ b) (tiding_so now feed) (tidings_so feeds (fed B now feed))

  pub both : (xs ys : List Feed) (now : Now) → bare now (xs ++ ys) ≡ bare now xs ++ bare (all_fed B now xs) ys
  both [] ys now = refl
  both (feed ∷ xs) ys now = ap (λ (l : List Feed). untaped_feed tape now feed ∷ l) (both xs ys (fed B now feed))

  down_so : (circumstances : List Circumstance) (news : News) (events : List ChannelEvent) (v : Channels) (now : Now) → bare now (happenings v events ++ Learns circumstances news ∷ []) ≡ happenings v events ++ Learns circumstances news ∷ []
  down_so circumstances news [] v now = refl
  down_so circumstances news (event ∷ events) v now =
      let w : Channels = record v { events = events } in ap (λ (l : List Feed). Happens event w ∷ l) (down_so circumstances news events w (B.happened event w now))

  turn_so : (circumstances : List Circumstance) (event : LinkEvent) (v : Channels) (now : Now) → bare now (turned_feeds circumstances event v) ≡ turned_feeds circumstances event v
  turn_so circumstances Up v now = refl
  turn_so circumstances (Down reason) v now = down_so circumstances (Linked (Down reason)) (link_down v).events (link_down v) now

  pub each_so : (events : List ChannelEvent) (v : Channels) (now : Now) → (tells_each B events v now).profile ≡ tells_each A events v now.profile
  each_so [] v now = refl
  each_so (event ∷ events) v now = let w : Channels = record v { events = events } in each_so events w (B.happened event w now)

  turned_so : (circumstances : List Circumstance) (event : LinkEvent) (v : Channels) (now : Now) → (turned B circumstances event v now).profile ≡ turned A circumstances event v now.profile
  turned_so circumstances Up v now = refl
  turned_so circumstances (Down reason) v now = ap (λ (p : P). A.told circumstances (Linked (Down reason)) p) (each_so (link_down v).events (link_down v) now)

  -- ---- one strand

  abbrev one : Now → Strand → Strand
  one now (Hearing pdu) = Hearing pdu
  one now (Giving pdu) = Giving pdu
  one now Firing = Firing
  one now Telling = Telling
  one now (Gifting circumstances) = Gifting (tape.gives now.at now.profile)
  one now (Learning circumstances news) = Learning circumstances news
  one now Checking = Checking
  one now Stepping = Stepping

  pub handed_so : (up : Handed) (now : Now) → handed A up now.profile ≡ (handed B up now).profile
  handed_so Nothing now = refl
  handed_so (Received own psm sdu) now = refl

  next_so : (events : List ChannelEvent) (v : Channels) (now : Now) → told_next A events v now.profile ≡ (told_next B events v now).profile
  next_so [] v now = refl
  next_so (event ∷ events) v now = refl

  profile_one : (strand : Strand) (v : Channels) (now : Now) → strand_profile A (one now strand) v now.profile ≡ (strand_profile B strand v now).profile
  profile_one (Hearing pdu) v now = handed_so (up (channel_of pdu) pdu v) now
  profile_one (Giving pdu) v now = refl
  profile_one Firing v now = refl
  profile_one Telling v now = next_so v.events v now
  profile_one (Gifting circumstances) v now = refl
  profile_one (Learning circumstances news) v now = refl
  profile_one Checking v now = refl
  profile_one Stepping v now = refl

  up_bare : (up : Handed) (now : Now) → bare now (feeds_up up) ≡ feeds_up up
  up_bare Nothing now = refl
  up_bare (Received own psm sdu) now = refl

  next_bare : (events : List ChannelEvent) (v : Channels) (now : Now) → bare now (next_happening events v) ≡ next_happening events v
  next_bare [] v now = refl
  next_bare (event ∷ events) v now = refl

  feeds_one : (strand : Strand) (v : Channels) (now : Now) → bare now (strand_feeds strand v) ≡ strand_feeds (one now strand) v
  feeds_one (Hearing pdu) v now = up_bare (up (channel_of pdu) pdu v) now
  feeds_one (Giving pdu) v now = refl
  feeds_one Firing v now = refl
  feeds_one Telling v now = next_bare v.events v now
  feeds_one (Gifting circumstances) v now = refl
  feeds_one (Learning circumstances news) v now = refl
  feeds_one Checking v now = refl
  feeds_one Stepping v now = refl

  link_one : (strand : Strand) (now : Now) → IsOnLink strand → IsOnLink (one now strand)
  link_one (Hearing pdu) now on = tt
  link_one (Giving pdu) now on = tt
  link_one Firing now on = tt
  link_one Telling now on = tt
  link_one (Gifting circumstances) now on = tt
  link_one (Learning circumstances news) now on = on
  link_one Checking now on = tt
  link_one Stepping now on = tt

  module _ (asks : Asks A) where
    abbrev its : Asks B
    its = taped_asks A tape asks

    asked_one : (now : Now) (feed : Feed) → asked_with B its now feed ≡ asked_with A asks now.profile (untaped_feed tape now feed)
    asked_one now (Gifts circumstances) = refl
    asked_one now (Learns circumstances news) = refl
    asked_one now (Receives own psm sdu) = refl
    asked_one now (Happens event v) = refl
    asked_one now (Sent v) = refl
    asked_one now (Steps v) = refl

    pub asked_so : (feeds : List Feed) (now : Now) → asked_from B its now feeds ≡ asked_from A asks now.profile (bare now feeds)
    asked_so [] now = refl
    asked_so (feed ∷ feeds) now =
        let next = fed B now feed in
        ap₂ (λ (a b : List Occurrence). a ++ b) (asked_one now feed) (asked_so feeds next ∙ ap (λ (p : P). asked_from A asks p (bare next feeds)) (fed_so now feed))

    list_one : (strand : Strand) (v : Channels) (now : Now) → strand_list A asks (one now strand) v now.profile ≡ strand_list B its strand v now
    list_one (Hearing pdu) v now = refl
    list_one (Giving pdu) v now = refl
    list_one Firing v now = refl
    list_one Telling v now = refl
    list_one (Gifting circumstances) v now = refl
    list_one (Learning circumstances news) v now = refl
    list_one Checking v now = refl
    list_one Stepping v now = refl

    -- ---- a weave

    abbrev all : List Strand → Channels → Now → List Strand
    all [] v now = []
    all (strand ∷ weave) v now = one now strand ∷ all weave (values_after A.policy v (strand_list B its strand v now)) (strand_profile B strand v now)

    lists_so : (weave : List Strand) (v : Channels) (now : Now) → woven_list A asks (all weave v now) v now.profile ≡ woven_list B its weave v now
    lists_so [] v now = refl
    lists_so (strand ∷ weave) v now =
        let here = strand_list B its strand v now in
        let w = values_after A.policy v here in
        let next = strand_profile B strand v now in
        ap₂ (λ (l : List Occurrence) (p : P). l ++ woven_list A asks (all weave w next) (values_after A.policy v l) p) (list_one strand v now) (profile_one strand v now)
        ∙ ap (λ (l : List Occurrence). here ++ l) (lists_so weave w next)

    profiles_so : (weave : List Strand) (v : Channels) (now : Now) → woven_profile A asks (all weave v now) v now.profile ≡ (woven_profile B its weave v now).profile
    profiles_so [] v now = refl
    profiles_so (strand ∷ weave) v now =
        let here = strand_list B its strand v now in
        let w = values_after A.policy v here in
        let next = strand_profile B strand v now in
        ap₂ (λ (l : List Occurrence) (p : P). woven_profile A asks (all weave w next) (values_after A.policy v l) p) (list_one strand v now) (profile_one strand v now)
        ∙ profiles_so weave w next

    feeds_so : (weave : List Strand) (v : Channels) (now : Now) → bare now (woven_feeds B its weave v now) ≡ woven_feeds A asks (all weave v now) v now.profile
    feeds_so [] v now = refl
    feeds_so (strand ∷ weave) v now =
        let here = strand_list B its strand v now in
        let w = values_after A.policy v here in
        let next = strand_profile B strand v now in
        let more = woven_feeds B its weave w next in
        both (strand_feeds strand v) more now
        ∙ (ap₂ (λ (l : List Feed) (at : Now). l ++ bare at more) (feeds_one strand v now) (strand_fed B strand v now)
        ∙ (ap (λ (l : List Feed). strand_feeds (one now strand) v ++ l) (feeds_so weave w next)
        ∙ sym (ap₂ (λ (l : List Occurrence) (p : P). strand_feeds (one now strand) v ++ woven_feeds A asks (all weave w next) (values_after A.policy v l) p) (list_one strand v now) (profile_one strand v now))))

    on_so : (weave : List Strand) (v : Channels) (now : Now) → AllByRecursion IsOnLink weave → AllByRecursion IsOnLink (all weave v now)
    on_so [] v now on = tt
    on_so (strand ∷ weave) v now on = (link_one strand now on.0, on_so weave (values_after A.policy v (strand_list B its strand v now)) (strand_profile B strand v now) on.1)

    woven_so : (list : List Occurrence) (feeds : List Feed) (first last : Now) → WovenFed B its list feeds first last → WovenFed A asks list (bare first feeds) first.profile last.profile
    woven_so list feeds first last so =
        let weave = so.woven.weave in
        record {
          woven = record {
            weave = all weave no_channels first;
            list_is = so.woven.list_is ∙ sym (lists_so weave no_channels first);
            last_is = ap (λ (at : Now). at.profile) so.woven.last_is ∙ sym (profiles_so weave no_channels first);
            on_link = on_so weave no_channels first so.woven.on_link;
          };
          feeds_are = ap (λ (l : List Feed). bare first l) so.feeds_are ∙ feeds_so weave no_channels first;
        }

    -- ---- over all links

    ends_so : (list : List Occurrence) (feeds : List Feed) (first last : Now) → WovenFed B its list feeds first last → all_fed B first feeds ≡ last
    ends_so list feeds first last so = ap (λ (l : List Feed). all_fed B first l) so.feeds_are ∙ (weave_fed B its so.woven.weave no_channels first ∙ sym so.woven.last_is)

    pub spans_so : (spans : List Span) (now : List Occurrence) (feeds : List Feed) (first last : Now) → AreFed B its spans now feeds first last → AreFed A asks spans now (bare first feeds) first.profile last.profile
    spans_so [] now feeds first last so = woven_so now feeds first last so
    spans_so (span ∷ spans) now feeds first last (here, later, is, rest) =
        let v = values_after A.policy no_channels span.list in
        let behind = behind_span B its span first here in
        let news = turned_feeds here.circumstances span.event v in
        let goes : all_fed B first (here.here ++ news) ≡ behind =
        fold-append (fed B) first here.here news ∙ (ap (λ (at : Now). all_fed B at news) (ends_so span.list here.here first here.mid here.so) ∙ turn_fed B here.circumstances span.event v here.mid) in
        let ends : bare first (here.here ++ news) ≡ bare first here.here ++ news =
        both here.here news first ∙ ap (λ (l : List Feed). bare first here.here ++ l) (turn_so here.circumstances span.event v (all_fed B first here.here)) in (
          record { here = bare first here.here; mid = here.mid.profile; circumstances = here.circumstances; so = woven_so span.list here.here first here.mid here.so },
          bare behind later,
          ap (λ (l : List Feed). bare first l) is ∙ (both (here.here ++ news) later first ∙ ap₂ (λ (l : List Feed) (at : Now). l ++ bare at later) ends goes),
          subst (λ (p : P). AreFed A asks spans now (bare behind later) p last.profile) (turned_so here.circumstances span.event v here.mid) (spans_so spans now later behind last rest),
        )

-- ---- the law

unfoldable pub taped_hosts_talk_so : {P T : Type 0} (A : Profile P) (tape : Tape P T) → TapedHostsTalkSo A tape
taped_hosts_talk_so {P} {T} A tape asks talk now is =
    let lives = is.so.lives in
    let first = (taped A tape).first in
    record {
      fed = record {
        so = record {
          lives = record {
            spans = lives.spans;
            now = lives.now;
            feeds = untaped A tape first lives.feeds;
            channels_run = lives.channels_run;
            all_told = lives.all_told;
            spans_told = lives.spans_told;
            profile_is = ap (λ (at : Taped P T). at.profile) lives.profile_is ∙ all_so A tape lives.feeds first;
            tidings_are = tidings_so A tape lives.feeds first ∙ lives.tidings_are;
            asked_are = lives.asked_are ∙ asked_so A tape asks lives.feeds first;
            marks_are = lives.marks_are;
          };
          timely = is.so.timely;
          talks_are = is.so.talks_are;
        };
        fed = spans_so A tape asks lives.spans lives.now lives.feeds first now.profile is.fed;
      };
      feeds_are = refl;
      lists_are = refl;
    }

-- it goes over as many links
pub taped_spans : {P T : Type 0} (A : Profile P) (tape : Tape P T) (asks : Asks A) (talk : List Talk) (now : Host (Taped P T)) (is : TalksFed (taped A tape) (taped_asks A tape asks) talk now) → (taped_hosts_talk_so A tape asks talk now is).fed.so.lives.spans ≡ is.so.lives.spans
unfolding taped_hosts_talk_so
taped_spans A tape asks talk now is = refl
