-- What the profile of a host goes through, in one order with what happens to its channels (this project's own).
use Rattle.std.specs.Prelude.{◌≡◌, false, List, [], ◌∷◌, ◌++◌}
use Rattle.shelf_model.specs.acl_fragments.specs.Pieces.{channel_of}
use Rattle.channel_laws.specs.channel_model.specs.declared.event.ChannelEvent.{ChannelEvent}
use Rattle.channel_laws.specs.channel_model.specs.Value.{Channels, no_channels}
use Rattle.channel_laws.specs.channel_model.specs.Calls.{link_down}
use Rattle.channel_laws.specs.channel_model.specs.Carrying.{Up as Handed, Nothing, Received}
use Rattle.channel_laws.specs.channel_model.specs.Hearing.{up}
use Rattle.channel_laws.specs.Runs.{Occurrence}
use Rattle.shelf_model.specs.world_model.specs.Machines.{LinkEvent, Up, Down, Linked}
use Rattle.shelf_model.specs.world_model.specs.Talks.{Talk}
use Rattle.shelf_model.specs.host_model.specs.Circumstances.{Circumstance}
use Rattle.shelf_model.specs.host_model.specs.Profiles.{Profile}
use Rattle.shelf_model.specs.host_model.specs.Hosts.{Host, first_host}
use Rattle.shelf_model.specs.host_model.specs.Machines.{upper}
use Rattle.host_laws.specs.Calls.{Asks, values_after}
use Rattle.host_laws.specs.Feeds.{Feed, Gifts, Learns, Receives, Happens, Sent, Steps}
use Rattle.host_laws.specs.Lives.{Span}
use Rattle.host_laws.specs.OverLinks.{OverLinks, AreGentleUp, TalksOverLinks}
use Rattle.host_laws.specs.Woven.{Strand, Hearing, Giving, Firing, Telling, Gifting, Learning, Checking, Stepping, strand_list, strand_profile, Woven, turned}

-- ---- of one thing

abbrev pub feeds_up : Handed → List Feed
feeds_up Nothing = []
feeds_up (Received own psm sdu) = Receives own psm sdu ∷ []

abbrev pub next_happening : List ChannelEvent → Channels → List Feed
next_happening [] v = []
next_happening (event ∷ events) v = Happens event (record v { events = events }) ∷ []

abbrev pub strand_feeds : Strand → Channels → List Feed
strand_feeds (Hearing pdu) v = feeds_up (up (channel_of pdu) pdu v)
strand_feeds (Giving pdu) v = []
strand_feeds Firing v = []
strand_feeds Telling v = next_happening v.events v
strand_feeds (Gifting circumstances) v = Gifts circumstances ∷ []
strand_feeds (Learning circumstances news) v = Learns circumstances news ∷ []
strand_feeds Checking v = Sent v ∷ []
strand_feeds Stepping v = Steps v ∷ []

-- ---- on a link

abbrev pub woven_feeds : {P : Type 0} (A : Profile P) → Asks A → List Strand → Channels → P → List Feed
woven_feeds A asks [] v p = []
woven_feeds A asks (strand ∷ weave) v p = strand_feeds strand v ++ woven_feeds A asks weave (values_after A.policy v (strand_list A asks strand v p)) (strand_profile A strand v p)

-- all that happened on a link is woven, and the profile went through what stands there
pub record WovenFed {P : Type 0} (A : Profile P) (asks : Asks A) (list : List Occurrence) (feeds : List Feed) (first last : P) : Type 0 where
  pub woven : Woven A asks list first last
  pub feeds_are : feeds ≡ woven_feeds A asks woven.weave no_channels first

-- ---- over all links

-- each event with the channels as it is taken from them
abbrev pub happenings : Channels → List ChannelEvent → List Feed
happenings v [] = []
happenings v (event ∷ events) = Happens event (record v { events = events }) ∷ happenings (record v { events = events }) events

-- as the link comes up or goes down
abbrev pub turned_feeds : List Circumstance → LinkEvent → Channels → List Feed
turned_feeds circumstances Up v = Learns circumstances (Linked Up) ∷ []
turned_feeds circumstances (Down reason) v = happenings (link_down v) (link_down v).events ++ Learns circumstances (Linked (Down reason)) ∷ []

-- one link: all that its profile went through there, what it was given as the link turned, and how it was before that
pub record FedSpan {P : Type 0} (A : Profile P) (asks : Asks A) (span : Span) (first : P) : Type 0 where
  pub here : List Feed
  pub mid : P
  pub circumstances : List Circumstance
  pub so : WovenFed A asks span.list here first mid

abbrev pub span_feeds : {P : Type 0} (A : Profile P) (asks : Asks A) (span : Span) (first : P) → FedSpan A asks span first → List Feed
span_feeds A asks span first fed = fed.here ++ turned_feeds fed.circumstances span.event (values_after A.policy no_channels span.list)

abbrev pub behind_span : {P : Type 0} (A : Profile P) (asks : Asks A) (span : Span) (first : P) → FedSpan A asks span first → P
behind_span A asks span first fed = turned A fed.circumstances span.event (values_after A.policy no_channels span.list) fed.mid

abbrev pub AreFed : {P : Type 0} (A : Profile P) → Asks A → List Span → List Occurrence → List Feed → (first last : P) → Type 0
AreFed A asks [] now feeds first last = WovenFed A asks now feeds first last
AreFed A asks (span ∷ spans) now feeds first last =
    (fed : FedSpan A asks span first) × (later : List Feed) × (feeds ≡ span_feeds A asks span first fed ++ later) × AreFed A asks spans now later (behind_span A asks span first fed) last

-- ---- the law

-- a host lives so that its talk falls to its links, and what happened on them and all that its profile went through are in one order
pub record TalksFed {P : Type 0} (A : Profile P) (asks : Asks A) (talk : List Talk) (now : Host P) : Type 0 where
  pub so : TalksOverLinks A asks talk now
  pub fed : AreFed A asks so.lives.spans so.lives.now so.lives.feeds A.first now.profile

abbrev pub HostsTalkFed : {P : Type 0} → Profile P → Type 0
HostsTalkFed {P} A = (asks : Asks A) (talk : List Talk) (now : Host P) (over : OverLinks (upper A) talk now) → AreGentleUp A false over.acts (first_host A) → TalksFed A asks talk now
