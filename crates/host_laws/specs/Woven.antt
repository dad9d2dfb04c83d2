-- What happens to the channels of a host and what its profile goes through, in one order (this project's own).
use Rattle.std.specs.Prelude.{ℕ, ◌≡◌, false, List, [], ◌∷◌, ◌++◌}
use Rattle.std.specs.List.{AllByRecursion}
use Rattle.shelf_model.specs.acl_fragments.specs.Pieces.{channel_of}
use Rattle.channel_laws.specs.channel_model.specs.declared.event.ChannelEvent.{ChannelEvent}
use Rattle.channel_laws.specs.channel_model.specs.Value.{Channels, no_channels}
use Rattle.channel_laws.specs.channel_model.specs.Calls.{link_down}
use Rattle.channel_laws.specs.channel_model.specs.Hearing.{up}
use Rattle.channel_laws.specs.Runs.{Occurrence, Comes, Gives, Fires, Tells}
use Rattle.shelf_model.specs.world_model.specs.Machines.{LinkEvent, Up, Down, News, Linked}
use Rattle.shelf_model.specs.host_model.specs.Circumstances.{Circumstance}
use Rattle.shelf_model.specs.host_model.specs.Profiles.{Profile}
use Rattle.shelf_model.specs.host_model.specs.Hosts.{Host, first_host, tells_each, handed}
use Rattle.shelf_model.specs.host_model.specs.Machines.{upper}
use Rattle.host_laws.specs.Calls.{Asks, from_call, values_after}
use Rattle.host_laws.specs.Feeds.{tidings_by}
use Rattle.host_laws.specs.Lives.{Span}
use Rattle.host_laws.specs.OverLinks.{OverLinks, AreGentleUp, TalksOverLinks}
use Rattle.shelf_model.specs.world_model.specs.Talks.{Talk}

-- ---- one thing after the other

pub data Strand : Type 0 where
  -- a PDU comes in, and the profile has its SDU; one is given; the timer fires
  Hearing : (pdu : List ℕ) → Strand
  Giving : (pdu : List ℕ) → Strand
  Firing : Strand
  -- the profile is told what happened next; it is given what its ports will answer; it hears news
  Telling : Strand
  Gifting : (circumstances : List Circumstance) → Strand
  Learning : (circumstances : List Circumstance) (news : News) → Strand
  -- an SDU that waits no longer is sent; it takes a step, and asks for what it will
  Checking : Strand
  Stepping : Strand

-- but for what it hears of its link
abbrev pub IsOnLink : Strand → Type 0
IsOnLink (Hearing pdu) = Unit {0}
IsOnLink (Giving pdu) = Unit {0}
IsOnLink Firing = Unit {0}
IsOnLink Telling = Unit {0}
IsOnLink (Gifting circumstances) = Unit {0}
IsOnLink (Learning circumstances news) = tidings_by news ≡ []
IsOnLink Checking = Unit {0}
IsOnLink Stepping = Unit {0}

abbrev pub told_next : {P : Type 0} → Profile P → List ChannelEvent → Channels → P → P
told_next A [] v p = p
told_next A (event ∷ events) v p = A.happened event (record v { events = events }) p

-- what each does to the channels, and to the profile
abbrev pub strand_list : {P : Type 0} (A : Profile P) → Asks A → Strand → Channels → P → List Occurrence
strand_list A asks (Hearing pdu) v p = Comes pdu ∷ []
strand_list A asks (Giving pdu) v p = Gives pdu ∷ []
strand_list A asks Firing v p = Fires ∷ []
strand_list A asks Telling v p = Tells ∷ []
strand_list A asks (Gifting circumstances) v p = []
strand_list A asks (Learning circumstances news) v p = []
strand_list A asks Checking v p = []
strand_list A asks Stepping v p = from_call (asks.call v p)

abbrev pub strand_profile : {P : Type 0} → Profile P → Strand → Channels → P → P
strand_profile A (Hearing pdu) v p = handed A (up (channel_of pdu) pdu v) p
strand_profile A (Giving pdu) v p = p
strand_profile A Firing v p = p
strand_profile A Telling v p = told_next A v.events v p
strand_profile A (Gifting circumstances) v p = A.given circumstances p
strand_profile A (Learning circumstances news) v p = A.told circumstances news p
strand_profile A Checking v p = A.sent v p
strand_profile A Stepping v p = (A.steps v p).profile

abbrev pub woven_list : {P : Type 0} (A : Profile P) → Asks A → List Strand → Channels → P → List Occurrence
woven_list A asks [] v p = []
woven_list A asks (strand ∷ weave) v p = strand_list A asks strand v p ++ woven_list A asks weave (values_after A.policy v (strand_list A asks strand v p)) (strand_profile A strand v p)

abbrev pub woven_profile : {P : Type 0} (A : Profile P) → Asks A → List Strand → Channels → P → P
woven_profile A asks [] v p = p
woven_profile A asks (strand ∷ weave) v p = woven_profile A asks weave (values_after A.policy v (strand_list A asks strand v p)) (strand_profile A strand v p)

-- ---- on a link, and over all links

-- From one profile to another all that happened on a link is woven.
pub record Woven {P : Type 0} (A : Profile P) (asks : Asks A) (list : List Occurrence) (first last : P) : Type 0 where
  pub weave : List Strand
  pub list_is : list ≡ woven_list A asks weave no_channels first
  pub last_is : last ≡ woven_profile A asks weave no_channels first
  pub on_link : AllByRecursion IsOnLink weave

-- the profile as it hears that the link came up or went down
abbrev pub turned : {P : Type 0} → Profile P → List Circumstance → LinkEvent → Channels → P → P
turned A circumstances Up v p = A.told circumstances (Linked Up) p
turned A circumstances (Down reason) v p = A.told circumstances (Linked (Down reason)) (tells_each A (link_down v).events (link_down v) p)

abbrev pub AreWoven : {P : Type 0} (A : Profile P) → Asks A → List Span → List Occurrence → (first last : P) → Type 0
AreWoven A asks [] now first last = Woven A asks now first last
AreWoven {P} A asks (span ∷ spans) now first last =
    (mid : P) × (circumstances : List Circumstance) × Woven A asks span.list first mid × AreWoven A asks spans now (turned A circumstances span.event (values_after A.policy no_channels span.list) mid) last

-- ---- the law

-- a host lives so that its talk falls to its links, and what happened on them and what its profile went through are in one order
pub record TalksWoven {P : Type 0} (A : Profile P) (asks : Asks A) (talk : List Talk) (now : Host P) : Type 0 where
  pub so : TalksOverLinks A asks talk now
  pub woven : AreWoven A asks so.lives.spans so.lives.now A.first now.profile

abbrev pub HostsTalkWoven : {P : Type 0} → Profile P → Type 0
HostsTalkWoven {P} A = (asks : Asks A) (talk : List Talk) (now : Host P) (over : OverLinks (upper A) talk now) → AreGentleUp A false over.acts (first_host A) → TalksWoven A asks talk now
