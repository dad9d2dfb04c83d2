-- What a host that lives over its links has of its ports: what it is given, and what it is told as a push begins.
use Rattle.std.proofs.Common.{◌≡◌, List, [], ◌∷◌, ◌++◌, map, sym, subst}
use Rattle.std.specs.List.{AllByRecursion}
use Rattle.scenario_laws.specs.acl_fragments.specs.Pieces.{channel_of}
use Rattle.channel_laws.specs.channel_model.specs.declared.event.ChannelEvent.{ChannelEvent}
use Rattle.channel_laws.specs.channel_model.specs.Value.{Channels}
use Rattle.channel_laws.specs.channel_model.specs.Calls.{link_down}
use Rattle.channel_laws.specs.channel_model.specs.Carrying.{Up as Handed, Nothing, Received}
use Rattle.channel_laws.specs.channel_model.specs.Hearing.{up}
use Rattle.channel_laws.specs.Runs.{Occurrence}
use Rattle.scenario_laws.specs.world_model.specs.Machines.{LinkEvent, Up, Down, News, Linked, Failed, Heard, TimerFired, Cancelled, Opening}
use Rattle.scenario_laws.specs.host_model.specs.Circumstances.{Circumstance}
use Rattle.scenario_laws.specs.host_model.specs.Hosts.{Host, first_host, hears_news}
use Rattle.scenario_laws.specs.host_model.specs.Profiles.{Profile}
use Rattle.host_laws.specs.Asked.{BeginsNone, IsOfLink}
use Rattle.host_laws.specs.Calls.{Asks, values_after}
use Rattle.host_laws.specs.Feeds.{Feed, Gifts, Learns, Receives, Happens, Sent, Steps}
use Rattle.host_laws.specs.Fed.{feeds_up, next_happening, strand_feeds, woven_feeds, happenings, turned_feeds}
use Rattle.host_laws.specs.Gifts.{gifts_along}
use Rattle.host_laws.specs.Lives.{Mark, Occurred, Turned}
use Rattle.host_laws.specs.Woven.{Strand, Hearing, Giving, Firing, Telling, Gifting, Learning, Checking, Stepping, strand_list, strand_profile}
use Rattle.host_laws.proofs.Living.{first_lives, goes-on, turns-on}
use Rattle.host_laws.proofs.OverLinks.{Calmly, first_calmly, goes_calmly, turns_calmly}
use Rattle.host_laws.proofs.Steps.{Grows}

-- ---- what hangs on the ports

-- nothing of it does
abbrev pub IsSilentNews : News → Type 0
IsSilentNews (Linked event) = Unit {0}
IsSilentNews (Failed status) = Unit {0}
IsSilentNews (Heard pdu) = Unit {0}
IsSilentNews TimerFired = Unit {0}
IsSilentNews Cancelled = Unit {0}
IsSilentNews (Opening name) = ⊥

abbrev pub IsSilent : Feed → Type 0
IsSilent (Gifts circumstances) = ⊥
IsSilent (Learns circumstances news) = IsSilentNews news
IsSilent (Receives own psm sdu) = Unit {0}
IsSilent (Happens event v) = Unit {0}
IsSilent (Sent v) = Unit {0}
IsSilent (Steps v) = Unit {0}

-- What is asked of all that a profile goes through: what does not hang on its ports is so, and all that they answer is.
pub record Allows (to : News → List Circumstance → List Circumstance) (K : Feed → Type 0) : Type 0 where
  pub silent : (feed : Feed) → IsSilent feed → K feed
  pub given : (news : News) (answers : List Circumstance) → K (Gifts (to news answers))
  pub told : (news : News) (answers : List Circumstance) → K (Learns (to news answers) news)

-- ---- along what a host does

pub all_both : {X : Type 0} (G : X → Type 0) (xs ys : List X) → AllByRecursion G xs → AllByRecursion G ys → AllByRecursion G (xs ++ ys)
all_both G [] ys one two = two
all_both G (x ∷ xs) ys one two = (one.0, all_both G xs ys one.1 two)

silent_news : (news : News) → IsOfLink news → IsSilentNews news
silent_news (Linked event) of = tt
silent_news (Failed status) of = tt
silent_news (Heard pdu) of = tt
silent_news TimerFired of = tt
silent_news Cancelled of = tt
silent_news (Opening name) of = of

module _ (K : Feed → Type 0) (silent : (feed : Feed) → IsSilent feed → K feed) where
  abbrev pub IsGift : List Circumstance → Type 0
  IsGift circumstances = K (Gifts circumstances)

  up_so : (handed : Handed) → AllByRecursion K (feeds_up handed)
  up_so Nothing = tt
  up_so (Received own psm sdu) = (silent (Receives own psm sdu) tt, tt)

  telling_so : (events : List ChannelEvent) (v : Channels) → AllByRecursion K (next_happening events v)
  telling_so [] v = tt
  telling_so (event ∷ events) v = (silent (Happens event (record v { events = events })) tt, tt)

  happenings_so : (v : Channels) (events : List ChannelEvent) → AllByRecursion K (happenings v events)
  happenings_so v [] = tt
  happenings_so v (event ∷ events) = let w : Channels = record v { events = events } in (silent (Happens event w) tt, happenings_so w events)

  pub turned_so : (circumstances : List Circumstance) (event : LinkEvent) (v : Channels) → AllByRecursion K (turned_feeds circumstances event v)
  turned_so circumstances Up v = (silent (Learns circumstances (Linked Up)) tt, tt)
  turned_so circumstances (Down reason) v =
      all_both K (happenings (link_down v) (link_down v).events) (Learns circumstances (Linked (Down reason)) ∷ []) (happenings_so (link_down v) (link_down v).events) (silent (Learns circumstances (Linked (Down reason))) tt, tt)

  module _ {P : Type 0} (A : Profile P) (asks : Asks A) where
    abbrev Behind : Strand → List Strand → Channels → P → Type 0
    Behind strand weave v p = AllByRecursion K (strand_feeds strand v ++ woven_feeds A asks weave (values_after A.policy v (strand_list A asks strand v p)) (strand_profile A strand v p))

    -- where no push begins
    pub plain_so : (weave : List Strand) (v : Channels) (p : P) → AllByRecursion BeginsNone weave → AllByRecursion IsGift (gifts_along weave) → AllByRecursion K (woven_feeds A asks weave v p)
    plain_so [] v p begins gifts = tt
    plain_so (Hearing pdu ∷ weave) v p begins gifts =
        all_both K (feeds_up (up (channel_of pdu) pdu v)) _ (up_so (up (channel_of pdu) pdu v)) (plain_so weave (values_after A.policy v (strand_list A asks (Hearing pdu) v p)) (strand_profile A (Hearing pdu) v p) begins.1 gifts)
    plain_so (Giving pdu ∷ weave) v p begins gifts = plain_so weave (values_after A.policy v (strand_list A asks (Giving pdu) v p)) (strand_profile A (Giving pdu) v p) begins.1 gifts
    plain_so (Firing ∷ weave) v p begins gifts = plain_so weave (values_after A.policy v (strand_list A asks Firing v p)) (strand_profile A Firing v p) begins.1 gifts
    plain_so (Telling ∷ weave) v p begins gifts =
        all_both K (next_happening v.events v) _ (telling_so v.events v) (plain_so weave (values_after A.policy v (strand_list A asks Telling v p)) (strand_profile A Telling v p) begins.1 gifts)
    plain_so (Gifting circumstances ∷ weave) v p begins gifts =
        (gifts.0, plain_so weave (values_after A.policy v (strand_list A asks (Gifting circumstances) v p)) (strand_profile A (Gifting circumstances) v p) begins.1 gifts.1)
    plain_so (Learning circumstances news ∷ weave) v p begins gifts =
        (silent (Learns circumstances news) (silent_news news begins.0), plain_so weave (values_after A.policy v (strand_list A asks (Learning circumstances news) v p)) (strand_profile A (Learning circumstances news) v p) begins.1 gifts)
    plain_so (Checking ∷ weave) v p begins gifts = (silent (Sent v) tt, plain_so weave (values_after A.policy v (strand_list A asks Checking v p)) (strand_profile A Checking v p) begins.1 gifts)
    plain_so (Stepping ∷ weave) v p begins gifts = (silent (Steps v) tt, plain_so weave (values_after A.policy v (strand_list A asks Stepping v p)) (strand_profile A Stepping v p) begins.1 gifts)

-- ---- over all links

module _ {P : Type 0} (A : Profile P) (asks : Asks A) (K : Feed → Type 0) where
  -- all that it went through is so
  abbrev pub IsServedSo : (marks : List Mark) (host : Host P) → Calmly A asks marks host → Type 0
  IsServedSo marks host so = AllByRecursion K so.lives.feeds

  pub first-served : IsServedSo [] (first_host A) (first_calmly A asks)
  unfolding first_calmly first_lives
  first-served = tt

  pub goes-served : (marks : List Mark) (acted : List Occurrence) (old new : Host P) (so : Calmly A asks marks old) (grows : Grows A asks (Unit {0}) acted old new) (told : new.channels.events ≡ []) → AllByRecursion K grows.feeds → IsServedSo marks old so
      → IsServedSo (marks ++ map Occurred acted) new (goes_calmly A asks marks acted old new so grows told)
  unfolding goes_calmly goes-on
  goes-served marks acted old new so grows told more before = all_both K so.lives.feeds grows.feeds before more

  pub turns-served : (silent : (feed : Feed) → IsSilent feed → K feed) (marks : List Mark) (event : LinkEvent) (circumstances : List Circumstance) (host : Host P) (so : Calmly A asks marks host) → IsServedSo marks host so
      → IsServedSo (marks ++ Turned event ∷ []) (hears_news A circumstances (Linked event) host) (turns_calmly A asks marks event circumstances host so)
  unfolding turns_calmly turns-on
  turns-served silent marks event circumstances host so before = all_both K so.lives.feeds (turned_feeds circumstances event host.channels) before (turned_so K silent circumstances event host.channels)

  -- what grows where no push begins
  pub grown_served : (silent : (feed : Feed) → IsSilent feed → K feed) (acted : List Occurrence) (old new : Host P) (grows : Grows A asks (Unit {0}) acted old new) → AllByRecursion BeginsNone grows.weave → AllByRecursion (IsGift K silent) (gifts_along grows.weave)
      → AllByRecursion K grows.feeds
  grown_served silent acted old new grows begins gifts = subst (AllByRecursion K) (sym grows.feeds_are) (plain_so K silent A asks grows.weave old.channels old.profile begins gifts)
