-- What a host that lives over its links is given of its ports.
use Rattle.std.proofs.Common.{◌≡◌, List, [], ◌∷◌, ◌++◌, map, refl, sym, ap, ap₂, subst, ◌∙◌}
use Rattle.std.specs.List.{AllByRecursion}
use Rattle.std.proofs.lemmas.List.Concat.{flat_map-append}
use Rattle.shelf_model.specs.acl_fragments.specs.Pieces.{channel_of}
use Rattle.channel_laws.specs.channel_model.specs.declared.event.ChannelEvent.{ChannelEvent}
use Rattle.channel_laws.specs.channel_model.specs.Value.{Channels}
use Rattle.channel_laws.specs.channel_model.specs.Calls.{link_down}
use Rattle.channel_laws.specs.channel_model.specs.Carrying.{Up as Handed, Nothing, Received}
use Rattle.channel_laws.specs.channel_model.specs.Hearing.{up}
use Rattle.channel_laws.specs.Runs.{Occurrence}
use Rattle.shelf_model.specs.world_model.specs.Machines.{LinkEvent, Up, Down, Linked}
use Rattle.shelf_model.specs.host_model.specs.Circumstances.{Circumstance}
use Rattle.shelf_model.specs.host_model.specs.Hosts.{Host, first_host, hears_news}
use Rattle.shelf_model.specs.host_model.specs.Profiles.{Profile}
use Rattle.host_laws.specs.Calls.{Asks, values_after}
use Rattle.host_laws.specs.Feeds.{Feed, Learns}
use Rattle.host_laws.specs.Fed.{feeds_up, next_happening, strand_feeds, woven_feeds, happenings, turned_feeds}
use Rattle.host_laws.specs.Gifts.{gifts_in, gifts_of, gifts_by, gifts_along}
use Rattle.host_laws.specs.Lives.{Mark, Occurred, Turned}
use Rattle.host_laws.specs.Woven.{Strand, Hearing, Giving, Firing, Telling, Gifting, Learning, Checking, Stepping, strand_list, strand_profile}
use Rattle.host_laws.proofs.Living.{first_lives, goes-on, turns-on}
use Rattle.host_laws.proofs.OverLinks.{Calmly, first_calmly, goes_calmly, turns_calmly}
use Rattle.host_laws.proofs.Steps.{Grows}

-- ---- in one order and alone it is the same

up_gives_none : (up : Handed) → gifts_of (feeds_up up) ≡ []
up_gives_none Nothing = refl
up_gives_none (Received own psm sdu) = refl

telling_gives_none : (events : List ChannelEvent) (v : Channels) → gifts_of (next_happening events v) ≡ []
telling_gives_none [] v = refl
telling_gives_none (event ∷ events) v = refl

strand_gifts : (strand : Strand) (v : Channels) → gifts_of (strand_feeds strand v) ≡ gifts_by strand
strand_gifts (Hearing pdu) v = up_gives_none (up (channel_of pdu) pdu v)
strand_gifts (Giving pdu) v = refl
strand_gifts Firing v = refl
strand_gifts Telling v = telling_gives_none v.events v
strand_gifts (Gifting circumstances) v = refl
strand_gifts (Learning circumstances news) v = refl
strand_gifts Checking v = refl
strand_gifts Stepping v = refl

woven_gifts : {P : Type 0} (A : Profile P) (asks : Asks A) (weave : List Strand) (v : Channels) (p : P) → gifts_of (woven_feeds A asks weave v p) ≡ gifts_along weave
woven_gifts A asks [] v p = refl
woven_gifts A asks (strand ∷ weave) v p =
    let w = values_after A.policy v (strand_list A asks strand v p) in
    let q = strand_profile A strand v p in
    flat_map-append gifts_in (strand_feeds strand v) (woven_feeds A asks weave w q)
    ∙ ap₂ (λ (x y : List (List Circumstance)). x ++ y) (strand_gifts strand v) (woven_gifts A asks weave w q)

-- ---- as a link comes up or goes down, it is given nothing

happenings_give_none : (v : Channels) (events : List ChannelEvent) → gifts_of (happenings v events) ≡ []
happenings_give_none v [] = refl
happenings_give_none v (event ∷ events) = let w : Channels = record v { events = events } in happenings_give_none w events

turn_gives_none : (circumstances : List Circumstance) (event : LinkEvent) (v : Channels) → gifts_of (turned_feeds circumstances event v) ≡ []
turn_gives_none circumstances Up v = refl
turn_gives_none circumstances (Down reason) v =
    flat_map-append gifts_in (happenings (link_down v) (link_down v).events) (Learns circumstances (Linked (Down reason)) ∷ [])
    ∙ ap (λ (x : List (List Circumstance)). x ++ []) (happenings_give_none (link_down v) (link_down v).events)

-- ---- over all links

all_both : {X : Type 0} (G : X → Type 0) (xs ys : List X) → AllByRecursion G xs → AllByRecursion G ys → AllByRecursion G (xs ++ ys)
all_both G [] ys one two = two
all_both G (x ∷ xs) ys one two = (one.0, all_both G xs ys one.1 two)

module _ {P : Type 0} (A : Profile P) (asks : Asks A) (G : List Circumstance → Type 0) where
  -- all that it is given is so
  abbrev pub IsGivenSo : (marks : List Mark) (host : Host P) → Calmly A asks marks host → Type 0
  IsGivenSo marks host so = AllByRecursion G (gifts_of so.lives.feeds)

  more_given : (feeds more : List Feed) → AllByRecursion G (gifts_of feeds) → AllByRecursion G (gifts_of more) → AllByRecursion G (gifts_of (feeds ++ more))
  more_given feeds more one two = subst (AllByRecursion G) (sym (flat_map-append gifts_in feeds more)) (all_both G (gifts_of feeds) (gifts_of more) one two)

  pub first-given : IsGivenSo [] (first_host A) (first_calmly A asks)
  unfolding first_calmly first_lives
  first-given = tt

  pub goes-given : (marks : List Mark) (acted : List Occurrence) (old new : Host P) (so : Calmly A asks marks old) (grows : Grows A asks (Unit {0}) acted old new) (told : new.channels.events ≡ []) → AllByRecursion G (gifts_along grows.weave) → IsGivenSo marks old so
      → IsGivenSo (marks ++ map Occurred acted) new (goes_calmly A asks marks acted old new so grows told)
  unfolding goes_calmly goes-on
  goes-given marks acted old new so grows told gives before =
      more_given so.lives.feeds grows.feeds before (subst (AllByRecursion G) (sym (ap gifts_of grows.feeds_are ∙ woven_gifts A asks grows.weave old.channels old.profile)) gives)

  pub turns-given : (marks : List Mark) (event : LinkEvent) (circumstances : List Circumstance) (host : Host P) (so : Calmly A asks marks host) → IsGivenSo marks host so
      → IsGivenSo (marks ++ Turned event ∷ []) (hears_news A circumstances (Linked event) host) (turns_calmly A asks marks event circumstances host so)
  unfolding turns_calmly turns-on
  turns-given marks event circumstances host so before =
      more_given so.lives.feeds (turned_feeds circumstances event host.channels) before (subst (AllByRecursion G) (sym (turn_gives_none circumstances event host.channels)) tt)
