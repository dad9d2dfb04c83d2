-- A host tells its profile all that its channels tell, one thing after the other.
use Rattle.std.proofs.Common.{◌≡◌, List, [], ◌∷◌, map, refl, sym, ap, ◌∙◌}
use Rattle.std.specs.List.{AllByRecursion, filter_map}
use Rattle.channel_laws.specs.channel_model.specs.declared.event.ChannelEvent.{ChannelEvent}
use Rattle.channel_laws.specs.channel_model.specs.Value.{Channels}
use Rattle.channel_laws.specs.channel_model.specs.Policies.{Policy}
use Rattle.channel_laws.specs.Runs.{Occurrence, value_after}
use Rattle.channel_laws.specs.Runs as channels
use Rattle.shelf_model.specs.host_model.specs.Profiles.{Profile}
use Rattle.shelf_model.specs.host_model.specs.Hosts.{Host, tells_each, tells_events}
use Rattle.host_laws.specs.Asked.{BeginsNone}
use Rattle.host_laws.specs.Calls.{Asks, values_after, asked, outer}
use Rattle.host_laws.specs.Feeds.{Feed, Happens, all_fed, asked_from, Tiding, Tells, tidings_of, tidings_from}
use Rattle.host_laws.specs.Seen.{IsCalm}
use Rattle.host_laws.specs.Woven.{Strand, IsOnLink, Telling, woven_list, woven_profile}
use Rattle.host_laws.specs.Fed.{woven_feeds, happenings}
use Rattle.host_laws.specs.Gifts.{gifts_along}
use Rattle.host_laws.proofs.Steps.{Grows}

-- one occurrence for each event
abbrev tellings : List ChannelEvent → List Occurrence
tellings events = map (λ event. channels.Tells) events

drained : (policy : Policy) (v : Channels) (events : List ChannelEvent) → (let w : Channels = record v { events = events } in let after : Channels = record v { events = [] } in values_after policy w (tellings events) ≡ after)
drained policy v [] = refl
drained policy v (event ∷ events) = drained policy v events

tidings_drained : (policy : Policy) (v : Channels) (events : List ChannelEvent) → (let w : Channels = record v { events = events } in tidings_from policy w (tellings events) ≡ map Tells events)
tidings_drained policy v [] = refl
tidings_drained policy v (event ∷ events) = ap (λ (rest : List Tiding). Tells event ∷ rest) (tidings_drained policy v events)

none_outer : (events : List ChannelEvent) → filter_map outer (tellings events) ≡ []
none_outer [] = refl
none_outer (event ∷ events) = none_outer events

none_asked : (events : List ChannelEvent) → filter_map asked (tellings events) ≡ []
none_asked [] = refl
none_asked (event ∷ events) = none_asked events

-- what the profile goes through

pub each_fed : {P : Type 0} (A : Profile P) (v : Channels) (events : List ChannelEvent) (p : P) → tells_each A events v p ≡ all_fed A p (happenings v events)
each_fed A v [] p = refl
each_fed A v (event ∷ events) p = let now : Channels = record v { events = events } in each_fed A now events (A.happened event now p)

pub each_told : (v : Channels) (events : List ChannelEvent) → tidings_of (happenings v events) ≡ map Tells events
each_told v [] = refl
each_told v (event ∷ events) = let now : Channels = record v { events = events } in ap (λ (rest : List Tiding). Tells event ∷ rest) (each_told now events)

pub each_asked : {P : Type 0} (A : Profile P) (asks : Asks A) (v : Channels) (events : List ChannelEvent) (p : P) → asked_from A asks p (happenings v events) ≡ []
each_asked A asks v [] p = refl
each_asked A asks v (event ∷ events) p = let now : Channels = record v { events = events } in each_asked A asks now events (A.happened event now p)

calm_tellings : (policy : Policy) (v : Channels) (events : List ChannelEvent) → IsCalm policy v (tellings events)
calm_tellings policy v [] = tt
calm_tellings policy v (event ∷ events) = (tt, calm_tellings policy (value_after policy channels.Tells v) events)

abbrev told_strands : List ChannelEvent → List Strand
told_strands events = map (λ event. Telling) events

drained_list : {P : Type 0} (A : Profile P) (asks : Asks A) (v : Channels) (events : List ChannelEvent) (p : P) → (let w : Channels = record v { events = events } in tellings events ≡ woven_list A asks (told_strands events) w p)
drained_list A asks v [] p = refl
drained_list A asks v (event ∷ events) p = let now : Channels = record v { events = events } in ap (λ (l : List Occurrence). channels.Tells ∷ l) (drained_list A asks now events (A.happened event now p))

drained_profile : {P : Type 0} (A : Profile P) (asks : Asks A) (v : Channels) (events : List ChannelEvent) (p : P) → (let w : Channels = record v { events = events } in tells_each A events v p ≡ woven_profile A asks (told_strands events) w p)
drained_profile A asks v [] p = refl
drained_profile A asks v (event ∷ events) p = let now : Channels = record v { events = events } in drained_profile A asks now events (A.happened event now p)

drained_feeds : {P : Type 0} (A : Profile P) (asks : Asks A) (v : Channels) (events : List ChannelEvent) (p : P) → (let w : Channels = record v { events = events } in happenings v events ≡ woven_feeds A asks (told_strands events) w p)
drained_feeds A asks v [] p = refl
drained_feeds A asks v (event ∷ events) p =
    let now : Channels = record v { events = events } in ap (λ (l : List Feed). Happens event now ∷ l) (drained_feeds A asks now events (A.happened event now p))

told_on_link : (events : List ChannelEvent) → AllByRecursion IsOnLink (told_strands events)
told_on_link [] = tt
told_on_link (event ∷ events) = (tt, told_on_link events)

pub tells_grow : {P : Type 0} (A : Profile P) (asks : Asks A) (C : Type 0) (host : Host P) → Grows A asks C [] host (tells_events A host)
tells_grow A asks C host =
    let v = host.channels in
    record {
      list = tellings v.events;
      feeds = happenings v v.events;
      channels_are = sym (drained A.policy v v.events);
      profile_is = each_fed A v v.events host.profile;
      tidings_are = each_told v v.events ∙ sym (tidings_drained A.policy v v.events);
      asked_is = none_asked v.events ∙ sym (each_asked A asks v v.events host.profile);
      acted_is = none_outer v.events;
      calm = λ c. calm_tellings A.policy v v.events;
      weave = told_strands v.events;
      woven_is = drained_list A asks v v.events host.profile;
      last_is = drained_profile A asks v v.events host.profile;
      on_link = told_on_link v.events;
      feeds_are = drained_feeds A asks v v.events host.profile;
    }

-- and no push begins with that
told_plain : (events : List ChannelEvent) → AllByRecursion BeginsNone (told_strands events)
told_plain [] = tt
told_plain (event ∷ events) = (tt, told_plain events)

pub tells-begin_none : {P : Type 0} (A : Profile P) (asks : Asks A) (C : Type 0) (host : Host P) → AllByRecursion BeginsNone (tells_grow A asks C host).weave
unfolding tells_grow
tells-begin_none A asks C host = told_plain host.channels.events

-- nor is it given anything with that
told_alone : (events : List ChannelEvent) → gifts_along (told_strands events) ≡ []
told_alone [] = refl
told_alone (event ∷ events) = told_alone events

pub tells-give_none : {P : Type 0} (A : Profile P) (asks : Asks A) (C : Type 0) (host : Host P) → gifts_along (tells_grow A asks C host).weave ≡ []
unfolding tells_grow
tells-give_none A asks C host = told_alone host.channels.events
