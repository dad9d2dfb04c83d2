-- On a link of which the other host has not heard nothing comes in.
use Rattle.std.proofs.Common.{◌≡◌, ℕ, Bool, true, false, cond, List, [], ◌∷◌, ◌++◌, Option, Some, None, refl, sym, subst, ◌∙◌}
use Rattle.std.specs.List.{AllByRecursion, flat_map}
use Rattle.pair_laws.specs.bt_base.specs.declared.settings.Settings.{Settings}
use Rattle.pair_laws.specs.bt_base.specs.Objects.{Contents}
use Rattle.pair_laws.specs.channel_model.specs.declared.event.ChannelEvent.{ChannelEvent}
use Rattle.pair_laws.specs.channel_model.specs.Giving.{Given, next_given}
use Rattle.pair_laws.specs.channel_model.specs.Policies.{Policy}
use Rattle.pair_laws.specs.channel_model.specs.Value.{Channels, no_channels}
use Rattle.pair_laws.specs.channel_laws.specs.Pairs.{End, Pair, new_pair, Happening, Acts, Puts, Takes, Repeats, Loses, Damages, is_alone, occurs, with_near, puts, takes_first, repeats_first, loses_first, damages_first, happens_near, happens_at, Side, Near, Far, turned, Turn}
use Rattle.pair_laws.specs.channel_laws.specs.Runs as channels
use Rattle.pair_laws.specs.push_model.specs.Server.{lends, lent_sdu}
use Rattle.pair_laws.specs.world_model.specs.Machines.{Up}
use Rattle.pair_laws.specs.host_model.specs.Servers.{ServerProfile, server_profile}
use Rattle.pair_laws.specs.host_laws.specs.Calls.{Asks as Asking, values_after}
use Rattle.pair_laws.specs.host_laws.specs.Fed.{next_happening, strand_feeds, woven_feeds, WovenFed, turned_feeds, FedSpan, span_feeds, behind_span}
use Rattle.pair_laws.specs.host_laws.specs.Feeds.{Feed, all_fed}
use Rattle.pair_laws.specs.host_laws.specs.Lives.{Span}
use Rattle.pair_laws.specs.host_laws.specs.Serving.{event_served, lent_by, served_from}
use Rattle.pair_laws.specs.host_laws.specs.Woven.{Strand, Hearing, Giving, Firing, Telling, Gifting, Learning, Checking, Stepping, strand_list, strand_profile, woven_list}
use Rattle.pair_laws.specs.Orders.{first_come, given_as, damaged_come, occurs_by, Joint, AtNear, AtFar, near_in, far_in, joints_with, joints_at, joints_from}
use Rattle.pair_laws.specs.Pairs.{PairOnLink}
use Rattle.pair_laws.specs.host_laws.proofs.StrandsFed.{strand_so, span_so}
use Rattle.request_laws.specs.BothFed.{ComesNone}
use Rattle.request_laws.proofs.Feeding.{all_both, all_ahead, served-both, news_shape, event_shape, lent_shape, up_served}
use Rattle.request_laws.proofs.Timely.{HearsNothing}

-- ---- one end at which nothing happens

abbrev IsFarStill : Pair → Type 0
IsFarStill pair = pair.far.coming ≡ []

no_more : {X : Type 0} (one : channels.Occurrence) (rest : List channels.Occurrence) → one ∷ rest ≡ [] → X
no_more one rest is = cc

acts_none : (alone : Bool) (one : channels.Occurrence) (pair : Pair) → cond alone (one ∷ []) [] ≡ [] → IsFarStill pair → IsFarStill (cond alone (with_near (occurs one pair.near) pair) pair)
acts_none true one pair none quiet = quiet
acts_none false one pair none quiet = quiet

puts_none : (given : Option Given) (pdu : List ℕ) (pair : Pair) → given_as given pdu ≡ [] → IsFarStill pair → IsFarStill (puts given pdu pair)
puts_none None pdu pair none quiet = quiet
puts_none (Some given) pdu pair none quiet = no_more (channels.Gives pdu) [] none

-- what does not happen there puts nothing
near_none : (happening : Happening) (pair : Pair) → occurs_by happening pair.near ≡ [] → IsFarStill pair → IsFarStill (happens_near happening pair)
near_none (Acts one) pair none quiet = acts_none (is_alone one) one pair none quiet
near_none (Puts pdu) pair none quiet = puts_none (next_given pair.near.run.value) pdu pair none quiet
near_none Takes pair none quiet = quiet
near_none Repeats pair none quiet = quiet
near_none Loses pair none quiet = quiet
near_none (Damages other) pair none quiet = quiet

-- ---- the other end, to which nothing comes

takes_same : (coming : List (List ℕ)) (end' : End) → coming ≡ [] → end'.coming ≡ [] → (takes_first coming end').coming ≡ []
takes_same [] end' none quiet = quiet
takes_same (pdu ∷ coming) end' none quiet = cc

repeats_same : (coming : List (List ℕ)) (end' : End) → coming ≡ [] → end'.coming ≡ [] → (repeats_first coming end').coming ≡ []
repeats_same [] end' none quiet = quiet
repeats_same (pdu ∷ coming) end' none quiet = cc

loses_same : (coming : List (List ℕ)) (end' : End) → coming ≡ [] → end'.coming ≡ [] → (loses_first coming end').coming ≡ []
loses_same [] end' none quiet = quiet
loses_same (pdu ∷ coming) end' none quiet = cc

damages_same : (other : List ℕ) (coming : List (List ℕ)) (end' : End) → coming ≡ [] → end'.coming ≡ [] → (damages_first other coming end').coming ≡ []
damages_same other [] end' none quiet = quiet
damages_same other (pdu ∷ coming) end' none quiet = cc

acts_same : (alone : Bool) (one : channels.Occurrence) (pair : Pair) → pair.near.coming ≡ [] → (cond alone (with_near (occurs one pair.near) pair) pair).near.coming ≡ []
acts_same true one pair quiet = quiet
acts_same false one pair quiet = quiet

puts_same : (given : Option Given) (pdu : List ℕ) (pair : Pair) → pair.near.coming ≡ [] → (puts given pdu pair).near.coming ≡ []
puts_same None pdu pair quiet = quiet
puts_same (Some given) pdu pair quiet = quiet

-- nothing comes to an end by what happens there
far_same : (happening : Happening) (pair : Pair) → pair.near.coming ≡ [] → (happens_near happening pair).near.coming ≡ []
far_same (Acts one) pair quiet = acts_same (is_alone one) one pair quiet
far_same (Puts pdu) pair quiet = puts_same (next_given pair.near.run.value) pdu pair quiet
far_same Takes pair quiet = takes_same pair.near.coming pair.near quiet quiet
far_same Repeats pair quiet = repeats_same pair.near.coming pair.near quiet quiet
far_same Loses pair quiet = loses_same pair.near.coming pair.near quiet quiet
far_same (Damages other) pair quiet = damages_same other pair.near.coming pair.near quiet quiet

alone_deaf : (one : channels.Occurrence) → AllByRecursion HearsNothing (cond (is_alone one) (one ∷ []) [])
alone_deaf (channels.Comes pdu) = tt
alone_deaf (channels.Connects psm) = (tt, tt)
alone_deaf channels.AsksFeatures = (tt, tt)
alone_deaf (channels.Disconnects own) = (tt, tt)
alone_deaf (channels.Sends own sdu) = (tt, tt)
alone_deaf (channels.Gives pdu) = tt
alone_deaf channels.Fires = (tt, tt)
alone_deaf channels.Tells = (tt, tt)

given_deaf : (given : Option Given) (pdu : List ℕ) → AllByRecursion HearsNothing (given_as given pdu)
given_deaf None pdu = tt
given_deaf (Some given) pdu = (tt, tt)

first_deaf : (coming : List (List ℕ)) → coming ≡ [] → AllByRecursion HearsNothing (first_come coming)
first_deaf [] none = tt
first_deaf (pdu ∷ coming) none = cc

damaged_deaf : (other : List ℕ) (coming : List (List ℕ)) (end' : End) → coming ≡ [] → AllByRecursion HearsNothing (damaged_come other coming end')
damaged_deaf other [] end' none = tt
damaged_deaf other (pdu ∷ coming) end' none = cc

far_deaf : (happening : Happening) (end' : End) → end'.coming ≡ [] → AllByRecursion HearsNothing (occurs_by happening end')
far_deaf (Acts one) end' quiet = alone_deaf one
far_deaf (Puts pdu) end' quiet = given_deaf (next_given end'.run.value) pdu
far_deaf Takes end' quiet = first_deaf end'.coming quiet
far_deaf Repeats end' quiet = first_deaf end'.coming quiet
far_deaf Loses end' quiet = tt
far_deaf (Damages other) end' quiet = damaged_deaf other end'.coming end' quiet

-- ---- along all turns

abbrev DeafAt : List Joint → Type 0
DeafAt joints = AllByRecursion HearsNothing (flat_map far_in joints)

-- what happens at the near end is none of the other's
near_ahead : (list : List channels.Occurrence) (rest : List Joint) → flat_map near_in (joints_with AtNear list ++ rest) ≡ [] → (list ≡ []) × (flat_map near_in rest ≡ []) × (DeafAt rest → DeafAt (joints_with AtNear list ++ rest))
near_ahead [] rest none = (refl, none, λ deaf. deaf)
near_ahead (one ∷ list) rest none = no_more one (flat_map near_in (joints_with AtNear list ++ rest)) none

far_ahead : (list : List channels.Occurrence) (rest : List Joint) → flat_map near_in (joints_with AtFar list ++ rest) ≡ [] → AllByRecursion HearsNothing list → (flat_map near_in rest ≡ []) × (DeafAt rest → DeafAt (joints_with AtFar list ++ rest))
far_ahead [] rest none deaf = (none, λ more. more)
far_ahead (one ∷ list) rest none deaf = let more = far_ahead list rest none deaf.1 in (more.0, λ there. (deaf.0, more.1 there))

deaf_from : (pair : Pair) (turns : List Turn) → IsFarStill pair → flat_map near_in (joints_from pair turns) ≡ [] → DeafAt (joints_from pair turns)
deaf_from pair [] quiet none = tt
deaf_from pair (turn ∷ turns) quiet none = by turn.side none (λ next. deaf_from next turns)
  where
    by : (side : Side) → flat_map near_in (joints_at side turn.happening pair ++ joints_from (happens_at side turn.happening pair) turns) ≡ []
        → ((next : Pair) → IsFarStill next → flat_map near_in (joints_from next turns) ≡ [] → DeafAt (joints_from next turns)) → DeafAt (joints_at side turn.happening pair ++ joints_from (happens_at side turn.happening pair) turns)
    by Near none more =
        let next = happens_near turn.happening pair in
        let cut = near_ahead (occurs_by turn.happening pair.near) (joints_from next turns) none in
        cut.2 (more next (near_none turn.happening pair cut.0 quiet) cut.1)
    by Far none more =
        let next = turned (happens_near turn.happening (turned pair)) in
        let cut = far_ahead (occurs_by turn.happening pair.far) (joints_from next turns) none (far_deaf turn.happening pair.far quiet) in
        cut.1 (more next (far_same turn.happening (turned pair) quiet) cut.0)

-- where nothing happened at one end of a pair nothing came to the other
pub pair_deaf : (near far : Policy) (one other : List channels.Occurrence) → one ≡ [] → PairOnLink near far one other → AllByRecursion HearsNothing other
pair_deaf near far one other none pair = subst (AllByRecursion HearsNothing) pair.far_list (deaf_from (new_pair near far) pair.turns refl (pair.near_list ∙ none))

-- ---- so nothing comes to the server

module _ (settings : Settings) (content : Option Contents) (asks : Asking (server_profile settings content)) where
  next_quiet : (events : List ChannelEvent) (v : Channels) (p : ServerProfile) → AllByRecursion ComesNone (served_from settings content p (next_happening events v))
  next_quiet [] v p = tt
  next_quiet (event ∷ events) v p = all_both ComesNone (event_served event) [] (event_shape event) tt

  strand_quiet : (strand : Strand) (v : Channels) (p : ServerProfile) → AllByRecursion HearsNothing (strand_list (server_profile settings content) asks strand v p) → AllByRecursion ComesNone (served_from settings content p (strand_feeds strand v))
  strand_quiet (Hearing pdu) v p deaf = absurd deaf.0
  strand_quiet (Giving pdu) v p deaf = tt
  strand_quiet Firing v p deaf = tt
  strand_quiet Telling v p deaf = next_quiet v.events v p
  strand_quiet (Gifting circumstances) v p deaf = (λ carrier. refl, tt)
  strand_quiet (Learning circumstances heard) v p deaf = news_shape heard
  strand_quiet Checking v p deaf = tt
  strand_quiet Stepping v p deaf = (λ carrier. refl, all_both ComesNone (lent_by (lent_sdu (lends p.server)) v p) [] (lent_shape (lent_sdu (lends p.server)) v p) tt)

  weave_quiet : (weave : List Strand) (v : Channels) (p : ServerProfile) → AllByRecursion HearsNothing (woven_list (server_profile settings content) asks weave v p)
      → AllByRecursion ComesNone (served_from settings content p (woven_feeds (server_profile settings content) asks weave v p))
  weave_quiet [] v p deaf = tt
  weave_quiet (strand ∷ weave) v p deaf =
      let B = server_profile settings content in
      let here = strand_list B asks strand v p in
      let w = values_after B.policy v here in
      let q = strand_profile B strand v p in
      let feeds = woven_feeds B asks weave w q in
      let cut = all_ahead HearsNothing here (woven_list B asks weave w q) deaf in
      subst (AllByRecursion ComesNone) (sym (served-both settings content (strand_feeds strand v) feeds p))
      (all_both ComesNone (served_from settings content p (strand_feeds strand v)) _ (strand_quiet strand v p cut.0)
      (subst (λ (x : ServerProfile). AllByRecursion ComesNone (served_from settings content x feeds)) (sym (strand_so B asks strand v p)) (weave_quiet weave w q cut.1)))

  pub fed_quiet : (list : List channels.Occurrence) (feeds : List Feed) (first last : ServerProfile) → WovenFed (server_profile settings content) asks list feeds first last → AllByRecursion HearsNothing list → AllByRecursion ComesNone (served_from settings content first feeds)
  fed_quiet list feeds first last so deaf =
      subst (λ (l : List Feed). AllByRecursion ComesNone (served_from settings content first l)) (sym so.feeds_are)
      (weave_quiet so.woven.weave no_channels first (subst (AllByRecursion HearsNothing) so.woven.list_is deaf))

  -- up to a link and on it, where nothing comes in
  pub link_quiet : (far : Span) (now : List channels.Occurrence) (feeds later : List Feed) (first last : ServerProfile) (here : FedSpan (server_profile settings content) asks far first) → feeds ≡ span_feeds (server_profile settings content) asks far first here ++ later → far.event ≡ Up
      → WovenFed (server_profile settings content) asks now later (behind_span (server_profile settings content) asks far first here) last → AllByRecursion HearsNothing far.list → AllByRecursion HearsNothing now → AllByRecursion ComesNone (served_from settings content first feeds)
  link_quiet far now feeds later first last here is up so deaf deaf_now =
      let B = server_profile settings content in
      let v = values_after B.policy no_channels far.list in
      let turned = turned_feeds here.circumstances far.event v in
      let ahead = span_feeds B asks far first here in
      let before : AllByRecursion ComesNone (served_from settings content first ahead) =
      subst (AllByRecursion ComesNone) (sym (served-both settings content here.here turned first))
      (all_both ComesNone (served_from settings content first here.here) (served_from settings content (all_fed B first here.here) turned) (fed_quiet far.list here.here first here.mid here.so deaf)
      (subst (AllByRecursion ComesNone) (sym (up_served settings content here.circumstances far.event v (all_fed B first here.here) up)) tt)) in
      subst (λ (l : List Feed). AllByRecursion ComesNone (served_from settings content first l)) (sym is)
      (subst (AllByRecursion ComesNone) (sym (served-both settings content ahead later first))
      (all_both ComesNone (served_from settings content first ahead) (served_from settings content (all_fed B first ahead) later) before
      (subst (λ (x : ServerProfile). AllByRecursion ComesNone (served_from settings content x later)) (sym (span_so B asks far first here)) (fed_quiet now later (behind_span B asks far first here) last so deaf_now))))
