-- While no link is up the server is still, and a link comes up for a push that has just begun.
use Rattle.std.proofs.Common.{◌≡◌, ℕ, List, [], ◌∷◌, ◌++◌, Option, Some, None, refl, sym, subst, ◌∙◌}
use Rattle.std.specs.List.{AllByRecursion}
use Rattle.pair_laws.specs.bt_base.specs.declared.settings.Settings.{Settings}
use Rattle.pair_laws.specs.bt_base.specs.Objects.{Contents}
use Rattle.pair_laws.specs.channel_model.specs.Value.{Channels, no_channels}
use Rattle.pair_laws.specs.channel_laws.specs.Runs as channels
use Rattle.pair_laws.specs.push_model.specs.Server.{Lent, lends, lent_sdu}
use Rattle.pair_laws.specs.push_laws.specs.Occurrences.{Occurrence, Asked as AskedFor}
use Rattle.pair_laws.specs.world_model.specs.Machines.{News, Linked, Failed, Heard, TimerFired, Cancelled, Opening}
use Rattle.pair_laws.specs.host_model.specs.Circumstances.{Circumstance}
use Rattle.pair_laws.specs.host_model.specs.Endpoints.{endpoint_of}
use Rattle.pair_laws.specs.host_model.specs.Servers.{ServerProfile, takes, submits, server_profile}
use Rattle.pair_laws.specs.host_laws.specs.Calls.{Asks as Asking, values_after}
use Rattle.pair_laws.specs.host_laws.specs.Fed.{strand_feeds, woven_feeds, WovenFed}
use Rattle.pair_laws.specs.host_laws.specs.Feeds.{Feed, Learns, tidings_by}
use Rattle.pair_laws.specs.host_laws.specs.Serving.{served_from, taken_by, lent_by}
use Rattle.pair_laws.specs.host_laws.specs.Woven.{Strand, IsOnLink, Hearing, Giving, Firing, Telling, Gifting, Learning, Checking, Stepping, strand_list, strand_profile, woven_list}
use Rattle.pair_laws.specs.host_laws.proofs.StrandsFed.{strand_so}
use Rattle.request_laws.proofs.Feeding.{all_both, all_ahead, served-both}
use Rattle.request_laws.proofs.Timely.{HearsNothing}
use Rattle.request_laws.proofs.Silent.{IsStill}

-- ---- the server

module _ (settings : Settings) (content : Option Contents) (asks : Asking (server_profile settings content)) where
  -- without channels nothing is taken
  none_taken : (own : Option ℕ) (lent : Lent) → taken_by own lent no_channels ≡ []
  none_taken None lent = refl
  none_taken (Some own) lent = refl

  none_lent : (lent : Option Lent) (p : ServerProfile) → lent_by lent no_channels p ≡ []
  none_lent None p = refl
  none_lent (Some lent) p = none_taken (endpoint_of lent.psm p.endpoints) lent

  submits_none : (own : Option ℕ) (lent : Lent) (p : ServerProfile) → (submits own lent no_channels (lends p.server) p).channels ≡ no_channels
  submits_none None lent p = refl
  submits_none (Some own) lent p = refl

  takes_none : (lent : Option Lent) (p : ServerProfile) → (takes lent no_channels (lends p.server) p).channels ≡ no_channels
  takes_none None p = refl
  takes_none (Some lent) p = submits_none (endpoint_of lent.psm p.endpoints) lent p

  -- so none are there behind it
  still_none : (strand : Strand) (p : ServerProfile) → AllByRecursion HearsNothing (strand_list (server_profile settings content) asks strand no_channels p)
      → values_after (server_profile settings content).policy no_channels (strand_list (server_profile settings content) asks strand no_channels p) ≡ no_channels
  still_none (Hearing pdu) p deaf = absurd deaf.0
  still_none (Giving pdu) p deaf = refl
  still_none Firing p deaf = refl
  still_none Telling p deaf = refl
  still_none (Gifting circumstances) p deaf = refl
  still_none (Learning circumstances heard) p deaf = refl
  still_none Checking p deaf = refl
  still_none Stepping p deaf = sym (asks.steps_are no_channels p) ∙ takes_none (lent_sdu (lends p.server)) p

  learned_still : (heard : News) → tidings_by heard ≡ [] → (circumstances : List Circumstance) (p : ServerProfile) → AllByRecursion IsStill (served_from settings content p (Learns circumstances heard ∷ []))
  learned_still (Linked event) none circumstances p = cc
  learned_still (Failed status) none circumstances p = tt
  learned_still (Heard pdu) none circumstances p = tt
  learned_still TimerFired none circumstances p = tt
  learned_still Cancelled none circumstances p = tt
  learned_still (Opening name) none circumstances p = tt

  asked_still : (more : List Occurrence) → more ≡ [] → AllByRecursion IsStill (AskedFor ∷ (more ++ []))
  asked_still [] none = (record { come = λ carrier. refl; gone = λ carrier. refl; open_yet = λ carrier. refl }, tt)
  asked_still (one ∷ more) none = cc

  strand_still : (strand : Strand) (p : ServerProfile) → IsOnLink strand → AllByRecursion HearsNothing (strand_list (server_profile settings content) asks strand no_channels p) → AllByRecursion IsStill (served_from settings content p (strand_feeds strand no_channels))
  strand_still (Hearing pdu) p on deaf = absurd deaf.0
  strand_still (Giving pdu) p on deaf = tt
  strand_still Firing p on deaf = tt
  strand_still Telling p on deaf = tt
  strand_still (Gifting circumstances) p on deaf = (record { come = λ carrier. refl; gone = λ carrier. refl; open_yet = λ carrier. refl }, tt)
  strand_still (Learning circumstances heard) p on deaf = learned_still heard on circumstances p
  strand_still Checking p on deaf = tt
  strand_still Stepping p on deaf = asked_still (lent_by (lent_sdu (lends p.server)) no_channels p) (none_lent (lent_sdu (lends p.server)) p)

  weave_still : (weave : List Strand) (p : ServerProfile) → AllByRecursion IsOnLink weave → AllByRecursion HearsNothing (woven_list (server_profile settings content) asks weave no_channels p)
      → AllByRecursion IsStill (served_from settings content p (woven_feeds (server_profile settings content) asks weave no_channels p))
  weave_still [] p on deaf = tt
  weave_still (strand ∷ weave) p on deaf =
      let B = server_profile settings content in
      let here = strand_list B asks strand no_channels p in
      let q = strand_profile B strand no_channels p in
      let w = values_after B.policy no_channels here in
      let cut = all_ahead HearsNothing here (woven_list B asks weave w q) deaf in
      let none : w ≡ no_channels = still_none strand p cut.0 in
      let later : AllByRecursion IsStill (served_from settings content q (woven_feeds B asks weave w q)) =
      subst (λ (v : Channels). AllByRecursion IsStill (served_from settings content q (woven_feeds B asks weave v q))) (sym none)
      (weave_still weave q on.1 (subst (λ (v : Channels). AllByRecursion HearsNothing (woven_list B asks weave v q)) none cut.1)) in
      subst (AllByRecursion IsStill) (sym (served-both settings content (strand_feeds strand no_channels) (woven_feeds B asks weave w q) p))
      (all_both IsStill (served_from settings content p (strand_feeds strand no_channels)) _ (strand_still strand p on.0 cut.0)
      (subst (λ (x : ServerProfile). AllByRecursion IsStill (served_from settings content x (woven_feeds B asks weave w q))) (sym (strand_so B asks strand no_channels p)) later))

  pub between_still : (list : List channels.Occurrence) (feeds : List Feed) (first last : ServerProfile) → WovenFed (server_profile settings content) asks list feeds first last → AllByRecursion HearsNothing list → AllByRecursion IsStill (served_from settings content first feeds)
  between_still list feeds first last so deaf =
      subst (λ (l : List Feed). AllByRecursion IsStill (served_from settings content first l)) (sym so.feeds_are)
      (weave_still so.woven.weave first so.woven.on_link (subst (AllByRecursion HearsNothing) so.woven.list_is deaf))
