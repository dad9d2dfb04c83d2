-- What may come to a server in a stretch of its life over one transport, where it is as a new one at first, and what its inbox gains by that.
use Rattle.std.proofs.Common.{◌≡◌, ℕ, true, false, List, [], ◌∷◌, ◌++◌, Option, Some, refl, sym, ap, subst, ◌∙◌}
use Rattle.std.specs.List.{AllByRecursion}
use Rattle.std.specs.Prelude.{get_or}
use Rattle.std.proofs.lemmas.List.Sums.{fold-append}
use Rattle.request_laws.specs.bt_base.specs.declared.settings.Settings.{Settings}
use Rattle.request_laws.specs.bt_base.specs.Objects.{Object, Contents}
use Rattle.request_laws.specs.channel_model.specs.Policies.{policy}
use Rattle.request_laws.specs.channel_model.specs.Value.{no_channels}
use Rattle.request_laws.specs.channel_laws.specs.Runs as channels
use Rattle.request_laws.specs.push_model.specs.Server.{Reacted, rfcomm_psm}
use Rattle.request_laws.specs.push_laws.specs.Dialogs.{NoPacket, AllServeCarried}
use Rattle.request_laws.specs.push_laws.specs.Gains.{objects}
use Rattle.request_laws.specs.push_laws.specs.Laws.{stored_in, new_over}
use Rattle.request_laws.specs.push_laws.specs.Occurrences.{Occurrence, Answering, done, all_done}
use Rattle.request_laws.specs.push_laws.specs.Parties.{AllServeDirectly}
use Rattle.request_laws.specs.push_laws.specs.Premises.{AllGranted, AllMayCome}
use Rattle.request_laws.specs.push_laws.proofs.Gaining.{gains-what_is_heard}
use Rattle.request_laws.specs.host_model.specs.Profiles.{Profile}
use Rattle.request_laws.specs.host_model.specs.Servers.{ServerProfile, server_profile}
use Rattle.request_laws.specs.host_laws.specs.Calls.{Asks}
use Rattle.request_laws.specs.host_laws.specs.Fed.{span_feeds, behind_span, AreFed}
use Rattle.request_laws.specs.host_laws.specs.Feeds.{Feed, fed, all_fed}
use Rattle.request_laws.specs.host_laws.specs.Gaining.{IsDirect}
use Rattle.request_laws.specs.host_laws.specs.Lives.{Span, all_marks}
use Rattle.request_laws.specs.host_laws.specs.OneOnLinks.{CarriesOneOn}
use Rattle.request_laws.specs.host_laws.specs.OverLinks.{AreTimely}
use Rattle.request_laws.specs.host_laws.specs.Serving.{served_with, served_from, reacted}
use Rattle.request_laws.specs.host_laws.proofs.Asking.{hosts_ask}
use Rattle.request_laws.specs.host_laws.proofs.InOrder.{asks-nothing}
use Rattle.request_laws.specs.host_laws.proofs.Serving.{feed_done}
use Rattle.request_laws.specs.host_laws.proofs.StrandsFed.{woven_so, span_so}
use Rattle.request_laws.specs.BothFed.{GrantsAll}
use Rattle.request_laws.specs.SpellableServers.{LendsSpellable}
use Rattle.request_laws.proofs.AlongStreams.{at_place, none_carry}
use Rattle.request_laws.proofs.Lending.{serve_all}
use Rattle.request_laws.proofs.MuxHeard.{serve_from}
use Rattle.request_laws.proofs.MuxPackets.{all_packets}
use Rattle.request_laws.proofs.Paired.{lists_of}
use Rattle.request_laws.proofs.SpellableServers.{server_frames_are_said}
use Rattle.carried_laws.proofs.Coming.{orderly_may_come}
use Rattle.carried_laws.proofs.Ordering.{InOrderFrom, orderly_serves}
use Rattle.orderly_laws.proofs.Counting.{none-ignored}
use Rattle.orderly_laws.proofs.Framing.{FitLink, all-order}
use Rattle.orderly_laws.proofs.Gaining.{on_each}
use Rattle.orderly_laws.proofs.Linking.{ReadLink, AllRead, AllFew, NoneMuxed, plain_at, all-plain, all-direct, all-turns, all-follow}
use Rattle.behind_laws.proofs.Counting.{none-ignored as none-ignored_in_turn}
use Rattle.behind_laws.proofs.Linking.{AllReadLinks, AllHandUp, all-proceed}
use Rattle.behind_laws.proofs.Weaving.{ReadsLink}
use Rattle.either_laws.proofs.Pasts.{answers_aside}
use Rattle.either_laws.proofs.Saying.{all_said}

-- a server that is as a new one, over an inbox that stored these
pub record BeginsAnew (settings : Settings) (stored : List Object) (p : ServerProfile) : Type 0 where
  pub is : reacted p ≡ done (Answering p.inbox.answers) (new_over settings stored)
  pub granted : AllGranted p.inbox.answers
  pub none : p.endpoints ≡ []

done_both : (xs ys : List Occurrence) (at : Reacted) → all_done (xs ++ ys) at ≡ all_done ys (all_done xs at)
done_both [] ys at = refl
done_both (x ∷ xs) ys at = done_both xs ys (done x at)

module _ (settings : Settings) (content : Option Contents) where
  abbrev pub B : Profile ServerProfile
  B = server_profile settings content

  abbrev pub asks : Asks (server_profile settings content)
  asks = hosts_ask.servers settings content

  abbrev pub Served : ServerProfile → List Feed → List Occurrence
  Served p feeds = served_from settings content p feeds

  abbrev pub AllFed : List Span → List channels.Occurrence → List Feed → (first last : ServerProfile) → Type 0
  AllFed spans now feeds first last = AreFed (server_profile settings content) (hosts_ask.servers settings content) spans now feeds first last

  fed_done : (feeds : List Feed) (p : ServerProfile) → reacted (all_fed B p feeds) ≡ all_done (Served p feeds) (reacted p)
  fed_done [] p = refl
  fed_done (feed ∷ feeds) p =
      let next = fed B p feed in
      fed_done feeds next ∙ (ap (all_done (Served next feeds)) (feed_done settings content p feed) ∙ sym (done_both (served_with p feed) (Served next feeds) (reacted p)))

  fed_so : (spans : List Span) (now : List channels.Occurrence) (feeds : List Feed) (first last : ServerProfile) → AllFed spans now feeds first last → all_fed B first feeds ≡ last
  fed_so [] now feeds first last so = ap (all_fed B first) so.feeds_are ∙ (woven_so B asks so.woven.weave no_channels first ∙ sym so.woven.last_is)
  fed_so (span ∷ spans) now feeds first last (here, later, is, so) =
      ap (all_fed B first) is
      ∙ (fold-append (fed B) first (span_feeds B asks span first here) later ∙ (ap (λ (p : ServerProfile). all_fed B p later) (span_so B asks span first here) ∙ fed_so spans now later (behind_span B asks span first here) last so))

  pub life_done : (spans : List Span) (now : List channels.Occurrence) (feeds : List Feed) (first last : ServerProfile) → AllFed spans now feeds first last → reacted last ≡ all_done (Served first feeds) (reacted first)
  life_done spans now feeds first last so = ap reacted (sym (fed_so spans now feeds first last so)) ∙ fed_done feeds first

  module _ (stored : List Object) (spans : List Span) (now : List channels.Occurrence) (feeds : List Feed) (first last : ServerProfile) (so : AreFed (server_profile settings content) (hosts_ask.servers settings content) spans now feeds first last) (begins : BeginsAnew settings stored first) where
    abbrev pub occurrences : List Occurrence
    occurrences = Answering first.inbox.answers ∷ served_from settings content first feeds

    -- all that happens may, from the server on that it is as
    abbrev pub Comes : Type 0
    Comes = AllMayCome settings [] (new_over settings stored) (Answering first.inbox.answers ∷ served_from settings content first feeds)

    pub lives_so : reacted last ≡ all_done (Answering first.inbox.answers ∷ served_from settings content first feeds) (new_over settings stored)
    lives_so = life_done spans now feeds first last so ∙ ap (all_done (served_from settings content first feeds)) begins.is

    pub life_gains : AllMayCome settings [] (new_over settings stored) (Answering first.inbox.answers ∷ served_from settings content first feeds) → stored_in last.inbox.content ≡ Some (stored ++ objects settings (served_from settings content first feeds))
    life_gains comes =
        ap (λ (r : Reacted). stored_in r.gift.content) lives_so
        ∙ (gains-what_is_heard settings stored occurrences comes ∙ ap (λ (l : List Object). Some (stored ++ l)) (answers_aside settings first.inbox.answers (served_from settings content first feeds)))

    -- ---- over L2CAP

    pub record DirectLife (few : Type 0) : Type 0 where
      pub comes : AllMayCome settings [] (new_over settings stored) (Answering first.inbox.answers ∷ served_from settings content first feeds)
      pub few_went : few
      pub direct : AllByRecursion IsDirect (served_from settings content first feeds)

    pub direct_comes : AreTimely false (all_marks spans now) → (reads : AllRead settings spans) (read : ReadLink settings now) → AllByRecursion GrantsAll feeds → DirectLife (AllFew settings spans now reads read)
    direct_comes timely reads read grants =
        let list = served_from settings content first feeds in
        let direct = all-direct settings content spans now feeds first last so begins.none (all-plain settings spans reads) (plain_at settings now read) in
        let turns = all-turns settings content spans now feeds first last so begins.none timely reads read 0 in
        let follow = all-follow settings content spans now feeds first last so timely reads read in
        let serve = subst (λ (at : Reacted). AllServeDirectly AllGranted at list) begins.is (serve_all AllGranted settings content feeds first grants direct) in
        let heard = none-ignored settings stored occurrences (record { own = tt; answers = begins.granted; direct = tt }, serve) (tt, turns.0) ((λ is. refl), follow) in
        record { comes = heard.0; few_went = turns.1 heard.1.1; direct = direct }

    -- with channels of objects one behind the other

    pub record TurnLife : Type 0 where
      pub comes : AllMayCome settings [] (new_over settings stored) (Answering first.inbox.answers ∷ served_from settings content first feeds)
      pub hands : AllHandUp settings spans now
      pub direct : AllByRecursion IsDirect (served_from settings content first feeds)

    pub turn_comes : AreTimely false (all_marks spans now) → AllReadLinks settings spans → ReadsLink settings now → AllByRecursion (λ (span : Span). NoneMuxed settings span.list) spans → NoneMuxed settings now → AllByRecursion GrantsAll feeds → TurnLife
    turn_comes timely reads read plain last_plain grants =
        let list = served_from settings content first feeds in
        let direct = all-direct settings content spans now feeds first last so begins.none plain last_plain in
        let serve = subst (λ (at : Reacted). AllServeDirectly AllGranted at list) begins.is (serve_all AllGranted settings content feeds first grants direct) in
        let proceeds = all-proceed settings content spans now feeds first last so begins.none timely reads read 0 in
        let heard = none-ignored_in_turn settings stored (AllHandUp settings spans now) occurrences (record { own = tt; answers = begins.granted; direct = tt }, serve) (λ few. (tt, proceeds)) in
        record { comes = heard.0; hands = heard.1; direct = direct }

    -- ---- over RFCOMM

    muxes_of : AllByRecursion (λ (span : Span). FitLink settings span.list) spans → FitLink settings now → AllByRecursion (CarriesOneOn rfcomm_psm (policy settings true)) (lists_of spans now)
    muxes_of fits fit = on_each (CarriesOneOn rfcomm_psm (policy settings true)) spans now (all_only spans fits) fit.only
      where
        all_only : (spans : List Span) → AllByRecursion (λ (span : Span). FitLink settings span.list) spans → AllByRecursion (λ (span : Span). CarriesOneOn rfcomm_psm (policy settings true) span.list) spans
        all_only [] fits = tt
        all_only (span ∷ spans) fits = (fits.0.only, all_only spans fits.1)

    pub record CarriedLife : Type 0 where
      pub comes : AllMayCome settings [] (new_over settings stored) (Answering first.inbox.answers ∷ served_from settings content first feeds)
      pub muxes : (number : ℕ) → CarriesOneOn rfcomm_psm (policy settings true) (get_or (lists_of spans now) number [])
      pub packets : AllByRecursion NoPacket (served_from settings content first feeds)

    pub carried_comes : AreTimely false (all_marks spans now) → AllByRecursion (λ (span : Span). FitLink settings span.list) spans → FitLink settings now → AllByRecursion GrantsAll feeds → CarriedLife
    carried_comes timely fits fit grants =
        let list = served_from settings content first feeds in
        let past : List Occurrence = Answering first.inbox.answers ∷ [] in
        let P = policy settings true in
        let muxes = λ (number : ℕ). at_place (CarriesOneOn rfcomm_psm P) (none_carry rfcomm_psm P) (lists_of spans now) (muxes_of fits fit) number in
        let packets = all_packets settings content asks spans now feeds first last so muxes in
        let order : InOrderFrom settings past list = all-order settings content (asks-nothing settings content) spans now feeds first last past so begins.none timely fits fit refl in
        let lends : LendsSpellable first.server = subst (λ (r : Reacted). LendsSpellable r.server) (sym begins.is) (server_frames_are_said.first settings content) in
        let says = all_said settings content feeds first past lends packets order in
        let serves = subst (λ (at : Reacted). AllServeCarried AllGranted at list) begins.is (serve_from AllGranted settings content feeds first grants says packets) in
        record {
          comes = orderly_may_come settings stored occurrences
              (orderly_serves settings occurrences [] (new_over settings stored) (record { own = tt; answers = begins.granted; carried = tt }, serves) ((λ sdu is. absurd cc), order));
          muxes = muxes;
          packets = packets;
        }
