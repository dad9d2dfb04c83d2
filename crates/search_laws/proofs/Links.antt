-- On each link of a run its client begins with all its tries.
use Rattle.std.proofs.Common.{◌≡◌, ◌≤◌, ℕ, Bool, true, false, not, ◌&&◌, cond, List, [], ◌∷◌, refl, sym, subst, arith}
use Rattle.std.specs.Prelude.{is_some}
use Rattle.cause_laws.specs.bt_base.specs.declared.settings.Settings.{Settings}
use Rattle.cause_laws.specs.channel_model.specs.Value.{no_channels}
use Rattle.cause_laws.specs.sdp_client.specs.Asking.{is_due}
use Rattle.cause_laws.specs.push_model.specs.declared.course.Point.TheVariants.{Due}
use Rattle.cause_laws.specs.push_model.specs.declared.course.Stage.{Stage}
use Rattle.cause_laws.specs.push_model.specs.declared.course.Stage.TheVariants.{SearchChannel, LinkEnd}
use Rattle.cause_laws.specs.push_model.specs.Client.{is_idle}
use Rattle.cause_laws.specs.push_model.specs.Events.{linked_at}
use Rattle.cause_laws.specs.world_model.specs.Carriages.{linked_by}
use Rattle.cause_laws.specs.world_model.specs.Machines.{News, LinkEvent, Linked, Up, Down, Failed, Heard, TimerFired, Cancelled, Opening}
use Rattle.cause_laws.specs.host_model.specs.Circumstances.{Circumstance}
use Rattle.cause_laws.specs.host_model.specs.Clients.{ClientProfile, client_profile, is_paging, unlinked, told}
use Rattle.cause_laws.specs.host_model.specs.Profiles.{Profile}
use Rattle.cause_laws.specs.host_laws.specs.Asked.{IsWantedAt, up_behind, AreAsked}
use Rattle.cause_laws.specs.host_laws.specs.Calls.{Asks, values_after}
use Rattle.cause_laws.specs.host_laws.specs.Fed.{AreFed, span_feeds, behind_span}
use Rattle.cause_laws.specs.host_laws.specs.Feeds.{Feed, Gifts, Learns, Receives, Happens, Sent, Steps, fed, all_fed}
use Rattle.cause_laws.specs.host_laws.specs.Lives.{Span}
use Rattle.cause_laws.specs.host_laws.specs.Woven.{turned}
use Rattle.cause_laws.specs.host_laws.proofs.Paging.{PagesSo, WaitsForLink, first_pages, fed_pages}
use Rattle.cause_laws.specs.host_laws.proofs.StrandsFed.{here_so, span_so}
use Rattle.pair_laws.specs.channel_laws.specs.Runs.{Occurrence}
use Rattle.search_laws.specs.Searches.{IsSentAtMost}
use Rattle.search_laws.specs.Taken.{IsBeforeSearch, TakesOnLink, LinksTakeRequests}
use Rattle.search_laws.proofs.Deeds.{StagePaid, IsPaid, timer_paid}
use Rattle.search_laws.proofs.Hosts.{keeps as keeps_paid, told_paid}
use Rattle.search_laws.proofs.Strands.{requests-are_taken}
use Rattle.search_laws.proofs.Tries.{keeps as keeps_tries, news_has}

module _ (settings : Settings) where
  abbrev C : Profile ClientProfile
  C = client_profile settings

  abbrev Wants : ClientProfile → Type 0
  Wants p = (client_profile settings).wants_link p ≡ true

  abbrev n : ℕ
  n = settings.tries

  -- ---- all that its profile goes through

  -- it has its tries, and as it waits for its link all are left
  record Whole (p : ClientProfile) : Type 0 where
    has : p.client.tries ≡ settings.tries
    paid : IsPaid settings.tries p.client

  news_whole : (circumstances : List Circumstance) (news : News) (p : ClientProfile) → Whole p → Whole (told circumstances news p)
  news_whole g news p whole = record { has = news_has settings.tries settings news g p whole.has; paid = by news }
    where
      by : (news : News) → IsPaid settings.tries (told g news p).client
      by (Linked event) = told_paid settings n (Linked event) tt g p whole.paid
      by (Failed status) = told_paid settings n (Failed status) tt g p whole.paid
      by (Heard pdu) = whole.paid
      by TimerFired = timer_paid n p.client whole.paid (λ awaits. let has = whole.has in omega (arith, has))
      by Cancelled = told_paid settings n Cancelled tt g p whole.paid
      by (Opening name) = told_paid settings n (Opening name) tt g p whole.paid

  feed_whole : (feed : Feed) (p : ClientProfile) → Whole p → Whole (fed (client_profile settings) p feed)
  feed_whole (Gifts circumstances) p whole = record { has = (keeps_tries n settings).given circumstances p whole.has; paid = (keeps_paid settings n).given circumstances p whole.paid }
  feed_whole (Learns circumstances news) p whole = news_whole circumstances news p whole
  feed_whole (Receives own psm sdu) p whole = record { has = (keeps_tries n settings).received own psm sdu p whole.has; paid = (keeps_paid settings n).received own psm sdu p whole.paid }
  feed_whole (Happens event v) p whole = record { has = (keeps_tries n settings).happened event v p whole.has; paid = (keeps_paid settings n).happened event v p whole.paid }
  feed_whole (Sent v) p whole = record { has = (keeps_tries n settings).sent v p whole.has; paid = (keeps_paid settings n).sent v p whole.paid }
  feed_whole (Steps v) p whole = record { has = (keeps_tries n settings).steps v p whole.has; paid = (keeps_paid settings n).steps v p whole.paid }

  fed_whole : (feeds : List Feed) (p : ClientProfile) → Whole p → Whole (all_fed (client_profile settings) p feeds)
  fed_whole [] p whole = whole
  fed_whole (feed ∷ feeds) p whole = fed_whole feeds (fed (client_profile settings) p feed) (feed_whole feed p whole)

  -- ---- a link that it wants comes up

  left_true : (a b : Bool) → (a && b) ≡ true → a ≡ true
  left_true true b is = refl
  left_true false b is = cc

  wanted_fresh : (circumstances : List Circumstance) (p : ClientProfile) → PagesSo p → Whole p → Wants p → IsBeforeSearch (told circumstances (Linked Up) p)
  wanted_fresh g p pages whole wants = subst (λ (stage : Stage). IsBeforeSearch (unlinked (linked_at stage p.client) p)) (sym waits.0) (by (is_some p.client.cause))
    where
      waits : WaitsForLink p.client
      waits = pages (left_true (is_paging p.bid) (not (is_idle p.client)) wants)

      all : p.client.tries ≤ p.client.left
      all = subst (λ (stage : Stage). StagePaid settings.tries stage p.client.tries p.client.left (is_due p.client.query)) waits.0 whole.paid

      enough : IsSentAtMost 0 p.client
      enough = let now = all in omega (arith, now)

      by : (ended : Bool) → IsBeforeSearch (unlinked (cond ended (record (p.client) { stage = LinkEnd Due }) (record (p.client) { stage = SearchChannel Due })) p)
      by true = record { whole = enough; before = refl; none = refl }
      by false = record { whole = enough; before = refl; none = refl }

  module _ (asks : Asks (client_profile settings)) where
    -- ---- one link after the other

    links_take : (up : Bool) (spans : List Span) (now : List Occurrence) (feeds : List Feed) (first last : ClientProfile) (so : AreFed (client_profile settings) asks spans now feeds first last) → AreAsked (client_profile settings) asks Wants up spans now feeds first last so → PagesSo first → Whole first → (up ≡ true → IsBeforeSearch first) → up_behind up spans ≡ true
        → TakesOnLink settings asks now last
    links_take true [] now feeds first last so none pages whole fresh on =
        record { first = first; woven = so.woven; begins = none; fresh = fresh refl; taken = λ awaits. requests-are_taken settings asks now first last so.woven none (fresh refl) awaits }
    links_take false [] now feeds first last so none pages whole fresh on = cc
    links_take up (span ∷ spans) now feeds first last (here, later, is, rest) (none, wants, more) pages whole fresh on =
        links_take (linked_by span.event) spans now later (behind_span (client_profile settings) asks span first here) last rest more
        (subst PagesSo (span_so (client_profile settings) asks span first here) (fed_pages settings (span_feeds (client_profile settings) asks span first here) first pages))
        (subst Whole (span_so (client_profile settings) asks span first here) (fed_whole (span_feeds (client_profile settings) asks span first here) first whole))
        (up_fresh span.event wants) on
      where
        mid_pages : PagesSo here.mid
        mid_pages = subst PagesSo (here_so (client_profile settings) asks span first here) (fed_pages settings here.here first pages)

        mid_whole : Whole here.mid
        mid_whole = subst Whole (here_so (client_profile settings) asks span first here) (fed_whole here.here first whole)

        up_fresh : (event : LinkEvent) → IsWantedAt Wants event here.mid → linked_by event ≡ true → IsBeforeSearch (turned (client_profile settings) here.circumstances event (values_after (client_profile settings).policy no_channels span.list) here.mid)
        up_fresh Up wants' is' = wanted_fresh here.circumstances here.mid mid_pages mid_whole wants'
        up_fresh (Down reason) wants' is' = cc

pub links-take_requests : LinksTakeRequests
links-take_requests asks scenario content capture ran turns on =
    let settings = scenario.settings in
    let lives = turns.pairs.a.fed.so.lives in
    links_take settings (asks.clients settings) false lives.spans lives.now lives.feeds (client_profile settings).first ran.world.a.upper.profile turns.pairs.a.fed.fed turns.asked (first_pages settings) (record { has = refl; paid = tt }) (λ up. cc) on
