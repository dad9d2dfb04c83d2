-- What the channels of a host told it over all its links is what they told on each.
use Rattle.std.proofs.Common.{◌≡◌, ℕ, suc, List, [], ◌∷◌, ◌++◌, map, sym, ap, subst, ◌∙◌, append_assoc}
use Rattle.std.specs.Prelude.{get_or}
use Rattle.std.specs.List.{AllByRecursion, flat_map}
use Rattle.cause_laws.specs.channel_model.specs.declared.event.ChannelEvent.{ChannelEvent}
use Rattle.cause_laws.specs.channel_model.specs.declared.event.ChannelEvent.TheVariants.{Closed}
use Rattle.cause_laws.specs.channel_model.specs.declared.event.CloseReason.TheVariants.{LinkDown}
use Rattle.cause_laws.specs.channel_model.specs.Calls.{link_down, lost_at}
use Rattle.cause_laws.specs.channel_model.specs.Policies.{Policy}
use Rattle.cause_laws.specs.channel_model.specs.Value.{Stage, Requested, Connected, Leaving, Closing, Crossed, Held, Channels, no_channels}
use Rattle.limit_laws.specs.pair_laws.specs.channel_laws.specs.Runs.{Occurrence, new_link, run_of}
use Rattle.cause_laws.specs.world_model.specs.Machines.{LinkEvent, Up, Down}
use Rattle.cause_laws.specs.host_laws.specs.Calls.{values_after}
use Rattle.cause_laws.specs.host_laws.specs.Feeds.{Feed, Gifts, Learns, Receives, Happens, Sent, Steps, Tiding, Brings, Tells, Turns, tidings_of, tidings_by, tidings_from}
use Rattle.cause_laws.specs.host_laws.specs.Lives.{Span, end_tidings, span_tidings, all_tidings}
use Rattle.cause_laws.specs.host_laws.specs.Told.{events_told}
use Rattle.cause_laws.specs.host_laws.proofs.Links.{value_run}
use Rattle.cause_laws.specs.host_laws.proofs.Telling.{events_run}

module _ (F : ChannelEvent → Type 0) (lost : (own psm : ℕ) → F (Closed own psm LinkDown)) where
  -- ---- of tidings, and of what a profile goes through

  abbrev pub TidingSo : Tiding → Type 0
  TidingSo (Brings own psm sdu) = Unit {0}
  TidingSo (Tells event) = F event
  TidingSo (Turns event) = Unit {0}

  abbrev pub FeedSo : Feed → Type 0
  FeedSo (Happens event v) = F event
  FeedSo feed = Unit {0}

  all_both : (xs ys : List Tiding) → AllByRecursion TidingSo xs → AllByRecursion TidingSo ys → AllByRecursion TidingSo (xs ++ ys)
  all_both [] ys one two = two
  all_both (x ∷ xs) ys one two = (one.0, all_both xs ys one.1 two)

  all_behind : (xs ys : List Tiding) → AllByRecursion TidingSo (xs ++ ys) → AllByRecursion TidingSo ys
  all_behind [] ys all = all
  all_behind (x ∷ xs) ys all = all_behind xs ys all.1

  pub feeds_so : (feeds : List Feed) → AllByRecursion TidingSo (tidings_of feeds) → AllByRecursion FeedSo feeds
  feeds_so [] all = tt
  feeds_so (Gifts circumstances ∷ feeds) all = (tt, feeds_so feeds all)
  feeds_so (Learns circumstances news ∷ feeds) all = (tt, feeds_so feeds (all_behind (tidings_by news) (tidings_of feeds) all))
  feeds_so (Receives own psm sdu ∷ feeds) all = (tt, feeds_so feeds all.1)
  feeds_so (Happens event v ∷ feeds) all = (all.0, feeds_so feeds all.1)
  feeds_so (Sent v ∷ feeds) all = (tt, feeds_so feeds all)
  feeds_so (Steps v ∷ feeds) all = (tt, feeds_so feeds all)

  -- ---- on a link

  tiding_so : (tidings : List Tiding) → AllByRecursion F (events_told tidings) → AllByRecursion TidingSo tidings
  tiding_so [] all = tt
  tiding_so (Brings own psm sdu ∷ tidings) all = (tt, tiding_so tidings all)
  tiding_so (Tells event ∷ tidings) all = (all.0, tiding_so tidings all.1)
  tiding_so (Turns event ∷ tidings) all = (tt, tiding_so tidings all)

  list_so : (policy : Policy) (list : List Occurrence) → AllByRecursion F (run_of policy list).told → AllByRecursion TidingSo (tidings_from policy no_channels list)
  list_so policy list all = tiding_so (tidings_from policy no_channels list) (subst (AllByRecursion F) (events_run policy list) all)

  -- ---- a link that goes down

  told_so : (events : List ChannelEvent) → AllByRecursion F events → AllByRecursion TidingSo (map Tells events)
  told_so [] all = tt
  told_so (event ∷ events) all = (all.0, told_so events all.1)

  events_both : (xs ys : List ChannelEvent) → AllByRecursion F xs → AllByRecursion F ys → AllByRecursion F (xs ++ ys)
  events_both [] ys one two = two
  events_both (x ∷ xs) ys one two = (one.0, events_both xs ys one.1 two)

  lost_so : (stage : Stage) (held : Held) → AllByRecursion F (lost_at stage held)
  lost_so (Requested request) held = (lost held.own held.psm, tt)
  lost_so (Connected peer setup) held = (lost held.own held.psm, tt)
  lost_so (Leaving peer setup request) held = (lost held.own held.psm, tt)
  lost_so (Closing peer request checked) held = tt
  lost_so (Crossed peer request) held = tt

  all_lost : (list : List Held) → AllByRecursion F (flat_map (λ (held : Held). lost_at held.stage held) list)
  all_lost [] = tt
  all_lost (held ∷ list) = events_both (lost_at held.stage held) (flat_map (λ (held : Held). lost_at held.stage held) list) (lost_so held.stage held) (all_lost list)

  down_so : (v : Channels) → v.events ≡ [] → AllByRecursion F (link_down v).events
  down_so v none = subst (λ (l : List ChannelEvent). AllByRecursion F (l ++ flat_map (λ (held : Held). lost_at held.stage held) v.held)) (sym none) (all_lost v.held)

  end_so : (event : LinkEvent) (v : Channels) → v.events ≡ [] → AllByRecursion TidingSo (end_tidings event v)
  end_so Up v none = (tt, tt)
  end_so (Down reason) v none = all_both (map Tells (link_down v).events) (Turns (Down reason) ∷ []) (told_so (link_down v).events (down_so v none)) (tt, tt)

  -- ---- over all links

  span_so : (policy : Policy) (span : Span) → (run_of policy span.list).value.events ≡ [] → AllByRecursion F (run_of policy span.list).told → AllByRecursion TidingSo (span_tidings policy span)
  span_so policy span none all =
      all_both (tidings_from policy no_channels span.list) (end_tidings span.event (values_after policy no_channels span.list)) (list_so policy span.list all)
      (end_so span.event (values_after policy no_channels span.list) (ap (λ (v : Channels). v.events) (sym (value_run policy span.list new_link)) ∙ none))

  pub all_tidings_so : (policy : Policy) (spans : List Span) (now : List Occurrence) → AllByRecursion (λ (span : Span). (run_of policy span.list).value.events ≡ []) spans
      → ((k : ℕ) → AllByRecursion F (run_of policy (get_or (map (λ (span : Span). span.list) spans ++ now ∷ []) k [])).told) → AllByRecursion TidingSo (all_tidings policy spans now)
  all_tidings_so policy [] now none each = list_so policy now (each 0)
  all_tidings_so policy (span ∷ spans) now none each =
      subst (AllByRecursion TidingSo) (sym (append_assoc (span_tidings policy span) (flat_map (span_tidings policy) spans) (tidings_from policy no_channels now)))
      (all_both (span_tidings policy span) (all_tidings policy spans now) (span_so policy span none.0 (each 0)) (all_tidings_so policy spans now none.1 (λ k. each (suc k))))
