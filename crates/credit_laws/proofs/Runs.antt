-- Host b of a run holds credits over all its links, where its credits since the last closing are a number at each moment.
use Rattle.std.proofs.Common.{◌≡◌, ℕ, suc, Bool, true, false, cond, List, [], ◌∷◌, ◌++◌, Option, refl, sym, ap, subst, ◌∙◌, append_assoc}
use Rattle.std.specs.Prelude.{get_or}
use Rattle.std.specs.List.{AllByRecursion}
use Rattle.inbox_laws.specs.bt_base.specs.declared.settings.Settings.{Settings}
use Rattle.inbox_laws.specs.bt_base.specs.declared.settings.Transport.TheVariants.{Rfcomm}
use Rattle.inbox_laws.specs.bt_base.specs.Objects.{Object, Contents}
use Rattle.inbox_laws.specs.push_script.specs.declared.scenario.Scenario.{Scenario}
use Rattle.inbox_laws.specs.push_terms.specs.declared.word.Side.TheVariants as sides
use Rattle.inbox_laws.specs.capture.specs.Entries.{Entry}
use Rattle.inbox_laws.specs.channel_model.specs.Policies.{policy}
use Rattle.inbox_laws.specs.channel_model.specs.Value.{no_channels}
use Rattle.inbox_laws.specs.channel_laws.specs.Frames.{AreUttered}
use Rattle.inbox_laws.specs.channel_laws.specs.Runs as channels
use Rattle.inbox_laws.specs.channel_laws.specs.Runs.{run_of}
use Rattle.inbox_laws.specs.push_model.specs.Server.{rfcomm_psm}
use Rattle.inbox_laws.specs.push_laws.specs.Occurrences.{Occurrence, LinkDown}
use Rattle.inbox_laws.specs.push_laws.specs.Readings.{closes, since, since_from}
use Rattle.inbox_laws.specs.world_model.specs.Machines.{Up}
use Rattle.inbox_laws.specs.host_model.specs.Servers.{ServerProfile, server_profile}
use Rattle.inbox_laws.specs.host_laws.specs.Calls.{values_after}
use Rattle.inbox_laws.specs.host_laws.specs.Fed.{WovenFed, FedSpan, behind_span, span_feeds, AreFed}
use Rattle.inbox_laws.specs.host_laws.specs.Feeds.{Feed}
use Rattle.inbox_laws.specs.host_laws.specs.Lives.{Span, all_marks}
use Rattle.inbox_laws.specs.host_laws.specs.OverLinks.{AreTimely}
use Rattle.inbox_laws.specs.host_laws.specs.Serving.{served_from}
use Rattle.inbox_laws.specs.host_laws.proofs.Asking.{hosts_ask}
use Rattle.inbox_laws.specs.host_laws.proofs.InOrder.{asks-nothing}
use Rattle.inbox_laws.specs.host_laws.proofs.StrandsFed.{span_so}
use Rattle.request_laws.specs.BothFed.{IsDown}
use Rattle.inbox_laws.specs.host_laws.specs.OneOnLinks.{CarriesOneOn}
use Rattle.request_laws.proofs.Between.{between_still}
use Rattle.request_laws.proofs.Feeding.{served-both}
use Rattle.request_laws.proofs.Paired.{lists_of}
use Rattle.request_laws.proofs.Silent.{IsStill}
use Rattle.request_laws.proofs.Summing.{both_ask}
use Rattle.request_laws.proofs.Timely.{HearsNothing, is_up, goes_down, is_deaf, is_down}
use Rattle.inbox_laws.specs.scenario_laws.specs.Captures.{Ran}
use Rattle.inbox_laws.specs.scenario_laws.specs.Gains.{holding}
use Rattle.inbox_laws.specs.scenario_laws.specs.Parties.{party_of}
use Rattle.inbox_laws.specs.pair_laws.specs.Keeping.{PairsKeepOrder}
use Rattle.inbox_laws.specs.pair_laws.specs.OnLinks.{LivedOver}
use Rattle.request_laws.specs.GainsCarried.{AllAreHeard}
use Rattle.credit_laws.specs.Kept.{IsSolvent}
use Rattle.credit_laws.specs.Runs.{RunsHoldCredits, AllAreMissed, HeardRunsHoldCredits}
use Rattle.credit_laws.specs.Seen.{AreCovered}
use Rattle.credit_laws.proofs.Alone.{all_alone}
use Rattle.credit_laws.proofs.Heard.{passed_in, AllHold, hold_front, quiet_hold, heard_hold, missed_hold, since_both, heard_covered}
use Rattle.credit_laws.proofs.Landing.{capture_holds}
use Rattle.credit_laws.proofs.Parts.{part_covered}
use Rattle.credit_laws.proofs.Spans.{NoDown, still_kept, weave_stays, span_served, part_served, turn_served, span_parts, served_up, served_down, turned_bare, part_behind}

still_since : (kept xs : List Occurrence) → passed_in kept ≡ [] → AllByRecursion IsStill xs → passed_in (since_from rfcomm_psm kept xs) ≡ []
still_since kept [] none all = none
still_since kept (x ∷ xs) none all = still_since (cond (closes rfcomm_psm x) [] (kept ++ x ∷ [])) xs (still_kept kept x (closes rfcomm_psm x) none all.0) all.1

down_since : (kept xs : List Occurrence) → since_from rfcomm_psm kept (xs ++ LinkDown ∷ []) ≡ []
down_since kept [] = refl
down_since kept (x ∷ xs) = down_since (cond (closes rfcomm_psm x) [] (kept ++ x ∷ [])) xs

module _ (settings : Settings) (content : Option Contents) where
  read_covers : (list : List channels.Occurrence) (feeds : List Feed) (first last : ServerProfile) (ahead : List Occurrence) → WovenFed (server_profile settings content) (hosts_ask.servers settings content) list feeds first last → CarriesOneOn rfcomm_psm (policy settings true) list
      → AreUttered (policy settings true) list → first.endpoints ≡ [] → passed_in (since rfcomm_psm ahead) ≡ [] → AllHold (ahead ++ served_from settings content first feeds)
      → AreCovered (party_of settings sides.B) (run_of (policy settings true) list).said
  read_covers list feeds first last ahead so one uttered bare fresh all =
      let here = served_from settings content first feeds in
      let stays : AllByRecursion NoDown here =
      subst (λ (fs : List Feed). AllByRecursion NoDown (served_from settings content first fs)) (sym so.feeds_are) (weave_stays settings content so.woven.weave no_channels first so.woven.on_link) in
      part_covered settings content list feeds first last so bare one uttered (heard_covered ahead here fresh all (part_behind settings content list feeds first last so one) stays)

  abbrev spanned : (span : Span) (first : ServerProfile) → FedSpan (server_profile settings content) (hosts_ask.servers settings content) span first → List Occurrence
  spanned span first here = span_served settings content span first here

  fresh_up : (span : Span) (first : ServerProfile) (here : FedSpan (server_profile settings content) (hosts_ask.servers settings content) span first) (ahead : List Occurrence) → span.event ≡ Up → AllByRecursion HearsNothing span.list → passed_in (since rfcomm_psm ahead) ≡ []
      → passed_in (since rfcomm_psm (ahead ++ spanned span first here)) ≡ []
  fresh_up span first here ahead event deaf fresh =
      let still = between_still settings content (hosts_ask.servers settings content) span.list here.here first here.mid here.so deaf in
      let part = part_served settings content span first here in
      ap passed_in (ap (λ (l : List Occurrence). since rfcomm_psm (ahead ++ l)) (served_up settings content span first here event) ∙ since_both [] ahead part) ∙ still_since (since rfcomm_psm ahead) part fresh still

  fresh_down : (span : Span) (first : ServerProfile) (here : FedSpan (server_profile settings content) (hosts_ask.servers settings content) span first) (ahead : List Occurrence) → IsDown span.event → passed_in (since rfcomm_psm (ahead ++ spanned span first here)) ≡ []
  fresh_down span first here ahead down =
      let d = served_down settings content span first here down in
      let part = part_served settings content span first here in
      ap passed_in (ap (λ (l : List Occurrence). since rfcomm_psm (ahead ++ l)) d.1 ∙ (since_both [] ahead ((part ++ d.0) ++ LinkDown ∷ []) ∙ down_since (since rfcomm_psm ahead) (part ++ d.0)))

  record Turned (span : Span) (spans : List Span) (now : List channels.Occurrence) (first : ServerProfile) (here : FedSpan (server_profile settings content) (hosts_ask.servers settings content) span first) (ahead : List Occurrence) : Type 0 where
    after : Bool
    timely : AreTimely after (all_marks spans now)
    fresh : passed_in (since rfcomm_psm (ahead ++ spanned span first here)) ≡ []

  turn : (up : Bool) (span : Span) (spans : List Span) (now : List channels.Occurrence) (first : ServerProfile) (here : FedSpan (server_profile settings content) (hosts_ask.servers settings content) span first) (ahead : List Occurrence) → AreTimely up (all_marks (span ∷ spans) now)
      → passed_in (since rfcomm_psm ahead) ≡ [] → Turned span spans now first here ahead
  turn false span spans now first here ahead timely fresh =
      let event = is_up span spans now timely in
      let deaf = is_deaf span spans now event timely in
      record { after = true; timely = deaf.rest; fresh = fresh_up span first here ahead event deaf.deaf fresh }
  turn true span spans now first here ahead timely fresh =
      let down = goes_down span spans now timely in
      record { after = false; timely = is_down span spans now down timely; fresh = fresh_down span first here ahead down }

  front_part : (span : Span) (first : ServerProfile) (here : FedSpan (server_profile settings content) (hosts_ask.servers settings content) span first) (ahead more : List Occurrence) → AllHold (ahead ++ (spanned span first here ++ more))
      → AllHold (ahead ++ part_served settings content span first here)
  front_part span first here ahead more all =
      let part = part_served settings content span first here in
      let turns = turn_served settings content span first here in
      let same : ahead ++ (spanned span first here ++ more) ≡ (ahead ++ part) ++ (turns ++ more) =
      ap (λ (l : List Occurrence). ahead ++ (l ++ more)) (span_parts settings content span first here) ∙ (ap (λ (l : List Occurrence). ahead ++ l) (append_assoc part turns more) ∙ sym (append_assoc ahead part (turns ++ more))) in
      hold_front (ahead ++ part) (turns ++ more) (subst AllHold same all)

  all_read : (up : Bool) (spans : List Span) (now : List channels.Occurrence) (feeds : List Feed) (first last : ServerProfile) (ahead : List Occurrence) → AreFed (server_profile settings content) (hosts_ask.servers settings content) spans now feeds first last
      → AreTimely up (all_marks spans now) → first.endpoints ≡ [] → passed_in (since rfcomm_psm ahead) ≡ [] → AllHold (ahead ++ served_from settings content first feeds)
      → ((number : ℕ) → CarriesOneOn rfcomm_psm (policy settings true) (get_or (lists_of spans now) number [])) → AllByRecursion (AreUttered (policy settings true)) (lists_of spans now)
      → AllByRecursion (λ (list : List channels.Occurrence). AreCovered (party_of settings sides.B) (run_of (policy settings true) list).said) (lists_of spans now)
  all_read up [] now feeds first last ahead so timely bare fresh all muxes uttered = (read_covers now feeds first last ahead so (muxes 0) uttered.0 bare fresh all, tt)
  all_read up (span ∷ spans) now feeds first last ahead (here, later, is, rest) timely bare fresh all muxes uttered =
      let B = server_profile settings content in
      let asks = hosts_ask.servers settings content in
      let spun = span_feeds B asks span first here in
      let behind = behind_span B asks span first here in
      let on = spanned span first here in
      let more = served_from settings content behind later in
      let cut : served_from settings content first feeds ≡ on ++ more =
      ap (served_from settings content first) is ∙ (served-both settings content spun later first ∙ ap (λ (p : ServerProfile). on ++ served_from settings content p later) (span_so B asks span first here)) in
      let whole : AllHold (ahead ++ (on ++ more)) = subst (λ (l : List Occurrence). AllHold (ahead ++ l)) cut all in
      let parted : AllHold (ahead ++ (part_served settings content span first here)) = front_part span first here ahead more whole in
      let t = turn up span spans now first here ahead timely fresh in (
        read_covers span.list here.here first here.mid ahead here.so (muxes 0) uttered.0 bare fresh parted,
        all_read t.after spans now later behind last (ahead ++ on) rest t.timely (turned_bare settings content here.circumstances span.event (values_after (policy settings true) no_channels span.list) here.mid) t.fresh
            (subst AllHold (sym (append_assoc ahead on more)) whole) (λ number. muxes (suc number)) uttered.1,
      )

-- ---- a run

-- however it went through a run over RFCOMM
module _ (scenario : Scenario) (content : Option Contents) (capture : List Entry) (ran : Ran scenario content capture) (b : LivedOver (server_profile scenario.settings content) (hosts_ask.servers scenario.settings content) sides.B capture ran.world.b.upper) (muxed : scenario.settings.transport ≡ Rfcomm) where
  abbrev all_served : List Occurrence
  all_served = served_from scenario.settings content (server_profile scenario.settings content).first b.fed.so.lives.feeds

  pub host_holds : AllHold all_served → IsSolvent scenario.settings sides.B capture
  host_holds all =
      let settings = scenario.settings in
      let lives = b.fed.so.lives in
      capture_holds scenario content capture ran (hosts_ask.servers settings content) b (asks-nothing settings content)
      (all_read settings content false lives.spans lives.now lives.feeds (server_profile settings content).first ran.world.b.upper.profile [] b.fed.fed (subst (AreTimely false) (sym lives.marks_are) b.fed.so.timely) refl refl all
      (all_alone scenario content capture ran b muxed) b.uttered)

pub runs-hold_credits : RunsHoldCredits
runs-hold_credits = record {
  asks = hosts_ask;
  servers = λ scenario content capture ran pairs muxed quietly. host_holds scenario content capture ran pairs.b muxed (quiet_hold scenario.settings content (all_served scenario content capture ran pairs.b muxed) quietly);
}

-- where both hosts' channels keep their order
pub heard_solvent : (scenario : Scenario) (before : List Object) (capture : List Entry) (ran : Ran scenario (holding before) capture) (order : PairsKeepOrder both_ask scenario (holding before) capture ran) → scenario.settings.transport ≡ Rfcomm
    → AllAreHeard both_ask scenario before capture ran order → IsSolvent scenario.settings sides.B capture
heard_solvent scenario before capture ran order muxed all =
    let b = order.turns.pairs.b in host_holds scenario (holding before) capture ran b muxed (heard_hold scenario.settings before (all_served scenario (holding before) capture ran b muxed) all)

-- or where they may be missed
pub missed_solvent : (scenario : Scenario) (before : List Object) (capture : List Entry) (ran : Ran scenario (holding before) capture) (order : PairsKeepOrder both_ask scenario (holding before) capture ran) → scenario.settings.transport ≡ Rfcomm
    → AllAreMissed both_ask scenario before capture ran order → IsSolvent scenario.settings sides.B capture
missed_solvent scenario before capture ran order muxed all =
    let b = order.turns.pairs.b in host_holds scenario (holding before) capture ran b muxed (missed_hold scenario.settings before (all_served scenario (holding before) capture ran b muxed) all)

pub heard-runs_hold : HeardRunsHoldCredits
heard-runs_hold = record { asks = both_ask; heard = heard_solvent; missed = missed_solvent }
