-- No push of a run blames its peer for what is never its fault.
use Rattle.std.proofs.Common.{◌≡◌, Bool, true, false, not, List, [], ◌∷◌, ◌++◌, Option, Some, None, unwrap_or, refl, sym, subst, append-nil, if◌then◌else◌}
use Rattle.std.specs.List.{AllByRecursion, flat_map}
use Rattle.request_laws.specs.bt_base.specs.Objects.{Contents}
use Rattle.request_laws.specs.bt_base.specs.declared.settings.Settings.{Settings}
use Rattle.request_laws.specs.capture.specs.Entries.{Entry, Ended}
use Rattle.request_laws.specs.push_terms.specs.declared.outcome.Outcome.{Outcome}
use Rattle.request_laws.specs.push_terms.specs.declared.outcome.Outcome.TheVariants.{ScriptEnded}
use Rattle.request_laws.specs.push_terms.specs.declared.word.Side.TheVariants as sides
use Rattle.request_laws.specs.pair_laws.specs.push_script.specs.declared.scenario.Scenario.{Scenario}
use Rattle.request_laws.specs.channel_laws.specs.Frames.{AreUttered}
use Rattle.request_laws.specs.world_model.specs.Worlds.{Happening, Tries, Departure, GivingBack, Piecemeal, Answering, Turns, Misses, Opens, Closes, entries_of, all_entries, Does, Runs}
use Rattle.request_laws.specs.host_model.specs.Clients.{client_profile}
use Rattle.request_laws.specs.host_model.specs.Servers.{server_profile}
use Rattle.request_laws.specs.host_laws.specs.Lives.{on_links}
use Rattle.request_laws.specs.host_laws.specs.OverLinks.{talk_marks, AreTimely}
use Rattle.request_laws.specs.host_laws.proofs.GoingAsTold.{first_over}
use Rattle.request_laws.specs.host_laws.proofs.Paging.{first_pages}
use Rattle.request_laws.specs.pair_laws.specs.scenario_laws.specs.Captures.{client_of, server_of, BothHosts, beginning, Happened, Ran}
use Rattle.request_laws.specs.pair_laws.specs.scenario_laws.specs.air_laws.proofs.Following.{runs_then}
use Rattle.request_laws.specs.pair_laws.specs.scenario_laws.specs.radio_world.specs.Standing.{last_entries}
use Rattle.request_laws.specs.pair_laws.specs.InTurn.{PairsInTurn}
use Rattle.request_laws.specs.pair_laws.specs.OnLinks.{happened_on}
use Rattle.request_laws.specs.pair_laws.proofs.Pairing.{hosts-take_turns}
use Rattle.request_laws.specs.pair_laws.proofs.Taking.{clients_within, servers_within, pairs-are_carried}
use Rattle.request_laws.proofs.AlongStreams.{at_place}
use Rattle.request_laws.proofs.Feeding.{all_both}
use Rattle.request_laws.proofs.Summing.{both_ask}
use Rattle.cause_laws.proofs.Clients.{Within}
use Rattle.blame_laws.specs.Blamed.{is_blamed, SparesIt, SparesPeer, RunsSparePeers}
use Rattle.blame_laws.proofs.Links.{IsWell, together}
use Rattle.blame_laws.proofs.Replying.{first_replies}
use Rattle.blame_laws.proofs.Spared.{is_spared}

-- ---- at a moment

turns_well : (scenario : Scenario) (content : Option Contents) (capture : List Entry) (ran : Ran scenario content capture) → PairsInTurn both_ask scenario content capture ran → IsWell scenario.settings ran.world.a.upper.profile.client
turns_well scenario content capture ran turns =
    let settings = scenario.settings in
    let pairs = turns.pairs in
    let A = client_profile settings in
    let B = server_profile settings content in
    let a = pairs.a.fed.so.lives in
    let b = pairs.b.fed.so.lives in
    together settings content (happened_on A (both_ask.clients settings) sides.A capture ran.world.a.upper pairs.a) (happened_on B (both_ask.servers settings content) sides.B capture ran.world.b.upper pairs.b) pairs.pairs
    (pairs-are_carried both_ask scenario content capture ran pairs (record { clients = clients_within; servers = servers_within }))
    (at_place (AreUttered A.policy) tt (on_links A (both_ask.clients settings) (flat_map talk_marks pairs.a.came.talk) ran.world.a.upper a) pairs.a.uttered)
    (at_place (AreUttered B.policy) tt (on_links B (both_ask.servers settings content) (flat_map talk_marks pairs.b.came.talk) ran.world.b.upper b) pairs.b.uttered)
    (λ k. k) a.spans a.now a.feeds A.first ran.world.a.upper.profile b.spans b.now b.feeds B.first ran.world.b.upper.profile pairs.a.fed.fed pairs.b.fed.fed (λ k. refl) (λ k. refl)
    (subst (AreTimely false) (sym a.marks_are) pairs.a.fed.so.timely) (subst (AreTimely false) (sym b.marks_are) pairs.b.fed.so.timely) turns.asked (first_pages settings) (record { over = first_over settings; spares = tt }, λ seeks. cc) (first_replies settings content)

pub moment-well : (scenario : Scenario) (content : Option Contents) (happenings : List Happening) (world : BothHosts) → Happened scenario content happenings world → IsWell scenario.settings world.a.upper.profile.client
moment-well scenario content happenings world happened =
    let ran : Ran scenario content (all_entries happenings) = record { happenings = happenings; world = world; happened = happened; ends = []; last = tt; capture_is = sym (append-nil (all_entries happenings)) } in
    turns_well scenario content (all_entries happenings) ran (hosts-take_turns both_ask scenario content (all_entries happenings) ran)

-- ---- an end

spared_not : (settings : Settings) (outcome : Outcome) → is_spared settings outcome ≡ true → is_blamed settings outcome ≡ false
spared_not settings outcome is = by (is_blamed settings outcome) is
  where
    by : (blamed : Bool) → not blamed ≡ true → blamed ≡ false
    by true e = cc
    by false e = refl

cause_not : (settings : Settings) (cause : Option Outcome) (outcome : Outcome) → cause ≡ Some outcome → Within (is_spared settings) cause → is_blamed settings outcome ≡ false
cause_not settings cause outcome is spares = spared_not settings outcome (subst (Within (is_spared settings)) is spares)

module _ (scenario : Scenario) (content : Option Contents) where
  one_spares : (happening : Happening) (done : List Happening) (old new : BothHosts) → Happened scenario content done old → Does (client_of scenario) (server_of scenario content) happening old new → AllByRecursion (SparesIt scenario.settings) (entries_of happening)
  one_spares (Tries side effort) done old new runs does = tt
  one_spares (Departure side order) done old new runs does = (tt, tt)
  one_spares (GivingBack side) done old new runs does = tt
  one_spares (Piecemeal side handle piece) done old new runs does = (tt, tt)
  one_spares (Answering side answer) done old new runs does = (tt, tt)
  one_spares (Turns ordinal word) done old new runs does = (tt, tt)
  one_spares (Misses word) done old new runs does = tt
  one_spares (Opens push name) done old new runs does = (tt, tt)
  one_spares (Closes push outcome) done old new runs (going, push_is, idle, is, apart, none_a, none_b, quiet_a, quiet_b, same) = (cause_not scenario.settings old.a.upper.profile.client.cause outcome is (moment-well scenario content done old runs).0.spares, tt)

  all_spare : (done rest : List Happening) (now new : BothHosts) → Happened scenario content done now → Runs (client_of scenario) (server_of scenario content) rest now new → AllByRecursion (SparesIt scenario.settings) (all_entries rest)
  all_spare done [] now new runs later = tt
  all_spare done (happening ∷ rest) now new runs (mid, does, later) =
      all_both (SparesIt scenario.settings) (entries_of happening) (all_entries rest) (one_spares happening done now mid runs does)
      (all_spare (done ++ happening ∷ []) rest mid new (runs_then (client_of scenario) (server_of scenario content) done happening (beginning scenario content) now mid runs does) later)

  moments : (happenings : List Happening) (world : BothHosts) → Happened scenario content happenings world → SparesPeer scenario.settings (all_entries happenings)
  moments happenings world happened = all_spare [] happenings (beginning scenario content) world refl happened

  last_spares : (happenings : List Happening) (world : BothHosts) → Happened scenario content happenings world → AllByRecursion (SparesIt scenario.settings) (last_entries ((client_of scenario).outcome world.a.upper) world.pushes)
  last_spares happenings world happened = by world.pushes.going
    where
      cause : (found : Option Outcome) → Within (is_spared scenario.settings) found → is_blamed scenario.settings (unwrap_or found ScriptEnded) ≡ false
      cause None spares = refl
      cause (Some outcome) spares = spared_not scenario.settings outcome spares

      by : (going : Bool) → AllByRecursion (SparesIt scenario.settings) (if going then Ended world.pushes.begun (unwrap_or world.a.upper.profile.client.cause ScriptEnded) ∷ [] else [])
      by true = (cause world.a.upper.profile.client.cause ((moment-well scenario content happenings world happened).0).spares, tt)
      by false = tt

pub runs_spare_peers : RunsSparePeers
runs_spare_peers = record {
  moments = λ scenario content happenings world happened. moments scenario content happenings world happened;
  ends = λ scenario content happenings world happened.
      all_both (SparesIt scenario.settings) (all_entries happenings) (last_entries ((client_of scenario).outcome world.a.upper) world.pushes) (moments scenario content happenings world happened) (last_spares scenario content happenings world happened);
}
