-- What a scenario comes to that was played: over either transport, and over L2CAP.
use Rattle.std.proofs.Common.{◌≡◌, ℕ, List, [], ◌++◌, length, Option, Some, None, refl, sym, ap, ◌∙◌, subst, inl, inr, ◌⊎◌}
use Rattle.std.proofs.lemmas.List.{append-nil}
use Rattle.bt_base.specs.Objects.{Object, Contents}
use Rattle.bt_base.specs.declared.settings.Settings.{Settings}
use Rattle.bt_base.specs.declared.settings.Transport.TheVariants.{L2cap}
use Rattle.noting_laws.specs.obex_session.specs.Counting.{Counts}
use Rattle.push_script.specs.declared.scenario.Scenario.{Scenario}
use Rattle.push_terms.specs.declared.outcome.Outcome.{Outcome}
use Rattle.push_terms.specs.declared.peaks.Peaks.{Peaks}
use Rattle.push_terms.specs.declared.word.Side.{Side}
use Rattle.push_terms.specs.declared.word.Side.TheVariants.{A, B}
use Rattle.push_terms.specs.declared.word.Word.{Word}
use Rattle.capture.specs.Entries.{Entry}
use Rattle.capture.specs.Histories.{EachAfter}
use Rattle.capture.proofs.HistoryLaws.{at_each-whole}
use Rattle.radio_world.specs.radio_model.specs.Air.{KeepsTo}
use Rattle.noting_laws.specs.link_talk.specs.Captures.{objects_heard, talk_now}
use Rattle.noting_laws.specs.channel_laws.proofs.Windowing.{windows-hold}
use Rattle.noting_laws.specs.world_model.specs.Machines.{News, Linked, Failed, Heard, TimerFired, Cancelled, Opening}
use Rattle.noting_laws.specs.world_model.specs.Worlds.{Happening, all_entries}
use Rattle.noting_laws.specs.push_laws.specs.Laws.{stored_in}
use Rattle.bt_host.specs.host_model.specs.Circumstances.{Circumstance}
use Rattle.bt_host.specs.shelf_model.specs.Held.{held_by}
use Rattle.noting_laws.specs.host_laws.specs.Answered.{TellsAtMost}
use Rattle.noting_laws.specs.host_laws.proofs.InOrder.{asks-nothing}
use Rattle.credit_laws.specs.request_laws.specs.BothFed.{most_octets}
use Rattle.noting_laws.specs.host_laws.specs.ShelfAnswers.{TellsSizeOf}
use Rattle.noting_laws.specs.scenario_laws.specs.Accounts.{KeepsWindow}
use Rattle.noting_laws.specs.scenario_laws.specs.Air.{hosts_of}
use Rattle.noting_laws.specs.scenario_laws.specs.Captures.{client_of, server_of, beginning, BothHosts, Ran}
use Rattle.noting_laws.specs.scenario_laws.specs.Gains.{holding}
use Rattle.noting_laws.specs.scenario_laws.specs.Parties.{party_of}
use Rattle.noting_laws.specs.scenario_laws.proofs.Accounts.{buffers_kept, controllers_honest, pushes_in_turn}
use Rattle.noting_laws.specs.scenario_laws.proofs.Airs.{air_kept, air_obeyed}
use Rattle.noting_laws.specs.scenario_laws.proofs.Early.{fronts_spell_fronts}
use Rattle.noting_laws.specs.scenario_laws.proofs.Gaining.{gains_exactly}
use Rattle.noting_laws.specs.scenario_laws.proofs.OneLink.{pushes_have_one_link}
use Rattle.noting_laws.specs.scenario_laws.proofs.PushEnds.{pushes_end, pushes_are_of_scenarios}
use Rattle.noting_laws.specs.pair_laws.specs.Granted.{granting, HappenedGranted}
use Rattle.noting_laws.specs.pair_laws.specs.Served.{HappenedServed}
use Rattle.noting_laws.specs.pair_laws.specs.Windows.{HoldsOn, HoldsThroughout, RunsHoldWindows}
use Rattle.noting_laws.specs.pair_laws.proofs.Answered.{runs-so}
use Rattle.noting_laws.specs.pair_laws.proofs.Pairing.{granted-take_turns, held-take_turns, served-take_turns}
use Rattle.noting_laws.specs.pair_laws.proofs.Taking.{clients_within, servers_within}
use Rattle.noting_laws.specs.pair_laws.proofs.Windows.{runs_hold, talks_hold}
use Rattle.credit_laws.specs.request_laws.specs.Together.{ServesAll}
use Rattle.credit_laws.specs.request_laws.proofs.AllSizes.{gains_so}
use Rattle.credit_laws.specs.request_laws.proofs.Linked.{runs_are_linked}
use Rattle.credit_laws.specs.request_laws.proofs.Together.{all_granted}
use Rattle.credit_laws.specs.request_laws.proofs.Told.{all_tell, none_longer}
use Rattle.credit_laws.specs.request_laws.proofs.ObjectPipes.{are_piped}
use Rattle.credit_laws.specs.request_laws.proofs.Paired.{paired_servers_serve}
use Rattle.credit_laws.specs.request_laws.proofs.Summing.{both_ask}
use Rattle.parting_laws.specs.Parting.{FewWordsPartNone}
use Rattle.window_laws.proofs.Runs.{runs-hold_absolutely}
use Rattle.scenario_play.proofs.Causes.{causes_shown, losses_shown, peer_spared, none_parted, none_parted_so_far}
use Rattle.scenario_play.specs.Breaking.{IsBroken}
use Rattle.scenario_play.specs.Gaining.{HaveAnswered, HaveGranted, HaveOffered, HoldsAtMost, KeepsAccounts, ServesAndGains, KeepsPlayed, KeepsBroken, GainsPlayed, GainsBroken, PlaysKeep, PlaysGain}
use Rattle.scenario_play.specs.Playing.{IsPlayed}
use Rattle.scenario_play.proofs.Alikeness.{enough_held}

-- ---- a run

-- both hosts hold their windows
windows_held : RunsHoldWindows
windows_held = runs_hold windows-hold

-- what is held at each moment is not passed at the end
window_kept : (settings : Settings) (side : Side) (capture : List Entry) → HoldsThroughout settings side capture → KeepsWindow settings side capture
window_kept settings side capture holds own channel known alive =
    talks_hold.used settings side (talk_now side capture) own channel (at_each-whole (λ (past : List Entry). HoldsOn settings side (talk_now side past)) capture holds) known

pub accounts_kept : (scenario : Scenario) (content : Option Contents) (capture : List Entry) → Ran scenario content capture → KeepsAccounts scenario capture
accounts_kept scenario content capture ran = record {
  within_a = buffers_kept scenario content capture A ran;
  within_b = buffers_kept scenario content capture B ran;
  window_a = windows_held.throughout scenario content capture A ran;
  window_b = windows_held.throughout scenario content capture B ran;
  on_links_a = windows_held.on_links scenario content capture A ran;
  on_links_b = windows_held.on_links scenario content capture B ran;
  absolute_a = runs-hold_absolutely.throughout scenario content capture A ran;
  absolute_b = runs-hold_absolutely.throughout scenario content capture B ran;
  absolute_on_links_a = runs-hold_absolutely.on_links scenario content capture A ran;
  absolute_on_links_b = runs-hold_absolutely.on_links scenario content capture B ran;
  honest = controllers_honest scenario content capture ran;
  in_turn = pushes_in_turn scenario content capture ran;
  one_link_a = pushes_have_one_link scenario content capture A ran;
  one_link_b = pushes_have_one_link scenario content capture B ran;
  few = (pushes_are_of_scenarios scenario content capture ran).few;
}

-- ---- over either transport

pub played_kept : FewWordsPartNone → (scenario : Scenario) (shelf : Option (List Object)) (before after : Option Contents) (trace trace' : Option (List ℕ)) (outcomes : List Outcome) (peaks : Peaks) (counts counts' : Counts) (played : IsPlayed scenario shelf before after trace trace' outcomes peaks counts counts')
    → KeepsPlayed scenario outcomes played.capture
played_kept law scenario shelf before after trace trace' outcomes peaks counts counts' played = record {
  accounts = accounts_kept scenario before played.capture played.finished.ran;
  all_ended = pushes_end scenario before played.capture played.finished.ran ((client_of scenario).outcome played.finished.ran.world.a.upper) played.ends;
  outcomes_are = played.outcomes_are;
  causes = causes_shown scenario shelf before after trace trace' outcomes peaks counts counts' played;
  drops = losses_shown scenario shelf before after trace trace' outcomes peaks counts counts' played;
  spares = peer_spared scenario shelf before after trace trace' outcomes peaks counts counts' played;
  limits = none_parted law scenario shelf before after trace trace' outcomes peaks counts counts' played;
  outcomes_are_all = ap (λ (l : List Outcome). length l) played.outcomes_are ∙ (pushes_are_of_scenarios scenario before played.capture played.finished.ran).outcomes_are_all;
  obeys = air_obeyed scenario before played.capture played.finished;
}

pub broken_kept : (scenario : Scenario) (shelf : Option (List Object)) (before after : Option Contents) (trace trace' : Option (List ℕ)) (counts counts' : Counts) (broken : IsBroken scenario shelf before after trace trace' counts counts')
    → KeepsBroken scenario (all_entries broken.happenings ++ broken.next)
broken_kept scenario shelf before after trace trace' counts counts' broken =
    let capture : List Entry = all_entries broken.happenings ++ broken.next in
    record {
      accounts = accounts_kept scenario before capture broken.ran;
      keeps = subst (λ (ws : List Word). EachAfter (KeepsTo (hosts_of scenario.settings) scenario.acl_length ws) [] capture) (sym broken.words_are) (air_kept scenario before capture broken.later broken.ran);
    }

pub plays_keep : FewWordsPartNone → PlaysKeep
plays_keep law = record {
  plays = λ scenario shelf before after trace trace' outcomes peaks counts counts' played. played_kept law scenario shelf before after trace trace' outcomes peaks counts counts' played;
  breaks = λ scenario shelf before after trace trace' counts counts' broken. broken_kept scenario shelf before after trace trace' counts counts' broken;
  limits = λ scenario shelf before after trace trace' counts counts' broken few. none_parted_so_far law scenario shelf before after trace trace' counts counts' broken few;
}

-- ---- over L2CAP

-- however both hosts went through it side by side, where their ports answered
serves_all : (scenario : Scenario) (before : List Object) (capture : List Entry) (ran : Ran scenario (holding before) capture) → scenario.settings.transport ≡ L2cap → HaveAnswered both_ask scenario before capture ran
    → ServesAll both_ask scenario before capture ran
serves_all scenario before capture ran direct have =
    let turns = have.turns in
    let pairs = turns.pairs in
    let piped = are_piped scenario before capture ran direct pairs in
    let linked = piped.linked (runs_are_linked both_ask scenario before capture ran turns) in
    let orderly = paired_servers_serve both_ask scenario before capture ran direct pairs (record { linked = linked; small = have.answer.small; granted = have.answer.granted }) (record { clients = clients_within; servers = servers_within })
    (asks-nothing scenario.settings (holding before)) in
    record { orderly = orderly; gained = gains_exactly both_ask scenario before capture ran direct orderly }

abbrev as_told : News → List Circumstance → List Circumstance
as_told news answers = answers

-- that the shelf told what it holds changes nothing of what the inbox granted
pub so_granted : (scenario : Scenario) (shelf : Option (List Object)) (before : List Object) (happenings : List Happening) (world : BothHosts) → HappenedServed scenario shelf (holding before) happenings world → HappenedGranted scenario (holding before) happenings world
so_granted scenario shelf before happenings world happened = runs-so (client_of scenario) (granting (server_of scenario (holding before))) (held_by shelf) as_told happenings (beginning scenario (holding before)) world happened

-- and where the inbox granted all
have_granted : (scenario : Scenario) (shelf : Option (List Object)) (before : List Object) (capture : List Entry) (ran : Ran scenario (holding before) capture) → HappenedServed scenario shelf (holding before) ran.happenings ran.world
    → HaveGranted both_ask scenario before capture ran
have_granted scenario shelf before capture ran happened =
    let so = granted-take_turns both_ask scenario (holding before) capture ran (so_granted scenario shelf before ran.happenings ran.world happened) in
    record { turns = so.turns; granted = all_granted so.turns.pairs.b.fed.so.lives.feeds so.given }

-- ---- what the shelf told

no_longer : (most : ℕ) (shelf : Option (List Object)) → HoldsAtMost most shelf → (circumstances : List Circumstance) (news : News) → TellsSizeOf shelf circumstances news → TellsAtMost most circumstances news
no_longer most shelf short circumstances (Linked event) told = tt
no_longer most shelf short circumstances (Failed status) told = tt
no_longer most shelf short circumstances (Heard pdu) told = tt
no_longer most shelf short circumstances TimerFired told = tt
no_longer most shelf short circumstances Cancelled told = tt
no_longer most None short circumstances (Opening name) told = absurd short
no_longer most (Some objects) short circumstances (Opening name) told = λ size is. short name size (told size is).1

-- ---- both hosts, where the inbox granted all

-- their ports answered, where no object of the shelf is too long
have_answered : (scenario : Scenario) (shelf : Option (List Object)) (before : List Object) (capture : List Entry) (ran : Ran scenario (holding before) capture) → HappenedServed scenario shelf (holding before) ran.happenings ran.world
    → HoldsAtMost most_octets shelf → HaveAnswered both_ask scenario before capture ran
have_answered scenario shelf before capture ran happened short =
    let so = served-take_turns both_ask scenario shelf (holding before) capture ran happened in
    let feeds = so.turns.pairs.a.fed.so.lives.feeds in
    record { turns = so.turns; answer = record { small = all_tell most_octets shelf (no_longer most_octets shelf short) feeds so.told; granted = all_granted so.turns.pairs.b.fed.so.lives.feeds so.given } }

-- and for what the inbox gains, whatever the shelf holds
have_offered : (scenario : Scenario) (shelf : Option (List Object)) (before : List Object) (capture : List Entry) (ran : Ran scenario (holding before) capture) → HappenedServed scenario shelf (holding before) ran.happenings ran.world
    → HaveOffered both_ask scenario before capture ran
have_offered scenario shelf before capture ran happened =
    let so = served-take_turns both_ask scenario shelf (holding before) capture ran happened in
    record { turns = so.turns; grants = record { small = none_longer shelf so.turns.pairs.a.fed.so.lives.feeds so.told; granted = all_granted so.turns.pairs.b.fed.so.lives.feeds so.given } }

-- ---- to its end

plays : PlaysKeep → (scenario : Scenario) (shelf : Option (List Object)) (before : List Object) (after : Option Contents) (trace trace' : Option (List ℕ)) (outcomes : List Outcome) (peaks : Peaks) (counts counts' : Counts) (played : IsPlayed scenario shelf (holding before) after trace trace' outcomes peaks counts counts')
    → scenario.settings.transport ≡ L2cap → GainsPlayed both_ask scenario shelf before after outcomes played.capture played.finished counts counts'
plays keeps scenario shelf before after trace trace' outcomes peaks counts counts' played direct = record {
  kept = kept;
  told = held-take_turns both_ask scenario shelf (holding before) played.capture played.finished.ran (enough_held scenario shelf (holding before) played.finished.ran.happenings played.finished.ran.world played.enough);
  granted = λ never. have_granted scenario shelf before played.capture played.finished.ran (played.granted never);
  offered = λ never. have_offered scenario shelf before played.capture played.finished.ran (played.granted never);
  answered = λ never short. have_answered scenario shelf before played.capture played.finished.ran (played.granted never) short;
  gained = λ have. ap stored_in played.stored ∙ gains_so scenario before played.capture played.finished.ran direct have.turns have.grants;
  serves = serves;
  ends = λ have.
      let all = serves have in
      record {
        gained = all.gained;
        within_a = kept.accounts.within_a;
        within_b = kept.accounts.within_b;
        window_a = window_kept scenario.settings A played.capture kept.accounts.window_a;
        window_b = window_kept scenario.settings B played.capture kept.accounts.window_b;
        honest = kept.accounts.honest;
        in_turn = kept.accounts.in_turn;
        outcomes_are = played.outcomes_are;
        obeys = kept.obeys;
      };
}
  where
    kept : KeepsPlayed scenario outcomes played.capture
    kept = keeps.plays scenario shelf (holding before) after trace trace' outcomes peaks counts counts' played

    serves : HaveAnswered both_ask scenario before played.capture played.finished.ran → ServesAndGains both_ask scenario before played.capture played.finished.ran.world (stored_in after)
    serves have =
        let all = serves_all scenario before played.capture played.finished.ran direct have in
        record { orderly = all.orderly; gained = ap stored_in played.stored ∙ all.gained }

-- ---- as far as it came

pub unless : {X Y : Type 0} → X ⊎ Y → (Y → ⊥) → X
unless (inl x) none = x
unless (inr y) none = absurd (none y)

-- all that happened is the capture of a run
abbrev pub run_so_far : (scenario : Scenario) (shelf : Option (List Object)) (before after : Option Contents) (trace trace' : Option (List ℕ)) (counts counts' : Counts) (broken : IsBroken scenario shelf before after trace trace' counts counts') → Ran scenario before (all_entries broken.happenings)
run_so_far scenario shelf before after trace trace' counts counts' broken =
    record { happenings = broken.happenings; world = broken.world; happened = broken.happened; ends = []; last = tt; capture_is = sym (append-nil (all_entries broken.happenings)) }

breaks : (scenario : Scenario) (shelf : Option (List Object)) (before : List Object) (after : Option Contents) (trace trace' : Option (List ℕ)) (counts counts' : Counts) (broken : IsBroken scenario shelf (holding before) after trace trace' counts counts')
    → scenario.settings.transport ≡ L2cap → GainsBroken both_ask scenario shelf before after trace trace' counts counts' broken
breaks scenario shelf before after trace trace' counts counts' broken direct = record {
  past = so_far;
  world_is = refl;
  kept = kept;
  told = held-take_turns both_ask scenario shelf (holding before) past so_far (enough_held scenario shelf (holding before) broken.happenings broken.world broken.enough.0);
  granted = λ never. have_granted scenario shelf before past so_far (broken.granted never).0;
  offered = λ never. have_offered scenario shelf before past so_far (broken.granted never).0;
  answered = λ never short. have_answered scenario shelf before past so_far (broken.granted never).0 short;
  serves = λ have. (serves_all scenario before past so_far direct have).orderly;
  gained = λ have none. ap stored_in (unless broken.stored none) ∙ gains_so scenario before past so_far direct have.turns have.grants;
  breaks_off = λ have none. record {
    gain = objects_heard (party_of scenario.settings B) B past;
    gained = ap stored_in (unless broken.stored none) ∙ (serves_all scenario before past so_far direct have).gained;
    all = refl;
    first = fronts_spell_fronts (party_of scenario.settings B) B capture past (broken.next, refl);
    within_a = kept.accounts.within_a;
    within_b = kept.accounts.within_b;
    honest = kept.accounts.honest;
    in_turn = kept.accounts.in_turn;
    keeps = kept.keeps;
  };
}
  where
    past : List Entry
    past = all_entries broken.happenings

    capture : List Entry
    capture = past ++ broken.next

    so_far : Ran scenario (holding before) past
    so_far = run_so_far scenario shelf (holding before) after trace trace' counts counts' broken

    kept : KeepsBroken scenario capture
    kept = broken_kept scenario shelf (holding before) after trace trace' counts counts' broken

-- ---- the law

pub plays_gain : PlaysKeep → PlaysGain
plays_gain keeps = record {
  asks = both_ask;
  plays = λ scenario shelf before after trace trace' outcomes peaks counts counts' played direct.
      plays keeps scenario shelf before after trace trace' outcomes peaks counts counts' played direct;
  breaks = λ scenario shelf before after trace trace' counts counts' broken direct.
      breaks scenario shelf before after trace trace' counts counts' broken direct;
}
