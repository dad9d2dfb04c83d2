-- Both hosts of a run hold their windows in numbers that never wrap, over its capture.
use Rattle.std.proofs.Common.{◌≡◌, ℕ, ◌≤◌, true, false, List, [], ◌∷◌, take, drop, map, Option, Some, None, sym, subst, arith}
use Rattle.std.specs.Prelude.{min, option_to_list}
use Rattle.std.specs.List.{AllByRecursion, flat_map}
use Rattle.std.proofs.lemmas.List.{take-append-drop}
use Rattle.pair_laws.specs.bt_base.specs.declared.settings.Settings.{Settings}
use Rattle.pair_laws.specs.bt_base.specs.Objects.{Contents}
use Rattle.pair_laws.specs.push_script.specs.declared.scenario.Scenario.{Scenario}
use Rattle.pair_laws.specs.push_terms.specs.declared.word.Side.{Side}
use Rattle.pair_laws.specs.push_terms.specs.declared.word.Side.TheVariants as sides
use Rattle.pair_laws.specs.capture.specs.Entries.{Entry}
use Rattle.pair_laws.specs.capture.specs.Links.{Link, linking, links, link_up}
use Rattle.pair_laws.specs.capture.specs.Moves.{moves}
use Rattle.pair_laws.specs.capture.specs.Pdus.{Pdu, pdus}
use Rattle.pair_laws.specs.ertm_model.proofs.Lists.{all-of}
use Rattle.pair_laws.specs.link_talk.specs.declared.channel.Channel.{Channel}
use Rattle.pair_laws.specs.link_talk.specs.Captures.{talk_on, talk_now}
use Rattle.pair_laws.specs.link_talk.specs.Sayings.{Saying, said_by, talk}
use Rattle.pair_laws.specs.channel_model.specs.Policies.{Policy, policy, wished}
use Rattle.own_channel_laws.specs.Frames.{AreUttered}
use Rattle.own_channel_laws.specs.Runs.{Occurrence, Run, run_of}
use Rattle.own_channel_laws.specs.Sdus.{StatesFrame}
use Rattle.pair_laws.specs.host_model.specs.Clients.{client_profile}
use Rattle.pair_laws.specs.host_model.specs.Servers.{server_profile}
use Rattle.pair_laws.specs.host_laws.specs.Lives.{on_links}
use Rattle.pair_laws.specs.host_laws.specs.OverLinks.{talk_marks, parts}
use Rattle.pair_laws.specs.host_laws.specs.Seen.{spoken_of}
use Rattle.pair_laws.specs.host_laws.proofs.Asking.{hosts_ask, clients_ask}
use Rattle.pair_laws.specs.host_laws.proofs.Keeping.{servers_lend}
use Rattle.pair_laws.specs.scenario_laws.specs.Captures.{Ran}
use Rattle.pair_laws.specs.scenario_laws.specs.Parties.{party_of}
use Rattle.pair_laws.specs.scenario_laws.proofs.Fronts.{fronts_ran}
use Rattle.pair_laws.specs.scenario_laws.proofs.Wishes.{states_frame, wishes_window}
use Rattle.pair_laws.specs.Heard.{HearsFirst, HearFirst}
use Rattle.pair_laws.proofs.Forgone.{run-moves}
use Rattle.pair_laws.proofs.Moved.{links_move, each_link}
use Rattle.pair_laws.proofs.Pairing.{hosts-hear_first}
use Rattle.pair_laws.proofs.Windows.{both_ask}
use Rattle.pair_laws.specs.Within.{BothSendWithin}
use Rattle.pair_laws.proofs.Taking.{clients_within, servers_within, pairs-are_carried}
use Rattle.pair_laws.proofs.Whole.{both_can, all_places}
use Rattle.channel_laws.specs.Pairs.{pair_of}
use Rattle.window_laws.specs.Runs.{HoldsAbsolutelyOnLinks, RunsHoldAbsolutely}
use Rattle.window_laws.specs.Windows.{HoldsAbsolutely, HoldsOnEach}
use Rattle.window_laws.proofs.Fronts.{front-holds, moved-holds}
use Rattle.window_laws.proofs.Pairs.{both-hold_absolutely}

-- any channel
abbrev signalling : Channel
signalling = record { psm = 0; own = 0; peer = 0 }

-- each talk of a side
abbrev Holds : Settings → Side → List Saying → Type 0
Holds settings side said = HoldsOnEach (HoldsAbsolutely settings.window) (party_of settings side) said

-- by what moved of what happened
abbrev Seen : Settings → Side → Policy → List Occurrence → Type 0
Seen settings side wanted list = Holds settings side (spoken_of (run_of wanted list).said)

-- on each link: it hears nothing behind what it gave up
all_seen : (settings : Settings) (side : Side) (wanted : Policy) (lists : List (List Occurrence)) → StatesFrame wanted (party_of settings side) → AllByRecursion (AreUttered wanted) lists → AllByRecursion (HearsFirst wanted) lists
    → AllByRecursion (λ (list : List Occurrence). Holds settings side (run_of wanted list).said) lists → AllByRecursion (Seen settings side wanted) lists
all_seen settings side wanted [] states uttered hears holds = tt
all_seen settings side wanted (list ∷ lists) states uttered hears holds =
    let party = party_of settings side in (
      moved-holds (HoldsAbsolutely settings.window) (record { gone = omega arith; within = omega arith }) party (run_of wanted list).said (spoken_of (run_of wanted list).said) (run-moves wanted party signalling states list uttered.0 hears.0) holds.0,
      all_seen settings side wanted lists states uttered.1 hears.1 holds.1,
    )

within_both : BothSendWithin both_ask
within_both = record { clients = clients_within; servers = servers_within }

states_low : (settings : Settings) (psm : ℕ) → (wished settings psm).window ≤ settings.window
states_low settings psm = let same = wishes_window settings psm in omega (arith, same)

module _ (scenario : Scenario) (content : Option Contents) (capture : List Entry) (ran : Ran scenario content capture) where
  abbrev settings : Settings
  settings = scenario.settings

  abbrev near : Policy
  near = policy settings false

  abbrev far : Policy
  far = policy settings true

  abbrev hearing : HearFirst both_ask scenario content capture ran
  hearing = hosts-hear_first both_ask scenario content capture ran (servers_lend settings content)

  abbrev lists_a : List (List Occurrence)
  lists_a = on_links (client_profile settings) (clients_ask settings) (flat_map talk_marks hearing.pairs.a.came.talk) ran.world.a.upper hearing.pairs.a.fed.so.lives

  abbrev lists_b : List (List Occurrence)
  lists_b = on_links (server_profile settings content) (hosts_ask.servers settings content) (flat_map talk_marks hearing.pairs.b.came.talk) ran.world.b.upper hearing.pairs.b.fed.so.lives

  hold : (side : Side) (number : ℕ) → Holds settings side (pair_of near far (hearing.pairs.pairs number).turns).near.run.said × Holds settings side (pair_of near far (hearing.pairs.pairs number).turns).far.run.said
  hold side number =
      let pair = hearing.pairs.pairs number in
      let one : min settings.window settings.window ≡ settings.window = omega arith in
      subst (λ window. HoldsOnEach (HoldsAbsolutely window) (party_of settings side) (pair_of near far pair.turns).near.run.said × HoldsOnEach (HoldsAbsolutely window) (party_of settings side) (pair_of near far pair.turns).far.run.said) one
      (both-hold_absolutely near far pair.turns (party_of settings side) settings.window settings.window (states_frame settings false side) (states_frame settings true side) pair.fair pair.read
      (pairs-are_carried both_ask scenario content capture ran hearing.pairs within_both number) (both_can settings) (states_low settings) (states_low settings))

  links_hold : (side : Side) → HoldsAbsolutelyOnLinks settings side capture
  links_hold sides.A =
      let host = hearing.pairs.a in
      let own : AllByRecursion (λ (list : List Occurrence). Holds settings sides.A (run_of near list).said) lists_a =
      all_places (λ (list : List Occurrence). Holds settings sides.A (run_of near list).said) lists_a (λ number. subst (λ (r : Run). Holds settings sides.A r.said) (hearing.pairs.pairs number).near_is (hold sides.A number).0) in
      each_link (λ (moved : List Pdu). Holds settings sides.A (flat_map said_by moved)) (links sides.A capture)
      (links_move (Holds settings sides.A) (front-holds (HoldsAbsolutely settings.window) (party_of settings sides.A)) near lists_a (parts host.came.talk) (map pdus (links sides.A capture)) host.fed.so.talks_are host.came.fall
      (all_seen settings sides.A near lists_a (states_frame settings false sides.A) host.uttered hearing.a own))
  links_hold sides.B =
      let host = hearing.pairs.b in
      let own : AllByRecursion (λ (list : List Occurrence). Holds settings sides.B (run_of far list).said) lists_b =
      all_places (λ (list : List Occurrence). Holds settings sides.B (run_of far list).said) lists_b (λ number. subst (λ (r : Run). Holds settings sides.B r.said) (hearing.pairs.pairs number).far_is (hold sides.B number).1) in
      each_link (λ (moved : List Pdu). Holds settings sides.B (flat_map said_by moved)) (links sides.B capture)
      (links_move (Holds settings sides.B) (front-holds (HoldsAbsolutely settings.window) (party_of settings sides.B)) far lists_b (parts host.came.talk) (map pdus (links sides.B capture)) host.fed.so.talks_are host.came.fall
      (all_seen settings sides.B far lists_b (states_frame settings true sides.B) host.uttered hearing.b own))

-- the link that is up is one of them
now_holds : (settings : Settings) (side : Side) (capture : List Entry) → HoldsAbsolutelyOnLinks settings side capture → Holds settings side (talk_now side capture)
now_holds settings side capture holds = by (link_up side capture) (all-of (λ (link : Link). Holds settings side (talk link)) (linking (moves side capture)).past (option_to_list (link_up side capture)) holds)
  where
    by : (up : Option Link) → AllByRecursion (λ (link : Link). Holds settings side (talk link)) (option_to_list up) → Holds settings side (talk_on up)
    by None all = λ channel has mode. cc
    by (Some link) all = all.0

-- each front of a capture is that of a run
pub runs-hold_absolutely : RunsHoldAbsolutely
runs-hold_absolutely = record {
  throughout = λ scenario content capture side ran n.
      let front = take n capture in
      now_holds scenario.settings side front (links_hold scenario content front (fronts_ran scenario content capture front ran (drop n capture, sym (take-append-drop n capture))) side);
  on_links = λ scenario content capture side ran. links_hold scenario content capture ran side;
}
