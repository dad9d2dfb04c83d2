-- Between which numbers the reported windows of a played scenario lie.
use Rattle.std.proofs.Common.{◌≡◌, ℕ, ◌≤◌, true, false, List, [], ◌∷◌, ◌++◌, Option, Some, None, refl, sym, ap, subst, ◌∙◌, arith, append-nil}
use Rattle.bt_base.specs.declared.settings.Settings.{Settings}
use Rattle.bt_base.specs.Objects.{Object, Contents}
use Rattle.push_script.specs.declared.scenario.Scenario.{Scenario}
use Rattle.push_terms.specs.declared.peaks.Peaks.{Peaks}
use Rattle.push_terms.specs.declared.word.Side.{Side}
use Rattle.push_terms.specs.declared.word.Side.TheVariants as sides
use Rattle.push_terms.specs.declared.word.Word.{Word}
use Rattle.capture.specs.Links.{Link, link_up}
use Rattle.capture.specs.Pdus.{pdus}
use Rattle.noting_laws.specs.link_talk.specs.Accounts.{window_used}
use Rattle.noting_laws.specs.link_talk.specs.Captures.{talk_on}
use Rattle.noting_laws.specs.link_talk.specs.Channels.{Entry as Known, is_alive, reading}
use Rattle.noting_laws.specs.link_talk.specs.declared.channel.Channel.{Channel}
use Rattle.noting_laws.specs.link_talk.specs.declared.life.Life.{Life}
use Rattle.noting_laws.specs.link_talk.specs.declared.party.Party.{Party}
use Rattle.noting_laws.specs.link_talk.specs.Sayings.{Saying}
use Rattle.bt_host.specs.channel_model.specs.Calls.{setup_on, setup_window, window_used as most_used}
use Rattle.bt_host.specs.channel_model.specs.Changing.{held_at, setup_of}
use Rattle.bt_host.specs.channel_model.specs.Policies.{Policy}
use Rattle.bt_host.specs.channel_model.specs.Value.{Setup, Stage, Requested, Connected, Leaving, Closing, Crossed, Held, Channels}
use Rattle.bt_host.specs.channel_model.proofs.Lookups.{own_of, found-has}
use Rattle.noting_laws.specs.channel_laws.specs.Frames.{AreUttered}
use Rattle.noting_laws.specs.channel_laws.specs.Runs.{Occurrence, run_of}
use Rattle.noting_laws.specs.channel_laws.specs.Sdus.{StatesFrame}
use Rattle.noting_laws.specs.channel_laws.specs.Views.{peer_of, life_of, IsReadBy, IsRead, read_at}
use Rattle.noting_laws.specs.channel_laws.proofs.Frames.{frames-are_held}
use Rattle.noting_laws.specs.channel_laws.proofs.Running.{channels-are_read}
use Rattle.noting_laws.specs.world_model.specs.Machines.{Upper}
use Rattle.noting_laws.specs.world_model.specs.Worlds.{Happening, Turns, IsAtRest, all_entries}
use Rattle.radio_world.specs.Scenes.{world_at, Plays}
use Rattle.radio_world.specs.Standing.{starting, first_moment}
use Rattle.radio_world.proofs.Standing.{runs_of}
use Rattle.bt_host.specs.host_model.specs.Circumstances.{Circumstance}
use Rattle.bt_host.specs.host_model.specs.Clients.{ClientProfile, client_profile}
use Rattle.bt_host.specs.host_model.specs.Hosts.{Host, hear, next}
use Rattle.bt_host.specs.host_model.specs.Profiles.{Profile}
use Rattle.bt_host.specs.host_model.specs.Servers.{ServerProfile, server_profile}
use Rattle.bt_host.specs.host_model.specs.Settings.{SetHost, set_to, said_with, with_settings, client_machine, server_machine}
use Rattle.noting_laws.specs.host_laws.specs.Acts.{Hears, Says}
use Rattle.noting_laws.specs.host_laws.specs.Calls.{Asks}
use Rattle.noting_laws.specs.host_laws.proofs.Asking.{hosts_ask}
use Rattle.noting_laws.specs.host_laws.proofs.Links.{act_told}
use Rattle.bt_host.specs.Noting.{Noted, noting}
use Rattle.bt_host.specs.NotedHosts.{credits_of_shelved, credits_of_server, noted_client_machine, noted_server_machine}
use Rattle.bt_host.specs.Serving.{profile_of}
use Rattle.bt_host.specs.Shelving.{Shelved, shelf_profile}
use Rattle.noting_laws.specs.scenario_laws.specs.Captures.{client_of, server_of}
use Rattle.noting_laws.specs.scenario_laws.specs.Parties.{party_of}
use Rattle.noting_laws.specs.scenario_laws.specs.Plain.{IsPlainAt}
use Rattle.noting_laws.specs.scenario_laws.proofs.PlainRuns.{stepping_asks, plain_runs as both_plain}
use Rattle.noting_laws.specs.scenario_laws.proofs.SetHosts.{set_hosts_are_hosts}
use Rattle.noting_laws.specs.scenario_laws.proofs.Telling.{side_linked}
use Rattle.noting_laws.specs.scenario_laws.proofs.Wishes.{states_frame, wishes_window}
use Rattle.noting_laws.specs.Noting.{plain_set}
use Rattle.scenario_play.specs.Shelving.{plain_client}
use Rattle.scenario_play.specs.PeakBounds.{HoldsAtMost, AreBounded, PeaksAreBounded}
use Rattle.scenario_play.specs.Peaks.{asked_client, asked_server, NotedMoment, AreReached}
use Rattle.scenario_play.proofs.Alikeness.{IsLike, like_runs, like_rests, told_a, told_b}
use Rattle.scenario_play.proofs.Along.{Stays, stays_along, plays_apart}
use Rattle.scenario_play.proofs.Newness.{client_twins, server_twins}
use Rattle.scenario_play.proofs.NotedWindows.{Fine, FineSaid, hear_fine, next_fine}
use Rattle.scenario_play.proofs.Plainness.{PlainWorld, plain_world, plain_runs, plain_rest}
use Rattle.scenario_play.proofs.Stepping.{StepsLess, client_steps, server_steps}
use Rattle.scenario_play.proofs.Unacknowledged.{held_under}

abbrev second_of : {X Y : Type 0} → Y → Option (X × Y) → Y
second_of y None = y
second_of y (Some pair) = pair.1

second_is : {X Y : Type 0} (x x' : X) (y y' : Y) → ◌≡◌ {A = Option (X × Y)} (Some (x, y)) (Some (x', y')) → y ≡ y'
second_is x x' y y' same = ap (second_of y) same

-- ---- a host that notes, along a run

module _ {S : Type 0} (credits_in : S → ℕ) (profile : Settings → Profile S) (asks : (settings : Settings) → Asks (profile settings)) (less : (settings : Settings) → StepsLess (profile settings))
    (wished : (settings : Settings) (psm : ℕ) → ((profile settings).policy.wish psm).window ≡ settings.window) where
  abbrev M : Upper (SetHost (Noted S)) Circumstance
  M = with_settings (λ settings. noting credits_in (profile settings))

  abbrev N : Settings → Profile (Noted S)
  N settings = noting credits_in (profile settings)

  abbrev IsFine : Settings → ℕ → Host (Noted S) → Type 0
  IsFine settings least host = Fine credits_in (profile settings) (asks settings) (less settings) settings.window (wished settings) least host

  -- it has these settings, its profile was told all, and what it noted is no less than that and than what it holds, and no more than it states
  pub record Notes (settings : Settings) (least : ℕ) (s : SetHost (Noted S)) : Type 0 where
    pub set : s.settings ≡ settings
    pub told : s.host.channels.events ≡ []
    pub fine : IsFine s.settings least s.host

  said_notes : (settings : Settings) (least : ℕ) (s : SetHost (Noted S)) (said : Option (List ℕ × Host (Noted S))) → next (N s.settings) s.host ≡ said → Notes settings least s
      → FineSaid credits_in (profile s.settings) (asks s.settings) (less s.settings) s.settings.window (wished s.settings) least said
      → (pdu : List ℕ) (after : SetHost (Noted S)) → said_with s.settings said ≡ Some (pdu, after) → Notes settings least after
  said_notes settings least s None at notes fine pdu after is = cc
  said_notes settings least s (Some one) at notes fine pdu after is =
      let same : set_to s.settings one.1 ≡ after = second_is one.0 pdu (set_to s.settings one.1) after is in
      subst (λ (t : SetHost (Noted S)). Notes settings least t) same (record {
        set = notes.set;
        told = act_told (N s.settings) (Says one.0) s.host one.1 at notes.told;
        fine = fine;
      })

  pub notes_stay : (settings : Settings) (least : ℕ) → Stays M (λ (s : SetHost (Noted S)). Notes settings least s)
  notes_stay settings least = record {
    hears = λ answers news s notes. record {
      set = notes.set;
      told = act_told (N s.settings) (Hears answers news) s.host (hear (N s.settings) answers news s.host) refl notes.told;
      fine = hear_fine credits_in (profile s.settings) (asks s.settings) (less s.settings) s.settings.window (wished s.settings) least answers news s.host notes.told notes.fine.goes;
    };
    says = λ s pdu after is notes. said_notes settings least s (next (N s.settings) s.host) refl notes
        (next_fine credits_in (profile s.settings) (asks s.settings) (less s.settings) s.settings.window (wished s.settings) least s.host notes.fine.goes) pdu after is;
  }

  -- from there on it notes no less than what it noted by then
  pub notes_from : (settings : Settings) (least : ℕ) (s : SetHost (Noted S)) → Notes settings least s → Notes settings s.host.profile.window s
  notes_from settings least s notes =
      record { set = notes.set; told = notes.told; fine = record { goes = record { come = notes.fine.goes.come; more = omega arith; high = notes.fine.goes.high }; low = notes.fine.low } }

  pub noted_low : (settings : Settings) (mid last : SetHost (Noted S)) → Notes settings 0 mid → Notes settings mid.host.profile.window last → (most : ℕ) → most ≡ last.host.profile.window → most_used mid.host.channels ≤ most
  noted_low settings mid last before behind most is = let low = before.fine.low in let more = behind.fine.goes.more in omega (arith, low, more, is)

  pub noted_high : (settings : Settings) (last : SetHost (Noted S)) → Notes settings 0 last → (most : ℕ) → most ≡ last.host.profile.window → most ≤ settings.window
  noted_high settings last notes most is = let high = notes.fine.goes.high in let same = ap (λ (s : Settings). s.window) notes.set in omega (arith, high, same, is)

-- ---- a host at rest, as the capture has it

alive_setup : (stage : Stage) (peer : ℕ) (life : Life) → peer_of stage ≡ Some peer → life ≡ life_of stage → is_alive life ≡ true → (setup : Setup) × (setup_of stage ≡ Some setup)
alive_setup (Requested request) peer life at is alive = cc
alive_setup (Connected at setup) peer life here is alive = (setup, refl)
alive_setup (Leaving at setup request) peer life here is alive = (setup, refl)
alive_setup (Closing at request checked) peer life here is alive = let never : false ≡ true = ap is_alive (sym is) ∙ alive in cc
alive_setup (Crossed at request) peer life here is alive = let never : false ≡ true = ap is_alive (sym is) ∙ alive in cc

-- what is read of a channel that its host has not closed is what it holds of it
record Open (entry : Known) (v : Channels) : Type 0 where
  held : Held
  setup : Setup
  at : held_at entry.channel.own v ≡ Some held
  has : setup_of held.stage ≡ Some setup

open_by : (policy : Policy) (own : ℕ) (entry : Known) (v : Channels) (found : Option Held) → held_at own v ≡ found → IsRead policy found (Some entry) → is_alive entry.life ≡ true → Open entry v
open_by policy own entry v None at over alive = let never : false ≡ true = ap is_alive (sym over) ∙ alive in absurd cc
open_by policy own entry v (Some held) at read alive = by (peer_of held.stage) refl read
  where
    by : (peer : Option ℕ) → peer_of held.stage ≡ peer → IsReadBy policy held peer (Some entry) → Open entry v
    by None is so = absurd so
    by (Some peer) is so =
        let there = so.0 in
        let (setup, has) = alive_setup held.stage peer entry.life is there.life_is alive in
        let name : entry.channel.own ≡ own = ap (λ (c : Channel). c.own) there.channel_is ∙ found-has own_of own v.held held at in
        record { held = held; setup = setup; at = ap (λ (n : ℕ). held_at n v) name ∙ at; has = has }

run_most : (policy : Policy) (party : Party) (list : List Occurrence) → StatesFrame policy party → AreUttered policy list → (own : ℕ) (entry : Known)
    → read_at own (reading (run_of policy list).said).entries ≡ Some entry → is_alive entry.life ≡ true → window_used party (run_of policy list).said entry.channel ≤ most_used (run_of policy list).value
run_most policy party list states uttered own entry found alive =
    let v = (run_of policy list).value in
    let open' = open_by policy own entry v (held_at own v) refl (subst (IsRead policy (held_at own v)) found (channels-are_read policy list own)) alive in
    let holds = frames-are_held policy party list entry.channel open'.setup states uttered (ap setup_on open'.at ∙ open'.has) in
    let under = held_under v entry.channel.own open'.held open'.at in
    let same = ap setup_window open'.has in
    let is = holds.window_is in
    omega (arith, under, same, is)

side_most : {P : Type 0} (A : Profile P) (asks : Asks A) (settings : Settings) (side : Side) (now : Host P) (link : Option Link) (most : ℕ) → StatesFrame A.policy (party_of settings side) → most_used now.channels ≤ most
    → IsPlainAt A asks (party_of settings side) link now → (own : ℕ) (entry : Known) → read_at own (reading (talk_on link)).entries ≡ Some entry → is_alive entry.life ≡ true → window_used (party_of settings side) (talk_on link) entry.channel ≤ most
side_most A asks settings side now None most states low plain own entry = λ found. cc
side_most A asks settings side now (Some link) most states low plain own entry =
    let so = side_linked A asks (party_of settings side) (pdus link) now states plain in
    let same : most_used now.channels ≡ most_used (run_of A.policy so.lives.now).value = ap (λ (v : Channels). most_used v) so.lives.channels_run in
    subst (λ (said : List Saying). read_at own (reading said).entries ≡ Some entry → is_alive entry.life ≡ true → window_used (party_of settings side) said entry.channel ≤ most) so.said_is
    (λ found alive. let under = run_most A.policy (party_of settings side) so.lives.now states so.uttered own entry found alive in omega (arith, under, same, low))

-- ---- both hosts

-- what a server asks of its channels, however it is given what its inbox answers
server_asks : (settings : Settings) → Asks (profile_of settings)
server_asks settings = let asks = hosts_ask.servers settings None in record { call = asks.call; steps_are = asks.steps_are }

server_less : (settings : Settings) → StepsLess (profile_of settings)
server_less settings v serving = server_steps settings None v serving

-- nor what a client asks, whatever its shelf tells that it holds
shelf_asks : (settings : Settings) → Asks (shelf_profile settings)
shelf_asks settings = let asks = hosts_ask.clients settings in record { call = λ v shelved. asks.call v shelved.pushing; steps_are = λ v shelved. asks.steps_are v shelved.pushing }

shelf_less : (settings : Settings) → StepsLess (shelf_profile settings)
shelf_less settings v shelved = client_steps settings v shelved.pushing

abbrev NotesA : Settings → ℕ → SetHost (Noted Shelved) → Type 0
NotesA settings least s = Notes credits_of_shelved shelf_profile shelf_asks shelf_less (λ of psm. wishes_window of psm) settings least s

abbrev NotesB : Settings → ℕ → SetHost (Noted ServerProfile) → Type 0
NotesB settings least s = Notes credits_of_server profile_of server_asks server_less (λ of psm. wishes_window of psm) settings least s

both_along : (settings : Settings) (least_a least_b : ℕ) (happenings : List Happening) (old new : NotedMoment) → NotesA settings least_a old.a.upper → NotesB settings least_b old.b.upper → Plays noted_client_machine noted_server_machine happenings old new
    → NotesA settings least_a new.a.upper × NotesB settings least_b new.b.upper
both_along settings least_a least_b happenings old new first_a first_b plays =
    stays_along noted_client_machine noted_server_machine (λ (s : SetHost (Noted Shelved)). NotesA settings least_a s) (λ (s : SetHost (Noted ServerProfile)). NotesB settings least_b s)
    (notes_stay credits_of_shelved shelf_profile shelf_asks shelf_less (λ of psm. wishes_window of psm) settings least_a)
    (notes_stay credits_of_server profile_of server_asks server_less (λ of psm. wishes_window of psm) settings least_b)
    happenings (world_at old) (world_at new) first_a first_b (runs_of noted_client_machine noted_server_machine happenings old new plays)

module _ (scenario : Scenario) (content : Option Contents) (happenings : List Happening) (peaks : Peaks) (reached : AreReached scenario content happenings peaks) where
  abbrev begun : NotedMoment
  begun = first_moment (starting (asked_client scenario reached.shelf reached.for_a) noted_client_machine) (starting (asked_server scenario content reached.for_b) noted_server_machine) scenario.acl_length scenario.acl_count scenario.names

  first_a : NotesA scenario.settings 0 (asked_client scenario reached.shelf reached.for_a)
  first_a = record { set = refl; told = refl; fine = record { goes = record { come = ([], refl); more = omega arith; high = omega arith }; low = omega arith } }

  first_b : NotesB scenario.settings 0 (asked_server scenario content reached.for_b)
  first_b = record { set = refl; told = refl; fine = record { goes = record { come = ([], refl); more = omega arith; high = omega arith }; low = omega arith } }

  -- the run at one of its moments
  record Stop (front rest : List Happening) : Type 0 where
    mid : NotedMoment
    before : Plays noted_client_machine noted_server_machine front begun mid
    behind : Plays noted_client_machine noted_server_machine rest mid reached.last
    low_a : most_used mid.a.upper.host.channels ≤ peaks.window_a
    low_b : most_used mid.b.upper.host.channels ≤ peaks.window_b

  stops : (front rest : List Happening) → happenings ≡ front ++ rest → Stop front rest
  stops front rest is =
      let plays : Plays noted_client_machine noted_server_machine (front ++ rest) begun reached.last = subst (λ (hs : List Happening). Plays noted_client_machine noted_server_machine hs begun reached.last) is reached.plays in
      let (mid, before, behind) = plays_apart noted_client_machine noted_server_machine front rest begun reached.last plays in
      let (notes_a, notes_b) = both_along scenario.settings 0 0 front begun mid first_a first_b before in
      let from_a = notes_from credits_of_shelved shelf_profile shelf_asks shelf_less (λ of psm. wishes_window of psm) scenario.settings 0 mid.a.upper notes_a in
      let from_b = notes_from credits_of_server profile_of server_asks server_less (λ of psm. wishes_window of psm) scenario.settings 0 mid.b.upper notes_b in
      let (last_a, last_b) = both_along scenario.settings mid.a.upper.host.profile.window mid.b.upper.host.profile.window rest mid reached.last from_a from_b behind in
      record {
        mid = mid;
        before = before;
        behind = behind;
        low_a = noted_low credits_of_shelved shelf_profile shelf_asks shelf_less (λ of psm. wishes_window of psm) scenario.settings mid.a.upper reached.last.a.upper notes_a last_a peaks.window_a reached.noted.windows.0;
        low_b = noted_low credits_of_server profile_of server_asks server_less (λ of psm. wishes_window of psm) scenario.settings mid.b.upper reached.last.b.upper notes_b last_b peaks.window_b reached.noted.windows.1;
      }

  -- ---- and as both hosts without their notes

  abbrev s : SetHost ClientProfile
  s = plain_client (asked_client scenario reached.shelf reached.for_a)

  abbrev t : SetHost ServerProfile
  t = plain_set (asked_server scenario content reached.for_b)

  abbrev Like : List Happening → PlainWorld → Type 0
  Like front at = IsLike scenario content (set_to scenario.settings) (set_to scenario.settings) s t front at

  like : (front : List Happening) (mid : NotedMoment) → Plays noted_client_machine noted_server_machine front begun mid → Like front (plain_world (world_at mid))
  like front mid before =
      like_runs client_machine server_machine scenario content (set_to scenario.settings) (set_to scenario.settings) (set_hosts_are_hosts scenario content) s t (client_twins (λ (held : Option (List Object)). held) reached.shelf scenario.settings reached.for_a) (server_twins (λ (c : Option Contents). c) content scenario.settings reached.for_b)
      front (plain_world (world_at mid)) (plain_runs front (world_at begun) (world_at mid) (runs_of noted_client_machine noted_server_machine front begun mid before))

  below_a : (front rest : List Happening) → happenings ≡ front ++ rest → (stop : Stop front rest) → (let one = like front stop.mid stop.before in IsAtRest (client_of scenario) (server_of scenario content) one.world
      → HoldsAtMost scenario.settings sides.A peaks.window_a (all_entries front))
  below_a front rest is stop rests =
      let one = like front stop.mid stop.before in
      let same = told_a client_machine server_machine scenario content (set_to scenario.settings) (set_to scenario.settings) (set_hosts_are_hosts scenario content) s t (client_twins (λ (held : Option (List Object)). held) reached.shelf scenario.settings reached.for_a) (server_twins (λ (c : Option Contents). c) content scenario.settings reached.for_b)
      front (plain_world (world_at stop.mid)) one (λ (x : SetHost ClientProfile). x.host.channels) refl in
      side_most (client_profile scenario.settings) (stepping_asks.clients scenario.settings) scenario.settings sides.A one.world.a.upper (link_up sides.A (all_entries front)) peaks.window_a (states_frame scenario.settings false sides.A)
      (subst (λ (v : Channels). most_used v ≤ peaks.window_a) (sym same) stop.low_a) ((both_plain scenario content happenings).a front one.world (rest, is) one.happened rests)

  below_b : (front rest : List Happening) → happenings ≡ front ++ rest → (stop : Stop front rest) → (let one = like front stop.mid stop.before in IsAtRest (client_of scenario) (server_of scenario content) one.world
      → HoldsAtMost scenario.settings sides.B peaks.window_b (all_entries front))
  below_b front rest is stop rests =
      let one = like front stop.mid stop.before in
      let same = told_b client_machine server_machine scenario content (set_to scenario.settings) (set_to scenario.settings) (set_hosts_are_hosts scenario content) s t (client_twins (λ (held : Option (List Object)). held) reached.shelf scenario.settings reached.for_a) (server_twins (λ (c : Option Contents). c) content scenario.settings reached.for_b)
      front (plain_world (world_at stop.mid)) one (λ (x : SetHost ServerProfile). x.host.channels) refl in
      side_most (server_profile scenario.settings content) (stepping_asks.servers scenario.settings content) scenario.settings sides.B one.world.b.upper (link_up sides.B (all_entries front)) peaks.window_b (states_frame scenario.settings true sides.B)
      (subst (λ (v : Channels). most_used v ≤ peaks.window_b) (sym same) stop.low_b) ((both_plain scenario content happenings).b front one.world (rest, is) one.happened rests)

  -- ---- at its end

  ends : NotesA scenario.settings 0 reached.last.a.upper × NotesB scenario.settings 0 reached.last.b.upper
  ends = both_along scenario.settings 0 0 happenings begun reached.last first_a first_b reached.plays

  whole : happenings ≡ happenings ++ []
  whole = sym (append-nil happenings)

  end_stop : Stop happenings []
  end_stop =
      let low_a = ends.0.fine.low in
      let low_b = ends.1.fine.low in
      let (is_a, is_b) = reached.noted.windows in
      record { mid = reached.last; before = reached.plays; behind = refl; low_a = omega (arith, low_a, is_a); low_b = omega (arith, low_b, is_b) }

  -- where the hosts that note are at rest both hosts are
  so_rests : (front rest : List Happening) (stop : Stop front rest) → IsAtRest noted_client_machine noted_server_machine (world_at stop.mid) → (let one = like front stop.mid stop.before in IsAtRest (client_of scenario) (server_of scenario content) one.world)
  so_rests front rest stop rests =
      like_rests client_machine server_machine scenario content (set_to scenario.settings) (set_to scenario.settings) (set_hosts_are_hosts scenario content) s t (client_twins (λ (held : Option (List Object)). held) reached.shelf scenario.settings reached.for_a) (server_twins (λ (c : Option Contents). c) content scenario.settings reached.for_b)
      front (plain_world (world_at stop.mid)) (like front stop.mid stop.before) (plain_rest (world_at stop.mid) rests)

  end_rests : (let one = like happenings end_stop.mid end_stop.before in IsAtRest (client_of scenario) (server_of scenario content) one.world)
  unfolding end_stop
  end_rests = so_rests happenings [] end_stop reached.rests

  -- ---- as a word acts

  at_word : (front later : List Happening) (ordinal : ℕ) (word : Word) → happenings ≡ front ++ Turns ordinal word ∷ later → HoldsAtMost scenario.settings sides.A peaks.window_a (all_entries front) × HoldsAtMost scenario.settings sides.B peaks.window_b (all_entries front)
  at_word front later ordinal word is =
      let rest = Turns ordinal word ∷ later in
      let stop = stops front rest is in
      let (next, does, runs) = runs_of noted_client_machine noted_server_machine rest stop.mid reached.last stop.behind in
      let rests = so_rests front rest stop does.0 in
      (below_a front rest is stop rests, below_b front rest is stop rests)

  pub are_bounded : AreBounded scenario content happenings peaks
  are_bounded = record {
    stated_a = noted_high credits_of_shelved shelf_profile shelf_asks shelf_less (λ of psm. wishes_window of psm) scenario.settings reached.last.a.upper ends.0 peaks.window_a reached.noted.windows.0;
    stated_b = noted_high credits_of_server profile_of server_asks server_less (λ of psm. wishes_window of psm) scenario.settings reached.last.b.upper ends.1 peaks.window_b reached.noted.windows.1;
    rests = λ front there.
        let stop = stops front there.0 there.1 in
        let one = like front stop.mid stop.before in
        record { world = one.world; happened = one.happened; below_a = below_a front there.0 there.1 stop; below_b = below_b front there.0 there.1 stop };
    words = at_word;
    ends_a = below_a happenings [] whole end_stop end_rests;
    ends_b = below_b happenings [] whole end_stop end_rests;
  }

pub peaks_are_bounded : PeaksAreBounded
peaks_are_bounded scenario content happenings peaks reached = are_bounded scenario content happenings peaks reached
