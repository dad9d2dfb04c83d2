-- The windows of both hosts, over the capture alone, wherever all is at rest.
use Rattle.std.proofs.Common.{◌≡◌, ℕ, ◌≤◌, true, false, List, [], ◌∷◌, ◌++◌, Option, Some, None, refl, sym, ap, subst, ◌∙◌, append-nil}
use Rattle.radio_world.specs.bt_base.specs.declared.settings.Settings.{Settings}
use Rattle.radio_world.specs.push_terms.specs.declared.outcome.Outcome.{Outcome}
use Rattle.radio_world.specs.push_terms.specs.declared.word.Side.{Side}
use Rattle.radio_world.specs.push_terms.specs.declared.word.Side.TheVariants as sides
use Rattle.radio_world.specs.capture.specs.Entries.{Entry, Ended}
use Rattle.radio_world.specs.capture.specs.Links.{Link, link_up}
use Rattle.radio_world.specs.capture.specs.Pdus.{pdus}
use Rattle.host_laws.specs.link_talk.specs.Accounts.{window_used}
use Rattle.host_laws.specs.link_talk.specs.Captures.{talk_on}
use Rattle.host_laws.specs.link_talk.specs.Channels.{Entry as Known, is_alive, reading}
use Rattle.host_laws.specs.link_talk.specs.declared.channel.Channel.{Channel}
use Rattle.host_laws.specs.link_talk.specs.declared.life.Life.{Life}
use Rattle.host_laws.specs.link_talk.specs.declared.party.Party.{Party}
use Rattle.host_laws.specs.link_talk.specs.Sayings.{Saying}
use Rattle.host_laws.specs.channel_model.specs.Policies.{Policy}
use Rattle.host_laws.specs.channel_model.specs.Value.{Setup, Stage, Requested, Connected, Leaving, Closing, Crossed, Held, Channels}
use Rattle.host_laws.specs.channel_model.specs.Changing.{held_at, setup_of}
use Rattle.host_laws.specs.channel_model.specs.Calls.{setup_on}
use Rattle.host_laws.specs.channel_model.proofs.Lookups.{own_of, found-has}
use Rattle.host_laws.specs.channel_laws.specs.Frames.{AreUttered}
use Rattle.host_laws.specs.channel_laws.specs.Runs.{Occurrence, run_of}
use Rattle.host_laws.specs.channel_laws.specs.Sdus.{StatesFrame}
use Rattle.host_laws.specs.channel_laws.specs.Views.{peer_of, life_of, IsReadBy, IsRead, read_at}
use Rattle.host_laws.specs.channel_laws.proofs.Frames.{frames-are_held}
use Rattle.host_laws.specs.channel_laws.proofs.Running.{channels-are_read}
use Rattle.host_laws.specs.world_model.specs.Worlds.{all_entries}
use Rattle.host_laws.specs.turn_laws.specs.Laws.{IsFront}
use Rattle.host_laws.specs.host_model.specs.Hosts.{Host}
use Rattle.host_laws.specs.host_model.specs.Profiles.{Profile}
use Rattle.host_laws.specs.host_model.specs.Clients.{client_profile}
use Rattle.host_laws.specs.host_model.specs.Servers.{server_profile}
use Rattle.host_laws.specs.Calls.{Asks}
use Rattle.scenario_laws.specs.Accounts.{KeepsWindow, WindowsAreKept}
use Rattle.scenario_laws.specs.Parties.{party_of}
use Rattle.scenario_laws.specs.Plain.{IsPlainAt}
use Rattle.scenario_laws.proofs.Fronts.{with_ends, ended_talk}
use Rattle.scenario_laws.proofs.PlainRuns.{stepping_asks, plain_runs}
use Rattle.scenario_laws.proofs.Wishes.{states_frame, wishes_window}
use Rattle.scenario_laws.proofs.Telling.{side_linked}
use Rattle.scenario_laws.proofs.Windows.{windows_within}

-- ---- a channel that its host has not closed

record Open (own : ℕ) (entry : Known) (v : Channels) : Type 0 where
  setup : Setup
  has : setup_on (held_at entry.channel.own v) ≡ Some setup

alive_setup : (stage : Stage) (peer : ℕ) (life : Life) → peer_of stage ≡ Some peer → life ≡ life_of stage → is_alive life ≡ true → (setup : Setup) × (setup_of stage ≡ Some setup)
alive_setup (Requested request) peer life at is alive = cc
alive_setup (Connected at setup) peer life here is alive = (setup, refl)
alive_setup (Leaving at setup request) peer life here is alive = (setup, refl)
alive_setup (Closing at request checked) peer life here is alive = let never : false ≡ true = ap is_alive (sym is) ∙ alive in cc
alive_setup (Crossed at request) peer life here is alive = let never : false ≡ true = ap is_alive (sym is) ∙ alive in cc

open_by : (policy : Policy) (own : ℕ) (entry : Known) (v : Channels) (held : Option Held) → held_at own v ≡ held → IsRead policy held (Some entry) → is_alive entry.life ≡ true → Open own entry v
open_by policy own entry v None at over alive = let never : false ≡ true = ap is_alive (sym over) ∙ alive in absurd cc
open_by policy own entry v (Some held) at read alive = by (peer_of held.stage) refl read
  where
    by : (peer : Option ℕ) → peer_of held.stage ≡ peer → IsReadBy policy held peer (Some entry) → Open own entry v
    by None is so = absurd so
    by (Some peer) is so =
        let there = so.0 in
        let (setup, has) = alive_setup held.stage peer entry.life is there.life_is alive in
        let name : entry.channel.own ≡ own = ap (λ (c : Channel). c.own) there.channel_is ∙ found-has own_of own v.held held at in
        record { setup = setup; has = ap (λ (n : ℕ). setup_on (held_at n v)) name ∙ (ap setup_on at ∙ has) }

pub run_window : (policy : Policy) (party : Party) (window : ℕ) (list : List Occurrence) → StatesFrame policy party → ((psm : ℕ) → (policy.wish psm).window ≡ window) → AreUttered policy list → (own : ℕ) (entry : Known)
    → read_at own (reading (run_of policy list).said).entries ≡ Some entry → is_alive entry.life ≡ true → window_used party (run_of policy list).said entry.channel ≤ window
run_window policy party window list states wished uttered own entry found alive =
    let v = (run_of policy list).value in
    let open' = open_by policy own entry v (held_at own v) refl (subst (IsRead policy (held_at own v)) found (channels-are_read policy list own)) alive in
    let holds = frames-are_held policy party list entry.channel open'.setup states uttered open'.has in
    subst (λ (n : ℕ). n ≤ window) holds.window_is (windows_within policy window entry.channel.own list open'.setup wished open'.has)

-- ---- of a host

side_window : {P : Type 0} (A : Profile P) (asks : Asks A) (settings : Settings) (side : Side) (now : Host P) (link : Option Link) → StatesFrame A.policy (party_of settings side) → ((psm : ℕ) → (A.policy.wish psm).window ≡ settings.window)
    → IsPlainAt A asks (party_of settings side) link now → (own : ℕ) (entry : Known) → read_at own (reading (talk_on link)).entries ≡ Some entry → is_alive entry.life ≡ true → window_used (party_of settings side) (talk_on link) entry.channel ≤ settings.window
side_window A asks settings side now None states wished plain own entry = λ found. cc
side_window A asks settings side now (Some link) states wished plain own entry =
    let so = side_linked A asks (party_of settings side) (pdus link) now states plain in
    subst (λ (said : List Saying). read_at own (reading said).entries ≡ Some entry → is_alive entry.life ≡ true → window_used (party_of settings side) said entry.channel ≤ settings.window) so.said_is
    (run_window A.policy (party_of settings side) settings.window so.lives.now states wished so.uttered own entry)

ended_window : (settings : Settings) (side : Side) (past : List Entry) (push : ℕ) (outcome : Outcome) → KeepsWindow settings side past → KeepsWindow settings side (past ++ Ended push outcome ∷ [])
ended_window settings side past push outcome kept own entry =
    subst (λ (said : List Saying). read_at own (reading said).entries ≡ Some entry → is_alive entry.life ≡ true → window_used (party_of settings side) said entry.channel ≤ settings.window) (sym (ended_talk side past push outcome)) (kept own entry)

pub windows_kept : WindowsAreKept
windows_kept scenario content capture side ran rests =
    let plain = plain_runs scenario content ran.happenings in
    let past = all_entries ran.happenings in
    let whole : IsFront ran.happenings ran.happenings = ([], sym (append-nil ran.happenings)) in
    let one = side_window (client_profile scenario.settings) (stepping_asks.clients scenario.settings) scenario.settings sides.A ran.world.a.upper (link_up sides.A past) (states_frame scenario.settings false sides.A) (wishes_window scenario.settings)
    (plain.a ran.happenings ran.world whole ran.happened rests) in
    let other = side_window (server_profile scenario.settings content) (stepping_asks.servers scenario.settings content) scenario.settings sides.B ran.world.b.upper (link_up sides.B past) (states_frame scenario.settings true sides.B) (wishes_window scenario.settings)
    (plain.b ran.happenings ran.world whole ran.happened rests) in
    subst (KeepsWindow scenario.settings side) (sym ran.capture_is)
    (with_ends (KeepsWindow scenario.settings side) ran.world.pushes past ran.ends (λ push outcome kept. ended_window scenario.settings side past push outcome kept) ran.last (of side one other))
  where
    of : (which : Side) → KeepsWindow scenario.settings sides.A (all_entries ran.happenings) → KeepsWindow scenario.settings sides.B (all_entries ran.happenings) → KeepsWindow scenario.settings which (all_entries ran.happenings)
    of sides.A one other = one
    of sides.B one other = other
