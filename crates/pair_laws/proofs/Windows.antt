-- Both hosts of a run hold their windows, over its capture.
use Rattle.std.proofs.Common.{◌≡◌, ℕ, ◌+◌, ◌-◌, ◌%◌, ◌≤◌, Bool, true, false, cond, ◌&&◌, List, [], ◌∷◌, ◌++◌, length, take, drop, map, Option, Some, None, inl, inr, refl, sym, ap, subst, ◌∙◌, arith, append_assoc, append-nil}
use Rattle.std.specs.Prelude.{is_some}
use Rattle.std.specs.List.{AllByRecursion, AllZip, filter_map, flat_map}
use Rattle.std.proofs.lemmas.List.{take_all, take-append-le, take-append-drop}
use Rattle.std.proofs.lemmas.List.Elements.{filter_map-append}
use Rattle.std.proofs.lemmas.Bool.{cases_lt}
use Rattle.scenario_laws.specs.bt_base.specs.declared.settings.Settings.{Settings}
use Rattle.scenario_laws.specs.bt_base.specs.Objects.{Contents}
use Rattle.scenario_laws.specs.push_script.specs.declared.scenario.Scenario.{Scenario}
use Rattle.scenario_laws.specs.push_terms.specs.declared.word.Side.{Side}
use Rattle.scenario_laws.specs.push_terms.specs.declared.word.Side.TheVariants as sides
use Rattle.scenario_laws.specs.capture.specs.Entries.{Entry}
use Rattle.scenario_laws.specs.capture.specs.Histories.{each_after, AtEach}
use Rattle.scenario_laws.specs.capture.specs.Links.{Link, links, link_up}
use Rattle.scenario_laws.specs.capture.specs.Pdus.{Pdu, pdus}
use Rattle.scenario_laws.specs.capture.proofs.HistoryLaws.{each_after-append, at_each-whole, at_each-none}
use Rattle.scenario_laws.specs.ertm_frames.specs.Picking.{Passage, outs, ins, picked, last_req}
use Rattle.scenario_laws.specs.l2cap_config.specs.declared.wish.Mode.{Mode}
use Rattle.scenario_laws.specs.l2cap_config.specs.declared.wish.Mode.TheVariants.{Basic, Enhanced}
use Rattle.scenario_laws.specs.link_talk.specs.Accounts.{passage_in, frames_passed, waiting_frames, window_used}
use Rattle.scenario_laws.specs.link_talk.specs.Captures.{talk_on, talk_now}
use Rattle.scenario_laws.specs.link_talk.specs.Carriages.{is_passed, carried, entry_mode, mode_of}
use Rattle.scenario_laws.specs.link_talk.specs.Channels.{Entry as Known, reading}
use Rattle.scenario_laws.specs.link_talk.specs.declared.channel.Channel.{Channel}
use Rattle.scenario_laws.specs.link_talk.specs.declared.party.Party.{Party}
use Rattle.scenario_laws.specs.link_talk.specs.GrowingLaws.{has_opened, HasOpened}
use Rattle.scenario_laws.specs.link_talk.specs.Sayings.{Saying, said_by}
use Rattle.scenario_laws.specs.link_talk.specs.Setups.{Setup, is_set, is_enhanced, agreed_mode}
use Rattle.scenario_laws.specs.link_talk.proofs.Growing.{mode-stands}
use Rattle.channel_laws.specs.channel_model.specs.Policies.{Policy, policy}
use Rattle.channel_laws.specs.Endpoints.{IsOf}
use Rattle.channel_laws.specs.Frames.{AreUttered}
use Rattle.channel_laws.specs.Pairs.{pair_of}
use Rattle.channel_laws.specs.Runs.{Occurrence, Run, run_of}
use Rattle.channel_laws.specs.Sdus.{StatesFrame}
use Rattle.channel_laws.specs.Views.{read_at}
use Rattle.channel_laws.specs.Windows.{HoldsWindow, HoldsWindows, WindowsHold}
use Rattle.channel_laws.proofs.Conversing.{reading-on}
use Rattle.channel_laws.proofs.Naming.{said-of}
use Rattle.channel_laws.proofs.Entries.{read-own}
use Rattle.scenario_laws.specs.world_model.specs.Talks.{Talk}
use Rattle.scenario_laws.specs.host_model.specs.Clients.{client_profile}
use Rattle.scenario_laws.specs.host_model.specs.Servers.{server_profile}
use Rattle.host_laws.specs.Calls.{HostsAsk}
use Rattle.host_laws.specs.Lives.{Span, on_links}
use Rattle.host_laws.specs.OverLinks.{IsTalkOf, talk_marks, parts}
use Rattle.host_laws.specs.Seen.{spoken_of}
use Rattle.host_laws.proofs.Asking.{hosts_ask, clients_ask}
use Rattle.host_laws.proofs.Keeping.{servers_lend}
use Rattle.scenario_laws.specs.Captures.{Ran}
use Rattle.scenario_laws.specs.Coming.{LastIsUp}
use Rattle.scenario_laws.specs.Parties.{party_of}
use Rattle.scenario_laws.proofs.Fronts.{fronts_ran}
use Rattle.scenario_laws.proofs.Wishes.{states_frame, wishes_window}
use Rattle.pair_laws.specs.Heard.{HearsFirst, HearFirst}
use Rattle.pair_laws.specs.OnLinks.{happened_on, ArePairs}
use Rattle.pair_laws.specs.Windows.{HoldsOn, TalksHold, HoldsOnLinks, RunsHoldWindows}
use Rattle.pair_laws.specs.Within.{BothSendWithin}
use Rattle.pair_laws.proofs.Forgone.{KeepsAt, Stays, Ended, Moves, run-moves, unopened-passes}
use Rattle.pair_laws.proofs.Moved.{link_moves, links_move, each_link}
use Rattle.pair_laws.proofs.Pairing.{hosts-hear_first}
use Rattle.pair_laws.proofs.Taking.{clients_within, servers_within, pairs-are_carried}
use Rattle.pair_laws.proofs.Whole.{both_can, all_places}

-- ---- the front of a talk

-- a channel that a talk has in enhanced mode has opened
opened_by : (setup : Setup) → agreed_mode setup ≡ Enhanced → is_set setup ≡ true
opened_by setup is = by setup.asked setup.accepted is
  where
    by : (asked accepted : Option Mode) → cond (is_enhanced asked && is_enhanced accepted) Enhanced Basic ≡ Enhanced → (is_some asked && is_some accepted) ≡ true
    by None accepted is = cc
    by (Some Basic) accepted is = cc
    by (Some Enhanced) None is = cc
    by (Some Enhanced) (Some Basic) is = cc
    by (Some Enhanced) (Some Enhanced) is = refl

has_opened_by : (channel : Channel) (said : List Saying) → mode_of channel said ≡ Enhanced → HasOpened channel said
has_opened_by channel said mode = by (read_at channel.own (reading said).entries) mode
  where
    by : (found : Option Known) → entry_mode found ≡ Enhanced → has_opened found ≡ true
    by None is = cc
    by (Some entry) is = opened_by entry.setup is

mode_later : (channel : Channel) (said behind : List Saying) → HasOpened channel said → mode_of channel (said ++ behind) ≡ mode_of channel said
mode_later channel said [] opened = ap (mode_of channel) (append-nil said)
mode_later channel said (one ∷ behind) opened =
    let now = mode-stands channel said one opened in
    ap (mode_of channel) (sym (append_assoc said (one ∷ []) behind)) ∙ (mode_later channel (said ++ one ∷ []) behind now.1 ∙ now.0)

frames_later : (party : Party) (channel : Channel) (said behind : List Saying)
    → frames_passed party channel (said ++ behind) ≡ frames_passed party channel said ++ filter_map (passage_in party) (each_after (carried is_passed channel) said behind)
frames_later party channel said behind =
    ap (filter_map (passage_in party)) (each_after-append (carried is_passed channel) [] said behind)
    ∙ filter_map-append (passage_in party) (each_after (carried is_passed channel) [] said) (each_after (carried is_passed channel) said behind)

-- what holds at each moment of a history held at each moment of its front
each_front : {X : Type 0} (P : List X → Type 0) (front behind : List X) → AtEach P (front ++ behind) → AtEach P front
each_front P front behind each n =
    elim (cases_lt (length front) n) [
      | inl beyond ↦ subst P (take-append-le (length front) front behind (omega arith) ∙ (take_all (length front) front (omega arith) ∙ sym (take_all n front (omega (arith, beyond))))) (each (length front))
      | inr within ↦ subst P (take-append-le n front behind within) (each n)
    ]

pub front_holds : (settings : Settings) (side : Side) (front behind : List Saying) → HoldsOn settings side (front ++ behind) → HoldsOn settings side front
front_holds settings side front behind holds channel has mode =
    let opened = has_opened_by channel front mode in
    let party = party_of settings side in
    each_front (HoldsWindow settings.window) (frames_passed party channel front) (filter_map (passage_in party) (each_after (carried is_passed channel) front behind))
    (subst (AtEach (HoldsWindow settings.window)) (frames_later party channel front behind)
    (holds channel (subst (λ r. IsOf channel (read_at channel.own r.entries)) (sym (reading-on front behind)) (said-of channel channel.own behind (reading front) has)) (mode_later channel front behind opened ∙ mode)))

-- ---- how many the capture has

used_by : (window : ℕ) (frames : List Passage) → window ≤ 63 → HoldsWindow window frames → (length (picked 0 (outs frames)) + 64 - last_req 0 (ins frames)) % 64 ≤ window
used_by window frames most holds = let is = holds.is in let given = holds.given in let within = holds.within in omega (arith, is, given, within, most)

pub used_holds : (settings : Settings) (side : Side) (said : List Saying) (own : ℕ) (entry : Known) → HoldsOn settings side said → read_at own (reading said).entries ≡ Some entry → window_used (party_of settings side) said entry.channel ≤ settings.window
used_holds settings side said own entry holds found = by (mode_of entry.channel said) refl
  where
    party : Party
    party = party_of settings side

    here : read_at entry.channel.own (reading said).entries ≡ Some entry
    here = ap (λ (n : ℕ). read_at n (reading said).entries) (read-own own (reading said).entries entry found) ∙ found

    by : (mode : Mode) → mode_of entry.channel said ≡ mode → waiting_frames mode (frames_passed party entry.channel said) ≤ settings.window
    by Basic is = omega arith
    by Enhanced is = used_by settings.window (frames_passed party entry.channel said) settings.window_high
        (at_each-whole (HoldsWindow settings.window) (frames_passed party entry.channel said) (holds entry.channel (subst (IsOf entry.channel) (sym here) refl) is))

pub talks_hold : TalksHold
talks_hold = record { fronts = front_holds; used = used_holds }

-- ---- what moved of a talk

no_frames : (window : ℕ) (frames : List Passage) → frames ≡ [] → AtEach (HoldsWindow window) frames
no_frames window frames none = subst (AtEach (HoldsWindow window)) (sym none) (at_each-none (HoldsWindow window) (record { acknowledged = 0; is = refl; given = omega arith; within = omega arith }))

-- what a host gave up takes no frame of it
moved_holds : (settings : Settings) (side : Side) (said moved : List Saying) → Moves (party_of settings side) said moved → HoldsOn settings side said → HoldsOn settings side moved
moved_holds settings side said moved moves holds channel has mode =
    subst (AtEach (HoldsWindow settings.window)) (sym (moves.frames channel))
    (by (read_at channel.own (reading said).entries) (read_at channel.own (reading moved).entries) refl (moves.at channel.own) has mode)
  where
    party : Party
    party = party_of settings side

    on : (x : Known) → read_at channel.own (reading said).entries ≡ Some x → x.channel ≡ channel → agreed_mode x.setup ≡ Enhanced → AtEach (HoldsWindow settings.window) (frames_passed party channel said)
    on x found is enhanced = holds channel (subst (IsOf channel) (sym found) is) (ap entry_mode found ∙ enhanced)

    ended : (x y : Known) → read_at channel.own (reading said).entries ≡ Some x → x.channel ≡ y.channel → (is_set x.setup ≡ true → x.setup ≡ y.setup) → (set : Bool) → is_set x.setup ≡ set → y.channel ≡ channel → agreed_mode y.setup ≡ Enhanced
        → AtEach (HoldsWindow settings.window) (frames_passed party channel said)
    ended x y found same setup true set is enhanced = on x found (same ∙ is) (ap agreed_mode (setup set) ∙ enhanced)
    ended x y found same setup false unset is enhanced = no_frames settings.window (frames_passed party channel said) (unopened-passes party channel said (ap has_opened found ∙ unset))

    by : (one other : Option Known) → read_at channel.own (reading said).entries ≡ one → KeepsAt one other → IsOf channel other → entry_mode other ≡ Enhanced → AtEach (HoldsWindow settings.window) (frames_passed party channel said)
    by one None found keeps is enhanced = absurd is
    by None (Some y) found keeps is enhanced = absurd keeps
    by (Some x) (Some y) found (Stays same) is enhanced = on x found (ap (λ (e : Known). e.channel) same ∙ is) (ap (λ (e : Known). agreed_mode e.setup) same ∙ enhanced)
    by (Some x) (Some y) found (Ended same over setup) is enhanced = ended x y found same setup (is_set x.setup) refl is enhanced

-- by what moved of what happened
abbrev Seen : Settings → Side → Policy → List Occurrence → Type 0
Seen settings side wanted list = HoldsOn settings side (spoken_of (run_of wanted list).said)

-- the last of them
zip_last : {X Y : Type 0} (R : X → Y → Type 0) (xs : List X) (ys : List Y) (x : X) (y : Y) → AllZip R (xs ++ x ∷ []) (ys ++ y ∷ []) → R x y
zip_last R [] [] x y zip = zip.0
zip_last R [] (a ∷ []) x y zip = absurd zip.1
zip_last R [] (a ∷ b ∷ ys) x y zip = absurd zip.1
zip_last R (a ∷ []) [] x y zip = absurd zip.1
zip_last R (a ∷ b ∷ xs) [] x y zip = absurd zip.1
zip_last R (a ∷ xs) (b ∷ ys) x y zip = zip_last R xs ys x y zip.1

of_last : {X : Type 0} (P : X → Type 0) (xs : List X) (x : X) → AllByRecursion P (xs ++ x ∷ []) → P x
of_last P [] x all = all.0
of_last P (a ∷ xs) x all = of_last P xs x all.1

last_moves : (settings : Settings) (side : Side) (wanted : Policy) (lists : List (List Occurrence)) (now : List Occurrence) (ps : List (List Talk)) (up : Option Link) → AllZip (IsTalkOf wanted) (lists ++ now ∷ []) ps → LastIsUp ps up
    → AllByRecursion (Seen settings side wanted) (lists ++ now ∷ []) → HoldsOn settings side (talk_on up)
last_moves settings side wanted lists now ps None zip last holds = λ channel has. elim has [ ]
last_moves settings side wanted lists now ps (Some link) zip (before, part, unsent, parts_are, moved) holds =
    link_moves (HoldsOn settings side) (front_holds settings side) wanted now part (pdus link) unsent (zip_last (IsTalkOf wanted) lists before now part (subst (AllZip (IsTalkOf wanted) (lists ++ now ∷ [])) parts_are zip)) moved (of_last (Seen settings side wanted) lists now holds)

-- ---- the own talk

own_holds : (settings : Settings) (side : Side) (mine theirs : Policy) (list : List Occurrence) (run : Run) → run ≡ run_of mine list → ((psm : ℕ) → (mine.wish psm).mps ≡ settings.mps) → ((psm : ℕ) → (theirs.wish psm).window ≡ settings.window) → HoldsWindows mine theirs run
    → HoldsOn settings side (run_of mine list).said
own_holds settings side mine theirs list run is states wished holds =
    subst (λ (r : Run). HoldsOn settings side r.said) is (λ channel has mode. subst (λ (n : ℕ). AtEach (HoldsWindow n) (frames_passed (party_of settings side) channel run.said)) (wished channel.psm) (holds (party_of settings side) channel states has mode))

-- where two ends hold their windows
module _ (windows : WindowsHold) (asks : HostsAsk) (scenario : Scenario) (content : Option Contents) (capture : List Entry) (ran : Ran scenario content capture) (pairs : ArePairs asks scenario content capture ran) (within : BothSendWithin asks) where
  abbrev near : Policy
  near = policy scenario.settings false

  abbrev far : Policy
  far = policy scenario.settings true

  hold : (number : ℕ) → HoldsWindows near far (pair_of near far (pairs.pairs number).turns).near.run × HoldsWindows far near (pair_of near far (pairs.pairs number).turns).far.run
  hold number = let pair = pairs.pairs number in windows near far pair.turns pair.fair pair.read (pairs-are_carried asks scenario content capture ran pairs within number) (both_can scenario.settings)

  pub all_a : AllByRecursion (λ (list : List Occurrence). HoldsOn scenario.settings sides.A (run_of near list).said) (on_links (client_profile scenario.settings) (asks.clients scenario.settings) (flat_map talk_marks pairs.a.came.talk) ran.world.a.upper pairs.a.fed.so.lives)
  all_a =
      all_places (λ (list : List Occurrence). HoldsOn scenario.settings sides.A (run_of near list).said) (on_links (client_profile scenario.settings) (asks.clients scenario.settings) (flat_map talk_marks pairs.a.came.talk) ran.world.a.upper pairs.a.fed.so.lives)
      (λ number. let pair = pairs.pairs number in
      own_holds scenario.settings sides.A near far (happened_on (client_profile scenario.settings) (asks.clients scenario.settings) sides.A capture ran.world.a.upper pairs.a number) (pair_of near far pair.turns).near.run pair.near_is
      (states_frame scenario.settings false sides.A) (wishes_window scenario.settings) (hold number).0)

  pub all_b : AllByRecursion (λ (list : List Occurrence). HoldsOn scenario.settings sides.B (run_of far list).said) (on_links (server_profile scenario.settings content) (asks.servers scenario.settings content) (flat_map talk_marks pairs.b.came.talk) ran.world.b.upper pairs.b.fed.so.lives)
  all_b =
      all_places (λ (list : List Occurrence). HoldsOn scenario.settings sides.B (run_of far list).said) (on_links (server_profile scenario.settings content) (asks.servers scenario.settings content) (flat_map talk_marks pairs.b.came.talk) ran.world.b.upper pairs.b.fed.so.lives)
      (λ number. let pair = pairs.pairs number in
      own_holds scenario.settings sides.B far near (happened_on (server_profile scenario.settings content) (asks.servers scenario.settings content) sides.B capture ran.world.b.upper pairs.b number) (pair_of near far pair.turns).far.run pair.far_is
      (states_frame scenario.settings true sides.B) (wishes_window scenario.settings) (hold number).1)

-- ---- both hosts of a run

-- on each link: it hears nothing behind what it gave up, so what moved of its talk holds its window as its talk does
seen_holds : (settings : Settings) (side : Side) (wanted : Policy) (channel : Channel) (lists : List (List Occurrence)) → StatesFrame wanted (party_of settings side) → AllByRecursion (AreUttered wanted) lists → AllByRecursion (HearsFirst wanted) lists
    → AllByRecursion (λ (list : List Occurrence). HoldsOn settings side (run_of wanted list).said) lists → AllByRecursion (Seen settings side wanted) lists
seen_holds settings side wanted channel [] states uttered hears holds = tt
seen_holds settings side wanted channel (list ∷ lists) states uttered hears holds = (
  moved_holds settings side (run_of wanted list).said (spoken_of (run_of wanted list).said) (run-moves wanted (party_of settings side) channel states list uttered.0 hears.0) holds.0,
  seen_holds settings side wanted channel lists states uttered.1 hears.1 holds.1,
)

abbrev pub both_ask : HostsAsk
both_ask = record { clients = clients_ask; servers = hosts_ask.servers }

within_both : BothSendWithin both_ask
within_both = record { clients = clients_within; servers = servers_within }

-- any channel
abbrev signalling : Channel
signalling = record { psm = 0; own = 0; peer = 0 }

module _ (windows : WindowsHold) (scenario : Scenario) (content : Option Contents) (capture : List Entry) (ran : Ran scenario content capture) where
  abbrev hearing : HearFirst both_ask scenario content capture ran
  hearing = hosts-hear_first both_ask scenario content capture ran (servers_lend scenario.settings content)

  abbrev lists_a : List (List Occurrence)
  lists_a = on_links (client_profile scenario.settings) (clients_ask scenario.settings) (flat_map talk_marks hearing.pairs.a.came.talk) ran.world.a.upper hearing.pairs.a.fed.so.lives

  abbrev lists_b : List (List Occurrence)
  lists_b = on_links (server_profile scenario.settings content) (hosts_ask.servers scenario.settings content) (flat_map talk_marks hearing.pairs.b.came.talk) ran.world.b.upper hearing.pairs.b.fed.so.lives

  seen_a : AllByRecursion (Seen scenario.settings sides.A (policy scenario.settings false)) lists_a
  seen_a =
      seen_holds scenario.settings sides.A (policy scenario.settings false) signalling lists_a (states_frame scenario.settings false sides.A) hearing.pairs.a.uttered hearing.a
      (all_a windows both_ask scenario content capture ran hearing.pairs within_both)

  seen_b : AllByRecursion (Seen scenario.settings sides.B (policy scenario.settings true)) lists_b
  seen_b =
      seen_holds scenario.settings sides.B (policy scenario.settings true) signalling lists_b (states_frame scenario.settings true sides.B) hearing.pairs.b.uttered hearing.b
      (all_b windows both_ask scenario content capture ran hearing.pairs within_both)

  now_holds : (side : Side) → HoldsOn scenario.settings side (talk_now side capture)
  now_holds sides.A =
      let host = hearing.pairs.a in
      let lives = host.fed.so.lives in
      last_moves scenario.settings sides.A (policy scenario.settings false) (map (λ (span : Span). span.list) lives.spans) lives.now (parts host.came.talk) (link_up sides.A capture) host.fed.so.talks_are host.came.last seen_a
  now_holds sides.B =
      let host = hearing.pairs.b in
      let lives = host.fed.so.lives in
      last_moves scenario.settings sides.B (policy scenario.settings true) (map (λ (span : Span). span.list) lives.spans) lives.now (parts host.came.talk) (link_up sides.B capture) host.fed.so.talks_are host.came.last seen_b

  links_hold : (side : Side) → HoldsOnLinks scenario.settings side capture
  links_hold sides.A =
      let host = hearing.pairs.a in
      each_link (λ (moved : List Pdu). HoldsOn scenario.settings sides.A (flat_map said_by moved)) (links sides.A capture)
      (links_move (HoldsOn scenario.settings sides.A) (front_holds scenario.settings sides.A) (policy scenario.settings false) lists_a (parts host.came.talk) (map pdus (links sides.A capture)) host.fed.so.talks_are host.came.fall seen_a)
  links_hold sides.B =
      let host = hearing.pairs.b in
      each_link (λ (moved : List Pdu). HoldsOn scenario.settings sides.B (flat_map said_by moved)) (links sides.B capture)
      (links_move (HoldsOn scenario.settings sides.B) (front_holds scenario.settings sides.B) (policy scenario.settings true) lists_b (parts host.came.talk) (map pdus (links sides.B capture)) host.fed.so.talks_are host.came.fall seen_b)

-- each front of a capture is that of a run
pub runs_hold : WindowsHold → RunsHoldWindows
runs_hold windows = record {
  throughout = λ scenario content capture side ran n.
      let front = take n capture in
      let run = fronts_ran scenario content capture front ran (drop n capture, sym (take-append-drop n capture)) in
      now_holds windows scenario content front run side;
  on_links = λ scenario content capture side ran. links_hold windows scenario content capture ran side;
}
