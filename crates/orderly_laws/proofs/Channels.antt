-- The channels of a server whose timer never fired are those of what moved, and each is open exactly where that says so.
use Rattle.std.proofs.Common.{◌≡◌, ◌&&◌, ℕ, Bool, true, false, cond, eqb, not, is_some, List, [], ◌∷◌, ◌++◌, map, Option, Some, None, refl, sym, ap, subst, ◌∙◌, append-nil, arith}
use Rattle.std.specs.List.{AllByRecursion, flat_map}
use Rattle.request_laws.specs.bt_base.specs.declared.settings.Settings.{Settings}
use Rattle.request_laws.specs.bt_base.specs.Objects.{Contents}
use Rattle.request_laws.specs.push_terms.specs.declared.word.Side.TheVariants as sides
use Rattle.request_laws.specs.capture.specs.Links.{Link, link_up}
use Rattle.request_laws.specs.l2cap_config.specs.declared.wish.Mode.TheVariants.{Basic}
use Rattle.request_laws.specs.link_talk.specs.declared.channel.Channel.{Channel}
use Rattle.request_laws.specs.link_talk.specs.declared.life.Life.{Life}
use Rattle.request_laws.specs.link_talk.specs.declared.life.Life.TheVariants as lives
use Rattle.request_laws.specs.link_talk.specs.declared.party.Party.{Party}
use Rattle.request_laws.specs.link_talk.specs.Channels.{Entry, is_alive, is_there, reading}
use Rattle.request_laws.specs.link_talk.specs.Sayings.{Saying, talk}
use Rattle.request_laws.specs.link_talk.specs.Setups.{is_set}
use Rattle.request_laws.specs.link_talk.specs.Waits.{options_wait}
use Rattle.request_laws.specs.channel_model.specs.Calls.{setup_on, peer_mtu}
use Rattle.request_laws.specs.channel_model.specs.Changing.{has_own, held_at, setup_of}
use Rattle.request_laws.specs.channel_model.specs.Policies.{Policy, policy, wished, enhanced_wish}
use Rattle.request_laws.specs.channel_model.specs.Value.{Setup, Stage, Requested, Connected, Leaving, Closing, Crossed, Held, Channels}
use Rattle.request_laws.specs.channel_laws.specs.Runs.{Occurrence, run_of}
use Rattle.request_laws.specs.channel_laws.specs.Views.{peer_of, life_of, IsReadBy, IsRead, read_at}
use Rattle.request_laws.specs.channel_laws.proofs.Running.{channels-are_read}
use Rattle.unit_laws.specs.opening_laws.specs.Opening.{reads_open_by, reads_open, says_open_by, is_living, OpensAsSaid}
use Rattle.unit_laws.specs.opening_laws.proofs.Opening.{open-is_what_is_said}
use Rattle.request_laws.specs.host_model.specs.Circumstances.{Circumstance}
use Rattle.request_laws.specs.host_model.specs.Hosts.{Host, first_host}
use Rattle.request_laws.specs.host_model.specs.Machines.{upper}
use Rattle.request_laws.specs.host_model.specs.Profiles.{Profile}
use Rattle.request_laws.specs.host_model.specs.Servers.{ServerProfile, server_profile}
use Rattle.request_laws.specs.host_laws.specs.Acts.{Act, Acting}
use Rattle.request_laws.specs.host_laws.specs.Keeping.{GivesNothingUp}
use Rattle.request_laws.specs.host_laws.specs.Lives.{Span}
use Rattle.request_laws.specs.host_laws.specs.OverLinks.{parts, talk_marks}
use Rattle.request_laws.specs.host_laws.specs.Read.{IsActSo}
use Rattle.request_laws.specs.host_laws.specs.Seen.{IsOneCommand}
use Rattle.request_laws.specs.host_laws.proofs.Asking.{hosts_ask}
use Rattle.request_laws.specs.host_laws.proofs.Fitting.{KeepsFit, first-fits, AnyServer, servers-keep_so}
use Rattle.request_laws.specs.host_laws.proofs.Framed.{IsFlowing}
use Rattle.request_laws.specs.host_laws.proofs.Freeing.{flowing-heeds, flowing-sends}
use Rattle.request_laws.specs.host_laws.proofs.InOrder.{servers-ask_for_nothing}
use Rattle.request_laws.specs.host_laws.proofs.Keeping.{servers_lend}
use Rattle.request_laws.specs.host_laws.proofs.ReadSo.{acts-fit}
use Rattle.request_laws.specs.host_laws.proofs.Signals.{IsSmallWish, FitsStage, FitsFound, fits-found}
use Rattle.unit_laws.specs.scenario_laws.specs.Coming.{LastIsUp}
use Rattle.unit_laws.specs.scenario_laws.specs.Parties.{party_of}
use Rattle.unit_laws.specs.scenario_laws.proofs.Wishes.{states_frame}
use Rattle.unit_laws.specs.Units.{Lined, Occasion, units, lone_capture, HasSaidAll}
use Rattle.unit_laws.proofs.Holding.{TalksOn, talks-on}
use Rattle.unit_laws.proofs.Living.{LivedCalmly, servers_lived}
use Rattle.orderly_laws.specs.Channels.{AreAsSaid, AreOfLink, AreOfLinkUp, ServersHoldWhatMoved}
use Rattle.orderly_laws.proofs.Falling.{parted}
use Rattle.orderly_laws.proofs.Given.{nothing-given_up}

-- ---- a server is on its way out of no channel

small_wish : (settings : Settings) (psm : ℕ) → IsSmallWish (wished settings psm)
small_wish settings psm = by (eqb psm 0x0001) (eqb psm 0x0003)
  where
    all : IsSmallWish (enhanced_wish settings)
    all = let window = settings.window_high in let tries = settings.tries_high in (omega (arith, window), omega (arith, tries))

    by : (one three : Bool) → IsSmallWish (cond one (record (enhanced_wish settings) { mode = Basic; mtu = 672 }) (cond three (record (enhanced_wish settings) { mode = Basic }) (enhanced_wish settings)))
    by true three = all
    by false true = all
    by false false = all

-- whose end it asked for, and which it has not closed
abbrev NotLeaving : Option Held → Type 0
NotLeaving found = FitsFound ⊥ found

leaves_none : (settings : Settings) (content : Option Contents) (acts : List (Act Circumstance)) (now : Host ServerProfile) → AllByRecursion (IsActSo IsOneCommand) acts → Acting (upper (server_profile settings content)) acts (first_host (server_profile settings content)) now
    → (own : ℕ) → NotLeaving (held_at own now.channels)
leaves_none settings content acts now heard acting own =
    let wanted = policy settings true in
    let A = server_profile settings content in
    let K = IsFlowing ⊥ wanted in
    let keeps : KeepsFit A IsOneCommand (IsFlowing ⊥ wanted) AnyServer = servers-keep_so settings content IsOneCommand K (flowing-heeds ⊥ wanted (small_wish settings)) (flowing-sends ⊥ wanted (small_wish settings)) in
    fits-found ⊥ (has_own own) now.channels (acts-fit A IsOneCommand K AnyServer keeps acts (first_host A) now heard acting (first-fits A IsOneCommand K AnyServer keeps)).channels.signals.core

-- ---- so a channel that it has not closed is one that it holds

shut_stage : (rules : Policy) (held : Held) (stage : Stage) (entry : Entry) → held.stage ≡ stage → IsReadBy rules held (peer_of stage) (Some entry) → is_alive entry.life ≡ false → FitsStage ⊥ stage → setup_of stage ≡ None
shut_stage rules held (Requested request) entry at read over fits = absurd read
shut_stage rules held (Connected peer setup) entry at read over fits = let never : false ≡ true = sym over ∙ ap is_alive (read.0.life_is ∙ ap life_of at) in absurd cc
shut_stage rules held (Leaving peer setup request) entry at read over fits = absurd fits.0
shut_stage rules held (Closing peer request checked) entry at read over fits = refl
shut_stage rules held (Crossed peer request) entry at read over fits = refl

shut_at : (rules : Policy) (found : Option Held) (entry : Entry) → IsRead rules found (Some entry) → is_alive entry.life ≡ false → NotLeaving found → setup_on found ≡ None
shut_at rules None entry read over fits = refl
shut_at rules (Some held) entry read over fits = shut_stage rules held held.stage entry refl read over fits

-- ---- what moved says which are open

none_and : (b : Bool) → (b && false) ≡ false
none_and true = refl
none_and false = refl

module _ (settings : Settings) (list : List Occurrence) (off : (own : ℕ) → NotLeaving (held_at own (run_of (policy settings true) list).value)) where
  abbrev rules : Policy
  rules = policy settings true

  abbrev party : Party
  party = party_of settings sides.B

  abbrev own_said : List Saying
  own_said = (run_of (policy settings true) list).said

  opens_at : (channel : Channel) → OpensAsSaid (party_of settings sides.B) (run_of (policy settings true) list) channel
  opens_at channel = open-is_what_is_said rules party list channel (states_frame settings true sides.B)

  opens_by : (channel : Channel) (found : Option Entry) → read_at channel.own (reading own_said).entries ≡ found → is_some (peer_mtu channel.own (run_of (policy settings true) list).value) ≡ says_open_by (party_of settings sides.B) own_said channel found
  opens_by channel None at =
      (opens_at channel).held_is ∙ (ap (λ (f : Option Entry). is_some (setup_on (held_at channel.own (run_of rules list).value)) && reads_open_by party own_said channel f) at ∙ none_and (is_some (setup_on (held_at channel.own (run_of rules list).value))))
  opens_by channel (Some entry) at = by (is_alive entry.life) refl
    where
      by : (alive : Bool) → is_alive entry.life ≡ alive → is_some (peer_mtu channel.own (run_of (policy settings true) list).value) ≡ says_open_by (party_of settings sides.B) own_said channel (Some entry)
      by true living =
          (opens_at channel).living_is (ap is_living at ∙ living)
          ∙ (ap (reads_open_by party own_said channel) at ∙ ap (λ (b : Bool). (is_set entry.setup && b) && not (options_wait party own_said channel)) (there_if entry.life living ∙ sym living))
        where
          there_if : (life : Life) → is_alive life ≡ true → is_there life ≡ true
          there_if lives.Alive is = refl
          there_if lives.Leaving is = cc
          there_if lives.Crossed is = cc
          there_if lives.Over is = cc
      by false over =
          let none = shut_at rules (held_at channel.own (run_of rules list).value) entry (subst (IsRead rules (held_at channel.own (run_of rules list).value)) at (channels-are_read rules list channel.own)) over (off channel.own) in
          (opens_at channel).held_is
          ∙ (ap (λ (s : Option Setup). is_some s && reads_open party own_said channel) none ∙ sym (ap (λ (b : Bool). (is_set entry.setup && b) && not (options_wait party own_said channel)) over ∙ ap (λ (b : Bool). b && not (options_wait party own_said channel)) (none_and (is_set entry.setup))))

  as_said : (said : List Saying) → own_said ≡ said → AreAsSaid (policy settings true) (party_of settings sides.B) said (run_of (policy settings true) list).value
  as_said said is = subst (λ (l : List Saying). AreAsSaid rules party l (run_of rules list).value) is (record { read = channels-are_read rules list; opens = λ channel. opens_by channel (read_at channel.own (reading own_said).entries) refl })

-- ---- the law

module _ (settings : Settings) (content : Option Contents) (occasions : List (Occasion Circumstance)) (now : Lined (Host ServerProfile)) (lived : LivedCalmly (server_profile settings content) (hosts_ask.servers settings content) sides.B occasions now) where
  abbrev A : Profile ServerProfile
  A = server_profile settings content

  on_link : (link : Link) → TalksOn A (hosts_ask.servers settings content) (party_of settings sides.B) (states_frame settings true sides.B) sides.B occasions now lived link → GivesNothingUp (policy settings true) lived.lives.fed.so.lives.now
      → AreOfLink (policy settings true) (party_of settings sides.B) (HasSaidAll (upper (server_profile settings content)) now) link now.upper.channels
  on_link link on nothing =
      let party = party_of settings sides.B in
      let list = lived.lives.fed.so.lives.now in
      let is = lived.lives.fed.so.lives.channels_run in
      let off = subst (λ (v : Channels). (own : ℕ) → NotLeaving (held_at own v)) is (leaves_none settings content lived.came.over.acts now.upper lived.heard lived.came.over.acting) in
      let all : (run_of (policy settings true) list).said ≡ talk link ++ on.waits = sym nothing ∙ on.talk_is in
      let so = λ (said : List Saying) (same : (run_of (policy settings true) list).said ≡ said). subst (AreAsSaid (policy settings true) party said) (sym is) (as_said settings list off said same) in
      record {
        waits = on.waits;
        go_out = on.go_out;
        so = so (talk link ++ on.waits) all;
        moved = λ quiet. so (talk link) (all ∙ (ap (λ (l : List Saying). talk link ++ l) (on.none quiet) ∙ append-nil (talk link)));
      }

  on_link_up : GivesNothingUp (policy settings true) lived.lives.fed.so.lives.now → (up : Option Link) → link_up sides.B (lone_capture sides.B (units occasions)) ≡ up → LastIsUp (parts lived.came.talk) up
      → AreOfLinkUp (policy settings true) (party_of settings sides.B) (HasSaidAll (upper (server_profile settings content)) now) up now.upper.channels
  on_link_up nothing None is last = lived.off is
  on_link_up nothing (Some link) is last = on_link link (talks-on A (hosts_ask.servers settings content) (party_of settings sides.B) (states_frame settings true sides.B) sides.B occasions now lived link is last) nothing

pub servers_hold_what_moved : ServersHoldWhatMoved
servers_hold_what_moved settings content occasions now did have untimed =
    let asks = hosts_ask.servers settings content in
    let rules = policy settings true in
    let lived = servers_lived settings content asks occasions now did have in
    let so = lived.lives.fed.so in
    let before = map (λ (span : Span). span.list) so.lives.spans in
    let nothing = nothing-given_up rules (before ++ so.lives.now ∷ []) lived.came.talk so.talks_are (lived.unfired untimed)
    (servers-ask_for_nothing settings content asks (flat_map talk_marks lived.came.talk) now.upper so.lives (servers_lend settings content)) in
    on_link_up settings content occasions now lived (parted (GivesNothingUp rules) so.lives.spans so.lives.now nothing).last (link_up sides.B (lone_capture sides.B (units occasions))) refl lived.came.last
