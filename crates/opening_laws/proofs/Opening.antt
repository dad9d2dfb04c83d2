-- A channel is open where the own talk of its host says so.
use Rattle.std.proofs.Common.{◌≡◌, ℕ, List, Bool, true, false, ◌&&◌, not, Option, Some, None, is_some, refl, sym, ap, subst, ◌∙◌}
use Rattle.std.specs.Prelude.{option_map}
use Rattle.channel_laws.specs.l2cap_config.specs.declared.wish.Wish.{Wish}
use Rattle.channel_laws.specs.link_talk.specs.declared.channel.Channel.{Channel}
use Rattle.channel_laws.specs.link_talk.specs.declared.party.Party.{Party}
use Rattle.channel_laws.specs.link_talk.specs.Sayings.{Saying}
use Rattle.channel_laws.specs.link_talk.specs.Channels.{Entry, is_alive, is_there, reading}
use Rattle.channel_laws.specs.link_talk.specs.declared.life.Life.{Life}
use Rattle.channel_laws.specs.link_talk.specs.declared.life.Life.TheVariants as lives
use Rattle.channel_laws.specs.link_talk.specs.Setups.{is_set}
use Rattle.channel_laws.specs.link_talk.specs.Waits.{options_wait}
use Rattle.channel_laws.specs.channel_model.specs.Calls.{setup_on, own_waits, carrier_if, open_carrier, carrier_mtu}
use Rattle.channel_laws.specs.channel_model.specs.Changing.{held_at, is_granted, is_open, is_leaving, setup_of}
use Rattle.channel_laws.specs.channel_model.specs.Policies.{Policy}
use Rattle.channel_laws.specs.channel_model.specs.Value.{Own, Unasked, Asking, Granted, Carrier, Setup, Stage, Requested, Connected, Leaving, Closing, Crossed, Held}
use Rattle.channel_laws.specs.Runs.{Occurrence, Run, run_of}
use Rattle.channel_laws.specs.Sdus.{StatesFrame}
use Rattle.channel_laws.specs.Views.{peer_of, life_of, asked_mode, carrier_mode, Standing, Agreeing, standing, IsSetUp, IsSetUpIf, IsRead, IsReadBy, read_at}
use Rattle.channel_laws.proofs.Options.{options-are_awaited}
use Rattle.channel_laws.proofs.Running.{channels-are_read}
use Rattle.opening_laws.specs.Opening.{reads_open_by, reads_open, says_open_by, is_left_at, is_living, OpensAsSaid, OpenIsWhatIsSaid}

-- ---- of what is held

has_mtu : (carrier : Option Carrier) (setup : Setup) (opened : Bool) → setup.carrier ≡ carrier → is_some (option_map carrier_mtu (carrier_if opened setup)) ≡ (is_some carrier && opened)
has_mtu None setup true is = ap (λ c. is_some (option_map carrier_mtu c)) is
has_mtu None setup false is = refl
has_mtu (Some carrier) setup true is = ap (λ c. is_some (option_map carrier_mtu c)) is
has_mtu (Some carrier) setup false is = refl

-- both accepted the other's options where the host asked for them, accepted those of the peer and waits for no answer
both_accepted : (wish : Wish) (own : Own) (carrier : Option Carrier) → (is_some carrier && (is_some carrier && is_granted own)) ≡ (((is_some (asked_mode wish own) && is_some (option_map carrier_mode carrier)) && true) && not (own_waits own))
both_accepted wish Unasked None = refl
both_accepted wish Unasked (Some carrier) = refl
both_accepted wish (Asking request options) None = refl
both_accepted wish (Asking request options) (Some carrier) = refl
both_accepted wish Granted None = refl
both_accepted wish Granted (Some carrier) = refl

-- what stands of a channel that its host has not closed
setup_stands : (stage : Stage) (setup : Setup) → setup_of stage ≡ Some setup → (peer : ℕ) × (peer_of stage ≡ Some peer) × (standing stage ≡ Agreeing setup) × (is_there (life_of stage) ≡ true)
setup_stands (Requested request) setup is = cc
setup_stands (Connected peer other) setup is = let same : other ≡ setup = cc in (peer, refl, ap Agreeing same, refl)
setup_stands (Leaving peer other request) setup is = let same : other ≡ setup = cc in (peer, refl, ap Agreeing same, refl)
setup_stands (Closing peer request checked) setup is = cc
setup_stands (Crossed peer request) setup is = cc

-- ---- of what is read

-- one whose end the host has not asked for is one whose options it holds
stage_lives : (policy : Policy) (held : Held) (stage : Stage) (found : Option Entry) → held.stage ≡ stage → IsReadBy policy held (peer_of stage) found → is_living found ≡ true → is_some (setup_of stage) ≡ true
stage_lives policy held (Requested request) None at read alive = cc
stage_lives policy held (Requested request) (Some entry) at read alive = absurd read
stage_lives policy held (Connected peer setup) found at read alive = refl
stage_lives policy held (Leaving peer setup request) found at read alive = refl
stage_lives policy held (Closing peer request checked) None at read alive = absurd read
stage_lives policy held (Closing peer request checked) (Some entry) at read alive =
    let never : false ≡ true = sym (ap is_alive (read.0.life_is ∙ ap life_of at)) ∙ alive in absurd cc
stage_lives policy held (Crossed peer request) None at read alive = absurd read
stage_lives policy held (Crossed peer request) (Some entry) at read alive =
    let never : false ≡ true = sym (ap is_alive (read.0.life_is ∙ ap life_of at)) ∙ alive in absurd cc

read_lives : (policy : Policy) (held : Option Held) (found : Option Entry) → IsRead policy held found → is_living found ≡ true → is_some (setup_on held) ≡ true
read_lives policy None None read alive = cc
read_lives policy None (Some entry) read alive = let never : false ≡ true = sym (ap is_alive read) ∙ alive in absurd cc
read_lives policy (Some held) found read alive = stage_lives policy held held.stage found refl read alive

-- ---- one that stays open

-- its host asked for its end, or closed it
none_stays : (is so : Bool) (life : Life) → is_alive life ≡ false → ((is && is_alive life) && so) ≡ false
none_stays true so life off = ap (λ (b : Bool). b && so) off
none_stays false so life off = refl

nor_left : (b : Bool) → (b && false) ≡ false
nor_left true = refl
nor_left false = refl

as_it_is : (b : Bool) → (b && true) ≡ b
as_it_is true = refl
as_it_is false = refl

module _ (policy : Policy) (party : Party) (said : List Saying) (channel : Channel) where
  abbrev opened : Option Setup → Bool
  opened setup = is_some (option_map carrier_mtu (open_carrier setup))

  not_alive : (entry : Entry) (life : Life) → entry.life ≡ life → is_alive life ≡ false → says_open_by party said channel (Some entry) ≡ false
  not_alive entry life is off = none_stays (is_set entry.setup) (not (options_wait party said channel)) entry.life (ap is_alive is ∙ off)

  alive_stays : (entry : Entry) → entry.life ≡ lives.Alive → reads_open_by party said channel (Some entry) ≡ says_open_by party said channel (Some entry)
  alive_stays entry alive =
      let waits = not (options_wait party said channel) in
      ap (λ (l : Life). (is_set entry.setup && is_there l) && waits) alive ∙ sym (ap (λ (l : Life). (is_set entry.setup && is_alive l) && waits) alive)

  stays_by : (held : Held) (stage : Stage) (found : Option Entry) → held.stage ≡ stage → IsReadBy policy held (peer_of stage) found → (is_living found ≡ true → opened (setup_of stage) ≡ reads_open_by party said channel found)
      → (opened (setup_of stage) && not (is_leaving stage)) ≡ says_open_by party said channel found
  stays_by held (Requested request) None at read opens = refl
  stays_by held (Requested request) (Some entry) at read opens = absurd read
  stays_by held (Connected peer setup) None at read opens = absurd read
  stays_by held (Connected peer setup) (Some entry) at read opens =
      let alive = read.0.life_is ∙ ap life_of at in
      as_it_is (opened (Some setup)) ∙ (opens (ap is_alive alive) ∙ alive_stays entry alive)
  stays_by held (Leaving peer setup request) None at read opens = absurd read
  stays_by held (Leaving peer setup request) (Some entry) at read opens = nor_left (opened (Some setup)) ∙ sym (not_alive entry lives.Leaving (read.0.life_is ∙ ap life_of at) refl)
  stays_by held (Closing peer request checked) None at read opens = absurd read
  stays_by held (Closing peer request checked) (Some entry) at read opens = sym (not_alive entry lives.Leaving (read.0.life_is ∙ ap life_of at) refl)
  stays_by held (Crossed peer request) None at read opens = absurd read
  stays_by held (Crossed peer request) (Some entry) at read opens = sym (not_alive entry lives.Crossed (read.0.life_is ∙ ap life_of at) refl)

  stays_at : (held : Option Held) (found : Option Entry) → IsRead policy held found → (is_living found ≡ true → opened (setup_on held) ≡ reads_open_by party said channel found) → (opened (setup_on held) && not (is_left_at held)) ≡ says_open_by party said channel found
  stays_at None None read opens = refl
  stays_at None (Some entry) read opens = sym (not_alive entry lives.Over read refl)
  stays_at (Some held) found read opens = stays_by held held.stage found refl read opens

-- ---- the law

module _ (policy : Policy) (party : Party) (list : List Occurrence) (channel : Channel) (states : StatesFrame policy party) where
  abbrev run : Run
  run = run_of policy list

  abbrev found_of : Option Entry
  found_of = read_at channel.own (reading (run_of policy list).said).entries

  -- a channel whose options are held
  opened_so : (held : Held) (setup : Setup) (peer : ℕ) (found : Option Entry) → standing held.stage ≡ Agreeing setup → is_there (life_of held.stage) ≡ true → IsReadBy policy held (Some peer) found
      → options_wait party run.said channel ≡ own_waits setup.own → is_some (option_map carrier_mtu (carrier_if (is_open setup) setup)) ≡ reads_open_by party run.said channel found
  opened_so held setup peer None stands there read awaited = absurd read
  opened_so held setup peer (Some entry) stands there read awaited =
      let wish : Wish = policy.wish held.psm in
      let set : IsSetUp wish setup entry.setup = subst (λ (s : Standing). IsSetUpIf wish s entry.setup) stands read.1 in
      let wait : Bool = options_wait party run.said channel in
      let asked : Bool = is_some (asked_mode wish setup.own) in
      let accepted : Bool = is_some (option_map carrier_mode setup.carrier) in
      has_mtu setup.carrier setup (is_open setup) refl
      ∙ (both_accepted wish setup.own setup.carrier
      ∙ sym (ap (λ m. ((is_some m && is_some entry.setup.accepted) && is_there entry.life) && not wait) set.asked_is
      ∙ (ap (λ m. ((asked && is_some m) && is_there entry.life) && not wait) set.accepted_is
      ∙ (ap (λ b. ((asked && accepted) && b) && not wait) (ap is_there read.0.life_is ∙ there)
      ∙ ap (λ b. ((asked && accepted) && true) && not b) awaited))))

  opened_on : (held : Held) (setup : Option Setup) → held_at channel.own run.value ≡ Some held → setup_of held.stage ≡ setup → is_some (option_map carrier_mtu (open_carrier setup)) ≡ (is_some setup && reads_open party run.said channel)
  opened_on held None at has = refl
  opened_on held (Some setup) at has =
      let (peer, there, stands, alive) = setup_stands held.stage setup has in
      opened_so held setup peer found_of stands alive
      (subst (λ (p : Option ℕ). IsReadBy policy held p found_of) there (subst (λ (h : Option Held). IsRead policy h found_of) at (channels-are_read policy list channel.own)))
      (options-are_awaited policy party list channel setup states (ap setup_on at ∙ has))

  opened_at : (held : Option Held) → held_at channel.own run.value ≡ held → is_some (option_map carrier_mtu (open_carrier (setup_on held))) ≡ (is_some (setup_on held) && reads_open party run.said channel)
  opened_at None at = refl
  opened_at (Some held) at = opened_on held (setup_of held.stage) at refl

  living : is_living found_of ≡ true → is_some (option_map carrier_mtu (open_carrier (setup_on (held_at channel.own run.value)))) ≡ reads_open party run.said channel
  living alive =
      opened_at (held_at channel.own run.value) refl
      ∙ ap (λ b. b && reads_open party run.said channel) (read_lives policy (held_at channel.own run.value) found_of (channels-are_read policy list channel.own) alive)

  opens : OpensAsSaid party run channel
  opens = record {
    living_is = living;
    held_is = opened_at (held_at channel.own run.value) refl;
    stays_is = stays_at policy party run.said channel (held_at channel.own run.value) found_of (channels-are_read policy list channel.own) living;
  }

pub open-is_what_is_said : OpenIsWhatIsSaid
open-is_what_is_said policy party list channel states = opens policy party list channel states
