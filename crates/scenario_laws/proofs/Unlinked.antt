-- A host without a link waits for nothing: it has no channels, and its profile asks for none.
use Rattle.std.proofs.Common.{◌≡◌, ℕ, zero, suc, ◌||◌, Bool, true, false, List, [], ◌∷◌, Some, is_some, refl, sym, ap, ap₂, subst, ◌∙◌, if◌then◌else◌}
use Rattle.host_laws.specs.channel_model.specs.Value.{Channels, no_channels}
use Rattle.host_laws.specs.channel_model.specs.Calls.{armed, has_fcs}
use Rattle.host_laws.specs.channel_model.specs.Giving.{next_given}
use Rattle.host_laws.specs.channel_model.specs.Timing.{timed_out}
use Rattle.host_laws.specs.link_talk.specs.declared.party.Party.{Party}
use Rattle.host_laws.specs.world_model.specs.Machines.{Up, Down, News, Linked, Failed, Heard, TimerFired, Cancelled, Opening}
use Rattle.host_laws.specs.world_model.specs.Talks.{Talk}
use Rattle.host_laws.specs.host_model.specs.Circumstances.{Circumstance}
use Rattle.host_laws.specs.host_model.specs.Hosts.{Host, settles, strides, goes_by, drives, most_steps, tells_events, tells_each, ready, hears_news, hear, says}
use Rattle.host_laws.specs.host_model.specs.Profiles.{Profile}
use Rattle.host_laws.specs.host_model.specs.Machines.{upper}
use Rattle.host_laws.specs.Acts.{Act, Hears, Says, Does, Acting}
use Rattle.host_laws.specs.OverLinks.{is_up_behind, IsTimely, AreInTurn}
use Rattle.host_laws.proofs.Turning.{up_behind}
use Rattle.scenario_laws.specs.Plain.{TellsOf}
use Rattle.scenario_laws.proofs.Acting.{IsAside, Acted}

-- no channels, and the profile as it is without a link
pub record IsOff {P : Type 0} (Q : P → Type 0) (channels : Channels) (profile : P) : Type 0 where
  pub channels_are : channels ≡ no_channels
  pub profile_is : Q profile

-- what is so of a profile while no link is up: it does not touch the channels
pub record Keeps {P : Type 0} (A : Profile P) (Q : P → Type 0) : Type 0 where
  pub first : Q A.first
  pub given : (circumstances : List Circumstance) (p : P) → Q p → Q (A.given circumstances p)
  pub down : (circumstances : List Circumstance) (reason : ℕ) (p : P) → Q (A.told circumstances (Linked (Down reason)) p)
  pub aside : (circumstances : List Circumstance) (news : News) (p : P) → IsAside news → Q p → Q (A.told circumstances news p)
  pub sent : (p : P) → Q p → Q (A.sent no_channels p)
  pub steps : (p : P) → Q p → Q (A.steps no_channels p).profile × ((A.steps no_channels p).channels ≡ no_channels)
  pub quiet : (p : P) → Q p → A.armed p ≡ false

module _ {P : Type 0} (A : Profile P) (Q : P → Type 0) (keeps : Keeps A Q) where
  abbrev pub Off : Host P → Type 0
  Off host = IsOff Q host.channels host.profile

  tells_off : (host : Host P) → Off host → Off (tells_events A host)
  tells_off host off = record {
    channels_are = ap (λ (v : Channels). record v { events = [] }) off.channels_are;
    profile_is = subst (λ (v : Channels). Q (tells_each A v.events v host.profile)) (sym off.channels_are) off.profile_is;
  }

  settles_off : (host : Host P) → Off host → Off (settles A host)
  settles_off host off = record {
    channels_are = off.channels_are;
    profile_is = subst (λ (v : Channels). Q (A.sent v host.profile)) (sym off.channels_are) (keeps.sent host.profile off.profile_is);
  }

  strides_off : (host : Host P) → Off host → Off (strides A (A.steps host.channels host.profile) host)
  strides_off host off =
      let (profile_is, channels_are) = keeps.steps host.profile off.profile_is in
      tells_off (record host { channels = (A.steps host.channels host.profile).channels; profile = (A.steps host.channels host.profile).profile })
      (subst (λ (v : Channels). IsOff Q (A.steps v host.profile).channels (A.steps v host.profile).profile) (sym off.channels_are) (record { channels_are = channels_are; profile_is = profile_is }))

  more_off : (more : Host P → Host P) (test : Bool) (host : Host P) → ((next : Host P) → Off next → Off (more next)) → Off host → (let stride = A.steps host.channels host.profile in Off (if test then more (strides A stride host) else strides A stride host))
  more_off more true host goes off = goes (strides A (A.steps host.channels host.profile) host) (strides_off host off)
  more_off more false host goes off = strides_off host off

  goes_off : (more : Host P → Host P) (test : Bool) (host : Host P) → ((next : Host P) → Off next → Off (more next)) → Off host → Off (if test then host else goes_by A more (A.steps host.channels host.profile) host)
  goes_off more true host goes off = off
  goes_off more false host goes off = more_off more (A.steps host.channels host.profile).more host goes off

  drives_off : (count : ℕ) (host : Host P) → Off host → Off (drives A count host)
  unfolding drives
  drives_off zero host off = settles_off host off
  drives_off (suc count) host off = let now = settles A host in goes_off (λ next. drives A count next) (is_some (next_given now.channels)) now (λ next. drives_off count next) (settles_off host off)

  -- ---- what it hears

  told_off : (circumstances : List Circumstance) (news : News) (host : Host P) → IsAside news → Off host → IsOff Q host.channels (A.told circumstances news host.profile)
  told_off circumstances news host aside off = record { channels_are = off.channels_are; profile_is = keeps.aside circumstances news host.profile aside off.profile_is }

  timed_off : (host : Host P) → Off host → Off (tells_events A (record host { channels = timed_out A.policy host.channels }))
  timed_off host off = tells_off (record host { channels = timed_out A.policy host.channels }) (record { channels_are = ap (timed_out A.policy) off.channels_are; profile_is = off.profile_is })

  hears_off : (circumstances : List Circumstance) (news : News) (host : Host P) → (let one : Act Circumstance = Hears circumstances news in IsTimely false one × (is_up_behind false one ≡ false)) → Off host → Off (hears_news A circumstances news host)
  hears_off circumstances (Linked Up) host (timely, down) off = cc
  hears_off circumstances (Linked (Down reason)) host so off = record { channels_are = refl; profile_is = keeps.down circumstances reason _ }
  hears_off circumstances (Failed status) host so off = told_off circumstances (Failed status) host tt off
  hears_off circumstances (Heard pdu) host (timely, down) off = cc
  hears_off circumstances TimerFired host so off = told_off circumstances TimerFired (tells_events A (record host { channels = timed_out A.policy host.channels })) tt (timed_off host off)
  hears_off circumstances Cancelled host so off = told_off circumstances Cancelled host tt off
  hears_off circumstances (Opening name) host so off = told_off circumstances (Opening name) host tt off

  ready_off : (circumstances : List Circumstance) (host : Host P) → Off host → Off (ready A circumstances host)
  ready_off circumstances host off = record { channels_are = off.channels_are; profile_is = keeps.given circumstances host.profile off.profile_is }

  -- where its link goes down it has none, whatever it had
  ends_off : (circumstances : List Circumstance) (reason : ℕ) (host : Host P) → Off (hear A circumstances (Linked (Down reason)) host)
  ends_off circumstances reason host = drives_off most_steps _ (record { channels_are = refl; profile_is = keeps.down circumstances reason _ })

  hear_off : (circumstances : List Circumstance) (news : News) (host : Host P) → (let one : Act Circumstance = Hears circumstances news in IsTimely false one × (is_up_behind false one ≡ false)) → Off host → Off (hear A circumstances news host)
  hear_off circumstances news host so off = drives_off most_steps (hears_news A circumstances news (ready A circumstances host)) (hears_off circumstances news (ready A circumstances host) so (ready_off circumstances host off))

  -- without a channel it says nothing
  pub says_none : (host next : Host P) (pdu : List ℕ) → Off host → (upper A).next host ≡ Some (pdu, next) → ⊥
  says_none host next pdu off is = let none = subst (λ (v : Channels). says A (next_given v) host.may_say host ≡ Some (pdu, next)) off.channels_are is in cc

  pub act_off : (act : Act Circumstance) (up : Bool) (old mid : Host P) → Does (upper A) act old mid → IsTimely up act → (up ≡ false → Off old) → is_up_behind up act ≡ false → Off mid
  act_off (Hears gifts (Linked (Down reason))) up old mid does timely off down = subst Off (sym does) (ends_off gifts reason old)
  act_off (Says pdu) up old mid does timely off down = absurd (says_none old mid pdu (off down) does)
  act_off (Hears gifts (Linked Up)) up old mid does timely off down = cc
  act_off (Hears gifts (Failed status)) up old mid does timely off down = subst Off (sym does) (hear_off gifts (Failed status) old (tt, refl) (off down))
  act_off (Hears gifts (Heard pdu)) up old mid does timely off down = let never : true ≡ false = sym timely ∙ down in cc
  act_off (Hears gifts TimerFired) up old mid does timely off down = subst Off (sym does) (hear_off gifts TimerFired old (tt, refl) (off down))
  act_off (Hears gifts Cancelled) up old mid does timely off down = subst Off (sym does) (hear_off gifts Cancelled old (tt, refl) (off down))
  act_off (Hears gifts (Opening name)) up old mid does timely off down = subst Off (sym does) (hear_off gifts (Opening name) old (tt, refl) (off down))

  pub acts_off : (acts : List (Act Circumstance)) (up : Bool) (old now : Host P) → Acting (upper A) acts old now → AreInTurn (upper A) up acts old → (up ≡ false → Off old) → up_behind up acts ≡ false → Off now
  acts_off [] up old now same turn off down = subst Off (sym same) (off down)
  acts_off (act ∷ acts) up old now (mid, does, rest) turn off down =
      acts_off acts (is_up_behind up act) mid now rest (turn.1 mid does) (λ still. act_off act up old mid does turn.0.timely off still) down

  pub none_told : (party : Party) (now : Host P) (talk : List Talk) → Acted (upper A) false now [] talk → TellsOf A party [] now
  none_told party now talk acted =
      let over = acted.went.went.over in
      let there = acts_off over.acts false (upper A).first acted.mid over.acting over.in_turn (λ down. record { channels_are = refl; profile_is = keeps.first }) acted.went.went.up_is in
      let off : Off now = subst Off (sym acted.says) there in
      record {
        armed_is = ap₂ (λ (x y : Bool). x || y) (ap armed off.channels_are) (keeps.quiet now.profile off.profile_is);
        checks_are = λ own. ap (has_fcs own) off.channels_are;
      }
