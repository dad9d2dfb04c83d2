-- A PDU comes in on a channel.
use Rattle.std.proofs.Common.{◌≡◌, ℕ, List, [], fold, Bool, true, false, cond, eqb, Option, Some, None, refl, sym, ap, subst, ◌∙◌}
use Rattle.std.specs.Prelude.{find, option_map}
use Rattle.channel_model.specs.ertm_model.specs.declared.reason.ErtmReason.{ErtmReason}
use Rattle.channel_model.specs.ertm_model.specs.Value.{Ertm}
use Rattle.talk_laws.specs.l2cap_config.specs.declared.wish.Wish.{Wish}
use Rattle.talk_laws.specs.link_talk.specs.Setups as read
use Rattle.talk_laws.specs.link_talk.specs.Channels.{is_there, Reading, read_on}
use Rattle.channel_model.specs.Value.{Own, Unasked, Asking, Granted, Carrier, Plain, Retransmitting, Setup, Stage, Requested, Connected, Leaving, Closing, Crossed, Held, Channels}
use Rattle.channel_model.specs.Policies.{Policy}
use Rattle.channel_model.specs.Changing.{has_own, held_at, setup_of, to_setup, stage_with, with_setup}
use Rattle.channel_model.specs.Configuring.{grants, granted_setup}
use Rattle.channel_model.specs.Carrying.{reason_of, settles_machine, with_machine, machine_heard, read_by, carries, is_taken_with, opens_with, takes_with, takes_on, takes_held, takes}
use Rattle.own_channel_laws.specs.OwnTalk.{asked_between, said_of, newest}
use Rattle.channel_model.specs.Giving.{configuration_at}
use Rattle.own_channel_laws.specs.Views.{peer_of, life_of, asked_mode, carrier_mode}
use Rattle.channel_model.proofs.Lookups.{own_of, found-has}
use Rattle.own_channel_laws.proofs.Sound.{Agrees, CarrierIs, Sound}
use Rattle.own_channel_laws.proofs.Silent.{Turns, turns-sound}
use Rattle.own_channel_laws.proofs.Asking.{closes-sound}
use Rattle.own_channel_laws.proofs.Questions.{asked-none}
use Rattle.own_channel_laws.proofs.Consenting.{Talks}
use Rattle.own_channel_laws.proofs.Responses.{turns-to, grants-turns, grants-identifier}
use Rattle.own_channel_laws.proofs.Settling.{TalksOr, talks-at, nothing-follows}

-- another machine in the place of one
machine-agrees : (wish : Wish) (setup : Setup) (machine after : Ertm) (said : read.Setup) → setup.carrier ≡ Some (Retransmitting machine) → Agrees wish setup said → (let now : Setup = record setup { carrier = Some (Retransmitting after) } in Agrees wish now said)
machine-agrees wish setup machine after said is agrees = record {
  set_up = record { asked_is = agrees.set_up.asked_is; accepted_is = agrees.set_up.accepted_is ∙ ap (option_map carrier_mode) is };
  states = agrees.states;
  carrier_is = subst (CarrierIs wish) is agrees.carrier_is;
  parts_are = agrees.parts_are;
}

-- the channel that has changed talks on
still-talks : (v u : Channels) (held : Held) (peer : ℕ) (setup after : Setup) → Talks v held peer setup → find (has_own held.own) u.held ≡ Some (with_setup held after)
    → ((s t : Setup) → stage_with t (stage_with s held.stage) ≡ stage_with t held.stage) → Talks u (with_setup held after) peer after
still-talks v u held peer setup after talks found twice = record {
  found = found;
  peer_is = talks.peer_with after;
  setup_is = talks.setup_with after;
  there = ap is_there (talks.life_with after) ∙ talks.there;
  peer_with = λ s. ap peer_of (twice after s) ∙ talks.peer_with s;
  life_with = λ s. ap life_of (twice after s) ∙ (talks.life_with s ∙ sym (talks.life_with after));
  setup_with = λ s. ap setup_of (twice after s) ∙ talks.setup_with s;
  request_with = λ s. ap configuration_at (twice after s) ∙ talks.request_with s;
}

staged_twice : (stage : Stage) (s t : Setup) → stage_with t (stage_with s stage) ≡ stage_with t stage
staged_twice (Requested request) s t = refl
staged_twice (Connected peer setup) s t = refl
staged_twice (Leaving peer setup request) s t = refl
staged_twice (Closing peer request checked) s t = refl
staged_twice (Crossed peer request) s t = refl

pub carried-by : (policy : Policy) (r : Reading) (u : Channels) (held : Held) (peer : ℕ) (setup : Setup) (machine : Ertm) (closed : Option ErtmReason) (before : Ertm) → setup.carrier ≡ Some (Retransmitting before) → Talks u held peer setup → Sound policy r u
    → (let w : Channels = settles_machine closed machine held setup u in Sound policy (fold read_on r (asked_between u w)) w)
carried-by policy r u held peer setup machine None before is talks sound =
    let after : Setup = record setup { carrier = Some (Retransmitting machine) } in
    let w : Channels = to_setup held after u in
    subst (λ rest. Sound policy (fold read_on r rest) w) (sym (asked-none u w refl))
    (turns-sound policy r u w held (with_setup held after) peer (turns-to policy u w held peer setup after talks refl refl refl refl (λ said agrees. machine-agrees (policy.wish held.psm) setup before machine said is agrees)) sound)
carried-by policy r u held peer setup machine (Some reason) before is talks sound = closes-sound policy r u held peer (reason_of reason) held.stage refl talks.peer_is talks.found sound

-- what an open channel makes of it
carries-sound : (policy : Policy) (r : Reading) (v u : Channels) (pdu : List ℕ) (held : Held) (peer : ℕ) (setup : Setup) (carrier : Carrier) → setup.carrier ≡ Some carrier → u.identifier ≡ v.identifier → Talks u held peer setup → Sound policy r u
    → (let w : Channels = carries carrier pdu held setup u in Sound policy (fold read_on r (asked_between v w)) w)
carries-sound policy r v u pdu held peer setup (Plain agreed waiting) is same talks sound = subst (λ rest. Sound policy (fold read_on r rest) u) (sym (asked-none v u same)) sound
carries-sound policy r v u pdu held peer setup (Retransmitting machine) is same talks sound =
    let after : Ertm = machine_heard (read_by machine pdu) machine in
    let w : Channels = with_machine after held setup u in
    subst (λ n. Sound policy (fold read_on r (cond (eqb w.identifier n) [] (said_of (newest w.queue) w))) w) same
    (carried-by policy r u held peer setup after after.closed machine is talks sound)

granted_same : (setup : Setup) → setup.own ≡ Granted → granted_setup setup ≡ setup
granted_same setup is = ap (λ (o : Own). let s : Setup = record setup { own = o } in s) (sym is)

same_stage : (stage : Stage) (setup : Setup) → setup_of stage ≡ Some setup → setup.own ≡ Granted → stage_with (granted_setup setup) stage ≡ stage
same_stage (Requested request) setup is own = cc
same_stage (Connected peer s) setup is own = let same : s ≡ setup = cc in ap (Connected peer) (granted_same setup own ∙ sym same)
same_stage (Leaving peer s request) setup is own = let same : s ≡ setup = cc in ap (λ x. Leaving peer x request) (granted_same setup own ∙ sym same)
same_stage (Closing peer request checked) setup is own = cc
same_stage (Crossed peer request) setup is own = cc

opens-sound : (policy : Policy) (r : Reading) (v : Channels) (pdu : List ℕ) (held : Held) (peer : ℕ) (setup : Setup) (carrier : Carrier) (own : Own) (taken : Bool) → setup.own ≡ own → setup.carrier ≡ Some carrier → is_taken_with own carrier pdu ≡ taken → Talks v held peer setup → Sound policy r v
    → (let w : Channels = cond taken (carries carrier pdu (with_setup held (granted_setup setup)) (granted_setup setup) (opens_with own held setup v)) v in Sound policy (fold read_on r (asked_between v w)) w)
opens-sound policy r v pdu held peer setup carrier own false own_is is takes talks sound = nothing-follows policy r v sound
opens-sound policy r v pdu held peer setup carrier Unasked true own_is is takes talks sound = cc
opens-sound policy r v pdu held peer setup carrier (Asking request options) true own_is is takes talks sound =
    let u : Channels = grants held setup v in
    let turns : Turns policy v u held (with_setup held (granted_setup setup)) peer = grants-turns policy v held peer setup talks (ap (asked_mode (policy.wish held.psm)) own_is) in
    carries-sound policy r v u pdu (with_setup held (granted_setup setup)) peer (granted_setup setup) carrier is (grants-identifier v held setup)
    (still-talks v u held peer setup (granted_setup setup) talks turns.found_after (λ s t. staged_twice held.stage s t))
    (turns-sound policy r v u held (with_setup held (granted_setup setup)) peer turns sound)
opens-sound policy r v pdu held peer setup carrier Granted true own_is is takes talks sound =
    let same : with_setup held (granted_setup setup) ≡ held = ap (λ (s : Stage). let h : Held = record held { stage = s } in h) (same_stage held.stage setup talks.setup_is own_is) in
    carries-sound policy r v v pdu (with_setup held (granted_setup setup)) peer (granted_setup setup) carrier is refl
    (still-talks v v held peer setup (granted_setup setup) talks (talks.found ∙ ap Some (sym same)) (λ s t. staged_twice held.stage s t)) sound

takes-sound : (policy : Policy) (r : Reading) (v : Channels) (pdu : List ℕ) (held : Held) (peer : ℕ) (setup : Setup) (carrier : Option Carrier) → setup.carrier ≡ carrier → Talks v held peer setup → Sound policy r v
    → (let w : Channels = takes_with carrier pdu held setup v in Sound policy (fold read_on r (asked_between v w)) w)
takes-sound policy r v pdu held peer setup None is talks sound = nothing-follows policy r v sound
takes-sound policy r v pdu held peer setup (Some carrier) is talks sound = opens-sound policy r v pdu held peer setup carrier setup.own (is_taken_with setup.own carrier pdu) refl is refl talks sound

takes-if : (policy : Policy) (r : Reading) (v : Channels) (pdu : List ℕ) (held : Held) (setup : Option Setup) → TalksOr v held setup → Sound policy r v → (let w : Channels = takes_on setup pdu held v in Sound policy (fold read_on r (asked_between v w)) w)
takes-if policy r v pdu held None talks sound = nothing-follows policy r v sound
takes-if policy r v pdu held (Some setup) (peer, talks) sound = takes-sound policy r v pdu held peer setup setup.carrier refl talks sound

takes-of : (policy : Policy) (r : Reading) (v : Channels) (pdu : List ℕ) (own : ℕ) (found : Option Held) → find (has_own own) v.held ≡ found → Sound policy r v → (let w : Channels = takes_held found pdu v in Sound policy (fold read_on r (asked_between v w)) w)
takes-of policy r v pdu own None is sound = nothing-follows policy r v sound
takes-of policy r v pdu own (Some held) is sound =
    let same : held.own ≡ own = found-has own_of own v.held held is in
    takes-if policy r v pdu held (setup_of held.stage) (talks-at v held held.stage refl (ap (λ n. find (has_own n) v.held) same ∙ is)) sound

-- a PDU on a channel, of whatever is held
pub takes-pdu : (policy : Policy) (r : Reading) (v : Channels) (own : ℕ) (pdu : List ℕ) → Sound policy r v → (let w : Channels = takes own pdu v in Sound policy (fold read_on r (asked_between v w)) w)
takes-pdu policy r v own pdu sound = takes-of policy r v pdu own (held_at own v) refl sound
