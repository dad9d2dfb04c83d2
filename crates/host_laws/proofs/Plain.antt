-- No SDU waits in basic mode, but one that was just sent.
use Rattle.std.proofs.Common.{◌≡◌, ℕ, List, [], ◌∷◌, Bool, true, false, cond, eqb, find, Option, Some, None, option_map, refl, sym, ap, ◌∙◌, inl, inr}
use Rattle.std.specs.Option.{option_or}
use Rattle.shelf_model.specs.l2cap_config.specs.declared.wish.Mode.{Mode}
use Rattle.shelf_model.specs.l2cap_config.specs.declared.wish.Mode.TheVariants.{Basic, Enhanced}
use Rattle.shelf_model.specs.l2cap_config.specs.declared.wish.Agreed.{Agreed}
use Rattle.shelf_model.specs.l2cap_config.specs.declared.wish.Wish.{Wish}
use Rattle.shelf_model.specs.l2cap_config.specs.Agreement.{agreed_on}
use Rattle.shelf_model.specs.capture.specs.declared.flow.Flow.TheVariants.{Out}
use Rattle.push_laws.specs.link_talk.specs.Sayings.{Saying, Carried}
use Rattle.channel_laws.specs.channel_model.specs.declared.event.ChannelEvent.{ChannelEvent}
use Rattle.channel_laws.specs.channel_model.specs.Value.{Carrier, Plain, Retransmitting, Setup, Stage, Requested, Connected, Leaving, Closing, Crossed, Held, Channels}
use Rattle.channel_laws.specs.channel_model.specs.Policies.{Policy}
use Rattle.channel_laws.specs.channel_model.specs.Changing.{has_own, held_at, setup_of, is_open}
use Rattle.channel_laws.specs.channel_model.specs.Configuring.{carrier_by, bounded_agreement}
use Rattle.channel_laws.specs.channel_model.specs.Giving.{Given, Signal, Whole, Framed, some_carrier_gives, stage_gives, gives, held_gives, headed}
use Rattle.shelf_model.specs.ertm_model.specs.Giving.{next_frame}
use Rattle.shelf_model.specs.ertm_frames.specs.Frames.{PlainFrame}
use Rattle.channel_laws.specs.channel_model.proofs.Lookups.{own_of, Distinct, find-append, found-distinct}
use Rattle.channel_laws.specs.channel_model.proofs.Going.{IsAccepted, CarrierGoes, StageGoes, staged, Moves, IsFirst, new_held, Walks}
use Rattle.channel_laws.proofs.Sound.{at_each}

abbrev pub waits_plain : Carrier → Bool
waits_plain (Plain agreed None) = false
waits_plain (Plain agreed (Some sdu)) = true
waits_plain (Retransmitting machine) = false

abbrev pub plain_carrier : Option Carrier → Bool
plain_carrier None = false
plain_carrier (Some carrier) = waits_plain carrier

abbrev pub plain_setup : Option Setup → Bool
plain_setup None = false
plain_setup (Some setup) = plain_carrier setup.carrier

abbrev pub plain_at : Option Held → Bool
plain_at None = false
plain_at (Some held) = plain_setup (setup_of held.stage)

abbrev pub NoPlain : Channels → Type 0
NoPlain v = (own : ℕ) → plain_at (held_at own v) ≡ false

-- ---- what happens lets none wait

abbrev pub StaysSent : Carrier → Carrier → Type 0
StaysSent before after = waits_plain before ≡ false → waits_plain after ≡ false

new_plain : (mode : Mode) (agreed : Agreed) → waits_plain (carrier_by mode agreed) ≡ false
new_plain Basic agreed = refl
new_plain Enhanced agreed = refl

accepted_plain : (wish : Wish) (carrier : Carrier) → IsAccepted wish carrier → waits_plain carrier ≡ false
accepted_plain wish carrier accepted =
    let agreed = agreed_on wish accepted.options in ap waits_plain accepted.is ∙ new_plain agreed.mode (bounded_agreement agreed)

carrier_plain : (wish : Wish) (opened : Bool) (before after : Option Carrier) → CarrierGoes wish StaysSent opened before after → plain_carrier before ≡ false → plain_carrier after ≡ false
carrier_plain wish opened None None goes is = refl
carrier_plain wish opened None (Some after) goes is = accepted_plain wish after goes
carrier_plain wish opened (Some before) None goes is = absurd goes
carrier_plain wish opened (Some before) (Some after) (inl goes) is = goes is
carrier_plain wish opened (Some before) (Some after) (inr new) is = accepted_plain wish after new.1

stage_plain : (wish : Wish) (before : Stage) (after : Option Stage) (held : Held) (closed : Bool) → StageGoes wish StaysSent before after closed → plain_setup (setup_of before) ≡ false → plain_at (option_map (staged held) after) ≡ false
stage_plain wish before None held closed goes is = refl
stage_plain wish (Requested request) (Some (Requested again)) held closed goes is = refl
stage_plain wish (Requested request) (Some (Connected peer setup)) held closed goes is = ap plain_carrier goes.0
stage_plain wish (Requested request) (Some (Leaving peer setup other)) held closed goes is = absurd goes
stage_plain wish (Requested request) (Some (Closing peer other checked)) held closed goes is = refl
stage_plain wish (Requested request) (Some (Crossed peer other)) held closed goes is = refl
stage_plain wish (Connected peer setup) (Some (Requested request)) held closed goes is = refl
stage_plain wish (Connected peer setup) (Some (Connected at after)) held closed goes is = carrier_plain wish (is_open setup) setup.carrier after.carrier goes.1.carrier_goes is
stage_plain wish (Connected peer setup) (Some (Leaving at after request)) held closed goes is = ap (λ (s : Setup). plain_carrier s.carrier) goes.1 ∙ is
stage_plain wish (Connected peer setup) (Some (Closing at request checked)) held closed goes is = refl
stage_plain wish (Connected peer setup) (Some (Crossed at request)) held closed goes is = refl
stage_plain wish (Leaving peer setup request) (Some (Requested other)) held closed goes is = refl
stage_plain wish (Leaving peer setup request) (Some (Connected at after)) held closed goes is = absurd goes
stage_plain wish (Leaving peer setup request) (Some (Leaving at after other)) held closed goes is = carrier_plain wish (is_open setup) setup.carrier after.carrier goes.1.carrier_goes is
stage_plain wish (Leaving peer setup request) (Some (Closing at other checked)) held closed goes is = refl
stage_plain wish (Leaving peer setup request) (Some (Crossed at other)) held closed goes is = refl
stage_plain wish (Closing peer request checked) (Some (Requested other)) held closed goes is = refl
stage_plain wish (Closing peer request checked) (Some (Connected at after)) held closed goes is = absurd goes
stage_plain wish (Closing peer request checked) (Some (Leaving at after other)) held closed goes is = absurd goes
stage_plain wish (Closing peer request checked) (Some (Closing at other still)) held closed goes is = refl
stage_plain wish (Closing peer request checked) (Some (Crossed at other)) held closed goes is = refl
stage_plain wish (Crossed peer request) (Some (Requested other)) held closed goes is = refl
stage_plain wish (Crossed peer request) (Some (Connected at after)) held closed goes is = absurd goes
stage_plain wish (Crossed peer request) (Some (Leaving at after other)) held closed goes is = absurd goes
stage_plain wish (Crossed peer request) (Some (Closing at other checked)) held closed goes is = refl
stage_plain wish (Crossed peer request) (Some (Crossed at other)) held closed goes is = refl

abbrev pub GoesPlain : Channels → Channels → Type 0
GoesPlain v w = NoPlain v → NoPlain w

moves_plain : (policy : Policy) (v w : Channels) (held : Held) (after : Option Stage) (more : List ChannelEvent) → Moves policy StaysSent v w held after more → GoesPlain v w
moves_plain policy v w held after more moves none =
    at_each (λ n. plain_at (held_at n v) ≡ false) (λ n. plain_at (held_at n w) ≡ false) held.own
    (λ n apart was. ap plain_at (moves.others n apart) ∙ was)
    (ap plain_at moves.becomes ∙ stage_plain (policy.wish held.psm) held.stage after held _ moves.goes (sym (ap plain_at moves.found) ∙ none held.own))
    none

first_plain : (psm own : ℕ) (stage : Stage) → IsFirst stage → plain_at (let held = new_held psm own stage in Some held) ≡ false
first_plain psm own (Requested request) is = refl
first_plain psm own (Connected peer setup) is = ap (λ (s : Setup). plain_carrier s.carrier) is
first_plain psm own (Leaving peer setup request) is = absurd is
first_plain psm own (Closing peer request checked) is = absurd is
first_plain psm own (Crossed peer request) is = absurd is

either_plain : (found : Option Held) (new : Held) (here : Bool) → plain_at found ≡ false → plain_at (Some new) ≡ false → plain_at (option_or found (cond here (Some new) None)) ≡ false
either_plain None new true is now = now
either_plain None new false is now = refl
either_plain (Some held) new here is now = is

pub walks-plain : (policy : Policy) → Walks policy StaysSent GoesPlain
walks-plain policy = record {
  same = λ carrier is. is;
  still = λ v w held_is next_is events_are none own. ap (λ (hs : List Held). plain_at (find (has_own own) hs)) held_is ∙ none own;
  tells = λ v w event held_is next_is events_are other none own. ap (λ (hs : List Held). plain_at (find (has_own own) hs)) held_is ∙ none own;
  both = λ v u w first second none. second (first none);
  made = λ v w psm stage is held_is next_is events_are none own.
      ap (λ (hs : List Held). plain_at (find (has_own own) hs)) held_is
      ∙ (ap plain_at (find-append own_of own v.held (new_held psm v.next stage))
      ∙ either_plain (held_at own v) (new_held psm v.next stage) (eqb v.next own) (none own) (first_plain psm v.next stage is));
  moves = λ v w held after more moves. moves_plain policy v w held after more moves;
}

-- ---- what is given is no SDU

abbrev pub whole_said : Option Given → List Saying
whole_said None = []
whole_said (Some (Signal command)) = []
whole_said (Some (Whole peer sdu)) = Carried Out (headed peer sdu) ∷ []
whole_said (Some (Framed peer frame)) = []

none_whole : (carrier : Option Carrier) (peer : ℕ) → plain_carrier carrier ≡ false → whole_said (some_carrier_gives carrier peer) ≡ []
none_whole None peer is = refl
none_whole (Some (Plain agreed None)) peer is = refl
none_whole (Some (Plain agreed (Some sdu))) peer is = cc
none_whole (Some (Retransmitting machine)) peer is = by (next_frame machine)
  where
    by : (frame : Option PlainFrame) → whole_said (option_map (Framed peer) frame) ≡ []
    by None = refl
    by (Some frame) = refl

pub stage-whole : (stage : Stage) → plain_setup (setup_of stage) ≡ false → whole_said (stage_gives stage) ≡ []
stage-whole (Requested request) is = refl
stage-whole (Connected peer setup) is = none_whole setup.carrier peer is
stage-whole (Leaving peer setup request) is = none_whole setup.carrier peer is
stage-whole (Closing peer request checked) is = refl
stage-whole (Crossed peer request) is = refl

pub none-whole : (v : Channels) → Distinct own_of v.held → NoPlain v → whole_said (held_gives (find gives v.held)) ≡ []
none-whole v distinct none = by (find gives v.held) refl
  where
    by : (found : Option Held) → find gives v.held ≡ found → whole_said (held_gives found) ≡ []
    by None is = refl
    by (Some held) is = stage-whole held.stage (sym (ap plain_at (found-distinct own_of gives v.held held distinct is)) ∙ none held.own)
