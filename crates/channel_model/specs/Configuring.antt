-- How a request of the peer for options of a channel is judged, and what follows from its answer (Core 5.1, Volume 3 Part A,
-- 4.4, 4.5, 5 and 7.1).
use Rattle.std.specs.Prelude.{ℕ, ◌+◌, ◌==◌, ◌%◌, min, nat_le, Bool, true, false, List, Option, Some, None, is_some, Result, Ok, Err, if◌then◌else◌}
use Rattle.l2cap_config.specs.declared.options.Options.{Options}
use Rattle.l2cap_config.specs.declared.options.ConfigRefusal.{ConfigRefusal}
use Rattle.l2cap_config.specs.declared.wish.Mode.{Mode}
use Rattle.l2cap_config.specs.declared.wish.Mode.TheVariants.{Basic, Enhanced}
use Rattle.l2cap_config.specs.declared.wish.Wish.{Wish}
use Rattle.l2cap_config.specs.declared.wish.Agreed.{Agreed}
use Rattle.l2cap_config.specs.declared.agreement.ConfigAnswer.{ConfigAnswer}
use Rattle.l2cap_config.specs.declared.agreement.ConfigAnswer.TheVariants.{Accept, Unacceptable, Unknown}
use Rattle.l2cap_config.specs.Items.{no_options, joined}
use Rattle.l2cap_config.specs.Reading.{options_read}
use Rattle.l2cap_config.specs.Agreement.{answered, agreed_on}
use Rattle.ertm_model.specs.Value.{new_ertm}
use Rattle.channel_model.specs.declared.errand.Errand.TheVariants.{Configuration}
use Rattle.channel_model.specs.declared.event.ChannelEvent.TheVariants.{Opened}
use Rattle.channel_model.specs.declared.event.CloseReason.TheVariants.{NoAgreement}
use Rattle.channel_model.specs.Value.{Own, Unasked, Asking, Granted, Carrier, Plain, Retransmitting, Setup, Stage, Requested, Connected, Leaving, Closing, Crossed, Held, Channels}
use Rattle.channel_model.specs.Policies.{Policy}
use Rattle.channel_model.specs.Changing.{held_at, with_setup, to_setup, is_open, forgets, tells}
use Rattle.channel_model.specs.Asking.{first_options, asks_options}
use Rattle.channel_model.specs.Closing.{closes}

-- ---- the verdict

pub data Verdict : Type 0 where
  -- there is no such channel, or it is only asked for
  NoChannel : Verdict
  -- the channel is open or was closed
  TooLate : (peer : ℕ) → Verdict
  -- the octets are no list of whole options
  Unreadable : (peer : ℕ) → Verdict
  -- more options follow; all so far
  Incomplete : (peer : ℕ) (options : Options) → Verdict
  -- all options, and what is answered to them
  Judged : (peer : ℕ) (options : Options) (answer : ConfigAnswer) → Verdict

-- bit 0 of the flags says that more options follow (4.4); the parts are taken together as one list
abbrev pub judged_part : Bool → (peer : ℕ) → Wish → Options → Verdict
judged_part true peer wish options = Incomplete peer options
judged_part false peer wish options = Judged peer options (answered wish options)

abbrev pub judged_read : (peer flags : ℕ) → Wish → Setup → Result Options ConfigRefusal → Verdict
judged_read peer flags wish setup (Ok options) = judged_part (flags % 2 == 1) peer wish (joined setup.parts options)
judged_read peer flags wish setup (Err refusal) = Unreadable peer

-- on an open channel nothing is agreed on anew (this project's own)
abbrev pub judged_setup : (peer flags : ℕ) → Wish → Setup → List ℕ → Verdict
judged_setup peer flags wish setup octets = if is_open setup then TooLate peer else judged_read peer flags wish setup (options_read octets)

abbrev pub judged_stage : Stage → Wish → (flags : ℕ) → List ℕ → Verdict
judged_stage (Requested request) wish flags octets = NoChannel
judged_stage (Connected peer setup) wish flags octets = judged_setup peer flags wish setup octets
judged_stage (Leaving peer setup request) wish flags octets = judged_setup peer flags wish setup octets
judged_stage (Closing peer request checked) wish flags octets = TooLate peer
judged_stage (Crossed peer request) wish flags octets = TooLate peer

abbrev pub verdict_on : Option Held → Policy → (flags : ℕ) → List ℕ → Verdict
verdict_on None policy flags octets = NoChannel
verdict_on (Some held) policy flags octets = judged_stage held.stage (policy.wish held.psm) flags octets

-- of a request for options of the channel of an own endpoint
abbrev pub verdict : Policy → (own flags : ℕ) → List ℕ → Channels → Verdict
verdict policy own flags octets v = verdict_on (held_at own v) policy flags octets

-- ---- acceptance

-- an SDU that is sent has at most 32,767 octets (this project's own)
abbrev pub bounded_agreement : Agreed → Agreed
bounded_agreement agreed = record agreed { send_mtu = min agreed.send_mtu 32767 }

abbrev pub carrier_by : Mode → Agreed → Carrier
carrier_by Basic agreed = Plain agreed None
carrier_by Enhanced agreed = Retransmitting (new_ertm agreed)

abbrev pub new_carrier : Agreed → Carrier
new_carrier agreed = carrier_by agreed.mode (bounded_agreement agreed)

-- options that are accepted take the place of any before
abbrev pub accepted_setup : Wish → Options → Setup → Setup
accepted_setup wish options setup = record setup { parts = no_options; carrier = Some (new_carrier (agreed_on wish options)) }

-- the own request goes out behind the first acceptance; where it was accepted already the channel is open
abbrev pub accepts_with : Own → Wish → Held → Setup → Channels → Channels
accepts_with Unasked wish held setup v = asks_options held setup (first_options wish) v
accepts_with (Asking request options) wish held setup v = to_setup held setup v
accepts_with Granted wish held setup v = tells (Opened held.own held.psm) (to_setup held setup v)

abbrev pub accepts : Wish → Options → Held → Setup → Channels → Channels
accepts wish options held setup v = accepts_with setup.own wish held (accepted_setup wish options setup) v

-- ---- what follows

-- the parts before are forgotten
abbrev pub without_parts : Setup → Setup
without_parts setup = record setup { parts = no_options }

abbrev pub refused_setup : Setup → Setup
refused_setup setup = record (without_parts setup) { refused = setup.refused + 1 }

-- the third request that is not acceptable closes (this project's own)
abbrev pub refuses : Held → Setup → Channels → Channels
refuses held setup v = if nat_le 3 setup.refused then closes NoAgreement (with_setup held setup) (to_setup held setup v) else to_setup held setup v

abbrev pub follows_answer : ConfigAnswer → Wish → Options → Held → Setup → Channels → Channels
follows_answer (Accept given) wish options held setup v = accepts wish options held setup v
follows_answer (Unacceptable refusal given) wish options held setup v = refuses held (refused_setup setup) v
follows_answer Unknown wish options held setup v = to_setup held (without_parts setup) v

abbrev pub follows_verdict : Verdict → Wish → Held → Setup → Channels → Channels
follows_verdict NoChannel wish held setup v = v
follows_verdict (TooLate peer) wish held setup v = v
follows_verdict (Unreadable peer) wish held setup v = to_setup held (without_parts setup) v
follows_verdict (Incomplete peer options) wish held setup v = to_setup held (record setup { parts = options }) v
follows_verdict (Judged peer options answer) wish held setup v = follows_answer answer wish options held setup v

-- ---- the own request is accepted

abbrev pub opens_if : Bool → Held → Channels → Channels
opens_if true held v = tells (Opened held.own held.psm) v
opens_if false held v = v

abbrev pub granted_setup : Setup → Setup
granted_setup setup = record setup { own = Granted }

-- where the peer's request was accepted the channel is open now
abbrev pub grants : Held → Setup → Channels → Channels
grants held setup v = opens_if (is_some setup.carrier) held (to_setup held (granted_setup setup) (forgets (Configuration held.own) v))
