-- A retransmission machine hears frames as long as its host states.
use Rattle.std.proofs.Common.{◌≡◌, ℕ, List, Bool, true, false, Option, Some, None, refl, ap, subst, ◌∙◌, inl, inr}
use Rattle.std.specs.Prelude.{find}
use Rattle.talk_laws.specs.l2cap_config.specs.declared.wish.Agreed.{Agreed}
use Rattle.talk_laws.specs.l2cap_config.specs.declared.wish.Mode.{Mode}
use Rattle.talk_laws.specs.l2cap_config.specs.declared.wish.Mode.TheVariants.{Basic, Enhanced}
use Rattle.talk_laws.specs.l2cap_config.specs.declared.wish.Wish.{Wish}
use Rattle.talk_laws.specs.l2cap_config.specs.Agreement.{agreed_on}
use Rattle.channel_model.specs.ertm_model.specs.Value.{Ertm}
use Rattle.channel_model.specs.Value.{Carrier, Plain, Retransmitting, Setup, Stage, Requested, Connected, Leaving, Closing, Crossed, Held, Channels, no_channels}
use Rattle.channel_model.specs.Policies.{Policy}
use Rattle.channel_model.specs.Changing.{has_own, is_open, setup_of}
use Rattle.channel_model.specs.Configuring.{bounded_agreement, carrier_by}
use Rattle.channel_model.specs.Carrying.{read_by}
use Rattle.channel_model.proofs.Going.{IsAccepted, CarrierGoes}
use Rattle.channel_model.proofs.Calling.{Sending, Giving}
use Rattle.own_channel_laws.specs.Agreements.{agreed_of}
use Rattle.own_channel_laws.proofs.Keeping.{OfCarrier, StageKeeps, HeldKeeps, AllKeep, Keeps, Carries}
use Rattle.own_channel_laws.proofs.Attending.{submits-aside, gives-aside, fires-aside}
use Rattle.own_channel_laws.proofs.HandedUp.{heard-agreed}

-- what is agreed on is never changed
abbrev pub SameAgreed : Carrier → Carrier → Type 0
SameAgreed before after = agreed_of after ≡ agreed_of before

abbrev pub Stated : OfCarrier
Stated wish leaving opened None = Unit {0}
Stated wish leaving opened (Some carrier) = (agreed_of carrier).receive_mps ≡ wish.mps

new_stated : (wish : Wish) (carrier : Carrier) → IsAccepted wish carrier → (agreed_of carrier).receive_mps ≡ wish.mps
new_stated wish carrier accepted = ap (λ c. (agreed_of c).receive_mps) accepted.is ∙ by wish.mode
  where
    by : (mode : Mode) → (agreed_of (carrier_by mode (bounded_agreement (agreed_on wish accepted.options)))).receive_mps ≡ wish.mps
    by Basic = refl
    by Enhanced = refl

goes_stated : (wish : Wish) (leaving opened after_opened : Bool) (before after : Option Carrier) → CarrierGoes wish SameAgreed opened before after → Stated wish leaving opened before → Stated wish leaving after_opened after
goes_stated wish leaving opened after_opened before None goes stated = tt
goes_stated wish leaving opened after_opened None (Some after) goes stated = new_stated wish after goes
goes_stated wish leaving opened after_opened (Some before) (Some after) (inl same) stated = ap (λ (a : Agreed). a.receive_mps) same ∙ stated
goes_stated wish leaving opened after_opened (Some before) (Some after) (inr (shut, accepted)) stated = new_stated wish after accepted

pub keeps-stated : (policy : Policy) → Keeps policy SameAgreed (λ own. Stated)
keeps-stated policy = record {
  same = λ carrier. refl;
  goes = λ own psm leaving opened after_opened before after shut goes stated. goes_stated (policy.wish psm) leaving opened after_opened before after goes stated;
  leaves = λ own psm opened carrier stated. leaves (policy.wish psm) opened carrier stated;
}
  where
    leaves : (wish : Wish) (opened : Bool) (carrier : Option Carrier) → Stated wish false opened carrier → Stated wish true opened carrier
    leaves wish opened None stated = tt
    leaves wish opened (Some carrier) stated = stated

pub carries-stated : Carries SameAgreed
carries-stated = record {
  sends = sends;
  gives = gives;
  hears = λ pdu machine open'. heard-agreed (read_by machine pdu) machine;
  fires = λ machine open'. (fires-aside machine open').agreed_same;
}
  where
    sends : (sdu : List ℕ) → Sending SameAgreed sdu
    sends sdu (Plain agreed waiting) = refl
    sends sdu (Retransmitting machine) = (submits-aside sdu machine).agreed_same

    gives : Giving SameAgreed
    gives (Plain agreed waiting) = refl
    gives (Retransmitting machine) = (gives-aside machine).agreed_same

abbrev pub AllStated : Policy → Channels → Type 0
AllStated policy v = AllKeep policy (λ own. Stated) v

pub none-stated : (policy : Policy) → AllStated policy no_channels
none-stated policy = record { at = λ own. tt; fresh = λ own psm above. tt; below = λ own above. refl }

-- of a channel that is there
pub stated-at : (policy : Policy) (v : Channels) (own : ℕ) (held : Held) (setup : Setup) (machine : Ertm) → AllStated policy v → find (has_own own) v.held ≡ Some held → setup_of held.stage ≡ Some setup → setup.carrier ≡ Some (Retransmitting machine)
    → machine.agreed.receive_mps ≡ (policy.wish held.psm).mps
stated-at policy v own held setup machine all found is carrier = by held.stage is (subst (HeldKeeps policy Stated) found (all.at own))
  where
    at_carrier : (wish : Wish) (leaving opened : Bool) (s : Setup) → s ≡ setup → Stated wish leaving opened s.carrier → machine.agreed.receive_mps ≡ wish.mps
    at_carrier wish leaving opened s same stated = subst (Stated wish leaving opened) (ap (λ (x : Setup). x.carrier) same ∙ carrier) stated

    by : (stage : Stage) → setup_of stage ≡ Some setup → StageKeeps Stated (policy.wish held.psm) stage → machine.agreed.receive_mps ≡ (policy.wish held.psm).mps
    by (Requested request) to kept = cc
    by (Connected peer s) to kept = let same : s ≡ setup = cc in at_carrier (policy.wish held.psm) false (is_open s) s same kept
    by (Leaving peer s request) to kept = let same : s ≡ setup = cc in at_carrier (policy.wish held.psm) true (is_open s) s same kept
    by (Closing peer request checked) to kept = cc
    by (Crossed peer request) to kept = cc
