-- A retransmission machine has heard the frames that came in on its channel.
use Rattle.std.proofs.Common.{◌≡◌, ℕ, ◌≤◌, List, [], ◌∷◌, ◌++◌, length, Bool, true, false, cond, ◌||◌, not, eqb, Option, Some, None, refl, sym, ap, subst, ◌∙◌, ◌⊎◌, inl, inr, arith}
use Rattle.std.specs.Prelude.{min, nat_lt, nat_le}
use Rattle.std.proofs.lemmas.Bool.{ltb-false}
use Rattle.talk_laws.specs.ertm_frames.specs.Reading.{frames_in}
use Rattle.channel_model.specs.ertm_model.specs.declared.reason.ErtmReason.TheVariants.{RetryLimit}
use Rattle.channel_model.specs.ertm_model.specs.Value.{Ertm, Kept, Poll, NoPoll, Due, Waits, new_ertm}
use Rattle.channel_model.specs.ertm_model.specs.Submitting.{is_busy, taking, submitted}
use Rattle.channel_model.specs.ertm_model.specs.Giving.{Giving, PollAnswer, Acknowledgement, Rejection, Polling, Again, New, giving, after_giving, after_by, after_frame, closing, polling, first_poll, poll_timed, open_timed, timed}
use Rattle.channel_model.specs.ertm_model.specs.Runs.{Event, Submits, Gives, Fires, Course, new_course, given, happens, all_happen}
use Rattle.talk_laws.specs.l2cap_config.specs.declared.agreement.ConfigAnswer.{ConfigAnswer}
use Rattle.talk_laws.specs.l2cap_config.specs.declared.agreement.ConfigAnswer.TheVariants.{Accept, Unacceptable, Unknown}
use Rattle.talk_laws.specs.l2cap_config.specs.declared.options.ConfigRefusal.{ConfigRefusal}
use Rattle.talk_laws.specs.l2cap_config.specs.declared.options.Options.{Options}
use Rattle.talk_laws.specs.l2cap_config.specs.declared.options.ModeOption.{ModeOption}
use Rattle.talk_laws.specs.l2cap_config.specs.declared.wish.Agreed.{Agreed}
use Rattle.talk_laws.specs.l2cap_config.specs.declared.wish.Mode.{Mode}
use Rattle.talk_laws.specs.l2cap_config.specs.declared.wish.Mode.TheVariants.{Basic, Enhanced}
use Rattle.talk_laws.specs.l2cap_config.specs.declared.wish.Wish.{Wish}
use Rattle.talk_laws.specs.l2cap_config.specs.Agreement.{asked_mode, asked_mtu, mode_number, answered, answered_values, agreed_on, sent_window}
use Rattle.channel_model.specs.Value.{Carrier, Plain, Retransmitting, Stage, Held, Channels}
use Rattle.channel_model.specs.Policies.{Policy}
use Rattle.channel_model.specs.Configuring.{bounded_agreement, carrier_by}
use Rattle.channel_model.proofs.Going.{IsAccepted, CarrierGoes, Walks}
use Rattle.own_channel_laws.proofs.Keeping.{OfCarrier, StageKeeps, HeldKeeps, AllKeep, walks-keep}

-- ---- a machine

-- what it came to, from all that happened to it
pub record Attends (frame : ℕ) (pdus : List (List ℕ)) (opened : Bool) (m : Ertm) : Type 0 where
  pub agreed : Agreed
  pub events : List Event
  pub machine_is : (all_happen events (new_course agreed)).machine ≡ m
  pub agreed_is : m.agreed ≡ agreed
  pub came_is : frames_in frame (all_happen events (new_course agreed)).came ≡ frames_in frame pdus
  pub small : agreed.send_window ≤ 63
  pub frame_is : agreed.receive_mps ≡ frame
  pub open_is : m.closed ≡ None
  pub quiet : opened ≡ false → frames_in frame pdus ≡ []

pub happens-last : (events : List Event) (event : Event) (c : Course) → all_happen (events ++ event ∷ []) c ≡ happens event (all_happen events c)
happens-last [] event c = refl
happens-last (first ∷ events) event c = happens-last events event (happens first c)

-- ---- what happens beside what comes in

pub given-machine : (found : Option Giving) (c : Course) → (given found c).machine ≡ after_by found c.machine
given-machine None c = refl
given-machine (Some giving) c = refl

pub given-came : (found : Option Giving) (c : Course) → (given found c).came ≡ c.came
given-came None c = refl
given-came (Some giving) c = refl

giving_keeps : (found : Giving) (m : Ertm) → ((after_giving found m).closed ≡ m.closed) × ((after_giving found m).agreed ≡ m.agreed)
giving_keeps PollAnswer m = (refl, refl)
giving_keeps Acknowledgement m = (refl, refl)
giving_keeps Rejection m = (refl, refl)
giving_keeps Polling m = (refl, refl)
giving_keeps (Again kept) m = (refl, refl)
giving_keeps (New segment behind) m = (refl, refl)

by_keeps : (found : Option Giving) (m : Ertm) → ((after_by found m).closed ≡ m.closed) × ((after_by found m).agreed ≡ m.agreed)
by_keeps None m = (refl, refl)
by_keeps (Some giving) m = giving_keeps giving m

-- an event that brings no PDU, and what the machine is behind it
pub record Aside (m after : Ertm) : Type 0 where
  pub event : Event
  pub after_is : (c : Course) → c.machine ≡ m → (happens event c).machine ≡ after
  pub came_same : (c : Course) → (happens event c).came ≡ c.came
  pub agreed_same : after.agreed ≡ m.agreed
  pub open_still : m.closed ≡ None → after.closed ≡ None

-- a carrier goes on beside what comes in
abbrev pub BesideCarrier : Carrier → Carrier → Type 0
BesideCarrier (Plain agreed waiting) (Plain agreed' waiting') = Unit {0}
BesideCarrier (Plain agreed waiting) (Retransmitting machine) = ⊥
BesideCarrier (Retransmitting machine) (Plain agreed waiting) = ⊥
BesideCarrier (Retransmitting machine) (Retransmitting after) = (after ≡ machine) ⊎ Aside machine after

pub submits-aside : (sdu : List ℕ) (m : Ertm) → Aside m (submitted sdu m)
submits-aside sdu m = record {
  event = Submits sdu;
  after_is = λ c is. ap (submitted sdu) is;
  came_same = λ c. refl;
  agreed_same = by (is_busy m);
  open_still = λ is. still (is_busy m) ∙ is;
}
  where
    by : (busy : Bool) → (cond busy m (taking sdu m)).agreed ≡ m.agreed
    by true = refl
    by false = refl

    still : (busy : Bool) → (cond busy m (taking sdu m)).closed ≡ m.closed
    still true = refl
    still false = refl

pub gives-aside : (m : Ertm) → Aside m (after_frame m)
gives-aside m = record {
  event = Gives;
  after_is = λ c is. given-machine (giving c.machine) c ∙ ap after_frame is;
  came_same = λ c. given-came (giving c.machine) c;
  agreed_same = (by_keeps (giving m) m).1;
  open_still = λ is. (by_keeps (giving m) m).0 ∙ is;
}

timed_agreed : (m : Ertm) → (timed m).agreed ≡ m.agreed
timed_agreed m = by m.closed
  where
    waits : (spent : Bool) → (cond spent (closing RetryLimit m) (polling m)).agreed ≡ m.agreed
    waits true = refl
    waits false = refl

    first : (kept : List Kept) → (first_poll kept m).agreed ≡ m.agreed
    first [] = refl
    first (k ∷ kept) = refl

    polls : (poll : Poll) → (poll_timed poll m).agreed ≡ m.agreed
    polls NoPoll = first m.sender.unacked
    polls Due = refl
    polls Waits = waits (nat_le m.agreed.tries m.sender.polls)

    by : (closed : _) → (open_timed closed m).agreed ≡ m.agreed
    by None = polls m.sender.poll
    by (Some reason) = refl

pub fires-aside : (m : Ertm) → (timed m).closed ≡ None → Aside m (timed m)
fires-aside m open' = record { event = Fires; after_is = λ c is. ap timed is; came_same = λ c. refl; agreed_same = timed_agreed m; open_still = λ was. open' }

attends-aside : (frame : ℕ) (pdus : List (List ℕ)) (opened after_opened : Bool) (m after : Ertm) → Aside m after → (after_opened ≡ false → opened ≡ false) → Attends frame pdus opened m → Attends frame pdus after_opened after
attends-aside frame pdus opened after_opened m after aside shut attends =
    let c : Course = all_happen attends.events (new_course attends.agreed) in
    let last = happens-last attends.events aside.event (new_course attends.agreed) in
    record {
      agreed = attends.agreed;
      events = attends.events ++ aside.event ∷ [];
      machine_is = ap (λ (x : Course). x.machine) last ∙ aside.after_is c attends.machine_is;
      agreed_is = aside.agreed_same ∙ attends.agreed_is;
      came_is = ap (λ (x : Course). frames_in frame x.came) last ∙ (ap (frames_in frame) (aside.came_same c) ∙ attends.came_is);
      small = attends.small;
      frame_is = attends.frame_is;
      open_is = aside.open_still attends.open_is;
      quiet = λ is. attends.quiet (shut is);
    }

attends-same : (frame : ℕ) (pdus : List (List ℕ)) (opened after_opened : Bool) (m after : Ertm) → after ≡ m → (after_opened ≡ false → opened ≡ false) → Attends frame pdus opened m → Attends frame pdus after_opened after
attends-same frame pdus opened after_opened m after same shut attends = subst (Attends frame pdus after_opened) (sym same) (record {
  agreed = attends.agreed;
  events = attends.events;
  machine_is = attends.machine_is;
  agreed_is = attends.agreed_is;
  came_is = attends.came_is;
  small = attends.small;
  frame_is = attends.frame_is;
  open_is = attends.open_is;
  quiet = λ is. attends.quiet (shut is);
})

-- ---- a new one

min_below : (a b : ℕ) → a ≤ 63 → min a b ≤ 63
min_below a b small = omega (arith, small)

values_row : (none above low : Bool) (r s : ConfigRefusal) (x y : Options) (rest : ConfigAnswer) (accepted : Options) → cond (none || above) (Unacceptable r x) (cond low (Unacceptable s y) rest) ≡ Accept accepted → above ≡ false
values_row true above low r s x y rest accepted is = cc
values_row false true low r s x y rest accepted is = cc
values_row false false low r s x y rest accepted is = refl

values_small : (asked : ModeOption) (accepted : Options) → answered_values Enhanced asked ≡ Accept accepted → asked.window ≤ 63
values_small asked accepted is = ltb-false 63 asked.window (values_row (eqb asked.window 0) (nat_lt 63 asked.window) (nat_lt asked.mps 8) _ _ _ _ _ accepted is)

answered_row : (a b c : Bool) (r s : ConfigRefusal) (x y : Options) (rest : ConfigAnswer) (accepted : Options) → cond a Unknown (cond b (Unacceptable r x) (cond c (Unacceptable s y) rest)) ≡ Accept accepted → rest ≡ Accept accepted
answered_row true b c r s x y rest accepted is = cc
answered_row false true c r s x y rest accepted is = cc
answered_row false false true r s x y rest accepted is = cc
answered_row false false false r s x y rest accepted is = is

pub accepted-values : (wish : Wish) (options accepted : Options) → answered wish options ≡ Accept accepted → answered_values wish.mode (asked_mode options) ≡ Accept accepted
accepted-values wish options accepted is =
    answered_row (not (eqb (length options.unknown) 0)) (not (eqb (asked_mode options).mode (mode_number wish.mode))) (nat_lt (asked_mtu options) 48) _ _ _ _ (answered_values wish.mode (asked_mode options)) accepted is

window_small : (mode : Mode) (asked : ModeOption) (own : ℕ) (given : Options) → answered_values mode asked ≡ Accept given → sent_window mode asked own ≤ 63
window_small Basic asked own given is = omega arith
window_small Enhanced asked own given is = min_below asked.window own (values_small asked given is)

attends-new : (frame : ℕ) (pdus : List (List ℕ)) (opened : Bool) (agreed : Agreed) → agreed.send_window ≤ 63 → agreed.receive_mps ≡ frame → frames_in frame pdus ≡ [] → Attends frame pdus opened (new_ertm agreed)
attends-new frame pdus opened agreed small mps none = record {
  agreed = agreed;
  events = [];
  machine_is = refl;
  agreed_is = refl;
  came_is = sym none;
  small = small;
  frame_is = mps;
  open_is = refl;
  quiet = λ shut. none;
}

-- ---- a channel

abbrev pub CarrierAttends : Wish → (frame : ℕ) (pdus : List (List ℕ)) (opened : Bool) → Option Carrier → Type 0
CarrierAttends wish frame pdus opened None = frames_in frame pdus ≡ []
CarrierAttends wish frame pdus opened (Some (Plain agreed waiting)) = wish.mode ≡ Basic
CarrierAttends wish frame pdus opened (Some (Retransmitting machine)) = Attends frame pdus opened machine

-- it hears on its channel until the host asks for its end
abbrev pub Attended : (frame : ℕ) (pdus : List (List ℕ)) → OfCarrier
Attended frame pdus wish false opened carrier = CarrierAttends wish frame pdus opened carrier
Attended frame pdus wish true opened carrier = Unit {0}

abbrev pub StageAttends : Wish → (frame : ℕ) (pdus : List (List ℕ)) → Stage → Type 0
StageAttends wish frame pdus stage = StageKeeps (Attended frame pdus) wish stage

abbrev pub HeldAttends : Policy → (frame : ℕ) (pdus : List (List ℕ)) → Option Held → Type 0
HeldAttends policy frame pdus held = HeldKeeps policy (Attended frame pdus) held

-- a new carrier is one of the mode that is wished
pub record IsNew (wish : Wish) (agreed : Agreed) (carrier : Carrier) : Type 0 where
  pub is : carrier ≡ Retransmitting (new_ertm agreed)
  pub small : agreed.send_window ≤ 63
  pub frame_is : agreed.receive_mps ≡ wish.mps

pub new-carrier : (wish : Wish) (carrier : Carrier) → IsAccepted wish carrier → ((agreed : Agreed) × (carrier ≡ Plain agreed None) × (wish.mode ≡ Basic)) ⊎ ((agreed : Agreed) × IsNew wish agreed carrier)
new-carrier wish carrier accepted = by wish.mode refl
  where
    agreed : Agreed
    agreed = bounded_agreement (agreed_on wish accepted.options)

    by : (mode : Mode) → wish.mode ≡ mode → ((a : Agreed) × (carrier ≡ Plain a None) × (wish.mode ≡ Basic)) ⊎ ((a : Agreed) × IsNew wish a carrier)
    by Basic is = inl (agreed, accepted.is ∙ ap (λ m. carrier_by m agreed) is, is)
    by Enhanced is = inr (
      agreed,
      record {
        is = accepted.is ∙ ap (λ m. carrier_by m agreed) is;
        small = window_small wish.mode (asked_mode accepted.options) wish.window accepted.given (accepted-values wish accepted.options accepted.given accepted.accepts);
        frame_is = refl;
      },
    )

new_attends : (wish : Wish) (frame : ℕ) (pdus : List (List ℕ)) (opened : Bool) (carrier : Carrier) → wish.mps ≡ frame → frames_in frame pdus ≡ [] → IsAccepted wish carrier → CarrierAttends wish frame pdus opened (Some carrier)
new_attends wish frame pdus opened carrier mps none accepted = by (new-carrier wish carrier accepted)
  where
    by : ((a : Agreed) × (carrier ≡ Plain a None) × (wish.mode ≡ Basic)) ⊎ ((a : Agreed) × IsNew wish a carrier) → CarrierAttends wish frame pdus opened (Some carrier)
    by (inl (agreed, is, basic)) = subst (λ c. CarrierAttends wish frame pdus opened (Some c)) (sym is) basic
    by (inr (agreed, new)) = subst (λ c. CarrierAttends wish frame pdus opened (Some c)) (sym new.is) (attends-new frame pdus opened agreed new.small (new.frame_is ∙ mps) none)

-- in basic mode a new carrier has no machine
plain_again : (wish : Wish) (frame : ℕ) (pdus : List (List ℕ)) (opened : Bool) (carrier : Carrier) → wish.mode ≡ Basic → IsAccepted wish carrier → CarrierAttends wish frame pdus opened (Some carrier)
plain_again wish frame pdus opened carrier basic accepted =
    subst (λ c. CarrierAttends wish frame pdus opened (Some c)) (sym (accepted.is ∙ ap (λ m. carrier_by m (bounded_agreement (agreed_on wish accepted.options))) basic)) basic

beside : (wish : Wish) (frame : ℕ) (pdus : List (List ℕ)) (opened after_opened : Bool) (carrier after : Carrier) → BesideCarrier carrier after → (after_opened ≡ false → opened ≡ false) → CarrierAttends wish frame pdus opened (Some carrier)
    → CarrierAttends wish frame pdus after_opened (Some after)
beside wish frame pdus opened after_opened (Plain agreed waiting) (Plain agreed' waiting') goes shut attends = attends
beside wish frame pdus opened after_opened (Plain agreed waiting) (Retransmitting machine) goes shut attends = elim goes [ ]
beside wish frame pdus opened after_opened (Retransmitting machine) (Plain agreed waiting) goes shut attends = elim goes [ ]
beside wish frame pdus opened after_opened (Retransmitting machine) (Retransmitting after) (inl same) shut attends = attends-same frame pdus opened after_opened machine after same shut attends
beside wish frame pdus opened after_opened (Retransmitting machine) (Retransmitting after) (inr aside) shut attends = attends-aside frame pdus opened after_opened machine after aside shut attends

accepted_attends : (wish : Wish) (frame : ℕ) (pdus : List (List ℕ)) (opened after_opened : Bool) (carrier after : Carrier) → wish.mps ≡ frame → opened ≡ false → IsAccepted wish after → CarrierAttends wish frame pdus opened (Some carrier)
    → CarrierAttends wish frame pdus after_opened (Some after)
accepted_attends wish frame pdus opened after_opened (Plain agreed waiting) after mps shut accepted attends = plain_again wish frame pdus after_opened after attends accepted
accepted_attends wish frame pdus opened after_opened (Retransmitting machine) after mps shut accepted attends = new_attends wish frame pdus after_opened after mps (attends.quiet shut) accepted

carrier_attends : (wish : Wish) (frame : ℕ) (pdus : List (List ℕ)) (opened after_opened : Bool) (before after : Option Carrier) → wish.mps ≡ frame → CarrierGoes wish BesideCarrier opened before after → (after_opened ≡ false → opened ≡ false)
    → CarrierAttends wish frame pdus opened before → CarrierAttends wish frame pdus after_opened after
carrier_attends wish frame pdus opened after_opened None None mps goes shut attends = attends
carrier_attends wish frame pdus opened after_opened None (Some after) mps goes shut attends = new_attends wish frame pdus after_opened after mps attends goes
carrier_attends wish frame pdus opened after_opened (Some before) None mps goes shut attends = elim goes [ ]
carrier_attends wish frame pdus opened after_opened (Some before) (Some after) mps (inl goes) shut attends = beside wish frame pdus opened after_opened before after goes shut attends
carrier_attends wish frame pdus opened after_opened (Some before) (Some after) mps (inr (closed, accepted)) shut attends = accepted_attends wish frame pdus opened after_opened before after mps closed accepted attends

-- ---- all channels

-- of each endpoint, with the PDUs that came in for it
abbrev pub AllAttend : Policy → (frame : ℕ) (came : ℕ → List (List ℕ)) → Channels → Type 0
AllAttend policy frame came v = AllKeep policy (λ own. Attended frame (came own)) v

abbrev pub AttendsOn : Policy → (frame : ℕ) (came : ℕ → List (List ℕ)) → Channels → Channels → Type 0
AttendsOn policy frame came v w = AllAttend policy frame came v → AllAttend policy frame came w

beside_same : (carrier : Carrier) → BesideCarrier carrier carrier
beside_same (Plain agreed waiting) = tt
beside_same (Retransmitting machine) = inl refl

attends_on : (wish : Wish) (frame : ℕ) (pdus : List (List ℕ)) (leaving opened after_opened : Bool) (before after : Option Carrier) → wish.mps ≡ frame → (after_opened ≡ false → opened ≡ false) → CarrierGoes wish BesideCarrier opened before after
    → Attended frame pdus wish leaving opened before → Attended frame pdus wish leaving after_opened after
attends_on wish frame pdus false opened after_opened before after mps shut goes attends = carrier_attends wish frame pdus opened after_opened before after mps goes shut attends
attends_on wish frame pdus true opened after_opened before after mps shut goes attends = tt

pub walks-attend : (policy : Policy) (frame : ℕ) (came : ℕ → List (List ℕ)) → ((psm : ℕ) → (policy.wish psm).mps ≡ frame) → Walks policy BesideCarrier (AttendsOn policy frame came)
walks-attend policy frame came states = walks-keep policy BesideCarrier (λ own. Attended frame (came own)) (record {
  same = beside_same;
  goes = λ own psm leaving opened after_opened before after shut goes attends. attends_on (policy.wish psm) frame (came own) leaving opened after_opened before after (states psm) shut goes attends;
  leaves = λ own psm opened carrier attends. tt;
})
