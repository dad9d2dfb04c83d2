-- A retransmission machine, and the frames that passed on its channel.
use Rattle.std.proofs.Common.{◌≡◌, ℕ, ◌≤◌, List, [], ◌∷◌, ◌++◌, Bool, true, false, ◌||◌, Option, Some, None, Ok, Err, refl, sym, ap, subst, ◌∙◌, ◌⊎◌, inl, inr, append-nil}
use Rattle.std.specs.Prelude.{option_map, option_to_list, nat_lt}
use Rattle.talk_laws.specs.ertm_frames.specs.Frames.{PlainFrame}
use Rattle.talk_laws.specs.ertm_frames.specs.Answers.{Answer}
use Rattle.talk_laws.specs.ertm_frames.specs.Reading.{answer_in, frame_by, frame_in, frames_in}
use Rattle.talk_laws.specs.ertm_frames.specs.Picking.{Passage, Out, In, outs, ins, unacknowledged, poll_waits}
use Rattle.talk_laws.specs.ertm_frames.proofs.Telling.{frames-more}
use Rattle.channel_model.specs.ertm_model.specs.Value.{Ertm, new_ertm, window_used, armed}
use Rattle.channel_model.specs.ertm_model.specs.Submitting.{submitted}
use Rattle.channel_model.specs.ertm_model.specs.Giving.{Giving, giving, frame_by as given_by, given_frame, next_frame, after_frame, timed}
use Rattle.channel_model.specs.ertm_model.specs.Runs.{Event, Submits, Comes, Gives, Fires, Course, new_course, comes, given, happens, all_happen, IsSaid}
use Rattle.channel_model.specs.ertm_model.proofs.Coursing.{always-said}
use Rattle.talk_laws.specs.l2cap_config.specs.declared.wish.Agreed.{Agreed}
use Rattle.talk_laws.specs.l2cap_config.specs.declared.wish.Mode.TheVariants.{Basic}
use Rattle.talk_laws.specs.l2cap_config.specs.declared.wish.Wish.{Wish}
use Rattle.talk_laws.specs.l2cap_config.specs.Agreement.{agreed_on}
use Rattle.channel_model.specs.Configuring.{bounded_agreement, carrier_by}
use Rattle.std.specs.List.{cons_option}
use Rattle.channel_model.specs.Value.{Carrier, Plain, Retransmitting}
use Rattle.channel_model.specs.Policies.{Policy}
use Rattle.channel_model.specs.Carrying.{machine_heard, read_by}
use Rattle.channel_model.proofs.Going.{IsAccepted, CarrierGoes}
use Rattle.own_channel_laws.proofs.Keeping.{OfCarrier, Keeps}
use Rattle.own_channel_laws.proofs.Attending.{happens-last, given-machine, given-came, submits-aside, gives-aside, fires-aside, IsNew, new-carrier}
use Rattle.own_channel_laws.proofs.HandedUp.{heard-agreed}

-- what it came to, from all that happened to it; while its channel is not open it is new
pub record Passing (frame : ℕ) (frames : List Passage) (opened : Bool) (m : Ertm) : Type 0 where
  pub agreed : Agreed
  pub events : List Event
  pub machine_is : (all_happen events (new_course agreed)).machine ≡ m
  pub agreed_is : m.agreed ≡ agreed
  pub passages_are : (all_happen events (new_course agreed)).passages ≡ frames
  pub came_is : frames_in agreed.receive_mps (all_happen events (new_course agreed)).came ≡ ins frames
  pub small : agreed.send_window ≤ 63
  pub frame_is : agreed.receive_mps ≡ frame
  pub open_is : m.closed ≡ None
  pub quiet : opened ≡ false → (frames ≡ []) × (m ≡ new_ertm agreed)

passing_new : (frame : ℕ) (frames : List Passage) (opened : Bool) (agreed : Agreed) → agreed.send_window ≤ 63 → agreed.receive_mps ≡ frame → frames ≡ [] → Passing frame frames opened (new_ertm agreed)
passing_new frame frames opened agreed small mps none = record {
  agreed = agreed;
  events = [];
  machine_is = refl;
  agreed_is = refl;
  passages_are = sym none;
  came_is = sym (ap ins none);
  small = small;
  frame_is = mps;
  open_is = refl;
  quiet = λ shut. (none, refl);
}

-- ---- one event more

pub ins_in : (frames : List Passage) (frame : PlainFrame) → ins (frames ++ In frame ∷ []) ≡ ins frames ++ frame ∷ []
ins_in [] frame = refl
ins_in (Out other ∷ frames) frame = ins_in frames frame
ins_in (In other ∷ frames) frame = ap (λ fs. other ∷ fs) (ins_in frames frame)

pub ins_out : (frames : List Passage) (frame : PlainFrame) → ins (frames ++ Out frame ∷ []) ≡ ins frames
ins_out [] frame = refl
ins_out (Out other ∷ frames) frame = ins_out frames frame
ins_out (In other ∷ frames) frame = ap (λ fs. other ∷ fs) (ins_out frames frame)

-- with the frames behind it, and what came
on_with : (frame : ℕ) (frames frames' : List Passage) (opened opened' : Bool) (m after : Ertm) (p : Passing frame frames opened m) (event : Event) → (let c : Course = all_happen p.events (new_course p.agreed) in
    (happens event c).machine ≡ after → (happens event c).passages ≡ frames' → frames_in p.agreed.receive_mps (happens event c).came ≡ ins frames' → after.agreed ≡ m.agreed → after.closed ≡ None
    → (opened' ≡ false → (frames' ≡ []) × (after ≡ new_ertm p.agreed)) → Passing frame frames' opened' after)
on_with frame frames frames' opened opened' m after p event is passes came same open' quiet =
    let last = happens-last p.events event (new_course p.agreed) in
    record {
      agreed = p.agreed;
      events = p.events ++ event ∷ [];
      machine_is = ap (λ (x : Course). x.machine) last ∙ is;
      agreed_is = same ∙ p.agreed_is;
      passages_are = ap (λ (x : Course). x.passages) last ∙ passes;
      came_is = ap (λ (x : Course). frames_in p.agreed.receive_mps x.came) last ∙ came;
      small = p.small;
      frame_is = p.frame_is;
      open_is = open';
      quiet = quiet;
    }

pub passing-submits : (frame : ℕ) (frames : List Passage) (opened : Bool) (m : Ertm) (sdu : List ℕ) → Passing frame frames opened m → Passing frame frames true (submitted sdu m)
passing-submits frame frames opened m sdu p =
    on_with frame frames frames opened true m (submitted sdu m) p (Submits sdu) (ap (submitted sdu) p.machine_is) p.passages_are p.came_is (submits-aside sdu m).agreed_same ((submits-aside sdu m).open_still p.open_is) (λ shut. cc)

-- the timer does nothing to a new machine
passing_fires : (frame : ℕ) (frames : List Passage) (opened opened' : Bool) (m : Ertm) → (timed m).closed ≡ None → (opened' ≡ false → opened ≡ false) → Passing frame frames opened m → Passing frame frames opened' (timed m)
passing_fires frame frames opened opened' m open' shut p =
    on_with frame frames frames opened opened' m (timed m) p Fires (ap timed p.machine_is) p.passages_are p.came_is (fires-aside m open').agreed_same open'
    (λ is. ((p.quiet (shut is)).0, ap timed (p.quiet (shut is)).1))

-- nor has it anything to give
gives_open : (frame : ℕ) (frames : List Passage) (opened : Bool) (m : Ertm) (given : PlainFrame) → Passing frame frames opened m → next_frame m ≡ Some given → opened ≡ true
gives_open frame frames true m given p is = refl
gives_open frame frames false m given p is = let never : None ≡ Some given = sym (ap next_frame (p.quiet refl).1) ∙ is in absurd cc

gave : (found : Option Giving) (c : Course) (f : PlainFrame) → (let m : Ertm = c.machine in option_map (λ g. given_frame g m) found ≡ Some f) → (given found c).passages ≡ c.passages ++ Out f ∷ []
gave None c f is = cc
gave (Some giving) c f is = let same : given_frame giving c.machine ≡ f = cc in ap (λ x. c.passages ++ Out x ∷ []) same

giving_found : (found : Option Giving) (m : Ertm) (f : PlainFrame) → given_by found m ≡ Some f → option_map (λ g. given_frame g m) found ≡ Some f
giving_found None m f is = is
giving_found (Some giving) m f is = is

pub passing-gives : (frame : ℕ) (frames : List Passage) (opened : Bool) (m : Ertm) (f : PlainFrame) → next_frame m ≡ Some f → Passing frame frames opened m → (opened ≡ true) × Passing frame (frames ++ Out f ∷ []) true (after_frame m)
passing-gives frame frames opened m f is p =
    let c : Course = all_happen p.events (new_course p.agreed) in
    let found : option_map (λ g. given_frame g c.machine) (giving c.machine) ≡ Some f = giving_found (giving c.machine) c.machine f (ap next_frame p.machine_is ∙ is) in (
      gives_open frame frames opened m f p is,
      on_with frame frames (frames ++ Out f ∷ []) opened true m (after_frame m) p Gives (given-machine (giving c.machine) c ∙ ap after_frame p.machine_is) (gave (giving c.machine) c f found ∙ ap (λ ps. ps ++ Out f ∷ []) p.passages_are)
          (ap (frames_in p.agreed.receive_mps) (given-came (giving c.machine) c) ∙ (p.came_is ∙ sym (ins_out frames f))) (gives-aside m).agreed_same ((gives-aside m).open_still p.open_is) (λ shut. cc),
    )

-- a PDU comes in
abbrev pub heard_in : ℕ → List ℕ → List Passage
heard_in frame pdu = option_to_list (option_map In (frame_in frame pdu))

came_by : (found : Answer) (c : Course) (pdu : List ℕ) (mps : ℕ) (frames : List Passage) → answer_in mps pdu ≡ found → c.passages ≡ frames → frames_in mps c.came ≡ ins frames
    → (let after : Course = comes found c in (after.machine ≡ machine_heard found c.machine) × (after.passages ≡ frames ++ option_to_list (option_map In (frame_by found))) × (frames_in mps (after.came ++ pdu ∷ []) ≡ ins (frames ++ option_to_list (option_map In (frame_by found)))))
came_by (Ok f) c pdu mps frames is passes came = (
  refl,
  ap (λ ps. ps ++ In f ∷ []) passes,
  frames-more mps c.came pdu ∙ (ap (λ a. frames_in mps c.came ++ cons_option (frame_by a) []) is ∙ (ap (λ fs. fs ++ f ∷ []) came ∙ sym (ins_in frames f))),
)
came_by (Err refusal) c pdu mps frames is passes came = (
  refl,
  passes ∙ sym (append-nil frames),
  frames-more mps c.came pdu ∙ (ap (λ a. frames_in mps c.came ++ cons_option (frame_by a) []) is ∙ (append-nil (frames_in mps c.came) ∙ (came ∙ ap ins (sym (append-nil frames))))),
)

pub passing-hears : (frame : ℕ) (frames : List Passage) (opened : Bool) (m : Ertm) (pdu : List ℕ) → Passing frame frames opened m → (machine_heard (read_by m pdu) m).closed ≡ None → Passing frame (frames ++ heard_in frame pdu) true (machine_heard (read_by m pdu) m)
passing-hears frame frames opened m pdu p open' =
    let c : Course = all_happen p.events (new_course p.agreed) in
    let mps : ℕ = p.agreed.receive_mps in
    let read : answer_in c.machine.agreed.receive_mps pdu ≡ answer_in mps pdu = ap (λ (x : Ertm). answer_in x.agreed.receive_mps pdu) p.machine_is ∙ ap (λ (a : Agreed). answer_in a.receive_mps pdu) p.agreed_is in
    let own : read_by m pdu ≡ answer_in mps pdu = ap (λ (a : Agreed). answer_in a.receive_mps pdu) p.agreed_is in
    let (machine, passes, came) = came_by (answer_in c.machine.agreed.receive_mps pdu) c pdu mps frames (sym read) p.passages_are p.came_is in
    let heard_same : frames ++ option_to_list (option_map In (frame_by (answer_in c.machine.agreed.receive_mps pdu))) ≡ frames ++ heard_in frame pdu =
    ap (λ a. frames ++ option_to_list (option_map In (frame_by a))) read ∙ ap (λ n. frames ++ heard_in n pdu) p.frame_is in
    on_with frame frames (frames ++ heard_in frame pdu) opened true m (machine_heard (read_by m pdu) m) p (Comes pdu)
    (machine ∙ (ap (λ x. machine_heard (answer_in c.machine.agreed.receive_mps pdu) x) p.machine_is ∙ ap (λ a. machine_heard a m) (read ∙ sym own)))
    (passes ∙ heard_same) (came ∙ ap ins heard_same) (heard-agreed (read_by m pdu) m) open' (λ shut. cc)

-- ---- what it holds

pub passing-used : (frame : ℕ) (frames : List Passage) (opened : Bool) (m : Ertm) → Passing frame frames opened m
    → (window_used m ≡ unacknowledged (outs frames) (ins frames)) × (armed m ≡ (nat_lt 0 (unacknowledged (outs frames) (ins frames)) || poll_waits false frames))
passing-used frame frames opened m p =
    let c : Course = all_happen p.events (new_course p.agreed) in
    let said : IsSaid p.agreed c = always-said p.agreed p.events p.small (ap (λ (x : Ertm). x.closed) p.machine_is ∙ p.open_is) in
    let same : unacknowledged (outs c.passages) (frames_in p.agreed.receive_mps c.came) ≡ unacknowledged (outs frames) (ins frames) = ap (λ ps. unacknowledged (outs ps) (frames_in p.agreed.receive_mps c.came)) p.passages_are ∙ ap (unacknowledged (outs frames)) p.came_is in (
      ap window_used (sym p.machine_is) ∙ (said.used ∙ same),
      ap armed (sym p.machine_is) ∙ (said.waits ∙ (ap (λ n. nat_lt 0 n || poll_waits false c.passages) same ∙ ap (λ ps. nat_lt 0 (unacknowledged (outs frames) (ins frames)) || poll_waits false ps) p.passages_are)),
    )

-- ---- a channel

abbrev pub CarrierPasses : (frame : ℕ) (frames : List Passage) → Wish → (opened : Bool) → Option Carrier → Type 0
CarrierPasses frame frames wish opened None = frames ≡ []
CarrierPasses frame frames wish opened (Some (Plain agreed waiting)) = wish.mode ≡ Basic
CarrierPasses frame frames wish opened (Some (Retransmitting machine)) = Passing frame frames opened machine

abbrev pub Passed : (frame : ℕ) (frames : List Passage) → OfCarrier
Passed frame frames wish leaving opened carrier = CarrierPasses frame frames wish opened carrier

-- it stays, but for what the timer does
abbrev pub Fired : Carrier → Carrier → Type 0
Fired (Plain agreed waiting) (Plain agreed' waiting') = Unit {0}
Fired (Plain agreed waiting) (Retransmitting machine) = ⊥
Fired (Retransmitting machine) (Plain agreed waiting) = ⊥
Fired (Retransmitting machine) (Retransmitting after) = (after ≡ machine) ⊎ ((after ≡ timed machine) × ((timed machine).closed ≡ None))

pub fired-same : (carrier : Carrier) → Fired carrier carrier
fired-same (Plain agreed waiting) = tt
fired-same (Retransmitting machine) = inl refl

new_passes : (wish : Wish) (frame : ℕ) (frames : List Passage) (opened : Bool) (carrier : Carrier) → wish.mps ≡ frame → frames ≡ [] → IsAccepted wish carrier → CarrierPasses frame frames wish opened (Some carrier)
new_passes wish frame frames opened carrier mps none accepted = by (new-carrier wish carrier accepted)
  where
    by : ((a : Agreed) × (carrier ≡ Plain a None) × (wish.mode ≡ Basic)) ⊎ ((a : Agreed) × IsNew wish a carrier) → CarrierPasses frame frames wish opened (Some carrier)
    by (inl (agreed, is, basic)) = subst (λ c. CarrierPasses frame frames wish opened (Some c)) (sym is) basic
    by (inr (agreed, new)) = subst (λ c. CarrierPasses frame frames wish opened (Some c)) (sym new.is) (passing_new frame frames opened agreed new.small (new.frame_is ∙ mps) none)

-- in basic mode a new one is of basic mode
plain_passes : (wish : Wish) (frame : ℕ) (frames : List Passage) (opened : Bool) (carrier : Carrier) → wish.mode ≡ Basic → IsAccepted wish carrier → CarrierPasses frame frames wish opened (Some carrier)
plain_passes wish frame frames opened carrier basic accepted =
    subst (λ c. CarrierPasses frame frames wish opened (Some c)) (sym (accepted.is ∙ ap (λ m. carrier_by m (bounded_agreement (agreed_on wish accepted.options))) basic)) basic

fired_passes : (wish : Wish) (frame : ℕ) (frames : List Passage) (opened opened' : Bool) (before after : Carrier) → Fired before after → (opened' ≡ false → opened ≡ false) → CarrierPasses frame frames wish opened (Some before) → CarrierPasses frame frames wish opened' (Some after)
fired_passes wish frame frames opened opened' (Plain agreed waiting) (Plain agreed' waiting') goes shut passes = passes
fired_passes wish frame frames opened opened' (Plain agreed waiting) (Retransmitting machine) goes shut passes = elim goes [ ]
fired_passes wish frame frames opened opened' (Retransmitting machine) (Plain agreed waiting) goes shut passes = elim goes [ ]
fired_passes wish frame frames opened opened' (Retransmitting machine) (Retransmitting after) (inl same) shut passes = subst (Passing frame frames opened') (sym same) (record {
  agreed = passes.agreed;
  events = passes.events;
  machine_is = passes.machine_is;
  agreed_is = passes.agreed_is;
  passages_are = passes.passages_are;
  came_is = passes.came_is;
  small = passes.small;
  frame_is = passes.frame_is;
  open_is = passes.open_is;
  quiet = λ is. passes.quiet (shut is);
})
fired_passes wish frame frames opened opened' (Retransmitting machine) (Retransmitting after) (inr (is, open')) shut passes = subst (Passing frame frames opened') (sym is) (passing_fires frame frames opened opened' machine open' shut passes)

goes_passes : (wish : Wish) (frame : ℕ) (frames : List Passage) (opened opened' : Bool) (before after : Option Carrier) → wish.mps ≡ frame → (opened' ≡ false → opened ≡ false) → CarrierGoes wish Fired opened before after
    → CarrierPasses frame frames wish opened before → CarrierPasses frame frames wish opened' after
goes_passes wish frame frames opened opened' None None mps shut goes passes = passes
goes_passes wish frame frames opened opened' None (Some after) mps shut goes passes = new_passes wish frame frames opened' after mps passes goes
goes_passes wish frame frames opened opened' (Some before) None mps shut goes passes = elim goes [ ]
goes_passes wish frame frames opened opened' (Some before) (Some after) mps shut (inl goes) passes = fired_passes wish frame frames opened opened' before after goes shut passes
goes_passes wish frame frames opened opened' (Some (Plain agreed waiting)) (Some after) mps shut (inr (closed, accepted)) passes = plain_passes wish frame frames opened' after passes accepted
goes_passes wish frame frames opened opened' (Some (Retransmitting machine)) (Some after) mps shut (inr (closed, accepted)) passes = new_passes wish frame frames opened' after mps (passes.quiet closed).0 accepted

pub keeps-passed : (policy : Policy) (frame : ℕ) (frames : ℕ → List Passage) → ((psm : ℕ) → (policy.wish psm).mps ≡ frame) → Keeps policy Fired (λ own. Passed frame (frames own))
keeps-passed policy frame frames states = record {
  same = fired-same;
  goes = λ own psm leaving opened opened' before after shut goes passes. goes_passes (policy.wish psm) frame (frames own) opened opened' before after (states psm) shut goes passes;
  leaves = λ own psm opened carrier passes. passes;
}
