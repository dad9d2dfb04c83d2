-- What one machine holds is what the PDUs say that came in and went out (Core 5.1, Volume 3 Part A, 8.6.5).
use Rattle.std.specs.Prelude.{ℕ, ◌≡◌, ◌≤◌, false, ◌||◌, nat_lt, List, [], ◌∷◌, ◌++◌, Option, Some, None, Ok, Err}
use Rattle.l2cap_config.specs.declared.wish.Agreed.{Agreed}
use Rattle.ertm_frames.specs.Answers.{Answer}
use Rattle.ertm_frames.specs.Reading.{answer_in, frames_in}
use Rattle.ertm_frames.specs.Picking.{sdus_in, AreNumbers, unacknowledged, Passage, Out, In, poll_waits, outs}
use Rattle.ertm_model.specs.Value.{Ertm, new_ertm, window_used, armed}
use Rattle.ertm_model.specs.Submitting.{submitted}
use Rattle.ertm_model.specs.Giving.{Giving, giving, given_frame, after_giving, timed}
use Rattle.ertm_model.specs.Hearing.{PlainHeard, nothing, sdu, closed, heard, answer_to, refused}

-- what happens to a machine: an SDU is submitted, a PDU comes in, it gives its next frame, its timer fires
pub data Event : Type 0 where
  Submits : (octets : List ℕ) → Event
  Comes : (pdu : List ℕ) → Event
  Gives : Event
  Fires : Event

-- a machine, the PDUs that came in, the frames of these and those that went out, in their order, and the SDUs that it
-- handed up
pub record Course : Type 0 where
  pub machine : Ertm
  pub came : List (List ℕ)
  pub passages : List Passage
  pub up : List (List ℕ)

abbrev pub new_course : Agreed → Course
new_course agreed = record { machine = new_ertm agreed; came = []; passages = []; up = [] }

abbrev pub brought : PlainHeard → List (List ℕ)
brought nothing = []
brought (sdu octets) = octets ∷ []
brought (closed reason) = []

abbrev pub comes : Answer → Course → Course
comes (Ok frame) c = record c {
  machine = heard frame c.machine;
  passages = c.passages ++ In frame ∷ [];
  up = c.up ++ brought (answer_to frame c.machine);
}
comes (Err refusal) c = record c { machine = refused refusal c.machine }

abbrev pub given : Option Giving → Course → Course
given None c = c
given (Some giving) c = record c {
  machine = after_giving giving c.machine;
  passages = c.passages ++ Out (given_frame giving c.machine) ∷ [];
}

abbrev pub with_pdu : List ℕ → Course → Course
with_pdu pdu c = record c { came = c.came ++ pdu ∷ [] }

abbrev pub happens : Event → Course → Course
happens (Submits octets) c = record c { machine = submitted octets c.machine }
happens (Comes pdu) c = with_pdu pdu (comes (answer_in c.machine.agreed.receive_mps pdu) c)
happens Gives c = given (giving c.machine) c
happens Fires c = record c { machine = timed c.machine }

abbrev pub all_happen : List Event → Course → Course
all_happen [] c = c
all_happen (event ∷ events) c = all_happen events (happens event c)

-- What the machine holds is what is said on the channel, as long as it is open. The SDUs that it handed up are those that
-- the PDUs bring; its window has as many frames as went out and are not acknowledged; it is armed where there is such a
-- frame, or a poll went out that is not answered; and what it gave has numbers, none below 0.
pub record IsSaid (agreed : Agreed) (c : Course) : Type 0 where
  pub up_is : c.up ≡ sdus_in agreed.receive_mps c.came
  pub used : window_used c.machine ≡ unacknowledged (outs c.passages) (frames_in agreed.receive_mps c.came)
  pub waits : armed c.machine ≡ (nat_lt 0 (unacknowledged (outs c.passages) (frames_in agreed.receive_mps c.came)) || poll_waits false c.passages)
  pub numbers : List ℕ
  pub numbered : AreNumbers 0 (outs c.passages) numbers

-- whatever comes in
abbrev pub AlwaysSaid : Type 0
AlwaysSaid = (agreed : Agreed) (events : List Event) → agreed.send_window ≤ 63
    → (all_happen events (new_course agreed)).machine.closed ≡ None → IsSaid agreed (all_happen events (new_course agreed))
