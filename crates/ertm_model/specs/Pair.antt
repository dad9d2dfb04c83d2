-- Two ends over an ordered link that loses, repeats and damages.
use Rattle.std.specs.Prelude.{ℕ, ◌≡◌, ◌+◌, ◌-◌, ◌≤◌, ◌⊎◌, List, [], ◌∷◌, ◌++◌, length, Option, Some, None, if◌then◌else◌}
use Rattle.l2cap_config.specs.declared.wish.Agreed.{Agreed}
use Rattle.ertm_frames.specs.declared.refusal.FrameRefusal.{FrameRefusal}
use Rattle.ertm_frames.specs.declared.refusal.FrameRefusal.TheVariants.{Short, BadFcs}
use Rattle.ertm_frames.specs.Frames.{PlainFrame, information, supervisory}
use Rattle.ertm_frames.specs.Segments.{Segment}
use Rattle.ertm_model.specs.declared.reason.ErtmReason.{ErtmReason}
use Rattle.ertm_model.specs.Value.{Ertm, new_ertm}
use Rattle.ertm_model.specs.Submitting.{cut, is_busy, taking}
use Rattle.ertm_model.specs.Giving.{Giving, giving, given_frame, after_giving, timed}
use Rattle.ertm_model.specs.Hearing.{Place, Expected, Ahead, Other, place_in, segment_of, sdu_in, fault, heard_by, refused}

-- a frame on its way, beside numbers that never wrap: the number of the I-frame, and how many I-frames the sender of
-- the frame had accepted
pub record Sent : Type 0 where
  pub frame : PlainFrame
  pub number : ℕ
  pub asks : ℕ

-- an end, and what happened to it
pub record End : Type 0 where
  pub machine : Ertm
  -- the frames that it gave and that are still on their way
  pub queue : List Sent
  -- the SDUs that were submitted, and their segments
  pub sdus : List (List ℕ)
  pub put : List Segment
  -- the segments that it accepted, and the SDUs that it handed up
  pub got : List Segment
  pub up : List (List ℕ)

-- A, N and C of one direction: how many I-frames are acknowledged, how many were given, and, at the other end, how
-- many are accepted
abbrev pub acknowledged_by : End → ℕ
acknowledged_by e = length e.put - (length e.machine.sender.unacked + length e.machine.sender.fresh)

abbrev pub given_by : End → ℕ
given_by e = length e.put - length e.machine.sender.fresh

abbrev pub accepted_by : End → ℕ
accepted_by e = length e.got

abbrev pub new_end : Agreed → End
new_end agreed = record { machine = new_ertm agreed; queue = []; sdus = []; put = []; got = []; up = [] }

-- ---- what an end does, and what happens to its front frame

pub data Deed : Type 0 where
  -- it gives its next frame, if there is one; its timer fires; an SDU is submitted
  Give : Deed
  Fire : Deed
  Submit : (sdu : List ℕ) → Deed
  -- its front frame is handed over; is lost; is handed over and stays; is handed over damaged
  Pass : Deed
  Lose : Deed
  Repeat : Deed
  Damage : (refusal : FrameRefusal) → Deed

abbrev pub gave : Option Giving → End → End
gave None e = e
gave (Some given) e = record e {
  machine = after_giving given e.machine;
  queue = e.queue ++ record { frame = given_frame given e.machine; number = acknowledged_by e + e.machine.sender.next; asks = accepted_by e } ∷ [];
}

abbrev pub behind_front : List Sent → List Sent
behind_front [] = []
behind_front (sent ∷ queue) = queue

abbrev pub took : List ℕ → End → End
took sdu e = record e {
  machine = taking sdu e.machine;
  sdus = e.sdus ++ sdu ∷ [];
  put = e.put ++ cut e.machine.agreed.send_mps sdu;
}

-- what a deed makes of the end that does it
abbrev pub near : Deed → End → End
near Give e = gave (giving e.machine) e
near Fire e = record e { machine = timed e.machine }
near (Submit sdu) e = if is_busy e.machine then e else took sdu e
near Pass e = record e { queue = behind_front e.queue }
near Lose e = record e { queue = behind_front e.queue }
near Repeat e = e
near (Damage refusal) e = record e { queue = behind_front e.queue }

-- the segment that a machine accepts of a frame, where it stays open
abbrev pub placed_segment : Place → Segment → List Segment
placed_segment Expected segment = segment ∷ []
placed_segment Ahead segment = []
placed_segment Other segment = []

abbrev pub segment_in : PlainFrame → Ertm → List Segment
segment_in (information tx final req sar total octets) m = placed_segment (place_in m tx) (segment_of sar total octets)
segment_in (supervisory kind poll final req) m = []

abbrev pub listed : Option (List ℕ) → List (List ℕ)
listed None = []
listed (Some sdu) = sdu ∷ []

-- by why the machine is closed, and else by why the frame closes it
abbrev pub hearing_by : Option ErtmReason → Option ErtmReason → PlainFrame → End → End
hearing_by (Some closed) cause frame e = e
hearing_by None (Some cause) frame e = record e { machine = heard_by (Some cause) frame e.machine }
hearing_by None None frame e = record e {
  machine = heard_by None frame e.machine;
  got = e.got ++ segment_in frame e.machine;
  up = e.up ++ listed (sdu_in frame e.machine);
}

abbrev pub hearing : PlainFrame → End → End
hearing frame e = hearing_by e.machine.closed (fault frame e.machine) frame e

abbrev pub hearing_front : List Sent → End → End
hearing_front [] e = e
hearing_front (sent ∷ queue) e = hearing sent.frame e

abbrev pub damaged_front : FrameRefusal → List Sent → End → End
damaged_front refusal [] e = e
damaged_front refusal (sent ∷ queue) e = record e { machine = refused refusal e.machine }

-- and of the other end
abbrev pub far : Deed → List Sent → End → End
far Give queue e = e
far Fire queue e = e
far (Submit sdu) queue e = e
far Pass queue e = hearing_front queue e
far Lose queue e = e
far Repeat queue e = hearing_front queue e
far (Damage refusal) queue e = damaged_front refusal queue e

-- ---- both

pub record Pair : Type 0 where
  pub a : End
  pub b : End

pub data Turn : Type 0 where
  ByA : (deed : Deed) → Turn
  ByB : (deed : Deed) → Turn

abbrev pub turned : Turn → Pair → Pair
turned (ByA deed) p = record { a = near deed p.a; b = far deed p.a.queue p.b }
turned (ByB deed) p = record { a = far deed p.b.queue p.a; b = near deed p.b }

abbrev pub all_turned : List Turn → Pair → Pair
all_turned [] p = p
all_turned (turn ∷ turns) p = all_turned turns (turned turn p)

abbrev pub new_pair : (a b : Agreed) → Pair
new_pair a b = record { a = new_end a; b = new_end b }

-- An SDU that is submitted is one that the other end takes. Damage is seen: two neighbouring octets that come
-- otherwise leave a PDU that is not whole, or whose check word does not hold.
abbrev pub MayDo : Deed → End → Type 0
MayDo Give e = Unit {0}
MayDo Fire e = Unit {0}
MayDo (Submit sdu) e = length sdu ≤ e.machine.agreed.send_mtu
MayDo Pass e = Unit {0}
MayDo Lose e = Unit {0}
MayDo Repeat e = Unit {0}
MayDo (Damage refusal) e = (refusal ≡ Short) ⊎ (refusal ≡ BadFcs)

abbrev pub MayTurn : Turn → Pair → Type 0
MayTurn (ByA deed) p = MayDo deed p.a
MayTurn (ByB deed) p = MayDo deed p.b

abbrev pub AllMay : List Turn → Pair → Type 0
AllMay [] p = Unit {0}
AllMay (turn ∷ turns) p = MayTurn turn p × AllMay turns (turned turn p)

-- ---- what two ends agreed on

-- One end sends by what the other receives by: its window is at most the other's, and so are its SDUs
pub record Meets (sender receiver : Agreed) : Type 0 where
  pub some : 1 ≤ sender.send_window
  pub within : sender.send_window ≤ receiver.receive_window
  pub most : receiver.receive_window ≤ 63
  pub mtu : sender.send_mtu ≤ receiver.receive_mtu
