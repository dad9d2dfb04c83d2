-- What the parts of a machine are, as values.
use Rattle.std.specs.Prelude.{ℕ, List, [], Option, None}
use Rattle.l2cap_config.specs.declared.wish.Agreed.{Agreed}
use Rattle.ertm_frames.specs.Segments.{Segment}
use Rattle.ertm_frames.specs.Joining.{Begun}
use Rattle.ertm_model.specs.Value.{Kept, Sender, Receiver, Ertm, new_sender, new_receiver, new_ertm}

-- what the memory was reserved for, what was agreed, and of a sender the segments
pub record WindowValue : Type 0 where
  pub reserved : Agreed
  pub agreed : Agreed
  pub unacked : List Kept
  pub next : ℕ
  pub fresh : List Segment

abbrev pub new_window : (reserved agreed : Agreed) → WindowValue
new_window reserved agreed = record { reserved = reserved; agreed = agreed; unacked = []; next = 0; fresh = [] }

-- for how many octets there is room, the SDU that has begun, and the octets that are held
pub record JoinerValue : Type 0 where
  pub room : ℕ
  pub begun : Option Begun
  pub octets : List ℕ

abbrev pub new_joiner : ℕ → JoinerValue
new_joiner room = record { room = room; begun = None; octets = [] }

-- for how many octets there is room, the receiver, and the octets of the last SDU that was joined
pub record ReceiverValue : Type 0 where
  pub room : ℕ
  pub receiver : Receiver
  pub joined : List ℕ

abbrev pub new_receiver_value : ℕ → ReceiverValue
new_receiver_value room = record { room = room; receiver = new_receiver; joined = [] }

-- what the memory was reserved for, what was agreed, and the sender
pub record SenderValue : Type 0 where
  pub reserved : Agreed
  pub agreed : Agreed
  pub sender : Sender

abbrev pub new_sender_value : (reserved agreed : Agreed) → SenderValue
new_sender_value reserved agreed = record { reserved = reserved; agreed = agreed; sender = new_sender }

-- a machine, and what its memory was reserved for
pub record Machine : Type 0 where
  pub ertm : Ertm
  pub reserved : Agreed

abbrev pub new_machine : (reserved agreed : Agreed) → Machine
new_machine reserved agreed = record { ertm = new_ertm agreed; reserved = reserved }
