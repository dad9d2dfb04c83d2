-- The octets that are worked out are those of what a host gives.
use Rattle.std.specs.Prelude.{ℕ, ◌+◌, ◌^◌, ◌<◌, length}
use Rattle.channel_model.specs.ertm_frames.specs.Frames.{PlainFrame, IsFrame, body_of}
use Rattle.push_model.specs.rfcomm_frames.specs.Frames as mux
use Rattle.channel_model.specs.Giving.{Given, Signal, Whole, Framed, IsPdu}
use Rattle.push_model.specs.Payloads.{IsShortest}
use Rattle.host_model.specs.Pdus.{pdu_of, mux_octets}

-- the numbers of a frame fit their fields
pub record Fits (peer : ℕ) (frame : PlainFrame) : Type 0 where
  pub peer_fits : peer < 2 ^ 16
  pub length_fits : 4 + length (body_of frame) < 2 ^ 16
  pub fits : IsFrame frame

abbrev pub CanSpell : Given → Type 0
CanSpell (Signal command) = Unit {0}
CanSpell (Whole peer sdu) = Unit {0}
CanSpell (Framed peer frame) = Fits peer frame

pub record OctetsAreRight : Type 0 where
  pub pdus : (given : Given) → CanSpell given → IsPdu given (pdu_of given)
  pub frames : (frame : mux.PlainFrame) → mux.IsFrame frame → length frame.octets < 2 ^ 15 → IsShortest frame (mux_octets frame)
