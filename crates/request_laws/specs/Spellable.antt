-- What a multiplexer says can be spelled, so it is read as it was sent (TS 07.10, 5.2.1; RFCOMM 1.2, 5.1 and 6.5.2).
use Rattle.std.specs.Prelude.{ℕ, ◌<◌, ◌^◌, List, length, Option, Some, None}
use Rattle.std.specs.List.{AllByRecursion}
use Rattle.pair_laws.specs.bt_base.specs.Octets.{IsOctets}
use Rattle.pair_laws.specs.rfcomm_frames.specs.declared.connection.Role.{Role}
use Rattle.pair_laws.specs.rfcomm_frames.specs.Frames.{PlainFrame, IsFrame}
use Rattle.pair_laws.specs.rfcomm_model.specs.Machine.{Mux, new_mux, reset, sends, leaves}
use Rattle.pair_laws.specs.rfcomm_model.specs.Hearing.{hears}
use Rattle.pair_laws.specs.rfcomm_model.specs.Saying.{Said, next}
use Rattle.pair_laws.specs.push_model.specs.Payloads.{IsShortest}
use Rattle.pair_laws.specs.host_model.specs.Pdus.{mux_octets}
use Rattle.request_laws.specs.Carried.{IsReadSo}

-- the numbers of a frame fit their fields, and its length field has room: there are octets that spell it
pub record IsSpellable (frame : PlainFrame) : Type 0 where
  pub fits : IsFrame frame
  pub short : length frame.octets < 2 ^ 15

-- ---- a multiplexer

-- its channel is no control channel, and its numbers fit the fields of its frames
pub record IsFit (dlci largest own frame cap : ℕ) : Type 0 where
  pub user : 0 < dlci
  pub below : dlci < 64
  pub largest_fits : largest < 2 ^ 15
  pub own_fits : own < 2 ^ 15
  pub frame_fits : frame < 2 ^ 15
  pub cap_fits : cap < 256

-- what waits for a data frame
pub record IsInformation (octets : List ℕ) : Type 0 where
  pub are_octets : IsOctets octets
  pub short : length octets < 2 ^ 15

abbrev pub SaysSpellable : Mux → Type 0
SaysSpellable m = IsFit m.dlci m.largest m.own m.frame m.account.cap × AllByRecursion IsSpellable m.answers × IsInformation m.waiting

-- the frame can be spelled, and so can what comes behind it
abbrev pub IsSaidSpellable : Option Said → Type 0
IsSaidSpellable None = Unit {0}
IsSaidSpellable (Some said) = IsSpellable said.frame × SaysSpellable said.after

-- ---- the law

-- a frame that can be spelled is spelled by its octets, and read from them
abbrev pub SpelledIsReadSo : Type 0
SpelledIsReadSo = (frame : PlainFrame) → IsSpellable frame → IsShortest frame (mux_octets frame) × IsReadSo frame

-- So says a multiplexer of either side whose numbers fit, from its making on, whatever octets it hears and is handed to send: each frame can be spelled,
-- and so is read as it was sent.
pub record FramesAreSpellable : Type 0 where
  pub made : (role : Role) (dlci largest own cap : ℕ) → IsFit dlci largest own own cap → SaysSpellable (new_mux role dlci largest own cap)
  pub anew : (own : ℕ) (m : Mux) → own < 2 ^ 15 → SaysSpellable m → SaysSpellable (reset own m)
  pub hearing : (sdu : List ℕ) (m : Mux) → IsOctets sdu → SaysSpellable m → SaysSpellable (hears sdu m)
  pub giving : (octets : List ℕ) (m : Mux) → IsOctets octets → SaysSpellable m → SaysSpellable (sends octets m)
  pub leaving : (m : Mux) → SaysSpellable m → SaysSpellable (leaves m)
  pub saying : (m : Mux) → SaysSpellable m → IsSaidSpellable (next m)
  pub reading : SpelledIsReadSo
