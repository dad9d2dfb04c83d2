-- The frames of enhanced retransmission mode and their octets (Core 5.1, Volume 3 Part A, 3.3).
use Rattle.std.specs.Prelude.{ℕ, ◌+◌, ◌*◌, ◌^◌, ◌<◌, ◌≡◌, ◌≢◌, ◌==◌, Bool, true, false, List, [], ◌++◌, length, if◌then◌else◌}
use Rattle.bt_base.specs.Octets.{IsOctets, le16}
use Rattle.check_words.specs.CheckWords.{L2capCheckHolds}
use Rattle.ertm_frames.specs.declared.frame.Frame.{Frame}
use Rattle.ertm_frames.specs.declared.frame.Frame.TheVariants.{I, S}
use Rattle.ertm_frames.specs.declared.frame.SKind.{SKind}
use Rattle.ertm_frames.specs.declared.frame.SKind.TheVariants.{Rr, Rej, Rnr, Srej}

-- what a frame says, apart from where its octets lie in memory
pub data PlainFrame : Type 0 where
  information : (tx : ℕ) (final : Bool) (req sar total : ℕ) (octets : List ℕ) → PlainFrame
  supervisory : (kind : SKind) (poll final : Bool) (req : ℕ) → PlainFrame

abbrev pub plain : Frame → PlainFrame
plain (I tx final req sar total octets) = information tx final req sar total octets.now
plain (S kind poll final req) = supervisory kind poll final req

abbrev pub bit : Bool → ℕ
bit true = 1
bit false = 0

-- the supervisory function bits (3.3.2)
abbrev pub function_of : SKind → ℕ
function_of Rr = 0
function_of Rej = 1
function_of Rnr = 2
function_of Srej = 3

-- The control field (3.3.2). An I-frame: TxSeq from bit 1, F in bit 7, ReqSeq from bit 8, SAR from bit 14. An
-- S-frame: 1 in bit 0, the function from bit 2, P in bit 4, F in bit 7, ReqSeq from bit 8.
abbrev pub control_of : PlainFrame → ℕ
control_of (information tx final req sar total octets) = 0x02 * tx + 0x80 * bit final + 0x100 * req + 0x4000 * sar
control_of (supervisory kind poll final req) = 0x01 + 0x04 * function_of kind + 0x10 * bit poll + 0x80 * bit final + 0x100 * req

-- what stands between the control field and the check word: in the start of an SDU (SAR 1) the SDU's length, and
-- the octets (3.3.3, 3.3.4)
abbrev pub body_of : PlainFrame → List ℕ
body_of (information tx final req sar total octets) = (if sar == 1 then le16 total else []) ++ octets
body_of (supervisory kind poll final req) = []

-- the numbers fit their fields, and only the start of an SDU states a length
pub record IsInformation (tx req sar total : ℕ) (octets : List ℕ) : Type 0 where
  pub tx_fits : tx < 64
  pub req_fits : req < 64
  pub sar_fits : sar < 4
  pub total_fits : total < 2 ^ 16
  pub stated : sar ≢ 1 → total ≡ 0
  pub are_octets : IsOctets octets

abbrev pub IsFrame : PlainFrame → Type 0
IsFrame (information tx final req sar total octets) = IsInformation tx req sar total octets
IsFrame (supervisory kind poll final req) = req < 64

-- the octets that the check word is over: the basic header (3.1), whose length counts all that follows it, the
-- check word too; the control field; and what follows that
abbrev pub covered : ℕ → ℕ → List ℕ → List ℕ
covered cid control body = le16 (4 + length body) ++ (le16 cid ++ (le16 control ++ body))

-- the octets are those of the frame on the channel of that identifier
pub record Spells (cid : ℕ) (frame : PlainFrame) (pdu : List ℕ) : Type 0 where
  pub check : ℕ
  pub parts : pdu ≡ covered cid (control_of frame) (body_of frame) ++ le16 check
  pub holds : L2capCheckHolds pdu
  pub cid_fits : cid < 2 ^ 16
  pub length_fits : 4 + length (body_of frame) < 2 ^ 16
  pub fits : IsFrame frame
