-- The frames of RFCOMM and their octets (TS 07.10, 5.2.1; RFCOMM 1.2, 5.1 and 6.5.2).
use Rattle.std.specs.Prelude.{ℕ, ◌+◌, ◌*◌, ◌<◌, ◌≡◌, ◌==◌, Bool, true, false, not, ◌&&◌, List, [], ◌∷◌, ◌++◌, length, Option, Some, None, is_some, if◌then◌else◌}
use Rattle.bt_base.specs.Octets.{IsOctets}
use Rattle.check_words.specs.CheckWords.{RfcommCheckHolds}
use Rattle.rfcomm_frames.specs.declared.frame.MuxFrame.{MuxFrame}
use Rattle.rfcomm_frames.specs.declared.frame.MuxKind.{MuxKind}
use Rattle.rfcomm_frames.specs.declared.frame.MuxKind.TheVariants.{Sabm, Ua, Dm, Disc, Uih}
use Rattle.rfcomm_frames.specs.Lengths.{States, shortest}

-- what a frame says, apart from where its octets lie in memory
pub record PlainFrame : Type 0 where
  pub dlci : ℕ
  pub cr : Bool
  pub kind : MuxKind
  pub pf : Bool
  pub credits : Option ℕ
  pub octets : List ℕ

abbrev pub plain : MuxFrame → PlainFrame
plain frame = record { dlci = frame.dlci; cr = frame.cr; kind = frame.kind; pf = frame.pf; credits = frame.credits; octets = frame.octets.now }

abbrev pub bit : Bool → ℕ
bit true = 1
bit false = 0

-- the address octet: the extension bit, the C/R bit, the channel from bit 2 on (RFCOMM 1.2, 5.4)
abbrev pub address_of : PlainFrame → ℕ
address_of frame = 0x01 + 0x02 * bit frame.cr + 0x04 * frame.dlci

-- the control octet of a kind without the P/F bit (TS 07.10, 5.2.1.3)
abbrev pub code_of : MuxKind → ℕ
code_of Sabm = 0x2F
code_of Ua = 0x63
code_of Dm = 0x0F
code_of Disc = 0x43
code_of Uih = 0xEF

-- the control octet: bit 4 is the P/F bit
abbrev pub control_octet : MuxKind → Bool → ℕ
control_octet kind pf = code_of kind + 0x10 * bit pf

-- UIH frames alone carry information
abbrev pub carries : MuxKind → Bool
carries Sabm = false
carries Ua = false
carries Dm = false
carries Disc = false
carries Uih = true

-- a credit octet is there in UIH with the P/F bit on a channel other than the control channel (RFCOMM 1.2, 6.5.2)
abbrev pub has_credits : ℕ → MuxKind → Bool → Bool
has_credits dlci kind pf = carries kind && (pf && not (dlci == 0))

abbrev pub credit_octets : Option ℕ → List ℕ
credit_octets None = []
credit_octets (Some credits) = credits ∷ []

-- the numbers fit their fields, the credits and the information stand where they may
pub record IsFrame (frame : PlainFrame) : Type 0 where
  pub dlci_fits : frame.dlci < 64
  pub granting : is_some frame.credits ≡ has_credits frame.dlci frame.kind frame.pf
  pub credits_fit : IsOctets (credit_octets frame.credits)
  pub are_octets : IsOctets frame.octets
  pub alone : carries frame.kind ≡ false → frame.octets ≡ []

-- what stands between the control octet and the check word: the length of the information alone, the credits, the
-- information
abbrev pub body_of : List ℕ → PlainFrame → List ℕ
body_of field frame = field ++ (credit_octets frame.credits ++ frame.octets)

-- what the check word is over: address and control in UIH, and in the others the length too (RFCOMM 1.2, 5.1.1)
abbrev pub covered : List ℕ → PlainFrame → List ℕ
covered field frame = address_of frame ∷ control_octet frame.kind frame.pf ∷ (if carries frame.kind then [] else field)

-- the octets are those of the frame, whatever stands in place of the check word
pub record HasForm (frame : PlainFrame) (octets : List ℕ) : Type 0 where
  pub field : List ℕ
  pub check : ℕ
  pub parts : octets ≡ address_of frame ∷ control_octet frame.kind frame.pf ∷ (body_of field frame ++ check ∷ [])
  pub states : States field (length frame.octets)
  pub check_fits : check < 256
  pub fits : IsFrame frame

-- the octets are those of the frame
pub record Spells (frame : PlainFrame) (octets : List ℕ) : Type 0 where
  pub form : HasForm frame octets
  pub holds : RfcommCheckHolds (covered form.field frame) form.check

-- what is written of a frame before its check word, and how many octets are written in all
abbrev pub unchecked : PlainFrame → List ℕ
unchecked frame = address_of frame ∷ control_octet frame.kind frame.pf ∷ body_of (shortest (length frame.octets)) frame

abbrev pub size_of : PlainFrame → ℕ
size_of frame = length (unchecked frame) + 1
