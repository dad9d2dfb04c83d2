-- The control messages of the multiplexer and their octets (TS 07.10, 5.4.6; RFCOMM 1.2, 4.3).
use Rattle.std.specs.Prelude.{ℕ, ◌+◌, ◌*◌, ◌^◌, ◌%◌, ◌<◌, ◌≡◌, ◌≢◌, Bool, List, [], ◌∷◌, ◌++◌, length}
use Rattle.std.specs.List.{AllByRecursion}
use Rattle.bt_base.specs.Octets.{IsOctets, le16}
use Rattle.rfcomm_frames.specs.declared.control.Control.{Control}
use Rattle.rfcomm_frames.specs.declared.control.Control.TheVariants.{Pn, Msc, Test, Rpn, Rls, Nsc, Other}
use Rattle.rfcomm_frames.specs.Lengths.{States, sized}
use Rattle.rfcomm_frames.specs.Frames.{bit}

-- what a control message says, apart from where its octets lie in memory
pub data PlainControl : Type 0 where
  pn : (command : Bool) (dlci flow priority timer frame retransmissions credits : ℕ) → PlainControl
  msc : (command : Bool) (dlci signals : ℕ) → PlainControl
  test : (command : Bool) (octets : List ℕ) → PlainControl
  rpn : (command : Bool) (value : List ℕ) → PlainControl
  rls : (command : Bool) (value : List ℕ) → PlainControl
  nsc : (kind : ℕ) → PlainControl
  other : (kind : ℕ) (value : List ℕ) → PlainControl

abbrev pub plain_control : Control → PlainControl
plain_control (Pn command dlci flow priority timer frame retransmissions credits) = pn command dlci flow priority timer frame retransmissions credits
plain_control (Msc command dlci signals) = msc command dlci signals
plain_control (Test command octets) = test command octets.now
plain_control (Rpn command value) = rpn command value.now
plain_control (Rls command value) = rls command value.now
plain_control (Nsc kind) = nsc kind
plain_control (Other kind value) = other kind value.now

-- the type octet: bit 0 is the extension bit, bit 1 is set in a command (TS 07.10, 5.4.6). NSC is a response.
abbrev pub type_of : PlainControl → ℕ
type_of (pn command dlci flow priority timer frame retransmissions credits) = 0x81 + 0x02 * bit command
type_of (msc command dlci signals) = 0xE1 + 0x02 * bit command
type_of (test command octets) = 0x21 + 0x02 * bit command
type_of (rpn command value) = 0x91 + 0x02 * bit command
type_of (rls command value) = 0x51 + 0x02 * bit command
type_of (nsc kind) = 0x11
type_of (other kind value) = kind

-- the value: of PN eight octets, with the frame size in two of them, the low one first (RFCOMM 1.2, 5.5.3); of MSC
-- two, of NSC one, of the others any
abbrev pub value_of : PlainControl → List ℕ
value_of (pn command dlci flow priority timer frame retransmissions credits) =
    dlci ∷ flow ∷ priority ∷ timer ∷ (le16 frame ++ retransmissions ∷ credits ∷ [])
value_of (msc command dlci signals) = dlci ∷ signals ∷ []
value_of (test command octets) = octets
value_of (rpn command value) = value
value_of (rls command value) = value
value_of (nsc kind) = kind ∷ []
value_of (other kind value) = value

-- the type octets that have a meaning of their own
abbrev pub known_types : List ℕ
known_types = 0x81 ∷ 0x83 ∷ 0xE1 ∷ 0xE3 ∷ 0x21 ∷ 0x23 ∷ 0x91 ∷ 0x93 ∷ 0x51 ∷ 0x53 ∷ 0x11 ∷ []

-- a type octet that ends with its first octet, and is none of those
pub record IsOtherType (kind : ℕ) : Type 0 where
  pub octet : kind < 256
  pub ends : kind % 2 ≡ 1
  pub unknown : AllByRecursion (λ known. kind ≢ known) known_types

-- numbers fit their octets
abbrev pub IsControl : PlainControl → Type 0
IsControl (pn command dlci flow priority timer frame retransmissions credits) =
    (dlci < 256) × (flow < 256) × (priority < 256) × (timer < 256) × (frame < 2 ^ 16) × (retransmissions < 256) × (credits < 256)
IsControl (msc command dlci signals) = (dlci < 256) × (signals < 256)
IsControl (test command octets) = IsOctets octets
IsControl (rpn command value) = IsOctets value
IsControl (rls command value) = IsOctets value
IsControl (nsc kind) = kind < 256
IsControl (other kind value) = IsOtherType kind × IsOctets value

-- the octets are those of the control message: its type, the length of its value, its value
pub record SpellsControl (control : PlainControl) (octets : List ℕ) : Type 0 where
  pub field : List ℕ
  pub parts : octets ≡ type_of control ∷ (field ++ value_of control)
  pub states : States field (length (value_of control))
  pub fits : IsControl control

-- what is written of a control message
abbrev pub written : PlainControl → List ℕ
written control = type_of control ∷ sized (value_of control)
