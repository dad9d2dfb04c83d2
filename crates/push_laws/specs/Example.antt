-- One push over RFCOMM as its SDUs come and go, from the first frame on (RFCOMM 1.2, 5 and 6.5; TS 07.10, 5.2.1 and 5.4.6.2;
-- IrOBEX 1.5, 3.4.3): what the laws of a server ask for is met by a list with an object on the user channel.
use Rattle.std.specs.Prelude.{ℕ, ◌≡◌, List, [], ◌∷◌, ◌++◌, Err}
use Rattle.link_talk.specs.bt_base.specs.declared.ports.PortFault.TheVariants.{Failed}
use Rattle.link_talk.specs.bt_base.specs.declared.settings.Settings.{Settings}
use Rattle.link_talk.specs.bt_base.specs.Objects.{Object}
use Rattle.link_talk.specs.bt_base.specs.PlainSettings.{IsPlain}
use Rattle.push_model.specs.Server.{rfcomm_psm}
use Rattle.push_laws.specs.Occurrences.{Occurrence, Came, Went, Asked, Answering}
use Rattle.push_laws.specs.Gains.{objects}
use Rattle.push_laws.specs.Faults as with_faults
use Rattle.push_laws.specs.Faults.{Marked, marked_from, refusals}
use Rattle.push_laws.specs.Premises.{AllMayCome, AllMayFail}
use Rattle.push_laws.specs.Laws.{new_over}

-- ---- the frames

-- SABM and UA open the multiplexer
abbrev pub mux_asked : List ℕ
mux_asked = 0x03 ∷ 0x3F ∷ 0x01 ∷ 0x1C ∷ []

abbrev pub mux_granted : List ℕ
mux_granted = 0x03 ∷ 0x73 ∷ 0x01 ∷ 0xD7 ∷ []

-- PN asks for frames of 127 octets and for seven credits on DLCI 18, and grants them
abbrev pub numbers_asked : List ℕ
numbers_asked = 0x03 ∷ 0xEF ∷ 0x15 ∷ 0x83 ∷ 0x11 ∷ 0x12 ∷ 0xF0 ∷ 0x00 ∷ 0x00 ∷ 0x7F ∷ 0x00 ∷ 0x00 ∷ 0x07 ∷ 0x70 ∷ []

abbrev pub numbers_granted : List ℕ
numbers_granted = 0x01 ∷ 0xEF ∷ 0x15 ∷ 0x81 ∷ 0x11 ∷ 0x12 ∷ 0xE0 ∷ 0x00 ∷ 0x00 ∷ 0x7F ∷ 0x00 ∷ 0x00 ∷ 0x07 ∷ 0xAA ∷ []

-- SABM and UA open DLCI 18
abbrev pub channel_asked : List ℕ
channel_asked = 0x4B ∷ 0x3F ∷ 0x01 ∷ 0x32 ∷ []

abbrev pub channel_granted : List ℕ
channel_granted = 0x4B ∷ 0x73 ∷ 0x01 ∷ 0xF9 ∷ []

-- a final PUT with the Name "a", the Length 2 and the End of Body "hi", and the UIH frame that carries it
abbrev pub example_packet : List ℕ
example_packet =
    0x82 ∷ 0x00 ∷ 0x14 ∷ 0x01 ∷ 0x00 ∷ 0x07 ∷ 0x00 ∷ 0x61 ∷ 0x00 ∷ 0x00 ∷ 0xC3 ∷ 0x00 ∷ 0x00 ∷ 0x00 ∷ 0x02
    ∷ 0x49 ∷ 0x00 ∷ 0x05 ∷ 0x68 ∷ 0x69 ∷ []

abbrev pub example_frame : List ℕ
example_frame = 0x4B ∷ 0xEF ∷ 0x29 ∷ (example_packet ++ 0xCE ∷ [])

abbrev pub example_object : Object
example_object = record { name = 0x0061 ∷ []; octets = 0x68 ∷ 0x69 ∷ [] }

-- ---- what happens

abbrev pub came : List ℕ → Occurrence
came sdu = Came rfcomm_psm sdu

abbrev pub went : List ℕ → Occurrence
went sdu = Went rfcomm_psm sdu

abbrev pub opened : List Occurrence
opened =
    came mux_asked ∷ Asked ∷ went mux_granted
    ∷ came numbers_asked ∷ Asked ∷ went numbers_granted
    ∷ came channel_asked ∷ Asked ∷ went channel_granted ∷ []

-- an object is pushed; or the inbox fails at it
abbrev pub pushed : List Occurrence
pushed = opened ++ came example_frame ∷ []

abbrev pub pushed_in_vain : List Occurrence
pushed_in_vain = opened ++ Answering (Err Failed ∷ []) ∷ came example_frame ∷ []

-- ---- the laws

-- All of it may happen to a new server that is set as any is where nothing else is said, and spells the object.
abbrev pub OnePushIsHeard : Type 0
OnePushIsHeard = (settings : Settings) (before : List Object) → IsPlain settings → AllMayCome settings [] (new_over settings before) pushed × (objects settings pushed ≡ example_object ∷ [])

-- So it may where the inbox fails: the packet is the one that is marked, and spells nothing.
abbrev pub OneFaultIsHeard : Type 0
OneFaultIsHeard = (settings : Settings) (before : List Object) → IsPlain settings → let marked : List Marked = marked_from [] (new_over settings before) pushed_in_vain in
    AllMayFail settings [] (new_over settings before) pushed_in_vain × (refusals marked ≡ 1) × (with_faults.objects settings marked ≡ [])
