-- What stands under the line of a whole PDU, by what its channel carries (this project's own).
use Rattle.std.specs.Prelude.{ℕ, ◌-◌, List, [], ◌∷◌, ◌++◌, length, take, drop, cond, ◌==◌, nat_lt, Ok, Err, codes, decimal}
use Rattle.std.specs.List.{flat_map}
use Rattle.hex.specs.Hex.{encode_upper}
use Rattle.sdp_elements.specs.Pdus.{states_length}
use Rattle.rfcomm_frames.specs.declared.frame.MuxKind.{MuxKind}
use Rattle.rfcomm_frames.specs.declared.frame.MuxKind.TheVariants.{Sabm, Ua, Dm, Disc, Uih}
use Rattle.rfcomm_frames.specs.declared.refusal.MuxRefusal.{MuxRefusal}
use Rattle.rfcomm_frames.specs.declared.refusal.MuxRefusal.TheVariants as mux
use Rattle.rfcomm_frames.specs.Frames.{bit}
use Rattle.rfcomm_frames.specs.Answers.{Answer as MuxAnswer}
use Rattle.rfcomm_frames.specs.FrameReading.{frame_answer}
use Rattle.ertm_frames.specs.declared.frame.SKind.{SKind}
use Rattle.ertm_frames.specs.declared.frame.SKind.TheVariants.{Rr, Rej, Rnr, Srej}
use Rattle.ertm_frames.specs.declared.refusal.FrameRefusal.{FrameRefusal}
use Rattle.ertm_frames.specs.declared.refusal.FrameRefusal.TheVariants as enhanced
use Rattle.ertm_frames.specs.Frames.{information, supervisory}
use Rattle.ertm_frames.specs.Answers.{Answer as FrameAnswer}
use Rattle.ertm_frames.specs.Reading.{answer_in}
use Rattle.seen_channels.specs.declared.direction.Direction.{Direction}
use Rattle.seen_channels.specs.declared.channel.Protocol.{Protocol}
use Rattle.seen_channels.specs.declared.channel.Protocol.TheVariants as carries
use Rattle.seen_channels.specs.Tellings.{Learnt, protocol}
use Rattle.h4_view.specs.Signals.{signals_text}

-- a name, and numbers with a blank before each
abbrev pub numbered : List ℕ → List ℕ → List ℕ
numbered name numbers = name ++ (flat_map (λ number. codes " " ++ decimal number) numbers ++ codes "\n")

-- a refusal of what a layer carries
abbrev pub refused : List ℕ → List ℕ → List ℕ
refused layer name = layer ++ (name ++ codes "\n")

-- a PDU of service discovery: its identifier, its transaction and the length of its parameters, as they stand (Core
-- 5.1, Volume 3 Part B, 4.2.1)
abbrev pub sdp_text : List ℕ → List ℕ
sdp_text payload =
    cond (nat_lt (length payload) 5) (codes "  sdp bad\n")
    (codes "  sdp " ++ (encode_upper (take 1 payload) ++ (codes " " ++ (encode_upper (take 2 (drop 1 payload)) ++ numbered [] (states_length payload ∷ [])))))

-- the names of frames (TS 07.10, 5.2.1.3) and why octets are none
abbrev pub mux_name : MuxKind → List ℕ
mux_name Sabm = codes "  rfcomm SABM"
mux_name Ua = codes "  rfcomm UA"
mux_name Dm = codes "  rfcomm DM"
mux_name Disc = codes "  rfcomm DISC"
mux_name Uih = codes "  rfcomm UIH"

abbrev pub mux_refusal : MuxRefusal → List ℕ
mux_refusal mux.Short = codes "Short"
mux_refusal mux.BadExtension = codes "BadExtension"
mux_refusal mux.BadControl = codes "BadControl"
mux_refusal mux.LengthMismatch = codes "LengthMismatch"
mux_refusal mux.BadFcs = codes "BadFcs"

-- a frame of RFCOMM: its kind, its channel, its P/F bit and how many octets of information it has
abbrev pub rfcomm_text : MuxAnswer → List ℕ
rfcomm_text (Ok frame) = numbered (mux_name frame.kind) (frame.dlci ∷ bit frame.pf ∷ length frame.octets ∷ [])
rfcomm_text (Err refusal) = refused (codes "  rfcomm bad ") (mux_refusal refusal)

-- the names of S-frames (Core 5.1, Volume 3 Part A, 3.3.2) and why a PDU is no frame
abbrev pub supervisory_name : SKind → List ℕ
supervisory_name Rr = codes "  ertm RR"
supervisory_name Rej = codes "  ertm REJ"
supervisory_name Rnr = codes "  ertm RNR"
supervisory_name Srej = codes "  ertm SREJ"

abbrev pub frame_refusal : FrameRefusal → List ℕ
frame_refusal enhanced.Short = codes "Short"
frame_refusal enhanced.BadFcs = codes "BadFcs"
frame_refusal enhanced.ReservedSet = codes "ReservedSet"
frame_refusal enhanced.BadStart = codes "BadStart"
frame_refusal enhanced.AboveMps = codes "AboveMps"

-- a frame of enhanced retransmission mode. An I-frame: TxSeq, F, ReqSeq, SAR and how many octets it carries; an S-frame:
-- P, F and ReqSeq
abbrev pub ertm_text : FrameAnswer → List ℕ
ertm_text (Ok (information tx final req sar total octets)) = numbered (codes "  ertm I") (tx ∷ bit final ∷ req ∷ sar ∷ length octets ∷ [])
ertm_text (Ok (supervisory kind poll final req)) = numbered (supervisory_name kind) (bit poll ∷ bit final ∷ req ∷ [])
ertm_text (Err refusal) = refused (codes "  ertm bad ") (frame_refusal refusal)

-- a PDU by what its channel carries. A receiver of frames is taken to have room for any
abbrev pub protocol_text : Protocol → List ℕ → List ℕ
protocol_text carries.Sdp pdu = sdp_text (drop 4 pdu)
protocol_text carries.Rfcomm pdu = rfcomm_text (frame_answer (drop 4 pdu))
protocol_text carries.Enhanced pdu = ertm_text (answer_in 65535 pdu)
protocol_text carries.Data pdu = numbered (codes "  data") ((length pdu - 4) ∷ [])

-- what stands under the line of a PDU: channel 1 is the signalling channel
abbrev pub nested_text : Learnt → Direction → ℕ → List ℕ → List ℕ
nested_text learnt direction channel pdu = cond (channel == 0x0001) (signals_text (drop 4 pdu)) (protocol_text (protocol learnt direction channel) pdu)
