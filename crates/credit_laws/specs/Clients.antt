-- The credits of a client over the frames that came to its multiplexer and went from it, from the opening of its channel on (RFCOMM 1.2, 6.5).
use Rattle.std.specs.Prelude.{ℕ, ◌<◌, ◌≤◌, ◌≡◌, List, [], ◌∷◌, ◌++◌, map}
use Rattle.std.specs.List.{flat_map}
use Rattle.inbox_laws.specs.bt_base.specs.declared.settings.Transport.TheVariants.{Rfcomm}
use Rattle.inbox_laws.specs.rfcomm_frames.specs.declared.connection.Role.TheVariants.{Initiator, Responder}
use Rattle.inbox_laws.specs.rfcomm_frames.specs.Ending.{no_course, to_closing}
use Rattle.inbox_laws.specs.rfcomm_frames.specs.Frames.{PlainFrame}
use Rattle.inbox_laws.specs.rfcomm_frames.specs.FrameReading.{frame_answer}
use Rattle.inbox_laws.specs.rfcomm_frames.specs.Multiplexing.{Framed, no_connections, granted, spent}
use Rattle.inbox_laws.specs.rfcomm_model.specs.Machine.{new_mux}
use Rattle.inbox_laws.specs.rfcomm_model.specs.Sides.{heard_frame}
use Rattle.inbox_laws.specs.push_model.specs.declared.course.Stage.TheVariants.{Object}
use Rattle.inbox_laws.specs.push_model.specs.Client.{Client}
use Rattle.inbox_laws.specs.push_model.specs.Laws.{Deed, done}
use Rattle.inbox_laws.specs.push_model.specs.Server.{rfcomm_psm}
use Rattle.inbox_laws.specs.push_laws.specs.Carriage.{frames_by, heard_by}

abbrev pub own_frame : PlainFrame → Framed
own_frame frame = record { from = Initiator; frame = frame }

-- the frames that come to it and that it asks to send, with one deed
abbrev pub framed_by : Deed → Client → List Framed
framed_by deed client = flat_map (λ sdu. heard_frame Responder (frame_answer sdu)) (heard_by deed) ++ map own_frame (frames_by deed client)

-- in their order
abbrev pub all_framed : List Deed → Client → List Framed
all_framed [] client = []
all_framed (deed ∷ deeds) client = framed_by deed client ++ all_framed deeds (done deed client)

-- it is on the channel of its object, which has just opened
pub record HasOpened (dlci : ℕ) (client : Client) : Type 0 where
  pub muxed : client.transport ≡ Rfcomm
  pub here : client.stage ≡ Object
  pub psm : client.psm ≡ rfcomm_psm
  pub largest : ℕ
  pub own : ℕ
  pub cap : ℕ
  pub mux : client.mux ≡ new_mux Initiator dlci largest own cap

-- Whatever it hears and whenever it is asked, and whatever its shelf answers: where each frame goes that it asks to send, what came granted it at least
-- what it spent.
abbrev pub ClientsAreCovered : Type 0
ClientsAreCovered = (dlci : ℕ) (client : Client) (deeds : List Deed) → 0 < dlci → HasOpened dlci client →
    let live = to_closing dlci Initiator no_course (all_framed deeds client) in
    spent dlci Initiator live ≤ granted dlci Initiator no_connections live
