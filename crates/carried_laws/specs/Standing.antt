-- How the conversation of a client and a server stands on the channel of their multiplexers, by the frames that passed there alone (TS 07.10, 5.4;
-- RFCOMM 1.2, 5 and 6.5).
use Rattle.std.specs.Prelude.{ℕ, ◌+◌, ◌-◌, ◌==◌, ◌&&◌, ◌||◌, Bool, false, List, [], ◌∷◌, ◌++◌, Ok, Err, if◌then◌else◌}
use Rattle.std.specs.List.{list_any}
use Rattle.push_laws.specs.push_model.specs.rfcomm_frames.specs.declared.connection.Role.{Role}
use Rattle.push_laws.specs.push_model.specs.rfcomm_frames.specs.declared.connection.Role.TheVariants.{Initiator, Responder}
use Rattle.push_laws.specs.push_model.specs.rfcomm_frames.specs.declared.frame.MuxKind.{MuxKind}
use Rattle.push_laws.specs.push_model.specs.rfcomm_frames.specs.declared.frame.MuxKind.TheVariants.{Sabm, Ua, Dm, Disc, Uih}
use Rattle.push_laws.specs.push_model.specs.rfcomm_frames.specs.Answers.{Answer}
use Rattle.push_laws.specs.push_model.specs.rfcomm_frames.specs.Frames.{PlainFrame}
use Rattle.push_laws.specs.push_model.specs.rfcomm_frames.specs.FrameReading.{frame_answer, messages}
use Rattle.push_laws.specs.push_model.specs.rfcomm_frames.specs.Multiplexing.{Passed}
use Rattle.push_laws.specs.rfcomm_laws.specs.Messages.{is_acceptance, all_elsewhere}
use Rattle.push_laws.specs.rfcomm_laws.specs.SingleAnswers.{due_in}
use Rattle.push_laws.specs.rfcomm_laws.specs.Totals.{bonus_of, cost_of}
use Rattle.push_laws.specs.Readings.{user_dlci}

pub record Standing : Type 0 where
  -- answers that may still be to come, one to each SABM, DISC and command; each frame of the server counts as one
  pub owed : ℕ
  -- SABM and DISC of the client, and PN for other channels than the user channel, without UA or DM of the server
  pub asked : ℕ
  -- the server accepted the terms of the user channel
  pub agreed : Bool
  -- the credits that the server granted to the client and those that this spent, and the other way round
  pub client_granted : ℕ
  pub client_spent : ℕ
  pub server_granted : ℕ
  pub server_spent : ℕ
  -- the information that the server sent on the user channel
  pub sent : List ℕ

abbrev pub start : Standing
start = record { owed = 0; asked = 0; agreed = false; client_granted = 0; client_spent = 0; server_granted = 0; server_spent = 0; sent = [] }

-- ---- what a frame is

-- it opens or closes a connection, or has PN for other channels, each answered by DM; or it answers such a frame
abbrev pub turns : MuxKind → PlainFrame → ℕ
turns Sabm f = 1
turns Ua f = 0
turns Dm f = 0
turns Disc f = 1
turns Uih f = if f.dlci == 0 then all_elsewhere user_dlci (messages f.octets) else 0

abbrev pub agrees : MuxKind → ℕ
agrees Sabm = 0
agrees Ua = 1
agrees Dm = 1
agrees Disc = 0
agrees Uih = 0

-- a response to PN is in it
abbrev pub accepts : MuxKind → PlainFrame → Bool
accepts Sabm f = false
accepts Ua f = false
accepts Dm f = false
accepts Disc f = false
accepts Uih f = (f.dlci == 0) && list_any is_acceptance (messages f.octets)

-- the information that it has on the user channel
abbrev pub informs : MuxKind → PlainFrame → List ℕ
informs Sabm f = []
informs Ua f = []
informs Dm f = []
informs Disc f = []
informs Uih f = if f.dlci == user_dlci then f.octets else []

-- ---- with one more

-- of the client, and of the server
abbrev pub comes : PlainFrame → Standing → Standing
comes f s = record s {
  owed = s.owed + due_in f.kind f;
  asked = s.asked + turns f.kind f;
  client_spent = s.client_spent + cost_of f;
  server_granted = s.server_granted + bonus_of user_dlci f;
}

abbrev pub goes : PlainFrame → Standing → Standing
goes f s = record s {
  owed = s.owed - 1;
  asked = s.asked - agrees f.kind;
  agreed = s.agreed || accepts f.kind f;
  client_granted = s.client_granted + bonus_of user_dlci f;
  server_spent = s.server_spent + cost_of f;
  sent = s.sent ++ informs f.kind f;
}

-- an SDU that is no frame changes nothing
abbrev pub passes_as : Role → Answer → Standing → Standing
passes_as Initiator (Ok f) s = comes f s
passes_as Responder (Ok f) s = goes f s
passes_as from (Err refusal) s = s

abbrev pub passes : Passed → Standing → Standing
passes p s = passes_as p.from (frame_answer p.sdu) s

abbrev pub stands_from : Standing → List Passed → Standing
stands_from s [] = s
stands_from s (p ∷ rest) = stands_from (passes p s) rest

abbrev pub standing : List Passed → Standing
standing passed = stands_from start passed
