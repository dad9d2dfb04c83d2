-- The stream of packets over RFCOMM, as an assembler takes it piece by piece.
use Rattle.std.specs.Prelude.{◌≡◌, ◌<◌, ◌≤◌, ◌+◌, ℕ, false, List, [], length, drop, Option, Some, None, Result, Ok, Err, IfOk, IfSome}
use Rattle.bt_base.specs.declared.no_memory.NoMemory.{NoMemory}
use Rattle.obex_headers.specs.Assembling.{Assembling}
use Rattle.push_model.specs.Sessions.{Gift}
use Rattle.push_model.specs.Listening.{Listener, Heeded, Received, stops, hears_front}
use Rattle.push_model.specs.Streams.{front_of}

abbrev pub heeded : Listener → Gift → Heeded
heeded listener gift = record { listener = listener; gift = gift }

abbrev pub ended : Listener → List ℕ → Gift → Received
ended listener held gift = record { listener = listener; held = held; gift = gift }

-- the longest packet that the session over RFCOMM takes
abbrev pub longest : Listener → ℕ
longest listener = listener.service.sessions.carried.maximum

-- what stands at the front of a stream is heard
abbrev pub front_heard : (List ℕ → Listener → Gift → Received) → List ℕ → Listener → Gift → Received
front_heard more stream listener gift = hears_front more stream (front_of (longest listener) stream) listener gift

-- the assembler finds the packets that the session takes, and refused none
pub record Suits (assembler : Assembling) (listener : Listener) : Type 0 where
  pub sound : assembler.refusal ≡ None
  pub maximum : assembler.maximum ≡ longest listener

-- behind the front of a stream: what follows so many octets of the piece is heard, or nothing more is
abbrev pub goes_on : (List ℕ → Listener → Gift → Received) → List ℕ → List ℕ → Listener → Result (Option ℕ) NoMemory → Gift → Received
goes_on more piece held listener (Ok (Some used)) gift = more (drop used piece) listener gift
goes_on more piece held listener (Ok None) gift = ended listener held gift
goes_on more piece held listener (Err lack) gift = ended listener held gift

-- a packet of so many octets of the piece was heard, and what follows it is to be heard
pub record IsHeard (old : Assembling) (piece : List ℕ) (new : Assembling) (listener : Listener) (used : ℕ) : Type 0 where
  pub some : 0 < used
  pub within : used ≤ length piece
  pub held : new.held ≡ []
  pub works : stops listener ≡ false
