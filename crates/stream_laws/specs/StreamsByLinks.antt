-- What `receive` stores is what the packets of its stream spell, over links of either transport (Object Push Profile 1.2, 4.3; IrOBEX 1.5, 3.4.3; RFCOMM 1.2, 5.1).
use Rattle.std.specs.Prelude.{ℕ, ◌≡◌, ◌≢◌, List, ◌++◌, Option, Some}
use Rattle.receiving.specs.bt_base.specs.declared.settings.Settings.{Settings}
use Rattle.receiving.specs.bt_base.specs.Objects.{Object, Contents}
use Rattle.receiving.specs.btpush_forms.specs.declared.status.Status.{Status}
use Rattle.receiving.specs.btpush_forms.specs.declared.status.Status.TheVariants as status
use Rattle.receiving.specs.capture.specs.Moves.{Move}
use Rattle.receiving.specs.push_terms.specs.declared.word.Side.TheVariants as sides
use Rattle.noting_laws.specs.obex_session.specs.Counting.{Counts}
use Rattle.noting_laws.specs.push_laws.specs.Laws.{stored_in}
use Rattle.noting_laws.specs.scenario_laws.specs.Gains.{holding}
use Rattle.either_laws.specs.orderly_laws.specs.unit_laws.specs.Units.{lone_capture}
use Rattle.receiving.specs.Turns.{Turn}
use Rattle.receiving.specs.Receiving.{Receives}
use Rattle.receive_laws.specs.Answers.{RoseNever}
use Rattle.receive_laws.specs.Quietly.{IsQuietStream}
use Rattle.receive_laws.specs.Moving.{MoveFromStart}
use Rattle.receive_laws.specs.Streams.{new_server, StoresSpelled}
use Rattle.either_laws.specs.ByLinks.{IsOrderlyByLinks, objects_by_links}

-- At each PDU that comes nothing waits by the packets that move, and these are orderly on each link, over its own transport.
pub record IsLinkedStream (settings : Settings) (before : List Object) (turns : List Turn) : Type 0 where
  pub quiet : IsQuietStream settings before (new_server settings before).said turns
  pub orderly : (moves : List Move) → MoveFromStart (new_server settings before).said turns moves → IsOrderlyByLinks settings (lone_capture sides.B moves)

-- The inbox gains exactly the objects that the packets spell which moved, link after link.
pub record GainsByLinks (settings : Settings) (before : List Object) (turns : List Turn) (inbox' : Option Contents) : Type 0 where
  pub moves : List Move
  pub move : MoveFromStart (new_server settings before).said turns moves
  pub gains : stored_in inbox' ≡ Some (before ++ objects_by_links settings (lone_capture sides.B moves))

-- So it is of such a stream, where neither count of the inbox rose.
abbrev pub ReceivesByLinks : Type 0
ReceivesByLinks = (source source' sink sink' trace trace' : Option (List ℕ)) (before : List Object) (inbox' : Option Contents) (counts counts' : Counts) (result : Status)
    (received : Receives source source' sink sink' trace trace' (holding before) inbox' counts counts' result) → result ≢ status.NoMemory → RoseNever counts counts'
    → IsLinkedStream received.settings before received.comes.halts.turns → GainsByLinks received.settings before received.comes.halts.turns inbox'

-- ---- as a clause says it

-- A new server was fed a source. Where its inbox tells what it holds, neither count of it rose, and memory was not wanting, that gains exactly the objects which the
-- packets spell: of packets that are orderly over one transport on all links, and of packets that are orderly on each link over its own.
pub record StoresByLinks (source source' sink sink' trace trace' : Option (List ℕ)) (inbox inbox' : Option Contents) (counts counts' : Counts) (result : Status) : Type 0 where
  pub stores : StoresSpelled source source' sink sink' trace trace' inbox inbox' counts counts' result
  pub linked : (before : List Object) → inbox ≡ holding before → result ≢ status.NoMemory → RoseNever counts counts' → IsLinkedStream stores.received.settings before stores.received.comes.halts.turns
      → GainsByLinks stores.received.settings before stores.received.comes.halts.turns inbox'

abbrev pub ReceivesStoreByLinks : Type 0
ReceivesStoreByLinks = (source source' sink sink' trace trace' : Option (List ℕ)) (inbox inbox' : Option Contents) (counts counts' : Counts) (result : Status) → Receives source source' sink sink' trace trace' inbox inbox' counts counts' result
    → StoresByLinks source source' sink sink' trace trace' inbox inbox' counts counts' result
