-- What `receive` stores is what the packets of its stream spell (Object Push Profile 1.2, 4.3; IrOBEX 1.5, 3.4.3).
use Rattle.std.specs.Prelude.{ℕ, ◌≡◌, ◌≢◌, List, ◌++◌, Option, Some}
use Rattle.std.specs.List.{AllByRecursion}
use Rattle.receiving.specs.bt_base.specs.declared.settings.Settings.{Settings}
use Rattle.receiving.specs.bt_base.specs.declared.settings.Transport.TheVariants.{Rfcomm}
use Rattle.receiving.specs.bt_base.specs.Objects.{Object, Contents}
use Rattle.receiving.specs.btpush_forms.specs.declared.status.Status.{Status}
use Rattle.receiving.specs.btpush_forms.specs.declared.status.Status.TheVariants as status
use Rattle.receiving.specs.h4_framing.specs.Packets.{IsPacket}
use Rattle.receiving.specs.capture.specs.Moves.{Move}
use Rattle.receiving.specs.push_terms.specs.declared.word.Side.TheVariants as sides
use Rattle.noting_laws.specs.link_talk.specs.Captures.{objects_heard}
use Rattle.noting_laws.specs.link_talk.specs.declared.party.Party.{Party}
use Rattle.receiving.specs.host_link.specs.declared.role.Role.TheVariants.{Server}
use Rattle.noting_laws.specs.obex_session.specs.Counting.{Counts}
use Rattle.noting_laws.specs.push_laws.specs.Laws.{stored_in}
use Rattle.noting_laws.specs.push_laws.specs.Premises.{AllGranted}
use Rattle.receiving.specs.host_model.specs.Circumstances.{Circumstance, answers_in}
use Rattle.receiving.specs.host_model.specs.Hosts.{Host}
use Rattle.receiving.specs.host_model.specs.Servers.{ServerProfile}
use Rattle.noting_laws.specs.host_laws.specs.Calls.{HostsAsk}
use Rattle.noting_laws.specs.host_laws.specs.Carriers.{reader}
use Rattle.noting_laws.specs.scenario_laws.specs.Gains.{holding, serving}
use Rattle.noting_laws.specs.scenario_laws.specs.Parties.{party_of}
use Rattle.receiving.specs.bt_host.specs.Noting.{Noted}
use Rattle.receiving.specs.bt_host.specs.NotedHosts.{noted_server}
use Rattle.receiving.specs.bt_host.specs.Refusals.{acl_limit}
use Rattle.orderly_laws.specs.unit_laws.specs.Units.{Lined, Occasion, units, lone_capture}
use Rattle.orderly_laws.specs.unit_laws.specs.Calls.{gifts_in}
use Rattle.orderly_laws.specs.unit_laws.specs.Living.{Did}
use Rattle.orderly_laws.specs.unit_laws.specs.Laws.{FiresNone}
use Rattle.orderly_laws.specs.Served.{IsAskedOver, GainsAsItLived}
use Rattle.orderly_laws.specs.Carried.{IsCarriedInput}
use Rattle.orderly_laws.specs.Orderly.{IsOrderlyInput}
use Rattle.receiving.specs.Turns.{Begun, begun, Posture, Turn, HasTurns, packets_in}
use Rattle.receiving.specs.Receiving.{new_server_host, stored_by, Receives}
use Rattle.receive_laws.specs.Answers.{GrantsAllAsked, RoseNever}
use Rattle.receive_laws.specs.Freely.{IsFreeStream}
use Rattle.receive_laws.specs.Quietly.{IsQuietStream}
use Rattle.receive_laws.specs.InTurn.{AreInTurn, AreFree}
use Rattle.receive_laws.specs.Moving.{MoveFromStart}

-- a new server of these settings, whose inbox stored these, and which put its first command out
abbrev pub new_server : Settings → List Object → Begun (Noted ServerProfile)
new_server settings before = begun (new_server_host settings (holding before))

-- What such a server does with a stream is a run of it over units: these are the packets that it heard, and behind each those that it put out.
pub record IsRunOverUnits (settings : Settings) (before : List Object) (turns : List Turn) (last : Posture (Noted ServerProfile)) (runs : HasTurns (noted_server settings) turns (new_server settings before).posture last) : Type 0 where
  pub occasions : List (Occasion Circumstance)
  pub now : Lined (Host ServerProfile)
  pub did : Did (serving settings before) Server occasions now
  pub moves : MoveFromStart (new_server settings before).said turns (units occasions)
  pub inbox_is : now.upper.profile.inbox.content ≡ stored_by last.stands
  pub untimed : AllByRecursion FiresNone occasions
  -- where no call of its inbox failed, none of those fails that the inbox is to answer
  pub granted : GrantsAllAsked (noted_server settings) turns (new_server settings before).posture last runs → AllByRecursion (λ (gift : List Circumstance). AllGranted (answers_in gift)) (gifts_in occasions)

-- So it is where each packet comes in turn.
abbrev pub StreamsAreRuns : Type 0
StreamsAreRuns = (settings : Settings) (before : List Object) (turns : List Turn) (last : Posture (Noted ServerProfile)) (runs : HasTurns (noted_server settings) turns (new_server settings before).posture last)
    → AllByRecursion (IsPacket acl_limit) (packets_in turns) → AreInTurn (noted_server settings) turns (new_server settings before).posture last runs → IsRunOverUnits settings before turns last runs

-- And each does where the ledger of the server has a buffer free at each PDU that it is told of.
abbrev pub FreeBuffersSuffice : Type 0
FreeBuffersSuffice = (settings : Settings) (before : List Object) (turns : List Turn) (last : Posture (Noted ServerProfile)) (runs : HasTurns (noted_server settings) turns (new_server settings before).posture last)
    → AllByRecursion (IsPacket acl_limit) (packets_in turns) → AreFree (noted_server settings) turns (new_server settings before).posture last runs → AreInTurn (noted_server settings) turns (new_server settings before).posture last runs

-- So it has where its controller has one by the packets that move alone.
abbrev pub FreeStreamsComeInTurn : Type 0
FreeStreamsComeInTurn = (settings : Settings) (before : List Object) (turns : List Turn) (last : Posture (Noted ServerProfile)) (runs : HasTurns (noted_server settings) turns (new_server settings before).posture last)
    → AllByRecursion (IsPacket acl_limit) (packets_in turns) → IsFreeStream (new_server settings before).said turns → AreInTurn (noted_server settings) turns (new_server settings before).posture last runs

-- And so does each where by them nothing that the server has to say waits at each PDU that comes, which is so of free ones, and no call of its inbox failed.
abbrev pub QuietStreamsComeInTurn : Type 0
QuietStreamsComeInTurn = (settings : Settings) (before : List Object) (turns : List Turn) (last : Posture (Noted ServerProfile)) (runs : HasTurns (noted_server settings) turns (new_server settings before).posture last)
    → AllByRecursion (IsPacket acl_limit) (packets_in turns) → GrantsAllAsked (noted_server settings) turns (new_server settings before).posture last runs → IsQuietStream settings before (new_server settings before).said turns
    → AreInTurn (noted_server settings) turns (new_server settings before).posture last runs

abbrev pub FreeStreamsAreQuiet : Type 0
FreeStreamsAreQuiet = (settings : Settings) (before : List Object) (turns : List Turn) → IsFreeStream (new_server settings before).said turns → IsQuietStream settings before (new_server settings before).said turns

-- The packets that `receive` heard, and behind each those that it put out: at each PDU that comes nothing waits by them, and they are orderly input.
pub record IsOrderlyStream (settings : Settings) (before : List Object) (turns : List Turn) : Type 0 where
  pub quiet : IsQuietStream settings before (new_server settings before).said turns
  pub orderly : (moves : List Move) → MoveFromStart (new_server settings before).said turns moves → IsOrderlyInput settings (lone_capture sides.B moves)

-- The inbox gains exactly the objects that the packets spell which moved, in the order of their last packets, as this party reads them.
pub record GainsSpelled (party : Party) (settings : Settings) (before : List Object) (turns : List Turn) (inbox' : Option Contents) : Type 0 where
  pub moves : List Move
  pub move : MoveFromStart (new_server settings before).said turns moves
  pub gains : stored_in inbox' ≡ Some (before ++ objects_heard party sides.B (lone_capture sides.B moves))

-- So it is of such a stream, over L2CAP, where neither count of the inbox rose.
abbrev pub ReceivesSpelled : Type 0
ReceivesSpelled = (source source' sink sink' trace trace' : Option (List ℕ)) (before : List Object) (inbox' : Option Contents) (counts counts' : Counts) (result : Status)
    (received : Receives source source' sink sink' trace trace' (holding before) inbox' counts counts' result) → result ≢ status.NoMemory → RoseNever counts counts'
    → IsOrderlyStream received.settings before received.comes.halts.turns → GainsSpelled (party_of received.settings sides.B) received.settings before received.comes.halts.turns inbox'

-- ---- over RFCOMM

-- At each PDU that comes nothing waits by the packets that move, and they are orderly input over RFCOMM.
pub record IsFramedStream (settings : Settings) (before : List Object) (turns : List Turn) : Type 0 where
  pub quiet : IsQuietStream settings before (new_server settings before).said turns
  pub orderly : (moves : List Move) → MoveFromStart (new_server settings before).said turns moves → IsCarriedInput settings (lone_capture sides.B moves)

-- Of such a stream the inbox gains exactly the objects that the packets spell which moved, as a server over RFCOMM reads them.
abbrev pub ReceivesFramed : Type 0
ReceivesFramed = (source source' sink sink' trace trace' : Option (List ℕ)) (before : List Object) (inbox' : Option Contents) (counts counts' : Counts) (result : Status)
    (received : Receives source source' sink sink' trace trace' (holding before) inbox' counts counts' result) → result ≢ status.NoMemory → RoseNever counts counts'
    → IsFramedStream received.settings before received.comes.halts.turns → GainsSpelled (reader received.settings received.settings.mps Rfcomm) received.settings before received.comes.halts.turns inbox'

-- ---- over RFCOMM, where input is not orderly

-- At each PDU that comes nothing waits by the packets that move, and on each link one channel is asked for, that of the multiplexer, besides that of service
-- discovery.
pub record IsCarriedStream (settings : Settings) (before : List Object) (turns : List Turn) : Type 0 where
  pub quiet : IsQuietStream settings before (new_server settings before).said turns
  pub asked : (moves : List Move) → MoveFromStart (new_server settings before).said turns moves → IsAskedOver Rfcomm (lone_capture sides.B moves)

-- These packets are a run of the server over units, by which its inbox came to this; and if nothing that came over RFCOMM was lost as it lived through them, it
-- gained what they spell.
pub record StoresCarried (asks : HostsAsk) (settings : Settings) (before : List Object) (turns : List Turn) (inbox' : Option Contents) : Type 0 where
  pub occasions : List (Occasion Circumstance)
  pub now : Lined (Host ServerProfile)
  pub did : Did (serving settings before) Server occasions now
  pub move : MoveFromStart (new_server settings before).said turns (units occasions)
  pub inbox_is : now.upper.profile.inbox.content ≡ inbox'
  pub lives : GainsAsItLived asks settings before Rfcomm occasions now.upper

pub record ReceivesCarried : Type 0 where
  pub asks : HostsAsk
  pub stores : (source source' sink sink' trace trace' : Option (List ℕ)) (before : List Object) (inbox' : Option Contents) (counts counts' : Counts) (result : Status)
      (received : Receives source source' sink sink' trace trace' (holding before) inbox' counts counts' result) → result ≢ status.NoMemory → RoseNever counts counts'
      → IsCarriedStream received.settings before received.comes.halts.turns → StoresCarried asks received.settings before received.comes.halts.turns inbox'

-- ---- both, as a clause says it

-- A new server was fed a source. Of packets that are orderly, where its inbox tells what it holds, neither count of it rose, and memory was not wanting, that gains exactly
-- the objects that they spell: over
-- L2CAP, and over RFCOMM.
pub record StoresSpelled (source source' sink sink' trace trace' : Option (List ℕ)) (inbox inbox' : Option Contents) (counts counts' : Counts) (result : Status) : Type 0 where
  pub received : Receives source source' sink sink' trace trace' inbox inbox' counts counts' result
  pub spelled : (before : List Object) → inbox ≡ holding before → result ≢ status.NoMemory → RoseNever counts counts' → IsOrderlyStream received.settings before received.comes.halts.turns
      → GainsSpelled (party_of received.settings sides.B) received.settings before received.comes.halts.turns inbox'
  pub framed : (before : List Object) → inbox ≡ holding before → result ≢ status.NoMemory → RoseNever counts counts' → IsFramedStream received.settings before received.comes.halts.turns
      → GainsSpelled (reader received.settings received.settings.mps Rfcomm) received.settings before received.comes.halts.turns inbox'
