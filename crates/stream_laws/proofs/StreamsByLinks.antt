-- The inbox of a server gains what the packets of its stream spell, link after link.
use Rattle.std.proofs.Common.{◌≢◌, List, Option, sym, ap, subst, ◌∙◌}
use Rattle.std.specs.Prelude.{ℕ, Result, Ok, Err}
use Rattle.receiving.specs.bt_base.specs.Objects.{Object, Contents}
use Rattle.receiving.specs.btpush_forms.specs.declared.status.Status.{Status}
use Rattle.receiving.specs.btpush_forms.specs.declared.status.Status.TheVariants as status
use Rattle.noting_laws.specs.obex_session.specs.Counting.{Counts}
use Rattle.noting_laws.specs.push_laws.specs.Laws.{stored_in}
use Rattle.either_laws.specs.orderly_laws.specs.unit_laws.specs.Units.{units}
use Rattle.receiving.specs.declared.fault.ListenFault.{ListenFault}
use Rattle.receiving.specs.declared.fault.ListenFault.TheVariants.{Refused, ReadFault, WriteFault, NoMemory}
use Rattle.receiving.specs.Coming.{Unless}
use Rattle.receiving.specs.Receiving.{Tells, stored_by, Receives}
use Rattle.receive_laws.specs.Answers.{RoseNever}
use Rattle.receive_laws.specs.Streams.{StoresSpelled}
use Rattle.receive_laws.proofs.Freely.{quiet_streams_come_in_turn}
use Rattle.receive_laws.proofs.Spelled.{stores_spelled}
use Rattle.receive_laws.proofs.Streams.{streams_are_runs}
use Rattle.stream_laws.specs.StreamsByLinks.{IsLinkedStream, GainsByLinks, ReceivesByLinks, StoresByLinks, ReceivesStoreByLinks}
use Rattle.either_laws.proofs.ByLinks.{servers_gain_by_links}

-- the status tells want of memory
stored_there : (end : Result (Unit {0}) ListenFault) (trace trace' : Option (List ℕ)) (result : Status) (told : Type 0) → Tells end trace trace' result → result ≢ status.NoMemory → Unless end told → told
stored_there (Ok done) trace trace' result told tells not is = is
stored_there (Err (Refused refusal place)) trace trace' result told tells not is = is
stored_there (Err ReadFault) trace trace' result told tells not is = is
stored_there (Err WriteFault) trace trace' result told tells not is = is
stored_there (Err NoMemory) trace trace' result told tells not is = absurd (not tells.0)

pub receives_by_links : ReceivesByLinks
receives_by_links source source' sink sink' trace trace' before inbox' counts counts' result received not unrisen stream =
    let settings = received.settings in
    let halts = received.comes.halts in
    let stands_are = stored_there received.end trace trace' result _ received.tells not halts.there in
    let stored = stored_there received.end trace trace' result _ received.tells not received.stored in
    let answered = stored_there received.end trace trace' result _ received.tells not halts.answered in
    let granted = answered.granted unrisen.faults unrisen.shortages in
    let run = streams_are_runs settings before halts.turns halts.last halts.runs halts.each (quiet_streams_come_in_turn settings before halts.turns halts.last halts.runs halts.each granted stream.quiet) in
    record {
      moves = units run.occasions;
      move = run.moves;
      gains = ap stored_in (stored ∙ (ap stored_by stands_are ∙ sym run.inbox_is))
          ∙ servers_gain_by_links settings before run.occasions run.now run.did (record { untimed = run.untimed; granted = run.granted granted }) (stream.orderly (units run.occasions) run.moves);
    }

-- ---- as a clause says it

module _ (source source' sink sink' trace trace' : Option (List ℕ)) (inbox' : Option Contents) (counts counts' : Counts) (result : Status) where
  abbrev LinkedFrom : List Object → Option Contents → Type 0
  LinkedFrom before inbox = (received : Receives source source' sink sink' trace trace' inbox inbox' counts counts' result) → result ≢ status.NoMemory → RoseNever counts counts'
      → IsLinkedStream received.settings before received.comes.halts.turns → GainsByLinks received.settings before received.comes.halts.turns inbox'

  stores_more : (inbox : Option Contents) → StoresSpelled source source' sink sink' trace trace' inbox inbox' counts counts' result → StoresByLinks source source' sink sink' trace trace' inbox inbox' counts counts' result
  stores_more inbox stores = record {
    stores = stores;
    linked = λ before is. subst (LinkedFrom before) (sym is) (receives_by_links source source' sink sink' trace trace' before inbox' counts counts' result) stores.received;
  }

pub receives_store_by_links : ReceivesStoreByLinks
receives_store_by_links source source' sink sink' trace trace' inbox inbox' counts counts' result received =
    stores_more source source' sink sink' trace trace' inbox' counts counts' result inbox (stores_spelled source source' sink sink' trace trace' inbox inbox' counts counts' result received)
