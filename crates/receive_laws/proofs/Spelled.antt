-- The inbox of a server gains what the packets of its stream spell.
use Rattle.std.proofs.Common.{◌≡◌, ◌≢◌, ℕ, List, Option, sym, ap, subst, ◌∙◌}
use Rattle.std.specs.Prelude.{Result, Ok, Err}
use Rattle.std.specs.List.{AllByRecursion}
use Rattle.receiving.specs.bt_base.specs.declared.settings.Settings.{Settings}
use Rattle.receiving.specs.bt_base.specs.Objects.{Object, Contents}
use Rattle.receiving.specs.bt_base.specs.declared.settings.Transport.TheVariants.{Rfcomm}
use Rattle.receiving.specs.btpush_forms.specs.declared.status.Status.{Status}
use Rattle.receiving.specs.btpush_forms.specs.declared.status.Status.TheVariants as status
use Rattle.receiving.specs.push_terms.specs.declared.word.Side.TheVariants as sides
use Rattle.noting_laws.specs.obex_session.specs.Counting.{Counts}
use Rattle.noting_laws.specs.push_laws.specs.Laws.{stored_in}
use Rattle.noting_laws.specs.host_laws.specs.Carriers.{reader}
use Rattle.orderly_laws.specs.Orderly.{IsGrant}
use Rattle.orderly_laws.specs.unit_laws.specs.Calls.{gifts_in}
use Rattle.orderly_laws.specs.unit_laws.specs.Units.{units}
use Rattle.orderly_laws.proofs.Carried.{servers_gain_carried}
use Rattle.orderly_laws.proofs.Served.{servers_gain_served}
use Rattle.orderly_laws.proofs.Gaining.{servers_gain_asked}
use Rattle.receiving.specs.declared.fault.ListenFault.{ListenFault}
use Rattle.receiving.specs.declared.fault.ListenFault.TheVariants.{Refused, ReadFault, WriteFault, NoMemory}
use Rattle.receiving.specs.Coming.{Unless}
use Rattle.receiving.specs.Receiving.{Tells, stored_by, Receives}
use Rattle.receiving.specs.Turns.{Posture, Turn, HasTurns}
use Rattle.receiving.specs.host_model.specs.Servers.{ServerProfile}
use Rattle.receiving.specs.bt_host.specs.Noting.{Noted}
use Rattle.receiving.specs.bt_host.specs.NotedHosts.{noted_server}
use Rattle.noting_laws.specs.scenario_laws.specs.Gains.{holding}
use Rattle.noting_laws.specs.scenario_laws.specs.Parties.{party_of}
use Rattle.receive_laws.specs.Answers.{RoseNever}
use Rattle.receive_laws.specs.Quietly.{IsQuietStream}
use Rattle.receive_laws.specs.Streams.{new_server, IsRunOverUnits, IsOrderlyStream, GainsSpelled, ReceivesSpelled, IsFramedStream, ReceivesFramed, ReceivesCarried, StoresSpelled}
use Rattle.receive_laws.proofs.Freely.{quiet_streams_come_in_turn}
use Rattle.receive_laws.proofs.Streams.{streams_are_runs}

-- the status tells want of memory
stored_there : (end : Result (Unit {0}) ListenFault) (trace trace' : Option (List ℕ)) (result : Status) (told : Type 0) → Tells end trace trace' result → result ≢ status.NoMemory → Unless end told → told
stored_there (Ok done) trace trace' result told tells not is = is
stored_there (Err (Refused refusal place)) trace trace' result told tells not is = is
stored_there (Err ReadFault) trace trace' result told tells not is = is
stored_there (Err WriteFault) trace trace' result told tells not is = is
stored_there (Err NoMemory) trace trace' result told tells not is = absurd (not tells.0)

-- what `receive` did with its stream is a run of its server, and its inbox came to hold what that of the server holds
record Stored (settings : Settings) (before : List Object) (inbox' : Option Contents) (turns : List Turn) (last : Posture (Noted ServerProfile)) (runs : HasTurns (noted_server settings) turns (new_server settings before).posture last) : Type 0 where
  run : IsRunOverUnits settings before turns last runs
  inbox_is : run.now.upper.profile.inbox.content ≡ inbox'
  grants : AllByRecursion IsGrant (gifts_in run.occasions)

stored_by_run : (source source' sink sink' trace trace' : Option (List ℕ)) (before : List Object) (inbox' : Option Contents) (counts counts' : Counts) (result : Status)
    (received : Receives source source' sink sink' trace trace' (holding before) inbox' counts counts' result) → result ≢ status.NoMemory → RoseNever counts counts'
    → IsQuietStream received.settings before (new_server received.settings before).said received.comes.halts.turns → Stored received.settings before inbox' received.comes.halts.turns received.comes.halts.last received.comes.halts.runs
stored_by_run source source' sink sink' trace trace' before inbox' counts counts' result received not unrisen quiet =
    let settings = received.settings in
    let halts = received.comes.halts in
    let stands_are = stored_there received.end trace trace' result _ received.tells not halts.there in
    let stored = stored_there received.end trace trace' result _ received.tells not received.stored in
    let answered = stored_there received.end trace trace' result _ received.tells not halts.answered in
    let granted = answered.granted unrisen.faults unrisen.shortages in
    let run = streams_are_runs settings before halts.turns halts.last halts.runs halts.each (quiet_streams_come_in_turn settings before halts.turns halts.last halts.runs halts.each granted quiet) in
    record {
      run = run;
      inbox_is = sym (stored ∙ (ap stored_by stands_are ∙ sym run.inbox_is));
      grants = run.granted granted;
    }

pub receives_spelled : ReceivesSpelled
receives_spelled source source' sink sink' trace trace' before inbox' counts counts' result received not unrisen orderly =
    let so = stored_by_run source source' sink sink' trace trace' before inbox' counts counts' result received not unrisen orderly.quiet in
    let run = so.run in
    record {
      moves = units run.occasions;
      move = run.moves;
      gains = ap stored_in (sym so.inbox_is)
          ∙ servers_gain_asked received.settings before run.occasions run.now received.plain.transport run.did (record { untimed = run.untimed; granted = so.grants }) (orderly.orderly (units run.occasions) run.moves);
    }

pub receives_framed : ReceivesFramed
receives_framed source source' sink sink' trace trace' before inbox' counts counts' result received not unrisen framed =
    let so = stored_by_run source source' sink sink' trace trace' before inbox' counts counts' result received not unrisen framed.quiet in
    let run = so.run in
    record {
      moves = units run.occasions;
      move = run.moves;
      gains = ap stored_in (sym so.inbox_is)
          ∙ servers_gain_carried received.settings before run.occasions run.now run.did (record { untimed = run.untimed; granted = so.grants }) (framed.orderly (units run.occasions) run.moves);
    }

pub receives_carried : ReceivesCarried
receives_carried = record {
  asks = servers_gain_served.asks;
  stores = λ source source' sink sink' trace trace' before inbox' counts counts' result received not unrisen carried.
      let so = stored_by_run source source' sink sink' trace trace' before inbox' counts counts' result received not unrisen carried.quiet in
      let run = so.run in
      record {
        occasions = run.occasions;
        now = run.now;
        did = run.did;
        move = run.moves;
        inbox_is = so.inbox_is;
        lives = servers_gain_served.gains Rfcomm received.settings before run.occasions run.now run.did so.grants (carried.asked (units run.occasions) run.moves);
      };
}

-- ---- as a clause says it

module _ (source source' sink sink' trace trace' : Option (List ℕ)) (before : List Object) (inbox' : Option Contents) (counts counts' : Counts) (result : Status) where
  abbrev SpelledFrom : Option Contents → Type 0
  SpelledFrom inbox = (received : Receives source source' sink sink' trace trace' inbox inbox' counts counts' result) → result ≢ status.NoMemory → RoseNever counts counts'
      → IsOrderlyStream received.settings before received.comes.halts.turns → GainsSpelled (party_of received.settings sides.B) received.settings before received.comes.halts.turns inbox'

  abbrev FramedFrom : Option Contents → Type 0
  FramedFrom inbox = (received : Receives source source' sink sink' trace trace' inbox inbox' counts counts' result) → result ≢ status.NoMemory → RoseNever counts counts'
      → IsFramedStream received.settings before received.comes.halts.turns → GainsSpelled (reader received.settings received.settings.mps Rfcomm) received.settings before received.comes.halts.turns inbox'

pub stores_spelled : (source source' sink sink' trace trace' : Option (List ℕ)) (inbox inbox' : Option Contents) (counts counts' : Counts) (result : Status) → Receives source source' sink sink' trace trace' inbox inbox' counts counts' result
    → StoresSpelled source source' sink sink' trace trace' inbox inbox' counts counts' result
stores_spelled source source' sink sink' trace trace' inbox inbox' counts counts' result received = record {
  received = received;
  spelled = λ before is. subst (SpelledFrom source source' sink sink' trace trace' before inbox' counts counts' result) (sym is) (receives_spelled source source' sink sink' trace trace' before inbox' counts counts' result) received;
  framed = λ before is. subst (FramedFrom source source' sink sink' trace trace' before inbox' counts counts' result) (sym is) (receives_framed source source' sink sink' trace trace' before inbox' counts counts' result) received;
}
