-- What a client asks of its server, and what comes of it.
use Rattle.std.specs.Prelude.{◌≡◌, Bool, true, false, List, Result, Ok, Err}
use Rattle.bt_base.specs.declared.no_memory.NoMemory.{NoMemory}
use Rattle.bt_base.specs.declared.ports.PortFault.{PortFault}
use Rattle.bt_base.specs.declared.ports.PortFault.TheVariants as fault
use Rattle.push_model.specs.Client.{Client}
use Rattle.push_model.specs.Steps as steps
use Rattle.push_model.specs.Steps.{Part, Stepped, Made, requests, sends_direct, sends_muxed}
use Rattle.push_client.specs.declared.asking.Ask.{Ask}
use Rattle.push_client.specs.declared.asking.Ask.TheVariants.{Connect, Put, Abort, Disconnect, Close, Nothing}

abbrev pub ask_of : Ask → steps.Ask
ask_of Connect = steps.Connect
ask_of Put = steps.Put
ask_of Abort = steps.Abort
ask_of Disconnect = steps.Disconnect
ask_of Close = steps.Close
ask_of Nothing = steps.Nothing

-- the request waits to be sent, or the shelf found no memory
abbrev pub outcome_of : Result (Unit {0}) NoMemory → Result (Unit {0}) PortFault
outcome_of (Ok done) = Ok done
outcome_of (Err lack) = Err fault.NoMemory

abbrev pub asked : Client → Result (Unit {0}) NoMemory → List Part → Made
asked client result parts = record { client = client; outcome = outcome_of result; left = parts }

-- the next PUT waits to be sent, or the shelf did not give its part of the object
abbrev pub made_by : Client → Result (Unit {0}) PortFault → List Part → Made
made_by client result parts = record { client = client; outcome = result; left = parts }

abbrev pub is_shortage : Result (Unit {0}) PortFault → Bool
is_shortage (Ok done) = false
is_shortage (Err fault.Failed) = false
is_shortage (Err fault.NoMemory) = true

-- where the push is, stays
pub record Stays (old new : Client) : Type 0 where
  pub stage : new.stage ≡ old.stage
  pub transport : new.transport ≡ old.transport
  pub failed : new.failed ≡ old.failed

-- the next PUT is of the same object, and of the same part of it
pub record PutsAlike (old new : Client) : Type 0 where
  pub session : new.session ≡ old.session
  pub name : new.name ≡ old.name
  pub size : new.size ≡ old.size
  pub limit : new.limit ≡ old.limit

-- a request and its first SDU, over L2CAP and through the multiplexer
abbrev pub sent_direct : steps.Ask → Client → List Part → Stepped
sent_direct ask client parts = let request = requests ask client parts in sends_direct request.outcome request

abbrev pub sent_through : steps.Ask → Client → List Part → Stepped
sent_through ask client parts = let request = requests ask client parts in sends_muxed request.outcome request
