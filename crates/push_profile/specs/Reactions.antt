-- What the calls of a server do: the pure machine goes from what was to what is, whatever answers of the inbox are left over.
use Rattle.std.specs.Prelude.{◌≡◌, ℕ, Bool, List, [], ◌++◌, length, drop, Option, Result, IsTrue, IfOk, is_err}
use Rattle.bt_base.specs.Counts.{HasRisen}
use Rattle.bt_base.specs.Objects.{Contents}
use Rattle.bt_base.specs.declared.no_memory.NoMemory.{NoMemory}
use Rattle.bt_base.specs.declared.settings.Transport.{Transport}
use Rattle.obex_session.specs.Counting.{Counts, AreCounted}
use Rattle.obex_session.specs.InboxCalls.{Answer}
use Rattle.push_model.specs.Sessions.{Sessions, Gift, lets_go, answers_to, hears}
use Rattle.push_model.specs.Service.{Service, hears_packet, parts}

abbrev pub given : Option Contents → List Answer → Gift
given content answers = record { content = content; answers = answers }

-- a reaction with some answers of the inbox comes to an end with those that are left over, whichever they are; want of
-- memory is answered where the inbox had none, and both counts of the inbox say what it answered
pub record Comes {R : Type 0} (reaction end : Gift → R) (content content' : Option Contents) (counts counts' : Counts) (lacks : Bool) : Type 0 where
  pub used : List Answer
  pub comes : (rest : List Answer) → reaction (given content (used ++ rest)) ≡ end (given content' rest)
  pub short : IsTrue lacks → HasRisen counts.shortages counts'.shortages
  pub counted : AreCounted used counts counts'

-- an object is let go
pub record LetsGo (transport : Transport) (old new : Sessions) (content content' : Option Contents) (counts counts' : Counts) (result : Result (Unit {0}) NoMemory) : Type 0 where
  pub used : List Answer
  pub parted : (rest : List Answer) → lets_go transport old (given content (used ++ rest)) ≡ record { sessions = new; short = is_err result; gift = given content' rest }
  -- want of memory is answered where the inbox had none
  pub short : IsTrue (is_err result) → HasRisen counts.shortages counts'.shortages
  pub counted : AreCounted used counts counts'

-- the session over a transport answers a packet: so many octets of a response, or none
pub record AnswersTo (transport : Transport) (old new : Sessions) (packet : List ℕ) (content content' : Option Contents) (counts counts' : Counts) (room room' : List ℕ) (result : Result ℕ NoMemory) : Type 0 where
  pub used : List Answer
  pub response : List ℕ
  pub heard : (rest : List Answer) → answers_to transport packet old (given content (used ++ rest)) ≡ record { sessions = new; response = response; short = is_err result; gift = given content' rest }
  pub written : IfOk result (λ count. (count ≡ length response) × (room' ≡ response ++ drop count room))
  pub none : IsTrue (is_err result) → response ≡ []
  pub short : IsTrue (is_err result) → HasRisen counts.shortages counts'.shortages
  pub counted : AreCounted used counts counts'

-- the same, and a Name first lets go of an object that is under way over the other transport
pub record HearsPacket (transport : Transport) (old new : Sessions) (packet : List ℕ) (content content' : Option Contents) (counts counts' : Counts) (room room' : List ℕ) (result : Result ℕ NoMemory) : Type 0 where
  pub used : List Answer
  pub response : List ℕ
  pub heard : (rest : List Answer) → hears transport packet old (given content (used ++ rest)) ≡ record { sessions = new; response = response; short = is_err result; gift = given content' rest }
  pub written : IfOk result (λ count. (count ≡ length response) × (room' ≡ response ++ drop count room))
  pub none : IsTrue (is_err result) → response ≡ []
  pub short : IsTrue (is_err result) → HasRisen counts.shortages counts'.shortages
  pub counted : AreCounted used counts counts'

-- ---- the service

-- its session lets go of its object
pub record ServiceParts (transport : Transport) (old new : Service) (content content' : Option Contents) (counts counts' : Counts) (result : Result (Unit {0}) NoMemory) : Type 0 where
  pub used : List Answer
  pub parted : (rest : List Answer) → parts transport old (given content (used ++ rest)) ≡ record { service = new; gift = given content' rest }
  pub fails : is_err result ≡ new.failed
  pub short : IsTrue (is_err result) → HasRisen counts.shortages counts'.shortages
  pub counted : AreCounted used counts counts'

-- it hears a packet
pub record ServiceHears (transport : Transport) (old new : Service) (packet : List ℕ) (content content' : Option Contents) (counts counts' : Counts) (result : Result (Unit {0}) NoMemory) : Type 0 where
  pub used : List Answer
  pub heard : (rest : List Answer) → hears_packet transport packet old (given content (used ++ rest)) ≡ record { service = new; gift = given content' rest }
  pub fails : is_err result ≡ new.failed
  pub short : IsTrue (is_err result) → HasRisen counts.shortages counts'.shortages
  pub counted : AreCounted used counts counts'
