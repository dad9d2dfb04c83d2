-- What a host is told with each thing that it hears: what its ports answer from then on until it hears the next thing (this project's
-- own).
use Rattle.std.specs.Prelude.{ℕ, List, [], ◌∷◌, Result, Err}
use Rattle.std.specs.List.{flat_map}
use Rattle.rest_laws.specs.bt_base.specs.declared.ports.PortFault.{PortFault}
use Rattle.rest_laws.specs.bt_base.specs.declared.ports.PortFault.TheVariants.{Failed}
use Rattle.push_model.specs.obex_session.specs.InboxCalls.{Answer}
use Rattle.push_model.specs.Steps.{Part as Octets}

-- what the shelf answers where it is asked for octets of the object of that name, from that place of it on
pub record Excerpt : Type 0 where
  pub name : List ℕ
  pub at : ℕ
  pub answer : Octets

pub data Circumstance : Type 0 where
  -- the shelf answers how long an object is, and with an excerpt of one; the inbox answers a call
  Size : (answer : Result ℕ PortFault) → Circumstance
  Part : (excerpt : Excerpt) → Circumstance
  Stored : (answer : Answer) → Circumstance

abbrev pub size_in : List Circumstance → Result ℕ PortFault
size_in [] = Err Failed
size_in (Size answer ∷ rest) = answer
size_in (Part excerpt ∷ rest) = size_in rest
size_in (Stored answer ∷ rest) = size_in rest

abbrev pub part_of : Circumstance → List Excerpt
part_of (Size answer) = []
part_of (Part excerpt) = excerpt ∷ []
part_of (Stored answer) = []

abbrev pub parts_in : List Circumstance → List Excerpt
parts_in circumstances = flat_map part_of circumstances

abbrev pub answer_of : Circumstance → List Answer
answer_of (Size answer) = []
answer_of (Part excerpt) = []
answer_of (Stored answer) = answer ∷ []

abbrev pub answers_in : List Circumstance → List Answer
answers_in circumstances = flat_map answer_of circumstances
