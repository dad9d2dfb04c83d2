-- A scenario that is made from a number, and its objects (this project's own).
use Rattle.std.specs.Prelude.{ℕ, zero, suc, ◌≡◌, ◌+◌, ◌*◌, ◌/◌, ◌%◌, Bool, true, false, ◌==◌, List, [], ◌∷◌, map, take, codes, Some}
use Rattle.ready_ports.specs.Memory.{MemoryShelved}
use Rattle.bt_base.specs.Objects.{Object}
use Rattle.bt_base.specs.declared.settings.Transport.{Transport}
use Rattle.bt_base.specs.declared.settings.Transport.TheVariants as transports
use Rattle.push_terms.specs.declared.word.Way.TheVariants.{Ab}
use Rattle.push_terms.specs.declared.word.Word.{Word}
use Rattle.push_terms.specs.declared.word.Word.TheVariants.{Pass, Lose, Repeat}
use Rattle.push_script.specs.Stated.{Known}
use Rattle.push_script.specs.Turns.{turns}
use Rattle.push_script.specs.Reading.{Script, no_draft, with_defaults}

-- The next state of the generator: it is linear congruential, with the multiplier and the increment of the example of
-- `rand` in ISO/IEC 9899:1990, 7.10.2.2, and the modulus 2^31.
abbrev pub next_state : ℕ → ℕ
next_state state = (1103515245 * state + 12345) % 2147483648

-- what is drawn at a state: its upper bits
abbrev pub drawn : ℕ → ℕ
drawn state = state / 65536

-- the state so many draws later
unfoldable pub state_after : ℕ → ℕ → ℕ
state_after zero state = state
state_after (suc n) state = state_after n (next_state state)

-- so many draws, in order
unfoldable pub draws : ℕ → ℕ → List ℕ
draws zero state = []
draws (suc n) state = drawn (next_state state) ∷ draws n (next_state state)

-- the length that a draw gives an object, and the octet
abbrev pub length_of_draw : ℕ → ℕ
length_of_draw draw = 20000 + draw % 10000

abbrev pub octet_of_draw : ℕ → ℕ
octet_of_draw draw = draw % 256

-- the octets of an object of that length, drawn from a state on
abbrev pub made_octets : ℕ → ℕ → List ℕ
made_octets length state = map octet_of_draw (draws length state)

-- objects of these names and lengths, drawn one after the other
abbrev pub objects_from : List (List ℕ) → List ℕ → ℕ → List Object
objects_from [] lengths state = []
objects_from (name ∷ names) [] state = []
objects_from (name ∷ names) (length ∷ lengths) state = record { name = name; octets = made_octets length state } ∷ objects_from names lengths (state_after length state)

abbrev pub made_names : List (List ℕ)
made_names = codes "m1" ∷ codes "m2" ∷ codes "m3" ∷ codes "m4" ∷ codes "m5" ∷ codes "m6" ∷ codes "m7" ∷ codes "m8" ∷ []

-- the generator begins at the number
abbrev pub first_state : ℕ → ℕ
first_state number = number % 2147483648

-- the lengths of eight objects, drawn from a state on
abbrev pub lengths_from : ℕ → List ℕ
lengths_from state = map length_of_draw (draws 8 state)

-- eight draws give the lengths, and all that follow the octets
abbrev pub made_objects : ℕ → List Object
made_objects number = objects_from made_names (lengths_from (first_state number)) (state_after 8 (first_state number))

-- an even number pushes over L2CAP, an odd one over RFCOMM
abbrev pub is_even : ℕ → Bool
is_even number = number % 2 == 0

abbrev pub made_transport : Bool → Transport
made_transport true = transports.L2cap
made_transport false = transports.Rfcomm

-- over L2CAP a frame is lost and one is repeated, and three times so many words follow as are enough without that
abbrev pub made_runs : Bool → ℕ → List (ℕ × Word)
made_runs true enough = (40, Pass) ∷ (1, Lose Ab) ∷ (1, Repeat Ab) ∷ (3 * enough, Pass) ∷ []
made_runs false enough = (enough, Pass) ∷ []

-- what a text says that states the transport, the names and the runs alone
abbrev pub stated_only : Transport → List (List ℕ) → List (ℕ × Word) → Known
stated_only transport names runs = record { keys = record no_draft.keys { transport = Some transport }; names = names; radio = true; runs = runs }

-- the scenario of a number: all else is at its default
abbrev pub made_script : ℕ → Script
made_script number =
    let transport = made_transport (is_even number) in
    with_defaults transport (stated_only transport made_names (made_runs (is_even number) (turns (made_objects number) made_names)))

-- the words that an object of that length needs
abbrev pub object_need : ℕ → ℕ
object_need length = 200 + 8 * length

-- these objects lie on a shelf, each in front of those before it
abbrev pub put_first : List Object → List Object → List Object
put_first [] shelf = shelf
put_first (object ∷ objects) shelf = put_first objects (object ∷ shelf)

abbrev pub shelved : List Object → MemoryShelved → MemoryShelved
shelved objects shelf = record shelf { objects = put_first objects shelf.objects }

-- the first of these objects were put on a shelf, and no others
abbrev pub IsPartlyShelved : List Object → MemoryShelved → MemoryShelved → Type 0
IsPartlyShelved objects old new = (count : ℕ) × (new ≡ shelved (take count objects) old)
