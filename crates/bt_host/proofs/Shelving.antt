-- The calls of a client, with what its shelf tells that it holds.
use Rattle.std.proofs.Common.{◌≡◌, ◌∙◌, ◌<◌, ◌^◌, ℕ, Bool, true, false, List, [], ◌∷◌, ◌++◌, map, refl, sym, ap, arith}
use Rattle.std.proofs.lemmas.List.{map-append}
use Rattle.std.specs.List.{AllByRecursion}
use Rattle.std.specs.Prelude.{Option, Some, None, Result, Ok, Err, IfOk, IfSome}
use Rattle.bt_base.specs.Objects.{Object}
use Rattle.bt_base.specs.declared.ports.PortFault.{PortFault}
use Rattle.bt_base.specs.declared.ports.PortFault.TheVariants.{Failed, NoMemory}
use Rattle.bt_base.specs.declared.settings.Settings.{Settings}
use Rattle.channel_model.specs.Value.{Channels}
use Rattle.shelf_model.specs.world_model.specs.Machines.{Opening}
use Rattle.push_model.specs.Steps.{Part as Octets}
use Rattle.shelf_model.specs.host_model.specs.Circumstances.{Circumstance, Size, Part, Stored, size_in}
use Rattle.shelf_model.specs.host_model.specs.Clients.{ClientProfile, client_profile}
use Rattle.shelf_model.specs.host_model.specs.Profiles.{Stride}
use Rattle.shelf_model.specs.Held.{size_in_octets, given_by, length_of, sized, held_by}
use Rattle.shelf_model.proofs.Sizes.{size_stays, sized_stays, held_stays}
use Rattle.bt_host.specs.Calls.{Does}
use Rattle.bt_host.specs.Pushing.{pushing, FoundMemory, IsOf, failures_in}
use Rattle.bt_host.specs.PushingLaws.{Answers, failures_join}
use Rattle.bt_host.specs.Shelving.{Shelved, failed_now, owed, less_one, memory_found, in_memory, stride_shelved, shelf_profile, shelved_by}
use Rattle.bt_host.proofs.Clients.{StepsTo}

-- ---- octets

length_stays : (size : Result ℕ PortFault) → IfOk size (λ n. n < 2 ^ 32) → size_in_octets size ≡ size
length_stays (Ok size) few = ap (λ (n : ℕ). let one : Result ℕ PortFault = Ok n in one) (size_stays size (omega (arith, few)))
length_stays (Err fault) few = refl

one_stays : (content : Option (List Object)) (answer : Circumstance) → IsOf content answer → given_by content answer ≡ answer
one_stays content (Size (Ok size)) of = ap (λ (n : ℕ). Size (Ok n)) (size_stays size of.0)
one_stays content (Size (Err fault)) of = refl
one_stays content (Part excerpt) of = held_stays content excerpt of.0
one_stays content (Stored answer) of = refl

-- what a shelf answered is of its objects
all_stay : (content : Option (List Object)) (used : List Circumstance) → AllByRecursion (IsOf content) used → map (given_by content) used ≡ used
all_stay content [] all = refl
all_stay content (answer ∷ used) all = ap (λ (one : Circumstance). one ∷ map (given_by content) used) (one_stays content answer all.0) ∙ ap (λ (l : List Circumstance). answer ∷ l) (all_stay content used all.1)

given_behind : (content : Option (List Object)) (used rest : List Circumstance) → AllByRecursion (IsOf content) used → map (given_by content) (used ++ rest) ≡ used ++ map (given_by content) rest
given_behind content used rest all = map-append (given_by content) used rest ∙ ap (λ (l : List Circumstance). l ++ map (given_by content) rest) (all_stay content used all)

-- and no want of memory
found_stays : {A : Type 0} (answer : Result A PortFault) → FoundMemory answer → memory_found answer ≡ answer
found_stays (Ok given) found = refl
found_stays (Err Failed) found = refl
found_stays (Err NoMemory) found = absurd found

memory_stays : (content : Option (List Object)) (answer : Circumstance) → IsOf content answer → in_memory answer ≡ answer
memory_stays content (Size (Ok size)) of = refl
memory_stays content (Size (Err fault)) of = ap Size (found_stays {A = ℕ} (Err fault) of)
memory_stays content (Part excerpt) of = ap (λ (octets : Octets). Part (record excerpt { answer = octets })) (found_stays excerpt.answer of.1)
memory_stays content (Stored answer) of = refl

memory_behind : (content : Option (List Object)) (used rest : List Circumstance) → AllByRecursion (IsOf content) used → map in_memory (used ++ rest) ≡ used ++ map in_memory rest
memory_behind content [] rest all = refl
memory_behind content (answer ∷ used) rest all =
    ap (λ (one : Circumstance). one ∷ map in_memory (used ++ rest)) (memory_stays content answer all.0) ∙ ap (λ (l : List Circumstance). answer ∷ l) (memory_behind content used rest all.1)

behind_used : (content : Option (List Object)) (used rest : List Circumstance) → AllByRecursion (IsOf content) used → map (given_by content) (map in_memory (used ++ rest)) ≡ used ++ map (given_by content) (map in_memory rest)
behind_used content used rest all = ap (λ (l : List Circumstance). map (given_by content) l) (memory_behind content used rest all) ∙ given_behind content used (map in_memory rest) all

-- ---- how often it is still to fail

pub paid : (test : Bool) (used rest : List Circumstance) → failures_in used ≡ owed test → less_one test (failures_in (used ++ rest)) ≡ failures_in rest
paid true used rest is = let join = failures_join used rest in omega (arith, join, is)
paid false used rest is = let join = failures_join used rest in omega (arith, join, is)

-- ---- its calls

sized_so : (name : List ℕ) (objects : List Object) (size : Result ℕ PortFault) → IfOk size (λ n. length_of name objects ≡ Some n) → sized name objects size ≡ size
sized_so name objects (Ok size) told = sized_stays name objects size told
sized_so name objects (Err fault) told = refl

size_told : (content : Option (List Object)) (name : List ℕ) (size : Result ℕ PortFault) (rest : List Circumstance) → IfOk size (λ n. n < 2 ^ 32) → IfOk size (λ n. IfSome content (λ objects. length_of name objects ≡ Some n))
    → size_in (held_by content (Opening name) (Size size ∷ rest)) ≡ size
size_told None name size rest few told = length_stays size few
size_told (Some objects) name size rest few told = ap (sized name objects) (length_stays size few) ∙ sized_so name objects size told

-- the length that a shelf told is that of its object
pub size_held : (content : Option (List Object)) (name : List ℕ) (size : Result ℕ PortFault) (rest : List Circumstance) → IfOk size (λ n. n < 2 ^ 32) → IfOk size (λ n. IfSome content (λ objects. length_of name objects ≡ Some n)) → FoundMemory size
    → size_in (held_by content (Opening name) (map in_memory (Size size ∷ rest))) ≡ size
size_held content name size rest few told found =
    ap (λ (s : Result ℕ PortFault). size_in (held_by content (Opening name) (Size s ∷ map in_memory rest))) (found_stays size found) ∙ size_told content name size (map in_memory rest) few told

module _ {P : Type 0} (content : P → Option (List Object)) (faults shortages : P → ℕ) where
  -- a step
  pub steps_shelved : (v v' : Channels) (more : Bool) (old new : ClientProfile) (first last : P) (settings : Settings) → StepsTo content faults shortages settings old new more v v' first last
      → Does (Answers content faults shortages) (λ rest. (shelf_profile settings).steps v (shelved_by content old first rest)) (λ rest. record { channels = v'; profile = shelved_by content new last rest; more = more }) first last
  steps_shelved v v' more old new first last settings one = record {
    used = one.used;
    answered = one.answered;
    does = λ rest.
        let left = map (given_by (content first)) (map in_memory rest) in
        let test = failed_now old.client.cause new.client.cause in
        ap (λ (l : List Circumstance). stride_shelved ((client_profile settings).steps v (pushing old l)) (shelved_by content old first (one.used ++ rest))) (behind_used (content first) one.used rest one.answered.each)
        ∙ ap (λ (s : Stride ClientProfile). stride_shelved s (shelved_by content old first (one.used ++ rest))) (one.does left)
        ∙ ap (λ (n : ℕ). let after : Stride Shelved = record { channels = v'; profile = record { pushing = pushing new left; shelf = content first; faults = n }; more = more } in after) (paid test one.used rest one.pays)
        ∙ ap (λ (c : Option (List Object)). let after : Stride Shelved = record { channels = v'; profile = record { pushing = pushing new (map (given_by c) (map in_memory rest)); shelf = c; faults = failures_in rest }; more = more } in after) (sym one.answered.content_stays);
  }
