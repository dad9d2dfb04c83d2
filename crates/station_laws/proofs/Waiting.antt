-- The commands that wait.
use Rattle.std.proofs.Common.{◌≡◌, ℕ, ◌+◌, ◌<◌, ◌||◌, Bool, true, false, List, [], ◌∷◌, ◌++◌, map, length, if◌then◌else◌, refl, ap, arith}
use Rattle.std.specs.List.{list_any, AllByRecursion}
use Rattle.std.proofs.lemmas.Bool.{lt-ltb}
use Rattle.std.proofs.lemmas.List.{length-map, map-append}
use Rattle.turn_laws.specs.push_terms.specs.declared.word.Side.{Side}
use Rattle.turn_laws.specs.push_terms.specs.declared.word.Side.TheVariants.{B}
use Rattle.host_link.specs.declared.host_command.HostCommand.{HostCommand}
use Rattle.host_link.specs.declared.host_command.HostCommand.TheVariants.{Reset, ReadBufferSize, ReadBdAddr, WriteScanEnable, CreateConnection, AcceptConnection, Disconnect}
use Rattle.host_link.specs.HostCommands as code
use Rattle.host_link.specs.CommandFlows.{Flow, with_command}
use Rattle.turn_laws.specs.world_model.specs.Stations.{Order, ReadBuffers, ReadAddress, Scan, Page, Accept, End, Data, asks, is_end, opcode}
use Rattle.turn_laws.specs.world_model.specs.Stations as orders
use Rattle.station_laws.specs.Seen.{order_of, IsCommandOf, how_many, is_start, AreFew}

-- ---- how many there are

one_kind : (order : Order) → (if is_start order then 1 else 0) + ((if asks order then 1 else 0) + (if is_end order then 1 else 0)) ≡ 1
one_kind orders.Reset = refl
one_kind ReadBuffers = refl
one_kind ReadAddress = refl
one_kind Scan = refl
one_kind Page = refl
one_kind Accept = refl
one_kind (End handle) = refl
one_kind (Data handle piece) = refl

all_kinds : (waiting : List Order) → length waiting ≡ how_many is_start waiting + (how_many asks waiting + how_many is_end waiting)
all_kinds [] = refl
all_kinds (order ∷ waiting) =
    let one = one_kind order in
    let rest = all_kinds waiting in
    omega (arith)

room : (commands : List HostCommand) → AreFew (map order_of commands) → length commands < 8
room commands few =
    let starts = few.starts in
    let asking = few.asking in
    let ending = few.ending in
    omega (arith, all_kinds (map order_of commands), length-map commands order_of)

how_many-append : (is : Order → Bool) (one two : List Order) → how_many is (one ++ two) ≡ how_many is one + how_many is two
how_many-append is [] two = omega arith
how_many-append is (order ∷ one) two = let rest = how_many-append is one two in omega arith

none_first : (first rest : Bool) (n : ℕ) → (first || rest) ≡ false → (rest ≡ false → n ≡ 0) → (if first then 1 else 0) + n ≡ 0
none_first true rest n none more = cc
none_first false rest n none more = let same = more none in omega arith

none_are : (is : Order → Bool) (waiting : List Order) → list_any is waiting ≡ false → how_many is waiting ≡ 0
none_are is [] none = refl
none_are is (order ∷ waiting) none = none_first (is order) (list_any is waiting) (how_many is waiting) none (λ more. none_are is waiting more)

-- ---- one more, and one less

pub one_asks : (order : Order) (waiting : List Order) → asks order ≡ true → list_any asks waiting ≡ false → AreFew waiting → AreFew (waiting ++ order ∷ [])
one_asks Page waiting is none few =
    record {
      starts = let less = few.starts in omega (arith, how_many-append is_start waiting (Page ∷ []));
      asking = omega (arith, how_many-append asks waiting (Page ∷ []), none_are asks waiting none);
      ending = let less = few.ending in omega (arith, how_many-append is_end waiting (Page ∷ []));
    }
one_asks Accept waiting is none few =
    record {
      starts = let less = few.starts in omega (arith, how_many-append is_start waiting (Accept ∷ []));
      asking = omega (arith, how_many-append asks waiting (Accept ∷ []), none_are asks waiting none);
      ending = let less = few.ending in omega (arith, how_many-append is_end waiting (Accept ∷ []));
    }
one_asks orders.Reset waiting is none few = cc
one_asks ReadBuffers waiting is none few = cc
one_asks ReadAddress waiting is none few = cc
one_asks Scan waiting is none few = cc
one_asks (End handle) waiting is none few = cc
one_asks (Data handle piece) waiting is none few = cc

pub one_ends : (handle : ℕ) (waiting : List Order) → list_any is_end waiting ≡ false → AreFew waiting → AreFew (waiting ++ End handle ∷ [])
one_ends handle waiting none few =
    record {
      starts = let less = few.starts in omega (arith, how_many-append is_start waiting (End handle ∷ []));
      asking = let less = few.asking in omega (arith, how_many-append asks waiting (End handle ∷ []));
      ending = omega (arith, how_many-append is_end waiting (End handle ∷ []), none_are is_end waiting none);
    }

pub one_less : (order : Order) (waiting : List Order) → AreFew (order ∷ waiting) → AreFew waiting
one_less order waiting few =
    record {
      starts = let less = few.starts in omega arith;
      asking = let less = few.asking in omega arith;
      ending = let less = few.ending in omega arith;
    }

-- ---- the same of commands

pub waits : (command : HostCommand) (flow : Flow) → AreFew (map order_of flow.waiting) → with_command command flow ≡ record flow { waiting = flow.waiting ++ command ∷ [] }
waits command flow few =
    ap (λ (b : Bool). if b then record flow { waiting = flow.waiting ++ command ∷ [] } else flow) (lt-ltb (length flow.waiting) 8 (room flow.waiting few))

pub map_one : (commands : List HostCommand) (command : HostCommand) → map order_of (commands ++ command ∷ []) ≡ map order_of commands ++ order_of command ∷ []
map_one commands command = map-append order_of commands (command ∷ [])

pub all_more : (side : Side) (commands : List HostCommand) (command : HostCommand) → AllByRecursion (IsCommandOf side) commands → IsCommandOf side command
    → AllByRecursion (IsCommandOf side) (commands ++ command ∷ [])
all_more side [] command all is = (is, tt)
all_more side (first ∷ commands) command (first_is, all) is = (first_is, all_more side commands command all is)

pub same_opcode : (command : HostCommand) → code.opcode command ≡ opcode (order_of command)
same_opcode Reset = refl
same_opcode ReadBufferSize = refl
same_opcode ReadBdAddr = refl
same_opcode WriteScanEnable = refl
same_opcode (CreateConnection to) = refl
same_opcode (AcceptConnection to) = refl
same_opcode (Disconnect handle) = refl

pub same_asks : (command : HostCommand) → code.asks command ≡ asks (order_of command)
same_asks Reset = refl
same_asks ReadBufferSize = refl
same_asks ReadBdAddr = refl
same_asks WriteScanEnable = refl
same_asks (CreateConnection to) = refl
same_asks (AcceptConnection to) = refl
same_asks (Disconnect handle) = refl

-- host b pages nobody
pub same_accepts : (commands : List HostCommand) → AllByRecursion (IsCommandOf B) commands → list_any code.accepts commands ≡ list_any asks (map order_of commands)
same_accepts [] all = refl
same_accepts (Reset ∷ commands) (is, all) = same_accepts commands all
same_accepts (ReadBufferSize ∷ commands) (is, all) = same_accepts commands all
same_accepts (ReadBdAddr ∷ commands) (is, all) = same_accepts commands all
same_accepts (WriteScanEnable ∷ commands) (is, all) = same_accepts commands all
same_accepts (CreateConnection to ∷ commands) (is, all) = absurd is
same_accepts (AcceptConnection to ∷ commands) (is, all) = refl
same_accepts (Disconnect handle ∷ commands) (is, all) = same_accepts commands all
