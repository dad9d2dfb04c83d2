-- A host in code asks for its link, and for the end of it.
use Rattle.std.proofs.Common.{◌≡◌, ℕ, ◌&&◌, ◌||◌, not, Bool, true, false, List, [], ◌∷◌, map, Option, Some, None, is_some, refl, ap₂, ◌∙◌}
use Rattle.std.specs.List.{list_any}
use Rattle.radio_world.specs.push_terms.specs.declared.word.Side.TheVariants.{A, B}
use Rattle.radio_world.specs.radio_model.specs.Controllers.{address}
use Rattle.radio_world.specs.host_link.specs.declared.host_command.HostCommand.{HostCommand}
use Rattle.radio_world.specs.host_link.specs.declared.host_command.HostCommand.TheVariants.{Reset, ReadBufferSize, ReadBdAddr, WriteScanEnable, CreateConnection, AcceptConnection, Disconnect}
use Rattle.radio_world.specs.host_link.specs.HostCommands as code
use Rattle.radio_world.specs.host_link.specs.Calling.{ends, may_end}
use Rattle.radio_world.specs.host_link.specs.Lines.{Line}
use Rattle.radio_world.specs.host_link.specs.PuttingOut.{connecting, leaving}
use Rattle.radio_world.specs.world_model.specs.Machines.{Upper}
use Rattle.radio_world.specs.world_model.specs.Stations.{Asking, Leaving, asks, is_end}
use Rattle.radio_world.specs.station_laws.specs.Seen.{order_of}
use Rattle.radio_world.specs.station_laws.proofs.Striving.{links_are_asked, links_are_ended}
use Rattle.line_laws.specs.Seeing.{seen}
use Rattle.line_laws.specs.Laws.{CallsAreSeen, EndsAreSeen}
use Rattle.line_laws.proofs.Seeing.{seen_station, goes_as_seen}

one_asks : (command : HostCommand) → asks (order_of command) ≡ code.asks command
one_asks Reset = refl
one_asks ReadBufferSize = refl
one_asks ReadBdAddr = refl
one_asks WriteScanEnable = refl
one_asks (CreateConnection to) = refl
one_asks (AcceptConnection from) = refl
one_asks (Disconnect handle) = refl

one_ends : (command : HostCommand) → is_end (order_of command) ≡ ends command
one_ends Reset = refl
one_ends ReadBufferSize = refl
one_ends ReadBdAddr = refl
one_ends WriteScanEnable = refl
one_ends (CreateConnection to) = refl
one_ends (AcceptConnection from) = refl
one_ends (Disconnect handle) = refl

pub same_asking : (commands : List HostCommand) → list_any asks (map order_of commands) ≡ list_any code.asks commands
same_asking [] = refl
same_asking (command ∷ commands) = ap₂ (λ (x y : Bool). x || y) (one_asks command) (same_asking commands)

pub same_ending : (commands : List HostCommand) → list_any is_end (map order_of commands) ≡ list_any ends commands
same_ending [] = refl
same_ending (command ∷ commands) = ap₂ (λ (x y : Bool). x || y) (one_ends command) (same_ending commands)

neither_one : (a b : Bool) → (a || b) ≡ false → a ≡ false
neither_one false b is = refl
neither_one true b is = cc

neither_two : (a b : Bool) → (a || b) ≡ false → b ≡ false
neither_two false b is = is
neither_two true b is = cc

pub calls_are_seen : {S G : Type 0} (U : Upper S G) → CallsAreSeen U
calls_are_seen U upper line octets is wants off unasked =
    goes_as_seen U A (Asking ∷ []) (seen upper line) upper (connecting (address B) line) octets is.sends
    (links_are_asked U 0 line (seen upper line) (seen_station A upper line is) wants off (neither_one line.asked (list_any code.asks line.commands.waiting) unasked)
    (same_asking line.commands.waiting ∙ neither_two line.asked (list_any code.asks line.commands.waiting) unasked))

-- the link that may be ended
pub record MayEnd (line : Line) : Type 0 where
  pub handle : ℕ
  pub link : line.link ≡ Some handle
  pub unended : line.ending ≡ false
  pub none_ends : list_any ends line.commands.waiting ≡ false

some_handle : (link : Option ℕ) → is_some link ≡ true → (handle : ℕ) × (link ≡ Some handle)
some_handle None is = cc
some_handle (Some handle) is = (handle, refl)

first_of : (a b c : Bool) → (a && (not b && not c)) ≡ true → (a ≡ true) × (b ≡ false) × (c ≡ false)
first_of true false false is = (refl, refl, refl)
first_of true false true is = cc
first_of true true c is = cc
first_of false b c is = cc

pub it_may_end : (line : Line) → may_end line ≡ true → MayEnd line
it_may_end line may =
    let parts = first_of (is_some line.link) line.ending (list_any ends line.commands.waiting) may in
    let there = some_handle line.link parts.0 in
    record { handle = there.0; link = there.1; unended = parts.1; none_ends = parts.2 }

pub ends_are_seen : {S G : Type 0} (U : Upper S G) → EndsAreSeen U
ends_are_seen U side upper line octets is none_waits none leaves may =
    let there = it_may_end line may in
    goes_as_seen U side (Leaving ∷ []) (seen upper line) upper (leaving line.link line) octets is.sends
    (links_are_ended U side 0 there.handle line (seen upper line) (seen_station side upper line is) there.link none_waits none leaves there.unended (same_ending line.commands.waiting ∙ there.none_ends))
