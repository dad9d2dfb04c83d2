-- A host knows by its units whether its controller takes one packet more.
use Rattle.std.proofs.Common.{◌≡◌, ℕ, nat_lt, Bool, List, [], ◌∷◌, ◌++◌, Option, Some, None, is_none, refl, sym, ap, ap₂, subst, ◌∙◌, append_assoc}
use Rattle.std.specs.Option.{option_map}
use Rattle.std.proofs.lemmas.List.{append-nil}
use Rattle.scenario_laws.specs.acl_fragments.specs.Pieces.{Piece}
use Rattle.scenario_laws.specs.capture.specs.Links.{Link, linking}
use Rattle.scenario_laws.specs.capture.specs.Moves.{Move}
use Rattle.scenario_laws.specs.h4_framing.specs.Packets.{Packet}
use Rattle.scenario_laws.specs.host_link.specs.declared.host_command.HostCommand.{HostCommand}
use Rattle.scenario_laws.specs.host_link.specs.declared.role.Role.{Role}
use Rattle.scenario_laws.specs.host_link.specs.Hearing.{after_packet, unless_fault}
use Rattle.scenario_laws.specs.host_link.specs.HostCommands.{command_packet}
use Rattle.scenario_laws.specs.host_link.specs.Lines.{Line, fresh}
use Rattle.scenario_laws.specs.host_link.specs.PuttingOut.{piece_packet, has_buffer}
use Rattle.scenario_laws.specs.host_link.specs.Stands.{into, out_of}
use Rattle.scenario_laws.specs.world_model.specs.Machines.{Upper}
use Rattle.unit_laws.specs.Capacity.{Capacity, with_heard, capacity, takes_more, BuffersAreRead}
use Rattle.unit_laws.specs.Units.{Lined, starting, Occasion, Comes, Learns, Says, Puts, Commands, Waits, units_of, units, PutsPiece, PutsCommand, OnlyWaits, Happens, Runs, Whatever}
use Rattle.unit_laws.proofs.Capacity.{Knows, Same, knows_same, packet_knows, capacity-more, outstanding_up}
use Rattle.unit_laws.proofs.Running.{LineAt, happens_line, first_line}

free_is : (up : Option Link) (link : Option ℕ) → option_map (λ (l : Link). l.handle) up ≡ link → is_none up ≡ is_none link
free_is None link is = ap is_none is
free_is (Some l) link is = ap is_none is

pub record ReadAt (past : List Move) (line : Line) : Type 0 where
  pub at : LineAt past line
  pub knows : Knows (capacity past) line

pub takes_so : (past : List Move) (line : Line) → ReadAt past line → has_buffer line ≡ takes_more past
takes_so past line read = ap₂ nat_lt (outstanding_up (linking past).up line.ledger line.link read.at.stands.link read.knows.held read.at.stands.ledger) (sym read.knows.count)

module _ {S G : Type 0} (U : Upper S G) where
  comes_knows : (past : List Move) (gifts : List G) (unit : Packet) (old new : Lined S) → Happens U (Comes gifts unit) old new → ReadAt past old.line → Knows (capacity (past ++ into unit ∷ [])) new.line
  comes_knows past gifts unit old new (fault, is) read =
      let line_is : new.line ≡ after_packet unit old.line = ap (λ (l : Lined S). l.line) is ∙ ap (λ found. unless_fault found (after_packet unit old.line) old.line) fault in
      subst (λ (c : Capacity). Knows c new.line) (sym (capacity-more past (into unit)))
      (subst (λ (b : Bool). Knows (with_heard b unit (capacity past)) new.line) (sym (free_is (linking past).up old.line.link read.at.stands.link))
      (subst (Knows (with_heard (is_none old.line.link) unit (capacity past))) (sym line_is) (packet_knows (capacity past) unit old.line read.knows)))

  puts_knows : (past : List Move) (handle : ℕ) (piece : Piece) (old new : Lined S) → PutsPiece handle piece old new → Knows (capacity past) old.line → Knows (capacity (past ++ out_of (piece_packet handle piece) ∷ [])) new.line
  puts_knows past handle piece old new puts knows =
      subst (λ (c : Capacity). Knows c new.line) (sym (capacity-more past (out_of (piece_packet handle piece))))
      (subst (Knows (capacity past)) (sym puts.line_is) (record { awaited = knows.awaited; count = knows.count; held = puts.link }))

  commands_know : (past : List Move) (command : HostCommand) (old new : Lined S) → PutsCommand command old new → Knows (capacity past) old.line → Knows (capacity (past ++ out_of (command_packet command) ∷ [])) new.line
  commands_know past command old new puts knows =
      subst (λ (c : Capacity). Knows c new.line) (sym (capacity-more past (out_of (command_packet command))))
      (subst (Knows _) (sym puts.line_is) (record { awaited = refl; count = knows.count; held = knows.held }))

  waits_same : (old new : Lined S) → OnlyWaits old new → Same old.line new.line
  waits_same old new waits = record { awaited = waits.awaited_is; ledger = ap (λ (l : Line). l.ledger) waits.line_is; link = ap (λ (l : Line). l.link) waits.line_is }

  still : (past : List Move) (line : Line) → Knows (capacity past) line → Knows (capacity (past ++ [])) line
  still past line knows = subst (λ (l : List Move). Knows (capacity l) line) (sym (append-nil past)) knows

  happens_knows : (past : List Move) (occasion : Occasion G) (old new : Lined S) → Happens U occasion old new → ReadAt past old.line → Knows (capacity (past ++ units_of occasion)) new.line
  happens_knows past (Comes gifts unit) old new happens read = comes_knows past gifts unit old new happens read
  happens_knows past (Learns gifts news) old new (own, is) read = still past new.line (subst (λ (s : Lined S). Knows (capacity past) s.line) (sym is) read.knows)
  happens_knows past (Says pdu) old new says read =
      still past new.line (subst (Knows (capacity past)) (sym says.line_is) (record { awaited = read.knows.awaited; count = read.knows.count; held = read.knows.held }))
  happens_knows past (Puts handle piece) old new puts read = puts_knows past handle piece old new puts read.knows
  happens_knows past (Commands command) old new puts read = commands_know past command old new puts read.knows
  happens_knows past Waits old new waits read = still past new.line (knows_same (capacity past) old.line new.line (waits_same old new waits) read.knows)

  pub runs_read : (P : Occasion G → Lined S → Type 0) (past : List Move) (occasions : List (Occasion G)) (old new : Lined S) → Runs U P occasions old new → ReadAt past old.line → ReadAt (past ++ units occasions) new.line
  runs_read P past [] old new is read = subst (λ (l : List Move). ReadAt l new.line) (sym (append-nil past)) (subst (λ (s : Lined S). ReadAt past s.line) (sym is) read)
  runs_read P past (occasion ∷ occasions) old new (mid, so, happens, rest) read =
      subst (λ (l : List Move). ReadAt l new.line) (append_assoc past (units_of occasion) (units occasions))
      (runs_read P (past ++ units_of occasion) occasions mid new rest (record { at = happens_line U past occasion old mid happens read.at; knows = happens_knows past occasion old mid happens read }))

pub first_read : (role : Role) → ReadAt [] (fresh role)
first_read role = record { at = first_line role; knows = record { awaited = refl; count = refl; held = tt } }

pub buffers_are_read : {S G : Type 0} (U : Upper S G) → BuffersAreRead U
buffers_are_read U role occasions now runs = takes_so (units occasions) now.line (runs_read U Whatever [] occasions (starting U role) now runs (first_read role))
