-- What waits in a line can be written, whatever comes to it.
use Rattle.std.proofs.Common.{◌≡◌, ℕ, zero, suc, ◌<◌, ◌≤◌, ◌==◌, ◌&&◌, ◌/◌, ◌%◌, not, nat_lt, min, Bool, true, false, cond, eqb, List, [], ◌∷◌, ◌++◌, length, take, drop, slice_index, Option, Some, None, is_none, refl, sym, ap, subst, inl, inr, ltb-false, arith, length-append}
use Rattle.std.specs.List.{AllByRecursion}
use Rattle.std.proofs.Math.Nat.{min-le_right}
use Rattle.std.proofs.lemmas.Bool.{cases_Bool, eqb-true}
use Rattle.std.proofs.lemmas.List.{length-take}
use Rattle.byteorder.specs.Endian.{little_number}
use Rattle.scenario_laws.specs.bt_base.specs.Numbers.{IsHandle}
use Rattle.scenario_laws.specs.bt_base.specs.Octets.{IsOctets, le16}
use Rattle.scenario_laws.specs.h4_framing.specs.Packets.{Packet, Command, Acl, Sync, Event, IsPacket}
use Rattle.scenario_laws.specs.h4_framing.proofs.OctetLists.{IsOctets-append, IsOctets-cons, IsOctets-drop, IsOctets-nil, IsOctets-take}
use Rattle.scenario_laws.specs.hci_packets.specs.declared.acl.Boundary.{Boundary}
use Rattle.scenario_laws.specs.hci_packets.specs.declared.acl.Boundary.TheVariants.{Continuing}
use Rattle.scenario_laws.specs.hci_packets.specs.declared.refusal.HciRefusal.{HciRefusal}
use Rattle.scenario_laws.specs.hci_packets.specs.declared.refusal.HciRefusal.TheVariants.{ShortParams, LongParams}
use Rattle.scenario_laws.specs.hci_packets.specs.Events.{PlainEvent, ConnectionComplete, ConnectionRequest, DisconnectionComplete, CommandComplete, CommandStatus, CompletedPackets, Other, event_refusal}
use Rattle.scenario_laws.specs.acl_credits.specs.Ledgers.{without}
use Rattle.scenario_laws.specs.acl_fragments.specs.Pieces.{Piece}
use Rattle.scenario_laws.specs.acl_fragments.specs.Cuts.{first_pieces}
use Rattle.scenario_laws.specs.host_link.specs.declared.host_command.HostCommand.{HostCommand}
use Rattle.scenario_laws.specs.host_link.specs.declared.host_command.HostCommand.TheVariants.{Reset, ReadBufferSize, ReadBdAddr, WriteScanEnable, CreateConnection, AcceptConnection, Disconnect}
use Rattle.scenario_laws.specs.host_link.specs.declared.news.ControllerFault.{ControllerFault}
use Rattle.scenario_laws.specs.host_link.specs.declared.returned.Returned.{Returned}
use Rattle.scenario_laws.specs.host_link.specs.declared.returned.Returned.TheVariants.{Refused, Unlisted, Status, Buffers}
use Rattle.scenario_laws.specs.host_link.specs.CommandFlows.{Flow, with_command, awaits, stated, answered, is_number}
use Rattle.scenario_laws.specs.host_link.specs.EventReading.{event_in}
use Rattle.scenario_laws.specs.host_link.specs.Hearing.{with_flow, after_answer, after_other, may_accept, piece_on, after_piece, after_event, after_packet, fault_of, news_of, unless_fault, heard}
use Rattle.scenario_laws.specs.host_link.specs.HostCommands.{start_commands}
use Rattle.scenario_laws.specs.host_link.specs.Lines.{Line}
use Rattle.scenario_laws.specs.host_link.specs.Returning.{returned_by, completes}
use Rattle.scenario_laws.specs.host_link.specs.declared.role.Role.{Role}
use Rattle.scenario_laws.specs.host_link.specs.declared.role.Role.TheVariants.{Client, Server}
use Rattle.unit_laws.specs.Calls.{FitsPacket, CanGo, IsWritable}
use Rattle.unit_laws.proofs.Lining.{IsFit, heard_line}
use Rattle.unit_laws.proofs.Running.{low_news, fit_news}

-- ---- commands

small : (x : ℕ) (more : List ℕ) → x < 256 → IsOctets more → IsOctets (x ∷ more)
small x more low is = IsOctets-cons x more low is

le16_octets : (n : ℕ) (more : List ℕ) → IsOctets more → IsOctets (le16 n ++ more)
le16_octets n more is = small (n % 256) ((n / 256) % 256 ∷ more) (omega arith) (small ((n / 256) % 256) more (omega arith) is)

pub ends_go : (handle : ℕ) → IsHandle handle → CanGo (Disconnect handle)
ends_go handle low = record { whole = low; packet = (omega arith, omega arith, le16_octets handle (0x13 ∷ []) (small 0x13 [] (omega arith) IsOctets-nil)) }

accepts_go : (address : List ℕ) → length address ≡ 6 → IsOctets address → CanGo (AcceptConnection address)
accepts_go address six is = record { whole = six; packet = (omega arith, omega (arith, six, length-append address (0x01 ∷ [])), IsOctets-append address (0x01 ∷ []) is (small 0x01 [] (omega arith) IsOctets-nil)) }

pub call_goes : (address : List ℕ) → length address ≡ 6 → IsOctets address → CanGo (CreateConnection address)
call_goes address six is =
    let more : List ℕ = le16 0xCC18 ++ (0x01 ∷ 0x00 ∷ (le16 0x0000 ++ 0x00 ∷ [])) in
    record {
      whole = (six, omega arith, omega arith);
      packet = (
        omega arith,
        omega (arith, six, length-append address more),
        IsOctets-append address more is
            (le16_octets 0xCC18 (0x01 ∷ 0x00 ∷ (le16 0x0000 ++ 0x00 ∷ [])) (small 0x01 (0x00 ∷ (le16 0x0000 ++ 0x00 ∷ [])) (omega arith) (small 0x00 (le16 0x0000 ++ 0x00 ∷ []) (omega arith) (le16_octets 0x0000 (0x00 ∷ []) (small 0x00 [] (omega arith) IsOctets-nil))))),
      );
    }

pub starts_go : (role : Role) → AllByRecursion CanGo (start_commands role)
starts_go role = by role
  where
    reset : CanGo Reset
    reset = record { whole = tt; packet = (omega arith, omega arith, IsOctets-nil) }

    buffers : CanGo ReadBufferSize
    buffers = record { whole = tt; packet = (omega arith, omega arith, IsOctets-nil) }

    address : CanGo ReadBdAddr
    address = record { whole = tt; packet = (omega arith, omega arith, IsOctets-nil) }

    scan : CanGo WriteScanEnable
    scan = record { whole = tt; packet = (omega arith, omega arith, small 0x03 [] (omega arith) IsOctets-nil) }

    by : (which : Role) → AllByRecursion CanGo (start_commands which)
    by Client = (reset, (buffers, (address, tt)))
    by Server = (reset, (buffers, (address, (scan, tt))))

one_more : (list : List HostCommand) (command : HostCommand) → AllByRecursion CanGo list → CanGo command → AllByRecursion CanGo (list ++ command ∷ [])
one_more [] command all go = (go, tt)
one_more (x ∷ list) command all go = (all.0, one_more list command all.1 go)

pub flow_more : (flow : Flow) (command : HostCommand) → AllByRecursion CanGo flow.waiting → CanGo command → AllByRecursion CanGo (with_command command flow).waiting
flow_more flow command all go = by (nat_lt (length flow.waiting) 8)
  where
    by : (b : Bool) → AllByRecursion CanGo (cond b (record flow { waiting = flow.waiting ++ command ∷ [] }) flow).waiting
    by true = one_more flow.waiting command all go
    by false = all

-- ---- pieces

pub cut_short : (n size : ℕ) (boundary : Boundary) (octets : List ℕ) → size ≤ 1021 → IsOctets octets → AllByRecursion FitsPacket (first_pieces n size boundary octets)
cut_short zero size boundary octets few is = tt
cut_short (suc n) size boundary [] few is = tt
cut_short (suc n) size boundary (x ∷ xs) few is =
    let count = length-take size (x ∷ xs) in
    (record { octets = IsOctets-take size (x ∷ xs) is; short = omega (arith, count) }, cut_short n size Continuing (drop size (x ∷ xs)) few (IsOctets-drop size (x ∷ xs) is))

-- the address of a call is one
abbrev Calls : Option PlainEvent → Type 0
Calls (Some (ConnectionRequest address class kind)) = CanGo (AcceptConnection address)
Calls event = Unit {0}

-- its parameters have ten octets, the first six of which are the address
calls_event : (code : ℕ) (params : List ℕ) → IsOctets params → Calls (event_in code params)
calls_event code params is =
    elim (cases_Bool (is_none (event_refusal code params))) [
      | inr wrong ↦ rw wrong tt
      | inl fine ↦
          elim (cases_Bool (eqb code 0x03)) [
            | inl is_made ↦ subst (λ (k : ℕ). is_none (event_refusal k params) ≡ true → Calls (event_in k params)) (sym (eqb-true code 0x03 is_made)) (λ f. rw f tt) fine
            | inr no3 ↦
                elim (cases_Bool (eqb code 0x04)) [
                  | inl is_call ↦ subst (λ (k : ℕ). is_none (event_refusal k params) ≡ true → Calls (event_in k params)) (sym (eqb-true code 0x04 is_call)) (λ f. rw f (accepts_go (take 6 params) (six f) (IsOctets-take 6 params is))) fine
                  | inr no4 ↦ rw (fine, no3, no4) (others (eqb code 0x05) (eqb code 0x0E) (eqb code 0x0F) (eqb code 0x13))
                ]
          ]
    ]
  where
    enough : (short long : Bool) → nat_lt (length params) 10 ≡ short → (let found : Option HciRefusal = cond short (Some ShortParams) (cond long (Some LongParams) None) in is_none found ≡ true) → 10 ≤ length params
    enough true long same fine = cc
    enough false long same fine = ltb-false (length params) 10 same

    six : is_none (event_refusal 0x04 params) ≡ true → length (take 6 params) ≡ 6
    six fine = let many = enough (nat_lt (length params) 10) (nat_lt 10 (length params)) refl fine in let count = length-take 6 params in omega (arith, many, count)

    others : (b c d e : Bool) → Calls (Some (cond b (DisconnectionComplete (slice_index params 0) (little_number 2 (drop 1 params)) (slice_index params 3)) (cond c (CommandComplete (slice_index params 0) (little_number 2 (drop 1 params)) (drop 3 params))
        (cond d (CommandStatus (slice_index params 0) (slice_index params 1) (little_number 2 (drop 2 params))) (cond e (CompletedPackets (slice_index params 0) (drop 1 params)) (Other code params))))))
    others true c d e = tt
    others false true d e = tt
    others false false true e = tt
    others false false false true = tt
    others false false false false = tt

-- ---- what a unit leaves, but for the handle of its link

module _ (out : List ℕ) where
  record Rest (line : Line) : Type 0 where
    out_is : line.out ≡ out
    size : line.size ≤ 1021
    pieces : AllByRecursion FitsPacket line.pieces
    commands : AllByRecursion CanGo line.commands.waiting

  rest_by : (b : Bool) (one two : Line) → Rest one → Rest two → Rest (cond b one two)
  rest_by true one two first second = first
  rest_by false one two first second = second

  flow_rest : (flow : Flow) (line : Line) → flow.waiting ≡ line.commands.waiting → Rest line → Rest (with_flow flow line)
  flow_rest flow line same rest = record { out_is = rest.out_is; size = rest.size; pieces = rest.pieces; commands = subst (AllByRecursion CanGo) (sym same) rest.commands }

  piece_rest : (found : Option Piece) (line : Line) → Rest line → Rest (after_piece found line)
  piece_rest None line rest = rest
  piece_rest (Some piece) line rest = record { out_is = rest.out_is; size = rest.size; pieces = rest.pieces; commands = rest.commands }

  answer_rest : (number : ℕ) (returned : Returned) (line : Line) → Rest line → Rest (after_answer number returned line)
  answer_rest number Refused line rest = rest
  answer_rest number Unlisted line rest = flow_rest (stated number line.commands) line refl rest
  answer_rest number (Status status) line rest = flow_rest (answered number line.commands) line refl rest
  answer_rest number (Buffers status size count) line rest =
      let next = with_flow (answered number line.commands) line in
      rest_by (is_none line.link) (record next { size = min size 1021; ledger = record { total = min count 64; held = None }; pieces = [] }) next
      (record { out_is = rest.out_is; size = min-le_right size 1021; pieces = tt; commands = rest.commands }) (flow_rest (answered number line.commands) line refl rest)

  other_rest : (number : ℕ) (returned : Returned) (line : Line) → Rest line → Rest (after_other number returned line)
  other_rest number Refused line rest = rest
  other_rest number Unlisted line rest = flow_rest (stated number line.commands) line refl rest
  other_rest number (Status status) line rest = flow_rest (stated number line.commands) line refl rest
  other_rest number (Buffers status size count) line rest = flow_rest (stated number line.commands) line refl rest

  event_rest : (event : Option PlainEvent) (line : Line) → Calls event → Rest line → Rest (after_event event line)
  event_rest None line calls rest = rest
  event_rest (Some (ConnectionComplete status handle address kind encryption)) line calls rest =
      rest_by line.asked (cond ((status == 0) && is_none line.link) (record line { asked = false; link = Some handle; ending = false; joining = [] }) (record line { asked = false })) line
      (rest_by ((status == 0) && is_none line.link) (record line { asked = false; link = Some handle; ending = false; joining = [] }) (record line { asked = false })
      (record { out_is = rest.out_is; size = rest.size; pieces = rest.pieces; commands = rest.commands }) (record { out_is = rest.out_is; size = rest.size; pieces = rest.pieces; commands = rest.commands })) rest
  event_rest (Some (ConnectionRequest address class kind)) line calls rest =
      rest_by (may_accept kind line) (with_flow (with_command (AcceptConnection address) line.commands) line) line
      (record { out_is = rest.out_is; size = rest.size; pieces = rest.pieces; commands = flow_more line.commands (AcceptConnection address) rest.commands calls }) rest
  event_rest (Some (DisconnectionComplete status handle reason)) line calls rest =
      rest_by ((status == 0) && is_number handle line.link) (record (after_event (Some (DisconnectionComplete 0 handle reason)) line) { size = line.size; commands = line.commands; ledger = record line.ledger { held = without handle line.ledger.held }; link = None; ending = false; joining = []; pieces = []; role = line.role; asked = line.asked; out = line.out }) line
      (record { out_is = rest.out_is; size = rest.size; pieces = tt; commands = rest.commands }) rest
  event_rest (Some (CommandComplete number opcode returned)) line calls rest =
      rest_by (awaits opcode line.commands) (after_answer number (returned_by opcode returned) line) (after_other number (returned_by opcode returned) line)
      (answer_rest number (returned_by opcode returned) line rest) (other_rest number (returned_by opcode returned) line rest)
  event_rest (Some (CommandStatus status number opcode)) line calls rest =
      rest_by (awaits opcode line.commands && not (completes opcode)) (with_flow (answered number line.commands) line) (with_flow (stated number line.commands) line)
      (flow_rest (answered number line.commands) line refl rest) (flow_rest (stated number line.commands) line refl rest)
  event_rest (Some (CompletedPackets count entries)) line calls rest = record { out_is = rest.out_is; size = rest.size; pieces = rest.pieces; commands = rest.commands }
  event_rest (Some (Other code params)) line calls rest = rest

  unit_rest : (limit : ℕ) (unit : Packet) (line : Line) → IsPacket limit unit → Rest line → Rest (after_packet unit line)
  unit_rest limit (Command opcode params) line is rest = piece_rest (piece_on line.link (Command opcode params)) line rest
  unit_rest limit (Acl word octets) line is rest = piece_rest (piece_on line.link (Acl word octets)) line rest
  unit_rest limit (Sync word octets) line is rest = piece_rest (piece_on line.link (Sync word octets)) line rest
  unit_rest limit (Event code params) line is rest = event_rest (event_in code params) line (calls_event code params is.2) rest

-- ---- any unit

pub record HeardWrites (old new : Line) : Type 0 where
  pub writable : IsWritable new
  pub out_is : new.out ≡ old.out

pub heard_writes : (limit : ℕ) (unit : Packet) (line : Line) → IsPacket limit unit → fault_of unit line ≡ None → IsWritable line → HeardWrites line (heard unit line)
heard_writes limit unit line is none writable =
    let fit : IsFit line = record { long = writable.long; off = writable.off } in
    let shape = heard_line unit line none fit in
    let later = fit_news (news_of unit line) line (heard unit line) shape fit in
    let rest : Rest line.out (heard unit line) = subst (Rest line.out) (sym (ap (λ (fault : Option ControllerFault). unless_fault fault (after_packet unit line) line) none))
    (unit_rest line.out limit unit line is (record { out_is = refl; size = writable.size; pieces = writable.pieces; commands = writable.commands })) in
    record {
      writable = record {
        long = later.long;
        off = later.off;
        low = low_news (news_of unit line) line (heard unit line) shape writable.low;
        size = rest.size;
        pieces = rest.pieces;
        commands = rest.commands;
      };
      out_is = rest.out_is;
    }
