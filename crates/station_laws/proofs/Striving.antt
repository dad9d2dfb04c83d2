-- What a host in code does by itself are efforts of its station.
use Rattle.std.proofs.Common.{◌≡◌, ℕ, suc, ◌+◌, ◌<◌, ◌≤◌, not, ◌&&◌, ◌||◌, nat_lt, ◌==◌, Bool, true, false, eqb, List, [], ◌∷◌, ◌++◌, length, drop, map, replicate, Option, Some, None, is_none, is_some, if◌then◌else◌, inl, inr, refl, sym, ap, ◌∙◌, subst, arith}
use Rattle.std.specs.List.{list_any, AllByRecursion}
use Rattle.std.proofs.lemmas.Bool.{cases_Bool, ltb-true, eqb-true, ne_eqb}
use Rattle.turn_laws.specs.h4_framing.specs.Packets.{spelling}
use Rattle.turn_laws.specs.acl_fragments.specs.Pieces.{Piece}
use Rattle.turn_laws.specs.acl_credits.specs.Ledgers.{packets_of, outstanding_on}
use Rattle.turn_laws.specs.push_terms.specs.declared.word.Side.{Side}
use Rattle.turn_laws.specs.push_terms.specs.declared.word.Side.TheVariants.{A, B}
use Rattle.turn_laws.specs.radio_model.specs.Controllers.{address}
use Rattle.host_link.specs.declared.host_command.HostCommand.{HostCommand}
use Rattle.host_link.specs.declared.host_command.HostCommand.TheVariants.{Reset, ReadBufferSize, ReadBdAddr, WriteScanEnable, CreateConnection, Disconnect}
use Rattle.host_link.specs.HostCommands.{command_packet}
use Rattle.host_link.specs.HostCommands as code
use Rattle.host_link.specs.CommandFlows.{Flow, with_command, first_of, next_command}
use Rattle.host_link.specs.Lines.{Line, fresh}
use Rattle.host_link.specs.PuttingOut.{has_room, has_buffer, is_waiting, with_piece, with_pieces, put_pieces_on, put_pieces, with_next, put_command, connecting, leaving, can_take_pdu, with_pdu, take_pdu}
use Rattle.turn_laws.specs.world_model.specs.Machines.{Upper}
use Rattle.turn_laws.specs.world_model.specs.Stations.{Order, Page, Data, asks, is_end, opcode, Station, Puts, Taking, Putting, Asking, Leaving, Commanding}
use Rattle.station_laws.specs.Seen.{role_of, order_of, IsCommandOf, AreFew, IsHostOf, Offers, station_of, IsStation}
use Rattle.station_laws.specs.Striving.{Strives}
use Rattle.station_laws.specs.Laws.{BeginsAsFirst, StartsAsFirst, PiecesGo, PdusGo, CommandsGo, LinksAreAsked, LinksAreEnded, MachinesChange}
use Rattle.station_laws.proofs.Packets.{commands_are_orders, pieces_are_orders}
use Rattle.station_laws.proofs.Waiting.{one_asks, one_ends, one_less, waits, map_one, all_more, same_opcode, same_asks}
use Rattle.station_laws.proofs.Counting.{on_own}
use Rattle.station_laws.proofs.Departing.{offers_more}

none_more : {S G : Type 0} (U : Upper S G) (side : Side) (gone : ℕ) (upper : S) (out : List Order) (line : Line) → IsHostOf side line → Offers side gone out line.out
    → Strives U side gone [] (station_of upper out line) upper line
none_more U side gone upper out line host offers =
    record { after = station_of upper out line; makes = refl; upper_is = refl; is_station = record { host = host; offers = offers; seen = refl } }

-- ---- pieces

up_not_off : (link : Option ℕ) (handle : ℕ) → link ≡ Some handle → link ≡ None → ⊥
up_not_off link handle up off = let both : Some handle ≡ None = sym up ∙ off in cc

put_alone : (handle other n : ℕ) → 0 < (if handle == other then n else 0) → handle ≡ other
put_alone handle other n some = elim (cases_Bool (eqb handle other)) [ inl same ↦ eqb-true handle other same | inr apart ↦ absurd (let none : (if handle == other then n else 0) ≡ 0 = rw apart refl in omega (arith, none, some)) ]

put_host : (side : Side) (handle : ℕ) (piece : Piece) (rest : List Piece) (line : Line) → line.link ≡ Some handle → IsHostOf side line → IsHostOf side (with_piece handle piece rest line)
put_host side handle piece rest line up host =
    record {
      role = host.role;
      commands = host.commands;
      few = host.few;
      number = host.number;
      alone = λ other some. up ∙ ap (λ (n : ℕ). Some n) (put_alone handle other (outstanding_on line.ledger handle + 1) some);
      off = λ off. absurd (up_not_off line.link handle up off);
    }

puts : {S G : Type 0} (U : Upper S G) (upper : S) (out : List Order) (handle : ℕ) (piece : Piece) (rest : List Piece) (line : Line) (side : Side)
    → line.link ≡ Some handle → line.pieces ≡ piece ∷ rest → has_buffer line ≡ true → IsHostOf side line
    → Puts (station_of upper out line) (station_of upper (out ++ Data handle piece ∷ []) (with_piece handle piece rest line))
puts {S} U upper out handle piece rest line side up first buffer host =
    let old : Station S = station_of upper out line in
    record {
      handle = handle;
      link = up;
      free = ltb-true (packets_of line.ledger.held) line.ledger.total buffer;
      piece = piece;
      rest = rest;
      first = first;
      new_is = ap (λ (n : ℕ). record old { outstanding = n + 1; pieces = rest; out = out ++ Data handle piece ∷ [] }) (on_own line.ledger.held line.link handle host.alone up);
    }

second : (a b : Bool) → (a && b) ≡ true → b ≡ true
second true b both = both
second false b both = cc

pieces_go_on : {S G : Type 0} (U : Upper S G) (side : Side) (gone : ℕ) (upper : S) (pieces : List Piece) (out : List Order) (handle : ℕ) (line : Line)
    → line.pieces ≡ pieces → line.link ≡ Some handle → IsHostOf side line → Offers side gone out line.out
    → (count : ℕ) × Strives U side gone (replicate count Putting) (station_of upper out line) upper (with_pieces handle pieces line)
pieces_go_on U side gone upper [] out handle line are up host offers = (0, none_more U side gone upper out line host offers)
pieces_go_on U side gone upper (piece ∷ rest) out handle line are up host offers =
    elim (cases_Bool (has_room line && has_buffer line)) [
      | inl may ↦
          let on = pieces_go_on U side gone upper rest (out ++ Data handle piece ∷ []) handle (with_piece handle piece rest line) refl up
          (put_host side handle piece rest line up host)
          (offers_more side gone out line.out (Data handle piece) _ (pieces_are_orders side handle piece) offers) in
          let more = on.1 in
          rw may (
            suc on.0,
            record {
              after = more.after;
              makes = (_, puts U upper out handle piece rest line side up are (second (has_room line) (has_buffer line) may) host, more.makes);
              upper_is = more.upper_is;
              is_station = more.is_station;
            },
          )
      | inr may_not ↦ rw may_not (0, none_more U side gone upper out line host offers)
    ]

pieces_go_at : {S G : Type 0} (U : Upper S G) (side : Side) (gone : ℕ) (upper : S) (out : List Order) (link : Option ℕ) (line : Line)
    → line.link ≡ link → IsHostOf side line → Offers side gone out line.out
    → (count : ℕ) × Strives U side gone (replicate count Putting) (station_of upper out line) upper (put_pieces_on link line)
pieces_go_at U side gone upper out None line is host offers = (0, none_more U side gone upper out line host offers)
pieces_go_at U side gone upper out (Some handle) line is host offers = pieces_go_on U side gone upper line.pieces out handle line refl is host offers

pub pieces_go : {S G : Type 0} (U : Upper S G) → PiecesGo U
pieces_go {S} U side gone line station stands =
    subst (λ (s : Station S). (count : ℕ) × Strives U side gone (replicate count Putting) s station.upper (put_pieces line)) (sym stands.seen)
    (pieces_go_at U side gone station.upper station.out line.link line refl stands.host stands.offers)

-- ---- a PDU

record CanTake (line : Line) : Type 0 where
  pub handle : ℕ
  pub up : line.link ≡ Some handle
  pub none_waits : line.pieces ≡ []
  pub buffer : has_buffer line ≡ true

none_waiting : (pieces : List Piece) → (length pieces == 0) ≡ true → pieces ≡ []
none_waiting [] none = refl
none_waiting (piece ∷ pieces) none = let some = ne_eqb (suc (length pieces)) 0 (λ e. omega arith) in absurd cc

not_not : (b : Bool) → not (not b) ≡ true → b ≡ true
not_not true is = refl
not_not false is = cc

first : (a b : Bool) → (a && b) ≡ true → a ≡ true
first true b both = refl
first false b both = cc

some_link : (link : Option ℕ) → is_some link ≡ true → (handle : ℕ) × (link ≡ Some handle)
some_link None some = cc
some_link (Some handle) some = (handle, refl)

can_take : (line : Line) → can_take_pdu line ≡ true → CanTake line
can_take line may =
    let rest = second (is_some line.link) (not (is_waiting line) && (has_buffer line && has_room line)) may in
    let last = second (not (is_waiting line)) (has_buffer line && has_room line) rest in
    let up = some_link line.link (first (is_some line.link) (not (is_waiting line) && (has_buffer line && has_room line)) may) in
    record {
      handle = up.0;
      up = up.1;
      none_waits = none_waiting line.pieces (not_not (length line.pieces == 0) (first (not (is_waiting line)) (has_buffer line && has_room line) rest));
      buffer = first (has_buffer line) (has_room line) last;
    }

takes_at : {S G : Type 0} (U : Upper S G) (side : Side) (gone : ℕ) (pdu : List ℕ) (upper later : S) (out : List Order) (line : Line)
    → CanTake line → U.next upper ≡ Some (pdu, later) → IsHostOf side line → Offers side gone out line.out
    → (count : ℕ) × Strives U side gone (Taking ∷ replicate count Putting) (station_of upper out line) later (take_pdu pdu line)
takes_at U side gone pdu upper later out line can next host offers =
    let host_then : IsHostOf side (with_pdu pdu line) = record {
      role = host.role;
      commands = host.commands;
      few = host.few;
      number = host.number;
      alone = host.alone;
      off = λ off. absurd (up_not_off line.link can.handle can.up off);
    } in
    let go = pieces_go_at U side gone later out line.link (with_pdu pdu line) refl host_then offers in
    let more = go.1 in (
      go.0,
      record {
        after = more.after;
        makes = (
          station_of later out (with_pdu pdu line),
          record {
            handle = can.handle;
            link = can.up;
            none_waits = can.none_waits;
            free = ltb-true (packets_of line.ledger.held) line.ledger.total can.buffer;
            pdu = pdu;
            after = later;
            next = next;
            new_is = refl;
          },
          more.makes,
        );
        upper_is = more.upper_is;
        is_station = more.is_station;
      },
    )

pub pdus_go : {S G : Type 0} (U : Upper S G) → PdusGo U
pdus_go {S} U side gone line station pdu upper stands may next =
    subst (λ (s : Station S). (count : ℕ) × Strives U side gone (Taking ∷ replicate count Putting) s upper (take_pdu pdu line)) (sym stands.seen)
    (takes_at U side gone pdu station.upper upper station.out line (can_take line may) next stands.host stands.offers)

-- ---- a command

-- the host with that command out
abbrev commanded : HostCommand → List HostCommand → Line → Line
commanded command rest line = record line {
  commands = record line.commands { waiting = rest; awaited = Some (opcode (order_of command)) };
  asked = line.asked || asks (order_of command);
  out = line.out ++ spelling (command_packet command);
}

commanded_is : (command : HostCommand) (rest : List HostCommand) (line : Line) → line.commands.waiting ≡ command ∷ rest → with_next (Some command) line ≡ commanded command rest line
commanded_is command rest line is =
    let out : List ℕ = line.out ++ spelling (command_packet command) in
    ap (λ (waiting : List HostCommand). record line {
      commands = record line.commands { waiting = drop 1 waiting; awaited = Some (code.opcode command) };
      asked = line.asked || code.asks command;
      out = out;
    }) is
    ∙ ap (λ (number : ℕ). record line {
      commands = record line.commands { waiting = rest; awaited = Some number };
      asked = line.asked || code.asks command;
      out = out;
    }) (same_opcode command)
    ∙ ap (λ (asks_it : Bool). record line {
      commands = record line.commands { waiting = rest; awaited = Some (opcode (order_of command)) };
      asked = line.asked || asks_it;
      out = out;
    }) (same_asks command)

command_goes : {S G : Type 0} (U : Upper S G) (side : Side) (gone : ℕ) (upper : S) (out : List Order) (command : HostCommand) (rest : List HostCommand) (line : Line)
    → line.commands.waiting ≡ command ∷ rest → line.commands.awaited ≡ None → IsHostOf side line → Offers side gone out line.out
    → Strives U side gone (Commanding ∷ []) (station_of upper out line) upper (commanded command rest line)
command_goes U side gone upper out command rest line waiting awaited host offers =
    let all = subst (AllByRecursion (IsCommandOf side)) waiting host.commands in
    let few = subst AreFew (ap (λ (commands : List HostCommand). map order_of commands) waiting) host.few in
    record {
      after = station_of upper (out ++ order_of command ∷ []) (commanded command rest line);
      makes = (
        station_of upper (out ++ order_of command ∷ []) (commanded command rest line),
        record {
          order = order_of command;
          rest = map order_of rest;
          first = ap (λ (commands : List HostCommand). map order_of commands) waiting;
          none_awaited = awaited;
          new_is = refl;
        },
        refl,
      );
      upper_is = refl;
      is_station = record {
        host = record {
          role = host.role;
          commands = all.1;
          few = one_less (order_of command) (map order_of rest) few;
          number = host.number;
          alone = host.alone;
          off = host.off;
        };
        offers = offers_more side gone out line.out (order_of command) (command_packet command) (commands_are_orders side command all.0) offers;
        seen = refl;
      };
    }

goes_by : {S G : Type 0} (U : Upper S G) (side : Side) (gone : ℕ) (upper : S) (out : List Order) (line : Line) (waiting : List HostCommand) (awaited : Option ℕ)
    → line.commands.waiting ≡ waiting → line.commands.awaited ≡ awaited → IsHostOf side line → Offers side gone out line.out
    → (count : ℕ) × (count ≤ 1) × Strives U side gone (replicate count Commanding) (station_of upper out line) upper (with_next (if is_none awaited && nat_lt 0 1 then first_of waiting else None) line)
goes_by U side gone upper out line [] None waiting_is awaited_is host offers = (0, omega arith, none_more U side gone upper out line host offers)
goes_by {S} {G} U side gone upper out line (command ∷ rest) None waiting_is awaited_is host offers = (
  1,
  omega arith,
  subst (λ (new : Line). Strives U side gone (Commanding ∷ []) (station_of upper out line) upper new) (sym (commanded_is command rest line waiting_is))
      (command_goes U side gone upper out command rest line waiting_is awaited_is host offers),
)
goes_by U side gone upper out line waiting (Some number) waiting_is awaited_is host offers = (0, omega arith, none_more U side gone upper out line host offers)

commands_go_at : {S G : Type 0} (U : Upper S G) (side : Side) (gone : ℕ) (upper : S) (out : List Order) (line : Line) → IsHostOf side line → Offers side gone out line.out
    → (count : ℕ) × (count ≤ 1) × Strives U side gone (replicate count Commanding) (station_of upper out line) upper (put_command line)
commands_go_at {S} {G} U side gone upper out line host offers =
    let one : next_command line.commands ≡ (if is_none line.commands.awaited && nat_lt 0 1 then first_of line.commands.waiting else None) =
    ap (λ (n : ℕ). if is_none line.commands.awaited && nat_lt 0 n then first_of line.commands.waiting else None) host.number in
    elim (cases_Bool (has_room line)) [
      | inl room ↦
          rw room (subst (λ (next : Option HostCommand). (count : ℕ) × (count ≤ 1) × Strives U side gone (replicate count Commanding) (station_of upper out line) upper (with_next next line)) (sym one)
          (goes_by U side gone upper out line line.commands.waiting line.commands.awaited refl refl host offers))
      | inr full ↦ rw full (0, omega arith, none_more U side gone upper out line host offers)
    ]

pub commands_go : {S G : Type 0} (U : Upper S G) → CommandsGo U
commands_go {S} U side gone line station stands =
    subst (λ (s : Station S). (count : ℕ) × (count ≤ 1) × Strives U side gone (replicate count Commanding) s station.upper (put_command line)) (sym stands.seen)
    (commands_go_at U side gone station.upper station.out line stands.host stands.offers)

-- ---- a command is to be put out

-- the host with that command behind those that wait
abbrev bidden : HostCommand → Line → Line
bidden command line = record line { commands = record line.commands { waiting = line.commands.waiting ++ command ∷ [] } }

bidden_is : {S : Type 0} (side : Side) (gone : ℕ) (upper : S) (out : List Order) (command : HostCommand) (line : Line)
    → IsCommandOf side command → AreFew (map order_of line.commands.waiting ++ order_of command ∷ []) → IsHostOf side line → Offers side gone out line.out
    → IsStation side gone (bidden command line) (station_of upper out (bidden command line))
bidden_is side gone upper out command line is few host offers =
    record {
      host = record {
        role = host.role;
        commands = all_more side line.commands.waiting command host.commands is;
        few = subst AreFew (sym (map_one line.commands.waiting command)) few;
        number = host.number;
        alone = host.alone;
        off = host.off;
      };
      offers = offers;
      seen = refl;
    }

asks_at : {S G : Type 0} (U : Upper S G) (gone : ℕ) (upper : S) (out : List Order) (line : Line) → U.wants_link upper ≡ true → line.link ≡ None → line.asked ≡ false
    → list_any asks (map order_of line.commands.waiting) ≡ false → IsHostOf A line → Offers A gone out line.out
    → Strives U A gone (Asking ∷ []) (station_of upper out line) upper (bidden (CreateConnection (address B)) line)
asks_at {S} U gone upper out line wants off unasked none host offers =
    let command : HostCommand = CreateConnection (address B) in
    let old : Station S = station_of upper out line in
    record {
      after = station_of upper out (bidden command line);
      makes = (
        station_of upper out (bidden command line),
        record {
          wants = wants;
          off = off;
          unasked = unasked;
          none_waits = none;
          new_is = ap (λ (waiting : List Order). record old { waiting = waiting }) (map_one line.commands.waiting command);
        },
        refl,
      );
      upper_is = refl;
      is_station = bidden_is A gone upper out command line refl (one_asks Page (map order_of line.commands.waiting) refl none host.few) host offers;
    }

pub links_are_asked : {S G : Type 0} (U : Upper S G) → LinksAreAsked U
links_are_asked {S} {G} U gone line station stands wants off unasked none =
    let command : HostCommand = CreateConnection (address B) in
    let none_waits = ap (λ (s : Station S). list_any asks s.waiting) (sym stands.seen) ∙ none in
    subst (λ (s : Station S). Strives U A gone (Asking ∷ []) s station.upper (connecting (address B) line)) (sym stands.seen)
    (subst (λ (flow : Flow). Strives U A gone (Asking ∷ []) (station_of station.upper station.out line) station.upper (record line { commands = flow })) (sym (waits command line.commands stands.host.few))
    (asks_at U gone station.upper station.out line wants off unasked none_waits stands.host stands.offers))

-- that it has ended its link leaves all else as it was
ending_is : {S : Type 0} (side : Side) (gone : ℕ) (ending : Bool) (line : Line) (station : Station S) → IsStation side gone line station → IsStation side gone (record line { ending = ending }) (record station { ending = ending })
ending_is {S} side gone ending line station stands =
    let host = stands.host in
    record {
      host = record { role = host.role; commands = host.commands; few = host.few; number = host.number; alone = host.alone; off = host.off };
      offers = stands.offers;
      seen = ap (λ (s : Station S). record s { ending = ending }) stands.seen;
    }

ends_at : {S G : Type 0} (U : Upper S G) (side : Side) (gone handle : ℕ) (upper : S) (out : List Order) (line : Line) → line.link ≡ Some handle → line.pieces ≡ [] → U.next upper ≡ None
    → U.leaves_link upper ≡ true → line.ending ≡ false → list_any is_end (map order_of line.commands.waiting) ≡ false → IsHostOf side line → Offers side gone out line.out
    → Strives U side gone (Leaving ∷ []) (station_of upper out line) upper (record (bidden (Disconnect handle) line) { ending = true })
ends_at {S} U side gone handle upper out line up over quiet leaves unended none host offers =
    let command : HostCommand = Disconnect handle in
    let old : Station S = station_of upper out line in
    let ended : Line = record (bidden command line) { ending = true } in
    record {
      after = station_of upper out ended;
      makes = (
        station_of upper out ended,
        record {
          handle = handle;
          link = up;
          none_waits = over;
          none_next = quiet;
          leaves = leaves;
          unended = unended;
          none_ends = none;
          new_is = ap (λ (waiting : List Order). record old { waiting = waiting; ending = true }) (map_one line.commands.waiting command);
        },
        refl,
      );
      upper_is = refl;
      is_station = ending_is side gone true (bidden command line) (station_of upper out (bidden command line))
          (bidden_is side gone upper out command line (ends_anywhere side handle) (one_ends handle (map order_of line.commands.waiting) none host.few) host offers);
    }
  where
    ends_anywhere : (side : Side) (handle : ℕ) → IsCommandOf side (Disconnect handle)
    ends_anywhere A handle = tt
    ends_anywhere B handle = tt

pub links_are_ended : {S G : Type 0} (U : Upper S G) → LinksAreEnded U
links_are_ended {S} {G} U side gone handle line station stands up over quiet leaves unended none =
    let command : HostCommand = Disconnect handle in
    let none_waits = ap (λ (s : Station S). list_any is_end s.waiting) (sym stands.seen) ∙ none in
    let once : leaving (Some handle) line ≡ record line { commands = with_command command line.commands; ending = true } =
    ap (λ (b : Bool). if b then line else record line { commands = with_command command line.commands; ending = true }) unended in
    subst (λ (link : Option ℕ). Strives U side gone (Leaving ∷ []) station station.upper (leaving link line)) (sym up)
    (subst (λ (s : Station S). Strives U side gone (Leaving ∷ []) s station.upper (leaving (Some handle) line)) (sym stands.seen)
    (subst (λ (new : Line). Strives U side gone (Leaving ∷ []) (station_of station.upper station.out line) station.upper new) (sym once)
    (subst (λ (flow : Flow). Strives U side gone (Leaving ∷ []) (station_of station.upper station.out line) station.upper (record line { commands = flow; ending = true })) (sym (waits command line.commands stands.host.few))
    (ends_at U side gone handle station.upper station.out line up over quiet leaves unended none_waits stands.host stands.offers))))

-- ---- the beginning, and the machine

pub machines_change : {S G : Type 0} (U : Upper S G) → MachinesChange U
machines_change {S} U side gone line station upper stands =
    record { host = stands.host; offers = stands.offers; seen = ap (λ (s : Station S). record s { upper = upper }) stands.seen }

pub begins_as_first : {S G : Type 0} (U : Upper S G) → BeginsAsFirst U
begins_as_first U A =
    record {
      host = record {
        role = refl;
        commands = (tt, (tt, (tt, tt)));
        few = record { starts = omega arith; asking = omega arith; ending = omega arith };
        number = refl;
        alone = λ handle some. absurd (omega arith);
        off = λ off. refl;
      };
      offers = record { octets_are = refl; within = refl };
      seen = refl;
    }
begins_as_first U B =
    record {
      host = record {
        role = refl;
        commands = (tt, (tt, (tt, (tt, tt))));
        few = record { starts = omega arith; asking = omega arith; ending = omega arith };
        number = refl;
        alone = λ handle some. absurd (omega arith);
        off = λ off. refl;
      };
      offers = record { octets_are = refl; within = refl };
      seen = refl;
    }

pub starts_as_first : {S G : Type 0} (U : Upper S G) → StartsAsFirst U
starts_as_first U A =
    let stands = begins_as_first U A in
    command_goes U A 0 U.first [] Reset (ReadBufferSize ∷ ReadBdAddr ∷ []) (fresh (role_of A)) refl refl stands.host stands.offers
starts_as_first U B =
    let stands = begins_as_first U B in
    command_goes U B 0 U.first [] Reset (ReadBufferSize ∷ ReadBdAddr ∷ WriteScanEnable ∷ []) (fresh (role_of B)) refl refl stands.host stands.offers
