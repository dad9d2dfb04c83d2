-- What a host does by itself, and what it makes of a unit, is a run of it over units.
use Rattle.std.proofs.Common.{◌≡◌, ℕ, ◌<◌, ◌^◌, ◌==◌, ◌&&◌, not, Bool, true, false, cond, List, [], ◌∷◌, ◌++◌, map, length, drop, Option, Some, None, is_some, is_none, refl, sym, ap, ap₂, subst, ◌∙◌, append_assoc, arith}
use Rattle.std.specs.Prelude.{nat_lt}
use Rattle.std.specs.List.{AllByRecursion}
use Rattle.std.proofs.lemmas.Bool.{eqb-true}
use Rattle.std.proofs.lemmas.List.{append-nil, map-append}
use Rattle.std.proofs.lemmas.List.Concat.{flat_map-append}
use Rattle.scenario_laws.specs.bt_base.specs.Numbers.{IsHandle}
use Rattle.scenario_laws.specs.h4_framing.specs.Packets.{Packet, spelling, spellings, IsPacket}
use Rattle.scenario_laws.specs.h4_framing.proofs.FaultLemmas.{spellings_append}
use Rattle.scenario_laws.specs.h4_framing.proofs.ReadingLemmas.{all_append}
use Rattle.scenario_laws.specs.hci_packets.specs.AclWords.{acl_word_of}
use Rattle.scenario_laws.specs.hci_packets.specs.declared.acl.Boundary.{Boundary}
use Rattle.scenario_laws.specs.hci_packets.specs.declared.acl.Boundary.TheVariants.{First, Continuing, FirstFromController}
use Rattle.scenario_laws.specs.acl_fragments.specs.Pieces.{Piece}
use Rattle.scenario_laws.specs.capture.specs.Moves.{Move}
use Rattle.scenario_laws.specs.host_link.specs.declared.host_command.HostCommand.{HostCommand}
use Rattle.scenario_laws.specs.host_link.specs.declared.host_command.HostCommand.TheVariants.{CreateConnection, Disconnect}
use Rattle.scenario_laws.specs.host_link.specs.CommandFlows.{first_of, next_command, with_command}
use Rattle.scenario_laws.specs.host_link.specs.Hearing.{fault_of, news_of}
use Rattle.scenario_laws.specs.host_link.specs.HostCommands.{command_packet}
use Rattle.scenario_laws.specs.host_link.specs.Lines.{Line}
use Rattle.scenario_laws.specs.host_link.specs.PuttingOut.{has_room, has_buffer, can_take_pdu, take_pdu, with_pdu, with_piece, with_pieces, put_pieces_on, with_next, piece_packet, leaving}
use Rattle.scenario_laws.specs.host_link.specs.Stands.{into, out_of}
use Rattle.scenario_laws.specs.world_model.specs.Machines.{Upper}
use Rattle.unit_laws.specs.Units.{Lined, Occasion, Comes, Says, Puts, Commands, Waits, units_of, units, after_unit, Happens, Runs, IsToldInTurn, ComesInTurn}
use Rattle.unit_laws.specs.Laws.{FiresNone}
use Rattle.unit_laws.specs.Calls.{FitsPacket, CanGo, gifts_of, gifts_in, IsWritable, GoesBy, SaysInOctets, CallsGo, CallsAreRuns}
use Rattle.unit_laws.proofs.Capacity.{flow_awaited}
use Rattle.unit_laws.proofs.Written.{starts_go, ends_go, call_goes, flow_more, cut_short, heard_writes}

-- ---- one run behind the other

pub runs_then : {S G : Type 0} (U : Upper S G) (P : Occasion G → Lined S → Type 0) (xs ys : List (Occasion G)) (old mid new : Lined S) → Runs U P xs old mid → Runs U P ys mid new → Runs U P (xs ++ ys) old new
runs_then {S} U P [] ys old mid new first second = subst (λ (s : Lined S). Runs U P ys s new) first second
runs_then U P (x ∷ xs) ys old mid new (next, so, happens, rest) second = (next, so, happens, runs_then U P xs ys next mid new rest second)

-- what came in, and what went out behind it
units_both : {G : Type 0} (xs ys : List (Occasion G)) (came one two : List Packet) → units xs ≡ map into came ++ map out_of one → units ys ≡ map out_of two → units (xs ++ ys) ≡ map into came ++ map out_of (one ++ two)
units_both xs ys came one two first second =
    flat_map-append units_of xs ys
    ∙ (ap₂ (λ (x y : List Move). x ++ y) first second ∙ (append_assoc (map into came) (map out_of one) (map out_of two) ∙ ap (λ (more : List Move). map into came ++ more) (sym (map-append out_of one two))))

both_untimed : {G : Type 0} (one two : List (Occasion G)) → AllByRecursion FiresNone one → AllByRecursion FiresNone two → AllByRecursion FiresNone (one ++ two)
both_untimed [] two first second = second
both_untimed (occasion ∷ one) two first second = (first.0, both_untimed one two first.1 second)

module _ {S G : Type 0} (U : Upper S G) where
  pub goes_none : (now : Lined S) → IsWritable now.line → GoesBy U [] [] now now
  goes_none now writable = record { occasions = []; runs = refl; given = refl; untimed = tt; went = []; each = tt; units_are = refl; out = sym (append-nil now.line.out); writable = writable }

  goes_then : (gifts : List (List G)) (came : List Packet) (old mid new : Lined S) → GoesBy U gifts came old mid → GoesBy U [] [] mid new → GoesBy U gifts came old new
  goes_then gifts came old mid new first second = record {
    occasions = first.occasions ++ second.occasions;
    runs = runs_then U (ComesInTurn U) first.occasions second.occasions old mid new first.runs second.runs;
    given = flat_map-append gifts_of first.occasions second.occasions ∙ (ap₂ (λ (x y : List (List G)). x ++ y) first.given second.given ∙ append-nil gifts);
    untimed = both_untimed first.occasions second.occasions first.untimed second.untimed;
    went = first.went ++ second.went;
    each = all_append (IsPacket 1021) first.went second.went first.each second.each;
    units_are = units_both first.occasions second.occasions came first.went second.went first.units_are second.units_are;
    out = second.out
        ∙ (ap (λ (out : List ℕ). out ++ spellings second.went) first.out
        ∙ (append_assoc old.line.out (spellings first.went) (spellings second.went) ∙ ap (λ (more : List ℕ). old.line.out ++ more) (sym (spellings_append first.went second.went))));
    writable = second.writable;
  }

  -- nothing moves; or a packet goes out
  goes_aside : (occasion : Occasion G) (old new : Lined S) → units (occasion ∷ []) ≡ [] → gifts_in (occasion ∷ []) ≡ [] → FiresNone occasion → ComesInTurn U occasion old → Happens U occasion old new → new.line.out ≡ old.line.out → IsWritable new.line → GoesBy U [] [] old new
  goes_aside occasion old new none asks untimed turn happens out writable = record {
    occasions = occasion ∷ [];
    runs = (new, turn, happens, refl);
    given = asks;
    untimed = (untimed, tt);
    went = [];
    each = tt;
    units_are = none;
    out = out ∙ sym (append-nil old.line.out);
    writable = writable;
  }

  goes_out : (occasion : Occasion G) (packet : Packet) (old new : Lined S) → IsPacket 1021 packet → units (occasion ∷ []) ≡ out_of packet ∷ [] → gifts_in (occasion ∷ []) ≡ [] → FiresNone occasion → ComesInTurn U occasion old → Happens U occasion old new → new.line.out ≡ old.line.out ++ spelling packet → IsWritable new.line → GoesBy U [] [] old new
  goes_out occasion packet old new is one asks untimed turn happens out writable = record {
    occasions = occasion ∷ [];
    runs = (new, turn, happens, refl);
    given = asks;
    untimed = (untimed, tt);
    went = packet ∷ [];
    each = (is, tt);
    units_are = one;
    out = out ∙ ap (λ (more : List ℕ). old.line.out ++ more) (sym (append-nil (spelling packet)));
    writable = writable;
  }

  -- ---- pieces

  word_low : (handle : ℕ) (boundary : Boundary) → IsHandle handle → acl_word_of (record { handle = handle; boundary = boundary; broadcast = 0 }) < 2 ^ 16
  word_low handle First low = omega arith
  word_low handle Continuing low = omega arith
  word_low handle FirstFromController low = omega arith

  piece_goes : (handle : ℕ) (piece : Piece) → IsHandle handle → FitsPacket piece → IsPacket 1021 (piece_packet handle piece)
  piece_goes handle piece low short = let few = short.short in (word_low handle piece.boundary low, omega (arith, few), few, short.octets)

  puts_one : (handle : ℕ) (piece : Piece) (rest : List Piece) (now : Lined S) → now.line.link ≡ Some handle → now.line.pieces ≡ piece ∷ rest → IsWritable now.line → GoesBy U [] [] now (record now { line = with_piece handle piece rest now.line })
  puts_one handle piece rest now link first writable =
      let short = subst (AllByRecursion FitsPacket) first writable.pieces in
      let packet = piece_goes handle piece (writable.low handle link) short.0 in
      goes_out (Puts handle piece) (piece_packet handle piece) now (record now { line = with_piece handle piece rest now.line }) packet refl refl tt tt
      (record { link = link; rest = rest; first = first; packet = packet; upper_is = refl; line_is = refl })
      refl
      (record { long = writable.long; off = λ none. let never : None ≡ Some handle = sym none ∙ link in absurd cc; low = writable.low; size = writable.size; pieces = short.1; commands = writable.commands })

  puts_all : (handle : ℕ) (pieces : List Piece) (now : Lined S) → now.line.link ≡ Some handle → now.line.pieces ≡ pieces → IsWritable now.line → GoesBy U [] [] now (record now { line = with_pieces handle pieces now.line })
  puts_all handle [] now link none writable = goes_none now writable
  puts_all handle (piece ∷ rest) now link first writable = by (has_room now.line && has_buffer now.line) (puts_one handle piece rest now link first writable) (λ mid linked waits writes. puts_all handle rest mid linked waits writes)
    where
      by : (b : Bool) → GoesBy U [] [] now (record now { line = with_piece handle piece rest now.line })
          → ((mid : Lined S) → mid.line.link ≡ Some handle → mid.line.pieces ≡ rest → IsWritable mid.line → GoesBy U [] [] mid (record mid { line = with_pieces handle rest mid.line }))
          → GoesBy U [] [] now (record now { line = cond b (with_pieces handle rest (with_piece handle piece rest now.line)) now.line })
      by true one more =
          let mid : Lined S = record now { line = with_piece handle piece rest now.line } in
          goes_then [] [] now mid (record now { line = with_pieces handle rest (with_piece handle piece rest now.line) }) one (more mid link refl one.writable)
      by false one more = goes_none now writable

  puts_on : (link : Option ℕ) (now : Lined S) → now.line.link ≡ link → IsWritable now.line → GoesBy U [] [] now (record now { line = put_pieces_on link now.line })
  puts_on None now is writable = goes_none now writable
  puts_on (Some handle) now is writable = puts_all handle now.line.pieces now is refl writable

  -- ---- a PDU

  record IsFree (line : Line) : Type 0 where
    handle : ℕ
    link : line.link ≡ Some handle
    pieces : line.pieces ≡ []

  free_by : (line : Line) (link : Option ℕ) (none buffer room : Bool) → line.link ≡ link → (length line.pieces == 0) ≡ none → (is_some link && (not (not none) && (buffer && room))) ≡ true → IsFree line
  free_by line None none buffer room is same may = cc
  free_by line (Some handle) false buffer room is same may = cc
  free_by line (Some handle) true buffer room is same may = record { handle = handle; link = is; pieces = nothing line.pieces (eqb-true (length line.pieces) 0 same) }
    where
      nothing : (pieces : List Piece) → length pieces ≡ 0 → pieces ≡ []
      nothing [] zero_is = refl
      nothing (piece ∷ pieces) zero_is = absurd (omega (arith, zero_is))

  says_one : SaysInOctets U → (pdu : List ℕ) (after : S) (now : Lined S) → IsFree now.line → U.next now.upper ≡ Some (pdu, after) → IsWritable now.line → GoesBy U [] [] now (record { line = with_pdu pdu now.line; upper = after })
  says_one octets pdu after now free next writable =
      goes_aside (Says pdu) now (record { line = with_pdu pdu now.line; upper = after }) refl refl tt tt
      (record { handle = free.handle; link = free.link; none_waits = free.pieces; next_is = next; line_is = refl })
      refl
      (record {
        long = writable.long;
        off = λ none. let never : None ≡ Some free.handle = sym none ∙ free.link in absurd cc;
        low = writable.low;
        size = writable.size;
        pieces = cut_short (length pdu) now.line.size First pdu writable.size (octets now.upper pdu after next);
        commands = writable.commands;
      })

  says_all : SaysInOctets U → (pdu : List ℕ) (after : S) (now : Lined S) → IsWritable now.line → can_take_pdu now.line ≡ true → U.next now.upper ≡ Some (pdu, after) → GoesBy U [] [] now (record { line = take_pdu pdu now.line; upper = after })
  says_all octets pdu after now writable may next =
      let free = free_by now.line now.line.link (length now.line.pieces == 0) (has_buffer now.line) (has_room now.line) refl refl may in
      let one = says_one octets pdu after now free next writable in
      let mid : Lined S = record { line = with_pdu pdu now.line; upper = after } in
      goes_then [] [] now mid (record { line = take_pdu pdu now.line; upper = after }) one (puts_on now.line.link mid refl one.writable)

  -- ---- commands

  waits_more : (command : HostCommand) (ending : Bool) (now : Lined S) → CanGo command → IsWritable now.line → GoesBy U [] [] now (record now { line = record now.line { commands = with_command command now.line.commands; ending = ending } })
  waits_more command ending now go writable =
      goes_aside Waits now (record now { line = record now.line { commands = with_command command now.line.commands; ending = ending } }) refl refl tt tt (record { upper_is = refl; line_is = refl; awaited_is = flow_awaited command now.line.commands }) refl
      (record { long = writable.long; off = writable.off; low = writable.low; size = writable.size; pieces = writable.pieces; commands = flow_more now.line.commands command writable.commands go })

  ends_by : (link : Option ℕ) (now : Lined S) → now.line.link ≡ link → IsWritable now.line → GoesBy U [] [] now (record now { line = leaving link now.line })
  ends_by None now is writable = goes_none now writable
  ends_by (Some handle) now is writable = by now.line.ending
    where
      by : (ending : Bool) → GoesBy U [] [] now (record now { line = cond ending now.line (record now.line { commands = with_command (Disconnect handle) now.line.commands; ending = true }) })
      by true = goes_none now writable
      by false = waits_more (Disconnect handle) true now (ends_go handle (writable.low handle is)) writable

  first_goes : (b : Bool) (waiting : List HostCommand) (command : HostCommand) → cond b (first_of waiting) None ≡ Some command → AllByRecursion CanGo waiting → CanGo command
  first_goes false waiting command is all = cc
  first_goes true [] command is all = cc
  first_goes true (first ∷ waiting) command is all = subst CanGo (same is) all.0
    where
      same : Some first ≡ Some command → first ≡ command
      same both = cc

  all_behind : (waiting : List HostCommand) → AllByRecursion CanGo waiting → AllByRecursion CanGo (drop 1 waiting)
  all_behind [] all = tt
  all_behind (first ∷ waiting) all = all.1

  commands_by : (room : Bool) (found : Option HostCommand) (now : Lined S) → next_command now.line.commands ≡ found → IsWritable now.line → GoesBy U [] [] now (record now { line = cond room (with_next found now.line) now.line })
  commands_by false found now is writable = goes_none now writable
  commands_by true None now is writable = goes_none now writable
  commands_by true (Some command) now is writable =
      let go = first_goes (is_none now.line.commands.awaited && nat_lt 0 now.line.commands.number) now.line.commands.waiting command is writable.commands in
      goes_out (Commands command) (command_packet command) now (record now { line = with_next (Some command) now.line }) go.packet refl refl tt tt
      (record { first = is; whole = go.whole; packet = go.packet; upper_is = refl; line_is = refl })
      refl
      (record { long = writable.long; off = writable.off; low = writable.low; size = writable.size; pieces = writable.pieces; commands = all_behind now.line.commands.waiting writable.commands })

  -- ---- a unit

  hears_one : (limit : ℕ) (gifts : List G) (unit : Packet) (now : Lined S) → IsWritable now.line → IsPacket limit unit → fault_of unit now.line ≡ None → IsToldInTurn U now (news_of unit now.line) → GoesBy U (gifts ∷ []) (unit ∷ []) now (after_unit U gifts unit now)
  hears_one limit gifts unit now writable is none turn =
      let writes = heard_writes limit unit now.line is none writable in
      record {
        occasions = Comes gifts unit ∷ [];
        runs = (after_unit U gifts unit now, turn, (none, refl), refl);
        given = refl;
        untimed = (tt, tt);
        went = [];
        each = tt;
        units_are = refl;
        out = writes.out_is ∙ sym (append-nil now.line.out);
        writable = writes.writable;
      }

  calls_go : (now : Lined S) → SaysInOctets U → IsWritable now.line → CallsGo U now
  calls_go now octets writable = record {
    puts = puts_on now.line.link now refl writable;
    says = λ pdu after may next. says_all octets pdu after now writable may next;
    ends = ends_by now.line.link now refl writable;
    pages = λ address six is. waits_more (CreateConnection address) now.line.ending now (call_goes address six is) writable;
    commands = commands_by (has_room now.line) (next_command now.line.commands) now refl writable;
    hears = λ limit gifts unit is none turn. hears_one limit gifts unit now writable is none turn;
  }

  pub calls_are_runs : CallsAreRuns U
  calls_are_runs = record {
    fresh = λ role. record { long = omega arith; off = λ none. refl; low = λ handle is. cc; size = omega arith; pieces = tt; commands = starts_go role };
    calls = calls_go;
    joined = goes_then;
  }
