-- Until it hears the next packet a host puts out at most one packet for each buffer of its controller, and a command: 65 packets.
use Rattle.std.proofs.Common.{◌≡◌, ◌∙◌, ◌&&◌, ℕ, suc, ◌+◌, ◌*◌, ◌≤◌, nat_lt, Bool, cond, List, [], ◌∷◌, ◌++◌, map, length, is_none, Option, Some, None, refl, sym, ap, subst, length-append, arith, if◌then◌else◌}
use Rattle.std.specs.List.{AllByRecursion}
use Rattle.std.proofs.lemmas.Bool.{eq-eqb}
use Rattle.receiving.specs.capture.specs.declared.flow.Flow.{Flow}
use Rattle.receiving.specs.capture.specs.declared.flow.Flow.TheVariants.{Into, Out}
use Rattle.receiving.specs.capture.specs.Moves.{Move}
use Rattle.receiving.specs.h4_framing.specs.Packets.{Packet, Command, Acl, Sync, Event, spelling, spellings, IsPacket}
use Rattle.noting_laws.specs.scenario_laws.specs.acl_credits.specs.Ledgers.{packets_of, packets_on}
use Rattle.receiving.specs.host_link.specs.declared.host_command.HostCommand.{HostCommand}
use Rattle.receiving.specs.host_link.specs.CommandFlows.{first_of}
use Rattle.receiving.specs.host_link.specs.Lines.{Line}
use Rattle.receiving.specs.host_link.specs.Stands.{out_of}
use Rattle.noting_laws.specs.world_model.specs.Machines.{Upper}
use Rattle.orderly_laws.specs.unit_laws.specs.Units.{Lined, Occasion, Comes, Learns, Says, Puts, Commands, Waits, units_of, units, Happens, Runs}
use Rattle.orderly_laws.specs.unit_laws.proofs.Capacity.{AreOfLink}
use Rattle.orderly_laws.specs.unit_laws.proofs.Taking.{ReadAt, runs_read}

-- ---- how many packets went out behind the last that came in, where so many had before

abbrev counted : Flow → ℕ → ℕ
counted Into n = 0
counted Out n = suc n

abbrev pub went_since : ℕ → List Move → ℕ
went_since n [] = n
went_since n (move ∷ moves) = went_since (counted move.flow n) moves

pub went_since-append : (n : ℕ) (xs ys : List Move) → went_since n (xs ++ ys) ≡ went_since (went_since n xs) ys
went_since-append n [] ys = refl
went_since-append n (x ∷ xs) ys = went_since-append (counted x.flow n) xs ys

pub went_out : (n : ℕ) (packets : List Packet) → went_since n (map out_of packets) ≡ n + length packets
went_out n [] = omega arith
went_out n (packet ∷ packets) = went_out (suc n) packets ∙ omega arith

-- ---- each uses something up

-- the buffers that are used up, and the command that is awaited
abbrev awaits_one : Option ℕ → ℕ
awaits_one None = 0
awaits_one (Some number) = 1

abbrev pub used_up : Line → ℕ
used_up line = packets_of line.ledger.held + awaits_one line.commands.awaited

pub few_used : (line : Line) (count : ℕ) → packets_of line.ledger.held ≤ count → used_up line ≤ count + 1
few_used line count low = by line.commands.awaited
  where
    by : (awaited : Option ℕ) → packets_of line.ledger.held + awaits_one awaited ≤ count + 1
    by None = omega (arith, low)
    by (Some number) = omega (arith, low)

on_link : (held : Option (ℕ × ℕ)) (link : Option ℕ) (handle : ℕ) → AreOfLink held link → link ≡ Some handle → packets_on held handle ≡ packets_of held
on_link None link handle are is = refl
on_link (Some one) link handle are is =
    let same : Some one.0 ≡ Some handle = sym are ∙ is in
    let here : one.0 ≡ handle = cc in
    ap (λ (b : Bool). cond b one.1 0) (eq-eqb one.0 handle here)

none_awaited : (awaited : Option ℕ) (number : ℕ) (waiting : List HostCommand) (command : HostCommand) → (if is_none awaited && nat_lt 0 number then first_of waiting else None) ≡ Some command → awaited ≡ None
none_awaited None number waiting command is = refl
none_awaited (Some other) number waiting command is = absurd cc

module _ {S G : Type 0} (U : Upper S G) where
  happens_since : (past : List Move) (occasion : Occasion G) (old new : Lined S) (n : ℕ) → Happens U occasion old new → ReadAt past old.line → n ≤ used_up old.line → went_since n (units_of occasion) ≤ used_up new.line
  happens_since past (Comes gifts unit) old new n happens read less = omega arith
  happens_since past (Learns gifts news) old new n (own, is) read less = subst (λ (s : Lined S). n ≤ used_up s.line) (sym is) less
  happens_since past (Says pdu) old new n says read less = subst (λ (l : Line). n ≤ used_up l) (sym says.line_is) less
  happens_since past (Puts handle piece) old new n puts read less =
      let all = on_link old.line.ledger.held old.line.link handle read.knows.held puts.link in
      subst (λ (l : Line). suc n ≤ used_up l) (sym puts.line_is) (omega (arith, all, less))
  happens_since past (Commands command) old new n puts read less =
      let none = ap awaits_one (none_awaited old.line.commands.awaited old.line.commands.number old.line.commands.waiting command puts.first) in
      subst (λ (l : Line). suc n ≤ used_up l) (sym puts.line_is) (omega (arith, none, less))
  happens_since past Waits old new n waits read less =
      let held = ap (λ (l : Line). packets_of l.ledger.held) waits.line_is in
      let awaited = ap awaits_one waits.awaited_is in
      omega (arith, held, awaited, less)

  pub runs_since : (P : Occasion G → Lined S → Type 0) (past : List Move) (occasions : List (Occasion G)) (old new : Lined S) (n : ℕ) → Runs U P occasions old new → ReadAt past old.line → n ≤ used_up old.line → went_since n (units occasions) ≤ used_up new.line
  runs_since P past [] old new n is read less = subst (λ (s : Lined S). n ≤ used_up s.line) (sym is) less
  runs_since P past (occasion ∷ occasions) old new n (mid, so, happens, rest) read less =
      let one = happens_since past occasion old mid n happens read less in
      let at = runs_read U P past (occasion ∷ []) old mid (mid, so, happens, refl) read in
      subst (λ (k : ℕ). k ≤ used_up new.line) (sym (went_since-append n (units_of occasion) (units occasions)))
      (runs_since P (past ++ units (occasion ∷ [])) occasions mid new (went_since n (units_of occasion)) rest at one)

-- ---- how many octets they are

packet_short : (packet : Packet) → IsPacket 1021 packet → length (spelling packet) ≤ 1026
packet_short (Command opcode params) fits = omega arith
packet_short (Acl word octets) fits = omega arith
packet_short (Sync word octets) fits = omega arith
packet_short (Event code params) fits = omega arith

pub packets_short : (packets : List Packet) → AllByRecursion (IsPacket 1021) packets → length (spellings packets) ≤ 1026 * length packets
packets_short [] each = omega arith
packets_short (packet ∷ packets) each =
    let one = packet_short packet each.0 in
    let rest = packets_short packets each.1 in
    let long = length-append (spelling packet) (spellings packets) in
    omega (arith, one, rest, long)
