-- A line knows how many packets its controller takes, and how many are outstanding.
use Rattle.std.proofs.Common.{◌≡◌, ℕ, ◌==◌, ◌&&◌, nat_lt, not, min, Bool, true, false, cond, eqb, List, [], ◌∷◌, ◌++◌, length, drop, slice_index, fold, Option, Some, None, is_none, if◌then◌else◌, refl, sym, ap, subst, ◌∙◌}
use Rattle.std.specs.Option.{option_map}
use Rattle.std.proofs.lemmas.Bool.{eqb-true, eq-eqb}
use Rattle.byteorder.specs.Endian.{little_number}
use Rattle.scenario_laws.specs.h4_framing.specs.Packets.{Packet, Command, Acl, Sync, Event}
use Rattle.scenario_laws.specs.hci_packets.specs.Events.{PlainEvent, ConnectionComplete, ConnectionRequest, DisconnectionComplete, CommandComplete, CommandStatus, CompletedPackets, Other, entries_of}
use Rattle.scenario_laws.specs.acl_credits.specs.Ledgers.{Account, packets_of, packets_on, outstanding_on, less, without}
use Rattle.scenario_laws.specs.acl_fragments.specs.Pieces.{Piece}
use Rattle.scenario_laws.specs.capture.specs.Buffers as buffers
use Rattle.scenario_laws.specs.capture.specs.Links.{Link}
use Rattle.scenario_laws.specs.capture.specs.Moves.{Move}
use Rattle.scenario_laws.specs.capture.proofs.HistoryLaws.{led_by-append}
use Rattle.scenario_laws.specs.host_link.specs.declared.host_command.HostCommand.{HostCommand}
use Rattle.scenario_laws.specs.host_link.specs.declared.returned.Returned.{Returned}
use Rattle.scenario_laws.specs.host_link.specs.declared.returned.Returned.TheVariants.{Refused, Unlisted, Status, Buffers}
use Rattle.scenario_laws.specs.host_link.specs.CommandFlows.{Flow, is_number, awaits, with_command, stated, answered}
use Rattle.scenario_laws.specs.host_link.specs.EventReading.{event_in}
use Rattle.scenario_laws.specs.host_link.specs.Hearing.{with_flow, learn, after_answer, after_other, after_complete, after_status, after_connection, may_accept, after_request, after_disconnection, given_back, after_piece, piece_on, after_event, after_packet}
use Rattle.scenario_laws.specs.host_link.specs.Lines.{Line}
use Rattle.scenario_laws.specs.host_link.specs.Returning.{returned_by, status_in, buffers_in, completes}
use Rattle.unit_laws.specs.Capacity.{Capacity, with_answer, with_event, with_heard, capacity_after, capacity, none_stated}

-- ---- what a line knows

-- the packets that are outstanding are those of the link that is up
abbrev pub AreOfLink : Option (ℕ × ℕ) → Option ℕ → Type 0
AreOfLink None link = Unit {0}
AreOfLink (Some held) link = link ≡ Some held.0

-- it awaits what the packets say, and its ledger has room for as many as they say
pub record Knows (read : Capacity) (line : Line) : Type 0 where
  pub awaited : read.awaited ≡ awaits 0x1005 line.commands
  pub count : read.count ≡ line.ledger.total
  pub held : AreOfLink line.ledger.held line.link

-- ---- nothing of these changes

pub record Same (old new : Line) : Type 0 where
  pub awaited : new.commands.awaited ≡ old.commands.awaited
  pub ledger : new.ledger ≡ old.ledger
  pub link : new.link ≡ old.link

pub knows_same : (read : Capacity) (old new : Line) → Same old new → Knows read old → Knows read new
knows_same read old new is knows = record {
  awaited = knows.awaited ∙ ap (is_number 0x1005) (sym is.awaited);
  count = knows.count ∙ ap (λ (account : Account). account.total) (sym is.ledger);
  held = subst (λ (account : Account). AreOfLink account.held new.link) (sym is.ledger) (subst (AreOfLink old.ledger.held) (sym is.link) knows.held);
}

same : (line : Line) → Same line line
same line = record { awaited = refl; ledger = refl; link = refl }

same_by : (b : Bool) (old one two : Line) → Same old one → Same old two → Same old (cond b one two)
same_by true old one two first second = first
same_by false old one two first second = second

-- ---- commands are answered

-- another command than Read Buffer Size is awaited
other_awaited : (opcode : ℕ) (awaited : Option ℕ) → eqb opcode 0x1005 ≡ false → is_number opcode awaited ≡ true → is_number 0x1005 awaited ≡ false
other_awaited opcode None other is = refl
other_awaited opcode (Some number) other is = ap (λ (n : ℕ). eqb n 0x1005) (eqb-true number opcode is) ∙ other

-- its answer ends the waiting
answered_other : (read : Capacity) (number opcode : ℕ) (line : Line) → eqb opcode 0x1005 ≡ false → awaits opcode line.commands ≡ true → Knows read line → Knows read (with_flow (answered number line.commands) line)
answered_other read number opcode line other is knows = record { awaited = knows.awaited ∙ other_awaited opcode line.commands.awaited other is; count = knows.count; held = knows.held }

stated_same : (number : ℕ) (line : Line) → Same line (with_flow (stated number line.commands) line)
stated_same number line = record { awaited = refl; ledger = refl; link = refl }

abbrev NoBuffers : Returned → Type 0
NoBuffers Refused = Unit {0}
NoBuffers Unlisted = Unit {0}
NoBuffers (Status status) = Unit {0}
NoBuffers (Buffers status size count) = ⊥

status_none : (n : ℕ) (params : List ℕ) → NoBuffers (status_in n params)
status_none n params = by (length params == n)
  where
    by : (b : Bool) → NoBuffers (cond b (Status (slice_index params 0)) Refused)
    by true = tt
    by false = tt

other_returns : (opcode : ℕ) (params : List ℕ) → eqb opcode 0x1005 ≡ false → NoBuffers (returned_by opcode params)
other_returns opcode params other =
    subst (λ (last : Bool). NoBuffers (cond (eqb opcode 0x0C03) (status_in 1 params) (cond (eqb opcode 0x0C1A) (status_in 1 params) (cond (eqb opcode 0x1009) (status_in 7 params) (cond last (buffers_in params) Unlisted))))) (sym other)
    (by (eqb opcode 0x0C03) (eqb opcode 0x0C1A) (eqb opcode 0x1009))
  where
    by : (a b c : Bool) → NoBuffers (cond a (status_in 1 params) (cond b (status_in 1 params) (cond c (status_in 7 params) Unlisted)))
    by true b c = status_none 1 params
    by false true c = status_none 1 params
    by false false true = status_none 7 params
    by false false false = tt

answer_other : (read : Capacity) (number opcode : ℕ) (returned : Returned) (line : Line) → eqb opcode 0x1005 ≡ false → NoBuffers returned → awaits opcode line.commands ≡ true → Knows read line → Knows read (after_answer number returned line)
answer_other read number opcode Refused line other none is knows = knows
answer_other read number opcode Unlisted line other none is knows = knows_same read line (after_answer number Unlisted line) (stated_same number line) knows
answer_other read number opcode (Status status) line other none is knows = answered_other read number opcode line other is knows
answer_other read number opcode (Buffers status size count) line other none is knows = absurd none

unawaited_same : (number : ℕ) (returned : Returned) (line : Line) → Same line (after_other number returned line)
unawaited_same number Refused line = same line
unawaited_same number Unlisted line = stated_same number line
unawaited_same number (Status status) line = stated_same number line
unawaited_same number (Buffers status size count) line = stated_same number line

complete_other : (read : Capacity) (number opcode : ℕ) (returned : List ℕ) (line : Line) → eqb opcode 0x1005 ≡ false → Knows read line → Knows read (after_complete number opcode (returned_by opcode returned) line)
complete_other read number opcode returned line other knows = by (awaits opcode line.commands) refl
  where
    by : (b : Bool) → awaits opcode line.commands ≡ b → Knows read (cond b (after_answer number (returned_by opcode returned) line) (after_other number (returned_by opcode returned) line))
    by true is = answer_other read number opcode (returned_by opcode returned) line other (other_returns opcode returned other) is knows
    by false is = knows_same read line (after_other number (returned_by opcode returned) line) (unawaited_same number (returned_by opcode returned) line) knows

-- ---- Read Buffer Size is answered

learns : (read : Capacity) (number size count : ℕ) (line : Line) → Knows read line → Knows (record { awaited = false; count = if is_none line.link then min count 64 else read.count }) (learn size count (with_flow (answered number line.commands) line))
learns read number size count line knows = by line.link refl
  where
    by : (link : Option ℕ) → line.link ≡ link
        → Knows (record { awaited = false; count = cond (is_none link) (min count 64) read.count })
        (cond (is_none link) (record line { commands = answered number line.commands; size = min size 1021; ledger = record { total = min count 64; held = None }; pieces = [] }) (with_flow (answered number line.commands) line))
    by None is = record { awaited = refl; count = refl; held = tt }
    by (Some handle) is = record { awaited = refl; count = knows.count; held = knows.held }

-- what is returned for it, or refused
abbrev AreBuffers : Returned → Type 0
AreBuffers Refused = Unit {0}
AreBuffers Unlisted = ⊥
AreBuffers (Status status) = ⊥
AreBuffers (Buffers status size count) = Unit {0}

buffers_are : (params : List ℕ) → AreBuffers (buffers_in params)
buffers_are params = by (length params == 8)
  where
    by : (b : Bool) → AreBuffers (cond b (Buffers (slice_index params 0) (little_number 2 (drop 1 params)) (little_number 2 (drop 4 params))) Refused)
    by true = tt
    by false = tt

answers : (read : Capacity) (number : ℕ) (returned : Returned) (line : Line) → AreBuffers returned → Knows read line → Knows (with_answer (is_none line.link) returned read) (after_answer number returned line)
answers read number Refused line are knows = knows
answers read number Unlisted line are knows = absurd are
answers read number (Status status) line are knows = absurd are
answers read number (Buffers status size count) line are knows = learns read number size count line knows

complete_own : (read : Capacity) (number : ℕ) (returned : List ℕ) (line : Line) → Knows read line → Knows (if read.awaited then with_answer (is_none line.link) (buffers_in returned) read else read) (after_complete number 0x1005 (buffers_in returned) line)
complete_own read number returned line knows =
    subst (λ (b : Bool). Knows (cond b (with_answer (is_none line.link) (buffers_in returned) read) read) (after_complete number 0x1005 (buffers_in returned) line)) (sym knows.awaited) (by (awaits 0x1005 line.commands))
  where
    by : (b : Bool) → Knows (cond b (with_answer (is_none line.link) (buffers_in returned) read) read) (cond b (after_answer number (buffers_in returned) line) (after_other number (buffers_in returned) line))
    by true = answers read number (buffers_in returned) line (buffers_are returned) knows
    by false = knows_same read line (after_other number (buffers_in returned) line) (unawaited_same number (buffers_in returned) line) knows

complete_knows : (read : Capacity) (number opcode : ℕ) (returned : List ℕ) (line : Line) → Knows read line
    → Knows (if opcode == 0x1005 && read.awaited then with_answer (is_none line.link) (buffers_in returned) read else read) (after_complete number opcode (returned_by opcode returned) line)
complete_knows read number opcode returned line knows = by (eqb opcode 0x1005) refl
  where
    by : (b : Bool) → eqb opcode 0x1005 ≡ b → Knows (cond (b && read.awaited) (with_answer (is_none line.link) (buffers_in returned) read) read) (after_complete number opcode (returned_by opcode returned) line)
    by true is = subst (λ (code : ℕ). Knows (cond (true && read.awaited) (with_answer (is_none line.link) (buffers_in returned) read) read) (after_complete number code (returned_by code returned) line)) (sym (eqb-true opcode 0x1005 is)) (complete_own read number returned line knows)
    by false is = complete_other read number opcode returned line is knows

-- ---- other events

status_knows : (read : Capacity) (number opcode : ℕ) (line : Line) → Knows read line → Knows read (after_status number opcode line)
status_knows read number opcode line knows = by (eqb opcode 0x1005) refl (awaits opcode line.commands) refl
  where
    by : (own : Bool) → eqb opcode 0x1005 ≡ own → (b : Bool) → awaits opcode line.commands ≡ b → Knows read (cond (b && not (completes opcode)) (with_flow (answered number line.commands) line) (with_flow (stated number line.commands) line))
    by own is false waits = knows_same read line _ (stated_same number line) knows
    by true is true waits = subst (λ (code : ℕ). Knows read (cond (not (completes code)) (with_flow (answered number line.commands) line) (with_flow (stated number line.commands) line))) (sym (eqb-true opcode 0x1005 is)) (knows_same read line _ (stated_same number line) knows)
    by false is true waits = settled (not (completes opcode))
      where
        settled : (c : Bool) → Knows read (cond c (with_flow (answered number line.commands) line) (with_flow (stated number line.commands) line))
        settled true = answered_other read number opcode line is waits knows
        settled false = knows_same read line _ (stated_same number line) knows

-- where no link is up nothing is outstanding
none_held : (held : Option (ℕ × ℕ)) (link other : Option ℕ) → link ≡ None → AreOfLink held link → AreOfLink held other
none_held None link other off are = tt
none_held (Some one) link other off are = let never : None ≡ Some one.0 = sym off ∙ are in absurd cc

connection_knows : (read : Capacity) (status handle : ℕ) (line : Line) → Knows read line → Knows read (after_connection status handle line)
connection_knows read status handle line knows = by line.asked (status == 0) line.link refl
  where
    by : (asked success : Bool) (link : Option ℕ) → line.link ≡ link → Knows read (cond asked (cond (success && is_none link) (record line { asked = false; link = Some handle; ending = false; joining = [] }) (record line { asked = false })) line)
    by false success link is = knows
    by true false link is = record { awaited = knows.awaited; count = knows.count; held = knows.held }
    by true true None is = record { awaited = knows.awaited; count = knows.count; held = none_held line.ledger.held line.link (Some handle) is knows.held }
    by true true (Some other) is = record { awaited = knows.awaited; count = knows.count; held = knows.held }

pub flow_awaited : (command : HostCommand) (flow : Flow) → (with_command command flow).awaited ≡ flow.awaited
flow_awaited command flow = by (nat_lt (length flow.waiting) 8)
  where
    by : (b : Bool) → (let more : Flow = cond b (record flow { waiting = flow.waiting ++ command ∷ [] }) flow in more.awaited) ≡ flow.awaited
    by true = refl
    by false = refl

request_same : (address : List ℕ) (kind : ℕ) (line : Line) → Same line (after_request address kind line)
request_same address kind line = same_by (may_accept kind line) line _ line (record { awaited = flow_awaited _ line.commands; ledger = refl; link = refl }) (same line)

left_held : (handle : ℕ) (held : Option (ℕ × ℕ)) (link : Option ℕ) → is_number handle link ≡ true → AreOfLink held link → without handle held ≡ None
left_held handle None link is are = refl
left_held handle (Some one) link is are =
    let whose : eqb one.0 handle ≡ true = ap (is_number handle) (sym are) ∙ is in
    ap (λ (b : Bool). cond b None (Some one)) whose

disconnection_knows : (read : Capacity) (status handle : ℕ) (line : Line) → Knows read line → Knows read (after_disconnection status handle line)
disconnection_knows read status handle line knows = by (status == 0) (is_number handle line.link) refl
  where
    by : (success here : Bool) → is_number handle line.link ≡ here
        → Knows read (cond (success && here) (record line { ledger = record line.ledger { held = without handle line.ledger.held }; link = None; ending = false; joining = []; pieces = [] }) line)
    by false here is = knows
    by true false is = knows
    by true true is = record { awaited = knows.awaited; count = knows.count; held = subst (λ (held : Option (ℕ × ℕ)). AreOfLink held None) (sym (left_held handle line.ledger.held line.link is knows.held)) tt }

less_held : (n : ℕ) (held : Option (ℕ × ℕ)) (link : Option ℕ) → AreOfLink held link → AreOfLink (less n held) link
less_held n None link are = tt
less_held n (Some one) link are = are

record Back (old new : Account) (link : Option ℕ) : Type 0 where
  total : new.total ≡ old.total
  held : AreOfLink new.held link

back_one : (account : Account) (entry : ℕ × ℕ) (link : Option ℕ) → AreOfLink account.held link → Back account (given_back account entry) link
back_one account entry link are = by (nat_lt (outstanding_on account entry.0) entry.1)
  where
    by : (b : Bool) → Back account (cond b account (record account { held = less entry.1 account.held })) link
    by true = record { total = refl; held = are }
    by false = record { total = refl; held = less_held entry.1 account.held link are }

back_all : (entries : List (ℕ × ℕ)) (account : Account) (link : Option ℕ) → AreOfLink account.held link → Back account (fold given_back account entries) link
back_all [] account link are = record { total = refl; held = are }
back_all (entry ∷ entries) account link are =
    let one = back_one account entry link are in
    let rest = back_all entries (given_back account entry) link one.held in
    record { total = rest.total ∙ one.total; held = rest.held }

event_knows : (read : Capacity) (event : Option PlainEvent) (line : Line) → Knows read line → Knows (with_event (is_none line.link) event read) (after_event event line)
event_knows read None line knows = knows
event_knows read (Some (ConnectionComplete status handle address kind encryption)) line knows = connection_knows read status handle line knows
event_knows read (Some (ConnectionRequest address class kind)) line knows = knows_same read line (after_request address kind line) (request_same address kind line) knows
event_knows read (Some (DisconnectionComplete status handle reason)) line knows = disconnection_knows read status handle line knows
event_knows read (Some (CommandComplete number opcode returned)) line knows = complete_knows read number opcode returned line knows
event_knows read (Some (CommandStatus status number opcode)) line knows = status_knows read number opcode line knows
event_knows read (Some (CompletedPackets count entries)) line knows =
    let back = back_all (entries_of entries) line.ledger line.link knows.held in record { awaited = knows.awaited; count = knows.count ∙ sym back.total; held = back.held }
event_knows read (Some (Other code params)) line knows = knows

piece_same : (piece : Option Piece) (line : Line) → Same line (after_piece piece line)
piece_same None line = same line
piece_same (Some piece) line = record { awaited = refl; ledger = refl; link = refl }

pub packet_knows : (read : Capacity) (packet : Packet) (line : Line) → Knows read line → Knows (with_heard (is_none line.link) packet read) (after_packet packet line)
packet_knows read (Command opcode params) line knows = knows_same read line _ (piece_same (piece_on line.link (Command opcode params)) line) knows
packet_knows read (Acl word octets) line knows = knows_same read line _ (piece_same (piece_on line.link (Acl word octets)) line) knows
packet_knows read (Sync word octets) line knows = knows_same read line _ (piece_same (piece_on line.link (Sync word octets)) line) knows
packet_knows read (Event code params) line knows = event_knows read (event_in code params) line knows

-- ---- one packet more

pub capacity-more : (past : List Move) (move : Move) → capacity (past ++ move ∷ []) ≡ capacity_after past (capacity past) move
capacity-more past move = led_by-append capacity_after [] none_stated past (move ∷ [])

-- ---- all that is outstanding

pub outstanding_up : (up : Option Link) (account : Account) (link : Option ℕ) → option_map (λ (l : Link). l.handle) up ≡ link → AreOfLink account.held link → ((handle : ℕ) → outstanding_on account handle ≡ buffers.outstanding_on handle up) → packets_of account.held ≡ buffers.outstanding_of up
outstanding_up up account link is are ledger = by account.held up refl refl
  where
    by : (held : Option (ℕ × ℕ)) (on : Option Link) → account.held ≡ held → up ≡ on → packets_of held ≡ buffers.outstanding_of on
    by None None e f = refl
    by None (Some one) e f =
        let same : packets_on None one.handle ≡ buffers.outstanding_on one.handle (Some one) = ap (λ (h : Option (ℕ × ℕ)). packets_on h one.handle) (sym e) ∙ (ledger one.handle ∙ ap (buffers.outstanding_on one.handle) f) in
        same ∙ ap (λ (b : Bool). cond b (buffers.outstanding_on_link one) 0) (eq-eqb one.handle one.handle refl)
    by (Some held) None e f =
        let on : link ≡ Some held.0 = subst (λ (h : Option (ℕ × ℕ)). AreOfLink h link) e are in
        let never : None ≡ Some held.0 = ap (option_map (λ (l : Link). l.handle)) (sym f) ∙ (is ∙ on) in
        absurd cc
    by (Some held) (Some one) e f =
        let on : link ≡ Some held.0 = subst (λ (h : Option (ℕ × ℕ)). AreOfLink h link) e are in
        let both : Some one.handle ≡ Some held.0 = ap (option_map (λ (l : Link). l.handle)) (sym f) ∙ (is ∙ on) in
        let whose : one.handle ≡ held.0 = cc in
        let same : packets_on (Some held) held.0 ≡ buffers.outstanding_on held.0 (Some one) = ap (λ (h : Option (ℕ × ℕ)). packets_on h held.0) (sym e) ∙ (ledger held.0 ∙ ap (buffers.outstanding_on held.0) f) in
        ap (λ (b : Bool). cond b held.1 0) (sym (eq-eqb held.0 held.0 refl)) ∙ (same ∙ ap (λ (b : Bool). cond b (buffers.outstanding_on_link one) 0) (eq-eqb one.handle held.0 whose))
