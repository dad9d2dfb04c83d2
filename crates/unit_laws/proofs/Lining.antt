-- What a unit that comes in leaves of a line.
use Rattle.std.proofs.Common.{◌≡◌, ℕ, ◌==◌, ◌&&◌, ◌||◌, ◌≤◌, nat_lt, not, min, Bool, true, false, cond, eqb, List, [], length, take, drop, slice_index, Option, Some, None, is_none, if◌then◌else◌, refl, sym, ap, subst, ◌∙◌, inl, inr, ltb-false, arith}
use Rattle.std.proofs.lemmas.Bool.{cases_Bool, eqb-true}
use Rattle.std.proofs.Math.Nat.{le-min}
use Rattle.byteorder.specs.Endian.{little_number}
use Rattle.scenario_laws.specs.bt_base.specs.Numbers.{IsHandle}
use Rattle.scenario_laws.specs.h4_framing.specs.Packets.{Packet, Command, Acl, Sync, Event}
use Rattle.scenario_laws.specs.hci_packets.specs.Events.{PlainEvent, ConnectionComplete, ConnectionRequest, DisconnectionComplete, CommandComplete, CommandStatus, CompletedPackets, Other, event_refusal}
use Rattle.scenario_laws.specs.hci_packets.specs.declared.refusal.HciRefusal.{HciRefusal}
use Rattle.scenario_laws.specs.hci_packets.specs.declared.refusal.HciRefusal.TheVariants.{ShortParams, LongParams, BadHandle}
use Rattle.scenario_laws.specs.acl_credits.specs.Ledgers.{without}
use Rattle.scenario_laws.specs.acl_fragments.specs.Pieces.{Piece, starts}
use Rattle.scenario_laws.specs.acl_fragments.specs.Answers.{Answer, Pdu as Whole, More, Dropped, answer}
use Rattle.scenario_laws.specs.host_link.specs.Lines.{Line, longest_pdu}
use Rattle.scenario_laws.specs.host_link.specs.CommandFlows.{is_number, awaits, stated, answered}
use Rattle.scenario_laws.specs.host_link.specs.declared.news.ControllerFault.{ControllerFault}
use Rattle.scenario_laws.specs.host_link.specs.declared.news.ControllerFault.TheVariants.{CommandFailed, BadBuffers}
use Rattle.scenario_laws.specs.host_link.specs.declared.returned.Returned.{Returned}
use Rattle.scenario_laws.specs.host_link.specs.declared.returned.Returned.TheVariants.{Refused, Unlisted, Status, Buffers}
use Rattle.scenario_laws.specs.host_link.specs.Returning.{returned_by, completes, buffers_fault, returned_fault}
use Rattle.scenario_laws.specs.host_link.specs.EventReading.{event_in}
use Rattle.scenario_laws.specs.host_link.specs.Hearing.{PlainNews, Nothing, LinkUp, LinkFailed, LinkDown, Pdu, with_flow, learn, after_answer, after_other, after_complete, complete_fault, after_status, connection_news, after_connection, disconnection_news, after_disconnection, may_accept, joined_news, piece_on, piece_news, after_piece, event_news, event_fault, after_event, news_of, fault_of, after_packet, unless_fault, heard}

-- a packet carries 27 octets at least, and where no link is up no piece waits
pub record IsFit (line : Line) : Type 0 where
  pub long : 27 ≤ line.size
  pub off : line.link ≡ None → line.pieces ≡ []

pub record Stays (old new : Line) : Type 0 where
  pub link : new.link ≡ old.link
  pub pieces : new.pieces ≡ old.pieces

pub record Begins (old new : Line) : Type 0 where
  pub off : old.link ≡ None
  pub handle : ℕ
  pub low : IsHandle handle
  pub link : new.link ≡ Some handle
  pub pieces : new.pieces ≡ old.pieces

pub record Ends (old new : Line) : Type 0 where
  pub handle : ℕ
  pub on : old.link ≡ Some handle
  pub link : new.link ≡ None
  pub pieces : new.pieces ≡ []

-- a PDU comes in on the link that is up
pub record Brings (old new : Line) : Type 0 where
  pub handle : ℕ
  pub on : old.link ≡ Some handle
  pub stays : Stays old new

abbrev pub LinkAs : PlainNews → Line → Line → Type 0
LinkAs Nothing old new = Stays old new
LinkAs LinkUp old new = Begins old new
LinkAs (LinkFailed status) old new = Stays old new
LinkAs (LinkDown reason) old new = Ends old new
LinkAs (Pdu channel octets) old new = Brings old new

pub record LineAs (news : PlainNews) (old new : Line) : Type 0 where
  pub link : LinkAs news old new
  pub long : 27 ≤ new.size

-- ---- nothing of these changes

pub record Same (old new : Line) : Type 0 where
  pub link : new.link ≡ old.link
  pub pieces : new.pieces ≡ old.pieces
  pub size : new.size ≡ old.size

same : (line : Line) → Same line line
same line = record { link = refl; pieces = refl; size = refl }

same_by : (b : Bool) (old one two : Line) → Same old one → Same old two → Same old (cond b one two)
same_by true old one two first second = first
same_by false old one two first second = second

stays : (old new : Line) → IsFit old → Same old new → LineAs Nothing old new
stays old new fit is = record { link = record { link = is.link; pieces = is.pieces }; long = let size = is.size in omega (arith, size, fit.long) }

-- ---- pieces

joined_line : (judged : Answer) (old new : Line) (handle : ℕ) → old.link ≡ Some handle → IsFit old → Same old new → LineAs (joined_news judged) old new
joined_line (Whole channel octets) old new handle on fit is = record { link = record { handle = handle; on = on; stays = record { link = is.link; pieces = is.pieces } }; long = let size = is.size in omega (arith, size, fit.long) }
joined_line More old new handle on fit is = stays old new fit is
joined_line (Dropped reason) old new handle on fit is = stays old new fit is

found_line : (found : Option Piece) (line : Line) (handle : ℕ) → line.link ≡ Some handle → IsFit line → LineAs (piece_news found line) line (after_piece found line)
found_line None line handle on fit = stays line line fit (same line)
found_line (Some piece) line handle on fit = joined_line (answer longest_pdu line.joining (starts piece.boundary) piece.octets) line (after_piece (Some piece) line) handle on fit (record { link = refl; pieces = refl; size = refl })

piece_line : (packet : Packet) (line : Line) (link : Option ℕ) → line.link ≡ link → IsFit line → LineAs (piece_news (piece_on link packet) line) line (after_piece (piece_on link packet) line)
piece_line packet line None is fit = stays line line fit (same line)
piece_line packet line (Some handle) is fit = found_line (piece_on (Some handle) packet) line handle is fit

-- ---- events

-- the handle of a connection that was made is none of the reserved ones
abbrev FitsEvent : Option PlainEvent → Type 0
FitsEvent (Some (ConnectionComplete status handle address kind encryption)) = (status == 0) ≡ true → IsHandle handle
FitsEvent event = Unit {0}

connection_line : (status handle : ℕ) (line : Line) → ((status == 0) ≡ true → IsHandle handle) → IsFit line → LineAs (connection_news status line) line (after_connection status handle line)
connection_line status handle line low fit = by line.asked (status == 0) line.link refl refl refl
  where
    kept : LineAs Nothing line (record line { asked = false })
    kept = stays line (record line { asked = false }) fit (record { link = refl; pieces = refl; size = refl })

    by : (asked success : Bool) (link : Option ℕ) → line.asked ≡ asked → (status == 0) ≡ success → line.link ≡ link
        → LineAs (cond asked (cond success (cond (is_none link) LinkUp Nothing) (LinkFailed status)) Nothing) line
        (cond asked (cond (success && is_none link) (record line { asked = false; link = Some handle; ending = false; joining = [] }) (record line { asked = false })) line)
    by false success link e f g = stays line line fit (same line)
    by true false link e f g = record { link = kept.link; long = fit.long }
    by true true None e f g = record { link = record { off = g; handle = handle; low = low f; link = refl; pieces = refl }; long = fit.long }
    by true true (Some other) e f g = kept

disconnection_line : (status handle reason : ℕ) (line : Line) → IsFit line → LineAs (disconnection_news status handle reason line) line (after_disconnection status handle line)
disconnection_line status handle reason line fit = by (status == 0) line.link refl
  where
    on : (success here : Bool) (other : ℕ) → line.link ≡ Some other
        → LineAs (cond (success && here) (LinkDown reason) Nothing) line (cond (success && here) (record line { ledger = record line.ledger { held = without handle line.ledger.held }; link = None; ending = false; joining = []; pieces = [] }) line)
    on true true other is = record { link = record { handle = other; on = is; link = refl; pieces = refl }; long = fit.long }
    on true false other is = stays line line fit (same line)
    on false here other is = stays line line fit (same line)

    by : (success : Bool) (link : Option ℕ) → line.link ≡ link
        → LineAs (cond (success && is_number handle link) (LinkDown reason) Nothing) line (cond (success && is_number handle link) (record line { ledger = record line.ledger { held = without handle line.ledger.held }; link = None; ending = false; joining = []; pieces = [] }) line)
    by true None is = stays line line fit (same line)
    by false None is = stays line line fit (same line)
    by success (Some other) is = on success (is_number handle (Some other)) other is

-- buffers are learnt while no link is up, and none waits then
learnt_line : (size count : ℕ) (old line : Line) → 27 ≤ size → Same old line → IsFit old → LineAs Nothing old (learn size count line)
learnt_line size count old line long is fit = by line.link refl
  where
    by : (link : Option ℕ) → line.link ≡ link → LineAs Nothing old (cond (is_none link) (record line { size = min size 1021; ledger = record { total = min count 64; held = None }; pieces = [] }) line)
    by None off = record { link = record { link = is.link; pieces = sym (fit.off (sym is.link ∙ off)) }; long = le-min long (omega arith) }
    by (Some handle) off = stays old line fit is

enough : (size count : ℕ) → buffers_fault size count ≡ None → 27 ≤ size
enough size count none = by (nat_lt size 27) (count == 0) refl none
  where
    by : (short zero : Bool) → nat_lt size 27 ≡ short → (let found : Option ControllerFault = if short || zero then Some (BadBuffers size count) else None in found ≡ None) → 27 ≤ size
    by true zero is none = cc
    by false zero is none = ltb-false size 27 is

answer_line : (number opcode : ℕ) (returned : Returned) (line : Line) → returned_fault opcode returned ≡ None → IsFit line → LineAs Nothing line (after_answer number returned line)
answer_line number opcode Refused line none fit = stays line line fit (same line)
answer_line number opcode Unlisted line none fit = stays line (after_answer number Unlisted line) fit (record { link = refl; pieces = refl; size = refl })
answer_line number opcode (Status status) line none fit = stays line (after_answer number (Status status) line) fit (record { link = refl; pieces = refl; size = refl })
answer_line number opcode (Buffers status size count) line none fit =
    learnt_line size count line (with_flow (answered number line.commands) line) (by (status == 0) none) (record { link = refl; pieces = refl; size = refl }) fit
  where
    by : (success : Bool) → (if success then buffers_fault size count else Some (CommandFailed opcode status)) ≡ None → 27 ≤ size
    by true none = enough size count none
    by false none = cc

other_line : (number : ℕ) (returned : Returned) (line : Line) → Same line (after_other number returned line)
other_line number Refused line = same line
other_line number Unlisted line = record { link = refl; pieces = refl; size = refl }
other_line number (Status status) line = record { link = refl; pieces = refl; size = refl }
other_line number (Buffers status size count) line = record { link = refl; pieces = refl; size = refl }

complete_line : (number opcode : ℕ) (returned : Returned) (line : Line) → complete_fault opcode returned line ≡ None → IsFit line → LineAs Nothing line (after_complete number opcode returned line)
complete_line number opcode returned line none fit = by (awaits opcode line.commands) none
  where
    by : (awaited : Bool) → (if awaited then returned_fault opcode returned else None) ≡ None → LineAs Nothing line (if awaited then after_answer number returned line else after_other number returned line)
    by true none = answer_line number opcode returned line none fit
    by false none = stays line (after_other number returned line) fit (other_line number returned line)

event_line : (event : Option PlainEvent) (line : Line) → FitsEvent event → event_fault event line ≡ None → IsFit line → LineAs (event_news event line) line (after_event event line)
event_line None line fits none fit = stays line line fit (same line)
event_line (Some (ConnectionComplete status handle address kind encryption)) line fits none fit = connection_line status handle line fits fit
event_line (Some (ConnectionRequest address class kind)) line fits none fit =
    stays line (after_event (Some (ConnectionRequest address class kind)) line) fit (same_by (may_accept kind line) line _ line (record { link = refl; pieces = refl; size = refl }) (same line))
event_line (Some (DisconnectionComplete status handle reason)) line fits none fit = disconnection_line status handle reason line fit
event_line (Some (CommandComplete number opcode returned)) line fits none fit = complete_line number opcode (returned_by opcode returned) line none fit
event_line (Some (CommandStatus status number opcode)) line fits none fit =
    stays line (after_status number opcode line) fit
    (same_by (awaits opcode line.commands && not (completes opcode)) line (with_flow (answered number line.commands) line) (with_flow (stated number line.commands) line) (record { link = refl; pieces = refl; size = refl }) (record { link = refl; pieces = refl; size = refl }))
event_line (Some (CompletedPackets count entries)) line fits none fit = stays line (after_event (Some (CompletedPackets count entries)) line) fit (record { link = refl; pieces = refl; size = refl })
event_line (Some (Other code params)) line fits none fit = stays line line fit (same line)

-- ---- the handle of an event that is not refused

fits_event : (code : ℕ) (params : List ℕ) → FitsEvent (event_in code params)
fits_event code params =
    elim (cases_Bool (is_none (event_refusal code params))) [
      | inr wrong ↦ rw wrong tt
      | inl fine ↦
          elim (cases_Bool (eqb code 0x03)) [
            | inl is ↦ subst (λ (k : ℕ). is_none (event_refusal k params) ≡ true → FitsEvent (event_in k params)) (sym (eqb-true code 0x03 is)) (λ f. rw f (λ success. low f success)) fine
            | inr no3 ↦ rw (fine, no3) (others (eqb code 0x04) (eqb code 0x05) (eqb code 0x0E) (eqb code 0x0F) (eqb code 0x13))
          ]
    ]
  where
    handle : ℕ
    handle = little_number 2 (drop 1 params)

    low_by : (short long success bad : Bool) → nat_lt 0x0EFF handle ≡ bad → success ≡ true
        → (let found : Option HciRefusal = cond short (Some ShortParams) (cond long (Some LongParams) (cond success (cond bad (Some BadHandle) None) None)) in is_none found ≡ true) → IsHandle handle
    low_by true long success bad is is_made fine = cc
    low_by false true success bad is is_made fine = cc
    low_by false false false bad is is_made fine = cc
    low_by false false true true is is_made fine = cc
    low_by false false true false is is_made fine = ltb-false 0x0EFF handle is

    low : is_none (event_refusal 0x03 params) ≡ true → (slice_index params 0 == 0) ≡ true → IsHandle handle
    low fine success = low_by (nat_lt (length params) 11) (nat_lt 11 (length params)) (slice_index params 0 == 0) (nat_lt 0x0EFF handle) refl success fine

    others : (a b c d e : Bool) → FitsEvent (Some (cond a (ConnectionRequest (take 6 params) (little_number 3 (drop 6 params)) (slice_index params 9)) (cond b (DisconnectionComplete (slice_index params 0) handle (slice_index params 3))
        (cond c (CommandComplete (slice_index params 0) handle (drop 3 params)) (cond d (CommandStatus (slice_index params 0) (slice_index params 1) (little_number 2 (drop 2 params)))
        (cond e (CompletedPackets (slice_index params 0) (drop 1 params)) (Other code params)))))))
    others true b c d e = tt
    others false true c d e = tt
    others false false true d e = tt
    others false false false true e = tt
    others false false false false true = tt
    others false false false false false = tt

-- ---- any unit

unit_line : (packet : Packet) (line : Line) → fault_of packet line ≡ None → IsFit line → LineAs (news_of packet line) line (after_packet packet line)
unit_line (Command opcode params) line none fit = piece_line (Command opcode params) line line.link refl fit
unit_line (Acl word octets) line none fit = piece_line (Acl word octets) line line.link refl fit
unit_line (Sync word octets) line none fit = piece_line (Sync word octets) line line.link refl fit
unit_line (Event code params) line none fit = event_line (event_in code params) line (fits_event code params) none fit

pub heard_line : (packet : Packet) (line : Line) → fault_of packet line ≡ None → IsFit line → LineAs (news_of packet line) line (heard packet line)
heard_line packet line none fit = subst (LineAs (news_of packet line) line) (sym (ap (λ (fault : Option ControllerFault). unless_fault fault (after_packet packet line) line) none)) (unit_line packet line none fit)
