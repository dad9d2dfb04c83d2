-- What a host hears that had done all that it could lets no command go out, or nothing else.
use Rattle.std.proofs.Common.{◌≡◌, ◌∙◌, ◌⊎◌, ◌&&◌, not, nat_lt, min, ℕ, zero, suc, Bool, true, false, is_some, is_none, List, [], refl, sym, ap, subst, inl, inr, true≢false, arith, tests, if◌then◌else◌}
use Rattle.std.specs.Prelude.{Option, Some, None}
use Rattle.bt_host.specs.shelf_model.specs.acl_fragments.specs.Pieces.{Piece}
use Rattle.bt_host.specs.shelf_model.specs.h4_framing.specs.Packets.{Packet, Command, Acl, Sync, Event}
use Rattle.bt_host.specs.shelf_model.specs.hci_packets.specs.Events.{PlainEvent, ConnectionComplete, ConnectionRequest, DisconnectionComplete, CommandComplete, CommandStatus, CompletedPackets, Other}
use Rattle.bt_host.specs.channel_model.specs.Giving.{Given, next_given}
use Rattle.bt_host.specs.host_link.specs.declared.news.ControllerFault.{ControllerFault}
use Rattle.bt_host.specs.host_link.specs.declared.returned.Returned.{Returned}
use Rattle.bt_host.specs.host_link.specs.declared.returned.Returned.TheVariants.{Refused, Unlisted, Status, Buffers}
use Rattle.bt_host.specs.host_link.specs.CommandFlows.{Flow, awaits, stated, answered}
use Rattle.bt_host.specs.host_link.specs.EventReading.{event_in}
use Rattle.bt_host.specs.host_link.specs.Hearing.{PlainNews, Nothing, with_flow, learn, after_answer, after_other, makes_link, ends_link, may_accept, after_event, event_news, piece_on, after_piece, news_of, after_packet, unless_fault, heard}
use Rattle.bt_host.specs.host_link.specs.Lines.{Line}
use Rattle.bt_host.specs.host_link.specs.PuttingOut.{put_pieces, put_command, can_take_pdu}
use Rattle.bt_host.specs.host_link.specs.Returning.{returned_by, completes}
use Rattle.bt_host.specs.host_model.specs.Circumstances.{Circumstance}
use Rattle.bt_host.specs.host_model.specs.Hosts.{Host, most_steps, hears_news, ready, has_more}
use Rattle.bt_host.specs.host_model.specs.Profiles.{Profile}
use Rattle.bt_host.specs.shelf_model.specs.world_model.specs.Machines.{News}
use Rattle.bt_host.specs.Stacks.{Standing, Rests, with_host, with_line, can_put_piece, says_all, leaves, pages, goes_out}
use Rattle.bt_host.specs.Uppers.{told_of, hears_told}
use Rattle.bt_host.proofs.Resting.{stays_put, all_rests}
use Rattle.bt_host.proofs.Stepping.{none_taken, none_there}
use Rattle.order_laws.specs.Laws.{LetsCommandAlone, PacketsGoInRounds, NewsGoInRounds, HeldBackGoInRounds}
use Rattle.order_laws.specs.Rounds.{Midway, on_line, given_alone, with_given, says_given, steps_on, goes_round, goes_rounds, EndsInRounds, midway_at, midway_told}
use Rattle.order_laws.proofs.Lines.{NoCommand, puts_none, none_as, none_waits, command_again}
use Rattle.order_laws.proofs.Rounds.{drives_asked, led_waiting, rounds_end}

-- ---- the line

-- no command more waits, and no octets
record Unled (old new : Line) : Type 0 where
  commands : new.commands ≡ old.commands
  out : new.out ≡ old.out

-- nothing but the commands changed by which more might go out
record Idles (old new : Line) : Type 0 where
  piece : can_put_piece old ≡ false → can_put_piece new ≡ false
  take : can_take_pdu new ≡ true → can_take_pdu old ≡ true

abbrev Goes : PlainNews → (old new : Line) → Type 0
Goes news old new = Unled old new ⊎ ((news ≡ Nothing) × Idles old new)

none_led : (line : Line) → Unled line line
none_led line = record { commands = refl; out = refl }

flow_idles : (flow : Flow) (line : Line) → Idles line (with_flow flow line)
flow_idles flow line = record { piece = λ off. off; take = λ on. on }

off_link : (link : Option ℕ) → is_none link ≡ true → is_some link ≡ false
off_link None off = refl
off_link (Some handle) off = absurd (true≢false (sym off))

first_off : (a b : Bool) → a ≡ false → (a && b) ≡ false
first_off a b off = ap (λ (x : Bool). x && b) off

learns_by : (off : Bool) (size count : ℕ) (line : Line) → is_none line.link ≡ off → Idles line (if off then record line { size = min size 1021; ledger = record { total = min count 64; held = None }; pieces = [] } else line)
learns_by false size count line is = record { piece = λ off. off; take = λ on. on }
learns_by true size count line is = record {
  piece = λ off. first_off (is_some line.link) _ (off_link line.link is);
  take = λ on. absurd (true≢false (sym on ∙ first_off (is_some line.link) _ (off_link line.link is)));
}

idles_then : (a b c : Line) → Idles a b → Idles b c → Idles a c
idles_then a b c f g = record { piece = λ off. g.piece (f.piece off); take = λ on. f.take (g.take on) }

none_idles : (line : Line) → Idles line line
none_idles line = record { piece = λ off. off; take = λ on. on }

either : (old : Line) (test : Bool) (a b : Line) → Idles old a → Idles old b → Idles old (if test then a else b)
either old true a b first second = first
either old false a b first second = second

answer_idles : (number : ℕ) (returned : Returned) (line : Line) → Idles line (after_answer number returned line)
answer_idles number Refused line = none_idles line
answer_idles number Unlisted line = flow_idles (stated number line.commands) line
answer_idles number (Status status) line = flow_idles (answered number line.commands) line
answer_idles number (Buffers status size count) line =
    let flowed = with_flow (answered number line.commands) line in
    idles_then line flowed (learn size count flowed) (flow_idles (answered number line.commands) line) (learns_by (is_none line.link) size count flowed refl)

other_idles : (number : ℕ) (returned : Returned) (line : Line) → Idles line (after_other number returned line)
other_idles number Refused line = none_idles line
other_idles number Unlisted line = flow_idles (stated number line.commands) line
other_idles number (Status status) line = flow_idles (stated number line.commands) line
other_idles number (Buffers status size count) line = flow_idles (stated number line.commands) line

made_led : (asked makes : Bool) (handle : ℕ) (line : Line) → Unled line (if asked then (if makes then record line { asked = false; link = Some handle; ending = false; joining = [] } else record line { asked = false }) else line)
made_led false makes handle line = none_led line
made_led true false handle line = record { commands = refl; out = refl }
made_led true true handle line = record { commands = refl; out = refl }

ended_led : (test : Bool) (a line : Line) → Unled line a → Unled line (if test then a else line)
ended_led true a line led_ = led_
ended_led false a line led_ = none_led line

event_goes : (event : Option PlainEvent) (line : Line) → Goes (event_news event line) line (after_event event line)
event_goes None line = inl (none_led line)
event_goes (Some (ConnectionComplete status handle address kind encryption)) line = inl (made_led line.asked (makes_link status line) handle line)
event_goes (Some (ConnectionRequest address class kind)) line = inr (refl, either line (may_accept kind line) _ line (flow_idles _ line) (none_idles line))
event_goes (Some (DisconnectionComplete status handle reason)) line = inl (ended_led (ends_link status handle line) _ line (record { commands = refl; out = refl }))
event_goes (Some (CommandComplete number opcode returned)) line =
    inr (refl, either line (awaits opcode line.commands) _ _ (answer_idles number (returned_by opcode returned) line) (other_idles number (returned_by opcode returned) line))
event_goes (Some (CommandStatus status number opcode)) line = inr (refl, either line (awaits opcode line.commands && not (completes opcode)) _ _ (flow_idles _ line) (flow_idles _ line))
event_goes (Some (CompletedPackets count entries)) line = inl (record { commands = refl; out = refl })
event_goes (Some (Other code params)) line = inl (none_led line)

piece_led : (piece : Option Piece) (line : Line) → Unled line (after_piece piece line)
piece_led None line = none_led line
piece_led (Some piece) line = record { commands = refl; out = refl }

packet_goes : (packet : Packet) (line : Line) → Goes (news_of packet line) line (after_packet packet line)
packet_goes (Command opcode params) line = inl (piece_led (piece_on line.link (Command opcode params)) line)
packet_goes (Acl word octets) line = inl (piece_led (piece_on line.link (Acl word octets)) line)
packet_goes (Sync word octets) line = inl (piece_led (piece_on line.link (Sync word octets)) line)
packet_goes (Event code params) line = event_goes (event_in code params) line

-- ---- a host of which nothing but a command can go out

given_off : {S : Type 0} (A : Profile S) (found : Option Given) (count : ℕ) (host : Host S) → (nat_lt 0 count && is_some found) ≡ false → given_alone A found count host ≡ None
given_off A None count host off = refl
given_off A (Some given) zero host off = refl
given_off A (Some given) (suc count) host off =
    let on : nat_lt 0 (suc count) ≡ true = grind (arith, tests) in
    absurd (true≢false (sym (ap (λ (b : Bool). b && true) on) ∙ off))

module _ {S : Type 0} (A : Profile S) where
  given_none : (now : Standing S) → (can_take_pdu now.line ≡ true → has_more now.host ≡ false) → says_given A (midway_at now) ≡ midway_at now
  given_none now none_more = by (can_take_pdu now.line) refl
    where
      by : (can : Bool) → can_take_pdu now.line ≡ can → (if can then with_given (given_alone A (next_given now.host.channels) now.host.may_say now.host) (midway_at now) else midway_at now) ≡ midway_at now
      by false is = refl
      by true is = ap (λ (gave : Option (List ℕ × Host S)). with_given gave (midway_at now)) (given_off A (next_given now.host.channels) now.host.may_say now.host (none_more is))

  alone_round : (now : Standing S) → put_pieces now.line ≡ now.line → (can_take_pdu now.line ≡ true → has_more now.host ≡ false) → goes_round A (midway_at now) ≡ midway_at (with_line put_command now)
  alone_round now none none_more =
      ap (λ (line : Line). steps_on A (on_line put_command (says_given A (midway_at (record now { line = line }))))) none
      ∙ ap (λ (midway : Midway S). steps_on A (on_line put_command midway)) (given_none now none_more)

  none_said : (now : Standing S) → (can_take_pdu now.line ≡ true → has_more now.host ≡ false) → says_all A now ≡ now
  none_said now none_more = by (can_take_pdu now.line) refl
    where
      by : (can : Bool) → can_take_pdu now.line ≡ can → says_all A now ≡ now
      by false is = none_taken A now is
      by true is = none_there A now (none_more is)

  -- a profile that neither wants a link nor ends one
  abbrev Still : Profile S
  Still = record A { wants_link = λ profile. false; leaves_link = λ profile. false }

  alone_goes : (now : Standing S) → LetsCommandAlone now → EndsInRounds A (midway_at now) (goes_out A now)
  unfolding goes_rounds
  alone_goes now alone =
      let line = put_command now.line in
      let rests = all_rests Still now.paged now.paged now.line line line line line now.host refl (inl refl) (inl refl) (sym (command_again now.line)) (none_waits now.line alone.pieces) alone.none_more
      (λ pieces more ends. absurd (true≢false (sym ends))) (λ wants off few. absurd (true≢false (sym wants))) in
      let gone = with_line put_command now in
      record {
        count = 1;
        last = midway_at gone;
        rounds = alone_round now alone.pieces alone.none_more;
        still = alone_round gone rests.pieces rests.said ∙ ap (λ (l : Line). midway_at (record now { line = l })) (command_again now.line);
        behind =
            ap (λ (l : Line). with_line put_command (pages A (leaves A (with_line put_command (says_all A (record now { line = l })))))) alone.pieces
            ∙ ap (λ (mid : Standing S). with_line put_command (pages A (leaves A (with_line put_command mid)))) (none_said now alone.none_more);
      }

  -- ---- all of it

  told_goes : (rest : List Circumstance) (told : Option News) (now : Standing S) → NoCommand now.line → EndsInRounds A (midway_told A rest told now) (goes_out A (with_host (hears_told A rest told now.host) now))
  told_goes rest None now free = subst (λ (s : Standing S). EndsInRounds A (midway_at now) (goes_out A s)) (led_waiting A now) (rounds_end A (midway_at now) free)
  told_goes rest (Some news) now free =
      subst (λ (host : Host S). EndsInRounds A (midway_told A rest (Some news) now) (goes_out A (with_host host now))) (sym (drives_asked A most_steps (hears_news A rest news (ready A rest now.host))))
      (rounds_end A (midway_told A rest (Some news) now) free)

  heard_goes : (rest : List Circumstance) (news : PlainNews) (line : Line) (old : Standing S) → Rests A old → Goes news old.line line
      → (let now = record old { line = line } in EndsInRounds A (midway_told A rest (told_of news) now) (goes_out A (with_host (hears_told A rest (told_of news) now.host) now)))
  heard_goes rest news line old rests (inl unled) = told_goes rest (told_of news) (record old { line = line }) (none_as old.line line unled.commands unled.out (puts_none old.line rests.command))
  heard_goes rest news line old rests (inr (nothing, idles)) =
      let now : Standing S = record old { line = line } in
      subst (λ (n : PlainNews). EndsInRounds A (midway_told A rest (told_of n) now) (goes_out A (with_host (hears_told A rest (told_of n) now.host) now))) (sym nothing)
      (alone_goes now (record { pieces = stays_put line (idles.piece (none_waits old.line rests.pieces)); none_more = λ can. rests.said (idles.take can) }))

pub packets_go_in_rounds : {S : Type 0} → PacketsGoInRounds S
packets_go_in_rounds A packet rest now rests fault =
    let is : heard packet now.line ≡ after_packet packet now.line = ap (λ (f : Option ControllerFault). unless_fault f (after_packet packet now.line) now.line) fault in
    heard_goes A rest (news_of packet now.line) (heard packet now.line) now rests (subst (Goes (news_of packet now.line) now.line) (sym is) (packet_goes packet now.line))

pub news_go_in_rounds : {S : Type 0} → NewsGoInRounds S
news_go_in_rounds A news rest now rests = told_goes A rest (Some news) now (puts_none now.line rests.command)

pub held_back_go_in_rounds : {S : Type 0} → HeldBackGoInRounds S
held_back_go_in_rounds A now (inl none) = told_goes A [] None now (puts_none now.line none)
held_back_go_in_rounds A now (inr alone) = alone_goes A now alone
