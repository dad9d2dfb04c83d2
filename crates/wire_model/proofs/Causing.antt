-- Each packet has a cause of its own.
use Rattle.std.proofs.Common.{◌≡◌, ℕ, ◌+◌, ◌≤◌, Bool, true, false, cond, List, [], ◌∷◌, ◌++◌, length, ltb, leb, eqb, not, ◌&&◌, Option, Some, None, refl, sym, ap, subst, arith, length-append}
use Rattle.std.proofs.lemmas.List.{length-drop}
use Rattle.wire_packets.specs.Packets.{Packet}
use Rattle.wire_model.specs.declared.link.LinkMessage.{LinkMessage}
use Rattle.wire_model.specs.declared.link.LinkMessage.TheVariants.{Sync, SyncResponse, Config, ConfigResponse}
use Rattle.wire_model.specs.declared.link.Stage.{Stage}
use Rattle.wire_model.specs.declared.link.Stage.TheVariants.{Uninitialized, Initialized, Active, Reset}
use Rattle.wire_model.specs.declared.link.Way.{Way}
use Rattle.wire_model.specs.declared.link.Way.TheVariants.{Forth, Back}
use Rattle.wire_model.specs.Machine.{Unit, Wire, Heard, waits, ticked_at, hears, hears_message, hears_sync, hears_sync_response, hears_config, hears_config_response, hears_numbers, hears_ack, takes_unit, takes_number, acknowledged, past, quiet, message_of, is_unit_kind, link_control, lesser, most_waiting, debts, flag}
use Rattle.wire_model.specs.Pair.{Pair, Event, Took, Crossed, Rang, Happens, Runs, CrossesBy, hears_over, speaker, new_pair}
use Rattle.wire_model.specs.Causes.{timer_causes, hearing_causes, is_of, causes_of, causes, said_of, said_by}
use Rattle.wire_model.proofs.Saying.{says_falls}

waits_debts : (m : LinkMessage) (w : Wire) → debts (waits m w) ≤ debts w + 1
waits_debts m w = elim (ltb (length w.waiting) most_waiting) as (λ b. debts (cond b (record w { waiting = w.waiting ++ m ∷ [] }) w) ≤ debts w + 1) [ true ↦ omega (arith, length-append w.waiting (m ∷ [])) | false ↦ omega arith ]

message_debts : (o : Option LinkMessage) (w : Wire) → debts (hears_message o w) ≤ debts w + 1
message_debts None w = omega arith
message_debts (Some Sync) w = at_sync w.stage
  where
    at_sync : (s : Stage) → debts (hears_sync s w) ≤ debts w + 1
    at_sync Uninitialized = waits_debts SyncResponse w
    at_sync Initialized = waits_debts SyncResponse w
    at_sync Active = omega arith
    at_sync Reset = omega arith
message_debts (Some SyncResponse) w = at_response w.stage
  where
    at_response : (s : Stage) → debts (hears_sync_response s w) ≤ debts w + 1
    at_response Uninitialized = waits_debts (Config w.own) (record w { stage = Initialized })
    at_response Initialized = omega arith
    at_response Active = omega arith
    at_response Reset = omega arith
message_debts (Some (Config f)) w = at_config w.stage
  where
    at_config : (s : Stage) → debts (hears_config s f w) ≤ debts w + 1
    at_config Uninitialized = omega arith
    at_config Initialized = waits_debts (ConfigResponse (lesser w.own f)) w
    at_config Active = waits_debts (ConfigResponse (lesser w.own f)) w
    at_config Reset = omega arith
message_debts (Some (ConfigResponse f)) w = at_open w.stage
  where
    at_open : (s : Stage) → debts (hears_config_response s f w) ≤ debts w + 1
    at_open Uninitialized = omega arith
    at_open Initialized = omega arith
    at_open Active = omega arith
    at_open Reset = omega arith

ack_debts : (ack : ℕ) (w : Wire) → debts (hears_ack ack w) ≤ debts w
ack_debts ack w = elim (leb (past w.first ack) w.given) as (λ b. debts (cond b (acknowledged (past w.first ack) w) w) ≤ debts w) [ true ↦ omega (arith, length-drop (past w.first ack) w.unacked) | false ↦ omega arith ]

some_flag : (b : Bool) → flag b ≤ 1
some_flag true = omega arith
some_flag false = omega arith

number_debts : (b : Bool) (u : Unit) (w : Wire) → debts (takes_number b u w).after ≤ debts w + 1
number_debts true u w = omega arith
number_debts false u w = omega arith

unit_debts : (b : Bool) (packet : Packet) (w : Wire) → debts (takes_unit b packet w).after ≤ debts w + 1
unit_debts true packet w = number_debts (eqb packet.seq w.expected) (record { kind = packet.kind; octets = packet.payload }) w
unit_debts false packet w = omega arith

numbers_debts : (s : Stage) (packet : Packet) (w : Wire) → debts (hears_numbers s packet w).after ≤ debts w + 1
numbers_debts Uninitialized packet w = omega arith
numbers_debts Initialized packet w = omega arith
numbers_debts Active packet w = let a = ack_debts packet.ack w in let u = unit_debts (packet.reliable && is_unit_kind packet.kind) packet (hears_ack packet.ack w) in omega (arith, a, u)
numbers_debts Reset packet w = omega arith

heard_debts : (packet : Packet) (w : Wire) → debts (hears packet w).after ≤ debts w + 1
heard_debts packet w = by (eqb packet.kind link_control)
  where
    by : (b : Bool) → debts (let h : Heard = cond b (quiet (hears_message (message_of packet.payload) w)) (hears_numbers w.stage packet w) in h).after ≤ debts w + 1
    by true = message_debts (message_of packet.payload) w
    by false = numbers_debts w.stage packet w

over_debts : (lost : Bool) (packet : Packet) (w w' : Wire) → w' ≡ (hears_over lost packet w).after → debts w' ≤ debts w + flag (not lost)
over_debts true packet w w' is = rw is (omega arith)
over_debts false packet w w' is = rw is (heard_debts packet w)

tick_debts : (s : Stage) (w : Wire) → debts (ticked_at s w) ≤ debts w + timer_causes s w
tick_debts Uninitialized w = waits_debts Sync w
tick_debts Initialized w = waits_debts (Config w.own) w
tick_debts Active w = omega arith
tick_debts Reset w = omega arith

crossed_once : (own way : Way) (p q : Pair) (lost : Bool) (packet : Packet) (got : Option Unit) → CrossesBy way p lost packet got q → is_of own way + debts (speaker own q) ≤ debts (speaker own p) + hearing_causes own way lost
crossed_once Forth Forth p q lost packet got c = let lt = says_falls p.first (record { packet = packet; after = q.first }) c.says in omega (arith, lt)
crossed_once Forth Back p q lost packet got c = let le = over_debts lost packet p.first q.first c.hears in omega (arith, le)
crossed_once Back Forth p q lost packet got c = let le = over_debts lost packet p.second q.second c.hears in omega (arith, le)
crossed_once Back Back p q lost packet got c = let lt = says_falls p.second (record { packet = packet; after = q.second }) c.says in omega (arith, lt)

once : (own : Way) (p q : Pair) (e : Event) → Happens p e q → said_of own e + debts (speaker own q) ≤ debts (speaker own p) + causes_of own p e
once Forth p q (Took u) h = subst (λ (x : Pair). 0 + debts x.first ≤ debts p.first + 1) (sym h.becomes) (omega (arith, length-append p.first.unacked (u ∷ [])))
once Back p q (Took u) h = subst (λ (x : Pair). 0 + debts x.second ≤ debts p.second + 0) (sym h.becomes) (omega arith)
once own p q (Crossed c g) h = crossed_once own c.way p q c.lost c.packet g h
once Forth p q Rang h = subst (λ (x : Pair). 0 + debts x.first ≤ debts p.first + timer_causes p.first.stage p.first) (sym h) (let t = tick_debts p.first.stage p.first in omega (arith, t))
once Back p q Rang h = subst (λ (x : Pair). 0 + debts x.second ≤ debts p.second + timer_causes p.second.stage p.second) (sym h) (let t = tick_debts p.second.stage p.second in omega (arith, t))

once_all : (own : Way) (p q : Pair) (events : List Event) (run : Runs p events q) → said_by own events + debts (speaker own q) ≤ debts (speaker own p) + causes own p q events run
once_all own p q [] r = let same = ap (λ (x : Pair). debts (speaker own x)) r in omega (arith, same)
once_all own p q (e ∷ events) r = let one = once own p r.0 e r.1 in let rest = once_all own r.0 q events r.2 in omega (arith, one, rest)

first_debt : (own : Way) (number : Option ℕ) → debts (speaker own (new_pair number)) ≡ 1
first_debt Forth number = refl
first_debt Back number = refl

pub once_per_cause : (number : Option ℕ) (events : List Event) (last : Pair) (run : Runs (new_pair number) events last) (own : Way) → said_by own events + debts (speaker own last) ≤ 1 + causes own (new_pair number) last events run
once_per_cause number events last r own = let all = once_all own (new_pair number) last events r in let one = first_debt own number in omega (arith, all, one)
