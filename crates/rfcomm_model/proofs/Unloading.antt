-- What a multiplexer sends, is given and is asked: its load.
use Rattle.std.proofs.Common.{arith, ◌≡◌, ◌<◌, ◌≤◌, ℕ, ◌==◌, ◌+◌, ◌-◌, ◌*◌, Bool, true, false, ◌&&◌, cond, List, [], ◌∷◌, length, take, Option, Some, None, refl, ap}
use Rattle.std.specs.Prelude.{not, nat_lt, nat_le, is_none}
use Rattle.std.proofs.lemmas.Bool.{leb-true, ltb-true, ne_eqb}
use Rattle.rfcomm_frames.specs.declared.frame.MuxKind.{MuxKind}
use Rattle.rfcomm_frames.specs.declared.frame.MuxKind.TheVariants.{Sabm, Ua, Dm, Disc, Uih}
use Rattle.rfcomm_frames.specs.declared.connection.Role.{Role}
use Rattle.rfcomm_frames.specs.declared.connection.Role.TheVariants.{Initiator, Responder}
use Rattle.rfcomm_frames.specs.declared.connection.Dlc.{Dlc}
use Rattle.rfcomm_frames.specs.declared.connection.Dlc.TheVariants.{Idle, Asked, Open, Ended}
use Rattle.rfcomm_frames.specs.Frames.{PlainFrame}
use Rattle.rfcomm_frames.specs.FrameReading.{frame_answer, messages, is_empty}
use Rattle.rfcomm_frames.specs.Connections.{turned, asked, agreed, left}
use Rattle.rfcomm_frames.proofs.MessageReading.{messages-none}
use Rattle.rfcomm_credits.specs.Accounts.{Credits, grant_of}
use Rattle.rfcomm_model.specs.declared.state.Command.{Command}
use Rattle.rfcomm_model.specs.declared.state.Command.TheVariants.{OpenControl, Agree, OpenUser, Signal, LeaveUser, LeaveControl}
use Rattle.rfcomm_model.specs.declared.state.Asks.{Asks}
use Rattle.rfcomm_model.specs.declared.state.Asks.TheVariants.{Nothing, Due, Awaited}
use Rattle.rfcomm_model.specs.Machine.{Mux, new_mux, may_pass, is_ready, is_leaving, taken_count, sends, leaves}
use Rattle.rfcomm_model.specs.Written.{grant_frame, data_frame}
use Rattle.rfcomm_model.specs.Hearing.{own_credits}
use Rattle.rfcomm_model.specs.Saying.{Said, passed_on, passes, says, frame_of_command, commanded, says_data, says_grant, first_of, says_command, says_answer}
use Rattle.rfcomm_model.specs.Loads.{answers_to, weight, weights, asks_load, signal_load, grant_load, load, SaysNoMore, LoadFalls}
use Rattle.rfcomm_model.proofs.Loading.{load_if, grant_at_most, pn_weight, msc_weight, answer_load}

-- ---- connections turn one way

asked_falls : (role : Role) (dlc : Dlc) → signal_load role (asked dlc) ≤ signal_load role dlc
asked_falls Initiator dlc = omega arith
asked_falls Responder Idle = omega arith
asked_falls Responder Asked = omega arith
asked_falls Responder Open = omega arith
asked_falls Responder Ended = omega arith

agreed_falls : (role : Role) (dlc : Dlc) → signal_load role (agreed dlc) ≤ signal_load role dlc
agreed_falls Initiator dlc = omega arith
agreed_falls Responder Idle = omega arith
agreed_falls Responder Asked = omega arith
agreed_falls Responder Open = omega arith
agreed_falls Responder Ended = omega arith

left_falls : (role from : Role) (dlc : Dlc) → signal_load role (left from dlc) ≤ signal_load role dlc
left_falls Initiator from dlc = omega arith
left_falls Responder from Idle = omega arith
left_falls Responder Initiator Asked = omega arith
left_falls Responder Responder Asked = omega arith
left_falls Responder from Open = omega arith
left_falls Responder from Ended = omega arith

turned_falls : (role from : Role) (kind : MuxKind) (dlc : Dlc) → signal_load role (turned from kind dlc) ≤ signal_load role dlc
turned_falls role Initiator Sabm dlc = asked_falls role dlc
turned_falls role Responder Sabm dlc = omega arith
turned_falls role Initiator Ua dlc = omega arith
turned_falls role Responder Ua dlc = agreed_falls role dlc
turned_falls role Initiator Dm dlc = omega arith
turned_falls role Responder Dm dlc = omega arith
turned_falls role Initiator Disc dlc = left_falls role Initiator dlc
turned_falls role Responder Disc dlc = left_falls role Responder dlc
turned_falls role Initiator Uih dlc = omega arith
turned_falls role Responder Uih dlc = omega arith

passed_falls : (role : Role) (kind : MuxKind) (here pf : Bool) (dlc : Dlc) → signal_load role (cond here (passed_on role kind pf dlc) dlc) ≤ signal_load role dlc
passed_falls role kind true true dlc = turned_falls role role kind dlc
passed_falls role kind true false dlc = omega arith
passed_falls role kind false pf dlc = omega arith

passes_load : (n : ℕ) (kind : MuxKind) (pf : Bool) (m : Mux) → load (passes n kind pf m) ≤ load m
passes_load n kind pf m = let less = passed_falls m.role kind (n == m.dlci) pf m.user in omega (arith, less)

-- a frame that is said, where what is left then is no more without it
said_no_more : (before : ℕ) (frame : PlainFrame) (after : Mux) → weight frame + load after ≤ before → SaysNoMore before (Some (says frame after))
said_no_more before frame after less = let also = passes_load frame.dlci frame.kind frame.pf after in omega (arith, less, also)

-- ---- own commands

command_no_more : (command : Command) (m : Mux) → m.asks ≡ Due command → SaysNoMore (load m) (Some (says (frame_of_command command m) (commanded command m)))
command_no_more OpenControl m is = let before = ap asks_load is in said_no_more (load m) (frame_of_command OpenControl m) (commanded OpenControl m) (omega (arith, before))
command_no_more Agree m is =
    let before = ap asks_load is in
    let heavy = pn_weight m.role true m.dlci 0xF0 0 0 m.own 0 (own_credits m) in
    said_no_more (load m) (frame_of_command Agree m) (commanded Agree m) (omega (arith, before, heavy))
command_no_more OpenUser m is = let before = ap asks_load is in said_no_more (load m) (frame_of_command OpenUser m) (commanded OpenUser m) (omega (arith, before))
command_no_more Signal m is =
    let before = ap asks_load is in
    let heavy = msc_weight m.role true (4 * m.dlci + 3) 0x8D in
    said_no_more (load m) (frame_of_command Signal m) (commanded Signal m) (omega (arith, before, heavy))
command_no_more LeaveUser m is = let before = ap asks_load is in said_no_more (load m) (frame_of_command LeaveUser m) (commanded LeaveUser m) (omega (arith, before))
command_no_more LeaveControl m is = let before = ap asks_load is in said_no_more (load m) (frame_of_command LeaveControl m) (commanded LeaveControl m) (omega (arith, before))

-- ---- grants and data

if_no_more : (before : ℕ) (b : Bool) (said : Said) → (b ≡ true → SaysNoMore before (Some said)) → SaysNoMore before (cond b (Some said) None)
if_no_more before true said s = s refl
if_no_more before false said s = tt

first_no_more : (before : ℕ) (x y : Option Said) → SaysNoMore before x → SaysNoMore before y → SaysNoMore before (first_of x y)
first_no_more before None y p q = q
first_no_more before (Some said) y p q = p

both_true : (a b : Bool) → (a && b) ≡ true → (a ≡ true) × (b ≡ true)
both_true true b is = (refl, is)
both_true false b is = let never : false ≡ true = is in cc

-- a grant frame counts itself alone, and once it is given none is due
grant_weight : (role : Role) (d n : ℕ) → weight (grant_frame role d n) ≡ 1
grant_weight role d n = on_channel (d == 0)
  where
    on_channel : (b : Bool) → 1 + cond b (answers_to (messages [])) 0 ≡ 1
    on_channel true = ap (λ list. 1 + answers_to list) messages-none
    on_channel false = refl

given_all : (cap peer : ℕ) (low : Bool) → nat_le (2 * peer) cap ≡ low → 0 < cond low (cap - peer) 0 → cap - (peer + cond low (cap - peer) 0) ≡ 0
given_all cap peer true is some = let h = leb-true (2 * peer) cap is in omega arith
given_all cap peer false is some = absurd (omega arith)

grant_due : (account : Credits) → nat_lt 0 (grant_of account) ≡ true → grant_load account ≡ 1
grant_due account due = ap (λ (b : Bool). cond b 1 0) due

no_grant : (most peer : ℕ) → most - peer ≡ 0 → grant_load (record { cap = most; held = 0; peer = peer }) ≡ 0
no_grant most peer none = let zero = either_way (nat_le (2 * peer) most) in omega (arith, zero)
  where
    either_way : (b : Bool) → 0 + cond (nat_lt 0 (cond b (most - peer) 0)) 1 0 ≡ 0
    either_way true = ap (λ (n : ℕ). 0 + cond (nat_lt 0 n) 1 0) none
    either_way false = refl

grant_no_more : (m : Mux) → SaysNoMore (load m) (says_grant m)
grant_no_more m =
    let n : ℕ = grant_of m.account in
    let x : Mux = record m { account = record { cap = m.account.cap; held = m.account.held; peer = m.account.peer + n } } in
    if_no_more (load m) (may_pass m && nat_lt 0 n) (says (grant_frame m.role m.dlci n) x)
    (λ t.
    let due : nat_lt 0 n ≡ true = (both_true (may_pass m) (nat_lt 0 n) t).1 in
    let before = grant_due m.account due in
    let after = no_grant m.account.cap (m.account.peer + n) (given_all m.account.cap m.account.peer (nat_le (2 * m.account.peer) m.account.cap) refl (ltb-true 0 n due)) in
    let one = grant_weight m.role m.dlci n in
    said_no_more (load m) (grant_frame m.role m.dlci n) x (omega (arith, before, after, one)))

data_weight : (role : Role) (d : ℕ) (octets : List ℕ) → 0 < d → weight (data_frame role d octets) ≡ 1 + cond (is_empty octets) 0 1
data_weight role d octets some = ap (λ (b : Bool). 1 + cond b (answers_to (messages octets)) (cond (is_empty octets) 0 1)) (ne_eqb d 0 (λ e. omega arith))

data_no_more : (m : Mux) → 0 < m.dlci → SaysNoMore (load m) (says_data m)
data_no_more m some =
    let x : Mux = record m { waiting = []; account = record { cap = m.account.cap; held = m.account.held - 1; peer = m.account.peer } } in
    if_no_more (load m) (is_ready m && (not (is_empty m.waiting) && nat_lt 0 m.account.held)) (says (data_frame m.role m.dlci m.waiting) x)
    (λ t.
    let full : not (is_empty m.waiting) ≡ true = (both_true (not (is_empty m.waiting)) (nat_lt 0 m.account.held) (both_true (is_ready m) (not (is_empty m.waiting) && nat_lt 0 m.account.held) t).1).0 in
    let two = data_weight m.role m.dlci m.waiting some in
    let waits = waits_two (is_empty m.waiting) full in
    said_no_more (load m) (data_frame m.role m.dlci m.waiting) x (omega (arith, two, waits.0, waits.1)))
  where
    waits_two : (b : Bool) → not b ≡ true → (1 + cond b 0 1 ≡ 2) × (1 + cond b 0 2 ≡ 3)
    waits_two true is = let never : false ≡ true = is in cc
    waits_two false is = (refl, refl)

free_no_more : (m : Mux) → 0 < m.dlci → SaysNoMore (load m) (first_of (says_grant m) (says_data m))
free_no_more m some = first_no_more (load m) (says_grant m) (says_data m) (grant_no_more m) (data_no_more m some)

asked_no_more : (asks : Asks) (m : Mux) → m.asks ≡ asks → 0 < m.dlci → SaysNoMore (load m) (says_command asks m)
asked_no_more Nothing m is some = free_no_more m some
asked_no_more (Due command) m is some = command_no_more command m is
asked_no_more (Awaited command) m is some = free_no_more m some

answers_no_more : (answers : List PlainFrame) (m : Mux) → m.answers ≡ answers → 0 < m.dlci → SaysNoMore (load m) (says_answer answers m)
answers_no_more [] m is some = asked_no_more m.asks m refl some
answers_no_more (answer ∷ rest) m is some = let before = ap weights is in said_no_more (load m) answer (record m { answers = rest }) (omega (arith, before))

-- ---- what is asked of it

sends_load : (octets : List ℕ) (m : Mux) → load (sends octets m) ≤ load m + 2
sends_load octets m =
    let x : Mux = record m { waiting = take (taken_count (length octets) m) octets } in
    let two = at_most (is_empty x.waiting) in
    load_if (load m + 2) (is_empty m.waiting && nat_lt 0 m.account.held) x m (omega (arith, two)) (omega arith)
  where
    at_most : (b : Bool) → cond b 0 2 ≤ 2
    at_most true = omega arith
    at_most false = omega arith

leaves_load : (m : Mux) → load (leaves m) ≤ load m + 4
leaves_load m = load_if (load m + 4) (is_none m.closed && not (is_leaving m.asks)) (record m { asks = Due LeaveUser }) m (omega arith) (omega arith)

pub load-falls : LoadFalls
load-falls = record {
  hearing = λ sdu m. answer_load (frame_answer sdu) m;
  saying = λ m some. answers_no_more m.answers m refl some;
  giving = sends_load;
  leaving = leaves_load;
  initiator = λ dlci largest own cap. let one = grant_at_most (new_mux Initiator dlci largest own cap).account in omega (arith, one);
  responder = λ dlci largest own cap. let one = grant_at_most (new_mux Responder dlci largest own cap).account in omega (arith, one);
}
