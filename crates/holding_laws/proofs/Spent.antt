-- Behind all that it does by itself a host has said all, where a buffer and room are left.
use Rattle.std.proofs.Common.{◌≡◌, ◌≤◌, ◌&&◌, ◌==◌, ℕ, zero, suc, not, nat_lt, Bool, true, false, is_some, List, [], ◌∷◌, ◌++◌, length, Option, Some, None, refl, sym, ap, ◌∙◌, true≢false, length-append, arith, tests, if◌then◌else◌}
use Rattle.call_laws.specs.bt_host.specs.acl_fragments.specs.Pieces.{Piece}
use Rattle.call_laws.specs.bt_host.specs.channel_model.specs.Giving.{Given, next_given}
use Rattle.call_laws.specs.bt_host.specs.host_link.specs.CommandFlows.{next_command}
use Rattle.call_laws.specs.bt_host.specs.host_link.specs.PuttingOut.{has_room, has_buffer, is_waiting, with_next, put_pieces, put_command, connecting, leaving, can_take_pdu, take_pdu}
use Rattle.call_laws.specs.bt_host.specs.host_link.specs.declared.host_command.HostCommand.{HostCommand}
use Rattle.call_laws.specs.bt_host.specs.host_model.specs.Hosts.{Host, next, says}
use Rattle.call_laws.specs.bt_host.specs.host_model.specs.Profiles.{Profile}
use Rattle.call_laws.specs.bt_host.specs.host_model.specs.Saying.{says_less}
use Rattle.call_laws.specs.bt_host.specs.Stacks.{Standing, with_line, said_then, says_up_to, says_all, leaves_now, leaves, pages_now, pages, goes_out, can_put_piece}
use Rattle.call_laws.specs.bt_host.proofs.Resting.{none_goes, none_goes_behind}

-- no piece waits, and it says nothing next
pub record HasNoneLeft {S : Type 0} (A : Profile S) (now : Standing S) : Type 0 where
  pub pieces : now.line.pieces ≡ []
  pub none_next : next A now.host ≡ None

-- so it is where a link is up, and a buffer and room are left
abbrev pub IsSpent : {S : Type 0} → Profile S → Standing S → Type 0
IsSpent A now = is_some now.line.link ≡ true → has_buffer now.line ≡ true → has_room now.line ≡ true → HasNoneLeft A now

-- ---- PDU after PDU

-- no piece can be put out, and where a PDU can be taken there is none
record IsThrough {S : Type 0} (A : Profile S) (now : Standing S) : Type 0 where
  pieces : can_put_piece now.line ≡ false
  said : can_take_pdu now.line ≡ true → next A now.host ≡ None

module _ {S : Type 0} (A : Profile S) where
  none_to_say : (given : Option Given) (count : ℕ) (host : Host S) → count ≡ 0 → says A given count host ≡ None
  none_to_say None count host is = refl
  none_to_say (Some given) zero host is = refl
  none_to_say (Some given) (suc count) host is = absurd (omega (arith, is))

  through : (count : ℕ) (now : Standing S) → now.host.may_say ≤ count → can_put_piece now.line ≡ false → IsThrough A (says_up_to A count now)
  unfolding says_up_to
  through zero now few off = record { pieces = off; said = λ can. none_to_say (next_given now.host.channels) now.host.may_say now.host (omega (arith, few)) }
  through (suc count) now few off = by (λ mid less free. through count mid less free) (can_take_pdu now.line) (next A now.host) refl refl
    where
      by : ((mid : Standing S) → mid.host.may_say ≤ count → can_put_piece mid.line ≡ false → IsThrough A (says_up_to A count mid)) → (can : Bool) (said : Option (List ℕ × Host S)) → can_take_pdu now.line ≡ can → next A now.host ≡ said → IsThrough A (if can then said_then (λ mid. says_up_to A count mid) now said else now)
      by more false said can_is said_is = record { pieces = off; said = λ can. absurd (true≢false (sym can ∙ can_is)) }
      by more true None can_is said_is = record { pieces = off; said = λ can. said_is }
      by more true (Some (pdu, host)) can_is said_is =
          let less = says_less A now.host pdu host said_is in
          more (record now { line = take_pdu pdu now.line; host = host }) (omega (arith, less, few)) (none_goes_behind pdu now.line (take_pdu pdu now.line) refl)

  said_through : (now : Standing S) → IsThrough A (says_all A (with_line put_pieces now))
  said_through now = through now.host.may_say (with_line put_pieces now) (omega arith) (none_goes now.line)

  -- ---- what else it does

  -- the same host, link, pieces and buffers, and no more room
  record Keeps (old new : Standing S) : Type 0 where
    host : new.host ≡ old.host
    link : new.line.link ≡ old.line.link
    pieces : new.line.pieces ≡ old.line.pieces
    buffer : has_buffer new.line ≡ has_buffer old.line
    room : has_room new.line ≡ true → has_room old.line ≡ true

  keeps_same : (now : Standing S) → Keeps now now
  keeps_same now = record { host = refl; link = refl; pieces = refl; buffer = refl; room = λ on. on }

  keeps_then : (old mid new : Standing S) → Keeps old mid → Keeps mid new → Keeps old new
  keeps_then old mid new one two =
      record { host = two.host ∙ one.host; link = two.link ∙ one.link; pieces = two.pieces ∙ one.pieces; buffer = two.buffer ∙ one.buffer; room = λ on. one.room (two.room on) }

  keeps_if : (test : Bool) (old new : Standing S) → Keeps old new → Keeps old (if test then new else old)
  keeps_if true old new keeps = keeps
  keeps_if false old new keeps = keeps_same old

  less_room : (out more : List ℕ) → nat_lt (length (out ++ more)) 65536 ≡ true → nat_lt (length out) 65536 ≡ true
  less_room out more on = let long = length-append out more in grind (arith, tests, on, long)

  keeps_next : (command : Option HostCommand) (now : Standing S) → Keeps now (with_line (with_next command) now)
  keeps_next None now = keeps_same now
  keeps_next (Some command) now = record { host = refl; link = refl; pieces = refl; buffer = refl; room = λ on. less_room now.line.out _ on }

  keeps_command : (now : Standing S) → Keeps now (with_line put_command now)
  keeps_command now = by (has_room now.line)
    where
      by : (room : Bool) → Keeps now (record now { line = if room then with_next (next_command now.line.commands) now.line else now.line })
      by true = keeps_next (next_command now.line.commands) now
      by false = keeps_same now

  keeps_leaving : (link : Option ℕ) (now : Standing S) → Keeps now (with_line (leaving link) now)
  keeps_leaving None now = keeps_same now
  keeps_leaving (Some handle) now = by now.line.ending
    where
      by : (ending : Bool) → Keeps now (record now { line = if ending then now.line else record now.line { commands = (leaving (Some handle) (record now.line { ending = false })).commands; ending = true } })
      by true = keeps_same now
      by false = record { host = refl; link = refl; pieces = refl; buffer = refl; room = λ on. on }

  keeps_leaves : (now : Standing S) → Keeps now (leaves A now)
  keeps_leaves now = keeps_if (leaves_now A now) now (with_line (leaving now.line.link) now) (keeps_leaving now.line.link now)

  keeps_pages : (now : Standing S) → Keeps now (pages A now)
  keeps_pages now = keeps_if (pages_now A now) now (with_line (connecting now.paged) now) (record { host = refl; link = refl; pieces = refl; buffer = refl; room = λ on. on })

  keeps_rest : (now : Standing S) → Keeps now (with_line put_command (pages A (leaves A (with_line put_command now))))
  keeps_rest now =
      let first = with_line put_command now in
      let left = leaves A first in
      let called = pages A left in
      keeps_then now first (with_line put_command called) (keeps_command now)
      (keeps_then first left (with_line put_command called) (keeps_leaves first) (keeps_then left called (with_line put_command called) (keeps_pages left) (keeps_command called)))

  -- ---- all of it

  off_then : (a b : Bool) → (a && b) ≡ false → a ≡ true → b ≡ false
  off_then true b off on = off
  off_then false b off on = absurd (true≢false (sym on))

  nothing : (pieces : List Piece) → not (length pieces == 0) ≡ false → pieces ≡ []
  nothing [] off = refl
  nothing (piece ∷ pieces) off = let some : not (length (piece ∷ pieces) == 0) ≡ true = grind (arith, tests) in absurd (true≢false (sym some ∙ off))

  all_on : (a b c d : Bool) → a ≡ true → b ≡ false → c ≡ true → d ≡ true → (a && (not b && (c && d))) ≡ true
  all_on true false true true a_is b_is c_is d_is = refl
  all_on false b c d a_is b_is c_is d_is = absurd (true≢false (sym a_is))
  all_on true true c d a_is b_is c_is d_is = absurd (true≢false b_is)
  all_on true false false d a_is b_is c_is d_is = absurd (true≢false (sym c_is))
  all_on true false true false a_is b_is c_is d_is = absurd (true≢false (sym d_is))

  through_spent : (now : Standing S) → IsThrough A now → IsSpent A now
  through_spent now out on buffer room =
      let may : (has_room now.line && has_buffer now.line) ≡ true = ap (λ (b : Bool). b && has_buffer now.line) room ∙ buffer in
      let idle : is_waiting now.line ≡ false = off_then (has_room now.line && has_buffer now.line) (is_waiting now.line) (off_then (is_some now.line.link) ((has_room now.line && has_buffer now.line) && is_waiting now.line) out.pieces on) may in
      record { pieces = nothing now.line.pieces idle; none_next = out.said (all_on (is_some now.line.link) (is_waiting now.line) (has_buffer now.line) (has_room now.line) on idle buffer room) }

  pub out_spent : (now : Standing S) → IsSpent A (goes_out A now)
  out_spent now on buffer room =
      let said = says_all A (with_line put_pieces now) in
      let keeps = keeps_rest said in
      let there = through_spent said (said_through now) (ap is_some (sym keeps.link) ∙ on) (sym keeps.buffer ∙ buffer) (keeps.room room) in
      record { pieces = keeps.pieces ∙ there.pieces; none_next = ap (next A) keeps.host ∙ there.none_next }
