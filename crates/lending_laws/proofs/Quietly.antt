-- A host in code that has done all that it can has said all, where a buffer of its controller is free or no link is up; and so it stays where octets are taken.
use Rattle.std.proofs.Common.{◌≡◌, ◌&&◌, ℕ, not, nat_lt, Bool, true, false, is_some, List, ◌∷◌, ◌++◌, length, Option, Some, None, refl, sym, ap, subst, ◌∙◌, length-append, true≢false, arith, if◌then◌else◌}
use Rattle.call_laws.specs.bt_host.specs.channel_model.specs.Giving.{next_given}
use Rattle.call_laws.specs.bt_host.specs.channel_model.specs.Value.{Channels, no_channels}
use Rattle.call_laws.specs.unit_laws.specs.scenario_laws.specs.h4_framing.specs.Packets.{Packet}
use Rattle.call_laws.specs.bt_host.specs.capture.specs.Links.{Link}
use Rattle.call_laws.specs.bt_host.specs.host_link.specs.declared.host_command.HostCommand.{HostCommand}
use Rattle.call_laws.specs.bt_host.specs.host_link.specs.CommandFlows.{next_command}
use Rattle.call_laws.specs.bt_host.specs.host_link.specs.Hearing.{PlainNews, Nothing, LinkUp, LinkFailed, LinkDown, Pdu}
use Rattle.call_laws.specs.bt_host.specs.host_link.specs.Lines.{Line}
use Rattle.call_laws.specs.bt_host.specs.host_link.specs.PuttingOut.{has_room, has_buffer, is_waiting, with_next}
use Rattle.call_laws.specs.bt_host.specs.host_model.specs.Circumstances.{Circumstance}
use Rattle.call_laws.specs.bt_host.specs.host_model.specs.Profiles.{Profile}
use Rattle.call_laws.specs.bt_host.specs.Stacks.{Stacked, Standing, Rests, standing, can_put_piece}
use Rattle.call_laws.specs.bt_host.proofs.Resting.{none_goes, stays_put}
use Rattle.call_laws.specs.unit_laws.specs.Calls.{IsWritable}
use Rattle.receiving.specs.Turns.{emptied}
use Rattle.receiving.proofs.Still.{rests_emptied}
use Rattle.receive_laws.specs.Freely.{TellsOn}
use Rattle.receive_laws.proofs.Buffers.{lets_say}
use Rattle.receive_laws.proofs.Freely.{TellsSo, BringsNone}
use Rattle.lending_laws.specs.InTurn.{AllIsSaid, IsToldQuietly}

-- ---- it has said all

pub said_on : {E S P : Type 0} (A : Profile S) (pushing : E → P → List Circumstance → S) (port : P) (stack : Stacked E) (rest : List Circumstance) → Rests A (standing pushing port stack rest) → has_room stack.line ≡ true → is_some stack.line.link ≡ true → has_buffer stack.line ≡ true → AllIsSaid stack
said_on A pushing port stack rest rests room on buffer =
    let now = standing pushing port stack rest in
    let all = lets_say A (emptied now) (rests_emptied A now rests room) refl (record { link = on; buffer = buffer }) in
    record { pieces = all.pieces; none_more = all.none_more }

never : (b : Bool) → (b && false) ≡ false
never true = refl
never false = refl

pub said_off : {E : Type 0} (stack : Stacked E) → IsWritable stack.line → stack.line.link ≡ None → stack.upper.machine.channels ≡ no_channels → AllIsSaid stack
said_off stack writable off none = record {
  pieces = writable.off off;
  none_more = subst (λ (v : Channels). (nat_lt 0 stack.upper.may_say && is_some (next_given v)) ≡ false) (sym none) (never (nat_lt 0 stack.upper.may_say));
}

-- ---- it is told quietly

pub told_on : {E : Type 0} (link : Link) (packet : Packet) (news : PlainNews) (stack : Stacked E) → TellsSo link packet news → (TellsOn link packet → AllIsSaid stack) → IsToldQuietly news stack
told_on link packet Nothing stack tells all = tt
told_on link packet LinkUp stack tells all = tt
told_on link packet (LinkFailed status) stack tells all = all tells
told_on link packet (LinkDown reason) stack tells all = tt
told_on link packet (Pdu channel octets) stack tells all = all tells

pub told_off : {E : Type 0} (news : PlainNews) (stack : Stacked E) → BringsNone news → AllIsSaid stack → IsToldQuietly news stack
told_off Nothing stack none all = tt
told_off LinkUp stack none all = tt
told_off (LinkFailed status) stack none all = all
told_off (LinkDown reason) stack none all = tt
told_off (Pdu channel octets) stack none all = absurd none

-- ---- its controller took octets

no_longer : (xs : List ℕ) (y : ℕ) (ys : List ℕ) → xs ++ y ∷ ys ≡ xs → ⊥
no_longer xs y ys is = let long = length-append xs (y ∷ ys) in let same = ap (λ (t : List ℕ). length t) is in omega arith

stuck : (next : Option HostCommand) (line other : Line) → with_next next line ≡ line → with_next next other ≡ other
stuck None line other is = refl
stuck (Some command) line other is = absurd (no_longer line.out _ _ (ap (λ (l : Line). l.out) is))

stuck_if : (room : Bool) (next : Option HostCommand) (line : Line) → room ≡ true → (if room then with_next next line else line) ≡ line → with_next next line ≡ line
stuck_if true next line on is = is
stuck_if false next line on is = absurd (true≢false (sym on))

still_if : (room : Bool) (next : Option HostCommand) (line : Line) → with_next next line ≡ line → (if room then with_next next line else line) ≡ line
still_if true next line is = is
still_if false next line is = refl

pub rests_taken : {S : Type 0} (A : Profile S) (now : Standing S) (out : List ℕ) → Rests A now → has_room now.line ≡ true → nat_lt (length out) 65536 ≡ true → Rests A (record now { line = record now.line { out = out } })
rests_taken A now out rests room less =
    let line : Line = record now.line { out = out } in
    let same : has_room line ≡ has_room now.line = less ∙ sym room in
    record {
      pieces = stays_put line (ap (λ (b : Bool). is_some now.line.link && ((b && has_buffer now.line) && is_waiting now.line)) same ∙ (sym (ap can_put_piece rests.pieces) ∙ none_goes now.line));
      command = still_if (has_room line) (next_command now.line.commands) line (stuck (next_command now.line.commands) now.line line (stuck_if (has_room now.line) (next_command now.line.commands) now.line room rests.command));
      said = λ may. rests.said (ap (λ (b : Bool). is_some now.line.link && (not (is_waiting now.line) && (has_buffer now.line && b))) (sym same) ∙ may);
      keeps = rests.keeps;
      asks = rests.asks;
    }

pub rests_paging : {S : Type 0} (A : Profile S) (now : Standing S) (address : List ℕ) → Rests A now → Rests A (record now { paged = address })
rests_paging A now address rests = record { pieces = rests.pieces; command = rests.command; said = rests.said; keeps = rests.keeps; asks = rests.asks }
