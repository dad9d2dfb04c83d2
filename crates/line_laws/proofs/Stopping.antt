-- A host in code that has done all that it can.
use Rattle.std.proofs.Common.{◌≡◌, ℕ, suc, ◌&&◌, ◌||◌, ◌==◌, not, nat_lt, Bool, true, false, List, [], ◌∷◌, length, map, Option, Some, None, is_none, is_some, refl, sym, ap, ap₂, subst, ◌∙◌, arith}
use Rattle.std.proofs.lemmas.Bool.{lt-ltb, ne_eqb}
use Rattle.radio_world.specs.acl_fragments.specs.Pieces.{Piece}
use Rattle.radio_world.specs.acl_credits.specs.Ledgers.{packets_of}
use Rattle.radio_world.specs.push_terms.specs.declared.word.Side.{Side}
use Rattle.radio_world.specs.push_terms.specs.declared.word.Side.TheVariants.{A, B}
use Rattle.radio_world.specs.host_link.specs.declared.host_command.HostCommand.{HostCommand}
use Rattle.radio_world.specs.host_link.specs.Lines.{Line}
use Rattle.radio_world.specs.host_link.specs.PuttingOut.{has_room, has_buffer, is_waiting, can_take_pdu, put_command}
use Rattle.radio_world.specs.world_model.specs.Machines.{Upper}
use Rattle.radio_world.specs.world_model.specs.Stations.{Order, Station, Taking, Putting, Asking, Leaving, Commanding, Takes, Puts, Commands}
use Rattle.radio_world.specs.station_laws.specs.Seen.{IsHostOf, order_of}
use Rattle.radio_world.specs.station_laws.proofs.Stopping.{pieces_stop, commands_stop}
use Rattle.radio_world.specs.host_link.specs.Calling.{may_end}
use Rattle.line_laws.specs.Seeing.{seen, is_asking, IsSpent}
use Rattle.line_laws.specs.Laws.{SpentHostsStop}
use Rattle.line_laws.proofs.Linking.{same_asking, same_ending}

some_is : {X : Type 0} (o : Option X) (x : X) → o ≡ Some x → is_some o ≡ true
some_is o x is = ap is_some is

none_is : {X : Type 0} (o : Option X) → o ≡ None → is_none o ≡ true
none_is o is = ap is_none is

room_is : (line : Line) → line.out ≡ [] → has_room line ≡ true
room_is line none = ap (λ (out : List ℕ). nat_lt (length out) 65536) none

all_three : (a b c : Bool) → a ≡ true → b ≡ true → c ≡ true → (a && b && c) ≡ true
all_three true true true one two three = refl
all_three true true false one two three = cc
all_three true false c one two three = cc
all_three false b c one two three = cc

some_wait : (pieces : List Piece) (piece : Piece) (rest : List Piece) → pieces ≡ piece ∷ rest → not (length pieces == 0) ≡ true
some_wait [] piece rest is = cc
some_wait (one ∷ pieces) piece rest is = ap not (ne_eqb (suc (length pieces)) 0 (λ same. omega (arith, same)))

takes_not : {S G : Type 0} (U : Upper S G) (side : Side) (upper : S) (line : Line) (next : Station S) → IsSpent U side upper line → line.out ≡ [] → Takes U (seen upper line) next → ⊥
takes_not {S} U side upper line next spent none takes =
    let buffer : has_buffer line ≡ true = lt-ltb (packets_of line.ledger.held) line.ledger.total takes.free in
    let waits : is_waiting line ≡ false = ap (λ (pieces : List Piece). not (length pieces == 0)) takes.none_waits in
    let may : can_take_pdu line ≡ true = ap₂ (λ (x y : Bool). x && y) (some_is line.link takes.handle takes.link) (ap₂ (λ (x y : Bool). not x && y) waits (ap₂ (λ (x y : Bool). x && y) buffer (room_is line none))) in
    let both : ◌≡◌ {A = Option (List ℕ × S)} None (Some (takes.pdu, takes.after)) = sym (spent.none_next may) ∙ takes.next in
    cc

puts_not : {S G : Type 0} (U : Upper S G) (side : Side) (upper : S) (line : Line) (next : Station S) → IsSpent U side upper line → line.out ≡ [] → Puts (seen upper line) next → ⊥
puts_not {S} U side upper line next spent none puts =
    let buffer : has_buffer line ≡ true = lt-ltb (packets_of line.ledger.held) line.ledger.total puts.free in
    let waits : is_waiting line ≡ true = some_wait line.pieces puts.piece puts.rest puts.first in
    let stop = subst (λ (l : Line). (has_room l && has_buffer l && is_waiting l) ≡ false) spent.pieces (pieces_stop line (some_is line.link puts.handle puts.link)) in
    let on = all_three (has_room line) (has_buffer line) (is_waiting line) (room_is line none) buffer waits in
    let both : true ≡ false = sym on ∙ stop in
    cc

no_more : (commands : List HostCommand) (order : Order) (rest : List Order) → commands ≡ [] → map order_of commands ≡ order ∷ rest → ⊥
no_more [] order rest none is = cc
no_more (command ∷ commands) order rest none is = cc

commands_not : {S G : Type 0} (U : Upper S G) (side : Side) (upper : S) (line : Line) (next : Station S) → IsHostOf side line → IsSpent U side upper line → line.out ≡ [] → Commands (seen upper line) next → ⊥
commands_not {S} U side upper line next host spent none commands =
    let awaited : is_none (put_command line).commands.awaited ≡ true = ap (λ (l : Line). is_none l.commands.awaited) spent.command ∙ none_is line.commands.awaited commands.none_awaited in
    let gone = ap (λ (l : Line). l.commands.waiting) (sym spent.command) ∙ commands_stop side line host (room_is line none) awaited in
    no_more line.commands.waiting commands.order commands.rest gone commands.first

pub spent_hosts_stop : {S G : Type 0} (U : Upper S G) → SpentHostsStop U
spent_hosts_stop U side upper line is spent none Taking next does = takes_not U side upper line next spent none does
spent_hosts_stop U side upper line is spent none Putting next does = puts_not U side upper line next spent none does
spent_hosts_stop U A upper line is spent none Asking next does =
    let asking : is_asking line ≡ false = ap₂ (λ (x y : Bool). x || y) does.unasked (sym (same_asking line.commands.waiting) ∙ does.none_waits) in
    let both : true ≡ false = sym (spent.calls does.wants does.off) ∙ asking in
    cc
spent_hosts_stop U B upper line is spent none Asking next does = does
spent_hosts_stop U side upper line is spent none Leaving next does =
    let may : may_end line ≡ true = ap₂ (λ (x y : Bool). x && y) (some_is line.link does.handle does.link) (ap₂ (λ (x y : Bool). not x && not y) does.unended (sym (same_ending line.commands.waiting) ∙ does.none_ends)) in
    let both : true ≡ false = sym may ∙ spent.ends does.none_waits does.none_next does.leaves in
    cc
spent_hosts_stop U side upper line is spent none Commanding next does = commands_not U side upper line next is.host spent none does
