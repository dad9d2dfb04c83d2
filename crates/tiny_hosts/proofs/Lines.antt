-- What a line can still put out.
use Rattle.std.proofs.Common.{◌≡◌, ℕ, suc, ◌&&◌, ◌==◌, not, Bool, true, false, List, [], ◌∷◌, ◌++◌, length, Option, Some, None, is_some, if◌then◌else◌, inl, inr, refl, sym, ap, ◌∙◌, subst, arith}
use Rattle.std.proofs.lemmas.Bool.{cases_Bool, ne_eqb}
use Rattle.line_laws.specs.acl_fragments.specs.Pieces.{Piece}
use Rattle.h4_framing.specs.Packets.{Packet, Command, Acl, Sync, Event, spelling}
use Rattle.host_link.specs.declared.host_command.HostCommand.{HostCommand}
use Rattle.host_link.specs.HostCommands.{command_packet}
use Rattle.host_link.specs.CommandFlows.{next_command}
use Rattle.host_link.specs.Lines.{Line}
use Rattle.host_link.specs.PuttingOut.{has_room, has_buffer, is_waiting, with_piece, with_pieces, put_pieces_on, put_pieces, with_pdu, take_pdu, with_next, put_command}
use Rattle.line_laws.specs.station_laws.proofs.Stopping.{pieces_stop}
use Rattle.tiny_hosts.specs.Hosting.{IsStuck}

-- ---- pieces

same_link : (handle : ℕ) (pieces : List Piece) (line : Line) → (with_pieces handle pieces line).link ≡ line.link
same_link handle [] line = refl
same_link handle (piece ∷ rest) line =
    let next : Line = with_pieces handle rest (with_piece handle piece rest line) in
    elim (cases_Bool (has_room line && has_buffer line)) [
      | inl may ↦ ap (λ (b : Bool). (if b then next else line).link) may ∙ same_link handle rest (with_piece handle piece rest line)
      | inr may_not ↦ ap (λ (b : Bool). (if b then next else line).link) may_not
    ]

link_stays : (link : Option ℕ) (line : Line) → (put_pieces_on link line).link ≡ line.link
link_stays None line = refl
link_stays (Some handle) line = same_link handle line.pieces line

-- no more pieces go behind those that went
pub stuck_after : (line : Line) → IsStuck (put_pieces line)
stuck_after line up = pieces_stop line (ap is_some (sym (link_stays line.link line)) ∙ up)

pub stuck_taking : (pdu : List ℕ) (line : Line) → IsStuck (take_pdu pdu line)
stuck_taking pdu line = stuck_after (with_pdu pdu line)

some_waits : (a b c : Bool) → (a && b && c) ≡ false → c ≡ true → (a && b) ≡ false
some_waits true true c none is = cc
some_waits true false c none is = refl
some_waits false b c none is = refl

stays_on : (handle : ℕ) (pieces : List Piece) (line : Line) → line.pieces ≡ pieces → (has_room line && has_buffer line && is_waiting line) ≡ false → with_pieces handle pieces line ≡ line
stays_on handle [] line are stuck = refl
stays_on handle (piece ∷ rest) line are stuck =
    let waits : is_waiting line ≡ true = ap (λ (l : List Piece). not (length l == 0)) are ∙ ap not (ne_eqb (suc (length rest)) 0 (λ same. omega (arith, same))) in
    ap (λ (b : Bool). if b then with_pieces handle rest (with_piece handle piece rest line) else line) (some_waits (has_room line) (has_buffer line) (is_waiting line) stuck waits)

stays_at : (link : Option ℕ) (line : Line) → (is_some link ≡ true → (has_room line && has_buffer line && is_waiting line) ≡ false) → put_pieces_on link line ≡ line
stays_at None line stuck = refl
stays_at (Some handle) line stuck = stays_on handle line.pieces line refl (stuck refl)

pub pieces_stay : (line : Line) → IsStuck line → put_pieces line ≡ line
pieces_stay line stuck = stays_at line.link line stuck

-- ---- the command

no_octets : (packet : Packet) (before : List ℕ) → before ++ spelling packet ≡ [] → ⊥
no_octets packet (x ∷ before) none = cc
no_octets (Command opcode params) [] none = cc
no_octets (Acl word octets) [] none = cc
no_octets (Sync word octets) [] none = cc
no_octets (Event code params) [] none = cc

next_stays : (next : Option HostCommand) (line : Line) → (with_next next line).out ≡ [] → with_next next line ≡ line
next_stays None line none = refl
next_stays (Some command) line none = absurd (no_octets (command_packet command) line.out none)

command_by : (room : Bool) (line : Line) → (if room then with_next (next_command line.commands) line else line).out ≡ [] → (if room then with_next (next_command line.commands) line else line) ≡ line
command_by true line none = next_stays (next_command line.commands) line none
command_by false line none = refl

-- where nothing stands in what is put out, no command was put there
pub command_stays : (line : Line) → (put_command line).out ≡ [] → put_command line ≡ line
command_stays line none = command_by (has_room line) line none

-- ---- what a question tells

pub none_by : {X : Type 0} (o : Option X) (none : Bool) → is_some o ≡ not none → none ≡ true → o ≡ None
none_by None none told is = refl
none_by (Some x) true told is = cc
none_by (Some x) false told is = cc

pub none_some : {X : Type 0} (o : Option X) → is_some o ≡ false → o ≡ None
none_some None is = refl
none_some (Some x) is = cc

pub none_waits : (pieces : List Piece) → not (length pieces == 0) ≡ false → pieces ≡ []
none_waits [] is = refl
none_waits (piece ∷ rest) is = let waits : not (length (piece ∷ rest) == 0) ≡ true = ap not (ne_eqb (suc (length rest)) 0 (λ same. omega (arith, same))) in cc
