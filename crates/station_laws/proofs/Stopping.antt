-- A host puts out all that it may.
use Rattle.std.proofs.Common.{◌≡◌, ℕ, ◌&&◌, ◌==◌, not, nat_lt, Bool, true, false, List, [], ◌∷◌, length, Option, Some, None, is_none, is_some, if◌then◌else◌, inl, inr, refl, sym, ap, subst}
use Rattle.std.proofs.lemmas.Bool.{cases_Bool}
use Rattle.turn_laws.specs.acl_fragments.specs.Pieces.{Piece}
use Rattle.host_link.specs.declared.host_command.HostCommand.{HostCommand}
use Rattle.host_link.specs.CommandFlows.{first_of, next_command}
use Rattle.host_link.specs.Lines.{Line}
use Rattle.host_link.specs.PuttingOut.{has_room, has_buffer, is_waiting, with_piece, with_pieces, put_pieces_on, with_next, put_command}
use Rattle.station_laws.specs.Laws.{PiecesStop, CommandsStop}

-- ---- pieces

abbrev MayGo : Line → Type 0
MayGo line = (has_room line && has_buffer line && is_waiting line) ≡ false

last_false : (a b c : Bool) → c ≡ false → (a && b && c) ≡ false
last_false true true c none = none
last_false true false c none = refl
last_false false b c none = refl

first_false : (a b c : Bool) → (a && b) ≡ false → (a && b && c) ≡ false
first_false true true c none = cc
first_false true false c none = refl
first_false false b c none = refl

stop_on : (handle : ℕ) (pieces : List Piece) (line : Line) → line.pieces ≡ pieces → MayGo (with_pieces handle pieces line)
stop_on handle [] line are = last_false (has_room line) (has_buffer line) (is_waiting line) (ap (λ (pieces : List Piece). not (length pieces == 0)) are)
stop_on handle (piece ∷ rest) line are =
    let next : Line = with_pieces handle rest (with_piece handle piece rest line) in
    elim (cases_Bool (has_room line && has_buffer line)) [
      | inl may ↦
          let same : with_pieces handle (piece ∷ rest) line ≡ next = ap (λ (b : Bool). if b then next else line) may in
          subst MayGo (sym same) (stop_on handle rest (with_piece handle piece rest line) refl)
      | inr may_not ↦
          let same : with_pieces handle (piece ∷ rest) line ≡ line = ap (λ (b : Bool). if b then next else line) may_not in
          subst MayGo (sym same) (first_false (has_room line) (has_buffer line) (is_waiting line) may_not)
    ]

stop_at : (link : Option ℕ) (line : Line) → is_some link ≡ true → MayGo (put_pieces_on link line)
stop_at None line up = cc
stop_at (Some handle) line up = stop_on handle line.pieces line refl

pub pieces_stop : PiecesStop
pieces_stop line up = stop_at line.link line up

-- ---- commands

abbrev AllOut : Line → Type 0
AllOut line = is_none line.commands.awaited ≡ true → line.commands.waiting ≡ []

stop_by : (waiting : List HostCommand) (awaited : Option ℕ) (line : Line) → line.commands.waiting ≡ waiting → line.commands.awaited ≡ awaited
    → AllOut (with_next (if is_none awaited && nat_lt 0 1 then first_of waiting else None) line)
stop_by [] None line waiting_is awaited_is free = waiting_is
stop_by (command ∷ rest) None line waiting_is awaited_is free = cc
stop_by waiting (Some number) line waiting_is awaited_is free = let busy : is_none line.commands.awaited ≡ false = ap is_none awaited_is in absurd cc

pub commands_stop : CommandsStop
commands_stop side line host room =
    let one : next_command line.commands ≡ (if is_none line.commands.awaited && nat_lt 0 1 then first_of line.commands.waiting else None) =
    ap (λ (n : ℕ). if is_none line.commands.awaited && nat_lt 0 n then first_of line.commands.waiting else None) host.number in
    let same : put_command line ≡ with_next (next_command line.commands) line = ap (λ (b : Bool). if b then with_next (next_command line.commands) line else line) room in
    subst AllOut (sym same)
    (subst (λ (next : Option HostCommand). AllOut (with_next next line)) (sym one) (stop_by line.commands.waiting line.commands.awaited line refl refl))
