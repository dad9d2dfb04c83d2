-- A line that puts out no command, or nothing else.
use Rattle.std.proofs.Common.{◌≡◌, ◌∙◌, ◌⊎◌, ◌&&◌, not, nat_lt, ℕ, Bool, true, false, is_some, List, [], ◌∷◌, ◌++◌, length, refl, sym, ap, inl, inr, true≢false, length-append, arith, if◌then◌else◌}
use Rattle.std.specs.Prelude.{Option, Some, None}
use Rattle.bt_host.specs.shelf_model.specs.acl_fragments.specs.Pieces.{Piece}
use Rattle.bt_host.specs.host_link.specs.declared.host_command.HostCommand.{HostCommand}
use Rattle.bt_host.specs.host_link.specs.CommandFlows.{next_command}
use Rattle.bt_host.specs.host_link.specs.Lines.{Line}
use Rattle.bt_host.specs.host_link.specs.PuttingOut.{has_room, has_buffer, is_waiting, with_piece, with_pieces, put_pieces_on, put_pieces, with_next, put_command, can_take_pdu, with_pdu, take_pdu}
use Rattle.bt_host.specs.Stacks.{can_put_piece}
use Rattle.bt_host.proofs.Resting.{none_goes, stays_put}

pub either : (P : Line → Type 0) (test : Bool) (a b : Line) → P a → P b → P (if test then a else b)
either P true a b first second = first
either P false a b first second = second

-- ---- pieces

pub pieces_again : (line : Line) → put_pieces (put_pieces line) ≡ put_pieces line
pieces_again line = stays_put (put_pieces line) (none_goes line)

pub taken_again : (pdu : List ℕ) (line : Line) → put_pieces (take_pdu pdu line) ≡ take_pdu pdu line
taken_again pdu line = pieces_again (with_pdu pdu line)

pub none_waits : (line : Line) → put_pieces line ≡ line → can_put_piece line ≡ false
none_waits line same = sym (ap can_put_piece same) ∙ none_goes line

kept_on : (handle : ℕ) (pieces : List Piece) (line : Line) → (with_pieces handle pieces line).commands ≡ line.commands
kept_on handle [] line = refl
kept_on handle (piece ∷ rest) line =
    either (λ (l : Line). l.commands ≡ line.commands) (has_room line && has_buffer line) (with_pieces handle rest (with_piece handle piece rest line)) line (kept_on handle rest (with_piece handle piece rest line)) refl

kept_at : (link : Option ℕ) (line : Line) → (put_pieces_on link line).commands ≡ line.commands
kept_at None line = refl
kept_at (Some handle) line = kept_on handle line.pieces line

-- ---- no command goes out

-- there is no room, or no command that may go out
abbrev pub NoCommand : Line → Type 0
NoCommand line = (has_room line ≡ false) ⊎ (next_command line.commands ≡ None)

pub none_put : (line : Line) → NoCommand line → put_command line ≡ line
none_put line (inl off) = ap (λ (b : Bool). if b then with_next (next_command line.commands) line else line) off
none_put line (inr none) = ap (λ (next : Option HostCommand). if has_room line then with_next next line else line) none ∙ either (λ (l : Line). l ≡ line) (has_room line) line line refl refl

longer : (octets first : List ℕ) (x : ℕ) → octets ++ x ∷ first ≡ octets → ⊥
longer octets first x same = let long = length-append octets (x ∷ first) in let short = ap length same in absurd (omega (arith, long, short))

pub puts_none : (line : Line) → put_command line ≡ line → NoCommand line
puts_none line same = by (has_room line) (next_command line.commands) refl refl same
  where
    by : (room : Bool) (next : Option HostCommand) → has_room line ≡ room → next_command line.commands ≡ next → (if room then with_next next line else line) ≡ line → NoCommand line
    by false next room_is next_is same' = inl room_is
    by true None room_is next_is same' = inr next_is
    by true (Some command) room_is next_is same' = absurd (longer line.out _ _ (ap (λ (l : Line). l.out) same'))

-- the same commands wait, and the same octets
pub none_as : (old new : Line) → new.commands ≡ old.commands → new.out ≡ old.out → NoCommand old → NoCommand new
none_as old new commands out (inl off) = inl (ap (λ (octets : List ℕ). nat_lt (length octets) 65536) out ∙ off)
none_as old new commands out (inr none) = inr (ap next_command commands ∙ none)

no_room : (link room waits : Bool) (buffer : Bool) → room ≡ false → (link && ((room && buffer) && waits)) ≡ false
no_room true room waits buffer off = ap (λ (b : Bool). (b && buffer) && waits) off
no_room false room waits buffer off = refl

pub none_behind : (line : Line) → NoCommand line → NoCommand (put_pieces line)
none_behind line (inr none) = inr (ap next_command (kept_at line.link line) ∙ none)
none_behind line (inl off) =
    inl (ap has_room (stays_put line (no_room (is_some line.link) (has_room line) (is_waiting line) (has_buffer line) off)) ∙ off)

last_on : (link waits buffer room : Bool) → (link && (waits && (buffer && room))) ≡ true → room ≡ true
last_on true true true room on = on
last_on true true false room on = absurd (true≢false (sym on))
last_on true false buffer room on = absurd (true≢false (sym on))
last_on false waits buffer room on = absurd (true≢false (sym on))

pub none_taken_behind : (pdu : List ℕ) (line : Line) → can_take_pdu line ≡ true → NoCommand line → NoCommand (take_pdu pdu line)
none_taken_behind pdu line can (inr none) = inr (ap next_command (kept_at line.link (with_pdu pdu line)) ∙ none)
none_taken_behind pdu line can (inl off) = absurd (true≢false (sym (last_on (is_some line.link) (not (is_waiting line)) (has_buffer line) (has_room line) can) ∙ off))

-- ---- one command goes out

behind_one : (line : Line) (command : HostCommand) → NoCommand (with_next (Some command) line)
behind_one line command = inr refl

pub command_again : (line : Line) → put_command (put_command line) ≡ put_command line
command_again line = by (has_room line) (next_command line.commands) refl refl
  where
    by : (room : Bool) (next : Option HostCommand) → has_room line ≡ room → next_command line.commands ≡ next → (let after : Line = if room then with_next next line else line in put_command after ≡ after)
    by false next room_is next_is = none_put line (inl room_is)
    by true None room_is next_is = none_put line (inr next_is)
    by true (Some command) room_is next_is = none_put (with_next (Some command) line) (behind_one line command)
