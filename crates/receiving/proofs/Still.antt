-- A host that has done all that it can does nothing by itself, also once all that it put out was taken.
use Rattle.std.proofs.Common.{◌≡◌, ◌∙◌, ◌&&◌, not, nat_lt, ℕ, zero, suc, Bool, true, false, is_some, List, [], ◌∷◌, ◌++◌, length, inl, inr, refl, sym, ap, subst, true≢false, length-append, arith, tests, if◌then◌else◌}
use Rattle.std.specs.Prelude.{Option, Some, None}
use Rattle.std.proofs.lemmas.Bool.{cases_lt}
use Rattle.bt_host.specs.host_link.specs.declared.host_command.HostCommand.{HostCommand}
use Rattle.bt_host.specs.host_link.specs.declared.host_command.HostCommand.TheVariants.{CreateConnection}
use Rattle.bt_host.specs.host_link.specs.CommandFlows.{Flow, next_command}
use Rattle.bt_host.specs.host_link.specs.Lines.{Line}
use Rattle.bt_host.specs.host_link.specs.PuttingOut.{has_room, has_buffer, is_waiting, put_pieces, with_next, put_command}
use Rattle.bt_host.specs.channel_model.specs.Giving.{Given, next_given}
use Rattle.bt_host.specs.host_model.specs.Circumstances.{Circumstance}
use Rattle.bt_host.specs.host_model.specs.Profiles.{Profile}
use Rattle.bt_host.specs.host_model.specs.Hosts.{Host, next, says}
use Rattle.bt_host.specs.Stacks.{Standing, Deed, Putting, Saying, Ending, Paging, Commanding, DoesDeed, DoesAll, Rests, can_put_piece}
use Rattle.bt_host.proofs.Resting.{none_goes, stays_put}
use Rattle.receiving.specs.Turns.{Stand, Moves, HasRest, emptied}

abbrev free : Line → Line
free line = record line { out = [] }

-- ---- all was taken

no_longer : (xs : List ℕ) (y : ℕ) (ys : List ℕ) → xs ++ y ∷ ys ≡ xs → ⊥
no_longer xs y ys is = let long = length-append xs (y ∷ ys) in let same = ap (λ (t : List ℕ). length t) is in omega arith

stuck : (next : Option HostCommand) (line : Line) → with_next next line ≡ line → with_next next (free line) ≡ free line
stuck None line is = refl
stuck (Some command) line is = absurd (no_longer line.out _ _ (ap (λ (l : Line). l.out) is))

stuck_if : (room : Bool) (next : Option HostCommand) (line : Line) → room ≡ true → (if room then with_next next line else line) ≡ line → with_next next line ≡ line
stuck_if true next line on is = is
stuck_if false next line on is = absurd (true≢false (sym on))

still_no_command : (line : Line) → has_room line ≡ true → put_command line ≡ line → put_command (free line) ≡ free line
still_no_command line room is = stuck (next_command line.commands) line (stuck_if (has_room line) (next_command line.commands) line room is)

still_no_piece : (line : Line) → has_room line ≡ true → put_pieces line ≡ line → put_pieces (free line) ≡ free line
still_no_piece line room is =
    stays_put (free line)
    (ap (λ (b : Bool). is_some line.link && ((b && has_buffer line) && is_waiting line)) (sym room) ∙ (sym (ap can_put_piece is) ∙ none_goes line))

pub rests_emptied : {S : Type 0} (A : Profile S) (now : Standing S) → Rests A now → has_room now.line ≡ true → Rests A (emptied now)
rests_emptied A now rests room = record {
  pieces = still_no_piece now.line room rests.pieces;
  command = still_no_command now.line room rests.command;
  said = λ may. rests.said (sym (ap (λ (b : Bool). is_some now.line.link && (not (is_waiting now.line) && (has_buffer now.line && b))) (sym room)) ∙ may);
  keeps = rests.keeps;
  asks = rests.asks;
}

pub emptied_same : {S : Type 0} (now : Standing S) → now.line.out ≡ [] → emptied now ≡ now
emptied_same now none = ap (λ (xs : List ℕ). record now { line = record now.line { out = xs } }) (sym none)

-- ---- nothing is done

no_some : {X : Type 0} (x : X) → None ≡ Some x → ⊥
no_some x is = absurd cc

none_said : {S : Type 0} (A : Profile S) (given : Option Given) (count : ℕ) (host : Host S) (said : List ℕ × Host S) → (nat_lt 0 count && is_some given) ≡ false → says A given count host ≡ Some said → ⊥
none_said A None count host said none is = no_some said is
none_said A (Some given) zero host said none is = no_some said is
none_said A (Some given) (suc count) host said none is =
    let on : nat_lt 0 (suc count) ≡ true = grind (arith, tests) in
    true≢false (sym (ap (λ (b : Bool). b && true) on) ∙ none)

full_stays : (few : Bool) (flow : Flow) (command : HostCommand) → few ≡ false → (if few then record flow { waiting = flow.waiting ++ command ∷ [] } else flow) ≡ flow
full_stays true flow command off = absurd (true≢false off)
full_stays false flow command off = refl

one_still : {S : Type 0} (A : Profile S) (deed : Deed) (now after : Standing S) → Rests A now → DoesDeed A deed now after → after ≡ now
one_still A Putting now after rests does = does ∙ ap (λ (l : Line). record now { line = l }) rests.pieces
one_still A (Saying pdu) now after rests does = absurd (none_said A (next_given now.host.channels) now.host.may_say now.host (pdu, after.host) (rests.said does.may) does.next)
one_still A Ending now after rests does = absurd (true≢false (sym does.0.may ∙ rests.keeps does.0.none_waits does.0.all_said does.0.leaves))
one_still A Paging now after rests does = elim (cases_lt (length now.line.commands.waiting) 8) [
  | inl few ↦ absurd (true≢false (sym (rests.asks does.0.wants does.0.off few) ∙ does.0.unasked))
  | inr many ↦
      let off : nat_lt (length now.line.commands.waiting) 8 ≡ false = grind (arith, tests) in
      does.1 ∙ ap (λ (f : Flow). record now { line = record now.line { commands = f } }) (full_stays (nat_lt (length now.line.commands.waiting) 8) now.line.commands (CreateConnection now.paged) off)
]
one_still A Commanding now after rests does = does ∙ ap (λ (l : Line). record now { line = l }) rests.command

all_still : {S : Type 0} (A : Profile S) (deeds : List Deed) (now after : Standing S) → Rests A now → DoesAll A deeds now after → after ≡ now
all_still A [] now after rests does = does
all_still A (deed ∷ deeds) now after rests (mid, does, more) =
    let same : mid ≡ now = one_still A deed now mid rests does in
    all_still A deeds mid after (subst (λ (s : Standing _). Rests A s) (sym same) rests) more ∙ same

pub moves_still : {S : Type 0} (A : Profile S) (before after : Stand S) → HasRest A before → (moves : Moves A before after) → (rest : List Circumstance) → after rest ≡ before (moves.used ++ rest)
moves_still A before after rests moves rest = all_still A moves.deeds (before (moves.used ++ rest)) (after rest) (rests (moves.used ++ rest)) (moves.does rest)
