-- A host that has put out what it may has done all that it can.
use Rattle.std.proofs.Common.{◌≡◌, ◌∙◌, ◌⊎◌, inl, inr, ◌≤◌, ◌<◌, ◌+◌, ◌&&◌, ◌||◌, ◌==◌, not, nat_lt, ℕ, Bool, true, false, is_some, is_none, List, [], ◌∷◌, ◌++◌, length, drop, refl, sym, ap, subst, true≢false, length-append, arith, tests, if◌then◌else◌}
use Rattle.std.specs.Prelude.{Option, Some, None}
use Rattle.std.specs.List.{list_any}
use Rattle.shelf_model.specs.acl_fragments.specs.Pieces.{Piece}
use Rattle.host_link.specs.declared.host_command.HostCommand.{HostCommand}
use Rattle.host_link.specs.declared.host_command.HostCommand.TheVariants.{CreateConnection, Disconnect}
use Rattle.host_link.specs.HostCommands.{asks}
use Rattle.host_link.specs.Calling.{may_end, ends}
use Rattle.host_link.specs.CommandFlows.{Flow, with_command, first_of, next_command}
use Rattle.host_link.specs.Lines.{Line}
use Rattle.host_link.specs.PuttingOut.{has_room, has_buffer, is_waiting, with_piece, with_pieces, put_pieces_on, put_pieces, with_next, put_command, connecting, leaving, can_take_pdu, with_pdu, take_pdu}
use Rattle.bt_base.specs.declared.settings.Settings.{Settings}
use Rattle.shelf_model.specs.host_model.specs.Circumstances.{Circumstance}
use Rattle.shelf_model.specs.host_model.specs.Profiles.{Profile}
use Rattle.shelf_model.specs.host_model.specs.Hosts.{Host, has_more}
use Rattle.bt_host.specs.Uppers.{Upward, asking, says}
use Rattle.bt_host.specs.Stacks.{Stacked, Standing, standing, HasSaid, Rests, KeepsLink, AsksForLink, IsLeft, IsPaged, is_asking, can_put_piece}

either : (P : Line → Type 0) (test : Bool) (a b : Line) → P a → P b → P (if test then a else b)
either P true a b first second = first
either P false a b first second = second

-- ---- pieces

abbrev MayGo : Line → Bool
MayGo line = (has_room line && has_buffer line) && is_waiting line

last_off : (a b : Bool) → b ≡ false → (a && b) ≡ false
last_off true b off = off
last_off false b off = refl

first_off : (a b : Bool) → a ≡ false → (a && b) ≡ false
first_off a b off = ap (λ (x : Bool). x && b) off

stops_if : (test : Bool) (line next : Line) → (has_room line && has_buffer line) ≡ test → MayGo next ≡ false → MayGo (if test then next else line) ≡ false
stops_if true line next is stop = stop
stops_if false line next is stop = first_off (has_room line && has_buffer line) (is_waiting line) is

stops_on : (handle : ℕ) (pieces : List Piece) (line : Line) → line.pieces ≡ pieces → MayGo (with_pieces handle pieces line) ≡ false
stops_on handle [] line are = last_off (has_room line && has_buffer line) (is_waiting line) (ap (λ (pieces : List Piece). not (length pieces == 0)) are)
stops_on handle (piece ∷ rest) line are = stops_if (has_room line && has_buffer line) line (with_pieces handle rest (with_piece handle piece rest line)) refl (stops_on handle rest (with_piece handle piece rest line) refl)

none_goes_at : (link : Option ℕ) (line : Line) → line.link ≡ link → can_put_piece (put_pieces_on link line) ≡ false
none_goes_at None line is = first_off (is_some line.link) (MayGo line) (ap is_some is)
none_goes_at (Some handle) line is = last_off (is_some (with_pieces handle line.pieces line).link) (MayGo (with_pieces handle line.pieces line)) (stops_on handle line.pieces line refl)

-- behind pieces that were put out none can be put out
pub none_goes : (line : Line) → can_put_piece (put_pieces line) ≡ false
none_goes line = none_goes_at line.link line refl

pub none_goes_then : (old new : Line) → new ≡ put_pieces old → can_put_piece new ≡ false
none_goes_then old new is = ap can_put_piece is ∙ none_goes old

-- nor behind a PDU that was taken
pub none_goes_behind : (pdu : List ℕ) (old new : Line) → new ≡ take_pdu pdu old → can_put_piece new ≡ false
none_goes_behind pdu old new is = ap can_put_piece is ∙ none_goes (with_pdu pdu old)

middle_off : (a b : Bool) → (a && b) ≡ false → b ≡ true → a ≡ false
middle_off true b off on = absurd (true≢false (sym on ∙ off))
middle_off false b off on = refl

stays_on : (handle : ℕ) (pieces : List Piece) (line : Line) → line.pieces ≡ pieces → MayGo line ≡ false → with_pieces handle pieces line ≡ line
stays_on handle [] line are off = refl
stays_on handle (piece ∷ rest) line are off =
    let some : not (length (piece ∷ rest) == 0) ≡ true = grind (arith, tests) in
    let waits : is_waiting line ≡ true = ap (λ (pieces : List Piece). not (length pieces == 0)) are ∙ some in
    ap (λ (b : Bool). if b then with_pieces handle rest (with_piece handle piece rest line) else line) (middle_off (has_room line && has_buffer line) (is_waiting line) off waits)

stays_at : (link : Option ℕ) (line : Line) → (is_some link && MayGo line) ≡ false → put_pieces_on link line ≡ line
stays_at None line off = refl
stays_at (Some handle) line off = stays_on handle line.pieces line refl off

pub stays_put : (line : Line) → can_put_piece line ≡ false → put_pieces line ≡ line
stays_put line off = stays_at line.link line off

-- ---- what commands do not change

-- the same link and packets, and more octets
record Follows (old new : Line) : Type 0 where
  pub link : new.link ≡ old.link
  pub pieces : new.pieces ≡ old.pieces
  pub buffer : has_buffer new ≡ has_buffer old
  pub room : has_room new ≡ true → has_room old ≡ true

follows_same : (line : Line) → Follows line line
follows_same line = record { link = refl; pieces = refl; buffer = refl; room = λ on. on }

follows_then : (a b c : Line) → Follows a b → Follows b c → Follows a c
follows_then a b c f g = record { link = g.link ∙ f.link; pieces = g.pieces ∙ f.pieces; buffer = g.buffer ∙ f.buffer; room = λ on. f.room (g.room on) }

less_room : (out more : List ℕ) → nat_lt (length (out ++ more)) 65536 ≡ true → nat_lt (length out) 65536 ≡ true
less_room out more on = let long = length-append out more in grind (arith, tests, on, long)

next_follows : (next : Option HostCommand) (line : Line) → Follows line (with_next next line)
next_follows None line = follows_same line
next_follows (Some command) line = record { link = refl; pieces = refl; buffer = refl; room = λ on. less_room line.out _ on }

command_follows : (line : Line) → Follows line (put_command line)
command_follows line = either (λ (l : Line). Follows line l) (has_room line) (with_next (next_command line.commands) line) line (next_follows (next_command line.commands) line) (follows_same line)

leaving_at : (link : Option ℕ) (line : Line) → Follows line (leaving link line)
leaving_at None line = follows_same line
leaving_at (Some handle) line = either (λ (l : Line). Follows line l) line.ending line _ (follows_same line) (record { link = refl; pieces = refl; buffer = refl; room = λ on. on })

left_follows : (old new : Line) → IsLeft old new → Follows old new
left_follows old new (inl same) = subst (λ (l : Line). Follows old l) (sym same) (follows_same old)
left_follows old new (inr left) = subst (λ (l : Line). Follows old l) (sym left) (leaving_at old.link old)

paged_follows : (paged : List ℕ) (old new : Line) → IsPaged paged old new → Follows old new
paged_follows paged old new (inl same) = subst (λ (l : Line). Follows old l) (sym same) (follows_same old)
paged_follows paged old new (inr (off, asked)) = subst (λ (l : Line). Follows old l) (sym asked) (record { link = refl; pieces = refl; buffer = refl; room = λ on. on })

no_more_goes : (some old new buffer waits : Bool) → (new ≡ true → old ≡ true) → (some && ((old && buffer) && waits)) ≡ false → (some && ((new && buffer) && waits)) ≡ false
no_more_goes some old false buffer waits room off = last_off some false refl
no_more_goes some false true buffer waits room off = absurd (true≢false (sym (room refl)))
no_more_goes some true true buffer waits room off = off

-- no piece can be put out then, where none could
still_none : (old new : Line) → Follows old new → can_put_piece old ≡ false → can_put_piece new ≡ false
still_none old new f off =
    let first = no_more_goes (is_some old.link) (has_room old) (has_room new) (has_buffer old) (is_waiting old) f.room off in
    ap (λ (l : Option ℕ). is_some l && ((has_room new && has_buffer new) && is_waiting new)) f.link
    ∙ ap (λ (b : Bool). is_some old.link && ((has_room new && b) && is_waiting new)) f.buffer
    ∙ ap (λ (ps : List Piece). is_some old.link && ((has_room new && has_buffer old) && not (length ps == 0))) f.pieces
    ∙ first

more_room : (some old new buffer waits : Bool) → (new ≡ true → old ≡ true) → (some && (not waits && (buffer && new))) ≡ true → (some && (not waits && (buffer && old))) ≡ true
more_room some old true buffer waits room on = ap (λ (b : Bool). some && (not waits && (buffer && b))) (room refl) ∙ on
more_room true old false true true room on = on
more_room true old false true false room on = absurd (true≢false (sym on))
more_room true old false false true room on = on
more_room true old false false false room on = on
more_room false old false buffer waits room on = on

-- a PDU could be taken before, where one can be taken then
could_before : (old new : Line) → Follows old new → can_take_pdu new ≡ true → can_take_pdu old ≡ true
could_before old new f on =
    more_room (is_some old.link) (has_room old) (has_room new) (has_buffer old) (is_waiting old) f.room
    (sym (ap (λ (l : Option ℕ). is_some l && (not (is_waiting new) && (has_buffer new && has_room new))) f.link
    ∙ ap (λ (b : Bool). is_some old.link && (not (is_waiting new) && (b && has_room new))) f.buffer
    ∙ ap (λ (ps : List Piece). is_some old.link && (not (not (length ps == 0)) && (has_buffer old && has_room new))) f.pieces) ∙ on)

-- ---- commands

-- a command may go out, if there is one
abbrev is_free : Line → Bool
is_free line = has_room line && (is_none line.commands.awaited && nat_lt 0 line.commands.number)

abbrev first_on : Bool → List HostCommand → Option HostCommand
first_on free waiting = if free then first_of waiting else None

none_on : (free : Bool) (waiting : List HostCommand) → waiting ≡ [] → first_on free waiting ≡ None
none_on true waiting none = ap first_of none
none_on false waiting none = refl

stuck_by : (room free : Bool) (line : Line) (waiting : List HostCommand) → (room && free) ≡ false → (if room then with_next (first_on free waiting) line else line) ≡ line
stuck_by true false line waiting stuck = refl
stuck_by true true line waiting stuck = absurd (true≢false stuck)
stuck_by false free line waiting stuck = refl

stuck_stays : (line : Line) → is_free line ≡ false → put_command line ≡ line
stuck_stays line stuck = stuck_by (has_room line) (is_none line.commands.awaited && nat_lt 0 line.commands.number) line line.commands.waiting stuck

empty_stays : (line : Line) → line.commands.waiting ≡ [] → put_command line ≡ line
empty_stays line none =
    ap (λ (next : Option HostCommand). if has_room line then with_next next line else line) (none_on (is_none line.commands.awaited && nat_lt 0 line.commands.number) line.commands.waiting none)
    ∙ either (λ (l : Line). l ≡ line) (has_room line) line line refl refl

-- none can be put out, or none waits
abbrev IsDone : Line → Type 0
IsDone line = (is_free line ≡ false) ⊎ (line.commands.waiting ≡ [])

done_by : (room free : Bool) (line : Line) (waiting : List HostCommand) → has_room line ≡ room → (is_none line.commands.awaited && nat_lt 0 line.commands.number) ≡ free → line.commands.waiting ≡ waiting
    → IsDone (if room then with_next (first_on free waiting) line else line)
done_by false free line waiting room_is free_is waiting_is = inl (first_off (has_room line) (is_none line.commands.awaited && nat_lt 0 line.commands.number) room_is)
done_by true false line waiting room_is free_is waiting_is = inl (last_off (has_room line) (is_none line.commands.awaited && nat_lt 0 line.commands.number) free_is)
done_by true true line [] room_is free_is waiting_is = inr waiting_is
done_by true true line (command ∷ rest) room_is free_is waiting_is = inl (last_off (has_room (with_next (Some command) line)) false refl)

command_done : (line : Line) → IsDone (put_command line)
command_done line = done_by (has_room line) (is_none line.commands.awaited && nat_lt 0 line.commands.number) line line.commands.waiting refl refl refl

done_stays : (line : Line) → IsDone line → put_command line ≡ line
done_stays line (inl stuck) = stuck_stays line stuck
done_stays line (inr none) = empty_stays line none

-- ---- one more command waits

record Adds (old new : Line) : Type 0 where
  pub free : is_free new ≡ is_free old
  pub few : length new.commands.waiting ≤ length old.commands.waiting + 1

adds_none : (line : Line) → Adds line line
adds_none line = record { free = refl; few = omega arith }

few_by : (test : Bool) (command : HostCommand) (flow : Flow) → length (let f : Flow = if test then record flow { waiting = flow.waiting ++ command ∷ [] } else flow in f.waiting) ≤ length flow.waiting + 1
few_by true command flow = let long = length-append flow.waiting (command ∷ []) in omega (arith, long)
few_by false command flow = omega arith

awaited_by : (test : Bool) (command : HostCommand) (flow : Flow) → (let f : Flow = if test then record flow { waiting = flow.waiting ++ command ∷ [] } else flow in is_none f.awaited && nat_lt 0 f.number) ≡ (is_none flow.awaited && nat_lt 0 flow.number)
awaited_by true command flow = refl
awaited_by false command flow = refl

connecting_adds : (paged : List ℕ) (line : Line) → Adds line (connecting paged line)
connecting_adds paged line = record {
  free = ap (λ (b : Bool). has_room line && b) (awaited_by (nat_lt (length line.commands.waiting) 8) (CreateConnection paged) line.commands);
  few = few_by (nat_lt (length line.commands.waiting) 8) (CreateConnection paged) line.commands;
}

leaving_adds_by : (ending : Bool) (handle : ℕ) (line : Line) → Adds line (if ending then line else record line { commands = with_command (Disconnect handle) line.commands; ending = true })
leaving_adds_by true handle line = adds_none line
leaving_adds_by false handle line = record {
  free = ap (λ (b : Bool). has_room line && b) (awaited_by (nat_lt (length line.commands.waiting) 8) (Disconnect handle) line.commands);
  few = few_by (nat_lt (length line.commands.waiting) 8) (Disconnect handle) line.commands;
}

leaving_adds_at : (link : Option ℕ) (line : Line) → Adds line (leaving link line)
leaving_adds_at None line = adds_none line
leaving_adds_at (Some handle) line = leaving_adds_by line.ending handle line

left_adds : (old new : Line) → IsLeft old new → Adds old new
left_adds old new (inl same) = subst (λ (l : Line). Adds old l) (sym same) (adds_none old)
left_adds old new (inr left) = subst (λ (l : Line). Adds old l) (sym left) (leaving_adds_at old.link old)

paged_adds : (paged : List ℕ) (old new : Line) → IsPaged paged old new → Adds old new
paged_adds paged old new (inl same) = subst (λ (l : Line). Adds old l) (sym same) (adds_none old)
paged_adds paged old new (inr (off, asked)) = subst (λ (l : Line). Adds old l) (sym asked) (connecting_adds paged old)

-- ---- a link that was to be ended

ended_by : (ending : Bool) (handle : ℕ) (line : Line) → line.ending ≡ ending → (let l : Line = if ending then line else record line { commands = with_command (Disconnect handle) line.commands; ending = true } in (l ≡ line) ⊎ (l.ending ≡ true))
ended_by true handle line is = inl refl
ended_by false handle line is = inr refl

ended_at : (link : Option ℕ) (line : Line) → (leaving link line ≡ line) ⊎ ((leaving link line).ending ≡ true)
ended_at None line = inl refl
ended_at (Some handle) line = ended_by line.ending handle line refl

left_ended : (old new : Line) → IsLeft old new → (new ≡ old) ⊎ (new.ending ≡ true)
left_ended old new (inl same) = inl same
left_ended old new (inr left) = subst (λ (l : Line). (l ≡ old) ⊎ (l.ending ≡ true)) (sym left) (ended_at old.link old)

next_ending : (next : Option HostCommand) (line : Line) → (with_next next line).ending ≡ line.ending
next_ending None line = refl
next_ending (Some command) line = refl

command_ending : (line : Line) → (put_command line).ending ≡ line.ending
command_ending line = either (λ (l : Line). l.ending ≡ line.ending) (has_room line) (with_next (next_command line.commands) line) line (next_ending (next_command line.commands) line) refl

may_not_ended : (line : Line) → line.ending ≡ true → may_end line ≡ false
may_not_ended line ended = last_off (is_some line.link) _ (ap (λ (b : Bool). not b && not (list_any ends line.commands.waiting)) ended)

may_not_off : (line : Line) → line.link ≡ None → may_end line ≡ false
may_not_off line off = ap (λ (l : Option ℕ). is_some l && (not line.ending && not (list_any ends line.commands.waiting))) off

-- ---- a link that is asked for

goes_out : (asked one rest : Bool) → (asked || (one || rest)) ≡ true → ((asked || one) || rest) ≡ true
goes_out true one rest on = refl
goes_out false one rest on = on

asking_by : (room free : Bool) (line : Line) (waiting : List HostCommand) → line.commands.waiting ≡ waiting → is_asking line ≡ true → is_asking (if room then with_next (first_on free waiting) line else line) ≡ true
asking_by false free line waiting is on = on
asking_by true false line waiting is on = on
asking_by true true line [] is on = on
asking_by true true line (command ∷ rest) is on =
    ap (λ (cs : List HostCommand). (line.asked || asks command) || list_any asks (drop 1 cs)) is
    ∙ goes_out line.asked (asks command) (list_any asks rest) (ap (λ (cs : List HostCommand). line.asked || list_any asks cs) (sym is) ∙ on)

still_asking : (line : Line) → is_asking line ≡ true → is_asking (put_command line) ≡ true
still_asking line on = asking_by (has_room line) (is_none line.commands.awaited && nat_lt 0 line.commands.number) line line.commands.waiting refl on

-- ---- all of it

module _ {S : Type 0} (A : Profile S) (paged shown : List ℕ) (said commanded left called last : Line) (host : Host S)
    (first : commanded ≡ put_command said) (leaves : IsLeft commanded left) (pages : IsPaged paged left called) (second : last ≡ put_command called) where
  abbrev at : Line → Standing S
  at line = record { line = line; host = host; paged = shown }

  done : IsDone commanded
  done = subst IsDone (sym first) (command_done said)

  all_follow : Follows said last
  all_follow =
      let one : Follows said commanded = subst (λ (l : Line). Follows said l) (sym first) (command_follows said) in
      let four : Follows called last = subst (λ (l : Line). Follows called l) (sym second) (command_follows called) in
      follows_then said commanded last one (follows_then commanded left last (left_follows commanded left leaves) (follows_then left called last (paged_follows paged left called pages) four))

  same_link : last.link ≡ called.link
  same_link = ap (λ (l : Line). l.link) second ∙ (command_follows called).link

  same_pieces : last.pieces ≡ called.pieces
  same_pieces = ap (λ (l : Line). l.pieces) second ∙ (command_follows called).pieces

  -- the last command changes nothing, or few waited
  stuck_then : is_free commanded ≡ false → last ≡ called
  stuck_then stuck = second ∙ stuck_stays called ((paged_adds paged left called pages).free ∙ (left_adds commanded left leaves).free ∙ stuck)

  few_then : commanded.commands.waiting ≡ [] → length called.commands.waiting < 8
  few_then none =
      let one = (left_adds commanded left leaves).few in
      let two = (paged_adds paged left called pages).few in
      let start : length commanded.commands.waiting ≡ 0 = ap length none in
      omega (arith, one, two, start)

  keeps_called : KeepsLink A (at left) → KeepsLink A (at called)
  keeps_called keeps = elim pages [
    | inl same ↦ subst (λ (l : Line). KeepsLink A (at l)) (sym same) keeps
    | inr called_is ↦ λ none more ends. may_not_off called (ap (λ (l : Line). l.link) called_is.1 ∙ called_is.0)
  ]

  keeps_last : KeepsLink A (at left) → KeepsLink A (at last)
  keeps_last keeps = elim done [
    | inl stuck ↦ subst (λ (l : Line). KeepsLink A (at l)) (sym (stuck_then stuck)) (keeps_called keeps)
    | inr none ↦ elim pages [
      | inr called_is ↦ λ pieces more ends. may_not_off last (same_link ∙ ap (λ (l : Line). l.link) called_is.1 ∙ called_is.0)
      | inl same ↦ elim (left_ended commanded left leaves) [
        | inl unchanged ↦
            let waits : called.commands.waiting ≡ [] = ap (λ (l : Line). l.commands.waiting) (same ∙ unchanged) ∙ none in
            subst (λ (l : Line). KeepsLink A (at l)) (sym (second ∙ empty_stays called waits)) (keeps_called keeps)
        | inr ended ↦ λ pieces more ends. may_not_ended last (ap (λ (l : Line). l.ending) second ∙ command_ending called ∙ ap (λ (l : Line). l.ending) same ∙ ended)
      ]
    ]
  ]

  asks_last : AsksForLink A (at called) → AsksForLink A (at last)
  asks_last asks = elim done [
    | inl stuck ↦ subst (λ (l : Line). AsksForLink A (at l)) (sym (stuck_then stuck)) asks
    | inr none ↦ λ wants off few. ap is_asking second ∙ still_asking called (asks wants (sym same_link ∙ off) (few_then none))
  ]

  pub all_rests : can_put_piece said ≡ false → (can_take_pdu said ≡ true → has_more host ≡ false) → KeepsLink A (at left) → AsksForLink A (at called) → Rests A (at last)
  all_rests none_goes none_more keeps asks = record {
    pieces = stays_put last (still_none said last all_follow none_goes);
    command = ap put_command second ∙ done_stays (put_command called) (command_done called) ∙ sym second;
    said = λ may. none_more (could_before said last all_follow may);
    keeps = keeps_last keeps;
    asks = asks_last asks;
  }

-- what stands above the line stays behind what was said
pub out_rests : {E S P : Type 0} (profile : Settings → Profile S) (pushing : E → P → List Circumstance → S) (settings : Settings) (port : P) (said left called : Stacked E) (first second third last : Line) (upper upper' : Upward E) (paged paged' : List ℕ)
    → record { line = first; upper = upper; paged = paged } ≡ said → HasSaid said → second ≡ put_command first
    → left ≡ record { line = left.line; upper = upper; paged = paged } → IsLeft second left.line → ((rest : List Circumstance) → KeepsLink (profile upper.machine.settings) (standing pushing port left rest))
    → called ≡ record left { line = called.line } → IsPaged left.paged left.line called.line → ((rest : List Circumstance) → AsksForLink (profile left.upper.machine.settings) (standing pushing port called rest))
    → record { line = third; upper = upper'; paged = paged' } ≡ called → last ≡ put_command third → upper.machine.settings ≡ settings
    → (rest : List Circumstance) → Rests (profile settings) (standing pushing port (record { line = last; upper = upper'; paged = paged' }) rest)
out_rests {E} profile pushing settings port said left called first second third last upper upper' paged paged' said_view has_said second_is left_is leaves keeps called_is pages asks called_view last_is same rest =
    let third_is : called.line ≡ third = ap (λ (n : Stacked E). n.line) (sym called_view) in
    let above : called.upper ≡ upper' = ap (λ (n : Stacked E). n.upper) (sym called_view) in
    let left_above : left.upper ≡ upper' = ap (λ (n : Stacked E). n.upper) (sym called_is) ∙ above in
    let said_above : upper' ≡ said.upper = sym left_above ∙ ap (λ (n : Stacked E). n.upper) left_is ∙ ap (λ (n : Stacked E). n.upper) said_view in
    all_rests (profile settings) left.paged paged' first second left.line third last (asking pushing port upper' rest) second_is leaves (subst (λ (l : Line). IsPaged left.paged left.line l) third_is pages) last_is
    (ap (λ (n : Stacked E). can_put_piece n.line) said_view ∙ has_said.pieces)
    (λ may. ap says said_above ∙ has_said.said (sym (ap (λ (n : Stacked E). can_take_pdu n.line) said_view) ∙ may))
    (subst (λ (u : Upward E). KeepsLink (profile settings) (record { line = left.line; host = asking pushing port u rest; paged = paged' })) left_above
    (subst (λ (s : Settings). KeepsLink (profile s) (record { line = left.line; host = asking pushing port left.upper rest; paged = paged' })) same (keeps rest)))
    (subst (λ (l : Line). AsksForLink (profile settings) (record { line = l; host = asking pushing port upper' rest; paged = paged' })) third_is
    (subst (λ (u : Upward E). AsksForLink (profile settings) (record { line = called.line; host = asking pushing port u rest; paged = paged' })) above
    (subst (λ (s : Settings). AsksForLink (profile s) (record { line = called.line; host = asking pushing port called.upper rest; paged = paged' })) (ap (λ (n : Stacked E). n.upper.machine.settings) left_is ∙ same) (asks rest))))
