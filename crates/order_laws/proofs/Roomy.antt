-- Where room is left, a command that goes out behind the first PDU of a round is all that differs.
use Rattle.std.proofs.Common.{◌≡◌, ◌∙◌, ◌≤◌, ◌<◌, ◌&&◌, ◌||◌, nat_lt, ℕ, suc, Bool, true, false, is_none, List, [], ◌∷◌, ◌++◌, length, refl, sym, ap, subst, inr, length-append, append-nil, arith, tests, if◌then◌else◌}
use Rattle.std.specs.Prelude.{Option, Some, None}
use Rattle.bt_host.specs.shelf_model.specs.h4_framing.specs.Packets.{spelling}
use Rattle.bt_host.specs.channel_model.specs.Giving.{next_given}
use Rattle.bt_host.specs.host_link.specs.declared.host_command.HostCommand.{HostCommand}
use Rattle.bt_host.specs.host_link.specs.declared.host_command.HostCommand.TheVariants.{CreateConnection, Disconnect}
use Rattle.bt_host.specs.host_link.specs.CommandFlows.{Flow, with_command, first_of, next_command, after_command}
use Rattle.bt_host.specs.host_link.specs.HostCommands.{asks, command_packet}
use Rattle.bt_host.specs.host_link.specs.Lines.{Line}
use Rattle.bt_host.specs.host_link.specs.PuttingOut.{has_room, can_take_pdu, take_pdu, put_pieces, with_next, put_command, connecting, leaving}
use Rattle.bt_host.specs.host_model.specs.Hosts.{Host, hears_news, most_steps, ready, steps_behind}
use Rattle.bt_host.specs.host_model.specs.Profiles.{Profile}
use Rattle.bt_host.specs.Stacks.{Standing, goes_out, leaves, leaves_now, pages, pages_now, says_all, says_up_to, with_host, with_line}
use Rattle.order_laws.specs.Differing.{with_out, DiffersInPlace, RoomSuffices}
use Rattle.order_laws.specs.Rounds.{EndsInRounds, Midway, given_alone, midway_at, midway_told, on_line, says_given, steps_on, with_given}
use Rattle.order_laws.proofs.Lines.{NoCommand, none_put, puts_none, pieces_again, taken_again, command_again}
use Rattle.order_laws.proofs.Rounds.{on_if, asked, drives_asked, asked_may, has_pdu, led, led_waiting, step_leads, step_alike, given_so, says_one_more, first_round, rounds_end}
use Rattle.order_laws.proofs.Shifting.{Follows, pieces_follow, taken_follows, says_follow, shifted, Fits, Shifts, put_shifts, StandsShifted, says_shift}

-- ---- the end of the link, and a link

next_grows : (next : Option HostCommand) (line : Line) → length line.out ≤ length (with_next next line).out
next_grows None line = omega arith
next_grows (Some command) line = let long = length-append line.out (spelling (command_packet command)) in omega (arith, long)

put_grows : (line : Line) → length line.out ≤ length (put_command line).out
put_grows line = by (has_room line)
  where
    by : (room : Bool) → length line.out ≤ length (let after : Line = if room then with_next (next_command line.commands) line else line in after.out)
    by true = next_grows (next_command line.commands) line
    by false = omega arith

-- a line with other octets, and where a command is awaited
record IsSame (octets : List ℕ) (old new changed : Line) : Type 0 where
  out : new.out ≡ old.out
  awaited : new.commands.awaited ≡ old.commands.awaited
  changed_is : changed ≡ record new { out = octets }

awaited_by : (command : HostCommand) (flow : Flow) → (with_command command flow).awaited ≡ flow.awaited
awaited_by command flow = by (nat_lt (length flow.waiting) 8)
  where
    by : (few : Bool) → (let after : Flow = if few then record flow { waiting = flow.waiting ++ command ∷ [] } else flow in after.awaited) ≡ flow.awaited
    by true = refl
    by false = refl

leaving_same : (octets : List ℕ) (link : Option ℕ) (line : Line) → IsSame octets line (leaving link line) (leaving link (record line { out = octets }))
leaving_same octets None line = record { out = refl; awaited = refl; changed_is = refl }
leaving_same octets (Some handle) line = by line.ending
  where
    by : (ending : Bool) → IsSame octets line (if ending then line else record line { commands = with_command (Disconnect handle) line.commands; ending = true }) (if ending then record line { out = octets } else record line { commands = with_command (Disconnect handle) line.commands; ending = true; out = octets })
    by true = record { out = refl; awaited = refl; changed_is = refl }
    by false = record { out = refl; awaited = awaited_by (Disconnect handle) line.commands; changed_is = refl }

none_next : (flow : Flow) → is_none flow.awaited ≡ false → next_command flow ≡ None
none_next flow off = ap (λ (b : Bool). if b && nat_lt 0 flow.number then first_of flow.waiting else None) off

module _ {S : Type 0} (A : Profile S) where
  record StandsSame (octets : List ℕ) (old new changed : Standing S) : Type 0 where
    out : new.line.out ≡ old.line.out
    awaited : new.line.commands.awaited ≡ old.line.commands.awaited
    changed_is : changed ≡ with_out octets new

  leaves_same : (octets : List ℕ) (now : Standing S) → StandsSame octets now (leaves A now) (leaves A (with_out octets now))
  leaves_same octets now = by (leaves_now A now)
    where
      by : (test : Bool) → StandsSame octets now (if test then with_line (λ line. leaving line.link line) now else now) (if test then with_line (λ line. leaving line.link line) (with_out octets now) else with_out octets now)
      by false = record { out = refl; awaited = refl; changed_is = refl }
      by true = let same = leaving_same octets now.line.link now.line in record { out = same.out; awaited = same.awaited; changed_is = ap (λ (line : Line). record now { line = line }) same.changed_is }

  pages_same : (octets : List ℕ) (now : Standing S) → StandsSame octets now (pages A now) (pages A (with_out octets now))
  pages_same octets now = by (pages_now A now)
    where
      by : (test : Bool) → StandsSame octets now (if test then with_line (connecting now.paged) now else now) (if test then with_line (connecting now.paged) (with_out octets now) else with_out octets now)
      by false = record { out = refl; awaited = refl; changed_is = refl }
      by true = record { out = refl; awaited = awaited_by (CreateConnection now.paged) now.line.commands; changed_is = refl }

  -- what comes behind the PDUs and the command
  abbrev ends : Standing S → Standing S
  ends now = with_line put_command (pages A (leaves A now))

  ends_grow : (now : Standing S) → length now.line.out ≤ length (ends now).line.out
  ends_grow now =
      let one = ap length (leaves_same [] now).out in
      let two = ap length (pages_same [] (leaves A now)).out in
      let three = put_grows (pages A (leaves A now)).line in
      omega (arith, one, two, three)

  ends_same : (octets : List ℕ) (now : Standing S) → is_none now.line.commands.awaited ≡ false → StandsSame octets now (ends now) (ends (with_out octets now))
  ends_same octets now awaited =
      let one = leaves_same octets now in
      let gone = leaves A now in
      let two = pages_same octets gone in
      let last = pages A gone in
      let still : is_none last.line.commands.awaited ≡ false = ap is_none (two.awaited ∙ one.awaited) ∙ awaited in
      let here : put_command last.line ≡ last.line = none_put last.line (inr (none_next last.line.commands still)) in
      let there : put_command (record last.line { out = octets }) ≡ record last.line { out = octets } = none_put (record last.line { out = octets }) (inr (none_next last.line.commands still)) in
      record {
        out = ap (λ (line : Line). line.out) here ∙ (two.out ∙ one.out);
        awaited = ap (λ (line : Line). line.commands.awaited) here ∙ (two.awaited ∙ one.awaited);
        changed_is =
            ap (λ (n : Standing S). with_line put_command (pages A n)) one.changed_is
            ∙ (ap (with_line put_command) two.changed_is
            ∙ (ap (λ (line : Line). record last { line = line }) there ∙ ap (λ (line : Line). record last { line = record line { out = octets } }) (sym here)));
      }

  -- ---- the first PDU of a round

  record OneSaid (old mid : Midway S) : Type 0 where
    follows : Follows old.now.line mid.now.line
    again : put_pieces mid.now.line ≡ mid.now.line
    order : says_all A (led A old) ≡ says_all A (led A mid)

  none_said : (old mid : Midway S) → put_pieces old.now.line ≡ old.now.line → mid ≡ old → OneSaid old mid
  none_said old mid none is = subst (OneSaid old) (sym is) (record { follows = record { commands = refl; asked = refl; more = omega arith }; again = none; order = refl })

  one_said : (old : Midway S) → put_pieces old.now.line ≡ old.now.line → OneSaid old (says_given A old)
  one_said old none = by (can_take_pdu old.now.line) (given_alone A (next_given old.now.host.channels) old.now.host.may_say old.now.host) refl refl
    where
      by : (can : Bool) (gave : Option (List ℕ × Host S)) → can_take_pdu old.now.line ≡ can → given_alone A (next_given old.now.host.channels) old.now.host.may_say old.now.host ≡ gave → OneSaid old (says_given A old)
      by false gave can_is gave_is =
          none_said old (says_given A old) none (ap (λ (b : Bool). if b then with_given (given_alone A (next_given old.now.host.channels) old.now.host.may_say old.now.host) old else old) can_is)
      by true None can_is gave_is = none_said old (says_given A old) none (on_if (can_take_pdu old.now.line) _ old can_is ∙ ap (λ (s : Option (List ℕ × Host S)). with_given s old) gave_is)
      by true (Some (pdu, after)) can_is gave_is =
          let so = given_so A (next_given old.now.host.channels) old.now.host.may_say old.now.host after pdu gave_is in
          let steps = steps_behind after.may_say in
          let mid : Midway S = record { now = record old.now { line = take_pdu pdu old.now.line; host = after }; steps = steps } in
          let is : says_given A old ≡ mid = on_if (can_take_pdu old.now.line) _ old can_is ∙ ap (λ (s : Option (List ℕ × Host S)). with_given s old) gave_is in
          subst (OneSaid old) (sym is) (record {
            follows = taken_follows pdu old.now.line;
            again = taken_again pdu old.now.line;
            order =
                ap (λ (h : Host S). says_all A (with_host h old.now)) (has_pdu A old.steps old.now.host so.has)
                ∙ (ap (λ (n : ℕ). says_up_to A n old.now) so.may
                ∙ (says_one_more A after.may_say old.now (asked A steps after) pdu can_is so.next_is
                ∙ ap (λ (n : ℕ). says_up_to A n (led A mid)) (sym (asked_may A steps after))));
          })

  -- ---- all of it

  has_as : (one other : Line) → length one.out ≤ length other.out → has_room other ≡ true → has_room one ≡ true
  has_as one other more room = grind (arith, tests, more, room)

  few_of : (line : Line) → has_room line ≡ true → length line.out < 65536
  few_of line room = grind (arith, tests, room)

  puts : (command : HostCommand) (line : Line) → has_room line ≡ true → next_command line.commands ≡ Some command → put_command line ≡ with_next (Some command) line
  puts command line room is = ap (λ (b : Bool). if b then with_next (next_command line.commands) line else line) room ∙ ap (λ (next : Option HostCommand). with_next next line) is

  -- a command may go out, and room is left
  module _ (old : Midway S) (room : has_room (goes_out A (led A old)).line ≡ true) (command : HostCommand) (is : next_command old.now.line.commands ≡ Some command) where
    abbrev begun : Midway S
    begun = on_line put_pieces old

    abbrev mid : Midway S
    mid = says_given A begun

    abbrev line : Line
    line = mid.now.line

    -- where one order goes on from, and where its PDUs end
    abbrev onward : Standing S
    onward = led A mid

    abbrev said : Standing S
    said = says_all A onward

    abbrev early : List ℕ
    early = spelling (command_packet command)

    abbrev flow : Flow
    flow = after_command (Some command) line.commands

    abbrev asked_then : Bool
    asked_then = line.asked || asks command

    one : OneSaid begun mid
    one = one_said begun (pieces_again old.now.line)

    follow : Follows line said.line
    follow = says_follow A onward.host.may_say onward

    next_is : next_command line.commands ≡ Some command
    next_is = ap next_command (one.follows.commands ∙ (pieces_follow old.now.line).commands) ∙ is

    same : goes_out A (led A old) ≡ ends (with_line put_command said)
    same = ap (λ (n : Standing S). ends (with_line put_command n)) one.order

    -- ---- there is room at each moment

    command_room : has_room (put_command said.line) ≡ true
    command_room = has_as (put_command said.line) (ends (with_line put_command said)).line (ends_grow (with_line put_command said)) (ap (λ (n : Standing S). has_room n.line) (sym same) ∙ room)

    said_room : has_room said.line ≡ true
    said_room = has_as said.line (put_command said.line) (put_grows said.line) command_room

    put_said : put_command said.line ≡ with_next (Some command) said.line
    put_said = puts command said.line said_room (ap next_command follow.commands ∙ next_is)

    fits : Fits line.out early flow asked_then said.line
    fits =
        let few = few_of (put_command said.line) command_room in
        let long = ap (λ (l : Line). length l.out) put_said ∙ length-append said.line.out early in
        omega (arith, few, long)

    line_fits : Fits line.out early flow asked_then line
    line_fits = let more = follow.more in omega (arith, fits, more)

    -- ---- the command goes out behind the first PDU

    first_put : put_command line ≡ shifted line.out early flow asked_then [] line
    first_put =
        puts command line (has_as line said.line follow.more said_room) next_is
        ∙ ap (λ (o : List ℕ). record line { commands = flow; asked = asked_then; out = line.out ++ o }) (sym (append-nil early))

    put : Shifts line.out early flow asked_then (put_pieces line) (put_pieces (shifted line.out early flow asked_then [] line))
    put = put_shifts line.out early flow asked_then [] line (sym (append-nil line.out)) (subst (Fits line.out early flow asked_then) (sym one.again) line_fits)

    put_is : put_pieces (shifted line.out early flow asked_then [] line) ≡ shifted line.out early flow asked_then put.back line
    put_is = put.new_is ∙ ap (shifted line.out early flow asked_then put.back) one.again

    shift : StandsShifted line.out early flow asked_then said (says_up_to A onward.host.may_say (with_line (shifted line.out early flow asked_then put.back) onward))
    shift = says_shift line.out early flow asked_then A onward.host.may_say put.back onward (sym (ap (λ (l : Line). l.out) one.again) ∙ put.out_is) fits

    abbrev behind : Midway S
    behind = steps_on A (on_line put_command mid)

    led_is : led A behind ≡ with_line (shifted line.out early flow asked_then []) onward
    led_is = step_leads A mid.steps (with_line put_command mid.now) ∙ ap (λ (l : Line). record onward { line = l }) first_put

    free : NoCommand behind.now.line
    free = subst NoCommand (sym (step_alike A mid.steps (with_line put_command mid.now)).line) (puts_none (put_command line) (command_again line))

    -- ---- the same in another place

    abbrev octets : List ℕ
    octets = line.out ++ (early ++ shift.back)

    abbrev plain : Standing S
    plain = with_line (with_next (Some command)) said

    moved : with_line (shifted line.out early flow asked_then shift.back) said ≡ with_out octets plain
    moved =
        ap (λ (f : Flow). record said { line = record said.line { commands = after_command (Some command) f; asked = asked_then; out = octets } }) (sym follow.commands)
        ∙ ap (λ (b : Bool). record said { line = record said.line { commands = after_command (Some command) said.line.commands; asked = b || asks command; out = octets } }) (sym follow.asked)

    still : put_command (record plain.line { out = octets }) ≡ record plain.line { out = octets }
    still = none_put (record plain.line { out = octets }) (inr refl)

    other_is : goes_out A (led A behind) ≡ ends (with_out octets plain)
    other_is =
        ap (goes_out A) led_is
        ∙ (ap (λ (l : Line). ends (with_line put_command (says_all A (record onward { line = l })))) put_is
        ∙ (ap (λ (n : Standing S). ends (with_line put_command n)) (shift.new_is ∙ moved) ∙ ap (λ (l : Line). ends (record plain { line = l })) still))

    one_is : goes_out A (led A old) ≡ ends plain
    one_is = same ∙ ap (λ (l : Line). ends (record said { line = l })) put_said

    last : StandsSame octets plain (ends plain) (ends (with_out octets plain))
    last = ends_same octets plain refl

    places : (other : Standing S) × EndsInRounds A old other × DiffersInPlace (Some command) (goes_out A (led A old)) other
    places =
        let rounds = rounds_end A behind free in (
          goes_out A (led A behind),
          record { count = suc rounds.count; last = rounds.last; rounds = first_round A rounds.count old ∙ rounds.rounds; still = rounds.still; behind = rounds.behind },
          record {
            front = line.out;
            back = shift.back;
            one_is = ap (λ (n : Standing S). n.line.out) one_is ∙ (last.out ∙ ap (λ (o : List ℕ). o ++ early) shift.out_is);
            other_is = other_is ∙ (last.changed_is ∙ ap (with_out octets) (sym one_is));
          },
        )

  abbrev Placed : Midway S → Standing S → Type 0
  Placed old one = has_room one.line ≡ true → (other : Standing S) × EndsInRounds A old other × DiffersInPlace (next_command old.now.line.commands) one other

  suffices : (old : Midway S) → Placed old (goes_out A (led A old))
  suffices old room = by (next_command old.now.line.commands) refl
    where
      by : (next : Option HostCommand) → next_command old.now.line.commands ≡ next → (other : Standing S) × EndsInRounds A old other × DiffersInPlace next (goes_out A (led A old)) other
      by (Some command) is = places old room command is
      by None is =
          let one = goes_out A (led A old) in
          let out = one.line.out in
          (one, rounds_end A old (inr is), record { front = out; back = []; one_is = sym (append-nil (out ++ []) ∙ append-nil out); other_is = ap (λ (o : List ℕ). with_out o one) (sym (append-nil out)) })

pub room_suffices : {S : Type 0} → RoomSuffices S
room_suffices {S} A rest None now = subst (λ (s : Standing S). Placed A (midway_at now) (goes_out A s)) (led_waiting A now) (suffices A (midway_at now))
room_suffices {S} A rest (Some news) now =
    subst (λ (host : Host S). Placed A (midway_told A rest (Some news) now) (goes_out A (with_host host now))) (sym (drives_asked A most_steps (hears_news A rest news (ready A rest now.host))))
    (suffices A (midway_told A rest (Some news) now))
