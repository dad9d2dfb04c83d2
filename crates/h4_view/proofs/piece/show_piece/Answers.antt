use Rattle.std.proofs.Common.{arith}
use Rattle.h4_view.proofs.Showing.{shows_none, shown_packet, shown_rest, shown_refused, room_for_packet}
use Rattle.h4_view.proofs.piece.show_piece.Goals as goal

pub loop-rest-init : goal.loop-rest-init
loop-rest-init c = shows_none _ _ _ _ _ c.requires.sound

pub overflow_add-offset : goal.overflow_add-offset
overflow_add-offset c = omega (arith, c.spelled_length.ensures, c.requires.room, room_for_packet _ _ _ _ _ _ _ _ _ _ _ _ _ _ c.in-Whole.is c.loop-rest.invariant c.take.follows.holds-at-none)

pub loop-rest-preserved : goal.loop-rest-preserved
loop-rest-preserved c = shown_packet _ _ _ _ _ _ _ _ _ _ _ _ _ c.in-Whole.unit c.in-Whole.used _ _ c.in-Whole.is c.loop-rest.invariant c.take.follows.holds-at-none c.spelled_length.ensures
    (record { mid = c.push_line.new.text.items; line = c.in_ok-push_line-in-Whole.ensures; under = c.in_ok-push_details-in-Whole.ensures })

pub returns-in-More : goal.returns-in-More
returns-in-More c = shown_rest _ _ _ _ _ _ _ _ _ _ _ _ c.in-More.is c.loop-rest.invariant c.take.follows.holds-at-none

pub returns-in-Refused : goal.returns-in-Refused
returns-in-Refused c = shown_refused _ _ _ _ _ _ _ _ _ _ _ c.in-Refused.refusal c.in-Refused.place _ c.in-Refused.is c.loop-rest.invariant c.take.follows.holds-at-none
