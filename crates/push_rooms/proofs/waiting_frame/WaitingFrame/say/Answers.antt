use Rattle.std.proofs.Common.{◌≡◌, List, ℕ, take, drop, length, sym, ap, ◌∙◌, subst, length-take-le, arith}
use Rattle.bt_base.specs.Octets.{IsOctets}
use Rattle.rfcomm_model.specs.Saying.{next}
use Rattle.push_rooms.specs.Frames.{said_frame, frame_in, IsWaiting}
use Rattle.push_rooms.proofs.FrameLaws.{none_in, said_fits, said_in, said_waits, whole_room}
use Rattle.push_rooms.proofs.waiting_frame.WaitingFrame.say.Goals as goal

pub returns-in_default-clause-frame : goal.returns-in_default-clause-frame
returns-in_default-clause-frame c = none_in ∙ sym (ap said_frame c.in_default.ensures.none.0)

pub slice_bounds-are_octets-end : goal.slice_bounds-are_octets-end
slice_bounds-are_octets-end c =
    let into = c.next_sdu.new.into in
    let whole : c.deref.result.now ≡ into = c.deref.ensures.value ∙ whole_room c.self.inside.room.len into _ (c.next_sdu.auto.into ∙ c.deref_mut.ensures.len) in
    let fits = said_fits (next c.args.mux.now) c.args.mux.now c.next_sdu.new.self c.in-Some.size c.deref_mut.result.now into c.in-Some.ensures in
    sym (length-take-le c.in-Some.size c.deref.result.now (omega (arith, fits, ap length whole)))

pub invariant_of-self-2 : goal.invariant_of-self-2
invariant_of-self-2 c =
    let into = c.next_sdu.new.into in
    let all = whole_room c.self.inside.room.len into (drop (length into) c.self.inside.room.items) (c.next_sdu.auto.into ∙ c.deref_mut.ensures.len) in
    let whole : c.deref.result.now ≡ into = c.deref.ensures.value ∙ all in
    let octets : IsOctets (take c.in-Some.size into) = subst (λ (room : List ℕ). IsOctets (take c.in-Some.size room)) whole c.are_octets.ensures in (
      c.self.invariant.0,
      subst (λ (room : List ℕ). IsWaiting c.in-Some.size (take c.in-Some.size room)) (sym all)
          (said_waits (next c.args.mux.now) c.args.mux.now c.next_sdu.new.self c.in-Some.size c.deref_mut.result.now into c.in-Some.ensures octets),
    )

pub returns-clause-frame : goal.returns-clause-frame
returns-clause-frame c =
    let into = c.next_sdu.new.into in
    let all = whole_room c.self.inside.room.len into (drop (length into) c.self.inside.room.items) (c.next_sdu.auto.into ∙ c.deref_mut.ensures.len) in
    let whole : c.deref.result.now ≡ into = c.deref.ensures.value ∙ all in
    let octets : IsOctets (take c.in-Some.size into) = subst (λ (room : List ℕ). IsOctets (take c.in-Some.size room)) whole c.are_octets.ensures in
    ap (λ (room : List ℕ). frame_in (take c.in-Some.size room)) all
    ∙ said_in (next c.args.mux.now) c.args.mux.now c.next_sdu.new.self c.in-Some.size c.deref_mut.result.now into c.in-Some.ensures octets
