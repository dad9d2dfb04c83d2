use Rattle.std.proofs.Common.{◌≡◌, ◌≤◌, ◌++◌, Bool, List, ℕ, length, sym, ap, ◌∙◌, subst, if◌then◌else◌, arith}
use Rattle.std.specs.String.{string_bytes}
use Rattle.obex_session.specs.PutPackets.{units_in}
use Rattle.push_rooms.proofs.NameLaws.{short}
use Rattle.push_rooms.proofs.object_name.ObjectName.set.Goals as goal

pub returns : goal.returns
returns c =
    let done = c.push_str-room_was_reserved in
    let fits = short c.args.text.now c.utf8.text c.requires in
    let ok = done.ensures.succeeds (let room = c.self.invariant.0 in omega (arith, fits, room, c.clear.ensures.len, c.clear.ensures.capacity)) in
    done.ensures.bytes ∙ ap (λ (b : Bool). (if b then string_bytes c.clear.new.self ++ c.args.text.now else string_bytes c.clear.new.self)) ok
    ∙ ap (λ (front : List ℕ). front ++ c.args.text.now) c.clear.ensures.bytes

pub invariant_of-self : goal.invariant_of-self
invariant_of-self c =
    let done = c.push_str-room_was_reserved in
    let fits = short c.args.text.now c.utf8.text c.requires in
    let room = c.self.invariant.0 in
    let ok = done.ensures.succeeds (omega (arith, fits, room, c.clear.ensures.len, c.clear.ensures.capacity)) in
    let written : string_bytes done.new.self ≡ c.args.text.now = done.ensures.bytes ∙ ap (λ (b : Bool). (if b then string_bytes c.clear.new.self ++ c.args.text.now else string_bytes c.clear.new.self)) ok
    ∙ ap (λ (front : List ℕ). front ++ c.args.text.now) c.clear.ensures.bytes in
    (omega (arith, room, c.clear.ensures.capacity, done.ensures.capacity), subst (λ (name : List ℕ). length (units_in name) ≤ 100) (sym written) c.requires)
