use Rattle.std.proofs.Common.{◌≡◌, ◌-◌, ◌++◌, length, take, drop, min, vec_len, None, Some, sym, ap, ◌∙◌, arith}
use Rattle.std.proofs.lemmas.List.{take_rest}
use Rattle.btsnoop.specs.Fields.{fault_in, told_length}
use Rattle.btsnoop.proofs.FieldLemmas.{told_bound}
use Rattle.btsnoop.proofs.GatheringLemmas.{Filled, front_fault, front_within, kept_front, more_gathered, whole_gathered}
use Rattle.btsnoop.proofs.gathering.gather.Goals as goal

pub top_up-used-requires-clause-room : goal.top_up-used-requires-clause-room
top_up-used-requires-clause-room c =
    let told : c.told_length-told.result ≡ told_length c.args.part c.args.buffer.now.items = c.told_length-told.ensures ∙ ap (told_length c.args.part) c.deref.ensures.value in
    omega (arith, told, told_bound c.args.part c.args.buffer.now.items c.requires.unfinished.sound, c.requires.room)

pub returns-in-Some-clause-gathered : goal.returns-in-Some-clause-gathered
returns-in-Some-clause-gathered c =
    let held = c.args.buffer.now.items in
    let piece = c.args.piece.now in
    let front = c.top_up-used.new.buffer.items in
    let told : c.told_length-told.result ≡ told_length c.args.part held = c.told_length-told.ensures ∙ ap (told_length c.args.part) c.deref.ensures.value in
    let count : c.top_up-used.result ≡ min (told_length c.args.part held - length held) (length piece) = omega (arith, c.top_up-used.ensures.count, told, c.args.buffer.now.ok.0) in
    let filled : Filled c.args.part held piece front c.top_up-used.result = record { unfinished = c.requires.unfinished; count = count; items = c.top_up-used.ensures.items } in
    let kept = kept_front c.args.part held piece front c.top_up-used.result filled in
    let fault : fault_in c.args.part front ≡ Some (c.in-Some.refusal, c.in-Some.place) = ap (fault_in c.args.part) (sym c.deref-2.ensures.value) ∙ sym c.in-Some.ensures in
    (kept.0, kept.1, front_fault c.args.part held piece front c.top_up-used.result filled ∙ fault)

pub top_up-rest-requires-clause-within : goal.top_up-rest-requires-clause-within
top_up-rest-requires-clause-within c =
    let held = c.args.buffer.now.items in
    let piece = c.args.piece.now in
    let front = c.top_up-used.new.buffer.items in
    let told : c.told_length-told.result ≡ told_length c.args.part held = c.told_length-told.ensures ∙ ap (told_length c.args.part) c.deref.ensures.value in
    let count : c.top_up-used.result ≡ min (told_length c.args.part held - length held) (length piece) = omega (arith, c.top_up-used.ensures.count, told, c.args.buffer.now.ok.0) in
    let filled : Filled c.args.part held piece front c.top_up-used.result = record { unfinished = c.requires.unfinished; count = count; items = c.top_up-used.ensures.items } in
    let length-is : c.told_length-length.result ≡ told_length c.args.part front = c.told_length-length.ensures ∙ ap (told_length c.args.part) c.deref-3.ensures.value in
    omega (arith, length-is, front_within c.args.part held piece front c.top_up-used.result filled, c.top_up-used.new.buffer.ok.0)

pub top_up-rest-requires-clause-room : goal.top_up-rest-requires-clause-room
top_up-rest-requires-clause-room c =
    let front = c.top_up-used.new.buffer.items in
    let length-is : c.told_length-length.result ≡ told_length c.args.part front = c.told_length-length.ensures ∙ ap (told_length c.args.part) c.deref-3.ensures.value in
    let sound : fault_in c.args.part front ≡ None = ap (fault_in c.args.part) (sym c.deref-2.ensures.value) ∙ sym c.in_default.ensures in
    omega (arith, length-is, told_bound c.args.part front sound, c.requires.room, c.top_up-used.ensures.capacity)

pub returns-then-len-length-clause-gathered : goal.returns-then-len-length-clause-gathered
returns-then-len-length-clause-gathered c =
    let held = c.args.buffer.now.items in
    let piece = c.args.piece.now in
    let front = c.top_up-used.new.buffer.items in
    let buffer = c.top_up-rest.new.buffer.items in
    let u = c.top_up-used.result in
    let told : c.told_length-told.result ≡ told_length c.args.part held = c.told_length-told.ensures ∙ ap (told_length c.args.part) c.deref.ensures.value in
    let count : u ≡ min (told_length c.args.part held - length held) (length piece) = omega (arith, c.top_up-used.ensures.count, told, c.args.buffer.now.ok.0) in
    let filled : Filled c.args.part held piece front u = record { unfinished = c.requires.unfinished; count = count; items = c.top_up-used.ensures.items } in
    let length-is : c.told_length-length.result ≡ told_length c.args.part front = c.told_length-length.ensures ∙ ap (told_length c.args.part) c.deref-3.ensures.value in
    let sound : fault_in c.args.part front ≡ None = ap (fault_in c.args.part) (sym c.deref-2.ensures.value) ∙ sym c.in_default.ensures in
    let left = take_rest piece u in
    let items : buffer ≡ front ++ take c.top_up-rest.result (drop u piece) = c.top_up-rest.ensures.items ∙ ap (λ xs. front ++ take c.top_up-rest.result xs) left in
    let rest-count : c.top_up-rest.result ≡ min (c.told_length-length.result - length front) (length (drop u piece)) =
    omega (arith, c.top_up-rest.ensures.count ∙ ap (λ xs. min (c.told_length-length.result - vec_len c.top_up-used.new.buffer) (length xs)) left, c.top_up-used.new.buffer.ok.0) in
    more_gathered c.args.part held piece front buffer u c.top_up-rest.result c.told_length-length.result filled (λ i. omega (arith, c.type_inv.piece i)) sound length-is rest-count items (omega (arith, c.top_up-rest.new.buffer.ok.0))

pub returns-else-len-length-clause-gathered : goal.returns-else-len-length-clause-gathered
returns-else-len-length-clause-gathered c =
    let held = c.args.buffer.now.items in
    let piece = c.args.piece.now in
    let front = c.top_up-used.new.buffer.items in
    let buffer = c.top_up-rest.new.buffer.items in
    let u = c.top_up-used.result in
    let told : c.told_length-told.result ≡ told_length c.args.part held = c.told_length-told.ensures ∙ ap (told_length c.args.part) c.deref.ensures.value in
    let count : u ≡ min (told_length c.args.part held - length held) (length piece) = omega (arith, c.top_up-used.ensures.count, told, c.args.buffer.now.ok.0) in
    let filled : Filled c.args.part held piece front u = record { unfinished = c.requires.unfinished; count = count; items = c.top_up-used.ensures.items } in
    let length-is : c.told_length-length.result ≡ told_length c.args.part front = c.told_length-length.ensures ∙ ap (told_length c.args.part) c.deref-3.ensures.value in
    let sound : fault_in c.args.part front ≡ None = ap (fault_in c.args.part) (sym c.deref-2.ensures.value) ∙ sym c.in_default.ensures in
    let left = take_rest piece u in
    let items : buffer ≡ front ++ take c.top_up-rest.result (drop u piece) = c.top_up-rest.ensures.items ∙ ap (λ xs. front ++ take c.top_up-rest.result xs) left in
    let rest-count : c.top_up-rest.result ≡ min (c.told_length-length.result - length front) (length (drop u piece)) =
    omega (arith, c.top_up-rest.ensures.count ∙ ap (λ xs. min (c.told_length-length.result - vec_len c.top_up-used.new.buffer) (length xs)) left, c.top_up-used.new.buffer.ok.0) in
    whole_gathered c.args.part held piece front buffer u c.top_up-rest.result c.told_length-length.result filled sound length-is rest-count items (omega (arith, c.top_up-rest.new.buffer.ok.0))
