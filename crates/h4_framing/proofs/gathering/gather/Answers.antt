use Rattle.std.proofs.Common.{◌≡◌, ◌-◌, ◌++◌, length, take, drop, min, vec_len, refl, sym, ap, subst, ◌∙◌, arith}
use Rattle.std.proofs.lemmas.List.{take_rest, take_at, length-append}
use Rattle.bt_base.specs.Octets.{IsOctets}
use Rattle.h4_framing.specs.Extents.{extent}
use Rattle.h4_framing.specs.declared.extent.Extent.TheVariants.{AtLeast, Known, Refused}
use Rattle.h4_framing.proofs.OctetLists.{IsOctets-append, IsOctets-take}
use Rattle.h4_framing.proofs.ExtentLemmas.{known_bound, unfinished_octets}
use Rattle.h4_framing.proofs.GatheringLemmas.{more_gathered, whole_gathered, refused_gathered, short_gathered}
use Rattle.h4_framing.proofs.gathering.gather.Goals as goal

pub top_up-rest-requires-clause-room : goal.top_up-rest-requires-clause-room
top_up-rest-requires-clause-room c =
    let head = c.gather_head-used in
    let known : extent c.args.limit head.new.buffer.items ≡ Known c.in-Known.length = ap (extent c.args.limit) (sym c.deref.ensures.value) ∙ sym c.in-Known.ensures in
    let fits : IsOctets head.new.buffer.items =
    subst IsOctets (sym head.ensures.items) (IsOctets-append c.args.buffer.now.items (take head.result c.args.piece.now) (unfinished_octets c.args.limit c.args.buffer.now.items c.requires.unfinished)
    (IsOctets-take head.result c.args.piece.now (λ i. omega (arith, c.type_inv.piece i)))) in
    let bound = known_bound c.args.limit head.new.buffer.items c.in-Known.length c.requires.limit fits known in
    omega (arith, head.ensures.capacity)

pub returns-then-len-length-clause-gathered : goal.returns-then-len-length-clause-gathered
returns-then-len-length-clause-gathered c =
    let head = c.gather_head-used in
    let rest = c.top_up-rest in
    let known : extent c.args.limit head.new.buffer.items ≡ Known c.in-Known.length = ap (extent c.args.limit) (sym c.deref.ensures.value) ∙ sym c.in-Known.ensures in
    let left = take_rest c.args.piece.now head.result in
    let items : rest.new.buffer.items ≡ head.new.buffer.items ++ take rest.result (drop head.result c.args.piece.now) = rest.ensures.items ∙ ap (λ xs. head.new.buffer.items ++ take rest.result xs) left in
    let count : rest.result ≡ min (c.in-Known.length - vec_len head.new.buffer) (length (drop head.result c.args.piece.now)) = rest.ensures.count ∙ ap (λ xs. min (c.in-Known.length - vec_len head.new.buffer) (length xs)) left in
    more_gathered c.args.limit c.in-Known.length head.result rest.result (vec_len head.new.buffer) (vec_len rest.new.buffer) c.args.buffer.now.items c.args.piece.now head.new.buffer.items rest.new.buffer.items
    head.new.buffer.ok.0 rest.new.buffer.ok.0 (unfinished_octets c.args.limit c.args.buffer.now.items c.requires.unfinished) (λ i. omega (arith, c.type_inv.piece i)) head.ensures.items known items count (omega arith)

pub returns-else-len-length-clause-gathered : goal.returns-else-len-length-clause-gathered
returns-else-len-length-clause-gathered c =
    let head = c.gather_head-used in
    let rest = c.top_up-rest in
    let known : extent c.args.limit head.new.buffer.items ≡ Known c.in-Known.length = ap (extent c.args.limit) (sym c.deref.ensures.value) ∙ sym c.in-Known.ensures in
    let left = take_rest c.args.piece.now head.result in
    let items : rest.new.buffer.items ≡ head.new.buffer.items ++ take rest.result (drop head.result c.args.piece.now) = rest.ensures.items ∙ ap (λ xs. head.new.buffer.items ++ take rest.result xs) left in
    let count : rest.result ≡ min (c.in-Known.length - vec_len head.new.buffer) (length (drop head.result c.args.piece.now)) = rest.ensures.count ∙ ap (λ xs. min (c.in-Known.length - vec_len head.new.buffer) (length xs)) left in
    whole_gathered c.args.limit c.in-Known.length head.result rest.result (vec_len head.new.buffer) (vec_len rest.new.buffer) c.args.buffer.now.items c.args.piece.now head.new.buffer.items rest.new.buffer.items
    head.new.buffer.ok.0 rest.new.buffer.ok.0 head.ensures.items known head.ensures.count (head.ensures.within c.in-Known.length known) items count (omega arith)

pub returns-in-AtLeast-clause-gathered : goal.returns-in-AtLeast-clause-gathered
returns-in-AtLeast-clause-gathered c =
    let head = c.gather_head-used in
    let known : extent c.args.limit head.new.buffer.items ≡ AtLeast c.in-AtLeast.field-0 = ap (extent c.args.limit) (sym c.deref.ensures.value) ∙ sym c.in-AtLeast.ensures in
    short_gathered c.args.limit head.result c.in-AtLeast.field-0 c.args.buffer.now.items c.args.piece.now head.new.buffer.items c.requires.limit (unfinished_octets c.args.limit c.args.buffer.now.items c.requires.unfinished)
    (λ i. omega (arith, c.type_inv.piece i)) head.ensures.items (head.ensures.all c.in-AtLeast.field-0 known) known

pub returns-in-Refused-clause-gathered : goal.returns-in-Refused-clause-gathered
returns-in-Refused-clause-gathered c =
    let head = c.gather_head-used in
    let known : extent c.args.limit head.new.buffer.items ≡ Refused c.in-Refused.refusal c.in-Refused.place = ap (extent c.args.limit) (sym c.deref.ensures.value) ∙ sym c.in-Refused.ensures in
    let front = ap (take (length c.args.buffer.now.items)) head.ensures.items ∙ take_at c.args.buffer.now.items (take head.result c.args.piece.now) (length c.args.buffer.now.items) refl in (
      front,
      omega (arith, ap length head.ensures.items, length-append c.args.buffer.now.items (take head.result c.args.piece.now)),
      refused_gathered c.args.limit head.result c.in-Refused.place c.in-Refused.refusal c.args.buffer.now.items c.args.piece.now head.new.buffer.items (unfinished_octets c.args.limit c.args.buffer.now.items c.requires.unfinished)
          (λ i. omega (arith, c.type_inv.piece i)) head.ensures.items known,
    )
