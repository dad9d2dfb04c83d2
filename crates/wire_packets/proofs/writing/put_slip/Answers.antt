use Rattle.std.proofs.Common.{◌≡◌, ◌+◌, ◌<◌, ◌≤◌, [], ◌∷◌, ◌++◌, length, take, drop, get_or, refl, sym, ap, ◌∙◌, arith, length-append}
use Rattle.std.proofs.lemmas.List.{take_all, length-set}
use Rattle.wire_packets.specs.Slip.{delimiter, escaped, all_escaped}
use Rattle.wire_packets.proofs.Spelling.{escaped_more, grew, put_one, room_for}
use Rattle.wire_packets.proofs.writing.put_slip.Goals as goal

pub put_escaped-at-requires : goal.put_escaped-at-requires
put_escaped-at-requires c =
    let room = room_for c.args.bytes.now c.loop-octet.octet-index (omega arith) in
    let long = length-append (all_escaped c.args.bytes.now) (delimiter ∷ []) in
    omega (arith, room, long, c.requires, c.loop-octet.invariant.place, c.loop-octet.auto.into, length-set c.args.into.now 0 192)

pub loop-octet-preserved : goal.loop-octet-preserved
loop-octet-preserved c =
    let i = c.loop-octet.octet-index in
    let pre = delimiter ∷ all_escaped (take i c.args.bytes.now) in
    let e = escaped (get_or c.args.bytes.now i 0) in
    let below : i < length c.args.bytes.now = omega arith in
    let more = escaped_more c.args.bytes.now i below in
    let long : length pre ≡ c.loop-octet.at = omega (arith, c.loop-octet.invariant.place) in
    record {
      place = omega (arith, c.put_escaped-at.ensures.count, c.loop-octet.invariant.place, ap length more, length-append (all_escaped (take i c.args.bytes.now)) e);
      written = grew pre c.args.into.now e c.loop-octet.into c.put_escaped-at.new.into c.loop-octet.at c.put_escaped-at.result c.loop-octet.invariant.written long c.put_escaped-at.ensures.count c.put_escaped-at.ensures.written
          ∙ ap (λ xs. delimiter ∷ (xs ++ drop c.put_escaped-at.result c.args.into.now)) (sym more);
    }

pub returns-clause-written : goal.returns-clause-written
returns-clause-written c =
    let i = c.loop-octet.octet-index in
    let pre = delimiter ∷ all_escaped (take i c.args.bytes.now) in
    let all : take i c.args.bytes.now ≡ c.args.bytes.now = take_all i c.args.bytes.now (omega arith) in
    let long : length pre ≡ c.loop-octet.at = omega (arith, c.loop-octet.invariant.place) in
    let room = length-append (all_escaped c.args.bytes.now) (delimiter ∷ []) in
    put_one pre c.args.into.now c.loop-octet.into c.loop-octet.at delimiter c.loop-octet.invariant.written long (omega (arith, room, c.requires, c.loop-octet.auto.into, length-set c.args.into.now 0 192, c.loop-octet.invariant.place, ap (λ xs. length (all_escaped xs)) all))
    ∙ ap (λ xs. delimiter ∷ (all_escaped xs ++ delimiter ∷ [] ++ drop (c.loop-octet.at + 1) c.args.into.now)) all
