use Rattle.std.proofs.Common.{◌≡◌, ◌<◌, ◌≤◌, ℕ, List, length, take, drop, sym, ap, ◌∙◌, arith}
use Rattle.capture.proofs.FrontLaws.{cut_at_once, cut_in_head, cut_in_body, whole_record}
use Rattle.tagged_entries.proofs.Lengths.{cut_short}
use Rattle.tagged_entries.proofs.record.first_record.Goals as goal

pub returns-in_default : goal.returns-in_default
returns-in_default c =
    let cut = cut_at_once c.args.octets.now (sym c.new-left.ensures ∙ c.in_default.ensures.none.0) in
    (cut, c.least_length.ensures, omega (arith, cut_short c.args.octets.now cut, c.least_length.ensures))

pub returns-in_default-be16 : goal.returns-in_default-be16
returns-in_default-be16 c =
    let behind : List ℕ = c.u8.new.self in
    let cut = cut_in_head c.args.octets.now c.in-Some.tag behind (λ i. omega (arith, c.type_inv.octets i)) (omega arith, omega arith) (sym c.new-left.ensures ∙ c.in-Some.ensures.some) c.in_default-be16.ensures.none.0 in
    (cut, c.least_length-in_default-be16.ensures, omega (arith, cut_short c.args.octets.now cut, c.least_length-in_default-be16.ensures))

pub returns-in_default-take : goal.returns-in_default-take
returns-in_default-take c =
    let behind : List ℕ = c.u8.new.self in
    let body : List ℕ = c.be16.new.self in
    let n : ℕ = c.in-Some-be16.length in
    let short : length body < n = omega (arith, c.in_default-take.ensures.none.0, c.from.ensures) in
    let cut = cut_in_body c.args.octets.now c.in-Some.tag behind n body (omega arith, omega arith) (sym c.new-left.ensures ∙ c.in-Some.ensures.some) c.in-Some-be16.ensures.some (omega arith) short in
    (cut, c.least_length-in_default-take.ensures, omega (arith, cut_short c.args.octets.now cut, c.least_length-in_default-take.ensures))

pub returns : goal.returns
returns c =
    let behind : List ℕ = c.u8.new.self in
    let body : List ℕ = c.be16.new.self in
    let n : ℕ = c.in-Some-be16.length in
    let taken = c.in-Some-take.ensures.some in
    let within : n ≤ length body = omega (arith, taken.0, c.from.ensures) in
    let payload : c.in-Some-take.payload.now ≡ take n body = taken.1 ∙ ap (λ (k : ℕ). take k body) c.from.ensures in
    let whole = whole_record c.args.octets.now c.in-Some.tag behind n body c.in-Some-take.payload.now (sym c.new-left.ensures ∙ c.in-Some.ensures.some) c.in-Some-be16.ensures.some within payload in
    (drop n body, ((omega arith, omega arith), omega (arith, whole.0)), whole.1)
