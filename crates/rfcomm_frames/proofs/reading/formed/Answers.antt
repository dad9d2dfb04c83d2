use Rattle.std.proofs.Common.{◌≡◌, ◌-◌, ◌/◌, ◌%◌, ◌==◌, length, get_or, take, drop, refl, ap, ◌∙◌, arith}
use Rattle.rfcomm_frames.proofs.Formed.{formed, unformed}
use Rattle.rfcomm_frames.proofs.reading.formed.Goals as goal

pub returns-in_default-split_body : goal.returns-in_default-split_body
returns-in_default-split_body c =
    let bytes = c.args.bytes.now in
    let size : length bytes - 1 - 2 ≡ length bytes - 3 = omega arith in
    unformed bytes _ c.in-Some.kind (get_or bytes 0 0 / 4) (get_or bytes 1 0 / 0x10 % 2 == 1) (λ i. omega (arith, c.type_inv.bytes i)) c.if-bytes-lt4.false
    (omega (arith, c.if-address-eq0.false)) refl c.in-Some.ensures.some (ap (λ k. take k (drop 2 bytes)) size)
    c.has_credits.result c.has_credits.ensures c.in_default-split_body.ensures.none

pub returns : goal.returns
returns c =
    let bytes = c.args.bytes.now in
    let found = c.in-Some-split_body.ensures.some in
    let size : length bytes - 1 - 2 ≡ length bytes - 3 = omega arith in
    formed bytes _ c.in-Some.kind (get_or bytes 0 0 / 4) (get_or bytes 1 0 / 0x10 % 2 == 1) (λ i. omega (arith, c.type_inv.bytes i)) c.if-bytes-lt4.false
    (omega (arith, c.if-address-eq0.false)) refl c.in-Some.ensures.some (ap (λ k. take k (drop 2 bytes)) size)
    found.0 c.in-Some-split_body.octets.now c.in-Some-split_body.credits (get_or bytes 0 0 / 2 % 2 == 1) refl found.1 (found.2 ∙ c.has_credits.ensures) found.3
    (c.may_carry.ensures.0 c.if-not-may_carry.false)
