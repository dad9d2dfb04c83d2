-- The address and the control octet of a frame.
use Rattle.std.proofs.Common.{◌≡◌, ℕ, zero, suc, ◌+◌, ◌*◌, ◌/◌, ◌%◌, ◌<◌, Bool, true, false, ◌==◌, if◌then◌else◌, Option, Some, None, refl, sym, ap, ◌∙◌, arith}
use Rattle.rfcomm_frames.specs.declared.frame.MuxKind.{MuxKind}
use Rattle.rfcomm_frames.specs.declared.frame.MuxKind.TheVariants.{Sabm, Ua, Dm, Disc, Uih}
use Rattle.rfcomm_frames.specs.Frames.{PlainFrame, bit, address_of, control_octet}

pub bit_below : (b : Bool) → bit b < 2
bit_below true = omega arith
bit_below false = omega arith

bit_is : (b : Bool) (n : ℕ) → bit b ≡ n → b ≡ (n == 1)
bit_is true n e = ap (λ (k : ℕ). k == 1) e
bit_is false n e = ap (λ (k : ℕ). k == 1) e

-- the channel and the C/R bit again from an address octet
pub address_parts : (frame : PlainFrame) (n : ℕ) → n ≡ address_of frame → (frame.dlci ≡ n / 4) × (frame.cr ≡ (n / 2 % 2 == 1)) × (n % 2 ≡ 1)
address_parts frame n is =
    let below = bit_below frame.cr in
    (omega arith, bit_is frame.cr (n / 2 % 2) (omega arith), omega arith)

pub bit_again : (u : ℕ) → u < 2 → bit (u == 1) ≡ u
bit_again zero less = refl
bit_again (suc zero) less = refl
bit_again (suc (suc u)) less = absurd (omega arith)

pub address_again : (n : ℕ) → n % 2 ≡ 1 → n ≡ 0x01 + 0x02 * bit (n / 2 % 2 == 1) + 0x04 * (n / 4)
address_again n odd = let e = bit_again (n / 2 % 2) (omega arith) in omega arith

-- the kind and the P/F bit again from a control octet
kind_at : ℕ → Option (MuxKind × Bool)
kind_at n =
    if n == 0x2F then Some (Sabm, false) else
    if n == 0x3F then Some (Sabm, true) else
    if n == 0x63 then Some (Ua, false) else
    if n == 0x73 then Some (Ua, true) else
    if n == 0x0F then Some (Dm, false) else
    if n == 0x1F then Some (Dm, true) else
    if n == 0x43 then Some (Disc, false) else
    if n == 0x53 then Some (Disc, true) else
    if n == 0xEF then Some (Uih, false) else
    if n == 0xFF then Some (Uih, true) else None

kind_again : (kind : MuxKind) (pf : Bool) → kind_at (control_octet kind pf) ≡ Some (kind, pf)
unfolding kind_at
kind_again Sabm false = refl
kind_again Sabm true = refl
kind_again Ua false = refl
kind_again Ua true = refl
kind_again Dm false = refl
kind_again Dm true = refl
kind_again Disc false = refl
kind_again Disc true = refl
kind_again Uih false = refl
kind_again Uih true = refl

parts_of : (p q : MuxKind × Bool) → Some p ≡ Some q → (p.0 ≡ q.0) × (p.1 ≡ q.1)
parts_of p q e = let same : p ≡ q = cc in (ap (λ (x : MuxKind × Bool). x.0) same, ap (λ (x : MuxKind × Bool). x.1) same)

pub control_same : (kind kind' : MuxKind) (pf pf' : Bool) → control_octet kind pf ≡ control_octet kind' pf' → (kind ≡ kind') × (pf ≡ pf')
control_same kind kind' pf pf' e = parts_of (kind, pf) (kind', pf') (sym (kind_again kind pf) ∙ ap kind_at e ∙ kind_again kind' pf')
