use Rattle.std.proofs.Common.{◌≡◌, ◌-◌, ◌<◌, ◌≤◌, ◌++◌, ℕ, List, length, take, drop, refl, sym, ap, subst, ◌∙◌, arith, length-take}
use Rattle.std.specs.Prelude.{slice_get, Some}
use Rattle.std.specs.Option.{option_copied}
use Rattle.ertm_machine.specs.declared.window.Head.{Head}
use Rattle.ertm_machine.specs.Pieces.{octets_of}
use Rattle.ertm_machine.proofs.Windowing.{begins, ends, own}
use Rattle.ertm_machine.proofs.Valuing.{next_is, latest_is, piece_fits}
use Rattle.ertm_machine.proofs.window.Window.latest.Goals as goal

pub overflow_sub-self-inside-2 : goal.overflow_sub-self-inside-2
overflow_sub-self-inside-2 c =
    let some : 0 < c.self.inside.next = omega (arith, next_is c.self.inside c.args.self.now c.self.view_is) in
    let found : slice_get c.self.inside.heads.items (c.self.inside.next - 1) ≡ Some c.unwrap-head.result.now = sym c.get.ensures ∙ ap option_copied c.unwrap-head.ensures in
    omega (arith, begins c.self.inside c.unwrap-head.result.now c.self.invariant some found)

pub parts-requires : goal.parts-requires
parts-requires c =
    let some : 0 < c.self.inside.next = omega (arith, next_is c.self.inside c.args.self.now c.self.view_is) in
    let found : slice_get c.self.inside.heads.items (c.self.inside.next - 1) ≡ Some c.unwrap-head.result.now = sym c.get.ensures ∙ ap option_copied c.unwrap-head.ensures in
    omega (arith, begins c.self.inside c.unwrap-head.result.now c.self.invariant some found, ends c.self.inside c.unwrap-head.result.now c.self.invariant some found)

pub returns-clause-segment : goal.returns-clause-segment
returns-clause-segment c =
    let some : 0 < c.self.inside.next = omega (arith, next_is c.self.inside c.args.self.now c.self.view_is) in
    let found : slice_get c.self.inside.heads.items (c.self.inside.next - 1) ≡ Some c.unwrap-head.result.now = sym c.get.ensures ∙ ap option_copied c.unwrap-head.ensures in
    let octets : octets_of c.new.result ≡ take c.unwrap-head.result.now.len (drop (c.self.inside.place - c.unwrap-head.result.now.len) c.self.inside.octets.items) =
    ap (λ (x : List ℕ). x ++ c.new.result.back.now) c.new.ensures.front ∙ ap (λ (x : List ℕ). c.parts.result.0.now ++ x) c.new.ensures.back
    ∙ c.parts.ensures ∙ ap (λ (n : ℕ). take n (drop (c.self.inside.place - n) c.self.inside.octets.items)) c.from-len.ensures in
    latest_is c.self.inside c.args.self.now c.unwrap-head.result.now c.new.result c.self.view_is c.self.invariant some found c.new.ensures.sar c.new.ensures.total octets

pub returns-clause-size : goal.returns-clause-size
returns-clause-size c =
    let some : 0 < c.self.inside.next = omega (arith, next_is c.self.inside c.args.self.now c.self.view_is) in
    let found : slice_get c.self.inside.heads.items (c.self.inside.next - 1) ≡ Some c.unwrap-head.result.now = sym c.get.ensures ∙ ap option_copied c.unwrap-head.ensures in
    let short = (own c.self.inside c.unwrap-head.result.now c.self.invariant some found).len in
    let octets : octets_of c.new.result ≡ take c.from-len.result (drop (c.self.inside.place - c.from-len.result) c.self.inside.octets.items) =
    ap (λ (x : List ℕ). x ++ c.new.result.back.now) c.new.ensures.front ∙ ap (λ (x : List ℕ). c.parts.result.0.now ++ x) c.new.ensures.back ∙ c.parts.ensures in
    let count = ap (λ (x : List ℕ). length x) octets ∙ length-take c.from-len.result (drop (c.self.inside.place - c.from-len.result) c.self.inside.octets.items) in
    omega (arith, c.self.invariant.agreed.mps_to)

pub returns-clause-fits : goal.returns-clause-fits
returns-clause-fits c =
    let some : 0 < c.self.inside.next = omega (arith, next_is c.self.inside c.args.self.now c.self.view_is) in
    let found : slice_get c.self.inside.heads.items (c.self.inside.next - 1) ≡ Some c.unwrap-head.result.now = sym c.get.ensures ∙ ap option_copied c.unwrap-head.ensures in
    piece_fits c.self.inside c.unwrap-head.result.now c.new.result c.self.invariant some found c.new.ensures.sar c.new.ensures.total c.new.ensures.fits c.new.ensures.octets
