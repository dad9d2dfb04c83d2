use Rattle.std.proofs.Common.{◌≡◌, ◌≤◌, length, arith, sym, subst, ap}
use Rattle.ertm_machine.specs.Values.{WindowValue}
use Rattle.ertm_machine.proofs.Windowing.{takes, has_room}
use Rattle.ertm_machine.proofs.Valuing.{none_waits, took}
use Rattle.ertm_machine.proofs.window.Window.take.Goals as goal

pub put_octets-requires : goal.put_octets-requires
put_octets-requires c =
    let short : length c.args.sdu.now ≤ c.self.inside.agreed.send_mtu = subst (λ (v : WindowValue). length c.args.sdu.now ≤ v.agreed.send_mtu) (sym c.self.view_is) c.requires.fits in
    has_room c.self.inside c.args.sdu.now c.self.invariant (none_waits c.self.inside c.args.self.now c.self.view_is c.requires.none) short

pub invariant_of-self : goal.invariant_of-self
invariant_of-self c =
    let short : length c.args.sdu.now ≤ c.self.inside.agreed.send_mtu = subst (λ (v : WindowValue). length c.args.sdu.now ≤ v.agreed.send_mtu) (sym c.self.view_is) c.requires.fits in
    takes c.self.inside c.args.sdu.now c.put_octets.new.ring c.self.invariant (none_waits c.self.inside c.args.self.now c.self.view_is c.requires.none) short c.put_octets.ensures

pub returns : goal.returns
returns c =
    took c.self.inside c.args.self.now c.args.sdu.now c.put_octets.new.ring c.self.view_is c.self.invariant (none_waits c.self.inside c.args.self.now c.self.view_is c.requires.none) c.put_octets.ensures
