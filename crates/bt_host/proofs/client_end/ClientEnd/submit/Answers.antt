use Rattle.std.proofs.Common.{rules, sym, ◌∙◌}
use Rattle.bt_host.proofs.ClientsCalls.{submit_is}
use Rattle.bt_host.proofs.client_end.ClientEnd.submit.Goals as goal

pub returns-clause-strides : goal.returns-clause-strides
returns-clause-strides c =
    submit_is _ c.args.self.now c.in-Some.own c.args.psm c.octets-sdu.result.now c.args.channels.now c.put_sdu.new.self c.self.view_is (sym c.channel_of.ensures ∙ c.in-Some.is) c.octets-sdu.ensures c.are_octets.ensures (search rules) (search rules)
