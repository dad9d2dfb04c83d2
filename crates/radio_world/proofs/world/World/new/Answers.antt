use Rattle.std.proofs.Common.{rules}
use Rattle.radio_world.proofs.Beginning.{may_start}
use Rattle.radio_world.proofs.world.World.new.Goals as goal

pub returns-clause-may_start : goal.returns-clause-may_start
returns-clause-may_start g c = λ shelf inbox unused_a unused_b.
    let settings = c.args.scenario.now.settings in
    may_start g.A.Host g.B.Host c.args.scenario.now shelf inbox _ (search rules) c.requires.sides (g.met.A.Host.begins settings shelf unused_a) (g.met.B.Host.begins settings inbox unused_b)
