use Rattle.std.proofs.Common.{◌∙◌, ap, sym, List, ℕ, get_or}
use Rattle.l2cap_config.specs.Types.{with_type}
use Rattle.l2cap_config.proofs.TypeLists.{joined_more}
use Rattle.l2cap_config.proofs.unknown.UnknownTypes.join.Goals as goal

pub loop-octet-preserved : goal.loop-octet-preserved
loop-octet-preserved c =
    let types = c.as_slice-octet-items.result.now in
    let i = c.loop-octet.octet-index in
    c.add.ensures ∙ ap (λ (x : List ℕ). with_type x (get_or types i 0)) c.loop-octet.invariant ∙ sym (joined_more c.args.self.now types i 0 c.loop-octet-test.true)
