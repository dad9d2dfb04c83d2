use Rattle.push_profile.proofs.ServerLaws.{none_closed}
use Rattle.push_profile.proofs.server.PushServer.close.Goals as goal

pub returns-clause-comes : goal.returns-clause-comes
returns-clause-comes g c =
    none_closed c.get-number.result c.args.psm c.args.self.now _ _ c.get-number.ensures.value c.if-number-eq-SEARCH_PSM.false c.if-number-eq-RFCOMM_PSM.false c.if-number-eq-OBJECT_PSM.false
