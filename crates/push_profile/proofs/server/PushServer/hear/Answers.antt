use Rattle.push_profile.proofs.ServerLaws.{search_heard, none_heard}
use Rattle.push_profile.proofs.server.PushServer.hear.Goals as goal

pub returns-then-number-eq-SEARCH_PSM-clause-comes : goal.returns-then-number-eq-SEARCH_PSM-clause-comes
returns-then-number-eq-SEARCH_PSM-clause-comes g c =
    search_heard c.get-number.result c.args.psm c.args.sdu.now c.args.self.now c.hear_search.new.self _ _ c.get-number.ensures.value c.if-number-eq-SEARCH_PSM.true c.hear_search.ensures

pub returns-clause-comes : goal.returns-clause-comes
returns-clause-comes g c =
    none_heard c.get-number.result c.args.psm c.args.sdu.now c.args.self.now _ _ c.get-number.ensures.value c.if-number-eq-SEARCH_PSM.false c.if-number-eq-RFCOMM_PSM.false c.if-number-eq-OBJECT_PSM.false
