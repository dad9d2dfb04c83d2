use Rattle.rfcomm_model.specs.Saying.{says_grant, says_data}
use Rattle.rfcomm_mux.proofs.Sending.{first_sends, second_sends}
use Rattle.rfcomm_mux.proofs.mux.Mux.next_free.Goals as goal

pub returns-in-Some : goal.returns-in-Some
returns-in-Some c =
    first_sends (says_grant c.args.self.now) (says_data c.args.self.now) c.args.self.now c.next_grant.new.self c.in-Some.n c.args.into.now c.next_grant.new.into c.in-Some.ensures

pub returns : goal.returns
returns c =
    second_sends (says_grant c.args.self.now) says_data c.args.self.now c.next_grant.new.self c.next_data.new.self c.next_data.result c.args.into.now c.next_grant.new.into c.next_data.new.into
    c.in_default.ensures c.next_data.ensures
