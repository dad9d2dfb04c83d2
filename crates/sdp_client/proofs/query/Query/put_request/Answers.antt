use Rattle.std.proofs.Common.{ℕ, ◌≤◌, length, ap, subst, ◌∙◌}
use Rattle.bt_base.specs.Octets.{be16}
use Rattle.sdp_client.specs.Asking.{Asking}
use Rattle.sdp_client.proofs.Requests.{request_written}
use Rattle.sdp_client.proofs.query.Query.put_request.Goals as goal

pub returns-clause-written : goal.returns-clause-written
returns-clause-written c =
    let same = c.self.view_is in
    let continuation = ap (λ (asking : Asking). asking.continuation) same in
    request_written c.args.self.now.transaction c.args.self.now.continuation c.args.into.now c.put_behind-start.new.into c.put_behind.new.into c.to_be_bytes.result c.deref.result.now c.put_behind-start.result c.put_behind.result
    c.len-length.result c.put_behind-start.ensures.end c.put_behind-start.ensures.written c.put_behind.ensures.end c.put_behind.ensures.written (c.to_be_bytes.ensures ∙ ap (λ (asking : Asking). be16 asking.transaction) same)
    (c.deref.ensures.0 ∙ continuation) (c.len-length.ensures.value ∙ ap length continuation) (subst (λ (n : ℕ). n ≤ 16) (ap length continuation) c.self.invariant.3)
