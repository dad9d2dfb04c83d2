use Rattle.std.proofs.Common.{refl, sym, ap, ◌∙◌}
use Rattle.push_model.specs.Client.{Client}
use Rattle.push_model.specs.Responding.{hears_frame}
use Rattle.rfcomm_mux.specs.Ups.{up_of}
use Rattle.push_client.specs.Pushing.{client_of}
use Rattle.push_client.proofs.HearingLaws.{octets_heard, still_largest}
use Rattle.push_client.proofs.client.PushClient.hear_frame.Goals as goal

pub invariant_of-self : goal.invariant_of-self
invariant_of-self c =
    let s = c.self.invariant in
    record { suits = c.hear.ensures.suits; limit = s.limit; first = s.first; last = s.last; largest = still_largest c.args.sdu.now c.self.inside.mux c.on_sdu.new.self c.on_sdu.ensures.machine s.largest }

pub invariant_of-self-in-Closed : goal.invariant_of-self-in-Closed
invariant_of-self-in-Closed c =
    let s = c.self.invariant in
    record { suits = s.suits; limit = s.limit; first = s.first; last = s.last; largest = still_largest c.args.sdu.now c.self.inside.mux c.on_sdu.new.self c.on_sdu.ensures.machine s.largest }

pub invariant_of-self-in-Nothing : goal.invariant_of-self-in-Nothing
invariant_of-self-in-Nothing c =
    let s = c.self.invariant in
    record { suits = s.suits; limit = s.limit; first = s.first; last = s.last; largest = still_largest c.args.sdu.now c.self.inside.mux c.on_sdu.new.self c.on_sdu.ensures.machine s.largest }

pub returns-in-Bytes : goal.returns-in-Bytes
returns-in-Bytes c =
    octets_heard (client_of c.self.inside) c.args.sdu.now c.in-Bytes.octets.now c.on_sdu.new.self c.self.inside.reception.dialog c.hear.new.self.dialog c.hear.new.self.assembler.held refl
    (sym c.on_sdu.ensures.up ∙ ap up_of c.in-Bytes.is) c.on_sdu.ensures.machine c.hear.ensures.hears
    ∙ ap (λ (s : Client). hears_frame c.args.sdu.now s) c.self.view_is
