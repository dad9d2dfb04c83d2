use Rattle.std.proofs.Common.{◌≡◌, Bool, true, false, sym, ap, subst, ◌∙◌}
use Rattle.std.specs.Prelude.{None}
use Rattle.std.specs.Option.{option_map}
use Rattle.ertm_frames.specs.Frames.{plain}
use Rattle.ertm_machine.specs.Receivers.{own_frame}
use Rattle.ertm_machine.specs.Senders.{Advances, polled}
use Rattle.ertm_machine.specs.Values.{SenderValue}
use Rattle.ertm_machine.proofs.Handing.{none_from, gives_data}
use Rattle.ertm_machine.proofs.machine.Ertm.next_frame.Goals as goal

pub returns-clause-gives : goal.returns-clause-gives
returns-clause-gives c =
    let open_ : c.self.inside.closed ≡ None = none_from c.self.inside.closed (sym c.is_some.ensures ∙ c.if-is_some.false) in
    let silent : own_frame c.self.inside.receiver.receiver.polled c.self.inside.receiver.receiver.reply c.self.inside.receiver.receiver.expected ≡ None =
    sym c.give.ensures.frame ∙ ap (option_map plain) c.in_default.is in
    let unpolled : c.give_poll.new.self ≡ c.self.inside.sender = c.give_poll.ensures.after ∙ ap (λ (b : Bool). polled b c.self.inside.sender) c.if-give_poll.false in
    let moved : Advances c.self.inside.sender true c.advance.new.self =
    subst (λ (s : SenderValue). Advances s true c.advance.new.self) unpolled
    (subst (λ (b : Bool). Advances c.give_poll.new.self b c.advance.new.self) c.if-not-advance.false c.advance.ensures) in
    gives_data c.self.inside c.args.self.now c.args.cid c.latest_number-tx.result c.expected-req.result c.put_information.result c.args.into.now c.put_information.new.into c.latest-piece.result
    c.give.new.self c.advance.new.self c.self.view_is open_ silent c.give.ensures.after moved c.latest_number-tx.ensures.number c.latest-piece.ensures.segment c.expected-req.ensures.value
    (record { count_is = c.put_information.ensures.count; spelling = c.put_information.ensures.spelling; rest = c.put_information.ensures.rest })
