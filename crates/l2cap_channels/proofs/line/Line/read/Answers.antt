use Rattle.std.proofs.Common.{◌∙◌, ℕ, sym, ap, arith}
use Rattle.std.specs.Prelude.{Option}
use Rattle.ertm_frames.specs.Answers.{answer}
use Rattle.ertm_frames.specs.Reading.{answer_in}
use Rattle.channel_model.specs.Value.{Carrier}
use Rattle.l2cap_channels.specs.Lines.{carrier_of}
use Rattle.l2cap_channels.specs.Readings.{Framed, reading_by}
use Rattle.l2cap_channels.specs.declared.line.Carrying.{Carrying}
use Rattle.l2cap_channels.proofs.Taking.{answer_read}
use Rattle.l2cap_channels.proofs.line.Line.read.Goals as goal

pub returns-in-Enhanced-clause-reads : goal.returns-in-Enhanced-clause-reads
returns-in-Enhanced-clause-reads c =
    ap Framed (answer_read c.agreed.result.receive_mps c.args.pdu.now (answer c.frame_of.result) (λ i. omega (arith, c.type_inv.pdu i)) c.frame_of.ensures)
    ∙ ap (λ (mps : ℕ). Framed (answer_in mps c.args.pdu.now)) (ap (λ a. a.receive_mps) c.agreed.ensures)
    ∙ ap (λ (k : Carrying). reading_by (carrier_of k c.self.inside.machine.ertm c.self.inside.sdu.items) c.args.pdu.now) (sym c.in-Enhanced.is)
    ∙ ap (λ (k : Option Carrier). reading_by k c.args.pdu.now) c.self.view_is
