-- What is given is read as what it is.
use Rattle.std.proofs.Common.{◌≤◌, [], ◌∷◌, ◌++◌, drop, length, eqb, sym, ap, subst, ◌∙◌, append-nil}
use Rattle.own_channel_laws.specs.talk_laws.specs.bt_base.proofs.OctetLemmas.{le16-number}
use Rattle.own_channel_laws.specs.talk_laws.specs.bt_base.specs.Octets.{le16}
use Rattle.own_channel_laws.specs.talk_laws.specs.acl_fragments.specs.Pieces.{channel_of}
use Rattle.own_channel_laws.specs.talk_laws.specs.ertm_frames.specs.Frames.{control_of, body_of}
use Rattle.own_channel_laws.specs.talk_laws.specs.l2cap_signal.specs.Commands.{spelling}
use Rattle.own_channel_laws.specs.talk_laws.specs.l2cap_signal.specs.Reading.{answers}
use Rattle.own_channel_laws.specs.talk_laws.specs.l2cap_signal.proofs.Payloads.{written_read}
use Rattle.own_channel_laws.specs.channel_model.specs.Giving.{Signal, Whole, Framed}
use Rattle.channel_laws.specs.Belonging.{UtteredIsRead}

pub uttered-is_read : UtteredIsRead
uttered-is_read (Signal command) pdu (proper, short) is =
    ap (λ p. answers (drop 4 p)) is
    ∙ (ap answers (sym (append-nil (spelling command)))
    ∙ written_read (command ∷ []) (proper, tt) (subst (λ octets. length octets ≤ 672) (sym (append-nil (spelling command))) short))
uttered-is_read (Whole peer sdu) pdu (fits, apart) is = ap (λ p. eqb (channel_of p) 0x0001) is ∙ (ap (λ n. eqb n 0x0001) (le16-number peer sdu fits) ∙ apart)
uttered-is_read (Framed peer frame) pdu apart is =
    ap (λ p. eqb (channel_of p) 0x0001) is.parts
    ∙ (ap (λ n. eqb n 0x0001) (le16-number peer ((le16 (control_of frame) ++ body_of frame) ++ le16 is.check) is.cid_fits) ∙ apart)
