use Rattle.std.proofs.Common.{List, ℕ, ◌++◌, ap, refl, ◌∙◌}
use Rattle.sdp_server.specs.Listed.{listed_octets}
use Rattle.sdp_server.proofs.Pieces.{appended, record_octets}
use Rattle.sdp_server.proofs.service.listed_attributes.Goals as goal

pub returns-clause-items : goal.returns-clause-items
returns-clause-items c = λ ranges h.
    let served = c.append_listed-3.ensures.items ranges h ∙ ap (λ (v : List ℕ). c.append_listed-2.new.out.items ++ listed_octets ranges 0x0004 v) c.protocols.ensures in
    appended _ _ _ _ _ _ _ c.new-out.result.items c.append_listed.new.out.items c.append_listed-2.new.out.items c.append_listed-3.new.out.items c.append_listed-4.new.out.items c.append_listed-5.new.out.items c.append_psm.new.out.items
    c.append_listed-6.new.out.items c.new-out.ensures (c.append_listed.ensures.items ranges h) (c.append_listed-2.ensures.items ranges h) served (c.append_listed-4.ensures.items ranges h) (c.append_listed-5.ensures.items ranges h)
    (c.append_psm.ensures.items ranges h) (c.append_listed-6.ensures.items ranges h)
    ∙ record_octets ranges c.args.serves _ refl
