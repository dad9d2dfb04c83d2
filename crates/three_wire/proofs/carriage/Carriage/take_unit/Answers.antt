use Rattle.std.proofs.Common.{◌≡◌, ◌++◌, ◌∙◌, ◌-◌, ◌∷◌, [], ℕ, List, Option, Bool, Result, Ok, Err, IfSome, take, drop, length, refl, ap, subst}
use Rattle.h4_framing.specs.Packets.{Packet, IsPacket, spelling}
use Rattle.wire_model.specs.Machine as machine
use Rattle.three_wire.specs.declared.fault.CarryFault.{CarryFault}
use Rattle.three_wire.specs.Feeding.{acl_limit, IsFeeding, IsAll, Feeds}
use Rattle.three_wire.specs.Carrying.{ReadsOn}
use Rattle.three_wire.proofs.Carrying.{carries_unit, carries_end, carries_whole, submitted_ready, unit_read}
use Rattle.three_wire.proofs.carriage.Carriage.take_unit.Goals as goal

pub returns-in-Ok-Some-clause-goes : goal.returns-in-Ok-Some-clause-goes
returns-in-Ok-Some-clause-goes g c = λ given sink trace k.
    let left = g.S.Source.content c.args.source.now in
    let left' = g.S.Source.content c.next.new.source in
    let f : IsFeeding given.input left c.args.self.now.feed k.packets = subst (λ (b : Bool). ReadsOn b given.input left c.args.self.now.feed k.packets) c.requires.more k.read in
    let t : (packet : Packet) × IsFeeding given.input left' c.next.new.self (k.packets ++ packet ∷ []) × IsPacket acl_limit packet × (c.in-Ok-Some.n ≡ length (spelling packet)) × (take c.in-Ok-Some.n c.next.new.self.unit.items ≡ spelling packet) =
    subst (λ (r : Result (Option ℕ) CarryFault). Feeds given.input left' c.next.new.self k.packets r) (c.in-Ok-Some.is ∙ ap Ok c.in-Ok-Some.field-0-is) (c.next.ensures.feeds given.input k.packets f) in
    let same = ap (λ (xs : List ℕ). let u : machine.Unit = record { kind = c.index.result.now; octets = take (c.in-Ok-Some.n - 1) (drop 1 xs) } in u) c.deref.ensures.value in
    let unit = same ∙ unit_read c.next.new.self.unit.items c.in-Ok-Some.n c.index.result.now t.0 t.3 t.4 c.index.ensures in
    let first = submitted_ready c.args.self.now.ends.first c.submit-taken.new.self _ c.submit-taken.result c.requires.ready c.submit-taken.ensures ∙ ap (λ (u : machine.Unit). machine.submitted u c.args.self.now.ends.first) unit in
    carries_unit given left left' sink trace c.args.self.now _ t.0 k c.requires.ready t.1 t.2 c.next.ensures.shape (record { first_rests = k.sound.first_rests; second_rests = k.sound.second_rests; room = k.sound.room })
    (ap (λ (w : machine.Wire). record { first = w; second = c.args.self.now.ends.second; draws = c.args.self.now.ends.medium.draws }) first) c.requires.more refl refl

pub returns-in-Ok-None-clause-goes : goal.returns-in-Ok-None-clause-goes
returns-in-Ok-None-clause-goes g c = λ given sink trace k.
    let left = g.S.Source.content c.args.source.now in
    let left' = g.S.Source.content c.next.new.source in
    let f : IsFeeding given.input left c.args.self.now.feed k.packets = subst (λ (b : Bool). ReadsOn b given.input left c.args.self.now.feed k.packets) c.requires.more k.read in
    let all : IfSome given.input (λ all. IsAll all k.packets) × IfSome left' (λ rest. rest ≡ []) =
    subst (λ (r : Result (Option ℕ) CarryFault). Feeds given.input left' c.next.new.self k.packets r) (c.in-Ok-None.is ∙ ap Ok c.in-Ok-None.field-0-is) (c.next.ensures.feeds given.input k.packets f) in
    carries_end given left left' sink trace c.args.self.now _ k all c.next.ensures.shape refl refl refl refl

pub returns-in-Err-clause-goes : goal.returns-in-Err-clause-goes
returns-in-Err-clause-goes g c = λ given sink trace k.
    let left = g.S.Source.content c.args.source.now in
    let left' = g.S.Source.content c.next.new.source in
    let f : IsFeeding given.input left c.args.self.now.feed k.packets = subst (λ (b : Bool). ReadsOn b given.input left c.args.self.now.feed k.packets) c.requires.more k.read in
    let stops = subst (λ (r : Result (Option ℕ) CarryFault). Feeds given.input left' c.next.new.self k.packets r) c.in-Err.is (c.next.ensures.feeds given.input k.packets f) in
    carries_whole given left sink trace c.args.self.now ⊥ (Err c.in-Err.fault) k stops
