use Rattle.std.proofs.Common.{◌≡◌, ℕ, ◌≤◌, ◌++◌, List, length, take, drop, ap, sym, subst, ◌∙◌, arith}
use Rattle.std.proofs.lemmas.List.{take-append-le, take-take, length-append}
use Rattle.host_link.specs.PuttingOut.{take_pdu}
use Rattle.bt_host.proofs.Reacting.{said_reacts}
use Rattle.bt_host.proofs.Resting.{none_goes_behind}
use Rattle.bt_host.proofs.stack.say_into.Goals as goal

-- what was written at the front of the room is the PDU that is exchanged
front_of_room : (size len : ℕ) (pdu into into' rest : List ℕ) → size ≡ length pdu → into' ≡ pdu ++ drop size into → size ≤ len → take size (take len (into' ++ rest)) ≡ take size into'
front_of_room size len pdu into into' rest size_is written fits =
    let long = length-append pdu (drop size into) in
    let whole = ap length written in
    take-take size len (into' ++ rest) fits ∙ take-append-le size into' rest (omega (arith, long, whole, size_is))

pub returns-clause-goes : goal.returns-clause-goes
returns-clause-goes g c =
    λ paged.
    let says = c.in_ok-size.ensures.says in
    said_reacts (g.E.End.profile c.args.upper.now.machine.settings) g.E.End.answers g.E.End.pushing paged c.args.link.now c.exchange_pdu.new.self c.args.upper.now c.say.new.self c.deref_mut.result.now c.say.new.into c.in_ok-size.size c.args.port.now c.say.new.port
    says c.requires.may (c.exchange_pdu.ensures.line ∙ ap (λ xs. take_pdu xs c.args.link.now) (front_of_room _ _ says.pdu _ _ _ says.size_is says.written (subst (λ n. c.in_ok-size.size ≤ n) (sym c.requires.room) c.in_ok-size.ensures.short)))

pub returns-clause-pieces : goal.returns-clause-pieces
returns-clause-pieces g c = none_goes_behind _ c.args.link.now c.exchange_pdu.new.self c.exchange_pdu.ensures.line
