-- What holds of the echo (this project's own).
use Rattle.std.specs.Prelude.{ℕ, ◌≡◌, ◌≤◌, ◌<◌, ◌%◌, List, Option, Some, None, refl}
use Rattle.std.proofs.Common.{ap, subst, arith}
use Rattle.bt_base.specs.Octets.{IsOctets}
use Rattle.line_laws.specs.world_model.specs.Machines.{News, Linked, Failed, Heard, TimerFired, Cancelled, Opening}
use Rattle.line_laws.specs.Seeing.{SaysOctets}
use Rattle.radio_world.specs.settling_laws.specs.Weights.{SaysAtMost}
use Rattle.tiny_hosts.specs.declared.echo.Echo.{Echo}
use Rattle.tiny_hosts.specs.Minds.{Unasked, IsCounted}
use Rattle.tiny_hosts.specs.Talking.{one_more}
use Rattle.tiny_hosts.specs.Echoing.{echo, echo_next, left_by, said_by}
use Rattle.tiny_hosts.specs.TalkLaws.{pdu_octets, one_more_more, said}

said_octets : (answer : Option ℕ) (mind : Echo) (pdu : List ℕ) (after : Echo) → said_by answer mind ≡ Some (pdu, after) → IsOctets pdu
said_octets None mind pdu after is = cc
said_octets (Some octet) mind pdu after is = subst IsOctets (said _ _ _ _ is).0 (pdu_octets octet)

pub echo_octets : SaysOctets echo
echo_octets mind pdu after is = said_octets mind.answer mind pdu after is

said_counted : (answer : Option ℕ) (mind : Echo) (pdu : List ℕ) (after : Echo) → said_by answer mind ≡ Some (pdu, after) → mind.heard ≤ after.heard
said_counted None mind pdu after is = cc
said_counted (Some octet) mind pdu after is = let same = ap (λ (e : Echo). e.heard) (said _ _ _ _ is).1 in omega (arith, same)

pub echo_counted : IsCounted echo (λ echo. echo.heard)
echo_counted = record { hears = hears; says = λ mind pdu after is. said_counted mind.answer mind pdu after is }
  where
    hears : (answers : List Unasked) (news : News) (mind : Echo) → mind.heard ≤ (echo.hear answers news mind).heard
    hears answers (Linked event) mind = omega arith
    hears answers (Failed status) mind = omega arith
    hears answers (Heard pdu) mind = one_more_more mind.heard
    hears answers TimerFired mind = omega arith
    hears answers Cancelled mind = omega arith
    hears answers (Opening name) mind = omega arith

left_few : (answer : Option ℕ) → left_by answer ≤ 1
left_few None = omega arith
left_few (Some octet) = omega arith

-- it has one PDU to say at most
pub echo_one_more : SaysAtMost 1 echo
echo_one_more answers news mind = let few = left_few (echo.hear answers news mind).answer in omega (arith, few)
