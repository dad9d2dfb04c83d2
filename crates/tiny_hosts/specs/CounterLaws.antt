-- What holds of the counter (this project's own).
use Rattle.std.specs.Prelude.{ℕ, ◌≡◌, ◌≤◌, ◌+◌, ◌==◌, nat_lt, Bool, true, false, List, Option, Some, None, refl, if◌then◌else◌}
use Rattle.std.proofs.Common.{ap, subst, arith}
use Rattle.bt_base.specs.Octets.{IsOctets}
use Rattle.push_terms.specs.declared.outcome.Outcome.TheVariants as outcomes
use Rattle.push_terms.specs.declared.word.Side.{Side}
use Rattle.push_terms.specs.declared.word.Side.TheVariants.{A, B}
use Rattle.line_laws.specs.world_model.specs.Machines.{News, Linked, Up, Down, Failed, Heard, TimerFired, Cancelled, Opening}
use Rattle.line_laws.specs.Seeing.{SaysOctets}
use Rattle.radio_world.specs.settling_laws.specs.Weights.{SaysAtMost}
use Rattle.tiny_hosts.specs.declared.counter.Counter.{Counter}
use Rattle.tiny_hosts.specs.declared.counter.Stage.{Stage}
use Rattle.tiny_hosts.specs.declared.counter.Stage.TheVariants.{Resting, Calling, Saying, Waiting, Leaving}
use Rattle.tiny_hosts.specs.Minds.{Unasked, IsCounted}
use Rattle.tiny_hosts.specs.Talking.{octet_in, one_more}
use Rattle.tiny_hosts.specs.Counting.{counter, said_at, goes_on, heard_at, up_at, fired_at, left_at, is_talking, last_number}
use Rattle.tiny_hosts.specs.TalkLaws.{pdu_octets, one_more_more, said}

-- it is above host a
pub counter_called : A ≡ B → (mind : Counter) → counter.wants_link mind ≡ false
counter_called is = cc

said_octets : (stage : Stage) (mind : Counter) (pdu : List ℕ) (after : Counter) → said_at stage mind ≡ Some (pdu, after) → IsOctets pdu
said_octets Saying mind pdu after is = subst IsOctets (said _ _ _ _ is).0 (pdu_octets mind.number)
said_octets Resting mind pdu after is = cc
said_octets Calling mind pdu after is = cc
said_octets Waiting mind pdu after is = cc
said_octets Leaving mind pdu after is = cc

pub counter_octets : SaysOctets counter
counter_octets mind pdu after is = said_octets mind.stage mind pdu after is

said_counted : (stage : Stage) (mind : Counter) (pdu : List ℕ) (after : Counter) → said_at stage mind ≡ Some (pdu, after) → mind.heard ≤ after.heard
said_counted Saying mind pdu after is = let same = ap (λ (c : Counter). c.heard) (said _ _ _ _ is).1 in omega (arith, same)
said_counted Resting mind pdu after is = cc
said_counted Calling mind pdu after is = cc
said_counted Waiting mind pdu after is = cc
said_counted Leaving mind pdu after is = cc

-- what changes leaves the count
alike_if : (is : Bool) (one two : Counter) (n : ℕ) → one.heard ≡ n → two.heard ≡ n → (if is then one else two).heard ≡ n
alike_if true one two n first second = first
alike_if false one two n first second = second

heard_alike : (stage : Stage) (octet : ℕ) (mind : Counter) → (heard_at stage octet mind).heard ≡ mind.heard
heard_alike Waiting octet mind =
    alike_if (octet == mind.number) (goes_on mind) mind mind.heard
    (alike_if (nat_lt mind.number last_number) (record mind { stage = Saying; number = mind.number + 1 }) (record mind { stage = Leaving; outcome = Some outcomes.Done }) mind.heard refl refl) refl
heard_alike Resting octet mind = refl
heard_alike Calling octet mind = refl
heard_alike Saying octet mind = refl
heard_alike Leaving octet mind = refl

up_alike : (stage : Stage) (mind : Counter) → (up_at stage mind).heard ≡ mind.heard
up_alike Calling mind = refl
up_alike Resting mind = refl
up_alike Saying mind = refl
up_alike Waiting mind = refl
up_alike Leaving mind = refl

fired_alike : (stage : Stage) (mind : Counter) → (fired_at stage mind).heard ≡ mind.heard
fired_alike Waiting mind = refl
fired_alike Resting mind = refl
fired_alike Calling mind = refl
fired_alike Saying mind = refl
fired_alike Leaving mind = refl

pub counter_counted : IsCounted counter (λ counter. counter.heard)
counter_counted = record { hears = hears; says = λ mind pdu after is. said_counted mind.stage mind pdu after is }
  where
    hears : (answers : List Unasked) (news : News) (mind : Counter) → mind.heard ≤ (counter.hear answers news mind).heard
    hears answers (Linked Up) mind = let same = up_alike mind.stage mind in omega (arith, same)
    hears answers (Linked (Down reason)) mind = omega arith
    hears answers (Failed status) mind = omega arith
    hears answers (Heard pdu) mind =
        let same = heard_alike mind.stage (octet_in pdu) (record mind { heard = one_more mind.heard }) in
        let more = one_more_more mind.heard in
        omega (arith, same, more)
    hears answers TimerFired mind = let same = fired_alike mind.stage mind in omega (arith, same)
    hears answers Cancelled mind = let same = alike_if (is_talking mind.stage) (record mind { stage = Leaving; outcome = Some outcomes.Cancelled }) mind mind.heard refl refl in omega (arith, same)
    hears answers (Opening name) mind = omega arith

left_few : (stage : Stage) → left_at stage ≤ 1
left_few Saying = omega arith
left_few Resting = omega arith
left_few Calling = omega arith
left_few Waiting = omega arith
left_few Leaving = omega arith

-- it has one PDU to say at most
pub counter_one_more : SaysAtMost 1 counter
counter_one_more answers news mind = let few = left_few (counter.hear answers news mind).stage in omega (arith, few)
