-- The counter and the echo are orderly.
use Rattle.std.proofs.Common.{◌≡◌, ℕ, ◌+◌, ◌==◌, nat_lt, Bool, true, false, List, Option, Some, None, if◌then◌else◌, refl, ap, ◌∙◌, subst, sym}
use Rattle.push_terms.specs.declared.outcome.Outcome.TheVariants as outcomes
use Rattle.line_laws.specs.world_model.specs.Machines.{News, Linked, Up, Down, Failed, Heard, TimerFired, Cancelled, Opening}
use Rattle.line_laws.specs.turn_laws.specs.Premises.{IsFrame, SaysFrames, IsAside, Idles}
use Rattle.line_laws.specs.rest_laws.specs.Premises.{AsksOnce, AreOrderly}
use Rattle.tiny_hosts.specs.declared.counter.Counter.{Counter}
use Rattle.tiny_hosts.specs.declared.counter.Stage.{Stage}
use Rattle.tiny_hosts.specs.declared.counter.Stage.TheVariants.{Resting, Calling, Saying, Waiting, Leaving}
use Rattle.tiny_hosts.specs.declared.echo.Echo.{Echo}
use Rattle.tiny_hosts.specs.Minds.{Unasked}
use Rattle.tiny_hosts.specs.Talking.{octet_in, one_more}
use Rattle.tiny_hosts.specs.TalkLaws.{pdu_frame, said}
use Rattle.tiny_hosts.specs.Counting.{counter, said_at, goes_on, heard_at, up_at, fired_at, is_talking, is_resting, is_calling, last_number}
use Rattle.tiny_hosts.specs.Echoing.{echo, said_by}

echo_frames_by : (answer : Option ℕ) (mind : Echo) (pdu : List ℕ) (after : Echo) → said_by answer mind ≡ Some (pdu, after) → IsFrame pdu
echo_frames_by None mind pdu after is = cc
echo_frames_by (Some octet) mind pdu after is = subst IsFrame (said _ _ _ _ is).0 (pdu_frame octet)

counter_frames_by : (stage : Stage) (mind : Counter) (pdu : List ℕ) (after : Counter) → said_at stage mind ≡ Some (pdu, after) → IsFrame pdu
counter_frames_by Saying mind pdu after is = subst IsFrame (said _ _ _ _ is).0 (pdu_frame mind.number)
counter_frames_by Resting mind pdu after is = cc
counter_frames_by Calling mind pdu after is = cc
counter_frames_by Waiting mind pdu after is = cc
counter_frames_by Leaving mind pdu after is = cc

-- ---- while it rests

rests_alone : (stage : Stage) → is_resting stage ≡ true → stage ≡ Resting
rests_alone Resting is = refl
rests_alone Calling is = cc
rests_alone Saying is = cc
rests_alone Waiting is = cc
rests_alone Leaving is = cc

no_call : (stage : Stage) → is_resting stage ≡ true → is_calling stage ≡ false
no_call stage is = ap is_calling (rests_alone stage is)

rests_hearing : (answers : List Unasked) (news : News) (mind : Counter) → IsAside news → is_resting mind.stage ≡ true → is_resting (counter.hear answers news mind).stage ≡ true
rests_hearing answers (Linked Up) mind aside is = ap (λ (s : Stage). is_resting (up_at s mind).stage) (rests_alone mind.stage is) ∙ is
rests_hearing answers (Linked (Down reason)) mind aside is = refl
rests_hearing answers (Failed status) mind aside is = is
rests_hearing answers (Heard pdu) mind aside is = ap (λ (s : Stage). is_resting (heard_at s (octet_in pdu) (record mind { heard = one_more mind.heard })).stage) (rests_alone mind.stage is) ∙ is
rests_hearing answers TimerFired mind aside is = ap (λ (s : Stage). is_resting (fired_at s mind).stage) (rests_alone mind.stage is) ∙ is
rests_hearing answers Cancelled mind aside is =
    ap (λ (s : Stage). is_resting (if is_talking s then record mind { stage = Leaving; outcome = Some outcomes.Cancelled } else mind).stage) (rests_alone mind.stage is) ∙ is
rests_hearing answers (Opening name) mind aside is = absurd aside

rests_saying : (stage : Stage) (mind : Counter) (pdu : List ℕ) (after : Counter) → said_at stage mind ≡ Some (pdu, after) → is_resting stage ≡ true → is_resting after.stage ≡ true
rests_saying Saying mind pdu after said is = cc
rests_saying Resting mind pdu after said is = cc
rests_saying Calling mind pdu after said is = cc
rests_saying Waiting mind pdu after said is = cc
rests_saying Leaving mind pdu after said is = cc

-- ---- it asks for one link

called_if : (is : Bool) (one two : Counter) → is_calling one.stage ≡ false → is_calling two.stage ≡ false → is_calling (if is then one else two).stage ≡ false
called_if true one two first second = first
called_if false one two first second = second

up_called : (stage : Stage) (mind : Counter) → mind.stage ≡ stage → is_calling (up_at stage mind).stage ≡ false
up_called Calling mind is = refl
up_called Resting mind is = ap is_calling is
up_called Saying mind is = ap is_calling is
up_called Waiting mind is = ap is_calling is
up_called Leaving mind is = ap is_calling is

heard_called : (stage : Stage) (octet : ℕ) (mind : Counter) → is_calling mind.stage ≡ false → is_calling (heard_at stage octet mind).stage ≡ false
heard_called Waiting octet mind none =
    called_if (octet == mind.number) (goes_on mind) mind
    (called_if (nat_lt mind.number last_number) (record mind { stage = Saying; number = mind.number + 1 }) (record mind { stage = Leaving; outcome = Some outcomes.Done }) refl refl) none
heard_called Resting octet mind none = none
heard_called Calling octet mind none = none
heard_called Saying octet mind none = none
heard_called Leaving octet mind none = none

fired_called : (stage : Stage) (mind : Counter) → is_calling mind.stage ≡ false → is_calling (fired_at stage mind).stage ≡ false
fired_called Waiting mind none = refl
fired_called Resting mind none = none
fired_called Calling mind none = none
fired_called Saying mind none = none
fired_called Leaving mind none = none

calls_hearing : (answers : List Unasked) (news : News) (mind : Counter) → IsAside news → is_calling mind.stage ≡ false → is_calling (counter.hear answers news mind).stage ≡ false
calls_hearing answers (Linked Up) mind aside none = up_called mind.stage mind refl
calls_hearing answers (Linked (Down reason)) mind aside none = refl
calls_hearing answers (Failed status) mind aside none = none
calls_hearing answers (Heard pdu) mind aside none = heard_called mind.stage (octet_in pdu) (record mind { heard = one_more mind.heard }) none
calls_hearing answers TimerFired mind aside none = fired_called mind.stage mind none
calls_hearing answers Cancelled mind aside none = called_if (is_talking mind.stage) (record mind { stage = Leaving; outcome = Some outcomes.Cancelled }) mind refl none
calls_hearing answers (Opening name) mind aside none = absurd aside

calls_saying : (stage : Stage) (mind : Counter) (pdu : List ℕ) (after : Counter) → said_at stage mind ≡ Some (pdu, after) → is_calling after.stage ≡ false
calls_saying Saying mind pdu after is = ap (λ (c : Counter). is_calling c.stage) (sym (said _ _ _ _ is).1)
calls_saying Resting mind pdu after is = cc
calls_saying Calling mind pdu after is = cc
calls_saying Waiting mind pdu after is = cc
calls_saying Leaving mind pdu after is = cc

pub are_orderly : AreOrderly counter echo
are_orderly = record {
  frames_a = λ mind pdu after is. counter_frames_by mind.stage mind pdu after is;
  frames_b = λ mind pdu after is. echo_frames_by mind.answer mind pdu after is;
  idles = record {
    first = refl;
    wants_none = λ mind is. no_call mind.stage is;
    hears = rests_hearing;
    says = λ mind pdu after is rests. rests_saying mind.stage mind pdu after is rests;
  };
  once = record {
    comes = λ answers mind. up_called mind.stage mind refl;
    hears = calls_hearing;
    says = λ mind pdu after is none. calls_saying mind.stage mind pdu after is;
  };
}
