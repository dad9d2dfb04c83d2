-- A host that says again what it hears (this project's own).
use Rattle.std.specs.Prelude.{ℕ, ◌≡◌, ◌<◌, Bool, true, false, List, Option, Some, None, is_some}
use Rattle.std.proofs.Common.{refl, ap, arith}
use Rattle.line_laws.specs.world_model.specs.Machines.{News, Linked, Heard, TimerFired, Upper}
use Rattle.tiny_hosts.specs.declared.echo.Echo.{Echo}
use Rattle.tiny_hosts.specs.Minds.{Unasked}
use Rattle.tiny_hosts.specs.Talking.{pdu_of, octet_in, one_more}

abbrev pub first_echo : Echo
first_echo = record { answer = None; last = None; heard = 0 }

abbrev pub echo_hears : List Unasked → News → Echo → Echo
echo_hears answers (Linked event) echo = record echo { answer = None; last = None }
echo_hears answers (Heard pdu) echo = record { answer = Some (octet_in pdu); last = Some (octet_in pdu); heard = one_more echo.heard }
echo_hears answers TimerFired echo = record echo { answer = echo.last }
echo_hears answers news echo = echo

abbrev pub said_by : Option ℕ → Echo → Option (List ℕ × Echo)
said_by None echo = None
said_by (Some octet) echo = Some (pdu_of octet, record echo { answer = None })

abbrev pub echo_next : Echo → Option (List ℕ × Echo)
echo_next echo = said_by echo.answer echo

abbrev pub left_by : Option ℕ → ℕ
left_by None = 0
left_by (Some octet) = 1

abbrev pub echo_left : Echo → ℕ
echo_left echo = left_by echo.answer

after_said : Option (List ℕ × Echo) → Echo
after_said None = first_echo
after_said (Some one) = one.1

falls_by : (answer : Option ℕ) (echo : Echo) (pdu : List ℕ) (after : Echo) → said_by answer echo ≡ Some (pdu, after) → echo_left after < left_by answer
unfolding after_said
falls_by None echo pdu after is = cc
falls_by (Some octet) echo pdu after is = let same = ap after_said is in rw (← same) (omega arith)

pub echo_falls : (echo : Echo) (pdu : List ℕ) (after : Echo) → echo_next echo ≡ Some (pdu, after) → echo_left after < echo_left echo
echo_falls echo pdu after is = falls_by echo.answer echo pdu after is

-- it takes part in no push, and never ends its link
abbrev pub echo : Upper Echo Unasked
echo = record {
  first = first_echo;
  hear = echo_hears;
  next = echo_next;
  left = echo_left;
  falls = echo_falls;
  wants_link = λ echo. false;
  leaves_link = λ echo. false;
  is_idle = λ echo. true;
  outcome = λ echo. None;
  armed = λ echo. is_some echo.last;
  may_cancel = λ echo. false;
  has_check = λ echo channel. true;
}
