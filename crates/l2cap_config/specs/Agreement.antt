-- How a wish and the options of the other side meet (Core 5.1, Volume 3 Part A, sections 4.5, 5.4 and 7.1).
use Rattle.std.specs.Prelude.{ℕ, Bool, not, ◌==◌, ◌&&◌, ◌||◌, nat_lt, min, if◌then◌else◌, length, Option, Some, None, unwrap_or}
use Rattle.l2cap_config.specs.declared.options.ModeOption.{ModeOption}
use Rattle.l2cap_config.specs.declared.options.Options.{Options}
use Rattle.l2cap_config.specs.declared.options.ConfigRefusal.TheVariants.{BadMtu, BadMode, BadWindow, BadMps}
use Rattle.l2cap_config.specs.declared.wish.Mode.{Mode}
use Rattle.l2cap_config.specs.declared.wish.Mode.TheVariants.{Basic, Enhanced}
use Rattle.l2cap_config.specs.declared.wish.Wish.{Wish}
use Rattle.l2cap_config.specs.declared.wish.Agreed.{Agreed}
use Rattle.l2cap_config.specs.declared.agreement.ConfigAnswer.{ConfigAnswer}
use Rattle.l2cap_config.specs.declared.agreement.ConfigAnswer.TheVariants.{Accept, Unacceptable, Unknown}
use Rattle.l2cap_config.specs.declared.agreement.Settled.{Settled}
use Rattle.l2cap_config.specs.declared.agreement.Settled.TheVariants.{Accepted, Again, Wait, Never}
use Rattle.l2cap_config.specs.Items.{no_options}

-- ---- what options ask for

abbrev pub mode_number : Mode → ℕ
mode_number Basic = 0x00
mode_number Enhanced = 0x03

-- a mode option of basic mode: nothing behind the mode counts
abbrev pub basic_mode : ModeOption
basic_mode = record { mode = 0x00; window = 0; tries = 0; retransmit = 0; monitor = 0; mps = 0 }

-- without a mode option the mode is basic
abbrev pub asked_mode : Options → ModeOption
asked_mode options = unwrap_or options.mode basic_mode

-- without an MTU option the MTU is 672
abbrev pub asked_mtu : Options → ℕ
asked_mtu options = unwrap_or options.mtu 672

-- ---- what is answered to a configuration request

-- a mode option of a response, with times of 2 and 12 seconds (the times are this project's own)
abbrev pub answered_mode : ℕ → ℕ → ℕ → ModeOption
answered_mode window tries mps = record { mode = 0x03; window = window; tries = tries; retransmit = 2000; monitor = 12000; mps = mps }

abbrev pub own_mode : Wish → Mode → ModeOption
own_mode wish Basic = basic_mode
own_mode wish Enhanced = answered_mode wish.window wish.tries wish.mps

abbrev pub only_mode : ModeOption → Options
only_mode mode = record no_options { mode = Some mode }

abbrev pub only_mtu : ℕ → Options
only_mtu mtu = record no_options { mtu = Some mtu }

-- the rows on the values of enhanced retransmission mode, which basic mode does not have
abbrev pub answered_values : Mode → ModeOption → ConfigAnswer
answered_values Basic asked = Accept no_options
answered_values Enhanced asked =
    if (asked.window == 0) || nat_lt 63 asked.window then Unacceptable BadWindow (only_mode (answered_mode 10 asked.tries asked.mps)) else
    if nat_lt asked.mps 8 then Unacceptable BadMps (only_mode (answered_mode asked.window asked.tries 48)) else
    Accept (only_mode (answered_mode asked.window asked.tries asked.mps))

-- the table, whose rows are tried from the first on; that order and the values that are suggested in place
-- of refused ones are this project's own
abbrev pub answered : Wish → Options → ConfigAnswer
answered wish options =
    if not (length options.unknown == 0) then Unknown else
    if not ((asked_mode options).mode == mode_number wish.mode) then Unacceptable BadMode (only_mode (own_mode wish wish.mode)) else
    if nat_lt (asked_mtu options) 48 then Unacceptable BadMtu (only_mtu 48) else
    answered_values wish.mode (asked_mode options)

-- ---- what follows from a configuration response

-- no value that is suggested is taken above the own one
abbrev pub bounded : Wish → ModeOption → ModeOption
bounded wish suggested = record {
  mode = 0x03;
  window = min suggested.window wish.window;
  tries = min suggested.tries wish.tries;
  retransmit = 0;
  monitor = 0;
  mps = min suggested.mps wish.mps;
}

abbrev pub requested_mode : Wish → Mode → Option ModeOption → Option ModeOption
requested_mode wish Basic suggested = None
requested_mode wish Enhanced suggested = Some (bounded wish (unwrap_or suggested (own_mode wish Enhanced)))

-- the next request: the suggested values within the own ones, and the own ones where none is suggested
abbrev pub requested : Wish → Options → Options
requested wish suggested = record no_options {
  mtu = Some (min (unwrap_or suggested.mtu wish.mtu) wish.mtu);
  mode = requested_mode wish wish.mode suggested.mode;
}

-- no other mode is suggested
abbrev pub keeps_mode : Wish → Options → Bool
keeps_mode wish suggested = (unwrap_or suggested.mode (own_mode wish wish.mode)).mode == mode_number wish.mode

-- the results of a response (4.5): 0 success, 1 unacceptable, 4 pending
abbrev pub settled : Wish → ℕ → Options → Settled
settled wish code options =
    if code == 0 then Accepted else
    if code == 4 then Wait else
    if (code == 1) && keeps_mode wish options then Again (requested wish options) else
    Never

-- ---- the agreement

-- at most 1010 octets, so that a frame fits the greatest packet of the link; basic mode has no frames
abbrev pub sent_mps : Mode → ModeOption → ℕ
sent_mps Basic asked = 0
sent_mps Enhanced asked = min asked.mps 1010

abbrev pub sent_window : Mode → ModeOption → ℕ → ℕ
sent_window Basic asked own = 0
sent_window Enhanced asked own = min asked.window own

-- what a side sends by is the other's to say, what it receives by its own (7.1)
abbrev pub agreed_on : Wish → Options → Agreed
agreed_on mine peer = record {
  mode = mine.mode;
  send_mtu = asked_mtu peer;
  receive_mtu = mine.mtu;
  send_mps = sent_mps mine.mode (asked_mode peer);
  receive_mps = mine.mps;
  send_window = sent_window mine.mode (asked_mode peer) mine.window;
  receive_window = mine.window;
  tries = mine.tries;
}

abbrev pub agreed_if : ConfigAnswer → Agreed → Option Agreed
agreed_if (Accept options) agreement = Some agreement
agreed_if (Unacceptable refusal options) agreement = None
agreed_if Unknown agreement = None

-- there is an agreement exactly where the other's options are accepted
abbrev pub agreed : Wish → Options → Option Agreed
agreed mine peer = agreed_if (answered mine peer) (agreed_on mine peer)
