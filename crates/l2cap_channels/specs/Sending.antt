-- What is answered to an SDU that is to be sent.
use Rattle.std.specs.Prelude.{ℕ, ◌≡◌, ◌&&◌, not, nat_le, Bool, true, false, List, Option, Some, None}
use Rattle.channel_model.specs.Value.{Channels}
use Rattle.channel_model.specs.Calls.{peer_mtu, waits, sends}
use Rattle.l2cap_channels.specs.Machine.{Machine, with_channels}
use Rattle.l2cap_channels.specs.declared.answers.SendAnswer.{SendAnswer}
use Rattle.l2cap_channels.specs.declared.answers.SendAnswer.TheVariants.{Taken, Busy, NotOpen}

abbrev pub taken_answer : Bool → SendAnswer
taken_answer true = Busy
taken_answer false = Taken

abbrev pub send_answer : Option ℕ → Bool → SendAnswer
send_answer None waiting = NotOpen
send_answer (Some mtu) waiting = taken_answer waiting

pub record Sends (old : Machine) (own : ℕ) (sdu : List ℕ) (result : SendAnswer) (new : Machine) : Type 0 where
  pub answer : result ≡ send_answer (peer_mtu own old.channels) (waits own old.channels)
  pub after : new ≡ with_channels old (sends own sdu old.channels)

abbrev pub fits : ℕ → Option ℕ → Bool
fits size None = false
fits size (Some mtu) = nat_le size mtu

-- an SDU of so many octets would be taken
abbrev pub takes : (own size : ℕ) → Channels → Bool
takes own size v = fits size (peer_mtu own v) && not (waits own v)
