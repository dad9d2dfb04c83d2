-- That a retransmission machine stands for numbers that never wrap (Core 5.1, Volume 3 Part A, 8.3 and 8.6).
use Rattle.std.specs.Prelude.{ℕ, ◌≡◌, ◌+◌, ◌%◌, ◌≤◌, List, None}
use Rattle.own_channel_laws.specs.talk_laws.specs.l2cap_config.specs.declared.wish.Agreed.{Agreed}
use Rattle.own_channel_laws.specs.talk_laws.specs.ertm_frames.specs.Picking.{Passage}
use Rattle.own_channel_laws.specs.channel_model.specs.ertm_model.specs.Runs.{Event, Course, new_course, all_happen}
use Rattle.own_channel_laws.specs.channel_model.specs.ertm_model.specs.Value.{Ertm, window_used}
use Rattle.window_laws.specs.Numbers.{numbers_of}

-- Of the frames that passed so many are acknowledged and went out as the machine says: it holds those that are not acknowledged, no more than its window, and it
-- counts from the first of them, modulo 64; and it expects the next one that did not come in.
pub record IsNumbered (window : ℕ) (m : Ertm) (passed : List Passage) : Type 0 where
  pub used : (numbers_of passed).acknowledged + window_used m ≡ (numbers_of passed).given
  pub within : window_used m ≤ window
  pub first_is : m.sender.first ≡ (numbers_of passed).acknowledged % 64
  pub expected_is : m.receiver.expected ≡ (numbers_of passed).accepted % 64

-- Whatever comes in: so it is while the machine is open. For it takes a ReqSeq as the one number between those that are acknowledged and those that went out, and
-- closes where there is none.
abbrev pub MachinesAreNumbered : Type 0
MachinesAreNumbered = (agreed : Agreed) (events : List Event) → agreed.send_window ≤ 63 → (let course : Course = all_happen events (new_course agreed) in
    course.machine.closed ≡ None → IsNumbered agreed.send_window course.machine course.passages)
