-- Calls of an inbox, made one after the other up to the first that fails (this project's own).
use Rattle.std.specs.Prelude.{ℕ, List, [], ◌∷◌, Option, Result, Ok, Err}
use Rattle.std.specs.Option.{option_map}
use Rattle.bt_base.specs.Objects.{Contents, begun, appended, committed, aborted}
use Rattle.bt_base.specs.declared.ports.PortFault.{PortFault}

pub data InboxCall : Type 0 where
  Begin : (name : List ℕ) → InboxCall
  Append : (piece : List ℕ) → InboxCall
  Commit : InboxCall
  Abort : InboxCall

-- what a call does that succeeds
abbrev pub done_by : InboxCall → Contents → Contents
done_by (Begin name) = begun name
done_by (Append piece) = appended piece
done_by Commit = committed
done_by Abort = aborted

-- what all of them do
abbrev pub all_done : List InboxCall → Contents → Contents
all_done [] contents = contents
all_done (call ∷ calls) contents = all_done calls (done_by call contents)

-- what an inbox answers a call
abbrev pub Answer : Type 0
Answer = Result (Unit {0}) PortFault

-- The calls are given the answers in order, and none is made behind one that fails; where no answer is left, a call
-- succeeds. What comes of the calls: the fault of the one that failed, if one did;
abbrev pub come_of : List InboxCall → List Answer → Answer
come_of [] answers = Ok tt
come_of (call ∷ calls) [] = Ok tt
come_of (call ∷ calls) (Ok done ∷ answers) = come_of calls answers
come_of (call ∷ calls) (Err fault ∷ answers) = Err fault

-- the answers that are left;
abbrev pub left_by : List InboxCall → List Answer → List Answer
left_by [] answers = answers
left_by (call ∷ calls) [] = []
left_by (call ∷ calls) (Ok done ∷ answers) = left_by calls answers
left_by (call ∷ calls) (Err fault ∷ answers) = answers

-- and what the inbox holds: after a fault none is pending.
abbrev pub held_after : List InboxCall → List Answer → Option Contents → Option Contents
held_after [] answers content = content
held_after (call ∷ calls) [] content = held_after calls [] (option_map (done_by call) content)
held_after (call ∷ calls) (Ok done ∷ answers) content = held_after calls answers (option_map (done_by call) content)
held_after (call ∷ calls) (Err fault ∷ answers) content = option_map aborted content
