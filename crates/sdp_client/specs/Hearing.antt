-- What a query makes of a reply.
use Rattle.std.specs.Prelude.{ℕ, ◌+◌, ◌==◌, nat_lt, if◌then◌else◌, List, ◌++◌, length, Option, Some, None}
use Rattle.sdp_elements.specs.declared.target.Target.{Target}
use Rattle.sdp_elements.specs.Targets.{target_in}
use Rattle.sdp_client.specs.declared.query.Stage.{Stage}
use Rattle.sdp_client.specs.declared.query.Stage.TheVariants as stages
use Rattle.sdp_client.specs.declared.reason.Found.{Found}
use Rattle.sdp_client.specs.declared.reason.Found.TheVariants.{More, Service, NoService, Refused}
use Rattle.sdp_client.specs.declared.reason.QueryReason.{QueryReason}
use Rattle.sdp_client.specs.declared.reason.QueryReason.TheVariants.{BadReply, ErrorCode, WrongTransaction, TooLong}
use Rattle.sdp_client.specs.Asking.{Asking}
use Rattle.sdp_client.specs.Replies.{PlainPart, PlainSaid, Gives, Failed, Nothing, said_in, is_of_another}

-- a query that is refused for good
abbrev pub ended : Asking → QueryReason → Asking
ended asking reason = record asking { stage = stages.Refused reason }

-- ---- the whole answer

-- a target that names a way to the service
abbrev pub found_target : Option ℕ → Option ℕ → Found
found_target None None = NoService
found_target None (Some rfcomm) = Service (record { l2cap = None; rfcomm = Some rfcomm })
found_target (Some l2cap) rfcomm = Service (record { l2cap = Some l2cap; rfcomm = rfcomm })

abbrev pub found_in : Option Target → Found
found_in None = Refused BadReply
found_in (Some target) = found_target target.l2cap target.rfcomm

abbrev pub stage_in : Option Target → Stage
stage_in None = stages.Refused BadReply
stage_in (Some target) = stages.Answered

-- what is found where all parts are joined
abbrev pub found_whole : List ℕ → Found
found_whole answer = found_in (target_in answer)

abbrev pub after_whole : Asking → Asking
after_whole asking = record asking { stage = stage_in (target_in asking.joined) }

-- ---- one part more

abbrev pub with_part : Asking → PlainPart → Asking
with_part asking part = record asking { joined = asking.joined ++ part.octets }

-- the next part is asked for with the next transaction
abbrev pub asks_on : Asking → List ℕ → Asking
asks_on asking continuation = record { stage = stages.Due; transaction = asking.transaction + 1; continuation = continuation; joined = asking.joined }

abbrev pub found_part : Asking → PlainPart → Found
found_part asking part =
    if nat_lt 4096 (length (asking.joined ++ part.octets)) then Refused TooLong
    else if length part.continuation == 0 then found_whole (asking.joined ++ part.octets)
    else More

abbrev pub after_part : Asking → PlainPart → Asking
after_part asking part =
    if nat_lt 4096 (length (asking.joined ++ part.octets)) then ended asking TooLong
    else if length part.continuation == 0 then after_whole (with_part asking part)
    else asks_on (with_part asking part) part.continuation

-- ---- a reply

abbrev pub found_said : Asking → PlainSaid → Found
found_said asking (Gives part) = found_part asking part
found_said asking (Failed code) = Refused (ErrorCode code)
found_said asking Nothing = Refused BadReply

abbrev pub when_said : Asking → PlainSaid → Asking
when_said asking (Gives part) = after_part asking part
when_said asking (Failed code) = ended asking (ErrorCode code)
when_said asking Nothing = ended asking BadReply

-- a reply where one is awaited
abbrev pub found_by : Asking → List ℕ → Found
found_by asking reply = if is_of_another reply asking.transaction then Refused WrongTransaction else found_said asking (said_in reply)

abbrev pub after_said : Asking → List ℕ → Asking
after_said asking reply = if is_of_another reply asking.transaction then asking else when_said asking (said_in reply)

-- where a query stands decides whether a reply is awaited
abbrev pub found_when : Stage → Asking → List ℕ → Found
found_when stages.Due asking reply = Refused WrongTransaction
found_when stages.Written asking reply = found_by asking reply
found_when stages.Again asking reply = found_by asking reply
found_when stages.Answered asking reply = Refused WrongTransaction
found_when (stages.Refused reason) asking reply = Refused reason

abbrev pub after_when : Stage → Asking → List ℕ → Asking
after_when stages.Due asking reply = asking
after_when stages.Written asking reply = after_said asking reply
after_when stages.Again asking reply = after_said asking reply
after_when stages.Answered asking reply = asking
after_when (stages.Refused reason) asking reply = asking

-- what a query finds at a reply, and what it is then
abbrev pub found_at : Asking → List ℕ → Found
found_at asking reply = found_when asking.stage asking reply

abbrev pub after_reply : Asking → List ℕ → Asking
after_reply asking reply = after_when asking.stage asking reply
