-- A host says less and less until it hears something: with each PDU the number of those that it may say falls.
use Rattle.std.specs.Prelude.{ℕ, zero, suc, ◌≡◌, ◌<◌, Bool, true, false, List, Option, Some, None, if◌then◌else◌}
use Rattle.std.proofs.Common.{subst, lt-suc_self}
use Rattle.channel_model.specs.Giving.{Given, next_given}
use Rattle.host_model.specs.Pdus.{pdu_of, is_frame}
use Rattle.host_model.specs.Profiles.{Profile}
use Rattle.host_model.specs.Hosts.{Host, after_said, says, next}

abbrev pub Fewer : {P : Type 0} → ℕ → Option (List ℕ × Host P) → Type 0
Fewer count None = Unit {0}
Fewer count (Some one) = one.1.may_say < count

frame_fewer : {P : Type 0} (A : Profile P) (test : Bool) (count : ℕ) (pdu : List ℕ) (host : Host P) → Fewer {P = P} (suc count) (if test then Some (pdu, after_said A count host) else None)
frame_fewer A true count pdu host = lt-suc_self count
frame_fewer A false count pdu host = tt

fewer : {P : Type 0} (A : Profile P) (given : Option Given) (count : ℕ) (host : Host P) → Fewer count (says A given count host)
fewer A None count host = tt
fewer A (Some given) zero host = tt
fewer A (Some given) (suc count) host = frame_fewer A (is_frame (pdu_of given)) count (pdu_of given) host

pub says_fewer : {P : Type 0} (A : Profile P) (host : Host P) → Fewer host.may_say (next A host)
says_fewer A host = fewer A (next_given host.channels) host.may_say host

pub says_less : {P : Type 0} (A : Profile P) (host : Host P) (pdu : List ℕ) (after : Host P) → next A host ≡ Some (pdu, after) → after.may_say < host.may_say
says_less A host pdu after same = subst (Fewer host.may_say) same (says_fewer A host)
