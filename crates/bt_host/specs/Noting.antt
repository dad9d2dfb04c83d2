-- What a host notes on its way: how far it came with what its channels limit (this project's own).
use Rattle.std.specs.Prelude.{ℕ, List, max}
use Rattle.channel_model.specs.Value.{Channels}
use Rattle.channel_model.specs.Calls.{window_used}
use Rattle.shelf_model.specs.host_model.specs.Circumstances.{Circumstance}
use Rattle.shelf_model.specs.host_model.specs.Profiles.{Stride, Profile}

-- an end, and the greatest numbers so far: of the frames of one enhanced channel that are not acknowledged, and of the credits that are
-- held
pub record Noted (E : Type 0) : Type 0 where
  pub end : E
  pub window : ℕ
  pub credits : ℕ

-- nothing was held yet
abbrev pub unnoted : {E : Type 0} → E → Noted E
unnoted end = record { end = end; window = 0; credits = 0 }

-- another end, with what was noted so far
abbrev pub with_end : {E F : Type 0} → F → Noted E → Noted F
with_end end noted = record { end = end; window = noted.window; credits = noted.credits }

-- what the channels and the end hold now is noted, where it is more
abbrev pub notes : {S : Type 0} → (S → ℕ) → Channels → Noted S → Noted S
notes credits_in channels noted = record noted { window = max noted.window (window_used channels); credits = max noted.credits (credits_in noted.end) }

-- ---- a profile that notes

abbrev pub stride_noted : {S : Type 0} → Stride S → Noted S → Stride (Noted S)
stride_noted stride noted = record { channels = stride.channels; profile = with_end stride.profile noted; more = stride.more }

-- It is the profile that it was, and notes what is held behind each thing that its host heard or said, and behind each of its steps: there
-- the host lets it settle. Credits are noted before its next step uses them.
abbrev pub noting : {S : Type 0} → (S → ℕ) → Profile S → Profile (Noted S)
noting credits_in A = record {
  policy = A.policy;
  first = unnoted A.first;
  given = λ circumstances noted. with_end (A.given circumstances noted.end) noted;
  told = λ circumstances news noted. with_end (A.told circumstances news noted.end) noted;
  received = λ own psm sdu noted. with_end (A.received own psm sdu noted.end) noted;
  happened = λ event channels noted. with_end (A.happened event channels noted.end) noted;
  sent = λ channels noted. notes credits_in channels (with_end (A.sent channels noted.end) noted);
  steps = λ channels noted. stride_noted (A.steps channels noted.end) noted;
  wants_link = λ noted. A.wants_link noted.end;
  leaves_link = λ noted. A.leaves_link noted.end;
  is_idle = λ noted. A.is_idle noted.end;
  outcome = λ noted. A.outcome noted.end;
  armed = λ noted. A.armed noted.end;
  may_cancel = λ noted. A.may_cancel noted.end;
}

abbrev pub noting_by : {E P S : Type 0} → (E → P → List Circumstance → S) → Noted E → P → List Circumstance → Noted S
noting_by pushing noted port rest = with_end (pushing noted.end port rest) noted
