-- The end of a server, as its profile (this project's own).
use Rattle.std.specs.Prelude.{◌≡◌, ◌≤◌, Bool, false, List}
use Rattle.std.specs.List.{AllByRecursion}
use Rattle.bt_base.specs.Counts.{HasRisen}
use Rattle.bt_base.specs.Objects.{Contents}
use Rattle.bt_base.specs.declared.settings.Settings.{Settings}
use Rattle.std.specs.Prelude.{Option, None, ℕ}
use Rattle.shelf_model.specs.obex_session.specs.Counting.{AreCounted, counts_of}
use Rattle.push_model.specs.Server.{Server}
use Rattle.push_model.specs.Sessions.{is_pending}
use Rattle.answer_laws.specs.Memory.{HadMemory}
use Rattle.push_profile.specs.Serving.{has_failed}
use Rattle.shelf_model.specs.host_model.specs.Circumstances.{Circumstance, answers_in}
use Rattle.shelf_model.specs.host_model.specs.Endpoints.{Endpoint}
use Rattle.shelf_model.specs.host_model.specs.Profiles.{Profile}
use Rattle.shelf_model.specs.host_model.specs.Servers.{ServerProfile, server_profile}

-- a server, the channel that brought the last SDU for each PSM, and whether it ends the link
pub record Served : Type 0 where
  pub server : Server
  pub endpoints : List Endpoint
  pub breaks : Bool

-- with what its inbox holds and is to answer
abbrev pub serving : Served → Option Contents → List Circumstance → ServerProfile
serving end content rest = record {
  server = end.server;
  inbox = record { content = content; answers = answers_in rest };
  endpoints = end.endpoints;
  breaks = end.breaks;
}

-- The profile of a server: it reads what its inbox answers off its own state, and is given no more of it. What its inbox holds at first is
-- told by its port.
abbrev pub profile_of : Settings → Profile ServerProfile
profile_of settings = record (server_profile settings None) { given = λ circumstances serving. serving }

-- its inbox has an object pending exactly where one is under way, and was not short of memory
pub record Works (end : Served) (pending : Bool) : Type 0 where
  pub under_way : pending ≡ is_pending end.server.listener.service.sessions
  pub sound : has_failed end.server ≡ false

-- ---- a server as a host, by what its inbox holds, and by its counts

-- The inbox gave these answers: both counts say what they are, and none of them is want of memory.
pub record Asks {P : Type 0} (faults shortages : P → ℕ) (first : P) (used : List Circumstance) (last : P) : Type 0 where
  pub counted : AreCounted (answers_in used) (counts_of faults shortages first) (counts_of faults shortages last)
  pub none_short : AllByRecursion HadMemory (answers_in used)

abbrev pub Lacks : {P : Type 0} → (P → ℕ) → P → P → Type 0
Lacks shortages first last = HasRisen (shortages first) (shortages last) × (shortages first ≤ shortages last)

abbrev pub served_by : {P : Type 0} → (P → Option Contents) → Served → P → List Circumstance → ServerProfile
served_by content end port rest = serving end (content port) rest
