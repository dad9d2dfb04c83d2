-- Which things that happen to a client over any controller bring the outcome of its push about (Core 5.1, Volume 2 Part D, 1.3, and Part E, 7.7.3 and 7.7.5;
-- IrOBEX 1.5, 3.2 and 3.4).
use Rattle.std.specs.Prelude.{ℕ, ◌≡◌, ◌==◌, ◌&&◌, ◌||◌, ◌⊎◌, not, Bool, true, false, List, [], ◌∷◌, ◌++◌, fold, slice_index, Option, Some, None, IfSome, if◌then◌else◌}
use Rattle.cause_laws.specs.bt_base.specs.declared.settings.Settings.{Settings}
use Rattle.unit_laws.specs.scenario_laws.specs.h4_framing.specs.Packets.{Packet, Event}
use Rattle.unit_laws.specs.scenario_laws.specs.host_link.specs.declared.role.Role.TheVariants.{Client as Paging}
use Rattle.cause_laws.specs.push_terms.specs.declared.outcome.Outcome.{Outcome}
use Rattle.cause_laws.specs.push_terms.specs.declared.outcome.Outcome.TheVariants.{LinkLost, RetryLimit, ShelfFault, Cancelled as PushCancelled, PeerClosed, PeerFault, ScriptEnded}
use Rattle.cause_laws.specs.world_model.specs.Machines.{News, TimerFired, Cancelled, Opening}
use Rattle.cause_laws.specs.host_model.specs.Circumstances.{Circumstance}
use Rattle.cause_laws.specs.host_model.specs.Clients.{ClientProfile, client_profile}
use Rattle.cause_laws.specs.host_model.specs.Hosts.{Host}
use Rattle.cause_laws.specs.host_model.specs.Machines.{upper}
use Rattle.cause_laws.specs.FirstCauses.{is_piece_packet, reason_told, IsLoss, may_blame}
use Rattle.unit_laws.specs.Units.{Lined, Occasion, Comes, Learns, starting, Runs, Whatever}

-- ---- what happens to a client

abbrev pub is_cancel_news : News → Bool
is_cancel_news Cancelled = true
is_cancel_news news = false

abbrev pub is_firing_news : News → Bool
is_firing_news TimerFired = true
is_firing_news news = false

abbrev pub is_begin_news : News → Bool
is_begin_news (Opening name) = true
is_begin_news news = false

-- its push is cancelled, its timer fires, a push begins
abbrev pub is_cancel : {G : Type 0} → Occasion G → Bool
is_cancel (Learns gifts news) = is_cancel_news news
is_cancel one = false

abbrev pub is_firing : {G : Type 0} → Occasion G → Bool
is_firing (Learns gifts news) = is_firing_news news
is_firing one = false

abbrev pub is_begin : {G : Type 0} → Occasion G → Bool
is_begin (Learns gifts news) = is_begin_news news
is_begin one = false

-- a piece of a PDU comes in
abbrev pub is_piece : {G : Type 0} → Occasion G → Bool
is_piece (Comes gifts unit) = is_piece_packet unit
is_piece one = false

-- Disconnection Complete with status 0, and its reason
abbrev pub end_reason : {G : Type 0} → Occasion G → Option ℕ
end_reason (Comes gifts unit) = reason_told unit
end_reason one = None

-- Connection Complete with another status
abbrev pub status_told : Packet → Option ℕ
status_told (Event code params) = if (code == 0x03) && not (slice_index params 0 == 0) then Some (slice_index params 0) else None
status_told packet = None

abbrev pub failed_status : {G : Type 0} → Occasion G → Option ℕ
failed_status (Comes gifts unit) = status_told unit
failed_status one = None

abbrev pub is_number : ℕ → Option ℕ → Bool
is_number number None = false
is_number number (Some other) = other == number

-- ---- since a push began

abbrev pub since_more : {G : Type 0} → List (Occasion G) → Occasion G → List (Occasion G)
since_more part one = if is_begin one then [] else part ++ one ∷ []

abbrev pub since_begun : {G : Type 0} → List (Occasion G) → List (Occasion G)
since_begun occasions = fold since_more [] occasions

-- ---- what brings an outcome about

-- the peer may be found at fault of a layer for this reason: of HCI its controller's status, as the link was not made; of another layer with a PDU, and of L2CAP, 2, also
-- where the timer fires
abbrev pub finds_fault : {G : Type 0} → (layer reason : ℕ) → Occasion G → Bool
finds_fault layer reason one = ((layer == 1) && is_number reason (failed_status one)) || ((may_blame layer && is_piece one) || ((layer == 2) && is_firing one))

abbrev pub BringsAbout : {G : Type 0} → Outcome → Occasion G → Type 0
BringsAbout LinkLost one = IsLoss (end_reason one)
BringsAbout PushCancelled one = is_cancel one ≡ true
BringsAbout RetryLimit one = (is_piece one || is_firing one) ≡ true
BringsAbout (PeerFault layer reason) one = finds_fault layer reason one ≡ true
BringsAbout PeerClosed one = (is_piece one ≡ true) ⊎ (end_reason one ≡ Some 0x13)
BringsAbout ShelfFault one = ⊥
BringsAbout ScriptEnded one = ⊥
BringsAbout outcome one = is_piece one ≡ true

-- One thing of the part brought the outcome about; it is not said that nothing of the kind stands ahead.
pub record IsBroughtAbout {G : Type 0} (outcome : Outcome) (part : List (Occasion G)) : Type 0 where
  pub before : List (Occasion G)
  pub one : Occasion G
  pub after : List (Occasion G)
  pub part_is : part ≡ before ++ one ∷ after
  pub brings : BringsAbout outcome one

-- The fault of the shelf comes of what that answers; the end of the script is no outcome of a client. Of each other outcome one thing of the part brought it about; it is
-- not said that nothing of the kind stands ahead.
abbrev pub HasCause : {G : Type 0} → Outcome → List (Occasion G) → Type 0
HasCause ShelfFault part = Unit {0}
HasCause ScriptEnded part = ⊥
HasCause outcome part = IsBroughtAbout outcome part

-- Whatever comes to a client, and whatever it does: where its push has an outcome, one thing since it began brought that about; where the client did not lack memory.
abbrev pub OutcomesAreBroughtAbout : Type 0
OutcomesAreBroughtAbout = (settings : Settings) (occasions : List (Occasion Circumstance)) (now : Lined (Host ClientProfile)) → Runs (upper (client_profile settings)) Whatever occasions (starting (upper (client_profile settings)) Paging) now
    → now.upper.profile.client.failed ≡ false → IfSome ((upper (client_profile settings)).outcome now.upper) (λ outcome. HasCause outcome (since_begun occasions))
