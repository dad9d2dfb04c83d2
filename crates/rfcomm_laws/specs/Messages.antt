-- Which messages on the control channel a side with one user channel refuses, and which ask it for another channel (TS 07.10, 5.4.6; RFCOMM 1.2, 5.5.3).
use Rattle.std.specs.Prelude.{ℕ, ◌+◌, ◌/◌, ◌%◌, ◌==◌, ◌≡◌, ◌≤◌, ◌&&◌, not, Bool, false, List, [], ◌∷◌, None, Ok, Err, if◌then◌else◌}
use Rattle.rfcomm_frames.specs.Controls.{pn}
use Rattle.rfcomm_frames.specs.FrameReading.{MessageAnswer}
use Rattle.rfcomm_frames.specs.Multiplexing.{stated_by}
use Rattle.rfcomm_model.specs.Machine.{Mux}
use Rattle.rfcomm_model.specs.Hearing.{hears_message}

-- It takes each message but what is malformed, PN with frames below 23 octets, and PN for the user channel that does not ask for credit based flow control
-- or, as a response, does not grant it.
abbrev pub IsAllowed : ℕ → MessageAnswer → Type 0
IsAllowed dlci (Ok (pn command address flow priority timer frame retransmissions credits)) = (23 ≤ frame) × (address % 64 ≡ dlci → flow / 16 ≡ (if command then 0xF else 0xE))
IsAllowed dlci (Ok control) = Unit {0}
IsAllowed dlci (Err refusal) = ⊥

-- a response to PN
abbrev pub is_acceptance : MessageAnswer → Bool
is_acceptance (Ok (pn command address flow priority timer frame retransmissions credits)) = not command
is_acceptance message = false

-- PN commands for another channel, each of which is answered by DM
abbrev pub asks_elsewhere : ℕ → MessageAnswer → ℕ
asks_elsewhere dlci (Ok (pn command address flow priority timer frame retransmissions credits)) = if command && not (address % 64 == dlci) then 1 else 0
asks_elsewhere dlci message = 0

abbrev pub all_elsewhere : ℕ → List MessageAnswer → ℕ
all_elsewhere dlci [] = 0
all_elsewhere dlci (message ∷ rest) = asks_elsewhere dlci message + all_elsewhere dlci rest

-- ---- the law

-- what is allowed leaves a side open, and nothing else does
pub record LeavesOpen (message : MessageAnswer) (m : Mux) : Type 0 where
  pub allowed : IsAllowed m.dlci message → (hears_message message m).closed ≡ None
  pub alone : (hears_message message m).closed ≡ None → IsAllowed m.dlci message

-- For every message and each side that is open, where the credits that it is granted stay within 65,535.
abbrev pub AllowedLeaveOpen : Type 0
AllowedLeaveOpen = (message : MessageAnswer) (m : Mux) → m.closed ≡ None → m.account.held + stated_by m.dlci message ≤ 65535 → LeavesOpen message m
