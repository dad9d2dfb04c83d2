-- What hearing and timers leave unchanged, and what a unit and an acknowledgement do.
use Rattle.std.proofs.Common.{◌≡◌, ◌≢◌, ◌⊎◌, ℕ, ◌≤◌, Bool, true, false, cond, List, [], ◌∷◌, ◌++◌, length, drop, zero, suc, Some, eqb, ltb, leb, inl, inr, refl, sym, ap, subst, ◌∙◌, arith}
use Rattle.std.proofs.lemmas.Bool.{ne_eqb, le-leb}
use Rattle.wire_model.specs.declared.link.LinkMessage.{LinkMessage}
use Rattle.wire_model.specs.declared.link.LinkMessage.TheVariants.{Sync, SyncResponse, Config, ConfigResponse}
use Rattle.wire_model.specs.declared.link.Stage.{Stage}
use Rattle.wire_model.specs.declared.link.Stage.TheVariants.{Uninitialized, Initialized, Active, Reset}
use Rattle.wire_model.specs.Machine.{Unit, Wire, Heard, waits, ticked, ticked_at, hears, hears_message, message_of, hears_sync, hears_sync_response, hears_config, hears_config_response, hears_ack, hears_numbers, takes_unit, takes_number, acknowledged, past, quiet, is_active, is_unit_kind, unit_packet, ack_packet, most_waiting, lesser}
use Rattle.wire_model.specs.Pair.{IsUnit}

-- the numbers of an end and its units stay; the timer may begin again with the first
pub record Keeps (w w' : Wire) : Type 0 where
  pub own : w'.own ≡ w.own
  pub first : w'.first ≡ w.first
  pub unacked : w'.unacked ≡ w.unacked
  pub given : w'.given ≡ w.given
  pub next : (w'.next ≡ w.next) ⊎ (w'.next ≡ 0)
  pub expected : w'.expected ≡ w.expected
  pub window : (w'.window ≡ w.window) ⊎ ((w'.window ≤ w.own) × (1 ≤ w.own → 1 ≤ w'.window) × (is_active w.stage ≡ false))
  pub stage : is_active w'.stage ≡ false → is_active w.stage ≡ false

pub keeps_same : (w : Wire) → Keeps w w
keeps_same w = record { own = refl; first = refl; unacked = refl; given = refl; next = inl refl; expected = refl; window = inl refl; stage = λ e. e }

pub waits_keeps : (m : LinkMessage) (w : Wire) → Keeps w (waits m w)
waits_keeps m w = elim (ltb (length w.waiting) most_waiting) as (λ b. Keeps w (cond b (record w { waiting = w.waiting ++ m ∷ [] }) w)) [
  | true ↦ record { own = refl; first = refl; unacked = refl; given = refl; next = inl refl; expected = refl; window = inl refl; stage = λ e. e }
  | false ↦ keeps_same w
]

staged : (w : Wire) (stage : Stage) → (is_active stage ≡ false → is_active w.stage ≡ false) → Keeps w (record w { stage = stage })
staged w stage on = record { own = refl; first = refl; unacked = refl; given = refl; next = inl refl; expected = refl; window = inl refl; stage = on }

staged_waits : (m : LinkMessage) (w : Wire) (stage : Stage) → (is_active stage ≡ false → is_active w.stage ≡ false) → Keeps w (waits m (record w { stage = stage }))
staged_waits m w stage on = elim (ltb (length w.waiting) most_waiting) as (λ b. Keeps w (cond b (record w { stage = stage; waiting = w.waiting ++ m ∷ [] }) (record w { stage = stage }))) [
  | true ↦ record { own = refl; first = refl; unacked = refl; given = refl; next = inl refl; expected = refl; window = inl refl; stage = on }
  | false ↦ staged w stage on
]

lesser_fits : (own field : ℕ) → (lesser own field ≤ own) × (1 ≤ own → 1 ≤ lesser own field)
lesser_fits own field = (omega arith, λ h. omega arith)

-- a message keeps the numbers; an end that is active stays active, or is reset
pub message_keeps : (m : LinkMessage) (w : Wire) → (m ≡ Sync → w.stage ≢ Active) → Keeps w (hears_message (Some m) w)
message_keeps m w safe = by m w.stage refl safe
  where
    by : (m : LinkMessage) (stage : Stage) → w.stage ≡ stage → (m ≡ Sync → w.stage ≢ Active) → Keeps w (hears_message (Some m) w)
    by Sync Uninitialized at safe = subst (λ (s : Stage). Keeps w (hears_sync s w)) (sym at) (waits_keeps SyncResponse w)
    by Sync Initialized at safe = subst (λ (s : Stage). Keeps w (hears_sync s w)) (sym at) (waits_keeps SyncResponse w)
    by Sync Active at safe = absurd (safe refl at)
    by Sync Reset at safe = subst (λ (s : Stage). Keeps w (hears_sync s w)) (sym at) (keeps_same w)
    by SyncResponse Uninitialized at safe = subst (λ (s : Stage). Keeps w (hears_sync_response s w)) (sym at) (staged_waits (Config w.own) w Initialized (λ e. ap is_active at))
    by SyncResponse Initialized at safe = subst (λ (s : Stage). Keeps w (hears_sync_response s w)) (sym at) (keeps_same w)
    by SyncResponse Active at safe = subst (λ (s : Stage). Keeps w (hears_sync_response s w)) (sym at) (keeps_same w)
    by SyncResponse Reset at safe = subst (λ (s : Stage). Keeps w (hears_sync_response s w)) (sym at) (keeps_same w)
    by (Config field) Uninitialized at safe = subst (λ (s : Stage). Keeps w (hears_config s field w)) (sym at) (keeps_same w)
    by (Config field) Initialized at safe = subst (λ (s : Stage). Keeps w (hears_config s field w)) (sym at) (waits_keeps (ConfigResponse (lesser w.own field)) w)
    by (Config field) Active at safe = subst (λ (s : Stage). Keeps w (hears_config s field w)) (sym at) (waits_keeps (ConfigResponse (lesser w.own field)) w)
    by (Config field) Reset at safe = subst (λ (s : Stage). Keeps w (hears_config s field w)) (sym at) (keeps_same w)
    by (ConfigResponse field) Uninitialized at safe = subst (λ (s : Stage). Keeps w (hears_config_response s field w)) (sym at) (keeps_same w)
    by (ConfigResponse field) Initialized at safe = subst (λ (s : Stage). Keeps w (hears_config_response s field w)) (sym at) (record {
      own = refl;
      first = refl;
      unacked = refl;
      given = refl;
      next = inl refl;
      expected = refl;
      window = inr ((lesser_fits w.own field).0, (lesser_fits w.own field).1, ap is_active at);
      stage = λ e. absurd cc;
    })
    by (ConfigResponse field) Active at safe = subst (λ (s : Stage). Keeps w (hears_config_response s field w)) (sym at) (keeps_same w)
    by (ConfigResponse field) Reset at safe = subst (λ (s : Stage). Keeps w (hears_config_response s field w)) (sym at) (keeps_same w)

pub tick_keeps : (w : Wire) → Keeps w (ticked w)
tick_keeps w = by w.stage
  where
    by : (stage : Stage) → Keeps w (ticked_at stage w)
    by Uninitialized = waits_keeps Sync w
    by Initialized = waits_keeps (Config w.own) w
    by Active = record { own = refl; first = refl; unacked = refl; given = refl; next = inr refl; expected = refl; window = inl refl; stage = λ e. e }
    by Reset = keeps_same w

-- ---- an AckNo

pub record AcksNothing (w w' : Wire) : Type 0 where
  pub stage : w'.stage ≡ w.stage
  pub waiting : w'.waiting ≡ w.waiting
  pub expected : w'.expected ≡ w.expected
  pub own : w'.own ≡ w.own
  pub window : w'.window ≡ w.window
  pub unacked : w'.unacked ≡ []
  pub given : w'.given ≡ 0

drop_nil : {A : Type 0} (k : ℕ) → (let xs : List A = [] in drop k xs) ≡ []
drop_nil zero = refl
drop_nil (suc k) = refl

-- an end that has sent nothing takes no AckNo for anything
pub acks_nothing : (ack : ℕ) (w : Wire) → w.unacked ≡ [] → w.given ≡ 0 → AcksNothing w (hears_ack ack w)
acks_nothing ack w none zero' = elim (leb (past w.first ack) w.given) as (λ b. AcksNothing w (cond b (acknowledged (past w.first ack) w) w)) [
  | true ↦ record {
    stage = refl;
    waiting = refl;
    expected = refl;
    own = refl;
    window = refl;
    unacked = ap (drop (past w.first ack)) none ∙ drop_nil (past w.first ack);
    given = omega arith;
  }
  | false ↦ record { stage = refl; waiting = refl; expected = refl; own = refl; window = refl; unacked = none; given = zero' }
]

-- ---- a unit

unit_kind : (u : Unit) → IsUnit u → is_unit_kind u.kind ≡ true
unit_kind u is = rw (le-leb 1 u.kind is.above, le-leb u.kind 4 is.below) refl

no_link : (u : Unit) → IsUnit u → eqb u.kind 15 ≡ false
no_link u is = ne_eqb u.kind 15 (λ e. omega (arith, is.below))

pub unit_heard : (w : Wire) (seq ack : ℕ) (u : Unit) → IsUnit u → w.stage ≡ Active → hears (unit_packet seq ack u) w ≡ takes_number (eqb seq (hears_ack ack w).expected) u (hears_ack ack w)
unit_heard w seq ack u is active =
    ap (λ (b : Bool). let h : Heard = cond b (quiet (hears_message (message_of u.octets) w)) (hears_numbers w.stage (unit_packet seq ack u) w) in h) (no_link u is)
    ∙ ap (λ (s : Stage). hears_numbers s (unit_packet seq ack u) w) active
    ∙ ap (λ (b : Bool). takes_unit b (unit_packet seq ack u) (hears_ack ack w)) (unit_kind u is)

pub unit_ignored : (w : Wire) (seq ack : ℕ) (u : Unit) → IsUnit u → is_active w.stage ≡ false → hears (unit_packet seq ack u) w ≡ quiet w
unit_ignored w seq ack u is idle =
    ap (λ (b : Bool). let h : Heard = cond b (quiet (hears_message (message_of u.octets) w)) (hears_numbers w.stage (unit_packet seq ack u) w) in h) (no_link u is) ∙ by w.stage idle
  where
    by : (stage : Stage) → is_active stage ≡ false → hears_numbers stage (unit_packet seq ack u) w ≡ quiet w
    by Uninitialized e = refl
    by Initialized e = refl
    by Active e = absurd cc
    by Reset e = refl

-- an acknowledgement
pub ack_heard : (w : Wire) (ack : ℕ) → w.stage ≡ Active → hears (ack_packet ack) w ≡ quiet (hears_ack ack w)
ack_heard w ack active = rw active refl

pub ack_ignored : (w : Wire) (ack : ℕ) → is_active w.stage ≡ false → hears (ack_packet ack) w ≡ quiet w
ack_ignored w ack idle = by w.stage idle
  where
    by : (stage : Stage) → is_active stage ≡ false → hears_numbers stage (ack_packet ack) w ≡ quiet w
    by Uninitialized e = refl
    by Initialized e = refl
    by Active e = absurd cc
    by Reset e = refl

pub stage_cases : (stage : Stage) → (stage ≡ Active) ⊎ (is_active stage ≡ false)
stage_cases Uninitialized = inr refl
stage_cases Initialized = inr refl
stage_cases Active = inl refl
stage_cases Reset = inr refl
