-- What an end makes of a message of the other one, and how many messages wait.
use Rattle.std.proofs.Common.{◌≡◌, ◌⊎◌, ℕ, ◌+◌, ◌<◌, ◌≤◌, Bool, cond, List, [], ◌∷◌, ◌++◌, length, Some, inl, inr, refl, sym, ap, subst, arith, length-append}
use Rattle.std.specs.Prelude.{⊤}
use Rattle.std.proofs.lemmas.Bool.{lt-ltb}
use Rattle.wire_model.specs.declared.link.LinkMessage.{LinkMessage}
use Rattle.wire_model.specs.declared.link.LinkMessage.TheVariants.{Sync, SyncResponse, Config, ConfigResponse}
use Rattle.wire_model.specs.declared.link.Stage.{Stage}
use Rattle.wire_model.specs.declared.link.Stage.TheVariants.{Uninitialized, Initialized, Active, Reset}
use Rattle.wire_model.specs.Machine.{Wire, waits, hears_message, hears_sync, hears_sync_response, hears_config, hears_config_response, lesser}
use Rattle.wire_model.proofs.Handshake.{Tame, IsFresh, IsOpened, IsWorking, IsOpen, IsResponse}

abbrev pub IsSync : LinkMessage → Type 0
IsSync Sync = ⊤
IsSync SyncResponse = ⊥
IsSync (Config w) = ⊥
IsSync (ConfigResponse w) = ⊥

abbrev pub IsSyncResponse : LinkMessage → Type 0
IsSyncResponse Sync = ⊥
IsSyncResponse SyncResponse = ⊤
IsSyncResponse (Config w) = ⊥
IsSyncResponse (ConfigResponse w) = ⊥

abbrev pub IsConfig : LinkMessage → Type 0
IsConfig Sync = ⊥
IsConfig SyncResponse = ⊥
IsConfig (Config w) = ⊤
IsConfig (ConfigResponse w) = ⊥

-- SYNC and CONFIG ask
abbrev pub asks : LinkMessage → ℕ
asks Sync = 1
asks SyncResponse = 0
asks (Config w) = 1
asks (ConfigResponse w) = 0

pub data Outcome (m : LinkMessage) (w w' : Wire) : Type 0 where
  passes : (IsSync m → ⊥) → (IsSyncResponse m → IsOpened w.stage) → (IsConfig m → IsFresh w.stage) → (IsResponse m → IsWorking w.stage) → w' ≡ w → Outcome m w w'
  replies : (reply : LinkMessage) → asks m ≡ 1 → asks reply ≡ 0 → (IsSync m → IsSyncResponse reply) → (IsConfig m → IsResponse reply) → w' ≡ record w { waiting = w.waiting ++ reply ∷ [] } → Outcome m w w'
  rises : (request : LinkMessage) → IsSyncResponse m → IsFresh w.stage → asks request ≡ 1 → w' ≡ record w { stage = Initialized; waiting = w.waiting ++ request ∷ [] } → Outcome m w w'
  opens : (window : ℕ) → IsResponse m → w.stage ≡ Initialized → w' ≡ record w { stage = Active; window = window } → Outcome m w w'

pub waits_room : (m : LinkMessage) (w : Wire) → length w.waiting < 16 → waits m w ≡ record w { waiting = w.waiting ++ m ∷ [] }
waits_room m w lt = ap (λ (b : Bool). let after : Wire = cond b (record w { waiting = w.waiting ++ m ∷ [] }) w in after) (lt-ltb (length w.waiting) 16 lt)

fresh_at : (s : Stage) → s ≡ Uninitialized → IsFresh s
fresh_at s e = subst IsFresh (sym e) tt

opened_at : (s t : Stage) → s ≡ t → IsOpened t → IsOpened s
opened_at s t e o = subst IsOpened (sym e) o

working_at : (s : Stage) → s ≡ Active → IsWorking s
working_at s e = subst IsWorking (sym e) tt

pub outcome : (own : Stage) (m : LinkMessage) (rest : List LinkMessage) (w : Wire) → Tame own w.stage (m ∷ rest) → Tame w.stage own w.waiting → length w.waiting < 16 → Outcome m w (hears_message (Some m) w)
outcome own m rest w t u lt = by m w.stage refl t
  where
    by : (m : LinkMessage) (s : Stage) → w.stage ≡ s → Tame own w.stage (m ∷ rest) → Outcome m w (hears_message (Some m) w)
    by Sync Uninitialized at t = subst (λ (s : Stage). Outcome Sync w (hears_sync s w)) (sym at) (replies SyncResponse refl refl (λ x. tt) (λ x. absurd x) (waits_room SyncResponse w lt))
    by Sync Initialized at t = subst (λ (s : Stage). Outcome Sync w (hears_sync s w)) (sym at) (replies SyncResponse refl refl (λ x. tt) (λ x. absurd x) (waits_room SyncResponse w lt))
    by Sync Active at t = absurd (t.silent (working_at w.stage at)).0
    by Sync Reset at t = absurd (subst IsOpen at u.stays)
    by SyncResponse Uninitialized at t = subst (λ (s : Stage). Outcome SyncResponse w (hears_sync_response s w)) (sym at) (rises (Config w.own) tt (fresh_at w.stage at) refl (waits_room (Config w.own) (record w { stage = Initialized }) lt))
    by SyncResponse Initialized at t = subst (λ (s : Stage). Outcome SyncResponse w (hears_sync_response s w)) (sym at) (passes (λ x. x) (λ x. opened_at w.stage Initialized at tt) (λ x. absurd x) (λ x. absurd x) refl)
    by SyncResponse Active at t = subst (λ (s : Stage). Outcome SyncResponse w (hears_sync_response s w)) (sym at) (passes (λ x. x) (λ x. opened_at w.stage Active at tt) (λ x. absurd x) (λ x. absurd x) refl)
    by SyncResponse Reset at t = absurd (subst IsOpen at u.stays)
    by (Config f) Uninitialized at t = subst (λ (s : Stage). Outcome (Config f) w (hears_config s f w)) (sym at) (passes (λ x. x) (λ x. absurd x) (λ x. fresh_at w.stage at) (λ x. absurd x) refl)
    by (Config f) Initialized at t = subst (λ (s : Stage). Outcome (Config f) w (hears_config s f w)) (sym at) (replies (ConfigResponse (lesser w.own f)) refl refl (λ x. absurd x) (λ x. tt) (waits_room (ConfigResponse (lesser w.own f)) w lt))
    by (Config f) Active at t = subst (λ (s : Stage). Outcome (Config f) w (hears_config s f w)) (sym at) (replies (ConfigResponse (lesser w.own f)) refl refl (λ x. absurd x) (λ x. tt) (waits_room (ConfigResponse (lesser w.own f)) w lt))
    by (Config f) Reset at t = absurd (subst IsOpen at u.stays)
    by (ConfigResponse f) Uninitialized at t = absurd (subst IsOpened at (t.answers.0 tt))
    by (ConfigResponse f) Initialized at t = subst (λ (s : Stage). Outcome (ConfigResponse f) w (hears_config_response s f w)) (sym at) (opens (lesser w.own f) tt at refl)
    by (ConfigResponse f) Active at t = subst (λ (s : Stage). Outcome (ConfigResponse f) w (hears_config_response s f w)) (sym at) (passes (λ x. x) (λ x. absurd x) (λ x. absurd x) (λ x. working_at w.stage at) refl)
    by (ConfigResponse f) Reset at t = absurd (subst IsOpen at u.stays)

-- ---- how many messages wait, and how many of them ask

abbrev pub asking : List LinkMessage → ℕ
asking [] = 0
asking (m ∷ ms) = asks m + asking ms

pub asking_then : (ms : List LinkMessage) (m : LinkMessage) → asking (ms ++ m ∷ []) ≡ asking ms + asks m
asking_then [] m = omega arith
asking_then (x ∷ ms) m = let rest = asking_then ms m in omega (arith, rest)

abbrev pub is_fresh : Stage → ℕ
is_fresh Uninitialized = 1
is_fresh Initialized = 0
is_fresh Active = 0
is_fresh Reset = 0

fresh_one : (s : Stage) → IsFresh s → is_fresh s ≡ 1
fresh_one Uninitialized f = refl
fresh_one Initialized f = absurd f
fresh_one Active f = absurd f
fresh_one Reset f = absurd f

pub some_ask : (m : LinkMessage) → asks m ≤ 1
some_ask Sync = omega arith
some_ask SyncResponse = omega arith
some_ask (Config w) = omega arith
some_ask (ConfigResponse w) = omega arith

-- what may come to wait at an end
abbrev pub load : Wire → ℕ
load w = length w.waiting + is_fresh w.stage

abbrev pub burden : Wire → ℕ
burden w = asking w.waiting + is_fresh w.stage

pub load_step : (m : LinkMessage) (w w' : Wire) → Outcome m w w' → load w' ≤ load w + asks m
load_step m w w' (passes a b c d is) = rw is (omega arith)
load_step m w w' (replies reply one none a b is) = rw is (omega (arith, one, length-append w.waiting (reply ∷ [])))
load_step m w w' (rises request a fresh one is) = rw is (omega (arith, fresh_one w.stage fresh, length-append w.waiting (request ∷ [])))
load_step m w w' (opens window a at is) = rw is (omega arith)

pub burden_step : (m : LinkMessage) (w w' : Wire) → Outcome m w w' → burden w' ≤ burden w
burden_step m w w' (passes a b c d is) = rw is (omega arith)
burden_step m w w' (replies reply one none a b is) = rw is (omega (arith, none, asking_then w.waiting reply))
burden_step m w w' (rises request a fresh one is) = rw is (omega (arith, one, fresh_one w.stage fresh, asking_then w.waiting request))
burden_step m w w' (opens window a at is) = rw is (omega arith)

-- ---- how far the ends are

abbrev pub rank : Stage → ℕ
rank Uninitialized = 2
rank Initialized = 1
rank Active = 0
rank Reset = 0

rank_fresh : (s : Stage) → IsFresh s → rank s ≡ 2
rank_fresh Uninitialized f = refl
rank_fresh Initialized f = absurd f
rank_fresh Active f = absurd f
rank_fresh Reset f = absurd f

-- an end goes on, or stays as far as it is
pub data Goes (m : LinkMessage) (w w' : Wire) : Type 0 where
  up : rank w'.stage < rank w.stage → Goes m w w'
  stays : w'.stage ≡ w.stage → (asks m ≡ 0 → w'.waiting ≡ w.waiting) → ((w'.waiting ≡ w.waiting) ⊎ ((reply : LinkMessage) × (asks reply ≡ 0) × (w'.waiting ≡ w.waiting ++ reply ∷ []))) → Goes m w w'

pub goes_step : (m : LinkMessage) (w w' : Wire) → Outcome m w w' → Goes m w w'
goes_step m w w' (passes a b c d is) = stays (ap (λ (x : Wire). x.stage) is) (λ e. ap (λ (x : Wire). x.waiting) is) (inl (ap (λ (x : Wire). x.waiting) is))
goes_step m w w' (replies reply one none a b is) = stays (ap (λ (x : Wire). x.stage) is) (λ e. absurd (omega (arith, one, e))) (inr (reply, none, ap (λ (x : Wire). x.waiting) is))
goes_step m w w' (rises request a fresh one is) = up (rw is (omega (arith, rank_fresh w.stage fresh)))
goes_step m w w' (opens window a at is) = let one : rank w.stage ≡ 1 = ap rank at in up (rw is (omega (arith, one)))
