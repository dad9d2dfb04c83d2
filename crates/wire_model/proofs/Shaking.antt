-- What a half of a round does to the establishment of the link, where no packet is lost.
use Rattle.std.proofs.Common.{◌≡◌, ◌⊎◌, ℕ, ◌+◌, ◌<◌, ◌≤◌, Bool, List, [], ◌∷◌, ◌++◌, inl, inr, refl, sym, ap, subst, ◌∙◌, arith}
use Rattle.wire_model.specs.declared.link.LinkMessage.{LinkMessage}
use Rattle.wire_model.specs.declared.link.LinkMessage.TheVariants.{Sync, SyncResponse, Config, ConfigResponse}
use Rattle.wire_model.specs.declared.link.Stage.{Stage}
use Rattle.wire_model.specs.declared.link.Stage.TheVariants.{Uninitialized, Initialized, Active, Reset}
use Rattle.wire_model.specs.Machine.{Wire}
use Rattle.wire_model.proofs.Handshake.{IsFresh, IsOpened, IsWorking, IsResponse}
use Rattle.wire_model.proofs.Standing.{read}
use Rattle.wire_model.proofs.Telling.{IsSync, IsSyncResponse, IsConfig, asks, asking, asking_then, Outcome, passes, replies, rises, opens, load, rank, Goes, up, stays, goes_step}
use Rattle.wire_model.proofs.Halves.{Speaks, Has, has_last, has_on, has_at, NoneLost, Keeping, follow, asks_read}

sync_asks : (m : LinkMessage) → IsSync m → asks m ≡ 1
sync_asks Sync is = refl
sync_asks SyncResponse is = absurd is
sync_asks (Config w) is = absurd is
sync_asks (ConfigResponse w) is = absurd is

config_asks : (m : LinkMessage) → IsConfig m → asks m ≡ 1
config_asks Sync is = absurd is
config_asks SyncResponse is = absurd is
config_asks (Config w) is = refl
config_asks (ConfigResponse w) is = absurd is

rise_asks : (m : LinkMessage) → IsSyncResponse m → asks m ≡ 0
rise_asks Sync is = absurd is
rise_asks SyncResponse is = refl
rise_asks (Config w) is = absurd is
rise_asks (ConfigResponse w) is = absurd is

open_asks : (m : LinkMessage) → IsResponse m → asks m ≡ 0
open_asks Sync is = absurd is
open_asks SyncResponse is = absurd is
open_asks (Config w) is = absurd is
open_asks (ConfigResponse w) is = refl

sync_read : (m : LinkMessage) → IsSync m → IsSync (read m)
sync_read Sync is = tt
sync_read SyncResponse is = absurd is
sync_read (Config w) is = absurd is
sync_read (ConfigResponse w) is = absurd is

rise_read : (m : LinkMessage) → IsSyncResponse m → IsSyncResponse (read m)
rise_read Sync is = absurd is
rise_read SyncResponse is = tt
rise_read (Config w) is = absurd is
rise_read (ConfigResponse w) is = absurd is

config_read : (m : LinkMessage) → IsConfig m → IsConfig (read m)
config_read Sync is = absurd is
config_read SyncResponse is = absurd is
config_read (Config w) is = tt
config_read (ConfigResponse w) is = absurd is

open_read : (m : LinkMessage) → IsResponse m → IsResponse (read m)
open_read Sync is = absurd is
open_read SyncResponse is = absurd is
open_read (Config w) is = absurd is
open_read (ConfigResponse w) is = tt

pub fresh_opened : (s : Stage) → IsFresh s → IsOpened s → ⊥
fresh_opened Uninitialized f o = o
fresh_opened Initialized f o = f
fresh_opened Active f o = f
fresh_opened Reset f o = f

waiting_of : (w w' : Wire) → w' ≡ w → w'.waiting ≡ w.waiting
waiting_of w w' is = ap (λ (x : Wire). x.waiting) is

-- ---- what each message does

sync_answered : (m : LinkMessage) (w w' : Wire) → IsSync m → Outcome m w w' → Has IsSyncResponse w'.waiting
sync_answered m w w' s (passes a b c d is) = absurd (a s)
sync_answered m w w' s (replies reply one none f g is) = has_at IsSyncResponse (w.waiting ++ reply ∷ []) w'.waiting (ap (λ (x : Wire). x.waiting) is) (has_last IsSyncResponse w.waiting reply (f s))
sync_answered m w w' s (rises request a fresh one is) = absurd (omega (arith, sync_asks m s, rise_asks m a))
sync_answered m w w' s (opens window a at is) = absurd (omega (arith, sync_asks m s, open_asks m a))

config_answered : (m : LinkMessage) (w w' : Wire) → IsOpened w.stage → IsConfig m → Outcome m w w' → Has IsResponse w'.waiting
config_answered m w w' o s (passes a b c d is) = absurd (fresh_opened w.stage (c s) o)
config_answered m w w' o s (replies reply one none f g is) = has_at IsResponse (w.waiting ++ reply ∷ []) w'.waiting (ap (λ (x : Wire). x.waiting) is) (has_last IsResponse w.waiting reply (g s))
config_answered m w w' o s (rises request a fresh one is) = absurd (omega (arith, config_asks m s, rise_asks m a))
config_answered m w w' o s (opens window a at is) = absurd (omega (arith, config_asks m s, open_asks m a))

opened_by : (w w' : Wire) (s : Stage) → w'.stage ≡ s → IsOpened s → IsOpened w'.stage
opened_by w w' s is o = subst IsOpened (sym is) o

opened_on : (m : LinkMessage) (w w' : Wire) → IsOpened w.stage → Outcome m w w' → IsOpened w'.stage
opened_on m w w' o (passes a b c d is) = opened_by w w' w.stage (ap (λ (x : Wire). x.stage) is) o
opened_on m w w' o (replies reply one none f g is) = opened_by w w' w.stage (ap (λ (x : Wire). x.stage) is) o
opened_on m w w' o (rises request a fresh one is) = opened_by w w' Initialized (ap (λ (x : Wire). x.stage) is) tt
opened_on m w w' o (opens window a at is) = opened_by w w' Active (ap (λ (x : Wire). x.stage) is) tt

rise_opens : (m : LinkMessage) (w w' : Wire) → IsSyncResponse m → Outcome m w w' → IsOpened w'.stage
rise_opens m w w' s (passes a b c d is) = opened_by w w' w.stage (ap (λ (x : Wire). x.stage) is) (b s)
rise_opens m w w' s (replies reply one none f g is) = absurd (omega (arith, one, rise_asks m s))
rise_opens m w w' s (rises request a fresh one is) = opened_by w w' Initialized (ap (λ (x : Wire). x.stage) is) tt
rise_opens m w w' s (opens window a at is) = opened_by w w' Active (ap (λ (x : Wire). x.stage) is) tt

working_by : (w w' : Wire) (s : Stage) → w'.stage ≡ s → IsWorking s → IsWorking w'.stage
working_by w w' s is o = subst IsWorking (sym is) o

working_opened : (s : Stage) → IsWorking s → IsOpened s
working_opened Uninitialized w = w
working_opened Initialized w = tt
working_opened Active w = tt
working_opened Reset w = w

open_works : (m : LinkMessage) (w w' : Wire) → IsOpened w.stage → IsResponse m → Outcome m w w' → IsWorking w'.stage
open_works m w w' o s (passes a b c d is) = working_by w w' w.stage (ap (λ (x : Wire). x.stage) is) (d s)
open_works m w w' o s (replies reply one none f g is) = absurd (omega (arith, one, open_asks m s))
open_works m w w' o s (rises request a fresh one is) = absurd (fresh_opened w.stage fresh o)
open_works m w w' o s (opens window a at is) = working_by w w' Active (ap (λ (x : Wire). x.stage) is) tt

working_on : (m : LinkMessage) (w w' : Wire) → IsWorking w.stage → Outcome m w w' → IsWorking w'.stage
working_on m w w' o (passes a b c d is) = working_by w w' w.stage (ap (λ (x : Wire). x.stage) is) o
working_on m w w' o (replies reply one none f g is) = working_by w w' w.stage (ap (λ (x : Wire). x.stage) is) o
working_on m w w' o (rises request a fresh one is) = absurd (fresh_opened w.stage fresh (working_opened w.stage o))
working_on m w w' o (opens window a at is) = working_by w w' Active (ap (λ (x : Wire). x.stage) is) tt

-- ---- what a half keeps

abbrev Syncs : List LinkMessage → Wire → Type 0
Syncs ms w = Has IsSync ms ⊎ Has IsSyncResponse w.waiting

syncs_each : (m : LinkMessage) (rest : List LinkMessage) (w w' : Wire) → Outcome (read m) w w' → Syncs (m ∷ rest) w → Syncs rest w'
syncs_each m rest w w' o (inl (inl s)) = inr (sync_answered (read m) w w' (sync_read m s) o)
syncs_each m rest w w' o (inl (inr h)) = inl h
syncs_each m rest w w' o (inr h) = inr (has_on IsSyncResponse (read m) w w' o h)

abbrev Configs : List LinkMessage → Wire → Type 0
Configs ms w = IsOpened w.stage × (Has IsConfig ms ⊎ Has IsResponse w.waiting)

configs_each : (m : LinkMessage) (rest : List LinkMessage) (w w' : Wire) → Outcome (read m) w w' → Configs (m ∷ rest) w → Configs rest w'
configs_each m rest w w' o (op, inl (inl s)) = (opened_on (read m) w w' op o, inr (config_answered (read m) w w' op (config_read m s) o))
configs_each m rest w w' o (op, inl (inr h)) = (opened_on (read m) w w' op o, inl h)
configs_each m rest w w' o (op, inr h) = (opened_on (read m) w w' op o, inr (has_on IsResponse (read m) w w' o h))

abbrev Rises : List LinkMessage → Wire → Type 0
Rises ms w = Has IsSyncResponse ms ⊎ IsOpened w.stage

rises_each : (m : LinkMessage) (rest : List LinkMessage) (w w' : Wire) → Outcome (read m) w w' → Rises (m ∷ rest) w → Rises rest w'
rises_each m rest w w' o (inl (inl s)) = inr (rise_opens (read m) w w' (rise_read m s) o)
rises_each m rest w w' o (inl (inr h)) = inl h
rises_each m rest w w' o (inr op) = inr (opened_on (read m) w w' op o)

abbrev Opens : List LinkMessage → Wire → Type 0
Opens ms w = IsOpened w.stage × (Has IsResponse ms ⊎ IsWorking w.stage)

opens_each : (m : LinkMessage) (rest : List LinkMessage) (w w' : Wire) → Outcome (read m) w w' → Opens (m ∷ rest) w → Opens rest w'
opens_each m rest w w' o (op, inl (inl s)) = (opened_on (read m) w w' op o, inr (open_works (read m) w w' op (open_read m s) o))
opens_each m rest w w' o (op, inl (inr h)) = (opened_on (read m) w w' op o, inl h)
opens_each m rest w w' o (op, inr wk) = (opened_on (read m) w w' op o, inr (working_on (read m) w w' wk o))

-- an end that asks nothing new asks nothing, where it stays as far as it is
abbrev Mild : ℕ → List LinkMessage → Wire → Type 0
Mild r ms w = (rank w.stage < r) ⊎ ((rank w.stage ≡ r) × (asking w.waiting ≡ 0))

mild_by : (r : ℕ) (m : LinkMessage) (rest : List LinkMessage) (w w' : Wire) → Goes (read m) w w' → Mild r (m ∷ rest) w → Mild r rest w'
mild_by r m rest w w' (up lt) (inl p) = inl (omega (arith, lt, p))
mild_by r m rest w w' (up lt) (inr p) = inl (omega (arith, lt, p.0))
mild_by r m rest w w' (stays is a b) (inl p) = inl (omega (arith, ap rank is, p))
mild_by r m rest w w' (stays is a (inl e)) (inr p) = inr (ap rank is ∙ p.0, ap asking e ∙ p.1)
mild_by r m rest w w' (stays is a (inr e)) (inr p) = inr (ap rank is ∙ p.0, omega (arith, ap asking e.2, asking_then w.waiting e.0, e.1, p.1))

-- and nothing more waits at one that is asked nothing
abbrev Quiet : ℕ → List LinkMessage → List LinkMessage → Wire → Type 0
Quiet r ws ms w = (rank w.stage < r) ⊎ ((asking ms ≡ 0) × (rank w.stage ≡ r) × (w.waiting ≡ ws))

quiet_by : (r : ℕ) (ws : List LinkMessage) (m : LinkMessage) (rest : List LinkMessage) (w w' : Wire) → Goes (read m) w w' → Quiet r ws (m ∷ rest) w → Quiet r ws rest w'
quiet_by r ws m rest w w' (up lt) (inl p) = inl (omega (arith, lt, p))
quiet_by r ws m rest w w' (up lt) (inr p) = inl (omega (arith, lt, p.1))
quiet_by r ws m rest w w' (stays is a b) (inl p) = inl (omega (arith, ap rank is, p))
quiet_by r ws m rest w w' (stays is a b) (inr p) = let k = asks_read m in inr (omega (arith, p.0), ap rank is ∙ p.1, a (omega (arith, p.0, k)) ∙ p.2)

-- ---- a half of a round in which no packet is lost

pub record Half (from to from' to' : Wire) : Type 0 where
  pub fates : List Bool
  pub none : NoneLost fates
  pub speaks : Speaks from to fates from' to'
  pub few : load to + asking from.waiting ≤ 15
  pub said : from'.waiting ≡ []

keep_stage : (P : Stage → Type 0) (w w' : Wire) → w'.stage ≡ w.stage → P w.stage → P w'.stage
keep_stage P w w' is p = subst P (sym is) p

keep_waiting : (P : LinkMessage → Type 0) (w w' : Wire) → w'.waiting ≡ w.waiting → Has P w.waiting → Has P w'.waiting
keep_waiting P w w' is h = subst (Has P) (sym is) h

syncs_keeping : Keeping Syncs
syncs_keeping = record { each = syncs_each; calm = calm }
  where
    calm : (w w' : Wire) → w'.stage ≡ w.stage → w'.waiting ≡ w.waiting → Syncs [] w → Syncs [] w'
    calm w w' s ws (inl h) = absurd h
    calm w w' s ws (inr h) = inr (keep_waiting IsSyncResponse w w' ws h)

configs_keeping : Keeping Configs
configs_keeping = record { each = configs_each; calm = calm }
  where
    calm : (w w' : Wire) → w'.stage ≡ w.stage → w'.waiting ≡ w.waiting → Configs [] w → Configs [] w'
    calm w w' s ws (o, inl h) = absurd h
    calm w w' s ws (o, inr h) = (keep_stage IsOpened w w' s o, inr (keep_waiting IsResponse w w' ws h))

rises_keeping : Keeping Rises
rises_keeping = record { each = rises_each; calm = calm }
  where
    calm : (w w' : Wire) → w'.stage ≡ w.stage → w'.waiting ≡ w.waiting → Rises [] w → Rises [] w'
    calm w w' s ws (inl h) = absurd h
    calm w w' s ws (inr o) = inr (keep_stage IsOpened w w' s o)

opens_keeping : Keeping Opens
opens_keeping = record { each = opens_each; calm = calm }
  where
    calm : (w w' : Wire) → w'.stage ≡ w.stage → w'.waiting ≡ w.waiting → Opens [] w → Opens [] w'
    calm w w' s ws (o, inl h) = absurd h
    calm w w' s ws (o, inr k) = (keep_stage IsOpened w w' s o, inr (keep_stage IsWorking w w' s k))

has_keeping : (P : LinkMessage → Type 0) → Keeping (λ ms w. Has P w.waiting)
has_keeping P = record { each = λ m rest w w' o h. has_on P (read m) w w' o h; calm = λ w w' s ws h. keep_waiting P w w' ws h }

mild_keeping : (r : ℕ) → Keeping (Mild r)
mild_keeping r = record { each = λ m rest w w' o p. mild_by r m rest w w' (goes_step (read m) w w' o) p; calm = calm }
  where
    calm : (w w' : Wire) → w'.stage ≡ w.stage → w'.waiting ≡ w.waiting → Mild r [] w → Mild r [] w'
    calm w w' s ws (inl p) = inl (omega (arith, ap rank s, p))
    calm w w' s ws (inr p) = inr (ap rank s ∙ p.0, ap asking ws ∙ p.1)

quiet_keeping : (r : ℕ) (ws : List LinkMessage) → Keeping (Quiet r ws)
quiet_keeping r ws = record { each = λ m rest w w' o p. quiet_by r ws m rest w w' (goes_step (read m) w w' o) p; calm = calm }
  where
    calm : (w w' : Wire) → w'.stage ≡ w.stage → w'.waiting ≡ w.waiting → Quiet r ws [] w → Quiet r ws [] w'
    calm w w' s ws' (inl p) = inl (omega (arith, ap rank s, p))
    calm w w' s ws' (inr p) = inr (p.0, ap rank s ∙ p.1, ws' ∙ p.2)

follow_half : (P : List LinkMessage → Wire → Type 0) → Keeping P → (from to from' to' : Wire) → Half from to from' to' → P from.waiting to → P [] to'
follow_half P k from to from' to' h p = subst (λ (ms : List LinkMessage). P ms to') h.said (follow P k from to h.fates from' to' h.none h.few h.speaks p)

pub half_syncs : (from to from' to' : Wire) → Half from to from' to' → Has IsSync from.waiting → Has IsSyncResponse to'.waiting
half_syncs from to from' to' h s = elim (follow_half Syncs syncs_keeping from to from' to' h (inl s)) [ inl n ↦ absurd n | inr r ↦ r ]

pub half_configs : (from to from' to' : Wire) → Half from to from' to' → IsOpened to.stage → Has IsConfig from.waiting → Has IsResponse to'.waiting
half_configs from to from' to' h o s = elim (follow_half Configs configs_keeping from to from' to' h (o, inl s)).1 [ inl n ↦ absurd n | inr r ↦ r ]

pub half_rises : (from to from' to' : Wire) → Half from to from' to' → Has IsSyncResponse from.waiting → IsOpened to'.stage
half_rises from to from' to' h s = elim (follow_half Rises rises_keeping from to from' to' h (inl s)) [ inl n ↦ absurd n | inr r ↦ r ]

pub half_opens : (from to from' to' : Wire) → Half from to from' to' → IsOpened to.stage → Has IsResponse from.waiting → IsWorking to'.stage
half_opens from to from' to' h o s = elim (follow_half Opens opens_keeping from to from' to' h (o, inl s)).1 [ inl n ↦ absurd n | inr r ↦ r ]

pub half_has : (P : LinkMessage → Type 0) (from to from' to' : Wire) → Half from to from' to' → Has P to.waiting → Has P to'.waiting
half_has P from to from' to' h s = follow_half (λ ms w. Has P w.waiting) (has_keeping P) from to from' to' h s

pub half_mild : (from to from' to' : Wire) → Half from to from' to' → asking to.waiting ≡ 0 → (rank to'.stage < rank to.stage) ⊎ (asking to'.waiting ≡ 0)
half_mild from to from' to' h e = elim (follow_half (Mild (rank to.stage)) (mild_keeping (rank to.stage)) from to from' to' h (inr (refl, e))) [ inl p ↦ inl p | inr p ↦ inr p.1 ]

pub half_quiet : (from to from' to' : Wire) → Half from to from' to' → asking from.waiting ≡ 0 → (rank to'.stage < rank to.stage) ⊎ (to'.waiting ≡ to.waiting)
half_quiet from to from' to' h e = elim (follow_half (Quiet (rank to.stage) to.waiting) (quiet_keeping (rank to.stage) to.waiting) from to from' to' h (inr (e, refl, refl))) [ inl p ↦ inl p | inr p ↦ inr p.2 ]
