-- How the link is established: an end never hears SYNC when it is active, and CONFIG RESPONSE comes to an end that
-- waits for it.
use Rattle.std.proofs.Common.{◌≡◌, ◌⊎◌, ℕ, true, false, cond, List, [], ◌∷◌, ◌++◌, length, Some, ltb, inl, inr, refl, sym, subst, ◌∙◌}
use Rattle.std.specs.Prelude.{⊤}
use Rattle.std.specs.List.{AllByRecursion}
use Rattle.wire_model.specs.declared.link.LinkMessage.{LinkMessage}
use Rattle.wire_model.specs.declared.link.LinkMessage.TheVariants.{Sync, SyncResponse, Config, ConfigResponse}
use Rattle.wire_model.specs.declared.link.Stage.{Stage}
use Rattle.wire_model.specs.declared.link.Stage.TheVariants.{Uninitialized, Initialized, Active, Reset}
use Rattle.wire_model.specs.Machine.{Wire, waits, ticked, ticked_at, hears_message, hears_sync, hears_sync_response, hears_config, hears_config_response, most_waiting, lesser}

-- ---- what a message and a stage are

abbrev pub IsEarly : LinkMessage → Type 0
IsEarly Sync = ⊤
IsEarly SyncResponse = ⊤
IsEarly (Config w) = ⊥
IsEarly (ConfigResponse w) = ⊥

abbrev pub NotSync : LinkMessage → Type 0
NotSync Sync = ⊥
NotSync SyncResponse = ⊤
NotSync (Config w) = ⊤
NotSync (ConfigResponse w) = ⊤

abbrev pub IsResponse : LinkMessage → Type 0
IsResponse Sync = ⊥
IsResponse SyncResponse = ⊥
IsResponse (Config w) = ⊥
IsResponse (ConfigResponse w) = ⊤

abbrev pub IsFresh : Stage → Type 0
IsFresh Uninitialized = ⊤
IsFresh Initialized = ⊥
IsFresh Active = ⊥
IsFresh Reset = ⊥

abbrev pub IsOpened : Stage → Type 0
IsOpened Uninitialized = ⊥
IsOpened Initialized = ⊤
IsOpened Active = ⊤
IsOpened Reset = ⊥

abbrev pub IsWorking : Stage → Type 0
IsWorking Uninitialized = ⊥
IsWorking Initialized = ⊥
IsWorking Active = ⊤
IsWorking Reset = ⊥

abbrev pub IsOpen : Stage → Type 0
IsOpen Uninitialized = ⊤
IsOpen Initialized = ⊤
IsOpen Active = ⊤
IsOpen Reset = ⊥

-- no SYNC waits behind a CONFIG RESPONSE
abbrev pub IsOrdered : List LinkMessage → Type 0
IsOrdered [] = ⊤
IsOrdered (m ∷ rest) = (IsResponse m → AllByRecursion NotSync rest) × IsOrdered rest

-- What waits at an end of stage `own`, the other being of stage `other`: before the end is initialized nothing of the
-- second step; CONFIG RESPONSE only for an end that said CONFIG; no SYNC for an end that is active.
pub record Tame (own other : Stage) (waiting : List LinkMessage) : Type 0 where
  pub stays : IsOpen own
  pub early : IsFresh own → AllByRecursion IsEarly waiting
  pub answers : AllByRecursion (λ m. IsResponse m → IsOpened other) waiting
  pub opened : IsWorking other → IsOpened own
  pub silent : IsWorking other → AllByRecursion NotSync waiting
  pub ordered : IsOrdered waiting

-- ---- one message more

abbrev pub Adds : List LinkMessage → LinkMessage → List LinkMessage → Type 0
Adds old m new = (new ≡ old) ⊎ (new ≡ old ++ m ∷ [])

all_push : (P : LinkMessage → Type 0) (xs : List LinkMessage) (m : LinkMessage) → AllByRecursion P xs → P m → AllByRecursion P (xs ++ m ∷ [])
all_push P [] m all p = (p, tt)
all_push P (x ∷ xs) m all p = (all.0, all_push P xs m all.1 p)

no_response : (m : LinkMessage) → IsEarly m → IsResponse m → ⊥
no_response Sync e r = r
no_response SyncResponse e r = r
no_response (Config w) e r = e
no_response (ConfigResponse w) e r = e

ordered_push : (xs : List LinkMessage) (m : LinkMessage) → IsOrdered xs → NotSync m ⊎ AllByRecursion IsEarly xs → IsOrdered (xs ++ m ∷ [])
ordered_push [] m ordered ok = ((λ r. tt), tt)
ordered_push (x ∷ xs) m ordered (inl n) = ((λ r. all_push NotSync xs m (ordered.0 r) n), ordered_push xs m ordered.1 (inl n))
ordered_push (x ∷ xs) m ordered (inr e) = ((λ r. absurd (no_response x e.0 r)), ordered_push xs m ordered.1 (inr e.1))

pub record Fits (own other : Stage) (m : LinkMessage) : Type 0 where
  pub early : IsFresh own → IsEarly m
  pub answers : IsResponse m → IsOpened other
  pub silent : IsWorking other → NotSync m
  pub ordered : NotSync m ⊎ IsFresh own

pub tame_adds : (own other : Stage) (old new : List LinkMessage) (m : LinkMessage) → Tame own other old → Fits own other m → Adds old m new → Tame own other new
tame_adds own other old new m t f (inl same) = subst (Tame own other) (sym same) t
tame_adds own other old new m t f (inr more) = subst (Tame own other) (sym more) (record {
  stays = t.stays;
  early = λ fresh. all_push IsEarly old m (t.early fresh) (f.early fresh);
  answers = all_push (λ m'. IsResponse m' → IsOpened other) old m t.answers f.answers;
  opened = t.opened;
  silent = λ working. all_push NotSync old m (t.silent working) (f.silent working);
  ordered = ordered_push old m t.ordered (elim f.ordered [ inl n ↦ inl n | inr fresh ↦ inr (t.early fresh) ]);
})

pub waits_adds : (m : LinkMessage) (w : Wire) → Adds w.waiting m (waits m w).waiting
waits_adds m w = elim (ltb (length w.waiting) most_waiting) as (λ b. Adds w.waiting m (let after : Wire = cond b (record w { waiting = w.waiting ++ m ∷ [] }) w in after).waiting) [ true ↦ inr refl | false ↦ inl refl ]

pub waits_stage : (m : LinkMessage) (w : Wire) → (waits m w).stage ≡ w.stage
waits_stage m w = elim (ltb (length w.waiting) most_waiting) as (λ b. (let after : Wire = cond b (record w { waiting = w.waiting ++ m ∷ [] }) w in after).stage ≡ w.stage) [ true ↦ refl | false ↦ refl ]

-- what is said no longer waits
pub tame_tail : (own other : Stage) (m : LinkMessage) (rest : List LinkMessage) → Tame own other (m ∷ rest) → Tame own other rest
tame_tail own other m rest t = record { stays = t.stays; early = λ f. (t.early f).1; answers = t.answers.1; opened = t.opened; silent = λ w. (t.silent w).1; ordered = t.ordered.1 }

-- ---- what a message makes of both

-- the ends behind a message: the one that said it, and the one that heard it
pub record Both (own other : Stage) (rest waiting : List LinkMessage) : Type 0 where
  pub there : Tame own other rest
  pub back : Tame other own waiting

-- a stage that went on from `old`
abbrev pub GoesOn : Stage → Stage → Type 0
GoesOn old new = (IsOpened old → IsOpened new) × (IsFresh new → IsFresh old) × (IsWorking old → IsWorking new)

-- the other end went on, and became active only where that fits
other_on : (own old new : Stage) (waiting : List LinkMessage) → Tame own old waiting → GoesOn old new → (IsWorking new → IsWorking old ⊎ (IsOpened own × AllByRecursion NotSync waiting)) → Tame own new waiting
other_on own old new waiting t on working = record {
  stays = t.stays;
  early = t.early;
  answers = weaken waiting t.answers;
  opened = λ w. elim (working w) [ inl was ↦ t.opened was | inr now ↦ now.0 ];
  silent = λ w. elim (working w) [ inl was ↦ t.silent was | inr now ↦ now.1 ];
  ordered = t.ordered;
}
  where
    weaken : (xs : List LinkMessage) → AllByRecursion (λ m. IsResponse m → IsOpened old) xs → AllByRecursion (λ m. IsResponse m → IsOpened new) xs
    weaken [] all = tt
    weaken (x ∷ xs) all = ((λ r. on.0 (all.0 r)), weaken xs all.1)

-- this end went on
own_on : (old new other : Stage) (waiting : List LinkMessage) → Tame old other waiting → IsOpen new → GoesOn old new → Tame new other waiting
own_on old new other waiting t stays on = record {
  stays = stays;
  early = λ fresh. t.early (on.1 fresh);
  answers = t.answers;
  opened = λ w. on.0 (t.opened w);
  silent = t.silent;
  ordered = t.ordered;
}

hears_sync_so : (own : Stage) (rest : List LinkMessage) (w : Wire) (stage : Stage) → w.stage ≡ stage → Tame own stage (Sync ∷ rest) → Tame stage own w.waiting → Both own (hears_sync stage w).stage rest (hears_sync stage w).waiting
hears_sync_so own rest w Uninitialized at t u = record {
  there = subst (λ (s : Stage). Tame own s rest) (sym (waits_stage SyncResponse w ∙ at)) (tame_tail own Uninitialized Sync rest t);
  back = subst (λ (s : Stage). Tame s own (waits SyncResponse w).waiting) (sym (waits_stage SyncResponse w ∙ at)) (tame_adds Uninitialized own w.waiting (waits SyncResponse w).waiting SyncResponse u (record { early = λ f. tt; answers = λ r. absurd r; silent = λ x. tt; ordered = inl tt }) (waits_adds SyncResponse w));
}
hears_sync_so own rest w Initialized at t u = record {
  there = subst (λ (s : Stage). Tame own s rest) (sym (waits_stage SyncResponse w ∙ at)) (tame_tail own Initialized Sync rest t);
  back = subst (λ (s : Stage). Tame s own (waits SyncResponse w).waiting) (sym (waits_stage SyncResponse w ∙ at)) (tame_adds Initialized own w.waiting (waits SyncResponse w).waiting SyncResponse u (record { early = λ f. absurd f; answers = λ r. absurd r; silent = λ x. tt; ordered = inl tt }) (waits_adds SyncResponse w));
}
hears_sync_so own rest w Active at t u = absurd (t.silent tt).0
hears_sync_so own rest w Reset at t u = absurd u.stays

-- an end that hears nothing new
unchanged : (own stage : Stage) (m : LinkMessage) (rest : List LinkMessage) (w : Wire) → w.stage ≡ stage → Tame own stage (m ∷ rest) → Tame stage own w.waiting → Both own w.stage rest w.waiting
unchanged own stage m rest w at t u = record { there = subst (λ (s : Stage). Tame own s rest) (sym at) (tame_tail own stage m rest t); back = subst (λ (s : Stage). Tame s own w.waiting) (sym at) u }

-- an end that goes to another stage, and then has one message more
went : (own old new : Stage) (m more : LinkMessage) (rest : List LinkMessage) (w x : Wire) → Tame own old (m ∷ rest) → Tame old own w.waiting → x.stage ≡ new → Adds w.waiting more x.waiting → IsOpen new → GoesOn old new
    → (IsWorking new → IsWorking old ⊎ (IsOpened own × AllByRecursion NotSync rest)) → Fits new own more → Both own x.stage rest x.waiting
went own old new m more rest w x t u at adds stays on working fits = record {
  there = subst (λ (s : Stage). Tame own s rest) (sym at) (other_on own old new rest (tame_tail own old m rest t) on working);
  back = subst (λ (s : Stage). Tame s own x.waiting) (sym at) (tame_adds new own w.waiting x.waiting more (own_on old new own w.waiting u stays on) fits adds);
}

hears_sync_response_so : (own : Stage) (rest : List LinkMessage) (w : Wire) (stage : Stage) → w.stage ≡ stage → Tame own stage (SyncResponse ∷ rest) → Tame stage own w.waiting
    → Both own (hears_sync_response stage w).stage rest (hears_sync_response stage w).waiting
hears_sync_response_so own rest w Uninitialized at t u =
    let v : Wire = record w { stage = Initialized } in
    went own Uninitialized Initialized SyncResponse (Config w.own) rest w (waits (Config w.own) v) t u (waits_stage (Config w.own) v) (waits_adds (Config w.own) v) tt ((λ o. absurd o), (λ f. absurd f), (λ x. absurd x)) (λ x. absurd x)
    (record { early = λ f. absurd f; answers = λ r. absurd r; silent = λ x. tt; ordered = inl tt })
hears_sync_response_so own rest w Initialized at t u = unchanged own Initialized SyncResponse rest w at t u
hears_sync_response_so own rest w Active at t u = unchanged own Active SyncResponse rest w at t u
hears_sync_response_so own rest w Reset at t u = absurd u.stays

-- an end that said CONFIG is initialized
said_config : (own other : Stage) (field : ℕ) (rest : List LinkMessage) → Tame own other (Config field ∷ rest) → IsOpened own
said_config Uninitialized other field rest t = absurd (t.early tt).0
said_config Initialized other field rest t = tt
said_config Active other field rest t = tt
said_config Reset other field rest t = absurd t.stays

hears_config_so : (own : Stage) (field : ℕ) (rest : List LinkMessage) (w : Wire) (stage : Stage) → w.stage ≡ stage → Tame own stage (Config field ∷ rest) → Tame stage own w.waiting
    → Both own (hears_config stage field w).stage rest (hears_config stage field w).waiting
hears_config_so own field rest w Uninitialized at t u = unchanged own Uninitialized (Config field) rest w at t u
hears_config_so own field rest w Initialized at t u =
    let m = ConfigResponse (lesser w.own field) in
    went own Initialized Initialized (Config field) m rest w (waits m w) t u (waits_stage m w ∙ at) (waits_adds m w) tt ((λ o. o), (λ f. f), (λ x. x)) (λ x. absurd x)
    (record { early = λ f. absurd f; answers = λ r. said_config own Initialized field rest t; silent = λ x. tt; ordered = inl tt })
hears_config_so own field rest w Active at t u =
    let m = ConfigResponse (lesser w.own field) in
    went own Active Active (Config field) m rest w (waits m w) t u (waits_stage m w ∙ at) (waits_adds m w) tt ((λ o. o), (λ f. f), (λ x. x)) (λ x. inl x)
    (record { early = λ f. absurd f; answers = λ r. said_config own Active field rest t; silent = λ x. tt; ordered = inl tt })
hears_config_so own field rest w Reset at t u = absurd u.stays

-- so is one that said CONFIG RESPONSE
said_response : (own other : Stage) (field : ℕ) (rest : List LinkMessage) → Tame own other (ConfigResponse field ∷ rest) → IsOpened own
said_response Uninitialized other field rest t = absurd (t.early tt).0
said_response Initialized other field rest t = tt
said_response Active other field rest t = tt
said_response Reset other field rest t = absurd t.stays

hears_config_response_so : (own : Stage) (field : ℕ) (rest : List LinkMessage) (w : Wire) (stage : Stage) → w.stage ≡ stage → Tame own stage (ConfigResponse field ∷ rest) → Tame stage own w.waiting
    → Both own (hears_config_response stage field w).stage rest (hears_config_response stage field w).waiting
hears_config_response_so own field rest w Uninitialized at t u = unchanged own Uninitialized (ConfigResponse field) rest w at t u
hears_config_response_so own field rest w Initialized at t u = record {
  there = other_on own Initialized Active rest (tame_tail own Initialized (ConfigResponse field) rest t) ((λ o. tt), (λ f. f), (λ x. absurd x)) (λ x. inr (said_response own Initialized field rest t, t.ordered.0 tt));
  back = own_on Initialized Active own w.waiting u tt ((λ o. tt), (λ f. f), (λ x. absurd x));
}
hears_config_response_so own field rest w Active at t u = unchanged own Active (ConfigResponse field) rest w at t u
hears_config_response_so own field rest w Reset at t u = absurd u.stays

-- a message that is said is heard by an end that fits it
pub message_heard : (own : Stage) (m : LinkMessage) (rest : List LinkMessage) (w : Wire) → Tame own w.stage (m ∷ rest) → Tame w.stage own w.waiting → Both own (hears_message (Some m) w).stage rest (hears_message (Some m) w).waiting
message_heard own Sync rest w t u = hears_sync_so own rest w w.stage refl t u
message_heard own SyncResponse rest w t u = hears_sync_response_so own rest w w.stage refl t u
message_heard own (Config field) rest w t u = hears_config_so own field rest w w.stage refl t u
message_heard own (ConfigResponse field) rest w t u = hears_config_response_so own field rest w w.stage refl t u

-- the same message with its window read
pub tame_window : (own other : Stage) (m n : LinkMessage) (rest : List LinkMessage) → (IsEarly m → IsEarly n) → (IsResponse n → IsResponse m) → (NotSync m → NotSync n) → Tame own other (m ∷ rest) → Tame own other (n ∷ rest)
tame_window own other m n rest e r s t = record {
  stays = t.stays;
  early = λ f. (e (t.early f).0, (t.early f).1);
  answers = ((λ x. t.answers.0 (r x)), t.answers.1);
  opened = t.opened;
  silent = λ w. (s (t.silent w).0, (t.silent w).1);
  ordered = ((λ x. t.ordered.0 (r x)), t.ordered.1);
}

-- ---- a timer

-- before an end is initialized the other one is not active
not_working : (own other : Stage) (waiting : List LinkMessage) → Tame own other waiting → IsFresh own → IsWorking other → ⊥
not_working Uninitialized other waiting t f w = t.opened w
not_working Initialized other waiting t f w = f
not_working Active other waiting t f w = f
not_working Reset other waiting t f w = f

ticks_so : (w : Wire) (other : Stage) (stage : Stage) → w.stage ≡ stage → Tame stage other w.waiting → Tame (ticked_at stage w).stage other (ticked_at stage w).waiting
ticks_so w other Uninitialized at t = subst (λ (s : Stage). Tame s other (waits Sync w).waiting) (sym (waits_stage Sync w ∙ at))
    (tame_adds Uninitialized other w.waiting (waits Sync w).waiting Sync t (record { early = λ f. tt; answers = λ r. absurd r; silent = λ x. absurd (t.opened x); ordered = inr tt }) (waits_adds Sync w))
ticks_so w other Initialized at t = subst (λ (s : Stage). Tame s other (waits (Config w.own) w).waiting) (sym (waits_stage (Config w.own) w ∙ at))
    (tame_adds Initialized other w.waiting (waits (Config w.own) w).waiting (Config w.own) t (record { early = λ f. absurd f; answers = λ r. absurd r; silent = λ x. tt; ordered = inl tt }) (waits_adds (Config w.own) w))
ticks_so w other Active at t = subst (λ (s : Stage). Tame s other w.waiting) (sym at) t
ticks_so w other Reset at t = absurd t.stays

pub tick_stage : (w : Wire) → (ticked w).stage ≡ w.stage
tick_stage w = by w w.stage refl
  where
    by : (w : Wire) (stage : Stage) → w.stage ≡ stage → (ticked_at stage w).stage ≡ w.stage
    by w Uninitialized at = waits_stage Sync w
    by w Initialized at = waits_stage (Config w.own) w
    by w Active at = refl
    by w Reset at = refl

pub tick_tame : (w : Wire) (other : Stage) → Tame w.stage other w.waiting → Tame (ticked w).stage other (ticked w).waiting
tick_tame w other t = ticks_so w other w.stage refl t
