-- How the establishment of the link goes on round by round.
use Rattle.std.proofs.Common.{◌≡◌, ◌⊎◌, ℕ, ◌+◌, ◌<◌, ◌≤◌, [], ◌∷◌, ◌++◌, length, inl, inr, refl, sym, ap, subst, ◌∙◌, arith}
use Rattle.std.proofs.lemmas.Bool.{cases_lt}
use Rattle.wire_model.specs.declared.link.LinkMessage.TheVariants.{Sync, Config}
use Rattle.wire_model.specs.declared.link.Stage.{Stage}
use Rattle.wire_model.specs.declared.link.Stage.TheVariants.{Uninitialized, Initialized, Active, Reset}
use Rattle.wire_model.specs.Machine.{Wire, ticked, ticked_at}
use Rattle.wire_model.proofs.Handshake.{Tame, IsFresh, IsOpened, IsWorking, IsOpen, IsResponse, tick_stage}
use Rattle.wire_model.proofs.Telling.{IsSync, IsSyncResponse, IsConfig, asking, waits_room, rank}
use Rattle.wire_model.proofs.Halves.{Has, has_last, Bounded, bounded}
use Rattle.wire_model.proofs.Shaking.{Half, half_syncs, half_configs, half_rises, half_opens, half_has, half_mild, half_quiet}

-- the next round without a loss brings an end on
pub data Ripe (a b : Wire) : Type 0 where
  syncs : IsFresh a.stage → Has IsSync a.waiting → Ripe a b
  configs : a.stage ≡ Initialized → IsOpened b.stage → Has IsConfig a.waiting → Ripe a b
  rises : IsFresh b.stage → Has IsSyncResponse a.waiting → Ripe a b
  opens : b.stage ≡ Initialized → Has IsResponse a.waiting → Ripe a b

-- or the one behind it
pub data Asked (a b : Wire) : Type 0 where
  syncs : IsFresh b.stage → Has IsSync b.waiting → Asked a b
  configs : b.stage ≡ Initialized → a.stage ≡ Active → Has IsConfig b.waiting → Asked a b

-- the packets of a round, of which none is lost
pub record Clear (a b a' b' : Wire) : Type 0 where
  pub between : Wire
  pub between' : Wire
  pub forth : Half a b between between'
  pub back : Half between' between b' a'

pub bounds : (from to from' to' : Wire) → Half from to from' to' → Bounded from to from' to'
bounds from to from' to' h = bounded from to h.fates from' to' h.speaks h.few

fresh_rank : (s : Stage) → IsFresh s → rank s ≡ 2
fresh_rank Uninitialized f = refl
fresh_rank Initialized f = absurd f
fresh_rank Active f = absurd f
fresh_rank Reset f = absurd f

rank_fresh : (s : Stage) → 2 ≤ rank s → IsFresh s
rank_fresh Uninitialized le = tt
rank_fresh Initialized le = absurd (omega arith)
rank_fresh Active le = absurd (omega arith)
rank_fresh Reset le = absurd (omega arith)

opened_rank : (s : Stage) → IsOpened s → rank s ≤ 1
opened_rank Uninitialized o = absurd o
opened_rank Initialized o = omega arith
opened_rank Active o = omega arith
opened_rank Reset o = absurd o

working_rank : (s : Stage) → IsWorking s → rank s ≡ 0
working_rank Uninitialized w = absurd w
working_rank Initialized w = absurd w
working_rank Active w = refl
working_rank Reset w = absurd w

rank_one : (s : Stage) → rank s ≡ 1 → s ≡ Initialized
rank_one Uninitialized e = absurd (omega (arith, e))
rank_one Initialized e = refl
rank_one Active e = absurd (omega (arith, e))
rank_one Reset e = absurd (omega (arith, e))

opened_at : (s : Stage) → s ≡ Initialized → IsOpened s
opened_at s e = subst IsOpened (sym e) tt

opened_active : (s : Stage) → s ≡ Active → IsOpened s
opened_active s e = subst IsOpened (sym e) tt

abbrev pub ranks : Wire → Wire → ℕ
ranks a b = rank a.stage + rank b.stage

pub ripe_on : (a b a' b' : Wire) → Clear a b a' b' → Ripe a b → ranks a' b' < ranks a b
ripe_on a b a' b' c (syncs f h) =
    let x = bounds a b c.between c.between' c.forth in let y = bounds c.between' c.between b' a' c.back in
    let o = half_rises c.between' c.between b' a' c.back (half_syncs a b c.between c.between' c.forth h) in
    omega (arith, x.rank, ap rank y.stage, fresh_rank a.stage f, opened_rank a'.stage o)
ripe_on a b a' b' c (configs at o h) =
    let x = bounds a b c.between c.between' c.forth in let y = bounds c.between' c.between b' a' c.back in
    let w = half_opens c.between' c.between b' a' c.back (opened_at c.between.stage (x.stage ∙ at)) (half_configs a b c.between c.between' c.forth o h) in
    omega (arith, x.rank, ap rank y.stage, ap rank at, working_rank a'.stage w)
ripe_on a b a' b' c (rises f h) =
    let x = bounds a b c.between c.between' c.forth in let y = bounds c.between' c.between b' a' c.back in
    let o = half_rises a b c.between c.between' c.forth h in
    omega (arith, y.rank, ap rank x.stage, ap rank y.stage, fresh_rank b.stage f, opened_rank c.between'.stage o)
ripe_on a b a' b' c (opens at h) =
    let x = bounds a b c.between c.between' c.forth in let y = bounds c.between' c.between b' a' c.back in
    let w = half_opens a b c.between c.between' c.forth (opened_at b.stage at) h in
    omega (arith, y.rank, ap rank x.stage, ap rank y.stage, ap rank at, working_rank c.between'.stage w)

pub asked_on : (a b a' b' : Wire) → Clear a b a' b' → Asked a b → (ranks a' b' < ranks a b) ⊎ Ripe a' b'
asked_on a b a' b' c (syncs f h) =
    let x = bounds a b c.between c.between' c.forth in let y = bounds c.between' c.between b' a' c.back in
    let r = half_syncs c.between' c.between b' a' c.back (half_has IsSync a b c.between c.between' c.forth h) in
    elim (cases_lt (rank b'.stage) 2) [
      | inl lt ↦ inl (omega (arith, lt, y.rank, ap rank x.stage, fresh_rank b.stage f))
      | inr le ↦ inr (rises (rank_fresh b'.stage le) r)
    ]
asked_on a b a' b' c (configs at ata h) =
    let x = bounds a b c.between c.between' c.forth in let y = bounds c.between' c.between b' a' c.back in
    let r = half_configs c.between' c.between b' a' c.back (opened_active c.between.stage (x.stage ∙ ata)) (half_has IsConfig a b c.between c.between' c.forth h) in
    elim (cases_lt (rank b'.stage) 1) [
      | inl lt ↦ inl (omega (arith, lt, y.rank, ap rank x.stage, ap rank at))
      | inr le ↦ inr (opens (rank_one b'.stage (omega (arith, le, x.rank, ap rank y.stage, ap rank at))) r)
    ]

pub mild_on : (a b a' b' : Wire) → Clear a b a' b' → asking b.waiting ≡ 0 → (ranks a' b' < ranks a b) ⊎ (a'.waiting ≡ [])
mild_on a b a' b' c e =
    let x = bounds a b c.between c.between' c.forth in let y = bounds c.between' c.between b' a' c.back in
    elim (half_mild a b c.between c.between' c.forth e) [
      | inl lt ↦ inl (omega (arith, lt, y.rank, ap rank x.stage, ap rank y.stage))
      | inr mild ↦ elim (half_quiet c.between' c.between b' a' c.back mild) [
        | inl lt ↦ inl (omega (arith, lt, x.rank, ap rank x.stage, ap rank y.stage))
        | inr same ↦ inr (same ∙ c.forth.said)
      ]
    ]

-- ---- the timers of both ends fire

tick_sync : (w : Wire) → w.stage ≡ Uninitialized → length w.waiting < 16 → (ticked w).waiting ≡ w.waiting ++ Sync ∷ []
tick_sync w at lt = ap (λ (x : Wire). x.waiting) (ap (λ (s : Stage). ticked_at s w) at ∙ waits_room Sync w lt)

tick_config : (w : Wire) → w.stage ≡ Initialized → length w.waiting < 16 → (ticked w).waiting ≡ w.waiting ++ Config w.own ∷ []
tick_config w at lt = ap (λ (x : Wire). x.waiting) (ap (λ (s : Stage). ticked_at s w) at ∙ waits_room (Config w.own) w lt)

has_sync : (w : Wire) → w.stage ≡ Uninitialized → length w.waiting < 16 → Has IsSync (ticked w).waiting
has_sync w at lt = subst (Has IsSync) (sym (tick_sync w at lt)) (has_last IsSync w.waiting Sync tt)

has_config : (w : Wire) → w.stage ≡ Initialized → length w.waiting < 16 → Has IsConfig (ticked w).waiting
has_config w at lt = subst (Has IsConfig) (sym (tick_config w at lt)) (has_last IsConfig w.waiting (Config w.own) tt)

fresh_ticked : (w : Wire) → w.stage ≡ Uninitialized → IsFresh (ticked w).stage
fresh_ticked w at = subst IsFresh (sym (tick_stage w ∙ at)) tt

pub ring_on : (a b : Wire) → Tame a.stage b.stage a.waiting → Tame b.stage a.stage b.waiting → length a.waiting < 16 → length b.waiting < 16 → 0 < ranks a b → Ripe (ticked a) (ticked b) ⊎ Asked (ticked a) (ticked b)
ring_on a b t u la lb some = by a.stage b.stage refl refl
  where
    by : (s r : Stage) → a.stage ≡ s → b.stage ≡ r → Ripe (ticked a) (ticked b) ⊎ Asked (ticked a) (ticked b)
    by Uninitialized r at bt = inl (syncs (fresh_ticked a at) (has_sync a at la))
    by Initialized Uninitialized at bt = inr (syncs (fresh_ticked b bt) (has_sync b bt lb))
    by Initialized Initialized at bt = inl (configs (tick_stage a ∙ at) (subst IsOpened (sym (tick_stage b ∙ bt)) tt) (has_config a at la))
    by Initialized Active at bt = inl (configs (tick_stage a ∙ at) (subst IsOpened (sym (tick_stage b ∙ bt)) tt) (has_config a at la))
    by Initialized Reset at bt = absurd (subst IsOpen bt u.stays)
    by Active Uninitialized at bt = absurd (subst IsOpened bt (u.opened (subst IsWorking (sym at) tt)))
    by Active Initialized at bt = inr (configs (tick_stage b ∙ bt) (tick_stage a ∙ at) (has_config b bt lb))
    by Active Active at bt = absurd (omega (arith, some, ap rank at, ap rank bt))
    by Active Reset at bt = absurd (subst IsOpen bt u.stays)
    by Reset r at bt = absurd (subst IsOpen at t.stays)
