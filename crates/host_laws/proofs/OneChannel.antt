-- What becomes of the one channel of a host that offers nothing, and of its question for features: whatever happens but what it asks for.
use Rattle.std.proofs.Common.{◌≡◌, ℕ, List, [], ◌∷◌, ◌++◌, map, Bool, true, false, cond, eqb, not, Option, Some, None, refl, sym, ap, subst, ◌∙◌, ◌⊎◌, inl, inr, append-nil}
use Rattle.std.specs.Prelude.{find, filter, is_some, ◌==◌, if◌then◌else◌}
use Rattle.channel_laws.specs.channel_model.specs.declared.event.ChannelEvent.{ChannelEvent}
use Rattle.channel_laws.specs.channel_model.specs.declared.event.ChannelEvent.TheVariants.{Opened, Closed, Features, FeaturesLost, DisconnectLost}
use Rattle.channel_laws.specs.channel_model.specs.declared.event.CloseReason.{CloseReason}
use Rattle.channel_laws.specs.channel_model.specs.declared.event.CloseReason.TheVariants.{OwnClosed}
use Rattle.channel_laws.specs.channel_model.specs.Value.{Request, Setup, Stage, Requested, Connected, Leaving, Closing, Crossed, Held, Channels}
use Rattle.channel_laws.specs.channel_model.specs.Changing.{has_own, in_place_of}
use Rattle.channel_laws.specs.channel_model.proofs.Lookups.{eqb-same}
use Rattle.channel_laws.specs.channel_model.proofs.Going.{staged}
use Rattle.host_laws.proofs.Changes.{IsBad, kind, is_alive, At, SameQuestion, Fine}

-- ---- what is told that matters to a profile

abbrev pub is_notable : ChannelEvent → Bool
is_notable (Opened own psm) = false
is_notable (Closed own psm reason) = true
is_notable (Features features) = true
is_notable FeaturesLost = true
is_notable (DisconnectLost own) = true

abbrev pub notes : List ChannelEvent → List ChannelEvent
notes events = filter is_notable events

pub notes_more : (xs ys : List ChannelEvent) → notes (xs ++ ys) ≡ notes xs ++ notes ys
notes_more [] ys = refl
notes_more (x ∷ xs) ys = by (is_notable x) (notes_more xs ys)
  where
    by : (b : Bool) → notes (xs ++ ys) ≡ notes xs ++ notes ys → cond b (x ∷ notes (xs ++ ys)) (notes (xs ++ ys)) ≡ cond b (x ∷ notes xs) (notes xs) ++ notes ys
    by true is = ap (λ (l : List ChannelEvent). x ∷ l) is
    by false is = is

pub notes_with : (v w : Channels) (more before : List ChannelEvent) → w.events ≡ v.events ++ more → notes v.events ≡ before → notes w.events ≡ before ++ notes more
notes_with v w more before is was = ap notes is ∙ (notes_more v.events more ∙ ap (λ (l : List ChannelEvent). l ++ notes more) was)

-- ---- one channel

-- it is there, or only asked for, or its end is asked for, where that may be
abbrev pub lives_by : (asked leaving : Bool) → ℕ → Bool
lives_by asked leaving n = if n == 0 then asked else if n == 1 then true else if n == 2 then leaving else false

pub record IsLive (psm : ℕ) (asked leaving : Bool) (v : Channels) : Type 0 where
  pub one : Held
  pub held_is : v.held ≡ one ∷ []
  pub psm_is : one.psm ≡ psm
  pub stage_is : lives_by asked leaving (kind one.stage) ≡ true
  pub quiet : is_some v.features ≡ false
  pub none : notes v.events ≡ []

-- no channel is there, no features are asked for, and this is to be told
pub record IsBare (told : List ChannelEvent) (v : Channels) : Type 0 where
  pub held_is : v.held ≡ []
  pub quiet : is_some v.features ≡ false
  pub notes_are : notes v.events ≡ told

pub record IsEnded (psm : ℕ) (leaving : Bool) (v : Channels) : Type 0 where
  pub leaves : leaving ≡ true
  pub own : ℕ
  pub bare : IsBare (Closed own psm OwnClosed ∷ []) v

-- it was closed otherwise
pub record IsLost (psm : ℕ) (v : Channels) : Type 0 where
  pub own : ℕ
  pub reason : CloseReason
  pub bad : IsBad reason
  pub more : List ChannelEvent
  pub notes_are : notes v.events ≡ Closed own psm reason ∷ more

abbrev pub LiveOn : (psm : ℕ) (asked leaving : Bool) → Channels → Type 0
LiveOn psm asked leaving v = IsLive psm asked leaving v ⊎ (IsEnded psm leaving v ⊎ IsLost psm v)

-- ---- where there is none

pub record IsWaiting (v : Channels) : Type 0 where
  pub held_is : v.held ≡ []
  pub asks : is_some v.features ≡ true
  pub none : notes v.events ≡ []

abbrev pub IsMissed : Channels → Type 0
IsMissed v = (more : List ChannelEvent) × (notes v.events ≡ FeaturesLost ∷ more)

abbrev pub WaitOn : Channels → Type 0
WaitOn v = IsWaiting v ⊎ (((features : Option ℕ) × IsBare (Features features ∷ []) v) ⊎ IsMissed v)

-- ---- changes

never : {X : Type 0} (v : Channels) (held : Held) → v.held ≡ [] → At v held → X
never v held none at = let is : None ≡ Some held = ap (find (has_own held.own)) (sym none) ∙ at in absurd cc

asks_none : {X : Type 0} (v : Channels) (request : Request) → is_some v.features ≡ false → v.features ≡ Some request → X
asks_none v request quiet is = let never : true ≡ false = ap is_some (sym is) ∙ quiet in absurd cc

pub alone : (v : Channels) (one held : Held) → v.held ≡ one ∷ [] → At v held → one ≡ held
alone v one held is at = by (has_own held.own one) (ap (find (has_own held.own)) (sym is) ∙ at)
  where
    by : (b : Bool) → cond b (Some one) None ≡ Some held → one ≡ held
    by true found = cc
    by false found = cc

pub alive_by : (asked leaving : Bool) (stage : Stage) → lives_by asked leaving (kind stage) ≡ true → is_alive stage ≡ true
alive_by asked leaving (Requested request) is = refl
alive_by asked leaving (Connected peer setup) is = refl
alive_by asked leaving (Leaving peer setup request) is = refl
alive_by asked leaving (Closing peer request checked) is = cc
alive_by asked leaving (Crossed peer request) is = cc

module _ (psm : ℕ) (asked leaving : Bool) where
  lost_more : (v w : Channels) (more : List ChannelEvent) → w.events ≡ v.events ++ more → IsLost psm v → IsLost psm w
  lost_more v w more is lost = record { own = lost.own; reason = lost.reason; bad = lost.bad; more = lost.more ++ notes more; notes_are = notes_with v w more (Closed lost.own psm lost.reason ∷ lost.more) is lost.notes_are }

  bare_still : (told : List ChannelEvent) (v w : Channels) → w.held ≡ v.held → SameQuestion v w → w.events ≡ v.events → IsBare told v → IsBare told w
  bare_still told v w held_is question events_are bare = record { held_is = held_is ∙ bare.held_is; quiet = question ∙ bare.quiet; notes_are = ap notes events_are ∙ bare.notes_are }

  bare_opens : (told : List ChannelEvent) (v w : Channels) (own other : ℕ) → w.held ≡ v.held → SameQuestion v w → w.events ≡ v.events ++ Opened own other ∷ [] → IsBare told v → IsBare told w
  bare_opens told v w own other held_is question events_are bare =
      record { held_is = held_is ∙ bare.held_is; quiet = question ∙ bare.quiet; notes_are = notes_with v w (Opened own other ∷ []) told events_are bare.notes_are ∙ append-nil told }

  -- where the channel goes on to another stage
  pub goes_on : (v w : Channels) (held : Held) (stage : Stage) → At v held → lives_by asked leaving (kind stage) ≡ true → w.held ≡ map (in_place_of (staged held stage)) v.held → SameQuestion v w → w.events ≡ v.events → IsLive psm asked leaving v → IsLive psm asked leaving w
  goes_on v w held stage at lives held_is question events_are live =
      let same : live.one ≡ held = alone v live.one held live.held_is at in record {
        one = staged held stage;
        held_is = held_is ∙ (ap (map (in_place_of (staged held stage))) live.held_is ∙ (ap (λ (h : Held). in_place_of (staged held stage) h ∷ []) same ∙ ap (λ b. cond b (staged held stage) held ∷ []) (eqb-same held.own)));
        psm_is = ap (λ (h : Held). h.psm) (sym same) ∙ live.psm_is;
        stage_is = lives;
        quiet = question ∙ live.quiet;
        none = ap notes events_are ∙ live.none;
      }

  lives_at : (v : Channels) (held : Held) → At v held → (live : IsLive psm asked leaving v) → lives_by asked leaving (kind held.stage) ≡ true
  lives_at v held at live = subst (λ (h : Held). lives_by asked leaving (kind h.stage) ≡ true) (alone v live.one held live.held_is at) live.stage_is

  psm_at : (v : Channels) (held : Held) → At v held → IsLive psm asked leaving v → held.psm ≡ psm
  psm_at v held at live = ap (λ (h : Held). h.psm) (sym (alone v live.one held live.held_is at)) ∙ live.psm_is

  pub live-fine : Fine (LiveOn psm asked leaving)
  live-fine = record { still = still; opens = opens; stages = stages; joins = joins; shuts = shuts; ends = ends; dies = dies; answered = answered; misses = misses }
    where
      L : Channels → Type 0
      L v = LiveOn psm asked leaving v

      still : (v w : Channels) → w.held ≡ v.held → SameQuestion v w → w.events ≡ v.events → L v → L w
      still v w held_is question events_are (inl live) =
          inl (record { one = live.one; held_is = held_is ∙ live.held_is; psm_is = live.psm_is; stage_is = live.stage_is; quiet = question ∙ live.quiet; none = ap notes events_are ∙ live.none })
      still v w held_is question events_are (inr (inl ended)) = inr (inl (record { leaves = ended.leaves; own = ended.own; bare = bare_still (Closed ended.own psm OwnClosed ∷ []) v w held_is question events_are ended.bare }))
      still v w held_is question events_are (inr (inr lost)) = inr (inr (lost_more v w [] (events_are ∙ sym (append-nil v.events)) lost))

      opens : (v w : Channels) (own other : ℕ) → w.held ≡ v.held → SameQuestion v w → w.events ≡ v.events ++ Opened own other ∷ [] → L v → L w
      opens v w own other held_is question events_are (inl live) =
          inl (record { one = live.one; held_is = held_is ∙ live.held_is; psm_is = live.psm_is; stage_is = live.stage_is; quiet = question ∙ live.quiet; none = notes_with v w (Opened own other ∷ []) [] events_are live.none })
      opens v w own other held_is question events_are (inr (inl ended)) = inr (inl (record { leaves = ended.leaves; own = ended.own; bare = bare_opens (Closed ended.own psm OwnClosed ∷ []) v w own other held_is question events_are ended.bare }))
      opens v w own other held_is question events_are (inr (inr lost)) = inr (inr (lost_more v w (Opened own other ∷ []) events_are lost))

      stages : (v w : Channels) (held : Held) (stage : Stage) → At v held → kind stage ≡ kind held.stage → w.held ≡ map (in_place_of (staged held stage)) v.held → SameQuestion v w → w.events ≡ v.events → L v → L w
      stages v w held stage at same held_is question events_are (inl live) = inl (goes_on v w held stage at (ap (lives_by asked leaving) same ∙ lives_at v held at live) held_is question events_are live)
      stages v w held stage at same held_is question events_are (inr (inl ended)) = never v held ended.bare.held_is at
      stages v w held stage at same held_is question events_are (inr (inr lost)) = inr (inr (lost_more v w [] (events_are ∙ sym (append-nil v.events)) lost))

      joins : (v w : Channels) (held : Held) (request : Request) (peer : ℕ) (setup : Setup) → At v held → held.stage ≡ Requested request → w.held ≡ map (in_place_of (staged held (Connected peer setup))) v.held → SameQuestion v w → w.events ≡ v.events → L v → L w
      joins v w held request peer setup at is held_is question events_are (inl live) = inl (goes_on v w held (Connected peer setup) at refl held_is question events_are live)
      joins v w held request peer setup at is held_is question events_are (inr (inl ended)) = never v held ended.bare.held_is at
      joins v w held request peer setup at is held_is question events_are (inr (inr lost)) = inr (inr (lost_more v w [] (events_are ∙ sym (append-nil v.events)) lost))

      shuts : (v w : Channels) (held : Held) (reason : CloseReason) → At v held → is_alive held.stage ≡ true → IsBad reason → w.events ≡ v.events ++ Closed held.own held.psm reason ∷ [] → L v → L w
      shuts v w held reason at alive bad events_are (inl live) =
          let told : notes w.events ≡ Closed held.own held.psm reason ∷ [] = notes_with v w (Closed held.own held.psm reason ∷ []) [] events_are live.none in
          inr (inr (record { own = held.own; reason = reason; bad = bad; more = []; notes_are = told ∙ ap (λ n. Closed held.own n reason ∷ []) (psm_at v held at live) }))
      shuts v w held reason at alive bad events_are (inr (inl ended)) = never v held ended.bare.held_is at
      shuts v w held reason at alive bad events_are (inr (inr lost)) = inr (inr (lost_more v w (Closed held.own held.psm reason ∷ []) events_are lost))

      ends : (v w : Channels) (held : Held) → At v held → kind held.stage ≡ 2 → w.held ≡ filter (λ other. not (eqb other.own held.own)) v.held → SameQuestion v w → w.events ≡ v.events ++ Closed held.own held.psm OwnClosed ∷ [] → L v → L w
      ends v w held at leaves held_is question events_are (inl live) =
          let same : live.one ≡ held = alone v live.one held live.held_is at in
          let told : notes w.events ≡ Closed held.own held.psm OwnClosed ∷ [] = notes_with v w (Closed held.own held.psm OwnClosed ∷ []) [] events_are live.none in
          inr (inl (record {
            leaves = ap (lives_by asked leaving) (sym leaves) ∙ lives_at v held at live;
            own = held.own;
            bare = record {
              held_is = held_is ∙ (ap (filter (λ (other : Held). not (eqb other.own held.own))) live.held_is ∙ (ap (λ (h : Held). filter (λ (other : Held). not (eqb other.own held.own)) (h ∷ [])) same ∙ ap (λ b. cond (not b) (held ∷ []) []) (eqb-same held.own)));
              quiet = question ∙ live.quiet;
              notes_are = told ∙ ap (λ n. Closed held.own n OwnClosed ∷ []) (psm_at v held at live);
            };
          }))
      ends v w held at leaves held_is question events_are (inr (inl ended)) = never v held ended.bare.held_is at
      ends v w held at leaves held_is question events_are (inr (inr lost)) = inr (inr (lost_more v w (Closed held.own held.psm OwnClosed ∷ []) events_are lost))

      dies : (v w : Channels) (held : Held) (more : List ChannelEvent) → At v held → is_alive held.stage ≡ false → w.events ≡ v.events ++ more → L v → L w
      dies v w held more at dead events_are (inl live) = let no : true ≡ false = sym (alive_by asked leaving held.stage (lives_at v held at live)) ∙ dead in absurd cc
      dies v w held more at dead events_are (inr (inl ended)) = never v held ended.bare.held_is at
      dies v w held more at dead events_are (inr (inr lost)) = inr (inr (lost_more v w more events_are lost))

      answered : (v w : Channels) (request : Request) (features : Option ℕ) → v.features ≡ Some request → w.held ≡ v.held → w.features ≡ None → w.events ≡ v.events ++ Features features ∷ [] → L v → L w
      answered v w request features is held_is none events_are (inl live) = asks_none v request live.quiet is
      answered v w request features is held_is none events_are (inr (inl ended)) = asks_none v request ended.bare.quiet is
      answered v w request features is held_is none events_are (inr (inr lost)) = inr (inr (lost_more v w (Features features ∷ []) events_are lost))

      misses : (v w : Channels) (request : Request) → v.features ≡ Some request → w.events ≡ v.events ++ FeaturesLost ∷ [] → L v → L w
      misses v w request is events_are (inl live) = asks_none v request live.quiet is
      misses v w request is events_are (inr (inl ended)) = asks_none v request ended.bare.quiet is
      misses v w request is events_are (inr (inr lost)) = inr (inr (lost_more v w (FeaturesLost ∷ []) events_are lost))

pub bare-fine : (told : List ChannelEvent) → Fine (IsBare told)
bare-fine told = record {
  still = λ v w held_is question events_are bare. bare_still 0 true true told v w held_is question events_are bare;
  opens = λ v w own psm held_is question events_are bare. bare_opens 0 true true told v w own psm held_is question events_are bare;
  stages = λ v w held stage at same held_is question events_are bare. never v held bare.held_is at;
  joins = λ v w held request peer setup at is held_is question events_are bare. never v held bare.held_is at;
  shuts = λ v w held reason at alive bad events_are bare. never v held bare.held_is at;
  ends = λ v w held at leaves held_is question events_are bare. never v held bare.held_is at;
  dies = λ v w held more at dead events_are bare. never v held bare.held_is at;
  answered = λ v w request features is held_is none events_are bare. asks_none v request bare.quiet is;
  misses = λ v w request is events_are bare. asks_none v request bare.quiet is;
}

missed_more : (v w : Channels) (more : List ChannelEvent) → w.events ≡ v.events ++ more → IsMissed v → IsMissed w
missed_more v w more is (others, missed) = (others ++ notes more, notes_with v w more (FeaturesLost ∷ others) is missed)

pub wait-fine : Fine WaitOn
wait-fine = record { still = still; opens = opens; stages = stages; joins = joins; shuts = shuts; ends = ends; dies = dies; answered = answered; misses = misses }
  where
    still : (v w : Channels) → w.held ≡ v.held → SameQuestion v w → w.events ≡ v.events → WaitOn v → WaitOn w
    still v w held_is question events_are (inl waits) = inl (record { held_is = held_is ∙ waits.held_is; asks = question ∙ waits.asks; none = ap notes events_are ∙ waits.none })
    still v w held_is question events_are (inr (inl (features, bare))) = inr (inl (features, bare_still 0 true true (Features features ∷ []) v w held_is question events_are bare))
    still v w held_is question events_are (inr (inr missed)) = inr (inr (missed_more v w [] (events_are ∙ sym (append-nil v.events)) missed))

    opens : (v w : Channels) (own psm : ℕ) → w.held ≡ v.held → SameQuestion v w → w.events ≡ v.events ++ Opened own psm ∷ [] → WaitOn v → WaitOn w
    opens v w own psm held_is question events_are (inl waits) = inl (record { held_is = held_is ∙ waits.held_is; asks = question ∙ waits.asks; none = notes_with v w (Opened own psm ∷ []) [] events_are waits.none })
    opens v w own psm held_is question events_are (inr (inl (features, bare))) = inr (inl (features, bare_opens 0 true true (Features features ∷ []) v w own psm held_is question events_are bare))
    opens v w own psm held_is question events_are (inr (inr missed)) = inr (inr (missed_more v w (Opened own psm ∷ []) events_are missed))

    none_held : (v w : Channels) (held : Held) (more : List ChannelEvent) → At v held → w.events ≡ v.events ++ more → WaitOn v → WaitOn w
    none_held v w held more at events_are (inl waits) = never v held waits.held_is at
    none_held v w held more at events_are (inr (inl (features, bare))) = never v held bare.held_is at
    none_held v w held more at events_are (inr (inr missed)) = inr (inr (missed_more v w more events_are missed))

    stages : (v w : Channels) (held : Held) (stage : Stage) → At v held → kind stage ≡ kind held.stage → w.held ≡ map (in_place_of (staged held stage)) v.held → SameQuestion v w → w.events ≡ v.events → WaitOn v → WaitOn w
    stages v w held stage at same held_is question events_are on = none_held v w held [] at (events_are ∙ sym (append-nil v.events)) on

    joins : (v w : Channels) (held : Held) (request : Request) (peer : ℕ) (setup : Setup) → At v held → held.stage ≡ Requested request → w.held ≡ map (in_place_of (staged held (Connected peer setup))) v.held → SameQuestion v w → w.events ≡ v.events → WaitOn v → WaitOn w
    joins v w held request peer setup at is held_is question events_are on = none_held v w held [] at (events_are ∙ sym (append-nil v.events)) on

    shuts : (v w : Channels) (held : Held) (reason : CloseReason) → At v held → is_alive held.stage ≡ true → IsBad reason → w.events ≡ v.events ++ Closed held.own held.psm reason ∷ [] → WaitOn v → WaitOn w
    shuts v w held reason at alive bad events_are on = none_held v w held (Closed held.own held.psm reason ∷ []) at events_are on

    ends : (v w : Channels) (held : Held) → At v held → kind held.stage ≡ 2 → w.held ≡ filter (λ other. not (eqb other.own held.own)) v.held → SameQuestion v w → w.events ≡ v.events ++ Closed held.own held.psm OwnClosed ∷ [] → WaitOn v → WaitOn w
    ends v w held at leaves held_is question events_are on = none_held v w held (Closed held.own held.psm OwnClosed ∷ []) at events_are on

    dies : (v w : Channels) (held : Held) (more : List ChannelEvent) → At v held → is_alive held.stage ≡ false → w.events ≡ v.events ++ more → WaitOn v → WaitOn w
    dies v w held more at dead events_are on = none_held v w held more at events_are on

    answered : (v w : Channels) (request : Request) (features : Option ℕ) → v.features ≡ Some request → w.held ≡ v.held → w.features ≡ None → w.events ≡ v.events ++ Features features ∷ [] → WaitOn v → WaitOn w
    answered v w request features is held_is none events_are (inl waits) = inr (inl (features, record { held_is = held_is ∙ waits.held_is; quiet = ap is_some none; notes_are = notes_with v w (Features features ∷ []) [] events_are waits.none }))
    answered v w request features is held_is none events_are (inr (inl (told, bare))) = asks_none v request bare.quiet is
    answered v w request features is held_is none events_are (inr (inr missed)) = inr (inr (missed_more v w (Features features ∷ []) events_are missed))

    misses : (v w : Channels) (request : Request) → v.features ≡ Some request → w.events ≡ v.events ++ FeaturesLost ∷ [] → WaitOn v → WaitOn w
    misses v w request is events_are (inl waits) = inr (inr ([], notes_with v w (FeaturesLost ∷ []) [] events_are waits.none))
    misses v w request is events_are (inr (inl (told, bare))) = asks_none v request bare.quiet is
    misses v w request is events_are (inr (inr missed)) = inr (inr (missed_more v w (FeaturesLost ∷ []) events_are missed))
