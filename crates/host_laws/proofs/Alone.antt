-- The one channel of a host that offers nothing keeps its endpoint, whatever happens but what its host asks for, until something is told of it.
use Rattle.std.proofs.Common.{◌≡◌, ℕ, List, [], ◌∷◌, ◌++◌, map, Bool, true, false, cond, eqb, Option, Some, None, refl, sym, ap, ◌∙◌, ◌⊎◌, inl, inr, append-nil}
use Rattle.std.specs.Prelude.{filter, not}
use Rattle.std.proofs.lemmas.Bool.{eqb-true}
use Rattle.channel_laws.specs.channel_model.specs.declared.event.ChannelEvent.{ChannelEvent}
use Rattle.channel_laws.specs.channel_model.specs.declared.event.ChannelEvent.TheVariants.{Opened, Closed, Features, FeaturesLost}
use Rattle.channel_laws.specs.channel_model.specs.declared.event.CloseReason.{CloseReason}
use Rattle.channel_laws.specs.channel_model.specs.declared.event.CloseReason.TheVariants.{OwnClosed}
use Rattle.channel_laws.specs.channel_model.specs.Value.{Request, Setup, Stage, Requested, Connected, Leaving, Closing, Crossed, Held, Channels}
use Rattle.channel_laws.specs.channel_model.specs.Changing.{in_place_of}
use Rattle.channel_laws.specs.channel_model.proofs.Lookups.{eqb-same}
use Rattle.channel_laws.specs.channel_model.proofs.Going.{staged}
use Rattle.host_laws.proofs.Changes.{IsBad, kind, is_alive, At, SameQuestion, Fine}
use Rattle.host_laws.proofs.OneChannel.{notes, notes_with, alone}

-- it has that endpoint, was not closed, and its end was asked for where that is said
pub record IsAlone (own : ℕ) (leaving : Bool) (v : Channels) : Type 0 where
  pub one : Held
  pub held_is : v.held ≡ one ∷ []
  pub own_is : one.own ≡ own
  pub alive : is_alive one.stage ≡ true
  pub leaves : leaving ≡ true → kind one.stage ≡ 2

abbrev pub IsNoted : Channels → Type 0
IsNoted v = (event : ChannelEvent) × (more : List ChannelEvent) × (notes v.events ≡ event ∷ more)

abbrev pub AloneOn : (own : ℕ) (leaving : Bool) → Channels → Type 0
AloneOn own leaving v = IsAlone own leaving v ⊎ IsNoted v

pub noted_more : (v w : Channels) (more : List ChannelEvent) → w.events ≡ v.events ++ more → IsNoted v → IsNoted w
noted_more v w more is (event, rest, noted) = (event, rest ++ notes more, notes_with v w more (event ∷ rest) is noted)

pub noted_same : (v w : Channels) → w.events ≡ v.events → IsNoted v → IsNoted w
noted_same v w is noted = noted_more v w [] (is ∙ sym (append-nil v.events)) noted

-- with something notable behind all that is to be told
pub noted_last : (v w : Channels) (event : ChannelEvent) → notes (event ∷ []) ≡ event ∷ [] → w.events ≡ v.events ++ event ∷ [] → IsNoted w
noted_last v w event notable is = by (notes v.events) (notes_with v w (event ∷ []) (notes v.events) is refl ∙ ap (λ (l : List ChannelEvent). notes v.events ++ l) notable)
  where
    by : (before : List ChannelEvent) → notes w.events ≡ before ++ event ∷ [] → IsNoted w
    by [] now = (event, [], now)
    by (first ∷ rest) now = (first, rest ++ event ∷ [], now)

pub placed_own : (one held : Held) (stage : Stage) → (in_place_of (staged held stage) one).own ≡ one.own
placed_own one held stage = by (eqb one.own held.own) refl
  where
    by : (b : Bool) → eqb one.own held.own ≡ b → (cond b (staged held stage) one).own ≡ one.own
    by true is = sym (eqb-true one.own held.own is)
    by false is = refl

pub kind_alive : (a b : Stage) → kind a ≡ kind b → is_alive b ≡ true → is_alive a ≡ true
kind_alive (Requested r) b same is = refl
kind_alive (Connected p s) b same is = refl
kind_alive (Leaving p s r) b same is = refl
kind_alive (Closing p r c) (Closing q t d) same is = is
kind_alive (Closing p r c) (Requested t) same is = cc
kind_alive (Closing p r c) (Connected q t) same is = cc
kind_alive (Closing p r c) (Leaving q t d) same is = cc
kind_alive (Closing p r c) (Crossed q t) same is = is
kind_alive (Crossed p r) (Crossed q t) same is = is
kind_alive (Crossed p r) (Requested t) same is = cc
kind_alive (Crossed p r) (Connected q t) same is = cc
kind_alive (Crossed p r) (Leaving q t d) same is = cc
kind_alive (Crossed p r) (Closing q t d) same is = is

module _ (own : ℕ) (leaving : Bool) where
  -- it goes on to another stage
  staged_alone : (v w : Channels) (held : Held) (stage : Stage) → At v held → (is_alive held.stage ≡ true → is_alive stage ≡ true) → (leaving ≡ true → kind held.stage ≡ 2 → kind stage ≡ 2) → w.held ≡ map (in_place_of (staged held stage)) v.held → IsAlone own leaving v → IsAlone own leaving w
  staged_alone v w held stage at lives leaves held_is is =
      let same : is.one ≡ held = alone v is.one held is.held_is at in
      let next : Held = in_place_of (staged held stage) is.one in
      let placed : next ≡ staged held stage = ap (λ (h : Held). in_place_of (staged held stage) h) same ∙ here held stage in
      record {
        one = next;
        held_is = held_is ∙ ap (map (in_place_of (staged held stage))) is.held_is;
        own_is = placed_own is.one held stage ∙ is.own_is;
        alive = ap (λ (h : Held). is_alive h.stage) placed ∙ lives (ap (λ (h : Held). is_alive h.stage) (sym same) ∙ is.alive);
        leaves = λ now. ap (λ (h : Held). kind h.stage) placed ∙ leaves now (ap (λ (h : Held). kind h.stage) (sym same) ∙ is.leaves now);
      }
    where
      here : (held : Held) (stage : Stage) → in_place_of (staged held stage) held ≡ staged held stage
      here held stage = ap (λ b. cond b (staged held stage) held) (eqb-same held.own)

  same_alone : (v w : Channels) → w.held ≡ v.held → IsAlone own leaving v → IsAlone own leaving w
  same_alone v w held_is is = record { one = is.one; held_is = held_is ∙ is.held_is; own_is = is.own_is; alive = is.alive; leaves = is.leaves }

  dead_one : {X : Type 0} (v : Channels) (held : Held) → At v held → is_alive held.stage ≡ false → IsAlone own leaving v → X
  dead_one v held at dead is = let never : true ≡ false = sym is.alive ∙ (ap (λ (h : Held). is_alive h.stage) (alone v is.one held is.held_is at) ∙ dead) in absurd cc

  pub alone-fine : Fine (AloneOn own leaving)
  alone-fine = record { still = still; opens = opens; stages = stages; joins = joins; shuts = shuts; ends = ends; dies = dies; answered = answered; misses = misses }
    where
      K : Channels → Type 0
      K v = AloneOn own leaving v

      still : (v w : Channels) → w.held ≡ v.held → SameQuestion v w → w.events ≡ v.events → K v → K w
      still v w held_is question events_are (inl is) = inl (same_alone v w held_is is)
      still v w held_is question events_are (inr noted) = inr (noted_same v w events_are noted)

      opens : (v w : Channels) (other psm : ℕ) → w.held ≡ v.held → SameQuestion v w → w.events ≡ v.events ++ Opened other psm ∷ [] → K v → K w
      opens v w other psm held_is question events_are (inl is) = inl (same_alone v w held_is is)
      opens v w other psm held_is question events_are (inr noted) = inr (noted_more v w (Opened other psm ∷ []) events_are noted)

      stages : (v w : Channels) (held : Held) (stage : Stage) → At v held → kind stage ≡ kind held.stage → w.held ≡ map (in_place_of (staged held stage)) v.held → SameQuestion v w → w.events ≡ v.events → K v → K w
      stages v w held stage at same held_is question events_are (inl is) = inl (staged_alone v w held stage at (kind_alive stage held.stage same) (λ now was. same ∙ was) held_is is)
      stages v w held stage at same held_is question events_are (inr noted) = inr (noted_same v w events_are noted)

      joins : (v w : Channels) (held : Held) (request : Request) (peer : ℕ) (setup : Setup) → At v held → held.stage ≡ Requested request → w.held ≡ map (in_place_of (staged held (Connected peer setup))) v.held → SameQuestion v w → w.events ≡ v.events → K v → K w
      joins v w held request peer setup at is held_is question events_are (inl one) =
          inl (staged_alone v w held (Connected peer setup) at (λ lives. refl) (λ now was. let never : 0 ≡ 2 = sym (ap kind is) ∙ was in absurd cc) held_is one)
      joins v w held request peer setup at is held_is question events_are (inr noted) = inr (noted_same v w events_are noted)

      shuts : (v w : Channels) (held : Held) (reason : CloseReason) → At v held → is_alive held.stage ≡ true → IsBad reason → w.events ≡ v.events ++ Closed held.own held.psm reason ∷ [] → K v → K w
      shuts v w held reason at alive bad events_are k = inr (noted_last v w (Closed held.own held.psm reason) refl events_are)

      ends : (v w : Channels) (held : Held) → At v held → kind held.stage ≡ 2 → w.held ≡ filter (λ other. not (eqb other.own held.own)) v.held → SameQuestion v w → w.events ≡ v.events ++ Closed held.own held.psm OwnClosed ∷ [] → K v → K w
      ends v w held at leaves held_is question events_are k = inr (noted_last v w (Closed held.own held.psm OwnClosed) refl events_are)

      dies : (v w : Channels) (held : Held) (more : List ChannelEvent) → At v held → is_alive held.stage ≡ false → w.events ≡ v.events ++ more → K v → K w
      dies v w held more at dead events_are (inl is) = dead_one v held at dead is
      dies v w held more at dead events_are (inr noted) = inr (noted_more v w more events_are noted)

      answered : (v w : Channels) (request : Request) (features : Option ℕ) → v.features ≡ Some request → w.held ≡ v.held → w.features ≡ None → w.events ≡ v.events ++ Features features ∷ [] → K v → K w
      answered v w request features is held_is none events_are k = inr (noted_last v w (Features features) refl events_are)

      misses : (v w : Channels) (request : Request) → v.features ≡ Some request → w.events ≡ v.events ++ FeaturesLost ∷ [] → K v → K w
      misses v w request is events_are k = inr (noted_last v w FeaturesLost refl events_are)

-- So where nothing is to be told of it, it is the same one.
pub same_one : (own : ℕ) (leaving : Bool) (v w : Channels) (one next : Held) → ((K : Channels → Type 0) → Fine K → K v → K w) → v.held ≡ one ∷ [] → one.own ≡ own → is_alive one.stage ≡ true → (leaving ≡ true → kind one.stage ≡ 2) → w.held ≡ next ∷ [] → notes w.events ≡ []
    → (next.own ≡ own) × (leaving ≡ true → kind next.stage ≡ 2)
same_one own leaving v w one next goes held_is own_is alive leaves next_is none = by (goes (AloneOn own leaving) (alone-fine own leaving) (inl (record { one = one; held_is = held_is; own_is = own_is; alive = alive; leaves = leaves })))
  where
    by : AloneOn own leaving w → (next.own ≡ own) × (leaving ≡ true → kind next.stage ≡ 2)
    by (inl is) =
        let lists : is.one ∷ [] ≡ next ∷ [] = sym is.held_is ∙ next_is in
        let same : is.one ≡ next = cc in (ap (λ (h : Held). h.own) (sym same) ∙ is.own_is, λ now. ap (λ (h : Held). kind h.stage) (sym same) ∙ is.leaves now)
    by (inr (event, more, noted)) = let never : [] ≡ event ∷ more = sym none ∙ noted in absurd cc
