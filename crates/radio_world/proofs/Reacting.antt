-- Reactions to what may be no change at all.
use Rattle.std.proofs.Common.{◌≡◌, ◌++◌, Bool, true, false, List, [], refl, sym, ap, subst, if◌then◌else◌}
use Rattle.push_terms.specs.declared.word.Side.{Side}
use Rattle.room_laws.specs.world_model.specs.Machines.{Upper, TimerFired, Cancelled}
use Rattle.room_laws.specs.world_model.specs.Stations.{Station, told}
use Rattle.room_laws.specs.world_model.specs.Worlds.{fired}
use Rattle.radio_world.specs.Hosts.{Asking, answering, MakesEfforts, Reacts, JoinAnswers}
use Rattle.radio_world.specs.Turning.{doing}

-- what is no change leaves the host as it is
pub reacts_not :
    {S G P : Type 0} (U : Upper S G) (side : Side) (Answers : P → List G → P → Type 0) (change : List G → Station S → Station S) (host : Asking S G) (port : P)
    → JoinAnswers Answers → ((answers : List G) → change answers (answering answers host) ≡ answering answers host) → Reacts U side Answers change host host port port
reacts_not U side Answers change host port joins none = record {
  used = [];
  answered = joins.none port;
  efforts = [];
  reacts = λ rest. sym (none rest);
}

-- a change that is the same at a host is as good
pub reacts_as :
    {S G P : Type 0} (U : Upper S G) (side : Side) (Answers : P → List G → P → Type 0) (change other : List G → Station S → Station S) (old new : Asking S G) (port port' : P)
    → ((answers : List G) → change answers (answering answers old) ≡ other answers (answering answers old)) → Reacts U side Answers change old new port port' → Reacts U side Answers other old new port port'
reacts_as {S} U side Answers change other old new port port' same reaction = record {
  used = reaction.used;
  answered = reaction.answered;
  efforts = reaction.efforts;
  reacts = λ rest. subst (λ (s : Station S). MakesEfforts U side reaction.efforts s (answering rest new)) (same (reaction.used ++ rest)) (reaction.reacts rest);
}

-- ---- a timer that is armed or not

pub not_fired : {S G : Type 0} (U : Upper S G) (answers : List G) (s : Station S) → U.armed s.upper ≡ false → fired U answers s ≡ s
not_fired U answers s off = ap (λ b. if b then told U answers TimerFired s else s) off

pub is_fired : {S G : Type 0} (U : Upper S G) (answers : List G) (s : Station S) → U.armed s.upper ≡ true → told U answers TimerFired s ≡ fired U answers s
is_fired U answers s on = sym (ap (λ b. if b then told U answers TimerFired s else s) on)

-- ---- what a host does of a word

pub doing_fired :
    {S G P : Type 0} (U : Upper S G) (side : Side) (Answers : P → List G → P → Type 0) (fires cancels : Bool) (old new : Asking S G) (port port' : P) → fires ≡ true
    → Reacts U side Answers (λ used. fired U used) old new port port' → Reacts U side Answers (doing U fires cancels) old new port port'
doing_fired U side Answers true cancels old new port port' is reaction =
    reacts_as U side Answers (λ used. fired U used) (doing U true cancels) old new port port' (λ answers. refl) reaction
doing_fired U side Answers false cancels old new port port' is reaction = absurd cc

pub doing_cancelled :
    {S G P : Type 0} (U : Upper S G) (side : Side) (Answers : P → List G → P → Type 0) (fires cancels : Bool) (old new : Asking S G) (port port' : P) → fires ≡ false → cancels ≡ true
    → Reacts U side Answers (λ used. told U used Cancelled) old new port port' → Reacts U side Answers (doing U fires cancels) old new port port'
doing_cancelled U side Answers false true old new port port' off is reaction =
    reacts_as U side Answers (λ used. told U used Cancelled) (doing U false true) old new port port' (λ answers. refl) reaction
doing_cancelled U side Answers false false old new port port' off is reaction = absurd cc
doing_cancelled U side Answers true cancels old new port port' off is reaction = absurd cc

pub doing_nothing :
    {S G P : Type 0} (U : Upper S G) (side : Side) (Answers : P → List G → P → Type 0) (fires cancels : Bool) (host : Asking S G) (port : P) → JoinAnswers Answers → fires ≡ false → cancels ≡ false
    → Reacts U side Answers (doing U fires cancels) host host port port
doing_nothing U side Answers false false host port joins off none = reacts_not U side Answers (doing U false false) host port joins (λ answers. refl)
doing_nothing U side Answers false true host port joins off none = absurd cc
doing_nothing U side Answers true cancels host port joins off none = absurd cc
