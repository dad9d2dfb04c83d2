-- The end of a script.
use Rattle.std.proofs.Common.{◌≡◌, ℕ, Bool, true, false, List, [], ◌∷◌, Option, if◌then◌else◌, refl, sym, ap, subst, ◌∙◌}
use Rattle.std.specs.Prelude.{unwrap_or}
use Rattle.std.proofs.lemmas.List.{append-nil}
use Rattle.std.specs.List.{AllByRecursion}
use Rattle.bt_base.specs.Streams.{gained, GainedFront}
use Rattle.bt_base.proofs.PortLaws.{gained-nil}
use Rattle.push_terms.specs.declared.outcome.Outcome.{Outcome}
use Rattle.push_terms.specs.declared.outcome.Outcome.TheVariants.{ScriptEnded}
use Rattle.capture.specs.Entries.{Ended, IsEntry, entry_octets, capture_octets}
use Rattle.room_laws.specs.world_model.specs.Pushes.{Pushes, one_ended}
use Rattle.radio_world.specs.Scenes.{Scene}
use Rattle.radio_world.specs.Standing.{last_ended, last_entries}

-- no push goes on any more
stops : (going : Bool) (came : Option Outcome) (pushes : Pushes) → pushes.going ≡ going → (if going then one_ended (unwrap_or came ScriptEnded) pushes else pushes).going ≡ false
stops true came pushes is = refl
stops false came pushes is = is

pub last_stops : (came : Option Outcome) (pushes : Pushes) → (last_ended came pushes).going ≡ false
last_stops came pushes = stops pushes.going came pushes refl

named : (going : Bool) (came : Option Outcome) (pushes : Pushes) → (if going then one_ended (unwrap_or came ScriptEnded) pushes else pushes).names ≡ pushes.names
named true came pushes = refl
named false came pushes = refl

pub last_named : (came : Option Outcome) (pushes : Pushes) → (last_ended came pushes).names ≡ pushes.names
last_named came pushes = named pushes.going came pushes

-- where none goes on, nothing ends
pub none_ends : (came : Option Outcome) (scene : Scene) → scene.pushes.going ≡ false → scene ≡ record scene { pushes = last_ended came scene.pushes }
none_ends came scene is = sym (ap (λ going. record scene { pushes = if going then one_ended (unwrap_or came ScriptEnded) scene.pushes else scene.pushes }) is)

pub none_written : (came : Option Outcome) (pushes : Pushes) (trace : Option (List ℕ)) → pushes.going ≡ false → trace ≡ gained trace (capture_octets (last_entries came pushes))
none_written came pushes trace is =
    sym (ap (λ going. gained trace (capture_octets (if going then Ended pushes.begun (unwrap_or came ScriptEnded) ∷ [] else []))) is ∙ gained-nil trace)

-- where one goes on, it ends
pub one_ends :
    (came : Option Outcome) (old new : Scene) (outcome : Outcome) → old.pushes.going ≡ true → outcome ≡ unwrap_or came ScriptEnded → new ≡ record old { pushes = one_ended outcome old.pushes }
    → new ≡ record old { pushes = last_ended came old.pushes }
one_ends came old new outcome is outcome_is new_is =
    new_is ∙ ap (λ (o : Outcome). record old { pushes = one_ended o old.pushes }) outcome_is
    ∙ sym (ap (λ going. record old { pushes = if going then one_ended (unwrap_or came ScriptEnded) old.pushes else old.pushes }) is)

pub one_written :
    (came : Option Outcome) (pushes : Pushes) (outcome : Outcome) (trace trace' : Option (List ℕ)) → pushes.going ≡ true → outcome ≡ unwrap_or came ScriptEnded
    → trace' ≡ gained trace (entry_octets (Ended pushes.begun outcome)) → trace' ≡ gained trace (capture_octets (last_entries came pushes))
one_written came pushes outcome trace trace' is outcome_is written =
    written ∙ ap (λ (o : Outcome). gained trace (entry_octets (Ended pushes.begun o))) outcome_is
    ∙ ap (gained trace) (sym (append-nil (entry_octets (Ended pushes.begun (unwrap_or came ScriptEnded)))))
    ∙ sym (ap (λ going. gained trace (capture_octets (if going then Ended pushes.begun (unwrap_or came ScriptEnded) ∷ [] else []))) is)

-- its end was being written
pub one_front :
    (came : Option Outcome) (pushes : Pushes) (outcome : Outcome) (trace trace' : Option (List ℕ)) → pushes.going ≡ true → outcome ≡ unwrap_or came ScriptEnded
    → GainedFront trace trace' (entry_octets (Ended pushes.begun outcome)) → GainedFront trace trace' (capture_octets (last_entries came pushes))
one_front came pushes outcome trace trace' is outcome_is front =
    subst (λ (xs : List ℕ). GainedFront trace trace' xs)
    (ap (λ (o : Outcome). entry_octets (Ended pushes.begun o)) outcome_is ∙ sym (append-nil (entry_octets (Ended pushes.begun (unwrap_or came ScriptEnded))))
    ∙ sym (ap (λ going. capture_octets (if going then Ended pushes.begun (unwrap_or came ScriptEnded) ∷ [] else [])) is)) front

-- and its entry has octets
pub none_is_entry : (came : Option Outcome) (pushes : Pushes) → pushes.going ≡ false → AllByRecursion IsEntry (last_entries came pushes)
none_is_entry came pushes is =
    subst (λ (going : Bool). AllByRecursion IsEntry (if going then Ended pushes.begun (unwrap_or came ScriptEnded) ∷ [] else [])) (sym is) tt

pub one_is_entry : (came : Option Outcome) (pushes : Pushes) (outcome : Outcome) → pushes.going ≡ true → outcome ≡ unwrap_or came ScriptEnded → IsEntry (Ended pushes.begun outcome) → AllByRecursion IsEntry (last_entries came pushes)
one_is_entry came pushes outcome is outcome_is entry =
    subst (λ (going : Bool). AllByRecursion IsEntry (if going then Ended pushes.begun (unwrap_or came ScriptEnded) ∷ [] else [])) (sym is)
    (subst (λ (o : Outcome). IsEntry (Ended pushes.begun o)) outcome_is entry, tt)
