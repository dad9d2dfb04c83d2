-- Where both hosts have heard of all packets that were given back.
use Rattle.std.proofs.Common.{◌≡◌, ℕ, Bool, List, [], ◌∷◌, ◌++◌, Option, refl, ap, ◌∙◌}
use Rattle.push_terms.specs.declared.word.Side.{Side}
use Rattle.push_terms.specs.declared.word.Side.TheVariants.{A, B}
use Rattle.push_terms.specs.declared.word.Way.{Way}
use Rattle.push_terms.specs.declared.word.Way.TheVariants.{Ab, Ba}
use Rattle.radio_model.specs.declared.deed.Deed.{Deed}
use Rattle.radio_model.specs.declared.deed.Deed.TheVariants.{Nothing, Meets, Fires, FiresBoth, Breaks, Cancels}
use Rattle.radio_model.specs.declared.fate.Fate.{Fate}
use Rattle.radio_model.specs.Controllers.{Answer, LinkGone, other_side}
use Rattle.radio_model.specs.Radio.{Radio, controller, after_offer, after_answer, after_meeting, frames, after_deed}
use Rattle.room_laws.specs.world_model.specs.Machines.{Upper}
use Rattle.room_laws.specs.world_model.specs.Stations.{Order, Data}
use Rattle.room_laws.specs.world_model.specs.Worlds.{after_order}
use Rattle.room_laws.specs.Rooms.{strays, OwesNoneBack}
use Rattle.room_laws.proofs.Straying.{order_plainly}
use Rattle.radio_world.specs.Leaving.{Medium, in_radio}
use Rattle.radio_world.specs.Halves.{Half, Motion, Trying, Leaving, Returning, Entering, Makes, MakesAll, Goes, half_of, IsStillIn}
use Rattle.radio_world.specs.Hosts.{Asking}
use Rattle.radio_world.proofs.Leaving.{noted_radio}

-- ---- words give nothing back

meets_none : (way : Way) (fate : Fate) (checked : Bool) (waiting : List (List ℕ)) (radio : Radio) → OwesNoneBack radio → OwesNoneBack (after_meeting way fate checked waiting radio)
meets_none way fate checked [] radio none = none
meets_none Ab fate checked (frame ∷ rest) radio none = record { a = none.a; b = none.b }
meets_none Ba fate checked (frame ∷ rest) radio none = record { a = none.a; b = none.b }

pub deeds_give_none : (checked : Bool) (deed : Deed) (radio : Radio) → radio.a.owed ≡ [] → radio.b.owed ≡ [] → OwesNoneBack (after_deed checked deed radio)
deeds_give_none checked (Meets way fate) radio none_a none_b = meets_none way fate checked (frames way radio) radio (record { a = ap (strays A) none_a; b = ap (strays B) none_b })
deeds_give_none checked Breaks radio none_a none_b = record { a = ap (λ (l : List Answer). strays A (l ++ LinkGone radio.number 0x08 ∷ [])) none_a; b = ap (λ (l : List Answer). strays B (l ++ LinkGone radio.number 0x08 ∷ [])) none_b }
deeds_give_none checked Nothing radio none_a none_b = record { a = ap (strays A) none_a; b = ap (strays B) none_b }
deeds_give_none checked (Fires side) radio none_a none_b = record { a = ap (strays A) none_a; b = ap (strays B) none_b }
deeds_give_none checked FiresBoth radio none_a none_b = record { a = ap (strays A) none_a; b = ap (strays B) none_b }
deeds_give_none checked Cancels radio none_a none_b = record { a = ap (strays A) none_a; b = ap (strays B) none_b }

-- ---- what happens between one host and the radio gives nothing back to the other

abbrev strays_of : Side → Radio → ℕ
strays_of side radio = strays side (controller side radio).owed

order_other : (side : Side) (order : Order) (radio : Radio) → strays_of (other_side side) (after_order side order radio) ≡ strays_of (other_side side) radio
order_other A (Data handle piece) radio = refl
order_other B (Data handle piece) radio = refl
order_other side order radio = (order_plainly (other_side side) side order radio tt).strays_are

offer_other : (side : Side) (radio : Radio) → strays_of (other_side side) (after_offer side radio) ≡ strays_of (other_side side) radio
offer_other A radio = refl
offer_other B radio = refl

answer_other : (side : Side) (radio : Radio) → strays_of (other_side side) (after_answer side radio) ≡ strays_of (other_side side) radio
answer_other A radio = refl
answer_other B radio = refl

motion_other : {S G : Type 0} (U : Upper S G) (side : Side) (motion : Motion) (old new : Half S) → Makes U side motion old new → strays_of (other_side side) new.medium.radio ≡ strays_of (other_side side) old.medium.radio
motion_other {S} U side (Trying effort) old new made = ap (λ (h : Half S). strays_of (other_side side) h.medium.radio) made.2
motion_other {S} U side (Leaving order) old new made =
    ap (λ (h : Half S). strays_of (other_side side) h.medium.radio) made.2
    ∙ ap (λ (r : Radio). strays_of (other_side side) r) (noted_radio side (in_radio (after_order side order old.medium.radio) old.medium)) ∙ order_other side order old.medium.radio
motion_other {S} U side Returning old new made = ap (λ (h : Half S). strays_of (other_side side) h.medium.radio) made ∙ offer_other side old.medium.radio
motion_other {S} U side (Entering coming) old new made = ap (λ (h : Half S). strays_of (other_side side) h.medium.radio) made.2 ∙ answer_other side old.medium.radio

all_other : {S G : Type 0} (U : Upper S G) (side : Side) (motions : List Motion) (old new : Half S) → MakesAll U side motions old new → strays_of (other_side side) new.medium.radio ≡ strays_of (other_side side) old.medium.radio
all_other {S} U side [] old new same = ap (λ (h : Half S). strays_of (other_side side) h.medium.radio) same
all_other U side (motion ∷ motions) old new (mid, made, more) = all_other U side motions mid new more ∙ motion_other U side motion old mid made

by_side : (side : Side) (old new : Radio) → strays_of (other_side side) new ≡ strays_of (other_side side) old → (controller side new).owed ≡ [] → OwesNoneBack old → OwesNoneBack new
by_side A old new same none before = record { a = ap (strays A) none; b = same ∙ before.b }
by_side B old new same none before = record { a = same ∙ before.a; b = ap (strays B) none }

-- and where all has come to the one host, nothing is owed to it
pub exchange_gives_none :
    {S G P : Type 0} (U : Upper S G) (side : Side) (Answers : P → List G → P → Type 0) (medium medium' : Medium) (old new : Asking S G) (port port' : P) (trace trace' : Option (List ℕ))
    → Goes U side Answers medium medium' old new port port' trace trace' → IsStillIn side medium' → OwesNoneBack medium.radio → OwesNoneBack medium'.radio
exchange_gives_none U side Answers medium medium' old new port port' trace trace' goes still before =
    by_side side medium.radio medium'.radio (all_other U side goes.motions (half_of medium old (goes.used ++ [])) (half_of medium' new []) (goes.makes [])) still.1 before
