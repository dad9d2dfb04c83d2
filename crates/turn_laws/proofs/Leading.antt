-- What a controller owes leads its host to know of every link, one after the other.
use Rattle.std.proofs.Common.{◌≡◌, ℕ, ◌+◌, ◌≤◌, ◌<◌, ◌==◌, ◌&&◌, Bool, true, false, List, [], ◌∷◌, ◌++◌, map, refl, sym, ap, ◌∙◌, arith}
use Rattle.std.specs.List.{flat_map}
use Rattle.std.proofs.lemmas.Bool.{eqb-true, eq-eqb}
use Rattle.std.proofs.lemmas.List.{append-nil}
use Rattle.std.proofs.lemmas.List.Concat.{flat_map-append}
use Rattle.world_model.specs.radio_model.specs.Controllers.{Answer, Returned, Stated, Called, LinkMade, LinkGone, GivenBack, is_empty}
use Rattle.world_model.specs.Machines.{LinkEvent, Up, Down}

-- the link of that handle came, or went
pub data Tiding : Type 0 where
  Came : (handle : ℕ) → Tiding
  Went : (handle reason : ℕ) → Tiding

abbrev pub event_of : Tiding → LinkEvent
event_of (Came handle) = Up
event_of (Went handle reason) = Down reason

abbrev pub tiding_in : Answer → List Tiding
tiding_in (LinkMade handle) = Came handle ∷ []
tiding_in (LinkGone handle reason) = Went handle reason ∷ []
tiding_in (Returned number params) = []
tiding_in (Stated number) = []
tiding_in Called = []
tiding_in (GivenBack handle count) = []

abbrev pub tidings : List Answer → List Tiding
tidings answers = flat_map tiding_in answers

abbrev pub events : List Tiding → List LinkEvent
events told = map event_of told

-- how many links it is still to be told of
abbrev pub made : List Tiding → ℕ
made [] = 0
made (Came handle ∷ rest) = 1 + made rest
made (Went handle reason ∷ rest) = made rest

-- a host that was told of `told` links, the last of which is up or not, comes to know of all `number` links, and whether there is one
abbrev pub Led : (told : ℕ) → (up : Bool) → List Tiding → (number : ℕ) → (together : Bool) → Type 0
Led told up [] number together = (told ≡ number) × (up ≡ together)
Led told up (Came handle ∷ rest) number together = (up ≡ false) × (handle ≡ told + 1) × Led handle true rest number together
Led told up (Went handle reason ∷ rest) number together = (up ≡ true) × (handle ≡ told) × Led told false rest number together

pub plain_tidings : (answers : List Answer) (answer : Answer) → tiding_in answer ≡ [] → tidings (answers ++ answer ∷ []) ≡ tidings answers
plain_tidings answers answer plain =
    flat_map-append tiding_in answers (answer ∷ []) ∙ ap (λ (l : List Tiding). tidings answers ++ (l ++ [])) plain ∙ append-nil (tidings answers)

pub led_low : (told : ℕ) (up : Bool) (rest : List Tiding) (number : ℕ) (together : Bool) → Led told up rest number together → told ≤ number
led_low told up [] number together led = let same = led.0 in omega arith
led_low told up (Came handle ∷ rest) number together led = let low = led_low handle true rest number together led.2 in let next = led.1 in omega arith
led_low told up (Went handle reason ∷ rest) number together led = led_low told false rest number together led.2

-- it is still to be told of the link that there is
pub led_below : (told : ℕ) (rest : List Tiding) (number : ℕ) → Led told false rest number true → told < number
led_below told [] number led = let same = led.1 in cc
led_below told (Came handle ∷ rest) number led = let low = led_low handle true rest number true led.2 in let next = led.1 in omega arith
led_below told (Went handle reason ∷ rest) number led = let up = led.0 in cc

pub led_off : (told : ℕ) (rest : List Tiding) (number : ℕ) → told ≡ number → Led told false rest number false → rest ≡ []
led_off told [] number same led = refl
led_off told (Came handle ∷ rest) number same led = let low = led_low handle true rest number false led.2 in let next = led.1 in absurd (omega arith)
led_off told (Went handle reason ∷ rest) number same led = let up = led.0 in cc

pub led_on : (told : ℕ) (rest : List Tiding) (number : ℕ) → told ≡ number → Led told true rest number true → rest ≡ []
led_on told [] number same led = refl
led_on told (Came handle ∷ rest) number same led = let up = led.0 in cc
led_on told (Went handle reason ∷ rest) number same led = let low = led_below told rest number led.2 in absurd (omega arith)

-- a host knows of the link that there is exactly where it is owed nothing
knows_by : (told : ℕ) (rest : List Tiding) (number : ℕ) (together same : Bool) → (told == number) ≡ same → (same ≡ true → told ≡ number) → (same ≡ false → told ≡ number → rest ≡ [] → is_empty rest ≡ false) → Led told true rest number together
    → is_empty rest ≡ (together && (true && same))
knows_by told [] number true true is equal unequal led = refl
knows_by told [] number true false is equal unequal led = unequal refl led.0 refl
knows_by told [] number false same is equal unequal led = let up = led.1 in cc
knows_by told (tiding ∷ rest) number true true is equal unequal led = let none = led_on told (tiding ∷ rest) number (equal refl) led in cc
knows_by told (tiding ∷ rest) number true false is equal unequal led = refl
knows_by told (tiding ∷ rest) number false same is equal unequal led = refl

-- ---- more is owed

pub led_made : (told : ℕ) (up : Bool) (rest : List Tiding) (number : ℕ) → Led told up rest number false → Led told up (rest ++ Came (number + 1) ∷ []) (number + 1) true
led_made told up [] number led = let same = led.0 in (led.1, omega arith, (refl, refl))
led_made told up (Came handle ∷ rest) number led = (led.0, led.1, led_made handle true rest number led.2)
led_made told up (Went handle reason ∷ rest) number led = (led.0, led.1, led_made told false rest number led.2)

pub led_gone : (told : ℕ) (up : Bool) (rest : List Tiding) (number reason : ℕ) → Led told up rest number true → Led told up (rest ++ Went number reason ∷ []) number false
led_gone told up [] number reason led = (led.1, sym led.0, (led.0, refl))
led_gone told up (Came handle ∷ rest) number reason led = (led.0, led.1, led_gone handle true rest number reason led.2)
led_gone told up (Went handle other ∷ rest) number reason led = (led.0, led.1, led_gone told false rest number reason led.2)

pub knows : (told : ℕ) (rest : List Tiding) (number : ℕ) (together : Bool) → Led told true rest number together → is_empty rest ≡ (together && (true && (told == number)))
knows told rest number together led =
    knows_by told rest number together (told == number) refl (λ same. eqb-true told number same) (λ differs same none. let test = eq-eqb told number same in cc) led
