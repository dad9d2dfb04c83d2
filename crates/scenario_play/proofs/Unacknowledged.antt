-- What is asked of the channels of a link leaves no more frames unacknowledged than were before.
use Rattle.std.proofs.Common.{◌≡◌, ℕ, ◌≤◌, Bool, true, false, cond, List, [], ◌∷◌, ◌++◌, map, filter, Option, Some, None, refl, sym, ap, subst, ◌∙◌, arith}
use Rattle.std.specs.Prelude.{fold, max, find, not, ◌==◌, option_map, is_some}
use Rattle.std.specs.List.{AllByRecursion}
use Rattle.noting_laws.specs.ertm_model.specs.Value.{window_used as machine_window}
use Rattle.noting_laws.specs.ertm_model.specs.Submitting.{is_busy, taking}
use Rattle.std.proofs.lemmas.Bool.{eqb-true}
use Rattle.bt_host.specs.channel_model.specs.declared.event.CloseReason.TheVariants.{OwnClosed}
use Rattle.bt_host.specs.channel_model.specs.declared.errand.Errand.TheVariants.{Connection, Features}
use Rattle.bt_host.specs.channel_model.specs.Asking.{new_request, asks}
use Rattle.bt_host.specs.channel_model.specs.Calls.{can_connect, connected, asks_features, disconnected, disconnected_at, disconnected_held, carrier_with, sends_setup, sends_on, sends_held, sends, carrier_window, setup_window, window_used}
use Rattle.bt_host.specs.channel_model.specs.Changing.{held_at, has_own, in_place_of, setup_of, stage_with, is_open}
use Rattle.bt_host.specs.channel_model.specs.Closing.{closes_at}
use Rattle.bt_host.specs.channel_model.specs.Following.{with_channel}
use Rattle.bt_host.specs.channel_model.proofs.Lookups.{Distinct, own_of, eqb-same}
use Rattle.bt_host.specs.channel_model.specs.Value.{Carrier, Plain, Retransmitting, Setup, Stage, Requested, Connected, Leaving, Closing, Crossed, Held, Channels}

-- ---- the greatest of numbers

most_under : (xs : List ℕ) (first most : ℕ) → first ≤ most → AllByRecursion (λ n. n ≤ most) xs → fold max first xs ≤ most
most_under [] first most low all = low
most_under (x ∷ xs) first most low all = most_under xs (max first x) most (let one = all.0 in omega arith) all.1

more_under : (xs : List ℕ) (low high : ℕ) → low ≤ high → AllByRecursion (λ n. n ≤ low) xs → AllByRecursion (λ n. n ≤ high) xs
more_under [] low high le all = tt
more_under (x ∷ xs) low high le all = (let one = all.0 in omega arith, more_under xs low high le all.1)

reaches_first : (xs : List ℕ) (first : ℕ) → first ≤ fold max first xs
reaches_first [] first = omega arith
reaches_first (x ∷ xs) first = let more = reaches_first xs (max first x) in omega (arith, more)

reaches_all : (xs : List ℕ) (first : ℕ) → AllByRecursion (λ n. n ≤ fold max first xs) xs
reaches_all [] first = tt
reaches_all (x ∷ xs) first = (let more = reaches_first xs (max first x) in omega (arith, more), reaches_all xs (max first x))

-- ---- channels

abbrev pub window_on : Held → ℕ
window_on held = setup_window (setup_of held.stage)

abbrev pub AllUnder : ℕ → List Held → Type 0
AllUnder most hs = AllByRecursion (λ n. n ≤ most) (map window_on hs)

pub under_used : (v : Channels) → AllUnder (window_used v) v.held
under_used v = reaches_all (map window_on v.held) 0

pub used_under : (most : ℕ) (v : Channels) → AllUnder most v.held → window_used v ≤ most
used_under most v all = most_under (map window_on v.held) 0 most (omega arith) all

found_under : (most : ℕ) (p : Held → Bool) (hs : List Held) (held : Held) → AllUnder most hs → find p hs ≡ Some held → window_on held ≤ most
found_under most p [] held all = λ is. cc
found_under most p (h ∷ hs) held all = by (p h) (found_under most p hs held all.1)
  where
    by : (b : Bool) → (find p hs ≡ Some held → window_on held ≤ most) → cond b (Some h) (find p hs) ≡ Some held → window_on held ≤ most
    by true behind is = let same : h ≡ held = cc in subst (λ (x : Held). window_on x ≤ most) same all.0
    by false behind is = behind is

pub held_under : (v : Channels) (own : ℕ) (held : Held) → held_at own v ≡ Some held → window_on held ≤ window_used v
held_under v own held is = found_under (window_used v) (has_own own) v.held held (under_used v) is

placed_under : (most : ℕ) (held : Held) (hs : List Held) → window_on held ≤ most → AllUnder most hs → AllUnder most (map (in_place_of held) hs)
placed_under most held [] low all = tt
placed_under most held (h ∷ hs) low all = (by (h.own == held.own), placed_under most held hs low all.1)
  where
    by : (b : Bool) → window_on (cond b held h) ≤ most
    by true = low
    by false = all.0

kept_under : (most : ℕ) (p : Held → Bool) (hs : List Held) → AllUnder most hs → AllUnder most (filter p hs)
kept_under most p [] all = tt
kept_under most p (h ∷ hs) all = by (p h) (kept_under most p hs all.1)
  where
    by : (b : Bool) → AllUnder most (filter p hs) → AllUnder most (cond b (h ∷ filter p hs) (filter p hs))
    by true behind = (all.0, behind)
    by false behind = behind

one_more : (most : ℕ) (hs : List Held) (held : Held) → window_on held ≤ most → AllUnder most hs → AllUnder most (hs ++ held ∷ [])
one_more most [] held low all = (low, tt)
one_more most (h ∷ hs) held low all = (all.0, one_more most hs held low all.1)

-- each channel is found by its endpoint, where no two have the same
pub each_under : (most : ℕ) (hs : List Held) → Distinct own_of hs → ((own : ℕ) (held : Held) → find (has_own own) hs ≡ Some held → window_on held ≤ most) → AllUnder most hs
each_under most [] distinct found = tt
each_under most (h ∷ hs) distinct found =
    (found h.own h (ap (λ (b : Bool). cond b (Some h) (find (has_own h.own) hs)) (eqb-same h.own)), each_under most hs distinct.1 (λ own held is. found own held (behind own held (h.own == own) refl is)))
  where
    behind : (own : ℕ) (held : Held) (b : Bool) → (h.own == own) ≡ b → find (has_own own) hs ≡ Some held → cond (h.own == own) (Some h) (find (has_own own) hs) ≡ Some held
    behind own held true same is =
        let here : h.own ≡ own = eqb-true h.own own same in
        let never : find (has_own own) hs ≡ None = subst (λ (n : ℕ). find (has_own n) hs ≡ None) here distinct.0 in
        absurd cc
    behind own held false apart is = ap (λ (b : Bool). cond b (Some h) (find (has_own own) hs)) apart ∙ is

-- ---- what is asked of them

pub connected_less : (psm : ℕ) (v : Channels) → window_used (connected psm v) ≤ window_used v
connected_less psm v = by (can_connect v)
  where
    asked : Channels
    asked = asks (Connection v.next) (with_channel psm (Requested (new_request v)) v)

    by : (b : Bool) → window_used (cond b asked v) ≤ window_used v
    by true = used_under (window_used v) asked (one_more (window_used v) v.held (record { psm = psm; own = v.next; stage = Requested (new_request v) }) (omega arith) (under_used v))
    by false = omega arith

pub features_less : (v : Channels) → window_used (asks_features v) ≤ window_used v
features_less v = by (is_some v.features)
  where
    asked : Channels
    asked = asks Features (record v { features = Some (new_request v) })

    by : (b : Bool) → window_used (cond b v asked) ≤ window_used v
    by true = omega arith
    by false = used_under (window_used v) asked (under_used v)

pub disconnected_less : (own : ℕ) (v : Channels) → window_used (disconnected own v) ≤ window_used v
disconnected_less own v = by (held_at own v) refl
  where
    at : (held : Held) (stage : Stage) → held.stage ≡ stage → window_on held ≤ window_used v → window_used (disconnected_at stage held v) ≤ window_used v
    at held (Requested request) is low =
        subst (λ (s : Stage). window_used (closes_at s OwnClosed held v) ≤ window_used v) (sym is)
        (used_under (window_used v) (closes_at (Requested request) OwnClosed held v) (kept_under (window_used v) (λ other. not (other.own == held.own)) v.held (under_used v)))
    at held (Connected peer setup) is low =
        let left : Held = record held { stage = Leaving peer setup (new_request v) } in
        let same : setup_of held.stage ≡ Some setup = ap setup_of is in
        let under : carrier_window setup.carrier ≤ window_used v = subst (λ (s : Option Setup). setup_window s ≤ window_used v) same low in
        used_under (window_used v) (disconnected_at (Connected peer setup) held v) (placed_under (window_used v) left v.held under (under_used v))
    at held (Leaving peer setup request) is low = omega arith
    at held (Closing peer request checked) is low = omega arith
    at held (Crossed peer request) is low = omega arith

    by : (found : Option Held) → held_at own v ≡ found → window_used (disconnected_held found v) ≤ window_used v
    by None is = omega arith
    by (Some held) is = at held held.stage refl (held_under v own held is)

-- an SDU that waits is not sent yet
carrier_less : (sdu : List ℕ) (carrier : Carrier) → carrier_window (Some (carrier_with carrier sdu)) ≡ carrier_window (Some carrier)
carrier_less sdu (Plain agreed waiting) = refl
carrier_less sdu (Retransmitting machine) = by (is_busy machine)
  where
    by : (b : Bool) → machine_window (cond b machine (taking sdu machine)) ≡ machine_window machine
    by true = refl
    by false = refl

setup_less : (sdu : List ℕ) (setup : Setup) → carrier_window (sends_setup setup sdu).carrier ≡ carrier_window setup.carrier
setup_less sdu setup = by (is_open setup)
  where
    on : (carrier : Option Carrier) → carrier_window (option_map (λ c. carrier_with c sdu) carrier) ≡ carrier_window carrier
    on None = refl
    on (Some carrier) = carrier_less sdu carrier

    by : (b : Bool) → carrier_window (cond b (record setup { carrier = option_map (λ c. carrier_with c sdu) setup.carrier }) setup).carrier ≡ carrier_window setup.carrier
    by true = on setup.carrier
    by false = refl

with_less : (stage : Stage) (before after : Setup) → setup_of stage ≡ Some before → setup_of (stage_with after stage) ≡ Some after
with_less (Requested request) before after is = cc
with_less (Connected peer setup) before after is = refl
with_less (Leaving peer setup request) before after is = refl
with_less (Closing peer request checked) before after is = cc
with_less (Crossed peer request) before after is = cc

pub sends_less : (own : ℕ) (sdu : List ℕ) (v : Channels) → window_used (sends own sdu v) ≤ window_used v
sends_less own sdu v = by (held_at own v) refl
  where
    on : (held : Held) (found : Option Setup) → setup_of held.stage ≡ found → window_on held ≤ window_used v → window_used (sends_on found sdu held v) ≤ window_used v
    on held None is low = omega arith
    on held (Some setup) is low =
        let after = sends_setup setup sdu in
        let sent : Held = record held { stage = stage_with after held.stage } in
        let same : window_on sent ≡ window_on held = ap setup_window (with_less held.stage setup after is) ∙ (setup_less sdu setup ∙ sym (ap setup_window is)) in
        used_under (window_used v) (sends_on (Some setup) sdu held v) (placed_under (window_used v) sent v.held (omega (arith, same, low)) (under_used v))

    by : (found : Option Held) → held_at own v ≡ found → window_used (sends_held found sdu v) ≤ window_used v
    by None is = omega arith
    by (Some held) is = on held (setup_of held.stage) refl (held_under v own held is)
