-- What always holds of the channels of a link.
use Rattle.std.specs.Prelude.{ℕ, ◌≡◌, ◌≤◌, ◌==◌, ◌&&◌, nat_lt, Bool, true, false, List, [], ◌∷◌, length, map, filter}
use Rattle.std.specs.List.{list_any, list_all}
use Rattle.channel_model.specs.declared.errand.Errand.{Errand}
use Rattle.channel_model.specs.declared.errand.Errand.TheVariants.{Connection, Configuration, Disconnection, Features}
use Rattle.channel_model.specs.Value.{Queued, Answer, Ask, Held}
use Rattle.channel_model.specs.Changing.{is_copy, is_answer}

-- the own endpoints of channels
abbrev pub owns : List Held → List ℕ
owns held = map (λ h. h.own) held

-- each number is above those before it
abbrev pub rises_above : ℕ → List ℕ → Bool
rises_above low [] = true
rises_above low (n ∷ rest) = nat_lt low n && rises_above n rest

-- an own request is about one of the channels
abbrev pub is_known : List ℕ → Errand → Bool
is_known owns (Connection own) = list_any (λ o. o == own) owns
is_known owns (Configuration own) = list_any (λ o. o == own) owns
is_known owns (Disconnection own) = list_any (λ o. o == own) owns
is_known owns Features = true

-- each own request that is due is about one of the channels, and no second copy of it is due
abbrev pub AreAsked : List ℕ → List Queued → Type 0
AreAsked owns [] = Unit {0}
AreAsked owns (Answer command ∷ behind) = AreAsked owns behind
AreAsked owns (Ask errand ∷ behind) = (is_known owns errand ≡ true) × (list_any (is_copy errand) behind ≡ false) × AreAsked owns behind

pub record IsQueue (owns : List ℕ) (queue : List Queued) : Type 0 where
  pub few : length (filter is_answer queue) ≤ 16
  pub asked : AreAsked owns queue

-- endpoints are given upward from 0x0040, and none is given again
pub record AreGiven (owns : List ℕ) (next : ℕ) : Type 0 where
  pub rising : rises_above 0x003F owns ≡ true
  pub below : list_all (λ own. nat_lt own next) owns ≡ true
  pub from : 0x0040 ≤ next
  pub to : next ≤ 0x10000
