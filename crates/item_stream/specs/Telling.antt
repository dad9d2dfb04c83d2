-- What a teller does with the octets where an item should begin (this project's own).
use Rattle.std.specs.Prelude.{ℕ, ◌≡◌, ◌<◌, ◌≤◌, List, [], ◌++◌, length, take}
use Rattle.item_stream.specs.declared.teller.Front.{Front}
use Rattle.item_stream.specs.declared.teller.Front.TheVariants.{Item, Cut, Nothing, Refused}

-- no item has more octets
abbrev pub longest_item : ℕ
longest_item = 65564

-- who, since some moment, took items with some octets and told something of them took these too, and told behind it
-- what was added to the text
abbrev pub GoesOn : {T : Type 0} → (T → T → List ℕ → List ℕ → Type 0) → T → T → List ℕ → List ℕ → List ℕ → Type 0
GoesOn {T} has_told old new octets text text' =
    (first : T) (before said : List ℕ) → has_told first old before said → (added : List ℕ) × (text' ≡ text ++ added) × has_told first new (before ++ octets) (said ++ added)

-- nothing was taken and nothing told
abbrev pub Stays : {T : Type 0} → (T → T → List ℕ → List ℕ → Type 0) → T → T → List ℕ → List ℕ → Type 0
Stays {T} has_told old new text text' = (text' ≡ text) × ((first : T) (before said : List ℕ) → has_told first old before said → has_told first new before said)

-- What a teller makes of octets: it takes the item at their front and adds something to the text; or they are the
-- beginning of an item that has at least so many octets; or there are none; or no item stands there.
abbrev pub Tells : {T : Type 0} → (T → T → List ℕ → List ℕ → Type 0) → (T → List ℕ → Front → Type 0) → T → T → List ℕ → List ℕ → List ℕ → Front → Type 0
Tells has_told finds old new octets text text' (Item n) = (0 < n) × (n ≤ length octets) × GoesOn has_told old new (take n octets) text text'
Tells has_told finds old new octets text text' (Cut n) = (length octets < n) × (n ≤ longest_item) × finds new octets (Cut n) × Stays has_told old new text text'
Tells has_told finds old new octets text text' Nothing = (octets ≡ []) × finds new octets Nothing × Stays has_told old new text text'
Tells has_told finds old new octets text text' Refused = (0 < length octets) × finds new octets Refused × Stays has_told old new text text'

-- what a teller finds where no whole item stands
abbrev pub Found : {T : Type 0} → (T → List ℕ → Front → Type 0) → T → List ℕ → Front → Type 0
Found finds now octets (Item n) = ⊥
Found finds now octets (Cut n) = (length octets < n) × (n ≤ longest_item) × finds now octets (Cut n)
Found finds now octets Nothing = (octets ≡ []) × finds now octets Nothing
Found finds now octets Refused = (0 < length octets) × finds now octets Refused

-- all items at the front of octets were taken and told of, and behind them this is found
pub record TellsAll {T : Type 0} (has_told : T → T → List ℕ → List ℕ → Type 0) (finds : T → List ℕ → Front → Type 0) (old new : T) (octets rest text text' : List ℕ) (front : Front) : Type 0 where
  pub eaten : List ℕ
  pub whole : octets ≡ eaten ++ rest
  pub goes : GoesOn has_told old new eaten text text'
  pub found : Found finds new rest front
