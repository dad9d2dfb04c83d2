-- What is true of one host at each moment, so that it comes to rest: it learns its buffers before it has a link, a link that it
-- awaits is on its way, and so is the end of one that it has ended.
use Rattle.std.proofs.Common.{◌≡◌, ◌⊎◌, ℕ, ◌+◌, ◌≤◌, ◌==◌, ◌||◌, not, Bool, true, false, List, [], ◌∷◌, ◌++◌, map, Option, None, if◌then◌else◌, inl, inr, refl, sym, ap, ap₂, ◌∙◌, subst, append_assoc, arith}
use Rattle.std.specs.List.{AllByRecursion}
use Rattle.std.proofs.lemmas.Bool.{eq-eqb}
use Rattle.std.proofs.lemmas.List.{map-append}
use Rattle.station_laws.specs.push_terms.specs.declared.word.Side.{Side}
use Rattle.station_laws.specs.push_terms.specs.declared.word.Side.TheVariants.{A, B}
use Rattle.station_laws.specs.radio_model.specs.Controllers.{Controller, is_empty}
use Rattle.station_laws.specs.world_model.specs.Machines.{Upper}
use Rattle.station_laws.specs.world_model.specs.Stations.{Order, Reset, ReadBuffers, ReadAddress, Scan, Page, Accept, End, Data, opcode, asks, Station, Commands, Effort, Taking, Putting, Asking, Leaving, Commanding, MakesEffort}
use Rattle.station_laws.specs.turn_laws.proofs.Leading.{Tiding, tidings, made}
use Rattle.station_laws.specs.turn_laws.proofs.Wiring.{end_at, has_end, has_end-append, asking, count, count-append}
use Rattle.station_laws.specs.turn_laws.proofs.Stationing.{Steady, on_link}
use Rattle.station_laws.proofs.Pending.{number_awaited}

-- ---- orders

-- host a pages; host b scans and accepts
abbrev pub IsOrderOf : Order → Side → Type 0
IsOrderOf Scan A = ⊥
IsOrderOf Scan B = Unit {0}
IsOrderOf Accept A = ⊥
IsOrderOf Accept B = Unit {0}
IsOrderOf Page A = Unit {0}
IsOrderOf Page B = ⊥
IsOrderOf Reset side = Unit {0}
IsOrderOf ReadBuffers side = Unit {0}
IsOrderOf ReadAddress side = Unit {0}
IsOrderOf (End handle) side = Unit {0}
IsOrderOf (Data handle piece) side = Unit {0}

abbrev pub AreOrdersOf : Side → List Order → Type 0
AreOrdersOf side orders = AllByRecursion (λ order. IsOrderOf order side) orders

orders_more : (side : Side) (orders : List Order) (order : Order) → AreOrdersOf side orders → IsOrderOf order side → AreOrdersOf side (orders ++ order ∷ [])
orders_more side [] order all is = (is, tt)
orders_more side (first ∷ orders) order (first_is, all) is = (first_is, orders_more side orders order all is)

-- ---- the buffers

-- the numbers of its commands that are not answered yet
abbrev pub due : Option ℕ → List Order → List ℕ
due awaited waiting = number_awaited awaited ++ map opcode waiting

abbrev pub BeginsWith : List ℕ → List ℕ → Type 0
BeginsWith front all = (rest : List ℕ) × (all ≡ front ++ rest)

-- a host that has not learnt its buffers yet has still to do so, and asks for no link before
pub record IsLearning (numbers : List ℕ) (asked : Bool) (link : Option ℕ) : Type 0 where
  pub first : BeginsWith (0x0C03 ∷ 0x1005 ∷ []) numbers ⊎ BeginsWith (0x1005 ∷ []) numbers
  pub unasked : asked ≡ false
  pub off : link ≡ None

abbrev pub HasLearnt : ℕ → List ℕ → Bool → Option ℕ → Type 0
HasLearnt total numbers asked link = (1 ≤ total) ⊎ IsLearning numbers asked link

begins_more : (front all : List ℕ) (more : List ℕ) → BeginsWith front all → BeginsWith front (all ++ more)
begins_more front all more (rest, is) = (rest ++ more, ap (λ (l : List ℕ). l ++ more) is ∙ append_assoc front rest more)

learnt_more : (total : ℕ) (numbers more : List ℕ) (asked : Bool) (link : Option ℕ) → HasLearnt total numbers asked link → HasLearnt total (numbers ++ more) asked link
learnt_more total numbers more asked link learnt = elim learnt [
  | inl some ↦ inl some
  | inr learning ↦
      inr (record {
        first = elim learning.first [ inl all ↦ inl (begins_more (0x0C03 ∷ 0x1005 ∷ []) numbers more all) | inr one ↦ inr (begins_more (0x1005 ∷ []) numbers more one) ];
        unasked = learning.unasked;
        off = learning.off;
      })
]

due_more : (awaited : Option ℕ) (waiting : List Order) (order : Order) → due awaited (waiting ++ order ∷ []) ≡ due awaited waiting ++ opcode order ∷ []
due_more awaited waiting order =
    ap (λ (l : List ℕ). number_awaited awaited ++ l) (map-append opcode waiting (order ∷ [])) ∙ sym (append_assoc (number_awaited awaited) (map opcode waiting) (opcode order ∷ []))

-- the first commands ask for no link
asks_none : (order : Order) → (opcode order ≡ 0x0C03) ⊎ (opcode order ≡ 0x1005) → asks order ≡ false
asks_none Reset is = refl
asks_none ReadBuffers is = refl
asks_none ReadAddress is = refl
asks_none Scan is = refl
asks_none (End handle) is = refl
asks_none (Data handle piece) is = refl
asks_none Page is = elim is [ inl one ↦ absurd (omega arith) | inr two ↦ absurd (omega arith) ]
asks_none Accept is = elim is [ inl one ↦ absurd (omega arith) | inr two ↦ absurd (omega arith) ]

first_same : (n m : ℕ) (one two : List ℕ) → n ∷ one ≡ m ∷ two → n ≡ m
first_same n m one two same = cc

-- a command is put out: its answer is awaited
learnt_commands : (total : ℕ) (order : Order) (rest : List Order) (asked : Bool) (link : Option ℕ) → HasLearnt total (opcode order ∷ map opcode rest) asked link → HasLearnt total (opcode order ∷ map opcode rest) (asked || asks order) link
learnt_commands total order rest asked link learnt = elim learnt [
  | inl some ↦ inl some
  | inr learning ↦
      let plain : asks order ≡ false = asks_none order (elim learning.first [ inl all ↦ inl (first_same _ _ _ _ all.1) | inr one ↦ inr (first_same _ _ _ _ one.1) ]) in
      inr (record { first = learning.first; unasked = ap₂ (λ (a b : Bool). a || b) learning.unasked plain; off = learning.off })
]

-- ---- one host

pub record Lives (side : Side) (extra told : ℕ) (up : Bool) (rest : List Tiding) (waiting : List Order) (awaited : Option ℕ) (total : ℕ) (asked : Bool) (link : Option ℕ) (ending : Bool) (out : List Order) : Type 0 where
  pub own_waiting : AreOrdersOf side waiting
  pub own_out : AreOrdersOf side out
  pub learnt : HasLearnt total (due awaited waiting) asked link
  -- a Connection Complete that is awaited is on its way: it was asked for, or a page goes on, or it is owed
  pub waited : asked ≡ true → 1 ≤ count out + (extra + made rest)
  -- so is the end of a link that was ended
  pub ends : ending ≡ true → up ≡ true → (has_end told waiting || (has_end told out || not (is_empty rest))) ≡ true

abbrev pub LivesAt : {S : Type 0} → Side → (extra told : ℕ) → Bool → List Tiding → Station S → Type 0
LivesAt side extra told up rest station = Lives side extra told up rest station.waiting station.awaited station.total station.asked station.link station.ending station.out

abbrev pub LivesOf : {S : Type 0} → Side → ℕ → Controller → Station S → Type 0
LivesOf side extra one station = LivesAt side extra one.told one.up (tidings one.owed) station

-- the same, said otherwise
pub lives_as : {S : Type 0} (side : Side) (extra extra' told told' : ℕ) (up up' : Bool) (rest rest' : List Tiding) (station : Station S) → extra' ≡ extra → told' ≡ told → up' ≡ up → rest' ≡ rest
    → LivesAt side extra told up rest station → LivesAt side extra' told' up' rest' station
lives_as side extra extra' told told' up up' rest rest' station one two three four lives = rw (one, two, three, four) lives

pub lives_if : {S : Type 0} (side : Side) (extra told : ℕ) (up : Bool) (rest : List Tiding) (some : Bool) (one two : Station S) → (some ≡ true → LivesAt side extra told up rest one) → (some ≡ false → LivesAt side extra told up rest two)
    → LivesAt side extra told up rest (if some then one else two)
lives_if side extra told up rest true one two first second = first refl
lives_if side extra told up rest false one two first second = second refl

-- more is on its way
or_more : (a b c d : Bool) → (c ≡ true → d ≡ true) → (a || (b || c)) ≡ true → (a || (b || d)) ≡ true
or_more true b c d more is = refl
or_more false true c d more is = refl
or_more false false c d more is = more is

pub lives_rests : {S : Type 0} (side : Side) (extra extra' told : ℕ) (up : Bool) (rest rest' : List Tiding) (station : Station S) → extra + made rest ≤ extra' + made rest' → (not (is_empty rest) ≡ true → not (is_empty rest') ≡ true)
    → LivesAt side extra told up rest station → LivesAt side extra' told up rest' station
lives_rests side extra extra' told up rest rest' station less more lives = record {
  own_waiting = lives.own_waiting;
  own_out = lives.own_out;
  learnt = lives.learnt;
  waited = λ asked. let some = lives.waited asked in omega arith;
  ends = λ ending on. or_more (has_end told station.waiting) (has_end told station.out) (not (is_empty rest)) (not (is_empty rest')) more (lives.ends ending on);
}

-- ---- a command waits

or_behind : (a b c : Bool) → (a || c) ≡ true → ((a || b) || c) ≡ true
or_behind true b c is = refl
or_behind false true c is = refl
or_behind false false c is = is

waits : {S : Type 0} (side : Side) (extra told : ℕ) (up : Bool) (rest : List Tiding) (old : Station S) (order : Order) (ending : Bool) → IsOrderOf order side
    → (ending ≡ true → up ≡ true → (has_end told (old.waiting ++ order ∷ []) || (has_end told old.out || not (is_empty rest))) ≡ true)
    → LivesAt side extra told up rest old → LivesAt side extra told up rest (record old { waiting = old.waiting ++ order ∷ []; ending = ending })
waits side extra told up rest old order ending is ends lives = record {
  own_waiting = orders_more side old.waiting order lives.own_waiting is;
  own_out = lives.own_out;
  learnt = subst (λ (l : List ℕ). HasLearnt old.total l old.asked old.link) (sym (due_more old.awaited old.waiting order)) (learnt_more old.total (due old.awaited old.waiting) (opcode order ∷ []) old.asked old.link lives.learnt);
  waited = lives.waited;
  ends = ends;
}

pub lives_waits : {S : Type 0} (side : Side) (extra told : ℕ) (up : Bool) (rest : List Tiding) (old : Station S) (order : Order) → IsOrderOf order side
    → LivesAt side extra told up rest old → LivesAt side extra told up rest (record old { waiting = old.waiting ++ order ∷ [] })
lives_waits side extra told up rest old order is lives =
    waits side extra told up rest old order old.ending is
    (λ ending on. ap (λ (b : Bool). b || (has_end told old.out || not (is_empty rest))) (has_end-append told old.waiting (order ∷ []))
    ∙ or_behind (has_end told old.waiting) (end_at told order || false) (has_end told old.out || not (is_empty rest)) (lives.ends ending on)) lives

or_here : (a b : Bool) → b ≡ true → (a || (b || false)) ≡ true
or_here true b is = refl
or_here false true is = refl
or_here false false is = is

-- ---- a command is put out

or_either : (a b : Bool) → (a || b) ≡ true → (a ≡ true) ⊎ (b ≡ true)
or_either true b is = inl refl
or_either false b is = inr is

or_moves : (a b c d : Bool) → ((a || b) || (c || d)) ≡ true → (b || ((c || (a || false)) || d)) ≡ true
or_moves a true c d is = refl
or_moves a false true d is = refl
or_moves true false false d is = refl
or_moves false false false d is = is

pub lives_commands : {S : Type 0} (side : Side) (extra told : ℕ) (up : Bool) (rest : List Tiding) (old new : Station S) → Commands old new → LivesAt side extra told up rest old → LivesAt side extra told up rest new
lives_commands side extra told up rest old new does lives =
    let order = does.order in
    let own : AreOrdersOf side (order ∷ does.rest) = subst (λ (l : List Order). AreOrdersOf side l) does.first lives.own_waiting in
    let same : opcode order ∷ map opcode does.rest ≡ due old.awaited old.waiting = sym (ap₂ due does.none_awaited does.first) in
    let counted = count-append old.out (order ∷ []) in
    rw does.new_is (record {
      own_waiting = own.1;
      own_out = orders_more side old.out order lives.own_out own.0;
      learnt = learnt_commands old.total order does.rest old.asked old.link (subst (λ (l : List ℕ). HasLearnt old.total l old.asked old.link) (sym same) lives.learnt);
      waited = λ asked. elim (or_either old.asked (asks order) asked) [
        | inl before ↦ let some = lives.waited before in omega arith
        | inr now ↦ let one : asking order ≡ 1 = ap (λ (b : Bool). if b then 1 else 0) now in omega arith
      ];
      ends = λ ending on.
          ap (λ (b : Bool). has_end told does.rest || (b || not (is_empty rest))) (has_end-append told old.out (order ∷ []))
          ∙ or_moves (end_at told order) (has_end told does.rest) (has_end told old.out) (not (is_empty rest))
          (ap (λ (l : List Order). has_end told l || (has_end told old.out || not (is_empty rest))) (sym does.first) ∙ lives.ends ending on);
    })

-- ---- whatever it does by itself

or_out : (a b c d : Bool) → (a || (b || d)) ≡ true → (a || ((b || c) || d)) ≡ true
or_out true b c d is = refl
or_out false true c d is = refl
or_out false false true d is = refl
or_out false false false d is = is

pub lives_effort : {S G : Type 0} (U : Upper S G) (side : Side) (effort : Effort) (number : ℕ) (together : Bool) (extra : ℕ) (one : Controller) (old new : Station S) → Steady U number together extra one old → MakesEffort U side effort old new
    → LivesOf side extra one old → LivesOf side extra one new
lives_effort U side Taking number together extra one old new steady does lives = rw does.new_is lives
lives_effort U side Putting number together extra one old new steady does lives =
    let counted = count-append old.out (Data does.handle does.piece ∷ []) in
    rw does.new_is (record {
      own_waiting = lives.own_waiting;
      own_out = orders_more side old.out (Data does.handle does.piece) lives.own_out tt;
      learnt = lives.learnt;
      waited = λ asked. let some = lives.waited asked in omega arith;
      ends = λ ending on.
          ap (λ (b : Bool). has_end one.told old.waiting || (b || not (is_empty (tidings one.owed)))) (has_end-append one.told old.out (Data does.handle does.piece ∷ []))
          ∙ or_out (has_end one.told old.waiting) (has_end one.told old.out) false (not (is_empty (tidings one.owed))) (lives.ends ending on);
    })
lives_effort U A Asking number together extra one old new steady does lives = rw does.new_is (lives_waits A extra one.told one.up (tidings one.owed) old Page tt lives)
lives_effort U B Asking number together extra one old new steady does lives = absurd does
lives_effort U side Leaving number together extra one old new steady does lives =
    let on = on_link one.up one.told does.handle old.link steady.link does.link in
    rw does.new_is (waits side extra one.told one.up (tidings one.owed) old (End does.handle) true tt
    (λ ending up. ap (λ (b : Bool). b || (has_end one.told old.out || not (is_empty (tidings one.owed)))) (has_end-append one.told old.waiting (End does.handle ∷ []) ∙ or_here (has_end one.told old.waiting) (does.handle == one.told) (eq-eqb does.handle one.told (sym on.1)))) lives)
lives_effort U side Commanding number together extra one old new steady does lives = lives_commands side extra one.told one.up (tidings one.owed) old new does lives

-- ---- an order moves

or_gone : (a e b c d : Bool) → (c ≡ true → d ≡ true) → (e ≡ true → d ≡ true) → (a || ((e || b) || c)) ≡ true → (a || (b || d)) ≡ true
or_gone true e b c d more here is = refl
or_gone false e true c d more here is = refl
or_gone false true false c d more here is = here refl
or_gone false false false c d more here is = more is

pub lives_pops : {S : Type 0} (side : Side) (extra extra' told : ℕ) (up : Bool) (rest rest' : List Tiding) (old : Station S) (order : Order) (out : List Order) → old.out ≡ order ∷ out
    → asking order + (extra + made rest) ≤ extra' + made rest' → (not (is_empty rest) ≡ true → not (is_empty rest') ≡ true) → (up ≡ true → end_at told order ≡ true → not (is_empty rest') ≡ true)
    → LivesAt side extra told up rest old → LivesAt side extra' told up rest' (record old { out = out })
lives_pops side extra extra' told up rest rest' old order out first less more gone lives =
    let own : AreOrdersOf side (order ∷ out) = subst (λ (l : List Order). AreOrdersOf side l) first lives.own_out in
    let counted : count old.out ≡ asking order + count out = ap (λ (l : List Order). count l) first in
    record {
      own_waiting = lives.own_waiting;
      own_out = own.1;
      learnt = lives.learnt;
      waited = λ asked. let some = lives.waited asked in omega arith;
      ends = λ ending on.
          or_gone (has_end told old.waiting) (end_at told order) (has_end told out) (not (is_empty rest)) (not (is_empty rest')) more (gone on)
          (ap (λ (l : List Order). has_end told old.waiting || (has_end told l || not (is_empty rest))) (sym first) ∙ lives.ends ending on);
    }

pub own_first : (side : Side) (order : Order) (out rest : List Order) → out ≡ order ∷ rest → AreOrdersOf side out → IsOrderOf order side
own_first side order out rest first all = let own : AreOrdersOf side (order ∷ rest) = subst (λ (l : List Order). AreOrdersOf side l) first all in own.0
