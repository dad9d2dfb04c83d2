-- What a controller holds of its host's packets, and what it is about to give back.
use Rattle.std.proofs.Common.{◌≡◌, ℕ, zero, suc, ◌+◌, ◌≤◌, ◌<◌, ◌==◌, ◌&&◌, nat_lt, nat_le, Bool, true, false, List, [], ◌∷◌, ◌++◌, drop, if◌then◌else◌, refl, sym, ap, ◌∙◌, inl, inr, subst, arith}
use Rattle.std.specs.List.{AllByRecursion}
use Rattle.std.proofs.lemmas.Bool.{cases_lt, lt-ltb, eq-eqb, ne_eqb}
use Rattle.turn_laws.specs.bt_base.specs.Octets.{le16}
use Rattle.byteorder.specs.Endian.{little_number}
use Rattle.turn_laws.specs.push_terms.specs.declared.word.Side.{Side}
use Rattle.turn_laws.specs.push_terms.specs.declared.word.Side.TheVariants.{A, B}
use Rattle.turn_laws.specs.radio_model.specs.Controllers.{Answer, Returned, Stated, Called, LinkMade, LinkGone, GivenBack, Controller, owing, gives_back, after_giving_back}
use Rattle.turn_laws.specs.radio_model.specs.Owed.{back_by, back}
use Rattle.turn_laws.specs.radio_model.proofs.Outstanding.{back-append}
use Rattle.turn_laws.specs.radio_model.specs.Radio.{Radio, Paging, Requested, controller, owes, scanning, is_reached, after_reaching, may_page, is_requested, joined, knows_link, parted, after_taking}
use Rattle.turn_laws.specs.world_model.specs.Stations.{Order, Reset, ReadBuffers, ReadAddress, Scan, Page, Accept, End, Data}
use Rattle.turn_laws.specs.world_model.specs.Worlds.{after_order}
use Rattle.turn_laws.proofs.Recording.{NoData}

-- ---- what it owes

abbrev pub AnswerFits : (limit told : ℕ) → Answer → Type 0
AnswerFits limit told (GivenBack handle n) = (handle ≤ told) × (n ≤ 65535)
AnswerFits limit told (Returned number params) = number ≡ 0x1005 → little_number 2 (drop 4 params) ≤ limit
AnswerFits limit told answer = Unit {0}

abbrev pub AllFit : (limit told : ℕ) → List Answer → Type 0
AllFit limit told owed = AllByRecursion (AnswerFits limit told) owed

pub all_fit : (limit told : ℕ) (one two : List Answer) → AllFit limit told one → AllFit limit told two → AllFit limit told (one ++ two)
all_fit limit told [] two all more = more
all_fit limit told (answer ∷ one) two (is, all) more = (is, all_fit limit told one two all more)

fits_more : (limit told next : ℕ) (answer : Answer) → told ≤ next → AnswerFits limit told answer → AnswerFits limit next answer
fits_more limit told next (GivenBack handle n) low fits = let one = fits.0 in (omega arith, fits.1)
fits_more limit told next (Returned number params) low fits = fits
fits_more limit told next (Stated number) low fits = tt
fits_more limit told next Called low fits = tt
fits_more limit told next (LinkMade handle) low fits = tt
fits_more limit told next (LinkGone handle reason) low fits = tt

pub all_more : (limit told next : ℕ) (owed : List Answer) → told ≤ next → AllFit limit told owed → AllFit limit next owed
all_more limit told next [] low all = tt
all_more limit told next (answer ∷ owed) low (is, all) = (fits_more limit told next answer low is, all_more limit told next owed low all)

back_by_above : (limit told handle : ℕ) (answer : Answer) → told < handle → AnswerFits limit told answer → back_by handle answer ≡ 0
back_by_above limit told handle (GivenBack other n) low fits = let one = fits.0 in ap (λ (b : Bool). if b then n else 0) (ne_eqb other handle (λ same. omega arith))
back_by_above limit told handle (Returned number params) low fits = refl
back_by_above limit told handle (Stated number) low fits = refl
back_by_above limit told handle Called low fits = refl
back_by_above limit told handle (LinkMade other) low fits = refl
back_by_above limit told handle (LinkGone other reason) low fits = refl

-- nothing is owed of a link that its host was not told of
pub back_above : (limit told handle : ℕ) (owed : List Answer) → told < handle → AllFit limit told owed → back handle owed ≡ 0
back_above limit told handle [] low all = refl
back_above limit told handle (answer ∷ owed) low (is, all) = let one = back_by_above limit told handle answer low is in let rest = back_above limit told handle owed low all in omega arith

-- ---- what it holds of a handle, and what it is about to give back

abbrev pub held_at : ℕ → Controller → ℕ
held_at handle one = if one.told == handle then one.taken else 0

abbrev pub keeps_of : ℕ → Controller → ℕ
keeps_of handle one = back handle one.owed + held_at handle one

either_none : (same : Bool) (n : ℕ) → n ≡ 0 → 0 ≡ (if same then n else 0)
either_none true n none = sym none
either_none false n none = refl

gives_by : (some : Bool) (told n handle : ℕ) → (some ≡ false → n ≡ 0) → back handle (if some then GivenBack told n ∷ [] else []) ≡ (if told == handle then n else 0)
gives_by true told n handle none = let sum : (if told == handle then n else 0) + 0 ≡ (if told == handle then n else 0) = omega arith in sum
gives_by false told n handle none = let nothing = none refl in either_none (told == handle) n nothing

not_less : (n : ℕ) → nat_lt 0 n ≡ false → n ≡ 0
not_less zero is = refl
not_less (suc n) is = let less = lt-ltb 0 (suc n) (omega arith) in absurd cc

gives_sum : (told n handle : ℕ) → back handle (gives_back told n) ≡ (if told == handle then n else 0)
gives_sum told n handle = gives_by (nat_lt 0 n) told n handle (λ none. not_less n none)

pub zero_held : (same : Bool) → ◌≡◌ {A = ℕ} (if same then 0 else 0) 0
zero_held true = refl
zero_held false = refl

-- giving back moves what it holds to what it owes
pub back_keeps : (handle : ℕ) (one : Controller) → keeps_of handle (after_giving_back one) ≡ keeps_of handle one
back_keeps handle one =
    let sum = back-append handle one.owed (gives_back one.told one.taken) in
    let gives = gives_sum one.told one.taken handle in
    let none = zero_held (one.told == handle) in
    omega arith

fit_by : (some : Bool) (limit told n : ℕ) → n ≤ 65535 → AllFit limit told (if some then GivenBack told n ∷ [] else [])
fit_by true limit told n few = ((omega arith, few), tt)
fit_by false limit told n few = tt

pub gives_fit : (limit told n : ℕ) → n ≤ 65535 → AllFit limit told (gives_back told n)
gives_fit limit told n few = fit_by (nat_lt 0 n) limit told n few

-- ---- a packet is taken

abbrev pub one_if : Bool → ℕ
one_if true = 1
one_if false = 0

pub record Takes (limit : ℕ) (ours : Bool) (one one' : Controller) : Type 0 where
  pub told : one'.told ≡ one.told
  pub up : one'.up ≡ one.up
  pub few : one'.taken ≤ 65535
  pub fits : AllFit limit one.told one'.owed
  pub keeps : (handle : ℕ) → keeps_of handle one' ≡ keeps_of handle one + one_if (ours && (one.told == handle))

one_more : (same : Bool) (n : ℕ) → (if same then n + 1 else 0) ≡ (if same then n else 0) + one_if same
one_more true n = refl
one_more false n = refl

one_first : (same : Bool) → ◌≡◌ {A = ℕ} (if same then 1 else 0) (one_if same)
one_first true = refl
one_first false = refl

takes_by : (limit : ℕ) (ours full : Bool) (one : Controller) → (full ≡ false → one.taken < 65535) → one.taken ≤ 65535 → AllFit limit one.told one.owed
    → Takes limit ours one (if ours then (if full then record (after_giving_back one) { taken = 1 } else record one { taken = one.taken + 1 }) else one)
takes_by limit true true one room few fits = record {
  told = refl;
  up = refl;
  few = omega arith;
  fits = all_fit limit one.told one.owed (gives_back one.told one.taken) fits (gives_fit limit one.told one.taken few);
  keeps = λ handle.
      let sum = back-append handle one.owed (gives_back one.told one.taken) in
      let gives = gives_sum one.told one.taken handle in
      let first = one_first (one.told == handle) in
      omega arith;
}
takes_by limit true false one room few fits = record {
  told = refl;
  up = refl;
  few = let less = room refl in omega arith;
  fits = fits;
  keeps = λ handle. let more = one_more (one.told == handle) one.taken in omega arith;
}
takes_by limit false full one room few fits = record { told = refl; up = refl; few = few; fits = fits; keeps = λ handle. omega arith }

less_of : (n : ℕ) → n ≤ 65535 → (n ≡ 65535 → ⊥) → n < 65535
less_of n few never = elim (cases_lt n 65535) [ inl less ↦ less | inr more ↦ absurd (never (omega arith)) ]

room_of : (n : ℕ) → n ≤ 65535 → (n == 65535) ≡ false → n < 65535
room_of n few is = less_of n few (λ same. let test = eq-eqb n 65535 same in absurd cc)

pub takes_one : (limit handle : ℕ) (one : Controller) → one.taken ≤ 65535 → AllFit limit one.told one.owed → Takes limit ((handle == one.told) && nat_le 1 one.told) one (after_taking handle one)
takes_one limit handle one few fits = takes_by limit ((handle == one.told) && nat_le 1 one.told) (one.taken == 65535) one (λ not. room_of one.taken few not) few fits

-- ---- what else a controller is made to owe

pub record Else (limit : ℕ) (one one' : Controller) : Type 0 where
  pub told : one'.told ≡ one.told
  pub up : one'.up ≡ one.up
  pub taken : one'.taken ≡ one.taken
  pub fits : AllFit limit one.told one.owed → AllFit limit one.told one'.owed
  pub keeps : (handle : ℕ) → back handle one'.owed ≡ back handle one.owed

pub else_refl : (limit : ℕ) (one : Controller) → Else limit one one
else_refl limit one = record { told = refl; up = refl; taken = refl; fits = λ fits. fits; keeps = λ handle. refl }

else_then : (limit : ℕ) (one two three : Controller) → Else limit one two → Else limit two three → Else limit one three
else_then limit one two three first second = record {
  told = second.told ∙ first.told;
  up = second.up ∙ first.up;
  taken = second.taken ∙ first.taken;
  fits = λ fits. subst (λ (n : ℕ). AllFit limit n three.owed) first.told (second.fits (subst (λ (n : ℕ). AllFit limit n two.owed) (sym first.told) (first.fits fits)));
  keeps = λ handle. second.keeps handle ∙ first.keeps handle;
}

-- one answer more that gives nothing back
else_more : (limit : ℕ) (one one' : Controller) (answer : Answer) → one'.told ≡ one.told → one'.up ≡ one.up → one'.taken ≡ one.taken → one'.owed ≡ one.owed ++ answer ∷ [] → AnswerFits limit one.told answer → ((handle : ℕ) → back_by handle answer ≡ 0) → Else limit one one'
else_more limit one one' answer told up taken owed fits none = record {
  told = told;
  up = up;
  taken = taken;
  fits = λ all. subst (λ (l : List Answer). AllFit limit one.told l) (sym owed) (all_fit limit one.told one.owed (answer ∷ []) all (fits, tt));
  keeps = λ handle. ap (λ (l : List Answer). back handle l) owed ∙ back-append handle one.owed (answer ∷ []) ∙ (let zero_is = none handle in omega arith);
}

else_if : (limit : ℕ) (side : Side) (radio one two : Radio) (some : Bool) → Else limit (controller side radio) (controller side one) → Else limit (controller side radio) (controller side two) → Else limit (controller side radio) (controller side (if some then one else two))
else_if limit side radio one two true first second = first
else_if limit side radio one two false first second = second

owes_else : (limit : ℕ) (side by : Side) (answer : Answer) (radio : Radio) → AnswerFits limit (controller by radio).told answer → ((handle : ℕ) → back_by handle answer ≡ 0) → Else limit (controller side radio) (controller side (owes by (answer ∷ []) radio))
owes_else limit A A answer radio fits none = else_more limit radio.a _ answer refl refl refl refl fits none
owes_else limit B B answer radio fits none = else_more limit radio.b _ answer refl refl refl refl fits none
owes_else limit A B answer radio fits none = else_refl limit radio.a
owes_else limit B A answer radio fits none = else_refl limit radio.b

reach_else : (limit : ℕ) (side : Side) (radio : Radio) → Else limit (controller side radio) (controller side (after_reaching radio))
reach_else limit A radio = else_if limit A radio (record radio { b = owing (Called ∷ []) radio.b; phase = Requested }) radio (is_reached radio) (else_refl limit radio.a) (else_refl limit radio.a)
reach_else limit B radio =
    else_if limit B radio (record radio { b = owing (Called ∷ []) radio.b; phase = Requested }) radio (is_reached radio) (else_more limit radio.b _ Called refl refl refl refl tt (λ handle. refl)) (else_refl limit radio.b)

joined_else : (limit : ℕ) (side : Side) (radio : Radio) → Else limit (controller side radio) (controller side (joined radio))
joined_else limit A radio = else_more limit radio.a _ (LinkMade (radio.number + 1)) refl refl refl refl tt (λ handle. refl)
joined_else limit B radio = else_more limit radio.b _ (LinkMade (radio.number + 1)) refl refl refl refl tt (λ handle. refl)

pub parted_else : (limit for_a for_b : ℕ) (side : Side) (radio : Radio) → Else limit (controller side radio) (controller side (parted for_a for_b radio))
parted_else limit for_a for_b A radio = else_more limit radio.a _ (LinkGone radio.number for_a) refl refl refl refl tt (λ handle. refl)
parted_else limit for_a for_b B radio = else_more limit radio.b _ (LinkGone radio.number for_b) refl refl refl refl tt (λ handle. refl)

-- what it says of its buffers
sizes_fit : (size count : ℕ) → little_number 2 (drop 4 (0 ∷ (le16 size ++ (0 ∷ (le16 count ++ le16 0))))) ≤ count
sizes_fit size count = omega arith

stated_else : (limit : ℕ) (side by : Side) (opcode : ℕ) (radio : Radio) → Else limit (controller side radio) (controller side (owes by (Stated opcode ∷ []) radio))
stated_else limit side by opcode radio = owes_else limit side by (Stated opcode) radio tt (λ handle. refl)

scan_else : (limit : ℕ) (side by : Side) (radio : Radio) → Else limit (controller side radio) (controller side (after_order by Scan radio))
scan_else limit A A radio =
    let one : Radio = owes A (Returned 0x0C1A (0 ∷ []) ∷ []) (scanning A 0x03 radio) in
    else_then limit radio.a one.a (after_order A Scan radio).a (else_more limit radio.a one.a (Returned 0x0C1A (0 ∷ [])) refl refl refl refl (λ is. absurd (omega arith)) (λ handle. refl)) (reach_else limit A one)
scan_else limit B A radio = let one : Radio = owes A (Returned 0x0C1A (0 ∷ []) ∷ []) (scanning A 0x03 radio) in reach_else limit B one
scan_else limit A B radio = let one : Radio = owes B (Returned 0x0C1A (0 ∷ []) ∷ []) (scanning B 0x03 radio) in reach_else limit A one
scan_else limit B B radio =
    let one : Radio = owes B (Returned 0x0C1A (0 ∷ []) ∷ []) (scanning B 0x03 radio) in
    else_then limit radio.b one.b (after_order B Scan radio).b (else_more limit radio.b one.b (Returned 0x0C1A (0 ∷ [])) refl refl refl refl (λ is. absurd (omega arith)) (λ handle. refl)) (reach_else limit B one)

page_else : (limit : ℕ) (side : Side) (radio : Radio) → Else limit (controller side radio) (controller side (if may_page radio then after_reaching (record radio { phase = Paging }) else radio))
page_else limit A radio = else_if limit A radio (after_reaching (record radio { phase = Paging })) radio (may_page radio) (reach_else limit A (record radio { phase = Paging })) (else_refl limit radio.a)
page_else limit B radio = else_if limit B radio (after_reaching (record radio { phase = Paging })) radio (may_page radio) (reach_else limit B (record radio { phase = Paging })) (else_refl limit radio.b)

-- an order makes a controller owe what gives nothing back, but a packet of data its own
pub order_else : (limit : ℕ) (side by : Side) (order : Order) (radio : Radio) → radio.count ≡ limit → NoData order → Else limit (controller side radio) (controller side (after_order by order radio))
order_else limit side by Reset radio count plain = owes_else limit side by (Returned 0x0C03 (0 ∷ [])) radio (λ is. absurd (omega arith)) (λ handle. refl)
order_else limit side by ReadBuffers radio count plain =
    owes_else limit side by (Returned 0x1005 (0 ∷ (le16 radio.size ++ (0 ∷ (le16 radio.count ++ le16 0))))) radio (λ is. subst (λ (n : ℕ). little_number 2 (drop 4 (0 ∷ (le16 radio.size ++ (0 ∷ (le16 radio.count ++ le16 0))))) ≤ n) count (sizes_fit radio.size radio.count)) (λ handle. refl)
order_else limit side A ReadAddress radio count plain = owes_else limit side A _ radio (λ is. absurd (omega arith)) (λ handle. refl)
order_else limit side B ReadAddress radio count plain = owes_else limit side B _ radio (λ is. absurd (omega arith)) (λ handle. refl)
order_else limit side by Scan radio count plain = scan_else limit side by radio
order_else limit side A Page radio count plain =
    let one : Radio = owes A (Stated 0x0405 ∷ []) radio in else_then limit (controller side radio) (controller side one) (controller side (after_order A Page radio)) (stated_else limit side A 0x0405 radio) (page_else limit side one)
order_else limit side B Page radio count plain = stated_else limit side B 0x0405 radio
order_else limit side A Accept radio count plain = stated_else limit side A 0x0409 radio
order_else limit side B Accept radio count plain =
    let one : Radio = owes B (Stated 0x0409 ∷ []) radio in
    else_then limit (controller side radio) (controller side one) (controller side (after_order B Accept radio)) (stated_else limit side B 0x0409 radio) (else_if limit side one (joined one) one (is_requested radio.phase) (joined_else limit side one) (else_refl limit (controller side one)))
order_else limit side A (End handle) radio count plain =
    let one : Radio = owes A (Stated 0x0406 ∷ []) radio in
    else_then limit (controller side radio) (controller side one) (controller side (after_order A (End handle) radio)) (stated_else limit side A 0x0406 radio)
    (else_if limit side one (parted 0x16 0x13 one) one (knows_link A radio && (handle == radio.number)) (parted_else limit 0x16 0x13 side one) (else_refl limit (controller side one)))
order_else limit side B (End handle) radio count plain =
    let one : Radio = owes B (Stated 0x0406 ∷ []) radio in
    else_then limit (controller side radio) (controller side one) (controller side (after_order B (End handle) radio)) (stated_else limit side B 0x0406 radio)
    (else_if limit side one (parted 0x13 0x16 one) one (knows_link B radio && (handle == radio.number)) (parted_else limit 0x13 0x16 side one) (else_refl limit (controller side one)))
order_else limit side by (Data handle piece) radio count plain = absurd plain

-- ---- the buffers of a controller stay as many

count_if : (some : Bool) (one two : Radio) (n : ℕ) → one.count ≡ n → two.count ≡ n → (if some then one else two).count ≡ n
count_if true one two n first second = first
count_if false one two n first second = second

pub order_count : (side : Side) (order : Order) (radio : Radio) → (after_order side order radio).count ≡ radio.count
order_count A Scan radio = count_if (is_reached (owes A (Returned 0x0C1A (0 ∷ []) ∷ []) (scanning A 0x03 radio))) _ _ radio.count refl refl
order_count B Scan radio = count_if (is_reached (owes B (Returned 0x0C1A (0 ∷ []) ∷ []) (scanning B 0x03 radio))) _ _ radio.count refl refl
order_count A Page radio =
    let one : Radio = owes A (Stated 0x0405 ∷ []) radio in
    count_if (may_page one) (after_reaching (record one { phase = Paging })) one radio.count (count_if (is_reached (record one { phase = Paging })) _ _ radio.count refl refl) refl
order_count B Page radio = refl
order_count A Accept radio = refl
order_count B Accept radio = count_if (is_requested radio.phase) (joined (owes B (Stated 0x0409 ∷ []) radio)) (owes B (Stated 0x0409 ∷ []) radio) radio.count refl refl
order_count A (End handle) radio = count_if (knows_link A radio && (handle == radio.number)) (parted 0x16 0x13 (owes A (Stated 0x0406 ∷ []) radio)) (owes A (Stated 0x0406 ∷ []) radio) radio.count refl refl
order_count B (End handle) radio = count_if (knows_link B radio && (handle == radio.number)) (parted 0x13 0x16 (owes B (Stated 0x0406 ∷ []) radio)) (owes B (Stated 0x0406 ∷ []) radio) radio.count refl refl
order_count A order radio = refl
order_count B order radio = refl
