-- How many packets a controller holds that it has not given back, also of a link that its host was told the end of.
use Rattle.std.proofs.Common.{◌≡◌, ℕ, ◌+◌, ◌≤◌, ◌==◌, ◌&&◌, nat_le, min, Bool, true, false, List, [], ◌∷◌, ◌++◌, length, drop, ◌-◌, Option, Some, None, is_none, if◌then◌else◌, refl, sym, ap, ◌∙◌, subst, arith, length-append}
use Rattle.std.proofs.lemmas.Bool.{eq-eqb}
use Rattle.std.proofs.lemmas.List.{append-nil}
use Rattle.std.proofs.lemmas.List.Concat.{flat_map-append}
use Rattle.byteorder.specs.Endian.{little_number}
use Rattle.rest_laws.specs.acl_fragments.specs.Pieces.{Piece}
use Rattle.rest_laws.specs.push_terms.specs.declared.word.Side.{Side}
use Rattle.rest_laws.specs.push_terms.specs.declared.word.Side.TheVariants.{A, B}
use Rattle.rest_laws.specs.capture.specs.Entries.{Entry}
use Rattle.rest_laws.specs.radio_model.specs.Controllers.{Answer, Returned, Stated, Called, LinkMade, LinkGone, GivenBack, Controller, after_giving_back, after_telling}
use Rattle.rest_laws.specs.radio_model.specs.Radio.{with_piece, after_taking}
use Rattle.rest_laws.specs.world_model.specs.Machines.{Upper, TimerFired}
use Rattle.rest_laws.specs.world_model.specs.Stations.{Order, Accept, Data, Station, Effort, Taking, Putting, Asking, Leaving, Commanding, MakesEffort, answered, learns, is_handle, may_accept, hears_answer, hears_each, hears_piece, gives, holds, longest_pdu, told}
use Rattle.rest_laws.specs.turn_laws.proofs.Leading.{Went, tidings, Led}
use Rattle.rest_laws.specs.turn_laws.proofs.Wiring.{piece_at, sent}
use Rattle.rest_laws.specs.turn_laws.proofs.Stationing.{Steady, on_link}
use Rattle.rest_laws.specs.turn_laws.proofs.Hearing.{with_owed}
use Rattle.rest_laws.specs.turn_laws.proofs.Coming.{owed_first}
use Rattle.rest_laws.specs.air_laws.proofs.Owing.{Else, held_at}
use Rattle.rest_laws.specs.air_laws.proofs.Accounting.{Account}
use Rattle.rest_laws.specs.air_laws.proofs.Booking.{AccountOf}

-- where no link is up, packets of the last one are as many as a host may send
abbrev pub Spent : Controller → List Order → Type 0
Spent one out = one.up ≡ false → one.taken + length (sent one.told out) ≤ 64

-- while it is up, they are within its buffers
up_few : (limit : ℕ) (side : Side) (past : List Entry) (one : Controller) (out : List Order) (outstanding total : ℕ) → one.up ≡ true → Account limit side past one out outstanding total → one.taken + length (sent one.told out) ≤ 64
up_few limit side past one out outstanding total up account =
    let held = account.on up in
    let all = account.holds up in
    let within = account.within in
    let most = account.total_is in
    let here : held_at one.told one ≡ one.taken = ap (λ (b : Bool). if b then one.taken else 0) (eq-eqb one.told one.told refl) in
    omega arith

by_up : (up : Bool) (n : ℕ) → (up ≡ true → n ≤ 64) → (up ≡ false → n ≤ 64) → n ≤ 64
by_up true n on off = on refl
by_up false n on off = off refl

pub few_spent : (limit : ℕ) (side : Side) (past : List Entry) (one : Controller) (out : List Order) (outstanding total : ℕ) → Account limit side past one out outstanding total → Spent one out → one.taken + length (sent one.told out) ≤ 64
few_spent limit side past one out outstanding total account spent =
    by_up one.up (one.taken + length (sent one.told out)) (λ up. up_few limit side past one out outstanding total up account) spent

pub few_taken : (limit : ℕ) (side : Side) (past : List Entry) (one : Controller) (out : List Order) (outstanding total : ℕ) → Account limit side past one out outstanding total → Spent one out → one.taken ≤ 64
few_taken limit side past one out outstanding total account spent = let few = few_spent limit side past one out outstanding total account spent in omega arith

-- ---- as it was

pub spent_same : (one one' : Controller) (out out' : List Order) → one'.told ≡ one.told → one'.up ≡ one.up → one'.taken ≤ one.taken → length (sent one.told out') ≤ length (sent one.told out) → Spent one out → Spent one' out'
spent_same one one' out out' told up less fewer spent = λ off.
    let before = spent (sym up ∙ off) in
    let same = ap (λ (n : ℕ). length (sent n out')) told in
    omega arith

pub spent_else : (limit : ℕ) (one one' : Controller) (out : List Order) → Else limit one one' → Spent one out → Spent one' out
spent_else limit one one' out other spent = let same = other.taken in spent_same one one' out out other.told other.up (omega arith) (omega arith) spent

-- ---- a host by itself

sent_then : (told : ℕ) (out : List Order) (order : Order) → length (sent told (out ++ order ∷ [])) ≡ length (sent told out) + length (piece_at told order)
sent_then told out order =
    ap (λ (l : List Piece). length l) (flat_map-append (piece_at told) out (order ∷ []) ∙ ap (λ (l : List Piece). sent told out ++ l) (append-nil (piece_at told order)))
    ∙ length-append (sent told out) (piece_at told order)

pub sent_first : (told : ℕ) (out : List Order) (order : Order) (rest : List Order) → out ≡ order ∷ rest → length (sent told out) ≡ length (piece_at told order) + length (sent told rest)
sent_first told out order rest first = ap (λ (l : List Order). length (sent told l)) first ∙ length-append (piece_at told order) (sent told rest)

front_none : (n m : ℕ) → n + m ≡ 0 → n ≡ 0
front_none n m none = omega arith

pub effort_spent : {S G : Type 0} (U : Upper S G) (side by : Side) (effort : Effort) (number : ℕ) (together : Bool) (extra : ℕ) (one : Controller) (old new : Station S) → Steady U number together extra one old → MakesEffort U by effort old new
    → Spent one old.out → Spent one new.out
effort_spent U side by Taking number together extra one old new steady does spent = rw does.new_is spent
effort_spent U side by Putting number together extra one old new steady does spent = λ off.
    let on = (on_link one.up one.told does.handle old.link steady.link does.link).0 in absurd cc
effort_spent U side A Asking number together extra one old new steady does spent = rw does.new_is spent
effort_spent U side B Asking number together extra one old new steady does spent = absurd does
effort_spent U side by Leaving number together extra one old new steady does spent = rw does.new_is spent
effort_spent U side by Commanding number together extra one old new steady does spent =
    let none = ap (λ (l : List Piece). length l) (steady.ends.still one.told) in
    let first = sent_first one.told old.waiting does.order does.rest does.first in
    let nothing = front_none (length (piece_at one.told does.order)) (length (sent one.told does.rest)) (sym first ∙ none) in
    let long = sent_then one.told old.out does.order in
    rw does.new_is (spent_same one one old.out (old.out ++ does.order ∷ []) refl refl (omega arith) (omega arith) spent)

-- ---- an order of its own moves

pub order_spent : (limit : ℕ) (one one' : Controller) (out : List Order) (order : Order) (rest : List Order) → out ≡ order ∷ rest → Else limit one one' → Spent one out → Spent one' rest
order_spent limit one one' out order rest first other spent =
    let long = sent_first one.told out order rest first in
    let same = other.taken in
    spent_same one one' out rest other.told other.up (omega arith) (omega arith) spent

-- one packet of its link more is held, and one less is on its way
record Counts (ours : Bool) (one one' : Controller) : Type 0 where
  told : one'.told ≡ one.told
  up : one'.up ≡ one.up
  taken : one'.taken ≤ one.taken + (if ours then 1 else 0)

counts_by : (ours some full : Bool) (one : Controller) → Counts ours one (if ours && some then (if full then record (after_giving_back one) { taken = 1 } else record one { taken = one.taken + 1 }) else one)
counts_by true true true one = record { told = refl; up = refl; taken = omega arith }
counts_by true true false one = record { told = refl; up = refl; taken = omega arith }
counts_by true false full one = record { told = refl; up = refl; taken = omega arith }
counts_by false some full one = record { told = refl; up = refl; taken = omega arith }

piece_counts : (flies : Bool) (piece : Option Piece) (one : Controller) → Counts false one (with_piece flies piece one)
piece_counts flies None one = record { told = refl; up = refl; taken = omega arith }
piece_counts flies (Some piece) one = record { told = refl; up = refl; taken = omega arith }

one_piece : (ours : Bool) (piece : Piece) → length (if ours then piece ∷ [] else []) ≡ (if ours then 1 else 0)
one_piece true piece = refl
one_piece false piece = refl

pub data_spent : (flies : Bool) (found : Option Piece) (one : Controller) (out : List Order) (handle : ℕ) (piece : Piece) (rest : List Order) → out ≡ Data handle piece ∷ rest → Spent one out
    → Spent (after_taking handle (with_piece flies found one)) rest
data_spent flies found one out handle piece rest first spent = λ off.
    let with : Controller = with_piece flies found one in
    let joins = piece_counts flies found one in
    let counts = counts_by (handle == with.told) (nat_le 1 with.told) (with.taken == 65535) with in
    let long = sent_first one.told out (Data handle piece) rest first in
    let here = one_piece (handle == one.told) piece in
    let same = ap (λ (n : ℕ). let m : ℕ = if handle == n then 1 else 0 in m) joins.told in
    let before = spent (sym joins.up ∙ (sym counts.up ∙ off)) in
    let told = ap (λ (n : ℕ). length (sent n rest)) (counts.told ∙ joins.told) in
    let one_more = counts.taken in
    let none_more = joins.taken in
    omega arith

-- ---- what comes in

pub back_spent : (one : Controller) (out : List Order) → Spent one out → Spent (after_giving_back one) out
back_spent one out spent = λ off. let before = spent off in omega arith

out_by : {S : Type 0} (some : Bool) (one two : Station S) (out : List Order) → one.out ≡ out → two.out ≡ out → (if some then one else two).out ≡ out
out_by true one two out first second = first
out_by false one two out first second = second

pub piece_out : {S G : Type 0} (U : Upper S G) (answers : List G) (handle : ℕ) (piece : Piece) (old : Station S) → (hears_piece U answers handle piece old).out ≡ old.out
piece_out U answers handle piece old = out_by (is_handle handle old.link) (record old { upper = hears_each U answers (gives longest_pdu old.joining piece) old.upper; joining = holds longest_pdu old.joining piece }) old old.out refl refl

pub answer_out : {S G : Type 0} (U : Upper S G) (answers : List G) (side : Side) (answer : Answer) (old : Station S) → (hears_answer U answers side answer old).out ≡ old.out
answer_out {S} U answers side (Returned number params) old =
    let plain : Station S = record old { awaited = answered number old.awaited } in
    out_by (number == 0x1005) (learns params plain) plain old.out
    (out_by (is_none old.link && nat_le 27 (little_number 2 (drop 1 params))) (record plain { size = min (little_number 2 (drop 1 params)) 1021; total = min (little_number 2 (drop 4 params)) 64 }) plain old.out refl refl) refl
answer_out U answers side (Stated number) old = refl
answer_out U answers side Called old = out_by (may_accept side old) (record old { waiting = old.waiting ++ Accept ∷ [] }) old old.out refl refl
answer_out {S} U answers side (LinkMade handle) old =
    let up : Station S = record old { asked = false; link = Some handle; ending = false; joining = [] } in
    let off : Station S = record old { asked = false } in
    out_by old.asked (if is_none old.link then up else off) old old.out (out_by (is_none old.link) up off old.out refl refl) refl
answer_out U answers side (LinkGone handle reason) old = out_by (is_handle handle old.link) (record old { outstanding = 0; link = None; ending = false; joining = []; pieces = [] }) old old.out refl refl
answer_out U answers side (GivenBack handle n) old = out_by (is_handle handle old.link && nat_le n old.outstanding) (record old { outstanding = old.outstanding - n }) old old.out refl refl

pub fired_out : {S G : Type 0} (U : Upper S G) (answers : List G) (armed : Bool) (old : Station S) → (if armed then told U answers TimerFired old else old).out ≡ old.out
fired_out U answers armed old = out_by armed (told U answers TimerFired old) old old.out refl refl

-- it is told of the end of a link that was up
pub answer_spent :
    {S G : Type 0} (U : Upper S G) (limit : ℕ) (side : Side) (past : List Entry) (number : ℕ) (together : Bool) (extra : ℕ) (one : Controller) (old : Station S) (answer : Answer) (rest : List Answer) → one.owed ≡ answer ∷ rest
    → Steady U number together extra one old → AccountOf limit side past one old → Spent one old.out → Spent (after_telling answer (with_owed rest one)) old.out
answer_spent U limit side past number together extra one old (LinkMade handle) rest first steady account spent = λ off. absurd cc
answer_spent U limit side past number together extra one old (LinkGone handle reason) rest first steady account spent = λ off.
    let led : Led one.told one.up (Went handle reason ∷ tidings rest) number together = subst (λ (l : List _). Led one.told one.up l number together) (owed_first one.owed rest (LinkGone handle reason) (Went handle reason) first refl) steady.led in
    up_few limit side past one old.out old.outstanding old.total led.0 account
answer_spent U limit side past number together extra one old (Returned opcode params) rest first steady account spent = spent
answer_spent U limit side past number together extra one old (Stated opcode) rest first steady account spent = spent
answer_spent U limit side past number together extra one old Called rest first steady account spent = spent
answer_spent U limit side past number together extra one old (GivenBack handle n) rest first steady account spent = spent
