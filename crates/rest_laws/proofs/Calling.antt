-- The page of host b: a request of the other device stands in one place, and a page waits only for host b to be reached.
use Rattle.std.proofs.Common.{◌≡◌, ℕ, ◌+◌, ◌≤◌, nat_lt, nat_le, Bool, true, false, List, [], ◌∷◌, ◌++◌, if◌then◌else◌, refl, ap, arith}
use Rattle.station_laws.specs.push_terms.specs.declared.word.Side.TheVariants.{B}
use Rattle.station_laws.specs.radio_model.specs.Controllers.{Answer, Returned, Stated, Called, LinkMade, LinkGone, GivenBack, gives_back}
use Rattle.station_laws.specs.radio_model.specs.Radio.{Phase, Apart, Paging, Requested, Together, is_paging}
use Rattle.station_laws.specs.world_model.specs.Machines.{Upper}
use Rattle.station_laws.specs.world_model.specs.Stations.{Order, Reset, ReadBuffers, ReadAddress, Scan, Page, Accept, End, Data, Station, Effort, Taking, Putting, Asking, Leaving, Commanding, MakesEffort}
use Rattle.station_laws.specs.turn_laws.proofs.Wiring.{asking, count, count-append}

-- ---- what stands for a request

abbrev pub called_by : Answer → ℕ
called_by Called = 1
called_by (Returned number params) = 0
called_by (Stated number) = 0
called_by (LinkMade handle) = 0
called_by (LinkGone handle reason) = 0
called_by (GivenBack handle count) = 0

abbrev pub called : List Answer → ℕ
called [] = 0
called (answer ∷ answers) = called_by answer + called answers

pub called-append : (one two : List Answer) → called (one ++ two) ≡ called one + called two
called-append [] two = omega arith
called-append (answer ∷ one) two = let same = called-append one two in omega arith

pub called_same : (answers : List Answer) (answer : Answer) → called_by answer ≡ 0 → called (answers ++ answer ∷ []) ≡ called answers
called_same answers answer none = let all = called-append answers (answer ∷ []) in omega arith

called_if : (some : Bool) (handle n : ℕ) (answers : List Answer) → called (answers ++ (if some then GivenBack handle n ∷ [] else [])) ≡ called answers
called_if true handle n answers = called_same answers (GivenBack handle n) refl
called_if false handle n answers = let all = called-append answers [] in omega arith

pub called_back : (handle n : ℕ) (answers : List Answer) → called (answers ++ gives_back handle n) ≡ called answers
called_back handle n answers = called_if (nat_lt 0 n) handle n answers

abbrev pub requesting : Phase → ℕ
requesting Apart = 0
requesting Paging = 0
requesting Requested = 1
requesting Together = 0

-- ---- what stands for scanning

abbrev pub scanning_by : Order → ℕ
scanning_by Scan = 1
scanning_by Reset = 0
scanning_by ReadBuffers = 0
scanning_by ReadAddress = 0
scanning_by Page = 0
scanning_by Accept = 0
scanning_by (End handle) = 0
scanning_by (Data handle piece) = 0

abbrev pub scans : List Order → ℕ
scans [] = 0
scans (order ∷ orders) = scanning_by order + scans orders

pub scans-append : (one two : List Order) → scans (one ++ two) ≡ scans one + scans two
scans-append [] two = omega arith
scans-append (order ∷ one) two = let same = scans-append one two in omega arith

-- ---- both

pub record Calls (phase : Phase) (scan calls : ℕ) (waiting out : List Order) : Type 0 where
  -- the host is asked, or answers, exactly while a request goes on
  pub requests : calls + (count waiting + count out) ≡ requesting phase
  -- until it scans, that is still to come
  pub scanned : nat_le 2 scan ≡ false → 1 ≤ scans waiting + scans out
  -- a page waits for that alone
  pub paging : is_paging phase ≡ true → nat_le 2 scan ≡ false

pub calls_as : (phase phase' : Phase) (scan scan' calls calls' : ℕ) (waiting out : List Order) → phase' ≡ phase → scan' ≡ scan → calls' ≡ calls → Calls phase scan calls waiting out → Calls phase' scan' calls' waiting out
calls_as phase phase' scan scan' calls calls' waiting out one two three is = rw (one, two, three) is

-- orders that stand elsewhere
pub calls_move : (phase : Phase) (scan calls calls' : ℕ) (waiting waiting' out out' : List Order) → calls' + (count waiting' + count out') ≡ calls + (count waiting + count out) → scans waiting + scans out ≤ scans waiting' + scans out'
    → Calls phase scan calls waiting out → Calls phase scan calls' waiting' out'
calls_move phase scan calls calls' waiting waiting' out out' same more is =
    let requests = is.requests in
    record {
      requests = omega arith;
      scanned = λ unheard. let some = is.scanned unheard in omega arith;
      paging = is.paging;
    }

pub calls_effort : {S G : Type 0} (U : Upper S G) (effort : Effort) (phase : Phase) (scan calls : ℕ) (old new : Station S) → MakesEffort U B effort old new → Calls phase scan calls old.waiting old.out → Calls phase scan calls new.waiting new.out
calls_effort U Taking phase scan calls old new does is = rw does.new_is is
calls_effort U Putting phase scan calls old new does is =
    let counted = count-append old.out (Data does.handle does.piece ∷ []) in
    let scanning = scans-append old.out (Data does.handle does.piece ∷ []) in
    rw does.new_is (calls_move phase scan calls calls old.waiting old.waiting old.out (old.out ++ Data does.handle does.piece ∷ []) (omega arith) (omega arith) is)
calls_effort U Asking phase scan calls old new does is = absurd does
calls_effort U Leaving phase scan calls old new does is =
    let counted = count-append old.waiting (End does.handle ∷ []) in
    let scanning = scans-append old.waiting (End does.handle ∷ []) in
    rw does.new_is (calls_move phase scan calls calls old.waiting (old.waiting ++ End does.handle ∷ []) old.out old.out (omega arith) (omega arith) is)
calls_effort U Commanding phase scan calls old new does is =
    let order = does.order in
    let counted = count-append old.out (order ∷ []) in
    let scanning = scans-append old.out (order ∷ []) in
    let waited : count old.waiting ≡ asking order + count does.rest = ap count does.first in
    let scanned : scans old.waiting ≡ scanning_by order + scans does.rest = ap scans does.first in
    rw does.new_is (calls_move phase scan calls calls old.waiting does.rest old.out (old.out ++ order ∷ []) (omega arith) (omega arith) is)

-- ---- phases

pub requested_is : (phase : Phase) → 1 ≤ requesting phase → phase ≡ Requested
requested_is Apart some = absurd (omega arith)
requested_is Paging some = absurd (omega arith)
requested_is Requested some = refl
requested_is Together some = absurd (omega arith)
