-- The one command of a host that is not answered yet stands in what it put out, or its answer in what it is owed.
use Rattle.std.proofs.Common.{◌≡◌, ◌⊎◌, ℕ, ◌==◌, ◌&&◌, ◌-◌, nat_le, Bool, true, false, List, [], ◌∷◌, ◌++◌, drop, Option, Some, None, is_none, if◌then◌else◌, inl, inr, refl, sym, ap, ap₂, ◌∙◌, subst, append-nil}
use Rattle.std.specs.List.{AllByRecursion}
use Rattle.std.proofs.lemmas.Bool.{eq-eqb}
use Rattle.turn_laws.specs.acl_fragments.specs.Pieces.{Piece}
use Rattle.turn_laws.specs.push_terms.specs.declared.word.Side.{Side}
use Rattle.turn_laws.specs.push_terms.specs.declared.word.Side.TheVariants.{A, B}
use Rattle.turn_laws.specs.radio_model.specs.Controllers.{Answer, Returned, Stated, Called, LinkMade, LinkGone, GivenBack, Controller}
use Rattle.turn_laws.specs.world_model.specs.Machines.{News, Upper}
use Rattle.turn_laws.specs.world_model.specs.Stations.{Order, ReadBuffers, ReadAddress, Scan, Page, Accept, End, Data, opcode, Station, Effort, Taking, Putting, Asking, Leaving, Commanding, MakesEffort, is_handle, longest_pdu, gives, holds, hears_each, hears_piece, learns, may_accept, hears_answer, told}
use Rattle.turn_laws.specs.world_model.specs.Stations as orders
use Rattle.station_laws.specs.Coming.{MayCome}
use Rattle.station_laws.specs.WorldLaws.{NextMayCome}
use Rattle.station_laws.proofs.Owing.{number_of, numbers_of, numbers_in, numbers_of-append, IsRight, IsRightOne}

abbrev pub number_awaited : Option ℕ → List ℕ
number_awaited None = []
number_awaited (Some number) = number ∷ []

-- an order that is a command
abbrev pub IsCommand : Order → Type 0
IsCommand order = number_of order ≡ opcode order ∷ []

pub record Pending {S : Type 0} (owed : List Answer) (station : Station S) : Type 0 where
  pub commands : AllByRecursion IsCommand station.waiting
  pub pends : numbers_of station.out ++ numbers_in owed ≡ number_awaited station.awaited

-- ---- lists of one number at most

not_empty : (one two : List ℕ) (n : ℕ) → one ++ n ∷ two ≡ [] → ⊥
not_empty [] two n none = cc
not_empty (x ∷ one) two n none = cc

both_empty : (one two : List ℕ) → one ++ two ≡ [] → (one ≡ []) × (two ≡ [])
both_empty [] two none = (refl, none)
both_empty (x ∷ one) two none = cc

-- the number that is awaited
pub record IsIt (one two : List ℕ) (n : ℕ) (awaited : Option ℕ) : Type 0 where
  pub is : awaited ≡ Some n
  pub before : one ≡ []
  pub behind : two ≡ []

pub it_is : (one two : List ℕ) (n : ℕ) (awaited : Option ℕ) → one ++ n ∷ two ≡ number_awaited awaited → IsIt one two n awaited
it_is one two n None all = absurd (not_empty one two n all)
it_is [] two n (Some m) all = record { is = let same : n ≡ m = cc in ap (λ (k : ℕ). Some k) (sym same); before = refl; behind = ap (λ (l : List ℕ). drop 1 l) all }
it_is (x ∷ one) two n (Some m) all = absurd (not_empty one two n (ap (λ (l : List ℕ). drop 1 l) all))

none_or_one : (order : Order) → (number_of order ≡ []) ⊎ IsCommand order
none_or_one orders.Reset = inr refl
none_or_one ReadBuffers = inr refl
none_or_one ReadAddress = inr refl
none_or_one Scan = inr refl
none_or_one Page = inr refl
none_or_one Accept = inr refl
none_or_one (End handle) = inr refl
none_or_one (Data handle piece) = inl refl

moved : (one rest owed : List ℕ) (n : ℕ) (awaited : Option ℕ) → (one ≡ []) ⊎ (one ≡ n ∷ []) → (one ++ rest) ++ owed ≡ number_awaited awaited → rest ++ (owed ++ one) ≡ number_awaited awaited
moved one rest owed n awaited either all =
    elim either [
      | inl none ↦
          ap (λ (l : List ℕ). rest ++ (owed ++ l)) none ∙ ap (λ (l : List ℕ). rest ++ l) (append-nil owed) ∙ (ap (λ (l : List ℕ). (l ++ rest) ++ owed) (sym none) ∙ all)
      | inr is ↦
          let whole : n ∷ (rest ++ owed) ≡ number_awaited awaited = ap (λ (l : List ℕ). (l ++ rest) ++ owed) (sym is) ∙ all in
          let it = it_is [] (rest ++ owed) n awaited whole in
          let parts = both_empty rest owed it.behind in
          ap (λ (l : List ℕ). rest ++ (owed ++ l)) is ∙ ap₂ (λ (one two : List ℕ). one ++ (two ++ n ∷ [])) parts.0 parts.1 ∙ ap number_awaited (sym it.is)
    ]

-- ---- what a host does by itself

pub pending_as : {S : Type 0} (owed later : List Answer) (station : Station S) → numbers_in later ≡ numbers_in owed → Pending owed station → Pending later station
pending_as owed later station same pending = record { commands = pending.commands; pends = ap (λ (l : List ℕ). numbers_of station.out ++ l) same ∙ pending.pends }

one_more : (waiting : List Order) (order : Order) → AllByRecursion IsCommand waiting → IsCommand order → AllByRecursion IsCommand (waiting ++ order ∷ [])
one_more [] order all is = (is, tt)
one_more (first ∷ waiting) order (first_is, all) is = (first_is, one_more waiting order all is)

put_more : (out : List Order) (order : Order) → numbers_of (out ++ order ∷ []) ≡ numbers_of out ++ number_of order
put_more out order = numbers_of-append out (order ∷ []) ∙ ap (λ (l : List ℕ). numbers_of out ++ l) (append-nil (number_of order))

commanded : (out owed number : List ℕ) → out ++ owed ≡ [] → (out ++ number) ++ owed ≡ number
commanded out owed number none =
    let parts = both_empty out owed none in
    ap₂ (λ (one two : List ℕ). (one ++ number) ++ two) parts.0 parts.1 ∙ append-nil number

pub efforts_keep : {S G : Type 0} (U : Upper S G) (side : Side) (effort : Effort) (owed : List Answer) (old new : Station S) → MakesEffort U side effort old new → Pending owed old → Pending owed new
efforts_keep {S} U side Taking owed old new does pending =
    subst (λ (s : Station S). Pending owed s) (sym does.new_is) (record { commands = pending.commands; pends = pending.pends })
efforts_keep {S} U side Putting owed old new does pending =
    subst (λ (s : Station S). Pending owed s) (sym does.new_is)
    (record {
      commands = pending.commands;
      pends = ap (λ (l : List ℕ). l ++ numbers_in owed) (put_more old.out (Data does.handle does.piece) ∙ append-nil (numbers_of old.out)) ∙ pending.pends;
    })
efforts_keep {S} U A Asking owed old new does pending =
    subst (λ (s : Station S). Pending owed s) (sym does.new_is) (record { commands = one_more old.waiting Page pending.commands refl; pends = pending.pends })
efforts_keep U B Asking owed old new does pending = absurd does
efforts_keep {S} U side Leaving owed old new does pending =
    subst (λ (s : Station S). Pending owed s) (sym does.new_is) (record { commands = one_more old.waiting (End does.handle) pending.commands refl; pends = pending.pends })
efforts_keep {S} U side Commanding owed old new does pending =
    let all = subst (AllByRecursion IsCommand) does.first pending.commands in
    let none : numbers_of old.out ++ numbers_in owed ≡ [] = pending.pends ∙ ap number_awaited does.none_awaited in
    subst (λ (s : Station S). Pending owed s) (sym does.new_is)
    (record {
      commands = all.1;
      pends = ap (λ (l : List ℕ). l ++ numbers_in owed) (put_more old.out does.order) ∙ commanded (numbers_of old.out) (numbers_in owed) (number_of does.order) none ∙ all.0;
    })

-- what was put out moves, and its answer is owed
pub departs_keep : {S : Type 0} (owed later : List Answer) (station : Station S) (order : Order) (rest : List Order) → station.out ≡ order ∷ rest
    → numbers_in later ≡ numbers_in owed ++ number_of order → Pending owed station → Pending later (record station { out = rest })
departs_keep owed later station order rest out_is later_is pending =
    let all : (number_of order ++ numbers_of rest) ++ numbers_in owed ≡ number_awaited station.awaited = ap (λ (out : List Order). numbers_of out ++ numbers_in owed) (sym out_is) ∙ pending.pends in
    record {
      commands = pending.commands;
      pends = ap (λ (l : List ℕ). numbers_of rest ++ l) later_is
          ∙ moved (number_of order) (numbers_of rest) (numbers_in owed) (opcode order) station.awaited (none_or_one order) all;
    }

-- ---- what a host hears

pub told_keeps : {S G : Type 0} (U : Upper S G) (answers : List G) (news : News) (owed : List Answer) (station : Station S) → Pending owed station → Pending owed (told U answers news station)
told_keeps U answers news owed station pending = record { commands = pending.commands; pends = pending.pends }

piece_by : {S : Type 0} (on : Bool) (upper : S) (joining : List ℕ) (owed : List Answer) (station : Station S) → Pending owed station
    → Pending owed (if on then record station { upper = upper; joining = joining } else station)
piece_by true upper joining owed station pending = record { commands = pending.commands; pends = pending.pends }
piece_by false upper joining owed station pending = pending

pub pieces_keep : {S G : Type 0} (U : Upper S G) (answers : List G) (handle : ℕ) (piece : Piece) (owed : List Answer) (station : Station S) → Pending owed station
    → Pending owed (hears_piece U answers handle piece station)
pieces_keep U answers handle piece owed station pending =
    piece_by (is_handle handle station.link) (hears_each U answers (gives longest_pdu station.joining piece) station.upper) (holds longest_pdu station.joining piece) owed station pending

upper_kept : {S : Type 0} (upper : S) (owed : List Answer) (station : Station S) → Pending owed station → Pending owed (record station { upper = upper })
upper_kept upper owed station pending = record { commands = pending.commands; pends = pending.pends }

-- the awaited command is answered: none is awaited then
answered_keeps : {S : Type 0} (number : ℕ) (rest : List Answer) (station : Station S) → AllByRecursion IsCommand station.waiting → numbers_of station.out ++ number ∷ numbers_in rest ≡ number_awaited station.awaited
    → Pending rest (record station { awaited = orders.answered number station.awaited })
answered_keeps number rest station commands all =
    let it = it_is (numbers_of station.out) (numbers_in rest) number station.awaited all in
    let none : orders.answered number station.awaited ≡ None =
    ap (λ (awaited : Option ℕ). orders.answered number awaited) it.is ∙ ap (λ (b : Bool). if b then None else Some number) (eq-eqb number number refl) in
    record {
      commands = commands;
      pends = ap₂ (λ (one two : List ℕ). one ++ two) it.before it.behind ∙ ap number_awaited (sym none);
    }

learns_by : {S : Type 0} (may : Bool) (size total : ℕ) (owed : List Answer) (station : Station S) → Pending owed station → Pending owed (if may then record station { size = size; total = total } else station)
learns_by true size total owed station pending = record { commands = pending.commands; pends = pending.pends }
learns_by false size total owed station pending = pending

learns_keeps : {S : Type 0} (params : List ℕ) (owed : List Answer) (station : Station S) → Pending owed station → Pending owed (learns params station)
learns_keeps params owed station pending = learns_by _ _ _ owed station pending

either_keeps : {S : Type 0} (is : Bool) (owed : List Answer) (one two : Station S) → Pending owed one → Pending owed two → Pending owed (if is then one else two)
either_keeps true owed one two first second = first
either_keeps false owed one two first second = second

pub answers_keep : {S G : Type 0} (U : Upper S G) (answers : List G) (side : Side) (answer : Answer) (rest : List Answer) (station : Station S) → Pending (answer ∷ rest) station
    → Pending rest (hears_answer U answers side answer station)
answers_keep {S} U answers side (Returned number params) rest station pending =
    let plain : Station S = record station { awaited = orders.answered number station.awaited } in
    let kept = answered_keeps number rest station pending.commands pending.pends in
    upper_kept station.upper rest (if number == 0x1005 then learns params plain else plain) (either_keeps (number == 0x1005) rest (learns params plain) plain (learns_keeps params rest plain kept) kept)
answers_keep U answers side (Stated number) rest station pending = upper_kept station.upper rest _ (answered_keeps number rest station pending.commands pending.pends)
answers_keep {S} U answers side Called rest station pending =
    let plain : Pending rest station = record { commands = pending.commands; pends = pending.pends } in
    let more : Station S = record station { waiting = station.waiting ++ Accept ∷ [] } in
    upper_kept station.upper rest (if may_accept side station then more else station)
    (either_keeps (may_accept side station) rest more station (record { commands = one_more station.waiting Accept pending.commands refl; pends = pending.pends }) plain)
answers_keep {S} U answers side (LinkMade handle) rest station pending =
    let plain : Pending rest station = record { commands = pending.commands; pends = pending.pends } in
    let up : Station S = record station { asked = false; link = Some handle; ending = false; joining = [] } in
    let not_up : Station S = record station { asked = false } in
    upper_kept _ rest (if station.asked then (if is_none station.link then up else not_up) else station)
    (either_keeps station.asked rest (if is_none station.link then up else not_up) station
    (either_keeps (is_none station.link) rest up not_up (record { commands = pending.commands; pends = pending.pends }) (record { commands = pending.commands; pends = pending.pends })) plain)
answers_keep {S} U answers side (LinkGone handle reason) rest station pending =
    let plain : Pending rest station = record { commands = pending.commands; pends = pending.pends } in
    let down : Station S = record station { outstanding = 0; link = None; ending = false; joining = []; pieces = [] } in
    upper_kept _ rest (if is_handle handle station.link then down else station)
    (either_keeps (is_handle handle station.link) rest down station (record { commands = pending.commands; pends = pending.pends }) plain)
answers_keep {S} U answers side (GivenBack handle count) rest station pending =
    let plain : Pending rest station = record { commands = pending.commands; pends = pending.pends } in
    let may : Bool = is_handle handle station.link && nat_le count station.outstanding in
    upper_kept station.upper rest (if may then record station { outstanding = station.outstanding - count } else station)
    (either_keeps may rest (record station { outstanding = station.outstanding - count }) station (record { commands = pending.commands; pends = pending.pends }) plain)

-- ---- what comes next

may_come : (answer : Answer) (out : List ℕ) (rest : List Answer) (awaited : Option ℕ) → IsRight answer → out ++ numbers_in (answer ∷ rest) ≡ number_awaited awaited → MayCome awaited answer
may_come (Returned number params) out rest awaited is all = let it = it_is out (numbers_in rest) number awaited all in (is, it.is)
may_come (Stated number) out rest awaited is all = is
may_come Called out rest awaited is all = tt
may_come (LinkMade handle) out rest awaited is all = is
may_come (LinkGone handle reason) out rest awaited is all = is
may_come (GivenBack handle count) out rest awaited is all = is

pub next_may_come : {S : Type 0} (one : Controller) (station : Station S) → IsRightOne one → Pending one.owed station → NextMayCome one station
next_may_come one station right pending answer rest is =
    let all = subst (AllByRecursion IsRight) is right.owed in
    may_come answer (numbers_of station.out) rest station.awaited all.0 (ap (λ (owed : List Answer). numbers_of station.out ++ numbers_in owed) (sym is) ∙ pending.pends)
