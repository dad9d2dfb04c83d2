-- At each moment of a run the packets of both hosts are within their buffers, and what was completed went out.
use Rattle.std.proofs.Common.{◌≡◌, ℕ, ◌+◌, ◌≤◌, ◌==◌, ◌&&◌, min, Bool, true, List, [], ◌∷◌, ◌++◌, length, Option, Some, None, if◌then◌else◌, refl, sym, ap, ◌∙◌, subst, arith, length-append}
use Rattle.std.specs.Prelude.{nat_le, option_to_list}
use Rattle.std.proofs.lemmas.Bool.{eq-eqb}
use Rattle.std.proofs.lemmas.List.{append-nil}
use Rattle.std.proofs.lemmas.List.Concat.{flat_map-append}
use Rattle.turn_laws.specs.acl_fragments.specs.Pieces.{Piece}
use Rattle.turn_laws.specs.push_terms.specs.declared.word.Side.{Side}
use Rattle.turn_laws.specs.push_terms.specs.declared.word.Side.TheVariants.{A, B}
use Rattle.turn_laws.specs.push_terms.specs.declared.word.Way.{Way}
use Rattle.turn_laws.specs.push_terms.specs.declared.word.Way.TheVariants.{Ab, Ba}
use Rattle.turn_laws.specs.capture.specs.declared.flow.Flow.TheVariants.{Out, Into}
use Rattle.turn_laws.specs.capture.specs.Entries.{Entry, Moved, Acted, Begun, Ended}
use Rattle.turn_laws.specs.capture.specs.Moves.{move_of, moves}
use Rattle.turn_laws.specs.capture.specs.Links.{Link, Asked, NoNews, linking, link_up}
use Rattle.turn_laws.specs.capture.specs.Buffers.{all_outstanding, KeepsWithin}
use Rattle.turn_laws.specs.capture.proofs.HistoryLaws.{at_each-more, at_each-none}
use Rattle.turn_laws.specs.radio_model.specs.declared.fate.Fate.{Fate}
use Rattle.turn_laws.specs.radio_model.specs.declared.deed.Deed.{Deed}
use Rattle.turn_laws.specs.radio_model.specs.declared.deed.Deed.TheVariants.{Nothing, Meets, Fires, FiresBoth, Breaks, Cancels}
use Rattle.turn_laws.specs.radio_model.specs.Controllers.{Answer, Controller, new_controller, answer_packet, piece_packet, after_telling}
use Rattle.turn_laws.specs.radio_model.specs.Owed.{back}
use Rattle.turn_laws.specs.radio_model.specs.Honest.{all_sent, all_completed, IsHonest}
use Rattle.turn_laws.specs.radio_model.specs.Radio.{Radio, is_together, controller, knows_link, with_piece, after_taking, after_meeting, found}
use Rattle.turn_laws.specs.world_model.specs.Machines.{TimerFired, Upper}
use Rattle.turn_laws.specs.world_model.specs.Stations.{Order, Reset, ReadBuffers, ReadAddress, Scan, Page, Accept, End, Data, order_packet, Station, Effort, Taking, Putting, Asking, Leaving, Commanding, MakesEffort, longest_pdu, gives, holds, is_handle, hears_each, hears_piece, hears_answer, first_station, told}
use Rattle.turn_laws.specs.world_model.specs.Worlds.{World, Happening, Tries, Departure, GivingBack, Piecemeal, Answering, Turns, Misses, Opens, Closes, piece_on, all_entries, checks, Acts, Runs, first_world, after_order}
use Rattle.turn_laws.specs.WorldLaws.{Fits, handle_of}
use Rattle.turn_laws.proofs.Leading.{led_low}
use Rattle.turn_laws.proofs.Wiring.{piece_at, sent, Within}
use Rattle.turn_laws.proofs.Stationing.{Steady, on_link}
use Rattle.turn_laws.proofs.Hearing.{with_coming, with_owed}
use Rattle.turn_laws.proofs.Coming.{handed_piece, handed_answer}
use Rattle.turn_laws.proofs.Keeping.{calling}
use Rattle.turn_laws.proofs.Recording.{NoData}
use Rattle.air_laws.specs.Accounts.{BuffersAreKept}
use Rattle.air_laws.proofs.Knowing.{Known}
use Rattle.air_laws.proofs.Following.{known_a, known_b, next_link, Keeps, reached_first, along}
use Rattle.air_laws.proofs.Counting.{other_sent, other_completed, other_held}
use Rattle.air_laws.proofs.Owing.{AllFit, one_if, Takes, takes_one, Else, else_refl, order_else, parted_else, order_count, zero_held}
use Rattle.air_laws.proofs.Accounting.{Account, account_within, account_honest, SameBooks, books_refl, books_plain, account_same, account_puts, account_backs, account_data}
use Rattle.air_laws.proofs.Booking.{AccountOf, if_account, account_answer}

-- ---- a host by itself

sent_then : (told : ℕ) (out : List Order) (order : Order) → sent told (out ++ order ∷ []) ≡ sent told out ++ piece_at told order
sent_then told out order = flat_map-append (piece_at told) out (order ∷ []) ∙ ap (λ (l : List Piece). sent told out ++ l) (append-nil (piece_at told order))

long_then : (told : ℕ) (out : List Order) (order : Order) → length (sent told (out ++ order ∷ [])) ≡ length (sent told out) + length (piece_at told order)
long_then told out order = ap (λ (l : List Piece). length l) (sent_then told out order) ∙ length-append (sent told out) (piece_at told order)

front_none : (one two : List Piece) → one ++ two ≡ [] → one ≡ []
front_none [] two none = refl
front_none (piece ∷ one) two none = absurd cc

first_none : (told : ℕ) (order : Order) (rest waiting : List Order) → waiting ≡ order ∷ rest → sent told waiting ≡ [] → piece_at told order ≡ []
first_none told order rest waiting first none = front_none (piece_at told order) (sent told rest) (ap (λ (l : List Order). sent told l) (sym first) ∙ none)

effort_account : {S G : Type 0} (U : Upper S G) (side by : Side) (effort : Effort) (limit number : ℕ) (together : Bool) (extra : ℕ) (past : List Entry) (one : Controller) (old new : Station S) → Steady U number together extra one old → MakesEffort U by effort old new
    → AccountOf limit side past one old → AccountOf limit side past one new
effort_account U side by Taking limit number together extra past one old new steady does account = rw does.new_is account
effort_account U side by Putting limit number together extra past one old new steady does account =
    let on = on_link one.up one.told does.handle old.link steady.link does.link in
    let here : length (piece_at one.told (Data does.handle does.piece)) ≡ 1 = ap (λ (b : Bool). length (if b then does.piece ∷ [] else [])) (eq-eqb does.handle one.told (sym on.1)) in
    let long = long_then one.told old.out (Data does.handle does.piece) in
    rw does.new_is (account_puts limit side past one old.out does.handle does.piece old.outstanding old.total on.0 on.1 does.free (omega arith) account)
effort_account U side A Asking limit number together extra past one old new steady does account = rw does.new_is account
effort_account U side B Asking limit number together extra past one old new steady does account = absurd does
effort_account U side by Leaving limit number together extra past one old new steady does account = rw does.new_is account
effort_account U side by Commanding limit number together extra past one old new steady does account =
    let none = first_none one.told does.order does.rest old.waiting does.first (steady.ends.still one.told) in
    let nothing = ap (λ (l : List Piece). length l) none in
    let long = long_then one.told old.out does.order in
    rw does.new_is (account_same limit side past past one one old.out (old.out ++ does.order ∷ []) old.outstanding old.total (books_refl side past) (else_refl limit one) (omega arith) account)

-- ---- an order of its own

order_news : (side : Side) (order : Order) (past : List Entry) → NoData order → SameBooks side past (past ++ Moved side Out (order_packet side order) ∷ [])
order_news side Reset past plain = books_plain side past Out (order_packet side Reset) NoNews refl tt refl
order_news side ReadBuffers past plain = books_plain side past Out (order_packet side ReadBuffers) NoNews refl tt refl
order_news side ReadAddress past plain = books_plain side past Out (order_packet side ReadAddress) NoNews refl tt refl
order_news side Scan past plain = books_plain side past Out (order_packet side Scan) NoNews refl tt refl
order_news A Page past plain = books_plain A past Out (order_packet A Page) Asked refl tt refl
order_news B Page past plain = books_plain B past Out (order_packet B Page) Asked refl tt refl
order_news A Accept past plain = books_plain A past Out (order_packet A Accept) Asked refl tt refl
order_news B Accept past plain = books_plain B past Out (order_packet B Accept) Asked refl tt refl
order_news side (End handle) past plain = books_plain side past Out (order_packet side (End handle)) NoNews refl tt refl
order_news side (Data handle piece) past plain = absurd plain

command_none : (order : Order) (told : ℕ) → NoData order → piece_at told order ≡ []
command_none Reset told plain = refl
command_none ReadBuffers told plain = refl
command_none ReadAddress told plain = refl
command_none Scan told plain = refl
command_none Page told plain = refl
command_none Accept told plain = refl
command_none (End handle) told plain = refl
command_none (Data handle piece) told plain = absurd plain

command_account : {S : Type 0} (limit : ℕ) (side : Side) (order : Order) (past : List Entry) (radio : Radio) (old : Station S) (rest : List Order) → radio.count ≡ limit → NoData order → old.out ≡ order ∷ rest → AccountOf limit side past (controller side radio) old
    → AccountOf limit side (past ++ Moved side Out (order_packet side order) ∷ []) (controller side (after_order side order radio)) (record old { out = rest })
command_account limit side order past radio old rest count plain first account =
    let all : sent (controller side radio).told old.out ≡ piece_at (controller side radio).told order ++ sent (controller side radio).told rest = ap (λ (l : List Order). sent (controller side radio).told l) first in
    let same : sent (controller side radio).told old.out ≡ sent (controller side radio).told rest = all ∙ ap (λ (l : List Piece). l ++ sent (controller side radio).told rest) (command_none order (controller side radio).told plain) in
    account_same limit side past _ (controller side radio) (controller side (after_order side order radio)) old.out rest old.outstanding old.total (order_news side order past plain) (order_else limit side side order radio count plain) (ap (λ (l : List Piece). length l) (sym same)) account

-- the packet of a piece is taken, whatever becomes of the piece
taken_as : (limit : ℕ) (ours : Bool) (one with one' : Controller) → with.told ≡ one.told → with.up ≡ one.up → with.taken ≡ one.taken → with.owed ≡ one.owed → Takes limit ours with one' → Takes limit ours one one'
taken_as limit ours one with one' told up taken owed took = record {
  told = took.told ∙ told;
  up = took.up ∙ up;
  few = took.few;
  fits = subst (λ (n : ℕ). AllFit limit n one'.owed) told took.fits;
  keeps = λ handle. took.keeps handle ∙ (λ i. (back handle (owed i) + (if told i == handle then taken i else 0)) + one_if (ours && (told i == handle)));
}

piece_fields : (flies : Bool) (piece : Option Piece) (one : Controller) → ((with_piece flies piece one).told ≡ one.told) × ((with_piece flies piece one).up ≡ one.up) × ((with_piece flies piece one).taken ≡ one.taken) × ((with_piece flies piece one).owed ≡ one.owed)
piece_fields flies None one = (refl, refl, refl, refl)
piece_fields flies (Some piece) one = (refl, refl, refl, refl)

pub least_one : (side : Side) (past : List Entry) (one : Controller) → Known side past one → one.up ≡ true → 1 ≤ one.told
least_one side past one known up =
    let count = known.count in
    let on = known.on up in
    let all = length-append (linking (moves side past)).past (option_to_list (link_up side past)) in
    let some : length (option_to_list (link_up side past)) ≡ 1 = ap (λ (k : Option Link). length (option_to_list k)) on.is in
    omega arith

data_account : {S : Type 0} (limit : ℕ) (side : Side) (past : List Entry) (flies : Bool) (handle : ℕ) (piece : Piece) (one : Controller) (old : Station S) (rest : List Order) → handle ≤ 0x0EFF → Known side past one → old.out ≡ Data handle piece ∷ rest → AccountOf limit side past one old
    → AccountOf limit side (past ++ Moved side Out (order_packet side (Data handle piece)) ∷ []) (after_taking handle (with_piece flies (piece_on one handle piece) one)) (record old { out = rest })
data_account limit side past flies handle piece one old rest low known first account =
    let with : Controller = with_piece flies (piece_on one handle piece) one in
    let fields = piece_fields flies (piece_on one handle piece) one in
    let took : Takes limit ((handle == with.told) && nat_le 1 with.told) with (after_taking handle with) =
    takes_one limit handle with (subst (λ (n : ℕ). n ≤ 65535) (sym fields.2) account.few) (subst (λ (n : ℕ). AllFit limit n with.owed) (sym fields.0) (subst (λ (l : List Answer). AllFit limit one.told l) (sym fields.3) account.fits)) in
    let took_here : Takes limit ((handle == one.told) && nat_le 1 one.told) with (after_taking handle with) = subst (λ (n : ℕ). Takes limit ((handle == n) && nat_le 1 n) with (after_taking handle with)) fields.0 took in
    account_data limit side past one (after_taking handle with) handle piece rest old.outstanding old.total low known (least_one side past one known)
    (taken_as limit ((handle == one.told) && nat_le 1 one.told) one with (after_taking handle with) fields.0 fields.1 fields.2 fields.3 took_here)
    (subst (λ (l : List Order). Account limit side past one l old.outstanding old.total) first account)

-- ---- another host, and words

books_other : (side : Side) (past : List Entry) (entry : Entry) → move_of side entry ≡ None → SameBooks side past (past ++ entry ∷ [])
books_other side past entry none = record { completed = λ handle. other_completed side past entry handle none; sent = λ handle. other_sent side past entry handle none; held = other_held side past entry none }

other_account : {S : Type 0} (limit : ℕ) (side : Side) (past : List Entry) (entry : Entry) (one one' : Controller) (station : Station S) → move_of side entry ≡ None → Else limit one one' → AccountOf limit side past one station → AccountOf limit side (past ++ entry ∷ []) one' station
other_account limit side past entry one one' station none other account = account_same limit side past (past ++ entry ∷ []) one one' station.out station.out station.outstanding station.total (books_other side past entry none) other refl account

else_same : (limit : ℕ) (one one' : Controller) → one'.told ≡ one.told → one'.up ≡ one.up → one'.taken ≡ one.taken → one'.owed ≡ one.owed → Else limit one one'
else_same limit one one' told up taken owed = record { told = told; up = up; taken = taken; fits = λ fits. subst (λ (l : List Answer). AllFit limit one.told l) (sym owed) fits; keeps = λ handle. ap (λ (l : List Answer). back handle l) owed }

met_else : (limit : ℕ) (side : Side) (way : Way) (fate : Fate) (checked : Bool) (queue : List (List ℕ)) (radio : Radio) → Else limit (controller side radio) (controller side (after_meeting way fate checked queue radio))
met_else limit side way fate checked [] radio = else_refl limit (controller side radio)
met_else limit A Ab fate checked (frame ∷ rest) radio = else_same limit radio.a _ refl refl refl refl
met_else limit B Ab fate checked (frame ∷ rest) radio = else_same limit radio.b _ refl refl refl refl
met_else limit A Ba fate checked (frame ∷ rest) radio = else_same limit radio.a _ refl refl refl refl
met_else limit B Ba fate checked (frame ∷ rest) radio = else_same limit radio.b _ refl refl refl refl

met_count : (way : Way) (fate : Fate) (checked : Bool) (queue : List (List ℕ)) (radio : Radio) → (after_meeting way fate checked queue radio).count ≡ radio.count
met_count way fate checked [] radio = refl
met_count Ab fate checked (frame ∷ rest) radio = refl
met_count Ba fate checked (frame ∷ rest) radio = refl

-- ---- both hosts

pub record Books {S T : Type 0} (limit : ℕ) (past : List Entry) (w : World S T) : Type 0 where
  pub count : w.radio.count ≡ limit
  pub a : AccountOf limit A past w.radio.a w.a
  pub b : AccountOf limit B past w.radio.b w.b

acts_books : {S T G H : Type 0} (U : Upper S G) (V : Upper T H) (deed : Deed) (limit : ℕ) (past : List Entry) (entry : Entry) (old new : World S T) → move_of A entry ≡ None → move_of B entry ≡ None → Acts U V deed old new → Books limit past old → Books limit (past ++ entry ∷ []) new
acts_books U V Nothing limit past entry old new none_a none_b acts books = absurd acts
acts_books U V (Meets Ab fate) limit past entry old new none_a none_b acts books = rw acts (record {
  count = met_count Ab fate (checks V old.b old.radio.a.waiting) old.radio.a.waiting old.radio ∙ books.count;
  a = other_account limit A past entry old.radio.a _ old.a none_a (met_else limit A Ab fate (checks V old.b old.radio.a.waiting) old.radio.a.waiting old.radio) books.a;
  b = other_account limit B past entry old.radio.b _ old.b none_b (met_else limit B Ab fate (checks V old.b old.radio.a.waiting) old.radio.a.waiting old.radio) books.b;
})
acts_books U V (Meets Ba fate) limit past entry old new none_a none_b acts books = rw acts (record {
  count = met_count Ba fate (checks U old.a old.radio.b.waiting) old.radio.b.waiting old.radio ∙ books.count;
  a = other_account limit A past entry old.radio.a _ old.a none_a (met_else limit A Ba fate (checks U old.a old.radio.b.waiting) old.radio.b.waiting old.radio) books.a;
  b = other_account limit B past entry old.radio.b _ old.b none_b (met_else limit B Ba fate (checks U old.a old.radio.b.waiting) old.radio.b.waiting old.radio) books.b;
})
acts_books U V (Fires A) limit past entry old new none_a none_b (armed, g, same) books = rw same (record {
  count = books.count;
  a = other_account limit A past entry old.radio.a old.radio.a old.a none_a (else_refl limit old.radio.a) books.a;
  b = other_account limit B past entry old.radio.b old.radio.b old.b none_b (else_refl limit old.radio.b) books.b;
})
acts_books U V (Fires B) limit past entry old new none_a none_b (armed, h, same) books = rw same (record {
  count = books.count;
  a = other_account limit A past entry old.radio.a old.radio.a old.a none_a (else_refl limit old.radio.a) books.a;
  b = other_account limit B past entry old.radio.b old.radio.b old.b none_b (else_refl limit old.radio.b) books.b;
})
acts_books U V FiresBoth limit past entry old new none_a none_b (armed, g, h, same) books =
    let a = other_account limit A past entry old.radio.a old.radio.a old.a none_a (else_refl limit old.radio.a) books.a in
    let b = other_account limit B past entry old.radio.b old.radio.b old.b none_b (else_refl limit old.radio.b) books.b in
    rw same (record {
      count = books.count;
      a = if_account limit A (past ++ entry ∷ []) old.radio.a (U.armed old.a.upper) (told U g TimerFired old.a) old.a a a;
      b = if_account limit B (past ++ entry ∷ []) old.radio.b (V.armed old.b.upper) (told V h TimerFired old.b) old.b b b;
    })
acts_books U V Breaks limit past entry old new none_a none_b acts books = rw acts (record {
  count = books.count;
  a = other_account limit A past entry old.radio.a _ old.a none_a (parted_else limit 0x08 0x08 A old.radio) books.a;
  b = other_account limit B past entry old.radio.b _ old.b none_b (parted_else limit 0x08 0x08 B old.radio) books.b;
})
acts_books U V Cancels limit past entry old new none_a none_b (may, g, same) books = rw same (record {
  count = books.count;
  a = other_account limit A past entry old.radio.a old.radio.a old.a none_a (else_refl limit old.radio.a) books.a;
  b = other_account limit B past entry old.radio.b old.radio.b old.b none_b (else_refl limit old.radio.b) books.b;
})

-- ---- whatever happens

pub record Booked {S T : Type 0} (limit : ℕ) (past : List Entry) (w : World S T) : Type 0 where
  pub books : Books limit past w
  pub honest_a : IsHonest A past
  pub honest_b : IsHonest B past
  pub kept_a : KeepsWithin A limit past
  pub kept_b : KeepsWithin B limit past

booked_none : {S T : Type 0} (limit : ℕ) (past : List Entry) (old new : World S T) → Books limit past new → Booked limit past old → Booked limit (past ++ []) new
booked_none limit past old new books booked =
    subst (λ (p : List Entry). Booked limit p new) (sym (append-nil past)) (record { books = books; honest_a = booked.honest_a; honest_b = booked.honest_b; kept_a = booked.kept_a; kept_b = booked.kept_b })

booked_entry : {S T : Type 0} (limit : ℕ) (past : List Entry) (entry : Entry) (old new : World S T) → Books limit (past ++ entry ∷ []) new → Booked limit past old → Booked limit (past ++ entry ∷ []) new
booked_entry limit past entry old new books booked = record {
  books = books;
  honest_a = at_each-more (λ p. (handle : ℕ) → all_completed A handle p ≤ all_sent A handle p) past entry booked.honest_a (account_honest limit A (past ++ entry ∷ []) new.radio.a new.a.out new.a.outstanding new.a.total books.a);
  honest_b = at_each-more (λ p. (handle : ℕ) → all_completed B handle p ≤ all_sent B handle p) past entry booked.honest_b (account_honest limit B (past ++ entry ∷ []) new.radio.b new.b.out new.b.outstanding new.b.total books.b);
  kept_a = at_each-more (λ p. all_outstanding A p ≤ min limit 64) past entry booked.kept_a (account_within limit A (past ++ entry ∷ []) new.radio.a new.a.out new.a.outstanding new.a.total books.a);
  kept_b = at_each-more (λ p. all_outstanding B p ≤ min limit 64) past entry booked.kept_b (account_within limit B (past ++ entry ∷ []) new.radio.b new.b.out new.b.outstanding new.b.total books.b);
}

books_at : {S T : Type 0} (limit : ℕ) (past : List Entry) (new to : World S T) → new ≡ to → Books limit past to → Books limit past new
books_at {S} {T} limit past new to same books = subst (λ (w : World S T). Books limit past w) (sym same) books

fits_handle : (radio : Radio) → radio.number + calling radio.phase ≤ 0x0EFF → radio.number ≤ 0x0EFF
fits_handle radio low = omega arith

out_low : (told number : ℕ) (order : Order) (rest out : List Order) → out ≡ order ∷ rest → Within told out → told ≤ number → number ≤ 0x0EFF → handle_of order ≤ 0x0EFF
out_low told number order rest out first within low most =
    let now : Within told (order ∷ rest) = subst (λ (l : List Order). Within told l) first within in
    let below = now.0 in
    omega arith

departs_books_a : {S T G H : Type 0} (U : Upper S G) (V : Upper T H) (limit : ℕ) (past : List Entry) (order : Order) (rest : List Order) (w : World S T) → handle_of order ≤ 0x0EFF → Known A past w.radio.a → w.a.out ≡ order ∷ rest → Books limit past w
    → Books limit (past ++ Moved A Out (order_packet A order) ∷ []) (record w { radio = after_order A order w.radio; a = record w.a { out = rest } })
departs_books_a U V limit past (Data handle piece) rest w low known first books = record {
  count = books.count;
  a = data_account limit A past (knows_link A w.radio) handle piece w.radio.a w.a rest low known first books.a;
  b = other_account limit B past (Moved A Out (order_packet A (Data handle piece))) w.radio.b w.radio.b w.b refl (else_refl limit w.radio.b) books.b;
}
departs_books_a U V limit past order rest w low known first books = record {
  count = order_count A order w.radio ∙ books.count;
  a = command_account limit A order past w.radio w.a rest books.count tt first books.a;
  b = other_account limit B past (Moved A Out (order_packet A order)) w.radio.b (after_order A order w.radio).b w.b refl (order_else limit B A order w.radio books.count tt) books.b;
}

departs_books_b : {S T G H : Type 0} (U : Upper S G) (V : Upper T H) (limit : ℕ) (past : List Entry) (order : Order) (rest : List Order) (w : World S T) → handle_of order ≤ 0x0EFF → Known B past w.radio.b → w.b.out ≡ order ∷ rest → Books limit past w
    → Books limit (past ++ Moved B Out (order_packet B order) ∷ []) (record w { radio = after_order B order w.radio; b = record w.b { out = rest } })
departs_books_b U V limit past (Data handle piece) rest w low known first books = record {
  count = books.count;
  a = other_account limit A past (Moved B Out (order_packet B (Data handle piece))) w.radio.a w.radio.a w.a refl (else_refl limit w.radio.a) books.a;
  b = data_account limit B past (knows_link B w.radio) handle piece w.radio.b w.b rest low known first books.b;
}
departs_books_b U V limit past order rest w low known first books = record {
  count = order_count B order w.radio ∙ books.count;
  a = other_account limit A past (Moved B Out (order_packet B order)) w.radio.a (after_order B order w.radio).a w.a refl (order_else limit A B order w.radio books.count tt) books.a;
  b = command_account limit B order past w.radio w.b rest books.count tt first books.b;
}

-- a piece comes in
piece_account : {S G : Type 0} (U : Upper S G) (limit : ℕ) (side : Side) (past : List Entry) (answers : List G) (handle : ℕ) (piece : Piece) (rest : List Piece) (one : Controller) (old : Station S) → AccountOf limit side past one old
    → AccountOf limit side (past ++ Moved side Into (piece_packet handle piece) ∷ []) (with_coming rest one) (hears_piece U answers handle piece old)
piece_account {S} U limit side past answers handle piece rest one old account =
    let same = account_same limit side past _ one (with_coming rest one) old.out old.out old.outstanding old.total (books_plain side past Into (piece_packet handle piece) NoNews refl tt refl) (else_same limit one (with_coming rest one) refl refl refl refl) refl account in
    if_account limit side (past ++ Moved side Into (piece_packet handle piece) ∷ []) (with_coming rest one) (is_handle handle old.link)
    (record old { upper = hears_each U answers (gives longest_pdu old.joining piece) old.upper; joining = holds longest_pdu old.joining piece }) old same same

balances : {S T G H : Type 0} (U : Upper S G) (V : Upper T H) (limit : ℕ) (happenings : List Happening) (first : World S T) → Keeps U V happenings first (λ past words w. Booked limit past w)
balances U V limit happenings first (Tries A effort) ahead past words old new reached (station, makes, same) next booked =
    booked_none limit past old new (books_at limit past new _ same (record { count = booked.books.count; a = effort_account U A A effort limit old.radio.number (is_together old.radio.phase) _ past old.radio.a old.a station reached.kept.one makes booked.books.a; b = booked.books.b })) booked
balances U V limit happenings first (Tries B effort) ahead past words old new reached (station, makes, same) next booked =
    booked_none limit past old new (books_at limit past new _ same (record { count = booked.books.count; a = booked.books.a; b = effort_account V B B effort limit old.radio.number (is_together old.radio.phase) 0 past old.radio.b old.b station reached.kept.other makes booked.books.b })) booked
balances U V limit happenings first (Departure A order) ahead past words old new reached (rest, is, same) next booked =
    booked_entry limit past _ old new (books_at limit _ new _ same (departs_books_a U V limit past order rest old
    (out_low old.radio.a.told old.radio.number order rest old.a.out is reached.kept.one.ends.within_out (led_low old.radio.a.told old.radio.a.up _ old.radio.number _ reached.kept.one.led) (fits_handle old.radio reached.shows.low))
    (known_a U V happenings first _ past words old reached) is booked.books)) booked
balances U V limit happenings first (Departure B order) ahead past words old new reached (rest, is, same) next booked =
    booked_entry limit past _ old new (books_at limit _ new _ same (departs_books_b U V limit past order rest old
    (out_low old.radio.b.told old.radio.number order rest old.b.out is reached.kept.other.ends.within_out (led_low old.radio.b.told old.radio.b.up _ old.radio.number _ reached.kept.other.led) (fits_handle old.radio reached.shows.low))
    (known_b U V happenings first _ past words old reached) is booked.books)) booked
balances U V limit happenings first (GivingBack A) ahead past words old new reached same next booked =
    booked_none limit past old new (books_at limit past new _ same (record { count = booked.books.count; a = account_backs limit A past old.radio.a old.a.out old.a.outstanding old.a.total booked.books.a; b = booked.books.b })) booked
balances U V limit happenings first (GivingBack B) ahead past words old new reached same next booked =
    booked_none limit past old new (books_at limit past new _ same (record { count = booked.books.count; a = booked.books.a; b = account_backs limit B past old.radio.b old.b.out old.b.outstanding old.b.total booked.books.b })) booked
balances U V limit happenings first (Piecemeal A handle piece) ahead past words old new reached (rest, is, here, g, same) next booked =
    booked_entry limit past _ old new (books_at limit _ new _ same (record {
      count = booked.books.count;
      a = subst (λ (c : Controller). AccountOf limit A (past ++ Moved A Into (piece_packet handle piece) ∷ []) c (hears_piece U g handle piece old.a)) (sym (handed_piece old.radio.a piece rest is)) (piece_account U limit A past g handle piece rest old.radio.a old.a booked.books.a);
      b = other_account limit B past (Moved A Into (piece_packet handle piece)) old.radio.b old.radio.b old.b refl (else_refl limit old.radio.b) booked.books.b;
    })) booked
balances U V limit happenings first (Piecemeal B handle piece) ahead past words old new reached (rest, is, here, h, same) next booked =
    booked_entry limit past _ old new (books_at limit _ new _ same (record {
      count = booked.books.count;
      a = other_account limit A past (Moved B Into (piece_packet handle piece)) old.radio.a old.radio.a old.a refl (else_refl limit old.radio.a) booked.books.a;
      b = subst (λ (c : Controller). AccountOf limit B (past ++ Moved B Into (piece_packet handle piece) ∷ []) c (hears_piece V h handle piece old.b)) (sym (handed_piece old.radio.b piece rest is)) (piece_account V limit B past h handle piece rest old.radio.b old.b booked.books.b);
    })) booked
balances {S} {T} U V limit happenings first (Answering A answer) ahead past words old new reached (rest, none, is, g, same) next booked =
    let handed = handed_answer old.radio.a answer rest none is in
    let known : Known A (past ++ Moved A Into (answer_packet A answer) ∷ []) (after_telling answer (with_owed rest old.radio.a)) =
    subst (λ (c : Controller). Known A (past ++ Moved A Into (answer_packet A answer) ∷ []) c) (ap (λ (w : World S T). w.radio.a) same ∙ handed) (known_a U V happenings first ahead _ (words ++ []) new next) in
    booked_entry limit past _ old new (books_at limit _ new _ same (record {
      count = booked.books.count;
      a = subst (λ (c : Controller). AccountOf limit A (past ++ Moved A Into (answer_packet A answer) ∷ []) c (hears_answer U g A answer old.a)) (sym handed)
          (account_answer U A limit old.radio.number (is_together old.radio.phase) _ past old.radio.a old.a g answer rest (fits_handle old.radio reached.shows.low) is reached.kept.one (known_a U V happenings first _ past words old reached) (next_link answer rest old.radio.a old.radio.number (is_together old.radio.phase) is reached.kept.one.led) known booked.books.a);
      b = other_account limit B past (Moved A Into (answer_packet A answer)) old.radio.b old.radio.b old.b refl (else_refl limit old.radio.b) booked.books.b;
    })) booked
balances {S} {T} U V limit happenings first (Answering B answer) ahead past words old new reached (rest, none, is, h, same) next booked =
    let handed = handed_answer old.radio.b answer rest none is in
    let known : Known B (past ++ Moved B Into (answer_packet B answer) ∷ []) (after_telling answer (with_owed rest old.radio.b)) =
    subst (λ (c : Controller). Known B (past ++ Moved B Into (answer_packet B answer) ∷ []) c) (ap (λ (w : World S T). w.radio.b) same ∙ handed) (known_b U V happenings first ahead _ (words ++ []) new next) in
    booked_entry limit past _ old new (books_at limit _ new _ same (record {
      count = booked.books.count;
      a = other_account limit A past (Moved B Into (answer_packet B answer)) old.radio.a old.radio.a old.a refl (else_refl limit old.radio.a) booked.books.a;
      b = subst (λ (c : Controller). AccountOf limit B (past ++ Moved B Into (answer_packet B answer) ∷ []) c (hears_answer V h B answer old.b)) (sym handed)
          (account_answer V B limit old.radio.number (is_together old.radio.phase) 0 past old.radio.b old.b h answer rest (fits_handle old.radio reached.shows.low) is reached.kept.other (known_b U V happenings first _ past words old reached) (next_link answer rest old.radio.b old.radio.number (is_together old.radio.phase) is reached.kept.other.led) known booked.books.b);
    })) booked
balances U V limit happenings first (Turns ordinal word) ahead past words old new reached (rest, is_word, ordinal_is, mid, acts, same) next booked =
    let now = acts_books U V (found word old.radio) limit past (Acted ordinal word) old mid refl refl acts booked.books in
    booked_entry limit past _ old new (books_at limit _ new _ same (record { count = now.count; a = now.a; b = now.b })) booked
balances U V limit happenings first (Misses word) ahead past words old new reached (rest, nothing, same) next booked =
    booked_none limit past old new (books_at limit past new _ same (record { count = booked.books.count; a = booked.books.a; b = booked.books.b })) booked
balances U V limit happenings first (Opens push name) ahead past words old new reached (idle, next_is, push_is, g, same) next booked =
    booked_entry limit past _ old new (books_at limit _ new _ same (record {
      count = booked.books.count;
      a = other_account limit A past (Begun push) old.radio.a old.radio.a old.a refl (else_refl limit old.radio.a) booked.books.a;
      b = other_account limit B past (Begun push) old.radio.b old.radio.b old.b refl (else_refl limit old.radio.b) booked.books.b;
    })) booked
balances U V limit happenings first (Closes push outcome) ahead past words old new reached (going, push_is, idle, is, apart, none_a, none_b, quiet_a, quiet_b, same) next booked =
    booked_entry limit past _ old new (books_at limit _ new _ same (record {
      count = booked.books.count;
      a = other_account limit A past (Ended push outcome) old.radio.a old.radio.a old.a refl (else_refl limit old.radio.a) booked.books.a;
      b = other_account limit B past (Ended push outcome) old.radio.b old.radio.b old.b refl (else_refl limit old.radio.b) booked.books.b;
    })) booked

-- ---- from the first moment on

first_account : {S : Type 0} (limit : ℕ) (side : Side) (station : Station S) → station.outstanding ≡ 0 → station.total ≡ 0 → all_outstanding side [] ≡ 0 → ((handle : ℕ) → all_completed side handle [] ≡ 0) → AccountOf limit side [] new_controller station
first_account limit side station none total held done = record {
  honest = λ handle. let is = done handle in let zero_is = zero_held (0 == handle) in omega arith;
  few = omega arith;
  fits = tt;
  on = λ on. absurd cc;
  holds = λ on. absurd cc;
  off = λ off. (none, held);
  within = omega arith;
  total_is = omega arith;
}

first_booked : {S T G H : Type 0} (U : Upper S G) (V : Upper T H) (size count : ℕ) (names : List (List ℕ)) → Booked count [] (first_world U V size count names)
first_booked U V size count names = record {
  books = record {
    count = refl;
    a = first_account count A (first_station U A) refl refl refl (λ handle. refl);
    b = first_account count B (first_station V B) refl refl refl (λ handle. refl);
  };
  honest_a = at_each-none (λ p. (handle : ℕ) → all_completed A handle p ≤ all_sent A handle p) (λ handle. omega arith);
  honest_b = at_each-none (λ p. (handle : ℕ) → all_completed B handle p ≤ all_sent B handle p) (λ handle. omega arith);
  kept_a = at_each-none (λ p. all_outstanding A p ≤ min count 64) (omega arith);
  kept_b = at_each-none (λ p. all_outstanding B p ≤ min count 64) (omega arith);
}

pub booked_all : {S T G H : Type 0} (U : Upper S G) (V : Upper T H) (size count : ℕ) (names : List (List ℕ)) (happenings : List Happening) (w : World S T) → Fits U V size → Runs U V happenings (first_world U V size count names) w → Booked count (all_entries happenings) w
booked_all U V size count names happenings w fits runs =
    let first = first_world U V size count names in
    (along U V happenings first (λ past words w. Booked count past w) happenings [] [] first w fits.frames_a fits.frames_b fits.idles (balances U V count happenings first) runs (reached_first U V size count names happenings fits) (first_booked U V size count names)).now

pub buffers_are_kept : {S T G H : Type 0} (U : Upper S G) (V : Upper T H) → BuffersAreKept U V
buffers_are_kept U V size count names happenings w fits runs = let all = booked_all U V size count names happenings w fits runs in (all.kept_a, all.kept_b)

pub completions_are_honest : {S T G H : Type 0} (U : Upper S G) (V : Upper T H) (size count : ℕ) (names : List (List ℕ)) (happenings : List Happening) (w : World S T) → Fits U V size → Runs U V happenings (first_world U V size count names) w
    → IsHonest A (all_entries happenings) × IsHonest B (all_entries happenings)
completions_are_honest U V size count names happenings w fits runs =
    let all = booked_all U V size count names happenings w fits runs in (all.honest_a, all.honest_b)
