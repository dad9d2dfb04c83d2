-- At each moment of a run the radio has room.
use Rattle.std.proofs.Common.{◌≡◌, ℕ, ◌+◌, ◌≤◌, Bool, List, [], ◌∷◌, length, refl, sym, ◌∙◌, subst, arith, inl}
use Rattle.rest_laws.specs.push_terms.specs.declared.word.Side.TheVariants.{A, B}
use Rattle.rest_laws.specs.push_terms.specs.declared.word.Way.{Way}
use Rattle.rest_laws.specs.push_terms.specs.declared.word.Way.TheVariants.{Ab, Ba}
use Rattle.rest_laws.specs.capture.specs.Entries.{Entry}
use Rattle.rest_laws.specs.radio_model.specs.declared.fate.Fate.{Fate}
use Rattle.rest_laws.specs.radio_model.specs.declared.deed.Deed.{Deed}
use Rattle.rest_laws.specs.radio_model.specs.declared.deed.Deed.TheVariants.{Nothing, Meets, Fires, FiresBoth, Breaks, Cancels}
use Rattle.rest_laws.specs.radio_model.specs.Radio.{found, is_together, knows_link, after_meeting}
use Rattle.rest_laws.specs.world_model.specs.Machines.{Upper}
use Rattle.rest_laws.specs.world_model.specs.Stations.{Order, Data}
use Rattle.rest_laws.specs.world_model.specs.Worlds.{World, Happening, Tries, Departure, GivingBack, Piecemeal, Answering, Turns, Misses, Opens, Closes, piece_on, checks, Acts, Does, Runs, first_world, all_entries, after_order}
use Rattle.rest_laws.specs.turn_laws.specs.WorldLaws.{Fits}
use Rattle.rest_laws.specs.turn_laws.proofs.Coming.{handed_piece, handed_answer}
use Rattle.rest_laws.specs.turn_laws.proofs.Keeping.{calling, Kept}
use Rattle.rest_laws.specs.air_laws.proofs.Owing.{parted_else, order_else}
use Rattle.rest_laws.specs.air_laws.proofs.Balancing.{Books, booked_all}
use Rattle.rest_laws.specs.air_laws.proofs.Following.{Keeps, Arrived, reached_first, along}
use Rattle.rest_laws.specs.station_laws.specs.WorldLaws.{AreSizes}
use Rattle.rest_laws.specs.station_laws.proofs.Running.{runs_keep, first_keeps}
use Rattle.rest_laws.specs.Premises.{AreOrderly}
use Rattle.rest_laws.proofs.Happening.{LivelyIn}
use Rattle.rest_laws.proofs.Resting.{first_lively, keeps_lively}
use Rattle.room_laws.specs.Rooms.{FewAreOwed, RoomIsLeft}
use Rattle.room_laws.proofs.Straying.{orders_plainly}
use Rattle.room_laws.proofs.Spending.{Spent, few_taken, spent_else, effort_spent, order_spent, data_spent, back_spent, piece_out, answer_out, answer_spent, fired_out}
use Rattle.room_laws.proofs.Handing.{Hands, OrdersHandNone, does_hand, hands_none}
use Rattle.room_laws.proofs.Numbering.{few_a, few_b, not_many}

record Spends {S T : Type 0} (w : World S T) : Type 0 where
  a : Spent w.radio.a w.a.out
  b : Spent w.radio.b w.b.out

-- ---- orders

departs_a : {S T : Type 0} (limit : ℕ) (order : Order) (rest : List Order) (w : World S T) → w.radio.count ≡ limit → w.a.out ≡ order ∷ rest → Spends w
    → Spends (record w { radio = after_order A order w.radio; a = record w.a { out = rest } })
departs_a limit (Data handle piece) rest w count first spends = record { a = data_spent (knows_link A w.radio) (piece_on w.radio.a handle piece) w.radio.a w.a.out handle piece rest first spends.a; b = spends.b }
departs_a limit order rest w count first spends = record {
  a = order_spent limit w.radio.a (after_order A order w.radio).a w.a.out order rest first (order_else limit A A order w.radio count tt) spends.a;
  b = spent_else limit w.radio.b (after_order A order w.radio).b w.b.out (order_else limit B A order w.radio count tt) spends.b;
}

departs_b : {S T : Type 0} (limit : ℕ) (order : Order) (rest : List Order) (w : World S T) → w.radio.count ≡ limit → w.b.out ≡ order ∷ rest → Spends w
    → Spends (record w { radio = after_order B order w.radio; b = record w.b { out = rest } })
departs_b limit (Data handle piece) rest w count first spends = record { a = spends.a; b = data_spent (knows_link B w.radio) (piece_on w.radio.b handle piece) w.radio.b w.b.out handle piece rest first spends.b }
departs_b limit order rest w count first spends = record {
  a = spent_else limit w.radio.a (after_order B order w.radio).a w.a.out (order_else limit A B order w.radio count tt) spends.a;
  b = order_spent limit w.radio.b (after_order B order w.radio).b w.b.out order rest first (order_else limit B B order w.radio count tt) spends.b;
}

-- ---- words

met_spends : {S T : Type 0} (way : Way) (fate : Fate) (checked : Bool) (queue : List (List ℕ)) (w : World S T) (turned : ℕ) → Spends w → Spends (record w { radio = after_meeting way fate checked queue w.radio; turned = turned })
met_spends way fate checked [] w turned spends = record { a = spends.a; b = spends.b }
met_spends Ab fate checked (frame ∷ rest) w turned spends = record { a = spends.a; b = spends.b }
met_spends Ba fate checked (frame ∷ rest) w turned spends = record { a = spends.a; b = spends.b }

acts_spend : {S T G H : Type 0} (U : Upper S G) (V : Upper T H) (deed : Deed) (old mid : World S T) → Acts U V deed old mid → Spends old → Spends (record mid { turned = mid.turned + 1 })
acts_spend U V Nothing old mid acts spends = absurd acts
acts_spend U V (Meets Ab fate) old mid acts spends = rw acts (met_spends Ab fate (checks V old.b old.radio.a.waiting) old.radio.a.waiting old (old.turned + 1) spends)
acts_spend U V (Meets Ba fate) old mid acts spends = rw acts (met_spends Ba fate (checks U old.a old.radio.b.waiting) old.radio.b.waiting old (old.turned + 1) spends)
acts_spend U V (Fires A) old mid (armed, g, same) spends = rw same (record { a = spends.a; b = spends.b })
acts_spend U V (Fires B) old mid (armed, h, same) spends = rw same (record { a = spends.a; b = spends.b })
acts_spend U V FiresBoth old mid (armed, g, h, same) spends =
    rw same (record {
      a = subst (λ (l : List Order). Spent old.radio.a l) (sym (fired_out U g (U.armed old.a.upper) old.a)) spends.a;
      b = subst (λ (l : List Order). Spent old.radio.b l) (sym (fired_out V h (V.armed old.b.upper) old.b)) spends.b;
    })
acts_spend U V Breaks old mid acts spends =
    rw acts (record {
      a = spent_else 0 old.radio.a _ old.a.out (parted_else 0 0x08 0x08 A old.radio) spends.a;
      b = spent_else 0 old.radio.b _ old.b.out (parted_else 0 0x08 0x08 B old.radio) spends.b;
    })
acts_spend U V Cancels old mid (may, g, same) spends = rw same (record { a = spends.a; b = spends.b })

-- ---- whatever happens

does_spend : {S T G H : Type 0} (U : Upper S G) (V : Upper T H) (limit : ℕ) (past : List Entry) (happening : Happening) (old new : World S T) → Kept U V old.radio old.a old.b old.pushes.going → Books limit past old → Does U V happening old new → Spends old → Spends new
does_spend U V limit past (Tries A effort) old new kept books (station, makes, same) spends =
    rw same (record { a = effort_spent U A A effort old.radio.number (is_together old.radio.phase) (calling old.radio.phase) old.radio.a old.a station kept.one makes spends.a; b = spends.b })
does_spend U V limit past (Tries B effort) old new kept books (station, makes, same) spends =
    rw same (record { a = spends.a; b = effort_spent V B B effort old.radio.number (is_together old.radio.phase) 0 old.radio.b old.b station kept.other makes spends.b })
does_spend U V limit past (Departure A order) old new kept books (rest, first, same) spends = rw same (departs_a limit order rest old books.count first spends)
does_spend U V limit past (Departure B order) old new kept books (rest, first, same) spends = rw same (departs_b limit order rest old books.count first spends)
does_spend U V limit past (GivingBack A) old new kept books same spends = rw same (record { a = back_spent old.radio.a old.a.out spends.a; b = spends.b })
does_spend U V limit past (GivingBack B) old new kept books same spends = rw same (record { a = spends.a; b = back_spent old.radio.b old.b.out spends.b })
does_spend U V limit past (Piecemeal A handle piece) old new kept books (rest, first, here, g, same) spends =
    rw (same, handed_piece old.radio.a piece rest first) (record { a = subst (λ (l : List Order). Spent old.radio.a l) (sym (piece_out U g handle piece old.a)) spends.a; b = spends.b })
does_spend U V limit past (Piecemeal B handle piece) old new kept books (rest, first, here, h, same) spends =
    rw (same, handed_piece old.radio.b piece rest first) (record { a = spends.a; b = subst (λ (l : List Order). Spent old.radio.b l) (sym (piece_out V h handle piece old.b)) spends.b })
does_spend U V limit past (Answering A answer) old new kept books (rest, none, first, g, same) spends =
    rw (same, handed_answer old.radio.a answer rest none first, answer_out U g A answer old.a)
    (record { a = answer_spent U limit A past old.radio.number (is_together old.radio.phase) (calling old.radio.phase) old.radio.a old.a answer rest first kept.one books.a spends.a; b = spends.b })
does_spend U V limit past (Answering B answer) old new kept books (rest, none, first, h, same) spends =
    rw (same, handed_answer old.radio.b answer rest none first, answer_out V h B answer old.b)
    (record { a = spends.a; b = answer_spent V limit B past old.radio.number (is_together old.radio.phase) 0 old.radio.b old.b answer rest first kept.other books.b spends.b })
does_spend U V limit past (Turns ordinal word) old new kept books (rest, is_word, ordinal_is, mid, acts, same) spends = rw same (acts_spend U V (found word old.radio) old mid acts spends)
does_spend U V limit past (Misses word) old new kept books (rest, nothing, same) spends = rw same (record { a = spends.a; b = spends.b })
does_spend U V limit past (Opens push name) old new kept books (idle, next, push_is, g, same) spends = rw same (record { a = spends.a; b = spends.b })
does_spend U V limit past (Closes push outcome) old new kept books (going, push_is, idle, is, apart, none_a, none_b, quiet_a, quiet_b, same) spends = rw same (record { a = spends.a; b = spends.b })

-- ---- at each moment

record Roomy {S T G H : Type 0} (U : Upper S G) (V : Upper T H) (w : World S T) : Type 0 where
  lively : LivelyIn U w
  spends : Spends w
  hands : Hands U V w

few_held_a : {S T : Type 0} (limit : ℕ) (past : List Entry) (w : World S T) → Books limit past w → Spends w → w.radio.a.taken ≤ 64
few_held_a limit past w books spends = few_taken limit A past w.radio.a w.a.out w.a.outstanding w.a.total books.a spends.a

few_held_b : {S T : Type 0} (limit : ℕ) (past : List Entry) (w : World S T) → Books limit past w → Spends w → w.radio.b.taken ≤ 64
few_held_b limit past w books spends = few_taken limit B past w.radio.b w.b.out w.b.outstanding w.b.total books.b spends.b

order_hands : {S T G H : Type 0} (U : Upper S G) (V : Upper T H) (limit : ℕ) (past : List Entry) (happening : Happening) (old new : World S T) → Books limit past old → Spends old → Does U V happening old new → OrdersHandNone old new happening
order_hands U V limit past (Departure A order) old new books spends (rest, first, same) =
    let few = few_held_a limit past old books spends in
    rw same ((orders_plainly A A order old.radio few).coming_is, (orders_plainly B A order old.radio few).coming_is)
order_hands U V limit past (Departure B order) old new books spends (rest, first, same) =
    let few = few_held_b limit past old books spends in
    rw same ((orders_plainly A B order old.radio few).coming_is, (orders_plainly B B order old.radio few).coming_is)
order_hands U V limit past (Tries side effort) old new books spends does = tt
order_hands U V limit past (GivingBack side) old new books spends does = tt
order_hands U V limit past (Piecemeal side handle piece) old new books spends does = tt
order_hands U V limit past (Answering side answer) old new books spends does = tt
order_hands U V limit past (Turns ordinal word) old new books spends does = tt
order_hands U V limit past (Misses word) old new books spends does = tt
order_hands U V limit past (Opens push name) old new books spends does = tt
order_hands U V limit past (Closes push outcome) old new books spends does = tt

fits_of : {S T G H : Type 0} (U : Upper S G) (V : Upper T H) (size count : ℕ) → AreOrderly U V → AreSizes size count → Fits U V size
fits_of U V size count orderly sizes = record { long = sizes.long; frames_a = orderly.frames_a; frames_b = orderly.frames_b; idles = orderly.idles }

keeps_roomy : {S T G H : Type 0} (U : Upper S G) (V : Upper T H) (size count : ℕ) (names : List (List ℕ)) (happenings : List Happening) → AreOrderly U V → AreSizes size count
    → Keeps U V happenings (first_world U V size count names) (λ past words w. Roomy U V w)
keeps_roomy U V size count names happenings orderly sizes happening ahead past words old new reached does next roomy =
    let books = (booked_all U V size count names reached.done old (fits_of U V size count orderly sizes) reached.runs).books in
    record {
      lively = keeps_lively U V size count names happenings orderly sizes happening ahead past words old new reached does next roomy.lively;
      spends = does_spend U V count (all_entries reached.done) happening old new reached.kept books does roomy.spends;
      hands = does_hand U V happening old new orderly.idles reached.kept (order_hands U V count (all_entries reached.done) happening old new books roomy.spends does) does roomy.hands;
    }

arrived : {S T G H : Type 0} (U : Upper S G) (V : Upper T H) (size count : ℕ) (names : List (List ℕ)) (happenings : List Happening) (w : World S T) → AreOrderly U V → AreSizes size count → length names ≤ 0x0EFF
    → Runs U V happenings (first_world U V size count names) w → Arrived U V happenings (first_world U V size count names) (λ past words w. Roomy U V w) w
arrived U V size count names happenings w orderly sizes few runs =
    along U V happenings (first_world U V size count names) (λ past words w. Roomy U V w) happenings [] [] (first_world U V size count names) w orderly.frames_a orderly.frames_b orderly.idles
    (keeps_roomy U V size count names happenings orderly sizes) runs (reached_first U V size count names happenings (fits_of U V size count orderly sizes))
    (record { lively = first_lively U V size count names few; spends = record { a = λ off. omega arith; b = λ off. omega arith }; hands = inl (refl, refl) })

pub few_are_owed : {S T G H : Type 0} (U : Upper S G) (V : Upper T H) → FewAreOwed U V
few_are_owed U V size count names happenings w orderly sizes few runs none =
    let now = arrived U V size count names happenings w orderly sizes few runs in
    let kept = now.reached.kept in
    let pending = runs_keep U V size count happenings (first_world U V size count names) w sizes runs (first_keeps U V size count names) in
    not_many (length w.radio.a.owed) (length w.radio.b.owed)
    (few_a U w.radio.number (is_together w.radio.phase) (calling w.radio.phase) w.radio.a w.a kept.one pending.a none.a)
    (few_b V w.radio.number (is_together w.radio.phase) 0 w.radio.phase _ w.radio.b w.b kept.other pending.b now.now.lively.calls.requests none.b)

pub room_is_left : {S T G H : Type 0} (U : Upper S G) (V : Upper T H) → RoomIsLeft U V
room_is_left U V size count names happenings w A order rest orderly sizes few runs none out =
    let now = arrived U V size count names happenings w orderly sizes few runs in
    let books = (booked_all U V size count names happenings w (fits_of U V size count orderly sizes) runs).books in
    let held = few_held_a count (all_entries happenings) w books now.now.spends in
    let nothing = hands_none U V w now.now.hands (λ empty_a empty_b. cc) in
    record {
      none_a = nothing.0;
      none_b = nothing.1;
      none_back = record { a = (orders_plainly A A order w.radio held).strays_are ∙ none.a; b = (orders_plainly B A order w.radio held).strays_are ∙ none.b };
    }
room_is_left U V size count names happenings w B order rest orderly sizes few runs none out =
    let now = arrived U V size count names happenings w orderly sizes few runs in
    let books = (booked_all U V size count names happenings w (fits_of U V size count orderly sizes) runs).books in
    let held = few_held_b count (all_entries happenings) w books now.now.spends in
    let nothing = hands_none U V w now.now.hands (λ empty_a empty_b. cc) in
    record {
      none_a = nothing.0;
      none_b = nothing.1;
      none_back = record { a = (orders_plainly A B order w.radio held).strays_are ∙ none.a; b = (orders_plainly B B order w.radio held).strays_are ∙ none.b };
    }
