-- Each run of the world is a run of turns, and the capture of it has the links that each host was told of.
use Rattle.std.proofs.Common.{◌≡◌, ℕ, ◌+◌, ◌≤◌, ◌<◌, ◌==◌, ◌&&◌, not, nat_lt, Bool, true, false, List, [], ◌∷◌, ◌++◌, Option, Some, None, if◌then◌else◌, refl, sym, ap, ◌∙◌, arith, subst, ltb-true}
use Rattle.std.specs.List.{AllByRecursion}
use Rattle.std.specs.Option.{option_map}
use Rattle.std.proofs.lemmas.List.{append-nil, append_assoc}
use Rattle.std.proofs.lemmas.List.Concat.{flat_map-append}
use Rattle.world_model.specs.push_terms.specs.declared.word.Side.{Side}
use Rattle.world_model.specs.push_terms.specs.declared.word.Side.TheVariants.{A, B}
use Rattle.world_model.specs.push_terms.specs.declared.word.Way.{Way}
use Rattle.world_model.specs.push_terms.specs.declared.word.Way.TheVariants.{Ab, Ba}
use Rattle.world_model.specs.push_terms.specs.declared.word.Word.{Word}
use Rattle.world_model.specs.push_terms.specs.Words.{IsWord}
use Rattle.world_model.specs.capture.specs.declared.flow.Flow.TheVariants.{Out, Into}
use Rattle.world_model.specs.capture.specs.Entries.{Entry, Moved, Acted, Begun, Ended}
use Rattle.world_model.specs.capture.specs.Moves.{moves}
use Rattle.world_model.specs.capture.specs.Links.{Link, Linking, linking}
use Rattle.world_model.specs.capture.specs.Pdus.{Pdu, pdus}
use Rattle.world_model.specs.radio_model.specs.declared.fate.Fate.{Fate}
use Rattle.world_model.specs.radio_model.specs.declared.deed.Deed.{Deed}
use Rattle.world_model.specs.radio_model.specs.declared.deed.Deed.TheVariants.{Nothing, Meets, Fires, FiresBoth, Breaks, Cancels}
use Rattle.world_model.specs.radio_model.specs.Controllers.{Returned, Stated, Controller, answer_packet, piece_packet, after_telling}
use Rattle.world_model.specs.radio_model.specs.Radio.{Radio, Phase, Apart, Paging, Requested, Together, is_apart, is_paging, is_requested, is_together, is_reached, after_reaching, may_page, joined, parted, knows_link, owes, scanning, after_meeting, found}
use Rattle.world_model.specs.Machines.{TimerFired, Upper}
use Rattle.world_model.specs.Talks.{Talk}
use Rattle.world_model.specs.PerLink.{Linkage, no_linkage, with_moved, linkage, captured}
use Rattle.world_model.specs.Carriages.{Carriage, Doing, Moved as Motioned, Deeds, Misses as Passing, Rises, Falls, Opens as Opened, Closes as Closed, IsDone, Carries, words_at, all_words as words_carried, all_steps}
use Rattle.world_model.specs.Stations.{Order, Reset, ReadBuffers, ReadAddress, Scan, Page, Accept, End, Data, order_packet, Station, longest_pdu, gives, hears_piece, hears_answer, told}
use Rattle.world_model.specs.Worlds.{World, Happening, Tries, Departure, GivingBack, Piecemeal, Answering, Turns, Misses, Opens, Closes, entries_of, all_entries, words_in, all_words, checks, IsAtRest, Acts, Does, Runs, first_world, after_order}
use Rattle.turn_laws.specs.Premises.{SaysFrames, Idles}
use Rattle.turn_laws.specs.Laws.{IsFront}
use Rattle.turn_laws.specs.WorldLaws.{Fits, WorldIsTurned, BrokenWorldGoesOn}
use Rattle.turn_laws.proofs.Finishing.{nothing_more}
use Rattle.turn_laws.proofs.Advancing.{Both}
use Rattle.turn_laws.proofs.Running.{follows, first_both, same_words, carried_is_turned, broken_goes_on}
use Rattle.turn_laws.proofs.Linkages.{order_by, answer_by}
use Rattle.turn_laws.proofs.Leading.{led_low}
use Rattle.turn_laws.proofs.Wiring.{Within}
use Rattle.turn_laws.proofs.Hearing.{with_coming, with_owed}
use Rattle.turn_laws.proofs.Coming.{handed_piece, handed_answer}
use Rattle.turn_laws.proofs.Keeping.{calling, Kept, and_second}
use Rattle.turn_laws.proofs.Ordering.{at, Carried}
use Rattle.turn_laws.proofs.Wording.{rests_alike}
use Rattle.turn_laws.proofs.Playing.{by_a, by_b, worded, happens, first_kept}
use Rattle.turn_laws.proofs.Showing.{out_of, into, ShownUp}
use Rattle.turn_laws.proofs.Capturing.{View, view, ShownAt, beside, moved}
use Rattle.turn_laws.proofs.Recording.{effort_shown, stays_shown, BothStay, order_stays, order_shown, data_moves, piece_comes, answer_comes}

-- ---- handles fit

abbrev Low : Radio → Type 0
Low radio = radio.number + calling radio.phase ≤ 0x0EFF

if_number : (some : Bool) (one two : Radio) (P : Radio → Type 0) → (some ≡ true → P one) → (some ≡ false → P two) → P (if some then one else two)
if_number true one two P here there = here refl
if_number false one two P here there = there refl

and_first : (a b : Bool) → (a && b) ≡ true → a ≡ true
and_first true b is = refl
and_first false b is = cc

paging_one : (phase : Phase) → is_paging phase ≡ true → calling phase ≡ 1
paging_one Apart is = cc
paging_one Paging is = refl
paging_one Requested is = cc
paging_one Together is = cc

requested_one : (phase : Phase) → is_requested phase ≡ true → calling phase ≡ 1
requested_one Apart is = cc
requested_one Paging is = cc
requested_one Requested is = refl
requested_one Together is = cc

reach_low : (radio : Radio) → Low radio → Low (after_reaching radio)
reach_low radio low =
    if_number (is_reached radio) _ radio (λ r. Low r) (λ reached. let one = paging_one radio.phase (and_first (is_paging radio.phase) _ reached) in omega arith) (λ not. low)

page_low : (radio : Radio) → may_page radio ≡ true → radio.number < 0x0EFF
page_low radio may =
    let one = and_second (is_apart radio.phase) (not radio.a.up && (not radio.b.up && ((radio.a.told == radio.number) && ((radio.b.told == radio.number) && nat_lt radio.number 0x0EFF)))) may in
    let two = and_second (not radio.a.up) (not radio.b.up && ((radio.a.told == radio.number) && ((radio.b.told == radio.number) && nat_lt radio.number 0x0EFF))) one in
    let three = and_second (not radio.b.up) ((radio.a.told == radio.number) && ((radio.b.told == radio.number) && nat_lt radio.number 0x0EFF)) two in
    let four = and_second (radio.a.told == radio.number) ((radio.b.told == radio.number) && nat_lt radio.number 0x0EFF) three in
    ltb-true radio.number 0x0EFF (and_second (radio.b.told == radio.number) (nat_lt radio.number 0x0EFF) four)

part_low : (radio : Radio) (x y : ℕ) → Low radio → Low (parted x y radio)
part_low radio x y low = omega arith

order_low : (side : Side) (order : Order) (radio : Radio) → Low radio → Low (after_order side order radio)
order_low A Reset radio low = low
order_low B Reset radio low = low
order_low A ReadBuffers radio low = low
order_low B ReadBuffers radio low = low
order_low A ReadAddress radio low = low
order_low B ReadAddress radio low = low
order_low A Scan radio low = reach_low (owes A (Returned 0x0C1A (0 ∷ []) ∷ []) (scanning A 0x03 radio)) low
order_low B Scan radio low = reach_low (owes B (Returned 0x0C1A (0 ∷ []) ∷ []) (scanning B 0x03 radio)) low
order_low A Page radio low =
    let one : Radio = owes A (Stated 0x0405 ∷ []) radio in
    if_number (may_page one) (after_reaching (record one { phase = Paging })) one (λ r. Low r) (λ may. reach_low (record one { phase = Paging }) (let few = page_low one may in omega arith)) (λ not. low)
order_low B Page radio low = low
order_low A Accept radio low = low
order_low B Accept radio low =
    let one : Radio = owes B (Stated 0x0409 ∷ []) radio in
    if_number (is_requested radio.phase) (joined one) one (λ r. Low r) (λ asked. let called = requested_one radio.phase asked in omega arith) (λ not. low)
order_low A (End handle) radio low =
    let one : Radio = owes A (Stated 0x0406 ∷ []) radio in
    if_number (knows_link A radio && (handle == radio.number)) (parted 0x16 0x13 one) one (λ r. Low r) (λ ends. part_low one 0x16 0x13 low) (λ not. low)
order_low B (End handle) radio low =
    let one : Radio = owes B (Stated 0x0406 ∷ []) radio in
    if_number (knows_link B radio && (handle == radio.number)) (parted 0x13 0x16 one) one (λ r. Low r) (λ ends. part_low one 0x13 0x16 low) (λ not. low)
order_low A (Data handle piece) radio low = low
order_low B (Data handle piece) radio low = low

-- ---- what the capture has

pub record Shows {S T : Type 0} (past : List Entry) (w : World S T) (la lb : Linkage) : Type 0 where
  pub low : Low w.radio
  pub a : ShownAt (view w.radio.a w.a) (linking (moves A past)) la
  pub b : ShownAt (view w.radio.b w.b) (linking (moves B past)) lb

shows_none : {S T : Type 0} (past : List Entry) (w : World S T) (la lb : Linkage) → Shows past w la lb → Shows (past ++ []) w la lb
shows_none past w la lb shows = subst (λ (p : List Entry). Shows p w la lb) (sym (append-nil past)) shows

-- an entry that is no packet
shows_beside : {S T : Type 0} (past : List Entry) (entry : Entry) (w : World S T) (la lb : Linkage) → linking (moves A (past ++ entry ∷ [])) ≡ linking (moves A past) → linking (moves B (past ++ entry ∷ [])) ≡ linking (moves B past) → Shows past w la lb → Shows (past ++ entry ∷ []) w la lb
shows_beside past entry w la lb one other shows = record {
  low = shows.low;
  a = subst (λ (k : Linking). ShownAt (view w.radio.a w.a) k la) (sym one) shows.a;
  b = subst (λ (k : Linking). ShownAt (view w.radio.b w.b) k lb) (sym other) shows.b;
}

departs_a : {S T G H : Type 0} (U : Upper S G) (V : Upper T H) (past : List Entry) (w : World S T) (la lb : Linkage) (order : Order) (rest : List Order) → w.a.out ≡ order ∷ rest → Kept U V w.radio w.a w.b w.pushes.going → Shows past w la lb
    → Shows (past ++ Moved A Out (order_packet A order) ∷ []) (record w { radio = after_order A order w.radio; a = record w.a { out = rest } }) (order_by order w.radio.a la) lb
departs_a U V past w la lb (Data handle piece) rest first kept shows =
    let within : Within w.radio.a.told (Data handle piece ∷ rest) = subst (λ (l : List Order). Within w.radio.a.told l) first kept.one.ends.within_out in
    let most = led_low w.radio.a.told w.radio.a.up _ w.radio.number _ kept.one.led in
    let below = within.0 in
    let low = shows.low in
    record {
      low = low;
      a = subst (λ (k : Linking). ShownAt (view (after_order A (Data handle piece) w.radio).a (record w.a { out = rest })) k (order_by (Data handle piece) w.radio.a la)) (sym (moved A past (Moved A Out (order_packet A (Data handle piece))) (out_of (order_packet A (Data handle piece))) refl))
          (data_moves (knows_link A w.radio) w.radio.a w.a handle piece rest (linking (moves A past)) la (omega arith) first shows.a);
      b = subst (λ (k : Linking). ShownAt (view w.radio.b w.b) k lb) (sym (beside B past (Moved A Out (order_packet A (Data handle piece))) refl)) shows.b;
    }
departs_a U V past w la lb order rest first kept shows =
    let stays = order_stays A order w.radio tt in
    record {
      low = order_low A order w.radio shows.low;
      a = subst (λ (k : Linking). ShownAt (view (after_order A order w.radio).a (record w.a { out = rest })) k (order_by order w.radio.a la)) (sym (moved A past (Moved A Out (order_packet A order)) (out_of (order_packet A order)) refl))
          (order_shown A order w.radio.a (after_order A order w.radio).a w.a rest (linking (moves A past)) la tt first stays.a shows.a);
      b = subst (λ (k : Linking). ShownAt (view (after_order A order w.radio).b w.b) k lb) (sym (beside B past (Moved A Out (order_packet A order)) refl)) (stays_shown w.radio.b (after_order A order w.radio).b w.b (linking (moves B past)) lb stays.b shows.b);
    }

departs_b : {S T G H : Type 0} (U : Upper S G) (V : Upper T H) (past : List Entry) (w : World S T) (la lb : Linkage) (order : Order) (rest : List Order) → w.b.out ≡ order ∷ rest → Kept U V w.radio w.a w.b w.pushes.going → Shows past w la lb
    → Shows (past ++ Moved B Out (order_packet B order) ∷ []) (record w { radio = after_order B order w.radio; b = record w.b { out = rest } }) la (order_by order w.radio.b lb)
departs_b U V past w la lb (Data handle piece) rest first kept shows =
    let within : Within w.radio.b.told (Data handle piece ∷ rest) = subst (λ (l : List Order). Within w.radio.b.told l) first kept.other.ends.within_out in
    let most = led_low w.radio.b.told w.radio.b.up _ w.radio.number _ kept.other.led in
    let below = within.0 in
    let low = shows.low in
    record {
      low = low;
      a = subst (λ (k : Linking). ShownAt (view w.radio.a w.a) k la) (sym (beside A past (Moved B Out (order_packet B (Data handle piece))) refl)) shows.a;
      b = subst (λ (k : Linking). ShownAt (view (after_order B (Data handle piece) w.radio).b (record w.b { out = rest })) k (order_by (Data handle piece) w.radio.b lb)) (sym (moved B past (Moved B Out (order_packet B (Data handle piece))) (out_of (order_packet B (Data handle piece))) refl))
          (data_moves (knows_link B w.radio) w.radio.b w.b handle piece rest (linking (moves B past)) lb (omega arith) first shows.b);
    }
departs_b U V past w la lb order rest first kept shows =
    let stays = order_stays B order w.radio tt in
    record {
      low = order_low B order w.radio shows.low;
      a = subst (λ (k : Linking). ShownAt (view (after_order B order w.radio).a w.a) k la) (sym (beside A past (Moved B Out (order_packet B order)) refl)) (stays_shown w.radio.a (after_order B order w.radio).a w.a (linking (moves A past)) la stays.a shows.a);
      b = subst (λ (k : Linking). ShownAt (view (after_order B order w.radio).b (record w.b { out = rest })) k (order_by order w.radio.b lb)) (sym (moved B past (Moved B Out (order_packet B order)) (out_of (order_packet B order)) refl))
          (order_shown B order w.radio.b (after_order B order w.radio).b w.b rest (linking (moves B past)) lb tt first stays.b shows.b);
    }

-- ---- words

-- what a word does tells no controller of a link
met_stays : (way : Way) (fate : Fate) (checked : Bool) (queue : List (List ℕ)) (radio : Radio) → BothStay radio (after_meeting way fate checked queue radio)
met_stays Ab fate checked [] radio = record { a = record { up_is = refl; told_is = refl; begun_is = refl }; b = record { up_is = refl; told_is = refl; begun_is = refl } }
met_stays Ba fate checked [] radio = record { a = record { up_is = refl; told_is = refl; begun_is = refl }; b = record { up_is = refl; told_is = refl; begun_is = refl } }
met_stays Ab fate checked (frame ∷ rest) radio = record { a = record { up_is = refl; told_is = refl; begun_is = refl }; b = record { up_is = refl; told_is = refl; begun_is = refl } }
met_stays Ba fate checked (frame ∷ rest) radio = record { a = record { up_is = refl; told_is = refl; begun_is = refl }; b = record { up_is = refl; told_is = refl; begun_is = refl } }

met_low : (way : Way) (fate : Fate) (checked : Bool) (queue : List (List ℕ)) (radio : Radio) → Low radio → Low (after_meeting way fate checked queue radio)
met_low Ab fate checked [] radio low = low
met_low Ba fate checked [] radio low = low
met_low Ab fate checked (frame ∷ rest) radio low = low
met_low Ba fate checked (frame ∷ rest) radio low = low

stays_shows : {S T : Type 0} (past : List Entry) (w : World S T) (radio : Radio) (la lb : Linkage) → BothStay w.radio radio → Low radio → Shows past w la lb → Shows past (record w { radio = radio }) la lb
stays_shows past w radio la lb stays low shows = record {
  low = low;
  a = stays_shown w.radio.a radio.a w.a (linking (moves A past)) la stays.a shows.a;
  b = stays_shown w.radio.b radio.b w.b (linking (moves B past)) lb stays.b shows.b;
}

fired_shown : {S G : Type 0} (U : Upper S G) (answers : List G) (one : Controller) (station : Station S) (armed : Bool) (known : Linking) (l : Linkage) → ShownAt (view one station) known l → ShownAt (view one (if armed then told U answers TimerFired station else station)) known l
fired_shown U answers one station true known l shown = shown
fired_shown U answers one station false known l shown = shown

words_show : {S T G H : Type 0} (U : Upper S G) (V : Upper T H) (deed : Deed) (past : List Entry) (old new : World S T) (la lb : Linkage) → Acts U V deed old new → Shows past old la lb → Shows past new la lb
words_show U V Nothing past old new la lb acts shows = absurd acts
words_show U V (Meets Ab fate) past old new la lb acts shows = rw acts (stays_shows past old _ la lb (met_stays Ab fate (checks V old.b old.radio.a.waiting) old.radio.a.waiting old.radio) (met_low Ab fate (checks V old.b old.radio.a.waiting) old.radio.a.waiting old.radio shows.low) shows)
words_show U V (Meets Ba fate) past old new la lb acts shows = rw acts (stays_shows past old _ la lb (met_stays Ba fate (checks U old.a old.radio.b.waiting) old.radio.b.waiting old.radio) (met_low Ba fate (checks U old.a old.radio.b.waiting) old.radio.b.waiting old.radio shows.low) shows)
words_show U V (Fires A) past old new la lb (armed, g, same) shows = rw same (record { low = shows.low; a = shows.a; b = shows.b })
words_show U V (Fires B) past old new la lb (armed, h, same) shows = rw same (record { low = shows.low; a = shows.a; b = shows.b })
words_show U V FiresBoth past old new la lb (armed, g, h, same) shows = rw same (record {
  low = shows.low;
  a = fired_shown U g old.radio.a old.a (U.armed old.a.upper) (linking (moves A past)) la shows.a;
  b = fired_shown V h old.radio.b old.b (V.armed old.b.upper) (linking (moves B past)) lb shows.b;
})
words_show U V Breaks past old new la lb acts shows = rw acts (record { low = part_low old.radio 0x08 0x08 shows.low; a = shows.a; b = shows.b })
words_show U V Cancels past old new la lb (may, g, same) shows = rw same (record { low = shows.low; a = shows.a; b = shows.b })

-- ---- whatever happens

low_number : (radio : Radio) → Low radio → radio.number ≤ 0x0EFF
low_number radio low = omega arith

pub shows_more : {S T G H : Type 0} (U : Upper S G) (V : Upper T H) (happening : Happening) (past : List Entry) (old new : World S T) (la lb : Linkage) → Does U V happening old new → Kept U V old.radio old.a old.b old.pushes.going → Shows past old la lb
    → Shows (past ++ entries_of happening) new (by_a happening old la) (by_b happening old lb)
shows_more U V (Tries A effort) past old new la lb (station, does, same) kept shows =
    rw same (shows_none past _ la lb (record { low = shows.low; a = effort_shown U A effort old.radio.a old.a station (linking (moves A past)) la does shows.a; b = shows.b }))
shows_more U V (Tries B effort) past old new la lb (station, does, same) kept shows =
    rw same (shows_none past _ la lb (record { low = shows.low; a = shows.a; b = effort_shown V B effort old.radio.b old.b station (linking (moves B past)) lb does shows.b }))
shows_more U V (Departure A order) past old new la lb (rest, first, same) kept shows = rw same (departs_a U V past old la lb order rest first kept shows)
shows_more U V (Departure B order) past old new la lb (rest, first, same) kept shows = rw same (departs_b U V past old la lb order rest first kept shows)
shows_more U V (GivingBack A) past old new la lb same kept shows = rw same (shows_none past _ la lb (record { low = shows.low; a = shows.a; b = shows.b }))
shows_more U V (GivingBack B) past old new la lb same kept shows = rw same (shows_none past _ la lb (record { low = shows.low; a = shows.a; b = shows.b }))
shows_more U V (Piecemeal A handle piece) past old new la lb (rest, first, here, g, same) kept shows =
    rw (same, handed_piece old.radio.a piece rest first) (record {
      low = shows.low;
      a = subst (λ (k : Linking). ShownAt (view (with_coming rest old.radio.a) (hears_piece U g handle piece old.a)) k (with_moved Into (gives longest_pdu old.a.joining piece) la)) (sym (moved A past (Moved A Into (piece_packet handle piece)) (into (piece_packet handle piece)) refl))
          (piece_comes U old.radio.number (is_together old.radio.phase) (calling old.radio.phase) old.radio.a old.a g handle piece rest (linking (moves A past)) la (low_number old.radio shows.low) here first kept.one shows.a);
      b = subst (λ (k : Linking). ShownAt (view old.radio.b old.b) k lb) (sym (beside B past (Moved A Into (piece_packet handle piece)) refl)) shows.b;
    })
shows_more U V (Piecemeal B handle piece) past old new la lb (rest, first, here, h, same) kept shows =
    rw (same, handed_piece old.radio.b piece rest first) (record {
      low = shows.low;
      a = subst (λ (k : Linking). ShownAt (view old.radio.a old.a) k la) (sym (beside A past (Moved B Into (piece_packet handle piece)) refl)) shows.a;
      b = subst (λ (k : Linking). ShownAt (view (with_coming rest old.radio.b) (hears_piece V h handle piece old.b)) k (with_moved Into (gives longest_pdu old.b.joining piece) lb)) (sym (moved B past (Moved B Into (piece_packet handle piece)) (into (piece_packet handle piece)) refl))
          (piece_comes V old.radio.number (is_together old.radio.phase) 0 old.radio.b old.b h handle piece rest (linking (moves B past)) lb (low_number old.radio shows.low) here first kept.other shows.b);
    })
shows_more U V (Answering A answer) past old new la lb (rest, none, first, g, same) kept shows =
    rw (same, handed_answer old.radio.a answer rest none first) (record {
      low = shows.low;
      a = subst (λ (k : Linking). ShownAt (view (after_telling answer (with_owed rest old.radio.a)) (hears_answer U g A answer old.a)) k (answer_by answer la)) (sym (moved A past (Moved A Into (answer_packet A answer)) (into (answer_packet A answer)) refl))
          (answer_comes U A old.radio.number (is_together old.radio.phase) (calling old.radio.phase) old.radio.a old.a g answer rest (linking (moves A past)) la (low_number old.radio shows.low) first kept.one shows.a);
      b = subst (λ (k : Linking). ShownAt (view old.radio.b old.b) k lb) (sym (beside B past (Moved A Into (answer_packet A answer)) refl)) shows.b;
    })
shows_more U V (Answering B answer) past old new la lb (rest, none, first, h, same) kept shows =
    rw (same, handed_answer old.radio.b answer rest none first) (record {
      low = shows.low;
      a = subst (λ (k : Linking). ShownAt (view old.radio.a old.a) k la) (sym (beside A past (Moved B Into (answer_packet B answer)) refl)) shows.a;
      b = subst (λ (k : Linking). ShownAt (view (after_telling answer (with_owed rest old.radio.b)) (hears_answer V h B answer old.b)) k (answer_by answer lb)) (sym (moved B past (Moved B Into (answer_packet B answer)) (into (answer_packet B answer)) refl))
          (answer_comes V B old.radio.number (is_together old.radio.phase) 0 old.radio.b old.b h answer rest (linking (moves B past)) lb (low_number old.radio shows.low) first kept.other shows.b);
    })
shows_more U V (Turns ordinal word) past old new la lb (rest, is_word, ordinal_is, mid, acts, same) kept shows =
    let now = words_show U V (found word old.radio) past old mid la lb acts shows in
    rw same (shows_beside past (Acted ordinal word) _ la lb (beside A past (Acted ordinal word) refl) (beside B past (Acted ordinal word) refl) (record { low = now.low; a = now.a; b = now.b }))
shows_more U V (Misses word) past old new la lb (rest, nothing, same) kept shows = rw same (shows_none past _ la lb (record { low = shows.low; a = shows.a; b = shows.b }))
shows_more U V (Opens push name) past old new la lb (idle, next, push_is, g, same) kept shows =
    rw same (shows_beside past (Begun push) _ la lb (beside A past (Begun push) refl) (beside B past (Begun push) refl) (record { low = shows.low; a = shows.a; b = shows.b }))
shows_more U V (Closes push outcome) past old new la lb (going, push_is, idle, is, apart, none_a, none_b, quiet_a, quiet_b, same) kept shows =
    rw same (shows_beside past (Ended push outcome) _ la lb (beside A past (Ended push outcome) refl) (beside B past (Ended push outcome) refl) (record { low = shows.low; a = shows.a; b = shows.b }))

-- ---- runs

-- a word that meets a frame is one of a script
abbrev pub IsOfScript : Doing → Type 0
IsOfScript (Deeds word) = IsWord word
IsOfScript (Passing word) = Unit {0}
IsOfScript (Motioned side motion) = Unit {0}
IsOfScript Rises = Unit {0}
IsOfScript (Falls by) = Unit {0}
IsOfScript (Opened name) = Unit {0}
IsOfScript (Closed outcome) = Unit {0}

of_words : (doings : List Doing) → AllByRecursion IsWord (words_carried doings) → AllByRecursion IsOfScript doings
of_words [] all = tt
of_words (Deeds word ∷ doings) all = (all.0, of_words doings all.1)
of_words (Passing word ∷ doings) all = (tt, of_words doings all.1)
of_words (Motioned side motion ∷ doings) all = (tt, of_words doings all)
of_words (Rises ∷ doings) all = (tt, of_words doings all)
of_words (Falls by ∷ doings) all = (tt, of_words doings all)
of_words (Opened name ∷ doings) all = (tt, of_words doings all)
of_words (Closed outcome ∷ doings) all = (tt, of_words doings all)

both_of : (one two : List Doing) → AllByRecursion IsOfScript one → AllByRecursion IsOfScript two → AllByRecursion IsOfScript (one ++ two)
both_of [] two all other = other
both_of (doing ∷ one) two all other = (all.0, both_of one two all.1 other)

-- ---- what is so wherever a word meets something

abbrev pub RestsIn : {S T : Type 0} → (Carriage S T → Type 0) → Doing → Carriage S T → Type 0
RestsIn P (Deeds word) c = P c
RestsIn P (Passing word) c = Unit {0}
RestsIn P (Motioned side motion) c = Unit {0}
RestsIn P Rises c = Unit {0}
RestsIn P (Falls by) c = Unit {0}
RestsIn P (Opened name) c = Unit {0}
RestsIn P (Closed outcome) c = Unit {0}

-- a run of which that is so
abbrev pub CarriesSo : {S T G H : Type 0} → Upper S G → Upper T H → (Carriage S T → Type 0) → List Doing → Carriage S T → Carriage S T → Type 0
CarriesSo U V P [] old new = new ≡ old
CarriesSo {S} {T} U V P (doing ∷ doings) old new = (mid : Carriage S T) × (IsDone U V doing old mid × RestsIn P doing old) × CarriesSo U V P doings mid new

wordless : {S T : Type 0} (P : Carriage S T → Type 0) (doing : Doing) (more : List Word) (c : Carriage S T) → words_at doing ++ more ≡ [] → RestsIn P doing c × (more ≡ [])
wordless P (Deeds word) more c none = cc
wordless P (Passing word) more c none = cc
wordless P (Motioned side motion) more c none = (tt, none)
wordless P Rises more c none = (tt, none)
wordless P (Falls by) more c none = (tt, none)
wordless P (Opened name) more c none = (tt, none)
wordless P (Closed outcome) more c none = (tt, none)

-- without words there is nothing to be so
so_wordless : {S T G H : Type 0} (U : Upper S G) (V : Upper T H) (P : Carriage S T → Type 0) (doings : List Doing) (old new : Carriage S T) → words_carried doings ≡ [] → Carries U V doings old new → CarriesSo U V P doings old new
so_wordless U V P [] old new none same = same
so_wordless U V P (doing ∷ doings) old new none (mid, does, runs) =
    let now = wordless P doing (words_carried doings) old none in
    (mid, (does, now.0), so_wordless U V P doings mid new now.1 runs)

record CarriedSo {S T G H : Type 0} (U : Upper S G) (V : Upper T H) (P : Carriage S T → Type 0) (happening : Happening) (old new : World S T) (talk_a talk_b : List Talk) : Type 0 where
  now : Carried U V (by_a happening old) (by_b happening old) old new talk_a talk_b (words_in happening)
  of_script : AllByRecursion IsOfScript now.doings
  so : CarriesSo U V P now.doings (at old talk_a talk_b) (at new now.talk_a' now.talk_b')

wordless_by : {S T G H : Type 0} (U : Upper S G) (V : Upper T H) (P : Carriage S T → Type 0) (happening : Happening) (old new : World S T) (talk_a talk_b : List Talk) → words_in happening ≡ []
    → Carried U V (by_a happening old) (by_b happening old) old new talk_a talk_b (words_in happening) → CarriedSo U V P happening old new talk_a talk_b
wordless_by U V P happening old new talk_a talk_b none now =
    let words = now.words_are ∙ none in
    record {
      now = now;
      of_script = of_words now.doings (subst (AllByRecursion IsWord) (sym words) tt);
      so = so_wordless U V P now.doings (at old talk_a talk_b) (at new now.talk_a' now.talk_b') words now.carries;
    }

happens_so :
    {S T G H : Type 0} (U : Upper S G) (V : Upper T H) (P : Carriage S T → Type 0) (happening : Happening) (old new : World S T) (talk_a talk_b : List Talk) → SaysFrames U → SaysFrames V → Idles U → Does U V happening old new → Both U V (at old talk_a talk_b)
    → Kept U V old.radio old.a old.b old.pushes.going → (IsAtRest U V old → P (at old talk_a talk_b)) → CarriedSo U V P happening old new talk_a talk_b
happens_so U V P (Misses word) old new talk_a talk_b frames_a frames_b idles (rest, nothing, same) both kept holds =
    rw same (record {
      now = record {
        kept = kept;
        doings = Passing word ∷ [];
        links_a = refl;
        links_b = refl;
        talk_a' = talk_a;
        talk_b' = talk_b;
        carries = (at old talk_a talk_b, (rests_alike U V old talk_a talk_b rest kept, nothing, refl), refl);
        words_are = refl;
      };
      of_script = (tt, tt);
      so = (at old talk_a talk_b, ((rests_alike U V old talk_a talk_b rest kept, nothing, refl), tt), refl);
    })
happens_so U V P (Turns ordinal word) old new talk_a talk_b frames_a frames_b idles (rest, is_word, ordinal_is, mid, acts, same) both kept holds =
    let acted = worded U V word old mid talk_a talk_b idles rest is_word acts both kept in
    rw same (record {
      now = record {
        kept = acted.kept;
        doings = Deeds word ∷ [];
        links_a = acted.links_a;
        links_b = acted.links_b;
        talk_a' = acted.talk_a';
        talk_b' = acted.talk_b';
        carries = (at mid acted.talk_a' acted.talk_b', (rests_alike U V old talk_a talk_b rest kept, acted.acts), refl);
        words_are = refl;
      };
      of_script = (is_word, tt);
      so = (at mid acted.talk_a' acted.talk_b', ((rests_alike U V old talk_a talk_b rest kept, acted.acts), holds rest), refl);
    })
happens_so U V P (Tries side effort) old new talk_a talk_b frames_a frames_b idles does both kept holds = wordless_by U V P (Tries side effort) old new talk_a talk_b refl (happens U V (Tries side effort) old new talk_a talk_b frames_a frames_b idles does both kept)
happens_so U V P (Departure side order) old new talk_a talk_b frames_a frames_b idles does both kept holds = wordless_by U V P (Departure side order) old new talk_a talk_b refl (happens U V (Departure side order) old new talk_a talk_b frames_a frames_b idles does both kept)
happens_so U V P (GivingBack side) old new talk_a talk_b frames_a frames_b idles does both kept holds = wordless_by U V P (GivingBack side) old new talk_a talk_b refl (happens U V (GivingBack side) old new talk_a talk_b frames_a frames_b idles does both kept)
happens_so U V P (Piecemeal side handle piece) old new talk_a talk_b frames_a frames_b idles does both kept holds = wordless_by U V P (Piecemeal side handle piece) old new talk_a talk_b refl (happens U V (Piecemeal side handle piece) old new talk_a talk_b frames_a frames_b idles does both kept)
happens_so U V P (Answering side answer) old new talk_a talk_b frames_a frames_b idles does both kept holds = wordless_by U V P (Answering side answer) old new talk_a talk_b refl (happens U V (Answering side answer) old new talk_a talk_b frames_a frames_b idles does both kept)
happens_so U V P (Opens push name) old new talk_a talk_b frames_a frames_b idles does both kept holds = wordless_by U V P (Opens push name) old new talk_a talk_b refl (happens U V (Opens push name) old new talk_a talk_b frames_a frames_b idles does both kept)
happens_so U V P (Closes push outcome) old new talk_a talk_b frames_a frames_b idles does both kept holds = wordless_by U V P (Closes push outcome) old new talk_a talk_b refl (happens U V (Closes push outcome) old new talk_a talk_b frames_a frames_b idles does both kept)

pub record Played {S T G H : Type 0} (U : Upper S G) (V : Upper T H) (P : Carriage S T → Type 0) (old new : World S T) (talk_a talk_b : List Talk) (words : List Word) (past : List Entry) : Type 0 where
  pub kept : Kept U V new.radio new.a new.b new.pushes.going
  pub doings : List Doing
  pub talk_a' : List Talk
  pub talk_b' : List Talk
  pub carries : Carries U V doings (at old talk_a talk_b) (at new talk_a' talk_b')
  pub words_are : words_carried doings ≡ words
  pub of_script : AllByRecursion IsOfScript doings
  pub so : CarriesSo U V P doings (at old talk_a talk_b) (at new talk_a' talk_b')
  pub shows : Shows past new (linkage talk_a') (linkage talk_b')

-- wherever the run was at rest before
abbrev pub HoldsAtRests : {S T G H : Type 0} → Upper S G → Upper T H → (Carriage S T → Type 0) → List Happening → World S T → Type 0
HoldsAtRests {S} {T} U V P happenings old = (front : List Happening) (mid : World S T) (talk_a talk_b : List Talk) → IsFront front happenings → Runs U V front old mid → IsAtRest U V mid → P (at mid talk_a talk_b)

carries_then : {S T G H : Type 0} (U : Upper S G) (V : Upper T H) (one two : List Doing) (old mid new : Carriage S T) → Carries U V one old mid → Carries U V two mid new → Carries U V (one ++ two) old new
carries_then {S} {T} U V [] two old mid new same after = subst (λ (c : Carriage S T). Carries U V two c new) same after
carries_then U V (doing ∷ one) two old mid new carries after = (carries.0, carries.1, carries_then U V one two carries.0 mid new carries.2 after)

so_then : {S T G H : Type 0} (U : Upper S G) (V : Upper T H) (P : Carriage S T → Type 0) (one two : List Doing) (old mid new : Carriage S T) → CarriesSo U V P one old mid → CarriesSo U V P two mid new → CarriesSo U V P (one ++ two) old new
so_then {S} {T} U V P [] two old mid new same after = subst (λ (c : Carriage S T). CarriesSo U V P two c new) same after
so_then U V P (doing ∷ one) two old mid new carries after = (carries.0, carries.1, so_then U V P one two carries.0 mid new carries.2 after)

plays :
    {S T G H : Type 0} (U : Upper S G) (V : Upper T H) (P : Carriage S T → Type 0) (happenings : List Happening) (past : List Entry) (old new : World S T) (talk_a talk_b : List Talk) → SaysFrames U → SaysFrames V → Idles U → Runs U V happenings old new → Both U V (at old talk_a talk_b)
    → Kept U V old.radio old.a old.b old.pushes.going → Shows past old (linkage talk_a) (linkage talk_b) → HoldsAtRests U V P happenings old → Played U V P old new talk_a talk_b (all_words happenings) (past ++ all_entries happenings)
plays U V P [] past old new talk_a talk_b frames_a frames_b idles same both kept shows holds =
    rw same (record { kept = kept; doings = []; talk_a' = talk_a; talk_b' = talk_b; carries = refl; words_are = refl; of_script = tt; so = refl; shows = shows_none past old (linkage talk_a) (linkage talk_b) shows })
plays {S} {T} U V P (happening ∷ happenings) past old new talk_a talk_b frames_a frames_b idles (mid, does, runs) both kept shows holds =
    let so = happens_so U V P happening old mid talk_a talk_b frames_a frames_b idles does both kept (λ rest. holds [] old talk_a talk_b (happening ∷ happenings, refl) refl rest) in
    let now = so.now in
    let both_now = (follows U V now.doings (at old talk_a talk_b) nothing_more nothing_more (at mid now.talk_a' now.talk_b') now.carries both).both in
    let shown = shows_more U V happening past old mid (linkage talk_a) (linkage talk_b) does kept shows in
    let shown_now : Shows (past ++ entries_of happening) mid (linkage now.talk_a') (linkage now.talk_b') =
    subst (λ (l : Linkage). Shows (past ++ entries_of happening) mid l (linkage now.talk_b')) (sym now.links_a)
    (subst (λ (l : Linkage). Shows (past ++ entries_of happening) mid (by_a happening old (linkage talk_a)) l) (sym now.links_b) shown) in
    let later = plays U V P happenings (past ++ entries_of happening) mid new now.talk_a' now.talk_b' frames_a frames_b idles runs both_now now.kept shown_now
    (λ front later ta tb (rest, is) there. holds (happening ∷ front) later ta tb (rest, ap (λ (l : List Happening). happening ∷ l) is) (mid, does, there)) in
    record {
      kept = later.kept;
      doings = now.doings ++ later.doings;
      talk_a' = later.talk_a';
      talk_b' = later.talk_b';
      carries = carries_then U V now.doings later.doings (at old talk_a talk_b) (at mid now.talk_a' now.talk_b') (at new later.talk_a' later.talk_b') now.carries later.carries;
      words_are = flat_map-append words_at now.doings later.doings ∙ ap (λ (l : List Word). l ++ words_carried later.doings) now.words_are ∙ ap (λ (l : List Word). words_in happening ++ l) later.words_are;
      of_script = both_of now.doings later.doings so.of_script later.of_script;
      so = so_then U V P now.doings later.doings (at old talk_a talk_b) (at mid now.talk_a' now.talk_b') (at new later.talk_a' later.talk_b') so.so later.so;
      shows = subst (λ (p : List Entry). Shows p new (linkage later.talk_a') (linkage later.talk_b')) (append_assoc past (entries_of happening) (all_entries happenings)) later.shows;
    }

first_shows : {S T G H : Type 0} (U : Upper S G) (V : Upper T H) (size n : ℕ) (names : List (List ℕ)) → Shows [] (first_world U V size n names) no_linkage no_linkage
first_shows U V size n names = record {
  low = omega arith;
  a = record { asks = λ asked none. cc; past = refl; now = tt };
  b = record { asks = λ asked none. cc; past = refl; now = tt };
}

pub played_so :
    {S T G H : Type 0} (U : Upper S G) (V : Upper T H) (P : Carriage S T → Type 0) (size n : ℕ) (names : List (List ℕ)) (happenings : List Happening) (w : World S T) → Fits U V size → Runs U V happenings (first_world U V size n names) w
    → HoldsAtRests U V P happenings (first_world U V size n names) → Played U V P (first_world U V size n names) w [] [] (all_words happenings) (all_entries happenings)
played_so U V P size n names happenings w fits runs holds =
    plays U V P happenings [] (first_world U V size n names) w [] [] fits.frames_a fits.frames_b fits.idles runs (first_both U V size names) (first_kept U V size n fits.long fits.idles) (first_shows U V size n names) holds

played :
    {S T G H : Type 0} (U : Upper S G) (V : Upper T H) (size n : ℕ) (names : List (List ℕ)) (happenings : List Happening) (w : World S T) → Fits U V size → Runs U V happenings (first_world U V size n names) w
    → Played U V (λ c. Unit {0}) (first_world U V size n names) w [] [] (all_words happenings) (all_entries happenings)
played U V size n names happenings w fits runs = played_so U V (λ c. Unit {0}) size n names happenings w fits runs (λ front mid talk_a talk_b is there rest. tt)

-- ---- so the links are those of the capture

shown_now : (up : Bool) (told : ℕ) (begun joining : List ℕ) (now : Option (List Pdu)) (known : Option Link) → ShownUp up told begun joining now known → option_map pdus known ≡ now
shown_now true told begun joining (Some now) (Some link) shown = ap (λ (p : List Pdu). Some p) shown.pdus_are
shown_now true told begun joining (Some now) None shown = absurd shown
shown_now true told begun joining None known shown = absurd shown
shown_now false told begun joining None None shown = refl
shown_now false told begun joining None (Some link) shown = absurd shown
shown_now false told begun joining (Some now) known shown = absurd shown

links_are : (side : Side) (v : View) (past : List Entry) (l : Linkage) → ShownAt v (linking (moves side past)) l → l ≡ captured side past
links_are side v past l shown =
    let now = shown_now v.up v.told v.begun v.joining l.up (linking (moves side past)).up shown.now in
    λ i. record { past = sym shown.past i; up = sym now i }

pub world_is_turned : {S T G H : Type 0} (U : Upper S G) (V : Upper T H) → WorldIsTurned U V
world_is_turned U V size n names happenings w fits runs rest =
    let all = played U V size n names happenings w fits runs in
    let (p, passes, mirrors) = carried_is_turned U V size names all.doings (at w all.talk_a' all.talk_b') all.carries (rests_alike U V w all.talk_a' all.talk_b' rest all.kept) in
    record {
      steps = all_steps all.doings;
      pair = p;
      passes = passes;
      words = same_words all.doings ∙ all.words_are;
      reflects = record {
        size_is = mirrors.size_is;
        link_is = mirrors.link_is;
        served_is = mirrors.served_is;
        pushes_are = mirrors.pushes_are;
        upper_a = mirrors.upper_a;
        upper_b = mirrors.upper_b;
        queue_a = mirrors.queue_a;
        queue_b = mirrors.queue_b;
        whole_a = mirrors.whole_a;
        whole_b = mirrors.whole_b;
      };
      links_a = ap linkage mirrors.talk_a ∙ links_are A _ (all_entries happenings) (linkage all.talk_a') all.shows.a;
      links_b = ap linkage mirrors.talk_b ∙ links_are B _ (all_entries happenings) (linkage all.talk_b') all.shows.b;
    }

pub broken_world_goes_on : {S T G H : Type 0} (U : Upper S G) (V : Upper T H) → BrokenWorldGoesOn U V
broken_world_goes_on U V size n names happenings w fits runs =
    let all = played U V size n names happenings w fits runs in
    record {
      steps = all_steps all.doings;
      words = same_words all.doings ∙ all.words_are;
      talk_a = all.talk_a';
      talk_b = all.talk_b';
      goes_on = broken_goes_on U V size names all.doings (at w all.talk_a' all.talk_b') all.carries;
      links_a = links_are A _ (all_entries happenings) (linkage all.talk_a') all.shows.a;
      links_b = links_are B _ (all_entries happenings) (linkage all.talk_b') all.shows.b;
    }
