-- The capture of each run keeps to the words that were turned.
use Rattle.std.proofs.Common.{◌≡◌, ◌⊎◌, ℕ, suc, ◌+◌, ◌-◌, ◌≤◌, Bool, true, false, List, [], ◌∷◌, ◌++◌, length, take, drop, Option, Some, None, refl, sym, ap, ◌∙◌, inl, inr, subst, arith, length-append}
use Rattle.std.specs.Prelude.{is_some, slice_get}
use Rattle.std.specs.List.{AllByRecursion}
use Rattle.std.proofs.lemmas.List.{append-nil, append_assoc}
use Rattle.turn_laws.specs.push_terms.specs.declared.word.Side.{Side}
use Rattle.turn_laws.specs.push_terms.specs.declared.word.Side.TheVariants.{A, B}
use Rattle.turn_laws.specs.push_terms.specs.declared.word.Word.{Word}
use Rattle.turn_laws.specs.capture.specs.declared.flow.Flow.TheVariants.{Out, Into}
use Rattle.turn_laws.specs.capture.specs.Entries.{Entry, Moved, Acted, Begun, Ended}
use Rattle.turn_laws.specs.capture.specs.Histories.{EachAfter}
use Rattle.turn_laws.specs.capture.specs.Links.{Link, link_up}
use Rattle.turn_laws.specs.capture.specs.Air.{Air, no_air, after_out, after_event, without_first_due, ordinal_of, last_or, words_done, IsSettled}
use Rattle.turn_laws.specs.capture.proofs.HistoryLaws.{led_by-append, each_after-more}
use Rattle.turn_laws.specs.capture.proofs.FurtherLaws.{words-more}
use Rattle.turn_laws.specs.radio_model.specs.declared.deed.Deed.{Deed}
use Rattle.turn_laws.specs.radio_model.specs.declared.deed.Deed.TheVariants.{Cancels}
use Rattle.turn_laws.specs.radio_model.specs.Air.{Hosts, after_entry, air_after, after_deed, acted, FindsNothing, KeepsTo}
use Rattle.turn_laws.specs.radio_model.specs.Controllers.{Answer, Controller, answer_packet, piece_packet, after_telling}
use Rattle.turn_laws.specs.radio_model.specs.Radio.{Radio, Phase, Apart, Paging, Requested, Together, is_together, is_requested, controller, with_controller}
use Rattle.turn_laws.specs.radio_model.specs.Radio as radio_rules
use Rattle.turn_laws.specs.world_model.specs.Machines.{Upper}
use Rattle.turn_laws.specs.world_model.specs.Stations.{Order, order_packet}
use Rattle.turn_laws.specs.world_model.specs.Worlds.{World, Happening, Tries, Departure, GivingBack, Piecemeal, Answering, Turns, Misses, Opens, Closes, IsAtRest, Does, Runs, first_world}
use Rattle.turn_laws.specs.Premises.{Idles}
use Rattle.turn_laws.specs.WorldLaws.{Fits, handle_of}
use Rattle.turn_laws.proofs.Leading.{led_low}
use Rattle.turn_laws.proofs.Wiring.{AllFrames, Within}
use Rattle.turn_laws.proofs.Hearing.{with_owed, listening}
use Rattle.turn_laws.proofs.Coming.{handed_piece, handed_answer}
use Rattle.turn_laws.proofs.Keeping.{calling}
use Rattle.air_laws.specs.AirLaws.{Agrees, TellsHosts, AirIsKept}
use Rattle.air_laws.proofs.Knowing.{IsNextLink, Known}
use Rattle.air_laws.proofs.Tying.{Tie, first_tie, tie_same}
use Rattle.air_laws.proofs.Sending.{back_same, tie_departs}
use Rattle.air_laws.proofs.Arriving.{tie_piece, piece_keeps, behind_none, tie_answer, tie_event}
use Rattle.air_laws.proofs.Following.{Reached, known_a, known_b, next_link, Keeps, Arrived, reached_first, along}
use Rattle.air_laws.proofs.Turning.{Settled, settled_air, found_alike, DoesAir, acts_alike, acts_turned, nothing_alike, finds_none}
use Rattle.air_laws.proofs.Resting.{rest_led, rest_stops, back_rests}

-- the air of a capture, the words that did something, and those behind them that found nothing
pub record Obeying {S T G H : Type 0} (U : Upper S G) (V : Upper T H) (hosts : Hosts) (size : ℕ) (past : List Entry) (words : List Word) (w : World S T) : Type 0 where
  pub tie : Tie size w.radio (air_after hosts size past)
  pub each : (later : List Word) → EachAfter (KeepsTo hosts size (words ++ later)) [] past
  pub turned_is : w.turned ≡ length words
  pub did : List Word
  pub missed : List Word
  pub parts : words ≡ did ++ missed
  pub done_is : words_done past ≡ length did
  pub nothing : AllByRecursion (FindsNothing hosts size past (air_after hosts size past)) missed
  pub resting : (missed ≡ []) ⊎ IsAtRest U V w

pub air_then : (hosts : Hosts) (size : ℕ) (past : List Entry) (entry : Entry) → air_after hosts size (past ++ entry ∷ []) ≡ after_entry hosts size past (air_after hosts size past) entry
air_then hosts size past entry = led_by-append (after_entry hosts size) [] no_air past (entry ∷ [])

tie_then : (hosts : Hosts) (size : ℕ) (past : List Entry) (entry : Entry) (radio : Radio) → Tie size radio (after_entry hosts size past (air_after hosts size past) entry) → Tie size radio (air_after hosts size (past ++ entry ∷ []))
tie_then hosts size past entry radio tie = subst (λ (x : Air). Tie size radio x) (sym (air_then hosts size past entry)) tie

-- ---- what is no word

obeying_none : {S T G H : Type 0} (U : Upper S G) (V : Upper T H) (hosts : Hosts) (size : ℕ) (past : List Entry) (words : List Word) (old new : World S T) → Tie size new.radio (air_after hosts size past) → new.turned ≡ old.turned → (IsAtRest U V old → IsAtRest U V new)
    → Obeying U V hosts size past words old → Obeying U V hosts size (past ++ []) (words ++ []) new
obeying_none U V hosts size past words old new tie turned rests obeying =
    subst (λ (p : List Entry). Obeying U V hosts size p (words ++ []) new) (sym (append-nil past))
    (subst (λ (l : List Word). Obeying U V hosts size past l new) (sym (append-nil words)) (record {
      tie = tie;
      each = obeying.each;
      turned_is = turned ∙ obeying.turned_is;
      did = obeying.did;
      missed = obeying.missed;
      parts = obeying.parts;
      done_is = obeying.done_is;
      nothing = obeying.nothing;
      resting = elim obeying.resting [ inl none ↦ inl none | inr rest ↦ inr (rests rest) ];
    }))

none_missed : {S T G H : Type 0} (U : Upper S G) (V : Upper T H) (missed : List Word) (w : World S T) → (IsAtRest U V w → ⊥) → (missed ≡ []) ⊎ IsAtRest U V w → missed ≡ []
none_missed U V missed w never either = elim either [ inl none ↦ none | inr rest ↦ absurd (never rest) ]

all_none : (P : Word → Type 0) (missed : List Word) → missed ≡ [] → AllByRecursion P missed
all_none P [] none = tt
all_none P (word ∷ missed) none = absurd cc

-- an entry that is no word, in a world that is not at rest
obeying_entry : {S T G H : Type 0} (U : Upper S G) (V : Upper T H) (hosts : Hosts) (size : ℕ) (past : List Entry) (words : List Word) (entry : Entry) (old new : World S T) → ordinal_of entry ≡ [] → ((script : List Word) → KeepsTo hosts size script past entry)
    → Tie size new.radio (after_entry hosts size past (air_after hosts size past) entry) → new.turned ≡ old.turned → (IsAtRest U V old → ⊥) → Obeying U V hosts size past words old → Obeying U V hosts size (past ++ entry ∷ []) (words ++ []) new
obeying_entry U V hosts size past words entry old new plain keeps tie turned never obeying =
    let none = none_missed U V obeying.missed old never obeying.resting in
    subst (λ (l : List Word). Obeying U V hosts size (past ++ entry ∷ []) l new) (sym (append-nil words)) (record {
      tie = tie_then hosts size past entry new.radio tie;
      each = λ later. each_after-more (KeepsTo hosts size (words ++ later)) past entry (obeying.each later) (keeps (words ++ later));
      turned_is = turned ∙ obeying.turned_is;
      did = obeying.did;
      missed = obeying.missed;
      parts = obeying.parts;
      done_is = words-more past entry ∙ ap (λ (l : List ℕ). last_or (words_done past) l) plain ∙ obeying.done_is;
      nothing = all_none (FindsNothing hosts size (past ++ entry ∷ []) (air_after hosts size (past ++ entry ∷ []))) obeying.missed none;
      resting = inl none;
    })

-- ---- words

-- what is true where a word acts
pub record AtWord {S T G H : Type 0} (U : Upper S G) (V : Upper T H) (hosts : Hosts) (size : ℕ) (past : List Entry) (w : World S T) : Type 0 where
  pub settled : Settled w.radio (air_after hosts size past)
  pub is_settled : IsSettled past (air_after hosts size past)
  pub agrees : Agrees U V hosts past w

up_is : (side : Side) (past : List Entry) (one : Controller) (up : Bool) → one.up ≡ up → Known side past one → is_some (link_up side past) ≡ up
up_is side past one true is known = ap (λ (k : Option Link). is_some k) (known.on is).is
up_is side past one false is known = ap (λ (k : Option Link). is_some k) (known.off is)

pub at_word : {S T G H : Type 0} (U : Upper S G) (V : Upper T H) (hosts : Hosts) (size : ℕ) (happenings : List Happening) (first : World S T) (ahead : List Happening) (past : List Entry) (words : List Word) (w : World S T)
    → TellsHosts U V hosts happenings first → Reached U V happenings first ahead past words w → IsAtRest U V w → Tie size w.radio (air_after hosts size past) → AtWord U V hosts size past w
at_word U V hosts size happenings first ahead past words w tells reached rest tie =
    let kept = reached.kept in
    let a = rest_led w.radio.a w.radio.number (is_together w.radio.phase) rest.still_a.none_owed kept.one.led in
    let b = rest_led w.radio.b w.radio.number (is_together w.radio.phase) rest.still_b.none_owed kept.other.led in
    let settled = settled_air size w.radio.a.told w.radio (air_after hosts size past) a.0 tie.a.low tie in
    record {
      settled = settled;
      is_settled = record {
        a = tie.a.due_is ∙ rest.still_a.none_comes;
        b = tie.b.due_is ∙ rest.still_b.none_comes;
        knows_a = up_is A past w.radio.a (is_together w.radio.phase) a.1 (known_a U V happenings first ahead past words w reached) ∙ sym settled.unbroken;
        knows_b = up_is B past w.radio.b (is_together w.radio.phase) b.1 (known_b U V happenings first ahead past words w reached) ∙ sym settled.unbroken;
      };
      agrees = subst (λ (p : List Entry). Agrees U V hosts p w) reached.past_is (tells.at_rest reached.done w (ahead, reached.front) reached.runs rest);
    }

-- those that were turned since the last one that did something
front_is : (front later : List Word) (n : ℕ) → n ≡ length front → take n (front ++ later) ≡ front
front_is [] later n is = ap (λ (m : ℕ). take m later) is
front_is (word ∷ front) later n is = let one : n ≡ suc (length front) = is in ap (λ (m : ℕ). take m ((word ∷ front) ++ later)) one ∙ ap (λ (l : List Word). word ∷ l) (front_is front later (length front) refl)

behind_did : (did missed later : List Word) → take (length (did ++ missed) - length did) (drop (length did) ((did ++ missed) ++ later)) ≡ missed
behind_did [] missed later = front_is missed later (length missed - 0) (omega arith)
behind_did (word ∷ did) missed later =
    let same : length ((word ∷ did) ++ missed) - length (word ∷ did) ≡ length (did ++ missed) - length did = omega arith in
    ap (λ (n : ℕ). take n (drop (length did) ((did ++ missed) ++ later))) same ∙ behind_did did missed later

pub all_behind : (did missed : List Word) → drop (length did) (did ++ missed) ≡ missed
all_behind [] missed = refl
all_behind (word ∷ did) missed = all_behind did missed

at_place : (words : List Word) (word : Word) (later : List Word) → slice_get (words ++ (word ∷ later)) (length words) ≡ Some word
at_place [] word later = refl
at_place (one ∷ words) word later = at_place words word later

stands_at : (words : List Word) (word : Word) (later : List Word) (ordinal : ℕ) → ordinal ≡ length words + 1 → slice_get (words ++ (word ∷ later)) (ordinal - 1) ≡ Some word
stands_at words word later ordinal is = let same : ordinal - 1 ≡ length words = omega arith in ap (λ (n : ℕ). slice_get (words ++ (word ∷ later)) n) same ∙ at_place words word later

-- the words between the last that did something and this one
between_is : (hosts : Hosts) (size : ℕ) (past : List Entry) (words did missed later : List Word) (done ordinal : ℕ) → words ≡ did ++ missed → done ≡ length did → ordinal ≡ length words + 1 → AllByRecursion (FindsNothing hosts size past (air_after hosts size past)) missed
    → AllByRecursion (FindsNothing hosts size past (air_after hosts size past)) (take (ordinal - 1 - done) (drop done (words ++ later)))
between_is hosts size past words did missed later done ordinal parts done_is is nothing =
    let long : length words ≡ length (did ++ missed) = ap (λ (l : List Word). length l) parts in
    let first : ordinal - 1 - done ≡ length (did ++ missed) - length did = omega arith in
    let same : take (ordinal - 1 - done) (drop done (words ++ later)) ≡ missed =
    ap (λ (n : ℕ). take n (drop done (words ++ later))) first
    ∙ ap (λ (n : ℕ). take (length (did ++ missed) - length did) (drop n (words ++ later))) done_is
    ∙ ap (λ (l : List Word). take (length (did ++ missed) - length did) (drop (length did) (l ++ later))) parts
    ∙ behind_did did missed later in
    subst (λ (l : List Word). AllByRecursion (FindsNothing hosts size past (air_after hosts size past)) l) (sym same) nothing

obeying_turn : {S T G H : Type 0} (U : Upper S G) (V : Upper T H) (hosts : Hosts) (size : ℕ) (past : List Entry) (words : List Word) (ordinal : ℕ) (word : Word) (old new : World S T) → AllFrames old.radio.a.waiting → AllFrames old.radio.b.waiting
    → AtWord U V hosts size past old → Does U V (Turns ordinal word) old new → Obeying U V hosts size past words old → Obeying U V hosts size (past ++ Acted ordinal word ∷ []) (words ++ word ∷ []) new
obeying_turn {S} {T} U V hosts size past words ordinal word old new frames_a frames_b here (rest, is_word, ordinal_is, mid, acts, same) obeying =
    let air = air_after hosts size past in
    let alike = found_alike size word old.radio air here.settled obeying.tie in
    let does : DoesAir size mid.radio air (acted hosts size past air word) =
    subst (λ (d : Deed). DoesAir size mid.radio air (after_deed hosts size past air d)) (sym alike) (acts_alike U V hosts size past (radio_rules.found word old.radio) old mid air frames_a frames_b here.agrees here.settled obeying.tie acts) in
    let turned = obeying.turned_is in
    let still = acts_turned U V (radio_rules.found word old.radio) old mid acts in
    let place : ordinal ≡ length words + 1 = omega arith in
    let done = obeying.done_is in
    let long : length words ≡ length (obeying.did ++ obeying.missed) = ap (λ (l : List Word). length l) obeying.parts in
    let all = length-append obeying.did obeying.missed in
    let more = length-append words (word ∷ []) in
    rw same (record {
      tie = tie_then hosts size past (Acted ordinal word) mid.radio does.tie;
      each = λ later.
          let script : (words ++ word ∷ []) ++ later ≡ words ++ (word ∷ later) = append_assoc words (word ∷ []) later in
          subst (λ (l : List Word). EachAfter (KeepsTo hosts size l) [] (past ++ Acted ordinal word ∷ [])) (sym script)
          (each_after-more (KeepsTo hosts size (words ++ (word ∷ later))) past (Acted ordinal word) (obeying.each (word ∷ later)) (record {
            rises = omega arith;
            stands = stands_at words word later ordinal place;
            between = between_is hosts size past words obeying.did obeying.missed (word ∷ later) (words_done past) ordinal obeying.parts obeying.done_is place obeying.nothing;
            finds = does.finds;
            settled = here.is_settled;
          }));
      turned_is = omega arith;
      did = words ++ word ∷ [];
      missed = [];
      parts = sym (append-nil (words ++ word ∷ []));
      done_is = words-more past (Acted ordinal word) ∙ omega arith;
      nothing = tt;
      resting = inl refl;
    })

all_more : (P : Word → Type 0) (words : List Word) (word : Word) → AllByRecursion P words → P word → AllByRecursion P (words ++ word ∷ [])
all_more P [] word all now = (now, tt)
all_more P (one ∷ words) word (is, all) now = (is, all_more P words word all now)

obeying_miss : {S T G H : Type 0} (U : Upper S G) (V : Upper T H) (hosts : Hosts) (size : ℕ) (past : List Entry) (words : List Word) (word : Word) (old new : World S T) → AtWord U V hosts size past old → Does U V (Misses word) old new → Obeying U V hosts size past words old
    → Obeying U V hosts size (past ++ []) (words ++ word ∷ []) new
obeying_miss {S} {T} U V hosts size past words word old new here (rest, nothing, same) obeying =
    let air = air_after hosts size past in
    let alike = found_alike size word old.radio air here.settled obeying.tie in
    let either = nothing_alike U V hosts size past (radio_rules.found word old.radio) old air here.agrees nothing in
    let finds = finds_none hosts size past air word (subst (λ (d : Deed). (d ≡ Cancels) ⊎ (after_deed hosts size past air d ≡ None)) (sym alike) either) in
    let turned = obeying.turned_is in
    let more = length-append words (word ∷ []) in
    subst (λ (p : List Entry). Obeying U V hosts size p (words ++ word ∷ []) new) (sym (append-nil past)) (rw same (record {
      tie = obeying.tie;
      each = λ later. subst (λ (l : List Word). EachAfter (KeepsTo hosts size l) [] past) (sym (append_assoc words (word ∷ []) later)) (obeying.each (word ∷ later));
      turned_is = omega arith;
      did = obeying.did;
      missed = obeying.missed ++ word ∷ [];
      parts = ap (λ (l : List Word). l ++ word ∷ []) obeying.parts ∙ append_assoc obeying.did obeying.missed (word ∷ []);
      done_is = obeying.done_is;
      nothing = all_more (FindsNothing hosts size past air) obeying.missed word obeying.nothing finds;
      resting = inr (record { still_a = rest.still_a; still_b = rest.still_b; paged = rest.paged; calm = rest.calm });
    }))

-- ---- whatever happens

requested_calls : (phase : Phase) → is_requested phase ≡ true → calling phase ≡ 1
requested_calls Apart is = absurd cc
requested_calls Paging is = absurd cc
requested_calls Requested is = refl
requested_calls Together is = absurd cc

-- handles fit
order_fits : (told number : ℕ) (order : Order) (rest out : List Order) → out ≡ order ∷ rest → Within told out → told ≤ number → number ≤ 0x0EFF → handle_of order ≤ 0x0EFF
order_fits told number order rest out first within low most =
    let now : Within told (order ∷ rest) = subst (λ (l : List Order). Within told l) first within in
    let below = now.0 in
    omega arith

tie_at : {S T : Type 0} (size : ℕ) (new to : World S T) (air : Air) → new ≡ to → Tie size to.radio air → Tie size new.radio air
tie_at {S} {T} size new to air same tie = subst (λ (w : World S T). Tie size w.radio air) (sym same) tie

turned_at : {S T : Type 0} (new to : World S T) → new ≡ to → new.turned ≡ to.turned
turned_at {S} {T} new to same = ap (λ (w : World S T). w.turned) same

fits_low : (radio : Radio) → radio.number + calling radio.phase ≤ 0x0EFF → radio.number ≤ 0x0EFF
fits_low radio low = omega arith

radio_at : {S T : Type 0} (new to : World S T) → new ≡ to → new.radio ≡ to.radio
radio_at {S} {T} new to same = ap (λ (w : World S T). w.radio) same

-- an answer comes into a host
tie_told : (side : Side) (size : ℕ) (answer : Answer) (rest : List Answer) (past : List Entry) (old new : Radio) (air : Air) → new ≡ with_controller side (after_telling answer (with_owed rest (controller side old))) old → IsNextLink answer (controller side old)
    → (controller side new).told ≤ new.number → Known side (past ++ Moved side Into (answer_packet side answer) ∷ []) (controller side new) → Tie size old air → Tie size new (after_event past air side (answer_packet side answer))
tie_told A size answer rest past old new air same next low known tie =
    let one : Controller = after_telling answer (with_owed rest old.a) in
    let told : new.a.told ≡ one.told = ap (λ (r : Radio). r.a.told) same in
    let number : new.number ≡ old.number = ap (λ (r : Radio). r.number) same in
    subst (λ (r : Radio). Tie size r (after_event past air A (answer_packet A answer))) (sym same)
    (tie_event A size one.told past (answer_packet A answer) (record old { a = one }) air (known.count ∙ told) (tie_answer A size answer rest old air next (omega arith) tie))
tie_told B size answer rest past old new air same next low known tie =
    let one : Controller = after_telling answer (with_owed rest old.b) in
    let told : new.b.told ≡ one.told = ap (λ (r : Radio). r.b.told) same in
    let number : new.number ≡ old.number = ap (λ (r : Radio). r.number) same in
    subst (λ (r : Radio). Tie size r (after_event past air B (answer_packet B answer))) (sym same)
    (tie_event B size one.told past (answer_packet B answer) (record old { b = one }) air (known.count ∙ told) (tie_answer B size answer rest old air next (omega arith) tie))

obeys : {S T G H : Type 0} (U : Upper S G) (V : Upper T H) (hosts : Hosts) (size : ℕ) (happenings : List Happening) (first : World S T) → Idles U → TellsHosts U V hosts happenings first → Keeps U V happenings first (λ past words w. Obeying U V hosts size past words w)
obeys U V hosts size happenings first idles tells (Tries A effort) ahead past words old new reached (station, makes, same) next obeying =
    obeying_none U V hosts size past words old new (tie_at size new _ (air_after hosts size past) same obeying.tie) (turned_at new _ same) (λ rest. absurd (rest_stops U V (Tries A effort) old new idles tt rest reached.kept (station, makes, same))) obeying
obeys U V hosts size happenings first idles tells (Tries B effort) ahead past words old new reached (station, makes, same) next obeying =
    obeying_none U V hosts size past words old new (tie_at size new _ (air_after hosts size past) same obeying.tie) (turned_at new _ same) (λ rest. absurd (rest_stops U V (Tries B effort) old new idles tt rest reached.kept (station, makes, same))) obeying
obeys U V hosts size happenings first idles tells (Departure A order) ahead past words old new reached (rest, first_is, same) next obeying =
    let low = order_fits old.radio.a.told old.radio.number order rest old.a.out first_is reached.kept.one.ends.within_out (led_low old.radio.a.told old.radio.a.up _ old.radio.number _ reached.kept.one.led) (fits_low old.radio reached.shows.low) in
    obeying_entry U V hosts size past words (Moved A Out (order_packet A order)) old new refl (λ script. tt)
    (tie_at size new _ (after_out past (air_after hosts size past) A (order_packet A order)) same
    (tie_departs A order size past old.radio (air_after hosts size past) low (known_a U V happenings first (Departure A order ∷ ahead) past words old reached) (λ is. reached.kept.parts (requested_calls old.radio.phase is)) obeying.tie))
    (turned_at new _ same) (λ rested. rest_stops U V (Departure A order) old new idles tt rested reached.kept (rest, first_is, same)) obeying
obeys U V hosts size happenings first idles tells (Departure B order) ahead past words old new reached (rest, first_is, same) next obeying =
    let low = order_fits old.radio.b.told old.radio.number order rest old.b.out first_is reached.kept.other.ends.within_out (led_low old.radio.b.told old.radio.b.up _ old.radio.number _ reached.kept.other.led) (fits_low old.radio reached.shows.low) in
    obeying_entry U V hosts size past words (Moved B Out (order_packet B order)) old new refl (λ script. tt)
    (tie_at size new _ (after_out past (air_after hosts size past) B (order_packet B order)) same
    (tie_departs B order size past old.radio (air_after hosts size past) low (known_b U V happenings first (Departure B order ∷ ahead) past words old reached) (λ is. reached.kept.parts (requested_calls old.radio.phase is)) obeying.tie))
    (turned_at new _ same) (λ rested. rest_stops U V (Departure B order) old new idles tt rested reached.kept (rest, first_is, same)) obeying
obeys U V hosts size happenings first idles tells (GivingBack A) ahead past words old new reached same next obeying =
    obeying_none U V hosts size past words old new (tie_at size new _ (air_after hosts size past) same (tie_same size old.radio _ (air_after hosts size past) (back_same A old.radio) obeying.tie)) (turned_at new _ same) (λ rest. back_rests U V A old new rest same) obeying
obeys U V hosts size happenings first idles tells (GivingBack B) ahead past words old new reached same next obeying =
    obeying_none U V hosts size past words old new (tie_at size new _ (air_after hosts size past) same (tie_same size old.radio _ (air_after hosts size past) (back_same B old.radio) obeying.tie)) (turned_at new _ same) (λ rest. back_rests U V B old new rest same) obeying
obeys U V hosts size happenings first idles tells (Piecemeal A handle piece) ahead past words old new reached (rest, first_is, here, g, same) next obeying =
    let listens = listening U old.radio.a.up old.radio.a.told old.radio.number old.a.upper old.a.pieces old.radio.a.coming piece rest first_is reached.kept.one.incoming.listens in
    obeying_entry U V hosts size past words (Moved A Into (piece_packet handle piece)) old new refl
    (λ script. piece_keeps A size handle piece rest past old.radio (air_after hosts size past) first_is listens.on (here ∙ sym listens.here) (known_a U V happenings first (Piecemeal A handle piece ∷ ahead) past words old reached) obeying.tie)
    (subst (λ (r : Radio). Tie size r (without_first_due A (air_after hosts size past))) (sym (radio_at new _ same ∙ ap (λ (c : Controller). record old.radio { a = c }) (handed_piece old.radio.a piece rest first_is)))
    (tie_piece A size piece rest old.radio (air_after hosts size past) first_is obeying.tie))
    (turned_at new _ same) (λ rested. rest_stops U V (Piecemeal A handle piece) old new idles tt rested reached.kept (rest, first_is, here, g, same)) obeying
obeys U V hosts size happenings first idles tells (Piecemeal B handle piece) ahead past words old new reached (rest, first_is, here, h, same) next obeying =
    let listens = listening V old.radio.b.up old.radio.b.told old.radio.number old.b.upper old.b.pieces old.radio.b.coming piece rest first_is reached.kept.other.incoming.listens in
    obeying_entry U V hosts size past words (Moved B Into (piece_packet handle piece)) old new refl
    (λ script. piece_keeps B size handle piece rest past old.radio (air_after hosts size past) first_is listens.on (here ∙ sym listens.here) (known_b U V happenings first (Piecemeal B handle piece ∷ ahead) past words old reached) obeying.tie)
    (subst (λ (r : Radio). Tie size r (without_first_due B (air_after hosts size past))) (sym (radio_at new _ same ∙ ap (λ (c : Controller). record old.radio { b = c }) (handed_piece old.radio.b piece rest first_is)))
    (tie_piece B size piece rest old.radio (air_after hosts size past) first_is obeying.tie))
    (turned_at new _ same) (λ rested. rest_stops U V (Piecemeal B handle piece) old new idles tt rested reached.kept (rest, first_is, here, h, same)) obeying
obeys U V hosts size happenings first idles tells (Answering A answer) ahead past words old new reached (rest, none, first_is, g, same) next obeying =
    obeying_entry U V hosts size past words (Moved A Into (answer_packet A answer)) old new refl
    (λ script. behind_none _ (air_after hosts size past).due_a (obeying.tie.a.due_is ∙ none))
    (tie_told A size answer rest past old.radio new.radio (air_after hosts size past) (radio_at new _ same ∙ ap (λ (c : Controller). record old.radio { a = c }) (handed_answer old.radio.a answer rest none first_is))
    (next_link answer rest old.radio.a old.radio.number (is_together old.radio.phase) first_is reached.kept.one.led) (led_low new.radio.a.told new.radio.a.up _ new.radio.number _ next.kept.one.led)
    (known_a U V happenings first ahead (past ++ Moved A Into (answer_packet A answer) ∷ []) (words ++ []) new next) obeying.tie)
    (turned_at new _ same) (λ rested. rest_stops U V (Answering A answer) old new idles tt rested reached.kept (rest, none, first_is, g, same)) obeying
obeys U V hosts size happenings first idles tells (Answering B answer) ahead past words old new reached (rest, none, first_is, h, same) next obeying =
    obeying_entry U V hosts size past words (Moved B Into (answer_packet B answer)) old new refl
    (λ script. behind_none _ (air_after hosts size past).due_b (obeying.tie.b.due_is ∙ none))
    (tie_told B size answer rest past old.radio new.radio (air_after hosts size past) (radio_at new _ same ∙ ap (λ (c : Controller). record old.radio { b = c }) (handed_answer old.radio.b answer rest none first_is))
    (next_link answer rest old.radio.b old.radio.number (is_together old.radio.phase) first_is reached.kept.other.led) (led_low new.radio.b.told new.radio.b.up _ new.radio.number _ next.kept.other.led)
    (known_b U V happenings first ahead (past ++ Moved B Into (answer_packet B answer) ∷ []) (words ++ []) new next) obeying.tie)
    (turned_at new _ same) (λ rested. rest_stops U V (Answering B answer) old new idles tt rested reached.kept (rest, none, first_is, h, same)) obeying
obeys U V hosts size happenings first idles tells (Turns ordinal word) ahead past words old new reached does next obeying =
    obeying_turn U V hosts size past words ordinal word old new reached.kept.one.wired.air reached.kept.other.wired.air (at_word U V hosts size happenings first (Turns ordinal word ∷ ahead) past words old tells reached does.0 obeying.tie) does obeying
obeys U V hosts size happenings first idles tells (Misses word) ahead past words old new reached does next obeying =
    obeying_miss U V hosts size past words word old new (at_word U V hosts size happenings first (Misses word ∷ ahead) past words old tells reached does.0 obeying.tie) does obeying
obeys U V hosts size happenings first idles tells (Opens push name) ahead past words old new reached (idle, next_is, push_is, g, same) next obeying =
    obeying_entry U V hosts size past words (Begun push) old new refl (λ script. tt) (tie_at size new _ (air_after hosts size past) same obeying.tie) (turned_at new _ same)
    (λ rested. rest_stops U V (Opens push name) old new idles tt rested reached.kept (idle, next_is, push_is, g, same)) obeying
obeys U V hosts size happenings first idles tells (Closes push outcome) ahead past words old new reached (going, push_is, idle, is, apart, none_a, none_b, quiet_a, quiet_b, same) next obeying =
    obeying_entry U V hosts size past words (Ended push outcome) old new refl (λ script. tt) (tie_at size new _ (air_after hosts size past) same obeying.tie) (turned_at new _ same)
    (λ rested. rest_stops U V (Closes push outcome) old new idles tt rested reached.kept (going, push_is, idle, is, apart, none_a, none_b, quiet_a, quiet_b, same)) obeying

-- ---- from the first moment on

first_obeying : {S T G H : Type 0} (U : Upper S G) (V : Upper T H) (hosts : Hosts) (size count : ℕ) (names : List (List ℕ)) → Obeying U V hosts size [] [] (first_world U V size count names)
first_obeying U V hosts size count names = record {
  tie = first_tie size count;
  each = λ later. tt;
  turned_is = refl;
  did = [];
  missed = [];
  parts = refl;
  done_is = refl;
  nothing = tt;
  resting = inl refl;
}

pub obeyed : {S T G H : Type 0} (U : Upper S G) (V : Upper T H) (hosts : Hosts) (size count : ℕ) (names : List (List ℕ)) (happenings : List Happening) (w : World S T) → Fits U V size → Runs U V happenings (first_world U V size count names) w
    → TellsHosts U V hosts happenings (first_world U V size count names) → Arrived U V happenings (first_world U V size count names) (λ past words w. Obeying U V hosts size past words w) w
obeyed U V hosts size count names happenings w fits runs tells =
    let first = first_world U V size count names in
    along U V happenings first (λ past words w. Obeying U V hosts size past words w) happenings [] [] first w fits.frames_a fits.frames_b fits.idles (obeys U V hosts size happenings first fits.idles tells) runs
    (reached_first U V size count names happenings fits) (first_obeying U V hosts size count names)

pub air_is_kept : {S T G H : Type 0} (U : Upper S G) (V : Upper T H) → AirIsKept U V
air_is_kept U V hosts size count names happenings w later fits runs tells = (obeyed U V hosts size count names happenings w fits runs tells).now.each later
