-- Each packet out of a host is of the last link that it was told of, and the n-th link has handle n.
use Rattle.std.proofs.Common.{◌≡◌, ℕ, ◌+◌, ◌-◌, ◌≤◌, ◌==◌, ◌&&◌, Bool, true, false, List, [], ◌∷◌, ◌++◌, length, Option, Some, None, is_none, if◌then◌else◌, refl, sym, ap, ◌∙◌, subst, arith}
use Rattle.std.specs.Prelude.{nat_le, drop, min}
use Rattle.std.proofs.lemmas.List.{append-nil}
use Rattle.byteorder.specs.Endian.{little_number}
use Rattle.turn_laws.specs.acl_fragments.specs.Pieces.{Piece}
use Rattle.turn_laws.specs.push_terms.specs.declared.word.Side.{Side}
use Rattle.turn_laws.specs.push_terms.specs.declared.word.Side.TheVariants.{A, B}
use Rattle.turn_laws.specs.push_terms.specs.declared.word.Way.{Way}
use Rattle.turn_laws.specs.push_terms.specs.declared.word.Way.TheVariants.{Ab, Ba}
use Rattle.turn_laws.specs.capture.specs.declared.flow.Flow.TheVariants.{Out}
use Rattle.turn_laws.specs.capture.specs.Entries.{Entry, Moved}
use Rattle.turn_laws.specs.capture.specs.Histories.{AtEach, EachAfter}
use Rattle.turn_laws.specs.capture.specs.Links.{Link, links, link_up}
use Rattle.turn_laws.specs.capture.proofs.HistoryLaws.{each_after-more, at_each-more, at_each-none}
use Rattle.turn_laws.specs.radio_model.specs.declared.fate.Fate.{Fate}
use Rattle.turn_laws.specs.radio_model.specs.declared.deed.Deed.{Deed}
use Rattle.turn_laws.specs.radio_model.specs.declared.deed.Deed.TheVariants.{Nothing, Meets, Fires, FiresBoth, Breaks, Cancels}
use Rattle.turn_laws.specs.radio_model.specs.Controllers.{Answer, Returned, Stated, Called, LinkMade, LinkGone, GivenBack, Controller, after_telling}
use Rattle.turn_laws.specs.radio_model.specs.Honest.{IsNumbered, IsOnItsLink}
use Rattle.turn_laws.specs.radio_model.specs.Radio.{Radio, is_together, controller, after_meeting, found}
use Rattle.turn_laws.specs.world_model.specs.Machines.{TimerFired, Upper}
use Rattle.turn_laws.specs.world_model.specs.Stations.{Order, Reset, ReadBuffers, ReadAddress, Scan, Page, Accept, End, Data, order_packet, Station, Effort, Taking, Putting, Asking, Leaving, Commanding, MakesEffort, is_handle, longest_pdu, gives, holds, hears_each, hears_piece, hears_answer, may_accept, told}
use Rattle.turn_laws.specs.world_model.specs.Worlds.{World, Happening, Tries, Departure, GivingBack, Piecemeal, Answering, Turns, Misses, Opens, Closes, entries_of, words_in, checks, Acts, first_world, after_order}
use Rattle.turn_laws.specs.WorldLaws.{handle_of}
use Rattle.turn_laws.proofs.Leading.{tidings, made, led_low}
use Rattle.turn_laws.proofs.Wiring.{piece_at, sent, count, Within}
use Rattle.turn_laws.proofs.Stationing.{Steady, on_link, off_link}
use Rattle.turn_laws.proofs.Departing.{gives_back_tidings}
use Rattle.turn_laws.proofs.Hearing.{with_coming, with_owed}
use Rattle.turn_laws.proofs.Coming.{handed_piece, handed_answer}
use Rattle.turn_laws.proofs.Keeping.{calling}
use Rattle.turn_laws.proofs.Recording.{order_stays}
use Rattle.air_laws.specs.Accounts.{CapturesAreHonest}
use Rattle.air_laws.proofs.Knowing.{Known}
use Rattle.air_laws.proofs.Sending.{data_up}
use Rattle.air_laws.proofs.Following.{known_a, known_b, order_told, Keeps, reached_first, along}
use Rattle.air_laws.proofs.Posting.{AllAt, Posted, posted_less, posted_out, posted_puts, plain_of, posted_commands, posted_waits, posted_made, posted_gone, asked_of, made_first, order_asked, parted_asked}
use Rattle.air_laws.proofs.Accounting.{word_is}
use Rattle.air_laws.proofs.Balancing.{least_one, completions_are_honest}

abbrev PostedOf : {S : Type 0} → Controller → ℕ → Station S → Type 0
PostedOf one asked station = Posted one.told one.up asked station.waiting station.out

if_posted : {S : Type 0} (one : Controller) (asked : ℕ) (some : Bool) (first second : Station S) → PostedOf one asked first → PostedOf one asked second → PostedOf one asked (if some then first else second)
if_posted one asked true first second a b = a
if_posted one asked false first second a b = b

-- ---- a host by itself

front_none : (one two : List Piece) → one ++ two ≡ [] → one ≡ []
front_none [] two none = refl
front_none (piece ∷ one) two none = absurd cc

first_piece : (handle : ℕ) (order : Order) (rest waiting : List Order) → waiting ≡ order ∷ rest → sent handle waiting ≡ [] → piece_at handle order ≡ []
first_piece handle order rest waiting first none = front_none (piece_at handle order) (sent handle rest) (ap (λ (l : List Order). sent handle l) (sym first) ∙ none)

effort_posted : {S G : Type 0} (U : Upper S G) (by : Side) (effort : Effort) (number : ℕ) (together : Bool) (extra asked : ℕ) (one : Controller) (old new : Station S) → (one.up ≡ true → 1 ≤ one.told) → Steady U number together extra one old → MakesEffort U by effort old new
    → PostedOf one asked old → PostedOf one asked new
effort_posted U by Taking number together extra asked one old new least steady does posted = rw does.new_is posted
effort_posted U by Putting number together extra asked one old new least steady does posted =
    let on = on_link one.up one.told does.handle old.link steady.link does.link in
    rw does.new_is (posted_puts one.told one.up asked old.waiting old.out does.handle does.piece on.0 on.1 (least on.0) posted)
effort_posted U A Asking number together extra asked one old new least steady does posted =
    rw does.new_is (posted_waits one.told one.up asked old.waiting old.out Page (λ yes. off_link one.up one.told old.link steady.link does.off) posted)
effort_posted U B Asking number together extra asked one old new least steady does posted = absurd does
effort_posted U by Leaving number together extra asked one old new least steady does posted =
    rw does.new_is (posted_waits one.told one.up asked old.waiting old.out (End does.handle) (λ yes. absurd cc) posted)
effort_posted U by Commanding number together extra asked one old new least steady does posted =
    rw does.new_is (posted_commands one.told one.up asked old.waiting old.out does.order does.rest does.first (plain_of does.order (λ handle. first_piece handle does.order does.rest old.waiting does.first (steady.ends.still handle))) posted)

-- ---- orders

order_up : (side by : Side) (order : Order) (radio : Radio) → (controller side (after_order by order radio)).up ≡ (controller side radio).up
order_up A A (Data handle piece) radio = data_up _ handle piece radio.a
order_up B A (Data handle piece) radio = refl
order_up A B (Data handle piece) radio = refl
order_up B B (Data handle piece) radio = data_up _ handle piece radio.b
order_up A by order radio = (order_stays by order radio tt).a.up_is
order_up B by order radio = (order_stays by order radio tt).b.up_is

-- ---- answers

none_is : (link : Option ℕ) → is_none link ≡ true → link ≡ None
none_is None is = refl
none_is (Some handle) is = absurd cc

is_first : (a b : Bool) → (a && b) ≡ true → a ≡ true
is_first true b is = refl
is_first false b is = absurd cc

accepts_off : {S : Type 0} (side : Side) (old : Station S) → may_accept side old ≡ true → old.link ≡ None
accepts_off A old may = absurd cc
accepts_off B old may = none_is old.link (is_first (is_none old.link) _ may)

called_posted : {S : Type 0} (side : Side) (one : Controller) (asked : ℕ) (old : Station S) (may : Bool) → (may ≡ true → one.up ≡ false) → PostedOf one asked old → PostedOf one asked (if may then record old { waiting = old.waiting ++ Accept ∷ [] } else old)
called_posted side one asked old true off posted = posted_waits one.told one.up asked old.waiting old.out Accept (λ accepts. off refl) posted
called_posted side one asked old false off posted = posted

answer_posted : {S G : Type 0} (U : Upper S G) (side : Side) (number : ℕ) (together : Bool) (extra : ℕ) (one : Controller) (old : Station S) (answers : List G) (answer : Answer) (rest : List Answer) → one.owed ≡ answer ∷ rest → Steady U number together extra one old
    → PostedOf one (extra + made (tidings one.owed)) old → PostedOf (after_telling answer (with_owed rest one)) (extra + made (tidings rest)) (hears_answer U answers side answer old)
answer_posted {S} U side number together extra one old answers (Returned code params) rest first steady posted =
    let same = made_first one.owed (Returned code params) rest first in
    let less = posted_less one.told one.told one.up one.up (extra + made (tidings one.owed)) (extra + made (tidings rest)) old.waiting old.out refl refl (omega arith) posted in
    let awaits : Station S = record old { awaited = _ } in
    if_posted one (extra + made (tidings rest)) (code == 0x1005) _ awaits (if_posted one (extra + made (tidings rest)) (is_none old.link && nat_le 27 (little_number 2 (drop 1 params))) (record awaits { size = min (little_number 2 (drop 1 params)) 1021; total = min (little_number 2 (drop 4 params)) 64 }) awaits less less) less
answer_posted U side number together extra one old answers (Stated code) rest first steady posted =
    let same = made_first one.owed (Stated code) rest first in posted_less one.told one.told one.up one.up (extra + made (tidings one.owed)) (extra + made (tidings rest)) old.waiting old.out refl refl (omega arith) posted
answer_posted U side number together extra one old answers Called rest first steady posted =
    let same = made_first one.owed Called rest first in
    let less = posted_less one.told one.told one.up one.up (extra + made (tidings one.owed)) (extra + made (tidings rest)) old.waiting old.out refl refl (omega arith) posted in
    called_posted side one (extra + made (tidings rest)) old (may_accept side old) (λ may. off_link one.up one.told old.link steady.link (accepts_off side old may)) less
answer_posted U side number together extra one old answers (GivenBack handle n) rest first steady posted =
    let same = made_first one.owed (GivenBack handle n) rest first in
    let less = posted_less one.told one.told one.up one.up (extra + made (tidings one.owed)) (extra + made (tidings rest)) old.waiting old.out refl refl (omega arith) posted in
    if_posted one (extra + made (tidings rest)) (is_handle handle old.link && nat_le n old.outstanding) (record old { outstanding = old.outstanding - n }) old less less
answer_posted U side number together extra one old answers (LinkMade handle) rest first steady posted =
    let same = made_first one.owed (LinkMade handle) rest first in
    let few = steady.awaits.few in
    let now = posted_made one.told handle (extra + made (tidings one.owed)) (extra + made (tidings rest)) one.up old.waiting old.out (omega arith) few posted in
    let to : Controller = after_telling (LinkMade handle) (with_owed rest one) in
    if_posted to (extra + made (tidings rest)) old.asked _ old (if_posted to (extra + made (tidings rest)) (is_none old.link) (record old { asked = false; link = Some handle; ending = false; joining = [] }) (record old { asked = false }) now now) now
answer_posted U side number together extra one old answers (LinkGone handle reason) rest first steady posted =
    let same = made_first one.owed (LinkGone handle reason) rest first in
    let now = posted_gone one.told (extra + made (tidings one.owed)) (extra + made (tidings rest)) one.up old.waiting old.out (omega arith) posted in
    if_posted (after_telling (LinkGone handle reason) (with_owed rest one)) (extra + made (tidings rest)) (is_handle handle old.link) (record old { outstanding = 0; link = None; ending = false; joining = []; pieces = [] }) old now now

piece_posted : {S G : Type 0} (U : Upper S G) (answers : List G) (handle : ℕ) (piece : Piece) (one : Controller) (rest : List Piece) (asked : ℕ) (old : Station S) → PostedOf one asked old → PostedOf (with_coming rest one) asked (hears_piece U answers handle piece old)
piece_posted U answers handle piece one rest asked old posted =
    if_posted (with_coming rest one) asked (is_handle handle old.link) (record old { upper = hears_each U answers (gives longest_pdu old.joining piece) old.upper; joining = holds longest_pdu old.joining piece }) old posted posted

-- ---- both hosts

record Letters {S T : Type 0} (w : World S T) : Type 0 where
  a : PostedOf w.radio.a (asked_of A w.radio) w.a
  b : PostedOf w.radio.b (asked_of B w.radio) w.b

letters_at : {S T : Type 0} (new to : World S T) → new ≡ to → Letters to → Letters new
letters_at {S} {T} new to same letters = subst (λ (w : World S T). Letters w) (sym same) letters

record MetSame (old new : Controller) (asked asked' : ℕ) : Type 0 where
  told : new.told ≡ old.told
  up : new.up ≡ old.up
  asked_is : asked' ≡ asked

met_same : (side : Side) (way : Way) (fate : Fate) (checked : Bool) (queue : List (List ℕ)) (radio : Radio) → MetSame (controller side radio) (controller side (after_meeting way fate checked queue radio)) (asked_of side radio) (asked_of side (after_meeting way fate checked queue radio))
met_same side way fate checked [] radio = record { told = refl; up = refl; asked_is = refl }
met_same A Ab fate checked (frame ∷ rest) radio = record { told = refl; up = refl; asked_is = refl }
met_same B Ab fate checked (frame ∷ rest) radio = record { told = refl; up = refl; asked_is = refl }
met_same A Ba fate checked (frame ∷ rest) radio = record { told = refl; up = refl; asked_is = refl }
met_same B Ba fate checked (frame ∷ rest) radio = record { told = refl; up = refl; asked_is = refl }

met_letters : {S T : Type 0} (old : World S T) (radio : Radio) → ((side : Side) → MetSame (controller side old.radio) (controller side radio) (asked_of side old.radio) (asked_of side radio)) → Letters old → Letters (record old { radio = radio })
met_letters old radio same letters =
    let a = (same A).asked_is in
    let b = (same B).asked_is in
    record {
      a = posted_less old.radio.a.told radio.a.told old.radio.a.up radio.a.up (asked_of A old.radio) (asked_of A radio) old.a.waiting old.a.out (same A).told (same A).up (omega arith) letters.a;
      b = posted_less old.radio.b.told radio.b.told old.radio.b.up radio.b.up (asked_of B old.radio) (asked_of B radio) old.b.waiting old.b.out (same B).told (same B).up (omega arith) letters.b;
    }

acts_letters : {S T G H : Type 0} (U : Upper S G) (V : Upper T H) (deed : Deed) (old new : World S T) → Acts U V deed old new → Letters old → Letters new
acts_letters U V Nothing old new acts letters = absurd acts
acts_letters U V (Meets Ab fate) old new acts letters = rw acts (met_letters old _ (λ side. met_same side Ab fate (checks V old.b old.radio.a.waiting) old.radio.a.waiting old.radio) letters)
acts_letters U V (Meets Ba fate) old new acts letters = rw acts (met_letters old _ (λ side. met_same side Ba fate (checks U old.a old.radio.b.waiting) old.radio.b.waiting old.radio) letters)
acts_letters U V (Fires A) old new (armed, g, same) letters = rw same (record { a = letters.a; b = letters.b })
acts_letters U V (Fires B) old new (armed, h, same) letters = rw same (record { a = letters.a; b = letters.b })
acts_letters U V FiresBoth old new (armed, g, h, same) letters = rw same (record {
  a = if_posted old.radio.a (asked_of A old.radio) (U.armed old.a.upper) (told U g TimerFired old.a) old.a letters.a letters.a;
  b = if_posted old.radio.b (asked_of B old.radio) (V.armed old.b.upper) (told V h TimerFired old.b) old.b letters.b letters.b;
})
acts_letters U V Breaks old new acts letters = rw acts (record {
  a = posted_less old.radio.a.told _ old.radio.a.up _ (asked_of A old.radio) _ old.a.waiting old.a.out refl refl (parted_asked 0x08 0x08 A old.radio) letters.a;
  b = posted_less old.radio.b.told _ old.radio.b.up _ (asked_of B old.radio) _ old.b.waiting old.b.out refl refl (parted_asked 0x08 0x08 B old.radio) letters.b;
})
acts_letters U V Cancels old new (may, g, same) letters = rw same (record { a = letters.a; b = letters.b })

-- ---- the capture

record Addressed {S T : Type 0} (past : List Entry) (w : World S T) : Type 0 where
  letters : Letters w
  handles : EachAfter IsOnItsLink [] past

addressed_none : {S T : Type 0} (past : List Entry) (old new : World S T) → Letters new → Addressed past old → Addressed (past ++ []) new
addressed_none past old new letters addressed = subst (λ (p : List Entry). Addressed p new) (sym (append-nil past)) (record { letters = letters; handles = addressed.handles })

addressed_entry : {S T : Type 0} (past : List Entry) (entry : Entry) (old new : World S T) → Letters new → IsOnItsLink past entry → Addressed past old → Addressed (past ++ entry ∷ []) new
addressed_entry past entry old new letters now addressed = record { letters = letters; handles = each_after-more IsOnItsLink past entry addressed.handles now }

on_its_link : (side : Side) (past : List Entry) (order : Order) (rest out : List Order) (one : Controller) → out ≡ order ∷ rest → handle_of order ≤ 0x0EFF → Known side past one → AllAt one.told out → IsOnItsLink past (Moved side Out (order_packet side order))
on_its_link side past (Data handle piece) rest out one first low known all =
    let now : AllAt one.told (Data handle piece ∷ rest) = subst (λ (l : List Order). AllAt one.told l) first all in
    let count = known.count in
    let word = word_is handle piece.boundary low in
    let here = now.0 in
    let least = now.1 in
    (omega arith, word ∙ omega arith)
on_its_link side past Reset rest out one first low known all = tt
on_its_link side past ReadBuffers rest out one first low known all = tt
on_its_link side past ReadAddress rest out one first low known all = tt
on_its_link side past Scan rest out one first low known all = tt
on_its_link side past Page rest out one first low known all = tt
on_its_link side past Accept rest out one first low known all = tt
on_its_link side past (End handle) rest out one first low known all = tt

-- what is owed behind an answer
owed_kept : (answer : Answer) (rest : List Answer) (one : Controller) → (after_telling answer (with_owed rest one)).owed ≡ rest
owed_kept (LinkMade handle) rest one = refl
owed_kept (LinkGone handle reason) rest one = refl
owed_kept (Returned code params) rest one = refl
owed_kept (Stated code) rest one = refl
owed_kept Called rest one = refl
owed_kept (GivenBack handle n) rest one = refl

zero_posted : {S : Type 0} (one : Controller) (n : ℕ) (station : Station S) → PostedOf one n station → PostedOf one (0 + n) station
zero_posted one n station posted = posted_less one.told one.told one.up one.up n (0 + n) station.waiting station.out refl refl (omega arith) posted

plain_posted : {S : Type 0} (one : Controller) (n : ℕ) (station : Station S) → PostedOf one (0 + n) station → PostedOf one n station
plain_posted one n station posted = posted_less one.told one.told one.up one.up (0 + n) n station.waiting station.out refl refl (omega arith) posted

low_number : (radio : Radio) → radio.number + calling radio.phase ≤ 0x0EFF → radio.number ≤ 0x0EFF
low_number radio low = omega arith

low_order : (told number : ℕ) (order : Order) (rest out : List Order) → out ≡ order ∷ rest → Within told out → told ≤ number → number ≤ 0x0EFF → handle_of order ≤ 0x0EFF
low_order told number order rest out first within low most =
    let now : Within told (order ∷ rest) = subst (λ (l : List Order). Within told l) first within in
    let below = now.0 in
    omega arith

addresses : {S T G H : Type 0} (U : Upper S G) (V : Upper T H) (happenings : List Happening) (first : World S T) → Keeps U V happenings first (λ past words w. Addressed past w)
addresses U V happenings first (Tries A effort) ahead past words old new reached (station, makes, same) next addressed =
    addressed_none past old new (letters_at new _ same (record {
      a = effort_posted U A effort old.radio.number (is_together old.radio.phase) _ (asked_of A old.radio) old.radio.a old.a station (least_one A past old.radio.a (known_a U V happenings first _ past words old reached)) reached.kept.one makes addressed.letters.a;
      b = addressed.letters.b;
    })) addressed
addresses U V happenings first (Tries B effort) ahead past words old new reached (station, makes, same) next addressed =
    addressed_none past old new (letters_at new _ same (record {
      a = addressed.letters.a;
      b = effort_posted V B effort old.radio.number (is_together old.radio.phase) 0 (asked_of B old.radio) old.radio.b old.b station (least_one B past old.radio.b (known_b U V happenings first _ past words old reached)) reached.kept.other makes addressed.letters.b;
    })) addressed
addresses U V happenings first (Departure A order) ahead past words old new reached (rest, is, same) next addressed =
    addressed_entry past _ old new (letters_at new _ same (record {
      a = posted_out old.radio.a.told _ old.radio.a.up _ (asked_of A old.radio) _ old.a.waiting old.a.out order rest is (order_told A A order old.radio) (order_up A A order old.radio) (order_asked A A order old.radio) addressed.letters.a;
      b = posted_less old.radio.b.told _ old.radio.b.up _ (asked_of B old.radio) _ old.b.waiting old.b.out (order_told B A order old.radio) (order_up B A order old.radio) (let less = order_asked B A order old.radio in omega arith) addressed.letters.b;
    }))
    (on_its_link A past order rest old.a.out old.radio.a is (low_order old.radio.a.told old.radio.number order rest old.a.out is reached.kept.one.ends.within_out (led_low old.radio.a.told old.radio.a.up _ old.radio.number _ reached.kept.one.led) (low_number old.radio reached.shows.low))
    (known_a U V happenings first _ past words old reached) addressed.letters.a.here) addressed
addresses U V happenings first (Departure B order) ahead past words old new reached (rest, is, same) next addressed =
    addressed_entry past _ old new (letters_at new _ same (record {
      a = posted_less old.radio.a.told _ old.radio.a.up _ (asked_of A old.radio) _ old.a.waiting old.a.out (order_told A B order old.radio) (order_up A B order old.radio) (let less = order_asked A B order old.radio in omega arith) addressed.letters.a;
      b = posted_out old.radio.b.told _ old.radio.b.up _ (asked_of B old.radio) _ old.b.waiting old.b.out order rest is (order_told B B order old.radio) (order_up B B order old.radio) (order_asked B B order old.radio) addressed.letters.b;
    }))
    (on_its_link B past order rest old.b.out old.radio.b is (low_order old.radio.b.told old.radio.number order rest old.b.out is reached.kept.other.ends.within_out (led_low old.radio.b.told old.radio.b.up _ old.radio.number _ reached.kept.other.led) (low_number old.radio reached.shows.low))
    (known_b U V happenings first _ past words old reached) addressed.letters.b.here) addressed
addresses U V happenings first (GivingBack A) ahead past words old new reached same next addressed =
    let more = ap made (gives_back_tidings old.radio.a.told old.radio.a.taken old.radio.a.owed) in
    addressed_none past old new (letters_at new _ same (record {
      a = posted_less old.radio.a.told _ old.radio.a.up _ (asked_of A old.radio) _ old.a.waiting old.a.out refl refl (omega arith) addressed.letters.a;
      b = addressed.letters.b;
    })) addressed
addresses U V happenings first (GivingBack B) ahead past words old new reached same next addressed =
    let more = ap made (gives_back_tidings old.radio.b.told old.radio.b.taken old.radio.b.owed) in
    addressed_none past old new (letters_at new _ same (record {
      a = addressed.letters.a;
      b = posted_less old.radio.b.told _ old.radio.b.up _ (asked_of B old.radio) _ old.b.waiting old.b.out refl refl (omega arith) addressed.letters.b;
    })) addressed
addresses {S} {T} U V happenings first (Piecemeal A handle piece) ahead past words old new reached (rest, is, here, g, same) next addressed =
    addressed_entry past _ old new (letters_at new _ same (subst (λ (c : Controller). Letters (record old { radio = record old.radio { a = c }; a = hears_piece U g handle piece old.a })) (sym (handed_piece old.radio.a piece rest is)) (record {
      a = piece_posted U g handle piece old.radio.a rest (asked_of A old.radio) old.a addressed.letters.a;
      b = addressed.letters.b;
    }))) tt addressed
addresses {S} {T} U V happenings first (Piecemeal B handle piece) ahead past words old new reached (rest, is, here, h, same) next addressed =
    addressed_entry past _ old new (letters_at new _ same (subst (λ (c : Controller). Letters (record old { radio = record old.radio { b = c }; b = hears_piece V h handle piece old.b })) (sym (handed_piece old.radio.b piece rest is)) (record {
      a = addressed.letters.a;
      b = piece_posted V h handle piece old.radio.b rest (asked_of B old.radio) old.b addressed.letters.b;
    }))) tt addressed
addresses {S} {T} U V happenings first (Answering A answer) ahead past words old new reached (rest, none, is, g, same) next addressed =
    addressed_entry past _ old new (letters_at new _ same (subst (λ (c : Controller). Letters (record old { radio = record old.radio { a = c }; a = hears_answer U g A answer old.a })) (sym (handed_answer old.radio.a answer rest none is)) (record {
      a = subst (λ (l : List Answer). PostedOf (after_telling answer (with_owed rest old.radio.a)) (calling old.radio.phase + made (tidings l)) (hears_answer U g A answer old.a)) (sym (owed_kept answer rest old.radio.a))
          (answer_posted U A old.radio.number (is_together old.radio.phase) (calling old.radio.phase) old.radio.a old.a g answer rest is reached.kept.one addressed.letters.a);
      b = addressed.letters.b;
    }))) tt addressed
addresses {S} {T} U V happenings first (Answering B answer) ahead past words old new reached (rest, none, is, h, same) next addressed =
    addressed_entry past _ old new (letters_at new _ same (subst (λ (c : Controller). Letters (record old { radio = record old.radio { b = c }; b = hears_answer V h B answer old.b })) (sym (handed_answer old.radio.b answer rest none is)) (record {
      a = addressed.letters.a;
      b = subst (λ (l : List Answer). PostedOf (after_telling answer (with_owed rest old.radio.b)) (made (tidings l)) (hears_answer V h B answer old.b)) (sym (owed_kept answer rest old.radio.b))
          (plain_posted (after_telling answer (with_owed rest old.radio.b)) (made (tidings rest)) (hears_answer V h B answer old.b) (answer_posted V B old.radio.number (is_together old.radio.phase) 0 old.radio.b old.b h answer rest is reached.kept.other (zero_posted old.radio.b (made (tidings old.radio.b.owed)) old.b addressed.letters.b)));
    }))) tt addressed
addresses U V happenings first (Turns ordinal word) ahead past words old new reached (rest, is_word, ordinal_is, mid, acts, same) next addressed =
    let now = acts_letters U V (found word old.radio) old mid acts addressed.letters in
    addressed_entry past _ old new (letters_at new _ same (record { a = now.a; b = now.b })) tt addressed
addresses U V happenings first (Misses word) ahead past words old new reached (rest, nothing, same) next addressed =
    addressed_none past old new (letters_at new _ same (record { a = addressed.letters.a; b = addressed.letters.b })) addressed
addresses U V happenings first (Opens push name) ahead past words old new reached (idle, next_is, push_is, g, same) next addressed =
    addressed_entry past _ old new (letters_at new _ same (record { a = addressed.letters.a; b = addressed.letters.b })) tt addressed
addresses U V happenings first (Closes push outcome) ahead past words old new reached (going, push_is, idle, is, apart, none_a, none_b, quiet_a, quiet_b, same) next addressed =
    addressed_entry past _ old new (letters_at new _ same (record { a = addressed.letters.a; b = addressed.letters.b })) tt addressed

-- ---- from the first moment on

first_addressed : {S T G H : Type 0} (U : Upper S G) (V : Upper T H) (size count : ℕ) (names : List (List ℕ)) → Addressed [] (first_world U V size count names)
first_addressed U V size count names = record {
  letters = record {
    a = record { here = tt; behind = tt; called = λ some. absurd (omega arith); off = λ some. refl };
    b = record { here = tt; behind = tt; called = λ some. absurd (omega arith); off = λ some. refl };
  };
  handles = tt;
}

some_link : (one two : Link) → ◌≡◌ {A = Option Link} (Some one) (Some two) → one ≡ two
some_link one two is = cc

none_link : (link : Link) → ◌≡◌ {A = Option Link} None (Some link) → ⊥
none_link link is = cc

-- an entry more, or none
abbrev IsShort : List Entry → Type 0
IsShort [] = Unit {0}
IsShort (entry ∷ []) = Unit {0}
IsShort (entry ∷ other ∷ rest) = ⊥

-- the n-th link has handle n
number_by : (up : Bool) (side : Side) (past : List Entry) (one : Controller) (link : Link) → one.up ≡ up → Known side past one → link_up side past ≡ Some link → link.handle ≡ length (links side past)
number_by true side past one link up known is =
    let on = known.on up in
    let same : on.link ≡ link = some_link on.link link (sym on.is ∙ is) in
    ap (λ (l : Link). l.handle) (sym same) ∙ on.handle_is ∙ sym known.count
number_by false side past one link up known is = let none = known.off up in absurd (none_link link (sym none ∙ is))

numbered : (side : Side) (past : List Entry) (one : Controller) → Known side past one → IsNumbered side past
numbered side past one known link is = number_by one.up side past one link refl known is

entries_few : (happening : Happening) → IsShort (entries_of happening)
entries_few (Tries side effort) = tt
entries_few (Departure side order) = tt
entries_few (GivingBack side) = tt
entries_few (Piecemeal side handle piece) = tt
entries_few (Answering side answer) = tt
entries_few (Turns ordinal word) = tt
entries_few (Misses word) = tt
entries_few (Opens push name) = tt
entries_few (Closes push outcome) = tt

number_more : (side : Side) (past more : List Entry) → AtEach (IsNumbered side) past → IsShort more → IsNumbered side (past ++ more) → AtEach (IsNumbered side) (past ++ more)
number_more side past [] each short now = subst (λ (p : List Entry). AtEach (IsNumbered side) p) (sym (append-nil past)) each
number_more side past (entry ∷ []) each short now = at_each-more (IsNumbered side) past entry each now
number_more side past (entry ∷ other ∷ rest) each short now = absurd short

each_numbered : {S T G H : Type 0} (U : Upper S G) (V : Upper T H) (happenings : List Happening) (first : World S T) → Keeps U V happenings first (λ past words w. AtEach (IsNumbered A) past × AtEach (IsNumbered B) past)
each_numbered U V happenings first happening ahead past words old new reached does next (a, b) = (
  number_more A past (entries_of happening) a (entries_few happening) (numbered A (past ++ entries_of happening) new.radio.a (known_a U V happenings first ahead (past ++ entries_of happening) (words ++ words_in happening) new next)),
  number_more B past (entries_of happening) b (entries_few happening) (numbered B (past ++ entries_of happening) new.radio.b (known_b U V happenings first ahead (past ++ entries_of happening) (words ++ words_in happening) new next)),
)

pub captures_are_honest : {S T G H : Type 0} (U : Upper S G) (V : Upper T H) → CapturesAreHonest U V
captures_are_honest U V size count names happenings w fits runs =
    let first = first_world U V size count names in
    let addressed = (along U V happenings first (λ past words w. Addressed past w) happenings [] [] first w fits.frames_a fits.frames_b fits.idles (addresses U V happenings first) runs (reached_first U V size count names happenings fits) (first_addressed U V size count names)).now in
    let numbers = (along U V happenings first (λ past words w. AtEach (IsNumbered A) past × AtEach (IsNumbered B) past) happenings [] [] first w fits.frames_a fits.frames_b fits.idles (each_numbered U V happenings first) runs (reached_first U V size count names happenings fits)
    (at_each-none (IsNumbered A) (λ link is. absurd (none_link link is)), at_each-none (IsNumbered B) (λ link is. absurd (none_link link is)))).now in
    let honest = completions_are_honest U V size count names happenings w fits runs in
    record { a = honest.0; b = honest.1; numbered_a = numbers.0; numbered_b = numbers.1; handles = addressed.handles }
