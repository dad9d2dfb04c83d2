-- Whatever happens in a world leaves it so.
use Rattle.std.proofs.Common.{◌≡◌, ℕ, ◌+◌, ◌≤◌, Bool, true, false, List, [], ◌∷◌, ◌++◌, Option, Some, None, if◌then◌else◌, inl, inr, refl, sym, ap, ◌∙◌, subst, arith}
use Rattle.std.specs.Prelude.{slice_get}
use Rattle.std.proofs.lemmas.Bool.{eq-eqb}
use Rattle.std.proofs.lemmas.Option.{slice_get_within}
use Rattle.station_laws.specs.push_terms.specs.declared.word.Side.TheVariants.{A, B}
use Rattle.station_laws.specs.push_terms.specs.declared.word.Way.TheVariants.{Ab, Ba}
use Rattle.station_laws.specs.radio_model.specs.declared.fate.Fate.{Fate}
use Rattle.station_laws.specs.radio_model.specs.declared.deed.Deed.{Deed}
use Rattle.station_laws.specs.radio_model.specs.declared.deed.Deed.TheVariants.{Nothing, Meets, Fires, FiresBoth, Breaks, Cancels}
use Rattle.station_laws.specs.radio_model.specs.Controllers.{Answer, Returned, Stated, Called, LinkMade, LinkGone, GivenBack, Controller, after_telling}
use Rattle.station_laws.specs.radio_model.specs.Radio.{Radio, Phase, is_together, with_controller, after_meeting, found}
use Rattle.station_laws.specs.world_model.specs.Machines.{Linked, Down, TimerFired, Cancelled, Opening, Upper}
use Rattle.station_laws.specs.world_model.specs.Pushes.{Pushes, one_begun, next_name}
use Rattle.station_laws.specs.world_model.specs.Stations.{Order, Accept, Station, Effort, Taking, Putting, Asking, Leaving, Commanding, MakesEffort, is_handle, hears_piece, hears_answer, told}
use Rattle.station_laws.specs.world_model.specs.Worlds.{World, Happening, Tries, Departure, GivingBack, Piecemeal, Answering, Turns, Misses, Opens, Closes, checks, fired, Acts, Does}
use Rattle.station_laws.specs.turn_laws.specs.Premises.{Idles}
use Rattle.station_laws.specs.turn_laws.proofs.Advancing.{breaks_linked}
use Rattle.station_laws.specs.turn_laws.proofs.Leading.{Tiding, Came, Went, tidings, made, Led}
use Rattle.station_laws.specs.turn_laws.proofs.Wiring.{count, count-append}
use Rattle.station_laws.specs.turn_laws.proofs.Stationing.{linked_handle, Steady}
use Rattle.station_laws.specs.turn_laws.proofs.Hearing.{with_owed, rest_tidings}
use Rattle.station_laws.specs.turn_laws.proofs.Answering.{made_by, gone_by}
use Rattle.station_laws.specs.turn_laws.proofs.Coming.{handed_piece, handed_answer}
use Rattle.station_laws.specs.turn_laws.proofs.Keeping.{calling, Kept}
use Rattle.air_laws.proofs.Resting.{next_going}
use Rattle.station_laws.proofs.Running.{Kept as Answered}
use Rattle.rest_laws.specs.Premises.{AsksOnce}
use Rattle.rest_laws.proofs.Living.{lives_if, lives_effort}
use Rattle.rest_laws.proofs.Calling.{called_by, called, requesting, requested_is, Calls, calls_move, calls_effort, scans-append}
use Rattle.rest_laws.proofs.Lively.{IsFresh, HasLink, Lively, lively_a, lively_b, alike_refl, lively_alike, lively_parted, parts_none}
use Rattle.rest_laws.proofs.Departing.{alike_back, departs_a, departs_b}
use Rattle.rest_laws.proofs.Answering.{lives_answer, lives_piece, orders_of, if_orders, orders_stay, piece_orders, if_upper, piece_wants, accepts}

abbrev pub LivelyIn : {S T G : Type 0} → Upper S G → World S T → Type 0
LivelyIn U w = Lively U w.radio w.a w.b w.pushes

-- ---- a host by itself

effort_wants : {S G : Type 0} (U : Upper S G) (effort : Effort) (old new : Station S) → AsksOnce U → MakesEffort U A effort old new → U.wants_link old.upper ≡ false → U.wants_link new.upper ≡ false
effort_wants {S} U Taking old new once does none = ap (λ (s : Station S). U.wants_link s.upper) does.new_is ∙ once.says old.upper does.pdu does.after does.next none
effort_wants {S} U Putting old new once does none = ap (λ (s : Station S). U.wants_link s.upper) does.new_is ∙ none
effort_wants {S} U Asking old new once does none = ap (λ (s : Station S). U.wants_link s.upper) does.new_is ∙ none
effort_wants {S} U Leaving old new once does none = ap (λ (s : Station S). U.wants_link s.upper) does.new_is ∙ none
effort_wants {S} U Commanding old new once does none = ap (λ (s : Station S). U.wants_link s.upper) does.new_is ∙ none

-- ---- host a hears an answer

link_plain : {S G : Type 0} (U : Upper S G) (radio : Radio) (pushes : Pushes) (upper : S) (rest : List Answer) → tidings rest ≡ tidings radio.a.owed → HasLink U radio pushes upper → HasLink U (record radio { a = with_owed rest radio.a }) pushes upper
link_plain U radio pushes upper rest same link =
    let owed : made (tidings rest) ≡ made (tidings radio.a.owed) = ap made same in
    elim link [
      | inl fresh ↦ let parts = fresh.parts in inl (record { parts = record { off_a = parts.off_a; off_b = parts.off_b; told_a = parts.told_a; told_b = parts.told_b }; separate = fresh.separate; room = fresh.room })
      | inr later ↦ elim later [ inl coming ↦ inr (inl (omega arith)) | inr had ↦ inr (inr had) ]
    ]

link_answer : {S G : Type 0} (U : Upper S G) (answers : List G) (radio : Radio) (pushes : Pushes) (extra : ℕ) (old : Station S) (answer : Answer) (rest : List Answer) → AsksOnce U → radio.a.owed ≡ answer ∷ rest → Steady U radio.number (is_together radio.phase) extra radio.a old
    → HasLink U radio pushes old.upper → HasLink U (record radio { a = after_telling answer (with_owed rest radio.a) }) pushes (hears_answer U answers A answer old).upper
link_answer U answers radio pushes extra old (Returned opcode params) rest once first steady link = link_plain U radio pushes old.upper rest (rest_tidings radio.a.owed rest (Returned opcode params) first refl) link
link_answer U answers radio pushes extra old (Stated opcode) rest once first steady link = link_plain U radio pushes old.upper rest (rest_tidings radio.a.owed rest (Stated opcode) first refl) link
link_answer U answers radio pushes extra old Called rest once first steady link = link_plain U radio pushes old.upper rest (rest_tidings radio.a.owed rest Called first refl) link
link_answer U answers radio pushes extra old (GivenBack handle n) rest once first steady link = link_plain U radio pushes old.upper rest (rest_tidings radio.a.owed rest (GivenBack handle n) first refl) link
link_answer {S} U answers radio pushes extra old (LinkMade handle) rest once first steady link =
    let one : Controller = radio.a in
    let owed : tidings one.owed ≡ Came handle ∷ tidings rest = ap tidings first in
    let led : Led one.told one.up (Came handle ∷ tidings rest) radio.number (is_together radio.phase) = subst (λ (l : List Tiding). Led one.told one.up l radio.number (is_together radio.phase)) owed steady.led in
    let counted : made (tidings one.owed) ≡ 1 + made (tidings rest) = ap made owed in
    let asked = steady.awaits.awaited (omega arith) in
    let off : old.link ≡ None = steady.link ∙ ap (λ (b : Bool). linked_handle b one.told) led.0 in
    inr (inr (subst (λ (s : Station S). U.wants_link s.upper ≡ false) (made_by U answers A handle old asked off) (once.comes answers old.upper)))
link_answer {S} U answers radio pushes extra old (LinkGone handle reason) rest once first steady link =
    let one : Controller = radio.a in
    let owed : tidings one.owed ≡ Went handle reason ∷ tidings rest = ap tidings first in
    let led : Led one.told one.up (Went handle reason ∷ tidings rest) radio.number (is_together radio.phase) = subst (λ (l : List Tiding). Led one.told one.up l radio.number (is_together radio.phase)) owed steady.led in
    let counted : made (tidings one.owed) ≡ made (tidings rest) = ap made owed in
    let linked : old.link ≡ Some one.told = steady.link ∙ ap (λ (b : Bool). linked_handle b one.told) led.0 in
    let here : is_handle handle old.link ≡ true = ap (λ (l : Option ℕ). is_handle handle l) linked ∙ eq-eqb one.told handle (sym led.1) in
    elim link [
      | inl fresh ↦ let off = fresh.parts.off_a in let up = led.0 in absurd cc
      | inr later ↦
          elim later [
            | inl coming ↦ inr (inl (omega arith))
            | inr had ↦ inr (inr (subst (λ (s : Station S). U.wants_link s.upper ≡ false) (gone_by U answers A handle reason old here) (once.hears answers (Linked (Down reason)) old.upper tt had)))
          ]
    ]

-- ---- host b hears an answer

fresh_b : (radio : Radio) (pushes : Pushes) (rest : List Answer) → IsFresh radio pushes → IsFresh (record radio { b = with_owed rest radio.b }) pushes
fresh_b radio pushes rest fresh =
    let parts = fresh.parts in record { parts = record { off_a = parts.off_a; off_b = parts.off_b; told_a = parts.told_a; told_b = parts.told_b }; separate = fresh.separate; room = fresh.room }

-- where no link was made yet, none is told of
never_told : {T H : Type 0} (V : Upper T H) (radio : Radio) (pushes : Pushes) (old : Station T) (tiding : Tiding) (rest : List Tiding) → tidings radio.b.owed ≡ tiding ∷ rest → Steady V radio.number (is_together radio.phase) 0 radio.b old → IsFresh radio pushes → ⊥
never_told V radio pushes old tiding rest owed steady fresh =
    let none = parts_none radio.b.told radio.b.up (tidings radio.b.owed) radio.number (is_together radio.phase) fresh.parts.off_b fresh.parts.told_b fresh.separate steady.led in cc

link_b : {S T G H : Type 0} (U : Upper S G) (V : Upper T H) (radio : Radio) (pushes : Pushes) (upper : S) (old : Station T) (answer : Answer) (rest : List Answer) → radio.b.owed ≡ answer ∷ rest → Steady V radio.number (is_together radio.phase) 0 radio.b old
    → HasLink U radio pushes upper → HasLink U (record radio { b = after_telling answer (with_owed rest radio.b) }) pushes upper
link_b U V radio pushes upper old (Returned opcode params) rest first steady link = elim link [ inl fresh ↦ inl (fresh_b radio pushes rest fresh) | inr later ↦ inr later ]
link_b U V radio pushes upper old (Stated opcode) rest first steady link = elim link [ inl fresh ↦ inl (fresh_b radio pushes rest fresh) | inr later ↦ inr later ]
link_b U V radio pushes upper old Called rest first steady link = elim link [ inl fresh ↦ inl (fresh_b radio pushes rest fresh) | inr later ↦ inr later ]
link_b U V radio pushes upper old (GivenBack handle n) rest first steady link = elim link [ inl fresh ↦ inl (fresh_b radio pushes rest fresh) | inr later ↦ inr later ]
link_b U V radio pushes upper old (LinkMade handle) rest first steady link =
    elim link [ inl fresh ↦ absurd (never_told V radio pushes old (Came handle) (tidings rest) (ap tidings first) steady fresh) | inr later ↦ inr later ]
link_b U V radio pushes upper old (LinkGone handle reason) rest first steady link =
    elim link [ inl fresh ↦ absurd (never_told V radio pushes old (Went handle reason) (tidings rest) (ap tidings first) steady fresh) | inr later ↦ inr later ]

abbrev CallsAt : {T : Type 0} → Phase → (scan calls : ℕ) → Station T → Type 0
CallsAt phase scan calls station = Calls phase scan calls station.waiting station.out

calls_same : {T : Type 0} (phase : Phase) (scan calls calls' : ℕ) (old new : Station T) → orders_of new ≡ orders_of old → calls' ≡ calls → CallsAt phase scan calls old → CallsAt phase scan calls' new
calls_same phase scan calls calls' old new orders same is =
    subst (λ (o : List Order × List Order). Calls phase scan calls' o.0 o.1) (sym orders) (subst (λ (n : ℕ). CallsAt phase scan n old) (sym same) is)

calls_plain : {T H : Type 0} (V : Upper T H) (answers : List H) (phase : Phase) (scan : ℕ) (owed rest : List Answer) (old : Station T) (answer : Answer) → owed ≡ answer ∷ rest → called_by answer ≡ 0 → CallsAt phase scan (called owed) old
    → CallsAt phase scan (called rest) (hears_answer V answers B answer old)
calls_plain V answers phase scan owed rest old answer first none is =
    let counted : called owed ≡ called_by answer + called rest = ap called first in
    calls_same phase scan (called owed) (called rest) old (hears_answer V answers B answer old) (orders_stay V answers B answer old none) (omega arith) is

unasked_by : (asked : Bool) (n : ℕ) → (asked ≡ true → 1 ≤ n) → n ≡ 0 → asked ≡ false
unasked_by true n some none = let more = some refl in absurd (omega arith)
unasked_by false n some none = refl

calls_called : {S T G H : Type 0} (U : Upper S G) (V : Upper T H) (answers : List H) (radio : Radio) (a : Station S) (b : Station T) (pushes : Pushes) (rest : List Answer) → radio.b.owed ≡ Called ∷ rest → Kept U V radio a b pushes.going → Lively U radio a b pushes
    → CallsAt radio.phase radio.b.scan (called rest) (hears_answer V answers B Called b)
calls_called {S} {T} U V answers radio a b pushes rest first kept is =
    let counted : called radio.b.owed ≡ 1 + called rest = ap called first in
    let requests = is.calls.requests in
    let phase = requested_is radio.phase (omega arith) in
    let one : requesting radio.phase ≡ 1 = ap requesting phase in
    let paged : calling radio.phase ≡ 1 = ap calling phase in
    let parts = kept.parts paged in
    let none = parts_none radio.b.told radio.b.up (tidings radio.b.owed) radio.number (is_together radio.phase) parts.off_b parts.told_b (ap is_together phase) kept.other.led in
    let untold : made (tidings radio.b.owed) ≡ 0 = ap made none in
    let unasked : b.asked ≡ false = unasked_by b.asked (count b.out + (0 + made (tidings radio.b.owed))) is.b.waited (omega arith) in
    let off : b.link ≡ None = kept.other.link ∙ ap (λ (up : Bool). linked_handle up radio.b.told) parts.off_b in
    let may = accepts b off unasked (omega arith) in
    let more = count-append b.waiting (Accept ∷ []) in
    let scanning = scans-append b.waiting (Accept ∷ []) in
    subst (λ (may : Bool). CallsAt radio.phase radio.b.scan (called rest) (if may then record b { waiting = b.waiting ++ Accept ∷ [] } else b)) (sym may)
    (calls_move radio.phase radio.b.scan (called radio.b.owed) (called rest) b.waiting (b.waiting ++ Accept ∷ []) b.out b.out (omega arith) (omega arith) is.calls)

calls_answer : {S T G H : Type 0} (U : Upper S G) (V : Upper T H) (answers : List H) (radio : Radio) (a : Station S) (b : Station T) (pushes : Pushes) (answer : Answer) (rest : List Answer) → radio.b.owed ≡ answer ∷ rest → Kept U V radio a b pushes.going → Lively U radio a b pushes
    → CallsAt radio.phase (after_telling answer (with_owed rest radio.b)).scan (called (after_telling answer (with_owed rest radio.b)).owed) (hears_answer V answers B answer b)
calls_answer U V answers radio a b pushes (Returned opcode params) rest first kept is = calls_plain V answers radio.phase radio.b.scan radio.b.owed rest b (Returned opcode params) first refl is.calls
calls_answer U V answers radio a b pushes (Stated opcode) rest first kept is = calls_plain V answers radio.phase radio.b.scan radio.b.owed rest b (Stated opcode) first refl is.calls
calls_answer U V answers radio a b pushes Called rest first kept is = calls_called U V answers radio a b pushes rest first kept is
calls_answer U V answers radio a b pushes (LinkMade handle) rest first kept is = calls_plain V answers radio.phase radio.b.scan radio.b.owed rest b (LinkMade handle) first refl is.calls
calls_answer U V answers radio a b pushes (LinkGone handle reason) rest first kept is = calls_plain V answers radio.phase radio.b.scan radio.b.owed rest b (LinkGone handle reason) first refl is.calls
calls_answer U V answers radio a b pushes (GivenBack handle n) rest first kept is = calls_plain V answers radio.phase radio.b.scan radio.b.owed rest b (GivenBack handle n) first refl is.calls

-- ---- words

met_ab : {S T G : Type 0} (U : Upper S G) (fate : Fate) (checked : Bool) (queue : List (List ℕ)) (radio : Radio) (a : Station S) (b : Station T) (pushes : Pushes) → Lively U radio a b pushes → Lively U (after_meeting Ab fate checked queue radio) a b pushes
met_ab U fate checked [] radio a b pushes is = is
met_ab U fate checked (frame ∷ rest) radio a b pushes is =
    lively_alike U radio _ a b pushes (record { told = refl; up = refl; scan = refl; rest = refl; calls = refl }) (record { told = refl; up = refl; scan = refl; rest = refl; calls = refl }) refl refl is

met_ba : {S T G : Type 0} (U : Upper S G) (fate : Fate) (checked : Bool) (queue : List (List ℕ)) (radio : Radio) (a : Station S) (b : Station T) (pushes : Pushes) → Lively U radio a b pushes → Lively U (after_meeting Ba fate checked queue radio) a b pushes
met_ba U fate checked [] radio a b pushes is = is
met_ba U fate checked (frame ∷ rest) radio a b pushes is =
    lively_alike U radio _ a b pushes (record { told = refl; up = refl; scan = refl; rest = refl; calls = refl }) (record { told = refl; up = refl; scan = refl; rest = refl; calls = refl }) refl refl is

fired_a : {S T G : Type 0} (U : Upper S G) (answers : List G) (radio : Radio) (a : Station S) (b : Station T) (pushes : Pushes) → AsksOnce U → Lively U radio a b pushes → Lively U radio (fired U answers a) b pushes
fired_a U answers radio a b pushes once is =
    lively_a U radio a (fired U answers a) b pushes (lives_if A (calling radio.phase) radio.a.told radio.a.up (tidings radio.a.owed) (U.armed a.upper) (told U answers TimerFired a) a (λ yes. is.a) (λ no. is.a))
    (λ none. if_upper U (U.armed a.upper) (told U answers TimerFired a) a (once.hears answers TimerFired a.upper tt none) none) is

fired_b : {S T G H : Type 0} (U : Upper S G) (V : Upper T H) (answers : List H) (radio : Radio) (a : Station S) (b : Station T) (pushes : Pushes) → Lively U radio a b pushes → Lively U radio a (fired V answers b) pushes
fired_b U V answers radio a b pushes is =
    lively_b U radio a b (fired V answers b) pushes (lives_if B 0 radio.b.told radio.b.up (tidings radio.b.owed) (V.armed b.upper) (told V answers TimerFired b) b (λ yes. is.b) (λ no. is.b))
    (calls_same radio.phase radio.b.scan (called radio.b.owed) (called radio.b.owed) b (fired V answers b) (if_orders (V.armed b.upper) (told V answers TimerFired b) b refl) refl is.calls) is

acts_lively : {S T G H : Type 0} (U : Upper S G) (V : Upper T H) (deed : Deed) (old new : World S T) → AsksOnce U → (deed ≡ Breaks → is_together old.radio.phase ≡ true) → Acts U V deed old new → LivelyIn U old → LivelyIn U new
acts_lively U V Nothing old new once breaks acts is = absurd acts
acts_lively U V (Meets Ab fate) old new once breaks acts is = rw acts (met_ab U fate (checks V old.b old.radio.a.waiting) old.radio.a.waiting old.radio old.a old.b old.pushes is)
acts_lively U V (Meets Ba fate) old new once breaks acts is = rw acts (met_ba U fate (checks U old.a old.radio.b.waiting) old.radio.b.waiting old.radio old.a old.b old.pushes is)
acts_lively U V (Fires A) old new once breaks (armed, g, same) is = rw same (lively_a U old.radio old.a (told U g TimerFired old.a) old.b old.pushes is.a (λ none. once.hears g TimerFired old.a.upper tt none) is)
acts_lively U V (Fires B) old new once breaks (armed, h, same) is = rw same (lively_b U old.radio old.a old.b (told V h TimerFired old.b) old.pushes is.b is.calls is)
acts_lively U V FiresBoth old new once breaks (armed, g, h, same) is = rw same (fired_b U V h old.radio (fired U g old.a) old.b old.pushes (fired_a U g old.radio old.a old.b old.pushes once is))
acts_lively U V Breaks old new once breaks acts is = rw acts (lively_parted U old.radio old.a old.b old.pushes 0x08 0x08 (breaks refl) is)
acts_lively U V Cancels old new once breaks (may, g, same) is = rw same (lively_a U old.radio old.a (told U g Cancelled old.a) old.b old.pushes is.a (λ none. once.hears g Cancelled old.a.upper tt none) is)

-- ---- pushes

known_parts : (one : Controller) (number : ℕ) (together : Bool) → tidings one.owed ≡ [] → together ≡ false → Led one.told one.up (tidings one.owed) number together → (one.told ≡ number) × (one.up ≡ false)
known_parts one number together none separate led = let now : Led one.told one.up [] number together = subst (λ (l : List Tiding). Led one.told one.up l number together) none led in (now.0, now.1 ∙ separate)

opens : {S T G H : Type 0} (U : Upper S G) (V : Upper T H) (radio : Radio) (a : Station S) (b : Station T) (pushes : Pushes) (name : List ℕ) (answers : List G) → next_name pushes ≡ Some name → Kept U V radio a b pushes.going → Lively U radio a b pushes
    → Lively U radio (told U answers (Opening name) a) b (one_begun pushes)
opens U V radio a b pushes name answers next kept is =
    let still = next_going pushes.going (slice_get pushes.names pushes.begun) name next in
    let there : slice_get pushes.names pushes.begun ≡ Some name = subst (λ (going : Bool). (if going then None else slice_get pushes.names pushes.begun) ≡ Some name) still next in
    let within = slice_get_within pushes.names pushes.begun name there in
    let rests = kept.rests still in
    let one = known_parts radio.a radio.number (is_together radio.phase) rests.none_a rests.separate kept.one.led in
    let two = known_parts radio.b radio.number (is_together radio.phase) rests.none_b rests.separate kept.other.led in
    let few = is.number_few in
    record {
      a = is.a;
      b = is.b;
      calls = is.calls;
      link = inl (record { parts = record { off_a = one.1; off_b = two.1; told_a = one.0; told_b = two.0 }; separate = rests.separate; room = λ going. omega arith });
      number_few = omega arith;
      begun_few = omega arith;
      names_few = is.names_few;
    }

-- ---- whatever happens

pub does_lively : {S T G H : Type 0} (U : Upper S G) (V : Upper T H) (size count : ℕ) (happening : Happening) (old new : World S T) → Idles U → AsksOnce U → Does U V happening old new → Kept U V old.radio old.a old.b old.pushes.going → Answered size count old
    → LivelyIn U old → LivelyIn U new
does_lively U V size count (Tries A effort) old new idles once (station, makes, same) kept answered is =
    rw same (lively_a U old.radio old.a station old.b old.pushes (lives_effort U A effort old.radio.number (is_together old.radio.phase) (calling old.radio.phase) old.radio.a old.a station kept.one makes is.a) (effort_wants U effort old.a station once makes) is)
does_lively U V size count (Tries B effort) old new idles once (station, makes, same) kept answered is =
    rw same (lively_b U old.radio old.a old.b station old.pushes (lives_effort V B effort old.radio.number (is_together old.radio.phase) 0 old.radio.b old.b station kept.other makes is.b) (calls_effort V effort old.radio.phase old.radio.b.scan (called old.radio.b.owed) old.b station makes is.calls) is)
does_lively U V size count (Departure A order) old new idles once (rest, first, same) kept answered is = rw same (departs_a U V old.radio old.a old.b old.pushes order rest idles first kept is)
does_lively U V size count (Departure B order) old new idles once (rest, first, same) kept answered is = rw same (departs_b U V old.radio old.a old.b old.pushes order rest idles first kept is)
does_lively U V size count (GivingBack A) old new idles once same kept answered is = rw same (lively_alike U old.radio _ old.a old.b old.pushes (alike_back old.radio.a) (alike_refl old.radio.b) refl refl is)
does_lively U V size count (GivingBack B) old new idles once same kept answered is = rw same (lively_alike U old.radio _ old.a old.b old.pushes (alike_refl old.radio.a) (alike_back old.radio.b) refl refl is)
does_lively {S} {T} U V size count (Piecemeal A handle piece) old new idles once (rest, first, here, g, same) kept answered is =
    let heard : Station S = hears_piece U g handle piece old.a in
    rw same (subst (λ (c : Controller). Lively U (with_controller A c old.radio) heard old.b old.pushes) (sym (handed_piece old.radio.a piece rest first))
    (lively_alike U old.radio _ heard old.b old.pushes (record { told = refl; up = refl; scan = refl; rest = refl; calls = refl }) (alike_refl old.radio.b) refl refl
    (lively_a U old.radio old.a heard old.b old.pushes (lives_piece U g A (calling old.radio.phase) old.radio.a.told old.radio.a.up (tidings old.radio.a.owed) handle piece old.a is.a) (piece_wants U g handle piece old.a once) is)))
does_lively {S} {T} U V size count (Piecemeal B handle piece) old new idles once (rest, first, here, h, same) kept answered is =
    let heard : Station T = hears_piece V h handle piece old.b in
    rw same (subst (λ (c : Controller). Lively U (with_controller B c old.radio) old.a heard old.pushes) (sym (handed_piece old.radio.b piece rest first))
    (lively_alike U old.radio _ old.a heard old.pushes (alike_refl old.radio.a) (record { told = refl; up = refl; scan = refl; rest = refl; calls = refl }) refl refl
    (lively_b U old.radio old.a old.b heard old.pushes (lives_piece V h B 0 old.radio.b.told old.radio.b.up (tidings old.radio.b.owed) handle piece old.b is.b)
    (calls_same old.radio.phase old.radio.b.scan (called old.radio.b.owed) (called old.radio.b.owed) old.b heard (piece_orders V h handle piece old.b) refl is.calls) is)))
does_lively {S} {T} U V size count (Answering A answer) old new idles once (rest, none, first, g, same) kept answered is =
    rw same (subst (λ (c : Controller). Lively U (with_controller A c old.radio) (hears_answer U g A answer old.a) old.b old.pushes) (sym (handed_answer old.radio.a answer rest none first))
    (record {
      a = lives_answer U g A old.radio.number (is_together old.radio.phase) (calling old.radio.phase) old.radio.a old.a answer rest first kept.one answered.radio.a answered.a is.a;
      b = is.b;
      calls = is.calls;
      link = link_answer U g old.radio old.pushes (calling old.radio.phase) old.a answer rest once first kept.one is.link;
      number_few = is.number_few;
      begun_few = is.begun_few;
      names_few = is.names_few;
    }))
does_lively {S} {T} U V size count (Answering B answer) old new idles once (rest, none, first, h, same) kept answered is =
    rw same (subst (λ (c : Controller). Lively U (with_controller B c old.radio) old.a (hears_answer V h B answer old.b) old.pushes) (sym (handed_answer old.radio.b answer rest none first))
    (record {
      a = is.a;
      b = lives_answer V h B old.radio.number (is_together old.radio.phase) 0 old.radio.b old.b answer rest first kept.other answered.radio.b answered.b is.b;
      calls = calls_answer U V h old.radio old.a old.b old.pushes answer rest first kept is;
      link = link_b U V old.radio old.pushes old.a.upper old.b answer rest first kept.other is.link;
      number_few = is.number_few;
      begun_few = is.begun_few;
      names_few = is.names_few;
    }))
does_lively U V size count (Turns ordinal word) old new idles once (rest, is_word, ordinal_is, mid, acts, same) kept answered is =
    rw same (acts_lively U V (found word old.radio) old mid once (breaks_linked word old.radio.served old.radio.a.waiting old.radio.b.waiting (is_together old.radio.phase)) acts is)
does_lively U V size count (Misses word) old new idles once (rest, nothing, same) kept answered is = rw same is
does_lively U V size count (Opens push name) old new idles once (idle, next, push_is, g, same) kept answered is = rw same (opens U V old.radio old.a old.b old.pushes name g next kept is)
does_lively U V size count (Closes push outcome) old new idles once (going, push_is, idle, came, apart, none_a, none_b, quiet_a, quiet_b, same) kept answered is =
    rw same (record {
      a = is.a;
      b = is.b;
      calls = is.calls;
      link = elim is.link [
        | inl fresh ↦ inl (record { parts = fresh.parts; separate = fresh.separate; room = λ again. absurd cc })
        | inr later ↦ inr later
      ];
      number_few = is.number_few;
      begun_few = is.begun_few;
      names_few = is.names_few;
    })
