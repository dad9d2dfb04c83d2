-- A push has one link at most.
use Rattle.std.proofs.Common.{◌≡◌, ◌⊎◌, ℕ, ◌+◌, ◌≤◌, ◌<◌, ◌==◌, ◌&&◌, Bool, true, false, List, [], ◌∷◌, ◌++◌, length, take, drop, Option, Some, None, if◌then◌else◌, inl, inr, refl, sym, ap, ◌∙◌, subst, arith}
use Rattle.std.specs.Prelude.{slice_get}
use Rattle.std.proofs.lemmas.Bool.{cases_lt}
use Rattle.std.proofs.lemmas.List.{append-nil, take-append-drop}
use Rattle.radio_world.specs.bt_base.specs.Objects.{Contents}
use Rattle.radio_world.specs.push_script.specs.declared.scenario.Scenario.{Scenario}
use Rattle.radio_world.specs.push_terms.specs.declared.outcome.Outcome.{Outcome}
use Rattle.radio_world.specs.push_terms.specs.declared.word.Side.{Side}
use Rattle.radio_world.specs.push_terms.specs.declared.word.Side.TheVariants.{A, B}
use Rattle.radio_world.specs.push_terms.specs.declared.word.Way.TheVariants.{Ab, Ba}
use Rattle.radio_world.specs.push_terms.specs.declared.word.Word.{Word}
use Rattle.radio_world.specs.capture.specs.declared.flow.Flow.TheVariants.{Out, Into}
use Rattle.radio_world.specs.capture.specs.Entries.{Entry, Moved, Acted, Begun, Ended}
use Rattle.radio_world.specs.capture.specs.Histories.{AtEach}
use Rattle.radio_world.specs.capture.specs.Links.{Linking}
use Rattle.radio_world.specs.capture.proofs.HistoryLaws.{led_by-append}
use Rattle.std.specs.Prelude.{option_to_list}
use Rattle.radio_world.specs.radio_model.specs.declared.fate.Fate.{Fate}
use Rattle.radio_world.specs.radio_model.specs.declared.deed.Deed.{Deed}
use Rattle.radio_world.specs.radio_model.specs.declared.deed.Deed.TheVariants.{Nothing, Meets, Fires, FiresBoth, Breaks, Cancels}
use Rattle.radio_world.specs.radio_model.specs.Controllers.{Answer, Returned, Stated, Called, LinkMade, LinkGone, GivenBack, Controller, owing, after_telling, answer_packet, piece_packet}
use Rattle.radio_world.specs.radio_model.specs.Radio.{Radio, Phase, Apart, Paging, Requested, Together, is_together, is_requested, is_reached, after_reaching, may_page, knows_link, joined, parted, owes, scanning, with_controller, after_meeting, found}
use Rattle.host_laws.specs.world_model.specs.Machines.{LinkEvent, Up, Down, News, Linked, Heard, TimerFired, Cancelled, Upper}
use Rattle.host_laws.specs.world_model.specs.Stations.{Order, Reset, ReadBuffers, ReadAddress, Scan, Page, Accept, End, Data, Station, Effort, Taking, Putting, Asking, Leaving, Commanding, MakesEffort, order_packet, event_in, upper_told, hears_answer, hears_piece, told}
use Rattle.host_laws.specs.world_model.specs.Worlds.{World, Happening, Tries, Departure, GivingBack, Piecemeal, Answering, Turns, Misses, Opens, Closes, entries_of, all_entries, all_words, checks, fired, after_order, Acts, Does, Runs, first_world}
use Rattle.host_laws.specs.turn_laws.specs.WorldLaws.{Fits}
use Rattle.host_laws.specs.turn_laws.proofs.Leading.{Tiding, Came, tidings, made, Led, led_low}
use Rattle.host_laws.specs.turn_laws.proofs.Wiring.{count}
use Rattle.host_laws.specs.turn_laws.proofs.Stationing.{linked_handle, Steady}
use Rattle.host_laws.specs.turn_laws.proofs.Hearing.{with_owed}
use Rattle.host_laws.specs.turn_laws.proofs.Answering.{made_by}
use Rattle.host_laws.specs.turn_laws.proofs.Coming.{handed_piece, handed_answer}
use Rattle.host_laws.specs.turn_laws.proofs.Keeping.{calling, Kept}
use Rattle.host_laws.specs.air_laws.specs.AirLaws.{IsLastEnd}
use Rattle.host_laws.specs.air_laws.proofs.Following.{Reached, known_a, known_b, order_told, Keeps, reached_first, along}
use Rattle.host_laws.specs.air_laws.proofs.Resting.{next_going}
use Rattle.host_laws.specs.rest_laws.specs.Premises.{AsksOnce}
use Rattle.host_laws.specs.rest_laws.proofs.Answering.{if_upper, piece_wants}
use Rattle.host_laws.specs.host_model.proofs.Orderly.{hosts_are_orderly}
use Rattle.scenario_laws.specs.Captures.{client_of, server_of, Ran}
use Rattle.scenario_laws.specs.OneLink.{links_told, begun_with, links_at_begin, HasOneLink, PushesHaveOneLink}
use Rattle.scenario_laws.proofs.Fronts.{fits, ended_links, with_ends, fronts_ran}

-- ---- how many links there were

number_if : (test : Bool) (one other : Radio) (number : ℕ) → one.number ≡ number → other.number ≡ number → (if test then one else other).number ≡ number
number_if true one other number first second = first
number_if false one other number first second = second

reached_number : (radio : Radio) → (after_reaching radio).number ≡ radio.number
reached_number radio = number_if (is_reached radio) (record radio { b = owing (Called ∷ []) radio.b; phase = Requested }) radio radio.number refl refl

-- there is one more where host b accepts a call
abbrev MayJoin : Radio → Radio → Type 0
MayJoin old new = (new.number ≡ old.number) ⊎ ((new.number ≡ old.number + 1) × (is_requested old.phase ≡ true))

joins_by : (radio one : Radio) (test : Bool) → is_requested radio.phase ≡ test → one.number ≡ radio.number → MayJoin radio (if test then joined one else one)
joins_by radio one true is same = inr (omega (arith, same), is)
joins_by radio one false is same = inl same

order_number : (side : Side) (order : Order) (radio : Radio) → MayJoin radio (after_order side order radio)
order_number A Reset radio = inl refl
order_number B Reset radio = inl refl
order_number A ReadBuffers radio = inl refl
order_number B ReadBuffers radio = inl refl
order_number A ReadAddress radio = inl refl
order_number B ReadAddress radio = inl refl
order_number A Scan radio = inl (reached_number (owes A (Returned 0x0C1A (0 ∷ []) ∷ []) (scanning A 0x03 radio)))
order_number B Scan radio = inl (reached_number (owes B (Returned 0x0C1A (0 ∷ []) ∷ []) (scanning B 0x03 radio)))
order_number A Page radio =
    let one : Radio = owes A (Stated 0x0405 ∷ []) radio in
    let paging : Radio = record one { phase = Paging } in
    inl (number_if (may_page one) (after_reaching paging) one radio.number (reached_number paging) refl)
order_number B Page radio = inl refl
order_number A Accept radio = inl refl
order_number B Accept radio = joins_by radio (owes B (Stated 0x0409 ∷ []) radio) (is_requested radio.phase) refl refl
order_number A (End handle) radio =
    let one : Radio = owes A (Stated 0x0406 ∷ []) radio in
    inl (number_if (knows_link A one && (handle == one.number)) (parted 0x16 0x13 one) one radio.number refl refl)
order_number B (End handle) radio =
    let one : Radio = owes B (Stated 0x0406 ∷ []) radio in
    inl (number_if (knows_link B one && (handle == one.number)) (parted 0x13 0x16 one) one radio.number refl refl)
order_number A (Data handle piece) radio = inl refl
order_number B (Data handle piece) radio = inl refl

-- a word makes no link, and host a is told of none
abbrev AreSame : Radio → Radio → Type 0
AreSame old new = (new.number ≡ old.number) × (new.a.told ≡ old.a.told)

met_same : (checked : Bool) (queue : List (List ℕ)) (fate : Fate) (radio : Radio) → AreSame radio (after_meeting Ab fate checked queue radio)
met_same checked [] fate radio = (refl, refl)
met_same checked (frame ∷ rest) fate radio = (refl, refl)

met_same_back : (checked : Bool) (queue : List (List ℕ)) (fate : Fate) (radio : Radio) → AreSame radio (after_meeting Ba fate checked queue radio)
met_same_back checked [] fate radio = (refl, refl)
met_same_back checked (frame ∷ rest) fate radio = (refl, refl)

acts_same : {S T G H : Type 0} (U : Upper S G) (V : Upper T H) (deed : Deed) (old new : World S T) → Acts U V deed old new → AreSame old.radio new.radio
acts_same U V Nothing old new acts = absurd acts
acts_same U V (Meets Ab fate) old new acts = rw acts (met_same (checks V old.b old.radio.a.waiting) old.radio.a.waiting fate old.radio)
acts_same U V (Meets Ba fate) old new acts = rw acts (met_same_back (checks U old.a old.radio.b.waiting) old.radio.b.waiting fate old.radio)
acts_same U V (Fires A) old new (armed, g, same) = rw same (refl, refl)
acts_same U V (Fires B) old new (armed, h, same) = rw same (refl, refl)
acts_same U V FiresBoth old new (armed, g, h, same) = rw same (refl, refl)
acts_same U V Breaks old new acts = rw acts (refl, refl)
acts_same U V Cancels old new (may, g, same) = rw same (refl, refl)

calls_now : (phase : Phase) → is_requested phase ≡ true → calling phase ≡ 1
calls_now Apart is = absurd cc
calls_now Paging is = refl
calls_now Requested is = refl
calls_now Together is = absurd cc

-- ---- host a wants no link

module _ {S G : Type 0} (U : Upper S G) (once : AsksOnce U) where
  abbrev Content : S → Type 0
  Content s = U.wants_link s ≡ false

  effort_content : (effort : Effort) (old new : Station S) → MakesEffort U A effort old new → Content old.upper → Content new.upper
  effort_content Taking old new does none = ap (λ (s : Station S). U.wants_link s.upper) does.new_is ∙ once.says old.upper does.pdu does.after does.next none
  effort_content Putting old new does none = ap (λ (s : Station S). U.wants_link s.upper) does.new_is ∙ none
  effort_content Asking old new does none = ap (λ (s : Station S). U.wants_link s.upper) does.new_is ∙ none
  effort_content Leaving old new does none = ap (λ (s : Station S). U.wants_link s.upper) does.new_is ∙ none
  effort_content Commanding old new does none = ap (λ (s : Station S). U.wants_link s.upper) does.new_is ∙ none

  event_content : (answers : List G) (event : Option LinkEvent) (s : S) → Content s → Content (upper_told U answers event s)
  event_content answers None s none = none
  event_content answers (Some Up) s none = once.comes answers s
  event_content answers (Some (Down reason)) s none = once.hears answers (Linked (Down reason)) s tt none

  fired_content : (answers : List G) (old : Station S) → Content old.upper → Content (fired U answers old).upper
  fired_content answers old none = if_upper U (U.armed old.upper) (told U answers TimerFired old) old (once.hears answers TimerFired old.upper tt none) none

  acts_content : {T H : Type 0} (V : Upper T H) (deed : Deed) (old new : World S T) → Acts U V deed old new → Content old.a.upper → Content new.a.upper
  acts_content V Nothing old new acts none = absurd acts
  acts_content V (Meets Ab fate) old new acts none = rw acts none
  acts_content V (Meets Ba fate) old new acts none = rw acts none
  acts_content V (Fires A) old new (armed, g, same) none = rw same (once.hears g TimerFired old.a.upper tt none)
  acts_content V (Fires B) old new (armed, h, same) none = rw same none
  acts_content V FiresBoth old new (armed, g, h, same) none = rw same (fired_content g old.a none)
  acts_content V Breaks old new acts none = rw acts none
  acts_content V Cancels old new (may, g, same) none = rw same (once.hears g Cancelled old.a.upper tt none)

  -- once it is told of the link that it asked for
  made_content : (answers : List G) (handle number extra : ℕ) (together : Bool) (one : Controller) (rest : List Answer) (old : Station S) → one.owed ≡ LinkMade handle ∷ rest → Steady U number together extra one old → Content (hears_answer U answers A (LinkMade handle) old).upper
  made_content answers handle number extra together one rest old first steady =
      let owed : tidings one.owed ≡ Came handle ∷ tidings rest = ap tidings first in
      let led : Led one.told one.up (Came handle ∷ tidings rest) number together = subst (λ (l : List Tiding). Led one.told one.up l number together) owed steady.led in
      let counted : made (tidings one.owed) ≡ 1 + made (tidings rest) = ap made owed in
      let asked = steady.awaits.awaited (omega arith) in
      let off : old.link ≡ None = steady.link ∙ ap (λ (b : Bool). linked_handle b one.told) led.0 in
      subst (λ (s : Station S). Content s.upper) (made_by U answers A handle old asked off) (once.comes answers old.upper)

-- ---- as a push begins

abbrev IsWithin : Happening → Type 0
IsWithin (Opens push name) = ⊥
IsWithin happening = Unit {0}

at_begin-more : (side : Side) (past : List Entry) (entry : Entry) → links_at_begin side (past ++ entry ∷ []) ≡ begun_with side past (links_at_begin side past) entry
at_begin-more side past entry = led_by-append (begun_with side) [] 0 past (entry ∷ [])

none_more : (side : Side) (past : List Entry) → links_at_begin side (past ++ []) ≡ links_at_begin side past
none_more side past = ap (links_at_begin side) (append-nil past)

within_count : (side : Side) (happening : Happening) (past : List Entry) → IsWithin happening → links_at_begin side (past ++ entries_of happening) ≡ links_at_begin side past
within_count side (Tries by effort) past within = none_more side past
within_count side (Departure by order) past within = at_begin-more side past (Moved by Out (order_packet by order))
within_count side (GivingBack by) past within = none_more side past
within_count side (Piecemeal by handle piece) past within = at_begin-more side past (Moved by Into (piece_packet handle piece))
within_count side (Answering by answer) past within = at_begin-more side past (Moved by Into (answer_packet by answer))
within_count side (Turns ordinal word) past within = at_begin-more side past (Acted ordinal word)
within_count side (Misses word) past within = none_more side past
within_count side (Opens push name) past within = absurd within
within_count side (Closes push outcome) past within = at_begin-more side past (Ended push outcome)

-- ---- the link of a push

module _ {S T G H : Type 0} (U : Upper S G) (V : Upper T H) (once : AsksOnce U) where
  -- where there were so many before the push, there is one more at most; then host a was not told of it yet, or wants none
  abbrev HasSpent : ℕ → World S T → Type 0
  HasSpent before w = (w.radio.number ≤ before) ⊎ ((w.radio.number ≡ before + 1) × ((w.radio.a.told ≤ before) ⊎ (U.wants_link w.a.upper ≡ false)))

  stays : (before : ℕ) (old new : World S T) → new.radio.number ≡ old.radio.number → new.radio.a.told ≡ old.radio.a.told → (U.wants_link old.a.upper ≡ false → U.wants_link new.a.upper ≡ false) → HasSpent before old → HasSpent before new
  stays before old new number told content spent = elim spent [
    | inl few ↦ inl (omega arith)
    | inr one ↦ (let is = one.0 in inr (omega arith, elim one.1 [ inl untold ↦ inl (omega arith) | inr none ↦ inr (content none) ]))
  ]

  -- a link more is made only where host a wants one and knows of all that there were
  grows : (before : ℕ) (old new : World S T) → new.radio.number ≡ old.radio.number + 1 → new.radio.a.told ≡ old.radio.a.told → old.radio.a.told ≡ old.radio.number → U.wants_link old.a.upper ≡ true → HasSpent before old → HasSpent before new
  grows before old new number told all wants spent = elim spent [
    | inl few ↦ elim (cases_lt old.radio.number before) [ inl below ↦ inl (omega arith) | inr reached ↦ inr (omega arith, inl (omega arith)) ]
    | inr one ↦ (let is = one.0 in elim one.1 [ inl untold ↦ absurd (omega arith) | inr none ↦ absurd cc ])
  ]

  moves_out : (before : ℕ) (side : Side) (order : Order) (old new : World S T) → new.radio ≡ after_order side order old.radio → new.a.upper ≡ old.a.upper → Kept U V old.radio old.a old.b old.pushes.going → HasSpent before old → HasSpent before new
  moves_out before side order old new radio upper kept spent =
      let told = ap (λ (r : Radio). r.a.told) radio ∙ order_told A side order old.radio in
      let number = ap (λ (r : Radio). r.number) radio in
      elim (order_number side order old.radio) [
        | inl same ↦ stays before old new (number ∙ same) told (λ none. ap U.wants_link upper ∙ none) spent
        | inr joins ↦
            (let called = calls_now old.radio.phase joins.1 in
            grows before old new (number ∙ joins.0) told (kept.parts called).told_a (kept.calls (omega arith)).wants spent)
      ]

  -- host a is told something
  told_so : (before : ℕ) (answers : List G) (answer : Answer) (old new : World S T) → new.radio.number ≡ old.radio.number → new.radio.a.told ≡ old.radio.a.told → new.a ≡ hears_answer U answers A answer old.a → HasSpent before old → HasSpent before new
  told_so before answers answer old new number told heard spent =
      stays before old new number told (λ none. ap (λ (s : Station S). U.wants_link s.upper) heard ∙ event_content U once answers (event_in answer old.a) old.a.upper none) spent

  hears : (before : ℕ) (answers : List G) (answer : Answer) (rest : List Answer) (old new : World S T) → old.radio.a.owed ≡ answer ∷ rest → new.radio.number ≡ old.radio.number → new.radio.a ≡ after_telling answer (with_owed rest old.radio.a) → new.a ≡ hears_answer U answers A answer old.a
      → Kept U V old.radio old.a old.b old.pushes.going → HasSpent before old → HasSpent before new
  hears before answers (LinkMade handle) rest old new first number is heard kept spent =
      let none = ap (λ (s : Station S). U.wants_link s.upper) heard ∙ made_content U once answers handle old.radio.number (calling old.radio.phase) (is_together old.radio.phase) old.radio.a rest old.a first kept.one in
      elim spent [ inl few ↦ inl (omega arith) | inr one ↦ (let was = one.0 in inr (omega arith, inr none)) ]
  hears before answers (LinkGone handle reason) rest old new first number is heard kept spent = told_so before answers (LinkGone handle reason) old new number (ap (λ (c : Controller). c.told) is) heard spent
  hears before answers (Returned opcode params) rest old new first number is heard kept spent = told_so before answers (Returned opcode params) old new number (ap (λ (c : Controller). c.told) is) heard spent
  hears before answers (Stated opcode) rest old new first number is heard kept spent = told_so before answers (Stated opcode) old new number (ap (λ (c : Controller). c.told) is) heard spent
  hears before answers Called rest old new first number is heard kept spent = told_so before answers Called old new number (ap (λ (c : Controller). c.told) is) heard spent
  hears before answers (GivenBack handle n) rest old new first number is heard kept spent = told_so before answers (GivenBack handle n) old new number (ap (λ (c : Controller). c.told) is) heard spent

  -- ---- one happening

  does_spend : (before : ℕ) (happening : Happening) (old new : World S T) → IsWithin happening → Does U V happening old new → Kept U V old.radio old.a old.b old.pushes.going → HasSpent before old → HasSpent before new
  does_spend before (Tries A effort) old new within (station, makes, same) kept spent = rw same (stays before old (record old { a = station }) refl refl (effort_content U once effort old.a station makes) spent)
  does_spend before (Tries B effort) old new within (station, makes, same) kept spent = rw same spent
  does_spend before (Departure A order) old new within (rest, first, same) kept spent = rw same (moves_out before A order old (record old { radio = after_order A order old.radio; a = record old.a { out = rest } }) refl refl kept spent)
  does_spend before (Departure B order) old new within (rest, first, same) kept spent = rw same (moves_out before B order old (record old { radio = after_order B order old.radio; b = record old.b { out = rest } }) refl refl kept spent)
  does_spend before (GivingBack A) old new within same kept spent = rw same spent
  does_spend before (GivingBack B) old new within same kept spent = rw same spent
  does_spend before (Piecemeal A handle piece) old new within (rest, first, here, g, same) kept spent =
      stays before old new (ap (λ (w : World S T). w.radio.number) same) (ap (λ (w : World S T). w.radio.a.told) same ∙ ap (λ (c : Controller). c.told) (handed_piece old.radio.a piece rest first))
      (λ none. ap (λ (w : World S T). U.wants_link w.a.upper) same ∙ piece_wants U g handle piece old.a once none) spent
  does_spend before (Piecemeal B handle piece) old new within (rest, first, here, h, same) kept spent = rw same spent
  does_spend before (Answering A answer) old new within (rest, none, first, g, same) kept spent =
      hears before g answer rest old new first (ap (λ (w : World S T). w.radio.number) same) (ap (λ (w : World S T). w.radio.a) same ∙ handed_answer old.radio.a answer rest none first) (ap (λ (w : World S T). w.a) same) kept spent
  does_spend before (Answering B answer) old new within (rest, none, first, h, same) kept spent = rw same spent
  does_spend before (Turns ordinal word) old new within (rest, is_word, ordinal_is, mid, acts, same) kept spent =
      let deed = found word old.radio in
      let is = acts_same U V deed old mid acts in
      rw same (stays before old mid is.0 is.1 (acts_content U once V deed old mid acts) spent)
  does_spend before (Misses word) old new within (rest, nothing, same) kept spent = rw same spent
  does_spend before (Opens push name) old new within does kept spent = absurd within
  does_spend before (Closes push outcome) old new within (going, push_is, idle, is, apart, none_a, none_b, quiet_a, quiet_b, same) kept spent = rw same spent

  -- ---- along a run

  record Spends (past : List Entry) (w : World S T) : Type 0 where
    same : links_at_begin B past ≡ links_at_begin A past
    spent : HasSpent (links_at_begin A past) w

  within_so : (happening : Happening) (past : List Entry) (old new : World S T) → IsWithin happening → Does U V happening old new → Kept U V old.radio old.a old.b old.pushes.going → Spends past old → Spends (past ++ entries_of happening) new
  within_so happening past old new within does kept p = record {
    same = within_count B happening past within ∙ (p.same ∙ sym (within_count A happening past within));
    spent = subst (λ (n : ℕ). HasSpent n new) (sym (within_count A happening past within)) (does_spend (links_at_begin A past) happening old new within does kept p.spent);
  }

  all_told : (one : Controller) (number : ℕ) (together : Bool) → tidings one.owed ≡ [] → Led one.told one.up (tidings one.owed) number together → one.told ≡ number
  all_told one number together none led = (subst (λ (l : List Tiding). Led one.told one.up l number together) none led).0

  spends : (happenings : List Happening) (first : World S T) → Keeps U V happenings first (λ past words w. Spends past w)
  spends happenings first (Tries side effort) ahead past words old new reached does next p = within_so (Tries side effort) past old new tt does reached.kept p
  spends happenings first (Departure side order) ahead past words old new reached does next p = within_so (Departure side order) past old new tt does reached.kept p
  spends happenings first (GivingBack side) ahead past words old new reached does next p = within_so (GivingBack side) past old new tt does reached.kept p
  spends happenings first (Piecemeal side handle piece) ahead past words old new reached does next p = within_so (Piecemeal side handle piece) past old new tt does reached.kept p
  spends happenings first (Answering side answer) ahead past words old new reached does next p = within_so (Answering side answer) past old new tt does reached.kept p
  spends happenings first (Turns ordinal word) ahead past words old new reached does next p = within_so (Turns ordinal word) past old new tt does reached.kept p
  spends happenings first (Misses word) ahead past words old new reached does next p = within_so (Misses word) past old new tt does reached.kept p
  spends happenings first (Opens push name) ahead past words old new reached (idle, next, push_is, g, same) after p =
      let rests = reached.kept.rests (next_going old.pushes.going (slice_get old.pushes.names old.pushes.begun) name next) in
      let one = all_told old.radio.a old.radio.number (is_together old.radio.phase) rests.none_a reached.kept.one.led in
      let other = all_told old.radio.b old.radio.number (is_together old.radio.phase) rests.none_b reached.kept.other.led in
      let count_a = (known_a U V happenings first _ past words old reached).count in
      let count_b = (known_b U V happenings first _ past words old reached).count in
      let begun_a = at_begin-more A past (Begun push) in
      let begun_b = at_begin-more B past (Begun push) in
      let number : new.radio.number ≡ old.radio.number = ap (λ (w : World S T). w.radio.number) same in
      record { same = omega arith; spent = inl (omega arith) }
  spends happenings first (Closes push outcome) ahead past words old new reached does next p = within_so (Closes push outcome) past old new tt does reached.kept p

  -- each host was told of one link more at most
  one_more : (before : ℕ) (w : World S T) → HasSpent before w → w.radio.number ≤ before + 1
  one_more before w spent = elim spent [ inl few ↦ omega arith | inr one ↦ (let is = one.0 in omega arith) ]

  pub have_one : (size count : ℕ) (names : List (List ℕ)) (happenings : List Happening) (w : World S T) → Fits U V size → Runs U V happenings (first_world U V size count names) w → HasOneLink A (all_entries happenings) × HasOneLink B (all_entries happenings)
  have_one size count names happenings w fits runs =
      let first = first_world U V size count names in
      let all = along U V happenings first (λ past words w. Spends past w) happenings [] [] first w fits.frames_a fits.frames_b fits.idles (spends happenings first) runs (reached_first U V size count names happenings fits) (record { same = refl; spent = inl (omega arith) }) in
      let past = all_entries happenings in
      let kept = all.reached.kept in
      let count_a = (known_a U V happenings first [] past (all_words happenings) w all.reached).count in
      let count_b = (known_b U V happenings first [] past (all_words happenings) w all.reached).count in
      let low_a = led_low w.radio.a.told w.radio.a.up (tidings w.radio.a.owed) w.radio.number (is_together w.radio.phase) kept.one.led in
      let low_b = led_low w.radio.b.told w.radio.b.up (tidings w.radio.b.owed) w.radio.number (is_together w.radio.phase) kept.other.led in
      let more = one_more (links_at_begin A past) w all.now.spent in
      let same = all.now.same in
      (omega arith, omega arith)

-- ---- a scenario

ended_one : (side : Side) (past : List Entry) (push : ℕ) (outcome : Outcome) → HasOneLink side past → HasOneLink side (past ++ Ended push outcome ∷ [])
ended_one side past push outcome one =
    let told : links_told side (past ++ Ended push outcome ∷ []) ≡ links_told side past = ap (λ (known : Linking). length (known.past ++ option_to_list known.up)) (ended_links side past push outcome) in
    let begun = at_begin-more side past (Ended push outcome) in
    omega arith

one_link : (side : Side) (scenario : Scenario) (content : Option Contents) (capture : List Entry) → Ran scenario content capture → HasOneLink side capture
one_link side scenario content capture ran =
    let once = (hosts_are_orderly scenario.settings scenario.settings content).once in
    let both = have_one (client_of scenario) (server_of scenario content) once scenario.acl_length scenario.acl_count scenario.names ran.happenings ran.world (fits scenario content) ran.happened in
    subst (HasOneLink side) (sym ran.capture_is) (with_ends (HasOneLink side) ran.world.pushes (all_entries ran.happenings) ran.ends (ended_one side (all_entries ran.happenings)) ran.last (of side both.0 both.1))
  where
    of : (one : Side) → HasOneLink A (all_entries ran.happenings) → HasOneLink B (all_entries ran.happenings) → HasOneLink one (all_entries ran.happenings)
    of A a b = a
    of B a b = b

pub pushes_have_one_link : PushesHaveOneLink
pushes_have_one_link scenario content capture side ran n = one_link side scenario content (take n capture) (fronts_ran scenario content capture (take n capture) ran (drop n capture, sym (take-append-drop n capture)))
