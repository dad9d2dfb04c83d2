-- A world that is settled is at rest.
use Rattle.std.proofs.Common.{◌≡◌, ℕ, ◌+◌, ◌<◌, ◌≤◌, ◌==◌, ◌||◌, not, Bool, true, false, List, [], ◌∷◌, ◌++◌, length, map, Option, Some, None, if◌then◌else◌, inl, inr, refl, sym, ap, ◌∙◌, arith}
use Rattle.std.specs.List.{list_any}
use Rattle.station_laws.specs.acl_fragments.specs.Pieces.{Piece}
use Rattle.station_laws.specs.push_terms.specs.declared.word.Side.{Side}
use Rattle.station_laws.specs.push_terms.specs.declared.word.Side.TheVariants.{A, B}
use Rattle.station_laws.specs.capture.specs.Entries.{Entry}
use Rattle.station_laws.specs.radio_model.specs.Controllers.{Answer, Controller, is_empty}
use Rattle.station_laws.specs.radio_model.specs.Owed.{back}
use Rattle.station_laws.specs.radio_model.specs.Radio.{Phase, Apart, Paging, Requested, Together, is_apart, is_paging, is_requested, is_together}
use Rattle.station_laws.specs.world_model.specs.Machines.{Upper}
use Rattle.station_laws.specs.world_model.specs.Stations.{Order, Station, opcode, asks, is_end, IsStopped, Taking, Putting, Asking, Leaving, Commanding}
use Rattle.station_laws.specs.world_model.specs.Worlds.{World, Happening, IsSettled, IsStill, IsAtRest, first_world, all_entries}
use Rattle.station_laws.specs.turn_laws.specs.WorldLaws.{Fits}
use Rattle.station_laws.specs.turn_laws.proofs.Leading.{Tiding, tidings, made}
use Rattle.station_laws.specs.turn_laws.proofs.Wiring.{sent, has_end, count}
use Rattle.station_laws.specs.turn_laws.proofs.Stationing.{linked_handle, Steady}
use Rattle.station_laws.specs.turn_laws.proofs.Keeping.{calling, Kept}
use Rattle.air_laws.proofs.Owing.{zero_held}
use Rattle.air_laws.proofs.Booking.{AccountOf}
use Rattle.air_laws.proofs.Balancing.{booked_all}
use Rattle.air_laws.proofs.Following.{Keeps, reached_first, along}
use Rattle.air_laws.proofs.Resting.{rest_led}
use Rattle.station_laws.specs.WorldLaws.{AreSizes}
use Rattle.station_laws.proofs.Owing.{numbers_in, numbers_of}
use Rattle.station_laws.proofs.Pending.{Pending, number_awaited}
use Rattle.station_laws.proofs.Running.{runs_keep, first_keeps}
use Rattle.rest_laws.specs.Premises.{AreOrderly}
use Rattle.rest_laws.specs.Laws.{SettledRests}
use Rattle.rest_laws.proofs.Living.{due, HasLearnt, LivesOf}
use Rattle.rest_laws.proofs.Calling.{scans, called, requesting, Calls}
use Rattle.rest_laws.proofs.Happening.{LivelyIn, does_lively}

-- ---- from the first moment on

pub first_lively : {S T G H : Type 0} (U : Upper S G) (V : Upper T H) (size count : ℕ) (names : List (List ℕ)) → length names ≤ 0x0EFF → LivelyIn U (first_world U V size count names)
first_lively U V size count names few = record {
  a = record { own_waiting = (tt, (tt, (tt, tt))); own_out = tt; learnt = inr (record { first = inl (0x1009 ∷ [], refl); unasked = refl; off = refl }); waited = λ asked. absurd cc; ends = λ ending on. absurd cc };
  b = record { own_waiting = (tt, (tt, (tt, (tt, tt)))); own_out = tt; learnt = inr (record { first = inl (0x1009 ∷ 0x0C1A ∷ [], refl); unasked = refl; off = refl }); waited = λ asked. absurd cc; ends = λ ending on. absurd cc };
  calls = record { requests = refl; scanned = λ unheard. omega arith; paging = λ on. absurd cc };
  link = inl (record { parts = record { off_a = refl; off_b = refl; told_a = refl; told_b = refl }; separate = refl; room = λ going. absurd cc });
  number_few = omega arith;
  begun_few = omega arith;
  names_few = few;
}

pub keeps_lively : {S T G H : Type 0} (U : Upper S G) (V : Upper T H) (size count : ℕ) (names : List (List ℕ)) (happenings : List Happening) → AreOrderly U V → AreSizes size count
    → Keeps U V happenings (first_world U V size count names) (λ past words w. LivelyIn U w)
keeps_lively U V size count names happenings orderly sizes happening ahead past words old new reached does next lively =
    does_lively U V size count happening old new orderly.idles orderly.once does reached.kept
    (runs_keep U V size count reached.done (first_world U V size count names) old sizes reached.runs (first_keeps U V size count names)) lively

-- ---- one host where nothing moves

none_awaited : (awaited : Option ℕ) → [] ≡ number_awaited awaited → awaited ≡ None
none_awaited None is = refl
none_awaited (Some number) is = absurd cc

none_waits : {S G : Type 0} (U : Upper S G) (side : Side) (station : Station S) (waiting : List Order) → station.waiting ≡ waiting → station.awaited ≡ None → IsStopped U side station → waiting ≡ []
none_waits U side station [] is free stopped = refl
none_waits U side station (order ∷ rest) is free stopped = absurd (stopped Commanding _ (record { order = order; rest = rest; first = is; none_awaited = free; new_is = refl }))

none_goes : {S G : Type 0} (U : Upper S G) (side : Side) (station : Station S) (handle : ℕ) (pieces : List Piece) → station.pieces ≡ pieces → station.link ≡ Some handle → station.outstanding < station.total → IsStopped U side station → pieces ≡ []
none_goes U side station handle [] is link free stopped = refl
none_goes U side station handle (piece ∷ rest) is link free stopped = absurd (stopped Putting _ (record { handle = handle; link = link; free = free; piece = piece; rest = rest; first = is; new_is = refl }))

none_said : {S G : Type 0} (U : Upper S G) (side : Side) (station : Station S) (handle : ℕ) (next : Option (List ℕ × S)) → U.next station.upper ≡ next → station.pieces ≡ [] → station.link ≡ Some handle → station.outstanding < station.total → IsStopped U side station → next ≡ None
none_said U side station handle None is none link free stopped = refl
none_said U side station handle (Some one) is none link free stopped =
    absurd (stopped Taking _ (record { handle = handle; link = link; none_waits = none; free = free; pdu = one.0; after = one.1; next = is; new_is = refl }))

by_link : {S : Type 0} (up : Bool) (told : ℕ) (station : Station S) (P : Type 0) → station.link ≡ linked_handle up told → (up ≡ true → station.link ≡ Some told → P) → (up ≡ false → P) → P
by_link true told station P link on off = on refl link
by_link false told station P link on off = off refl

knows_buffers : (total : ℕ) (numbers : List ℕ) (asked : Bool) (link : Option ℕ) → numbers ≡ [] → HasLearnt total numbers asked link → 1 ≤ total
knows_buffers total numbers asked link none learnt = elim learnt [
  | inl some ↦ some
  | inr learning ↦ elim learning.first [ inl all ↦ (let is = all.1 in absurd cc) | inr one ↦ (let is = one.1 in absurd cc) ]
]

-- all its packets came back
none_out : {S : Type 0} (limit : ℕ) (side : Side) (past : List Entry) (one : Controller) (station : Station S) → station.out ≡ [] → one.owed ≡ [] → one.taken ≡ 0 → AccountOf limit side past one station → station.outstanding ≡ 0
none_out limit side past one station out owed taken account =
    let nothing : length (sent one.told station.out) ≡ 0 = ap (λ (l : List Order). length (sent one.told l)) out in
    let backs : back one.told one.owed ≡ 0 = ap (λ (l : List Answer). back one.told l) owed in
    let held : (if one.told == one.told then one.taken else 0) ≡ 0 = ap (λ (n : ℕ). if one.told == one.told then n else 0) taken ∙ zero_held (one.told == one.told) in
    by_up one.up (λ on. let holds = account.holds on in let all = account.on on in omega arith) (λ off. (account.off off).0)
  where
    by_up : (up : Bool) {P : Type 0} → (up ≡ true → P) → (up ≡ false → P) → P
    by_up true on off = on refl
    by_up false on off = off refl

pub record Stops {S G : Type 0} (U : Upper S G) (one : Controller) (station : Station S) : Type 0 where
  pub none_waits : station.waiting ≡ []
  pub none_goes : station.pieces ≡ []
  pub none_next : (handle : ℕ) → station.link ≡ Some handle → U.next station.upper ≡ None

stops : {S G : Type 0} (U : Upper S G) (side : Side) (number : ℕ) (together : Bool) (extra limit : ℕ) (past : List Entry) (one : Controller) (station : Station S) → Steady U number together extra one station → LivesOf side extra one station
    → Pending one.owed station → AccountOf limit side past one station → station.out ≡ [] → one.owed ≡ [] → one.taken ≡ 0 → IsStopped U side station → Stops U one station
stops {S} U side number together extra limit past one station steady lives pending account out owed taken stopped =
    let quiet : [] ≡ number_awaited station.awaited = sym (ap (λ (l : List Order). numbers_of l ++ numbers_in one.owed) out ∙ ap (λ (l : List Answer). numbers_in l) owed) ∙ pending.pends in
    let free = none_awaited station.awaited quiet in
    let waiting = none_waits U side station station.waiting refl free stopped in
    let numbers : due station.awaited station.waiting ≡ [] = ap (λ (awaited : Option ℕ). number_awaited awaited ++ map opcode station.waiting) free ∙ ap (λ (l : List Order). map opcode l) waiting in
    let some = knows_buffers station.total (due station.awaited station.waiting) station.asked station.link numbers lives.learnt in
    let held = none_out limit side past one station out owed taken account in
    let pieces : station.pieces ≡ [] =
    by_link one.up one.told station (station.pieces ≡ []) steady.link (λ on link. none_goes U side station one.told station.pieces refl link (omega arith) stopped) (λ off. steady.off off) in
    record {
      none_waits = waiting;
      none_goes = pieces;
      none_next = λ handle link. none_said U side station handle (U.next station.upper) refl pieces link (omega arith) stopped;
    }

-- ---- nothing is awaited

unasked_by : (asked : Bool) (n : ℕ) → (asked ≡ true → 1 ≤ n) → n ≡ 0 → asked ≡ false
unasked_by true n some none = let more = some refl in absurd (omega arith)
unasked_by false n some none = refl

pub still : {S G : Type 0} (U : Upper S G) (side : Side) (extra : ℕ) (one : Controller) (station : Station S) → extra ≡ 0 → Stops U one station → LivesOf side extra one station → station.out ≡ [] → one.coming ≡ [] → one.owed ≡ [] → one.taken ≡ 0 → IsStill U one station
still U side extra one station none stops lives out coming owed taken =
    let goes : count station.out ≡ 0 = ap count out in
    let told : made (tidings one.owed) ≡ 0 = ap (λ (l : List Answer). made (tidings l)) owed in
    record {
      none_waits = stops.none_waits;
      none_goes = stops.none_goes;
      none_out = out;
      unasked = unasked_by station.asked (count station.out + (extra + made (tidings one.owed))) lives.waited (omega arith);
      none_next = stops.none_next;
      none_comes = coming;
      none_owed = owed;
      returned = taken;
    }

-- no page goes on
pub record Unpaged (phase : Phase) : Type 0 where
  pub uncalled : calling phase ≡ 0
  pub paged : (is_paging phase || is_requested phase) ≡ false

unpaged_by : (phase : Phase) → (is_paging phase ≡ true → ⊥) → requesting phase ≡ 0 → Unpaged phase
unpaged_by Apart never none = record { uncalled = refl; paged = refl }
unpaged_by Paging never none = absurd (never refl)
unpaged_by Requested never none = absurd (omega arith)
unpaged_by Together never none = record { uncalled = refl; paged = refl }

unpaged : (phase : Phase) (scan calls : ℕ) (waiting out : List Order) → Calls phase scan calls waiting out → calls ≡ 0 → waiting ≡ [] → out ≡ [] → Unpaged phase
unpaged phase scan calls waiting out is none waits goes =
    let one : count waiting ≡ 0 = ap count waits in
    let two : count out ≡ 0 = ap count goes in
    let three : scans waiting ≡ 0 = ap scans waits in
    let four : scans out ≡ 0 = ap scans goes in
    let requests = is.requests in
    unpaged_by phase (λ on. let some = is.scanned (is.paging on) in omega arith) (omega arith)

-- ---- no host wants the link otherwise than it is

not_wanted : {S G : Type 0} (U : Upper S G) (one : Controller) (station : Station S) (wants : Bool) → U.wants_link station.upper ≡ wants → station.link ≡ None → station.asked ≡ false → station.waiting ≡ [] → IsStopped U A station → wants ≡ false
not_wanted U one station false is off unasked none stopped = refl
not_wanted U one station true is off unasked none stopped =
    absurd (stopped Asking _ (record { wants = is; off = off; unasked = unasked; none_waits = ap (λ (l : List Order). list_any asks l) none; new_is = refl }))

-- an end that was asked for is on its way
unended_by : (told : ℕ) (up ending : Bool) (waiting out : List Order) (rest : List Tiding) → (ending ≡ true → up ≡ true → (has_end told waiting || (has_end told out || not (is_empty rest))) ≡ true) → up ≡ true → waiting ≡ [] → out ≡ [] → rest ≡ [] → ending ≡ false
unended_by told up false waiting out rest ends on one two three = refl
unended_by told up true waiting out rest ends on one two three =
    let is = ends refl on in
    let none : (has_end told waiting || (has_end told out || not (is_empty rest))) ≡ false =
    ap (λ (l : List Order). has_end told l || (has_end told out || not (is_empty rest))) one ∙ ap (λ (l : List Order). has_end told l || not (is_empty rest)) two ∙ ap (λ (l : List Tiding). not (is_empty l)) three in
    absurd cc

stays : {S G : Type 0} (U : Upper S G) (side : Side) (station : Station S) (handle : ℕ) (leaves : Bool) → U.leaves_link station.upper ≡ leaves → station.link ≡ Some handle → station.pieces ≡ [] → U.next station.upper ≡ None → station.ending ≡ false
    → station.waiting ≡ [] → IsStopped U side station → leaves ≡ false
stays U side station handle false is link pieces next unended none stopped = refl
stays U side station handle true is link pieces next unended none stopped =
    absurd (stopped Leaving _ (record { handle = handle; link = link; none_waits = pieces; none_next = next; leaves = is; unended = unended; none_ends = ap (λ (l : List Order). list_any is_end l) none; new_is = refl }))

pub no_fall : {S G : Type 0} (U : Upper S G) (side : Side) (number : ℕ) (extra : ℕ) (together : Bool) (one : Controller) (station : Station S) → Steady U number together extra one station → LivesOf side extra one station → IsStill U one station → IsStopped U side station
    → together ≡ true → U.leaves_link station.upper ≡ false
no_fall U side number extra together one station steady lives rest stopped up =
    let known = rest_led one number together rest.none_owed steady.led in
    let on : one.up ≡ true = known.1 ∙ up in
    let link : station.link ≡ Some one.told = steady.link ∙ ap (λ (b : Bool). linked_handle b one.told) on in
    let unended = unended_by one.told one.up station.ending station.waiting station.out (tidings one.owed) lives.ends on rest.none_waits rest.none_out (ap tidings rest.none_owed) in
    stays U side station one.told (U.leaves_link station.upper) refl link rest.none_goes (rest.none_next one.told link) unended rest.none_waits stopped

apart_is : (phase : Phase) → (is_paging phase || is_requested phase) ≡ false → is_together phase ≡ false → is_apart phase ≡ true
apart_is Apart paged separate = refl
apart_is Paging paged separate = absurd cc
apart_is Requested paged separate = absurd cc
apart_is Together paged separate = absurd cc

-- ---- the world

rests : {S T G H : Type 0} (U : Upper S G) (V : Upper T H) (limit : ℕ) (past : List Entry) (w : World S T) → Kept U V w.radio w.a w.b w.pushes.going → Pending w.radio.a.owed w.a → Pending w.radio.b.owed w.b
    → AccountOf limit A past w.radio.a w.a → AccountOf limit B past w.radio.b w.b → LivelyIn U w → IsSettled U V w → IsAtRest U V w
rests U V limit past w kept pending_a pending_b account_a account_b lively settled =
    let number = w.radio.number in
    let together = is_together w.radio.phase in
    let stops_a = stops U A number together (calling w.radio.phase) limit past w.radio.a w.a kept.one lively.a pending_a account_a settled.out_a settled.still_a.1 settled.returned_a settled.stopped_a in
    let stops_b = stops V B number together 0 limit past w.radio.b w.b kept.other lively.b pending_b account_b settled.out_b settled.still_b.1 settled.returned_b settled.stopped_b in
    let paged = unpaged w.radio.phase w.radio.b.scan (called w.radio.b.owed) w.b.waiting w.b.out lively.calls (ap called settled.still_b.1) stops_b.none_waits settled.out_b in
    let still_a = still U A (calling w.radio.phase) w.radio.a w.a paged.uncalled stops_a lively.a settled.out_a settled.still_a.0 settled.still_a.1 settled.returned_a in
    let still_b = still V B 0 w.radio.b w.b refl stops_b lively.b settled.out_b settled.still_b.0 settled.still_b.1 settled.returned_b in
    let known = rest_led w.radio.a number together settled.still_a.1 kept.one.led in
    record {
      still_a = still_a;
      still_b = still_b;
      paged = paged.paged;
      calm = record {
        no_rise = λ off going.
            not_wanted U w.radio.a w.a (U.wants_link w.a.upper) refl (kept.one.link ∙ ap (λ (b : Bool). linked_handle b w.radio.a.told) (known.1 ∙ off)) still_a.unasked still_a.none_waits settled.stopped_a;
        no_fall_a = no_fall U A number (calling w.radio.phase) together w.radio.a w.a kept.one lively.a still_a settled.stopped_a;
        no_fall_b = no_fall V B number 0 together w.radio.b w.b kept.other lively.b still_b settled.stopped_b;
        no_begin = λ unbegun idle. settled.no_begin idle;
        no_end = λ off going idle. settled.no_end (apart_is w.radio.phase paged.paged off) going idle;
      };
    }

pub settled_rests : {S T G H : Type 0} (U : Upper S G) (V : Upper T H) → SettledRests U V
settled_rests U V size count names happenings w orderly sizes few runs settled =
    let first = first_world U V size count names in
    let fits : Fits U V size = record { long = sizes.long; frames_a = orderly.frames_a; frames_b = orderly.frames_b; idles = orderly.idles } in
    let arrived = along U V happenings first (λ past words w. LivelyIn U w) happenings [] [] first w orderly.frames_a orderly.frames_b orderly.idles (keeps_lively U V size count names happenings orderly sizes) runs
    (reached_first U V size count names happenings fits) (first_lively U V size count names few) in
    let answered = runs_keep U V size count happenings first w sizes runs (first_keeps U V size count names) in
    let books = (booked_all U V size count names happenings w fits runs).books in
    rests U V count (all_entries happenings) w arrived.reached.kept answered.a answered.b books.a books.b arrived.now settled
