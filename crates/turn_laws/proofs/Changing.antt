-- What one host and its controller become when a link comes or goes, when a frame meets its fate, and when a word tells the host
-- something.
use Rattle.std.proofs.Common.{◌≡◌, ◌⊎◌, ℕ, ◌+◌, ◌≤◌, ◌||◌, Bool, true, false, List, [], ◌∷◌, ◌++◌, refl, sym, ap, ◌∙◌, inl, inr, arith, subst}
use Rattle.std.proofs.lemmas.List.{map-append}
use Rattle.std.proofs.lemmas.List.Concat.{flat_map-append}
use Rattle.world_model.specs.acl_fragments.specs.Pieces.{Piece}
use Rattle.world_model.specs.radio_model.specs.Controllers.{Answer, LinkMade, LinkGone, Controller, owing as owes}
use Rattle.world_model.specs.radio_model.specs.Radio.{parting}
use Rattle.world_model.specs.Machines.{Up, Down, Upper}
use Rattle.world_model.specs.Talks.{Talk}
use Rattle.world_model.specs.Carriages.{owing}
use Rattle.world_model.specs.Stations.{Order, Station, longest_pdu}
use Rattle.turn_laws.proofs.Joining.{EndsOnce}
use Rattle.turn_laws.proofs.Leading.{Tiding, Came, Went, tidings, tiding_in, event_of, events, made, Led, led_made, led_gone}
use Rattle.turn_laws.proofs.Wiring.{AllFrames, has_end, count, IsListening, Awaits, IsLeaving}
use Rattle.turn_laws.proofs.Stationing.{Steady, end_of}

-- ---- tidings more

tidings_more : (owed : List Answer) (answer : Answer) (tiding : Tiding) → tiding_in answer ≡ tiding ∷ [] → tidings (owed ++ answer ∷ []) ≡ tidings owed ++ tiding ∷ []
tidings_more owed answer tiding is = flat_map-append tiding_in owed (answer ∷ []) ∙ ap (λ (l : List Tiding). tidings owed ++ (l ++ [])) is

events_more : (owed : List Answer) (answer : Answer) (tiding : Tiding) → tiding_in answer ≡ tiding ∷ [] → events (tidings (owed ++ answer ∷ [])) ≡ events (tidings owed) ++ event_of tiding ∷ []
events_more owed answer tiding is = ap events (tidings_more owed answer tiding is) ∙ map-append event_of (tidings owed) (tiding ∷ [])

made-append : (one two : List Tiding) → made (one ++ two) ≡ made one + made two
made-append [] two = omega arith
made-append (Came handle ∷ one) two = let same = made-append one two in omega arith
made-append (Went handle reason ∷ one) two = made-append one two

-- ---- a link comes

pub quiet_off : {S G : Type 0} (U : Upper S G) (up : Bool) (told number : ℕ) (upper : S) (pieces coming : List Piece) → up ≡ false → (coming ≡ []) ⊎ IsListening U up told number upper pieces → coming ≡ []
quiet_off U up told number upper pieces coming off either = elim either [ inl none ↦ none | inr listens ↦ (let on = listens.on in cc) ]

pub comes_steady : {S G : Type 0} (U : Upper S G) (number extra extra' : ℕ) (one : Controller) (station : Station S) → one.up ≡ false → station.asked ≡ true
    → count station.waiting + (count station.out + (extra' + (made (tidings one.owed) + 1))) ≤ 1 → Steady U number false extra one station
    → Steady U (number + 1) true extra' (owes (LinkMade (number + 1) ∷ []) one) station
comes_steady U number extra extra' one station off asked few steady =
    let same = tidings_more one.owed (LinkMade (number + 1)) (Came (number + 1)) refl in
    let counted = made-append (tidings one.owed) (Came (number + 1) ∷ []) in
    record {
      led = subst (λ (l : List Tiding). Led one.told one.up l (number + 1) true) (sym same) (led_made one.told one.up (tidings one.owed) number steady.led);
      link = steady.link;
      long = steady.long;
      off = steady.off;
      wired = steady.wired;
      incoming = record { once = steady.incoming.once; listens = inl (quiet_off U one.up one.told number station.upper station.pieces one.coming off steady.incoming.listens) };
      awaits = subst (λ (l : List Tiding). Awaits extra' l station.waiting station.out station.asked) (sym same) (record { few = omega arith; awaited = λ some. asked });
      ends = steady.ends;
    }

pub comes_owing : {S : Type 0} (number : ℕ) (one : Controller) (station : Station S) (talk : List Talk) → end_of (owes (LinkMade (number + 1) ∷ []) one) station talk ≡ owing Up (end_of one station talk)
comes_owing number one station talk =
    let same = events_more one.owed (LinkMade (number + 1)) (Came (number + 1)) refl in
    λ i. record (end_of one station talk) { owed = same i }

-- ---- a link goes

pub goes_steady : {S G : Type 0} (U : Upper S G) (number reason extra : ℕ) (one : Controller) (station : Station S) → Steady U number true extra one station → Steady U number false extra (parting number reason one) station
goes_steady U number reason extra one station steady =
    let same = tidings_more one.owed (LinkGone number reason) (Went number reason) refl in
    let counted = made-append (tidings one.owed) (Went number reason ∷ []) in
    let few = steady.awaits.few in
    record {
      led = subst (λ (l : List Tiding). Led one.told one.up l number false) (sym same) (led_gone one.told one.up (tidings one.owed) number reason steady.led);
      link = steady.link;
      long = steady.long;
      off = steady.off;
      wired = record { left = steady.wired.left; frames = steady.wired.frames; air = tt };
      incoming = steady.incoming;
      awaits = subst (λ (l : List Tiding). Awaits extra l station.waiting station.out station.asked) (sym same) (record { few = omega arith; awaited = λ some. steady.awaits.awaited (omega arith) });
      ends = steady.ends;
    }

pub goes_owing : {S : Type 0} (number reason : ℕ) (one : Controller) (station : Station S) (talk : List Talk) → end_of (parting number reason one) station talk ≡ owing (Down reason) (end_of one station talk)
goes_owing number reason one station talk =
    let same = events_more one.owed (LinkGone number reason) (Went number reason) refl in
    λ i. record (end_of one station talk) { owed = same i; queue = [] }

-- ---- a page begins

pub paged_steady : {S G : Type 0} (U : Upper S G) (number : ℕ) (together : Bool) (extra extra' : ℕ) (one : Controller) (station : Station S)
    → count station.waiting + (count station.out + (extra' + made (tidings one.owed))) ≤ 1 → (1 ≤ count station.out + (extra' + made (tidings one.owed)) → station.asked ≡ true)
    → Steady U number together extra one station → Steady U number together extra' one station
paged_steady U number together extra extra' one station few awaited steady = record {
  led = steady.led;
  link = steady.link;
  long = steady.long;
  off = steady.off;
  wired = steady.wired;
  incoming = steady.incoming;
  awaits = record { few = few; awaited = awaited };
  ends = steady.ends;
}

-- ---- a frame meets its fate

pub sends_steady : {S G : Type 0} (U : Upper S G) (number : ℕ) (together : Bool) (extra : ℕ) (one : Controller) (station : Station S) (queue : List (List ℕ)) → AllFrames queue
    → Steady U number together extra one station → Steady U number together extra (record one { waiting = queue }) station
sends_steady U number together extra one station queue all steady = record {
  led = steady.led;
  link = steady.link;
  long = steady.long;
  off = steady.off;
  wired = record { left = steady.wired.left; frames = steady.wired.frames; air = all };
  incoming = steady.incoming;
  awaits = steady.awaits;
  ends = steady.ends;
}

pub receives_steady : {S G : Type 0} (U : Upper S G) (number : ℕ) (together : Bool) (extra : ℕ) (one : Controller) (station : Station S) (coming : List Piece) → EndsOnce longest_pdu station.joining coming
    → IsListening U one.up one.told number station.upper station.pieces → Steady U number together extra one station → Steady U number together extra (record one { coming = coming }) station
receives_steady U number together extra one station coming once listens steady = record {
  led = steady.led;
  link = steady.link;
  long = steady.long;
  off = steady.off;
  wired = steady.wired;
  incoming = record { once = once; listens = inr listens };
  awaits = steady.awaits;
  ends = steady.ends;
}

-- ---- a host is told something

told_ends : (waiting out : List Order) (told : ℕ) (P : Type 0) → waiting ≡ [] → out ≡ [] → (has_end told waiting || has_end told out) ≡ true → P
told_ends [] [] told P none also is = absurd cc
told_ends (order ∷ waiting) out told P none also is = absurd cc
told_ends [] (order ∷ out) told P none also is = absurd cc

-- one that has nothing to put out
pub told_steady : {S G : Type 0} (U : Upper S G) (number : ℕ) (together : Bool) (extra : ℕ) (one : Controller) (station : Station S) (upper : S) → one.coming ≡ [] → station.waiting ≡ [] → station.out ≡ []
    → Steady U number together extra one station → Steady U number together extra one (record station { upper = upper })
told_steady U number together extra one station upper none waits goes steady = record {
  led = steady.led;
  link = steady.link;
  long = steady.long;
  off = steady.off;
  wired = steady.wired;
  incoming = record { once = steady.incoming.once; listens = inl none };
  awaits = steady.awaits;
  ends = record {
    within_waiting = steady.ends.within_waiting;
    within_out = steady.ends.within_out;
    leaving = λ up ends. told_ends station.waiting station.out one.told (IsLeaving U upper station.pieces) waits goes ends;
    last = steady.ends.last;
    still = steady.ends.still;
  };
}

-- one that knows of no link
pub told_off : {S G : Type 0} (U : Upper S G) (number : ℕ) (together : Bool) (extra : ℕ) (one : Controller) (station : Station S) (upper : S) → one.up ≡ false
    → Steady U number together extra one station → Steady U number together extra one (record station { upper = upper })
told_off U number together extra one station upper off steady = record {
  led = steady.led;
  link = steady.link;
  long = steady.long;
  off = steady.off;
  wired = steady.wired;
  incoming = record { once = steady.incoming.once; listens = inl (quiet_off U one.up one.told number station.upper station.pieces one.coming off steady.incoming.listens) };
  awaits = steady.awaits;
  ends = record {
    within_waiting = steady.ends.within_waiting;
    within_out = steady.ends.within_out;
    leaving = λ up ends. cc;
    last = steady.ends.last;
    still = steady.ends.still;
  };
}
