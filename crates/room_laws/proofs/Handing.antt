-- While a frame is handed over to a host, nothing else goes on: all is as it was at rest.
use Rattle.std.proofs.Common.{◌≡◌, ◌⊎◌, ℕ, ◌+◌, Bool, true, false, List, [], ◌∷◌, if◌then◌else◌, inl, inr, refl, sym, ap, ◌∙◌, subst}
use Rattle.rest_laws.specs.push_terms.specs.declared.word.Side.TheVariants.{A, B}
use Rattle.rest_laws.specs.push_terms.specs.declared.word.Way.{Way}
use Rattle.rest_laws.specs.push_terms.specs.declared.word.Way.TheVariants.{Ab, Ba}
use Rattle.rest_laws.specs.acl_fragments.specs.Pieces.{Piece}
use Rattle.rest_laws.specs.radio_model.specs.declared.fate.Fate.{Fate}
use Rattle.rest_laws.specs.radio_model.specs.declared.deed.Deed.{Deed}
use Rattle.rest_laws.specs.radio_model.specs.declared.deed.Deed.TheVariants.{Nothing, Meets, Fires, FiresBoth, Breaks, Cancels}
use Rattle.rest_laws.specs.radio_model.specs.Controllers.{Answer, Returned, Stated, Called, LinkMade, LinkGone, GivenBack, Controller, after_telling, after_handing}
use Rattle.rest_laws.specs.radio_model.specs.Radio.{Radio, is_together, found, after_meeting}
use Rattle.rest_laws.specs.world_model.specs.Machines.{Upper}
use Rattle.rest_laws.specs.world_model.specs.Turns.{IsCalm}
use Rattle.rest_laws.specs.world_model.specs.Stations.{Station, longest_pdu, gives, holds, is_handle, hears_each, hears_piece}
use Rattle.rest_laws.specs.world_model.specs.Worlds.{World, Happening, Tries, Departure, GivingBack, Piecemeal, Answering, Turns, Misses, Opens, Closes, IsStill, IsAtRest, checks, Acts, Does}
use Rattle.rest_laws.specs.turn_laws.specs.Premises.{Idles}
use Rattle.rest_laws.specs.turn_laws.proofs.Joining.{EndsOnce}
use Rattle.rest_laws.specs.turn_laws.proofs.Stationing.{Steady}
use Rattle.rest_laws.specs.turn_laws.proofs.Hearing.{with_coming, with_owed}
use Rattle.rest_laws.specs.turn_laws.proofs.Coming.{handed_piece, handed_answer}
use Rattle.rest_laws.specs.turn_laws.proofs.Keeping.{calling, Kept}
use Rattle.rest_laws.specs.air_laws.proofs.Resting.{rest_stops, back_rests}

-- what is handed over put aside
abbrev pub emptied : Radio → Radio
emptied radio = record radio { a = with_coming [] radio.a; b = with_coming [] radio.b }

abbrev pub without : {S T : Type 0} → World S T → World S T
without w = record w { radio = emptied w.radio }

-- one host alone is handed something, and beside that all is at rest
pub record IsHanding {S T G H : Type 0} (U : Upper S G) (V : Upper T H) (w : World S T) : Type 0 where
  pub rest : IsAtRest U V (without w)
  pub one : (w.radio.a.coming ≡ []) ⊎ (w.radio.b.coming ≡ [])

abbrev pub HandsNothing : {S T : Type 0} → World S T → Type 0
HandsNothing w = (w.radio.a.coming ≡ []) × (w.radio.b.coming ≡ [])

abbrev pub Hands : {S T G H : Type 0} → Upper S G → Upper T H → World S T → Type 0
Hands U V w = HandsNothing w ⊎ IsHanding U V w

-- ---- what else is true stays so

steady_without : {S G : Type 0} (U : Upper S G) (number : ℕ) (together : Bool) (extra : ℕ) (one : Controller) (station : Station S) → Steady U number together extra one station → Steady U number together extra (with_coming [] one) station
steady_without U number together extra one station steady = record {
  led = steady.led;
  link = steady.link;
  long = steady.long;
  off = steady.off;
  wired = steady.wired;
  incoming = record { once = tt; listens = inl refl };
  awaits = steady.awaits;
  ends = steady.ends;
}

kept_without : {S T G H : Type 0} (U : Upper S G) (V : Upper T H) (radio : Radio) (a : Station S) (b : Station T) (going : Bool) → Kept U V radio a b going → Kept U V (emptied radio) a b going
kept_without U V radio a b going kept = record {
  long = kept.long;
  one = steady_without U radio.number (is_together radio.phase) (calling radio.phase) radio.a a kept.one;
  other = steady_without V radio.number (is_together radio.phase) 0 radio.b b kept.other;
  calls = kept.calls;
  parts = λ is. let parts = kept.parts is in record { off_a = parts.off_a; off_b = parts.off_b; told_a = parts.told_a; told_b = parts.told_b };
  rests = λ is. let rests = kept.rests is in record { idle = rests.idle; uncalled = rests.uncalled; separate = rests.separate; none_a = rests.none_a; none_b = rests.none_b };
}

-- ---- a piece comes in, and is not the last

still_piece : {S G : Type 0} (U : Upper S G) (answers : List G) (handle : ℕ) (piece : Piece) (one : Controller) (old : Station S) (on : Bool) → IsStill U one old → gives longest_pdu old.joining piece ≡ []
    → IsStill U one (if on then record old { upper = hears_each U answers (gives longest_pdu old.joining piece) old.upper; joining = holds longest_pdu old.joining piece } else old)
still_piece {S} U answers handle piece one old true still none =
    let same : hears_each U answers (gives longest_pdu old.joining piece) old.upper ≡ old.upper = ap (λ (l : List (List ℕ)). hears_each U answers l old.upper) none in
    subst (λ (s : S). IsStill U one (record old { upper = s; joining = holds longest_pdu old.joining piece })) (sym same)
    (record {
      none_waits = still.none_waits;
      none_goes = still.none_goes;
      none_out = still.none_out;
      unasked = still.unasked;
      none_next = still.none_next;
      none_comes = still.none_comes;
      none_owed = still.none_owed;
      returned = still.returned;
    })
still_piece U answers handle piece one old false still none = still

upper_piece : {S G : Type 0} (U : Upper S G) (answers : List G) (piece : Piece) (old : Station S) (on : Bool) → gives longest_pdu old.joining piece ≡ []
    → (if on then record old { upper = hears_each U answers (gives longest_pdu old.joining piece) old.upper; joining = holds longest_pdu old.joining piece } else old).upper ≡ old.upper
upper_piece U answers piece old true none = ap (λ (l : List (List ℕ)). hears_each U answers l old.upper) none
upper_piece U answers piece old false none = refl

last_or_none : (joining : List ℕ) (coming : List Piece) (piece : Piece) (rest : List Piece) → coming ≡ piece ∷ rest → EndsOnce longest_pdu joining coming → (gives longest_pdu joining piece ≡ []) ⊎ (rest ≡ [])
last_or_none joining coming piece rest first once = (subst (λ (l : List Piece). EndsOnce longest_pdu joining l) first once).0

other_none : {P Q : Type 0} → (P → ⊥) → P ⊎ Q → Q
other_none never either = elim either [ inl p ↦ absurd (never p) | inr q ↦ q ]

piece_a : {S T G H : Type 0} (U : Upper S G) (V : Upper T H) (answers : List G) (handle : ℕ) (piece : Piece) (rest : List Piece) (old : World S T) → old.radio.a.coming ≡ piece ∷ rest
    → Kept U V old.radio old.a old.b old.pushes.going → IsHanding U V old
    → Hands U V (record old { radio = record old.radio { a = with_coming rest old.radio.a }; a = hears_piece U answers handle piece old.a })
piece_a {S} U V answers handle piece rest old first kept handing =
    let none_b : old.radio.b.coming ≡ [] = other_none (λ none. cc) handing.one in
    elim (last_or_none old.a.joining old.radio.a.coming piece rest first kept.one.incoming.once) [
      | inr last ↦ inl (last, none_b)
      | inl none ↦
          let on : Bool = is_handle handle old.a.link in
          let upper = upper_piece U answers piece old.a on none in
          inr (record {
            rest = record {
              still_a = still_piece U answers handle piece (with_coming [] old.radio.a) old.a on handing.rest.still_a none;
              still_b = handing.rest.still_b;
              paged = handing.rest.paged;
              calm = subst (λ (s : S). IsCalm U V (is_together old.radio.phase) old.pushes s old.b.upper) (sym upper) handing.rest.calm;
            };
            one = inr none_b;
          })
    ]

piece_b : {S T G H : Type 0} (U : Upper S G) (V : Upper T H) (answers : List H) (handle : ℕ) (piece : Piece) (rest : List Piece) (old : World S T) → old.radio.b.coming ≡ piece ∷ rest
    → Kept U V old.radio old.a old.b old.pushes.going → IsHanding U V old
    → Hands U V (record old { radio = record old.radio { b = with_coming rest old.radio.b }; b = hears_piece V answers handle piece old.b })
piece_b {T = T} U V answers handle piece rest old first kept handing =
    let none_a : old.radio.a.coming ≡ [] = other_none (λ none. cc) (either_way handing.one) in
    elim (last_or_none old.b.joining old.radio.b.coming piece rest first kept.other.incoming.once) [
      | inr last ↦ inl (none_a, last)
      | inl none ↦
          let on : Bool = is_handle handle old.b.link in
          let upper = upper_piece V answers piece old.b on none in
          inr (record {
            rest = record {
              still_a = handing.rest.still_a;
              still_b = still_piece V answers handle piece (with_coming [] old.radio.b) old.b on handing.rest.still_b none;
              paged = handing.rest.paged;
              calm = subst (λ (t : T). IsCalm U V (is_together old.radio.phase) old.pushes old.a.upper t) (sym upper) handing.rest.calm;
            };
            one = inl none_a;
          })
    ]
  where
    either_way : {P Q : Type 0} → P ⊎ Q → Q ⊎ P
    either_way either = elim either [ inl p ↦ inr p | inr q ↦ inl q ]

-- ---- a word hands a frame over

still_as : {S G : Type 0} (U : Upper S G) (one one' : Controller) (station : Station S) → one'.coming ≡ [] → one'.owed ≡ one.owed → one'.taken ≡ one.taken → IsStill U one station → IsStill U one' station
still_as U one one' station coming owed taken still = record {
  none_waits = still.none_waits;
  none_goes = still.none_goes;
  none_out = still.none_out;
  unasked = still.unasked;
  none_next = still.none_next;
  none_comes = coming;
  none_owed = owed ∙ still.none_owed;
  returned = taken ∙ still.returned;
}

meets_hand : {S T G H : Type 0} (U : Upper S G) (V : Upper T H) (way : Way) (fate : Fate) (checked : Bool) (queue : List (List ℕ)) (old : World S T) (turned : ℕ) → IsAtRest U V old → Hands U V (record old { radio = after_meeting way fate checked queue old.radio; turned = turned })
meets_hand U V way fate checked [] old turned rest = inl (rest.still_a.none_comes, rest.still_b.none_comes)
meets_hand U V Ab fate checked (frame ∷ queue) old turned rest =
    inr (record {
      rest = record { still_a = still_as U old.radio.a _ old.a refl refl refl rest.still_a; still_b = still_as V old.radio.b _ old.b refl refl refl rest.still_b; paged = rest.paged; calm = rest.calm };
      one = inl rest.still_a.none_comes;
    })
meets_hand U V Ba fate checked (frame ∷ queue) old turned rest =
    inr (record {
      rest = record { still_a = still_as U old.radio.a _ old.a refl refl refl rest.still_a; still_b = still_as V old.radio.b _ old.b refl refl refl rest.still_b; paged = rest.paged; calm = rest.calm };
      one = inr rest.still_b.none_comes;
    })

acts_hand : {S T G H : Type 0} (U : Upper S G) (V : Upper T H) (deed : Deed) (old mid : World S T) → IsAtRest U V old → Acts U V deed old mid → Hands U V (record mid { turned = mid.turned + 1 })
acts_hand U V Nothing old mid rest acts = absurd acts
acts_hand U V (Meets Ab fate) old mid rest acts = rw acts (meets_hand U V Ab fate (checks V old.b old.radio.a.waiting) old.radio.a.waiting old (old.turned + 1) rest)
acts_hand U V (Meets Ba fate) old mid rest acts = rw acts (meets_hand U V Ba fate (checks U old.a old.radio.b.waiting) old.radio.b.waiting old (old.turned + 1) rest)
acts_hand U V (Fires A) old mid rest (armed, g, same) = rw same (inl (rest.still_a.none_comes, rest.still_b.none_comes))
acts_hand U V (Fires B) old mid rest (armed, h, same) = rw same (inl (rest.still_a.none_comes, rest.still_b.none_comes))
acts_hand U V FiresBoth old mid rest (armed, g, h, same) = rw same (inl (rest.still_a.none_comes, rest.still_b.none_comes))
acts_hand U V Breaks old mid rest acts = rw acts (inl (rest.still_a.none_comes, rest.still_b.none_comes))
acts_hand U V Cancels old mid rest (may, g, same) = rw same (inl (rest.still_a.none_comes, rest.still_b.none_comes))

-- ---- answers hand nothing over

pub told_coming : (answer : Answer) (one : Controller) → (after_telling answer one).coming ≡ one.coming
told_coming (LinkMade handle) one = refl
told_coming (LinkGone handle reason) one = refl
told_coming (Returned opcode params) one = refl
told_coming (Stated opcode) one = refl
told_coming Called one = refl
told_coming (GivenBack handle count) one = refl

answered_coming : (one : Controller) (answer : Answer) (rest : List Answer) → one.coming ≡ [] → one.owed ≡ answer ∷ rest → (after_handing one).coming ≡ []
answered_coming one answer rest none first = ap (λ (c : Controller). c.coming) (handed_answer one answer rest none first) ∙ told_coming answer (with_owed rest one) ∙ none

-- ---- whatever happens

-- no order hands anything over
abbrev pub OrdersHandNone : {S T : Type 0} → World S T → World S T → Happening → Type 0
OrdersHandNone old new (Departure side order) = (new.radio.a.coming ≡ old.radio.a.coming) × (new.radio.b.coming ≡ old.radio.b.coming)
OrdersHandNone old new happening = Unit {0}

pub does_hand : {S T G H : Type 0} (U : Upper S G) (V : Upper T H) (happening : Happening) (old new : World S T) → Idles U → Kept U V old.radio old.a old.b old.pushes.going → OrdersHandNone old new happening → Does U V happening old new
    → Hands U V old → Hands U V new
does_hand U V (Turns ordinal word) old new idles kept none (rest, is_word, ordinal_is, mid, acts, same) hands = rw same (acts_hand U V (found word old.radio) old mid rest acts)
does_hand U V (Misses word) old new idles kept none (rest, nothing, same) hands = rw same (inl (rest.still_a.none_comes, rest.still_b.none_comes))
does_hand U V (Closes push outcome) old new idles kept none (going, push_is, idle, is, apart, none_a, none_b, quiet_a, quiet_b, same) hands = rw same (inl (quiet_a, quiet_b))
does_hand {S} {T} U V (Tries A effort) old new idles kept none (station, makes, same) hands =
    elim hands [
      | inl nothing ↦ rw same (inl nothing)
      | inr handing ↦ absurd (rest_stops U V (Tries A effort) (without old) (record (without old) { a = station }) idles tt handing.rest (kept_without U V old.radio old.a old.b old.pushes.going kept) (station, makes, refl))
    ]
does_hand {S} {T} U V (Tries B effort) old new idles kept none (station, makes, same) hands =
    elim hands [
      | inl nothing ↦ rw same (inl nothing)
      | inr handing ↦ absurd (rest_stops U V (Tries B effort) (without old) (record (without old) { b = station }) idles tt handing.rest (kept_without U V old.radio old.a old.b old.pushes.going kept) (station, makes, refl))
    ]
does_hand U V (Departure A order) old new idles kept none (rest, first, same) hands =
    elim hands [
      | inl nothing ↦ inl (none.0 ∙ nothing.0, none.1 ∙ nothing.1)
      | inr handing ↦ let empty = handing.rest.still_a.none_out in absurd cc
    ]
does_hand U V (Departure B order) old new idles kept none (rest, first, same) hands =
    elim hands [
      | inl nothing ↦ inl (none.0 ∙ nothing.0, none.1 ∙ nothing.1)
      | inr handing ↦ let empty = handing.rest.still_b.none_out in absurd cc
    ]
does_hand U V (GivingBack A) old new idles kept none same hands =
    rw same (elim hands [
      | inl nothing ↦ inl nothing
      | inr handing ↦ inr (record { rest = back_rests U V A (without old) _ handing.rest refl; one = handing.one })
    ])
does_hand U V (GivingBack B) old new idles kept none same hands =
    rw same (elim hands [
      | inl nothing ↦ inl nothing
      | inr handing ↦ inr (record { rest = back_rests U V B (without old) _ handing.rest refl; one = handing.one })
    ])
does_hand {S} {T} U V (Piecemeal A handle piece) old new idles kept none (rest, first, here, g, same) hands =
    rw (same, handed_piece old.radio.a piece rest first) (elim hands [
      | inl nothing ↦ let empty = nothing.0 in absurd cc
      | inr handing ↦ piece_a U V g handle piece rest old first kept handing
    ])
does_hand {S} {T} U V (Piecemeal B handle piece) old new idles kept none (rest, first, here, h, same) hands =
    rw (same, handed_piece old.radio.b piece rest first) (elim hands [
      | inl nothing ↦ let empty = nothing.1 in absurd cc
      | inr handing ↦ piece_b U V h handle piece rest old first kept handing
    ])
does_hand U V (Answering A answer) old new idles kept none (rest, quiet, first, g, same) hands =
    rw same (elim hands [
      | inl nothing ↦ inl (answered_coming old.radio.a answer rest quiet first, nothing.1)
      | inr handing ↦ let empty = handing.rest.still_a.none_owed in absurd cc
    ])
does_hand U V (Answering B answer) old new idles kept none (rest, quiet, first, h, same) hands =
    rw same (elim hands [
      | inl nothing ↦ inl (nothing.0, answered_coming old.radio.b answer rest quiet first)
      | inr handing ↦ let empty = handing.rest.still_b.none_owed in absurd cc
    ])
does_hand {S} {T} U V (Opens push name) old new idles kept none (idle, next, push_is, g, same) hands =
    elim hands [
      | inl nothing ↦ rw same (inl nothing)
      | inr handing ↦ absurd (rest_stops U V (Opens push name) (without old) _ idles tt handing.rest (kept_without U V old.radio old.a old.b old.pushes.going kept) (idle, next, push_is, g, refl))
    ]

-- so nothing is handed over where an order waits to move
pub hands_none : {S T G H : Type 0} (U : Upper S G) (V : Upper T H) (w : World S T) → Hands U V w → (w.a.out ≡ [] → w.b.out ≡ [] → ⊥) → HandsNothing w
hands_none U V w hands some = elim hands [ inl nothing ↦ nothing | inr handing ↦ absurd (some handing.rest.still_a.none_out handing.rest.still_b.none_out) ]
