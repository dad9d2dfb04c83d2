-- Each run of the world is a run of PDUs that move one at a time, and so of turns.
use Rattle.std.proofs.Common.{◌≡◌, ℕ, ◌≤◌, Bool, true, false, List, [], ◌∷◌, ◌++◌, Option, Some, None, if◌then◌else◌, refl, ap, ◌∙◌, inl, arith, subst}
use Rattle.std.specs.Prelude.{slice_get}
use Rattle.world_model.specs.push_terms.specs.declared.word.Side.TheVariants.{A, B}
use Rattle.world_model.specs.push_terms.specs.declared.word.Word.{Word}
use Rattle.world_model.specs.push_terms.specs.declared.outcome.Outcome.{Outcome}
use Rattle.world_model.specs.push_terms.specs.Words.{IsWord}
use Rattle.world_model.specs.radio_model.specs.Controllers.{Controller, new_controller}
use Rattle.world_model.specs.radio_model.specs.Radio.{Phase, Apart, Paging, Requested, Together, is_apart, is_together, new_radio, found}
use Rattle.world_model.specs.Machines.{Opening, Upper}
use Rattle.world_model.specs.Pushes.{next_name, one_begun, one_ended}
use Rattle.world_model.specs.Talks.{Talk, Told, Done}
use Rattle.world_model.specs.Carriages.{Deeds, Misses as Passing, Opens as Opened, Closes as Closed}
use Rattle.world_model.specs.Stations.{first_station, told, longest_pdu, gives}
use Rattle.world_model.specs.Worlds.{World, Happening, Tries, Departure, GivingBack, Piecemeal, Answering, Turns, Misses, Opens, Closes, IsAtRest, words_in, Acts, Does}
use Rattle.world_model.specs.PerLink.{Linkage}
use Rattle.turn_laws.specs.Premises.{SaysFrames, Idles}
use Rattle.turn_laws.proofs.Advancing.{Both, breaks_linked}
use Rattle.turn_laws.proofs.Linkages.{as_was, order_by, answer_by, heard_more, linkage_one}
use Rattle.turn_laws.proofs.Leading.{Tiding, tidings, Led}
use Rattle.turn_laws.proofs.Stationing.{Steady}
use Rattle.turn_laws.proofs.Changing.{told_off}
use Rattle.turn_laws.proofs.Keeping.{calling, Kept, off_idle}
use Rattle.turn_laws.proofs.Ordering.{at, Carried}
use Rattle.turn_laws.proofs.Moving.{departs_a, departs_b, gives_a, gives_b, efforts_a, efforts_b}
use Rattle.turn_laws.proofs.Coming.{piece_a, piece_b, answer_a, answer_b}
use Rattle.turn_laws.proofs.Wording.{rests_alike, finds_frame, Worded, words_act}

-- ---- pushes

next_rests : (going : Bool) (name : List ℕ) (other : Option (List ℕ)) → (if going then None else other) ≡ Some name → going ≡ false
next_rests true name other is = cc
next_rests false name other is = refl

-- a host that knows of nothing else knows that there is no link
parted_led : (one : Controller) (number : ℕ) (together : Bool) → tidings one.owed ≡ [] → together ≡ false → Led one.told one.up (tidings one.owed) number together → (one.told ≡ number) × (one.up ≡ false)
parted_led one number together none separate led =
    let now : Led one.told one.up [] number together = subst (λ (l : List Tiding). Led one.told one.up l number together) none led in
    (now.0, now.1 ∙ separate)

opens : {S T G H : Type 0} (U : Upper S G) (V : Upper T H) (w : World S T) (talk_a talk_b : List Talk) (name : List ℕ) (answers : List G) → Idles U → U.is_idle w.a.upper ≡ true → next_name w.pushes ≡ Some name → Kept U V w.radio w.a w.b w.pushes.going
    → Carried U V as_was as_was w (record w { pushes = one_begun w.pushes; a = told U answers (Opening name) w.a }) talk_a talk_b []
opens {S} {T} U V w talk_a talk_b name answers idles idle next kept =
    let still = next_rests w.pushes.going name (slice_get w.pushes.names w.pushes.begun) next in
    let rests = kept.rests still in
    let known = parted_led w.radio.a w.radio.number (is_together w.radio.phase) rests.none_a rests.separate kept.one.led in
    let apart = subst (λ (l : Bool). Steady U w.radio.number l (calling w.radio.phase) w.radio.a w.a) rests.separate kept.one in
    record {
      kept = record {
        long = kept.long;
        one = told_off U w.radio.number (is_together w.radio.phase) (calling w.radio.phase) w.radio.a w.a (U.hear answers (Opening name) w.a.upper) known.1 kept.one;
        other = kept.other;
        calls = λ some. let wants = (kept.calls some).wants in let none = idles.wants_none w.a.upper idle in absurd cc;
        parts = kept.parts;
        rests = λ again. absurd cc;
      };
      doings = Opened name ∷ [];
      links_a = linkage_one talk_a (Told (Opening name));
      links_b = refl;
      talk_a' = talk_a ++ Told (Opening name) ∷ [];
      talk_b' = talk_b;
      carries = (_, (rests.separate, off_idle U w.radio.number (calling w.radio.phase) w.radio.a w.a talk_a known.1 known.0 apart, idle, next, answers, refl), refl);
      words_are = refl;
    }

apart_none : (phase : Phase) → is_apart phase ≡ true → (calling phase ≡ 0) × (is_together phase ≡ false)
apart_none Apart is = (refl, refl)
apart_none Paging is = cc
apart_none Requested is = cc
apart_none Together is = cc

closes : {S T G H : Type 0} (U : Upper S G) (V : Upper T H) (w : World S T) (talk_a talk_b : List Talk) (outcome : Outcome) → w.pushes.going ≡ true → U.is_idle w.a.upper ≡ true → U.outcome w.a.upper ≡ Some outcome
    → is_apart w.radio.phase ≡ true → w.radio.a.owed ≡ [] → w.radio.b.owed ≡ [] → Kept U V w.radio w.a w.b w.pushes.going
    → Carried U V as_was as_was w (record w { pushes = one_ended outcome w.pushes }) talk_a talk_b []
closes {S} {T} U V w talk_a talk_b outcome going idle is apart none_a none_b kept =
    let phase = apart_none w.radio.phase apart in
    let owed_a : tidings w.radio.a.owed ≡ [] = ap tidings none_a in
    let owed_b : tidings w.radio.b.owed ≡ [] = ap tidings none_b in
    let known_a = parted_led w.radio.a w.radio.number (is_together w.radio.phase) owed_a phase.1 kept.one.led in
    let known_b = parted_led w.radio.b w.radio.number (is_together w.radio.phase) owed_b phase.1 kept.other.led in
    let one = subst (λ (l : Bool). Steady U w.radio.number l (calling w.radio.phase) w.radio.a w.a) phase.1 kept.one in
    let other = subst (λ (l : Bool). Steady V w.radio.number l 0 w.radio.b w.b) phase.1 kept.other in
    record {
      kept = record {
        long = kept.long;
        one = kept.one;
        other = kept.other;
        calls = kept.calls;
        parts = kept.parts;
        rests = λ again. record { idle = idle; uncalled = phase.0; separate = phase.1; none_a = owed_a; none_b = owed_b };
      };
      doings = Closed outcome ∷ [];
      links_a = linkage_one talk_a (Done outcome);
      links_b = refl;
      talk_a' = talk_a ++ Done outcome ∷ [];
      talk_b' = talk_b;
      carries = (
        _,
        (
          phase.1,
          off_idle U w.radio.number (calling w.radio.phase) w.radio.a w.a talk_a known_a.1 known_a.0 one,
          off_idle V w.radio.number 0 w.radio.b w.b talk_b known_b.1 known_b.0 other,
          going,
          idle,
          is,
          refl,
        ),
        refl,
      );
      words_are = refl;
    }

-- ---- words

-- what a word does to what it finds
pub worded : {S T G H : Type 0} (U : Upper S G) (V : Upper T H) (word : Word) (old mid : World S T) (talk_a talk_b : List Talk) → Idles U → IsAtRest U V old → IsWord word → Acts U V (found word old.radio) old mid → Both U V (at old talk_a talk_b)
    → Kept U V old.radio old.a old.b old.pushes.going → Worded U V (found word old.radio) old mid talk_a talk_b
worded {S} {T} U V word old mid talk_a talk_b idles rest is_word acts both kept =
    words_act U V (found word old.radio) old mid talk_a talk_b idles
    (λ way fate is. finds_frame word old.radio.served old.radio.a.waiting old.radio.b.waiting (is_together old.radio.phase) way fate is_word is)
    (breaks_linked word old.radio.served old.radio.a.waiting old.radio.b.waiting (is_together old.radio.phase)) rest acts both kept

turns : {S T G H : Type 0} (U : Upper S G) (V : Upper T H) (ordinal : ℕ) (word : Word) (old new : World S T) (talk_a talk_b : List Talk) → Idles U → Does U V (Turns ordinal word) old new → Both U V (at old talk_a talk_b)
    → Kept U V old.radio old.a old.b old.pushes.going → Carried U V as_was as_was old new talk_a talk_b (word ∷ [])
turns {S} {T} U V ordinal word old new talk_a talk_b idles (rest, is_word, ordinal_is, mid, acts, same) both kept =
    let acted : Worded U V (found word old.radio) old mid talk_a talk_b = worded U V word old mid talk_a talk_b idles rest is_word acts both kept in
    rw same (record {
      kept = acted.kept;
      doings = Deeds word ∷ [];
      links_a = acted.links_a;
      links_b = acted.links_b;
      talk_a' = acted.talk_a';
      talk_b' = acted.talk_b';
      carries = (at mid acted.talk_a' acted.talk_b', (rests_alike U V old talk_a talk_b rest kept, acted.acts), refl);
      words_are = refl;
    })

misses : {S T G H : Type 0} (U : Upper S G) (V : Upper T H) (word : Word) (old new : World S T) (talk_a talk_b : List Talk) → Does U V (Misses word) old new → Kept U V old.radio old.a old.b old.pushes.going → Carried U V as_was as_was old new talk_a talk_b (word ∷ [])
misses U V word old new talk_a talk_b (rest, nothing, same) kept =
    rw same (record {
      kept = kept;
      doings = Passing word ∷ [];
      links_a = refl;
      links_b = refl;
      talk_a' = talk_a;
      talk_b' = talk_b;
      carries = (at old talk_a talk_b, (rests_alike U V old talk_a talk_b rest kept, nothing, refl), refl);
      words_are = refl;
    })

-- ---- whatever happens

-- what it adds to the links of each host
abbrev pub by_a : {S T : Type 0} → Happening → World S T → Linkage → Linkage
by_a (Departure A order) w l = order_by order w.radio.a l
by_a (Piecemeal A handle piece) w l = heard_more (gives longest_pdu w.a.joining piece) l
by_a (Answering A answer) w l = answer_by answer l
by_a happening w l = l

abbrev pub by_b : {S T : Type 0} → Happening → World S T → Linkage → Linkage
by_b (Departure B order) w l = order_by order w.radio.b l
by_b (Piecemeal B handle piece) w l = heard_more (gives longest_pdu w.b.joining piece) l
by_b (Answering B answer) w l = answer_by answer l
by_b happening w l = l

pub happens :
    {S T G H : Type 0} (U : Upper S G) (V : Upper T H) (happening : Happening) (old new : World S T) (talk_a talk_b : List Talk) → SaysFrames U → SaysFrames V → Idles U → Does U V happening old new → Both U V (at old talk_a talk_b)
    → Kept U V old.radio old.a old.b old.pushes.going → Carried U V (by_a happening old) (by_b happening old) old new talk_a talk_b (words_in happening)
happens U V (Tries A effort) old new talk_a talk_b frames_a frames_b idles (station, does, same) both kept = rw same (efforts_a U V old talk_a talk_b effort station frames_a idles does kept)
happens U V (Tries B effort) old new talk_a talk_b frames_a frames_b idles (station, does, same) both kept = rw same (efforts_b U V old talk_a talk_b effort station frames_b does kept)
happens U V (Departure A order) old new talk_a talk_b frames_a frames_b idles (rest, first, same) both kept = rw same (departs_a U V old talk_a talk_b order rest idles first kept)
happens U V (Departure B order) old new talk_a talk_b frames_a frames_b idles (rest, first, same) both kept = rw same (departs_b U V old talk_a talk_b order rest first kept)
happens U V (GivingBack A) old new talk_a talk_b frames_a frames_b idles same both kept = rw same (gives_a U V old talk_a talk_b kept)
happens U V (GivingBack B) old new talk_a talk_b frames_a frames_b idles same both kept = rw same (gives_b U V old talk_a talk_b kept)
happens U V (Piecemeal A handle piece) old new talk_a talk_b frames_a frames_b idles (rest, first, here, answers, same) both kept = rw same (piece_a U V old talk_a talk_b answers handle piece rest first here kept)
happens U V (Piecemeal B handle piece) old new talk_a talk_b frames_a frames_b idles (rest, first, here, answers, same) both kept = rw same (piece_b U V old talk_a talk_b answers handle piece rest first here kept)
happens U V (Answering A answer) old new talk_a talk_b frames_a frames_b idles (rest, none, first, answers, same) both kept = rw same (answer_a U V old talk_a talk_b answers answer rest none first kept)
happens U V (Answering B answer) old new talk_a talk_b frames_a frames_b idles (rest, none, first, answers, same) both kept = rw same (answer_b U V old talk_a talk_b answers answer rest none first kept)
happens U V (Turns ordinal word) old new talk_a talk_b frames_a frames_b idles does both kept = turns U V ordinal word old new talk_a talk_b idles does both kept
happens U V (Misses word) old new talk_a talk_b frames_a frames_b idles does both kept = misses U V word old new talk_a talk_b does kept
happens U V (Opens push name) old new talk_a talk_b frames_a frames_b idles (idle, next, push_is, answers, same) both kept = rw same (opens U V old talk_a talk_b name answers idles idle next kept)
happens U V (Closes push outcome) old new talk_a talk_b frames_a frames_b idles (going, push_is, idle, is, apart, none_a, none_b, quiet_a, quiet_b, same) both kept =
    rw same (closes U V old talk_a talk_b outcome going idle is apart none_a none_b kept)

-- ---- from the first moment on

first_steady_a : {S G : Type 0} (U : Upper S G) → Steady U 0 false 0 new_controller (first_station U A)
first_steady_a U = record {
  led = (refl, refl);
  link = refl;
  long = omega arith;
  off = λ off. refl;
  wired = record { left = λ up. cc; frames = tt; air = tt };
  incoming = record { once = tt; listens = inl refl };
  awaits = record { few = omega arith; awaited = λ some. absurd (omega arith) };
  ends = record { within_waiting = (omega arith, (omega arith, (omega arith, tt))); within_out = tt; leaving = λ up ends. absurd cc; last = tt; still = λ handle. refl };
}

first_steady_b : {S G : Type 0} (U : Upper S G) → Steady U 0 false 0 new_controller (first_station U B)
first_steady_b U = record {
  led = (refl, refl);
  link = refl;
  long = omega arith;
  off = λ off. refl;
  wired = record { left = λ up. cc; frames = tt; air = tt };
  incoming = record { once = tt; listens = inl refl };
  awaits = record { few = omega arith; awaited = λ some. absurd (omega arith) };
  ends = record { within_waiting = (omega arith, (omega arith, (omega arith, (omega arith, tt)))); within_out = tt; leaving = λ up ends. absurd cc; last = tt; still = λ handle. refl };
}

pub first_kept : {S T G H : Type 0} (U : Upper S G) (V : Upper T H) (size n : ℕ) → 27 ≤ size → Idles U → Kept U V (new_radio size n) (first_station U A) (first_station V B) false
first_kept U V size n long idles = record {
  long = long;
  one = first_steady_a U;
  other = first_steady_b V;
  calls = λ some. absurd (omega arith);
  parts = λ called. absurd (omega arith);
  rests = λ still. record { idle = idles.first; uncalled = refl; separate = refl; none_a = refl; none_b = refl };
}
