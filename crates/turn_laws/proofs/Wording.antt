-- What the words of a script do in the world is what they do where PDUs move one at a time.
use Rattle.std.proofs.Common.{◌≡◌, ℕ, ◌+◌, ◌||◌, Bool, true, false, List, [], ◌∷◌, ◌++◌, length, Option, Some, None, if◌then◌else◌, refl, sym, ap, ◌∙◌, arith, subst}
use Rattle.world_model.specs.acl_fragments.specs.Pieces.{Piece, channel_of}
use Rattle.world_model.specs.push_terms.specs.declared.word.Side.TheVariants.{A, B}
use Rattle.world_model.specs.push_terms.specs.declared.word.Way.{Way}
use Rattle.world_model.specs.push_terms.specs.declared.word.Way.TheVariants.{Ab, Ba}
use Rattle.world_model.specs.push_terms.specs.declared.word.Word.{Word}
use Rattle.world_model.specs.push_terms.specs.declared.word.Word.TheVariants.{Pass, Lose, Repeat, Damage, Cut, Timer, Drop, Cancel}
use Rattle.world_model.specs.push_terms.specs.Words.{IsWord}
use Rattle.world_model.specs.capture.specs.Frames.{way_served}
use Rattle.world_model.specs.radio_model.specs.declared.fate.Fate.{Fate}
use Rattle.world_model.specs.radio_model.specs.declared.fate.Fate.TheVariants.{Delivered, Lost, Repeated, CutOff, Changed}
use Rattle.world_model.specs.radio_model.specs.declared.deed.Deed.{Deed}
use Rattle.world_model.specs.radio_model.specs.declared.deed.Deed.TheVariants.{Nothing, Meets, Fires, FiresBoth, Breaks, Cancels}
use Rattle.world_model.specs.radio_model.specs.Controllers.{Answer, Controller}
use Rattle.world_model.specs.radio_model.specs.Fates.{meets, comes_of, can_meet}
use Rattle.world_model.specs.radio_model.specs.Words.{first_meets, meets_on, passing, deed_of, served_by}
use Rattle.world_model.specs.radio_model.specs.Radio.{Radio, Phase, Apart, Paging, Requested, Together, is_paging, is_requested, is_together, after_meeting}
use Rattle.world_model.specs.Machines.{News, TimerFired, Cancelled, Upper}
use Rattle.world_model.specs.Talks.{Talk, Told, Met}
use Rattle.world_model.specs.Carriages.{End, Carriage, IsQuiet, IsIdle, MeetsFate, ActsOn, finds, with_events}
use Rattle.world_model.specs.Carriages as carriages
use Rattle.world_model.specs.Stations.{Order, Station, longest_pdu, told}
use Rattle.world_model.specs.Worlds.{World, IsStill, IsAtRest, checks, Acts}
use Rattle.world_model.specs.PerLink.{linkage}
use Rattle.turn_laws.specs.Premises.{Idles, IsAside}
use Rattle.turn_laws.proofs.Joining.{completions, KeepsHeader, meets_as}
use Rattle.turn_laws.proofs.Linkages.{linkage_one}
use Rattle.turn_laws.proofs.Leading.{tidings, events, Led}
use Rattle.turn_laws.proofs.Wiring.{sent, AllFrames, flowing, count, IsListening}
use Rattle.turn_laws.proofs.Stationing.{linked_handle, Steady, end_of}
use Rattle.turn_laws.proofs.Changing.{sends_steady, receives_steady, told_steady}
use Rattle.turn_laws.proofs.Keeping.{calling, Kept, partings}
use Rattle.turn_laws.proofs.Ordering.{at, flowing_none}
use Rattle.turn_laws.proofs.Advancing.{Both}
use Rattle.turn_laws.proofs.Facing.{on_by}

-- ---- at rest

still_next : {S G : Type 0} (U : Upper S G) (upper : S) (up : Bool) (told : ℕ) (link : Option ℕ) → link ≡ linked_handle up told → up ≡ true → ((handle : ℕ) → link ≡ Some handle → U.next upper ≡ None) → U.next upper ≡ None
still_next U upper true told link is up none = none told is
still_next U upper false told link is up none = cc

pub still_idle : {S G : Type 0} (U : Upper S G) (number : ℕ) (together : Bool) (extra : ℕ) (one : Controller) (station : Station S) (talk : List Talk) → IsStill U one station → Steady U number together extra one station → IsIdle U (end_of one station talk)
still_idle U number together extra one station talk still steady =
    let flow : sent one.told station.out ++ station.pieces ≡ [] = ap (λ (l : List Piece). sent one.told station.out ++ l) still.none_goes ∙ ap (λ (l : List Order). sent one.told l ++ []) still.none_out in
    record {
      none_owed = ap (λ (l : List Answer). events (tidings l)) still.none_owed;
      none_comes = ap (λ (l : List Piece). completions longest_pdu station.joining l) still.none_comes;
      said_all = λ on. record { none_waits = ap (λ (l : List Piece). flowing one.up one.begun l) flow ∙ flowing_none one.up one.begun; none_next = still_next U station.upper one.up one.told station.link steady.link on still.none_next };
    }

pub rests_alike : {S T G H : Type 0} (U : Upper S G) (V : Upper T H) (w : World S T) (talk_a talk_b : List Talk) → IsAtRest U V w → Kept U V w.radio w.a w.b w.pushes.going → carriages.IsAtRest U V (at w talk_a talk_b)
rests_alike U V w talk_a talk_b rest kept = record {
  idle_a = still_idle U w.radio.number (is_together w.radio.phase) (calling w.radio.phase) w.radio.a w.a talk_a rest.still_a kept.one;
  idle_b = still_idle V w.radio.number (is_together w.radio.phase) 0 w.radio.b w.b talk_b rest.still_b kept.other;
  calm = rest.calm;
}

uncalled : (phase : Phase) → (is_paging phase || is_requested phase) ≡ false → calling phase ≡ 0
uncalled Apart is = refl
uncalled Paging is = cc
uncalled Requested is = cc
uncalled Together is = refl

-- nothing is asked for
rests_none : {S T G H : Type 0} (U : Upper S G) (V : Upper T H) (w : World S T) → IsAtRest U V w → count w.a.waiting + (count w.a.out + calling w.radio.phase) ≡ 0
rests_none U V w rest =
    let waits : count w.a.waiting ≡ 0 = ap count rest.still_a.none_waits in
    let goes : count w.a.out ≡ 0 = ap count rest.still_a.none_out in
    let page = uncalled w.radio.phase rest.paged in
    omega arith

-- ---- a host is told something

told_kept_a : {S T G H : Type 0} (U : Upper S G) (V : Upper T H) (w : World S T) (answers : List G) (news : News) → Idles U → IsAside news → IsAtRest U V w → Kept U V w.radio w.a w.b w.pushes.going
    → Kept U V w.radio (told U answers news w.a) w.b w.pushes.going
told_kept_a U V w answers news idles aside rest kept =
    let none = rests_none U V w rest in
    record {
      long = kept.long;
      one = told_steady U w.radio.number (is_together w.radio.phase) (calling w.radio.phase) w.radio.a w.a (U.hear answers news w.a.upper) rest.still_a.none_comes rest.still_a.none_waits rest.still_a.none_out kept.one;
      other = kept.other;
      calls = λ some. absurd (omega arith);
      parts = kept.parts;
      rests = λ still. let rests = kept.rests still in record { idle = idles.hears answers news w.a.upper aside rests.idle; uncalled = rests.uncalled; separate = rests.separate; none_a = rests.none_a; none_b = rests.none_b };
    }

told_kept_b : {S T G H : Type 0} (U : Upper S G) (V : Upper T H) (radio : Radio) (a : Station S) (b : Station T) (going : Bool) (answers : List H) (news : News) → IsStill V radio.b b → Kept U V radio a b going
    → Kept U V radio a (told V answers news b) going
told_kept_b U V radio a b going answers news still kept = record {
  long = kept.long;
  one = kept.one;
  other = told_steady V radio.number (is_together radio.phase) 0 radio.b b (V.hear answers news b.upper) still.none_comes still.none_waits still.none_out kept.other;
  calls = kept.calls;
  parts = kept.parts;
  rests = kept.rests;
}

-- ---- a frame meets its fate

abbrev pub pick : Way → (ab ba : List (List ℕ)) → List (List ℕ)
pick Ab ab ba = ab
pick Ba ab ba = ba

pub record Found (way : Way) (fate : Fate) (ab ba : List (List ℕ)) : Type 0 where
  pub frame : List ℕ
  pub rest : List (List ℕ)
  pub is : pick way ab ba ≡ frame ∷ rest
  pub keeps : KeepsHeader fate

found_by : (way other : Way) (fate another : Fate) (can : Bool) (ab ba : List (List ℕ)) → Found other another ab ba → (if can then Meets other another else Nothing) ≡ Meets way fate → Found way fate ab ba
found_by way other fate another true ab ba it is =
    let ways : other ≡ way = cc in
    let fates : another ≡ fate = cc in
    subst (λ (f : Fate). Found way f ab ba) fates (subst (λ (w : Way). Found w another ab ba) ways it)
found_by way other fate another false ab ba it is = cc

found_ab : (way : Way) (fate another : Fate) (ab ba : List (List ℕ)) → KeepsHeader another → first_meets Ab another ab ba ≡ Meets way fate → Found way fate ab ba
found_ab way fate another [] ba keeps is = cc
found_ab way fate another (frame ∷ rest) ba keeps is = found_by way Ab fate another (can_meet another frame (length ba)) (frame ∷ rest) ba (record { frame = frame; rest = rest; is = refl; keeps = keeps }) is

found_ba : (way : Way) (fate another : Fate) (ab ba : List (List ℕ)) → KeepsHeader another → first_meets Ba another ba ab ≡ Meets way fate → Found way fate ab ba
found_ba way fate another ab [] keeps is = cc
found_ba way fate another ab (frame ∷ rest) keeps is = found_by way Ba fate another (can_meet another frame (length ab)) ab (frame ∷ rest) (record { frame = frame; rest = rest; is = refl; keeps = keeps }) is

found_on : (on way : Way) (fate another : Fate) (ab ba : List (List ℕ)) → KeepsHeader another → meets_on on another ab ba ≡ Meets way fate → Found way fate ab ba
found_on Ab way fate another ab ba keeps is = found_ab way fate another ab ba keeps is
found_on Ba way fate another ab ba keeps is = found_ba way fate another ab ba keeps is

found_passing : (on : Option Way) (way : Way) (fate : Fate) (ab ba : List (List ℕ)) → passing on ab ba ≡ Meets way fate → Found way fate ab ba
found_passing None way fate ab ba is = cc
found_passing (Some on) way fate ab ba is = found_on on way fate Delivered ab ba tt is

drops_never : (linked : Bool) (way : Way) (fate : Fate) (P : Type 0) → (if linked then Breaks else Nothing) ≡ Meets way fate → P
drops_never true way fate P is = absurd cc
drops_never false way fate P is = absurd cc

pub finds_frame : (word : Word) (served : Option Way) (ab ba : List (List ℕ)) (linked : Bool) (way : Way) (fate : Fate) → IsWord word → deed_of word served ab ba linked ≡ Meets way fate → Found way fate ab ba
finds_frame Pass served ab ba linked way fate word is = found_passing (way_served served ab ba) way fate ab ba is
finds_frame (Lose on) served ab ba linked way fate word is = found_on on way fate Lost ab ba tt is
finds_frame (Repeat on) served ab ba linked way fate word is = found_on on way fate Repeated ab ba tt is
finds_frame (Damage on place mask) served ab ba linked way fate word is = let low = word.0 in found_on on way fate (Changed place mask) ab ba (omega arith) is
finds_frame (Cut on packets) served ab ba linked way fate word is = found_on on way fate (CutOff packets) ab ba tt is
finds_frame (Timer side) served ab ba linked way fate word is = cc
finds_frame Drop served ab ba linked way fate word is = drops_never linked way fate _ is
finds_frame Cancel served ab ba linked way fate word is = cc

-- what stays of a frame is that frame
stays_frames : (size : ℕ) (fate : Fate) (checked : Bool) (frame : List ℕ) (rest : List (List ℕ)) → AllFrames (frame ∷ rest) → AllFrames ((meets size fate checked frame).stays ++ rest)
stays_frames size Delivered checked frame rest all = all.1
stays_frames size Lost checked frame rest all = all.1
stays_frames size Repeated checked frame rest all = all
stays_frames size (CutOff n) checked frame rest all = all.1
stays_frames size (Changed place mask) true frame rest all = all.1
stays_frames size (Changed place mask) false frame rest all = all.1

-- a host at rest, where a frame is in the air, knows of the link
settled_led : (one : Controller) (number : ℕ) (together : Bool) → one.owed ≡ [] → Led one.told one.up (tidings one.owed) number together → (one.told ≡ number) × (one.up ≡ together)
settled_led one number together none led = subst (λ (l : List Answer). Led one.told one.up (tidings l) number together) none led

abbrev met_ab : Fate → Bool → List ℕ → List (List ℕ) → Radio → Radio
met_ab fate checked frame rest radio = record radio {
  a = record radio.a { waiting = (meets radio.size fate checked frame).stays ++ rest };
  b = record radio.b { coming = (meets radio.size fate checked frame).pieces };
  served = served_by Ab fate radio.served;
}

met_ab_is : (fate : Fate) (checked : Bool) (frame : List ℕ) (rest queue : List (List ℕ)) (radio : Radio) → queue ≡ frame ∷ rest → radio.b.coming ≡ [] → after_meeting Ab fate checked queue radio ≡ met_ab fate checked frame rest radio
met_ab_is fate checked frame rest queue radio is none =
    ap (λ (l : List (List ℕ)). after_meeting Ab fate checked l radio) is
    ∙ ap (λ (l : List Piece). record (met_ab fate checked frame rest radio) { b = record radio.b { coming = l ++ (meets radio.size fate checked frame).pieces } }) none

abbrev met_ba : Fate → Bool → List ℕ → List (List ℕ) → Radio → Radio
met_ba fate checked frame rest radio = record radio {
  a = record radio.a { coming = (meets radio.size fate checked frame).pieces };
  b = record radio.b { waiting = (meets radio.size fate checked frame).stays ++ rest };
  served = served_by Ba fate radio.served;
}

met_ba_is : (fate : Fate) (checked : Bool) (frame : List ℕ) (rest queue : List (List ℕ)) (radio : Radio) → queue ≡ frame ∷ rest → radio.a.coming ≡ [] → after_meeting Ba fate checked queue radio ≡ met_ba fate checked frame rest radio
met_ba_is fate checked frame rest queue radio is none =
    ap (λ (l : List (List ℕ)). after_meeting Ba fate checked l radio) is
    ∙ ap (λ (l : List Piece). record (met_ba fate checked frame rest radio) { a = record radio.a { coming = l ++ (meets radio.size fate checked frame).pieces } }) none

listens_at : {S G : Type 0} (U : Upper S G) (number : ℕ) (together : Bool) (extra : ℕ) (one : Controller) (station : Station S) → IsStill U one station → one.up ≡ true → one.told ≡ number → U.leaves_link station.upper ≡ false → Steady U number together extra one station
    → IsListening U one.up one.told number station.upper station.pieces
listens_at U number together extra one station still up told stays steady =
    record { on = up; here = told; none_goes = still.none_goes; none_next = still_next U station.upper one.up one.told station.link steady.link up still.none_next; stays = stays }

pub record Worded {S T G H : Type 0} (U : Upper S G) (V : Upper T H) (deed : Deed) (old new : World S T) (talk_a talk_b : List Talk) : Type 0 where
  pub kept : Kept U V new.radio new.a new.b new.pushes.going
  pub talk_a' : List Talk
  pub talk_b' : List Talk
  pub acts : ActsOn U V deed (at old talk_a talk_b) (at new talk_a' talk_b')
  -- no word moves a PDU, or tells of a link
  pub links_a : linkage talk_a' ≡ linkage talk_a
  pub links_b : linkage talk_b' ≡ linkage talk_b

meets_ab :
    {S T G H : Type 0} (U : Upper S G) (V : Upper T H) (fate : Fate) (w : World S T) (talk_a talk_b : List Talk) → Found Ab fate w.radio.a.waiting w.radio.b.waiting → IsAtRest U V w → Both U V (at w talk_a talk_b) → Kept U V w.radio w.a w.b w.pushes.going
    → Worded U V (Meets Ab fate) w (record w { radio = after_meeting Ab fate (checks V w.b w.radio.a.waiting) w.radio.a.waiting w.radio }) talk_a talk_b
meets_ab {S} {T} U V fate w talk_a talk_b it rest both kept =
    let checked = checks V w.b w.radio.a.waiting in
    let asks : checked ≡ V.has_check w.b.upper (channel_of it.frame) = ap (λ (l : List (List ℕ)). checks V w.b l) it.is in
    let all : AllFrames (it.frame ∷ it.rest) = subst AllFrames it.is kept.one.wired.air in
    let sender = settled_led w.radio.a w.radio.number (is_together w.radio.phase) rest.still_a.none_owed kept.one.led in
    let receiver = settled_led w.radio.b w.radio.number (is_together w.radio.phase) rest.still_b.none_owed kept.other.led in
    let up_a = on_by w.radio.a.up w.radio.a.waiting it.frame it.rest both.a.off_queue it.is in
    let link : is_together w.radio.phase ≡ true = sym sender.1 ∙ up_a in
    let up_b : w.radio.b.up ≡ true = receiver.1 ∙ link in
    let met = meets_as w.radio.size fate checked w.b.joining it.frame kept.long all.0 it.keeps in
    let next : Radio = met_ab fate checked it.frame it.rest w.radio in
    let e : End S = end_of w.radio.a w.a talk_a in
    let f : End T = end_of w.radio.b w.b talk_b in
    let worded : Worded U V (Meets Ab fate) w (record w { radio = next }) talk_a talk_b = record {
      kept = record {
        long = kept.long;
        one = sends_steady U w.radio.number (is_together w.radio.phase) (calling w.radio.phase) w.radio.a w.a ((meets w.radio.size fate checked it.frame).stays ++ it.rest) (stays_frames w.radio.size fate checked it.frame it.rest all) kept.one;
        other = receives_steady V w.radio.number (is_together w.radio.phase) 0 w.radio.b w.b (meets w.radio.size fate checked it.frame).pieces met.once
            (listens_at V w.radio.number (is_together w.radio.phase) 0 w.radio.b w.b rest.still_b up_b receiver.0 (rest.calm.no_fall_b link) kept.other) kept.other;
        calls = kept.calls;
        parts = λ called. let parts = kept.parts called in record { off_a = parts.off_a; off_b = parts.off_b; told_a = parts.told_a; told_b = parts.told_b };
        rests = λ still. let rests = kept.rests still in record { idle = rests.idle; uncalled = rests.uncalled; separate = rests.separate; none_a = rests.none_a; none_b = rests.none_b };
      };
      talk_a' = talk_a ++ Met fate checked ∷ [];
      talk_b' = talk_b;
      links_a = linkage_one talk_a (Met fate checked);
      links_b = refl;
      acts = (
        record e { queue = (meets w.radio.size fate checked it.frame).stays ++ it.rest; talk = talk_a ++ Met fate checked ∷ [] },
        record f { coming = comes_of w.radio.size fate checked it.frame },
        record { frame = it.frame; rest = it.rest; checked = checked; is = it.is; checked_is = asks; one_is = refl; other_is = refl },
        λ i. record (at (record w { radio = next }) (talk_a ++ Met fate checked ∷ []) talk_b) { b = record f { coming = met.completes i } },
      );
    } in
    subst (λ (radio : Radio). Worded U V (Meets Ab fate) w (record w { radio = radio }) talk_a talk_b) (sym (met_ab_is fate checked it.frame it.rest w.radio.a.waiting w.radio it.is rest.still_b.none_comes)) worded

meets_ba :
    {S T G H : Type 0} (U : Upper S G) (V : Upper T H) (fate : Fate) (w : World S T) (talk_a talk_b : List Talk) → Found Ba fate w.radio.a.waiting w.radio.b.waiting → IsAtRest U V w → Both U V (at w talk_a talk_b) → Kept U V w.radio w.a w.b w.pushes.going
    → Worded U V (Meets Ba fate) w (record w { radio = after_meeting Ba fate (checks U w.a w.radio.b.waiting) w.radio.b.waiting w.radio }) talk_a talk_b
meets_ba {S} {T} U V fate w talk_a talk_b it rest both kept =
    let checked = checks U w.a w.radio.b.waiting in
    let asks : checked ≡ U.has_check w.a.upper (channel_of it.frame) = ap (λ (l : List (List ℕ)). checks U w.a l) it.is in
    let all : AllFrames (it.frame ∷ it.rest) = subst AllFrames it.is kept.other.wired.air in
    let receiver = settled_led w.radio.a w.radio.number (is_together w.radio.phase) rest.still_a.none_owed kept.one.led in
    let sender = settled_led w.radio.b w.radio.number (is_together w.radio.phase) rest.still_b.none_owed kept.other.led in
    let up_b = on_by w.radio.b.up w.radio.b.waiting it.frame it.rest both.b.off_queue it.is in
    let link : is_together w.radio.phase ≡ true = sym sender.1 ∙ up_b in
    let up_a : w.radio.a.up ≡ true = receiver.1 ∙ link in
    let met = meets_as w.radio.size fate checked w.a.joining it.frame kept.long all.0 it.keeps in
    let next : Radio = met_ba fate checked it.frame it.rest w.radio in
    let e : End S = end_of w.radio.a w.a talk_a in
    let f : End T = end_of w.radio.b w.b talk_b in
    let worded : Worded U V (Meets Ba fate) w (record w { radio = next }) talk_a talk_b = record {
      kept = record {
        long = kept.long;
        one = receives_steady U w.radio.number (is_together w.radio.phase) (calling w.radio.phase) w.radio.a w.a (meets w.radio.size fate checked it.frame).pieces met.once
            (listens_at U w.radio.number (is_together w.radio.phase) (calling w.radio.phase) w.radio.a w.a rest.still_a up_a receiver.0 (rest.calm.no_fall_a link) kept.one) kept.one;
        other = sends_steady V w.radio.number (is_together w.radio.phase) 0 w.radio.b w.b ((meets w.radio.size fate checked it.frame).stays ++ it.rest) (stays_frames w.radio.size fate checked it.frame it.rest all) kept.other;
        calls = kept.calls;
        parts = λ called. let parts = kept.parts called in record { off_a = parts.off_a; off_b = parts.off_b; told_a = parts.told_a; told_b = parts.told_b };
        rests = λ still. let rests = kept.rests still in record { idle = rests.idle; uncalled = rests.uncalled; separate = rests.separate; none_a = rests.none_a; none_b = rests.none_b };
      };
      talk_a' = talk_a;
      talk_b' = talk_b ++ Met fate checked ∷ [];
      links_a = refl;
      links_b = linkage_one talk_b (Met fate checked);
      acts = (
        record e { coming = comes_of w.radio.size fate checked it.frame },
        record f { queue = (meets w.radio.size fate checked it.frame).stays ++ it.rest; talk = talk_b ++ Met fate checked ∷ [] },
        record { frame = it.frame; rest = it.rest; checked = checked; is = it.is; checked_is = asks; one_is = refl; other_is = refl },
        λ i. record (at (record w { radio = next }) talk_a (talk_b ++ Met fate checked ∷ [])) { a = record e { coming = met.completes i } },
      );
    } in
    subst (λ (radio : Radio). Worded U V (Meets Ba fate) w (record w { radio = radio }) talk_a talk_b) (sym (met_ba_is fate checked it.frame it.rest w.radio.b.waiting w.radio it.is rest.still_a.none_comes)) worded

-- ---- whatever a word finds

record FiresAs {S T G H : Type 0} (U : Upper S G) (V : Upper T H) (w : World S T) (talk_a talk_b : List Talk) (a : Station S) (b : Station T) (e : End S) (f : End T) : Type 0 where
  kept : Kept U V w.radio a b w.pushes.going
  talk_a' : List Talk
  talk_b' : List Talk
  one_is : end_of w.radio.a a talk_a' ≡ e
  other_is : end_of w.radio.b b talk_b' ≡ f
  links_a : linkage talk_a' ≡ linkage talk_a
  links_b : linkage talk_b' ≡ linkage talk_b

fires_both :
    {S T G H : Type 0} (U : Upper S G) (V : Upper T H) (w : World S T) (talk_a talk_b : List Talk) (g : List G) (h : List H) (armed_a armed_b : Bool) → Idles U → IsAtRest U V w → Kept U V w.radio w.a w.b w.pushes.going
    → FiresAs U V w talk_a talk_b (if armed_a then told U g TimerFired w.a else w.a) (if armed_b then told V h TimerFired w.b else w.b)
    (if armed_a then carriages.told U g TimerFired (end_of w.radio.a w.a talk_a) else end_of w.radio.a w.a talk_a) (if armed_b then carriages.told V h TimerFired (end_of w.radio.b w.b talk_b) else end_of w.radio.b w.b talk_b)
fires_both U V w talk_a talk_b g h true true idles rest kept =
    record { kept = told_kept_b U V w.radio (told U g TimerFired w.a) w.b w.pushes.going h TimerFired rest.still_b (told_kept_a U V w g TimerFired idles tt rest kept); talk_a' = talk_a ++ Told TimerFired ∷ []; talk_b' = talk_b ++ Told TimerFired ∷ []; one_is = refl; other_is = refl; links_a = linkage_one talk_a (Told TimerFired); links_b = linkage_one talk_b (Told TimerFired) }
fires_both U V w talk_a talk_b g h true false idles rest kept =
    record { kept = told_kept_a U V w g TimerFired idles tt rest kept; talk_a' = talk_a ++ Told TimerFired ∷ []; talk_b' = talk_b; one_is = refl; other_is = refl; links_a = linkage_one talk_a (Told TimerFired); links_b = refl }
fires_both U V w talk_a talk_b g h false true idles rest kept =
    record { kept = told_kept_b U V w.radio w.a w.b w.pushes.going h TimerFired rest.still_b kept; talk_a' = talk_a; talk_b' = talk_b ++ Told TimerFired ∷ []; one_is = refl; other_is = refl; links_a = refl; links_b = linkage_one talk_b (Told TimerFired) }
fires_both U V w talk_a talk_b g h false false idles rest kept = record { kept = kept; talk_a' = talk_a; talk_b' = talk_b; one_is = refl; other_is = refl; links_a = refl; links_b = refl }

pub words_act :
    {S T G H : Type 0} (U : Upper S G) (V : Upper T H) (deed : Deed) (old new : World S T) (talk_a talk_b : List Talk) → Idles U
    → ((way : Way) (fate : Fate) → deed ≡ Meets way fate → Found way fate old.radio.a.waiting old.radio.b.waiting) → (deed ≡ Breaks → is_together old.radio.phase ≡ true)
    → IsAtRest U V old → Acts U V deed old new → Both U V (at old talk_a talk_b) → Kept U V old.radio old.a old.b old.pushes.going → Worded U V deed old new talk_a talk_b
words_act U V Nothing old new talk_a talk_b idles finds breaks rest acts both kept = absurd acts
words_act {S} {T} U V (Meets Ab fate) old new talk_a talk_b idles finds breaks rest acts both kept = rw acts (meets_ab U V fate old talk_a talk_b (finds Ab fate refl) rest both kept)
words_act {S} {T} U V (Meets Ba fate) old new talk_a talk_b idles finds breaks rest acts both kept = rw acts (meets_ba U V fate old talk_a talk_b (finds Ba fate refl) rest both kept)
words_act U V (Fires A) old new talk_a talk_b idles finds breaks rest (armed, g, same) both kept =
    rw same (record { kept = told_kept_a U V old g TimerFired idles tt rest kept; talk_a' = talk_a ++ Told TimerFired ∷ []; talk_b' = talk_b; acts = (armed, g, refl); links_a = linkage_one talk_a (Told TimerFired); links_b = refl })
words_act U V (Fires B) old new talk_a talk_b idles finds breaks rest (armed, h, same) both kept =
    rw same (record { kept = told_kept_b U V old.radio old.a old.b old.pushes.going h TimerFired rest.still_b kept; talk_a' = talk_a; talk_b' = talk_b ++ Told TimerFired ∷ []; acts = (armed, h, refl); links_a = refl; links_b = linkage_one talk_b (Told TimerFired) })
words_act {S} {T} U V FiresBoth old new talk_a talk_b idles finds breaks rest (armed, g, h, same) both kept =
    let f = fires_both U V old talk_a talk_b g h (U.armed old.a.upper) (V.armed old.b.upper) idles rest kept in
    rw same (record { kept = f.kept; talk_a' = f.talk_a'; talk_b' = f.talk_b'; acts = (armed, g, h, λ i. record (at old talk_a talk_b) { a = f.one_is i; b = f.other_is i }); links_a = f.links_a; links_b = f.links_b })
words_act U V Breaks old new talk_a talk_b idles finds breaks rest same both kept =
    let parting = partings U V old.radio old.pushes old.a old.b talk_a talk_b 0x08 0x08 (breaks refl) kept in
    rw same (record { kept = parting.kept; talk_a' = talk_a; talk_b' = talk_b; acts = parting.new_is; links_a = refl; links_b = refl })
words_act U V Cancels old new talk_a talk_b idles finds breaks rest (may, g, same) both kept =
    rw same (record { kept = told_kept_a U V old g Cancelled idles tt rest kept; talk_a' = talk_a ++ Told Cancelled ∷ []; talk_b' = talk_b; acts = (may, g, refl); links_a = linkage_one talk_a (Told Cancelled); links_b = refl })
