-- A word is turned: what it finds is done in the world as it is in a turn.
use Rattle.std.proofs.Common.{◌≡◌, ◌⊎◌, ℕ, ◌+◌, ◌≤◌, ◌||◌, Bool, true, false, List, [], ◌∷◌, ◌++◌, length, nat_lt, Option, Some, None, if◌then◌else◌, inl, inr, refl, sym, ap, subst, ◌∙◌}
use Rattle.station_laws.specs.acl_fragments.specs.Pieces.{Piece, channel_of}
use Rattle.station_laws.specs.capture.specs.Frames.{frame_pieces, way_served}
use Rattle.station_laws.specs.push_terms.specs.Words.{IsWord}
use Rattle.station_laws.specs.push_terms.specs.declared.word.Side.TheVariants.{A, B}
use Rattle.station_laws.specs.push_terms.specs.declared.word.Way.{Way}
use Rattle.station_laws.specs.push_terms.specs.declared.word.Way.TheVariants.{Ab, Ba}
use Rattle.station_laws.specs.push_terms.specs.declared.word.Word.{Word}
use Rattle.station_laws.specs.push_terms.specs.declared.word.Word.TheVariants.{Pass, Lose, Repeat, Damage, Cut, Timer, Drop, Cancel}
use Rattle.station_laws.specs.radio_model.specs.declared.fate.Fate.{Fate}
use Rattle.station_laws.specs.radio_model.specs.declared.fate.Fate.TheVariants.{Delivered, Lost, Repeated, CutOff, Changed}
use Rattle.station_laws.specs.radio_model.specs.declared.deed.Deed.{Deed}
use Rattle.station_laws.specs.radio_model.specs.declared.deed.Deed.TheVariants.{Nothing, Meets, Breaks}
use Rattle.station_laws.specs.radio_model.specs.Fates.{meets, comes_of, can_meet}
use Rattle.station_laws.specs.radio_model.specs.Words.{first_meets, meets_on, passing, deed_of, served_by}
use Rattle.station_laws.specs.radio_model.specs.Radio.{is_together, is_paging, is_requested, after_meeting, parted}
use Rattle.station_laws.specs.world_model.specs.Machines.{Down, Linked, Heard, Upper, Reaction}
use Rattle.station_laws.specs.world_model.specs.Pushes.{Pushes}
use Rattle.station_laws.specs.world_model.specs.Turns.{Party, IsCalm, notes, receives}
use Rattle.station_laws.specs.world_model.specs.Stations.{longest_pdu, hears_each}
use Rattle.station_laws.specs.world_model.specs.Worlds.{World, Turns, IsAtRest, Acts, one_turned}
use Rattle.station_laws.specs.turn_laws.specs.Premises.{IsFrame, SaysFrames}
use Rattle.station_laws.specs.turn_laws.proofs.Joining.{held_behind, KeepsHeader, meets_as}
use Rattle.station_laws.specs.turn_laws.proofs.Wiring.{AllFrames}
use Rattle.run_laws.proofs.Owning.{Goes, goes_none, goes_then, goes_a, goes_b}
use Rattle.run_laws.proofs.Hearing.{hears_all}
use Rattle.run_laws.proofs.Linking.{cleared, both_told}
use Rattle.run_laws.proofs.Calm.{Shape, link_of, phase_of, at_a, at_b, calm, Fits, Fine, fine_speaks, speaks_a, speaks_b}

-- ---- at rest

pub together_is : (link : Bool) → is_together (phase_of link) ≡ link
together_is true = refl
together_is false = refl

none_paged : (link : Bool) → (is_paging (phase_of link) || is_requested (phase_of link)) ≡ false
none_paged true = refl
none_paged false = refl

on_link : (link : Bool) (number handle : ℕ) → link_of link number ≡ Some handle → link ≡ true
on_link true number handle is = refl
on_link false number handle is = cc

pub rests : {S T G H : Type 0} (U : Upper S G) (V : Upper T H) (h : Shape) (link : Bool) (served : Option Way) (pushes : Pushes) (s : S) (qa : List (List ℕ)) (t : T) (qb : List (List ℕ))
    → (link ≡ true → U.next s ≡ None) → (link ≡ true → V.next t ≡ None) → IsCalm U V link pushes s t → IsAtRest U V (calm h link served pushes s qa t qb)
rests U V h link served pushes s qa t qb none_a none_b calm_is = record {
  still_a = record { none_waits = refl; none_goes = refl; none_out = refl; unasked = refl; none_next = λ handle is. none_a (on_link link h.number handle is); none_comes = refl; none_owed = refl; returned = refl };
  still_b = record { none_waits = refl; none_goes = refl; none_out = refl; unasked = refl; none_next = λ handle is. none_b (on_link link h.number handle is); none_comes = refl; none_owed = refl; returned = refl };
  paged = none_paged link;
  calm = subst (λ (on : Bool). IsCalm U V on pushes s t) (sym (together_is link)) calm_is;
}

-- what a word finds in the world is what it finds in the pair
pub finds_same : (word : Word) (served : Option Way) (link : Bool) (qa qb : List (List ℕ)) → deed_of word served qa qb (is_together (phase_of link)) ≡ deed_of word served qa qb link
finds_same word served link qa qb = ap (λ (on : Bool). deed_of word served qa qb on) (together_is link)

pub turns : {S T G H : Type 0} (U : Upper S G) (V : Upper T H) (word : Word) (deed : Deed) (h : Shape) (link : Bool) (served : Option Way) (pushes : Pushes) (s : S) (qa : List (List ℕ)) (t : T) (qb : List (List ℕ)) (mid : World S T)
    → IsAtRest U V (calm h link served pushes s qa t qb) → IsWord word → deed_of word served qa qb link ≡ deed → Acts U V deed (calm h link served pushes s qa t qb) mid
    → Goes U V (word ∷ []) (calm h link served pushes s qa t qb) (one_turned mid)
turns {S} {T} U V word deed h link served pushes s qa t qb mid rest is found acts = record {
  happenings = Turns (h.turned + 1) word ∷ [];
  runs = (
    one_turned mid,
    (rest, is, refl, mid, subst (λ (d : Deed). Acts U V d (calm h link served pushes s qa t qb) mid) (sym (finds_same word served link qa qb ∙ found)) acts, refl),
    refl,
  );
  words_are = refl;
}

abbrev pub one_more : Shape → Shape
one_more h = record h { turned = h.turned + 1 }

-- ---- what comes of a frame

comes_one : (size : ℕ) (fate : Fate) (checked : Bool) (frame : List ℕ) → (comes_of size fate checked frame ≡ []) ⊎ ((pdu : List ℕ) × (comes_of size fate checked frame ≡ pdu ∷ []))
comes_one size Delivered checked frame = inr (frame, refl)
comes_one size Lost checked frame = inl refl
comes_one size Repeated checked frame = inr (frame, refl)
comes_one size (CutOff count) checked frame = by (nat_lt count (length (frame_pieces size frame)))
  where
    by : (few : Bool) → ((if few then [] else frame ∷ []) ≡ []) ⊎ ((pdu : List ℕ) × ((if few then [] else frame ∷ []) ≡ pdu ∷ []))
    by true = inl refl
    by false = inr (frame, refl)
comes_one size (Changed at mask) true frame = inr (_, refl)
comes_one size (Changed at mask) false frame = inl refl

pub stays_frames : (size : ℕ) (fate : Fate) (checked : Bool) (frame : List ℕ) (rest : List (List ℕ)) → AllFrames (frame ∷ rest) → AllFrames ((meets size fate checked frame).stays ++ rest)
stays_frames size Delivered checked frame rest all = all.1
stays_frames size Lost checked frame rest all = all.1
stays_frames size Repeated checked frame rest all = all
stays_frames size (CutOff n) checked frame rest all = all.1
stays_frames size (Changed place mask) true frame rest all = all.1
stays_frames size (Changed place mask) false frame rest all = all.1

-- a host to which these PDUs came
received : {S G : Type 0} (U : Upper S G) (reaction : Reaction G) (comes : List (List ℕ)) (p : Party S) → SaysFrames U → Fine U true p → (receives U true reaction comes p).whole ≡ true → Fine U true (receives U true reaction comes p)
received U reaction [] p frames fine whole = fine
received U reaction (pdu ∷ pdus) p frames fine whole = fine_speaks U true reaction.breath (notes U reaction.answers (Heard pdu) p) frames (λ no. cc) fine.frames whole

pub receives_fine : {S G : Type 0} (U : Upper S G) (link : Bool) (reaction : Reaction G) (comes : List (List ℕ)) (p : Party S) → SaysFrames U → link ≡ true → Fine U link p → (receives U link reaction comes p).whole ≡ true → Fine U link (receives U link reaction comes p)
receives_fine U true reaction comes p frames on fine whole = received U reaction comes p frames fine whole
receives_fine U false reaction comes p frames on fine whole = cc

b_receives :
    {S T G H : Type 0} (U : Upper S G) (V : Upper T H) (h : Shape) (served : Option Way) (pushes : Pushes) (reaction : Reaction H) (comes : List (List ℕ)) (p : Party T) (s : S) (qa : List (List ℕ)) → Fits h → 1 ≤ h.number → SaysFrames V
    → (comes ≡ []) ⊎ ((pdu : List ℕ) × (comes ≡ pdu ∷ [])) → (receives V true reaction comes p).whole ≡ true
    → Goes U V [] (calm h true served pushes s qa (hears_each V reaction.answers comes p.upper) p.queue)
    (calm h true served pushes s qa (receives V true reaction comes p).upper (receives V true reaction comes p).queue)
b_receives {S} {T} U V h served pushes reaction comes p s qa fits some frames (inl none) whole =
    subst (λ (l : List (List ℕ)). Goes U V [] (calm h true served pushes s qa (hears_each V reaction.answers l p.upper) p.queue) (calm h true served pushes s qa (receives V true reaction l p).upper (receives V true reaction l p).queue)) (sym none)
    (goes_none U V (calm h true served pushes s qa p.upper p.queue))
b_receives {S} {T} U V h served pushes reaction comes p s qa fits some frames (inr (pdu, is)) whole =
    subst (λ (l : List (List ℕ)). Goes U V [] (calm h true served pushes s qa (hears_each V reaction.answers l p.upper) p.queue) (calm h true served pushes s qa (receives V true reaction l p).upper (receives V true reaction l p).queue)) (sym is)
    (speaks_b U V h true served pushes reaction.breath (notes V reaction.answers (Heard pdu) p) s qa fits (λ on. some) frames (subst (λ (l : List (List ℕ)). (receives V true reaction l p).whole ≡ true) is whole))

a_receives :
    {S T G H : Type 0} (U : Upper S G) (V : Upper T H) (h : Shape) (served : Option Way) (pushes : Pushes) (reaction : Reaction G) (comes : List (List ℕ)) (p : Party S) (t : T) (qb : List (List ℕ)) → Fits h → 1 ≤ h.number → SaysFrames U
    → (comes ≡ []) ⊎ ((pdu : List ℕ) × (comes ≡ pdu ∷ [])) → (receives U true reaction comes p).whole ≡ true
    → Goes U V [] (calm h true served pushes (hears_each U reaction.answers comes p.upper) p.queue t qb)
    (calm h true served pushes (receives U true reaction comes p).upper (receives U true reaction comes p).queue t qb)
a_receives {S} {T} U V h served pushes reaction comes p t qb fits some frames (inl none) whole =
    subst (λ (l : List (List ℕ)). Goes U V [] (calm h true served pushes (hears_each U reaction.answers l p.upper) p.queue t qb) (calm h true served pushes (receives U true reaction l p).upper (receives U true reaction l p).queue t qb)) (sym none)
    (goes_none U V (calm h true served pushes p.upper p.queue t qb))
a_receives {S} {T} U V h served pushes reaction comes p t qb fits some frames (inr (pdu, is)) whole =
    subst (λ (l : List (List ℕ)). Goes U V [] (calm h true served pushes (hears_each U reaction.answers l p.upper) p.queue t qb) (calm h true served pushes (receives U true reaction l p).upper (receives U true reaction l p).queue t qb)) (sym is)
    (speaks_a U V h true served pushes reaction.breath (notes U reaction.answers (Heard pdu) p) t qb fits (λ on. some) frames (subst (λ (l : List (List ℕ)). (receives U true reaction l p).whole ≡ true) is whole))

-- behind what is handed over of a frame
abbrev pub pieces_of : Shape → Fate → Bool → List ℕ → List Piece
pieces_of h fate checked frame = (meets h.size fate checked frame).pieces

abbrev pub heard_b : Shape → List Piece → Shape
heard_b h pieces = record (one_more h) { joining_b = held_behind longest_pdu h.joining_b pieces }

abbrev pub heard_a : Shape → List Piece → Shape
heard_a h pieces = record (one_more h) { joining_a = held_behind longest_pdu h.joining_a pieces }

pub meets_ab :
    {S T G H : Type 0} (U : Upper S G) (V : Upper T H) (word : Word) (fate : Fate) (h : Shape) (link : Bool) (served : Option Way) (pushes : Pushes) (s : S) (frame : List ℕ) (rest : List (List ℕ)) (checked : Bool) (reaction : Reaction H) (p : Party T)
    → link ≡ true → Fits h → 27 ≤ h.size → 1 ≤ h.number → SaysFrames V → IsFrame frame → KeepsHeader fate → checked ≡ V.has_check p.upper (channel_of frame)
    → IsAtRest U V (calm h link served pushes s (frame ∷ rest) p.upper p.queue) → IsWord word → deed_of word served (frame ∷ rest) p.queue link ≡ Meets Ab fate
    → (receives V link reaction (comes_of h.size fate checked frame) p).whole ≡ true
    → Goes U V (word ∷ []) (calm h link served pushes s (frame ∷ rest) p.upper p.queue)
    (calm (heard_b h (pieces_of h fate checked frame)) link (served_by Ab fate served) pushes s ((meets h.size fate checked frame).stays ++ rest)
    (receives V link reaction (comes_of h.size fate checked frame) p).upper (receives V link reaction (comes_of h.size fate checked frame) p).queue)
meets_ab U V word fate h false served pushes s frame rest checked reaction p on fits long some frames is keeps asks rests is_word found whole = cc
meets_ab {S} {T} U V word fate h true served pushes s frame rest checked reaction p on fits long some frames is keeps asks rests is_word found whole =
    let w : World S T = calm h true served pushes s (frame ∷ rest) p.upper p.queue in
    let pieces : List Piece = pieces_of h fate checked frame in
    let stay : List (List ℕ) = (meets h.size fate checked frame).stays ++ rest in
    let after : Option Way = served_by Ab fate served in
    let mid : World S T = record w { radio = after_meeting Ab fate checked (frame ∷ rest) w.radio } in
    let first = turns U V word (Meets Ab fate) h true served pushes s (frame ∷ rest) p.upper p.queue mid rests is_word found
    (ap (λ (c : Bool). record w { radio = after_meeting Ab fate c (frame ∷ rest) w.radio }) asks) in
    let heard = goes_b U V (one_turned mid) _ _ (hears_all V B reaction.answers (at_b h) pieces p.upper h.joining_b p.queue) in
    let comes = (meets_as h.size fate checked h.joining_b frame long is keeps).completes in
    let named = subst (λ (l : List (List ℕ)). Goes U V [] (one_turned mid) (calm (heard_b h pieces) true after pushes s stay (hears_each V reaction.answers l p.upper) p.queue)) comes heard in
    goes_then U V (word ∷ []) [] w (one_turned mid) _ first
    (goes_then U V [] [] (one_turned mid) _ _ named (b_receives U V (heard_b h pieces) after pushes reaction (comes_of h.size fate checked frame) p s stay
    (record { long = fits.long; some = fits.some }) some frames (comes_one h.size fate checked frame) whole))

pub meets_ba :
    {S T G H : Type 0} (U : Upper S G) (V : Upper T H) (word : Word) (fate : Fate) (h : Shape) (link : Bool) (served : Option Way) (pushes : Pushes) (t : T) (frame : List ℕ) (rest : List (List ℕ)) (checked : Bool) (reaction : Reaction G) (p : Party S)
    → link ≡ true → Fits h → 27 ≤ h.size → 1 ≤ h.number → SaysFrames U → IsFrame frame → KeepsHeader fate → checked ≡ U.has_check p.upper (channel_of frame)
    → IsAtRest U V (calm h link served pushes p.upper p.queue t (frame ∷ rest)) → IsWord word → deed_of word served p.queue (frame ∷ rest) link ≡ Meets Ba fate
    → (receives U link reaction (comes_of h.size fate checked frame) p).whole ≡ true
    → Goes U V (word ∷ []) (calm h link served pushes p.upper p.queue t (frame ∷ rest))
    (calm (heard_a h (pieces_of h fate checked frame)) link (served_by Ba fate served) pushes
    (receives U link reaction (comes_of h.size fate checked frame) p).upper (receives U link reaction (comes_of h.size fate checked frame) p).queue t ((meets h.size fate checked frame).stays ++ rest))
meets_ba U V word fate h false served pushes t frame rest checked reaction p on fits long some frames is keeps asks rests is_word found whole = cc
meets_ba {S} {T} U V word fate h true served pushes t frame rest checked reaction p on fits long some frames is keeps asks rests is_word found whole =
    let w : World S T = calm h true served pushes p.upper p.queue t (frame ∷ rest) in
    let pieces : List Piece = pieces_of h fate checked frame in
    let stay : List (List ℕ) = (meets h.size fate checked frame).stays ++ rest in
    let after : Option Way = served_by Ba fate served in
    let mid : World S T = record w { radio = after_meeting Ba fate checked (frame ∷ rest) w.radio } in
    let first = turns U V word (Meets Ba fate) h true served pushes p.upper p.queue t (frame ∷ rest) mid rests is_word found
    (ap (λ (c : Bool). record w { radio = after_meeting Ba fate c (frame ∷ rest) w.radio }) asks) in
    let heard = goes_a U V (one_turned mid) _ _ (hears_all U A reaction.answers (at_a h) pieces p.upper h.joining_a p.queue) in
    let comes = (meets_as h.size fate checked h.joining_a frame long is keeps).completes in
    let named = subst (λ (l : List (List ℕ)). Goes U V [] (one_turned mid) (calm (heard_a h pieces) true after pushes (hears_each U reaction.answers l p.upper) p.queue t stay)) comes heard in
    goes_then U V (word ∷ []) [] w (one_turned mid) _ first
    (goes_then U V [] [] (one_turned mid) _ _ named (a_receives U V (heard_a h pieces) after pushes reaction (comes_of h.size fate checked frame) p t stay
    (record { long = fits.long; some = fits.some }) some frames (comes_one h.size fate checked frame) whole))

-- ---- a broken link

no_break_if : (can : Bool) (way : Way) (fate : Fate) → (if can then Meets way fate else Nothing) ≡ Breaks → ⊥
no_break_if true way fate is = cc
no_break_if false way fate is = cc

no_break_ab : (fate : Fate) (ab ba : List (List ℕ)) → first_meets Ab fate ab ba ≡ Breaks → ⊥
no_break_ab fate [] ba is = cc
no_break_ab fate (frame ∷ rest) ba is = no_break_if (can_meet fate frame (length ba)) Ab fate is

no_break_ba : (fate : Fate) (ab ba : List (List ℕ)) → first_meets Ba fate ba ab ≡ Breaks → ⊥
no_break_ba fate ab [] is = cc
no_break_ba fate ab (frame ∷ rest) is = no_break_if (can_meet fate frame (length ab)) Ba fate is

no_break_on : (way : Way) (fate : Fate) (ab ba : List (List ℕ)) → meets_on way fate ab ba ≡ Breaks → ⊥
no_break_on Ab fate ab ba is = no_break_ab fate ab ba is
no_break_on Ba fate ab ba is = no_break_ba fate ab ba is

no_break_passing : (on : Option Way) (ab ba : List (List ℕ)) → passing on ab ba ≡ Breaks → ⊥
no_break_passing None ab ba is = cc
no_break_passing (Some way) ab ba is = no_break_on way Delivered ab ba is

on_by : (link : Bool) → (if link then Breaks else Nothing) ≡ Breaks → link ≡ true
on_by true is = refl
on_by false is = cc

pub breaks_on : (word : Word) (served : Option Way) (ab ba : List (List ℕ)) (link : Bool) → deed_of word served ab ba link ≡ Breaks → link ≡ true
breaks_on Pass served ab ba link is = absurd (no_break_passing (way_served served ab ba) ab ba is)
breaks_on (Lose way) served ab ba link is = absurd (no_break_on way Lost ab ba is)
breaks_on (Repeat way) served ab ba link is = absurd (no_break_on way Repeated ab ba is)
breaks_on (Damage way at mask) served ab ba link is = absurd (no_break_on way (Changed at mask) ab ba is)
breaks_on (Cut way packets) served ab ba link is = absurd (no_break_on way (CutOff packets) ab ba is)
breaks_on (Timer side) served ab ba link is = cc
breaks_on Drop served ab ba link is = on_by link is
breaks_on Cancel served ab ba link is = cc

pub link_breaks :
    {S T G H : Type 0} (U : Upper S G) (V : Upper T H) (word : Word) (h : Shape) (link : Bool) (served : Option Way) (pushes : Pushes) (s : S) (qa : List (List ℕ)) (t : T) (qb : List (List ℕ)) (r : Reaction G) (k : Reaction H)
    → link ≡ true → IsAtRest U V (calm h link served pushes s qa t qb) → IsWord word → deed_of word served qa qb link ≡ Breaks
    → Goes U V (word ∷ []) (calm h link served pushes s qa t qb)
    (calm (cleared (one_more h)) false served pushes (U.hear r.answers (Linked (Down 0x08)) s) [] (V.hear k.answers (Linked (Down 0x08)) t) [])
link_breaks U V word h false served pushes s qa t qb r k on rests is found = cc
link_breaks {S} {T} U V word h true served pushes s qa t qb r k on rests is found =
    let w : World S T = calm h true served pushes s qa t qb in
    let mid : World S T = record w { radio = parted 0x08 0x08 w.radio } in
    goes_then U V (word ∷ []) [] w (one_turned mid) _ (turns U V word Breaks h true served pushes s qa t qb mid rests is found refl)
    (both_told U V (one_more h) served pushes 0x08 0x08 false false r.answers k.answers s t)
