-- Each turn is a stretch of a run of the world, and so is each run of turns.
use Rattle.std.proofs.Common.{◌≡◌, ℕ, ◌+◌, ◌≤◌, Bool, true, false, List, [], ◌∷◌, ◌++◌, Option, if◌then◌else◌, refl, sym, ap, subst, ◌∙◌, arith}
use Rattle.std.specs.List.{AllByRecursion}
use Rattle.station_laws.specs.push_terms.specs.Words.{IsWord}
use Rattle.station_laws.specs.push_terms.specs.declared.word.Side.TheVariants.{A, B}
use Rattle.station_laws.specs.push_terms.specs.declared.word.Way.{Way}
use Rattle.station_laws.specs.push_terms.specs.declared.word.Way.TheVariants.{Ab, Ba}
use Rattle.station_laws.specs.push_terms.specs.declared.word.Word.{Word}
use Rattle.station_laws.specs.radio_model.specs.declared.fate.Fate.{Fate}
use Rattle.station_laws.specs.radio_model.specs.declared.deed.Deed.{Deed}
use Rattle.station_laws.specs.radio_model.specs.declared.deed.Deed.TheVariants.{Nothing, Meets, Fires, FiresBoth, Breaks, Cancels}
use Rattle.station_laws.specs.radio_model.specs.Fates.{meets, comes_of}
use Rattle.station_laws.specs.radio_model.specs.Words.{deed_of, served_by}
use Rattle.station_laws.specs.radio_model.specs.Radio.{is_apart}
use Rattle.station_laws.specs.world_model.specs.Machines.{Up, Down, Linked, TimerFired, Cancelled, Opening, Upper, Reaction}
use Rattle.station_laws.specs.world_model.specs.Pushes.{Pushes, one_begun, one_ended}
use Rattle.station_laws.specs.world_model.specs.Turns.{Party, Pair, Step, Turn, Idle, Rise, Fall, Began, Ended, IsCalmPair, FindsNothing, Acts, Moves, found, fires, hears, notes, receives, event_heard, with_event, words_in, words_of, first_pair}
use Rattle.station_laws.specs.world_model.specs.Stations.{told}
use Rattle.station_laws.specs.world_model.specs.Worlds.{World, Misses, Opens, Closes, IsAtRest, first_world}
use Rattle.station_laws.specs.turn_laws.specs.Premises.{SaysFrames}
use Rattle.station_laws.specs.turn_laws.proofs.Wiring.{AllFrames}
use Rattle.station_laws.specs.turn_laws.proofs.Wording.{finds_frame}
use Rattle.station_laws.specs.WorldLaws.{AreSizes}
use Rattle.run_laws.specs.Laws.{PassesWhole, rises_in, rises, TurnsArePlayed}
use Rattle.run_laws.proofs.Owning.{Goes, goes_none, goes_then}
use Rattle.run_laws.proofs.Calm.{Shape, phase_of, calm, calm_pair, Fits, fits, Fine, fine_speaks, speaks_a, speaks_b}
use Rattle.run_laws.proofs.Starting.{begun, it_starts}
use Rattle.run_laws.proofs.Linking.{cleared, linked, a_falls, b_falls, it_rises}
use Rattle.run_laws.proofs.Turning.{rests, finds_same, turns, together_is, one_more, stays_frames, receives_fine, pieces_of, heard_a, heard_b, meets_ab, meets_ba, breaks_on, link_breaks}

-- ---- between two turns

pub record Stands {S T G H : Type 0} (U : Upper S G) (V : Upper T H) (h : Shape) (k : Pair S T) : Type 0 where
  pub size_is : k.size ≡ h.size
  pub sizes : AreSizes h.size h.count
  pub fine_a : Fine U k.link k.a
  pub fine_b : Fine V k.link k.b
  pub whole_a : k.a.whole ≡ true
  pub whole_b : k.b.whole ≡ true
  pub numbered : k.link ≡ true → 1 ≤ h.number

-- where a turn leads
pub record Made {S T G H : Type 0} (U : Upper S G) (V : Upper T H) (words : List Word) (risen : ℕ) (h : Shape) (old new : Pair S T) : Type 0 where
  pub shape : Shape
  pub stands : Stands U V shape new
  pub goes : Goes U V words (calm_pair h old) (calm_pair shape new)
  pub within : shape.number ≤ h.number + risen

at_rest : {S T G H : Type 0} (U : Upper S G) (V : Upper T H) (h : Shape) (k : Pair S T) → Stands U V h k → IsCalmPair U V k → IsAtRest U V (calm_pair h k)
at_rest U V h k stands is_calm = rests U V h k.link k.served k.pushes k.a.upper k.a.queue k.b.upper k.b.queue stands.fine_a.said stands.fine_b.said is_calm.calm

-- ---- timers

a_fires :
    {S T G H : Type 0} (U : Upper S G) (V : Upper T H) (h : Shape) (link : Bool) (served : Option Way) (pushes : Pushes) (r : Reaction G) (p : Party S) (t : T) (qb : List (List ℕ)) (b : Bool) → Fits h → (link ≡ true → 1 ≤ h.number) → SaysFrames U
    → (if b then hears U link r TimerFired p else p).whole ≡ true
    → Goes U V [] (calm h link served pushes (if b then U.hear r.answers TimerFired p.upper else p.upper) p.queue t qb)
    (calm h link served pushes (if b then hears U link r TimerFired p else p).upper (if b then hears U link r TimerFired p else p).queue t qb)
a_fires U V h link served pushes r p t qb true fits some frames whole = speaks_a U V h link served pushes r.breath (notes U r.answers TimerFired p) t qb fits some frames whole
a_fires U V h link served pushes r p t qb false fits some frames whole = goes_none U V (calm h link served pushes p.upper p.queue t qb)

b_fires :
    {S T G H : Type 0} (U : Upper S G) (V : Upper T H) (h : Shape) (link : Bool) (served : Option Way) (pushes : Pushes) (r : Reaction H) (p : Party T) (s : S) (qa : List (List ℕ)) (b : Bool) → Fits h → (link ≡ true → 1 ≤ h.number) → SaysFrames V
    → (if b then hears V link r TimerFired p else p).whole ≡ true
    → Goes U V [] (calm h link served pushes s qa (if b then V.hear r.answers TimerFired p.upper else p.upper) p.queue)
    (calm h link served pushes s qa (if b then hears V link r TimerFired p else p).upper (if b then hears V link r TimerFired p else p).queue)
b_fires U V h link served pushes r p s qa true fits some frames whole = speaks_b U V h link served pushes r.breath (notes V r.answers TimerFired p) s qa fits some frames whole
b_fires U V h link served pushes r p s qa false fits some frames whole = goes_none U V (calm h link served pushes s qa p.upper p.queue)

fires_fine : {S G : Type 0} (U : Upper S G) (link : Bool) (r : Reaction G) (p : Party S) (b : Bool) → SaysFrames U → Fine U link p → (if b then hears U link r TimerFired p else p).whole ≡ true → Fine U link (if b then hears U link r TimerFired p else p)
fires_fine U link r p true frames fine whole = fine_speaks U link r.breath (notes U r.answers TimerFired p) frames fine.off fine.frames whole
fires_fine U link r p false frames fine whole = fine

both_fire : {S T G H : Type 0} (U : Upper S G) (V : Upper T H) (w : World S T) (g : List G) (k : List H) (a b : Bool)
    → record w { a = if a then told U g TimerFired w.a else w.a; b = if b then told V k TimerFired w.b else w.b }
    ≡ record w { a = record (w.a) { upper = if a then U.hear g TimerFired w.a.upper else w.a.upper }; b = record (w.b) { upper = if b then V.hear k TimerFired w.b.upper else w.b.upper } }
both_fire U V w g k true true = refl
both_fire U V w g k true false = refl
both_fire U V w g k false true = refl
both_fire U V w g k false false = refl

-- ---- a link event

down_fine : {S G : Type 0} (U : Upper S G) (reason : ℕ) (r : Reaction G) (p : Party S) → Fine U false (event_heard U (Down reason) r p)
down_fine U reason r p = record { said = λ on. cc; off = λ off. refl; frames = tt }

up_fine : {S G : Type 0} (U : Upper S G) (r : Reaction G) (p : Party S) → SaysFrames U → p.queue ≡ [] → (event_heard U Up r p).whole ≡ true → Fine U true (event_heard U Up r p)
up_fine U r p frames none whole = fine_speaks U true r.breath (notes U r.answers (Linked Up) p) frames (λ no. cc) (subst AllFrames (sym none) tt) whole

off_number : (link : Bool) (n : ℕ) → link ≡ false → link ≡ true → 1 ≤ n
off_number link n off on = let no : true ≡ false = sym on ∙ off in absurd cc

-- ---- words

falls_made : {S T G H : Type 0} (U : Upper S G) (V : Upper T H) (words : List Word) (h : Shape) (old : Pair S T) (new : Pair S T) (shape : Shape) (for_a for_b : ℕ) (r : Reaction G) (q : Reaction H)
    → Stands U V h old → shape.size ≡ h.size → shape.count ≡ h.count → shape.number ≡ h.number → new ≡ with_event U V false (Down for_a) (Down for_b) r q old
    → Goes U V words (calm_pair h old) (calm shape false old.served old.pushes (U.hear r.answers (Linked (Down for_a)) old.a.upper) [] (V.hear q.answers (Linked (Down for_b)) old.b.upper) []) → Made U V words 0 h old new
falls_made {S} {T} U V words h old new shape for_a for_b r q stands size count number same goes =
    subst (λ (k : Pair S T). Made U V words 0 h old k) (sym same)
    (record {
      shape = shape;
      stands = record {
        size_is = stands.size_is ∙ sym size;
        sizes = subst (λ (n : ℕ). AreSizes shape.size n) (sym count) (subst (λ (n : ℕ). AreSizes n h.count) (sym size) stands.sizes);
        fine_a = down_fine U for_a r old.a;
        fine_b = down_fine V for_b q old.b;
        whole_a = refl;
        whole_b = refl;
        numbered = λ on. cc;
      };
      goes = goes;
      within = omega (arith, number);
    })

at_queue : {S T G H : Type 0} (U : Upper S G) (V : Upper T H) (link : Bool) (qs frame_list : List (List ℕ)) → (link ≡ false → qs ≡ []) → qs ≡ frame_list → (frame : List ℕ) (rest : List (List ℕ)) → frame_list ≡ frame ∷ rest → link ≡ true
at_queue U V true qs frame_list off is frame rest some = refl
at_queue U V false qs frame_list off is frame rest some = let none : [] ≡ frame ∷ rest = sym (off refl) ∙ is ∙ some in absurd cc

keeps_by : (word : Word) (served : Option Way) (qa qb : List (List ℕ)) (link : Bool) (way : Way) (fate : Fate) → IsWord word → deed_of word served qa qb link ≡ Meets way fate → Rattle.station_laws.specs.turn_laws.proofs.Joining.KeepsHeader fate
keeps_by word served qa qb link way fate is found_is = (finds_frame word served qa qb link way fate is found_is).keeps

turn_made :
    {S T G H : Type 0} (U : Upper S G) (V : Upper T H) (word : Word) (deed : Deed) (h : Shape) (old new : Pair S T) → SaysFrames U → SaysFrames V → IsWord word → Stands U V h old → IsCalmPair U V old → found word old ≡ deed
    → Acts U V deed old new → new.a.whole ≡ true → new.b.whole ≡ true → Made U V (word ∷ []) 0 h old new
turn_made U V word Nothing h old new frames_a frames_b is stands is_calm found_is does whole_a whole_b = absurd does
turn_made {S} {T} U V word (Meets Ab fate) h old new frames_a frames_b is stands is_calm found_is (p, q, hands, same) whole_a whole_b =
    let size = stands.size_is in
    let frame : List ℕ = hands.frame in
    let rest : List (List ℕ) = hands.rest in
    let on : old.link ≡ true = at_queue U V old.link old.a.queue old.a.queue stands.fine_a.off refl frame rest hands.is in
    let comes : List (List ℕ) = comes_of h.size fate hands.checked frame in
    let q_is : q ≡ receives V old.link hands.reaction comes old.b = hands.other_is ∙ ap (λ (n : ℕ). receives V old.link hands.reaction (comes_of n fate hands.checked frame) old.b) size in
    let q_whole : (receives V old.link hands.reaction comes old.b).whole ≡ true = ap (λ (x : Party T). x.whole) (sym q_is ∙ sym (ap (λ (k : Pair S T). k.b) same)) ∙ whole_b in
    let p_queue : p.queue ≡ (meets h.size fate hands.checked frame).stays ++ rest = ap (λ (x : Party S). x.queue) hands.one_is ∙ ap (λ (n : ℕ). (meets n fate hands.checked frame).stays ++ rest) size in
    let p_upper : p.upper ≡ old.a.upper = ap (λ (x : Party S). x.upper) hands.one_is in
    let all : AllFrames (frame ∷ rest) = subst AllFrames hands.is stands.fine_a.frames in
    let at : IsAtRest U V (calm h old.link old.served old.pushes old.a.upper (frame ∷ rest) old.b.upper old.b.queue) =
    subst (λ (l : List (List ℕ)). IsAtRest U V (calm h old.link old.served old.pushes old.a.upper l old.b.upper old.b.queue)) hands.is (at_rest U V h old stands is_calm) in
    let deed_is : deed_of word old.served (frame ∷ rest) old.b.queue old.link ≡ Meets Ab fate = ap (λ (l : List (List ℕ)). deed_of word old.served l old.b.queue old.link) (sym hands.is) ∙ found_is in
    let goes = meets_ab U V word fate h old.link old.served old.pushes old.a.upper frame rest hands.checked hands.reaction old.b on (fits h stands.sizes) stands.sizes.long (stands.numbered on) frames_b all.0
    (keeps_by word old.served old.a.queue old.b.queue old.link Ab fate is found_is) hands.checked_is at is deed_is q_whole in
    let hearer : Party T = receives V old.link hands.reaction comes old.b in
    let stay : List (List ℕ) = (meets h.size fate hands.checked frame).stays ++ rest in
    let end : S → List (List ℕ) → Party T → World S T = λ s l x. calm (heard_b h (pieces_of h fate hands.checked frame)) old.link (served_by Ab fate old.served) old.pushes s l x.upper x.queue in
    let from = subst (λ (l : List (List ℕ)). Goes U V (word ∷ []) (calm h old.link old.served old.pushes old.a.upper l old.b.upper old.b.queue) (end old.a.upper stay hearer)) (sym hands.is) goes in
    subst (λ (k : Pair S T). Made U V (word ∷ []) 0 h old k) (sym same)
    (record {
      shape = heard_b h (pieces_of h fate hands.checked frame);
      stands = record {
        size_is = size;
        sizes = stands.sizes;
        fine_a = record { said = λ up. ap (λ (s : S). U.next s) p_upper ∙ stands.fine_a.said up; off = λ off. let no : true ≡ false = sym on ∙ off in absurd cc; frames = subst AllFrames (sym p_queue) (stays_frames h.size fate hands.checked frame rest all) };
        fine_b = subst (λ (x : Party T). Fine V old.link x) (sym q_is) (receives_fine V old.link hands.reaction comes old.b frames_b on stands.fine_b q_whole);
        whole_a = ap (λ (k : Pair S T). k.a.whole) (sym same) ∙ whole_a;
        whole_b = ap (λ (k : Pair S T). k.b.whole) (sym same) ∙ whole_b;
        numbered = stands.numbered;
      };
      goes = subst (λ (x : Party T). Goes U V (word ∷ []) (calm_pair h old) (end p.upper p.queue x)) (sym q_is)
          (subst (λ (l : List (List ℕ)). Goes U V (word ∷ []) (calm_pair h old) (end p.upper l hearer)) (sym p_queue)
          (subst (λ (s : S). Goes U V (word ∷ []) (calm_pair h old) (end s stay hearer)) (sym p_upper) from));
      within = omega arith;
    })
turn_made {S} {T} U V word (Meets Ba fate) h old new frames_a frames_b is stands is_calm found_is (p, q, hands, same) whole_a whole_b =
    let size = stands.size_is in
    let frame : List ℕ = hands.frame in
    let rest : List (List ℕ) = hands.rest in
    let on : old.link ≡ true = at_queue U V old.link old.b.queue old.b.queue stands.fine_b.off refl frame rest hands.is in
    let comes : List (List ℕ) = comes_of h.size fate hands.checked frame in
    let p_is : p ≡ receives U old.link hands.reaction comes old.a = hands.other_is ∙ ap (λ (n : ℕ). receives U old.link hands.reaction (comes_of n fate hands.checked frame) old.a) size in
    let p_whole : (receives U old.link hands.reaction comes old.a).whole ≡ true = ap (λ (x : Party S). x.whole) (sym p_is ∙ sym (ap (λ (k : Pair S T). k.a) same)) ∙ whole_a in
    let q_queue : q.queue ≡ (meets h.size fate hands.checked frame).stays ++ rest = ap (λ (x : Party T). x.queue) hands.one_is ∙ ap (λ (n : ℕ). (meets n fate hands.checked frame).stays ++ rest) size in
    let q_upper : q.upper ≡ old.b.upper = ap (λ (x : Party T). x.upper) hands.one_is in
    let all : AllFrames (frame ∷ rest) = subst AllFrames hands.is stands.fine_b.frames in
    let at : IsAtRest U V (calm h old.link old.served old.pushes old.a.upper old.a.queue old.b.upper (frame ∷ rest)) =
    subst (λ (l : List (List ℕ)). IsAtRest U V (calm h old.link old.served old.pushes old.a.upper old.a.queue old.b.upper l)) hands.is (at_rest U V h old stands is_calm) in
    let deed_is : deed_of word old.served old.a.queue (frame ∷ rest) old.link ≡ Meets Ba fate = ap (λ (l : List (List ℕ)). deed_of word old.served old.a.queue l old.link) (sym hands.is) ∙ found_is in
    let goes = meets_ba U V word fate h old.link old.served old.pushes old.b.upper frame rest hands.checked hands.reaction old.a on (fits h stands.sizes) stands.sizes.long (stands.numbered on) frames_a all.0
    (keeps_by word old.served old.a.queue old.b.queue old.link Ba fate is found_is) hands.checked_is at is deed_is p_whole in
    let hearer : Party S = receives U old.link hands.reaction comes old.a in
    let stay : List (List ℕ) = (meets h.size fate hands.checked frame).stays ++ rest in
    let end : T → List (List ℕ) → Party S → World S T = λ t l x. calm (heard_a h (pieces_of h fate hands.checked frame)) old.link (served_by Ba fate old.served) old.pushes x.upper x.queue t l in
    let from = subst (λ (l : List (List ℕ)). Goes U V (word ∷ []) (calm h old.link old.served old.pushes old.a.upper old.a.queue old.b.upper l) (end old.b.upper stay hearer)) (sym hands.is) goes in
    subst (λ (k : Pair S T). Made U V (word ∷ []) 0 h old k) (sym same)
    (record {
      shape = heard_a h (pieces_of h fate hands.checked frame);
      stands = record {
        size_is = size;
        sizes = stands.sizes;
        fine_a = subst (λ (x : Party S). Fine U old.link x) (sym p_is) (receives_fine U old.link hands.reaction comes old.a frames_a on stands.fine_a p_whole);
        fine_b = record { said = λ up. ap (λ (t : T). V.next t) q_upper ∙ stands.fine_b.said up; off = λ off. let no : true ≡ false = sym on ∙ off in absurd cc; frames = subst AllFrames (sym q_queue) (stays_frames h.size fate hands.checked frame rest all) };
        whole_a = ap (λ (k : Pair S T). k.a.whole) (sym same) ∙ whole_a;
        whole_b = ap (λ (k : Pair S T). k.b.whole) (sym same) ∙ whole_b;
        numbered = stands.numbered;
      };
      goes = subst (λ (x : Party S). Goes U V (word ∷ []) (calm_pair h old) (end q.upper q.queue x)) (sym p_is)
          (subst (λ (l : List (List ℕ)). Goes U V (word ∷ []) (calm_pair h old) (end q.upper l hearer)) (sym q_queue)
          (subst (λ (t : T). Goes U V (word ∷ []) (calm_pair h old) (end t stay hearer)) (sym q_upper) from));
      within = omega arith;
    })
turn_made {S} {T} U V word (Fires A) h old new frames_a frames_b is stands is_calm found_is (armed, r, same) whole_a whole_b =
    let w : World S T = calm_pair h old in
    let p : Party S = hears U old.link r TimerFired old.a in
    let whole : p.whole ≡ true = ap (λ (k : Pair S T). k.a.whole) (sym same) ∙ whole_a in
    let first = turns U V word (Fires A) h old.link old.served old.pushes old.a.upper old.a.queue old.b.upper old.b.queue (record w { a = told U r.answers TimerFired w.a }) (at_rest U V h old stands is_calm) is found_is (armed, r.answers, refl) in
    subst (λ (k : Pair S T). Made U V (word ∷ []) 0 h old k) (sym same)
    (record {
      shape = one_more h;
      stands = record { size_is = stands.size_is; sizes = stands.sizes; fine_a = fine_speaks U old.link r.breath (notes U r.answers TimerFired old.a) frames_a stands.fine_a.off stands.fine_a.frames whole; fine_b = stands.fine_b; whole_a = whole; whole_b = stands.whole_b; numbered = stands.numbered };
      goes = goes_then U V (word ∷ []) [] w _ _ first (speaks_a U V (one_more h) old.link old.served old.pushes r.breath (notes U r.answers TimerFired old.a) old.b.upper old.b.queue (fits (one_more h) stands.sizes) stands.numbered frames_a whole);
      within = omega arith;
    })
turn_made {S} {T} U V word (Fires B) h old new frames_a frames_b is stands is_calm found_is (armed, r, same) whole_a whole_b =
    let w : World S T = calm_pair h old in
    let q : Party T = hears V old.link r TimerFired old.b in
    let whole : q.whole ≡ true = ap (λ (k : Pair S T). k.b.whole) (sym same) ∙ whole_b in
    let first = turns U V word (Fires B) h old.link old.served old.pushes old.a.upper old.a.queue old.b.upper old.b.queue (record w { b = told V r.answers TimerFired w.b }) (at_rest U V h old stands is_calm) is found_is (armed, r.answers, refl) in
    subst (λ (k : Pair S T). Made U V (word ∷ []) 0 h old k) (sym same)
    (record {
      shape = one_more h;
      stands = record { size_is = stands.size_is; sizes = stands.sizes; fine_a = stands.fine_a; fine_b = fine_speaks V old.link r.breath (notes V r.answers TimerFired old.b) frames_b stands.fine_b.off stands.fine_b.frames whole; whole_a = stands.whole_a; whole_b = whole; numbered = stands.numbered };
      goes = goes_then U V (word ∷ []) [] w _ _ first (speaks_b U V (one_more h) old.link old.served old.pushes r.breath (notes V r.answers TimerFired old.b) old.a.upper old.a.queue (fits (one_more h) stands.sizes) stands.numbered frames_b whole);
      within = omega arith;
    })
turn_made {S} {T} U V word FiresBoth h old new frames_a frames_b is stands is_calm found_is (armed, r, q, same) whole_a whole_b =
    let w : World S T = calm_pair h old in
    let a : Bool = U.armed old.a.upper in
    let b : Bool = V.armed old.b.upper in
    let wa : (fires U old.link r old.a).whole ≡ true = ap (λ (k : Pair S T). k.a.whole) (sym same) ∙ whole_a in
    let wb : (fires V old.link q old.b).whole ≡ true = ap (λ (k : Pair S T). k.b.whole) (sym same) ∙ whole_b in
    let sa : S = if a then U.hear r.answers TimerFired old.a.upper else old.a.upper in
    let sb : T = if b then V.hear q.answers TimerFired old.b.upper else old.b.upper in
    let first = turns U V word FiresBoth h old.link old.served old.pushes old.a.upper old.a.queue old.b.upper old.b.queue (record w { a = record (w.a) { upper = sa }; b = record (w.b) { upper = sb } }) (at_rest U V h old stands is_calm) is found_is
    (armed, r.answers, q.answers, sym (both_fire U V w r.answers q.answers a b)) in
    let mid = a_fires U V (one_more h) old.link old.served old.pushes r old.a sb old.b.queue a (fits (one_more h) stands.sizes) stands.numbered frames_a wa in
    let last = b_fires U V (one_more h) old.link old.served old.pushes q old.b (fires U old.link r old.a).upper (fires U old.link r old.a).queue b (fits (one_more h) stands.sizes) stands.numbered frames_b wb in
    subst (λ (k : Pair S T). Made U V (word ∷ []) 0 h old k) (sym same)
    (record {
      shape = one_more h;
      stands = record { size_is = stands.size_is; sizes = stands.sizes; fine_a = fires_fine U old.link r old.a a frames_a stands.fine_a wa; fine_b = fires_fine V old.link q old.b b frames_b stands.fine_b wb; whole_a = wa; whole_b = wb; numbered = stands.numbered };
      goes = goes_then U V (word ∷ []) [] w _ _ first (goes_then U V [] [] _ _ _ mid last);
      within = omega arith;
    })
turn_made {S} {T} U V word Breaks h old new frames_a frames_b is stands is_calm found_is (r, q, same) whole_a whole_b =
    falls_made U V (word ∷ []) h old new (cleared (one_more h)) 0x08 0x08 r q stands refl refl refl same
    (link_breaks U V word h old.link old.served old.pushes old.a.upper old.a.queue old.b.upper old.b.queue r q (breaks_on word old.served old.a.queue old.b.queue old.link found_is) (at_rest U V h old stands is_calm) is found_is)
turn_made {S} {T} U V word Cancels h old new frames_a frames_b is stands is_calm found_is (may, r, same) whole_a whole_b =
    let w : World S T = calm_pair h old in
    let p : Party S = hears U old.link r Cancelled old.a in
    let whole : p.whole ≡ true = ap (λ (k : Pair S T). k.a.whole) (sym same) ∙ whole_a in
    let first = turns U V word Cancels h old.link old.served old.pushes old.a.upper old.a.queue old.b.upper old.b.queue (record w { a = told U r.answers Cancelled w.a }) (at_rest U V h old stands is_calm) is found_is (may, r.answers, refl) in
    subst (λ (k : Pair S T). Made U V (word ∷ []) 0 h old k) (sym same)
    (record {
      shape = one_more h;
      stands = record { size_is = stands.size_is; sizes = stands.sizes; fine_a = fine_speaks U old.link r.breath (notes U r.answers Cancelled old.a) frames_a stands.fine_a.off stands.fine_a.frames whole; fine_b = stands.fine_b; whole_a = whole; whole_b = stands.whole_b; numbered = stands.numbered };
      goes = goes_then U V (word ∷ []) [] w _ _ first (speaks_a U V (one_more h) old.link old.served old.pushes r.breath (notes U r.answers Cancelled old.a) old.b.upper old.b.queue (fits (one_more h) stands.sizes) stands.numbered frames_a whole);
      within = omega arith;
    })

-- ---- any turn

step_made :
    {S T G H : Type 0} (U : Upper S G) (V : Upper T H) (step : Step) (h : Shape) (old new : Pair S T) → SaysFrames U → SaysFrames V → AllByRecursion IsWord (words_in step) → h.number + rises_in step ≤ 0x0EFF → Stands U V h old
    → Moves U V step old new → new.a.whole ≡ true → new.b.whole ≡ true → Made U V (words_in step) (rises_in step) h old new
step_made U V (Turn word) h old new frames_a frames_b are few stands (is_calm, does) whole_a whole_b = turn_made U V word (found word old) h old new frames_a frames_b are.0 stands is_calm refl does whole_a whole_b
step_made {S} {T} U V (Idle word) h old new frames_a frames_b are few stands (is_calm, finds, same) whole_a whole_b =
    let none = subst (λ (d : Deed). FindsNothing U V d old.pushes old.a.upper old.b.upper) (sym (finds_same word old.served old.link old.a.queue old.b.queue)) finds in
    subst (λ (k : Pair S T). Made U V (word ∷ []) 0 h old k) (sym same)
    (record {
      shape = one_more h;
      stands = record { size_is = stands.size_is; sizes = stands.sizes; fine_a = stands.fine_a; fine_b = stands.fine_b; whole_a = stands.whole_a; whole_b = stands.whole_b; numbered = stands.numbered };
      goes = record { happenings = Misses word ∷ []; runs = (calm_pair (one_more h) old, (at_rest U V h old stands is_calm, none, refl), refl); words_are = refl };
      within = omega arith;
    })
step_made {S} {T} U V Rise h old new frames_a frames_b are few stands (off, going, wants, r, q, same) whole_a whole_b =
    let s : S = U.hear r.answers (Linked Up) old.a.upper in
    let t : T = V.hear q.answers (Linked Up) old.b.upper in
    let none_a : [] ≡ old.a.queue = sym (stands.fine_a.off off) in
    let none_b : [] ≡ old.b.queue = sym (stands.fine_b.off off) in
    let rises_on = it_rises U V h old.served old.pushes r.answers q.answers old.a.upper old.b.upper (omega arith) wants in
    let at : Bool → List (List ℕ) → List (List ℕ) → World S T = λ link qa qb. calm h link old.served old.pushes old.a.upper qa old.b.upper qb in
    let up : List (List ℕ) → List (List ℕ) → World S T = λ qa qb. calm (linked h) true old.served old.pushes s qa t qb in
    let first = subst (λ (link : Bool). Goes U V [] (at link old.a.queue old.b.queue) (up old.a.queue old.b.queue)) (sym off)
    (subst (λ (l : List (List ℕ)). Goes U V [] (at false l old.b.queue) (up l old.b.queue)) none_a (subst (λ (l : List (List ℕ)). Goes U V [] (at false [] l) (up [] l)) none_b rises_on)) in
    let wa : (event_heard U Up r old.a).whole ≡ true = ap (λ (k : Pair S T). k.a.whole) (sym same) ∙ whole_a in
    let wb : (event_heard V Up q old.b).whole ≡ true = ap (λ (k : Pair S T). k.b.whole) (sym same) ∙ whole_b in
    let one = speaks_a U V (linked h) true old.served old.pushes r.breath (notes U r.answers (Linked Up) old.a) t old.b.queue (fits (linked h) stands.sizes) (λ on. omega arith) frames_a wa in
    let two = speaks_b U V (linked h) true old.served old.pushes q.breath (notes V q.answers (Linked Up) old.b) (event_heard U Up r old.a).upper (event_heard U Up r old.a).queue (fits (linked h) stands.sizes) (λ on. omega arith) frames_b wb in
    subst (λ (k : Pair S T). Made U V [] 1 h old k) (sym same)
    (record {
      shape = linked h;
      stands = record {
        size_is = stands.size_is;
        sizes = stands.sizes;
        fine_a = up_fine U r old.a frames_a (sym none_a) wa;
        fine_b = up_fine V q old.b frames_b (sym none_b) wb;
        whole_a = wa;
        whole_b = wb;
        numbered = λ on. omega arith;
      };
      goes = goes_then U V [] [] _ _ _ first (goes_then U V [] [] _ _ _ one two);
      within = omega arith;
    })
step_made {S} {T} U V (Fall A) h old new frames_a frames_b are few stands (on, leaves, whole, r, q, same) whole_a whole_b =
    falls_made U V [] h old new (cleared h) 0x16 0x13 r q stands refl refl refl same
    (subst (λ (link : Bool). Goes U V [] (calm h link old.served old.pushes old.a.upper old.a.queue old.b.upper old.b.queue)
    (calm (cleared h) false old.served old.pushes (U.hear r.answers (Linked (Down 0x16)) old.a.upper) [] (V.hear q.answers (Linked (Down 0x13)) old.b.upper) [])) (sym on)
    (a_falls U V h old.served old.pushes r.answers q.answers old.a.upper old.a.queue old.b.upper old.b.queue (stands.fine_a.said on) leaves))
step_made {S} {T} U V (Fall B) h old new frames_a frames_b are few stands (on, leaves, whole, r, q, same) whole_a whole_b =
    falls_made U V [] h old new (cleared h) 0x13 0x16 r q stands refl refl refl same
    (subst (λ (link : Bool). Goes U V [] (calm h link old.served old.pushes old.a.upper old.a.queue old.b.upper old.b.queue)
    (calm (cleared h) false old.served old.pushes (U.hear r.answers (Linked (Down 0x13)) old.a.upper) [] (V.hear q.answers (Linked (Down 0x16)) old.b.upper) [])) (sym on)
    (b_falls U V h old.served old.pushes r.answers q.answers old.a.upper old.a.queue old.b.upper old.b.queue (stands.fine_b.said on) leaves))
step_made {S} {T} U V (Began name) h old new frames_a frames_b are few stands (off, idle, next, r, same) whole_a whole_b =
    let begun_then : Pair S T = record old { pushes = one_begun old.pushes; a = notes U r.answers (Opening name) old.a } in
    subst (λ (k : Pair S T). Made U V [] 0 h old k) (sym same)
    (record {
      shape = h;
      stands = record {
        size_is = stands.size_is;
        sizes = stands.sizes;
        fine_a = record { said = λ on. let no : true ≡ false = sym on ∙ off in absurd cc; off = stands.fine_a.off; frames = stands.fine_a.frames };
        fine_b = stands.fine_b;
        whole_a = stands.whole_a;
        whole_b = stands.whole_b;
        numbered = stands.numbered;
      };
      goes = record { happenings = Opens (old.pushes.begun + 1) name ∷ []; runs = (calm_pair h begun_then, (idle, next, refl, r.answers, refl), refl); words_are = refl };
      within = omega arith;
    })
step_made {S} {T} U V (Ended outcome) h old new frames_a frames_b are few stands (off, going, idle, came, same) whole_a whole_b =
    let apart : is_apart (phase_of old.link) ≡ true = ap (λ (link : Bool). is_apart (phase_of link)) off in
    subst (λ (k : Pair S T). Made U V [] 0 h old k) (sym same)
    (record {
      shape = h;
      stands = record {
        size_is = stands.size_is;
        sizes = stands.sizes;
        fine_a = record { said = stands.fine_a.said; off = stands.fine_a.off; frames = stands.fine_a.frames };
        fine_b = stands.fine_b;
        whole_a = stands.whole_a;
        whole_b = stands.whole_b;
        numbered = stands.numbered;
      };
      goes = record {
        happenings = Closes old.pushes.begun outcome ∷ [];
        runs = (calm_pair h (record old { pushes = one_ended outcome old.pushes }), (going, refl, idle, came, apart, refl, refl, refl, refl, refl), refl);
        words_are = refl;
      };
      within = omega arith;
    })

-- ---- one after the other

all_words_are : (xs ys : List Word) → AllByRecursion IsWord (xs ++ ys) → AllByRecursion IsWord xs × AllByRecursion IsWord ys
all_words_are [] ys all = (tt, all)
all_words_are (x ∷ xs) ys (is, all) = let rest = all_words_are xs ys all in ((is, rest.0), rest.1)

all_made :
    {S T G H : Type 0} (U : Upper S G) (V : Upper T H) (steps : List Step) (h : Shape) (old new : Pair S T) → SaysFrames U → SaysFrames V → AllByRecursion IsWord (words_of steps) → h.number + rises steps ≤ 0x0EFF → Stands U V h old
    → PassesWhole U V steps old new → Made U V (words_of steps) (rises steps) h old new
all_made {S} {T} U V [] h old new frames_a frames_b are few stands same =
    subst (λ (k : Pair S T). Made U V [] 0 h old k) (sym same) (record { shape = h; stands = stands; goes = goes_none U V (calm_pair h old); within = omega arith })
all_made U V (step ∷ steps) h old new frames_a frames_b are few stands (mid, moves, whole_a, whole_b, passes) =
    let words = all_words_are (words_in step) (words_of steps) are in
    let one = step_made U V step h old mid frames_a frames_b words.0 (omega arith) stands moves whole_a whole_b in
    let within = one.within in
    let rest = all_made U V steps one.shape mid new frames_a frames_b words.1 (omega arith) one.stands passes in
    let further = rest.within in
    record {
      shape = rest.shape;
      stands = rest.stands;
      goes = goes_then U V (words_in step) (words_of steps) (calm_pair h old) (calm_pair one.shape mid) (calm_pair rest.shape new) one.goes rest.goes;
      within = omega arith;
    }

pub turns_are_played : {S T G H : Type 0} (U : Upper S G) (V : Upper T H) → TurnsArePlayed U V
turns_are_played {S} {T} U V size count names steps pair sizes frames_a frames_b are few passes =
    let h : Shape = begun size count in
    let first : Stands U V h (first_pair U V size names) = record {
      size_is = refl;
      sizes = sizes;
      fine_a = record { said = λ on. cc; off = λ off. refl; frames = tt };
      fine_b = record { said = λ on. cc; off = λ off. refl; frames = tt };
      whole_a = refl;
      whole_b = refl;
      numbered = λ on. cc;
    } in
    let made = all_made U V steps h (first_pair U V size names) pair frames_a frames_b are (omega arith) first passes in
    let all = goes_then U V [] (words_of steps) (first_world U V size count names) (calm_pair h (first_pair U V size names)) (calm_pair made.shape pair) (it_starts U V size count names sizes) made.goes in
    record {
      happenings = all.happenings;
      world = calm_pair made.shape pair;
      runs = all.runs;
      words = all.words_are;
      reflects = record {
        size_is = made.stands.size_is;
        link_is = sym (together_is pair.link);
        served_is = refl;
        pushes_are = refl;
        upper_a = refl;
        upper_b = refl;
        queue_a = refl;
        queue_b = refl;
        whole_a = made.stands.whole_a;
        whole_b = made.stands.whole_b;
      };
      rests = at_rest U V made.shape pair made.stands;
    }
