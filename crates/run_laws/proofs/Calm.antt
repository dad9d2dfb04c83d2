-- Worlds in which nothing is under way, as a pair in the world of turns has them.
use Rattle.std.proofs.Common.{◌≡◌, ℕ, zero, suc, ◌≤◌, ◌&&◌, min, Bool, true, false, List, [], ◌∷◌, ◌++◌, Option, Some, None, is_none, take, drop, refl, sym, ap, subst, ◌∙◌, append-nil, arith}
use Rattle.std.proofs.Math.Nat.{le-min}
use Rattle.std.proofs.lemmas.List.{take-append-drop}
use Rattle.station_laws.specs.push_terms.specs.declared.word.Side.TheVariants.{A, B}
use Rattle.station_laws.specs.push_terms.specs.declared.word.Way.{Way}
use Rattle.station_laws.specs.radio_model.specs.Controllers.{is_empty}
use Rattle.station_laws.specs.radio_model.specs.Radio.{Phase, Apart, Together}
use Rattle.station_laws.specs.world_model.specs.Machines.{Upper, Spoken, drain, all_said, Breath, Whole, Short}
use Rattle.station_laws.specs.world_model.specs.Pushes.{Pushes}
use Rattle.station_laws.specs.world_model.specs.Turns.{Party, Pair, breathes, speaks}
use Rattle.station_laws.specs.world_model.specs.Worlds.{World}
use Rattle.station_laws.specs.turn_laws.specs.Premises.{SaysFrames}
use Rattle.station_laws.specs.turn_laws.proofs.Wiring.{AllFrames}
use Rattle.station_laws.specs.turn_laws.proofs.Saying.{drain_none, drain_some, all_said_none, all_said_some}
use Rattle.station_laws.specs.WorldLaws.{AreSizes}
use Rattle.run_laws.proofs.Owning.{Own, own, Goes, goes_none, goes_a, goes_b}
use Rattle.run_laws.proofs.Speaking.{one_of, station_of, Place, speaks_all}

-- ---- worlds

-- what no machine knows: the controllers' numbers, how many links there were and words were turned, and what is joined at each host
pub record Shape : Type 0 where
  pub size : ℕ
  pub count : ℕ
  pub number : ℕ
  pub turned : ℕ
  pub joining_a : List ℕ
  pub joining_b : List ℕ

abbrev pub link_of : Bool → ℕ → Option ℕ
link_of true number = Some number
link_of false number = None

abbrev pub phase_of : Bool → Phase
phase_of true = Together
phase_of false = Apart

abbrev pub room : Shape → ℕ
room h = min h.size 1021

abbrev pub buffers : Shape → ℕ
buffers h = min h.count 64

abbrev pub at_a : Shape → Place
at_a h = record { scan = 0; number = h.number; size = room h; total = buffers h; joining = h.joining_a }

abbrev pub at_b : Shape → Place
at_b h = record { scan = 3; number = h.number; size = room h; total = buffers h; joining = h.joining_b }

-- a host with nothing under way
abbrev pub calm_own : {S : Type 0} → Place → Bool → S → List (List ℕ) → Own S
calm_own p link upper queue = own (one_of p.scan p.number link [] queue) (station_of upper p.size p.total (link_of link p.number) p.joining [])

abbrev pub put : {S T : Type 0} → Shape → Option Way → Pushes → Phase → Own S → Own T → World S T
put h served pushes phase a b = record {
  radio = record { size = h.size; count = h.count; a = a.one; b = b.one; phase = phase; number = h.number; served = served };
  a = a.station;
  b = b.station;
  pushes = pushes;
  turned = h.turned;
}

abbrev pub calm : {S T : Type 0} → Shape → Bool → Option Way → Pushes → (s : S) (qa : List (List ℕ)) (t : T) (qb : List (List ℕ)) → World S T
calm h link served pushes s qa t qb = put h served pushes (phase_of link) (calm_own (at_a h) link s qa) (calm_own (at_b h) link t qb)

abbrev pub calm_pair : {S T : Type 0} → Shape → Pair S T → World S T
calm_pair h k = calm h k.link k.served k.pushes k.a.upper k.a.queue k.b.upper k.b.queue

-- ---- numbers

pub record Fits (h : Shape) : Type 0 where
  pub long : 27 ≤ room h
  pub some : 1 ≤ buffers h

pub fits : (h : Shape) → AreSizes h.size h.count → Fits h
fits h sizes = record { long = le-min sizes.long (omega arith); some = le-min sizes.some (omega arith) }

-- ---- what a host says

frames_by : {S G : Type 0} (U : Upper S G) (count : ℕ) (s : S) (next : Option (List ℕ × S)) → SaysFrames U → U.next s ≡ next → AllFrames (drain U count s).said
frames_by U zero s next frames is = tt
frames_by {S} U (suc count) s None frames is = subst (λ (spoken : Spoken S). AllFrames spoken.said) (sym (drain_none U (suc count) s is)) tt
frames_by {S} U (suc count) s (Some (pdu, t)) frames is =
    subst (λ (spoken : Spoken S). AllFrames spoken.said) (sym (drain_some U count s pdu t is)) (frames s pdu t is, frames_by U count t (U.next t) frames refl)

more_frames : (one two : List (List ℕ)) → AllFrames one → AllFrames two → AllFrames (one ++ two)
more_frames [] two first second = second
more_frames (frame ∷ one) two (is, first) second = (is, more_frames one two first second)

-- it says until it has nothing to say
says_until : {S G : Type 0} (U : Upper S G) (count : ℕ) (s : S) (next : Option (List ℕ × S)) → U.left s ≤ count → U.next s ≡ next → U.next (all_said U s).after ≡ None
says_until {S} U count s None few is = ap (λ (spoken : Spoken S). U.next spoken.after) (all_said_none U s is) ∙ is
says_until U zero s (Some (pdu, t)) few is = let less = U.falls s pdu t is in absurd (omega arith)
says_until {S} U (suc count) s (Some (pdu, t)) few is =
    let less = U.falls s pdu t is in
    ap (λ (spoken : Spoken S). U.next spoken.after) (all_said_some U s pdu t is) ∙ says_until U count t (U.next t) (omega arith) refl

-- so many PDUs are all, where it has nothing to say behind them
drains_all : {S G : Type 0} (U : Upper S G) (count : ℕ) (s : S) (next : Option (List ℕ × S)) → U.next s ≡ next → U.next (drain U count s).after ≡ None → drain U count s ≡ all_said U s
drains_all U zero s next is none = sym (all_said_none U s none)
drains_all U (suc count) s None is none = drain_none U (suc count) s is ∙ sym (all_said_none U s is)
drains_all {S} U (suc count) s (Some (pdu, t)) is none =
    let so_far = drain_some U count s pdu t is in
    let end : U.next (drain U count t).after ≡ None = ap (λ (spoken : Spoken S). U.next spoken.after) (sym so_far) ∙ none in
    so_far ∙ ap (λ (spoken : Spoken S). record { said = pdu ∷ spoken.said; after = spoken.after }) (drains_all U count t (U.next t) refl end) ∙ sym (all_said_some U s pdu t is)

-- a host that has said all says all that it has to say
pub record SaysAll {S G : Type 0} (U : Upper S G) (p q : Party S) : Type 0 where
  pub upper_is : q.upper ≡ (all_said U p.upper).after
  pub queue_is : q.queue ≡ p.queue ++ (all_said U p.upper).said

none_of : {X : Type 0} (o : Option X) (b : Bool) → (is_none o && b) ≡ true → o ≡ None
none_of None b is = refl
none_of (Some x) b is = cc

empty_of : {X Y : Type 0} (o : Option X) (ys : List Y) → (is_none o && is_empty ys) ≡ true → ys ≡ []
empty_of o [] is = refl
empty_of None (y ∷ ys) is = cc
empty_of (Some x) (y ∷ ys) is = cc

says_whole : {S G : Type 0} (U : Upper S G) (breath : Breath) (p : Party S) → (breathes U breath [] p).whole ≡ true → SaysAll U p (breathes U breath [] p)
says_whole U Whole p whole = record { upper_is = refl; queue_is = refl }
says_whole {S} U (Short moved asked) p whole =
    let spoken : Spoken S = drain U asked p.upper in
    let all : spoken ≡ all_said U p.upper = drains_all U asked p.upper (U.next p.upper) refl (none_of (U.next spoken.after) (is_empty (drop moved spoken.said)) whole) in
    let left : drop moved spoken.said ≡ [] = empty_of (U.next spoken.after) (drop moved spoken.said) whole in
    let moved_are : take moved spoken.said ≡ spoken.said = sym (append-nil (take moved spoken.said)) ∙ ap (λ (l : List (List ℕ)). take moved spoken.said ++ l) (sym left) ∙ take-append-drop moved spoken.said in
    record {
      upper_is = ap (λ (k : Spoken S). k.after) all;
      queue_is = ap (λ (l : List (List ℕ)). p.queue ++ l) (moved_are ∙ ap (λ (k : Spoken S). k.said) all);
    }

-- ---- what is true of a host between two turns

pub record Fine {S G : Type 0} (U : Upper S G) (link : Bool) (p : Party S) : Type 0 where
  pub said : link ≡ true → U.next p.upper ≡ None
  pub off : link ≡ false → p.queue ≡ []
  pub frames : AllFrames p.queue

pub fine_speaks : {S G : Type 0} (U : Upper S G) (link : Bool) (breath : Breath) (p : Party S) → SaysFrames U → (link ≡ false → p.queue ≡ []) → AllFrames p.queue → (speaks U link breath p).whole ≡ true → Fine U link (speaks U link breath p)
fine_speaks U false breath p frames off queue whole = record { said = λ on. cc; off = off; frames = queue }
fine_speaks {S} U true breath p frames off queue whole =
    let all = says_whole U breath p whole in
    record {
      said = λ on. ap (λ (s : S). U.next s) all.upper_is ∙ says_until U (U.left p.upper) p.upper (U.next p.upper) (omega arith) refl;
      off = λ no. cc;
      frames = subst AllFrames (sym all.queue_is) (more_frames p.queue (all_said U p.upper).said queue (frames_by U (U.left p.upper) p.upper (U.next p.upper) frames refl));
    }

-- ---- a host speaks, if there is a link

pub speaks_a :
    {S T G H : Type 0} (U : Upper S G) (V : Upper T H) (h : Shape) (link : Bool) (served : Option Way) (pushes : Pushes) (breath : Breath) (p : Party S) (t : T) (qb : List (List ℕ)) → Fits h → (link ≡ true → 1 ≤ h.number) → SaysFrames U
    → (speaks U link breath p).whole ≡ true → Goes U V [] (calm h link served pushes p.upper p.queue t qb) (calm h link served pushes (speaks U link breath p).upper (speaks U link breath p).queue t qb)
speaks_a U V h false served pushes breath p t qb fits some frames whole = goes_none U V (calm h false served pushes p.upper p.queue t qb)
speaks_a {S} {T} U V h true served pushes breath p t qb fits some frames whole =
    let all = says_whole U breath p whole in
    let w : World S T = calm h true served pushes p.upper p.queue t qb in
    subst (λ (s : S). Goes U V [] w (calm h true served pushes s (breathes U breath [] p).queue t qb)) (sym all.upper_is)
    (subst (λ (q : List (List ℕ)). Goes U V [] w (calm h true served pushes (all_said U p.upper).after q t qb)) (sym all.queue_is)
    (goes_a U V w _ _ (speaks_all U A (at_a h) p.upper p.queue (some refl) fits.some fits.long frames)))

pub speaks_b :
    {S T G H : Type 0} (U : Upper S G) (V : Upper T H) (h : Shape) (link : Bool) (served : Option Way) (pushes : Pushes) (breath : Breath) (p : Party T) (s : S) (qa : List (List ℕ)) → Fits h → (link ≡ true → 1 ≤ h.number) → SaysFrames V
    → (speaks V link breath p).whole ≡ true → Goes U V [] (calm h link served pushes s qa p.upper p.queue) (calm h link served pushes s qa (speaks V link breath p).upper (speaks V link breath p).queue)
speaks_b U V h false served pushes breath p s qa fits some frames whole = goes_none U V (calm h false served pushes s qa p.upper p.queue)
speaks_b {S} {T} U V h true served pushes breath p s qa fits some frames whole =
    let all = says_whole V breath p whole in
    let w : World S T = calm h true served pushes s qa p.upper p.queue in
    subst (λ (t : T). Goes U V [] w (calm h true served pushes s qa t (breathes V breath [] p).queue)) (sym all.upper_is)
    (subst (λ (q : List (List ℕ)). Goes U V [] w (calm h true served pushes s qa (all_said V p.upper).after q)) (sym all.queue_is)
    (goes_b U V w _ _ (speaks_all V B (at_b h) p.upper p.queue (some refl) fits.some fits.long frames)))
