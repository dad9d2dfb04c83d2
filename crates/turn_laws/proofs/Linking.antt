-- Laws of turns: on each link a host hears what came of what the other said.
use Rattle.std.proofs.Common.{ℕ, ◌≡◌, ◌+◌, Bool, true, false, List, [], ◌∷◌, ◌++◌, length, map, take, drop, nat_lt, if◌then◌else◌, arith, length-append, refl, ap, sym, ◌∙◌, subst}
use Rattle.std.proofs.lemmas.List.{append_assoc, append-nil}
use Rattle.world_model.specs.push_terms.specs.declared.word.Side.TheVariants.{A, B}
use Rattle.world_model.specs.push_terms.specs.declared.word.Way.TheVariants.{Ab, Ba}
use Rattle.world_model.specs.capture.specs.Frames.{frame_pieces}
use Rattle.world_model.specs.radio_model.specs.declared.fate.Fate.{Fate}
use Rattle.world_model.specs.radio_model.specs.declared.fate.Fate.TheVariants.{Delivered, Lost, Repeated, CutOff, Changed}
use Rattle.world_model.specs.radio_model.specs.declared.deed.Deed.{Deed}
use Rattle.world_model.specs.radio_model.specs.declared.deed.Deed.TheVariants.{Nothing, Meets, Fires, FiresBoth, Breaks, Cancels}
use Rattle.world_model.specs.radio_model.specs.Fates.{meets, comes_of}
use Rattle.world_model.specs.Machines.{Up, Down, News, Linked, Failed, Heard, TimerFired, Cancelled, Opening, Upper, drain, all_said, Breath, Whole, Short, Reaction}
use Rattle.world_model.specs.Talks.{Talk, Told, Said, Unsent, Met, Done}
use Rattle.world_model.specs.Turns.{Party, Pair, breathes, speaks, notes, hears, with_queue, with_talk, receives, event_heard, fires, Step, Turn, Idle, Rise, Fall, Began, Ended, Hands, Acts, found, Moves, Passes, first_pair}
use Rattle.world_model.specs.PerLink.{PerLink, none_yet, next_link, with_pdus, heard_after, heard_from, heard_in, Flown, front_meets, flies, flown_from, flown_in, HearsFrom, is_up, links_told}
use Rattle.turn_laws.specs.Laws.{HearsWhatWasSaid, SameLinks}

-- ---- what was said and heard, and then more

flown_append : (size : ℕ) (f : Flown) (one two : List Talk) → flown_from size f (one ++ two) ≡ flown_from size (flown_from size f one) two
flown_append size f [] two = refl
flown_append size f (talk ∷ one) two = flown_append size (flies size f talk) one two

heard_append : (links : PerLink) (one two : List Talk) → heard_from links (one ++ two) ≡ heard_from (heard_from links one) two
heard_append links [] two = refl
heard_append links (talk ∷ one) two = heard_append (heard_after links talk) one two

abbrev no_air : Flown
no_air = record { air = []; over = none_yet }

flown_one : (size : ℕ) (talks : List Talk) (talk : Talk) → flown_in size (talks ++ talk ∷ []) ≡ flies size (flown_in size talks) talk
flown_one size talks talk = flown_append size no_air talks (talk ∷ [])

heard_one : (talks : List Talk) (talk : Talk) → heard_in (talks ++ talk ∷ []) ≡ heard_after (heard_in talks) talk
heard_one talks talk = heard_append none_yet talks (talk ∷ [])

flown_said : (size : ℕ) (f : Flown) (pdus : List (List ℕ)) → flown_from size f (map Said pdus) ≡ record f { air = f.air ++ pdus }
flown_said size f [] = rw append-nil refl
flown_said size f (pdu ∷ pdus) = flown_said size (flies size f (Said pdu)) pdus ∙ rw append_assoc refl

flown_unsent : (size : ℕ) (f : Flown) (pdus : List (List ℕ)) → flown_from size f (map Unsent pdus) ≡ f
flown_unsent size f [] = refl
flown_unsent size f (pdu ∷ pdus) = flown_unsent size f pdus

heard_said : (links : PerLink) (pdus : List (List ℕ)) → heard_from links (map Said pdus) ≡ links
heard_said links [] = refl
heard_said links (pdu ∷ pdus) = heard_said links pdus

heard_unsent : (links : PerLink) (pdus : List (List ℕ)) → heard_from links (map Unsent pdus) ≡ links
heard_unsent links [] = refl
heard_unsent links (pdu ∷ pdus) = heard_unsent links pdus

-- ---- one way, from what one said to what the other heard

pub record Flows (size : ℕ) (link : Bool) (queue : List (List ℕ)) (talk other : List Talk) : Type 0 where
  pub air : (flown_in size talk).air ≡ queue
  pub over : heard_in other ≡ (flown_in size talk).over
  pub down : link ≡ false → queue ≡ []

-- more of what is nothing to this way
said_nothing : (size : ℕ) (link : Bool) (queue : List (List ℕ)) (talk other : List Talk) (one : Talk) → ((f : Flown) → flies size f one ≡ f) → Flows size link queue talk other → Flows size link queue (talk ++ one ∷ []) other
said_nothing size link queue talk other one none way =
    let same = flown_one size talk one ∙ none (flown_in size talk) in
    record { air = ap (λ (f : Flown). f.air) same ∙ way.air; over = way.over ∙ sym (ap (λ (f : Flown). f.over) same); down = way.down }

heard_nothing : (size : ℕ) (link : Bool) (queue : List (List ℕ)) (talk other : List Talk) (one : Talk) → ((links : PerLink) → heard_after links one ≡ links) → Flows size link queue talk other → Flows size link queue talk (other ++ one ∷ [])
heard_nothing size link queue talk other one none way = record { air = way.air; over = heard_one other one ∙ none (heard_in other) ∙ way.over; down = way.down }

-- it says some PDUs, and keeps others back
said_more : (size : ℕ) (queue : List (List ℕ)) (talk other : List Talk) (said unsent : List (List ℕ)) → Flows size true queue talk other
    → Flows size true (queue ++ said) (talk ++ (map Said said ++ map Unsent unsent)) other
said_more size queue talk other said unsent way =
    let same : flown_in size (talk ++ (map Said said ++ map Unsent unsent)) ≡ record (flown_in size talk) { air = (flown_in size talk).air ++ said } =
    flown_append size no_air talk (map Said said ++ map Unsent unsent)
    ∙ flown_append size (flown_in size talk) (map Said said) (map Unsent unsent)
    ∙ flown_unsent size (flown_from size (flown_in size talk) (map Said said)) unsent
    ∙ flown_said size (flown_in size talk) said in
    record {
      air = ap (λ (f : Flown). f.air) same ∙ ap (λ (l : List (List ℕ)). l ++ said) way.air;
      over = way.over ∙ sym (ap (λ (f : Flown). f.over) same);
      down = λ off. cc;
    }

said_elsewhere : (size : ℕ) (link : Bool) (queue : List (List ℕ)) (talk other : List Talk) (said unsent : List (List ℕ)) → Flows size link queue talk other → Flows size link queue talk (other ++ (map Said said ++ map Unsent unsent))
said_elsewhere size link queue talk other said unsent way = record {
  air = way.air;
  over = heard_append none_yet other (map Said said ++ map Unsent unsent)
      ∙ heard_append (heard_in other) (map Said said) (map Unsent unsent)
      ∙ heard_unsent (heard_from (heard_in other) (map Said said)) unsent
      ∙ heard_said (heard_in other) said
      ∙ way.over;
  down = way.down;
}

-- ---- both ways between two parties

pub record Tied {S T : Type 0} (size : ℕ) (link : Bool) (p : Party S) (q : Party T) : Type 0 where
  pub one : Flows size link p.queue p.talk q.talk
  pub other : Flows size link q.queue q.talk p.talk

turned : {S T : Type 0} {size : ℕ} {link : Bool} {p : Party S} {q : Party T} → Tied size link p q → Tied size link q p
turned tied = record { one = tied.other; other = tied.one }

-- the first of them says what it has to say
whole_talk : (talk : List Talk) (said : List (List ℕ)) → talk ++ (map Said said ++ map Unsent []) ≡ talk ++ map Said said
whole_talk talk said = rw append-nil refl

breathes_tied : {S T G : Type 0} (U : Upper S G) (size : ℕ) (breath : Breath) (p : Party S) (q : Party T) → Tied size true p q → Tied size true (breathes U breath [] p) q
breathes_tied U size Whole p q tied =
    let said = (all_said U p.upper).said in
    let same = whole_talk p.talk said in
    record {
      one = subst (λ (t : List Talk). Flows size true (p.queue ++ said) t q.talk) same (said_more size p.queue p.talk q.talk said [] tied.one);
      other = subst (λ (t : List Talk). Flows size true q.queue q.talk t) same (said_elsewhere size true q.queue q.talk p.talk said [] tied.other);
    }
breathes_tied U size (Short moved asked) p q tied =
    let said = (drain U asked p.upper).said in
    record {
      one = said_more size p.queue p.talk q.talk (take moved said) (drop moved said) tied.one;
      other = said_elsewhere size true q.queue q.talk p.talk (take moved said) (drop moved said) tied.other;
    }

speaks_tied : {S T G : Type 0} (U : Upper S G) (size : ℕ) (link : Bool) (breath : Breath) (p : Party S) (q : Party T) → Tied size link p q → Tied size link (speaks U link breath p) q
speaks_tied U size true breath p q tied = breathes_tied U size breath p q tied
speaks_tied U size false breath p q tied = tied

-- it is told what is nothing to either way
pub record IsAside (size : ℕ) (talk : Talk) : Type 0 where
  pub flown : (f : Flown) → flies size f talk ≡ f
  pub heard : (links : PerLink) → heard_after links talk ≡ links

talk_tied : {S T : Type 0} (size : ℕ) (link : Bool) (upper : S) (whole : Bool) (talk : Talk) (p : Party S) (q : Party T) → IsAside size talk → Tied size link p q
    → Tied size link (record { upper = upper; queue = p.queue; talk = p.talk ++ talk ∷ []; whole = whole }) q
talk_tied size link upper whole talk p q aside tied = record {
  one = said_nothing size link p.queue p.talk q.talk talk aside.flown tied.one;
  other = heard_nothing size link q.queue q.talk p.talk talk aside.heard tied.other;
}

told_tied : {S T G : Type 0} (U : Upper S G) (size : ℕ) (link : Bool) (r : Reaction G) (news : News) (p : Party S) (q : Party T) → IsAside size (Told news) → Tied size link p q → Tied size link (hears U link r news p) q
told_tied U size link r news p q aside tied =
    speaks_tied U size link r.breath (notes U r.answers news p) q (talk_tied size link (U.hear r.answers news p.upper) p.whole (Told news) p q aside tied)

fires_by : {S T G : Type 0} (U : Upper S G) (size : ℕ) (link : Bool) (r : Reaction G) (p : Party S) (q : Party T) (armed : Bool) → Tied size link p q → Tied size link (if armed then hears U link r TimerFired p else p) q
fires_by U size link r p q true tied = told_tied U size link r TimerFired p q (record { flown = λ f. refl; heard = λ links. refl }) tied
fires_by U size link r p q false tied = tied

-- ---- a frame meets its fate

on_by : (link : Bool) (queue : List (List ℕ)) (frame : List ℕ) (rest : List (List ℕ)) → (link ≡ false → queue ≡ []) → queue ≡ frame ∷ rest → link ≡ true
on_by true queue frame rest none some = refl
on_by false queue frame rest none some = let empty = none refl in cc

-- at most one PDU comes of it
cut_one : (few : Bool) (frame one two : List ℕ) (rest : List (List ℕ)) (P : Type 0) → (if few then [] else frame ∷ []) ≡ one ∷ two ∷ rest → P
cut_one true frame one two rest P is = absurd cc
cut_one false frame one two rest P is = absurd cc

comes_one : (size : ℕ) (fate : Fate) (checked : Bool) (frame one two : List ℕ) (rest : List (List ℕ)) (P : Type 0) → comes_of size fate checked frame ≡ one ∷ two ∷ rest → P
comes_one size Delivered checked frame one two rest P is = absurd cc
comes_one size Lost checked frame one two rest P is = absurd cc
comes_one size Repeated checked frame one two rest P is = absurd cc
comes_one size (CutOff count) checked frame one two rest P is = cut_one (nat_lt count (length (frame_pieces size frame))) frame one two rest P is
comes_one size (Changed at mask) true frame one two rest P is = absurd cc
comes_one size (Changed at mask) false frame one two rest P is = absurd cc

hears_comes : {S T H : Type 0} (V : Upper T H) (size : ℕ) (r : Reaction H) (comes : List (List ℕ)) (p p' : Party S) (q : Party T)
    → ((one two : List ℕ) (rest : List (List ℕ)) (P : Type 0) → comes ≡ one ∷ two ∷ rest → P)
    → (flown_in size p'.talk).air ≡ p'.queue → (flown_in size p'.talk).over ≡ with_pdus comes (flown_in size p.talk).over → Flows size true q.queue q.talk p'.talk
    → Tied size true p q → Tied size true p' (receives V true r comes q)
hears_comes V size r [] p p' q few air over back tied =
    let same : with_pdus [] (flown_in size p.talk).over ≡ (flown_in size p.talk).over = rw append-nil refl in
    record { one = record { air = air; over = tied.one.over ∙ sym same ∙ sym over; down = λ off. cc }; other = back }
hears_comes V size r (pdu ∷ []) p p' q few air over back tied =
    let noted : Tied size true p' (notes V r.answers (Heard pdu) q) = record {
      one = record { air = air; over = heard_one q.talk (Told (Heard pdu)) ∙ ap (λ (links : PerLink). with_pdus (pdu ∷ []) links) tied.one.over ∙ sym over; down = λ off. cc };
      other = said_nothing size true q.queue q.talk p'.talk (Told (Heard pdu)) (λ f. refl) back;
    } in
    turned (speaks_tied V size true r.breath (notes V r.answers (Heard pdu) q) p' (turned noted))
hears_comes V size r (one ∷ two ∷ rest) p p' q few air over back tied = few one two rest _ refl

hands_tied : {S T H : Type 0} (V : Upper T H) (size : ℕ) (link : Bool) (fate : Fate) (p : Party S) (q : Party T) (p' : Party S) (q' : Party T) → Hands V size link fate p q p' q' → Tied size link p q → Tied size link p' q'
hands_tied V size true fate p q p' q' hands tied =
    let comes = comes_of size fate hands.checked hands.frame in
    let left : Party _ = with_talk (Met fate hands.checked) (with_queue ((meets size fate hands.checked hands.frame).stays ++ hands.rest) p) in
    let same : flown_in size left.talk ≡ record { air = (meets size fate hands.checked hands.frame).stays ++ hands.rest; over = with_pdus comes (flown_in size p.talk).over } =
    flown_one size p.talk (Met fate hands.checked)
    ∙ ap (λ (l : List (List ℕ)). front_meets size fate hands.checked l (flown_in size p.talk).over) (tied.one.air ∙ hands.is) in
    rw (hands.one_is, hands.other_is)
    (hears_comes V size hands.reaction comes p left q (comes_one size fate hands.checked hands.frame)
    (ap (λ (f : Flown). f.air) same) (ap (λ (f : Flown). f.over) same)
    (heard_nothing size true q.queue q.talk p.talk (Met fate hands.checked) (λ links. refl) tied.other) tied)
hands_tied V size false fate p q p' q' hands tied = let up = on_by false p.queue hands.frame hands.rest tied.one.down hands.is in cc

-- ---- links

up_flows : (size : ℕ) (queue : List (List ℕ)) (talk other : List Talk) → Flows size false queue talk other → Flows size true queue (talk ++ Told (Linked Up) ∷ []) (other ++ Told (Linked Up) ∷ [])
up_flows size queue talk other way =
    let same = flown_one size talk (Told (Linked Up)) in
    record {
      air = ap (λ (f : Flown). f.air) same ∙ sym (way.down refl);
      over = heard_one other (Told (Linked Up)) ∙ ap (λ (links : PerLink). next_link links) way.over ∙ sym (ap (λ (f : Flown). f.over) same);
      down = λ off. cc;
    }

up_tied : {S T G H : Type 0} (U : Upper S G) (V : Upper T H) (size : ℕ) (r : Reaction G) (s : Reaction H) (p : Party S) (q : Party T) → Tied size false p q → Tied size true (event_heard U Up r p) (event_heard V Up s q)
up_tied U V size r s p q tied =
    let noted : Tied size true (notes U r.answers (Linked Up) p) (notes V s.answers (Linked Up) q) = record { one = up_flows size p.queue p.talk q.talk tied.one; other = up_flows size q.queue q.talk p.talk tied.other } in
    let one = speaks_tied U size true r.breath (notes U r.answers (Linked Up) p) (notes V s.answers (Linked Up) q) noted in
    turned (speaks_tied V size true s.breath (notes V s.answers (Linked Up) q) (hears U true r (Linked Up) p) (turned one))

down_flows : (size x y : ℕ) (link : Bool) (queue : List (List ℕ)) (talk other : List Talk) → Flows size link queue talk other → Flows size false [] (talk ++ Told (Linked (Down x)) ∷ []) (other ++ Told (Linked (Down y)) ∷ [])
down_flows size x y link queue talk other way =
    let same = flown_one size talk (Told (Linked (Down x))) in
    record {
      air = ap (λ (f : Flown). f.air) same;
      over = heard_one other (Told (Linked (Down y))) ∙ way.over ∙ sym (ap (λ (f : Flown). f.over) same);
      down = λ off. refl;
    }

down_tied : {S T G H : Type 0} (U : Upper S G) (V : Upper T H) (size : ℕ) (link : Bool) (r : Reaction G) (s : Reaction H) (x y : ℕ) (p : Party S) (q : Party T) → Tied size link p q → Tied size false (event_heard U (Down x) r p) (event_heard V (Down y) s q)
down_tied U V size link r s x y p q tied = record { one = down_flows size x y link p.queue p.talk q.talk tied.one; other = down_flows size y x link q.queue q.talk p.talk tied.other }

-- ---- steps

abbrev pub TiedPair : {S T : Type 0} → Pair S T → Type 0
TiedPair pair = Tied pair.size pair.link pair.a pair.b

aside_timer : (size : ℕ) → IsAside size (Told TimerFired)
aside_timer size = record { flown = λ f. refl; heard = λ links. refl }

acts_tied : {S T G H : Type 0} (U : Upper S G) (V : Upper T H) (deed : Deed) (old new : Pair S T) → Acts U V deed old new → TiedPair old → TiedPair new
acts_tied U V Nothing old new acts tied = absurd acts
acts_tied U V (Meets Ab fate) old new (p, q, hands, same) tied = rw same (hands_tied V old.size old.link fate old.a old.b p q hands tied)
acts_tied U V (Meets Ba fate) old new (p, q, hands, same) tied = rw same (turned (hands_tied U old.size old.link fate old.b old.a q p hands (turned tied)))
acts_tied U V (Fires A) old new (armed, r, same) tied = rw same (told_tied U old.size old.link r TimerFired old.a old.b (aside_timer old.size) tied)
acts_tied U V (Fires B) old new (armed, s, same) tied = rw same (turned (told_tied V old.size old.link s TimerFired old.b old.a (aside_timer old.size) (turned tied)))
acts_tied U V FiresBoth old new (armed, r, s, same) tied =
    let second = turned (fires_by V old.size old.link s old.b old.a (V.armed old.b.upper) (turned tied)) in
    rw same (fires_by U old.size old.link r old.a (fires V old.link s old.b) (U.armed old.a.upper) second)
acts_tied U V Breaks old new (r, s, same) tied = rw same (down_tied U V old.size old.link r s 0x08 0x08 old.a old.b tied)
acts_tied U V Cancels old new (may, r, same) tied = rw same (told_tied U old.size old.link r Cancelled old.a old.b (record { flown = λ f. refl; heard = λ links. refl }) tied)

moves_tied : {S T G H : Type 0} (U : Upper S G) (V : Upper T H) (step : Step) (old new : Pair S T) → Moves U V step old new → TiedPair old → TiedPair new
moves_tied U V (Turn word) old new (calm, acts) tied = acts_tied U V (found word old) old new acts tied
moves_tied U V (Idle word) old new (calm, nothing, same) tied = rw same tied
moves_tied U V Rise old new (down, going, wants, r, s, same) tied =
    rw same (up_tied U V old.size r s old.a old.b (subst (λ (l : Bool). Tied old.size l old.a old.b) down tied))
moves_tied U V (Fall A) old new (up, leaves, whole, r, s, same) tied = rw same (down_tied U V old.size old.link r s 0x16 0x13 old.a old.b tied)
moves_tied U V (Fall B) old new (up, leaves, whole, r, s, same) tied = rw same (down_tied U V old.size old.link r s 0x13 0x16 old.a old.b tied)
moves_tied U V (Began name) old new (down, ready, next, r, same) tied =
    rw same (talk_tied old.size old.link (U.hear r.answers (Opening name) old.a.upper) old.a.whole (Told (Opening name)) old.a old.b (record { flown = λ f. refl; heard = λ links. refl }) tied)
moves_tied U V (Ended outcome) old new (down, going, ready, is, same) tied =
    rw same (talk_tied old.size old.link old.a.upper old.a.whole (Done outcome) old.a old.b (record { flown = λ f. refl; heard = λ links. refl }) tied)

passes_tied : {S T G H : Type 0} (U : Upper S G) (V : Upper T H) (steps : List Step) (old new : Pair S T) → Passes U V steps old new → TiedPair old → TiedPair new
passes_tied U V [] old new same tied = rw same tied
passes_tied U V (step ∷ steps) old new (mid, moves, passes) tied = passes_tied U V steps mid new passes (moves_tied U V step old mid moves tied)

first_flows : (size : ℕ) → Flows size false [] [] []
first_flows size = record { air = refl; over = refl; down = λ off. refl }

pub tied : {S T G H : Type 0} (U : Upper S G) (V : Upper T H) (size : ℕ) (names : List (List ℕ)) (steps : List Step) (p : Pair S T) → Passes U V steps (first_pair U V size names) p → TiedPair p
tied U V size names steps p passes = passes_tied U V steps (first_pair U V size names) p passes (record { one = first_flows size; other = first_flows size })

-- ---- the law, at the length of the pieces of the first pair

acts_size : {S T G H : Type 0} (U : Upper S G) (V : Upper T H) (deed : Deed) (old new : Pair S T) → Acts U V deed old new → new.size ≡ old.size
acts_size U V Nothing old new acts = absurd acts
acts_size U V (Meets Ab fate) old new (p, q, hands, same) = rw same refl
acts_size U V (Meets Ba fate) old new (p, q, hands, same) = rw same refl
acts_size U V (Fires A) old new (armed, r, same) = rw same refl
acts_size U V (Fires B) old new (armed, s, same) = rw same refl
acts_size U V FiresBoth old new (armed, r, s, same) = rw same refl
acts_size U V Breaks old new (r, s, same) = rw same refl
acts_size U V Cancels old new (may, r, same) = rw same refl

moves_size : {S T G H : Type 0} (U : Upper S G) (V : Upper T H) (step : Step) (old new : Pair S T) → Moves U V step old new → new.size ≡ old.size
moves_size U V (Turn word) old new (calm, acts) = acts_size U V (found word old) old new acts
moves_size U V (Idle word) old new (calm, nothing, same) = rw same refl
moves_size U V Rise old new (down, going, wants, r, s, same) = rw same refl
moves_size U V (Fall A) old new (up, leaves, whole, r, s, same) = rw same refl
moves_size U V (Fall B) old new (up, leaves, whole, r, s, same) = rw same refl
moves_size U V (Began name) old new (down, ready, next, r, same) = rw same refl
moves_size U V (Ended outcome) old new (down, going, ready, is, same) = rw same refl

passes_size : {S T G H : Type 0} (U : Upper S G) (V : Upper T H) (steps : List Step) (old new : Pair S T) → Passes U V steps old new → new.size ≡ old.size
passes_size U V [] old new same = rw same refl
passes_size U V (step ∷ steps) old new (mid, moves, passes) = passes_size U V steps mid new passes ∙ moves_size U V step old mid moves

pub hears_what_was_said : {S T G H : Type 0} (U : Upper S G) (V : Upper T H) → HearsWhatWasSaid U V
hears_what_was_said U V size names steps p passes =
    let all = tied U V size names steps p passes in
    let same = passes_size U V steps (first_pair U V size names) p passes in
    let Both : ℕ → Type 0 = λ n. HearsFrom n p.b.talk p.a.talk × HearsFrom n p.a.talk p.b.talk in
    subst Both same (all.one.over, all.other.over)

-- ---- as many links

front_done : (size : ℕ) (fate : Fate) (checked : Bool) (air : List (List ℕ)) (over : PerLink) → length (front_meets size fate checked air over).over.done ≡ length over.done
front_done size fate checked [] over = refl
front_done size fate checked (frame ∷ rest) over = refl

over_one : (size : ℕ) (f : Flown) (talk : Talk) → length (flies size f talk).over.done ≡ length f.over.done + is_up talk
over_one size f (Told (Linked Up)) = omega (arith, length-append f.over.done (f.over.now ∷ []))
over_one size f (Told (Linked (Down reason))) = omega arith
over_one size f (Told (Failed status)) = omega arith
over_one size f (Told (Heard pdu)) = omega arith
over_one size f (Told TimerFired) = omega arith
over_one size f (Told Cancelled) = omega arith
over_one size f (Told (Opening name)) = omega arith
over_one size f (Said pdu) = omega arith
over_one size f (Unsent pdu) = omega arith
over_one size f (Met fate checked) = let same = front_done size fate checked f.air f.over in omega arith
over_one size f (Done outcome) = omega arith

heard_up : (links : PerLink) (talk : Talk) → length (heard_after links talk).done ≡ length links.done + is_up talk
heard_up links (Told (Linked Up)) = omega (arith, length-append links.done (links.now ∷ []))
heard_up links (Told (Linked (Down reason))) = omega arith
heard_up links (Told (Failed status)) = omega arith
heard_up links (Told (Heard pdu)) = omega arith
heard_up links (Told TimerFired) = omega arith
heard_up links (Told Cancelled) = omega arith
heard_up links (Told (Opening name)) = omega arith
heard_up links (Said pdu) = omega arith
heard_up links (Unsent pdu) = omega arith
heard_up links (Met fate checked) = omega arith
heard_up links (Done outcome) = omega arith

over_told : (size : ℕ) (f : Flown) (talks : List Talk) → length (flown_from size f talks).over.done ≡ length f.over.done + links_told talks
over_told size f [] = omega arith
over_told size f (talk ∷ talks) = over_told size (flies size f talk) talks ∙ (let one = over_one size f talk in omega arith)

heard_told : (links : PerLink) (talks : List Talk) → length (heard_from links talks).done ≡ length links.done + links_told talks
heard_told links [] = omega arith
heard_told links (talk ∷ talks) = heard_told (heard_after links talk) talks ∙ (let one = heard_up links talk in omega arith)

pub same_links : {S T G H : Type 0} (U : Upper S G) (V : Upper T H) → SameLinks U V
same_links U V size names steps p passes =
    let heard = hears_what_was_said U V size names steps p passes in
    let a = over_told size no_air p.a.talk in
    let b = heard_told none_yet p.b.talk in
    let same = ap (λ (links : PerLink). length links.done) heard.0 in
    omega arith
