-- A party of turns goes on by acts.
use Rattle.std.proofs.Common.{◌≡◌, ℕ, zero, suc, Bool, true, false, List, [], ◌∷◌, ◌++◌, map, take, drop, Option, Some, None, refl, sym, ap, ap₂, subst, ◌∙◌, take-append-drop, if◌then◌else◌, append_assoc, unwrap_or, is_none, ◌&&◌, ◌≤◌, arith, fold}
use Rattle.std.specs.List.{AllByRecursion, flat_map}
use Rattle.std.proofs.lemmas.List.Concat.{flat_map-append}
use Rattle.std.proofs.lemmas.List.{map-append}
use Rattle.std.proofs.lemmas.List.Sums.{fold-append}
use Rattle.shelf_model.specs.push_terms.specs.declared.word.Side.TheVariants.{A, B}
use Rattle.shelf_model.specs.push_terms.specs.declared.word.Way.TheVariants.{Ab, Ba}
use Rattle.shelf_model.specs.radio_model.specs.declared.deed.Deed as air
use Rattle.shelf_model.specs.radio_model.specs.declared.deed.Deed.TheVariants.{Nothing, Meets, Fires, FiresBoth, Breaks, Cancels}
use Rattle.shelf_model.specs.radio_model.specs.declared.fate.Fate.{Fate}
use Rattle.shelf_model.specs.radio_model.specs.Fates.{meets, comes_of}
use Rattle.shelf_model.specs.world_model.specs.Machines.{Up, Down, News, Linked, Failed, Heard, TimerFired, Cancelled, Opening, Upper, said_next, drain, all_said, Breath, Whole, Short, Reaction}
use Rattle.shelf_model.specs.world_model.specs.Talks.{Talk, Told, Said, Unsent, Met, Done}
use Rattle.shelf_model.specs.world_model.specs.Turns.{Party, Pair, speaks_on, notes, hears, receives, event_heard, with_queue, with_talk, first_party, Step, Turn, Idle, Rise, Fall, Began, Ended, Hands, Acts, found, Moves, Passes, first_pair}
use Rattle.shelf_model.specs.turn_laws.proofs.Advancing.{breaks_linked}
use Rattle.host_laws.specs.Acts.{Act, Hears, Says, Does, Acting, StaysOnLink}
use Rattle.host_laws.specs.OverLinks.{is_up_behind, IsTimely, AreInTurn, OverLinks, AllLinksAreActs}
use Rattle.host_laws.specs.Turning.{Deed, Spoke, deed_of, deeds_in, Behaves, IsHeardInQuiet, AreInQuiet, OnLink, TurnsAreActs, LinksAreActs}

pub acting_then : {S G : Type 0} (U : Upper S G) (xs ys : List (Act G)) (old mid new : S) → Acting U xs old mid → Acting U ys mid new → Acting U (xs ++ ys) old new
acting_then {S} U [] ys old mid new same more = subst (λ (s : S). Acting U ys s new) same more
acting_then U (x ∷ xs) ys old mid new (now, does, rest) more = (now, does, acting_then U xs ys now mid new rest more)

-- ---- it says so many PDUs

abbrev pub Drains : {S G : Type 0} → Upper S G → S → List (List ℕ) → S → Type 0
Drains U old said new = Acting U (map Says said) old new

drains : {S G : Type 0} (U : Upper S G) (count : ℕ) (s : S) → Drains U s (drain U count s).said (drain U count s).after
drains U zero s = refl
drains {S} U (suc count) s = by (U.next s) refl (λ t. drains U count t)
  where
    by : (one : Option (List ℕ × S)) → U.next s ≡ one → ((t : S) → Drains U t (drain U count t).said (drain U count t).after) → Drains U s (said_next s one (λ t. drain U count t)).said (said_next s one (λ t. drain U count t)).after
    by None is later = refl
    by (Some one) is later = (one.1, is, later one.1)

-- ---- what it did is what it was told and said

said_deeds : (G : Type 0) (said : List (List ℕ)) → map (deed_of {G = G}) (map Says said) ≡ flat_map deeds_in (map Said said)
said_deeds G [] = refl
said_deeds G (pdu ∷ said) = ap (λ (rest : List Deed). Spoke pdu ∷ rest) (said_deeds G said)

unsent_deeds : (G : Type 0) (said : List (List ℕ)) → map (deed_of {G = G}) (map Says said) ≡ flat_map deeds_in (map Unsent said)
unsent_deeds G [] = refl
unsent_deeds G (pdu ∷ said) = ap (λ (rest : List Deed). Spoke pdu ∷ rest) (unsent_deeds G said)

split_deeds : (G : Type 0) (moved : ℕ) (said : List (List ℕ)) → map (deed_of {G = G}) (map Says said) ≡ flat_map deeds_in (map Said (take moved said) ++ map Unsent (drop moved said))
split_deeds G moved said =
    ap (λ (pdus : List (List ℕ)). map (deed_of {G = G}) (map Says pdus)) (sym (take-append-drop moved said))
    ∙ (ap (map deed_of) (map-append Says (take moved said) (drop moved said))
    ∙ (map-append deed_of (map Says (take moved said)) (map Says (drop moved said))
    ∙ (ap₂ (λ (x y : List Deed). x ++ y) (said_deeds G (take moved said)) (unsent_deeds G (drop moved said))
    ∙ sym (flat_map-append deeds_in (map Said (take moved said)) (map Unsent (drop moved said))))))

-- ---- while a link is up

pub stay_both : {G : Type 0} (xs ys : List (Act G)) → AllByRecursion StaysOnLink xs → AllByRecursion StaysOnLink ys → AllByRecursion StaysOnLink (xs ++ ys)
stay_both [] ys one two = two
stay_both (x ∷ xs) ys one two = (one.0, stay_both xs ys one.1 two)

-- an act leads to one state
pub does_one : {S G : Type 0} (U : Upper S G) (act : Act G) (old one two : S) → Does U act old one → Does U act old two → one ≡ two
does_one U (Hears gifts news) old one two this that = this ∙ sym that
does_one {S} U (Says pdu) old one two this that = ap (λ (o : Option (List ℕ × S)). (unwrap_or o (pdu, one)).1) (sym this ∙ that)

pub acting_one : {S G : Type 0} (U : Upper S G) (acts : List (Act G)) (old one two : S) → Acting U acts old one → Acting U acts old two → one ≡ two
acting_one U [] old one two this that = this ∙ sym that
acting_one {S} U (act ∷ acts) old one two (mid, does, rest) (other, also, more) =
    let same : other ≡ mid = does_one U act old other mid also does in
    acting_one U acts mid one two rest (subst (λ (s : S). Acting U acts s two) same more)

quiet_both : {S G : Type 0} (U : Upper S G) (xs ys : List (Act G)) (old : S) → AreInQuiet U xs old → ((mid : S) → Acting U xs old mid → AreInQuiet U ys mid) → AreInQuiet U (xs ++ ys) old
quiet_both U [] ys old one two = two old refl
quiet_both U (x ∷ xs) ys old one two = (one.0, λ next does. quiet_both U xs ys next (one.1 next does) (λ mid acting. two mid (next, does, acting)))

pub quiet_then : {S G : Type 0} (U : Upper S G) (xs ys : List (Act G)) (old mid : S) → AreInQuiet U xs old → Acting U xs old mid → AreInQuiet U ys mid → AreInQuiet U (xs ++ ys) old
quiet_then {S} U xs ys old mid one acting two = quiet_both U xs ys old one (λ other also. subst (λ (s : S). AreInQuiet U ys s) (acting_one U xs old mid other acting also) two)

quiet_said : {S G : Type 0} (U : Upper S G) (said : List (List ℕ)) (old : S) → AreInQuiet U (map Says said) old
quiet_said U [] old = tt
quiet_said U (pdu ∷ said) old = (tt, λ next does. quiet_said U said next)

stay_said : (G : Type 0) (said : List (List ℕ)) → AllByRecursion (StaysOnLink {G = G}) (map Says said)
stay_said G [] = tt
stay_said G (pdu ∷ said) = (tt, stay_said G said)

more_on : {S G : Type 0} (U : Upper S G) (acts : List (Act G)) (talks past : List Talk) (old new : S) → Acting U acts old new → map deed_of acts ≡ flat_map deeds_in talks → AllByRecursion StaysOnLink acts → AreInQuiet U acts old
    → OnLink U past old → OnLink U (past ++ talks) new
more_on U acts talks past old new acting deeds stays quiet on =
    let start = U.hear on.gifts (Linked Up) on.old in
    record {
      before = on.before;
      gifts = on.gifts;
      old = on.old;
      acting_before = on.acting_before;
      acts = on.acts ++ acts;
      acting = acting_then U on.acts acts start old new on.acting acting;
      stays = stay_both on.acts acts on.stays stays;
      in_quiet = quiet_then U on.acts acts start old on.in_quiet on.acting quiet;
      past = on.past;
      since = on.since ++ talks;
      talk_is = ap (λ (l : List Talk). l ++ talks) on.talk_is ∙ append_assoc on.past (Told (Linked Up) ∷ on.since) talks;
      deeds_are = map-append deed_of on.acts acts ∙ (ap₂ (λ (x y : List Deed). x ++ y) on.deeds_are deeds ∙ sym (flat_map-append deeds_in on.since talks));
    }

-- ---- over all links

abbrev pub up_behind : {G : Type 0} → Bool → List (Act G) → Bool
up_behind up acts = fold is_up_behind up acts

quiet_up_both : {S G : Type 0} (U : Upper S G) (up : Bool) (xs ys : List (Act G)) (old : S) → AreInTurn U up xs old → ((mid : S) → Acting U xs old mid → AreInTurn U (up_behind up xs) ys mid) → AreInTurn U up (xs ++ ys) old
quiet_up_both U up [] ys old one two = two old refl
quiet_up_both U up (x ∷ xs) ys old one two = (one.0, λ next does. quiet_up_both U (is_up_behind up x) xs ys next (one.1 next does) (λ mid acting. two mid (next, does, acting)))

quiet_up_said : {S G : Type 0} (U : Upper S G) (up : Bool) (said : List (List ℕ)) (old : S) → AreInTurn U up (map Says said) old
quiet_up_said U up [] old = tt
quiet_up_said U up (pdu ∷ said) old = (record { timely = tt; in_quiet = λ is. tt }, λ next does. quiet_up_said U up said next)

up_said : (G : Type 0) (up : Bool) (said : List (List ℕ)) → up_behind {G = G} up (map Says said) ≡ up
up_said G up [] = refl
up_said G up (pdu ∷ said) = up_said G up said

-- what it did, and whether a link is up behind it
pub record Went {S G : Type 0} (U : Upper S G) (link : Bool) (talk : List Talk) (now : S) : Type 0 where
  pub over : OverLinks U talk now
  pub up_is : up_behind false over.acts ≡ link

pub goes_on : {S G : Type 0} (U : Upper S G) (link next : Bool) (acts : List (Act G)) (talks past : List Talk) (old new : S) → Acting U acts old new → map deed_of acts ≡ flat_map deeds_in talks → AreInTurn U link acts old → up_behind link acts ≡ next
    → Went U link past old → Went U next (past ++ talks) new
goes_on {S} U link next acts talks past old new acting deeds quiet up went =
    let over = went.over in
    record {
      over = record {
        acts = over.acts ++ acts;
        acting = acting_then U over.acts acts U.first old new over.acting acting;
        deeds_are = map-append deed_of over.acts acts ∙ (ap₂ (λ (x y : List Deed). x ++ y) over.deeds_are deeds ∙ sym (flat_map-append deeds_in past talks));
        in_turn = quiet_up_both U false over.acts acts U.first over.in_turn
            (λ mid also. subst (λ (s : S). AreInTurn U (up_behind false over.acts) acts s) (acting_one U over.acts U.first old mid over.acting also) (subst (λ b. AreInTurn U b acts old) (sym went.up_is) quiet));
      };
      up_is = fold-append is_up_behind false over.acts acts ∙ (ap (λ b. up_behind b acts) went.up_is ∙ up);
    }

pub says_on : {S G : Type 0} (U : Upper S G) (link : Bool) (said : List (List ℕ)) (talks past : List Talk) (old new : S) → Drains U old said new → map (deed_of {G = G}) (map Says said) ≡ flat_map deeds_in talks → Went U link past old → Went U link (past ++ talks) new
says_on {G = G} U link said talks past old new drained deeds went = goes_on U link link (map Says said) talks past old new drained deeds (quiet_up_said U link said old) (up_said G link said) went

-- a party, and that it has said all where it says so
record Linked_so {S G : Type 0} (U : Upper S G) (link : Bool) (p : Party S) : Type 0 where
  went : Went U link p.talk p.upper
  on : link ≡ true → OnLink U p.talk p.upper
  settled : link ≡ true → p.whole ≡ true → U.next p.upper ≡ None
  empty : link ≡ false → p.queue ≡ []

all_quiet : {S G : Type 0} (U : Upper S G) (count : ℕ) (s : S) → U.left s ≤ count → U.next (drain U count s).after ≡ None
all_quiet {S} U zero s few = none_left (U.next s) refl
  where
    none_left : (next : Option (List ℕ × S)) → U.next s ≡ next → U.next s ≡ None
    none_left None is = is
    none_left (Some one) is = absurd (let less = U.falls s one.0 one.1 is in omega arith)
all_quiet {S} U (suc count) s few = by (U.next s) refl (λ t fewer. all_quiet U count t fewer)
  where
    by : (one : Option (List ℕ × S)) → U.next s ≡ one → ((t : S) → U.left t ≤ count → U.next (drain U count t).after ≡ None) → U.next (said_next s one (λ t. drain U count t)).after ≡ None
    by None is later = is
    by (Some one) is later = let less = U.falls s one.0 one.1 is in later one.1 (omega arith)

and_first : (a b : Bool) → (a && b) ≡ true → a ≡ true
and_first true b is = refl
and_first false b is = cc

none_is : {X : Type 0} (found : Option X) → is_none found ≡ true → found ≡ None
none_is None is = refl
none_is (Some x) is = cc

speaks_linked : {S G : Type 0} (U : Upper S G) (link : Bool) (breath : Breath) (p : Party S) → Went U link p.talk p.upper → (link ≡ true → OnLink U p.talk p.upper) → (link ≡ false → p.queue ≡ []) → Linked_so U link (speaks_on U link breath [] p)
speaks_linked U false breath p went on empty = record { went = went; on = on; settled = λ up. cc; empty = empty }
speaks_linked {G = G} U true Whole p went on empty =
    let spoken = all_said U p.upper in
    record {
      went = says_on U true spoken.said (map Said spoken.said) p.talk p.upper spoken.after (drains U (U.left p.upper) p.upper) (said_deeds G spoken.said) went;
      on = λ up. more_on U (map Says spoken.said) (map Said spoken.said) p.talk p.upper spoken.after (drains U (U.left p.upper) p.upper) (said_deeds G spoken.said) (stay_said G spoken.said) (quiet_said U spoken.said p.upper) (on up);
      settled = λ up whole. all_quiet U (U.left p.upper) p.upper (omega arith);
      empty = λ off. cc;
    }
speaks_linked {G = G} U true (Short moved asked) p went on empty =
    let spoken = drain U asked p.upper in
    record {
      went = says_on U true spoken.said (map Said (take moved spoken.said) ++ map Unsent (drop moved spoken.said)) p.talk p.upper spoken.after (drains U asked p.upper) (split_deeds G moved spoken.said) went;
      on = λ up. more_on U (map Says spoken.said) (map Said (take moved spoken.said) ++ map Unsent (drop moved spoken.said)) p.talk p.upper spoken.after (drains U asked p.upper) (split_deeds G moved spoken.said) (stay_said G spoken.said)
          (quiet_said U spoken.said p.upper) (on up);
      settled = λ up whole. none_is (U.next spoken.after) (and_first (is_none (U.next spoken.after)) _ whole);
      empty = λ off. cc;
    }

abbrev IsAside : News → Type 0
IsAside (Linked event) = ⊥
IsAside news = Unit {0}

-- it hears something on its link
hears_linked : {S G : Type 0} (U : Upper S G) (link : Bool) (reaction : Reaction G) (news : News) (p : Party S) → IsAside news → (let one : Act G = Hears reaction.answers news in IsTimely link one) → (link ≡ true → IsHeardInQuiet U news p.upper) → Linked_so U link p → Linked_so U link (hears U link reaction news p)
hears_linked {G = G} U link reaction news p stays timely quiet so =
    let one : Act G = Hears reaction.answers news in
    speaks_linked U link reaction.breath (notes U reaction.answers news p) (goes_on U link link (one ∷ []) (Told news ∷ []) p.talk p.upper (U.hear reaction.answers news p.upper) (_, refl, refl) refl (record { timely = timely; in_quiet = quiet }, λ next does. tt) (up_as news stays) so.went)
    (λ up. more_on U (one ∷ []) (Told news ∷ []) p.talk p.upper (U.hear reaction.answers news p.upper) (_, refl, refl) refl (stays_as news stays, tt) (quiet up, λ next does. tt) (so.on up)) so.empty
  where
    stays_as : (n : News) → IsAside n → (let one : Act G = Hears reaction.answers n in StaysOnLink one)
    stays_as (Linked event) never = absurd never
    stays_as (Failed status) is = tt
    stays_as (Heard pdu) is = tt
    stays_as TimerFired is = tt
    stays_as Cancelled is = tt
    stays_as (Opening name) is = tt

    up_as : (n : News) → IsAside n → (let one : Act G = Hears reaction.answers n in is_up_behind link one ≡ link)
    up_as (Linked event) never = absurd never
    up_as (Failed status) is = refl
    up_as (Heard pdu) is = refl
    up_as TimerFired is = refl
    up_as Cancelled is = refl
    up_as (Opening name) is = refl

-- with other talk, and another queue, it has done the same
talks_linked : {S G : Type 0} (U : Upper S G) (link : Bool) (talk : Talk) (p : Party S) → deeds_in talk ≡ [] → Linked_so U link p → Linked_so U link (with_talk talk p)
talks_linked U link talk p none so = record {
  went = goes_on U link link [] (talk ∷ []) p.talk p.upper p.upper refl (sym (ap (λ (l : List Deed). l ++ []) none)) tt refl so.went;
  on = λ up. more_on U [] (talk ∷ []) p.talk p.upper p.upper refl (sym (ap (λ (l : List Deed). l ++ []) none)) tt tt (so.on up);
  settled = so.settled;
  empty = so.empty;
}

queue_linked : {S G : Type 0} (U : Upper S G) (link : Bool) (queue : List (List ℕ)) (p : Party S) → link ≡ true → Linked_so U link p → Linked_so U link (with_queue queue p)
queue_linked U link queue p up so = record { went = so.went; on = so.on; settled = so.settled; empty = λ off. let never : true ≡ false = sym up ∙ off in cc }

receives_linked : {S G : Type 0} (U : Upper S G) (link : Bool) (reaction : Reaction G) (pdus : List (List ℕ)) (p : Party S) → p.whole ≡ true → link ≡ true → Linked_so U link p → Linked_so U link (receives U link reaction pdus p)
receives_linked U link reaction [] p whole up so = so
receives_linked U link reaction (pdu ∷ pdus) p whole up so = hears_linked U link reaction (Heard pdu) p tt up (λ on. so.settled on whole) so

fires_linked : {S G : Type 0} (U : Upper S G) (link armed : Bool) (reaction : Reaction G) (p : Party S) → p.whole ≡ true → Linked_so U link p → Linked_so U link (if armed then hears U link reaction TimerFired p else p)
fires_linked U link true reaction p whole so = hears_linked U link reaction TimerFired p tt tt (λ up. so.settled up whole) so
fires_linked U link false reaction p whole so = so

-- the link comes up, or goes down
up_linked : {S G : Type 0} (U : Upper S G) (link : Bool) (reaction : Reaction G) (p : Party S) → link ≡ false → Linked_so U link p → Linked_so U true (event_heard U Up reaction p)
up_linked {G = G} U link reaction p off so =
    let news : Act G = Hears reaction.answers (Linked Up) in
    speaks_linked U true reaction.breath (notes U reaction.answers (Linked Up) p)
    (goes_on U link true (news ∷ []) (Told (Linked Up) ∷ []) p.talk p.upper (U.hear reaction.answers (Linked Up) p.upper) (_, refl, refl) refl (record { timely = off; in_quiet = λ is. tt }, λ next does. tt) refl so.went)
    (λ up. record {
      before = so.went.over.acts;
      gifts = reaction.answers;
      old = p.upper;
      acting_before = so.went.over.acting;
      acts = [];
      acting = refl;
      stays = tt;
      in_quiet = tt;
      past = p.talk;
      since = [];
      talk_is = refl;
      deeds_are = refl;
    }) (λ down. cc)

down_linked : {S G : Type 0} (U : Upper S G) (link : Bool) (reason : ℕ) (reaction : Reaction G) (p : Party S) → link ≡ true → Linked_so U link p → Linked_so U false (event_heard U (Down reason) reaction p)
down_linked {G = G} U link reason reaction p up so =
    let news : Act G = Hears reaction.answers (Linked (Down reason)) in
    record {
      went = goes_on U link false (news ∷ []) (Told (Linked (Down reason)) ∷ []) p.talk p.upper (U.hear reaction.answers (Linked (Down reason)) p.upper) (_, refl, refl) refl (record { timely = up; in_quiet = λ is. tt }, λ next does. tt) refl so.went;
      on = λ up. cc;
      settled = λ up. cc;
      empty = λ off. refl;
    }

-- ---- both parties

record Both_linked {S T G H : Type 0} (U : Upper S G) (V : Upper T H) (pair : Pair S T) : Type 0 where
  a : Linked_so U pair.link pair.a
  b : Linked_so V pair.link pair.b

meets_linked : {S T G H : Type 0} (U : Upper S G) (V : Upper T H) (size : ℕ) (link : Bool) (fate : Fate) (p : Party S) (q : Party T) (p' : Party S) (q' : Party T) → Hands V size link fate p q p' q' → q.whole ≡ true → Linked_so U link p → Linked_so V link q
    → Linked_so U link p' × Linked_so V link q'
meets_linked {S} {T} U V size link fate p q p' q' hands whole one other = (
  subst (λ (x : Party S). Linked_so U link x) (sym hands.one_is)
      (talks_linked U link (Met fate hands.checked) (with_queue ((meets size fate hands.checked hands.frame).stays ++ hands.rest) p) refl (queue_linked U link ((meets size fate hands.checked hands.frame).stays ++ hands.rest) p up one)),
  subst (λ (x : Party T). Linked_so V link x) (sym hands.other_is) (receives_linked V link hands.reaction (comes_of size fate hands.checked hands.frame) q whole up other),
)
  where
    by : (b : Bool) → link ≡ b → link ≡ true
    by true is = is
    by false is = let never : hands.frame ∷ hands.rest ≡ [] = sym hands.is ∙ one.empty is in absurd cc

    up : link ≡ true
    up = by link refl

acts_linked : {S T G H : Type 0} (U : Upper S G) (V : Upper T H) (deed : air.Deed) (old new : Pair S T) → old.a.whole ≡ true → old.b.whole ≡ true → (deed ≡ Breaks → old.link ≡ true) → Acts U V deed old new → Both_linked U V old → Both_linked U V new
acts_linked U V Nothing old new whole_a whole_b breaks acts both = absurd acts
acts_linked U V (Meets Ab fate) old new whole_a whole_b breaks (p, q, hands, same) both = let (one, other) = meets_linked U V old.size old.link fate old.a old.b p q hands whole_b both.a both.b in rw same (record { a = one; b = other })
acts_linked U V (Meets Ba fate) old new whole_a whole_b breaks (p, q, hands, same) both = let (one, other) = meets_linked V U old.size old.link fate old.b old.a q p hands whole_a both.b both.a in rw same (record { a = other; b = one })
acts_linked U V (Fires A) old new whole_a whole_b breaks (armed, r, same) both = rw same (record { a = hears_linked U old.link r TimerFired old.a tt tt (λ up. both.a.settled up whole_a) both.a; b = both.b })
acts_linked U V (Fires B) old new whole_a whole_b breaks (armed, s, same) both = rw same (record { a = both.a; b = hears_linked V old.link s TimerFired old.b tt tt (λ up. both.b.settled up whole_b) both.b })
acts_linked U V FiresBoth old new whole_a whole_b breaks (armed, r, s, same) both =
    rw same (record { a = fires_linked U old.link (U.armed old.a.upper) r old.a whole_a both.a; b = fires_linked V old.link (V.armed old.b.upper) s old.b whole_b both.b })
acts_linked U V Breaks old new whole_a whole_b breaks (r, s, same) both = rw same (record { a = down_linked U old.link 0x08 r old.a (breaks refl) both.a; b = down_linked V old.link 0x08 s old.b (breaks refl) both.b })
acts_linked U V Cancels old new whole_a whole_b breaks (may, r, same) both = rw same (record { a = hears_linked U old.link r Cancelled old.a tt tt (λ up. tt) both.a; b = both.b })

moves_linked : {S T G H : Type 0} (U : Upper S G) (V : Upper T H) (step : Step) (old new : Pair S T) → Moves U V step old new → Both_linked U V old → Both_linked U V new
moves_linked U V (Turn word) old new (calm, acts) both = acts_linked U V (found word old) old new calm.whole_a calm.whole_b (λ is. breaks_linked word old.served old.a.queue old.b.queue old.link is) acts both
moves_linked U V (Idle word) old new (calm, nothing, same) both = rw same both
moves_linked U V Rise old new (off, going, wants, r, s, same) both = rw same (record { a = up_linked U old.link r old.a off both.a; b = up_linked V old.link s old.b off both.b })
moves_linked U V (Fall A) old new (on, leaves, whole, r, s, same) both = rw same (record { a = down_linked U old.link 0x16 r old.a on both.a; b = down_linked V old.link 0x13 s old.b on both.b })
moves_linked U V (Fall B) old new (on, leaves, whole, r, s, same) both = rw same (record { a = down_linked U old.link 0x13 r old.a on both.a; b = down_linked V old.link 0x16 s old.b on both.b })
moves_linked {G = G} U V (Began name) old new (off, idle, next, r, same) both =
    let news : Act G = Hears r.answers (Opening name) in
    let went = goes_on U old.link old.link (news ∷ []) (Told (Opening name) ∷ []) old.a.talk old.a.upper (U.hear r.answers (Opening name) old.a.upper) (_, refl, refl) refl (record { timely = tt; in_quiet = λ is. tt }, λ next does. tt) refl both.a.went in
    rw same (record { a = record { went = went; on = λ up. let never : true ≡ false = sym up ∙ off in cc; settled = λ up. let never : true ≡ false = sym up ∙ off in cc; empty = both.a.empty }; b = both.b })
moves_linked U V (Ended outcome) old new (off, going, idle, is, same) both = rw same (record { a = talks_linked U old.link (Done outcome) old.a refl both.a; b = both.b })

passes_linked : {S T G H : Type 0} (U : Upper S G) (V : Upper T H) (steps : List Step) (old new : Pair S T) → Passes U V steps old new → Both_linked U V old → Both_linked U V new
passes_linked U V [] old new same both = rw same both
passes_linked U V (step ∷ steps) old new (mid, moves, passes) both = passes_linked U V steps mid new passes (moves_linked U V step old mid moves both)

first_linked : {S G : Type 0} (U : Upper S G) → Linked_so U false (first_party U)
first_linked U = record { went = record { over = record { acts = []; acting = refl; deeds_are = refl; in_turn = tt }; up_is = refl }; on = λ on. cc; settled = λ on. cc; empty = λ off. refl }

both_from : {S T G H : Type 0} (U : Upper S G) (V : Upper T H) (size : ℕ) (names : List (List ℕ)) (steps : List Step) (pair : Pair S T) → Passes U V steps (first_pair U V size names) pair → Both_linked U V pair
both_from U V size names steps pair passes = passes_linked U V steps (first_pair U V size names) pair passes (record { a = first_linked U; b = first_linked V })

-- ---- the laws

pub all_links_are_acts : {S T G H : Type 0} (U : Upper S G) (V : Upper T H) → AllLinksAreActs U V
all_links_are_acts U V size names steps pair passes = let both = both_from U V size names steps pair passes in record { a = both.a.went.over; b = both.b.went.over }

behaves_over : {S G : Type 0} (U : Upper S G) (talk : List Talk) (now : S) → OverLinks U talk now → Behaves U talk now
behaves_over U talk now over = record { acts = over.acts; acting = over.acting; deeds_are = over.deeds_are }

pub turns_are_acts : {S T G H : Type 0} (U : Upper S G) (V : Upper T H) → TurnsAreActs U V
turns_are_acts U V size names steps pair passes =
    let both = both_from U V size names steps pair passes in
    record { a = behaves_over U pair.a.talk pair.a.upper both.a.went.over; b = behaves_over V pair.b.talk pair.b.upper both.b.went.over }

pub links_are_acts : {S T G H : Type 0} (U : Upper S G) (V : Upper T H) → LinksAreActs U V
links_are_acts U V size names steps pair passes up = let both = both_from U V size names steps pair passes in record { a = both.a.on up; b = both.b.on up }
