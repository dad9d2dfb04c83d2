-- What holds at each moment of a run of the world, and how a fact is carried along one.
use Rattle.std.proofs.Common.{◌≡◌, ℕ, Bool, false, List, [], ◌∷◌, ◌++◌, None, refl, sym, ap, ◌∙◌, subst, arith}
use Rattle.std.proofs.lemmas.List.{append-nil, append_assoc}
use Rattle.std.proofs.lemmas.List.Concat.{flat_map-append}
use Rattle.turn_laws.specs.push_terms.specs.declared.word.Side.{Side}
use Rattle.turn_laws.specs.push_terms.specs.declared.word.Side.TheVariants.{A, B}
use Rattle.turn_laws.specs.push_terms.specs.declared.word.Way.TheVariants.{Ab, Ba}
use Rattle.turn_laws.specs.push_terms.specs.declared.word.Word.{Word}
use Rattle.turn_laws.specs.capture.specs.declared.flow.Flow.TheVariants.{Into}
use Rattle.turn_laws.specs.capture.specs.Entries.{Entry}
use Rattle.turn_laws.specs.radio_model.specs.declared.fate.Fate.{Fate}
use Rattle.turn_laws.specs.radio_model.specs.declared.deed.Deed.{Deed}
use Rattle.turn_laws.specs.radio_model.specs.declared.deed.Deed.TheVariants.{Nothing, Meets, Fires, FiresBoth, Breaks, Cancels}
use Rattle.turn_laws.specs.radio_model.specs.Controllers.{Answer, Returned, Stated, Called, LinkMade, LinkGone, GivenBack, Controller}
use Rattle.turn_laws.specs.radio_model.specs.Radio.{Radio, is_together, controller, found, after_meeting}
use Rattle.turn_laws.specs.world_model.specs.Machines.{Upper}
use Rattle.turn_laws.specs.world_model.specs.Talks.{Talk}
use Rattle.turn_laws.specs.world_model.specs.PerLink.{Linkage, no_linkage}
use Rattle.turn_laws.specs.world_model.specs.Stations.{Order, Data, longest_pdu, gives}
use Rattle.turn_laws.specs.world_model.specs.Worlds.{World, Happening, Tries, Departure, GivingBack, Piecemeal, Answering, Turns, Misses, Opens, Closes, entries_of, all_entries, words_in, all_words, checks, Acts, Does, Runs, first_world, after_order}
use Rattle.turn_laws.specs.Premises.{SaysFrames, Idles}
use Rattle.turn_laws.specs.WorldLaws.{Fits}
use Rattle.turn_laws.proofs.Finishing.{nothing_more}
use Rattle.turn_laws.proofs.Advancing.{Both}
use Rattle.turn_laws.proofs.Running.{follows, first_both}
use Rattle.turn_laws.proofs.Leading.{Came, tidings, Led}
use Rattle.turn_laws.proofs.Coming.{handed_piece, handed_answer, owed_first}
use Rattle.turn_laws.proofs.Keeping.{Kept}
use Rattle.turn_laws.proofs.Ordering.{at}
use Rattle.turn_laws.proofs.Playing.{by_a, by_b, happens, first_kept}
use Rattle.turn_laws.proofs.Recording.{order_stays}
use Rattle.turn_laws.proofs.Recounting.{Shows, shows_more}
use Rattle.air_laws.proofs.Knowing.{links_in, moved_count, order_count, IsNextLink, answer_count, Known, known_of, up_none}
use Rattle.air_laws.proofs.Sending.{data_told}

-- ---- a moment of a run

pub record Reached {S T G H : Type 0} (U : Upper S G) (V : Upper T H) (happenings : List Happening) (first : World S T) (ahead : List Happening) (past : List Entry) (words : List Word) (w : World S T) : Type 0 where
  pub done : List Happening
  pub front : happenings ≡ done ++ ahead
  pub runs : Runs U V done first w
  pub past_is : all_entries done ≡ past
  pub words_are : all_words done ≡ words
  pub talk_a : List Talk
  pub talk_b : List Talk
  pub both : Both U V (at w talk_a talk_b)
  pub kept : Kept U V w.radio w.a w.b w.pushes.going
  pub links_a : Linkage
  pub links_b : Linkage
  pub shows : Shows past w links_a links_b
  pub count_a : links_in links_a ≡ w.radio.a.told
  pub count_b : links_in links_b ≡ w.radio.b.told

pub known_a : {S T G H : Type 0} (U : Upper S G) (V : Upper T H) (happenings : List Happening) (first : World S T) (ahead : List Happening) (past : List Entry) (words : List Word) (w : World S T) → Reached U V happenings first ahead past words w → Known A past w.radio.a
known_a U V happenings first ahead past words w reached = known_of A past w.radio.a w.a reached.links_a reached.shows.a reached.count_a

pub known_b : {S T G H : Type 0} (U : Upper S G) (V : Upper T H) (happenings : List Happening) (first : World S T) (ahead : List Happening) (past : List Entry) (words : List Word) (w : World S T) → Reached U V happenings first ahead past words w → Known B past w.radio.b
known_b U V happenings first ahead past words w reached = known_of B past w.radio.b w.b reached.links_b reached.shows.b reached.count_b

-- ---- what a host is told of a link

pub next_link : (answer : Answer) (rest : List Answer) (one : Controller) (number : ℕ) (together : Bool) → one.owed ≡ answer ∷ rest → Led one.told one.up (tidings one.owed) number together → IsNextLink answer one
next_link (LinkMade handle) rest one number together first led =
    let owed = owed_first one.owed rest (LinkMade handle) (Came handle) first refl in
    let now : Led one.told one.up (Came handle ∷ tidings rest) number together = subst (λ (l : List _). Led one.told one.up l number together) owed led in
    (now.0, now.1)
next_link (LinkGone handle reason) rest one number together first led = tt
next_link (Returned opcode params) rest one number together first led = tt
next_link (Stated opcode) rest one number together first led = tt
next_link Called rest one number together first led = tt
next_link (GivenBack handle n) rest one number together first led = tt

-- orders tell nobody
pub order_told : (side by : Side) (order : Order) (radio : Radio) → (controller side (after_order by order radio)).told ≡ (controller side radio).told
order_told A A (Data handle piece) radio = data_told _ handle piece radio.a
order_told B A (Data handle piece) radio = refl
order_told A B (Data handle piece) radio = refl
order_told B B (Data handle piece) radio = data_told _ handle piece radio.b
order_told A by order radio = (order_stays by order radio tt).a.told_is
order_told B by order radio = (order_stays by order radio tt).b.told_is

-- words tell nobody
met_told : (side : Side) (checked : Bool) (queue : List (List ℕ)) (fate : Fate) (radio : Radio) → (controller side (after_meeting Ab fate checked queue radio)).told ≡ (controller side radio).told
met_told A checked [] fate radio = refl
met_told B checked [] fate radio = refl
met_told A checked (frame ∷ rest) fate radio = refl
met_told B checked (frame ∷ rest) fate radio = refl

met_told_back : (side : Side) (checked : Bool) (queue : List (List ℕ)) (fate : Fate) (radio : Radio) → (controller side (after_meeting Ba fate checked queue radio)).told ≡ (controller side radio).told
met_told_back A checked [] fate radio = refl
met_told_back B checked [] fate radio = refl
met_told_back A checked (frame ∷ rest) fate radio = refl
met_told_back B checked (frame ∷ rest) fate radio = refl

acts_told : {S T G H : Type 0} (U : Upper S G) (V : Upper T H) (deed : Deed) (side : Side) (old new : World S T) → Acts U V deed old new → (controller side new.radio).told ≡ (controller side old.radio).told
acts_told U V Nothing side old new acts = absurd acts
acts_told U V (Meets Ab fate) side old new acts = rw acts (met_told side (checks V old.b old.radio.a.waiting) old.radio.a.waiting fate old.radio)
acts_told U V (Meets Ba fate) side old new acts = rw acts (met_told_back side (checks U old.a old.radio.b.waiting) old.radio.b.waiting fate old.radio)
acts_told U V (Fires A) side old new (armed, g, same) = rw same refl
acts_told U V (Fires B) side old new (armed, h, same) = rw same refl
acts_told U V FiresBoth side old new (armed, g, h, same) = rw same refl
acts_told U V Breaks A old new acts = rw acts refl
acts_told U V Breaks B old new acts = rw acts refl
acts_told U V Cancels side old new (may, g, same) = rw same refl

-- ---- the next moment

pub runs_then : {S T G H : Type 0} (U : Upper S G) (V : Upper T H) (done : List Happening) (happening : Happening) (first old new : World S T) → Runs U V done first old → Does U V happening old new → Runs U V (done ++ happening ∷ []) first new
runs_then {S} {T} U V [] happening first old new same does = (new, subst (λ (w : World S T). Does U V happening w new) same does, refl)
runs_then U V (one ∷ done) happening first old new (mid, now, runs) does = (mid, now, runs_then U V done happening mid old new runs does)

entries_then : (done : List Happening) (happening : Happening) (past : List Entry) → all_entries done ≡ past → all_entries (done ++ happening ∷ []) ≡ past ++ entries_of happening
entries_then done happening past is = flat_map-append entries_of done (happening ∷ []) ∙ ap (λ (l : List Entry). all_entries done ++ l) (append-nil (entries_of happening)) ∙ ap (λ (l : List Entry). l ++ entries_of happening) is

words_then : (done : List Happening) (happening : Happening) (words : List Word) → all_words done ≡ words → all_words (done ++ happening ∷ []) ≡ words ++ words_in happening
words_then done happening words is = flat_map-append words_in done (happening ∷ []) ∙ ap (λ (l : List Word). all_words done ++ l) (append-nil (words_in happening)) ∙ ap (λ (l : List Word). l ++ words_in happening) is

count_next_a : {S T G H : Type 0} (U : Upper S G) (V : Upper T H) (happening : Happening) (past : List Entry) (old new : World S T) (l : Linkage) → Does U V happening old new → Kept U V old.radio old.a old.b old.pushes.going → (old.radio.a.up ≡ false → l.up ≡ None) → links_in l ≡ old.radio.a.told
    → links_in (by_a happening old l) ≡ new.radio.a.told
count_next_a U V (Tries A effort) past old new l (station, does, same) kept off count = rw same count
count_next_a U V (Tries B effort) past old new l (station, does, same) kept off count = rw same count
count_next_a U V (Departure A order) past old new l (rest, first, same) kept off count = rw same (order_count order old.radio.a l ∙ count ∙ sym (order_told A A order old.radio))
count_next_a U V (Departure B order) past old new l (rest, first, same) kept off count = rw same (count ∙ sym (order_told A B order old.radio))
count_next_a U V (GivingBack A) past old new l same kept off count = rw same count
count_next_a U V (GivingBack B) past old new l same kept off count = rw same count
count_next_a U V (Piecemeal A handle piece) past old new l (rest, first, here, g, same) kept off count = rw (same, handed_piece old.radio.a piece rest first) (moved_count Into (gives longest_pdu old.a.joining piece) l ∙ count)
count_next_a U V (Piecemeal B handle piece) past old new l (rest, first, here, h, same) kept off count = rw same count
count_next_a U V (Answering A answer) past old new l (rest, none, first, g, same) kept off count =
    rw (same, handed_answer old.radio.a answer rest none first) (answer_count answer old.radio.a _ l refl off (next_link answer rest old.radio.a old.radio.number (is_together old.radio.phase) first kept.one.led) count)
count_next_a U V (Answering B answer) past old new l (rest, none, first, h, same) kept off count = rw same count
count_next_a U V (Turns ordinal word) past old new l (rest, is_word, ordinal_is, mid, acts, same) kept off count = rw same (count ∙ sym (acts_told U V (found word old.radio) A old mid acts))
count_next_a U V (Misses word) past old new l (rest, nothing, same) kept off count = rw same count
count_next_a U V (Opens push name) past old new l (idle, next, push_is, g, same) kept off count = rw same count
count_next_a U V (Closes push outcome) past old new l (going, push_is, idle, is, apart, none_a, none_b, quiet_a, quiet_b, same) kept off count = rw same count

count_next_b : {S T G H : Type 0} (U : Upper S G) (V : Upper T H) (happening : Happening) (past : List Entry) (old new : World S T) (l : Linkage) → Does U V happening old new → Kept U V old.radio old.a old.b old.pushes.going → (old.radio.b.up ≡ false → l.up ≡ None) → links_in l ≡ old.radio.b.told
    → links_in (by_b happening old l) ≡ new.radio.b.told
count_next_b U V (Tries A effort) past old new l (station, does, same) kept off count = rw same count
count_next_b U V (Tries B effort) past old new l (station, does, same) kept off count = rw same count
count_next_b U V (Departure A order) past old new l (rest, first, same) kept off count = rw same (count ∙ sym (order_told B A order old.radio))
count_next_b U V (Departure B order) past old new l (rest, first, same) kept off count = rw same (order_count order old.radio.b l ∙ count ∙ sym (order_told B B order old.radio))
count_next_b U V (GivingBack A) past old new l same kept off count = rw same count
count_next_b U V (GivingBack B) past old new l same kept off count = rw same count
count_next_b U V (Piecemeal A handle piece) past old new l (rest, first, here, g, same) kept off count = rw same count
count_next_b U V (Piecemeal B handle piece) past old new l (rest, first, here, h, same) kept off count = rw (same, handed_piece old.radio.b piece rest first) (moved_count Into (gives longest_pdu old.b.joining piece) l ∙ count)
count_next_b U V (Answering A answer) past old new l (rest, none, first, g, same) kept off count = rw same count
count_next_b U V (Answering B answer) past old new l (rest, none, first, h, same) kept off count =
    rw (same, handed_answer old.radio.b answer rest none first) (answer_count answer old.radio.b _ l refl off (next_link answer rest old.radio.b old.radio.number (is_together old.radio.phase) first kept.other.led) count)
count_next_b U V (Turns ordinal word) past old new l (rest, is_word, ordinal_is, mid, acts, same) kept off count = rw same (count ∙ sym (acts_told U V (found word old.radio) B old mid acts))
count_next_b U V (Misses word) past old new l (rest, nothing, same) kept off count = rw same count
count_next_b U V (Opens push name) past old new l (idle, next, push_is, g, same) kept off count = rw same count
count_next_b U V (Closes push outcome) past old new l (going, push_is, idle, is, apart, none_a, none_b, quiet_a, quiet_b, same) kept off count = rw same count

pub reached_next :
    {S T G H : Type 0} (U : Upper S G) (V : Upper T H) (happenings : List Happening) (first : World S T) (happening : Happening) (ahead : List Happening) (past : List Entry) (words : List Word) (old new : World S T)
    → SaysFrames U → SaysFrames V → Idles U → Reached U V happenings first (happening ∷ ahead) past words old → Does U V happening old new → Reached U V happenings first ahead (past ++ entries_of happening) (words ++ words_in happening) new
reached_next U V happenings first happening ahead past words old new frames_a frames_b idles reached does =
    let now = happens U V happening old new reached.talk_a reached.talk_b frames_a frames_b idles does reached.both reached.kept in
    record {
      done = reached.done ++ happening ∷ [];
      front = reached.front ∙ sym (append_assoc reached.done (happening ∷ []) ahead);
      runs = runs_then U V reached.done happening first old new reached.runs does;
      past_is = entries_then reached.done happening past reached.past_is;
      words_are = words_then reached.done happening words reached.words_are;
      talk_a = now.talk_a';
      talk_b = now.talk_b';
      both = (follows U V now.doings (at old reached.talk_a reached.talk_b) nothing_more nothing_more (at new now.talk_a' now.talk_b') now.carries reached.both).both;
      kept = now.kept;
      links_a = by_a happening old reached.links_a;
      links_b = by_b happening old reached.links_b;
      shows = shows_more U V happening past old new reached.links_a reached.links_b does reached.kept reached.shows;
      count_a = count_next_a U V happening past old new reached.links_a does reached.kept (up_none A past old.radio.a old.a reached.links_a reached.shows.a) reached.count_a;
      count_b = count_next_b U V happening past old new reached.links_b does reached.kept (up_none B past old.radio.b old.b reached.links_b reached.shows.b) reached.count_b;
    }

pub reached_first : {S T G H : Type 0} (U : Upper S G) (V : Upper T H) (size count : ℕ) (names : List (List ℕ)) (happenings : List Happening) → Fits U V size
    → Reached U V happenings (first_world U V size count names) happenings [] [] (first_world U V size count names)
reached_first U V size count names happenings fits = record {
  done = [];
  front = refl;
  runs = refl;
  past_is = refl;
  words_are = refl;
  talk_a = [];
  talk_b = [];
  both = first_both U V size names;
  kept = first_kept U V size count fits.long fits.idles;
  links_a = no_linkage;
  links_b = no_linkage;
  shows = record {
    low = omega arith;
    a = record { asks = λ asked none. cc; past = refl; now = tt };
    b = record { asks = λ asked none. cc; past = refl; now = tt };
  };
  count_a = refl;
  count_b = refl;
}

-- ---- along a run

-- each happening keeps it
abbrev pub Keeps : {S T G H : Type 0} → Upper S G → Upper T H → List Happening → World S T → (List Entry → List Word → World S T → Type 0) → Type 0
Keeps {S} {T} U V happenings first P =
    (happening : Happening) (ahead : List Happening) (past : List Entry) (words : List Word) (old new : World S T) → Reached U V happenings first (happening ∷ ahead) past words old → Does U V happening old new
    → Reached U V happenings first ahead (past ++ entries_of happening) (words ++ words_in happening) new → P past words old → P (past ++ entries_of happening) (words ++ words_in happening) new

pub record Arrived {S T G H : Type 0} (U : Upper S G) (V : Upper T H) (happenings : List Happening) (first : World S T) (P : List Entry → List Word → World S T → Type 0) (w : World S T) : Type 0 where
  pub reached : Reached U V happenings first [] (all_entries happenings) (all_words happenings) w
  pub now : P (all_entries happenings) (all_words happenings) w

arrives : {S T G H : Type 0} (U : Upper S G) (V : Upper T H) (happenings : List Happening) (first : World S T) (P : List Entry → List Word → World S T → Type 0) (past : List Entry) (words : List Word) (w : World S T)
    → Reached U V happenings first [] past words w → P past words w → Arrived U V happenings first P w
arrives {S} {T} U V happenings first P past words w reached p =
    let all : happenings ≡ reached.done = reached.front ∙ append-nil reached.done in
    let entries : past ≡ all_entries happenings = sym reached.past_is ∙ ap all_entries (sym all) in
    let turned : words ≡ all_words happenings = sym reached.words_are ∙ ap all_words (sym all) in
    record {
      reached = subst (λ (e : List Entry). Reached U V happenings first [] e (all_words happenings) w) entries (subst (λ (l : List Word). Reached U V happenings first [] past l w) turned reached);
      now = subst (λ (e : List Entry). P e (all_words happenings) w) entries (subst (λ (l : List Word). P past l w) turned p);
    }

pub along : {S T G H : Type 0} (U : Upper S G) (V : Upper T H) (happenings : List Happening) (first : World S T) (P : List Entry → List Word → World S T → Type 0) (ahead : List Happening) (past : List Entry) (words : List Word) (old new : World S T)
    → SaysFrames U → SaysFrames V → Idles U → Keeps U V happenings first P → Runs U V ahead old new → Reached U V happenings first ahead past words old → P past words old → Arrived U V happenings first P new
along {S} {T} U V happenings first P [] past words old new frames_a frames_b idles keeps same reached p =
    arrives U V happenings first P past words new (subst (λ (w : World S T). Reached U V happenings first [] past words w) (sym same) reached) (subst (λ (w : World S T). P past words w) (sym same) p)
along U V happenings first P (happening ∷ ahead) past words old new frames_a frames_b idles keeps (mid, does, runs) reached p =
    let next = reached_next U V happenings first happening ahead past words old mid frames_a frames_b idles reached does in
    along U V happenings first P ahead (past ++ entries_of happening) (words ++ words_in happening) mid new frames_a frames_b idles keeps runs next (keeps happening ahead past words old mid reached does next p)
