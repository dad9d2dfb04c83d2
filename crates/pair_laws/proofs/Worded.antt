-- The turns of a link as words, one turn after the other.
use Rattle.std.proofs.Common.{◌≡◌, ℕ, ◌+◌, ◌≤◌, Bool, true, false, not, eqb, ◌&&◌, List, [], ◌∷◌, ◌++◌, length, refl, sym, ap, subst, ◌∙◌, append-nil, append_assoc, arith}
use Rattle.std.specs.List.{AllByRecursion}
use Rattle.std.proofs.lemmas.Bool.{eqb-true, and_parts}
use Rattle.std.proofs.lemmas.List.Sums.{fold-append}
use Rattle.channel_laws.specs.channel_model.specs.Policies.{Policy}
use Rattle.channel_laws.specs.Adverse.{is_quiet, disturbs, disturbances}
use Rattle.channel_laws.specs.Pairs.{Pair, new_pair, Happening, Acts, Puts, Takes, Repeats, Loses, Damages, Side, Near, Far, Turn, pair_after, pair_of}
use Rattle.channel_laws.specs.Runs.{Occurrence, Comes, Connects, AsksFeatures, Disconnects, Sends, Gives, Fires, Tells}
use Rattle.channel_laws.specs.Tries.{one_if, is_firing}
use Rattle.passing_laws.specs.Words.{is_unprompted, OfOne, OfBoth, Onset, ByTurn, ByTimers, timer_of, onset_turns, Word, word_turns, turns_of, all_after, AreSilent, MayBegin, HaveBegun, wrong_in, wrongs, all_wrongs}
use Rattle.pair_laws.specs.OnWords.{AreWorded}

-- ---- what disturbs

pub disturbances-more : (pair : Pair) (turns : List Turn) (turn : Turn) → disturbances pair (turns ++ turn ∷ []) ≡ disturbances pair turns + disturbs turn.happening (all_after pair turns)
disturbances-more pair [] turn = omega arith
disturbances-more pair (first ∷ turns) turn = let later = disturbances-more (pair_after pair first) turns turn in omega (arith, later)

no_less : (pair : Pair) (turns more : List Turn) → disturbances pair turns ≤ disturbances pair (turns ++ more)
no_less pair [] more = omega arith
no_less pair (first ∷ turns) more = let later = no_less (pair_after pair first) turns more in omega (arith, later)

-- ---- what a host does of its own accord

-- it goes to the last word, or is the first
abbrev behind_last : Turn → List Word → List Word
behind_last turn [] = record { onset = ByTurn turn; behind = [] } ∷ []
behind_last turn (word ∷ []) = record { onset = word.onset; behind = word.behind ++ turn ∷ [] } ∷ []
behind_last turn (word ∷ other ∷ words) = word ∷ behind_last turn (other ∷ words)

last_turns : (turn : Turn) (words : List Word) → turns_of (behind_last turn words) ≡ turns_of words ++ turn ∷ []
last_turns turn [] = refl
last_turns turn (word ∷ []) =
    append-nil (onset_turns word.onset ++ (word.behind ++ turn ∷ [])) ∙ (sym (append_assoc (onset_turns word.onset) word.behind (turn ∷ [])) ∙ ap (λ (l : List Turn). l ++ turn ∷ []) (sym (append-nil (word_turns word))))
last_turns turn (word ∷ other ∷ words) =
    ap (λ (l : List Turn). word_turns word ++ l) (last_turns turn (other ∷ words)) ∙ sym (append_assoc (word_turns word) (turns_of (other ∷ words)) (turn ∷ []))

unprompted_wrong : (happening : Happening) → is_unprompted happening ≡ true → wrong_in happening ≡ 0
unprompted_wrong (Acts occurrence) own = by (is_firing occurrence) own
  where
    by : (fires : Bool) → not fires ≡ true → one_if fires ≡ 0
    by true own = cc
    by false own = refl
unprompted_wrong (Puts pdu) own = refl
unprompted_wrong Takes own = cc
unprompted_wrong Repeats own = cc
unprompted_wrong Loses own = cc
unprompted_wrong (Damages pdu) own = cc

last_wrongs : (turn : Turn) (words : List Word) → is_unprompted turn.happening ≡ true → all_wrongs (behind_last turn words) ≡ all_wrongs words
last_wrongs turn [] own = let none = unprompted_wrong turn.happening own in omega (arith, none)
last_wrongs turn (word ∷ []) own = refl
last_wrongs turn (word ∷ other ∷ words) own = ap (λ (n : ℕ). wrongs word.onset + n) (last_wrongs turn (other ∷ words) own)

all_own : (turns : List Turn) (turn : Turn) → AllByRecursion (λ (one : Turn). is_unprompted one.happening ≡ true) turns → is_unprompted turn.happening ≡ true → AllByRecursion (λ (one : Turn). is_unprompted one.happening ≡ true) (turns ++ turn ∷ [])
all_own [] turn all own = (own, tt)
all_own (first ∷ turns) turn all own = (all.0, all_own turns turn all.1 own)

last_begun : (turn : Turn) (words : List Word) (pair : Pair) → is_unprompted turn.happening ≡ true → AreSilent pair → HaveBegun pair words → HaveBegun pair (behind_last turn words)
last_begun turn [] pair own silent begun = (silent, tt, tt, tt)
last_begun turn (word ∷ []) pair own silent (quiet, may, mild, rest) = (quiet, may, all_own word.behind turn mild own, tt)
last_begun turn (word ∷ other ∷ words) pair own silent (quiet, may, mild, rest) = (quiet, may, mild, last_begun turn (other ∷ words) (all_after pair (word_turns word)) own rest.0 rest)

-- ---- a word more

words_turns : (words : List Word) (word : Word) → turns_of (words ++ word ∷ []) ≡ turns_of words ++ word_turns word
words_turns [] word = append-nil (word_turns word)
words_turns (one ∷ words) word = ap (λ (l : List Turn). word_turns one ++ l) (words_turns words word) ∙ sym (append_assoc (word_turns one) (turns_of words) (word_turns word))

words_wrongs : (words : List Word) (word : Word) → all_wrongs (words ++ word ∷ []) ≡ all_wrongs words + wrongs word.onset
words_wrongs [] word = omega arith
words_wrongs (one ∷ words) word = let later = words_wrongs words word in omega (arith, later)

words_begun : (words : List Word) (word : Word) (pair : Pair) → HaveBegun pair words → AreSilent (all_after pair (turns_of words)) → MayBegin word.onset (all_after pair (turns_of words)) → AllByRecursion (λ (turn : Turn). is_unprompted turn.happening ≡ true) word.behind
    → HaveBegun pair (words ++ word ∷ [])
words_begun [] word pair begun silent may mild = (silent, may, mild, tt)
words_begun (one ∷ words) word pair (quiet, m, own, rest) silent may mild =
    let after : all_after pair (word_turns one ++ turns_of words) ≡ all_after (all_after pair (word_turns one)) (turns_of words) = fold-append pair_after pair (word_turns one) (turns_of words) in
    (quiet, m, own, words_begun words word (all_after pair (word_turns one)) rest (subst AreSilent after silent) (subst (MayBegin word.onset) after may) mild)

new_silent : (near far : Policy) → AreSilent (new_pair near far)
new_silent near far = record { near_none = refl; far_none = refl }

pub new-worded : (near far : Policy) → AreWorded near far []
new-worded near far = record { words = []; turns_are = refl; begun = tt; wrong = omega arith }

module _ (near far : Policy) (turns : List Turn) (w : AreWorded near far turns) where
  word_more : (onset : Onset) → AreSilent (pair_of near far turns) → MayBegin onset (pair_of near far turns) → all_wrongs w.words + wrongs onset ≤ disturbances (new_pair near far) (turns ++ onset_turns onset) → AreWorded near far (turns ++ onset_turns onset)
  word_more onset silent may few =
      let word : Word = record { onset = onset; behind = [] } in
      let same : pair_of near far turns ≡ pair_of near far (turns_of w.words) = ap (pair_of near far) w.turns_are in
      let sum = words_wrongs w.words word in
      record {
        words = w.words ++ word ∷ [];
        turns_are = ap (λ (l : List Turn). l ++ onset_turns onset) w.turns_are ∙ (ap (λ (l : List Turn). turns_of w.words ++ l) (sym (append-nil (onset_turns onset))) ∙ sym (words_turns w.words word));
        begun = words_begun w.words word (new_pair near far) w.begun (subst AreSilent same silent) (subst (MayBegin onset) same may) tt;
        wrong = omega (arith, sum, few);
      }

  -- timers that fire where nothing is under way go wrong in nothing
  timers_more : (timers : _) → AreSilent (pair_of near far turns) → (pair_of near far turns).near.coming ≡ [] → (pair_of near far turns).far.coming ≡ [] → AreWorded near far (turns ++ onset_turns (ByTimers timers))
  timers_more timers silent none_near none_far =
      let le = w.wrong in
      let more = no_less (new_pair near far) turns (onset_turns (ByTimers timers)) in
      word_more (ByTimers timers) silent (none_near, none_far) (omega (arith, le, more))

  pub both-worded : AreSilent (pair_of near far turns) → (pair_of near far turns).near.coming ≡ [] → (pair_of near far turns).far.coming ≡ [] → AreWorded near far ((turns ++ timer_of Near ∷ []) ++ timer_of Far ∷ [])
  both-worded silent none_near none_far = subst (AreWorded near far) (sym (append_assoc turns (timer_of Near ∷ []) (timer_of Far ∷ []))) (timers_more OfBoth silent none_near none_far)

  -- any other turn that a host is prompted to
  turn_word : (side : Side) (happening : Happening) → wrong_in happening ≤ disturbs happening (pair_of near far turns) → AreSilent (pair_of near far turns) → AreWorded near far (turns ++ record { side = side; happening = happening } ∷ [])
  turn_word side happening few silent =
      let le = w.wrong in
      let more = disturbances-more (new_pair near far) turns (record { side = side; happening = happening }) in
      word_more (ByTurn (record { side = side; happening = happening })) silent tt (omega (arith, le, more, few))

  prompted : (side : Side) (happening : Happening) → AreSilent (pair_of near far turns) → AreWorded near far (turns ++ record { side = side; happening = happening } ∷ [])
  prompted side (Acts occurrence) silent = by (is_firing occurrence) (is_quiet (pair_of near far turns)) refl refl
    where
      fires_is : (one : Occurrence) → is_firing one ≡ true → Fires ≡ one
      fires_is (Comes pdu) is = cc
      fires_is (Connects psm) is = cc
      fires_is AsksFeatures is = cc
      fires_is (Disconnects own) is = cc
      fires_is (Sends own sdu) is = cc
      fires_is (Gives pdu) is = cc
      fires_is Fires is = refl
      fires_is Tells is = cc

      empty : (coming : List (List ℕ)) → eqb (length coming) 0 ≡ true → coming ≡ []
      empty [] is = refl
      empty (pdu ∷ coming) is = absurd (let some = eqb-true (length (pdu ∷ coming)) 0 is in omega (arith, some))

      none_comes : (coming far_coming : List (List ℕ)) (silent : Bool) → ((eqb (length coming) 0 && eqb (length far_coming) 0) && silent) ≡ true → (coming ≡ []) × (far_coming ≡ [])
      none_comes coming far_coming silent quiet =
          let (none, rest) = and_parts (eqb (length coming) 0 && eqb (length far_coming) 0) silent quiet in
          let (near_none, far_none) = and_parts (eqb (length coming) 0) (eqb (length far_coming) 0) none in
          (empty coming near_none, empty far_coming far_none)

      by : (fires quiet : Bool) → is_firing occurrence ≡ fires → is_quiet (pair_of near far turns) ≡ quiet → AreWorded near far (turns ++ record { side = side; happening = Acts occurrence } ∷ [])
      by false quiet fires is = turn_word side (Acts occurrence) (let none : one_if (is_firing occurrence) ≡ 0 = ap one_if fires in omega (arith, none)) silent
      by true false fires is =
          turn_word side (Acts occurrence)
          (let one : one_if (is_firing occurrence) ≡ 1 = ap one_if fires in
          let other : one_if (is_firing occurrence && not (is_quiet (pair_of near far turns))) ≡ 1 = ap (λ (b : Bool). one_if (b && not (is_quiet (pair_of near far turns)))) fires ∙ ap (λ (b : Bool). one_if (not b)) is in
          omega (arith, one, other)) silent
      by true true fires is =
          let pair = pair_of near far turns in
          let none = none_comes pair.near.coming pair.far.coming _ is in
          subst (λ (one : Occurrence). AreWorded near far (turns ++ record { side = side; happening = Acts one } ∷ [])) (fires_is occurrence fires) (timers_more (OfOne side) silent none.0 none.1)
  prompted side (Puts pdu) silent = turn_word side (Puts pdu) (omega arith) silent
  prompted side Takes silent = turn_word side Takes (omega arith) silent
  prompted side Repeats silent = turn_word side Repeats (omega arith) silent
  prompted side Loses silent = turn_word side Loses (omega arith) silent
  prompted side (Damages pdu) silent = turn_word side (Damages pdu) (omega arith) silent

  -- a turn more, where both hosts are silent if one is prompted to it
  pub turn-worded : (side : Side) (happening : Happening) → (is_unprompted happening ≡ false → AreSilent (pair_of near far turns)) → AreWorded near far (turns ++ record { side = side; happening = happening } ∷ [])
  turn-worded side happening silent = by (is_unprompted happening) refl
    where
      by : (own : Bool) → is_unprompted happening ≡ own → AreWorded near far (turns ++ record { side = side; happening = happening } ∷ [])
      by true own =
          let turn : Turn = record { side = side; happening = happening } in
          let same = last_wrongs turn w.words own in
          let le = w.wrong in
          let more = no_less (new_pair near far) turns (turn ∷ []) in
          record {
            words = behind_last turn w.words;
            turns_are = ap (λ (l : List Turn). l ++ turn ∷ []) w.turns_are ∙ sym (last_turns turn w.words);
            begun = last_begun turn w.words (new_pair near far) own (new_silent near far) w.begun;
            wrong = omega (arith, same, le, more);
          }
      by false own = prompted side happening (silent own)
