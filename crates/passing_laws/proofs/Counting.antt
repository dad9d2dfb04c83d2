-- Over all words of a link, the passes that find something to do on a channel are within what is owed.
use Rattle.std.proofs.Common.{◌≡◌, ℕ, ◌+◌, ◌*◌, List, [], ◌∷◌, ◌++◌, true, sym, ap, subst, ◌∙◌, arith, append_assoc, append-nil}
use Rattle.std.specs.List.{AllByRecursion}
use Rattle.std.proofs.lemmas.List.Sums.{fold-append}
use Rattle.channel_laws.specs.capture.specs.Histories.{EachAfter}
use Rattle.channel_laws.specs.link_talk.specs.declared.channel.Channel.{Channel}
use Rattle.channel_laws.specs.channel_model.specs.Policies.{Policy}
use Rattle.channel_laws.specs.Ends.{DoesSo, end_at}
use Rattle.channel_laws.specs.Frames.{IsUttered}
use Rattle.channel_laws.specs.Pairs.{Pair, new_pair, Turn, happens_at, pair_after, pair_of}
use Rattle.channel_laws.specs.Pipes.{IsCarried}
use Rattle.channel_laws.proofs.ConnectionsMet.{each_split}
use Rattle.channel_laws.proofs.Flowing.{Common, Fair as Suited}
use Rattle.channel_laws.proofs.Joining.{Terms, IsBelow}
use Rattle.channel_laws.proofs.Pairing.{BothRun, at-runs, first-runs}
use Rattle.recovered_laws.proofs.Turning.{Joint}
use Rattle.recovered_laws.proofs.Paying.{BothPrepared}
use Rattle.recovery_laws.proofs.Within.{Within}
use Rattle.passing_laws.specs.Words.{is_unprompted, Onset, ByTurn, ByTimers, timer_turns, onset_turns, Word, word_turns, turns_of, all_after, AreSilent, MayBegin, AreWords, wrongs, all_wrongs, finds, all_finds}
use Rattle.passing_laws.proofs.Onsets.{Standing, near_fair, far_fair, side-begins, side-goes}
use Rattle.passing_laws.proofs.Timing.{timers-begin}

-- ---- at each moment of some turns

pub record Course (near far : Policy) (t : Terms) (channel : Channel) (all : List Turn) : Type 0 where
  pub suited : Suited t channel
  pub common : (front behind : List Turn) → all ≡ front ++ behind → Common t channel (pair_of near far front)
  pub ready : (front behind : List Turn) → all ≡ front ++ behind → BothPrepared t channel (pair_of near far front)
  pub uttered : EachAfter (λ front turn. DoesSo IsUttered turn.happening (end_at turn.side (pair_of near far front))) [] all
  pub carried : EachAfter (λ front turn. IsCarried turn.happening (end_at turn.side (pair_of near far front))) [] all

each_at : (P : List Turn → Turn → Type 0) (all front : List Turn) (turn : Turn) (rest : List Turn) → all ≡ front ++ turn ∷ rest → EachAfter P [] all → P front turn
each_at P all front turn rest is each = (each_split P [] front (turn ∷ rest) (subst (EachAfter P []) is each)).1.0

pub runs_on : (near far : Policy) (past turns : List Turn) → EachAfter (λ front turn. DoesSo IsUttered turn.happening (end_at turn.side (pair_of near far front))) past turns → BothRun IsUttered near far (pair_of near far past) → BothRun IsUttered near far (pair_of near far (past ++ turns))
runs_on near far past [] each runs = subst (λ list. BothRun IsUttered near far (pair_of near far list)) (sym (append-nil past)) runs
runs_on near far past (turn ∷ turns) (now, each) runs =
    subst (λ list. BothRun IsUttered near far (pair_of near far list)) (append_assoc past (turn ∷ []) turns)
    (runs_on near far (past ++ turn ∷ []) turns each
    (subst (BothRun IsUttered near far) (sym (fold-append pair_after (new_pair near far) past (turn ∷ []))) (at-runs IsUttered near far turn.side turn.happening (pair_of near far past) (λ pdu v. tt) now runs)))

pub standing : (near far : Policy) (t : Terms) (channel : Channel) (all front behind : List Turn) → all ≡ front ++ behind → Course near far t channel all → Standing near far t channel (pair_of near far front)
standing near far t channel all front behind is c = record {
  suited = c.suited;
  runs =
      runs_on near far [] front (each_split (λ past turn. DoesSo IsUttered turn.happening (end_at turn.side (pair_of near far past))) [] front behind (subst (EachAfter (λ past turn. DoesSo IsUttered turn.happening (end_at turn.side (pair_of near far past))) []) is c.uttered)).0
      (first-runs IsUttered near far);
  ready = c.ready front behind is;
  common = c.common front behind is;
}

pub below_near : (near far : Policy) (t : Terms) (channel : Channel) (pair : Pair) → Standing near far t channel pair → IsBelow pair.near.run.value
below_near near far t channel pair s = (near_fair near far t channel pair s).sound.core.held_below

pub below_far : (near far : Policy) (t : Terms) (channel : Channel) (pair : Pair) → Standing near far t channel pair → IsBelow pair.far.run.value
below_far near far t channel pair s = (far_fair near far t channel pair s).sound.core.held_below

module _ (near far : Policy) (t : Terms) (channel : Channel) (all : List Turn) (c : Course near far t channel all) where
  abbrev at : List Turn → Pair
  at front = pair_of near far front

  stands_at : (front behind : List Turn) → all ≡ front ++ behind → Standing near far t channel (at front)
  stands_at front behind is = standing near far t channel all front behind is c

  next : (front : List Turn) (turn : Turn) → at (front ++ turn ∷ []) ≡ happens_at turn.side turn.happening (at front)
  next front turn = fold-append pair_after (new_pair near far) front (turn ∷ [])

  further : (front : List Turn) (turn : Turn) (rest : List Turn) → all ≡ front ++ turn ∷ rest → all ≡ (front ++ turn ∷ []) ++ rest
  further front turn rest is = is ∙ sym (append_assoc front (turn ∷ []) rest)

  common_then : (front : List Turn) (turn : Turn) (rest : List Turn) → all ≡ front ++ turn ∷ rest → Common t channel (happens_at turn.side turn.happening (at front))
  common_then front turn rest is = subst (Common t channel) (next front turn) (c.common (front ++ turn ∷ []) rest (further front turn rest is))

  utters : (front : List Turn) (turn : Turn) (rest : List Turn) → all ≡ front ++ turn ∷ rest → DoesSo IsUttered turn.happening (end_at turn.side (at front))
  utters front turn rest is = each_at (λ past one. DoesSo IsUttered one.happening (end_at one.side (pair_of near far past))) all front turn rest is c.uttered

  carries : (front : List Turn) (turn : Turn) (rest : List Turn) → all ≡ front ++ turn ∷ rest → IsCarried turn.happening (end_at turn.side (at front))
  carries front turn rest is = each_at (λ past one. IsCarried one.happening (end_at one.side (pair_of near far past))) all front turn rest is c.carried

  -- ---- how a word begins

  begun : (found owed : ℕ) (front : List Turn) (onset : Onset) (behind : List Turn) → all ≡ front ++ (onset_turns onset ++ behind) → AreSilent (at front) → MayBegin onset (at front) → Joint t channel (Within found owed) (at front)
      → Joint t channel (Within (found + finds channel onset (at front)) (owed + 256 * wrongs onset)) (at (front ++ onset_turns onset))
  begun found owed front (ByTurn turn) behind is silent may h =
      subst (Joint t channel (Within (found + finds channel (ByTurn turn) (at front)) (owed + 256 * wrongs (ByTurn turn)))) (sym (next front turn))
      (side-begins near far t channel (at front) found owed turn.side turn.happening (stands_at front (turn ∷ behind) is) silent (common_then front turn behind is) (utters front turn behind is) (carries front turn behind is) h)
  begun found owed front (ByTimers timers) behind is silent may h =
      let now : Standing near far t channel (at front) = stands_at front (timer_turns timers ++ behind) is in
      let after_is : at (front ++ timer_turns timers) ≡ all_after (at front) (timer_turns timers) = fold-append pair_after (new_pair near far) front (timer_turns timers) in
      let later : Standing near far t channel (all_after (at front) (timer_turns timers)) = subst (Standing near far t channel) after_is (stands_at (front ++ timer_turns timers) behind (is ∙ sym (append_assoc front (timer_turns timers) behind))) in
      let more : ℕ = found + finds channel (ByTimers timers) (at front) in
      let e : owed ≡ owed + 256 * 0 = omega arith in
      subst (λ k. Joint t channel (Within more k) (at (front ++ timer_turns timers))) e
      (subst (Joint t channel (Within more owed)) (sym after_is)
      (timers-begin t channel (at front) found owed timers (below_near near far t channel (at front) now) (below_far near far t channel (at front) now)
      (below_near near far t channel (all_after (at front) (timer_turns timers)) later) (below_far near far t channel (all_after (at front) (timer_turns timers)) later) silent may.0 may.1 h))

  -- ---- and goes on

  goes_on : (found owed : ℕ) (front turns behind : List Turn) → all ≡ front ++ (turns ++ behind) → AllByRecursion (λ (turn : Turn). is_unprompted turn.happening ≡ true) turns → Joint t channel (Within found owed) (at front) → Joint t channel (Within found owed) (at (front ++ turns))
  goes_on found owed front [] behind is own h = subst (λ list. Joint t channel (Within found owed) (at list)) (sym (append-nil front)) h
  goes_on found owed front (turn ∷ turns) behind is (now, own) h =
      subst (λ list. Joint t channel (Within found owed) (at list)) (append_assoc front (turn ∷ []) turns)
      (goes_on found owed (front ++ turn ∷ []) turns behind (further front turn (turns ++ behind) is) own
      (subst (Joint t channel (Within found owed)) (sym (next front turn))
      (side-goes near far t channel (at front) found owed turn.side turn.happening now (stands_at front (turn ∷ (turns ++ behind)) is) (common_then front turn (turns ++ behind) is) (utters front turn (turns ++ behind) is) (carries front turn (turns ++ behind) is) h)))

  -- ---- all words

  after_word : (front : List Turn) (word : Word) → at (front ++ word_turns word) ≡ all_after (at front) (word_turns word)
  after_word front word = fold-append pair_after (new_pair near far) front (word_turns word)

  pub words-within : (found owed : ℕ) (front : List Turn) (words : List Word) → all ≡ front ++ turns_of words → AreWords (at front) words → Joint t channel (Within found owed) (at front)
      → Joint t channel (Within (found + all_finds channel (at front) words) (owed + 256 * all_wrongs words)) (at all) × AreSilent (at all)
  words-within found owed front [] is silent h =
      let same : at all ≡ at front = ap at (is ∙ append-nil front) in
      let e : found ≡ found + 0 = omega arith in
      let e' : owed ≡ owed + 256 * 0 = omega arith in
      (subst (Joint t channel (Within (found + 0) (owed + 256 * 0))) (sym same) (subst (λ k. Joint t channel (Within k (owed + 256 * 0)) (at front)) e (subst (λ k. Joint t channel (Within found k) (at front)) e' h)), subst AreSilent (sym same) silent)
  words-within found owed front (word ∷ words) is (silent, may, own, rest) h =
      let one : all ≡ front ++ (onset_turns word.onset ++ (word.behind ++ turns_of words)) = is ∙ ap (λ l. front ++ l) (append_assoc (onset_turns word.onset) word.behind (turns_of words)) in
      let begin = begun found owed front word.onset (word.behind ++ turns_of words) one silent may h in
      let two : all ≡ (front ++ onset_turns word.onset) ++ (word.behind ++ turns_of words) = one ∙ sym (append_assoc front (onset_turns word.onset) (word.behind ++ turns_of words)) in
      let gone = goes_on (found + finds channel word.onset (at front)) (owed + 256 * wrongs word.onset) (front ++ onset_turns word.onset) word.behind (turns_of words) two own begin in
      let joined : (front ++ onset_turns word.onset) ++ word.behind ≡ front ++ word_turns word = append_assoc front (onset_turns word.onset) word.behind in
      let three : all ≡ (front ++ word_turns word) ++ turns_of words = is ∙ sym (append_assoc front (word_turns word) (turns_of words)) in
      let (last, quiet) = words-within (found + finds channel word.onset (at front)) (owed + 256 * wrongs word.onset) (front ++ word_turns word) words three (subst (λ p. AreWords p words) (sym (after_word front word)) rest)
      (subst (λ l. Joint t channel (Within (found + finds channel word.onset (at front)) (owed + 256 * wrongs word.onset)) (at l)) joined gone) in
      let sum : (found + finds channel word.onset (at front)) + all_finds channel (at (front ++ word_turns word)) words ≡ found + (finds channel word.onset (at front) + all_finds channel (all_after (at front) (word_turns word)) words) =
      let same = ap (λ p. all_finds channel p words) (after_word front word) in omega (arith, same) in
      let cost : (owed + 256 * wrongs word.onset) + 256 * all_wrongs words ≡ owed + 256 * (wrongs word.onset + all_wrongs words) = omega arith in (
        subst (λ k. Joint t channel (Within k (owed + 256 * (wrongs word.onset + all_wrongs words))) (at all)) sum
            (subst (λ k. Joint t channel (Within ((found + finds channel word.onset (at front)) + all_finds channel (at (front ++ word_turns word)) words) k) (at all)) cost last),
        quiet,
      )
