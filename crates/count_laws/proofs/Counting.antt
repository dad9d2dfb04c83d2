-- The words of a link of a run count the passes of its enhanced channels.
use Rattle.std.proofs.Common.{◌≡◌, ℕ, ◌≤◌, List, [], ◌∷◌, ◌++◌, refl, sym, ap, subst, ◌∙◌, append-nil, append_assoc, arith}
use Rattle.std.proofs.lemmas.List.Sums.{fold-append}
use Rattle.pair_laws.specs.capture.specs.Histories.{EachAfter}
use Rattle.pair_laws.specs.push_terms.specs.declared.word.Side.TheVariants as sides
use Rattle.channel_laws.specs.Belonging.{IsRead}
use Rattle.channel_laws.specs.Ends.{DoesSo, end_at}
use Rattle.channel_laws.specs.Frames.{IsUttered}
use Rattle.channel_laws.specs.Pairs.{Pair, Turn, new_pair, pair_after, pair_of}
use Rattle.channel_laws.specs.Pipes.{IsCarried}
use Rattle.channel_laws.proofs.Mating.{front-each}
use Rattle.channel_laws.specs.channel_model.specs.Policies.{Policy}
use Rattle.passing_laws.specs.Channels.{ChannelsRecover}
use Rattle.passing_laws.specs.Words.{Word, word_turns, turns_of, all_after, AreSilent, AreWords, HaveBegun, all_wrongs}
use Rattle.pair_laws.specs.host_model.specs.Clients.{client_profile}
use Rattle.pair_laws.specs.host_model.specs.Servers.{server_profile}
use Rattle.pair_laws.specs.OnLinks.{last_number}
use Rattle.pair_laws.specs.Within.{PairsAreCarried}
use Rattle.pair_laws.proofs.Whole.{both_can}
use Rattle.count_laws.specs.Counted.{RestsRecover, RunsRecover}

-- ---- the first of some words

turns_both : (past later : List Word) → turns_of (past ++ later) ≡ turns_of past ++ turns_of later
turns_both [] later = refl
turns_both (word ∷ past) later = ap (λ (l : List Turn). word_turns word ++ l) (turns_both past later) ∙ sym (append_assoc (word_turns word) (turns_of past) (turns_of later))

wrongs_ahead : (past later : List Word) → all_wrongs past ≤ all_wrongs (past ++ later)
wrongs_ahead [] later = omega arith
wrongs_ahead (word ∷ past) later = let rest = wrongs_ahead past later in omega (arith, rest)

-- they have ended where both hosts are silent
words_ahead : (pair : Pair) (past later : List Word) → HaveBegun pair (past ++ later) → AreSilent (all_after pair (turns_of past)) → AreWords pair past
words_ahead pair [] later begun silent = silent
words_ahead pair (word ∷ past) later (quiet, may, mild, rest) silent =
    (quiet, may, mild, words_ahead (all_after pair (word_turns word)) past later rest (subst AreSilent (fold-append pair_after pair (word_turns word) (turns_of past)) silent))

each_ahead : (P : List Turn → Turn → Type 0) (turns past later : List Turn) → turns ≡ past ++ later → EachAfter P [] turns → EachAfter P [] past
each_ahead P turns past later is each = front-each P [] past later (subst (EachAfter P []) is each)

-- ---- of a link of a run

pub runs-recover : PairsAreCarried → ChannelsRecover → RunsRecover
runs-recover carried recover asks scenario content capture ran taken within number past later is silent channel have near_machine far_machine near_carries far_carries =
    let near : Policy = (client_profile scenario.settings).policy in
    let far : Policy = (server_profile scenario.settings content).policy in
    let link = taken.cost.turns.pairs.pairs number in
    let w = taken.worded number in
    let parts = w.turns_are ∙ (ap turns_of is ∙ turns_both past later) in
    record {
      counted = recover near far past channel
          (each_ahead (λ front turn. DoesSo IsUttered turn.happening (end_at turn.side (pair_of near far front))) link.turns (turns_of past) (turns_of later) parts link.fair)
          (each_ahead (λ front turn. IsRead turn.happening (end_at turn.side (pair_of near far front))) link.turns (turns_of past) (turns_of later) parts link.read)
          (each_ahead (λ front turn. IsCarried turn.happening (end_at turn.side (pair_of near far front))) link.turns (turns_of past) (turns_of later) parts (carried asks scenario content capture ran taken.cost.turns.pairs within number))
          have (both_can scenario.settings channel.psm) (words_ahead (new_pair near far) past later (subst (HaveBegun (new_pair near far)) is w.begun) silent) near_machine far_machine near_carries far_carries;
      few =
          let ahead = wrongs_ahead past later in
          let same = ap all_wrongs is in
          let wrong = w.wrong in
          let paid = taken.cost.cost number in
          omega (arith, ahead, same, wrong, paid);
    }

pub rests-recover : PairsAreCarried → ChannelsRecover → RestsRecover
rests-recover carried recover asks scenario content capture ran taken within rest =
    let near : Policy = (client_profile scenario.settings).policy in
    let far : Policy = (server_profile scenario.settings content).policy in
    let number : ℕ = last_number (client_profile scenario.settings) (asks.clients scenario.settings) sides.A capture ran.world.a.upper taken.cost.turns.pairs.a in
    let w = taken.worded number in
    runs-recover carried recover asks scenario content capture ran taken within number w.words [] (sym (append-nil w.words)) (subst (λ (turns : List Turn). AreSilent (pair_of near far turns)) w.turns_are (taken.rest rest))
