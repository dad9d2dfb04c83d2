-- What a channel carries, looking back and in one pass.
use Rattle.std.proofs.Common.{◌≡◌, ℕ, List, [], ◌∷◌, ◌++◌, Bool, true, false, cond, ◌&&◌, eqb, not, Option, Some, None, refl, sym, ap, subst, ◌∙◌}
use Rattle.std.specs.Prelude.{find}
use Rattle.link_talk.specs.acl_fragments.specs.Pieces.{channel_of}
use Rattle.link_talk.specs.capture.specs.declared.flow.Flow.{Flow}
use Rattle.link_talk.specs.capture.specs.declared.flow.Flow.TheVariants.{Out, Into}
use Rattle.link_talk.specs.capture.specs.Histories.{each_after}
use Rattle.link_talk.specs.declared.channel.Channel.{Channel}
use Rattle.link_talk.specs.Sayings.{Saying, Command, Carried, GaveUp}
use Rattle.link_talk.specs.Meanings.{Meaning, meanings}
use Rattle.link_talk.specs.Setups.{is_set, agreed_mode}
use Rattle.link_talk.specs.Channels.{Birth, births, words, is_closed, is_gone, Entry, is_alive, is_there, reading}
use Rattle.link_talk.specs.Carriages.{Carriage, endpoint, is_heard, is_passed, takes, is_on, carried, has_own, entry_mode}
use Rattle.link_talk.specs.ReadingLaws.{IsRead, AreRead}
use Rattle.link_talk.proofs.OnePass.{reading-more, reading-is_right}
use Rattle.talk_laws.specs.Carrying.{agreed, is_heard_back, is_passed_back, takes_back, is_of, carried_back, has_endpoint, birth_mode, carried_along, CarriagesLookBack}
use Rattle.talk_laws.proofs.Setups.{setups-look_back}

-- ---- what is found

-- the channel that is held is one of those that came to be
abbrev SameFound : List Meaning → Option Entry → Option Birth → Type 0
SameFound meant None None = Unit {0}
SameFound meant None (Some birth) = ⊥
SameFound meant (Some entry) None = ⊥
SameFound meant (Some entry) (Some birth) = IsRead meant birth entry

chosen : (meant : List Meaning) (birth : Birth) (entry : Entry) (held : Option Entry) (born : Option Birth) (fits : Bool) → IsRead meant birth entry → SameFound meant held born
    → SameFound meant (cond fits (Some entry) held) (cond fits (Some birth) born)
chosen meant birth entry held born true read same = read
chosen meant birth entry held born false read same = same

found : (meant : List Meaning) (test : Entry → Bool) (test_back : Birth → Bool) (births : List Birth) (entries : List Entry) → ((birth : Birth) (entry : Entry) → IsRead meant birth entry → test entry ≡ test_back birth)
    → AreRead meant births entries → SameFound meant (find test entries) (find test_back births)
found meant test test_back [] [] same read = tt
found meant test test_back [] (entry ∷ entries) same read = absurd read
found meant test test_back (birth ∷ births) [] same read = absurd read
found meant test test_back (birth ∷ births) (entry ∷ entries) same (first, rest) =
    subst (λ b. SameFound meant (cond b (Some entry) (find test entries)) (cond (test_back birth) (Some birth) (find test_back births))) (sym (same birth entry first))
    (chosen meant birth entry (find test entries) (find test_back births) (test_back birth) first (found meant test test_back births entries same rest))

on_same : (meant : List Meaning) (channel : Channel) (held : Option Entry) (born : Option Birth) → SameFound meant held born → is_on channel held ≡ is_of channel born
on_same meant channel None None same = refl
on_same meant channel None (Some birth) same = absurd same
on_same meant channel (Some entry) None same = absurd same
on_same meant channel (Some entry) (Some birth) same = ap (λ (c : Channel). eqb c.own channel.own) same.channel_is

mode_same : (meant : List Meaning) (held : Option Entry) (born : Option Birth) → SameFound meant held born → entry_mode held ≡ birth_mode meant born
mode_same meant None None same = refl
mode_same meant None (Some birth) same = absurd same
mode_same meant (Some entry) None same = absurd same
mode_same meant (Some entry) (Some birth) same = ap agreed_mode (same.setup_is ∙ setups-look_back meant birth)

-- ---- what counts

held_same : (meant : List Meaning) (birth : Birth) (entry : Entry) → IsRead meant birth entry → (is_set entry.setup && is_there entry.life) ≡ (is_set (agreed meant birth) && not (is_gone (words meant birth)))
held_same meant birth entry read =
    ap (λ setup. is_set setup && is_there entry.life) (read.setup_is ∙ setups-look_back meant birth)
    ∙ ap (λ there. is_set (agreed meant birth) && there) read.there_is

open_same : (meant : List Meaning) (birth : Birth) (entry : Entry) → IsRead meant birth entry → (is_set entry.setup && is_alive entry.life) ≡ (is_set (agreed meant birth) && not (is_closed (words meant birth)))
open_same meant birth entry read =
    ap (λ setup. is_set setup && is_alive entry.life) (read.setup_is ∙ setups-look_back meant birth)
    ∙ ap (λ alive. is_set (agreed meant birth) && alive) read.alive_is

abbrev Same : List Meaning → (Flow → Entry → Bool) → (Flow → Birth → Bool) → Type 0
Same meant counts counts_back = (flow : Flow) (birth : Birth) (entry : Entry) → IsRead meant birth entry → counts flow entry ≡ counts_back flow birth

heard_same : (meant : List Meaning) → Same meant is_heard (is_heard_back meant)
heard_same meant Out birth entry read = held_same meant birth entry read
heard_same meant Into birth entry read = open_same meant birth entry read

passed_same : (meant : List Meaning) → Same meant is_passed (is_passed_back meant)
passed_same meant flow birth entry read = held_same meant birth entry read

takes_same : (meant : List Meaning) (counts : Flow → Entry → Bool) (counts_back : Flow → Birth → Bool) → Same meant counts counts_back → (flow : Flow) (identifier : ℕ) (birth : Birth) (entry : Entry) → IsRead meant birth entry
    → takes counts flow identifier entry ≡ takes_back counts_back flow identifier birth
takes_same meant counts counts_back same flow identifier birth entry read =
    ap (λ b. b && eqb (endpoint flow entry.channel) identifier) (same flow birth entry read)
    ∙ ap (λ channel. counts_back flow birth && eqb (endpoint flow channel) identifier) read.channel_is

carried_same : (counts : Flow → Entry → Bool) (counts_back : List Meaning → Flow → Birth → Bool) → ((meant : List Meaning) → Same meant counts (counts_back meant)) → (channel : Channel) (past : List Saying) (saying : Saying)
    → carried counts channel past saying ≡ carried_back counts_back channel past saying
carried_same counts counts_back same channel past (Command flow answer) = refl
carried_same counts counts_back same channel past (Carried flow pdu) =
    let meant = meanings past in
    let held = find (takes counts flow (channel_of pdu)) (reading past).entries in
    let born = find (takes_back (counts_back meant) flow (channel_of pdu)) (births meant) in
    ap (λ b. let carriages : List Carriage = cond b (record { flow = flow; pdu = pdu } ∷ []) [] in carriages)
    (on_same meant channel held born
    (found meant (takes counts flow (channel_of pdu)) (takes_back (counts_back meant) flow (channel_of pdu)) (births meant) (reading past).entries (takes_same meant counts (counts_back meant) (same meant) flow (channel_of pdu)) (reading-is_right past).entries_are))
carried_same counts counts_back same channel past (GaveUp forgone) = refl

-- ---- over a talk

each_same : {X Y : Type 0} (f g : List X → X → List Y) (past rest : List X) → ((before : List X) (x : X) → f before x ≡ g before x) → each_after f past rest ≡ each_after g past rest
each_same f g past [] same = refl
each_same f g past (x ∷ rest) same =
    ap (λ now. now ++ each_after f (past ++ x ∷ []) rest) (same past x) ∙ ap (λ later. g past x ++ later) (each_same f g (past ++ x ∷ []) rest same)

along : (counts : Flow → Entry → Bool) (channel : Channel) (past rest : List Saying) → each_after (carried counts channel) past rest ≡ carried_along counts channel (reading past) rest
along counts channel past [] = refl
along counts channel past (saying ∷ rest) =
    ap (λ later. carried counts channel past saying ++ later) (along counts channel (past ++ saying ∷ []) rest)
    ∙ ap (λ held. carried counts channel past saying ++ carried_along counts channel held rest) (reading-more past saying)

own_same : (meant : List Meaning) (channel : Channel) (birth : Birth) (entry : Entry) → IsRead meant birth entry → has_own channel entry ≡ has_endpoint channel birth
own_same meant channel birth entry read = ap (λ (c : Channel). eqb c.own channel.own) read.channel_is

pub carriages-look_back : CarriagesLookBack
carriages-look_back = record {
  stretch_is = λ channel said. each_same (carried is_heard channel) (carried_back is_heard_back channel) [] said (carried_same is_heard is_heard_back heard_same channel);
  passages_are = λ channel said. each_same (carried is_passed channel) (carried_back is_passed_back channel) [] said (carried_same is_passed is_passed_back passed_same channel);
  mode_is = λ channel said.
      mode_same (meanings said) (find (has_own channel) (reading said).entries) (find (has_endpoint channel) (births (meanings said)))
      (found (meanings said) (has_own channel) (has_endpoint channel) (births (meanings said)) (reading said).entries (own_same (meanings said) channel) (reading-is_right said).entries_are);
  stretch_along = λ channel said. along is_heard channel [] said;
  passages_along = λ channel said. along is_passed channel [] said;
}
