-- Each request for options that is under way is for first ones, while its host hears no suggestion.
use Rattle.std.proofs.Common.{◌≡◌, ℕ, List, [], ◌∷◌, ◌++◌, map, true, false, Option, Some, None, Ok, refl, sym, ap, subst, ◌∙◌, ◌⊎◌, inl, inr}
use Rattle.std.specs.Prelude.{find, option_map, option_to_list}
use Rattle.std.proofs.lemmas.List.Sums.{fold-append}
use Rattle.channel_laws.specs.l2cap_signal.specs.Commands.{Command, configuration_request}
use Rattle.channel_laws.specs.link_talk.specs.Sayings.{Saying}
use Rattle.channel_laws.specs.channel_model.specs.declared.errand.Errand.{Errand}
use Rattle.channel_laws.specs.channel_model.specs.Giving.{Given, Signal, Whole, Framed, command_of, gives, queue_gives, next_given}
use Rattle.channel_laws.specs.channel_model.specs.Policies.{Policy}
use Rattle.channel_laws.specs.channel_model.specs.Value.{Queued, Answer, Ask}
use Rattle.channel_laws.specs.Belonging.{IsReadAs}
use Rattle.channel_laws.specs.OwnTalk.{spoken}
use Rattle.channel_laws.specs.Pairs.{End}
use Rattle.channel_laws.specs.Runs.{Occurrence, said_in, Run, new_link, run_on, run_of}
use Rattle.channel_laws.specs.Signals.{StandsIn}
use Rattle.channel_laws.proofs.Replying.{is_response}
use Rattle.channel_laws.proofs.Running.{all-sound}
use Rattle.channel_laws.proofs.Saying.{stands-either, answers-are_responses}
use Rattle.channel_laws.proofs.UnderWay.{no_signal}
use Rattle.channel_laws.proofs.Words.{words-errand}
use Rattle.configuration_laws.proofs.Asking.{Brings}
use Rattle.accepting_laws.specs.First.{SuggestsNone, IsForFirst, FirstOptionsAreUnderWay}
use Rattle.accepting_laws.proofs.Demands.{AllAsk, more-first, own-words, asks-so}
use Rattle.accepting_laws.proofs.Turning.{OfSender, Sends, turns-send}
use Rattle.accepting_laws.proofs.Walking.{fewer-suggest}

-- ---- what a host gives

-- a command that asks for options asks for first ones
abbrev AsksSo : Policy → List Saying → Command → Type 0
AsksSo policy said c = (peer flags : ℕ) (options : List ℕ) → c.content ≡ configuration_request peer flags options → IsForFirst policy said peer flags options

given_first : (policy : Policy) (list : List Occurrence) (c : Command) → SuggestsNone (run_of policy list).said → next_given (run_of policy list).value ≡ Some (Signal c) → AsksSo policy (run_of policy list).said c
given_first policy list c none given peer flags options content = by run.value.queue refl given
  where
    run : Run
    run = run_of policy list

    whole : c ≡ record { identifier = c.identifier; content = configuration_request peer flags options }
    whole = ap (λ x. record { identifier = c.identifier; content = x }) content

    asked : (errand : Errand) (found : Option Command) → command_of errand run.value ≡ found → option_map Signal found ≡ Some (Signal c) → IsForFirst policy run.said peer flags options
    asked errand None at is = cc
    asked errand (Some d) at is =
        let same : d ≡ c = cc in
        words-errand run.value (AllAsk policy run.said) (own-words policy run.said run.value (all-sound policy list) (asks-so policy list none).0) errand c.identifier peer flags options
        (subst (λ (found : Option Command). StandsIn (spoken (record { identifier = c.identifier; content = configuration_request peer flags options })) (map spoken (option_to_list found))) (sym (at ∙ ap Some (same ∙ whole))) (inl refl))

    by : (queue : List Queued) → run.value.queue ≡ queue → queue_gives queue run.value ≡ Some (Signal c) → IsForFirst policy run.said peer flags options
    by [] at is = absurd (no_signal (find gives run.value.held) c is)
    by (Answer d ∷ behind) at is =
        let same : d ≡ c = cc in
        let stands = subst (StandsIn (Answer c)) (sym at) (inl (ap Answer same)) in
        let never : false ≡ true = sym (ap is_response content) ∙ answers-are_responses policy list c stands in absurd cc
    by (Ask errand ∷ behind) at is = asked errand (command_of errand run.value) refl is

-- ---- what is under way

-- of the talk of one host, and what is under way to the other
abbrev Good : Policy → OfSender
Good policy run peer = SuggestsNone run.said → (pdu : List ℕ) → StandsIn pdu peer.coming → (command : Command) → Brings pdu command → AsksSo policy run.said command

good-sends : (policy : Policy) → Sends policy (Good policy)
good-sends policy = record { occurs = occurs; gives = gives; less = λ list before after less good none pdu stands. good none pdu (less.coming pdu stands) }
  where
    occurs : (list : List Occurrence) (one : Occurrence) (peer : End) → Good policy (run_of policy list) peer → Good policy (run_of policy (list ++ one ∷ [])) peer
    occurs list one peer good none pdu stands command brings peer_of flags options content =
        let said : List Saying = (run_of policy list).said in
        let more : List Saying = said_in policy one (run_of policy list).value in
        let grown : (run_of policy (list ++ one ∷ [])).said ≡ said ++ more = ap (λ (r : Run). r.said) (fold-append (run_on policy) new_link list (one ∷ [])) in
        subst (λ s. IsForFirst policy s peer_of flags options) (sym grown) (more-first policy said more peer_of flags options (good (fewer-suggest said more (subst SuggestsNone grown none)) pdu stands command brings peer_of flags options content))

    brought : (list : List Occurrence) (given : Given) (pdu : List ℕ) → next_given (run_of policy list).value ≡ Some given → IsReadAs (Some given) pdu → SuggestsNone (run_of policy list).said → (command : Command) → Brings pdu command → AsksSo policy (run_of policy list).said command
    brought list (Whole peer sdu) pdu is reads none command brings = let never : true ≡ false = sym brings.0 ∙ reads in absurd cc
    brought list (Framed peer frame) pdu is reads none command brings = let never : true ≡ false = sym brings.0 ∙ reads in absurd cc
    brought list (Signal other) pdu is reads none command brings =
        let both : Ok other ∷ [] ≡ Ok command ∷ [] = sym reads ∙ brings.1 in
        let same : other ≡ command = cc in given_first policy list command none (is ∙ ap (λ c. Some (Signal c)) same)

    gives : (list : List Occurrence) (peer : End) (given : Given) (pdu : List ℕ) → next_given (run_of policy list).value ≡ Some given → IsReadAs (Some given) pdu → Good policy (run_of policy list) peer → Good policy (run_of policy list) (record peer { coming = peer.coming ++ pdu ∷ [] })
    gives list peer given pdu is reads good none other stands command brings = by (stands-either other peer.coming (pdu ∷ []) stands)
      where
        by : StandsIn other peer.coming ⊎ StandsIn other (pdu ∷ []) → AsksSo policy (run_of policy list).said command
        by (inl old) = good none other old command brings
        by (inr (inl same)) = brought list given pdu is reads none command (subst (λ p. Brings p command) (sym same) brings)
        by (inr (inr never)) = elim never [ ]

pub first-options_are_under_way : FirstOptionsAreUnderWay
first-options_are_under_way near far turns read side none pdu identifier peer flags options stands signals is =
    turns-send Good good-sends (λ policy other none pdu stands. elim stands [ ]) near far turns read side none pdu stands _ (signals, is) peer flags options refl
