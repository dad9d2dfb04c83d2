-- A timer that fires for a request finds a try left while few words are adverse.
use Rattle.std.proofs.Common.{◌≡◌, ◌≤◌, List, [], ◌∷◌, ◌++◌, map, Option, refl, ap, ◌∙◌, arith, append_assoc}
use Rattle.pair_laws.specs.bt_base.specs.Objects.{Contents}
use Rattle.pair_laws.specs.push_script.specs.declared.scenario.Scenario.{Scenario}
use Rattle.cause_laws.specs.push_terms.specs.declared.word.Side.TheVariants.{A, B}
use Rattle.cause_laws.specs.radio_model.specs.declared.deed.Deed.{Deed}
use Rattle.cause_laws.specs.radio_model.specs.declared.deed.Deed.TheVariants as deeds
use Rattle.cause_laws.specs.radio_model.specs.Radio.{found, is_together}
use Rattle.cause_laws.specs.push_model.specs.Client.{Client}
use Rattle.cause_laws.specs.world_model.specs.Worlds.{Happening, Turns, all_words}
use Rattle.cause_laws.specs.scenario_laws.specs.Captures.{client_of, server_of, beginning, Happened}
use Rattle.pair_laws.specs.Costs.{adverse_in}
use Rattle.pair_laws.proofs.Meeting.{deed_cost, word-cost}
use Rattle.search_laws.specs.Searches.{QuietIsPaid, FiresNear, FiringsLeaveTries}
use Rattle.search_laws.proofs.Deeds.{IsPaid, one_more_pays}
use Rattle.pair_laws.specs.Enough.{remembered}
use Rattle.pair_laws.proofs.Answered.{runs-so}
use Rattle.pair_laws.proofs.Paired.{as_it_is}
use Rattle.search_laws.proofs.Tries.{tries-stay}
use Rattle.search_laws.proofs.Worlds.{words_more, both_empty, all_paid}

quiet_front : (scenario : Scenario) (content : Option Contents) (done : List Happening) (happening : Happening) → QuietIsPaid scenario content (done ++ happening ∷ []) → QuietIsPaid scenario content done
quiet_front scenario content done happening quiet front later world is =
    quiet front (later ++ happening ∷ []) world (ap (λ (l : List Happening). l ++ happening ∷ []) is ∙ append_assoc front later (happening ∷ []))

pub firings-leave_tries : FiringsLeaveTries
firings-leave_tries scenario content done ordinal word world next happened (rest, is_word, ordinal_is, mid, acts, is) fires quiet few awaits = by (found word world.radio) refl fires
  where
    client : Client
    client = world.a.upper.profile.client

    before : QuietIsPaid scenario content done
    before = quiet_front scenario content done (Turns ordinal word) quiet

    came : Happened scenario content done world
    came = runs-so (client_of scenario) (server_of scenario content) as_it_is (λ news answers. map remembered answers) done (beginning scenario content) world happened

    paid : IsPaid (adverse_in (all_words done)) world.a.upper.profile.client
    paid = all_paid scenario content done [] done (beginning scenario content) world refl before refl happened tt

    by : (deed : Deed) → found word world.radio ≡ deed → FiresNear deed → 1 ≤ world.a.upper.profile.client.left
    by (deeds.Fires A) is' near =
        let more = words_more done (Turns ordinal word) in
        let cost = word-cost word world.radio.served world.radio.a.waiting world.radio.b.waiting (is_together world.radio.phase) in
        let one = ap deed_cost is' in
        let same = tries-stay scenario content done world came in
        let most = one_more_pays (adverse_in (all_words done)) world.a.upper.profile.client paid awaits in
        let fewer = few in
        omega (arith, more, cost, one, same, most, fewer)
    by deeds.FiresBoth is' near =
        let more = words_more done (Turns ordinal word) in
        let same = tries-stay scenario content done world came in
        let none = both_empty scenario content word world.radio is_word is' in
        let most = quiet done (Turns ordinal word ∷ []) world refl happened rest none.0 none.1 awaits in
        let fewer = few in
        omega (arith, more, same, most, fewer)
    by deeds.Nothing is' near = absurd near
    by (deeds.Meets way fate) is' near = absurd near
    by (deeds.Fires B) is' near = absurd near
    by deeds.Breaks is' near = absurd near
    by deeds.Cancels is' near = absurd near
