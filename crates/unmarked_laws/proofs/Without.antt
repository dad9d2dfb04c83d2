-- Wherever a push ends that found no service the packets spell what they spelled before it was begun.
use Rattle.std.proofs.Common.{true, None, inl, inr, ◌≡◌, Bool, List, [], Some, refl, ap, ◌∙◌, append-nil}
use Rattle.tape_laws.specs.bt_base.specs.declared.settings.Transport.TheVariants.{L2cap}
use Rattle.tape_laws.specs.bt_base.specs.Objects.{Object}
use Rattle.tape_laws.specs.obex_session.specs.InboxCalls.{Answer}
use Rattle.tape_laws.specs.push_script.specs.declared.scenario.Scenario.{Scenario}
use Rattle.tape_laws.specs.push_terms.specs.declared.outcome.Outcome.{Outcome}
use Rattle.tape_laws.specs.push_terms.specs.declared.outcome.Outcome.TheVariants.{NoService}
use Rattle.tape_laws.specs.push_terms.specs.declared.word.Side.TheVariants as sides
use Rattle.tape_laws.specs.capture.specs.Entries.{Entry}
use Rattle.tape_laws.specs.capture.specs.Histories.{EachAfter}
use Rattle.tape_laws.specs.capture.specs.Links.{link_up}
use Rattle.tape_laws.specs.link_talk.specs.Captures.{objects_heard}
use Rattle.tape_laws.specs.push_model.specs.Client.{Client, own_maximum}
use Rattle.tape_laws.specs.push_laws.specs.Premises.{NoneShort}
use Rattle.tape_laws.specs.world_model.specs.Worlds.{Happening, Tries, Departure, GivingBack, Piecemeal, Answering, Turns, Misses, Opens, Closes, entries_of, all_entries, Does, Runs}
use Rattle.tape_laws.specs.scenario_laws.specs.Gains.{holding}
use Rattle.tape_laws.specs.scenario_laws.specs.Parties.{party_of}
use Rattle.tape_laws.specs.request_laws.proofs.Summing.{both_ask}
use Rattle.tape_laws.specs.Pairs.{TapedHosts}
use Rattle.tape_laws.specs.Runs.{untaped_world}
use Rattle.done_laws.specs.Storing.{before_begun}
use Rattle.done_laws.proofs.Along.{along}
use Rattle.done_laws.proofs.Growing.{one_more, none_more}
use Rattle.done_laws.proofs.Off.{CameTo, between_off, turned_off}
use Rattle.done_laws.proofs.Runs.{U, V, begins, bare_run, own_moment}
use Rattle.done_laws.proofs.Since.{had_links}
use Rattle.unmarked_laws.specs.Ends.{IsOverAt}
use Rattle.unmarked_laws.specs.Unspelled.{is_withheld, IsWithheld}
use Rattle.unmarked_laws.specs.Unserved.{SpellsNoMore, AtUnserved, OwnServersSpellNone}
use Rattle.unmarked_laws.proofs.Ends.{over_there}
use Rattle.unmarked_laws.proofs.LastHere.{LastHere, last_here}
use Rattle.unmarked_laws.proofs.Open.{withheld_gains_none}

module _ (scenario : Scenario) (shelf before : List Object) (answers : List Answer) (direct : scenario.settings.transport ≡ L2cap) (enough : NoneShort answers) where
  abbrev RunsOn : List Happening → TapedHosts Bool → TapedHosts Bool → Type 0
  RunsOn = Runs (U scenario shelf before answers) (V scenario shelf before answers)

  abbrev DoesNext : Happening → TapedHosts Bool → TapedHosts Bool → Type 0
  DoesNext = Does (U scenario shelf before answers) (V scenario shelf before answers)

  abbrev first : TapedHosts Bool
  first = begins scenario shelf before answers

  abbrev At : List Entry → Type 0
  At past = SpellsNoMore (party_of scenario.settings sides.B) past

  -- with the last link, on which the object of a push was withheld
  no_more : (done : List Happening) (world : TapedHosts Bool) → RunsOn done first world → world.radio.a.owed ≡ [] → world.radio.b.owed ≡ [] → (D : Client → Type 0) (client : Client) (last : LastHere D scenario.settings (all_entries done) client) → IsWithheld last.one → At (all_entries done)
  no_more done world runs none_a none_b D client last withheld =
      let settings = scenario.settings in
      let past = all_entries done in
      let party = party_of settings sides.B in
      let had = had_links scenario (holding before) done (untaped_world world) (bare_run scenario shelf before answers done world runs) none_a none_b in
      let none = (withheld_gains_none (own_maximum L2cap settings) last.one last.offered withheld).0 in
      elim had.links [
        | inl few ↦ none_more party sides.B past had.down few
        | inr one ↦ one_more party sides.B past last.ahead last.last [] had.down one last.talks_are (last.spelled ∙ none) ∙ append-nil (objects_heard party sides.B (before_begun past))
      ]

  spells_no_more : (done : List Happening) (world : TapedHosts Bool) → RunsOn done first world → world.radio.a.owed ≡ [] → world.radio.b.owed ≡ [] → world.a.upper.profile.client.cause ≡ Some NoService → At (all_entries done)
  spells_no_more done world runs none_a none_b cause =
      let settings = scenario.settings in
      let client = world.a.upper.profile.client in
      let D = CameTo NoService client.name in
      elim (last_here scenario shelf before answers enough direct D (between_off NoService refl client.name settings (both_ask.clients settings)) (turned_off NoService refl client.name settings) done world runs none_a none_b (cause, refl)) [
        | inl new ↦ absurd (let never : None ≡ Some NoService = new.1.0 in cc)
        | inr last ↦ no_more done world runs none_a none_b D client last (record { outcome = NoService; cause = last.so.0; withheld = refl })
      ]

  -- while the link is up
  linked_no_more : (done : List Happening) (world : TapedHosts Bool) → RunsOn done first world → (outcome : Outcome) → is_withheld outcome ≡ true → IsOverAt outcome (untaped_world world) → (link_up sides.B (all_entries done) ≡ None → ⊥) → At (all_entries done)
  linked_no_more done world runs outcome withheld over linked =
      let client = world.a.upper.profile.client in
      let D : Client → Type 0 = λ c. Unit {0} in
      elim (last_here scenario shelf before answers enough direct D (λ list feeds first' last' so deaf d. tt) (λ circumstances event v p d. tt) done world runs over.none_a over.none_b tt) [
        | inl new ↦ absurd (linked new.0)
        | inr last ↦ no_more done world runs over.none_a over.none_b D client last (record { outcome = outcome; cause = ap (λ (c : Client). c.cause) (last.up_so linked) ∙ over.cause; withheld = withheld })
      ]

  module _ (last : TapedHosts Bool) where
    one_without : (happening : Happening) (done rest : List Happening) (old new : TapedHosts Bool) → RunsOn done first old → DoesNext happening old new → RunsOn rest new last → EachAfter (AtUnserved At) (all_entries done) (entries_of happening)
    one_without (Tries side effort) done rest old new runs does later = tt
    one_without (Departure side order) done rest old new runs does later = (tt, tt)
    one_without (GivingBack side) done rest old new runs does later = tt
    one_without (Piecemeal side handle piece) done rest old new runs does later = (tt, tt)
    one_without (Answering side answer) done rest old new runs does later = (tt, tt)
    one_without (Turns ordinal word) done rest old new runs does later = (tt, tt)
    one_without (Misses word) done rest old new runs does later = tt
    one_without (Opens push name) done rest old new runs does later = (tt, tt)
    one_without (Closes push outcome) done rest old new runs (going, push_is, idle, is, apart, none_a, none_b, quiet_a, quiet_b, same) later =
        (λ unserved. spells_no_more done old runs none_a none_b (is ∙ ap (λ (o : Outcome). Some o) unserved), tt)

    all_without : (happenings : List Happening) → RunsOn happenings first last → EachAfter (AtUnserved At) [] (all_entries happenings)
    all_without happenings runs = along scenario shelf before answers (AtUnserved At) last one_without [] happenings first refl runs tt

pub own_servers_spell_none : OwnServersSpellNone
own_servers_spell_none scenario shelf before answers capture own direct enough =
    let now = own_moment scenario shelf before answers capture own direct enough in
    let there = now.there in
    record {
      moments = all_without scenario shelf before answers direct enough there own.happenings now.runs;
      now = λ over.
          let at = over_there NoService scenario before answers own.world (untaped_world there) now.alike over in
          spells_no_more scenario shelf before answers direct enough own.happenings there now.runs at.none_a at.none_b at.cause;
      linked = λ outcome withheld over up. linked_no_more scenario shelf before answers direct enough own.happenings there now.runs outcome withheld (over_there outcome scenario before answers own.world (untaped_world there) now.alike over) up;
    }
