-- A push has an outcome exactly where one thing that happened since it began shows that, ahead of which it had none.
use Rattle.std.proofs.Common.{◌≡◌, ◌⊎◌, Bool, true, false, List, [], ◌∷◌, ◌++◌, Option, Some, None, Result, Ok, Err, ℕ, refl, sym, ap, subst, ◌∙◌, append_assoc, inl, inr}
use Rattle.std.proofs.lemmas.List.Concat.{flat_map-append}
use Rattle.outcome_laws.specs.cause_laws.specs.bt_base.specs.declared.ports.PortFault.{PortFault}
use Rattle.outcome_laws.specs.cause_laws.specs.bt_base.specs.declared.ports.PortFault.TheVariants as fault
use Rattle.outcome_laws.specs.cause_laws.specs.bt_base.specs.declared.settings.Settings.{Settings}
use Rattle.outcome_laws.specs.cause_laws.specs.push_terms.specs.declared.outcome.Outcome.{Outcome}
use Rattle.outcome_laws.specs.cause_laws.specs.push_terms.specs.declared.outcome.Outcome.TheVariants.{ShelfFault}
use Rattle.outcome_laws.specs.cause_laws.specs.push_terms.specs.declared.word.Side.TheVariants.{A}
use Rattle.outcome_laws.specs.unit_laws.specs.scenario_laws.specs.capture.specs.Moves.{Move}
use Rattle.outcome_laws.specs.unit_laws.specs.scenario_laws.specs.host_link.specs.declared.role.Role.TheVariants.{Client as Paging}
use Rattle.outcome_laws.specs.cause_laws.specs.world_model.specs.Machines.{Opening}
use Rattle.outcome_laws.specs.cause_laws.specs.host_model.specs.Clients.{client_profile}
use Rattle.outcome_laws.specs.cause_laws.specs.host_model.specs.Machines.{upper}
use Rattle.outcome_laws.specs.cause_laws.specs.host_model.specs.Shelves.{size_for}
use Rattle.outcome_laws.specs.cause_laws.proofs.Clients.{is_shelf}
use Rattle.outcome_laws.specs.cause_laws.proofs.Profiles.{well_before}
use Rattle.outcome_laws.specs.unit_laws.specs.Units.{Learns, units_of, units, starting, lone_capture, ComesInTurn, Happens, Runs}
use Rattle.outcome_laws.specs.unit_laws.specs.Living.{Did, HaveCommands}
use Rattle.outcome_laws.specs.unit_laws.proofs.Doing.{runs_then}
use Rattle.outcome_laws.specs.BroughtAbout.{is_begin}
use Rattle.outcome_laws.specs.FirstCause.{begun_cause}
use Rattle.outcome_laws.specs.SaidWith.{BeginsNone}
use Rattle.outcome_laws.proofs.Bringing.{run_lame, one_lame}
use Rattle.outcome_laws.proofs.Growing.{have_before}
use Rattle.outcome_laws.proofs.Saying.{anyway}
use Rattle.coming_laws.specs.ComingAbout.{ShowsIt, CameAbout, OutcomesComeAbout}
use Rattle.coming_laws.proofs.Adding.{One, At, one_told, stays_with}
use Rattle.coming_laws.proofs.Placing.{IsKnown, known, begun_so}
use Rattle.coming_laws.proofs.Showing.{shows_it, shelf_shows_it, it_comes, shows_calm}

never : {X : Type 0} → false ≡ true → X
never is = absurd cc

shelf_is : (outcome : Outcome) → is_shelf outcome ≡ true → outcome ≡ ShelfFault
shelf_is ShelfFault is = refl
shelf_is outcome is = cc

module _ (settings : Settings) where
  abbrev Then : List One → At → At → Type 0
  Then list old new = Runs (upper (client_profile settings)) (ComesInTurn (upper (client_profile settings))) list old new

  abbrev cause_at : At → Option Outcome
  cause_at now = now.upper.profile.client.cause

  abbrev failed_at : At → Bool
  failed_at now = now.upper.profile.client.failed

  earlier_well : (list : List One) (old new : At) → Runs (upper (client_profile settings)) (ComesInTurn (upper (client_profile settings))) list old new → failed_at new ≡ false → failed_at old ≡ false
  earlier_well list old new runs well = well_before settings (failed_at old) (failed_at new) (run_lame settings list old new (anyway settings list old new runs)) well

  known_at : (list : List One) (now : At) → Did (client_profile settings) Paging list now → failed_at now ≡ false → IsKnown settings list now
  known_at list now did well = known settings list now (anyway settings list (starting (upper (client_profile settings)) Paging) now did) well

  front_have : (one two : List One) → HaveCommands A (lone_capture A (units (one ++ two))) → HaveCommands A (lone_capture A (units one))
  front_have one two have = have_before (units one) (units two) (subst (λ (l : List Move). HaveCommands A (lone_capture A l)) (flat_map-append units_of one two) have)

  -- ---- it stays

  stays_on : (list : List One) (old new : At) (outcome : Outcome) → Runs (upper (client_profile settings)) (ComesInTurn (upper (client_profile settings))) list old new → BeginsNone list → old.upper.channels.events ≡ [] → cause_at old ≡ Some outcome → cause_at new ≡ Some outcome
  stays_on [] old new outcome is none told so = ap cause_at is ∙ so
  stays_on (one ∷ list) old new outcome (mid, turn, happens, rest) none told so =
      stays_on list mid new outcome rest none.1 (one_told settings one old mid happens told) (stays_with settings one old mid happens none.0 told outcome so)

  -- ---- it came about

  -- with what shows it
  comes_so : (before : List One) (one : One) (mid next : At) (outcome : Outcome) → Did (client_profile settings) Paging before mid → HaveCommands A (lone_capture A (units before)) → IsKnown settings before mid → Happens (upper (client_profile settings)) one mid next → failed_at mid ≡ false
      → failed_at next ≡ false → (is_begin one ≡ true) ⊎ (cause_at mid ≡ None) → ShowsIt settings outcome before one mid → cause_at next ≡ Some outcome
  comes_so before one mid next outcome did have knows happens well after free shows = by (is_begin one) refl free
    where
      begun : (one' : One) → one ≡ one' → is_begin one' ≡ true → (shelf : Bool) → is_shelf outcome ≡ shelf → cause_at next ≡ Some outcome
      begun one' same begins false apart = never (sym (shows_calm settings outcome before one' mid apart (subst (λ (o : One). ShowsIt settings outcome before o mid) same shows)) ∙ begins)
      begun (Learns gifts (Opening name)) same begins true is =
          let fails : ShowsIt settings ShelfFault before (Learns gifts (Opening name)) mid = subst (λ (o : Outcome). ShowsIt settings o before (Learns gifts (Opening name)) mid) (shelf_is outcome is) (subst (λ (o : One). ShowsIt settings outcome before o mid) same shows) in
          begun_so settings (Learns gifts (Opening name)) mid next (subst (λ (o : One). Happens (upper (client_profile settings)) o mid next) same happens) refl knows.told well after
          ∙ (ap (λ (size : Result ℕ PortFault). begun_cause size None) fails ∙ ap (λ (o : Outcome). Some o) (sym (shelf_is outcome is)))
      begun one' same begins true is = cc

      by : (begins : Bool) → is_begin one ≡ begins → (is_begin one ≡ true) ⊎ (cause_at mid ≡ None) → cause_at next ≡ Some outcome
      by true begins still_free = begun one refl begins (is_shelf outcome) refl
      by false calm (inl begins) = never (sym calm ∙ begins)
      by false calm (inr none) = it_comes settings before mid did have knows none one next happens calm outcome shows

  came_so : (occasions : List One) (now : At) (outcome : Outcome) → HaveCommands A (lone_capture A (units occasions)) → failed_at now ≡ false → CameAbout settings outcome occasions now → cause_at now ≡ Some outcome
  came_so occasions now outcome have well about =
      let (next, turn, happens, rest) = about.goes in
      let next_well = earlier_well about.after next now rest well in
      let mid_well = earlier_well (about.one ∷ about.after) about.mid now about.goes well in
      let knows = known_at about.before about.mid about.did mid_well in
      let here = front_have about.before (about.one ∷ about.after) (subst (λ (l : List One). HaveCommands A (lone_capture A (units l))) about.occasions_are have) in
      let now_so = comes_so about.before about.one about.mid next outcome about.did here knows happens mid_well next_well about.free about.shows in
      stays_on about.after next now outcome rest about.none_begun (one_told settings about.one about.mid next happens knows.told) now_so

  -- ---- where it came about

  -- a push that begins has none but the shelf's fault
  begins_shows : (before : List One) (one : One) (old new : At) (outcome : Outcome) → Happens (upper (client_profile settings)) one old new → is_begin one ≡ true → old.upper.channels.events ≡ [] → failed_at old ≡ false → failed_at new ≡ false → cause_at new ≡ Some outcome → ShowsIt settings outcome before one old
  begins_shows before (Learns gifts (Opening name)) old new outcome happens begins told well after so = by (size_for gifts name) refl (sym (begun_so settings (Learns gifts (Opening name)) old new happens refl told well after) ∙ so)
    where
      by : (size : Result ℕ PortFault) → size_for gifts name ≡ size → begun_cause size None ≡ Some outcome → ShowsIt settings outcome before (Learns gifts (Opening name)) old
      by (Ok size) is shown = cc
      by (Err fault.Failed) is shown = let same : ShelfFault ≡ outcome = cc in subst (λ (o : Outcome). ShowsIt settings o before (Learns gifts (Opening name)) old) same is
      by (Err fault.NoMemory) is shown = cc
  begins_shows before one old new outcome happens begins told well after so = cc

  -- and anything else that it shows
  one_shows : (before : List One) (one : One) (old new : At) (outcome : Outcome) → Did (client_profile settings) Paging before old → HaveCommands A (lone_capture A (units before)) → IsKnown settings before old → cause_at old ≡ None → ComesInTurn (upper (client_profile settings)) one old
      → Happens (upper (client_profile settings)) one old new → is_begin one ≡ false → cause_at new ≡ Some outcome → ShowsIt settings outcome before one old
  one_shows before one old new outcome did have knows none turn happens calm so = by (is_shelf outcome) refl
    where
      by : (shelf : Bool) → is_shelf outcome ≡ shelf → ShowsIt settings outcome before one old
      by true is =
          let same = shelf_is outcome is in
          subst (λ (o : Outcome). ShowsIt settings o before one old) (sym same) (shelf_shows_it settings before old did have knows none one new happens calm (so ∙ ap (λ (o : Outcome). Some o) same))
      by false apart = shows_it settings before old did have knows none one new turn happens calm outcome apart so

  abbrev Found : List One → List One → At → At → Outcome → Type 0
  Found done list old new outcome = ((cause_at old ≡ Some outcome) × BeginsNone list) ⊎ CameAbout settings outcome (done ++ list) new

  with_one : (done list : List One) (one : One) (old mid new : At) (outcome : Outcome) → Did (client_profile settings) Paging done old → ComesInTurn (upper (client_profile settings)) one old → Happens (upper (client_profile settings)) one old mid
      → Runs (upper (client_profile settings)) (ComesInTurn (upper (client_profile settings))) list mid new → HaveCommands A (lone_capture A (units done)) → failed_at mid ≡ false → BeginsNone list → cause_at mid ≡ Some outcome
      → Found done (one ∷ list) old new outcome
  with_one done list one old mid new outcome did turn happens rest have well none so = by (is_begin one) refl
    where
      old_well : failed_at old ≡ false
      old_well = well_before settings (failed_at old) (failed_at mid) (one_lame settings one old mid happens) well

      knows : IsKnown settings done old
      knows = known_at done old did old_well

      about : (is_begin one ≡ true) ⊎ (cause_at old ≡ None) → ShowsIt settings outcome done one old → Found done (one ∷ list) old new outcome
      about free shows = inr (record {
        before = done;
        one = one;
        after = list;
        occasions_are = refl;
        none_begun = none;
        mid = old;
        did = did;
        goes = (mid, turn, happens, rest);
        free = free;
        shows = shows;
      })

      on : is_begin one ≡ false → (cause : Option Outcome) → cause_at old ≡ cause → Found done (one ∷ list) old new outcome
      on calm None is = about (inr is) (one_shows done one old mid outcome did have knows is turn happens calm so)
      on calm (Some other) is =
          let same : Some other ≡ Some outcome = sym (stays_with settings one old mid happens calm knows.told other is) ∙ so in
          inl (is ∙ same, (calm, none))

      by : (begins : Bool) → is_begin one ≡ begins → Found done (one ∷ list) old new outcome
      by true begins = about (inl begins) (begins_shows done one old mid outcome happens begins knows.told old_well well so)
      by false calm = on calm (cause_at old) refl

  found : (done list : List One) (old new : At) (outcome : Outcome) → Did (client_profile settings) Paging done old → Runs (upper (client_profile settings)) (ComesInTurn (upper (client_profile settings))) list old new → HaveCommands A (lone_capture A (units (done ++ list))) → failed_at new ≡ false
      → cause_at new ≡ Some outcome → Found done list old new outcome
  found done [] old new outcome did is have well so = inl (ap (λ (s : At). cause_at s) (sym is) ∙ so, tt)
  found done (one ∷ list) old new outcome did (mid, turn, happens, rest) have well so =
      let U = upper (client_profile settings) in
      let later : (done ++ one ∷ []) ++ list ≡ done ++ one ∷ list = append_assoc done (one ∷ []) list in
      let did_mid = runs_then U (ComesInTurn U) done (one ∷ []) (starting U Paging) old mid did (mid, turn, happens, refl) in
      let mid_well = earlier_well list mid new rest well in
      elim (found (done ++ one ∷ []) list mid new outcome did_mid rest (subst (λ (l : List One). HaveCommands A (lone_capture A (units l))) (sym later) have) well so) [
        | inl here ↦ with_one done list one old mid new outcome did turn happens rest (front_have done (one ∷ list) have) mid_well here.1 here.0
        | inr about ↦ inr (subst (λ (l : List One). CameAbout settings outcome l new) later about)
      ]

pub outcomes_come_about : OutcomesComeAbout
outcomes_come_about settings occasions now did have well outcome = (
  λ so.
      elim (found settings [] occasions (starting (upper (client_profile settings)) Paging) now outcome refl did have well so) [
        | inl here ↦ (let no : None ≡ Some outcome = here.0 in absurd cc)
        | inr about ↦ about
      ],
  λ about. came_so settings occasions now outcome have well about,
)
