-- Of what the packets of a run spell one list of marks tells what the inbox gains, and that of each push that is done is marked.
use Rattle.std.proofs.Common.{inl, inr, ◌≡◌, ℕ, Bool, true, false, List, [], ◌∷◌, ◌++◌, length, Some, refl, sym, ap, subst, ◌∙◌, append_assoc, append-nil}
use Rattle.std.specs.Prelude.{get_or}
use Rattle.std.proofs.lemmas.List.{append_cancel_left, same_from_push}
use Rattle.cause_laws.specs.FirstCauses.{since_begun, HasCause}
use Rattle.cause_laws.proofs.Clients.{lame_behind}
use Rattle.tape_laws.specs.bt_base.specs.declared.settings.Settings.{Settings}
use Rattle.tape_laws.specs.bt_base.specs.declared.settings.Transport.TheVariants.{L2cap}
use Rattle.tape_laws.specs.bt_base.specs.Objects.{Object, octets_of}
use Rattle.tape_laws.specs.obex_session.specs.InboxCalls.{Answer}
use Rattle.tape_laws.specs.obex_session.specs.PutPackets.{units_in}
use Rattle.tape_laws.specs.push_script.specs.declared.scenario.Scenario.{Scenario}
use Rattle.tape_laws.specs.push_terms.specs.declared.outcome.Outcome.{Outcome}
use Rattle.tape_laws.specs.push_terms.specs.declared.outcome.Outcome.TheVariants.{Done}
use Rattle.tape_laws.specs.push_terms.specs.declared.word.Side.TheVariants as sides
use Rattle.tape_laws.specs.capture.specs.Entries.{Entry}
use Rattle.tape_laws.specs.capture.specs.Histories.{EachAfter}
use Rattle.tape_laws.specs.link_talk.specs.Captures.{objects_heard}
use Rattle.tape_laws.specs.world_model.specs.Worlds.{Happening, Tries, Departure, GivingBack, Piecemeal, Answering, Turns, Misses, Opens, Closes, entries_of, all_entries, Does, Runs}
use Rattle.tape_laws.specs.push_laws.specs.Gains.{objects}
use Rattle.tape_laws.specs.push_laws.specs.Occurrences.{Occurrence}
use Rattle.tape_laws.specs.push_model.specs.Client.{Client}
use Rattle.tape_laws.specs.push_model.specs.Laws.{Deed}
use Rattle.tape_laws.specs.push_laws.specs.Parties.{client_side, Push}
use Rattle.tape_laws.specs.push_laws.specs.Spelled.{ArePushed, name_by}
use Rattle.tape_laws.specs.push_laws.specs.Premises.{NoneShort}
use Rattle.tape_laws.specs.scenario_laws.specs.Captures.{BothHosts}
use Rattle.tape_laws.specs.scenario_laws.specs.Parties.{party_of}
use Rattle.tape_laws.specs.host_model.specs.Clients.{ClientProfile, client_profile}
use Rattle.tape_laws.specs.host_model.specs.Hosts.{Host}
use Rattle.tape_laws.specs.host_laws.specs.Feeds.{Feed, Gifts, Learns, Receives, Happens, Sent, Steps, fed}
use Rattle.tape_laws.specs.host_laws.specs.Pushing.{pushed_with}
use Rattle.tape_laws.specs.host_laws.proofs.Pushing.{feed_so}
use Rattle.tape_laws.specs.inbox_laws.proofs.Keeping.{KeepsSo}
use Rattle.tape_laws.specs.shelf_model.specs.Held.{held_by}
use Rattle.tape_laws.specs.Pairs.{TapedHosts}
use Rattle.tape_laws.specs.Runs.{untaped_world}
use Rattle.done_laws.specs.Kept.{KeepsLast}
use Rattle.done_laws.specs.Runs.{IsDoneAt}
use Rattle.done_laws.specs.Storing.{kept_of, before_begun, StoresOneMore, AtShown, SpellsNamed, OwnServersStoreDone}
use Rattle.done_laws.proofs.Along.{done_at, more_spelled, along}
use Rattle.done_laws.proofs.Fronts.{KeepsFronts, keeps_fronts, marked_at}
use Rattle.done_laws.proofs.Keeping.{runs_keep_near}
use Rattle.done_laws.proofs.Runs.{U, V, begins, served_by, moment, served_more, stored_so, plainly, own_moment}

-- the last object of a front that was gained with it is marked
last_marked : (settings : Settings) (before : List Object) (push : Push) (front more occurrences : List Occurrence) → occurrences ≡ front ++ more → (all : KeepsFronts settings before occurrences) (last : KeepsLast settings before push front)
    → get_or all.kept (length (objects settings last.front)) false ≡ true
last_marked settings before push front more occurrences is all last =
    let kept = all.kept in
    let here = objects settings last.front in
    let ahead : occurrences ≡ last.front ++ (last.since ++ more) = is ∙ (ap (λ (os : List Occurrence). os ++ more) last.parts ∙ append_assoc last.front last.since more) in
    let earlier : kept_of kept here ≡ last.gain = same_gain (kept_of kept here) last.gain (sym (all.so last.front (last.since ++ more) ahead) ∙ last.held) in
    let now : kept_of kept (objects settings front) ≡ last.gain ++ last.object ∷ [] = same_gain (kept_of kept (objects settings front)) (last.gain ++ last.object ∷ []) (sym (all.so front more is) ∙ last.stored) in
    marked_at kept here last.object (ap (kept_of kept) (sym last.spelled) ∙ (now ∙ ap (λ (os : List Object). os ++ last.object ∷ []) (sym earlier)))
  where
    same_some : (xs ys : List Object) → Some xs ≡ Some ys → xs ≡ ys
    same_some xs ys same = cc

    same_gain : (xs ys : List Object) → Some (before ++ xs) ≡ Some (before ++ ys) → xs ≡ ys
    same_gain xs ys same = append_cancel_left before xs ys (same_some (before ++ xs) (before ++ ys) same)

module _ (scenario : Scenario) (shelf before : List Object) (answers : List Answer) (direct : scenario.settings.transport ≡ L2cap) (enough : NoneShort answers) (last : TapedHosts Bool) (all : KeepsFronts scenario.settings before (served_by scenario shelf before answers last)) where
  abbrev RunsOn : List Happening → TapedHosts Bool → TapedHosts Bool → Type 0
  RunsOn = Runs (U scenario shelf before answers) (V scenario shelf before answers)

  abbrev first : TapedHosts Bool
  first = begins scenario shelf before answers

  stores : (done rest : List Happening) (world : TapedHosts Bool) → RunsOn done first world → RunsOn rest world last → IsDoneAt (untaped_world world) → HasCause Done (since_begun (all_entries done)) → StoresOneMore (party_of scenario.settings sides.B) all.kept (all_entries done)
  stores done rest world runs later at why =
      let settings = scenario.settings in
      let past = all_entries done in
      let reading = moment scenario shelf before answers enough direct past done [] world runs tt (sym (append-nil past)) in
      let more = more_spelled scenario shelf before answers done world runs at (reading.link at) why in
      let one = reading.last at in
      let grown = served_more scenario shelf before answers rest world last later in
      let marked = last_marked settings before one.one (served_by scenario shelf before answers world) grown.0 (served_by scenario shelf before answers last) grown.1 all one.keeps in
      let earlier = objects_heard (party_of settings sides.B) sides.B (before_begun past) in
      let same = same_from_push (objects settings one.keeps.front) earlier one.keeps.object more.object (sym one.keeps.spelled ∙ (reading.spells ∙ more.spelled)) in
      record { object = more.object; spelled = more.spelled; is_kept = subst (λ (os : List Object). get_or all.kept (length os) false ≡ true) same.0 marked }

-- ---- under its name

-- an object alone that was pushed is the shelf's under that name
pushed_alone : (shelf : List Object) (name : List ℕ) (side : List Deed) (object : Object) → ArePushed shelf (name_by side name) (object ∷ []) → (octets : List ℕ) × (octets_of name shelf ≡ Some octets) × (object ≡ record { name = units_in name; octets = octets })
pushed_alone shelf name [] object none = cc
pushed_alone shelf name (deed ∷ side) object (here, rest, is, inl nothing, none) = let never : object ∷ [] ≡ [] = is ∙ (ap (λ (os : List Object). os ++ rest) nothing ∙ none) in cc
pushed_alone shelf name (deed ∷ side) object (here, rest, is, inr (octets, held, one), none) =
    let same : object ∷ [] ≡ record { name = units_in name; octets = octets } ∷ [] = is ∙ (ap (λ (os : List Object). here ++ os) none ∙ (append-nil here ∙ one)) in
    let alone : object ≡ record { name = units_in name; octets = octets } = cc in
    (octets, held, alone)

lame_stays : (settings : Settings) → KeepsSo (client_profile settings) (λ (p : ClientProfile). p.client.failed ≡ true)
lame_stays settings = record {
  given = λ circumstances p lame. fed_lame settings p (Gifts circumstances) lame;
  told = λ circumstances news p lame. fed_lame settings p (Learns circumstances news) lame;
  received = λ own psm sdu p lame. fed_lame settings p (Receives own psm sdu) lame;
  happened = λ event v p lame. fed_lame settings p (Happens event v) lame;
  sent = λ v p lame. fed_lame settings p (Sent v) lame;
  steps = λ v p lame. fed_lame settings p (Steps v) lame;
}
  where
    fed_lame : (settings : Settings) (p : ClientProfile) (feed : Feed) → p.client.failed ≡ true → (fed (client_profile settings) p feed).client.failed ≡ true
    fed_lame settings p feed lame = ap (λ (c : Client). c.failed) (feed_so settings p feed) ∙ lame_behind (pushed_with p feed) p.client lame

able_before : (old new : Bool) → (old ≡ true → new ≡ true) → new ≡ false → old ≡ false
able_before true new goes able = let never : true ≡ false = sym (goes refl) ∙ able in cc
able_before false new goes able = refl

module _ (scenario : Scenario) (shelf before : List Object) (answers : List Answer) (direct : scenario.settings.transport ≡ L2cap) (enough : NoneShort answers) (last : TapedHosts Bool) (able : last.a.upper.profile.client.failed ≡ false) where
  names : (done rest : List Happening) (world : TapedHosts Bool) → Runs (U scenario shelf before answers) (V scenario shelf before answers) done (begins scenario shelf before answers) world → Runs (U scenario shelf before answers) (V scenario shelf before answers) rest world last
      → IsDoneAt (untaped_world world) → HasCause Done (since_begun (all_entries done)) → SpellsNamed scenario shelf world.pushes.begun (all_entries done)
  names done rest world runs later at why =
      let settings = scenario.settings in
      let past = all_entries done in
      let able_now = able_before world.a.upper.profile.client.failed last.a.upper.profile.client.failed
      (λ lame. runs_keep_near (client_profile settings) (λ (p : ClientProfile). p.client.failed ≡ true) (lame_stays settings) (held_by (Some shelf)) (V scenario shelf before answers) rest world last later lame) able in
      let reading = moment scenario shelf before answers enough direct past done [] world runs tt (sym (append-nil past)) in
      let more = more_spelled scenario shelf before answers done world runs at (reading.link at) why in
      let one = reading.last at in
      let earlier = objects_heard (party_of settings sides.B) sides.B (before_begun past) in
      let same = same_from_push (objects settings one.keeps.front) earlier one.keeps.object more.object (sym one.keeps.spelled ∙ (reading.spells ∙ more.spelled)) in
      let (octets, held, object_is) = pushed_alone shelf one.one.name (client_side one.one.moves) one.keeps.object (one.keeps.once shelf one.of_shelf) in
      record {
        name = one.one.name;
        name_is = reading.name_is at able_now ∙ ap (λ (n : List ℕ). Some n) (sym one.named);
        octets = octets;
        held = held;
        spelled = more.spelled ∙ ap (λ (o : Object). earlier ++ o ∷ []) (sym same.1 ∙ object_is);
      }

-- ---- wherever a push ends that is done

module _ (scenario : Scenario) (shelf before : List Object) (answers : List Answer) (last : TapedHosts Bool) (So : ℕ → List Entry → Type 0) where
  abbrev RunsSo : List Happening → TapedHosts Bool → TapedHosts Bool → Type 0
  RunsSo = Runs (U scenario shelf before answers) (V scenario shelf before answers)

  abbrev start : TapedHosts Bool
  start = begins scenario shelf before answers

  module _ (so : (done rest : List Happening) (world : TapedHosts Bool) → RunsSo done start world → RunsSo rest world last → IsDoneAt (untaped_world world) → HasCause Done (since_begun (all_entries done)) → So world.pushes.begun (all_entries done)) where
    one_shown : (happening : Happening) (done rest : List Happening) (old new : TapedHosts Bool) → RunsSo done start old → Does (U scenario shelf before answers) (V scenario shelf before answers) happening old new → RunsSo rest new last
        → EachAfter (AtShown scenario.settings So) (all_entries done) (entries_of happening)
    one_shown (Tries side effort) done rest old new runs does later = tt
    one_shown (Departure side order) done rest old new runs does later = (λ why. tt, tt)
    one_shown (GivingBack side) done rest old new runs does later = tt
    one_shown (Piecemeal side handle piece) done rest old new runs does later = (λ why. tt, tt)
    one_shown (Answering side answer) done rest old new runs does later = (λ why. tt, tt)
    one_shown (Turns ordinal word) done rest old new runs does later = (λ why. tt, tt)
    one_shown (Misses word) done rest old new runs does later = tt
    one_shown (Opens push name) done rest old new runs does later = (λ why. tt, tt)
    one_shown (Closes push outcome) done rest old new runs does later = (
      λ why is.
          subst (λ (n : ℕ). So n (all_entries done)) (sym does.1)
          (so done (Closes push outcome ∷ rest) old runs (new, does, later) (done_at scenario shelf before answers old new push outcome does is) (subst (λ (o : Outcome). HasCause o (since_begun (all_entries done))) is why.cause)),
      tt,
    )

    all_shown : (happenings : List Happening) → RunsSo happenings start last → EachAfter (AtShown scenario.settings So) [] (all_entries happenings)
    all_shown happenings runs = along scenario shelf before answers (AtShown scenario.settings So) last one_shown [] happenings start refl runs tt

pub own_servers_store_done : OwnServersStoreDone
own_servers_store_done scenario shelf before answers capture own direct enough =
    let settings = scenario.settings in
    let now = own_moment scenario shelf before answers capture own direct enough in
    let there = now.there in
    let reading = now.reading in
    let served = served_by scenario shelf before answers there in
    let all = keeps_fronts settings before served reading.serve reading.tells in
    let able_there : own.world.a.upper.profile.client.failed ≡ false → there.a.upper.profile.client.failed ≡ false = λ able. ap (λ (h : Host ClientProfile). h.profile.client.failed) now.alike.a ∙ able in
    record {
      kept = all.kept;
      gained = stored_so scenario before answers own.world.b.upper (untaped_world there).b.upper now.alike.b
          ∙ (reading.holds ∙ (all.so served [] (sym (append-nil served)) ∙ ap (λ (os : List Object). Some (before ++ kept_of all.kept os)) reading.spells));
      moments = all_shown scenario shelf before answers there (λ push past. StoresOneMore (party_of settings sides.B) all.kept past) (stores scenario shelf before answers direct enough there all) own.happenings now.runs;
      now = λ at why. stores scenario shelf before answers direct enough there all own.happenings [] there now.runs refl (plainly scenario before answers own.world (untaped_world there) now.alike at) why;
      named = λ able. all_shown scenario shelf before answers there (SpellsNamed scenario shelf) (names scenario shelf before answers direct enough there (able_there able)) own.happenings now.runs;
      named_now = λ able at why.
          subst (λ (n : ℕ). SpellsNamed scenario shelf n (all_entries own.happenings)) (ap (λ (w : BothHosts). w.pushes.begun) now.alike.same)
          (names scenario shelf before answers direct enough there (able_there able) own.happenings [] there now.runs refl (plainly scenario before answers own.world (untaped_world there) now.alike at) why);
    }
