-- Runs of the world, one after the other, and those of one push that begins or ends.
use Rattle.std.proofs.Common.{◌≡◌, ℕ, ◌+◌, ◌&&◌, Bool, true, false, List, [], ◌∷◌, ◌++◌, Option, refl, sym, ap, subst, ◌∙◌, append_assoc, arith}
use Rattle.std.proofs.lemmas.List.{append-nil}
use Rattle.std.proofs.lemmas.Grind.{flat_map-append}
use Rattle.bt_base.specs.Streams.{gained}
use Rattle.bt_base.proofs.PortLaws.{gained-nil}
use Rattle.push_terms.specs.declared.word.Side.TheVariants.{A, B}
use Rattle.push_terms.specs.declared.word.Word.{Word}
use Rattle.capture.specs.Entries.{Begun, Ended, entry_octets, capture_octets}
use Rattle.radio_model.specs.Controllers.{Controller, is_empty}
use Rattle.radio_model.specs.Radio.{is_idle}
use Rattle.room_laws.specs.world_model.specs.Machines.{Upper, Opening}
use Rattle.room_laws.specs.world_model.specs.Stations.{Station, told}
use Rattle.room_laws.specs.world_model.specs.Worlds.{Happening, Opens, Closes, entries_of, words_in, all_entries, all_words}
use Rattle.radio_world.specs.Hosts.{Asking, answering, JoinAnswers}
use Rattle.radio_world.specs.Leaving.{in_radio}
use Rattle.room_laws.specs.world_model.specs.Pushes.{Pushes}
use Rattle.radio_world.specs.Halves.{happenings_of}
use Rattle.radio_world.specs.Scenes.{Scene, Moment, world_at, Plays, Stage, stage, moment_of, Advances, Begins, Ends}
use Rattle.radio_world.specs.Counting.{one_if, GoesBy, AdvancesBy}
use Rattle.radio_world.proofs.Moving.{written_then}
use Rattle.radio_world.proofs.Entering.{tryings, tries, silent}
use Rattle.radio_world.proofs.Lifting.{plays_a, no_words, advances_a, advances_b}
use Rattle.radio_world.proofs.Spelled.{each_of_same, each_then}

pub plays_then : {S T G H : Type 0} (U : Upper S G) (V : Upper T H) (xs ys : List Happening) (old mid new : Moment S T) → Plays U V xs old mid → Plays U V ys mid new → Plays U V (xs ++ ys) old new
plays_then {S} {T} U V [] ys old mid new first second = subst (λ (m : Moment S T). Plays U V ys m new) first second
plays_then U V (x ∷ xs) ys old mid new first second = (first.0, first.1, plays_then U V xs ys first.0 mid new first.2 second)

pub advances_none : {S T G H P Q : Type 0} (U : Upper S G) (V : Upper T H) (RA : P → List G → P → Type 0) (RB : Q → List H → Q → Type 0) (at : Stage S T G H P Q) → JoinAnswers RA → JoinAnswers RB → Advances U V RA RB [] at at
advances_none U V RA RB at joins_a joins_b = record {
  happenings = [];
  words_are = refl;
  used_a = [];
  used_b = [];
  answered_a = joins_a.none at.shelf;
  answered_b = joins_b.none at.inbox;
  plays = λ rest_a rest_b. refl;
  written = sym (gained-nil at.trace);
  each = tt;
}

unfoldable pub advances_then :
    {S T G H P Q : Type 0} (U : Upper S G) (V : Upper T H) (RA : P → List G → P → Type 0) (RB : Q → List H → Q → Type 0) (ws vs : List Word) (old mid new : Stage S T G H P Q)
    → JoinAnswers RA → JoinAnswers RB → Advances U V RA RB ws old mid → Advances U V RA RB vs mid new → Advances U V RA RB (ws ++ vs) old new
advances_then {S} {T} {G} {H} U V RA RB ws vs old mid new joins_a joins_b one two = record {
  happenings = one.happenings ++ two.happenings;
  words_are = flat_map-append words_in one.happenings two.happenings ∙ ap (λ w. w ++ all_words two.happenings) one.words_are ∙ ap (λ w. ws ++ w) two.words_are;
  used_a = one.used_a ++ two.used_a;
  used_b = one.used_b ++ two.used_b;
  answered_a = joins_a.then old.shelf mid.shelf new.shelf one.used_a two.used_a one.answered_a two.answered_a;
  answered_b = joins_b.then old.inbox mid.inbox new.inbox one.used_b two.used_b one.answered_b two.answered_b;
  plays = λ rest_a rest_b.
      subst (λ (gs : List G). Plays U V (one.happenings ++ two.happenings) (moment_of old gs ((one.used_b ++ two.used_b) ++ rest_b)) (moment_of new rest_a rest_b)) (sym (append_assoc one.used_a two.used_a rest_a))
      (subst (λ (hs : List H). Plays U V (one.happenings ++ two.happenings) (moment_of old (one.used_a ++ (two.used_a ++ rest_a)) hs) (moment_of new rest_a rest_b)) (sym (append_assoc one.used_b two.used_b rest_b))
      (plays_then U V one.happenings two.happenings _ (moment_of mid (two.used_a ++ rest_a) (two.used_b ++ rest_b)) _ (one.plays (two.used_a ++ rest_a) (two.used_b ++ rest_b)) (two.plays rest_a rest_b)));
  written = written_then old.trace mid.trace new.trace (all_entries one.happenings) (all_entries two.happenings) _ (flat_map-append entries_of one.happenings two.happenings) one.written two.written;
  each = each_then (all_entries one.happenings) (all_entries two.happenings) _ (flat_map-append entries_of one.happenings two.happenings) one.each two.each;
}

-- ---- a push begins

pub begins_advances :
    {S T G H P Q : Type 0} (U : Upper S G) (V : Upper T H) (RA : P → List G → P → Type 0) (RB : Q → List H → Q → Type 0)
    (old new : Scene) (a a' : Asking S G) (b : Asking T H) (shelf shelf' : P) (inbox : Q) (trace trace' : Option (List ℕ)) → JoinAnswers RB
    → Begins U A RA old new a a' shelf shelf' trace trace' → Advances U V RA RB [] (stage old a b shelf inbox trace) (stage new a' b shelf' inbox trace')
begins_advances {S} {T} U V RA RB old new a a' b shelf shelf' inbox trace trace' joins begins =
    let reaction = begins.reacts in
    record {
      happenings = Opens (old.pushes.begun + 1) begins.name ∷ happenings_of A (tryings reaction.efforts);
      words_are = no_words A (tryings reaction.efforts);
      used_a = reaction.used;
      used_b = [];
      answered_a = reaction.answered;
      answered_b = joins.none inbox;
      plays = λ rest_a rest_b.
          let heard : Station S = told U (reaction.used ++ rest_a) (Opening begins.name) (answering (reaction.used ++ rest_a) a) in
          let mid : Moment S T = record { scene = new; a = heard; b = answering rest_b b } in (
            mid,
            record {
              does = (
                begins.idle (reaction.used ++ rest_a),
                begins.next,
                refl,
                reaction.used ++ rest_a,
                ap (λ (s : Scene). world_at {S = S} {T = T} (record { scene = s; a = heard; b = answering rest_b b })) begins.scene_is,
              );
              notes = ap (λ (s : Scene). s.medium) begins.scene_is ∙ ap (λ (s : Scene). in_radio s.medium.radio old.medium) (sym begins.scene_is);
            },
            plays_a U V (tryings reaction.efforts) (record { medium = new.medium; station = heard }) (record { medium = new.medium; station = answering rest_a a' }) (answering rest_b b) new.pushes new.turned
                (tries U A reaction.efforts new.medium heard (answering rest_a a') (reaction.reacts rest_a)),
          );
      written = begins.written ∙ ap (gained trace) (sym (append-nil (entry_octets (Begun (old.pushes.begun + 1)))))
          ∙ ap (λ es. gained trace (capture_octets (Begun (old.pushes.begun + 1) ∷ es))) (sym (silent A reaction.efforts));
      each = (begins.entry, each_of_same _ [] (silent A reaction.efforts) tt);
    }

-- ---- a push ends

pub and_first : (a b : Bool) → (a && b) ≡ true → a ≡ true
and_first true b is = refl
and_first false b is = cc

pub and_second : (a b : Bool) → (a && b) ≡ true → b ≡ true
and_second true b is = is
and_second false b is = cc

empty_is : {X : Type 0} (xs : List X) → is_empty xs ≡ true → xs ≡ []
empty_is [] is = refl
empty_is (x ∷ xs) is = absurd cc

pub idle_is : (c : Controller) → is_idle c ≡ true → (c.coming ≡ []) × (c.owed ≡ [])
idle_is c is = (empty_is c.coming (and_first (is_empty c.coming) (is_empty c.owed) is), empty_is c.owed (and_second (is_empty c.coming) (is_empty c.owed) is))

pub ends_advances :
    {S T G H P Q : Type 0} (U : Upper S G) (V : Upper T H) (RA : P → List G → P → Type 0) (RB : Q → List H → Q → Type 0)
    (old new : Scene) (a : Asking S G) (b : Asking T H) (shelf : P) (inbox : Q) (trace trace' : Option (List ℕ)) → JoinAnswers RA → JoinAnswers RB
    → Ends U old new a trace trace' → Advances U V RA RB [] (stage old a b shelf inbox trace) (stage new a b shelf inbox trace')
ends_advances {S} {T} U V RA RB old new a b shelf inbox trace trace' joins_a joins_b ends =
    let radio = old.medium.radio in
    let idle_a = idle_is radio.a (and_first (is_idle radio.a) (is_idle radio.b) ends.quiet) in
    let idle_b = idle_is radio.b (and_second (is_idle radio.a) (is_idle radio.b) ends.quiet) in
    record {
      happenings = Closes old.pushes.begun ends.outcome ∷ [];
      words_are = refl;
      used_a = [];
      used_b = [];
      answered_a = joins_a.none shelf;
      answered_b = joins_b.none inbox;
      plays = λ rest_a rest_b.
          let mid : Moment S T = record { scene = new; a = answering rest_a a; b = answering rest_b b } in (
            mid,
            record {
              does = (
                ends.going,
                refl,
                ends.idle rest_a,
                ends.came rest_a,
                ends.apart,
                idle_a.1,
                idle_b.1,
                idle_a.0,
                idle_b.0,
                ap (λ (s : Scene). world_at {S = S} {T = T} (record { scene = s; a = answering rest_a a; b = answering rest_b b })) ends.scene_is,
              );
              notes = ap (λ (s : Scene). s.medium) ends.scene_is ∙ ap (λ (s : Scene). in_radio s.medium.radio old.medium) (sym ends.scene_is);
            },
            refl,
          );
      written = ends.written ∙ ap (gained trace) (sym (append-nil (entry_octets (Ended old.pushes.begun ends.outcome))));
      each = (ends.entry, tt);
    }

-- ---- a round

stage_is :
    {S T G H P Q : Type 0} (old new : Scene) (a a' : Asking S G) (b : Asking T H) (shelf shelf' : P) (inbox : Q) (trace trace' : Option (List ℕ)) → new ≡ old → a' ≡ a → shelf' ≡ shelf → trace' ≡ trace
    → stage old a b shelf inbox trace ≡ stage new a' b shelf' inbox trace'
stage_is {S} {T} {G} {H} {P} old new a a' b shelf shelf' inbox trace trace' scene host port written =
    ap (λ (s : Scene). stage s a b shelf inbox trace) (sym scene) ∙ ap (λ (h : Asking S G). stage new h b shelf inbox trace) (sym host)
    ∙ ap (λ (p : P). stage new a' b p inbox trace) (sym port) ∙ ap (λ (t : Option (List ℕ)). stage new a' b shelf' inbox t) (sym written)

pub begun_or_not :
    {S T G H P Q : Type 0} (U : Upper S G) (V : Upper T H) (RA : P → List G → P → Type 0) (RB : Q → List H → Q → Type 0) (began : Bool)
    (old new : Scene) (a a' : Asking S G) (b : Asking T H) (shelf shelf' : P) (inbox : Q) (trace trace' : Option (List ℕ)) → JoinAnswers RA → JoinAnswers RB
    → (began ≡ true → Begins U A RA old new a a' shelf shelf' trace trace') → (began ≡ false → (new ≡ old) × (a' ≡ a) × (shelf' ≡ shelf) × (trace' ≡ trace))
    → AdvancesBy (one_if began) U V RA RB [] (stage old a b shelf inbox trace) (stage new a' b shelf' inbox trace')
unfolding begins_advances
begun_or_not U V RA RB true old new a a' b shelf shelf' inbox trace trace' joins_a joins_b begins none = record { advances = begins_advances U V RA RB old new a a' b shelf shelf' inbox trace trace' joins_b (begins refl); many = omega arith }
begun_or_not {S} {T} {G} {H} {P} {Q} U V RA RB false old new a a' b shelf shelf' inbox trace trace' joins_a joins_b begins none =
    let same = none refl in
    subst (λ (s : Stage S T G H P Q). AdvancesBy 0 U V RA RB [] (stage old a b shelf inbox trace) s) (stage_is old new a a' b shelf shelf' inbox trace trace' same.0 same.1 same.2 same.3)
    (record { advances = advances_none U V RA RB (stage old a b shelf inbox trace) joins_a joins_b; many = omega arith })

pub ended_or_not :
    {S T G H P Q : Type 0} (U : Upper S G) (V : Upper T H) (RA : P → List G → P → Type 0) (RB : Q → List H → Q → Type 0) (ended : Bool)
    (old new : Scene) (a : Asking S G) (b : Asking T H) (shelf : P) (inbox : Q) (trace trace' : Option (List ℕ)) → JoinAnswers RA → JoinAnswers RB
    → (ended ≡ true → Ends U old new a trace trace') → (ended ≡ false → (new ≡ old) × (trace' ≡ trace))
    → AdvancesBy (one_if ended) U V RA RB [] (stage old a b shelf inbox trace) (stage new a b shelf inbox trace')
unfolding ends_advances
ended_or_not U V RA RB true old new a b shelf inbox trace trace' joins_a joins_b ends none = record { advances = ends_advances U V RA RB old new a b shelf inbox trace trace' joins_a joins_b (ends refl); many = omega arith }
ended_or_not {S} {T} {G} {H} {P} {Q} U V RA RB false old new a b shelf inbox trace trace' joins_a joins_b ends none =
    let same = none refl in
    subst (λ (s : Stage S T G H P Q). AdvancesBy 0 U V RA RB [] (stage old a b shelf inbox trace) s) (stage_is old new a a b shelf shelf inbox trace trace' same.0 refl refl same.1)
    (record { advances = advances_none U V RA RB (stage old a b shelf inbox trace) joins_a joins_b; many = omega arith })

scene_is : (old new : Scene) → (new.pushes ≡ old.pushes) × (new.turned ≡ old.turned) → record { medium = new.medium; pushes = old.pushes; turned = old.turned } ≡ new
scene_is old new same =
    ap (λ (p : Pushes). record { medium = new.medium; pushes = p; turned = old.turned }) (sym same.0) ∙ ap (λ (n : ℕ). record { medium = new.medium; pushes = new.pushes; turned = n }) (sym same.1)

pub exchanged_a :
    {S T G H P Q : Type 0} (count : ℕ) (U : Upper S G) (V : Upper T H) (RA : P → List G → P → Type 0) (RB : Q → List H → Q → Type 0)
    (old new : Scene) (a a' : Asking S G) (b : Asking T H) (shelf shelf' : P) (inbox : Q) (trace trace' : Option (List ℕ)) → JoinAnswers RB → (new.pushes ≡ old.pushes) × (new.turned ≡ old.turned)
    → GoesBy count U A RA old.medium new.medium a a' shelf shelf' trace trace' → AdvancesBy count U V RA RB [] (stage old a b shelf inbox trace) (stage new a' b shelf' inbox trace')
unfolding advances_a
exchanged_a count U V RA RB old new a a' b shelf shelf' inbox trace trace' joins same goes =
    subst (λ (s : Scene). AdvancesBy count U V RA RB [] (stage old a b shelf inbox trace) (stage s a' b shelf' inbox trace')) (scene_is old new same)
    (record { advances = advances_a U V RA RB old.medium new.medium old.pushes old.turned a a' b shelf shelf' inbox trace trace' joins goes.goes; many = goes.many })

pub exchanged_b :
    {S T G H P Q : Type 0} (count : ℕ) (U : Upper S G) (V : Upper T H) (RA : P → List G → P → Type 0) (RB : Q → List H → Q → Type 0)
    (old new : Scene) (a : Asking S G) (b b' : Asking T H) (shelf : P) (inbox inbox' : Q) (trace trace' : Option (List ℕ)) → JoinAnswers RA → (new.pushes ≡ old.pushes) × (new.turned ≡ old.turned)
    → GoesBy count V B RB old.medium new.medium b b' inbox inbox' trace trace' → AdvancesBy count U V RA RB [] (stage old a b shelf inbox trace) (stage new a b' shelf inbox' trace')
unfolding advances_b
exchanged_b count U V RA RB old new a b b' shelf inbox inbox' trace trace' joins same goes =
    subst (λ (s : Scene). AdvancesBy count U V RA RB [] (stage old a b shelf inbox trace) (stage s a b' shelf inbox' trace')) (scene_is old new same)
    (record { advances = advances_b U V RA RB old.medium new.medium old.pushes old.turned a b b' shelf inbox inbox' trace trace' joins goes.goes; many = goes.many })
