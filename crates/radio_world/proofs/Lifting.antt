-- What happens between one host and the radio is a run of the world.
use Rattle.std.proofs.Common.{◌≡◌, ℕ, List, [], ◌∷◌, ◌++◌, Option, refl, sym, ap, ◌∙◌}
use Rattle.push_terms.specs.declared.word.Side.{Side}
use Rattle.push_terms.specs.declared.word.Side.TheVariants.{A, B}
use Rattle.room_laws.specs.world_model.specs.Machines.{Upper}
use Rattle.room_laws.specs.world_model.specs.Pushes.{Pushes}
use Rattle.room_laws.specs.world_model.specs.Stations.{Station}
use Rattle.room_laws.specs.world_model.specs.Worlds.{words_in, all_words}
use Rattle.radio_world.specs.Hosts.{Asking, answering, Part, Told}
use Rattle.radio_world.specs.Leaving.{Medium, in_radio}
use Rattle.radio_world.specs.Halves.{Half, Motion, Trying, Leaving, Returning, Entering, happening_of, happenings_of, Makes, MakesAll, half_of, Goes}
use Rattle.radio_world.specs.Scenes.{Moment, world_at, noted_of, Happens, Plays, stage, Advances}
use Rattle.radio_world.specs.Hosts.{JoinAnswers}

-- a half beside the other host
abbrev pub with_a : {S T : Type 0} → Half S → Station T → Pushes → ℕ → Moment S T
with_a half b pushes turned = record { scene = record { medium = half.medium; pushes = pushes; turned = turned }; a = half.station; b = b }

abbrev pub with_b : {S T : Type 0} → Half T → Station S → Pushes → ℕ → Moment S T
with_b half a pushes turned = record { scene = record { medium = half.medium; pushes = pushes; turned = turned }; a = a; b = half.station }

happens_a :
    {S T G H : Type 0} (U : Upper S G) (V : Upper T H) (motion : Motion) (old new : Half S) (b : Station T) (pushes : Pushes) (turned : ℕ) → Makes U A motion old new
    → Happens U V (happening_of A motion) (with_a old b pushes turned) (with_a new b pushes turned)
happens_a {S} {T} U V (Trying effort) old new b pushes turned made =
    let is = made.2 in
    record { does = (made.0, made.1, ap (λ (h : Half S). world_at (with_a h b pushes turned)) is); notes = ap (λ (h : Half S). h.medium) is ∙ ap (λ (h : Half S). in_radio h.medium.radio old.medium) (sym is) }
happens_a {S} {T} U V (Leaving order) old new b pushes turned made =
    let is = made.2 in
    record {
      does = (made.0, made.1, ap (λ (h : Half S). world_at (with_a h b pushes turned)) is);
      notes = ap (λ (h : Half S). h.medium) is ∙ ap (λ (h : Half S). noted_of (happening_of A (Leaving order)) (in_radio h.medium.radio old.medium)) (sym is);
    }
happens_a {S} {T} U V Returning old new b pushes turned made =
    record { does = ap (λ (h : Half S). world_at (with_a h b pushes turned)) made; notes = ap (λ (h : Half S). h.medium) made ∙ ap (λ (h : Half S). in_radio h.medium.radio old.medium) (sym made) }
happens_a {S} {T} U V (Entering (Part handle piece)) old new b pushes turned made =
    let is = made.2 in let first = made.0 in
    record {
      does = (first.0, first.1, first.2, made.1, ap (λ (h : Half S). world_at (with_a h b pushes turned)) is);
      notes = ap (λ (h : Half S). h.medium) is ∙ ap (λ (h : Half S). in_radio h.medium.radio old.medium) (sym is);
    }
happens_a {S} {T} U V (Entering (Told answer)) old new b pushes turned made =
    let is = made.2 in let first = made.0 in
    record {
      does = (first.0, first.1, first.2, made.1, ap (λ (h : Half S). world_at (with_a h b pushes turned)) is);
      notes = ap (λ (h : Half S). h.medium) is ∙ ap (λ (h : Half S). in_radio h.medium.radio old.medium) (sym is);
    }

happens_b :
    {S T G H : Type 0} (U : Upper S G) (V : Upper T H) (motion : Motion) (old new : Half T) (a : Station S) (pushes : Pushes) (turned : ℕ) → Makes V B motion old new
    → Happens U V (happening_of B motion) (with_b old a pushes turned) (with_b new a pushes turned)
happens_b {S} {T} U V (Trying effort) old new a pushes turned made =
    let is = made.2 in
    record { does = (made.0, made.1, ap (λ (h : Half T). world_at (with_b h a pushes turned)) is); notes = ap (λ (h : Half T). h.medium) is ∙ ap (λ (h : Half T). in_radio h.medium.radio old.medium) (sym is) }
happens_b {S} {T} U V (Leaving order) old new a pushes turned made =
    let is = made.2 in
    record {
      does = (made.0, made.1, ap (λ (h : Half T). world_at (with_b h a pushes turned)) is);
      notes = ap (λ (h : Half T). h.medium) is ∙ ap (λ (h : Half T). noted_of (happening_of B (Leaving order)) (in_radio h.medium.radio old.medium)) (sym is);
    }
happens_b {S} {T} U V Returning old new a pushes turned made =
    record { does = ap (λ (h : Half T). world_at (with_b h a pushes turned)) made; notes = ap (λ (h : Half T). h.medium) made ∙ ap (λ (h : Half T). in_radio h.medium.radio old.medium) (sym made) }
happens_b {S} {T} U V (Entering (Part handle piece)) old new a pushes turned made =
    let is = made.2 in let first = made.0 in
    record {
      does = (first.0, first.1, first.2, made.1, ap (λ (h : Half T). world_at (with_b h a pushes turned)) is);
      notes = ap (λ (h : Half T). h.medium) is ∙ ap (λ (h : Half T). in_radio h.medium.radio old.medium) (sym is);
    }
happens_b {S} {T} U V (Entering (Told answer)) old new a pushes turned made =
    let is = made.2 in let first = made.0 in
    record {
      does = (first.0, first.1, first.2, made.1, ap (λ (h : Half T). world_at (with_b h a pushes turned)) is);
      notes = ap (λ (h : Half T). h.medium) is ∙ ap (λ (h : Half T). in_radio h.medium.radio old.medium) (sym is);
    }

pub plays_a :
    {S T G H : Type 0} (U : Upper S G) (V : Upper T H) (motions : List Motion) (old new : Half S) (b : Station T) (pushes : Pushes) (turned : ℕ) → MakesAll U A motions old new
    → Plays U V (happenings_of A motions) (with_a old b pushes turned) (with_a new b pushes turned)
plays_a {S} U V [] old new b pushes turned made = ap (λ (h : Half S). with_a h b pushes turned) made
plays_a U V (motion ∷ motions) old new b pushes turned made =
    (with_a made.0 b pushes turned, happens_a U V motion old made.0 b pushes turned made.1, plays_a U V motions made.0 new b pushes turned made.2)

pub plays_b :
    {S T G H : Type 0} (U : Upper S G) (V : Upper T H) (motions : List Motion) (old new : Half T) (a : Station S) (pushes : Pushes) (turned : ℕ) → MakesAll V B motions old new
    → Plays U V (happenings_of B motions) (with_b old a pushes turned) (with_b new a pushes turned)
plays_b {T = T} U V [] old new a pushes turned made = ap (λ (h : Half T). with_b h a pushes turned) made
plays_b U V (motion ∷ motions) old new a pushes turned made =
    (with_b made.0 a pushes turned, happens_b U V motion old made.0 a pushes turned made.1, plays_b U V motions made.0 new a pushes turned made.2)

-- no word is turned
no_word : (side : Side) (motion : Motion) → words_in (happening_of side motion) ≡ []
no_word side (Trying effort) = refl
no_word side (Leaving order) = refl
no_word side Returning = refl
no_word side (Entering (Part handle piece)) = refl
no_word side (Entering (Told answer)) = refl

pub no_words : (side : Side) (motions : List Motion) → all_words (happenings_of side motions) ≡ []
no_words side [] = refl
no_words side (motion ∷ motions) = ap (λ ws. ws ++ all_words (happenings_of side motions)) (no_word side motion) ∙ no_words side motions

unfoldable pub advances_a :
    {S T G H P Q : Type 0} (U : Upper S G) (V : Upper T H) (RA : P → List G → P → Type 0) (RB : Q → List H → Q → Type 0)
    (medium medium' : Medium) (pushes : Pushes) (turned : ℕ) (a a' : Asking S G) (b : Asking T H) (shelf shelf' : P) (inbox : Q) (trace trace' : Option (List ℕ)) → JoinAnswers RB
    → Goes U A RA medium medium' a a' shelf shelf' trace trace'
    → Advances U V RA RB [] (stage (record { medium = medium; pushes = pushes; turned = turned }) a b shelf inbox trace) (stage (record { medium = medium'; pushes = pushes; turned = turned }) a' b shelf' inbox trace')
advances_a U V RA RB medium medium' pushes turned a a' b shelf shelf' inbox trace trace' joins goes = record {
  happenings = happenings_of A goes.motions;
  words_are = no_words A goes.motions;
  used_a = goes.used;
  used_b = [];
  answered_a = goes.answered;
  answered_b = joins.none inbox;
  plays = λ rest_a rest_b. plays_a U V goes.motions (half_of medium a (goes.used ++ rest_a)) (half_of medium' a' rest_a) (answering rest_b b) pushes turned (goes.makes rest_a);
  written = goes.written;
  each = goes.each;
}

unfoldable pub advances_b :
    {S T G H P Q : Type 0} (U : Upper S G) (V : Upper T H) (RA : P → List G → P → Type 0) (RB : Q → List H → Q → Type 0)
    (medium medium' : Medium) (pushes : Pushes) (turned : ℕ) (a : Asking S G) (b b' : Asking T H) (shelf : P) (inbox inbox' : Q) (trace trace' : Option (List ℕ)) → JoinAnswers RA
    → Goes V B RB medium medium' b b' inbox inbox' trace trace'
    → Advances U V RA RB [] (stage (record { medium = medium; pushes = pushes; turned = turned }) a b shelf inbox trace) (stage (record { medium = medium'; pushes = pushes; turned = turned }) a b' shelf inbox' trace')
advances_b U V RA RB medium medium' pushes turned a b b' shelf inbox inbox' trace trace' joins goes = record {
  happenings = happenings_of B goes.motions;
  words_are = no_words B goes.motions;
  used_a = [];
  used_b = goes.used;
  answered_a = joins.none shelf;
  answered_b = goes.answered;
  plays = λ rest_a rest_b. plays_b U V goes.motions (half_of medium b (goes.used ++ rest_b)) (half_of medium' b' rest_b) (answering rest_a a) pushes turned (goes.makes rest_b);
  written = goes.written;
  each = goes.each;
}
