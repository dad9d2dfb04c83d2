-- Runs that broke off.
use Rattle.std.proofs.Common.{◌≡◌, ◌⊎◌, List, [], ◌∷◌, ◌++◌, inl, inr, refl, sym, ap, subst, ◌∙◌}
use Rattle.std.proofs.lemmas.Grind.{flat_map-append}
use Rattle.std.proofs.lemmas.List.{append-nil}
use Rattle.station_laws.specs.push_terms.specs.declared.word.Side.TheVariants.{A, B}
use Rattle.station_laws.specs.push_terms.specs.declared.word.Way.TheVariants.{Ab, Ba}
use Rattle.station_laws.specs.capture.specs.Entries.{Entry}
use Rattle.station_laws.specs.radio_model.specs.declared.deed.Deed.{Deed}
use Rattle.station_laws.specs.radio_model.specs.declared.deed.Deed.TheVariants.{Nothing, Meets, Fires, FiresBoth, Breaks, Cancels}
use Rattle.station_laws.specs.radio_model.specs.Radio.{found}
use Rattle.station_laws.specs.world_model.specs.Machines.{Upper}
use Rattle.station_laws.specs.world_model.specs.Worlds.{World, Happening, Tries, Departure, GivingBack, Piecemeal, Answering, Turns, Misses, Opens, Closes, Acts, Does, Runs, one_turned, entries_of, all_entries, first_world}
use Rattle.run_laws.specs.Breaking.{MayAct, IsWritten, WrittenIsHappened, FrontsAreRuns}

-- ---- what was written happens

acts_then : {S T G H : Type 0} (U : Upper S G) (V : Upper T H) (deed : Deed) (w : World S T) → MayAct U V deed w → (mid : World S T) × Acts U V deed w mid
acts_then U V Nothing w may = absurd may
acts_then U V (Meets Ab fate) w may = (_, refl)
acts_then U V (Meets Ba fate) w may = (_, refl)
acts_then U V (Fires A) w may = (_, (may, [], refl))
acts_then U V (Fires B) w may = (_, (may, [], refl))
acts_then U V FiresBoth w may = (_, (may, [], [], refl))
acts_then U V Breaks w may = (_, refl)
acts_then U V Cancels w may = (_, (may, [], refl))

does_then : {S T G H : Type 0} (U : Upper S G) (V : Upper T H) (next : Happening) (w : World S T) → IsWritten U V next w → (new : World S T) × Does U V next w new
does_then U V (Tries side effort) w may = absurd may
does_then U V (Departure A order) w (rest, first) = (_, (rest, first, refl))
does_then U V (Departure B order) w (rest, first) = (_, (rest, first, refl))
does_then U V (GivingBack side) w may = absurd may
does_then U V (Piecemeal A handle piece) w (rest, first, is) = (_, (rest, first, is, [], refl))
does_then U V (Piecemeal B handle piece) w (rest, first, is) = (_, (rest, first, is, [], refl))
does_then U V (Answering A answer) w (rest, none, first) = (_, (rest, none, first, [], refl))
does_then U V (Answering B answer) w (rest, none, first) = (_, (rest, none, first, [], refl))
does_then U V (Turns ordinal word) w (rest, is, count, may) = let acts = acts_then U V (found word w.radio) w may in (one_turned acts.0, (rest, is, count, acts.0, acts.1, refl))
does_then U V (Misses word) w may = absurd may
does_then U V (Opens push name) w (idle, next, is) = (_, (idle, next, is, [], refl))
does_then U V (Closes push outcome) w may = absurd may

runs_more : {S T G H : Type 0} (U : Upper S G) (V : Upper T H) (happenings : List Happening) (next : Happening) (old mid new : World S T) → Runs U V happenings old mid → Does U V next mid new → Runs U V (happenings ++ next ∷ []) old new
runs_more {S} {T} U V [] next old mid new same does = (new, subst (λ (w : World S T). Does U V next w new) same does, refl)
runs_more U V (happening ∷ happenings) next old mid new (one, first, runs) does = (one, first, runs_more U V happenings next one mid new runs does)

pub written_is_happened : {S T G H : Type 0} (U : Upper S G) (V : Upper T H) → WrittenIsHappened U V
written_is_happened U V size count names happenings w next runs may =
    let there = does_then U V next w may in
    record {
      new = there.0;
      does = there.1;
      runs = runs_more U V happenings next (first_world U V size count names) w there.0 runs there.1;
      captured = flat_map-append entries_of happenings (next ∷ []) ∙ ap (λ (es : List Entry). all_entries happenings ++ es) (append-nil (entries_of next));
    }

-- ---- a front of a capture

-- a stretch with this capture
record Stretch {S T G H : Type 0} (U : Upper S G) (V : Upper T H) (old : World S T) (past : List Entry) : Type 0 where
  happenings : List Happening
  world : World S T
  runs : Runs U V happenings old world
  captured : all_entries happenings ≡ past

none_of : {S T G H : Type 0} (U : Upper S G) (V : Upper T H) (old : World S T) → Stretch U V old []
none_of U V old = record { happenings = []; world = old; runs = refl; captured = refl }

one_of : {S T G H : Type 0} (U : Upper S G) (V : Upper T H) (happening : Happening) (old mid : World S T) (entries past : List Entry) → entries_of happening ≡ entries → Does U V happening old mid → Stretch U V mid past → Stretch U V old (entries ++ past)
one_of U V happening old mid entries past is does stretch = record {
  happenings = happening ∷ stretch.happenings;
  world = stretch.world;
  runs = (mid, does, stretch.runs);
  captured = ap (λ (es : List Entry). es ++ all_entries stretch.happenings) is ∙ ap (λ (es : List Entry). entries ++ es) stretch.captured;
}

-- a happening has one entry at most
one_at_most : (happening : Happening) → (entries_of happening ≡ []) ⊎ ((entry : Entry) × (entries_of happening ≡ entry ∷ []))
one_at_most (Tries side effort) = inl refl
one_at_most (Departure side order) = inr (_, refl)
one_at_most (GivingBack side) = inl refl
one_at_most (Piecemeal side handle piece) = inr (_, refl)
one_at_most (Answering side answer) = inr (_, refl)
one_at_most (Turns ordinal word) = inr (_, refl)
one_at_most (Misses word) = inl refl
one_at_most (Opens push name) = inr (_, refl)
one_at_most (Closes push outcome) = inr (_, refl)

none_left : (past rest : List Entry) → [] ≡ past ++ rest → past ≡ []
none_left [] rest is = refl
none_left (entry ∷ past) rest is = cc

front_with :
    {S T G H : Type 0} (U : Upper S G) (V : Upper T H) (happening : Happening) (entry : Entry) (more past rest : List Entry) (old mid : World S T) → entries_of happening ≡ entry ∷ [] → Does U V happening old mid
    → ((later : List Entry) → more ≡ later ++ rest → Stretch U V mid later) → entry ∷ more ≡ past ++ rest → Stretch U V old past
front_with U V happening entry more [] rest old mid is does later same = none_of U V old
front_with U V happening entry more (first ∷ past) rest old mid is does later same =
    let heads : entry ≡ first = cc in
    let tails : more ≡ past ++ rest = cc in
    subst (λ (e : Entry). Stretch U V old (e ∷ past)) heads (one_of U V happening old mid (entry ∷ []) past is does (later past tails))

fronts : {S T G H : Type 0} (U : Upper S G) (V : Upper T H) (happenings : List Happening) (old w : World S T) (past rest : List Entry) → Runs U V happenings old w → all_entries happenings ≡ past ++ rest → Stretch U V old past
fronts U V [] old w past rest runs same = subst (λ (es : List Entry). Stretch U V old es) (sym (none_left past rest same)) (none_of U V old)
fronts U V (happening ∷ happenings) old w past rest (mid, does, runs) same =
    elim (one_at_most happening) [
      | inl none ↦
          one_of U V happening old mid [] past none does
          (fronts U V happenings mid w past rest runs (ap (λ (es : List Entry). es ++ all_entries happenings) (sym none) ∙ same))
      | inr one ↦
          front_with U V happening one.0 (all_entries happenings) past rest old mid one.1 does (λ later is. fronts U V happenings mid w later rest runs is)
          (ap (λ (es : List Entry). es ++ all_entries happenings) (sym one.1) ∙ same)
    ]

pub fronts_are_runs : {S T G H : Type 0} (U : Upper S G) (V : Upper T H) → FrontsAreRuns U V
fronts_are_runs U V size count names happenings w past runs front =
    let stretch = fronts U V happenings (first_world U V size count names) w past front.0 runs front.1 in
    record { happenings = stretch.happenings; world = stretch.world; runs = stretch.runs; captured = stretch.captured }
