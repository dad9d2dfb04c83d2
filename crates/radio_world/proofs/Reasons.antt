-- Why a world wants memory, behind what happened before.
use Rattle.std.proofs.Common.{◌≡◌, ℕ, ◌+◌, List, [], ◌∷◌, ◌++◌, length, Option, sym, ap, ◌∙◌, append_assoc, arith, length-append}
use Rattle.push_terms.specs.declared.word.Side.TheVariants.{A, B}
use Rattle.push_terms.specs.declared.word.Way.TheVariants.{Ab, Ba}
use Rattle.push_terms.specs.declared.word.Word.{Word}
use Rattle.radio_model.specs.declared.deed.Deed.{Deed}
use Rattle.radio_model.specs.declared.deed.Deed.TheVariants.{Nothing, Meets, Fires, FiresBoth, Breaks, Cancels}
use Rattle.radio_model.specs.Radio.{found}
use Rattle.room_laws.specs.world_model.specs.Machines.{Upper}
use Rattle.room_laws.specs.world_model.specs.Worlds.{World, Happening, Tries, Departure, GivingBack, Piecemeal, Answering, Turns, Misses, Opens, Closes, words_in, all_words, Acts, Does}
use Rattle.radio_world.specs.Hosts.{JoinAnswers}
use Rattle.radio_world.specs.Scenes.{Moment, world_at, Plays, Stage, moment_of, Advances}
use Rattle.radio_world.specs.Shortages.{Wants, ShelfLacked, InboxLacked, AirCrowded, WordsFull}
use Rattle.radio_world.proofs.Advancing.{advances_then}

-- ---- how many words were turned

acts_turn : {S T G H : Type 0} (U : Upper S G) (V : Upper T H) (deed : Deed) (old mid : World S T) → Acts U V deed old mid → mid.turned ≡ old.turned
acts_turn {S} {T} U V Nothing old mid acts = absurd acts
acts_turn {S} {T} U V (Meets Ab fate) old mid acts = ap (λ (w : World S T). w.turned) acts
acts_turn {S} {T} U V (Meets Ba fate) old mid acts = ap (λ (w : World S T). w.turned) acts
acts_turn {S} {T} U V (Fires A) old mid (armed, g, same) = ap (λ (w : World S T). w.turned) same
acts_turn {S} {T} U V (Fires B) old mid (armed, h, same) = ap (λ (w : World S T). w.turned) same
acts_turn {S} {T} U V FiresBoth old mid (armed, g, h, same) = ap (λ (w : World S T). w.turned) same
acts_turn {S} {T} U V Breaks old mid acts = ap (λ (w : World S T). w.turned) acts
acts_turn {S} {T} U V Cancels old mid (may, g, same) = ap (λ (w : World S T). w.turned) same

does_turn : {S T G H : Type 0} (U : Upper S G) (V : Upper T H) (happening : Happening) (old new : World S T) → Does U V happening old new → new.turned ≡ old.turned + length (words_in happening)
does_turn {S} {T} U V (Tries A effort) old new (station, makes, same) = let now = ap (λ (w : World S T). w.turned) same in omega arith
does_turn {S} {T} U V (Tries B effort) old new (station, makes, same) = let now = ap (λ (w : World S T). w.turned) same in omega arith
does_turn {S} {T} U V (Departure A order) old new (rest, first, same) = let now = ap (λ (w : World S T). w.turned) same in omega arith
does_turn {S} {T} U V (Departure B order) old new (rest, first, same) = let now = ap (λ (w : World S T). w.turned) same in omega arith
does_turn {S} {T} U V (GivingBack side) old new same = let now = ap (λ (w : World S T). w.turned) same in omega arith
does_turn {S} {T} U V (Piecemeal A handle piece) old new (rest, first, here, g, same) = let now = ap (λ (w : World S T). w.turned) same in omega arith
does_turn {S} {T} U V (Piecemeal B handle piece) old new (rest, first, here, h, same) = let now = ap (λ (w : World S T). w.turned) same in omega arith
does_turn {S} {T} U V (Answering A answer) old new (rest, none, first, g, same) = let now = ap (λ (w : World S T). w.turned) same in omega arith
does_turn {S} {T} U V (Answering B answer) old new (rest, none, first, h, same) = let now = ap (λ (w : World S T). w.turned) same in omega arith
does_turn {S} {T} U V (Turns ordinal word) old new (rest, is_word, ordinal_is, mid, acts, same) =
    let now = ap (λ (w : World S T). w.turned) same in let before = acts_turn U V (found word old.radio) old mid acts in omega arith
does_turn {S} {T} U V (Misses word) old new (rest, nothing, same) = let now = ap (λ (w : World S T). w.turned) same in omega arith
does_turn {S} {T} U V (Opens push name) old new (idle, next, push_is, g, same) = let now = ap (λ (w : World S T). w.turned) same in omega arith
does_turn {S} {T} U V (Closes push outcome) old new (going, push_is, idle, came, apart, none_a, none_b, quiet_a, quiet_b, same) = let now = ap (λ (w : World S T). w.turned) same in omega arith

plays_turn : {S T G H : Type 0} (U : Upper S G) (V : Upper T H) (happenings : List Happening) (old new : Moment S T) → Plays U V happenings old new → new.scene.turned ≡ old.scene.turned + length (all_words happenings)
plays_turn {S} {T} U V [] old new same = let now = ap (λ (m : Moment S T). m.scene.turned) same in omega arith
plays_turn U V (happening ∷ happenings) old new (mid, happens, plays) =
    let first = does_turn U V happening (world_at old) (world_at mid) happens.does in
    let more = plays_turn U V happenings mid new plays in
    let both = length-append (words_in happening) (all_words happenings) in
    omega arith

-- ---- behind what happened before

module _ {S T G H P Q : Type 0} (U : Upper S G) (V : Upper T H) (RA : P → List G → P → Type 0) (RB : Q → List H → Q → Type 0) (LA : P → P → Type 0) (LB : Q → Q → Type 0) where
  advances_turn : (words : List Word) (old new : Stage S T G H P Q) → Advances U V RA RB words old new → new.scene.turned ≡ old.scene.turned + length words
  advances_turn words old new advances =
      plays_turn U V advances.happenings (moment_of old (advances.used_a ++ []) (advances.used_b ++ [])) (moment_of new [] []) (advances.plays [] []) ∙ ap (λ (l : List Word). old.scene.turned + length l) advances.words_are

  fronts : (all ws vs more turned later : List Word) → all ≡ ws ++ (vs ++ more) → vs ≡ turned ++ later → all ≡ (ws ++ turned) ++ (later ++ more)
  fronts all ws vs more turned later are front =
      are ∙ ap (λ (l : List Word). ws ++ (l ++ more)) front ∙ ap (λ (l : List Word). ws ++ l) (append_assoc turned later more) ∙ sym (append_assoc ws turned (later ++ more))

  -- of all words the first were turned before, and some come later
  pub wants_behind :
      (all ws vs more : List Word) (old mid : Stage S T G H P Q) (shelf : P) (inbox : Q) (trace : Option (List ℕ)) → JoinAnswers RA → JoinAnswers RB
      → ((first mid last : P) (used : List G) → RA first used mid → LA mid last → LA first last) → ((first mid last : Q) (used : List H) → RB first used mid → LB mid last → LB first last)
      → all ≡ ws ++ (vs ++ more) → Advances U V RA RB ws old mid → Wants U V RA RB LA LB vs mid shelf inbox trace → Wants U V RA RB LA LB all old shelf inbox trace
  wants_behind all ws vs more old mid shelf inbox trace joins_a joins_b lacks_a lacks_b are before (ShelfLacked lacked) = ShelfLacked (lacks_a old.shelf mid.shelf shelf before.used_a before.answered_a lacked)
  wants_behind all ws vs more old mid shelf inbox trace joins_a joins_b lacks_a lacks_b are before (InboxLacked lacked) = InboxLacked (lacks_b old.inbox mid.inbox inbox before.used_b before.answered_b lacked)
  wants_behind all ws vs more old mid shelf inbox trace joins_a joins_b lacks_a lacks_b are before (AirCrowded over) =
      AirCrowded (record {
        new = over.new;
        turned = ws ++ over.turned;
        later = over.later ++ more;
        words_are = fronts all ws vs more over.turned over.later are over.words_are;
        advances = advances_then U V RA RB ws over.turned old mid over.new joins_a joins_b before over.advances;
        crowded = over.crowded;
        shelf_is = over.shelf_is;
        inbox_is = over.inbox_is;
        trace_is = over.trace_is;
      })
  wants_behind all ws vs more old mid shelf inbox trace joins_a joins_b lacks_a lacks_b are before (WordsFull full) =
      let turned = advances_turn ws old mid before in
      let long = ap (λ (l : List Word). length l) are in
      let one = length-append ws (vs ++ more) in
      let two = length-append vs more in
      WordsFull (omega arith)
