-- A word that is turned is a run of the world.
use Rattle.std.proofs.Common.{◌≡◌, ℕ, ◌+◌, ◌≤◌, ◌<◌, ◌^◌, Bool, true, false, List, [], ◌∷◌, ◌++◌, length, Option, Some, None, if◌then◌else◌, refl, sym, ap, subst, ◌∙◌, arith, le-ltb}
use Rattle.std.proofs.lemmas.List.{append-nil}
use Rattle.std.proofs.lemmas.Grind.{flat_map-append}
use Rattle.bt_base.specs.Streams.{gained}
use Rattle.room_laws.specs.acl_fragments.specs.Pieces.{channel_of}
use Rattle.push_terms.specs.Words.{IsWord}
use Rattle.push_terms.specs.declared.word.Side.TheVariants.{A, B}
use Rattle.push_terms.specs.declared.word.Way.{Way}
use Rattle.push_terms.specs.declared.word.Way.TheVariants.{Ab, Ba}
use Rattle.push_terms.specs.declared.word.Word.{Word}
use Rattle.push_terms.specs.declared.word.Word.TheVariants.{Pass, Lose, Repeat, Damage, Cut, Timer, Drop, Cancel}
use Rattle.capture.specs.Frames.{way_served}
use Rattle.capture.specs.Entries.{Acted, entry_octets, capture_octets}
use Rattle.radio_model.specs.declared.fate.Fate.{Fate}
use Rattle.radio_model.specs.declared.fate.Fate.TheVariants.{Delivered, Lost, Repeated, CutOff, Changed}
use Rattle.radio_model.specs.declared.deed.Deed.{Deed}
use Rattle.radio_model.specs.declared.deed.Deed.TheVariants.{Nothing, Meets, Fires, FiresBoth, Breaks, Cancels}
use Rattle.radio_model.specs.Fates.{meets, first_can_meet}
use Rattle.radio_model.specs.Words.{meets_on, passing, deed_of, served_by}
use Rattle.radio_model.specs.Radio.{first_or_nothing}
use Rattle.radio_model.specs.Queues.{HasPlaces}
use Rattle.radio_model.specs.Owed.{IsMet}
use Rattle.radio_model.specs.Radio.{Radio, is_together, found, first_channel, hands, after_deed, after_meeting}
use Rattle.room_laws.specs.world_model.specs.Machines.{Upper}
use Rattle.room_laws.specs.world_model.specs.Pushes.{Pushes}
use Rattle.room_laws.specs.world_model.specs.Stations.{Station, Effort}
use Rattle.room_laws.specs.world_model.specs.Turns.{FindsNothing}
use Rattle.room_laws.specs.world_model.specs.Worlds.{World, Turns, Acts, IsAtRest, checks, one_turned, entries_of, words_in, all_entries, all_words}
use Rattle.radio_world.specs.Hosts.{Asking, answering, Reacts}
use Rattle.radio_world.specs.Leaving.{in_radio}
use Rattle.radio_world.specs.Halves.{Motion, happenings_of}
use Rattle.radio_world.specs.Scenes.{Scene, moment, world_at, stage, Advances}
use Rattle.radio_world.specs.Turning.{can_be_done, cancels, done_by, checks_on, is_checked}
use Rattle.radio_world.proofs.Entering.{tryings, tries, silent}
use Rattle.radio_world.proofs.Lifting.{plays_a, plays_b, no_words}
use Rattle.radio_world.proofs.Reacting.{is_fired}
use Rattle.radio_world.proofs.Advancing.{plays_then, and_second}
use Rattle.radio_world.proofs.Spelled.{each_of_same}

-- what cannot be done is nothing to find
pub nothing_found : {S T G H : Type 0} (U : Upper S G) (V : Upper T H) (deed : Deed) (pushes : Pushes) (s : S) (t : T) → can_be_done U V deed pushes s t ≡ false → FindsNothing U V deed pushes s t
nothing_found U V Nothing pushes s t none = tt
nothing_found U V (Meets way fate) pushes s t none = absurd cc
nothing_found U V (Fires A) pushes s t none = none
nothing_found U V (Fires B) pushes s t none = none
nothing_found U V FiresBoth pushes s t none = none
nothing_found U V Breaks pushes s t none = absurd cc
nothing_found U V Cancels pushes s t none = none

-- a check word matters to a change alone
same_but_changed : (size : ℕ) (fate : Fate) (x y : Bool) (frame : List ℕ) → ((at mask : ℕ) → fate ≡ Changed at mask → x ≡ y) → meets size fate x frame ≡ meets size fate y frame
same_but_changed size Delivered x y frame same = refl
same_but_changed size Lost x y frame same = refl
same_but_changed size Repeated x y frame same = refl
same_but_changed size (CutOff count) x y frame same = refl
same_but_changed size (Changed at mask) x y frame same = ap (λ c. meets size (Changed at mask) c frame) (same at mask refl)

-- the receiver of the frame that meets its fate is asked whether it has a check word for its channel
abbrev pub right_check : {S T G H : Type 0} → Upper S G → Upper T H → Deed → Radio → Station S → Station T → Bool
right_check U V (Meets Ab fate) radio a b = checks V b radio.a.waiting
right_check U V (Meets Ba fate) radio a b = checks U a radio.b.waiting
right_check U V deed radio a b = false

-- the world after a word acted, before either host goes on
abbrev pub acted_on : {S T G H : Type 0} → Upper S G → Upper T H → Deed → Bool → List G → List H → World S T → World S T
acted_on U V deed checked g h w = record w { radio = after_deed checked deed w.radio; a = done_by U A deed g w.a; b = done_by V B deed h w.b }

pub acts_on :
    {S T G H : Type 0} (U : Upper S G) (V : Upper T H) (deed : Deed) (g : List G) (h : List H) (w : World S T) → can_be_done U V deed w.pushes w.a.upper w.b.upper ≡ true
    → Acts U V deed w (acted_on U V deed (right_check U V deed w.radio w.a w.b) g h w)
acts_on U V Nothing g h w can = absurd cc
acts_on U V (Meets Ab fate) g h w can = refl
acts_on U V (Meets Ba fate) g h w can = refl
acts_on {S} U V (Fires A) g h w can = (can, g, ap (λ (s : Station S). record w { a = s }) (sym (is_fired U g w.a can)))
acts_on {T = T} U V (Fires B) g h w can = (can, h, ap (λ (s : Station T). record w { b = s }) (sym (is_fired V h w.b can)))
acts_on U V FiresBoth g h w can = (can, g, h, refl)
acts_on U V Breaks g h w can = refl
acts_on U V Cancels g h w can = (can, g, refl)

-- ---- a frame that is changed has its header

first_by : (b : Bool) (way : Way) (fate : Fate) (way' : Way) (fate' : Fate) → (if b then Meets way fate else Nothing) ≡ Meets way' fate' → fate ≡ fate'
first_by true way fate way' fate' e = cc
first_by false way fate way' fate' e = absurd cc

on_way : (way : Way) (fate : Fate) (ab ba : List (List ℕ)) (way' : Way) (fate' : Fate) → meets_on way fate ab ba ≡ Meets way' fate' → fate ≡ fate'
on_way Ab fate ab ba way' fate' e = first_by (first_can_meet fate ab (length ba)) Ab fate way' fate' e
on_way Ba fate ab ba way' fate' e = first_by (first_can_meet fate ba (length ab)) Ba fate way' fate' e

no_change : (found : Option Way) (ab ba : List (List ℕ)) (way : Way) (at mask : ℕ) → passing found ab ba ≡ Meets way (Changed at mask) → ⊥
no_change None ab ba way at mask e = absurd cc
no_change (Some to) ab ba way at mask e = let same = on_way to Delivered ab ba way (Changed at mask) e in absurd cc

no_break : (linked : Bool) (way : Way) (fate : Fate) → (if linked then Breaks else Nothing) ≡ Meets way fate → ⊥
no_break true way fate e = absurd cc
no_break false way fate e = absurd cc

behind_header : (word : Word) (served : Option Way) (ab ba : List (List ℕ)) (linked : Bool) (way : Way) (at mask : ℕ) → IsWord word → deed_of word served ab ba linked ≡ Meets way (Changed at mask) → 4 ≤ at
behind_header Pass served ab ba linked way at mask is e = absurd (no_change (way_served served ab ba) ab ba way at mask e)
behind_header (Lose to) served ab ba linked way at mask is e = let same = on_way to Lost ab ba way (Changed at mask) e in absurd cc
behind_header (Repeat to) served ab ba linked way at mask is e = let same = on_way to Repeated ab ba way (Changed at mask) e in absurd cc
behind_header (Damage to place bits) served ab ba linked way at mask is e =
    let same = on_way to (Changed place bits) ab ba way (Changed at mask) e in let places : place ≡ at = cc in subst (λ (n : ℕ). 4 ≤ n) places is.0
behind_header (Cut to packets) served ab ba linked way at mask is e = let same = on_way to (CutOff packets) ab ba way (Changed at mask) e in absurd cc
behind_header (Timer side) served ab ba linked way at mask is e = absurd cc
behind_header Drop served ab ba linked way at mask is e = absurd (no_break linked way (Changed at mask) e)
behind_header Cancel served ab ba linked way at mask is e = absurd cc

-- ---- the check word of its channel

meeting_same :
    (way : Way) (fate : Fate) (x y : Bool) (waiting : List (List ℕ)) (radio : Radio) → ((frame : List ℕ) (rest : List (List ℕ)) → waiting ≡ frame ∷ rest → meets radio.size fate x frame ≡ meets radio.size fate y frame)
    → after_meeting way fate x waiting radio ≡ after_meeting way fate y waiting radio
meeting_same way fate x y [] radio same = refl
meeting_same way fate x y (frame ∷ rest) radio same = ap (λ m. record (hands way m rest radio) { served = served_by way fate radio.served }) (same frame rest refl)

long_enough : (fate : Fate) (at mask : ℕ) (frame : List ℕ) → fate ≡ Changed at mask → HasPlaces fate frame → at + 1 < length frame
long_enough fate at mask frame is has = subst (λ (f : Fate). HasPlaces f frame) is has

checked_same :
    {T H : Type 0} (V : Upper T H) (b : Station T) (size : ℕ) (fate : Fate) (frame : List ℕ) (rest : List (List ℕ)) → ((at mask : ℕ) → fate ≡ Changed at mask → 4 ≤ at) → HasPlaces fate frame
    → meets size fate (checks_on V b.upper (first_channel (frame ∷ rest))) frame ≡ meets size fate (checks V b (frame ∷ rest)) frame
checked_same V b size fate frame rest behind has =
    same_but_changed size fate _ _ frame (λ at mask is.
    let low = behind at mask is in
    let room = long_enough fate at mask frame is has in
    ap (λ c. checks_on V b.upper (if c then None else Some (channel_of frame))) (le-ltb (length frame) 4 (omega arith)))

checked_first :
    {T H : Type 0} (V : Upper T H) (b : Station T) (size : ℕ) (fate : Fate) (waiting : List (List ℕ)) → ((at mask : ℕ) → fate ≡ Changed at mask → 4 ≤ at) → HasPlaces fate (first_or_nothing waiting)
    → (frame : List ℕ) (rest : List (List ℕ)) → waiting ≡ frame ∷ rest → meets size fate (checks_on V b.upper (first_channel waiting)) frame ≡ meets size fate (checks V b waiting) frame
checked_first V b size fate waiting behind has frame rest are =
    subst (λ (w : List (List ℕ)). meets size fate (checks_on V b.upper (first_channel w)) frame ≡ meets size fate (checks V b w) frame) (sym are)
    (checked_same V b size fate frame rest behind (subst (λ (w : List (List ℕ)). HasPlaces fate (first_or_nothing w)) are has))

pub asked_right :
    {S T G H : Type 0} (U : Upper S G) (V : Upper T H) (deed : Deed) (radio : Radio) (a : Station S) (b : Station T) → ((way : Way) (at mask : ℕ) → deed ≡ Meets way (Changed at mask) → 4 ≤ at) → IsMet deed radio
    → after_deed (is_checked U V deed radio a.upper b.upper) deed radio ≡ after_deed (right_check U V deed radio a b) deed radio
asked_right U V Nothing radio a b behind met = refl
asked_right U V (Meets Ab fate) radio a b behind met =
    meeting_same Ab fate _ _ radio.a.waiting radio (checked_first V b radio.size fate radio.a.waiting (λ at mask is. behind Ab at mask (ap (λ f. Meets Ab f) is)) met.1)
asked_right U V (Meets Ba fate) radio a b behind met =
    meeting_same Ba fate _ _ radio.b.waiting radio (checked_first U a radio.size fate radio.b.waiting (λ at mask is. behind Ba at mask (ap (λ f. Meets Ba f) is)) met.1)
asked_right U V (Fires side) radio a b behind met = refl
asked_right U V FiresBoth radio a b behind met = refl
asked_right U V Breaks radio a b behind met = refl
asked_right U V Cancels radio a b behind met = refl

pub asked_for : (word : Word) (radio : Radio) → IsWord word → (way : Way) (at mask : ℕ) → found word radio ≡ Meets way (Changed at mask) → 4 ≤ at
asked_for word radio is way at mask e = behind_header word radio.served radio.a.waiting radio.b.waiting (is_together radio.phase) way at mask is e

-- ---- the word, and what both hosts do then

no_more_words : (xs ys : List Motion) → all_words (happenings_of A xs ++ happenings_of B ys) ≡ []
no_more_words xs ys = flat_map-append words_in (happenings_of A xs) (happenings_of B ys) ∙ ap (λ ws. ws ++ all_words (happenings_of B ys)) (no_words A xs) ∙ no_words B ys

no_more_entries : (xs ys : List Effort) → all_entries (happenings_of A (tryings xs) ++ happenings_of B (tryings ys)) ≡ []
no_more_entries xs ys =
    flat_map-append entries_of (happenings_of A (tryings xs)) (happenings_of B (tryings ys)) ∙ ap (λ es. es ++ all_entries (happenings_of B (tryings ys))) (silent A xs) ∙ silent B ys

pub word_advances :
    {S T G H P Q : Type 0} (U : Upper S G) (V : Upper T H) (RA : P → List G → P → Type 0) (RB : Q → List H → Q → Type 0) (word : Word) (checked : Bool)
    (old acted : Scene) (a a' : Asking S G) (b b' : Asking T H) (shelf shelf' : P) (inbox inbox' : Q) (trace trace' : Option (List ℕ))
    → acted ≡ record old { medium = in_radio (after_deed checked (found word old.medium.radio) old.medium.radio) old.medium; turned = old.turned + 1 }
    → ((rest_a : List G) (rest_b : List H) → IsAtRest U V (world_at (moment old (answering rest_a a) (answering rest_b b)))) → IsWord word
    → ((rest_a : List G) (rest_b : List H) → can_be_done U V (found word old.medium.radio) old.pushes (a.upper rest_a) (b.upper rest_b) ≡ true)
    → ((rest_a : List G) (rest_b : List H) → after_deed checked (found word old.medium.radio) old.medium.radio
    ≡ after_deed (right_check U V (found word old.medium.radio) old.medium.radio (answering rest_a a) (answering rest_b b)) (found word old.medium.radio) old.medium.radio)
    → Reacts U A RA (done_by U A (found word old.medium.radio)) a a' shelf shelf' → Reacts V B RB (done_by V B (found word old.medium.radio)) b b' inbox inbox'
    → trace' ≡ gained trace (entry_octets (Acted (old.turned + 1) word)) → old.turned + 1 < 2 ^ 64
    → Advances U V RA RB (word ∷ []) (stage old a b shelf inbox trace) (stage acted a' b' shelf' inbox' trace')
word_advances {S} {T} U V RA RB word checked old acted a a' b b' shelf shelf' inbox inbox' trace trace' is rests is_word can right one two written few =
    let deed = found word old.medium.radio in
    record {
      happenings = Turns (old.turned + 1) word ∷ (happenings_of A (tryings one.efforts) ++ happenings_of B (tryings two.efforts));
      words_are = ap (λ ws. word ∷ ws) (no_more_words (tryings one.efforts) (tryings two.efforts));
      used_a = one.used;
      used_b = two.used;
      answered_a = one.answered;
      answered_b = two.answered;
      plays = λ rest_a rest_b.
          let for_a = one.used ++ rest_a in
          let for_b = two.used ++ rest_b in
          let heard_a : Station S = done_by U A deed for_a (answering for_a a) in
          let heard_b : Station T = done_by V B deed for_b (answering for_b b) in
          let start : World S T = world_at (moment old (answering for_a a) (answering for_b b)) in
          let checks_right = right_check U V deed old.medium.radio (answering for_a a) (answering for_b b) in (
            moment acted heard_a heard_b,
            record {
              does = (
                rests for_a for_b,
                is_word,
                refl,
                acted_on U V deed checks_right for_a for_b start,
                acts_on U V deed for_a for_b start (can for_a for_b),
                ap (λ (s : Scene). world_at (moment s heard_a heard_b)) is
                    ∙ ap (λ (r : Radio). one_turned (record start { radio = r; a = heard_a; b = heard_b })) (right for_a for_b),
              );
              notes = ap (λ (s : Scene). s.medium) is ∙ ap (λ (s : Scene). in_radio s.medium.radio old.medium) (sym is);
            },
            plays_then U V (happenings_of A (tryings one.efforts)) (happenings_of B (tryings two.efforts)) (moment acted heard_a heard_b) (moment acted (answering rest_a a') heard_b) (moment acted (answering rest_a a') (answering rest_b b'))
                (plays_a U V (tryings one.efforts) (record { medium = acted.medium; station = heard_a }) (record { medium = acted.medium; station = answering rest_a a' }) heard_b acted.pushes acted.turned
                (tries U A one.efforts acted.medium heard_a (answering rest_a a') (one.reacts rest_a)))
                (plays_b U V (tryings two.efforts) (record { medium = acted.medium; station = heard_b }) (record { medium = acted.medium; station = answering rest_b b' }) (answering rest_a a') acted.pushes acted.turned
                (tries V B two.efforts acted.medium heard_b (answering rest_b b') (two.reacts rest_b))),
          );
      written = written ∙ ap (gained trace) (sym (append-nil (entry_octets (Acted (old.turned + 1) word))))
          ∙ ap (λ es. gained trace (capture_octets (Acted (old.turned + 1) word ∷ es))) (sym (no_more_entries one.efforts two.efforts));
      each = ((omega arith, few, is_word), each_of_same _ [] (no_more_entries one.efforts two.efforts) tt);
    }

-- where a push can be cancelled, it may be
pub cancels_may : {S T G H : Type 0} (U : Upper S G) (V : Upper T H) (deed : Deed) (pushes : Pushes) (s : S) (t : T) → cancels A deed ≡ true → can_be_done U V deed pushes s t ≡ true → U.may_cancel s ≡ true
cancels_may U V Nothing pushes s t is can = absurd cc
cancels_may U V (Meets way fate) pushes s t is can = absurd cc
cancels_may U V (Fires side) pushes s t is can = absurd cc
cancels_may U V FiresBoth pushes s t is can = absurd cc
cancels_may U V Breaks pushes s t is can = absurd cc
cancels_may U V Cancels pushes s t is can = and_second pushes.going (U.may_cancel s) can

-- host b pushes nothing
pub b_cancels_not : (deed : Deed) → cancels B deed ≡ false
b_cancels_not Nothing = refl
b_cancels_not (Meets way fate) = refl
b_cancels_not (Fires side) = refl
b_cancels_not FiresBoth = refl
b_cancels_not Breaks = refl
b_cancels_not Cancels = refl
