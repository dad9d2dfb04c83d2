-- A run that is at rest obeyed its words.
use Rattle.std.proofs.Common.{◌≡◌, ℕ, ◌||◌, Bool, true, false, List, [], ◌∷◌, ◌++◌, length, drop, Option, Some, None, if◌then◌else◌, refl, sym, ap, ◌∙◌, subst}
use Rattle.std.specs.Prelude.{is_some}
use Rattle.std.specs.List.{list_all, AllByRecursion}
use Rattle.std.proofs.lemmas.List.{append-nil, append_assoc}
use Rattle.turn_laws.specs.push_terms.specs.declared.word.Side.{Side}
use Rattle.turn_laws.specs.push_terms.specs.declared.word.Side.TheVariants.{A, B}
use Rattle.turn_laws.specs.push_terms.specs.declared.word.Word.{Word}
use Rattle.turn_laws.specs.push_terms.specs.declared.outcome.Outcome.{Outcome}
use Rattle.turn_laws.specs.capture.specs.Entries.{Entry, Moved, Acted, Begun, Ended}
use Rattle.turn_laws.specs.capture.specs.Histories.{EachAfter}
use Rattle.turn_laws.specs.capture.specs.Links.{Link, link_up}
use Rattle.turn_laws.specs.capture.specs.Air.{Air, words_done, IsSettled, is_end, before_last_ends}
use Rattle.turn_laws.specs.capture.specs.Frames.{waiting}
use Rattle.turn_laws.specs.capture.specs.Air.{direction}
use Rattle.turn_laws.specs.capture.proofs.HistoryLaws.{each_after-more}
use Rattle.turn_laws.specs.capture.proofs.FurtherLaws.{words-more}
use Rattle.turn_laws.specs.radio_model.specs.declared.deed.Deed.{Deed}
use Rattle.turn_laws.specs.radio_model.specs.declared.deed.Deed.TheVariants.{Nothing, Meets, Fires, FiresBoth, Breaks, Cancels}
use Rattle.turn_laws.specs.radio_model.specs.Words.{receiver}
use Rattle.turn_laws.specs.radio_model.specs.Air.{Hosts, checks_channel, after_meeting, after_deed, air_after, found, FindsNothing, KeepsTo, LeftFindNothing}
use Rattle.turn_laws.specs.radio_model.specs.Radio.{first_channel}
use Rattle.turn_laws.specs.world_model.specs.Machines.{Upper}
use Rattle.turn_laws.specs.world_model.specs.Pushes.{Pushes}
use Rattle.turn_laws.specs.world_model.specs.Worlds.{all_entries, all_words, first_world}
use Rattle.turn_laws.proofs.Capturing.{beside}
use Rattle.air_laws.specs.AirLaws.{PassesEnds, IsLastEnd, AirIsObeyed}
use Rattle.air_laws.proofs.Turning.{finds_as}
use Rattle.air_laws.proofs.Obeying.{air_then, all_behind, at_word, obeyed}

-- ---- the end of a push is nothing to the air

checks_same : (hosts : Hosts) (side : Side) (past : List Entry) (push : ℕ) (outcome : Outcome) (channel : Option ℕ) → PassesEnds hosts → checks_channel hosts side (past ++ Ended push outcome ∷ []) channel ≡ checks_channel hosts side past channel
checks_same hosts side past push outcome None passes = refl
checks_same hosts side past push outcome (Some channel) passes = passes.checks side past push outcome channel

deed_same : (hosts : Hosts) (size : ℕ) (past : List Entry) (push : ℕ) (outcome : Outcome) (air : Air) (deed : Deed) → PassesEnds hosts → after_deed hosts size (past ++ Ended push outcome ∷ []) air deed ≡ after_deed hosts size past air deed
deed_same hosts size past push outcome air Nothing passes = refl
deed_same hosts size past push outcome air (Meets way fate) passes =
    ap (λ (c : Bool). Some (after_meeting size way fate c (waiting (direction way air)) air)) (checks_same hosts (receiver way) past push outcome (first_channel (waiting (direction way air))) passes)
deed_same hosts size past push outcome air (Fires side) passes = ap (λ (b : Bool). if b then Some air else None) (passes.armed side past push outcome)
deed_same hosts size past push outcome air FiresBoth passes = λ i. if passes.armed A past push outcome i || passes.armed B past push outcome i then Some air else None
deed_same hosts size past push outcome air Breaks passes = refl
deed_same hosts size past push outcome air Cancels passes = refl

all_map : (P Q : Word → Type 0) (words : List Word) → ((word : Word) → P word → Q word) → AllByRecursion P words → AllByRecursion Q words
all_map P Q [] each all = tt
all_map P Q (word ∷ words) each (is, all) = (each word is, all_map P Q words each all)

air_same : (hosts : Hosts) (size : ℕ) (past : List Entry) (push : ℕ) (outcome : Outcome) → air_after hosts size (past ++ Ended push outcome ∷ []) ≡ air_after hosts size past
air_same hosts size past push outcome = air_then hosts size past (Ended push outcome)

done_same : (past : List Entry) (push : ℕ) (outcome : Outcome) → words_done (past ++ Ended push outcome ∷ []) ≡ words_done past
done_same past push outcome = words-more past (Ended push outcome)

-- what finds nothing before it finds nothing behind it, and the other way round
left_more : (hosts : Hosts) (size : ℕ) (script : List Word) (past : List Entry) (push : ℕ) (outcome : Outcome) → PassesEnds hosts → LeftFindNothing hosts size script past → LeftFindNothing hosts size script (past ++ Ended push outcome ∷ [])
left_more hosts size script past push outcome passes left =
    let next : List Entry = past ++ Ended push outcome ∷ [] in
    subst (λ (n : ℕ). AllByRecursion (FindsNothing hosts size next (air_after hosts size next)) (drop n script)) (sym (done_same past push outcome))
    (subst (λ (x : Air). AllByRecursion (FindsNothing hosts size next x) (drop (words_done past) script)) (sym (air_same hosts size past push outcome))
    (all_map _ _ (drop (words_done past) script) (λ word. finds_as hosts size past next (air_after hosts size past) word (deed_same hosts size past push outcome (air_after hosts size past) (found word (air_after hosts size past)) passes)) left))

left_less : (hosts : Hosts) (size : ℕ) (script : List Word) (past : List Entry) (push : ℕ) (outcome : Outcome) → PassesEnds hosts → LeftFindNothing hosts size script (past ++ Ended push outcome ∷ []) → LeftFindNothing hosts size script past
left_less hosts size script past push outcome passes left =
    let next : List Entry = past ++ Ended push outcome ∷ [] in
    let one : AllByRecursion (FindsNothing hosts size next (air_after hosts size next)) (drop (words_done past) script) =
    subst (λ (n : ℕ). AllByRecursion (FindsNothing hosts size next (air_after hosts size next)) (drop n script)) (done_same past push outcome) left in
    let two : AllByRecursion (FindsNothing hosts size next (air_after hosts size past)) (drop (words_done past) script) =
    subst (λ (x : Air). AllByRecursion (FindsNothing hosts size next x) (drop (words_done past) script)) (air_same hosts size past push outcome) one in
    all_map _ _ (drop (words_done past) script) (λ word. finds_as hosts size next past (air_after hosts size past) word (sym (deed_same hosts size past push outcome (air_after hosts size past) (found word (air_after hosts size past)) passes))) two

left_front : (hosts : Hosts) (size : ℕ) (script : List Word) (tail front : List Entry) → PassesEnds hosts → list_all is_end tail ≡ true → LeftFindNothing hosts size script (front ++ tail) → LeftFindNothing hosts size script front
left_front hosts size script [] front passes ends left = subst (λ (p : List Entry). LeftFindNothing hosts size script p) (append-nil front) left
left_front hosts size script (Ended push outcome ∷ tail) front passes ends left =
    left_less hosts size script front push outcome passes (left_front hosts size script tail (front ++ Ended push outcome ∷ []) passes ends (subst (λ (p : List Entry). LeftFindNothing hosts size script p) (sym (append_assoc front (Ended push outcome ∷ []) tail)) left))
left_front hosts size script (Moved side flow packet ∷ tail) front passes ends left = absurd cc
left_front hosts size script (Acted ordinal word ∷ tail) front passes ends left = absurd cc
left_front hosts size script (Begun push ∷ tail) front passes ends left = absurd cc

-- ---- the ends of pushes that stand last

record Split (entries front : List Entry) : Type 0 where
  tail : List Entry
  all : entries ≡ front ++ tail
  ends : list_all is_end tail ≡ true

split_by : (b : Bool) (entry : Entry) (rest front : List Entry) → list_all is_end (entry ∷ rest) ≡ b → Split rest front → Split (entry ∷ rest) (if b then [] else entry ∷ front)
split_by true entry rest front is split = record { tail = entry ∷ rest; all = refl; ends = is }
split_by false entry rest front is split = record { tail = split.tail; all = ap (λ (l : List Entry). entry ∷ l) split.all; ends = split.ends }

split_last : (entries : List Entry) → Split entries (before_last_ends entries)
split_last [] = record { tail = []; all = refl; ends = refl }
split_last (entry ∷ rest) = split_by (list_all is_end (entry ∷ rest)) entry rest (before_last_ends rest) refl (split_last rest)

left_last : (hosts : Hosts) (size : ℕ) (script : List Word) (entries : List Entry) → PassesEnds hosts → LeftFindNothing hosts size script entries → LeftFindNothing hosts size script (before_last_ends entries)
left_last hosts size script entries passes left =
    let split = split_last entries in
    left_front hosts size script split.tail (before_last_ends entries) passes split.ends (subst (λ (p : List Entry). LeftFindNothing hosts size script p) split.all left)

-- ---- at rest

record Rested (hosts : Hosts) (size : ℕ) (script : List Word) (entries : List Entry) : Type 0 where
  each : EachAfter (KeepsTo hosts size script) [] entries
  settled : IsSettled entries (air_after hosts size entries)
  left : LeftFindNothing hosts size script entries

up_same : (side : Side) (past : List Entry) (push : ℕ) (outcome : Outcome) → link_up side (past ++ Ended push outcome ∷ []) ≡ link_up side past
up_same A past push outcome = ap (λ l. l.up) (beside A past (Ended push outcome) refl)
up_same B past push outcome = ap (λ l. l.up) (beside B past (Ended push outcome) refl)

settled_more : (past : List Entry) (push : ℕ) (outcome : Outcome) (air : Air) → IsSettled past air → IsSettled (past ++ Ended push outcome ∷ []) air
settled_more past push outcome air settled = record {
  a = settled.a;
  b = settled.b;
  knows_a = ap (λ (k : Option Link). is_some k) (up_same A past push outcome) ∙ settled.knows_a;
  knows_b = ap (λ (k : Option Link). is_some k) (up_same B past push outcome) ∙ settled.knows_b;
}

rested_more : (hosts : Hosts) (size : ℕ) (script : List Word) (past : List Entry) (push : ℕ) (outcome : Outcome) → PassesEnds hosts → Rested hosts size script past → Rested hosts size script (past ++ Ended push outcome ∷ [])
rested_more hosts size script past push outcome passes rested = record {
  each = each_after-more (KeepsTo hosts size script) past (Ended push outcome) rested.each tt;
  settled = subst (λ (x : Air). IsSettled (past ++ Ended push outcome ∷ []) x) (sym (air_same hosts size past push outcome)) (settled_more past push outcome (air_after hosts size past) rested.settled);
  left = left_more hosts size script past push outcome passes rested.left;
}

rested_ends : (hosts : Hosts) (size : ℕ) (script : List Word) (pushes : Pushes) (past ends : List Entry) → PassesEnds hosts → IsLastEnd pushes ends → Rested hosts size script past → Rested hosts size script (past ++ ends)
rested_ends hosts size script pushes past [] passes last rested = subst (λ (p : List Entry). Rested hosts size script p) (sym (append-nil past)) rested
rested_ends hosts size script pushes past (Ended push outcome ∷ []) passes last rested = rested_more hosts size script past push outcome passes rested
rested_ends hosts size script pushes past (Ended push outcome ∷ entry ∷ ends) passes last rested = absurd last
rested_ends hosts size script pushes past (Moved side flow packet ∷ ends) passes last rested = absurd last
rested_ends hosts size script pushes past (Acted ordinal word ∷ ends) passes last rested = absurd last
rested_ends hosts size script pushes past (Begun push ∷ ends) passes last rested = absurd last

left_is : (hosts : Hosts) (size : ℕ) (past : List Entry) (words did missed : List Word) → words_done past ≡ length did → words ≡ did ++ missed → AllByRecursion (FindsNothing hosts size past (air_after hosts size past)) missed → LeftFindNothing hosts size words past
left_is hosts size past words did missed is parts nothing =
    let same : drop (words_done past) words ≡ missed = ap (λ (n : ℕ). drop n words) is ∙ ap (λ (l : List Word). drop (length did) l) parts ∙ all_behind did missed in
    subst (λ (l : List Word). AllByRecursion (FindsNothing hosts size past (air_after hosts size past)) l) (sym same) nothing

pub air_is_obeyed : {S T G H : Type 0} (U : Upper S G) (V : Upper T H) → AirIsObeyed U V
air_is_obeyed U V hosts size count names happenings w ends fits runs tells rest last =
    let first = first_world U V size count names in
    let all = obeyed U V hosts size count names happenings w fits runs tells in
    let past : List Entry = all_entries happenings in
    let words : List Word = all_words happenings in
    let here = at_word U V hosts size happenings first [] past words w tells all.reached rest all.now.tie in
    let rested : Rested hosts size words past = record {
      each = subst (λ (l : List Word). EachAfter (KeepsTo hosts size l) [] past) (append-nil words) (all.now.each []);
      settled = here.is_settled;
      left = left_is hosts size past words all.now.did all.now.missed all.now.done_is all.now.parts all.now.nothing;
    } in
    let now = rested_ends hosts size words w.pushes past ends tells.ends last rested in
    record { each = now.each; settled = now.settled; left = left_last hosts size words (past ++ ends) tells.ends now.left }
