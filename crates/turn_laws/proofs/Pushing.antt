-- Laws of turns: pushes are in turn, and each link lies within one.
use Rattle.std.proofs.Common.{ℕ, ◌≡◌, Bool, true, false, List, [], ◌∷◌, ◌++◌, map, take, drop, if◌then◌else◌, refl, ap, sym, ◌∙◌, subst}
use Rattle.world_model.specs.push_terms.specs.declared.word.Side.TheVariants.{A, B}
use Rattle.world_model.specs.push_terms.specs.declared.word.Way.TheVariants.{Ab, Ba}
use Rattle.world_model.specs.radio_model.specs.declared.deed.Deed.{Deed}
use Rattle.world_model.specs.radio_model.specs.declared.deed.Deed.TheVariants.{Nothing, Meets, Fires, FiresBoth, Breaks, Cancels}
use Rattle.world_model.specs.radio_model.specs.Controllers.{is_empty}
use Rattle.world_model.specs.radio_model.specs.Fates.{comes_of}
use Rattle.world_model.specs.Machines.{LinkEvent, Up, Down, News, Linked, Heard, TimerFired, Cancelled, Opening, Upper, drain, all_said, Breath, Whole, Short, Reaction}
use Rattle.world_model.specs.Pushes.{no_pushes, one_begun, one_ended}
use Rattle.world_model.specs.Talks.{Talk, Told, Said, Unsent, Met, Done}
use Rattle.world_model.specs.Turns.{Party, Pair, breathes, speaks, notes, hears, receives, Step, Turn, Idle, Rise, Fall, Began, Ended, Acts, found, Moves, Passes, first_pair}
use Rattle.world_model.specs.PerLink.{Stage, Turned, InTurn}
use Rattle.world_model.specs.Carriages.{End, Carriage, Motion, Saying, Departure, Arrival, Telling, DoesMotion, Doing, Moved, Deeds, Misses, Rises, Falls, Opens, Closes, ActsOn, finds, IsDone, Carries, first_carriage, told}
use Rattle.turn_laws.specs.Laws.{PushesInTurn, LinksWithinPushes}
use Rattle.turn_laws.proofs.Advancing.{breaks_linked}

turn_append : (s mid t : Stage) (one two : List Talk) → InTurn s one mid → InTurn mid two t → InTurn s (one ++ two) t
turn_append s mid t [] two same after = subst (λ (k : Stage). InTurn k two t) same after
turn_append s mid t (talk ∷ one) two (next, first, turn) after = (next, first, turn_append next mid t one two turn after)

turn_said : (s : Stage) (pdus : List (List ℕ)) → InTurn s (map Said pdus) s
turn_said s [] = refl
turn_said s (pdu ∷ pdus) = (s, refl, turn_said s pdus)

turn_unsent : (s : Stage) (pdus : List (List ℕ)) → InTurn s (map Unsent pdus) s
turn_unsent s [] = refl
turn_unsent s (pdu ∷ pdus) = (s, refl, turn_unsent s pdus)

turn_one : (s mid t : Stage) (talks : List Talk) (talk : Talk) → InTurn s talks mid → Turned mid talk t → InTurn s (talks ++ talk ∷ []) t
turn_one s mid t talks talk turn one = turn_append s mid t talks (talk ∷ []) turn (t, one, refl)

turn_breathes : {S G : Type 0} (U : Upper S G) (breath : Breath) (s t : Stage) (p : Party S) → InTurn s p.talk t → InTurn s (breathes U breath [] p).talk t
turn_breathes U Whole s t p turn = turn_append s t t p.talk (map Said (all_said U p.upper).said) turn (turn_said t (all_said U p.upper).said)
turn_breathes U (Short moved asked) s t p turn =
    let said = (drain U asked p.upper).said in
    turn_append s t t p.talk (map Said (take moved said) ++ map Unsent (drop moved said)) turn
    (turn_append t t t (map Said (take moved said)) (map Unsent (drop moved said)) (turn_said t (take moved said)) (turn_unsent t (drop moved said)))

turn_speaks : {S G : Type 0} (U : Upper S G) (link : Bool) (breath : Breath) (s t : Stage) (p : Party S) → InTurn s p.talk t → InTurn s (speaks U link breath p).talk t
turn_speaks U true breath s t p turn = turn_breathes U breath s t p turn
turn_speaks U false breath s t p turn = turn

turn_told : {S G : Type 0} (U : Upper S G) (link : Bool) (r : Reaction G) (news : News) (s t : Stage) (p : Party S) → Turned t (Told news) t → InTurn s p.talk t → InTurn s (hears U link r news p).talk t
turn_told U link r news s t p aside turn = turn_speaks U link r.breath s t (notes U r.answers news p) (turn_one s t t p.talk (Told news) turn aside)

turn_received : {S G : Type 0} (U : Upper S G) (link : Bool) (r : Reaction G) (comes : List (List ℕ)) (s t : Stage) (p : Party S) → InTurn s p.talk t → InTurn s (receives U link r comes p).talk t
turn_received U link r [] s t p turn = turn
turn_received U link r (pdu ∷ pdus) s t p turn = turn_told U link r (Heard pdu) s t p refl turn

turn_fired : {S G : Type 0} (U : Upper S G) (link : Bool) (r : Reaction G) (armed : Bool) (s t : Stage) (p : Party S) → InTurn s p.talk t → InTurn s (if armed then hears U link r TimerFired p else p).talk t
turn_fired U link r true s t p turn = turn_told U link r TimerFired s t p refl turn
turn_fired U link r false s t p turn = turn

abbrev stage_of : {S T : Type 0} → Pair S T → Stage
stage_of pair = record { pushes = pair.pushes; up = pair.link }

abbrev Staged : {S T : Type 0} → Stage → Pair S T → Type 0
Staged s pair = InTurn s pair.a.talk (stage_of pair)

abbrev up_is : Bool → Stage → Stage
up_is up stage = record { pushes = stage.pushes; up = up }

acts_staged : {S T G H : Type 0} (U : Upper S G) (V : Upper T H) (s : Stage) (deed : Deed) (old new : Pair S T) → (deed ≡ Breaks → old.link ≡ true) → Acts U V deed old new → Staged s old → Staged s new
acts_staged U V s Nothing old new breaks acts turn = absurd acts
acts_staged U V s (Meets Ab fate) old new breaks (p, q, hands, same) turn = rw (same, hands.one_is) (turn_one s (stage_of old) (stage_of old) old.a.talk (Met fate hands.checked) turn refl)
acts_staged U V s (Meets Ba fate) old new breaks (p, q, hands, same) turn = rw (same, hands.other_is) (turn_received U old.link hands.reaction (comes_of old.size fate hands.checked hands.frame) s (stage_of old) old.a turn)
acts_staged U V s (Fires A) old new breaks (armed, r, same) turn = rw same (turn_told U old.link r TimerFired s (stage_of old) old.a refl turn)
acts_staged U V s (Fires B) old new breaks (armed, r, same) turn = rw same turn
acts_staged U V s FiresBoth old new breaks (armed, r, other, same) turn = rw same (turn_fired U old.link r (U.armed old.a.upper) s (stage_of old) old.a turn)
acts_staged U V s Breaks old new breaks (r, other, same) turn = rw same (turn_one s (stage_of old) (up_is false (stage_of old)) old.a.talk (Told (Linked (Down 0x08))) turn (breaks refl, refl))
acts_staged U V s Cancels old new breaks (may, r, same) turn = rw same (turn_told U old.link r Cancelled s (stage_of old) old.a refl turn)

moves_staged : {S T G H : Type 0} (U : Upper S G) (V : Upper T H) (s : Stage) (step : Step) (old new : Pair S T) → Moves U V step old new → Staged s old → Staged s new
moves_staged U V s (Turn word) old new (calm, acts) turn = acts_staged U V s (found word old) old new (breaks_linked word old.served old.a.queue old.b.queue old.link) acts turn
moves_staged U V s (Idle word) old new (calm, nothing, same) turn = rw same turn
moves_staged U V s Rise old new (down, going, wants, r, other, same) turn =
    rw same (turn_speaks U true r.breath s (up_is true (stage_of old)) (notes U r.answers (Linked Up) old.a) (turn_one s (stage_of old) (up_is true (stage_of old)) old.a.talk (Told (Linked Up)) turn (going, down, refl)))
moves_staged U V s (Fall A) old new (up, leaves, whole, r, other, same) turn = rw same (turn_one s (stage_of old) (up_is false (stage_of old)) old.a.talk (Told (Linked (Down 0x16))) turn (up, refl))
moves_staged U V s (Fall B) old new (up, leaves, whole, r, other, same) turn = rw same (turn_one s (stage_of old) (up_is false (stage_of old)) old.a.talk (Told (Linked (Down 0x13))) turn (up, refl))
moves_staged {S} {T} U V s (Began name) old new (down, ready, next, r, same) turn =
    let began : Stage = record { pushes = one_begun old.pushes; up = false } in
    let now = turn_one s (stage_of old) began old.a.talk (Told (Opening name)) turn (next, down, refl) in
    rw same (subst (λ (l : Bool). InTurn s (old.a.talk ++ Told (Opening name) ∷ []) (record { pushes = one_begun old.pushes; up = l })) (sym down) now)
moves_staged U V s (Ended outcome) old new (down, going, ready, is, same) turn =
    let over : Stage = record { pushes = one_ended outcome old.pushes; up = false } in
    let now = turn_one s (stage_of old) over old.a.talk (Done outcome) turn (going, down, refl) in
    rw same (subst (λ (l : Bool). InTurn s (old.a.talk ++ Done outcome ∷ []) (record { pushes = one_ended outcome old.pushes; up = l })) (sym down) now)

passes_staged : {S T G H : Type 0} (U : Upper S G) (V : Upper T H) (s : Stage) (steps : List Step) (old new : Pair S T) → Passes U V steps old new → Staged s old → Staged s new
passes_staged U V s [] old new same turn = rw same turn
passes_staged U V s (step ∷ steps) old new (mid, moves, passes) turn = passes_staged U V s steps mid new passes (moves_staged U V s step old mid moves turn)

pub pushes_in_turn : {S T G H : Type 0} (U : Upper S G) (V : Upper T H) → PushesInTurn U V
pushes_in_turn U V size names steps p passes = passes_staged U V (record { pushes = no_pushes names; up = false }) steps (first_pair U V size names) p passes refl

-- ---- a host is owed events only while a push goes on

record Within {S T : Type 0} (c : Carriage S T) : Type 0 where
  link : c.link ≡ true → c.pushes.going ≡ true
  a : is_empty c.a.owed ≡ false → c.pushes.going ≡ true
  b : is_empty c.b.owed ≡ false → c.pushes.going ≡ true

motion_owed : {S G : Type 0} (U : Upper S G) (motion : Motion) (e e' : End S) (P : Type 0) → DoesMotion U motion e e' → (is_empty e.owed ≡ false → P) → is_empty e'.owed ≡ false → P
motion_owed U (Saying pdu) e e' P does more some = more (sym (ap (λ (x : End _). is_empty x.owed) does.is) ∙ some)
motion_owed U (Departure pdu) e e' P does more some = more (sym (ap (λ (x : End _). is_empty x.owed) does.is) ∙ some)
motion_owed U (Arrival pdu) e e' P does more some = more (sym (ap (λ (x : End _). is_empty x.owed) does.is) ∙ some)
motion_owed U (Telling event) e e' P does more some = more (ap (λ (l : List LinkEvent). is_empty l) does.first)

fired_owed : {S G : Type 0} (U : Upper S G) (answers : List G) (e : End S) (armed : Bool) → (if armed then told U answers TimerFired e else e).owed ≡ e.owed
fired_owed U answers e true = refl
fired_owed U answers e false = refl

acts_within : {S T G H : Type 0} (U : Upper S G) (V : Upper T H) (deed : Deed) (old new : Carriage S T) → (deed ≡ Breaks → old.link ≡ true) → ActsOn U V deed old new → Within old → Within new
acts_within U V Nothing old new breaks acts within = absurd acts
acts_within U V (Meets Ab fate) old new breaks (e, f, meets, same) within = rw (same, meets.one_is, meets.other_is) (record { link = within.link; a = within.a; b = within.b })
acts_within U V (Meets Ba fate) old new breaks (e, f, meets, same) within = rw (same, meets.one_is, meets.other_is) (record { link = within.link; a = within.a; b = within.b })
acts_within U V (Fires A) old new breaks (armed, g, same) within = rw same (record { link = within.link; a = within.a; b = within.b })
acts_within U V (Fires B) old new breaks (armed, h, same) within = rw same (record { link = within.link; a = within.a; b = within.b })
acts_within U V FiresBoth old new breaks (armed, g, h, same) within =
    rw same (record {
      link = within.link;
      a = λ some. within.a (ap (λ (l : List LinkEvent). is_empty l) (sym (fired_owed U g old.a (U.armed old.a.upper))) ∙ some);
      b = λ some. within.b (ap (λ (l : List LinkEvent). is_empty l) (sym (fired_owed V h old.b (V.armed old.b.upper))) ∙ some);
    })
acts_within U V Breaks old new breaks same within = let going = within.link (breaks refl) in rw same (record { link = λ up. going; a = λ some. going; b = λ some. going })
acts_within U V Cancels old new breaks (may, g, same) within = rw same (record { link = within.link; a = within.a; b = within.b })

done_within : {S T G H : Type 0} (U : Upper S G) (V : Upper T H) (doing : Doing) (old new : Carriage S T) → IsDone U V doing old new → Within old → Within new
done_within U V (Moved A motion) old new (e, does, same) within = rw same (record { link = within.link; a = motion_owed U motion old.a e _ does within.a; b = within.b })
done_within U V (Moved B motion) old new (f, does, same) within = rw same (record { link = within.link; a = within.a; b = motion_owed V motion old.b f _ does within.b })
done_within U V (Deeds word) old new (rest, acts) within = acts_within U V (finds word old) old new (breaks_linked word old.served old.a.queue old.b.queue old.link) acts within
done_within U V (Misses word) old new (rest, nothing, same) within = rw same within
done_within U V Rises old new (down, idle, going, wants, same) within = rw same (record { link = λ up. going; a = λ some. going; b = λ some. going })
done_within U V (Falls A) old new (up, idle, leaves, same) within = let going = within.link up in rw same (record { link = λ on. going; a = λ some. going; b = λ some. going })
done_within U V (Falls B) old new (up, idle, leaves, same) within = let going = within.link up in rw same (record { link = λ on. going; a = λ some. going; b = λ some. going })
done_within U V (Opens name) old new (down, idle, ready, next, g, same) within = rw same (record { link = λ up. refl; a = λ some. refl; b = λ some. refl })
done_within U V (Closes outcome) old new (down, idle_a, idle_b, going, ready, is, same) within =
    rw same (record {
      link = λ up. cc;
      a = λ some. let none = ap (λ (l : List LinkEvent). is_empty l) idle_a.none_owed in cc;
      b = λ some. let none = ap (λ (l : List LinkEvent). is_empty l) idle_b.none_owed in cc;
    })

carries_within : {S T G H : Type 0} (U : Upper S G) (V : Upper T H) (doings : List Doing) (old new : Carriage S T) → Carries U V doings old new → Within old → Within new
carries_within U V [] old new same within = rw same within
carries_within U V (doing ∷ doings) old new (mid, does, runs) within = carries_within U V doings mid new runs (done_within U V doing old mid does within)

pub links_within_pushes : {S T G H : Type 0} (U : Upper S G) (V : Upper T H) → LinksWithinPushes U V
links_within_pushes U V size names doings c runs =
    let all = carries_within U V doings (first_carriage U V size names) c runs (record { link = λ up. cc; a = λ some. cc; b = λ some. cc }) in (all.a, all.b)
