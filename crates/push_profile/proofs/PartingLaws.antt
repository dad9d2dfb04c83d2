-- An object is let go.
use Rattle.std.proofs.Common.{◌≡◌, ℕ, Bool, true, false, List, [], ◌∷◌, ◌++◌, Option, Some, None, Result, Ok, Err, refl, sym, ap, ◌∙◌, if◌then◌else◌, is_ok, is_err}
use Rattle.std.specs.Option.{option_map}
use Rattle.bt_base.specs.Objects.{Contents}
use Rattle.bt_base.specs.declared.no_memory.NoMemory.{NoMemory}
use Rattle.bt_base.specs.declared.ports.PortFault.TheVariants as fault
use Rattle.bt_base.specs.declared.settings.Transport.{Transport}
use Rattle.obex_session.specs.Counting.{Counts, AreCounted}
use Rattle.obex_session.proofs.CountingLaws.{rises_none}
use Rattle.obex_session.specs.InboxCalls.{Abort, Answer, come_of, left_by, all_done, held_after}
use Rattle.obex_session.specs.Past.{Serving}
use Rattle.obex_session.specs.Serving as serving
use Rattle.push_model.specs.Sessions.{Sessions, Gift, Parted, session_of, with_session, has_object, is_short}
use Rattle.push_profile.specs.Reactions.{given, LetsGo}

pub parted_is : (sessions sessions' : Sessions) (short short' : Bool) (gift gift' : Gift) → sessions ≡ sessions' → short ≡ short' → gift ≡ gift'
    → (let a : Parted = record { sessions = sessions; short = short; gift = gift } in a) ≡ record { sessions = sessions'; short = short'; gift = gift' }
parted_is sessions sessions' short short' gift gift' a b c = cc

-- what the inbox answered
abbrev used_by : Bool → Result (Unit {0}) NoMemory → List Answer
used_by false (Ok done) = []
used_by true (Ok done) = Ok tt ∷ []
used_by under (Err lack) = Err fault.NoMemory ∷ []

held_by : (under : Bool) (result : Result (Unit {0}) NoMemory) (content : Option Contents) (rest : List Answer) → (under ≡ false → is_ok result ≡ true) → held_after (if under then Abort ∷ [] else []) (used_by under result ++ rest) content ≡ option_map (all_done (if under then Abort ∷ [] else [])) content
held_by false (Ok done) None rest sure = refl
held_by false (Ok done) (Some contents) rest sure = refl
held_by true (Ok done) None rest sure = refl
held_by true (Ok done) (Some contents) rest sure = refl
held_by true (Err lack) None rest sure = refl
held_by true (Err lack) (Some contents) rest sure = refl
held_by false (Err lack) content rest sure = absurd (let e : false ≡ true = sure refl in cc)

short_by : (under : Bool) (result : Result (Unit {0}) NoMemory) (rest : List Answer) → (under ≡ false → is_ok result ≡ true) → is_short (come_of (if under then Abort ∷ [] else []) (used_by under result ++ rest)) ≡ is_err result
short_by false (Ok done) rest sure = refl
short_by true (Ok done) rest sure = refl
short_by true (Err lack) rest sure = refl
short_by false (Err lack) rest sure = absurd (let e : false ≡ true = sure refl in cc)

left_with : (under : Bool) (result : Result (Unit {0}) NoMemory) (rest : List Answer) → (under ≡ false → is_ok result ≡ true) → left_by (if under then Abort ∷ [] else []) (used_by under result ++ rest) ≡ rest
left_with false (Ok done) rest sure = refl
left_with true (Ok done) rest sure = refl
left_with true (Err lack) rest sure = refl
left_with false (Err lack) rest sure = absurd (let e : false ≡ true = sure refl in cc)

gift_is : (content content' : Option Contents) (answers rest : List Answer) → content ≡ content' → answers ≡ rest → given content answers ≡ given content' rest
gift_is content content' answers rest a b = cc

-- what the inbox answered is what its counts say
counted_as : (under : Bool) (s s' : Counts) (result : Result (Unit {0}) NoMemory) → serving.CountsShortages s.faults s'.faults s.shortages s'.shortages result → AreCounted (used_by under result) s s'
counted_as false s s' (Ok done) counts = record { faults_stay = counts.faults_stay; shortages_stay = counts.shortages_stay; granted = λ no_fault no_lack. tt; none_short = λ no_lack. tt; few = λ no_lack. rises_none s.faults s'.faults counts.faults_stay }
counted_as true s s' (Ok done) counts = record { faults_stay = counts.faults_stay; shortages_stay = counts.shortages_stay; granted = λ no_fault no_lack. (refl, tt); none_short = λ no_lack. ((λ e. absurd cc), tt); few = λ no_lack. rises_none s.faults s'.faults counts.faults_stay }
counted_as false s s' (Err lack) counts = record { faults_stay = counts.faults_stay; shortages_stay = counts.shortages_stay; granted = λ no_fault no_lack. absurd (no_lack (counts.short refl)); none_short = λ no_lack. absurd (no_lack (counts.short refl)); few = λ no_lack. absurd (no_lack (counts.short refl)) }
counted_as true s s' (Err lack) counts = record { faults_stay = counts.faults_stay; shortages_stay = counts.shortages_stay; granted = λ no_fault no_lack. absurd (no_lack (counts.short refl)); none_short = λ no_lack. absurd (no_lack (counts.short refl)); few = λ no_lack. absurd (no_lack (counts.short refl)) }

pub parts : (transport : Transport) (old : Sessions) (session' : Serving) (content content' : Option Contents) (pending pending' : Bool) (s s' : Counts) (result : Result (Unit {0}) NoMemory)
    → serving.LetsGo (session_of transport old) session' content content' → (has_object (session_of transport old) ≡ false → serving.IsUnasked pending pending' s.faults s'.faults s.shortages s'.shortages result)
    → serving.CountsShortages s.faults s'.faults s.shortages s'.shortages result → LetsGo transport old (with_session transport session' old) content content' s s' result
parts transport old session' content content' pending pending' s s' result lets unasked counts =
    let under = has_object (session_of transport old) in
    let sure : (under ≡ false → is_ok result ≡ true) = λ e. (unasked e).succeeds in
    record {
      used = used_by under result;
      parted = λ rest. parted_is _ _ _ _ _ _ (ap (λ (x : Serving). with_session transport x old) (sym lets.session_is)) (short_by under result rest sure)
          (gift_is _ _ _ _ (held_by under result content rest sure ∙ sym lets.content_is) (left_with under result rest sure));
      short = counts.short;
      counted = counted_as under s s' result counts;
    }
