-- A packet that was heard, as those see it that know no names of sayings.
use Rattle.std.proofs.Common.{◌≡◌, ℕ, Bool, true, false, List, [], ◌∷◌, ◌++◌, length, drop, Option, is_none, IfSome, Ok, Err, IsErrOf, refl, ap, sym, subst, ◌∙◌, append-nil}
use Rattle.std.specs.Option.{option_map}
use Rattle.bt_base.specs.Objects.{Contents}
use Rattle.bt_base.specs.declared.ports.PortFault.TheVariants.{Failed, NoMemory}
use Rattle.obex_session.specs.declared.course.Course.{Course}
use Rattle.obex_session.specs.declared.course.Verdict.{Verdict}
use Rattle.obex_session.specs.declared.course.Verdict.TheVariants.{Open, Whole, Ended, PassedOver}
use Rattle.obex_session.specs.declared.marks.Kind.{Kind}
use Rattle.obex_session.specs.declared.responding.Saying.{Saying}
use Rattle.obex_session.specs.declared.responding.Saying.TheVariants as saying
use Rattle.obex_session.specs.declared.server.Reply.{Reply}
use Rattle.obex_session.specs.InboxCalls.{InboxCall, Answer, come_of, left_by, held_after, done_by}
use Rattle.obex_session.specs.Counting.{Counts}
use Rattle.obex_session.specs.Past.{Serving}
use Rattle.obex_session.specs.Serving.{Hears, Says, Turn, heard_with, kind_heard, ruling_on, outcome_on, verdict_or}
use Rattle.obex_session.specs.Turns.{said_after, said_open, said_whole, is_first_in, is_single_in}
use Rattle.obex_session.proofs.CountingLaws.{counted_by}
use Rattle.obex_session.specs.Views.{Viewed, viewed, octets_said, is_shortage, count_in, IsAnswered}

-- ---- answers that are left over

-- where the calls leave every rest, what they do does not look at it
held_ahead : (calls : List InboxCall) (used : List Answer) (content : Option Contents) → ((rest : List Answer) → left_by calls (used ++ rest) ≡ rest) → (rest : List Answer) → held_after calls (used ++ rest) content ≡ held_after calls used content
held_ahead [] used content leaves rest = refl
held_ahead (call ∷ calls) [] content leaves rest = absurd (let e : [] ≡ Err Failed ∷ [] = leaves (Err Failed ∷ []) in cc)
held_ahead (call ∷ calls) (Ok done ∷ used) content leaves rest = held_ahead calls used (option_map (done_by call) content) leaves rest
held_ahead (call ∷ calls) (Err fault ∷ used) content leaves rest = refl

-- ---- want of memory

open_is_said : (first single : Bool) → is_shortage (said_open first single) ≡ true → ⊥
open_is_said true true e = absurd cc
open_is_said true false e = absurd cc
open_is_said false true e = absurd cc
open_is_said false false e = absurd cc

whole_is_said : (first single : Bool) → is_shortage (said_whole first single) ≡ true → ⊥
whole_is_said true true e = absurd cc
whole_is_said true false e = absurd cc
whole_is_said false true e = absurd cc
whole_is_said false false e = absurd cc

short_of : (offered : Bool) (course : Course) (kind : Kind) (verdict : Verdict) (come : Answer) → is_shortage (said_after offered course kind (verdict_or verdict come)) ≡ true → IsErrOf come NoMemory
short_of offered course kind (Open progress) (Ok done) e = absurd (open_is_said (is_first_in course) (is_single_in offered course kind) e)
short_of offered course kind Whole (Ok done) e = absurd (whole_is_said (is_first_in course) (is_single_in offered course kind) e)
short_of offered course kind (Ended code) (Ok done) e = absurd cc
short_of offered course kind (PassedOver final) (Ok done) e = absurd cc
short_of offered course kind verdict (Err Failed) e = absurd cc
short_of offered course kind verdict (Err NoMemory) e = refl

-- ---- what was written

short_is : (packet : List ℕ) (maximum : ℕ) (said : Saying) (room room' : List ℕ) (answer : Reply) → Says packet maximum said room room' answer → is_shortage said ≡ is_none (count_in answer)
short_is packet maximum (saying.Response code) room room' answer says = ap (λ (a : Reply). is_none (count_in a)) (sym says.0)
short_is packet maximum (saying.Confirmation code) room room' answer says = ap (λ (a : Reply). is_none (count_in a)) (sym says.0)
short_is packet maximum saying.Silence room room' answer says = ap (λ (a : Reply). is_none (count_in a)) (sym says.0)
short_is packet maximum saying.NoMemory room room' answer says = ap (λ (a : Reply). is_none (count_in a)) (sym says.0)

abbrev Written : List ℕ → List ℕ → List ℕ → Reply → Type 0
Written response room room' answer = IfSome (count_in answer) (λ count. (count ≡ length response) × (room' ≡ response ++ drop count room))

written : (packet : List ℕ) (maximum : ℕ) (said : Saying) (room room' : List ℕ) (answer : Reply) → Says packet maximum said room room' answer → Written (octets_said packet maximum said) room room' answer
written packet maximum (saying.Response code) room room' answer says = subst (λ (a : Reply). Written (octets_said packet maximum (saying.Response code)) room room' a) (sym says.0) (refl, says.1)
written packet maximum (saying.Confirmation code) room room' answer says = subst (λ (a : Reply). Written (octets_said packet maximum (saying.Confirmation code)) room room' a) (sym says.0) (refl, says.1)
written packet maximum saying.Silence room room' answer says = subst (λ (a : Reply). Written [] room room' a) (sym says.0) (refl, says.1)
written packet maximum saying.NoMemory room room' answer says = subst (λ (a : Reply). Written [] room room' a) (sym says.0) tt

none_is : (packet : List ℕ) (maximum : ℕ) (said : Saying) (lacks : Bool) → is_shortage said ≡ lacks → lacks ≡ true → octets_said packet maximum said ≡ []
none_is packet maximum (saying.Response code) lacks short e = absurd (let f : false ≡ true = short ∙ e in cc)
none_is packet maximum (saying.Confirmation code) lacks short e = absurd (let f : false ≡ true = short ∙ e in cc)
none_is packet maximum saying.Silence lacks short e = refl
none_is packet maximum saying.NoMemory lacks short e = refl

-- ---- the call

viewed_is : (session session' : Serving) (packet : List ℕ) (answers left : List Answer) (said : Saying) (lacks : Bool) → heard_with session packet answers ≡ record { session = session'; saying = said; left = left } → is_shortage said ≡ lacks
    → viewed session packet answers ≡ record { session = session'; response = octets_said packet session.maximum said; short = lacks; left = left }
viewed_is session session' packet answers left said lacks turn short =
    ap (λ (t : Turn). (let v : Viewed = record { session = t.session; response = octets_said packet session.maximum t.saying; short = is_shortage t.saying; left = t.left } in v)) turn
    ∙ ap (λ (b : Bool). (let v : Viewed = record { session = session'; response = octets_said packet session.maximum said; short = b; left = left } in v)) short

pub answered : (session session' : Serving) (packet : List ℕ) (content content' : Option Contents) (old new : Counts) (room room' : List ℕ) (answer : Reply) → Hears session session' packet content content' old.faults new.faults old.shortages new.shortages room room' answer
    → IsAnswered session session' packet content content' old new room room' answer
answered session session' packet content content' old new room room' answer hears =
    let calls = (ruling_on session packet).calls in
    let short = short_is packet session.maximum hears.saying room room' answer hears.says in
    let said : is_shortage (heard_with session packet (hears.used ++ [])).saying ≡ is_none (count_in answer) = ap (λ (t : Turn). is_shortage t.saying) (hears.turn []) ∙ short in
    record {
      used = hears.used;
      counted = counted_by calls hears.used old new (λ others. ap (λ (t : Turn). t.left) (hears.turn others)) hears.cause;
      response = octets_said packet session.maximum hears.saying;
      turn = λ rest. viewed_is session session' packet (hears.used ++ rest) rest hears.saying (is_none (count_in answer)) (hears.turn rest) short;
      held = λ rest. held_ahead calls hears.used content (λ others. ap (λ (t : Turn). t.left) (hears.turn others)) rest ∙ sym hears.content_is;
      written = written packet session.maximum hears.saying room room' answer hears.says;
      none = λ lacks. none_is packet session.maximum hears.saying (is_none (count_in answer)) short lacks;
      short = λ lacks. hears.cause.short (short_of session.offered session.course (kind_heard session packet) (ruling_on session packet).verdict (come_of calls hears.used)
          (ap (λ (a : List Answer). is_shortage (said_after session.offered session.course (kind_heard session packet) (outcome_on session packet a))) (sym (append-nil hears.used)) ∙ said ∙ lacks));
    }
