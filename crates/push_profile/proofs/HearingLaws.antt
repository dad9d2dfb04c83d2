-- A packet is heard over one of two transports.
use Rattle.std.proofs.Common.{◌≡◌, ℕ, ◌≤◌, Bool, true, false, ◌||◌, ◌&&◌, List, [], ◌++◌, length, drop, Option, Some, is_none, IfSome, IfOk, Result, Ok, Err, refl, sym, ap, subst, ◌∙◌, if◌then◌else◌, IsTrue, is_err, inl, inr, arith, append_assoc}
use Rattle.bt_base.specs.Counts.{HasRisen}
use Rattle.bt_base.specs.Objects.{Contents}
use Rattle.bt_base.specs.declared.no_memory.NoMemory.{NoMemory}
use Rattle.bt_base.specs.declared.settings.Transport.{Transport}
use Rattle.bt_base.specs.declared.settings.Transport.TheVariants.{L2cap, Rfcomm}
use Rattle.obex_session.specs.Counting.{Counts}
use Rattle.obex_session.specs.declared.server.Reply.{Reply}
use Rattle.obex_session.specs.InboxCalls.{Answer}
use Rattle.obex_session.specs.Past.{Serving}
use Rattle.obex_session.specs.Serving as serving
use Rattle.obex_session.specs.Views.{Viewed, count_in}
use Rattle.obex_session.proofs.CountingLaws.{rises_last, counted_then}
use Rattle.obex_session.proofs.ViewLaws.{answered}
use Rattle.push_model.specs.Sessions.{Sessions, Gift, Parted, Heard, session_of, other_of, with_session, has_object, is_naming, lets_go, answers_to, hears_after, hears}
use Rattle.push_profile.specs.Reactions.{given, LetsGo, AnswersTo, HearsPacket}

-- ---- what is pending

pub after_of : (own naming other own' : Bool) (before after : Bool) → (own && other) ≡ false → (naming ≡ true → other ≡ false) → before ≡ (own || other)
    → ((own || naming) ≡ true → after ≡ own') → ((own || naming) ≡ false → after ≡ before) → ((own || naming) ≡ false → own' ≡ false) → after ≡ (own' || other)
after_of true naming true own' before after single name was minds unasked none = absurd (let e : true ≡ false = single in cc)
after_of true naming false true before after single name was minds unasked none = minds refl
after_of true naming false false before after single name was minds unasked none = minds refl
after_of false true true own' before after single name was minds unasked none = absurd (let e : true ≡ false = name refl in cc)
after_of false true false true before after single name was minds unasked none = minds refl
after_of false true false false before after single name was minds unasked none = minds refl
after_of false false other true before after single name was minds unasked none = absurd (let e : true ≡ false = none refl in cc)
after_of false false other false before after single name was minds unasked none = unasked refl ∙ was

-- ---- one session

heard_is : (sessions sessions' : Sessions) (response response' : List ℕ) (short short' : Bool) (gift gift' : Gift) → sessions ≡ sessions' → response ≡ response' → short ≡ short' → gift ≡ gift'
    → (let a : Heard = record { sessions = sessions; response = response; short = short; gift = gift } in a) ≡ record { sessions = sessions'; response = response'; short = short'; gift = gift' }
heard_is sessions sessions' response response' short short' gift gift' a b c d = cc

gift_is : (content content' : Option Contents) (answers rest : List Answer) → content ≡ content' → answers ≡ rest → given content answers ≡ given content' rest
gift_is content content' answers rest a b = cc

abbrev IsWritten : List ℕ → List ℕ → List ℕ → ℕ → Type 0
IsWritten response room room' count = (count ≡ length response) × (room' ≡ response ++ drop count room)

written_by : (response room room' : List ℕ) (counted : Option ℕ) (result : Result ℕ NoMemory) → IfOk result (λ count. counted ≡ Some count) → IfSome counted (IsWritten response room room') → IfOk result (IsWritten response room room')
written_by response room room' counted (Ok count) is written = subst (λ (o : Option ℕ). IfSome o (IsWritten response room room')) is written
written_by response room room' counted (Err lack) is written = tt

lacks_by : (counted : Option ℕ) (result : Result ℕ NoMemory) → is_err result ≡ is_none counted → IsTrue (is_err result) → is_none counted ≡ true
lacks_by counted (Ok count) lacks e = absurd cc
lacks_by counted (Err lack) lacks e = sym lacks

pub answers : (transport : Transport) (old : Sessions) (session' : Serving) (packet : List ℕ) (content content' : Option Contents) (s s' : Counts) (room room' : List ℕ) (answer : Reply) (result : Result ℕ NoMemory)
    → serving.Hears (session_of transport old) session' packet content content' s.faults s'.faults s.shortages s'.shortages room room' answer → IfOk result (λ count. count_in answer ≡ Some count) → is_err result ≡ is_none (count_in answer)
    → AnswersTo transport old (with_session transport session' old) packet content content' s s' room room' result
answers transport old session' packet content content' s s' room room' answer result hears count lacks =
    let done = answered (session_of transport old) session' packet content content' s s' room room' answer hears in
    record {
      used = done.used;
      response = done.response;
      heard = λ rest. heard_is _ _ _ _ _ _ _ _ (ap (λ (v : Viewed). with_session transport v.session old) (done.turn rest)) (ap (λ (v : Viewed). v.response) (done.turn rest))
          (ap (λ (v : Viewed). v.short) (done.turn rest) ∙ sym lacks) (gift_is _ _ _ _ (done.held rest) (ap (λ (v : Viewed). v.left) (done.turn rest)));
      written = written_by done.response room room' (count_in answer) result count done.written;
      none = λ e. done.none (lacks_by (count_in answer) result lacks e);
      short = λ e. done.short (lacks_by (count_in answer) result lacks e);
      counted = done.counted;
    }

-- ---- a Name

pub free : (o : Transport) (old mid : Sessions) (content content' : Option Contents) (s s' : Counts) (result : Result (Unit {0}) NoMemory) → LetsGo o old mid content content' s s' result → has_object (session_of o mid) ≡ false
free L2cap old mid content content' s s' result lets = ap (λ (p : Parted). has_object p.sessions.direct) (sym (lets.parted []))
free Rfcomm old mid content content' s s' result lets = ap (λ (p : Parted). has_object p.sessions.carried) (sym (lets.parted []))

pub named_short : (t : Transport) (old mid : Sessions) (packet : List ℕ) (content content' : Option Contents) (s s' : Counts) (room : List ℕ) (lack other : NoMemory) → is_naming t packet old ≡ true
    → LetsGo (other_of t) old mid content content' s s' (Err lack) → HearsPacket t old mid packet content content' s s' room room (Err other)
named_short t old mid packet content content' s s' room lack other name lets = record {
  used = lets.used;
  response = [];
  heard = λ rest. let gift = given content (lets.used ++ rest) in
      ap (λ (b : Bool). (if b then hears_after t packet (lets_go (other_of t) old gift) else answers_to t packet old gift)) name ∙ ap (hears_after t packet) (lets.parted rest);
  written = tt;
  none = λ e. refl;
  short = λ e. lets.short e;
  counted = lets.counted;
}

pub named : (t : Transport) (old mid new : Sessions) (packet : List ℕ) (c0 c1 c2 : Option Contents) (s0 s1 s2 : Counts) (room room' : List ℕ) (done : Unit {0}) (result : Result ℕ NoMemory) → is_naming t packet old ≡ true
    → LetsGo (other_of t) old mid c0 c1 s0 s1 (Ok done) → AnswersTo t mid new packet c1 c2 s1 s2 room room' result → HearsPacket t old new packet c0 c2 s0 s2 room room' result
named t old mid new packet c0 c1 c2 s0 s1 s2 room room' done result name lets answer = record {
  used = lets.used ++ answer.used;
  response = answer.response;
  heard = λ rest.
      ap (λ (a : List Answer). hears t packet old (given c0 a)) (append_assoc lets.used answer.used rest)
      ∙ ap (λ (b : Bool). (if b then hears_after t packet (lets_go (other_of t) old (given c0 (lets.used ++ (answer.used ++ rest)))) else answers_to t packet old (given c0 (lets.used ++ (answer.used ++ rest))))) name
      ∙ ap (hears_after t packet) (lets.parted (answer.used ++ rest)) ∙ answer.heard rest;
  written = answer.written;
  none = answer.none;
  short = λ e. rises_last s0.shortages s1.shortages s2.shortages lets.counted.shortages_stay answer.counted.shortages_stay (answer.short e);
  counted = counted_then lets.used answer.used s0 s1 s2 lets.counted answer.counted;
}

pub nameless : (t : Transport) (old new : Sessions) (packet : List ℕ) (content content' : Option Contents) (s s' : Counts) (room room' : List ℕ) (result : Result ℕ NoMemory) → is_naming t packet old ≡ false
    → AnswersTo t old new packet content content' s s' room room' result → HearsPacket t old new packet content content' s s' room room' result
nameless t old new packet content content' s s' room room' result name answer = record {
  used = answer.used;
  response = answer.response;
  heard = λ rest. let gift = given content (answer.used ++ rest) in
      ap (λ (b : Bool). (if b then hears_after t packet (lets_go (other_of t) old gift) else answers_to t packet old gift)) name ∙ answer.heard rest;
  written = answer.written;
  none = answer.none;
  short = answer.short;
  counted = answer.counted;
}

pub or_swap : (a b : Bool) → (a || b) ≡ (b || a)
or_swap true true = refl
or_swap true false = refl
or_swap false true = refl
or_swap false false = refl

pub and_swap : (a b : Bool) → (a && b) ≡ (b && a)
and_swap true true = refl
and_swap true false = refl
and_swap false true = refl
and_swap false false = refl
