-- A listener hears a stream step by step.
use Rattle.std.proofs.Common.{◌≡◌, ℕ, zero, suc, ◌<◌, ◌≤◌, Bool, true, false, ◌||◌, List, [], ◌∷◌, ◌++◌, length, take, drop, slice_index, Option, Some, None, Result, Ok, Err, refl, sym, ap, subst, ◌∙◌, if◌then◌else◌, IsTrue, is_err, arith, take-append-drop, append_assoc, inl, inr}
use Rattle.bt_base.specs.Counts.{HasRisen}
use Rattle.bt_base.specs.Objects.{Contents}
use Rattle.bt_base.specs.declared.no_memory.NoMemory.{NoMemory}
use Rattle.obex_headers.specs.declared.fault.ObexRefusal.{ObexRefusal}
use Rattle.obex_headers.specs.declared.fault.ObexRefusal.TheVariants.{Short, BadLength, BadHeaderLength, BadText, AboveMaximum, BadVersion}
use Rattle.obex_headers.specs.declared.assembler.Assembled.{Assembled}
use Rattle.obex_headers.specs.Assembled.{answer_of}
use Rattle.obex_headers.specs.Assembling as assembling
use Rattle.obex_headers.specs.Assembling.{Assembling, Answers, IsFramed, IsPartial, BeginsNone, fresh}
use Rattle.obex_session.specs.Counting.{Counts}
use Rattle.obex_session.specs.InboxCalls.{Answer}
use Rattle.obex_session.proofs.CountingLaws.{rises_last, counted_none, counted_then}
use Rattle.push_model.proofs.StreamLaws.{whole_front, partial_front, broken_front}
use Rattle.push_model.specs.Sessions.{Gift}
use Rattle.push_model.specs.Streams.{Front, Whole, Partial, Broken, front_of}
use Rattle.push_model.specs.Listening.{Listener, Heeded, Received, heeds_carried, heeds_broken, stops, received, hears_on, hears_front, hears_stream}
use Rattle.push_profile.specs.Reactions.{given, Comes}
use Rattle.push_profile.specs.Hearing.{heeded, ended, longest, Suits}

-- ---- reactions

-- both ends of a reaction go on alike
pub comes_by : {R S : Type 0} (f : R → S) (reaction end : Gift → R) (c c' : Option Contents) (s s' : Counts) (lacks : Bool) → Comes reaction end c c' s s' lacks → Comes (λ gift. f (reaction gift)) (λ gift. f (end gift)) c c' s s' lacks
comes_by f reaction end c c' s s' lacks comes = record { used = comes.used; comes = λ rest. ap f (comes.comes rest); short = comes.short; counted = comes.counted }

-- they are the same whatever the inbox answers
pub comes_as : {R : Type 0} (reaction reaction' end end' : Gift → R) (c c' : Option Contents) (s s' : Counts) (lacks : Bool) → ((gift : Gift) → reaction' gift ≡ reaction gift) → ((gift : Gift) → end gift ≡ end' gift)
    → Comes reaction end c c' s s' lacks → Comes reaction' end' c c' s s' lacks
comes_as reaction reaction' end end' c c' s s' lacks same same' comes =
    record { used = comes.used; comes = λ rest. same (given c (comes.used ++ rest)) ∙ comes.comes rest ∙ same' (given c' rest); short = comes.short; counted = comes.counted }

-- one after the other
pub comes_then : {R : Type 0} (reaction middle end : Gift → R) (c0 c1 c2 : Option Contents) (s0 s1 s2 : Counts) (lacks lacks' : Bool) → Comes reaction middle c0 c1 s0 s1 lacks → Comes middle end c1 c2 s1 s2 lacks' → Comes reaction end c0 c2 s0 s2 lacks'
comes_then reaction middle end c0 c1 c2 s0 s1 s2 lacks lacks' first second = record {
  used = first.used ++ second.used;
  comes = λ rest. ap (λ (a : List Answer). reaction (given c0 a)) (append_assoc first.used second.used rest) ∙ first.comes (second.used ++ rest) ∙ second.comes rest;
  short = λ e. rises_last s0.shortages s1.shortages s2.shortages first.counted.shortages_stay second.counted.shortages_stay (second.short e);
  counted = counted_then first.used second.used s0 s1 s2 first.counted second.counted;
}

-- nothing is asked
pub comes_at_once : {R : Type 0} (reaction end : Gift → R) (c : Option Contents) (s : Counts) → ((gift : Gift) → reaction gift ≡ end gift) → Comes reaction end c c s s false
comes_at_once reaction end c s same = record { used = []; comes = λ rest. same (given c rest); short = λ e. absurd (let f : false ≡ true = e in cc); counted = counted_none s }

-- ---- the front of a stream

abbrev More : Type 0
More = List ℕ → Listener → Gift → Received

where_parts : (held piece : List ℕ) (used : ℕ) → held ++ piece ≡ (held ++ take used piece) ++ drop used piece
where_parts held piece used = sym (append_assoc held (take used piece) (drop used piece) ∙ ap (λ (x : List ℕ). held ++ x) (take-append-drop used piece))

front_whole : (held piece packet : List ℕ) (used maximum : ℕ) (old : Listener) → packet ≡ held ++ take used piece → IsFramed maximum packet → maximum ≡ longest old
    → front_of (longest old) (held ++ piece) ≡ Whole packet (drop used piece)
front_whole held piece packet used maximum old is framed most =
    ap (λ (m : ℕ). front_of m (held ++ piece)) (sym most) ∙ ap (front_of maximum) (where_parts held piece used) ∙ ap (λ (p : List ℕ). front_of maximum (p ++ drop used piece)) (sym is) ∙ whole_front maximum packet (drop used piece) framed

-- a whole packet is heard, and then nothing more
pub packet_stops : (more : More) (held piece packet : List ℕ) (used maximum : ℕ) (old new : Listener) (c c' : Option Contents) (s s' : Counts) (lacks : Bool)
    → used ≤ length piece → packet ≡ held ++ take used piece → IsFramed maximum packet → maximum ≡ longest old → stops new ≡ true
    → Comes (heeds_carried packet old) (heeded new) c c' s s' lacks
    → Comes (hears_front more (held ++ piece) (front_of (longest old) (held ++ piece)) old) (ended new []) c c' s s' lacks
packet_stops more held piece packet used maximum old new c c' s s' lacks within is framed most stopped comes =
    comes_as _ _ _ _ c c' s s' lacks
    (λ gift. ap (λ (f : Front). hears_front more (held ++ piece) f old gift) (front_whole held piece packet used maximum old is framed most))
    (λ gift. ap (λ (b : Bool). (if b then received [] (heeded new gift) else more (drop used piece) new gift)) stopped)
    (comes_by (hears_on (more (drop used piece))) _ _ c c' s s' lacks comes)

-- a whole packet is heard, and what follows it
pub packet_goes_on : (more : More) (held piece packet : List ℕ) (used maximum : ℕ) (old new : Listener) (c c' : Option Contents) (s s' : Counts) (lacks : Bool)
    → used ≤ length piece → packet ≡ held ++ take used piece → IsFramed maximum packet → maximum ≡ longest old → stops new ≡ false
    → Comes (heeds_carried packet old) (heeded new) c c' s s' lacks
    → Comes (hears_front more (held ++ piece) (front_of (longest old) (held ++ piece)) old) (more (drop used piece) new) c c' s s' lacks
packet_goes_on more held piece packet used maximum old new c c' s s' lacks within is framed most stopped comes =
    comes_as _ _ _ _ c c' s s' lacks
    (λ gift. ap (λ (f : Front). hears_front more (held ++ piece) f old gift) (front_whole held piece packet used maximum old is framed most))
    (λ gift. ap (λ (b : Bool). (if b then received [] (heeded new gift) else more (drop used piece) new gift)) stopped)
    (comes_by (hears_on (more (drop used piece))) _ _ c c' s s' lacks comes)

-- less than a whole packet is held
pub part_is_held : (more : More) (held piece : List ℕ) (maximum : ℕ) (old : Listener) (c : Option Contents) (s : Counts) → IsPartial maximum (held ++ piece) → maximum ≡ longest old
    → Comes (hears_front more (held ++ piece) (front_of (longest old) (held ++ piece)) old) (ended old (held ++ piece)) c c s s false
part_is_held more held piece maximum old c s partial most =
    comes_at_once _ _ c s (λ gift. ap (λ (f : Front). hears_front more (held ++ piece) f old gift) (ap (λ (m : ℕ). front_of m (held ++ piece)) (sym most) ∙ partial_front maximum (held ++ piece) partial))

-- octets that begin no packet
pub broken_is_heard : (more : More) (held piece octets : List ℕ) (maximum : ℕ) (refusal : ObexRefusal) (old new : Listener) (c c' : Option Contents) (s s' : Counts) (lacks : Bool)
    → BeginsNone maximum (held ++ piece) refusal → maximum ≡ longest old → octets ≡ take 3 (held ++ piece)
    → Comes (heeds_broken octets old) (heeded new) c c' s s' lacks
    → Comes (hears_front more (held ++ piece) (front_of (longest old) (held ++ piece)) old) (ended new []) c c' s s' lacks
broken_is_heard more held piece octets maximum refusal old new c c' s s' lacks begins most first comes =
    comes_as _ _ _ _ c c' s s' lacks
    (λ gift. ap (λ (f : Front). hears_front more (held ++ piece) f old gift) (ap (λ (m : ℕ). front_of m (held ++ piece)) (sym most) ∙ broken_front maximum (held ++ piece) refusal begins)
    ∙ ap (λ (o : List ℕ). received [] (heeds_broken o old gift)) (sym first))
    (λ gift. refl)
    (comes_by (received []) _ _ c c' s s' lacks comes)

-- ---- what an assembler answers

pub packet_answer : (old : Assembling) (piece : List ℕ) (result : Assembled) (answer : assembling.Answer) (after : Assembling) → answer_of result ≡ answer → Answers old piece (answer_of result) after → Answers old piece answer after
packet_answer old piece result answer after is holds = subst (λ (a : assembling.Answer). Answers old piece a after) is holds

pub packet_ends : (more : More) (old : Assembling) (piece packet : List ℕ) (used : ℕ) (after : Assembling) (l new : Listener) (c c' : Option Contents) (s s' : Counts) (lacks : Bool)
    → Suits old l → Answers old piece (assembling.Packet packet used) after → stops new ≡ true → Comes (heeds_carried packet l) (heeded new) c c' s s' lacks
    → Comes (hears_front more (old.held ++ piece) (front_of (longest l) (old.held ++ piece)) l) (ended new after.held) c c' s s' lacks
packet_ends more old piece packet used after l new c c' s s' lacks suits holds stopped comes =
    subst (λ (h : List ℕ). Comes (hears_front more (old.held ++ piece) (front_of (longest l) (old.held ++ piece)) l) (ended new h) c c' s s' lacks) (sym (ap (λ (a : Assembling). a.held) holds.5))
    (packet_stops more old.held piece packet used old.maximum l new c c' s s' lacks holds.2 holds.3 holds.4 suits.maximum stopped comes)

pub packet_follows : (more : More) (old : Assembling) (piece packet : List ℕ) (used : ℕ) (after : Assembling) (l new : Listener) (c c' : Option Contents) (s s' : Counts) (lacks : Bool)
    → Suits old l → Answers old piece (assembling.Packet packet used) after → stops new ≡ false → Comes (heeds_carried packet l) (heeded new) c c' s s' lacks
    → Comes (hears_front more (old.held ++ piece) (front_of (longest l) (old.held ++ piece)) l) (more (drop used piece) new) c c' s s' lacks
packet_follows more old piece packet used after l new c c' s s' lacks suits holds stopped comes =
    packet_goes_on more old.held piece packet used old.maximum l new c c' s s' lacks holds.2 holds.3 holds.4 suits.maximum stopped comes

pub part_ends : (more : More) (old : Assembling) (piece : List ℕ) (after : Assembling) (l : Listener) (c : Option Contents) (s : Counts) → Suits old l → Answers old piece assembling.More after
    → Comes (hears_front more (old.held ++ piece) (front_of (longest l) (old.held ++ piece)) l) (ended l after.held) c c s s false
part_ends more old piece after l c s suits holds =
    subst (λ (h : List ℕ). Comes (hears_front more (old.held ++ piece) (front_of (longest l) (old.held ++ piece)) l) (ended l h) c c s s false) (sym (ap (λ (a : Assembling). a.held) holds.2))
    (part_is_held more old.held piece old.maximum l c s holds.1 suits.maximum)

pub broken_ends : (more : More) (old : Assembling) (piece : List ℕ) (refusal : ObexRefusal) (mid after : Assembling) (lent octets : List ℕ) (l new : Listener) (c c' : Option Contents) (s s' : Counts) (lacks : Bool)
    → Suits old l → Answers old piece (assembling.Refused refusal) mid → lent ≡ mid.held → octets ≡ take 3 (lent ++ piece) → after ≡ fresh mid.maximum → Comes (heeds_broken octets l) (heeded new) c c' s s' lacks
    → Comes (hears_front more (old.held ++ piece) (front_of (longest l) (old.held ++ piece)) l) (ended new after.held) c c' s s' lacks
broken_ends more old piece refusal mid after lent octets l new c c' s s' lacks suits (inl holds) is first ends comes = absurd (let e : Some refusal ≡ None = sym holds.0 ∙ suits.sound in cc)
broken_ends more old piece refusal mid after lent octets l new c c' s s' lacks suits (inr holds) is first ends comes =
    subst (λ (h : List ℕ). Comes (hears_front more (old.held ++ piece) (front_of (longest l) (old.held ++ piece)) l) (ended new h) c c' s s' lacks) (sym (ap (λ (a : Assembling). a.held) ends))
    (broken_is_heard more old.held piece octets old.maximum refusal l new c c' s s' lacks holds.1 suits.maximum (first ∙ ap (λ (h : List ℕ). take 3 (h ++ piece)) (is ∙ ap (λ (a : Assembling). a.held) holds.2)) comes)

pub or_right : (a b : Bool) → b ≡ true → (a || b) ≡ true
or_right true b e = refl
or_right false b e = e

-- ---- all of it

-- the stream so far comes to what is left of it, in as many steps as it has octets or more
pub record IsLeft (total stream : List ℕ) (old now : Listener) (c c' : Option Contents) (s s' : Counts) : Type 0 where
  pub steps : ℕ
  pub enough : length stream ≤ steps
  pub comes : Comes (hears_stream (length total) total old) (hears_stream steps stream now) c c' s s' false

pub left_whole : (total : List ℕ) (old : Listener) (c : Option Contents) (s : Counts) → IsLeft total total old old c c s s
left_whole total old c s = record { steps = length total; enough = omega arith; comes = comes_at_once _ _ c s (λ gift. refl) }

-- with no step left nothing is left
no_front : (maximum : ℕ) → front_of maximum [] ≡ Partial
unfolding front_of
no_front maximum = refl

-- the next step, where there is one
unfold_step : (steps : ℕ) (stream : List ℕ) (now : Listener) (gift : Gift)
    → hears_stream (suc steps) stream now gift ≡ hears_front (λ rest next after. hears_stream steps rest next after) stream (front_of (longest now) stream) now gift
unfolding hears_stream
unfold_step steps stream now gift = refl

none_step : (now : Listener) (gift : Gift) → hears_stream zero [] now gift ≡ hears_front (λ rest next after. hears_stream zero rest next after) [] (front_of (longest now) []) now gift
unfolding hears_stream
none_step now gift = ap (λ (f : Front). hears_front (λ rest next after. hears_stream zero rest next after) [] f now gift) (sym (no_front (longest now)))

-- one step fewer
abbrev fewer : ℕ → ℕ
fewer zero = zero
fewer (suc steps) = steps

abbrev pub more_of : ℕ → More
more_of steps rest next after = hears_stream (fewer steps) rest next after

step_is : (steps : ℕ) (stream : List ℕ) (now : Listener) (gift : Gift) → length stream ≤ steps → hears_stream steps stream now gift ≡ hears_front (more_of steps) stream (front_of (longest now) stream) now gift
step_is zero [] now gift enough = none_step now gift
step_is zero (octet ∷ stream) now gift enough = absurd (omega arith)
step_is (suc steps) stream now gift enough = unfold_step steps stream now gift

-- the stream comes to an end with its next front
pub left_ends : (total stream held : List ℕ) (old now new : Listener) (c0 c1 c2 : Option Contents) (s0 s1 s2 : Counts) (lacks : Bool) (left : IsLeft total stream old now c0 c1 s0 s1)
    → Comes (hears_front (more_of left.steps) stream (front_of (longest now) stream) now) (ended new held) c1 c2 s1 s2 lacks
    → Comes (hears_stream (length total) total old) (ended new held) c0 c2 s0 s2 lacks
left_ends total stream held old now new c0 c1 c2 s0 s1 s2 lacks left comes =
    comes_then _ _ _ c0 c1 c2 s0 s1 s2 false lacks left.comes (comes_as _ _ _ _ c1 c2 s1 s2 lacks (λ gift. step_is left.steps stream now gift left.enough) (λ gift. refl) comes)

fewer_is : (steps n m : ℕ) → 0 < n → n ≤ steps → m < n → m ≤ fewer steps
fewer_is zero n m some enough less = absurd (omega arith)
fewer_is (suc steps) n m some enough less = omega arith

-- it goes on with what follows its next front
pub left_on : (total stream rest : List ℕ) (old now new : Listener) (c0 c1 c2 : Option Contents) (s0 s1 s2 : Counts) (left : IsLeft total stream old now c0 c1 s0 s1) → length rest < length stream
    → Comes (hears_front (more_of left.steps) stream (front_of (longest now) stream) now) (more_of left.steps rest new) c1 c2 s1 s2 false
    → IsLeft total rest old new c0 c2 s0 s2
left_on total stream rest old now new c0 c1 c2 s0 s1 s2 left less comes = record {
  steps = fewer left.steps;
  enough = fewer_is left.steps (length stream) (length rest) (omega (arith, less)) left.enough less;
  comes = comes_then _ _ _ c0 c1 c2 s0 s1 s2 false false left.comes (comes_as _ _ _ _ c1 c2 s1 s2 false (λ gift. step_is left.steps stream now gift left.enough) (λ gift. refl) comes);
}
