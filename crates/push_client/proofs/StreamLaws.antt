-- A client hears a stream step by step.
use Rattle.std.proofs.Common.{◌≡◌, ℕ, zero, suc, ◌-◌, ◌<◌, ◌≤◌, Bool, true, false, List, [], ◌∷◌, ◌++◌, length, take, drop, Option, Some, None, refl, sym, ap, subst, ◌∙◌, if◌then◌else◌, arith, take-append-drop, append_assoc, inl, inr, length-append}
use Rattle.std.proofs.lemmas.List.{length-drop, take_rest}
use Rattle.obex_headers.specs.declared.fault.ObexRefusal.{ObexRefusal}
use Rattle.obex_headers.specs.declared.assembler.Assembled.{Assembled}
use Rattle.obex_headers.specs.Assembled.{answer_of}
use Rattle.obex_headers.specs.Assembling as assembling
use Rattle.obex_headers.specs.Assembling.{Assembling, Answers, IsFramed, fresh}
use Rattle.push_model.proofs.StreamLaws.{whole_front, partial_front, broken_front}
use Rattle.push_model.specs.Causes.{cause_of_obex}
use Rattle.push_model.specs.Client.{Client}
use Rattle.push_model.specs.Responding.{is_object, reads_on, hears_response, hears_front, hears_stream}
use Rattle.push_model.specs.Streams.{Front, Whole, Partial, front_of}
use Rattle.push_client.specs.Courses.{ends}
use Rattle.push_client.specs.Talking.{placed, Suits, goes_on}
use Rattle.push_client.specs.declared.course.Course.{Course}
use Rattle.push_client.specs.declared.dialog.Dialog.{Dialog}
use Rattle.push_client.proofs.EndingLaws.{ends_placed}

abbrev pub More : Type 0
More = List ℕ → Client → Client

-- ---- the front of a stream

where_parts : (held piece : List ℕ) (used : ℕ) → held ++ piece ≡ (held ++ take used piece) ++ drop used piece
where_parts held piece used = sym (append_assoc held (take used piece) (drop used piece) ∙ ap (λ (x : List ℕ). held ++ x) (take-append-drop used piece))

front_whole : (held piece packet : List ℕ) (used maximum other : ℕ) → packet ≡ held ++ take used piece → IsFramed maximum packet → maximum ≡ other → front_of other (held ++ piece) ≡ Whole packet (drop used piece)
front_whole held piece packet used maximum other is framed most =
    ap (λ (m : ℕ). front_of m (held ++ piece)) (sym most) ∙ ap (front_of maximum) (where_parts held piece used) ∙ ap (λ (p : List ℕ). front_of maximum (p ++ drop used piece)) (sym is) ∙ whole_front maximum packet (drop used piece) framed

-- a whole packet is heard
whole_heard : (more : More) (old : Assembling) (piece packet : List ℕ) (used : ℕ) (after : Assembling) (d new : Dialog) → Suits old d → Answers old piece (assembling.Packet packet used) after
    → ((held : List ℕ) (client : Client) → hears_response packet (placed d held client) ≡ placed new held client)
    → (client : Client) → hears_front more (old.held ++ piece) (front_of d.session.maximum (old.held ++ piece)) (placed d old.held client) ≡ reads_on (λ next. more (drop used piece) next) (placed new [] client)
whole_heard more old piece packet used after d new suits holds hears client =
    ap (λ (f : Front). hears_front more (old.held ++ piece) f (placed d old.held client)) (front_whole old.held piece packet used old.maximum d.session.maximum holds.3 holds.4 suits.maximum)
    ∙ ap (reads_on (λ next. more (drop used piece) next)) (hears [] client)

-- and then nothing more
pub packet_ends : (more : More) (old : Assembling) (piece packet : List ℕ) (used : ℕ) (after : Assembling) (d new : Dialog) → Suits old d → Answers old piece (assembling.Packet packet used) after
    → ((held : List ℕ) (client : Client) → hears_response packet (placed d held client) ≡ placed new held client) → is_object new.course.stage ≡ false
    → (client : Client) → hears_front more (old.held ++ piece) (front_of d.session.maximum (old.held ++ piece)) (placed d old.held client) ≡ placed new after.held client
packet_ends more old piece packet used after d new suits holds hears stops client =
    whole_heard more old piece packet used after d new suits holds hears client
    ∙ ap (λ (b : Bool). (if b then more (drop used piece) (placed new [] client) else placed new [] client)) stops
    ∙ ap (λ (a : Assembling). placed new a.held client) (sym holds.5)

-- and what follows it
pub packet_follows : (more : More) (old : Assembling) (piece packet : List ℕ) (used : ℕ) (after : Assembling) (d new : Dialog) → Suits old d → Answers old piece (assembling.Packet packet used) after
    → ((held : List ℕ) (client : Client) → hears_response packet (placed d held client) ≡ placed new held client) → is_object new.course.stage ≡ true
    → (client : Client) → hears_front more (old.held ++ piece) (front_of d.session.maximum (old.held ++ piece)) (placed d old.held client) ≡ more (drop used piece) (placed new after.held client)
packet_follows more old piece packet used after d new suits holds hears works client =
    whole_heard more old piece packet used after d new suits holds hears client
    ∙ ap (λ (b : Bool). (if b then more (drop used piece) (placed new [] client) else placed new [] client)) works
    ∙ ap (λ (a : Assembling). more (drop used piece) (placed new a.held client)) (sym holds.5)

-- less than a whole packet is held
pub part_ends : (more : More) (old : Assembling) (piece : List ℕ) (after : Assembling) (d : Dialog) → Suits old d → Answers old piece assembling.More after
    → (client : Client) → hears_front more (old.held ++ piece) (front_of d.session.maximum (old.held ++ piece)) (placed d old.held client) ≡ placed d after.held client
part_ends more old piece after d suits holds client =
    ap (λ (f : Front). hears_front more (old.held ++ piece) f (placed d old.held client))
    (ap (λ (m : ℕ). front_of m (old.held ++ piece)) (sym suits.maximum) ∙ partial_front old.maximum (old.held ++ piece) holds.1)
    ∙ ap (λ (a : Assembling). placed d a.held client) (sym holds.2)

-- octets that begin no packet
pub broken_ends : (more : More) (old : Assembling) (piece : List ℕ) (refusal : ObexRefusal) (mid after : Assembling) (d : Dialog) (course : Course) → Suits old d → Answers old piece (assembling.Refused refusal) mid
    → after ≡ fresh mid.maximum → course ≡ ends (cause_of_obex refusal) d.course
    → (client : Client) → hears_front more (old.held ++ piece) (front_of d.session.maximum (old.held ++ piece)) (placed d old.held client) ≡ placed (record d { course = course }) after.held client
broken_ends more old piece refusal mid after d course suits (inl holds) ends_as ended client = absurd (let e : Some refusal ≡ None = sym holds.0 ∙ suits.sound in cc)
broken_ends more old piece refusal mid after d course suits (inr holds) ends_as ended client =
    ap (λ (f : Front). hears_front more (old.held ++ piece) f (placed d old.held client))
    (ap (λ (m : ℕ). front_of m (old.held ++ piece)) (sym suits.maximum) ∙ broken_front old.maximum (old.held ++ piece) refusal holds.1)
    ∙ ends_placed (cause_of_obex refusal) d [] client
    ∙ ap (λ (c : Course). placed (record d { course = c }) [] client) (sym ended)
    ∙ ap (λ (a : Assembling). placed (record d { course = course }) a.held client) (sym ends_as)

-- what an assembler answers
pub packet_answer : (old : Assembling) (piece : List ℕ) (result : Assembled) (answer : assembling.Answer) (after : Assembling) → answer_of result ≡ answer → Answers old piece (answer_of result) after → Answers old piece answer after
packet_answer old piece result answer after is holds = subst (λ (a : assembling.Answer). Answers old piece a after) is holds

-- ---- all of it

-- the stream so far comes to what is left of it, in as many steps as it has octets or more
pub record IsLeft (total stream before held : List ℕ) (old now : Dialog) : Type 0 where
  pub steps : ℕ
  pub enough : length stream ≤ steps
  pub hears : (client : Client) → hears_stream (length total) total (placed old before client) ≡ hears_stream steps stream (placed now held client)

pub left_whole : (total held : List ℕ) (old : Dialog) → IsLeft total total held held old old
left_whole total held old = record { steps = length total; enough = omega arith; hears = λ client. refl }

-- with no step left nothing is left
no_front : (maximum : ℕ) → front_of maximum [] ≡ Partial
unfolding front_of
no_front maximum = refl

unfold_step : (steps : ℕ) (stream : List ℕ) (now : Client) → hears_stream (suc steps) stream now ≡ hears_front (λ rest next. hears_stream steps rest next) stream (front_of now.session.maximum stream) now
unfolding hears_stream
unfold_step steps stream now = refl

none_step : (now : Client) → hears_stream zero [] now ≡ hears_front (λ rest next. hears_stream zero rest next) [] (front_of now.session.maximum []) now
unfolding hears_stream
none_step now = ap (λ (f : Front). hears_front (λ rest next. hears_stream zero rest next) [] f now) (sym (no_front now.session.maximum))

-- one step fewer
abbrev fewer : ℕ → ℕ
fewer zero = zero
fewer (suc steps) = steps

abbrev pub more_of : ℕ → More
more_of steps rest next = hears_stream (fewer steps) rest next

step_is : (steps : ℕ) (stream : List ℕ) (now : Client) → length stream ≤ steps → hears_stream steps stream now ≡ hears_front (more_of steps) stream (front_of now.session.maximum stream) now
step_is zero [] now enough = none_step now
step_is zero (octet ∷ stream) now enough = absurd (omega arith)
step_is (suc steps) stream now enough = unfold_step steps stream now

abbrev Heard : More → List ℕ → List ℕ → Dialog → (Client → Client) → Type 0
Heard more stream held now end = (client : Client) → hears_front more stream (front_of now.session.maximum stream) (placed now held client) ≡ end client

-- the stream comes to an end with its next front
pub left_ends : (total held piece before after : List ℕ) (old now new : Dialog) (next : Option ℕ) (left : IsLeft total (held ++ piece) before held old now) → next ≡ None
    → Heard (more_of left.steps) (held ++ piece) held now (goes_on (more_of left.steps) piece after new next)
    → (client : Client) → hears_stream (length total) total (placed old before client) ≡ placed new after client
left_ends total held piece before after old now new next left none hears client =
    left.hears client ∙ step_is left.steps (held ++ piece) (placed now held client) left.enough ∙ hears client ∙ ap (λ (o : Option ℕ). goes_on (more_of left.steps) piece after new o client) none

fewer_is : (steps n m : ℕ) → 0 < n → n ≤ steps → m < n → m ≤ fewer steps
fewer_is zero n m some enough less = absurd (omega arith)
fewer_is (suc steps) n m some enough less = omega arith

-- it goes on with what follows so many octets of the piece, and nothing is held
pub left_behind : (total held piece before after : List ℕ) (used : ℕ) (old now new : Dialog) (next : Option ℕ) (left : IsLeft total (held ++ piece) before held old now) → next ≡ Some used
    → after ≡ [] → 0 < used → used ≤ length piece
    → Heard (more_of left.steps) (held ++ piece) held now (goes_on (more_of left.steps) piece after new next)
    → IsLeft total (after ++ take (length piece - used) (drop used piece)) before after old new
left_behind total held piece before after used old now new next left is none some within hears =
    let fewer_octets : length (drop used piece) < length (held ++ piece) = omega (arith, length-drop used piece, length-append held piece, some, within) in
    let on : IsLeft total (drop used piece) before after old new = record {
      steps = fewer left.steps;
      enough = fewer_is left.steps (length (held ++ piece)) (length (drop used piece)) (omega (arith, fewer_octets)) left.enough fewer_octets;
      hears = λ client. left.hears client ∙ step_is left.steps (held ++ piece) (placed now held client) left.enough ∙ hears client ∙ ap (λ (o : Option ℕ). goes_on (more_of left.steps) piece after new o client) is;
    } in
    subst (λ (x : List ℕ). IsLeft total (x ++ take (length piece - used) (drop used piece)) before after old new) (sym none)
    (subst (λ (x : List ℕ). IsLeft total x before after old new) (sym (take_rest piece used)) on)
