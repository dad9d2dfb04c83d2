-- What the plain reader of runs computes is what the definitions say.
use Rattle.std.proofs.Common.{◌≡◌, ℕ, zero, suc, ◌+◌, ◌<◌, ◌≤◌, Bool, true, false, ◌&&◌, ◌||◌, cond, eqb, ltb, List, [], ◌∷◌, ◌++◌, length, get_or, drop, Option, Some, None, Ok, refl, sym, ap, subst, ◌∙◌, append_assoc, arith, Bor}
use Rattle.std.specs.Prelude.{is_none, is_some, MatchOption}
use Rattle.std.specs.Global.{Vec}
use Rattle.std.specs.List.{flat_map, list_any, AllByRecursion}
use Rattle.std.proofs.lemmas.Bool.{lt-ltb, cond-true, cond-false}
use Rattle.std.proofs.lemmas.List.{append-nil, length-map, map_push, drop_more, drop_all}
use Rattle.std.proofs.lemmas.List.Sums.{take_while-cons}
use Rattle.bt_base.specs.Objects.{Object}
use Rattle.bt_base.specs.Octets.{IsOctets}
use Rattle.obex_headers.specs.declared.header.Header.{Header}
use Rattle.obex_headers.specs.declared.packet.Packet.{Packet}
use Rattle.obex_headers.specs.declared.packet.Phase.TheVariants.{Request}
use Rattle.obex_headers.specs.Packets.{PlainHeader, PlainPacket, PlainValue, Text, Octets, One, Four, IsHeader, IsText, header_octets, headers_octets, plain_header}
use Rattle.obex_headers.specs.Reading.{header_at, packet_in, GivesPacket}
use Rattle.obex_headers.specs.Runs.{is_final, put_of, put_in, heard, spelled, text_in, name_text, body_of, names, bodies, ahead_of_name, joined, run_headers, is_long, breaks, lacks, object_of, objects_from}
use Rattle.obex_headers.specs.Reader.{plain_headers, octets_of_all, object_seen, IsPut, SaysVerdict, Holds, Goes}
use Rattle.obex_headers.specs.declared.runs.SpelledObject.{SpelledObject}
use Rattle.obex_headers.specs.declared.runs.Verdict.{Verdict}
use Rattle.obex_headers.specs.declared.runs.Verdict.TheVariants.{Refused, Open, Whole}
use Rattle.std.proofs.lemmas.Grind.{flat_map-append}
use Rattle.obex_headers.proofs.HeaderLaws.{ok_is, header_again}
use Rattle.obex_headers.proofs.RunLaws.{ends_without, step_refused, step_final, step_open}
use Rattle.obex_headers.proofs.PacketLaws.{packet_takes}

-- ---- headers

text_from : (b : Bool) (octets text : List ℕ) → IsText octets → cond b (Some octets) None ≡ Some text → IsText text
text_from true octets text h e = let same : octets ≡ text = cc in subst IsText same h
text_from false octets text h e = absurd cc

abbrev nothing : {A : Type 0} → Option A
nothing = None

nothing_from : (b : Bool) (text : List ℕ) → cond b (nothing {A = List ℕ}) None ≡ Some text → IsText text
nothing_from true text e = absurd cc
nothing_from false text e = absurd cc

-- the text of a Name is a text
text_is : (value : PlainValue) (id : ℕ) (text : List ℕ) → IsHeader (record { id = id; value = value }) → cond (eqb id 0x01) (text_in value) None ≡ Some text → IsText text
text_is (Text octets) id text h e = text_from (eqb id 0x01) octets text h.2 e
text_is (Octets octets) id text h e = nothing_from (eqb id 0x01) text e
text_is (One octet) id text h e = nothing_from (eqb id 0x01) text e
text_is (Four number) id text h e = nothing_from (eqb id 0x01) text e

pub name_is_text : (header : PlainHeader) (text : List ℕ) → IsHeader header → name_text header ≡ Some text → IsText text
name_is_text header text h e = text_is header.value header.id text h e

pub header_at_index : (headers : List Header) (i : ℕ) (d : Header) → i < length headers → AllByRecursion IsHeader (plain_headers headers) → IsHeader (plain_header (get_or headers i d))
header_at_index [] i d l h = absurd (omega arith)
header_at_index (header ∷ headers) zero d l h = h.0
header_at_index (header ∷ headers) (suc i) d l h = header_at_index headers i d (omega arith) h.1

-- ---- a body ahead of the Name

ahead_on : (h : PlainHeader) (hs : List PlainHeader) → name_text h ≡ None → ahead_of_name (h ∷ hs) ≡ h ∷ ahead_of_name hs
ahead_on h hs e = take_while-cons (λ header. is_none (name_text header)) h hs ∙ cond-true _ _ _ (ap is_none e)

pub body_ahead : (h : PlainHeader) (hs : List PlainHeader) (octets : List ℕ) → name_text h ≡ None → body_of h ≡ Some octets → ltb 0 (length (bodies (ahead_of_name (h ∷ hs)))) ≡ true
body_ahead h hs octets e b =
    let here : bodies (ahead_of_name (h ∷ hs)) ≡ octets ∷ bodies (ahead_of_name hs) = ap bodies (ahead_on h hs e) ∙ rw b refl in
    lt-ltb _ _ (omega (arith, ap length here))

pub nothing_ahead : (h : PlainHeader) (hs : List PlainHeader) → name_text h ≡ None → body_of h ≡ None → bodies (ahead_of_name (h ∷ hs)) ≡ bodies (ahead_of_name hs)
nothing_ahead h hs e b = ap bodies (ahead_on h hs e) ∙ rw b refl

-- ---- a PUT

pub put_is : (octets : List ℕ) (lent : Packet) → IsOctets octets → GivesPacket (Ok lent) (packet_in Request 65535 octets) → (eqb lent.code 0x02 || eqb lent.code 0x82) ≡ true → IsPut (Some lent) (put_in octets)
put_is octets lent fits given is_put =
    let packet = given.0 in
    let same : (eqb packet.code 0x02 || eqb packet.code 0x82) ≡ true = ap (λ (code : ℕ). eqb code 0x02 || eqb code 0x82) (sym given.2.code) ∙ is_put in
    (packet, ap put_of given.1 ∙ cond-true _ _ _ same, (packet_takes Request 65535 octets packet fits given.1).sound.headers, given.2)

pub no_put : (octets : List ℕ) (lent : Packet) → GivesPacket (Ok lent) (packet_in Request 65535 octets) → (eqb lent.code 0x02 || eqb lent.code 0x82) ≡ false → put_in octets ≡ None
no_put octets lent given is_put =
    let packet = given.0 in
    let same : (eqb packet.code 0x02 || eqb packet.code 0x82) ≡ false = ap (λ (code : ℕ). eqb code 0x02 || eqb code 0x82) (sym given.2.code) ∙ is_put in
    ap put_of given.1 ∙ cond-false _ _ _ same

-- ---- the rules

joined_all : (parts : List (Vec ℕ)) → flat_map (λ part. part.items) parts ≡ joined (octets_of_all parts)
joined_all [] = refl
joined_all (part ∷ parts) = ap (λ (rest : List ℕ). part.items ++ rest) (joined_all parts)

-- what was gathered of a run's headers
pub record Gathered (headers : List PlainHeader) (ns bs : List (Vec ℕ)) (ahead : Bool) (name octets : List ℕ) : Type 0 where
  pub names_are : octets_of_all ns ≡ names headers
  pub bodies_are : octets_of_all bs ≡ bodies headers
  pub ahead_is : ahead ≡ ltb 0 (length (bodies (ahead_of_name headers)))
  pub name_is : name ≡ flat_map (λ part. part.items) ns
  pub octets_are : octets ≡ flat_map (λ part. part.items) bs

octets_joined : (headers : List PlainHeader) (ns bs : List (Vec ℕ)) (ahead : Bool) (name octets : List ℕ) → Gathered headers ns bs ahead name octets → octets ≡ joined (bodies headers)
octets_joined headers ns bs ahead name octets g = g.octets_are ∙ joined_all bs ∙ ap joined g.bodies_are

name_joined : (headers : List PlainHeader) (ns bs : List (Vec ℕ)) (ahead : Bool) (name octets : List ℕ) → Gathered headers ns bs ahead name octets → name ≡ joined (names headers)
name_joined headers ns bs ahead name octets g = g.name_is ∙ joined_all ns ∙ ap joined g.names_are

pub breaks_is : (headers : List PlainHeader) (ns bs : List (Vec ℕ)) (ahead : Bool) (name octets : List ℕ) → Gathered headers ns bs ahead name octets
    → breaks headers ≡ (ltb 1 (length ns) || list_any is_long (octets_of_all ns) || ahead || ltb 16777215 (length octets))
breaks_is headers ns bs ahead name octets g =
    let count : length (names headers) ≡ length ns = ap length (sym g.names_are) ∙ length-map ns (λ part. part.items) in
    rw (count, ← g.names_are, ← g.ahead_is, ← octets_joined headers ns bs ahead name octets g) refl

pub lacks_is : (headers : List PlainHeader) (ns bs : List (Vec ℕ)) (ahead : Bool) (name octets : List ℕ) → Gathered headers ns bs ahead name octets
    → lacks headers ≡ (eqb (length ns) 0 || eqb (length bs) 0)
lacks_is headers ns bs ahead name octets g =
    let count : length (names headers) ≡ length ns = ap length (sym g.names_are) ∙ length-map ns (λ part. part.items) in
    let count_bodies : length (bodies headers) ≡ length bs = ap length (sym g.bodies_are) ∙ length-map bs (λ part. part.items) in
    rw (count, count_bodies) refl

pub object_is : (headers : List PlainHeader) (ns bs : List (Vec ℕ)) (ahead : Bool) (name octets : List ℕ) → Gathered headers ns bs ahead name octets
    → record { name = name; octets = octets } ≡ object_of headers
object_is headers ns bs ahead name octets g =
    ap (λ (n : List ℕ). record { name = n; octets = octets }) (name_joined headers ns bs ahead name octets g) ∙ ap (λ (o : List ℕ). record { name = joined (names headers); octets = o }) (octets_joined headers ns bs ahead name octets g)

-- ---- at a place in the headers

pub text_at_index : (headers : List Header) (i : ℕ) (d : Header) (text : List ℕ) → i < length headers → AllByRecursion IsHeader (plain_headers headers) → name_text (plain_header (get_or headers i d)) ≡ Some text → IsText text
text_at_index headers i d text l h e = name_is_text (plain_header (get_or headers i d)) text (header_at_index headers i d l h) e

-- what a lookup in a header answered
abbrev Answers : Option (Bor (List ℕ)) → Option (List ℕ) → Type 0
Answers answer found = MatchOption answer (found ≡ None) (λ octets. found ≡ Some octets.now)

pub found_ahead : (headers : List Header) (i : ℕ) (d : Header) (t b : Option (Bor (List ℕ))) → i < length headers → Answers t (name_text (plain_header (get_or headers i d))) → false ≡ is_some t
    → Answers b (body_of (plain_header (get_or headers i d))) → true ≡ is_some b → bodies (ahead_of_name (plain_headers (drop i headers))) ≡ bodies (ahead_of_name (plain_headers headers))
    → true ≡ ltb 0 (length (bodies (ahead_of_name (plain_headers headers))))
found_ahead headers i d (Some t) b l te tn be bs so_far = absurd cc
found_ahead headers i d None None l te tn be bs so_far = absurd cc
found_ahead headers i d None (Some b) l te tn be bs so_far =
    sym (body_ahead (plain_header (get_or headers i d)) (plain_headers (drop (i + 1) headers)) b.now te be)
    ∙ ap (λ (hs : List Header). ltb 0 (length (bodies (ahead_of_name (plain_headers hs))))) (sym (drop_more headers i d l)) ∙ ap (λ (bs : List (List ℕ)). ltb 0 (length bs)) so_far

pub nothing_found : (headers : List Header) (i : ℕ) (d : Header) (t b : Option (Bor (List ℕ))) → i < length headers → Answers t (name_text (plain_header (get_or headers i d))) → false ≡ is_some t
    → Answers b (body_of (plain_header (get_or headers i d))) → false ≡ is_some b → bodies (ahead_of_name (plain_headers (drop i headers))) ≡ bodies (ahead_of_name (plain_headers headers))
    → bodies (ahead_of_name (plain_headers (drop (i + 1) headers))) ≡ bodies (ahead_of_name (plain_headers headers))
nothing_found headers i d (Some t) b l te tn be bs so_far = absurd cc
nothing_found headers i d None (Some b) l te tn be bs so_far = absurd cc
nothing_found headers i d None None l te tn be bs so_far =
    sym (nothing_ahead (plain_header (get_or headers i d)) (plain_headers (drop (i + 1) headers)) te be)
    ∙ ap (λ (hs : List Header). bodies (ahead_of_name (plain_headers hs))) (sym (drop_more headers i d l)) ∙ so_far

-- ---- the verdict

pub gather : (headers : List PlainHeader) (ns bs ns' bs' : List (Vec ℕ)) (ahead : Bool) (name octets : List ℕ) → ns' ≡ ns → bs' ≡ bs → octets_of_all ns ≡ names headers → octets_of_all bs ≡ bodies headers
    → ahead ≡ ltb 0 (length (bodies (ahead_of_name headers))) → name ≡ flat_map (λ part. part.items) ns' → octets ≡ flat_map (λ part. part.items) bs' → Gathered headers ns bs ahead name octets
gather headers ns bs ns' bs' ahead name octets n b ne be ae me oe = record {
  names_are = ne;
  bodies_are = be;
  ahead_is = ae;
  name_is = me ∙ ap (flat_map (λ part. part.items)) n;
  octets_are = oe ∙ ap (flat_map (λ part. part.items)) b;
}

pub breaks_same : (headers : List PlainHeader) (ns bs ns' : List (Vec ℕ)) (ahead : Bool) (name octets octets' : List ℕ) (answer : Bool) → Gathered headers ns bs ahead name octets → ns' ≡ ns → octets' ≡ octets
    → answer ≡ (ltb 1 (length ns') || list_any is_long (octets_of_all ns') || ahead || ltb 16777215 (length octets')) → breaks headers ≡ answer
breaks_same headers ns bs ns' ahead name octets octets' answer g n o e =
    breaks_is headers ns bs ahead name octets g
    ∙ ap (λ (x : List (Vec ℕ)). ltb 1 (length x) || list_any is_long (octets_of_all x) || ahead || ltb 16777215 (length octets)) (sym n)
    ∙ ap (λ (x : List ℕ). ltb 1 (length ns') || list_any is_long (octets_of_all ns') || ahead || ltb 16777215 (length x)) (sym o) ∙ sym e

pub lacks_same : (headers : List PlainHeader) (ns bs ns' bs' : List (Vec ℕ)) (ahead : Bool) (name octets : List ℕ) (answer : Bool) → Gathered headers ns bs ahead name octets → ns' ≡ ns → bs' ≡ bs
    → answer ≡ (eqb (length ns') 0 || eqb (length bs') 0) → lacks headers ≡ answer
lacks_same headers ns bs ns' bs' ahead name octets answer g n b e =
    lacks_is headers ns bs ahead name octets g ∙ ap (λ (x : List (Vec ℕ)). eqb (length x) 0 || eqb (length bs) 0) (sym n) ∙ ap (λ (x : List (Vec ℕ)). eqb (length ns') 0 || eqb (length x) 0) (sym b) ∙ sym e

-- ---- the headers of a packet are added to a run

-- what was given is the first header that was left
next_of : (left new : List ℕ) (x : PlainHeader) (rest : List PlainHeader) → AllByRecursion IsHeader rest → left ≡ headers_octets rest → IsHeader x → left ≡ header_octets x ++ new
    → (back : List PlainHeader) × (rest ≡ x ∷ back) × AllByRecursion IsHeader back × (new ≡ headers_octets back)
next_of left new x [] h e hx f = absurd (let k = sym e ∙ f in cc)
next_of left new x (first ∷ back) h e hx f =
    let same = ok_is (first, headers_octets back) (x, new) (sym (header_again first (headers_octets back) h.0) ∙ ap header_at (sym e ∙ f) ∙ header_again x new hx) in
    (back, ap (λ (p : PlainHeader × List ℕ). p.0 ∷ back) same, h.1, sym (ap (λ (p : PlainHeader × List ℕ). p.1) same))

-- what is left of a packet's headers, while the front of them was added to a run
abbrev pub IsLeft : List ℕ → List PlainHeader → List PlainHeader → Type 0
IsLeft left added all = (rest : List PlainHeader) × AllByRecursion IsHeader rest × (left ≡ headers_octets rest) × (added ++ rest ≡ all)

pub one_added : (left new : List ℕ) (run run' : List Header) (header : Header) (all : List PlainHeader) → IsLeft left (plain_headers run) all → IsHeader (plain_header header) → left ≡ header_octets (plain_header header) ++ new
    → run' ≡ run ++ header ∷ [] → IsLeft new (plain_headers run') all
one_added left new run run' header all so_far h e pushed =
    let n = next_of left new (plain_header header) so_far.0 so_far.1 so_far.2 h e in (
      n.0,
      n.2,
      n.3,
      ap (λ (r : List Header). plain_headers r ++ n.0) pushed ∙ ap (λ (r : List PlainHeader). r ++ n.0) (map_push plain_header run header) ∙ append_assoc (plain_headers run) (plain_header header ∷ []) n.0
          ∙ ap (λ (r : List PlainHeader). plain_headers run ++ r) (sym n.1) ∙ so_far.3,
    )

ended : (left : List ℕ) (added all rest : List PlainHeader) → AllByRecursion IsHeader rest → left ≡ headers_octets rest → added ++ rest ≡ all → ((header : PlainHeader) (rest : List ℕ) → IsHeader header → left ≡ header_octets header ++ rest → ⊥) → added ≡ all
ended left added all [] h e f none = sym (append-nil added) ∙ f
ended left added all (first ∷ back) h e f none = absurd (none first (headers_octets back) h.0 e)

pub all_added : (left : List ℕ) (added all : List PlainHeader) → IsLeft left added all → ((header : PlainHeader) (rest : List ℕ) → IsHeader header → left ≡ header_octets header ++ rest → ⊥) → added ≡ all
all_added left added all so_far none = ended left added all so_far.0 so_far.1 so_far.2 so_far.3 none

-- ---- one packet more

all_sound : (xs ys : List PlainHeader) → AllByRecursion IsHeader xs → AllByRecursion IsHeader ys → AllByRecursion IsHeader (xs ++ ys)
all_sound [] ys h k = k
all_sound (x ∷ xs) ys h k = (h.0, all_sound xs ys h.1 k)

pub both_sound : (xs ys zs : List PlainHeader) → AllByRecursion IsHeader xs → AllByRecursion IsHeader ys → zs ≡ xs ++ ys → AllByRecursion IsHeader zs
both_sound xs ys zs h k e = subst (AllByRecursion IsHeader) (sym e) (all_sound xs ys h k)

-- the run with one more PUT
longer : (past : List PlainPacket) (put : PlainPacket) (old new : List PlainHeader) → old ≡ run_headers past → new ≡ old ++ put.headers → new ≡ run_headers (past ++ put ∷ [])
longer past put old new o n = n ∙ ap (λ (hs : List PlainHeader). hs ++ put.headers) o ∙ ap (λ (hs : List PlainHeader). run_headers past ++ hs) (sym (append-nil put.headers)) ∙ sym (flat_map-append (λ packet. packet.headers) past (put ∷ []))

pub heard_none : (o : Option PlainPacket) (before : List Object) (past : List PlainPacket) → o ≡ None → Goes o before past [] before
heard_none o before past e = ([], (refl, tt), λ rest. ap (λ (p : Option PlainPacket). before ++ objects_from past (p ∷ rest)) e)

pub heard_open : (o : Option PlainPacket) (before : List Object) (past : List PlainPacket) (put : PlainPacket) (old new : List PlainHeader) (ends : Bool) → o ≡ Some put → old ≡ run_headers past → new ≡ old ++ put.headers → AllByRecursion IsHeader new
    → ends ≡ is_final put → SaysVerdict ends new Open → Goes o before past new before
heard_open o before past put old new ends e oe ne sound fe says =
    let grown = longer past put old new oe ne in
    let goes : ends_without past put ≡ false = ap (λ (hs : List PlainHeader). breaks hs || (is_final put && lacks hs)) (sym grown) ∙ ap (λ (b : Bool). breaks new || (b && lacks new)) (sym fe) ∙ says.0 in
    (past ++ put ∷ [], (grown, sound), λ rest. ap (λ (p : Option PlainPacket). before ++ objects_from past (p ∷ rest)) e ∙ ap (λ (os : List Object). before ++ os) (step_open past put rest goes (sym fe ∙ says.1)))

pub heard_refused : (o : Option PlainPacket) (before : List Object) (past : List PlainPacket) (put : PlainPacket) (old new : List PlainHeader) (ends : Bool) → o ≡ Some put → old ≡ run_headers past → new ≡ old ++ put.headers
    → ends ≡ is_final put → SaysVerdict ends new Refused → Goes o before past [] before
heard_refused o before past put old new ends e oe ne fe says =
    let grown = longer past put old new oe ne in
    let ended : ends_without past put ≡ true = ap (λ (hs : List PlainHeader). breaks hs || (is_final put && lacks hs)) (sym grown) ∙ ap (λ (b : Bool). breaks new || (b && lacks new)) (sym fe) ∙ says in
    ([], (refl, tt), λ rest. ap (λ (p : Option PlainPacket). before ++ objects_from past (p ∷ rest)) e ∙ ap (λ (os : List Object). before ++ os) (step_refused past put rest ended))

pub heard_whole : (o : Option PlainPacket) (before after : List Object) (past : List PlainPacket) (put : PlainPacket) (old new : List PlainHeader) (ends : Bool) (object : SpelledObject) → o ≡ Some put → old ≡ run_headers past → new ≡ old ++ put.headers
    → ends ≡ is_final put → SaysVerdict ends new (Whole object) → after ≡ before ++ object_seen object ∷ [] → Goes o before past [] after
heard_whole o before after past put old new ends object e oe ne fe says ae =
    let grown = longer past put old new oe ne in
    let well : ends_without past put ≡ false = ap (λ (hs : List PlainHeader). breaks hs || (is_final put && lacks hs)) (sym grown) ∙ ap (λ (b : Bool). breaks new || (b && lacks new)) (sym fe) ∙ says.0 in (
      [],
      (refl, tt),
      λ rest. ap (λ (p : Option PlainPacket). before ++ objects_from past (p ∷ rest)) e ∙ ap (λ (os : List Object). before ++ os) (step_final past put rest well (sym fe ∙ says.1))
          ∙ ap (λ (hs : List PlainHeader). before ++ (object_of hs ∷ objects_from [] rest)) (sym grown) ∙ ap (λ (x : Object). before ++ (x ∷ objects_from [] rest)) (sym says.2)
          ∙ sym (append_assoc before (object_seen object ∷ []) (objects_from [] rest)) ∙ ap (λ (os : List Object). os ++ objects_from [] rest) (sym ae),
    )

-- the verdict, of the headers and by the arm that it took
pub said : (ends : Bool) (headers headers' : List Header) (verdict verdict' : Verdict) → headers' ≡ headers → verdict ≡ verdict' → SaysVerdict ends (plain_headers headers') verdict → SaysVerdict ends (plain_headers headers) verdict'
said ends headers headers' verdict verdict' h v says = subst (SaysVerdict ends (plain_headers headers)) v (subst (λ (hs : List Header). SaysVerdict ends (plain_headers hs) verdict) h says)

-- ---- all packets

pub heard_more : (packets : List (Vec ℕ)) (i : ℕ) (d : Vec ℕ) → i < length packets → heard (octets_of_all (drop i packets)) ≡ put_in (get_or packets i d).items ∷ heard (octets_of_all (drop (i + 1) packets))
heard_more packets i d l = ap (λ (ps : List (Vec ℕ)). heard (octets_of_all ps)) (drop_more packets i d l)

-- what was spelled so far, and what the packets that are left spell, is what all spell
abbrev pub SoFar : List (Vec ℕ) → ℕ → List PlainHeader → List Object → Type 0
SoFar packets i headers objects = (past : List PlainPacket) × Holds headers past × (objects ++ objects_from past (heard (octets_of_all (drop i packets))) ≡ spelled (octets_of_all packets))

pub one_heard : (packets : List (Vec ℕ)) (i : ℕ) (d : Vec ℕ) (octets : List ℕ) (old new : List PlainHeader) (before after : List Object) → i < length packets → octets ≡ (get_or packets i d).items → SoFar packets i old before
    → ((past : List PlainPacket) → Holds old past → Goes (put_in octets) before past new after) → SoFar packets (i + 1) new after
one_heard packets i d octets old new before after l e so_far goes =
    let g = goes so_far.0 so_far.1 in (
      g.0,
      g.1,
      sym (g.2 (heard (octets_of_all (drop (i + 1) packets)))) ∙ ap (λ (o : List ℕ). before ++ objects_from so_far.0 (put_in o ∷ heard (octets_of_all (drop (i + 1) packets)))) e
          ∙ ap (λ (ps : List (Option PlainPacket)). before ++ objects_from so_far.0 ps) (sym (heard_more packets i d l)) ∙ so_far.2,
    )

pub all_heard : (packets : List (Vec ℕ)) (i : ℕ) (headers : List PlainHeader) (objects : List Object) → length packets ≤ i → SoFar packets i headers objects → objects ≡ spelled (octets_of_all packets)
all_heard packets i headers objects l so_far =
    sym (append-nil objects) ∙ ap (λ (ps : List (Vec ℕ)). objects ++ objects_from so_far.0 (heard (octets_of_all ps))) (sym (drop_all i packets l)) ∙ so_far.2

pub cleared : (o : Option PlainPacket) (before after : List Object) (past : List PlainPacket) (run : List Header) → run ≡ [] → Goes o before past [] after → Goes o before past (plain_headers run) after
cleared o before after past run e goes = subst (λ (hs : List Header). Goes o before past (plain_headers hs) after) (sym e) goes
