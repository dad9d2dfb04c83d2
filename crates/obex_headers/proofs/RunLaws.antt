-- Packet by packet and over whole runs, the same objects are spelled.
use Rattle.std.proofs.Common.{◌≡◌, ℕ, ◌<◌, ◌≤◌, Bool, true, false, ◌&&◌, ◌||◌, cond, eqb, ltb, List, [], ◌∷◌, ◌++◌, length, map, Option, Some, None, refl, sym, ap, subst, ◌∙◌, append_assoc, arith, inl, inr}
use Rattle.std.specs.List.{flat_map, filter_map, list_any, AllByRecursion}
use Rattle.std.specs.Prelude.{is_none}
use Rattle.std.proofs.lemmas.Bool.{or_cases, or_parts, or_from, or_left, or_right, and_parts, and_from, and_left, and_right, ltb-false, le-ltb, eqb-true, eq-eqb, eqb-false, ne_eqb, cond-true, cond-false, cases_Bool}
use Rattle.std.proofs.lemmas.List.{append-nil, nil_from_length, length-append, map-append}
use Rattle.std.proofs.lemmas.List.Elements.{filter_map-append}
use Rattle.std.proofs.lemmas.List.Sums.{take_while-cons}
use Rattle.std.proofs.lemmas.Grind.{flat_map-append}
use Rattle.bt_base.specs.Objects.{Object}
use Rattle.obex_headers.specs.Packets.{PlainHeader, PlainPacket, units_of}
use Rattle.obex_headers.specs.Runs.{is_final, name_text, body_of, names, bodies, ahead_of_name, joined, run_headers, KeepsRules, IsOpen, SpellsObject, EndsWithout, Stretch, Spelling, Broken, IsStretch, puts, stretch_packets, stretch_objects, FallsInto, is_long, breaks, lacks, object_of, objects_from}

-- ---- the rules as a test

short_names : (ns : List (List ℕ)) → list_any is_long ns ≡ false → AllByRecursion (λ name. length name ≤ 255) ns
short_names [] e = tt
short_names (n ∷ ns) e = let p = or_parts (is_long n) (list_any is_long ns) e in (ltb-false _ _ p.0, short_names ns p.1)

no_long : (ns : List (List ℕ)) → AllByRecursion (λ name. length name ≤ 255) ns → list_any is_long ns ≡ false
no_long [] h = refl
no_long (n ∷ ns) h = or_from (is_long n) (list_any is_long ns) (le-ltb _ _ h.0) (no_long ns h.1)

pub keeps : (headers : List PlainHeader) → breaks headers ≡ false → KeepsRules headers
keeps headers e =
    let a = ltb 1 (length (names headers)) in
    let b = list_any is_long (names headers) in
    let c = ltb 0 (length (bodies (ahead_of_name headers))) in
    let d = ltb 16777215 (length (joined (bodies headers))) in
    let p = or_parts (a || b || c) d e in
    let q = or_parts (a || b) c p.0 in
    let r = or_parts a b q.0 in
    let none : length (bodies (ahead_of_name headers)) ≤ 0 = ltb-false _ _ q.1 in
    record { one_name = ltb-false _ _ r.0; short_name = short_names (names headers) r.1; name_first = nil_from_length (bodies (ahead_of_name headers)) (omega arith); bounded = ltb-false _ _ p.1 }

pub kept : (headers : List PlainHeader) → KeepsRules headers → breaks headers ≡ false
kept headers h =
    let a = ltb 1 (length (names headers)) in
    let b = list_any is_long (names headers) in
    let c = ltb 0 (length (bodies (ahead_of_name headers))) in
    let d = ltb 16777215 (length (joined (bodies headers))) in
    or_from (a || b || c) d (or_from (a || b) c (or_from a b (le-ltb _ _ h.one_name) (no_long (names headers) h.short_name)) (le-ltb _ _ (omega (arith, ap length h.name_first)))) (le-ltb _ _ h.bounded)

broken : (headers : List PlainHeader) → breaks headers ≡ true → KeepsRules headers → ⊥
broken headers e h = let k = sym e ∙ kept headers h in absurd cc

-- ---- a front of headers that keep the rules keeps them

all_front : {X : Type 0} (P : X → Type 0) (xs ys : List X) → AllByRecursion P (xs ++ ys) → AllByRecursion P xs
all_front P [] ys h = tt
all_front P (x ∷ xs) ys h = (h.0, all_front P xs ys h.1)

all_back : {X : Type 0} (P : X → Type 0) (xs ys : List X) → AllByRecursion P (xs ++ ys) → AllByRecursion P ys
all_back P [] ys h = h
all_back P (x ∷ xs) ys h = all_back P xs ys h.1

all_both : {X : Type 0} (P : X → Type 0) (xs ys : List X) → AllByRecursion P xs → AllByRecursion P ys → AllByRecursion P (xs ++ ys)
all_both P [] ys h k = k
all_both P (x ∷ xs) ys h k = (h.0, all_both P xs ys h.1 k)

names-append : (a b : List PlainHeader) → names (a ++ b) ≡ names a ++ names b
names-append a b = ap (map units_of) (filter_map-append name_text a b) ∙ map-append units_of (filter_map name_text a) (filter_map name_text b)

bodies-append : (a b : List PlainHeader) → bodies (a ++ b) ≡ bodies a ++ bodies b
bodies-append a b = filter_map-append body_of a b

joined-append : (a b : List (List ℕ)) → joined (a ++ b) ≡ joined a ++ joined b
joined-append a b = flat_map-append (λ part. part) a b

headers-append : (a b : List PlainPacket) → run_headers (a ++ b) ≡ run_headers a ++ run_headers b
headers-append a b = flat_map-append (λ packet. packet.headers) a b

ahead-cons : (h : PlainHeader) (hs : List PlainHeader) → ahead_of_name (h ∷ hs) ≡ cond (is_none (name_text h)) (h ∷ ahead_of_name hs) []
ahead-cons h hs = take_while-cons (λ header. is_none (name_text header)) h hs

ahead_front_at : (none : Bool) (h : PlainHeader) (a b more : List PlainHeader) → is_none (name_text h) ≡ none → ahead_of_name (a ++ b) ≡ ahead_of_name a ++ more → (more' : List PlainHeader) × (ahead_of_name (h ∷ (a ++ b)) ≡ ahead_of_name (h ∷ a) ++ more')
ahead_front_at true h a b more e ih =
    (more, ahead-cons h (a ++ b) ∙ cond-true _ _ _ e ∙ ap (λ (hs : List PlainHeader). h ∷ hs) ih ∙ ap (λ (hs : List PlainHeader). hs ++ more) (sym (ahead-cons h a ∙ cond-true _ _ _ e)))
ahead_front_at false h a b more e ih =
    ([], ahead-cons h (a ++ b) ∙ cond-false _ _ _ e ∙ ap (λ (hs : List PlainHeader). hs ++ []) (sym (ahead-cons h a ∙ cond-false _ _ _ e)))

ahead_front : (a b : List PlainHeader) → (more : List PlainHeader) × (ahead_of_name (a ++ b) ≡ ahead_of_name a ++ more)
ahead_front [] b = (ahead_of_name b, refl)
ahead_front (h ∷ a) b = let r = ahead_front a b in ahead_front_at (is_none (name_text h)) h a b r.0 refl r.1

nil_front : {X : Type 0} (xs ys : List X) → xs ++ ys ≡ [] → xs ≡ []
nil_front [] ys e = refl
nil_front (x ∷ xs) ys e = absurd cc

pub rules_front : (a b : List PlainHeader) → KeepsRules (a ++ b) → KeepsRules a
rules_front a b h =
    let more = ahead_front a b in
    let one = h.one_name in
    let most = h.bounded in
    record {
      one_name = omega (arith, ap length (names-append a b), length-append (names a) (names b));
      short_name = all_front (λ name. length name ≤ 255) (names a) (names b) (subst (AllByRecursion (λ name. length name ≤ 255)) (names-append a b) h.short_name);
      name_first = nil_front (bodies (ahead_of_name a)) (bodies more.0) (sym (ap bodies more.1 ∙ bodies-append (ahead_of_name a) more.0) ∙ h.name_first);
      bounded = omega (arith, ap length (ap joined (bodies-append a b) ∙ joined-append (bodies a) (bodies b)), length-append (joined (bodies a)) (joined (bodies b)));
    }

open_front : (a b : List PlainPacket) → IsOpen (a ++ b) → IsOpen a
open_front a b h = record { not_final = all_front (λ packet. is_final packet ≡ false) a b h.not_final; rules = rules_front (run_headers a) (run_headers b) (subst KeepsRules (headers-append a b) h.rules) }

-- ---- a step

-- whether the packet ends the run without an object
abbrev pub ends_without : List PlainPacket → PlainPacket → Bool
ends_without run put = breaks (run_headers (run ++ put ∷ [])) || (is_final put && lacks (run_headers (run ++ put ∷ [])))

does_not_lack : (headers : List PlainHeader) (name : List ℕ) → names headers ≡ name ∷ [] → 0 < length (bodies headers) → lacks headers ≡ false
does_not_lack headers name n b = or_from (eqb (length (names headers)) 0) (eqb (length (bodies headers)) 0) (ne_eqb _ _ (λ e. let k = ap length n in absurd (omega arith))) (ne_eqb _ _ (λ e. absurd (omega arith)))

pub step_refused : (run : List PlainPacket) (put : PlainPacket) (rest : List (Option PlainPacket)) → ends_without run put ≡ true → objects_from run (Some put ∷ rest) ≡ objects_from [] rest
step_refused run put rest e = cond-true _ _ _ e

pub step_final : (run : List PlainPacket) (put : PlainPacket) (rest : List (Option PlainPacket)) → ends_without run put ≡ false → is_final put ≡ true → objects_from run (Some put ∷ rest) ≡ object_of (run_headers (run ++ put ∷ [])) ∷ objects_from [] rest
step_final run put rest e f = cond-false _ _ _ e ∙ cond-true _ _ _ f

pub step_open : (run : List PlainPacket) (put : PlainPacket) (rest : List (Option PlainPacket)) → ends_without run put ≡ false → is_final put ≡ false → objects_from run (Some put ∷ rest) ≡ objects_from (run ++ put ∷ []) rest
step_open run put rest e f = cond-false _ _ _ e ∙ cond-false _ _ _ f

-- ---- PUTs that go on

goes_through : (run more : List PlainPacket) (rest : List (Option PlainPacket)) → IsOpen (run ++ more) → objects_from run (puts more ++ rest) ≡ objects_from (run ++ more) rest
goes_through run [] rest h = ap (λ (r : List PlainPacket). objects_from r rest) (sym (append-nil run))
goes_through run (put ∷ more) rest h =
    let regroup : run ++ put ∷ more ≡ (run ++ put ∷ []) ++ more = sym (append_assoc run (put ∷ []) more) in
    let h' : IsOpen ((run ++ put ∷ []) ++ more) = subst IsOpen regroup h in
    let here : IsOpen (run ++ put ∷ []) = open_front (run ++ put ∷ []) more h' in
    let not_final : is_final put ≡ false = (all_back (λ packet. is_final packet ≡ false) run (put ∷ []) here.not_final).0 in
    let well : ends_without run put ≡ false = or_from (breaks (run_headers (run ++ put ∷ []))) _ (kept _ here.rules) (and_left _ _ not_final) in
    step_open run put (puts more ++ rest) well not_final ∙ goes_through (run ++ put ∷ []) more rest h' ∙ ap (λ (r : List PlainPacket). objects_from r rest) (sym regroup)

open_nil : IsOpen []
open_nil = record { not_final = tt; rules = record { one_name = omega arith; short_name = tt; name_first = refl; bounded = omega arith } }

joined_one : (x : List ℕ) → joined (x ∷ []) ≡ x
joined_one x = append-nil x

through_spelling : (run : List PlainPacket) (object : Object) (rest : List (Option PlainPacket)) → SpellsObject run object → objects_from [] (puts run ++ rest) ≡ object ∷ objects_from [] rest
through_spelling run object rest h =
    let all = run_headers run in
    let same : run_headers (h.front ++ h.last ∷ []) ≡ all = ap run_headers (sym h.parts) in
    let rules_front_open : KeepsRules (run_headers h.front) = rules_front (run_headers h.front) (run_headers (h.last ∷ [])) (subst KeepsRules (sym same ∙ headers-append h.front (h.last ∷ [])) h.rules) in
    let front_open : IsOpen h.front = record { not_final = h.not_final; rules = rules_front_open } in
    let well : ends_without h.front h.last ≡ false = or_from (breaks (run_headers (h.front ++ h.last ∷ []))) _ (ap breaks same ∙ kept all h.rules) (and_right (is_final h.last) _ (ap lacks same ∙ does_not_lack all object.name h.name h.has_body)) in
    let put_all : puts run ++ rest ≡ puts h.front ++ (Some h.last ∷ rest) = ap (λ (r : List PlainPacket). puts r ++ rest) h.parts ∙ ap (λ (ps : List (Option PlainPacket)). ps ++ rest) (map-append (λ put. Some put) h.front (h.last ∷ [])) ∙ append_assoc (puts h.front) (Some h.last ∷ []) rest in
    let made : object_of all ≡ object = ap (λ (ns : List (List ℕ)). record { name = joined ns; octets = joined (bodies all) }) h.name ∙ ap (λ (n : List ℕ). record { name = n; octets = joined (bodies all) }) (joined_one object.name) ∙ ap (λ (o : List ℕ). record { name = object.name; octets = o }) (sym h.octets) in
    ap (objects_from []) put_all ∙ goes_through [] h.front (Some h.last ∷ rest) front_open ∙ step_final h.front h.last rest well h.final
    ∙ ap (λ (hs : List PlainHeader). object_of hs ∷ objects_from [] rest) same ∙ ap (λ (o : Object). o ∷ objects_from [] rest) made

through_broken : (run : List PlainPacket) (last : Option PlainPacket) (rest : List (Option PlainPacket)) → IsOpen run → EndsWithout run last → objects_from [] ((puts run ++ last ∷ []) ++ rest) ≡ objects_from [] rest
through_broken run None rest o e = ap (objects_from []) (append_assoc (puts run) (None ∷ []) rest) ∙ goes_through [] run (None ∷ rest) o
through_broken run (Some put) rest o e =
    let hs = run_headers (run ++ put ∷ []) in
    let ended : ends_without run put ≡ true =
    elim e [
      | inl breaking ↦ or_left (breaks hs) _ (elim (cases_Bool (breaks hs)) [ inl found ↦ found | inr none ↦ absurd (breaking (keeps hs none)) ])
      | inr lacking ↦ or_right (breaks hs) _ (and_from (is_final put) (lacks hs) lacking.0
          (elim (lacking.1) [
            | inl no_name ↦ or_left (eqb (length (names hs)) 0) _ (eq-eqb _ _ (ap length no_name))
            | inr no_body ↦ or_right (eqb (length (names hs)) 0) _ (eq-eqb _ _ (ap length no_body))
          ]))
    ] in
    ap (objects_from []) (append_assoc (puts run) (Some put ∷ []) rest) ∙ goes_through [] run (Some put ∷ rest) o ∙ step_refused run put rest ended

-- ---- from whole runs to packets

through_all : (stretches : List Stretch) (open_run : List PlainPacket) → AllByRecursion IsStretch stretches → IsOpen open_run → objects_from [] (flat_map stretch_packets stretches ++ puts open_run) ≡ flat_map stretch_objects stretches
through_all [] open_run all o = ap (objects_from []) (sym (append-nil (puts open_run))) ∙ goes_through [] open_run [] o
through_all (Spelling run object ∷ stretches) open_run all o =
    ap (objects_from []) (append_assoc (puts run) (flat_map stretch_packets stretches) (puts open_run))
    ∙ through_spelling run object (flat_map stretch_packets stretches ++ puts open_run) all.0
    ∙ ap (λ (os : List Object). object ∷ os) (through_all stretches open_run all.1 o)
through_all (Broken run last ∷ stretches) open_run all o =
    ap (objects_from []) (append_assoc (puts run ++ last ∷ []) (flat_map stretch_packets stretches) (puts open_run))
    ∙ through_broken run last (flat_map stretch_packets stretches ++ puts open_run) all.0.0 all.0.1
    ∙ through_all stretches open_run all.1 o

pub stretches_spell : (packets : List (Option PlainPacket)) (objects : List Object) → FallsInto packets objects → objects ≡ objects_from [] packets
stretches_spell packets objects h = h.objects_are ∙ sym (ap (objects_from []) h.packets_are ∙ through_all h.stretches h.open_run h.are_stretches h.is_open)

-- ---- from packets to whole runs

-- a stretch in front
in_front : (stretch : Stretch) (packets rest : List (Option PlainPacket)) (objects : List Object) → IsStretch stretch → packets ≡ stretch_packets stretch ++ rest → FallsInto rest objects → FallsInto packets (stretch_objects stretch ++ objects)
in_front stretch packets rest objects is e h = record {
  stretches = stretch ∷ h.stretches;
  open_run = h.open_run;
  are_stretches = (is, h.are_stretches);
  is_open = h.is_open;
  packets_are = e ∙ ap (λ (r : List (Option PlainPacket)). stretch_packets stretch ++ r) h.packets_are ∙ sym (append_assoc (stretch_packets stretch) (flat_map stretch_packets h.stretches) (puts h.open_run));
  objects_are = ap (λ (os : List Object). stretch_objects stretch ++ os) h.objects_are;
}

one_name : (ns : List (List ℕ)) → length ns ≤ 1 → eqb (length ns) 0 ≡ false → ns ≡ joined ns ∷ []
one_name [] h e = absurd (eqb-false 0 0 e refl)
one_name (n ∷ []) h e = ap (λ (x : List ℕ). x ∷ []) (sym (append-nil n))
one_name (n ∷ m ∷ ns) h e = absurd (omega arith)

falls_at : (ended final : Bool) (run : List PlainPacket) (put : PlainPacket) (rest : List (Option PlainPacket)) → IsOpen run → ends_without run put ≡ ended → is_final put ≡ final
    → FallsInto rest (objects_from [] rest) → (IsOpen (run ++ put ∷ []) → FallsInto (puts (run ++ put ∷ []) ++ rest) (objects_from (run ++ put ∷ []) rest)) → FallsInto (puts run ++ (Some put ∷ rest)) (objects_from run (Some put ∷ rest))
falls_at true final run put rest o e f behind on =
    let hs = run_headers (run ++ put ∷ []) in
    let without : EndsWithout run (Some put) =
    elim (or_cases (breaks hs) (is_final put && lacks hs) e) [
      | inl breaking ↦ inl (broken hs breaking)
      | inr lacking ↦
          let p = and_parts (is_final put) (lacks hs) lacking in
          inr (
            p.0,
            elim (or_cases (eqb (length (names hs)) 0) (eqb (length (bodies hs)) 0) p.1) [
              | inl no_name ↦ inl (nil_from_length (names hs) (eqb-true _ _ no_name))
              | inr no_body ↦ inr (nil_from_length (bodies hs) (eqb-true _ _ no_body))
            ],
          )
    ] in
    subst (FallsInto (puts run ++ (Some put ∷ rest))) (sym (step_refused run put rest e))
    (in_front (Broken run (Some put)) (puts run ++ (Some put ∷ rest)) rest (objects_from [] rest) (o, without) (sym (append_assoc (puts run) (Some put ∷ []) rest)) behind)
falls_at false true run put rest o e f behind on =
    let hs = run_headers (run ++ put ∷ []) in
    let p = or_parts (breaks hs) (is_final put && lacks hs) e in
    let rules = keeps hs p.0 in
    let has : lacks hs ≡ false = elim (cases_Bool (lacks hs)) [ inl found ↦ absurd (let k = sym (and_from (is_final put) (lacks hs) f found) ∙ p.1 in cc) | inr none ↦ none ] in
    let q = or_parts (eqb (length (names hs)) 0) (eqb (length (bodies hs)) 0) has in
    let no_zero = eqb-false _ _ q.1 in
    let spelling : SpellsObject (run ++ put ∷ []) (object_of hs) = record {
      front = run;
      last = put;
      parts = refl;
      not_final = o.not_final;
      final = f;
      rules = rules;
      name = one_name (names hs) rules.one_name q.0;
      has_body = omega arith;
      octets = refl;
    } in
    subst (FallsInto (puts run ++ (Some put ∷ rest))) (sym (step_final run put rest e f))
    (in_front (Spelling (run ++ put ∷ []) (object_of hs)) (puts run ++ (Some put ∷ rest)) rest (objects_from [] rest) spelling
    (sym (ap (λ (ps : List (Option PlainPacket)). ps ++ rest) (map-append (λ put. Some put) run (put ∷ [])) ∙ append_assoc (puts run) (Some put ∷ []) rest)) behind)
falls_at false false run put rest o e f behind on =
    let hs = run_headers (run ++ put ∷ []) in
    let p = or_parts (breaks hs) (is_final put && lacks hs) e in
    let longer : IsOpen (run ++ put ∷ []) = record { not_final = all_both (λ packet. is_final packet ≡ false) run (put ∷ []) o.not_final (f, tt); rules = keeps hs p.0 } in
    let same : puts (run ++ put ∷ []) ++ rest ≡ puts run ++ (Some put ∷ rest) = ap (λ (ps : List (Option PlainPacket)). ps ++ rest) (map-append (λ put. Some put) run (put ∷ [])) ∙ append_assoc (puts run) (Some put ∷ []) rest in
    subst (FallsInto (puts run ++ (Some put ∷ rest))) (sym (step_open run put rest e f)) (subst (λ (ps : List (Option PlainPacket)). FallsInto ps (objects_from (run ++ put ∷ []) rest)) same (on longer))

falls : (run : List PlainPacket) (rest : List (Option PlainPacket)) → IsOpen run → FallsInto (puts run ++ rest) (objects_from run rest)
falls run [] o = record { stretches = []; open_run = run; are_stretches = tt; is_open = o; packets_are = append-nil (puts run); objects_are = refl }
falls run (None ∷ rest) o = in_front (Broken run None) (puts run ++ (None ∷ rest)) rest (objects_from [] rest) (o, tt) (sym (append_assoc (puts run) (None ∷ []) rest)) (falls [] rest open_nil)
falls run (Some put ∷ rest) o = falls_at (ends_without run put) (is_final put) run put rest o refl refl (falls [] rest open_nil) (λ longer. falls (run ++ put ∷ []) rest longer)

pub packets_fall : (packets : List (Option PlainPacket)) (objects : List Object) → objects ≡ objects_from [] packets → FallsInto packets objects
packets_fall packets objects e = subst (FallsInto packets) (sym e) (falls [] packets open_nil)
