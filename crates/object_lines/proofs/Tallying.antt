-- What is counted of PUTs is what their objects are told by.
use Rattle.std.proofs.Common.{◌≡◌, ℕ, ◌+◌, ◌≤◌, ◌⊎◌, inl, inr, Bool, true, false, cond, ◌&&◌, ◌||◌, not, eqb, ltb, min, List, [], ◌∷◌, ◌++◌, length, map, fold, Option, Some, None, Ok, refl, sym, ap, ◌∙◌, append_assoc, append-nil, length-append, arith}
use Rattle.std.specs.Prelude.{is_none}
use Rattle.std.specs.List.{filter_map, cons_option, list_any, AllByRecursion}
use Rattle.std.proofs.lemmas.Bool.{cond-true, ne_eqb, cases_lt, lt-ltb, le-ltb, eqb-true}
use Rattle.std.proofs.lemmas.List.Sums.{fold-append, take_while-cons}
use Rattle.obex_headers.proofs.RunLaws.{keeps}
use Rattle.std.proofs.lemmas.Grind.{flat_map-append}
use Rattle.bt_base.specs.Objects.{Object}
use Rattle.bt_base.specs.Octets.{IsOctets}
use Rattle.obex_headers.specs.declared.packet.Packet.{Packet}
use Rattle.obex_headers.specs.declared.packet.Phase.TheVariants.{Request}
use Rattle.obex_headers.specs.Packets.{PlainHeader, PlainPacket, IsHeader, header_octets, headers_octets, units_of}
use Rattle.obex_headers.specs.Reading.{header_at, packet_in, GivesPacket}
use Rattle.obex_headers.specs.Reader.{IsPut}
use Rattle.obex_headers.specs.Runs.{put_of, is_final, name_text, body_of, names, bodies, ahead_of_name, joined, run_headers, is_long, breaks, lacks, object_of, objects_from}
use Rattle.obex_headers.proofs.HeaderLaws.{ok_is, header_again}
use Rattle.obex_headers.proofs.PacketLaws.{packet_takes}
use Rattle.obex_headers.proofs.ReaderLaws.{IsLeft}
use Rattle.link_talk.specs.ObjectsHeard.{put_within}
use Rattle.link_readers.specs.talk_laws.specs.Spelling.{run_with}
use Rattle.link_readers.specs.talk_laws.specs.Spelling as runs
use Rattle.object_lines.specs.declared.tally.Told.{Told as LentTold}
use Rattle.object_lines.specs.Lines.{object_line, lines_of}
use Rattle.object_lines.specs.Tallies.{plain_told, told_lines, Told, told, Tally, no_tally, most_counted, with_name, with_body, tally_header, tally_of, with_put, is_broken, is_lacking, is_refused, told_of, tally_after, told_as, told_by, told_from}

-- ---- a PUT that was read

pub put_is : (most : ℕ) (octets : List ℕ) (lent : Packet) → IsOctets octets → GivesPacket (Ok lent) (packet_in Request most octets) → (eqb lent.code 0x02 || eqb lent.code 0x82) ≡ true → IsPut (Some lent) (put_within most octets)
put_is most octets lent fits given is_put =
    let packet = given.0 in
    let same : (eqb packet.code 0x02 || eqb packet.code 0x82) ≡ true = ap (λ (code : ℕ). eqb code 0x02 || eqb code 0x82) (sym given.2.code) ∙ is_put in
    (packet, ap put_of given.1 ∙ cond-true _ _ _ same, (packet_takes Request most octets packet fits given.1).sound.headers, given.2)

-- ---- the headers of a packet

next_of : (left new : List ℕ) (x : PlainHeader) (rest : List PlainHeader) → AllByRecursion IsHeader rest → left ≡ headers_octets rest → IsHeader x → left ≡ header_octets x ++ new
    → (back : List PlainHeader) × (rest ≡ x ∷ back) × AllByRecursion IsHeader back × (new ≡ headers_octets back)
next_of left new x [] h e hx f = absurd (let k = sym e ∙ f in cc)
next_of left new x (first ∷ back) h e hx f =
    let same = ok_is (first, headers_octets back) (x, new) (sym (header_again first (headers_octets back) h.0) ∙ ap header_at (sym e ∙ f) ∙ header_again x new hx) in
    (back, ap (λ (p : PlainHeader × List ℕ). p.0 ∷ back) same, h.1, sym (ap (λ (p : PlainHeader × List ℕ). p.1) same))

-- how far the headers of a packet are counted: these were, and these are left
abbrev pub IsCounted : Tally → List ℕ → Tally → List PlainHeader → Type 0
IsCounted start left now all = (heard : List PlainHeader) × IsLeft left heard all × (now ≡ fold tally_header start heard)

pub one_counted : (start old now : Tally) (left new : List ℕ) (x : PlainHeader) (all : List PlainHeader) → IsCounted start left old all → IsHeader x → left ≡ header_octets x ++ new → now ≡ tally_header old x → IsCounted start new now all
one_counted start old now left new x all (heard, (rest, sound, is, whole), counted) hx stands grown =
    let n = next_of left new x rest sound is hx stands in (
      heard ++ x ∷ [],
      (n.0, n.2, n.3, append_assoc heard (x ∷ []) n.0 ∙ ap (λ (r : List PlainHeader). heard ++ r) (sym n.1) ∙ whole),
      grown ∙ ap (λ t. tally_header t x) counted ∙ sym (fold-append tally_header start heard (x ∷ [])),
    )

none_left : (left : List ℕ) (heard all rest : List PlainHeader) → AllByRecursion IsHeader rest → left ≡ headers_octets rest → heard ++ rest ≡ all → ((header : PlainHeader) (rest : List ℕ) → IsHeader header → left ≡ header_octets header ++ rest → ⊥) → heard ≡ all
none_left left heard all [] h e f none = sym (append-nil heard) ∙ f
none_left left heard all (first ∷ back) h e f none = absurd (none first (headers_octets back) h.0 e)

pub all_counted : (start now : Tally) (left : List ℕ) (all : List PlainHeader) → IsCounted start left now all → ((header : PlainHeader) (rest : List ℕ) → IsHeader header → left ≡ header_octets header ++ rest → ⊥) → now ≡ fold tally_header start all
all_counted start now left all (heard, (rest, sound, is, whole), counted) none = counted ∙ ap (fold tally_header start) (none_left left heard all rest sound is whole none)

pub none_counted : (start : Tally) (left : List ℕ) (all : List PlainHeader) → AllByRecursion IsHeader all → left ≡ headers_octets all → IsCounted start left start all
none_counted start left all sound is = ([], (all, sound, is, refl), refl)

-- ---- what is counted of headers

or_true : (b : Bool) → (b || true) ≡ true
or_true true = refl
or_true false = refl

or_false : (b : Bool) → (b || false) ≡ b
or_false true = refl
or_false false = refl

or_assoc : (a b c : Bool) → ((a || b) || c) ≡ (a || (b || c))
or_assoc true b c = refl
or_assoc false b c = refl

name_step : (t : Tally) (text octets : Option (List ℕ)) (rest : List (List ℕ)) → (with_body (with_name t text) octets).name ++ joined (map units_of rest) ≡ t.name ++ joined (map units_of (cons_option text rest))
name_step t None None rest = refl
name_step t None (Some o) rest = refl
name_step t (Some x) None rest = append_assoc t.name (units_of x) (joined (map units_of rest))
name_step t (Some x) (Some o) rest = append_assoc t.name (units_of x) (joined (map units_of rest))

name_counted : (t : Tally) (hs : List PlainHeader) → (fold tally_header t hs).name ≡ t.name ++ joined (names hs)
name_counted t [] = sym (append-nil t.name)
name_counted t (h ∷ hs) = name_counted (tally_header t h) hs ∙ name_step t (name_text h) (body_of h) (filter_map name_text hs)

abbrev some_of : List (List ℕ) → Bool
some_of [] = false
some_of (x ∷ xs) = true

named_step : (t : Tally) (text octets : Option (List ℕ)) (rest : List (List ℕ)) → ((with_body (with_name t text) octets).named || some_of rest) ≡ (t.named || some_of (cons_option text rest))
named_step t None None rest = refl
named_step t None (Some o) rest = refl
named_step t (Some x) None rest = sym (or_true t.named)
named_step t (Some x) (Some o) rest = sym (or_true t.named)

named_counted : (t : Tally) (hs : List PlainHeader) → (fold tally_header t hs).named ≡ (t.named || some_of (filter_map name_text hs))
named_counted t [] = sym (or_false t.named)
named_counted t (h ∷ hs) = named_counted (tally_header t h) hs ∙ named_step t (name_text h) (body_of h) (filter_map name_text hs)

abbrev more_of : List (List ℕ) → Bool
more_of [] = false
more_of (x ∷ xs) = some_of xs

abbrev twice : Bool → Bool → List (List ℕ) → Bool
twice again named rest = again || ((named && some_of rest) || more_of rest)

again_by : (again named : Bool) (x : List ℕ) (rest : List (List ℕ)) → twice (again || named) true rest ≡ twice again named (x ∷ rest)
again_by true named x rest = refl
again_by false true x rest = refl
again_by false false x [] = refl
again_by false false x (y ∷ rest) = refl

again_step : (t : Tally) (text octets : Option (List ℕ)) (rest : List (List ℕ)) → let t' = with_body (with_name t text) octets in twice t'.again t'.named rest ≡ twice t.again t.named (cons_option text rest)
again_step t None None rest = refl
again_step t None (Some o) rest = refl
again_step t (Some x) None rest = again_by t.again t.named x rest
again_step t (Some x) (Some o) rest = again_by t.again t.named x rest

never_twice : (again named : Bool) → again ≡ twice again named []
never_twice true named = refl
never_twice false true = refl
never_twice false false = refl

again_counted : (t : Tally) (hs : List PlainHeader) → (fold tally_header t hs).again ≡ twice t.again t.named (filter_map name_text hs)
again_counted t [] = never_twice t.again t.named
again_counted t (h ∷ hs) = again_counted (tally_header t h) hs ∙ again_step t (name_text h) (body_of h) (filter_map name_text hs)

long_step : (t : Tally) (text octets : Option (List ℕ)) (rest : List (List ℕ)) → ((with_body (with_name t text) octets).long || list_any is_long (map units_of rest)) ≡ (t.long || list_any is_long (map units_of (cons_option text rest)))
long_step t None None rest = refl
long_step t None (Some o) rest = refl
long_step t (Some x) None rest = or_assoc t.long (is_long (units_of x)) (list_any is_long (map units_of rest))
long_step t (Some x) (Some o) rest = or_assoc t.long (is_long (units_of x)) (list_any is_long (map units_of rest))

long_counted : (t : Tally) (hs : List PlainHeader) → (fold tally_header t hs).long ≡ (t.long || list_any is_long (names hs))
long_counted t [] = sym (or_false t.long)
long_counted t (h ∷ hs) = long_counted (tally_header t h) hs ∙ long_step t (name_text h) (body_of h) (filter_map name_text hs)

bodied_step : (t : Tally) (text octets : Option (List ℕ)) (rest : List (List ℕ)) → ((with_body (with_name t text) octets).bodied || some_of rest) ≡ (t.bodied || some_of (cons_option octets rest))
bodied_step t None None rest = refl
bodied_step t (Some x) None rest = refl
bodied_step t None (Some o) rest = sym (or_true t.bodied)
bodied_step t (Some x) (Some o) rest = sym (or_true t.bodied)

bodied_counted : (t : Tally) (hs : List PlainHeader) → (fold tally_header t hs).bodied ≡ (t.bodied || some_of (bodies hs))
bodied_counted t [] = sym (or_false t.bodied)
bodied_counted t (h ∷ hs) = bodied_counted (tally_header t h) hs ∙ bodied_step t (name_text h) (body_of h) (bodies hs)

some_more : (s : ℕ) (o : List ℕ) (rest : List (List ℕ)) → min (min (s + length o) most_counted + length (joined rest)) most_counted ≡ min (s + length (joined (o ∷ rest))) most_counted
some_more s o rest = omega (arith, length-append o (joined rest))

size_step : (t : Tally) (text octets : Option (List ℕ)) (rest : List (List ℕ)) → min ((with_body (with_name t text) octets).size + length (joined rest)) most_counted ≡ min (t.size + length (joined (cons_option octets rest))) most_counted
size_step t None None rest = refl
size_step t (Some x) None rest = refl
size_step t None (Some o) rest = some_more t.size o rest
size_step t (Some x) (Some o) rest = some_more t.size o rest

size_within : (t : Tally) (text octets : Option (List ℕ)) → t.size ≤ most_counted → (with_body (with_name t text) octets).size ≤ most_counted
size_within t None None le = le
size_within t (Some x) None le = le
size_within t None (Some o) le = omega arith
size_within t (Some x) (Some o) le = omega arith

size_counted : (t : Tally) (hs : List PlainHeader) → t.size ≤ most_counted → (fold tally_header t hs).size ≡ min (t.size + length (joined (bodies hs))) most_counted
size_counted t [] le = omega (arith, le)
size_counted t (h ∷ hs) le = size_counted (tally_header t h) hs (size_within t (name_text h) (body_of h) le) ∙ size_step t (name_text h) (body_of h) (bodies hs)

abbrev early : Bool → Bool → List (List ℕ) → Bool
early ahead named rest = ahead || (not named && some_of rest)

early_by : (ahead named : Bool) (rest other : List (List ℕ)) (o : List ℕ) → early (ahead || not named) named rest ≡ early ahead named (o ∷ other)
early_by true named rest other o = refl
early_by false true rest other o = refl
early_by false false rest other o = refl

late_by : (ahead named : Bool) → ahead ≡ early ahead named []
late_by true named = refl
late_by false true = refl
late_by false false = refl

named_late : (ahead : Bool) (named : Bool) (rest : List (List ℕ)) → early ahead true rest ≡ early ahead named []
named_late true named rest = refl
named_late false true rest = refl
named_late false false rest = refl

ahead_step : (t : Tally) (text octets : Option (List ℕ)) (rest : List (List ℕ)) → let t' = with_body (with_name t text) octets in early t'.ahead t'.named rest ≡ early t.ahead t.named (cond (is_none text) (cons_option octets rest) [])
ahead_step t None None rest = refl
ahead_step t None (Some o) rest = early_by t.ahead t.named rest rest o
ahead_step t (Some x) None rest = named_late t.ahead t.named rest
ahead_step t (Some x) (Some o) rest = ap (λ b. early b true rest) (or_false t.ahead) ∙ named_late t.ahead t.named rest

bodies_by : (b : Bool) (h : PlainHeader) (hs : List PlainHeader) → bodies (cond b (h ∷ hs) []) ≡ cond b (cons_option (body_of h) (bodies hs)) []
bodies_by true h hs = refl
bodies_by false h hs = refl

ahead_cons : (h : PlainHeader) (hs : List PlainHeader) → cond (is_none (name_text h)) (cons_option (body_of h) (bodies (ahead_of_name hs))) [] ≡ bodies (ahead_of_name (h ∷ hs))
ahead_cons h hs = sym (bodies_by (is_none (name_text h)) h (ahead_of_name hs)) ∙ ap bodies (sym (take_while-cons (λ header. is_none (name_text header)) h hs))

ahead_counted : (t : Tally) (hs : List PlainHeader) → (fold tally_header t hs).ahead ≡ early t.ahead t.named (bodies (ahead_of_name hs))
ahead_counted t [] = late_by t.ahead t.named
ahead_counted t (h ∷ hs) =
    ahead_counted (tally_header t h) hs
    ∙ ahead_step t (name_text h) (body_of h) (bodies (ahead_of_name hs))
    ∙ ap (early t.ahead t.named) (ahead_cons h hs)

-- ---- the rules

some_long : (xs : List (List ℕ)) → some_of xs ≡ ltb 0 (length xs)
some_long [] = refl
some_long (x ∷ xs) = sym (lt-ltb _ _ (omega arith))

more_long : (xs : List (List ℕ)) → twice false false xs ≡ ltb 1 (length (map units_of xs))
more_long [] = refl
more_long (x ∷ []) = refl
more_long (x ∷ y ∷ xs) = sym (lt-ltb _ _ (omega arith))

none_named : (xs : List (List ℕ)) → not (some_of xs) ≡ eqb (length (map units_of xs)) 0
none_named [] = refl
none_named (x ∷ xs) = sym (ne_eqb _ _ (λ e. omega (arith, e)))

none_there : (xs : List (List ℕ)) → not (some_of xs) ≡ eqb (length xs) 0
none_there [] = refl
none_there (x ∷ xs) = sym (ne_eqb _ _ (λ e. omega (arith, e)))

past_most : (n : ℕ) → ltb 16777215 (min (0 + n) most_counted) ≡ ltb 16777215 n
past_most n = elim (cases_lt 16777215 n) [ inl more ↦ lt-ltb _ _ (omega (arith, more)) ∙ sym (lt-ltb _ _ more) | inr all ↦ le-ltb _ _ (omega (arith, all)) ∙ sym (le-ltb _ _ all) ]

abbrev any4 : (a b c d : Bool) → Bool
any4 a b c d = a || b || c || d

pub broken_is : (hs : List PlainHeader) → is_broken (tally_of hs) ≡ breaks hs
broken_is hs =
    let t = tally_of hs in
    ap (λ b. any4 b t.long t.ahead (ltb 16777215 t.size)) (again_counted no_tally hs ∙ more_long (filter_map name_text hs))
    ∙ ap (λ b. any4 (ltb 1 (length (names hs))) b t.ahead (ltb 16777215 t.size)) (long_counted no_tally hs)
    ∙ ap (λ b. any4 (ltb 1 (length (names hs))) (list_any is_long (names hs)) b (ltb 16777215 t.size)) (ahead_counted no_tally hs ∙ some_long (bodies (ahead_of_name hs)))
    ∙ ap (any4 (ltb 1 (length (names hs))) (list_any is_long (names hs)) (ltb 0 (length (bodies (ahead_of_name hs))))) (ap (ltb 16777215) (size_counted no_tally hs (omega arith)) ∙ past_most (length (joined (bodies hs))))

pub lacking_is : (hs : List PlainHeader) → is_lacking (tally_of hs) ≡ lacks hs
lacking_is hs =
    ap (λ b. not b || not (tally_of hs).bodied) (named_counted no_tally hs)
    ∙ ap (λ b. b || not (tally_of hs).bodied) (none_named (filter_map name_text hs))
    ∙ ap (λ b. eqb (length (names hs)) 0 || not b) (bodied_counted no_tally hs)
    ∙ ap (λ b. eqb (length (names hs)) 0 || b) (none_there (bodies hs))

bounded : (hs : List PlainHeader) → breaks hs ≡ false → length (joined (bodies hs)) ≤ 16777215
bounded hs fine = (keeps hs fine).bounded

told_is : (hs : List PlainHeader) → breaks hs ≡ false → told_of (tally_of hs) ≡ told (object_of hs)
told_is hs fine =
    ap (λ (name : List ℕ). record { name = name; size = (tally_of hs).size }) (name_counted no_tally hs)
    ∙ ap (λ (n : ℕ). record { name = joined (names hs); size = n }) (size_counted no_tally hs (omega arith) ∙ omega (arith, bounded hs fine))

-- ---- a packet more

headers_more : (run : List PlainPacket) (put : PlainPacket) → tally_of (run_headers (run ++ put ∷ [])) ≡ with_put (tally_of (run_headers run)) put
headers_more run put =
    ap tally_of (flat_map-append (λ (packet : PlainPacket). packet.headers) run (put ∷ []) ∙ ap (λ hs. run_headers run ++ hs) (append-nil put.headers))
    ∙ fold-append tally_header no_tally (run_headers run) put.headers

refused_is : (hs : List PlainHeader) (final : Bool) → is_refused final (tally_of hs) ≡ (breaks hs || (final && lacks hs))
refused_is hs final = ap (λ b. b || (final && is_lacking (tally_of hs))) (broken_is hs) ∙ ap (λ b. breaks hs || (final && b)) (lacking_is hs)

or_none : (a b : Bool) → (a || b) ≡ false → a ≡ false
or_none true b e = e
or_none false b e = refl

abbrev Left : Bool → Tally → Bool → Tally
Left refused t final = cond refused no_tally (cond final no_tally t)

abbrev Gives : Bool → Tally → Bool → List Told
Gives refused t final = cond refused [] (cond final (told_of t ∷ []) [])

-- the run behind a PUT, and the objects that are told
run_left : (run : List PlainPacket) (put : PlainPacket) (refused final : Bool) → tally_of (run_headers (cond refused [] (cond final [] (run ++ put ∷ [])))) ≡ Left refused (with_put (tally_of (run_headers run)) put) final
run_left run put true final = refl
run_left run put false true = refl
run_left run put false false = headers_more run put

pub run_tallied : (run : List PlainPacket) (put : Option PlainPacket) → tally_of (run_headers (run_with run put)) ≡ tally_after (tally_of (run_headers run)) put
run_tallied run None = refl
run_tallied run (Some put) =
    run_left run put (runs.is_refused run put) (is_final put)
    ∙ ap (λ b. Left b (with_put (tally_of (run_headers run)) put) (is_final put)) (sym (refused_is (run_headers (run ++ put ∷ [])) (is_final put)) ∙ ap (is_refused (is_final put)) (headers_more run put))

pub runs_tallied : (run : List PlainPacket) (puts : List (Option PlainPacket)) → tally_of (run_headers (fold run_with run puts)) ≡ fold tally_after (tally_of (run_headers run)) puts
runs_tallied run [] = refl
runs_tallied run (put ∷ puts) = runs_tallied (run_with run put) puts ∙ ap (λ t. fold tally_after t puts) (run_tallied run put)

told_left : (run : List PlainPacket) (put : PlainPacket) (rest : List (Option PlainPacket)) (refused final : Bool) → (breaks (run_headers (run ++ put ∷ [])) ≡ false ⊎ (refused ≡ true))
    → map told (cond refused (objects_from [] rest) (cond final (object_of (run_headers (run ++ put ∷ [])) ∷ objects_from [] rest) (objects_from (run ++ put ∷ []) rest)))
    ≡ Gives refused (tally_of (run_headers (run ++ put ∷ []))) final ++ map told (objects_from (cond refused [] (cond final [] (run ++ put ∷ []))) rest)
told_left run put rest true final fine = refl
told_left run put rest false true (inl fine) = ap (λ t. t ∷ map told (objects_from [] rest)) (sym (told_is (run_headers (run ++ put ∷ [])) fine))
told_left run put rest false true (inr wrong) = cc
told_left run put rest false false fine = refl

which : (run : List PlainPacket) (put : PlainPacket) (refused : Bool) → runs.is_refused run put ≡ refused → (breaks (run_headers (run ++ put ∷ [])) ≡ false) ⊎ (refused ≡ true)
which run put true e = inr refl
which run put false e = inl (or_none (breaks (run_headers (run ++ put ∷ []))) (is_final put && lacks (run_headers (run ++ put ∷ []))) e)

pub tolds_are : (run : List PlainPacket) (puts : List (Option PlainPacket)) → map told (objects_from run puts) ≡ told_from (tally_of (run_headers run)) puts
tolds_are run [] = refl
tolds_are run (None ∷ puts) = tolds_are [] puts
tolds_are run (Some put ∷ puts) =
    told_left run put puts (runs.is_refused run put) (is_final put) (which run put (runs.is_refused run put) refl)
    ∙ ap (λ b. Gives b (tally_of (run_headers (run ++ put ∷ []))) (is_final put) ++ map told (objects_from (run_with run (Some put)) puts)) (sym (refused_is (run_headers (run ++ put ∷ [])) (is_final put)))
    ∙ ap (λ t. told_as (is_final put) t ++ map told (objects_from (run_with run (Some put)) puts)) (headers_more run put)
    ∙ ap (λ ts. told_by (tally_of (run_headers run)) (Some put) ++ ts) (tolds_are (run_with run (Some put)) puts ∙ ap (λ t. told_from t puts) (run_tallied run (Some put)))

-- ---- what is told of objects

pub lines_are_told : (objects : List Object) → told_lines (map told objects) ≡ lines_of objects
lines_are_told [] = refl
lines_are_told (object ∷ objects) = ap (λ text. object_line object ++ text) (lines_are_told objects)
