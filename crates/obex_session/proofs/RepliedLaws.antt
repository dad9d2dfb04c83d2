-- A session replies to each packet by its place in its run.
use Rattle.std.proofs.Common.{inl, inr, ◌⊎◌, Bool, true, false, cond, eqb, ltb, ◌+◌, ◌||◌, ◌&&◌, ◌≡◌, ℕ, List, [], ◌∷◌, ◌++◌, length, Option, Some, None, Result, Ok, Err, refl, sym, ap, subst, ◌∙◌, arith}
use Rattle.std.specs.Prelude.{not, nat_lt, is_err, slice_index}
use Rattle.std.specs.List.{list_any}
use Rattle.std.proofs.lemmas.Bool.{cases_Bool, cond-true, cond-false, or_from, or_right, ne_eqb, lt-ltb}
use Rattle.bt_base.specs.Objects.{Object, Contents}
use Rattle.bt_base.specs.declared.ports.PortFault.TheVariants as fault
use Rattle.obex_headers.specs.declared.codes.Code.TheVariants as code
use Rattle.obex_headers.specs.declared.codes.Code.TheVariants.{TooLarge}
use Rattle.obex_headers.specs.declared.fault.ObexRefusal.{ObexRefusal}
use Rattle.obex_headers.specs.declared.packet.Phase.TheVariants.{Request}
use Rattle.obex_headers.specs.Codes.{octet_of}
use Rattle.obex_headers.specs.Packets.{PlainHeader, PlainPacket, units_of}
use Rattle.obex_headers.specs.Reading.{packet_in}
use Rattle.obex_headers.specs.Runs.{name_text, body_of, names, bodies, run_headers, breaks, lacks, is_final, KeepsRules}
use Rattle.obex_headers.proofs.RunLaws.{keeps, kept}
use Rattle.obex_session.specs.declared.course.Course.{Course}
use Rattle.obex_session.specs.declared.course.Course.TheVariants.{Rests, Ignores, Runs}
use Rattle.obex_session.specs.declared.course.Progress.{Progress}
use Rattle.obex_session.specs.declared.course.Progress.TheVariants.{Unnamed, Named, Filled}
use Rattle.obex_session.specs.declared.course.Verdict.{Verdict}
use Rattle.obex_session.specs.declared.course.Verdict.TheVariants.{Open, Whole, Ended, PassedOver}
use Rattle.obex_session.specs.declared.marks.Kind.{Kind}
use Rattle.obex_session.specs.declared.marks.Kind.TheVariants as kinds
use Rattle.obex_session.specs.InboxCalls.{InboxCall, Begin, Append, Answer, come_of, left_by}
use Rattle.obex_session.specs.Marks.{is_name}
use Rattle.obex_session.specs.Past.{Serving, put_heard, progress_from, progress_of}
use Rattle.obex_session.specs.Replied.{has_names, code_at_break, broken_code, put_code, packet_code, code_or, plain_reply, said_to, IsReplied, AllReplied, RepliesAreDue}
use Rattle.obex_session.specs.Rules.{Ruling, is_under_way, opens, ends, at_parts, at_header, then_on, after_headers, finished, at_put, at_put_in, at_packet, other_response, progress_in, is_ignoring}
use Rattle.obex_session.specs.Serving.{kind_heard, ruling_on, verdict_or, outcome_on, heard_with}
use Rattle.obex_session.specs.Tried.{calls_behind, run_behind}
use Rattle.obex_session.specs.Turns.{enables, is_single_in, is_first_in, is_followed, course_after, said_open, said_whole, said_after}
use Rattle.obex_session.specs.Views.{octets_said, rested}
use Rattle.obex_session.proofs.PastLaws.{open_keeps}
use Rattle.obex_session.proofs.RuleLaws.{Follows, follows, step}
use Rattle.obex_session.proofs.TryingLaws.{nothing_kept, called, progress_next}

-- ---- one header

abbrev PartsCode : Progress → Option (List ℕ) → Verdict → Type 0
PartsCode progress name (Open next) = Unit {0}
PartsCode progress name Whole = Unit {0}
PartsCode progress name (Ended code) = code_at_break (is_under_way progress) name ≡ octet_of code
PartsCode progress name (PassedOver final) = Unit {0}

either_code : (progress : Progress) (name : Option (List ℕ)) (b : Bool) (x y : Ruling) → PartsCode progress name x.verdict → PartsCode progress name y.verdict → PartsCode progress name (cond b x y).verdict
either_code progress name true x y p q = p
either_code progress name false x y p q = q

parts_coded : (progress : Progress) (name body : Option (List ℕ)) → PartsCode progress name (at_parts progress name body).verdict
parts_coded Unnamed (Some text) body = either_code Unnamed (Some text) (ltb 255 (length (units_of text))) (ends Unnamed TooLarge) (opens (Begin (units_of text) ∷ []) Named) refl tt
parts_coded Named (Some text) body = refl
parts_coded (Filled octets) (Some text) body = refl
parts_coded Unnamed None (Some octets) = refl
parts_coded Named None (Some octets) = either_code Named None (ltb 16777215 (length octets)) (ends Named TooLarge) (opens (Append octets ∷ []) (Filled (length octets))) refl tt
parts_coded (Filled before) None (Some octets) = either_code (Filled before) None (ltb 16777215 (before + length octets)) (ends (Filled before) TooLarge) (opens (Append octets ∷ []) (Filled (before + length octets))) refl tt
parts_coded Unnamed None None = tt
parts_coded Named None None = tt
parts_coded (Filled before) None None = tt

under_named : (ns bs : List (List ℕ)) → is_under_way (progress_from ns bs) ≡ nat_lt 0 (length ns)
under_named [] bs = refl
under_named (n ∷ ns) [] = sym (lt-ltb 0 (length (n ∷ ns)) (omega arith))
under_named (n ∷ ns) (b ∷ bs) = sym (lt-ltb 0 (length (n ∷ ns)) (omega arith))

-- ---- the headers of a PUT

abbrev pub CodedAs : List PlainHeader → List PlainHeader → Verdict → Type 0
CodedAs hs more (Open next) = Unit {0}
CodedAs hs more Whole = Unit {0}
CodedAs hs more (Ended code) = broken_code hs more ≡ octet_of code
CodedAs hs more (PassedOver final) = Unit {0}

broken_by : (hs : List PlainHeader) → (KeepsRules hs → ⊥) → breaks hs ≡ true
broken_by hs broken = elim (cases_Bool (breaks hs)) [ inl found ↦ found | inr none ↦ absurd (broken (keeps hs none)) ]

coded_behind : (hs : List PlainHeader) (h : PlainHeader) (back : List PlainHeader) (verdict : Verdict) → KeepsRules (hs ++ h ∷ []) → CodedAs (hs ++ h ∷ []) back verdict → CodedAs hs (h ∷ back) verdict
coded_behind hs h back (Open next) k c = tt
coded_behind hs h back Whole k c = tt
coded_behind hs h back (Ended code) k c = cond-false (breaks (hs ++ h ∷ [])) (code_at_break (has_names hs) (name_text h)) (broken_code (hs ++ h ∷ []) back) (kept (hs ++ h ∷ []) k) ∙ c
coded_behind hs h back (PassedOver final) k c = tt

then_coded : (hs : List PlainHeader) (h : PlainHeader) (back : List PlainHeader) (stored : List Object) (first : List InboxCall) (verdict : Verdict) (contents : Contents) → Follows (hs ++ h ∷ []) verdict stored contents → PartsCode (progress_of hs) (name_text h) verdict
    → (KeepsRules (hs ++ h ∷ []) → CodedAs (hs ++ h ∷ []) back (after_headers (progress_of (hs ++ h ∷ [])) back).verdict)
    → CodedAs hs (h ∷ back) (then_on first verdict (λ next. after_headers next back)).verdict
then_coded hs h back stored first (Open p) contents f c ih =
    coded_behind hs h back (after_headers p back).verdict f.keeps (subst (λ (q : Progress). CodedAs (hs ++ h ∷ []) back (after_headers q back).verdict) (sym f.progress_is) (ih f.keeps))
then_coded hs h back stored first Whole contents f c ih = absurd f
then_coded hs h back stored first (Ended code) contents f c ih =
    cond-true (breaks (hs ++ h ∷ [])) (code_at_break (has_names hs) (name_text h)) (broken_code (hs ++ h ∷ []) back) (broken_by (hs ++ h ∷ []) f.0)
    ∙ ap (λ (b : Bool). code_at_break b (name_text h)) (sym (under_named (names hs) (bodies hs))) ∙ c
then_coded hs h back stored first (PassedOver final) contents f c ih = absurd f

pub headers_coded : (hs more : List PlainHeader) → KeepsRules hs → CodedAs hs more (after_headers (progress_of hs) more).verdict
headers_coded hs [] k = tt
headers_coded hs (h ∷ back) k =
    then_coded hs h back [] (at_header (progress_of hs) h).calls (at_header (progress_of hs) h).verdict _ (step hs h [] k) (parts_coded (progress_of hs) (name_text h) (body_of h)) (λ longer. headers_coded (hs ++ h ∷ []) back longer)

-- ---- a packet

abbrev CodeAs : ℕ → Verdict → Type 0
CodeAs due (Open next) = due ≡ 0x90
CodeAs due Whole = due ≡ 0xA0
CodeAs due (Ended code) = due ≡ octet_of code
CodeAs due (PassedOver final) = ⊥

code_same : (a b : ℕ) (verdict : Verdict) → a ≡ b → CodeAs b verdict → CodeAs a verdict
code_same a b verdict e c = subst (λ (n : ℕ). CodeAs n verdict) (sym e) c

finished_coded : (ns bs : List (List ℕ)) → CodeAs (cond (eqb (length ns) 0 || eqb (length bs) 0) 0xC0 0xA0) (finished (progress_from ns bs)).verdict
finished_coded [] bs = refl
finished_coded (n ∷ ns) [] = cond-true _ _ _ (or_right (eqb (length (n ∷ ns)) 0) _ refl)
finished_coded (n ∷ ns) (b ∷ bs) = cond-false _ _ _ (or_from (eqb (length (n ∷ ns)) 0) (eqb (length (b ∷ bs)) 0) (ne_eqb _ _ (λ e. absurd (omega (arith, e)))) (ne_eqb _ _ (λ e. absurd (omega (arith, e)))))

end_coded : (final : Bool) (all : List PlainHeader) → CodeAs (cond final (cond (lacks all) 0xC0 0xA0) 0x90) (cond final (finished (progress_of all)) (opens [] (progress_of all))).verdict
end_coded true all = finished_coded (names all) (bodies all)
end_coded false all = refl

at_end : (hs : List PlainHeader) (put : PlainPacket) (final : Bool) (stored : List Object) (contents : Contents) (calls : List InboxCall) (verdict : Verdict) → Follows (hs ++ put.headers) verdict stored contents → CodedAs hs put.headers verdict
    → CodeAs (cond (breaks (hs ++ put.headers)) (broken_code hs put.headers) (cond final (cond (lacks (hs ++ put.headers)) 0xC0 0xA0) 0x90)) (then_on calls verdict (λ next. cond final (finished next) (opens [] next))).verdict
at_end hs put final stored contents calls (Open p) f c =
    let all : List PlainHeader = hs ++ put.headers in
    let due : ℕ = cond final (cond (lacks all) 0xC0 0xA0) 0x90 in
    subst (λ (q : Progress). CodeAs (cond (breaks all) (broken_code hs put.headers) due) (cond final (finished q) (opens [] q)).verdict) (sym f.progress_is)
    (code_same (cond (breaks all) (broken_code hs put.headers) due) due (cond final (finished (progress_of all)) (opens [] (progress_of all))).verdict (cond-false (breaks all) (broken_code hs put.headers) due (kept all f.keeps)) (end_coded final all))
at_end hs put final stored contents calls Whole f c = absurd f
at_end hs put final stored contents calls (Ended code) f c =
    cond-true (breaks (hs ++ put.headers)) (broken_code hs put.headers) (cond final (cond (lacks (hs ++ put.headers)) 0xC0 0xA0) 0x90) (broken_by (hs ++ put.headers) f.0) ∙ c
at_end hs put final stored contents calls (PassedOver last) f c = absurd f

put_coded : (hs : List PlainHeader) (put : PlainPacket) → KeepsRules hs → CodeAs (put_code hs put) (at_put (progress_of hs) put).verdict
put_coded hs put k =
    at_end hs put (is_final put) [] _ (after_headers (progress_of hs) put.headers).calls (after_headers (progress_of hs) put.headers).verdict (follows hs put.headers [] k) (headers_coded hs put.headers k)

-- the code is the one that is due, or the packet is passed over
abbrev CodeOr : Course → ℕ → Verdict → Type 0
CodeOr course due verdict = CodeAs due verdict ⊎ ((is_ignoring course ≡ true) × (final : Bool) × (verdict ≡ PassedOver final))

put_in_coded : (passes : Bool) (course : Course) (hs : List PlainHeader) (put : PlainPacket) → KeepsRules hs → progress_in course ≡ progress_of hs → (is_ignoring course && not (list_any is_name put.headers)) ≡ passes
    → CodeOr course (put_code hs put) (cond passes (record { calls = []; verdict = PassedOver (is_final put) }) (at_put (progress_in course) put)).verdict
put_in_coded true course hs put k p e = inr (ignoring (is_ignoring course) (not (list_any is_name put.headers)) e, is_final put, refl)
  where
    ignoring : (a b : Bool) → (a && b) ≡ true → a ≡ true
    ignoring true b e' = refl
    ignoring false b e' = e'
put_in_coded false course hs put k p e = inl (subst (λ (q : Progress). CodeAs (put_code hs put) (at_put q put).verdict) (sym p) (put_coded hs put k))

pub other_coded : (other : ℕ) → cond (eqb other 0x80 || eqb other 0x81 || eqb other 0xFF) 0xA0 0xD1 ≡ octet_of (other_response other)
other_coded other = by (eqb other 0x80 || eqb other 0x81 || eqb other 0xFF)
  where
    by : (b : Bool) → cond b 0xA0 0xD1 ≡ octet_of (cond b code.Success code.NotImplemented)
    by true = refl
    by false = refl

packet_at : (is_put : Bool) (course : Course) (hs : List PlainHeader) (packet : PlainPacket) → KeepsRules hs → progress_in course ≡ progress_of hs
    → CodeOr course (cond is_put (put_code hs packet) (cond (eqb packet.code 0x80 || eqb packet.code 0x81 || eqb packet.code 0xFF) 0xA0 0xD1)) (cond is_put (at_put_in course packet) (ends (progress_in course) (other_response packet.code))).verdict
packet_at true course hs packet k p = put_in_coded (is_ignoring course && not (list_any is_name packet.headers)) course hs packet k p refl
packet_at false course hs packet k p = inl (other_coded packet.code)

packet_coded : (course : Course) (hs : List PlainHeader) (read : Result PlainPacket ObexRefusal) → KeepsRules hs → progress_in course ≡ progress_of hs → CodeOr course (packet_code hs read) (at_packet course read).verdict
packet_coded course hs (Ok packet) k p = packet_at (eqb packet.code 0x02 || eqb packet.code 0x82) course hs packet k p
packet_coded course hs (Err refusal) k p = inl refl

-- ---- what is said

-- no single response mode goes on
abbrev IsPlain : Course → Type 0
IsPlain Rests = Unit {0}
IsPlain Ignores = ⊥
IsPlain (Runs progress single) = single ≡ false

none_enabled : (kind : Kind) → enables false kind ≡ false
none_enabled kinds.Refused = refl
none_enabled (kinds.Put final marks) = refl
none_enabled (kinds.Other octet) = refl

not_single : (course : Course) (kind : Kind) → IsPlain course → is_single_in false course kind ≡ false
not_single Rests kind plain = none_enabled kind
not_single Ignores kind plain = absurd plain
not_single (Runs progress single) kind plain = plain

not_followed : (course : Course) (kind : Kind) → IsPlain course → is_followed course kind ≡ false
not_followed Rests kind plain = refl
not_followed Ignores kind plain = absurd plain
not_followed (Runs progress single) kinds.Refused plain = plain
not_followed (Runs progress single) (kinds.Put final marks) plain = ap (λ (b : Bool). b && not final) plain
not_followed (Runs progress single) (kinds.Other octet) plain = refl

not_ignoring : (course : Course) → IsPlain course → is_ignoring course ≡ false
not_ignoring Rests plain = refl
not_ignoring Ignores plain = absurd plain
not_ignoring (Runs progress single) plain = refl

refused_plain : (course : Course) (kind : Kind) → IsPlain course → IsPlain (cond (is_followed course kind) Ignores Rests)
refused_plain course kind plain = subst (λ (b : Bool). IsPlain (cond b Ignores Rests)) (sym (not_followed course kind plain)) tt

without_plain : (course : Course) → IsPlain course → IsPlain (course_after false course kinds.Refused (Err fault.NoMemory))
without_plain Rests plain = tt
without_plain Ignores plain = absurd plain
without_plain (Runs progress single) plain = tt

never : {A : Type 0} → true ≡ false → A
never e = absurd cc

stays_plain : (course : Course) (kind : Kind) (due : ℕ) (verdict : Verdict) (come : Answer) → CodeOr course due verdict → IsPlain course → IsPlain (course_after false course kind (verdict_or verdict come))
stays_plain course kind due (Open next) (Ok done) c plain = not_single course kind plain
stays_plain course kind due Whole (Ok done) c plain = tt
stays_plain course kind due (Ended refused) (Ok done) c plain = refused_plain course kind plain
stays_plain course kind due (PassedOver final) (Ok done) (inl c) plain = absurd c
stays_plain course kind due (PassedOver final) (Ok done) (inr passed) plain = never (sym passed.0 ∙ not_ignoring course plain)
stays_plain course kind due verdict (Err fault.Failed) c plain = refused_plain course kind plain
stays_plain course kind due verdict (Err fault.NoMemory) c plain = without_plain course plain

module _ (packet : List ℕ) (most : ℕ) where
  abbrev Says : ℕ → List ℕ → Type 0
  Says due said = (said ≡ []) ⊎ ((number : ℕ) × (Some due ≡ Some number) × (slice_index said 0 ≡ number))

  open_said : (first single : Bool) (due : ℕ) → due ≡ 0x90 → Says due (octets_said packet most (said_open first single))
  open_said true true due e = inr (0x90, ap (λ (n : ℕ). Some n) e, refl)
  open_said false true due e = inl refl
  open_said first false due e = inr (0x90, ap (λ (n : ℕ). Some n) e, refl)

  whole_by : (both : Bool) (due : ℕ) → due ≡ 0xA0 → (let s = octets_said packet most (cond both (said_whole true true) (said_whole false false)) in Says due s)
  whole_by true due e = inr (0xA0, ap (λ (n : ℕ). Some n) e, refl)
  whole_by false due e = inr (0xA0, ap (λ (n : ℕ). Some n) e, refl)

  whole_said : (first single : Bool) (due : ℕ) → due ≡ 0xA0 → Says due (octets_said packet most (said_whole first single))
  whole_said true true due e = whole_by true due e
  whole_said true false due e = whole_by false due e
  whole_said false single due e = whole_by false due e

  says_code : (offered : Bool) (course : Course) (kind : Kind) (due : ℕ) (verdict : Verdict) (come : Answer) → CodeOr course due verdict
      → (let s = octets_said packet most (said_after offered course kind (verdict_or verdict come)) in (s ≡ []) ⊎ ((number : ℕ) × (code_or due come ≡ Some number) × (slice_index s 0 ≡ number)))
  says_code offered course kind due (Open next) (Ok done) (inl c) = open_said (is_first_in course) (is_single_in offered course kind) due c
  says_code offered course kind due Whole (Ok done) (inl c) = whole_said (is_first_in course) (is_single_in offered course kind) due c
  says_code offered course kind due (Ended refused) (Ok done) (inl c) = inr (octet_of refused, ap (λ (n : ℕ). Some n) c, refl)
  says_code offered course kind due (PassedOver final) (Ok done) c = inl refl
  says_code offered course kind due (Open next) (Ok done) (inr passed) = absurd (let f : Open next ≡ PassedOver passed.1 = passed.2 in cc)
  says_code offered course kind due Whole (Ok done) (inr passed) = absurd (let f : Whole ≡ PassedOver passed.1 = passed.2 in cc)
  says_code offered course kind due (Ended refused) (Ok done) (inr passed) = absurd (let f : Ended refused ≡ PassedOver passed.1 = passed.2 in cc)
  says_code offered course kind due verdict (Err fault.Failed) c = inr (0xD0, refl, refl)
  says_code offered course kind due verdict (Err fault.NoMemory) c = inl refl

  says_plain : (course : Course) (kind : Kind) (due : ℕ) (verdict : Verdict) (come : Answer) → CodeOr course due verdict → IsPlain course
      → octets_said packet most (said_after false course kind (verdict_or verdict come)) ≡ plain_reply packet most (code_or due come)
  says_plain course kind due (Open next) (Ok done) (inl c) plain =
      ap (λ (single : Bool). octets_said packet most (said_open (is_first_in course) single)) (not_single course kind plain) ∙ ap (λ (n : ℕ). plain_reply packet most (Some n)) (sym c)
  says_plain course kind due Whole (Ok done) (inl c) plain =
      ap (λ (single : Bool). octets_said packet most (said_whole (is_first_in course) single)) (not_single course kind plain) ∙ by (is_first_in course) ∙ ap (λ (n : ℕ). plain_reply packet most (Some n)) (sym c)
    where
      by : (first : Bool) → octets_said packet most (said_whole first false) ≡ plain_reply packet most (Some 0xA0)
      by true = refl
      by false = refl
  says_plain course kind due (Ended refused) (Ok done) (inl c) plain = ap (λ (n : ℕ). plain_reply packet most (Some n)) (sym c)
  says_plain course kind due (PassedOver final) (Ok done) (inl c) plain = absurd c
  says_plain course kind due verdict (Ok done) (inr passed) plain = never (sym passed.0 ∙ not_ignoring course plain)
  says_plain course kind due verdict (Err fault.Failed) c plain = refl
  says_plain course kind due verdict (Err fault.NoMemory) c plain = refl

-- ---- packet after packet

Mode : Serving → Type 0
Mode session = session.offered ≡ false → IsPlain session.course

one_replied : (session : Serving) (packet : List ℕ) (run : List PlainPacket) (answers : List Answer) → KeepsRules (run_headers run) → progress_in session.course ≡ progress_of (run_headers run) → Mode session
    → IsReplied session run packet answers × Mode (heard_with session packet answers).session
unfolding Mode
one_replied session packet run answers k p mode =
    let most = session.maximum in
    let ruling = ruling_on session packet in
    let kind : Kind = kind_heard session packet in
    let due : ℕ = packet_code (run_headers run) (packet_in Request most packet) in
    let coded : CodeOr session.course due ruling.verdict = packet_coded session.course (run_headers run) (packet_in Request most packet) k p in
    let come : come_of ruling.calls answers ≡ come_of (calls_behind most run packet) answers = ap (λ (calls : List InboxCall). come_of calls answers) (called session packet run answers k p) in (
      record {
        plain = λ none.
            ap (λ (offered : Bool). octets_said packet most (said_after offered session.course kind (outcome_on session packet answers))) none
            ∙ says_plain packet most session.course kind due ruling.verdict (come_of ruling.calls answers) coded (mode none) ∙ ap (λ (c : Answer). plain_reply packet most (code_or due c)) come;
        code = subst (λ (c : Answer). (said_to session packet answers ≡ []) ⊎ ((number : ℕ) × (code_or due c ≡ Some number) × (slice_index (said_to session packet answers) 0 ≡ number))) come
            (says_code packet most session.offered session.course kind due ruling.verdict (come_of ruling.calls answers) coded);
      },
      λ none.
          subst (λ (offered : Bool). IsPlain (course_after offered session.course kind (outcome_on session packet answers))) (sym none)
          (stays_plain session.course kind due ruling.verdict (come_of ruling.calls answers) coded (mode none)),
    )

all_replied : (packets : List (List ℕ)) (session : Serving) (run : List PlainPacket) (answers : List Answer) → KeepsRules (run_headers run) → progress_in session.course ≡ progress_of (run_headers run) → Mode session → AllReplied session run packets answers
all_replied [] session run answers k p mode = tt
all_replied (packet ∷ packets) session run answers k p mode =
    let most = session.maximum in
    let turn = heard_with session packet answers in
    let now = one_replied session packet run answers k p mode in
    let behind : List PlainPacket = run_behind most run packet answers in (
      now.0,
      all_replied packets turn.session behind (left_by (calls_behind most run packet) answers) (open_keeps run (put_heard most (packet, is_err (come_of (calls_behind most run packet) answers)) ∷ []) k) (progress_next session packet run answers k p) now.1,
    )

pub replies-are_due : RepliesAreDue
unfolding Mode
replies-are_due session packets answers = all_replied packets (rested session) [] answers nothing_kept refl (λ none. tt)
