-- The calls of a session are those of the runs into which its packets fall.
use Rattle.std.proofs.Common.{inl, inr, Bool, true, false, cond, eqb, ltb, ◌+◌, ◌||◌, ◌&&◌, ◌<◌, ◌⊎◌, ◌≡◌, ℕ, List, [], ◌∷◌, ◌++◌, length, map, Option, Some, None, Result, Ok, Err, arith, refl, sym, ap, subst, ◌∙◌, append_assoc, append-nil}
use Rattle.std.specs.Prelude.{not}
use Rattle.std.specs.List.{flat_map, cons_option, list_any, AllByRecursion}
use Rattle.std.proofs.lemmas.Bool.{cases_Bool, cond-true, cond-false, or_from, or_left, or_right, and_parts, ne_eqb}
use Rattle.std.proofs.lemmas.List.{map-append}
use Rattle.std.proofs.lemmas.List.Elements.{filter_map-append}
use Rattle.std.proofs.lemmas.Grind.{flat_map-append}
use Rattle.bt_base.specs.Objects.{Object, Contents}
use Rattle.obex_headers.specs.declared.codes.Code.TheVariants.{TooLarge}
use Rattle.obex_headers.specs.declared.fault.ObexRefusal.{ObexRefusal}
use Rattle.obex_headers.specs.declared.packet.Phase.TheVariants.{Request}
use Rattle.obex_headers.specs.Reading.{packet_in}
use Rattle.obex_headers.specs.Packets.{PlainHeader, PlainPacket, units_of}
use Rattle.obex_headers.specs.Runs.{put_of, is_final, name_text, body_of, names, bodies, run_headers, breaks, lacks, KeepsRules, IsOpen, SpellsObject, EndsWithout, Stretch, Spelling, Broken, IsStretch, puts, stretch_packets, FallsInto}
use Rattle.obex_headers.proofs.RunLaws.{keeps, kept, rules_front}
use Rattle.obex_session.specs.declared.course.Course.{Course}
use Rattle.obex_session.specs.declared.course.Progress.{Progress}
use Rattle.obex_session.specs.declared.course.Progress.TheVariants.{Unnamed, Named, Filled}
use Rattle.obex_session.specs.declared.course.Verdict.{Verdict}
use Rattle.obex_session.specs.declared.course.Verdict.TheVariants.{Open, Whole, Ended, PassedOver}
use Rattle.obex_session.specs.InboxCalls.{InboxCall, Begin, Append, Commit, Answer, come_of}
use Rattle.obex_session.specs.Marks.{is_name, is_body}
use Rattle.obex_session.specs.Rules.{Ruling, opens, ends, aborts, at_parts, at_header, then_on, after_headers, finished, at_put, at_put_in, at_packet, other_response, progress_in, is_ignoring}
use Rattle.obex_session.specs.Past.{progress_from, progress_of, open_from, Serving}
use Rattle.obex_session.specs.Hearing.{progress_after}
use Rattle.obex_session.specs.Serving.{kind_heard, ruling_on, verdict_or, outcome_on, heard_with}
use Rattle.obex_session.specs.Calls.{call_at, call_of, calls_of, kept_behind, abort_from, abort_behind, begun_and_aborted, stretch_calls, calls_made, session_behind}
use Rattle.obex_session.proofs.PacketLaws.{without, nameless_put}
use Rattle.obex_session.proofs.PastLaws.{ignoring_rests, not_true, packet_leaves, open_keeps, headers-more}
use Rattle.obex_session.proofs.TurnLaws.{progress_behind}
use Rattle.obex_session.proofs.RuleLaws.{Follows, follows, step}

-- ---- one header

abbrev PartsAs : Progress → Option InboxCall → List InboxCall → Verdict → Type 0
PartsAs progress call calls (Open next) = calls ≡ cons_option call []
PartsAs progress call calls Whole = ⊥
PartsAs progress call calls (Ended code) = calls ≡ aborts progress
PartsAs progress call calls (PassedOver final) = ⊥

abbrev PartsBy : Progress → Option InboxCall → Ruling → Type 0
PartsBy progress call ruling = PartsAs progress call ruling.calls ruling.verdict

either_parts : (progress : Progress) (call : Option InboxCall) (b : Bool) (x y : Ruling) → PartsBy progress call x → PartsBy progress call y → PartsBy progress call (cond b x y)
either_parts progress call true x y p q = p
either_parts progress call false x y p q = q

parts_called : (progress : Progress) (name body : Option (List ℕ)) → PartsBy progress (call_at name body) (at_parts progress name body)
parts_called Unnamed (Some text) body = either_parts Unnamed (call_at (Some text) body) (ltb 255 (length (units_of text))) (ends Unnamed TooLarge) (opens (Begin (units_of text) ∷ []) Named) refl refl
parts_called Named (Some text) body = refl
parts_called (Filled octets) (Some text) body = refl
parts_called Unnamed None (Some octets) = refl
parts_called Named None (Some octets) = either_parts Named (call_at None (Some octets)) (ltb 16777215 (length octets)) (ends Named TooLarge) (opens (Append octets ∷ []) (Filled (length octets))) refl refl
parts_called (Filled before) None (Some octets) = either_parts (Filled before) (call_at None (Some octets)) (ltb 16777215 (before + length octets)) (ends (Filled before) TooLarge) (opens (Append octets ∷ []) (Filled (before + length octets))) refl refl
parts_called Unnamed None None = refl
parts_called Named None None = refl
parts_called (Filled before) None None = refl

-- ---- the headers of a packet

aborts_from : (ns bs : List (List ℕ)) → aborts (progress_from ns bs) ≡ abort_from ns
aborts_from [] bs = refl
aborts_from (n ∷ ns) [] = refl
aborts_from (n ∷ ns) (b ∷ bs) = refl

pub aborts_behind : (hs : List PlainHeader) → aborts (progress_of hs) ≡ abort_behind hs
aborts_behind hs = aborts_from (names hs) (bodies hs)

abbrev CalledAs : List PlainHeader → List PlainHeader → List InboxCall → Verdict → Type 0
CalledAs hs more calls (Open next) = calls ≡ calls_of more
CalledAs hs more calls Whole = ⊥
CalledAs hs more calls (Ended code) = calls ≡ calls_of (kept_behind hs more) ++ abort_behind (hs ++ kept_behind hs more)
CalledAs hs more calls (PassedOver final) = ⊥

cons_first : (o : Option InboxCall) (calls : List InboxCall) → cons_option o [] ++ calls ≡ cons_option o calls
cons_first None calls = refl
cons_first (Some call) calls = refl

kept_on : (hs : List PlainHeader) (h : PlainHeader) (back : List PlainHeader) → KeepsRules (hs ++ h ∷ []) → kept_behind hs (h ∷ back) ≡ h ∷ kept_behind (hs ++ h ∷ []) back
kept_on hs h back k = cond-false _ _ _ (kept (hs ++ h ∷ []) k)

kept_not : (hs : List PlainHeader) (h : PlainHeader) (back : List PlainHeader) → (KeepsRules (hs ++ h ∷ []) → ⊥) → kept_behind hs (h ∷ back) ≡ []
kept_not hs h back n = cond-true _ _ _ (elim (cases_Bool (breaks (hs ++ h ∷ []))) [ inl found ↦ found | inr none ↦ absurd (n (keeps (hs ++ h ∷ []) none)) ])

behind_called : (hs : List PlainHeader) (h : PlainHeader) (back : List PlainHeader) (first calls : List InboxCall) (verdict : Verdict) → KeepsRules (hs ++ h ∷ []) → first ≡ cons_option (call_of h) [] → CalledAs (hs ++ h ∷ []) back calls verdict → CalledAs hs (h ∷ back) (first ++ calls) verdict
behind_called hs h back first calls (Open next) k f c = ap (λ (cs : List InboxCall). cs ++ calls) f ∙ cons_first (call_of h) calls ∙ ap (cons_option (call_of h)) c
behind_called hs h back first calls Whole k f c = absurd c
behind_called hs h back first calls (Ended code) k f c =
    let rest : List PlainHeader = kept_behind (hs ++ h ∷ []) back in
    ap (λ (cs : List InboxCall). cs ++ calls) f ∙ cons_first (call_of h) calls ∙ ap (cons_option (call_of h)) c ∙ sym (cons_first (call_of h) (calls_of rest ++ abort_behind ((hs ++ h ∷ []) ++ rest)))
    ∙ sym (append_assoc (cons_option (call_of h) []) (calls_of rest) (abort_behind ((hs ++ h ∷ []) ++ rest)))
    ∙ ap (λ (cs : List InboxCall). cs ++ abort_behind ((hs ++ h ∷ []) ++ rest)) (cons_first (call_of h) (calls_of rest))
    ∙ ap (λ (xs : List PlainHeader). calls_of (h ∷ rest) ++ abort_behind xs) (append_assoc hs (h ∷ []) rest)
    ∙ ap (λ (xs : List PlainHeader). calls_of xs ++ abort_behind (hs ++ xs)) (sym (kept_on hs h back k))
behind_called hs h back first calls (PassedOver final) k f c = absurd c

then_called : (hs : List PlainHeader) (h : PlainHeader) (back : List PlainHeader) (stored : List Object) (first : List InboxCall) (verdict : Verdict) (contents : Contents) → Follows (hs ++ h ∷ []) verdict stored contents → PartsAs (progress_of hs) (call_of h) first verdict
    → (KeepsRules (hs ++ h ∷ []) → CalledAs (hs ++ h ∷ []) back (after_headers (progress_of (hs ++ h ∷ [])) back).calls (after_headers (progress_of (hs ++ h ∷ [])) back).verdict)
    → CalledAs hs (h ∷ back) (then_on first verdict (λ next. after_headers next back)).calls (then_on first verdict (λ next. after_headers next back)).verdict
then_called hs h back stored first (Open p) contents f c ih =
    behind_called hs h back first (after_headers p back).calls (after_headers p back).verdict f.keeps c
    (subst (λ (q : Progress). CalledAs (hs ++ h ∷ []) back (after_headers q back).calls (after_headers q back).verdict) (sym f.progress_is) (ih f.keeps))
then_called hs h back stored first Whole contents f c ih = absurd f
then_called hs h back stored first (Ended code) contents f c ih =
    c ∙ aborts_behind hs ∙ ap abort_behind (sym (append-nil hs)) ∙ ap (λ (xs : List PlainHeader). calls_of xs ++ abort_behind (hs ++ xs)) (sym (kept_not hs h back f.0))
then_called hs h back stored first (PassedOver final) contents f c ih = absurd f

headers_called : (hs more : List PlainHeader) → KeepsRules hs → CalledAs hs more (after_headers (progress_of hs) more).calls (after_headers (progress_of hs) more).verdict
headers_called hs [] k = refl
headers_called hs (h ∷ back) k =
    then_called hs h back [] (at_header (progress_of hs) h).calls (at_header (progress_of hs) h).verdict _ (step hs h [] k) (parts_called (progress_of hs) (name_text h) (body_of h)) (λ longer. headers_called (hs ++ h ∷ []) back longer)

-- ---- a packet

abbrev pub end_calls : Bool → List PlainHeader → List InboxCall
end_calls final all = cond final (cond (lacks all) (abort_behind all) (Commit ∷ [])) []

abbrev pub put_calls : List PlainHeader → PlainPacket → List InboxCall
put_calls hs put =
    cond (breaks (hs ++ put.headers)) (calls_of (kept_behind hs put.headers) ++ abort_behind (hs ++ kept_behind hs put.headers)) (calls_of put.headers ++ end_calls (is_final put) (hs ++ put.headers))

finished_called : (ns bs : List (List ℕ)) → (finished (progress_from ns bs)).calls ≡ cond (eqb (length ns) 0 || eqb (length bs) 0) (abort_from ns) (Commit ∷ [])
finished_called [] bs = refl
finished_called (n ∷ ns) [] = sym (cond-true _ _ _ (or_right (eqb (length (n ∷ ns)) 0) _ refl))
finished_called (n ∷ ns) (b ∷ bs) = sym (cond-false _ _ _ (or_from (eqb (length (n ∷ ns)) 0) (eqb (length (b ∷ bs)) 0) (ne_eqb _ _ (λ e. absurd (omega (arith, e)))) (ne_eqb _ _ (λ e. absurd (omega (arith, e))))))

end_called : (final : Bool) (all : List PlainHeader) → (cond final (finished (progress_of all)) (opens [] (progress_of all))).calls ≡ end_calls final all
end_called true all = finished_called (names all) (bodies all)
end_called false all = refl

at_end : (hs : List PlainHeader) (put : PlainPacket) (final : Bool) (stored : List Object) (contents : Contents) (calls : List InboxCall) (verdict : Verdict) → Follows (hs ++ put.headers) verdict stored contents → CalledAs hs put.headers calls verdict
    → (then_on calls verdict (λ next. cond final (finished next) (opens [] next))).calls
    ≡ cond (breaks (hs ++ put.headers)) (calls_of (kept_behind hs put.headers) ++ abort_behind (hs ++ kept_behind hs put.headers)) (calls_of put.headers ++ end_calls final (hs ++ put.headers))
at_end hs put final stored contents calls (Open p) f c =
    ap (λ (cs : List InboxCall). cs ++ (cond final (finished p) (opens [] p)).calls) c
    ∙ ap (λ (q : Progress). calls_of put.headers ++ (cond final (finished q) (opens [] q)).calls) f.progress_is
    ∙ ap (λ (cs : List InboxCall). calls_of put.headers ++ cs) (end_called final (hs ++ put.headers))
    ∙ sym (cond-false _ _ _ (kept (hs ++ put.headers) f.keeps))
at_end hs put final stored contents calls Whole f c = absurd f
at_end hs put final stored contents calls (Ended code) f c =
    c ∙ sym (cond-true _ _ _ (elim (cases_Bool (breaks (hs ++ put.headers))) [ inl found ↦ found | inr none ↦ absurd (f.0 (keeps (hs ++ put.headers) none)) ]))
at_end hs put final stored contents calls (PassedOver last) f c = absurd f

put_called : (hs : List PlainHeader) (put : PlainPacket) → KeepsRules hs → (at_put (progress_of hs) put).calls ≡ put_calls hs put
put_called hs put k =
    at_end hs put (is_final put) [] _ (after_headers (progress_of hs) put.headers).calls (after_headers (progress_of hs) put.headers).verdict (follows hs put.headers [] k) (headers_called hs put.headers k)

abbrev pub packet_calls : List PlainHeader → Option PlainPacket → List InboxCall
packet_calls hs None = abort_behind hs
packet_calls hs (Some put) = put_calls hs put

no_calls : (ended : Bool) → (without ended).calls ≡ []
no_calls true = refl
no_calls false = refl

put_in_called : (passes : Bool) (course : Course) (hs : List PlainHeader) (put : PlainPacket) → KeepsRules hs → progress_in course ≡ progress_of hs → (is_ignoring course && not (list_any is_name put.headers)) ≡ passes
    → (cond passes (record { calls = []; verdict = PassedOver (is_final put) }) (at_put (progress_in course) put)).calls ≡ put_calls hs put
put_in_called true course hs put k p e =
    let both = and_parts (is_ignoring course) (not (list_any is_name put.headers)) e in
    sym (no_calls (list_any is_body put.headers || is_final put)) ∙ ap (λ (r : Ruling). r.calls) (sym (nameless_put put (not_true (list_any is_name put.headers) both.1)))
    ∙ ap (λ (q : Progress). (at_put q put).calls) (sym (ignoring_rests course both.0) ∙ p) ∙ put_called hs put k
put_in_called false course hs put k p e = ap (λ (q : Progress). (at_put q put).calls) p ∙ put_called hs put k

packet_at : (is_put : Bool) (course : Course) (hs : List PlainHeader) (packet : PlainPacket) → KeepsRules hs → progress_in course ≡ progress_of hs
    → (cond is_put (at_put_in course packet) (ends (progress_in course) (other_response packet.code))).calls ≡ packet_calls hs (cond is_put (Some packet) None)
packet_at true course hs packet k p = put_in_called (is_ignoring course && not (list_any is_name packet.headers)) course hs packet k p refl
packet_at false course hs packet k p = ap aborts p ∙ aborts_behind hs

pub packet_called : (course : Course) (hs : List PlainHeader) (read : Result PlainPacket ObexRefusal) → KeepsRules hs → progress_in course ≡ progress_of hs → (at_packet course read).calls ≡ packet_calls hs (put_of read)
packet_called course hs (Ok packet) k p = packet_at (eqb packet.code 0x02 || eqb packet.code 0x82) course hs packet k p
packet_called course hs (Err refusal) k p = ap aborts p ∙ aborts_behind hs

-- ---- packets, one after the other

abbrev pub calls_from : List PlainPacket → List (Option PlainPacket) → List InboxCall
calls_from run [] = []
calls_from run (put ∷ rest) = packet_calls (run_headers run) put ++ calls_from (open_from run (put ∷ [])) rest

open_at : (over : Bool) (run : List PlainPacket) (rest : List (Option PlainPacket)) → cond over (open_from [] rest) (open_from run rest) ≡ open_from (cond over [] run) rest
open_at true run rest = refl
open_at false run rest = refl

open_cons : (run : List PlainPacket) (put : Option PlainPacket) (rest : List (Option PlainPacket)) → open_from run (put ∷ rest) ≡ open_from (open_from run (put ∷ [])) rest
open_cons run None rest = refl
open_cons run (Some put) rest = open_at (breaks (run_headers (run ++ put ∷ [])) || is_final put) (run ++ put ∷ []) rest

abbrev pub puts_within : ℕ → List (List ℕ) → List (Option PlainPacket)
puts_within maximum packets = map (λ packet. put_of (packet_in Request maximum packet)) packets

-- what a session is behind one packet
progress_next : (session : Serving) (packet : List ℕ) (run : List PlainPacket) → KeepsRules (run_headers run) → progress_in session.course ≡ progress_of (run_headers run)
    → progress_in (heard_with session packet []).session.course ≡ progress_of (run_headers (open_from run (put_of (packet_in Request session.maximum packet) ∷ [])))
progress_next session packet run k p =
    progress_behind session.offered session.course (kind_heard session packet) (outcome_on session packet []) ∙ ap (λ (come : Answer). progress_after (verdict_or (ruling_on session packet).verdict come)) (none_fails (ruling_on session packet).calls)
    ∙ (packet_leaves session.course run (packet_in Request session.maximum packet) [] k p).progress_is
  where
    none_fails : (calls : List InboxCall) → come_of calls [] ≡ Ok tt
    none_fails [] = refl
    none_fails (call ∷ calls) = refl

pub made_from : (packets : List (List ℕ)) (session : Serving) (run : List PlainPacket) → KeepsRules (run_headers run) → progress_in session.course ≡ progress_of (run_headers run)
    → (calls_made session packets ≡ calls_from run (puts_within session.maximum packets)) × (progress_in (session_behind session packets).course ≡ progress_of (run_headers (open_from run (puts_within session.maximum packets))))
made_from [] session run k p = (refl, p)
made_from (packet ∷ packets) session run k p =
    let put : Option PlainPacket = put_of (packet_in Request session.maximum packet) in
    let then = made_from packets (heard_with session packet []).session (open_from run (put ∷ [])) (open_keeps run (put ∷ []) k) (progress_next session packet run k p) in (
      ap (λ (cs : List InboxCall). cs ++ calls_made (heard_with session packet []).session packets) (packet_called session.course (run_headers run) (packet_in Request session.maximum packet) k p)
          ∙ ap (λ (cs : List InboxCall). packet_calls (run_headers run) put ++ cs) then.0,
      then.1 ∙ ap (λ (r : List PlainPacket). progress_of (run_headers r)) (sym (open_cons run put (puts_within session.maximum packets))),
    )

-- ---- stretches

all_at : (run : List PlainPacket) (put : PlainPacket) (more : List PlainPacket) → AllByRecursion (λ packet. is_final packet ≡ false) (run ++ put ∷ more) → is_final put ≡ false
all_at [] put more all = all.0
all_at (first ∷ run) put more all = all_at run put more all.1

both_headers : (a b : List PlainPacket) → run_headers (a ++ b) ≡ run_headers a ++ run_headers b
both_headers a b = flat_map-append (λ packet. packet.headers) a b

front_keeps : (a b : List PlainPacket) → KeepsRules (run_headers (a ++ b)) → KeepsRules (run_headers a)
front_keeps a b k = rules_front (run_headers a) (run_headers b) (subst KeepsRules (both_headers a b) k)

unbroken : (run : List PlainPacket) (put : PlainPacket) → KeepsRules (run_headers (run ++ put ∷ [])) → breaks (run_headers run ++ put.headers) ≡ false
unbroken run put k = ap breaks (sym (headers-more run put)) ∙ kept (run_headers (run ++ put ∷ [])) k

both_calls : (a b : List PlainHeader) → calls_of (a ++ b) ≡ calls_of a ++ calls_of b
both_calls a b = filter_map-append call_of a b

goes_through : (run more : List PlainPacket) (rest : List (Option PlainPacket)) → IsOpen (run ++ more) → calls_from run (puts more ++ rest) ≡ calls_of (run_headers more) ++ calls_from (run ++ more) rest
goes_through run [] rest o = ap (λ (r : List PlainPacket). calls_from r rest) (sym (append-nil run))
goes_through run (put ∷ more) rest o =
    let regroup : run ++ put ∷ more ≡ (run ++ put ∷ []) ++ more = sym (append_assoc run (put ∷ []) more) in
    let longer : IsOpen ((run ++ put ∷ []) ++ more) = subst IsOpen regroup o in
    let keeps_now : KeepsRules (run_headers (run ++ put ∷ [])) = front_keeps (run ++ put ∷ []) more longer.rules in
    let not_final : is_final put ≡ false = all_at run put more o.not_final in
    let now : put_calls (run_headers run) put ≡ calls_of put.headers =
    cond-false _ _ _ (unbroken run put keeps_now) ∙ ap (λ (b : Bool). calls_of put.headers ++ end_calls b (run_headers run ++ put.headers)) not_final ∙ append-nil (calls_of put.headers) in
    let next : open_from run (Some put ∷ []) ≡ run ++ put ∷ [] = cond-false _ _ _ (or_from _ _ (kept (run_headers (run ++ put ∷ [])) keeps_now) not_final) in
    ap (λ (cs : List InboxCall). cs ++ calls_from (open_from run (Some put ∷ [])) (puts more ++ rest)) now
    ∙ ap (λ (r : List PlainPacket). calls_of put.headers ++ calls_from r (puts more ++ rest)) next
    ∙ ap (λ (cs : List InboxCall). calls_of put.headers ++ cs) (goes_through (run ++ put ∷ []) more rest longer)
    ∙ sym (append_assoc (calls_of put.headers) (calls_of (run_headers more)) (calls_from ((run ++ put ∷ []) ++ more) rest))
    ∙ ap (λ (cs : List InboxCall). cs ++ calls_from ((run ++ put ∷ []) ++ more) rest) (sym (both_calls put.headers (run_headers more)))
    ∙ ap (λ (r : List PlainPacket). calls_of (run_headers (put ∷ more)) ++ calls_from r rest) (sym regroup)

open_nil : IsOpen []
open_nil = record { not_final = tt; rules = record { one_name = omega arith; short_name = tt; name_first = refl; bounded = omega arith } }

-- PUTs that go on, and the packet behind them
through : (run : List PlainPacket) (last : Option PlainPacket) (rest : List (Option PlainPacket)) → IsOpen run → open_from run (last ∷ []) ≡ []
    → calls_from [] ((puts run ++ last ∷ []) ++ rest) ≡ (calls_of (run_headers run) ++ packet_calls (run_headers run) last) ++ calls_from [] rest
through run last rest o e =
    ap (calls_from []) (append_assoc (puts run) (last ∷ []) rest) ∙ goes_through [] run (last ∷ rest) o
    ∙ ap (λ (r : List PlainPacket). calls_of (run_headers run) ++ (packet_calls (run_headers run) last ++ calls_from r rest)) e
    ∙ sym (append_assoc (calls_of (run_headers run)) (packet_calls (run_headers run) last) (calls_from [] rest))

no_lack : (all : List PlainHeader) (name : List ℕ) → names all ≡ name ∷ [] → 0 < length (bodies all) → lacks all ≡ false
no_lack all name n b = or_from (eqb (length (names all)) 0) (eqb (length (bodies all)) 0) (ne_eqb _ _ (λ e. let k = ap length n in absurd (omega arith))) (ne_eqb _ _ (λ e. absurd (omega arith)))

spelling_calls : (run : List PlainPacket) (object : Object) (rest : List (Option PlainPacket)) → SpellsObject run object → calls_from [] (puts run ++ rest) ≡ stretch_calls (Spelling run object) ++ calls_from [] rest
spelling_calls run object rest h =
    let same : run_headers (h.front ++ h.last ∷ []) ≡ run_headers run = ap run_headers (sym h.parts) in
    let keeps_all : KeepsRules (run_headers (h.front ++ h.last ∷ [])) = subst KeepsRules (sym same) h.rules in
    let open_ : IsOpen h.front = record { not_final = h.not_final; rules = front_keeps h.front (h.last ∷ []) keeps_all } in
    let all : run_headers h.front ++ h.last.headers ≡ run_headers run = sym (headers-more h.front h.last) ∙ same in
    let now : put_calls (run_headers h.front) h.last ≡ calls_of h.last.headers ++ Commit ∷ [] =
    cond-false _ _ _ (unbroken h.front h.last keeps_all) ∙ ap (λ (b : Bool). calls_of h.last.headers ++ end_calls b (run_headers h.front ++ h.last.headers)) h.final
    ∙ ap (λ (hs : List PlainHeader). calls_of h.last.headers ++ end_calls true hs) all ∙ ap (λ (b : Bool). calls_of h.last.headers ++ cond b (abort_behind (run_headers run)) (Commit ∷ [])) (no_lack (run_headers run) object.name h.name h.has_body) in
    let over : open_from h.front (Some h.last ∷ []) ≡ [] = cond-true _ _ _ (or_right (breaks (run_headers (h.front ++ h.last ∷ []))) (is_final h.last) h.final) in
    ap (λ (r : List PlainPacket). calls_from [] (puts r ++ rest)) h.parts ∙ ap (λ (ps : List (Option PlainPacket)). calls_from [] (ps ++ rest)) (map-append (λ (p : PlainPacket). Some p) h.front (h.last ∷ []))
    ∙ through h.front (Some h.last) rest open_ over
    ∙ ap (λ (cs : List InboxCall). (calls_of (run_headers h.front) ++ cs) ++ calls_from [] rest) now
    ∙ ap (λ (cs : List InboxCall). cs ++ calls_from [] rest) (sym (append_assoc (calls_of (run_headers h.front)) (calls_of h.last.headers) (Commit ∷ [])) ∙ ap (λ (cs : List InboxCall). cs ++ Commit ∷ []) (sym (both_calls (run_headers h.front) h.last.headers) ∙ ap calls_of all))

kept_all : (hs more : List PlainHeader) → KeepsRules (hs ++ more) → kept_behind hs more ≡ more
kept_all hs [] k = refl
kept_all hs (h ∷ more) k =
    let regroup : KeepsRules ((hs ++ h ∷ []) ++ more) = subst KeepsRules (sym (append_assoc hs (h ∷ []) more)) k in
    kept_on hs h more (rules_front (hs ++ h ∷ []) more regroup) ∙ ap (λ (xs : List PlainHeader). h ∷ xs) (kept_all (hs ++ h ∷ []) more regroup)

lacks_some : (all : List PlainHeader) → ((names all ≡ []) ⊎ (bodies all ≡ [])) → lacks all ≡ true
lacks_some all (inl none) = or_left (eqb (length (names all)) 0) _ (ap (λ (ns : List (List ℕ)). eqb (length ns) 0) none)
lacks_some all (inr none) = or_right (eqb (length (names all)) 0) _ (ap (λ (bs : List (List ℕ)). eqb (length bs) 0) none)

-- a PUT that ends its run without an object
ended_calls : (broken : Bool) (run : List PlainPacket) (put : PlainPacket) → breaks (run_headers run ++ put.headers) ≡ broken → EndsWithout run (Some put)
    → (put_calls (run_headers run) put ≡ calls_of (kept_behind (run_headers run) put.headers) ++ abort_behind (run_headers run ++ kept_behind (run_headers run) put.headers)) × (open_from run (Some put ∷ []) ≡ [])
ended_calls true run put e w = (cond-true _ _ _ e, cond-true _ _ _ (or_left (breaks (run_headers (run ++ put ∷ []))) (is_final put) (ap breaks (headers-more run put) ∙ e)))
ended_calls false run put e (inl breaking) = absurd (breaking (subst KeepsRules (sym (headers-more run put)) (keeps (run_headers run ++ put.headers) e)))
ended_calls false run put e (inr lacking) =
    let hs : List PlainHeader = run_headers run in
    let all : run_headers (run ++ put ∷ []) ≡ hs ++ put.headers = headers-more run put in
    let short : lacks (hs ++ put.headers) ≡ true = ap lacks (sym all) ∙ lacks_some (run_headers (run ++ put ∷ [])) lacking.1 in
    let whole : kept_behind hs put.headers ≡ put.headers = kept_all hs put.headers (keeps (hs ++ put.headers) e) in (
      cond-false _ _ _ e ∙ ap (λ (b : Bool). calls_of put.headers ++ end_calls b (hs ++ put.headers)) lacking.0 ∙ ap (λ (b : Bool). calls_of put.headers ++ cond b (abort_behind (hs ++ put.headers)) (Commit ∷ [])) short
          ∙ ap (λ (xs : List PlainHeader). calls_of xs ++ abort_behind (hs ++ xs)) (sym whole),
      cond-true _ _ _ (or_right (breaks (run_headers (run ++ put ∷ []))) (is_final put) lacking.0),
    )

broken_calls : (run : List PlainPacket) (last : Option PlainPacket) (rest : List (Option PlainPacket)) → IsOpen run → EndsWithout run last → calls_from [] ((puts run ++ last ∷ []) ++ rest) ≡ stretch_calls (Broken run last) ++ calls_from [] rest
broken_calls run None rest o e =
    through run None rest o refl ∙ ap (λ (hs : List PlainHeader). begun_and_aborted hs ++ calls_from [] rest) (sym (append-nil (run_headers run)))
broken_calls run (Some put) rest o e =
    let hs : List PlainHeader = run_headers run in
    let k : List PlainHeader = kept_behind hs put.headers in
    let ended = ended_calls (breaks (hs ++ put.headers)) run put refl e in
    through run (Some put) rest o ended.1
    ∙ ap (λ (cs : List InboxCall). (calls_of hs ++ cs) ++ calls_from [] rest) ended.0
    ∙ ap (λ (cs : List InboxCall). cs ++ calls_from [] rest) (sym (append_assoc (calls_of hs) (calls_of k) (abort_behind (hs ++ k))) ∙ ap (λ (cs : List InboxCall). cs ++ abort_behind (hs ++ k)) (sym (both_calls hs k)))

through_all : (stretches : List Stretch) (open_run : List PlainPacket) → AllByRecursion IsStretch stretches → IsOpen open_run → calls_from [] (flat_map stretch_packets stretches ++ puts open_run) ≡ flat_map stretch_calls stretches ++ calls_of (run_headers open_run)
through_all [] open_run all o = ap (calls_from []) (sym (append-nil (puts open_run))) ∙ goes_through [] open_run [] o ∙ append-nil (calls_of (run_headers open_run))
through_all (Spelling run object ∷ stretches) open_run all o =
    ap (calls_from []) (append_assoc (puts run) (flat_map stretch_packets stretches) (puts open_run))
    ∙ spelling_calls run object (flat_map stretch_packets stretches ++ puts open_run) all.0
    ∙ ap (λ (cs : List InboxCall). stretch_calls (Spelling run object) ++ cs) (through_all stretches open_run all.1 o)
    ∙ sym (append_assoc (stretch_calls (Spelling run object)) (flat_map stretch_calls stretches) (calls_of (run_headers open_run)))
through_all (Broken run last ∷ stretches) open_run all o =
    ap (calls_from []) (append_assoc (puts run ++ last ∷ []) (flat_map stretch_packets stretches) (puts open_run))
    ∙ broken_calls run last (flat_map stretch_packets stretches ++ puts open_run) all.0.0 all.0.1
    ∙ ap (λ (cs : List InboxCall). stretch_calls (Broken run last) ++ cs) (through_all stretches open_run all.1 o)
    ∙ sym (append_assoc (stretch_calls (Broken run last)) (flat_map stretch_calls stretches) (calls_of (run_headers open_run)))

pub calls_fall : (packets : List (Option PlainPacket)) (objects : List Object) (f : FallsInto packets objects) → calls_from [] packets ≡ flat_map stretch_calls f.stretches ++ calls_of (run_headers f.open_run)
calls_fall packets objects f = ap (calls_from []) f.packets_are ∙ through_all f.stretches f.open_run f.are_stretches f.is_open

-- ---- where the run that goes on stands

open_through : (run more : List PlainPacket) (rest : List (Option PlainPacket)) → IsOpen (run ++ more) → open_from run (puts more ++ rest) ≡ open_from (run ++ more) rest
open_through run [] rest o = ap (λ (r : List PlainPacket). open_from r rest) (sym (append-nil run))
open_through run (put ∷ more) rest o =
    let regroup : run ++ put ∷ more ≡ (run ++ put ∷ []) ++ more = sym (append_assoc run (put ∷ []) more) in
    let longer : IsOpen ((run ++ put ∷ []) ++ more) = subst IsOpen regroup o in
    let keeps_now : KeepsRules (run_headers (run ++ put ∷ [])) = front_keeps (run ++ put ∷ []) more longer.rules in
    cond-false _ _ _ (or_from _ _ (kept (run_headers (run ++ put ∷ [])) keeps_now) (all_at run put more o.not_final)) ∙ open_through (run ++ put ∷ []) more rest longer ∙ ap (λ (r : List PlainPacket). open_from r rest) (sym regroup)

open_behind : (run : List PlainPacket) (last : Option PlainPacket) (rest : List (Option PlainPacket)) → IsOpen run → open_from run (last ∷ []) ≡ [] → open_from [] ((puts run ++ last ∷ []) ++ rest) ≡ open_from [] rest
open_behind run last rest o e = ap (open_from []) (append_assoc (puts run) (last ∷ []) rest) ∙ open_through [] run (last ∷ rest) o ∙ open_cons run last rest ∙ ap (λ (r : List PlainPacket). open_from r rest) e

open_spelling : (run : List PlainPacket) (object : Object) (rest : List (Option PlainPacket)) → SpellsObject run object → open_from [] (puts run ++ rest) ≡ open_from [] rest
open_spelling run object rest h =
    let keeps_all : KeepsRules (run_headers (h.front ++ h.last ∷ [])) = subst KeepsRules (ap run_headers h.parts) h.rules in
    ap (λ (r : List PlainPacket). open_from [] (puts r ++ rest)) h.parts ∙ ap (λ (ps : List (Option PlainPacket)). open_from [] (ps ++ rest)) (map-append (λ (p : PlainPacket). Some p) h.front (h.last ∷ []))
    ∙ open_behind h.front (Some h.last) rest (record { not_final = h.not_final; rules = front_keeps h.front (h.last ∷ []) keeps_all }) (cond-true _ _ _ (or_right (breaks (run_headers (h.front ++ h.last ∷ []))) (is_final h.last) h.final))

open_broken : (run : List PlainPacket) (last : Option PlainPacket) (rest : List (Option PlainPacket)) → IsOpen run → EndsWithout run last → open_from [] ((puts run ++ last ∷ []) ++ rest) ≡ open_from [] rest
open_broken run None rest o e = open_behind run None rest o refl
open_broken run (Some put) rest o e = open_behind run (Some put) rest o (ended_calls (breaks (run_headers run ++ put.headers)) run put refl e).1

open_all : (stretches : List Stretch) (open_run : List PlainPacket) → AllByRecursion IsStretch stretches → IsOpen open_run → open_from [] (flat_map stretch_packets stretches ++ puts open_run) ≡ open_run
open_all [] open_run all o = ap (open_from []) (sym (append-nil (puts open_run))) ∙ open_through [] open_run [] o
open_all (Spelling run object ∷ stretches) open_run all o =
    ap (open_from []) (append_assoc (puts run) (flat_map stretch_packets stretches) (puts open_run)) ∙ open_spelling run object (flat_map stretch_packets stretches ++ puts open_run) all.0 ∙ open_all stretches open_run all.1 o
open_all (Broken run last ∷ stretches) open_run all o =
    ap (open_from []) (append_assoc (puts run ++ last ∷ []) (flat_map stretch_packets stretches) (puts open_run)) ∙ open_broken run last (flat_map stretch_packets stretches ++ puts open_run) all.0.0 all.0.1 ∙ open_all stretches open_run all.1 o

pub open_falls : (packets : List (Option PlainPacket)) (objects : List Object) (f : FallsInto packets objects) → open_from [] packets ≡ f.open_run
open_falls packets objects f = ap (open_from []) f.packets_are ∙ open_all f.stretches f.open_run f.are_stretches f.is_open
