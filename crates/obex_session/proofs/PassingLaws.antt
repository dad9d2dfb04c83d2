-- A session keeps to single response mode, packet after packet.
use Rattle.std.proofs.Common.{inl, inr, ◌⊎◌, Bool, true, false, cond, eqb, ◌||◌, ◌&&◌, ◌≡◌, ℕ, List, [], ◌∷◌, ◌++◌, length, Option, Some, None, Result, Ok, Err, refl, sym, ap, subst, ◌∙◌, arith}
use Rattle.std.specs.Prelude.{not, is_err}
use Rattle.std.specs.List.{list_any}
use Rattle.std.proofs.lemmas.Bool.{cases_Bool, cond-true, cond-false, or_from, or_right, ne_eqb}
use Rattle.bt_base.specs.Objects.{Object, Contents}
use Rattle.bt_base.specs.declared.ports.PortFault.TheVariants as fault
use Rattle.obex_headers.specs.declared.codes.Code.TheVariants as code
use Rattle.obex_headers.specs.declared.fault.ObexRefusal.{ObexRefusal}
use Rattle.obex_headers.specs.declared.packet.Phase.TheVariants.{Request}
use Rattle.obex_headers.specs.Codes.{octet_of}
use Rattle.obex_headers.specs.Packets.{PlainHeader, PlainPacket}
use Rattle.obex_headers.specs.Reading.{packet_in}
use Rattle.obex_headers.specs.Runs.{name_text, names, bodies, run_headers, breaks, lacks, is_final, put_of, KeepsRules}
use Rattle.obex_headers.proofs.RunLaws.{keeps, kept}
use Rattle.obex_session.specs.declared.course.Course.{Course}
use Rattle.obex_session.specs.declared.course.Course.TheVariants.{Rests, Ignores, Runs}
use Rattle.obex_session.specs.declared.course.Progress.{Progress}
use Rattle.obex_session.specs.declared.course.Verdict.{Verdict}
use Rattle.obex_session.specs.declared.course.Verdict.TheVariants.{Open, Whole, Ended, PassedOver}
use Rattle.obex_session.specs.declared.marks.Kind.{Kind}
use Rattle.obex_session.specs.declared.marks.Kind.TheVariants as kinds
use Rattle.obex_session.specs.InboxCalls.{InboxCall, Answer, come_of, left_by}
use Rattle.obex_session.specs.Marks.{is_name, marks_of, kind_of}
use Rattle.obex_session.specs.Modes.{in_mode, begins, mode_reply, reply_by, reply_due, unless_short, put_passing, passing_by, passing_behind, is_of_none, run_past, AllKeepModes, RepliesKeepModes}
use Rattle.obex_session.specs.Past.{Serving, put_heard, open_from, progress_from, progress_of}
use Rattle.obex_session.specs.Replied.{code_at_break, broken_code, put_code, packet_code, code_or, plain_reply, said_to, has_names}
use Rattle.obex_session.specs.Rules.{Ruling, opens, ends, then_on, after_headers, finished, at_put, at_packet, other_response, progress_in, is_ignoring}
use Rattle.obex_session.specs.Serving.{ruling_on, verdict_or, heard_with}
use Rattle.obex_session.specs.Tried.{calls_behind, run_behind}
use Rattle.obex_session.specs.Turns.{is_single_in, is_first_in, is_followed, course_after, said_open, said_whole, said_after}
use Rattle.obex_session.specs.Views.{octets_said, rested}
use Rattle.obex_session.proofs.PastLaws.{headers-more, open_keeps}
use Rattle.obex_session.proofs.RepliedLaws.{CodedAs, headers_coded, other_coded}
use Rattle.obex_session.proofs.RuleLaws.{Follows, follows}
use Rattle.obex_session.proofs.TryingLaws.{nothing_kept, called, progress_next}

-- ---- where a mode stands

abbrev Stands : Bool → Course → Bool → List PlainPacket → Type 0
Stands offered Rests passing run = (passing ≡ false) × (run ≡ [])
Stands offered Ignores passing run = (passing ≡ true) × (run ≡ [])
Stands offered (Runs progress single) passing run = (passing ≡ false) × (begins run ≡ false) × (single ≡ in_mode offered run)

ignoring_is : (offered : Bool) (course : Course) (passing : Bool) (run : List PlainPacket) → Stands offered course passing run → is_ignoring course ≡ passing
ignoring_is offered Rests passing run s = sym s.0
ignoring_is offered Ignores passing run s = sym s.0
ignoring_is offered (Runs progress single) passing run s = sym s.0

first_is : (offered : Bool) (course : Course) (passing : Bool) (run : List PlainPacket) → Stands offered course passing run → is_first_in course ≡ begins run
first_is offered Rests passing run s = sym (ap begins s.1)
first_is offered Ignores passing run s = sym (ap begins s.1)
first_is offered (Runs progress single) passing run s = sym s.1

mode_on : (offered : Bool) (run : List PlainPacket) (put : PlainPacket) → begins run ≡ false → in_mode offered run ≡ in_mode offered (run ++ put ∷ [])
mode_on offered [] put going = absurd (let f : true ≡ false = going in cc)
mode_on offered (first ∷ run) put going = refl

single_is : (offered : Bool) (course : Course) (passing : Bool) (run : List PlainPacket) (put : PlainPacket) (final : Bool) → Stands offered course passing run → is_single_in offered course (kinds.Put final (marks_of put.headers)) ≡ in_mode offered (run ++ put ∷ [])
single_is offered Rests passing run put final s = ap (λ (r : List PlainPacket). in_mode offered (r ++ put ∷ [])) (sym s.1)
single_is offered Ignores passing run put final s = ap (λ (r : List PlainPacket). in_mode offered (r ++ put ∷ [])) (sym s.1)
single_is offered (Runs progress single) passing run put final s = s.2 ∙ mode_on offered run put s.1

followed_put : (offered : Bool) (course : Course) (passing : Bool) (run : List PlainPacket) (final : Bool) (put : PlainPacket) → Stands offered course passing run → is_followed course (kinds.Put final (marks_of put.headers)) ≡ (in_mode offered run && not final)
followed_put offered Rests passing run final put s = ap (λ (r : List PlainPacket). in_mode offered r && not final) (sym s.1)
followed_put offered Ignores passing run final put s = ap (λ (r : List PlainPacket). in_mode offered r && not final) (sym s.1)
followed_put offered (Runs progress single) passing run final put s = ap (λ (b : Bool). b && not final) s.2

or_false : (b : Bool) → b ≡ (b || false)
or_false true = refl
or_false false = refl

followed_bad : (offered : Bool) (course : Course) (passing : Bool) (run : List PlainPacket) → Stands offered course passing run → is_followed course kinds.Refused ≡ (passing || in_mode offered run)
followed_bad offered Rests passing run s = sym (ap (λ (b : Bool). b || in_mode offered run) s.0 ∙ ap (in_mode offered) s.1)
followed_bad offered Ignores passing run s = sym (ap (λ (b : Bool). b || in_mode offered run) s.0)
followed_bad offered (Runs progress single) passing run s = s.2 ∙ sym (ap (λ (b : Bool). b || in_mode offered run) s.0)

-- a refused packet leaves no run
refused_stands : (offered followed passing : Bool) (run : List PlainPacket) → followed ≡ passing → run ≡ [] → Stands offered (cond followed Ignores Rests) passing run
refused_stands offered true passing run is none = (sym is, none)
refused_stands offered false passing run is none = (sym is, none)

-- want of memory leaves none either
short_stands : (offered : Bool) (course : Course) (kind : Kind) (passing : Bool) (run run' : List PlainPacket) → Stands offered course passing run → run' ≡ [] → Stands offered (course_after offered course kind (Err fault.NoMemory)) passing run'
short_stands offered Rests kind passing run run' s none = (s.0, none)
short_stands offered Ignores kind passing run run' s none = (s.0, none)
short_stands offered (Runs progress single) kind passing run run' s none = (s.0, none)

-- ---- the code of a PUT, and the run behind it

abbrev IsBroken : ℕ → Type 0
IsBroken code = (code ≡ 0xC0) ⊎ (code ≡ 0xCD)

break_one : (named : Bool) (name : Option (List ℕ)) → IsBroken (code_at_break named name)
break_one true (Some text) = inl refl
break_one false (Some text) = inr refl
break_one true None = inr refl
break_one false None = inl refl

either_broken : (b : Bool) (x y : ℕ) → IsBroken x → IsBroken y → IsBroken (cond b x y)
either_broken true x y p q = p
either_broken false x y p q = q

broken_one : (hs more : List PlainHeader) → IsBroken (broken_code hs more)
broken_one hs [] = inl refl
broken_one hs (h ∷ more) = either_broken (breaks (hs ++ h ∷ [])) (code_at_break (has_names hs) (name_text h)) (broken_code (hs ++ h ∷ []) more) (break_one (has_names hs) (name_text h)) (broken_one (hs ++ h ∷ []) more)

-- it goes on, stores its object, or is refused
abbrev FateAs : Bool → ℕ → Verdict → Type 0
FateAs over due (Open next) = (over ≡ false) × (due ≡ 0x90)
FateAs over due Whole = (over ≡ true) × (due ≡ 0xA0)
FateAs over due (Ended code) = (over ≡ true) × (due ≡ octet_of code) × IsBroken due
FateAs over due (PassedOver final) = ⊥

broken_by : (hs : List PlainHeader) → (KeepsRules hs → ⊥) → breaks hs ≡ true
broken_by hs broken = elim (cases_Bool (breaks hs)) [ inl found ↦ found | inr none ↦ absurd (broken (keeps hs none)) ]

abbrev due_of : Bool → Bool → Bool → ℕ → ℕ
due_of broken final lacking code = cond broken code (cond final (cond lacking 0xC0 0xA0) 0x90)

finished_fate : (code : ℕ) (ns bs : List (List ℕ)) → FateAs true (due_of false true (eqb (length ns) 0 || eqb (length bs) 0) code) (finished (progress_from ns bs)).verdict
finished_fate code [] bs = (refl, refl, inl refl)
finished_fate code (n ∷ ns) [] = let e : cond (eqb (length (n ∷ ns)) 0 || true) 0xC0 0xA0 ≡ 0xC0 = cond-true _ 0xC0 0xA0 (or_right (eqb (length (n ∷ ns)) 0) true refl) in (refl, e, inl e)
finished_fate code (n ∷ ns) (b ∷ bs) = (refl, cond-false _ 0xC0 0xA0 (or_from (eqb (length (n ∷ ns)) 0) (eqb (length (b ∷ bs)) 0) (ne_eqb _ _ (λ e. absurd (omega (arith, e)))) (ne_eqb _ _ (λ e. absurd (omega (arith, e))))))

end_fate : (final : Bool) (code : ℕ) (all : List PlainHeader) → FateAs (false || final) (due_of false final (lacks all) code) (cond final (finished (progress_of all)) (opens [] (progress_of all))).verdict
end_fate true code all = finished_fate code (names all) (bodies all)
end_fate false code all = (refl, refl)

at_end : (hs : List PlainHeader) (put : PlainPacket) (final : Bool) (stored : List Object) (contents : Contents) (calls : List InboxCall) (verdict : Verdict) → Follows (hs ++ put.headers) verdict stored contents → CodedAs hs put.headers verdict
    → (let all = hs ++ put.headers in FateAs (breaks all || final) (due_of (breaks all) final (lacks all) (broken_code hs put.headers)) (then_on calls verdict (λ next. cond final (finished next) (opens [] next))).verdict)
at_end hs put final stored contents calls (Open p) f c =
    let all : List PlainHeader = hs ++ put.headers in
    let code : ℕ = broken_code hs put.headers in
    subst (λ (q : Progress). FateAs (breaks all || final) (due_of (breaks all) final (lacks all) code) (cond final (finished q) (opens [] q)).verdict) (sym f.progress_is)
    (subst (λ (b : Bool). FateAs (b || final) (due_of b final (lacks all) code) (cond final (finished (progress_of all)) (opens [] (progress_of all))).verdict) (sym (kept all f.keeps)) (end_fate final code all))
at_end hs put final stored contents calls Whole f c = absurd f
at_end hs put final stored contents calls (Ended code) f c =
    let all : List PlainHeader = hs ++ put.headers in
    subst (λ (b : Bool). FateAs (b || final) (due_of b final (lacks all) (broken_code hs put.headers)) (Ended code)) (sym (broken_by all f.0)) (refl, c, broken_one hs put.headers)
at_end hs put final stored contents calls (PassedOver last) f c = absurd f

abbrev is_over : List PlainPacket → PlainPacket → Bool
is_over run put = breaks (run_headers (run ++ put ∷ [])) || is_final put

put_fate : (run : List PlainPacket) (put : PlainPacket) → KeepsRules (run_headers run) → FateAs (is_over run put) (put_code (run_headers run) put) (at_put (progress_of (run_headers run)) put).verdict
put_fate run put k =
    let hs : List PlainHeader = run_headers run in
    subst (λ (b : Bool). FateAs (b || is_final put) (put_code hs put) (at_put (progress_of hs) put).verdict) (ap breaks (sym (headers-more run put)))
    (at_end hs put (is_final put) [] _ (after_headers (progress_of hs) put.headers).calls (after_headers (progress_of hs) put.headers).verdict (follows hs put.headers [] k) (headers_coded hs put.headers k))

-- ---- a PUT that is heard

begins_not : (run : List PlainPacket) (put : PlainPacket) → begins (run ++ put ∷ []) ≡ false
begins_not [] put = refl
begins_not (first ∷ run) put = refl

abbrev kind_put : PlainPacket → Kind
kind_put put = kinds.Put (is_final put) (marks_of put.headers)

abbrev behind_put : List PlainPacket → PlainPacket → Answer → List PlainPacket
behind_put run put come = open_from run (cond (is_err come) None (Some put) ∷ [])

module _ (offered : Bool) (packet : List ℕ) (most : ℕ) where
  abbrev Due : Bool → Bool → Option ℕ → List ℕ
  Due single first due = cond single (mode_reply first packet most due) (plain_reply packet most due)

  open_by : (first single : Bool) → octets_said packet most (said_open first single) ≡ Due single first (Some 0x90)
  open_by true true = refl
  open_by false true = refl
  open_by true false = refl
  open_by false false = refl

  whole_by : (first single : Bool) → octets_said packet most (said_whole first single) ≡ Due single first (Some 0xA0)
  whole_by true true = refl
  whole_by false true = refl
  whole_by true false = refl
  whole_by false false = refl

  broken_due : (single first : Bool) (due : ℕ) → IsBroken due → Due single first (Some due) ≡ plain_reply packet most (Some due)
  broken_due true first due (inl is) = subst (λ (n : ℕ). Due true first (Some n) ≡ plain_reply packet most (Some n)) (sym is) refl
  broken_due true first due (inr is) = subst (λ (n : ℕ). Due true first (Some n) ≡ plain_reply packet most (Some n)) (sym is) refl
  broken_due false first due is = refl

  failed_due : (single first : Bool) → plain_reply packet most (Some 0xD0) ≡ Due single first (Some 0xD0)
  failed_due true first = refl
  failed_due false first = refl

  short_due : (single first : Bool) → [] ≡ Due single first None
  short_due true first = refl
  short_due false first = refl

  module _ (course : Course) (passing : Bool) (run : List PlainPacket) (put : PlainPacket) (s : Stands offered course passing run) (due : ℕ) where
    abbrev single : Bool
    single = in_mode offered (run ++ put ∷ [])

    put_said : (verdict : Verdict) (come : Answer) → FateAs (is_over run put) due verdict → octets_said packet most (said_after offered course (kind_put put) (verdict_or verdict come)) ≡ Due single (begins run) (code_or due come)
    put_said (Open next) (Ok done) f =
        ap (λ (b : Bool). octets_said packet most (said_open (is_first_in course) b)) (single_is offered course passing run put (is_final put) s)
        ∙ ap (λ (b : Bool). octets_said packet most (said_open b single)) (first_is offered course passing run s) ∙ open_by (begins run) single ∙ ap (λ (n : ℕ). Due single (begins run) (Some n)) (sym f.1)
    put_said Whole (Ok done) f =
        ap (λ (b : Bool). octets_said packet most (said_whole (is_first_in course) b)) (single_is offered course passing run put (is_final put) s)
        ∙ ap (λ (b : Bool). octets_said packet most (said_whole b single)) (first_is offered course passing run s) ∙ whole_by (begins run) single ∙ ap (λ (n : ℕ). Due single (begins run) (Some n)) (sym f.1)
    put_said (Ended code) (Ok done) f = ap (λ (n : ℕ). plain_reply packet most (Some n)) (sym f.1) ∙ sym (broken_due single (begins run) due f.2)
    put_said (PassedOver final) (Ok done) f = absurd f
    put_said verdict (Err fault.Failed) f = failed_due single (begins run)
    put_said verdict (Err fault.NoMemory) f = short_due single (begins run)

    -- what it leaves
    broken_passing : IsBroken due → put_passing offered passing run put (Some due) ≡ (in_mode offered run && not (is_final put))
    broken_passing (inl is) = ap (λ (n : ℕ). put_passing offered passing run put (Some n)) is
    broken_passing (inr is) = ap (λ (n : ℕ). put_passing offered passing run put (Some n)) is

    over_run : (over : Bool) → is_over run put ≡ over → behind_put run put (Ok tt) ≡ cond over [] (run ++ put ∷ [])
    over_run over is = ap (λ (b : Bool). cond b [] (run ++ put ∷ [])) is

    put_stands : (verdict : Verdict) (come : Answer) → FateAs (is_over run put) due verdict
        → Stands offered (course_after offered course (kind_put put) (verdict_or verdict come)) (put_passing offered passing run put (code_or due come)) (behind_put run put come)
    put_stands (Open next) (Ok done) f =
        subst (λ (r : List PlainPacket). Stands offered (Runs next (is_single_in offered course (kind_put put))) (put_passing offered passing run put (Some due)) r) (sym (over_run false f.0))
        (ap (λ (n : ℕ). put_passing offered passing run put (Some n)) f.1, begins_not run put, single_is offered course passing run put (is_final put) s)
    put_stands Whole (Ok done) f = (ap (λ (n : ℕ). put_passing offered passing run put (Some n)) f.1, over_run true f.0)
    put_stands (Ended code) (Ok done) f =
        refused_stands offered (is_followed course (kind_put put)) (put_passing offered passing run put (Some due)) (behind_put run put (Ok done)) (followed_put offered course passing run (is_final put) put s ∙ sym (broken_passing f.2)) (over_run true f.0)
    put_stands (PassedOver final) (Ok done) f = absurd f
    put_stands verdict (Err fault.Failed) f =
        refused_stands offered (is_followed course (kind_put put)) (put_passing offered passing run put (Some 0xD0)) [] (followed_put offered course passing run (is_final put) put s) refl
    put_stands verdict (Err fault.NoMemory) f = short_stands offered course (kind_put put) passing run [] s refl

  -- ---- any packet

  module _ (course : Course) (passing : Bool) (run : List PlainPacket) (k : KeepsRules (run_headers run)) (p : progress_in course ≡ progress_of (run_headers run)) (s : Stands offered course passing run) where
    -- a PUT by whether it is passed over
    abbrev At : PlainPacket → Bool → Ruling
    At put passed = cond passed (record { calls = []; verdict = PassedOver (is_final put) }) (at_put (progress_in course) put)

    abbrev SaysPut : PlainPacket → Answer → Bool → Type 0
    SaysPut put come passed =
        octets_said packet most (said_after offered course (kind_put put) (verdict_or (At put passed).verdict come))
        ≡ cond passed [] (Due (in_mode offered (run ++ put ∷ [])) (begins run) (code_or (put_code (run_headers run) put) come))

    abbrev LeavesPut : PlainPacket → Answer → Bool → Type 0
    LeavesPut put come passed =
        Stands offered (course_after offered course (kind_put put) (verdict_or (At put passed).verdict come)) (cond passed (not (is_final put)) (put_passing offered passing run put (code_or (put_code (run_headers run) put) come)))
        (cond passed [] (behind_put run put come))

    passed_stands : (final : Bool) → Stands offered (cond final Rests Ignores) (not final) []
    passed_stands true = (refl, refl)
    passed_stands false = (refl, refl)

    fate : (put : PlainPacket) → FateAs (is_over run put) (put_code (run_headers run) put) (at_put (progress_in course) put).verdict
    fate put = subst (λ (q : Progress). FateAs (is_over run put) (put_code (run_headers run) put) (at_put q put).verdict) (sym p) (put_fate run put k)

    put_heard_so : (put : PlainPacket) (come : Answer) (passed : Bool) → (passed ≡ true → come ≡ Ok tt) → SaysPut put come passed × LeavesPut put come passed
    put_heard_so put come true free = subst (λ (c : Answer). SaysPut put c true × LeavesPut put c true) (sym (free refl)) (refl, passed_stands (is_final put))
    put_heard_so put come false free =
        let due : ℕ = put_code (run_headers run) put in
        (put_said course passing run put s due (at_put (progress_in course) put).verdict come (fate put), put_stands course passing run put s due (at_put (progress_in course) put).verdict come (fate put))

    -- a packet by whether it is a PUT
    abbrev kind_by : Bool → PlainPacket → Kind
    kind_by put heard = cond put (kind_put heard) (kinds.Other heard.code)

    abbrev at_by : Bool → Bool → PlainPacket → Ruling
    at_by put passed heard = cond put (At heard passed) (ends (progress_in course) (other_response heard.code))

    abbrev due_by : Bool → PlainPacket → ℕ
    due_by put heard = cond put (put_code (run_headers run) heard) (cond (eqb heard.code 0x80 || eqb heard.code 0x81 || eqb heard.code 0xFF) 0xA0 0xD1)

    abbrev SaysBy : PlainPacket → Answer → Bool → Bool → Type 0
    SaysBy heard come put passed =
        octets_said packet most (said_after offered course (kind_by put heard) (verdict_or (at_by put passed heard).verdict come))
        ≡ cond put (cond passed [] (Due (in_mode offered (run ++ heard ∷ [])) (begins run) (code_or (due_by put heard) come))) (plain_reply packet most (code_or (due_by put heard) come))

    abbrev LeavesBy : PlainPacket → Answer → Bool → Bool → Type 0
    LeavesBy heard come put passed =
        Stands offered (course_after offered course (kind_by put heard) (verdict_or (at_by put passed heard).verdict come))
        (cond put (cond passed (not (is_final heard)) (put_passing offered passing run heard (code_or (due_by put heard) come))) (unless_short passing false (code_or (due_by put heard) come)))
        (cond (put && passed) [] (open_from run (cond (is_err come) None (cond put (Some heard) None) ∷ [])))

    followed_other : (octet : ℕ) (c : Course) → is_followed c (kinds.Other octet) ≡ false
    followed_other octet Rests = refl
    followed_other octet Ignores = refl
    followed_other octet (Runs progress mode) = refl

    other_said : (heard : PlainPacket) (come : Answer) (passed : Bool) → SaysBy heard come false passed
    other_said heard (Ok done) passed = ap (λ (n : ℕ). plain_reply packet most (Some n)) (sym (other_coded heard.code))
    other_said heard (Err fault.Failed) passed = refl
    other_said heard (Err fault.NoMemory) passed = refl

    other_leaves : (heard : PlainPacket) (come : Answer) (passed : Bool) → LeavesBy heard come false passed
    other_leaves heard (Ok done) passed = refused_stands offered (is_followed course (kinds.Other heard.code)) false [] (followed_other heard.code course) refl
    other_leaves heard (Err fault.Failed) passed = refused_stands offered (is_followed course (kinds.Other heard.code)) false [] (followed_other heard.code course) refl
    other_leaves heard (Err fault.NoMemory) passed = short_stands offered course (kinds.Other heard.code) passing run [] s refl

    packet_so : (heard : PlainPacket) (come : Answer) (put passed : Bool) → ((put && passed) ≡ true → come ≡ Ok tt) → SaysBy heard come put passed × LeavesBy heard come put passed
    packet_so heard come true passed free = put_heard_so heard come passed free
    packet_so heard come false passed free = (other_said heard come passed, other_leaves heard come passed)

    bad_so : (come : Answer) → (octets_said packet most (said_after offered course kinds.Refused (verdict_or (Ended code.BadRequest) come)) ≡ plain_reply packet most (code_or 0xC0 come))
        × Stands offered (course_after offered course kinds.Refused (verdict_or (Ended code.BadRequest) come)) (unless_short passing (passing || in_mode offered run) (code_or 0xC0 come)) (open_from run (cond (is_err come) None None ∷ []))
    bad_so (Ok done) = (refl, refused_stands offered (is_followed course kinds.Refused) (passing || in_mode offered run) [] (followed_bad offered course passing run s) refl)
    bad_so (Err fault.Failed) = (refl, refused_stands offered (is_followed course kinds.Refused) (passing || in_mode offered run) [] (followed_bad offered course passing run s) refl)
    bad_so (Err fault.NoMemory) = (refl, short_stands offered course kinds.Refused passing run [] s refl)

    -- what was read
    abbrev run_by : Result PlainPacket ObexRefusal → Answer → List PlainPacket
    run_by read come = cond (is_of_none passing read) [] (open_from run (cond (is_err come) None (put_of read) ∷ []))

    abbrev So : Result PlainPacket ObexRefusal → Answer → Type 0
    So read come =
        (octets_said packet most (said_after offered course (kind_of read) (verdict_or (at_packet course read).verdict come)) ≡ reply_by offered most passing run read packet (code_or (packet_code (run_headers run) read) come))
        × Stands offered (course_after offered course (kind_of read) (verdict_or (at_packet course read).verdict come)) (passing_by offered passing run read (code_or (packet_code (run_headers run) read) come)) (run_by read come)

    free_by : (put passed : Bool) (x y : Ruling) (heard : PlainPacket) (answers : List Answer) → (put && passed) ≡ true → come_of (cond put (cond passed (record { calls = []; verdict = PassedOver (is_final heard) }) x) y).calls answers ≡ Ok tt
    free_by true true x y heard answers e = refl
    free_by true false x y heard answers e = absurd (let f : false ≡ true = e in cc)
    free_by false passed x y heard answers e = absurd (let f : false ≡ true = e in cc)

    read_so : (read : Result PlainPacket ObexRefusal) (answers : List Answer) → So read (come_of (at_packet course read).calls answers)
    read_so (Ok heard) answers =
        let put : Bool = eqb heard.code 0x02 || eqb heard.code 0x82 in
        let nameless : Bool = not (list_any is_name heard.headers) in
        let come : Answer = come_of (at_packet course (Ok heard)).calls answers in
        let free : (put && (is_ignoring course && nameless)) ≡ true → come ≡ Ok tt = free_by put (is_ignoring course && nameless) (at_put (progress_in course) heard) (ends (progress_in course) (other_response heard.code)) heard answers in
        let so : SaysBy heard come put (is_ignoring course && nameless) × LeavesBy heard come put (is_ignoring course && nameless) = packet_so heard come put (is_ignoring course && nameless) free in
        let is : is_ignoring course ≡ passing = ignoring_is offered course passing run s in (
          so.0 ∙ ap (λ (b : Bool). cond put (cond (b && nameless) [] (Due (in_mode offered (run ++ heard ∷ [])) (begins run) (code_or (due_by put heard) come))) (plain_reply packet most (code_or (due_by put heard) come))) is,
          subst (λ (b : Bool).
              Stands offered (course_after offered course (kind_by put heard) (verdict_or (at_by put (is_ignoring course && nameless) heard).verdict come))
              (cond put (cond (b && nameless) (not (is_final heard)) (put_passing offered passing run heard (code_or (due_by put heard) come))) (unless_short passing false (code_or (due_by put heard) come)))
              (cond (put && (b && nameless)) [] (open_from run (cond (is_err come) None (cond put (Some heard) None) ∷ []))))
              is so.1,
        )
    read_so (Err refusal) answers = bad_so (come_of (at_packet course (Err refusal)).calls answers)

-- ---- packet after packet

rested_progress : (offered passing : Bool) (course : Course) → Stands offered course passing [] → progress_in course ≡ progress_of []
rested_progress offered passing Rests s = refl
rested_progress offered passing Ignores s = refl
rested_progress offered passing (Runs progress single) s = absurd (let f : true ≡ false = s.1 in cc)

-- one packet
record Kept (session : Serving) (passing : Bool) (run : List PlainPacket) (packet : List ℕ) (answers : List Answer) : Type 0 where
  said : said_to session packet answers ≡ reply_due session.offered session.maximum passing run packet answers
  stands : Stands session.offered (heard_with session packet answers).session.course (passing_behind session.offered session.maximum passing run packet answers) (run_past session.maximum passing run packet answers)

one_kept : (session : Serving) (passing : Bool) (run : List PlainPacket) (packet : List ℕ) (answers : List Answer) → KeepsRules (run_headers run) → progress_in session.course ≡ progress_of (run_headers run) → Stands session.offered session.course passing run → Kept session passing run packet answers
one_kept session passing run packet answers k p s =
    let most = session.maximum in
    let read : Result PlainPacket ObexRefusal = packet_in Request most packet in
    let so = read_so session.offered packet most session.course passing run k p s read answers in
    let come : come_of (ruling_on session packet).calls answers ≡ come_of (calls_behind most run packet) answers = ap (λ (calls : List InboxCall). come_of calls answers) (called session packet run answers k p) in
    let course : Course = (heard_with session packet answers).session.course in
    record {
      said = so.0 ∙ ap (λ (c : Answer). reply_by session.offered most passing run read packet (code_or (packet_code (run_headers run) read) c)) come;
      stands = subst (λ (c : Answer). Stands session.offered course (passing_by session.offered passing run read (code_or (packet_code (run_headers run) read) c)) (cond (is_of_none passing read) [] (open_from run (cond (is_err c) None (put_of read) ∷ [])))) come so.1;
    }

past_keeps : (none : Bool) (run : List PlainPacket) → KeepsRules (run_headers run) → KeepsRules (run_headers (cond none [] run))
past_keeps true run k = nothing_kept
past_keeps false run k = k

past_progress : (offered passing none : Bool) (course : Course) (run : List PlainPacket) → Stands offered course passing (cond none [] run) → progress_in course ≡ progress_of (run_headers run) → progress_in course ≡ progress_of (run_headers (cond none [] run))
past_progress offered passing true course run s p = rested_progress offered passing course s
past_progress offered passing false course run s p = p

all_keep : (packets : List (List ℕ)) (session : Serving) (passing : Bool) (run : List PlainPacket) (answers : List Answer) → KeepsRules (run_headers run) → progress_in session.course ≡ progress_of (run_headers run)
    → Stands session.offered session.course passing run → AllKeepModes session passing run packets answers
all_keep [] session passing run answers k p s = tt
all_keep (packet ∷ packets) session passing run answers k p s =
    let most = session.maximum in
    let now : Kept session passing run packet answers = one_kept session passing run packet answers k p s in
    let turn = heard_with session packet answers in
    let none : Bool = is_of_none passing (packet_in Request most packet) in
    let behind : List PlainPacket = run_behind most run packet answers in
    let passes : Bool = passing_behind session.offered most passing run packet answers in (
      now.said,
      all_keep packets turn.session passes (run_past most passing run packet answers) (left_by (calls_behind most run packet) answers)
          (past_keeps none behind (open_keeps run (put_heard most (packet, is_err (come_of (calls_behind most run packet) answers)) ∷ []) k))
          (past_progress session.offered passes none turn.session.course behind now.stands (progress_next session packet run answers k p)) now.stands,
    )

pub replies-keep_modes : RepliesKeepModes
replies-keep_modes session packets answers = all_keep packets (rested session) false [] answers nothing_kept refl (refl, refl)
