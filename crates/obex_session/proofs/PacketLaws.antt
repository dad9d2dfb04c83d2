-- Whole packets: what a PUT is to a session.
use Rattle.std.proofs.Common.{Bool, true, false, cond, eqb, ◌≡◌, ℕ, ◌||◌, ◌&&◌, List, [], ◌∷◌, Option, Some, None, Ok, refl, sym, ap, ◌∙◌}
use Rattle.std.specs.Prelude.{not, is_some}
use Rattle.std.specs.List.{list_any}
use Rattle.std.proofs.lemmas.Bool.{cond-true, cond-false, or_parts}
use Rattle.obex_headers.specs.declared.codes.Code.TheVariants.{BadRequest}
use Rattle.obex_headers.specs.Packets.{PlainHeader, PlainPacket}
use Rattle.obex_headers.specs.Runs.{name_text, body_of, is_final}
use Rattle.obex_session.specs.declared.course.Course.{Course}
use Rattle.obex_session.specs.declared.course.Course.TheVariants.{Rests, Ignores, Runs}
use Rattle.obex_session.specs.declared.course.Progress.TheVariants.{Unnamed, Named, Filled}
use Rattle.obex_session.specs.declared.course.Verdict.{Verdict}
use Rattle.obex_session.specs.declared.course.Verdict.TheVariants.{Open, Ended, PassedOver}
use Rattle.obex_session.specs.declared.marks.Kind.{Kind}
use Rattle.obex_session.specs.declared.marks.Kind.TheVariants.{Put, Other}
use Rattle.obex_session.specs.declared.marks.Marks.{Marks}
use Rattle.obex_session.specs.Marks.{is_name, is_body, marks_of, kind_of}
use Rattle.obex_session.specs.Rules.{Ruling, opens, ends, at_parts, then_at, after_headers, finished, at_put, at_put_in, at_packet, is_under_way, progress_in, is_ignoring, other_response}

-- ---- what a PUT is

record IsPut (b final final' : Bool) (marks marks' : Marks) : Type 0 where
  put : b ≡ true
  final_is : final ≡ final'
  marks_are : marks ≡ marks'

put_is : (b final final' : Bool) (marks marks' : Marks) (octet : ℕ) → cond b (Put final marks) (Other octet) ≡ Put final' marks' → IsPut b final final' marks marks'
put_is true final final' marks marks' octet e = record { put = refl; final_is = cc; marks_are = cc }
put_is false final final' marks marks' octet e = absurd cc

this_put : (packet : PlainPacket) (kind : Kind) (final : Bool) (marks : Marks) → kind ≡ kind_of (Ok packet) → kind ≡ Put final marks → IsPut (eqb packet.code 0x02 || eqb packet.code 0x82) (eqb packet.code 0x82) final (marks_of packet.headers) marks
this_put packet kind final marks k p = put_is (eqb packet.code 0x02 || eqb packet.code 0x82) (eqb packet.code 0x82) final (marks_of packet.headers) marks packet.code (sym k ∙ p)

-- ---- one that has to do with the inbox is judged by its headers

not_passed : (course : Course) (named : Bool) → (is_under_way (progress_in course) || named) ≡ true → (is_ignoring course && not named) ≡ false
not_passed Rests named e = refl
not_passed Ignores true e = refl
not_passed Ignores false e = absurd cc
not_passed (Runs progress single) named e = refl

pub put_minded : (course : Course) (packet : PlainPacket) (kind : Kind) (final : Bool) (marks : Marks) → kind ≡ kind_of (Ok packet) → kind ≡ Put final marks → (is_under_way (progress_in course) || marks.name) ≡ true
    → at_packet course (Ok packet) ≡ at_put (progress_in course) packet
put_minded course packet kind final marks k p minds =
    let put = this_put packet kind final marks k p in
    let named : marks.name ≡ list_any is_name packet.headers = sym (ap (λ (m : Marks). m.name) put.marks_are) in
    cond-true _ (at_put_in course packet) (ends (progress_in course) (other_response packet.code)) put.put
    ∙ cond-false _ _ (at_put (progress_in course) packet) (not_passed course (list_any is_name packet.headers) (ap (λ b. is_under_way (progress_in course) || b) (sym named) ∙ minds))

-- ---- one without a Name while no object is under way

abbrev pub without : Bool → Ruling
without ended = cond ended (ends Unnamed BadRequest) (opens [] Unnamed)

nameless_at : (name body : Option (List ℕ)) (rest : List PlainHeader) (more : Bool) → is_some name ≡ false → after_headers Unnamed rest ≡ without more → then_at (at_parts Unnamed name body) (λ next. after_headers next rest) ≡ without (is_some body || more)
nameless_at (Some text) body rest more none ih = absurd cc
nameless_at None (Some octets) rest more none ih = refl
nameless_at None None rest more none ih = ih

nameless : (headers : List PlainHeader) → list_any is_name headers ≡ false → after_headers Unnamed headers ≡ without (list_any is_body headers)
nameless [] none = refl
nameless (h ∷ hs) none =
    let both = or_parts (is_name h) (list_any is_name hs) none in
    nameless_at (name_text h) (body_of h) hs (list_any is_body hs) both.0 (nameless hs both.1)

nameless_end : (has_body final : Bool) → then_at (without has_body) (λ next. cond final (finished next) (opens [] next)) ≡ without (has_body || final)
nameless_end true final = refl
nameless_end false true = refl
nameless_end false false = refl

pub nameless_put : (packet : PlainPacket) → list_any is_name packet.headers ≡ false → at_put Unnamed packet ≡ without (list_any is_body packet.headers || is_final packet)
nameless_put packet none = ap (λ (r : Ruling). then_at r (λ next. cond (is_final packet) (finished next) (opens [] next))) (nameless packet.headers none) ∙ nameless_end (list_any is_body packet.headers) (is_final packet)

-- what is said of it, without a call
abbrev pub verdict_without : Course → Bool → Bool → Verdict
verdict_without course has_body final = cond (is_ignoring course) (PassedOver final) (cond (has_body || final) (Ended BadRequest) (Open Unnamed))

no_calls : (ended : Bool) → without ended ≡ record { calls = []; verdict = cond ended (Ended BadRequest) (Open Unnamed) }
no_calls true = refl
no_calls false = refl

nameless_in : (course : Course) (packet : PlainPacket) (named : Bool) → list_any is_name packet.headers ≡ named → named ≡ false → is_under_way (progress_in course) ≡ false
    → at_put_in course packet ≡ record { calls = []; verdict = verdict_without course (list_any is_body packet.headers) (is_final packet) }
nameless_in Rests packet named e none idle = nameless_put packet (e ∙ none) ∙ no_calls (list_any is_body packet.headers || is_final packet)
nameless_in Ignores packet named e none idle = cond-true _ _ (at_put Unnamed packet) (ap not (e ∙ none))
nameless_in (Runs Unnamed single) packet named e none idle = nameless_put packet (e ∙ none) ∙ no_calls (list_any is_body packet.headers || is_final packet)
nameless_in (Runs Named single) packet named e none idle = absurd cc
nameless_in (Runs (Filled octets) single) packet named e none idle = absurd cc

pub put_unminded : (course : Course) (packet : PlainPacket) (kind : Kind) (final : Bool) (marks : Marks) → kind ≡ kind_of (Ok packet) → kind ≡ Put final marks → (is_under_way (progress_in course) || marks.name) ≡ false
    → at_packet course (Ok packet) ≡ record { calls = []; verdict = verdict_without course marks.body final }
put_unminded course packet kind final marks k p unminded =
    let put = this_put packet kind final marks k p in
    let parts = or_parts (is_under_way (progress_in course)) marks.name unminded in
    let named : list_any is_name packet.headers ≡ marks.name = ap (λ (m : Marks). m.name) put.marks_are in
    cond-true _ (at_put_in course packet) (ends (progress_in course) (other_response packet.code)) put.put
    ∙ nameless_in course packet marks.name named parts.1 parts.0
    ∙ ap (λ (b : Bool). record { calls = []; verdict = verdict_without course b (eqb packet.code 0x82) }) (ap (λ (m : Marks). m.body) put.marks_are)
    ∙ ap (λ (b : Bool). record { calls = []; verdict = verdict_without course marks.body b }) put.final_is
