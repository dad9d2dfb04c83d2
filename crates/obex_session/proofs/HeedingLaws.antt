-- The calls of one ruling after those of another.
use Rattle.std.proofs.Common.{Bool, true, false, cond, ltb, length, inl, inr, ◌≡◌, ℕ, ◌+◌, ◌≤◌, ◌<◌, List, [], ◌∷◌, ◌++◌, Option, Some, None, Result, Ok, Err, refl, sym, ap, subst, ◌∙◌, arith}
use Rattle.std.proofs.lemmas.Bool.{cases_lt}
use Rattle.std.specs.Option.{option_map}
use Rattle.bt_base.specs.Counts.{HasCause}
use Rattle.bt_base.specs.Objects.{Contents, aborted}
use Rattle.bt_base.specs.declared.ports.PortFault.{PortFault}
use Rattle.bt_base.specs.declared.ports.PortFault.TheVariants.{Failed, NoMemory}
use Rattle.obex_headers.specs.declared.codes.Code.TheVariants.{TooLarge}
use Rattle.obex_headers.specs.Packets.{PlainHeader, units_of}
use Rattle.obex_headers.specs.Runs.{name_text, body_of}
use Rattle.obex_session.specs.declared.course.Progress.{Progress}
use Rattle.obex_session.specs.declared.course.Progress.TheVariants.{Unnamed, Named, Filled}
use Rattle.obex_session.specs.declared.course.Verdict.{Verdict}
use Rattle.obex_session.specs.declared.course.Verdict.TheVariants.{Open, Whole, Ended, PassedOver}
use Rattle.obex_session.specs.InboxCalls.{InboxCall, Begin, Append, Abort, all_done}
use Rattle.obex_session.specs.Hearing.{Heeds}
use Rattle.obex_session.specs.Rules.{Ruling, opens, ends, at_parts, at_header, then_on, then_at, after_headers}

-- ---- lists of calls

pub all_done-append : (a b : List InboxCall) (contents : Contents) → all_done (a ++ b) contents ≡ all_done b (all_done a contents)
all_done-append [] b contents = refl
all_done-append (call ∷ calls) b contents = all_done-append calls b _

pub told-append : (a b : List InboxCall) (content : Option Contents) → option_map (all_done (a ++ b)) content ≡ option_map (all_done b) (option_map (all_done a) content)
told-append a b None = refl
told-append a b (Some contents) = ap Some (all_done-append a b contents)

pub none_done : (content : Option Contents) → option_map (all_done []) content ≡ content
none_done None = refl
none_done (Some contents) = refl

front_none : (a b : List InboxCall) → a ++ b ≡ [] → a ≡ []
front_none [] b e = refl
front_none (call ∷ calls) b e = absurd cc

-- ---- headers store nothing

-- the calls leave the stored objects as they are
abbrev pub Stores : List InboxCall → Type 0
Stores calls = (contents : Contents) → aborted (all_done calls contents) ≡ aborted contents

either : (over : Bool) (a b : Ruling) → Stores a.calls → Stores b.calls → Stores (cond over a b).calls
either true a b s t = s
either false a b s t = t

stores_nothing : Stores []
stores_nothing contents = refl

stores_begin : (units : List ℕ) → Stores (Begin units ∷ [])
stores_begin units contents = refl

stores_append : (piece : List ℕ) → Stores (Append piece ∷ [])
stores_append piece contents = refl

stores_abort : Stores (Abort ∷ [])
stores_abort contents = refl

parts_store : (progress : Progress) (name body : Option (List ℕ)) → Stores (at_parts progress name body).calls
parts_store Unnamed (Some text) body = either (ltb 255 (length (units_of text))) (ends Unnamed TooLarge) (opens (Begin (units_of text) ∷ []) Named) stores_nothing (stores_begin (units_of text))
parts_store Named (Some text) body = stores_abort
parts_store (Filled octets) (Some text) body = stores_abort
parts_store Unnamed None (Some octets) = stores_nothing
parts_store Named None (Some octets) = either (ltb 16777215 (length octets)) (ends Named TooLarge) (opens (Append octets ∷ []) (Filled (length octets))) stores_abort (stores_append octets)
parts_store (Filled before) None (Some octets) = either (ltb 16777215 (before + length octets)) (ends (Filled before) TooLarge) (opens (Append octets ∷ []) (Filled (before + length octets))) stores_abort (stores_append octets)
parts_store progress None None = stores_nothing

then_store : (calls : List InboxCall) (verdict : Verdict) (next : Progress → Ruling) → Stores calls → ((progress : Progress) → Stores (next progress).calls) → Stores (then_on calls verdict next).calls
then_store calls (Open progress) next s n = λ contents. ap aborted (all_done-append calls (next progress).calls contents) ∙ n progress (all_done calls contents) ∙ s contents
then_store calls Whole next s n = s
then_store calls (Ended code) next s n = s
then_store calls (PassedOver final) next s n = s

pub headers_store : (progress : Progress) (headers : List PlainHeader) → Stores (after_headers progress headers).calls
headers_store progress [] = stores_nothing
headers_store progress (header ∷ headers) =
    then_store (at_header progress header).calls (at_header progress header).verdict (λ next. after_headers next headers) (parts_store progress (name_text header) (body_of header)) (λ next. headers_store next headers)

pub header_stores : (progress : Progress) (header : PlainHeader) → Stores (at_header progress header).calls
header_stores progress header = parts_store progress (name_text header) (body_of header)

told_aborted : (calls : List InboxCall) (content : Option Contents) → Stores calls → option_map aborted (option_map (all_done calls) content) ≡ option_map aborted content
told_aborted calls None s = refl
told_aborted calls (Some contents) s = ap Some (s contents)

-- ---- counts

abbrev mk_ok : {A : Type 0} → A → Result A PortFault
mk_ok x = Ok x

no_fault : {A : Type 0} (x : A) (fault : PortFault) → mk_ok x ≡ Err fault → ⊥
no_fault x fault e = cc

same_count : (count count' : ℕ) → count ≤ count' → (count < count' → ⊥) → count' ≡ count
same_count count count' le not_lt = elim (cases_lt count count') [ inl lt ↦ absurd (not_lt lt) | inr ge ↦ omega arith ]

-- a call that succeeded moved no count
pub unmoved : {A : Type 0} (faults faults' shortages shortages' : ℕ) (x : A) → HasCause {A = A} faults faults' shortages shortages' (Ok x) → (faults' ≡ faults) × (shortages' ≡ shortages)
unmoved faults faults' shortages shortages' x cause = (
  same_count faults faults' cause.faults_stay (λ lt. no_fault x Failed (cause.only_failed lt)),
  same_count shortages shortages' cause.shortages_stay (λ lt. no_fault x NoMemory (cause.only_short lt)),
)

cause_on : (f f' f'' s s' s'' : ℕ) (x : Verdict) (outcome : Result Verdict PortFault) → HasCause {A = Verdict} f f' s s' (Ok x) → HasCause f' f'' s' s'' outcome → HasCause f f'' s s'' outcome
cause_on f f' f'' s s' s'' x outcome one two =
    let still = unmoved f f' s s' x one in
    subst (λ (n : ℕ). HasCause n f'' s s'' outcome) still.0 (subst (λ (n : ℕ). HasCause f' f'' n s'' outcome) still.1 two)

-- ---- one after the other

then_open : (calls : List InboxCall) (verdict : Verdict) (next : Progress → Ruling) (progress : Progress) → verdict ≡ Open progress → then_on calls verdict next ≡ record { calls = calls ++ (next progress).calls; verdict = (next progress).verdict }
then_open calls verdict next progress e = ap (λ (v : Verdict). then_on calls v next) e

heeds_at : (calls : List InboxCall) (ruling : Ruling) (content mid content' : Option Contents) (f f' f'' s s' s'' : ℕ) (x : Verdict) (outcome : Result Verdict PortFault) → Stores calls
    → mid ≡ option_map (all_done calls) content → HasCause {A = Verdict} f f' s s' (Ok x) → Heeds ruling mid content' f' f'' s' s'' outcome → Heeds (record { calls = calls ++ ruling.calls; verdict = ruling.verdict }) content content' f f'' s s'' outcome
heeds_at calls ruling content mid content' f f' f'' s s' s'' x (Ok verdict) stores e one two = record {
  verdict = two.verdict;
  content_is = two.content_is ∙ ap (option_map (all_done ruling.calls)) e ∙ sym (told-append calls ruling.calls content);
  cause = cause_on f f' f'' s s' s'' x (Ok verdict) one two.cause;
  sure = λ none. refl;
}
heeds_at calls ruling content mid content' f f' f'' s s' s'' x (Err fault) stores e one two = record {
  verdict = two.verdict;
  content_is = two.content_is ∙ ap (option_map aborted) e ∙ told_aborted calls content stores;
  cause = cause_on f f' f'' s s' s'' x (Err fault) one two.cause;
  sure = λ none. two.sure (back_none calls ruling.calls none);
}
  where
    back_none : (a b : List InboxCall) → a ++ b ≡ [] → b ≡ []
    back_none [] b e = e
    back_none (call ∷ calls) b e = absurd cc

-- the object goes on behind the first
pub heeds_then : (ruling : Ruling) (next : Progress → Ruling) (progress : Progress) (content mid content' : Option Contents) (f f' f'' s s' s'' : ℕ) (outcome : Result Verdict PortFault) → Stores ruling.calls
    → Heeds ruling content mid f f' s s' (Ok (Open progress)) → Heeds (next progress) mid content' f' f'' s' s'' outcome → Heeds (then_at ruling next) content content' f f'' s s'' outcome
heeds_then ruling next progress content mid content' f f' f'' s s' s'' outcome stores one two =
    subst (λ (r : Ruling). Heeds r content content' f f'' s s'' outcome) (sym (then_open ruling.calls ruling.verdict next progress (sym one.verdict)))
    (heeds_at ruling.calls (next progress) content mid content' f f' f'' s s' s'' (Open progress) outcome stores one.content_is one.cause two)

stop_at : (calls : List InboxCall) (verdict given : Verdict) (next : Progress → Ruling) → given ≡ verdict → ((progress : Progress) → given ≡ Open progress → ⊥) → then_on calls verdict next ≡ record { calls = calls; verdict = verdict }
stop_at calls (Open progress) given next e not_open = absurd (not_open progress e)
stop_at calls Whole given next e not_open = refl
stop_at calls (Ended code) given next e not_open = refl
stop_at calls (PassedOver final) given next e not_open = refl

-- the object ends with the first
pub heeds_stop : (ruling : Ruling) (next : Progress → Ruling) (given : Verdict) (content content' : Option Contents) (f f' s s' : ℕ) → ((progress : Progress) → given ≡ Open progress → ⊥)
    → Heeds ruling content content' f f' s s' (Ok given) → Heeds (then_at ruling next) content content' f f' s s' (Ok given)
heeds_stop ruling next given content content' f f' s s' not_open one =
    subst (λ (r : Ruling). Heeds r content content' f f' s s' (Ok given)) (sym (stop_at ruling.calls ruling.verdict given next one.verdict not_open)) one

calls_front : (calls : List InboxCall) (verdict : Verdict) (next : Progress → Ruling) → (then_on calls verdict next).calls ≡ [] → calls ≡ []
calls_front calls (Open progress) next e = front_none calls (next progress).calls e
calls_front calls Whole next e = e
calls_front calls (Ended code) next e = e
calls_front calls (PassedOver final) next e = e

-- a call of the first failed
pub heeds_fault : (ruling : Ruling) (next : Progress → Ruling) (fault : PortFault) (content content' : Option Contents) (f f' s s' : ℕ)
    → Heeds ruling content content' f f' s s' (Err fault) → Heeds (then_at ruling next) content content' f f' s s' (Err fault)
heeds_fault ruling next fault content content' f f' s s' one = record {
  verdict = tt;
  content_is = one.content_is;
  cause = one.cause;
  sure = λ none. one.sure (calls_front ruling.calls ruling.verdict next none);
}

-- nothing is done
pub heeds_still : (verdict : Verdict) (content : Option Contents) (f s : ℕ) → Heeds (record { calls = []; verdict = verdict }) content content f f s s (Ok verdict)
heeds_still verdict content f s = record {
  verdict = refl;
  content_is = sym (none_done content);
  cause = record {
    faults_stay = omega arith;
    shortages_stay = omega arith;
    failed = λ e. absurd cc;
    short = λ e. absurd cc;
    only_failed = λ lt. absurd (omega (arith, lt));
    only_short = λ lt. absurd (omega (arith, lt));
  };
  sure = λ none. refl;
}

pub heeds_none : (progress : Progress) (content : Option Contents) (f s : ℕ) → Heeds (opens [] progress) content content f f s s (Ok (Open progress))
heeds_none progress content f s = heeds_still (Open progress) content f s
