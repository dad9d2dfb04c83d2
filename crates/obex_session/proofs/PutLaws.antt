-- The headers of a PUT, while the front of them was heard.
use Rattle.std.proofs.Common.{◌≡◌, ℕ, List, [], ◌∷◌, ◌++◌, Option, Result, Ok, Err, sym, ap, subst, ◌∙◌}
use Rattle.std.specs.List.{AllByRecursion}
use Rattle.bt_base.specs.Objects.{Contents}
use Rattle.bt_base.specs.declared.ports.PortFault.{PortFault}
use Rattle.obex_headers.specs.Packets.{PlainHeader, IsHeader, header_octets, headers_octets}
use Rattle.obex_session.specs.declared.course.Progress.{Progress}
use Rattle.obex_session.specs.declared.course.Verdict.{Verdict}
use Rattle.obex_session.specs.declared.course.Verdict.TheVariants.{Open}
use Rattle.obex_session.specs.Hearing.{Heeds}
use Rattle.obex_session.specs.Rules.{at_header, after_headers}
use Rattle.obex_session.proofs.MarkLaws.{GivesFirst, nothing_left}
use Rattle.obex_session.proofs.HeedingLaws.{header_stores, heeds_then, heeds_stop, heeds_fault, heeds_none}

-- what is left of the headers; whoever heeds these now heeds all of them
pub record Goes (first : Progress) (headers : List PlainHeader) (before now : Option Contents) (f f' s s' : ℕ) (left : List ℕ) (progress : Progress) : Type 0 where
  pub rest : List PlainHeader
  pub sound : AllByRecursion IsHeader rest
  pub left_is : left ≡ headers_octets rest
  pub then_all : (content : Option Contents) (f'' s'' : ℕ) (outcome : Result Verdict PortFault) → Heeds (after_headers progress rest) now content f' f'' s' s'' outcome → Heeds (after_headers first headers) before content f f'' s s'' outcome

pub begins : (first : Progress) (headers : List PlainHeader) (before : Option Contents) (f s : ℕ) (left : List ℕ) → AllByRecursion IsHeader headers → left ≡ headers_octets headers → Goes first headers before before f f s s left first
begins first headers before f s left sound is = record { rest = headers; sound = sound; left_is = is; then_all = λ content f'' s'' outcome heeds. heeds }

-- a header was given
pub record Given (left : List ℕ) (header : PlainHeader) (new : List ℕ) : Type 0 where
  pub stood : left ≡ header_octets header ++ new
  pub first : GivesFirst left header new

-- the header that was given is the first of those that were left
record First (left new : List ℕ) (header : PlainHeader) (rest : List PlainHeader) : Type 0 where
  back : List PlainHeader
  sound : AllByRecursion IsHeader back
  new_is : new ≡ headers_octets back
  rest_is : rest ≡ header ∷ back

first_of : (left new : List ℕ) (header : PlainHeader) (rest : List PlainHeader) → AllByRecursion IsHeader rest → left ≡ headers_octets rest → Given left header new → First left new header rest
first_of left new header [] sound left_is given = absurd (nothing_left header new (sym left_is ∙ given.stood))
first_of left new header (h ∷ back) sound left_is given =
    let same = given.first h (headers_octets back) sound.0 left_is in
    record { back = back; sound = sound.1; new_is = same.1; rest_is = ap (λ (x : PlainHeader). x ∷ back) (sym same.0) }

-- it was heeded, and the object goes on
pub goes_on : (first : Progress) (headers : List PlainHeader) (before now now' : Option Contents) (f f' f'' s s' s'' : ℕ) (left new : List ℕ) (progress next : Progress) (header : PlainHeader)
    → Goes first headers before now f f' s s' left progress → Given left header new → Heeds (at_header progress header) now now' f' f'' s' s'' (Ok (Open next)) → Goes first headers before now' f f'' s s'' new next
goes_on first headers before now now' f f' f'' s s' s'' left new progress next header goes given one =
    let is = first_of left new header goes.rest goes.sound goes.left_is given in
    record {
      rest = is.back;
      sound = is.sound;
      left_is = is.new_is;
      then_all = λ content f3 s3 outcome heeds.
          goes.then_all content f3 s3 outcome (subst (λ (hs : List PlainHeader). Heeds (after_headers progress hs) now content f' f3 s' s3 outcome) (sym is.rest_is)
          (heeds_then (at_header progress header) (λ n. after_headers n is.back) next now now' content f' f'' f3 s' s'' s3 outcome (header_stores progress header) one heeds));
    }

-- it was heeded, and the object ends
pub goes_no_further : (first : Progress) (headers : List PlainHeader) (before now now' : Option Contents) (f f' f'' s s' s'' : ℕ) (left new : List ℕ) (progress : Progress) (given : Verdict) (header : PlainHeader)
    → Goes first headers before now f f' s s' left progress → Given left header new → ((next : Progress) → given ≡ Open next → ⊥) → Heeds (at_header progress header) now now' f' f'' s' s'' (Ok given)
    → Heeds (after_headers first headers) before now' f f'' s s'' (Ok given)
goes_no_further first headers before now now' f f' f'' s s' s'' left new progress given header goes gives not_open one =
    let is = first_of left new header goes.rest goes.sound goes.left_is gives in
    goes.then_all now' f'' s'' (Ok given) (subst (λ (hs : List PlainHeader). Heeds (after_headers progress hs) now now' f' f'' s' s'' (Ok given)) (sym is.rest_is)
    (heeds_stop (at_header progress header) (λ n. after_headers n is.back) given now now' f' f'' s' s'' not_open one))

-- a call of it failed
pub goes_wrong : (first : Progress) (headers : List PlainHeader) (before now now' : Option Contents) (f f' f'' s s' s'' : ℕ) (left new : List ℕ) (progress : Progress) (fault : PortFault) (header : PlainHeader)
    → Goes first headers before now f f' s s' left progress → Given left header new → Heeds (at_header progress header) now now' f' f'' s' s'' (Err fault)
    → Heeds (after_headers first headers) before now' f f'' s s'' (Err fault)
goes_wrong first headers before now now' f f' f'' s s' s'' left new progress fault header goes gives one =
    let is = first_of left new header goes.rest goes.sound goes.left_is gives in
    goes.then_all now' f'' s'' (Err fault) (subst (λ (hs : List PlainHeader). Heeds (after_headers progress hs) now now' f' f'' s' s'' (Err fault)) (sym is.rest_is)
    (heeds_fault (at_header progress header) (λ n. after_headers n is.back) fault now now' f' f'' s' s'' one))

-- no header is left
ends_with : (first : Progress) (headers : List PlainHeader) (before now : Option Contents) (f f' s s' : ℕ) (left : List ℕ) (progress : Progress) (rest : List PlainHeader) → AllByRecursion IsHeader rest → left ≡ headers_octets rest
    → ((content : Option Contents) (f'' s'' : ℕ) (outcome : Result Verdict PortFault) → Heeds (after_headers progress rest) now content f' f'' s' s'' outcome → Heeds (after_headers first headers) before content f f'' s s'' outcome)
    → ((header : PlainHeader) (rest : List ℕ) → IsHeader header → left ≡ header_octets header ++ rest → ⊥) → Heeds (after_headers first headers) before now f f' s s' (Ok (Open progress))
ends_with first headers before now f f' s s' left progress [] sound left_is then_all none = then_all now f' s' (Ok (Open progress)) (heeds_none progress now f' s')
ends_with first headers before now f f' s s' left progress (h ∷ back) sound left_is then_all none = absurd (none h (headers_octets back) sound.0 left_is)

pub goes_to_the_end : (first : Progress) (headers : List PlainHeader) (before now : Option Contents) (f f' s s' : ℕ) (left : List ℕ) (progress : Progress) → Goes first headers before now f f' s s' left progress
    → ((header : PlainHeader) (rest : List ℕ) → IsHeader header → left ≡ header_octets header ++ rest → ⊥) → Heeds (after_headers first headers) before now f f' s s' (Ok (Open progress))
goes_to_the_end first headers before now f f' s s' left progress goes none = ends_with first headers before now f f' s s' left progress goes.rest goes.sound goes.left_is goes.then_all none
