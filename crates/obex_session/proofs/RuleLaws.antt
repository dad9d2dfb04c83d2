-- What stands after each header is what the rules over a whole run say of the headers so far.
use Rattle.std.proofs.Common.{eqb, ◌||◌, Bool, true, false, cond, ltb, ◌≡◌, ℕ, ◌+◌, ◌≤◌, List, [], ◌∷◌, ◌++◌, length, map, Option, Some, None, refl, sym, ap, subst, ◌∙◌, arith, append_assoc}
use Rattle.std.specs.Prelude.{is_none}
use Rattle.std.specs.List.{filter_map, cons_option, AllByRecursion}
use Rattle.std.proofs.lemmas.Bool.{ltb-false, le-ltb}
use Rattle.std.proofs.lemmas.List.{append-nil, length-append, map-append}
use Rattle.std.proofs.lemmas.List.Elements.{filter_map-append}
use Rattle.std.proofs.lemmas.List.Sums.{take_while-cons}
use Rattle.std.proofs.lemmas.Grind.{flat_map-append}
use Rattle.bt_base.specs.Objects.{Object, Contents}
use Rattle.obex_headers.specs.declared.codes.Code.TheVariants.{TooLarge, BadRequest}
use Rattle.obex_headers.specs.Packets.{PlainValue, Text, Octets, One, Four, PlainHeader, units_of}
use Rattle.obex_headers.specs.Runs.{text_in, octets_in, name_text, body_of, names, bodies, ahead_of_name, joined, KeepsRules}
use Rattle.obex_headers.proofs.RunLaws.{rules_front}
use Rattle.obex_session.specs.declared.course.Progress.{Progress}
use Rattle.obex_session.specs.declared.course.Progress.TheVariants.{Unnamed, Named, Filled}
use Rattle.obex_session.specs.declared.course.Verdict.{Verdict}
use Rattle.obex_session.specs.declared.course.Verdict.TheVariants.{Open, Whole, Ended, PassedOver}
use Rattle.obex_session.specs.InboxCalls.{InboxCall, Begin, Append, Abort, all_done}
use Rattle.obex_session.specs.Rules.{Ruling, opens, ends, at_name, at_body, at_parts, at_header, after_headers, then_on}
use Rattle.obex_session.specs.Past.{progress_from, progress_of, pending_from, pending_of}
use Rattle.obex_session.proofs.HeedingLaws.{all_done-append}

-- ---- one header more

-- a Name is no body
name_is_no_body_at : (a b : Bool) (value : PlainValue) (text : List ℕ) → cond a (text_in value) None ≡ Some text → cond b (octets_in value) None ≡ None
name_is_no_body_at a true (Text octets) text e = refl
name_is_no_body_at a false value text e = refl
name_is_no_body_at true true (Octets octets) text e = absurd cc
name_is_no_body_at false true (Octets octets) text e = absurd cc
name_is_no_body_at a true (One octet) text e = refl
name_is_no_body_at a true (Four number) text e = refl

names-append : (a b : List PlainHeader) → names (a ++ b) ≡ names a ++ names b
names-append a b = ap (map units_of) (filter_map-append name_text a b) ∙ map-append units_of (filter_map name_text a) (filter_map name_text b)

bodies-append : (a b : List PlainHeader) → bodies (a ++ b) ≡ bodies a ++ bodies b
bodies-append a b = filter_map-append body_of a b

joined-append : (a b : List (List ℕ)) → joined (a ++ b) ≡ joined a ++ joined b
joined-append a b = flat_map-append (λ part. part) a b

one_name : (name : Option (List ℕ)) (header : PlainHeader) → name_text header ≡ name → names (header ∷ []) ≡ map units_of (cons_option name [])
one_name name header e = ap (λ (o : Option (List ℕ)). map units_of (cons_option o [])) e

one_body : (body : Option (List ℕ)) (header : PlainHeader) → body_of header ≡ body → bodies (header ∷ []) ≡ cons_option body []
one_body body header e = ap (λ (o : Option (List ℕ)). cons_option o []) e

names-more : (headers : List PlainHeader) (header : PlainHeader) (ns : List (List ℕ)) (name : Option (List ℕ)) → names headers ≡ ns → name_text header ≡ name → names (headers ++ header ∷ []) ≡ ns ++ map units_of (cons_option name [])
names-more headers header ns name n e = names-append headers (header ∷ []) ∙ ap (λ (xs : List (List ℕ)). names headers ++ xs) (one_name name header e) ∙ ap (λ (xs : List (List ℕ)). xs ++ map units_of (cons_option name [])) n

bodies-more : (headers : List PlainHeader) (header : PlainHeader) (bs : List (List ℕ)) (body : Option (List ℕ)) → bodies headers ≡ bs → body_of header ≡ body → bodies (headers ++ header ∷ []) ≡ bs ++ cons_option body []
bodies-more headers header bs body b e = bodies-append headers (header ∷ []) ∙ ap (λ (xs : List (List ℕ)). bodies headers ++ xs) (one_body body header e) ∙ ap (λ (xs : List (List ℕ)). xs ++ cons_option body []) b

-- ---- the headers ahead of the Name

ahead-cons : (h : PlainHeader) (hs : List PlainHeader) → ahead_of_name (h ∷ hs) ≡ cond (is_none (name_text h)) (h ∷ ahead_of_name hs) []
ahead-cons h hs = take_while-cons (λ header. is_none (name_text header)) h hs

ahead-passed : (h : PlainHeader) (hs : List PlainHeader) → name_text h ≡ None → ahead_of_name (h ∷ hs) ≡ h ∷ ahead_of_name hs
ahead-passed h hs e = ahead-cons h hs ∙ ap (λ (o : Option (List ℕ)). cond (is_none o) (h ∷ ahead_of_name hs) []) e

ahead-stopped : (h : PlainHeader) (hs : List PlainHeader) (text : List ℕ) → name_text h ≡ Some text → ahead_of_name (h ∷ hs) ≡ []
ahead-stopped h hs text e = ahead-cons h hs ∙ ap (λ (o : Option (List ℕ)). cond (is_none o) (h ∷ ahead_of_name hs) []) e

-- without a Name all headers are ahead of it
ahead-unnamed-at : (name : Option (List ℕ)) (h : PlainHeader) (hs more : List PlainHeader) → name_text h ≡ name → names (h ∷ hs) ≡ [] → (names hs ≡ [] → ahead_of_name (hs ++ more) ≡ hs ++ ahead_of_name more)
    → ahead_of_name (h ∷ (hs ++ more)) ≡ h ∷ (hs ++ ahead_of_name more)
ahead-unnamed-at (Some text) h hs more e none ih = let there : units_of text ∷ names hs ≡ [] = sym (ap (λ (o : Option (List ℕ)). map units_of (cons_option o (filter_map name_text hs))) e) ∙ none in absurd cc
ahead-unnamed-at None h hs more e none ih =
    ahead-passed h (hs ++ more) e ∙ ap (λ (xs : List PlainHeader). h ∷ xs) (ih (sym (ap (λ (o : Option (List ℕ)). map units_of (cons_option o (filter_map name_text hs))) e) ∙ none))

ahead-unnamed : (headers more : List PlainHeader) → names headers ≡ [] → ahead_of_name (headers ++ more) ≡ headers ++ ahead_of_name more
ahead-unnamed [] more none = refl
ahead-unnamed (h ∷ hs) more none = ahead-unnamed-at (name_text h) h hs more refl none (ahead-unnamed hs more)

-- behind a Name nothing is ahead of it
ahead-named-at : (name : Option (List ℕ)) (h : PlainHeader) (hs more : List PlainHeader) (first : List ℕ) (ns : List (List ℕ)) → name_text h ≡ name → names (h ∷ hs) ≡ first ∷ ns
    → (names hs ≡ first ∷ ns → ahead_of_name (hs ++ more) ≡ ahead_of_name hs) → ahead_of_name (h ∷ (hs ++ more)) ≡ ahead_of_name (h ∷ hs)
ahead-named-at (Some text) h hs more first ns e some ih = ahead-stopped h (hs ++ more) text e ∙ sym (ahead-stopped h hs text e)
ahead-named-at None h hs more first ns e some ih =
    ahead-passed h (hs ++ more) e ∙ ap (λ (xs : List PlainHeader). h ∷ xs) (ih (sym (ap (λ (o : Option (List ℕ)). map units_of (cons_option o (filter_map name_text hs))) e) ∙ some)) ∙ sym (ahead-passed h hs e)

ahead-named : (headers more : List PlainHeader) (first : List ℕ) (ns : List (List ℕ)) → names headers ≡ first ∷ ns → ahead_of_name (headers ++ more) ≡ ahead_of_name headers
ahead-named [] more first ns some = absurd cc
ahead-named (h ∷ hs) more first ns some = ahead-named-at (name_text h) h hs more first ns refl some (ahead-named hs more first ns)

-- ---- the rules, by what the headers have

keeps_by : (headers : List PlainHeader) (ns bs : List (List ℕ)) → names headers ≡ ns → bodies headers ≡ bs → bodies (ahead_of_name headers) ≡ [] → length ns ≤ 1 → AllByRecursion (λ name. length name ≤ 255) ns → length (joined bs) ≤ 16777215
    → KeepsRules headers
keeps_by headers ns bs n b ahead one short bound = record {
  one_name = subst (λ (xs : List (List ℕ)). length xs ≤ 1) (sym n) one;
  short_name = subst (AllByRecursion (λ name. length name ≤ 255)) (sym n) short;
  name_first = ahead;
  bounded = subst (λ (xs : List (List ℕ)). length (joined xs) ≤ 16777215) (sym b) bound;
}

-- what is known of headers that keep the rules
pub record Kept (headers : List PlainHeader) (ns bs : List (List ℕ)) : Type 0 where
  pub keeps : KeepsRules headers
  pub names_are : names headers ≡ ns
  pub bodies_are : bodies headers ≡ bs

-- without a Name there is no body
no_body : (headers : List PlainHeader) (bs : List (List ℕ)) → Kept headers [] bs → bs ≡ []
no_body headers bs k =
    sym k.bodies_are ∙ ap bodies (sym (append-nil headers)) ∙ ap bodies (sym (ahead-unnamed headers [] k.names_are)) ∙ ap (λ (hs : List PlainHeader). bodies (ahead_of_name hs)) (append-nil headers) ∙ k.keeps.name_first

-- ---- a verdict, and the headers that it is about

pub record Stands (headers : List PlainHeader) (progress : Progress) (stored : List Object) (contents : Contents) : Type 0 where
  pub keeps : KeepsRules headers
  pub progress_is : progress ≡ progress_of headers
  pub contents_are : contents ≡ record { stored = stored; pending = pending_of headers }

-- an object goes on where the rules are kept, and ends where one is broken
abbrev pub Follows : List PlainHeader → Verdict → List Object → Contents → Type 0
Follows headers (Open progress) stored contents = Stands headers progress stored contents
Follows headers Whole stored contents = ⊥
Follows headers (Ended code) stored contents = (KeepsRules headers → ⊥) × (contents ≡ record { stored = stored; pending = None })
Follows headers (PassedOver final) stored contents = ⊥

-- the same of a ruling, over an inbox that held this before its calls
abbrev pub FollowsBy : List PlainHeader → Ruling → List Object → Contents → Type 0
FollowsBy headers ruling stored contents = Follows headers ruling.verdict stored (all_done ruling.calls contents)

-- ---- a header that is no Name and no body

-- one name or none, and one body or none, more
more_kept : (headers : List PlainHeader) (header : PlainHeader) (ns bs : List (List ℕ)) (name body : Option (List ℕ)) → Kept headers ns bs → name_text header ≡ name → body_of header ≡ body
    → bodies (ahead_of_name (headers ++ header ∷ [])) ≡ [] → length (ns ++ map units_of (cons_option name [])) ≤ 1 → AllByRecursion (λ n. length n ≤ 255) (ns ++ map units_of (cons_option name []))
    → length (joined (bs ++ cons_option body [])) ≤ 16777215 → Kept (headers ++ header ∷ []) (ns ++ map units_of (cons_option name [])) (bs ++ cons_option body [])
more_kept headers header ns bs name body k n b ahead one short bound =
    let names_are = names-more headers header ns name k.names_are n in
    let bodies_are = bodies-more headers header bs body k.bodies_are b in
    record { keeps = keeps_by (headers ++ header ∷ []) _ _ names_are bodies_are ahead one short bound; names_are = names_are; bodies_are = bodies_are }

one_of : (headers : List PlainHeader) (ns bs : List (List ℕ)) → Kept headers ns bs → length ns ≤ 1
one_of headers ns bs k = subst (λ (xs : List (List ℕ)). length xs ≤ 1) k.names_are k.keeps.one_name

short_of : (headers : List PlainHeader) (ns bs : List (List ℕ)) → Kept headers ns bs → AllByRecursion (λ n. length n ≤ 255) ns
short_of headers ns bs k = subst (AllByRecursion (λ n. length n ≤ 255)) k.names_are k.keeps.short_name

bound_of : (headers : List PlainHeader) (ns bs : List (List ℕ)) → Kept headers ns bs → length (joined bs) ≤ 16777215
bound_of headers ns bs k = subst (λ (xs : List (List ℕ)). length (joined xs) ≤ 16777215) k.bodies_are k.keeps.bounded

-- the headers ahead of a Name, with one more behind
ahead_more : (headers : List PlainHeader) (header : PlainHeader) (ns bs : List (List ℕ)) (name : Option (List ℕ)) → Kept headers ns bs → name_text header ≡ name → (names headers ≡ [] → name ≡ None → body_of header ≡ None)
    → bodies (ahead_of_name (headers ++ header ∷ [])) ≡ []
ahead_more headers header [] bs (Some text) k n b =
    ap bodies (ahead-unnamed headers (header ∷ []) k.names_are ∙ ap (λ (hs : List PlainHeader). headers ++ hs) (ahead-stopped header [] text n) ∙ append-nil headers) ∙ k.bodies_are ∙ no_body headers bs k
ahead_more headers header [] bs None k n b =
    ap bodies (ahead-unnamed headers (header ∷ []) k.names_are ∙ ap (λ (hs : List PlainHeader). headers ++ hs) (ahead-passed header [] n))
    ∙ bodies-more headers header bs None k.bodies_are (b k.names_are refl) ∙ append-nil bs ∙ no_body headers bs k
ahead_more headers header (first ∷ ns) bs name k n b = ap bodies (ahead-named headers (header ∷ []) first ns k.names_are) ∙ k.keeps.name_first

-- the object of names and bodies
abbrev made_of : List (List ℕ) → List (List ℕ) → Object
made_of ns bs = record { name = joined ns; octets = joined bs }

stands_by : (headers : List PlainHeader) (ns bs : List (List ℕ)) (progress : Progress) (stored : List Object) (contents : Contents) → Kept headers ns bs → progress ≡ progress_from ns bs
    → contents ≡ record { stored = stored; pending = pending_from ns (made_of ns bs) } → Stands headers progress stored contents
stands_by headers ns bs progress stored contents k p c = record {
  keeps = k.keeps;
  progress_is = p ∙ ap (λ (xs : List (List ℕ)). progress_from xs bs) (sym k.names_are) ∙ ap (λ (xs : List (List ℕ)). progress_from (names headers) xs) (sym k.bodies_are);
  contents_are = c ∙ ap (λ (xs : List (List ℕ)). record { stored = stored; pending = pending_from xs (made_of xs bs) }) (sym k.names_are)
      ∙ ap (λ (xs : List (List ℕ)). record { stored = stored; pending = pending_from (names headers) (made_of (names headers) xs) }) (sym k.bodies_are);
}

-- ---- the first Name

first_name_at : (long : Bool) (headers : List PlainHeader) (header : PlainHeader) (bs : List (List ℕ)) (text : List ℕ) (stored : List Object) → Kept headers [] bs → name_text header ≡ Some text → body_of header ≡ None
    → ltb 255 (length (units_of text)) ≡ long
    → FollowsBy (headers ++ header ∷ []) (cond long (ends Unnamed TooLarge) (opens (Begin (units_of text) ∷ []) Named)) stored (record { stored = stored; pending = None })
first_name_at true headers header bs text stored k n b e = (
  λ keeps.
      let short = subst (AllByRecursion (λ name. length name ≤ 255)) (names-more headers header [] (Some text) k.names_are n) keeps.short_name in
      let no : true ≡ false = sym e ∙ le-ltb 255 (length (units_of text)) short.0 in
      absurd cc,
  refl,
)
first_name_at false headers header bs text stored k n b e =
    let none : bs ++ cons_option None [] ≡ [] = append-nil bs ∙ no_body headers bs k in
    let kept : Kept (headers ++ header ∷ []) (units_of text ∷ []) (bs ++ cons_option None []) = more_kept headers header [] bs (Some text) None k n b (ahead_more headers header [] bs (Some text) k n (λ z w. b)) (omega arith) (ltb-false 255 (length (units_of text)) e, tt)
    (subst (λ (xs : List (List ℕ)). length (joined xs) ≤ 16777215) (sym none) (omega arith)) in
    let kept' : Kept (headers ++ header ∷ []) (units_of text ∷ []) [] = subst (Kept (headers ++ header ∷ []) (units_of text ∷ [])) none kept in
    stands_by (headers ++ header ∷ []) (units_of text ∷ []) [] Named stored _ kept' refl (ap (λ (name : List ℕ). record { stored = stored; pending = Some (record { name = name; octets = [] }) }) (sym (append-nil (units_of text))))

-- ---- a second Name

second_name : (headers : List PlainHeader) (header : PlainHeader) (first : List ℕ) (ns bs : List (List ℕ)) (text : List ℕ) → Kept headers (first ∷ ns) bs → name_text header ≡ Some text → KeepsRules (headers ++ header ∷ []) → ⊥
second_name headers header first ns bs text k n keeps =
    let one : length ((first ∷ ns) ++ units_of text ∷ []) ≤ 1 = subst (λ (xs : List (List ℕ)). length xs ≤ 1) (names-more headers header (first ∷ ns) (Some text) k.names_are n) keeps.one_name in
    let len = length-append ns (units_of text ∷ []) in
    omega (arith, one, len)

abbrev aborting : Ruling
aborting = record { calls = Abort ∷ []; verdict = Ended BadRequest }

at_second : (first : List ℕ) (ns bs : List (List ℕ)) (units : List ℕ) → at_name (progress_from (first ∷ ns) bs) units ≡ aborting
at_second first ns [] units = refl
at_second first ns (b ∷ bs) units = refl

-- ---- a body without a Name

early_body : (headers : List PlainHeader) (header : PlainHeader) (bs : List (List ℕ)) (octets : List ℕ) → Kept headers [] bs → name_text header ≡ None → body_of header ≡ Some octets → KeepsRules (headers ++ header ∷ []) → ⊥
early_body headers header bs octets k n b keeps =
    let ahead = ap bodies (ahead-unnamed headers (header ∷ []) k.names_are ∙ ap (λ (hs : List PlainHeader). headers ++ hs) (ahead-passed header [] n)) ∙ bodies-more headers header bs (Some octets) k.bodies_are b in
    let there : octets ∷ [] ≡ [] = ap (λ (xs : List (List ℕ)). xs ++ octets ∷ []) (sym (no_body headers bs k)) ∙ sym ahead ∙ keeps.name_first in
    absurd cc

-- ---- a body

joined-more : (bs : List (List ℕ)) (octets : List ℕ) → joined (bs ++ octets ∷ []) ≡ joined bs ++ octets
joined-more bs octets = joined-append bs (octets ∷ []) ∙ ap (λ (xs : List ℕ). joined bs ++ xs) (append-nil octets)

length-more : (bs : List (List ℕ)) (octets : List ℕ) → length (joined (bs ++ octets ∷ [])) ≡ length (joined bs) + length octets
length-more bs octets = ap length (joined-more bs octets) ∙ length-append (joined bs) octets

-- a piece more, or too many octets; what is under way is aborted either way
abbrev in_all : ℕ → List ℕ → Ruling
in_all total octets = cond (ltb 16777215 total) (record { calls = Abort ∷ []; verdict = Ended TooLarge }) (opens (Append octets ∷ []) (Filled total))

at_more : (first : List ℕ) (ns bs : List (List ℕ)) (octets : List ℕ) → at_body (progress_from (first ∷ ns) bs) octets ≡ in_all (length (joined (bs ++ octets ∷ []))) octets
at_more first ns [] octets = ap (λ (n : ℕ). in_all n octets) (sym (ap length (append-nil octets)))
at_more first ns (b ∷ bs) octets = ap (λ (n : ℕ). in_all n octets) (sym (length-more (b ∷ bs) octets))

filled_from : (first : List ℕ) (ns bs : List (List ℕ)) (octets : List ℕ) → Filled (length (joined (bs ++ octets ∷ []))) ≡ progress_from (first ∷ ns) (bs ++ octets ∷ [])
filled_from first ns [] octets = refl
filled_from first ns (b ∷ bs) octets = refl

body_at : (over : Bool) (headers : List PlainHeader) (header : PlainHeader) (first : List ℕ) (ns bs : List (List ℕ)) (octets : List ℕ) (stored : List Object) → Kept headers (first ∷ ns) bs → name_text header ≡ None → body_of header ≡ Some octets
    → ltb 16777215 (length (joined (bs ++ octets ∷ []))) ≡ over
    → FollowsBy (headers ++ header ∷ []) (cond over (record { calls = Abort ∷ []; verdict = Ended TooLarge }) (opens (Append octets ∷ []) (Filled (length (joined (bs ++ octets ∷ [])))))) stored
    (record { stored = stored; pending = Some (made_of (first ∷ ns) bs) })
body_at true headers header first ns bs octets stored k n b e = (
  λ keeps.
      let bound = subst (λ (xs : List (List ℕ)). length (joined xs) ≤ 16777215) (bodies-more headers header bs (Some octets) k.bodies_are b) keeps.bounded in
      let no : true ≡ false = sym e ∙ le-ltb 16777215 _ bound in
      absurd cc,
  refl,
)
body_at false headers header first ns bs octets stored k n b e =
    let same : (first ∷ ns) ++ map units_of (cons_option None []) ≡ first ∷ ns = append-nil (first ∷ ns) in
    let unnamed : names headers ≡ [] → body_of header ≡ None = λ z. let no : first ∷ ns ≡ [] = sym k.names_are ∙ z in absurd cc in
    let kept : Kept (headers ++ header ∷ []) ((first ∷ ns) ++ map units_of (cons_option None [])) (bs ++ octets ∷ []) = more_kept headers header (first ∷ ns) bs None (Some octets) k n b (ahead_more headers header (first ∷ ns) bs None k n (λ z w. unnamed z))
    (subst (λ (xs : List (List ℕ)). length xs ≤ 1) (sym same) (one_of headers (first ∷ ns) bs k)) (subst (AllByRecursion (λ name. length name ≤ 255)) (sym same) (short_of headers (first ∷ ns) bs k)) (ltb-false 16777215 _ e) in
    stands_by (headers ++ header ∷ []) (first ∷ ns) (bs ++ octets ∷ []) _ stored _ (subst (λ (xs : List (List ℕ)). Kept (headers ++ header ∷ []) xs (bs ++ octets ∷ [])) same kept) (filled_from first ns bs octets)
    (ap (λ (xs : List ℕ). record { stored = stored; pending = Some (record { name = joined (first ∷ ns); octets = xs }) }) (sym (joined-more bs octets)))

-- ---- another header

other_kept : (headers : List PlainHeader) (header : PlainHeader) (ns bs : List (List ℕ)) → Kept headers ns bs → name_text header ≡ None → body_of header ≡ None → Kept (headers ++ header ∷ []) ns bs
other_kept headers header ns bs k n b =
    let names_are : names (headers ++ header ∷ []) ≡ ns = names-more headers header ns None k.names_are n ∙ append-nil ns in
    let bodies_are : bodies (headers ++ header ∷ []) ≡ bs = bodies-more headers header bs None k.bodies_are b ∙ append-nil bs in
    record {
      keeps = keeps_by (headers ++ header ∷ []) ns bs names_are bodies_are (ahead_more headers header ns bs None k n (λ z w. b)) (one_of headers ns bs k) (short_of headers ns bs k) (bound_of headers ns bs k);
      names_are = names_are;
      bodies_are = bodies_are;
    }

-- ---- any header

step_at : (headers : List PlainHeader) (header : PlainHeader) (ns bs : List (List ℕ)) (name body : Option (List ℕ)) (stored : List Object) → Kept headers ns bs → name_text header ≡ name → body_of header ≡ body
    → (((text : List ℕ) → name ≡ Some text → body_of header ≡ None))
    → FollowsBy (headers ++ header ∷ []) (at_parts (progress_from ns bs) name body) stored (record { stored = stored; pending = pending_from ns (made_of ns bs) })
step_at headers header [] bs (Some text) body stored k n b alone = first_name_at (ltb 255 (length (units_of text))) headers header bs text stored k n (alone text refl) refl
step_at headers header [] bs None (Some octets) stored k n b alone = (early_body headers header bs octets k n b, refl)
step_at headers header [] bs None None stored k n b alone = stands_by (headers ++ header ∷ []) [] bs Unnamed stored _ (other_kept headers header [] bs k n b) refl refl
step_at headers header (first ∷ ns) bs (Some text) body stored k n b alone =
    subst (λ (r : Ruling). FollowsBy (headers ++ header ∷ []) r stored (record { stored = stored; pending = pending_from (first ∷ ns) (made_of (first ∷ ns) bs) })) (sym (at_second first ns bs (units_of text)))
    (second_name headers header first ns bs text k n, refl)
step_at headers header (first ∷ ns) bs None (Some octets) stored k n b alone =
    subst (λ (r : Ruling). FollowsBy (headers ++ header ∷ []) r stored (record { stored = stored; pending = pending_from (first ∷ ns) (made_of (first ∷ ns) bs) })) (sym (at_more first ns bs octets))
    (body_at (ltb 16777215 (length (joined (bs ++ octets ∷ [])))) headers header first ns bs octets stored k n b refl)
step_at headers header (first ∷ ns) bs None None stored k n b alone = stands_by (headers ++ header ∷ []) (first ∷ ns) bs (progress_from (first ∷ ns) bs) stored _ (other_kept headers header (first ∷ ns) bs k n b) refl refl

-- an inbox with the object of these headers under way
abbrev pub held : List Object → List PlainHeader → Contents
held stored headers = record { stored = stored; pending = pending_of headers }

pub step : (headers : List PlainHeader) (header : PlainHeader) (stored : List Object) → KeepsRules headers → FollowsBy (headers ++ header ∷ []) (at_header (progress_of headers) header) stored (held stored headers)
step headers header stored keeps = step_at headers header (names headers) (bodies headers) (name_text header) (body_of header) stored (record { keeps = keeps; names_are = refl; bodies_are = refl }) refl refl
    (λ text e. name_is_no_body_at (eqb header.id 0x01) (eqb header.id 0x48 || eqb header.id 0x49) header.value text e)

-- ---- all headers of a packet

then_follows : (headers : List PlainHeader) (header : PlainHeader) (back : List PlainHeader) (stored : List Object) (calls : List InboxCall) (verdict : Verdict) (contents : Contents)
    → Follows (headers ++ header ∷ []) verdict stored (all_done calls contents)
    → (KeepsRules (headers ++ header ∷ []) → FollowsBy ((headers ++ header ∷ []) ++ back) (after_headers (progress_of (headers ++ header ∷ [])) back) stored (held stored (headers ++ header ∷ [])))
    → FollowsBy (headers ++ header ∷ back) (then_on calls verdict (λ next. after_headers next back)) stored contents
then_follows headers header back stored calls (Open progress) contents f ih =
    subst (λ (hs : List PlainHeader). Follows hs (after_headers progress back).verdict stored (all_done (calls ++ (after_headers progress back).calls) contents)) (append_assoc headers (header ∷ []) back)
    (subst (λ (c : Contents). Follows ((headers ++ header ∷ []) ++ back) (after_headers progress back).verdict stored c) (sym (all_done-append calls (after_headers progress back).calls contents))
    (subst (λ (p : Progress). FollowsBy ((headers ++ header ∷ []) ++ back) (after_headers p back) stored (all_done calls contents)) (sym f.progress_is)
    (subst (λ (c : Contents). FollowsBy ((headers ++ header ∷ []) ++ back) (after_headers (progress_of (headers ++ header ∷ [])) back) stored c) (sym f.contents_are) (ih f.keeps))))
then_follows headers header back stored calls Whole contents f ih = absurd f
then_follows headers header back stored calls (Ended code) contents f ih = (λ keeps. f.0 (rules_front (headers ++ header ∷ []) back (subst KeepsRules (sym (append_assoc headers (header ∷ []) back)) keeps)), f.1)
then_follows headers header back stored calls (PassedOver final) contents f ih = absurd f

pub follows : (headers more : List PlainHeader) (stored : List Object) → KeepsRules headers → FollowsBy (headers ++ more) (after_headers (progress_of headers) more) stored (held stored headers)
follows headers [] stored keeps = subst (λ (hs : List PlainHeader). Follows hs (Open (progress_of headers)) stored (held stored headers)) (sym (append-nil headers)) (record { keeps = keeps; progress_is = refl; contents_are = refl })
follows headers (header ∷ back) stored keeps =
    then_follows headers header back stored (at_header (progress_of headers) header).calls (at_header (progress_of headers) header).verdict (held stored headers) (step headers header stored keeps) (λ kept. follows (headers ++ header ∷ []) back stored kept)
