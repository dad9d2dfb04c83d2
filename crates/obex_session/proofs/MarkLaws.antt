-- What headers mark, while the front of them was walked over.
use Rattle.std.proofs.Common.{Bool, true, false, ◌||◌, ◌≡◌, ℕ, List, [], ◌∷◌, ◌++◌, refl, sym, ap, ◌∙◌}
use Rattle.std.specs.List.{AllByRecursion, list_any}
use Rattle.obex_headers.specs.Packets.{PlainHeader, IsHeader, header_octets, headers_octets}
use Rattle.obex_session.specs.declared.marks.Marks.{Marks}
use Rattle.obex_session.specs.Marks.{is_name, is_body, is_single, is_parameters, marks_of}

-- the marks with those of more headers
abbrev pub with_all : Marks → List PlainHeader → Marks
with_all marks rest = record {
  name = marks.name || list_any is_name rest;
  body = marks.body || list_any is_body rest;
  single = marks.single || list_any is_single rest;
  parameters = marks.parameters || list_any is_parameters rest;
}

-- what is left of the headers
pub record Walks (headers : List PlainHeader) (left : List ℕ) (marks : Marks) : Type 0 where
  pub rest : List PlainHeader
  pub sound : AllByRecursion IsHeader rest
  pub left_is : left ≡ headers_octets rest
  pub marks_are : marks_of headers ≡ with_all marks rest

-- the first header that is left is given
abbrev pub GivesFirst : List ℕ → PlainHeader → List ℕ → Type 0
GivesFirst left header new = (first : PlainHeader) (rest : List ℕ) → IsHeader first → left ≡ header_octets first ++ rest → (header ≡ first) × (new ≡ rest)

pub nothing_left : (header : PlainHeader) (new : List ℕ) → [] ≡ header_octets header ++ new → ⊥
nothing_left header new e = cc

or_more : (a b c : Bool) → (a || (b || c)) ≡ ((a || b) || c)
or_more true b c = refl
or_more false b c = refl

or_none : (a : Bool) → (a || false) ≡ a
or_none true = refl
or_none false = refl

abbrev made : Bool → Bool → Bool → Bool → Marks
made n b s p = record { name = n; body = b; single = s; parameters = p }

same_marks : (n n' b b' s s' p p' : Bool) → n ≡ n' → b ≡ b' → s ≡ s' → p ≡ p' → made n b s p ≡ made n' b' s' p'
same_marks n n' b b' s s' p p' e f g h = cc

one_more : (marks : Marks) (h : PlainHeader) (back : List PlainHeader) → with_all marks (h ∷ back)
    ≡ with_all (record { name = marks.name || is_name h; body = marks.body || is_body h; single = marks.single || is_single h; parameters = marks.parameters || is_parameters h }) back
one_more marks h back = same_marks _ _ _ _ _ _ _ _ (or_more marks.name (is_name h) _) (or_more marks.body (is_body h) _) (or_more marks.single (is_single h) _) (or_more marks.parameters (is_parameters h) _)

none_more : (marks : Marks) → with_all marks [] ≡ marks
none_more marks = same_marks _ _ _ _ _ _ _ _ (or_none marks.name) (or_none marks.body) (or_none marks.single) (or_none marks.parameters)

walks_with : (headers : List PlainHeader) (left new : List ℕ) (marks : Marks) (header : PlainHeader) (rest : List PlainHeader) → AllByRecursion IsHeader rest → left ≡ headers_octets rest → marks_of headers ≡ with_all marks rest
    → left ≡ header_octets header ++ new → GivesFirst left header new
    → Walks headers new (record { name = marks.name || is_name header; body = marks.body || is_body header; single = marks.single || is_single header; parameters = marks.parameters || is_parameters header })
walks_with headers left new marks header [] sound left_is marks_are stood gives = absurd (nothing_left header new (sym left_is ∙ stood))
walks_with headers left new marks header (h ∷ back) sound left_is marks_are stood gives =
    let same = gives h (headers_octets back) sound.0 left_is in
    record {
      rest = back;
      sound = sound.1;
      left_is = same.1;
      marks_are = marks_are ∙ one_more marks h back
          ∙ ap (λ (x : PlainHeader). with_all (record { name = marks.name || is_name x; body = marks.body || is_body x; single = marks.single || is_single x; parameters = marks.parameters || is_parameters x }) back) (sym same.0);
    }

pub walks_on : (headers : List PlainHeader) (left new : List ℕ) (marks : Marks) (header : PlainHeader) → Walks headers left marks → left ≡ header_octets header ++ new → GivesFirst left header new
    → Walks headers new (record { name = marks.name || is_name header; body = marks.body || is_body header; single = marks.single || is_single header; parameters = marks.parameters || is_parameters header })
walks_on headers left new marks header w stood gives = walks_with headers left new marks header w.rest w.sound w.left_is w.marks_are stood gives

ends_with : (headers : List PlainHeader) (left : List ℕ) (marks : Marks) (rest : List PlainHeader) → AllByRecursion IsHeader rest → left ≡ headers_octets rest → marks_of headers ≡ with_all marks rest
    → ((header : PlainHeader) (rest : List ℕ) → IsHeader header → left ≡ header_octets header ++ rest → ⊥) → marks ≡ marks_of headers
ends_with headers left marks [] sound left_is marks_are none = sym (marks_are ∙ none_more marks)
ends_with headers left marks (h ∷ back) sound left_is marks_are none = absurd (none h (headers_octets back) sound.0 left_is)

pub walked : (headers : List PlainHeader) (left : List ℕ) (marks : Marks) → Walks headers left marks → ((header : PlainHeader) (rest : List ℕ) → IsHeader header → left ≡ header_octets header ++ rest → ⊥) → marks ≡ marks_of headers
walked headers left marks w none = ends_with headers left marks w.rest w.sound w.left_is w.marks_are none

-- before the first
pub starts : (headers : List PlainHeader) (left : List ℕ) → AllByRecursion IsHeader headers → left ≡ headers_octets headers → Walks headers left (record { name = false; body = false; single = false; parameters = false })
starts headers left sound is = record { rest = headers; sound = sound; left_is = is; marks_are = refl }
