-- Requests out of what stands one behind the other.
use Rattle.std.proofs.Common.{◌≡◌, ℕ, List, Option, Some, refl, sym, ap, ◌∙◌}
use Rattle.sdp_elements.specs.Answers.{Range, Handles, Attributes, Search}
use Rattle.sdp_elements.specs.Exchange.{continuation_in}
use Rattle.sdp_elements.specs.Optional.{◌>>=◌}
use Rattle.sdp_server.specs.Requests.{Request, pattern_at, ranges_at, number_at, handles_request, attributes_request, search_request, least_handles, least_octets}

then_some : {A B : Type 0} (o : Option A) (x : A) (f : A → Option B) (y : Option B) → o ≡ Some x → f x ≡ y → (o >>= f) ≡ y
then_some {A} {B} o x f y e h = ap (λ (p : Option A). p >>= f) e ∙ h

pub handles_found : (parameters r1 r2 : List ℕ) (identifiers : List (List ℕ)) (most : ℕ) (continuation : List ℕ) → pattern_at parameters ≡ Some (identifiers, r1) → Some (most, r2) ≡ number_at 2 least_handles r1
    → Some continuation ≡ continuation_in r2 → handles_request parameters ≡ Some (record { question = Handles identifiers; most = most; continuation = continuation })
handles_found parameters r1 r2 identifiers most continuation p m k =
    let read : Request = record { question = Handles identifiers; most = most; continuation = continuation } in
    let last = λ (c : List ℕ). let r : Request = record { question = Handles identifiers; most = most; continuation = c } in Some r in
    let tail = λ (n : ℕ × List ℕ). continuation_in n.1 >>= λ c. let r : Request = record { question = Handles identifiers; most = n.0; continuation = c } in Some r in
    let all = λ (x : List (List ℕ) × List ℕ). number_at 2 least_handles x.1 >>= λ n. continuation_in n.1 >>= λ c. let r : Request = record { question = Handles x.0; most = n.0; continuation = c } in Some r in
    then_some (pattern_at parameters) (identifiers, r1) all (Some read) p
    (then_some (number_at 2 least_handles r1) (most, r2) tail (Some read) (sym m) (then_some (continuation_in r2) continuation last (Some read) (sym k) refl))

-- the list and the continuation state behind the rest of a request
listed_found : (r2 r3 : List ℕ) (ranges : List Range) (continuation : List ℕ) (made : List Range → List ℕ → Request) → ranges_at r2 ≡ Some (ranges, r3) → Some continuation ≡ continuation_in r3
    → (ranges_at r2 >>= λ l. continuation_in l.1 >>= λ c. Some (made l.0 c)) ≡ Some (made ranges continuation)
listed_found r2 r3 ranges continuation made l k =
    then_some (ranges_at r2) (ranges, r3) (λ x. continuation_in x.1 >>= λ c. Some (made x.0 c)) (Some (made ranges continuation)) l
    (then_some (continuation_in r3) continuation (λ c. Some (made ranges c)) (Some (made ranges continuation)) (sym k) refl)

pub attributes_found : (parameters r1 r2 r3 : List ℕ) (handle most : ℕ) (ranges : List Range) (continuation : List ℕ) → Some (handle, r1) ≡ number_at 4 0 parameters → Some (most, r2) ≡ number_at 2 least_octets r1
    → ranges_at r2 ≡ Some (ranges, r3) → Some continuation ≡ continuation_in r3 → attributes_request parameters ≡ Some (record { question = Attributes handle ranges; most = most; continuation = continuation })
attributes_found parameters r1 r2 r3 handle most ranges continuation h m l k =
    let read : Request = record { question = Attributes handle ranges; most = most; continuation = continuation } in
    let made = λ (a b : ℕ) (x : List Range) (c : List ℕ). let r : Request = record { question = Attributes a x; most = b; continuation = c } in r in
    let tail = λ (n : ℕ × List ℕ). ranges_at n.1 >>= λ x. continuation_in x.1 >>= λ c. Some (made handle n.0 x.0 c) in
    let all = λ (a : ℕ × List ℕ). number_at 2 least_octets a.1 >>= λ n. ranges_at n.1 >>= λ x. continuation_in x.1 >>= λ c. Some (made a.0 n.0 x.0 c) in
    then_some (number_at 4 0 parameters) (handle, r1) all (Some read) (sym h)
    (then_some (number_at 2 least_octets r1) (most, r2) tail (Some read) (sym m) (listed_found r2 r3 ranges continuation (made handle most) l k))

pub search_found : (parameters r1 r2 r3 : List ℕ) (identifiers : List (List ℕ)) (most : ℕ) (ranges : List Range) (continuation : List ℕ) → pattern_at parameters ≡ Some (identifiers, r1) → Some (most, r2) ≡ number_at 2 least_octets r1
    → ranges_at r2 ≡ Some (ranges, r3) → Some continuation ≡ continuation_in r3 → search_request parameters ≡ Some (record { question = Search identifiers ranges; most = most; continuation = continuation })
search_found parameters r1 r2 r3 identifiers most ranges continuation p m l k =
    let read : Request = record { question = Search identifiers ranges; most = most; continuation = continuation } in
    let made = λ (ids : List (List ℕ)) (b : ℕ) (x : List Range) (c : List ℕ). let r : Request = record { question = Search ids x; most = b; continuation = c } in r in
    let tail = λ (n : ℕ × List ℕ). ranges_at n.1 >>= λ x. continuation_in x.1 >>= λ c. Some (made identifiers n.0 x.0 c) in
    let all = λ (a : List (List ℕ) × List ℕ). number_at 2 least_octets a.1 >>= λ n. ranges_at n.1 >>= λ x. continuation_in x.1 >>= λ c. Some (made a.0 n.0 x.0 c) in
    then_some (pattern_at parameters) (identifiers, r1) all (Some read) p
    (then_some (number_at 2 least_octets r1) (most, r2) tail (Some read) (sym m) (listed_found r2 r3 ranges continuation (made identifiers most) l k))
