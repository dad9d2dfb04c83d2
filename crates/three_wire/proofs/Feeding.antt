-- How the units of a source go on.
use Rattle.std.proofs.Common.{◌≡◌, ◌≢◌, ◌⊎◌, ℕ, ◌+◌, ◌-◌, ◌<◌, ◌≤◌, List, [], ◌∷◌, ◌++◌, length, take, drop, Option, None, Some, IfSome, MatchOption, Result, Ok, Err, Bool, ltb, zero, suc, is_err, true, false, refl, sym, ap, subst, ◌∙◌, append_assoc, arith, length-append, inl, inr}
use Rattle.std.specs.Option.{option_map}
use Rattle.std.proofs.lemmas.Bool.{lt-ltb}
use Rattle.std.proofs.lemmas.List.{take-append-drop, append-nil, drop-drop, length-take, length-drop, drop-take, nil_from_length}
use Rattle.h4_framing.specs.declared.refusal.H4Refusal.{H4Refusal}
use Rattle.h4_framing.specs.declared.refusal.H4Refusal.TheVariants.{Truncated, BadIndicator, AclTooLong}
use Rattle.h4_framing.specs.declared.unit.Unit.{Unit as Lent}
use Rattle.h4_framing.specs.declared.framer.Taken.TheVariants as taken
use Rattle.h4_framing.specs.Packets.{Packet, Command, Acl, Sync, Event, packet, spelling, spellings, IsPacket}
use Rattle.h4_framing.specs.Stream.{Whole, Cut, Fault, Reads, IsUnfinished}
use Rattle.h4_framing.specs.Framing.{Framing, counted}
use Rattle.h4_framing.specs.Taking.{Takes, EndsWith}
use Rattle.h4_framing.specs.Accounts.{Accounts}
use Rattle.h4_framing.proofs.AccountLemmas.{new_accounts, taking_accounts, end_accounts, fault_more}
use Rattle.h4_framing.proofs.FaultLemmas.{fault_first}
use Rattle.three_wire.specs.declared.feed.Feed.{Feed}
use Rattle.three_wire.specs.Feeding.{input_limit, acl_limit, pending, HasShape, IsFeeding, IsAll, IsFront, StopsAt, ReadsMore, IsPortFault}
use Rattle.three_wire.specs.declared.fault.CarryFault.{CarryFault}
use Rattle.three_wire.specs.declared.fault.CarryFault.TheVariants as fault

-- the octets of a unit fit the room for one
pub unit_bound : (p : Packet) → IsPacket acl_limit p → length (spelling p) ≤ 4096
unit_bound (Command opcode params) is = omega (arith, is.1)
unit_bound (Acl word octets) is = omega (arith, is.2)
unit_bound (Sync word octets) is = omega (arith, is.1)
unit_bound (Event code params) is = omega (arith, is.1)

-- each unit has an octet
pub some_octet : (p : Packet) → 1 ≤ length (spelling p)
some_octet (Command opcode params) = omega arith
some_octet (Acl word octets) = omega arith
some_octet (Sync word octets) = omega arith
some_octet (Event code params) = omega arith

pub packets_few : (ps : List Packet) → length ps ≤ length (spellings ps)
packets_few [] = omega arith
packets_few (p ∷ ps) = let here = some_octet p in let rest = packets_few ps in simp length-append (omega (arith, here, rest))

-- what is pending behind some of it
pending_more : (at end n : ℕ) (xs : List ℕ) → at + n ≤ end → take (end - (at + n)) (drop (at + n) xs) ≡ drop n (take (end - at) (drop at xs))
pending_more at end n xs le =
    let k : end - at ≡ n + (end - (at + n)) = omega arith in
    ap (take (end - (at + n))) (sym (drop-drop n at xs)) ∙ sym (drop-take n (end - (at + n)) (drop at xs)) ∙ ap (λ (m : ℕ). drop n (take m (drop at xs))) (sym k)

pending_length : (feed : Feed) → HasShape feed → length (pending feed) ≡ feed.end - feed.at
pending_length feed shape = omega (arith, length-take (feed.end - feed.at) (drop feed.at feed.piece.items), length-drop feed.at feed.piece.items, shape.piece, shape.fits, shape.within, feed.piece.ok.0)

abbrev KeptBy : List ℕ → List Packet → Framing → Option (H4Refusal × ℕ) → Type 0
KeptBy used ps f fault = MatchOption fault ((used ≡ spellings ps ++ f.held) × IsUnfinished f.limit f.held × (f.before ≡ counted 0 (length (spellings ps))))
    (λ fault. (place : ℕ) × Reads f.limit used ps (Fault fault.0 place) × (fault.1 ≡ counted 0 place))

kept_none : (used : List ℕ) (ps : List Packet) (f : Framing) → Accounts used ps f → f.fault ≡ None → (used ≡ spellings ps ++ f.held) × IsUnfinished f.limit f.held × (f.before ≡ counted 0 (length (spellings ps)))
kept_none used ps f a sound = subst (KeptBy used ps f) sound a.kept

packets_within : (used : List ℕ) (ps : List Packet) (f : Framing) → Accounts used ps f → f.fault ≡ None → length ps ≤ length used
packets_within used ps f a sound = let k = kept_none used ps f a sound in omega (arith, ap length k.0, length-append (spellings ps) f.held, packets_few ps)

told_more : (input left : Option (List ℕ)) (used front behind both : List ℕ) → both ≡ front ++ behind → input ≡ option_map (λ rest. used ++ (both ++ rest)) left → input ≡ option_map (λ rest. (used ++ front) ++ (behind ++ rest)) left
told_more input None used front behind both parts told = told
told_more input (Some rest) used front behind both parts told =
    told ∙ ap (λ (b : List ℕ). Some (used ++ (b ++ rest))) parts ∙ ap (λ (t : List ℕ). Some (used ++ t)) (append_assoc front behind rest) ∙ ap Some (sym (append_assoc used front (behind ++ rest)))

-- a unit was taken
pub fed_whole : (input left : Option (List ℕ)) (feed feed' : Feed) (packets : List Packet) (unit : Lent) (n : ℕ) → HasShape feed → IsFeeding input left feed packets → Takes feed.framer (pending feed) (taken.Whole unit n) feed'.framer
    → feed'.piece.items ≡ feed.piece.items → feed'.at ≡ feed.at + n → feed'.end ≡ feed.end → feed'.fed ≡ feed.fed
    → IsFeeding input left feed' (packets ++ packet unit ∷ []) × IsPacket acl_limit (packet unit) × (feed'.framer.limit ≡ acl_limit) × (feed'.at ≤ feed'.end)
fed_whole input left feed feed' packets unit n shape f t piece at end fed =
    let long = pending_length feed shape in
    let le : feed.at + n ≤ feed.end = omega (arith, t.3, long, shape.within) in
    let behind : pending feed' ≡ drop n (pending feed) =
    ap (λ (k : ℕ). take (feed'.end - k) (drop k feed'.piece.items)) at ∙ ap (λ (e : ℕ). take (e - (feed.at + n)) (drop (feed.at + n) feed'.piece.items)) end
    ∙ ap (λ (xs : List ℕ). take (feed.end - (feed.at + n)) (drop (feed.at + n) xs)) piece ∙ pending_more feed.at feed.end n feed.piece.items le in
    let accounts = taking_accounts f.used (pending feed) packets feed.framer feed'.framer (taken.Whole unit n) f.accounts t in
    let parts : pending feed ≡ take n (pending feed) ++ pending feed' = sym (take-append-drop n (pending feed)) ∙ ap (λ xs. take n (pending feed) ++ xs) (sym behind) in
    let more = length-append f.used (take n (pending feed)) in
    let split = ap length parts ∙ length-append (take n (pending feed)) (pending feed') in
    let sound : feed'.framer.fault ≡ None = ap (λ (g : Framing). g.fault) t.5 ∙ f.sound in
    let limit : feed'.framer.limit ≡ acl_limit = ap (λ (g : Framing). g.limit) t.5 ∙ f.limit in (
      record {
        used = f.used ++ take n (pending feed);
        accounts = accounts;
        sound = sound;
        limit = limit;
        told = told_more input left f.used (take n (pending feed)) (pending feed') (pending feed) parts f.told;
        count = omega (arith, fed, f.count, more, split);
        within = omega (arith, fed, f.within);
      },
      subst (λ (l : ℕ). IsPacket l (packet unit)) f.limit t.1,
      limit,
      omega (arith, at, end, le),
    )

-- all was taken, and no unit is whole
pub fed_more : (input left : Option (List ℕ)) (feed feed' : Feed) (packets : List Packet) → HasShape feed → IsFeeding input left feed packets → Takes feed.framer (pending feed) taken.More feed'.framer
    → feed'.piece.items ≡ feed.piece.items → feed'.at ≡ feed.end → feed'.end ≡ feed.end → feed'.fed ≡ feed.fed → IsFeeding input left feed' packets × (pending feed' ≡ [])
fed_more input left feed feed' packets shape f t piece at end fed =
    let none : feed'.end - feed'.at ≡ 0 = omega (arith, at, end) in
    let empty : pending feed' ≡ [] = ap (λ (k : ℕ). take k (drop feed'.at feed'.piece.items)) none in
    let accounts = subst (λ (ps : List Packet). Accounts (f.used ++ pending feed) ps feed'.framer) (append-nil packets) (taking_accounts f.used (pending feed) packets feed.framer feed'.framer taken.More f.accounts t) in
    let more = length-append f.used (pending feed) in
    let parts : pending feed ≡ pending feed ++ pending feed' = sym (append-nil (pending feed)) ∙ ap (λ xs. pending feed ++ xs) (sym empty) in (
      record {
        used = f.used ++ pending feed;
        accounts = accounts;
        sound = ap (λ (g : Framing). g.fault) t.2 ∙ f.sound;
        limit = ap (λ (g : Framing). g.limit) t.2 ∙ f.limit;
        told = told_more input left f.used (pending feed) (pending feed') (pending feed) parts f.told;
        count = omega (arith, fed, f.count, more, ap length empty);
        within = omega (arith, fed, f.within);
      },
      empty,
    )

-- ---- a refusal

told_so : (P : List ℕ → Type 0) (input left : Option (List ℕ)) (front : List ℕ) → input ≡ option_map (λ rest. front ++ rest) left → ((rest : List ℕ) → P (front ++ rest)) → IfSome input P
told_so P input None front told all = subst (λ (i : Option (List ℕ)). IfSome i P) (sym told) tt
told_so P input (Some rest) front told all = subst (λ (i : Option (List ℕ)). IfSome i P) (sym told) (all rest)

told_joined : (input left : Option (List ℕ)) (used both : List ℕ) → input ≡ option_map (λ rest. used ++ (both ++ rest)) left → input ≡ option_map (λ rest. (used ++ both) ++ rest) left
told_joined input None used both told = told
told_joined input (Some rest) used both told = told ∙ ap Some (sym (append_assoc used both rest))

-- a fault lies within the octets
fault_within : (stream : List ℕ) (ps : List Packet) (r : H4Refusal) (place : ℕ) → Reads acl_limit stream ps (Fault r place) → place < length stream
fault_within stream ps r place reads = (fault_first acl_limit stream ps r place (omega arith) reads).within

pub fed_refused : (input left : Option (List ℕ)) (feed : Feed) (framer' : Framing) (packets : List Packet) (r : H4Refusal) (place : ℕ) → HasShape feed → IsFeeding input left feed packets → Takes feed.framer (pending feed) (taken.Refused r place) framer'
    → IfSome input (λ all. Reads acl_limit all packets (Fault r place)) × (place < input_limit)
fed_refused input left feed framer' packets r place shape f t =
    let all = f.used ++ pending feed in
    let accounts = subst (λ (ps : List Packet). Accounts all ps framer') (append-nil packets) (taking_accounts f.used (pending feed) packets feed.framer framer' (taken.Refused r place) f.accounts t) in
    let fault : framer'.fault ≡ Some (r, place) = ap (λ (g : Framing). g.fault) t.1 in
    let limit : framer'.limit ≡ acl_limit = ap (λ (g : Framing). g.limit) t.1 ∙ f.limit in
    let kept = subst (KeptBy all packets framer') fault accounts.kept in
    let reads = subst (λ (l : ℕ). Reads l all packets (Fault r kept.0)) limit kept.1 in
    let inside = fault_within all packets r kept.0 reads in
    let more = length-append f.used (pending feed) in
    let same : place ≡ kept.0 = omega (arith, kept.2, inside, more, f.count, f.within) in
    let reads' : Reads acl_limit all packets (Fault r place) = subst (λ (p : ℕ). Reads acl_limit all packets (Fault r p)) (sym same) reads in (
      told_so (λ (o : List ℕ). Reads acl_limit o packets (Fault r place)) input left all (told_joined input left f.used (pending feed) f.told) (λ rest. fault_more acl_limit all rest packets r place reads'),
      omega (arith, same, inside, more, f.count, f.within),
    )

-- ---- the end

told_end : (P : List ℕ → Type 0) (input left : Option (List ℕ)) (used pend : List ℕ) → input ≡ option_map (λ rest. used ++ (pend ++ rest)) left → pend ≡ [] → IfSome left (λ rest. rest ≡ []) → P used → IfSome input P
told_end P input None used pend told none empty p = subst (λ (i : Option (List ℕ)). IfSome i P) (sym told) tt
told_end P input (Some rest) used pend told none empty p =
    let e : used ++ (pend ++ rest) ≡ used = ap (λ (x : List ℕ). used ++ (x ++ rest)) none ∙ ap (λ (x : List ℕ). used ++ x) empty ∙ append-nil used in
    subst (λ (i : Option (List ℕ)). IfSome i P) (sym told) (subst P (sym e) p)

pub end_whole : (input left : Option (List ℕ)) (feed : Feed) (packets : List Packet) (u : Unit {0}) → IsFeeding input left feed packets → pending feed ≡ [] → IfSome left (λ rest. rest ≡ []) → EndsWith feed.framer (Ok u) → IfSome input (λ all. IsAll all packets)
end_whole input left feed packets u f none empty ends =
    let reads : Reads acl_limit f.used packets Whole = subst (λ (l : ℕ). Reads l f.used packets Whole) f.limit (end_accounts f.used packets feed.framer (Ok u) f.accounts ends) in
    told_end (λ (all : List ℕ). IsAll all packets) input left f.used (pending feed) f.told none empty (record { reads = reads; within = omega (arith, f.count, f.within) })

record CutsAt (feed : Feed) (used : List ℕ) (packets : List Packet) (refusal : H4Refusal) (place : ℕ) : Type 0 where
  pub is : refusal ≡ Truncated
  pub reads : Reads acl_limit used packets Cut
  pub at : place ≡ length (spellings packets)
  pub within : length (spellings packets) ≤ length used

end_by : (feed : Feed) (used : List ℕ) (packets : List Packet) (refusal : H4Refusal) (place : ℕ) (fault : Option (H4Refusal × ℕ)) → fault ≡ None
    → MatchOption fault ((feed.framer.held ≢ []) × IsUnfinished feed.framer.limit feed.framer.held × (let pair : H4Refusal × ℕ = (refusal, place) in pair ≡ (Truncated, feed.framer.before))) (λ earlier. earlier ≡ (refusal, place)) → refusal ≡ Truncated
end_by feed used packets refusal place None e m = ap (λ (x : H4Refusal × ℕ). x.0) m.2
end_by feed used packets refusal place (Some x) e m = absurd cc

cuts_at : (input left : Option (List ℕ)) (feed : Feed) (packets : List Packet) (refusal : H4Refusal) (place : ℕ) (f : IsFeeding input left feed packets) → EndsWith feed.framer (Err (refusal, place)) → CutsAt feed f.used packets refusal place
cuts_at input left feed packets refusal place f ends =
    let truncated = end_by feed f.used packets refusal place feed.framer.fault f.sound ends in
    let ends' : EndsWith feed.framer (Err (Truncated, place)) = subst (λ (r : H4Refusal). EndsWith feed.framer (Err (r, place))) truncated ends in
    let e = end_accounts f.used packets feed.framer (Err (Truncated, place)) f.accounts ends' in
    let k = kept_none f.used packets feed.framer f.accounts f.sound in
    let size = ap length k.0 ∙ length-append (spellings packets) feed.framer.held in
    record {
      is = truncated;
      reads = subst (λ (l : ℕ). Reads l f.used packets Cut) f.limit e.0;
      at = omega (arith, e.1, size, f.count, f.within);
      within = omega (arith, size);
    }

pub end_too_long : (input left : Option (List ℕ)) (feed : Feed) (packets : List Packet) (refusal : H4Refusal) (place : ℕ) → IsFeeding input left feed packets → pending feed ≡ [] → IfSome left (λ rest. rest ≡ []) → EndsWith feed.framer (Err (refusal, place))
    → IfSome input (λ all. StopsAt all packets (fault.TooLong input_limit))
end_too_long input left feed packets refusal place f none empty ends =
    told_end (λ (all : List ℕ). StopsAt all packets (fault.TooLong input_limit)) input left f.used (pending feed) f.told none empty (refl, inr (cuts_at input left feed packets refusal place f ends).reads)

pub end_refused : (input left : Option (List ℕ)) (feed : Feed) (packets : List Packet) (refusal : H4Refusal) (place : ℕ) → feed.fed < input_limit → IsFeeding input left feed packets → pending feed ≡ [] → IfSome left (λ rest. rest ≡ [])
    → EndsWith feed.framer (Err (refusal, place)) → IfSome input (λ all. StopsAt all packets (fault.Refused refusal place))
end_refused input left feed packets refusal place below f none empty ends =
    let c = cuts_at input left feed packets refusal place f ends in
    subst (λ (r : H4Refusal). IfSome input (λ all. StopsAt all packets (fault.Refused r place))) (sym c.is)
    (told_end (λ (all : List ℕ). StopsAt all packets (fault.Refused Truncated place)) input left f.used (pending feed) f.told none empty (c.reads, c.at, omega (arith, c.at, c.within, f.count, below)))

-- ---- at the greatest length

nothing_pending : (feed : Feed) (used : List ℕ) → pending feed ≡ [] → feed.fed ≡ length used + length (pending feed) → feed.fed ≡ length used
nothing_pending feed used none count = omega (arith, count, ap length none)

told_none : (input left : Option (List ℕ)) (used pend : List ℕ) → input ≡ option_map (λ rest. used ++ (pend ++ rest)) left → pend ≡ [] → input ≡ option_map (λ rest. used ++ rest) left
told_none input None used pend told none = told
told_none input (Some rest) used pend told none = told ∙ ap (λ (x : List ℕ). Some (used ++ (x ++ rest))) none

-- octets behind a unit that is cut at the greatest length pass it
past : (used : List ℕ) (packets : List Packet) → Reads acl_limit used packets Cut → input_limit ≤ length used → (rest : List ℕ) → (input_limit < length (used ++ rest)) ⊎ Reads acl_limit (used ++ rest) packets Cut
past used packets cut full [] = inr (subst (λ (o : List ℕ). Reads acl_limit o packets Cut) (sym (append-nil used)) cut)
past used packets cut full (x ∷ rest) = inl (omega (arith, length-append used (x ∷ rest), full))

pub limit_cut : (input left : Option (List ℕ)) (feed : Feed) (packets : List Packet) (ended : Result (Unit {0}) (H4Refusal × ℕ)) → input_limit ≤ feed.fed → IsFeeding input left feed packets → pending feed ≡ [] → EndsWith feed.framer ended → is_err ended ≡ true
    → IfSome input (λ all. StopsAt all packets (fault.TooLong input_limit))
limit_cut input left feed packets (Ok u) full f none ends err = absurd cc
limit_cut input left feed packets (Err (refusal, place)) full f none ends err =
    let c = cuts_at input left feed packets refusal place f ends in
    let size = nothing_pending feed f.used none f.count in
    told_so (λ (all : List ℕ). StopsAt all packets (fault.TooLong input_limit)) input left f.used (told_none input left f.used (pending feed) f.told none) (λ rest. (refl, past f.used packets c.reads (omega (arith, size, full)) rest))

pub limit_whole : (input left left' : Option (List ℕ)) (feed : Feed) (packets : List Packet) (ended : Result (Unit {0}) (H4Refusal × ℕ)) → IsFeeding input left feed packets → pending feed ≡ [] → EndsWith feed.framer ended → is_err ended ≡ false
    → IfSome left (λ rest. rest ≡ []) → IfSome input (λ all. IsAll all packets)
limit_whole input left left' feed packets (Ok u) f none ends sound empty = end_whole input left feed packets u f none empty ends
limit_whole input left left' feed packets (Err x) f none ends sound empty = absurd cc

past_more : (P : List ℕ → Type 0) (input left : Option (List ℕ)) (front : List ℕ) (n : ℕ) → input ≡ option_map (λ rest. front ++ rest) left → IfSome left (λ rest. n ≤ length rest) → ((rest : List ℕ) → n ≤ length rest → P (front ++ rest)) → IfSome input P
past_more P input None front n told more all = subst (λ (i : Option (List ℕ)). IfSome i P) (sym told) tt
past_more P input (Some rest) front n told more all = subst (λ (i : Option (List ℕ)). IfSome i P) (sym told) (all rest more)

pub limit_past : (input left : Option (List ℕ)) (feed : Feed) (packets : List Packet) (n : ℕ) → input_limit ≤ feed.fed → IsFeeding input left feed packets → pending feed ≡ [] → 0 < n → IfSome left (λ rest. n ≤ length rest)
    → IfSome input (λ all. StopsAt all packets (fault.TooLong input_limit))
limit_past input left feed packets n full f none some more =
    past_more (λ (all : List ℕ). StopsAt all packets (fault.TooLong input_limit)) input left f.used n (told_none input left f.used (pending feed) f.told none) more
    (λ rest le. (refl, inl (omega (arith, length-append f.used rest, nothing_pending feed f.used none f.count, full, some, le))))

-- ---- more octets

read_told : (input left left' : Option (List ℕ)) (used pend pend' : List ℕ) (n : ℕ) → input ≡ option_map (λ rest. used ++ (pend ++ rest)) left → pend ≡ [] → left' ≡ option_map (drop n) left → IfSome left (λ l. (n ≤ length l) × (pend' ≡ take n l))
    → input ≡ option_map (λ rest. used ++ (pend' ++ rest)) left'
read_told input None left' used pend pend' n told none after octets = told ∙ ap (option_map (λ (rest : List ℕ). used ++ (pend' ++ rest))) (sym after)
read_told input (Some l) left' used pend pend' n told none after octets =
    told ∙ ap (λ (x : List ℕ). Some (used ++ (x ++ l))) none ∙ ap (λ (x : List ℕ). Some (used ++ x)) (sym (take-append-drop n l)) ∙ ap (λ (x : List ℕ). Some (used ++ (x ++ drop n l))) (sym octets.1)
    ∙ ap (option_map (λ (rest : List ℕ). used ++ (pend' ++ rest))) (sym after)

pub fed_read : (input left left' : Option (List ℕ)) (feed feed' : Feed) (packets : List Packet) (n : ℕ) → IsFeeding input left feed packets → pending feed ≡ [] → left' ≡ option_map (drop n) left → IfSome left (λ l. (n ≤ length l) × (pending feed' ≡ take n l))
    → length (pending feed') ≡ n → feed'.framer ≡ feed.framer → feed'.fed ≡ feed.fed + n → feed'.fed ≤ input_limit → IsFeeding input left' feed' packets
fed_read input left left' feed feed' packets n f none after octets long framer fed within = record {
  used = f.used;
  accounts = subst (λ (g : Framing). Accounts f.used packets g) (sym framer) f.accounts;
  sound = ap (λ (g : Framing). g.fault) framer ∙ f.sound;
  limit = ap (λ (g : Framing). g.limit) framer ∙ f.limit;
  told = read_told input left left' f.used (pending feed) (pending feed') n f.told none after octets;
  count = omega (arith, f.count, ap length none, long, fed);
  within = within;
}

empty_after : (left left' : Option (List ℕ)) (n : ℕ) → n ≡ 0 → left' ≡ option_map (drop n) left → IfSome left (λ rest. rest ≡ []) → IfSome left' (λ rest. rest ≡ [])
empty_after None left' n is after empty = subst (λ (l : Option (List ℕ)). IfSome l (λ rest. rest ≡ [])) (sym after) tt
empty_after (Some l) left' n is after empty = subst (λ (x : Option (List ℕ)). IfSome x (λ rest. rest ≡ [])) (sym after) (ap (λ (k : ℕ). drop k l) is ∙ empty)

pub reads_more : (input left left' : Option (List ℕ)) (feed feed' : Feed) (packets : List Packet) (n : ℕ) → IsFeeding input left' feed' packets → left' ≡ option_map (drop n) left → length (pending feed') ≡ n → (n ≡ 0 → IfSome left (λ rest. rest ≡ []))
    → ReadsMore input left' feed feed' packets (Ok (ltb 0 n))
reads_more input left left' feed feed' packets zero f after long finish = (f, nil_from_length (pending feed') long, empty_after left left' 0 refl after (finish refl))
reads_more input left left' feed feed' packets (suc n) f after long finish =
    subst (λ (b : Bool). ReadsMore input left' feed feed' packets (Ok b)) (sym (lt-ltb 0 (suc n) (omega arith))) f

-- the octets that were read are pending
pub read_pending : (piece items : List ℕ) (n : ℕ) → items ≡ piece → take (n - 0) (drop 0 items) ≡ take n piece
read_pending piece items n is = let e : n - 0 ≡ n = omega arith in ap (λ (k : ℕ). take k items) e ∙ ap (take n) is

pub read_octets : (left : Option (List ℕ)) (pend octets : List ℕ) (n : ℕ) → pend ≡ octets → IfSome left (λ l. (n ≤ length l) × (octets ≡ take n l)) → IfSome left (λ l. (n ≤ length l) × (pend ≡ take n l))
read_octets None pend octets n is some = tt
read_octets (Some l) pend octets n is some = (some.0, is ∙ some.1)

-- a fault in the input, and one of a port
reads_refused : (all : List ℕ) (packets : List Packet) (r : H4Refusal) (place : ℕ) → Reads acl_limit all packets (Fault r place) → place < input_limit → StopsAt all packets (fault.Refused r place)
reads_refused all packets Truncated place reads below = absurd reads.ends.1
reads_refused all packets BadIndicator place reads below = (reads, below)
reads_refused all packets AclTooLong place reads below = (reads, below)

pub refused_so : (input : Option (List ℕ)) (packets : List Packet) (r : H4Refusal) (place : ℕ) → IfSome input (λ all. Reads acl_limit all packets (Fault r place)) → place < input_limit → IfSome input (λ all. StopsAt all packets (fault.Refused r place))
refused_so None packets r place reads below = tt
refused_so (Some all) packets r place reads below = reads_refused all packets r place reads below

pub port_stops : (input : Option (List ℕ)) (packets : List Packet) (why : CarryFault) → IsPortFault why → IfSome input (λ all. StopsAt all packets why)
port_stops None packets why is = tt
port_stops (Some all) packets (fault.Refused r place) is = absurd is
port_stops (Some all) packets (fault.TooLong place) is = absurd is
port_stops (Some all) packets fault.ReadFault is = tt
port_stops (Some all) packets fault.WriteFault is = tt
port_stops (Some all) packets fault.NoMemory is = tt

-- the packets are no more than the octets
pub few_fed : (input left : Option (List ℕ)) (feed : Feed) (packets : List Packet) → IsFeeding input left feed packets → length packets ≤ input_limit
few_fed input left feed packets f = let few = packets_within f.used packets feed.framer f.accounts f.sound in omega (arith, few, f.count, f.within)

-- and stand at the front of the input
pub front_fed : (input left : Option (List ℕ)) (feed : Feed) (packets : List Packet) → IsFeeding input left feed packets → IfSome input (λ all. IsFront packets all)
front_fed input left feed packets f =
    let kept = kept_none f.used packets feed.framer f.accounts f.sound in
    let all = f.used ++ pending feed in
    told_so (λ (octets : List ℕ). IsFront packets octets) input left all (told_joined input left f.used (pending feed) f.told)
    (λ rest. ((feed.framer.held ++ pending feed) ++ rest, ap (λ (u : List ℕ). (u ++ pending feed) ++ rest) kept.0 ∙ ap (λ (u : List ℕ). u ++ rest) (append_assoc (spellings packets) feed.framer.held (pending feed)) ∙ append_assoc (spellings packets) (feed.framer.held ++ pending feed) rest))

-- nothing was read
pub fed_new : (feed : Feed) (input : Option (List ℕ)) → feed.framer ≡ record { limit = acl_limit; before = 0; held = []; fault = None } → feed.at ≡ 0 → feed.end ≡ 0 → feed.fed ≡ 0 → IsFeeding input input feed []
fed_new feed input framer at end fed =
    let zero' : feed.end - feed.at ≡ 0 = omega (arith, at, end) in
    let none : pending feed ≡ [] = ap (λ (k : ℕ). take k (drop feed.at feed.piece.items)) zero' in
    record {
      used = [];
      accounts = subst (λ (f : Framing). Accounts [] [] f) (sym framer) (new_accounts acl_limit);
      sound = ap (λ (f : Framing). f.fault) framer;
      limit = ap (λ (f : Framing). f.limit) framer;
      told = told_new input (pending feed) none;
      count = omega (arith, fed, ap length none);
      within = omega (arith, fed);
    }
  where
    told_new : (input : Option (List ℕ)) (pend : List ℕ) → pend ≡ [] → input ≡ option_map (λ rest. [] ++ (pend ++ rest)) input
    told_new None pend is = refl
    told_new (Some all) pend is = ap (λ (x : List ℕ). Some (x ++ all)) (sym is)
