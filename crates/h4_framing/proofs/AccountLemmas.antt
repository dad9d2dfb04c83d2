-- A framer's value accounts for all that it was fed, step by step.
use Rattle.std.proofs.Common.{◌≡◌, ℕ, ◌+◌, ◌≤◌, List, [], ◌∷◌, ◌++◌, length, take, Option, None, Some, Result, Ok, Err, refl, sym, ap, subst, ◌∙◌, append_assoc, arith}
use Rattle.std.proofs.lemmas.List.{append-nil, length-append, length-take-le}
use Rattle.h4_framing.specs.declared.refusal.H4Refusal.{H4Refusal}
use Rattle.h4_framing.specs.declared.refusal.H4Refusal.TheVariants.{BadIndicator, AclTooLong, Truncated}
use Rattle.h4_framing.specs.declared.framer.Taken.{Taken}
use Rattle.h4_framing.specs.declared.framer.Taken.TheVariants as taken
use Rattle.h4_framing.specs.declared.unit.Unit.{Unit as Lent}
use Rattle.h4_framing.specs.Packets.{Packet, packet, spelling, spellings, IsPacket}
use Rattle.h4_framing.specs.Stream.{IsUnfinished, GoesWrong, Ending, Fault, Reads}
use Rattle.h4_framing.specs.Framing.{Framing, counted}
use Rattle.h4_framing.specs.Taking.{Takes, EndsWith}
use Rattle.h4_framing.specs.Accounts.{Accounts, given, used, TakesAll, all_used, all_given}
use Rattle.h4_framing.specs.Laws.{EndReads}
use Rattle.h4_framing.proofs.ExtentLemmas.{wrong_more}
use Rattle.h4_framing.proofs.ReadingLemmas.{front_packets, ends_none, one_reading, all_append}
use Rattle.h4_framing.proofs.FaultLemmas.{spellings_push}
use Rattle.h4_framing.proofs.TakingLemmas.{nothing_unfinished, framing}

pub new_accounts : (limit : ℕ) → Accounts [] [] (framing limit 0 [] None)
new_accounts limit = record { each = tt; kept = (refl, nothing_unfinished limit, refl) }

-- a fault stays, however the stream goes on
pub fault_more : (limit : ℕ) (stream more : List ℕ) (ps : List Packet) (r : H4Refusal) (place : ℕ) → Reads limit stream ps (Fault r place) → Reads limit (stream ++ more) ps (Fault r place)
fault_more limit stream more ps r place h =
    record {
      each = h.each;
      rest = h.rest ++ more;
      whole = ap (λ (xs : List ℕ). xs ++ more) h.whole ∙ append_assoc (spellings ps) h.rest more;
      ends = (h.ends.0, wrong_more limit h.rest more r h.ends.0 h.ends.1, h.ends.2);
    }

counted_twice : (m n : ℕ) → counted (counted 0 m) n ≡ counted 0 (m + n)
counted_twice m n = omega arith

no_fault : (f : H4Refusal × ℕ) → Some f ≡ None → ⊥
no_fault f e = absurd cc

whole_step : (limit before n : ℕ) (held piece fed : List ℕ) (ps : List Packet) (unit : Lent) → Accounts fed ps (framing limit before held None)
    → IsPacket limit (packet unit) → n ≤ length piece → spelling (packet unit) ≡ held ++ take n piece
    → Accounts (fed ++ take n piece) (ps ++ packet unit ∷ []) (framing limit (counted before (length held + n)) [] None)
whole_step limit before n held piece fed ps unit h fits le spelled =
    let p : Packet = packet unit in
    let is : fed ++ take n piece ≡ spellings (ps ++ p ∷ []) =
    ap (λ (xs : List ℕ). xs ++ take n piece) h.kept.0 ∙ append_assoc (spellings ps) held (take n piece) ∙ ap (λ (xs : List ℕ). spellings ps ++ xs) (sym spelled) ∙ sym (spellings_push ps p) in
    let long : length (spellings ps) + (length held + n) ≡ length (spellings (ps ++ p ∷ [])) =
    omega (arith, ap length (spellings_push ps p), length-append (spellings ps) (spelling p), ap length spelled, length-append held (take n piece), length-take-le n piece le) in
    record {
      each = all_append (IsPacket limit) ps (p ∷ []) h.each (fits, tt);
      kept = (
        is ∙ sym (append-nil (spellings (ps ++ p ∷ []))),
        nothing_unfinished limit,
        ap (λ (m : ℕ). counted m (length held + n)) h.kept.2 ∙ counted_twice (length (spellings ps)) (length held + n) ∙ ap (counted 0) long,
      );
    }

more_step : (limit before : ℕ) (held piece fed : List ℕ) (ps : List Packet) → Accounts fed ps (framing limit before held None) → IsUnfinished limit (held ++ piece)
    → Accounts (fed ++ piece) (ps ++ []) (framing limit before (held ++ piece) None)
more_step limit before held piece fed ps h u =
    subst (λ (ks : List Packet). Accounts (fed ++ piece) ks (framing limit before (held ++ piece) None)) (sym (append-nil ps))
    (record { each = h.each; kept = (ap (λ (xs : List ℕ). xs ++ piece) h.kept.0 ∙ append_assoc (spellings ps) held piece, u, h.kept.2) })

refused_step : (limit before place n : ℕ) (held piece fed : List ℕ) (ps : List Packet) (r : H4Refusal) → Accounts fed ps (framing limit before held None) → GoesWrong limit (held ++ piece) r n → place ≡ counted before n
    → Accounts (fed ++ piece) (ps ++ []) (framing limit before held (Some (r, place)))
refused_step limit before place n held piece fed ps r h wrong at =
    subst (λ (ks : List Packet). Accounts (fed ++ piece) ks (framing limit before held (Some (r, place)))) (sym (append-nil ps))
    (record {
      each = h.each;
      kept = (
        length (spellings ps) + n,
        record { each = h.each; rest = held ++ piece; whole = ap (λ (xs : List ℕ). xs ++ piece) h.kept.0 ∙ append_assoc (spellings ps) held piece; ends = (n, wrong, refl) },
        at ∙ ap (λ (m : ℕ). counted m n) h.kept.2 ∙ counted_twice (length (spellings ps)) n,
      );
    })

again_step : (limit before place : ℕ) (held piece fed : List ℕ) (ps : List Packet) (r : H4Refusal) (f : H4Refusal × ℕ) → Accounts fed ps (framing limit before held (Some f)) → f ≡ (r, place)
    → Accounts (fed ++ piece) (ps ++ []) (framing limit before held (Some (r, place)))
again_step limit before place held piece fed ps r f h same =
    let moved : Accounts fed ps (framing limit before held (Some (r, place))) = subst (λ (g : H4Refusal × ℕ). Accounts fed ps (framing limit before held (Some g))) same h in
    subst (λ (ks : List Packet). Accounts (fed ++ piece) ks (framing limit before held (Some (r, place)))) (sym (append-nil ps))
    (record { each = moved.each; kept = (moved.kept.0, fault_more limit fed piece ps r moved.kept.0 moved.kept.1, moved.kept.2) })

step : (limit before : ℕ) (held piece fed : List ℕ) (fault : Option (H4Refusal × ℕ)) (ps : List Packet) (t : Taken) (new : Framing) → Accounts fed ps (framing limit before held fault) → Takes (framing limit before held fault) piece t new
    → Accounts (fed ++ used piece t) (ps ++ given t) new
step limit before held piece fed None ps (taken.Whole unit n) new h k =
    subst (Accounts (fed ++ take n piece) (ps ++ packet unit ∷ [])) (sym k.5) (whole_step limit before n held piece fed ps unit h k.1 k.3 k.4)
step limit before held piece fed (Some f) ps (taken.Whole unit n) new h k = absurd (no_fault f k.0)
step limit before held piece fed None ps taken.More new h k = subst (Accounts (fed ++ piece) (ps ++ [])) (sym k.2) (more_step limit before held piece fed ps h k.1)
step limit before held piece fed (Some f) ps taken.More new h k = absurd (no_fault f k.0)
step limit before held piece fed None ps (taken.Refused r place) new h k =
    subst (Accounts (fed ++ piece) (ps ++ [])) (sym k.1) (refused_step limit before place k.0.0 held piece fed ps r h k.0.1 k.0.2)
step limit before held piece fed (Some f) ps (taken.Refused r place) new h k =
    subst (Accounts (fed ++ piece) (ps ++ [])) (sym k.1) (again_step limit before place held piece fed ps r f h k.0)

pub taking_accounts : (fed piece : List ℕ) (ps : List Packet) (old new : Framing) (t : Taken) → Accounts fed ps old → Takes old piece t new → Accounts (fed ++ used piece t) (ps ++ given t) new
taking_accounts fed piece ps old new t h k = step old.limit old.before old.held piece fed old.fault ps t new h k

takes_all : (fed : List ℕ) (ps : List Packet) (old new : Framing) (calls : List (List ℕ × Taken)) → Accounts fed ps old → TakesAll old calls new → Accounts (fed ++ all_used calls) (ps ++ all_given calls) new
takes_all fed ps old new [] h k = subst (Accounts (fed ++ []) (ps ++ [])) (sym k) (rw (append-nil fed, append-nil ps) h)
takes_all fed ps old new (call ∷ calls) h k =
    let first = taking_accounts fed call.0 ps old k.0 call.1 h k.1 in
    let all = takes_all (fed ++ used call.0 call.1) (ps ++ given call.1) k.0 new calls first k.2 in
    subst (λ (xs : List ℕ). Accounts xs (ps ++ all_given (call ∷ calls)) new) (append_assoc fed (used call.0 call.1) (all_used calls))
    (subst (λ (ks : List Packet). Accounts ((fed ++ used call.0 call.1) ++ all_used calls) ks new) (append_assoc ps (given call.1) (all_given calls)) all)

pub any_pieces : (limit : ℕ) (calls : List (List ℕ × Taken)) (new : Framing) → TakesAll (framing limit 0 [] None) calls new → Accounts (all_used calls) (all_given calls) new
any_pieces limit calls new k = takes_all [] [] (framing limit 0 [] None) new calls (new_accounts limit) k

-- ---- the end

faulty_end : (limit before : ℕ) (held fed : List ℕ) (ps : List Packet) (r : H4Refusal) (place : ℕ) → Accounts fed ps (framing limit before held (Some (r, place))) → EndReads limit fed ps (Err (r, place))
faulty_end limit before held fed ps BadIndicator place h = h.kept
faulty_end limit before held fed ps AclTooLong place h = h.kept
faulty_end limit before held fed ps Truncated place h = absurd h.kept.1.ends.1

ended : (limit before : ℕ) (held fed : List ℕ) (fault : Option (H4Refusal × ℕ)) (ps : List Packet) (e : Result (Unit {0}) (H4Refusal × ℕ)) → Accounts fed ps (framing limit before held fault) → EndsWith (framing limit before held fault) e → EndReads limit fed ps e
ended limit before held fed None ps (Ok u) h k = record { each = h.each; rest = held; whole = h.kept.0; ends = k.1 }
ended limit before held fed (Some f) ps (Ok u) h k = absurd (no_fault f k.0)
ended limit before held fed None ps (Err f) h k =
    subst (λ (g : H4Refusal × ℕ). EndReads limit fed ps (Err g)) (sym k.2) (record { each = h.each; rest = held; whole = h.kept.0; ends = (k.0, k.1) }, h.kept.2)
ended limit before held fed (Some f) ps (Err g) h k =
    faulty_end limit before held fed ps g.0 g.1 (subst (λ (x : H4Refusal × ℕ). Accounts fed ps (framing limit before held (Some x))) k h)

pub end_accounts : (fed : List ℕ) (ps : List Packet) (old : Framing) (e : Result (Unit {0}) (H4Refusal × ℕ)) → Accounts fed ps old → EndsWith old e → EndReads old.limit fed ps e
end_accounts fed ps old e h k = ended old.limit old.before old.held fed old.fault ps e h k

-- ---- however the stream goes on

come_first : (limit before : ℕ) (held fed more : List ℕ) (fault : Option (H4Refusal × ℕ)) (ps all : List Packet) (e : Ending) → Accounts fed ps (framing limit before held fault) → Reads limit (fed ++ more) all e → (rest : List Packet) × (all ≡ ps ++ rest)
come_first limit before held fed more None ps all e h k =
    let split : spellings ps ++ (held ++ more) ≡ spellings all ++ k.rest = sym (append_assoc (spellings ps) held more) ∙ ap (λ (xs : List ℕ). xs ++ more) (sym h.kept.0) ∙ k.whole in
    let first = front_packets limit ps all (held ++ more) k.rest h.each k.each (ends_none limit k.rest (length (spellings all)) e k.ends) split in
    (first.others, first.split)
come_first limit before held fed more (Some f) ps all e h k =
    let same = one_reading limit (fed ++ more) all ps e (Fault f.0 h.kept.0) k (fault_more limit fed more ps f.0 h.kept.0 h.kept.1) in
    ([], same.0 ∙ sym (append-nil ps))

pub given_come_first : (fed more : List ℕ) (ps all : List Packet) (old : Framing) (e : Ending) → Accounts fed ps old → Reads old.limit (fed ++ more) all e → (rest : List Packet) × (all ≡ ps ++ rest)
given_come_first fed more ps all old e h k = come_first old.limit old.before old.held fed more old.fault ps all e h k
