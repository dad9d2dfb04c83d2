-- What is sent in one push spells its object once, or nothing.
use Rattle.std.proofs.Common.{◌≡◌, ℕ, ◌++◌, inl, inr, Bool, true, false, eqb, ◌||◌, List, [], ◌∷◌, length, take, length-append, Option, Some, None, Result, Ok, Err, refl, sym, ap, ◌∙◌, arith, append-nil}
use Rattle.std.specs.Prelude.{slice_index}
use Rattle.std.specs.List.{AllByRecursion}
use Rattle.std.proofs.Math.Seq.{take-append_seam}
use Rattle.std.proofs.lemmas.Bool.{cond-false}
use Rattle.link_talk.specs.bt_base.specs.Objects.{Object, octets_of}
use Rattle.link_talk.specs.push_terms.specs.declared.outcome.Outcome.{Outcome}
use Rattle.push_model.specs.obex_headers.specs.declared.fault.ObexRefusal.{ObexRefusal}
use Rattle.push_model.specs.obex_headers.specs.declared.packet.Phase.TheVariants.{Request}
use Rattle.push_model.specs.obex_headers.specs.Packets.{PlainPacket}
use Rattle.push_model.specs.obex_headers.specs.Reading.{◌>>=◌, headers_in, front_at, packet_in}
use Rattle.push_model.specs.obex_headers.specs.Runs.{put_of, spelled}
use Rattle.push_model.specs.obex_headers.proofs.HeaderLaws.{bind_ok, ok_is}
use Rattle.link_talk.specs.ObjectsHeard.{put_within}
use Rattle.push_model.specs.obex_session.specs.Asking.{fresh}
use Rattle.push_model.specs.obex_session.specs.Pushes.{IsNoPut, Fits}
use Rattle.push_model.specs.obex_session.proofs.ObjectLaws.{puts_in_order}
use Rattle.push_model.specs.obex_session.proofs.PushLaws.{fronts_are_pushed}
use Rattle.push_model.specs.Client.{with_object}
use Rattle.push_model.specs.Laws.{all_done}
use Rattle.push_model.specs.Steps.{connect_octets}
use Rattle.push_laws.specs.Sending.{end_of, ArePuts, IsSent, packets_sent, SpellsOneObject, SpellsWhatIsPushed}
use Rattle.push_laws.proofs.GivenUpSteps.{sends-one_push}

-- ---- packets that are no PUT

code_read : (most : ℕ) (octets : List ℕ) (packet : PlainPacket) → packet_in Request most octets ≡ Ok packet → packet.code ≡ slice_index octets 0
unfolding packet_in
code_read most octets packet e =
    let a = bind_ok (front_at Request most octets) (λ front. headers_in front.1 >>= λ headers. Ok (let p : PlainPacket = record { code = slice_index octets 0; extra = front.0; headers = headers } in p)) packet e in
    let b = bind_ok (headers_in a.0.1) (λ headers. Ok (let p : PlainPacket = record { code = slice_index octets 0; extra = a.0.0; headers = headers } in p)) packet a.2 in
    let made : PlainPacket = record { code = slice_index octets 0; extra = a.0.0; headers = b.0 } in
    sym (ap (λ (p : PlainPacket). p.code) (ok_is made packet b.2))

no_put_by : (read : Result PlainPacket ObexRefusal) (code : ℕ) → ((packet : PlainPacket) → read ≡ Ok packet → packet.code ≡ code) → (eqb code 0x02 || eqb code 0x82) ≡ false → put_of read ≡ None
no_put_by (Err refusal) code is other = refl
no_put_by (Ok packet) code is other = cond-false (eqb packet.code 0x02 || eqb packet.code 0x82) (Some packet) None (ap (λ (c : ℕ). eqb c 0x02 || eqb c 0x82) (is packet refl) ∙ other)

pub no_put_within : (most : ℕ) (octets : List ℕ) → (eqb (slice_index octets 0) 0x02 || eqb (slice_index octets 0) 0x82) ≡ false → put_within most octets ≡ None
no_put_within most octets other = no_put_by (packet_in Request most octets) (slice_index octets 0) (code_read most octets) other

no_put : (octets : List ℕ) → (eqb (slice_index octets 0) 0x02 || eqb (slice_index octets 0) 0x82) ≡ false → IsNoPut octets
no_put octets other = no_put_within 65535 octets other

end_no_puts : (gave_up left : Bool) → AllByRecursion IsNoPut (end_of gave_up left)
end_no_puts true true = (no_put _ refl, (no_put _ refl, tt))
end_no_puts true false = (no_put _ refl, tt)
end_no_puts false true = (no_put _ refl, tt)
end_no_puts false false = tt

-- ---- fronts

nothing_spelled : (n : ℕ) (name : List ℕ) (size : ℕ) (objects : List Object) → Fits name size → spelled (take n []) ≡ []
nothing_spelled n name size objects fits = fronts_are_pushed.part n [] [] [] name size (fresh 0 false) (Some objects) tt tt fits (puts_in_order.begins name size (fresh 0 false) (Some objects) refl)

all_taken : (xs : List (List ℕ)) → take (length xs) xs ≡ xs
all_taken xs = ap (take (length xs)) (sym (append-nil xs)) ∙ take-append_seam xs []

pub spells : (connect : List ℕ) (wanted : Bool) (name : List ℕ) (size : ℕ) (objects : List Object) (object : List ℕ) (cause : Option Outcome) (sent : List (List ℕ)) → IsNoPut connect → Fits name size → octets_of name objects ≡ Some object → length object ≡ size
    → IsSent connect wanted name size (Some objects) cause sent → SpellsOneObject name object cause sent
spells connect wanted name size objects object cause sent first fits there len (inl none) = record {
  front = λ n. inl (ap (λ (xs : List (List ℕ)). spelled (take n xs)) none.0 ∙ nothing_spelled n name size objects fits);
  done = λ e. absurd (none.1 e);
}
spells connect wanted name size objects object cause sent first fits there len (inr push) = by push.puts_are
  where
    by : ArePuts wanted name size (Some objects) cause push.puts push.gave_up → SpellsOneObject name object cause sent
    by (inl whole) = record {
      front = λ n. elim (fronts_are_pushed.whole n (connect ∷ []) push.puts (end_of push.gave_up push.left) wanted name size objects object (first, tt) (end_no_puts push.gave_up push.left) fits whole.0 there len) [
        | inl few ↦ inl (ap (λ (xs : List (List ℕ)). spelled (take n xs)) push.sent_is ∙ few.1)
        | inr all ↦ inr (ap (λ (xs : List (List ℕ)). spelled (take n xs)) push.sent_is ∙ all.1)
      ];
      done = λ e. ap spelled push.sent_is ∙ (ap spelled (sym (all_taken (connect ∷ (push.puts ++ end_of push.gave_up push.left))))
          ∙ elim (fronts_are_pushed.whole (length (connect ∷ (push.puts ++ end_of push.gave_up push.left))) (connect ∷ []) push.puts (end_of push.gave_up push.left) wanted name size objects object (first, tt) (end_no_puts push.gave_up push.left) fits whole.0 there len) [
            | inl few ↦ absurd (let less = few.0 in let long = length-append push.puts (end_of push.gave_up push.left) in omega (arith, less, long))
            | inr all ↦ all.1
          ]);
    }
    by (inr part) = record {
      front = λ n. inl (ap (λ (xs : List (List ℕ)). spelled (take n xs)) push.sent_is
          ∙ fronts_are_pushed.part n (connect ∷ []) push.puts (end_of push.gave_up push.left) name size part.0 (Some objects) (first, tt) (end_no_puts push.gave_up push.left) fits part.2);
      done = λ e. absurd (part.3 e);
    }

pub spells-what_is_pushed : SpellsWhatIsPushed
spells-what_is_pushed client name size objects object deeds may fits there len answers =
    spells (connect_octets client.session) client.session.wanted name size objects object (all_done deeds (with_object name size client)).cause (packets_sent deeds (with_object name size client)) (no_put (connect_octets client.session) refl) fits there len
    (sends-one_push client name size (Some objects) deeds may answers).0
