-- Where a push without a cause may not be cancelled all its PUTs were sent.
use Rattle.std.proofs.Common.{inl, inr, Bool, true, false, ◌≡◌, ◌&&◌, ℕ, List, [], Option, Some, None, is_some, is_none, refl, sym, ap, subst, ◌∙◌}
use Rattle.std.specs.Prelude.{not}
use Rattle.link_talk.specs.push_terms.specs.declared.outcome.Outcome.{Outcome}
use Rattle.link_talk.specs.push_terms.specs.declared.outcome.Outcome.TheVariants as outcomes
use Rattle.push_model.specs.obex_session.specs.declared.asking.Request.{Request}
use Rattle.push_model.specs.obex_session.specs.Asking.{Asking}
use Rattle.push_model.specs.obex_session.specs.NextPut.{put_request}
use Rattle.push_model.specs.obex_session.specs.Views.{is_final_put, asks_connect}
use Rattle.push_model.specs.declared.course.Contact.{Contact}
use Rattle.push_model.specs.Client.{is_rest, with_object}
use Rattle.push_model.specs.Laws.{all_done}
use Rattle.push_laws.specs.Cancelling.{AllIsSent, CancelsUntilAllIsSent}
use Rattle.push_laws.specs.Sending.{packets_sent}
use Rattle.push_laws.proofs.Pushing as state
use Rattle.push_laws.proofs.Pushing.{Task, connect_of, Fixed, State, Fresh, Connecting, Putting, GivenUp, Gone, Stands, MayPutOn}
use Rattle.push_laws.proofs.Sending.{all_stand}
use Rattle.push_laws.proofs.Talks.{talk_of}

no_cause : (o : Outcome) → None ≡ Some o → ⊥
no_cause o e = cc

final_of : (rests none final : Bool) → rests ≡ false → none ≡ true → (not rests && (none && not final)) ≡ false → final ≡ true
final_of false true true a b e = refl
final_of false true false a b e = absurd (let f : true ≡ false = e in cc)
final_of true none final a b e = absurd (let f : true ≡ false = a in cc)
final_of false false final a b e = absurd (let f : false ≡ true = b in cc)

not_final : (a : Option Request) (b : Option Request) → a ≡ b → is_final_put b ≡ false → is_final_put a ≡ true → ⊥
not_final a b e off on = let f : true ≡ false = sym on ∙ ap is_final_put e ∙ off in cc

put_on : (first single : Bool) → is_final_put (Some (put_request first false single)) ≡ false
put_on true single = refl
put_on false true = refl
put_on false false = refl

some_cause : (cause : Option Outcome) → cause ≡ None → is_some cause ≡ true → ⊥
some_cause cause free given = let f : false ≡ true = sym (ap is_some free) ∙ given in cc

whole_by : (w : Task) (sent : List (List ℕ)) (cause : Option Outcome) (session : Asking) (name : List ℕ) (size : ℕ) (contact : Contact) → cause ≡ None → is_final_put session.awaited ≡ true → State w sent cause contact session name size
    → AllIsSent (connect_of w) w.wanted name size w.content sent
whole_by w sent cause session name size contact free final (Fresh is unmet waits unput least other) = absurd (not_final session.awaited None waits refl final)
whole_by w sent cause session name size contact free final (Connecting is unmet waits unput other) = let when = waits free in absurd (not_final session.awaited (asks_connect session).awaited when.0 refl final)
whole_by w sent cause session name size contact free final (Putting puts at is met wanted has place other some) = absurd (putting (place free).2)
  where
    putting : MayPutOn session → ⊥
    putting (inl none) = not_final session.awaited None none refl final
    putting (inr on) = not_final session.awaited (Some (put_request on.0 false on.1)) on.2 (put_on on.0 on.1) final
whole_by w sent cause session name size contact free final (state.Put puts is met whole waits unput other) = record { puts = puts; sent_is = is; whole = whole }
whole_by w sent cause session name size contact free final (GivenUp puts at is met wanted has caused unput other some) = absurd (some_cause cause free caused)
whole_by w sent cause session name size contact free final (Gone gone caused past) = absurd (some_cause cause free caused)

pub cancels-until_all_is_sent : CancelsUntilAllIsSent
cancels-until_all_is_sent client name size content deeds may answers working free late =
    let w : Task = record { maximum = client.session.maximum; wanted = client.session.wanted; name = name; size = size; content = content } in
    let begun = with_object name size client in
    let after = all_done deeds begun in
    let fixed : Fixed w begun.session name size client.limit = record { maximum = refl; wanted = refl; name_is = refl; size_is = refl; short = may.short; small = may.small; least = may.least; most = may.most } in
    let stands : Stands w (packets_sent deeds begun) (talk_of after) = all_stand w [] deeds begun answers (fixed, Fresh refl refl refl refl (λ e. may.own) (λ e. no_cause outcomes.Done e)) in
    let final : is_final_put after.session.awaited ≡ true = final_of (is_rest after.stage) (is_none after.cause) (is_final_put after.session.awaited) working (ap is_none free) late in
    let same = stands.0 in
    subst (λ (n : ℕ). AllIsSent (connect_of w) w.wanted name n content (packets_sent deeds begun)) same.size_is
    (subst (λ (n : List ℕ). AllIsSent (connect_of w) w.wanted n after.size content (packets_sent deeds begun)) same.name_is (whole_by w (packets_sent deeds begun) after.cause after.session after.name after.size after.contact free final stands.1))
