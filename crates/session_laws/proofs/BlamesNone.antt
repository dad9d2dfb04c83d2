-- In no pair of sessions does a response show that the server is at fault.
use Rattle.std.proofs.Common.{ℕ, ◌≡◌, ◌==◌, Bool, true, false, List, length, Option, Some, None, sym, ap, subst, ◌∙◌, if◌then◌else◌}
use Rattle.std.proofs.lemmas.Bool.{eq-eqb}
use Rattle.push_laws.specs.push_model.specs.obex_headers.specs.declared.fault.ObexRefusal.{ObexRefusal}
use Rattle.push_laws.specs.push_model.specs.obex_headers.specs.declared.fault.ObexRefusal.TheVariants as refusals
use Rattle.push_laws.specs.push_model.specs.obex_headers.specs.Packets.{PlainPacket}
use Rattle.push_laws.specs.push_model.specs.obex_session.specs.declared.asking.Request.{Request}
use Rattle.push_laws.specs.push_model.specs.obex_session.specs.declared.asking.Request.TheVariants as requests
use Rattle.push_laws.specs.push_model.specs.obex_session.specs.declared.client.Answered.{Answered}
use Rattle.push_laws.specs.push_model.specs.obex_session.specs.declared.client.Answered.TheVariants.{Refused, Srmp}
use Rattle.push_laws.specs.push_model.specs.obex_session.specs.Asking.{Asking, awaited_code, success_of, answer_read, answer_to}
use Rattle.push_laws.specs.push_model.specs.obex_session.specs.Marks.{marks_of}
use Rattle.push_laws.specs.push_model.specs.obex_session.specs.Pairs.{MeansWell, IsExpected, pair_stored}
use Rattle.push_laws.specs.push_model.specs.obex_session.specs.Views.{is_stream}
use Rattle.push_laws.specs.push_model.specs.obex_session.proofs.PairFronts.{pairs_mean_well, responses_are_awaited}
use Rattle.push_laws.specs.Blames as blames
use Rattle.push_laws.specs.Blames.{ReadsAs, IsRefused, ResponseBlames}
use Rattle.session_laws.specs.BlamesNone.{PairsBlameNone}

no_refusal : (request : Request) (code : ℕ) → success_of request ≡ Refused code → ⊥
no_refusal requests.Connect code e = cc
no_refusal requests.FirstPut code e = cc
no_refusal requests.Put code e = cc
no_refusal requests.Stream code e = cc
no_refusal requests.FinalPut code e = cc
no_refusal requests.Abort code e = cc
no_refusal requests.Disconnect code e = cc

same_request : (awaited : Option Request) (a b : Request) → awaited ≡ Some a → awaited ≡ Some b → a ≡ b
same_request awaited a b x y = let f : Some a ≡ Some b = sym x ∙ y in cc

-- a response that reads so, by whether it has parameters and its code is that of success
abbrev coded : Request → ℕ → (parameters succeeds : Bool) → Answered
coded request code parameters succeeds = if parameters then Srmp else if succeeds then success_of request else Refused code

-- a response that is awaited and means well
module _ (stored : ℕ) (session : Asking) (response : List ℕ) (well : (request : Request) → session.awaited ≡ Some request → MeansWell stored (answer_to session.maximum request response)) (expected : IsExpected session response) where
  can_be_read : (refusal : ObexRefusal) → IsRefused refusal response session → ⊥
  can_be_read refusal r = subst (MeansWell stored) (ap (answer_read r.request) r.is) (well r.request r.awaited)

  reads : (request : Request) (read : PlainPacket) (parameters : Bool) → ReadsAs response session request read → (marks_of read.headers).parameters ≡ parameters → answer_to session.maximum request response ≡ coded request read.code parameters (read.code == awaited_code request)
  reads request read parameters r marked = ap (answer_read request) r.is ∙ ap (λ (b : Bool). coded request read.code b (read.code == awaited_code request)) marked

  in_time : (request : Request) (read : PlainPacket) → ReadsAs response session request read → (marks_of read.headers).parameters ≡ false → read.code ≡ awaited_code request → is_stream (Some request) ≡ true → ⊥
  in_time request read r plain code stream =
      let refused = expected.in_time (ap is_stream r.awaited ∙ stream) in
      let same = same_request session.awaited request expected.request r.awaited expected.waits in
      let success = reads request read false r plain ∙ ap (λ (b : Bool). coded request read.code false b) (eq-eqb read.code (awaited_code request) code) in
      no_refusal request refused.0 (sym success ∙ ap (λ (q : Request). answer_to session.maximum q response) same ∙ refused.1)

  blames_none : (reason : ℕ) → ResponseBlames response session false reason → ⊥
  blames_none _ (blames.IsShort r) = can_be_read refusals.Short r
  blames_none _ (blames.HasBadLength r) = can_be_read refusals.BadLength r
  blames_none _ (blames.HasBadHeader r) = can_be_read refusals.BadHeaderLength r
  blames_none _ (blames.HasBadText r) = can_be_read refusals.BadText r
  blames_none _ (blames.IsAboveMaximum r) = can_be_read refusals.AboveMaximum r
  blames_none _ (blames.HasBadVersion r) = can_be_read refusals.BadVersion r
  blames_none _ (blames.HasParameters request read r marked) = subst (MeansWell stored) (reads request read true r marked) (well request r.awaited)
  blames_none _ (blames.IsUnawaited none) = absurd (let f : Some expected.request ≡ None = sym expected.waits ∙ none in cc)
  blames_none _ (blames.IsEarly request read r plain code unsent) = in_time request read r plain code unsent

pub pairs_blame_none : PairsBlameNone
pairs_blame_none name size content maximum own wanted offered others b short small most least bounded goes response rest reason next blame =
    blames_none (length (pair_stored b)) b.client response
    (λ request waits. pairs_mean_well name size content maximum own wanted offered others b short small most least bounded goes request response rest waits next)
    (responses_are_awaited name size content maximum own wanted offered others b short small most least bounded goes response rest next) reason blame
