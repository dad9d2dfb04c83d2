-- What a PDU that a host gives does to its request for the end of a channel that it leaves.
use Rattle.std.proofs.Common.{◌≡◌, ℕ, ◌+◌, ◌≤◌, List, [], ◌∷◌, Bool, true, false, eqb, Option, Some, None, refl, sym, ap, subst, arith}
use Rattle.std.specs.Prelude.{find, min}
use Rattle.std.proofs.lemmas.Bool.{eqb-true}
use Rattle.channel_laws.specs.channel_model.specs.declared.errand.Errand.{Errand}
use Rattle.channel_laws.specs.channel_model.specs.declared.errand.Errand.TheVariants as errands
use Rattle.channel_laws.specs.channel_model.specs.Changing.{held_at, same_errand}
use Rattle.channel_laws.specs.channel_model.specs.Giving.{gives, one_more, connection_given, configuration_given, disconnection_given, stage_given, counted, queue_given}
use Rattle.channel_laws.specs.channel_model.specs.Value.{Request, Queued, Answer, Ask, Stage, Requested, Connected, Leaving, Closing, Crossed, Held, Channels}
use Rattle.channel_laws.specs.channel_model.proofs.Lookups.{own_of, Distinct, found-has}
use Rattle.channel_laws.specs.channel_model.proofs.Walking.{found-own}
use Rattle.channel_laws.specs.Tries.{copies, one_if}
use Rattle.channel_laws.proofs.Dispatching.{waiting}
use Rattle.leaving_laws.proofs.Keeping as keeping

module _ (own : ℕ) where
  abbrev the_end : Errand
  the_end = errands.Disconnection own

  -- it was given, or a copy waits
  abbrev pub Lives : Request → ℕ → Type 0
  Lives request n = 1 ≤ n + request.given

  pub grows : (request : Request) (m n : ℕ) → m ≤ n → Lives request m → Lives request n
  grows request m n less some = omega (arith, less, some)

  pub new : (request : Request) (n : ℕ) → 1 ≤ n → Lives request n
  new request n some = omega (arith, some)

  abbrev pub Alive : Channels → Type 0
  Alive v = keeping.K own Lives grows new v

  abbrev pub Fine : Stage → ℕ → Type 0
  Fine stage n = keeping.StageSo own Lives grows new stage n

  call_fine : (stage : Stage) (m n : ℕ) → m ≤ n → Fine stage m → Fine (connection_given stage) n
  call_fine (Requested request) m n less so = tt
  call_fine (Connected peer setup) m n less so = tt
  call_fine (Leaving peer setup request) m n less so = grows request m n less so
  call_fine (Closing peer request checked) m n less so = tt
  call_fine (Crossed peer request) m n less so = tt

  options_fine : (stage : Stage) (m n : ℕ) → m ≤ n → Fine stage m → Fine (configuration_given stage) n
  options_fine (Requested request) m n less so = tt
  options_fine (Connected peer setup) m n less so = tt
  options_fine (Leaving peer setup request) m n less so = grows request m n less so
  options_fine (Closing peer request checked) m n less so = tt
  options_fine (Crossed peer request) m n less so = tt

  -- the request for the end itself was given
  end_fine : (stage : Stage) (n : ℕ) → Fine (disconnection_given stage) n
  end_fine (Requested request) n = tt
  end_fine (Connected peer setup) n = tt
  end_fine (Leaving peer setup request) n = let most : (one_more request).given ≡ min (request.given + 1) 255 = refl in omega (arith, most)
  end_fine (Closing peer request checked) n = tt
  end_fine (Crossed peer request) n = tt

  -- of a channel one of whose requests was given, and of which no copy for the end was
  given_alive : (v : Channels) (behind : List Queued) (given : Stage → Stage) (found : Option Held) (n : ℕ) → held_at n v ≡ found → ((stage : Stage) (m k : ℕ) → m ≤ k → Fine stage m → Fine (given stage) k) → Alive (waiting behind v) → Alive (stage_given given found (waiting behind v))
  given_alive v behind given None n is fine k = k
  given_alive v behind given (Some held) n is fine k =
      let u : Channels = waiting behind v in
      keeping.moves own Lives grows new u (stage_given given (Some held) u) held (given held.stage) (found-own n v held is) refl (λ apart. omega arith) (λ same so. fine held.stage (copies the_end behind) (copies the_end behind) (omega arith) so) k

  end_alive : (v : Channels) (behind : List Queued) (found : Option Held) (n : ℕ) → held_at n v ≡ found → Alive (waiting (Ask (errands.Disconnection n) ∷ behind) v) → Alive (stage_given disconnection_given found (waiting behind v))
  end_alive v behind None n is k = by (eqb own n) refl
    where
      by : (b : Bool) → eqb own n ≡ b → Alive (waiting behind v)
      by true same = subst (λ (h : Option Held). keeping.FoundSo own Lives grows new h (copies the_end behind)) (sym (subst (λ m. held_at m v ≡ None) (sym (eqb-true own n same)) is)) tt
      by false apart =
          let none : one_if (same_errand the_end (errands.Disconnection n)) ≡ 0 = ap one_if apart in keeping.still own Lives grows new (waiting (Ask (errands.Disconnection n) ∷ behind) v) (waiting behind v) refl (omega (arith, none)) k
  end_alive v behind (Some held) n is k =
      let u : Channels = waiting (Ask (errands.Disconnection n) ∷ behind) v in
      keeping.moves own Lives grows new u (stage_given disconnection_given (Some held) (waiting behind v)) held (disconnection_given held.stage) (found-own n v held is) refl
      (λ apart. let none : one_if (same_errand the_end (errands.Disconnection n)) ≡ 0 = ap one_if (other (found-has own_of n v.held held is) apart) in omega (arith, none))
      (λ same so. end_fine held.stage (copies the_end behind)) k
    where
      other : held.own ≡ n → eqb held.own own ≡ false → eqb own n ≡ false
      other here apart = keeping.away own n (subst (λ m. eqb m own ≡ false) here apart)

  counted_alive : (v : Channels) (errand : Errand) (behind : List Queued) → Alive (waiting (Ask errand ∷ behind) v) → Alive (counted errand (waiting behind v))
  counted_alive v (errands.Connection n) behind k = given_alive v behind connection_given (held_at n v) n refl call_fine (keeping.still own Lives grows new (waiting (Ask (errands.Connection n) ∷ behind) v) (waiting behind v) refl (omega arith) k)
  counted_alive v (errands.Configuration n) behind k = given_alive v behind configuration_given (held_at n v) n refl options_fine (keeping.still own Lives grows new (waiting (Ask (errands.Configuration n) ∷ behind) v) (waiting behind v) refl (omega arith) k)
  counted_alive v (errands.Disconnection n) behind k = end_alive v behind (held_at n v) n refl k
  counted_alive v errands.Features behind k = keeping.still own Lives grows new (waiting (Ask errands.Features ∷ behind) v) (counted errands.Features (waiting behind v)) refl (omega arith) k

  pub gives-alive : (v : Channels) (queue : List Queued) → v.queue ≡ queue → Distinct own_of v.held → Alive v → Alive (queue_given queue v)
  gives-alive v [] is lone k = keeping.spent-so own Lives grows new v (find gives v.held) lone refl k
  gives-alive v (Answer command ∷ behind) is lone k = keeping.still own Lives grows new v (waiting behind v) refl (let whole = ap (copies the_end) is in omega (arith, whole)) k
  gives-alive v (Ask errand ∷ behind) is lone k = counted_alive v errand behind (subst (λ q. Alive (waiting q v)) is k)
