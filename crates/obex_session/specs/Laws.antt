-- Laws of what packets store, for every list of them.
use Rattle.std.specs.Prelude.{◌≡◌, ℕ, ◌≤◌, false, List, length, map}
use Rattle.std.specs.List.{AllByRecursion}
use Rattle.obex_headers.specs.declared.codes.Code.TheVariants.{InternalError}
use Rattle.obex_headers.specs.Runs.{spelled}
use Rattle.obex_session.specs.declared.course.Verdict.TheVariants.{Ended}
use Rattle.obex_session.specs.Past.{Heard, Serving, stored_by}
use Rattle.obex_session.specs.Serving.{ruling_on}

-- packets that were heard while no call of the inbox failed
abbrev pub without_fault : List (List ℕ) → List Heard
without_fault packets = map (λ packet. (packet, false)) packets

-- where no call of the inbox failed and no packet is longer than the maximum, the objects that the packets spell are stored
abbrev pub StoresWhatIsSpelled : Type 0
StoresWhatIsSpelled = (maximum : ℕ) (packets : List (List ℕ)) → maximum ≤ 65535 → AllByRecursion (λ packet. length packet ≤ maximum) packets → stored_by maximum (without_fault packets) ≡ spelled packets

-- no rule answers D0: it is left for an inbox that failed
abbrev pub NoRuleFails : Type 0
NoRuleFails = (session : Serving) (packet : List ℕ) → (ruling_on session packet).verdict ≡ Ended InternalError → ⊥
