-- What holds of each tiny host (this project's own).
use Rattle.std.specs.Prelude.{ℕ, ◌≡◌, true, List, [], ◌∷◌, ◌++◌, max, refl}
use Rattle.std.proofs.Common.{sym, ap, ◌∙◌, arith}
use Rattle.push_terms.specs.declared.word.Side.{Side}
use Rattle.push_terms.specs.declared.word.Side.TheVariants.{A, B}
use Rattle.host_link.specs.Lines.{Line}
use Rattle.host_link.specs.PuttingOut.{started}
use Rattle.line_laws.specs.world_model.specs.Machines.{News, Upper}
use Rattle.line_laws.specs.world_model.specs.Stations.{Commanding, IsStopped}
use Rattle.line_laws.specs.station_laws.specs.Seen.{role_of}
use Rattle.line_laws.specs.Seeing.{SaysOctets}
use Rattle.radio_world.specs.Beginning.{Begins}
use Rattle.radio_world.specs.Hosts.{answering, order_octets, JoinAnswers}
use Rattle.radio_world.specs.Measures.{IsMostOf}
use Rattle.radio_world.specs.Speaking.{SpeaksWithin}
use Rattle.radio_world.specs.settling_laws.specs.Weights.{SaysAtMost}
use Rattle.line_laws.proofs.Seeing.{stations_are_seen}
use Rattle.line_laws.proofs.Stopping.{spent_hosts_stop}
use Rattle.tiny_hosts.specs.Minds.{Unasked, IsCounted}
use Rattle.tiny_hosts.specs.Hosting.{Tiny, asking, IsReady, Unaltered}

-- its mind has heard nothing, and its first command stands in what it puts out
abbrev pub fresh_host : {M : Type 0} → Upper M Unasked → Side → Tiny M
fresh_host U side = record { mind = U.first; line = started (role_of side); held = [] }

never_spent : {X : Type 0} (side : Side) → (started (role_of side)).out ≡ [] → X
never_spent A none = cc
never_spent B none = cc

-- it did no more than to put that command out
pub begins : {M : Type 0} (U : Upper M Unasked) (side : Side) → SaysOctets U → U.is_idle U.first ≡ true → Begins U side (asking U.first (started (role_of side))) [] (IsReady U side U.first (started (role_of side)))
begins U side octets idle =
    let first = stations_are_seen U side octets in
    record {
      begun = λ rest. record { first = U.first; idle = idle; efforts = Commanding ∷ []; makes = first.makes };
      none_held = refl;
      sound = record { is_seen = first.is_seen; spent = λ none. never_spent side none };
    }

pub joins : {P : Type 0} → JoinAnswers (Unaltered {P = P})
joins = record {
  none = λ port. (refl, refl);
  then = λ first mid last xs ys before behind. (ap (λ (l : List Unasked). l ++ ys) before.0 ∙ behind.0, behind.1 ∙ before.1);
}

-- where all that it put out was taken it has done all that it can
pub stops : {M : Type 0} (U : Upper M Unasked) (side : Side) (mind : M) (line : Line) → IsReady U side mind line → (asking mind line).out ≡ [] → (rest : List Unasked) → IsStopped U side (answering rest (asking mind line))
stops U side mind line ready none rest =
    let over : line.out ≡ [] = ready.is_seen.octets ∙ ap (order_octets side) none in
    spent_hosts_stop U side mind line ready.is_seen (ready.spent over) over

-- nothing is asked, so nothing that is answered says more
pub speaks : {M P : Type 0} (U : Upper M Unasked) → SaysAtMost 1 U → SpeaksWithin {P = P} U (λ (host : Tiny M) port. asking host.mind host.line) 1
speaks U few = record { few = few; steady = λ host port rest. refl }

-- nothing is held, and nothing noted
pub none_is_noted : {M P : Type 0} (U : Upper M Unasked) → IsMostOf {P = P} U (λ (host : Tiny M) port. asking host.mind host.line) (λ host. 0)
none_is_noted U = record {
  held = λ s. 0;
  most = λ s. 0;
  notes = record { first = refl; hears = λ answers news s. refl; says = λ s pdu after next. refl };
  told_is = λ host port rest. refl;
}

-- a number that never falls is the most so far
pub count_is_noted : {M P : Type 0} (U : Upper M Unasked) (count : M → ℕ) → IsCounted U count → IsMostOf {P = P} U (λ (host : Tiny M) port. asking host.mind host.line) (λ host. count host.mind)
count_is_noted U count counted = record {
  held = count;
  most = count;
  notes = record {
    first = refl;
    hears = λ answers news s. let more = counted.hears answers news s in omega (arith, more);
    says = λ s pdu after next. let more = counted.says s pdu after next in omega (arith, more);
  };
  told_is = λ host port rest. refl;
}
