-- A packet that is handed over in pieces.
use Rattle.std.proofs.Common.{◌≡◌, ◌≢◌, ℕ, List, [], ◌++◌, refl, sym, ap, subst, ◌∙◌, append_assoc}
use Rattle.std.proofs.lemmas.List.{append-nil}
use Rattle.h4_framing.specs.Packets.{Packet, Command, Acl, Sync, Event, spelling, IsPacket}
use Rattle.push_terms.specs.declared.word.Side.{Side}
use Rattle.room_laws.specs.world_model.specs.Machines.{Upper}
use Rattle.room_laws.specs.world_model.specs.Stations.{Station}
use Rattle.radio_world.specs.Hosts.{Asking, answering, acl_limit, Coming, coming_packet, hears_coming, MayBeHeard, MakesEfforts, Reacts, Hears, JoinAnswers}

no_spelling : (packet : Packet) → spelling packet ≡ [] → ⊥
no_spelling (Command opcode params) e = absurd cc
no_spelling (Acl word octets) e = absurd cc
no_spelling (Sync word octets) e = absurd cc
no_spelling (Event code params) e = absurd cc

-- So many octets of a packet went in: while some are left the host is as it was, and then it heard the packet.
pub record IsFed {S G P : Type 0} (U : Upper S G) (side : Side) (Answers : P → List G → P → Type 0) (coming : Coming) (octets rest held : List ℕ) (old new : Asking S G) (port port' : P) (Sound : Type 0) : Type 0 where
  pub before : List ℕ
  pub split : octets ≡ before ++ rest
  pub under_way : rest ≢ [] → (held ≡ before) × (new ≡ old) × Answers port [] port' × Sound
  pub done : rest ≡ [] → Reacts U side Answers (hears_coming U side coming) old new port port' × (held ≡ []) × Sound

pub fed_first :
    {S G P : Type 0} (U : Upper S G) (side : Side) (Answers : P → List G → P → Type 0) (coming : Coming) (octets held : List ℕ) (host : Asking S G) (port : P) (Sound : Type 0)
    → JoinAnswers Answers → octets ≡ spelling (coming_packet side coming) → held ≡ [] → Sound → IsFed U side Answers coming octets octets held host host port port Sound
fed_first U side Answers coming octets held host port Sound joins spelled none sound = record {
  before = [];
  split = refl;
  under_way = λ some. (none, refl, joins.none port, sound);
  done = λ empty. absurd (no_spelling (coming_packet side coming) (sym spelled ∙ empty));
}

-- a reaction to what comes later is one to what came before, where nothing happened between
reacts_before :
    {S G P : Type 0} (U : Upper S G) (side : Side) (Answers : P → List G → P → Type 0) (change : List G → Station S → Station S) (old mid new : Asking S G) (port port' port'' : P)
    → JoinAnswers Answers → mid ≡ old → Answers port [] port' → Reacts U side Answers change mid new port' port'' → Reacts U side Answers change old new port port''
reacts_before {S} {G} U side Answers change old mid new port port' port'' joins same none reaction = record {
  used = reaction.used;
  answered = joins.then port port' port'' [] reaction.used none reaction.answered;
  efforts = reaction.efforts;
  reacts = λ rest. subst (λ (h : Asking S G). MakesEfforts U side reaction.efforts (change (reaction.used ++ rest) (answering (reaction.used ++ rest) h)) (answering rest new)) same (reaction.reacts rest);
}

pub fed_more :
    {S G P : Type 0} (U : Upper S G) (side : Side) (Answers : P → List G → P → Type 0) (coming : Coming) (octets rest piece more held held' : List ℕ) (old mid new : Asking S G) (port port' port'' : P) (Sound Sound' : Type 0)
    → JoinAnswers Answers → MayBeHeard old coming → IsPacket acl_limit (coming_packet side coming) → octets ≡ spelling (coming_packet side coming) → rest ≢ [] → rest ≡ piece ++ more
    → IsFed U side Answers coming octets rest held old mid port port' Sound → Hears U side Answers held piece held' mid new port' port'' Sound'
    → IsFed U side Answers coming octets more held' old new port port'' Sound'
fed_more {S} {G} U side Answers coming octets rest piece more held held' old mid new port port' port'' Sound Sound' joins may is spelled some split fed hears =
    let so_far = fed.under_way some in
    let all : spelling (coming_packet side coming) ≡ held ++ (piece ++ more) = sym spelled ∙ fed.split ∙ ap (λ r. fed.before ++ r) split ∙ ap (λ b. b ++ (piece ++ more)) (sym so_far.0) in
    record {
      before = fed.before ++ piece;
      split = fed.split ∙ ap (λ r. fed.before ++ r) split ∙ sym (append_assoc fed.before piece more);
      under_way = λ left.
          let part = hears.part coming more is all left in
          (part.0 ∙ ap (λ b. b ++ piece) so_far.0, part.1 ∙ so_far.1, joins.then port port' port'' [] [] so_far.2 part.2, part.3);
      done = λ none.
          let whole = hears.whole coming (subst (λ (h : Asking S G). MayBeHeard h coming) (sym so_far.1) may) is (all ∙ ap (λ m. held ++ (piece ++ m)) none ∙ ap (λ p. held ++ p) (append-nil piece)) in
          (reacts_before U side Answers (hears_coming U side coming) old mid new port port' port'' joins so_far.1 so_far.2 whole.1, whole.0, whole.2);
    }
