-- What the counts of a port say of its answers in one turn after the other.
use Rattle.std.proofs.Common.{◌≡◌, ◌∙◌, List, [], ◌∷◌, ◌++◌, refl, sym, ap, subst, append_assoc}
use Rattle.std.proofs.lemmas.List.{append-nil}
use Rattle.std.proofs.lemmas.List.Concat.{flat_map-append}
use Rattle.h4_framing.specs.Packets.{Packet}
use Rattle.bt_host.specs.obex_session.specs.Counting as counting
use Rattle.bt_host.specs.obex_session.specs.InboxCalls.{Answer}
use Rattle.bt_host.specs.obex_session.proofs.CountingLaws.{counted_then}
use Rattle.bt_host.specs.host_model.specs.Circumstances.{Circumstance, answer_of, answers_in}
use Rattle.bt_host.specs.host_model.specs.Profiles.{Profile}
use Rattle.receiving.specs.Turns.{Stand, HearsOne, Posture, Turn, HasTurn, HasTurns, answers_of, answers_along}

-- the counts say what these answers were
abbrev pub Gave : List Circumstance → (counts counts' : counting.Counts) → Type 0
Gave used counts counts' = counting.AreCounted (answers_in used) counts counts'

pub gave_then : (xs ys : List Circumstance) (first mid last : counting.Counts) → Gave xs first mid → Gave ys mid last → Gave (xs ++ ys) first last
gave_then xs ys first mid last one two =
    subst (λ (answers : List Answer). counting.AreCounted answers first last) (sym (flat_map-append answer_of xs ys)) (counted_then (answers_in xs) (answers_in ys) first mid last one two)

-- behind answers that are none
pub gave_none : (xs ys : List Circumstance) (first mid last : counting.Counts) → answers_in ys ≡ [] → Gave xs first mid → Gave ys mid last → Gave xs first last
gave_none xs ys first mid last none one two =
    subst (λ (answers : List Answer). counting.AreCounted answers first last) (flat_map-append answer_of xs ys ∙ ap (λ (answers : List Answer). answers_in xs ++ answers) none ∙ append-nil (answers_in xs)) (gave_then xs ys first mid last one two)

module _ {S : Type 0} (A : Profile S) where
  -- ---- turns that are these answers'

  abbrev pub Answers : (turns : List Turn) (first last : Posture S) → List Circumstance → Type 0
  Answers turns first last used = (runs : HasTurns A turns first last) × (answers_along A turns first last runs ≡ used)

  -- another name for where they lead
  pub answers_to : (turns : List Turn) (first last last' : Posture S) (used : List Circumstance) → last ≡ last' → Answers turns first last used → Answers turns first last' used
  answers_to turns first last last' used same = subst (λ (p : Posture S). Answers turns first p used) same

  -- one turn more
  pub answers_snoc : (turns : List Turn) (turn : Turn) (first mid last : Posture S) (runs : HasTurns A turns first mid) (one : HasTurn A turn mid last) → Answers (turns ++ turn ∷ []) first last (answers_along A turns first mid runs ++ answers_of A turn mid last one)
  answers_snoc [] turn first mid last runs one =
      subst (λ (p : Posture S). Answers (turn ∷ []) p last (answers_of A turn mid last one)) runs ((last, one, refl), append-nil (answers_of A turn mid last one))
  answers_snoc (t ∷ turns) turn first mid last (between, takes, more) one =
      let rest = answers_snoc turns turn between mid last more one in (
        (between, takes, rest.0),
        ap (λ (used : List Circumstance). answers_of A t first between takes ++ used) rest.1 ∙ sym (append_assoc (answers_of A t first between takes) (answers_along A turns between mid more) (answers_of A turn mid last one)),
      )

  -- another name for what hears
  pub hears_to : (packet : Packet) (before after after' : Stand S) → after ≡ after' → (hears : HearsOne A packet before after) → (other : HearsOne A packet before after') × (other.moves.used ≡ hears.moves.used)
  hears_to packet before after after' same hears = subst (λ (s : Stand S). (other : HearsOne A packet before s) × (other.moves.used ≡ hears.moves.used)) same (hears, refl)
