-- What moved on each link of a server, as its units say, and what it gave besides.
use Rattle.std.proofs.Common.{◌≡◌, ℕ, List, [], ◌∷◌, ◌++◌, map, filter_map, inl, inr, refl, sym, ap, ap₂, subst, ◌∙◌}
use Rattle.std.specs.List.{AllByRecursion, AllZip, flat_map}
use Rattle.std.proofs.lemmas.List.Concat.{flat_map-append}
use Rattle.request_laws.specs.bt_base.specs.Objects.{Object}
use Rattle.request_laws.specs.capture.specs.declared.flow.Flow.TheVariants.{Out}
use Rattle.request_laws.specs.capture.specs.Pdus.{Pdu}
use Rattle.request_laws.specs.link_talk.specs.declared.party.Party.{Party}
use Rattle.request_laws.specs.link_talk.specs.ObjectsHeard.{objects}
use Rattle.request_laws.specs.link_talk.specs.Sayings.{Saying, said_by}
use Rattle.request_laws.specs.channel_model.specs.Policies.{Policy}
use Rattle.request_laws.specs.channel_laws.specs.Runs.{Occurrence}
use Rattle.request_laws.specs.world_model.specs.Talks.{Talk}
use Rattle.request_laws.specs.host_laws.specs.Calm.{pdus_in}
use Rattle.request_laws.specs.host_laws.specs.OverLinks.{moved_in, IsTalkOf}
use Rattle.request_laws.specs.host_laws.specs.Seen.{pdu_of}
use Rattle.request_laws.specs.host_laws.proofs.Calming.{outer-pdus}
use Rattle.request_laws.specs.host_laws.proofs.OverLinks.{part_pdus}
use Rattle.unit_laws.specs.scenario_laws.specs.Coming.{out_of, FallTo}
use Rattle.unit_laws.specs.scenario_laws.proofs.Gaining.{spelled_on, all-out}
use Rattle.following_laws.proofs.Links.{out_behind}
use Rattle.orderly_laws.proofs.Falling.{OnLinks}

-- a list of what happened: the PDUs of it that moved, and those that were given and did not
pub record MovedOn (Q : List Saying → Type 0) (list : List Occurrence) : Type 0 where
  pub moved : List Pdu
  pub unsent : List Pdu
  pub pdus_are : filter_map pdu_of list ≡ moved ++ unsent
  pub go_out : AllByRecursion (λ (pdu : Pdu). pdu.flow ≡ Out) unsent
  pub holds : Q (flat_map said_by moved)

all_out : (unsent : List (List ℕ)) → AllByRecursion (λ (pdu : Pdu). pdu.flow ≡ Out) (map out_of unsent)
all_out [] = tt
all_out (pdu ∷ unsent) = (refl, all_out unsent)

list_pdus : (policy : Policy) (list : List Occurrence) (part : List Talk) → IsTalkOf policy list part → filter_map pdu_of list ≡ flat_map pdus_in part
list_pdus policy list part is = sym (outer-pdus list) ∙ (ap (filter_map pdu_of) is.outer_is ∙ part_pdus part)

pub moved_of : (Q : List Saying → Type 0) → Q [] → (policy : Policy) (lists : List (List Occurrence)) (talks : List (List Talk)) (caught : List (List Pdu)) → AllZip (IsTalkOf policy) lists talks → FallTo talks caught → OnLinks Q caught → AllByRecursion (MovedOn Q) lists
moved_of Q none policy [] talks caught are fall holds = tt
moved_of Q none policy (list ∷ lists) [] caught are fall holds = absurd are
moved_of Q none policy (list ∷ lists) (part ∷ talks) caught are (inl (silent, fall)) holds = (
  record { moved = []; unsent = []; pdus_are = list_pdus policy list part are.0 ∙ silent; go_out = tt; holds = none },
  moved_of Q none policy lists talks caught are.1 fall holds,
)
moved_of Q none policy (list ∷ lists) (part ∷ talks) caught are (inr (link, rest, unsent, caught_is, part_is, fall)) holds =
    let here = subst (OnLinks Q) caught_is holds in (
      record { moved = link; unsent = map out_of unsent; pdus_are = list_pdus policy list part are.0 ∙ part_is; go_out = all_out unsent; holds = here.0 },
      moved_of Q none policy lists talks rest are.1 fall here.1,
    )

-- ---- what did not move spells nothing

part_spells : (party : Party) (part : List Talk) (link : List Pdu) (unsent : List (List ℕ)) → flat_map pdus_in part ≡ link ++ map out_of unsent → objects party (moved_in part) ≡ objects party (flat_map said_by link)
part_spells party part link unsent is =
    ap (λ (l : List Pdu). objects party (flat_map said_by l)) is
    ∙ (ap (objects party) (flat_map-append said_by link (map out_of unsent)) ∙ out_behind party (flat_map said_by link) (flat_map said_by (map out_of unsent)) (all-out unsent))

pub parts_spell : (party : Party) (ps : List (List Talk)) (links : List (List Pdu)) → FallTo ps links → flat_map (λ part. objects party (moved_in part)) ps ≡ spelled_on party links
parts_spell party [] links none = ap (spelled_on party) (sym none)
parts_spell party (part ∷ ps) links (inl (silent, more)) = ap₂ (λ (x y : List Object). x ++ y) (ap (λ (l : List Pdu). objects party (flat_map said_by l)) silent) (parts_spell party ps links more)
parts_spell party (part ∷ ps) links (inr (link, rest, unsent, is, moved, more)) =
    ap₂ (λ (x y : List Object). x ++ y) (part_spells party part link unsent moved) (parts_spell party ps rest more) ∙ ap (spelled_on party) (sym is)
