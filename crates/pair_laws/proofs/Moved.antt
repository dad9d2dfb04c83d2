-- What is so of each front of the own talk of a host is so of what moved on its links.
use Rattle.std.proofs.Common.{◌≡◌, ℕ, List, [], ◌∷◌, ◌++◌, map, inl, inr, sym, ap, subst, ◌∙◌, append_assoc}
use Rattle.std.specs.List.{AllByRecursion, AllZip, flat_map}
use Rattle.std.proofs.lemmas.List.Concat.{flat_map-append}
use Rattle.scenario_laws.specs.capture.specs.Links.{Link}
use Rattle.scenario_laws.specs.capture.specs.Pdus.{Pdu, pdus}
use Rattle.scenario_laws.specs.link_talk.specs.Sayings.{Saying, said_by, talk}
use Rattle.channel_laws.specs.channel_model.specs.Policies.{Policy}
use Rattle.channel_laws.specs.Runs.{Occurrence, run_of}
use Rattle.scenario_laws.specs.world_model.specs.Talks.{Talk}
use Rattle.host_laws.specs.Calm.{pdus_in}
use Rattle.host_laws.specs.OverLinks.{IsTalkOf}
use Rattle.host_laws.specs.Seen.{spoken_of}
use Rattle.scenario_laws.specs.Coming.{out_of, FallTo}

module _ (H : List Saying → Type 0) (fronts : (front behind : List Saying) → H (front ++ behind) → H front) where
  -- what moved on a link is a front of what moved of the own talk
  pub link_moves : (wanted : Policy) (list : List Occurrence) (part : List Talk) (moved : List Pdu) (unsent : List (List ℕ)) → IsTalkOf wanted list part → flat_map pdus_in part ≡ moved ++ map out_of unsent → H (spoken_of (run_of wanted list).said) → H (flat_map said_by moved)
  link_moves wanted list part moved unsent talk is so =
      let all : spoken_of (run_of wanted list).said ≡ flat_map said_by moved ++ (flat_map said_by (map out_of unsent) ++ talk.waits) =
      talk.talk_is ∙ (ap (λ (ps : List Pdu). flat_map said_by ps ++ talk.waits) is ∙ (ap (λ (l : List Saying). l ++ talk.waits) (flat_map-append said_by moved (map out_of unsent)) ∙ append_assoc (flat_map said_by moved) (flat_map said_by (map out_of unsent)) talk.waits)) in
      fronts (flat_map said_by moved) (flat_map said_by (map out_of unsent) ++ talk.waits) (subst H all so)

  pub links_move : (wanted : Policy) (lists : List (List Occurrence)) (parts : List (List Talk)) (links : List (List Pdu)) → AllZip (IsTalkOf wanted) lists parts → FallTo parts links → AllByRecursion (λ (list : List Occurrence). H (spoken_of (run_of wanted list).said)) lists
      → AllByRecursion (λ (moved : List Pdu). H (flat_map said_by moved)) links
  links_move wanted [] [] links zip falls so = subst (AllByRecursion (λ (moved : List Pdu). H (flat_map said_by moved))) (sym falls) tt
  links_move wanted [] (part ∷ parts) links zip falls so = absurd zip
  links_move wanted (list ∷ lists) [] links zip falls so = absurd zip
  links_move wanted (list ∷ lists) (part ∷ parts) links zip (inl falls) so = links_move wanted lists parts links zip.1 falls.1 so.1
  links_move wanted (list ∷ lists) (part ∷ parts) links zip (inr (link, rest, unsent, links_are, moved, falls)) so =
      subst (AllByRecursion (λ (moved : List Pdu). H (flat_map said_by moved))) (sym links_are) (link_moves wanted list part link unsent zip.0 moved so.0, links_move wanted lists parts rest zip.1 falls so.1)

pub each_link : (P : List Pdu → Type 0) (ones : List Link) → AllByRecursion P (map pdus ones) → AllByRecursion (λ (link : Link). P (pdus link)) ones
each_link P [] all = tt
each_link P (one ∷ ones) all = (all.0, each_link P ones all.1)

pub each_talk : (P : List Saying → Type 0) (ones : List Link) → AllByRecursion (λ (link : Link). P (flat_map said_by (pdus link))) ones → AllByRecursion P (map talk ones)
each_talk P [] all = tt
each_talk P (one ∷ ones) all = (all.0, each_talk P ones all.1)
