-- What a host that gives nothing up said on each link is what moved there, and behind it what it let wait.
use Rattle.std.proofs.Common.{◌≡◌, inl, inr, true, List, [], ◌∷◌, ◌++◌, map, sym, ap, subst, ◌∙◌, append_assoc}
use Rattle.std.specs.List.{AllByRecursion, AllZip, flat_map}
use Rattle.std.proofs.lemmas.List.Concat.{flat_map-append}
use Rattle.request_laws.specs.bt_base.specs.declared.settings.Settings.{Settings}
use Rattle.request_laws.specs.capture.specs.Links.{Link}
use Rattle.request_laws.specs.capture.specs.Pdus.{Pdu, pdus}
use Rattle.request_laws.specs.link_talk.specs.Sayings.{Saying, said_by, talk}
use Rattle.request_laws.specs.channel_model.specs.Policies.{policy}
use Rattle.request_laws.specs.channel_laws.specs.Runs.{Occurrence, run_of}
use Rattle.request_laws.specs.world_model.specs.Talks.{Talk}
use Rattle.request_laws.specs.host_laws.specs.Keeping.{GivesNothingUp}
use Rattle.request_laws.specs.host_laws.specs.Lives.{Span}
use Rattle.request_laws.specs.host_laws.specs.OverLinks.{GoesOut, IsTalkOf}
use Rattle.unit_laws.specs.scenario_laws.specs.Coming.{out_of, FallTo}
use Rattle.unit_laws.specs.scenario_laws.proofs.Gaining.{all-out, both_out}

abbrev moved_on : List Pdu → List Saying
moved_on link = flat_map said_by link

-- what is so of the talk of each link of a capture
abbrev pub OnLinks : (List Saying → Type 0) → List (List Pdu) → Type 0
OnLinks Q caught = AllByRecursion (λ (link : List Pdu). Q (moved_on link)) caught

pub on_links : (Q : List Saying → Type 0) (list : List Link) → AllByRecursion Q (map talk list) → OnLinks Q (map pdus list)
on_links Q [] all = tt
on_links Q (link ∷ list) all = (all.0, on_links Q list all.1)

-- a list of what happened, as it is read off what moved
pub record SaidOn (Q : List Saying → Type 0) (settings : Settings) (list : List Occurrence) : Type 0 where
  pub talk : List Saying
  pub outs : List Saying
  pub said_is : (run_of (policy settings true) list).said ≡ talk ++ outs
  pub go_out : AllByRecursion GoesOut outs
  pub holds : Q talk

pub said_of : (Q : List Saying → Type 0) → Q [] → (settings : Settings) (lists : List (List Occurrence)) (talks : List (List Talk)) (caught : List (List Pdu)) → AllZip (IsTalkOf (policy settings true)) lists talks → FallTo talks caught → OnLinks Q caught
    → AllByRecursion (GivesNothingUp (policy settings true)) lists → AllByRecursion (SaidOn Q settings) lists
said_of Q none settings [] talks caught are fall holds all = tt
said_of Q none settings (list ∷ lists) [] caught are fall holds all = absurd are
said_of Q none settings (list ∷ lists) (part ∷ talks) caught are (inl (silent, fall)) holds all = (
  record { talk = []; outs = are.0.waits; said_is = sym all.0 ∙ (are.0.talk_is ∙ ap (λ (l : List Pdu). moved_on l ++ are.0.waits) silent); go_out = are.0.go_out; holds = none },
  said_of Q none settings lists talks caught are.1 fall holds all.1,
)
said_of Q none settings (list ∷ lists) (part ∷ talks) caught are (inr (link, rest, unsent, caught_is, part_is, fall)) holds all =
    let left = moved_on (map out_of unsent) in
    let here = subst (OnLinks Q) caught_is holds in (
      record {
        talk = moved_on link;
        outs = left ++ are.0.waits;
        said_is = sym all.0
            ∙ (are.0.talk_is ∙ (ap (λ (l : List Pdu). moved_on l ++ are.0.waits) part_is ∙ (ap (λ (l : List Saying). l ++ are.0.waits) (flat_map-append said_by link (map out_of unsent)) ∙ append_assoc (moved_on link) left are.0.waits)));
        go_out = both_out left are.0.waits (all-out unsent) are.0.go_out;
        holds = here.0;
      },
      said_of Q none settings lists talks rest are.1 fall here.1 all.1,
    )

-- those that ended, and the last one
pub record Parted (Q : List Occurrence → Type 0) (spans : List Span) (now : List Occurrence) : Type 0 where
  pub before : AllByRecursion (λ (span : Span). Q span.list) spans
  pub last : Q now

pub parted : (Q : List Occurrence → Type 0) (spans : List Span) (now : List Occurrence) → AllByRecursion Q (map (λ (span : Span). span.list) spans ++ now ∷ []) → Parted Q spans now
parted Q [] now all = record { before = tt; last = all.0 }
parted Q (span ∷ spans) now all = let rest = parted Q spans now all.1 in record { before = (all.0, rest.before); last = rest.last }
