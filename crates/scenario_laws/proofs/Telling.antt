-- What a host tells of its timer and its check words is what the capture says of it, wherever a run is at rest.
use Rattle.std.proofs.Common.{◌≡◌, Bool, true, false, List, [], ◌∷◌, ◌++◌, map, Option, Some, None, refl, sym, ap, subst, ◌∙◌}
use Rattle.std.specs.List.{flat_map}
use Rattle.std.specs.Option.{option_map}
use Rattle.radio_world.specs.push_terms.specs.declared.word.Side.{Side}
use Rattle.radio_world.specs.capture.specs.Entries.{Entry}
use Rattle.radio_world.specs.capture.specs.Links.{Link, link_up}
use Rattle.radio_world.specs.capture.specs.Pdus.{Pdu, pdus}
use Rattle.host_laws.specs.link_talk.specs.Captures.{talk_on, talk_now}
use Rattle.host_laws.specs.link_talk.specs.declared.party.Party.{Party}
use Rattle.host_laws.specs.link_talk.specs.Sayings.{Saying, said_by}
use Rattle.host_laws.specs.channel_laws.specs.Frames.{AreUttered}
use Rattle.host_laws.specs.channel_laws.specs.Runs.{run_of}
use Rattle.host_laws.specs.channel_laws.specs.Sdus.{StatesFrame}
use Rattle.host_laws.specs.world_model.specs.Machines.{Up}
use Rattle.host_laws.specs.world_model.specs.Talks.{Talk}
use Rattle.host_laws.specs.world_model.specs.PerLink.{Linkage, linkage, captured}
use Rattle.host_laws.specs.host_model.specs.Hosts.{Host}
use Rattle.host_laws.specs.host_model.specs.Profiles.{Profile}
use Rattle.host_laws.specs.host_model.specs.Machines.{upper}
use Rattle.host_laws.specs.Acts.{from_acts}
use Rattle.host_laws.specs.Calls.{Asks}
use Rattle.host_laws.specs.Lives.{Mark, Occurred, Turned, act_marks, Lives}
use Rattle.host_laws.specs.Turning.{OnLink}
use Rattle.host_laws.proofs.Arming.{armed-is_read}
use Rattle.host_laws.proofs.Profiles.{checks_are_read}
use Rattle.scenario_laws.specs.Plain.{TellsOf, IsPlain, IsPlainAt}
use Rattle.scenario_laws.proofs.Acting.{Anyhow, Acted, since_up}

-- what it heard and said, up to its last link and on it
abbrev marks_of : {P : Type 0} (A : Profile P) (talk : List Talk) (now : Host P) → OnLink (upper A) talk now → List Mark
marks_of A talk now on = (flat_map act_marks on.before ++ Turned Up ∷ []) ++ map Occurred (from_acts on.acts)

-- at rest on its link the own talk of a plain host is what the capture has
pub record Plainly {P : Type 0} (A : Profile P) (asks : Asks A) (party : Party) (said : List Saying) (now : Host P) : Type 0 where
  pub marks : List Mark
  pub lives : Lives A asks marks now
  pub said_is : (run_of A.policy lives.now).said ≡ said
  pub uttered : AreUttered A.policy lives.now
  pub tells : TellsOf A party said now

pub side_linked : {P : Type 0} (A : Profile P) (asks : Asks A) (party : Party) (moved : List Pdu) (now : Host P) → StatesFrame A.policy party → IsPlain A asks party moved now → Plainly A asks party (flat_map said_by moved) now
side_linked A asks party moved now states plain =
    let marks = marks_of A plain.came.talk now plain.came.on in
    let lives = plain.so.lives in
    let same = sym plain.keeps_on ∙ (plain.so.talk_is ∙ ap (flat_map said_by) plain.came.moved_is) in
    record {
      marks = marks;
      lives = lives;
      said_is = same;
      uttered = plain.so.uttered;
      tells = subst (λ (said : List Saying). TellsOf A party said now) same (record {
        armed_is = armed-is_read A party asks marks now lives states plain.so.uttered plain.awaits;
        checks_are = λ channel. checks_are_read A asks marks now lives channel;
      });
    }

-- and where there is no link, it has none
pub side_tells : {P : Type 0} (A : Profile P) (asks : Asks A) (party : Party) (side : Side) (past : List Entry) (linked : Bool) (now : Host P) (talk : List Talk) → StatesFrame A.policy party → Acted (upper A) linked now [] talk → linkage talk ≡ captured side past
    → IsPlainAt A asks party (link_up side past) now → (Acted (upper A) false now [] talk → TellsOf A party [] now) → TellsOf A party (talk_now side past) now
side_tells {P} A asks party side past true now talk states acted known plain none = by (link_up side past) (ap (λ (l : Linkage). l.up) (sym known) ∙ (since_up (upper A) Anyhow now talk acted).links_are) plain
  where
    by : (link : Option Link) {moved : List Pdu} → option_map pdus link ≡ Some moved → IsPlainAt A asks party link now → TellsOf A party (talk_on link) now
    by None is plain = cc
    by (Some link) is plain = (side_linked A asks party (pdus link) now states plain).tells
side_tells A asks party side past false now talk states acted known plain none = by (link_up side past) (ap (λ (l : Linkage). l.up) (sym known) ∙ (acted.parted.down refl).1)
  where
    by : (link : Option Link) → option_map pdus link ≡ None → TellsOf A party (talk_on link) now
    by None is = none acted
    by (Some link) is = cc
