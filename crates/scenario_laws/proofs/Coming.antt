-- How both hosts came to what the capture has, at each moment of a run and where it is at rest.
use Rattle.std.proofs.Common.{◌≡◌, ℕ, Bool, true, false, List, [], ◌++◌, map, Option, Some, None, option_to_list, refl, sym, ap, subst, ◌∙◌}
use Rattle.std.specs.List.{flat_map}
use Rattle.std.specs.Option.{option_map}
use Rattle.std.proofs.lemmas.List.{map-append}
use Rattle.radio_world.specs.push_terms.specs.declared.word.Side.{Side}
use Rattle.radio_world.specs.push_terms.specs.declared.word.Side.TheVariants as sides
use Rattle.radio_world.specs.capture.specs.Entries.{Entry}
use Rattle.radio_world.specs.capture.specs.Links.{Link, Linking, linking, links, link_up}
use Rattle.radio_world.specs.capture.specs.Moves.{moves}
use Rattle.radio_world.specs.capture.specs.Pdus.{Pdu, pdus}
use Rattle.host_laws.specs.world_model.specs.Talks.{Talk, Unsent}
use Rattle.host_laws.specs.world_model.specs.PerLink.{Linkage, linkage, captured}
use Rattle.host_laws.specs.world_model.specs.Pushes.{Pushes}
use Rattle.host_laws.specs.world_model.specs.Worlds.{all_entries}
use Rattle.host_laws.specs.air_laws.specs.AirLaws.{IsLastEnd}
use Rattle.host_laws.specs.host_model.specs.Hosts.{Host}
use Rattle.host_laws.specs.host_model.specs.Profiles.{Profile}
use Rattle.host_laws.specs.host_model.specs.Clients.{client_profile}
use Rattle.host_laws.specs.host_model.specs.Servers.{server_profile}
use Rattle.host_laws.specs.host_model.specs.Machines.{upper}
use Rattle.host_laws.specs.Calm.{pdus_in}
use Rattle.host_laws.specs.OverLinks.{parts}
use Rattle.scenario_laws.specs.Captures.{client_of, server_of}
use Rattle.scenario_laws.specs.Coming.{FallTo, LastIsUp, CameOver, CameOn, RunsHaveTalks, RestsHaveTalks}
use Rattle.scenario_laws.proofs.Acting.{Anyhow, AreSo, ActedSo, Acted, SinceUp, went_all, since_up}
use Rattle.scenario_laws.proofs.Both.{both_acted}
use Rattle.scenario_laws.proofs.Carrying.{carried}
use Rattle.scenario_laws.proofs.Fronts.{fits, ended_links, with_ends}
use Rattle.scenario_laws.proofs.Parting.{Parted, all_links, all_fall, all_last}
use Rattle.scenario_laws.proofs.Resting.{both_rested}

-- ---- links of a capture

pub captured_links : (side : Side) (past : List Entry) → all_links (captured side past) ≡ map pdus (links side past)
captured_links side past =
    let known : Linking = linking (moves side past) in
    ap (λ (l : List (List Pdu)). map pdus known.past ++ l) (by known.up) ∙ sym (map-append pdus known.past (option_to_list known.up))
  where
    by : (up : Option Link) → option_to_list (option_map pdus up) ≡ map pdus (option_to_list up)
    by None = refl
    by (Some link) = refl

pub ended_all : (side : Side) (pushes : Pushes) (past ends : List Entry) → IsLastEnd pushes ends → linking (moves side (past ++ ends)) ≡ linking (moves side past)
ended_all side pushes past ends last =
    with_ends (λ (es : List Entry). linking (moves side es) ≡ linking (moves side past)) pushes past ends (λ push outcome so. ended_links side past push outcome) last refl

-- ---- at each moment

-- with what is so where it heard something
pub record CameOverSo {P : Type 0} (A : Profile P) (W : Bool → Host P → Type 0) (side : Side) (capture : List Entry) (now : Host P) : Type 0 where
  pub came : CameOver A side capture now
  pub so : AreSo (upper A) W false came.over.acts (upper A).first

pub up_last : (linked : Bool) (talk : List Talk) (waiting : List (List ℕ)) (up : Option Link) → Parted linked talk → (linkage talk).up ≡ option_map pdus up → LastIsUp (parts (talk ++ map Unsent waiting)) up
up_last linked talk waiting None parted is = tt
up_last linked talk waiting (Some link) parted is = all_last linked talk waiting (pdus link) parted is

unfoldable pub came_over : {P : Type 0} (A : Profile P) (W : Bool → Host P → Type 0) (side : Side) (past capture : List Entry) (linked : Bool) (now : Host P) (waiting : List (List ℕ)) (talk : List Talk) → ActedSo (upper A) W linked now waiting talk → linkage talk ≡ captured side past
    → linking (moves side capture) ≡ linking (moves side past) → CameOverSo A W side capture now
came_over A W side past capture linked now waiting talk acted known same =
    let links_are : all_links (linkage talk) ≡ map pdus (links side capture) =
    ap all_links known ∙ (captured_links side past ∙ ap (λ (l : Linking). map pdus (l.past ++ option_to_list l.up)) (sym same)) in
    let all = went_all (upper A) W linked now waiting talk acted in
    record {
      came = record {
        talk = talk ++ map Unsent waiting;
        over = all.went.over;
        fall = subst (FallTo (parts (talk ++ map Unsent waiting))) links_are (all_fall linked talk waiting acted.down acted.parted);
        last = subst (LastIsUp (parts (talk ++ map Unsent waiting))) (sym (ap (λ (l : Linking). l.up) same)) (up_last linked talk waiting (link_up side past) acted.parted (ap (λ (l : Linkage). l.up) known));
      };
      so = all.so;
    }

pub came_over-talk : {P : Type 0} (A : Profile P) (W : Bool → Host P → Type 0) (side : Side) (past capture : List Entry) (linked : Bool) (now : Host P) (waiting : List (List ℕ)) (talk : List Talk) (acted : ActedSo (upper A) W linked now waiting talk) (known : linkage talk ≡ captured side past)
    (same : linking (moves side capture) ≡ linking (moves side past)) → (came_over A W side past capture linked now waiting talk acted known same).came.talk ≡ talk ++ map Unsent waiting
unfolding came_over
came_over-talk A W side past capture linked now waiting talk acted known same = refl

-- of any host, by its talk
unfoldable pub came-over : {P : Type 0} (A : Profile P) (side : Side) (past capture : List Entry) (linked : Bool) (now : Host P) (waiting : List (List ℕ)) (talk : List Talk) → ActedSo (upper A) Anyhow linked now waiting talk → linkage talk ≡ captured side past
    → linking (moves side capture) ≡ linking (moves side past) → CameOver A side capture now
came-over A side past capture linked now waiting talk acted known same = (came_over A Anyhow side past capture linked now waiting talk acted known same).came

pub runs_have_talks : RunsHaveTalks
runs_have_talks scenario content capture ran =
    let U = client_of scenario in
    let V = server_of scenario content in
    let past = all_entries ran.happenings in
    let all = carried U V scenario.acl_length scenario.acl_count scenario.names ran.happenings ran.world (fits scenario content) ran.happened in
    let acted = (both_acted U V Anyhow Anyhow scenario.acl_length scenario.names all.doings _ all.so).0 in
    let same : (side : Side) → linking (moves side capture) ≡ linking (moves side past) = λ side. ap (λ (es : List Entry). linking (moves side es)) ran.capture_is ∙ ended_all side ran.world.pushes past ran.ends ran.last in
    record {
      a = came-over (client_profile scenario.settings) sides.A past capture _ ran.world.a.upper _ all.talk_a acted.a.acted all.links_a (same sides.A);
      b = came-over (server_profile scenario.settings content) sides.B past capture _ ran.world.b.upper _ all.talk_b acted.b.acted all.links_b (same sides.B);
    }

-- ---- at rest

came_on : {P : Type 0} (A : Profile P) (side : Side) (past : List Entry) (now : Host P) (linked : Bool) (talk : List Talk) → Acted (upper A) linked now [] talk → linkage talk ≡ captured side past → CameOn A (link_up side past) now
came_on {P} A side past now true talk acted known =
    let up : SinceUp (upper A) talk now = since_up (upper A) Anyhow now talk acted in
    by up (link_up side past) (ap (λ (l : Linkage). l.up) (sym known) ∙ up.links_are)
  where
    same : (x y : List Pdu) → Some x ≡ Some y → y ≡ x
    same x y is = cc

    by : (up : SinceUp (upper A) talk now) (link : Option Link) → option_map pdus link ≡ Some (flat_map pdus_in up.on.since) → CameOn A link now
    by up None is = tt
    by up (Some link) is = record { talk = talk; on = up.on; moved_is = same (pdus link) (flat_map pdus_in up.on.since) is }
came_on A side past now false talk acted known = by (link_up side past) (ap (λ (l : Linkage). l.up) (sym known) ∙ (acted.parted.down refl).1)
  where
    by : (link : Option Link) → option_map pdus link ≡ None → CameOn A link now
    by None is = tt
    by (Some link) is = cc

pub rests_have_talks : RestsHaveTalks
rests_have_talks scenario content happenings world happened rests =
    let both = both_rested scenario content happenings world happened rests in
    record {
      a = came_on (client_profile scenario.settings) sides.A (all_entries happenings) world.a.upper both.a.linked both.a.talk both.a.acted both.a.links;
      b = came_on (server_profile scenario.settings content) sides.B (all_entries happenings) world.b.upper both.b.linked both.b.talk both.b.acted both.b.links;
    }
