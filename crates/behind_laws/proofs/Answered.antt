-- On input that is orderly by its own units the inbox of a server gains what these spell, channel after channel.
use Rattle.std.proofs.Common.{◌≡◌, true, false, refl, List, [], ◌∷◌, ◌++◌, map, sym, ap, subst, ◌∙◌}
use Rattle.std.specs.List.{AllByRecursion}
use Rattle.request_laws.specs.bt_base.specs.declared.settings.Settings.{Settings}
use Rattle.request_laws.specs.push_terms.specs.declared.word.Side.TheVariants as sides
use Rattle.request_laws.specs.capture.specs.Links.{links}
use Rattle.request_laws.specs.capture.specs.Pdus.{pdus}
use Rattle.request_laws.specs.channel_model.specs.Policies.{policy}
use Rattle.request_laws.specs.channel_model.specs.Value.{Channels, no_channels}
use Rattle.request_laws.specs.channel_laws.specs.Frames.{AreUttered}
use Rattle.request_laws.specs.channel_laws.specs.Runs.{Occurrence, run_of}
use Rattle.request_laws.specs.push_laws.specs.Premises.{AllGranted}
use Rattle.request_laws.specs.host_laws.specs.Lives.{Span}
use Rattle.request_laws.specs.host_laws.specs.OverLinks.{AreTimely, parts}
use Rattle.request_laws.specs.host_laws.specs.Seen.{IsCalm}
use Rattle.request_laws.specs.host_laws.specs.Serving.{served_from}
use Rattle.request_laws.specs.pair_laws.proofs.Pairing.{all_utter}
use Rattle.request_laws.proofs.Lending.{serve_all}
use Rattle.request_laws.proofs.Together.{all_granted}
use Rattle.unit_laws.specs.scenario_laws.specs.Gains.{holding, serving}
use Rattle.unit_laws.specs.scenario_laws.specs.Parties.{party_of}
use Rattle.unit_laws.specs.Units.{units, lone_capture}
use Rattle.orderly_laws.specs.Answered.{AreAnswered}
use Rattle.orderly_laws.proofs.Falling.{SaidOn, on_links, said_of, parted}
use Rattle.orderly_laws.proofs.Gaining.{on_each}
use Rattle.behind_laws.specs.Orderly.{ServersGainOrderlyInTurn}
use Rattle.behind_laws.proofs.Counting.{none-ignored}
use Rattle.behind_laws.proofs.Gaining.{Of, behind-of, all-give, lived, links-of, direct-of, gains-handed}
use Rattle.behind_laws.proofs.Linking.{AllHandUp, all-proceed}
use Rattle.behind_laws.proofs.Weaving.{ReadsLink}

-- its links, as they are read
all_read : (settings : Settings) (lists : List (List Occurrence)) → AllByRecursion (Of settings) lists → AllByRecursion (AreUttered (policy settings true)) lists → AllByRecursion (SaidOn (AreAnswered settings (party_of settings sides.B)) settings) lists
    → AllByRecursion (λ (list : List Occurrence). (run_of (policy settings true) list).value.events ≡ []) lists → AllByRecursion (ReadsLink settings) lists
all_read settings [] all utter said told = tt
all_read settings (list ∷ lists) all utter said told =
    let one = said.0 in (
      record { talk = one.talk; outs = one.outs; said_is = one.said_is; go_out = one.go_out; uttered = utter.0; answered = one.holds; behind = behind-of settings list all.0; told = told.0 },
      all_read settings lists all.1 utter.1 said.1 told.1,
    )

all_calm : (settings : Settings) (lists : List (List Occurrence)) → AllByRecursion (Of settings) lists → AllByRecursion (AreUttered (policy settings true)) lists
all_calm settings lists all = all_utter (policy settings true) lists (each lists all)
  where
    each : (ls : List (List Occurrence)) → AllByRecursion (Of settings) ls → AllByRecursion (IsCalm (policy settings true) no_channels) ls
    each [] so = tt
    each (list ∷ ls) so = let one = so.0 in (one.calm, each ls so.1)

pub servers_gain_orderly_in_turn : ServersGainOrderlyInTurn
servers_gain_orderly_in_turn settings before occasions now did granted orderly =
    let content = holding before in
    let A = serving settings before in
    let life = lived settings before occasions now did granted.granted (let asked = orderly.asked in asked.commands) in
    let lives = life.lives in
    let said = life.came.talk in
    let fed = lives.fed in
    let so = fed.so in
    let spans = so.lives.spans in
    let list = so.lives.now in
    let lists = map (λ (span : Span). span.list) spans ++ list ∷ [] in
    let here = links sides.B (lone_capture sides.B (units occasions)) in
    let all = links-of settings before occasions now.upper life granted.untimed orderly.asked in
    let last_told : (run_of (policy settings true) list).value.events ≡ [] = ap (λ (v : Channels). v.events) (sym so.lives.channels_run) ∙ so.lives.all_told in
    let told = on_each (λ (l : List Occurrence). (run_of (policy settings true) l).value.events ≡ []) spans list so.lives.spans_told last_told in
    let Q = AreAnswered settings (party_of settings sides.B) in
    let answered = said_of Q tt settings lists (parts said) (map pdus here) so.talks_are life.came.fall (on_links Q here orderly.answered) (all-give settings lists all) in
    let reads = parted (ReadsLink settings) spans list (all_read settings lists all (all_calm settings lists all) answered told) in
    let timely = subst (AreTimely false) (sym so.lives.marks_are) so.timely in
    let proceeds = all-proceed settings content spans list so.lives.feeds A.first now.upper.profile fed.fed refl timely reads.before reads.last 0 in
    let direct = direct-of settings before occasions now.upper life all in
    let heard = none-ignored settings before (AllHandUp settings spans list) (served_from settings content A.first so.lives.feeds) (serve_all AllGranted settings content so.lives.feeds A.first (all_granted so.lives.feeds lives.given) direct) proceeds in
    gains-handed settings before occasions now.upper life all heard.0 heard.1
